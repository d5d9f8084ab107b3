-- What all scripts declare.
use Rattle.std.proofs.Common.{◌≡◌, List, ◌++◌, flat_map, fold, ap, sym, ◌∙◌}
use Rattle.zk_typed.specs.Declaring.{in_round, predefined_names, scripts_of_stated, with_words}
use Rattle.zk_typed.specs.LoadOrder.{Stated}
use Rattle.zk_typed.specs.Names.{Declared, Node}
use Rattle.zk_typed.specs.Resolving.{Scripts}
use Rattle.zk_names.specs.Words.{known_scripts, with_bodies, with_body}
use Rattle.zk_names.proofs.BodyLaws.{bodies_of}

scripts : List Stated → List Node → List Declared → Scripts
scripts stated nodes names = record { stated = stated; nodes = nodes; names = names }

pub same_scripts : (s t : List Stated) (n m : List Node) (a b : List Declared) → s ≡ t → n ≡ m → a ≡ b →
    (let one : Scripts = record { stated = s; nodes = n; names = a } in one) ≡ (let other : Scripts = record { stated = t; nodes = m; names = b } in other)
unfolding scripts
same_scripts s t n m a b p q r = ap (λ (x : List Stated). scripts x n a) p ∙ ap (λ (x : List Node). scripts t x a) q ∙ ap (λ (x : List Declared). scripts t m x) r

-- the names of all scripts, by those that are known before the words
pub all_known : (order : List Stated) →
    with_bodies order (predefined_names ++ flat_map (with_words (known_scripts order)) order) ≡ (scripts_of_stated order).names
all_known order =
    let names = predefined_names ++ flat_map (with_words (known_scripts order)) order in
    sym (bodies_of 2 order (in_round order (in_round order names 0) 1) ∙
    ap (λ (x : List Declared). fold (with_body 2) x order) (bodies_of 1 order (in_round order names 0)) ∙
    ap (λ (x : List Declared). fold (with_body 2) (fold (with_body 1) x order) order) (bodies_of 0 order names))
