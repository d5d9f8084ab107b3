-- Two passes over a list as one.
use Rattle.std.proofs.Common.{◌≡◌, List, [], ◌∷◌, ◌++◌, flat_map, refl, ap, ◌∙◌}
use Rattle.std.proofs.lemmas.Grind.{flat_map-append}

pub one_pass : {A B C : Type 0} (f : A → List B) (g : B → List C) (items : List A) → flat_map g (flat_map f items) ≡ flat_map (λ one. flat_map g (f one)) items
one_pass f g [] = refl
one_pass f g (one ∷ others) = flat_map-append g (f one) (flat_map f others) ∙ ap (λ x. flat_map g (f one) ++ x) (one_pass f g others)
