-- The names of keys, one behind another.
use Rattle.std.proofs.Common.{◌≡◌, ℕ, List, [], ◌∷◌, ◌++◌, flat_map, map, ap, sym, ◌∙◌, append-nil, append_assoc}
use Rattle.std.specs.Prelude.{codes}
use Rattle.zk_tree.specs.Lists.{joined_by}
use Rattle.zk_typed.specs.declared.script.types.SimpleType.{SimpleType}
use Rattle.zk_typed.specs.Columns.{simple_name}
use Rattle.zk_scope.specs.Leaves.{further_key}

keys_joined : (first : SimpleType) (others : List SimpleType) →
    joined_by (codes ",") (map simple_name (first ∷ others)) ≡ simple_name first ++ flat_map further_key others
keys_joined first [] = sym (append-nil (simple_name first))
keys_joined first (second ∷ others) =
    ap (λ x. simple_name first ++ (codes "," ++ x)) (keys_joined second others) ∙
    ap (λ x. simple_name first ++ x) (sym (append_assoc (codes ",") (simple_name second) (flat_map further_key others)))

-- the name of the first key, and those of the others behind it
pub all_joined : (keys : List SimpleType) (first : SimpleType) (others : List SimpleType) (old between new : List ℕ) →
    keys ≡ first ∷ others → between ≡ old ++ simple_name first → new ≡ between ++ flat_map further_key others →
    new ≡ old ++ joined_by (codes ",") (map simple_name keys)
all_joined keys first others old between new is p q =
    q ∙ ap (λ x. x ++ flat_map further_key others) p ∙ append_assoc old (simple_name first) (flat_map further_key others) ∙
    ap (λ x. old ++ x) (sym (ap (λ (x : List SimpleType). joined_by (codes ",") (map simple_name x)) is ∙ keys_joined first others))
