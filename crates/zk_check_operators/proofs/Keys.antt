-- Where one of two lists ends before the other.
use Rattle.std.proofs.Common.{◌≡◌, ℕ, zero, suc, ◌<◌, List, [], ◌∷◌, length, drop, false, refl, arith}
use Rattle.zk_typed.specs.declared.script.types.SimpleType.{SimpleType}
use Rattle.zk_typed.specs.Making.{verbs_take}
use Rattle.zk_typed.specs.Operations.{same_keys}

pub keys_left : (i : ℕ) (keys : List SimpleType) → i < length keys → same_keys (drop i keys) [] ≡ false
keys_left i [] h = absurd (omega arith)
keys_left zero (key ∷ keys) h = refl
keys_left (suc i) (key ∷ keys) h = keys_left i keys (omega arith)

pub verbs_left : (i : ℕ) (verbs : List ℕ) → i < length verbs → verbs_take (drop i verbs) [] ≡ false
verbs_left i [] h = absurd (omega arith)
verbs_left zero (verb ∷ verbs) h = refl
verbs_left (suc i) (verb ∷ verbs) h = verbs_left i verbs (omega arith)
