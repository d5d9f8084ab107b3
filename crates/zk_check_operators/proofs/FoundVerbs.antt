-- Verbs that are found one by one.
use Rattle.std.proofs.Common.{◌≡◌, ℕ, List, [], ◌∷◌, ◌++◌, Option, Some, None, refl, ap, sym, append_assoc}
use Rattle.zk_typed.specs.Making.{with_verb}
use Rattle.zk_check_operators.specs.Verbs.{after}

pub after_one : (before : List ℕ) (verb : ℕ) (more : Option (List ℕ)) → after before (with_verb verb more) ≡ after (before ++ verb ∷ []) more
after_one before verb None = refl
after_one before verb (Some others) = ap Some (sym (append_assoc before (verb ∷ []) others))
