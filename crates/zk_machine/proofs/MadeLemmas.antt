-- What the fields of a record begin with, one after another.
use Rattle.std.proofs.Common.{◌≡◌, ◌+◌, ℕ, List, [], ◌∷◌, ◌++◌, Option, sym, ap, ◌∙◌, append_assoc}
use Rattle.zk_tree.specs.Value.{Value}
use Rattle.zk_typed.specs.Objects.{Given, given_at}
use Rattle.zk_typed.specs.Program.{Field}
use Rattle.zk_typed.specs.State.{World}
use Rattle.zk_machine.specs.Made.{begins, fields_begin, with_first}

-- values behind those that were there before
abbrev pub behind_values : List (Option Value) → List (Option Value) × World → List (Option Value) × World
behind_values before begun = (before ++ begun.0, begun.1)

-- one field more
pub field-more : (given : List Given) (number : ℕ) (field : Field) (fields : List Field) (world after : World) (before : List (Option Value)) (value : Option Value)
    → begins world (given_at number given) field.begins ≡ (value, after)
    → behind_values (before ++ value ∷ []) (fields_begin given (number + 1) fields after) ≡ behind_values before (fields_begin given number (field ∷ fields) world)
field-more given number field fields world after before value is =
    ap (λ (values : List (Option Value)). (values, (fields_begin given (number + 1) fields after).1)) (append_assoc before (value ∷ []) (fields_begin given (number + 1) fields after).0)
    ∙ ap (λ first. behind_values before (with_first first (fields_begin given (number + 1) fields))) (sym is)
