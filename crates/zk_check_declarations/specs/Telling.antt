-- What an answer tells without what it holds.
use Rattle.std.specs.Prelude.{Result, Ok, Err}
use Rattle.zk_typed.specs.declared.refusal.Refusal.{Refusal}

abbrev pub dropped : {A : Type 0} → Result A Refusal → Result (Unit {0}) Refusal
dropped (Ok one) = Ok tt
dropped (Err refusal) = Err refusal
