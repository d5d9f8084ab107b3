use Rattle.std.proofs.Common.{refl}
use Rattle.std.proofs.lemmas.List.{map-set}
use Rattle.zk_value.specs.Plain.{field_of}
use Rattle.zk_value.proofs.store.Slot.set_field.Goals as goal

pub returns-then-field-len-clause-object : goal.returns-then-field-len-clause-object
returns-then-field-len-clause-object c = rw (c.in-Record.is, map-set field_of) refl
