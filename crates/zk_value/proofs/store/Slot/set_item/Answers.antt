use Rattle.std.proofs.Common.{refl}
use Rattle.std.proofs.lemmas.List.{map-set}
use Rattle.zk_value.specs.Plain.{value_of}
use Rattle.zk_value.proofs.store.Slot.set_item.Goals as goal

pub returns-then-index-len-clause-object : goal.returns-then-index-len-clause-object
returns-then-index-len-clause-object c = rw (c.in-Vector.is, map-set value_of) refl
