use Rattle.std.proofs.Common.{Some}
use Rattle.std.proofs.lemmas.List.{map-set}
use Rattle.zk_value.specs.Plain.{field_of}
use Rattle.zk_value.specs.declared.value.Value.TheVariants as value
use Rattle.zk_machine.proofs.state.name_count.Goals as goal

pub returns-then-place-len : goal.returns-then-place-len
returns-then-place-len c = map-set field_of c.args.values.now.items c.args.number (Some (value.Count c.args.count))
