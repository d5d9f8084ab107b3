-- How a body comes out, as the machine holds it.
use Rattle.zk_typed.specs.Meaning as meaning
use Rattle.zk_value.specs.Plain.{field_of}
use Rattle.zk_machine.specs.declared.frames.Flow as flows
use Rattle.zk_machine.specs.declared.frames.Flow.TheVariants as flow

abbrev pub flow_of : flows.Flow → meaning.Flow
flow_of flow.Normal = meaning.Normal
flow_of flow.Broke = meaning.Broke
flow_of (flow.Returned given) = meaning.Returned (field_of given)
