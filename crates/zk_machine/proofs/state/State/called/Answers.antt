use Rattle.std.proofs.Common.{ap}
use Rattle.zk_typed.specs.Primitives.{called}
use Rattle.zk_value.specs.Plain.{value_of, key_of}
use Rattle.zk_machine.specs.State.{state_of}
use Rattle.zk_machine.proofs.ThenLemmas.{comes_as}
use Rattle.zk_machine.proofs.state.State.called.Goals as goal

pub returns-in-SubBytes : goal.returns-in-SubBytes
returns-in-SubBytes c = λ place. comes_as value_of place c.call_sub_bytes.result _ _ _ (ap (λ f. called place f (key_of c.args.values.now) (state_of c.args.self.now)) c.in-SubBytes.is) (c.call_sub_bytes.ensures place)

pub returns-in-Strstr : goal.returns-in-Strstr
returns-in-Strstr c = λ place. comes_as value_of place c.call_strstr.result _ _ _ (ap (λ f. called place f (key_of c.args.values.now) (state_of c.args.self.now)) c.in-Strstr.is) (c.call_strstr.ensures place)

pub returns-in-ToCount : goal.returns-in-ToCount
returns-in-ToCount c = λ place. comes_as value_of place c.call_to_count.result _ _ _ (ap (λ f. called place f (key_of c.args.values.now) (state_of c.args.self.now)) c.in-ToCount.is) (c.call_to_count.ensures place)

pub returns-in-StartsWith : goal.returns-in-StartsWith
returns-in-StartsWith c = λ place. comes_as value_of place c.call_starts_with.result _ _ _ (ap (λ f. called place f (key_of c.args.values.now) (state_of c.args.self.now)) c.in-StartsWith.is) (c.call_starts_with.ensures place)

pub returns-in-JoinStringVec : goal.returns-in-JoinStringVec
returns-in-JoinStringVec c = λ place. comes_as value_of place c.call_join_strings.result _ _ _ (ap (λ f. called place f (key_of c.args.values.now) (state_of c.args.self.now)) c.in-JoinStringVec.is) (c.call_join_strings.ensures place)

pub returns-in-AddrToCounts : goal.returns-in-AddrToCounts
returns-in-AddrToCounts c = λ place. comes_as value_of place c.call_address_counts.result _ _ _ (ap (λ f. called place f (key_of c.args.values.now) (state_of c.args.self.now)) c.in-AddrToCounts.is) (c.call_address_counts.ensures place)
