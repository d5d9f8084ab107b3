use Rattle.std.proofs.Common.{reverse, ap, ◌∙◌, arith}
use Rattle.std.proofs.lemmas.List.{take_all}
use Rattle.zk_load.specs.Loading.{Scripts, is_read}
use Rattle.zk_load.proofs.LoadLaws.{name_waits}
use Rattle.zk_load.proofs.loading.Scripts.new.Goals as goal

pub loop-name-preserved : goal.loop-name-preserved
loop-name-preserved c =
    name_waits c.loop-name.pending.items c.push.new.self.items c.args.names.now c.loop-name.name-index c.name-item.result c.in_ok-copy_of.field-0
    c.loop-name-test.true c.name-item.is (c.in_ok-copy_of.ensures ∙ c.as_slice.ensures) c.in_ok-push.ensures.items c.loop-name.invariant

pub returns : goal.returns
returns c = record {
  reads = c.into_vec.ensures;
  known = λ name. c.in_ok-known.ensures name ∙ ap (λ (scripts : Scripts). is_read scripts name) c.as_slice-2.ensures;
  pending = c.reverse.ensures.items ∙ ap reverse (c.loop-name.invariant ∙ take_all c.loop-name.name-index c.args.names.now (omega arith));
}
