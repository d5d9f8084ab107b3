use Rattle.std.proofs.Common.{◌∙◌}
use Rattle.zk_load.proofs.LoadLaws.{name_more}
use Rattle.zk_load.proofs.loading.names_of.Goals as goal

pub loop-script-preserved : goal.loop-script-preserved
loop-script-preserved c = λ name.
    name_more c.args.scripts.now c.loop-script.script-index c.script-item.result name c.in_ok-copy_of.field-0 _ _
    c.loop-script-test.true c.script-item.is (c.in_ok-copy_of.ensures ∙ c.as_slice.ensures) (c.in_ok-insert.ensures.updates.0 name) (c.loop-script.invariant name)
