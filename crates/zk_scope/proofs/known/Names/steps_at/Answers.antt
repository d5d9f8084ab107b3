use Rattle.std.proofs.Common.{◌∙◌}
use Rattle.zk_scope.specs.Scripted.{scripts_in}
use Rattle.zk_scope.proofs.known.Names.steps_at.Goals as goal

pub returns : goal.returns
unfolding scripts_in
returns c = c.steps_at.ensures ∙ c.args.self.now.led.0 c.args.place
