use Rattle.std.proofs.Common.{flat_map, ◌∙◌}
use Rattle.zk_scope.specs.Scripted.{scripts_in}
use Rattle.zk_scope.specs.Streams.{stated_created}
use Rattle.zk_scope.proofs.StreamLaws.{told_of_log}
use Rattle.zk_scope.proofs.scripts.Scripts.log_type.Goals as goal

pub returns : goal.returns
returns c =
    let scripts = scripts_in c.args.self.now.names in
    c.in_ok-told.ensures (flat_map (stated_created scripts) scripts.stated) c.args.self.now.told ∙ told_of_log scripts c.args.word.now
