use Rattle.std.proofs.Common.{ap, sym, ◌∙◌}
use Rattle.zk_frag.specs.Group.{covered_to}
use Rattle.zk_frag.proofs.GroupLemmas.{covered_by_front}
use Rattle.zk_frag.proofs.assembly.Assembly.is_whole.Goals as goal

pub returns-in-Some : goal.returns-in-Some
returns-in-Some c = λ byte_at end holds.
    sym (ap (covered_to byte_at) (holds.end_is ∙ c.in-Some.is) ∙ covered_by_front c.args.self.now byte_at end holds c.in-Some.end)
