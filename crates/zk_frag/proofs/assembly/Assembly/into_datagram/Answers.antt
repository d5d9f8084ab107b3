use Rattle.std.proofs.Common.{ap, sym, ◌∙◌}
use Rattle.std.proofs.lemmas.Bool.{leb-true, false≢true}
use Rattle.zk_frag.specs.Group.{covered_to}
use Rattle.zk_frag.proofs.GroupLemmas.{covered_by_front, datagram_held}
use Rattle.zk_frag.proofs.assembly.Assembly.into_datagram.Goals as goal
use Rattle.zk_frag.proofs.assembly.Assembly.into_datagram.Goals.{in-Some, in_default}

pub returns : goal.returns
returns c = λ byte_at end holds covered. elim c.match-end.branch [
  | in-Some w ↦
      let n = w.in-Some.end in
      let reached = leb-true n c.args.self.front
      (sym (ap (covered_to byte_at) (holds.end_is ∙ w.in-Some.is) ∙ covered_by_front c.args.self byte_at end holds n) ∙ covered) in
      ap (λ v. v.items) w.bytes-is ∙ w.truncate.ensures.items ∙ datagram_held c.args.self byte_at end holds n w.in-Some.is reached
  | in_default w ↦ absurd (false≢true (sym (ap (covered_to byte_at) (holds.end_is ∙ w.in_default.is)) ∙ covered))
]
