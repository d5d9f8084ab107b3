-- What is left of a sum is what the remainder by 2^16 - 1 tells.
use Rattle.std.proofs.Common.{◌≡◌, ◌+◌, ◌-◌, ◌<◌, ◌%◌, arith, sym, ap, ◌∙◌}
use Rattle.zk_base.specs.Checksum.{folded}
use Rattle.zk_gen.proofs.ChecksumLaws.{folded-zero, folded-some}
use Rattle.zk_gen.proofs.headers.checksum_of.Goals as goal

pub returns-then-total-eq0 : goal.returns-then-total-eq0
returns-then-total-eq0 c = sym (ap (λ n. 0xffff - n) (ap folded c.if-total-eq0.true ∙ folded-zero))

pub returns : goal.returns
returns c =
    let above : 0 < c.args.total = omega arith in
    let less : 0xfffe - (c.args.total - 1) % 0xffff ≡ 0xffff - ((c.args.total - 1) % 0xffff + 1) = omega arith in
    less ∙ sym (ap (λ n. 0xffff - n) (folded-some c.args.total above))
