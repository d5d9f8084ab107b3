use Rattle.std.proofs.Common.{arith}
use Rattle.zk_dns.proofs.SkipLemmas.{skips-more}
use Rattle.zk_dns.proofs.skips.skip_from.Goals as goal

pub returns : goal.returns
returns c room =
    skips-more c.args.bytes.now c.args.skips.now c.args.place c.target_at-target.result c.skip.result c.requires.skips room
    (omega (arith, c.if-bytes-place-lt-POINTER.false)) (omega (arith, c.if-bytes-place-lt2.false, c.requires.place)) c.target_at-target.ensures
    (omega (arith, c.if-target-lt-TARGET_MIN.false)) (omega (arith, c.if-place-target.false)) c.skip.ensures
