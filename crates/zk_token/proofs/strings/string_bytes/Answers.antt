use Rattle.std.proofs.Common.{◌+◌, arith}
use Rattle.zk_token.specs.Items.{found_at}
use Rattle.zk_token.specs.Strings.{spelled_at}
use Rattle.zk_token.proofs.ItemLaws.{stand_more, found_at-some}
use Rattle.zk_token.proofs.strings.string_bytes.Goals as goal

pub loop-byte-preserved : goal.loop-byte-preserved
loop-byte-preserved c =
    let text = c.args.text.now in
    let place = c.loop-byte.place in
    let here = found_at-some spelled_at text place c.in-Some.byte c.in-Some.len c.in-Some.ensures.exact in (
      omega (arith, c.in-Some.ensures.within, c.loop-byte.invariant.0),
      omega (arith, c.in_ok-push.ensures.len, c.in-Some.ensures.some, c.loop-byte.invariant.1),
      rw c.in_ok-push.ensures.items (stand_more (found_at spelled_at text) 0 c.loop-byte.bytes.items place c.in-Some.byte (place + c.in-Some.len) c.loop-byte.invariant.2 here),
    )
