use Rattle.std.proofs.Common.{length, refl, ap, arith}
use Rattle.zk_ascii.proofs.TextLemmas.{length-escaped}
use Rattle.zk_ascii.proofs.cells.push_escaped.Goals as goal

pub unreachable-requires : goal.unreachable-requires
unreachable-requires c =
    omega (arith, length-escaped c.args.in_set c.args.string.now, c.in_default-escape_into.ensures.short.0 refl, ap length c.deref_mut.ensures.value, c.in_ok-text.ensures.len, c.in-Some.ensures)
