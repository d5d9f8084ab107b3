use Rattle.std.proofs.Common.{◌≡◌, ◌+◌, ◌-◌, pos, ◌≤ℤ◌, ◌<ℤ◌, unsigned_abs, arith}
use Rattle.std.proofs.lemmas.Int.{ints, to_z-of_z}
use Rattle.std.proofs.lemmas.List.{drop-set}
use Rattle.zk_text.proofs.Seconds.{span_decimal_plain, span_decimal_minus}
use Rattle.zk_text.proofs.times.write_span.Goals as goal

pub returns-then-n-ge0-clause-start : goal.returns-then-n-ge0-clause-start
returns-then-n-ge0-clause-start c =
    let positive : pos 0 ≤ℤ c.args.n = grind (arith, ints) in
    let size : c.unsigned_abs.result ≡ unsigned_abs c.args.n = grind (arith, to_z-of_z) in
    let text = span_decimal_plain c.args.n positive in
    rw (text, ← size) c.write_seconds-start.ensures.start

pub returns-then-n-ge0-clause-written : goal.returns-then-n-ge0-clause-written
returns-then-n-ge0-clause-written c =
    let positive : pos 0 ≤ℤ c.args.n = grind (arith, ints) in
    let size : c.unsigned_abs.result ≡ unsigned_abs c.args.n = grind (arith, to_z-of_z) in
    let text = span_decimal_plain c.args.n positive in
    rw (text, ← size) c.write_seconds-start.ensures.written

pub returns-then-n-ge0-clause-bound : goal.returns-then-n-ge0-clause-bound
returns-then-n-ge0-clause-bound c =
    let positive : pos 0 ≤ℤ c.args.n = grind (arith, ints) in
    let size : c.unsigned_abs.result ≡ unsigned_abs c.args.n = grind (arith, to_z-of_z) in
    let text = span_decimal_plain c.args.n positive in
    let short = c.write_seconds-start.ensures.short in
    rw (text, ← size) (omega (arith, short))

pub returns-clause-start : goal.returns-clause-start
returns-clause-start c =
    let negative : c.args.n <ℤ pos 0 = grind (arith, ints) in
    let size : c.unsigned_abs.result ≡ unsigned_abs c.args.n = grind (arith, to_z-of_z) in
    let text = span_decimal_minus c.args.n negative in
    let short = c.write_seconds-start.ensures.short in
    rw (text, ← size) (omega (arith, short))

pub returns-clause-written : goal.returns-clause-written
returns-clause-written c =
    let w = c.write_seconds-start in
    let negative : c.args.n <ℤ pos 0 = grind (arith, ints) in
    let size : c.unsigned_abs.result ≡ unsigned_abs c.args.n = grind (arith, to_z-of_z) in
    let text = span_decimal_minus c.args.n negative in
    let short = w.ensures.short in
    let next : w.result - 1 + 1 ≡ w.result = omega (arith, short) in
    rw (text, ← size, drop-set w.new.buf (w.result - 1) 45 (omega (arith, short)), next, w.ensures.written)

pub returns-clause-bound : goal.returns-clause-bound
returns-clause-bound c =
    let negative : c.args.n <ℤ pos 0 = grind (arith, ints) in
    let size : c.unsigned_abs.result ≡ unsigned_abs c.args.n = grind (arith, to_z-of_z) in
    let text = span_decimal_minus c.args.n negative in
    let short = c.write_seconds-start.ensures.short in
    rw (text, ← size) (omega (arith, short))
