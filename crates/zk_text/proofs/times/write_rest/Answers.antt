use Rattle.std.proofs.Common.{◌≡◌, ◌<◌, ◌++◌, ◌∷◌, drop, length, arith, refl, ◌∙◌}
use Rattle.zk_text.proofs.Seconds.{led_rest, length-led, pointed}
use Rattle.zk_text.specs.Span.{padded_decimal}
use Rattle.zk_text.proofs.times.write_rest.Goals as goal

pub write_digits-point-requires : goal.write_digits-point-requires
write_digits-point-requires c =
    let digits = length-led c.args.rest c.requires.rest in
    (omega (arith, digits), omega arith)

pub bounds-buf-point : goal.bounds-buf-point
bounds-buf-point c = let digits = length-led c.args.rest c.requires.rest in omega (arith, digits)

pub returns-clause-start : goal.returns-clause-start
returns-clause-start c = let digits = length-led c.args.rest c.requires.rest in omega (arith, digits)

pub returns-clause-written : goal.returns-clause-written
returns-clause-written c =
    let w = c.write_digits-point in
    let digits = length-led c.args.rest c.requires.rest in
    let behind = padded_decimal 6 c.args.rest ++ drop c.args.end c.args.buf.now in
    let there : w.result < length w.new.buf = omega (arith, digits) in
    let written : drop w.result w.new.buf ≡ 49 ∷ behind = w.ensures.written ∙ rw (led_rest c.args.rest c.requires.rest) refl in
    pointed w.new.buf behind w.result there written
