use Rattle.std.proofs.Common.{arith}
use Rattle.zk_text.proofs.Seconds.{kept_before, length-seconds, length-whole}
use Rattle.zk_text.proofs.times.write_seconds.Goals as goal

pub write_digits-requires : goal.write_digits-requires
write_digits-requires c =
    let whole = length-whole c.args.size c.requires.range in
    (omega (arith, whole), omega arith)

pub returns-clause-start : goal.returns-clause-start
returns-clause-start c = let all = length-seconds c.args.size in omega (arith, all)

pub returns-clause-short : goal.returns-clause-short
returns-clause-short c =
    let whole = length-whole c.args.size c.requires.range in
    let all = length-seconds c.args.size in
    omega (arith, whole, all)

pub returns-clause-before : goal.returns-clause-before
returns-clause-before c =
    kept_before c.write_digits.result c.write_rest-point.result c.write_digits.new.buf c.write_rest-point.new.buf c.args.buf.now (omega arith)
    c.write_digits.ensures.before c.write_rest-point.ensures.before
