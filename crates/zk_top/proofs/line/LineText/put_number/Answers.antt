use Rattle.std.proofs.Common.{ℕ, ◌<◌, ◌≤◌, ◌^◌, length, decimal, arith, ap, length-drop}
use Rattle.std.proofs.lemmas.Fmt.{length-decimal-le}
use Rattle.zk_top.proofs.line.LineText.put_number.Goals as goal

-- a number of 64 bits has twenty digits at most
short : (n : ℕ) → n < 2 ^ 64 → length (decimal n) ≤ 20
short n h = length-decimal-le 20 n (omega arith) (omega arith) h

pub write_digits-self-inside-requires : goal.write_digits-self-inside-requires
write_digits-self-inside-requires c =
    let digits = short c.args.n c.ranges.n.fits in
    let whole = ap length c.self.view_is in
    let rest = length-drop c.self.inside.start c.self.inside.bytes in
    (omega (arith, digits, whole, rest), omega arith)

pub put_tab-requires : goal.put_tab-requires
put_tab-requires c =
    let digits = short c.args.n c.ranges.n.fits in
    let whole = ap length c.self.view_is in
    let rest = length-drop c.self.inside.start c.self.inside.bytes in
    let more = length-drop c.write_digits-self-inside.result c.write_digits-self-inside.new.buf in
    omega (arith, digits, whole, rest, more)

pub returns-clause-len : goal.returns-clause-len
returns-clause-len c =
    let digits = short c.args.n c.ranges.n.fits in
    let whole = ap length c.self.view_is in
    let rest = length-drop c.self.inside.start c.self.inside.bytes in
    let more = length-drop c.write_digits-self-inside.result c.write_digits-self-inside.new.buf in
    let tab = ap length c.put_tab.ensures in
    omega (arith, digits, whole, rest, more, tab)
