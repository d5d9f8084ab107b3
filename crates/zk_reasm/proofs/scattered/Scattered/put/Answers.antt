use Rattle.std.proofs.Common.{◌+◌, length, sym, ap, ◌∙◌, arith}
use Rattle.std.specs.Option.{option_or}
use Rattle.zk_reasm.specs.Scattered.{byte_scattered}
use Rattle.zk_reasm.specs.Stretch.{byte_in_stretch}
use Rattle.zk_reasm.proofs.ScatteredLemmas.{extended_outside}
use Rattle.zk_reasm.proofs.RangeLemmas.{held_between-none, held_between-empty}
use Rattle.zk_reasm.proofs.scattered.Scattered.put.Goals as goal
use borrow.Author.Tests.{eqb-true}

pub returns-then-is_empty-clause-count : goal.returns-then-is_empty-clause-count
returns-then-is_empty-clause-count c =
    let n = length c.args.piece.now.bytes.now in
    let empty = eqb-true n 0 (sym c.if-is_empty.ensures) in
    let none = held_between-none (byte_scattered c.args.self.now) c.args.piece.now.at (c.args.piece.now.at + n) (omega (arith, empty)) in
    omega (arith, none, empty)

pub returns-then-is_free-clause-count : goal.returns-then-is_free-clause-count
unfolding byte_scattered
returns-then-is_free-clause-count c =
    let old = c.args.self.now in
    let from = c.args.piece.now.at in
    let n = length c.args.piece.now.bytes.now in
    let none = held_between-empty (byte_scattered old) from (from + n)
    (λ at low high. ap (λ o. option_or o (byte_in_stretch old.last at)) (c.is_free.ensures c.if-is_free.true at low (omega (arith, high, c.«end».ensures)))
    ∙ extended_outside old.last from n at (c.is_next.ensures c.if-is_next.true) low high) in
    omega (arith, none)
