use Rattle.std.proofs.Common.{◌≡◌, ◌+◌, ◌-◌, suc, sym, subst, arith}
use Rattle.zk_units.specs.Standing.{BothTurn}
use Rattle.zk_units.specs.Units.{many}
use Rattle.zk_units.proofs.ReaderLemmas.{IsReading, reads_all, reads_one}
use Rattle.zk_units.proofs.readers.Readers.read.Goals as goal

pub returns-in-None : goal.returns-in-None
returns-in-None c = λ protocol streams given stands.
    let reading = c.loop.invariant protocol streams given stands in
    let turn = subst (λ o. BothTurn c.loop.side c.next_of_both.new.self o protocol streams reading.«units») c.in-None.is (c.in_ok-freed.ensures protocol streams reading.«units» reading.stands) in
    let all = reads_all c.args.first c.loop.side c.args.self.now c.loop.self c.next_of_both.new.self c.args.«units».now.items c.loop.«units».items many (many - c.loop.counter) protocol streams given reading turn in
    record { given = all.0; stands = all.1; few = all.2; left = all.3 }

pub loop-preserved : goal.loop-preserved
loop-preserved c = λ protocol streams given stands.
    let one = c.in-Some.freed in
    let left : many - c.loop.counter ≡ suc (many - (c.loop.counter + 1)) = omega (arith, c.loop-test.true) in
    let reading : IsReading c.args.first c.loop.side c.args.self.now c.loop.self c.args.«units».now.items c.loop.«units».items many (suc (many - (c.loop.counter + 1))) protocol streams given =
    subst (λ n. IsReading c.args.first c.loop.side c.args.self.now c.loop.self c.args.«units».now.items c.loop.«units».items many n protocol streams given) left (c.loop.invariant protocol streams given stands) in
    let turn = subst (λ o. BothTurn c.loop.side c.next_of_both.new.self o protocol streams reading.«units») c.in-Some.is (c.in_ok-freed.ensures protocol streams reading.«units» reading.stands) in
    subst (λ l. IsReading c.args.first one.side c.args.self.now c.next_of_both.new.self c.args.«units».now.items l many (many - (c.loop.counter + 1)) protocol streams given)
    (sym c.in_ok-push_back-in-Some.ensures.items)
    (reads_one c.args.first c.loop.side c.args.self.now c.loop.self c.next_of_both.new.self c.args.«units».now.items c.loop.«units».items many (many - (c.loop.counter + 1)) one protocol streams given reading turn)
