use Rattle.std.proofs.Common.{◌+◌, length, sym, ap, ◌∙◌, arith}
use Rattle.std.specs.Option.{option_or}
use Rattle.zk_reasm.specs.Apart.{byte_apart}
use Rattle.zk_reasm.specs.Held.{byte_kept}
use Rattle.zk_reasm.specs.Parts.{byte_held}
use Rattle.zk_reasm.specs.Piece.{byte_in}
use Rattle.zk_reasm.proofs.HeldLemmas.{sound_appended, kept-le, above-le, byte_held-appended, held_between-behind}
use Rattle.zk_reasm.proofs.RangeLemmas.{held_between-empty}
use Rattle.zk_reasm.proofs.held.Held.append.Goals as goal

pub overflow_add-self : goal.overflow_add-self
overflow_add-self c = omega (arith, kept-le c.args.self.now)

pub overflow_add-self-2 : goal.overflow_add-self-2
overflow_add-self-2 c = omega (arith, above-le c.args.self.now)

pub invariant_of-self : goal.invariant_of-self
invariant_of-self c =
    let s = sound_appended c.args.self.now c.append.new.self c.end-self.result c.args.piece.now.bytes.now c.append.ensures.bytes (omega arith) (omega arith) (omega arith) c.requires.nothing in
    record { start = s.start; end = s.«end»; front_within = s.front_within; kept_counts = s.kept_counts; above_counts = s.above_counts; room = s.room }

pub returns-clause-bytes : goal.returns-clause-bytes
unfolding byte_kept
returns-clause-bytes c = λ at.
    let held = c.args.self.now in
    byte_held-appended held.run c.append.new.self held.run_end c.end-self.result held.apart c.args.piece.now.bytes.now held.start c.append.ensures.bytes (omega arith) c.requires.nothing at
    ∙ ap (λ n. option_or (byte_held held.run held.run_end held.apart at) (byte_in n c.args.piece.now.bytes.now at)) (sym c.requires.at)

pub returns-clause-count : goal.returns-clause-count
returns-clause-count c =
    let held = c.args.self.now in
    let at = c.args.piece.now.at in
    let n = length c.args.piece.now.bytes.now in
    let same = held_between-behind held at n (omega arith) in
    let none = held_between-empty (byte_apart held.apart) at (at + n) (λ i low high. c.requires.nothing i) in
    omega (arith, same, none)
