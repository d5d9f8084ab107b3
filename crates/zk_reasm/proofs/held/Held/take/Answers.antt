use Rattle.std.proofs.Common.{ℕ, ◌≤◌, List, length, ap, arith, length-drop}
use Rattle.zk_reasm.specs.Held.{byte_kept, taken_of, lent_of}
use Rattle.zk_base.specs.ByteQueue.{bytes_of}
use Rattle.zk_reasm.proofs.FrontLemmas.{byte_held-taken, sound_taken}
use Rattle.zk_reasm.proofs.held.Held.take.Goals as goal

pub take-requires : goal.take-requires
unfolding lent_of
take-requires c = c.requires.enough

pub overflow_sub-self : goal.overflow_sub-self
unfolding lent_of
overflow_sub-self c =
    let held = c.args.self.now in
    let enough : c.args.n ≤ length (bytes_of held.run) = c.requires.enough in
    (sound_taken held c.take.new.self c.args.n c.take.ensures.bytes c.take.ensures.room enough (omega (arith, enough, held.start, c.requires.order))).0

pub invariant_of-self : goal.invariant_of-self
unfolding lent_of
invariant_of-self c =
    let held = c.args.self.now in
    let enough : c.args.n ≤ length (bytes_of held.run) = c.requires.enough in
    let s = (sound_taken held c.take.new.self c.args.n c.take.ensures.bytes c.take.ensures.room enough (omega (arith, enough, held.start, c.requires.order))).1 in
    record { start = s.start; end = s.«end»; front_within = s.front_within; kept_counts = s.kept_counts; above_counts = s.above_counts; room = s.room }

pub returns-clause-bytes : goal.returns-clause-bytes
unfolding byte_kept taken_of lent_of
returns-clause-bytes c = λ at low.
    let held = c.args.self.now in
    let enough : c.args.n ≤ length (bytes_of held.run) = c.requires.enough in
    let len = ap (λ (xs : List ℕ). length xs) c.take.ensures.bytes in
    byte_held-taken held c.take.new.self c.args.n c.take.ensures.bytes enough at (omega (arith, low, len, length-drop c.args.n (bytes_of held.run), enough, held.start))

pub returns-clause-taken : goal.returns-clause-taken
unfolding taken_of lent_of
returns-clause-taken c =
    let held = c.args.self.now in
    let enough : c.args.n ≤ length (bytes_of held.run) = c.requires.enough in
    let len = ap (λ (xs : List ℕ). length xs) c.take.ensures.bytes in
    omega (arith, len, length-drop c.args.n (bytes_of held.run), enough, held.start)

pub returns-clause-kept : goal.returns-clause-kept
unfolding lent_of
returns-clause-kept c =
    let held = c.args.self.now in
    let enough : c.args.n ≤ length (bytes_of held.run) = c.requires.enough in
    let less = (sound_taken held c.take.new.self c.args.n c.take.ensures.bytes c.take.ensures.room enough (omega (arith, enough, held.start, c.requires.order))).0 in
    omega (arith, less)

pub returns-clause-lent : goal.returns-clause-lent
unfolding lent_of
returns-clause-lent c = c.take.ensures.bytes
