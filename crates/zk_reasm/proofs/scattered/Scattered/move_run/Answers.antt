use Rattle.std.proofs.Common.{◌≡◌, ◌<◌, ◌≤◌, ◌++◌, None, IsSome, sym, ap, ◌∙◌, ⊎_elim, arith, append-nil, append_assoc}
use Rattle.std.specs.Option.{is_some}
use Rattle.std.specs.VecDeque.{deque_len}
use Rattle.std.proofs.lemmas.Bool.{cases_lt}
use Rattle.zk_reasm.specs.Scattered.{byte_scattered}
use Rattle.zk_reasm.specs.Between.{bytes_between}
use Rattle.zk_reasm.specs.Pages.{byte_paged}
use Rattle.zk_reasm.specs.Stretch.{byte_in_stretch}
use Rattle.zk_base.specs.ByteQueue.{bytes_of}
use Rattle.zk_reasm.proofs.ScatteredLemmas.{held_scattered, byte_scattered-page, byte_scattered-stretch, once_behind}
use Rattle.zk_reasm.proofs.PieceLemmas.{byte_in-within}
use Rattle.zk_reasm.proofs.RangeLemmas.{held_between-split, held_between-full, held_between-same, bytes_between-none, bytes_between-split, bytes_between-same}
use Rattle.zk_reasm.proofs.scattered.Scattered.move_run.Goals as goal

pub returns-then-from-to-clause-run : goal.returns-then-from-to-clause-run
returns-then-from-to-clause-run c =
    sym (ap (λ xs. bytes_of c.args.run.now ++ xs) (bytes_between-none (byte_scattered c.args.self.now) c.args.from c.args.from (omega arith)) ∙ append-nil (bytes_of c.args.run.now))

pub move_run-place-requires-clause-room : goal.move_run-place-requires-clause-room
move_run-place-requires-clause-room c =
    let all = held_scattered c.args.self.now c.args.from c.args.to in
    omega (arith, all, c.requires.room)

pub move_run-end-requires-clause-room : goal.move_run-end-requires-clause-room
move_run-end-requires-clause-room c =
    let old = c.args.self.now in
    let place = c.move_run-place.result in
    let all = held_scattered old c.args.from c.args.to in
    let pages = held_between-split (byte_paged old.pages) c.args.from place c.args.to c.move_run-place.ensures.order c.move_run-place.ensures.within in
    let passed = held_between-full (byte_paged old.pages) c.args.from place c.move_run-place.ensures.order c.move_run-place.ensures.had in
    let stretch = held_between-split (byte_in_stretch old.last) c.args.from place c.args.to c.move_run-place.ensures.order c.move_run-place.ensures.within in
    omega (arith, all, pages, passed, stretch, c.requires.room, c.move_run-place.ensures.room)

pub invariant_of-self : goal.invariant_of-self
invariant_of-self c = record {
  once = once_behind c.args.self.now c.move_run-place.new.self c.move_run-end.new.self c.move_run-end.result c.move_run-end.ensures.left c.move_run-end.ensures.behind
      (λ at low. c.move_run-place.ensures.behind at (omega (arith, low, c.move_run-end.ensures.order)));
}

pub returns-then-end-place-clause-run : goal.returns-then-end-place-clause-run
returns-then-end-place-clause-run c =
    let old = c.args.self.now in
    let place = c.move_run-place.result in
    c.move_run-end.ensures.run
    ∙ ap (λ xs. bytes_of c.move_run-place.new.run ++ xs) (bytes_between-none (byte_in_stretch old.last) place c.move_run-end.result (omega arith))
    ∙ append-nil (bytes_of c.move_run-place.new.run)
    ∙ c.move_run-place.ensures.run
    ∙ ap (λ xs. bytes_of c.args.run.now ++ xs) (bytes_between-same (byte_paged old.pages) (byte_scattered old) c.args.from place c.move_run-place.ensures.order
    (λ at low high. byte_scattered-page old at (c.move_run-place.ensures.had at low high)))

pub move_run-requires-clause-room : goal.move_run-requires-clause-room
move_run-requires-clause-room c =
    let old = c.args.self.now in
    let place = c.move_run-place.result in
    let end = c.move_run-end.result in
    let all = held_scattered old c.args.from c.args.to in
    let pages = held_between-split (byte_paged old.pages) c.args.from place c.args.to c.move_run-place.ensures.order c.move_run-place.ensures.within in
    let passed = held_between-full (byte_paged old.pages) c.args.from place c.move_run-place.ensures.order c.move_run-place.ensures.had in
    let rest = held_between-split (byte_paged old.pages) place end c.args.to c.move_run-end.ensures.order c.move_run-end.ensures.within in
    let stretch = held_between-split (byte_in_stretch old.last) c.args.from place c.args.to c.move_run-place.ensures.order c.move_run-place.ensures.within in
    let moved = held_between-split (byte_in_stretch old.last) place end c.args.to c.move_run-end.ensures.order c.move_run-end.ensures.within in
    let full = held_between-full (byte_in_stretch old.last) place end c.move_run-end.ensures.order c.move_run-end.ensures.had in
    let same = held_between-same (byte_paged c.move_run-place.new.self) (byte_paged old.pages) end c.args.to
    (λ at low high. ap is_some (c.move_run-place.ensures.behind at (omega (arith, low, c.move_run-end.ensures.order)))) in
    omega (arith, all, pages, passed, rest, stretch, moved, full, same, c.requires.room, c.move_run-place.ensures.room, c.move_run-end.ensures.room)

-- what is left of the stretch lies behind all that was moved
left : (c : goal.After-move_run) → 0 < deque_len c.move_run-end.new.self.bytes → c.move_run.result ≤ c.move_run-end.new.self.at
left c some =
    let last = c.move_run-end.new.self in
    let behind = c.move_run-end.ensures.left some in
    ⊎_elim
    (λ early.
    let none : byte_in_stretch last last.at ≡ None =
    c.move_run-end.ensures.behind last.at behind ∙ c.move_run-end.ensures.stop (omega (arith, c.move_run-end.ensures.order)) early last.at behind in
    let there : IsSome (byte_in_stretch last last.at) = byte_in-within last.at last.bytes.items last.at (omega arith) (omega (arith, some, last.bytes.ok.0)) in
    let no = sym there ∙ ap is_some none in cc)
    (λ full. omega (arith, behind, full, c.move_run.ensures.within))
    (cases_lt c.move_run-end.result c.args.to)

pub invariant_of-self-2 : goal.invariant_of-self-2
invariant_of-self-2 c = record {
  once = once_behind c.args.self.now c.move_run.new.self c.move_run-end.new.self c.move_run.result (left c)
      (λ at low. c.move_run-end.ensures.behind at (omega (arith, low, c.move_run.ensures.order)))
      (λ at low. c.move_run.ensures.behind at low
      ∙ c.move_run-place.ensures.behind at (omega (arith, low, c.move_run.ensures.order, c.move_run-end.ensures.order)));
}

pub returns-clause-run : goal.returns-clause-run
returns-clause-run c =
    let old = c.args.self.now in
    let mid = c.move_run-place.new.self in
    let from = c.args.from in
    let place = c.move_run-place.result in
    let end = c.move_run-end.result in
    let to = c.move_run.result in
    let all = byte_scattered old in
    let start = bytes_of c.args.run.now in
    let first : bytes_between (byte_paged old.pages) from place ≡ bytes_between all from place =
    bytes_between-same (byte_paged old.pages) all from place c.move_run-place.ensures.order (λ at low high. byte_scattered-page old at (c.move_run-place.ensures.had at low high)) in
    let second : bytes_between (byte_in_stretch old.last) place end ≡ bytes_between all place end =
    bytes_between-same (byte_in_stretch old.last) all place end c.move_run-end.ensures.order (λ at low high. byte_scattered-stretch old at (c.move_run-end.ensures.had at low high)) in
    let third : bytes_between (byte_paged mid) end to ≡ bytes_between all end to =
    bytes_between-same (byte_paged mid) all end to c.move_run.ensures.order
    (λ at low high. let same = c.move_run-place.ensures.behind at (omega (arith, low, c.move_run-end.ensures.order)) in
    same ∙ byte_scattered-page old at (sym (ap is_some same) ∙ c.move_run.ensures.had at low high)) in
    c.move_run.ensures.run
    ∙ ap (λ xs. xs ++ bytes_between (byte_paged mid) end to) (c.move_run-end.ensures.run ∙ ap (λ xs. xs ++ bytes_between (byte_in_stretch old.last) place end) c.move_run-place.ensures.run)
    ∙ ap (λ xs. ((start ++ xs) ++ bytes_between (byte_in_stretch old.last) place end) ++ bytes_between (byte_paged mid) end to) first
    ∙ ap (λ xs. ((start ++ bytes_between all from place) ++ xs) ++ bytes_between (byte_paged mid) end to) second
    ∙ ap (λ xs. ((start ++ bytes_between all from place) ++ bytes_between all place end) ++ xs) third
    ∙ ap (λ xs. xs ++ bytes_between all end to) (append_assoc start (bytes_between all from place) (bytes_between all place end)
    ∙ ap (λ xs. start ++ xs) (sym (bytes_between-split all from place end c.move_run-place.ensures.order c.move_run-end.ensures.order)))
    ∙ append_assoc start (bytes_between all from end) (bytes_between all end to)
    ∙ ap (λ xs. start ++ xs) (sym (bytes_between-split all from end to (omega (arith, c.move_run-place.ensures.order, c.move_run-end.ensures.order)) c.move_run.ensures.order))
