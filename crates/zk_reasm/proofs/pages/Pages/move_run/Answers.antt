use Rattle.std.proofs.Common.{◌++◌, sym, ap, ◌∙◌, ⊎_elim, arith, append_assoc}
use Rattle.std.specs.Option.{is_some}
use Rattle.std.proofs.lemmas.Bool.{cases_lt}
use Rattle.zk_reasm.specs.Pages.{byte_paged}
use Rattle.zk_reasm.specs.Between.{bytes_between}
use Rattle.zk_base.specs.ByteQueue.{bytes_of}
use Rattle.zk_reasm.proofs.RangeLemmas.{held_between-split, held_between-full, held_between-same, bytes_between-split, bytes_between-same}
use Rattle.zk_reasm.proofs.pages.Pages.move_run.Goals as goal

pub move_page-next-requires-in-loop-place-clause-room : goal.move_page-next-requires-in-loop-place-clause-room
move_page-next-requires-in-loop-place-clause-room c =
    let f = byte_paged c.args.self.now in
    let from = c.args.from in
    let next = c.loop-place.next in
    let same = held_between-same (byte_paged c.loop-place.self) f next c.args.to (λ at low high. ap is_some (c.loop-place.invariant.behind at low)) in
    let cut = held_between-split f from next c.args.to (omega (arith, c.loop-place.invariant.least, c.loop-place.invariant.order)) c.loop-place.invariant.within in
    let full = held_between-full f from next (omega (arith, c.loop-place.invariant.least, c.loop-place.invariant.order)) c.loop-place.invariant.had in
    omega (arith, same, cut, full, c.requires.room, c.loop-place.invariant.room)

pub loop-place-preserved : goal.loop-place-preserved
loop-place-preserved c =
    let f = byte_paged c.args.self.now in
    let from = c.args.from in
    let place = c.loop-place.next in
    let inv = c.loop-place.invariant in
    let moved = c.move_page-next-in-loop-place.ensures in
    let next = c.move_page-next-in-loop-place.result in
    record {
      least = omega (arith, inv.least, inv.order);
      order = moved.order;
      within = moved.within;
      run = moved.run ∙ ap (λ xs. xs ++ bytes_between (byte_paged c.loop-place.self) place next) inv.run
          ∙ append_assoc (bytes_of c.args.run.now) (bytes_between f from place) (bytes_between (byte_paged c.loop-place.self) place next)
          ∙ ap (λ xs. bytes_of c.args.run.now ++ xs)
          (ap (λ xs. bytes_between f from place ++ xs) (bytes_between-same (byte_paged c.loop-place.self) f place next moved.order (λ at low high. inv.behind at low))
          ∙ sym (bytes_between-split f from place next (omega (arith, inv.least, inv.order)) moved.order));
      room = omega (arith, inv.room, moved.room, inv.least, inv.order, moved.order);
      had = λ at low high. ⊎_elim
          (inv.had at low)
          (λ behind. ap is_some (sym (inv.behind at behind)) ∙ moved.had at behind high)
          (cases_lt at place);
      behind = λ at low. moved.behind at low ∙ inv.behind at (omega (arith, low, moved.order));
      stop = λ same low. sym (inv.behind place (omega arith)) ∙ moved.stop same low;
    }
