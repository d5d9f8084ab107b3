use Rattle.std.proofs.Common.{◌≡◌, ℕ, ◌+◌, ◌-◌, List, length, take, drop, sym, ap, ◌∙◌, arith, length-take-le, length-drop}
use Rattle.std.specs.Option.{is_some, option_or}
use Rattle.std.proofs.Math.Seq.{take-add}
use Rattle.zk_reasm.specs.Pages.{byte_paged}
use Rattle.zk_reasm.specs.Between.{held_between}
use Rattle.zk_reasm.specs.Piece.{byte_in}
use Rattle.zk_reasm.proofs.PieceLemmas.{option_or_none, option_or_assoc, byte_in-nothing, byte_in-behind, byte_in-append}
use Rattle.zk_reasm.proofs.RangeLemmas.{held_between-split, held_between-none, held_between-same}
use Rattle.zk_reasm.proofs.pages.Pages.fill.Goals as goal

pub loop-done-init : goal.loop-done-init
loop-done-init c = record {
  within = omega arith;
  bytes = λ place. sym (ap (option_or (byte_paged c.args.self.now place)) (byte_in-nothing c.args.at place) ∙ option_or_none (byte_paged c.args.self.now place));
  count = let none = held_between-none (byte_paged c.args.self.now) c.args.at (c.args.at + 0) (omega arith) in omega (arith, none);
  pages = λ place there. there;
}

pub loop-done-preserved : goal.loop-done-preserved
loop-done-preserved c =
    let old = byte_paged c.args.self.now in
    let cur = byte_paged c.loop-done.self in
    let at = c.args.at in
    let bytes = c.args.bytes.now in
    let done = c.loop-done.done in
    let n = c.min-n.result in
    let filled = c.fill_page-count.ensures in
    let part : take (done + n - done) (drop done bytes) ≡ take n (drop done bytes) =
    ap (λ m. take m (drop done bytes)) (let e : done + n - done ≡ n = omega arith in e) in
    let part_length : length (take (done + n - done) (drop done bytes)) ≡ n =
    ap (λ (xs : List ℕ). length xs) part ∙ length-take-le n (drop done bytes) (omega (arith, length-drop done bytes, c.min-n.ensures)) in
    let before : length (take done bytes) ≡ done = length-take-le done bytes (omega arith) in
    let same : held_between cur (at + done) (at + done + n) ≡ held_between old (at + done) (at + done + n) =
    held_between-same cur old (at + done) (at + done + n)
    (λ place low high. ap is_some (c.loop-done.invariant.bytes place
    ∙ ap (option_or (old place)) (byte_in-behind at (take done bytes) place (omega (arith, before, low))) ∙ option_or_none (old place))) in
    let cut = held_between-split old at (at + done) (at + done + n) (omega arith) (omega arith) in
    let counted : c.fill_page-count.result + held_between cur (at + done) (at + done + n) ≡ n =
    ap (λ m. c.fill_page-count.result + held_between cur (at + done) (at + done + m)) (sym part_length) ∙ filled.count ∙ part_length in
    let end : held_between old at (at + (done + n)) ≡ held_between old at (at + done + n) = ap (held_between old at) (let e : at + (done + n) ≡ at + done + n = omega arith in e) in
    record {
      within = omega (arith, c.min-n.ensures);
      bytes = λ place. filled.bytes place
          ∙ ap (λ o. option_or o (byte_in (at + done) (take (done + n - done) (drop done bytes)) place)) (c.loop-done.invariant.bytes place)
          ∙ option_or_assoc (old place) (byte_in at (take done bytes) place) (byte_in (at + done) (take (done + n - done) (drop done bytes)) place)
          ∙ ap (option_or (old place))
          (ap (λ xs. option_or (byte_in at (take done bytes) place) (byte_in (at + done) xs place)) part
          ∙ ap (λ m. option_or (byte_in at (take done bytes) place) (byte_in (at + m) (take n (drop done bytes)) place)) (sym before)
          ∙ sym (byte_in-append at (take done bytes) (take n (drop done bytes)) place)
          ∙ ap (λ xs. byte_in at xs place) (sym (take-add done n bytes)));
      count = omega (arith, same, cut, counted, end, c.loop-done.invariant.count);
      pages = λ place there. filled.pages place (c.loop-done.invariant.pages place there);
    }
