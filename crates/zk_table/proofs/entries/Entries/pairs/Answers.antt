use Rattle.std.proofs.Common.{◌≡◌, ◌++◌, ◌∷◌, [], ◌+◌, ◌<◌, ℕ, List, map, take, get_or, length, Option, Some, None, refl, sym, ap, ◌∙◌, arith, append-nil}
use Rattle.std.specs.List.{cons_option}
use Rattle.std.specs.Option.{option_map}
use Rattle.std.proofs.lemmas.List.{map-append, take_more}
use Rattle.zk_tree.specs.Table.{Entry}
use Rattle.zk_table.specs.Pairs.{pair_of, pair_in}
use Rattle.zk_table.specs.declared.slot.Slot.{Slot}
use Rattle.zk_table.specs.declared.slot.Stored.{Stored}
use Rattle.zk_table.specs.Slots.{entries_in, entry_in, entry_of}
use Rattle.zk_table.proofs.EntryLemmas.{entries-more}
use Rattle.zk_table.proofs.entries.Entries.pairs.Goals as goal
use Rattle.zk_table.proofs.entries.Entries.pairs.Goals.{in-Some+in_ok-pair+in_ok-push, in_default}

-- the pairs up to one slot more
more_pairs : (slots : List Slot) (place : ℕ) (slot : Slot) → place < length slots → slot ≡ get_or slots place slot
    → map pair_in (entries_in (take (place + 1) slots)) ≡ map pair_in (entries_in (take place slots)) ++ map pair_in (cons_option (entry_in slot) [])
more_pairs slots place slot within is =
    ap (λ xs. map pair_in (entries_in xs)) (take_more slots place slot within ∙ ap (λ s. take place slots ++ s ∷ []) (sym is))
    ∙ ap (map pair_in) (entries-more (take place slots) slot)
    ∙ map-append pair_in (entries_in (take place slots)) (cons_option (entry_in slot) [])

pub loop-slot-init : goal.loop-slot-init
unfolding entries_in
loop-slot-init c = ap (map pair_of) (c.reserve.ensures.items ∙ c.new-pairs.ensures.items)

pub loop-slot-preserved : goal.loop-slot-preserved
loop-slot-preserved c =
    let slots = c.args.self.now.slots.items in
    let at = c.loop-slot.slot-index in
    let before = map pair_in (entries_in (take at slots)) in
    let more = more_pairs slots at c.slot-item.result (omega arith) (rw (← c.deref-slot-items.ensures.value) c.slot-item.is) in
    elim c.match-slot.branch [
      | in-Some+in_ok-pair+in_ok-push w ↦
          ap (λ pairs. map pair_of pairs.items) w.pairs-is ∙ ap (map pair_of) w.in_ok-push.ensures.items
          ∙ map-append pair_of c.loop-slot.pairs.items (w.in_ok-pair.field-0 ∷ [])
          ∙ ap (λ ks. ks ++ pair_of w.in_ok-pair.field-0 ∷ []) c.loop-slot.invariant
          ∙ ap (λ k. before ++ pair_of k ∷ []) w.in_ok-pair.ensures
          ∙ ap (λ o. before ++ map pair_in (cons_option (option_map (entry_of c.slot-item.result.order) o) [])) (sym w.in-Some.is)
          ∙ sym more
      | in_default w ↦
          ap (λ pairs. map pair_of pairs.items) w.pairs-is ∙ c.loop-slot.invariant
          ∙ sym (append-nil before)
          ∙ ap (λ o. before ++ map pair_in (cons_option (option_map (entry_of c.slot-item.result.order) o) [])) (sym w.in_default.is)
          ∙ sym more
    ]
