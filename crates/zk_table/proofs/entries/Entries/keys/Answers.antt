use Rattle.std.proofs.Common.{◌≡◌, ◌++◌, ◌∷◌, [], ◌+◌, ◌<◌, ℕ, List, map, take, get_or, length, Option, Some, None, refl, sym, ap, ◌∙◌, arith, append-nil}
use Rattle.std.specs.List.{cons_option}
use Rattle.std.specs.Option.{option_map}
use Rattle.std.proofs.lemmas.List.{map-append, take_more}
use Rattle.zk_tree.specs.Table.{Entry}
use Rattle.zk_tree.specs.Value as plain
use Rattle.zk_value.specs.Plain.{key_of}
use Rattle.zk_value.specs.declared.value.Value.{Value}
use Rattle.zk_table.specs.declared.slot.Slot.{Slot}
use Rattle.zk_table.specs.declared.slot.Stored.{Stored}
use Rattle.zk_table.specs.Slots.{entries_in, entry_in, entry_of}
use Rattle.zk_table.proofs.EntryLemmas.{entries-more}
use Rattle.zk_table.proofs.entries.Entries.keys.Goals as goal
use Rattle.zk_table.proofs.entries.Entries.keys.Goals.{in-Some+in_ok-clone+in_ok-push, in_default}

abbrev key_in : Entry → List plain.Value
key_in entry = entry.key

-- the keys up to one slot more
more_keys : (slots : List Slot) (place : ℕ) (slot : Slot) → place < length slots → slot ≡ get_or slots place slot
    → map key_in (entries_in (take (place + 1) slots)) ≡ map key_in (entries_in (take place slots)) ++ map key_in (cons_option (entry_in slot) [])
more_keys slots place slot within is =
    ap (λ xs. map key_in (entries_in xs)) (take_more slots place slot within ∙ ap (λ s. take place slots ++ s ∷ []) (sym is))
    ∙ ap (map key_in) (entries-more (take place slots) slot)
    ∙ map-append key_in (entries_in (take place slots)) (cons_option (entry_in slot) [])

pub loop-slot-init : goal.loop-slot-init
unfolding entries_in
loop-slot-init c = ap (map key_of) (c.reserve.ensures.items ∙ c.new-keys.ensures.items)

pub loop-slot-preserved : goal.loop-slot-preserved
loop-slot-preserved c =
    let slots = c.args.self.now.slots.items in
    let at = c.loop-slot.slot-index in
    let before = map key_in (entries_in (take at slots)) in
    let more = more_keys slots at c.slot-item.result (omega arith) (rw (← c.deref-slot-items.ensures.value) c.slot-item.is) in
    elim c.match-slot.branch [
      | in-Some+in_ok-clone+in_ok-push w ↦
          ap (λ keys. map key_of keys.items) w.keys-is ∙ ap (map key_of) w.in_ok-push.ensures.items
          ∙ map-append key_of c.loop-slot.keys.items (w.in_ok-clone.field-0 ∷ [])
          ∙ ap (λ ks. ks ++ key_of w.in_ok-clone.field-0 ∷ []) c.loop-slot.invariant
          ∙ ap (λ k. before ++ key_of k ∷ []) w.in_ok-clone.ensures.cases
          ∙ ap (λ o. before ++ map key_in (cons_option (option_map (entry_of c.slot-item.result.order) o) [])) (sym w.in-Some.is)
          ∙ sym more
      | in_default w ↦
          ap (λ keys. map key_of keys.items) w.keys-is ∙ c.loop-slot.invariant
          ∙ sym (append-nil before)
          ∙ ap (λ o. before ++ map key_in (cons_option (option_map (entry_of c.slot-item.result.order) o) [])) (sym w.in_default.is)
          ∙ sym more
    ]
