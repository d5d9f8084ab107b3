-- What comes of an entry that is due.
use Rattle.std.proofs.Common.{◌≡◌, ◌<◌, ℕ, zero, suc, List, [], ◌∷◌, length, arith, Option, Some, None, slice_get, refl, sym, ap, ◌∙◌}
use Rattle.std.specs.Option.{option_map}
use Rattle.std.proofs.lemmas.Option.{none-some, some_pair_parts}
use Rattle.zk_base.specs.declared.numbers.ObjectNo.{ObjectNo}
use Rattle.zk_base.specs.declared.time.Span.{Span}
use Rattle.zk_tree.specs.Store as object
use Rattle.zk_tree.specs.Store.{Object, Store}
use Rattle.zk_tree.specs.Table.{Table, Entry, entry_numbered, renew, expire}
use Rattle.zk_tree.specs.Value as plain
use Rattle.zk_tree.specs.Value.{Value}
use Rattle.zk_lower.specs.Told.{Told, behind}
use Rattle.zk_typed.specs.declared.ends.BodyEnd.TheVariants as ended
use Rattle.zk_typed.specs.Dispatch.{left, expiry_body, world_after}
use Rattle.zk_typed.specs.Does.{Ran}
use Rattle.zk_typed.specs.Program.{Program, Global}
use Rattle.zk_typed.specs.Running.{wait_of, with_table, expire_in}
use Rattle.zk_typed.specs.State.{World, with_store}
use Rattle.zk_table.specs.Heap.{changed, in_table}
use Rattle.zk_table.proofs.HeapLemmas.{changed-there}
use Rattle.zk_machine.specs.Agenda.{end_in, end_of_table, end_for}
use Rattle.zk_machine.specs.Entries.{object_named, table_at, key_in, keyed, entry_in}
use Rattle.zk_machine.proofs.SetLemmas.{changed-alike, changed-twice}
use Rattle.zk_machine.proofs.TableLemmas.{slice_set-same}

changed-absent : (change : Object → Object) (number : ℕ) (store : Store) → slice_get store number ≡ None → changed change number store ≡ store
changed-absent change number [] is = refl
changed-absent change zero (one ∷ store) is = cc
changed-absent change (suc number) (one ∷ store) is = ap (λ others. one ∷ others) (changed-absent change number store is)

-- a table is changed in its place
pub table-changed : (change : Table → Table) (number : ObjectNo) (world : World) → with_table change (plain.Object number) world ≡ with_store (changed (in_table change) number.0 world.store) world
table-changed change number world = by (slice_get world.store number.0) refl
  where
    by : (found : Option Object) → slice_get world.store number.0 ≡ found → with_table change (plain.Object number) world ≡ with_store (changed (in_table change) number.0 world.store) world
    by None is = rw is (ap (λ store. with_store store world) (sym (changed-absent (in_table change) number.0 world.store is)))
    by (Some (object.Table table)) is = rw is (ap (λ store. with_store store world) (sym (changed-there (in_table change) number.0 world.store (object.Table table) is)))
    by (Some (object.Vector items)) is =
        rw is (ap (λ store. with_store store world) (sym (changed-there (in_table change) number.0 world.store (object.Vector items) is ∙ slice_set-same world.store number.0 (object.Vector items) is)))
    by (Some (object.Record of fields)) is =
        rw is (ap (λ store. with_store store world) (sym (changed-there (in_table change) number.0 world.store (object.Record of fields) is ∙ slice_set-same world.store number.0 (object.Record of fields) is)))

module _ (program : Program) (budget order : ℕ) (one : Global) (world : World) where
  -- the function is asked
  abbrev pub asked : ObjectNo → List Value → Ran Span
  asked table key = expiry_body program one (plain.Object table ∷ key) world budget

  -- and then the entry is renewed, and goes or waits
  abbrev pub after : ObjectNo → List Value → World
  after table key = with_table (λ one. expire order (wait_of (asked table key)) (renew world.time key one)) (plain.Object table) (world_after program (asked table key))

  of_entry : (number table : ObjectNo) (key : List Value) (entry : Option Entry) → option_map (keyed number) (option_map (λ entry. entry.key) entry) ≡ Some (table, key)
      → (end_for program budget one (plain.Object number) world entry ≡ (left (asked table key)).end)
  of_entry number table key None is = cc
  of_entry number table key (Some entry) is =
      let parts = some_pair_parts number table entry.key key is in
      let same = parts.0 in
      let keys = parts.1 in
      ap (λ (args : List Value). (left (expiry_body program one args world budget)).end) (ap (λ n. plain.Object n ∷ entry.key) same ∙ ap (λ k. plain.Object table ∷ k) keys)

  pub expires : (given : Option Value) (table : ObjectNo) (key : List Value) → entry_in world.store order (object_named given) ≡ Some (table, key) → expire_in program budget order world one given ≡ after table key
  expires None table key is = cc
  expires (Some (plain.Object number)) table key is = by (table_at world.store number) refl
    where
      by : (found : Option Table) → table_at world.store number ≡ found → expire_in program budget order world one (Some (plain.Object number)) ≡ after table key
      by None there = absurd (none-some (table, key) (sym (ap (λ t. option_map (keyed number) (key_in order t)) there) ∙ is))
      by (Some in_it) there = of (entry_numbered order in_it.entries) refl
        where
          of : (entry : Option Entry) → entry_numbered order in_it.entries ≡ entry → expire_in program budget order world one (Some (plain.Object number)) ≡ after table key
          of None none = absurd (none-some (table, key) (sym (ap (λ t. option_map (keyed number) (key_in order t)) there ∙ ap (λ e. option_map (keyed number) (option_map (λ (entry : Entry). entry.key) e)) none) ∙ is))
          of (Some entry) some =
              let found : Some (number, entry.key) ≡ Some (table, key) = sym (ap (λ t. option_map (keyed number) (key_in order t)) there ∙ ap (λ e. option_map (keyed number) (option_map (λ (entry : Entry). entry.key) e)) some) ∙ is in
              let parts = some_pair_parts number table entry.key key found in
              let same = parts.0 in
              let keys = parts.1 in
              rw there (rw some (ap (λ n. after n entry.key) same ∙ ap (λ k. after table k) keys))
  expires (Some other) table key is = cc

  pub ends : (given : Option Value) (table : ObjectNo) (key : List Value) → entry_in world.store order (object_named given) ≡ Some (table, key) → end_in program budget order world one given ≡ (left (asked table key)).end
  ends None table key is = cc
  ends (Some (plain.Object number)) table key is = by (table_at world.store number) refl
    where
      by : (found : Option Table) → table_at world.store number ≡ found → end_in program budget order world one (Some (plain.Object number)) ≡ (left (asked table key)).end
      by None there = absurd (none-some (table, key) (sym (ap (λ t. option_map (keyed number) (key_in order t)) there) ∙ is))
      by (Some in_it) there =
          ap (end_of_table program budget order one (plain.Object number) world) there
          ∙ of_entry number table key (entry_numbered order in_it.entries) (sym (ap (λ t. option_map (keyed number) (key_in order t)) there) ∙ is)
  ends (Some other) table key is = cc

  pub stays : (given : Option Value) → entry_in world.store order (object_named given) ≡ None → (expire_in program budget order world one given ≡ world) × (end_in program budget order world one given ≡ ended.Done)
  stays None is = (refl, refl)
  stays (Some (plain.Object number)) is = by (table_at world.store number) refl
    where
      by : (found : Option Table) → table_at world.store number ≡ found
          → (expire_in program budget order world one (Some (plain.Object number)) ≡ world) × (end_in program budget order world one (Some (plain.Object number)) ≡ ended.Done)
      by None there = (rw there refl, ap (end_of_table program budget order one (plain.Object number) world) there)
      by (Some in_it) there = of (entry_numbered order in_it.entries) refl
        where
          of : (entry : Option Entry) → entry_numbered order in_it.entries ≡ entry
              → (expire_in program budget order world one (Some (plain.Object number)) ≡ world) × (end_in program budget order world one (Some (plain.Object number)) ≡ ended.Done)
          of None none = (rw there (rw none refl), ap (end_of_table program budget order one (plain.Object number) world) there ∙ ap (end_for program budget one (plain.Object number) world) none)
          of (Some entry) some = absurd (none-some (number, entry.key) (sym is ∙ (ap (λ t. option_map (keyed number) (key_in order t)) there ∙ ap (λ e. option_map (keyed number) (option_map (λ (entry : Entry). entry.key) e)) some)))
  stays (Some other) is = (refl, refl)

in_table-twice : (change other : Table → Table) (one : Object) → in_table other (in_table change one) ≡ in_table (λ table. other (change table)) one
in_table-twice change other (object.Table table) = refl
in_table-twice change other (object.Vector items) = refl
in_table-twice change other (object.Record of fields) = refl

-- the function ran, and then the entry was renewed, and went or waits
pub expired_behind : (program : Program) (budget order : ℕ) (one : Global) (given : Told) (before now : World) (value : Option Value) (table : ObjectNo) (key args : List Value) (wait : Span) (store : Store)
    → entry_in before.store order (object_named value) ≡ Some (table, key) → args ≡ plain.Object table ∷ key
    → world_after program (expiry_body program one args (behind given before) budget) ≡ behind given now
    → wait ≡ wait_of (expiry_body program one args (behind given before) budget)
    → store ≡ changed (in_table (expire order wait)) table.0 (changed (in_table (renew before.time key)) table.0 now.store)
    → expire_in program budget order (behind given before) one value ≡ behind given (with_store store now)
expired_behind program budget order one given before now value table key args wait store there are comes waits is =
    let world : World = behind given before in
    let ran : List Value → Ran Span = λ args. expiry_body program one args world budget in
    let change : Span → Table → Table = λ wait one. expire order wait (renew before.time key one) in
    let both : changed (in_table (expire order wait)) table.0 (changed (in_table (renew before.time key)) table.0 now.store) ≡ changed (in_table (change wait)) table.0 now.store =
    changed-twice (in_table (renew before.time key)) (in_table (expire order wait)) table.0 now.store
    ∙ changed-alike (λ one. in_table (expire order wait) (in_table (renew before.time key) one)) (in_table (change wait)) table.0 now.store (in_table-twice (renew before.time key) (expire order wait)) in
    expires program budget order one world value table key there
    ∙ (ap (λ args. with_table (change (wait_of (ran args))) (plain.Object table) (world_after program (ran args))) (sym are)
    ∙ (ap (λ wait. with_table (change wait) (plain.Object table) (world_after program (ran args))) (sym waits)
    ∙ (ap (with_table (change wait) (plain.Object table)) comes
    ∙ (table-changed (change wait) table (behind given now) ∙ ap (λ store. behind given (with_store store now)) (sym (is ∙ both))))))

-- what stands at a number below the length
pub there : {A : Type 0} (all : List A) (n : ℕ) → n < length all → (one : A) × (slice_get all n ≡ Some one)
there [] n within = absurd (omega (arith, within))
there (one ∷ all) zero within = (one, refl)
there (one ∷ all) (suc n) within = there all n (omega (arith, within))
