-- The objects of a store with the sets and tables in their places.
use Rattle.std.proofs.Common.{◌≡◌, ℕ, zero, suc, ◌<◌, List, [], ◌∷◌, ◌++◌, length, Option, Some, None, Result, Ok, Err, OnOk, OnErr, IfOk, slice_get, slice_set, slice_index_or, ◌+◌, refl, sym, ap, ◌∙◌, arith}
use Rattle.std.proofs.lemmas.Option.{none-some, same_Some, slice_get-get_or}
use Rattle.zk_base.specs.declared.memory.Mem.{Mem}
use Rattle.zk_base.specs.declared.numbers.ObjectNo.{ObjectNo}
use Rattle.zk_tree.specs.Store as object
use Rattle.zk_tree.specs.Store.{Object, Store}
use Rattle.zk_tree.specs.Table.{Table}
use Rattle.zk_value.specs.Objects.{Objects, change_object, table_place, tables_in, with_tables}
use Rattle.zk_value.proofs.TableLemmas.{length-with_tables, object-with_tables, added-with_tables, table-with_tables, table_changed-with_tables, tables_in-object, place_from-within}
use Rattle.zk_table.specs.Heap.{changed, in_table, HasNoTable}

-- Changes ----------------------------------------------------------------------------------------------------------

-- the object of a number is changed in its place
pub changed-there : (change : Object → Object) (number : ℕ) (store : Store) (one : Object) → slice_get store number ≡ Some one
    → changed change number store ≡ slice_set store number (change one)
changed-there change number [] one there = refl
changed-there change zero (first ∷ store) one there = ap (λ o. change o ∷ store) (same_Some first one there)
changed-there change (suc number) (first ∷ store) one there = ap (λ os. first ∷ os) (changed-there change number store one there)

-- a change that leaves the object as it is changes nothing
pub changed-same : (change : Object → Object) (number : ℕ) (store : Store) (one : Object) → slice_get store number ≡ Some one → change one ≡ one
    → changed change number store ≡ store
changed-same change number [] one there same = refl
changed-same change zero (first ∷ store) one there same =
    let is = same_Some first one there in ap (λ o. o ∷ store) (ap change is ∙ (same ∙ sym is))
changed-same change (suc number) (first ∷ store) one there same = ap (λ os. first ∷ os) (changed-same change number store one there same)

-- where no object has the number nothing is changed
pub changed-none : (change : Object → Object) (number : ℕ) (store : Store) → slice_get store number ≡ None → changed change number store ≡ store
changed-none change number [] none = refl
changed-none change zero (first ∷ store) none = absurd (none-some first (sym none))
changed-none change (suc number) (first ∷ store) none = ap (λ os. first ∷ os) (changed-none change number store none)

-- a change of a record or vector in the store is one of the objects
pub changed-with_tables : (change : Object → Object) (number : ℕ) (objects : Objects) (tables : List Table) → tables_in objects ≡ length tables
    → ((table : Table) → change (object.Table table) ≡ object.Table table)
    → with_tables (change_object change number objects) tables ≡ changed change number (with_tables objects tables)
changed-with_tables change number [] tables counts keeps = refl
changed-with_tables change zero (Some one ∷ objects) tables counts keeps = refl
changed-with_tables change zero (None ∷ objects) [] counts keeps = absurd (omega arith)
changed-with_tables change zero (None ∷ objects) (table ∷ tables) counts keeps = ap (λ o. o ∷ with_tables objects tables) (sym (keeps table))
changed-with_tables change (suc number) (Some one ∷ objects) tables counts keeps =
    ap (λ os. one ∷ os) (changed-with_tables change number objects tables counts keeps)
changed-with_tables change (suc number) (None ∷ objects) [] counts keeps = absurd (omega arith)
changed-with_tables change (suc number) (None ∷ objects) (table ∷ tables) counts keeps =
    ap (λ os. object.Table table ∷ os) (changed-with_tables change number objects tables (omega arith) keeps)

-- no object of a number
pub none-with_tables : (objects : Objects) (tables : List Table) (number : ℕ) → slice_get objects number ≡ None → slice_get (with_tables objects tables) number ≡ None
none-with_tables [] tables number none = refl
none-with_tables (Some one ∷ objects) tables zero none = absurd (none-some (Some one) (sym none))
none-with_tables (None ∷ objects) tables zero none = absurd (none-some (let n : Option Object = None in n) (sym none))
none-with_tables (Some one ∷ objects) tables (suc number) none = none-with_tables objects tables number none
none-with_tables (None ∷ objects) [] (suc number) none = none-with_tables objects [] number none
none-with_tables (None ∷ objects) (table ∷ tables) (suc number) none = none-with_tables objects tables number none

-- Calls ------------------------------------------------------------------------------------------------------------

pub view_added : {A : Type 0} (r : Result A Mem) (objects new : Objects) (tables : List Table) (view : Store) (one : Object) → view ≡ with_tables objects tables
    → OnOk r (new ≡ objects ++ Some one ∷ []) → OnOk r (with_tables new tables ≡ view ++ one ∷ [])
view_added (Ok a) objects new tables view one is ok =
    ap (λ os. with_tables os tables) ok ∙ (added-with_tables objects tables one ∙ ap (λ os. os ++ one ∷ []) (sym is))
view_added (Err e) objects new tables view one is ok = ok

pub number_in : (r : Result ObjectNo Mem) (objects : Objects) (tables : List Table) (view : Store) → view ≡ with_tables objects tables
    → IfOk r (λ number. number.0 ≡ length objects) → IfOk r (λ number. number.0 ≡ length view)
number_in (Ok number) objects tables view is ok = ok ∙ (sym (length-with_tables objects tables) ∙ ap length (sym is))
number_in (Err e) objects tables view is ok = ok

pub counts_added : {A : Type 0} (r : Result A Mem) (objects new : Objects) (one : Object) → OnOk r (new ≡ objects ++ Some one ∷ []) → OnErr r (new ≡ objects)
    → tables_in new ≡ tables_in objects
counts_added (Ok a) objects new one ok err = ap tables_in ok ∙ tables_in-object objects one
counts_added (Err e) objects new one ok err = ap tables_in err

-- one table more
pub counts_table : (objects : Objects) → tables_in (objects ++ None ∷ []) ≡ suc (tables_in objects)
counts_table [] = refl
counts_table (Some one ∷ objects) = counts_table objects
counts_table (None ∷ objects) = ap suc (counts_table objects)

-- a table is changed in its place
pub view_table : (change : Table → Table) (objects : Objects) (tables : List Table) (view : Store) (number place : ℕ) (old new : Table)
    → view ≡ with_tables objects tables → tables_in objects ≡ length tables
    → table_place objects number ≡ Some place → old ≡ slice_index_or tables place old → new ≡ change old
    → with_tables objects (slice_set tables place new) ≡ changed (in_table change) number view
view_table change objects tables view number place old new is counts there found becomes =
    let at : table_place objects number ≡ Some (0 + place) = there ∙ ap Some (let e : place ≡ 0 + place = omega arith in e) in
    let inside : place < length tables = let within = place_from-within 0 objects number place there in omega arith in
    let stands : slice_get tables place ≡ Some old = slice_get-get_or tables place old inside ∙ ap Some (sym found) in
    let here = table-with_tables 0 objects tables number place old at stands in
    table_changed-with_tables 0 objects tables number place new at inside
    ∙ (ap (λ t. slice_set (with_tables objects tables) number (object.Table t)) becomes
    ∙ (sym (changed-there (in_table change) number (with_tables objects tables) (object.Table old) here)
    ∙ ap (changed (in_table change) number) (sym is)))

pub place_inside : (objects : Objects) (tables : List Table) (number place : ℕ) → tables_in objects ≡ length tables → table_place objects number ≡ Some place → place < length tables
place_inside objects tables number place counts there = let within = place_from-within 0 objects number place there in omega arith

-- where there is no table nothing is changed
pub view_no_table : (change : Table → Table) (objects : Objects) (tables : List Table) (view : Store) (number : ℕ)
    → view ≡ with_tables objects tables → tables_in objects ≡ length tables → HasNoTable objects number
    → view ≡ changed (in_table change) number view
view_no_table change objects tables view number is counts none =
    is ∙ (sym (none tables change counts) ∙ ap (changed (in_table change) number) (sym is))

-- a record or a vector is no table
pub no_table_object : (objects : Objects) (number : ℕ) (one : Object) → slice_get objects number ≡ Some (Some one)
    → ((change : Table → Table) → in_table change one ≡ one) → HasNoTable objects number
no_table_object objects number one there keeps = λ tables change counts.
    changed-same (in_table change) number (with_tables objects tables) one (object-with_tables objects tables number one there) (keeps change)

pub no_table_none : (objects : Objects) (number : ℕ) → slice_get objects number ≡ None → HasNoTable objects number
no_table_none objects number none = λ tables change counts.
    changed-none (in_table change) number (with_tables objects tables) (none-with_tables objects tables number none)

-- the object of a number
pub object_is : (objects : Objects) (tables : List Table) (view : Store) (number : ℕ) (one : Object) → view ≡ with_tables objects tables
    → Some (Some one) ≡ slice_get objects number → Some one ≡ slice_get view number
object_is objects tables view number one is there = sym (object-with_tables objects tables number one (sym there)) ∙ ap (λ os. slice_get os number) (sym is)

pub table_is : (objects : Objects) (tables : List Table) (view : Store) (number place : ℕ) (one : Table) → view ≡ with_tables objects tables
    → Some place ≡ table_place objects number → slice_get tables place ≡ Some one → Some (object.Table one) ≡ slice_get view number
table_is objects tables view number place one is there found =
    let at : table_place objects number ≡ Some (0 + place) = sym there ∙ ap Some (let e : place ≡ 0 + place = omega arith in e) in
    sym (table-with_tables 0 objects tables number place one at found) ∙ ap (λ os. slice_get os number) (sym is)
