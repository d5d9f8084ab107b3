-- Sets and tables that stand elsewhere, at their places among the objects of a store.
use Rattle.std.proofs.Common.{◌≡◌, ℕ, zero, suc, ◌+◌, ◌<◌, List, [], ◌∷◌, ◌++◌, length, Option, Some, None, slice_get, slice_set, refl, sym, ap, subst, ◌∙◌, arith}
use Rattle.std.proofs.lemmas.Option.{none-some, same_Some}
use Rattle.zk_tree.specs.Store as object
use Rattle.zk_tree.specs.Store.{Object}
use Rattle.zk_tree.specs.Table.{Table}
use Rattle.zk_value.specs.Objects.{Objects, change_object, place_from, tables_in, with_tables}

pub length-with_tables : (objects : Objects) (tables : List Table) → length (with_tables objects tables) ≡ length objects
length-with_tables [] tables = refl
length-with_tables (Some one ∷ objects) tables = ap suc (length-with_tables objects tables)
length-with_tables (None ∷ objects) [] = ap suc (length-with_tables objects [])
length-with_tables (None ∷ objects) (table ∷ tables) = ap suc (length-with_tables objects tables)

-- Records and vectors ----------------------------------------------------------------------------------------------

pub object-with_tables : (objects : Objects) (tables : List Table) (number : ℕ) (one : Object) → slice_get objects number ≡ Some (Some one)
    → slice_get (with_tables objects tables) number ≡ Some one
object-with_tables [] tables number one there = absurd (none-some (Some one) there)
object-with_tables (Some first ∷ objects) tables zero one there = same_Some (Some first) (Some one) there
object-with_tables (None ∷ objects) tables zero one there = absurd (none-some one (same_Some None (Some one) there))
object-with_tables (Some first ∷ objects) tables (suc number) one there = object-with_tables objects tables number one there
object-with_tables (None ∷ objects) [] (suc number) one there = object-with_tables objects [] number one there
object-with_tables (None ∷ objects) (table ∷ tables) (suc number) one there = object-with_tables objects tables number one there

pub changed-with_tables : (objects : Objects) (tables : List Table) (number : ℕ) (one : Object) (change : Object → Object) → slice_get objects number ≡ Some (Some one)
    → with_tables (change_object change number objects) tables ≡ slice_set (with_tables objects tables) number (change one)
changed-with_tables [] tables number one change there = refl
changed-with_tables (Some first ∷ objects) tables zero one change there =
    ap (λ o. change o ∷ with_tables objects tables) (same_Some first one (same_Some (Some first) (Some one) there))
changed-with_tables (None ∷ objects) tables zero one change there = absurd (none-some one (same_Some None (Some one) there))
changed-with_tables (Some first ∷ objects) tables (suc number) one change there =
    ap (λ os. first ∷ os) (changed-with_tables objects tables number one change there)
changed-with_tables (None ∷ objects) [] (suc number) one change there =
    ap (λ os. object.Vector [] ∷ os) (changed-with_tables objects [] number one change there)
changed-with_tables (None ∷ objects) (table ∷ tables) (suc number) one change there =
    ap (λ os. object.Table table ∷ os) (changed-with_tables objects tables number one change there)

pub added-with_tables : (objects : Objects) (tables : List Table) (one : Object)
    → with_tables (objects ++ Some one ∷ []) tables ≡ with_tables objects tables ++ one ∷ []
added-with_tables [] tables one = refl
added-with_tables (Some first ∷ objects) tables one = ap (λ os. first ∷ os) (added-with_tables objects tables one)
added-with_tables (None ∷ objects) [] one = ap (λ os. object.Vector [] ∷ os) (added-with_tables objects [] one)
added-with_tables (None ∷ objects) (table ∷ tables) one = ap (λ os. object.Table table ∷ os) (added-with_tables objects tables one)

-- Sets and tables --------------------------------------------------------------------------------------------------

-- a place is one of those behind the ones before
pub place_from-within : (before : ℕ) (objects : Objects) (number place : ℕ) → place_from before objects number ≡ Some place
    → (before < suc place) × (place < before + tables_in objects)
place_from-within before [] number place there = absurd (none-some place there)
place_from-within before (None ∷ objects) zero place there = let e = same_Some before place there in (omega arith, omega arith)
place_from-within before (Some one ∷ objects) zero place there = absurd (none-some place there)
place_from-within before (None ∷ objects) (suc number) place there =
    let within = place_from-within (suc before) objects number place there in (omega arith, omega arith)
place_from-within before (Some one ∷ objects) (suc number) place there = place_from-within before objects number place there

-- the table at a place, of those that stand before any of these objects and those of the objects
pub table-with_tables : (before : ℕ) (objects : Objects) (tables : List Table) (number place : ℕ) (one : Table) → place_from before objects number ≡ Some (before + place)
    → slice_get tables place ≡ Some one → slice_get (with_tables objects tables) number ≡ Some (object.Table one)
table-with_tables before [] tables number place one there found = absurd (none-some (before + place) there)
table-with_tables before (Some first ∷ objects) tables zero place one there found = absurd (none-some (before + place) there)
table-with_tables before (Some first ∷ objects) tables (suc number) place one there found = table-with_tables before objects tables number place one there found
table-with_tables before (None ∷ objects) [] number place one there found = absurd (none-some one found)
table-with_tables before (None ∷ objects) (table ∷ tables) zero zero one there found = ap (λ t. Some (object.Table t)) (same_Some table one found)
table-with_tables before (None ∷ objects) (table ∷ tables) zero (suc place) one there found =
    let e = same_Some before (before + suc place) there in absurd (omega arith)
table-with_tables before (None ∷ objects) (table ∷ tables) (suc number) zero one there found =
    let within = place_from-within (suc before) objects number (before + zero) there in absurd (omega arith)
table-with_tables before (None ∷ objects) (table ∷ tables) (suc number) (suc place) one there found =
    let e : before + suc place ≡ suc before + place = omega arith in
    table-with_tables (suc before) objects tables number place one (there ∙ ap Some e) found

pub table_changed-with_tables : (before : ℕ) (objects : Objects) (tables : List Table) (number place : ℕ) (one : Table) → place_from before objects number ≡ Some (before + place)
    → place < length tables → with_tables objects (slice_set tables place one) ≡ slice_set (with_tables objects tables) number (object.Table one)
table_changed-with_tables before [] tables number place one there within = refl
table_changed-with_tables before (Some first ∷ objects) tables zero place one there within = absurd (none-some (before + place) there)
table_changed-with_tables before (Some first ∷ objects) tables (suc number) place one there within =
    ap (λ os. first ∷ os) (table_changed-with_tables before objects tables number place one there within)
table_changed-with_tables before (None ∷ objects) [] number place one there within = absurd (omega arith)
table_changed-with_tables before (None ∷ objects) (table ∷ tables) zero zero one there within = refl
table_changed-with_tables before (None ∷ objects) (table ∷ tables) zero (suc place) one there within =
    let e = same_Some before (before + suc place) there in absurd (omega arith)
table_changed-with_tables before (None ∷ objects) (table ∷ tables) (suc number) zero one there within =
    let inside = place_from-within (suc before) objects number (before + zero) there in absurd (omega arith)
table_changed-with_tables before (None ∷ objects) (table ∷ tables) (suc number) (suc place) one there within =
    let e : before + suc place ≡ suc before + place = omega arith in
    ap (λ os. object.Table table ∷ os) (table_changed-with_tables (suc before) objects tables number place one (there ∙ ap Some e) (omega arith))

pub table_added-with_tables : (objects : Objects) (tables : List Table) (one : Table) → tables_in objects ≡ length tables
    → with_tables (objects ++ None ∷ []) (tables ++ one ∷ []) ≡ with_tables objects tables ++ object.Table one ∷ []
table_added-with_tables [] [] one same = refl
table_added-with_tables [] (table ∷ tables) one same = absurd (omega arith)
table_added-with_tables (Some first ∷ objects) tables one same = ap (λ os. first ∷ os) (table_added-with_tables objects tables one same)
table_added-with_tables (None ∷ objects) [] one same = absurd (omega arith)
table_added-with_tables (None ∷ objects) (table ∷ tables) one same =
    ap (λ os. object.Table table ∷ os) (table_added-with_tables objects tables one (omega arith))

pub tables_in-object : (objects : Objects) (one : Object) → tables_in (objects ++ Some one ∷ []) ≡ tables_in objects
tables_in-object [] one = refl
tables_in-object (Some first ∷ objects) one = tables_in-object objects one
tables_in-object (None ∷ objects) one = ap suc (tables_in-object objects one)

pub tables_in-change : (objects : Objects) (number : ℕ) (change : Object → Object) → tables_in (change_object change number objects) ≡ tables_in objects
tables_in-change [] number change = refl
tables_in-change (Some first ∷ objects) zero change = refl
tables_in-change (None ∷ objects) zero change = refl
tables_in-change (Some first ∷ objects) (suc number) change = tables_in-change objects number change
tables_in-change (None ∷ objects) (suc number) change = ap suc (tables_in-change objects number change)
