-- Tables by hand, computed by the checker.
use Rattle.std.specs.Prelude.{◌≡◌, ℕ, ◌-◌, ◌^◌, pos, negsuc, List, [], ◌∷◌, Option, Some, None, refl}
use Rattle.zk_base.specs.declared.time.Moment.{Moment}
use Rattle.zk_base.specs.declared.time.Span.{Span}
use Rattle.zk_tree.specs.declared.expiry.Expiry.{Expiry}
use Rattle.zk_tree.specs.declared.expiry.Expiry.TheVariants.{Create, Read, Write}
use Rattle.zk_tree.specs.Table.{Entry, Table, entry_at, entry_numbered, with_entry, without, insert, remove, renew, expire, first_due, moment_after}
use Rattle.zk_tree.specs.Value.{Value, Count, same}

abbrev at : ℕ → Moment
at n = record { 0 = pos n }

abbrev long : ℕ → Span
long n = record { 0 = pos n }

abbrev key : ℕ → List Value
key n = Count n ∷ []

abbrev entry : ℕ → ℕ → ℕ → ℕ → Option Moment → Entry
entry order k value since due = record { order = order; key = key k; value = Count value; since = at since; due = due }

abbrev table : Option Expiry → ℕ → List Entry → Table
table expiry insertions entries = record { expiry = expiry; insertions = insertions; entries = entries }

-- insertions stand in their order, and are numbered from 0
inserted_in_order : insert (at 2) (key 5) (Count 50) (insert (at 1) (key 9) (Count 90) (table None 0 [])) ≡ table None 2 (entry 0 9 90 1 None ∷ entry 1 5 50 2 None ∷ [])
unfolding entry_at same with_entry
inserted_in_order = refl

-- an assignment keeps the place and the order number, and under a creation expiry the moment and the due
assigned_under_create : insert (at 7) (key 9) (Count 91) (table (Some (Create (long 10))) 2 (entry 0 9 90 1 (Some (at 11)) ∷ entry 1 5 50 2 (Some (at 12)) ∷ []))
    ≡ table (Some (Create (long 10))) 2 (entry 0 9 91 1 (Some (at 11)) ∷ entry 1 5 50 2 (Some (at 12)) ∷ [])
unfolding entry_at same with_entry
assigned_under_create = refl

-- and under a write or a read expiry it sets both
assigned_under_write : insert (at 7) (key 9) (Count 91) (table (Some (Write (long 10))) 2 (entry 0 9 90 1 (Some (at 11)) ∷ entry 1 5 50 2 (Some (at 12)) ∷ []))
    ≡ table (Some (Write (long 10))) 2 (entry 0 9 91 7 (Some (at 17)) ∷ entry 1 5 50 2 (Some (at 12)) ∷ [])
unfolding entry_at same with_entry moment_after
assigned_under_write = refl

assigned_under_read : insert (at 7) (key 9) (Count 91) (table (Some (Read (long 10))) 1 (entry 0 9 90 1 (Some (at 11)) ∷ []))
    ≡ table (Some (Read (long 10))) 1 (entry 0 9 91 7 (Some (at 17)) ∷ [])
unfolding entry_at same with_entry moment_after
assigned_under_read = refl

-- a key that is gone comes back at the end, with a number of its own
inserted_again : insert (at 7) (key 9) (Count 91) (remove (key 9) (table None 2 (entry 0 9 90 1 None ∷ entry 1 5 50 2 None ∷ [])))
    ≡ table None 3 (entry 1 5 50 2 None ∷ entry 2 9 91 7 None ∷ [])
unfolding entry_at same without
inserted_again = refl

-- a renewal moves the due, and does nothing where the key is not there
renewed_there : renew (at 8) (key 5) (table (Some (Create (long 10))) 2 (entry 1 5 50 2 (Some (at 12)) ∷ [])) ≡ table (Some (Create (long 10))) 2 (entry 1 5 50 8 (Some (at 18)) ∷ [])
unfolding entry_at same with_entry moment_after
renewed_there = refl

renewed_nowhere : renew (at 8) (key 6) (table (Some (Create (long 10))) 2 (entry 1 5 50 2 (Some (at 12)) ∷ [])) ≡ table (Some (Create (long 10))) 2 (entry 1 5 50 2 (Some (at 12)) ∷ [])
unfolding entry_at same
renewed_nowhere = refl

-- a wait above 0 counts from the entry's moment, and a wait of 0 is the entry's end
waited : expire 1 (long 3) (table (Some (Create (long 10))) 2 (entry 1 5 50 2 (Some (at 12)) ∷ [])) ≡ table (Some (Create (long 10))) 2 (entry 1 5 50 2 (Some (at 5)) ∷ [])
unfolding entry_numbered with_entry moment_after
waited = refl

ended : expire 1 (long 0) (table (Some (Create (long 10))) 2 (entry 1 5 50 2 (Some (at 12)) ∷ [])) ≡ table (Some (Create (long 10))) 2 []
unfolding entry_numbered without
ended = refl

-- of equal dues the lower order number comes first
first_of_equals : first_due (entry 3 9 0 1 (Some (at 20)) ∷ entry 4 8 0 1 (Some (at 11)) ∷ entry 7 5 0 1 (Some (at 11)) ∷ []) ≡ Some (at 11, 4)
unfolding first_due
first_of_equals = refl

-- no moment comes after the last one, and a length below 0 counts as 0
last_of_all : moment_after (record { 0 = pos (2 ^ 63 - 3) }) (long 5) ≡ record { 0 = pos (2 ^ 63 - 1) }
unfolding moment_after
last_of_all = refl

below_nothing : moment_after (at 4) (record { 0 = negsuc 8 }) ≡ at 4
unfolding moment_after
below_nothing = refl
