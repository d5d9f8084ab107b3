-- An index tells where names stand in a list.
use Rattle.std.specs.Prelude.{◌≡◌, ℕ, suc, Bool, true, false, ◌&&◌, List, [], ◌∷◌, ◌++◌, map, slice_get, Option, Some, None, if◌then◌else◌}
use Rattle.std.specs.declared.alloc.Global.{Global}
use Rattle.std.specs.declared.vec.Vec.{Vec}
use Rattle.std.specs.HashMap.{get}
use Rattle.std.specs.Option.{option_map}
use Rattle.std.specs.Str.{bytes_eq}
use Rattle.zk_typed.specs.Names.{Declared}
use Rattle.zk_scope.specs.declared.index.Index.{Index}
use Rattle.zk_scope.specs.declared.index.Slot.{Slot}

-- where the first stands that passes
abbrev pub first_place : {A : Type 0} → (A → Bool) → List A → Option ℕ
first_place passes [] = None
first_place passes (one ∷ others) = if passes one then Some 0 else option_map suc (first_place passes others)

-- where those stand that pass
abbrev pub passing : {A : Type 0} → (A → Bool) → List A → List ℕ
passing passes [] = []
passing passes (one ∷ others) = (if passes one then 0 ∷ [] else []) ++ map suc (passing passes others)

abbrev pub items_of : Option (Vec ℕ Global) → List ℕ
items_of None = []
items_of (Some all) = all.items

-- the list at a place; there is none past the end
abbrev pub items_at : List (Vec ℕ Global) → ℕ → List ℕ
items_at lists place = items_of (slice_get lists place)

abbrev pub is_marked : Option Bool → Bool
is_marked None = false
is_marked (Some mark) = mark

-- the mark at a place; there is none past the end
abbrev pub mark_at : List Bool → ℕ → Bool
mark_at marks place = is_marked (slice_get marks place)

abbrev pub or_else : Option ℕ → Option ℕ → Option ℕ
or_else (Some place) other = Some place
or_else None other = other

abbrev pub shown : Bool → ℕ → Option ℕ
shown true place = Some place
shown false place = None

-- the slot of a name once it stands in another place too
abbrev pub with_place : Option Slot → Bool → ℕ → Slot
with_place None exported place = record { first = place; exported = shown exported place }
with_place (Some slot) exported place = record { first = slot.first; exported = or_else slot.exported (shown exported place) }

-- where a name stands first, and first as an exported one
abbrev pub slot_in : List Declared → List ℕ → Option Slot
slot_in names name =
    option_map (λ first. record { first = first; exported = first_place (λ one. bytes_eq one.name name && one.exported) names })
    (first_place (λ one. bytes_eq one.name name) names)

abbrev pub Indexes : Index → List Declared → Type 0
Indexes index names = (name : List ℕ) → get bytes_eq index.slots name ≡ slot_in names name
