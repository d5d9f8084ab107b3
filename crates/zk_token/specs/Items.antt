-- Items that stand one behind another in a text.
use Rattle.std.specs.Prelude.{◌≡◌, ℕ, zero, suc, ◌+◌, List, [], ◌∷◌, drop, Option, Some, option_map}
use Rattle.std.specs.Option.{option_map_or}

-- an item in front of more items, which end at a place
abbrev pub in_front : {X : Type 0} → X → List X × ℕ → List X × ℕ
in_front item more = (item ∷ more.0, more.1)

-- The items that stand one behind another from a place on, n of them at most, and the place behind
-- the last. `read` gives the item that begins at a place, and the place behind it.
abbrev pub items_from : {X : Type 0} → ℕ → (ℕ → Option (X × ℕ)) → ℕ → List X × ℕ
items_from zero read place = ([], place)
items_from (suc n) read place =
    option_map_or (λ item. in_front item.0 (items_from n read item.1)) (read place) ([], place)

-- the items stand one behind another between two places
abbrev pub StandBetween : {X : Type 0} → (ℕ → Option (X × ℕ)) → ℕ → List X → ℕ → Type 0
StandBetween read from [] to = from ≡ to
StandBetween read from (item ∷ items) to = (next : ℕ) × (read from ≡ Some (item, next)) × StandBetween read next items to

-- what a reader finds in a text from a place on, and the place behind it
abbrev pub found_at : {X : Type 0} → (List ℕ → Option (X × ℕ)) → List ℕ → ℕ → Option (X × ℕ)
found_at reader text place = option_map (λ found. (found.0, place + found.1)) (reader (drop place text))
