-- Groups of names that lead to each other, told by links that are checked one by one.
use Rattle.std.specs.Prelude.{◌≡◌, ℕ, Bool, true, false, ◌&&◌, ◌||◌, List, length, Option, Some, None, slice_get, nat_eq, nat_le, nat_lt, unwrap_or}
use Rattle.std.specs.declared.alloc.Global.{Global}
use Rattle.std.specs.declared.vec.Vec.{Vec}
use Rattle.std.specs.List.{list_all, list_any}
use Rattle.std.specs.Str.{bytes_eq}
use Rattle.zk_typed.specs.Names.{Declared}
use Rattle.zk_scope.specs.declared.groups.Groups.{Groups}
use Rattle.zk_scope.specs.declared.groups.Link.{Link}
use Rattle.zk_scope.specs.Indexing.{first_place, items_at}

-- where a name stands first, or how many names there are
abbrev pub first_or_end : List Declared → List ℕ → ℕ
first_or_end names name = unwrap_or (first_place (λ one. bytes_eq one.name name) names) (length names)

-- where the name at a place stands first
abbrev pub first_of : List Declared → Option Declared → ℕ
first_of names None = length names
first_of names (Some one) = first_or_end names one.name

abbrev pub is_just : ℕ → Option ℕ → Bool
is_just to None = false
is_just to (Some place) = nat_eq place to

-- a step of a place leads to another
abbrev pub has_step : List (Vec ℕ Global) → ℕ → ℕ → ℕ → Bool
has_step steps from which to = is_just to (slice_get (items_at steps from) which)

-- nearer to the root of a link
abbrev pub is_nearer : Link → Option Link → Bool
is_nearer link None = false
is_nearer link (Some other) = nat_eq other.root link.root && nat_lt other.turn link.turn

-- the root leads to a place by way of one that is nearer
abbrev pub is_ahead : List (Vec ℕ Global) → List Link → ℕ → Link → Bool
is_ahead steps links place link = nat_eq place link.root || (has_step steps link.other link.which place && is_nearer link (slice_get links link.other))

-- a place leads to the root by way of one that is nearer
abbrev pub is_back : List (Vec ℕ Global) → List Link → ℕ → Link → Bool
is_back steps links place link = nat_eq place link.root || (has_step steps place link.which link.other && is_nearer link (slice_get links link.other))

abbrev pub is_no_higher : ℕ → Option Link → Bool
is_no_higher rank None = false
is_no_higher rank (Some link) = nat_le link.rank rank

abbrev pub is_below : ℕ → Option Link → Bool
is_below rank None = false
is_below rank (Some link) = nat_lt link.rank rank

-- places lead to none of a higher rank
abbrev pub are_no_higher : List Link → ℕ → List ℕ → Bool
are_no_higher links rank places = list_all (λ place. is_no_higher rank (slice_get links place)) places

abbrev pub is_low : ℕ → Option ℕ → Bool
is_low rank None = false
is_low rank (Some low) = nat_le low rank

-- places are of a lower rank than all that have a name
abbrev pub are_below : List Link → Option ℕ → List ℕ → Bool
are_below links None places = false
are_below links (Some low) places = list_all (λ place. is_below low (slice_get links place)) places

abbrev pub is_together : Option Link → Option Link → Bool
is_together (Some one) (Some other) = nat_eq one.root other.root
is_together one other = false

-- a place leads to another by way of the root of both
abbrev pub are_together : Groups → ℕ → List ℕ → Bool
are_together groups to places = list_any (λ place. is_together (slice_get groups.back.items place) (slice_get groups.ahead.items to)) places

-- What is checked ------------------------------------------------------------------------------------------------------

abbrev pub AreAhead : List Link → List (Vec ℕ Global) → Type 0
AreAhead links steps = (place : ℕ) (link : Link) → slice_get links place ≡ Some link → is_ahead steps links place link ≡ true

abbrev pub AreBack : List Link → List (Vec ℕ Global) → Type 0
AreBack links steps = (place : ℕ) (link : Link) → slice_get links place ≡ Some link → is_back steps links place link ≡ true

abbrev pub AreRanked : List Link → List (Vec ℕ Global) → Type 0
AreRanked links steps = (place : ℕ) (link : Link) → slice_get links place ≡ Some link → are_no_higher links link.rank (items_at steps place) ≡ true

-- the lowest rank of a name is no higher than that of each place that has it
abbrev pub AreLow : List Link → List ℕ → List Declared → Type 0
AreLow links lows names = (place : ℕ) (link : Link) → slice_get links place ≡ Some link → is_low link.rank (slice_get lows (first_of names (slice_get names place))) ≡ true

abbrev pub IsGrouped : Groups → List (Vec ℕ Global) → List Declared → Type 0
IsGrouped groups steps names =
    AreAhead groups.ahead.items steps × AreBack groups.back.items steps × AreRanked groups.ahead.items steps × AreLow groups.ahead.items groups.lows.items names

-- where each name stands first, of as many as were looked at
abbrev pub AreFirsts : List ℕ → List Declared → Type 0
AreFirsts firsts names = (place first : ℕ) → slice_get firsts place ≡ Some first → first ≡ first_of names (slice_get names place)
