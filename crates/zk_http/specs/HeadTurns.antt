-- What the bytes of a head come to.
use Rattle.std.specs.Prelude.{◌≡◌, ℕ, ◌+◌, ◌<◌, ◌≤◌, nat_lt, List, ◌++◌, take, Option, None, Some, if◌then◌else◌}
use Rattle.zk_base.specs.Places.{Place}
use Rattle.zk_base.specs.declared.network.Side.{Side}
use Rattle.zk_http.specs.declared.head.Told.{Told}
use Rattle.zk_http.specs.declared.head.Told.TheVariants.{Is, Waits}
use Rattle.zk_http.specs.declared.search.Ending.TheVariants as ending
use Rattle.zk_http.specs.declared.units.Head.{Head as MessageHead}
use Rattle.zk_http.specs.declared.units.Reason.TheVariants.{HeadBad, TooManyHeaders}
use Rattle.zk_http.specs.declared.units.UnitKind.{UnitKind}
use Rattle.zk_http.specs.declared.units.UnitKind.TheVariants.{Head, Violation}
use Rattle.zk_http.specs.Heads.{head_limit, head_of, header_lines}
use Rattle.zk_http.specs.Lines.{text_length}
use Rattle.zk_http.specs.Reading.{head_unit, searched}
use Rattle.zk_http.specs.Reads as reads
use Rattle.zk_http.specs.Search.{Knows}
use Rattle.zk_http.specs.Turns.{places_of}
use Rattle.zk_http.specs.Units.{unit_at}

abbrev pub kind_of : Option MessageHead → UnitKind
kind_of None = Violation HeadBad
kind_of (Some head) = Head head

-- what a whole candidate of a head shows
abbrev pub judged : Side → List ℕ → UnitKind
judged side text = if nat_lt 100 (header_lines text) then Violation TooManyHeaders else kind_of (head_of side text)

-- Whatever comes behind these places, the first n of them show this where a head is read.
abbrev pub HeadShows : Side → ℕ → UnitKind → List Place → Type 0
HeadShows side n what places =
    (behind : List Place) (from : ℕ) → unit_at from (head_unit side (places ++ behind)) ≡ Some (record { place = from + n; what = what })

-- what these bytes come to where a head is read
abbrev pub IsTold : Side → List ℕ → Told → Type 0
IsTold side bytes (Is len text what) =
    HeadShows side len what (places_of bytes) × ((head : MessageHead) → what ≡ Head head → text ≡ text_length (take len bytes))
IsTold side bytes (Waits search) = Knows search ending.Head (searched head_limit (places_of bytes)) × (head_unit side (places_of bytes) ≡ reads.Waits 0)

-- how many of the bytes were read
abbrev pub IsToldWithin : ℕ → Told → Type 0
IsToldWithin count (Is len text what) = (len ≤ count) × (text ≤ head_limit)
IsToldWithin count (Waits search) = (search.seen ≡ count) × (count < head_limit)
