-- What is read from the places that follow in a stream: the forms of which messages are put together.
use Rattle.std.specs.Prelude.{ℕ, ◌+◌, Bool, ◌==◌, nat_le, nat_lt, if◌then◌else◌, List, [], ◌∷◌, length, take, drop, find, Option, None, Some}
use Rattle.std.specs.List.{range_with_len}
use Rattle.zk_http.specs.declared.units.Reason.{Reason}
use Rattle.zk_http.specs.declared.units.Reason.TheVariants.{Gap}
use Rattle.zk_base.specs.Places.{Place, gaps, bytes_before_gap}

-- what the places that are there come to
pub data Answer (A : Type 0) : Type 0 where
  -- more places have to come; the first ones, so many, are read, and no longer needed
  Waits : (used : ℕ) → Answer A
  -- the first places, so many of them, are this
  Gives : (used : ℕ) (value : A) → Answer A
  -- the first places, so many of them, show that they are nothing
  Refuses : (used : ℕ) (reason : Reason) → Answer A

abbrev pub Reads : Type 0 → Type 0
Reads A = List Place → Answer A

-- the same answer, so many places further on
abbrev pub later : {A : Type 0} → ℕ → Answer A → Answer A
later n (Waits used) = Waits (n + used)
later n (Gives used value) = Gives (n + used) value
later n (Refuses used reason) = Refuses (n + used) reason

abbrev pub and_then : {A B : Type 0} → Answer A → (A → Reads B) → List Place → Answer B
and_then (Waits used) next places = Waits used
and_then (Gives used value) next places = later used (next value (drop used places))
and_then (Refuses used reason) next places = Refuses used reason

-- how many of the places are read
abbrev pub used_in : {A : Type 0} → Answer A → ℕ
used_in (Waits used) = used
used_in (Gives used value) = used
used_in (Refuses used reason) = used

-- one form, and behind it the one that follows from it
infixl 10 ◌>>=◌
abbrev pub ◌>>=◌ : {A B : Type 0} → Reads A → (A → Reads B) → Reads B
(read >>= next) places = and_then (read places) next places

abbrev pub gives : {A : Type 0} → A → Reads A
gives value places = Gives 0 value

abbrev pub refuses : {A : Type 0} → Reason → Reads A
refuses reason places = Refuses 0 reason

-- so many places, whatever they hold: how many of them are gaps
abbrev pub any_places : ℕ → Reads ℕ
any_places n places = if nat_le n (length places) then Gives n (gaps (take n places)) else Waits (length places)

-- one byte
abbrev pub byte : Reads ℕ
byte [] = Waits 0
byte (None ∷ places) = Refuses 1 Gap
byte (Some found ∷ places) = Gives 1 found

-- this byte
abbrev pub exactly : ℕ → Reason → Reads ℕ
exactly wanted reason = byte >>= λ found. if found == wanted then gives found else refuses reason

-- the least number of these bytes that end so
unfoldable pub shortest : (List ℕ → Bool) → List ℕ → Option ℕ
shortest ends bytes = find (λ n. ends (take n bytes)) (range_with_len 0 (length bytes + 1))

-- no bytes that end so are there: that is refused behind `limit` bytes, and behind a gap before them
abbrev pub not_yet : ℕ → Reason → List Place → Answer (List ℕ)
not_yet limit reason places =
    let known = length (bytes_before_gap places) in
    if nat_le limit known then Refuses limit reason
    else if nat_lt known (length places) then Refuses (known + 1) Gap
    else Waits 0

abbrev pub through : Option ℕ → ℕ → Reason → List Place → Answer (List ℕ)
through None limit reason places = not_yet limit reason places
through (Some n) limit reason places = Gives n (take n (bytes_before_gap places))

-- the bytes up to where they first end so, at most `limit` of them
abbrev pub until : (List ℕ → Bool) → ℕ → Reason → Reads (List ℕ)
until ends limit reason places = through (shortest ends (take limit (bytes_before_gap places))) limit reason places
