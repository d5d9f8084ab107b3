-- Names in a message (RFC 1035, sections 3.1 and 4.1.4), by the places of their labels.
use Rattle.std.specs.Prelude.{◌≡◌, ℕ, zero, suc, ◌+◌, ◌<◌, ◌≤◌, ◌%◌, ◌^◌, Bool, true, ◌==◌, ◌&&◌, nat_lt, nat_le, if◌then◌else◌, List, [], ◌∷◌, ◌++◌, length, map, take, drop, sum_by, flat_map, slice_index, Result, Ok, Err}
use Rattle.std.specs.List.{join_with_byte}
use Rattle.std.specs.Str.{str_to_ascii_lowercase}
use Rattle.byteorder.specs.Endian.{big_number}
use Rattle.zk_dns.specs.declared.bound.Bound.{Bound}
use Rattle.zk_dns.specs.declared.fault.DnsFault.{DnsFault}
use Rattle.zk_dns.specs.declared.fault.DnsFault.TheVariants as fault

-- ---- what a name is

-- a byte that says a label's length, or what stands in place of one
abbrev pub byte_at : List ℕ → ℕ → ℕ
byte_at bytes place = slice_index bytes place

-- the label whose length byte stands at a place
abbrev pub label_at : List ℕ → ℕ → List ℕ
label_at bytes place = take (byte_at bytes place) (drop (place + 1) bytes)

-- a label has 1 to 63 bytes, so the two high bits of its length byte are zero
abbrev pub IsLabel : List ℕ → Type 0
IsLabel label = (0 < length label) × (length label < 64)

-- labels stand one behind another between two places, each behind its length byte
abbrev pub AreLabels : List ℕ → ℕ → List (List ℕ) → ℕ → Type 0
AreLabels bytes from [] to = from ≡ to
AreLabels bytes from (label ∷ labels) to =
    IsLabel label × (byte_at bytes from ≡ length label) × (label_at bytes from ≡ label)
    × AreLabels bytes (from + 1 + length label) labels to

-- where a pointer leads: its low 14 bits, behind two high bits of one
abbrev pub target_at : List ℕ → ℕ → ℕ
target_at bytes place = big_number 2 (drop place bytes) % 2 ^ 14

-- a pointer leads to behind the header, and to before the run of labels that holds it
abbrev pub leads_back : ℕ → ℕ → Bool
leads_back start target = nat_le 12 target && nat_lt target start

-- the labels from a place on end in the root, a zero byte, before `end`; `next` is the place behind it
pub record EndsInRoot (bytes : List ℕ) (end place : ℕ) (labels : List (List ℕ)) (next : ℕ) : Type 0 where
  pub ending : ℕ
  pub stand : AreLabels bytes place labels ending
  pub root : byte_at bytes ending ≡ 0
  pub behind : next ≡ ending + 1
  pub within : next ≤ end

-- the labels from a place on end in a pointer to another place, before `end`; `next` is the place behind it
pub record EndsInPointer (bytes : List ℕ) (end place : ℕ) (labels : List (List ℕ)) (next target : ℕ) : Type 0 where
  pub ending : ℕ
  pub stand : AreLabels bytes place labels ending
  pub pointer : 192 ≤ byte_at bytes ending
  pub leads : target ≡ target_at bytes ending
  pub back : leads_back place target ≡ true
  pub behind : next ≡ ending + 2
  pub within : next ≤ end

-- A name as its runs of labels. Each but the last ends in a pointer to the next one, which stands before it, and the last
-- in the root. The first begins at the place and ends before `end`; `next` is the place behind it.
abbrev pub AreRuns : List ℕ → ℕ → ℕ → List (List (List ℕ)) → ℕ → Type 0
AreRuns bytes end place [] next = ⊥
AreRuns bytes end place (labels ∷ []) next = EndsInRoot bytes end place labels next
AreRuns bytes end place (labels ∷ others ∷ runs) next =
    (target : ℕ) × (behind : ℕ) × EndsInPointer bytes end place labels next target
    × AreRuns bytes (length bytes) target (others ∷ runs) behind

-- the length of labels in bytes, with their length bytes
abbrev pub size_of : List (List ℕ) → ℕ
size_of labels = sum_by (λ label. 1 + length label) labels

-- The name at a place, as its labels: with the root it has at most 255 bytes (RFC 1035, section 2.3.4). Its own bytes, those
-- before a first pointer's end, end at `next`, and not behind `end`.
abbrev pub IsName : List ℕ → ℕ → ℕ → List (List ℕ) → ℕ → Type 0
IsName bytes end place labels next =
    (runs : List (List (List ℕ))) × AreRuns bytes end place runs next
    × (labels ≡ flat_map (λ run. run) runs) × (size_of labels + 1 ≤ 255)

-- a name as text: its labels in ASCII lower case, joined by dots; the root is a dot
abbrev pub name_text : List (List ℕ) → List ℕ
name_text [] = 46 ∷ []
name_text (label ∷ labels) = join_with_byte 46 (map str_to_ascii_lowercase (label ∷ labels))

-- ---- the name at a place, or the first fault from the left

-- reading on behind what was read; behind a fault nothing is read
infixl 10 ◌>>=◌
abbrev pub ◌>>=◌ : {A B : Type 0} → Result A DnsFault → (A → Result B DnsFault) → Result B DnsFault
(Ok x) >>= f = f x
(Err e) >>= f = Err e

-- the bytes of a message: a name that passes them is short
abbrev pub whole : List ℕ → Bound
whole bytes = record { end = length bytes; fault = fault.Short (length bytes) }

-- the bytes of data: a name whose own bytes pass them makes the data wrong
abbrev pub within : ℕ → ℕ → Bound
within at end = record { end = end; fault = fault.Data at }

-- a run of labels, and the place of what ends it
pub record Run : Type 0 where
  pub labels : List (List ℕ)
  pub ending : ℕ

abbrev pub with_label : List ℕ → Run → Run
with_label label run = record { labels = label ∷ run.labels; ending = run.ending }

-- One step of a run, behind `size` bytes of its name. `follow` reads on behind a label, from the name's size and the place there.
unfoldable pub run_step : (ℕ → ℕ → Result Run DnsFault) → List ℕ → Bound → ℕ → ℕ → Result Run DnsFault
run_step follow bytes bound size place =
    if nat_le bound.end place then Err bound.fault
    else if byte_at bytes place == 0 then Ok (record { labels = []; ending = place })
    else if nat_lt (byte_at bytes place) 64 then
    (if nat_lt bound.end (place + 1 + byte_at bytes place) then Err bound.fault
    else if nat_lt 255 (size + 1 + byte_at bytes place + 1) then Err (fault.Name place)
    else follow (size + 1 + byte_at bytes place) (place + 1 + byte_at bytes place)
    >>= λ run. Ok (with_label (label_at bytes place) run))
    else if nat_lt (byte_at bytes place) 192 then Err (fault.Label place)
    else if nat_lt bound.end (place + 2) then Err bound.fault
    else Ok (record { labels = []; ending = place })

-- The run of labels at a place, n - 1 labels at most.
unfoldable pub run_of : ℕ → List ℕ → Bound → ℕ → ℕ → Result Run DnsFault
run_of zero bytes bound size place = Err (fault.Name place)
run_of (suc n) bytes bound size place = run_step (run_of n bytes bound) bytes bound size place

-- a label takes two bytes at least, so no name has 128 of them
unfoldable pub run_at : List ℕ → Bound → ℕ → ℕ → Result Run DnsFault
run_at bytes bound size place = run_of 128 bytes bound size place

-- a name, and the place behind its own bytes
pub record Name : Type 0 where
  pub labels : List (List ℕ)
  pub next : ℕ

-- The name that a run begins, by what ends it. `follow` reads the rest behind a pointer, from the name's size so far and the place.
unfoldable pub ended : (ℕ → ℕ → Result Name DnsFault) → List ℕ → ℕ → ℕ → Run → Result Name DnsFault
ended follow bytes size start run =
    if byte_at bytes run.ending == 0 then Ok (record { labels = run.labels; next = run.ending + 1 })
    else if leads_back start (target_at bytes run.ending) then
    (follow (size + size_of run.labels) (target_at bytes run.ending)
    >>= λ rest. Ok (record { labels = run.labels ++ rest.labels; next = run.ending + 2 }))
    else Err (fault.Pointer run.ending)

-- The name at a place, of n runs at most, behind `size` bytes of it.
unfoldable pub name_of : ℕ → List ℕ → Bound → ℕ → ℕ → Result Name DnsFault
name_of zero bytes bound size place = Err (fault.Pointer place)
name_of (suc n) bytes bound size place =
    run_at bytes bound size place >>= ended (name_of n bytes (whole bytes)) bytes size place

-- each run begins before the one that leads to it, so there are no more than places
unfoldable pub rest_at : List ℕ → Bound → ℕ → ℕ → Result Name DnsFault
rest_at bytes bound size place = name_of (suc place) bytes bound size place

-- the name at a place whose own bytes are to stand within a bound
unfoldable pub name_at : List ℕ → Bound → ℕ → Result Name DnsFault
name_at bytes bound place = rest_at bytes bound 0 place
