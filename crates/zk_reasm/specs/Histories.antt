-- What a stream with a base and a limit has, by the list of all that it was told.
use Rattle.std.specs.Prelude.{ℕ, nat_lt, nat_le, ◌&&◌, ◌||◌, Bool, true, false, List, [], ◌∷◌, ◌++◌, fold, drop, Option, None, Some, is_some, is_none, if◌then◌else◌}
use Rattle.std.specs.List.{filter_map, list_any, prefix_len, take_while}
use Rattle.zk_reasm.specs.declared.place.TheConstants.{PLACES}
use Rattle.zk_reasm.specs.declared.stream.Put as answer
use Rattle.zk_reasm.specs.declared.stream.Put.TheVariants.{Grew, Kept, Old, GaveUp}
use Rattle.zk_reasm.specs.Between.{places_between, held_between}
use Rattle.zk_reasm.specs.Place.{places_of}
use Rattle.zk_reasm.specs.Told.{Told, Segment, Fin, Ack, Stop, payload_end, fin_place}
use Rattle.zk_reasm.specs.Direction.{reach, byte_at, front, above}

abbrev pub is_stop : Told → Bool
is_stop (Segment seq bytes) = false
is_stop (Fin seq) = false
is_stop (Ack number) = false
is_stop Stop = true

-- a front at or past the FIN's place, which is never reached from 2^31 on
abbrev pub is_reached : Option ℕ → ℕ → Bool
is_reached None front = false
is_reached (Some fin) front = nat_lt fin PLACES && nat_le fin front

-- it was stopped, has ended, or gave up: more bytes than the limit lie above the front
unfoldable pub is_over : ℕ → ℕ → List Told → Bool
is_over base limit told =
    list_any is_stop told || (is_reached (fin_place base told) (front base told) || nat_lt limit (above base told))

-- the entries that count: those up to the one after which it is over
unfoldable pub counted : ℕ → ℕ → List Told → List Told
counted base limit told = fold (λ before entry. if is_over base limit before then before else before ++ entry ∷ []) [] told

-- it takes no more bytes and skips nothing more
abbrev pub over_of : ℕ → ℕ → List Told → Bool
over_of base limit told = is_over base limit (counted base limit told)

abbrev pub front_of : ℕ → ℕ → List Told → ℕ
front_of base limit told = front base (counted base limit told)

-- its front is at or past the FIN's place; a FIN that comes where it is over isn't one
abbrev pub ended_of : ℕ → ℕ → List Told → Bool
ended_of base limit told = is_reached (fin_place base (counted base limit told)) (front_of base limit told)

-- the byte at a place
abbrev pub byte_of_stream : ℕ → ℕ → List Told → ℕ → Option ℕ
byte_of_stream base limit told at = byte_at base (counted base limit told) at

-- The places from those that were taken on up to the front, each with its byte or as a gap.
unfoldable pub content : ℕ → ℕ → List Told → ℕ → List (Option ℕ)
content base limit told taken = places_between (byte_of_stream base limit told) taken (front_of base limit told)

-- the bytes before the first gap
abbrev pub run_of : List (Option ℕ) → List ℕ
run_of places = filter_map (λ byte. byte) (take_while is_some places)

-- how many gap places stand directly behind the run
abbrev pub gap_of : List (Option ℕ) → ℕ
gap_of places = prefix_len is_none (drop (prefix_len is_some places) places)

-- How many bytes are held: those from the taken places on. Once it is over, what lies above the front is dropped.
unfoldable pub kept_of : ℕ → ℕ → List Told → ℕ → ℕ
kept_of base limit told taken =
    held_between (byte_of_stream base limit told) taken
    (if over_of base limit told then front_of base limit told else payload_end base (counted base limit told))

-- a byte of the segment gets a place: it isn't below the reach and has no byte yet
unfoldable pub gets_place : ℕ → List Told → ℕ → List ℕ → Bool
gets_place base told seq bytes =
    list_any (λ at. nat_le (reach base told) at && is_none (byte_at base told at)) (places_of base seq bytes)

-- what a segment does where it counts
abbrev pub put_counted : ℕ → ℕ → List Told → ℕ → List ℕ → answer.Put
put_counted base limit told seq bytes =
    if nat_lt limit (above base (told ++ Segment seq bytes ∷ [])) then GaveUp
    else if nat_lt (front base told) (front base (told ++ Segment seq bytes ∷ [])) then Grew
    else if gets_place base told seq bytes then Kept
    else Old

-- what one more segment does
unfoldable pub put_of : ℕ → ℕ → List Told → ℕ → List ℕ → answer.Put
put_of base limit told seq bytes = if over_of base limit told then Old else put_counted base limit told seq bytes

-- whether one more acknowledgement moves the front
abbrev pub ack_of : ℕ → ℕ → List Told → ℕ → Bool
ack_of base limit told number = nat_lt (front_of base limit told) (front_of base limit (told ++ Ack number ∷ []))
