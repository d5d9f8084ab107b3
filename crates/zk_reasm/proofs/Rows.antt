-- Segments that show what the definitions of `Histories` say.
use Rattle.std.proofs.Common.{◌≡◌, ℕ, List, [], ◌∷◌, ◌++◌, true, false, refl}
use Rattle.std.specs.Prelude.{codes}
use Rattle.zk_reasm.specs.declared.stream.Put.TheVariants.{Grew, Kept, Old, GaveUp}
use Rattle.zk_reasm.specs.Between.{held_between}
use Rattle.zk_reasm.specs.Place.{byte_of, places_of}
use Rattle.zk_reasm.specs.Told.{Told, Segment, Fin, Ack, Stop, payload_end, fin_place, acked}
use Rattle.zk_reasm.specs.Direction.{steps, reach, byte_at, run_end, front, above}
use Rattle.zk_reasm.specs.Histories.{is_over, counted, front_of, ended_of, content, run_of, gap_of, kept_of, gets_place, put_of, ack_of}

-- the limit where none is to be met
abbrev wide : ℕ
wide = 1000000

-- Base 100: of two copies of a byte the first stands --------------------------------------------------------------

abbrev abcd : Told
abcd = Segment 101 (codes "ABCD")

abbrev xyzz : Told
xyzz = Segment 103 (codes "xyZZ")

abcd_grows : put_of 100 wide [] 101 (codes "ABCD") ≡ Grew
unfolding put_of content kept_of gets_place counted is_over above held_between front run_end byte_at reach steps acked fin_place payload_end places_of byte_of
abcd_grows = refl

xyzz_grows : put_of 100 wide (abcd ∷ []) 103 (codes "xyZZ") ≡ Grew
unfolding put_of content kept_of gets_place counted is_over above held_between front run_end byte_at reach steps acked fin_place payload_end places_of byte_of
xyzz_grows = refl

abcd_stands : run_of (content 100 wide (abcd ∷ xyzz ∷ []) 0) ≡ codes "ABCDZZ"
unfolding put_of content kept_of gets_place counted is_over above held_between front run_end byte_at reach steps acked fin_place payload_end places_of byte_of
abcd_stands = refl

xyzz_kept : put_of 100 wide [] 103 (codes "xyZZ") ≡ Kept
unfolding put_of content kept_of gets_place counted is_over above held_between front run_end byte_at reach steps acked fin_place payload_end places_of byte_of
xyzz_kept = refl

abcd_grows_behind : put_of 100 wide (xyzz ∷ []) 101 (codes "ABCD") ≡ Grew
unfolding put_of content kept_of gets_place counted is_over above held_between front run_end byte_at reach steps acked fin_place payload_end places_of byte_of
abcd_grows_behind = refl

xyzz_stands : run_of (content 100 wide (xyzz ∷ abcd ∷ []) 0) ≡ codes "ABxyZZ"
unfolding put_of content kept_of gets_place counted is_over above held_between front run_end byte_at reach steps acked fin_place payload_end places_of byte_of
xyzz_stands = refl

third_copy_old : put_of 100 wide (xyzz ∷ abcd ∷ []) 101 (codes "Q") ≡ Old
unfolding put_of content kept_of gets_place counted is_over above held_between front run_end byte_at reach steps acked fin_place payload_end places_of byte_of
third_copy_old = refl

-- Base 0xFFFFFFFE: numbers count modulo 2^32 ----------------------------------------------------------------------

abbrev wrapped : List Told
wrapped = Segment 0xFFFFFFFF (codes "0123") ∷ Segment 3 (codes "456789") ∷ []

wrapped_front : front_of 0xFFFFFFFE wide wrapped ≡ 10
unfolding put_of content kept_of gets_place counted is_over above held_between front run_end byte_at reach steps acked fin_place payload_end places_of byte_of
wrapped_front = refl

wrapped_run : run_of (content 0xFFFFFFFE wide wrapped 0) ≡ codes "0123456789"
unfolding put_of content kept_of gets_place counted is_over above held_between front run_end byte_at reach steps acked fin_place payload_end places_of byte_of
wrapped_run = refl

-- Limit 4: it gives up above the limit, and not at it -------------------------------------------------------------

abbrev four : Told
four = Segment 2 (codes "bcde")

four_kept : put_of 0 4 [] 2 (codes "bcde") ≡ Kept
unfolding put_of content kept_of gets_place counted is_over above held_between front run_end byte_at reach steps acked fin_place payload_end places_of byte_of
four_kept = refl

fifth_gives_up : put_of 0 4 (four ∷ []) 6 (codes "f") ≡ GaveUp
unfolding put_of content kept_of gets_place counted is_over above held_between front run_end byte_at reach steps acked fin_place payload_end places_of byte_of
fifth_gives_up = refl

first_late_old : put_of 0 4 (four ∷ Segment 6 (codes "f") ∷ []) 1 (codes "a") ≡ Old
unfolding put_of content kept_of gets_place counted is_over above held_between front run_end byte_at reach steps acked fin_place payload_end places_of byte_of
first_late_old = refl

first_late_front : front_of 0 4 (four ∷ Segment 6 (codes "f") ∷ Segment 1 (codes "a") ∷ []) ≡ 0
unfolding put_of content kept_of gets_place counted is_over above held_between front run_end byte_at reach steps acked fin_place payload_end places_of byte_of
first_late_front = refl

-- what lies above the front is dropped
given_up_kept : kept_of 0 4 (four ∷ Segment 6 (codes "f") ∷ []) 0 ≡ 0
unfolding put_of content kept_of gets_place counted is_over above held_between front run_end byte_at reach steps acked fin_place payload_end places_of byte_of
given_up_kept = refl

-- A hole that the peer acknowledged is a gap ----------------------------------------------------------------------

abbrev holed : List Told
holed = Segment 1 (codes "AB") ∷ Segment 5 (codes "EF") ∷ []

abbrev skipped : List Told
skipped = Segment 1 (codes "AB") ∷ Segment 5 (codes "EF") ∷ Ack 7 ∷ []

hole_acked : ack_of 0 wide holed 7 ≡ true
unfolding put_of content kept_of gets_place counted is_over above held_between front run_end byte_at reach steps acked fin_place payload_end places_of byte_of
hole_acked = refl

hole_front : front_of 0 wide skipped ≡ 6
unfolding put_of content kept_of gets_place counted is_over above held_between front run_end byte_at reach steps acked fin_place payload_end places_of byte_of
hole_front = refl

hole_run : run_of (content 0 wide skipped 0) ≡ codes "AB"
unfolding put_of content kept_of gets_place counted is_over above held_between front run_end byte_at reach steps acked fin_place payload_end places_of byte_of
hole_run = refl

hole_gap : gap_of (content 0 wide skipped 0) ≡ 2
unfolding put_of content kept_of gets_place counted is_over above held_between front run_end byte_at reach steps acked fin_place payload_end places_of byte_of
hole_gap = refl

behind_hole_run : run_of (content 0 wide skipped 4) ≡ codes "EF"
unfolding put_of content kept_of gets_place counted is_over above held_between front run_end byte_at reach steps acked fin_place payload_end places_of byte_of
behind_hole_run = refl

behind_hole_gap : gap_of (content 0 wide skipped 4) ≡ 0
unfolding put_of content kept_of gets_place counted is_over above held_between front run_end byte_at reach steps acked fin_place payload_end places_of byte_of
behind_hole_gap = refl

-- a byte below the reach comes too late
hole_late_old : put_of 0 wide skipped 3 (codes "CD") ≡ Old
unfolding put_of content kept_of gets_place counted is_over above held_between front run_end byte_at reach steps acked fin_place payload_end places_of byte_of
hole_late_old = refl

hole_late_gap : gap_of (content 0 wide (skipped ++ Segment 3 (codes "CD") ∷ []) 0) ≡ 2
unfolding put_of content kept_of gets_place counted is_over above held_between front run_end byte_at reach steps acked fin_place payload_end places_of byte_of
hole_late_gap = refl

abbrev half : List Told
half = Segment 1 (codes "AB") ∷ Segment 5 (codes "EF") ∷ Ack 4 ∷ []

half_front : front_of 0 wide half ≡ 3
unfolding put_of content kept_of gets_place counted is_over above held_between front run_end byte_at reach steps acked fin_place payload_end places_of byte_of
half_front = refl

half_rest_grows : put_of 0 wide half 4 (codes "D") ≡ Grew
unfolding put_of content kept_of gets_place counted is_over above held_between front run_end byte_at reach steps acked fin_place payload_end places_of byte_of
half_rest_grows = refl

half_rest_front : front_of 0 wide (half ++ Segment 4 (codes "D") ∷ []) ≡ 6
unfolding put_of content kept_of gets_place counted is_over above held_between front run_end byte_at reach steps acked fin_place payload_end places_of byte_of
half_rest_front = refl

half_rest_run : run_of (content 0 wide (half ++ Segment 4 (codes "D") ∷ []) 3) ≡ codes "DEF"
unfolding put_of content kept_of gets_place counted is_over above held_between front run_end byte_at reach steps acked fin_place payload_end places_of byte_of
half_rest_run = refl

-- what isn't known to have been sent is not skipped
unknown_not_acked : ack_of 0 wide (Segment 1 (codes "AB") ∷ []) 9 ≡ false
unfolding put_of content kept_of gets_place counted is_over above held_between front run_end byte_at reach steps acked fin_place payload_end places_of byte_of
unknown_not_acked = refl

-- The FIN ---------------------------------------------------------------------------------------------------------

-- it moves no front
fin_waits : front_of 0 wide (Segment 1 (codes "AB") ∷ Ack 5 ∷ Fin 5 ∷ []) ≡ 2
unfolding put_of content kept_of gets_place counted is_over above held_between front run_end byte_at reach steps acked fin_place payload_end places_of byte_of
fin_waits = refl

-- its own segment does
fin_skips : put_of 0 wide (Segment 1 (codes "AB") ∷ Ack 5 ∷ Fin 5 ∷ []) 5 [] ≡ Grew
unfolding put_of content kept_of gets_place counted is_over above held_between front run_end byte_at reach steps acked fin_place payload_end places_of byte_of
fin_skips = refl

-- the bytes that come with a FIN are not below the reach that it allows
fin_own_bytes : run_of (content 0 wide (Segment 1 (codes "AB") ∷ Ack 5 ∷ Fin 5 ∷ Segment 3 (codes "CD") ∷ []) 0) ≡ codes "ABCD"
unfolding put_of content kept_of gets_place counted is_over above held_between front run_end byte_at reach steps acked fin_place payload_end places_of byte_of
fin_own_bytes = refl

-- the first one counts
fin_first : ended_of 0 wide (Segment 1 (codes "AB") ∷ Fin 4 ∷ Fin 3 ∷ []) ≡ false
unfolding put_of content kept_of gets_place counted is_over above held_between front run_end byte_at reach steps acked fin_place payload_end places_of byte_of
fin_first = refl

fin_reached : ended_of 0 wide (Segment 1 (codes "AB") ∷ Fin 3 ∷ []) ≡ true
unfolding put_of content kept_of gets_place counted is_over above held_between front run_end byte_at reach steps acked fin_place payload_end places_of byte_of
fin_reached = refl

-- the front stops there
fin_behind : front_of 0 wide (Fin 2 ∷ Segment 1 (codes "AB") ∷ []) ≡ 1
unfolding put_of content kept_of gets_place counted is_over above held_between front run_end byte_at reach steps acked fin_place payload_end places_of byte_of
fin_behind = refl

-- and the bytes past it lie above the front
fin_gives_up : put_of 0 4 (Fin 2 ∷ []) 1 (codes "ABCDEF") ≡ GaveUp
unfolding put_of content kept_of gets_place counted is_over above held_between front run_end byte_at reach steps acked fin_place payload_end places_of byte_of
fin_gives_up = refl

-- the place 2^32 - 1 is never reached
fin_of_base : ended_of 0 wide (Fin 0 ∷ []) ≡ false
unfolding put_of content kept_of gets_place counted is_over above held_between front run_end byte_at reach steps acked fin_place payload_end places_of byte_of
fin_of_base = refl

-- A stream that was stopped ---------------------------------------------------------------------------------------

stopped_old : put_of 0 wide (Stop ∷ []) 1 (codes "A") ≡ Old
unfolding put_of content kept_of gets_place counted is_over above held_between front run_end byte_at reach steps acked fin_place payload_end places_of byte_of
stopped_old = refl

stopped_not_acked : ack_of 0 wide (holed ++ Stop ∷ []) 7 ≡ false
unfolding put_of content kept_of gets_place counted is_over above held_between front run_end byte_at reach steps acked fin_place payload_end places_of byte_of
stopped_not_acked = refl

-- a FIN that comes then isn't one
stopped_not_ended : ended_of 0 wide (Segment 1 (codes "AB") ∷ Stop ∷ Fin 3 ∷ []) ≡ false
unfolding put_of content kept_of gets_place counted is_over above held_between front run_end byte_at reach steps acked fin_place payload_end places_of byte_of
stopped_not_ended = refl

stopped_keeps : kept_of 0 wide (holed ++ Stop ∷ []) 0 ≡ 2
unfolding put_of content kept_of gets_place counted is_over above held_between front run_end byte_at reach steps acked fin_place payload_end places_of byte_of
stopped_keeps = refl

-- Base 0: a FIN that is told ahead moves the reach at the first part of a segment, so that the second comes too late ----

abbrev fin_ahead : List Told
fin_ahead = Ack 11 ∷ Fin 11 ∷ []

fin_ahead_whole : run_of (content 0 wide (fin_ahead ++ Segment 1 (codes "AB") ∷ []) 0) ≡ codes "AB"
unfolding put_of content kept_of gets_place counted is_over above held_between front run_end byte_at reach steps acked fin_place payload_end places_of byte_of
fin_ahead_whole = refl

fin_ahead_parts : run_of (content 0 wide (fin_ahead ++ Segment 1 (codes "A") ∷ Segment 2 (codes "B") ∷ []) 0) ≡ codes "A"
unfolding put_of content kept_of gets_place counted is_over above held_between front run_end byte_at reach steps acked fin_place payload_end places_of byte_of
fin_ahead_parts = refl
