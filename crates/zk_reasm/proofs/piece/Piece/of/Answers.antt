use Rattle.std.proofs.Common.{◌≡◌, ℕ, ◌-◌, ◌^◌, List, length, take, drop, min, sym, ap, ◌∙◌, arith, length-take-le, length-drop}
use Rattle.std.specs.List.{range_with_len}
use Rattle.std.proofs.Math.Seq.{take-length}
use Rattle.zk_reasm.specs.declared.place.TheConstants.{PLACES}
use Rattle.zk_reasm.specs.Piece.{byte_in}
use Rattle.zk_reasm.specs.Place.{distance}
use Rattle.zk_reasm.proofs.PlaceLemmas.{byte_in-from_place, byte_in-from_base, places_of-from_place, places_of-from_base}
use Rattle.zk_reasm.proofs.piece.Piece.of.Goals as goal

pub returns-then-at-lt-PLACES-clause-bytes : goal.returns-then-at-lt-PLACES-clause-bytes
returns-then-at-lt-PLACES-clause-bytes c = λ at.
    let is : c.from-at.result ≡ distance c.args.base c.args.seq = c.from-at.ensures ∙ c.distance.ensures in
    ap (λ d. byte_in d (take c.min.result c.args.bytes.now) at) is
    ∙ byte_in-from_place c.args.base c.args.seq c.min.result c.args.bytes.now (omega arith) (omega arith) (omega (arith, is)) (omega arith)
    (c.min.ensures ∙ ap (λ d. min (length c.args.bytes.now) (PLACES - d)) is) at

pub returns-then-at-lt-PLACES-clause-places : goal.returns-then-at-lt-PLACES-clause-places
returns-then-at-lt-PLACES-clause-places c =
    let is : c.from-at.result ≡ distance c.args.base c.args.seq = c.from-at.ensures ∙ c.distance.ensures in
    places_of-from_place c.args.base c.args.seq c.min.result c.args.bytes.now (omega arith) (omega arith) (omega (arith, is)) (omega arith)
    (c.min.ensures ∙ ap (λ d. min (length c.args.bytes.now) (PLACES - d)) is)
    ∙ ap (λ d. range_with_len d c.min.result) (sym is)
    ∙ ap (range_with_len c.from-at.result) (sym (length-take-le c.min.result c.args.bytes.now (omega (arith, c.min.ensures))))

-- the rest of a list as a slice has it
rest_taken : (m : ℕ) (xs : List ℕ) → take (length xs - m) (drop m xs) ≡ drop m xs
rest_taken m xs = ap (λ n. take n (drop m xs)) (sym (length-drop m xs)) ∙ take-length (drop m xs)

pub returns-else-at-lt-PLACES-clause-bytes : goal.returns-else-at-lt-PLACES-clause-bytes
returns-else-at-lt-PLACES-clause-bytes c = λ at.
    let is : c.from-at.result ≡ distance c.args.base c.args.seq = c.from-at.ensures ∙ c.distance.ensures in
    let m = c.min-else-at-lt-PLACES.result in
    ap (λ xs. byte_in 0 xs at) (rest_taken m c.args.bytes.now)
    ∙ byte_in-from_base c.args.base c.args.seq m c.args.bytes.now (omega arith) (omega arith) (omega (arith, is)) (omega arith)
    (c.min-else-at-lt-PLACES.ensures ∙ ap (λ d. min (length c.args.bytes.now) (2 ^ 32 - d)) is) at

pub returns-else-at-lt-PLACES-clause-places : goal.returns-else-at-lt-PLACES-clause-places
returns-else-at-lt-PLACES-clause-places c =
    let is : c.from-at.result ≡ distance c.args.base c.args.seq = c.from-at.ensures ∙ c.distance.ensures in
    let m = c.min-else-at-lt-PLACES.result in
    places_of-from_base c.args.base c.args.seq m c.args.bytes.now (omega arith) (omega arith) (omega (arith, is)) (omega arith)
    (c.min-else-at-lt-PLACES.ensures ∙ ap (λ d. min (length c.args.bytes.now) (2 ^ 32 - d)) is)
    ∙ ap (range_with_len 0) (sym (ap (λ (xs : List ℕ). length xs) (rest_taken m c.args.bytes.now) ∙ length-drop m c.args.bytes.now))
