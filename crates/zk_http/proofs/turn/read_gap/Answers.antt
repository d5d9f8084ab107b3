use Rattle.std.proofs.Common.{◌≡◌, ◌+◌, [], ◌++◌, true, false, take, replicate, None, refl, sym, ap, subst, ◌∙◌, arith}
use Rattle.zk_http.specs.Chunks.{chunk_line_limit}
use Rattle.zk_http.specs.Heads.{head_limit}
use Rattle.zk_http.specs.BodyBytes.{bytes_at}
use Rattle.zk_http.specs.Reading.{bound_in, data_from, seen_in}
use Rattle.zk_http.specs.Turns.{places_of, read_in}
use Rattle.zk_http.specs.declared.state.Part.TheVariants.{ToEnd}
use Rattle.zk_http.specs.declared.turn.Turn.TheVariants.{On}
use Rattle.zk_http.proofs.DataLaws.{data_in_gap, goes_on_with, line_in_gap, none_in_gap}
use Rattle.zk_http.proofs.GapLaws.{feed_gap_shows, return_gap_shows, size_gap_shows, part_gap_shows, turn_in_gap, gap_counts}
use Rattle.zk_http.proofs.TurnLaws.{gap_alike, to_end_turn, length-gap}
use Rattle.zk_http.specs.Turns.{IsTurn}
use Rattle.zk_http.proofs.turn.read_gap.Goals as goal

pub returns-in-Places-clause-turn : goal.returns-in-Places-clause-turn
returns-in-Places-clause-turn c told bytes all knows =
    let none : seen_in c.args.reading.part ≡ 0 = ap seen_in c.in-Places.is in
    turn_in_gap c.args.reading told bytes c.args.unused c.args.count c.in_places.result (omega arith) all
    (c.in_places.ensures.turn (replicate c.args.count None) told (length-gap c.args.count) (gap_alike c.args.count))

pub returns-in-Places-clause-counts : goal.returns-in-Places-clause-counts
returns-in-Places-clause-counts c =
    let none : seen_in c.args.reading.part ≡ 0 = ap seen_in c.in-Places.is in
    gap_counts c.args.reading c.args.unused c.args.count c.in_places.result (omega arith) c.in_places.ensures.counts c.in_places.ensures.all

pub returns-in-Chunk-clause-turn : goal.returns-in-Chunk-clause-turn
returns-in-Chunk-clause-turn c told bytes all knows =
    let none : seen_in c.args.reading.part ≡ 0 = ap seen_in c.in-Chunk.is in
    turn_in_gap c.args.reading told bytes c.args.unused c.args.count c.chunk_in_gap.result (omega arith) all (c.chunk_in_gap.ensures.turn told)

pub returns-in-Chunk-clause-counts : goal.returns-in-Chunk-clause-counts
returns-in-Chunk-clause-counts c =
    let none : seen_in c.args.reading.part ≡ 0 = ap seen_in c.in-Chunk.is in
    gap_counts c.args.reading c.args.unused c.args.count c.chunk_in_gap.result (omega arith) c.chunk_in_gap.ensures.counts c.chunk_in_gap.ensures.all

pub returns-in-ToEnd-clause-turn : goal.returns-in-ToEnd-clause-turn
returns-in-ToEnd-clause-turn c told bytes all knows =
    let reading = c.args.reading in
    let none : seen_in c.args.reading.part ≡ 0 = ap seen_in c.in-ToEnd.is in
    let new_is : c.behind.result ≡ record { part = ToEnd; header = reading.header; body = reading.body + c.args.count; gap = reading.gap + c.args.count } =
    c.behind.ensures ∙ ap (λ part. record { part = part; header = reading.header; body = reading.body + c.args.count; gap = reading.gap + c.args.count }) c.in-ToEnd.is in
    turn_in_gap reading told bytes c.args.unused c.args.count (On c.args.count c.behind.result) (omega arith) all
    (to_end_turn reading c.behind.result false c.args.count true (replicate c.args.count None) c.in-ToEnd.is (gap_alike c.args.count)
    (length-gap c.args.count) refl new_is).0

pub returns-in-Size-clause-turn : goal.returns-in-Size-clause-turn
returns-in-Size-clause-turn c told bytes all knows =
    let reading = c.args.reading in
    let seen : seen_in reading.part ≡ c.in-Size.field-0.seen = ap seen_in c.in-Size.is in
    let bound : bound_in reading.part ≡ chunk_line_limit = ap bound_in c.in-Size.is in
    subst (λ turn. IsTurn reading told (places_of bytes ++ replicate c.args.count None) turn) (sym c.behind_bytes.ensures)
    (size_gap_shows reading told c.in-Size.field-0 bytes c.args.unused c.args.count c.in-Size.is c.requires.some (omega arith) (omega arith) all knows)

pub returns-in-Trailer-clause-turn : goal.returns-in-Trailer-clause-turn
returns-in-Trailer-clause-turn c told bytes all knows =
    let reading = c.args.reading in
    let seen : seen_in reading.part ≡ c.in-Trailer.field-0.seen = ap seen_in c.in-Trailer.is in
    let bound : bound_in reading.part ≡ head_limit = ap bound_in c.in-Trailer.is in
    subst (λ turn. IsTurn reading told (places_of bytes ++ replicate c.args.count None) turn) (sym c.behind_bytes-in-Trailer.ensures)
    (part_gap_shows reading told c.in-Trailer.field-0 bytes c.args.unused c.args.count c.in-Trailer.is c.requires.some (omega arith) (omega arith) all knows)

pub returns-in-Places-clause-content : goal.returns-in-Places-clause-content
returns-in-Places-clause-content c bytes all knows =
    let none : seen_in c.args.reading.part ≡ 0 = ap seen_in c.in-Places.is in
    data_in_gap c.args.reading.part bytes c.args.unused c.args.count c.in_places.result (omega arith) all
    (goes_on_with c.args.reading.part (replicate c.args.count None) c.in_places.result (c.in_places.ensures.content (replicate c.args.count None) (length-gap c.args.count)))

pub returns-in-Places-clause-none : goal.returns-in-Places-clause-none
returns-in-Places-clause-none c bytes all knows =
    let none : seen_in c.args.reading.part ≡ 0 = ap seen_in c.in-Places.is in
    none_in_gap c.args.reading.part bytes c.args.unused (read_in c.in_places.result) c.args.count (omega arith) all

pub returns-in-Chunk-clause-content : goal.returns-in-Chunk-clause-content
returns-in-Chunk-clause-content c bytes all knows =
    let none : seen_in c.args.reading.part ≡ 0 = ap seen_in c.in-Chunk.is in
    data_in_gap c.args.reading.part bytes c.args.unused c.args.count c.chunk_in_gap.result (omega arith) all
    (c.chunk_in_gap.ensures.content)

pub returns-in-Chunk-clause-none : goal.returns-in-Chunk-clause-none
returns-in-Chunk-clause-none c bytes all knows =
    let none : seen_in c.args.reading.part ≡ 0 = ap seen_in c.in-Chunk.is in
    none_in_gap c.args.reading.part bytes c.args.unused (read_in c.chunk_in_gap.result) c.args.count (omega arith) all

pub returns-in-ToEnd-clause-none : goal.returns-in-ToEnd-clause-none
returns-in-ToEnd-clause-none c bytes all knows =
    let none : seen_in c.args.reading.part ≡ 0 = ap seen_in c.in-ToEnd.is in
    none_in_gap c.args.reading.part bytes c.args.unused c.args.count c.args.count (omega arith) all

pub returns-in-Size-clause-none : goal.returns-in-Size-clause-none
returns-in-Size-clause-none c bytes all knows =
    let seen : seen_in c.args.reading.part ≡ c.in-Size.field-0.seen = ap seen_in c.in-Size.is in
    let bound : bound_in c.args.reading.part ≡ chunk_line_limit = ap bound_in c.in-Size.is in
    subst (λ turn. bytes_at (data_from c.args.reading.part (take (read_in turn) (places_of bytes ++ replicate c.args.count None))) ≡ []) (sym c.behind_bytes.ensures)
    (line_in_gap c.args.reading.part c.in-Size.field-0 bytes c.args.unused c.args.count c.in-Size.is c.requires.some (omega arith) (omega arith) all knows)

pub returns-in-Return-clause-turn : goal.returns-in-Return-clause-turn
returns-in-Return-clause-turn c told bytes all knows =
    let none : seen_in c.args.reading.part ≡ 0 = ap seen_in c.in-Return.is in
    subst (λ turn. IsTurn c.args.reading told (places_of bytes ++ replicate c.args.count None) turn) (sym c.behind_bytes-in-Return.ensures)
    (return_gap_shows c.args.reading told bytes c.args.unused c.args.count c.in-Return.is c.requires.some (omega arith) all)

pub returns-in-Feed-clause-turn : goal.returns-in-Feed-clause-turn
returns-in-Feed-clause-turn c told bytes all knows =
    let none : seen_in c.args.reading.part ≡ 0 = ap seen_in c.in-Feed.is in
    subst (λ turn. IsTurn c.args.reading told (places_of bytes ++ replicate c.args.count None) turn) (sym c.behind_bytes-in-Feed.ensures)
    (feed_gap_shows c.args.reading told bytes c.args.unused c.args.count c.in-Feed.is c.requires.some (omega arith) all)
