use Rattle.std.proofs.Common.{take, subst}
use Rattle.zk_http.specs.Chunks.{chunk_line_limit}
use Rattle.zk_http.specs.Heads.{head_limit}
use Rattle.zk_http.specs.Reading.{KnowsIn}
use Rattle.zk_http.specs.Search.{Knows}
use Rattle.zk_http.specs.Turns.{places_of}
use Rattle.zk_http.specs.declared.search.Ending.TheVariants as ending
use Rattle.zk_http.proofs.FollowLaws.{before_gap-places, length-places}
use Rattle.zk_http.proofs.TurnLaws.{bytes_alike}
use Rattle.zk_http.proofs.turn.read_bytes.Goals as goal

pub returns-in-Places-clause-turn : goal.returns-in-Places-clause-turn
returns-in-Places-clause-turn c knows =
    c.in_places.ensures.turn (places_of c.args.bytes.now) c.args.ended (length-places c.args.bytes.now) (bytes_alike c.args.bytes.now)

pub returns-in-ToEnd-clause-turn : goal.returns-in-ToEnd-clause-turn
returns-in-ToEnd-clause-turn c knows =
    c.to_end.ensures.turn (places_of c.args.bytes.now) (length-places c.args.bytes.now) (bytes_alike c.args.bytes.now)

pub returns-in-Chunk-clause-turn : goal.returns-in-Chunk-clause-turn
returns-in-Chunk-clause-turn c knows =
    c.in_chunk.ensures.turn (places_of c.args.bytes.now) c.args.ended (length-places c.args.bytes.now) (bytes_alike c.args.bytes.now)

pub returns-in-Return-clause-turn : goal.returns-in-Return-clause-turn
returns-in-Return-clause-turn c knows = c.line_return.ensures.turn c.args.ended

pub returns-in-Feed-clause-turn : goal.returns-in-Feed-clause-turn
returns-in-Feed-clause-turn c knows = c.line_feed.ensures.turn c.args.ended

pub returns-in-Size-clause-turn : goal.returns-in-Size-clause-turn
returns-in-Size-clause-turn c knows =
    c.size.ensures.turn c.args.ended
    (subst (λ all. Knows c.in-Size.search ending.Line (take chunk_line_limit all)) (before_gap-places c.args.bytes.now)
    (subst (λ part. KnowsIn part (places_of c.args.bytes.now)) c.in-Size.is knows))

pub returns-in-Trailer-clause-turn : goal.returns-in-Trailer-clause-turn
returns-in-Trailer-clause-turn c knows =
    c.trailer.ensures.turn c.args.ended
    (subst (λ all. Knows c.in-Trailer.search ending.Section (take head_limit all)) (before_gap-places c.args.bytes.now)
    (subst (λ part. KnowsIn part (places_of c.args.bytes.now)) c.in-Trailer.is knows))

pub returns-in-Size-clause-content : goal.returns-in-Size-clause-content
returns-in-Size-clause-content c knows =
    c.size.ensures.content
    (subst (λ all. Knows c.in-Size.search ending.Line (take chunk_line_limit all)) (before_gap-places c.args.bytes.now)
    (subst (λ part. KnowsIn part (places_of c.args.bytes.now)) c.in-Size.is knows))

pub returns-in-Places-clause-content : goal.returns-in-Places-clause-content
returns-in-Places-clause-content c knows = c.in_places.ensures.content (places_of c.args.bytes.now) (length-places c.args.bytes.now)

pub returns-in-ToEnd-clause-content : goal.returns-in-ToEnd-clause-content
returns-in-ToEnd-clause-content c knows = c.to_end.ensures.content (places_of c.args.bytes.now) (length-places c.args.bytes.now)

pub returns-in-Chunk-clause-content : goal.returns-in-Chunk-clause-content
returns-in-Chunk-clause-content c knows = c.in_chunk.ensures.content (places_of c.args.bytes.now) (length-places c.args.bytes.now)
