use Rattle.std.proofs.Common.{arith, replicate, None}
use Rattle.zk_http.proofs.DataLaws.{goes_on_with}
use Rattle.zk_http.proofs.TurnLaws.{chunk_gap_shows, gap_alike, length-gap}
use Rattle.zk_http.proofs.turn.chunk_in_gap.Goals as goal

pub returns-then-left-count-clause-turn : goal.returns-then-left-count-clause-turn
returns-then-left-count-clause-turn c told = chunk_gap_shows c.args.reading told c.args.left c.args.count c.requires.is (omega arith)

pub returns-else-left-count-clause-turn : goal.returns-else-left-count-clause-turn
returns-else-left-count-clause-turn c told =
    c.in_chunk.ensures.turn (replicate c.args.count None) told (length-gap c.args.count) (gap_alike c.args.count)

pub returns-else-left-count-clause-content : goal.returns-else-left-count-clause-content
returns-else-left-count-clause-content c =
    goes_on_with c.args.reading.part (replicate c.args.count None) c.in_chunk.result (c.in_chunk.ensures.content (replicate c.args.count None) (length-gap c.args.count))
