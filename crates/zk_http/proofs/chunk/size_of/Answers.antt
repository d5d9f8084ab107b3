use Rattle.std.proofs.Common.{arith}
use Rattle.httparse.specs.Grammar.{HasNoChunkLine, NeverHasChunkLine}
use Rattle.zk_http.proofs.ChunkLaws.{no_size, size_answered, size_partly, size_nowhere, size_never, size_completed, size_partial, size_failed, line_within}
use Rattle.zk_http.proofs.chunk.size_of.Goals as goal

pub returns-in_default : goal.returns-in_default
returns-in_default c =
    let text = c.args.text.now in
    no_size _ (size_never text (size_failed (NeverHasChunkLine text) c.parse_chunk_size.result c.in_default.field-0 c.in_default.is c.parse_chunk_size.ensures.invalid))

pub returns-in_default-status : goal.returns-in_default-status
returns-in_default-status c =
    let text = c.args.text.now in
    no_size _ (size_nowhere text (size_partial (HasNoChunkLine text) c.parse_chunk_size.result c.in-Ok.status c.in-Ok.is c.in_default-status.is c.parse_chunk_size.ensures.partial))

pub returns-then-len-text : goal.returns-then-len-text
returns-then-len-text c =
    let text = c.args.text.now in
    let is = size_completed text c.parse_chunk_size.result c.in-Ok.status c.in-Complete.len c.in-Complete.size c.in-Ok.is c.in-Complete.is c.parse_chunk_size.ensures.complete in
    no_size _ (size_partly text c.in-Complete.len c.in-Complete.size is c.if-len-text.true)

pub returns : goal.returns
returns c =
    let text = c.args.text.now in
    let is = size_completed text c.parse_chunk_size.result c.in-Ok.status c.in-Complete.len c.in-Complete.size c.in-Ok.is c.in-Complete.is c.parse_chunk_size.ensures.complete in
    size_answered text c.in-Complete.len c.in-Complete.size is (omega (arith, line_within text c.in-Complete.len c.in-Complete.size is))
