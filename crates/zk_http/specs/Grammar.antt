-- What heads and chunk lines are, by the grammar that `httparse` states.
use Rattle.std.specs.Prelude.{◌≡◌, ◌↔◌, ℕ, List, [], Some}
use Rattle.httparse.specs.Grammar.{RequestHead, ReadsRequest, ResponseHead, ReadsResponse, ChunkLine, ReadsChunkLine, chunk_size}
use Rattle.zk_base.specs.declared.network.Side.TheVariants.{Orig, Resp}
use Rattle.zk_http.specs.declared.units.Head.{Head}
use Rattle.zk_http.specs.Chunks.{size_of}
use Rattle.zk_http.specs.Heads.{request_head, response_head, head_of}

-- A text is the head of a request exactly where it is one of the grammar, with nothing behind it.
abbrev pub AreRequests : Type 0
AreRequests = (text : List ℕ) (found : Head) → (head_of Orig text ≡ Some found) ↔ ((head : RequestHead) × ReadsRequest text head [] × (found ≡ request_head head))

-- the same of a response
abbrev pub AreResponses : Type 0
AreResponses = (text : List ℕ) (found : Head) → (head_of Resp text ≡ Some found) ↔ ((head : ResponseHead) × ReadsResponse text head [] × (found ≡ response_head head))

-- A text tells the size of a chunk exactly where it is a chunk line of the grammar, with nothing behind it.
abbrev pub AreSizes : Type 0
AreSizes = (text : List ℕ) (size : ℕ) → (size_of text ≡ Some size) ↔ ((line : ChunkLine) × ReadsChunkLine text line [] × (size ≡ chunk_size line))
