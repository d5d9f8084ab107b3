use Rattle.std.proofs.Common.{Some, sym, ap, ◌∙◌}
use Rattle.zk_http.specs.Grammar.{AreRequests, AreResponses, AreSizes}
use Rattle.zk_http.proofs.ChunkLaws.{size_read, size_found}
use Rattle.zk_http.proofs.HeadLaws.{request_read, request_found, response_read, response_found}
use Rattle.zk_http.proofs.laws.heads_and_chunk_lines.Goals as goal

requests : AreRequests
requests text found = (
  λ is. let head = request_found text found is in (head.0, head.1, head.2),
  λ head. request_read text head.0 head.1 ∙ ap (λ found. Some found) (sym head.2),
)

responses : AreResponses
responses text found = (
  λ is. let head = response_found text found is in (head.0, head.1, head.2),
  λ head. response_read text head.0 head.1 ∙ ap (λ found. Some found) (sym head.2),
)

sizes : AreSizes
sizes text size = (size_found text size, λ line. size_read text line.0 line.1 ∙ ap (λ n. Some n) (sym line.2))

pub returns : goal.returns
returns c = record { requests = requests; responses = responses; sizes = sizes }
