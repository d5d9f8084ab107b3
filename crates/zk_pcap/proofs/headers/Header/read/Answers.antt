use Rattle.std.proofs.Common.{◌∙◌, arith}
use Rattle.zk_pcap.proofs.HeaderLaws.{header_of-found, header_of-only}
use Rattle.zk_pcap.proofs.headers.Header.read.Goals as goal

pub returns-clause-found : goal.returns-clause-found
returns-clause-found c = header_of-found c.args.bytes.now c.judged.result c.judged.ensures

pub returns-clause-only : goal.returns-clause-only
returns-clause-only c header has =
    c.judged.ensures ∙ header_of-only c.args.bytes.now (λ i. omega (arith, c.type_inv.bytes i)) header has
