use Rattle.zk_dns.proofs.ContentLemmas.{answer-known, answer-told, resource-named}
use Rattle.zk_dns.proofs.content.answer.Goals as goal

pub name_text-requires-clause-name : goal.name_text-requires-clause-name
name_text-requires-clause-name c = resource-named _ _ c.requires.read

pub what-requires-clause-whole : goal.what-requires-clause-whole
what-requires-clause-whole c = (answer-known c.args.bytes _ _ _ c.requires.read c.read-behind.ensures).0

pub what-requires-clause-read : goal.what-requires-clause-read
what-requires-clause-read c = (answer-known c.args.bytes _ _ _ c.requires.read c.read-behind.ensures).1

pub returns : goal.returns
returns c = λ resource next found.
    let part = c.read-behind.ensures resource next found in
    (answer-told c.args.bytes c.args.place _ _ _ resource next found part.0 c.in_ok-name_text.ensures c.in_ok-what.ensures, part.1)
