use Rattle.std.proofs.Common.{sym, ap, ◌∙◌, arith}
use Rattle.std.specs.Prelude.{codes, option_copied}
use Rattle.zk_http.specs.Bodies.{elements_left, length_of}
use Rattle.zk_http.proofs.ElementLaws.{first_of_field}
use Rattle.zk_http.proofs.body.first_length.Goals as goal

pub returns-then-is_content_length : goal.returns-then-is_content_length
returns-then-is_content_length c =
    let first = first_of_field (codes "Content-Length") c.args.headers.now c.loop-header.header-index c.header-item.result c.as_slice.result.now
    c.first_element.result.0.now (elements_left (option_copied c.first_element.result.1))
    (omega arith) c.header-item.is c.loop-header.invariant (sym c.is_content_length.ensures ∙ c.if-is_content_length.true) c.as_slice.ensures
    c.first_element.ensures.elements in
    c.length_of.ensures ∙ ap length_of (sym first)
