use Rattle.std.proofs.Common.{sym, ◌∙◌, arith}
use Rattle.std.specs.Prelude.{codes}
use Rattle.zk_http.specs.Bodies.{has_length}
use Rattle.zk_http.proofs.ElementLaws.{fails_in_field}
use Rattle.zk_http.proofs.body.are_length.Goals as goal

pub returns-then-not-is_length : goal.returns-then-not-is_length
returns-then-not-is_length c =
    fails_in_field (has_length c.args.number) (codes "Content-Length") c.args.headers.now c.loop-header.header-index c.header-item.result c.as_slice.result.now
    (omega arith) c.header-item.is (sym c.is_content_length.ensures ∙ c.if-is_content_length.true) c.as_slice.ensures
    (sym c.is_length.ensures ∙ c.if-not-is_length.true)
