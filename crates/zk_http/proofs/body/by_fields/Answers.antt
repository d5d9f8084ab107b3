use Rattle.std.proofs.Common.{[], sym, ap, ◌∙◌}
use Rattle.std.specs.Prelude.{codes}
use Rattle.std.proofs.lemmas.Bool.{cond-true}
use Rattle.zk_http.specs.Bodies.{by_coding, elements_of, has, last_element}
use Rattle.zk_http.proofs.body.by_fields.Goals as goal

pub returns-then-has : goal.returns-then-has
returns-then-has c =
    let coding = c.last_of-coding.ensures
    ∙ ap (λ name. last_element [] (elements_of name c.as_slice-then-has-2.result.now)) c.as_slice-then-has.ensures
    ∙ ap (λ headers. last_element [] (elements_of (codes "Transfer-Encoding") headers)) c.as_slice-then-has-2.ensures in
    let test = ap (λ name. has name c.args.head.now) (sym c.as_slice.ensures) ∙ (sym c.has.ensures ∙ c.if-has.true) in
    c.by_coding.ensures ∙ ap (λ coding. by_coding coding c.args.not_chunked) coding ∙ sym (cond-true _ _ _ test)
