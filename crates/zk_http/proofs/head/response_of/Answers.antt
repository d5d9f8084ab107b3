use Rattle.std.proofs.Common.{arith, sym, ◌∙◌}
use Rattle.httparse.specs.Grammar.{HasNoResponse}
use Rattle.httparse.specs.Spans.{IsResponseOf, IsResponseWithin, ResponseOverflows}
use Rattle.zk_http.proofs.HeadLaws.{nothing_found, response_answered, response_partly, response_nowhere, response_overflows, completed, partly, failed}
use Rattle.zk_http.proofs.head.response_of.Goals as goal

pub returns-in_default : goal.returns-in_default
returns-in_default c few =
    let text = c.args.text.now in
    let over = failed (ResponseOverflows 100 text) c.parse_response.result c.in_default.field-0 c.in_default.is c.parse_response.ensures.no_room in
    nothing_found _ (response_overflows text over few)

pub returns-in_default-status : goal.returns-in_default-status
returns-in_default-status c few =
    let text = c.args.text.now in
    let none = partly (HasNoResponse text) c.parse_response.result c.in-Ok.status c.in-Ok.is c.in_default-status.is c.parse_response.ensures.partial in
    nothing_found _ (response_nowhere text none)

pub returns-then-response-text : goal.returns-then-response-text
returns-then-response-text c few =
    let text = c.args.text.now in
    let spans = c.parse_response.new.headers in
    let is = completed (IsResponseOf text spans) c.parse_response.result c.in-Ok.status c.in-Complete.response c.in-Ok.is c.in-Complete.is c.parse_response.ensures.complete in
    nothing_found _ (response_partly text spans c.in-Complete.response is (omega arith) (λ same. omega arith))

pub returns : goal.returns
returns c few =
    let text = c.args.text.now in
    let spans = c.parse_response.new.headers in
    let is = completed (IsResponseOf text spans) c.parse_response.result c.in-Ok.status c.in-Complete.response c.in-Ok.is c.in-Complete.is c.parse_response.ensures.complete in
    let within = completed (IsResponseWithin text spans) c.parse_response.result c.in-Ok.status c.in-Complete.response c.in-Ok.is c.in-Complete.is c.parse_response.ensures.within in
    let answered = response_answered text spans c.in-Complete.response is (omega (arith, within.section.len_fits)) in
    let reason = c.in_ok-reason.ensures ∙ c.of.ensures in
    let headers = c.in_ok-headers.ensures in
    rw (reason, headers) (sym answered)
