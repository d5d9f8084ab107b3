use Rattle.std.proofs.Common.{arith, sym, ◌∙◌}
use Rattle.httparse.specs.Grammar.{HasNoRequest}
use Rattle.httparse.specs.Spans.{IsRequestOf, IsRequestWithin, RequestOverflows}
use Rattle.zk_http.proofs.HeadLaws.{nothing_found, request_answered, request_partly, request_nowhere, request_overflows, completed, partly, failed}
use Rattle.zk_http.proofs.head.request_of.Goals as goal

pub returns-in_default : goal.returns-in_default
returns-in_default c few =
    let text = c.args.text.now in
    let over = failed (RequestOverflows 100 text) c.parse_request.result c.in_default.field-0 c.in_default.is c.parse_request.ensures.no_room in
    nothing_found _ (request_overflows text over few)

pub returns-in_default-status : goal.returns-in_default-status
returns-in_default-status c few =
    let text = c.args.text.now in
    let none = partly (HasNoRequest text) c.parse_request.result c.in-Ok.status c.in-Ok.is c.in_default-status.is c.parse_request.ensures.partial in
    nothing_found _ (request_nowhere text none)

pub returns-then-request-text : goal.returns-then-request-text
returns-then-request-text c few =
    let text = c.args.text.now in
    let spans = c.parse_request.new.headers in
    let is = completed (IsRequestOf text spans) c.parse_request.result c.in-Ok.status c.in-Complete.request c.in-Ok.is c.in-Complete.is c.parse_request.ensures.complete in
    nothing_found _ (request_partly text spans c.in-Complete.request is (omega arith) (λ same. omega arith))

pub returns : goal.returns
returns c few =
    let text = c.args.text.now in
    let spans = c.parse_request.new.headers in
    let is = completed (IsRequestOf text spans) c.parse_request.result c.in-Ok.status c.in-Complete.request c.in-Ok.is c.in-Complete.is c.parse_request.ensures.complete in
    let within = completed (IsRequestWithin text spans) c.parse_request.result c.in-Ok.status c.in-Complete.request c.in-Ok.is c.in-Complete.is c.parse_request.ensures.within in
    let answered = request_answered text spans c.in-Complete.request is (omega (arith, within.section.len_fits)) in
    let method = c.in_ok-method.ensures ∙ c.of.ensures in
    let target = c.in_ok-target.ensures ∙ c.of-2.ensures in
    let headers = c.in_ok-headers.ensures in
    rw (method, target, headers) (sym answered)
