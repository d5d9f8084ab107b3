use Rattle.std.proofs.Common.{◌+◌}
use Rattle.std.proofs.lemmas.Result.{err_from_is_err_and}
use Rattle.zk_token.specs.Tokens.{next_or_fault}
use Rattle.zk_token.proofs.TokenLaws.{handed_on, token_or_fault, left_behind, next_read_ok, next_read_err}
use Rattle.zk_token.proofs.splitting.next_token.Goals as goal

pub returns-in_err-kind-clause-exact : goal.returns-in_err-kind-clause-exact
returns-in_err-kind-clause-exact c =
    let text = c.args.text.now in
    let place = c.args.place in
    let skipped = c.separators.result in
    let fault = c.in_err-kind.field-0.0 in
    let inside = left_behind text place skipped c.requires c.separators.ensures.within c.if-start-text.false in
    let p = err_from_is_err_and c.from_residual.result c.from_residual.ensures.1 in
    rw (p.1, p.2) (handed_on fault (token_or_fault text (place + skipped)) (next_or_fault text place) c.in_err-kind.ensures.exact
    (λ told. next_read_err text place skipped told c.separators.ensures.exact inside))

pub returns-clause-exact : goal.returns-clause-exact
returns-clause-exact c =
    let text = c.args.text.now in
    let inside = left_behind text c.args.place c.separators.result c.requires c.separators.ensures.within c.if-start-text.false in
    next_read_ok text c.args.place c.separators.result c.in_ok-kind.kind c.in_ok-kind.len c.separators.ensures.exact inside c.in_ok-kind.ensures.exact
