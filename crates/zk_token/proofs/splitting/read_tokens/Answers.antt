use Rattle.std.proofs.Common.{Ok, ap, ◌∙◌, arith}
use Rattle.std.proofs.lemmas.Result.{err_from_is_err_and}
use Rattle.zk_token.specs.Tokens.{next_token, next_or_fault, tokens_of}
use Rattle.zk_token.proofs.ItemLaws.{stand_more}
use Rattle.zk_token.proofs.TokenLaws.{handed_on, fault_next, next_found, tokens_end}
use Rattle.zk_token.proofs.splitting.read_tokens.Goals as goal

pub returns-in_err-token : goal.returns-in_err-token
returns-in_err-token c =
    let text = c.args.text.now in
    let so_far = c.loop-tokens.invariant in
    let fault = c.in_err-token.field-0.0 in
    let p = err_from_is_err_and c.from_residual.result c.from_residual.ensures.1 in
    rw (p.1, p.2) (handed_on fault (next_or_fault text c.loop-tokens.place) (tokens_of text) c.in_err-token.ensures.exact
    (λ told. fault_next text c.loop-tokens.tokens.items c.loop-tokens.place told so_far.stand (omega (arith, so_far.few, so_far.within))))

pub loop-tokens-preserved : goal.loop-tokens-preserved
loop-tokens-preserved c =
    let text = c.args.text.now in
    let so_far = c.loop-tokens.invariant in
    let here = next_found text c.loop-tokens.place (c.in-Some.token, c.in-Some.end) (c.in_ok-token.ensures.exact ∙ ap (λ found. Ok found) c.in-Some.is) in
    let within = rw c.in-Some.is at c.in_ok-token.ensures.within in
    let later = rw c.in-Some.is at c.in_ok-token.ensures.later in
    record {
      within = within;
      few = omega (arith, c.in_ok-push.ensures.len, later, so_far.few);
      stand = rw c.in_ok-push.ensures.items (stand_more (next_token text) 0 c.loop-tokens.tokens.items c.loop-tokens.place c.in-Some.token c.in-Some.end so_far.stand here);
    }

pub returns : goal.returns
returns c =
    let text = c.args.text.now in
    let so_far = c.loop-tokens.invariant in
    rw c.from.ensures (tokens_end text c.loop-tokens.tokens.items c.loop-tokens.place so_far.stand (omega (arith, so_far.few, so_far.within))
    (c.in_ok-token.ensures.exact ∙ ap (λ found. Ok found) c.in_default.is))
