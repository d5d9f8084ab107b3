use Rattle.std.proofs.Common.{◌+◌, ◌*◌, slice_index, sym, ap, ◌∙◌, arith}
use Rattle.std.specs.Char.{digit_value}
use Rattle.std.proofs.lemmas.Int.Digits.{digits_value_more}
use Rattle.zk_token.proofs.DigitLaws.{with_digit-some, digits_within-step}
use Rattle.zk_token.proofs.numerals.digits_within.Goals as goal

pub loop-index-preserved : goal.loop-index-preserved
loop-index-preserved c =
    let text = c.args.text.now in
    let place = c.loop-index.index in
    let so_far = c.loop-index.invariant in
    let found = sym c.with_digit.ensures ∙ c.in-Some.is in
    let one = with_digit-some c.args.most c.loop-index.value (slice_index text place) c.in-Some.more found in
    let step = digits_within-step c.args.most c.loop-index.value text place c.in-Some.more c.loop-index-test.true found in
    record {
      value = sym one.is ∙ ap (λ v. v * 10 + digit_value (slice_index text place)) so_far.value ∙ sym (digits_value_more 10 text place c.loop-index-test.true);
      count = omega (arith, so_far.count, step);
      small = one.small;
    }
