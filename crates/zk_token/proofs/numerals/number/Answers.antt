use Rattle.std.proofs.Common.{sym, ◌∙◌}
use Rattle.zk_token.proofs.DigitLaws.{number_past, number_whole}
use Rattle.zk_token.proofs.numerals.number.Goals as goal

pub returns-then-begins_digit : goal.returns-then-begins_digit
returns-then-begins_digit c =
    number_past c.args.text.now c.digits_within-value.result.1 c.digits_within-value.ensures.count (sym c.begins_digit.ensures ∙ c.if-begins_digit.true)

pub returns : goal.returns
returns c =
    let read = c.digits_within-value.ensures in
    number_whole c.args.text.now c.digits_within-value.result.1 c.digits_within-value.result.0 read.count read.value read.small (sym c.begins_digit.ensures ∙ c.if-begins_digit.false)
