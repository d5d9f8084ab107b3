use Rattle.std.proofs.Common.{◌≡◌, ℤ, pos, int_div, ◌*ℤ◌, ap, subst, ◌∙◌, sym}
use Rattle.jiff_core.specs.DateTime.{civil_nanos}
use Rattle.zk_ascii.specs.Dates.{clock_of, FitsDigits}
use Rattle.zk_ascii.proofs.DateLemmas.{IsShownAt, shown_at, digits_fit, same_clock, without_sign_16, without_sign_8, plus_none, seconds_are}
use Rattle.zk_ascii.proofs.dates.clock_at.Goals as goal

nanos : (c : goal.After-unsigned_abs-6) → civil_nanos c.to_datetime-shown.result ≡ int_div c.args.at.0 (pos 1_000_000) *ℤ pos 1_000_000_000
nanos c = c.to_datetime-shown.ensures ∙ plus_none c.in-Ok.instant.nanosecond ∙ c.in-Ok.ensures.value
    ∙ ap (λ z. z *ℤ pos 1_000_000_000) (seconds_are c.args.at.0 c.requires.0 c.requires.1)

shows : (c : goal.After-unsigned_abs-6) → IsShownAt c.to_datetime-shown.result (clock_of c.args.at)
shows c = shown_at c.args.at c.to_datetime-shown.result c.requires (nanos c)

pub returns-clause-clock : goal.returns-clause-clock
returns-clause-clock c =
    let shown = shows c in
    let fits = digits_fit c.to_datetime-shown.result (clock_of c.args.at) shown in
    same_clock _ (clock_of c.args.at)
    (without_sign_16 c.year.result (clock_of c.args.at).year c.unsigned_abs.result (c.year.ensures ∙ shown.year) fits.years c.unsigned_abs.ensures.value)
    (without_sign_8 c.month.result (clock_of c.args.at).month c.unsigned_abs-2.result (c.month.ensures ∙ ap pos shown.month) fits.months c.unsigned_abs-2.ensures.value)
    (without_sign_8 c.day.result (clock_of c.args.at).day c.unsigned_abs-3.result (c.day.ensures ∙ ap pos shown.day) fits.days c.unsigned_abs-3.ensures.value)
    (without_sign_8 c.hour.result (clock_of c.args.at).hour c.unsigned_abs-4.result (c.hour.ensures ∙ ap pos shown.hour) fits.hours c.unsigned_abs-4.ensures.value)
    (without_sign_8 c.minute.result (clock_of c.args.at).minute c.unsigned_abs-5.result (c.minute.ensures ∙ ap pos shown.minute) fits.minutes c.unsigned_abs-5.ensures.value)
    (without_sign_8 c.second.result (clock_of c.args.at).second c.unsigned_abs-6.result (c.second.ensures ∙ ap pos shown.second) fits.seconds c.unsigned_abs-6.ensures.value)

pub returns-clause-digits : goal.returns-clause-digits
returns-clause-digits c =
    subst FitsDigits (sym (returns-clause-clock c)) (digits_fit c.to_datetime-shown.result (clock_of c.args.at) (shows c))
