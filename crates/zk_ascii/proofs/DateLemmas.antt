-- What a clock in UTC shows at a moment is what the calendar gives.
use Rattle.std.proofs.Common.{◌≡◌, ◌<◌, ◌≤◌, ◌+◌, ◌-◌, ◌*◌, ◌/◌, ◌%◌, ℕ, zero, suc, Bool, true, false, nat_lt, cond, if◌then◌else◌, refl, sym, ap, subst, ◌∙◌, arith, ℤ, pos, negsuc, int_div, ◌+ℤ◌, ◌*ℤ◌, ◌≤ℤ◌, ◌<ℤ◌, unsigned_abs, to_z, of_z, w8, w64}
use Rattle.std.specs.Int.{w16}
use Rattle.std.proofs.lemmas.Bool.{ltb-true, ltb-false}
use Rattle.std.proofs.lemmas.Int.{by_lt_z}
use Rattle.jiff_core.specs.Calendar.{days_in_year, days_in_month, days_of_months, day_count, days_from_civil, IsCivilDate}
use Rattle.jiff_core.specs.Date.{epoch_day}
use Rattle.jiff_core.specs.DateTime.{civil_nanos}
use Rattle.jiff_core.specs.Time.{time_nanos}
use Rattle.jiff_core.specs.declared.civil.date.Date.{Date}
use Rattle.jiff_core.specs.declared.civil.datetime.DateTime.{DateTime}
use Rattle.jiff_core.proofs.CalendarLemmas.{day_count-epoch, days_from_civil-day_count, days_in_year_bounds, days_in_month_bounds, days_of_months_more, days_of_months_all, days_of_months-zero, day_count-day, day_count-next_month, day_count-next_year, day_count-later_year, day_count-end}
use Rattle.jiff_core.proofs.DateLemmas.{epoch_day_injective}
use Rattle.jiff_core.proofs.DateTimeLemmas.{civil_nanos-parts}
use Rattle.jiff_core.proofs.SignedLemmas.{signed_arith, back_small}
use Rattle.zk_base.specs.declared.time.Moment.{Moment}
use Rattle.zk_ascii.specs.declared.dates.Clock.{Clock}
use Rattle.zk_ascii.specs.Dates.{HasDate, FitsDigits, year_from, month_from, clock_in_year, clock_of_seconds, clock_of}
use borrow.Author.Differences.{up, down}

-- Years ------------------------------------------------------------------------------------------------------------

-- what was found of so many days from the beginning of a year
record InYear (year days : ℕ) (found : ℕ × ℕ) : Type 0 where
  short : found.1 < days_in_year (pos found.0)
  same : day_count (pos found.0) 1 1 + found.1 ≡ day_count (pos year) 1 1 + days

next_year : (year : ℕ) → day_count (pos (suc year)) 1 1 ≡ day_count (pos year) 1 1 + days_in_year (pos year)
next_year year = day_count-next_year (pos year) (pos (suc year)) (omega (arith, signed_arith)) (omega (arith, signed_arith))

year_step : (most year days : ℕ) (b : Bool) → nat_lt days (days_in_year (pos year)) ≡ b
    → (days_in_year (pos year) ≤ days → InYear (suc year) (days - days_in_year (pos year)) (year_from most (suc year) (days - days_in_year (pos year))))
    → InYear year days (if b then (year, days) else year_from most (suc year) (days - days_in_year (pos year)))
year_step most year days true test later = record { short = ltb-true days (days_in_year (pos year)) test; same = refl }
year_step most year days false test later =
    let past : days_in_year (pos year) ≤ days = ltb-false days (days_in_year (pos year)) test in
    let found = later past in
    record { short = found.short; same = omega (arith, found.same, next_year year) }

year_is : (most year days : ℕ) → days < 365 * most → InYear year days (year_from most year days)
year_is zero year days few = absurd (omega arith)
year_is (suc most) year days few =
    year_step most year days (nat_lt days (days_in_year (pos year))) refl
    (λ past. year_is most (suc year) (days - days_in_year (pos year)) (omega (arith, past, few, (days_in_year_bounds (pos year)).1)))

-- Months -----------------------------------------------------------------------------------------------------------

record InMonth (year month days : ℕ) (found : ℕ × ℕ) : Type 0 where
  first : 1 ≤ found.0
  last : found.0 ≤ 12
  short : found.1 < days_in_month (pos year) found.0
  same : day_count (pos year) found.0 1 + found.1 ≡ day_count (pos year) month 1 + days

month_step : (most year month days : ℕ) (b : Bool) → nat_lt days (days_in_month (pos year) month) ≡ b → 1 ≤ month → month ≤ 12
    → (days_in_month (pos year) month ≤ days → InMonth year (suc month) (days - days_in_month (pos year) month) (month_from most year (suc month) (days - days_in_month (pos year) month)))
    → InMonth year month days (if b then (month, days) else month_from most year (suc month) (days - days_in_month (pos year) month))
month_step most year month days true test first last later =
    record { first = first; last = last; short = ltb-true days (days_in_month (pos year) month) test; same = refl }
month_step most year month days false test first last later =
    let past : days_in_month (pos year) month ≤ days = ltb-false days (days_in_month (pos year) month) test in
    let found = later past in
    let next : day_count (pos year) (suc month) 1 ≡ day_count (pos year) month 1 + days_in_month (pos year) month = plus_one month (day_count-next_month (pos year) month first) in
    record { first = found.first; last = found.last; short = found.short; same = omega (arith, found.same, next) }
  where
    plus_one : (month : ℕ) → day_count (pos year) (month + 1) 1 ≡ day_count (pos year) month 1 + days_in_month (pos year) month
        → day_count (pos year) (suc month) 1 ≡ day_count (pos year) month 1 + days_in_month (pos year) month
    plus_one month e = let one : month + 1 ≡ suc month = omega arith in subst (λ m. day_count (pos year) m 1 ≡ day_count (pos year) month 1 + days_in_month (pos year) month) one e

month_is : (most year month days : ℕ) → 1 ≤ month → month + most ≡ 13 → days_of_months (pos year) (month - 1) + days < days_in_year (pos year)
    → InMonth year month days (month_from most year month days)
month_is zero year month days first all few =
    let end : month - 1 ≡ 12 = omega arith in
    let whole : days_of_months (pos year) (month - 1) ≡ days_in_year (pos year) = ap (days_of_months (pos year)) end ∙ days_of_months_all (pos year) in
    absurd (omega (arith, whole, few))
month_is (suc most) year month days first all few =
    month_step most year month days (nat_lt days (days_in_month (pos year) month)) refl first (omega arith)
    (λ past.
    let back : suc month - 1 ≡ month = omega arith in
    let more : days_of_months (pos year) (suc month - 1) ≡ days_of_months (pos year) (month - 1) + days_in_month (pos year) month =
    ap (days_of_months (pos year)) back ∙ days_of_months_more (pos year) month first in
    month_is most year (suc month) (days - days_in_month (pos year) month) (omega arith) (omega arith) (omega (arith, past, few, more)))

-- Dates ------------------------------------------------------------------------------------------------------------

-- the date has this year, month and day
record IsShown (date : Date) (year month day : ℕ) : Type 0 where
  same_year : date.year ≡ pos year
  same_month : date.month ≡ month
  same_day : date.day ≡ day

-- no day up to the last of 9999 is in a later year
year_end : (year days : ℕ) → day_count (pos year) 1 1 ≤ 4_371_953 + days → days ≤ 2_932_896 → year ≤ 9999
year_end year days begins few =
    by_lt_z (pos 9999) (pos year)
    (λ later. absurd (omega (arith, day_count-end, day_count-next_year (pos 9999) (pos 10000) (omega (arith, signed_arith)) refl, day_count-later_year (pos 9999) (pos year) (omega (arith, signed_arith)) later, begins, few)))
    (λ not_later. omega (arith, signed_arith, not_later))

date_is : (date : Date) (days : ℕ) (in_year in_month : ℕ × ℕ) → epoch_day date ≡ pos days → days ≤ 2_932_896 → InYear 1970 days in_year → InMonth in_year.0 1 in_year.1 in_month
    → IsShown date in_year.0 in_month.0 (in_month.1 + 1)
date_is date days in_year in_month e few year month =
    let begins : day_count (pos in_year.0) 1 1 ≤ 4_371_953 + days = omega (arith, year.same, day_count-epoch) in
    let late : in_year.0 ≤ 9999 = year_end in_year.0 days begins few in
    let counted : day_count (pos in_year.0) in_month.0 (in_month.1 + 1) ≡ 4_371_953 + days =
    omega (arith, day_count-day (pos in_year.0) in_month.0 (in_month.1 + 1) 1 (omega arith) (omega arith), month.same, year.same, day_count-epoch) in
    let other : Date = record {
      year = pos in_year.0;
      month = in_month.0;
      day = in_month.1 + 1;
      year_in = omega (arith, signed_arith, late);
      month_in = (month.first, month.last);
      day_in = (omega arith, omega (arith, month.short));
    } in
    let same : epoch_day date ≡ epoch_day other = e ∙ omega (arith, signed_arith, days_from_civil-day_count (pos in_year.0) in_month.0 (in_month.1 + 1), counted) in
    let parts = epoch_day_injective date other same in
    record { same_year = parts.0; same_month = parts.1; same_day = parts.2 }

pub record IsShownAt (shown : DateTime) (clock : Clock) : Type 0 where
  pub year : shown.date.year ≡ pos clock.year
  pub month : shown.date.month ≡ clock.month
  pub day : shown.date.day ≡ clock.day
  pub hour : shown.time.hour ≡ clock.hour
  pub minute : shown.time.minute ≡ clock.minute
  pub second : shown.time.second ≡ clock.second

-- what is shown so many seconds after the beginning of 1970
shown_is : (shown : DateTime) (seconds : ℕ) → civil_nanos shown ≡ pos seconds *ℤ pos 1_000_000_000 → seconds ≤ 253_402_207_200 → IsShownAt shown (clock_of_seconds seconds)
shown_is shown seconds nanos late =
    let parts = civil_nanos-parts shown in
    let day : epoch_day shown.date ≡ pos (seconds / 86_400) = omega (arith, signed_arith, parts, nanos, shown.time.hour_in, shown.time.minute_in, shown.time.second_in, shown.time.subsec_in) in
    let clock : shown.time.hour * 3600 + shown.time.minute * 60 + shown.time.second ≡ seconds % 86_400 =
    omega (arith, signed_arith, parts, nanos, shown.time.hour_in, shown.time.minute_in, shown.time.second_in, shown.time.subsec_in) in
    let days = seconds / 86_400 in
    let year = year_is (days / 365 + 1) 1970 days (omega arith) in
    let in_year = year_from (days / 365 + 1) 1970 days in
    let few : days_of_months (pos in_year.0) (1 - 1) + in_year.1 < days_in_year (pos in_year.0) = omega (arith, days_of_months-zero (pos in_year.0), year.short) in
    let month = month_is 12 in_year.0 1 in_year.1 (omega arith) refl few in
    let date = date_is shown.date days in_year (month_from 12 in_year.0 1 in_year.1) day (omega arith) year month in
    record {
      year = date.same_year;
      month = date.same_month;
      day = date.same_day;
      hour = omega (arith, clock, shown.time.hour_in, shown.time.minute_in, shown.time.second_in);
      minute = omega (arith, clock, shown.time.hour_in, shown.time.minute_in, shown.time.second_in);
      second = omega (arith, clock, shown.time.hour_in, shown.time.minute_in, shown.time.second_in);
    }

clock_from : ℕ → ℕ → ℕ → ℕ → ℕ → ℕ → Clock
clock_from year month day hour minute second = record { year = year; month = month; day = day; hour = hour; minute = minute; second = second }

-- clocks with the same parts
pub same_clock : (a b : Clock) → a.year ≡ b.year → a.month ≡ b.month → a.day ≡ b.day → a.hour ≡ b.hour → a.minute ≡ b.minute → a.second ≡ b.second → a ≡ b
unfolding clock_from
same_clock a b year month day hour minute second =
    ap (λ n. clock_from n a.month a.day a.hour a.minute a.second) year
    ∙ ap (λ n. clock_from b.year n a.day a.hour a.minute a.second) month
    ∙ ap (λ n. clock_from b.year b.month n a.hour a.minute a.second) day
    ∙ ap (λ n. clock_from b.year b.month b.day n a.minute a.second) hour
    ∙ ap (λ n. clock_from b.year b.month b.day b.hour n a.second) minute
    ∙ ap (λ n. clock_from b.year b.month b.day b.hour b.minute n) second

pub shown_at : (at : Moment) (shown : DateTime) → HasDate at → civil_nanos shown ≡ int_div at.0 (pos 1_000_000) *ℤ pos 1_000_000_000 → IsShownAt shown (clock_of at)
unfolding clock_of
shown_at at shown has nanos = by_sign at.0 refl
  where
    by_sign : (z : ℤ) → at.0 ≡ z → IsShownAt shown (clock_of_seconds (unsigned_abs at.0 / 1_000_000))
    by_sign (pos n) is =
        subst (λ z. IsShownAt shown (clock_of_seconds (unsigned_abs z / 1_000_000))) (sym is)
        (shown_is shown (n / 1_000_000) (nanos ∙ ap (λ z. int_div z (pos 1_000_000) *ℤ pos 1_000_000_000) is) (omega (arith, signed_arith, has.1, is)))
    by_sign (negsuc n) is = absurd (omega (arith, signed_arith, has.0, is))

pub digits_fit : (shown : DateTime) (clock : Clock) → IsShownAt shown clock → FitsDigits clock
digits_fit shown clock is = record {
  years = omega (arith, signed_arith, shown.date.year_in, is.year);
  months = omega (arith, shown.date.month_in, is.month);
  days = omega (arith, shown.date.day_in, is.day, days_in_month_bounds shown.date.year shown.date.month);
  hours = omega (arith, shown.time.hour_in, is.hour);
  minutes = omega (arith, shown.time.minute_in, is.minute);
  seconds = omega (arith, shown.time.second_in, is.second);
}

-- a number that is not negative, without its sign
pub without_sign_16 : (z : ℤ) (n r : ℕ) → z ≡ pos n → n < 10_000 → r ≡ unsigned_abs (to_z w16 (of_z w16 z)) → r ≡ n
without_sign_16 z n r is small e =
    e ∙ ap (λ y. unsigned_abs (to_z w16 (of_z w16 y))) is ∙ ap unsigned_abs (back_small w16 (pos n) (omega (arith, small)))

pub without_sign_8 : (z : ℤ) (n r : ℕ) → z ≡ pos n → n < 100 → r ≡ unsigned_abs (to_z w8 (of_z w8 z)) → r ≡ n
without_sign_8 z n r is small e =
    e ∙ ap (λ y. unsigned_abs (to_z w8 (of_z w8 y))) is ∙ ap unsigned_abs (back_small w8 (pos n) (omega (arith, small)))

pub plus_none : (x : ℤ) → x +ℤ pos 0 ≡ x
plus_none (pos n) = omega (arith, signed_arith)
plus_none (negsuc n) = omega (arith, signed_arith)

-- no bit of the whole seconds is lost
pub seconds_are : (z : ℤ) → pos 0 ≤ℤ z → z ≤ℤ pos 253_402_207_200_000_000
    → to_z w64 (of_z w64 (int_div (to_z w64 (of_z w64 z)) (pos 1_000_000))) ≡ int_div z (pos 1_000_000)
seconds_are (pos n) low high =
    ap (λ y. to_z w64 (of_z w64 (int_div y (pos 1_000_000)))) (back_small w64 (pos n) (omega (arith, signed_arith, high)))
    ∙ back_small w64 (pos (n / 1_000_000)) (omega (arith, signed_arith, high))
seconds_are (negsuc n) low high = absurd (omega (arith, signed_arith, low))
