-- Moments as the lines `#open` and `#close` of a log have them: what a clock in UTC shows, on the calendar of ISO 8601.
use Rattle.std.specs.Prelude.{ℕ, zero, suc, ◌+◌, ◌-◌, ◌/◌, ◌%◌, ◌<◌, nat_lt, if◌then◌else◌, List, [], ◌∷◌, ◌++◌, codes, pos, unsigned_abs, ◌≤ℤ◌}
use Rattle.jiff_core.specs.Calendar.{days_in_year, days_in_month}
use Rattle.zk_base.specs.declared.time.Moment.{Moment}
use Rattle.zk_ascii.specs.declared.dates.Clock.{Clock}

-- from 1970 on, up to 22:00 on December 30 of 9999, the last moment that `jiff` shows in every time zone
abbrev pub HasDate : Moment → Type 0
HasDate at = (pos 0 ≤ℤ at.0) × (at.0 ≤ℤ pos 253_402_207_200_000_000)

-- The year that so many days from the beginning of a year lead to, and how many days they are from its own beginning. At most
-- so many years are passed.
abbrev pub year_from : ℕ → ℕ → ℕ → ℕ × ℕ
year_from zero year days = (year, days)
year_from (suc most) year days =
    if nat_lt days (days_in_year (pos year)) then (year, days) else year_from most (suc year) (days - days_in_year (pos year))

-- the same of the months of a year
abbrev pub month_from : ℕ → ℕ → ℕ → ℕ → ℕ × ℕ
month_from zero year month days = (month, days)
month_from (suc most) year month days =
    if nat_lt days (days_in_month (pos year) month) then (month, days) else month_from most year (suc month) (days - days_in_month (pos year) month)

-- what is shown in a day of a year, so many days from its beginning, and so many seconds from the beginning of the day
abbrev pub clock_in_year : ℕ × ℕ → ℕ → Clock
clock_in_year (year, days) seconds = clock_in_month (month_from 12 year 1 days)
  where
    clock_in_month : ℕ × ℕ → Clock
    clock_in_month (month, days) = record {
      year = year;
      month = month;
      day = days + 1;
      hour = seconds / 3600;
      minute = seconds % 3600 / 60;
      second = seconds % 60;
    }

-- what is shown so many seconds after the beginning of 1970
abbrev pub clock_of_seconds : ℕ → Clock
clock_of_seconds seconds = clock_in_year (year_from (seconds / 86_400 / 365 + 1) 1970 (seconds / 86_400)) (seconds % 86_400)

-- what is shown at a moment from 1970 on
unfoldable pub clock_of : Moment → Clock
clock_of at = clock_of_seconds (unsigned_abs at.0 / 1_000_000)

-- each number has no more digits than are written
pub record FitsDigits (clock : Clock) : Type 0 where
  pub years : clock.year < 10_000
  pub months : clock.month < 100
  pub days : clock.day < 100
  pub hours : clock.hour < 100
  pub minutes : clock.minute < 100
  pub seconds : clock.second < 100

-- the two digits of a number below 100, and the four of one below 10,000
abbrev pub two_digits : ℕ → List ℕ
two_digits n = (48 + n / 10) ∷ (48 + n % 10) ∷ []

abbrev pub four_digits : ℕ → List ℕ
four_digits n = (48 + n / 1000) ∷ (48 + n / 100 % 10) ∷ (48 + n / 10 % 10) ∷ (48 + n % 10) ∷ []

abbrev pub clock_text : Clock → List ℕ
clock_text clock =
    four_digits clock.year ++ codes "-" ++ two_digits clock.month ++ codes "-" ++ two_digits clock.day
    ++ codes "-" ++ two_digits clock.hour ++ codes "-" ++ two_digits clock.minute ++ codes "-" ++ two_digits clock.second

-- YYYY-MM-DD-HH-MM-SS
abbrev pub stamp : Moment → List ℕ
stamp at = clock_text (clock_of at)
