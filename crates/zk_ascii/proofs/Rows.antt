-- Worked lines of logs, computed.
use Rattle.std.proofs.Common.{◌≡◌, List, [], ◌∷◌, ℕ, codes, refl, pos, false, true}
use Rattle.zk_value.specs.declared.cell.Atom.TheVariants.{Text, Plain}
use Rattle.zk_value.specs.declared.cell.Cell.TheVariants.{Unset, One, Many}
use Rattle.zk_base.specs.declared.time.Moment.{Moment}
use Rattle.zk_ascii.specs.Dates.{clock_of, clock_text, stamp}
use Rattle.zk_ascii.specs.Text.{cell_text, row_text, close_text}

closed_in_2023 : close_text (record { 0 = pos 1_700_000_000_020_000 }) ≡ codes "#close\t2023-11-14-22-13-20\n"
unfolding clock_of
closed_in_2023 = refl

closed_at_the_beginning : close_text (record { 0 = pos 0 }) ≡ codes "#close\t1970-01-01-00-00-00\n"
unfolding clock_of
closed_at_the_beginning = refl

closed_on_a_leap_day : close_text (record { 0 = pos 1_709_251_199_999_999 }) ≡ codes "#close\t2024-02-29-23-59-59\n"
unfolding clock_of
closed_on_a_leap_day = refl

an_unset_cell : cell_text Unset ≡ codes "-"
an_unset_cell = refl

an_empty_set : cell_text (Many []) ≡ codes "(empty)"
an_empty_set = refl

an_empty_string : cell_text (One (Text [])) ≡ codes "(empty)"
an_empty_string = refl

a_string_like_no_value : cell_text (One (Text (codes "-"))) ≡ codes "\\x2d"
a_string_like_no_value = refl

a_set_of_a_comma : cell_text (Many (Text (codes "a,b") ∷ [])) ≡ codes "a\\x2cb"
a_set_of_a_comma = refl

a_set_of_an_empty_string : cell_text (Many (Text [] ∷ [])) ≡ []
a_set_of_an_empty_string = refl

a_row : row_text (One (Plain (codes "4660")) ∷ Many (Text (codes "example.com") ∷ Text (codes "93.184.216.34") ∷ []) ∷ Unset ∷ [])
    ≡ codes "4660\texample.com,93.184.216.34\t-\n"
a_row = refl
