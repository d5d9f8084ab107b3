-- Texts that the definitions give, computed by the checker.
use Rattle.std.specs.Prelude.{◌≡◌, [], ◌∷◌, ◌-◌, ◌^◌, codes, length, pos, negsuc, true, false, refl}
use Rattle.std.specs.Fmt.{digits, decimal, signed_decimal}
use Rattle.std.specs.Net.Text.{hex, hex_groups_text}
use Rattle.zk_base.specs.declared.network.Addr.TheVariants.{V4, V6}
use Rattle.zk_base.specs.declared.network.Proto.TheVariants.{Tcp}
use Rattle.zk_text.specs.Address.{addr_text, subnet_text}
use Rattle.zk_text.specs.Escape.{escaped}
use Rattle.zk_text.specs.Port.{port_text}
use Rattle.zk_text.specs.declared.integers.TheConstants.{COUNT_TEXT_MAX}
use Rattle.zk_text.specs.declared.times.TheConstants.{SPAN_TEXT_MAX}
use Rattle.zk_text.specs.Span.{span_decimal}

pub least_count : decimal 0 ≡ codes "0"
unfolding digits
least_count = refl

pub greatest_count : decimal (2 ^ 64 - 1) ≡ codes "18446744073709551615"
unfolding digits
greatest_count = refl

pub longest_count : length (decimal (2 ^ 64 - 1)) ≡ COUNT_TEXT_MAX
unfolding digits
longest_count = refl

pub no_time : span_decimal (pos 0) ≡ codes "0.000000"
unfolding span_decimal digits
no_time = refl

pub one_microsecond_less_than_none : span_decimal (negsuc 0) ≡ codes "-0.000001"
unfolding span_decimal digits
one_microsecond_less_than_none = refl

pub one_microsecond_less_than_two_seconds : span_decimal (pos 1999999) ≡ codes "1.999999"
unfolding span_decimal digits
one_microsecond_less_than_two_seconds = refl

pub a_moment_of_2023 : span_decimal (pos 1700000000020000) ≡ codes "1700000000.020000"
unfolding span_decimal digits
a_moment_of_2023 = refl

pub least_span : span_decimal (negsuc (2 ^ 63 - 1)) ≡ codes "-9223372036854.775808"
unfolding span_decimal digits
least_span = refl

pub greatest_span : span_decimal (pos (2 ^ 63 - 1)) ≡ codes "9223372036854.775807"
unfolding span_decimal digits
greatest_span = refl

pub longest_span : length (span_decimal (negsuc (2 ^ 63 - 1))) ≡ SPAN_TEXT_MAX
unfolding span_decimal digits
longest_span = refl

pub least_integer : signed_decimal (negsuc (2 ^ 63 - 1)) ≡ codes "-9223372036854775808"
unfolding digits
least_integer = refl

pub an_ip4_address : addr_text (V4 0x0a000050) ≡ codes "10.0.0.80"
unfolding addr_text digits
an_ip4_address = refl

-- RFC 5952, section 4.1: no leading zeros
pub no_leading_zeros : addr_text (V6 0x20010db8000000000000000000000001) ≡ codes "2001:db8::1"
unfolding addr_text hex_groups_text hex
no_leading_zeros = refl

-- section 4.2.2: a single group of zeros is written
pub a_single_zero_is_written : addr_text (V6 0x20010db8000000010001000100010001) ≡ codes "2001:db8:0:1:1:1:1:1"
unfolding addr_text hex_groups_text hex
a_single_zero_is_written = refl

-- section 4.2.3: the longest run, and of equal ones the first
pub the_longest_run : addr_text (V6 0x20010000000000010000000000000001) ≡ codes "2001:0:0:1::1"
unfolding addr_text hex_groups_text hex
the_longest_run = refl

pub the_first_of_equal_runs : addr_text (V6 0x20010db8000000000001000000000001) ≡ codes "2001:db8::1:0:0:1"
unfolding addr_text hex_groups_text hex
the_first_of_equal_runs = refl

pub no_address : addr_text (V6 0) ≡ codes "::"
unfolding addr_text hex_groups_text hex
no_address = refl

-- not ::ffff:10.0.0.80
pub an_ip4_address_within_ip6 : addr_text (V6 0xffff0a000050) ≡ codes "::ffff:a00:50"
unfolding addr_text hex_groups_text hex
an_ip4_address_within_ip6 = refl

pub a_subnet : subnet_text (V4 0x0a000000) 8 ≡ codes "10.0.0.0/8"
unfolding addr_text digits
a_subnet = refl

pub a_port : port_text 80 Tcp ≡ codes "80/tcp"
unfolding digits
a_port = refl

pub a_line_like_a_header : escaped false (codes "#x") ≡ codes "\\x23x"
a_line_like_a_header = refl

pub a_string_like_no_value : escaped false (codes "-") ≡ codes "\\x2d"
a_string_like_no_value = refl

pub a_string_like_an_empty_one : escaped true (codes "(empty)") ≡ codes "\\x28empty)"
a_string_like_an_empty_one = refl

pub bytes_that_are_escaped : escaped false (9 ∷ 92 ∷ 255 ∷ 44 ∷ []) ≡ codes "\\x09\\x5c\\xff,"
bytes_that_are_escaped = refl

pub a_comma_in_a_set : escaped true (codes "a,b") ≡ codes "a\\x2cb"
a_comma_in_a_set = refl

pub an_empty_string : escaped true [] ≡ []
an_empty_string = refl
