-- What the definitions give at some values, computed by the checker.
use Rattle.std.specs.Prelude.{◌≡◌, ℕ, ◌-◌, ◌^◌, List, [], ◌∷◌, sum, true, false, Some, None, codes, refl}
use Rattle.zk_base.specs.declared.network.TheConstants.{LINKTYPE_ETHERNET, LINKTYPE_RAW, IP4_TOTAL_LENGTH_MAX}
use Rattle.zk_base.specs.declared.shelf.Fault.TheVariants as fault
use Rattle.zk_base.specs.Checksum.{words, folded, ones_complement_sum}
use Rattle.zk_base.specs.Shelf.{At, rest_of, with_piece, after_say}
use Rattle.zk_base.specs.Files.{files_of}
use Rattle.zk_base.specs.Contents.{at_first}
use Rattle.zk_base.specs.Faults.{one_more, first_half, with_emptied, after_failed_read, with_write_fault}
use Rattle.zk_base.specs.MemShelf.{MemState, fails_next, next_number}

-- Files -----------------------------------------------------------------------------------------------------

abbrev log : List ℕ × List ℕ
log = (codes "log", codes "one")

pub the_first_of_two_counts : files_of (log ∷ (codes "log", codes "two") ∷ []) (codes "log") ≡ Some (codes "one")
the_first_of_two_counts = refl

pub a_piece_goes_to_the_end : with_piece (files_of (log ∷ [])) (codes "log") (codes " two") (codes "log") ≡ Some (codes "one two")
a_piece_goes_to_the_end = refl

pub another_file_is_as_it_was : with_piece (files_of (log ∷ [])) (codes "lo") (codes " two") (codes "log") ≡ Some (codes "one")
another_file_is_as_it_was = refl

pub the_rest_is_what_was_not_read : rest_of (record (at_first (log ∷ [])) { reading = At (codes "log") 2 }) ≡ Some (codes "e")
the_rest_is_what_was_not_read = refl

-- Calls that fail -------------------------------------------------------------------------------------------

-- a shelf whose second and fifth call fail, after some calls
abbrev after_calls : ℕ → MemState
after_calls n = record { outside = at_first []; fails = 2 ∷ 5 ∷ []; calls = n }

pub the_first_call_does_not_fail : fails_next (after_calls 0) ≡ false
the_first_call_does_not_fail = refl

pub the_second_call_fails : fails_next (after_calls 1) ≡ true
the_second_call_fails = refl

pub numbers_stop : next_number (after_calls (2 ^ 64 - 1)) ≡ 2 ^ 64 - 1
numbers_stop = refl

pub counts_come_to_their_end : one_more (2 ^ 64 - 2) ≡ 2 ^ 64 - 1
counts_come_to_their_end = refl

pub half_of_five_bytes_is_two : first_half (codes "12345") ≡ codes "12"
half_of_five_bytes_is_two = refl

pub half_of_a_byte_is_none : first_half (codes "1") ≡ []
half_of_a_byte_is_none = refl

pub a_failed_read_is_the_last_fault : (after_failed_read (at_first [])).last ≡ Some fault.Read
a_failed_read_is_the_last_fault = refl

pub a_failed_write_is_the_last_fault : (with_write_fault (after_failed_read (at_first []))).last ≡ Some fault.Write
a_failed_write_is_the_last_fault = refl

pub no_fault_stays_behind_a_write : (after_say (after_failed_read (at_first [])) []).last ≡ None
no_fault_stays_behind_a_write = refl

pub an_output_is_emptied : with_emptied (files_of (log ∷ [])) (codes "log") (codes "log") ≡ Some []
an_output_is_emptied = refl

pub an_absent_output_stays_absent : with_emptied (files_of (log ∷ [])) (codes "lo") (codes "lo") ≡ None
an_absent_output_stays_absent = refl

-- Constants of standards -------------------------------------------------------------------------------------

-- the list of link types of the capture format
pub ethernet_is_link_type_1 : LINKTYPE_ETHERNET ≡ 1
ethernet_is_link_type_1 = refl

pub raw_ip_is_link_type_101 : LINKTYPE_RAW ≡ 101
raw_ip_is_link_type_101 = refl

-- RFC 791, section 3.1: the total length has 16 bits
pub a_total_length_has_16_bits : IP4_TOTAL_LENGTH_MAX ≡ 2 ^ 16 - 1
a_total_length_has_16_bits = refl

-- Checksums --------------------------------------------------------------------------------------------------

-- The example of RFC 1071, section 3: its words, their sum and what the carries leave of it.
the_words_of_the_example : words (0x00 ∷ 0x01 ∷ 0xf2 ∷ 0x03 ∷ 0xf4 ∷ 0xf5 ∷ 0xf6 ∷ 0xf7 ∷ []) ≡ 0x0001 ∷ 0xf203 ∷ 0xf4f5 ∷ 0xf6f7 ∷ []
the_words_of_the_example = refl

its_sum : sum (0x0001 ∷ 0xf203 ∷ 0xf4f5 ∷ 0xf6f7 ∷ []) ≡ 0x2ddf0
its_sum = refl

what_the_carries_leave_of_it : folded 0x2ddf0 ≡ 0xddf2
unfolding folded
what_the_carries_leave_of_it = refl

its_ones_complement_sum : ones_complement_sum (0x0001 ∷ 0xf203 ∷ 0xf4f5 ∷ 0xf6f7 ∷ []) ≡ 0xddf2
its_ones_complement_sum = refl

-- A last odd byte is the high half of its word.
a_last_odd_byte_is_a_high_half : words (0x01 ∷ 0x02 ∷ 0x03 ∷ []) ≡ 0x0102 ∷ 0x0300 ∷ []
a_last_odd_byte_is_a_high_half = refl
