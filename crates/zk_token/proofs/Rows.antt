-- What the definition of tokens gives for small texts, computed by the checker.
use Rattle.std.proofs.Common.{◌≡◌, ℕ, List, [], ◌∷◌, codes, Ok, Err, refl}
use Rattle.zk_base.specs.declared.network.Proto.TheVariants.{Tcp, Udp}
use Rattle.zk_tree.specs.declared.token.Token.{Token}
use Rattle.zk_tree.specs.declared.token.TokenKind.{TokenKind}
use Rattle.zk_tree.specs.declared.token.TokenKind.TheVariants as token
use Rattle.zk_tree.specs.declared.token.Sign.TheVariants as sign
use Rattle.zk_token.specs.Fault.{Fault, BadByte, OpenString, BigNumber}
use Rattle.zk_token.specs.Tokens.{tokens_of}

-- a token at a place
at : ℕ → TokenKind → Token
at place kind = record { kind = kind; place = place }

-- a text is read as these tokens
Reads : List ℕ → List Token → Type 0
Reads text tokens = tokens_of text ≡ Ok tokens

-- a text is refused
Refuses : List ℕ → Fault → Type 0
Refuses text fault = tokens_of text ≡ Err fault

-- Names -----------------------------------------------------------------------------------------------------------

no_text_has_no_token : Reads [] []
unfolding Reads
no_text_has_no_token = refl

the_word_behind_a_handler_is_the_tenth_token : Reads (codes "event zeek_init() { print 1; } if")
    (at 0 (token.Name (codes "event")) ∷ at 6 (token.Name (codes "zeek_init")) ∷ at 15 (token.Sign sign.OpenParenthesis)
    ∷ at 16 (token.Sign sign.CloseParenthesis) ∷ at 18 (token.Sign sign.OpenBrace) ∷ at 20 (token.Name (codes "print"))
    ∷ at 26 (token.Number 1) ∷ at 27 (token.Sign sign.Semicolon) ∷ at 29 (token.Sign sign.CloseBrace)
    ∷ at 31 (token.Name (codes "if")) ∷ [])
unfolding Reads at
the_word_behind_a_handler_is_the_tenth_token = refl

two_words_that_are_joined_are_one_name : Reads (codes "a::b:c") (at 0 (token.Name (codes "a::b")) ∷ at 4 (token.Sign sign.Colon) ∷ at 5 (token.Name (codes "c")) ∷ [])
unfolding Reads at
two_words_that_are_joined_are_one_name = refl

a_third_word_is_another_name : Reads (codes "a::b::c")
    (at 0 (token.Name (codes "a::b")) ∷ at 4 (token.Sign sign.Colon) ∷ at 5 (token.Sign sign.Colon) ∷ at 6 (token.Name (codes "c")) ∷ [])
unfolding Reads at
a_third_word_is_another_name = refl

a_number_begins_no_second_word : Reads (codes "a::1")
    (at 0 (token.Name (codes "a")) ∷ at 1 (token.Sign sign.Colon) ∷ at 2 (token.Sign sign.Colon) ∷ at 3 (token.Number 1) ∷ [])
unfolding Reads at
a_number_begins_no_second_word = refl

a_number_ends_before_a_letter : Reads (codes "1x_2") (at 0 (token.Number 1) ∷ at 1 (token.Name (codes "x_2")) ∷ [])
unfolding Reads at
a_number_ends_before_a_letter = refl

-- Numbers, ports, addresses and subnets ---------------------------------------------------------------------------

the_greatest_number_is_read : Reads (codes "18446744073709551615") (at 0 (token.Number 18446744073709551615) ∷ [])
unfolding Reads at
the_greatest_number_is_read = refl

one_more_is_refused : Refuses (codes "1 18446744073709551616") (BigNumber 2)
unfolding Refuses
one_more_is_refused = refl

zeros_in_front_may_be_many : Reads (codes "0000000000000000000000018446744073709551615") (at 0 (token.Number 18446744073709551615) ∷ [])
unfolding Reads at
zeros_in_front_may_be_many = refl

a_port_has_no_blanks : Reads (codes "80/tcp 80 /tcp")
    (at 0 (token.Port 80 Tcp) ∷ at 7 (token.Number 80) ∷ at 10 (token.Sign sign.Slash) ∷ at 11 (token.Name (codes "tcp")) ∷ [])
unfolding Reads at
a_port_has_no_blanks = refl

the_greatest_port_is_read : Reads (codes "065535/udp") (at 0 (token.Port 65535 Udp) ∷ [])
unfolding Reads at
the_greatest_port_is_read = refl

digits_past_it_are_no_port : Reads (codes "65536/tcp") (at 0 (token.Number 65536) ∷ at 5 (token.Sign sign.Slash) ∷ at 6 (token.Name (codes "tcp")) ∷ [])
unfolding Reads at
digits_past_it_are_no_port = refl

digits_that_make_no_port_may_be_too_great : Refuses (codes "99999999999999999999/tcp") (BigNumber 0)
unfolding Refuses
digits_that_make_no_port_may_be_too_great = refl

host_bits_are_cleared : Reads (codes "1.2.3.4/8") (at 0 (token.Subnet 0x01000000 8) ∷ [])
unfolding Reads at
host_bits_are_cleared = refl

the_longest_parts_of_an_address_count : Reads (codes "1.2.3.256") (at 0 (token.Address 0x01020319) ∷ at 8 (token.Number 6) ∷ [])
unfolding Reads at
the_longest_parts_of_an_address_count = refl

the_longest_width_counts : Reads (codes "1.2.3.4/33") (at 0 (token.Subnet 0 3) ∷ at 9 (token.Number 3) ∷ [])
unfolding Reads at
the_longest_width_counts = refl

a_slash_alone_makes_no_subnet : Reads (codes "1.2.3.4/x") (at 0 (token.Address 0x01020304) ∷ at 7 (token.Sign sign.Slash) ∷ at 8 (token.Name (codes "x")) ∷ [])
unfolding Reads at
a_slash_alone_makes_no_subnet = refl

three_parts_make_no_address : Refuses (codes "1.2.3") (BadByte 1)
unfolding Refuses
three_parts_make_no_address = refl

-- Strings ---------------------------------------------------------------------------------------------------------

-- "a\n\t\r\"\\\x4f\xfE"
every_escape_stands_for_its_byte : Reads (34 ∷ 97 ∷ 92 ∷ 110 ∷ 92 ∷ 116 ∷ 92 ∷ 114 ∷ 92 ∷ 34 ∷ 92 ∷ 92 ∷ 92 ∷ 120 ∷ 52 ∷ 102 ∷ 92 ∷ 120 ∷ 102 ∷ 69 ∷ 34 ∷ [])
    (at 0 (token.String (97 ∷ 10 ∷ 9 ∷ 13 ∷ 34 ∷ 92 ∷ 0x4f ∷ 0xfe ∷ [])) ∷ [])
unfolding Reads at
every_escape_stands_for_its_byte = refl

-- a CR alone, a byte from 128 on and a `#` in a string
other_bytes_of_a_string_stand_for_themselves : Reads (34 ∷ 13 ∷ 200 ∷ 35 ∷ 34 ∷ []) (at 0 (token.String (13 ∷ 200 ∷ 35 ∷ [])) ∷ [])
unfolding Reads at
other_bytes_of_a_string_stand_for_themselves = refl

a_string_that_is_not_closed_is_refused_at_its_quote : Refuses (codes "global x = \"a") (OpenString 11)
unfolding Refuses
a_string_that_is_not_closed_is_refused_at_its_quote = refl

-- "a, a line end, and b"
a_string_ends_on_its_line : Refuses (34 ∷ 97 ∷ 10 ∷ 98 ∷ 34 ∷ []) (OpenString 0)
unfolding Refuses
a_string_ends_on_its_line = refl

-- "a\q"
another_escape_is_refused_at_its_backslash : Refuses (34 ∷ 97 ∷ 92 ∷ 113 ∷ 34 ∷ []) (BadByte 2)
unfolding Refuses
another_escape_is_refused_at_its_backslash = refl

-- "\x4"
one_hexadecimal_digit_is_no_escape : Refuses (34 ∷ 92 ∷ 120 ∷ 52 ∷ 34 ∷ []) (BadByte 1)
unfolding Refuses
one_hexadecimal_digit_is_no_escape = refl

-- "\qy and no more
the_quote_stands_before_another_escape : Refuses (34 ∷ 92 ∷ 113 ∷ 121 ∷ []) (OpenString 0)
unfolding Refuses
the_quote_stands_before_another_escape = refl

-- "\" and no more
an_escaped_quote_closes_no_string : Refuses (34 ∷ 92 ∷ 34 ∷ []) (OpenString 0)
unfolding Refuses
an_escaped_quote_closes_no_string = refl

-- Attributes, loads and signs -------------------------------------------------------------------------------------

two_ampersands_are_a_sign : Reads (codes "&log &&c") (at 0 (token.Attribute (codes "log")) ∷ at 5 (token.Sign sign.And) ∷ at 7 (token.Name (codes "c")) ∷ [])
unfolding Reads at
two_ampersands_are_a_sign = refl

an_ampersand_alone_is_refused : Refuses (codes "& a") (BadByte 0)
unfolding Refuses
an_ampersand_alone_is_refused = refl

-- `@load`, a blank, a tab, b;c, and a CR LF
a_load_goes_up_to_a_line_end : Reads (64 ∷ 108 ∷ 111 ∷ 97 ∷ 100 ∷ 32 ∷ 9 ∷ 98 ∷ 59 ∷ 99 ∷ 13 ∷ 10 ∷ []) (at 0 (token.Load (codes "b;c")) ∷ [])
unfolding Reads at
a_load_goes_up_to_a_line_end = refl

a_load_of_no_file_is_refused_at_its_first_byte : Refuses (codes "; @load ") (BadByte 2)
unfolding Refuses
a_load_of_no_file_is_refused_at_its_first_byte = refl

no_name_goes_on_behind_not_in : Reads (codes "!in !in1")
    (at 0 (token.Sign sign.NotIn) ∷ at 4 (token.Sign sign.Not) ∷ at 5 (token.Name (codes "in1")) ∷ [])
unfolding Reads at
no_name_goes_on_behind_not_in = refl

the_longest_sign_counts : Reads (codes "+++=?$") (at 0 (token.Sign sign.PlusPlus) ∷ at 2 (token.Sign sign.PlusEqual) ∷ at 4 (token.Sign sign.QuestionDollar) ∷ [])
unfolding Reads at
the_longest_sign_counts = refl

-- Separators ------------------------------------------------------------------------------------------------------

a_comment_goes_up_to_the_end_of_the_text : Reads (codes "a # b") (at 0 (token.Name (codes "a")) ∷ [])
unfolding Reads at
a_comment_goes_up_to_the_end_of_the_text = refl

-- # a, a line end, and b
a_comment_goes_up_to_the_end_of_its_line : Reads (35 ∷ 97 ∷ 13 ∷ 10 ∷ 98 ∷ []) (at 4 (token.Name (codes "b")) ∷ [])
unfolding Reads at
a_comment_goes_up_to_the_end_of_its_line = refl

-- #, a CR, a, an LF, and b
a_cr_alone_ends_no_comment : Reads (35 ∷ 13 ∷ 97 ∷ 10 ∷ 98 ∷ []) (at 4 (token.Name (codes "b")) ∷ [])
unfolding Reads at
a_cr_alone_ends_no_comment = refl

a_cr_alone_is_refused : Refuses (97 ∷ 13 ∷ 98 ∷ []) (BadByte 1)
unfolding Refuses
a_cr_alone_is_refused = refl

a_cr_at_the_end_of_the_text_is_refused : Refuses (97 ∷ 13 ∷ []) (BadByte 1)
unfolding Refuses
a_cr_at_the_end_of_the_text_is_refused = refl

a_zero_byte_is_refused : Refuses (97 ∷ 0 ∷ []) (BadByte 1)
unfolding Refuses
a_zero_byte_is_refused = refl

a_byte_from_128_on_is_no_letter : Refuses (97 ∷ 233 ∷ []) (BadByte 1)
unfolding Refuses
a_byte_from_128_on_is_no_letter = refl
