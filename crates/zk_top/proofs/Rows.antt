-- What the definition of a run gives for small captures, computed by the checker.
use Rattle.std.proofs.Common.{◌≡◌, ℕ, List, [], ◌∷◌, ◌++◌, codes, pos, Some, None, if◌then◌else◌, refl}
use Rattle.std.specs.Str.{bytes_eq}
use Rattle.std.specs.Fmt.{digits}
use Rattle.zk_base.specs.declared.endings.Ending.TheVariants.{Done, Usage, ScriptRefused, NoInput, CaptureRefused, CutShort}
use Rattle.zk_base.specs.declared.endings.ScriptKind.TheVariants.{BadByte}
use Rattle.zk_base.specs.declared.network.Side.{Side}
use Rattle.zk_base.specs.declared.network.Side.TheVariants.{Orig, Resp}
use Rattle.zk_base.specs.declared.numbers.ConnNo.{ConnNo}
use Rattle.zk_base.specs.Shelf.{Files}
use Rattle.zk_conn.specs.declared.facts.Facts.{Facts}
use Rattle.zk_dns.specs.declared.record.DnsRecord.{DnsRecord}
use Rattle.zk_http.specs.declared.units.Head.{Head as MessageHead}
use Rattle.zk_http.specs.declared.units.Reason.TheVariants as reason
use Rattle.zk_http.specs.declared.units.UnitKind.{UnitKind}
use Rattle.zk_http.specs.declared.units.UnitKind.TheVariants as unit
use Rattle.zk_text.specs.Span.{span_decimal}
use Rattle.zk_load.specs.Loading.{load_from, loading}
use Rattle.zk_top.specs.Line.{line_of}
use Rattle.zk_top.specs.Outcome.{outcome}
use Rattle.zk_traffic.specs.declared.item.What.{What}
use Rattle.zk_traffic.specs.declared.item.What.TheVariants.{Http, Dns, DnsBad}

-- one input, c.pcap
one : List ℕ → Files
one bytes name = if bytes_eq name (codes "c.pcap") then Some bytes else None

list : List (List ℕ)
list = codes "list" ∷ codes "c.pcap" ∷ []

header : List ℕ
header = 0xd4 ∷ 0xc3 ∷ 0xb2 ∷ 0xa1 ∷ 2 ∷ 0 ∷ 4 ∷ 0 ∷ 0 ∷ 0 ∷ 0 ∷ 0 ∷ 0 ∷ 0 ∷ 0 ∷ 0 ∷ 0 ∷ 0 ∷ 4 ∷ 0 ∷ 1 ∷ 0 ∷ 0 ∷ 0 ∷ []

-- 2 bytes at 1 s, and the first 3 bytes of another record
cut : List ℕ
cut = 1 ∷ 0 ∷ 0 ∷ 0 ∷ 0 ∷ 0 ∷ 0 ∷ 0 ∷ 2 ∷ 0 ∷ 0 ∷ 0 ∷ 2 ∷ 0 ∷ 0 ∷ 0 ∷ 0xff ∷ 0xff ∷ 2 ∷ 0 ∷ 0 ∷ []

an_empty_file_is_refused_at_its_first_byte : (outcome list (one [])).ending ≡ CaptureRefused (codes "c.pcap") 0
unfolding one list
an_empty_file_is_refused_at_its_first_byte = refl

a_refusal_is_complained_of : (outcome list (one [])).complained ≡ codes "zeekoff: c.pcap refused at byte 0\n"
unfolding one list digits
a_refusal_is_complained_of = refl

a_header_alone_is_whole : (outcome list (one header)).ending ≡ Done
unfolding one list header
a_header_alone_is_whole = refl

a_cut_capture_ends_at_the_record_that_is_not_whole : (outcome list (one (header ++ cut))).ending ≡ CutShort (codes "c.pcap") 42
unfolding one list header cut
a_cut_capture_ends_at_the_record_that_is_not_whole = refl

a_missing_file_is_named : (outcome (codes "list" ∷ codes "x.pcap" ∷ []) (one header)).ending ≡ NoInput (codes "x.pcap")
unfolding one
a_missing_file_is_named = refl

a_missing_file_is_asked_for : (outcome (codes "list" ∷ codes "x.pcap" ∷ []) (one header)).asked ≡ codes "x.pcap" ∷ []
unfolding one
a_missing_file_is_asked_for = refl

no_words_are_no_command : (outcome [] (one header)).ending ≡ Usage 0
no_words_are_no_command = refl

a_list_of_no_file_ends_too_soon : (outcome (codes "list" ∷ []) (one header)).ending ≡ Usage 1
a_list_of_no_file_ends_too_soon = refl

a_list_of_two_files_is_not_understood : (outcome (codes "list" ∷ codes "a" ∷ codes "b" ∷ []) (one header)).ending ≡ Usage 2
a_list_of_two_files_is_not_understood = refl

options_stand_before_scripts : (outcome (codes "run" ∷ codes "-r" ∷ codes "c" ∷ codes "s.zeek" ∷ codes "-C" ∷ []) (one header)).ending ≡ Usage 4
options_stand_before_scripts = refl

a_capture_has_to_be_named : (outcome (codes "run" ∷ codes "-r" ∷ []) (one header)).ending ≡ Usage 2
a_capture_has_to_be_named = refl

a_budget_has_no_leading_zero : (outcome (codes "run" ∷ codes "--budget" ∷ codes "09" ∷ codes "-b" ∷ []) (one header)).ending ≡ Usage 2
a_budget_has_no_leading_zero = refl

words_that_are_not_understood_start_nothing : (outcome (codes "list" ∷ codes "-x" ∷ []) (one header)).asked ≡ []
words_that_are_not_understood_start_nothing = refl

-- Lines of messages -----------------------------------------------------------------------------------------------

-- what is said of connection 1 at 1,700,000,000.02 s
said : (ConnNo → What) → List ℕ
said what = line_of (record { moment = record { 0 = pos 1_700_000_000_020_000 }; what = what (record { 0 = 1 }) })

said_unit : Facts → Side → ℕ → UnitKind → List ℕ
said_unit facts side place kind = said (λ conn. Http conn facts side (record { place = place; what = kind }))

a_head_is_said_with_its_place : (facts : Facts) (head : MessageHead) → said_unit facts Orig 32 (unit.Head head) ≡ codes "1700000000.020000\thttp\t1\torig\thead\t32\n"
unfolding said_unit said span_decimal digits
a_head_is_said_with_its_place facts head = refl

the_end_of_a_message_is_said_with_the_length_of_its_body : (facts : Facts) (lines gap : ℕ) → said_unit facts Resp 40 (unit.Done 2 lines gap) ≡ codes "1700000000.020000\thttp\t1\tresp\tdone\t40\t2\n"
unfolding said_unit said span_decimal digits
the_end_of_a_message_is_said_with_the_length_of_its_body facts lines gap = refl

a_tunnel_is_said_with_its_place : (facts : Facts) → said_unit facts Resp 106 unit.Tunnel ≡ codes "1700000000.020000\thttp\t1\tresp\ttunnel\t106\n"
unfolding said_unit said span_decimal digits
a_tunnel_is_said_with_its_place facts = refl

a_violation_is_said_with_its_reason : (facts : Facts) → said_unit facts Resp 50 (unit.Violation reason.Gap) ≡ codes "1700000000.020000\thttp\t1\tresp\tviolation\t50\t8\n"
unfolding said_unit said span_decimal digits
a_violation_is_said_with_its_reason facts = refl

a_message_is_said_with_its_identifier_and_length : (facts : Facts) (message : DnsRecord)
    → said (λ conn. Dns conn facts Orig 33 (record message { id = 4660 })) ≡ codes "1700000000.020000\tdns\t1\torig\t4660\t33\n"
unfolding said span_decimal digits
a_message_is_said_with_its_identifier_and_length facts message = refl

bytes_that_are_no_message_are_said_with_their_fault : (facts : Facts) → said (λ conn. DnsBad conn facts Resp 7 0) ≡ codes "1700000000.020000\tdnsbad\t1\tresp\t7\t0\n"
unfolding said span_decimal digits
bytes_that_are_no_message_are_said_with_their_fault facts = refl

-- Runs of scripts -------------------------------------------------------------------------------------------------

-- two inputs, c.pcap and s.zeek
two : List ℕ → List ℕ → Files
two capture script name = if bytes_eq name (codes "s.zeek") then Some script else one capture name

run : List (List ℕ)
run = codes "run" ∷ codes "-b" ∷ codes "-r" ∷ codes "c.pcap" ∷ codes "s.zeek" ∷ []

-- Tokens are judged before the tree.
a_bad_byte_is_refused_at_its_place : (outcome run (two header (codes "print 1; ~"))).ending ≡ ScriptRefused (codes "s.zeek") 9 BadByte
unfolding loading load_from one two run header
a_bad_byte_is_refused_at_its_place = refl

a_great_number_is_complained_of : (outcome run (two header (codes "print 18446744073709551616;"))).complained ≡ codes "zeekoff: s.zeek, byte 6: BigNumber\n"
unfolding loading load_from one two run header digits
a_great_number_is_complained_of = refl

-- neither of these two is there: the script is missed, and the capture is not asked for
missing : List (List ℕ)
missing = codes "run" ∷ codes "-b" ∷ codes "-r" ∷ codes "x.pcap" ∷ codes "x.zeek" ∷ []

of_two_missing_files_the_script_is_named : (outcome missing (two header [])).ending ≡ NoInput (codes "x.zeek")
unfolding loading load_from one two missing
of_two_missing_files_the_script_is_named = refl

of_two_missing_files_the_script_alone_is_asked_for : (outcome missing (two header [])).asked ≡ codes "x.zeek" ∷ []
unfolding loading load_from one two missing
of_two_missing_files_the_script_alone_is_asked_for = refl
