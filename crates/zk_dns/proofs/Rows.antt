-- Messages with what they say, or with their first fault. What tshark prints of them is the same; the faults are this project's own.
use Rattle.std.specs.Prelude.{◌≡◌, ℕ, List, [], ◌∷◌, ◌++◌, true, false, Ok, Err, None, Some, refl, map, codes}
use Rattle.zk_dns.specs.declared.record.AnswerKind.TheVariants as kind
use Rattle.zk_dns.specs.declared.fault.DnsFault.TheVariants as fault
use Rattle.zk_dns.specs.Name.{ended, name_at, name_of, rest_at, run_at, run_of, run_step}
use Rattle.zk_dns.specs.Data.{alone_at, data_at, data_of, soa_at, strings_of}
use Rattle.zk_dns.specs.Sections.{question_at, question_behind, resource_at, resource_behind, sections_behind, sections_of, several}
use Rattle.zk_dns.specs.Record.{record_of}
use Rattle.zk_dns.specs.Stream.{units, units_from, units_of, Message, Gap}

-- a query for an address
query : record_of (0x12 ∷ 0x34 ∷ 0x01 ∷ 0x00 ∷ 0x00 ∷ 0x01 ∷ 0x00 ∷ 0x00 ∷ 0x00 ∷ 0x00 ∷ 0x00 ∷ 0x00 ∷ 0x03 ∷ 0x77 ∷ 0x77 ∷ 0x77 ∷ 0x07 ∷ 0x65 ∷ 0x78 ∷ 0x61 ∷ 0x6d ∷ 0x70 ∷ 0x6c ∷ 0x65 ∷ 0x03 ∷ 0x63 ∷ 0x6f ∷ 0x6d ∷ 0x00 ∷ 0x00 ∷ 0x01 ∷ 0x00 ∷ 0x01 ∷ []) ≡ Ok (record {
  id = 4660;
  opcode = 0;
  rcode = 0;
  qr = false;
  aa = false;
  tc = false;
  rd = true;
  ra = false;
  counts = 1 ∷ 0 ∷ 0 ∷ 0 ∷ [];
  questions = record { name = codes "www.example.com"; qtype = 1; qclass = 1 } ∷ [];
  answers = [];
})
unfolding record_of sections_of sections_behind several question_at question_behind resource_at resource_behind name_at rest_at name_of ended run_at run_of run_step data_at data_of alone_at soa_at strings_of
query = refl

-- its answer: another name for it, and the address of that; both by pointers
reply : record_of (0x12 ∷ 0x34 ∷ 0x81 ∷ 0x80 ∷ 0x00 ∷ 0x01 ∷ 0x00 ∷ 0x02 ∷ 0x00 ∷ 0x00 ∷ 0x00 ∷ 0x00 ∷ 0x03 ∷ 0x77 ∷ 0x77 ∷ 0x77 ∷ 0x07 ∷ 0x65 ∷ 0x78 ∷ 0x61 ∷ 0x6d ∷ 0x70 ∷ 0x6c ∷ 0x65 ∷ 0x03 ∷ 0x63 ∷ 0x6f ∷ 0x6d ∷ 0x00 ∷ 0x00 ∷ 0x01 ∷ 0x00 ∷ 0x01 ∷ 0xc0 ∷ 0x0c ∷ 0x00 ∷ 0x05 ∷ 0x00 ∷ 0x01 ∷ 0x00 ∷ 0x00 ∷ 0x01 ∷ 0x2c ∷ 0x00 ∷ 0x02 ∷ 0xc0 ∷ 0x10 ∷ 0xc0 ∷ 0x10 ∷ 0x00 ∷ 0x01 ∷ 0x00 ∷ 0x01 ∷ 0x00 ∷ 0x00 ∷ 0x01 ∷ 0x2c ∷ 0x00 ∷ 0x04 ∷ 0x5d ∷ 0xb8 ∷ 0xd8 ∷ 0x22 ∷ []) ≡ Ok (record {
  id = 4660;
  opcode = 0;
  rcode = 0;
  qr = true;
  aa = false;
  tc = false;
  rd = true;
  ra = true;
  counts = 1 ∷ 2 ∷ 0 ∷ 0 ∷ [];
  questions = record { name = codes "www.example.com"; qtype = 1; qclass = 1 } ∷ [];
  answers =
      record { name = codes "www.example.com"; rtype = 5; rclass = 1; ttl = 300; what = kind.Name (codes "example.com") }
      ∷ record { name = codes "example.com"; rtype = 1; rclass = 1; ttl = 300; what = kind.A 0x5db8d822 } ∷ [];
})
unfolding record_of sections_of sections_behind several question_at question_behind resource_at resource_behind name_at rest_at name_of ended run_at run_of run_step data_at data_of alone_at soa_at strings_of
reply = refl

-- a pointer to the start of its own run
own_pointer : record_of (0x12 ∷ 0x34 ∷ 0x01 ∷ 0x00 ∷ 0x00 ∷ 0x01 ∷ 0x00 ∷ 0x00 ∷ 0x00 ∷ 0x00 ∷ 0x00 ∷ 0x00 ∷ 0xc0 ∷ 0x0c ∷ 0x00 ∷ 0x01 ∷ 0x00 ∷ 0x01 ∷ []) ≡ Err (fault.Pointer 12)
unfolding record_of sections_of sections_behind several question_at question_behind resource_at resource_behind name_at rest_at name_of ended run_at run_of run_step data_at data_of alone_at soa_at strings_of
own_pointer = refl

-- the root in its place
root : record_of (0x12 ∷ 0x34 ∷ 0x01 ∷ 0x00 ∷ 0x00 ∷ 0x01 ∷ 0x00 ∷ 0x00 ∷ 0x00 ∷ 0x00 ∷ 0x00 ∷ 0x00 ∷ 0x00 ∷ 0x00 ∷ 0x01 ∷ 0x00 ∷ 0x01 ∷ []) ≡ Ok (record {
  id = 4660;
  opcode = 0;
  rcode = 0;
  qr = false;
  aa = false;
  tc = false;
  rd = true;
  ra = false;
  counts = 1 ∷ 0 ∷ 0 ∷ 0 ∷ [];
  questions = record { name = codes "."; qtype = 1; qclass = 1 } ∷ [];
  answers = [];
})
unfolding record_of sections_of sections_behind several question_at question_behind resource_at resource_behind name_at rest_at name_of ended run_at run_of run_step data_at data_of alone_at soa_at strings_of
root = refl

-- one byte more
trailing : record_of (0x12 ∷ 0x34 ∷ 0x01 ∷ 0x00 ∷ 0x00 ∷ 0x01 ∷ 0x00 ∷ 0x00 ∷ 0x00 ∷ 0x00 ∷ 0x00 ∷ 0x00 ∷ 0x00 ∷ 0x00 ∷ 0x01 ∷ 0x00 ∷ 0x01 ∷ 0xff ∷ []) ≡ Err (fault.Trailing 17)
unfolding record_of sections_of sections_behind several question_at question_behind resource_at resource_behind name_at rest_at name_of ended run_at run_of run_step data_at data_of alone_at soa_at strings_of
trailing = refl

-- one byte less
short : record_of (0x12 ∷ 0x34 ∷ 0x01 ∷ 0x00 ∷ 0x00 ∷ 0x01 ∷ 0x00 ∷ 0x00 ∷ 0x00 ∷ 0x00 ∷ 0x00 ∷ 0x00 ∷ 0x00 ∷ 0x00 ∷ 0x01 ∷ 0x00 ∷ []) ≡ Err (fault.Short 16)
unfolding record_of sections_of sections_behind several question_at question_behind resource_at resource_behind name_at rest_at name_of ended run_at run_of run_step data_at data_of alone_at soa_at strings_of
short = refl

-- a pointer that leads on
forward_pointer : record_of (0x12 ∷ 0x34 ∷ 0x01 ∷ 0x00 ∷ 0x00 ∷ 0x01 ∷ 0x00 ∷ 0x00 ∷ 0x00 ∷ 0x00 ∷ 0x00 ∷ 0x00 ∷ 0xc0 ∷ 0x12 ∷ 0x00 ∷ 0x01 ∷ 0x00 ∷ 0x01 ∷ 0x00 ∷ []) ≡ Err (fault.Pointer 12)
unfolding record_of sections_of sections_behind several question_at question_behind resource_at resource_behind name_at rest_at name_of ended run_at run_of run_step data_at data_of alone_at soa_at strings_of
forward_pointer = refl

-- a length byte with the bits 01
reserved_bits : record_of (0x12 ∷ 0x34 ∷ 0x01 ∷ 0x00 ∷ 0x00 ∷ 0x01 ∷ 0x00 ∷ 0x00 ∷ 0x00 ∷ 0x00 ∷ 0x00 ∷ 0x00 ∷ 0x01 ∷ 0x61 ∷ 0x40 ∷ 0x00 ∷ 0x01 ∷ 0x00 ∷ 0x01 ∷ []) ≡ Err (fault.Label 14)
unfolding record_of sections_of sections_behind several question_at question_behind resource_at resource_behind name_at rest_at name_of ended run_at run_of run_step data_at data_of alone_at soa_at strings_of
reserved_bits = refl

-- an address of three bytes
short_address : record_of (0x12 ∷ 0x34 ∷ 0x81 ∷ 0x80 ∷ 0x00 ∷ 0x00 ∷ 0x00 ∷ 0x01 ∷ 0x00 ∷ 0x00 ∷ 0x00 ∷ 0x00 ∷ 0x00 ∷ 0x00 ∷ 0x01 ∷ 0x00 ∷ 0x01 ∷ 0x00 ∷ 0x00 ∷ 0x00 ∷ 0x00 ∷ 0x00 ∷ 0x03 ∷ 0x01 ∷ 0x02 ∷ 0x03 ∷ []) ≡ Err (fault.Data 23)
unfolding record_of sections_of sections_behind several question_at question_behind resource_at resource_behind name_at rest_at name_of ended run_at run_of run_step data_at data_of alone_at soa_at strings_of
short_address = refl

-- a string that passes its data
short_string : record_of (0x12 ∷ 0x34 ∷ 0x81 ∷ 0x80 ∷ 0x00 ∷ 0x00 ∷ 0x00 ∷ 0x01 ∷ 0x00 ∷ 0x00 ∷ 0x00 ∷ 0x00 ∷ 0x00 ∷ 0x00 ∷ 0x10 ∷ 0x00 ∷ 0x01 ∷ 0x00 ∷ 0x00 ∷ 0x00 ∷ 0x00 ∷ 0x00 ∷ 0x02 ∷ 0x02 ∷ 0x61 ∷ []) ≡ Err (fault.Data 23)
unfolding record_of sections_of sections_behind several question_at question_behind resource_at resource_behind name_at rest_at name_of ended run_at run_of run_step data_at data_of alone_at soa_at strings_of
short_string = refl

-- the same address in another class is not judged
other_class : record_of (0x12 ∷ 0x34 ∷ 0x81 ∷ 0x80 ∷ 0x00 ∷ 0x00 ∷ 0x00 ∷ 0x01 ∷ 0x00 ∷ 0x00 ∷ 0x00 ∷ 0x00 ∷ 0x00 ∷ 0x00 ∷ 0x01 ∷ 0x00 ∷ 0x03 ∷ 0x00 ∷ 0x00 ∷ 0x00 ∷ 0x00 ∷ 0x00 ∷ 0x03 ∷ 0x01 ∷ 0x02 ∷ 0x03 ∷ []) ≡ Ok (record {
  id = 4660;
  opcode = 0;
  rcode = 0;
  qr = true;
  aa = false;
  tc = false;
  rd = true;
  ra = true;
  counts = 0 ∷ 1 ∷ 0 ∷ 0 ∷ [];
  questions = [];
  answers = record { name = codes "."; rtype = 1; rclass = 3; ttl = 0; what = kind.Other } ∷ [];
})
unfolding record_of sections_of sections_behind several question_at question_behind resource_at resource_behind name_at rest_at name_of ended run_at run_of run_step data_at data_of alone_at soa_at strings_of
other_class = refl

-- three labels of 63 bytes, and behind them one that brings the name to 255 bytes, or to one more
abbrev long_label : List ℕ
long_label = 0x3f ∷ codes "aaaaaaaaaaaaaaaaaaaaaaaaaaaaaaaaaaaaaaaaaaaaaaaaaaaaaaaaaaaaaaa"

abbrev long_name : List ℕ → List ℕ
long_name last = long_label ++ long_label ++ long_label ++ last ++ 0 ∷ []

longest_name : record_of (codes "    " ++ 0 ∷ 1 ∷ 0 ∷ 0 ∷ 0 ∷ 0 ∷ 0 ∷ 0 ∷ long_name (61 ∷ codes "aaaaaaaaaaaaaaaaaaaaaaaaaaaaaaaaaaaaaaaaaaaaaaaaaaaaaaaaaaaaa") ++ 0 ∷ 1 ∷ 0 ∷ 1 ∷ 0 ∷ []) ≡ Err (fault.Trailing 271)
unfolding record_of sections_of sections_behind several question_at question_behind resource_at resource_behind name_at rest_at name_of ended run_at run_of run_step data_at data_of alone_at soa_at strings_of
longest_name = refl

too_long_name : record_of (codes "    " ++ 0 ∷ 1 ∷ 0 ∷ 0 ∷ 0 ∷ 0 ∷ 0 ∷ 0 ∷ long_name (62 ∷ codes "aaaaaaaaaaaaaaaaaaaaaaaaaaaaaaaaaaaaaaaaaaaaaaaaaaaaaaaaaaaaaa") ++ 0 ∷ 1 ∷ 0 ∷ 1 ∷ []) ≡ Err (fault.Name 204)
unfolding record_of sections_of sections_behind several question_at question_behind resource_at resource_behind name_at rest_at name_of ended run_at run_of run_step data_at data_of alone_at soa_at strings_of
too_long_name = refl

-- a side: two messages, one of them empty, and a third that a gap cuts
side : units (map Some (0 ∷ 2 ∷ 97 ∷ 98 ∷ 0 ∷ 0 ∷ 0 ∷ 3 ∷ 99 ∷ []) ++ None ∷ map Some (0 ∷ 0 ∷ []))
    ≡ Message 4 (97 ∷ 98 ∷ []) ∷ Message 6 [] ∷ Gap 9 ∷ []
unfolding units_from units_of
side = refl

-- the next length is not whole yet
waiting_side : units (map Some (0 ∷ 2 ∷ 97 ∷ 98 ∷ 0 ∷ [])) ≡ Message 4 (97 ∷ 98 ∷ []) ∷ []
unfolding units_from units_of
waiting_side = refl
