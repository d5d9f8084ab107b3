-- Packets of generated captures, computed by the checker.
use Rattle.std.proofs.Common.{◌≡◌, ℕ, List, [], ◌∷◌, refl}
use Rattle.zk_base.specs.Checksum.{folded}
use Rattle.zk_base.specs.declared.network.Side.TheVariants.{Orig, Resp}
use Rattle.zk_gen.specs.Capture.{capture_header, capture_of, conversations, lookup_of, request_of}
use Rattle.zk_gen.specs.Conversations.{datagram, query, record_with, response, segment}
use Rattle.zk_gen.specs.Frames.{ip_header, pseudo_header, record_header, record_of, tcp_header, udp_header}

no_conversations : capture_of 2 0 ≡ capture_header
unfolding conversations
no_conversations = refl

-- 10.1.0.0 asks 10.0.0.53
abbrev query_record : List ℕ
query_record = 0 ∷ 241 ∷ 83 ∷ 101 ∷ 0 ∷ 0 ∷ 0 ∷ 0 ∷ 75 ∷ 0 ∷ 0 ∷ 0 ∷ 75 ∷ 0 ∷ 0 ∷ 0 ∷ 0 ∷ 0 ∷ 0 ∷ 0 ∷ 0 ∷ 0 ∷ 0 ∷ 0 ∷ 0 ∷ 0 ∷ 0 ∷ 0 ∷ 8 ∷ 0 ∷ 69 ∷ 0 ∷ 0 ∷ 61 ∷ 0 ∷ 0 ∷ 0 ∷ 0 ∷ 0 ∷ 17 ∷ 166 ∷ 123 ∷ 10 ∷ 1 ∷ 0 ∷ 0 ∷ 10 ∷ 0 ∷ 0 ∷ 53 ∷ 156 ∷ 64 ∷ 0 ∷ 53 ∷ 0 ∷ 41 ∷ 242 ∷ 96 ∷ 18 ∷ 52 ∷ 1 ∷ 0 ∷ 0 ∷ 1 ∷ 0 ∷ 0 ∷ 0 ∷ 0 ∷ 0 ∷ 0 ∷ 3 ∷ 119 ∷ 119 ∷ 119 ∷ 7 ∷ 101 ∷ 120 ∷ 97 ∷ 109 ∷ 112 ∷ 108 ∷ 101 ∷ 3 ∷ 99 ∷ 111 ∷ 109 ∷ 0 ∷ 0 ∷ 1 ∷ 0 ∷ 1 ∷ []

a_query_with_right_checksums : record_with (lookup_of 0) (datagram 0 Orig query) ≡ query_record
unfolding folded record_of record_header ip_header pseudo_header udp_header
a_query_with_right_checksums = refl

-- 10.1.0.1 opens a connection to 10.0.0.80, a second later
abbrev syn_record : List ℕ
syn_record = 1 ∷ 241 ∷ 83 ∷ 101 ∷ 0 ∷ 0 ∷ 0 ∷ 0 ∷ 54 ∷ 0 ∷ 0 ∷ 0 ∷ 54 ∷ 0 ∷ 0 ∷ 0 ∷ 0 ∷ 0 ∷ 0 ∷ 0 ∷ 0 ∷ 0 ∷ 0 ∷ 0 ∷ 0 ∷ 0 ∷ 0 ∷ 0 ∷ 8 ∷ 0 ∷ 69 ∷ 0 ∷ 0 ∷ 40 ∷ 0 ∷ 0 ∷ 0 ∷ 0 ∷ 0 ∷ 6 ∷ 166 ∷ 127 ∷ 10 ∷ 1 ∷ 0 ∷ 1 ∷ 10 ∷ 0 ∷ 0 ∷ 80 ∷ 156 ∷ 65 ∷ 0 ∷ 80 ∷ 0 ∷ 0 ∷ 0 ∷ 100 ∷ 0 ∷ 0 ∷ 0 ∷ 0 ∷ 80 ∷ 2 ∷ 0 ∷ 0 ∷ 254 ∷ 155 ∷ 0 ∷ 0 ∷ []

a_syn_with_right_checksums : record_with (request_of 1) (segment 0 Orig 2 100 0 []) ≡ syn_record
unfolding folded record_of record_header ip_header pseudo_header tcp_header
a_syn_with_right_checksums = refl

-- and is answered in it
abbrev response_record : List ℕ
response_record = 1 ∷ 241 ∷ 83 ∷ 101 ∷ 48 ∷ 117 ∷ 0 ∷ 0 ∷ 94 ∷ 0 ∷ 0 ∷ 0 ∷ 94 ∷ 0 ∷ 0 ∷ 0 ∷ 0 ∷ 0 ∷ 0 ∷ 0 ∷ 0 ∷ 0 ∷ 0 ∷ 0 ∷ 0 ∷ 0 ∷ 0 ∷ 0 ∷ 8 ∷ 0 ∷ 69 ∷ 0 ∷ 0 ∷ 80 ∷ 0 ∷ 0 ∷ 0 ∷ 0 ∷ 0 ∷ 6 ∷ 166 ∷ 87 ∷ 10 ∷ 0 ∷ 0 ∷ 80 ∷ 10 ∷ 1 ∷ 0 ∷ 1 ∷ 0 ∷ 80 ∷ 156 ∷ 65 ∷ 0 ∷ 0 ∷ 1 ∷ 245 ∷ 0 ∷ 0 ∷ 0 ∷ 133 ∷ 80 ∷ 16 ∷ 0 ∷ 0 ∷ 228 ∷ 229 ∷ 0 ∷ 0 ∷ 72 ∷ 84 ∷ 84 ∷ 80 ∷ 47 ∷ 49 ∷ 46 ∷ 49 ∷ 32 ∷ 50 ∷ 48 ∷ 48 ∷ 32 ∷ 79 ∷ 75 ∷ 13 ∷ 10 ∷ 67 ∷ 111 ∷ 110 ∷ 116 ∷ 101 ∷ 110 ∷ 116 ∷ 45 ∷ 76 ∷ 101 ∷ 110 ∷ 103 ∷ 116 ∷ 104 ∷ 58 ∷ 32 ∷ 50 ∷ 13 ∷ 10 ∷ 13 ∷ 10 ∷ 104 ∷ 105 ∷ []

a_response_with_right_checksums : record_with (request_of 1) (segment 30000 Resp 16 501 133 response) ≡ response_record
unfolding folded record_of record_header ip_header pseudo_header tcp_header
a_response_with_right_checksums = refl
