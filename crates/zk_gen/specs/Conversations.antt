-- The conversations of a generated capture, packet by packet.
use Rattle.std.specs.Prelude.{ℕ, zero, suc, ◌+◌, List, [], ◌∷◌, ◌++◌, codes, slice_range}
use Rattle.zk_base.specs.declared.network.Side.{Side}
use Rattle.zk_base.specs.declared.network.Side.TheVariants.{Orig, Resp}
use Rattle.zk_gen.specs.declared.packet.Talk.{Talk}
use Rattle.zk_gen.specs.declared.packet.Transport.{Transport}
use Rattle.zk_gen.specs.declared.packet.Transport.TheVariants.{Datagram, Segment}
use Rattle.zk_gen.specs.Frames.{record_of}

-- What a side sends, so many microseconds after its conversation begins.
pub record Packet : Type 0 where
  pub micros : ℕ
  pub side : Side
  pub transport : Transport
  pub payload : List ℕ

abbrev pub datagram : ℕ → Side → List ℕ → Packet
datagram micros side payload = record { micros = micros; side = side; transport = Datagram; payload = payload }

abbrev pub by_tcp : ℕ → ℕ → ℕ → Transport
by_tcp flags number awaited = Segment flags number awaited

abbrev pub segment : ℕ → Side → ℕ → ℕ → ℕ → List ℕ → Packet
segment micros side flags number awaited payload = record { micros = micros; side = side; transport = by_tcp flags number awaited; payload = payload }

abbrev pub record_with : Talk → Packet → List ℕ
record_with talk packet = record_of talk packet.micros packet.side packet.transport packet.payload

-- the records of packets, one behind another
abbrev pub records : Talk → List Packet → List ℕ
records talk [] = []
records talk (packet ∷ packets) = record_with talk packet ++ records talk packets

-- ---- DNS (RFC 1035, section 4)

-- the name www.example.com, of type A and class IN
abbrev pub question : List ℕ
question = 3 ∷ codes "www" ++ (7 ∷ codes "example" ++ (3 ∷ codes "com" ++ 0 ∷ 0 ∷ 1 ∷ 0 ∷ 1 ∷ []))

abbrev pub query : List ℕ
query = 0x12 ∷ 0x34 ∷ 0x01 ∷ 0x00 ∷ 0 ∷ 1 ∷ 0 ∷ 0 ∷ 0 ∷ 0 ∷ 0 ∷ 0 ∷ question

-- the name is another one of example.com, whose address is 93.184.216.34; both hold for 300 seconds
abbrev pub reply : List ℕ
reply =
    0x12 ∷ 0x34 ∷ 0x81 ∷ 0x80 ∷ 0 ∷ 1 ∷ 0 ∷ 2 ∷ 0 ∷ 0 ∷ 0 ∷ 0 ∷ question
    ++ (0xc0 ∷ 0x0c ∷ 0 ∷ 5 ∷ 0 ∷ 1 ∷ 0 ∷ 0 ∷ 0x01 ∷ 0x2c ∷ 0 ∷ 2 ∷ 0xc0 ∷ 0x10 ∷ []
    ++ 0xc0 ∷ 0x10 ∷ 0 ∷ 1 ∷ 0 ∷ 1 ∷ 0 ∷ 0 ∷ 0x01 ∷ 0x2c ∷ 0 ∷ 4 ∷ 93 ∷ 184 ∷ 216 ∷ 34 ∷ [])

-- a query and its reply
abbrev pub looked_up : List Packet
looked_up = datagram 0 Orig query ∷ datagram 20000 Resp reply ∷ []

-- ---- HTTP (RFC 9112) over TCP (RFC 9293)

abbrev pub line : List ℕ → List ℕ
line text = text ++ 13 ∷ 10 ∷ []

abbrev pub request : List ℕ
request = line (codes "GET / HTTP/1.1") ++ (line (codes "Host: a.test") ++ line [])

abbrev pub response : List ℕ
response = line (codes "HTTP/1.1 200 OK") ++ (line (codes "Content-Length: 2") ++ (line [] ++ codes "hi"))

-- FIN is 1, SYN 2, ACK 16; the client's numbers begin with 100, the server's with 500
abbrev pub opening : List Packet
opening = segment 0 Orig 2 100 0 [] ∷ segment 10000 Resp 18 500 101 [] ∷ []

abbrev pub closing : List Packet
closing = segment 40000 Orig 17 133 541 [] ∷ segment 50000 Resp 17 541 134 [] ∷ segment 60000 Orig 16 134 542 [] ∷ []

-- bytes of a side's message from one on
abbrev pub piece : ℕ → Side → ℕ → List ℕ → Packet
piece micros Orig from payload = segment micros Orig 16 (101 + from) 501 payload
piece micros Resp from payload = segment micros Resp 16 (501 + from) 133 payload

-- each message in one segment
abbrev pub whole : List Packet
whole = opening ++ piece 20000 Orig 0 request ∷ piece 30000 Resp 0 response ∷ closing

-- the n-th byte of a message, from 0, alone
abbrev pub byte_at : ℕ → List ℕ → List ℕ
byte_at n message = slice_range message n (n + 1)

-- each byte of a message up to the n-th in a segment of its own, from the last to the first: all but the first byte 5
-- milliseconds early, and twice
unfoldable pub one_by_one : Side → ℕ → List ℕ → ℕ → List Packet
one_by_one side early message zero = piece (early + 5000) side 0 (byte_at 0 message) ∷ []
one_by_one side early message (suc n) =
    piece early side (suc n) (byte_at (suc n) message) ∷ piece early side (suc n) (byte_at (suc n) message) ∷ one_by_one side early message n

-- each message byte by byte
abbrev pub cut : List Packet
cut = opening ++ (one_by_one Orig 15000 request 31 ++ (one_by_one Resp 25000 response 39 ++ closing))
