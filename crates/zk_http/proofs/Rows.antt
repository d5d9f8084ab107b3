-- Exchanges that show what the definitions of `Units` say.
use Rattle.std.proofs.Common.{◌≡◌, ℕ, Bool, true, false, List, [], ◌∷◌, ◌++◌, map, refl}
use Rattle.std.specs.Prelude.{codes, None, Some, replicate}
use Rattle.std.specs.Str.{is_utf8, chars}
use Rattle.std.specs.Char.{encode_utf8}
use Rattle.httparse.proofs.OnLiterals.{httparse_on_literals}
use Rattle.zk_base.specs.declared.network.Side.{Side}
use Rattle.zk_base.specs.declared.network.Side.TheVariants.{Orig, Resp}
use Rattle.zk_http.specs.declared.units.Reason.{Reason}
use Rattle.zk_http.specs.declared.units.Reason.TheVariants as reason
use Rattle.zk_http.specs.declared.units.«Unit».{«Unit» as MessageUnit}
use Rattle.zk_http.specs.declared.units.UnitKind.{UnitKind}
use Rattle.zk_http.specs.declared.units.UnitKind.TheVariants.{Head, Done, Tunnel, Violation}
use Rattle.zk_http.specs.Chunks.{size_of, chunked}
use Rattle.zk_http.specs.Heads.{head_of}
use Rattle.zk_base.specs.Places.{Place}
use Rattle.zk_http.specs.Places.{Stream, Both}
use Rattle.zk_http.specs.Reads.{shortest}
use Rattle.zk_http.specs.Units.{next, units_of}

-- a unit without what its head holds
data Shown : Type 0 where
  head : (place : ℕ) → Shown
  done : (place body header gap : ℕ) → Shown
  tunnel : (place : ℕ) → Shown
  violation : (place : ℕ) (why : Reason) → Shown

abbrev shown_kind : ℕ → UnitKind → Shown
shown_kind place (Head found) = head place
shown_kind place (Done body header gap) = done place body header gap
shown_kind place Tunnel = tunnel place
shown_kind place (Violation why) = violation place why

abbrev shown : List MessageUnit → List Shown
shown units = map (λ unit. shown_kind unit.place unit.what) units

-- a line with its line end
abbrev line : List ℕ → List ℕ
line text = text ++ 13 ∷ 10 ∷ []

abbrev bytes : List ℕ → List Place
bytes text = map (λ byte. Some byte) text

abbrev streams : Bool → List Place → List Place → Both Stream
streams ended requests responses = record {
  orig = record { places = requests; ended = ended };
  resp = record { places = responses; ended = ended };
}

abbrev four : Side → List Side
four side = side ∷ side ∷ side ∷ side ∷ []

-- ---- responses that came first, to a HEAD and with 204

abbrev heads_alone : Both Stream
heads_alone =
    streams false (bytes (line (codes "HEAD /a HTTP/1.1") ++ line [] ++ line (codes "GET /b HTTP/1.1") ++ line []))
    (bytes (line (codes "HTTP/1.1 200 OK") ++ line (codes "Content-Length: 500") ++ line []
    ++ line (codes "HTTP/1.1 204 No Content") ++ line []))

computing : Bool
unfolding httparse_on_literals is_utf8 chars encode_utf8 head_of size_of chunked shortest next
computing = true

requests_without_bodies : shown (units_of heads_alone (four Orig)).orig ≡ head 20 ∷ done 20 0 16 0 ∷ head 39 ∷ done 39 0 15 0 ∷ []
unfolding computing
requests_without_bodies = refl

-- the response to HEAD and the one with 204 have no body, whatever length the first names
responses_without_bodies : shown (units_of heads_alone (four Orig ++ four Resp)).resp
    ≡ head 40 ∷ done 40 0 34 0 ∷ head 67 ∷ done 67 0 23 0 ∷ []
unfolding computing
responses_without_bodies = refl

-- no response is read before its request
responses_wait : shown (units_of heads_alone (four Resp)).resp ≡ []
unfolding computing
responses_wait = refl

-- ---- a chunked response, where the length doesn't count, and one to the stream's end

abbrev two_requests : List Place
two_requests = bytes (line (codes "GET / HTTP/1.1") ++ line [] ++ line (codes "GET / HTTP/1.1") ++ line [])

chunks_and_the_end : shown (units_of (streams true two_requests (bytes (line (codes "HTTP/1.1 200 OK") ++ line (codes "Transfer-Encoding: chunked")
    ++ line (codes "Content-Length: 9") ++ line []
    ++ line (codes "3;x=y") ++ line (codes "abc") ++ line (codes "0") ++ line (codes "T: u") ++ line []
    ++ line (codes "HTTP/1.0 200 OK") ++ line [] ++ codes "hello"))) (four Orig ++ four Resp)).resp
    ≡ head 66 ∷ done 89 3 58 0 ∷ head 108 ∷ done 113 5 15 0 ∷ []
unfolding computing
chunks_and_the_end = refl

-- ---- gaps

abbrev gap : ℕ → List Place
gap n = replicate n None

abbrev ten_places : List Place
ten_places = bytes (line (codes "HTTP/1.1 200 OK") ++ line (codes "Content-Length: 10") ++ line [] ++ codes "abcd")

gap_in_a_body : shown (units_of (streams false two_requests (ten_places ++ gap 6)) (four Orig ++ four Resp)).resp
    ≡ head 39 ∷ done 49 10 33 6 ∷ []
unfolding computing
gap_in_a_body = refl

gap_past_a_body : shown (units_of (streams false two_requests (ten_places ++ gap 8)) (four Orig ++ four Resp)).resp
    ≡ head 39 ∷ done 49 10 33 6 ∷ violation 50 reason.Gap ∷ []
unfolding computing
gap_past_a_body = refl
