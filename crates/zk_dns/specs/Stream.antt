-- DNS over TCP: two bytes of length before each message (RFC 1035, section 4.2.2).
use Rattle.std.specs.Prelude.{ℕ, zero, suc, ◌+◌, ◌&&◌, Bool, nat_le, nat_lt, if◌then◌else◌, List, [], ◌∷◌, length, take, drop}
use Rattle.zk_base.specs.Places.{Place, bytes_before_gap}
use Rattle.zk_dns.specs.declared.tcp.DnsStep.{DnsStep}
use Rattle.zk_dns.specs.declared.tcp.DnsStep.TheVariants.{More, One}
use Rattle.zk_dns.specs.Data.{number_at}

-- how many bytes a message and its length before it take
abbrev pub framed_len : List ℕ → ℕ
framed_len bytes = 2 + number_at 2 bytes 0

-- the bytes begin with a message and its length
abbrev pub is_framed : List ℕ → Bool
is_framed bytes = nat_le 2 (length bytes) && nat_le (framed_len bytes) (length bytes)

-- what is next where these bytes are there: a message, or more bytes are wanted
abbrev pub step_of : List ℕ → DnsStep
step_of bytes = if is_framed bytes then One (framed_len bytes) 2 (framed_len bytes) else More

-- what stands next in a side of a connection
pub data TcpUnit : Type 0 where
  -- the bytes of a message, which end before this place
  Message : (end : ℕ) → (bytes : List ℕ) → TcpUnit
  -- a gap at this place in a length or in a message: the side gives nothing more (fault 7)
  Gap : (place : ℕ) → TcpUnit

-- The units of what is there of a side from a place on, n of them at most.
unfoldable pub units_of : ℕ → ℕ → List Place → List TcpUnit
units_of zero place places = []
units_of (suc n) place places =
    let bytes = bytes_before_gap places in
    if is_framed bytes then Message (place + framed_len bytes) (take (number_at 2 bytes 0) (drop 2 bytes))
    ∷ units_of n (place + framed_len bytes) (drop (framed_len bytes) places)
    else if nat_lt (length bytes) (length places) then Gap (place + length bytes) ∷ []
    else []

-- the units of what is there of a side from a place on: a unit takes two places at least
unfoldable pub units_from : ℕ → List Place → List TcpUnit
units_from place places = units_of (length places) place places

-- the units of a side, of which this is there
abbrev pub units : List Place → List TcpUnit
units places = units_from 0 places
