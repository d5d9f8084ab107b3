-- The fragments of IPv4 datagrams (RFC 791, section 3.2), and what a value of `Frags` stands for.
use Rattle.std.specs.Prelude.{ℕ, ◌*◌, Bool, false, ◌==◌, ◌&&◌, List}
use Rattle.zk_base.specs.declared.network.Addr.{Addr}
use Rattle.zk_base.specs.declared.network.Addr.TheVariants.{V4, V6}
use Rattle.zk_base.specs.declared.time.Moment.{Moment}
use Rattle.zk_link_ip.specs.Ip4 as ip4
use Rattle.zk_frag.specs.declared.frags.Frags.{Frags}
use Rattle.zk_frag.specs.declared.joined.Joined.{Joined}
use Rattle.zk_frag.specs.declared.key.Key.{Key}
use Rattle.zk_frag.specs.Fragment.{Fragment}
use Rattle.zk_frag.specs.Histories as histories
use Rattle.zk_frag.specs.Standing as standing

-- a fragment that says no more of its datagram than its key
abbrev pub Ip4Fragment : Type 0
Ip4Fragment = Fragment Key (Unit {0})

-- what the fragments of a datagram have in common
abbrev pub key_of : List ℕ → Key
key_of packet = record {
  source = ip4.source packet;
  destination = ip4.destination packet;
  protocol = ip4.protocol packet;
  identification = ip4.identification packet;
}

-- the fragment that is this IPv4 packet; its offset counts units of 8 bytes
abbrev pub fragment_of : Moment → List ℕ → Ip4Fragment
fragment_of moment packet = record {
  moment = moment;
  key = key_of packet;
  tag = record {};
  place = 8 * ip4.offset packet;
  more = ip4.more packet;
  was_cut = ip4.was_cut packet;
  payload = ip4.payload packet;
}

abbrev pub same_address : Addr → Addr → Bool
same_address (V4 a) (V4 b) = a == b
same_address (V6 a) (V6 b) = a == b
same_address (V4 a) (V6 b) = false
same_address (V6 a) (V4 b) = false

abbrev pub same_key : Key → Key → Bool
same_key a b =
    same_address a.source b.source
    && (same_address a.destination b.destination
    && ((a.protocol == b.protocol) && (a.identification == b.identification)))

-- what one more fragment does
abbrev pub joined_of : List Ip4Fragment → Ip4Fragment → Joined
joined_of given fragment = histories.joined_of same_key given fragment

-- the bytes of the datagram that it makes whole
abbrev pub datagram_of : List Ip4Fragment → Ip4Fragment → List ℕ
datagram_of given fragment = histories.datagram_of same_key given fragment

-- the bytes of the datagram that was last made whole
abbrev pub whole_of : Frags → List ℕ
whole_of frags = standing.whole_of frags.groups

-- the value goes on as one that was given exactly these fragments
abbrev pub StandsFor : Frags → List Ip4Fragment → Type 0
StandsFor frags given = standing.StandsFor same_key frags.groups given
