-- A fragment of a datagram (RFC 791, section 3.2; RFC 8200, section 4.5).
use Rattle.std.specs.Prelude.{ℕ, ◌+◌, ◌-◌, Bool, ◌||◌, nat_lt, nat_le, List, length, Option, None, slice_get, if◌then◌else◌}
use Rattle.zk_base.specs.declared.time.Moment.{Moment}
use Rattle.zk_frag.specs.declared.fragment.TheConstants.{DATAGRAM_MAX}
use Rattle.zk_frag.specs.declared.fragment.FragmentView.{FragmentView}

pub record Fragment (K T : Type 0) : Type 0 where
  pub moment : Moment
  -- what the fragments of one datagram have in common
  pub key : K
  -- what else it says of its datagram
  pub tag : T
  -- where its payload stands in the datagram, in bytes
  pub place : ℕ
  -- more fragments follow
  pub more : Bool
  -- the capture lacks bytes of it
  pub was_cut : Bool
  pub payload : List ℕ

module _ {K T : Type 0} where
  -- the fragment that a view shows
  abbrev pub shown : FragmentView K T → Fragment K T
  shown view = record {
    moment = view.moment;
    key = view.key;
    tag = view.tag;
    place = view.place;
    more = view.more;
    was_cut = view.was_cut;
    payload = view.payload.now;
  }

  -- the place behind its last byte
  abbrev pub end : Fragment K T → ℕ
  end fragment = fragment.place + length fragment.payload

  -- it is cut, or its place and its payload together pass 65,535 bytes (the header is not counted)
  abbrev pub is_ignored : Fragment K T → Bool
  is_ignored fragment = fragment.was_cut || nat_lt DATAGRAM_MAX (end fragment)

-- the byte that a payload that begins at `from` has at a place of the datagram
abbrev pub byte_of : ℕ → List ℕ → ℕ → Option ℕ
byte_of from payload place = if nat_le from place then slice_get payload (place - from) else None
