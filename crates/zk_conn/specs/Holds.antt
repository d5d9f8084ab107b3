-- What an instance of the table holds of what was told of a connection.
use Rattle.std.specs.Prelude.{pos, ◌+ℤ◌, ◌≡◌, Bool, not, ◌&&◌, ◌||◌, List, fold, Some, if◌then◌else◌}
use Rattle.std.specs.Int.{saturate_signed, w64}
use Rattle.zk_base.specs.declared.network.Side.{Side}
use Rattle.zk_base.specs.declared.network.Side.TheVariants.{Orig, Resp}
use Rattle.zk_base.specs.declared.time.Moment.{Moment}
use Rattle.zk_conn.specs.declared.conns.Touched.{Touched}
use Rattle.zk_conn.specs.declared.facts.Facts.{Facts}
use Rattle.zk_conn.specs.declared.half.Half.{Half}
use Rattle.zk_conn.specs.declared.half.StreamEnd.{StreamEnd}
use Rattle.zk_conn.specs.declared.half.StreamEnd.TheVariants.{Fin}
use Rattle.zk_conn.specs.declared.instance.Instance.{Instance}
use Rattle.zk_conn.specs.declared.key.Endpoint.{Endpoint}
use Rattle.zk_conn.specs.declared.view.L4View.{L4View}
use Rattle.zk_conn.specs.Half.{half_of, sent, end_after, seen, end_facts_of}
use Rattle.zk_conn.specs.History.{added}
use Rattle.zk_conn.specs.Instance.{Opening, opening, originator, responder, side_of, same_side, last_moment, moment_after, letters_from, history_of, wait}
use Rattle.zk_conn.specs.Segment.{key_of, low_end, high_end, is_tcp}
use Rattle.zk_conn.specs.State.{are_established, is_fin, is_rst, state_of}
use Rattle.zk_conn.specs.Told.{Told, Packet, Front, Reached, Removal, Ending}

-- the end that began it
abbrev pub originator_in : Instance → Endpoint
originator_in instance = if instance.originator_is_low then low_end instance.key else high_end instance.key

-- the other end
abbrev pub responder_in : Instance → Endpoint
responder_in instance = if instance.originator_is_low then high_end instance.key else low_end instance.key

-- the instance has what is known of a connection that began so, by these events
pub record Has (first : Opening) (instance : Instance) (events : List Told) : Type 0 where
  pub key_is : instance.key ≡ key_of first.packet
  pub originator_is : originator_in instance ≡ originator first.packet
  pub responder_is : responder_in instance ≡ responder first.packet
  pub start_is : instance.start ≡ first.moment
  pub last_is : instance.last ≡ last_moment first events
  pub orig_is : instance.orig ≡ half_of (originator first.packet) Orig events
  pub resp_is : instance.resp ≡ half_of (originator first.packet) Resp events
  pub history_is : instance.history ≡ history_of (originator first.packet) events

-- the instance is the connection of which this was told
pub record Holds (instance : Instance) (events : List Told) : Type 0 where
  pub first : Opening
  pub begun : opening events ≡ Some first
  pub has : Has first instance events

-- a side behind one more event
abbrev pub half_after : Endpoint → Side → Half → Told → Half
half_after originator side half (Packet moment p) = if same_side (side_of originator p) side then sent half p else half
half_after originator side half (Front key of front) = if same_side of side then record half { front = front } else half
half_after originator side half (Reached key of) =
    if same_side of side then record half { end = end_after half.end (Some Fin) } else half
half_after originator side half (Removal key at) = half
half_after originator side half (Ending key last) = half

-- an instance behind one more event
pub record Follows (old new : Instance) (event : Told) : Type 0 where
  pub key_is : new.key ≡ old.key
  pub number_is : new.number ≡ old.number
  pub originator_is : originator_in new ≡ originator_in old
  pub responder_is : responder_in new ≡ responder_in old
  pub start_is : new.start ≡ old.start
  pub last_is : new.last ≡ moment_after old.last event
  pub orig_is : new.orig ≡ half_after (originator_in old) Orig old.orig event
  pub resp_is : new.resp ≡ half_after (originator_in old) Resp old.resp event
  pub history_is : new.history ≡ fold added old.history (letters_from (originator_in old) event)

-- when the instance is removed if no packet comes before, as the code computes it
unfoldable pub removal_of : Instance → Moment
removal_of instance = record {
  0 = saturate_signed w64 (instance.last.0 +ℤ pos (wait (is_tcp instance.key.proto) instance.orig.end instance.resp.end));
}

-- what is told of the instance
abbrev pub facts_in : Instance → Facts
facts_in instance = record {
  orig_h = (originator_in instance).addr;
  orig_p = (originator_in instance).port;
  resp_h = (responder_in instance).addr;
  resp_p = (responder_in instance).port;
  proto = instance.key.proto;
  start = instance.start;
  last = instance.last;
  orig = end_facts_of (is_tcp instance.key.proto) instance.orig;
  resp = end_facts_of (is_tcp instance.key.proto) instance.resp;
  state = state_of (is_tcp instance.key.proto) (seen instance.orig) (seen instance.resp);
  history = instance.history;
}

-- a side's end
abbrev pub end_in : Instance → Side → StreamEnd
end_in instance Orig = instance.orig.end
end_in instance Resp = instance.resp.end

-- what a packet did between two instances
abbrev pub touched_between : Instance → Instance → Bool → L4View → Touched
touched_between old new opened p = record {
  conn = record { 0 = new.number };
  side = side_of (originator_in old) p;
  opened = opened;
  established = are_established (seen new.orig) (seen new.resp) && not (are_established (seen old.orig) (seen old.resp));
  reset = (is_rst new.orig.end || is_rst new.resp.end) && not (is_rst old.orig.end || is_rst old.resp.end);
  ended = is_fin (end_in new (side_of (originator_in old) p)) && not (is_fin (end_in old (side_of (originator_in old) p)));
}
