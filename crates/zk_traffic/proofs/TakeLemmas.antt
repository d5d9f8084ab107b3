-- Both streams of a conversation with one more segment.
use Rattle.std.proofs.Common.{◌≡◌, ℕ, Bool, true, false, cond, not, ◌&&◌, ◌++◌, map, Option, None, Some, refl, sym, ap, subst, ◌∙◌, append_assoc}
use Rattle.zk_base.specs.declared.network.Side.{Side}
use Rattle.zk_base.specs.declared.network.Side.TheVariants.{Orig, Resp}
use Rattle.zk_base.specs.declared.numbers.ConnNo.{ConnNo}
use Rattle.zk_base.specs.Sides.{other}
use Rattle.zk_conn.specs.Instance.{same_side}
use Rattle.zk_conn.specs.Segment.{has_rst, has_syn}
use Rattle.zk_reasm.specs.declared.stream.Stream.{Stream}
use Rattle.zk_traffic.specs.declared.news.News.{News}
use Rattle.zk_traffic.specs.declared.streams.Moved.{Moved}
use Rattle.zk_traffic.specs.declared.streams.Moves.{Moves}
use Rattle.zk_traffic.specs.declared.streams.Streams.{Streams}
use Rattle.zk_traffic.specs.Conversation.{Conversation, Direction, acknowledged_told, begun_by, direction, direction_with, fin_told, front_at, has_ended, put_with, resets, sender_in, sent_told, stop_told, stream_of, told_more, was_reset_with}
use Rattle.zk_traffic.specs.Items.{fresh_run, gaps, news_of, runs}
use Rattle.zk_traffic.specs.Moves.{Adds, Begins, HasMoved, HasTaken, front_moved, gap_in}
use Rattle.zk_traffic.specs.News.{runs_of}
use Rattle.zk_traffic.specs.Places.{gaps_from, runs_from}
use Rattle.zk_traffic.specs.Segments.{Segment}
use Rattle.zk_traffic.specs.Streams.{AreStreams, IsStream}
use Rattle.zk_traffic.proofs.ReadLemmas.{both_read}
use Rattle.zk_traffic.specs.declared.reading.Reading.{Reading}

same_as_itself : (side : Side) → same_side side side ≡ true
same_as_itself Orig = refl
same_as_itself Resp = refl

other_than_itself : (side : Side) → same_side (other side) side ≡ false
other_than_itself Orig = refl
other_than_itself Resp = refl

-- the sender's stream with the segment
pub sent-is : (c : Conversation) (s : Segment)
    → direction_with c s (sender_in c s) ≡ told_more (sent_told s) (begun_by (resets c s) (was_reset_with c s) s (direction c (sender_in c s)))
sent-is c s = ap (λ b. cond b (told_more (sent_told s) (begun_by (resets c s) (was_reset_with c s) s (direction c (sender_in c s))))
    (told_more (acknowledged_told s) (told_more (stop_told (resets c s)) (direction c (sender_in c s))))) (same_as_itself (sender_in c s))

-- the receiver's stream with it
pub received-is : (c : Conversation) (s : Segment)
    → direction_with c s (other (sender_in c s)) ≡ told_more (acknowledged_told s) (told_more (stop_told (resets c s)) (direction c (other (sender_in c s))))
received-is c s = ap (λ b. cond b (told_more (sent_told s) (begun_by (resets c s) (was_reset_with c s) s (direction c (sender_in c s))))
    (told_more (acknowledged_told s) (told_more (stop_told (resets c s)) (direction c (other (sender_in c s)))))) (other_than_itself (sender_in c s))

-- whether the connection was reset counts where the segment begins the stream
begun_by-syn : (resets was was' : Bool) (s : Segment) (d : Option Direction) → (has_syn s.view ≡ true → was ≡ was') → begun_by resets was s d ≡ begun_by resets was' s d
begun_by-syn resets was was' s None same = by_syn (has_syn s.view) refl
  where
    by_syn : (b : Bool) → has_syn s.view ≡ b → begun_by resets was s None ≡ begun_by resets was' s None
    by_syn true syn = ap (λ (w : Bool). begun_by resets w s None) (same syn)
    by_syn false none = ap (λ b. cond b (Some (record { base = s.view.seq; told = stop_told was })) None) none
        ∙ sym (ap (λ b. cond b (Some (record { base = s.view.seq; told = stop_told was' })) None) none)
begun_by-syn resets was was' s (Some d) same = refl

-- a stream that has moved from what it was before it began, and to the same
moved_begun : (limit : ℕ) (conn : ConnNo) (side : Side) (before now after to : Option Direction) (moved : Moved) (stream : Option Stream) (old new : News) (was is : Reading)
    → stream_of limit now ≡ stream_of limit before → front_at limit now ≡ front_at limit before → has_ended limit now ≡ has_ended limit before → to ≡ after → HasMoved limit conn side now to moved stream old new was is
    → HasMoved limit conn side before after moved stream old new was is
moved_begun limit conn side before now after to moved stream old new was is stream_is front ended same moves = subst (λ a. HasMoved limit conn side before a moved stream old new was is) same (record {
  stands = moves.stands;
  front_is = moves.front_is ∙ ap (λ f. front_moved f (front_at limit to)) front;
  ended_is = moves.ended_is ∙ ap (λ b. has_ended limit to && not b) ended;
  adds = subst (λ f. Adds conn side (runs_from f (news_of limit f to)) (gaps_from f (news_of limit f to)) old new) front moves.adds;
  reads = λ protocol streams units there stands. moves.reads protocol streams units (there ∙ sym stream_is) stands;
})

-- both streams have moved
has_taken : (limit : ℕ) (conn : ConnNo) (c : Conversation) (s : Segment) (moves : Moves) (streams : Streams) (sender receiver : Option Stream) (old between new : News) (was mid : Reading)
    → HasMoved limit conn (sender_in c s) (direction c (sender_in c s)) (direction_with c s (sender_in c s)) moves.sender sender old between was mid
    → HasMoved limit conn (other (sender_in c s)) (direction c (other (sender_in c s))) (direction_with c s (other (sender_in c s))) moves.receiver receiver between new mid streams.readers
    → moves.gave_up ≡ (not (has_rst s.view) && put_with limit s (told_more (fin_told s) (begun_by (resets c s) (was_reset_with c s) s (direction c (sender_in c s)))))
    → (IsStream limit sender (direction_with c s (sender_in c s)) → IsStream limit receiver (direction_with c s (other (sender_in c s))) → AreStreams limit streams (direction_with c s Orig) (direction_with c s Resp))
    → HasTaken limit conn c s moves was streams old new
has_taken limit conn c s moves streams sender receiver old between new was mid first second gave_up place = record {
  stands = place first.stands second.stands;
  sender = record { front_is = first.front_is; ended_is = first.ended_is };
  receiver = record { front_is = second.front_is; ended_is = second.ended_is };
  gave_up = gave_up;
  runs_are = second.adds.runs_are ∙ ap (λ l. l ++ map (fresh_run conn.0 (other (sender_in c s))) (runs limit c s (other (sender_in c s)))) first.adds.runs_are
      ∙ append_assoc (runs_of old) (map (fresh_run conn.0 (sender_in c s)) (runs limit c s (sender_in c s))) (map (fresh_run conn.0 (other (sender_in c s))) (runs limit c s (other (sender_in c s))));
  gaps_are = second.adds.gaps_are ∙ ap (λ l. l ++ map (gap_in (other (sender_in c s))) (gaps limit c s (other (sender_in c s)))) first.adds.gaps_are
      ∙ append_assoc old.gaps.items (map (gap_in (sender_in c s)) (gaps limit c s (sender_in c s))) (map (gap_in (other (sender_in c s))) (gaps limit c s (other (sender_in c s))));
  units_are = second.adds.units_are ∙ first.adds.units_are;
  reads = both_read limit c s (sender_in c s) was mid streams.readers first.reads second.reads;
}

-- both streams by what each was told
pub taken_by : (limit : ℕ) (conn : ConnNo) (c : Conversation) (s : Segment) (side : Side) (stops was stop : Bool) (begun sender receiver : Option Stream) (moves : Moves) (streams : Streams) (old between new : News) (was_r mid : Reading)
    → side ≡ sender_in c s → stops ≡ resets c s → (has_syn s.view ≡ true → was ≡ was_reset_with c s) → (begins : Begins limit stops was s (direction c side) stop begun)
    → HasMoved limit conn side begins.now (told_more (sent_told s) (told_more (stop_told stop) begins.now)) moves.sender sender old between was_r mid
    → HasMoved limit conn (other side) (direction c (other side)) (told_more (acknowledged_told s) (told_more (stop_told stops) (direction c (other side)))) moves.receiver receiver between new mid streams.readers
    → moves.gave_up ≡ (not (has_rst s.view) && put_with limit s (told_more (fin_told s) (told_more (stop_told stop) begins.now)))
    → (IsStream limit sender (direction_with c s side) → IsStream limit receiver (direction_with c s (other side)) → AreStreams limit streams (direction_with c s Orig) (direction_with c s Resp))
    → HasTaken limit conn c s moves was_r streams old new
taken_by limit conn c s side stops was stop begun sender receiver moves streams old between new was_r mid side_is stops_is was_is begins first second gave_up place =
    let told : told_more (stop_told stop) begins.now ≡ begun_by (resets c s) (was_reset_with c s) s (direction c (sender_in c s)) =
    begins.told ∙ ap (λ x. begun_by stops was s (direction c x)) side_is ∙ ap (λ b. begun_by b was s (direction c (sender_in c s))) stops_is
    ∙ begun_by-syn (resets c s) was (was_reset_with c s) s (direction c (sender_in c s)) was_is in
    has_taken limit conn c s moves streams sender receiver old between new was_r mid
    (subst (λ x. HasMoved limit conn x (direction c x) (direction_with c s (sender_in c s)) moves.sender sender old between was_r mid) side_is
    (moved_begun limit conn side (direction c side) begins.now (direction_with c s (sender_in c s)) (told_more (sent_told s) (told_more (stop_told stop) begins.now)) moves.sender sender old between was_r mid
    begins.stream_is begins.front_is begins.ended_is (ap (told_more (sent_told s)) told ∙ sym (sent-is c s)) first))
    (subst (λ d. HasMoved limit conn (other (sender_in c s)) (direction c (other (sender_in c s))) d moves.receiver receiver between new mid streams.readers) (sym (received-is c s))
    (subst (λ b. HasMoved limit conn (other (sender_in c s)) (direction c (other (sender_in c s))) (told_more (acknowledged_told s) (told_more (stop_told b) (direction c (other (sender_in c s))))) moves.receiver receiver between new mid streams.readers) stops_is
    (subst (λ x. HasMoved limit conn (other x) (direction c (other x)) (told_more (acknowledged_told s) (told_more (stop_told stops) (direction c (other x)))) moves.receiver receiver between new mid streams.readers) side_is second)))
    (gave_up ∙ ap (λ d. not (has_rst s.view) && put_with limit s (told_more (fin_told s) d)) told)
    (subst (λ x. IsStream limit sender (direction_with c s x) → IsStream limit receiver (direction_with c s (other x)) → AreStreams limit streams (direction_with c s Orig) (direction_with c s Resp)) side_is place)
