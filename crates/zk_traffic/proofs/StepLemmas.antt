-- A table with one more segment.
use Rattle.std.proofs.Common.{◌≡◌, ◌≢◌, ℕ, ◌+◌, ◌≤◌, ◌==◌, Bool, true, false, cond, not, ◌&&◌, List, [], ◌∷◌, ◌++◌, length, Option, None, Some, refl, sym, ap, subst, ◌∙◌, arith, ⊎_elim, append_assoc, length-append}
use Rattle.std.specs.Prelude.{All}
use Rattle.std.proofs.lemmas.Bool.{cases_Bool, true≢false}
use Rattle.std.proofs.lemmas.List.{append-nil}
use Rattle.zk_base.specs.declared.network.Side.{Side}
use Rattle.zk_base.specs.Sides.{other}
use Rattle.zk_conn.specs.declared.key.Key.{Key}
use Rattle.zk_conn.specs.Histories as conn
use Rattle.zk_conn.specs.Segment.{key_of, same_key}
use Rattle.zk_conn.specs.Standing as conns
use Rattle.zk_conn.specs.Told.{Told, Packet, Front, Reached}
use Rattle.zk_conn.proofs.KeyLemmas.{same_key_is, same_key-refl}
use Rattle.zk_traffic.specs.declared.news.News.{News}
use Rattle.zk_traffic.specs.declared.streams.Moved.{Moved}
use Rattle.zk_traffic.specs.declared.streams.Moves.{Moves}
use Rattle.zk_traffic.specs.declared.table.Done.{Done}
use Rattle.zk_traffic.specs.declared.table.Table.{Table}
use Rattle.zk_traffic.specs.Conversation.{Conversation, Direction, datagram_units, direction, direction_with, freed_with, front_at, has_ended, moved, moved_with, sender_in, unbegun, with_packet, with_segment}
use Rattle.zk_traffic.specs.Instances.{begins, begun, begun_at, instances, instances_from, joined_by, latest, number_of}
use Rattle.zk_traffic.specs.Items.{fresh_with, segment_fresh}
use Rattle.zk_traffic.specs.Kept.{held_in, held_in_all}
use Rattle.zk_traffic.specs.Moves.{front_moved, segment_gaps}
use Rattle.zk_traffic.specs.News.{runs_of}
use Rattle.zk_traffic.specs.Segments.{Segment}
use Rattle.zk_traffic.specs.StreamTable.{HasStreams, Takes, entry_at}
use Rattle.zk_traffic.specs.Table.{HasEntry, HasLive, Holds, IsDone, IsKnown, TakesSegment, front_told, gone_by, is_over_at, left, moved_told}
use Rattle.zk_traffic.proofs.EndLemmas.{moved_quiet, not_over}
use Rattle.zk_traffic.proofs.HoldsLemmas.{apart_number, has_number, held_live}
use Rattle.zk_traffic.proofs.InstanceLemmas.{any-place}
use Rattle.zk_traffic.proofs.PacketLemmas.{IsMore, IsNew, begun-packet, latest-packet, latest-packet-other, new_or_more, precede-packet}
use Rattle.zk_traffic.proofs.SegmentLemmas.{begun-append, latest-append}
use Rattle.zk_traffic.proofs.StreamTableLemmas.{held_none}
use Rattle.zk_traffic.proofs.SumLemmas.{IsStep, held_begun, held_continued, last_place-push, last_place-within}
use Rattle.zk_traffic.proofs.ToldLemmas.{AreQuiet, begun-quiet, latest-others, latest-quiet, precede-quiet}

-- what connections are told of a stream, as the code tells it
pub moved_told-is : (limit : ℕ) (key : Key) (side : Side) (before after : Option Direction) (m : Moved) → m.front ≡ front_moved (front_at limit before) (front_at limit after)
    → m.ended ≡ (has_ended limit after && not (has_ended limit before)) → moved_told key side m ≡ moved limit key side before after
moved_told-is limit key side before after m front ended =
    ap (λ f. front_told key side f ++ cond m.ended (Reached key side ∷ []) []) front
    ∙ ap (λ b. front_told key side (front_moved (front_at limit before) (front_at limit after)) ++ cond b (Reached key side ∷ []) []) ended
    ∙ ap (λ l. l ++ cond (has_ended limit after && not (has_ended limit before)) (Reached key side ∷ []) []) (by_cases (front_at limit before == front_at limit after))
  where
    by_cases : (b : Bool) → front_told key side (cond b None (Some (front_at limit after))) ≡ cond b [] (Front key side (front_at limit after) ∷ [])
    by_cases true = refl
    by_cases false = refl

-- the segment's conversation is the latest of its key, and it isn't over
pub latest_now : (limit : ℕ) (segments : List Segment) (s : Segment)
    → latest limit (key_of s.view) (segments ++ s ∷ []) ≡ Some (with_segment limit (joined_by (latest limit (key_of s.view) segments) s) s)
latest_now limit segments s = latest-append limit (key_of s.view) segments s true (same_key-refl (key_of s.view))

pub not_gone_now : (limit : ℕ) (segments : List Segment) (s : Segment) → gone_by limit (segments ++ s ∷ []) s.moment (key_of s.view) ≡ false
unfolding gone_by
not_gone_now limit segments s = ap (is_over_at s.moment) (latest_now limit segments s) ∙ not_over limit (joined_by (latest limit (key_of s.view) segments) s) s

turned : (a b : Key) → same_key a b ≡ false → same_key b a ≡ false
turned a b apart = by_test (same_key b a) refl
  where
    by_test : (t : Bool) → same_key b a ≡ t → same_key b a ≡ false
    by_test true same = absurd (true≢false (sym (same_key-refl a) ∙ ap (same_key a) (sym (same_key_is b a same)) ∙ apart))
    by_test false is = is

-- other keys have what they had
step_is : (limit : ℕ) (segments : List Segment) (s : Segment) → IsStep limit segments (segments ++ s ∷ []) (gone_by limit segments s.moment) (gone_by limit (segments ++ s ∷ []) s.moment) (key_of s.view)
    (with_segment limit (joined_by (latest limit (key_of s.view) segments) s) s)
unfolding gone_by
step_is limit segments s = record {
  latest_others = λ k apart. latest-append limit k segments s false (turned k (key_of s.view) apart);
  gone_others = λ k apart. ap (is_over_at s.moment) (latest-append limit k segments s false (turned k (key_of s.view) apart));
  latest_is = latest_now limit segments s;
  not_gone = not_gone_now limit segments s;
}

-- the instances that have begun
begun_new : (limit : ℕ) (segments : List Segment) (s : Segment) → begins (latest limit (key_of s.view) segments) s ≡ true → begun limit (segments ++ s ∷ []) ≡ begun limit segments ++ key_of s.view ∷ []
begun_new limit segments s new = begun-append limit segments s ∙ ap (λ b. begun limit segments ++ cond b (key_of s.view ∷ []) []) new

begun_more : (limit : ℕ) (segments : List Segment) (s : Segment) → begins (latest limit (key_of s.view) segments) s ≡ false → begun limit (segments ++ s ∷ []) ≡ begun limit segments
begun_more limit segments s more = begun-append limit segments s ∙ ap (λ b. begun limit segments ++ cond b (key_of s.view ∷ []) []) more ∙ append-nil (begun limit segments)

number_new : (limit : ℕ) (segments : List Segment) (s : Segment) → begins (latest limit (key_of s.view) segments) s ≡ true → number_of limit (key_of s.view) (segments ++ s ∷ []) ≡ length (begun limit segments) + 1
number_new limit segments s new = ap (conn.last_place (key_of s.view)) (begun_new limit segments s new) ∙ last_place-push (key_of s.view) (begun limit segments) (key_of s.view) true (same_key-refl (key_of s.view))

number_other : (limit : ℕ) (segments : List Segment) (s : Segment) (k : Key) → same_key k (key_of s.view) ≡ false → number_of limit k (segments ++ s ∷ []) ≡ number_of limit k segments
number_other limit segments s k apart = by_cases (begins (latest limit (key_of s.view) segments) s) refl
  where
    by_cases : (b : Bool) → begins (latest limit (key_of s.view) segments) s ≡ b → number_of limit k (segments ++ s ∷ []) ≡ number_of limit k segments
    by_cases true new = ap (conn.last_place k) (begun_new limit segments s new) ∙ last_place-push k (begun limit segments) (key_of s.view) false (turned k (key_of s.view) apart)
    by_cases false more = ap (conn.last_place k) (begun_more limit segments s more)

-- what all streams hold
kept_now : (limit : ℕ) (segments : List Segment) (s : Segment)
    → held_in_all limit (left (gone_by limit (segments ++ s ∷ []) s.moment) (instances limit (segments ++ s ∷ []))) + held_in limit (joined_by (latest limit (key_of s.view) segments) s)
    ≡ held_in_all limit (left (gone_by limit segments s.moment) (instances limit segments)) + held_in limit (with_segment limit (joined_by (latest limit (key_of s.view) segments) s) s)
unfolding instances
kept_now limit segments s = ⊎_elim
    (λ (new : IsNew limit segments s).
    let sum = ap (λ l. held_in_all limit (left (gone_by limit (segments ++ s ∷ []) s.moment) (instances_from limit (segments ++ s ∷ []) 1 l))) (begun_new limit segments s new.begins_is)
    ∙ held_begun limit segments (segments ++ s ∷ []) (gone_by limit segments s.moment) (gone_by limit (segments ++ s ∷ []) s.moment) (key_of s.view) (with_segment limit (joined_by (latest limit (key_of s.view) segments) s) s)
    (step_is limit segments s) new.nothing 1 (begun limit segments) in
    let none : held_in limit (joined_by (latest limit (key_of s.view) segments) s) ≡ 0 = ap (held_in limit) new.joined ∙ held_none limit (unbegun s) refl refl in
    omega (arith, sum, none))
    (λ (more : IsMore limit segments s).
    let sum = ap (λ l. held_in_all limit (left (gone_by limit (segments ++ s ∷ []) s.moment) (instances_from limit (segments ++ s ∷ []) 1 l))) (begun_more limit segments s more.begins_is) in
    let held = held_continued limit segments (segments ++ s ∷ []) (gone_by limit segments s.moment) (gone_by limit (segments ++ s ∷ []) s.moment) (key_of s.view) (with_segment limit (joined_by (latest limit (key_of s.view) segments) s) s)
    (step_is limit segments s) more.d more.latest_is more.not_gone 1 (begun limit segments)
    (any-place (key_of s.view) (begun limit segments) ∙ ap not (has_number limit (key_of s.view) more.d segments more.latest_is)) in
    let same = ap (held_in limit) more.joined in
    omega (arith, sum, held, same))
    (new_or_more limit segments s)

-- the streams that a segment finds
pub streams_found : (table : Table) (limit : ℕ) (segments : List Segment) (told : List Told) (s : Segment) → Holds table limit segments (gone_by limit segments s.moment) told
    → HasStreams limit (entry_at table.streams (number_of limit (key_of s.view) (segments ++ s ∷ []))) (joined_by (latest limit (key_of s.view) segments) s)
streams_found table limit segments told s holds = ⊎_elim
    (λ (new : IsNew limit segments s).
    subst (λ c. HasStreams limit (entry_at table.streams (number_of limit (key_of s.view) (segments ++ s ∷ []))) c) (sym new.joined)
    (subst (λ e. HasStreams limit e (unbegun s)) (sym (holds.unused (number_of limit (key_of s.view) (segments ++ s ∷ [])) (omega (arith, number_new limit segments s new.begins_is)))) (refl, refl, refl)))
    (λ (more : IsMore limit segments s).
    subst (λ c. HasStreams limit (entry_at table.streams (number_of limit (key_of s.view) (segments ++ s ∷ []))) c) (sym more.joined)
    (subst (λ n. HasStreams limit (entry_at table.streams n) more.d) (sym (ap (conn.last_place (key_of s.view)) (begun_more limit segments s more.begins_is)))
    (subst (λ o. HasEntry limit (entry_at table.streams (number_of limit (key_of s.view) segments)) false o) more.latest_is
    (subst (λ b. HasEntry limit (entry_at table.streams (number_of limit (key_of s.view) segments)) b (latest limit (key_of s.view) segments)) more.not_gone (holds.entries (key_of s.view))))))
    (new_or_more limit segments s)

-- what they hold is a part of all
pub held_found : (table : Table) (limit : ℕ) (segments : List Segment) (told : List Told) (s : Segment) → Holds table limit segments (gone_by limit segments s.moment) told
    → held_in limit (joined_by (latest limit (key_of s.view) segments) s) ≤ table.streams.kept
held_found table limit segments told s holds = ⊎_elim
    (λ (new : IsNew limit segments s). let none : held_in limit (joined_by (latest limit (key_of s.view) segments) s) ≡ 0 = ap (held_in limit) new.joined ∙ held_none limit (unbegun s) refl refl in omega (arith, none))
    (λ (more : IsMore limit segments s).
    let live : HasLive limit segments (gone_by limit segments s.moment) (key_of s.view) (number_of limit (key_of s.view) segments) more.d = record { latest_is = more.latest_is; not_gone = more.not_gone; number_is = refl } in
    omega (arith, held_live table limit segments (gone_by limit segments s.moment) told (key_of s.view) (number_of limit (key_of s.view) segments) more.d holds live, ap (held_in limit) more.joined))
    (new_or_more limit segments s)

events-with : (limit : ℕ) (c : Conversation) (s : Segment)
    → with_packet c s ++ (moved_with limit c s (sender_in c s) ++ moved_with limit c s (other (sender_in c s))) ≡ (with_segment limit c s).events
unfolding with_segment
events-with limit c s = refl

-- the table has the segment
pub holds_taken : (old new : Table) (limit : ℕ) (segments : List Segment) (told : List Told) (s : Segment) (number : ℕ) → Holds old limit segments (gone_by limit segments s.moment) told
    → number ≡ number_of limit (key_of s.view) (segments ++ s ∷ [])
    → conns.StandsFor new.conns (told ++ Packet s.moment s.view ∷ [] ++ moved_with limit (joined_by (latest limit (key_of s.view) segments) s) s (sender_in (joined_by (latest limit (key_of s.view) segments) s) s)
    ++ moved_with limit (joined_by (latest limit (key_of s.view) segments) s) s (other (sender_in (joined_by (latest limit (key_of s.view) segments) s) s)))
    → new.streams.limit ≡ old.streams.limit → ((n : ℕ) → n ≢ number → entry_at new.streams n ≡ entry_at old.streams n)
    → HasStreams limit (entry_at new.streams number) (with_segment limit (joined_by (latest limit (key_of s.view) segments) s) s)
    → new.streams.kept + held_in limit (joined_by (latest limit (key_of s.view) segments) s) ≡ old.streams.kept + held_in limit (with_segment limit (joined_by (latest limit (key_of s.view) segments) s) s)
    → Holds new limit (segments ++ s ∷ []) (gone_by limit (segments ++ s ∷ []) s.moment)
    (told ++ Packet s.moment s.view ∷ [] ++ moved_with limit (joined_by (latest limit (key_of s.view) segments) s) s (sender_in (joined_by (latest limit (key_of s.view) segments) s) s)
    ++ moved_with limit (joined_by (latest limit (key_of s.view) segments) s) s (other (sender_in (joined_by (latest limit (key_of s.view) segments) s) s)))
holds_taken old new limit segments told s number holds number_is stands limit_is others entry kept = record {
  limit_is = limit_is ∙ holds.limit_is;
  stands = stands;
  begun_is = begun-quiet key (told ++ Packet s.moment s.view ∷ [] ++ first) second quiet_second ∙ begun-quiet key (told ++ Packet s.moment s.view ∷ []) first quiet_first ∙ begun-packet old limit segments told s holds;
  known = λ k. ⊎_elim (λ same. subst (λ x. IsKnown told_now x (gone' x) (latest limit x after)) (same_key_is key k same) known_here) (known_other k) (cases_Bool (same_key key k));
  entries = λ k. ⊎_elim (λ same. subst (λ x. HasEntry limit (entry_at new.streams (number_of limit x after)) (gone' x) (latest limit x after)) (same_key_is key k same) entry_here) (entry_other k) (cases_Bool (same_key key k));
  unused = λ n past.
      let more : length (begun limit segments) ≤ length (begun limit after) = omega (arith, ap length (begun-append limit segments s), length-append (begun limit segments) (begun_at limit (record { before = segments; last = s }))) in
      others n (λ same. omega (arith, past, same, number_is, last_place-within key (begun limit after))) ∙ holds.unused n (omega (arith, past, more));
  kept_is = omega (arith, kept, kept_now limit segments s, holds.kept_is);
}
  where
    key : Key
    key = key_of s.view

    c : Conversation
    c = joined_by (latest limit (key_of s.view) segments) s

    after : List Segment
    after = segments ++ s ∷ []

    gone : Key → Bool
    gone = gone_by limit segments s.moment

    gone' : Key → Bool
    gone' = gone_by limit (segments ++ s ∷ []) s.moment

    first : List Told
    first = moved_with limit c s (sender_in c s)

    second : List Told
    second = moved_with limit c s (other (sender_in c s))

    told_now : List Told
    told_now = told ++ Packet s.moment s.view ∷ [] ++ first ++ second

    quiet_first : AreQuiet key first
    quiet_first = moved_quiet limit key (sender_in c s) (direction c (sender_in c s)) (direction_with c s (sender_in c s))

    quiet_second : AreQuiet key second
    quiet_second = moved_quiet limit key (other (sender_in c s)) (direction c (other (sender_in c s))) (direction_with c s (other (sender_in c s)))

    step : IsStep limit segments after gone gone' key (with_segment limit c s)
    step = step_is limit segments s

    known_here : IsKnown told_now key (gone' key) (latest limit key after)
    known_here =
        subst (λ b. IsKnown told_now key b (latest limit key after)) (sym step.not_gone)
        (subst (λ o. IsKnown told_now key false o) (sym step.latest_is)
        (latest-quiet key (told ++ Packet s.moment s.view ∷ [] ++ first) second quiet_second
        ∙ ap (λ l. l ++ second) (latest-quiet key (told ++ Packet s.moment s.view ∷ []) first quiet_first ∙ ap (λ l. l ++ first) (latest-packet old limit segments told s holds))
        ∙ append_assoc (with_packet c s) first second ∙ events-with limit c s))

    latest_other : (k : Key) → same_key key k ≡ false → conn.latest k told_now ≡ conn.latest k told
    latest_other k apart =
        latest-others key k (told ++ Packet s.moment s.view ∷ [] ++ first) second quiet_second apart
        ∙ latest-others key k (told ++ Packet s.moment s.view ∷ []) first quiet_first apart
        ∙ latest-packet-other k told s apart

    known_other : (k : Key) → same_key key k ≡ false → IsKnown told_now k (gone' k) (latest limit k after)
    known_other k apart =
        subst (λ b. IsKnown told_now k b (latest limit k after)) (sym (step.gone_others k (turned key k apart)))
        (subst (λ o. IsKnown told_now k (gone k) o) (sym (step.latest_others k (turned key k apart)))
        (same (latest limit k segments) (gone k) (holds.known k)))
      where
        same : (o : Option Conversation) (b : Bool) → IsKnown told k b o → IsKnown told_now k b o
        same None b is = latest_other k apart ∙ is
        same (Some d) false is = latest_other k apart ∙ is
        same (Some d) true is = (is.0, is.1, latest_other k apart ∙ is.2)

    entry_here : HasEntry limit (entry_at new.streams (number_of limit key after)) (gone' key) (latest limit key after)
    entry_here =
        subst (λ b. HasEntry limit (entry_at new.streams (number_of limit key after)) b (latest limit key after)) (sym step.not_gone)
        (subst (λ o. HasEntry limit (entry_at new.streams (number_of limit key after)) false o) (sym step.latest_is)
        (subst (λ n. HasStreams limit (entry_at new.streams n) (with_segment limit c s)) number_is entry))

    entry_other : (k : Key) → same_key key k ≡ false → HasEntry limit (entry_at new.streams (number_of limit k after)) (gone' k) (latest limit k after)
    entry_other k apart =
        subst (λ b. HasEntry limit (entry_at new.streams (number_of limit k after)) b (latest limit k after)) (sym (step.gone_others k (turned key k apart)))
        (subst (λ o. HasEntry limit (entry_at new.streams (number_of limit k after)) (gone k) o) (sym (step.latest_others k (turned key k apart)))
        (subst (λ n. HasEntry limit (entry_at new.streams n) (gone k) (latest limit k segments)) (sym (number_other limit segments s k (turned key k apart)))
        (⊎_elim
        (λ (new_one : IsNew limit segments s).
        subst (λ e. HasEntry limit e (gone k) (latest limit k segments))
        (sym (others (number_of limit k segments) (λ same. omega (arith, same, number_is, number_new limit segments s new_one.begins_is, last_place-within k (begun limit segments)))))
        (holds.entries k))
        (λ (more : IsMore limit segments s).
        let live : HasLive limit segments gone key number more.d = record { latest_is = more.latest_is; not_gone = more.not_gone; number_is = sym (ap (conn.last_place key) (begun_more limit segments s more.begins_is)) ∙ sym number_is } in
        apart_number old limit segments gone told key k number more.d (latest limit k segments) (gone k) refl refl holds live (turned key k apart) (entry_at new.streams) others (holds.entries k))
        (new_or_more limit segments s))))

-- the new table, and what the segment did
pub segment_taken : (old new : Table) (limit : ℕ) (segments : List Segment) (told : List Told) (s : Segment) (done : Done) (moves : Moves) (first_news old_news new_news : News)
    → Holds old limit segments (gone_by limit segments s.moment) told → All (conn.Precedes s.moment) told → IsDone limit segments s done
    → conns.StandsFor new.conns (told ++ Packet s.moment s.view ∷ []
    ++ moved_told (key_of s.view) (sender_in (joined_by (latest limit (key_of s.view) segments) s) s) moves.sender
    ++ moved_told (key_of s.view) (other (sender_in (joined_by (latest limit (key_of s.view) segments) s) s)) moves.receiver)
    → new.streams.limit ≡ old.streams.limit → ((n : ℕ) → n ≢ done.conn.0 → entry_at new.streams n ≡ entry_at old.streams n)
    → Takes limit done.conn (joined_by (latest limit (key_of s.view) segments) s) s moves old.streams new.streams old_news new_news
    → runs_of old_news ≡ runs_of first_news → old_news.gaps.items ≡ first_news.gaps.items
    → old_news.«units».items ≡ first_news.«units».items ++ datagram_units (joined_by (latest limit (key_of s.view) segments) s) s
    → TakesSegment limit segments s done new first_news new_news
unfolding segment_fresh
segment_taken old new limit segments told s done moves first_news old_news new_news holds order is_done stands limit_is others takes same_runs same_gaps datagram = record {
  current = record {
    told = told ++ Packet s.moment s.view ∷ [] ++ first ++ second;
    holds = holds_taken old new limit segments told s done.conn.0 holds is_done.conn_is stands_now limit_is others takes.entry takes.kept_is;
    in_order = precede-quiet key s.moment (told ++ Packet s.moment s.view ∷ [] ++ first) second (moved_quiet limit key (other (sender_in c s)) (direction c (other (sender_in c s))) (direction_with c s (other (sender_in c s))))
        (precede-quiet key s.moment (told ++ Packet s.moment s.view ∷ []) first (moved_quiet limit key (sender_in c s) (direction c (sender_in c s)) (direction_with c s (sender_in c s))) (precede-packet told s order));
  };
  done_is = is_done;
  live = record { latest_is = latest_now limit segments s; not_gone = not_gone_now limit segments s; number_is = sym is_done.conn_is };
  runs_are = takes.moves_are.runs_are ∙ ap (λ n. runs_of old_news ++ fresh_with limit n c s) is_done.conn_is ∙ ap (λ l. l ++ segment_fresh limit segments s) same_runs;
  gaps_are = takes.moves_are.gaps_are ∙ ap (λ l. l ++ segment_gaps limit c s) same_gaps;
  units_are = takes.moves_are.units_are ∙ ap (λ l. l ++ freed_with limit c s) datagram ∙ append_assoc first_news.«units».items (datagram_units c s) (freed_with limit c s);
}
  where
    key : Key
    key = key_of s.view

    c : Conversation
    c = joined_by (latest limit (key_of s.view) segments) s

    first : List Told
    first = moved_with limit c s (sender_in c s)

    second : List Told
    second = moved_with limit c s (other (sender_in c s))

    stands_now : conns.StandsFor new.conns (told ++ Packet s.moment s.view ∷ [] ++ first ++ second)
    stands_now =
        subst (λ l. conns.StandsFor new.conns (told ++ Packet s.moment s.view ∷ [] ++ first ++ l))
        (moved_told-is limit key (other (sender_in c s)) (direction c (other (sender_in c s))) (direction_with c s (other (sender_in c s))) moves.receiver takes.moves_are.receiver.front_is takes.moves_are.receiver.ended_is)
        (subst (λ l. conns.StandsFor new.conns (told ++ Packet s.moment s.view ∷ [] ++ l ++ moved_told key (other (sender_in c s)) moves.receiver))
        (moved_told-is limit key (sender_in c s) (direction c (sender_in c s)) (direction_with c s (sender_in c s)) moves.sender takes.moves_are.sender.front_is takes.moves_are.sender.ended_is)
        stands)
