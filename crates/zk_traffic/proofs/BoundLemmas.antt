-- How much the streams of live connections hold.
use Rattle.std.proofs.Common.{◌≡◌, ℕ, ◌+◌, ◌*◌, ◌≤◌, Bool, true, false, List, [], ◌∷◌, sum_by, Option, None, Some, refl, sym, ap, subst, ◌∙◌, arith}
use Rattle.std.proofs.lemmas.Grind.{common_steps}
use Rattle.std.proofs.lemmas.List.Sums.{sum_by-cons}
use Rattle.zk_base.specs.declared.network.Side.{Side}
use Rattle.zk_base.specs.declared.network.Side.TheVariants.{Orig, Resp}
use Rattle.zk_reasm.specs.declared.stream.Stream.{Stream}
use Rattle.zk_reasm.specs.Histories.{front_of}
use Rattle.zk_reasm.proofs.ContentLemmas.{kept_bound, kept_is as kept_exact}
use Rattle.zk_base.specs.NetworkTime.{now}
use Rattle.zk_traffic.specs.declared.streams.Streams.{Streams}
use Rattle.zk_traffic.specs.declared.traffic.Traffic.{Traffic}
use Rattle.zk_traffic.specs.Conversation.{Conversation, Direction, protocol_of, stream_of, streams_of}
use Rattle.zk_traffic.specs.History.{History}
use Rattle.zk_traffic.specs.Instances.{Instance, instances}
use Rattle.zk_traffic.specs.Kept.{bytes_held, held_by, held_in, held_in_all, live_streams, one_if, streams_in, unread_in}
use Rattle.zk_traffic.specs.Segments.{segments}
use Rattle.zk_traffic.specs.Standing.{IsTable, StandsFor}
use Rattle.zk_traffic.specs.StreamTable.{HasStreams}
use Rattle.zk_traffic.specs.Streams.{IsStream}
use Rattle.zk_traffic.specs.Table.{gone_by, left}
use Rattle.zk_traffic.proofs.DueLemmas.{all_are, live_left}
use Rattle.zk_traffic.proofs.HoldsLemmas.{entry_live}
use Rattle.zk_traffic.proofs.InstanceLemmas.{IsInstance}
use Rattle.zk_traffic.proofs.LeftLemmas.{Each, left_each}
use Rattle.zk_traffic.proofs.StreamTableLemmas.{held_none}
use Rattle.zk_units.proofs.ReaderLemmas.{none_unread}

-- a side whose reader leaves so many bytes
one_held : (limit unread : ℕ) (s : Option Stream) (d : Option Direction) → IsStream limit s d → unread ≤ 65536 → (d ≡ None → unread ≡ 0)
    → held_by limit d + unread ≤ (limit + 65537) * one_if d
one_held limit unread None None is few none = omega (arith, none refl)
one_held limit unread None (Some d) is few none = absurd is
one_held limit unread (Some s) None is few none = omega (arith, none refl)
one_held limit unread (Some s) (Some d) is few none =
    let exact = kept_exact s d.base limit d.told (front_of d.base limit d.told) is in
    let bound = kept_bound s d.base limit d.told (front_of d.base limit d.told) is in
    omega (arith, exact, bound)

held_within : (limit : ℕ) (o : Option Streams) (c : Conversation) → HasStreams limit o c → held_in limit c ≤ (limit + 65537) * streams_in c
held_within limit None c none =
    let nothing = held_none limit c none.0 none.1 in
    let fits : 0 ≤ (limit + 65537) * streams_in c = omega arith in
    omega (arith, nothing, fits)
held_within limit (Some streams) c are =
    let first = one_held limit (unread_in limit c Orig) streams.orig c.orig are.0.orig_is (few Orig)
    (λ none. none_unread (protocol_of c) Orig (streams_of limit c.orig c.resp) c.«units» (ap (λ d. (stream_of limit d).places) none)) in
    let second = one_held limit (unread_in limit c Resp) streams.resp c.resp are.0.resp_is (few Resp)
    (λ none. none_unread (protocol_of c) Resp (streams_of limit c.orig c.resp) c.«units» (ap (λ d. (stream_of limit d).places) none)) in
    omega (arith, first, second)
  where
    few : (side : Side) → unread_in limit c side ≤ 65536
    few side = omega (arith, are.1.few side, are.1.left side)

sum_within : (limit : ℕ) (l : List Instance) → Each (λ i. held_in limit i.conversation ≤ (limit + 65537) * streams_in i.conversation) l
    → held_in_all limit l ≤ (limit + 65537) * sum_by (λ i. streams_in i.conversation) l
sum_within limit [] each = omega arith
sum_within limit (i ∷ rest) each =
    sums limit (held_in_all limit (i ∷ rest)) (held_in limit i.conversation) (held_in_all limit rest) (sum_by (λ (j : Instance). streams_in j.conversation) (i ∷ rest))
    (streams_in i.conversation) (sum_by (λ (j : Instance). streams_in j.conversation) rest)
    (sum_by-cons (λ (j : Instance). held_in limit j.conversation) i rest) (sum_by-cons (λ (j : Instance). streams_in j.conversation) i rest) each.0 (sum_within limit rest each.1)
  where
    sums : (limit all one more all_n n more_n : ℕ) → all ≡ one + more → all_n ≡ n + more_n → one ≤ (limit + 65537) * n → more ≤ (limit + 65537) * more_n → all ≤ (limit + 65537) * all_n
    sums limit all one more all_n n more_n all_is n_is first second = grind (arith, common_steps, all_is, n_is, first, second)

pub kept_is : (traffic : Traffic) (h : History) → StandsFor traffic h → traffic.connections.table.streams.kept ≡ bytes_held h.options h.records h.ended
unfolding bytes_held
kept_is traffic h stands = by_end h.ended stands.table_is
  where
    by_end : (ended : Bool) → IsTable traffic.connections.table h.options.buffer (segments h.options h.records) (now h.records) ended
        → traffic.connections.table.streams.kept ≡ bytes_held h.options h.records ended
    by_end true table = table
    by_end false table =
        let segs = segments h.options h.records in
        table.holds.kept_is ∙ ap (held_in_all h.options.buffer) (sym (live_left h.options.buffer segs (now h.records) (instances h.options.buffer segs) (all_are h.options.buffer segs)))

pub kept_within : (traffic : Traffic) (h : History) → StandsFor traffic h
    → traffic.connections.table.streams.kept ≤ (h.options.buffer + 65537) * live_streams h.options h.records h.ended
unfolding live_streams
kept_within traffic h stands = by_end h.ended stands.table_is
  where
    by_end : (ended : Bool) → IsTable traffic.connections.table h.options.buffer (segments h.options h.records) (now h.records) ended
        → traffic.connections.table.streams.kept ≤ (h.options.buffer + 65537) * live_streams h.options h.records ended
    by_end true table = omega (arith, table)
    by_end false table =
        let limit = h.options.buffer in
        let segs = segments h.options h.records in
        let t = now h.records in
        let gone = gone_by limit segs t in
        let holds = table.holds in
        let each = left_each (IsInstance limit segs) (λ i. held_in limit i.conversation ≤ (limit + 65537) * streams_in i.conversation) gone (instances limit segs)
        (λ i live is. held_within limit _ i.conversation
        (entry_live traffic.connections.table limit segs gone table.told i.key i.number i.conversation holds (record { latest_is = is.0; not_gone = live; number_is = is.1 })))
        (all_are limit segs) in
        subst (λ l. traffic.connections.table.streams.kept ≤ (limit + 65537) * sum_by (λ i. streams_in i.conversation) l)
        (sym (live_left limit segs t (instances limit segs) (all_are limit segs)))
        (subst (λ n. n ≤ (limit + 65537) * sum_by (λ i. streams_in i.conversation) (left gone (instances limit segs))) (sym holds.kept_is)
        (sum_within limit (left gone (instances limit segs)) each))
