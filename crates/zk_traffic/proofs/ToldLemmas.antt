-- What connections are told of a conversation, by the definitions of zk_conn.
use Rattle.std.proofs.Common.{◌≡◌, ℕ, ◌+◌, pos, ◌+ℤ◌, Bool, true, false, cond, if◌then◌else◌, not, ◌&&◌, ◌||◌, List, [], ◌∷◌, ◌++◌, fold, Option, None, Some, refl, sym, ap, subst, ◌∙◌, arith, append_assoc}
use Rattle.std.specs.List.{list_any}
use Rattle.std.specs.Option.{option_map}
use Rattle.std.specs.Prelude.{int_le, All}
use Rattle.std.proofs.lemmas.Bool.{true≢false}
use Rattle.std.proofs.lemmas.Bool.Decides.{nat_tests}
use Rattle.std.proofs.lemmas.Int.{ints}
use Rattle.std.proofs.lemmas.List.{append-nil}
use Rattle.std.proofs.lemmas.List.Elements.{All-append, All-cons}
use Rattle.std.proofs.lemmas.List.Sums.{fold-append}
use Rattle.zk_base.specs.declared.network.Side.{Side}
use Rattle.zk_base.specs.declared.network.Side.TheVariants.{Orig, Resp}
use Rattle.zk_base.specs.declared.time.Moment.{Moment}
use Rattle.zk_conn.specs.declared.half.StreamEnd.{StreamEnd}
use Rattle.zk_conn.specs.declared.half.StreamEnd.TheVariants.{Open, Fin, Rst}
use Rattle.zk_conn.specs.declared.key.Endpoint.{Endpoint}
use Rattle.zk_conn.specs.declared.key.Key.{Key}
use Rattle.zk_conn.specs.declared.view.L4View.{L4View}
use Rattle.zk_conn.specs.Half.{end_after}
use Rattle.zk_conn.specs.Histories as conn
use Rattle.zk_conn.specs.Instance.{Opening, closing_of, end_of, facts_from, facts_of, last_moment, moment_after, moment_plus, opening, originator, removal_from, removal_moment, same_side, wait}
use Rattle.zk_conn.specs.Segment.{is_tcp, same_key}
use Rattle.zk_conn.specs.State.{is_open, is_rst}
use Rattle.zk_conn.specs.Told.{Told, Packet, Front, Reached, Removal, Ending, key_told}
use Rattle.zk_traffic.specs.Table.{front_told}
use Rattle.zk_conn.proofs.HalfLemmas.{end_of-append}
use Rattle.zk_conn.proofs.KeyLemmas.{same_key-refl}
use Rattle.zk_conn.proofs.ToldLemmas as below

-- an event that is told of a key's connection and neither begins nor removes one, nor has a moment
pub record IsQuiet (key : Key) (event : Told) : Type 0 where
  pub of_key : key_told event ≡ key
  pub joins : (l : List Told) → conn.joined_by l event ≡ l ++ event ∷ []
  pub begins : (b : List Told) → conn.begun_by b event ≡ []
  pub kept : conn.is_removal event ≡ false
  pub any_time : (t : Moment) → conn.Precedes t event
  pub no_moment : (m : Moment) → moment_after m event ≡ m

pub front_quiet : (key : Key) (side : Side) (front : ℕ) → IsQuiet key (Front key side front)
front_quiet key side front = record { of_key = refl; joins = λ l. refl; begins = λ b. refl; kept = refl; any_time = λ t. tt; no_moment = λ m. refl }

pub reached_quiet : (key : Key) (side : Side) → IsQuiet key (Reached key side)
reached_quiet key side = record { of_key = refl; joins = λ l. refl; begins = λ b. refl; kept = refl; any_time = λ t. tt; no_moment = λ m. refl }

abbrev pub AreQuiet : Key → List Told → Type 0
AreQuiet key [] = Unit {0}
AreQuiet key (e ∷ more) = IsQuiet key e × AreQuiet key more

pub quiet_both : (key : Key) (l m : List Told) → AreQuiet key l → AreQuiet key m → AreQuiet key (l ++ m)
quiet_both key [] m first second = second
quiet_both key (e ∷ l) m first second = (first.0, quiet_both key l m first.1 second)

-- quiet events go behind what was told of their key
pub latest-quiet : (key : Key) (told more : List Told) → AreQuiet key more → conn.latest key (told ++ more) ≡ conn.latest key told ++ more
latest-quiet key told [] quiet = ap (conn.latest key) (append-nil told) ∙ sym (append-nil (conn.latest key told))
latest-quiet key told (e ∷ more) quiet =
    ap (conn.latest key) (sym (append_assoc told (e ∷ []) more))
    ∙ latest-quiet key (told ++ e ∷ []) more quiet.1
    ∙ ap (λ l. l ++ more) (below.latest-append key told e true (ap (λ k. same_key k key) quiet.0.of_key ∙ same_key-refl key) ∙ quiet.0.joins (conn.latest key told))
    ∙ append_assoc (conn.latest key told) (e ∷ []) more

pub latest-others : (key other : Key) (told more : List Told) → AreQuiet key more → same_key key other ≡ false → conn.latest other (told ++ more) ≡ conn.latest other told
latest-others key other told [] quiet apart = ap (conn.latest other) (append-nil told)
latest-others key other told (e ∷ more) quiet apart =
    ap (conn.latest other) (sym (append_assoc told (e ∷ []) more))
    ∙ latest-others key other (told ++ e ∷ []) more quiet.1 apart
    ∙ below.latest-append other told e false (ap (λ k. same_key k other) quiet.0.of_key ∙ apart)

pub begun-quiet : (key : Key) (told more : List Told) → AreQuiet key more → conn.begun (told ++ more) ≡ conn.begun told
begun-quiet key told [] quiet = ap conn.begun (append-nil told)
begun-quiet key told (e ∷ more) quiet =
    ap conn.begun (sym (append_assoc told (e ∷ []) more))
    ∙ begun-quiet key (told ++ e ∷ []) more quiet.1
    ∙ below.begun-append told e ∙ ap (λ l. conn.begun told ++ l) (quiet.0.begins told) ∙ append-nil (conn.begun told)

pub precede-quiet : (key : Key) (t : Moment) (told more : List Told) → AreQuiet key more → All (conn.Precedes t) told → All (conn.Precedes t) (told ++ more)
precede-quiet key t told more quiet order = All-append (conn.Precedes t) told more order (all more quiet)
  where
    all : (l : List Told) → AreQuiet key l → All (conn.Precedes t) l
    all [] quiet = λ k d within. absurd (omega (arith, within))
    all (e ∷ l) quiet = All-cons (conn.Precedes t) e l (quiet.0.any_time t) (all l quiet.1)

moment-quiet : (key : Key) (m : Moment) (more : List Told) → AreQuiet key more → fold moment_after m more ≡ m
moment-quiet key m [] quiet = refl
moment-quiet key m (e ∷ more) quiet = ap (λ x. fold moment_after x more) (quiet.0.no_moment m) ∙ moment-quiet key m more quiet.1

-- behind a packet, the last moment is that of the packet
pub last-with : (key : Key) (first : Opening) (events more : List Told) (t : Moment) (p : L4View) → AreQuiet key more → last_moment first (events ++ Packet t p ∷ [] ++ more) ≡ t
last-with key first events more t p quiet =
    fold-append moment_after first.moment (events ++ Packet t p ∷ []) more
    ∙ ap (λ m. fold moment_after m more) (fold-append moment_after first.moment events (Packet t p ∷ []))
    ∙ moment-quiet key t more quiet

wait-some : (tcp : Bool) (o r : StreamEnd) → (n : ℕ) × (wait tcp o r ≡ n + 1)
wait-some tcp o r = by_cases (is_rst o || is_rst r || (not (is_open o) && not (is_open r))) tcp
  where
    by_cases : (b c : Bool) → (n : ℕ) × (cond b 5000000 (cond c 300000000 60000000) ≡ n + 1)
    by_cases true c = (4999999, refl)
    by_cases false true = (299999999, refl)
    by_cases false false = (59999999, refl)

later_than : (t : Moment) (n : ℕ) → int_le (t.0 +ℤ pos (n + 1)) t.0 ≡ false
later_than t n = grind (arith, ints, nat_tests)

-- a connection is removed later than its last packet
pub removal-later : (first : Opening) (events : List Told) (t : Moment) → last_moment first events ≡ t → int_le (removal_from first events).0 t.0 ≡ false
removal-later first events t is =
    let w = wait-some (is_tcp first.packet.proto) (end_of (originator first.packet) Orig events) (end_of (originator first.packet) Resp events) in
    ap (λ n. int_le (moment_plus (last_moment first events) n).0 t.0) w.1
    ∙ ap (λ (m : Moment). int_le (moment_plus m (w.0 + 1)).0 t.0) is
    ∙ later_than t w.0

-- a removal changes neither the ends nor the last moment
closing_of-removal : (o : Endpoint) (side : Side) (events : List Told) (event : Told) → conn.is_removal event ≡ true → closing_of o side events event ≡ None
closing_of-removal o side events (Packet m p) is = absurd (true≢false (sym is))
closing_of-removal o side events (Front k s f) is = absurd (true≢false (sym is))
closing_of-removal o side events (Reached k s) is = absurd (true≢false (sym is))
closing_of-removal o side events (Removal k at) is = refl
closing_of-removal o side events (Ending k last) is = refl

moment_after-removal : (m : Moment) (event : Told) → conn.is_removal event ≡ true → moment_after m event ≡ m
moment_after-removal m (Packet t p) is = absurd (true≢false (sym is))
moment_after-removal m (Front k s f) is = absurd (true≢false (sym is))
moment_after-removal m (Reached k s) is = absurd (true≢false (sym is))
moment_after-removal m (Removal k at) is = refl
moment_after-removal m (Ending k last) is = refl

end_after-none : (end : StreamEnd) → end_after end None ≡ end
end_after-none Open = refl
end_after-none Fin = refl
end_after-none Rst = refl

end_of-removal : (o : Endpoint) (side : Side) (events : List Told) (event : Told) → conn.is_removal event ≡ true → end_of o side (events ++ event ∷ []) ≡ end_of o side events
end_of-removal o side events event is =
    end_of-append o side events event ∙ ap (end_after (end_of o side events)) (closing_of-removal o side events event is) ∙ end_after-none (end_of o side events)

removal_from-removal : (first : Opening) (events : List Told) (event : Told) → conn.is_removal event ≡ true → removal_from first (events ++ event ∷ []) ≡ removal_from first events
removal_from-removal first events event is =
    ap (λ m. moment_plus m (wait (is_tcp first.packet.proto) (end_of (originator first.packet) Orig (events ++ event ∷ [])) (end_of (originator first.packet) Resp (events ++ event ∷ []))))
    (fold-append moment_after first.moment events (event ∷ []) ∙ moment_after-removal (last_moment first events) event is)
    ∙ ap (λ e. moment_plus (last_moment first events) (wait (is_tcp first.packet.proto) e (end_of (originator first.packet) Resp (events ++ event ∷ [])))) (end_of-removal (originator first.packet) Orig events event is)
    ∙ ap (λ e. moment_plus (last_moment first events) (wait (is_tcp first.packet.proto) (end_of (originator first.packet) Orig events) e)) (end_of-removal (originator first.packet) Resp events event is)

opening-one : (l : List Told) (event : Told) (first : Opening) → opening l ≡ Some first → opening (l ++ event ∷ []) ≡ Some first
opening-one [] event first is = absurd (none_some first is)
  where
    none_some : {A : Type 0} (x : A) → None ≡ Some x → ⊥
    none_some x e = cc
opening-one (e ∷ l) event first is = is

-- when a connection is over
pub over-is : (events : List Told) (first : Opening) (t : Moment) → opening events ≡ Some first → conn.comes_late events t ≡ int_le (removal_from first events).0 t.0
over-is events first t begun = ap (λ o. conn.is_past (option_map (λ f. removal_from f events) o) t) begun

pub over-removed : (events : List Told) (event : Told) (first : Opening) (t : Moment) → opening events ≡ Some first → conn.is_removal event ≡ true
    → conn.comes_late (events ++ event ∷ []) t ≡ int_le (removal_from first events).0 t.0
over-removed events event first t begun is =
    over-is (events ++ event ∷ []) first t (opening-one events event first begun) ∙ ap (λ (m : Moment). int_le m.0 t.0) (removal_from-removal first events event is)

-- what is live, by the events of a conversation
pub live-is : (events : List Told) (first : Opening) → opening events ≡ Some first → list_any conn.is_removal events ≡ false → conn.is_live events ≡ true
live-is events first begun live = ap (λ o. conn.has_begun o && not (list_any conn.is_removal events)) begun ∙ ap not live

pub facts-is : (events : List Told) (first : Opening) → opening events ≡ Some first → facts_of events ≡ Some (facts_from first events)
facts-is events first begun = ap (option_map (λ f. facts_from f events)) begun

pub removal-is : (events : List Told) (first : Opening) → opening events ≡ Some first → removal_moment events ≡ Some (removal_from first events)
removal-is events first begun = ap (option_map (λ f. removal_from f events)) begun

none_some : {A : Type 0} {a : A} → None ≡ Some a → ⊥
none_some e = cc

-- a live connection has begun
pub has_opening : (events : List Told) → conn.is_live events ≡ true → (first : Opening) × (opening events ≡ Some first)
has_opening events live = by_opening (opening events) refl
  where
    by_opening : (o : Option Opening) → opening events ≡ o → (first : Opening) × (opening events ≡ Some first)
    by_opening None none = absurd (true≢false (sym live ∙ ap (λ o. conn.has_begun o && not (list_any conn.is_removal events)) none))
    by_opening (Some first) some = (first, some)

-- quiet events leave what is live
pub live_more : (key : Key) (number : ℕ) (told more : List Told) → AreQuiet key more → conn.IsLive told key number → conn.IsLive (told ++ more) key number
live_more key number told [] quiet live = subst (λ l. conn.IsLive l key number) (sym (append-nil told)) live
live_more key number told (e ∷ more) quiet live =
    let first = has_opening (conn.latest key told) live.live in
    let latest = below.latest-append key told e true (ap (λ k. same_key k key) quiet.0.of_key ∙ same_key-refl key) ∙ quiet.0.joins (conn.latest key told) in
    subst (λ l. conn.IsLive l key number) (append_assoc told (e ∷ []) more)
    (live_more key number (told ++ e ∷ []) more quiet.1 (record {
      live = ap conn.is_live latest ∙ below.is_live-append (conn.latest key told) e first.0 first.1 live.live quiet.0.kept;
      number_is = below.number_of-quiet key told e (quiet.0.begins told) ∙ live.number_is;
    }))

pub opening-more : (l m : List Told) (first : Opening) → opening l ≡ Some first → opening (l ++ m) ≡ Some first
opening-more [] m first is = absurd (none_some is)
opening-more (e ∷ l) m first is = is

-- a front leaves the ends
pub end_of-front : (o : Endpoint) (side : Side) (events : List Told) (key : Key) (of : Side) (front : ℕ) → end_of o side (events ++ Front key of front ∷ []) ≡ end_of o side events
end_of-front o side events key of front = end_of-append o side events (Front key of front) ∙ end_after-none (end_of o side events)

pub end_of-reached : (o : Endpoint) (side : Side) (events : List Told) (key : Key) (of : Side)
    → end_of o side (events ++ Reached key of ∷ []) ≡ end_after (end_of o side events) (if same_side of side then Some Fin else None)
end_of-reached o side events key of = end_of-append o side events (Reached key of)

-- what is told of a front that has moved is quiet, and leaves the ends
pub front_told-quiet : (key : Key) (side : Side) (front : Option ℕ) → AreQuiet key (front_told key side front)
front_told-quiet key side None = tt
front_told-quiet key side (Some front) = (front_quiet key side front, tt)

pub end_of-front_told : (o : Endpoint) (side : Side) (key : Key) (front : Option ℕ) (told : List Told) → end_of o side (conn.latest key (told ++ front_told key side front)) ≡ end_of o side (conn.latest key told)
end_of-front_told o side key None told = ap (λ l. end_of o side (conn.latest key l)) (append-nil told)
end_of-front_told o side key (Some front) told =
    ap (end_of o side) (latest-quiet key told (Front key side front ∷ []) (front_quiet key side front, tt)) ∙ end_of-front o side (conn.latest key told) key side front

pub opening-front_told : (side : Side) (key : Key) (front : Option ℕ) (told : List Told) (first : Opening) → opening (conn.latest key told) ≡ Some first → opening (conn.latest key (told ++ front_told key side front)) ≡ Some first
opening-front_told side key front told first begun =
    ap opening (latest-quiet key told (front_told key side front) (front_told-quiet key side front)) ∙ opening-more (conn.latest key told) (front_told key side front) first begun
