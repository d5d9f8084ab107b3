-- What an instance of a key is, and what is live.
use Rattle.std.proofs.Common.{◌≡◌, ℕ, Bool, true, false, cond, List, [], ◌∷◌, ◌++◌, length, take, fold, get_or, Option, None, Some, IsSome, is_some, refl, sym, ap, subst, ◌∙◌, arith, ⊎_elim, append_assoc, length-append}
use Rattle.std.specs.BTreeMap as tree
use Rattle.std.specs.Option.{option_map}
use Rattle.std.specs.Ordering.{nat_cmp}
use Rattle.std.proofs.lemmas.Bool.{cases_eq, cases_lt, true≢false}
use Rattle.std.proofs.lemmas.Grind.{common_steps}
use Rattle.std.proofs.lemmas.List.{append-nil}
use Rattle.std.proofs.lemmas.Option.{slice_get-get_or, slice_get_past}
use Rattle.slab.specs.Slab.{get}
use Rattle.zk_base.specs.declared.numbers.ConnNo.{ConnNo}
use Rattle.zk_base.specs.declared.time.Moment.{Moment}
use Rattle.zk_conn.specs.declared.conns.Conns.{Conns}
use Rattle.zk_conn.specs.declared.instance.Instance.{Instance}
use Rattle.zk_conn.specs.declared.key.Key.{Key}
use Rattle.zk_conn.specs.declared.view.L4View.{L4View}
use Rattle.zk_conn.specs.Histories.{comes_late, joined_by, instance_of, IsLive}
use Rattle.zk_conn.specs.Instances.{IsTimely}
use Rattle.zk_conn.specs.Standing.{StandsFor}
use Rattle.zk_conn.specs.Table.{HasLive, slot_numbered, kept}
use Rattle.zk_conn.specs.Told.{Told, Packet, Front, Reached, Removal, Ending}
use Rattle.zk_conn.proofs.RemoveLemmas.{found_in_slot, same_slot}
use Rattle.zk_conn.proofs.StandingLemmas.{found_live, numbered_found, numbered-kept}

-- an instance with one more event is the last part of what was told with it
joined_last : (current before : List Told) (event : Told) → (rest : List Told) × (before ++ current ++ event ∷ [] ≡ rest ++ joined_by current event)
joined_last current before (Packet moment p) = by_cases (comes_late current moment)
  where
    by_cases : (b : Bool) → (rest : List Told) × (before ++ current ++ Packet moment p ∷ [] ≡ rest ++ cond b (Packet moment p ∷ []) (current ++ Packet moment p ∷ []))
    by_cases true = (before ++ current, refl)
    by_cases false = (before, append_assoc before current (Packet moment p ∷ []))
joined_last current before (Front key side front) = (before, append_assoc before current (Front key side front ∷ []))
joined_last current before (Reached key side) = (before, append_assoc before current (Reached key side ∷ []))
joined_last current before (Removal key at) = (before, append_assoc before current (Removal key at ∷ []))
joined_last current before (Ending key last) = (before, append_assoc before current (Ending key last ∷ []))

last_from : (before current events : List Told) → (rest : List Told) × (before ++ current ++ events ≡ rest ++ fold joined_by current events)
last_from before current [] = (before, append-nil (before ++ current))
last_from before current (event ∷ events) =
    let step = joined_last current before event in
    let more = last_from step.0 (joined_by current event) events in
    (more.0, sym (append_assoc (before ++ current) (event ∷ []) events) ∙ ap (λ l. l ++ events) step.1 ∙ more.1)

-- the latest instance of a key is the last part of what was told of it
pub instance_last : (events : List Told) → (before : List Told) × (events ≡ before ++ instance_of events)
instance_last events = last_from [] [] events

-- an instance with one more event is timely
pub timely_push : (current : List Told) (event : Told) → IsTimely current → ((moment : Moment) (p : L4View) → event ≡ Packet moment p → comes_late current moment ≡ false)
    → IsTimely (current ++ event ∷ [])
timely_push current event timely last = λ n moment p some is. ⊎_elim
    (λ within.
    subst (λ l. comes_late l moment ≡ false) (let same : take n current ≡ take n (current ++ event ∷ []) = grind (arith, common_steps, within) in same)
    (timely n moment p some (slice_get-get_or current n event within
    ∙ ap Some (let same : get_or current n event ≡ get_or (current ++ event ∷ []) n event = grind (arith, common_steps, within) in same)
    ∙ sym (slice_get-get_or (current ++ event ∷ []) n event (omega (arith, within, length-append current (event ∷ [])))) ∙ is)))
    (λ past. ⊎_elim
    (λ at_end.
    let is_event : event ≡ Packet moment p = one_some (sym (slice_get-get_or (current ++ event ∷ []) n event (omega (arith, at_end, length-append current (event ∷ []))) ∙ ap Some (let same : get_or (current ++ event ∷ []) n event ≡ event = grind (arith, common_steps, at_end) in same)) ∙ is) in
    subst (λ l. comes_late l moment ≡ false) (let same : current ≡ take n (current ++ event ∷ []) = grind (arith, common_steps, at_end) in same) (last moment p is_event))
    (λ beyond. absurd (no_some (sym (slice_get_past (current ++ event ∷ []) n (omega (arith, past, beyond, length-append current (event ∷ [])))) ∙ is)))
    (cases_eq n (length current)))
    (cases_lt n (length current))
  where
    one_some : {a b : Told} → Some a ≡ Some b → a ≡ b
    one_some same = cc

    no_some : {a : Told} → None ≡ Some a → ⊥
    no_some same = cc

-- no event, and one
pub timely_none : IsTimely []
timely_none = λ n moment p some is. absurd (no_some (sym (slice_get_past [] n (omega arith)) ∙ is))
  where
    no_some : {a : Told} → None ≡ Some a → ⊥
    no_some same = cc

pub timely_alone : (event : Told) → IsTimely (event ∷ [])
timely_alone event = λ n moment p some is. absurd (no_some (sym (slice_get_past (event ∷ []) n (omega (arith, some))) ∙ is))
  where
    no_some : {a : Told} → None ≡ Some a → ⊥
    no_some same = cc

pub timely_joined : (current : List Told) (event : Told) → IsTimely current → IsTimely (joined_by current event)
timely_joined current (Packet moment p) timely = by_cases (comes_late current moment) refl
  where
    by_cases : (b : Bool) → comes_late current moment ≡ b → IsTimely (cond (comes_late current moment) (Packet moment p ∷ []) (current ++ Packet moment p ∷ []))
    by_cases true late = subst IsTimely (sym (ap (λ b. cond b (Packet moment p ∷ []) (current ++ Packet moment p ∷ [])) late)) (timely_alone (Packet moment p))
    by_cases false early = subst IsTimely (sym (ap (λ b. cond b (Packet moment p ∷ []) (current ++ Packet moment p ∷ [])) early))
        (timely_push current (Packet moment p) timely (λ m q same. subst (λ (x : Moment). comes_late current x ≡ false) (same_moment moment m p q same) early))
      where
        same_moment : (a b : Moment) (x y : L4View) → Packet a x ≡ Packet b y → a ≡ b
        same_moment a b x y same = cc
timely_joined current (Front key side front) timely = timely_push current (Front key side front) timely (λ m q same. cc)
timely_joined current (Reached key side) timely = timely_push current (Reached key side) timely (λ m q same. cc)
timely_joined current (Removal key at) timely = timely_push current (Removal key at) timely (λ m q same. cc)
timely_joined current (Ending key last) timely = timely_push current (Ending key last) timely (λ m q same. cc)

timely_from : (current events : List Told) → IsTimely current → IsTimely (fold joined_by current events)
timely_from current [] timely = timely
timely_from current (event ∷ events) timely = timely_from (joined_by current event) events (timely_joined current event timely)

-- no packet of an instance comes too late for what stands before it
pub instance_timely : (events : List Told) → IsTimely (instance_of events)
instance_timely events = timely_from [] events timely_none

-- a live number is that of a key's latest instance
pub live_told : (conns : Conns) (told : List Told) (conn : ConnNo) → StandsFor conns told → HasLive conns conn → (key : Key) × IsLive told key conn.0
unfolding slot_numbered found_in_slot
live_told conns told conn stands live = by_slot (tree.get nat_cmp conns.numbers conn.0) refl
  where
    is : IsSome (kept conns.slots (tree.get nat_cmp conns.numbers conn.0))
    is = subst IsSome (numbered-kept conns conn stands.table) live

    never : {A : Type 0} {o : Option A} → o ≡ None → IsSome o → ⊥
    never none some = true≢false (sym (subst IsSome none some))

    number_of_slot : (n : ℕ) (i : Instance) → option_map (λ (j : Instance). j.number) (Some i) ≡ Some n → i.number ≡ n
    number_of_slot n i same = cc

    by_slot : (o : Option ℕ) → tree.get nat_cmp conns.numbers conn.0 ≡ o → (key : Key) × IsLive told key conn.0
    by_slot None none = absurd (never (ap (kept conns.slots) none) is)
    by_slot (Some s) some = by_instance (get conns.slots s) refl
      where
        by_instance : (o : Option Instance) → get conns.slots s ≡ o → (key : Key) × IsLive told key conn.0
        by_instance None none = absurd (never (ap (kept conns.slots) some ∙ ap (λ x. cond (is_some x) (Some s) None) none) is)
        by_instance (Some i) there =
            let found = found_in_slot conns told s i stands there in (
              i.key,
              record {
                live = found.latest.live;
                number_is = found.latest.number_is ∙ number_of_slot conn.0 i (sym (ap (option_map (λ (j : Instance). j.number)) there) ∙ stands.table.numbers.there conn.0 s some);
              },
            )

-- a key's latest instance that is live is there under its number
pub told_live_number : (conns : Conns) (told : List Told) (conn : ConnNo) → StandsFor conns told → (key : Key) × IsLive told key conn.0 → HasLive conns conn
told_live_number conns told conn stands live =
    let found = found_live conns told live.0 stands live.1.live in
    subst IsSome (sym (numbered_found conns told live.0 conn stands found live.1)) refl

-- live instances of one number are of one key
pub one_number : (conns : Conns) (told : List Told) (key other : Key) (number : ℕ) → StandsFor conns told → IsLive told key number → IsLive told other number → key ≡ other
one_number conns told key other number stands live other_live =
    let found = found_live conns told key stands live.live in
    let other_found = found_live conns told other stands other_live.live in
    let at = same_slot conns told other found.slot found.instance stands found.there other_found (other_live.number_is ∙ sym live.number_is ∙ found.latest.number_is) in
    sym found.key_is ∙ ap (λ (i : Instance). i.key) (one other_found.instance found.instance (subst (λ s. get conns.slots s ≡ Some other_found.instance) (sym at) other_found.there) found.there) ∙ other_found.key_is
  where
    one : {A : Type 0} {o : Option A} (a b : A) → o ≡ Some a → o ≡ Some b → b ≡ a
    one a b first second = cc
