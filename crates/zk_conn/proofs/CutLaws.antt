-- What was told of a key can be cut into instances in exactly one way.
use Rattle.std.proofs.Common.{◌≡◌, ◌↔◌, ◌<◌, ◌≤◌, true, false, cond, inl, inr, List, [], ◌∷◌, ◌++◌, length, take, fold, Some, refl, sym, ap, subst, ◌∙◌, arith, append_assoc, length-append}
use Rattle.std.proofs.lemmas.Bool.{cases_lt, true≢false}
use Rattle.std.proofs.lemmas.List.{append-nil, append_cancel_left}
use Rattle.std.proofs.lemmas.List.Sums.{fold-append}
use Rattle.std.proofs.lemmas.Option.{slice_get-get_or}
use Rattle.std.proofs.Math.Seq.{take-append_seam, get_or-append_seam}
use Rattle.zk_base.specs.declared.time.Moment.{Moment}
use Rattle.zk_conn.specs.declared.view.L4View.{L4View}
use Rattle.zk_conn.specs.Histories.{comes_late, joined_by, instance_of}
use Rattle.zk_conn.specs.Instances.{IsTimely, StartsLate, IsClosed, flatten, AreInstances, AreCutInto}
use Rattle.zk_conn.specs.Told.{Told, Packet, Front, Reached, Removal, Ending}
use Rattle.zk_conn.proofs.InstanceLaws.{timely_none, timely_alone, timely_push}

-- in a timely instance each packet comes in time for those before it
next_in_time : (instance : List Told) (moment : Moment) (p : L4View) (rest : List Told) → 0 < length instance → IsTimely (instance ++ Packet moment p ∷ rest)
    → comes_late instance moment ≡ false
next_in_time instance moment p rest some timely =
    subst (λ l. comes_late l moment ≡ false) (take-append_seam instance (Packet moment p ∷ rest))
    (timely (length instance) moment p some
    (slice_get-get_or (instance ++ Packet moment p ∷ rest) (length instance) (Packet moment p) (omega (arith, length-append instance (Packet moment p ∷ rest)))
    ∙ ap Some (get_or-append_seam instance (Packet moment p) rest (Packet moment p))))

-- There is a cutting --------------------------------------------------------------------------------------------------

-- a way to cut events of which this is the latest instance
record CutFor (events latest : List Told) : Type 0 where
  instances : List (List Told)
  cut : AreCutInto events instances latest

-- one more closed instance in front
cut_behind : (instance rest latest : List Told) → IsClosed instance rest → CutFor rest latest → CutFor (instance ++ rest) latest
cut_behind instance rest latest closed found = record {
  instances = instance ∷ found.instances;
  cut = record {
    whole = ap (λ r. instance ++ r) found.cut.whole ∙ sym (append_assoc instance (flatten found.instances) latest);
    instances_are = (subst (IsClosed instance) found.cut.whole closed, found.cut.instances_are);
  };
}

-- how a rest is cut behind any timely instance
abbrev CutsRest : List Told → Type 0
CutsRest rest = (instance : List Told) → IsTimely instance → CutFor (instance ++ rest) (fold joined_by instance rest)

-- an instance that goes on with an event
cut_on : (event : Told) (rest instance : List Told) → CutsRest rest → IsTimely (instance ++ event ∷ [])
    → CutFor (instance ++ event ∷ rest) (fold joined_by (instance ++ event ∷ []) rest)
cut_on event rest instance cuts timely =
    subst (λ r. CutFor r (fold joined_by (instance ++ event ∷ []) rest)) (append_assoc instance (event ∷ []) rest) (cuts (instance ++ event ∷ []) timely)

-- an instance behind which a packet comes too late, if it has an event
cut_late : (moment : Moment) (p : L4View) (rest instance : List Told) → CutsRest rest → IsTimely instance → comes_late instance moment ≡ true
    → CutFor (instance ++ Packet moment p ∷ rest) (fold joined_by (Packet moment p ∷ []) rest)
cut_late moment p rest [] cuts timely late = cuts (Packet moment p ∷ []) (timely_alone (Packet moment p))
cut_late moment p rest (first ∷ others) cuts timely late =
    cut_behind (first ∷ others) (Packet moment p ∷ rest) (fold joined_by (Packet moment p ∷ []) rest) (record { some = omega arith; timely = timely; ended = late })
    (cuts (Packet moment p ∷ []) (timely_alone (Packet moment p)))

-- an instance, and others behind it
cut_from : (rest : List Told) → CutsRest rest
cut_from [] instance timely = record {
  instances = [];
  cut = record { whole = append-nil instance; instances_are = timely };
}
cut_from (Packet moment p ∷ rest) instance timely =
    elim (comes_late instance moment) as (λ b. comes_late instance moment ≡ b
    → CutFor (instance ++ Packet moment p ∷ rest) (fold joined_by (cond b (Packet moment p ∷ []) (instance ++ Packet moment p ∷ [])) rest)) [
      | true ↦ λ late. cut_late moment p rest instance (cut_from rest) timely late
      | false ↦ λ in_time. cut_on (Packet moment p) rest instance (cut_from rest)
          (timely_push instance (Packet moment p) timely (λ m q same. subst (λ (x : Moment). comes_late instance x ≡ false) (same_moment moment m p q same) in_time))
    ] refl
  where
    same_moment : (a b : Moment) (x y : L4View) → Packet a x ≡ Packet b y → a ≡ b
    same_moment a b x y same = cc
cut_from (Front key side front ∷ rest) instance timely = cut_on (Front key side front) rest instance (cut_from rest) (timely_push instance (Front key side front) timely (λ m q same. cc))
cut_from (Reached key side ∷ rest) instance timely = cut_on (Reached key side) rest instance (cut_from rest) (timely_push instance (Reached key side) timely (λ m q same. cc))
cut_from (Removal key at ∷ rest) instance timely = cut_on (Removal key at) rest instance (cut_from rest) (timely_push instance (Removal key at) timely (λ m q same. cc))
cut_from (Ending key last ∷ rest) instance timely = cut_on (Ending key last) rest instance (cut_from rest) (timely_push instance (Ending key last) timely (λ m q same. cc))

-- Each cutting leaves the same latest instance ------------------------------------------------------------------------

-- a timely instance takes each of its events
takes_next : (instance : List Told) (event : Told) (rest : List Told) → IsTimely (instance ++ event ∷ rest) → joined_by instance event ≡ instance ++ event ∷ []
takes_next [] (Packet moment p) rest timely = refl
takes_next (first ∷ others) (Packet moment p) rest timely =
    ap (λ b. cond b (Packet moment p ∷ []) ((first ∷ others) ++ Packet moment p ∷ [])) (next_in_time (first ∷ others) moment p rest (omega arith) timely)
takes_next instance (Front key side front) rest timely = refl
takes_next instance (Reached key side) rest timely = refl
takes_next instance (Removal key at) rest timely = refl
takes_next instance (Ending key last) rest timely = refl

fold_timely : (rest instance : List Told) → IsTimely (instance ++ rest) → fold joined_by instance rest ≡ instance ++ rest
fold_timely [] instance timely = sym (append-nil instance)
fold_timely (event ∷ rest) instance timely =
    ap (λ l. fold joined_by l rest) (takes_next instance event rest timely)
    ∙ fold_timely rest (instance ++ event ∷ []) (subst IsTimely (sym (append_assoc instance (event ∷ []) rest)) timely)
    ∙ append_assoc instance (event ∷ []) rest

-- what stands behind a closed instance begins anew
fold_closed : (instance rest : List Told) → StartsLate instance rest → fold joined_by instance rest ≡ fold joined_by [] rest
fold_closed instance [] late = absurd late
fold_closed instance (Packet moment p ∷ others) late = ap (λ b. fold joined_by (cond b (Packet moment p ∷ []) (instance ++ Packet moment p ∷ [])) others) late
fold_closed instance (Front key side front ∷ others) late = absurd late
fold_closed instance (Reached key side ∷ others) late = absurd late
fold_closed instance (Removal key at ∷ others) late = absurd late
fold_closed instance (Ending key last ∷ others) late = absurd late

fold_cut : (instances : List (List Told)) (latest : List Told) → AreInstances instances latest → instance_of (flatten instances ++ latest) ≡ latest
fold_cut [] latest timely = fold_timely latest [] timely
fold_cut (instance ∷ instances) latest are =
    let rest = flatten instances ++ latest in
    ap instance_of (append_assoc instance (flatten instances) latest)
    ∙ fold-append joined_by [] instance rest
    ∙ ap (λ l. fold joined_by l rest) (fold_timely instance [] are.0.timely)
    ∙ fold_closed instance rest are.0.ended
    ∙ fold_cut instances latest are.1

-- the latest instance is the one that every cutting leaves
pub latest_by_cutting : (events latest : List Told) → (instance_of events ≡ latest) ↔ ((instances : List (List Told)) × AreCutInto events instances latest)
latest_by_cutting events latest = (
  λ is. let found = subst (CutFor events) is (cut_from events [] timely_none) in (found.instances, found.cut),
  λ (instances, cut). ap instance_of cut.whole ∙ fold_cut instances latest cut.instances_are,
)

-- There is no other cutting -------------------------------------------------------------------------------------------

-- a longer front of one list goes on behind the shorter
goes_on : (front rest longer others : List Told) → front ++ rest ≡ longer ++ others → length front < length longer
    → (next : Told) × (more : List Told) × (longer ≡ front ++ next ∷ more) × (rest ≡ next ∷ more ++ others)
goes_on [] rest [] others same lt = absurd (omega arith)
goes_on [] rest (next ∷ more) others same lt = (next, more, refl, same)
goes_on (first ∷ front) rest [] others same lt = absurd (omega arith)
goes_on (first ∷ front) rest (head ∷ longer) others same lt =
    let found = goes_on front rest longer others (cc) (omega arith) in
    (found.0, found.1, cc (found.2), found.3)

-- a closed instance doesn't go on with the next event
goes_no_further : (instance : List Told) (next : Told) (rest more : List Told) → IsClosed instance (next ∷ rest) → IsTimely (instance ++ next ∷ more) → ⊥
goes_no_further instance (Packet moment p) rest more closed timely = true≢false (sym closed.ended ∙ next_in_time instance moment p more closed.some timely)
goes_no_further instance (Front key side front) rest more closed timely = closed.ended
goes_no_further instance (Reached key side) rest more closed timely = closed.ended
goes_no_further instance (Removal key at) rest more closed timely = closed.ended
goes_no_further instance (Ending key last) rest more closed timely = closed.ended

-- a timely front is no longer than a closed instance in its place
closed_longest : (instance rest front others : List Told) → IsClosed instance rest → IsTimely front → instance ++ rest ≡ front ++ others → length front ≤ length instance
closed_longest instance rest front others closed timely same = elim (cases_lt (length instance) (length front)) [
  | inl lt ↦
      let found = goes_on instance rest front others same lt in
      absurd (goes_no_further instance found.0 (found.1 ++ others) found.1 (subst (IsClosed instance) found.3 closed) (subst IsTimely found.2 timely))
  | inr ge ↦ ge
]

-- fronts of one length
same_front : (front rest other others : List Told) → front ++ rest ≡ other ++ others → length front ≡ length other → front ≡ other
same_front front rest other others same size =
    sym (take-append_seam front rest) ∙ ap (take (length front)) same ∙ ap (λ n. take n (other ++ others)) size ∙ take-append_seam other others

-- what the latest instance has stands in front of no closed one
no_more_instances : (latest instance rest : List Told) → IsTimely latest → IsClosed instance rest → latest ≡ instance ++ rest → ⊥
no_more_instances latest instance [] timely closed same = closed.ended
no_more_instances latest instance (next ∷ rest) timely closed same = goes_no_further instance next rest rest closed (subst IsTimely same timely)

-- two cuttings of the same events
same_instances : (instances others : List (List Told)) (latest : List Told) → AreInstances instances latest → AreInstances others latest
    → flatten instances ++ latest ≡ flatten others ++ latest → instances ≡ others
same_instances [] [] latest are other_are same = refl
same_instances [] (instance ∷ others) latest are other_are same =
    absurd (no_more_instances latest instance (flatten others ++ latest) are other_are.0 (same ∙ append_assoc instance (flatten others) latest))
same_instances (instance ∷ instances) [] latest are other_are same =
    absurd (no_more_instances latest instance (flatten instances ++ latest) other_are are.0 (sym same ∙ append_assoc instance (flatten instances) latest))
same_instances (instance ∷ instances) (other ∷ others) latest are other_are same =
    let rest = flatten instances ++ latest in
    let other_rest = flatten others ++ latest in
    let whole = sym (append_assoc instance (flatten instances) latest) ∙ same ∙ append_assoc other (flatten others) latest in
    let upper = closed_longest instance rest other other_rest are.0 other_are.0.timely whole in
    let lower = closed_longest other other_rest instance rest other_are.0 are.0.timely (sym whole) in
    let here : instance ≡ other = same_front instance rest other other_rest whole (omega arith) in
    let behind = append_cancel_left instance rest other_rest (whole ∙ ap (λ l. l ++ other_rest) (sym here)) in
    let later = same_instances instances others latest are.1 other_are.1 behind in
    cc (here, later)

-- there is one cutting only
pub one_cutting : (events latest : List Told) (instances others : List (List Told)) → AreCutInto events instances latest → AreCutInto events others latest → instances ≡ others
one_cutting events latest instances others cut other_cut =
    same_instances instances others latest cut.instances_are other_cut.instances_are (sym cut.whole ∙ other_cut.whole)
