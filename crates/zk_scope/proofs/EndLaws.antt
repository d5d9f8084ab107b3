-- Names followed to where they end, as it is told of their places.
use Rattle.std.proofs.Common.{◌≡◌, ℕ, zero, suc, ◌+◌, ◌<◌, ◌≤◌, Bool, true, false, not, ◌&&◌, List, [], ◌∷◌, ◌++◌, length, nat_eq, nat_le, nat_lt, Option, Some, None, is_some, slice_get, IfSome, if◌then◌else◌, refl, ap, sym, ◌∙◌, subst, arith}
use Rattle.std.proofs.lemmas.Bool.{leb-true, ltb-true}
use Rattle.std.proofs.lemmas.Bool.Decides.{Decides-eqb}
use Rattle.std.specs.Option.{option_and_then}
use Rattle.zk_tree.specs.declared.types.Type.{«Type», Atomic, Named, Table', Set', Vector', Record', Enum, Event', Hook', Procedure', Function'}
use Rattle.zk_tree.specs.Opening.{trees}
use Rattle.zk_typed.specs.LoadOrder.{Home}
use Rattle.zk_typed.specs.Resolving.{Scripts, followed, followed_to, next_text}
use Rattle.zk_scope.specs.declared.ends.End.{End}
use Rattle.zk_scope.specs.Ends.{AreEnds, AreNexts, end_of, goes_on, is_end, next_at}
use Rattle.zk_scope.specs.Leading.{Text, next_of, steps, text_at}
use Rattle.zk_scope.proofs.FollowLaws.{at_end, by_one, named_next}
use Rattle.zk_scope.proofs.WayLaws.{all_more, longer}

-- where the code finds the next place
pub next_told : (scripts : Scripts) (place : ℕ) (next : Option ℕ) → option_and_then (text_at scripts.names) next ≡ next_of scripts (text_at scripts.names place) →
    IfSome next (λ (w : ℕ). is_some (text_at scripts.names w) ≡ true) → IfSome next (λ (w : ℕ). slice_get (steps scripts.names place) 0 ≡ Some w) → next ≡ next_at scripts place
next_told scripts place None is some first = ap (λ (x : Option Text). if is_some x then slice_get (steps scripts.names place) 0 else None) is
next_told scripts place (Some w) is some first =
    let yes : is_some (next_of scripts (text_at scripts.names place)) ≡ true = sym (ap is_some is) ∙ some in
    sym (ap (λ (b : Bool). if b then slice_get (steps scripts.names place) 0 else None) yes ∙ first)

-- a text that stands for another is a name
named_on : (scripts : Scripts) (place : ℕ) (home : Home) (tree : «Type») → text_at scripts.names place ≡ Some (home, tree) → is_some (next_text scripts home tree) ≡ true →
    option_and_then (text_at scripts.names) (slice_get (steps scripts.names place) 0) ≡ next_of scripts (text_at scripts.names place)
unfolding trees
named_on scripts place home (Named name) is some = named_next scripts place home name is
named_on scripts place home (Atomic at atomic) is some = cc
named_on scripts place home (Table' at n keys m value) is some = cc
named_on scripts place home (Set' at n keys) is some = cc
named_on scripts place home (Vector' at n item) is some = cc
named_on scripts place home (Record' at n fields) is some = cc
named_on scripts place home (Enum at words comma) is some = cc
named_on scripts place home (Event' at n params) is some = cc
named_on scripts place home (Hook' at n params) is some = cc
named_on scripts place home (Procedure' at n params) is some = cc
named_on scripts place home (Function' at n params m given) is some = cc

-- the text that the next place has
leads_on : (scripts : Scripts) (place : ℕ) (text next : Text) → text_at scripts.names place ≡ Some text → next_text scripts text.0 text.1 ≡ Some next →
    (next_at scripts place ≡ slice_get (steps scripts.names place) 0) × (option_and_then (text_at scripts.names) (slice_get (steps scripts.names place) 0) ≡ Some next)
leads_on scripts place text next is on =
    let there : next_of scripts (text_at scripts.names place) ≡ Some next = ap (next_of scripts) is ∙ on in
    (ap (λ (x : Option Text). if is_some x then slice_get (steps scripts.names place) 0 else None) there, named_on scripts place text.0 text.1 is (ap is_some on) ∙ there)

next_none : (scripts : Scripts) (place : ℕ) (text : Text) → text_at scripts.names place ≡ Some text → next_at scripts place ≡ None → next_text scripts text.0 text.1 ≡ None
next_none scripts place text is none = by_next (next_text scripts text.0 text.1) refl
  where
    by_next : (next : Option Text) → next_text scripts text.0 text.1 ≡ next → next_text scripts text.0 text.1 ≡ None
    by_next None e = e
    by_next (Some next) e =
        let on = leads_on scripts place text next is e in
        let there : option_and_then (text_at scripts.names) None ≡ Some next = sym (ap (option_and_then (text_at scripts.names)) (sym on.0 ∙ none)) ∙ on.1 in
        cc

next_some : (scripts : Scripts) (place w : ℕ) (text : Text) → text_at scripts.names place ≡ Some text → next_at scripts place ≡ Some w →
    (next : Text) × (next_text scripts text.0 text.1 ≡ Some next) × (text_at scripts.names w ≡ Some next)
next_some scripts place w text is some = by_next (next_text scripts text.0 text.1) refl
  where
    by_next : (next : Option Text) → next_text scripts text.0 text.1 ≡ next → (next : Text) × (next_text scripts text.0 text.1 ≡ Some next) × (text_at scripts.names w ≡ Some next)
    by_next None e =
        let none : None ≡ Some w = sym (ap (λ (x : Option Text). if is_some x then slice_get (steps scripts.names place) 0 else None) (ap (next_of scripts) is ∙ e)) ∙ some in
        cc
    by_next (Some next) e =
        let on = leads_on scripts place text next is e in
        (next, e, sym (ap (option_and_then (text_at scripts.names)) (sym on.0 ∙ some)) ∙ on.1)

first_of_both : (a b : Bool) → (a && b) ≡ true → a ≡ true
first_of_both true b h = refl
first_of_both false b h = h

second_of_both : (a b : Bool) → (a && b) ≡ true → b ≡ true
second_of_both true b h = h
second_of_both false b h = cc

not_true : (b : Bool) → not b ≡ true → b ≡ false
not_true true h = cc
not_true false h = refl

-- what is told of a place goes on at the next one
on_endless : (ends : List End) (end : End) (found : Option End) → end.endless ≡ true → goes_on end found ≡ true → (other : End) × (found ≡ Some other) × (other.endless ≡ true)
on_endless ends end None e h = cc
on_endless ends end (Some other) e h = (other, refl, rw e at h)

on_ended : (ends : List End) (end : End) (found : Option End) → end.endless ≡ false → goes_on end found ≡ true → (other : End) × (found ≡ Some other) × (other.endless ≡ false) × (other.place ≡ end.place) × (other.steps < end.steps)
on_ended ends end None e h = cc
on_ended ends end (Some other) e h =
    let all : (not other.endless && (nat_eq other.place end.place && nat_lt other.steps end.steps)) ≡ true = rw e at h in
    let rest = second_of_both (not other.endless) (nat_eq other.place end.place && nat_lt other.steps end.steps) all in (
      other,
      refl,
      not_true other.endless (first_of_both (not other.endless) (nat_eq other.place end.place && nat_lt other.steps end.steps) all),
      (Decides-eqb other.place end.place).0 (first_of_both (nat_eq other.place end.place) (nat_lt other.steps end.steps) rest),
      ltb-true other.steps end.steps (second_of_both (nat_eq other.place end.place) (nat_lt other.steps end.steps) rest),
    )

module _ (scripts : Scripts) (ends : List End) (told : (place : ℕ) (end : End) → slice_get ends place ≡ Some end → is_end ends place (next_at scripts place) end ≡ true) where
  endless_to : (left place : ℕ) (end : End) (text : Text) → slice_get ends place ≡ Some end → end.endless ≡ true → text_at scripts.names place ≡ Some text → None ≡ followed_to left scripts text.0 text.1
  endless_to zero place end text at less is = refl
  endless_to (suc left) place end text at less is = by_next (next_at scripts place) refl (told place end at) (endless_to left)
    where
      by_next : (next : Option ℕ) → next_at scripts place ≡ next → is_end ends place next end ≡ true →
          ((w : ℕ) (other : End) (text : Text) → slice_get ends w ≡ Some other → other.endless ≡ true → text_at scripts.names w ≡ Some text → None ≡ followed_to left scripts text.0 text.1) →
          None ≡ followed_to (suc left) scripts text.0 text.1
      by_next None e h rest =
          let no : false ≡ true = sym (not_true end.endless (first_of_both (not end.endless) (nat_eq end.place place) h)) ∙ less in
          cc
      by_next (Some w) e h rest =
          let on = on_endless ends end (slice_get ends w) less h in
          let next = next_some scripts place w text is e in
          rest w on.0 next.0 on.1 on.2 next.2 ∙ sym (by_one scripts text.0 text.1 left next.0 next.1)

  ended_to : (left place : ℕ) (end : End) (text : Text) → slice_get ends place ≡ Some end → end.endless ≡ false → end.steps < left → text_at scripts.names place ≡ Some text →
      text_at scripts.names end.place ≡ followed_to left scripts text.0 text.1
  ended_to zero place end text at more within is = absurd (omega (arith, within))
  ended_to (suc left) place end text at more within is = by_next (next_at scripts place) refl (told place end at) (ended_to left)
    where
      by_next : (next : Option ℕ) → next_at scripts place ≡ next → is_end ends place next end ≡ true →
          ((w : ℕ) (other : End) (text : Text) → slice_get ends w ≡ Some other → other.endless ≡ false → other.steps < left → text_at scripts.names w ≡ Some text →
          text_at scripts.names other.place ≡ followed_to left scripts text.0 text.1) →
          text_at scripts.names end.place ≡ followed_to (suc left) scripts text.0 text.1
      by_next None e h rest =
          let here : end.place ≡ place = (Decides-eqb end.place place).0 (second_of_both (not end.endless) (nat_eq end.place place) h) in
          ap (text_at scripts.names) here ∙ is ∙ sym (at_end scripts text.0 text.1 left (next_none scripts place text is e))
      by_next (Some w) e h rest =
          let on = on_ended ends end (slice_get ends w) more h in
          let next = next_some scripts place w text is e in
          ap (text_at scripts.names) (sym on.3) ∙ rest w on.0 next.0 on.1 on.2 (omega (arith, on.4, within)) next.2 ∙ sym (by_one scripts text.0 text.1 left next.0 next.1)

told_of : (scripts : Scripts) (ends : List End) → AreEnds ends scripts → (place : ℕ) (end : End) → slice_get ends place ≡ Some end → is_end ends place (next_at scripts place) end ≡ true
told_of scripts ends are place end at = second_of_both (nat_le end.steps (length scripts.names)) (is_end ends place (next_at scripts place) end) (are place end at)

-- where a text ends by what is told of its place
pub told_end : (scripts : Scripts) (ends : List End) (place : ℕ) (end : End) (text : Text) → AreEnds ends scripts → slice_get ends place ≡ Some end → text_at scripts.names place ≡ Some text →
    option_and_then (text_at scripts.names) (end_of end) ≡ followed scripts text.0 text.1
told_end scripts ends place end text are at is = by_endless end.endless refl
  where
    few : end.steps ≤ length scripts.names
    few = leb-true end.steps (length scripts.names) (first_of_both (nat_le end.steps (length scripts.names)) (is_end ends place (next_at scripts place) end) (are place end at))

    by_endless : (b : Bool) → end.endless ≡ b → option_and_then (text_at scripts.names) (end_of end) ≡ followed scripts text.0 text.1
    by_endless true e =
        ap (λ (b : Bool). option_and_then (text_at scripts.names) (if b then None else Some end.place)) e ∙
        endless_to scripts ends (told_of scripts ends are) (suc (length scripts.names)) place end text at e is
    by_endless false e =
        ap (λ (b : Bool). option_and_then (text_at scripts.names) (if b then None else Some end.place)) e ∙
        ended_to scripts ends (told_of scripts ends are) (suc (length scripts.names)) place end text at e (omega (arith, few)) is

-- Of all names ---------------------------------------------------------------------------------------------------------

pub more_nexts : (scripts : Scripts) (old new : List (Option ℕ)) (next : Option ℕ) (place : ℕ) → (length old ≡ place) × AreNexts old scripts → next ≡ next_at scripts place → new ≡ old ++ next ∷ [] →
    (length new ≡ place + 1) × AreNexts new scripts
more_nexts scripts old new next place before here pushed = (
  longer old new next place before.0 pushed,
  subst (λ (x : List (Option ℕ)). AreNexts x scripts) (sym pushed)
      (all_more (λ (at : ℕ) (one : Option ℕ). one ≡ next_at scripts at) old next before.1 (here ∙ ap (next_at scripts) (sym before.0))),
)

pub first_nexts : (scripts : Scripts) (all : List (Option ℕ)) → all ≡ [] → (length all ≡ 0) × AreNexts all scripts
first_nexts scripts all none = (ap length none, subst (λ (x : List (Option ℕ)). AreNexts x scripts) (sym none) nowhere)
  where
    nowhere : (place : ℕ) (next : Option ℕ) → slice_get {X = Option ℕ} [] place ≡ Some next → next ≡ next_at scripts place
    nowhere zero next found = cc
    nowhere (suc place) next found = cc
