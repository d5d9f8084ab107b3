-- Network time is the greatest moment so far.
use Rattle.std.proofs.Common.{◌≡◌, suc, ◌⊎◌, List, [], ◌∷◌, take, ℤ, pos, refl, sym, inl, inr, ap, ◌∙◌, arith}
use Rattle.std.specs.Prelude.{◌≤ℤ◌, int_lt}
use Rattle.std.specs.List.{All, Any, fold}
use Rattle.std.proofs.lemmas.Bool.{cases_Bool, cond-true, cond-false}
use Rattle.std.proofs.lemmas.Int.{ints}
use Rattle.std.proofs.lemmas.List.Elements.{All-nil, All-cons, All-head, All-take, All-weaker}
use Rattle.zk_base.specs.declared.time.Moment.{Moment}
use Rattle.zk_base.specs.Captured.{Captured, IsBounded}
use Rattle.zk_base.specs.NetworkTime.{later, now, IsGreatest, HasNetworkTime}

-- the network time from a moment on
abbrev time_from : Moment → List Captured → Moment
time_from start packets = fold (λ time packet. later time packet.moment) start packets

-- the later of two moments is one of them, and at or after the other
later-cases : (a b : Moment) → ((later a b ≡ b) × (a.0 ≤ℤ b.0)) ⊎ ((later a b ≡ a) × (b.0 ≤ℤ a.0))
later-cases a b = elim (cases_Bool (int_lt a.0 b.0)) as (λ _. ((later a b ≡ b) × (a.0 ≤ℤ b.0)) ⊎ ((later a b ≡ a) × (b.0 ≤ℤ a.0))) [
  | inl before ↦ inl (cond-true _ b a before, grind (arith, ints))
  | inr after ↦ inr (cond-false _ b a after, grind (arith, ints))
]

-- neither moment is after the later one
later-first : (a b : Moment) → a.0 ≤ℤ (later a b).0
later-first a b = elim (later-cases a b) as (λ _. a.0 ≤ℤ (later a b).0) [
  | inl second ↦ rw second.0 second.1
  | inr first ↦ rw first.0 (omega (arith, ints))
]

later-second : (a b : Moment) → b.0 ≤ℤ (later a b).0
later-second a b = elim (later-cases a b) as (λ _. b.0 ≤ℤ (later a b).0) [
  | inl second ↦ rw second.0 (omega (arith, ints))
  | inr first ↦ rw first.0 first.1
]

-- network time never falls
time_from-start : (start : Moment) (packets : List Captured) → start.0 ≤ℤ (time_from start packets).0
time_from-start start [] = omega (arith, ints)
time_from-start start (p ∷ packets) =
    let here = later-first start p.moment in
    let rest = time_from-start (later start p.moment) packets in
    omega (arith, ints)

-- no moment is after it
time_from-above : (start : Moment) (packets : List Captured) → All (λ p. p.moment.0 ≤ℤ (time_from start packets).0) packets
time_from-above start [] = All-nil (λ (p : Captured). p.moment.0 ≤ℤ start.0)
time_from-above start (p ∷ packets) =
    let here = later-second start p.moment in
    let rest = time_from-start (later start p.moment) packets in
    All-cons (λ (q : Captured). q.moment.0 ≤ℤ (time_from start (p ∷ packets)).0) p packets (omega (arith, ints)) (time_from-above (later start p.moment) packets)

any-first : (P : Captured → Type 0) (p : Captured) (packets : List Captured) → P p → Any P (p ∷ packets)
any-first P p packets h = (0, p, omega arith, refl, h)

any-later : (P : Captured → Type 0) (p : Captured) (packets : List Captured) → Any P packets → Any P (p ∷ packets)
any-later P p packets (k, q, inside, at, h) = (suc k, q, omega arith, at, h)

-- it is the moment that it began with, or that of a packet
time_from-among : (start : Moment) (packets : List Captured) → (time_from start packets ≡ start) ⊎ Any (λ p. p.moment ≡ time_from start packets) packets
time_from-among start [] = inl refl
time_from-among start (p ∷ packets) =
    let time : Moment = time_from (later start p.moment) packets in
    elim (time_from-among (later start p.moment) packets) as (λ _. (time ≡ start) ⊎ Any (λ q. q.moment ≡ time) (p ∷ packets)) [
      | inr rest ↦ inr (any-later (λ (q : Captured). q.moment ≡ time) p packets rest)
      | inl same ↦ elim (later-cases start p.moment) as (λ _. (time ≡ start) ⊎ Any (λ q. q.moment ≡ time) (p ∷ packets)) [
        | inl second ↦ inr (any-first (λ (q : Captured). q.moment ≡ time) p packets (sym (same ∙ second.0)))
        | inr first ↦ inl (same ∙ first.0)
      ]
    ]

same_moment : (a b : Moment) → a.0 ≡ b.0 → a ≡ b
same_moment a b e = ap (λ (z : ℤ). let m : Moment = record { 0 = z } in m) e

-- network time is the greatest moment
now-greatest : (packets : List Captured) → All (λ p. pos 0 ≤ℤ p.moment.0) packets → IsGreatest (now packets) packets
now-greatest [] least = record { above = time_from-above (record { 0 = pos 0 }) []; among = inl (refl, refl) }
now-greatest (p ∷ packets) least =
    let above = time_from-above (record { 0 = pos 0 }) (p ∷ packets) in
    let time : Moment = now (p ∷ packets) in
    record {
      above = above;
      among = elim (time_from-among (record { 0 = pos 0 }) (p ∷ packets)) as (λ _. (((p ∷ packets) ≡ []) × (time ≡ record { 0 = pos 0 })) ⊎ Any (λ q. q.moment ≡ time) (p ∷ packets)) [
        | inr one ↦ inr one
        | inl zero_time ↦
            let low = All-head (λ (q : Captured). pos 0 ≤ℤ q.moment.0) p packets least in
            let high = All-head (λ (q : Captured). q.moment.0 ≤ℤ time.0) p packets above in
            let at = ap (λ (m : Moment). m.0) zero_time in
            inr (any-first (λ (q : Captured). q.moment ≡ time) p packets (same_moment p.moment time (omega (arith, ints))))
      ];
    }

bounded_least : (p : Captured) → IsBounded p → pos 0 ≤ℤ p.moment.0
bounded_least p bounded = rw bounded.moment.2 (omega (arith, ints))

-- so it is after each packet of a capture
pub has_network_time : (packets : List Captured) → All IsBounded packets → HasNetworkTime packets
has_network_time packets bounded n =
    now-greatest (take n packets) (All-take (λ (p : Captured). pos 0 ≤ℤ p.moment.0) n packets
    (All-weaker IsBounded (λ (p : Captured). pos 0 ≤ℤ p.moment.0) bounded_least packets bounded))
