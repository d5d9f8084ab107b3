-- A side of HTTP, as it is read on.
use Rattle.std.proofs.Common.{◌≡◌, ℕ, ◌+◌, ◌-◌, ◌<◌, ◌≤◌, true, List, length, take, drop, Option, Some, None, OnErr, Result, Ok, Err, inl, inr, refl, sym, ap, subst, ◌∙◌, arith}
use Rattle.std.specs.Prelude.{◌↔◌, replicate}
use Rattle.std.specs.Option.{IfSome, MatchOption}
use Rattle.std.proofs.lemmas.List.{drop-drop, length-drop}
use Rattle.zk_base.specs.ByteQueue.{bytes_of}
use Rattle.zk_base.specs.Places.{bytes_before_gap}
use Rattle.zk_base.specs.declared.network.Side.{Side}
use Rattle.zk_http.specs.declared.http.Http.{Http}
use Rattle.zk_http.specs.declared.units.Step.{Step}
use Rattle.zk_http.specs.declared.units.«Unit».{«Unit» as HttpUnit}
use Rattle.zk_http.specs.Cases.{Held, case_of}
use Rattle.zk_base.specs.Sides.{other}
use Rattle.zk_http.specs.Places.{Both, Stream, of_side}
use Rattle.zk_http.specs.Standing.{HasGap, HasRead, IsAll, IsLent, IsSame, StandsFor, Takes, is_told, seen_of, used_of}
use Rattle.zk_http.specs.Units.{add, next}
use Rattle.zk_http.proofs.StandingLaws.{look_within}
use Rattle.zk_http.proofs.UnreadLaws.{use_what_is_read}
use Rattle.zk_units.specs.declared.http.Reading.{Reading}
use Rattle.zk_units.specs.declared.http.Reading.TheVariants.{Found, Used, Waits}
use Rattle.zk_units.specs.declared.unread.Unread.{Unread}
use Rattle.zk_units.specs.HttpTurns.{Fits, HasNone, IsTold, IsUnread, KeepsAll, KeepsOther, OnUsed, OnWaits, ReadsOn}
use Rattle.zk_units.specs.Unread.{places_of, run_of}
use Rattle.zk_units.proofs.CutLemmas.{run-drop, run-within}
use Rattle.zk_units.proofs.HeldLemmas.{few_waiting}

-- what a reader has used is there
used_within : (reader : Http) (streams : Both Stream) (units : Both (List HttpUnit)) (side : Side) → StandsFor reader streams units → used_of side reader ≤ length (of_side side streams).places
used_within reader streams units side stands = (look_within reader streams units side stands).0

-- the run of a side, as it is lent
pub is_lent : (side : Side) (reader : Http) (u : Unread) (bytes : List ℕ) (streams : Both Stream) (units : Both (List HttpUnit)) → bytes ≡ run_of u → StandsFor reader streams units
    → IsUnread side reader u (of_side side streams) → IsLent reader side (of_side side streams) bytes
is_lent side reader u bytes streams units run stands is = record {
  bytes_are = run ∙ ap bytes_before_gap is.places_are;
  last = λ told. omega (
    arith,
    ap length run,
    is.last told,
    ap length is.places_are,
    length-drop (used_of side reader) (of_side side streams).places,
    used_within reader streams units side stands,
  );
}

-- a side of which places were passed that were used
pub unread_passed : (side : Side) (old new : Http) (u u' : Unread) (stream : Stream) (n given : ℕ) → IsUnread side old u stream → Takes side old new n given
    → places_of u' ≡ drop n (places_of u) → u'.ended ≡ u.ended → (is_told side old ≡ true → n ≤ length (run_of u)) → IsUnread side new u' stream
unread_passed side old new u u' stream n given is takes places ended low = record {
  places_are = places ∙ ap (drop n) is.places_are ∙ drop-drop n (used_of side old) stream.places ∙ ap (λ m. drop m stream.places) (sym takes.used_is);
  ended_is = ended ∙ is.ended_is;
  last = λ told.
      let was : is_told side old ≡ true = sym takes.told ∙ told in
      let run : length (run_of u') ≡ length (run_of u) - n = ap (λ l. length (bytes_before_gap l)) places ∙ ap length (run-drop n (places_of u) (low was)) ∙ length-drop n (run_of u) in
      omega (arith, run, is.last was, ap length places, length-drop n (places_of u));
}

keeps : (side : Side) (old new : Http) (used given : ℕ) → Takes side old new used given → KeepsOther side old new
keeps side old new used given takes = record { used = takes.other_used; seen = takes.other_seen; told = takes.other_told }

then_keeps : (side : Side) (a b c : Http) → KeepsOther side a b → KeepsOther side b c → KeepsOther side a c
then_keeps side a b c first second = record { used = second.used ∙ first.used; seen = second.seen ∙ first.seen; told = second.told ∙ first.told }

some_next : (P : Type 0) (o : Option HttpUnit) (Q : HttpUnit → Type 0) → MatchOption o P Q → IfSome o Q
some_next P None Q m = tt
some_next P (Some one) Q m = m

-- a run was read
pub bytes_turn : (side : Side) (old new : Http) (u u' : Unread) (bytes : List ℕ) (step : Step) → bytes ≡ run_of u → Fits side old u
    → ((streams : Both Stream) (units : Both (List HttpUnit)) → StandsFor old streams units → IsLent old side (of_side side streams) bytes
    → MatchOption step.«unit» (IsAll old side (of_side side streams) bytes → next side streams units ≡ None) (λ one. next side streams units ≡ Some one))
    → ((streams : Both Stream) (units : Both (List HttpUnit)) → StandsFor old streams units → IsLent old side (of_side side streams) bytes → StandsFor new streams (add side step.«unit» units))
    → Takes side old new step.used (length bytes) → places_of u' ≡ drop step.used (places_of u) → u'.front ≡ u.front → u'.ended ≡ u.ended
    → ReadsOn side old new u u' step.«unit»
bytes_turn side old new u u' bytes step run fits found stands takes places front ended = record {
  fits = record {
    seen = omega (arith, takes.seen, ap length run, ap (λ l. length (bytes_before_gap l)) places, ap length (run-drop step.used (places_of u) low), length-drop step.used (run_of u));
    front = omega (arith, takes.used_is, fits.front, front, low, run-within (places_of u), ap length places, length-drop step.used (places_of u));
  };
  other = keeps side old new step.used (length bytes) takes;
  ended = ended;
  stands = λ streams units are is. stands streams units are (is_lent side old u bytes streams units run are is);
  «unread» = λ streams units are is. unread_passed side old new u u' (of_side side streams) step.used (length bytes) is takes places ended (λ _. low);
  next_is = by_unit step.«unit» found;
}
  where
    low : step.used ≤ length (run_of u)
    low = omega (arith, takes.within, ap length run)

    by_unit : (o : Option HttpUnit)
        → ((streams : Both Stream) (units : Both (List HttpUnit)) → StandsFor old streams units → IsLent old side (of_side side streams) bytes
        → MatchOption o (IsAll old side (of_side side streams) bytes → next side streams units ≡ None) (λ one. next side streams units ≡ Some one))
        → IfSome o (λ (one : HttpUnit). (streams : Both Stream) (units : Both (List HttpUnit)) → StandsFor old streams units
        → IsUnread side old u (of_side side streams) → next side streams units ≡ Some one)
    by_unit None f = tt
    by_unit (Some one) f = λ streams units are is. f streams units are (is_lent side old u bytes streams units run are is)

-- it was told of an end ahead
pub told_turn : (side : Side) (old mid new : Http) (u u' : Unread) (found : Option HttpUnit) → IsTold side old mid u → ReadsOn side mid new u u' found → ReadsOn side old new u u' found
told_turn side old mid new u u' found told reads = record {
  fits = reads.fits;
  other = then_keeps side old mid new told.other reads.other;
  ended = reads.ended;
  stands = λ streams units are is. let both = told.stands streams units are is in reads.stands streams units both.0 both.1;
  «unread» = λ streams units are is. let both = told.stands streams units are is in reads.«unread» streams units both.0 both.1;
  next_is = by_unit found reads.next_is;
}
  where
    by_unit : (o : Option HttpUnit)
        → IfSome o (λ (one : HttpUnit). (streams : Both Stream) (units : Both (List HttpUnit)) → StandsFor mid streams units → IsUnread side mid u (of_side side streams) → next side streams units ≡ Some one)
        → IfSome o (λ (one : HttpUnit). (streams : Both Stream) (units : Both (List HttpUnit)) → StandsFor old streams units → IsUnread side old u (of_side side streams) → next side streams units ≡ Some one)
    by_unit None f = tt
    by_unit (Some one) f = λ streams units are is. let both = told.stands streams units are is in f streams units both.0 both.1

pub told_none : (side : Side) (old mid : Http) (u u' : Unread) → IsTold side old mid u → HasNone side mid u u' → HasNone side old u u'
told_none side old mid u u' told has = record {
  none = λ streams units are is. let both = told.stands streams units are is in has.none streams units both.0 both.1;
  few = λ streams units are is. let both = told.stands streams units are is in has.few streams units both.0 both.1;
  left = λ streams units are is. let both = told.stands streams units are is in has.left streams units both.0 both.1;
}

-- one turn behind another that found nothing
pub turns : (side : Side) (a b c : Http) (u v w : Unread) (found : Option HttpUnit) → ReadsOn side a b u v None → ReadsOn side b c v w found → ReadsOn side a c u w found
turns side a b c u v w found first second = record {
  fits = second.fits;
  other = then_keeps side a b c first.other second.other;
  ended = second.ended ∙ first.ended;
  stands = λ streams units are is. second.stands streams units (first.stands streams units are is) (first.«unread» streams units are is);
  «unread» = λ streams units are is. second.«unread» streams units (first.stands streams units are is) (first.«unread» streams units are is);
  next_is = by_unit found second.next_is;
}
  where
    by_unit : (o : Option HttpUnit)
        → IfSome o (λ (one : HttpUnit). (streams : Both Stream) (units : Both (List HttpUnit)) → StandsFor b streams units → IsUnread side b v (of_side side streams) → next side streams units ≡ Some one)
        → IfSome o (λ (one : HttpUnit). (streams : Both Stream) (units : Both (List HttpUnit)) → StandsFor a streams units → IsUnread side a u (of_side side streams) → next side streams units ≡ Some one)
    by_unit None f = tt
    by_unit (Some one) f = λ streams units are is. f streams units (first.stands streams units are is) (first.«unread» streams units are is)

pub turns_none : (side : Side) (a b : Http) (u v w : Unread) → ReadsOn side a b u v None → HasNone side b v w → HasNone side a u w
turns_none side a b u v w first has = record {
  none = λ streams units are is. has.none streams units (first.stands streams units are is) (first.«unread» streams units are is);
  few = λ streams units are is. has.few streams units (first.stands streams units are is) (first.«unread» streams units are is);
  left = λ streams units are is. has.left streams units (first.stands streams units are is) (first.«unread» streams units are is);
}

-- nothing was read yet
pub no_turn : (side : Side) (reader : Http) (u : Unread) → Fits side reader u → ReadsOn side reader reader u u None
no_turn side reader u fits = record {
  fits = fits;
  other = record { used = refl; seen = refl; told = refl };
  ended = refl;
  stands = λ streams units are is. are;
  «unread» = λ streams units are is. is;
  next_is = tt;
}

-- ---- a gap

pub has_gap : (side : Side) (reader : Http) (u : Unread) (streams : Both Stream) (units : Both (List HttpUnit)) (places after : ℕ) → StandsFor reader streams units
    → IsUnread side reader u (of_side side streams) → take places (drop (length (run_of u)) (places_of u)) ≡ replicate places None
    → length (places_of u) ≡ length (run_of u) + places + after → HasGap reader side (of_side side streams) (length (run_of u)) places after
has_gap side reader u streams units places after stands is gap all = record {
  bytes_are = sym (ap (λ l. length (bytes_before_gap l)) is.places_are);
  gap = ap (take places) (sym (drop-drop (length (run_of u)) (used_of side reader) (of_side side streams).places) ∙ sym (ap (drop (length (run_of u))) is.places_are)) ∙ gap;
  front = omega (arith, all, ap length is.places_are, length-drop (used_of side reader) (of_side side streams).places, used_within reader streams units side stands);
}

pub gap_turn : (side : Side) (old new : Http) (u u' : Unread) (step : Step) (places after : ℕ) → Fits side old u → 0 < places
    → take places (drop (length (run_of u)) (places_of u)) ≡ replicate places None → length (places_of u) ≡ length (run_of u) + places + after
    → ((streams : Both Stream) (units : Both (List HttpUnit)) → StandsFor old streams units → HasGap old side (of_side side streams) (length (run_of u)) places after
    → MatchOption step.«unit» (((step.used ≡ 0) ↔ (case_of side units ≡ Held)) × (step.used ≡ 0 → next side streams units ≡ None)) (λ one. next side streams units ≡ Some one))
    → ((streams : Both Stream) (units : Both (List HttpUnit)) → StandsFor old streams units → HasGap old side (of_side side streams) (length (run_of u)) places after
    → StandsFor new streams (add side step.«unit» units))
    → Takes side old new step.used (length (run_of u) + places) → seen_of side new ≡ 0
    → places_of u' ≡ drop step.used (places_of u) → u'.front ≡ u.front → u'.ended ≡ u.ended
    → ReadsOn side old new u u' step.«unit»
gap_turn side old new u u' step places after fits some gap all found stands takes seen passed front ended = record {
  fits = record {
    seen = omega (arith, seen);
    front = omega (arith, takes.used_is, fits.front, front, takes.within, all, ap length passed, length-drop step.used (places_of u));
  };
  other = keeps side old new step.used (length (run_of u) + places) takes;
  ended = ended;
  stands = λ streams units are is. stands streams units are (has_gap side old u streams units places after are is gap all);
  «unread» = λ streams units are is. unread_passed side old new u u' (of_side side streams) step.used (length (run_of u) + places) is takes passed ended
      (λ told. absurd (omega (arith, is.last told, all, some)));
  next_is = by_unit step.«unit» found;
}
  where
    by_unit : (o : Option HttpUnit)
        → ((streams : Both Stream) (units : Both (List HttpUnit)) → StandsFor old streams units → HasGap old side (of_side side streams) (length (run_of u)) places after
        → MatchOption o (((step.used ≡ 0) ↔ (case_of side units ≡ Held)) × (step.used ≡ 0 → next side streams units ≡ None)) (λ one. next side streams units ≡ Some one))
        → IfSome o (λ (one : HttpUnit). (streams : Both Stream) (units : Both (List HttpUnit)) → StandsFor old streams units
        → IsUnread side old u (of_side side streams) → next side streams units ≡ Some one)
    by_unit None f = tt
    by_unit (Some one) f = λ streams units are is. f streams units are (has_gap side old u streams units places after are is gap all)

-- ---- where nothing was found

-- the run is all that is there, and tells nothing
pub bytes_none : (side : Side) (old mid new : Http) (u u' : Unread) (bytes : List ℕ) (used : ℕ) → bytes ≡ run_of u → IsTold side old mid u
    → ((streams : Both Stream) (units : Both (List HttpUnit)) → StandsFor mid streams units → IsLent mid side (of_side side streams) bytes
    → IsAll mid side (of_side side streams) bytes → next side streams units ≡ None)
    → used ≤ length bytes → places_of u' ≡ drop used (places_of u) → length (run_of u') ≡ length (places_of u') → length bytes - used ≤ 65536
    → length (bytes_of u'.bytes) ≤ length (places_of u') → ReadsOn side mid new u u' None → HasRead side new (length bytes - used) → HasNone side old u u'
bytes_none side old mid new u u' bytes used run told found low places whole few held reads read = record {
  none = empty;
  left = λ streams units are is.
      let both = told.stands streams units are is in
      let left = reads.«unread» streams units both.0 both.1 in
      let count : length bytes - used ≡ length (drop (used_of side new) (of_side side streams).places) =
      omega (arith, ap length left.places_are, all, ap length run, ap length places, length-drop used (places_of u)) in
      left.places_are ∙ use_what_is_read new streams units side (reads.stands streams units both.0 both.1) (empty streams units are is) (inr (subst (HasRead side new) count read));
  few = λ streams units are is. omega (arith, held, ap length places, length-drop used (places_of u), all, ap length run, few);
}
  where
    all : length (run_of u) ≡ length (places_of u)
    all = omega (
      arith,
      whole,
      low,
      ap length run,
      run-within (places_of u),
      ap length places,
      length-drop used (places_of u),
      ap (λ l. length (bytes_before_gap l)) places,
      ap length (run-drop used (places_of u) (omega (arith, low, ap length run))),
      length-drop used (run_of u),
    )

    empty : (streams : Both Stream) (units : Both (List HttpUnit)) → StandsFor old streams units → IsUnread side old u (of_side side streams) → next side streams units ≡ None
    empty streams units are is =
        let both = told.stands streams units are is in
        found streams units both.0 (is_lent side mid u bytes streams units run both.0 both.1) (record {
          front = omega (arith, all, ap length run, ap length both.1.places_are, length-drop (used_of side mid) (of_side side streams).places, used_within mid streams units side both.0);
          told = λ ended. told.told (is.ended_is ∙ ended) all;
        })

-- nothing was used of a gap: the side waits for the other
pub gap_none : (side : Side) (old : Http) (u u' : Unread) (used places after : ℕ) → used ≡ 0 → places_of u' ≡ drop used (places_of u)
    → take places (drop (length (run_of u)) (places_of u)) ≡ replicate places None → length (places_of u) ≡ length (run_of u) + places + after
    → ((streams : Both Stream) (units : Both (List HttpUnit)) → StandsFor old streams units → HasGap old side (of_side side streams) (length (run_of u)) places after
    → ((used ≡ 0) ↔ (case_of side units ≡ Held)) × (used ≡ 0 → next side streams units ≡ None))
    → length (bytes_of u'.bytes) ≤ length (places_of u') → HasNone side old u u'
gap_none side old u u' used places after is_none passed gap all found held = record {
  none = λ streams units are is. (found streams units are (has_gap side old u streams units places after are is gap all)).1 is_none;
  few = λ streams units are is.
      let f = found streams units are (has_gap side old u streams units places after are is gap all) in
      let few = few_waiting side old u streams units are is (f.0.0 is_none) (f.1 is_none) in
      omega (arith, held, few, ap length passed, length-drop used (places_of u));
  left = λ streams units are is.
      let f = found streams units are (has_gap side old u streams units places after are is gap all) in
      passed ∙ ap (λ n. drop n (places_of u)) is_none ∙ is.places_are ∙ use_what_is_read old streams units side are (f.1 is_none) (inl (f.0.0 is_none));
}

pub fits_told : (side : Side) (old mid : Http) (u : Unread) → Fits side old u → IsTold side old mid u → Fits side mid u
fits_told side old mid u fits told = record { seen = omega (arith, fits.seen, told.seen); front = omega (arith, fits.front, told.used) }

-- the reader that could not go on
pub fits_same : (side : Side) (old mid new : Http) (u : Unread) → Fits side old u → IsTold side old mid u → KeepsAll side mid new → Fits side new u × KeepsOther side old new
fits_same side old mid new u fits told keeps = (
  record { seen = omega (arith, fits.seen, told.seen, keeps.seen); front = omega (arith, fits.front, told.used, keeps.used) },
  then_keeps side old mid new told.other keeps.other,
)

pub then_fits : (side : Side) (a b c : Http) (u v w : Unread) → ReadsOn side a b u v None → Fits side c w × KeepsOther side b c → Fits side c w × KeepsOther side a c
then_fits side a b c u v w first second = (second.0, then_keeps side a b c first.other second.1)

pub keeps_same : (side : Side) (old new : Http) → IsSame old new → KeepsAll side old new
keeps_same side old new same = record {
  used = same.used side;
  seen = same.seen side;
  other = record { used = same.used (other side); seen = same.seen (other side); told = same.told (other side) };
}

pub waits_none : (side : Side) (a b : Http) (u v w : Unread) (r : Reading) → ReadsOn side a b u v None → OnWaits r (HasNone side b v w) → OnWaits r (HasNone side a u w)
waits_none side a b u v w (Found one) first has = tt
waits_none side a b u v w Waits first has = turns_none side a b u v w first has
waits_none side a b u v w Used first has = tt

pub on_err : {A E P Q : Type 0} (r : Result A E) → OnErr r P → (P → Q) → OnErr r Q
on_err (Ok a) p then = tt
on_err (Err e) p then = then p

-- fewer places than some, of which there are no more than before, are fewer than before
pub fewer_still : (reading : Reading) (after mid before : ℕ) → mid ≤ before → OnUsed reading (after < mid) → OnUsed reading (after < before)
fewer_still (Found one) after mid before most fewer = tt
fewer_still Waits after mid before most fewer = tt
fewer_still Used after mid before most fewer = omega (arith, most, fewer)
