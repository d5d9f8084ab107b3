-- The open group, by how the fragments are cut into groups.
use Rattle.std.proofs.Common.{◌≡◌, ◌↔◌, ◌<◌, ◌≤◌, true, false, cond, inl, inr, List, [], ◌∷◌, ◌++◌, length, take, fold, refl, sym, ap, subst, ◌∙◌, arith, append_assoc, length-append}
use Rattle.std.proofs.lemmas.Bool.{cases_lt, true≢false}
use Rattle.std.proofs.lemmas.List.{append-nil, append_cancel_left, take-append-le}
use Rattle.std.proofs.lemmas.List.Elements.{All-push}
use Rattle.std.proofs.lemmas.List.Sums.{fold-append}
use Rattle.std.proofs.lemmas.Int.{ints}
use Rattle.std.proofs.Math.Seq.{take-append_seam, get_or-append_seam}
use Rattle.zk_base.specs.declared.time.Moment.{Moment}
use Rattle.zk_frag.specs.Fragment.{Fragment}
use Rattle.zk_frag.specs.Group.{is_covered, is_later, comes_late, joined_by}
use Rattle.zk_frag.specs.Groups.{BelongTogether, StartsLate, IsClosed, IsOpen, flatten, AreGroups, AreCutInto}
use Rattle.zk_frag.specs.Histories.{left_of, open_of}

-- no moment is 30 seconds later than itself
not_later : (moment : Moment) → is_later moment moment ≡ false
not_later moment = grind (arith, ints)

module _ {K T : Type 0} where
  -- the open group after one more fragment
  abbrev pub step : List (Fragment K T) → Fragment K T → List (Fragment K T)
  step group fragment = left_of (joined_by group fragment)

  -- Groups ----------------------------------------------------------------------------------------------------------

  -- all of a group is left that isn't whole
  left_open : (group : List (Fragment K T)) → is_covered group ≡ false → left_of group ≡ group
  left_open group not_whole = ap (λ b. cond b [] group) not_whole

  -- in fragments that belong together, what stands before one of them isn't whole
  before_next : (group : List (Fragment K T)) (next : Fragment K T) (rest : List (Fragment K T)) → BelongTogether (group ++ next ∷ rest) → is_covered group ≡ false
  before_next group next rest together =
      subst (λ g. is_covered g ≡ false) (take-append_seam group (next ∷ rest))
      (together.not_before (length group) (omega (arith, length-append group (next ∷ rest))))

  -- in fragments that belong together, each comes in time for those before it
  next_in_time : (group : List (Fragment K T)) (next : Fragment K T) (rest : List (Fragment K T)) → BelongTogether (group ++ next ∷ rest) → comes_late group next ≡ false
  next_in_time [] next rest together = refl
  next_in_time (first ∷ others) next rest together =
      let group = first ∷ others in
      subst (λ f. comes_late group f ≡ false) (get_or-append_seam group next rest next)
      (together.in_time (length group) next (omega (arith, length-append group (next ∷ rest))))

  -- the group of one fragment
  together_one : (fragment : Fragment K T) → BelongTogether (fragment ∷ [])
  together_one fragment = record {
    in_time = λ k d lt. let none : k ≡ 0 = omega arith in rw none (not_later fragment.moment);
    not_before = λ n lt. let none : n ≡ 0 = omega arith in ap (λ k. is_covered (take k (fragment ∷ []))) none;
  }

  -- a group that goes on with one more fragment
  together_more : (group : List (Fragment K T)) (fragment : Fragment K T) → IsOpen group → comes_late group fragment ≡ false
      → BelongTogether (group ++ fragment ∷ [])
  together_more [] fragment is_open in_time = together_one fragment
  together_more (first ∷ rest) fragment is_open in_time =
      let group = first ∷ rest in
      record {
        in_time = All-push (λ f. comes_late group f ≡ false) group fragment is_open.together.in_time in_time;
        not_before = λ n lt. elim (cases_lt n (length group)) [
          | inl within ↦ ap is_covered (take-append-le n group (fragment ∷ []) (omega arith)) ∙ is_open.together.not_before n within
          | inr beyond ↦
              let all : n ≡ length group = omega (arith, length-append group (fragment ∷ [])) in
              ap (λ k. is_covered (take k (group ++ fragment ∷ []))) all ∙ ap is_covered (take-append_seam group (fragment ∷ [])) ∙ is_open.not_whole
        ];
      }

  -- a group is open that has no fragment yet
  open_none : IsOpen {K = K} {T = T} []
  open_none = record {
    together = record { in_time = λ k d lt. absurd (omega arith); not_before = λ n lt. absurd (omega arith) };
    not_whole = refl;
  }

  -- There is a cutting ----------------------------------------------------------------------------------------------

  -- a way to cut fragments of which this group stays open
  record CutFor (fragments current : List (Fragment K T)) : Type 0 where
    groups : List (List (Fragment K T))
    cut : AreCutInto fragments groups current

  -- one more closed group in front
  cut_behind : (group rest current : List (Fragment K T)) → IsClosed group rest → CutFor rest current → CutFor (group ++ rest) current
  cut_behind group rest current closed found = record {
    groups = group ∷ found.groups;
    cut = record {
      whole = ap (λ r. group ++ r) found.cut.whole ∙ sym (append_assoc group (flatten found.groups) current);
      groups_are = (subst (IsClosed group) found.cut.whole closed, found.cut.groups_are);
    };
  }

  -- fragments that belong together, whole or not, and others behind them
  cut_after : (group rest : List (Fragment K T)) → BelongTogether group
      → ((was : List (Fragment K T)) → IsOpen was → CutFor (was ++ rest) (fold step was rest))
      → CutFor (group ++ rest) (fold step (left_of group) rest)
  cut_after group rest together go_on =
      elim (is_covered group) as (λ b. is_covered group ≡ b → CutFor (group ++ rest) (fold step (cond b [] group) rest)) [
        | true ↦ λ is. cut_behind group rest (fold step [] rest) (record { together = together; ended = inl is }) (go_on [] open_none)
        | false ↦ λ is. go_on group (record { together = together; not_whole = is })
      ] refl

  -- an open group, and others behind it
  cut_from : (rest group : List (Fragment K T)) → IsOpen group → CutFor (group ++ rest) (fold step group rest)
  cut_from [] group is_open = record {
    groups = [];
    cut = record { whole = append-nil group; groups_are = is_open };
  }
  cut_from (next ∷ rest) group is_open =
      elim (comes_late group next) as (λ b. comes_late group next ≡ b
      → CutFor (group ++ next ∷ rest) (fold step (left_of (cond b (next ∷ []) (group ++ next ∷ []))) rest)) [
        | true ↦ λ late. cut_behind group (next ∷ rest) (fold step (left_of (next ∷ [])) rest) (record { together = is_open.together; ended = inr late })
            (cut_after (next ∷ []) rest (together_one next) (cut_from rest))
        | false ↦ λ in_time.
            subst (λ r. CutFor r (fold step (left_of (group ++ next ∷ [])) rest)) (append_assoc group (next ∷ []) rest)
            (cut_after (group ++ next ∷ []) rest (together_more group next is_open in_time) (cut_from rest))
      ] refl

  -- Each cutting leaves the same group ------------------------------------------------------------------------------

  -- the steps over fragments that belong together
  fold_together : (rest group : List (Fragment K T)) → BelongTogether (group ++ rest) → fold step (left_of group) rest ≡ left_of (group ++ rest)
  fold_together [] group together = sym (ap left_of (append-nil group))
  fold_together (next ∷ rest) group together =
      ap (λ g. fold step (step g next) rest) (left_open group (before_next group next rest together))
      ∙ ap (λ b. fold step (left_of (cond b (next ∷ []) (group ++ next ∷ []))) rest) (next_in_time group next rest together)
      ∙ fold_together rest (group ++ next ∷ []) (subst BelongTogether (sym (append_assoc group (next ∷ []) rest)) together)
      ∙ ap left_of (append_assoc group (next ∷ []) rest)

  -- the steps over what stands behind a closed group begin anew
  fold_closed : (group rest : List (Fragment K T)) → IsClosed group rest → fold step (left_of group) rest ≡ fold step [] rest
  fold_closed group rest closed = elim (closed.ended) [ inl whole ↦ ap (λ b. fold step (cond b [] group) rest) whole | inr late ↦ behind rest late ]
    where
      behind : (rest : List (Fragment K T)) → StartsLate group rest → fold step (left_of group) rest ≡ fold step [] rest
      behind [] late = absurd late
      behind (next ∷ others) late =
          elim (is_covered group) as (λ b. fold step (cond b [] group) (next ∷ others) ≡ fold step [] (next ∷ others)) [
            | true ↦ refl
            | false ↦ ap (λ b. fold step (left_of (cond b (next ∷ []) (group ++ next ∷ []))) others) late
          ]

  -- the steps over fragments that are cut leave the current group
  fold_cut : (groups : List (List (Fragment K T))) (current : List (Fragment K T)) → AreGroups groups current → open_of (flatten groups ++ current) ≡ current
  fold_cut [] current is_open = fold_together current [] is_open.together ∙ ap (λ b. cond b [] current) is_open.not_whole
  fold_cut (group ∷ groups) current are =
      let rest = flatten groups ++ current in
      ap open_of (append_assoc group (flatten groups) current)
      ∙ fold-append step [] group rest
      ∙ ap (λ g. fold step g rest) (fold_together group [] are.0.together)
      ∙ fold_closed group rest are.0
      ∙ fold_cut groups current are.1

  -- the open group is the one that every cutting leaves
  pub open_by_cutting : (fragments current : List (Fragment K T)) → (open_of fragments ≡ current) ↔ ((groups : List (List (Fragment K T))) × AreCutInto fragments groups current)
  open_by_cutting fragments current = (
    λ is. let found = subst (CutFor fragments) is (cut_from fragments [] open_none) in (found.groups, found.cut),
    λ (groups, cut). ap open_of cut.whole ∙ fold_cut groups current cut.groups_are,
  )

  -- There is no other cutting ---------------------------------------------------------------------------------------

  -- a longer front of one list goes on behind the shorter
  goes_on : (front rest longer others : List (Fragment K T)) → front ++ rest ≡ longer ++ others → length front < length longer
      → (next : Fragment K T) × (more : List (Fragment K T)) × (longer ≡ front ++ next ∷ more) × (rest ≡ next ∷ more ++ others)
  goes_on [] rest [] others same lt = absurd (omega arith)
  goes_on [] rest (next ∷ more) others same lt = (next, more, refl, same)
  goes_on (first ∷ front) rest [] others same lt = absurd (omega arith)
  goes_on (first ∷ front) rest (head ∷ longer) others same lt =
      let found = goes_on front rest longer others (cc) (omega arith) in
      (found.0, found.1, cc (found.2), found.3)

  -- a closed group doesn't go on with the next fragment
  goes_no_further : (group : List (Fragment K T)) (next : Fragment K T) (rest more : List (Fragment K T)) → IsClosed group (next ∷ rest)
      → BelongTogether (group ++ next ∷ more) → ⊥
  goes_no_further group next rest more closed together = elim (closed.ended) [
    | inl whole ↦ true≢false (sym whole ∙ before_next group next more together)
    | inr late ↦ true≢false (sym late ∙ next_in_time group next more together)
  ]

  -- fragments that belong together are no more than those of a closed group in their place
  closed_longest : (group rest front others : List (Fragment K T)) → IsClosed group rest → BelongTogether front → group ++ rest ≡ front ++ others
      → length front ≤ length group
  closed_longest group rest front others closed together same = elim (cases_lt (length group) (length front)) [
    | inl lt ↦
        let found = goes_on group rest front others same lt in
        absurd (goes_no_further group found.0 (found.1 ++ others) found.1 (subst (IsClosed group) found.3 closed) (subst BelongTogether found.2 together))
    | inr ge ↦ ge
  ]

  -- fronts of one length
  same_front : (front rest other others : List (Fragment K T)) → front ++ rest ≡ other ++ others → length front ≡ length other → front ≡ other
  same_front front rest other others same size =
      sym (take-append_seam front rest) ∙ ap (take (length front)) same ∙ ap (λ n. take n (other ++ others)) size ∙ take-append_seam other others

  -- what an open group has stands in front of no closed one
  no_more_groups : (current group rest : List (Fragment K T)) → IsOpen current → IsClosed group rest → current ≡ group ++ rest → ⊥
  no_more_groups current group [] is_open closed same = elim (closed.ended) [
    | inl whole ↦ true≢false (sym whole ∙ ap is_covered (sym (same ∙ append-nil group)) ∙ is_open.not_whole)
    | inr late ↦ late
  ]
  no_more_groups current group (next ∷ rest) is_open closed same = goes_no_further group next rest rest closed (subst BelongTogether same is_open.together)

  -- two cuttings of the same fragments
  same_groups : (groups others : List (List (Fragment K T))) (current : List (Fragment K T)) → AreGroups groups current → AreGroups others current
      → flatten groups ++ current ≡ flatten others ++ current → groups ≡ others
  same_groups [] [] current are other_are same = refl
  same_groups [] (group ∷ others) current are other_are same =
      absurd (no_more_groups current group (flatten others ++ current) are other_are.0 (same ∙ append_assoc group (flatten others) current))
  same_groups (group ∷ groups) [] current are other_are same =
      absurd (no_more_groups current group (flatten groups ++ current) other_are are.0 (sym same ∙ append_assoc group (flatten groups) current))
  same_groups (group ∷ groups) (other ∷ others) current are other_are same =
      let rest = flatten groups ++ current in
      let other_rest = flatten others ++ current in
      let whole = sym (append_assoc group (flatten groups) current) ∙ same ∙ append_assoc other (flatten others) current in
      let upper = closed_longest group rest other other_rest are.0 other_are.0.together whole in
      let lower = closed_longest other other_rest group rest other_are.0 are.0.together (sym whole) in
      let here : group ≡ other = same_front group rest other other_rest whole (omega arith) in
      let behind = append_cancel_left group rest other_rest (whole ∙ ap (λ g. g ++ other_rest) (sym here)) in
      let later = same_groups groups others current are.1 other_are.1 behind in
      cc (here, later)

  -- there is one cutting only
  pub one_cutting : (fragments current : List (Fragment K T)) (groups others : List (List (Fragment K T)))
      → AreCutInto fragments groups current → AreCutInto fragments others current → groups ≡ others
  one_cutting fragments current groups others cut other_cut =
      same_groups groups others current cut.groups_are other_cut.groups_are (sym cut.whole ∙ other_cut.whole)
