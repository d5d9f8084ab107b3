-- One more fragment after those that a value stands for.
use Rattle.std.proofs.Common.{◌≡◌, ◌≢◌, Bool, true, false, cond, not, ◌&&◌, ◌||◌, ltb, ◌≤◌, List, [], ◌∷◌, ◌++◌, Option, None, Some, IsSome, filter, fold, refl, sym, ap, subst, ◌∙◌}
use Rattle.std.specs.Cmp.{IsEquivalence}
use Rattle.std.specs.Map.{lookup}
use Rattle.std.specs.Option.{option_map_or}
use Rattle.std.proofs.lemmas.Bool.{cases_Bool, true≢false, ltb-false}
use Rattle.std.proofs.lemmas.List.Elements.{filter-append}
use Rattle.std.proofs.lemmas.List.Sums.{fold-append}
use Rattle.std.proofs.Math.Logic.{⊎_elim}
use Rattle.std.proofs.Math.Path.{fun_ext}
use Rattle.zk_base.specs.declared.time.Moment.{Moment}
use Rattle.zk_frag.specs.declared.group.Group.{Group}
use Rattle.zk_frag.specs.declared.groups.Groups.{Groups}
use Rattle.zk_frag.specs.declared.joined.Added.{Added}
use Rattle.zk_frag.specs.declared.joined.Added.TheVariants.{Held, Ignored, Whole}
use Rattle.zk_frag.specs.declared.joined.Joined.TheVariants as joined
use Rattle.zk_frag.specs.Fragment.{Fragment, end, is_ignored}
use Rattle.zk_frag.specs.Group.{first_moment, is_later, comes_late, joined_by, is_covered, tag_of}
use Rattle.zk_frag.specs.Histories.{added_of, datagram_of, fragments_of, group_of, joined_of, open_group, open_of, without_tag}
use Rattle.zk_frag.specs.Standing.{StandsFor, whole_of}
use Rattle.zk_frag.specs.Table.{group_at, Keeps, Takes, Stays}
use Rattle.zk_frag.proofs.GroupLaws.{step}

module _ {K T : Type 0} where
  -- a list with one more element is not empty
  no_more : (zs : List (Fragment K T)) (z : Fragment K T) → [] ≡ zs ++ z ∷ [] → ⊥
  no_more [] z same = cc
  no_more (w ∷ zs) z same = cc

  -- the last of two equal lists
  same_last : (xs ys : List (Fragment K T)) (x y : Fragment K T) → xs ++ x ∷ [] ≡ ys ++ y ∷ [] → (xs ≡ ys) × (x ≡ y)
  same_last [] [] x y same = (refl, cc)
  same_last [] (b ∷ ys) x y same = absurd (no_more ys y (let rest : [] ≡ ys ++ y ∷ [] = cc in rest))
  same_last (a ∷ xs) [] x y same = absurd (no_more xs x (let rest : [] ≡ xs ++ x ∷ [] = cc in rest))
  same_last (a ∷ xs) (b ∷ ys) x y same =
      let rest = same_last xs ys x y (let tails : xs ++ x ∷ [] ≡ ys ++ y ∷ [] = cc in tails) in
      (let heads : a ≡ b = cc in ap (λ h. h ∷ xs) heads ∙ ap (λ t. b ∷ t) rest.0, rest.1)

  comes_late_since : (group : List (Fragment K T)) (fragment : Fragment K T) (since : Moment) → first_moment group ≡ Some since
      → comes_late group fragment ≡ is_later since fragment.moment
  comes_late_since [] fragment since is = cc
  comes_late_since (first ∷ rest) fragment since is = ap (λ m. is_later m fragment.moment) (let same : first.moment ≡ since = cc in same)

  -- the group that a fragment belongs to, by whether its key's group is open and not over
  joined_by_open : (held : Option (Group T)) (group : List (Fragment K T)) (fragment : Fragment K T) (is_open : Bool) → Keeps held group
      → is_open ≡ option_map_or (λ (g : Group T). not (is_later g.since fragment.moment)) held false
      → joined_by group fragment ≡ cond is_open (group ++ fragment ∷ []) (fragment ∷ [])
  joined_by_open None group fragment is_open keeps is =
      ap (λ g. joined_by g fragment) keeps ∙ ap (λ b. cond b (group ++ fragment ∷ []) (fragment ∷ [])) (sym is)
  joined_by_open (Some held) group fragment is_open keeps is =
      ap (λ late. cond late (fragment ∷ []) (group ++ fragment ∷ [])) (comes_late_since group fragment held.since keeps.since)
      ∙ turned (is_later held.since fragment.moment)
      ∙ ap (λ b. cond b (group ++ fragment ∷ []) (fragment ∷ [])) (sym is)
    where
      turned : (late : Bool) → cond late (fragment ∷ []) (group ++ fragment ∷ []) ≡ cond (not late) (group ++ fragment ∷ []) (fragment ∷ [])
      turned true = refl
      turned false = refl

  -- a fragment that counts ends within 65,535 bytes
  pub within_from_counted : (fragment : Fragment K T) → is_ignored fragment ≡ false → end fragment ≤ 65535
  within_from_counted fragment counted = by_cases fragment.was_cut counted
    where
      by_cases : (cut : Bool) → (cut || ltb 65535 (end fragment)) ≡ false → end fragment ≤ 65535
      by_cases true is = absurd (true≢false is)
      by_cases false is = ltb-false 65535 (end fragment) is

-- a group that is open is there
pub there_from_open : {T : Type 0} (held : Option (Group T)) (moment : Moment)
    → true ≡ option_map_or (λ (g : Group T). not (is_later g.since moment)) held false → IsSome held
there_from_open None moment is = absurd (true≢false is)
there_from_open (Some held) moment is = refl

-- what a fragment did is that its datagram is whole where it is covered
covered_from_whole : {T : Type 0} (tag : Option T) (b : Bool) → without_tag (cond b (Whole tag) Held) ≡ joined.Whole → b ≡ true
covered_from_whole tag true is = refl
covered_from_whole tag false is = cc

module _ {K T : Type 0} (same : K → K → Bool) where
  -- the fragment counts for the key
  abbrev counts : K → Fragment K T → Bool
  counts key fragment = same fragment.key key && not (is_ignored fragment)

  open_group-append : (key : K) (given : List (Fragment K T)) (last : Fragment K T) → (b : Bool) → counts key last ≡ b
      → open_group same key (given ++ last ∷ []) ≡ cond b (step (open_group same key given) last) (open_group same key given)
  open_group-append key given last b is =
      ap (fold step []) (filter-append (counts key) given (last ∷ []))
      ∙ fold-append step [] (fragments_of same key given) (fragments_of same key (last ∷ []))
      ∙ ap (λ c. fold step (open_group same key given) (cond c (last ∷ []) [])) is
      ∙ of_last b
    where
      of_last : (c : Bool) → fold step (open_group same key given) (cond c (last ∷ []) []) ≡ cond c (step (open_group same key given) last) (open_group same key given)
      of_last true = refl
      of_last false = refl

  added_of_counted : (given : List (Fragment K T)) (last : Fragment K T) → is_ignored last ≡ false
      → added_of same given last ≡ cond (is_covered (group_of same given last)) (Whole (tag_of (group_of same given last))) Held
  unfolding added_of
  added_of_counted given last counted =
      ap (λ b. cond b Ignored (cond (is_covered (group_of same given last)) (Whole (tag_of (group_of same given last))) Held)) counted

  -- what a fragment does that does not count
  pub answer_ignored : (given : List (Fragment K T)) (last : Fragment K T) → is_ignored last ≡ true → Ignored ≡ added_of same given last
  unfolding added_of
  answer_ignored given last ignored =
      sym (ap (λ b. cond b Ignored (cond (is_covered (group_of same given last)) (Whole (tag_of (group_of same given last))) Held)) ignored)

  -- what a fragment that counts does
  pub answer_taken : (old new : Groups K T) (given : List (Fragment K T)) (last : Fragment K T) (added : Added T) → is_ignored last ≡ false
      → Takes same old new last.key added (group_of same given last) → added ≡ added_of same given last
  answer_taken old new given last added counted takes = takes.answer ∙ sym (added_of_counted given last counted)

  -- a fragment that makes no datagram whole leaves the bytes of the last one
  pub whole_stays : (old new : Groups K T) (given : List (Fragment K T)) (last : Fragment K T) (added : Added T)
      → Takes same old new last.key added (group_of same given last) → without_tag added ≢ joined.Whole → whole_of new ≡ whole_of old
  unfolding whole_of
  whole_stays old new given last added takes other =
      let group = group_of same given last in
      takes.stays (⊎_elim (λ covered. absurd (other (ap without_tag (takes.answer ∙ ap (λ b. cond b (Whole (tag_of group)) Held) covered)))) (λ not_yet. not_yet)
      (cases_Bool (is_covered group)))

  -- the fragment goes on with the open group of its key
  pub takes_open : (old new : Groups K T) (given : List (Fragment K T)) (last : Fragment K T) (added : Added T)
      → true ≡ option_map_or (λ (g : Group T). not (is_later g.since last.moment)) (group_at same old last.key) false → StandsFor same old given
      → ((group : List (Fragment K T)) → Keeps (group_at same old last.key) group → Takes same old new last.key added (group ++ last ∷ []))
      → Takes same old new last.key added (group_of same given last)
  takes_open old new given last added is_open stands takes =
      subst (Takes same old new last.key added)
      (sym (joined_by_open (group_at same old last.key) (open_group same last.key given) last true (stands.open_groups last.key) is_open))
      (takes (open_group same last.key given) (stands.open_groups last.key))

  -- the fragment begins a group
  pub takes_begun : (old new : Groups K T) (given : List (Fragment K T)) (last : Fragment K T) (added : Added T)
      → false ≡ option_map_or (λ (g : Group T). not (is_later g.since last.moment)) (group_at same old last.key) false → StandsFor same old given
      → Takes same old new last.key added (last ∷ []) → Takes same old new last.key added (group_of same given last)
  takes_begun old new given last added is_open stands takes =
      subst (Takes same old new last.key added)
      (sym (joined_by_open (group_at same old last.key) (open_group same last.key given) last false (stands.open_groups last.key) is_open))
      takes

  -- the value that took a fragment that does not count
  pub stands_ignored : (groups : Groups K T) (given : List (Fragment K T)) (last : Fragment K T) → is_ignored last ≡ true
      → StandsFor same groups given → StandsFor same groups (given ++ last ∷ [])
  stands_ignored groups given last ignored stands = record {
    open_groups = λ key. subst (Keeps (group_at same groups key)) (sym (open_group-append key given last false (not_counted key))) (stands.open_groups key);
    whole = λ earlier latest is made.
        let parts = same_last given earlier last latest is in
        let ignored_here : is_ignored latest ≡ true = subst (λ l. is_ignored l ≡ true) parts.1 ignored in
        absurd (let two : joined.Ignored ≡ joined.Whole = ap without_tag (answer_ignored earlier latest ignored_here) ∙ made in cc);
  }
    where
      not_counted : (key : K) → counts key last ≡ false
      not_counted key = ap (λ i. same last.key key && not i) ignored ∙ and_false (same last.key key)
        where
          and_false : (c : Bool) → (c && false) ≡ false
          and_false true = refl
          and_false false = refl

  module _ (equivalence : IsEquivalence same) where
    -- keys that are equal have one group, in a table and in a history
    keeps_alike : (groups : Groups K T) (given : List (Fragment K T)) (a b : K) → same a b ≡ true
        → Keeps (group_at same groups a) (open_group same a given) → Keeps (group_at same groups b) (open_group same b given)
    unfolding group_at
    keeps_alike groups given a b alike keeps =
        subst (λ test. Keeps (lookup test groups.groups.entries) (open_group same b given)) (fun_ext (λ key. equivalence.congr a b key alike))
        (subst (λ test. Keeps (group_at same groups a) (open_of (filter (λ (fragment : Fragment K T). test fragment.key && not (is_ignored fragment)) given)))
        (fun_ext (λ key. equivalence.symm key a ∙ equivalence.congr a b key alike ∙ equivalence.symm b key)) keeps)

    -- the value that took a fragment that counts
    pub stands_taken : (old new : Groups K T) (given : List (Fragment K T)) (last : Fragment K T) (added : Added T) → is_ignored last ≡ false
        → Takes same old new last.key added (group_of same given last) → StandsFor same old given → StandsFor same new (given ++ last ∷ [])
    unfolding datagram_of
    stands_taken old new given last added counted takes stands = record {
      open_groups = λ key. ⊎_elim (λ alike. keeps_alike new (given ++ last ∷ []) last.key key alike here) (apart key) (cases_Bool (same last.key key));
      whole = λ earlier latest is made.
          let parts = same_last given earlier last latest is in
          let made_here = subst (λ l. joined_of same given l ≡ joined.Whole) (sym parts.1) (subst (λ g. joined_of same g latest ≡ joined.Whole) (sym parts.0) made) in
          takes.whole (covered_from_whole (tag_of (group_of same given last)) (is_covered (group_of same given last))
          (sym (ap without_tag (added_of_counted given last counted)) ∙ made_here))
          ∙ ap (λ g. datagram_of same g last) parts.0 ∙ ap (datagram_of same earlier) parts.1;
    }
      where
        counted_at : (key : K) (b : Bool) → same last.key key ≡ b → counts key last ≡ b
        counted_at key b is = ap (λ i. same last.key key && not i) counted ∙ ap (λ s. s && true) is ∙ and_true b
          where
            and_true : (c : Bool) → (c && true) ≡ c
            and_true true = refl
            and_true false = refl

        here : Keeps (group_at same new last.key) (open_group same last.key (given ++ last ∷ []))
        here = subst (Keeps (group_at same new last.key))
            (sym (open_group-append last.key given last true (counted_at last.key true (equivalence.refl last.key)))) takes.here

        apart : (key : K) → same last.key key ≡ false → Keeps (group_at same new key) (open_group same key (given ++ last ∷ []))
        apart key is =
            subst (λ held. Keeps held (open_group same key (given ++ last ∷ []))) (sym (takes.others key is))
            (subst (Keeps (group_at same old key)) (sym (open_group-append key given last false (counted_at key false is))) (stands.open_groups key))

    -- the value whose groups stay
    pub stands_on : (old new : Groups K T) (key : K) (given : List (Fragment K T)) → Stays same old new key → StandsFor same old given → StandsFor same new given
    stands_on old new key given stays stands = record {
      open_groups = λ other. ⊎_elim
          (λ alike. keeps_alike new given key other alike (stays.here (open_group same key given) (stands.open_groups key)))
          (λ is. subst (λ held. Keeps held (open_group same other given)) (sym (stays.others other is)) (stands.open_groups other))
          (cases_Bool (same key other));
      whole = λ earlier last is made. stays.whole ∙ stands.whole earlier last is made;
    }
