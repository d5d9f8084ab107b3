-- Slots that are found by what they have, with one more and with one less.
use Rattle.std.proofs.Common.{◌≡◌, ◌≢◌, ℕ, Bool, true, false, Option, None, Some, sym, ap, subst, ◌∙◌, ⊎_elim}
use Rattle.std.proofs.lemmas.Bool.{cases_Bool, cases_eq, true≢false}
use Rattle.zk_conn.specs.Table.{Matches}

one : {A : Type 0} {o : Option A} (a b : A) → o ≡ Some a → o ≡ Some b → a ≡ b
one a b first second = cc

not_both : {A : Type 0} {o : Option A} (a : A) → o ≡ None → o ≡ Some a → ⊥
not_both a none some = cc

module _ {K : Type 0} (same : K → K → Bool) (same_is : (a b : K) → same a b ≡ true → a ≡ b) (itself : (a : K) → same a a ≡ true)
    (find find' : K → Option ℕ) (at at' : ℕ → Option K) (key : K) (slot : ℕ) (matches : Matches find at)
    (other_keys : (other : K) → same key other ≡ false → find' other ≡ find other) (others : (other : ℕ) → other ≢ slot → at' other ≡ at other) where
  -- one more
  pub matches_more : find key ≡ None → at slot ≡ None → find' key ≡ Some slot → at' slot ≡ Some key → Matches find' at'
  matches_more new vacant found there = record {
    there = λ k s is. ⊎_elim
        (λ yes. let k_is = same_is key k yes in
        let s_is = one s slot (subst (λ x. find' x ≡ Some s) (sym k_is) is) found in
        subst (λ x. at' x ≡ Some k) (sym s_is) (there ∙ ap Some k_is))
        (λ no. let before = matches.there k s (sym (other_keys k no) ∙ is) in
        others s (λ here. not_both k vacant (subst (λ x. at x ≡ Some k) here before)) ∙ before)
        (cases_Bool (same key k));
    found = λ s k is. ⊎_elim
        (λ here. let k_is = one key k there (subst (λ x. at' x ≡ Some k) here is) in
        subst (λ x. find' x ≡ Some s) k_is (found ∙ ap Some (sym here)))
        (λ apart. let before = matches.found s k (sym (others s apart) ∙ is) in
        ⊎_elim
        (λ yes. absurd (not_both s new (subst (λ x. find x ≡ Some s) (sym (same_is key k yes)) before)))
        (λ no. other_keys k no ∙ before)
        (cases_Bool (same key k)))
        (cases_eq s slot);
  }

  -- one less
  pub matches_less : at slot ≡ Some key → find' key ≡ None → at' slot ≡ None → Matches find' at'
  matches_less there gone vacant = record {
    there = λ k s is. ⊎_elim
        (λ yes. absurd (not_both s gone (subst (λ x. find' x ≡ Some s) (sym (same_is key k yes)) is)))
        (λ no. let before = matches.there k s (sym (other_keys k no) ∙ is) in
        others s (λ here. differ k no (one key k there (subst (λ x. at x ≡ Some k) here before))) ∙ before)
        (cases_Bool (same key k));
    found = λ s k is. ⊎_elim
        (λ here. absurd (not_both k vacant (subst (λ x. at' x ≡ Some k) here is)))
        (λ apart. let before = matches.found s k (sym (others s apart) ∙ is) in
        ⊎_elim
        (λ yes. absurd (apart (one s slot (subst (λ x. find x ≡ Some s) (sym (same_is key k yes)) before) (matches.found slot key there))))
        (λ no. other_keys k no ∙ before)
        (cases_Bool (same key k)))
        (cases_eq s slot);
  }
    where
      differ : (k : K) → same key k ≡ false → key ≡ k → ⊥
      differ k apart is = true≢false (sym (itself key) ∙ ap (same key) is ∙ apart)
