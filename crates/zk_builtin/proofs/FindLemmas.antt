-- The first place of a text in another.
use Rattle.std.proofs.Common.{◌≡◌, ◌+◌, ◌<◌, ℕ, zero, suc, Bool, true, false, ◌&&◌, List, [], ◌∷◌, length, get_or, Option, Some, None, refl, sym, ap, ◌∙◌, arith, true≢false, eqb}
use Rattle.std.specs.List.{starts_with}
use Rattle.std.proofs.lemmas.Bool.Decides.{Decides-eqb}
use Rattle.memchr.specs.Find.{FindsNeedle, Nowhere, OccursAt}
use Rattle.zk_typed.specs.BuiltIns.{after, strstr}

no_less : {n : ℕ} → n < 0 → ⊥
no_less lt = omega (arith, lt)

-- a text begins with another where that stands at its first place
begins-occurs : (hay needle : List ℕ) → starts_with eqb hay needle ≡ true → OccursAt hay needle 0
begins-occurs hay [] e = record { fits = omega arith; reads = λ j lt. absurd (no_less lt) }
begins-occurs [] (n ∷ needle) e = absurd (true≢false (sym e))
begins-occurs (h ∷ hay) (n ∷ needle) e = by (eqb n h) refl e (λ rest. begins-occurs hay needle rest)
  where
    reads : n ≡ h → OccursAt hay needle 0 → (j : ℕ) → j < length (n ∷ needle) → get_or (h ∷ hay) (0 + j) 0 ≡ get_or (n ∷ needle) j 0
    reads same occurs zero lt = sym same
    reads same occurs (suc j) lt =
        ap (λ k. get_or (h ∷ hay) k 0) (let e : 0 + suc j ≡ suc (0 + j) = omega arith in e) ∙ occurs.reads j (omega (arith, lt))

    by : (t : Bool) → eqb n h ≡ t → (eqb n h && starts_with eqb hay needle) ≡ true → (starts_with eqb hay needle ≡ true → OccursAt hay needle 0) → OccursAt (h ∷ hay) (n ∷ needle) 0
    by true t e others =
        let occurs = others (sym (ap (λ b. b && starts_with eqb hay needle) t) ∙ e) in
        record { fits = let f = occurs.fits in omega (arith, f); reads = reads ((Decides-eqb n h).0 t) occurs }
    by false t e others = absurd (true≢false (sym e ∙ ap (λ b. b && starts_with eqb hay needle) t))

occurs-begins : (hay needle : List ℕ) → OccursAt hay needle 0 → starts_with eqb hay needle ≡ true
occurs-begins hay [] occurs = refl
occurs-begins [] (n ∷ needle) occurs = let f = occurs.fits in absurd (omega (arith, f))
occurs-begins (h ∷ hay) (n ∷ needle) occurs =
    let first : h ≡ n = occurs.reads 0 (omega arith) in
    ap (λ b. b && starts_with eqb hay needle) ((Decides-eqb n h).1 (sym first))
    ∙ occurs-begins hay needle (record {
      fits = let f = occurs.fits in omega (arith, f);
      reads = λ j lt. ap (λ k. get_or (h ∷ hay) k 0) (let e : suc (0 + j) ≡ 0 + suc j = omega arith in e) ∙ occurs.reads (suc j) (omega (arith, lt));
    })

-- one place further
occurs-behind : (b : ℕ) (hay needle : List ℕ) (k : ℕ) → OccursAt hay needle k → OccursAt (b ∷ hay) needle (suc k)
occurs-behind b hay needle k occurs = record {
  fits = let f = occurs.fits in omega (arith, f);
  reads = λ j lt. ap (λ i. get_or (b ∷ hay) i 0) (let e : suc k + j ≡ suc (k + j) = omega arith in e) ∙ occurs.reads j lt;
}

occurs-before : (b : ℕ) (hay needle : List ℕ) (k : ℕ) → OccursAt (b ∷ hay) needle (suc k) → OccursAt hay needle k
occurs-before b hay needle k occurs = record {
  fits = let f = occurs.fits in omega (arith, f);
  reads = λ j lt. ap (λ i. get_or (b ∷ hay) i 0) (let e : suc (k + j) ≡ suc k + j = omega arith in e) ∙ occurs.reads j lt;
}

at_none : (needle : List ℕ) → (OccursAt [] needle 0 → ⊥) → strstr [] needle ≡ 0
at_none [] no_place = absurd (no_place (record { fits = omega arith; reads = λ j lt. absurd (no_less lt) }))
at_none (n ∷ needle) no_place = refl

at_nothing : (needle : List ℕ) → OccursAt [] needle 0 → strstr [] needle ≡ 1
at_nothing [] occurs = refl
at_nothing (n ∷ needle) occurs = let f = occurs.fits in absurd (omega (arith, f))

-- what strstr does at a byte
abbrev chosen : Bool → ℕ → ℕ
chosen t others = elim t [ true ↦ 1 | false ↦ after others ]

not_begun : (hay needle : List ℕ) → (OccursAt hay needle 0 → ⊥) → starts_with eqb hay needle ≡ false
not_begun hay needle no_place = by (starts_with eqb hay needle) refl
  where
    by : (t : Bool) → starts_with eqb hay needle ≡ t → starts_with eqb hay needle ≡ false
    by true e = absurd (no_place (begins-occurs hay needle e))
    by false e = e

pub strstr-none : (hay needle : List ℕ) → Nowhere (OccursAt hay needle) 0 (length hay + 1) → strstr hay needle ≡ 0
strstr-none [] needle none = at_none needle (none 0 (omega arith) (omega arith))
strstr-none (b ∷ hay) needle none =
    ap (λ t. chosen t (strstr hay needle)) (not_begun (b ∷ hay) needle (none 0 (omega arith) (omega arith)))
    ∙ ap after (strstr-none hay needle (λ k low high occurs. none (suc k) (omega arith) (omega (arith, high)) (occurs-behind b hay needle k occurs)))

pub strstr-some : (hay needle : List ℕ) (k : ℕ) → OccursAt hay needle k → Nowhere (OccursAt hay needle) 0 k → strstr hay needle ≡ suc k
strstr-some [] needle zero occurs none = at_nothing needle occurs
strstr-some [] needle (suc k) occurs none = let f = occurs.fits in absurd (omega (arith, f))
strstr-some (b ∷ hay) needle zero occurs none = ap (λ t. chosen t (strstr hay needle)) (occurs-begins (b ∷ hay) needle occurs)
strstr-some (b ∷ hay) needle (suc k) occurs none =
    ap (λ t. chosen t (strstr hay needle)) (not_begun (b ∷ hay) needle (none 0 (omega arith) (omega arith)))
    ∙ ap after (strstr-some hay needle k (occurs-before b hay needle k occurs)
    (λ j low high there. none (suc j) (omega arith) (omega (arith, high)) (occurs-behind b hay needle j there)))

-- the place that a search gives
abbrev pub place_of : Option ℕ → ℕ
place_of None = 0
place_of (Some k) = k + 1

pub strstr-found : (hay needle : List ℕ) (r : Option ℕ) → FindsNeedle hay needle 0 r → strstr hay needle ≡ place_of r
strstr-found hay needle None finds = strstr-none hay needle finds
strstr-found hay needle (Some k) finds = strstr-some hay needle k finds.1 finds.0.before ∙ (let e : suc k ≡ k + 1 = omega arith in e)
