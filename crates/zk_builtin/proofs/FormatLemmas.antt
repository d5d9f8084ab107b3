-- A text of `fmt`, up to its next verb.
use Rattle.std.proofs.Common.{◌≡◌, ◌==◌, ◌+◌, ◌<◌, ℕ, zero, suc, Bool, true, false, List, [], ◌∷◌, ◌++◌, map, take, drop, length, slice_get, Some, None, refl, sym, ap, ◌∙◌, arith, append_assoc}
use Rattle.memchr.specs.Find.{IsFirstByte, Nowhere, Passes, is_byte}
use Rattle.zk_tree.specs.Value as plain
use Rattle.zk_typed.specs.BuiltIns.{by_verb, formatted, verb_text, with_verb}

-- what formatting does at a byte
abbrev stepped : Bool → ℕ → List ℕ → List plain.Value → List ℕ
stepped t byte bytes values = elim t [ true ↦ with_verb bytes values | false ↦ byte ∷ formatted bytes values ]

not_percent : (byte : ℕ) → ((byte == 37) ≡ true → ⊥) → (byte == 37) ≡ false
not_percent byte apart = by (byte == 37) refl
  where
    by : (t : Bool) → (byte == 37) ≡ t → (byte == 37) ≡ false
    by true e = absurd (apart e)
    by false e = e

-- a text without a percent sign stays as it is
pub formatted-plain : (bytes : List ℕ) (values : List plain.Value) → Nowhere (Passes (is_byte 37) bytes) 0 (length bytes) → formatted bytes values ≡ bytes
formatted-plain [] values none = refl
formatted-plain (byte ∷ bytes) values none =
    ap (λ t. stepped t byte bytes values) (not_percent byte (none 0 (omega arith) (omega arith)))
    ∙ ap (λ text. byte ∷ text) (formatted-plain bytes values (λ k low high. none (suc k) (omega arith) (omega (arith, high))))

-- and so does one up to its first percent sign
pub formatted-at : (bytes : List ℕ) (values : List plain.Value) (at : ℕ) → at < length bytes → Nowhere (Passes (is_byte 37) bytes) 0 at → Passes (is_byte 37) bytes at
    → formatted bytes values ≡ take at bytes ++ with_verb (drop (suc at) bytes) values
formatted-at [] values at within none here = absurd (no_less within)
  where
    no_less : {n : ℕ} → n < 0 → ⊥
    no_less lt = omega (arith, lt)
formatted-at (byte ∷ bytes) values zero within none here = ap (λ t. stepped t byte bytes values) here
formatted-at (byte ∷ bytes) values (suc at) within none here =
    ap (λ t. stepped t byte bytes values) (not_percent byte (none 0 (omega arith) (omega arith)))
    ∙ ap (λ text. byte ∷ text) (formatted-at bytes values at (omega (arith, within)) (λ k low high. none (suc k) (omega arith) (omega (arith, high))) here)

-- a value in its place, and those behind it
pub drop-at : {A : Type 0} (xs : List A) (place : ℕ) (x : A) → slice_get xs place ≡ Some x → drop place xs ≡ x ∷ drop (place + 1) xs
drop-at [] place x is = cc
drop-at (y ∷ xs) zero x is = ap (λ z. z ∷ xs) (one is)
  where
    one : Some y ≡ Some x → y ≡ x
    one e = cc
drop-at (y ∷ xs) (suc place) x is =
    drop-at xs place x is ∙ ap (λ n. x ∷ drop n (y ∷ xs)) (let e : suc (place + 1) ≡ suc place + 1 = omega arith in e)

pub slice_get-map : {A B : Type 0} (f : A → B) (xs : List A) (place : ℕ) (x : A) → slice_get xs place ≡ Some x → slice_get (map f xs) place ≡ Some (f x)
slice_get-map f [] place x is = cc
slice_get-map f (y ∷ xs) zero x is = ap (λ z. Some (f z)) (one is)
  where
    one : Some y ≡ Some x → y ≡ x
    one e = cc
slice_get-map f (y ∷ xs) (suc place) x is = slice_get-map f xs place x is

-- what stands for a verb that is no percent sign
abbrev verbed : Bool → ℕ → List ℕ → List plain.Value → List ℕ
verbed t verb bytes values = elim t [ true ↦ verb ∷ formatted bytes values | false ↦ verb_text verb values ++ formatted bytes (drop 1 values) ]

pub with_verb-value : (verb : ℕ) (bytes : List ℕ) (values : List plain.Value) (place : ℕ) (value : plain.Value) → (verb == 37) ≡ false → slice_get values place ≡ Some value
    → with_verb (verb ∷ bytes) (drop place values) ≡ by_verb verb value ++ formatted bytes (drop (place + 1) values)
with_verb-value verb bytes values place value other is =
    ap (λ t. verbed t verb bytes (drop place values)) other
    ∙ ap (λ vs. verb_text verb vs ++ formatted bytes (drop 1 vs)) (drop-at values place value is)

-- what was put before a verb, and what stands for the rest
pub formatted-step : (out rest whole ahead behind : List ℕ) (values : List plain.Value) (at : ℕ) → IsFirstByte (is_byte 37) rest (Some at)
    → ahead ≡ out ++ take at rest → drop (suc at) rest ≡ behind → out ++ formatted rest values ≡ whole → ahead ++ with_verb behind values ≡ whole
formatted-step out rest whole ahead behind values at first before after is =
    ap (λ text. text ++ with_verb behind values) before
    ∙ append_assoc out (take at rest) (with_verb behind values)
    ∙ ap (λ text. out ++ text) (ap (λ text. take at rest ++ with_verb text values) (sym after) ∙ sym (formatted-at rest values at first.0.high first.0.before first.1))
    ∙ is

-- the last part
pub formatted-rest : (out rest whole : List ℕ) (values : List plain.Value) → IsFirstByte (is_byte 37) rest None → out ++ formatted rest values ≡ whole → out ++ rest ≡ whole
formatted-rest out rest whole values none is = ap (λ text. out ++ text) (sym (formatted-plain rest values none)) ∙ is
