-- Parts at the front of a text.
use Rattle.std.proofs.Common.{◌≡◌, ℕ, ◌+◌, ◌≤◌, Bool, true, false, cond, List, [], ◌∷◌, ◌++◌, length, take, drop, Option, Some, refl, sym, ap, subst, ◌∙◌, arith}
use Rattle.std.specs.List.{AllPass, take_while, prefix_len}
use Rattle.std.proofs.lemmas.List.Elements.{All-nil, All-cons, All-head, All-tail}
use Rattle.std.proofs.lemmas.List.Sums.{take_while-cons}
use Rattle.std.proofs.Math.Seq.{drop-append_seam, take-append_seam}
use Rattle.zk_tree.specs.declared.token.TokenKind.{TokenKind}
use Rattle.zk_token.specs.TokenForms.{IsLongest}

-- What is read is no shorter than a part, and where it is as long it is this kind.
pub record IsReadAtLeast (reading : Option (TokenKind × ℕ)) (kind : TokenKind) (part : List ℕ) : Type 0 where
  pub read : TokenKind
  pub len : ℕ
  pub is : reading ≡ Some (read, len)
  pub size : length part ≤ len
  pub same : len ≡ length part → read ≡ kind

-- two parts at the front of a text that are as long are the same
pub same_front : (text one two : List ℕ) (rest others : List ℕ) → text ≡ one ++ rest → text ≡ two ++ others → length one ≡ length two → (one ≡ two) × (rest ≡ others)
same_front text one two rest others first second size =
    let here : one ++ rest ≡ two ++ others = sym first ∙ second in (
      sym (take-append_seam one rest) ∙ ap (λ n. take n (one ++ rest)) size ∙ ap (take (length two)) here ∙ take-append_seam two others,
      sym (drop-append_seam one rest) ∙ ap (λ n. drop n (one ++ rest)) size ∙ ap (drop (length two)) here ∙ drop-append_seam two others,
    )

-- the longest part that fits is one
pub same_longest : (Fits : List ℕ → List ℕ → Type 0) (text one two : List ℕ) (rest others : List ℕ) → IsLongest Fits text one rest → IsLongest Fits text two others
    → (one ≡ two) × (rest ≡ others)
same_longest Fits text one two rest others first second =
    let more : length one ≤ length two = second.longest one rest first.whole first.fits in
    let less : length two ≤ length one = first.longest two others second.whole second.fits in
    same_front text one two rest others first.whole second.whole (omega arith)

-- the front of a text is what its length takes
pub front_taken : (text part rest : List ℕ) (len : ℕ) → text ≡ part ++ rest → len ≡ length part → take len text ≡ part
front_taken text part rest len whole size = ap (λ n. take n text) size ∙ ap (take (length part)) whole ∙ take-append_seam part rest

-- Elements from the front that pass a test ------------------------------------------------------------------------

Passes : (ℕ → Bool) → ℕ → Type 0
Passes p byte = p byte ≡ true

-- one more of them
pub take_while-more : (p : ℕ → Bool) (byte : ℕ) (rest : List ℕ) → p byte ≡ true → take_while p (byte ∷ rest) ≡ byte ∷ take_while p rest
take_while-more p byte rest h = take_while-cons p byte rest ∙ ap (λ b. cond b (byte ∷ take_while p rest) []) h

pub take_while-passes : (p : ℕ → Bool) (text : List ℕ) → AllPass p (take_while p text)
unfolding Passes
take_while-passes p [] = All-nil (Passes p)
take_while-passes p (byte ∷ rest) =
    subst (AllPass p) (sym (take_while-cons p byte rest))
    (elim (p byte) as (λ b. p byte ≡ b → AllPass p (cond b (byte ∷ take_while p rest) [])) [
      | true ↦ λ h. All-cons (Passes p) byte (take_while p rest) h (take_while-passes p rest)
      | false ↦ λ h. All-nil (Passes p)
    ] refl)

-- elements that pass, and then those behind them
pub prefix_len-passed : (p : ℕ → Bool) (part rest : List ℕ) → AllPass p part → prefix_len p (part ++ rest) ≡ length part + prefix_len p rest
unfolding Passes
prefix_len-passed p [] rest pass = omega arith
prefix_len-passed p (byte ∷ part) rest pass =
    let others = prefix_len-passed p part rest (All-tail (Passes p) byte part pass) in
    rw (All-head (Passes p) byte part pass) (omega (arith, others))

-- the first of those behind them doesn't pass
pub prefix_len-stops : (p : ℕ → Bool) (part : List ℕ) (stop : ℕ) (rest : List ℕ) → AllPass p part → p stop ≡ false → prefix_len p (part ++ stop ∷ rest) ≡ length part
prefix_len-stops p part stop rest pass stops =
    let behind : prefix_len p (stop ∷ rest) ≡ 0 = rw stops refl in
    omega (arith, prefix_len-passed p part (stop ∷ rest) pass, behind)

-- two runs of elements that pass, each with one behind it that doesn't, are the same
pub same_run : (p : ℕ → Bool) (one two : List ℕ) (stop end : ℕ) (rest others : List ℕ) → AllPass p one → AllPass p two → p stop ≡ false → p end ≡ false
    → one ++ stop ∷ rest ≡ two ++ end ∷ others → (one ≡ two) × (stop ∷ rest ≡ end ∷ others)
same_run p one two stop end rest others first second stops ends same =
    let size : length one ≡ length two = sym (prefix_len-stops p one stop rest first stops) ∙ ap (prefix_len p) same ∙ prefix_len-stops p two end others second ends in
    same_front (one ++ stop ∷ rest) one two (stop ∷ rest) (end ∷ others) refl same size
