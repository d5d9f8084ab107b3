-- The separators at the front of a text are the longest that stand there.
use Rattle.std.proofs.Common.{◌≡◌, ◌≢◌, ℕ, ◌+◌, ◌≤◌, Bool, true, false, not, ◌&&◌, ◌||◌, ◌==◌, ◌⊎◌, inl, inr, cond, List, [], ◌∷◌, ◌++◌, length, take, slice_index, refl, sym, ap, subst, ◌∙◌, arith, one-add, length-append, append_assoc}
use Rattle.std.specs.List.{All, flat_map}
use Rattle.std.proofs.lemmas.Bool.{eqb-true, ne_eqb}
use Rattle.std.proofs.lemmas.List.Elements.{All-nil, All-cons, All-head, All-tail}
use Rattle.zk_token.specs.Words.{comment_after, separates, separators_after, separators}
use Rattle.zk_token.specs.TokenForms.{Separator, Blank, Tab, LineFeed, CarriageReturnLineFeed, Comment, separator_bytes, IsSeparator, AreSeparators}
use Rattle.zk_token.proofs.ByteTests.{both, differs}

-- The longest -----------------------------------------------------------------------------------------------------

-- a byte that a comment may hold
InComment : ℕ → Type 0
InComment byte = byte ≢ 10

-- in an open comment no fewer bytes are passed over
grow_step : (newline hash separating : Bool) (count : Bool → ℕ) → count false ≤ count true
    → cond ((hash && not newline) || separating) (1 + count (hash && not newline)) 0 ≤ cond (not newline || separating) (1 + count (not newline)) 0
grow_step true true separating count more = omega arith
grow_step true false separating count more = omega arith
grow_step false true separating count more = omega arith
grow_step false false true count more = omega arith
grow_step false false false count more = omega arith

separators_after-le : (text : List ℕ) → separators_after false text ≤ separators_after true text
separators_after-le [] = omega arith
separators_after-le (byte ∷ rest) =
    grow_step (byte == 10) (byte == 35) (separates byte rest) (λ comment. separators_after comment rest) (separators_after-le rest)

-- a comment's text is passed over
separators_after-comment : (text rest : List ℕ) → All InComment text → separators_after true (text ++ rest) ≡ length text + separators_after true rest
unfolding InComment
separators_after-comment [] rest passes = omega arith
separators_after-comment (byte ∷ text) rest passes =
    let other : byte ≢ 10 = All-head InComment byte text passes in
    rw (ne_eqb byte 10 other) (let further = separators_after-comment text rest (All-tail InComment byte text passes) in omega (arith, further))

-- separators at the front of a text are passed over
separators-pass : (found : List Separator) (others : List ℕ) → All IsSeparator found
    → length (flat_map separator_bytes found) ≤ separators_after false (flat_map separator_bytes found ++ others)
unfolding InComment
separators-pass [] others are = omega arith
separators-pass (Blank ∷ found) others are =
    let further = separators-pass found others (All-tail IsSeparator Blank found are) in omega (arith, further)
separators-pass (Tab ∷ found) others are =
    let further = separators-pass found others (All-tail IsSeparator Tab found are) in omega (arith, further)
separators-pass (LineFeed ∷ found) others are =
    let further = separators-pass found others (All-tail IsSeparator LineFeed found are) in omega (arith, further)
separators-pass (CarriageReturnLineFeed ∷ found) others are =
    let further = separators-pass found others (All-tail IsSeparator CarriageReturnLineFeed found are) in omega (arith, further)
separators-pass (Comment text ∷ found) others are =
    let further = separators-pass found others (All-tail IsSeparator (Comment text) found are) in
    let grown = separators_after-le (flat_map separator_bytes found ++ others) in
    let passed = separators_after-comment text (flat_map separator_bytes found ++ others) (All-head IsSeparator (Comment text) found are) in
    let size = length-append text (flat_map separator_bytes found) in
    rw (append_assoc text (flat_map separator_bytes found) others) (omega (arith, further, grown, passed, size))

pub longest_separators : (part others : List ℕ) → AreSeparators part → length part ≤ separators (part ++ others)
longest_separators part others (found, are, is) =
    let P : List ℕ → Type 0 = λ bytes. length bytes ≤ separators (bytes ++ others) in
    subst P (sym is) (separators-pass found others are)

-- They are separators ---------------------------------------------------------------------------------------------

no_separators : AreSeparators []
no_separators = ([], All-nil IsSeparator, refl)

-- one more in front of them
one_separator : (separator : Separator) (bytes : List ℕ) → IsSeparator separator → AreSeparators bytes → AreSeparators (separator_bytes separator ++ bytes)
one_separator separator bytes is (found, are, same) =
    (separator ∷ found, All-cons IsSeparator separator found is are, ap (λ others. separator_bytes separator ++ others) same)

-- the rest of an open comment, and separators behind it
record IsCommentEnd (bytes : List ℕ) : Type 0 where
  text : List ℕ
  behind : List ℕ
  whole : bytes ≡ text ++ behind
  comment : All InComment text
  separators : AreSeparators behind

comment_ends : (bytes : List ℕ) → AreSeparators bytes → IsCommentEnd bytes
comment_ends bytes are = record { text = []; behind = bytes; whole = refl; comment = All-nil InComment; separators = are }

comment_goes_on : (byte : ℕ) (bytes : List ℕ) → byte ≢ 10 → IsCommentEnd bytes → IsCommentEnd (byte ∷ bytes)
unfolding InComment
comment_goes_on byte bytes other end = record {
  text = byte ∷ end.text;
  behind = end.behind;
  whole = ap (λ others. byte ∷ others) end.whole;
  comment = All-cons InComment byte end.text other end.comment;
  separators = end.separators;
}

comment_begins : (bytes : List ℕ) → IsCommentEnd bytes → AreSeparators (35 ∷ bytes)
unfolding InComment
comment_begins bytes end =
    let from : AreSeparators (35 ∷ (end.text ++ end.behind)) = one_separator (Comment end.text) end.behind end.comment end.separators in
    subst (λ others. AreSeparators (35 ∷ others)) (sym end.whole) from

-- an LF at the front is a separator of its own, and with a CR before it another
line_end_widened : (bytes : List ℕ) (found : List Separator) → All IsSeparator found → 10 ∷ bytes ≡ flat_map separator_bytes found → AreSeparators (13 ∷ 10 ∷ bytes)
line_end_widened bytes [] are same = absurd (let never : ⊥ = cc in never)
line_end_widened bytes (Blank ∷ found) are same = absurd (let never : ⊥ = cc in never)
line_end_widened bytes (Tab ∷ found) are same = absurd (let never : ⊥ = cc in never)
line_end_widened bytes (LineFeed ∷ found) are same =
    (CarriageReturnLineFeed ∷ found, All-cons IsSeparator CarriageReturnLineFeed found tt (All-tail IsSeparator LineFeed found are), ap (λ others. 13 ∷ others) same)
line_end_widened bytes (CarriageReturnLineFeed ∷ found) are same = absurd (let never : ⊥ = cc in never)
line_end_widened bytes (Comment text ∷ found) are same = absurd (let never : ⊥ = cc in never)

-- the bytes that are passed over at the front of a text
passed_over : Bool → List ℕ → List ℕ
passed_over comment text = take (separators_after comment text) text

one_passed : (byte count : ℕ) (rest : List ℕ) → take (1 + count) (byte ∷ rest) ≡ byte ∷ take count rest
one_passed byte count rest = rw one-add refl

-- a CR with an LF behind it
carriage_return : (rest : List ℕ) → slice_index rest 0 ≡ 10 → AreSeparators (passed_over false rest) → AreSeparators (13 ∷ passed_over false rest)
unfolding passed_over
carriage_return [] feed are = absurd (let never : ⊥ = cc in never)
carriage_return (byte ∷ rest) feed are =
    let P : ℕ → Type 0 = λ b. AreSeparators (take (separators_after false (b ∷ rest)) (b ∷ rest)) → AreSeparators (13 ∷ take (separators_after false (b ∷ rest)) (b ∷ rest)) in
    let at_feed : P 10 = λ (found, all, same).
    subst (λ bytes. AreSeparators (13 ∷ bytes)) (sym (one_passed 10 (separators_after false rest) rest))
    (line_end_widened (passed_over false rest) found all (sym (one_passed 10 (separators_after false rest) rest) ∙ same)) in
    subst P (sym feed) at_feed are

one_of_four : (a b c d : Bool) → (a || b || c || d) ≡ true → (a ≡ true) ⊎ ((b ≡ true) ⊎ ((c ≡ true) ⊎ (d ≡ true)))
one_of_four true b c d h = inl refl
one_of_four false true c d h = inr (inl refl)
one_of_four false false true d h = inr (inr (inl refl))
one_of_four false false false d h = inr (inr (inr h))

-- a byte that separates, in front of separators
separated : (byte : ℕ) (rest : List ℕ) → separates byte rest ≡ true → AreSeparators (passed_over false rest) → AreSeparators (byte ∷ passed_over false rest)
separated byte rest h are =
    let behind : List ℕ = passed_over false rest in
    let P : ℕ → Type 0 = λ b. AreSeparators (b ∷ behind) in
    elim (one_of_four (byte == 32) (byte == 9) (byte == 10) (byte == 13 && slice_index rest 0 == 10) h) [
      | inl blank ↦ subst P (sym (eqb-true byte 32 blank)) (one_separator Blank behind tt are)
      | inr (inl tab) ↦ subst P (sym (eqb-true byte 9 tab)) (one_separator Tab behind tt are)
      | inr (inr (inl feed)) ↦ subst P (sym (eqb-true byte 10 feed)) (one_separator LineFeed behind tt are)
      | inr (inr (inr return)) ↦
          let parts = both (byte == 13) (slice_index rest 0 == 10) return in
          subst P (sym (eqb-true byte 13 parts.0)) (carriage_return rest (eqb-true (slice_index rest 0) 10 parts.1) are)
    ]

step_outside : (byte : ℕ) (rest : List ℕ) → IsCommentEnd (passed_over true rest) → AreSeparators (passed_over false rest) → AreSeparators (passed_over false (byte ∷ rest))
unfolding passed_over
step_outside byte rest end are =
    elim (comment_after false byte) as (λ c. comment_after false byte ≡ c → AreSeparators (take (cond (c || separates byte rest) (1 + separators_after c rest) 0) (byte ∷ rest))) [
      | true ↦ λ begun.
          let hash : byte ≡ 35 = eqb-true byte 35 (both (byte == 35) (not (byte == 10)) begun).0 in
          rw (one_passed byte (separators_after true rest) rest) (subst (λ b. AreSeparators (b ∷ passed_over true rest)) (sym hash) (comment_begins (passed_over true rest) end))
      | false ↦ λ none.
          elim (separates byte rest) as (λ s. separates byte rest ≡ s → AreSeparators (take (cond s (1 + separators_after false rest) 0) (byte ∷ rest))) [
            | true ↦ λ separates. rw (one_passed byte (separators_after false rest) rest) (separated byte rest separates are)
            | false ↦ λ stops. no_separators
          ] refl
    ] refl

step_inside : (byte : ℕ) (rest : List ℕ) → IsCommentEnd (passed_over true rest) → AreSeparators (passed_over false rest) → IsCommentEnd (passed_over true (byte ∷ rest))
unfolding passed_over
step_inside byte rest end are =
    elim (byte == 10) as (λ n. (byte == 10) ≡ n → IsCommentEnd (take (cond (not n || separates byte rest) (1 + separators_after (not n) rest) 0) (byte ∷ rest))) [
      | true ↦ λ feed.
          let is : byte ≡ 10 = eqb-true byte 10 feed in
          let one : separates byte rest ≡ true = ap (λ b. separates b rest) is in
          let P : Bool → Type 0 = λ s. IsCommentEnd (take (cond s (1 + separators_after false rest) 0) (byte ∷ rest)) in
          subst P (sym one) (rw (one_passed byte (separators_after false rest) rest) (comment_ends (byte ∷ passed_over false rest) (separated byte rest one are)))
      | false ↦ λ other.
          rw (one_passed byte (separators_after true rest) rest) (comment_goes_on byte (passed_over true rest) (differs byte 10 other) end)
    ] refl

-- what is passed over inside or outside of a comment
ArePassed : Bool → List ℕ → Type 0
ArePassed true bytes = IsCommentEnd bytes
ArePassed false bytes = AreSeparators bytes

passed : (text : List ℕ) (comment : Bool) → ArePassed comment (passed_over comment text)
unfolding ArePassed passed_over
passed [] true = comment_ends [] no_separators
passed [] false = no_separators
passed (byte ∷ rest) true = step_inside byte rest (passed rest true) (passed rest false)
passed (byte ∷ rest) false = step_outside byte rest (passed rest true) (passed rest false)

pub separators_are : (text : List ℕ) → AreSeparators (take (separators text) text)
unfolding ArePassed passed_over
separators_are text = passed text false

fit_step : (commented separating : Bool) (count : Bool → ℕ) (size : ℕ) → count true ≤ size → count false ≤ size → cond (commented || separating) (1 + count commented) 0 ≤ 1 + size
fit_step true separating count size inside outside = omega arith
fit_step false true count size inside outside = omega arith
fit_step false false count size inside outside = omega arith

separators_after-fit : (text : List ℕ) (comment : Bool) → separators_after comment text ≤ length text
separators_after-fit [] comment = omega arith
separators_after-fit (byte ∷ rest) comment =
    let fit = fit_step (comment_after comment byte) (separates byte rest) (λ c. separators_after c rest) (length rest)
    (separators_after-fit rest true) (separators_after-fit rest false) in
    omega (arith, fit)

pub separators-fit : (text : List ℕ) → separators text ≤ length text
separators-fit text = separators_after-fit text false
