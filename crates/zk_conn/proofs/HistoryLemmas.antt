-- The letters of a history.
use Rattle.std.proofs.Common.{◌≡◌, ℕ, ◌+◌, ◌<◌, ◌≤◌, Bool, true, false, cond, ◌||◌, List, [], ◌∷◌, ◌++◌, length, take, map, filter, fold, nat_eq, get_or, refl, sym, ap, subst, ◌∙◌, arith, length-append, length-take-le}
use Rattle.std.specs.Cmp.{nat_eq_equiv}
use Rattle.std.specs.List.{list_any}
use Rattle.std.proofs.Math.ListN.{set}
use Rattle.std.proofs.lemmas.Bool.{true≢false, eqb-true}
use Rattle.std.proofs.lemmas.List.{take_more, take_more_set, map-append}
use Rattle.std.proofs.lemmas.List.Elements.{filter-append}
use Rattle.std.proofs.lemmas.List.Folds.{list_any-append}
use Rattle.std.proofs.lemmas.List.Sums.{fold-append}
use Rattle.std.proofs.lemmas.Map.Keys.{IsDistinct-push}
use Rattle.std.proofs.lemmas.Map.Made.{length-le_from_is_member}
use Rattle.zk_base.specs.declared.network.Side.{Side}
use Rattle.zk_conn.specs.declared.history.Letter.{Letter}
use Rattle.zk_conn.specs.declared.view.L4View.{L4View}
use Rattle.zk_conn.specs.History.{all_codes, letter_code, shows, added, AreLetters, IsHistory}

-- a test from the other side
turned : (code : ℕ) (letters : List ℕ) → list_any (nat_eq code) letters ≡ list_any (λ other. nat_eq other code) letters
turned code [] = refl
turned code (x ∷ letters) = ap (λ b. b || list_any (nat_eq code) letters) (nat_eq_equiv.symm code x) ∙ ap (λ b. nat_eq x code || b) (turned code letters)

either : (a b : Bool) {P : Type 0} → (a || b) ≡ true → (a ≡ true → P) → (b ≡ true → P) → P
either true b is left right = left refl
either false b is left right = right is

-- letters with a new one
are_letters-push : (letters : List ℕ) (code : ℕ) → AreLetters letters → list_any (nat_eq code) all_codes ≡ true
    → list_any (λ other. nat_eq other code) letters ≡ false → AreLetters (letters ++ code ∷ [])
are_letters-push letters code are is_code is_new = record {
  once = IsDistinct-push nat_eq_equiv letters code are.once (turned code letters ∙ is_new);
  among = λ other is. either (list_any (nat_eq other) letters) (nat_eq other code || false) (sym (list_any-append (nat_eq other) letters (code ∷ [])) ∙ is)
      (are.among other)
      (λ same. either (nat_eq other code) false same
      (λ equal. subst (λ k. list_any (nat_eq k) all_codes ≡ true) (sym (eqb-true other code equal)) is_code)
      (λ never. absurd (true≢false (sym never))));
}

-- letters of the sides, each once, are at most twelve
room : (letters : List ℕ) (code : ℕ) → AreLetters letters → list_any (nat_eq code) all_codes ≡ true
    → list_any (λ other. nat_eq other code) letters ≡ false → length letters < 12
room letters code are is_code is_new =
    let more = are_letters-push letters code are is_code is_new in
    let most : length (letters ++ code ∷ []) ≤ 12 = length-le_from_is_member nat_eq_equiv (letters ++ code ∷ []) all_codes more.once more.among in
    omega (arith, most, length-append letters (code ∷ []))

-- there is room behind letters that a new one isn't among
pub room_left : (bytes : List ℕ) (n code : ℕ) → n ≤ length bytes → AreLetters (take n bytes) → list_any (nat_eq code) all_codes ≡ true
    → list_any (λ other. nat_eq other code) (take n bytes) ≡ false → n < 12
room_left bytes n code within are is_code is_new = omega (arith, room (take n bytes) code are is_code is_new, length-take-le n bytes within)

-- the bytes of a history with a new letter
pub is_history-push : (bytes : List ℕ) (n code : ℕ) → n < length bytes → length bytes ≤ 12 → AreLetters (take n bytes) → list_any (nat_eq code) all_codes ≡ true
    → list_any (λ other. nat_eq other code) (take n bytes) ≡ false → IsHistory (set bytes n code) (n + 1)
is_history-push bytes n code in_bytes most are is_code is_new = record {
  within = omega (arith, in_bytes, most);
  letters = subst AreLetters (sym (take_more_set bytes n code in_bytes)) (are_letters-push (take n bytes) code are is_code is_new);
}

-- the letters with a new one
pub added_new : (letters : List ℕ) (code : ℕ) → list_any (λ other. nat_eq other code) letters ≡ false → letters ++ code ∷ [] ≡ added letters code
added_new letters code is_new = sym (ap (λ b. cond b letters (letters ++ code ∷ [])) is_new)

-- what one more letter of a packet adds
noted_more : (side : Side) (p : L4View) (letters : List ℕ) (order : List Letter) (n : ℕ) (letter : Letter) → n < length order
    → fold added letters (map (letter_code side) (filter (shows p) (take (n + 1) order)))
    ≡ cond (shows p (get_or order n letter))
    (added (fold added letters (map (letter_code side) (filter (shows p) (take n order)))) (letter_code side (get_or order n letter)))
    (fold added letters (map (letter_code side) (filter (shows p) (take n order))))
noted_more side p letters order n letter within =
    ap (λ l. fold added letters (map (letter_code side) (filter (shows p) l))) (take_more order n letter within)
    ∙ ap (λ l. fold added letters (map (letter_code side) l)) (filter-append (shows p) (take n order) (get_or order n letter ∷ []))
    ∙ ap (fold added letters) (map-append (letter_code side) (filter (shows p) (take n order)) (filter (shows p) (get_or order n letter ∷ [])))
    ∙ fold-append added letters (map (letter_code side) (filter (shows p) (take n order))) (map (letter_code side) (filter (shows p) (get_or order n letter ∷ [])))
    ∙ of_last (shows p (get_or order n letter)) (fold added letters (map (letter_code side) (filter (shows p) (take n order))))
  where
    of_last : (b : Bool) (so_far : List ℕ) → fold added so_far (map (letter_code side) (cond b (get_or order n letter ∷ []) [])) ≡ cond b (added so_far (letter_code side (get_or order n letter))) so_far
    of_last true so_far = refl
    of_last false so_far = refl

abbrev pub noted : Side → L4View → List ℕ → List Letter → List ℕ
noted side p letters shown = fold added letters (map (letter_code side) (filter (shows p) shown))

-- a letter that the packet shows
pub noted_yes : (side : Side) (p : L4View) (letters : List ℕ) (order : List Letter) (n : ℕ) (letter : Letter) (so_far : List ℕ) (code : ℕ) → n < length order
    → shows p (get_or order n letter) ≡ true → so_far ≡ noted side p letters (take n order) → code ≡ letter_code side (get_or order n letter)
    → added so_far code ≡ noted side p letters (take (n + 1) order)
noted_yes side p letters order n letter so_far code within shown is is_code =
    ap (λ l. added l code) is ∙ ap (added (noted side p letters (take n order))) is_code
    ∙ sym (noted_more side p letters order n letter within ∙ ap (λ b. cond b (added (noted side p letters (take n order)) (letter_code side (get_or order n letter))) (noted side p letters (take n order))) shown)

-- a letter that it does not show
pub noted_no : (side : Side) (p : L4View) (letters : List ℕ) (order : List Letter) (n : ℕ) (letter : Letter) (so_far : List ℕ) → n < length order
    → shows p (get_or order n letter) ≡ false → so_far ≡ noted side p letters (take n order) → so_far ≡ noted side p letters (take (n + 1) order)
noted_no side p letters order n letter so_far within hidden is =
    is ∙ sym (noted_more side p letters order n letter within ∙ ap (λ b. cond b (added (noted side p letters (take n order)) (letter_code side (get_or order n letter))) (noted side p letters (take n order))) hidden)
