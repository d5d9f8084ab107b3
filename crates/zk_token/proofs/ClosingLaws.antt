-- A quote closes a string exactly where pieces of a string stand before it.
use Rattle.std.proofs.Common.{◌≡◌, ◌≢◌, ℕ, Bool, true, false, ◌&&◌, ◌==◌, cond, List, [], ◌∷◌, ◌++◌, Some, None, refl, sym, ap, subst, ◌∙◌, append_assoc}
use Rattle.std.specs.List.{All, flat_map}
use Rattle.std.specs.Char.{is_digit}
use Rattle.std.specs.Map.{lookup}
use Rattle.std.proofs.lemmas.Bool.{eqb-true, ne_eqb}
use Rattle.std.proofs.lemmas.List.Elements.{All-nil, All-cons, All-head, All-tail}
use Rattle.zk_token.specs.Strings.{escapes, closes_after}
use Rattle.zk_token.specs.TokenForms.{SpelledByte, Plain, Escape, Hexadecimal, spelling_of, IsSpelledByte, StringPiece, Alone, Escaped, piece_bytes, IsStringPiece, IsClosed}
use Rattle.zk_token.proofs.ByteTests.{differs}

-- pieces are passed over
closes-pieces : (pieces : List StringPiece) (rest : List ℕ) → All IsStringPiece pieces → closes_after false (flat_map piece_bytes pieces ++ rest) ≡ closes_after false rest
closes-pieces [] rest are = refl
closes-pieces (Alone byte ∷ pieces) rest are =
    let is = All-head IsStringPiece (Alone byte) pieces are in
    rw (ne_eqb byte 10 is.0) (rw (ne_eqb byte 34 is.1) (rw (ne_eqb byte 92 is.2) (closes-pieces pieces rest (All-tail IsStringPiece (Alone byte) pieces are))))
closes-pieces (Escaped byte ∷ pieces) rest are =
    let others = closes-pieces pieces rest (All-tail IsStringPiece (Escaped byte) pieces are) in
    rw (ne_eqb byte 10 (All-head IsStringPiece (Escaped byte) pieces are)) (
    elim (byte == 34) as (λ q. cond (q && false) true (closes_after (byte == 92 && false) (flat_map piece_bytes pieces ++ rest)) ≡ closes_after false rest) [
      | true ↦ elim (byte == 92) as (λ b. closes_after (b && false) (flat_map piece_bytes pieces ++ rest) ≡ closes_after false rest) [ true ↦ others | false ↦ others ]
      | false ↦ elim (byte == 92) as (λ b. closes_after (b && false) (flat_map piece_bytes pieces ++ rest) ≡ closes_after false rest) [ true ↦ others | false ↦ others ]
    ])

pub closes-closed : (text : List ℕ) → IsClosed text → closes_after false text ≡ true
closes-closed text closed = ap (closes_after false) closed.whole ∙ closes-pieces closed.pieces (34 ∷ closed.others) closed.are

-- a piece in front of a text that is closed
piece_in_front : (piece : StringPiece) (text : List ℕ) → IsStringPiece piece → IsClosed text → IsClosed (piece_bytes piece ++ text)
piece_in_front piece text is closed = record {
  pieces = piece ∷ closed.pieces;
  others = closed.others;
  are = All-cons IsStringPiece piece closed.pieces is closed.are;
  whole = ap (λ t. piece_bytes piece ++ t) closed.whole ∙ sym (append_assoc (piece_bytes piece) (flat_map piece_bytes closed.pieces) (34 ∷ closed.others));
}

quote_closes : (byte : ℕ) (rest : List ℕ) → (byte == 34) ≡ true → IsClosed (byte ∷ rest)
quote_closes byte rest quote = record { pieces = []; others = rest; are = All-nil IsStringPiece; whole = ap (λ b. b ∷ rest) (eqb-true byte 34 quote) }

-- behind a backslash any byte but an LF is passed over
behind_escape : (byte : ℕ) (rest : List ℕ) → cond (byte == 34 && false) true (closes_after (byte == 92 && false) rest) ≡ true → closes_after false rest ≡ true
behind_escape byte rest =
    elim (byte == 34) as (λ q. cond (q && false) true (closes_after (byte == 92 && false) rest) ≡ true → closes_after false rest ≡ true) [
      | true ↦ elim (byte == 92) as (λ b. closes_after (b && false) rest ≡ true → closes_after false rest ≡ true) [ true ↦ λ h. h | false ↦ λ h. h ]
      | false ↦ elim (byte == 92) as (λ b. closes_after (b && false) rest ≡ true → closes_after false rest ≡ true) [ true ↦ λ h. h | false ↦ λ h. h ]
    ]

-- a byte behind a backslash, and behind it a text that is closed
record IsClosedBehind (text : List ℕ) : Type 0 where
  byte : ℕ
  rest : List ℕ
  whole : text ≡ byte ∷ rest
  on_line : byte ≢ 10
  closed : IsClosed rest

-- a text is closed, where a backslash may stand before it
IsClosedAfter : Bool → List ℕ → Type 0
IsClosedAfter true text = IsClosedBehind text
IsClosedAfter false text = IsClosed text

backslash_in_front : (text : List ℕ) → IsClosedBehind text → IsClosed (92 ∷ text)
backslash_in_front text behind =
    subst (λ t. IsClosed (92 ∷ t)) (sym behind.whole) (piece_in_front (Escaped behind.byte) behind.rest behind.on_line behind.closed)

-- one byte more, where none was escaped
step_alone : (byte : ℕ) (rest : List ℕ) → (closes_after true rest ≡ true → IsClosedBehind rest) → (closes_after false rest ≡ true → IsClosed rest)
    → closes_after false (byte ∷ rest) ≡ true → IsClosed (byte ∷ rest)
step_alone byte rest escaped alone closes =
    elim (byte == 10) as (λ n. (byte == 10) ≡ n → cond n false (cond (byte == 34 && true) true (closes_after (byte == 92 && true) rest)) ≡ true → IsClosed (byte ∷ rest)) [
      | true ↦ λ feed h. absurd (let never : ⊥ = cc in never)
      | false ↦ λ no_feed.
          elim (byte == 34) as (λ q. (byte == 34) ≡ q → cond (q && true) true (closes_after (byte == 92 && true) rest) ≡ true → IsClosed (byte ∷ rest)) [
            | true ↦ λ quote h. quote_closes byte rest quote
            | false ↦ λ no_quote.
                elim (byte == 92) as (λ b. (byte == 92) ≡ b → closes_after (b && true) rest ≡ true → IsClosed (byte ∷ rest)) [
                  | true ↦ λ backslash h. subst (λ b. IsClosed (b ∷ rest)) (sym (eqb-true byte 92 backslash)) (backslash_in_front rest (escaped h))
                  | false ↦ λ no_backslash h. piece_in_front (Alone byte) rest (differs byte 10 no_feed, differs byte 34 no_quote, differs byte 92 no_backslash) (alone h)
                ] refl
          ] refl
    ] refl closes

step_escaped : (byte : ℕ) (rest : List ℕ) → (closes_after false rest ≡ true → IsClosed rest) → closes_after true (byte ∷ rest) ≡ true → IsClosedBehind (byte ∷ rest)
step_escaped byte rest alone closes =
    elim (byte == 10) as (λ n. (byte == 10) ≡ n → cond n false (cond (byte == 34 && false) true (closes_after (byte == 92 && false) rest)) ≡ true → IsClosedBehind (byte ∷ rest)) [
      | true ↦ λ feed h. absurd (let never : ⊥ = cc in never)
      | false ↦ λ other h. record { byte = byte; rest = rest; whole = refl; on_line = differs byte 10 other; closed = alone (behind_escape byte rest h) }
    ] refl closes

closed_after : (text : List ℕ) (escaped : Bool) → closes_after escaped text ≡ true → IsClosedAfter escaped text
unfolding IsClosedAfter
closed_after [] escaped closes = absurd (let never : ⊥ = cc in never)
closed_after (byte ∷ rest) true closes = step_escaped byte rest (closed_after rest false) closes
closed_after (byte ∷ rest) false closes = step_alone byte rest (closed_after rest true) (closed_after rest false) closes

pub closed_of : (text : List ℕ) → closes_after false text ≡ true → IsClosed text
unfolding IsClosedAfter
closed_of text closes = closed_after text false closes

-- Spelled bytes are pieces ----------------------------------------------------------------------------------------

-- a letter behind a backslash is no line end
letter_on_line : (letter byte : ℕ) → lookup (λ name. name == letter) escapes ≡ Some byte → letter ≢ 10
letter_on_line letter byte found feed =
    let none : lookup (λ name. name == letter) escapes ≡ None = ap (λ l. lookup (λ name. name == l) escapes) feed in
    let never : ⊥ = cc in never

-- a hexadecimal digit is none of these bytes
hexadecimal_alone : (digit : ℕ) → is_digit digit 16 ≡ true → IsStringPiece (Alone digit)
hexadecimal_alone digit is = (
  λ same. let no : is_digit digit 16 ≡ false = ap (λ d. is_digit d 16) same in let never : ⊥ = cc in never,
  λ same. let no : is_digit digit 16 ≡ false = ap (λ d. is_digit d 16) same in let never : ⊥ = cc in never,
  λ same. let no : is_digit digit 16 ≡ false = ap (λ d. is_digit d 16) same in let never : ⊥ = cc in never,
)

-- spelled bytes are passed over
spelled_passed : (part : SpelledByte) (rest : List ℕ) → IsSpelledByte part → closes_after false (spelling_of part ++ rest) ≡ closes_after false rest
spelled_passed (Plain byte) rest is = closes-pieces (Alone byte ∷ []) rest (All-cons IsStringPiece (Alone byte) [] is (All-nil IsStringPiece))
spelled_passed (Escape letter byte) rest is =
    closes-pieces (Escaped letter ∷ []) rest (All-cons IsStringPiece (Escaped letter) [] (letter_on_line letter byte is) (All-nil IsStringPiece))
spelled_passed (Hexadecimal high low) rest is =
    closes-pieces (Escaped 120 ∷ Alone high ∷ Alone low ∷ []) rest
    (All-cons IsStringPiece (Escaped 120) (Alone high ∷ Alone low ∷ []) (λ same. let never : ⊥ = cc in never)
    (All-cons IsStringPiece (Alone high) (Alone low ∷ []) (hexadecimal_alone high is.0)
    (All-cons IsStringPiece (Alone low) [] (hexadecimal_alone low is.1) (All-nil IsStringPiece))))

pub closes-spelling : (parts : List SpelledByte) (rest : List ℕ) → All IsSpelledByte parts → closes_after false (flat_map spelling_of parts ++ rest) ≡ closes_after false rest
closes-spelling [] rest are = refl
closes-spelling (part ∷ parts) rest are =
    ap (closes_after false) (append_assoc (spelling_of part) (flat_map spelling_of parts) rest)
    ∙ spelled_passed part (flat_map spelling_of parts ++ rest) (All-head IsSpelledByte part parts are)
    ∙ closes-spelling parts rest (All-tail IsSpelledByte part parts are)
