-- The reader of strings finds the bytes that are spelled between two quotes, and no others.
use Rattle.std.proofs.Common.{◌≡◌, ℕ, suc, ◌+◌, ◌*◌, ◌<◌, ◌≤◌, true, false, ◌&&◌, ◌||◌, ◌==◌, inl, inr, cond, List, [], ◌∷◌, ◌++◌, length, map, drop, slice_index, Option, Some, None, refl, sym, ap, subst, ◌∙◌, arith, zero-add, length-append, length-drop, append_assoc, drop-cons}
use Rattle.std.specs.List.{All, flat_map}
use Rattle.std.specs.Char.{is_digit, digit_value}
use Rattle.std.specs.Map.{lookup}
use Rattle.std.specs.Option.{option_map}
use Rattle.std.proofs.lemmas.Bool.{eqb-true, ne_eqb, cases_lt}
use Rattle.std.proofs.lemmas.List.{drop-drop, get_or_past}
use Rattle.std.proofs.lemmas.List.Elements.{All-nil, All-cons, All-head, All-tail}
use Rattle.std.proofs.Math.Seq.{drop-append_seam, get_or-append_seam}
use Rattle.zk_tree.specs.declared.token.TokenKind.{TokenKind}
use Rattle.zk_tree.specs.declared.token.TokenKind.TheVariants as token
use Rattle.zk_token.specs.Items.{items_from, found_at, StandBetween}
use Rattle.zk_token.specs.Strings.{escapes, hexadecimal_at, escape_at, spelled_at, string_at}
use Rattle.zk_token.specs.TokenForms.{SpelledByte, Plain, Escape, Hexadecimal, spelling_of, byte_of, IsSpelledByte}
use Rattle.zk_token.proofs.ItemLaws.{items_from-stands, string_closed}
use Rattle.zk_token.proofs.ByteTests.{both, neither, differs, pair_parts}

-- One byte --------------------------------------------------------------------------------------------------------

-- a byte is spelled at the front of a text
pub record IsSpelledFirst (text : List ℕ) (byte len : ℕ) : Type 0 where
  pub part : SpelledByte
  pub rest : List ℕ
  pub is : IsSpelledByte part
  pub value : byte ≡ byte_of part
  pub size : len ≡ length (spelling_of part)
  pub whole : text ≡ spelling_of part ++ rest

hexadecimal_found : (text : List ℕ) (byte len : ℕ) → hexadecimal_at text ≡ Some (byte, len) → IsSpelledFirst (92 ∷ 120 ∷ text) byte len
hexadecimal_found [] byte len found = absurd (let never : ⊥ = cc in never)
hexadecimal_found (high ∷ []) byte len found = absurd (let never : ⊥ = cc in never)
hexadecimal_found (high ∷ low ∷ rest) byte len found =
    elim (is_digit high 16 && is_digit low 16) as (λ b. (is_digit high 16 && is_digit low 16) ≡ b
    → cond {A = Option (ℕ × ℕ)} b (Some (16 * digit_value high + digit_value low, 4)) None ≡ Some (byte, len) → IsSpelledFirst (92 ∷ 120 ∷ high ∷ low ∷ rest) byte len) [
      | true ↦ λ digits is. record {
        part = Hexadecimal high low;
        rest = rest;
        is = both (is_digit high 16) (is_digit low 16) digits;
        value = sym (pair_parts (16 * digit_value high + digit_value low, 4) (byte, len) is).0;
        size = sym (pair_parts (16 * digit_value high + digit_value low, 4) (byte, len) is).1;
        whole = refl;
      }
      | false ↦ λ other is. absurd (let never : ⊥ = cc in never)
    ] refl found

-- the byte of an escape of one letter, and its length
escape_of : ℕ → ℕ × ℕ
escape_of value = (value, 2)

letter_found : (letter : ℕ) (rest : List ℕ) (byte len : ℕ) → option_map escape_of (lookup (λ name. name == letter) escapes) ≡ Some (byte, len)
    → IsSpelledFirst (92 ∷ letter ∷ rest) byte len
unfolding escape_of
letter_found letter rest byte len found =
    elim (lookup (λ name. name == letter) escapes) as (λ (o : Option ℕ). lookup (λ name. name == letter) escapes ≡ o
    → option_map escape_of o ≡ Some (byte, len) → IsSpelledFirst (92 ∷ letter ∷ rest) byte len) [
      | None ↦ λ none is. absurd (let never : ⊥ = cc in never)
      | Some value ↦ λ here is. record {
        part = Escape letter value;
        rest = rest;
        is = here;
        value = sym (pair_parts (value, 2) (byte, len) is).0;
        size = sym (pair_parts (value, 2) (byte, len) is).1;
        whole = refl;
      }
    ] refl found

escape_found : (text : List ℕ) (byte len : ℕ) → escape_at text ≡ Some (byte, len) → IsSpelledFirst (92 ∷ text) byte len
unfolding escape_of
escape_found [] byte len found = absurd (let never : ⊥ = cc in never)
escape_found (letter ∷ rest) byte len found =
    elim (letter == 120) as (λ b. (letter == 120) ≡ b
    → cond b (hexadecimal_at rest) (option_map escape_of (lookup (λ name. name == letter) escapes)) ≡ Some (byte, len)
    → IsSpelledFirst (92 ∷ letter ∷ rest) byte len) [
      | true ↦ λ x is. subst (λ l. IsSpelledFirst (92 ∷ l ∷ rest) byte len) (sym (eqb-true letter 120 x)) (hexadecimal_found rest byte len is)
      | false ↦ λ other is. letter_found letter rest byte len is
    ] refl found

-- the byte that the reader finds is spelled there
pub spelled_found : (text : List ℕ) (byte len : ℕ) → spelled_at text ≡ Some (byte, len) → IsSpelledFirst text byte len
spelled_found [] byte len found = absurd (let never : ⊥ = cc in never)
spelled_found (first ∷ rest) byte len found =
    elim (first == 34 || first == 10) as (λ b. (first == 34 || first == 10) ≡ b
    → cond b None (cond (first == 92) (escape_at rest) (Some (first, 1))) ≡ Some (byte, len) → IsSpelledFirst (first ∷ rest) byte len) [
      | true ↦ λ ends is. absurd (let never : ⊥ = cc in never)
      | false ↦ λ inside.
          elim (first == 92) as (λ b. (first == 92) ≡ b → cond b (escape_at rest) (Some (first, 1)) ≡ Some (byte, len) → IsSpelledFirst (first ∷ rest) byte len) [
            | true ↦ λ backslash is. subst (λ f. IsSpelledFirst (f ∷ rest) byte len) (sym (eqb-true first 92 backslash)) (escape_found rest byte len is)
            | false ↦ λ plain is.
                let parts = neither (first == 34) (first == 10) inside in
                record {
                  part = Plain first;
                  rest = rest;
                  is = (differs first 10 parts.1, differs first 34 parts.0, differs first 92 plain);
                  value = sym (pair_parts (first, 1) (byte, len) is).0;
                  size = sym (pair_parts (first, 1) (byte, len) is).1;
                  whole = refl;
                }
          ] refl
    ] refl found

-- a byte that is spelled there, the reader finds
pub spelled_at-spelling_of : (part : SpelledByte) (rest : List ℕ) → IsSpelledByte part → spelled_at (spelling_of part ++ rest) ≡ Some (byte_of part, length (spelling_of part))
unfolding escape_of
spelled_at-spelling_of (Plain byte) rest is =
    rw (ne_eqb byte 34 is.1) (rw (ne_eqb byte 10 is.0) (rw (ne_eqb byte 92 is.2) refl))
spelled_at-spelling_of (Escape letter byte) rest is =
    elim (letter == 120) as (λ b. (letter == 120) ≡ b
    → cond b (hexadecimal_at rest) (option_map escape_of (lookup (λ name. name == letter) escapes)) ≡ Some (byte, 2)) [
      | true ↦ λ x.
          let none : lookup (λ name. name == letter) escapes ≡ None = ap (λ l. lookup (λ name. name == l) escapes) (eqb-true letter 120 x) in
          absurd (let never : ⊥ = cc in never)
      | false ↦ λ other. ap (option_map escape_of) is
    ] refl
spelled_at-spelling_of (Hexadecimal high low) rest is = rw is.0 (rw is.1 refl)

-- All bytes of a string -------------------------------------------------------------------------------------------

-- the bytes that spell them
unfoldable pub spelling : List SpelledByte → List ℕ
spelling parts = flat_map spelling_of parts

-- what stands behind a part that stands at a place
pub past_front : (front rest text : List ℕ) (place : ℕ) → drop place text ≡ front ++ rest → drop (place + length front) text ≡ rest
past_front front rest text place here = sym (drop-drop (length front) place text) ∙ ap (drop (length front)) here ∙ drop-append_seam front rest

found_at-here : {X : Type 0} (reader : List ℕ → Option (X × ℕ)) (text rest : List ℕ) (place : ℕ) (item : X) (len : ℕ)
    → drop place text ≡ rest → reader rest ≡ Some (item, len) → found_at reader text place ≡ Some (item, place + len)
found_at-here reader text rest place item len here found =
    ap (option_map (λ found. (found.0, place + found.1))) (ap reader here ∙ found)

-- bytes that are spelled stand between two places
pub stand-spelling : (parts : List SpelledByte) (text rest : List ℕ) (place : ℕ) → All IsSpelledByte parts → drop place text ≡ spelling parts ++ rest
    → StandBetween (found_at spelled_at text) place (map byte_of parts) (place + length (spelling parts))
unfolding spelling
stand-spelling [] text rest place are here = omega arith
stand-spelling (part ∷ parts) text rest place are here =
    let next : ℕ = place + length (spelling_of part) in
    let assoc : drop place text ≡ spelling_of part ++ (spelling parts ++ rest) = here ∙ append_assoc (spelling_of part) (spelling parts) rest in
    let first = spelled_at-spelling_of part (spelling parts ++ rest) (All-head IsSpelledByte part parts are) in
    let others = stand-spelling parts text rest next (All-tail IsSpelledByte part parts are) (past_front (spelling_of part) (spelling parts ++ rest) text place assoc) in
    let end : next + length (spelling parts) ≡ place + length (spelling_of part ++ spelling parts) =
    omega (arith, length-append (spelling_of part) (spelling parts)) in (
      next,
      found_at-here spelled_at text (spelling_of part ++ (spelling parts ++ rest)) place (byte_of part) (length (spelling_of part)) assoc first,
      subst (λ to. StandBetween (found_at spelled_at text) next (map byte_of parts) to) end others,
    )

-- bytes that stand between two places are spelled there
pub record AreSpelledBytes (bytes text rest : List ℕ) : Type 0 where
  pub parts : List SpelledByte
  pub are : All IsSpelledByte parts
  pub value : bytes ≡ map byte_of parts
  pub whole : text ≡ spelling parts ++ rest

pub found_at-there : (text : List ℕ) (place byte next : ℕ) → found_at spelled_at text place ≡ Some (byte, next)
    → (len : ℕ) × (spelled_at (drop place text) ≡ Some (byte, len)) × (place + len ≡ next)
found_at-there text place byte next found =
    elim (spelled_at (drop place text)) as (λ (o : Option (ℕ × ℕ)). spelled_at (drop place text) ≡ o
    → option_map {T = ℕ × ℕ} {U = ℕ × ℕ} (λ f. (f.0, place + f.1)) o ≡ Some (byte, next)
    → (len : ℕ) × (spelled_at (drop place text) ≡ Some (byte, len)) × (place + len ≡ next)) [
      | None ↦ λ none is. absurd (let never : ⊥ = cc in never)
      | Some item ↦ λ here is.
          let parts = pair_parts (item.0, place + item.1) (byte, next) is in
          (item.1, here ∙ ap (λ b. Some (b, item.1)) parts.0, parts.1)
    ] refl found

pub spelling-stand : (text : List ℕ) (from : ℕ) (bytes : List ℕ) (to : ℕ) → StandBetween (found_at spelled_at text) from bytes to
    → AreSpelledBytes bytes (drop from text) (drop to text)
unfolding spelling
spelling-stand text from [] to stand = record { parts = []; are = All-nil IsSpelledByte; value = refl; whole = ap (λ place. drop place text) stand }
spelling-stand text from (byte ∷ bytes) to stand =
    let found = found_at-there text from byte stand.0 stand.1 in
    let first = spelled_found (drop from text) byte found.0 found.1 in
    let others = spelling-stand text stand.0 bytes to stand.2 in
    let next : stand.0 ≡ from + length (spelling_of first.part) = sym found.2 ∙ ap (λ n. from + n) first.size in
    let rest : drop stand.0 text ≡ first.rest = ap (λ n. drop n text) next ∙ past_front (spelling_of first.part) first.rest text from first.whole in
    record {
      parts = first.part ∷ others.parts;
      are = All-cons IsSpelledByte first.part others.parts first.is others.are;
      value = ap (λ b. b ∷ bytes) first.value ∙ ap (λ bs. byte_of first.part ∷ bs) others.value;
      whole = first.whole ∙ ap (λ r. spelling_of first.part ++ r) (sym rest ∙ others.whole)
          ∙ sym (append_assoc (spelling_of first.part) (spelling others.parts) (drop to text));
    }

-- Whole strings ---------------------------------------------------------------------------------------------------

-- no more bytes are spelled than spell them
pub bytes-fit : (parts : List SpelledByte) → length (map byte_of parts) ≤ length (spelling parts)
unfolding spelling
bytes-fit [] = omega arith
bytes-fit (Plain byte ∷ parts) = let others = bytes-fit parts in omega (arith, others)
bytes-fit (Escape letter byte ∷ parts) = let others = bytes-fit parts in omega (arith, others)
bytes-fit (Hexadecimal high low ∷ parts) = let others = bytes-fit parts in omega (arith, others)

-- a string is read, whatever stands behind it
pub string_at-spelling : (parts : List SpelledByte) (rest : List ℕ) → All IsSpelledByte parts
    → string_at (flat_map spelling_of parts ++ 34 ∷ rest) ≡ Some (token.String (map byte_of parts), 2 + length (flat_map spelling_of parts))
unfolding spelling
string_at-spelling parts rest are =
    let text : List ℕ = spelling parts ++ 34 ∷ rest in
    let to : ℕ = length (spelling parts) in
    let stand : StandBetween (found_at spelled_at text) 0 (map byte_of parts) to =
    subst (λ n. StandBetween (found_at spelled_at text) 0 (map byte_of parts) n) (zero-add to) (stand-spelling parts text (34 ∷ rest) 0 are refl) in
    let behind : drop to text ≡ 34 ∷ rest = drop-append_seam (spelling parts) (34 ∷ rest) in
    let no_more : found_at spelled_at text to ≡ None =
    ap (λ found. option_map {T = ℕ × ℕ} {U = ℕ × ℕ} (λ f. (f.0, to + f.1)) (spelled_at found)) behind in
    let enough : length (map byte_of parts) ≤ length text = omega (arith, bytes-fit parts, length-append (spelling parts) (34 ∷ rest)) in
    let quote : slice_index text to ≡ 34 = get_or-append_seam (spelling parts) 34 rest 0 in
    sym (string_closed text (map byte_of parts) to stand no_more enough quote)

-- what is read as a string is one
pub record IsStringFound (text : List ℕ) (kind : TokenKind) (len : ℕ) : Type 0 where
  pub parts : List SpelledByte
  pub rest : List ℕ
  pub are : All IsSpelledByte parts
  pub is : kind ≡ token.String (map byte_of parts)
  pub size : len ≡ 2 + length (flat_map spelling_of parts)
  pub whole : text ≡ flat_map spelling_of parts ++ 34 ∷ rest

string_closed_found : (text bytes : List ℕ) (to : ℕ) → StandBetween (found_at spelled_at text) 0 bytes to → slice_index text to ≡ 34
    → IsStringFound text (token.String bytes) (2 + to)
unfolding spelling
string_closed_found text bytes to stand quote =
    let there = spelling-stand text 0 bytes to stand in
    let inside : to < length text =
    elim (cases_lt to (length text)) [ inl below ↦ below | inr past ↦ omega (arith, get_or_past text to 0 past, quote) ] in
    let behind : drop to text ≡ 34 ∷ drop (suc to) text = drop-cons text to 0 inside ∙ ap (λ b. b ∷ drop (suc to) text) quote in
    let size : to ≡ length (spelling there.parts) =
    omega (arith, ap length there.whole, length-append (spelling there.parts) (drop to text), length-drop to text, inside) in
    record {
      parts = there.parts;
      rest = drop (suc to) text;
      are = there.are;
      is = ap token.String there.value;
      size = ap (λ n. 2 + n) size;
      whole = there.whole ∙ ap (λ r. spelling there.parts ++ r) behind;
    }

pub string_found : (text : List ℕ) (kind : TokenKind) (len : ℕ) → string_at text ≡ Some (kind, len) → IsStringFound text kind len
string_found text kind len found =
    let read : List ℕ × ℕ = items_from (length text) (found_at spelled_at text) 0 in
    elim (slice_index text read.1 == 34) as (λ b. (slice_index text read.1 == 34) ≡ b
    → cond {A = Option (TokenKind × ℕ)} b (Some (token.String read.0, 2 + read.1)) None ≡ Some (kind, len) → IsStringFound text kind len) [
      | true ↦ λ quote is.
          let parts = pair_parts (token.String read.0, 2 + read.1) (kind, len) is in
          let stand : StandBetween (found_at spelled_at text) 0 read.0 read.1 = items_from-stands (length text) (found_at spelled_at text) 0 in
          let closed = string_closed_found text read.0 read.1 stand (eqb-true (slice_index text read.1) 34 quote) in
          subst (λ k. IsStringFound text k len) parts.0 (subst (λ n. IsStringFound text (token.String read.0) n) parts.1 closed)
      | false ↦ λ other is. absurd (let never : ⊥ = cc in never)
    ] refl found
