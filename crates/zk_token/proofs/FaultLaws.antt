-- Where no token is read, the fault that is told is the only one.
use Rattle.std.proofs.Common.{◌≡◌, ◌≢◌, ◌↔◌, ℕ, ◌+◌, ◌-◌, ◌<◌, ◌≤◌, ◌^◌, Bool, true, false, ◌&&◌, ◌==◌, if◌then◌else◌, cond, List, [], ◌∷◌, ◌++◌, length, map, take, drop, slice_index, Option, Some, None, Err, refl, sym, ap, subst, ◌∙◌, arith, add-zero, zero-add, eq-eqb, length-append, length-drop}
use Rattle.std.specs.List.{All, flat_map, take_while, prefix_len}
use Rattle.std.specs.Char.{is_ascii_digit}
use Rattle.std.specs.Option.{option_map, option_or, ok_or}
use Rattle.std.specs.Str.Parse.{digits_value}
use Rattle.std.proofs.lemmas.Bool.{eqb-true, ne_eqb, ltb-false}
use Rattle.std.proofs.lemmas.List.{get_or-drop}
use Rattle.std.proofs.lemmas.List.Elements.{All-head}
use Rattle.std.proofs.Math.Seq.{drop-append_seam, get_or-append_seam}
use Rattle.zk_tree.specs.declared.token.TokenKind.{TokenKind}
use Rattle.zk_tree.specs.declared.token.TokenKind.TheVariants as token
use Rattle.zk_token.specs.Fault.{Fault, BadByte, OpenString, BigNumber}
use Rattle.zk_token.specs.Numerals.{located_at, port_at, digits_at, numeral_form, is_in_range, ranged, measured, numeral_at}
use Rattle.zk_token.specs.Items.{found_at, StandBetween}
use Rattle.zk_token.specs.Strings.{spelled_at, spelled_bytes, string_at, closes_after, string_fault}
use Rattle.zk_token.specs.Tokens.{token_at, fault_of}
use Rattle.zk_token.specs.TokenForms.{SpelledByte, spelling_of, byte_of, Plain, Escape, Hexadecimal, IsSpelledByte, IsClosed, AreDigits, HasForm, HasSomeForm, IsInRange, IsLongest, BeginsNoToken, IsFault, bad_byte, bad_escape, open_string, big_number}
use Rattle.zk_token.proofs.ClosingLaws.{closes-closed, closed_of, closes-spelling}
use Rattle.zk_token.proofs.FormLaws.{first, second, third, fourth, fifth, sixth, IsReadBy, form_at, form_at-by, token_read_by, form_found, form_longest, token_form, read_at_least, longest_read, digit_begins_no_name, begins_none, not_read}
use Rattle.zk_token.proofs.ItemLaws.{items_from-stand, items_from-stands, items_from-none, found_none, rest_whole, string_open}
use Rattle.zk_token.proofs.StringLaws.{spelled_found, spelled_at-spelling_of, stand-spelling, found_at-there, spelling-stand, bytes-fit, spelling, string_found}
use Rattle.zk_token.proofs.ByteTests.{differs, pair_parts}

-- Strings ---------------------------------------------------------------------------------------------------------

spelled_some : (part : SpelledByte) → 0 < length (spelling_of part)
spelled_some (Plain byte) = omega arith
spelled_some (Escape letter byte) = omega arith
spelled_some (Hexadecimal high low) = omega arith

spelled_advances : (text : List ℕ) (place byte next : ℕ) → found_at spelled_at text place ≡ Some (byte, next) → (place < next) × (next ≤ length text)
spelled_advances text place byte next found =
    let there = found_at-there text place byte next found in
    let one = spelled_found (drop place text) byte there.0 there.1 in
    let some : 0 < length (spelling_of one.part) = spelled_some one.part in
    let size = ap length one.whole in
    (omega (arith, some, one.size, there.2), omega (arith, some, one.size, there.2, size, length-append (spelling_of one.part) one.rest, length-drop place text))

-- the bytes that a text spells, and no more behind them
pub record SpellsUpTo (text : List ℕ) : Type 0 where
  pub parts : List SpelledByte
  pub are : All IsSpelledByte parts
  pub whole : text ≡ flat_map spelling_of parts ++ drop (spelled_bytes text).1 text
  pub size : (spelled_bytes text).1 ≡ length (flat_map spelling_of parts)
  pub no_more : spelled_at (drop (spelled_bytes text).1 text) ≡ None

stand_within : (text : List ℕ) (from : ℕ) (bytes : List ℕ) (to : ℕ) → StandBetween (found_at spelled_at text) from bytes to → from ≤ length text → to ≤ length text
stand_within text from [] to stand within = omega (arith, stand, within)
stand_within text from (byte ∷ bytes) to stand within =
    let step = spelled_advances text from byte stand.0 stand.1 in
    stand_within text stand.0 bytes to stand.2 step.1

pub spells_up_to : (text : List ℕ) → SpellsUpTo text
unfolding spelling
spells_up_to text =
    let end : ℕ = (spelled_bytes text).1 in
    let stand = items_from-stands (length text) (found_at spelled_at text) 0 in
    let none = items_from-none (found_at spelled_at text) (length text) (spelled_advances text) (length text) 0 (omega arith) in
    let there = spelling-stand text 0 (spelled_bytes text).0 end stand in
    let within : end ≤ length text = stand_within text 0 (spelled_bytes text).0 end stand (omega arith) in
    record {
      parts = there.parts;
      are = there.are;
      whole = there.whole;
      size = omega (arith, ap length there.whole, length-append (spelling there.parts) (drop end text), length-drop end text, within);
      no_more = found_none spelled_at text end none;
    }

-- where the text goes on with what is no byte of a string, no more is spelled
spelled_bytes-spelling : (parts : List SpelledByte) (rest : List ℕ) → All IsSpelledByte parts → spelled_at rest ≡ None
    → spelled_bytes (flat_map spelling_of parts ++ rest) ≡ (map byte_of parts, length (flat_map spelling_of parts))
unfolding spelling
spelled_bytes-spelling parts rest are none =
    let text : List ℕ = spelling parts ++ rest in
    let to : ℕ = length (spelling parts) in
    let stand : StandBetween (found_at spelled_at text) 0 (map byte_of parts) to =
    subst (λ n. StandBetween (found_at spelled_at text) 0 (map byte_of parts) n) (zero-add to) (stand-spelling parts text rest 0 are refl) in
    let no_more : found_at spelled_at text to ≡ None =
    ap (λ found. option_map {T = ℕ × ℕ} {U = ℕ × ℕ} (λ f. (f.0, to + f.1)) found) (ap spelled_at (drop-append_seam (spelling parts) rest) ∙ none) in
    items_from-stand (length text) (found_at spelled_at text) 0 (map byte_of parts) to stand no_more (omega (arith, bytes-fit parts, length-append (spelling parts) rest))

-- what goes on a string that is closed, but is no byte of it and no quote, is a backslash
backslash_left : (rest : List ℕ) → spelled_at rest ≡ None → slice_index rest 0 ≢ 34 → closes_after false rest ≡ true → (others : List ℕ) × (rest ≡ 92 ∷ others)
backslash_left [] none unquoted closes = absurd (let never : ⊥ = cc in never)
backslash_left (byte ∷ others) none unquoted closes =
    let other : (byte == 34) ≡ false = ne_eqb byte 34 unquoted in
    elim (byte == 10) as (λ n. (byte == 10) ≡ n → cond n false (cond (byte == 34 && true) true (closes_after (byte == 92 && true) others)) ≡ true → (tail : List ℕ) × (byte ∷ others ≡ 92 ∷ tail)) [
      | true ↦ λ feed h. absurd (let never : ⊥ = cc in never)
      | false ↦ λ no_feed h.
          elim (byte == 92) as (λ b. (byte == 92) ≡ b → (tail : List ℕ) × (byte ∷ others ≡ 92 ∷ tail)) [
            | true ↦ λ backslash. (others, ap (λ b. b ∷ others) (eqb-true byte 92 backslash))
            | false ↦ λ plain.
                let found : spelled_at (byte ∷ others) ≡ Some (byte, 1) = rw other (rw no_feed (rw plain refl)) in
                absurd (let never : ⊥ = cc in never)
          ] refl
    ] refl closes

-- no escape begins where nothing is spelled
no_escape : (others : List ℕ) → spelled_at (92 ∷ others) ≡ None → (part : SpelledByte) (behind : List ℕ) → IsSpelledByte part → 92 ∷ others ≡ spelling_of part ++ behind → ⊥
no_escape others none part behind is whole =
    let found = ap spelled_at whole ∙ spelled_at-spelling_of part behind is in
    let never : ⊥ = cc in never

none_spelled : (others : List ℕ) → ((part : SpelledByte) (behind : List ℕ) → IsSpelledByte part → 92 ∷ others ≡ spelling_of part ++ behind → ⊥) → spelled_at (92 ∷ others) ≡ None
none_spelled others none =
    elim (spelled_at (92 ∷ others)) as (λ (o : Option (ℕ × ℕ)). spelled_at (92 ∷ others) ≡ o → o ≡ None) [
      | None ↦ λ here. refl
      | Some found ↦ λ here. let one = spelled_found (92 ∷ others) found.0 found.1 here in absurd (none one.part one.rest one.is one.whole)
    ] refl

-- where no string is read, no quote is left
no_quote : (rest : List ℕ) → string_at rest ≡ None → slice_index (drop (spelled_bytes rest).1 rest) 0 ≢ 34
no_quote rest none quote =
    let end : ℕ = (spelled_bytes rest).1 in
    let here : slice_index rest end ≡ 34 = ap (slice_index rest) (sym (add-zero end)) ∙ sym (get_or-drop end rest 0 0) ∙ quote in
    let found : string_at rest ≡ Some (token.String (spelled_bytes rest).0, 2 + end) = rw (eq-eqb (slice_index rest end) 34 here) refl in
    let never : ⊥ = cc in never

-- why no string stands behind a quote
string_fault-is : (place : ℕ) (rest : List ℕ) → string_at rest ≡ None → IsFault place (34 ∷ rest) (string_fault place rest)
string_fault-is place rest none =
    let end : ℕ = (spelled_bytes rest).1 in
    let left : List ℕ = drop end rest in
    let up_to = spells_up_to rest in
    let through : closes_after false rest ≡ closes_after false left = ap (closes_after false) up_to.whole ∙ closes-spelling up_to.parts left up_to.are in
    elim (closes_after false left) as (λ b. closes_after false left ≡ b → IsFault place (34 ∷ rest) (cond b (BadByte (place + 1 + end)) (OpenString place))) [
      | true ↦ λ closes.
          let unquoted : slice_index left 0 ≢ 34 = no_quote rest none in
          let backslash = backslash_left left up_to.no_more unquoted closes in
          let whole : rest ≡ flat_map spelling_of up_to.parts ++ 92 ∷ backslash.0 = up_to.whole ∙ ap (λ l. flat_map spelling_of up_to.parts ++ l) backslash.1 in
          let nothing : spelled_at (92 ∷ backslash.0) ≡ None = ap spelled_at (sym backslash.1) ∙ up_to.no_more in
          subst (λ n. IsFault place (34 ∷ rest) (BadByte (place + 1 + n))) (sym up_to.size)
          (bad_escape up_to.parts (closed_of rest (through ∙ closes)) up_to.are whole (no_escape backslash.0 nothing))
      | false ↦ λ opened. open_string (λ closed. let closes = closes-closed rest closed in let never : ⊥ = cc in never)
    ] refl

-- Digits ----------------------------------------------------------------------------------------------------------

-- a number past 2^64 - 1, of the longest form
record IsBigNumber (text : List ℕ) : Type 0 where
  digits : List ℕ
  rest : List ℕ
  longest : IsLongest HasSomeForm text digits rest
  are : AreDigits digits
  big : 2 ^ 64 ≤ digits_value 10 digits

-- only a number is out of range
big_number_of : (kind : TokenKind) (text part rest : List ℕ) → is_in_range kind ≡ false → HasForm kind part rest → IsLongest HasSomeForm text part rest → IsBigNumber text
big_number_of (token.Name name) text part rest past form longest = absurd (let never : ⊥ = cc in never)
big_number_of (token.Number value) text part rest past form longest =
    record { digits = part; rest = rest; longest = longest; are = form.0; big = subst (λ v. 2 ^ 64 ≤ v) form.1 (ltb-false value (2 ^ 64) past) }
big_number_of (token.Port port proto) text part rest past form longest = absurd (let never : ⊥ = cc in never)
big_number_of (token.Address address) text part rest past form longest = absurd (let never : ⊥ = cc in never)
big_number_of (token.Subnet cleared width) text part rest past form longest = absurd (let never : ⊥ = cc in never)
big_number_of (token.String bytes) text part rest past form longest = absurd (let never : ⊥ = cc in never)
big_number_of (token.Attribute name) text part rest past form longest = absurd (let never : ⊥ = cc in never)
big_number_of (token.Load file) text part rest past form longest = absurd (let never : ⊥ = cc in never)
big_number_of (token.Sign sign) text part rest past form longest = absurd (let never : ⊥ = cc in never)

-- digits have a form
numeral_some : (text : List ℕ) → (found : TokenKind × List ℕ) × (numeral_form text ≡ Some found)
numeral_some text =
    elim (located_at text) as (λ (o : Option (TokenKind × List ℕ)). (found : TokenKind × List ℕ) × (option_or o (option_or (port_at text) (digits_at text)) ≡ Some found)) [
      | Some found ↦ (found, refl)
      | None ↦
          elim (port_at text) as (λ (o : Option (TokenKind × List ℕ)). (found : TokenKind × List ℕ) × (option_or o (digits_at text) ≡ Some found)) [
            | Some found ↦ (found, refl)
            | None ↦ ((token.Number (digits_value 10 (take_while is_ascii_digit text)), drop (prefix_len is_ascii_digit text) text), refl)
          ]
    ]

digit_form : (byte : ℕ) (rest : List ℕ) → is_ascii_digit byte ≡ true → (kind : TokenKind) × (len : ℕ) × (form_at (byte ∷ rest) ≡ Some (kind, len)) × (numeral_at (byte ∷ rest) ≡ None → is_in_range kind ≡ false)
unfolding IsReadBy
digit_form byte rest digit =
    let text : List ℕ = byte ∷ rest in
    let found = numeral_some text in
    let read : measured text (numeral_form text) ≡ Some (found.0.0, length text - length found.0.1) = ap (measured text) found.1 in (
      found.0.0,
      length text - length found.0.1,
      form_at-by byte rest (Some (found.0.0, length text - length found.0.1)) (second (digit_begins_no_name byte digit) digit read),
      λ none. elim (is_in_range found.0.0) as (λ b. is_in_range found.0.0 ≡ b → b ≡ false) [
        | true ↦ λ fits.
            let some : numeral_at text ≡ Some (found.0.0, length text - length found.0.1) = ap (λ o. measured text (ranged o)) found.1 ∙ rw fits refl in
            let never : ⊥ = cc in absurd never
        | false ↦ λ past. refl
      ] refl,
    )

-- The fault that is told ------------------------------------------------------------------------------------------

-- where no form is read, none stands
no_form : (text part rest : List ℕ) → form_at text ≡ None → text ≡ part ++ rest → HasSomeForm part rest → ⊥
no_form text part rest none whole (kind, form) =
    let least = read_at_least kind part rest form in
    let found = sym none ∙ ap form_at whole ∙ least.is in
    let never : ⊥ = cc in never

told_by : (place byte : ℕ) (rest : List ℕ) → IsReadBy byte rest (numeral_at (byte ∷ rest)) None → IsFault place (byte ∷ rest) (fault_of place (byte ∷ rest))
unfolding IsReadBy
told_by place byte rest (first name is) = absurd (let never : ⊥ = cc in never)
told_by place byte rest (second name digit is) =
    let text : List ℕ = byte ∷ rest in
    let found = digit_form byte rest digit in
    let there = form_found text found.0 found.1 found.2 in
    let big = big_number_of found.0 text there.part there.rest (found.3 is) there.form (form_longest text found.0 found.1 found.2) in
    rw digit (big_number big.longest big.are big.big)
told_by place byte rest (third name digit quote is) =
    rw digit (rw quote (subst (λ b. IsFault place (b ∷ rest) (string_fault place rest)) (sym (eqb-true byte 34 quote)) (string_fault-is place rest is)))
told_by place byte rest (fourth name digit quote at is) =
    rw digit (rw quote (bad_byte (differs byte 34 quote) (λ part others. no_form (byte ∷ rest) part others (form_at-by byte rest None (fourth name digit quote at is)))))
told_by place byte rest (fifth name digit quote at attribute is) = absurd (let never : ⊥ = cc in never)
told_by place byte rest (sixth name digit quote at attribute is) =
    rw digit (rw quote (bad_byte (differs byte 34 quote) (λ part others. no_form (byte ∷ rest) part others (form_at-by byte rest None (sixth name digit quote at attribute is)))))

pub told : (place : ℕ) (text : List ℕ) → BeginsNoToken text → IsFault place text (fault_of place text)
told place [] left = absurd (left.some refl)
told place (byte ∷ rest) left = told_by place byte rest (token_read_by byte rest None (not_read (byte ∷ rest) left))

-- It is the only one ----------------------------------------------------------------------------------------------

-- no token is read there, and the fault is the one that is told
record IsTold (place : ℕ) (text : List ℕ) (fault : Fault) : Type 0 where
  some : text ≢ []
  none : token_at text ≡ None
  is : fault ≡ fault_of place text

-- a token that is read has the form
no_token : (text : List ℕ) → form_at text ≡ None → token_at text ≡ None
no_token text none =
    elim (token_at text) as (λ (o : Option (TokenKind × ℕ)). token_at text ≡ o → o ≡ None) [
      | None ↦ λ here. refl
      | Some found ↦ λ here. let form = token_form text found.0 found.1 here in let never : ⊥ = (let read = form.0 in cc) in absurd never
    ] refl

formless : (text : List ℕ) → ((part others : List ℕ) → text ≡ part ++ others → HasSomeForm part others → ⊥) → form_at text ≡ None
formless text none =
    elim (form_at text) as (λ (o : Option (TokenKind × ℕ)). form_at text ≡ o → o ≡ None) [
      | None ↦ λ here. refl
      | Some found ↦ λ here. let there = form_found text found.0 found.1 here in absurd (none there.part there.rest there.whole (found.0, there.form))
    ] refl

bad_byte_told : (place byte : ℕ) (rest : List ℕ) → byte ≢ 34 → ((part others : List ℕ) → byte ∷ rest ≡ part ++ others → HasSomeForm part others → ⊥)
    → IsTold place (byte ∷ rest) (BadByte place)
bad_byte_told place byte rest unquoted none =
    let no_form_read = formless (byte ∷ rest) none in
    let other : is_ascii_digit byte ≡ false =
    elim (is_ascii_digit byte) as (λ b. is_ascii_digit byte ≡ b → b ≡ false) [
      | true ↦ λ digit. let found = digit_form byte rest digit in let never : ⊥ = (let read = found.2 in cc) in absurd never
      | false ↦ λ is. refl
    ] refl in
    record {
      some = λ empty. let never : ⊥ = cc in never;
      none = no_token (byte ∷ rest) no_form_read;
      is = rw other (rw (ne_eqb byte 34 unquoted) refl);
    }

-- no string is read behind a quote that none closes
open_told : (place : ℕ) (rest : List ℕ) → (IsClosed rest → ⊥) → IsTold place (34 ∷ rest) (OpenString place)
open_told place rest opened =
    let end : ℕ = (spelled_bytes rest).1 in
    let up_to = spells_up_to rest in
    let none : string_at rest ≡ None =
    elim (string_at rest) as (λ (o : Option (TokenKind × ℕ)). string_at rest ≡ o → o ≡ None) [
      | None ↦ λ here. refl
      | Some found ↦ λ here.
          let there = string_found rest found.0 found.1 here in
          let closes : closes_after false rest ≡ true = ap (closes_after false) there.whole ∙ closes-spelling there.parts (34 ∷ there.rest) there.are in
          absurd (opened (closed_of rest closes))
    ] refl in
    let open_left : closes_after false (drop end rest) ≡ false =
    elim (closes_after false (drop end rest)) as (λ b. closes_after false (drop end rest) ≡ b → b ≡ false) [
      | true ↦ λ closes. absurd (opened (closed_of rest (ap (closes_after false) up_to.whole ∙ closes-spelling up_to.parts (drop end rest) up_to.are ∙ closes)))
      | false ↦ λ is. refl
    ] refl in
    record { some = λ empty. let never : ⊥ = cc in never; none = none; is = rw open_left refl }

escape_told : (place : ℕ) (rest others : List ℕ) (spelled : List SpelledByte) → IsClosed rest → All IsSpelledByte spelled → rest ≡ flat_map spelling_of spelled ++ 92 ∷ others
    → ((part : SpelledByte) (behind : List ℕ) → IsSpelledByte part → 92 ∷ others ≡ spelling_of part ++ behind → ⊥)
    → IsTold place (34 ∷ rest) (BadByte (place + 1 + length (flat_map spelling_of spelled)))
escape_told place rest others spelled closed are whole none =
    let w : List ℕ = flat_map spelling_of spelled in
    let read : spelled_bytes rest ≡ (map byte_of spelled, length w) = ap spelled_bytes whole ∙ spelled_bytes-spelling spelled (92 ∷ others) are (none_spelled others none) in
    let backslash : slice_index rest (length w) ≡ 92 = ap (λ r. slice_index r (length w)) whole ∙ get_or-append_seam w 92 others 0 in
    let left : drop (length w) rest ≡ 92 ∷ others = ap (drop (length w)) whole ∙ drop-append_seam w (92 ∷ others) in
    let closes : closes_after false (92 ∷ others) ≡ true = sym (closes-spelling spelled (92 ∷ others) are) ∙ ap (closes_after false) (sym whole) ∙ closes-closed rest closed in
    record {
      some = λ empty. let never : ⊥ = cc in never;
      none = ap (λ (found : List ℕ × ℕ). if slice_index rest found.1 == 34 then Some (token.String found.0, 2 + found.1) else None) read ∙ rw backslash refl;
      is = sym (ap (λ (found : List ℕ × ℕ). if closes_after false (drop found.1 rest) then BadByte (place + 1 + found.1) else OpenString place) read
          ∙ rw left (ap (λ b. if b then BadByte (place + 1 + length w) else OpenString place) closes));
    }

big_told : (place : ℕ) (text digits rest : List ℕ) → IsLongest HasSomeForm text digits rest → AreDigits digits → 2 ^ 64 ≤ digits_value 10 digits
    → IsTold place text (BigNumber place)
big_told place text [] rest longest are big = absurd (are.0 refl)
big_told place text (byte ∷ others) rest longest are big =
    let digits : List ℕ = byte ∷ others in
    let digit : is_ascii_digit byte ≡ true = All-head (λ b. is_ascii_digit b ≡ true) byte others are.1 in
    let form : form_at text ≡ Some (token.Number (digits_value 10 digits), length digits) = longest_read (token.Number (digits_value 10 digits)) text digits rest longest (are, refl) in
    record {
      some = λ empty. let never : ⊥ = (let whole = sym empty ∙ longest.whole in cc) in never;
      none =
          elim (token_at text) as (λ (o : Option (TokenKind × ℕ)). token_at text ≡ o → o ≡ None) [
            | None ↦ λ here. refl
            | Some found ↦ λ here.
                let read = token_form text found.0 found.1 here in
                let same = (pair_parts (token.Number (digits_value 10 digits), length digits) (found.0, found.1) (sym form ∙ read.0)).0 in
                let small : digits_value 10 digits < 2 ^ 64 = subst IsInRange (sym same) read.1 in
                absurd (omega (arith, small, big))
          ] refl;
      is = sym (ap (fault_of place) longest.whole ∙ rw digit refl);
    }

is_told : {place : ℕ} {text : List ℕ} {fault : Fault} → IsFault place text fault → IsTold place text fault
is_told (bad_byte {place = place} {byte = byte} {rest = rest} unquoted none) = bad_byte_told place byte rest unquoted none
is_told (bad_escape {place = place} {rest = rest} {others = others} spelled closed are whole none) = escape_told place rest others spelled closed are whole none
is_told (open_string {place = place} {rest = rest} opened) = open_told place rest opened
is_told (big_number {place = place} {text = text} {digits = digits} {rest = rest} longest are big) = big_told place text digits rest longest are big

pub one_fault : (text : List ℕ) (place : ℕ) (fault : Fault) → IsFault place text fault → fault ≡ fault_of place text
one_fault text place fault is = (is_told is).is

pub none_where_fault : (text : List ℕ) (place : ℕ) (fault : Fault) → IsFault place text fault → BeginsNoToken text
none_where_fault text place fault is = let there = is_told is in begins_none text there.some there.none

pub none_begins : (text : List ℕ) (place : ℕ) → BeginsNoToken text ↔ IsFault place text (fault_of place text)
none_begins text place = (told place text, none_where_fault text place (fault_of place text))

-- As the code reads strings ---------------------------------------------------------------------------------------

-- the fault of a string whose bytes end there, without a quote
pub string_refused : (place : ℕ) (text bytes : List ℕ) (end : ℕ) (closes : Bool) → StandBetween (found_at spelled_at text) 0 bytes end → found_at spelled_at text end ≡ None
    → length bytes ≤ length text → slice_index text end ≢ 34 → closes ≡ closes_after false (take (length text - end) (drop end text))
    → ok_or (string_at text) (string_fault place text) ≡ Err (if closes then BadByte (place + 1 + end) else OpenString place)
string_refused place text bytes end closes stand no_more enough other is =
    let read : spelled_bytes text ≡ (bytes, end) = items_from-stand (length text) (found_at spelled_at text) 0 bytes end stand no_more enough in
    let fault : string_fault place text ≡ (if closes then BadByte (place + 1 + end) else OpenString place) =
    ap (λ (found : List ℕ × ℕ). if closes_after false (drop found.1 text) then BadByte (place + 1 + found.1) else OpenString place) read
    ∙ ap (λ b. if b then BadByte (place + 1 + end) else OpenString place) (ap (closes_after false) (sym (rest_whole end text)) ∙ sym is) in
    ap (λ (o : Option (TokenKind × ℕ)). ok_or o (string_fault place text)) (sym (string_open text bytes end stand no_more enough other)) ∙ ap (λ f. Err f) fault
