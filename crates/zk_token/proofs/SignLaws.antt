-- The reader of signs finds the longest sign.
use Rattle.std.proofs.Common.{◌≡◌, ℕ, Bool, true, false, not, ◌&&◌, ◌==◌, cond, List, [], ◌∷◌, ◌++◌, length, slice_index, Option, Some, None, codes, refl, sym, ap, subst, ◌∙◌, arith}
use Rattle.std.specs.List.{list_all}
use Rattle.std.specs.Char.{is_ascii_digit}
use Rattle.std.specs.Map.{lookup}
use Rattle.std.specs.Option.{option_map, option_or}
use Rattle.std.proofs.lemmas.Bool.{eqb-true}
use Rattle.zk_tree.specs.declared.token.TokenKind.{TokenKind}
use Rattle.zk_tree.specs.declared.token.TokenKind.TheVariants as token
use Rattle.zk_tree.specs.declared.token.Sign.{Sign}
use Rattle.zk_tree.specs.declared.token.Sign.TheVariants as sign
use Rattle.zk_token.specs.Signs.{single_signs, double_signs, single_sign, double_sign, goes_on, is_not_in, double_at, single_at, sign_at}
use Rattle.zk_token.specs.TokenForms.{IsSign}
use Rattle.zk_token.specs.Words.{begins_name, begins_word}
use Rattle.zk_token.proofs.FrontLaws.{IsReadAtLeast}
use Rattle.zk_token.proofs.ByteTests.{both, false_of, pair_parts, three_bytes}

-- What all entries of a table pass --------------------------------------------------------------------------------

single-passes : (p : ℕ → Bool) (table : List (ℕ × Sign)) (byte : ℕ) (found : Sign) → list_all (λ entry. p entry.0) table ≡ true
    → lookup (λ code. code == byte) table ≡ Some found → p byte ≡ true
single-passes p [] byte found all is = absurd (let never : ⊥ = cc in never)
single-passes p (entry ∷ table) byte found all is =
    let parts = both (p entry.0) (list_all (λ (e : ℕ × Sign). p e.0) table) all in
    elim (entry.0 == byte) as (λ b. (entry.0 == byte) ≡ b → cond b (Some entry.1) (lookup (λ code. code == byte) table) ≡ Some found → p byte ≡ true) [
      | true ↦ λ here is. ap p (sym (eqb-true entry.0 byte here)) ∙ parts.0
      | false ↦ λ other is. single-passes p table byte found parts.1 is
    ] refl is

double-passes : (p : ℕ → ℕ → Bool) (table : List ((ℕ × ℕ) × Sign)) (first second : ℕ) (found : Sign) → list_all (λ entry. p entry.0.0 entry.0.1) table ≡ true
    → lookup (λ codes. codes.0 == first && codes.1 == second) table ≡ Some found → p first second ≡ true
double-passes p [] first second found all is = absurd (let never : ⊥ = cc in never)
double-passes p (entry ∷ table) first second found all is =
    let parts = both (p entry.0.0 entry.0.1) (list_all (λ (e : (ℕ × ℕ) × Sign). p e.0.0 e.0.1) table) all in
    elim (entry.0.0 == first && entry.0.1 == second) as (λ b. (entry.0.0 == first && entry.0.1 == second) ≡ b
    → cond b (Some entry.1) (lookup (λ codes. codes.0 == first && codes.1 == second) table) ≡ Some found → p first second ≡ true) [
      | true ↦ λ here is.
          let same = both (entry.0.0 == first) (entry.0.1 == second) here in
          ap (λ a. p a second) (sym (eqb-true entry.0.0 first same.0)) ∙ ap (p entry.0.0) (sym (eqb-true entry.0.1 second same.1)) ∙ parts.0
      | false ↦ λ other is. double-passes p table first second found parts.1 is
    ] refl is

-- First bytes -----------------------------------------------------------------------------------------------------

-- the byte begins neither a name nor a number nor a string nor a load, nor passes this test
begins_no_other : ℕ → Bool → Bool
begins_no_other byte attribute = not (begins_name byte) && not (is_ascii_digit byte) && not (byte == 34) && not (byte == 64) && not attribute

-- a byte, before others, begins a sign, if anything
pub record BeginsNoOther (byte : ℕ) (rest : List ℕ) : Type 0 where
  pub name : begins_name byte ≡ false
  pub digit : is_ascii_digit byte ≡ false
  pub quote : (byte == 34) ≡ false
  pub load : (byte == 64) ≡ false
  pub attribute : (byte == 38 && begins_word rest) ≡ false

no_other : (byte : ℕ) (rest : List ℕ) (test : Bool) → begins_no_other byte test ≡ true → (test ≡ false → (byte == 38 && begins_word rest) ≡ false) → BeginsNoOther byte rest
unfolding begins_no_other
no_other byte rest test passes attribute =
    let four = both (not (begins_name byte) && not (is_ascii_digit byte) && not (byte == 34) && not (byte == 64)) (not test) passes in
    let three = both (not (begins_name byte) && not (is_ascii_digit byte) && not (byte == 34)) (not (byte == 64)) four.0 in
    let two = both (not (begins_name byte) && not (is_ascii_digit byte)) (not (byte == 34)) three.0 in
    let one = both (not (begins_name byte)) (not (is_ascii_digit byte)) two.0 in
    record {
      name = false_of (begins_name byte) one.0;
      digit = false_of (is_ascii_digit byte) one.1;
      quote = false_of (byte == 34) two.1;
      load = false_of (byte == 64) three.1;
      attribute = attribute (false_of test four.1);
    }

singles_begin_no_other : list_all (λ (entry : ℕ × Sign). begins_no_other entry.0 (entry.0 == 38)) single_signs ≡ true
unfolding begins_no_other
singles_begin_no_other = refl

doubles_begin_no_other : list_all (λ (entry : (ℕ × ℕ) × Sign). begins_no_other entry.0.0 (entry.0.0 == 38 && begins_name entry.0.1)) double_signs ≡ true
unfolding begins_no_other
doubles_begin_no_other = refl

pub sign_first : (found : Sign) (byte : ℕ) (others rest : List ℕ) → IsSign found (byte ∷ others) rest → BeginsNoOther byte (others ++ rest)
sign_first found byte [] rest is =
    let passes = single-passes (λ b. begins_no_other b (b == 38)) single_signs byte found singles_begin_no_other is in
    no_other byte rest (byte == 38) passes (λ other. ap (λ b. b && begins_word rest) other)
sign_first found byte (second ∷ []) rest is =
    let passes = double-passes (λ a b. begins_no_other a (a == 38 && begins_name b)) double_signs byte second found doubles_begin_no_other is in
    no_other byte (second ∷ rest) (byte == 38 && begins_name second) passes (λ other. other)
sign_first found byte (second ∷ third ∷ others) rest is =
    let first : byte ≡ 33 = ap (λ l. slice_index l 0) is.0 in
    subst (λ b. BeginsNoOther b (second ∷ third ∷ others ++ rest)) (sym first) (record { name = refl; digit = refl; quote = refl; load = refl; attribute = refl })

-- What is read is a sign ------------------------------------------------------------------------------------------

pub record IsSignFound (text : List ℕ) (kind : TokenKind) (len : ℕ) : Type 0 where
  pub part : List ℕ
  pub rest : List ℕ
  pub sign : Sign
  pub whole : text ≡ part ++ rest
  pub is : token.Sign sign ≡ kind
  pub size : length part ≡ len
  pub form : IsSign sign part rest

not_in_found : (text : List ℕ) → is_not_in text ≡ true → (rest : List ℕ) × (text ≡ codes "!in" ++ rest) × (goes_on rest ≡ false)
not_in_found [] is = absurd (let never : ⊥ = cc in never)
not_in_found (a ∷ []) is = absurd (let never : ⊥ = cc in never)
not_in_found (a ∷ b ∷ []) is = absurd (let never : ⊥ = cc in never)
not_in_found (a ∷ b ∷ c ∷ rest) is =
    let parts = both (a == 33 && b == 105 && c == 110) (not (goes_on rest)) is in
    (rest, three_bytes a b c 33 105 110 rest parts.0, false_of (goes_on rest) parts.1)

double_found : (text : List ℕ) (found : Sign) → double_at text ≡ Some found → IsSignFound text (token.Sign found) 2
double_found [] found is = absurd (let never : ⊥ = cc in never)
double_found (a ∷ []) found is = absurd (let never : ⊥ = cc in never)
double_found (a ∷ b ∷ rest) found is = record { part = a ∷ b ∷ []; rest = rest; sign = found; whole = refl; is = refl; size = refl; form = is }

single_found : (text : List ℕ) (found : Sign) → single_at text ≡ Some found → IsSignFound text (token.Sign found) 1
single_found [] found is = absurd (let never : ⊥ = cc in never)
single_found (a ∷ rest) found is = record { part = a ∷ []; rest = rest; sign = found; whole = refl; is = refl; size = refl; form = is }

-- a sign of so many bytes
with_len : ℕ → Sign → TokenKind × ℕ
with_len len found = (token.Sign found, len)

same_found : (text : List ℕ) (sign : Sign) (size : ℕ) (kind : TokenKind) (len : ℕ) → Some (with_len size sign) ≡ Some (kind, len) → IsSignFound text (token.Sign sign) size → IsSignFound text kind len
unfolding with_len
same_found text sign size kind len same found =
    let parts = pair_parts (with_len size sign) (kind, len) same in
    record { part = found.part; rest = found.rest; sign = found.sign; whole = found.whole; is = found.is ∙ parts.0; size = found.size ∙ parts.1; form = found.form }

pub sign_found : (text : List ℕ) (kind : TokenKind) (len : ℕ) → sign_at text ≡ Some (kind, len) → IsSignFound text kind len
unfolding with_len
sign_found text kind len found =
    elim (is_not_in text) as (λ b. is_not_in text ≡ b
    → cond b (Some (token.Sign sign.NotIn, 3)) (option_or (option_map (with_len 2) (double_at text)) (option_map (with_len 1) (single_at text))) ≡ Some (kind, len) → IsSignFound text kind len) [
      | true ↦ λ not_in is.
          let there = not_in_found text not_in in
          same_found text sign.NotIn 3 kind len is
          (record { part = codes "!in"; rest = there.0; sign = sign.NotIn; whole = there.1; is = refl; size = refl; form = (refl, refl, there.2) })
      | false ↦ λ other.
          elim (double_at text) as (λ (o : Option Sign). double_at text ≡ o → option_or (option_map (with_len 2) o) (option_map (with_len 1) (single_at text)) ≡ Some (kind, len) → IsSignFound text kind len) [
            | Some double ↦ λ here is. same_found text double 2 kind len is (double_found text double here)
            | None ↦ λ none.
                elim (single_at text) as (λ (o : Option Sign). single_at text ≡ o → option_map (with_len 1) o ≡ Some (kind, len) → IsSignFound text kind len) [
                  | Some single ↦ λ here is. same_found text single 1 kind len is (single_found text single here)
                  | None ↦ λ neither is. absurd (let never : ⊥ = cc in never)
                ] refl
          ] refl
    ] refl found

-- It is the longest -----------------------------------------------------------------------------------------------

pub sign_at_least : (found : Sign) (part rest : List ℕ) → IsSign found part rest → IsReadAtLeast (sign_at (part ++ rest)) (token.Sign found) part
unfolding with_len
sign_at_least found [] rest is = absurd is
sign_at_least found (byte ∷ []) rest is =
    let text : List ℕ = byte ∷ rest in
    elim (is_not_in text) as (λ b. is_not_in text ≡ b
    → IsReadAtLeast (cond b (Some (token.Sign sign.NotIn, 3)) (option_or (option_map (with_len 2) (double_at text)) (option_map (with_len 1) (single_sign byte)))) (token.Sign found) (byte ∷ [])) [
      | true ↦ λ not_in. record { read = token.Sign sign.NotIn; len = 3; is = refl; size = omega arith; same = λ long. absurd (omega (arith, long)) }
      | false ↦ λ other.
          elim (double_at text) as (λ (o : Option Sign). double_at text ≡ o
          → IsReadAtLeast (option_or (option_map (with_len 2) o) (option_map (with_len 1) (single_sign byte))) (token.Sign found) (byte ∷ [])) [
            | Some double ↦ λ here. record { read = token.Sign double; len = 2; is = refl; size = omega arith; same = λ long. absurd (omega (arith, long)) }
            | None ↦ λ none. record { read = token.Sign found; len = 1; is = ap (option_map (with_len 1)) is; size = omega arith; same = λ long. refl }
          ] refl
    ] refl
sign_at_least found (first ∷ second ∷ []) rest is =
    let text : List ℕ = first ∷ second ∷ rest in
    elim (is_not_in text) as (λ b. is_not_in text ≡ b
    → IsReadAtLeast (cond b (Some (token.Sign sign.NotIn, 3)) (option_or (option_map (with_len 2) (double_sign first second)) (option_map (with_len 1) (single_sign first)))) (token.Sign found) (first ∷ second ∷ [])) [
      | true ↦ λ not_in. record { read = token.Sign sign.NotIn; len = 3; is = refl; size = omega arith; same = λ long. absurd (omega (arith, long)) }
      | false ↦ λ other. record { read = token.Sign found; len = 2; is = ap (λ o. option_or (option_map (with_len 2) o) (option_map (with_len 1) (single_sign first))) is; size = omega arith; same = λ long. refl }
    ] refl
sign_at_least found (first ∷ second ∷ third ∷ others) rest is =
    let there : sign_at (codes "!in" ++ rest) ≡ Some (token.Sign sign.NotIn, 3) = rw is.2 refl in
    record {
      read = token.Sign sign.NotIn;
      len = 3;
      is = ap (λ part. sign_at (part ++ rest)) is.0 ∙ there;
      size = omega (arith, ap length is.0);
      same = λ long. ap token.Sign (sym is.1);
    }
