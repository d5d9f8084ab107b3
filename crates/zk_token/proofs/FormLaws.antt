-- The reader of tokens finds the longest part of a text that has the form of a token.
use Rattle.std.proofs.Common.{◌≡◌, ◌≢◌, ℕ, ◌+◌, ◌-◌, ◌≤◌, ◌^◌, Bool, true, false, ◌&&◌, ◌==◌, cond, List, [], ◌∷◌, ◌++◌, length, map, take, drop, Option, Some, None, refl, sym, ap, subst, ◌∙◌, arith, length-append, append_assoc}
use Rattle.std.specs.List.{All, flat_map}
use Rattle.std.specs.Char.{is_ascii_digit}
use Rattle.std.proofs.lemmas.Bool.{eqb-true, lt-ltb, ltb-true}
use Rattle.std.proofs.lemmas.Bool.Decides.{nat_tests}
use Rattle.std.proofs.lemmas.List.{take-append-drop, length-take-le}
use Rattle.zk_tree.specs.declared.token.TokenKind.{TokenKind}
use Rattle.zk_tree.specs.declared.token.TokenKind.TheVariants as token
use Rattle.zk_tree.specs.declared.token.Sign.{Sign}
use Rattle.zk_token.specs.Numerals.{numeral_form, is_in_range, ranged, measured, numeral_at}
use Rattle.zk_token.specs.Signs.{sign_at}
use Rattle.zk_token.specs.Strings.{string_at}
use Rattle.zk_token.specs.Tokens.{token_at}
use Rattle.zk_token.specs.TokenForms.{SpelledByte, spelling_of, byte_of, IsSpelledByte, quoted, IsName, HasForm, HasSomeForm, IsInRange, IsLoad, IsLongest, IsSign, IsToken, BeginsNoToken}
use Rattle.zk_token.specs.Words.{begins_name, begins_word, name_len, name_at, attribute_at, load_at}
use Rattle.zk_token.proofs.FrontLaws.{IsReadAtLeast, front_taken}
use Rattle.zk_token.proofs.NumeralLaws.{IsNumeral, a_number, a_port, an_address, a_subnet, numeral_at_least, numeral_first, numeral_read}
use Rattle.zk_token.proofs.SignLaws.{sign_first, sign_found, sign_at_least}
use Rattle.zk_token.proofs.StringLaws.{string_at-spelling, IsStringFound, string_found}
use Rattle.zk_token.proofs.ByteTests.{both, pair_parts}
use Rattle.zk_token.proofs.WordLaws.{name_taken, name_size, begins_where_name, name_len-fit, load_found, load_at_least, load_first}

-- One of six readers ----------------------------------------------------------------------------------------------

-- what is chosen by five tests
choose : {X : Type 0} → Bool → Bool → Bool → Bool → Bool → X → X → X → X → X → X → X
choose a b c d e u v w x y z = cond a u (cond b v (cond c w (cond d x (cond e y z))))

-- by each test in turn
pub data IsChosen {X : Type 0} (a b c d e : Bool) (u v w x y z r : X) : Type 0 where
  first : a ≡ true → u ≡ r → IsChosen a b c d e u v w x y z r
  second : a ≡ false → b ≡ true → v ≡ r → IsChosen a b c d e u v w x y z r
  third : a ≡ false → b ≡ false → c ≡ true → w ≡ r → IsChosen a b c d e u v w x y z r
  fourth : a ≡ false → b ≡ false → c ≡ false → d ≡ true → x ≡ r → IsChosen a b c d e u v w x y z r
  fifth : a ≡ false → b ≡ false → c ≡ false → d ≡ false → e ≡ true → y ≡ r → IsChosen a b c d e u v w x y z r
  sixth : a ≡ false → b ≡ false → c ≡ false → d ≡ false → e ≡ false → z ≡ r → IsChosen a b c d e u v w x y z r

chosen : {X : Type 0} (a b c d e : Bool) (u v w x y z r : X) → choose a b c d e u v w x y z ≡ r → IsChosen a b c d e u v w x y z r
unfolding choose
chosen true b c d e u v w x y z r h = first refl h
chosen false true c d e u v w x y z r h = second refl refl h
chosen false false true d e u v w x y z r h = third refl refl refl h
chosen false false false true e u v w x y z r h = fourth refl refl refl refl h
chosen false false false false true u v w x y z r h = fifth refl refl refl refl refl h
chosen false false false false false u v w x y z r h = sixth refl refl refl refl refl h

choose-of : {X : Type 0} (a b c d e : Bool) (u v w x y z r : X) → IsChosen a b c d e u v w x y z r → choose a b c d e u v w x y z ≡ r
unfolding choose
choose-of a b c d e u v w x y z r (first h is) = rw h is
choose-of a b c d e u v w x y z r (second h i is) = rw h (rw i is)
choose-of a b c d e u v w x y z r (third h i j is) = rw h (rw i (rw j is))
choose-of a b c d e u v w x y z r (fourth h i j k is) = rw h (rw i (rw j (rw k is)))
choose-of a b c d e u v w x y z r (fifth h i j k l is) = rw h (rw i (rw j (rw k (rw l is))))
choose-of a b c d e u v w x y z r (sixth h i j k l is) = rw h (rw i (rw j (rw k (rw l is))))

-- The form at the front of a text ---------------------------------------------------------------------------------

-- the form that is read, with a number of any value
abbrev pub form_at : List ℕ → Option (TokenKind × ℕ)
form_at [] = None
form_at (byte ∷ rest) =
    cond (begins_name byte) (name_at (byte ∷ rest)) (cond (is_ascii_digit byte) (measured (byte ∷ rest) (numeral_form (byte ∷ rest)))
    (cond (byte == 34) (string_at rest) (cond (byte == 64) (load_at (byte ∷ rest)) (cond (byte == 38 && begins_word rest) (attribute_at rest) (sign_at (byte ∷ rest))))))

-- which of the six reads a form
unfoldable pub IsReadBy : ℕ → List ℕ → Option (TokenKind × ℕ) → Option (TokenKind × ℕ) → Type 0
IsReadBy byte rest numeral read =
    IsChosen (begins_name byte) (is_ascii_digit byte) (byte == 34) (byte == 64) (byte == 38 && begins_word rest)
    (name_at (byte ∷ rest)) numeral (string_at rest) (load_at (byte ∷ rest)) (attribute_at rest) (sign_at (byte ∷ rest)) read

form_read_by : (byte : ℕ) (rest : List ℕ) (read : Option (TokenKind × ℕ)) → form_at (byte ∷ rest) ≡ read → IsReadBy byte rest (measured (byte ∷ rest) (numeral_form (byte ∷ rest))) read
unfolding IsReadBy choose
form_read_by byte rest read is = chosen _ _ _ _ _ _ _ _ _ _ _ read is

pub form_at-by : (byte : ℕ) (rest : List ℕ) (read : Option (TokenKind × ℕ)) → IsReadBy byte rest (measured (byte ∷ rest) (numeral_form (byte ∷ rest))) read → form_at (byte ∷ rest) ≡ read
unfolding IsReadBy choose
form_at-by byte rest read by = choose-of _ _ _ _ _ _ _ _ _ _ _ read by

pub token_read_by : (byte : ℕ) (rest : List ℕ) (read : Option (TokenKind × ℕ)) → token_at (byte ∷ rest) ≡ read → IsReadBy byte rest (numeral_at (byte ∷ rest)) read
unfolding IsReadBy choose
token_read_by byte rest read is = chosen _ _ _ _ _ _ _ _ _ _ _ read is

token_at-by : (byte : ℕ) (rest : List ℕ) (read : Option (TokenKind × ℕ)) → IsReadBy byte rest (numeral_at (byte ∷ rest)) read → token_at (byte ∷ rest) ≡ read
unfolding IsReadBy choose
token_at-by byte rest read by = choose-of _ _ _ _ _ _ _ _ _ _ _ read by

-- What is read has the form ---------------------------------------------------------------------------------------

pub record IsFormFound (text : List ℕ) (kind : TokenKind) (len : ℕ) : Type 0 where
  pub part : List ℕ
  pub rest : List ℕ
  pub whole : text ≡ part ++ rest
  pub size : len ≡ length part
  pub form : HasForm kind part rest

name_found : (byte : ℕ) (others : List ℕ) (kind : TokenKind) (len : ℕ) → begins_name byte ≡ true → name_at (byte ∷ others) ≡ Some (kind, len)
    → IsFormFound (byte ∷ others) kind len
name_found byte others kind len begins found =
    let text : List ℕ = byte ∷ others in
    let count : ℕ = name_len text in
    let parts = pair_parts (token.Name (take count text), count) (kind, len) found in
    record {
      part = take count text;
      rest = drop count text;
      whole = sym (take-append-drop count text);
      size = sym parts.1 ∙ sym (length-take-le count text (name_len-fit text));
      form = subst (λ k. HasForm k (take count text) (drop count text)) parts.0 (name_taken text begins, refl);
    }

numeral_found : (byte : ℕ) (others : List ℕ) (kind : TokenKind) (len : ℕ) → is_ascii_digit byte ≡ true
    → measured (byte ∷ others) (numeral_form (byte ∷ others)) ≡ Some (kind, len) → IsFormFound (byte ∷ others) kind len
numeral_found byte others kind len digit found =
    let text : List ℕ = byte ∷ others in
    elim (numeral_form text) as (λ (o : Option (TokenKind × List ℕ)). numeral_form text ≡ o → measured text o ≡ Some (kind, len) → IsFormFound text kind len) [
      | None ↦ λ none is. absurd (let never : ⊥ = cc in never)
      | Some found ↦ λ here is.
          let parts = pair_parts (found.0, length text - length found.1) (kind, len) is in
          let read = numeral_read byte others found.0 found.1 digit here in
          record {
            part = read.part;
            rest = found.1;
            whole = read.whole;
            size = omega (arith, parts.1, ap length read.whole, length-append read.part found.1);
            form = subst (λ k. HasForm k read.part found.1) parts.0 read.fits;
          }
    ] refl found

length-quoted : (parts : List SpelledByte) → length (quoted parts) ≡ 2 + length (flat_map spelling_of parts)
length-quoted parts = omega (arith, length-append (flat_map spelling_of parts) (34 ∷ []))

text_found : (byte : ℕ) (rest : List ℕ) (kind : TokenKind) (len : ℕ) → (byte == 34) ≡ true → IsStringFound rest kind len
    → IsFormFound (byte ∷ rest) kind len
text_found byte rest kind len quote found =
    let w : List ℕ = flat_map spelling_of found.parts in
    let whole : byte ∷ rest ≡ quoted found.parts ++ found.rest =
    ap (λ b. b ∷ rest) (eqb-true byte 34 quote) ∙ ap (λ r. 34 ∷ r) (found.whole ∙ sym (append_assoc w (34 ∷ []) found.rest)) in
    record {
      part = quoted found.parts;
      rest = found.rest;
      whole = whole;
      size = found.size ∙ sym (length-quoted found.parts);
      form = subst (λ k. HasForm k (quoted found.parts) found.rest) (sym found.is) (found.parts, found.are, refl, refl);
    }

attribute_found : (byte : ℕ) (others : List ℕ) (kind : TokenKind) (len : ℕ) → (byte == 38 && begins_word others) ≡ true → attribute_at others ≡ Some (kind, len)
    → IsFormFound (byte ∷ others) kind len
attribute_found byte others kind len begins found =
    let count : ℕ = name_len others in
    let tests = both (byte == 38) (begins_word others) begins in
    let name : List ℕ = take count others in
    let parts = pair_parts (token.Attribute name, 1 + count) (kind, len) found in
    record {
      part = 38 ∷ name;
      rest = drop count others;
      whole = ap (λ b. b ∷ others) (eqb-true byte 38 tests.0) ∙ ap (λ o. 38 ∷ o) (sym (take-append-drop count others));
      size = omega (arith, parts.1, length-take-le count others (name_len-fit others));
      form = subst (λ k. HasForm k (38 ∷ name) (drop count others)) parts.0 (name_taken others tests.1, refl);
    }

load_form_found : (text : List ℕ) (kind : TokenKind) (len : ℕ) → load_at text ≡ Some (kind, len) → IsFormFound text kind len
load_form_found text kind len found =
    let there = load_found text kind len found in
    record { part = there.part; rest = there.rest; whole = there.whole; size = sym there.size; form = subst (λ k. HasForm k there.part there.rest) there.is there.form }

sign_form_found : (text : List ℕ) (kind : TokenKind) (len : ℕ) → sign_at text ≡ Some (kind, len) → IsFormFound text kind len
sign_form_found text kind len found =
    let there = sign_found text kind len found in
    record { part = there.part; rest = there.rest; whole = there.whole; size = sym there.size; form = subst (λ k. HasForm k there.part there.rest) there.is there.form }

found_by : (byte : ℕ) (rest : List ℕ) (kind : TokenKind) (len : ℕ) → IsReadBy byte rest (measured (byte ∷ rest) (numeral_form (byte ∷ rest))) (Some (kind, len))
    → IsFormFound (byte ∷ rest) kind len
unfolding IsReadBy
found_by byte rest kind len (first name is) = name_found byte rest kind len name is
found_by byte rest kind len (second name digit is) = numeral_found byte rest kind len digit is
found_by byte rest kind len (third name digit quote is) = text_found byte rest kind len quote (string_found rest kind len is)
found_by byte rest kind len (fourth name digit quote at is) = load_form_found (byte ∷ rest) kind len is
found_by byte rest kind len (fifth name digit quote at attribute is) = attribute_found byte rest kind len attribute is
found_by byte rest kind len (sixth name digit quote at attribute is) = sign_form_found (byte ∷ rest) kind len is

pub form_found : (text : List ℕ) (kind : TokenKind) (len : ℕ) → form_at text ≡ Some (kind, len) → IsFormFound text kind len
form_found [] kind len found = absurd (let never : ⊥ = cc in never)
form_found (byte ∷ rest) kind len found = found_by byte rest kind len (form_read_by byte rest (Some (kind, len)) found)

-- It is the longest -----------------------------------------------------------------------------------------------

name_at_least : (name part rest : List ℕ) → IsName part → name ≡ part → IsReadAtLeast (form_at (part ++ rest)) (token.Name name) part
unfolding IsReadBy
name_at_least name [] rest is same = let none = begins_where_name [] [] is in absurd (let never : ⊥ = cc in never)
name_at_least name (byte ∷ others) rest is same =
    let part : List ℕ = byte ∷ others in
    let text : List ℕ = part ++ rest in
    record {
      read = token.Name (take (name_len text) text);
      len = name_len text;
      is = form_at-by byte (others ++ rest) (Some (token.Name (take (name_len text) text), name_len text)) (first (begins_where_name part rest is) refl);
      size = name_size part rest is;
      same = λ long. ap token.Name (front_taken text part rest (name_len text) refl long ∙ sym same);
    }

pub digit_begins_no_name : (byte : ℕ) → is_ascii_digit byte ≡ true → begins_name byte ≡ false
digit_begins_no_name byte digit = grind (arith, nat_tests)

numeral_form_at_least : (kind : TokenKind) (part rest : List ℕ) → IsNumeral kind part → IsReadAtLeast (form_at (part ++ rest)) kind part
unfolding IsReadBy
numeral_form_at_least kind [] rest is = let none = numeral_first [] is in absurd (let never : ⊥ = cc in never)
numeral_form_at_least kind (byte ∷ others) rest is =
    let part : List ℕ = byte ∷ others in
    let text : List ℕ = part ++ rest in
    let digit : is_ascii_digit byte ≡ true = numeral_first rest is in
    let least = numeral_at_least rest is in
    let whole = length-append part rest in
    record {
      read = least.found;
      len = length text - length least.left;
      is = form_at-by byte (others ++ rest) (Some (least.found, length text - length least.left)) (second (digit_begins_no_name byte digit) digit (ap (measured text) least.is));
      size = omega (arith, whole, least.fits);
      same = λ long. least.same (omega (arith, whole, least.fits, long));
    }

string_at_least : (parts : List SpelledByte) (rest : List ℕ) → All IsSpelledByte parts → IsReadAtLeast (form_at (quoted parts ++ rest)) (token.String (map byte_of parts)) (quoted parts)
string_at_least parts rest are =
    let w : List ℕ = flat_map spelling_of parts in
    record {
      read = token.String (map byte_of parts);
      len = 2 + length w;
      is = ap string_at (append_assoc w (34 ∷ []) rest) ∙ string_at-spelling parts rest are;
      size = omega (arith, length-quoted parts);
      same = λ long. refl;
    }

attribute_at_least : (name rest : List ℕ) → IsName name → IsReadAtLeast (form_at (38 ∷ name ++ rest)) (token.Attribute name) (38 ∷ name)
unfolding IsReadBy
attribute_at_least name rest is =
    let behind : List ℕ = name ++ rest in
    let count : ℕ = name_len behind in
    let more = name_size name rest is in
    record {
      read = token.Attribute (take count behind);
      len = 1 + count;
      is = form_at-by 38 behind (Some (token.Attribute (take count behind), 1 + count)) (fifth refl refl refl refl (begins_where_name name rest is) refl);
      size = omega (arith, more);
      same = λ long. ap token.Attribute (front_taken behind name rest count refl (omega (arith, long)));
    }

load_form_at_least : (file part rest : List ℕ) → IsLoad file part rest → IsReadAtLeast (form_at (part ++ rest)) (token.Load file) part
load_form_at_least file part rest is =
    let first = load_first file part rest is in
    let least = load_at_least file part rest is in
    let here : form_at (part ++ rest) ≡ load_at (part ++ rest) = ap (λ p. form_at (p ++ rest)) first.1 ∙ ap (λ p. load_at (p ++ rest)) (sym first.1) in
    record { read = least.read; len = least.len; is = here ∙ least.is; size = least.size; same = least.same }

sign_form_at_least : (sign : Sign) (part rest : List ℕ) → IsSign sign part rest → IsReadAtLeast (form_at (part ++ rest)) (token.Sign sign) part
unfolding IsReadBy
sign_form_at_least sign [] rest is = absurd is
sign_form_at_least sign (byte ∷ others) rest is =
    let no_other = sign_first sign byte others rest is in
    let least = sign_at_least sign (byte ∷ others) rest is in
    record {
      read = least.read;
      len = least.len;
      is = form_at-by byte (others ++ rest) (Some (least.read, least.len)) (sixth no_other.name no_other.digit no_other.quote no_other.load no_other.attribute least.is);
      size = least.size;
      same = least.same;
    }

pub read_at_least : (kind : TokenKind) (part rest : List ℕ) → HasForm kind part rest → IsReadAtLeast (form_at (part ++ rest)) kind part
read_at_least (token.Name name) part rest (is, same) = name_at_least name part rest is same
read_at_least (token.Number value) part rest is = numeral_form_at_least (token.Number value) part rest (a_number is)
read_at_least (token.Port port proto) part rest is = numeral_form_at_least (token.Port port proto) part rest (a_port is)
read_at_least (token.Address address) part rest is = numeral_form_at_least (token.Address address) part rest (an_address is)
read_at_least (token.Subnet cleared width) part rest is = numeral_form_at_least (token.Subnet cleared width) part rest (a_subnet is)
read_at_least (token.String bytes) part rest (parts, are, meant, whole) =
    subst (λ b. IsReadAtLeast (form_at (part ++ rest)) (token.String b) part) (sym meant)
    (subst (λ p. IsReadAtLeast (form_at (p ++ rest)) (token.String (map byte_of parts)) p) (sym whole) (string_at_least parts rest are))
read_at_least (token.Attribute name) part rest (is, whole) =
    subst (λ p. IsReadAtLeast (form_at (p ++ rest)) (token.Attribute name) p) (sym whole) (attribute_at_least name rest is)
read_at_least (token.Load file) part rest is = load_form_at_least file part rest is
read_at_least (token.Sign sign) part rest is = sign_form_at_least sign part rest is

-- Numbers in range ------------------------------------------------------------------------------------------------

in_range : (kind : TokenKind) → is_in_range kind ≡ true → IsInRange kind
in_range (token.Name name) h = tt
in_range (token.Number value) h = ltb-true value (2 ^ 64) h
in_range (token.Port port proto) h = tt
in_range (token.Address address) h = tt
in_range (token.Subnet cleared width) h = tt
in_range (token.String bytes) h = tt
in_range (token.Attribute name) h = tt
in_range (token.Load file) h = tt
in_range (token.Sign sign) h = tt

is_in_range-true : (kind : TokenKind) → IsInRange kind → is_in_range kind ≡ true
is_in_range-true (token.Name name) h = refl
is_in_range-true (token.Number value) h = lt-ltb value (2 ^ 64) h
is_in_range-true (token.Port port proto) h = refl
is_in_range-true (token.Address address) h = refl
is_in_range-true (token.Subnet cleared width) h = refl
is_in_range-true (token.String bytes) h = refl
is_in_range-true (token.Attribute name) h = refl
is_in_range-true (token.Load file) h = refl
is_in_range-true (token.Sign sign) h = refl

numeral_in_range : (text : List ℕ) (kind : TokenKind) (len : ℕ) → numeral_at text ≡ Some (kind, len) → (measured text (numeral_form text) ≡ Some (kind, len)) × IsInRange kind
numeral_in_range text kind len found =
    elim (numeral_form text) as (λ (o : Option (TokenKind × List ℕ)). measured text (ranged o) ≡ Some (kind, len) → (measured text o ≡ Some (kind, len)) × IsInRange kind) [
      | None ↦ λ is. absurd (let never : ⊥ = cc in never)
      | Some read ↦ λ is.
          elim (is_in_range read.0) as (λ b. is_in_range read.0 ≡ b → measured text (cond b (Some read) None) ≡ Some (kind, len)
          → (measured text (Some read) ≡ Some (kind, len)) × IsInRange kind) [
            | true ↦ λ fits same. (same, subst IsInRange (pair_parts (read.0, length text - length read.1) (kind, len) same).0 (in_range read.0 fits))
            | false ↦ λ past same. absurd (let never : ⊥ = cc in never)
          ] refl is
    ] found

numeral_at-in_range : (text : List ℕ) (kind : TokenKind) (len : ℕ) → measured text (numeral_form text) ≡ Some (kind, len) → IsInRange kind → numeral_at text ≡ Some (kind, len)
numeral_at-in_range text kind len found range =
    elim (numeral_form text) as (λ (o : Option (TokenKind × List ℕ)). measured text o ≡ Some (kind, len) → measured text (ranged o) ≡ Some (kind, len)) [
      | None ↦ λ is. is
      | Some read ↦ λ is.
          let same = (pair_parts (read.0, length text - length read.1) (kind, len) is).0 in
          let fits : is_in_range read.0 ≡ true = is_in_range-true read.0 (subst IsInRange (sym same) range) in
          rw fits is
    ] found

form_of_token : (byte : ℕ) (rest : List ℕ) (kind : TokenKind) (len : ℕ) → IsReadBy byte rest (numeral_at (byte ∷ rest)) (Some (kind, len))
    → IsReadBy byte rest (measured (byte ∷ rest) (numeral_form (byte ∷ rest))) (Some (kind, len)) × IsInRange kind
unfolding IsReadBy
form_of_token byte rest kind len (first name is) =
    let text : List ℕ = byte ∷ rest in
    (first name is, subst IsInRange (pair_parts (token.Name (take (name_len text) text), name_len text) (kind, len) is).0 tt)
form_of_token byte rest kind len (second name digit is) =
    let number = numeral_in_range (byte ∷ rest) kind len is in (second name digit number.0, number.1)
form_of_token byte rest kind len (third name digit quote is) =
    (third name digit quote is, subst IsInRange (sym (string_found rest kind len is).is) tt)
form_of_token byte rest kind len (fourth name digit quote at is) =
    (fourth name digit quote at is, subst IsInRange (load_found (byte ∷ rest) kind len is).is tt)
form_of_token byte rest kind len (fifth name digit quote at attribute is) =
    (fifth name digit quote at attribute is, subst IsInRange (pair_parts (token.Attribute (take (name_len rest) rest), 1 + name_len rest) (kind, len) is).0 tt)
form_of_token byte rest kind len (sixth name digit quote at attribute is) =
    (sixth name digit quote at attribute is, subst IsInRange (sign_found (byte ∷ rest) kind len is).is tt)

token_of_form : (byte : ℕ) (rest : List ℕ) (kind : TokenKind) (len : ℕ) → IsReadBy byte rest (measured (byte ∷ rest) (numeral_form (byte ∷ rest))) (Some (kind, len)) → IsInRange kind
    → IsReadBy byte rest (numeral_at (byte ∷ rest)) (Some (kind, len))
unfolding IsReadBy
token_of_form byte rest kind len (first name is) range = first name is
token_of_form byte rest kind len (second name digit is) range = second name digit (numeral_at-in_range (byte ∷ rest) kind len is range)
token_of_form byte rest kind len (third name digit quote is) range = third name digit quote is
token_of_form byte rest kind len (fourth name digit quote at is) range = fourth name digit quote at is
token_of_form byte rest kind len (fifth name digit quote at attribute is) range = fifth name digit quote at attribute is
token_of_form byte rest kind len (sixth name digit quote at attribute is) range = sixth name digit quote at attribute is

pub token_form : (text : List ℕ) (kind : TokenKind) (len : ℕ) → token_at text ≡ Some (kind, len) → (form_at text ≡ Some (kind, len)) × IsInRange kind
token_form [] kind len found = absurd (let never : ⊥ = cc in never)
token_form (byte ∷ rest) kind len found =
    let by = form_of_token byte rest kind len (token_read_by byte rest (Some (kind, len)) found) in
    (form_at-by byte rest (Some (kind, len)) by.0, by.1)

token_at-form : (text : List ℕ) (kind : TokenKind) (len : ℕ) → form_at text ≡ Some (kind, len) → IsInRange kind → token_at text ≡ Some (kind, len)
token_at-form [] kind len found range = absurd (let never : ⊥ = cc in never)
token_at-form (byte ∷ rest) kind len found range =
    token_at-by byte rest (Some (kind, len)) (token_of_form byte rest kind len (form_read_by byte rest (Some (kind, len)) found) range)

-- The token at the front of a text --------------------------------------------------------------------------------

-- what is read is a token
pub record IsTokenFound (text : List ℕ) (kind : TokenKind) (len : ℕ) : Type 0 where
  pub part : List ℕ
  pub rest : List ℕ
  pub size : len ≡ length part
  pub is : IsToken kind text part rest

-- no part at the front that has a form is longer than what is read
form_at-longest : (text : List ℕ) (read : TokenKind) (len : ℕ) → form_at text ≡ Some (read, len)
    → (part rest : List ℕ) → text ≡ part ++ rest → HasSomeForm part rest → length part ≤ len
form_at-longest text read len found part rest whole (kind, form) =
    let least = read_at_least kind part rest form in
    let same = pair_parts (read, len) (least.read, least.len) (sym found ∙ ap form_at whole ∙ least.is) in
    omega (arith, same.1, least.size)

-- what is read is the longest form
pub form_longest : (text : List ℕ) (kind : TokenKind) (len : ℕ) (found : form_at text ≡ Some (kind, len)) → IsLongest HasSomeForm text (form_found text kind len found).part (form_found text kind len found).rest
form_longest text kind len found =
    let there = form_found text kind len found in
    record {
      whole = there.whole;
      fits = (kind, there.form);
      longest = λ longer others whole some. let most = form_at-longest text kind len found longer others whole some in omega (arith, most, there.size);
    }

pub token_found : (text : List ℕ) (kind : TokenKind) (len : ℕ) → token_at text ≡ Some (kind, len) → IsTokenFound text kind len
token_found text kind len found =
    let form = token_form text kind len found in
    let there = form_found text kind len form.0 in
    record { part = there.part; rest = there.rest; size = there.size; is = record { longest = form_longest text kind len form.0; form = there.form; range = form.1 } }

-- the longest part that has this form is read
pub longest_read : (kind : TokenKind) (text part rest : List ℕ) → IsLongest HasSomeForm text part rest → HasForm kind part rest → form_at text ≡ Some (kind, length part)
longest_read kind text part rest longest form =
    let least = read_at_least kind part rest form in
    let read : form_at text ≡ Some (least.read, least.len) = ap form_at longest.whole ∙ least.is in
    let there = form_found text least.read least.len read in
    let most : length there.part ≤ length part = longest.longest there.part there.rest there.whole (least.read, there.form) in
    let size : least.len ≡ length part = omega (arith, most, there.size, least.size) in
    read ∙ ap (λ n. Some (least.read, n)) size ∙ ap (λ k. Some (k, length part)) (least.same size)

-- a token at the front of a text is read
pub token_at-token : (kind : TokenKind) (text part rest : List ℕ) → IsToken kind text part rest → token_at text ≡ Some (kind, length part)
token_at-token kind text part rest token =
    token_at-form text kind (length part) (longest_read kind text part rest token.longest token.form) token.range

-- where no token is read, none begins
pub begins_none : (text : List ℕ) → text ≢ [] → token_at text ≡ None → BeginsNoToken text
begins_none text some none = record {
  some = some;
  none = λ kind part rest is. let read = token_at-token kind text part rest is in let never : ⊥ = cc in never;
}

-- where none begins, none is read
pub not_read : (text : List ℕ) → BeginsNoToken text → token_at text ≡ None
not_read text left =
    elim (token_at text) as (λ (o : Option (TokenKind × ℕ)). token_at text ≡ o → token_at text ≡ None) [
      | None ↦ λ here. here
      | Some found ↦ λ here. let there = token_found text found.0 found.1 here in absurd (left.none found.0 there.part there.rest there.is)
    ] refl
