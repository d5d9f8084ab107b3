-- The reader of numbers, ports, addresses and subnets finds the longest part that has a form.
use Rattle.std.proofs.Common.{◌≡◌, ◌≢◌, ℕ, ◌+◌, ◌<◌, ◌≤◌, Bool, true, false, ◌&&◌, ◌==◌, cond, List, [], ◌∷◌, ◌++◌, length, take, drop, slice_index, Option, Some, None, refl, sym, ap, subst, ◌∙◌, arith, length-append, length-drop, append_assoc}
use Rattle.std.specs.List.{AllPass, take_while, prefix_len}
use Rattle.std.specs.Char.{is_ascii_digit}
use Rattle.std.specs.Option.{option_map, option_map_or, option_and_then, option_or}
use Rattle.std.specs.Str.Parse.{digits_value_after, digits_value}
use Rattle.std.proofs.lemmas.Bool.{eqb-true, ne_eqb}
use Rattle.std.proofs.lemmas.List.{take-append-drop, length-take-le}
use Rattle.std.proofs.lemmas.List.Elements.{All-head}
use Rattle.std.proofs.lemmas.Option.{option_and_then_some}
use Rattle.std.proofs.Math.Seq.{drop-append_seam, take-append_seam}
use Rattle.zk_base.specs.declared.network.Proto.{Proto}
use Rattle.zk_base.specs.declared.network.Proto.TheVariants.{Tcp, Udp}
use Rattle.zk_tree.specs.declared.token.TokenKind.{TokenKind}
use Rattle.zk_tree.specs.declared.token.TokenKind.TheVariants as token
use Rattle.zk_token.specs.Numerals.{begins_digit, with_digit, digits_within, number_within, behind, before_point, address_of, address_at, width_at, prefix_of, located, located_at, proto_at, port_at, digits_at, numeral_form}
use Rattle.zk_token.specs.TokenForms.{AreDigits, IsNumber, IsNumberWithin, IsBeforePoint, IsAddress, IsSubnet, IsPort, proto_name, HasForm}
use Rattle.zk_token.proofs.DigitLaws.{digits_within-append, digits_within-are}
use Rattle.zk_token.proofs.FrontLaws.{front_taken, take_while-more, take_while-passes, prefix_len-passed, prefix_len-stops, same_run}
use Rattle.std.proofs.lemmas.List.Sums.{prefix_len-le-length}
use Rattle.zk_token.proofs.ByteTests.{differs, pair_parts, three_bytes}

-- What readers find -----------------------------------------------------------------------------------------------

-- no more is left than this rest, and where as much is left it is this item
pub record IsAtLeast {X : Type 0} (read : Option (X × List ℕ)) (item : X) (rest : List ℕ) : Type 0 where
  pub found : X
  pub left : List ℕ
  pub is : read ≡ Some (found, left)
  pub fits : length left ≤ length rest
  pub same : length left ≡ length rest → found ≡ item

-- this item is found, and this rest is left
exactly : {X : Type 0} (read : Option (X × List ℕ)) (item : X) (rest : List ℕ) → read ≡ Some (item, rest) → IsAtLeast read item rest
exactly read item rest is = record { found = item; left = rest; is = is; fits = omega arith; same = λ h. refl }

-- a part of a text that has a form, in front of a rest
pub record IsPart (Fits : List ℕ → Type 0) (text rest : List ℕ) : Type 0 where
  pub part : List ℕ
  pub whole : text ≡ part ++ rest
  pub fits : Fits part

-- Numbers of at most a bound --------------------------------------------------------------------------------------

digits_within-fit : (most value : ℕ) (text : List ℕ) → digits_within most value text ≤ length text
digits_within-fit most value [] = omega arith
digits_within-fit most value (byte ∷ rest) =
    elim (with_digit most value byte) as (λ (o : Option ℕ). option_map_or (λ more. 1 + digits_within most more rest) o 0 ≤ length (byte ∷ rest)) [
      | None ↦ omega arith
      | Some more ↦ let others = digits_within-fit most more rest in omega (arith, others)
    ]

-- what is read is such a number
number_read : (most : ℕ) (text : List ℕ) (value : ℕ) (rest : List ℕ) → number_within most text ≡ Some (value, rest) → IsPart (IsNumberWithin most value) text rest
number_read most text value rest found =
    let count : ℕ = digits_within most 0 text in
    elim (count == 0) as (λ b. (count == 0) ≡ b → cond {A = Option (ℕ × List ℕ)} b None (Some (digits_value 10 (take count text), drop count text)) ≡ Some (value, rest)
    → IsPart (IsNumberWithin most value) text rest) [
      | true ↦ λ none is. absurd (let never : ⊥ = cc in never)
      | false ↦ λ some is.
          let parts = pair_parts (digits_value 10 (take count text), drop count text) (value, rest) is in
          let are = digits_within-are most 0 text (omega arith) in
          let size = length-take-le count text (digits_within-fit most 0 text) in
          let some_digits : take count text ≢ [] = λ empty. differs count 0 some (sym size ∙ ap length empty) in
          record {
            part = take count text;
            whole = sym (take-append-drop count text) ∙ ap (λ r. take count text ++ r) parts.1;
            fits = (((some_digits, are.digits), sym parts.0), subst (λ v. v ≤ most) parts.0 are.small);
          }
    ] refl found

some_length : (text : List ℕ) → text ≢ [] → length text ≢ 0
some_length [] some none = some refl
some_length (byte ∷ text) some none = omega (arith, none)

-- what stands behind digits that fit
number_within-append : (most value : ℕ) (part rest : List ℕ) → IsNumberWithin most value part
    → number_within most (part ++ rest) ≡ Some (digits_value 10 (take (length part + digits_within most value rest) (part ++ rest)), drop (length part + digits_within most value rest) (part ++ rest))
number_within-append most value part rest is =
    let fit : digits_value_after 10 0 part ≤ most = subst (λ v. v ≤ most) is.0.1 is.1 in
    let count : digits_within most 0 (part ++ rest) ≡ length part + digits_within most value rest =
    digits_within-append most 0 part rest is.0.0.1 fit ∙ ap (λ v. length part + digits_within most v rest) (sym is.0.1) in
    let some : length part + digits_within most value rest ≢ 0 = λ none. some_length part is.0.0.0 (omega (arith, none)) in
    rw count (rw (ne_eqb (length part + digits_within most value rest) 0 some) refl)

-- no digit is left behind it
number_exactly : (most value : ℕ) (part rest : List ℕ) → IsNumberWithin most value part → digits_within most value rest ≡ 0 → number_within most (part ++ rest) ≡ Some (value, rest)
number_exactly most value part rest is none =
    let count : length part + digits_within most value rest ≡ length part = omega (arith, none) in
    number_within-append most value part rest is
    ∙ ap (λ n. Some (digits_value 10 (take n (part ++ rest)), drop n (part ++ rest))) count
    ∙ ap (λ p. Some (digits_value 10 p, drop (length part) (part ++ rest))) (take-append_seam part rest)
    ∙ ap (λ r. Some (digits_value 10 part, r)) (drop-append_seam part rest)
    ∙ ap (λ v. Some (v, rest)) (sym is.0.1)

-- a byte that is no digit stands behind it
number_before : (most value : ℕ) (part : List ℕ) (byte : ℕ) (rest : List ℕ) → IsNumberWithin most value part → is_ascii_digit byte ≡ false
    → number_within most (part ++ byte ∷ rest) ≡ Some (value, byte ∷ rest)
number_before most value part byte rest is other =
    let none : digits_within most value (byte ∷ rest) ≡ 0 = rw other refl in
    number_exactly most value part (byte ∷ rest) is none

number_at_least : (most value : ℕ) (part rest : List ℕ) → IsNumberWithin most value part → IsAtLeast (number_within most (part ++ rest)) value rest
number_at_least most value part rest is =
    let more : ℕ = digits_within most value rest in
    let text : List ℕ = part ++ rest in
    let size = length-drop (length part + more) text in
    let whole = length-append part rest in
    let fit = digits_within-fit most value rest in
    record {
      found = digits_value 10 (take (length part + more) text);
      left = drop (length part + more) text;
      is = number_within-append most value part rest is;
      fits = omega (arith, size, whole);
      same = λ long.
          let none : more ≡ 0 = omega (arith, size, whole, fit, long) in
          let exact = number_exactly most value part rest is none in
          (pair_parts (digits_value 10 (take (length part + more) text), drop (length part + more) text) (value, rest)
          (sym (number_within-append most value part rest is) ∙ exact)).0;
    }

-- Addresses -------------------------------------------------------------------------------------------------------

behind_read : (byte : ℕ) (text rest : List ℕ) → behind byte text ≡ Some rest → text ≡ byte ∷ rest
behind_read byte [] rest found = absurd (let never : ⊥ = cc in never)
behind_read byte (first ∷ others) rest found =
    elim (first == byte) as (λ b. (first == byte) ≡ b → cond {A = Option (List ℕ)} b (Some others) None ≡ Some rest → first ∷ others ≡ byte ∷ rest) [
      | true ↦ λ here is. let same : others ≡ rest = cc in ap (λ b. b ∷ others) (eqb-true first byte here) ∙ ap (λ r. byte ∷ r) same
      | false ↦ λ other is. absurd (let never : ⊥ = cc in never)
    ] refl found

point_read : (text : List ℕ) (value : ℕ) (rest : List ℕ) → before_point text ≡ Some (value, rest) → IsPart (IsBeforePoint value) text rest
point_read text value rest found =
    option_and_then_some _ (number_within 255 text) (value, rest) found (λ number here then.
    option_and_then_some _ (behind 46 number.1) (value, rest) then (λ behind there is.
    let parts = pair_parts (number.0, behind) (value, rest) is in
    let read = number_read 255 text number.0 number.1 here in
    let point : number.1 ≡ 46 ∷ rest = behind_read 46 number.1 behind there ∙ ap (λ r. 46 ∷ r) parts.1 in
    record {
      part = read.part ++ 46 ∷ [];
      whole = read.whole ∙ ap (λ r. read.part ++ r) point ∙ sym (append_assoc read.part (46 ∷ []) rest);
      fits = record { digits = read.part; number = subst (λ v. IsNumberWithin 255 v read.part) parts.0 read.fits; whole = refl };
    }))

before_point-part : (value : ℕ) (part rest : List ℕ) → IsBeforePoint value part → before_point (part ++ rest) ≡ Some (value, rest)
before_point-part value part rest is =
    let text : part ++ rest ≡ is.digits ++ 46 ∷ rest = ap (λ p. p ++ rest) is.whole ∙ append_assoc is.digits (46 ∷ []) rest in
    rw (ap (number_within 255) text ∙ number_before 255 value is.digits 46 rest is.number refl) refl

address_read : (text : List ℕ) (address : ℕ) (rest : List ℕ) → address_at text ≡ Some (address, rest) → IsPart (IsAddress address) text rest
address_read text address rest found =
    option_and_then_some _ (before_point text) (address, rest) found (λ one first then.
    option_and_then_some _ (before_point one.1) (address, rest) then (λ two second then.
    option_and_then_some _ (before_point two.1) (address, rest) then (λ three third then.
    option_and_then_some _ (number_within 255 three.1) (address, rest) then (λ four fourth is.
    let a = point_read text one.0 one.1 first in
    let b = point_read one.1 two.0 two.1 second in
    let c = point_read two.1 three.0 three.1 third in
    let d = number_read 255 three.1 four.0 four.1 fourth in
    let parts = pair_parts (address_of one.0 two.0 three.0 four.0, four.1) (address, rest) is in
    record {
      part = a.part ++ (b.part ++ (c.part ++ d.part));
      whole = a.whole ∙ ap (λ r. a.part ++ r) (b.whole ∙ ap (λ r. b.part ++ r) (c.whole ∙ ap (λ r. c.part ++ r) (d.whole ∙ ap (λ r. d.part ++ r) parts.1)
          ∙ sym (append_assoc c.part d.part rest)) ∙ sym (append_assoc b.part (c.part ++ d.part) rest)) ∙ sym (append_assoc a.part (b.part ++ (c.part ++ d.part)) rest);
      fits = record {
        first = one.0;
        second = two.0;
        third = three.0;
        fourth = four.0;
        first_text = a.part;
        second_text = b.part;
        third_text = c.part;
        fourth_text = d.part;
        first_is = a.fits;
        second_is = b.fits;
        third_is = c.fits;
        fourth_is = d.fits;
        whole = refl;
        value = sym parts.0;
      };
    }))))

-- an address from its last part on
last_part : ℕ → ℕ → ℕ → ℕ × List ℕ → ℕ × List ℕ
last_part first second third fourth = (address_of first second third fourth.0, fourth.1)

address_at-parts : (address : ℕ) (part rest : List ℕ) (is : IsAddress address part)
    → address_at (part ++ rest) ≡ option_map (last_part is.first is.second is.third) (number_within 255 (is.fourth_text ++ rest))
unfolding last_part
address_at-parts address part rest is =
    let behind_third : List ℕ = is.fourth_text ++ rest in
    let behind_second : List ℕ = is.third_text ++ behind_third in
    let behind_first : List ℕ = is.second_text ++ behind_second in
    let text : part ++ rest ≡ is.first_text ++ behind_first = ap (λ p. p ++ rest) is.whole
    ∙ append_assoc is.first_text (is.second_text ++ (is.third_text ++ is.fourth_text)) rest
    ∙ ap (λ r. is.first_text ++ r) (append_assoc is.second_text (is.third_text ++ is.fourth_text) rest
    ∙ ap (λ r. is.second_text ++ r) (append_assoc is.third_text is.fourth_text rest)) in
    let one : before_point (part ++ rest) ≡ Some (is.first, behind_first) = ap before_point text ∙ before_point-part is.first is.first_text behind_first is.first_is in
    let two : before_point behind_first ≡ Some (is.second, behind_second) = before_point-part is.second is.second_text behind_second is.second_is in
    let three : before_point behind_second ≡ Some (is.third, behind_third) = before_point-part is.third is.third_text behind_third is.third_is in
    rw one (rw two (rw three (
    elim (number_within 255 behind_third) as (λ (o : Option (ℕ × List ℕ)).
    option_and_then {T = ℕ × List ℕ} {U = ℕ × List ℕ} (λ fourth. Some (address_of is.first is.second is.third fourth.0, fourth.1)) o
    ≡ option_map {T = ℕ × List ℕ} {U = ℕ × List ℕ} (λ fourth. (address_of is.first is.second is.third fourth.0, fourth.1)) o) [
      | None ↦ refl
      | Some fourth ↦ refl
    ])))

address_at_least : (address : ℕ) (part rest : List ℕ) → IsAddress address part → IsAtLeast (address_at (part ++ rest)) address rest
unfolding last_part
address_at_least address part rest is =
    let last = number_at_least 255 is.fourth is.fourth_text rest is.fourth_is in
    record {
      found = address_of is.first is.second is.third last.found;
      left = last.left;
      is = address_at-parts address part rest is ∙ ap (option_map (last_part is.first is.second is.third)) last.is;
      fits = last.fits;
      same = λ long. ap (address_of is.first is.second is.third) (last.same long) ∙ sym is.value;
    }

-- a byte that is no digit stands behind it
address_before : (address : ℕ) (part : List ℕ) (byte : ℕ) (rest : List ℕ) → IsAddress address part → is_ascii_digit byte ≡ false
    → address_at (part ++ byte ∷ rest) ≡ Some (address, byte ∷ rest)
unfolding last_part
address_before address part byte rest is other =
    address_at-parts address part (byte ∷ rest) is
    ∙ ap (option_map (last_part is.first is.second is.third)) (number_before 255 is.fourth is.fourth_text byte rest is.fourth_is other)
    ∙ ap (λ a. Some (a, byte ∷ rest)) (sym is.value)

-- Subnets ---------------------------------------------------------------------------------------------------------

-- the width of a subnet and the slash before it
IsWidth : ℕ → List ℕ → Type 0
IsWidth width text = (digits : List ℕ) × IsNumberWithin 32 width digits × (text ≡ 47 ∷ digits)

width_read : (text : List ℕ) (width : ℕ) (rest : List ℕ) → width_at text ≡ Some (width, rest) → IsPart (IsWidth width) text rest
unfolding IsWidth
width_read text width rest found =
    option_and_then_some _ (behind 47 text) (width, rest) found (λ behind slash then.
    let read = number_read 32 behind width rest then in
    record {
      part = 47 ∷ read.part;
      whole = behind_read 47 text behind slash ∙ ap (λ r. 47 ∷ r) read.whole;
      fits = (read.part, read.fits, refl);
    })

-- an address or a subnet
data IsLocated : TokenKind → List ℕ → Type 0 where
  alone : {address : ℕ} {text : List ℕ} → IsAddress address text → IsLocated (token.Address address) text
  narrowed : {cleared width : ℕ} {text : List ℕ} → IsSubnet cleared width text → IsLocated (token.Subnet cleared width) text

located_form : {kind : TokenKind} {part : List ℕ} (rest : List ℕ) → IsLocated kind part → HasForm kind part rest
located_form rest (alone is) = is
located_form rest (narrowed is) = is

-- what is read with a width behind an address, or without one
located_read : (text : List ℕ) (kind : TokenKind) (rest : List ℕ) → located_at text ≡ Some (kind, rest) → IsPart (IsLocated kind) text rest
unfolding IsWidth
located_read text kind rest found =
    elim (address_at text) as (λ (o : Option (ℕ × List ℕ)). address_at text ≡ o → option_map {T = ℕ × List ℕ} {U = TokenKind × List ℕ} (λ address. located address.0 address.1) o ≡ Some (kind, rest)
    → IsPart (IsLocated kind) text rest) [
      | None ↦ λ none is. absurd (let never : ⊥ = cc in never)
      | Some address ↦ λ here.
          let read = address_read text address.0 address.1 here in
          elim (width_at address.1) as (λ (o : Option (ℕ × List ℕ)). width_at address.1 ≡ o
          → Some (option_map_or {T = ℕ × List ℕ} {U = TokenKind × List ℕ} (λ width. (token.Subnet (prefix_of address.0 width.0) width.0, width.1)) o (token.Address address.0, address.1)) ≡ Some (kind, rest)
          → IsPart (IsLocated kind) text rest) [
            | None ↦ λ none is.
                let parts = pair_parts (token.Address address.0, address.1) (kind, rest) is in
                record {
                  part = read.part;
                  whole = read.whole ∙ ap (λ r. read.part ++ r) parts.1;
                  fits = subst (λ k. IsLocated k read.part) parts.0 (alone read.fits);
                }
            | Some width ↦ λ there is.
                let behind = width_read address.1 width.0 width.1 there in
                let parts = pair_parts (token.Subnet (prefix_of address.0 width.0) width.0, width.1) (kind, rest) is in
                let subnet : IsSubnet (prefix_of address.0 width.0) width.0 (read.part ++ behind.part) = record {
                  address = address.0;
                  address_text = read.part;
                  width_text = behind.fits.0;
                  address_is = read.fits;
                  width_is = behind.fits.1;
                  whole = ap (λ b. read.part ++ b) behind.fits.2;
                  value = refl;
                } in
                record {
                  part = read.part ++ behind.part;
                  whole = read.whole ∙ ap (λ r. read.part ++ r) (behind.whole ∙ ap (λ r. behind.part ++ r) parts.1) ∙ sym (append_assoc read.part behind.part rest);
                  fits = subst (λ k. IsLocated k (read.part ++ behind.part)) parts.0 (narrowed subnet);
                }
          ] refl
    ] refl found

width_shorter : (text : List ℕ) (width : ℕ) (rest : List ℕ) → width_at text ≡ Some (width, rest) → length rest < length text
unfolding IsWidth
width_shorter text width rest found =
    let read = width_read text width rest found in
    omega (arith, ap length read.whole, length-append read.part rest, ap length read.fits.2)

-- an address that is read, perhaps with a width behind it
located_at_least : (address : ℕ) (part rest : List ℕ) → IsAddress address part → IsAtLeast (located_at (part ++ rest)) (token.Address address) rest
located_at_least address part rest is =
    let read = address_at_least address part rest is in
    elim (width_at read.left) as (λ (o : Option (ℕ × List ℕ)). width_at read.left ≡ o → IsAtLeast (located_at (part ++ rest)) (token.Address address) rest) [
      | None ↦ λ none. record {
        found = token.Address read.found;
        left = read.left;
        is = rw read.is (rw none refl);
        fits = read.fits;
        same = λ long. ap token.Address (read.same long);
      }
      | Some width ↦ λ there.
          let shorter = width_shorter read.left width.0 width.1 there in
          record {
            found = token.Subnet (prefix_of read.found width.0) width.0;
            left = width.1;
            is = rw read.is (rw there refl);
            fits = omega (arith, shorter, read.fits);
            same = λ long. absurd (omega (arith, shorter, read.fits, long));
          }
    ] refl

-- a subnet that is read
subnet_at_least : (cleared width : ℕ) (part rest : List ℕ) → IsSubnet cleared width part → IsAtLeast (located_at (part ++ rest)) (token.Subnet cleared width) rest
subnet_at_least cleared width part rest is =
    let behind : List ℕ = is.width_text ++ rest in
    let text : part ++ rest ≡ is.address_text ++ 47 ∷ behind = ap (λ p. p ++ rest) is.whole ∙ append_assoc is.address_text (47 ∷ is.width_text) rest in
    let read : address_at (part ++ rest) ≡ Some (is.address, 47 ∷ behind) = ap address_at text ∙ address_before is.address is.address_text 47 behind is.address_is refl in
    let last = number_at_least 32 width is.width_text rest is.width_is in
    record {
      found = token.Subnet (prefix_of is.address last.found) last.found;
      left = last.left;
      is = rw read (rw last.is refl);
      fits = last.fits;
      same = λ long. ap (λ w. token.Subnet (prefix_of is.address w) w) (last.same long) ∙ ap (λ c. token.Subnet c width) (sym is.value);
    }

-- Ports -----------------------------------------------------------------------------------------------------------

proto_read : (text : List ℕ) (proto : Proto) (rest : List ℕ) → proto_at text ≡ Some (proto, rest) → text ≡ proto_name proto ++ rest
proto_read [] proto rest found = absurd (let never : ⊥ = cc in never)
proto_read (a ∷ []) proto rest found = absurd (let never : ⊥ = cc in never)
proto_read (a ∷ b ∷ []) proto rest found = absurd (let never : ⊥ = cc in never)
proto_read (a ∷ b ∷ c ∷ others) proto rest found =
    let tcp : Bool = a == 116 && b == 99 && c == 112 in
    let udp : Bool = a == 117 && b == 100 && c == 112 in
    elim tcp as (λ t. tcp ≡ t → cond {A = Option (Proto × List ℕ)} t (Some (Tcp, others)) (cond udp (Some (Udp, others)) None) ≡ Some (proto, rest) → a ∷ b ∷ c ∷ others ≡ proto_name proto ++ rest) [
      | true ↦ λ named is.
          let parts = pair_parts (Tcp, others) (proto, rest) is in
          three_bytes a b c 116 99 112 others named ∙ ap (λ r. 116 ∷ 99 ∷ 112 ∷ r) parts.1 ∙ ap (λ p. proto_name p ++ rest) parts.0
      | false ↦ λ other.
          elim udp as (λ u. udp ≡ u → cond {A = Option (Proto × List ℕ)} u (Some (Udp, others)) None ≡ Some (proto, rest) → a ∷ b ∷ c ∷ others ≡ proto_name proto ++ rest) [
            | true ↦ λ named is.
                let parts = pair_parts (Udp, others) (proto, rest) is in
                three_bytes a b c 117 100 112 others named ∙ ap (λ r. 117 ∷ 100 ∷ 112 ∷ r) parts.1 ∙ ap (λ p. proto_name p ++ rest) parts.0
            | false ↦ λ neither is. absurd (let never : ⊥ = cc in never)
          ] refl
    ] refl found

proto_at-name : (proto : Proto) (rest : List ℕ) → proto_at (proto_name proto ++ rest) ≡ Some (proto, rest)
proto_at-name Tcp rest = refl
proto_at-name Udp rest = refl

-- what is read as a port is one
data IsPortKind : TokenKind → List ℕ → Type 0 where
  port_kind : {port : ℕ} {proto : Proto} {text : List ℕ} → IsPort port proto text → IsPortKind (token.Port port proto) text

port_form : {kind : TokenKind} {part : List ℕ} (rest : List ℕ) → IsPortKind kind part → HasForm kind part rest
port_form rest (port_kind is) = is

port_read : (text : List ℕ) (kind : TokenKind) (rest : List ℕ) → port_at text ≡ Some (kind, rest) → IsPart (IsPortKind kind) text rest
port_read text kind rest found =
    option_and_then_some _ (number_within 65535 text) (kind, rest) found (λ number here then.
    option_and_then_some _ (behind 47 number.1) (kind, rest) then (λ behind slash named.
    option_and_then_some _ (proto_at behind) (kind, rest) named (λ proto there is.
    let read = number_read 65535 text number.0 number.1 here in
    let parts = pair_parts (token.Port number.0 proto.0, proto.1) (kind, rest) is in
    let tail : number.1 ≡ 47 ∷ proto_name proto.0 ++ rest =
    behind_read 47 number.1 behind slash ∙ ap (λ r. 47 ∷ r) (proto_read behind proto.0 proto.1 there ∙ ap (λ r. proto_name proto.0 ++ r) parts.1) in
    let port : IsPort number.0 proto.0 (read.part ++ 47 ∷ proto_name proto.0) = record { digits = read.part; number = read.fits; whole = refl } in
    record {
      part = read.part ++ 47 ∷ proto_name proto.0;
      whole = read.whole ∙ ap (λ r. read.part ++ r) tail ∙ sym (append_assoc read.part (47 ∷ proto_name proto.0) rest);
      fits = subst (λ k. IsPortKind k (read.part ++ 47 ∷ proto_name proto.0)) parts.0 (port_kind port);
    })))

port_at-part : (port : ℕ) (proto : Proto) (part rest : List ℕ) → IsPort port proto part → port_at (part ++ rest) ≡ Some (token.Port port proto, rest)
port_at-part port proto part rest is =
    let text : part ++ rest ≡ is.digits ++ 47 ∷ (proto_name proto ++ rest) = ap (λ p. p ++ rest) is.whole ∙ append_assoc is.digits (47 ∷ proto_name proto) rest in
    rw (ap (number_within 65535) text ∙ number_before 65535 port is.digits 47 (proto_name proto ++ rest) is.number refl)
    (rw (proto_at-name proto rest) refl)

-- The longest of them ---------------------------------------------------------------------------------------------

-- digits, a byte that is none, and more
record BeginsDigits (byte : ℕ) (text : List ℕ) : Type 0 where
  digits : List ℕ
  more : List ℕ
  are : AllPass is_ascii_digit digits
  whole : text ≡ digits ++ byte ∷ more

address_digits : (address : ℕ) (text : List ℕ) → IsAddress address text → BeginsDigits 46 text
address_digits address text is =
    let first = is.first_is in
    let others : List ℕ = is.second_text ++ (is.third_text ++ is.fourth_text) in
    record {
      digits = first.digits;
      more = others;
      are = first.number.0.0.1;
      whole = is.whole ∙ ap (λ f. f ++ others) first.whole ∙ append_assoc first.digits (46 ∷ []) others;
    }

located_digits : {kind : TokenKind} {part : List ℕ} → IsLocated kind part → BeginsDigits 46 part
located_digits (alone {address = address} {text = text} is) = address_digits address text is
located_digits (narrowed {text = text} is) =
    let begin = address_digits is.address is.address_text is.address_is in
    let behind : List ℕ = 47 ∷ is.width_text in
    record {
      digits = begin.digits;
      more = begin.more ++ behind;
      are = begin.are;
      whole = is.whole ∙ ap (λ a. a ++ behind) begin.whole ∙ append_assoc begin.digits (46 ∷ begin.more) behind;
    }

port_digits : {kind : TokenKind} {part : List ℕ} → IsPortKind kind part → BeginsDigits 47 part
port_digits (port_kind is) = record { digits = is.digits; more = _; are = is.number.0.0.1; whole = is.whole }

-- digits at the front of a text are a shorter part of it than such a form
shorter_digits : (byte : ℕ) (part rest longer left : List ℕ) → is_ascii_digit byte ≡ false → AllPass is_ascii_digit part → BeginsDigits byte longer
    → part ++ rest ≡ longer ++ left → length left < length rest
shorter_digits byte part rest longer left other pass begin same =
    let text : part ++ rest ≡ begin.digits ++ byte ∷ (begin.more ++ left) = same ∙ ap (λ l. l ++ left) begin.whole ∙ append_assoc begin.digits (byte ∷ begin.more) left in
    let run = ap (prefix_len is_ascii_digit) text ∙ prefix_len-stops is_ascii_digit begin.digits byte (begin.more ++ left) begin.are other in
    let all = prefix_len-passed is_ascii_digit part rest pass in
    omega (arith, run, all, ap length text, length-append part rest, length-append begin.digits (byte ∷ (begin.more ++ left)), length-append begin.more left)

-- where a slash stands behind digits, no address does
no_located : (digits rest : List ℕ) → AllPass is_ascii_digit digits → located_at (digits ++ 47 ∷ rest) ≡ None
no_located digits rest pass =
    let text : List ℕ = digits ++ 47 ∷ rest in
    elim (located_at text) as (λ (o : Option (TokenKind × List ℕ)). located_at text ≡ o → o ≡ None) [
      | None ↦ λ here. refl
      | Some found ↦ λ here.
          let read = located_read text found.0 found.1 here in
          let begin = located_digits read.fits in
          let same : text ≡ begin.digits ++ 46 ∷ (begin.more ++ found.1) = read.whole ∙ ap (λ l. l ++ found.1) begin.whole ∙ append_assoc begin.digits (46 ∷ begin.more) found.1 in
          let marks = same_run is_ascii_digit digits begin.digits 47 46 rest (begin.more ++ found.1) pass begin.are refl refl same in
          let heads : 47 ≡ 46 = ap (λ l. slice_index l 0) marks.1 in
          absurd (omega (arith, heads))
    ] refl

digits_at_least : (value : ℕ) (part rest : List ℕ) → IsNumber value part → IsAtLeast (digits_at (part ++ rest)) (token.Number value) rest
digits_at_least value part rest is =
    let text : List ℕ = part ++ rest in
    let count : ℕ = prefix_len is_ascii_digit text in
    let passed = prefix_len-passed is_ascii_digit part rest is.0.1 in
    record {
      found = token.Number (digits_value 10 (take_while is_ascii_digit text));
      left = drop count text;
      is = refl;
      fits = omega (arith, length-drop count text, length-append part rest, passed);
      same = λ long.
          let all : count ≡ length part = omega (arith, length-drop count text, length-append part rest, passed, prefix_len-le-length is_ascii_digit rest, long) in
          ap token.Number (ap (digits_value 10) (front_taken text part rest count refl all) ∙ sym is.1);
    }

-- digits are read at least
number_form_at_least : (value : ℕ) (part rest : List ℕ) → IsNumber value part → IsAtLeast (numeral_form (part ++ rest)) (token.Number value) rest
number_form_at_least value part rest is =
    let text : List ℕ = part ++ rest in
    let Wanted : Option (TokenKind × List ℕ) → Type 0 = λ read. IsAtLeast read (token.Number value) rest in
    elim (located_at text) as (λ (o : Option (TokenKind × List ℕ)). located_at text ≡ o → Wanted (option_or o (option_or (port_at text) (digits_at text)))) [
      | Some found ↦ λ here.
          let read = located_read text found.0 found.1 here in
          let shorter = shorter_digits 46 part rest read.part found.1 refl is.0.1 (located_digits read.fits) read.whole in
          record { found = found.0; left = found.1; is = refl; fits = omega (arith, shorter); same = λ long. absurd (omega (arith, shorter, long)) }
      | None ↦ λ none.
          elim (port_at text) as (λ (o : Option (TokenKind × List ℕ)). port_at text ≡ o → Wanted (option_or o (digits_at text))) [
            | Some found ↦ λ here.
                let read = port_read text found.0 found.1 here in
                let shorter = shorter_digits 47 part rest read.part found.1 refl is.0.1 (port_digits read.fits) read.whole in
                record { found = found.0; left = found.1; is = refl; fits = omega (arith, shorter); same = λ long. absurd (omega (arith, shorter, long)) }
            | None ↦ λ other. digits_at_least value part rest is
          ] refl
    ] refl

port_form_at_least : (port : ℕ) (proto : Proto) (part rest : List ℕ) → IsPort port proto part → IsAtLeast (numeral_form (part ++ rest)) (token.Port port proto) rest
port_form_at_least port proto part rest is =
    let text : part ++ rest ≡ is.digits ++ 47 ∷ (proto_name proto ++ rest) = ap (λ p. p ++ rest) is.whole ∙ append_assoc is.digits (47 ∷ proto_name proto) rest in
    let none : located_at (part ++ rest) ≡ None = ap located_at text ∙ no_located is.digits (proto_name proto ++ rest) is.number.0.0.1 in
    exactly (numeral_form (part ++ rest)) (token.Port port proto) rest (rw none (rw (port_at-part port proto part rest is) refl))

located_form_at_least : (kind : TokenKind) (text rest : List ℕ) → IsAtLeast (located_at text) kind rest → IsAtLeast (numeral_form text) kind rest
located_form_at_least kind text rest least =
    record { found = least.found; left = least.left; is = rw least.is refl; fits = least.fits; same = least.same }

-- A number, port, address or subnet at the front of a text is read at least.
pub data IsNumeral : TokenKind → List ℕ → Type 0 where
  a_number : {value : ℕ} {text : List ℕ} → IsNumber value text → IsNumeral (token.Number value) text
  a_port : {number : ℕ} {proto : Proto} {text : List ℕ} → IsPort number proto text → IsNumeral (token.Port number proto) text
  an_address : {address : ℕ} {text : List ℕ} → IsAddress address text → IsNumeral (token.Address address) text
  a_subnet : {cleared width : ℕ} {text : List ℕ} → IsSubnet cleared width text → IsNumeral (token.Subnet cleared width) text

pub numeral_at_least : {kind : TokenKind} {part : List ℕ} (rest : List ℕ) → IsNumeral kind part → IsAtLeast (numeral_form (part ++ rest)) kind rest
numeral_at_least rest (a_number {value = value} {text = part} is) = number_form_at_least value part rest is
numeral_at_least rest (a_port {number = number} {proto = proto} {text = part} is) = port_form_at_least number proto part rest is
numeral_at_least rest (an_address {address = address} {text = part} is) =
    located_form_at_least (token.Address address) (part ++ rest) rest (located_at_least address part rest is)
numeral_at_least rest (a_subnet {cleared = cleared} {width = width} {text = part} is) =
    located_form_at_least (token.Subnet cleared width) (part ++ rest) rest (subnet_at_least cleared width part rest is)

-- What is read has the form ---------------------------------------------------------------------------------------

digits_read : (byte : ℕ) (others : List ℕ) (kind : TokenKind) (rest : List ℕ) → is_ascii_digit byte ≡ true → digits_at (byte ∷ others) ≡ Some (kind, rest)
    → IsPart (λ part. HasForm kind part rest) (byte ∷ others) rest
digits_read byte others kind rest digit found =
    let text : List ℕ = byte ∷ others in
    let count : ℕ = prefix_len is_ascii_digit text in
    let part : List ℕ = take_while is_ascii_digit text in
    let parts = pair_parts (token.Number (digits_value 10 part), drop count text) (kind, rest) found in
    let more : part ≡ byte ∷ take_while is_ascii_digit others = take_while-more is_ascii_digit byte others digit in
    let some : part ≢ [] = λ none. let never : ⊥ = cc in never in
    record {
      part = part;
      whole = sym (take-append-drop count text) ∙ ap (λ r. part ++ r) parts.1;
      fits = subst (λ k. HasForm k part rest) parts.0 ((some, take_while-passes is_ascii_digit text), refl);
    }

pub numeral_read : (byte : ℕ) (others : List ℕ) (kind : TokenKind) (rest : List ℕ) → is_ascii_digit byte ≡ true → numeral_form (byte ∷ others) ≡ Some (kind, rest)
    → IsPart (λ part. HasForm kind part rest) (byte ∷ others) rest
numeral_read byte others kind rest digit found =
    let text : List ℕ = byte ∷ others in
    elim (located_at text) as (λ (o : Option (TokenKind × List ℕ)). located_at text ≡ o → option_or o (option_or (port_at text) (digits_at text)) ≡ Some (kind, rest)
    → IsPart (λ part. HasForm kind part rest) text rest) [
      | Some located ↦ λ here is.
          let read = located_read text kind rest (here ∙ is) in
          record { part = read.part; whole = read.whole; fits = located_form rest read.fits }
      | None ↦ λ none.
          elim (port_at text) as (λ (o : Option (TokenKind × List ℕ)). port_at text ≡ o → option_or o (digits_at text) ≡ Some (kind, rest)
          → IsPart (λ part. HasForm kind part rest) text rest) [
            | Some port ↦ λ here is.
                let read = port_read text kind rest (here ∙ is) in
                record { part = read.part; whole = read.whole; fits = port_form rest read.fits }
            | None ↦ λ other is. digits_read byte others kind rest digit is
          ] refl
    ] refl found

-- First bytes -----------------------------------------------------------------------------------------------------

digits_first : (digits rest : List ℕ) → AreDigits digits → begins_digit (digits ++ rest) ≡ true
digits_first [] rest are = absurd (are.0 refl)
digits_first (byte ∷ digits) rest are = All-head (λ b. is_ascii_digit b ≡ true) byte digits are.1

address_first : (address : ℕ) (text rest : List ℕ) → IsAddress address text → begins_digit (text ++ rest) ≡ true
address_first address text rest is =
    let others : List ℕ = is.second_text ++ (is.third_text ++ is.fourth_text) in
    ap (λ t. begins_digit (t ++ rest)) (is.whole ∙ ap (λ f. f ++ others) is.first_is.whole ∙ append_assoc is.first_is.digits (46 ∷ []) others)
    ∙ ap begins_digit (append_assoc is.first_is.digits (46 ∷ others) rest)
    ∙ digits_first is.first_is.digits (46 ∷ others ++ rest) is.first_is.number.0.0

-- each begins with a digit
pub numeral_first : {kind : TokenKind} {part : List ℕ} (rest : List ℕ) → IsNumeral kind part → begins_digit (part ++ rest) ≡ true
numeral_first rest (a_number {text = part} is) = digits_first part rest is.0
numeral_first rest (a_port {proto = proto} {text = part} is) =
    ap (λ t. begins_digit (t ++ rest)) is.whole ∙ ap begins_digit (append_assoc is.digits (47 ∷ proto_name proto) rest)
    ∙ digits_first is.digits (47 ∷ proto_name proto ++ rest) is.number.0.0
numeral_first rest (an_address {address = address} {text = part} is) = address_first address part rest is
numeral_first rest (a_subnet {text = part} is) =
    ap (λ t. begins_digit (t ++ rest)) is.whole ∙ ap begins_digit (append_assoc is.address_text (47 ∷ is.width_text) rest)
    ∙ address_first is.address is.address_text (47 ∷ is.width_text ++ rest) is.address_is
