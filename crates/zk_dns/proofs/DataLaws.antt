-- What is read as data is data of its type, and all such data is read.
use Rattle.std.proofs.Common.{◌≡◌, ◌≢◌, ℕ, zero, suc, ◌+◌, ◌<◌, ◌≤◌, ◌==◌, inl, inr, MatchBool, if◌then◌else◌, Bool, true, false, List, [], ◌∷◌, ◌++◌, length, take, drop, Option, Some, None, Result, Ok, Err, refl, ap, sym, subst, ◌∙◌, arith, length-append, length-take}
use Rattle.std.specs.Option.{option_map}
use Rattle.std.proofs.lemmas.Bool.Decides.{nat_tests}
use Rattle.std.proofs.lemmas.List.{length-take-le, take-append-drop}
use Rattle.std.proofs.Math.Seq.{drop-append_seam, take-append_seam}
use Rattle.zk_dns.specs.declared.fault.DnsFault.{DnsFault}
use Rattle.zk_dns.specs.declared.fault.DnsFault.TheVariants as fault
use Rattle.zk_dns.specs.declared.record.AnswerKind.{AnswerKind}
use Rattle.zk_dns.specs.declared.record.AnswerKind.TheVariants as kind
use Rattle.zk_dns.specs.Name.{◌>>=◌, IsName, Name, name_at, name_text, within}
use Rattle.zk_dns.specs.Data.{IsAlone, IsData, IsSoa, Says, alone_at, data_at, data_of, is_read, number_at, soa_at, soa_behind, spelled, strings_of, txt_of}
use Rattle.std.proofs.lemmas.Bool.{true≢false}
use Rattle.zk_dns.proofs.DataLemmas.{strings-none}
use Rattle.zk_dns.proofs.NameLaws.{behind-ok, eq-tells, lt-tells, name-found, name-only}

-- ---- strings

-- what an option was made of
mapped : {A B : Type 0} (f : A → B) (found : Option A) (y : B) → option_map f found ≡ Some y → (x : A) × (found ≡ Some x) × (f x ≡ y)
mapped f None y same = cc
mapped f (Some x) y same = (x, refl, cc)

-- a string and what follows it
string-whole : (len : ℕ) (bytes : List ℕ) → len ≤ length bytes → length (take len bytes) ∷ (take len bytes ++ drop len bytes) ≡ len ∷ bytes
string-whole len bytes within =
    ap (λ (n : ℕ). n ∷ (take len bytes ++ drop len bytes)) (length-take-le len bytes within)
    ∙ ap (λ (rest : List ℕ). len ∷ rest) (take-append-drop len bytes)

strings-found-by : (n len : ℕ) (bytes : List ℕ) (strings : List (List ℕ)) (cut : Bool) → MatchBool cut (length bytes < len) (len ≤ length bytes)
    → ((others : List (List ℕ)) → strings_of n (drop len bytes) ≡ Some others → spelled others ≡ drop len bytes)
    → (if cut then None else option_map (λ strings. take len bytes ∷ strings) (strings_of n (drop len bytes))) ≡ Some strings
    → spelled strings ≡ len ∷ bytes
strings-found-by n len bytes strings true a others found = cc
strings-found-by n len bytes strings false a others found =
    let (rest, read, strings_is) = mapped (λ strings. take len bytes ∷ strings) (strings_of n (drop len bytes)) strings found in
    rw (← strings_is) (rw (others rest read) (string-whole len bytes a))

some-is : {A : Type 0} {x y : A} → Some x ≡ Some y → y ≡ x
some-is same = cc

-- strings that are read spell the bytes
strings-found : (n : ℕ) (bytes : List ℕ) (strings : List (List ℕ)) → strings_of n bytes ≡ Some strings → spelled strings ≡ bytes
unfolding strings_of
strings-found zero [] strings found = rw (some-is found) refl
strings-found zero (len ∷ bytes) strings found = cc
strings-found (suc n) [] strings found = rw (some-is found) refl
strings-found (suc n) (len ∷ bytes) strings found =
    strings-found-by n len bytes strings _ (lt-tells (length bytes) len) (λ others. strings-found n (drop len bytes) others) found

-- a string before others
strings-only-behind : (n : ℕ) (string rest : List ℕ) (strings : List (List ℕ)) → strings_of n rest ≡ Some strings
    → strings_of (suc n) (length string ∷ (string ++ rest)) ≡ Some (string ∷ strings)
unfolding strings_of
strings-only-behind n string rest strings found =
    let len : length (string ++ rest) ≡ length string + length rest = length-append string rest in
    let front = take-append_seam string rest in
    let back = ap (λ (bytes : List ℕ). option_map (λ (others : List (List ℕ)). string ∷ others) (strings_of n bytes)) (drop-append_seam string rest) in
    let whole = ap (λ (found : Option (List (List ℕ))). option_map (λ (others : List (List ℕ)). string ∷ others) found) found in
    rw front (grind (arith, nat_tests, len, back, whole))

-- what strings spell is read as them
strings-only : (n : ℕ) (strings : List (List ℕ)) → length (spelled strings) ≤ n → strings_of n (spelled strings) ≡ Some strings
strings-only n [] enough = strings-none n
strings-only zero (string ∷ strings) enough = absurd (omega arith)
strings-only (suc n) (string ∷ strings) enough =
    strings-only-behind n string (spelled strings) strings
    (strings-only n strings (omega (arith, enough, length-append string (spelled strings))))

-- ---- data of one type

-- a test that was passed
pub passed : {A : Type 0} (a b : ℕ) (x y : A) (why : DnsFault) → (if a == b then Ok x else Err why) ≡ Ok y → (a ≡ b) × (y ≡ x)
passed a b x y why found = passed-by (a == b) (eq-tells a b) found
  where
    passed-by : (same : Bool) → MatchBool same (a ≡ b) (a ≢ b) → (if same then Ok x else Err why) ≡ Ok y → (a ≡ b) × (y ≡ x)
    passed-by true is found = (is, cc)
    passed-by false is found = cc

passes : {A : Type 0} (a b : ℕ) (x : A) (why : DnsFault) → a ≡ b → (if a == b then Ok x else Err why) ≡ Ok x
passes a b x why same = grind (arith, nat_tests)

-- a name that is all of the data from a place on
alone-found : (bytes : List ℕ) (at place end : ℕ) (told : List ℕ → AnswerKind) (what : AnswerKind) → end ≤ length bytes
    → alone_at bytes at place end told ≡ Ok what → (text : List ℕ) × IsAlone bytes place end text × (what ≡ told text)
unfolding alone_at
alone-found bytes at place end told what inside found =
    let (name, read, rest) = behind-ok (name_at bytes (within at end) place)
    (λ name. if name.next == end then Ok (told (name_text name.labels)) else Err (fault.Data at)) what found in
    let (ends, what_is) = passed name.next end (told (name_text name.labels)) what (fault.Data at) rest in
    let is : IsName bytes end place name.labels name.next = name-found bytes (within at end) place name inside read in
    (name_text name.labels, (name.labels, subst (λ (to : ℕ). IsName bytes end place name.labels to) ends is, refl), what_is)

alone-only : (bytes : List ℕ) (at place end : ℕ) (told : List ℕ → AnswerKind) (text : List ℕ)
    → IsAlone bytes place end text → alone_at bytes at place end told ≡ Ok (told text)
unfolding alone_at
alone-only bytes at place end told text (labels, is, text_is) =
    ap (λ (r : Result Name DnsFault). r >>= λ name. if name.next == end then Ok (told (name_text name.labels)) else Err (fault.Data at))
    (name-only bytes (within at end) place labels end is)
    ∙ rw text_is (grind (arith, nat_tests))

-- one string or more
txt-found : (bytes : List ℕ) (at len : ℕ) (what : AnswerKind) → txt_of (strings_of len bytes) at ≡ Ok what
    → (strings : List (List ℕ)) × (strings ≢ []) × (spelled strings ≡ bytes) × (what ≡ kind.Txt strings)
txt-found bytes at len what found = txt-found-by (strings_of len bytes) refl found
  where
    txt-found-by : (read : Option (List (List ℕ))) → strings_of len bytes ≡ read → txt_of read at ≡ Ok what
        → (strings : List (List ℕ)) × (strings ≢ []) × (spelled strings ≡ bytes) × (what ≡ kind.Txt strings)
    txt-found-by None read found = cc
    txt-found-by (Some []) read found = cc
    txt-found-by (Some (string ∷ strings)) read found =
        (string ∷ strings, (λ (none : string ∷ strings ≡ []). cc), strings-found len bytes (string ∷ strings) read, cc)

txt-only : (bytes : List ℕ) (at len : ℕ) (strings : List (List ℕ)) → length bytes ≤ len → strings ≢ [] → spelled strings ≡ bytes
    → txt_of (strings_of len bytes) at ≡ Ok (kind.Txt strings)
txt-only bytes at len [] enough some spells = absurd (some refl)
txt-only bytes at len (string ∷ strings) enough some spells =
    ap (λ (found : Option (List (List ℕ))). txt_of found at)
    (ap (strings_of len) (sym spells) ∙ strings-only len (string ∷ strings) (subst (λ (xs : List ℕ). length xs ≤ len) (sym spells) enough))

-- two names and 20 bytes
soa-found : (bytes : List ℕ) (at len : ℕ) (what : AnswerKind) → at + len ≤ length bytes → soa_at bytes at (at + len) ≡ Ok what
    → Says bytes 6 at len what
unfolding soa_at
soa-found bytes at len what inside found =
    let end : ℕ = at + len in
    let (first, read, more) = behind-ok (name_at bytes (within at end) at) _ what found in
    let (second, again, rest) = behind-ok (name_at bytes (within at end) first.next) _ what more in
    let (ends, what_is) = passed (second.next + 20) end
    (kind.Soa (name_text first.labels) (name_text second.labels)
    (number_at 4 bytes second.next) (number_at 4 bytes (second.next + 4)) (number_at 4 bytes (second.next + 8))
    (number_at 4 bytes (second.next + 12)) (number_at 4 bytes (second.next + 16))) what (fault.Data at) rest in
    rw what_is (
      refl,
      record {
        between = first.next;
        numbers = second.next;
        first = first.labels;
        second = second.labels;
        first_stands = name-found bytes (within at end) at first inside read;
        second_stands = name-found bytes (within at end) first.next second inside again;
        rest = ends;
        mname_is = refl;
        rname_is = refl;
        serial_is = refl;
        refresh_is = refl;
        retry_is = refl;
        expire_is = refl;
        minimum_is = refl;
      },
    )

-- what two names and five numbers say
soa-same : {bytes : List ℕ} {at len : ℕ} {mname rname : List ℕ} {serial refresh retry expire minimum : ℕ}
    → (is : IsSoa bytes at len mname rname serial refresh retry expire minimum)
    → kind.Soa (name_text is.first) (name_text is.second)
    (number_at 4 bytes is.numbers) (number_at 4 bytes (is.numbers + 4)) (number_at 4 bytes (is.numbers + 8))
    (number_at 4 bytes (is.numbers + 12)) (number_at 4 bytes (is.numbers + 16))
    ≡ kind.Soa mname rname serial refresh retry expire minimum
soa-same is = cc (is.mname_is, is.rname_is, is.serial_is, is.refresh_is, is.retry_is, is.expire_is, is.minimum_is)

soa-only : (bytes : List ℕ) (at len : ℕ) (mname rname : List ℕ) (serial refresh retry expire minimum : ℕ)
    → IsSoa bytes at len mname rname serial refresh retry expire minimum
    → soa_at bytes at (at + len) ≡ Ok (kind.Soa mname rname serial refresh retry expire minimum)
unfolding soa_at
soa-only bytes at len mname rname serial refresh retry expire minimum is =
    let end : ℕ = at + len in
    let behind : Name → Result AnswerKind DnsFault = λ first. name_at bytes (within at end) first.next >>= soa_behind bytes at end first in
    let first : Name = record { labels = is.first; next = is.between } in
    ap (λ (r : Result Name DnsFault). r >>= behind) (name-only bytes (within at end) at is.first is.between is.first_stands)
    ∙ ap (λ (r : Result Name DnsFault). r >>= soa_behind bytes at end first)
    (name-only bytes (within at end) is.between is.second is.numbers is.second_stands)
    ∙ passes (is.numbers + 20) end (kind.Soa (name_text is.first) (name_text is.second)
    (number_at 4 bytes is.numbers) (number_at 4 bytes (is.numbers + 4)) (number_at 4 bytes (is.numbers + 8))
    (number_at 4 bytes (is.numbers + 12)) (number_at 4 bytes (is.numbers + 16))) (fault.Data at) is.rest
    ∙ ap (λ (what : AnswerKind). Ok what) (soa-same is)

-- ---- data of class 1

-- data of a type that isn't read
not-read : (type : ℕ) → type ≢ 1 → type ≢ 2 → type ≢ 5 → type ≢ 6 → type ≢ 12 → type ≢ 15 → type ≢ 16 → type ≢ 28 → is_read type ≡ false
not-read type a ns cname soa ptr mx txt aaaa = grind (arith, nat_tests)

data-found-by : (bytes : List ℕ) (type at len : ℕ) (what : AnswerKind) → at + len ≤ length bytes
    → (a aaaa ns cname ptr mx txt soa : Bool)
    → MatchBool a (type ≡ 1) (type ≢ 1) → MatchBool aaaa (type ≡ 28) (type ≢ 28)
    → MatchBool ns (type ≡ 2) (type ≢ 2) → MatchBool cname (type ≡ 5) (type ≢ 5) → MatchBool ptr (type ≡ 12) (type ≢ 12)
    → MatchBool mx (type ≡ 15) (type ≢ 15) → MatchBool txt (type ≡ 16) (type ≢ 16) → MatchBool soa (type ≡ 6) (type ≢ 6)
    → (if a then (if len == 4 then Ok (kind.A (number_at 4 bytes at)) else Err (fault.Data at))
    else if aaaa then (if len == 16 then Ok (kind.Aaaa (number_at 16 bytes at)) else Err (fault.Data at))
    else if ns then alone_at bytes at at (at + len) kind.Name
    else if cname then alone_at bytes at at (at + len) kind.Name
    else if ptr then alone_at bytes at at (at + len) kind.Name
    else if mx then alone_at bytes at (at + 2) (at + len) (kind.Mx (number_at 2 bytes at))
    else if txt then txt_of (strings_of len (take len (drop at bytes))) at
    else if soa then soa_at bytes at (at + len)
    else Ok kind.Other) ≡ Ok what
    → Says bytes type at len what
data-found-by bytes type at len what inside true aaaa ns cname ptr mx txt soa is1 is28 is2 is5 is12 is15 is16 is6 found =
    let p = passed len 4 (kind.A (number_at 4 bytes at)) what (fault.Data at) found in
    rw p.1 (is1, p.0, refl)
data-found-by bytes type at len what inside false true ns cname ptr mx txt soa is1 is28 is2 is5 is12 is15 is16 is6 found =
    let p = passed len 16 (kind.Aaaa (number_at 16 bytes at)) what (fault.Data at) found in
    rw p.1 (is28, p.0, refl)
data-found-by bytes type at len what inside false false true cname ptr mx txt soa is1 is28 is2 is5 is12 is15 is16 is6 found =
    let p = alone-found bytes at at (at + len) kind.Name what inside found in
    rw p.2 (inl is2, p.1)
data-found-by bytes type at len what inside false false false true ptr mx txt soa is1 is28 is2 is5 is12 is15 is16 is6 found =
    let p = alone-found bytes at at (at + len) kind.Name what inside found in
    rw p.2 (inr (inl is5), p.1)
data-found-by bytes type at len what inside false false false false true mx txt soa is1 is28 is2 is5 is12 is15 is16 is6 found =
    let p = alone-found bytes at at (at + len) kind.Name what inside found in
    rw p.2 (inr (inr is12), p.1)
data-found-by bytes type at len what inside false false false false false true txt soa is1 is28 is2 is5 is12 is15 is16 is6 found =
    let p = alone-found bytes at (at + 2) (at + len) (kind.Mx (number_at 2 bytes at)) what inside found in
    rw p.2 (is15, refl, p.1)
data-found-by bytes type at len what inside false false false false false false true soa is1 is28 is2 is5 is12 is15 is16 is6 found =
    let p = txt-found (take len (drop at bytes)) at len what found in
    rw p.3 (is16, p.1, p.2)
data-found-by bytes type at len what inside false false false false false false false true is1 is28 is2 is5 is12 is15 is16 is6 found =
    subst (λ (t : ℕ). Says bytes t at len what) (sym is6) (soa-found bytes at len what inside found)
data-found-by bytes type at len what inside false false false false false false false false is1 is28 is2 is5 is12 is15 is16 is6 found =
    let other : what ≡ kind.Other = cc in
    rw other (not-read type is1 is2 is5 is6 is12 is15 is16 is28)

-- what is read as data is what it says
pub data-found : (bytes : List ℕ) (type class at len : ℕ) (what : AnswerKind) → at + len ≤ length bytes
    → data_at bytes type class at len ≡ Ok what → IsData bytes type class at len what
unfolding data_at data_of
data-found bytes type class at len what inside found = data-found-class (class == 1) (eq-tells class 1) found
  where
    data-found-class : (internet : Bool) → MatchBool internet (class ≡ 1) (class ≢ 1)
        → (if internet then data_of bytes type at len else Ok kind.Other) ≡ Ok what → IsData bytes type class at len what
    data-found-class true is found = inl (
      is,
      data-found-by bytes type at len what inside _ _ _ _ _ _ _ _
          (eq-tells type 1) (eq-tells type 28) (eq-tells type 2) (eq-tells type 5) (eq-tells type 12) (eq-tells type 15) (eq-tells type 16) (eq-tells type 6) found,
    )
    data-found-class false is found = inr (is, cc)

-- a type that isn't read is none of those
none-read : (type : ℕ) → is_read type ≡ false
    → (type ≢ 1) × (type ≢ 2) × (type ≢ 5) × (type ≢ 6) × (type ≢ 12) × (type ≢ 15) × (type ≢ 16) × (type ≢ 28)
none-read type none = (
  (λ (is : type ≡ 1). true≢false (rw is at none)),
  (λ (is : type ≡ 2). true≢false (rw is at none)),
  (λ (is : type ≡ 5). true≢false (rw is at none)),
  (λ (is : type ≡ 6). true≢false (rw is at none)),
  (λ (is : type ≡ 12). true≢false (rw is at none)),
  (λ (is : type ≡ 15). true≢false (rw is at none)),
  (λ (is : type ≡ 16). true≢false (rw is at none)),
  (λ (is : type ≡ 28). true≢false (rw is at none)),
)

-- data of a type that isn't read
other-only : (bytes : List ℕ) (type at len : ℕ) → is_read type ≡ false → data_of bytes type at len ≡ Ok kind.Other
unfolding data_of
other-only bytes type at len none =
    let (is1, is2, is5, is6, is12, is15, is16, is28) = none-read type none in
    grind (arith, nat_tests)

-- all data that says something is read
data-only-by : (bytes : List ℕ) (type at len : ℕ) (what : AnswerKind) → Says bytes type at len what → data_of bytes type at len ≡ Ok what
unfolding data_of
data-only-by bytes type at len (kind.A address) (type_is, len_is, address_is) =
    rw (type_is, len_is) (ap (λ (n : ℕ). Ok (kind.A n)) (sym address_is))
data-only-by bytes type at len (kind.Aaaa address) (type_is, len_is, address_is) =
    rw (type_is, len_is) (ap (λ (n : ℕ). Ok (kind.Aaaa n)) (sym address_is))
data-only-by bytes type at len (kind.Name text) (inl ns, alone) =
    rw ns (alone-only bytes at at (at + len) kind.Name text alone)
data-only-by bytes type at len (kind.Name text) (inr (inl cname), alone) =
    rw cname (alone-only bytes at at (at + len) kind.Name text alone)
data-only-by bytes type at len (kind.Name text) (inr (inr ptr), alone) =
    rw ptr (alone-only bytes at at (at + len) kind.Name text alone)
data-only-by bytes type at len (kind.Mx preference text) (type_is, preference_is, alone) =
    rw (type_is, preference_is) (alone-only bytes at (at + 2) (at + len) (kind.Mx (number_at 2 bytes at)) text alone)
data-only-by bytes type at len (kind.Txt strings) (type_is, some, spells) =
    rw type_is (txt-only (take len (drop at bytes)) at len strings (omega (arith, length-take len (drop at bytes))) some spells)
data-only-by bytes type at len (kind.Soa mname rname serial refresh retry expire minimum) (type_is, is) =
    rw type_is (soa-only bytes at len mname rname serial refresh retry expire minimum is)
data-only-by bytes type at len kind.Other none = other-only bytes type at len none

pub data-only : (bytes : List ℕ) (type class at len : ℕ) (what : AnswerKind) → IsData bytes type class at len what
    → data_at bytes type class at len ≡ Ok what
unfolding data_at
data-only bytes type class at len what (inl (is, says)) = rw is (data-only-by bytes type at len what says)
data-only bytes type class at len what (inr (is, other)) = rw other (grind (arith, nat_tests))
