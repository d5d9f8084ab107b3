-- Judging data is reading it, without what it says.
use Rattle.std.proofs.Common.{◌≡◌, ℕ, zero, suc, ◌+◌, ◌-◌, ◌<◌, ◌≤◌, ◌==◌, nat_lt, if◌then◌else◌, Bool, true, false, List, [], ◌∷◌, length, take, drop, Option, Some, None, is_some, Result, Ok, Err, refl, ap, sym, ◌∙◌, arith, length-drop, length-take}
use Rattle.std.specs.Option.{option_map}
use Rattle.std.proofs.lemmas.Bool.Decides.{nat_tests}
use Rattle.zk_dns.specs.declared.fault.DnsFault.{DnsFault}
use Rattle.zk_dns.specs.declared.fault.DnsFault.TheVariants as fault
use Rattle.zk_dns.specs.declared.record.AnswerKind.{AnswerKind}
use Rattle.zk_dns.specs.declared.record.AnswerKind.TheVariants as kind
use Rattle.zk_dns.specs.Name.{◌>>=◌, Name, name_at, name_text, within}
use Rattle.zk_dns.specs.Data.{alone_at, data_at, data_of, number_at, soa_at, soa_behind, strings_of, txt_of}
use Rattle.zk_dns.specs.Ends.{are_strings, judged, name_end_at, name_judged, only_if, soa_judged}

-- steps that are enough agree
pub strings_of-enough : (n m : ℕ) (bytes : List ℕ) → length bytes ≤ n → length bytes ≤ m → strings_of n bytes ≡ strings_of m bytes
unfolding strings_of
strings_of-enough zero zero bytes n_is m_is = refl
strings_of-enough zero (suc m) [] n_is m_is = refl
strings_of-enough zero (suc m) (len ∷ bytes) n_is m_is = absurd (omega arith)
strings_of-enough (suc n) zero [] n_is m_is = refl
strings_of-enough (suc n) zero (len ∷ bytes) n_is m_is = absurd (omega arith)
strings_of-enough (suc n) (suc m) [] n_is m_is = refl
strings_of-enough (suc n) (suc m) (len ∷ bytes) n_is m_is =
    ap (λ (rest : Option (List (List ℕ))). if nat_lt (length bytes) len then None else option_map (λ strings. take len bytes ∷ strings) rest)
    (strings_of-enough n m (drop len bytes) (omega (arith, length-drop len bytes)) (omega (arith, length-drop len bytes)))

-- whether the strings go on behind one that lies within the bytes
pub is_some-map : {A B : Type 0} (f : A → B) (found : Option A) → is_some (option_map f found) ≡ is_some found
is_some-map f None = refl
is_some-map f (Some x) = refl

-- bytes are strings, if those behind the first string are
pub strings-next : (rest : List ℕ) (len : ℕ) (bytes : List ℕ) → rest ≡ len ∷ bytes → len ≤ length bytes
    → is_some (strings_of (length rest) rest) ≡ is_some (strings_of (length (drop len bytes)) (drop len bytes))
unfolding strings_of
strings-next rest len bytes rest_is within =
    let first = ap (λ (xs : List ℕ). is_some (strings_of (length xs) xs)) rest_is in
    let more = is_some-map (λ (strings : List (List ℕ)). take len bytes ∷ strings) (strings_of (length bytes) (drop len bytes)) in
    let enough = ap (λ (found : Option (List (List ℕ))). is_some found)
    (strings_of-enough (length bytes) (length (drop len bytes)) (drop len bytes) (omega (arith, length-drop len bytes)) (omega arith)) in
    first ∙ grind (arith, nat_tests, more, enough)

-- a string that passes the bytes
pub strings-cut : (rest : List ℕ) (len : ℕ) (bytes : List ℕ) → rest ≡ len ∷ bytes → length bytes < len
    → is_some (strings_of (length rest) rest) ≡ false
unfolding strings_of
strings-cut rest len bytes rest_is cut = ap (λ (xs : List ℕ). is_some (strings_of (length xs) xs)) rest_is ∙ grind (arith, nat_tests)

-- no bytes are no string
pub strings-none : (n : ℕ) → strings_of n [] ≡ Some []
unfolding strings_of
strings-none zero = refl
strings-none (suc n) = refl

strings-some-by : (cut : Bool) (string : List ℕ) (found : Option (List (List ℕ))) (at : ℕ)
    → judged (txt_of (if cut then None else option_map (λ strings. string ∷ strings) found) at)
    ≡ only_if (is_some (if cut then None else option_map (λ strings. string ∷ strings) found)) at
strings-some-by true string found at = refl
strings-some-by false string None at = refl
strings-some-by false string (Some strings) at = refl

-- behind its length byte a string is one
strings-some : (n len : ℕ) (bytes : List ℕ) (at : ℕ)
    → judged (txt_of (strings_of n (len ∷ bytes)) at) ≡ only_if (is_some (strings_of n (len ∷ bytes))) at
unfolding strings_of
strings-some zero len bytes at = refl
strings-some (suc n) len bytes at = strings-some-by (nat_lt (length bytes) len) (take len bytes) (strings_of n (drop len bytes)) at

-- judging strings is reading them
pub txt-judged : (bytes : List ℕ) (at : ℕ) → judged (txt_of (strings_of (length bytes) bytes) at) ≡ only_if (are_strings bytes) at
txt-judged [] at = ap (λ (found : Option (List (List ℕ))). judged (txt_of found at)) (strings-none 0) ∙ grind arith
txt-judged (len ∷ bytes) at = strings-some (length (len ∷ bytes)) len bytes at ∙ grind (arith, nat_tests)

alone-judged-by : (read : Result Name DnsFault) (at end : ℕ) (told : List ℕ → AnswerKind)
    → judged (read >>= λ name. if name.next == end then Ok (told (name_text name.labels)) else Err (fault.Data at))
    ≡ ((read >>= λ name. Ok name.next) >>= λ next. only_if (next == end) at)
alone-judged-by (Err why) at end told = refl
alone-judged-by (Ok name) at end told =
    elim (name.next == end) as (λ b. judged (if b then Ok (told (name_text name.labels)) else Err (fault.Data at)) ≡ only_if b at)
    [ true ↦ refl | false ↦ refl ]

-- judging a name alone is reading it
pub alone-judged : (bytes : List ℕ) (at place end : ℕ) (told : List ℕ → AnswerKind)
    → judged (alone_at bytes at place end told) ≡ name_judged bytes at place end
unfolding alone_at name_end_at
alone-judged bytes at place end told = alone-judged-by (name_at bytes (within at end) place) at end told

-- a test of data and its fault
only-if-by : (right : Bool) (what : AnswerKind) (at : ℕ) → judged (if right then Ok what else Err (fault.Data at)) ≡ only_if right at
only-if-by true what at = refl
only-if-by false what at = refl

-- judging the 20 bytes is reading them
soa-second : (bytes : List ℕ) (first : Name) (read : Result Name DnsFault) (at end : ℕ)
    → judged (read >>= soa_behind bytes at end first) ≡ ((read >>= λ name. Ok name.next) >>= λ numbers. only_if (numbers + 20 == end) at)
soa-second bytes first (Err why) at end = refl
soa-second bytes first (Ok second) at end =
    only-if-by (second.next + 20 == end) (kind.Soa (name_text first.labels) (name_text second.labels)
    (number_at 4 bytes second.next) (number_at 4 bytes (second.next + 4)) (number_at 4 bytes (second.next + 8))
    (number_at 4 bytes (second.next + 12)) (number_at 4 bytes (second.next + 16))) at

-- judging two names and 20 bytes is reading them
pub soa-judged : (bytes : List ℕ) (at end : ℕ) → judged (soa_at bytes at end) ≡ soa_judged bytes at end
unfolding soa_at name_end_at
soa-judged bytes at end = soa-judged-by (name_at bytes (within at end) at)
  where
    soa-judged-by : (read : Result Name DnsFault)
        → judged (read >>= λ first. name_at bytes (within at end) first.next >>= soa_behind bytes at end first)
        ≡ ((read >>= λ name. Ok name.next) >>= λ between. ((name_at bytes (within at end) between >>= λ name. Ok name.next)
        >>= λ numbers. only_if (numbers + 20 == end) at))
    soa-judged-by (Err why) = refl
    soa-judged-by (Ok first) = soa-second bytes first (name_at bytes (within at end) first.next) at end

-- judging data of class 1, between two places, by its type
abbrev pub judged_by_type : List ℕ → ℕ → ℕ → ℕ → Result (Unit {0}) DnsFault
judged_by_type bytes type at end =
    if type == 1 then only_if (end - at == 4) at
    else if type == 28 then only_if (end - at == 16) at
    else if type == 2 then name_judged bytes at at end
    else if type == 5 then name_judged bytes at at end
    else if type == 12 then name_judged bytes at at end
    else if type == 15 then name_judged bytes at (at + 2) end
    else if type == 16 then only_if (are_strings (take (end - at) (drop at bytes))) at
    else if type == 6 then soa_judged bytes at end
    else Ok tt

-- reading data of a length that lies within the bytes is reading the strings of it
txt-judged-within : (bytes : List ℕ) (at end : ℕ) → at ≤ end → end ≤ length bytes
    → judged (txt_of (strings_of (end - at) (take (end - at) (drop at bytes))) at) ≡ only_if (are_strings (take (end - at) (drop at bytes))) at
txt-judged-within bytes at end order whole =
    let len : length (take (end - at) (drop at bytes)) ≡ end - at
    = omega (arith, length-take (end - at) (drop at bytes), length-drop at bytes) in
    ap (λ (n : ℕ). judged (txt_of (strings_of n (take (end - at) (drop at bytes))) at)) (sym len)
    ∙ txt-judged (take (end - at) (drop at bytes)) at

-- judging data of class 1 is reading it
pub data-judged : (bytes : List ℕ) (type at end : ℕ) → at ≤ end → end ≤ length bytes
    → judged (data_of bytes type at (end - at)) ≡ judged_by_type bytes type at end
unfolding data_of
data-judged bytes type at end order whole =
    let ends : at + (end - at) ≡ end = omega arith in
    let a = only-if-by (end - at == 4) (kind.A (number_at 4 bytes at)) at in
    let aaaa = only-if-by (end - at == 16) (kind.Aaaa (number_at 16 bytes at)) at in
    let name = alone-judged bytes at at end kind.Name in
    let mx = alone-judged bytes at (at + 2) end (kind.Mx (number_at 2 bytes at)) in
    let txt = txt-judged-within bytes at end order whole in
    let soa = soa-judged bytes at end in
    grind (arith, nat_tests, ends, a, aaaa, name, mx, txt, soa)

-- judging data of any class is reading it
pub data-judged-class : (bytes : List ℕ) (type class at len : ℕ)
    → judged (data_at bytes type class at len) ≡ (if class == 1 then judged (data_of bytes type at len) else Ok tt)
unfolding data_at
data-judged-class bytes type class at len = grind (arith, nat_tests)

-- where nothing is left, that is strings
pub strings-end : (rest : List ℕ) → length rest ≡ 0 → is_some (strings_of (length rest) rest) ≡ true
strings-end [] none = ap (λ (found : Option (List (List ℕ))). is_some found) (strings-none 0)
strings-end (byte ∷ rest) none = absurd (omega arith)
