-- What parts and data say that can be read.
use Rattle.std.proofs.Common.{◌≡◌, ◌≢◌, ℕ, zero, suc, ◌+◌, ◌<◌, ◌≤◌, ◌==◌, ◌&&◌, not, ◌⊎◌, inl, inr, MatchBool, if◌then◌else◌, Bool, true, false, List, [], ◌∷◌, ◌++◌, length, map, take, drop, Option, Some, None, is_some, IsOk, Result, Ok, Err, refl, ap, sym, subst, ◌∙◌, arith, append-nil, append_assoc, length-take, length-drop}
use Rattle.std.specs.Option.{option_map}
use Rattle.std.proofs.lemmas.Bool.Decides.{nat_tests}
use Rattle.zk_dns.specs.declared.fault.DnsFault.{DnsFault}
use Rattle.zk_dns.specs.declared.fault.DnsFault.TheVariants as fault
use Rattle.zk_dns.specs.declared.record.AnswerKind.{AnswerKind}
use Rattle.zk_dns.specs.declared.record.AnswerKind.TheVariants as kind
use Rattle.zk_dns.specs.Name.{◌>>=◌, AreRuns, Name, name_at, name_text, whole, within}
use Rattle.zk_dns.specs.Data.{alone_at, data_at, data_of, number_at, soa_at, strings_of, txt_of}
use Rattle.zk_dns.specs.Sections.{Asked, Reads, Resource, question_at, resource_at, several}
use Rattle.zk_dns.specs.Ends.{are_strings, name_end_at}
use Rattle.std.specs.Borrow.{Bor}
use Rattle.std.specs.Prelude.{All, IfOk}
use Rattle.std.specs.List.{AllByRecursion}
use Rattle.std.proofs.lemmas.List.Elements.{All-from_recursion}
use Rattle.zk_dns.specs.declared.parts.QuestionPart.{QuestionPart}
use Rattle.zk_dns.specs.declared.parts.AnswerPart.{AnswerPart}
use Rattle.zk_dns.specs.declared.record.Answer.{Answer}
use Rattle.zk_dns.specs.Parts.{answer_part, parts_of, question_part}
use Rattle.zk_dns.specs.Record.{answer_of}
use Rattle.zk_dns.specs.Text.{HasDataNames, HasName, text_at}
use Rattle.zk_dns.proofs.TextLemmas.{has-run, run-inside}
use Rattle.std.proofs.lemmas.Bool.{true≢false}
use Rattle.zk_dns.proofs.DataLaws.{passed}
use Rattle.zk_dns.proofs.DataLemmas.{is_some-map, strings-none, strings_of-enough}
use Rattle.zk_dns.proofs.NameLaws.{behind-ok, lt-tells, name-found, name-only, ok-is}
use Rattle.zk_dns.proofs.ReadLemmas.{is-read, name-ends, question-read, read-before, resource-read}

-- ---- names

-- a name that ends before a place ends before a later one
pub runs-wider : (bytes : List ℕ) (end wider place next : ℕ) (runs : List (List (List ℕ))) → end ≤ wider → AreRuns bytes end place runs next
    → AreRuns bytes wider place runs next
runs-wider bytes end wider place next [] more stand = stand
runs-wider bytes end wider place next (labels ∷ []) more stand = record {
  ending = stand.ending;
  stand = stand.stand;
  root = stand.root;
  behind = stand.behind;
  within = omega (arith, stand.within, more);
}
runs-wider bytes end wider place next (labels ∷ others ∷ runs) more (target, behind, pointed, stand) = (
  target,
  behind,
  record {
    ending = pointed.ending;
    stand = pointed.stand;
    pointer = pointed.pointer;
    leads = pointed.leads;
    back = pointed.back;
    behind = pointed.behind;
    within = omega (arith, pointed.within, more);
  },
  stand,
)

-- a name in data is a name of the message
pub name-wider : (bytes : List ℕ) (at end place : ℕ) (name : Name) → end ≤ length bytes → name_at bytes (within at end) place ≡ Ok name
    → name_at bytes (whole bytes) place ≡ Ok name
name-wider bytes at end place name inside found =
    let (runs, stand, labels_are, small) = name-found bytes (within at end) place name inside found in
    name-only bytes (whole bytes) place name.labels name.next
    (runs, runs-wider bytes end (length bytes) place name.next runs inside stand, labels_are, small)

-- the text of a name that was read
pub text-of : (bytes : List ℕ) (place : ℕ) (name : Name) (text : List ℕ) → name_at bytes (whole bytes) place ≡ Ok name → text_at bytes place ≡ Ok text
    → text ≡ name_text name.labels
unfolding text_at
text-of bytes place name text found told =
    ok-is (sym (ap (λ (r : Result Name DnsFault). r >>= λ name. Ok (name_text name.labels)) found) ∙ told)

-- ---- parts

-- a question that can be read has a name
pub question-named : (bytes : List ℕ) (place : ℕ) → IsOk (question_at bytes place) → HasName bytes place
unfolding question_at
question-named bytes place ok = read-before _ _ ok

pub question-text : (bytes : List ℕ) (place : ℕ) (asked : Asked) (next : ℕ) (text : List ℕ) → question_at bytes place ≡ Ok (asked, next)
    → text_at bytes place ≡ Ok text → text ≡ name_text asked.labels
question-text bytes place asked next text found told =
    let (name, name_read, within, asked_is, next_is) = question-read bytes place asked next found in
    text-of bytes place name text name_read told ∙ ap (λ (a : Asked). name_text a.labels) (sym asked_is)

-- a record that can be read has a name
pub resource-named : (bytes : List ℕ) (place : ℕ) → IsOk (resource_at bytes place) → HasName bytes place
unfolding resource_at
resource-named bytes place ok = read-before _ _ ok

pub resource-text : (bytes : List ℕ) (place : ℕ) (resource : Resource) (next : ℕ) (text : List ℕ) → resource_at bytes place ≡ Ok (resource, next)
    → text_at bytes place ≡ Ok text → text ≡ name_text resource.labels
resource-text bytes place resource next text found told =
    let (name, what, name_read, within, said, resource_is, next_is) = resource-read bytes place resource next found in
    text-of bytes place name text name_read told ∙ ap (λ (r : Resource). name_text r.labels) (sym resource_is)

-- the data of a record that was read lies within the bytes, and says what it says
pub resource-says : (bytes : List ℕ) (place : ℕ) (resource : Resource) (next : ℕ) → resource_at bytes place ≡ Ok (resource, next)
    → (resource.at + resource.len ≤ length bytes) × (data_at bytes resource.rtype resource.rclass resource.at resource.len ≡ Ok resource.what)
    × (length (take resource.len (drop resource.at bytes)) ≡ resource.len)
resource-says bytes place resource next found =
    let (name, what, name_read, within, said, resource_is, next_is) = resource-read bytes place resource next found in
    let inside : resource.at + resource.len ≤ length bytes = subst (λ (r : Resource). r.at + r.len ≤ length bytes) (sym resource_is) within in (
      inside,
      subst (λ (r : Resource). data_at bytes r.rtype r.rclass r.at r.len ≡ Ok r.what) (sym resource_is) said,
      omega (arith, inside, length-take resource.len (drop resource.at bytes), length-drop resource.at bytes),
    )

-- ---- data

-- a name alone that can be read
alone-says : (bytes : List ℕ) (at place end : ℕ) (told : List ℕ → AnswerKind) → end ≤ length bytes → IsOk (alone_at bytes at place end told)
    → HasName bytes place × ((text : List ℕ) → text_at bytes place ≡ Ok text → alone_at bytes at place end told ≡ Ok (told text))
unfolding alone_at
alone-says bytes at place end told inside ok =
    let (what, found) = is-read _ ok in
    let (name, read, rest) = behind-ok (name_at bytes (within at end) place)
    (λ name. if name.next == end then Ok (told (name_text name.labels)) else Err (fault.Data at)) what found in
    let (ends, what_is) = passed name.next end (told (name_text name.labels)) what (fault.Data at) rest in
    let wide = name-wider bytes at end place name inside read in
    (rw wide refl, λ text text_is. found ∙ ap (λ (w : AnswerKind). Ok w) (what_is ∙ ap told (sym (text-of bytes place name text wide text_is))))

pub kind-a : (bytes : List ℕ) (type at len : ℕ) → type ≡ 1 → IsOk (data_of bytes type at len)
    → (len ≡ 4) × (data_of bytes type at len ≡ Ok (kind.A (number_at 4 bytes at)))
unfolding data_of
kind-a bytes type at len is ok =
    let (what, found) = is-read _ ok in
    let same : data_of bytes type at len ≡ (if len == 4 then Ok (kind.A (number_at 4 bytes at)) else Err (fault.Data at)) = rw is refl in
    let p = passed len 4 (kind.A (number_at 4 bytes at)) what (fault.Data at) (sym same ∙ found) in
    (p.0, found ∙ ap (λ (w : AnswerKind). Ok w) p.1)

pub kind-aaaa : (bytes : List ℕ) (type at len : ℕ) → type ≡ 28 → IsOk (data_of bytes type at len)
    → (len ≡ 16) × (data_of bytes type at len ≡ Ok (kind.Aaaa (number_at 16 bytes at)))
unfolding data_of
kind-aaaa bytes type at len is ok =
    let (what, found) = is-read _ ok in
    let same : data_of bytes type at len ≡ (if len == 16 then Ok (kind.Aaaa (number_at 16 bytes at)) else Err (fault.Data at)) = rw is refl in
    let p = passed len 16 (kind.Aaaa (number_at 16 bytes at)) what (fault.Data at) (sym same ∙ found) in
    (p.0, found ∙ ap (λ (w : AnswerKind). Ok w) p.1)

-- what data of the types of one name is
data-name : (bytes : List ℕ) (type at len : ℕ) → (type ≡ 2) ⊎ (type ≡ 5) ⊎ (type ≡ 12)
    → data_of bytes type at len ≡ alone_at bytes at at (at + len) kind.Name
unfolding data_of
data-name bytes type at len (inl is) = rw is refl
data-name bytes type at len (inr (inl is)) = rw is refl
data-name bytes type at len (inr (inr is)) = rw is refl

pub kind-name : (bytes : List ℕ) (type at len : ℕ) → (type ≡ 2) ⊎ (type ≡ 5) ⊎ (type ≡ 12) → at + len ≤ length bytes → IsOk (data_of bytes type at len)
    → HasName bytes at × ((text : List ℕ) → text_at bytes at ≡ Ok text → data_of bytes type at len ≡ Ok (kind.Name text))
kind-name bytes type at len is inside ok =
    let same = data-name bytes type at len is in
    let p = alone-says bytes at at (at + len) kind.Name inside (subst IsOk same ok) in
    (p.0, λ text told. same ∙ p.1 text told)

-- what data of a mail exchange is
data-mx : (bytes : List ℕ) (type at len : ℕ) → type ≡ 15 → data_of bytes type at len ≡ alone_at bytes at (at + 2) (at + len) (kind.Mx (number_at 2 bytes at))
unfolding data_of
data-mx bytes type at len is = rw is refl

pub kind-mx : (bytes : List ℕ) (type at len : ℕ) → type ≡ 15 → at + len ≤ length bytes → IsOk (data_of bytes type at len)
    → HasName bytes (at + 2) × ((text : List ℕ) → text_at bytes (at + 2) ≡ Ok text → data_of bytes type at len ≡ Ok (kind.Mx (number_at 2 bytes at) text))
kind-mx bytes type at len is inside ok =
    let same = data-mx bytes type at len is in
    let p = alone-says bytes at (at + 2) (at + len) (kind.Mx (number_at 2 bytes at)) inside (subst IsOk same ok) in
    (p.0, λ text told. same ∙ p.1 text told)

-- two names and 20 bytes that can be read
pub soa-says : (bytes : List ℕ) (at end : ℕ) → end ≤ length bytes → IsOk (soa_at bytes at end)
    → (first : Name) × (second : Name) × (name_at bytes (whole bytes) at ≡ Ok first) × (name_at bytes (whole bytes) first.next ≡ Ok second)
    × (second.next + 20 ≡ end)
    × (soa_at bytes at end ≡ Ok (kind.Soa (name_text first.labels) (name_text second.labels)
    (number_at 4 bytes second.next) (number_at 4 bytes (second.next + 4)) (number_at 4 bytes (second.next + 8))
    (number_at 4 bytes (second.next + 12)) (number_at 4 bytes (second.next + 16))))
unfolding soa_at
soa-says bytes at end inside ok =
    let (what, found) = is-read _ ok in
    let (first, read, more) = behind-ok (name_at bytes (within at end) at) _ what found in
    let (second, again, rest) = behind-ok (name_at bytes (within at end) first.next) _ what more in
    let (ends, what_is) = passed (second.next + 20) end
    (kind.Soa (name_text first.labels) (name_text second.labels)
    (number_at 4 bytes second.next) (number_at 4 bytes (second.next + 4)) (number_at 4 bytes (second.next + 8))
    (number_at 4 bytes (second.next + 12)) (number_at 4 bytes (second.next + 16))) what (fault.Data at) rest in (
      first,
      second,
      name-wider bytes at end at first inside read,
      name-wider bytes at end first.next second inside again,
      ends,
      found ∙ ap (λ (w : AnswerKind). Ok w) what_is,
    )

data-soa : (bytes : List ℕ) (type at len : ℕ) → type ≡ 6 → data_of bytes type at len ≡ soa_at bytes at (at + len)
unfolding data_of
data-soa bytes type at len is = rw is refl

pub kind-soa : (bytes : List ℕ) (type at len : ℕ) → type ≡ 6 → IsOk (data_of bytes type at len)
    → IsOk (soa_at bytes at (at + len)) × (data_of bytes type at len ≡ soa_at bytes at (at + len))
kind-soa bytes type at len is ok = let same = data-soa bytes type at len is in (subst IsOk same ok, same)

-- what data of strings is
data-txt : (bytes : List ℕ) (type at len : ℕ) → type ≡ 16 → data_of bytes type at len ≡ txt_of (strings_of len (take len (drop at bytes))) at
unfolding data_of
data-txt bytes type at len is = rw is refl

txt-some : (bytes : List ℕ) (at n : ℕ) → length bytes ≡ n → IsOk (txt_of (strings_of n bytes) at)
    → (strings : List (List ℕ)) × (strings_of n bytes ≡ Some strings) × (strings ≢ []) × (txt_of (strings_of n bytes) at ≡ Ok (kind.Txt strings))
txt-some bytes at n len ok = txt-some-by (strings_of n bytes) ok
  where
    txt-some-by : (found : Option (List (List ℕ))) → IsOk (txt_of found at)
        → (strings : List (List ℕ)) × (found ≡ Some strings) × (strings ≢ []) × (txt_of found at ≡ Ok (kind.Txt strings))
    txt-some-by None ok = cc
    txt-some-by (Some []) ok = cc
    txt-some-by (Some (string ∷ strings)) ok = (string ∷ strings, refl, (λ (none : string ∷ strings ≡ []). cc), refl)

-- the places of two names and of the 20 bytes, by where the names end
pub soa-places : (bytes : List ℕ) (at end between numbers : ℕ) → end ≤ length bytes → IsOk (soa_at bytes at end)
    → name_end_at bytes (whole bytes) at ≡ Ok between → name_end_at bytes (whole bytes) between ≡ Ok numbers
    → HasName bytes between × (numbers + 20 ≤ length bytes)
    × ((mname rname : List ℕ) → text_at bytes at ≡ Ok mname → text_at bytes between ≡ Ok rname
    → soa_at bytes at end ≡ Ok (kind.Soa mname rname
    (number_at 4 bytes numbers) (number_at 4 bytes (numbers + 4)) (number_at 4 bytes (numbers + 8))
    (number_at 4 bytes (numbers + 12)) (number_at 4 bytes (numbers + 16))))
soa-places bytes at end between numbers inside ok ends more_ends =
    let (first, second, read, again, rest, said) = soa-says bytes at end inside ok in
    let between_is : first.next ≡ between = name-ends bytes (whole bytes) at between first read ends in
    let again_there : name_at bytes (whole bytes) between ≡ Ok second = subst (λ (p : ℕ). name_at bytes (whole bytes) p ≡ Ok second) between_is again in
    let numbers_is : second.next ≡ numbers = name-ends bytes (whole bytes) between numbers second again_there more_ends in (
      rw again_there refl,
      omega (arith, rest, numbers_is, inside),
      λ mname rname first_told second_told. said
          ∙ ap (λ (n : ℕ). Ok (kind.Soa (name_text first.labels) (name_text second.labels)
          (number_at 4 bytes n) (number_at 4 bytes (n + 4)) (number_at 4 bytes (n + 8)) (number_at 4 bytes (n + 12)) (number_at 4 bytes (n + 16)))) numbers_is
          ∙ ap (λ (m : List ℕ). Ok (kind.Soa m (name_text second.labels)
          (number_at 4 bytes numbers) (number_at 4 bytes (numbers + 4)) (number_at 4 bytes (numbers + 8))
          (number_at 4 bytes (numbers + 12)) (number_at 4 bytes (numbers + 16)))) (sym (text-of bytes at first mname read first_told))
          ∙ ap (λ (r : List ℕ). Ok (kind.Soa mname r
          (number_at 4 bytes numbers) (number_at 4 bytes (numbers + 4)) (number_at 4 bytes (numbers + 8))
          (number_at 4 bytes (numbers + 12)) (number_at 4 bytes (numbers + 16)))) (sym (text-of bytes between second rname again_there second_told)),
    )

-- the first name of a zone of authority can be read, and the second behind it
pub soa-first : (bytes : List ℕ) (at end : ℕ) → end ≤ length bytes → IsOk (soa_at bytes at end) → HasName bytes at
soa-first bytes at end inside ok = let (first, second, read, again, rest, said) = soa-says bytes at end inside ok in rw read refl

pub soa-second : (bytes : List ℕ) (at end between : ℕ) → end ≤ length bytes → IsOk (soa_at bytes at end)
    → name_end_at bytes (whole bytes) at ≡ Ok between → HasName bytes between
soa-second bytes at end between inside ok ends =
    let (first, second, read, again, rest, said) = soa-says bytes at end inside ok in
    let between_is : first.next ≡ between = name-ends bytes (whole bytes) at between first read ends in
    subst (HasName bytes) between_is (rw again refl)

-- ---- strings

-- one string and those behind it
strings-one : (rest : List ℕ) (len : ℕ) (bytes : List ℕ) → rest ≡ len ∷ bytes → is_some (strings_of (length rest) rest) ≡ true
    → (len ≤ length bytes) × (is_some (strings_of (length (drop len bytes)) (drop len bytes)) ≡ true)
    × (strings_of (length rest) rest ≡ option_map (λ more. take len bytes ∷ more) (strings_of (length (drop len bytes)) (drop len bytes)))
unfolding strings_of
strings-one rest len bytes rest_is ok =
    let whole = ap (λ (xs : List ℕ). strings_of (length xs) xs) rest_is in
    strings-one-by _ (lt-tells (length bytes) len) whole
  where
    strings-one-by : (cut : Bool) → MatchBool cut (length bytes < len) (len ≤ length bytes)
        → strings_of (length rest) rest ≡ (if cut then None else option_map (λ more. take len bytes ∷ more) (strings_of (length bytes) (drop len bytes)))
        → (len ≤ length bytes) × (is_some (strings_of (length (drop len bytes)) (drop len bytes)) ≡ true)
        × (strings_of (length rest) rest ≡ option_map (λ more. take len bytes ∷ more) (strings_of (length (drop len bytes)) (drop len bytes)))
    strings-one-by true is same = absurd (true≢false (sym ok ∙ ap is_some same))
    strings-one-by false is same =
        let enough = strings_of-enough (length bytes) (length (drop len bytes)) (drop len bytes) (omega (arith, length-drop len bytes)) (omega arith) in
        let there = same ∙ ap (λ (found : Option (List (List ℕ))). option_map (λ more. take len bytes ∷ more) found) enough in
        (is, sym (is_some-map (λ more. take len bytes ∷ more) _) ∙ sym (ap is_some there) ∙ ok, there)

-- the strings so far and one more
pub strings-step : (so_far : List (List ℕ)) (rest : List ℕ) (len : ℕ) (bytes : List ℕ) (all : Option (List (List ℕ))) → rest ≡ len ∷ bytes
    → is_some (strings_of (length rest) rest) ≡ true
    → option_map (λ more. so_far ++ more) (strings_of (length rest) rest) ≡ all
    → (len ≤ length bytes) × (is_some (strings_of (length (drop len bytes)) (drop len bytes)) ≡ true)
    × (option_map (λ more. (so_far ++ take len bytes ∷ []) ++ more) (strings_of (length (drop len bytes)) (drop len bytes)) ≡ all)
strings-step so_far rest len bytes all rest_is ok told =
    let (inside, more_ok, there) = strings-one rest len bytes rest_is ok in (
      inside,
      more_ok,
      strings-moved (strings_of (length (drop len bytes)) (drop len bytes))
          ∙ ap (λ (found : Option (List (List ℕ))). option_map (λ more. so_far ++ more) found) (sym there) ∙ told,
    )
  where
    strings-moved : (found : Option (List (List ℕ)))
        → option_map (λ more. (so_far ++ take len bytes ∷ []) ++ more) found ≡ option_map (λ more. so_far ++ more) (option_map (λ more. take len bytes ∷ more) found)
    strings-moved None = refl
    strings-moved (Some more) = ap (λ (l : List (List ℕ)). Some l) (append_assoc so_far (take len bytes ∷ []) more)

-- nothing is left
pub strings-done : (so_far : List (List ℕ)) (rest : List ℕ) (all : Option (List (List ℕ))) → length rest ≡ 0
    → option_map (λ more. so_far ++ more) (strings_of (length rest) rest) ≡ all → all ≡ Some so_far
strings-done so_far [] all none told =
    sym told ∙ ap (λ (found : Option (List (List ℕ))). option_map (λ more. so_far ++ more) found) (strings-none 0)
    ∙ ap (λ (l : List (List ℕ)). Some l) (append-nil so_far)
strings-done so_far (byte ∷ rest) all none told = absurd (omega arith)

some-is : {A : Type 0} {x y : A} → Some x ≡ Some y → x ≡ y
some-is same = cc

-- bytes that are strings, and not none
txt-are : (bytes : List ℕ) (strings : List (List ℕ)) → strings_of (length bytes) bytes ≡ Some strings → strings ≢ [] → are_strings bytes ≡ true
txt-are [] strings found some = absurd (some (some-is (sym found ∙ strings-none 0)))
txt-are (byte ∷ bytes) strings found some = ap (λ (f : Option (List (List ℕ))). is_some f && not (length (byte ∷ bytes) == 0)) found ∙ grind (arith, nat_tests)

-- data of strings that can be read
pub kind-txt : (bytes : List ℕ) (type at len : ℕ) → type ≡ 16 → at + len ≤ length bytes → IsOk (data_of bytes type at len)
    → (are_strings (take len (drop at bytes)) ≡ true)
    × ((strings : List (List ℕ)) → strings_of (length (take len (drop at bytes))) (take len (drop at bytes)) ≡ Some strings
    → data_of bytes type at len ≡ Ok (kind.Txt strings))
kind-txt bytes type at len is inside ok =
    let same = data-txt bytes type at len is in
    let size : length (take len (drop at bytes)) ≡ len = omega (arith, inside, length-take len (drop at bytes), length-drop at bytes) in
    let (strings, found, some, told) = txt-some (take len (drop at bytes)) at len size (subst IsOk same ok) in
    let found_at = ap (λ (n : ℕ). strings_of n (take len (drop at bytes))) size ∙ found in (
      txt-are (take len (drop at bytes)) strings found_at some,
      λ others others_found.
          same ∙ told ∙ ap (λ (s : List (List ℕ)). Ok (kind.Txt s)) (some-is (sym found_at ∙ others_found)),
    )

-- a name begins within the bytes
pub name-inside : (bytes : List ℕ) (place : ℕ) → HasName bytes place → place < length bytes
name-inside bytes place ok = run-inside bytes place (has-run bytes place ok)

-- data of a type that isn't read
pub kind-other : (bytes : List ℕ) (type at len : ℕ)
    → type ≢ 1 → type ≢ 28 → type ≢ 2 → type ≢ 5 → type ≢ 12 → type ≢ 15 → type ≢ 16 → type ≢ 6 → data_of bytes type at len ≡ Ok kind.Other
unfolding data_of
kind-other bytes type at len a aaaa ns cname ptr mx txt soa = grind (arith, nat_tests)

-- data of class 1 is read by its type
pub internet-data : (bytes : List ℕ) (type class at len : ℕ) → class ≡ 1 → data_at bytes type class at len ≡ data_of bytes type at len
unfolding data_at
internet-data bytes type class at len is = rw is refl

-- data of another class is passed over
pub other-data : (bytes : List ℕ) (type class at len : ℕ) → class ≢ 1 → data_at bytes type class at len ≡ Ok kind.Other
unfolding data_at
other-data bytes type class at len is = grind (arith, nat_tests)

-- what was read of equal data
pub same-told : {A E : Type 0} (result : Result A E) (read other : Result A DnsFault) → read ≡ other
    → IfOk result (λ what. other ≡ Ok what) → IfOk result (λ what. read ≡ Ok what)
same-told (Ok what) read other same told = same ∙ told
same-told (Err why) read other same told = told

-- a part of a record that can be read: its data lies within the bytes, and can be read
pub answer-known : (bytes : Bor (List ℕ)) (place : ℕ) (part : AnswerPart) (behind : ℕ) → IsOk (resource_at bytes.now place)
    → ((resource : Resource) (next : ℕ) → resource_at bytes.now place ≡ Ok (resource, next) → (part ≡ answer_part bytes resource) × (behind ≡ next))
    → (part.at + length part.bytes.now ≤ length bytes.now) × IsOk (data_at bytes.now part.rtype part.rclass part.at (length part.bytes.now))
answer-known bytes place part behind ok given =
    let (found, read) = is-read (resource_at bytes.now place) ok in
    let resource : Resource = found.0 in
    let (inside, said, size) = resource-says bytes.now place resource found.1 read in
    let is : part ≡ answer_part bytes resource = (given resource found.1 read).0 in
    let P : AnswerPart → Type 0 = λ p. (p.at + length p.bytes.now ≤ length bytes.now)
    × IsOk (data_at bytes.now p.rtype p.rclass p.at (length p.bytes.now)) in
    subst P (sym is) (omega (arith, inside, size), rw size (rw said refl))

-- a record by what its part, its name and its data say
pub answer-told : (bytes : Bor (List ℕ)) (place : ℕ) (part : AnswerPart) (name : List ℕ) (what : AnswerKind) (resource : Resource) (next : ℕ)
    → resource_at bytes.now place ≡ Ok (resource, next) → part ≡ answer_part bytes resource → text_at bytes.now place ≡ Ok name
    → data_at bytes.now part.rtype part.rclass part.at (length part.bytes.now) ≡ Ok what
    → ◌≡◌ {A = Answer} (record { name = name; rtype = part.rtype; rclass = part.rclass; ttl = part.ttl; what = what }) (answer_of resource)
answer-told bytes place part name what resource next found is told said =
    let (inside, says, size) = resource-says bytes.now place resource next found in
    let name_is : name ≡ name_text resource.labels = resource-text bytes.now place resource next name found told in
    let same : data_at bytes.now part.rtype part.rclass part.at (length part.bytes.now) ≡ data_at bytes.now resource.rtype resource.rclass resource.at resource.len
    = ap (λ (p : AnswerPart). data_at bytes.now p.rtype p.rclass p.at (length p.bytes.now)) is
    ∙ ap (data_at bytes.now resource.rtype resource.rclass resource.at) size in
    let what_is : what ≡ resource.what = sym (ok-is (sym said ∙ same ∙ says)) in
    λ i. record {
      name = name_is i;
      rtype = ap (λ (p : AnswerPart). p.rtype) is i;
      rclass = ap (λ (p : AnswerPart). p.rclass) is i;
      ttl = ap (λ (p : AnswerPart). p.ttl) is i;
      what = what_is i;
    }

-- ---- names of parts

-- what holds of each part that can be read holds of all that are
several-each-by : {A B : Type 0} (read : Reads A) (view : A → B) (P : B → Type 0) (n place : ℕ) (r : Result (A × ℕ) DnsFault) → read place ≡ r
    → ((x : A) (next : ℕ) → read place ≡ Ok (x, next) → P (view x))
    → ((at : ℕ) → AllByRecursion P (map view (parts_of (several read n at))))
    → AllByRecursion P (map view (parts_of {A = A} (r >>= λ first. several read n first.1 >>= λ others. Ok (first.0 ∷ others.0, others.1))))
several-each-by read view P n place (Err why) is each rest = tt
several-each-by {A = A} read view P n place (Ok first) is each rest = behind (several read n first.1) (rest first.1)
  where
    behind : (others : Result (List A × ℕ) DnsFault) → AllByRecursion P (map view (parts_of others))
        → AllByRecursion P (map view (parts_of {A = A} (others >>= λ others. Ok (first.0 ∷ others.0, others.1))))
    behind (Err why) all = tt
    behind (Ok others) all = (each first.0 first.1 is, all)

several-each : {A B : Type 0} (read : Reads A) (view : A → B) (P : B → Type 0)
    → ((place : ℕ) (x : A) (next : ℕ) → read place ≡ Ok (x, next) → P (view x))
    → (n place : ℕ) → AllByRecursion P (map view (parts_of (several read n place)))
unfolding several
several-each read view P each zero place = tt
several-each read view P each (suc n) place =
    several-each-by read view P n place (read place) refl (each place) (λ at. several-each read view P each n at)

-- each question is named by a place where a name can be read
pub questions-named : (bytes : List ℕ) (n place : ℕ)
    → All (λ part. HasName bytes part.name) (map question_part (parts_of (several (question_at bytes) n place)))
questions-named bytes n place =
    let named : QuestionPart → Type 0 = λ part. HasName bytes part.name in
    All-from_recursion named (map question_part (parts_of (several (question_at bytes) n place)))
    (several-each (question_at bytes) question_part named
    (λ at asked next found.
    let (name, name_read, within, asked_is, next_is) = question-read bytes at asked next found in
    subst (λ (a : Asked). HasName bytes a.name) (sym asked_is) (rw name_read refl)) n place)

-- each answer is named by a place where a name can be read
pub answers-named : (bytes : Bor (List ℕ)) (n place : ℕ)
    → All (λ part. HasName bytes.now part.name) (map (answer_part bytes) (parts_of (several (resource_at bytes.now) n place)))
answers-named bytes n place =
    let named : AnswerPart → Type 0 = λ part. HasName bytes.now part.name in
    All-from_recursion named (map (answer_part bytes) (parts_of (several (resource_at bytes.now) n place)))
    (several-each (resource_at bytes.now) (answer_part bytes) named
    (λ at resource next found.
    let (name, what, name_read, within, said, resource_is, next_is) = resource-read bytes.now at resource next found in
    subst (λ (r : Resource). HasName bytes.now r.name) (sym resource_is) (rw name_read refl)) n place)

-- where data of class 1 can be read, its type says what it is
data-inside : (bytes : List ℕ) (type class at len : ℕ) (what : AnswerKind) → class ≡ 1 → data_at bytes type class at len ≡ Ok what → IsOk (data_of bytes type at len)
unfolding data_at
data-inside bytes type class at len what is said =
    let same : data_at bytes type class at len ≡ data_of bytes type at len = rw is refl in
    rw (sym same ∙ said) refl

-- the names in the data of each answer can be read
pub answers-data-named : (bytes : Bor (List ℕ)) (n place : ℕ)
    → All (HasDataNames bytes.now) (map (answer_part bytes) (parts_of (several (resource_at bytes.now) n place)))
answers-data-named bytes n place =
    All-from_recursion (HasDataNames bytes.now) (map (answer_part bytes) (parts_of (several (resource_at bytes.now) n place)))
    (several-each (resource_at bytes.now) (answer_part bytes) (HasDataNames bytes.now)
    (λ at resource next found.
    let (inside, said, len_is) = resource-says bytes.now at resource next found in
    let ok : resource.rclass ≡ 1 → IsOk (data_of bytes.now resource.rtype resource.at resource.len) =
    λ is. data-inside bytes.now resource.rtype resource.rclass resource.at resource.len resource.what is said in
    record {
      alone = λ class type. (kind-name bytes.now resource.rtype resource.at resource.len type inside (ok class)).0;
      exchange = λ class type. (kind-mx bytes.now resource.rtype resource.at resource.len type inside (ok class)).0;
      primary = λ class type. soa-first bytes.now resource.at (resource.at + resource.len) inside (kind-soa bytes.now resource.rtype resource.at resource.len type (ok class)).0;
      mailbox = λ class type behind ends. soa-second bytes.now resource.at (resource.at + resource.len) behind inside
          (kind-soa bytes.now resource.rtype resource.at resource.len type (ok class)).0 ends;
    }) n place)
