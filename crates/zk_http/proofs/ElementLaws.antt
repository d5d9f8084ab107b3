-- The elements of a value, cut at its commas one by one.
use Rattle.std.proofs.Common.{◌≡◌, ℕ, ◌+◌, ◌-◌, ◌<◌, Bool, true, false, cond, List, [], ◌∷◌, ◌++◌, length, take, drop, map, get_or, refl, sym, ap, ◌∙◌, arith, length-take, length-drop}
use Rattle.std.specs.Prelude.{◌==◌, ◌&&◌, if◌then◌else◌, slice_index}
use Rattle.std.proofs.lemmas.Grind.{flat_map-append, fold-append}
use Rattle.std.specs.List.{list_all}
use Rattle.std.proofs.lemmas.List.Folds.{list_all-append}
use Rattle.std.proofs.lemmas.Bool.Decides.{Decides-eqb, nat_tests}
use Rattle.std.proofs.lemmas.List.{take-append-drop, get_or-take, get_or_default, drop_more, take_more, append-nil}
use Rattle.std.proofs.lemmas.List.Splits.{slice_split_none}
use Rattle.std.proofs.Math.Seq.{take-length}
use Rattle.httparse.specs.Ascii.{comma}
use Rattle.httparse.specs.Grammar.{trim_ows}
use Rattle.memchr.specs.Find.{Nowhere, NoneBefore, Passes, is_byte}
use Rattle.zk_http.specs.Bodies.{is_named, elements_in, elements_if, elements_of, first_or_none, last_element}
use Rattle.zk_http.specs.Lines.{is_empty}
use Rattle.zk_http.proofs.LineLaws.{NoneIs, split_at}
use Rattle.zk_http.proofs.SearchLaws.{none_at_places}

-- all that stands behind a place
rest_whole : (value : List ℕ) (at : ℕ) → take (length value - at) (drop at value) ≡ drop at value
rest_whole value at = ap (λ n. take n (drop at value)) (sym (length-drop at value)) ∙ take-length (drop at value)

-- no element of the value stands before its first comma
before_comma : (value : List ℕ) (at : ℕ) → NoneBefore (Passes (is_byte comma) value) 0 (length value) at → NoneIs comma (take at value)
before_comma value at first =
    none_at_places comma (take at value) (λ k lt is.
    let inside : k < at = omega (arith, length-take at value) in
    first.before k (omega arith) inside
    ((Decides-eqb (slice_index value k) comma).1 (sym (get_or-take at value k 0 inside) ∙ is)))

pub cut_at : (value element : List ℕ) (at : ℕ) → NoneBefore (Passes (is_byte comma) value) 0 (length value) at → Passes (is_byte comma) value at
    → element ≡ trim_ows (take at value) → elements_in value ≡ element ∷ elements_in (take (length value - (at + 1)) (drop (at + 1) value))
cut_at value element at first passes is =
    let byte : slice_index value at ≡ comma = (Decides-eqb (slice_index value at) comma).0 passes in
    let behind : drop at value ≡ comma ∷ drop (at + 1) value = drop_more value at 0 first.high ∙ ap (λ b. b ∷ drop (at + 1) value) byte in
    let whole : value ≡ take at value ++ comma ∷ drop (at + 1) value = sym (take-append-drop at value) ∙ ap (λ rest. take at value ++ rest) behind in
    ap elements_in whole
    ∙ ap (map trim_ows) (split_at comma (take at value) (drop (at + 1) value) (before_comma value at first))
    ∙ ap (λ first. first ∷ elements_in (drop (at + 1) value)) (sym is)
    ∙ ap (λ rest. element ∷ elements_in rest) (sym (rest_whole value (at + 1)))

pub cut_none : (value element : List ℕ) → Nowhere (Passes (is_byte comma) value) 0 (length value) → element ≡ trim_ows value → elements_in value ≡ element ∷ []
cut_none value element nowhere is =
    ap (map trim_ows) (slice_split_none (λ byte. byte == comma) value (λ k d lt. differs (get_or value k d) (λ same. nowhere k (omega arith) lt (place k d lt same))))
    ∙ ap (λ one. one ∷ []) (sym is)
  where
    differs : (byte : ℕ) → (byte ≡ comma → ⊥) → (byte == comma) ≡ false
    differs byte apart = grind (arith, nat_tests)

    place : (k d : ℕ) → k < length value → get_or value k d ≡ comma → (slice_index value k == comma) ≡ true
    place k d lt same = (Decides-eqb (slice_index value k) comma).1 (get_or_default value k 0 d lt ∙ same)

-- ---- the elements of some header fields

pub last_more : (name : List ℕ) (headers : List (List ℕ × List ℕ)) (k : ℕ) (d : List ℕ × List ℕ) → k < length headers
    → last_element [] (elements_of name (take (k + 1) headers)) ≡ last_element (last_element [] (elements_of name (take k headers))) (elements_if name (get_or headers k d))
last_more name headers k d lt =
    ap (λ all. last_element [] (elements_of name all)) (take_more headers k d lt)
    ∙ ap (last_element []) (flat_map-append (elements_if name) (take k headers) (get_or headers k d ∷ [])
    ∙ ap (λ one. elements_of name (take k headers) ++ one) (append-nil (elements_if name (get_or headers k d))))
    ∙ fold-append (λ last element. if is_empty element then last else element) [] (elements_of name (take k headers)) (elements_if name (get_or headers k d))

-- the elements of header fields, by one of them
pub elements_split : (name : List ℕ) (headers : List (List ℕ × List ℕ)) (k : ℕ) (d : List ℕ × List ℕ) → k < length headers
    → elements_of name headers ≡ elements_of name (take k headers) ++ (elements_if name (get_or headers k d) ++ elements_of name (drop (k + 1) headers))
elements_split name headers k d lt =
    ap (elements_of name) (sym (take-append-drop k headers) ∙ ap (λ rest. take k headers ++ rest) (drop_more headers k d lt))
    ∙ flat_map-append (elements_if name) (take k headers) (get_or headers k d ∷ drop (k + 1) headers)

pub elements_more : (name : List ℕ) (headers : List (List ℕ × List ℕ)) (k : ℕ) (d : List ℕ × List ℕ) → k < length headers
    → elements_of name (take (k + 1) headers) ≡ elements_of name (take k headers) ++ elements_if name (get_or headers k d)
elements_more name headers k d lt =
    ap (elements_of name) (take_more headers k d lt)
    ∙ flat_map-append (elements_if name) (take k headers) (get_or headers k d ∷ [])
    ∙ ap (λ one. elements_of name (take k headers) ++ one) (append-nil (elements_if name (get_or headers k d)))

-- the elements of a header field that has the name
elements_named : (name : List ℕ) (header : List ℕ × List ℕ) (value : List ℕ) → is_named name header ≡ true → value ≡ header.1
    → elements_if name header ≡ elements_in value
elements_named name header value named is =
    ap (λ named. cond named (elements_in header.1) []) named ∙ ap elements_in (sym is)

-- the first element stands in the first field that has the name
pub first_of_field : (name : List ℕ) (headers : List (List ℕ × List ℕ)) (k : ℕ) (header : List ℕ × List ℕ) (value element : List ℕ) (others : List (List ℕ))
    → k < length headers → header ≡ get_or headers k header → elements_of name (take k headers) ≡ []
    → is_named name header ≡ true → value ≡ header.1 → elements_in value ≡ element ∷ others → first_or_none (elements_of name headers) ≡ element
first_of_field name headers k header value element others lt at none named is first =
    ap first_or_none (elements_split name headers k header lt
    ∙ ap (λ front. front ++ (elements_if name (get_or headers k header) ++ elements_of name (drop (k + 1) headers))) none
    ∙ ap (λ found. elements_if name found ++ elements_of name (drop (k + 1) headers)) (sym at)
    ∙ ap (λ found. found ++ elements_of name (drop (k + 1) headers)) (elements_named name header value named is ∙ first))

-- an element of a field with the name fails a test
pub fails_in_field : (test : List ℕ → Bool) (name : List ℕ) (headers : List (List ℕ × List ℕ)) (k : ℕ) (header : List ℕ × List ℕ) (value : List ℕ)
    → k < length headers → header ≡ get_or headers k header → is_named name header ≡ true → value ≡ header.1 → list_all test (elements_in value) ≡ false
    → false ≡ list_all test (elements_of name headers)
fails_in_field test name headers k header value lt at named is fails =
    let rest = elements_of name (drop (k + 1) headers) in
    let here : list_all test (elements_if name (get_or headers k header)) ≡ false =
    ap (λ found. list_all test (elements_if name found)) (sym at) ∙ ap (list_all test) (elements_named name header value named is) ∙ fails in
    sym (ap (list_all test) (elements_split name headers k header lt)
    ∙ list_all-append test (elements_of name (take k headers)) (elements_if name (get_or headers k header) ++ rest)
    ∙ ap (λ all. list_all test (elements_of name (take k headers)) && all) (list_all-append test (elements_if name (get_or headers k header)) rest ∙ ap (λ all. all && list_all test rest) here)
    ∙ and_false (list_all test (elements_of name (take k headers))))
  where
    and_false : (b : Bool) → (b && false) ≡ false
    and_false true = refl
    and_false false = refl
