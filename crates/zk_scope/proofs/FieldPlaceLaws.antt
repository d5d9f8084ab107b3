-- Where the fields of record types stand, and which is the first of a name.
use Rattle.std.proofs.Common.{◌≡◌, ℕ, zero, suc, ◌+◌, ◌-◌, ◌<◌, ◌≤◌, Bool, true, false, List, [], ◌∷◌, ◌++◌, length, get_or, take, map, filter, flat_map, nat_eq, Option, Some, None, slice_get, slice_set, if◌then◌else◌, refl, ap, sym, ◌∙◌, subst, arith, append-nil, append_assoc}
use Rattle.std.proofs.lemmas.Bool.{eq-eqb}
use Rattle.std.proofs.lemmas.Bool.Decides.{Decides-eqb}
use Rattle.std.proofs.lemmas.Grind.{flat_map-append}
use Rattle.std.proofs.lemmas.List.{length-map, map-append, take_more}
use Rattle.std.specs.Option.{option_and_then, option_map}
use Rattle.std.specs.Str.{bytes_eq}
use Rattle.zk_tree.specs.declared.decl.Decl.{Decl, out-Decl}
use Rattle.zk_tree.specs.declared.decl.Decl.TheOpen.{Decl-F}
use Rattle.zk_tree.specs.declared.decl.Decl.TheOpen as decl
use Rattle.zk_tree.specs.declared.name.Name.{Name}
use Rattle.zk_tree.specs.declared.types.Field.{Field}
use Rattle.zk_typed.specs.LoadOrder.{Home, Stated}
use Rattle.zk_typed.specs.Making.{field_named}
use Rattle.zk_typed.specs.Names.{Node, RecordNode, EnumNode, count_before, is_record}
use Rattle.zk_typed.specs.Predefined.{record_types}
use Rattle.zk_typed.specs.Program.{RecordType}
use Rattle.zk_typed.specs.Resolving.{FieldInfo, Scripts, added_fields, fields_of, is_that, known_field, own_fields, type_named, written_field}
use Rattle.zk_typed.specs.Within.{maybe_one}
use Rattle.zk_scope.specs.declared.field_places.FieldPlace.{FieldPlace}
use Rattle.zk_scope.specs.declared.field_places.RecordFields.{RecordFields}
use Rattle.zk_scope.specs.declared.home.Stated.{Stated as LentStated}
use Rattle.zk_scope.specs.declared.predefined.KnownField.{KnownField}
use Rattle.zk_scope.specs.FieldPlaces.{AreOwn, HasPlaces, Hold, added_in, added_places, added_texts, decl_texts, field_at, field_name, field_places, fields_added, is_among, known_name, named, node_texts, places_from}
use Rattle.zk_scope.specs.Fields.{decl_fields, known_lent, known_of, node_fields, own_of, predefined_fields, stated_fields}
use Rattle.zk_scope.specs.Lent.{stated_lent, stated_of}
use Rattle.zk_scope.proofs.FieldLaws.{own_is}
use Rattle.zk_scope.proofs.IndexLaws.{get_of_map}
use Rattle.zk_scope.proofs.PlaceLaws.{count_later, count_now}
use Rattle.zk_scope.proofs.WayLaws.{all_more, longer, none_past, past_end, some_at}

-- Places and names of one text -----------------------------------------------------------------------------------------

pub places_map : {A B : Type 0} (f : A → B) (added : Option ℕ) (at : ℕ) (fields : List A) → places_from added at (map f fields) ≡ places_from added at fields
places_map f added at [] = refl
places_map f added at (field ∷ others) = ap (λ (x : List FieldPlace). record { added = added; at = at } ∷ x) (places_map f added (suc at) others)

places_push : {A : Type 0} (added : Option ℕ) (at last : ℕ) (fields : List A) (one : A) → last ≡ at + length fields → places_from added at (fields ++ one ∷ []) ≡ places_from added at fields ++ record { added = added; at = last } ∷ []
places_push added at last [] one is =
    let here : at ≡ last = omega (arith, is) in
    ap (λ (n : ℕ). record { added = added; at = n } ∷ []) here
places_push added at last (field ∷ others) one is =
    let behind : last ≡ suc at + length others = omega (arith, is) in
    ap (λ (x : List FieldPlace). record { added = added; at = at } ∷ x) (places_push added (suc at) last others one behind)

taken : {A : Type 0} (items : List A) (at : ℕ) → at < length items → length (take at items) ≡ at
taken [] zero within = refl
taken [] (suc at) within = absurd (omega (arith, within))
taken (first ∷ others) zero within = refl
taken (first ∷ others) (suc at) within = ap suc (taken others at (omega (arith, within)))

pub next_taken : {A : Type 0} (fields : List A) (at : ℕ) (field : A) → at < length fields → field ≡ get_or fields at field → take (at + 1) fields ≡ take at fields ++ field ∷ []
next_taken fields at field within is = take_more fields at field within ∙ ap (λ y. take at fields ++ y ∷ []) (sym is)

-- one field more of a text
pub one_more_field : {A : Type 0} (text : A → List ℕ) (added : Option ℕ) (fields : List A) (at : ℕ) (field : A) (old new : RecordFields) (places : List FieldPlace) (names : List (List ℕ)) (name : List ℕ) →
    at < length fields → take (at + 1) fields ≡ take at fields ++ field ∷ [] → name ≡ text field → HasPlaces old (places ++ places_from added 0 (take at fields)) (names ++ map text (take at fields)) →
    ((before : List FieldPlace) (known : List (List ℕ)) → HasPlaces old before known → HasPlaces new (before ++ record { added = added; at = at } ∷ []) (known ++ name ∷ [])) →
    HasPlaces new (places ++ places_from added 0 (take (at + 1) fields)) (names ++ map text (take (at + 1) fields))
one_more_field text added fields at field old new places names name within e said before pushed =
    let last : at ≡ 0 + length (take at fields) = omega (arith, taken fields at within) in
    let placed : (places ++ places_from added 0 (take at fields)) ++ record { added = added; at = at } ∷ [] ≡ places ++ places_from added 0 (take (at + 1) fields) =
    append_assoc places (places_from added 0 (take at fields)) (record { added = added; at = at } ∷ []) ∙
    ap (λ (x : List FieldPlace). places ++ x) (sym (places_push added 0 at (take at fields) field last) ∙ ap (places_from added 0) (sym e)) in
    let spelled : (names ++ map text (take at fields)) ++ name ∷ [] ≡ names ++ map text (take (at + 1) fields) =
    append_assoc names (map text (take at fields)) (name ∷ []) ∙
    ap (λ (x : List (List ℕ)). names ++ x) (ap (λ (x : List ℕ). map text (take at fields) ++ x ∷ []) said ∙ sym (map-append text (take at fields) (field ∷ [])) ∙ ap (map text) (sym e)) in
    subst (λ (x : List FieldPlace). HasPlaces new x (names ++ map text (take (at + 1) fields))) placed
    (subst (HasPlaces new ((places ++ places_from added 0 (take at fields)) ++ record { added = added; at = at } ∷ [])) spelled (pushed (places ++ places_from added 0 (take at fields)) (names ++ map text (take at fields)) before))

-- no field more
pub as_before : (one : RecordFields) (places : List FieldPlace) (names : List (List ℕ)) → HasPlaces one places names → HasPlaces one (places ++ []) (names ++ [])
as_before one places names has =
    subst (λ (x : List FieldPlace). HasPlaces one x (names ++ [])) (sym (append-nil places)) (subst (HasPlaces one places) (sym (append-nil names)) has)

named_written : (scripts : Scripts) (home : Home) (fields : List Field) → named (map (written_field scripts home) fields) ≡ map field_name fields
named_written scripts home [] = refl
named_written scripts home (field ∷ others) = ap (λ (x : List (List ℕ)). field_name field ∷ x) (named_written scripts home others)

named_known : (fields : List KnownField) → named (known_lent fields) ≡ map known_name fields
named_known [] = refl
named_known (field ∷ others) = ap (λ (x : List (List ℕ)). known_name field ∷ x) (named_known others)

-- The own text of a record type ----------------------------------------------------------------------------------------

same_fields : (one : RecordFields) (fields others : List FieldInfo) → fields ≡ others → HasPlaces one (places_from None 0 fields) (named fields) → HasPlaces one (places_from None 0 others) (named others)
same_fields one fields others e has = subst (λ (x : List FieldInfo). HasPlaces one (places_from None 0 x) (named x)) e has

pub own_known : (scripts : Scripts) (number : ℕ) (one : RecordFields) (fields : List KnownField) → Some (known_lent fields) ≡ predefined_fields number →
    HasPlaces one ([] ++ places_from None 0 fields) ([] ++ map known_name fields) → HasPlaces one (places_from None 0 (own_fields scripts number)) (named (own_fields scripts number))
own_known scripts number one fields is has =
    same_fields one (known_lent fields) (own_fields scripts number) (sym (own_is scripts number ∙ ap (own_of scripts number) (sym is)))
    (subst (λ (x : List FieldPlace). HasPlaces one x (named (known_lent fields))) (sym (places_map known_of None 0 fields)) (subst (HasPlaces one (places_from None 0 fields)) (sym (named_known fields)) has))

node_placed : (scripts : Scripts) (node : Option Node) → places_from None 0 (node_texts node) ≡ places_from None 0 (node_fields scripts node)
node_placed scripts None = refl
node_placed scripts (Some (RecordNode home place fields)) = sym (places_map (written_field scripts home) None 0 fields)
node_placed scripts (Some (EnumNode home place words)) = refl

node_named : (scripts : Scripts) (node : Option Node) → map field_name (node_texts node) ≡ named (node_fields scripts node)
node_named scripts None = refl
node_named scripts (Some (RecordNode home place fields)) = sym (named_written scripts home fields)
node_named scripts (Some (EnumNode home place words)) = refl

pub own_written : (scripts : Scripts) (number left : ℕ) (one : RecordFields) (node : Option Node) → None ≡ predefined_fields number → left ≡ number - 8 → node ≡ slice_get (filter is_record scripts.nodes) left →
    HasPlaces one ([] ++ places_from None 0 (node_texts node)) ([] ++ map field_name (node_texts node)) → HasPlaces one (places_from None 0 (own_fields scripts number)) (named (own_fields scripts number))
own_written scripts number left one node is at found has =
    let here : node_fields scripts node ≡ own_fields scripts number =
    ap (node_fields scripts) (found ∙ ap (slice_get (filter is_record scripts.nodes)) at) ∙ ap (own_of scripts number) is ∙ sym (own_is scripts number) in
    same_fields one (node_fields scripts node) (own_fields scripts number) here
    (subst (λ (x : List FieldPlace). HasPlaces one x (named (node_fields scripts node))) (node_placed scripts node) (subst (HasPlaces one (places_from None 0 (node_texts node))) (node_named scripts node) has))

-- past all record types there are no fields
own_absent : (scripts : Scripts) (number : ℕ) → 8 + length (filter is_record scripts.nodes) ≤ number → own_fields scripts number ≡ []
own_absent scripts number past =
    let eight : length record_types ≡ 8 = refl in
    own_is scripts number ∙
    ap (λ (found : Option RecordType). own_of scripts number (option_map (λ (one : RecordType). map known_field one.fields) found)) (none_past record_types number (omega (arith, past, eight))) ∙
    ap (node_fields scripts) (none_past (filter is_record scripts.nodes) (number - 8) (omega (arith, past)))

-- What declarations add ------------------------------------------------------------------------------------------------

added_push : (scripts : Scripts) (number at last : ℕ) (stated : List Stated) (one : Stated) → last ≡ at + length stated →
    added_places scripts number at (stated ++ one ∷ []) ≡ added_places scripts number at stated ++ places_from (Some last) 0 (stated_fields scripts number one)
added_push scripts number at last [] one is =
    let here : at ≡ last = omega (arith, is) in
    append-nil (places_from (Some at) 0 (stated_fields scripts number one)) ∙ ap (λ (n : ℕ). places_from (Some n) 0 (stated_fields scripts number one)) here
added_push scripts number at last (first ∷ others) one is =
    let behind : last ≡ suc at + length others = omega (arith, is) in
    ap (λ (x : List FieldPlace). places_from (Some at) 0 (stated_fields scripts number first) ++ x) (added_push scripts number (suc at) last others one behind) ∙
    sym (append_assoc (places_from (Some at) 0 (stated_fields scripts number first)) (added_places scripts number (suc at) others) (places_from (Some last) 0 (stated_fields scripts number one)))

if_placed : (scripts : Scripts) (home : Home) (place : ℕ) (fields : List Field) (b : Bool) →
    places_from (Some place) 0 (if b then fields else []) ≡ places_from (Some place) 0 (if b then map (written_field scripts home) fields else [])
if_placed scripts home place fields true = sym (places_map (written_field scripts home) (Some place) 0 fields)
if_placed scripts home place fields false = refl

if_named : (scripts : Scripts) (home : Home) (fields : List Field) (b : Bool) → map field_name (if b then fields else []) ≡ named (if b then map (written_field scripts home) fields else [])
if_named scripts home fields true = sym (named_written scripts home fields)
if_named scripts home fields false = refl

hold_same : (records : List RecordFields) (places more : ℕ → List FieldPlace) (names others : ℕ → List (List ℕ)) → ((number : ℕ) → places number ≡ more number) → ((number : ℕ) → names number ≡ others number) →
    Hold records places names → Hold records more others
hold_same records places more names others placed spelled held = (
  λ number one found. subst (λ (x : List FieldPlace). HasPlaces one x (others number)) (placed number) (subst (HasPlaces one (places number)) (spelled number) (held.0 number one found)),
  λ number none. sym (placed number) ∙ held.1 number none,
)

set_same : {A : Type 0} (items : List A) (at : ℕ) (one : A) → at < length items → slice_get (slice_set items at one) at ≡ Some one
set_same [] at one within = absurd (omega (arith, within))
set_same (first ∷ others) zero one within = refl
set_same (first ∷ others) (suc at) one within = set_same others at one (omega (arith, within))

set_other : {A : Type 0} (items : List A) (at other : ℕ) (one : A) → (at ≡ other → false ≡ true) → slice_get (slice_set items at one) other ≡ slice_get items other
set_other [] at other one apart = refl
set_other (first ∷ others) zero zero one apart = absurd_same (apart refl)
  where
    absurd_same : false ≡ true → Some one ≡ Some first
    absurd_same e = cc
set_other (first ∷ others) zero (suc other) one apart = refl
set_other (first ∷ others) (suc at) zero one apart = refl
set_other (first ∷ others) (suc at) (suc other) one apart = set_other others at other one (λ e. apart (ap suc e))

-- fields that are added to one record type
pub hold_set : (old : List RecordFields) (index : ℕ) (lent new : RecordFields) (place : ℕ) (fields : List Field) (places : ℕ → List FieldPlace) (names : ℕ → List (List ℕ)) → index < length old → lent ≡ get_or old index lent →
    ((before : List FieldPlace) (known : List (List ℕ)) → HasPlaces lent before known → HasPlaces new (before ++ places_from (Some place) 0 fields) (known ++ map field_name fields)) →
    Hold old places names →
    Hold (slice_set old index new) (λ number. places number ++ places_from (Some place) 0 (if nat_eq index number then fields else [])) (λ number. names number ++ map field_name (if nat_eq index number then fields else []))
hold_set old index lent new place fields places names within is added held = (
  λ number one found. there number one (nat_eq index number) refl found,
  λ number none. gone number (nat_eq index number) refl none,
)
  where
    apart : (number : ℕ) → nat_eq index number ≡ false → index ≡ number → false ≡ true
    apart number h e = sym h ∙ eq-eqb index number e

    there : (number : ℕ) (one : RecordFields) (b : Bool) → nat_eq index number ≡ b → slice_get (slice_set old index new) number ≡ Some one →
        HasPlaces one (places number ++ places_from (Some place) 0 (if nat_eq index number then fields else [])) (names number ++ map field_name (if nat_eq index number then fields else []))
    there number one true e found =
        let same : index ≡ number = (Decides-eqb index number).0 e in
        let has : HasPlaces new (places index ++ places_from (Some place) 0 fields) (names index ++ map field_name fields) =
        added (places index) (names index) (held.0 index lent (some_at old index lent within is)) in
        let last : Some new ≡ Some one = sym (set_same old index new within) ∙ ap (slice_get (slice_set old index new)) same ∙ found in
        let new_is : new ≡ one = cc in
        rw e (subst (λ (x : RecordFields). HasPlaces x (places number ++ places_from (Some place) 0 fields) (names number ++ map field_name fields)) new_is
        (subst (λ (n : ℕ). HasPlaces new (places n ++ places_from (Some place) 0 fields) (names n ++ map field_name fields)) same has))
    there number one false e found =
        rw e (as_before one (places number) (names number) (held.0 number one (sym (set_other old index number new (apart number e)) ∙ found)))

    gone : (number : ℕ) (b : Bool) → nat_eq index number ≡ b → slice_get (slice_set old index new) number ≡ None → places number ++ places_from (Some place) 0 (if nat_eq index number then fields else []) ≡ []
    gone number true e none =
        let same : index ≡ number = (Decides-eqb index number).0 e in
        let some : Some new ≡ None = sym (set_same old index new within) ∙ ap (slice_get (slice_set old index new)) same ∙ none in
        cc
    gone number false e none = rw e (append-nil (places number) ∙ held.1 number (sym (set_other old index number new (apart number e)) ∙ none))

-- a declaration that adds nothing
pub hold_none : (records : List RecordFields) (places : ℕ → List FieldPlace) (names : ℕ → List (List ℕ)) → Hold records places names → Hold records (λ number. places number ++ []) (λ number. names number ++ [])
hold_none records places names held =
    hold_same records places (λ number. places number ++ []) names (λ number. names number ++ []) (λ number. sym (append-nil (places number))) (λ number. sym (append-nil (names number))) held

stated_is : (scripts : Scripts) (number : ℕ) (home : Home) (form : Decl-F Decl) → decl_fields scripts number home form ≡ fields_added scripts number home (added_in form)
stated_is scripts number home (decl.RedefRecord byte name fields) = refl
stated_is scripts number home (decl.Module byte name) = refl
stated_is scripts number home (decl.Export byte decls) = refl
stated_is scripts number home (decl.Load byte name) = refl
stated_is scripts number home (decl.Variable byte lasting name tree init attrs) = refl
stated_is scripts number home (decl.Redef byte name operator init) = refl
stated_is scripts number home (decl.RedefEnum byte name words comma) = refl
stated_is scripts number home (decl.Type byte name tree) = refl
stated_is scripts number home (decl.Body byte kind name params attrs body) = refl
stated_is scripts number home (decl.Function byte name params given body) = refl

-- what a declaration adds, by what it says
pub hold_added : (scripts : Scripts) (one : Stated) (place : ℕ) (records : List RecordFields) (places : ℕ → List FieldPlace) (names : ℕ → List (List ℕ)) (added : Option (Name × List Field)) → added ≡ added_in (out-Decl one.decl) →
    Hold records (λ number. places number ++ places_from (Some place) 0 (fields_added scripts number one.home added)) (λ number. names number ++ named (fields_added scripts number one.home added)) →
    Hold records (λ number. places number ++ places_from (Some place) 0 (stated_fields scripts number one)) (λ number. names number ++ named (stated_fields scripts number one))
hold_added scripts one place records places names added is held =
    hold_same records (λ number. places number ++ places_from (Some place) 0 (fields_added scripts number one.home added)) (λ number. places number ++ places_from (Some place) 0 (stated_fields scripts number one))
    (λ number. names number ++ named (fields_added scripts number one.home added)) (λ number. names number ++ named (stated_fields scripts number one))
    (λ number. ap (λ (x : List FieldInfo). places number ++ places_from (Some place) 0 x) (same number)) (λ number. ap (λ (x : List FieldInfo). names number ++ named x) (same number)) held
  where
    same : (number : ℕ) → fields_added scripts number one.home added ≡ stated_fields scripts number one
    same number = ap (fields_added scripts number one.home) is ∙ sym (stated_is scripts number one.home (out-Decl one.decl))

-- a declaration that adds fields to the record type that its name names
pub hold_stated : (scripts : Scripts) (home : Home) (place : ℕ) (fields : List Field) (records : List RecordFields) (places : ℕ → List FieldPlace) (names : ℕ → List (List ℕ)) (found : ℕ → Bool) (number : Option ℕ) →
    ((other : ℕ) → found other ≡ is_among other number) →
    Hold records (λ other. places other ++ places_from (Some place) 0 (if is_among other number then fields else [])) (λ other. names other ++ map field_name (if is_among other number then fields else [])) →
    Hold records (λ other. places other ++ places_from (Some place) 0 (if found other then map (written_field scripts home) fields else [])) (λ other. names other ++ named (if found other then map (written_field scripts home) fields else []))
hold_stated scripts home place fields records places names found number same held =
    hold_same records (λ other. places other ++ places_from (Some place) 0 (if is_among other number then fields else []))
    (λ other. places other ++ places_from (Some place) 0 (if found other then map (written_field scripts home) fields else []))
    (λ other. names other ++ map field_name (if is_among other number then fields else [])) (λ other. names other ++ named (if found other then map (written_field scripts home) fields else []))
    (λ other. ap (λ (x : List FieldPlace). places other ++ x) (if_placed scripts home place fields (is_among other number) ∙ ap (λ (b : Bool). places_from (Some place) 0 (if b then map (written_field scripts home) fields else [])) (sym (same other))))
    (λ other. ap (λ (x : List (List ℕ)). names other ++ x) (if_named scripts home fields (is_among other number) ∙ ap (λ (b : Bool). named (if b then map (written_field scripts home) fields else [])) (sym (same other))))
    held

pub first_own : (scripts : Scripts) (records : List RecordFields) → records ≡ [] → (length records ≡ 0) × AreOwn records scripts
first_own scripts records none = (ap length none, subst (λ (x : List RecordFields). AreOwn x scripts) (sym none) (λ number one found. nowhere number one found))
  where
    nowhere : (number : ℕ) (one : RecordFields) → slice_get {X = RecordFields} [] number ≡ Some one → HasPlaces one (places_from None 0 (own_fields scripts number)) (named (own_fields scripts number))
    nowhere zero one found = cc
    nowhere (suc number) one found = cc

pub more_own : (scripts : Scripts) (old new : List RecordFields) (one : RecordFields) (number : ℕ) → (length old ≡ number) × AreOwn old scripts →
    HasPlaces one (places_from None 0 (own_fields scripts number)) (named (own_fields scripts number)) → new ≡ old ++ one ∷ [] → (length new ≡ number + 1) × AreOwn new scripts
more_own scripts old new one number before here pushed = (
  longer old new one number before.0 pushed,
  subst (λ (x : List RecordFields). AreOwn x scripts) (sym pushed)
      (all_more (λ (at : ℕ) (other : RecordFields). HasPlaces other (places_from None 0 (own_fields scripts at)) (named (own_fields scripts at))) old one before.1
      (subst (λ (at : ℕ). HasPlaces one (places_from None 0 (own_fields scripts at)) (named (own_fields scripts at))) (sym before.0) here)),
)

pub hold_own : (scripts : Scripts) (records : List RecordFields) (count : ℕ) → count ≡ 8 + length (filter is_record scripts.nodes) → length records ≡ count → AreOwn records scripts →
    Hold records (λ number. places_from None 0 (own_fields scripts number)) (λ number. named (own_fields scripts number))
hold_own scripts records count counted long own = (
  own,
  λ number none. ap (places_from None 0) (own_absent scripts number (omega (arith, counted, long, past_end records number none))),
)

-- the fields of the own texts, and those that some declarations add
abbrev pub so_far : Scripts → List Stated → ℕ → List FieldPlace
so_far scripts stated number = places_from None 0 (own_fields scripts number) ++ added_places scripts number 0 stated

abbrev pub named_so_far : Scripts → List Stated → ℕ → List (List ℕ)
named_so_far scripts stated number = named (own_fields scripts number ++ flat_map (stated_fields scripts number) stated)

pub hold_first : (scripts : Scripts) (records : List RecordFields) → Hold records (λ number. places_from None 0 (own_fields scripts number)) (λ number. named (own_fields scripts number)) →
    Hold records (so_far scripts []) (named_so_far scripts [])
hold_first scripts records held =
    hold_same records (λ number. places_from None 0 (own_fields scripts number)) (so_far scripts []) (λ number. named (own_fields scripts number)) (named_so_far scripts [])
    (λ number. sym (append-nil (places_from None 0 (own_fields scripts number)))) (λ number. ap named (sym (append-nil (own_fields scripts number)))) held

-- one declaration more
pub hold_on : (scripts : Scripts) (stated : List LentStated) (at : ℕ) (one : LentStated) (records : List RecordFields) → at < length stated → one ≡ get_or stated at one →
    Hold records (λ number. so_far scripts (stated_lent (take at stated)) number ++ places_from (Some at) 0 (stated_fields scripts number (stated_of one)))
    (λ number. named_so_far scripts (stated_lent (take at stated)) number ++ named (stated_fields scripts number (stated_of one))) →
    Hold records (so_far scripts (stated_lent (take (at + 1) stated))) (named_so_far scripts (stated_lent (take (at + 1) stated)))
hold_on scripts stated at one records within is held =
    let before = stated_lent (take at stated) in
    let e : stated_lent (take (at + 1) stated) ≡ before ++ stated_of one ∷ [] =
    ap stated_lent (take_more stated at one within ∙ ap (λ y. take at stated ++ y ∷ []) (sym is)) ∙ map-append stated_of (take at stated) (one ∷ []) in
    let last : at ≡ 0 + length before = omega (arith, length-map (take at stated) stated_of, taken stated at within) in
    hold_same records (λ number. so_far scripts before number ++ places_from (Some at) 0 (stated_fields scripts number (stated_of one))) (so_far scripts (stated_lent (take (at + 1) stated)))
    (λ number. named_so_far scripts before number ++ named (stated_fields scripts number (stated_of one))) (named_so_far scripts (stated_lent (take (at + 1) stated)))
    (λ number.
    append_assoc (places_from None 0 (own_fields scripts number)) (added_places scripts number 0 before) (places_from (Some at) 0 (stated_fields scripts number (stated_of one))) ∙
    ap (λ (x : List FieldPlace). places_from None 0 (own_fields scripts number) ++ x)
    (sym (added_push scripts number 0 at before (stated_of one) last) ∙ ap (added_places scripts number 0) (sym e)))
    (λ number.
    sym (map-append (λ (field : FieldInfo). field.name) (own_fields scripts number ++ flat_map (stated_fields scripts number) before) (stated_fields scripts number (stated_of one))) ∙
    ap named (append_assoc (own_fields scripts number) (flat_map (stated_fields scripts number) before) (stated_fields scripts number (stated_of one)) ∙
    ap (λ (x : List FieldInfo). own_fields scripts number ++ x)
    (ap (λ (x : List FieldInfo). flat_map (stated_fields scripts number) before ++ x) (sym (append-nil (stated_fields scripts number (stated_of one)))) ∙
    sym (flat_map-append (stated_fields scripts number) before (stated_of one ∷ [])) ∙ ap (flat_map (stated_fields scripts number)) (sym e))))
    held

-- The fields that stand at places --------------------------------------------------------------------------------------

placed_from : {A : Type 0} (view : FieldPlace → Option A) (all : List A) (added : Option ℕ) (at : ℕ) (rest : List A) → ((k : ℕ) → slice_get rest k ≡ slice_get all (at + k)) →
    ((k : ℕ) → view (record { added = added; at = k }) ≡ slice_get all k) → map Some rest ≡ map view (places_from added at rest)
placed_from view all added at [] stands reads = refl
placed_from view all added at (one ∷ others) stands reads =
    let here : Some one ≡ view (record { added = added; at = at }) = stands 0 ∙ ap (slice_get all) (omega arith) ∙ sym (reads at) in
    let behind : (k : ℕ) → slice_get others k ≡ slice_get all (suc at + k) = λ k. stands (suc k) ∙ ap (slice_get all) (omega arith) in
    ap (λ x. x ∷ map Some others) here ∙ ap (λ more. view (record { added = added; at = at }) ∷ more) (placed_from view all added (suc at) others behind reads)

stated_placed : (scripts : Scripts) (number place : ℕ) (one : Stated) → slice_get scripts.stated place ≡ Some one →
    map Some (stated_fields scripts number one) ≡ map (field_at scripts number) (places_from (Some place) 0 (stated_fields scripts number one))
stated_placed scripts number place one found = of_form (out-Decl one.decl) refl
  where
    reads : (k : ℕ) → field_at scripts number (record { added = Some place; at = k }) ≡ slice_get (map (written_field scripts one.home) (decl_texts (out-Decl one.decl))) k
    reads k = ap (λ (x : Option Stated). slice_get (added_texts scripts x) k) found

    of_redef : (fields : List Field) (b : Bool) → decl_texts (out-Decl one.decl) ≡ fields →
        map Some (if b then map (written_field scripts one.home) fields else []) ≡ map (field_at scripts number) (places_from (Some place) 0 (if b then map (written_field scripts one.home) fields else []))
    of_redef fields false e = refl
    of_redef fields true e =
        placed_from (field_at scripts number) (map (written_field scripts one.home) fields) (Some place) 0 (map (written_field scripts one.home) fields)
        (λ k. ap (slice_get (map (written_field scripts one.home) fields)) (omega arith)) (λ k. reads k ∙ ap (λ (x : List Field). slice_get (map (written_field scripts one.home) x) k) e)

    of_form : (form : Decl-F Decl) → out-Decl one.decl ≡ form → map Some (decl_fields scripts number one.home form) ≡ map (field_at scripts number) (places_from (Some place) 0 (decl_fields scripts number one.home form))
    of_form (decl.RedefRecord byte name fields) e = of_redef fields (is_that number (type_named scripts one.home name)) (ap decl_texts e)
    of_form (decl.Module byte name) e = refl
    of_form (decl.Export byte decls) e = refl
    of_form (decl.Load byte name) e = refl
    of_form (decl.Variable byte lasting name tree init attrs) e = refl
    of_form (decl.Redef byte name operator init) e = refl
    of_form (decl.RedefEnum byte name words comma) e = refl
    of_form (decl.Type byte name tree) e = refl
    of_form (decl.Body byte kind name params attrs body) e = refl
    of_form (decl.Function byte name params given body) e = refl

all_stated : (scripts : Scripts) (number place : ℕ) (rest : List Stated) → ((k : ℕ) → slice_get rest k ≡ slice_get scripts.stated (place + k)) →
    map Some (flat_map (stated_fields scripts number) rest) ≡ map (field_at scripts number) (added_places scripts number place rest)
all_stated scripts number place [] stands = refl
all_stated scripts number place (one ∷ others) stands =
    let here : slice_get scripts.stated place ≡ Some one = sym (stands 0 ∙ ap (slice_get scripts.stated) (omega arith)) in
    let behind : (k : ℕ) → slice_get others k ≡ slice_get scripts.stated (suc place + k) = λ k. stands (suc k) ∙ ap (slice_get scripts.stated) (omega arith) in
    map-append Some (stated_fields scripts number one) (flat_map (stated_fields scripts number) others) ∙
    ap (λ (x : List (Option FieldInfo)). x ++ map Some (flat_map (stated_fields scripts number) others)) (stated_placed scripts number place one here) ∙
    ap (λ (x : List (Option FieldInfo)). map (field_at scripts number) (places_from (Some place) 0 (stated_fields scripts number one)) ++ x) (all_stated scripts number (suc place) others behind) ∙
    sym (map-append (field_at scripts number) (places_from (Some place) 0 (stated_fields scripts number one)) (added_places scripts number (suc place) others))

-- where a field stands that is in the own text, or in that of a declaration
pub field_own : (scripts : Scripts) (number : ℕ) (one : FieldPlace) → one.added ≡ None → field_at scripts number one ≡ slice_get (own_fields scripts number) one.at
field_own scripts number one is = rw is refl

pub field_added : (scripts : Scripts) (number place : ℕ) (one : FieldPlace) → one.added ≡ Some place → field_at scripts number one ≡ slice_get (added_texts scripts (slice_get scripts.stated place)) one.at
field_added scripts number place one is = rw is refl

-- the fields of a record type are those that stand at its places, one by one
placed : (scripts : Scripts) (number : ℕ) → map Some (fields_of scripts number) ≡ map (field_at scripts number) (field_places scripts number)
placed scripts number =
    let own = own_fields scripts number in
    map-append Some own (added_fields scripts number) ∙
    ap (λ (x : List (Option FieldInfo)). x ++ map Some (added_fields scripts number))
    (placed_from (field_at scripts number) own None 0 own (λ k. ap (slice_get own) (omega arith)) (λ k. refl)) ∙
    ap (λ (x : List (Option FieldInfo)). map (field_at scripts number) (places_from None 0 own) ++ x) (all_stated scripts number 0 scripts.stated (λ k. ap (slice_get scripts.stated) (omega arith))) ∙
    sym (map-append (field_at scripts number) (places_from None 0 own) (added_places scripts number 0 scripts.stated))

ones : {A : Type 0} (items : List A) → flat_map maybe_one (map Some items) ≡ items
ones [] = refl
ones (one ∷ others) = ap (λ more. one ∷ more) (ones others)

through : {A B : Type 0} (f : A → Option B) (items : List A) → flat_map (λ one. maybe_one (f one)) items ≡ flat_map maybe_one (map f items)
through f [] = refl
through f (one ∷ others) = ap (λ more. maybe_one (f one) ++ more) (through f others)

pub all_placed : (scripts : Scripts) (number : ℕ) → flat_map (λ one. maybe_one (field_at scripts number one)) (field_places scripts number) ≡ fields_of scripts number
all_placed scripts number = through (field_at scripts number) (field_places scripts number) ∙ ap (flat_map maybe_one) (sym (placed scripts number)) ∙ ones (fields_of scripts number)

abbrev joined : {A : Type 0} → Option (Option A) → Option A
joined None = None
joined (Some one) = one

of_some : {A : Type 0} (one : Option A) → joined (option_map Some one) ≡ one
of_some None = refl
of_some (Some a) = refl

of_view : {A B : Type 0} (f : A → Option B) (one : Option A) → joined (option_map f one) ≡ option_and_then f one
of_view f None = refl
of_view f (Some a) = refl

-- the field of a number stands at the place of that number
pub placed_at : (scripts : Scripts) (number field : ℕ) → option_and_then (field_at scripts number) (slice_get (field_places scripts number) field) ≡ slice_get (fields_of scripts number) field
placed_at scripts number field =
    sym (of_view (field_at scripts number) (slice_get (field_places scripts number) field)) ∙
    ap joined (sym (get_of_map (field_at scripts number) (field_places scripts number) field) ∙ ap (λ (x : List (Option FieldInfo)). slice_get x field) (sym (placed scripts number)) ∙ get_of_map Some (fields_of scripts number) field) ∙
    of_some (slice_get (fields_of scripts number) field)

pub none_placed : (scripts : Scripts) (number : ℕ) → field_places scripts number ≡ [] → fields_of scripts number ≡ []
none_placed scripts number none =
    sym (all_placed scripts number) ∙ ap (flat_map (λ one. maybe_one (field_at scripts number one))) none

-- The first field of a name --------------------------------------------------------------------------------------------

named_by : (name : List ℕ) (at : ℕ) (field : FieldInfo) (others : List FieldInfo) (b : Bool) → bytes_eq field.name name ≡ b →
    ((from : ℕ) → field_named name from others ≡ option_map (λ one. (from + count_before (λ other. bytes_eq other name) (named others), one)) (slice_get others (count_before (λ other. bytes_eq other name) (named others)))) →
    field_named name at (field ∷ others) ≡ option_map (λ one. (at + count_before (λ other. bytes_eq other name) (named (field ∷ others)), one)) (slice_get (field ∷ others) (count_before (λ other. bytes_eq other name) (named (field ∷ others))))
named_by name at field others true e rest =
    let here : at ≡ at + 0 = omega arith in
    ap (λ (b : Bool). elim b as (λ x. Option (ℕ × FieldInfo)) [ true ↦ Some (at, field) | false ↦ field_named name (at + 1) others ]) e ∙
    ap (λ (n : ℕ). Some (n, field)) here ∙
    sym (ap (λ (n : ℕ). option_map (λ (one : FieldInfo). (at + n, one)) (slice_get (field ∷ others) n)) (count_now (λ other. bytes_eq other name) field.name (named others) e))
named_by name at field others false e rest =
    let count = count_before (λ other. bytes_eq other name) (named others) in
    let behind : at + 1 + count ≡ at + suc count = omega arith in
    ap (λ (b : Bool). elim b as (λ x. Option (ℕ × FieldInfo)) [ true ↦ Some (at, field) | false ↦ field_named name (at + 1) others ]) e ∙
    rest (at + 1) ∙ ap (λ (n : ℕ). option_map (λ (one : FieldInfo). (n, one)) (slice_get others count)) behind ∙
    sym (ap (λ (n : ℕ). option_map (λ (one : FieldInfo). (at + n, one)) (slice_get (field ∷ others) n)) (count_later (λ other. bytes_eq other name) field.name (named others) e))

first_named : (name : List ℕ) (at : ℕ) (fields : List FieldInfo) →
    field_named name at fields ≡ option_map (λ one. (at + count_before (λ other. bytes_eq other name) (named fields), one)) (slice_get fields (count_before (λ other. bytes_eq other name) (named fields)))
first_named name at [] = refl
first_named name at (field ∷ others) = named_by name at field others (bytes_eq field.name name) refl (λ from. first_named name from others)

-- the field of a name is the one whose number is the first of the name
pub field_found_at : (name : List ℕ) (fields : List FieldInfo) (number : ℕ) (found : Option FieldInfo) → number ≡ count_before (λ other. bytes_eq other name) (named fields) → found ≡ slice_get fields number →
    option_map (λ one. (number, one)) found ≡ field_named name 0 fields
field_found_at name fields number found counted is =
    let from_none : number ≡ 0 + number = omega arith in
    ap (option_map (λ one. (number, one))) is ∙ ap (λ (n : ℕ). option_map (λ (one : FieldInfo). (n, one)) (slice_get fields number)) from_none ∙
    ap (λ (n : ℕ). option_map (λ (one : FieldInfo). (0 + n, one)) (slice_get fields n)) counted ∙ sym (first_named name 0 fields)
