-- Declarations by their forms.
use Rattle.std.proofs.Common.{◌≡◌, ℕ, Bool, true, false, ◌&&◌, ◌||◌, if◌then◌else◌, List, [], ◌∷◌, ◌++◌, map, flat_map, refl, ap, sym, subst, ◌∙◌, append_assoc, append-nil}
use Rattle.std.specs.HashSet.{contains}
use Rattle.std.specs.List.{list_any}
use Rattle.std.specs.Str.{bytes_eq}
use Rattle.std.proofs.lemmas.Grind.{flat_map-append}
use Rattle.std.proofs.lemmas.List.{map-append}
use Rattle.std.proofs.lemmas.List.Folds.{list_any-append}
use Rattle.zk_tree.specs.declared.decl.Decl.{out-Decl}
use Rattle.zk_tree.specs.declared.decl.Decl.TheVariants as tree
use Rattle.zk_tree.specs.declared.decl.Decl.TheVariants.{outs-RedefRecord, outs-Type}
use Rattle.zk_tree.specs.declared.name.Name.{Name}
use Rattle.zk_tree.specs.declared.types.Field.{Field, out-Field}
use Rattle.zk_tree.specs.declared.types.Type.{«Type»}
use Rattle.zk_typed.specs.Declarations.{is_one_of}
use Rattle.zk_typed.specs.Declaring.{predefined_names}
use Rattle.zk_typed.specs.Errors.{PathUse, decl_rules, declared_before, declares, field_names, is_body_of, uses_of}
use Rattle.zk_typed.specs.LoadOrder.{Home, Stated}
use Rattle.zk_typed.specs.Names.{Declared}
use Rattle.zk_typed.specs.Resolving.{FieldInfo, Scripts, fields_of, is_that, own_fields, type_named, written_field}
use Rattle.zk_scope.specs.Fields.{decl_fields, stated_fields}
use Rattle.zk_check.specs.declared.rules.decls.Earlier.{Earlier}
use Rattle.zk_check_declarations.specs.declared.seen.Seen.{Seen}
use Rattle.zk_check_declarations.specs.Adding.{field_texts, has_field}
use Rattle.zk_check_declarations.specs.Paths.{HasPaths, stated_uses}
use Rattle.zk_check_declarations.specs.Seeing.{Sees}
use Rattle.zk_check_declarations.proofs.AddedLaws.{or_false}
use Rattle.zk_check_declarations.proofs.StatedLaws.{fields_among, with_stated}
use Rattle.zk_check.specs.Earlier.{IsEarlier, type_decl}

pub type_is : (scripts : Scripts) (before : List Stated) (home : Home) (place : ℕ) (name : Name) (meant : «Type») →
    decl_rules scripts before home (out-Decl (tree.Type place name meant)) ≡ type_decl scripts home name meant
type_is scripts before home place name meant = rw outs-Type refl

texts_of : (written : Home → Field → FieldInfo) (home : Home) → ((field : Field) → (written home field).name ≡ (out-Field field).name.text) → (fields : List Field) → field_names (map (written home) fields) ≡ field_texts fields
texts_of written home same [] = refl
texts_of written home same (field ∷ fields) = ap (λ name. name ∷ field_names (map (written home) fields)) (same field) ∙ ap (λ names. (out-Field field).name.text ∷ names) (texts_of written home same fields)

by_named : (scripts : Scripts) (home : Home) (fields : List Field) (text : List ℕ) (b : Bool) →
    is_one_of (field_names (if b then map (written_field scripts home) fields else [])) text ≡ (b && is_one_of (field_texts fields) text)
by_named scripts home fields text true = ap (λ names. is_one_of names text) (texts_of (written_field scripts) home (λ field. refl) fields)
by_named scripts home fields text false = refl

-- the names of the fields that `redef record` adds
pub redef_texts : (scripts : Scripts) (home : Home) (place number : ℕ) (name : Name) (fields : List Field) (text : List ℕ) →
    is_one_of (field_names (decl_fields scripts number home (out-Decl (tree.RedefRecord place name fields)))) text ≡ (is_that number (type_named scripts home name) && is_one_of (field_texts fields) text)
redef_texts scripts home place number name fields text = rw outs-RedefRecord (by_named scripts home fields text (is_that number (type_named scripts home name)))

-- What a declaration adds to what those before it have declared.

any_more : {A : Type 0} (p : A → Bool) (before : List A) (one : A) → list_any p (before ++ one ∷ []) ≡ (list_any p before || p one)
any_more p before one = list_any-append p before (one ∷ []) ∙ ap (λ b. list_any p before || b) (or_false (p one))

declared_more : (before : List Stated) (one : Stated) → declared_before (before ++ one ∷ []) ≡ declared_before before ++ map (λ named. named.0) (declares one.home (out-Decl one.decl))
declared_more before one =
    let of_one : Stated → List (List ℕ) = λ stated. map (λ named. named.0) (declares stated.home (out-Decl stated.decl)) in
    let given = map (λ (declared : Declared). declared.name) predefined_names in
    ap (λ names. given ++ names) (flat_map-append of_one before (one ∷ []) ∙ ap (λ names. flat_map of_one before ++ names) (append-nil (of_one one))) ∙ sym (append_assoc given (flat_map of_one before) (of_one one))

fields_more : (scripts : Scripts) (before : List Stated) (one : Stated) (number : ℕ) (text : List ℕ) →
    is_one_of (field_names (fields_of (with_stated scripts (before ++ one ∷ [])) number)) text ≡
    (is_one_of (field_names (fields_of (with_stated scripts before) number)) text || is_one_of (field_names (stated_fields scripts number one)) text)
fields_more scripts before one number text =
    let own = own_fields scripts number in
    let of_one = stated_fields scripts number in
    let has : List FieldInfo → Bool = λ fields. is_one_of (field_names fields) text in
    let split : (xs ys : List FieldInfo) → has (xs ++ ys) ≡ (has xs || has ys) = λ xs ys. ap (λ names. is_one_of names text) (map-append (λ field. field.name) xs ys) ∙ list_any-append (λ other. bytes_eq other text) (field_names xs) (field_names ys) in
    ap has (fields_among scripts (before ++ one ∷ []) number ∙ ap (λ added. own ++ added) (flat_map-append of_one before (one ∷ []) ∙ ap (λ last. flat_map of_one before ++ last) (append-nil (of_one one))) ∙ sym (append_assoc own (flat_map of_one before) (of_one one))) ∙
    split (own ++ flat_map of_one before) (of_one one) ∙ ap (λ fields. has fields || has (of_one one)) (sym (fields_among scripts before number))

paths_more : (scripts : Scripts) (before : List Stated) (one : Stated) → uses_of scripts before ++ stated_uses scripts one ≡ uses_of scripts (before ++ one ∷ [])
paths_more scripts before one =
    sym (flat_map-append (stated_uses scripts) before (one ∷ []) ∙ ap (λ last. uses_of scripts before ++ last) (append-nil (stated_uses scripts one)))

pub earlier_more : (old next : Earlier) (declared : Seen) (scripts : Scripts) (before : List Stated) (one : Stated) (names : List (List ℕ × ℕ)) → IsEarlier old scripts before →
    names ≡ declares one.home (out-Decl one.decl) → Sees next.declared (declared_before before ++ map (λ named. named.0) names) →
    ((whole : List ℕ) → contains bytes_eq next.bodies.names whole ≡ (contains bytes_eq old.bodies.names whole || is_body_of whole one)) →
    ((number : ℕ) (text : List ℕ) → has_field next.fields number text ≡ (has_field old.fields number text || is_one_of (field_names (stated_fields scripts number one)) text)) →
    HasPaths next.paths (uses_of scripts before ++ stated_uses scripts one) → IsEarlier next scripts (before ++ one ∷ [])
earlier_more old next declared scripts before one names known named sees bodies fields paths = record {
  paths = subst (λ (uses : List PathUse). HasPaths next.paths uses) (paths_more scripts before one) paths;
  declared = subst (λ (all : List (List ℕ)). Sees next.declared all) (ap (λ more. declared_before before ++ map (λ name. name.0) more) named ∙ sym (declared_more before one)) sees;
  bodies = record { has = λ whole. bodies whole ∙ ap (λ b. b || is_body_of whole one) (known.bodies.has whole) ∙ sym (any_more (is_body_of whole) before one) };
  fields = record {
    knows = λ number. record {
      has = λ text. fields number text ∙ ap (λ b. b || is_one_of (field_names (stated_fields scripts number one)) text) ((known.fields.knows number).has text) ∙ sym (fields_more scripts before one number text);
    };
  };
}

-- before any declaration
pub earlier_begun : (begun : Earlier) (scripts : Scripts) → Sees begun.declared (declared_before []) → Sees begun.bodies [] →
    ((number : ℕ) (name : List ℕ) → has_field begun.fields number name ≡ is_one_of (field_names (own_fields scripts number)) name) → HasPaths begun.paths [] →
    IsEarlier begun scripts []
earlier_begun begun scripts declared bodies fields paths = record {
  declared = declared;
  bodies = record { has = λ whole. bodies.told whole };
  fields = record {
    knows = λ number. record {
      has = λ name. fields number name ∙ ap (λ own. is_one_of (field_names own) name) (sym (fields_among scripts [] number ∙ append-nil (own_fields scripts number)));
    };
  };
  paths = paths;
}
