-- Names, operators and what fits a type: typed forms that the rules make of typed forms have types.
use Rattle.std.proofs.Common.{◌≡◌, ℕ, Bool, true, false, ◌&&◌, List, [], ◌∷◌, ◌++◌, map, Option, Some, None, Ok, refl, sym, ap, subst, ◌∙◌}
use Rattle.std.specs.Prelude.{if◌then◌else◌}
use Rattle.std.specs.List.{AllByRecursion}
use Rattle.zk_tree.specs.declared.expr.Expr.{Expr, out-Expr}
use Rattle.zk_tree.specs.declared.expr.Item.{Item, out-Item}
use Rattle.zk_tree.specs.declared.expr.Link.{Link, out-Link}
use Rattle.zk_tree.specs.declared.expr.Expr.TheOpen.{Expr-F, Part-F, Item-F}
use Rattle.zk_tree.specs.declared.expr.Expr.TheOpen as written
use Rattle.zk_tree.specs.declared.expr.Part.{Part}
use Rattle.zk_tree.specs.declared.expr.Literal.{Literal}
use Rattle.zk_tree.specs.declared.expr.Literal.TheVariants as literal
use Rattle.zk_tree.specs.declared.operator.Level.{Level}
use Rattle.zk_tree.specs.declared.operator.Level.TheVariants as level
use Rattle.zk_tree.specs.declared.place.Place.{Place}
use Rattle.zk_typed.specs.declared.rule.Rule.TheVariants as rule
use Rattle.zk_typed.specs.declared.script.primitive.Binary.{Binary}
use Rattle.zk_typed.specs.declared.script.primitive.Primitive.{Primitive}
use Rattle.zk_typed.specs.declared.script.primitive.Primitive.TheVariants as primitive
use Rattle.zk_typed.specs.declared.script.primitive.Relation.{Relation}
use Rattle.zk_typed.specs.declared.script.primitive.Relation.TheVariants as relations
use Rattle.zk_typed.specs.declared.script.primitive.Unary.TheVariants as unary
use Rattle.zk_typed.specs.declared.script.types.SimpleType.{SimpleType}
use Rattle.zk_typed.specs.declared.script.types.SimpleType.TheVariants as simple
use Rattle.zk_typed.specs.Checked.{Checked, ◌>>=◌, both, each}
use Rattle.zk_typed.specs.Forms as form
use Rattle.zk_typed.specs.Operations.{same_type, arithmetic_of, binary_of, relates}
use Rattle.zk_typed.specs.Predefined as type
use Rattle.zk_typed.specs.Program.{Program}
use Rattle.zk_typed.specs.Types.{ValueType, Simple, Table, Set, Vector}
use Rattle.zk_typed.specs.Typing.{Typed, typed, Env, at, exprs, apply, expr_place, Wanted, Nothing, Wants, Unclear, Check, to_int, fits, fit, printable, literal_typed, beside, arithmetic_type, arithmetic_typed, related, truths, linked, chained, as_keys, in_form, negated, membership, on_item, value_in, left_of_in}
use Rattle.zk_sound.specs.Holding.{key_types}
use Rattle.zk_sound.specs.Worlds.{Names}
use Rattle.zk_sound.specs.Having.{IsSimple, HasKeys, HasForm, HaveForms, Takes}
use Rattle.zk_sound.specs.Agreeing.{LogsFit, AllLogsFit}
use Rattle.zk_sound.proofs.Same.{same_type_is}
use Rattle.zk_sound.proofs.Checks.{Sound, sound_bind, never_ok, sound_require, sound_both, sound_each, sound_or, sound_more}

-- the types of typed forms
abbrev pub types_of : List Typed → List ValueType
types_of ones = map (λ one. one.type) ones

-- a typed form has its type, where what it says of logs fits
abbrev pub IsForm : Program → Names → Typed → Type 0
IsForm program names one = LogsFit program one.expr → HasForm program names one.expr one.type

-- a typed form is of the type that was wanted; of what is broken elsewhere nothing is said
abbrev pub Formed : Program → Names → Wanted → Typed → Type 0
Formed program names Nothing one = IsForm program names one × Unit {0}
Formed program names (Wants wanted) one = IsForm program names one × (one.type ≡ wanted)
Formed program names Unclear one = Unit {0}

-- what checks the parts gives forms that have types
abbrev pub ChecksWell : Program → Names → Check → Type 0
ChecksWell program names check = (wanted : Wanted) (one : Expr) → Sound (Formed program names wanted) (check wanted one)

-- `in` with its right operand of a type
abbrev pub in_two : Primitive → Typed → ValueType → List Typed → Option form.Expr
in_two one right wanted (left ∷ []) = if same_type left.type wanted then Some (apply one (left ∷ right ∷ [])) else None
in_two one right wanted other = None

-- the test of keys in a container
abbrev pub KeyForm : Typed → Option (List Typed) → Option form.Expr
KeyForm right None = None
KeyForm right (Some fitting) = Some (apply primitive.HasKey (fitting ++ right ∷ []))

abbrev pub told_form : List Typed → Typed → ValueType → Option form.Expr
told_form keys right (Table types item) = KeyForm right (as_keys types keys)
told_form keys right (Set types) = KeyForm right (as_keys types keys)
told_form keys right (Simple simple.String) = in_two primitive.HasText right type.string keys
told_form keys right (Simple simple.Subnet) = in_two primitive.HasAddress right type.addr keys
told_form keys right (Vector item) = in_two primitive.HasIndex right type.count keys
told_form keys right other = None

pub as_told : (keys : List Typed) (right : Typed) → in_form keys right ≡ told_form keys right right.type
as_told [] right = by right.type refl
  where
    by : (of : ValueType) → right.type ≡ of → in_form [] right ≡ told_form [] right right.type
    by (Simple simple.String) is = rw is refl
    by of is = rw is refl
as_told (left ∷ other ∷ keys) right = by right.type refl
  where
    by : (of : ValueType) → right.type ≡ of → in_form (left ∷ other ∷ keys) right ≡ told_form (left ∷ other ∷ keys) right right.type
    by (Simple simple.String) is = rw is refl
    by of is = rw is refl
as_told (left ∷ []) right = by right.type refl
  where
    text : (s : Bool) → right.type ≡ type.string → same_type left.type type.string ≡ s → in_form (left ∷ []) right ≡ told_form (left ∷ []) right right.type
    text true is e = rw (is, e) refl
    text false is e = rw (is, e) refl

    address : (s : Bool) → right.type ≡ type.subnet → same_type left.type type.addr ≡ s → in_form (left ∷ []) right ≡ told_form (left ∷ []) right right.type
    address true is e = rw (is, e) refl
    address false is e = rw (is, e) refl

    index : (s : Bool) (item : ValueType) → right.type ≡ Vector item → same_type left.type type.count ≡ s → in_form (left ∷ []) right ≡ told_form (left ∷ []) right right.type
    index true item is e = rw (is, e) refl
    index false item is e = rw (is, e) refl

    by : (of : ValueType) → right.type ≡ of → in_form (left ∷ []) right ≡ told_form (left ∷ []) right right.type
    by (Simple simple.String) is = text (same_type left.type type.string) is refl
    by (Simple simple.Subnet) is = address (same_type left.type type.addr) is refl
    by (Vector item) is = index (same_type left.type type.count) item is refl
    by of is = rw is refl

module _ (program : Program) (names : Names) where
  pub have_forms : (ones : List Typed) → AllByRecursion (IsForm program names) ones → AllLogsFit program (exprs ones) → HaveForms program names (exprs ones) (types_of ones)
  have_forms [] all logs = tt
  have_forms (one ∷ ones) (first, others) (log, logs) = (first log, have_forms ones others logs)

  -- a primitive with the operands that it takes
  pub applied : (one : Primitive) (ones : List Typed) (of : ValueType) → AllByRecursion (IsForm program names) ones → Takes program names one (types_of ones) of → IsForm program names (typed of (apply one ones))
  applied one ones of all takes logs = (types_of ones, have_forms ones all logs.1, takes)

  pub converted : (one : Typed) → IsForm program names one → one.type ≡ type.count → IsForm program names (to_int one)
  converted one h is = applied (primitive.Unary unary.ToInt) (one ∷ []) type.int (h, tt) (one.type, refl, (is, refl))

  pub fits_is : (wanted : ValueType) (one made : Typed) → IsForm program names one → fits wanted one ≡ Some made → IsForm program names made × (made.type ≡ wanted)
  fits_is wanted one made h is = by (same_type wanted one.type) (same_type wanted type.int) (same_type one.type type.count) refl refl refl is
    where
      by : (a b c : Bool) → same_type wanted one.type ≡ a → same_type wanted type.int ≡ b → same_type one.type type.count ≡ c
          → (if a then Some one else (if b && c then Some (to_int one) else None)) ≡ Some made → IsForm program names made × (made.type ≡ wanted)
      by true b c p q r e = let same : one ≡ made = cc in (subst (IsForm program names) same h, sym (ap (λ (t : Typed). t.type) same) ∙ sym (same_type_is wanted one.type p))
      by false true true p q r e =
          let same : to_int one ≡ made = cc in
          (subst (IsForm program names) same (converted one h (same_type_is one.type type.count r)), sym (ap (λ (t : Typed). t.type) same) ∙ sym (same_type_is wanted type.int q))
      by false true false p q r e = absurd cc
      by false false c p q r e = absurd cc

  pub fit_sound : (place : Place) (wanted : Wanted) (one : Typed) → IsForm program names one → Sound (Formed program names wanted) (fit place wanted one)
  fit_sound place Nothing one h = (h, tt)
  fit_sound place Unclear one h = tt
  fit_sound place (Wants wanted) one h = sound_or (Formed program names (Wants wanted)) (fits wanted one) rule.WrongType place (λ made is. fits_is wanted one made h is)

  pub printable_sound : (env : Env) (one : Expr) (made : Typed) → IsForm program names made → Sound (λ given. IsForm program names given × IsSimple given.type) (printable env one made)
  printable_sound env one made h = by made.type made.expr h
    where
      by : (of : ValueType) (expr : form.Expr) → IsForm program names (typed of expr) → Sound (λ given. IsForm program names given × IsSimple given.type) (printable env one (typed of expr))
      by (Simple s) expr h = (h, tt)
      by of expr h = tt

  pub literal_form : (one : Literal) → IsForm program names (literal_typed one)
  literal_form (literal.String bytes) logs = refl
  literal_form (literal.Port port proto) logs = refl
  literal_form (literal.Address address) logs = refl
  literal_form (literal.Subnet prefix width) logs = refl

  -- Operators --------------------------------------------------------------------------------------------------------

  abbrev BothForms : Typed × Typed → Type 0
  BothForms pair = IsForm program names pair.0 × IsForm program names pair.1

  pub beside_forms : (a b : Typed) → IsForm program names a → IsForm program names b → IsForm program names (beside a b).0 × IsForm program names (beside a b).1
  beside_forms a b h k = by (same_type a.type type.count) (same_type b.type type.int) (same_type a.type type.int) (same_type b.type type.count) refl refl
    where
      by : (p q r s : Bool) → same_type a.type type.count ≡ p → same_type b.type type.count ≡ s
          → BothForms (if p && q then (to_int a, b) else (if r && s then (a, to_int b) else (a, b)))
      by true true r s e f = (converted a h (same_type_is a.type type.count e), k)
      by true false true true e f = (h, converted b k (same_type_is b.type type.count f))
      by true false true false e f = (h, k)
      by true false false s e f = (h, k)
      by false q true true e f = (h, converted b k (same_type_is b.type type.count f))
      by false q true false e f = (h, k)
      by false q false s e f = (h, k)

  arithmetic_parts : (operator : Binary) (x y : ValueType) (gives : SimpleType) → arithmetic_type operator x y ≡ Some gives → (a : SimpleType) × (b : SimpleType) × (x ≡ Simple a) × (y ≡ Simple b) × (arithmetic_of operator a b ≡ Some gives)
  arithmetic_parts operator (Simple a) (Simple b) gives is = (a, b, refl, refl, is)
  arithmetic_parts operator x y gives is = absurd cc

  pub arithmetic_sound : (operator : Binary) (first second : Place) (pair : Typed × Typed) → IsForm program names pair.0 → IsForm program names pair.1 → Sound (IsForm program names) (arithmetic_typed operator first second pair)
  arithmetic_sound operator first second pair h k = by (arithmetic_type operator pair.0.type pair.1.type) refl
    where
      by : (row : Option SimpleType) → arithmetic_type operator pair.0.type pair.1.type ≡ row → Sound (IsForm program names) (arithmetic_typed operator first second pair)
      by None is = rw is tt
      by (Some gives) is = let (l, r, el, er, of) = arithmetic_parts operator pair.0.type pair.1.type gives is in
          rw is (applied (primitive.Binary operator) (pair.0 ∷ pair.1 ∷ []) (Simple gives) (h, (k, tt)) (l, r, gives, ap (λ x. x ∷ pair.1.type ∷ []) el ∙ ap (λ y. Simple l ∷ y ∷ []) er, of, refl))

  relates_simple : (relation : Relation) (of : ValueType) → relates relation of ≡ true → (a : SimpleType) × (of ≡ Simple a)
  relates_simple relations.Equal (Simple a) is = (a, refl)
  relates_simple relations.Equal of is = absurd cc
  relates_simple relation (Simple a) is = (a, refl)
  relates_simple relation of is = absurd cc

  pub related_sound : (relation : Relation) (first second : Place) (pair : Typed × Typed) → IsForm program names pair.0 → IsForm program names pair.1 → Sound (Formed program names Nothing) (related relation first second pair)
  related_sound relation first second pair h k = sound_require (Formed program names Nothing) (relates relation pair.0.type) rule.WrongType first _ (λ simple.
      sound_require (Formed program names Nothing) (same_type pair.0.type pair.1.type) rule.WrongType second (Ok (typed type.bool (apply (primitive.Compare relation) (pair.0 ∷ pair.1 ∷ [])))) (λ same.
      let (a, is) = relates_simple relation pair.0.type simple in
      let equal : pair.0.type ≡ pair.1.type = same_type_is pair.0.type pair.1.type same in
      (applied (primitive.Compare relation) (pair.0 ∷ pair.1 ∷ []) type.bool (h, (k, tt)) (a, ap (λ x. x ∷ pair.1.type ∷ []) is ∙ ap (λ y. Simple a ∷ y ∷ []) (sym equal ∙ is), refl), tt)))

  -- a form of the type that it is known to be of
  pub at_type : (one : Typed) (of : ValueType) → IsForm program names one → one.type ≡ of → LogsFit program one.expr → HasForm program names one.expr of
  at_type one of h is logs = rw is at (h logs)

  pub truths_form : (level : Level) (a b : Typed) → Formed program names (Wants type.bool) a → Formed program names (Wants type.bool) b → IsForm program names (truths level a b)
  truths_form level.Or a b h k = λ logs. (refl, at_type a type.bool h.0 h.1 logs.0, at_type b type.bool k.0 k.1 logs.1)
  truths_form level a b h k = λ logs. (refl, at_type a type.bool h.0 h.1 logs.0, at_type b type.bool k.0 k.1 logs.1)

  module _ (check : Check) (well : ChecksWell program names check) (env : Env) (level : Level) (place : Place) where
    linked_sound : (before : Checked Typed) (link : Link) → Sound (IsForm program names) before → Sound (IsForm program names) (linked check env level place before link)
    linked_sound before link h = by (binary_of (out-Link link).operator) refl
      where
        bool_then : Sound (λ pair. Formed program names (Wants type.bool) pair.0 × Formed program names (Wants type.bool) pair.1) (both (before >>= fit place (Wants type.bool)) (check (Wants type.bool) (out-Link link).operand))
        bool_then = sound_both (Formed program names (Wants type.bool)) (Formed program names (Wants type.bool)) (before >>= fit place (Wants type.bool)) (check (Wants type.bool) (out-Link link).operand)
            (sound_bind (IsForm program names) (Formed program names (Wants type.bool)) before (fit place (Wants type.bool)) h (λ one form. fit_sound place (Wants type.bool) one form)) (well (Wants type.bool) (out-Link link).operand)

        any_then : Sound (λ pair. IsForm program names pair.0 × Formed program names Nothing pair.1) (both before (check Nothing (out-Link link).operand))
        any_then = sound_both (IsForm program names) (Formed program names Nothing) before (check Nothing (out-Link link).operand) h (well Nothing (out-Link link).operand)

        by : (operator : Option Binary) → binary_of (out-Link link).operator ≡ operator → Sound (IsForm program names) (linked check env level place before link)
        by None is = rw is (sound_bind (λ pair. Formed program names (Wants type.bool) pair.0 × Formed program names (Wants type.bool) pair.1) (IsForm program names)
            (both (before >>= fit place (Wants type.bool)) (check (Wants type.bool) (out-Link link).operand)) (λ pair. Ok (truths level pair.0 pair.1)) bool_then (λ pair forms. truths_form level pair.0 pair.1 forms.0 forms.1))
        by (Some operator) is = rw is (sound_bind (λ pair. IsForm program names pair.0 × Formed program names Nothing pair.1) (IsForm program names)
            (both before (check Nothing (out-Link link).operand)) (λ pair. arithmetic_typed operator place (expr_place env (out-Link link).operand) (beside pair.0 pair.1)) any_then
            (λ pair forms. let two = beside_forms pair.0 pair.1 forms.0 forms.1.0 in arithmetic_sound operator place (expr_place env (out-Link link).operand) (beside pair.0 pair.1) two.0 two.1))

    pub chained_sound : (links : List Link) (before : Checked Typed) → Sound (IsForm program names) before → Sound (IsForm program names) (chained check env level place before links)
    chained_sound [] before h = h
    chained_sound (link ∷ links) before h = chained_sound links (linked check env level place before link) (linked_sound before link h)

  -- Membership -------------------------------------------------------------------------------------------------------

  pub as_keys_are : (types : List SimpleType) (ones made : List Typed) → AllByRecursion (IsForm program names) ones → as_keys types ones ≡ Some made → AllByRecursion (IsForm program names) made × (types_of made ≡ key_types types)
  as_keys_are [] [] made all is = let same : [] ≡ made = cc in (rw (← same) tt, ap types_of (sym same))
  as_keys_are [] (one ∷ ones) made all is = absurd cc
  as_keys_are (key ∷ keys) [] made all is = absurd cc
  as_keys_are (key ∷ keys) (one ∷ ones) made (first, others) is = by (fits (Simple key) one) (as_keys keys ones) refl refl (λ more e. as_keys_are keys ones more others e)
    where
      by : (a : Option Typed) (b : Option (List Typed)) → fits (Simple key) one ≡ a → as_keys keys ones ≡ b
          → ((more : List Typed) → as_keys keys ones ≡ Some more → AllByRecursion (IsForm program names) more × (types_of more ≡ key_types keys)) → AllByRecursion (IsForm program names) made × (types_of made ≡ key_types (key ∷ keys))
      by (Some head) (Some more) p q rest =
          let same : Some (head ∷ more) ≡ Some made = rw (p, q) at is in
          let whole : head ∷ more ≡ made = cc in
          let form = fits_is (Simple key) one head first p in
          let forms = rest more q in
          (rw (← whole) (form.0, forms.0), ap types_of (sym whole) ∙ (ap (λ x. x ∷ types_of more) form.1 ∙ ap (λ xs. Simple key ∷ xs) forms.1))
      by None b p q rest = let same : None ≡ Some made = rw p at is in absurd cc
      by (Some head) None p q rest = let same : None ≡ Some made = rw (p, q) at is in absurd cc

  types_last : (ones : List Typed) (last : Typed) → types_of (ones ++ last ∷ []) ≡ types_of ones ++ last.type ∷ []
  types_last [] last = refl
  types_last (one ∷ ones) last = ap (λ xs. one.type ∷ xs) (types_last ones last)

  pub all_last : {A : Type 0} (P : A → Type 0) (ones : List A) (last : A) → AllByRecursion P ones → P last → AllByRecursion P (ones ++ last ∷ [])
  all_last P [] last all h = (h, tt)
  all_last P (one ∷ ones) last (first, others) h = (first, all_last P ones last others h)

  -- keys in a container
  has_key_form : (types : List SimpleType) (over : ValueType) (keys fitting : List Typed) (right : Typed) → HasKeys over types → right.type ≡ over → AllByRecursion (IsForm program names) keys → IsForm program names right → as_keys types keys ≡ Some fitting
      → IsForm program names (typed type.bool (apply primitive.HasKey (fitting ++ right ∷ [])))
  has_key_form types over keys fitting right keyed is all h e =
      let made = as_keys_are types keys fitting all e in
      applied primitive.HasKey (fitting ++ right ∷ []) type.bool (all_last (IsForm program names) fitting right made.0 h)
      (types, over, types_last fitting right ∙ (ap (λ xs. xs ++ right.type ∷ []) made.1 ∙ ap (λ x. key_types types ++ x ∷ []) is), keyed, refl)

  key_member : (types : List SimpleType) (over : ValueType) (keys : List Typed) (right : Typed) (made : form.Expr) → HasKeys over types → right.type ≡ over → AllByRecursion (IsForm program names) keys → IsForm program names right
      → (found : Option (List Typed)) → as_keys types keys ≡ found → KeyForm right found ≡ Some made → IsForm program names (typed type.bool made)
  key_member types over keys right made keyed is all h None e k = absurd cc
  key_member types over keys right made keyed is all h (Some fitting) e k =
      let same : apply primitive.HasKey (fitting ++ right ∷ []) ≡ made = cc in subst (λ e. IsForm program names (typed type.bool e)) same (has_key_form types over keys fitting right keyed is all h e)

  pair_member : (one : Primitive) (left right : Typed) (a b : ValueType) (made : form.Expr) → Takes program names one (a ∷ b ∷ []) type.bool → IsForm program names left → IsForm program names right → left.type ≡ a → right.type ≡ b
      → Some (apply one (left ∷ right ∷ [])) ≡ Some made → IsForm program names (typed type.bool made)
  pair_member one left right a b made takes h k is_left is_right e =
      let same : apply one (left ∷ right ∷ []) ≡ made = cc in
      let types : a ∷ b ∷ [] ≡ types_of (left ∷ right ∷ []) = sym (ap (λ x. x ∷ right.type ∷ []) is_left ∙ ap (λ y. a ∷ y ∷ []) is_right) in
      subst (λ e. IsForm program names (typed type.bool e)) same (applied one (left ∷ right ∷ []) type.bool (h, (k, tt)) (subst (λ ts. Takes program names one ts type.bool) types takes))

  -- one operand of a type before another
  two_member : (one : Primitive) (keys : List Typed) (right : Typed) (a b : ValueType) (made : form.Expr) → Takes program names one (a ∷ b ∷ []) type.bool → AllByRecursion (IsForm program names) keys → IsForm program names right → right.type ≡ b
      → in_two one right a keys ≡ Some made → IsForm program names (typed type.bool made)
  two_member one [] right a b made takes all k is e = absurd cc
  two_member one (left ∷ []) right a b made takes (h, none) k is e = by (same_type left.type a) refl e
    where
      by : (same : Bool) → same_type left.type a ≡ same → (if same then Some (apply one (left ∷ right ∷ [])) else None) ≡ Some made → IsForm program names (typed type.bool made)
      by true s e = pair_member one left right a b made takes h k (same_type_is left.type a s) is e
      by false s e = absurd cc
  two_member one (left ∷ other ∷ keys) right a b made takes all k is e = absurd cc

  pub in_form_is : (keys : List Typed) (right : Typed) (made : form.Expr) → AllByRecursion (IsForm program names) keys → IsForm program names right → in_form keys right ≡ Some made → IsForm program names (typed type.bool made)
  in_form_is keys right made all h e = by right.type refl (sym (as_told keys right) ∙ e)
    where
      by : (of : ValueType) → right.type ≡ of → told_form keys right of ≡ Some made → IsForm program names (typed type.bool made)
      by (Table types item) is e = key_member types (Table types item) keys right made refl is all h (as_keys types keys) refl e
      by (Set types) is e = key_member types (Set types) keys right made refl is all h (as_keys types keys) refl e
      by (Simple simple.String) is e = two_member primitive.HasText keys right type.string type.string made (refl, refl) all h is e
      by (Simple simple.Subnet) is e = two_member primitive.HasAddress keys right type.addr type.subnet made (refl, refl) all h is e
      by (Vector item) is e = two_member primitive.HasIndex keys right type.count (Vector item) made (item, refl, refl) all h is e
      by of is e = absurd cc

  negated_form : (turned : Bool) (one : form.Expr) → IsForm program names (typed type.bool one) → IsForm program names (typed type.bool (negated turned one))
  negated_form true one h = applied (primitive.Unary unary.Not) (typed type.bool one ∷ []) type.bool (h, tt) (type.bool, refl, (refl, refl))
  negated_form false one h = h

  pub membership_sound : (turned : Bool) (first second : Place) (keys : List Typed) (right : Typed) → AllByRecursion (IsForm program names) keys → IsForm program names right → Sound (Formed program names Nothing) (membership turned first second keys right)
  membership_sound turned first second keys right all h = by (in_form keys right) refl
    where
      by : (made : Option form.Expr) → in_form keys right ≡ made → Sound (Formed program names Nothing) (membership turned first second keys right)
      by None is = rw is tt
      by (Some one) is = rw is (negated_form turned one (in_form_is keys right one all h is), tt)

  -- Items ------------------------------------------------------------------------------------------------------------

  module _ (check : Check) (env : Env) where
    value_sound : {A : Type 0} (P : A → Type 0) (judge : Expr → Checked A) → ((one : Expr) → Sound P (judge one)) → (item : Item-F Expr Item Part Link) → Sound P (value_in check env judge item)
    value_sound P judge h (written.Value one) = h one
    value_sound P judge h (written.Item::Field place name one) = never_ok P (check Nothing one) rule.WrongType (at env place)

    pub item_sound : {A : Type 0} (P : A → Type 0) (judge : Expr → Checked A) → ((one : Expr) → Sound P (judge one)) → (item : Item) → Sound P (on_item check env judge item)
    item_sound P judge h item = value_sound P judge h (out-Item item)

    pub items_sound : {A : Type 0} (P : A → Type 0) (judge : Expr → Checked A) → ((one : Expr) → Sound P (judge one)) → (items : List Item) → Sound (AllByRecursion P) (each (on_item check env judge) items)
    items_sound P judge h items = sound_each P (on_item check env judge) (item_sound P judge h) items

    pub left_sound : ChecksWell program names check → (one : Expr) → Sound (AllByRecursion (IsForm program names)) (left_of_in check env one)
    left_sound well one = by (out-Expr one) refl
      where
        forms : (items : List Item) → Sound (AllByRecursion (IsForm program names)) (each (on_item check env (check Nothing)) items)
        forms items = items_sound (IsForm program names) (check Nothing) (λ one. sound_more (Formed program names Nothing) (IsForm program names) (check Nothing one) (λ made h. h.0) (well Nothing one)) items

        several : (place : ℕ) (items : List Item) → out-Expr one ≡ written.List place items → Sound (AllByRecursion (IsForm program names)) (left_of_in check env one)
        several place [] is = rw is (never_ok (AllByRecursion (IsForm program names)) (each (on_item check env (check Nothing)) []) rule.WrongType (at env place))
        several place (item ∷ []) is = rw is (never_ok (AllByRecursion (IsForm program names)) (each (on_item check env (check Nothing)) (item ∷ [])) rule.WrongType (at env place))
        several place (first ∷ second ∷ others) is = rw is (forms (first ∷ second ∷ others))

        alone : Sound (AllByRecursion (IsForm program names)) (check Nothing one >>= (λ key. Ok (key ∷ [])))
        alone = sound_bind (Formed program names Nothing) (AllByRecursion (IsForm program names)) (check Nothing one) (λ key. Ok (key ∷ [])) (well Nothing one) (λ key h. (h.0, tt))

        by : (f : Expr-F Expr Item Part Link) → out-Expr one ≡ f → Sound (AllByRecursion (IsForm program names)) (left_of_in check env one)
        by (written.List place items) is = several place items is
        by f is = rw is alone
