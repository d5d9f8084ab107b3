-- Each expression that the rules give a typed form has the type that it was given.
use Rattle.std.proofs.Common.{◌≡◌, ℕ, zero, suc, ◌+◌, Bool, true, false, ◌||◌, List, [], ◌∷◌, Option, Some, None, Ok, refl, sym, ap, ◌∙◌, arith}
use Rattle.std.specs.Prelude.{slice_get, is_some, if◌then◌else◌}
use Rattle.std.specs.List.{AllByRecursion}
use Rattle.std.specs.Str.{bytes_eq}
use Rattle.zk_tree.specs.declared.expr.Expr.{Expr, out-Expr}
use Rattle.zk_tree.specs.declared.expr.Expr.TheOpen.{Expr-F, Part-F, Item-F}
use Rattle.zk_tree.specs.declared.expr.Expr.TheOpen as written
use Rattle.zk_tree.specs.declared.expr.Item.{Item}
use Rattle.zk_tree.specs.declared.expr.Link.{Link}
use Rattle.zk_tree.specs.declared.expr.Literal.{Literal}
use Rattle.zk_tree.specs.declared.expr.Literal.TheVariants as literal
use Rattle.zk_tree.specs.declared.expr.Part.{Part}
use Rattle.zk_tree.specs.declared.name.Name.{Name}
use Rattle.zk_tree.specs.declared.operator.Comparing.{Comparing}
use Rattle.zk_tree.specs.declared.operator.Level.{Level}
use Rattle.zk_tree.specs.declared.operator.Level.TheVariants as level
use Rattle.zk_tree.specs.declared.operator.Prefix.{Prefix}
use Rattle.zk_tree.specs.declared.operator.Prefix.TheVariants as prefix
use Rattle.zk_tree.specs.declared.place.Place.{Place}
use Rattle.zk_tree.specs.Value as plain
use Rattle.zk_typed.specs.declared.rule.Rule.TheVariants as rule
use Rattle.zk_typed.specs.declared.script.action.Left.TheVariants as left
use Rattle.zk_typed.specs.declared.script.primitive.Direction.{Direction}
use Rattle.zk_typed.specs.declared.script.primitive.Direction.TheVariants.{Up, Down}
use Rattle.zk_typed.specs.declared.script.primitive.Primitive.TheVariants as primitive
use Rattle.zk_typed.specs.declared.script.primitive.Relation.{Relation}
use Rattle.zk_typed.specs.declared.script.primitive.Unary.TheVariants as unary
use Rattle.zk_typed.specs.declared.script.types.SimpleType.TheVariants as simple
use Rattle.zk_typed.specs.Checked.{Checked, ◌>>=◌, ◌>>◌, both, broken_anyway}
use Rattle.zk_typed.specs.Expressions.{Side, side, declared_side, name_side, element_side, ends_in_element, left_side, assignable, stepped, unary_typed, compared, arms, choice, wanted_first, size_typed, assigned_parts, expr_to, expr_typed, is_fixed, has_expiry}
use Rattle.zk_typed.specs.Expressions as expressions
use Rattle.zk_typed.specs.Forms as form
use Rattle.zk_typed.specs.Making.{called_name, members_in}
use Rattle.zk_typed.specs.Names.{Declared, Meant, Word, Variable, module_in}
use Rattle.zk_typed.specs.Operations.{same_type, relation_of}
use Rattle.zk_typed.specs.Predefined as type
use Rattle.zk_typed.specs.Program.{Program}
use Rattle.zk_typed.specs.Types.{ValueType, Simple, Table, Set, Vector}
use Rattle.zk_typed.specs.Typing.{Typed, typed, Env, LocalName, at, apply, expr_place, Wanted, Nothing, Wants, Unclear, Check, fit, constant, interval_of, literal_typed, declared_value, name_value, name_typed, local_named, local_meant, found, number_among, is_variable, beside, left_of_in, related}
use Rattle.zk_typed.specs.Within.{depth_max}
use Rattle.zk_sound.specs.Holding.{is_word}
use Rattle.zk_sound.specs.Worlds.{Names, type_of}
use Rattle.zk_sound.specs.Having.{HasForm, HaveForms, SideTakes, IsStepped}
use Rattle.zk_sound.specs.Agreeing.{EnvAgrees, LogsFit, AllLogsFit, IsClear}
use Rattle.zk_sound.proofs.Same.{same_type_is}
use Rattle.zk_sound.proofs.Checks.{Sound, sound_bind, sound_after, never_ok, sound_require, sound_both, sound_any, sound_is, sound_more, sound_ok}
use Rattle.zk_sound.proofs.Formed.{IsForm, Formed, ChecksWell, applied, at_type, fit_sound, literal_form, beside_forms, related_sound, membership_sound, chained_sound, left_sound}
use Rattle.zk_sound.proofs.Constructed.{brackets_sound, members_well, container_sound}
use Rattle.zk_sound.proofs.Called.{TextsWell, IsVariable, found_is, hook_sound, post_sound}

-- Names ------------------------------------------------------------------------------------------------------------

local_at : (name : List ℕ) (number : ℕ) (locals : List LocalName) (given : ℕ × Checked ValueType) → local_named name number locals ≡ Some given → (m : ℕ) × (one : LocalName) × (given.0 ≡ number + m) × (slice_get locals m ≡ Some one) × (one.type ≡ given.1)
local_at name number [] given is = absurd cc
local_at name number (one ∷ others) given is = by (bytes_eq one.name name) (λ e. local_at name (number + 1) others given e) is
  where
    here : (number, one.type) ≡ given → (m : ℕ) × (other : LocalName) × (given.0 ≡ number + m) × (slice_get (one ∷ others) m ≡ Some other) × (other.type ≡ given.1)
    here same = (0, one, sym (ap (λ (pair : ℕ × Checked ValueType). pair.0) same) ∙ omega arith, refl, ap (λ (pair : ℕ × Checked ValueType). pair.1) same)

    by : (same : Bool) → (local_named name (number + 1) others ≡ Some given → (m : ℕ) × (other : LocalName) × (given.0 ≡ number + 1 + m) × (slice_get others m ≡ Some other) × (other.type ≡ given.1))
        → (elim same [ true ↦ Some (number, one.type) | false ↦ local_named name (number + 1) others ]) ≡ Some given → (m : ℕ) × (other : LocalName) × (given.0 ≡ number + m) × (slice_get (one ∷ others) m ≡ Some other) × (other.type ≡ given.1)
    by true rest e = here cc
    by false rest e = let (m, other, far, there, of) = rest e in (suc m, other, far ∙ omega arith, there, of)

-- a name that means a local is its name
meant_named : (name : List ℕ) (locals : List LocalName) (given : ℕ × Checked ValueType) → local_meant name locals ≡ Some given → local_named name 0 locals ≡ Some given
meant_named name locals given is = by (is_some (module_in name)) is
  where
    by : (elsewhere : Bool) → (if elsewhere then None else local_named name 0 locals) ≡ Some given → local_named name 0 locals ≡ Some given
    by true e = absurd cc
    by false e = e

module _ (program : Program) (names : Names) (env : Env) (agree : EnvAgrees program names env) where
  pub local_is : (name : List ℕ) (given : ℕ × Checked ValueType) (of : ValueType) → local_named name 0 env.locals ≡ Some given → given.1 ≡ Ok of → type_of names given.0 ≡ Some of
  local_is name given of is known =
      let (m, one, far, there, same) = local_at name 0 env.locals given is in
      let number : given.0 ≡ m = far ∙ omega arith in
      agree.locals given.0 one of (rw (← number) at there) (same ∙ known)

  declared_sound : (place : Place) (one : Option Declared) → ((word : Declared) (number : ℕ) → one ≡ Some word → word.meant ≡ Word number → is_word word.name ≡ true) → Sound (IsForm program names) (declared_value env place one)
  declared_sound place None words = tt
  declared_sound place (Some one) words = of_meant one.meant one (λ number is. words one number refl is)
    where
      of_meant : (meant : Meant) (one : Declared) → ((number : ℕ) → meant ≡ Word number → is_word one.name ≡ true) → Sound (IsForm program names) (declared_value env place (Some (record one { meant = meant })))
      of_meant (Word enum) one plain = λ logs. plain enum refl
      of_meant (Variable home lasting tree init attrs) one plain =
          let number : ℕ = number_among is_variable env.scripts (record one { meant = Variable home lasting tree init attrs }) in
          sound_bind (λ of. env.global_type number ≡ Ok of) (IsForm program names) (env.global_type number) (λ of. Ok (typed of (form.Global number))) (sound_is (env.global_type number)) (λ of known logs. agree.globals number of known)
      of_meant meant one plain = tt

  -- a word that a name means
  word_named : (name : Name) (word : Declared) (number : ℕ) → found env name ≡ Some word → word.meant ≡ Word number → is_word word.name ≡ true
  word_named name word number is meant = agree.scripts.names.words env.home.module_name name.text word number (found_is env name word is (λ variable. no_word word.meant meant variable)) meant
    where
      no_word : (other : Meant) → other ≡ Word number → IsVariable other → ⊥
      no_word (Variable home lasting tree init attrs) is variable = cc
      no_word other is variable = variable

  pub name_sound : (name : Name) → Sound (IsForm program names) (name_typed env name)
  name_sound name = by (local_meant name.text env.locals) refl
    where
      by : (local : Option (ℕ × Checked ValueType)) → local_meant name.text env.locals ≡ local → Sound (IsForm program names) (name_value env name local)
      by None is = declared_sound (at env name.place) (found env name) (word_named name)
      by (Some local) is = sound_bind (λ of. local.1 ≡ Ok of) (IsForm program names) local.1 (λ of. Ok (typed of (form.Local local.0))) (sound_is local.1) (λ of known logs. local_is name.text local of (meant_named name.text env.locals local is) known)

  -- Left sides -------------------------------------------------------------------------------------------------------

  -- a left side with its operands, where what they say of logs fits
  abbrev pub SideForm : Side → Type 0
  SideForm one = AllLogsFit program one.operands → (types : List ValueType) × HaveForms program names one.operands types × SideTakes program names one.left types one.type

  declared_side_sound : (place : Place) (one : Option Declared) → Sound SideForm (declared_side env place one)
  declared_side_sound place None = tt
  declared_side_sound place (Some one) = of_meant one.meant one
    where
      of_meant : (meant : Meant) (one : Declared) → Sound SideForm (declared_side env place (Some (record one { meant = meant })))
      of_meant (Variable home lasting tree init attrs) one =
          let number : ℕ = number_among is_variable env.scripts (record one { meant = Variable home lasting tree init attrs }) in
          sound_bind (λ of. env.global_type number ≡ Ok of) SideForm (env.global_type number)
          (λ of. Ok (record { left = left.Global number; operands = form.NoExpr; type = of; fixed = is_fixed lasting; expires = has_expiry attrs })) (sound_is (env.global_type number)) (λ of known logs. ([], tt, (refl, agree.globals number of known)))
      of_meant meant one = tt

  name_side_sound : (name : Name) (local : Option (ℕ × Checked ValueType)) → local_meant name.text env.locals ≡ local → Sound SideForm (name_side env name local)
  name_side_sound name None is = declared_side_sound (at env name.place) (found env name)
  name_side_sound name (Some local) is = sound_bind (λ of. local.1 ≡ Ok of) SideForm local.1 (λ of. Ok (side (left.Local local.0) form.NoExpr of)) (sound_is local.1) (λ of known logs. ([], tt, (refl, local_is name.text local of (meant_named name.text env.locals local is) known)))

  element_side_sound : (place : Place) (one : Typed) → IsForm program names one → Sound SideForm (element_side place one)
  element_side_sound place one h = by one.expr h
    where
      by : (expr : form.Expr) → IsForm program names (typed one.type expr) → Sound SideForm (element_side place (typed one.type expr))
      by (form.Apply (primitive.Field field) operands) h = λ logs. h (tt, logs)
      by (form.Apply primitive.Element operands) h = λ logs. h (tt, logs)
      by (form.Apply primitive.Item operands) h = λ logs. h (tt, logs)
      by expr h = tt

module _ (program : Program) (names : Names) (check : Check) (well : ChecksWell program names check) (texts : TextsWell check) (env : Env) (agree : EnvAgrees program names env) where
  pub left_side_sound : (one : Expr) → Sound (SideForm program names env agree) (left_side check env one)
  left_side_sound one = by (out-Expr one) refl
    where
      Sided : Side → Type 0
      Sided = SideForm program names env agree

      wrong : Sound (SideForm program names env agree) (broken_anyway (check Nothing one) rule.WrongType (expr_place env one))
      wrong = never_ok (SideForm program names env agree) (check Nothing one) rule.WrongType (expr_place env one)

      ends : (first : Expr) (parts : List Part) (element : Bool) → out-Expr one ≡ written.Post first parts → ends_in_element parts ≡ element → Sound (SideForm program names env agree) (left_side check env one)
      ends first parts true is e = rw (is, e) (sound_bind (Formed program names Nothing) (SideForm program names env agree) (check Nothing one) (element_side (expr_place env one)) (well Nothing one) (λ made h. element_side_sound program names env agree (expr_place env one) made h.0))
      ends first parts false is e = rw (is, e) wrong

      by : (f : Expr-F Expr Item Part Link) → out-Expr one ≡ f → Sound (SideForm program names env agree) (left_side check env one)
      by (written.Name name) is = rw is (name_side_sound program names env agree name (local_meant name.text env.locals) refl)
      by (written.Post first parts) is = ends first parts (ends_in_element parts) is refl
      by f is = rw is wrong

  -- Operators before an operand --------------------------------------------------------------------------------------

  steps : (of : ValueType) → (same_type of type.count || same_type of type.int) ≡ true → IsStepped of
  steps of e = by (same_type of type.count) (same_type of type.int) refl refl e
    where
      by : (a b : Bool) → same_type of type.count ≡ a → same_type of type.int ≡ b → (a || b) ≡ true → IsStepped of
      by true b p q e = rw (same_type_is of type.count p) tt
      by false true p q e = rw (same_type_is of type.int q) tt
      by false false p q e = absurd cc

  stepped_sound : (place : Place) (by : Direction) (operand : Expr) → Sound (IsForm program names) (stepped check env place by operand)
  stepped_sound place by operand = sound_bind (SideForm program names env agree) (IsForm program names) (left_side check env operand) _ (left_side_sound operand) (λ one h.
      sound_require (IsForm program names) (same_type one.type type.count || same_type one.type type.int) rule.WrongType (expr_place env operand) (assignable place one >> Ok (typed one.type (form.Apply (primitive.Step one.left by) one.operands))) (λ steps_e.
      sound_after (IsForm program names) (assignable place one) (Ok (typed one.type (form.Apply (primitive.Step one.left by) one.operands))) (λ logs. let (types, have, takes) = h logs.1 in (types, have, (takes, steps one.type steps_e)))))

  negated_sound : (place : Place) (one : Typed) → IsForm program names one → Sound (IsForm program names) (expressions.negated place one)
  negated_sound place one h = by one.type one.expr h
    where
      by : (of : ValueType) (expr : form.Expr) → IsForm program names (typed of expr) → Sound (IsForm program names) (expressions.negated place (typed of expr))
      by (Simple simple.Count) expr h = applied program names (primitive.Unary unary.Negate) (typed type.count expr ∷ []) type.int (h, tt) (type.count, refl, refl)
      by (Simple simple.Int) expr h = applied program names (primitive.Unary unary.Negate) (typed type.int expr ∷ []) type.int (h, tt) (type.int, refl, refl)
      by (Simple simple.Interval) expr h = applied program names (primitive.Unary unary.Negate) (typed type.interval expr ∷ []) type.interval (h, tt) (type.interval, refl, refl)
      by of expr h = tt

  unary_sound : (place : Place) (operator : Prefix) (operand : Expr) → Sound (IsForm program names) (unary_typed check env place operator operand)
  unary_sound place prefix.Not operand = sound_bind (Formed program names (Wants type.bool)) (IsForm program names) (check (Wants type.bool) operand) (λ one. Ok (typed type.bool (apply (primitive.Unary unary.Not) (one ∷ [])))) (well (Wants type.bool) operand)
      (λ one h. applied program names (primitive.Unary unary.Not) (one ∷ []) type.bool (h.0, tt) (one.type, refl, (h.1, refl)))
  unary_sound place prefix.Negate operand = sound_bind (Formed program names Nothing) (IsForm program names) (check Nothing operand) (expressions.negated (expr_place env operand)) (well Nothing operand) (λ one h. negated_sound (expr_place env operand) one h.0)
  unary_sound place prefix.Increment operand = stepped_sound place Up operand
  unary_sound place prefix.Decrement operand = stepped_sound place Down operand

  -- Comparisons and choices ------------------------------------------------------------------------------------------

  compared_sound : (operator : Comparing) (a b : Expr) → Sound (IsForm program names) (compared check env operator a b)
  compared_sound operator a b = by (relation_of operator) refl
    where
      by : (relation : Option Relation) → relation_of operator ≡ relation → Sound (IsForm program names) (compared check env operator a b)
      by (Some relation) is = rw is (sound_bind (λ pair. Formed program names Nothing pair.0 × Formed program names Nothing pair.1) (IsForm program names) (both (check Nothing a) (check Nothing b)) _
          (sound_both (Formed program names Nothing) (Formed program names Nothing) (check Nothing a) (check Nothing b) (well Nothing a) (well Nothing b))
          (λ pair h. let two = beside_forms program names pair.0 pair.1 h.0.0 h.1.0 in
          sound_more (Formed program names Nothing) (IsForm program names) (related relation (expr_place env a) (expr_place env b) (beside pair.0 pair.1)) (λ made k. k.0) (related_sound program names relation (expr_place env a) (expr_place env b) (beside pair.0 pair.1) two.0 two.1)))
      by None is = rw is (sound_bind (λ pair. AllByRecursion (IsForm program names) pair.0 × Formed program names Nothing pair.1) (IsForm program names) (both (left_of_in check env a) (check Nothing b)) _
          (sound_both (AllByRecursion (IsForm program names)) (Formed program names Nothing) (left_of_in check env a) (check Nothing b) (left_sound program names check env well a) (well Nothing b))
          (λ pair h. sound_more (Formed program names Nothing) (IsForm program names) _ (λ made k. k.0) (membership_sound program names _ (expr_place env a) (expr_place env b) pair.0 pair.1 h.0 h.1.0)))

  -- two arms of one type, which is the one that is wanted
  abbrev Arms : Wanted → Typed × Typed → Type 0
  Arms Unclear pair = Unit {0}
  Arms wanted pair = Formed program names wanted pair.0 × IsForm program names pair.1 × (pair.1.type ≡ pair.0.type)

  arms_sound : (wanted : Wanted) (a b : Expr) → Sound (Arms wanted) (arms check env wanted a b)
  arms_sound (Wants wanted) a b = sound_more (λ pair. Formed program names (Wants wanted) pair.0 × Formed program names (Wants wanted) pair.1) (Arms (Wants wanted)) (both (check (Wants wanted) a) (check (Wants wanted) b)) (λ pair h. (h.0, h.1.0, h.1.1 ∙ sym h.0.1))
      (sound_both (Formed program names (Wants wanted)) (Formed program names (Wants wanted)) (check (Wants wanted) a) (check (Wants wanted) b) (well (Wants wanted) a) (well (Wants wanted) b))
  arms_sound Unclear a b = sound_any (both (check Unclear a) (check Unclear b))
  arms_sound Nothing a b = sound_bind (λ pair. Formed program names Nothing pair.0 × Formed program names Nothing pair.1) (Arms Nothing) (both (check Nothing a) (check Nothing b)) _
      (sound_both (Formed program names Nothing) (Formed program names Nothing) (check Nothing a) (check Nothing b) (well Nothing a) (well Nothing b))
      (λ pair h. sound_require (Arms Nothing) (same_type pair.0.type pair.1.type) rule.WrongType (expr_place env b) (Ok pair) (λ same. (h.0, h.1.0, sym (same_type_is pair.0.type pair.1.type same))))

  choice_form : (wanted : Wanted) (test : Typed) (pair : Typed × Typed) → Formed program names (Wants type.bool) test → Arms wanted pair → Formed program names wanted (typed pair.0.type (form.Choice test.expr pair.0.expr pair.1.expr))
  choice_form (Wants wanted) test pair h (first, second, same) = ((λ logs. (at_type program names test type.bool h.0 h.1 logs.0, first.0 logs.1, at_type program names pair.1 pair.0.type second same logs.2)), first.1)
  choice_form Unclear test pair h k = tt
  choice_form Nothing test pair h (first, second, same) = ((λ logs. (at_type program names test type.bool h.0 h.1 logs.0, first.0 logs.1, at_type program names pair.1 pair.0.type second same logs.2)), tt)

  choice_sound : (wanted : Wanted) (test a b : Expr) → Sound (Formed program names wanted) (choice check env wanted test a b)
  choice_sound wanted test a b = sound_bind (λ parts. Formed program names (Wants type.bool) parts.0 × Arms wanted parts.1) (Formed program names wanted) (both (check (Wants type.bool) test) (arms check env wanted a b)) _
      (sound_both (Formed program names (Wants type.bool)) (Arms wanted) (check (Wants type.bool) test) (arms check env wanted a b) (well (Wants type.bool) test) (arms_sound wanted a b))
      (λ parts h. choice_form wanted parts.0 parts.1 h.0 h.1)

  sizes : (place : Place) (of : ValueType) (expr : form.Expr) → IsForm program names (typed of expr) → Sound (IsForm program names) (size_typed place (typed of expr))
  sizes place (Simple simple.String) expr h = applied program names primitive.Size (typed type.string expr ∷ []) type.count (h, tt) (type.string, refl, tt, refl)
  sizes place (Simple simple.Int) expr h = applied program names primitive.Size (typed type.int expr ∷ []) type.count (h, tt) (type.int, refl, tt, refl)
  sizes place (Table keys item) expr h = applied program names primitive.Size (typed (Table keys item) expr ∷ []) type.count (h, tt) (Table keys item, refl, tt, refl)
  sizes place (Set keys) expr h = applied program names primitive.Size (typed (Set keys) expr ∷ []) type.count (h, tt) (Set keys, refl, tt, refl)
  sizes place (Vector item) expr h = applied program names primitive.Size (typed (Vector item) expr ∷ []) type.count (h, tt) (Vector item, refl, tt, refl)
  sizes place of expr h = tt

  first_of : (level : Level) (first : Expr) → Sound (IsForm program names) (check (wanted_first level) first)
  first_of level.Or first = sound_more (Formed program names (Wants type.bool)) (IsForm program names) (check (Wants type.bool) first) (λ made h. h.0) (well (Wants type.bool) first)
  first_of level.And first = sound_more (Formed program names (Wants type.bool)) (IsForm program names) (check (Wants type.bool) first) (λ made h. h.0) (well (Wants type.bool) first)
  first_of level.Sum first = sound_more (Formed program names Nothing) (IsForm program names) (check Nothing first) (λ made h. h.0) (well Nothing first)
  first_of level.Term first = sound_more (Formed program names Nothing) (IsForm program names) (check Nothing first) (λ made h. h.0) (well Nothing first)

-- Expressions ------------------------------------------------------------------------------------------------------

pub text_is : (depth : ℕ) (env : Env) → TextsWell (expr_to depth env)
text_is zero env one text is = tt
text_is (suc depth) env one text is = by (out-Expr one) refl
  where
    literals : (place : ℕ) (given : Literal) → out-Expr one ≡ written.Literal place given → Sound (λ made. made.type ≡ type.string) (expr_to (suc depth) env Nothing one)
    literals place (literal.String bytes) e = rw e refl
    literals place given e = let told : None ≡ Some text = rw e at is in absurd cc

    by : (f : Expr-F Expr Item Part Link) → out-Expr one ≡ f → Sound (λ made. made.type ≡ type.string) (expr_to (suc depth) env Nothing one)
    by (written.Literal place given) e = literals place given e
    by f e = let told : None ≡ Some text = rw e at is in absurd cc

module _ (program : Program) (names : Names) (env : Env) (agree : EnvAgrees program names env) where
  fitting : (place : Place) (wanted : Wanted) (given : Checked Typed) → Sound (IsForm program names) given → Sound (Formed program names wanted) (given >>= fit place wanted)
  fitting place wanted given h = sound_bind (IsForm program names) (Formed program names wanted) given (fit place wanted) h (λ one form. fit_sound program names place wanted one form)

  -- a form by the checks of its parts
  form_sound : (depth : ℕ) (wanted : Wanted) (one : Expr) → ChecksWell program names (expr_to depth env) → TextsWell (expr_to depth env) → (f : Expr-F Expr Item Part Link) → out-Expr one ≡ f → Sound (Formed program names wanted) (expr_to (suc depth) env wanted one)
  form_sound depth wanted one well texts (written.Assign a operator b) is = rw is (never_ok (Formed program names wanted) (assigned_parts (expr_to depth env) env operator a b) rule.WrongType (expr_place env one))
  form_sound depth wanted one well texts (written.Choice test a b) is = rw is (choice_sound program names (expr_to depth env) well texts env agree wanted test a b)
  form_sound depth wanted one well texts (written.Chain level first links) is = rw is (fitting (expr_place env one) wanted _
      (chained_sound program names (expr_to depth env) well env level (expr_place env first) links (expr_to depth env (wanted_first level) first) (first_of program names (expr_to depth env) well texts env agree level first)))
  form_sound depth wanted one well texts (written.Compare a operator b) is = rw is (fitting (expr_place env one) wanted _ (compared_sound program names (expr_to depth env) well texts env agree operator a b))
  form_sound depth wanted one well texts (written.Unary place operator operand) is = rw is (fitting (expr_place env one) wanted _ (unary_sound program names (expr_to depth env) well texts env agree (at env place) operator operand))
  form_sound depth wanted one well texts (written.Post first parts) is = rw is (fitting (expr_place env one) wanted _ (post_sound program names (expr_to depth env) well texts env agree (expr_place env first) first parts (called_name first parts)))
  form_sound depth wanted one well texts (written.Number place number) is = rw is (fitting (expr_place env one) wanted (Ok (constant type.count (plain.Count number))) (λ logs. refl))
  form_sound depth wanted one well texts (written.Interval place number unit plural) is = rw is (fitting (expr_place env one) wanted (Ok (constant type.interval (interval_of number unit))) (λ logs. refl))
  form_sound depth wanted one well texts (written.Literal place given) is = rw is (fitting (expr_place env one) wanted (Ok (literal_typed given)) (literal_form program names given))
  form_sound depth wanted one well texts (written.Truth place truth) is = rw is (fitting (expr_place env one) wanted (Ok (constant type.bool (plain.Bool truth))) (λ logs. refl))
  form_sound depth wanted one well texts (written.Name name) is = rw is (fitting (expr_place env one) wanted (name_typed env name) (name_sound program names env agree name))
  form_sound depth wanted one well texts (written.Parenthesis place inner) is = rw is (well wanted inner)
  form_sound depth wanted one well texts (written.Size place inner) is = rw is (fitting (expr_place env one) wanted _ (sound_bind (Formed program names Nothing) (IsForm program names) (expr_to depth env Nothing inner) (size_typed (expr_place env inner)) (well Nothing inner)
      (λ made h. sizes program names (expr_to depth env) well texts env agree (expr_place env inner) made.type made.expr h.0)))
  form_sound depth wanted one well texts (written.List place items) is = rw is (brackets_sound program names (expr_to depth env) well env agree (at env place) items wanted)
  form_sound depth wanted one well texts (written.Make place container items) is = rw is (container_sound program names (expr_to depth env) well env (at env place) container (members_in (expr_to depth env) env items) (members_well program names (expr_to depth env) well env items) wanted)
  form_sound depth wanted one well texts (written.Hook place name items) is = rw is (fitting (expr_place env one) wanted _ (sound_more (Formed program names Nothing) (IsForm program names) _ (λ made h. h.0) (hook_sound program names (expr_to depth env) well texts env agree (at env place) name items)))

  pub expr_to_sound : (depth : ℕ) → ChecksWell program names (expr_to depth env)
  expr_to_sound zero wanted one = tt
  expr_to_sound (suc depth) wanted one = form_sound depth wanted one (expr_to_sound depth) (text_is depth env) (out-Expr one) refl

pub expr_sound : (program : Program) (names : Names) (env : Env) → EnvAgrees program names env → ChecksWell program names (expr_typed env)
expr_sound program names env agree = expr_to_sound program names env agree depth_max

-- the typed form of an expression has the type that it was given
pub expr_form : (program : Program) (names : Names) (env : Env) (wanted : Wanted) (written : Expr) (made : Typed) → EnvAgrees program names env → IsClear wanted → expr_typed env wanted written ≡ Ok made → LogsFit program made.expr
    → HasForm program names made.expr made.type
expr_form program names env wanted written made agree clear is logs = by wanted clear (sound_ok (Formed program names wanted) (expr_typed env wanted written) made is (expr_sound program names env agree wanted written))
  where
    by : (wanted : Wanted) → IsClear wanted → Formed program names wanted made → HasForm program names made.expr made.type
    by Nothing clear h = h.0 logs
    by (Wants of) clear h = h.0 logs
    by Unclear clear h = absurd clear
