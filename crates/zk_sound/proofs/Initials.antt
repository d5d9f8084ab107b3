-- The initial values of a typed program, and what its fields begin with, have the types of their places.
use Rattle.std.proofs.Common.{◌≡◌, ℕ, suc, ◌+◌, Bool, true, false, List, [], ◌∷◌, ◌++◌, map, codes, Option, Some, None, Ok, Err, refl, sym, subst, arith}
use Rattle.std.specs.Prelude.{◌&&◌, ◌||◌, if◌then◌else◌, slice_get}
use Rattle.std.specs.List.{AllByRecursion}
use Rattle.std.specs.Option.{option_map}
use Rattle.std.proofs.lemmas.Bool.{and_parts}
use Rattle.zk_base.specs.declared.numbers.RecordNo.{RecordNo}
use Rattle.zk_tree.specs.declared.decl.Redefining.{Redefining}
use Rattle.zk_tree.specs.declared.decl.Redefining.TheVariants as redefining
use Rattle.zk_tree.specs.declared.expiry.Expiry.{Expiry}
use Rattle.zk_tree.specs.declared.expr.Expr.{Expr, out-Expr}
use Rattle.zk_tree.specs.declared.expr.Expr.TheOpen.{Expr-F}
use Rattle.zk_tree.specs.declared.expr.Expr.TheOpen as written
use Rattle.zk_tree.specs.declared.expr.Item.{Item}
use Rattle.zk_tree.specs.declared.expr.Link.{Link}
use Rattle.zk_tree.specs.declared.expr.Literal.TheVariants as token
use Rattle.zk_tree.specs.declared.expr.Part.{Part}
use Rattle.zk_tree.specs.declared.operator.Assigning.TheVariants as assigning
use Rattle.zk_tree.specs.declared.operator.Container.{Container}
use Rattle.zk_tree.specs.declared.operator.Container.TheVariants as container
use Rattle.zk_tree.specs.declared.place.Place.{Place}
use Rattle.zk_tree.specs.declared.stmt.Init.{Init}
use Rattle.zk_tree.specs.declared.types.Attr.{Attr}
use Rattle.zk_typed.specs.declared.script.literal.DefaultValue.{DefaultValue}
use Rattle.zk_typed.specs.declared.script.literal.DefaultValue.TheVariants.{Literal}
use Rattle.zk_typed.specs.declared.script.literal.Literal as value
use Rattle.zk_typed.specs.declared.script.literal.Literal.TheVariants as literal
use Rattle.zk_typed.specs.declared.script.literal.Sign.TheVariants.{Plain, Converted, Negated}
use Rattle.zk_typed.specs.declared.script.primitive.Primitive.TheVariants as primitive
use Rattle.zk_typed.specs.declared.script.types.SimpleType.{SimpleType}
use Rattle.zk_typed.specs.declared.script.types.SimpleType.TheVariants as simple
use Rattle.zk_typed.specs.Checked.{Checked}
use Rattle.zk_typed.specs.Columns.{record_fields}
use Rattle.zk_typed.specs.Declarations.{variables, global_type, env_at, literal_of, minus_operand, literal_default, negative_default, empty_container, container_default, constant_typed, values_of, is_set}
use Rattle.zk_typed.specs.Declaring.{scripts_of}
use Rattle.zk_typed.specs.Errors.{body_context, redef_wants}
use Rattle.zk_typed.specs.Forms as form
use Rattle.zk_typed.specs.LoadOrder.{File, Home}
use Rattle.zk_typed.specs.Names.{Declared, Meant, Variable}
use Rattle.zk_typed.specs.Operations.{same_type, same_simple}
use Rattle.zk_typed.specs.Predefined as type
use Rattle.zk_typed.specs.Program.{Program, RecordType}
use Rattle.zk_typed.specs.Programs.{checked_or, if_checked, empty_default, field_of, record_of, since_set, default_of, shaped, given_value, added_to, first_given, later_given, all_given, expiry_of, global_made, globals_from, typed_program, Typed}
use Rattle.zk_typed.specs.Resolving.{Scripts, FieldInfo, fields_of, attr_value}
use Rattle.zk_typed.specs.Statements.{InHandler, init_typed, empty_of}
use Rattle.zk_typed.specs.Types.{ValueType, Simple, Record, Table, Set, Vector}
use Rattle.zk_typed.specs.Typing.{Env, Wants, expr_place, is_variable}
use Rattle.zk_typed.specs.Typing as typing
use Rattle.zk_typed.specs.View.{literal_value}
use Rattle.zk_sound.specs.Agreeing.{Agrees, LogsFit, InitialLogsFit, ValuesLogFit}
use Rattle.zk_sound.specs.Having.{FieldBegins, HasForm, UpdateTakes, InitialFits, AddedFits, ValuesFit}
use Rattle.zk_sound.specs.Holding.{is_kind, DefaultFits, MayBegin}
use Rattle.zk_sound.specs.Worlds.{global_names}
use Rattle.zk_sound.specs.Worlds as worlds
use Rattle.zk_sound.proofs.Checks.{Sound}
use Rattle.zk_sound.proofs.Composed.{init_sound}
use Rattle.zk_sound.proofs.Formed.{Formed, at_type}
use Rattle.zk_sound.proofs.Growth.{all_append, all_get}
use Rattle.zk_sound.proofs.Programs.{IsGlobal, all_globals, type_at, globals_are}
use Rattle.zk_sound.proofs.Same.{same_simple_is, same_type_is}
use Rattle.zk_sound.proofs.Stated.{update_takes}

-- Defaults -----------------------------------------------------------------------------------------------------------

abbrev IsOfKind : value.Literal × SimpleType → Type 0
IsOfKind one = is_kind one.1 (literal_value one.0) ≡ true

literal_kind : (e : Expr) (one : value.Literal × SimpleType) → literal_of e ≡ Some one → IsOfKind one
literal_kind e one is = by (out-Expr e) refl
  where
    same : (other : value.Literal × SimpleType) → IsOfKind other → Some other ≡ Some one → IsOfKind one
    same other h k = let here : other ≡ one = cc in subst IsOfKind here h

    by : (f : Expr-F Expr Item Part Link) → out-Expr e ≡ f → IsOfKind one
    by (written.Number place number) e = same (literal.Count number, simple.Count) refl (rw e at is)
    by (written.Interval place number unit plural) e = same _ refl (rw e at is)
    by (written.Literal place (token.String bytes)) e = same (literal.String bytes, simple.String) refl (rw e at is)
    by (written.Literal place (token.Port port proto)) e = same (literal.Port port proto, simple.Port) refl (rw e at is)
    by (written.Literal place (token.Address address)) e = same _ refl (rw e at is)
    by (written.Literal place (token.Subnet prefix width)) e = same (literal.Subnet prefix width, simple.Subnet) refl (rw e at is)
    by (written.Truth place truth) e = same (literal.Bool truth, simple.Bool) refl (rw e at is)
    by f e = let none : ◌≡◌ {A = Option (value.Literal × SimpleType)} None (Some one) = rw e at is in absurd cc

negated_count : (one : value.Literal) → is_kind simple.Count (literal_value one) ≡ true → DefaultFits type.int (Literal one Negated)
negated_count (literal.Count n) h = tt
negated_count one h = absurd cc

negated_interval : (one : value.Literal) → is_kind simple.Interval (literal_value one) ≡ true → DefaultFits type.interval (Literal one Negated)
negated_interval (literal.Interval span) h = tt
negated_interval one h = absurd cc

literal_fits : (place : Place) (of : ValueType) (one : value.Literal × SimpleType) → IsOfKind one → Sound (DefaultFits of) (literal_default place of one)
literal_fits place of one h = by (same_type of (Simple one.1)) (same_type of type.int && same_simple one.1 simple.Count) refl refl
  where
    by : (same converted : Bool) → same_type of (Simple one.1) ≡ same → (same_type of type.int && same_simple one.1 simple.Count) ≡ converted
        → Sound (DefaultFits of) (if same then Ok (Literal one.0 Plain) else (if converted then Ok (Literal one.0 Converted) else Rattle.zk_typed.specs.Checked.broken Rattle.zk_typed.specs.declared.rule.Rule.TheVariants.WrongType place))
    by true converted e k = let here : of ≡ Simple one.1 = same_type_is of (Simple one.1) e in rw here h
    by false true e k =
        let parts = and_parts (same_type of type.int) (same_simple one.1 simple.Count) k in
        let kind : one.1 ≡ simple.Count = same_simple_is one.1 simple.Count parts.1 in
        (same_type_is of type.int parts.0, rw kind at h)
    by false false e k = tt

negative_fits : (place : Place) (of : ValueType) (one : value.Literal × SimpleType) → IsOfKind one → Sound (DefaultFits of) (negative_default place of one)
negative_fits place of one h = by (same_type of type.int && same_simple one.1 simple.Count) (same_type of type.interval && same_simple one.1 simple.Interval) refl refl
  where
    by : (first second : Bool) → (same_type of type.int && same_simple one.1 simple.Count) ≡ first → (same_type of type.interval && same_simple one.1 simple.Interval) ≡ second
        → Sound (DefaultFits of) (if first || second then Ok (Literal one.0 Negated) else Rattle.zk_typed.specs.Checked.broken Rattle.zk_typed.specs.declared.rule.Rule.TheVariants.WrongType place)
    by true second e k =
        let parts = and_parts (same_type of type.int) (same_simple one.1 simple.Count) e in
        let here : of ≡ type.int = same_type_is of type.int parts.0 in
        let kind : one.1 ≡ simple.Count = same_simple_is one.1 simple.Count parts.1 in
        subst (λ (t : ValueType). DefaultFits t (Literal one.0 Negated)) (sym here) (negated_count one.0 (rw kind at h))
    by false true e k =
        let parts = and_parts (same_type of type.interval) (same_simple one.1 simple.Interval) k in
        let here : of ≡ type.interval = same_type_is of type.interval parts.0 in
        let kind : one.1 ≡ simple.Interval = same_simple_is one.1 simple.Interval parts.1 in
        subst (λ (t : ValueType). DefaultFits t (Literal one.0 Negated)) (sym here) (negated_interval one.0 (rw kind at h))
    by false false e k = tt

made_fits : (place : Place) (of : ValueType) (one : Container) → Sound (DefaultFits of) (container_default place of one)
made_fits place (Table keys item) container.Table = tt
made_fits place (Set keys) container.Set = tt
made_fits place (Vector item) container.Vector = tt
made_fits place of one = tt

-- the value of a `&default` is of the type that it was checked against
pub default_sound : (env : Env) (of : ValueType) (e : Expr) → Sound (DefaultFits of) (constant_typed env of e)
default_sound env of e = by (literal_of e) refl
  where
    made : (found : Option Container) → empty_container e ≡ found → literal_of e ≡ None → minus_operand e ≡ None → Sound (DefaultFits of) (constant_typed env of e)
    made None is none minus = rw (none, minus, is) tt
    made (Some one) is none minus = rw (none, minus, is) (made_fits (expr_place env e) of one)

    negative : (operand : Expr) (found : Option (value.Literal × SimpleType)) → literal_of operand ≡ found → literal_of e ≡ None → minus_operand e ≡ Some operand → Sound (DefaultFits of) (constant_typed env of e)
    negative operand None is none minus = rw (none, minus, is) tt
    negative operand (Some one) is none minus = rw (none, minus, is) (negative_fits (expr_place env e) of one (literal_kind operand one is))

    minus : (found : Option Expr) → minus_operand e ≡ found → literal_of e ≡ None → Sound (DefaultFits of) (constant_typed env of e)
    minus None is none = made (empty_container e) refl none is
    minus (Some operand) is none = negative operand (literal_of operand) refl none is

    by : (found : Option (value.Literal × SimpleType)) → literal_of e ≡ found → Sound (DefaultFits of) (constant_typed env of e)
    by None is = minus (minus_operand e) refl is
    by (Some one) is = rw is (literal_fits (expr_place env e) of one (literal_kind e one is))

checked_begins : (of : ValueType) (m : Checked DefaultValue) → Sound (DefaultFits of) m → MayBegin of (if_checked m)
checked_begins of (Ok default) h = h
checked_begins of (Err rules) h = tt

-- Fields -------------------------------------------------------------------------------------------------------------

empty_begins : (of : ValueType) → MayBegin of (empty_default of)
empty_begins (Table keys item) = tt
empty_begins (Set keys) = tt
empty_begins (Vector item) = tt
empty_begins (Record number) = tt
empty_begins (Simple one) = tt

field_well : (scripts : Scripts) (field : FieldInfo) → FieldBegins (field_of scripts field)
field_well scripts field = by field.default refl
  where
    of : ValueType
    of = checked_or type.bool field.field_type

    given : (optional : Bool) → MayBegin of (if optional then None else empty_default of)
    given true = tt
    given false = empty_begins of

    by : (default : Option Expr) → field.default ≡ default → FieldBegins (field_of scripts field)
    by None is = rw is (given field.optional)
    by (Some one) is = rw is (checked_begins of (constant_typed (env_at scripts field.home) of one) (default_sound (env_at scripts field.home) of one))

fields_well : (scripts : Scripts) (fields : List FieldInfo) → AllByRecursion FieldBegins (map (field_of scripts) fields)
fields_well scripts [] = tt
fields_well scripts (field ∷ fields) = (field_well scripts field, fields_well scripts fields)

abbrev RecordBegins : RecordType → Type 0
RecordBegins one = AllByRecursion FieldBegins one.fields

records_well : (scripts : Scripts) (numbers : List ℕ) → AllByRecursion RecordBegins (map (record_of scripts) numbers)
records_well scripts [] = tt
records_well scripts (number ∷ numbers) = (fields_well scripts (fields_of scripts number), records_well scripts numbers)

begins_of_files : (files : List File) (number : RecordNo) → AllByRecursion FieldBegins (record_fields (typed_program files) number)
begins_of_files files number = by (slice_get (typed_program files).records number.0) refl
  where
    by : (found : Option RecordType) → slice_get (typed_program files).records number.0 ≡ found → AllByRecursion FieldBegins (record_fields (typed_program files) number)
    by None is = rw is tt
    by (Some one) is = rw is (all_get RecordBegins (typed_program files).records number.0 one is (records_well (scripts_of files) _))

-- Initial values -----------------------------------------------------------------------------------------------------

abbrev Given : Type 0
Given = Home × Redefining × Init

abbrev OnlyAdds : List Given → Type 0
OnlyAdds given = AllByRecursion (λ one. is_set one.1 ≡ false) given

abbrev SetThenAdds : List Given → Type 0
SetThenAdds [] = Unit {0}
SetThenAdds (one ∷ others) = OnlyAdds others

since_adds : (before given : List Given) → SetThenAdds before → SetThenAdds (since_set before given)
since_adds before [] h = h
since_adds before (one ∷ given) h = by (is_set one.1) refl (since_adds (one ∷ []) given tt) (since_adds (before ++ one ∷ []) given)
  where
    behind : (before : List Given) → SetThenAdds before → is_set one.1 ≡ false → SetThenAdds (before ++ one ∷ [])
    behind [] h e = tt
    behind (first ∷ before) h e = all_append (λ one. is_set one.1 ≡ false) before (one ∷ []) h (e, tt)

    by : (set : Bool) → is_set one.1 ≡ set → SetThenAdds (since_set (one ∷ []) given) → (SetThenAdds (before ++ one ∷ []) → SetThenAdds (since_set (before ++ one ∷ []) given))
        → SetThenAdds (elim set [ true ↦ since_set (one ∷ []) given | false ↦ since_set (before ++ one ∷ []) given ])
    by true e anew more = anew
    by false e anew more = more (behind before h e)

later_adds : (given : List Given) → SetThenAdds given → OnlyAdds (later_given given)
later_adds [] h = tt
later_adds (one ∷ given) h = by (is_set one.1) refl
  where
    by : (set : Bool) → is_set one.1 ≡ set → OnlyAdds (elim set [ true ↦ given | false ↦ one ∷ given ])
    by true e = h
    by false e = (e, h)

module _ (program : Program) (scripts : Scripts) (agrees : Agrees program scripts) (globals : (number : ℕ) (of : ValueType) → global_type scripts number ≡ Ok of → worlds.type_of (global_names program) number ≡ Some of) where
  value_sound : (home : Home) (wanted : ValueType) (one : Init) → Sound (Formed program [] (Wants wanted)) (init_typed (env_at scripts home) (Wants wanted) one)
  value_sound home wanted one = init_sound program [] None (body_context scripts home InHandler) (record { scripts = agrees; globals = globals; within = refl }) [] (record { of = λ number local of there is. absurd cc }) (Wants wanted) one

  -- what a name is given has the type that is wanted of it
  value_given : (of : ValueType) (given : Given) (x : form.Expr) → given_value scripts of given ≡ Some x → LogsFit program x → (wanted : ValueType) × (redef_wants given.1 of ≡ Some wanted) × HasForm program [] x wanted
  value_given of given x is logs = by (redef_wants given.1 of) refl
    where
      Result : Type 0
      Result = (wanted : ValueType) × (redef_wants given.1 of ≡ Some wanted) × HasForm program [] x wanted

      made : (wanted : ValueType) (m : Checked typing.Typed) → redef_wants given.1 of ≡ Some wanted → Sound (Formed program [] (Wants wanted)) m → option_map (λ made. made.expr) (if_checked m) ≡ Some x → Result
      made wanted (Ok one) e h k = let same : one.expr ≡ x = cc in (wanted, e, subst (λ (y : form.Expr). HasForm program [] y wanted) same (at_type program [] one wanted h.0 h.1 (subst (LogsFit program) (sym same) logs)))
      made wanted (Err rules) e h k = absurd cc

      by : (found : Option ValueType) → redef_wants given.1 of ≡ found → Result
      by None e = let none : ◌≡◌ {A = Option form.Expr} None (Some x) = rw e at is in absurd cc
      by (Some wanted) e = made wanted (init_typed (env_at scripts given.0) (Wants wanted) given.2) e (value_sound given.0 wanted given.2) (rw e at is)

  empty_fits : (of : ValueType) → InitialFits program of (empty_of of)
  empty_fits (Table keys item) = ([], tt, (keys, item, 0, refl, refl, refl, tt))
  empty_fits (Set keys) = ([], tt, (keys, 0, refl, refl, refl))
  empty_fits (Vector item) = ([], tt, (item, 0, refl, refl))
  empty_fits (Record number) = tt
  empty_fits (Simple one) = tt

  added_fits : (of : ValueType) (given : List Given) → OnlyAdds given → AllByRecursion (LogsFit program) (all_given scripts of given) → AllByRecursion (AddedFits program of) (all_given scripts of given)
  added_fits of [] adds logs = tt
  added_fits of (given ∷ others) adds logs = by (given_value scripts of given) refl (added_fits of others adds.1)
    where
      plus : (wanted : ValueType) (operator : Redefining) → is_set operator ≡ false → redef_wants operator of ≡ Some wanted → UpdateTakes Rattle.zk_typed.specs.declared.script.primitive.Binary.TheVariants.Plus of wanted
      plus wanted redefining.Set e k = absurd cc
      plus wanted redefining.Add e k = update_takes assigning.Add of wanted k

      by : (found : Option form.Expr) → given_value scripts of given ≡ found → (AllByRecursion (LogsFit program) (all_given scripts of others) → AllByRecursion (AddedFits program of) (all_given scripts of others)) → AllByRecursion (AddedFits program of) (all_given scripts of (given ∷ others))
      by None is rest = rw is (rest (rw is at logs))
      by (Some x) is rest =
          let both : LogsFit program x × AllByRecursion (LogsFit program) (all_given scripts of others) = rw is at logs in
          let (wanted, wants, have) = value_given of given x is both.0 in
          rw is ((wanted, plus wanted given.1 adds.0 wants, have), rest both.1)

  -- the first value: the last that is set, or what values are added to
  first_fits : (number : ℕ) (of : ValueType) (given : List Given) → worlds.type_of (global_names program) number ≡ Some of → InitialLogsFit program (first_given scripts number of given) → InitialFits program of (first_given scripts number of given)
  first_fits number of [] typed logs = empty_fits of
  first_fits number of (given ∷ others) typed logs = by (is_set given.1) refl logs
    where
      to : (empty : Option form.Expr) → InitialFits program of empty → HasForm program [] (added_to number empty) of
      to None h = typed
      to (Some one) h = h

      sets : (wanted : ValueType) (operator : Redefining) → is_set operator ≡ true → redef_wants operator of ≡ Some wanted → of ≡ wanted
      sets wanted redefining.Set e k = cc
      sets wanted redefining.Add e k = absurd cc

      value : is_set given.1 ≡ true → (found : Option form.Expr) → given_value scripts of given ≡ found → InitialLogsFit program found → InitialFits program of found
      value e None is logs = tt
      value e (Some x) is logs = let (wanted, wants, have) = value_given of given x is logs in let same : of ≡ wanted = sets wanted given.1 e wants in rw same have

      by : (set : Bool) → is_set given.1 ≡ set → InitialLogsFit program (elim set [ true ↦ given_value scripts of given | false ↦ Some (added_to number (empty_of of)) ]) → InitialFits program of (elim set [ true ↦ given_value scripts of given | false ↦ Some (added_to number (empty_of of)) ])
      by true e logs = value e (given_value scripts of given) refl logs
      by false e logs = to (empty_of of) (empty_fits of)

  -- with the expiry and the default of its global
  shaped_logs : (expiry : Option Expiry) (default : Option DefaultValue) (x : form.Expr) → LogsFit program (shaped expiry default x) → LogsFit program x
  shaped_logs expiry default (form.Apply (primitive.NewTable shape) operands) h = h
  shaped_logs expiry default (form.Apply (primitive.NewSet shape) operands) h = h
  shaped_logs expiry default x h = h

  shaped_fits : (expiry : Option Expiry) (default : Option DefaultValue) (of : ValueType) (x : form.Expr) → ((keys : List SimpleType) (item : ValueType) → of ≡ Table keys item → MayBegin item default) → HasForm program [] x of → HasForm program [] (shaped expiry default x) of
  shaped_fits expiry default of (form.Apply (primitive.NewTable shape) operands) begins (types, have, (keys, item, count, are, as_many, is, old)) = (types, have, (keys, item, count, are, as_many, is, begins keys item is))
  shaped_fits expiry default of (form.Apply (primitive.NewSet shape) operands) begins h = h
  shaped_fits expiry default of x begins h = h

  default_well : (home : Home) (of : ValueType) (attrs : List Attr) (keys : List SimpleType) (item : ValueType) → of ≡ Table keys item → MayBegin item (default_of scripts home of attrs)
  default_well home of attrs keys item is = by (attr_value (codes "default") attrs) refl
    where
      by : (found : Option Expr) → attr_value (codes "default") attrs ≡ found → MayBegin item (default_of scripts home of attrs)
      by None e = rw e tt
      by (Some one) e = rw (e, is) (checked_begins item (constant_typed (env_at scripts home) item one) (default_sound (env_at scripts home) item one))

  initial_fits : (expiry : Option Expiry) (default : Option DefaultValue) (of : ValueType) (first : Option form.Expr) → ((keys : List SimpleType) (item : ValueType) → of ≡ Table keys item → MayBegin item default) → (InitialLogsFit program first → InitialFits program of first)
      → InitialLogsFit program (option_map (shaped expiry default) first) → InitialFits program of (option_map (shaped expiry default) first)
  initial_fits expiry default of None begins fits logs = tt
  initial_fits expiry default of (Some x) begins fits logs = shaped_fits expiry default of x begins (fits (shaped_logs expiry default x logs))

  -- a global, where what its values say of logs fits
  global_fits : (number : ℕ) (one : Declared) (home : Home) (attrs : List Attr) → worlds.type_of (global_names program) number ≡ Some (checked_or type.bool (global_type scripts number)) → ValuesLogFit program (global_made scripts number one home attrs) → ValuesFit program (global_made scripts number one home attrs)
  global_fits number one home attrs typed logs =
      let of = checked_or type.bool (global_type scripts number) in
      let given = since_set [] (values_of scripts one.name) in (
        initial_fits (expiry_of scripts home attrs) (default_of scripts home of attrs) of (first_given scripts number of given) (default_well home of attrs) (first_fits number of given typed) logs.0,
        added_fits of (later_given given) (later_adds given (since_adds [] (values_of scripts one.name) tt)) logs.1,
      )

  globals_fit_from : (first : ℕ) (ones : List Declared) → AllByRecursion (IsGlobal scripts) ones → ((number : ℕ) (one : Declared) → slice_get ones number ≡ Some one → worlds.type_of (global_names program) (first + number) ≡ Some (checked_or type.bool (global_type scripts (first + number))))
      → AllByRecursion (ValuesLogFit program) (globals_from scripts first ones) → AllByRecursion (ValuesFit program) (globals_from scripts first ones)
  globals_fit_from first [] all typed logs = tt
  globals_fit_from first (one ∷ ones) all typed logs = by one.meant one here (globals_fit_from (first + 1) ones all.1 later) all.0 logs
    where
      here : worlds.type_of (global_names program) first ≡ Some (checked_or type.bool (global_type scripts first))
      here = let same : first + 0 ≡ first = omega arith in let e = typed 0 one refl in rw same at e

      later : (number : ℕ) (other : Declared) → slice_get ones number ≡ Some other → worlds.type_of (global_names program) (first + 1 + number) ≡ Some (checked_or type.bool (global_type scripts (first + 1 + number)))
      later number other there = let same : first + suc number ≡ first + 1 + number = omega arith in let e = typed (suc number) other there in rw same at e

      by : (meant : Meant) (one : Declared) → worlds.type_of (global_names program) first ≡ Some (checked_or type.bool (global_type scripts first)) → (AllByRecursion (ValuesLogFit program) (globals_from scripts (first + 1) ones) → AllByRecursion (ValuesFit program) (globals_from scripts (first + 1) ones))
          → is_variable (record one { meant = meant }) ≡ true → AllByRecursion (ValuesLogFit program) (globals_from scripts first (record one { meant = meant } ∷ ones)) → AllByRecursion (ValuesFit program) (globals_from scripts first (record one { meant = meant } ∷ ones))
      by (Variable home lasting tree init attrs) one here rest e logs = (global_fits first (record one { meant = Variable home lasting tree init attrs }) home attrs here logs.0, rest logs.1)
      by meant one here rest e logs = absurd cc

-- Typed programs -----------------------------------------------------------------------------------------------------

pub fields_begin : (files : List File) (program : Program) → Typed files program → (number : RecordNo) → AllByRecursion FieldBegins (record_fields program number)
fields_begin files program typed number = subst (λ (p : Program). AllByRecursion FieldBegins (record_fields p number)) (sym typed.whole) (begins_of_files files number)

values_of_files : (files : List File) → Agrees (typed_program files) (scripts_of files) → AllByRecursion (ValuesLogFit (typed_program files)) (typed_program files).globals → AllByRecursion (ValuesFit (typed_program files)) (typed_program files).globals
values_of_files files agrees logs =
    let scripts : Scripts = scripts_of files in
    globals_fit_from (typed_program files) scripts agrees (globals_are scripts) 0 (variables scripts) (all_globals scripts scripts.names) typed logs
  where
    typed : (number : ℕ) (one : Declared) → slice_get (variables (scripts_of files)) number ≡ Some one → worlds.type_of (global_names (typed_program files)) (0 + number) ≡ Some (checked_or type.bool (global_type (scripts_of files) (0 + number)))
    typed number one there = let e = type_at (scripts_of files) 0 (variables (scripts_of files)) number one (all_globals (scripts_of files) (scripts_of files).names) there in
        let same : 0 + number ≡ number = omega arith in rw same (rw same at e)

pub values_fit : (files : List File) (program : Program) → Typed files program → Agrees program (scripts_of files) → AllByRecursion (ValuesLogFit program) program.globals → AllByRecursion (ValuesFit program) program.globals
values_fit files program typed = subst (λ (p : Program). Agrees p (scripts_of files) → AllByRecursion (ValuesLogFit p) p.globals → AllByRecursion (ValuesFit p) p.globals) (sym typed.whole) (values_of_files files)
