-- What is told of names, operators, records and containers stays told where more is known of the types of globals.
use Rattle.std.proofs.Common.{◌≡◌, ℕ, List, [], ◌∷◌, Option, Some, None, Ok, Err, inl, inr, refl, subst}
use Rattle.zk_base.specs.declared.numbers.RecordNo.{RecordNo}
use Rattle.zk_tree.specs.declared.expr.Expr.{Expr, out-Expr}
use Rattle.zk_tree.specs.declared.expr.Expr.TheOpen.{Expr-F, Item-F}
use Rattle.zk_tree.specs.declared.expr.Expr.TheOpen as written
use Rattle.zk_tree.specs.declared.expr.Item.{Item, out-Item}
use Rattle.zk_tree.specs.declared.expr.Link.{Link, out-Link}
use Rattle.zk_tree.specs.declared.expr.Part.{Part}
use Rattle.zk_tree.specs.declared.name.Name.{Name}
use Rattle.zk_tree.specs.declared.operator.Level.{Level}
use Rattle.zk_tree.specs.declared.place.Place.{Place}
use Rattle.zk_typed.specs.declared.rule.Rule.TheVariants as rule
use Rattle.zk_typed.specs.declared.script.primitive.Binary.{Binary}
use Rattle.zk_typed.specs.Checked.{Checked, elsewhere, ◌>>=◌, ◌>>◌, both, each, rules_of}
use Rattle.zk_typed.specs.Expressions.{Side, rest_of, arms}
use Rattle.zk_typed.specs.Making.{GivenField, argument, field_named, given_field, record_typed}
use Rattle.zk_typed.specs.Names.{Declared, Meant, Variable}
use Rattle.zk_typed.specs.Operations.{binary_of}
use Rattle.zk_typed.specs.Predefined as type
use Rattle.zk_typed.specs.Resolving.{FieldInfo, fields_of}
use Rattle.zk_typed.specs.Types.{ValueType}
use Rattle.zk_typed.specs.Typing.{Typed, Env, at, expr_place, Wanted, Nothing, Wants, Unclear, wanted_of, Check, fit, beside, truths, arithmetic_typed, linked, chained, local_meant, found, declared_value, name_value, name_typed, left_of_in}
use Rattle.zk_check_declarations.specs.Staying.{Stays}
use Rattle.zk_check_declarations.proofs.Staying.{later, marked_front, stays_bind, stays_both, stays_anyway, stays_each, arguments_stay}

module _ (env : Env) (known : ℕ → Checked ValueType) (more : (number : ℕ) → Stays (env.global_type number) (known number)) where
  abbrev grown : Env
  grown = later env known

  -- Names ------------------------------------------------------------------------------------------------------------

  value_stays : (place : Place) (one : Option Declared) → Stays (declared_value env place one) (declared_value grown place one)
  value_stays place None = inr refl
  value_stays place (Some one) = by one.meant refl
    where
      by : (meant : Meant) → one.meant ≡ meant → Stays (declared_value env place (Some one)) (declared_value grown place (Some one))
      by (Variable home lasting tree init attrs) is = rw is (stays_bind (env.global_type _) (known _) _ _ (more _) (λ told. inr refl))
      by other is = rw is (inr refl)

  pub name_stays : (name : Name) → Stays (name_typed env name) (name_typed grown name)
  name_stays name = by (local_meant name.text env.locals)
    where
      by : (local : Option (ℕ × Checked ValueType)) → Stays (name_value env name local) (name_value grown name local)
      by (Some local) = inr refl
      by None = value_stays (at env name.place) (found env name)

  module _ (check after : Check) (well : (wanted : Wanted) (one : Expr) → Stays (check wanted one) (after wanted one)) where
    -- Operators --------------------------------------------------------------------------------------------------------

    pub left_stays : (one : Expr) → Stays (left_of_in check env one) (left_of_in after grown one)
    left_stays one = by (out-Expr one) refl
      where
        listed : (place : ℕ) (items : List Item) → out-Expr one ≡ written.List place items → Stays (left_of_in check env one) (left_of_in after grown one)
        listed place [] is = rw is (inr refl)
        listed place (first ∷ []) is = rw is (stays_anyway (List Typed) (each (argument check env Nothing) (first ∷ [])) (each (argument after grown Nothing) (first ∷ [])) rule.WrongType (at env place)
            (arguments_stay env known check after well Nothing (first ∷ [])))
        listed place (first ∷ second ∷ others) is = rw is (arguments_stay env known check after well Nothing (first ∷ second ∷ others))

        by : (f : Expr-F Expr Item Part Link) → out-Expr one ≡ f → Stays (left_of_in check env one) (left_of_in after grown one)
        by (written.List place items) is = listed place items is
        by other is = rw is (stays_bind (check Nothing one) (after Nothing one) (λ key. Ok (key ∷ [])) (λ key. Ok (key ∷ [])) (well Nothing one) (λ key. inr refl))

    linked_stays : (level : Level) (place : Place) (before now : Checked Typed) (link : Link) → Stays before now → Stays (linked check env level place before link) (linked after grown level place now link)
    linked_stays level place before now link h = by (binary_of (out-Link link).operator) refl
      where
        behind : Expr
        behind = (out-Link link).operand

        by : (operator : Option Binary) → binary_of (out-Link link).operator ≡ operator → Stays (linked check env level place before link) (linked after grown level place now link)
        by None is = rw is (stays_bind (both (before >>= fit place (Wants type.bool)) (check (Wants type.bool) (out-Link link).operand)) (both (now >>= fit place (Wants type.bool)) (after (Wants type.bool) (out-Link link).operand))
            (λ pair. Ok (truths level pair.0 pair.1)) (λ pair. Ok (truths level pair.0 pair.1))
            (stays_both (before >>= fit place (Wants type.bool)) (now >>= fit place (Wants type.bool)) (check (Wants type.bool) (out-Link link).operand) (after (Wants type.bool) (out-Link link).operand)
            (stays_bind before now (fit place (Wants type.bool)) (fit place (Wants type.bool)) h (λ one. inr refl)) (well (Wants type.bool) (out-Link link).operand)) (λ pair. inr refl))
        by (Some operator) is = rw is (stays_bind (both before (check Nothing (out-Link link).operand)) (both now (after Nothing (out-Link link).operand))
            (λ pair. arithmetic_typed operator place (expr_place env (out-Link link).operand) (beside pair.0 pair.1)) (λ pair. arithmetic_typed operator place (expr_place env (out-Link link).operand) (beside pair.0 pair.1))
            (stays_both before now (check Nothing (out-Link link).operand) (after Nothing (out-Link link).operand) h (well Nothing (out-Link link).operand)) (λ pair. inr refl))

    pub chained_stays : (level : Level) (place : Place) (links : List Link) (before now : Checked Typed) → Stays before now → Stays (chained check env level place before links) (chained after grown level place now links)
    chained_stays level place [] before now h = h
    chained_stays level place (link ∷ links) before now h =
        chained_stays level place links (linked check env level place before link) (linked after grown level place now link) (linked_stays level place before now link h)

    -- Choices ----------------------------------------------------------------------------------------------------------

    pub arms_stay : (wanted : Wanted) (a b : Expr) → Stays (arms check env wanted a b) (arms after grown wanted a b)
    arms_stay (Wants wanted) a b = stays_both (check (Wants wanted) a) (after (Wants wanted) a) (check (Wants wanted) b) (after (Wants wanted) b) (well (Wants wanted) a) (well (Wants wanted) b)
    arms_stay Unclear a b = stays_both (check Unclear a) (after Unclear a) (check Unclear b) (after Unclear b) (well Unclear a) (well Unclear b)
    arms_stay Nothing a b =
        stays_bind (both (check Nothing a) (check Nothing b)) (both (after Nothing a) (after Nothing b)) _ _
        (stays_both (check Nothing a) (after Nothing a) (check Nothing b) (after Nothing b) (well Nothing a) (well Nothing b)) (λ pair. inr refl)

    -- Records ----------------------------------------------------------------------------------------------------------

    field_stays : (fields : List FieldInfo) (item : Item) → Stays (given_field check env fields item) (given_field after grown fields item)
    field_stays fields item = by (out-Item item) refl
      where
        named : (place : ℕ) (name : Name) (value : Expr) (one : Option (ℕ × FieldInfo)) → out-Item item ≡ written.Item::Field place name value → field_named name.text 0 fields ≡ one → Stays (given_field check env fields item) (given_field after grown fields item)
        named place name value None is k = rw (is, k) (stays_anyway GivenField (check Nothing value) (after Nothing value) rule.Field (at env place) (well Nothing value))
        named place name value (Some field) is k =
            rw (is, k) (stays_bind (both field.1.field_type (check (wanted_of field.1.field_type) value)) (both field.1.field_type (after (wanted_of field.1.field_type) value)) _ _
            (stays_both field.1.field_type field.1.field_type (check (wanted_of field.1.field_type) value) (after (wanted_of field.1.field_type) value) (inr refl) (well (wanted_of field.1.field_type) value)) (λ parts. inr refl))

        by : (f : Item-F Expr Item Part Link) → out-Item item ≡ f → Stays (given_field check env fields item) (given_field after grown fields item)
        by (written.Item::Field place name value) is = named place name value (field_named name.text 0 fields) is refl
        by (written.Value value) is = rw is (stays_anyway GivenField (check Nothing value) (after Nothing value) rule.WrongType (expr_place env value) (well Nothing value))

    pub record_stays : (place : Place) (number : RecordNo) (items : List Item) → Stays (record_typed check env place number items) (record_typed after grown place number items)
    record_stays place number items =
        stays_bind (each (given_field check env (fields_of env.scripts number.0)) items) (each (given_field after grown (fields_of env.scripts number.0)) items) _ _
        (stays_each (given_field check env (fields_of env.scripts number.0)) (given_field after grown (fields_of env.scripts number.0)) (field_stays (fields_of env.scripts number.0)) items) (λ given. inr refl)

    -- Left sides -------------------------------------------------------------------------------------------------------

    pub rest_stays : (right : Expr) (before now : Checked Side) → Stays before now → Stays (rest_of check right before) (rest_of after right now)
    rest_stays right (Ok one) now (inl e) = absurd cc
    rest_stays right (Ok one) now (inr e) = subst (λ x. Stays {A = Side} (Ok one) (rest_of after right x)) e (inr refl)
    rest_stays right (Err rules) now (inl e) = inl (marked_front rules (rules_of (check Unclear right)) e)
    rest_stays right (Err rules) now (inr e) =
        subst (λ x. Stays {A = Side} (both {A = Side} (Err rules) (check Unclear right) >> elsewhere) (rest_of after right x)) e
        (stays_bind (both {A = Side} (Err rules) (check Unclear right)) (both {A = Side} (Err rules) (after Unclear right)) (λ x. elsewhere) (λ x. elsewhere)
        (stays_both {A = Side} (Err rules) (Err rules) (check Unclear right) (after Unclear right) (inr refl) (well Unclear right)) (λ x. inr refl))
