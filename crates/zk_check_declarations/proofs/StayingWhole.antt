-- What is told of an initial value stays told where more is known of the types of globals: only what rests on a circle may change.
use Rattle.std.proofs.Common.{◌≡◌, ℕ, zero, suc, List, Option, Some, None, inr, refl}
use Rattle.std.specs.Prelude.{Bool, true, false}
use Rattle.zk_tree.specs.declared.expr.Expr.{Expr, out-Expr}
use Rattle.zk_tree.specs.declared.expr.Expr.TheOpen.{Expr-F}
use Rattle.zk_tree.specs.declared.expr.Expr.TheOpen as written
use Rattle.zk_tree.specs.declared.expr.Item.{Item}
use Rattle.zk_tree.specs.declared.expr.Link.{Link}
use Rattle.zk_tree.specs.declared.expr.Part.{Part}
use Rattle.zk_tree.specs.declared.name.Name.{Name}
use Rattle.zk_tree.specs.declared.operator.Assigning.{Assigning}
use Rattle.zk_tree.specs.declared.operator.Comparing.{Comparing}
use Rattle.zk_tree.specs.declared.operator.Prefix.{Prefix}
use Rattle.zk_tree.specs.declared.operator.Prefix.TheVariants as prefix
use Rattle.zk_tree.specs.declared.place.Place.{Place}
use Rattle.zk_typed.specs.declared.rule.Rule.TheVariants as rule
use Rattle.zk_typed.specs.declared.script.primitive.Relation.{Relation}
use Rattle.zk_typed.specs.Checked.{Checked, ◌>>=◌, both}
use Rattle.zk_typed.specs.Expressions.{Side, declared_side, name_side, element_side, ends_in_element, left_side, rest_of, assigned_type, option_wanted, assigned_parts, unary_typed, compared, arms, choice, wanted_first, size_typed, expr_to}
use Rattle.zk_typed.specs.Making.{called_name, post_typed, hook_typed}
use Rattle.zk_typed.specs.Names.{Declared, Meant, Variable}
use Rattle.zk_typed.specs.Operations.{relation_of}
use Rattle.zk_typed.specs.Predefined as type
use Rattle.zk_typed.specs.Types.{ValueType}
use Rattle.zk_typed.specs.Typing.{Typed, Env, at, expr_place, Wanted, Nothing, Wants, Check, fit, chained, local_meant, found, name_typed, left_of_in}
use Rattle.zk_check_declarations.specs.Staying.{Stays}
use Rattle.zk_check_declarations.proofs.Staying.{later, stays_bind, stays_both, stays_anyway}
use Rattle.zk_check_declarations.proofs.StayingForms.{name_stays, left_stays, chained_stays, arms_stay, rest_stays}
use Rattle.zk_check_declarations.proofs.StayingMembers.{container_stays, brackets_stay}
use Rattle.zk_check_declarations.proofs.StayingCalls.{post_stays, hook_stays}

module _ (env : Env) (known : ℕ → Checked ValueType) (more : (number : ℕ) → Stays (env.global_type number) (known number)) where
  abbrev grown : Env
  grown = later env known

  side_stays : (place : Place) (one : Option Declared) → Stays (declared_side env place one) (declared_side grown place one)
  side_stays place None = inr refl
  side_stays place (Some one) = by one.meant refl
    where
      by : (meant : Meant) → one.meant ≡ meant → Stays (declared_side env place (Some one)) (declared_side grown place (Some one))
      by (Variable home lasting tree init attrs) is = rw is (stays_bind (env.global_type _) (known _) _ _ (more _) (λ told. inr refl))
      by other is = rw is (inr refl)

  named_stays : (name : Name) (local : Option (ℕ × Checked ValueType)) → Stays (name_side env name local) (name_side grown name local)
  named_stays name (Some local) = inr refl
  named_stays name None = side_stays (at env name.place) (found env name)

  module _ (check after : Check) (well : (wanted : Wanted) (one : Expr) → Stays (check wanted one) (after wanted one)) where
    left_side_stays : (one : Expr) → Stays (left_side check env one) (left_side after grown one)
    left_side_stays one = by (out-Expr one) refl
      where
        ended : (first : Expr) (parts : List Part) (ends : Bool) → out-Expr one ≡ written.Post first parts → ends_in_element parts ≡ ends → Stays (left_side check env one) (left_side after grown one)
        ended first parts true is of = rw (is, of) (stays_bind (check Nothing one) (after Nothing one) (element_side (expr_place env one)) (element_side (expr_place env one)) (well Nothing one) (λ made. inr refl))
        ended first parts false is of = rw (is, of) (stays_anyway Side (check Nothing one) (after Nothing one) rule.WrongType (expr_place env one) (well Nothing one))

        by : (f : Expr-F Expr Item Part Link) → out-Expr one ≡ f → Stays (left_side check env one) (left_side after grown one)
        by (written.Name name) is = rw is (named_stays name (local_meant name.text env.locals))
        by (written.Post first parts) is = ended first parts (ends_in_element parts) is refl
        by other is = rw is (stays_anyway Side (check Nothing one) (after Nothing one) rule.WrongType (expr_place env one) (well Nothing one))

    assigned_stays : (by : Assigning) (left right : Expr) → Stays (assigned_parts check env by left right) (assigned_parts after grown by left right)
    assigned_stays by left right =
        stays_bind (rest_of check right (left_side check env left)) (rest_of after right (left_side after grown left)) (λ side. check (option_wanted (assigned_type by side.type)) right) (λ side. after (option_wanted (assigned_type by side.type)) right)
        (rest_stays env known more check after well right (left_side check env left) (left_side after grown left) (left_side_stays left)) (λ side. well (option_wanted (assigned_type by side.type)) right)

    unary_stays : (place : Place) (operator : Prefix) (operand : Expr) → Stays (unary_typed check env place operator operand) (unary_typed after grown place operator operand)
    unary_stays place prefix.Not operand = stays_bind (check (Wants type.bool) operand) (after (Wants type.bool) operand) _ _ (well (Wants type.bool) operand) (λ one. inr refl)
    unary_stays place prefix.Negate operand = stays_bind (check Nothing operand) (after Nothing operand) _ _ (well Nothing operand) (λ one. inr refl)
    unary_stays place prefix.Increment operand = stays_bind (left_side check env operand) (left_side after grown operand) _ _ (left_side_stays operand) (λ one. inr refl)
    unary_stays place prefix.Decrement operand = stays_bind (left_side check env operand) (left_side after grown operand) _ _ (left_side_stays operand) (λ one. inr refl)

    compared_stays : (operator : Comparing) (a b : Expr) → Stays (compared check env operator a b) (compared after grown operator a b)
    compared_stays operator a b = by (relation_of operator) refl
      where
        by : (relation : Option Relation) → relation_of operator ≡ relation → Stays (compared check env operator a b) (compared after grown operator a b)
        by (Some relation) is = rw is (stays_bind (both (check Nothing a) (check Nothing b)) (both (after Nothing a) (after Nothing b)) _ _
            (stays_both (check Nothing a) (after Nothing a) (check Nothing b) (after Nothing b) (well Nothing a) (well Nothing b)) (λ pair. inr refl))
        by None is = rw is (stays_bind (both (left_of_in check env a) (check Nothing b)) (both (left_of_in after grown a) (after Nothing b)) _ _
            (stays_both (left_of_in check env a) (left_of_in after grown a) (check Nothing b) (after Nothing b) (left_stays env known more check after well a) (well Nothing b)) (λ pair. inr refl))

    choice_stays : (wanted : Wanted) (test a b : Expr) → Stays (choice check env wanted test a b) (choice after grown wanted test a b)
    choice_stays wanted test a b =
        stays_bind (both (check (Wants type.bool) test) (arms check env wanted a b)) (both (after (Wants type.bool) test) (arms after grown wanted a b)) _ _
        (stays_both (check (Wants type.bool) test) (after (Wants type.bool) test) (arms check env wanted a b) (arms after grown wanted a b) (well (Wants type.bool) test) (arms_stay env known more check after well wanted a b)) (λ parts. inr refl)

    fitting_stays : (place : Place) (wanted : Wanted) (given now : Checked Typed) → Stays given now → Stays (given >>= fit place wanted) (now >>= fit place wanted)
    fitting_stays place wanted given now h = stays_bind given now (fit place wanted) (fit place wanted) h (λ made. inr refl)

  -- what is told of an expression
  pub expr_stays : (depth : ℕ) (wanted : Wanted) (one : Expr) → Stays (expr_to depth env wanted one) (expr_to depth grown wanted one)
  expr_stays zero wanted one = inr refl
  expr_stays (suc depth) wanted one = by (expr_stays depth) (out-Expr one) refl
    where
      by : ((wanted : Wanted) (one : Expr) → Stays (expr_to depth env wanted one) (expr_to depth grown wanted one)) → (f : Expr-F Expr Item Part Link) → out-Expr one ≡ f → Stays (expr_to (suc depth) env wanted one) (expr_to (suc depth) grown wanted one)
      by well (written.Assign a operator b) is = rw is (stays_anyway Typed (assigned_parts (expr_to depth env) env operator a b) (assigned_parts (expr_to depth grown) grown operator a b) rule.WrongType (expr_place env one)
          (assigned_stays (expr_to depth env) (expr_to depth grown) well operator a b))
      by well (written.Choice test a b) is = rw is (choice_stays (expr_to depth env) (expr_to depth grown) well wanted test a b)
      by well (written.Chain level first links) is = rw is (stays_bind (chained (expr_to depth env) env level (expr_place env first) (expr_to depth env (wanted_first level) first) links)
          (chained (expr_to depth grown) grown level (expr_place env first) (expr_to depth grown (wanted_first level) first) links) _ _
          (chained_stays env known more (expr_to depth env) (expr_to depth grown) well level (expr_place env first) links (expr_to depth env (wanted_first level) first) (expr_to depth grown (wanted_first level) first) (well (wanted_first level) first)) (λ made. inr refl))
      by well (written.Compare a operator b) is = rw is (stays_bind (compared (expr_to depth env) env operator a b) (compared (expr_to depth grown) grown operator a b) _ _ (compared_stays (expr_to depth env) (expr_to depth grown) well operator a b) (λ made. inr refl))
      by well (written.Unary place operator operand) is = rw is (stays_bind (unary_typed (expr_to depth env) env (at env place) operator operand) (unary_typed (expr_to depth grown) grown (at env place) operator operand) _ _
          (unary_stays (expr_to depth env) (expr_to depth grown) well (at env place) operator operand) (λ made. inr refl))
      by well (written.Post first parts) is = rw is (stays_bind (post_typed (expr_to depth env) env (expr_place env first) first parts (called_name first parts)) (post_typed (expr_to depth grown) grown (expr_place env first) first parts (called_name first parts)) _ _
          (post_stays env known more (expr_to depth env) (expr_to depth grown) well (expr_place env first) first parts (called_name first parts)) (λ made. inr refl))
      by well (written.Name name) is = rw is (stays_bind (name_typed env name) (name_typed grown name) _ _ (name_stays env known more name) (λ made. inr refl))
      by well (written.Parenthesis place inner) is = rw is (well wanted inner)
      by well (written.Size place inner) is = rw is (stays_bind (expr_to depth env Nothing inner >>= size_typed (expr_place env inner)) (expr_to depth grown Nothing inner >>= size_typed (expr_place env inner)) _ _ (stays_bind (expr_to depth env Nothing inner) (expr_to depth grown Nothing inner) _ _ (well Nothing inner) (λ one. inr refl)) (λ made. inr refl))
      by well (written.List place items) is = rw is (brackets_stay env known more (expr_to depth env) (expr_to depth grown) well (at env place) items wanted)
      by well (written.Make place made items) is = rw is (container_stays env known more (expr_to depth env) (expr_to depth grown) well (at env place) made items wanted)
      by well (written.Hook place name items) is = rw is (stays_bind (hook_typed (expr_to depth env) env (at env place) name items (found env name)) (hook_typed (expr_to depth grown) grown (at env place) name items (found env name)) _ _
          (hook_stays env known more (expr_to depth env) (expr_to depth grown) well (at env place) name items (found env name)) (λ made. inr refl))
      by well other is = rw is (inr refl)
