-- Where no rule of an expression is told, each call in it that gives a log a stream says its record type: all forms.
use Rattle.std.proofs.Common.{◌≡◌, ◌≤◌, ℕ, zero, suc, Bool, true, false, List, [], ◌∷◌, ◌++◌, flat_map, Option, Some, None, refl, arith}
use Rattle.zk_tree.specs.declared.expr.Expr.{Expr, out-Expr}
use Rattle.zk_tree.specs.declared.expr.Expr.TheOpen.{Expr-F, Part-F}
use Rattle.zk_tree.specs.declared.expr.Expr.TheOpen as written
use Rattle.zk_tree.specs.declared.expr.Item.{Item}
use Rattle.zk_tree.specs.declared.expr.Link.{Link, out-Link}
use Rattle.zk_tree.specs.declared.expr.Part.{Part, out-Part}
use Rattle.zk_tree.specs.declared.name.Name.{Name}
use Rattle.zk_tree.specs.declared.operator.Comparing.{Comparing}
use Rattle.zk_tree.specs.declared.operator.Level.{Level}
use Rattle.zk_tree.specs.declared.operator.Prefix.{Prefix}
use Rattle.zk_tree.specs.declared.operator.Prefix.TheVariants as prefix
use Rattle.zk_tree.specs.declared.place.Place.{Place}
use Rattle.zk_typed.specs.declared.rule.Rule.TheVariants as rule
use Rattle.zk_typed.specs.declared.script.primitive.Binary.{Binary}
use Rattle.zk_typed.specs.declared.script.primitive.Relation.{Relation}
use Rattle.zk_typed.specs.Checked.{Checked, ◌>>=◌, both, each}
use Rattle.zk_typed.specs.Expressions.{ends_in_element, left_side, assigned_parts, unary_typed, compared, arms, choice, wanted_first, expr_to}
use Rattle.zk_typed.specs.LogCalls.{Call, named_call}
use Rattle.zk_typed.specs.Making.{argument, part_typed, parts_typed, value_of, called_name, call_of, post_typed, hook_typed}
use Rattle.zk_typed.specs.Operations.{binary_of, relation_of}
use Rattle.zk_typed.specs.Predefined as type
use Rattle.zk_typed.specs.Resolving.{type_named}
use Rattle.zk_typed.specs.Typing.{Typed, Env, at, Wanted, Nothing, Wants, Unclear, Check, fit, left_of_in, linked, chained, expr_place, found}
use Rattle.zk_sound.proofs.Growth.{all_append}
use Rattle.zk_sound.proofs.Quiet.{Quiet, CallRight, Right, FindsRight, calls, in_items, never_quiet, grouped, name_right, exprs_right, left_finds, items_find, container_right, brackets_right}
use Rattle.zk_sound.proofs.QuietCalls.{call_right, hook_right, create_right}
use Rattle.zk_sound.proofs.Told.{Tells, untold_both, untold_bind}

-- the calls in a part behind an expression
abbrev pub in_part : (Expr → List Call) → Part-F Expr Item Part Link → List Call
in_part more (written.Index keys) = flat_map more keys
in_part more (written.Call items) = in_items more items
in_part more other = []

abbrev pub in_parts : (Expr → List Call) → List Part → List Call
in_parts more parts = flat_map (λ part. in_part more (out-Part part)) parts

abbrev pub in_links : (Expr → List Call) → List Link → List Call
in_links more links = flat_map (λ link. more (out-Link link).operand) links

module _ (env : Env) (tells : (name : Name) → Tells (type_named env.scripts env.home name)) where
  module _ (check : Check) (most : ℕ) (well : FindsRight env most check) where
    -- Operators --------------------------------------------------------------------------------------------------------

    linked_right : (depth : ℕ) → depth ≤ most → (level : Level) (place : Place) (before : Checked Typed) (link : Link) → Quiet (linked check env level place before link) → Quiet before × Right env (calls env depth (out-Link link).operand)
    linked_right depth within level place before link e = by (binary_of (out-Link link).operator) refl
      where
        behind : Expr
        behind = (out-Link link).operand

        by : (operator : Option Binary) → binary_of (out-Link link).operator ≡ operator → Quiet before × Right env (calls env depth behind)
        by None is =
            let told : Quiet (both (before >>= fit place (Wants type.bool)) (check (Wants type.bool) behind) >>= _) = rw is at e in
            let parts = untold_both (before >>= fit place (Wants type.bool)) (check (Wants type.bool) behind) (untold_bind (both (before >>= fit place (Wants type.bool)) (check (Wants type.bool) behind)) _ told) in
            (untold_bind before (fit place (Wants type.bool)) parts.0, well depth within (Wants type.bool) behind parts.1)
        by (Some operator) is =
            let told : Quiet (both before (check Nothing behind) >>= _) = rw is at e in
            let parts = untold_both before (check Nothing behind) (untold_bind (both before (check Nothing behind)) _ told) in
            (parts.0, well depth within Nothing behind parts.1)

    chained_right : (depth : ℕ) → depth ≤ most → (level : Level) (place : Place) (links : List Link) (before : Checked Typed) → Quiet (chained check env level place before links) → Quiet before × Right env (in_links (calls env depth) links)
    chained_right depth within level place [] before e = (e, tt)
    chained_right depth within level place (link ∷ links) before e =
        let rest = chained_right depth within level place links (linked check env level place before link) e in
        let first = linked_right depth within level place before link rest.0 in
        (first.0, all_append (CallRight env.scripts) (calls env depth (out-Link link).operand) (in_links (calls env depth) links) first.1 rest.1)

    compared_right : (depth : ℕ) → depth ≤ most → (operator : Comparing) (a b : Expr) → Quiet (compared check env operator a b) → Right env (calls env depth a ++ calls env depth b)
    compared_right depth within operator a b e = by (relation_of operator) refl
      where
        by : (relation : Option Relation) → relation_of operator ≡ relation → Right env (calls env depth a ++ calls env depth b)
        by (Some relation) is =
            let told : Quiet (both (check Nothing a) (check Nothing b) >>= _) = rw is at e in
            let parts = untold_both (check Nothing a) (check Nothing b) (untold_bind (both (check Nothing a) (check Nothing b)) _ told) in
            all_append (CallRight env.scripts) (calls env depth a) (calls env depth b) (well depth within Nothing a parts.0) (well depth within Nothing b parts.1)
        by None is =
            let told : Quiet (both (left_of_in check env a) (check Nothing b) >>= _) = rw is at e in
            let parts = untold_both (left_of_in check env a) (check Nothing b) (untold_bind (both (left_of_in check env a) (check Nothing b)) _ told) in
            all_append (CallRight env.scripts) (calls env depth a) (calls env depth b) (left_finds env check most well depth within a parts.0) (well depth within Nothing b parts.1)

    arms_right : (depth : ℕ) → depth ≤ most → (wanted : Wanted) (a b : Expr) → Quiet (arms check env wanted a b) → Right env (calls env depth a ++ calls env depth b)
    arms_right depth within (Wants wanted) a b e = let parts = untold_both (check (Wants wanted) a) (check (Wants wanted) b) e in
        all_append (CallRight env.scripts) (calls env depth a) (calls env depth b) (well depth within (Wants wanted) a parts.0) (well depth within (Wants wanted) b parts.1)
    arms_right depth within Unclear a b e = let parts = untold_both (check Unclear a) (check Unclear b) e in
        all_append (CallRight env.scripts) (calls env depth a) (calls env depth b) (well depth within Unclear a parts.0) (well depth within Unclear b parts.1)
    arms_right depth within Nothing a b e = let parts = untold_both (check Nothing a) (check Nothing b) (untold_bind (both (check Nothing a) (check Nothing b)) _ e) in
        all_append (CallRight env.scripts) (calls env depth a) (calls env depth b) (well depth within Nothing a parts.0) (well depth within Nothing b parts.1)

    choice_right : (depth : ℕ) → depth ≤ most → (wanted : Wanted) (test a b : Expr) → Quiet (choice check env wanted test a b) → Right env (calls env depth test ++ calls env depth a ++ calls env depth b)
    choice_right depth within wanted test a b e =
        let parts = untold_both (check (Wants type.bool) test) (arms check env wanted a b) (untold_bind (both (check (Wants type.bool) test) (arms check env wanted a b)) _ e) in
        grouped env (calls env depth test) (calls env depth a) (calls env depth b) (all_append (CallRight env.scripts) (calls env depth test) (calls env depth a ++ calls env depth b) (well depth within (Wants type.bool) test parts.0) (arms_right depth within wanted a b parts.1))

    pub side_right : (depth : ℕ) → depth ≤ most → (one : Expr) → Quiet (left_side check env one) → Right env (calls env depth one)
    side_right depth within one e = by (out-Expr one) refl
      where
        by : (f : Expr-F Expr Item Part Link) → out-Expr one ≡ f → Right env (calls env depth one)
        by (written.Name name) is = name_right env depth one name is
        by (written.Post first parts) is = ending (ends_in_element parts) refl
          where
            ending : (ends : Bool) → ends_in_element parts ≡ ends → Right env (calls env depth one)
            ending true k = well depth within Nothing one (untold_bind (check Nothing one) _ (rw (is, k) at e))
            ending false k = absurd (never_quiet _ (check Nothing one) rule.WrongType (expr_place env one) (rw (is, k) at e))
        by f is = absurd (never_quiet _ (check Nothing one) rule.WrongType (expr_place env one) (rw is at e))

    unary_right : (depth : ℕ) → depth ≤ most → (place : Place) (operator : Prefix) (operand : Expr) → Quiet (unary_typed check env place operator operand) → Right env (calls env depth operand)
    unary_right depth within place prefix.Not operand e = well depth within (Wants type.bool) operand (untold_bind (check (Wants type.bool) operand) _ e)
    unary_right depth within place prefix.Negate operand e = well depth within Nothing operand (untold_bind (check Nothing operand) _ e)
    unary_right depth within place prefix.Increment operand e = side_right depth within operand (untold_bind (left_side check env operand) _ e)
    unary_right depth within place prefix.Decrement operand e = side_right depth within operand (untold_bind (left_side check env operand) _ e)

    -- Parts behind an expression ---------------------------------------------------------------------------------------

    part_right : (depth : ℕ) → depth ≤ most → (place : Place) (before : Checked Typed) (part : Part) → Quiet (part_typed check env place before part) → Quiet before × Right env (in_part (calls env depth) (out-Part part))
    part_right depth within place before part e = by (out-Part part) refl
      where
        by : (f : Part-F Expr Item Part Link) → out-Part part ≡ f → Quiet before × Right env (in_part (calls env depth) (out-Part part))
        by (written.Part::Field name) is = (untold_bind before _ (rw is at e), rw is tt)
        by (written.HasField name) is = (untold_bind before _ (rw is at e), rw is tt)
        by (written.Index keys) is =
            let told : Quiet (both before (each (check Nothing) keys) >>= _) = rw is at e in
            let parts = untold_both before (each (check Nothing) keys) (untold_bind (both before (each (check Nothing) keys)) _ told) in
            (parts.0, rw is (exprs_right env (check Nothing) (calls env depth) (λ one. well depth within Nothing one) keys parts.1))
        by (written.Call items) is = absurd (never_quiet _ (both before (each (argument check env Nothing) items)) rule.WrongType place (rw is at e))

    parts_right : (depth : ℕ) → depth ≤ most → (place : Place) (parts : List Part) (before : Checked Typed) → Quiet (parts_typed check env place before parts) → Quiet before × Right env (in_parts (calls env depth) parts)
    parts_right depth within place [] before e = (e, tt)
    parts_right depth within place (part ∷ parts) before e =
        let rest = parts_right depth within place parts (part_typed check env place before part) e in
        let first = part_right depth within place before part rest.0 in
        (first.0, all_append (CallRight env.scripts) (in_part (calls env depth) (out-Part part)) (in_parts (calls env depth) parts) first.1 rest.1)

    -- an expression with parts: the call of a name that they begin with, what stands before them, and theirs
    pub post_right : (depth : ℕ) → depth ≤ most → (whole : Expr) (place : Place) (first : Expr) (parts : List Part) → Quiet (post_typed check env place first parts (called_name first parts))
        → Right env (named_call env.home whole first parts ++ (calls env depth first ++ in_parts (calls env depth) parts))
    post_right depth within whole place first [] e = all_append (CallRight env.scripts) (calls env depth first) [] (well depth within Nothing first e) tt
    post_right depth within whole place first (part ∷ parts) e = by (out-Expr first) (out-Part part) refl refl
      where
        plain : Quiet (parts_typed check env place (check Nothing first) (part ∷ parts)) → Right env (calls env depth first ++ in_parts (calls env depth) (part ∷ parts))
        plain e = let told = parts_right depth within place (part ∷ parts) (check Nothing first) e in
            all_append (CallRight env.scripts) (calls env depth first) (in_parts (calls env depth) (part ∷ parts)) (well depth within Nothing first told.0) told.1

        named : (name : Name) (items : List Item) → out-Expr first ≡ written.Name name → out-Part part ≡ written.Call items → Quiet (parts_typed check env place (call_of check env name items >>= value_of place) parts)
            → Right env (named_call env.home whole first (part ∷ parts) ++ (calls env depth first ++ in_parts (calls env depth) (part ∷ parts)))
        named name items is of e =
            let told = parts_right depth within place parts (call_of check env name items >>= value_of place) e in
            let quiet = untold_bind (call_of check env name items) (value_of place) told.0 in
            rw (is, of) (
              create_right env tells check most well whole name items quiet,
              all_append (CallRight env.scripts) (calls env depth first) (in_items (calls env depth) items ++ in_parts (calls env depth) parts) (name_right env depth first name is)
                  (all_append (CallRight env.scripts) (in_items (calls env depth) items) (in_parts (calls env depth) parts) (call_right env tells check most well depth within name items quiet) told.1),
            )

        by : (f : Expr-F Expr Item Part Link) (g : Part-F Expr Item Part Link) → out-Expr first ≡ f → out-Part part ≡ g
            → Right env (named_call env.home whole first (part ∷ parts) ++ (calls env depth first ++ in_parts (calls env depth) (part ∷ parts)))
        by (written.Name name) (written.Call items) is of = named name items is of (rw (is, of) at e)
        by (written.Name name) g is of =
            let none : named_call env.home whole first (part ∷ parts) ≡ [] = rw (is, of) refl in
            let none_called : called_name first (part ∷ parts) ≡ None = rw (is, of) refl in
            rw none (plain (rw none_called at e))
        by f g is of =
            let none : named_call env.home whole first (part ∷ parts) ≡ [] = rw is refl in
            let none_called : called_name first (part ∷ parts) ≡ None = rw is refl in
            rw none (plain (rw none_called at e))

    -- Forms ------------------------------------------------------------------------------------------------------------

    items_of_make : (depth : ℕ) → depth ≤ most → (place : Place) (made : _) (items : List Item) (wanted : Wanted) → Quiet (Rattle.zk_typed.specs.Making.container_typed check env place made (Rattle.zk_typed.specs.Making.members_in check env items) wanted) → Right env (in_items (calls env depth) items)
    items_of_make depth within place made items wanted e =
        container_right env check most well depth within place (Rattle.zk_typed.specs.Making.members_in check env items) (in_items (calls env depth) items) (items_find env check most well depth items) made wanted e

  -- an expression of which nothing is told
  form_right : (most judged : ℕ) → FindsRight env most (expr_to judged env) → (wanted : Wanted) (one : Expr) → Quiet (expr_to (suc judged) env wanted one) → Right env (calls env (suc most) one)
  form_right most judged well wanted one e = by (out-Expr one) refl
    where
      check : Check
      check = expr_to judged env

      whole : most ≤ most
      whole = omega arith

      fitted : (m : Checked Typed) → Quiet (m >>= fit (expr_place env one) wanted) → Quiet m
      fitted m e = untold_bind m (fit (expr_place env one) wanted) e

      by : (f : Expr-F Expr Item Part Link) → out-Expr one ≡ f → Right env (calls env (suc most) one)
      by (written.Assign a operator b) is = absurd (never_quiet _ (assigned_parts check env operator a b) rule.WrongType (expr_place env one) (rw is at e))
      by (written.Choice test a b) is = rw is (choice_right check most well most whole wanted test a b (rw is at e))
      by (written.Chain level first links) is =
          let told = chained_right check most well most whole level (expr_place env first) links (check (wanted_first level) first) (fitted (chained check env level (expr_place env first) (check (wanted_first level) first) links) (rw is at e)) in
          rw is (all_append (CallRight env.scripts) (calls env most first) (in_links (calls env most) links) (well most whole (wanted_first level) first told.0) told.1)
      by (written.Compare a operator b) is = rw is (compared_right check most well most whole operator a b (fitted (compared check env operator a b) (rw is at e)))
      by (written.Unary place operator operand) is = rw is (unary_right check most well most whole (at env place) operator operand (fitted (unary_typed check env (at env place) operator operand) (rw is at e)))
      by (written.Post first parts) is = rw is (grouped env (named_call env.home one first parts) (calls env most first) (in_parts (calls env most) parts) (post_right check most well most whole one (expr_place env first) first parts (fitted (post_typed check env (expr_place env first) first parts (called_name first parts)) (rw is at e))))
      by (written.Parenthesis place inner) is = rw is (well most whole wanted inner (rw is at e))
      by (written.Size place inner) is = rw is (well most whole Nothing inner (untold_bind (check Nothing inner) _ (fitted (check Nothing inner >>= _) (rw is at e))))
      by (written.List place items) is = rw is (brackets_right env check most well most whole (at env place) items wanted (rw is at e))
      by (written.Make place made items) is = rw is (items_of_make check most well most whole (at env place) made items wanted (rw is at e))
      by (written.Hook place name items) is = rw is (hook_right env tells check most well most whole (at env place) name items (fitted (hook_typed check env (at env place) name items (found env name)) (rw is at e)))
      by f is = rw is tt

  -- however deep it is looked into
  pub finds : (most judged : ℕ) → most ≤ judged → FindsRight env most (expr_to judged env)
  finds most judged within zero less wanted one e = tt
  finds zero judged within (suc depth) less wanted one e = absurd (omega (arith, less))
  finds (suc most) zero within (suc depth) less wanted one e = absurd (omega (arith, within))
  finds (suc most) (suc judged) within (suc depth) less wanted one e =
      form_right depth judged (λ under below. finds most judged (omega (arith, within)) under (omega (arith, less, below))) wanted one e
