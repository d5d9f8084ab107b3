-- The typed form of an expression, and of what can be assigned.
use Rattle.std.specs.Prelude.{ℕ, zero, suc, Bool, true, false, not, ◌||◌, List, [], ◌∷◌, Option, Some, None, Ok, Err, if◌then◌else◌}
use Rattle.zk_tree.specs.declared.decl.Lasting.{Lasting}
use Rattle.zk_tree.specs.declared.decl.Lasting.TheVariants as lasting
use Rattle.zk_tree.specs.declared.expr.Expr.{Expr, out-Expr}
use Rattle.zk_tree.specs.declared.expr.Expr.TheOpen.{Expr-F, Part-F}
use Rattle.zk_tree.specs.declared.expr.Expr.TheOpen as written
use Rattle.zk_tree.specs.declared.expr.Item.{Item}
use Rattle.zk_tree.specs.declared.expr.Link.{Link}
use Rattle.zk_tree.specs.declared.expr.Part.{Part, out-Part}
use Rattle.zk_tree.specs.declared.name.Name.{Name}
use Rattle.zk_tree.specs.declared.operator.Assigning.{Assigning}
use Rattle.zk_tree.specs.declared.operator.Assigning.TheVariants as assigning
use Rattle.zk_tree.specs.declared.operator.Comparing.{Comparing}
use Rattle.zk_tree.specs.declared.operator.Comparing.TheVariants as comparing
use Rattle.zk_tree.specs.declared.operator.Level.{Level}
use Rattle.zk_tree.specs.declared.operator.Level.TheVariants as level
use Rattle.zk_tree.specs.declared.operator.Prefix.{Prefix}
use Rattle.zk_tree.specs.declared.operator.Prefix.TheVariants as prefix
use Rattle.zk_tree.specs.declared.place.Place.{Place}
use Rattle.zk_tree.specs.declared.types.Attr.{Attr}
use Rattle.zk_tree.specs.Value as plain
use Rattle.zk_typed.specs.declared.rule.Rule.TheVariants as rule
use Rattle.zk_typed.specs.declared.script.action.Left.{Left}
use Rattle.zk_typed.specs.declared.script.action.Left.TheVariants as left
use Rattle.zk_typed.specs.declared.script.primitive.Direction.{Direction}
use Rattle.zk_typed.specs.declared.script.primitive.Direction.TheVariants.{Up, Down}
use Rattle.zk_typed.specs.declared.script.primitive.Primitive.TheVariants as primitive
use Rattle.zk_typed.specs.declared.script.primitive.Relation.{Relation}
use Rattle.zk_typed.specs.declared.script.primitive.Unary.TheVariants as unary
use Rattle.zk_typed.specs.declared.script.types.SimpleType.TheVariants as simple
use Rattle.zk_typed.specs.Checked.{Checked, broken, broken_anyway, elsewhere, ◌>>=◌, ◌>>◌, both, require}
use Rattle.zk_typed.specs.Forms as form
use Rattle.zk_typed.specs.Making.{container_typed, brackets_typed, members_in, post_typed, called_name, hook_typed}
use Rattle.zk_typed.specs.Names.{Declared, Meant, Variable}
use Rattle.zk_typed.specs.Operations.{same_type, relation_of}
use Rattle.zk_typed.specs.Predefined as type
use Rattle.zk_typed.specs.Resolving.{has_attr}
use Rattle.zk_typed.specs.Types.{ValueType, Simple, Record, Set, Vector}
use Rattle.zk_typed.specs.Typing.{Typed, typed, Env, at, apply, expr_place, Wanted, Nothing, Wants, Unclear, Check, fit, constant, interval_of, literal_typed, name_typed, chained, related, beside, membership, left_of_in, found, local_meant, number_among, is_variable}
use Rattle.zk_typed.specs.Within.{depth_max}
use Rattle.std.specs.Prelude.{codes}

-- Left sides -------------------------------------------------------------------------------------------------------

-- what can be assigned: the left side with its operands, its type, and whether only its own declaration may give it a value,
-- or its entries expire
pub record Side : Type 0 where
  pub left : Left
  pub operands : form.Exprs
  pub type : ValueType
  pub fixed : Bool
  pub expires : Bool

abbrev pub side : Left → form.Exprs → ValueType → Side
side left operands type = record { left = left; operands = operands; type = type; fixed = false; expires = false }

abbrev pub is_fixed : Lasting → Bool
is_fixed lasting.Const = true
is_fixed lasting.Global = false

abbrev pub has_expiry : List Attr → Bool
has_expiry attrs = has_attr (codes "create_expire") attrs || has_attr (codes "read_expire") attrs || has_attr (codes "write_expire") attrs

abbrev pub declared_side : Env → Place → Option Declared → Checked Side
declared_side env place None = broken rule.Unknown place
declared_side env place (Some one) = of_meant one.meant
  where
    number : ℕ
    number = number_among is_variable env.scripts one

    of_meant : Meant → Checked Side
    of_meant (Variable home lasting tree init attrs) = env.global_type number >>= (λ type.
        Ok (record { left = left.Global number; operands = form.NoExpr; type = type; fixed = is_fixed lasting; expires = has_expiry attrs }))
    of_meant other = broken rule.WrongType place

abbrev pub name_side : Env → Name → Option (ℕ × Checked ValueType) → Checked Side
name_side env name (Some local) = local.1 >>= (λ type. Ok (side (left.Local local.0) form.NoExpr type))
name_side env name None = declared_side env (at env name.place) (found env name)

-- a field of what stands before it, or an element of a table or an item of a vector
abbrev pub element_side : Place → Typed → Checked Side
element_side place one = of_form one.expr
  where
    of_form : form.Expr → Checked Side
    of_form (form.Apply (primitive.Field field) operands) = Ok (side (left.Field field) operands one.type)
    of_form (form.Apply primitive.Element operands) = Ok (side left.Element operands one.type)
    of_form (form.Apply primitive.Item operands) = Ok (side left.Item operands one.type)
    of_form other = broken rule.WrongType place

-- whether an expression ends in a part that can be assigned
abbrev pub ends_in_element : List Part → Bool
ends_in_element [] = false
ends_in_element (part ∷ []) = of_part (out-Part part)
  where
    of_part : Part-F Expr Item Part Link → Bool
    of_part (written.Part::Field name) = true
    of_part (written.Index keys) = true
    of_part other = false
ends_in_element (part ∷ parts) = ends_in_element parts

abbrev pub left_side : Check → Env → Expr → Checked Side
left_side check env one = of_form (out-Expr one)
  where
    place : Place
    place = expr_place env one

    of_form : Expr-F Expr Item Part Link → Checked Side
    of_form (written.Name name) = name_side env name (local_meant name.text env.locals)
    of_form (written.Post first parts) =
        if ends_in_element parts then check Nothing one >>= element_side place else broken_anyway (check Nothing one) rule.WrongType place
    of_form other = broken_anyway (check Nothing one) rule.WrongType place

-- a side is given a value: no constant is, nor a global whose entries expire
abbrev pub assignable : Place → Side → Checked (Unit {0})
assignable place one = require (not one.fixed) rule.FixedGlobal place >> require (not one.expires) rule.Attribute place

-- Values that are assigned -----------------------------------------------------------------------------------------

-- what may be added to or taken from a value of a type
abbrev pub added_type : Assigning → ValueType → Option ValueType
added_type by (Simple simple.Count) = Some type.count
added_type by (Simple simple.Int) = Some type.int
added_type by (Simple simple.Interval) = Some type.interval
added_type assigning.Add (Simple simple.String) = Some type.string
added_type by (Set keys) = Some (Set keys)
added_type assigning.Add (Vector item) = Some item
added_type by other = None

-- a left side; where it is broken, what is given to it is judged by itself
abbrev pub rest_of : Check → Expr → Checked Side → Checked Side
rest_of check right (Ok side) = Ok side
rest_of check right (Err rules) = both {A = Side} (Err rules) (check Unclear right) >> elsewhere

-- what a left side takes by an assignment
abbrev pub assigned_type : Assigning → ValueType → Option ValueType
assigned_type assigning.Set type = Some type
assigned_type by type = added_type by type

abbrev pub option_wanted : Option ValueType → Wanted
option_wanted None = Nothing
option_wanted (Some type) = Wants type

-- the parts of an assignment that stands where a value should
abbrev pub assigned_parts : Check → Env → Assigning → Expr → Expr → Checked Typed
assigned_parts check env by left right = rest_of check right (left_side check env left) >>= (λ side. check (option_wanted (assigned_type by side.type)) right)

-- Operators before an operand --------------------------------------------------------------------------------------

abbrev pub stepped : Check → Env → Place → Direction → Expr → Checked Typed
stepped check env place by operand = left_side check env operand >>= (λ one.
    require (same_type one.type type.count || same_type one.type type.int) rule.WrongType (expr_place env operand) >>
    (assignable place one >> Ok (typed one.type (form.Apply (primitive.Step one.left by) one.operands))))

abbrev pub negated : Place → Typed → Checked Typed
negated place one = of_type one.type
  where
    negative : ValueType → Checked Typed
    negative type = Ok (typed type (apply (primitive.Unary unary.Negate) (one ∷ [])))

    of_type : ValueType → Checked Typed
    of_type (Simple simple.Count) = negative type.int
    of_type (Simple simple.Int) = negative type.int
    of_type (Simple simple.Interval) = negative type.interval
    of_type other = broken rule.WrongType place

abbrev pub unary_typed : Check → Env → Place → Prefix → Expr → Checked Typed
unary_typed check env place prefix.Not operand = check (Wants type.bool) operand >>= (λ one. Ok (typed type.bool (apply (primitive.Unary unary.Not) (one ∷ []))))
unary_typed check env place prefix.Negate operand = check Nothing operand >>= negated (expr_place env operand)
unary_typed check env place prefix.Increment operand = stepped check env place Up operand
unary_typed check env place prefix.Decrement operand = stepped check env place Down operand

-- Comparisons ------------------------------------------------------------------------------------------------------

abbrev pub compared : Check → Env → Comparing → Expr → Expr → Checked Typed
compared check env operator a b = by_relation operator (relation_of operator)
  where
    is_turned : Comparing → Bool
    is_turned comparing.NotIn = true
    is_turned other = false

    by_relation : Comparing → Option Relation → Checked Typed
    by_relation operator (Some relation) =
        both (check Nothing a) (check Nothing b) >>= (λ pair. related relation (expr_place env a) (expr_place env b) (beside pair.0 pair.1))
    by_relation operator None =
        both (left_of_in check env a) (check Nothing b) >>= (λ pair. membership (is_turned operator) (expr_place env a) (expr_place env b) pair.0 pair.1)

-- Choices ----------------------------------------------------------------------------------------------------------

-- the arms get the type that is wanted; where none is, the second has the type of the first
abbrev pub arms : Check → Env → Wanted → Expr → Expr → Checked (Typed × Typed)
arms check env (Wants wanted) a b = both (check (Wants wanted) a) (check (Wants wanted) b)
arms check env Unclear a b = both (check Unclear a) (check Unclear b)
arms check env Nothing a b = both (check Nothing a) (check Nothing b) >>= (λ pair.
    require (same_type pair.0.type pair.1.type) rule.WrongType (expr_place env b) >> Ok pair)

abbrev pub choice : Check → Env → Wanted → Expr → Expr → Expr → Checked Typed
choice check env wanted test a b = both (check (Wants type.bool) test) (arms check env wanted a b) >>= (λ parts.
    Ok (typed parts.1.0.type (form.Choice parts.0.expr parts.1.0.expr parts.1.1.expr)))

-- what the first operand of a chain has to be
abbrev pub wanted_first : Level → Wanted
wanted_first level.Or = Wants type.bool
wanted_first level.And = Wants type.bool
wanted_first level.Sum = Nothing
wanted_first level.Term = Nothing

abbrev pub size_typed : Place → Typed → Checked Typed
size_typed place one = require (has_size one.type) rule.WrongType place >> Ok (typed type.count (apply primitive.Size (one ∷ [])))
  where
    has_size : ValueType → Bool
    has_size (Simple simple.String) = true
    has_size (Simple simple.Int) = true
    has_size (Simple other) = false
    has_size (Record number) = false
    has_size container = true

-- Expressions ------------------------------------------------------------------------------------------------------

-- Parentheses and the arms of a choice hand the wanted type inward, and constructors take it; the value of any other form has
-- to fit it. An assignment has no value.
abbrev pub expr_to : ℕ → Env → Wanted → Expr → Checked Typed
expr_to zero env wanted one = broken rule.WrongType (expr_place env one)
expr_to (suc depth) env wanted one = of_form (expr_to depth env) (out-Expr one)
  where
    fitting : Checked Typed → Checked Typed
    fitting given = given >>= fit (expr_place env one) wanted

    of_form : Check → Expr-F Expr Item Part Link → Checked Typed
    of_form check (written.Assign a operator b) = broken_anyway (assigned_parts check env operator a b) rule.WrongType (expr_place env one)
    of_form check (written.Choice test a b) = choice check env wanted test a b
    of_form check (written.Chain level first links) = fitting (chained check env level (expr_place env first) (check (wanted_first level) first) links)
    of_form check (written.Compare a operator b) = fitting (compared check env operator a b)
    of_form check (written.Unary place operator operand) = fitting (unary_typed check env (at env place) operator operand)
    of_form check (written.Post first parts) = fitting (post_typed check env (expr_place env first) first parts (called_name first parts))
    of_form check (written.Number place number) = fitting (Ok (constant type.count (plain.Count number)))
    of_form check (written.Interval place number unit plural) = fitting (Ok (constant type.interval (interval_of number unit)))
    of_form check (written.Literal place literal) = fitting (Ok (literal_typed literal))
    of_form check (written.Truth place truth) = fitting (Ok (constant type.bool (plain.Bool truth)))
    of_form check (written.Name name) = fitting (name_typed env name)
    of_form check (written.Parenthesis place inner) = check wanted inner
    of_form check (written.Size place inner) = fitting (check Nothing inner >>= size_typed (expr_place env inner))
    of_form check (written.List place items) = brackets_typed check env (at env place) items wanted
    of_form check (written.Make place container items) = container_typed check env (at env place) container (members_in check env items) wanted
    of_form check (written.Hook place name items) = fitting (hook_typed check env (at env place) name items (found env name))

abbrev pub expr_typed : Env → Wanted → Expr → Checked Typed
expr_typed = expr_to depth_max
