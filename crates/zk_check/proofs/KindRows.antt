-- A script for each kind of broken rule, computed by the checker (zk_typed has others).
use Rattle.std.proofs.Common.{◌≡◌, ℕ, ◌+◌, List, [], ◌∷◌, ◌++◌, codes, refl, Some, None}
use Rattle.zk_tree.specs.declared.decl.BodyKind.TheVariants as body
use Rattle.zk_tree.specs.declared.decl.Decl.{Decl}
use Rattle.zk_tree.specs.declared.decl.Decl.TheVariants as decl
use Rattle.zk_tree.specs.declared.decl.Lasting.TheVariants as lasting
use Rattle.zk_tree.specs.declared.expr.Expr.{Expr}
use Rattle.zk_tree.specs.declared.expr.Expr.TheVariants as expr
use Rattle.zk_tree.specs.declared.expr.Item.{Item}
use Rattle.zk_tree.specs.declared.expr.Item.TheVariants as item
use Rattle.zk_tree.specs.declared.expr.Link.{roll-Link}
use Rattle.zk_tree.specs.declared.expr.Literal.TheVariants as literal
use Rattle.zk_tree.specs.declared.expr.Part.TheVariants as part
use Rattle.zk_tree.specs.declared.name.Name.{Name}
use Rattle.zk_tree.specs.declared.operator.Assigning.TheVariants as assigning
use Rattle.zk_tree.specs.declared.operator.Container.TheVariants as container
use Rattle.zk_tree.specs.declared.operator.Level.TheVariants as level
use Rattle.zk_tree.specs.declared.operator.Operator.TheVariants as operator
use Rattle.zk_tree.specs.declared.stmt.Block.{roll-Block}
use Rattle.zk_tree.specs.declared.stmt.Init.TheVariants as init
use Rattle.zk_tree.specs.declared.stmt.Stmt.{Stmt}
use Rattle.zk_tree.specs.declared.stmt.Stmt.TheVariants as stmt
use Rattle.zk_tree.specs.declared.types.Atomic.TheVariants as atomic
use Rattle.zk_tree.specs.declared.types.Attr.{Attr}
use Rattle.zk_tree.specs.declared.types.Field.{Field, roll-Field}
use Rattle.zk_tree.specs.declared.types.Param.{roll-Param}
use Rattle.zk_tree.specs.declared.types.Type.{«Type»}
use Rattle.zk_tree.specs.declared.types.Type.TheVariants as written
use Rattle.zk_tree.specs.Opening.{trees}
use Rattle.zk_typed.specs.declared.rule.Rule.{Rule}
use Rattle.zk_typed.specs.declared.rule.Rule.TheVariants as rule
use Rattle.zk_typed.specs.declared.refusal.Broken.{Broken}
use Rattle.zk_typed.specs.Within.{depth_max}
use Rattle.zk_typed.specs.Errors.{errors}
use Rattle.zk_typed.specs.LoadOrder.{File}

at : ℕ → List ℕ → Name
at place text = record { place = place; text = text }

script : List Decl → List File
script decls = record { name = codes "s.zeek"; decls = decls } ∷ []

tells : Rule → ℕ → List Broken
tells rule byte = record { rule = rule; place = record { file = 0; byte = byte } } ∷ []

-- event zeek_init() { STATEMENTS }, which begins at a place
begins : ℕ → List Stmt → Decl
begins place list = decl.Body place body.Event (at (place + 6) (codes "zeek_init")) [] [] (roll-Block (record { place = place + 18; stmts = list }))

call : ℕ → List ℕ → List Item → Expr
call place text items = expr.Post (expr.Name (at place text)) (part.Call items ∷ [])

local_of : ℕ → ℕ → Stmt
local_of place number = stmt.Local place (at (place + 6) (codes "a")) None (Some (init.Value (expr.Number (place + 10) number)))

text_at : ℕ → List ℕ → Expr
text_at place bytes = expr.Literal place (literal.String bytes)

field_of : ℕ → List ℕ → «Type» → List Attr → Field
field_of place text type attrs = roll-Field (record { name = at place text; field_type = type; attrs = attrs })

-- type R: record { FIELD };
record_type : Field → Decl
record_type field = decl.Type 0 (at 5 (codes "R")) (written.Record 8 (field ∷ []))

-- event zeek_init() { print nosuch(1); }
a_function_that_there_is_not : errors (script (begins 0 (stmt.Print 20 (call 26 (codes "nosuch") (item.Value (expr.Number 33 1) ∷ []) ∷ []) ∷ []) ∷ [])) ≡ tells rule.Unknown 26
unfolding script begins call tells at trees depth_max
a_function_that_there_is_not = refl

-- event zeek_init() { local a = 1; local a = 2; }
a_local_that_is_declared_twice : errors (script (begins 0 (local_of 20 1 ∷ local_of 33 2 ∷ []) ∷ [])) ≡ tells rule.Twice 33
unfolding script begins local_of tells at trees depth_max
a_local_that_is_declared_twice = refl

-- event zeek_init() { print 1 + "a"; }
a_string_beside_a_count :
    errors (script (begins 0 (stmt.Print 20 (expr.Chain level.Sum (expr.Number 26 1) (roll-Link (record { operator = operator.Plus; operand = text_at 30 (codes "a") }) ∷ []) ∷ []) ∷ []) ∷ [])) ≡ tells rule.WrongType 30
unfolding script begins text_at tells at trees depth_max
a_string_beside_a_count = refl

-- event connection_state_remove(c: connection) { print c$nosuch; }
a_field_that_there_is_not :
    errors (script (decl.Body 0 body.Event (at 6 (codes "connection_state_remove")) (roll-Param (record { name = at 30 (codes "c"); param_type = written.Named (at 33 (codes "connection")) }) ∷ []) []
    (roll-Block (record { place = 45; stmts = stmt.Print 47 (expr.Post (expr.Name (at 53 (codes "c"))) (part.Field (at 55 (codes "nosuch")) ∷ []) ∷ []) ∷ [] })) ∷ [])) ≡ tells rule.Field 53
unfolding script tells at trees depth_max
a_field_that_there_is_not = refl

-- type A: record { b: B; }; type B: vector of A;
types_that_reach_each_other :
    errors (script (decl.Type 0 (at 5 (codes "A")) (written.Record 8 (field_of 17 (codes "b") (written.Named (at 20 (codes "B"))) [] ∷ [])) ∷ decl.Type 26 (at 31 (codes "B")) (written.Vector 34 (written.Named (at 44 (codes "A")))) ∷ []))
    ≡ tells rule.Recursive 20 ++ tells rule.Recursive 44
unfolding script field_of tells at trees depth_max
types_that_reach_each_other = refl

-- type R: record { s: set[count] &default=set(1); };
a_default_that_is_computed :
    errors (script (record_type (field_of 17 (codes "s") (written.Set 20 (written.Atomic 24 atomic.Count ∷ [])) (record { place = 31; name = codes "default"; value = Some (expr.Make 40 container.Set (item.Value (expr.Number 44 1) ∷ [])) } ∷ [])) ∷ [])) ≡ tells rule.NotConst 40
unfolding script record_type field_of tells at trees depth_max
a_default_that_is_computed = refl

-- const b = 2; event zeek_init() { b = 1; }
an_assignment_to_a_constant :
    errors (script (decl.Variable 0 lasting.Const (at 6 (codes "b")) None (Some (init.Value (expr.Number 10 2))) [] ∷ begins 13 (stmt.Expr (expr.Assign (expr.Name (at 33 (codes "b"))) assigning.Set (expr.Number 37 1)) ∷ []) ∷ [])) ≡ tells rule.FixedGlobal 33
unfolding script begins tells at trees depth_max
an_assignment_to_a_constant = refl

-- function f(a: count) { } event zeek_init() { f(); }
a_call_without_its_argument :
    errors (script (decl.Function 0 (at 9 (codes "f")) (roll-Param (record { name = at 11 (codes "a"); param_type = written.Atomic 14 atomic.Count }) ∷ []) None (roll-Block (record { place = 21; stmts = [] })) ∷ begins 25 (stmt.Expr (call 45 (codes "f") []) ∷ []) ∷ [])) ≡ tells rule.Arguments 45
unfolding script begins call tells at trees depth_max
a_call_without_its_argument = refl

-- function f(): count { return; }
a_value_that_is_wanted :
    errors (script (decl.Function 0 (at 9 (codes "f")) [] (Some (written.Atomic 14 atomic.Count)) (roll-Block (record { place = 20; stmts = stmt.Return 22 None ∷ [] })) ∷ [])) ≡ tells rule.Return 22
unfolding script tells at trees depth_max
a_value_that_is_wanted = refl

-- event zeek_init() { next; }
a_next_outside_a_loop : errors (script (begins 0 (stmt.Next 20 ∷ []) ∷ [])) ≡ tells rule.Break 20
unfolding script begins tells at trees depth_max
a_next_outside_a_loop = refl

-- type R: record { a: addr &wire; };
a_wire_that_is_no_count : errors (script (record_type (field_of 17 (codes "a") (written.Atomic 20 atomic.Addr) (record { place = 25; name = codes "wire"; value = None } ∷ [])) ∷ [])) ≡ tells rule.Attribute 25
unfolding script record_type field_of tells at trees depth_max
a_wire_that_is_no_count = refl

-- event zeek_init() { print fmt("%s %s", 1); }
a_verb_without_its_argument : errors (script (begins 0 (stmt.Print 20 (call 26 (codes "fmt") (item.Value (text_at 30 (codes "%s %s")) ∷ item.Value (expr.Number 39 1) ∷ []) ∷ []) ∷ []) ∷ [])) ≡ tells rule.Format 26
unfolding script begins call text_at tells at trees depth_max
a_verb_without_its_argument = refl
