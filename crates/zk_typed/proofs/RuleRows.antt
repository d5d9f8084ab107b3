-- What the rules of names and types give for small scripts, computed by the checker.
use Rattle.std.proofs.Common.{◌≡◌, ℕ, ◌+◌, List, [], ◌∷◌, ◌++◌, codes, pos, refl, Option, Some, None, Ok, true, false, map}
use Rattle.zk_tree.specs.declared.decl.BodyKind.TheVariants as body
use Rattle.zk_tree.specs.declared.decl.Decl.{Decl}
use Rattle.zk_tree.specs.declared.decl.Decl.TheVariants as decl
use Rattle.zk_tree.specs.declared.decl.Lasting.TheVariants as lasting
use Rattle.zk_tree.specs.declared.decl.Redefining.TheVariants as redefining
use Rattle.zk_tree.specs.declared.expr.Expr.{Expr}
use Rattle.zk_tree.specs.declared.expr.Expr.TheVariants as expr
use Rattle.zk_tree.specs.declared.expr.Literal.TheVariants as literal
use Rattle.zk_tree.specs.declared.expr.Part.TheVariants as part
use Rattle.zk_tree.specs.declared.stmt.Block.{roll-Block}
use Rattle.zk_tree.specs.declared.stmt.Init.{Init}
use Rattle.zk_tree.specs.declared.stmt.Init.TheVariants as init
use Rattle.zk_tree.specs.declared.stmt.Stmt.{Stmt}
use Rattle.zk_tree.specs.declared.stmt.Stmt.TheVariants as stmt
use Rattle.zk_tree.specs.declared.types.Atomic.TheVariants as atomic
use Rattle.zk_tree.specs.declared.types.Param.{Param, roll-Param}
use Rattle.zk_tree.specs.declared.types.Type.{«Type»}
use Rattle.zk_tree.specs.declared.types.Type.TheVariants as written
use Rattle.zk_tree.specs.Opening.{trees}
use Rattle.zk_tree.specs.Table.{entry_at}
use Rattle.zk_text.specs.Span.{span_decimal}
use Rattle.zk_typed.specs.declared.rule.Rule.{Rule}
use Rattle.zk_typed.specs.declared.rule.Rule.TheVariants as rule
use Rattle.zk_typed.specs.declared.script.types.SimpleType.TheVariants as simple
use Rattle.std.specs.Fmt.{digits}
use Rattle.zk_typed.specs.Blind.{is_blind}
use Rattle.zk_typed.specs.Checked.{Broken}
use Rattle.zk_typed.specs.Declaring.{scripts_of}
use Rattle.zk_typed.specs.Errors.{errors}
use Rattle.zk_typed.specs.Within.{depth_max}
use Rattle.zk_tree.specs.declared.name.Name.{Name}
use Rattle.zk_tree.specs.declared.operator.Assigning.TheVariants as assigning
use Rattle.zk_typed.specs.LoadOrder.{File, load_order}
use Rattle.zk_typed.specs.Programs.{typed_program}
use Rattle.zk_typed.specs.Resolving.{type_to}
use Rattle.zk_typed.specs.Running.{run, world_in, dispatches_max}
use Rattle.zk_typed.specs.Types.{Simple}
use Rattle.zk_tree.specs.declared.expr.Item.{Item}
use Rattle.zk_tree.specs.declared.expr.Item.TheVariants as item
use Rattle.zk_tree.specs.declared.operator.Comparing.TheVariants as comparing
use Rattle.zk_tree.specs.declared.operator.Container.TheVariants as container
use Rattle.zk_tree.specs.declared.types.Field.{Field, roll-Field}
use Rattle.zk_typed.specs.Log.{One, Text, Plain}
use Rattle.zk_tree.specs.declared.types.Attr.{Attr}
use Rattle.zk_tree.specs.declared.operator.Prefix.TheVariants as prefix
use Rattle.zk_tree.specs.declared.operator.Level.TheVariants as level
use Rattle.zk_tree.specs.declared.operator.Operator.TheVariants as operator
use Rattle.zk_tree.specs.declared.operator.TimeUnit.TheVariants as unit
use Rattle.zk_tree.specs.declared.expr.Link.{roll-Link}

name : ℕ → List ℕ → Name
name place text = record { place = place; text = text }

file : List Decl → List File
file decls = record { name = codes "s.zeek"; decls = decls } ∷ []

told : Rule → ℕ → List Broken
told rule byte = record { rule = rule; place = record { file = 0; byte = byte } } ∷ []

count_at : ℕ → «Type»
count_at place = written.Atomic place atomic.Count

string : ℕ → List ℕ → Expr
string place bytes = expr.Literal place (literal.String bytes)

-- global x: count = INIT;
global : Expr → Decl
global value = decl.Variable 0 lasting.Global (name 7 (codes "x")) (Some (count_at 10)) (Some (init.Value value)) []

-- event zeek_init() { STATEMENTS }
handler : List Stmt → Decl
handler list = decl.Body 0 body.Event (name 6 (codes "zeek_init")) [] [] (roll-Block (record { place = 18; stmts = list }))

right_types_break_no_rule : errors (file (global (expr.Number 18 1) ∷ [])) ≡ []
unfolding file global count_at name trees depth_max
right_types_break_no_rule = refl

-- global x: count = y;
a_name_that_means_nothing : errors (file (global (expr.Name (name 18 (codes "y"))) ∷ [])) ≡ told rule.Unknown 18
unfolding file global told count_at name trees depth_max
a_name_that_means_nothing = refl

-- global x: count = "a";
a_string_for_a_count : errors (file (global (string 18 (codes "a")) ∷ [])) ≡ told rule.WrongType 18
unfolding file global told count_at string name trees depth_max
a_string_for_a_count = refl

-- global x: count = 1; redef x = 2;
a_redef_of_what_is_fixed :
    errors (file (global (expr.Number 18 1) ∷ decl.Redef 21 (name 27 (codes "x")) redefining.Set (init.Value (expr.Number 31 2)) ∷ [])) ≡ told rule.FixedGlobal 21
unfolding file global told count_at name trees depth_max
a_redef_of_what_is_fixed = refl

-- event zeek_init() { break; }
a_break_outside_a_loop : errors (file (handler (stmt.Break 20 ∷ []) ∷ [])) ≡ told rule.Break 20
unfolding file handler told name trees depth_max
a_break_outside_a_loop = refl

-- event zeek_init() { print a; local a = 1; }
a_local_before_its_statement :
    errors (file (handler (stmt.Print 20 (expr.Name (name 26 (codes "a")) ∷ []) ∷ stmt.Local 29 (name 35 (codes "a")) None (Some (init.Value (expr.Number 39 1))) ∷ []) ∷ [])) ≡ told rule.Unknown 26
unfolding file handler told name trees depth_max
a_local_before_its_statement = refl

-- global x: count = 1; global x: count = 2;
a_name_that_is_declared_twice :
    errors (file (global (expr.Number 18 1) ∷ decl.Variable 21 lasting.Global (name 28 (codes "x")) (Some (count_at 31)) (Some (init.Value (expr.Number 39 2))) [] ∷ [])) ≡ told rule.Twice 21
unfolding file global told count_at name trees depth_max
a_name_that_is_declared_twice = refl

-- event zeek_init() { return 5; }
a_value_that_nothing_wants : errors (file (handler (stmt.Return 20 (Some (expr.Number 27 5)) ∷ []) ∷ [])) ≡ told rule.Return 20
unfolding file handler told name trees depth_max
a_value_that_nothing_wants = refl

-- type R: record { r: R; };  (the inner R stands at byte 20)
a_record_that_reaches_itself :
    errors (file (decl.Type 0 (name 5 (codes "R")) (written.Record 8 (Rattle.zk_tree.specs.declared.types.Field.roll-Field (record { name = name 17 (codes "r"); field_type = written.Named (name 20 (codes "R")); attrs = [] }) ∷ [])) ∷ [])) ≡ told rule.Recursive 20
unfolding file told name trees depth_max
a_record_that_reaches_itself = refl

-- global x: count = 1; event zeek_init() { print x; }
printing : List File
printing = file (global (expr.Number 18 1) ∷ handler (stmt.Print 41 (expr.Name (name 47 (codes "x")) ∷ []) ∷ []) ∷ [])

a_typed_program_runs : (world_in (run (typed_program printing) 1000 [] (record { 0 = pos 0 }))).lines ≡ codes "1" ∷ []
unfolding printing file global handler count_at name trees depth_max digits dispatches_max
a_typed_program_runs = refl

-- event connection_state_remove(c: connection) { STATEMENTS }
of_connection : List Stmt → Decl
of_connection list = decl.Body 0 body.Event (name 6 (codes "connection_state_remove")) (param ∷ []) [] (roll-Block (record { place = 45; stmts = list }))
  where
    param : Param
    param = roll-Param (record { name = name 30 (codes "c"); param_type = written.Named (name 33 (codes "connection")) })

-- c$SIDE$num_pkts
packets : ℕ → List ℕ → Expr
packets place side = expr.Post (expr.Name (name place (codes "c"))) (part.Field (name (place + 2) side) ∷ part.Field (name (place + 7) (codes "num_pkts")) ∷ [])

-- event connection_state_remove(c: connection) { print c$orig$num_pkts; }
tells_packets : List File
tells_packets = file (of_connection (stmt.Print 47 (packets 53 (codes "orig") ∷ []) ∷ []) ∷ [])

a_printed_count_of_packets_breaks_no_rule : errors tells_packets ≡ []
unfolding tells_packets of_connection packets file name trees depth_max
a_printed_count_of_packets_breaks_no_rule = refl

a_printed_count_of_packets_is_not_blind : is_blind (typed_program tells_packets) ≡ false
unfolding tells_packets of_connection packets file name trees depth_max
a_printed_count_of_packets_is_not_blind = refl

-- event connection_state_remove(c: connection) { c$orig$num_pkts = c$resp$num_pkts; }
moves_packets : List File
moves_packets = file (of_connection (stmt.Expr (expr.Assign (packets 47 (codes "orig")) assigning.Set (packets 65 (codes "resp"))) ∷ []) ∷ [])

a_moved_count_of_packets_is_blind : is_blind (typed_program moves_packets) ≡ true
unfolding moves_packets of_connection packets file name trees depth_max
a_moved_count_of_packets_is_blind = refl

-- redef enum Log::ID += { L };
-- type R: record { a: count &log; b: string &log; };
-- event zeek_init() {
--   print Log::create_stream(L, [$columns=R, $path="x"]), Log::add_filter(L, [$name="f", $path="y", $include=set("b")]),
--     Log::remove_default_filter(L), Log::write(L, R($a=1, $b="q")); }
named : List ℕ → Expr
named text = expr.Name (name 0 text)

given : List ℕ → Expr → Item
given text value = item.Field 0 (name 0 text) value

call : List ℕ → List Item → Expr
call text items = expr.Post (named text) (part.Call items ∷ [])

logged : List ℕ → «Type» → Field
logged text type = roll-Field (record { name = name 0 text; field_type = type; attrs = record { place = 0; name = codes "log"; value = None } ∷ [] })

filters : List File
filters = file (
    decl.RedefEnum 0 (name 0 (codes "Log::ID")) (name 0 (codes "L") ∷ []) false ∷
    decl.Type 0 (name 0 (codes "R")) (written.Record 0 (logged (codes "a") (count_at 0) ∷ logged (codes "b") (written.Atomic 0 atomic.String) ∷ [])) ∷
    handler (stmt.Print 20 (
    call (codes "Log::create_stream") (item.Value (named (codes "L")) ∷ item.Value (expr.List 0 (given (codes "columns") (named (codes "R")) ∷ given (codes "path") (string 0 (codes "x")) ∷ [])) ∷ []) ∷
    call (codes "Log::add_filter") (item.Value (named (codes "L")) ∷ item.Value (expr.List 0 (
    given (codes "name") (string 0 (codes "f")) ∷ given (codes "path") (string 0 (codes "y")) ∷ given (codes "include") (expr.Make 0 container.Set (item.Value (string 0 (codes "b")) ∷ [])) ∷ [])) ∷ []) ∷
    call (codes "Log::remove_default_filter") (item.Value (named (codes "L")) ∷ []) ∷
    call (codes "Log::write") (item.Value (named (codes "L")) ∷ item.Value (call (codes "R") (given (codes "a") (expr.Number 0 1) ∷ given (codes "b") (string 0 (codes "q")) ∷ [])) ∷ []) ∷ []) ∷ []) ∷ [])

log_calls_break_no_rule : errors filters ≡ []
unfolding filters logged call given named file handler count_at string name trees depth_max
log_calls_break_no_rule = refl

log_calls_give_truth : (world_in (run (typed_program filters) 1000 [] (record { 0 = pos 0 }))).lines ≡ codes "T, T, T, T" ∷ []
unfolding filters logged call given named file handler count_at string name trees depth_max digits dispatches_max
log_calls_give_truth = refl

a_filter_writes_to_its_path : map (λ row. row.path) (world_in (run (typed_program filters) 1000 [] (record { 0 = pos 0 }))).rows ≡ codes "y" ∷ []
unfolding filters logged call given named file handler count_at string name trees depth_max digits dispatches_max
a_filter_writes_to_its_path = refl

a_filter_keeps_what_it_includes :
    map (λ row. row.cells) (world_in (run (typed_program filters) 1000 [] (record { 0 = pos 0 }))).rows ≡ (One (Text (codes "q")) ∷ []) ∷ []
unfolding filters logged call given named file handler count_at string name trees depth_max digits dispatches_max
a_filter_keeps_what_it_includes = refl

-- the same script, whose handler creates the stream of another word with other columns at the path x
two_streams : List File
two_streams = file (
    decl.RedefEnum 0 (name 0 (codes "Log::ID")) (name 0 (codes "L") ∷ name 0 (codes "M") ∷ []) false ∷
    decl.Type 0 (name 0 (codes "R")) (written.Record 0 (logged (codes "a") (count_at 0) ∷ [])) ∷
    decl.Type 0 (name 0 (codes "S")) (written.Record 1 (logged (codes "b") (count_at 0) ∷ [])) ∷
    handler (
    stmt.Expr (call (codes "Log::create_stream") (item.Value (named (codes "L")) ∷ item.Value (expr.List 0 (given (codes "columns") (named (codes "R")) ∷ given (codes "path") (string 0 (codes "x")) ∷ [])) ∷ [])) ∷
    stmt.Expr (expr.Post (expr.Name (name 70 (codes "Log::create_stream"))) (part.Call (item.Value (named (codes "M")) ∷ item.Value (expr.List 0 (given (codes "columns") (named (codes "S")) ∷ given (codes "path") (string 0 (codes "x")) ∷ [])) ∷ []) ∷ [])) ∷ []) ∷ [])

a_path_with_two_sets_of_columns : errors two_streams ≡ told rule.Twice 70
unfolding two_streams logged call given named file handler told count_at string name trees depth_max
a_path_with_two_sets_of_columns = refl

-- One row for each of the other rules -------------------------------------------------------------------------------

attr : ℕ → List ℕ → Option Expr → Attr
attr place text value = record { place = place; name = text; value = value }

-- hook h() &priority=VALUE { }
with_priority : Expr → Decl
with_priority value = decl.Body 0 body.Hook (name 5 (codes "h")) [] (attr 9 (codes "priority") (Some value) ∷ []) (roll-Block (record { place = 24; stmts = [] }))

-- hook h() &priority=-5 { }
a_priority_below_0 : errors (file (with_priority (expr.Unary 19 prefix.Negate (expr.Number 20 5)) ∷ [])) ≡ []
unfolding with_priority attr file name trees depth_max
a_priority_below_0 = refl

-- hook h() &priority=k { }
a_priority_that_means_nothing : errors (file (with_priority (expr.Name (name 19 (codes "k"))) ∷ [])) ≡ told rule.Unknown 19
unfolding with_priority attr file told name trees depth_max
a_priority_that_means_nothing = refl

-- hook h() &priority=(5) { }
a_priority_that_is_no_literal : errors (file (with_priority (expr.Parenthesis 19 (expr.Number 20 5)) ∷ [])) ≡ told rule.NotConst 19
unfolding with_priority attr file told name trees depth_max
a_priority_that_is_no_literal = refl

-- hook h() &priority=9223372036854775808 { }
a_priority_past_the_greatest_int : errors (file (with_priority (expr.Number 19 9_223_372_036_854_775_808) ∷ [])) ≡ told rule.WrongType 19
unfolding with_priority attr file told name trees depth_max
a_priority_past_the_greatest_int = refl

-- hook h() &priority=-9223372036854775808 { }
a_priority_that_is_the_least_int : errors (file (with_priority (expr.Unary 19 prefix.Negate (expr.Number 20 9_223_372_036_854_775_808)) ∷ [])) ≡ []
unfolding with_priority attr file name trees depth_max
a_priority_that_is_the_least_int = refl

-- type R: record { a: count &default=VALUE; };
with_default : Expr → List File
with_default value = file (decl.Type 0 (name 5 (codes "R")) (written.Record 8 (
    roll-Field (record { name = name 17 (codes "a"); field_type = count_at 20; attrs = attr 26 (codes "default") (Some value) ∷ [] }) ∷ [])) ∷ [])

plus : Expr → Expr → Expr
plus a b = expr.Chain level.Sum a (roll-Link (record { operator = operator.Plus; operand = b }) ∷ [])

-- "a" + "b"
a_default_of_another_type : errors (with_default (plus (string 35 (codes "a")) (string 41 (codes "b")))) ≡ told rule.WrongType 35
unfolding with_default plus file told attr count_at string name trees depth_max
a_default_of_another_type = refl

-- 1 + 2
a_default_that_is_computed : errors (with_default (plus (expr.Number 35 1) (expr.Number 39 2))) ≡ told rule.NotConst 35
unfolding with_default plus file told attr count_at name trees depth_max
a_default_that_is_computed = refl

-- 1 + y
a_broken_part_of_a_default : errors (with_default (plus (expr.Number 35 1) (expr.Name (name 39 (codes "y"))))) ≡ told rule.Unknown 39
unfolding with_default plus file told attr count_at name trees depth_max
a_broken_part_of_a_default = refl

-- global x: count = 1 &log;
an_attribute_of_another_place :
    errors (file (decl.Variable 0 lasting.Global (name 7 (codes "x")) (Some (count_at 10)) (Some (init.Value (expr.Number 18 1))) (attr 20 (codes "log") None ∷ []) ∷ [])) ≡ told rule.Attribute 20
unfolding attr file told count_at name trees depth_max
an_attribute_of_another_place = refl

-- event zeek_done(n: count) { }
a_handler_with_another_parameter :
    errors (file (decl.Body 0 body.Event (name 6 (codes "zeek_done")) (roll-Param (record { name = name 16 (codes "n"); param_type = count_at 19 }) ∷ []) [] (roll-Block (record { place = 26; stmts = [] })) ∷ [])) ≡ told rule.Arguments 0
unfolding file told count_at name trees depth_max
a_handler_with_another_parameter = refl

-- event zeek_init() { print fmt("%q", 1); }
a_verb_that_there_is_not :
    errors (file (handler (stmt.Print 20 (expr.Post (expr.Name (name 26 (codes "fmt"))) (part.Call (item.Value (string 30 (codes "%q")) ∷ item.Value (expr.Number 36 1) ∷ []) ∷ []) ∷ []) ∷ []) ∷ [])) ≡ told rule.Format 30
unfolding file handler told string name trees depth_max
a_verb_that_there_is_not = refl

-- type R: record { a: count &log; };  event zeek_init() { print R()$a; }
one_field : Decl
one_field = decl.Type 0 (name 5 (codes "R")) (written.Record 8 (logged (codes "a") (count_at 20) ∷ []))

a_field_that_is_not_given :
    errors (file (one_field ∷ handler (stmt.Print 20 (expr.Post (expr.Name (name 62 (codes "R"))) (part.Call [] ∷ part.Field (name 66 (codes "a")) ∷ []) ∷ []) ∷ []) ∷ [])) ≡ told rule.Field 62
unfolding one_field logged file handler told count_at name trees depth_max
a_field_that_is_not_given = refl

-- event zeek_init() { print 2 * 5 sec; }
a_count_times_an_interval :
    errors (file (handler (stmt.Print 20 (expr.Chain level.Term (expr.Number 26 2) (roll-Link (record { operator = operator.Times; operand = expr.Interval 30 5 unit.Second false }) ∷ []) ∷ []) ∷ []) ∷ [])) ≡ told rule.WrongType 30
unfolding file handler told name trees depth_max
a_count_times_an_interval = refl

-- Modules and files --------------------------------------------------------------------------------------------------

count_named : ℕ → List ℕ → Expr → Decl
count_named place text value = decl.Variable place lasting.Global (name (place + 7) text) None (Some (init.Value value)) []

-- module M; export { global shown = 1; } global hidden = 1; module N; global x = M::NAME;
two_modules : List ℕ → List File
two_modules other = file (
    decl.Module 0 (name 7 (codes "M")) ∷
    decl.Export 10 (count_named 19 (codes "shown") (expr.Number 34 1) ∷ []) ∷
    count_named 39 (codes "hidden") (expr.Number 55 1) ∷
    decl.Module 58 (name 65 (codes "N")) ∷
    count_named 68 (codes "x") (expr.Name (name 79 other)) ∷ [])

an_exported_name_is_seen : errors (two_modules (codes "M::shown")) ≡ []
unfolding two_modules count_named file name trees depth_max
an_exported_name_is_seen = refl

a_name_that_is_not_exported_is_not_seen : errors (two_modules (codes "M::hidden")) ≡ told rule.Unknown 79
unfolding two_modules count_named file told name trees depth_max
a_name_that_is_not_exported_is_not_seen = refl

-- a.zeek: global a = b; @load b.zeek @load b.zeek global c = 1;  b.zeek: @load a.zeek global b = 1;
loading : List File
loading =
    record {
      name = codes "a.zeek";
      decls =
          count_named 0 (codes "a") (expr.Name (name 11 (codes "b"))) ∷ decl.Load 14 (codes "b.zeek") ∷ decl.Load 29 (codes "b.zeek") ∷ count_named 44 (codes "c") (expr.Number 55 1) ∷ [];
    } ∷
    record { name = codes "b.zeek"; decls = decl.Load 0 (codes "a.zeek") ∷ count_named 15 (codes "b") (expr.Number 26 1) ∷ [] } ∷ []

a_file_stands_in_the_place_of_its_first_load : map (λ one. one.home.file) (load_order loading) ≡ 0 ∷ 1 ∷ 0 ∷ []
unfolding loading count_named name trees depth_max
a_file_stands_in_the_place_of_its_first_load = refl

-- a.zeek: @load base/x global a = 1;  base/x: global b = 1;
default_script_named : List File
default_script_named =
    record { name = codes "a.zeek"; decls = decl.Load 0 (codes "base/x") ∷ count_named 13 (codes "a") (expr.Number 24 1) ∷ [] } ∷
    record { name = codes "base/x"; decls = count_named 0 (codes "b") (expr.Number 11 1) ∷ [] } ∷ []

a_load_of_a_default_script_is_passed_over : map (λ one. one.home.file) (load_order default_script_named) ≡ 0 ∷ 1 ∷ []
unfolding default_script_named count_named name trees depth_max
a_load_of_a_default_script_is_passed_over = refl

names_of_loaded_files_are_seen : errors loading ≡ []
unfolding loading count_named name trees depth_max
names_of_loaded_files_are_seen = refl

-- global a = b; global b = a;
circle : List File
circle = file (count_named 0 (codes "a") (expr.Name (name 11 (codes "b"))) ∷ count_named 14 (codes "b") (expr.Name (name 25 (codes "a"))) ∷ [])

types_that_rest_on_each_other : errors circle ≡ told rule.WrongType 11 ++ told rule.WrongType 25
unfolding circle count_named file told name trees depth_max
types_that_rest_on_each_other = refl

-- global a: count = b; global b = b;
a_type_that_is_written_rests_on_no_value :
    errors (file (decl.Variable 0 lasting.Global (name 7 (codes "a")) (Some (count_at 10)) (Some (init.Value (expr.Name (name 18 (codes "b"))))) [] ∷ count_named 21 (codes "b") (expr.Name (name 32 (codes "b"))) ∷ [])) ≡ told rule.WrongType 32
unfolding count_named file count_at told name trees depth_max
a_type_that_is_written_rests_on_no_value = refl

-- global b = b + y;
a_broken_part_hides_a_circle : errors (file (count_named 0 (codes "b") (plus (expr.Name (name 11 (codes "b"))) (expr.Name (name 15 (codes "y")))) ∷ [])) ≡ told rule.Unknown 15
unfolding count_named plus file told name trees depth_max
a_broken_part_hides_a_circle = refl

-- module A::B; global x = 1; event zeek_init() { print x; }
a_module_within_a_module_sees_its_names :
    errors (file (decl.Module 0 (name 7 (codes "A::B")) ∷ count_named 13 (codes "x") (expr.Number 24 1) ∷ handler (stmt.Print 47 (expr.Name (name 53 (codes "x")) ∷ []) ∷ []) ∷ [])) ≡ []
unfolding count_named file handler name trees depth_max
a_module_within_a_module_sees_its_names = refl

-- module M; export { global x = 5; } module N; event zeek_init() { local M::x = 1; print M::x; }
local_of_another_module : List File
local_of_another_module = file (
    decl.Module 0 (name 7 (codes "M")) ∷ decl.Export 10 (count_named 19 (codes "x") (expr.Number 30 5) ∷ []) ∷ decl.Module 35 (name 42 (codes "N")) ∷
    handler (stmt.Local 65 (name 71 (codes "M::x")) None (Some (init.Value (expr.Number 78 1))) ∷ stmt.Print 81 (expr.Name (name 87 (codes "M::x")) ∷ []) ∷ []) ∷ [])

a_name_of_a_module_is_no_local : (world_in (run (typed_program local_of_another_module) 1000 [] (record { 0 = pos 0 }))).lines ≡ codes "5" ∷ []
unfolding local_of_another_module count_named file handler name trees depth_max digits dispatches_max
a_name_of_a_module_is_no_local = refl

-- event f() { } function f() { }
a_function_declares_its_name_before_a_handler :
    errors (file (
    decl.Body 0 body.Event (name 6 (codes "f")) [] [] (roll-Block (record { place = 10; stmts = [] })) ∷
    decl.Function 14 (name 23 (codes "f")) [] None (roll-Block (record { place = 27; stmts = [] })) ∷ [])) ≡ told rule.WrongType 6
unfolding file told name trees depth_max
a_function_declares_its_name_before_a_handler = refl

-- type N: count; type M: N; type L: M;
names_of_names : List File
names_of_names = file (
    decl.Type 5 (name 5 (codes "N")) (count_at 8) ∷
    decl.Type 20 (name 20 (codes "M")) (written.Named (name 23 (codes "N"))) ∷
    decl.Type 31 (name 31 (codes "L")) (written.Named (name 34 (codes "M"))) ∷ [])

-- it has its type within one level
a_name_is_no_level_of_a_type :
    type_to 1 (scripts_of names_of_names) (record { file = 0; module_name = []; exported = false }) (written.Named (name 45 (codes "L"))) ≡ Ok (Simple simple.Count)
unfolding names_of_names file name count_at trees depth_max
a_name_is_no_level_of_a_type = refl

-- Broken parts ------------------------------------------------------------------------------------------------------

-- function f(): set[count] { return set(1); } event zeek_init() { add f()[2]; }
an_element_of_what_a_function_gives :
    errors (file (
    decl.Function 0 (name 9 (codes "f")) [] (Some (written.Set 14 (count_at 18 ∷ []))) (roll-Block (record { place = 25; stmts = stmt.Return 27 (Some (expr.Make 34 container.Set (item.Value (expr.Number 38 1) ∷ []))) ∷ [] })) ∷
    handler (stmt.Add 64 (expr.Post (expr.Name (name 68 (codes "f"))) (part.Call [] ∷ part.Index (expr.Number 72 2 ∷ []) ∷ [])) ∷ []) ∷ [])) ≡ []
unfolding file handler count_at name trees depth_max
an_element_of_what_a_function_gives = refl

-- [$a=1]
with_a : ℕ → Expr
with_a place = expr.List place (item.Field (place + 1) (name (place + 2) (codes "a")) (expr.Number (place + 4) 1) ∷ [])

-- event zeek_init() { g = [$a=1]; } global g: nosuch;
a_constructor_of_a_type_that_is_not_known :
    errors (file (
    handler (stmt.Expr (expr.Assign (expr.Name (name 20 (codes "g"))) assigning.Set (with_a 24)) ∷ []) ∷
    decl.Variable 34 lasting.Global (name 41 (codes "g")) (Some (written.Named (name 44 (codes "nosuch")))) None [] ∷ [])) ≡ told rule.Unknown 44
unfolding with_a file handler told name trees depth_max
a_constructor_of_a_type_that_is_not_known = refl

-- event zeek_init() { local x = 1; local x; }
a_local_twice_without_a_value :
    errors (file (handler (stmt.Local 20 (name 26 (codes "x")) None (Some (init.Value (expr.Number 30 1))) ∷ stmt.Local 33 (name 39 (codes "x")) None None ∷ []) ∷ [])) ≡
    told rule.Twice 33 ++ told rule.WrongType 33
unfolding file handler told name trees depth_max
a_local_twice_without_a_value = refl

-- event zeek_init() { local x = 1; local x = y; }
a_broken_value_hides_a_local_twice :
    errors (file (handler (
    stmt.Local 20 (name 26 (codes "x")) None (Some (init.Value (expr.Number 30 1))) ∷
    stmt.Local 33 (name 39 (codes "x")) None (Some (init.Value (expr.Name (name 43 (codes "y"))))) ∷ []) ∷ [])) ≡ told rule.Unknown 43
unfolding file handler told name trees depth_max
a_broken_value_hides_a_local_twice = refl

-- global t: table[count, count] of count; event zeek_init() { print t["a"]; }
a_wrong_key_hides_how_many_there_are :
    errors (file (
    decl.Variable 0 lasting.Global (name 7 (codes "t")) (Some (written.Table 10 (count_at 16 ∷ count_at 23 ∷ []) (count_at 33))) None [] ∷
    handler (stmt.Print 60 (expr.Post (expr.Name (name 66 (codes "t"))) (part.Index (string 68 (codes "a") ∷ []) ∷ []) ∷ []) ∷ []) ∷ [])) ≡ told rule.WrongType 68
unfolding file handler told count_at string name trees depth_max
a_wrong_key_hides_how_many_there_are = refl

-- global s: set[count]; event zeek_init() { STATEMENT }
beside_a_set : Stmt → List File
beside_a_set one = file (decl.Variable 0 lasting.Global (name 7 (codes "s")) (Some (written.Set 10 (count_at 14 ∷ []))) None [] ∷ handler (one ∷ []) ∷ [])

-- if ( s = set() ) ;
an_assignment_is_no_value :
    errors (beside_a_set (stmt.If 42 (expr.Assign (expr.Name (name 47 (codes "s"))) assigning.Set (expr.Make 51 container.Set [])) (stmt.Empty 60))) ≡ told rule.WrongType 47
unfolding beside_a_set file handler told count_at name trees depth_max
an_assignment_is_no_value = refl

-- print [s, 1] in s;
a_set_is_no_key :
    errors (beside_a_set (stmt.Print 42 (expr.Compare (expr.List 48 (item.Value (expr.Name (name 49 (codes "s"))) ∷ item.Value (expr.Number 52 1) ∷ [])) comparing.In (expr.Name (name 58 (codes "s"))) ∷ []))) ≡ told rule.WrongType 48
unfolding beside_a_set file handler told count_at name trees depth_max
a_set_is_no_key = refl

-- print fmt(5);
a_text_of_another_type :
    errors (file (handler (stmt.Print 20 (expr.Post (expr.Name (name 26 (codes "fmt"))) (part.Call (item.Value (expr.Number 30 5) ∷ []) ∷ []) ∷ []) ∷ []) ∷ [])) ≡ told rule.WrongType 30
unfolding file handler told name trees depth_max
a_text_of_another_type = refl

-- event zeek_init() { local s = VALUE; }
local_value : Expr → List File
local_value value = file (handler (stmt.Local 20 (name 26 (codes "s")) None (Some (init.Value value)) ∷ []) ∷ [])

-- local s = [$a=1];
a_constructor_of_no_record : errors (local_value (with_a 30)) ≡ told rule.WrongType 30
unfolding local_value with_a file handler told name trees depth_max
a_constructor_of_no_record = refl

-- local s = set([1]);
a_single_key_in_brackets : errors (local_value (expr.Make 30 container.Set (item.Value (expr.List 34 (item.Value (expr.Number 35 1) ∷ [])) ∷ []))) ≡ told rule.WrongType 34
unfolding local_value file handler told name trees depth_max
a_single_key_in_brackets = refl

-- local s = set($a=1);
a_member_that_names_a_field : errors (local_value (expr.Make 30 container.Set (item.Field 34 (name 35 (codes "a")) (expr.Number 37 1) ∷ []))) ≡ told rule.WrongType 34
unfolding local_value file handler told name trees depth_max
a_member_that_names_a_field = refl

-- local s = fmt("%d", $a=y);
a_broken_value_behind_the_name_of_a_field :
    errors (local_value (expr.Post (expr.Name (name 30 (codes "fmt"))) (part.Call (item.Value (string 34 (codes "%d")) ∷ item.Field 40 (name 41 (codes "a")) (expr.Name (name 43 (codes "y"))) ∷ []) ∷ []))) ≡ told rule.Unknown 43
unfolding local_value file handler told string name trees depth_max
a_broken_value_behind_the_name_of_a_field = refl

-- local s = table([1] = y);
a_broken_entry_where_no_type_is_wanted :
    errors (local_value (expr.Make 30 container.Table (item.Value (expr.Assign (expr.List 36 (item.Value (expr.Number 37 1) ∷ [])) assigning.Set (expr.Name (name 42 (codes "y")))) ∷ []))) ≡ told rule.Unknown 42
unfolding local_value file handler told name trees depth_max
a_broken_entry_where_no_type_is_wanted = refl

-- global x: count = { y };
a_broken_member_of_braces :
    errors (file (decl.Variable 0 lasting.Global (name 7 (codes "x")) (Some (count_at 10)) (Some (init.Braces 18 (expr.Name (name 20 (codes "y")) ∷ []) false)) [] ∷ [])) ≡ told rule.Unknown 20
unfolding file told count_at name trees depth_max
a_broken_member_of_braces = refl

-- global f: function() = VALUE;
function_with : Expr → List File
function_with value = file (decl.Variable 0 lasting.Global (name 7 (codes "f")) (Some (written.Procedure 10 [])) (Some (init.Value value)) [] ∷ [])

a_broken_value_of_a_function : errors (function_with (expr.Name (name 23 (codes "y")))) ≡ told rule.Unknown 23
unfolding function_with file told name trees depth_max
a_broken_value_of_a_function = refl

a_value_of_a_function : errors (function_with (expr.Number 23 5)) ≡ told rule.WrongType 23
unfolding function_with file told name trees depth_max
a_value_of_a_function = refl

-- type R: record { a: count &default="q" &b; };
one_wrong_attribute_hides_no_other :
    errors (file (decl.Type 0 (name 5 (codes "R")) (written.Record 8 (
    roll-Field (record { name = name 17 (codes "a"); field_type = count_at 20; attrs = attr 26 (codes "default") (Some (string 35 (codes "q"))) ∷ attr 39 (codes "b") None ∷ [] }) ∷ [])) ∷ [])) ≡
    told rule.WrongType 35 ++ told rule.Attribute 39
unfolding file told attr count_at string name trees depth_max
one_wrong_attribute_hides_no_other = refl

-- redef record NAME += { b: TYPE &optional; };
field_added : List ℕ → «Type» → Decl
field_added text type =
    decl.RedefRecord 60 (name 73 text) (roll-Field (record { name = name 80 (codes "b"); field_type = type; attrs = attr 110 (codes "optional") None ∷ [] }) ∷ [])

-- redef record R += { b: record { c: y; } &optional; };
a_broken_type_within_an_added_field :
    errors (file (one_field ∷ field_added (codes "R") (written.Record 83 (roll-Field (record { name = name 92 (codes "c"); field_type = written.Named (name 95 (codes "y")); attrs = [] }) ∷ [])) ∷ [])) ≡ told rule.Unknown 95
unfolding one_field logged field_added file told attr count_at name trees depth_max
a_broken_type_within_an_added_field = refl

-- redef record connection += { b: connection &optional; };
an_added_field_that_leads_back : errors (file (field_added (codes "connection") (written.Named (name 83 (codes "connection"))) ∷ [])) ≡ told rule.Recursive 83
unfolding field_added file told attr name trees depth_max
an_added_field_that_leads_back = refl

-- type R: record { a: count &log; }; redef record R += { b: R &optional; };
an_added_field_is_told_alone : errors (file (one_field ∷ field_added (codes "R") (written.Named (name 83 (codes "R"))) ∷ [])) ≡ told rule.Recursive 83
unfolding one_field logged field_added file told attr count_at name trees depth_max
an_added_field_is_told_alone = refl

-- event zeek_init() { Log::create_stream(L, [$path="A", $columns=y]); }
every_setting_is_judged :
    errors (file (
    decl.RedefEnum 0 (name 0 (codes "Log::ID")) (name 0 (codes "L") ∷ []) false ∷
    handler (stmt.Expr (call (codes "Log::create_stream") (item.Value (named (codes "L")) ∷ item.Value (expr.List 42 (
    item.Field 43 (name 44 (codes "path")) (string 49 (codes "A")) ∷ item.Field 54 (name 55 (codes "columns")) (expr.Name (name 63 (codes "y"))) ∷ [])) ∷ [])) ∷ []) ∷ [])) ≡
    told rule.Format 49 ++ told rule.Unknown 63
unfolding call named file handler told string name trees depth_max
every_setting_is_judged = refl

-- redef enum Log::ID += { L }; type R: record { a: count &log; };
-- event zeek_init() { Log::create_stream(L, [$columns=R]); CALL; }
with_log : Expr → List File
with_log one = file (
    decl.RedefEnum 0 (name 0 (codes "Log::ID")) (name 0 (codes "L") ∷ []) false ∷ one_field ∷
    handler (
    stmt.Expr (call (codes "Log::create_stream") (item.Value (named (codes "L")) ∷ item.Value (expr.List 0 (given (codes "columns") (named (codes "R")) ∷ given (codes "path") (string 0 (codes "x")) ∷ [])) ∷ [])) ∷
    stmt.Expr one ∷ []) ∷ [])

call_at : List ℕ → List Item → Expr
call_at text items = expr.Post (expr.Name (name 70 text)) (part.Call (item.Value (named (codes "L")) ∷ items) ∷ [])

vector_at : ℕ → Item
vector_at place = item.Value (expr.Make place container.Vector [])

-- Log::create_stream(L, vector());
what_is_no_settings : errors (with_log (call_at (codes "Log::create_stream") (vector_at 92 ∷ []))) ≡ told rule.WrongType 92
unfolding with_log call_at vector_at one_field logged call given named file handler told count_at string name trees depth_max
what_is_no_settings = refl

-- Log::remove_filter(L, 5);
a_name_of_a_filter_of_another_type : errors (with_log (call_at (codes "Log::remove_filter") (item.Value (expr.Number 92 5) ∷ []))) ≡ told rule.WrongType 92
unfolding with_log call_at one_field logged call given named file handler told count_at string name trees depth_max
a_name_of_a_filter_of_another_type = refl

-- Log::add_filter(L, [$name="f", $include=nosuch]);
a_setting_that_means_nothing :
    errors (with_log (call_at (codes "Log::add_filter") (item.Value (expr.List 80 (given (codes "name") (string 0 (codes "f")) ∷ item.Field 90 (name 91 (codes "include")) (expr.Name (name 99 (codes "nosuch"))) ∷ [])) ∷ []))) ≡ told rule.Unknown 99
unfolding with_log call_at one_field logged call given named file handler told count_at string name trees depth_max
a_setting_that_means_nothing = refl

-- Log::remove_default_filter(L, vector());
an_argument_too_many : errors (with_log (call_at (codes "Log::remove_default_filter") (vector_at 100 ∷ []))) ≡ told rule.Arguments 70
unfolding with_log call_at vector_at one_field logged call given named file handler told count_at string name trees depth_max
an_argument_too_many = refl

-- event zeek_init() { Log::create_stream(L, [$columns=R, $path="x"]); local L = 1; Log::remove_default_filter(L); }
a_local_hides_a_word :
    errors (file (
    decl.RedefEnum 0 (name 0 (codes "Log::ID")) (name 0 (codes "L") ∷ []) false ∷ one_field ∷
    handler (
    stmt.Expr (call (codes "Log::create_stream") (item.Value (named (codes "L")) ∷ item.Value (expr.List 0 (given (codes "columns") (named (codes "R")) ∷ given (codes "path") (string 0 (codes "x")) ∷ [])) ∷ [])) ∷
    stmt.Local 70 (name 76 (codes "L")) None (Some (init.Value (expr.Number 80 1))) ∷
    stmt.Expr (call (codes "Log::remove_default_filter") (item.Value (expr.Name (name 110 (codes "L"))) ∷ [])) ∷ []) ∷ [])) ≡ told rule.WrongType 110
unfolding one_field logged call given named file handler told count_at string name trees depth_max
a_local_hides_a_word = refl

-- event zeek_init() { local NAME = 1; STATEMENT }
hidden_by : List ℕ → Stmt → List File
hidden_by text one = file (one_field ∷ handler (stmt.Local 20 (name 26 text) None (Some (init.Value (expr.Number 30 1))) ∷ one ∷ []) ∷ [])

-- with zeek_done and event zeek_done();
a_local_hides_an_event : errors (hidden_by (codes "zeek_done") (stmt.Event 40 (name 46 (codes "zeek_done")) [])) ≡ told rule.WrongType 46
unfolding hidden_by one_field logged file handler told count_at name trees depth_max
a_local_hides_an_event = refl

-- with R and local x: R;
a_local_hides_a_type : errors (hidden_by (codes "R") (stmt.Local 40 (name 46 (codes "x")) (Some (written.Named (name 49 (codes "R")))) None)) ≡ told rule.WrongType 49
unfolding hidden_by one_field logged file handler told count_at name trees depth_max
a_local_hides_a_type = refl

-- with R and Log::create_stream(L, [$path="x", $columns=R]);
a_local_hides_columns :
    errors (file (
    decl.RedefEnum 0 (name 0 (codes "Log::ID")) (name 0 (codes "L") ∷ []) false ∷ one_field ∷
    handler (
    stmt.Local 20 (name 26 (codes "R")) None (Some (init.Value (expr.Number 30 1))) ∷
    stmt.Expr (call (codes "Log::create_stream") (item.Value (named (codes "L")) ∷ item.Value (expr.List 0 (given (codes "path") (string 0 (codes "x")) ∷ given (codes "columns") (expr.Name (name 80 (codes "R"))) ∷ [])) ∷ [])) ∷ []) ∷ [])) ≡
    told rule.WrongType 80
unfolding one_field logged call given named file handler told count_at string name trees depth_max
a_local_hides_columns = refl

-- Values that are added to no value ---------------------------------------------------------------------------------

-- global x: TYPE &redef; redef x += VALUE; event zeek_init() { print PRINTED; }
added_to_none : «Type» → Init → Expr → List File
added_to_none type value printed = file (
    decl.Variable 0 lasting.Global (name 7 (codes "x")) (Some type) None (attr 17 (codes "redef") None ∷ []) ∷
    decl.Redef 24 (name 30 (codes "x")) redefining.Add value ∷ handler (stmt.Print 60 (printed ∷ []) ∷ []) ∷ [])

-- with x: set[subnet], { 10.0.0.0/8 } and |x|
subnets_added : List File
subnets_added = added_to_none (written.Set 10 (written.Atomic 14 atomic.Subnet ∷ [])) (init.Braces 35 (expr.Literal 37 (literal.Subnet 167772160 8) ∷ []) false) (expr.Size 66 (expr.Name (name 67 (codes "x"))))

values_are_added_to_an_empty_set : (world_in (run (typed_program subnets_added) 1000 [] (record { 0 = pos 0 }))).lines ≡ codes "1" ∷ []
unfolding subnets_added added_to_none file handler attr name trees depth_max digits dispatches_max entry_at
values_are_added_to_an_empty_set = refl

-- with x: count, 5 and 1
count_added : List File
count_added = added_to_none (count_at 10) (init.Value (expr.Number 35 5)) (expr.Number 66 1)

a_count_is_added_to_no_value :
    map (λ row. row.cells) (world_in (run (typed_program count_added) 1000 [] (record { 0 = pos 0 }))).rows ≡
    (One (Plain (codes "0.000000")) ∷ One (Plain (codes "Reporter::ERROR")) ∷ One (Text (codes "Unset")) ∷ One (Text (codes "s.zeek, byte 0")) ∷ []) ∷ []
unfolding count_added added_to_none file handler count_at attr name trees depth_max digits dispatches_max span_decimal
a_count_is_added_to_no_value = refl

-- What a policy is told of its filter --------------------------------------------------------------------------------

-- redef enum Log::ID += { L }; type R: record { a: count &log; }; redef record Log::Filter += { n: count &default=7; };
-- hook p(r: R, id: Log::ID, f: Log::Filter) { print f$name, f$n; f$n = 8; }
-- hook p(r: R, id: Log::ID, f: Log::Filter) { print f$n; }
-- event zeek_init() {
--   Log::create_stream(L, [$columns=R, $path="x", $policy=p]); Log::write(L, R($a=1)); Log::write(L, R($a=1)); }
policy : List Stmt → Decl
policy list = decl.Body 0 body.Hook (name 0 (codes "p")) (param (codes "r") (codes "R") ∷ param (codes "id") (codes "Log::ID") ∷ param (codes "f") (codes "Log::Filter") ∷ []) []
    (roll-Block (record { place = 0; stmts = list }))
  where
    param : List ℕ → List ℕ → Param
    param text of = roll-Param (record { name = name 0 text; param_type = written.Named (name 0 of) })

of_filter : List ℕ → Expr
of_filter text = expr.Post (named (codes "f")) (part.Field (name 0 text) ∷ [])

written_row : Stmt
written_row = stmt.Expr (call (codes "Log::write") (item.Value (named (codes "L")) ∷ item.Value (call (codes "R") (given (codes "a") (expr.Number 0 1) ∷ [])) ∷ []))

added_to_filters : List File
added_to_filters = file (
    decl.RedefEnum 0 (name 0 (codes "Log::ID")) (name 0 (codes "L") ∷ []) false ∷ one_field ∷
    decl.RedefRecord 0 (name 0 (codes "Log::Filter")) (roll-Field (record { name = name 0 (codes "n"); field_type = count_at 0; attrs = attr 0 (codes "default") (Some (expr.Number 0 7)) ∷ [] }) ∷ []) ∷
    policy (stmt.Print 0 (of_filter (codes "name") ∷ of_filter (codes "n") ∷ []) ∷ stmt.Expr (expr.Assign (of_filter (codes "n")) assigning.Set (expr.Number 0 8)) ∷ []) ∷
    policy (stmt.Print 0 (of_filter (codes "n") ∷ []) ∷ []) ∷
    handler (
    stmt.Expr (call (codes "Log::create_stream") (item.Value (named (codes "L")) ∷ item.Value (expr.List 0 (given (codes "columns") (named (codes "R")) ∷ given (codes "path") (string 0 (codes "x")) ∷ given (codes "policy") (named (codes "p")) ∷ [])) ∷ [])) ∷
    written_row ∷ written_row ∷ []) ∷ [])

a_field_that_is_added_to_filters_breaks_no_rule : errors added_to_filters ≡ []
unfolding added_to_filters written_row of_filter policy one_field logged attr call given named file handler count_at string name trees depth_max
a_field_that_is_added_to_filters_breaks_no_rule = refl

each_write_begins_it_anew_and_a_later_body_finds_what_was_given :
    (world_in (run (typed_program added_to_filters) 1000 [] (record { 0 = pos 0 }))).lines ≡ codes "default, 7" ∷ codes "8" ∷ codes "default, 7" ∷ codes "8" ∷ []
unfolding added_to_filters written_row of_filter policy one_field logged attr call given named file handler count_at string name trees depth_max digits dispatches_max
each_write_begins_it_anew_and_a_later_body_finds_what_was_given = refl

-- What stands beside what is broken elsewhere ------------------------------------------------------------------------

-- event zeek_init() { copy(1, nosuch); }
arguments_past_the_parameters_are_judged :
    errors (file (handler (stmt.Expr (expr.Post (expr.Name (name 20 (codes "copy"))) (part.Call (item.Value (expr.Number 25 1) ∷ item.Value (expr.Name (name 28 (codes "nosuch"))) ∷ []) ∷ [])) ∷ []) ∷ []))
    ≡ told rule.Arguments 20 ++ told rule.Unknown 28
unfolding file handler told name trees depth_max
arguments_past_the_parameters_are_judged = refl

-- redef enum Log::ID += { L }; type R: record { a: count &log; }; global y = Log::write(L, [$a=1]); event zeek_init() { STATEMENTS }
resting : List Stmt → List File
resting list = file (
    decl.RedefEnum 0 (name 0 (codes "Log::ID")) (name 0 (codes "L") ∷ []) false ∷ one_field ∷
    decl.Variable 0 lasting.Global (name 0 (codes "y")) None (Some (init.Value (call (codes "Log::write") (item.Value (named (codes "L")) ∷ item.Value (expr.List 0 (given (codes "a") (expr.Number 0 1) ∷ [])) ∷ [])))) [] ∷
    handler list ∷ [])

-- Log::create_stream(L, ARGUMENT)
created : Item → Expr
created one = call (codes "Log::create_stream") (item.Value (named (codes "L")) ∷ one ∷ [])

-- with copy(y, Log::create_stream(L, [$columns=Nope]));
a_stream_is_judged_wherever_it_stands :
    errors (resting (stmt.Expr (expr.Post (expr.Name (name 70 (codes "copy"))) (part.Call (
    item.Value (named (codes "y")) ∷ item.Value (created (item.Value (expr.List 0 (given (codes "columns") (expr.Name (name 90 (codes "Nope"))) ∷ [])))) ∷ []) ∷ [])) ∷ []))
    ≡ told rule.Arguments 70 ++ told rule.Unknown 90
unfolding resting created one_field logged call given named file handler told count_at name trees depth_max
a_stream_is_judged_wherever_it_stands = refl

-- with Log::create_stream(L, y);
what_is_no_settings_is_told_whatever_it_rests_on : errors (resting (stmt.Expr (created (item.Value (expr.Name (name 92 (codes "y"))))) ∷ [])) ≡ told rule.WrongType 92
unfolding resting created one_field logged call given named file handler told count_at name trees depth_max
what_is_no_settings_is_told_whatever_it_rests_on = refl

-- with Log::create_stream(L, [$path=y]);
a_missing_setting_is_told_whatever_others_rest_on : errors (resting (stmt.Expr (created (item.Value (expr.List 92 (given (codes "path") (named (codes "y")) ∷ [])))) ∷ [])) ≡ told rule.Field 92
unfolding resting created one_field logged call given named file handler told count_at name trees depth_max
a_missing_setting_is_told_whatever_others_rest_on = refl
