-- What texts are as trees, each form of the grammar at least once, computed by the checker. The places are those of bytes.
use Rattle.std.proofs.Common.{◌≡◌, ℕ, true, false, List, [], ◌∷◌, ◌++◌, drop, codes, Option, Some, None, Result, Ok, Err, refl}
use Rattle.zk_base.specs.declared.network.Proto.TheVariants.{Tcp, Udp}
use Rattle.zk_tree.specs.declared.name.Name.{Name}
use Rattle.zk_tree.specs.declared.token.Token.{Token}
use Rattle.zk_tree.specs.declared.operator.Assigning.TheVariants as assigning
use Rattle.zk_tree.specs.declared.operator.Comparing.TheVariants as comparing
use Rattle.zk_tree.specs.declared.operator.Container.TheVariants as container
use Rattle.zk_tree.specs.declared.operator.Level.TheVariants as level
use Rattle.zk_tree.specs.declared.operator.Operator.{Operator}
use Rattle.zk_tree.specs.declared.operator.Operator.TheVariants as operator
use Rattle.zk_tree.specs.declared.operator.Prefix.TheVariants as prefix
use Rattle.zk_tree.specs.declared.operator.TimeUnit.TheVariants as unit
use Rattle.zk_tree.specs.declared.expr.Expr.{Expr}
use Rattle.zk_tree.specs.declared.expr.Expr.TheVariants as expr
use Rattle.zk_tree.specs.declared.expr.Item.TheVariants as item
use Rattle.zk_tree.specs.declared.expr.Link.{Link, roll-Link}
use Rattle.zk_tree.specs.declared.expr.Literal.TheVariants as literal
use Rattle.zk_tree.specs.declared.expr.Part.TheVariants as part
use Rattle.zk_tree.specs.declared.types.Atomic.TheVariants as atomic
use Rattle.zk_tree.specs.declared.types.Attr.{Attr}
use Rattle.zk_tree.specs.declared.types.Field.{Field, roll-Field}
use Rattle.zk_tree.specs.declared.types.Param.{Param, roll-Param}
use Rattle.zk_tree.specs.declared.types.«Type».{«Type» as TypeNode}
use Rattle.zk_tree.specs.declared.types.«Type».TheVariants as kind
use Rattle.zk_tree.specs.declared.stmt.Block.{Block, roll-Block}
use Rattle.zk_tree.specs.declared.stmt.Init.TheVariants as init
use Rattle.zk_tree.specs.declared.stmt.Keys.TheVariants as keys
use Rattle.zk_tree.specs.declared.stmt.Stmt.{Stmt}
use Rattle.zk_tree.specs.declared.stmt.Stmt.TheVariants as stmt
use Rattle.zk_tree.specs.declared.decl.BodyKind.TheVariants as body
use Rattle.zk_tree.specs.declared.decl.Decl.{Decl}
use Rattle.zk_tree.specs.declared.decl.Decl.TheVariants as decl
use Rattle.zk_tree.specs.declared.decl.Lasting.TheVariants as lasting
use Rattle.zk_tree.specs.declared.decl.Redefining.TheVariants as redefining
use Rattle.zk_tree.specs.declared.decl.Tree.{Tree}
use Rattle.zk_tree.specs.Rules.{place_of}
use Rattle.zk_token.specs.Fault.{Fault, BadByte, OpenString, BigNumber}
use Rattle.zk_token.specs.Tokens.{tokens_of}
use Rattle.zk_parse.specs.Opening.{reading}
use Rattle.zk_parse.specs.Trees.{tree_of}

-- Words for trees -------------------------------------------------------------------------------------------------

abbrev a : ℕ → Name
a place = record { place = place; text = codes "a" }

abbrev b : ℕ → Name
b place = record { place = place; text = codes "b" }

abbrev c : ℕ → Name
c place = record { place = place; text = codes "c" }

abbrev f : ℕ → Name
f place = record { place = place; text = codes "f" }

-- a name as an expression
abbrev of : Name → Expr
of name = expr.Name name

abbrev link : Operator → Expr → Link
link operator operand = roll-Link (record { operator = operator; operand = operand })

abbrev attr : ℕ → List ℕ → Option Expr → Attr
attr place name value = record { place = place; name = name; value = value }

abbrev field : Name → TypeNode → List Attr → Field
field name type attrs = roll-Field (record { name = name; field_type = type; attrs = attrs })

abbrev param : Name → TypeNode → Param
param name type = roll-Param (record { name = name; param_type = type })

abbrev block : ℕ → List Stmt → Block
block place stmts = roll-Block (record { place = place; stmts = stmts })

-- Words for texts -------------------------------------------------------------------------------------------------

-- the declarations, or the byte at which one should begin and none reads
abbrev told : List Token → Result Tree ℕ → Result (List Decl) (Option ℕ)
told tokens (Ok tree) = Ok tree.decls
told tokens (Err at) = Err (Some (place_of (drop at tokens)))

abbrev read : Result (List Token) Fault → Result (List Decl) (Option ℕ)
read (Ok tokens) = told tokens (tree_of tokens)
read (Err fault) = Err None

-- a text is these declarations
abbrev Reads : List ℕ → List Decl → Type 0
Reads text decls = read (tokens_of text) ≡ Ok decls

-- a text is refused at a byte
abbrev Refuses : List ℕ → ℕ → Type 0
Refuses text place = read (tokens_of text) ≡ Err (Some place)

-- a text has this fault, and so no tokens
abbrev Faults : List ℕ → Fault → Type 0
Faults text fault = tokens_of text ≡ Err fault

-- a text behind `function f() { ` is these statements
abbrev IsStmts : List ℕ → List Stmt → Type 0
IsStmts text stmts = Reads (codes "function f() { " ++ text ++ codes " }") (decl.Function 0 (f 9) [] None (block 13 stmts) ∷ [])

-- a text behind `function f() { ` is this expression
abbrev IsExpr : List ℕ → Expr → Type 0
IsExpr text value = IsStmts (text ++ codes ";") (stmt.Expr value ∷ [])

-- a text behind `type f: ` is this type
abbrev IsType : List ℕ → TypeNode → Type 0
IsType text type = Reads (codes "type f: " ++ text ++ codes ";") (decl.Type 0 (f 5) type ∷ [])

-- Texts -----------------------------------------------------------------------------------------------------------

-- an assignment is one to the right
assignments : IsExpr (codes "a = b += c -= a") (expr.Assign (of (a 15)) assigning.Set (expr.Assign (of (b 19)) assigning.Add (expr.Assign (of (c 24)) assigning.Subtract (of (a 29)))))
unfolding reading
assignments = refl

-- a choice behind a colon
choices : IsExpr (codes "a ? b : c ? a : b") (expr.Choice (of (a 15)) (of (b 19)) (expr.Choice (of (c 23)) (of (a 27)) (of (b 31))))
unfolding reading
choices = refl

-- `&&` binds tighter than `||`
disjunctions : IsExpr (codes "a || b && c || a") (expr.Chain level.Or (of (a 15)) (link operator.Or (expr.Chain level.And (of (b 20)) (link operator.And (of (c 25)) ∷ [])) ∷ link operator.Or (of (a 30)) ∷ []))
unfolding reading
disjunctions = refl

-- each comparison
comparisons : IsStmts (codes "print a == b, a != b, a < b, a <= b, a > b, a >= b, a in b, a !in b;") (stmt.Print 15 (expr.Compare (of (a 21)) comparing.Equal (of (b 26)) ∷ expr.Compare (of (a 29)) comparing.NotEqual (of (b 34)) ∷ expr.Compare (of (a 37)) comparing.Less (of (b 41)) ∷ expr.Compare (of (a 44)) comparing.LessEqual (of (b 49)) ∷ expr.Compare (of (a 52)) comparing.Greater (of (b 56)) ∷ expr.Compare (of (a 59)) comparing.GreaterEqual (of (b 64)) ∷ expr.Compare (of (a 67)) comparing.In (of (b 72)) ∷ expr.Compare (of (a 75)) comparing.NotIn (of (b 81)) ∷ []) ∷ [])
unfolding reading
comparisons = refl

-- to the left, and terms before sums
sums : IsExpr (codes "a + b - c * a / b % c") (expr.Chain level.Sum (of (a 15)) (link operator.Plus (of (b 19)) ∷ link operator.Minus (expr.Chain level.Term (of (c 23)) (link operator.Times (of (a 27)) ∷ link operator.Over (of (b 31)) ∷ link operator.Modulo (of (c 35)) ∷ [])) ∷ []))
unfolding reading
sums = refl

-- each prefix
prefixes : IsExpr (codes "!-++--a") (expr.Unary 15 prefix.Not (expr.Unary 16 prefix.Negate (expr.Unary 17 prefix.Increment (expr.Unary 19 prefix.Decrement (of (a 21))))))
unfolding reading
prefixes = refl

-- what stands behind an operand
parts : IsExpr (codes "a$b?$c[a, b]($b=a, c)()") (expr.Post (of (a 15)) (part.Field (b 17) ∷ part.HasField (c 20) ∷ part.Index ((of (a 22)) ∷ (of (b 25)) ∷ []) ∷ part.Call (item.Field 28 (b 29) (of (a 31)) ∷ item.Value (of (c 34)) ∷ []) ∷ part.Call [] ∷ []))
unfolding reading
parts = refl

-- what one token writes, and units
values : IsStmts (codes "print 5, 5 usec, 5 msecs, 5 sec, 5 mins, 5 hr, 5 days, \"a\", 80/tcp, 53/udp, 1.2.3.4, 1.2.3.4/8, T, F;") (stmt.Print 15 (expr.Number 21 5 ∷ expr.Interval 24 5 unit.Microsecond false ∷ expr.Interval 32 5 unit.Millisecond true ∷ expr.Interval 41 5 unit.Second false ∷ expr.Interval 48 5 unit.Minute true ∷ expr.Interval 56 5 unit.Hour false ∷ expr.Interval 62 5 unit.Day true ∷ expr.Literal 70 (literal.String (codes "a")) ∷ expr.Literal 75 (literal.Port 80 Tcp) ∷ expr.Literal 83 (literal.Port 53 Udp) ∷ expr.Literal 91 (literal.Address 16909060) ∷ expr.Literal 100 (literal.Subnet 16777216 8) ∷ expr.Truth 111 true ∷ expr.Truth 114 false ∷ []) ∷ [])
unfolding reading
values = refl

-- operands of other forms
operands : IsStmts (codes "print (a), |a|, [], [a, $b=c], table(), set(a), vector($b=a), hook c(a);") (stmt.Print 15 (expr.Parenthesis 21 (of (a 22)) ∷ expr.Size 26 (of (a 27)) ∷ expr.List 31 [] ∷ expr.List 35 (item.Value (of (a 36)) ∷ item.Field 39 (b 40) (of (c 42)) ∷ []) ∷ expr.Make 46 container.Table [] ∷ expr.Make 55 container.Set (item.Value (of (a 59)) ∷ []) ∷ expr.Make 63 container.Vector (item.Field 70 (b 71) (of (a 73)) ∷ []) ∷ expr.Hook 77 (c 82) (item.Value (of (a 84)) ∷ []) ∷ []) ∷ [])
unfolding reading
operands = refl

-- an `else` belongs to the nearest `if`
choices_of_statements : IsStmts (codes "{ ; } if ( a ) b; if ( a ) if ( b ) c; else a;") (stmt.Block (block 15 (stmt.Empty 17 ∷ [])) ∷ stmt.If 21 (of (a 26)) (stmt.Expr (of (b 30))) ∷ stmt.If 33 (of (a 38)) (stmt.IfElse 42 (of (b 47)) (stmt.Expr (of (c 51))) (stmt.Expr (of (a 59)))) ∷ [])
unfolding reading
choices_of_statements = refl

-- each loop
loops : IsStmts (codes "while ( a ) ; for ( a in b ) ; for ( [a, b], c in a ) ;") (stmt.While 15 (of (a 23)) (stmt.Empty 27) ∷ stmt.For 29 (keys.One (a 35)) None (of (b 40)) (stmt.Empty 44) ∷ stmt.For 46 (keys.Several ((a 53) ∷ (b 56) ∷ [])) (Some (c 60)) (of (a 65)) (stmt.Empty 69) ∷ [])
unfolding reading
loops = refl

-- variables of a body, and events
statements : IsStmts (codes "local a; local b: int = c; event a(b); schedule 5 sec { a(b) };") (stmt.Local 15 (a 21) None None ∷ stmt.Local 24 (b 30) (Some (kind.Atomic 33 atomic.Int)) (Some (init.Value (of (c 39)))) ∷ stmt.Event 42 (a 48) (item.Value (of (b 50)) ∷ []) ∷ stmt.Schedule 54 (expr.Interval 63 5 unit.Second false) (a 71) (item.Value (of (b 73)) ∷ []) ∷ [])
unfolding reading
statements = refl

-- statements of one expression, or none
short_statements : IsStmts (codes "add a[b]; delete a; return; return a; next; break; a;") (stmt.Add 15 (expr.Post (of (a 19)) (part.Index ((of (b 21)) ∷ []) ∷ [])) ∷ stmt.Delete 25 (of (a 32)) ∷ stmt.Return 35 None ∷ stmt.Return 43 (Some (of (a 50))) ∷ stmt.Next 53 ∷ stmt.Break 59 ∷ stmt.Expr (of (a 66)) ∷ [])
unfolding reading
short_statements = refl

-- types of one word, and attributes of a field
words_for_types : IsType (codes "record { a: bool; b: count; c: int; a: string; b: time; c: interval; a: addr; b: port; c: subnet &a=b &b; }") (kind.Record 8 (field (a 17) (kind.Atomic 20 atomic.Bool) [] ∷ field (b 26) (kind.Atomic 29 atomic.Count) [] ∷ field (c 36) (kind.Atomic 39 atomic.Int) [] ∷ field (a 44) (kind.Atomic 47 atomic.String) [] ∷ field (b 55) (kind.Atomic 58 atomic.Time) [] ∷ field (c 64) (kind.Atomic 67 atomic.Interval) [] ∷ field (a 77) (kind.Atomic 80 atomic.Addr) [] ∷ field (b 86) (kind.Atomic 89 atomic.Port) [] ∷ field (c 95) (kind.Atomic 98 atomic.Subnet) (attr 105 (codes "a") (Some (of (b 108))) ∷ attr 110 (codes "b") None ∷ []) ∷ []))
unfolding reading
words_for_types = refl

-- types with parts
types_with_parts : IsType (codes "record { a: table[b, c] of a; b: set[a]; c: vector of b; a: enum { a, b }; b: enum { a, }; }") (kind.Record 8 (field (a 17) (kind.Table 20 ((kind.Named (b 26)) ∷ (kind.Named (c 29)) ∷ []) (kind.Named (a 35))) [] ∷ field (b 38) (kind.Set 41 ((kind.Named (a 45)) ∷ [])) [] ∷ field (c 49) (kind.Vector 52 (kind.Named (b 62))) [] ∷ field (a 65) (kind.Enum 68 ((a 75) ∷ (b 78) ∷ []) false) [] ∷ field (b 83) (kind.Enum 86 ((a 93) ∷ []) true) [] ∷ []))
unfolding reading
types_with_parts = refl

-- types of what is called
called_types : IsType (codes "record { a: event(a: b, b: c); b: hook(); c: function(a: b); a: function(): b; }") (kind.Record 8 (field (a 17) (kind.Event 20 (param (a 26) (kind.Named (b 29)) ∷ param (b 32) (kind.Named (c 35)) ∷ [])) [] ∷ field (b 39) (kind.Hook 42 []) [] ∷ field (c 50) (kind.Procedure 53 (param (a 62) (kind.Named (b 65)) ∷ [])) [] ∷ field (a 69) (kind.Function 72 [] (kind.Named (b 84))) [] ∷ []))
unfolding reading
called_types = refl

-- variables that last
variables : Reads (codes "module a; export { module b; } @load a/b\nglobal a: b = c &a &b=-a; const b = { a, b, }; global c = {};") (decl.Module 0 (a 7) ∷ decl.Export 10 (decl.Module 19 (b 26) ∷ []) ∷ decl.Load 31 (codes "a/b") ∷ decl.Variable 41 lasting.Global (a 48) (Some (kind.Named (b 51))) (Some (init.Value (of (c 55)))) (attr 57 (codes "a") None ∷ attr 60 (codes "b") (Some (expr.Unary 63 prefix.Negate (of (a 64)))) ∷ []) ∷ decl.Variable 67 lasting.Const (b 73) None (Some (init.Braces 77 ((of (a 79)) ∷ (of (b 82)) ∷ []) true)) [] ∷ decl.Variable 88 lasting.Global (c 95) None (Some (init.Braces 99 [] false)) [] ∷ [])
unfolding reading
variables = refl

-- each redefinition, and a type
redefinitions : Reads (codes "redef a = b; redef a += { b }; redef enum a += { b, c, }; redef record a += { b: c; }; type a: b;") (decl.Redef 0 (a 6) redefining.Set (init.Value (of (b 10))) ∷ decl.Redef 13 (a 19) redefining.Add (init.Braces 24 ((of (b 26)) ∷ []) false) ∷ decl.RedefEnum 31 (a 42) ((b 49) ∷ (c 52) ∷ []) true ∷ decl.RedefRecord 58 (a 71) (field (b 78) (kind.Named (c 81)) [] ∷ []) ∷ decl.Type 87 (a 92) (kind.Named (b 95)) ∷ [])
unfolding reading
redefinitions = refl

-- what has a body
bodies : Reads (codes "event a(b: c) &a { } hook b() { } function c(): a { }") (decl.Body 0 body.Event (a 6) (param (b 8) (kind.Named (c 11)) ∷ []) (attr 14 (codes "a") None ∷ []) (block 17 []) ∷ decl.Body 21 body.Hook (b 26) [] [] (block 30 []) ∷ decl.Function 34 (c 43) [] (Some (kind.Named (a 48))) (block 50 []) ∷ [])
unfolding reading
bodies = refl

-- none begins with a number
no_declaration : Refuses (codes "global x: count; 5;") 17
unfolding reading
no_declaration = refl

-- comparisons do not associate
no_chain_of_comparisons : Refuses (codes "function f() { a == b == c; }") 0
unfolding reading
no_chain_of_comparisons = refl

-- one unit stands behind a number
no_second_unit : Refuses (codes "function f() { 5 sec sec; }") 0
unfolding reading
no_second_unit = refl

-- an index has a key
no_index_without_a_key : Refuses (codes "module M; function f() { a[]; }") 10
unfolding reading
no_index_without_a_key = refl

-- an `else` has one `if`
no_second_else : Refuses (codes "function f() { if ( a ) b; else c; else d; }") 0
unfolding reading
no_second_else = refl

-- a reserved word is no name
no_reserved_name : Refuses (codes "event e() {} global if;") 13
unfolding reading
no_reserved_name = refl

-- a list of words has one
no_empty_enum : Refuses (codes "type E: enum {};") 0
unfolding reading
no_empty_enum = refl

-- the last brace is missing
no_open_body : Refuses (codes "event e() {} event e() {") 13
unfolding reading
no_open_body = refl

-- Whole texts that are refused: the byte of the declaration, or the fault in the tokens ---------------------------

comparisons_in_a_row : Refuses (codes "# Comparisons don't follow one another.\nglobal a = ( 1 < 2 ) == T;\nglobal b = 1 < 2 == T;\n") 67
unfolding reading
comparisons_in_a_row = refl

statement_outside : Refuses (codes "# A statement outside of a body; the declaration before it is whole.\nglobal a = 1;\nprint a;\n") 83
unfolding reading
statement_outside = refl

within_an_export : Refuses (codes "# Within an export the place is that of the export.\nmodule M;\nexport {\n\tglobal a = 1;\n\tglobal b = ;\n}\n") 62
unfolding reading
within_an_export = refl

within_a_body : Refuses (codes "global a = 1;\n# However late in a body.\nevent zeek_init()\n\t{\n\tprint a;\n\tif ( a == 1 )\n\t\t{\n\t\tprint a\n\t\t}\n\t}\n") 40
unfolding reading
within_a_body = refl

field_of_a_reserved_name : Refuses (codes "# A reserved word is no name, also of a field.\ntype R: record { a: count; };\ntype S: record { set: count; };\n") 77
unfolding reading
field_of_a_reserved_name = refl

two_bars_are_one_sign : Refuses (codes "# Two bars without a blank are one sign.\nglobal v = vector(\"ab\");\nglobal a = | |v| - 1 |;\nglobal b = ||v| - 1|;\n") 90
unfolding reading
two_bars_are_one_sign = refl

missing_semicolon : Refuses (codes "# The place is where the declaration begins that doesn't read, not where it goes wrong.\nglobal a = 1;\nglobal b = 2\nglobal c = 3;\n") 102
unfolding reading
missing_semicolon = refl

braces_as_an_expression : Refuses (codes "# Braces give an initial value alone.\nglobal s: set[count] = { 1, 2, };\nevent zeek_init() { local t: set[count] = { 3 }; s = set(4); }\nevent zeek_init() { s = { 5 }; }\n") 135
unfolding reading
braces_as_an_expression = refl

nesting_past_the_limit : Refuses (codes "global a = (((((((((((((((((((((((((((((((((((((((((((((((((((((((((((((((((7)))))))))))))))))))))))))))))))))))))))))))))))))))))))))))))))));\n# One more.\nglobal b = ((((((((((((((((((((((((((((((((((((((((((((((((((((((((((((((((((7))))))))))))))))))))))))))))))))))))))))))))))))))))))))))))))))));\n") 156
unfolding reading
nesting_past_the_limit = refl

open_string_at_the_end : Faults (codes "global a = \"x\" + \"y\\\"") (OpenString 17)
open_string_at_the_end = refl

open_string_with_another_escape : Faults (codes "# The quote stands before the bad escape.\nglobal a = \"x\\qy;\n") (OpenString 53)
open_string_with_another_escape = refl

byte_of_no_token : Faults (codes "# A byte that begins no token. It is judged before the tree, which this file hasn't either.\nprint 1;\nevent zeek_init() { print 1 ~ 2; }\n") (BadByte 129)
byte_of_no_token = refl

escape_that_is_none : Faults (codes "# An escape that isn't there: the place of its backslash.\nevent zeek_init() { print \"fine\\n\", \"a\\q\"; }\n") (BadByte 96)
escape_that_is_none = refl

point_in_a_number : Faults (codes "# A number with a point is none, and three numbers make no address.\nglobal a = 1.2.3.4;\nglobal b = 1.5;\n") (BadByte 100)
point_in_a_number = refl

number_past_64_bits : Faults (codes "# Leading zeros don't make a number big, digits do; this one stands before the bad byte.\nglobal a = 00000000000000000000000000000001 sec;\nglobal b = 99999999999999999999 usec;\nglobal c = ~;\n") (BigNumber 149)
number_past_64_bits = refl
