-- The grammar of scripts, one definition for each of its forms (Zeek manual, Script Reference).
use Rattle.std.specs.Prelude.{ℕ, Bool, false, List, [], ◌∷◌, Option, Some, None}
use Rattle.zk_tree.specs.declared.token.Sign.TheVariants as sign
use Rattle.zk_tree.specs.declared.keyword.Keyword.{Keyword}
use Rattle.zk_tree.specs.declared.keyword.Keyword.TheVariants as keyword
use Rattle.zk_tree.specs.declared.keyword.Mark.{Mark}
use Rattle.zk_tree.specs.declared.keyword.Mark.TheVariants.{Sign, Word}
use Rattle.zk_tree.specs.declared.name.Name.{Name}
use Rattle.zk_tree.specs.declared.operator.Assigning.{Assigning}
use Rattle.zk_tree.specs.declared.operator.Comparing.{Comparing}
use Rattle.zk_tree.specs.declared.operator.Level.{Level}
use Rattle.zk_tree.specs.declared.operator.Level.TheVariants as level
use Rattle.zk_tree.specs.declared.operator.TimeUnit.{TimeUnit}
use Rattle.zk_tree.specs.declared.expr.Expr.{Expr}
use Rattle.zk_tree.specs.declared.expr.Expr.TheVariants as expr
use Rattle.zk_tree.specs.declared.expr.Item.{Item}
use Rattle.zk_tree.specs.declared.expr.Item.TheVariants as item
use Rattle.zk_tree.specs.declared.expr.Link.{Link, roll-Link}
use Rattle.zk_tree.specs.declared.expr.Part.{Part}
use Rattle.zk_tree.specs.declared.expr.Part.TheVariants as part
use Rattle.zk_tree.specs.declared.types.«Type».{«Type» as TypeNode}
use Rattle.zk_tree.specs.declared.types.«Type».TheVariants as of
use Rattle.zk_tree.specs.declared.types.Field.{Field, roll-Field}
use Rattle.zk_tree.specs.declared.types.Param.{Param, roll-Param}
use Rattle.zk_tree.specs.declared.types.Attr.{Attr}
use Rattle.zk_tree.specs.declared.stmt.Init.{Init}
use Rattle.zk_tree.specs.declared.stmt.Init.TheVariants as init
use Rattle.zk_tree.specs.declared.stmt.Keys.{Keys}
use Rattle.zk_tree.specs.declared.stmt.Keys.TheVariants as keys
use Rattle.zk_tree.specs.declared.stmt.Block.{Block, roll-Block}
use Rattle.zk_tree.specs.declared.stmt.Stmt.{Stmt}
use Rattle.zk_tree.specs.declared.stmt.Stmt.TheVariants as stmt
use Rattle.zk_tree.specs.declared.decl.Redefinition.{Redefinition}
use Rattle.zk_tree.specs.declared.decl.Redefinition.TheVariants as redefinition
use Rattle.zk_tree.specs.declared.decl.Decl.{Decl}
use Rattle.zk_tree.specs.declared.decl.Decl.TheVariants as decl
use Rattle.zk_tree.specs.Classes.{ANAME, ANUMBER, AUNIT, ALITERAL, ANATTRIBUTE, ALOAD, operator_in, comparing_in, assigning_in, prefix_in, truth_in, container_in, atomic_in, lasting_in, redefining_in, body_in}
use Rattle.zk_tree.specs.Rules.{Grammar, Alone, OneOf, Of, Nested, Placed, After, Before, Then, Made, Either, Optional, Nearest, Many, Listed, Enclosed, Until, Trailing, Nest, AnExpr, ACond, AUnary, AType, AStmt, ADecl}

-- ---- lists

-- one or more, with commas between
abbrev pub listed : {A : Type 0} → Grammar A → Grammar (List A)
listed g = Listed g (Sign sign.Comma)

-- any number between two marks, with commas between
abbrev pub enclosed : {A : Type 0} → Mark → Grammar A → Mark → Grammar (List A)
enclosed opening g closing = Enclosed opening g (Sign sign.Comma) closing

-- between parentheses
abbrev pub in_parentheses : {A : Type 0} → Grammar A → Grammar A
in_parentheses g = After (Sign sign.OpenParenthesis) (Before g (Sign sign.CloseParenthesis))

abbrev pub nothing : {A : Type 0} → Unit {0} → Option A
nothing x = None

abbrev pub something : {A : Type 0} → A → Option A
something a = Some a

-- a mark, before which something may stand
abbrev pub perhaps : {A : Type 0} → Grammar A → Mark → Grammar (Option A)
perhaps g m = Either (Made nothing (Alone m)) (Made something (Before g m))

-- ---- names

abbrev pub name_of : ℕ × List ℕ → Name
name_of x = record { place = x.0; text = x.1 }

abbrev pub name : Grammar Name
name = Made name_of (Placed (Of ANAME))

-- ---- the nodes that stand in lists

unfoldable pub an_expr : Grammar Expr
an_expr = Nested AnExpr

unfoldable pub a_type : Grammar TypeNode
a_type = Nested AType

unfoldable pub a_stmt : Grammar Stmt
a_stmt = Nested AStmt

unfoldable pub a_decl : Grammar Decl
a_decl = Nested ADecl

-- ---- expressions

abbrev pub value_item : Expr → Item
value_item e = item.Value e

abbrev pub field_item : ℕ × (Name × Expr) → Item
field_item x = item.Field x.0 x.1.0 x.1.1

-- `$NAME=a`
unfoldable pub named_item : Grammar Item
named_item = Made field_item (Placed (After (Sign sign.Dollar) (Then name (After (Sign sign.Equal) (Nested AnExpr)))))

unfoldable pub an_item : Grammar Item
an_item = Either named_item (Made value_item (Nested AnExpr))

-- `(a, $f=b)`
unfoldable pub args : Grammar (List Item)
args = enclosed (Sign sign.OpenParenthesis) an_item (Sign sign.CloseParenthesis)

abbrev pub field_part : Name → Part
field_part n = part.Field n

abbrev pub has_field_part : Name → Part
has_field_part n = part.HasField n

abbrev pub index_part : List Expr → Part
index_part keys = part.Index keys

abbrev pub call_part : List Item → Part
call_part items = part.Call items

-- `[a, b]` behind what is indexed
unfoldable pub index : Grammar (List Expr)
index = After (Sign sign.OpenBracket) (Before (listed an_expr) (Sign sign.CloseBracket))

unfoldable pub a_part : Grammar Part
a_part =
    Either (Made field_part (After (Sign sign.Dollar) name))
    (Either (Made has_field_part (After (Sign sign.QuestionDollar) name))
    (Either (Made index_part index) (Made call_part args)))

abbrev pub number_of : ℕ → ℕ → Option (TimeUnit × Bool) → Expr
number_of place number None = expr.Number place number
number_of place number (Some unit) = expr.Interval place number unit.0 unit.1

abbrev pub number_expr : ℕ × (ℕ × Option (TimeUnit × Bool)) → Expr
number_expr x = number_of x.0 x.1.0 x.1.1

-- `5`, `5 min`
abbrev pub number : Grammar Expr
number = Made number_expr (Placed (Optional (Of ANUMBER) (Of AUNIT)))

abbrev pub literal : Grammar Expr
literal = Made (λ x. expr.Literal x.0 x.1) (Placed (Of ALITERAL))

abbrev pub truth : Grammar Expr
truth = Made (λ x. expr.Truth x.0 x.1) (Placed (OneOf truth_in))

abbrev pub name_expr : Grammar Expr
name_expr = Made (λ n. expr.Name n) name

unfoldable pub parenthesis : Grammar Expr
parenthesis = Made (λ x. expr.Parenthesis x.0 x.1) (Placed (in_parentheses (Nested AnExpr)))

-- `|a|`
unfoldable pub size : Grammar Expr
size = Made (λ x. expr.Size x.0 x.1) (Placed (After (Sign sign.Bar) (Before (Nested AnExpr) (Sign sign.Bar))))

-- `[a, b]`, `[$f=a]`
unfoldable pub list : Grammar Expr
list = Made (λ x. expr.List x.0 x.1) (Placed (enclosed (Sign sign.OpenBracket) an_item (Sign sign.CloseBracket)))

-- `table(..)`, `set(..)`, `vector(..)`
unfoldable pub make : Grammar Expr
make = Made (λ x. expr.Make x.0 x.1.0 x.1.1) (Placed (Then (OneOf container_in) args))

unfoldable pub hook_call : Grammar Expr
hook_call = Made (λ x. expr.Hook x.0 x.1.0 x.1.1) (Placed (After (Word keyword.Hook) (Then name args)))

unfoldable pub prim : Grammar Expr
prim =
    Either number (Either literal (Either truth (Either name_expr (Either parenthesis (Either size (Either list (Either make hook_call)))))))

abbrev pub posted : Expr → List Part → Expr
posted first [] = first
posted first (part ∷ parts) = expr.Post first (part ∷ parts)

abbrev pub post_expr : Expr × List Part → Expr
post_expr x = posted x.0 x.1

unfoldable pub post : Grammar Expr
post = Made post_expr (Many prim a_part)

-- `!a`, `-a`, `++a`, `--a`
unfoldable pub prefixed : Grammar Expr
prefixed = Made (λ x. expr.Unary x.0 x.1.0 x.1.1) (Placed (Then (OneOf prefix_in) (Nested AUnary)))

unfoldable pub unary : Grammar Expr
unary = Either prefixed post

-- an operator of a level, and an operand
abbrev pub a_link : Level → Grammar Expr → Grammar Link
a_link level operand = Made (λ x. roll-Link (record { operator = x.0; operand = x.1 })) (Then (OneOf (operator_in level)) operand)

abbrev pub chained : Level → Expr → List Link → Expr
chained level first [] = first
chained level first (link ∷ links) = expr.Chain level first (link ∷ links)

abbrev pub chain_expr : Level → Expr × List Link → Expr
chain_expr level x = chained level x.0 x.1

-- operands with operators of a level between
abbrev pub chain : Level → Grammar Expr → Grammar Expr
chain level operand = Made (chain_expr level) (Many operand (a_link level operand))

-- an operand of `*`
unfoldable pub an_operand : Grammar Expr
an_operand = Nested AUnary

unfoldable pub term : Grammar Expr
term = chain level.Term an_operand

unfoldable pub sum : Grammar Expr
sum = chain level.Sum term

abbrev pub compared : Expr → Option (Comparing × Expr) → Expr
compared left None = left
compared left (Some right) = expr.Compare left right.0 right.1

abbrev pub compare_expr : Expr × Option (Comparing × Expr) → Expr
compare_expr x = compared x.0 x.1

unfoldable pub compare : Grammar Expr
compare = Made compare_expr (Optional sum (Then (OneOf comparing_in) sum))

unfoldable pub conjunction : Grammar Expr
conjunction = chain level.And compare

unfoldable pub disjunction : Grammar Expr
disjunction = chain level.Or conjunction

abbrev pub chosen : Expr → Option (Expr × Expr) → Expr
chosen test None = test
chosen test (Some either) = expr.Choice test either.0 either.1

abbrev pub choice_expr : Expr × Option (Expr × Expr) → Expr
choice_expr x = chosen x.0 x.1

-- `? b : c`
unfoldable pub arms : Grammar (Expr × Expr)
arms = After (Sign sign.Question) (Then (Nested AnExpr) (After (Sign sign.Colon) (Nested ACond)))

-- `a`, `a ? b : c`
unfoldable pub choice : Grammar Expr
choice = Made choice_expr (Optional disjunction arms)

abbrev pub assigned : Expr → Option (Assigning × Expr) → Expr
assigned left None = left
assigned left (Some right) = expr.Assign left right.0 right.1

abbrev pub assign_expr : Expr × Option (Assigning × Expr) → Expr
assign_expr x = assigned x.0 x.1

-- `a`, `a = b`
unfoldable pub assignment : Grammar Expr
assignment = Made assign_expr (Optional (Nested ACond) (Then (OneOf assigning_in) (Nested AnExpr)))

-- ---- types

-- `&NAME`, `&NAME=a`
abbrev pub attr_of : ℕ × (List ℕ × Option Expr) → Attr
attr_of x = record { place = x.0; name = x.1.0; value = x.1.1 }

unfoldable pub attr : Grammar Attr
attr = Made attr_of (Placed (Optional (Of ANATTRIBUTE) (After (Sign sign.Equal) (Nested AUnary))))

abbrev pub param_of : Name × TypeNode → Param
param_of x = roll-Param (record { name = x.0; param_type = x.1 })

-- `NAME: TYPE`
unfoldable pub typed : Grammar (Name × TypeNode)
typed = Then name (After (Sign sign.Colon) (Nested AType))

unfoldable pub param : Grammar Param
param = Made param_of typed

unfoldable pub params : Grammar (List Param)
params = enclosed (Sign sign.OpenParenthesis) param (Sign sign.CloseParenthesis)

abbrev pub field_of : (Name × TypeNode) × List Attr → Field
field_of x = roll-Field (record { name = x.0.0; field_type = x.0.1; attrs = x.1 })

unfoldable pub field : Grammar Field
field = Made field_of (Before (Many typed attr) (Sign sign.Semicolon))

-- fields between braces
unfoldable pub fields : Grammar (List Field)
fields = After (Sign sign.OpenBrace) (Until field (Sign sign.CloseBrace))

-- words between braces
abbrev pub words : Grammar (List Name × Bool)
words = After (Sign sign.OpenBrace) (Trailing name (Sign sign.Comma) (Sign sign.CloseBrace))

abbrev pub atomic_type : Grammar TypeNode
atomic_type = Made (λ x. of.Atomic x.0 x.1) (Placed (OneOf atomic_in))

abbrev pub named_type : Grammar TypeNode
named_type = Made (λ n. of.Named n) name

-- the types of keys
unfoldable pub key_types : Grammar (List TypeNode)
key_types = After (Sign sign.OpenBracket) (Before (listed a_type) (Sign sign.CloseBracket))

unfoldable pub table_type : Grammar TypeNode
table_type = Made (λ x. of.Table x.0 x.1.0 x.1.1) (Placed (After (Word keyword.Table) (Then key_types (After (Word keyword.Of) (Nested AType)))))

unfoldable pub set_type : Grammar TypeNode
set_type = Made (λ x. of.Set x.0 x.1) (Placed (After (Word keyword.Set) key_types))

unfoldable pub vector_type : Grammar TypeNode
vector_type = Made (λ x. of.Vector x.0 x.1) (Placed (After (Word keyword.Vector) (After (Word keyword.Of) (Nested AType))))

unfoldable pub record_type : Grammar TypeNode
record_type = Made (λ x. of.Record x.0 x.1) (Placed (After (Word keyword.Record) fields))

unfoldable pub enum_type : Grammar TypeNode
enum_type = Made (λ x. of.Enum x.0 x.1.0 x.1.1) (Placed (After (Word keyword.Enum) words))

unfoldable pub event_type : Grammar TypeNode
event_type = Made (λ x. of.Event x.0 x.1) (Placed (After (Word keyword.Event) params))

unfoldable pub hook_type : Grammar TypeNode
hook_type = Made (λ x. of.Hook x.0 x.1) (Placed (After (Word keyword.Hook) params))

-- `(..)`, `(..): RESULT`
unfoldable pub signature : Grammar (List Param × Option TypeNode)
signature = Optional params (After (Sign sign.Colon) (Nested AType))

abbrev pub function_from : ℕ → List Param → Option TypeNode → TypeNode
function_from place params None = of.Procedure place params
function_from place params (Some result) = of.Function place params result

unfoldable pub function_type : Grammar TypeNode
function_type =
    Made (λ x. function_from x.0 x.1.0 x.1.1) (Placed (After (Word keyword.Function) signature))

unfoldable pub other_type : Grammar TypeNode
other_type = Either record_type (Either enum_type (Either event_type (Either hook_type function_type)))

unfoldable pub type_node : Grammar TypeNode
type_node = Either atomic_type (Either named_type (Either table_type (Either set_type (Either vector_type other_type))))

-- ---- statements

abbrev pub no_values : Unit {0} → List Expr × Bool
no_values x = ([], false)

-- `a, b` between braces, or nothing
unfoldable pub brace_values : Grammar (List Expr × Bool)
brace_values = Either (Made no_values (Alone (Sign sign.CloseBrace))) (Trailing an_expr (Sign sign.Comma) (Sign sign.CloseBrace))

abbrev pub braced : ℕ × (List Expr × Bool) → Init
braced x = init.Braces x.0 x.1.0 x.1.1

-- `{ a, b, }`
unfoldable pub braces : Grammar Init
braces = Made braced (Placed (After (Sign sign.OpenBrace) brace_values))

unfoldable pub initial : Grammar Init
initial = Either braces (Made (λ e. init.Value e) (Nested AnExpr))

-- `NAME`, `NAME: TYPE`
unfoldable pub perhaps_typed : Grammar (Name × Option TypeNode)
perhaps_typed = Optional name (After (Sign sign.Colon) (Nested AType))

-- `NAME`, `NAME: TYPE`, `NAME = INIT`, `NAME: TYPE = INIT`
unfoldable pub variable : Grammar ((Name × Option TypeNode) × Option Init)
variable = Optional perhaps_typed (After (Sign sign.Equal) initial)

abbrev pub block_of : ℕ × List Stmt → Block
block_of x = roll-Block (record { place = x.0; stmts = x.1 })

unfoldable pub block : Grammar Block
block = Made block_of (Placed (After (Sign sign.OpenBrace) (Until a_stmt (Sign sign.CloseBrace))))

unfoldable pub block_stmt : Grammar Stmt
block_stmt = Made (λ b. stmt.Block b) block

-- a statement of one word
abbrev pub word_stmt : (ℕ → Stmt) → Keyword → Grammar Stmt
word_stmt make k = Made (λ x. make x.0) (Placed (After (Word k) (Alone (Sign sign.Semicolon))))

abbrev pub empty_stmt : Grammar Stmt
empty_stmt = Made (λ x. stmt.Empty x.0) (Placed (Alone (Sign sign.Semicolon)))

-- `(a) STMT`
unfoldable pub guarded : Grammar (Expr × Stmt)
guarded = Then (in_parentheses (Nested AnExpr)) (Nested AStmt)

abbrev pub if_from : ℕ → Expr → Stmt → Option Stmt → Stmt
if_from place test body None = stmt.If place test body
if_from place test body (Some other) = stmt.IfElse place test body other

-- `(a) STMT`, `(a) STMT else STMT`: an `else` belongs to the nearest `if`
unfoldable pub perhaps_else : Grammar ((Expr × Stmt) × Option Stmt)
perhaps_else = Nearest guarded (Word keyword.Else) (Nested AStmt)

unfoldable pub if_stmt : Grammar Stmt
if_stmt = Made (λ x. if_from x.0 x.1.0.0 x.1.0.1 x.1.1) (Placed (After (Word keyword.If) perhaps_else))

unfoldable pub while_stmt : Grammar Stmt
while_stmt = Made (λ x. stmt.While x.0 x.1.0 x.1.1) (Placed (After (Word keyword.While) guarded))

-- `NAME`, `[NAME, ..]`
unfoldable pub for_keys : Grammar Keys
for_keys =
    Either (Made (λ names. keys.Several names) (After (Sign sign.OpenBracket) (Before (listed name) (Sign sign.CloseBracket))))
    (Made (λ n. keys.One n) name)

-- `NAME`, `NAME, NAME`
unfoldable pub for_names : Grammar (Keys × Option Name)
for_names = Optional for_keys (After (Sign sign.Comma) name)

-- `(NAME, NAME in a)`
unfoldable pub for_head : Grammar ((Keys × Option Name) × Expr)
for_head = in_parentheses (Then for_names (After (Word keyword.In) (Nested AnExpr)))

unfoldable pub for_stmt : Grammar Stmt
for_stmt = Made (λ x. stmt.For x.0 x.1.0.0.0 x.1.0.0.1 x.1.0.1 x.1.1) (Placed (After (Word keyword.For) (Then for_head (Nested AStmt))))

unfoldable pub local_stmt : Grammar Stmt
local_stmt = Made (λ x. stmt.Local x.0 x.1.0.0 x.1.0.1 x.1.1) (Placed (After (Word keyword.Local) (Before variable (Sign sign.Semicolon))))

-- `a, b`
unfoldable pub some_exprs : Grammar (List Expr)
some_exprs = listed an_expr

unfoldable pub print_stmt : Grammar Stmt
print_stmt = Made (λ x. stmt.Print x.0 x.1) (Placed (After (Word keyword.Print) (Before some_exprs (Sign sign.Semicolon))))

-- `NAME(..)`
unfoldable pub named_args : Grammar (Name × List Item)
named_args = Then name args

unfoldable pub event_stmt : Grammar Stmt
event_stmt = Made (λ x. stmt.Event x.0 x.1.0 x.1.1) (Placed (After (Word keyword.Event) (Before named_args (Sign sign.Semicolon))))

-- `{ NAME(..) }`
unfoldable pub scheduled : Grammar (Name × List Item)
scheduled = After (Sign sign.OpenBrace) (Before named_args (Sign sign.CloseBrace))

unfoldable pub schedule_stmt : Grammar Stmt
schedule_stmt = Made (λ x. stmt.Schedule x.0 x.1.0 x.1.1.0 x.1.1.1) (Placed (After (Word keyword.Schedule) (
    Then (Nested AnExpr) (Before scheduled (Sign sign.Semicolon)))))

unfoldable pub add_stmt : Grammar Stmt
add_stmt = Made (λ x. stmt.Add x.0 x.1) (Placed (After (Word keyword.Add) (Before (Nested AnExpr) (Sign sign.Semicolon))))

unfoldable pub delete_stmt : Grammar Stmt
delete_stmt = Made (λ x. stmt.Delete x.0 x.1) (Placed (After (Word keyword.Delete) (Before (Nested AnExpr) (Sign sign.Semicolon))))

-- `;`, `a;`
unfoldable pub returned : Grammar (Option Expr)
returned = perhaps (Nested AnExpr) (Sign sign.Semicolon)

unfoldable pub return_stmt : Grammar Stmt
return_stmt = Made (λ x. stmt.Return x.0 x.1) (Placed (After (Word keyword.Return) returned))

abbrev pub next_stmt : Grammar Stmt
next_stmt = word_stmt (λ place. stmt.Next place) keyword.Next

abbrev pub break_stmt : Grammar Stmt
break_stmt = word_stmt (λ place. stmt.Break place) keyword.Break

unfoldable pub expr_stmt : Grammar Stmt
expr_stmt = Made (λ e. stmt.Expr e) (Before (Nested AnExpr) (Sign sign.Semicolon))

unfoldable pub short_stmt : Grammar Stmt
short_stmt = Either add_stmt (Either delete_stmt (Either return_stmt (Either next_stmt (Either break_stmt expr_stmt))))

unfoldable pub plain_stmt : Grammar Stmt
plain_stmt = Either local_stmt (Either print_stmt (Either event_stmt (Either schedule_stmt short_stmt)))

unfoldable pub statement : Grammar Stmt
statement = Either block_stmt (Either empty_stmt (Either if_stmt (Either while_stmt (Either for_stmt plain_stmt))))

-- ---- declarations

abbrev pub module_decl : Grammar Decl
module_decl = Made (λ x. decl.Module x.0 x.1) (Placed (After (Word keyword.Module) (Before name (Sign sign.Semicolon))))

unfoldable pub export_decl : Grammar Decl
export_decl =
    Made (λ x. decl.Export x.0 x.1) (Placed (After (Word keyword.Export) (After (Sign sign.OpenBrace) (Until a_decl (Sign sign.CloseBrace)))))

abbrev pub load_decl : Grammar Decl
load_decl = Made (λ x. decl.Load x.0 x.1) (Placed (Of ALOAD))

-- a variable and its attributes
unfoldable pub declared : Grammar (((Name × Option TypeNode) × Option Init) × List Attr)
declared = Many variable attr

unfoldable pub variable_decl : Grammar Decl
variable_decl = Made (λ x. decl.Variable x.0 x.1.0 x.1.1.0.0.0 x.1.1.0.0.1 x.1.1.0.1 x.1.1.1)
    (Placed (Then (OneOf lasting_in) (Before declared (Sign sign.Semicolon))))

unfoldable pub type_decl : Grammar Decl
type_decl = Made (λ x. decl.Type x.0 x.1.0 x.1.1) (Placed (After (Word keyword.Type) (Before typed (Sign sign.Semicolon))))

-- `enum NAME += { .. }`
unfoldable pub redef_enum : Grammar Redefinition
redef_enum = Made (λ x. redefinition.Enum x.0 x.1.0 x.1.1) (After (Word keyword.Enum) (Then name (After (Sign sign.PlusEqual) words)))

-- `record NAME += { .. }`
unfoldable pub redef_record : Grammar Redefinition
redef_record = Made (λ x. redefinition.Record x.0 x.1) (After (Word keyword.Record) (Then name (After (Sign sign.PlusEqual) fields)))

-- `NAME = INIT`, `NAME += INIT`
unfoldable pub redef_value : Grammar Redefinition
redef_value = Made (λ x. redefinition.Value x.0 x.1.0 x.1.1) (Then name (Then (OneOf redefining_in) initial))

unfoldable pub redefined : Grammar Redefinition
redefined = Either redef_enum (Either redef_record redef_value)

abbrev pub redefine : ℕ → Redefinition → Decl
redefine place (redefinition.Value name operator value) = decl.Redef place name operator value
redefine place (redefinition.Enum name words comma) = decl.RedefEnum place name words comma
redefine place (redefinition.Record name fields) = decl.RedefRecord place name fields

unfoldable pub redef_decl : Grammar Decl
redef_decl = Made (λ x. redefine x.0 x.1) (Placed (After (Word keyword.Redef) (Before redefined (Sign sign.Semicolon))))

-- parameters and attributes
unfoldable pub handled : Grammar (List Param × List Attr)
handled = Many params attr

unfoldable pub body_decl : Grammar Decl
body_decl = Made (λ x. decl.Body x.0 x.1.0 x.1.1.0 x.1.1.1.0.0 x.1.1.1.0.1 x.1.1.1.1)
    (Placed (Then (OneOf body_in) (Then name (Then handled block))))

unfoldable pub function_decl : Grammar Decl
function_decl = Made (λ x. decl.Function x.0 x.1.0 x.1.1.0.0 x.1.1.0.1 x.1.1.1)
    (Placed (After (Word keyword.Function) (Then name (Then signature block))))

unfoldable pub common_decl : Grammar Decl
common_decl = Either type_decl (Either redef_decl (Either body_decl function_decl))

unfoldable pub declaration : Grammar Decl
declaration = Either module_decl (Either export_decl (Either load_decl (Either variable_decl common_decl)))

-- the grammar of the nodes of each kind
abbrev pub node : {A : Type 0} → Nest A → Grammar A
node AnExpr = assignment
node ACond = choice
node AUnary = unary
node AType = type_node
node AStmt = statement
node ADecl = declaration
