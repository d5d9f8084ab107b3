-- What is lent, as the values that it stands for.
use Rattle.std.specs.Prelude.{List, ℕ, map}
use Rattle.std.specs.Borrow.{Bor}
use Rattle.std.specs.Option.{option_copied}
use Rattle.zk_tree.specs.declared.decl.Tree.{Tree}
use Rattle.zk_tree.specs.declared.types.Type.{«Type»}
use Rattle.zk_scope.specs.declared.home.Home.{Home as LentHome}
use Rattle.zk_scope.specs.declared.home.Stated.{Stated as LentStated}
use Rattle.zk_scope.specs.declared.node.Node.{Node as LentNode}
use Rattle.zk_scope.specs.declared.node.Node.TheVariants as lent
use Rattle.zk_scope.specs.declared.declared.Declared.{Declared as LentDeclared}
use Rattle.zk_scope.specs.declared.declared.LogFunction.{LogFunction as LentLogFunction}
use Rattle.zk_scope.specs.declared.declared.LogFunction.TheVariants as function
use Rattle.zk_scope.specs.declared.declared.Meant.{Meant as LentMeant}
use Rattle.zk_scope.specs.declared.declared.Meant.TheVariants as meant
use Rattle.zk_scope.specs.declared.declared.Signature.{Signature as LentSignature}
use Rattle.zk_scope.specs.declared.declared.Signature.TheVariants as signature
use Rattle.zk_typed.specs.Names.{Node, RecordNode, EnumNode, Declared, Meant, KnownType, WrittenType, Word, Variable, Event, Hook, Function, BuiltInFunction, Log, Signature, Known, Written, LogFunction, CreateStream, AddFilter, RemoveFilter, RemoveDefaultFilter, Write}
use Rattle.zk_typed.specs.View.{type_of}
use Rattle.zk_typed.specs.LoadOrder.{File, Home, Stated}

abbrev pub types_lent : List (Bor «Type») → List «Type»
types_lent types = map (λ one. one.now) types

abbrev pub file_of : List ℕ × Tree → File
file_of file = record { name = file.0; decls = file.1.decls }

abbrev pub files_of : List (List ℕ × Tree) → List File
files_of files = map file_of files

abbrev pub home_of : LentHome → Home
home_of home = record { file = home.file; module_name = home.module_name.now; exported = home.exported }

abbrev pub stated_of : LentStated → Stated
stated_of one = record { home = home_of one.home; decl = one.decl.now }

abbrev pub stated_lent : List LentStated → List Stated
stated_lent stated = map stated_of stated

abbrev pub node_of : LentNode → Node
node_of (lent.Record home place fields) = RecordNode (home_of home) place fields.now
node_of (lent.Enum home place words) = EnumNode (home_of home) place words.now

abbrev pub nodes_lent : List LentNode → List Node
nodes_lent nodes = map node_of nodes

abbrev pub signature_of : LentSignature → Signature
signature_of (signature.Known params) = Known (map type_of params.items)
signature_of (signature.Written home params given) = Written (home_of home) params.now (option_copied given)

abbrev pub log_function_of : LentLogFunction → LogFunction
log_function_of function.CreateStream = CreateStream
log_function_of function.AddFilter = AddFilter
log_function_of function.RemoveFilter = RemoveFilter
log_function_of function.RemoveDefaultFilter = RemoveDefaultFilter
log_function_of function.Write = Write

abbrev pub meant_of : LentMeant → Meant
meant_of (meant.KnownType known) = KnownType (type_of known)
meant_of (meant.WrittenType home tree) = WrittenType (home_of home) tree.now
meant_of (meant.Word number) = Word number
meant_of (meant.Variable home lasting tree init attrs) = Variable (home_of home) lasting tree.now init.now attrs.now
meant_of (meant.Event signature) = Event (signature_of signature)
meant_of (meant.Hook signature) = Hook (signature_of signature)
meant_of (meant.Function signature) = Function (signature_of signature)
meant_of (meant.BuiltInFunction function) = BuiltInFunction function
meant_of (meant.Log function) = Log (log_function_of function)

abbrev pub declared_of : LentDeclared → Declared
declared_of one = record { name = one.name.items; exported = one.exported; meant = meant_of one.meant }

abbrev pub declared_lent : List LentDeclared → List Declared
declared_lent names = map declared_of names

-- the text of a type, with where it stands
abbrev pub text_lent : LentHome × Bor «Type» → Home × «Type»
text_lent text = (home_of text.0, text.1.now)
