-- What stands within types and statements, in the order of the text.
use Rattle.std.specs.Prelude.{ℕ, ◌-◌, ◌^◌, List, [], ◌∷◌, ◌++◌, flat_map, Option, Some, None}
use Rattle.zk_tree.specs.declared.name.Name.{Name}
use Rattle.zk_tree.specs.declared.stmt.Block.{Block}
use Rattle.zk_tree.specs.declared.stmt.Stmt.{Stmt, Row_of-Stmt, end_of-Stmt, more_of-Stmt}
use Rattle.zk_tree.specs.declared.stmt.Stmt as stmt
use Rattle.zk_tree.specs.declared.types.Field.{Field}
use Rattle.zk_tree.specs.declared.types.Param.{Param}
use Rattle.zk_tree.specs.declared.types.Type.{«Type», out-Type, Atomic, Named, Table', Set', Vector', Record', Enum, Event', Hook', Procedure', Function', Row_of-Type, end_of-Type, more_of-Type, Row_of-Field, end_of-Field, more_of-Field, Row_of-Param, end_of-Param, more_of-Param}
use Rattle.zk_tree.specs.declared.types.Type.TheOpen.{Type-F}
use Rattle.zk_tree.specs.declared.types.Type.TheOpen as written

-- How deep a definition follows a tree. Scripts nest at most 200 deep, and no tree that a machine of 64 bits holds is deeper than this.
unfoldable pub depth_max : ℕ
depth_max = 2 ^ 64 - 1

-- a type, and the types within it
abbrev mutual
  pub within : «Type» → List «Type»
  within (Atomic place atomic) = Atomic place atomic ∷ []
  within (Named name) = Named name ∷ []
  within (Table' place n keys m value) = Table' place n keys m value ∷ types_within keys ++ types_within value
  within (Set' place n keys) = Set' place n keys ∷ types_within keys
  within (Vector' place n item) = Vector' place n item ∷ types_within item
  within (Record' place n fields) = Record' place n fields ∷ fields_within fields
  within (Enum place words comma) = Enum place words comma ∷ []
  within (Event' place n params) = Event' place n params ∷ params_within params
  within (Hook' place n params) = Hook' place n params ∷ params_within params
  within (Procedure' place n params) = Procedure' place n params ∷ params_within params
  within (Function' place n params m given) = Function' place n params m given ∷ params_within params ++ types_within given

  pub types_within : {n : _} → Row_of-Type n → List «Type»
  types_within end_of-Type = []
  types_within (more_of-Type one others) = within one ++ types_within others

  pub fields_within : {n : _} → Row_of-Field n → List «Type»
  fields_within end_of-Field = []
  fields_within (more_of-Field name field_type attrs others) = within field_type ++ fields_within others

  pub params_within : {n : _} → Row_of-Param n → List «Type»
  params_within end_of-Param = []
  params_within (more_of-Param name param_type others) = within param_type ++ params_within others

-- the name that a type is
abbrev pub mention : «Type» → List Name
mention tree = of_form (out-Type tree)
  where
    of_form : Type-F «Type» Field Param → List Name
    of_form (written.Named name) = name ∷ []
    of_form other = []

-- the names that a type mentions
abbrev pub mentions : «Type» → List Name
mentions tree = flat_map mention (within tree)

abbrev pub maybe_one : {A : Type 0} → Option A → List A
maybe_one None = []
maybe_one (Some one) = one ∷ []

-- the types of the locals in statements
abbrev mutual
  pub stmt_locals : Stmt → List «Type»
  stmt_locals (stmt.Block' place n stmts) = stmts_locals stmts
  stmt_locals (stmt.If' place test n met) = stmts_locals met
  stmt_locals (stmt.IfElse' place test n met m otherwise) = stmts_locals met ++ stmts_locals otherwise
  stmt_locals (stmt.While' place test n body) = stmts_locals body
  stmt_locals (stmt.For' place keys value over n body) = stmts_locals body
  stmt_locals (stmt.Local place name tree init) = maybe_one tree
  stmt_locals other = []

  pub stmts_locals : {n : _} → Row_of-Stmt n → List «Type»
  stmts_locals end_of-Stmt = []
  stmts_locals (more_of-Stmt one others) = stmt_locals one ++ stmts_locals others

abbrev pub local_types : Block → List «Type»
local_types block = flat_map stmt_locals block.stmts
