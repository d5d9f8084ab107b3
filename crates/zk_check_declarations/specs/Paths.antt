-- The paths that the streams and filters of logs write to, and the columns that stand there.
use Rattle.std.specs.Prelude.{◌≡◌, ℕ, Bool, true, false, not, ◌&&◌, ◌||◌, List, map, flat_map, Option, Some, None}
use Rattle.std.specs.HashMap.{get}
use Rattle.std.specs.List.{list_all}
use Rattle.std.specs.Option.{option_map}
use Rattle.std.specs.Str.{bytes_eq}
use Rattle.zk_tree.specs.declared.decl.Decl.{out-Decl}
use Rattle.zk_typed.specs.declared.rule.Rule.TheVariants as rule
use Rattle.zk_typed.specs.Checked.{Checked, require}
use Rattle.zk_typed.specs.Errors.{PathUse, agrees, call_uses, same_columns}
use Rattle.zk_typed.specs.LoadOrder.{Stated}
use Rattle.zk_typed.specs.LogCalls.{Call, LeafInfo, decl_calls}
use Rattle.zk_typed.specs.Resolving.{Scripts, place_in}
use Rattle.zk_scope.specs.Leaves.{leaves_lent}
use Rattle.zk_check_declarations.specs.declared.paths.PathUse.{PathUse as OwnedUse}
use Rattle.zk_check_declarations.specs.declared.paths.Paths.{Paths}
use Rattle.zk_check_declarations.specs.declared.paths.Writers.{Writers}

abbrev pub use_of : OwnedUse → PathUse
use_of one = record { path = one.path.items; columns = leaves_lent one.columns.items }

abbrev pub uses_lent : List OwnedUse → List PathUse
uses_lent uses = map use_of uses

abbrev pub same_wire : Bool → Bool → Bool
same_wire true wire = wire
same_wire false wire = not wire

abbrev pub same_column : LeafInfo → LeafInfo → Bool
same_column a b = bytes_eq a.name b.name && bytes_eq a.kind b.kind && same_wire a.wire b.wire

-- the columns that were first at a path, and whether others were there too
abbrev pub Writing : Type 0
Writing = List LeafInfo × Bool

abbrev pub writing_of : Writers → Writing
writing_of writers = (leaves_lent writers.columns.items, writers.mixed)

abbrev pub writing_at : Paths → List ℕ → Option Writing
writing_at paths path = option_map writing_of (get bytes_eq paths.writers path)

-- whether all columns at a path are these
abbrev pub agreeing : Option Writing → List LeafInfo → Bool
agreeing None columns = true
agreeing (Some writing) columns = not writing.1 && same_columns writing.0 columns

-- what stands at a path once these columns do too
abbrev pub joined : Option Writing → List LeafInfo → Writing
joined None columns = (columns, false)
joined (Some writing) columns = (writing.0, writing.1 || not (same_columns writing.0 columns))

-- it knows the paths of these
pub record HasPaths (paths : Paths) (uses : List PathUse) : Type 0 where
  pub agreed : (path : List ℕ) (columns : List LeafInfo) → agreeing (writing_at paths path) columns ≡ agrees uses (record { path = path; columns = columns })

-- the rule of one call behind others
abbrev pub call_rules : Scripts → List PathUse → Call → Checked (Unit {0})
call_rules scripts before call = require (list_all (agrees before) (call_uses scripts call)) rule.Twice (place_in call.home call.name.place)

abbrev pub stated_uses : Scripts → Stated → List PathUse
stated_uses scripts one = flat_map (call_uses scripts) (decl_calls one.home (out-Decl one.decl))
