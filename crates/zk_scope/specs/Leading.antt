-- Where names lead by way of the types that they are declared as, with each declared name by its place.
use Rattle.std.specs.Prelude.{◌≡◌, ℕ, Bool, true, false, ◌&&◌, ◌||◌, List, [], length, flat_map, Option, Some, None, slice_get}
use Rattle.std.specs.declared.alloc.Global.{Global}
use Rattle.std.specs.declared.vec.Vec.{Vec}
use Rattle.std.specs.List.{list_any}
use Rattle.std.specs.Str.{bytes_eq}
use Rattle.zk_tree.specs.declared.name.Name.{Name}
use Rattle.zk_tree.specs.declared.types.Type.{«Type»}
use Rattle.zk_typed.specs.LoadOrder.{Home}
use Rattle.zk_typed.specs.Names.{Declared, Meant, WrittenType, is_open, whole_name}
use Rattle.zk_typed.specs.Resolving.{Scripts, leads, leads_by, leads_to, next_text}
use Rattle.zk_typed.specs.Within.{maybe_one, mention, mentions}
use Rattle.zk_scope.specs.declared.ways.Ways.{Ways}
use Rattle.zk_scope.specs.Grouping.{IsGrouped}
use Rattle.zk_scope.specs.Indexing.{first_place, items_at, mark_at, or_else}

-- where the first stands that a whole name means
abbrev pub place_whole : List Declared → List ℕ → List ℕ → Option ℕ
place_whole names from_module whole = first_place (λ one. bytes_eq one.name whole && (one.exported || is_open from_module whole)) names

-- where the first stands that a name means in a module
abbrev pub place_up : List Declared → List ℕ → List ℕ → Option ℕ
place_up names from_module name = or_else (place_whole names from_module (whole_name from_module name)) (place_whole names from_module name)

-- where names lead
abbrev pub places : List Declared → List ℕ → List Name → List ℕ
places names from_module mentioned = flat_map (λ name. maybe_one (place_up names from_module name.text)) mentioned

-- where the name leads that a type is
abbrev pub mention_places : List Declared → List ℕ → «Type» → List ℕ
mention_places names from_module tree = places names from_module (mention tree)

abbrev pub meant_steps : List Declared → Meant → List ℕ
meant_steps names (WrittenType home tree) = places names home.module_name (mentions tree)
meant_steps names other = []

abbrev pub declared_steps : List Declared → Option Declared → List ℕ
declared_steps names None = []
declared_steps names (Some one) = meant_steps names one.meant

-- where the name at a place leads
abbrev pub steps : List Declared → ℕ → List ℕ
steps names place = declared_steps names (slice_get names place)

abbrev pub has_name : List ℕ → Option Declared → Bool
has_name target None = false
has_name target (Some one) = bytes_eq one.name target

abbrev pub is_target : List Declared → List ℕ → ℕ → Bool
is_target names target place = has_name target (slice_get names place)

-- the name at a place leads to a declared type within so many steps
abbrev pub led : Scripts → List ℕ → ℕ → ℕ → Bool
led scripts target most place = leads_by (leads_to most scripts target) target (slice_get scripts.names place)

-- where each name leads, of as many names as were looked at
abbrev pub AreSteps : List (Vec ℕ Global) → List Declared → Type 0
AreSteps found names = (place : ℕ) (more : Vec ℕ Global) → slice_get found place ≡ Some more → more.items ≡ steps names place

abbrev pub HasWays : Ways → List Declared → Type 0
HasWays ways names = ((place : ℕ) → items_at ways.steps.items place ≡ steps names place) × IsGrouped ways.groups ways.steps.items names

-- what a name means leads back to the name
abbrev pub meant_circle : Scripts → List ℕ → Meant → Bool
meant_circle scripts target (WrittenType home tree) = list_any (leads scripts target home) (mentions tree)
meant_circle scripts target other = false

abbrev pub is_circle : Scripts → Option Declared → Bool
is_circle scripts None = false
is_circle scripts (Some one) = meant_circle scripts one.name one.meant

-- each name that leads back to itself is marked, and no other
abbrev pub AreCircles : List Bool → List Declared → Type 0
AreCircles circles names = (scripts : Scripts) → scripts.names ≡ names → (place : ℕ) → mark_at circles place ≡ is_circle scripts (slice_get names place)

-- Texts of declared types ------------------------------------------------------------------------------------------------

-- a text, with where it stands
abbrev pub Text : Type 0
Text = Home × «Type»

abbrev pub text_in : Meant → Option Text
text_in (WrittenType home tree) = Some (home, tree)
text_in other = None

abbrev pub text_of : Option Declared → Option Text
text_of None = None
text_of (Some one) = text_in one.meant

-- the text of the declared type at a place
abbrev pub text_at : List Declared → ℕ → Option Text
text_at names place = text_of (slice_get names place)

-- the text that a text stands for
abbrev pub next_of : Scripts → Option Text → Option Text
next_of scripts None = None
next_of scripts (Some text) = next_text scripts text.0 text.1
