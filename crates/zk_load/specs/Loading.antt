-- The scripts of a run (Zeek manual, Directives, @load): those that it names, each followed by the files that it loads,
-- and these by those that they load. Each file is read once.
use Rattle.std.specs.Prelude.{ℕ, zero, suc, Bool, List, [], ◌∷◌, ◌++◌, flat_map, codes, nat_eq, if◌then◌else◌}
use Rattle.std.specs.List.{list_any, starts_with}
use Rattle.std.specs.Str.{bytes_eq}
use Rattle.zk_base.specs.declared.endings.Ending.TheVariants.{ScriptRefused}
use Rattle.zk_base.specs.declared.endings.ScriptKind.TheVariants.{TooMany}
use Rattle.zk_base.specs.Shelf.{Files}
use Rattle.zk_tree.specs.declared.decl.Decl.{Decl, Load, Export', Row_of-Decl, end_of-Decl, more_of-Decl}
use Rattle.zk_tree.specs.declared.decl.Tree.{Tree}
use Rattle.zk_outcome.specs.declared.found.Found.{Found}
use Rattle.zk_outcome.specs.declared.found.Found.TheVariants.{Accepted, Refused}
use Rattle.zk_load.specs.Script.{accepted, script_in, script_of}

-- the most files that a run may read
abbrev pub files_max : ℕ
files_max = 256

-- The files that a declaration loads, an `export` those that its declarations load. The default scripts, under `base/`,
-- are loaded by no script.
abbrev mutual
  pub loads_in : Decl → List (List ℕ)
  loads_in (Load place name) = if starts_with nat_eq name (codes "base/") then [] else name ∷ []
  loads_in (Export' place n decls) = loads_within decls
  loads_in other = []

  pub loads_within : {n : _} → Row_of-Decl n → List (List ℕ)
  loads_within end_of-Decl = []
  loads_within (more_of-Decl one others) = loads_in one ++ loads_within others

-- the files that a script loads, in order
abbrev pub loads_of : Tree → List (List ℕ)
loads_of tree = flat_map loads_in tree.decls

-- the scripts that were read, by their names
abbrev pub Scripts : Type 0
Scripts = List (List ℕ × Tree)

abbrev pub is_read : Scripts → List ℕ → Bool
is_read scripts name = list_any (λ script. bytes_eq script.0 name) scripts

-- the names from the first on that was not read
abbrev pub unread : Scripts → List (List ℕ) → List (List ℕ)
unread scripts [] = []
unread scripts (name ∷ names) = if is_read scripts name then unread scripts names else name ∷ names

-- What comes of loading: the names that are asked for, in order, and the scripts or how the run ends.
pub record Loading : Type 0 where
  pub asked : List (List ℕ)
  pub found : Found Scripts

-- nothing more is asked for
abbrev pub ends_with : Found Scripts → Loading
ends_with found = record { asked = []; found = found }

-- a name is asked for, and then what is said
abbrev pub asking : List ℕ → Loading → Loading
asking name rest = record { asked = name ∷ rest.asked; found = rest.found }

-- what a script comes to that is read: the run ends, or it goes on
abbrev pub after : Found Tree → (Tree → Loading) → Loading
after (Refused ending) goes_on = ends_with (Refused ending)
after (Accepted tree) goes_on = goes_on tree

-- Behind scripts that were read: these names in order, each followed by what it loads. So many more files may be read.
unfoldable pub load_from : ℕ → Files → Scripts → List (List ℕ) → Loading
load_from zero inputs scripts names = elim (unread scripts names) [
  | [] ↦ ends_with (Accepted scripts)
  | name ∷ others ↦ ends_with (Refused (ScriptRefused name 0 TooMany))
]
load_from (suc room) inputs scripts names = elim (unread scripts names) [
  | [] ↦ ends_with (Accepted scripts)
  | name ∷ others ↦ asking name (after (script_in name (inputs name)) (λ tree. load_from room inputs (scripts ++ (name, tree) ∷ []) (loads_of tree ++ others)))
]

-- the scripts of a run by their names, behind those that are read before: these count as read, and not among the files
unfoldable pub loading : Scripts → List (List ℕ) → Files → Loading
loading before names inputs = load_from files_max inputs before names

-- Scripts that lie in no file --------------------------------------------------------------------------------------------

-- one more script before others, or how a run ends at the first that is refused
abbrev pub before_others : List ℕ → Found Tree → Found Scripts → Found Scripts
before_others name (Refused ending) others = Refused ending
before_others name (Accepted tree) (Refused ending) = Refused ending
before_others name (Accepted tree) (Accepted scripts) = Accepted ((name, tree) ∷ scripts)

-- scripts with these names and texts, in order
abbrev pub scripts_in : List (List ℕ × List ℕ) → Found Scripts
scripts_in [] = Accepted []
scripts_in (one ∷ others) = before_others one.0 (accepted one.0 (script_of one.1)) (scripts_in others)
