-- The declarations of scripts in load order (Zeek manual, Directives, @load; Script Organization, modules): those of a loaded
-- file stand in the place of its first `@load`. A module line holds up to the next one, or to its file's end.
use Rattle.std.specs.Prelude.{ℕ, zero, suc, ◌+◌, ◌==◌, Bool, true, false, List, [], ◌∷◌, ◌++◌, length, flat_map, codes, nat_eq, Option, Some, None, if◌then◌else◌}
use Rattle.std.specs.List.{list_any, position, fold, starts_with}
use Rattle.std.specs.Str.{bytes_eq}
use Rattle.zk_tree.specs.declared.decl.Decl.{Decl, out-Decl, Export', Row_of-Decl, end_of-Decl, more_of-Decl}
use Rattle.zk_tree.specs.declared.decl.Decl.TheOpen.{Decl-F}
use Rattle.zk_tree.specs.declared.decl.Decl.TheOpen as decl

-- a text that was read: its name, and its declarations
pub record File : Type 0 where
  pub name : List ℕ
  pub decls : List Decl

-- where a declaration stands: its file by its number, its module, which is empty for none, and whether it is exported
pub record Home : Type 0 where
  pub file : ℕ
  pub module_name : List ℕ
  pub exported : Bool

pub record Stated : Type 0 where
  pub home : Home
  pub decl : Decl

-- a declaration with what encloses it: whether it is exported
pub record Line : Type 0 where
  pub exported : Bool
  pub decl : Decl

-- the declarations in a declaration: in an `export` those that it encloses
abbrev mutual
  pub decl_lines : Bool → Decl → List Line
  decl_lines exported (Export' place n decls) = decls_lines decls
  decl_lines exported other = record { exported = exported; decl = other } ∷ []

  pub decls_lines : {n : _} → Row_of-Decl n → List Line
  decls_lines end_of-Decl = []
  decls_lines (more_of-Decl one others) = decl_lines true one ++ decls_lines others

abbrev pub lines : Bool → List Decl → List Line
lines exported decls = flat_map (decl_lines exported) decls

-- what was found so far: the files that have their place, the module of what follows, and the declarations
pub record Found : Type 0 where
  pub placed : List ℕ
  pub module_name : List ℕ
  pub stated : List Stated

abbrev pub is_in : ℕ → List ℕ → Bool
is_in number numbers = list_any (λ other. other == number) numbers

abbrev pub decls_of : ℕ → List File → List Decl
decls_of number [] = []
decls_of zero (file ∷ files) = file.decls
decls_of (suc number) (file ∷ files) = decls_of number files

-- the declarations of a file, which begins in no module, with its number and whether it is loaded in an `export`
abbrev pub Walk : Type 0
Walk = ℕ → Bool → Found → Found

abbrev pub enter : ℕ → Found → Found
enter number found = record found { placed = found.placed ++ number ∷ []; module_name = [] }

-- a file, unless it has its place already; after it the module is that from before
abbrev pub load : Walk → Bool → Found → Option ℕ → Found
load walk exported found None = found
load walk exported found (Some number) = elim (is_in number found.placed) [
  | true ↦ found
  | false ↦ record (walk number exported (enter number found)) { module_name = found.module_name }
]

abbrev pub add : ℕ → Found → Line → Found
add file found line = record found {
  stated = found.stated ++ record { home = record { file = file; module_name = found.module_name; exported = line.exported }; decl = line.decl } ∷ [];
}

-- the first file of a name; those of the default scripts, under `base/`, are loaded by no script
abbrev pub file_named : List ℕ → List File → Option ℕ
file_named name files = if starts_with nat_eq name (codes "base/") then None else position (λ file. bytes_eq file.name name) files

abbrev pub one_line : Walk → List File → ℕ → Found → Line → Found
one_line walk files file found line = of_form (out-Decl line.decl)
  where
    of_form : Decl-F Decl → Found
    of_form (decl.Module place name) = record found { module_name = name.text }
    of_form (decl.Load place name) = load walk line.exported found (file_named name files)
    of_form other = add file found line

-- to a depth of files within one another
abbrev pub walk_to : ℕ → List File → Walk
walk_to zero files file exported found = found
walk_to (suc depth) files file exported found =
    fold (one_line (walk_to depth files) files file) found (lines exported (decls_of file files))

-- the files one by one that have no place yet
abbrev pub roots : Walk → ℕ → Found → List File → Found
roots walk number found [] = found
roots walk number found (file ∷ others) = elim (is_in number found.placed) [
  | true ↦ roots walk (number + 1) found others
  | false ↦ roots walk (number + 1) (walk number false (enter number found)) others
]

-- the declarations of all files, in load order: each file has its place once, so no more files than there are stand within one another
abbrev pub load_order : List File → List Stated
load_order files = (roots (walk_to (length files) files) 0 (record { placed = []; module_name = []; stated = [] }) files).stated
