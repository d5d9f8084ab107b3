-- The declarations in declarations, and the files that they stand in.
use Rattle.std.proofs.Common.{◌≡◌, ℕ, suc, zero, ◌+◌, ◌<◌, ◌≤◌, length, Bool, true, false, List, [], ◌∷◌, ◌++◌, flat_map, drop, refl, ap, ◌∙◌, get_or, add-one, drop-cons, arith}
use Rattle.std.specs.List.{position, position_or_len}
use Rattle.zk_tree.specs.declared.decl.Decl.{Decl}
use Rattle.zk_tree.specs.declared.decl.Decl as tree
use Rattle.zk_tree.specs.declared.decl.Tree.{Tree}
use Rattle.zk_tree.specs.Opening.{trees}
use Rattle.std.specs.Str.{bytes_eq}
use Rattle.zk_typed.specs.LoadOrder.{File, Found, Walk, decl_lines, decls_of, enter, is_in, roots}
use Rattle.zk_scope.specs.Lent.{files_of}

pub export_lines : (exported : Bool) (place : ℕ) (decls : List Decl) → decl_lines exported (tree.Export place decls) ≡ flat_map (decl_lines true) decls
unfolding trees
export_lines exported place [] = refl
export_lines exported place (one ∷ others) = ap (λ more. decl_lines true one ++ more) (export_lines exported place others)

pub decls_of_at : (files : List (List ℕ × Tree)) (number : ℕ) (d : List ℕ × Tree) → number < length files → decls_of number (files_of files) ≡ (get_or files number d).1.decls
decls_of_at [] number d h = absurd (omega arith)
decls_of_at (file ∷ files) zero d h = refl
decls_of_at (file ∷ files) (suc number) d h = decls_of_at files number d (omega arith)

pub decls_of_past : (files : List (List ℕ × Tree)) (number : ℕ) → length files ≤ number → decls_of number (files_of files) ≡ []
decls_of_past [] number h = refl
decls_of_past (file ∷ files) zero h = absurd (omega arith)
decls_of_past (file ∷ files) (suc number) h = decls_of_past files number (omega arith)

first_of_name : (files : List (List ℕ × Tree)) (name : List ℕ) →
    position_or_len (λ (other : File). bytes_eq other.name name) (files_of files) ≡ position_or_len (λ (file : List ℕ × Tree). bytes_eq file.0 name) files
first_of_name [] name = refl
first_of_name (file ∷ files) name = rw (first_of_name files name) refl

pub as_many : (files : List (List ℕ × Tree)) → length (files_of files) ≡ length files
as_many [] = refl
as_many (file ∷ files) = ap suc (as_many files)

pub position_of_files : (files : List (List ℕ × Tree)) (name : List ℕ) →
    position (λ (other : File). bytes_eq other.name name) (files_of files) ≡ position (λ (file : List ℕ × Tree). bytes_eq file.0 name) files
position_of_files files name = rw (first_of_name files name, as_many files) refl

no_file : File
no_file = record { name = []; decls = [] }

next_file : (files : List File) (number : ℕ) → number < length files → drop number files ≡ get_or files number no_file ∷ drop (number + 1) files
next_file files number within = rw add-one (drop-cons files number no_file within)

pub roots_on : (walk : Walk) (files : List File) (number : ℕ) (found : Found) → number < length files → is_in number found.placed ≡ true →
    roots walk number found (drop number files) ≡ roots walk (number + 1) found (drop (number + 1) files)
roots_on walk files number found within placed =
    let others = drop (number + 1) files in
    ap (roots walk number found) (next_file files number within) ∙
    ap (λ (b : Bool). elim b [ true ↦ roots walk (number + 1) found others | false ↦ roots walk (number + 1) (walk number false (enter number found)) others ]) placed

pub roots_enter : (walk : Walk) (files : List File) (number : ℕ) (found : Found) → number < length files → is_in number found.placed ≡ false →
    roots walk number found (drop number files) ≡ roots walk (number + 1) (walk number false (enter number found)) (drop (number + 1) files)
roots_enter walk files number found within placed =
    let others = drop (number + 1) files in
    ap (roots walk number found) (next_file files number within) ∙
    ap (λ (b : Bool). elim b [ true ↦ roots walk (number + 1) found others | false ↦ roots walk (number + 1) (walk number false (enter number found)) others ]) placed
