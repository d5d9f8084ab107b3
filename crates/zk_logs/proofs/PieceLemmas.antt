-- What waits for each file, as a list of entries by path.
use Rattle.std.proofs.Common.{◌≡◌, ℕ, List, [], ◌∷◌, ◌++◌, Bool, true, false, cond, Option, Some, None, refl, sym, ap, subst, ◌∙◌}
use Rattle.std.specs.declared.alloc.Global.{Global}
use Rattle.std.specs.declared.vec.Vec.{Vec}
use Rattle.std.specs.List.{IsDistinct, AllByRecursion}
use Rattle.std.specs.Map.{lookup, set_value, keys_of}
use Rattle.std.specs.Str.{bytes_eq}
use Rattle.std.proofs.lemmas.Map.Keys.{IsDistinct-head}
use Rattle.std.proofs.lemmas.Slice.Eq.{bytes_eq-Decides}
use Rattle.zk_base.specs.Shelf.{with_file}
use Rattle.zk_logs.specs.Logs.{file_name}
use Rattle.zk_logs.proofs.OutputLemmas.{same_bytes}
use Rattle.zk_logs.proofs.LogLemmas.{path_as_name}

-- an entry with another name stands before the others
behind : (own name other value content : List ℕ) (found rest : Option (List ℕ)) → bytes_eq own name ≡ false → rest ≡ cond (bytes_eq name other) (Some content) found
    → cond (bytes_eq own other) (Some value) rest ≡ cond (bytes_eq name other) (Some content) (cond (bytes_eq own other) (Some value) found)
behind own name other value content found rest differs is =
    elim (bytes_eq own other) as (λ b. bytes_eq own other ≡ b → cond b (Some value) rest ≡ cond (bytes_eq name other) (Some content) (cond b (Some value) found)) [
      | true ↦ λ e.
          let there : own ≡ other = same_bytes own other e in
          elim (bytes_eq name other) as (λ b. bytes_eq name other ≡ b → Some value ≡ cond b (Some content) (Some value)) [
            | true ↦ λ h.
                let here : own ≡ name = there ∙ sym (same_bytes name other h) in
                let never : false ≡ true = sym differs ∙ (bytes_eq-Decides own name).1 here in
                cc
            | false ↦ λ h. refl
          ] refl
      | false ↦ λ e. is
    ] refl

module _ {K : Type 0} (bytes : K → List ℕ) where
  -- what waits for the file of a name
  abbrev pub waiting : List (K × List ℕ) → List ℕ → Option (List ℕ)
  waiting entries name = lookup (λ key. bytes_eq (file_name (bytes key)) name) entries

  -- the same by its path
  abbrev pub at_path : List (K × List ℕ) → List ℕ → Option (List ℕ)
  at_path entries path = lookup (λ key. bytes_eq path (bytes key)) entries

-- an entry is found by its path where its file's name finds it
pub by_path : {K : Type 0} (bytes : K → List ℕ) (entries : List (K × List ℕ)) (path : List ℕ) → at_path bytes entries path ≡ waiting bytes entries (file_name path)
by_path bytes [] path = refl
by_path bytes (entry ∷ entries) path =
    ap (λ b. cond b (Some entry.1) (at_path bytes entries path)) (path_as_name path (bytes entry.0))
    ∙ ap (λ rest. cond (bytes_eq (file_name (bytes entry.0)) (file_name path)) (Some entry.1) rest) (by_path bytes entries path)

here_again : (own other value content : List ℕ) (found : Option (List ℕ)) → cond (bytes_eq own other) (Some content) found ≡ cond (bytes_eq own other) (Some content) (cond (bytes_eq own other) (Some value) found)
here_again own other value content found =
    elim (bytes_eq own other) as (λ b. cond b (Some content) found ≡ cond b (Some content) (cond b (Some value) found)) [
      | true ↦ refl
      | false ↦ refl
    ]

-- the piece of a path is another one
pub piece_set : {K : Type 0} (bytes : K → List ℕ) (entries : List (K × List ℕ)) (path piece content other : List ℕ) → at_path bytes entries path ≡ Some piece
    → waiting bytes (set_value (λ key. bytes_eq path (bytes key)) entries content) other ≡ with_file (waiting bytes entries) (file_name path) content other
piece_set bytes [] path piece content other found = cc
piece_set bytes (entry ∷ entries) path piece content other found =
    let own = bytes entry.0 in
    elim (bytes_eq path own) as (λ b. bytes_eq path own ≡ b → cond b (Some entry.1) (at_path bytes entries path) ≡ Some piece
    → waiting bytes (cond b ((entry.0, content) ∷ entries) (entry ∷ set_value (λ key. bytes_eq path (bytes key)) entries content)) other
    ≡ with_file (waiting bytes (entry ∷ entries)) (file_name path) content other) [
      | true ↦ λ e at.
          let same : file_name own ≡ file_name path = ap file_name (sym (same_bytes path own e)) in
          subst (λ n. cond (bytes_eq (file_name own) other) (Some content) (waiting bytes entries other)
          ≡ cond (bytes_eq n other) (Some content) (cond (bytes_eq (file_name own) other) (Some entry.1) (waiting bytes entries other)))
          same (here_again (file_name own) other entry.1 content (waiting bytes entries other))
      | false ↦ λ e at.
          behind (file_name own) (file_name path) other entry.1 content (waiting bytes entries other) (waiting bytes (set_value (λ key. bytes_eq path (bytes key)) entries content) other)
          (sym (path_as_name path own) ∙ e) (piece_set bytes entries path piece content other at)
    ] refl found

-- a piece of a new path stands behind the others
pub piece_new : {K : Type 0} (bytes : K → List ℕ) (entries : List (K × List ℕ)) (key : K) (content other : List ℕ) → waiting bytes entries (file_name (bytes key)) ≡ None
    → waiting bytes (entries ++ (key, content) ∷ []) other ≡ with_file (waiting bytes entries) (file_name (bytes key)) content other
piece_new bytes [] key content other none = refl
piece_new bytes (entry ∷ entries) key content other none =
    let own = file_name (bytes entry.0) in
    let name = file_name (bytes key) in
    elim (bytes_eq own name) as (λ b. bytes_eq own name ≡ b → cond b (Some entry.1) (waiting bytes entries name) ≡ None
    → waiting bytes (entry ∷ (entries ++ (key, content) ∷ [])) other ≡ with_file (waiting bytes (entry ∷ entries)) name content other) [
      | true ↦ λ e at. cc
      | false ↦ λ e at.
          behind own name other entry.1 content (waiting bytes entries other) (waiting bytes (entries ++ (key, content) ∷ []) other) e
          (piece_new bytes entries key content other at)
    ] refl none

-- the first entry is found by its name
pub first_waits : {K : Type 0} (bytes : K → List ℕ) (entries : List (K × List ℕ)) (entry : K × List ℕ) → waiting bytes (entry ∷ entries) (file_name (bytes entry.0)) ≡ Some entry.1
first_waits bytes entries entry =
    ap (λ b. cond b (Some entry.1) (waiting bytes entries (file_name (bytes entry.0)))) ((bytes_eq-Decides (file_name (bytes entry.0)) (file_name (bytes entry.0))).1 refl)

none_equal : {K : Type 0} (bytes : K → List ℕ) (entries : List (K × List ℕ)) (path : List ℕ) → AllByRecursion (λ key. bytes_eq path (bytes key) ≡ false) (keys_of entries)
    → waiting bytes entries (file_name path) ≡ None
none_equal bytes [] path apart = refl
none_equal bytes (entry ∷ entries) path apart =
    ap (λ b. cond b (Some entry.1) (waiting bytes entries (file_name path))) (sym (path_as_name path (bytes entry.0)) ∙ apart.0)
    ∙ none_equal bytes entries path apart.1

-- no other entry has the path of the first
pub first_alone : {K : Type 0} (bytes : K → List ℕ) (entries : List (K × List ℕ)) (entry : K × List ℕ) → IsDistinct (λ a b. bytes_eq (bytes a) (bytes b)) (keys_of (entry ∷ entries))
    → waiting bytes entries (file_name (bytes entry.0)) ≡ None
first_alone bytes entries entry distinct =
    none_equal bytes entries (bytes entry.0) (IsDistinct-head (λ a b. bytes_eq (bytes a) (bytes b)) entry.0 (keys_of entries) distinct)

-- Paths as the map has them ---------------------------------------------------------------------------------------

abbrev pub Key : Type 0
Key = Vec ℕ Global

abbrev pub path_of : Key → List ℕ
path_of key = key.items

abbrev pub same_key : Key → Key → Bool
same_key a b = bytes_eq a.items b.items

-- a piece of a new path is inserted
pub piece_inserted : (entries entries' : List (Key × List ℕ)) (key : Key) (path content text other : List ℕ) → at_path path_of entries path ≡ None → key.items ≡ path → content ≡ text
    → entries' ≡ entries ++ (key, content) ∷ [] → waiting path_of entries' other ≡ with_file (waiting path_of entries) (file_name path) text other
piece_inserted entries entries' key path content text other none key_is content_is is =
    let absent : waiting path_of entries (file_name key.items) ≡ None = ap (λ p. waiting path_of entries (file_name p)) key_is ∙ sym (by_path path_of entries path) ∙ none in
    ap (λ es. waiting path_of es other) is ∙ piece_new path_of entries key content other absent
    ∙ ap (λ p. with_file (waiting path_of entries) (file_name p) content other) key_is ∙ ap (λ t. with_file (waiting path_of entries) (file_name path) t other) content_is
