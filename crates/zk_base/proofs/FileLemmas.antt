-- Files in a list: what the first of a name holds, and what putting one leaves under each name.
use Rattle.std.proofs.Common.{◌≡◌, ℕ, suc, ◌+◌, ◌<◌, ◌≤◌, true, false, cond, List, [], ◌∷◌, ◌++◌, ◌-◌, take, drop, min, IfSome, length-drop, length, get_or, set, Option, Some, None, is_some, refl, sym, ap, subst, ◌∙◌, arith}
use Rattle.std.specs.List.{position_from, slice_get}
use Rattle.std.specs.Option.{option_map}
use Rattle.std.specs.Str.{bytes_eq}
use Rattle.std.proofs.lemmas.List.{drop_all}
use Rattle.std.proofs.lemmas.Slice.Eq.{bytes_eq-Decides}
use Rattle.std.proofs.lemmas.Option.{get_or_from_slice_get, slice_get-get_or}
use Rattle.zk_base.specs.declared.contents.Position.{Position}
use Rattle.zk_base.specs.Shelf.{with_file, with_piece, appended, At, bytes_from, advanced}
use Rattle.zk_base.specs.Faults.{with_emptied}
use Rattle.zk_base.specs.Files.{files_of, number_of, IsAt, reading_at, reading_of}

abbrev Pairs : Type 0
Pairs = List (List ℕ × List ℕ)

pub same_name : (a b : List ℕ) → bytes_eq a b ≡ true → a ≡ b
same_name a b = (bytes_eq-Decides a b).0

-- the file at j is the first of its name
pub record IsFirst (files : Pairs) (name : List ℕ) (j : ℕ) : Type 0 where
  pub within : j < length files
  pub named : (d : List ℕ × List ℕ) → (get_or files j d).0 ≡ name
  pub holds : (d : List ℕ × List ℕ) → files_of files name ≡ Some (get_or files j d).1
  pub put : (content other : List ℕ) → files_of (set files j (name, content)) other ≡ with_file (files_of files) name content other

put_first : (file : List ℕ × List ℕ) (files : Pairs) (name content other : List ℕ) → file.0 ≡ name
    → files_of ((name, content) ∷ files) other ≡ with_file (files_of (file ∷ files)) name content other
put_first file files name content other same =
    elim (bytes_eq name other) as (λ b. bytes_eq name other ≡ b → cond b (Some content) (files_of files other) ≡ cond b (Some content) (cond (bytes_eq file.0 other) (Some file.1) (files_of files other))) [
      | true ↦ λ e. refl
      | false ↦ λ e. ap (λ b. cond b (Some file.1) (files_of files other)) (sym (ap (λ n. bytes_eq n other) same ∙ e))
    ] refl

put_behind : (file : List ℕ × List ℕ) (files : Pairs) (name content other : List ℕ) (rest : Option (List ℕ)) → bytes_eq file.0 name ≡ false
    → rest ≡ with_file (files_of files) name content other
    → cond (bytes_eq file.0 other) (Some file.1) rest ≡ with_file (files_of (file ∷ files)) name content other
put_behind file files name content other rest differs is =
    elim (bytes_eq file.0 other) as (λ b. bytes_eq file.0 other ≡ b → cond b (Some file.1) rest ≡ cond (bytes_eq name other) (Some content) (cond b (Some file.1) (files_of files other))) [
      | true ↦ λ e.
          let there : file.0 ≡ other = same_name file.0 other e in
          elim (bytes_eq name other) as (λ b. bytes_eq name other ≡ b → Some file.1 ≡ cond b (Some content) (Some file.1)) [
            | true ↦ λ h.
                let here : name ≡ other = same_name name other h in
                let equal : bytes_eq file.0 name ≡ true = rw (there ∙ sym here) ((bytes_eq-Decides name name).1 refl) in
                absurd (let never : false ≡ true = sym differs ∙ equal in cc)
            | false ↦ λ h. refl
          ] refl
      | false ↦ λ e. is
    ] refl

pub is_first : (files : Pairs) (name : List ℕ) (k i : ℕ) → position_from (λ file. bytes_eq file.0 name) k files ≡ Some i → (j : ℕ) × (i ≡ k + j) × IsFirst files name j
is_first [] name k i at = cc
is_first (file ∷ files) name k i at =
    elim (bytes_eq file.0 name) as (λ b. bytes_eq file.0 name ≡ b → cond b (Some k) (position_from (λ file. bytes_eq file.0 name) (k + 1) files) ≡ Some i → (j : ℕ) × (i ≡ k + j) × IsFirst (file ∷ files) name j) [
      | true ↦ λ e at.
          let same : file.0 ≡ name = same_name file.0 name e in
          let here : k ≡ i = cc in (
            0,
            omega arith,
            record {
              within = omega arith;
              named = λ d. same;
              holds = λ d. ap (λ b. cond b (Some file.1) (files_of files name)) e;
              put = λ content other. put_first file files name content other same;
            },
          )
      | false ↦ λ e at.
          let later = is_first files name (k + 1) i at in (
            suc later.0,
            omega (arith, later.1),
            record {
              within = omega (arith, later.2.within);
              named = later.2.named;
              holds = λ d. ap (λ b. cond b (Some file.1) (files_of files name)) e ∙ later.2.holds d;
              put = λ content other. put_behind file files name content other _ e (later.2.put content other);
            },
          )
    ] refl at

-- no file has the name
pub record IsNew (files : Pairs) (name : List ℕ) : Type 0 where
  pub none : files_of files name ≡ None
  pub put : (content other : List ℕ) → files_of (files ++ (name, content) ∷ []) other ≡ with_file (files_of files) name content other

pub is_new : (files : Pairs) (name : List ℕ) (k : ℕ) → position_from (λ file. bytes_eq file.0 name) k files ≡ None → IsNew files name
is_new [] name k at = record { none = refl; put = λ content other. refl }
is_new (file ∷ files) name k at =
    elim (bytes_eq file.0 name) as (λ b. bytes_eq file.0 name ≡ b → cond b (Some k) (position_from (λ file. bytes_eq file.0 name) (k + 1) files) ≡ None → IsNew (file ∷ files) name) [
      | true ↦ λ e at. cc
      | false ↦ λ e at.
          let later = is_new files name (k + 1) at in
          record {
            none = ap (λ b. cond b (Some file.1) (files_of files name)) e ∙ later.none;
            put = λ content other. put_behind file files name content other _ e (later.put content other);
          }
    ] refl at

-- where the search for a name leads
pub first_at : (files : Pairs) (name : List ℕ) (i : ℕ) → number_of files name ≡ Some i → IsFirst files name i
first_at files name i at =
    let first = is_first files name 0 i at in
    subst (λ j. IsFirst files name j) (let here : first.0 ≡ i = omega (arith, first.1) in here) first.2

-- a file that is put where the search for its name leads
pub put_found : (files : Pairs) (name content : List ℕ) (i : ℕ) → number_of files name ≡ Some i
    → files_of (set files i (name, content)) ≡ with_file (files_of files) name content
put_found files name content i at = λ p other. (first_at files name i at).put content other p

-- a file that is put behind the others, where the search leads nowhere
pub put_new : (files : Pairs) (name content : List ℕ) → number_of files name ≡ None
    → files_of (files ++ (name, content) ∷ []) ≡ with_file (files_of files) name content
put_new files name content at = λ p other. (is_new files name 0 at).put content other p

-- a piece that is added where the search for the name leads
pub add_found : (files : Pairs) (name piece : List ℕ) (i : ℕ) (file : List ℕ × List ℕ) (content : List ℕ) → number_of files name ≡ Some i
    → file ≡ get_or files i file → content ≡ file.1 ++ piece → files_of (set files i (file.0, content)) ≡ with_piece (files_of files) name piece
add_found files name piece i file content at is longer =
    let first = first_at files name i at in
    let named : file.0 ≡ name = ap (λ (f : List ℕ × List ℕ). f.0) is ∙ first.named file in
    let holds : files_of files name ≡ Some file.1 = first.holds file ∙ ap (λ (f : List ℕ × List ℕ). Some f.1) (sym is) in
    let each : (other : List ℕ) → with_file (files_of files) name content other ≡ with_piece (files_of files) name piece other =
    λ other. elim (bytes_eq name other) as (λ b. bytes_eq name other ≡ b → cond b (Some content) (files_of files other) ≡ cond b (appended (files_of files other) piece) (files_of files other)) [
      | true ↦ λ e.
          let here : files_of files other ≡ Some file.1 = ap (files_of files) (sym (same_name name other e)) ∙ holds in
          ap Some longer ∙ ap (λ found. appended found piece) (sym here)
      | false ↦ λ e. refl
    ] refl in
    ap (λ own. files_of (set files i (own, content))) named ∙ put_found files name content i at ∙ (λ p other. each other p)

-- a file that is emptied where the search for the name leads
pub empty_found : (files : Pairs) (name : List ℕ) (i : ℕ) (file : List ℕ × List ℕ) (content : List ℕ) → number_of files name ≡ Some i
    → file ≡ get_or files i file → content ≡ [] → files_of (set files i (file.0, content)) ≡ with_emptied (files_of files) name
empty_found files name i file content at is empty =
    let first = first_at files name i at in
    let named : file.0 ≡ name = ap (λ (f : List ℕ × List ℕ). f.0) is ∙ first.named file in
    ap (λ own. files_of (set files i (own, content))) named ∙ ap (λ bytes. files_of (set files i (name, bytes))) empty ∙ put_found files name [] i at
    ∙ sym (ap (λ found. cond (is_some found) (with_file (files_of files) name []) (files_of files)) (first.holds file))

-- and where it leads nowhere nothing changes
pub empty_absent : (files : Pairs) (name : List ℕ) → number_of files name ≡ None → files_of files ≡ with_emptied (files_of files) name
empty_absent files name at = sym (ap (λ found. cond (is_some found) (with_file (files_of files) name []) (files_of files)) (is_new files name 0 at).none)

-- the position at the first byte of the first file of a name
pub is_at_first : (files : Pairs) (name : List ℕ) (i : ℕ) → number_of files name ≡ Some i → IsAt files (record { file = i; place = 0 })
is_at_first files name i at =
    let first = first_at files name i at in (
      first.within,
      λ file here.
          let same : get_or files i file ≡ file = get_or_from_slice_get files i file file here in
          let named : file.0 ≡ name = ap (λ (f : List ℕ × List ℕ). f.0) (sym same) ∙ first.named file in
          (ap (files_of files) named ∙ first.holds file ∙ ap (λ (f : List ℕ × List ℕ). Some f.1) same, omega arith),
    )

pub reading_first : (files : Pairs) (name : List ℕ) (i : ℕ) → number_of files name ≡ Some i → reading_of files (Some (record { file = i; place = 0 })) ≡ At name 0
reading_first files name i at =
    let first = first_at files name i at in
    ap (λ file. reading_at file 0) (slice_get-get_or files i ([], []) first.within) ∙ ap (λ own. At own 0) (first.named ([], []))

-- a position is no other than this one
pub at_same : (files : Pairs) (position other : Position) → Some position ≡ Some other → IsAt files position → IsAt files other
at_same files position other same at = subst (IsAt files) (let is : position ≡ other = cc in is) at

-- An input is open at a position, and this is its file.
module _ (files : Pairs) (held : Option Position) (position : Position) (file : List ℕ × List ℕ)
    (is : held ≡ Some position) (at : IsAt files position) (here : slice_get files position.file ≡ Some file) where
  -- what it has left
  rest_at : bytes_from (Some (files_of files)) (reading_of files held) ≡ Some (drop position.place file.1)
  rest_at =
      ap (λ (p : Option Position). bytes_from (Some (files_of files)) (reading_of files p)) is
      ∙ ap (λ (found : Option (List ℕ × List ℕ)). bytes_from (Some (files_of files)) (reading_at found position.place)) here
      ∙ ap (option_map (drop position.place)) (at.1 file here).0

  pub is_read_out : length file.1 ≤ position.place → IfSome (bytes_from (Some (files_of files)) (reading_of files held)) (λ rest. rest ≡ [])
  is_read_out out = subst (λ rest. IfSome rest (λ bytes. bytes ≡ [])) (sym rest_at) (drop_all position.place file.1 out)

  pub gives : (n : ℕ) (before after : List ℕ) → n ≤ length file.1 - position.place → after ≡ take n (drop position.place file.1) ++ drop n before
      → IfSome (bytes_from (Some (files_of files)) (reading_of files held)) (λ rest. (n ≤ length rest) × (after ≡ take n rest ++ drop n before))
  gives n before after within copied =
      subst (λ rest. IfSome rest (λ bytes. (n ≤ length bytes) × (after ≡ take n bytes ++ drop n before))) (sym rest_at)
      (omega (arith, length-drop position.place file.1), copied)

  -- how much that is
  pub fills : (n : ℕ) (before : List ℕ) → n ≡ min (length file.1 - position.place) (length before)
      → IfSome (bytes_from (Some (files_of files)) (reading_of files held)) (λ rest. n ≡ min (length rest) (length before))
  fills n before many =
      subst (λ rest. IfSome rest (λ bytes. n ≡ min (length bytes) (length before))) (sym rest_at)
      (many ∙ ap (λ left. min left (length before)) (sym (length-drop position.place file.1)))

  -- and further on
  pub reading_on : (n : ℕ) → reading_of files (Some (record { file = position.file; place = position.place + n })) ≡ advanced (reading_of files held) n
  reading_on n =
      ap (λ (found : Option (List ℕ × List ℕ)). reading_at found (position.place + n)) here
      ∙ sym (ap (λ (p : Option Position). advanced (reading_of files p) n) is ∙ ap (λ (found : Option (List ℕ × List ℕ)). advanced (reading_at found position.place) n) here)

  pub at_on : (n : ℕ) → position.place + n ≤ length file.1 → IsAt files (record { file = position.file; place = position.place + n })
  at_on n within = (
    at.0,
    λ other there.
        let same : file ≡ other = cc in
        ((at.1 other there).0, subst (λ (f : List ℕ × List ℕ). position.place + n ≤ length f.1) same within),
  )
