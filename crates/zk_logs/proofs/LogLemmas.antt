-- The rows of each file, and what one row more makes of it.
use Rattle.std.proofs.Common.{◌≡◌, ℕ, List, [], ◌∷◌, ◌++◌, true, false, cond, Some, None, IsSome, map, codes, refl, sym, ap, subst, ◌∙◌, rules, append_assoc}
use Rattle.std.specs.List.{flat_map, filter}
use Rattle.std.specs.Str.{bytes_eq}
use Rattle.std.proofs.lemmas.List.{append-nil, append_cancel_right}
use Rattle.std.proofs.lemmas.List.Elements.{filter-append}
use Rattle.std.proofs.lemmas.Grind.{flat_map-append}
use Rattle.std.proofs.lemmas.Slice.Eq.{bytes_eq-Decides}
use Rattle.zk_base.specs.declared.time.Moment.{Moment}
use Rattle.zk_base.specs.Shelf.{with_file, with_piece, appended}
use Rattle.zk_ascii.specs.Text as text
use Rattle.zk_ascii.specs.Text.{header_text, row_text, close_text, log_text}
use Rattle.zk_logs.specs.Logs.{Row, row_in_log, file_name, rows_in, closed_file, log_files, log_by, log_of, open_file, open_files}
use Rattle.zk_logs.proofs.OutputLemmas.{same_bytes, Begins}

-- Names ---------------------------------------------------------------------------------------------------------

-- logs of different paths lie in different files
pub names_apart : (a b : List ℕ) → file_name a ≡ file_name b → a ≡ b
names_apart a b same = append_cancel_right a b (codes ".log") same

-- paths are compared as the names of their files
pub path_as_name : (path own : List ℕ) → bytes_eq path own ≡ bytes_eq (file_name own) (file_name path)
path_as_name path own =
    elim (bytes_eq path own) as (λ t. bytes_eq path own ≡ t → t ≡ bytes_eq (file_name own) (file_name path)) [
      | true ↦ λ e. sym ((bytes_eq-Decides (file_name own) (file_name path)).1 (ap file_name (sym (same_bytes path own e))))
      | false ↦ λ e.
          elim (bytes_eq (file_name own) (file_name path)) as (λ u. bytes_eq (file_name own) (file_name path) ≡ u → false ≡ u) [
            | true ↦ λ h. sym e ∙ (bytes_eq-Decides path own).1 (sym (names_apart own path (same_bytes (file_name own) (file_name path) h)))
            | false ↦ λ h. refl
          ] refl
    ] refl

-- Rows ----------------------------------------------------------------------------------------------------------

abbrev row_lines : List Row → List ℕ
row_lines rows = flat_map (λ (one : Row). row_text one.cells) rows

-- a row is written as it stands in its log
lines_in_log : (rows : List Row) → flat_map (λ (one : text.Row). row_text one.cells) (map row_in_log rows) ≡ row_lines rows
lines_in_log [] = refl
lines_in_log (row ∷ rows) = ap (λ t. row_text row.cells ++ t) (lines_in_log rows)

rows_more : (name : List ℕ) (rows more : List Row) → rows_in name (rows ++ more) ≡ rows_in name rows ++ rows_in name more
unfolding rows_in
rows_more name rows more = filter-append (λ (row : Row). bytes_eq (file_name row.path) name) rows more

-- Texts ---------------------------------------------------------------------------------------------------------

closed_text : (end : Moment) (rows : List Row) → closed_file end rows ≡ appended (open_file rows) (close_text end)
closed_text end [] = refl
closed_text end (row ∷ rows) = ap (λ lines. Some ((header_text row.path row.columns row.at ++ lines) ++ close_text end)) (lines_in_log (row ∷ rows))

-- a closed log is the open one and the line that ends it
pub closed_by : (rows : List Row) (end : Moment) (name : List ℕ) → log_files rows end name ≡ appended (open_files rows name) (close_text end)
unfolding log_files open_files
closed_by rows end name = closed_text end (rows_in name rows)

begins_file : (end : Moment) (rows more : List Row) → Begins (open_file rows) (closed_file end (rows ++ more))
begins_file end [] more = tt
begins_file end (row ∷ rows) more =
    let top = header_text row.path row.columns row.at in (
      row_lines more ++ close_text end,
      ap (λ lines. (top ++ lines) ++ close_text end) (lines_in_log (row ∷ rows ++ more) ∙ flat_map-append (λ (one : Row). row_text one.cells) (row ∷ rows) more)
          ∙ ap (λ t. t ++ close_text end) (sym (append_assoc top (row_lines (row ∷ rows)) (row_lines more)))
          ∙ append_assoc (top ++ row_lines (row ∷ rows)) (row_lines more) (close_text end),
    )

-- an open log begins the closed one, whatever rows come
pub begins_closed : (rows more : List Row) (end : Moment) (name : List ℕ) → Begins (open_files rows name) (log_files (rows ++ more) end name)
unfolding log_files open_files
begins_closed rows more end name =
    subst (λ all. Begins (open_file (rows_in name rows)) (closed_file end all)) (sym (rows_more name rows more)) (begins_file end (rows_in name rows) (rows_in name more))

-- One row more --------------------------------------------------------------------------------------------------

open_more : (rows : List Row) (row : Row) → IsSome (open_file rows) → open_file (rows ++ row ∷ []) ≡ appended (open_file rows) (row_text row.cells)
open_more [] row there = absurd (search rules)
open_more (first ∷ rows) row there =
    let top = header_text first.path first.columns first.at in
    ap Some
    (ap (λ lines. top ++ lines) (flat_map-append (λ (one : Row). row_text one.cells) (first ∷ rows) (row ∷ []) ∙ ap (λ t. row_lines (first ∷ rows) ++ t) (append-nil (row_text row.cells)))
    ∙ sym (append_assoc top (row_lines (first ∷ rows)) (row_text row.cells)))

open_first : (rows : List Row) (row : Row) → open_file rows ≡ None → open_file (rows ++ row ∷ []) ≡ Some (header_text row.path row.columns row.at ++ row_text row.cells)
open_first [] row none = ap (λ t. Some (header_text row.path row.columns row.at ++ t)) (append-nil (row_text row.cells))
open_first (first ∷ rows) row none = cc

-- the row of a path is added to its log
pub open_files_more : (rows : List Row) (row : Row) → IsSome (open_files rows (file_name row.path))
    → (other : List ℕ) → open_files (rows ++ row ∷ []) other ≡ with_piece (open_files rows) (file_name row.path) (row_text row.cells) other
unfolding open_files rows_in
open_files_more rows row there other =
    ap open_file (rows_more other rows (row ∷ []))
    ∙ elim (bytes_eq (file_name row.path) other) as (λ b. bytes_eq (file_name row.path) other ≡ b
    → open_file (rows_in other rows ++ cond b (row ∷ []) []) ≡ cond b (appended (open_file (rows_in other rows)) (row_text row.cells)) (open_file (rows_in other rows))) [
      | true ↦ λ e. open_more (rows_in other rows) row (subst (λ n. IsSome (open_file (rows_in n rows))) (same_bytes (file_name row.path) other e) there)
      | false ↦ λ e. ap open_file (append-nil (rows_in other rows))
    ] refl

-- the first row of a path begins its log
pub open_files_first : (rows : List Row) (row : Row) → open_files rows (file_name row.path) ≡ None
    → (other : List ℕ) → open_files (rows ++ row ∷ []) other ≡ with_file (open_files rows) (file_name row.path) (header_text row.path row.columns row.at ++ row_text row.cells) other
unfolding open_files rows_in
open_files_first rows row none other =
    ap open_file (rows_more other rows (row ∷ []))
    ∙ elim (bytes_eq (file_name row.path) other) as (λ b. bytes_eq (file_name row.path) other ≡ b
    → open_file (rows_in other rows ++ cond b (row ∷ []) []) ≡ cond b (Some (header_text row.path row.columns row.at ++ row_text row.cells)) (open_file (rows_in other rows))) [
      | true ↦ λ e. open_first (rows_in other rows) row (ap (λ n. open_file (rows_in n rows)) (sym (same_bytes (file_name row.path) other e)) ∙ none)
      | false ↦ λ e. ap open_file (append-nil (rows_in other rows))
    ] refl

-- The log of a path ---------------------------------------------------------------------------------------------

rows_of_path : (path : List ℕ) (rows : List Row) → rows_in (file_name path) rows ≡ filter (λ (row : Row). bytes_eq path row.path) rows
unfolding rows_in
rows_of_path path [] = refl
rows_of_path path (row ∷ rows) =
    ap (λ others. cond (bytes_eq (file_name row.path) (file_name path)) (row ∷ others) others) (rows_of_path path rows)
    ∙ ap (λ b. cond b (row ∷ filter (λ (one : Row). bytes_eq path one.path) rows) (filter (λ (one : Row). bytes_eq path one.path) rows)) (sym (path_as_name path row.path))

-- the first of the rows of a path has that path
first_path : (path : List ℕ) (rows others : List Row) (first : Row) → filter (λ (row : Row). bytes_eq path row.path) rows ≡ first ∷ others → first.path ≡ path
first_path path [] others first is = cc
first_path path (row ∷ rows) others first is =
    elim (bytes_eq path row.path) as (λ b. bytes_eq path row.path ≡ b
    → cond b (row ∷ filter (λ (one : Row). bytes_eq path one.path) rows) (filter (λ (one : Row). bytes_eq path one.path) rows) ≡ first ∷ others → first.path ≡ path) [
      | true ↦ λ e at. let same : row ≡ first = cc in ap (λ (one : Row). one.path) (sym same) ∙ sym (same_bytes path row.path e)
      | false ↦ λ e at. first_path path rows others first at
    ] refl is

log_at : (path : List ℕ) (rows found : List Row) (end : Moment) → filter (λ (row : Row). bytes_eq path row.path) rows ≡ found → closed_file end found ≡ log_by path end found
log_at path rows [] end is = refl
log_at path rows (first ∷ others) end is = ap (λ p. Some (log_text p (map row_in_log (first ∷ others)) end)) (first_path path rows others first is)

-- the file of a path is the log of its rows
pub file_of_path : (path : List ℕ) (rows : List Row) (end : Moment) → log_files rows end (file_name path) ≡ log_of path rows end
unfolding log_files
file_of_path path rows end =
    ap (closed_file end) (rows_of_path path rows) ∙ log_at path rows (filter (λ (row : Row). bytes_eq path row.path) rows) end refl
