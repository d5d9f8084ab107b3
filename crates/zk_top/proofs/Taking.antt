-- What a sink has taken so far.
use Rattle.std.proofs.Common.{◌≡◌, ℕ, ◌+◌, Bool, true, false, cond, List, [], ◌∷◌, ◌++◌, length, filter, codes, refl, ap, ◌∙◌, length-append, arith}
use Rattle.std.proofs.lemmas.List.Elements.{filter-append}
use Rattle.std.specs.Str.{bytes_eq}
use Rattle.zk_base.specs.Shelf.{Outside}
use Rattle.zk_logs.specs.Logs.{Row, log_files}
use Rattle.zk_outcome.specs.declared.stop.Stop.{Stop}
use Rattle.zk_outcome.specs.declared.stop.Stop.TheVariants.{NoMemory}
use Rattle.zk_outcome.specs.Parts.{DoesAll, DoesPart}
use Rattle.zk_outcome.proofs.Doing.{does_both_all, out_of_memory, prefix_none}
use Rattle.zk_top.specs.declared.sink.Sink.{Sink}
use Rattle.zk_top.specs.declared.sink.Sink.TheVariants as sink
use Rattle.zk_top.specs.Sink.{Beginning, CanTake, HasTaken, TakesSome}
use Rattle.zk_top.specs.Summary.{and_one, and_row, counts_of, rows_at}
use Rattle.zk_top.specs.Writing.{Begins, GivesSome, Output}
use Rattle.zk_top.proofs.Giving.{all_beside, given_and_stopped, given_on, given_without_memory, no_file_begun, part_beside, ready_on}
use Rattle.zk_io.proofs.Said.{stopped_after}

-- Counts ------------------------------------------------------------------------------------------------------------

one_more : (is : Bool) (row : Row) (n : ℕ) → n + length (cond is (row ∷ []) []) ≡ cond is (n + 1) n
one_more true row n = refl
one_more false row n = let same : n + 0 ≡ n = omega arith in same

rows_more : (path : List ℕ) (rows : List Row) (row : Row) → rows_at path (rows ++ row ∷ []) ≡ and_one path (rows_at path rows) row.path
rows_more path rows row =
    ap length (filter-append (λ (one : Row). bytes_eq one.path path) rows (row ∷ []))
    ∙ length-append (filter (λ (one : Row). bytes_eq one.path path) rows) (filter (λ (one : Row). bytes_eq one.path path) (row ∷ []))
    ∙ one_more (bytes_eq row.path path) row (rows_at path rows)

-- with one more row
pub counts_more : (rows : List Row) (row : Row) → counts_of (rows ++ row ∷ []) ≡ and_row (counts_of rows) row.path
counts_more rows row =
    let conn = rows_more (codes "conn") rows row in
    let dns = rows_more (codes "dns") rows row in
    let http = rows_more (codes "http") rows row in
    ap (λ n. record { conn = n; dns = rows_at (codes "dns") (rows ++ row ∷ []); http = rows_at (codes "http") (rows ++ row ∷ []) }) conn
    ∙ ap (λ n. record { conn = and_one (codes "conn") (rows_at (codes "conn") rows) row.path; dns = n; http = rows_at (codes "http") (rows ++ row ∷ []) }) dns
    ∙ ap (λ n. record { conn = and_one (codes "conn") (rows_at (codes "conn") rows) row.path; dns = and_one (codes "dns") (rows_at (codes "dns") rows) row.path; http = n }) http

-- Where nothing is done outside ---------------------------------------------------------------------------------------

-- a run is stopped that has given nothing out
nothing_out : (first : Outside) (output : Output) (old : Outside) (stop : Stop) (new : Outside) → DoesAll [] [] [] first old → DoesPart [] [] [] old stop new → GivesSome output first stop new
nothing_out first output old stop new does part = record {
  says = stopped_after first [] [] output.text (record old { outputs = first.outputs }) stop (record new { outputs = first.outputs })
      (record { said = []; does = all_beside [] [] [] first first old does; joined = refl }) (prefix_none output.text) (part_beside [] [] [] first old stop new part);
  begun = λ more end. no_file_begun (log_files (output.rows ++ more) end) first.outputs new.outputs (part.does.outputs_stay ∙ does.all.does.outputs_stay);
}

-- A sink --------------------------------------------------------------------------------------------------------------

-- something was done that gives nothing
pub taken_on : (first : Beginning) (output : Output) (sink : Sink) (old new : Outside) → HasTaken first output sink old → DoesAll [] [] [] old new → HasTaken first output sink new
taken_on first output (sink.Written writer) old new (target, given) does = (target, given_on first.outside output writer old new given does)
taken_on first output (sink.Counted counts) old new (target, counted) does =
    (target, record { counts_are = counted.counts_are; does = does_both_all [] [] [] [] [] [] first.outside old new counted.does does })

-- memory ran out
pub taken_without_memory : (first : Beginning) (part whole : Output) (sink : Sink) (now : Outside) → HasTaken first part sink now → Begins part whole → TakesSome whole first NoMemory now
taken_without_memory first part whole (sink.Written writer) now (target, given) begins = given_without_memory first.outside part whole writer now given begins
taken_without_memory first part whole (sink.Counted counts) now (target, counted) begins =
    nothing_out first.outside whole now NoMemory now counted.does (out_of_memory [] [] [] now now refl)

-- stopped where nothing is given
pub taken_and_stopped : (first : Beginning) (part whole : Output) (sink : Sink) (old : Outside) (stop : Stop) (new : Outside) → HasTaken first part sink old → Begins part whole
    → DoesPart [] [] [] old stop new → TakesSome whole first stop new
taken_and_stopped first part whole (sink.Written writer) old stop new (target, given) begins stopped = given_and_stopped first.outside part whole writer old stop new given begins stopped
taken_and_stopped first part whole (sink.Counted counts) old stop new (target, counted) begins stopped = nothing_out first.outside whole old stop new counted.does stopped

pub can_take_on : (sink : Sink) (old new : Outside) → new.outputs ≡ old.outputs → CanTake sink old → CanTake sink new
can_take_on (sink.Written writer) old new same ready = ready_on writer old new same ready
can_take_on (sink.Counted counts) old new same ready = tt
