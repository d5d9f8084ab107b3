-- What a run has given out so far.
use Rattle.std.proofs.Common.{◌≡◌, ℕ, List, [], ◌∷◌, ◌++◌, Option, Result, Ok, Err, OnOk, OnErr, IfErr, refl, sym, ap, subst, ◌∙◌, append-nil, append_assoc, IsSome, IfSome, Some, None, ◌⊎◌, inl, inr}
use Rattle.std.specs.Option.{option_map}
use Rattle.zk_base.specs.declared.time.Moment.{Moment}
use Rattle.zk_base.specs.Shelf.{Files, Outside, appended}
use Rattle.zk_logs.specs.declared.logs.LogFiles.{LogFiles}
use Rattle.zk_logs.specs.Logs.{Row, log_files}
use Rattle.zk_logs.specs.Outputs.{IsBegun, OutputsBegun, files_over, over}
use Rattle.zk_logs.specs.Stopped.{ChangesOutputs, IsStoppedBy}
use Rattle.zk_logs.specs.Written.{HasWritten, pieces_of}
use Rattle.zk_value.specs.declared.cell.Cell.{Cell}
use Rattle.zk_value.specs.declared.cell.Column.{Column}
use Rattle.zk_value.specs.declared.out.Out.TheVariants as out
use Rattle.zk_outcome.specs.declared.stop.Stop.{Stop}
use Rattle.zk_outcome.specs.declared.stop.Stop.TheVariants.{ReadFault, WriteFault, NoMemory}
use Rattle.zk_outcome.specs.Parts.{Does, DoesAll, DoesPart, DoesWithoutFault, HasCause, IsQuiet}
use Rattle.zk_outcome.specs.Prefix.{IsPrefix}
use Rattle.zk_outcome.proofs.Doing.{does_both_all, does_only, does_part_of, prefix_all, prefix_none, prefix_trans}
use Rattle.zk_top.specs.declared.writer.Writer.{Writer}
use Rattle.zk_io.specs.Said.{line_end, HasSaid, HandsOver}
use Rattle.zk_top.specs.Outcome.{no_files}
use Rattle.zk_top.specs.Parts.{but_outputs}
use Rattle.zk_io.specs.Reading.{SameInput}
use Rattle.zk_top.specs.Logged.{dated}
use Rattle.zk_top.specs.Writing.{Output, HasGiven, GivesSome, GivesAll, GivesPart, AreBegun, Begins, IsReady, and_out, no_output}
use Rattle.zk_io.proofs.Said.{said_nothing, said_over, said_more, said_on, said_part_of, said_all_of, stopped_after, memory_after, memory_behind}

-- But for outputs ------------------------------------------------------------------------------------------------------

pub does_beside : (n : List (List ℕ)) (s c : List ℕ) (first a b : Outside) → Does n s c a b → Does n s c (but_outputs first a) (but_outputs first b)
does_beside n s c first a b does = record { inputs_stay = does.inputs_stay; outputs_stay = refl; says = does.says; complains = does.complains; starts = does.starts }

pub without_fault_beside : (n : List (List ℕ)) (s c : List ℕ) (first a b : Outside) → DoesWithoutFault n s c a b → DoesWithoutFault n s c (but_outputs first a) (but_outputs first b)
without_fault_beside n s c first a b all = record {
  does = does_beside n s c first a b all.does;
  faults = record { read = all.faults.read; write = all.faults.write };
}

pub all_beside : (n : List (List ℕ)) (s c : List ℕ) (first a b : Outside) → DoesAll n s c a b → DoesAll n s c (but_outputs first a) (but_outputs first b)
all_beside n s c first a b all = record { all = without_fault_beside n s c first a b all.all; present = all.present }

pub cause_beside : (first a : Outside) (stop : Stop) (b : Outside) → HasCause a stop b → HasCause (but_outputs first a) stop (but_outputs first b)
cause_beside first a ReadFault b cause = cause
cause_beside first a WriteFault b cause = cause
cause_beside first a NoMemory b cause = record { read = cause.read; write = cause.write }

pub part_beside : (n : List (List ℕ)) (s c : List ℕ) (first a : Outside) (stop : Stop) (b : Outside) → DoesPart n s c a stop b → DoesPart n s c (but_outputs first a) stop (but_outputs first b)
part_beside n s c first a stop b part = record {
  names_part = part.names_part;
  names_prefix = part.names_prefix;
  said_part = part.said_part;
  said_prefix = part.said_prefix;
  complained_part = part.complained_part;
  complained_prefix = part.complained_prefix;
  does = does_beside part.names_part part.said_part part.complained_part first a b part.does;
  cause = cause_beside first a stop b part.cause;
  quiet = part.quiet;
}

hands_beside : (first a : Outside) (piece : List ℕ) (b : Outside) (rest : List ℕ) → HandsOver a piece b rest → HandsOver (but_outputs first a) piece (but_outputs first b) rest
hands_beside first a piece b rest hands = record { said = hands.said; does = all_beside [] hands.said [] first a b hands.does; joined = hands.joined }

-- the cause of a stop, whatever the outputs are
pub cause_of_beside : (first a : Outside) (stop : Stop) (b : Outside) → HasCause (but_outputs first a) stop (but_outputs first b) → HasCause a stop b
cause_of_beside first a ReadFault b cause = cause
cause_of_beside first a WriteFault b cause = cause
cause_of_beside first a NoMemory b cause = record { read = cause.read; write = cause.write }

-- where nothing but outputs has changed, nothing was done beside them
beside_changed : (first old new : Outside) → ChangesOutputs old new → DoesAll [] [] [] (but_outputs first old) (but_outputs first new)
beside_changed first old new only = record {
  all = record {
    does = does_only (but_outputs first old) (but_outputs first new) (ap (λ (o : Outside). o.inputs) only) refl (ap (λ (o : Outside). o.said) only) (ap (λ (o : Outside). o.complained) only)
        (ap (λ (o : Outside). o.started) only);
    faults = record { read = ap (λ (o : Outside). o.read_faults) only; write = ap (λ (o : Outside). o.write_faults) only };
  };
  present = ap (λ (o : Outside). o.absences) only;
}

pub same_input : (old new : Outside) → ChangesOutputs old new → SameInput old new
same_input old new only = (ap (λ (o : Outside). o.reading) only, ap (λ (o : Outside). o.inputs) only)

-- a part was stopped that says, complains and starts nothing
stopped_beside : (first old : Outside) (stop : Stop) (new : Outside) → Does [] [] [] (but_outputs first old) (but_outputs first new)
    → HasCause (but_outputs first old) stop (but_outputs first new) → IsQuiet stop [] → DoesPart [] [] [] (but_outputs first old) stop (but_outputs first new)
stopped_beside first old stop new does cause quiet = record {
  names_part = [];
  names_prefix = prefix_none [];
  said_part = [];
  said_prefix = prefix_none [];
  complained_part = [];
  complained_prefix = prefix_none [];
  does = does;
  cause = cause;
  quiet = quiet;
}

-- the writing of logs was stopped
log_stopped : (first old : Outside) (stop : Stop) (new : Outside) → IsStoppedBy stop old new → DoesPart [] [] [] (but_outputs first old) stop (but_outputs first new)
log_stopped first old ReadFault new none = absurd none
log_stopped first old NoMemory new only = stopped_beside first old NoMemory new (beside_changed first old new only).all.does (beside_changed first old new only).all.faults refl
log_stopped first old WriteFault new (cause, is) =
    stopped_beside first old WriteFault new
    (does_only (but_outputs first old) (but_outputs first new) (ap (λ (o : Outside). o.inputs) is) refl (ap (λ (o : Outside). o.said) is) (ap (λ (o : Outside). o.complained) is)
    (ap (λ (o : Outside). o.started) is)) (cause_beside first old WriteFault new cause) tt

-- Files that are begun -------------------------------------------------------------------------------------------------

-- no file is written
pub no_file_written : (written : Files) (before now : Option Files) → written ≡ no_files → now ≡ before → now ≡ option_map (files_over written) before
no_file_written written None now none same = same
no_file_written written (Some files) now none same = same ∙ ap (λ w. Some (files_over w files)) (sym none)

pub no_file_begun : (written : Files) (before now : Option Files) → now ≡ before → OutputsBegun written before now
no_file_begun written None now same = same
no_file_begun written (Some files) now same = (files, same, λ name. inl refl)

-- all files are written
pub whole_begun : (written : Files) (before now : Option Files) → now ≡ option_map (files_over written) before → OutputsBegun written before now
whole_begun written None now is = is
whole_begun written (Some files) now is = (files_over written files, is, λ name. here name (written name) refl)
  where
    here : (name : List ℕ) (found : Option (List ℕ)) → written name ≡ found
        → (over (written name) (files name) ≡ files name) ⊎ ((content : List ℕ) × (written name ≡ Some content) × IsBegun content (over (written name) (files name)))
    here name None none = inl (ap (λ found. over found (files name)) none)
    here name (Some content) some = inr (content, some, subst (IsBegun content) (sym (ap (λ found. over found (files name)) some)) ([], sym (append-nil content)))

-- more rows
pub begun_further : (part whole : List Row) (before now : Option Files) → IsPrefix part whole → AreBegun part before now → AreBegun whole before now
begun_further part whole before now prefix begun more end =
    subst (λ rows. OutputsBegun (log_files rows end) before now) (sym (append_assoc part prefix.rest more) ∙ ap (λ rows. rows ++ more) (sym prefix.joined))
    (begun (prefix.rest ++ more) end)

-- no row more
pub begun_to_end : (rows : List Row) (before now : Option Files) (end : Moment) → AreBegun rows before now → OutputsBegun (log_files rows end) before now
begun_to_end rows before now end begun = subst (λ xs. OutputsBegun (log_files xs end) before now) (append-nil rows) (begun [] end)

-- What was given -------------------------------------------------------------------------------------------------------

pub begins_all : (output : Output) → Begins output output
begins_all output = record { text = prefix_all output.text; rows = prefix_all output.rows }

pub begins_trans : (a b c : Output) → Begins a b → Begins b c → Begins a c
begins_trans a b c ab bc = record { text = prefix_trans a.text b.text c.text ab.text bc.text; rows = prefix_trans a.rows b.rows c.rows ab.rows bc.rows }

pub ready_on : (writer : Writer) (old new : Outside) → new.outputs ≡ old.outputs → IsReady writer old → IsReady writer new
ready_on writer old new same ready =
    let Created : Option Files → Type 0 = λ outputs. (name : List ℕ) → IsSome (pieces_of writer.logs name) → IfSome outputs (λ files. IsSome (files name)) in
    subst Created (sym same) ready

-- nothing was given
pub given_nothing : (first : Outside) (writer : Writer) → writer.piece.items ≡ [] → HasWritten first.outputs [] writer.logs first.outputs → HasGiven first no_output writer first
given_nothing first writer none written = record {
  says = subst (λ piece. HasSaid first [] piece first) (sym none) (said_nothing first);
  writes = written;
  begun = λ more end. no_file_begun (log_files more end) first.outputs first.outputs refl;
}

-- something was done that gives nothing
pub given_on : (first : Outside) (output : Output) (writer : Writer) (old new : Outside) → HasGiven first output writer old → DoesAll [] [] [] old new → HasGiven first output writer new
given_on first output writer old new given does =
    let same : new.outputs ≡ old.outputs = does.all.does.outputs_stay in
    record {
      says = said_on first output.text writer.piece.items (but_outputs first old) (but_outputs first new) given.says (all_beside [] [] [] first old new does);
      writes = subst (λ outputs. HasWritten first.outputs output.rows writer.logs outputs) (sym same) given.writes;
      begun = subst (AreBegun output.rows first.outputs) (sym same) given.begun;
    }

-- memory ran out
pub given_without_memory : (first : Outside) (part whole : Output) (writer : Writer) (now : Outside) → HasGiven first part writer now → Begins part whole → GivesSome whole first NoMemory now
given_without_memory first part whole writer now given begins = record {
  says = memory_after first part.text writer.piece.items whole.text (but_outputs first now) given.says begins.text;
  begun = begun_further part.rows whole.rows first.outputs now.outputs begins.rows given.begun;
}

-- stopped where nothing is given
pub given_and_stopped : (first : Outside) (part whole : Output) (writer : Writer) (old : Outside) (stop : Stop) (new : Outside) → HasGiven first part writer old → Begins part whole
    → DoesPart [] [] [] old stop new → GivesSome whole first stop new
given_and_stopped first part whole writer old stop new given begins stopped = record {
  says = stopped_after first part.text writer.piece.items whole.text (but_outputs first old) stop (but_outputs first new) given.says begins.text (part_beside [] [] [] first old stop new stopped);
  begun = begun_further part.rows whole.rows first.outputs new.outputs begins.rows (subst (AreBegun part.rows first.outputs) (sym stopped.does.outputs_stay) given.begun);
}

-- what begins something begins more
pub some_further : (first : Outside) (part whole : Output) (stop : Stop) (now : Outside) → Begins part whole → GivesSome part first stop now → GivesSome whole first stop now
some_further first part whole stop now begins some = record {
  says = does_part_of [] [] part.text whole.text [] [] first stop (but_outputs first now) (prefix_all []) begins.text (prefix_all []) some.says;
  begun = begun_further part.rows whole.rows first.outputs now.outputs begins.rows some.begun;
}

-- A line and a row -----------------------------------------------------------------------------------------------------

-- a line was said or waits
line_given : (first : Outside) (output : Output) (writer : Writer) (line : List ℕ) (old new : Outside) (after : Writer) → HasGiven first output writer old
    → HandsOver old (writer.piece.items ++ line) new after.piece.items → after.logs ≡ writer.logs
    → HasGiven first (record output { text = output.text ++ line }) after new
line_given first output writer line old new after given hands logs =
    let same : new.outputs ≡ old.outputs = hands.does.all.does.outputs_stay in
    record {
      says = said_over first (output.text ++ line) (writer.piece.items ++ line) (but_outputs first old) (but_outputs first new) after.piece.items
          (said_more first output.text writer.piece.items line (writer.piece.items ++ line) (but_outputs first old) given.says refl)
          (hands_beside first old (writer.piece.items ++ line) new after.piece.items hands);
      writes = subst (λ (l : LogFiles). HasWritten first.outputs output.rows l new.outputs) (sym logs)
          (subst (λ outputs. HasWritten first.outputs output.rows writer.logs outputs) (sym same) given.writes);
      begun = subst (AreBegun output.rows first.outputs) (sym same) given.begun;
    }

-- stopped while it was said
line_stopped : (first : Outside) (output : Output) (writer : Writer) (line : List ℕ) (old : Outside) (stop : Stop) (new : Outside) → HasGiven first output writer old
    → DoesPart [] writer.piece.items [] old stop new → GivesSome (record output { text = output.text ++ line }) first stop new
line_stopped first output writer line old stop new given part = record {
  says = said_part_of first output.text writer.piece.items (output.text ++ line) (but_outputs first old) stop (but_outputs first new) given.says (record { rest = line; joined = refl })
      (part_beside [] writer.piece.items [] first old stop new part);
  begun = subst (AreBegun output.rows first.outputs) (sym part.does.outputs_stay) given.begun;
}

-- what is written of rows stays, whatever rows come
abbrev pub RowsStay : Type 0
RowsStay = (before now : Option Files) (rows more : List Row) (logs : LogFiles) (end : Moment) → HasWritten before rows logs now → OutputsBegun (log_files (rows ++ more) end) before now

-- a row was written
row_given : RowsStay → (first : Outside) (output : Output) (writer : Writer) (row : Row) (old new : Outside) (logs : LogFiles) → HasGiven first output writer old
    → HasWritten first.outputs (output.rows ++ row ∷ []) logs new.outputs → ChangesOutputs old new
    → HasGiven first (record output { rows = output.rows ++ row ∷ [] }) (record writer { logs = logs }) new
row_given stay first output writer row old new logs given written only = record {
  says = said_on first output.text writer.piece.items (but_outputs first old) (but_outputs first new) given.says (beside_changed first old new only);
  writes = written;
  begun = λ more end. stay first.outputs new.outputs (output.rows ++ row ∷ []) more logs end written;
}

-- stopped while it was written
row_stopped : (first : Outside) (output : Output) (writer : Writer) (row : Row) (old : Outside) (stop : Stop) (new : Outside) → HasGiven first output writer old
    → ((more : List Row) (end : Moment) → OutputsBegun (log_files (output.rows ++ row ∷ more) end) first.outputs new.outputs)
    → DoesPart [] [] [] (but_outputs first old) stop (but_outputs first new) → GivesSome (record output { rows = output.rows ++ row ∷ [] }) first stop new
row_stopped first output writer row old stop new given begun part = record {
  says = stopped_after first output.text writer.piece.items output.text (but_outputs first old) stop (but_outputs first new) given.says (prefix_all output.text) part;
  begun = λ more end. subst (λ rows. OutputsBegun (log_files rows end) first.outputs new.outputs) (sym (append_assoc output.rows (row ∷ []) more)) (begun more end);
}

-- The end --------------------------------------------------------------------------------------------------------------

-- what waited was said
said_and_open : (first : Outside) (output : Output) (writer : Writer) (old new : Outside) → HasGiven first output writer old → DoesAll [] writer.piece.items [] old new
    → DoesAll [] output.text [] first (but_outputs first new)
said_and_open first output writer old new given says =
    said_all_of first output.text writer.piece.items (but_outputs first old) (but_outputs first new) given.says (all_beside [] writer.piece.items [] first old new says)

still_written : (first : Outside) (output : Output) (writer : Writer) (old new : Outside) → HasGiven first output writer old → new.outputs ≡ old.outputs
    → HasWritten first.outputs output.rows writer.logs new.outputs
still_written first output writer old new given same = subst (λ outputs. HasWritten first.outputs output.rows writer.logs outputs) (sym same) given.writes

-- stopped while it was said
pub end_stopped : (first : Outside) (output : Output) (writer : Writer) (end : Moment) (old : Outside) (stop : Stop) (new : Outside) → HasGiven first output writer old
    → DoesPart [] writer.piece.items [] old stop new → GivesPart output.text (log_files output.rows end) first stop new
end_stopped first output writer end old stop new given part = record {
  says = said_part_of first output.text writer.piece.items output.text (but_outputs first old) stop (but_outputs first new) given.says (prefix_all output.text)
      (part_beside [] writer.piece.items [] first old stop new part);
  begun = begun_to_end output.rows first.outputs new.outputs end (subst (AreBegun output.rows first.outputs) (sym part.does.outputs_stay) given.begun);
}

-- and the logs were closed
given_all : (first : Outside) (text : List ℕ) (old new : Outside) → DoesAll [] text [] first (but_outputs first old) → ChangesOutputs old new
    → DoesAll [] text [] first (but_outputs first new)
given_all first text old new says only =
    subst (λ said. DoesAll [] said [] first (but_outputs first new)) (append-nil text) (does_both_all [] [] text [] [] [] first (but_outputs first old) (but_outputs first new) says (beside_changed first old new only))

-- stopped while they were closed
close_stopped : (first : Outside) (text : List ℕ) (files : Files) (old : Outside) (stop : Stop) (new : Outside) → DoesAll [] text [] first (but_outputs first old)
    → DoesPart [] [] [] (but_outputs first old) stop (but_outputs first new) → OutputsBegun files first.outputs new.outputs → GivesPart text files first stop new
close_stopped first text files old stop new says part begun = record {
  says = stopped_after first text [] text (but_outputs first old) stop (but_outputs first new) (record { said = text; does = says; joined = sym (append-nil text) }) (prefix_all text) part;
  begun = begun;
}

-- stopped before anything was given
pub nothing_given : (text : List ℕ) (files : Files) (old : Outside) (stop : Stop) (new : Outside) → DoesPart [] [] [] old stop new → GivesPart text files old stop new
nothing_given text files old stop new part = record {
  says = part_beside [] text [] old old stop new (does_part_of [] [] [] text [] [] old stop new (prefix_all []) (prefix_none text) (prefix_all []) part);
  begun = no_file_begun files old.outputs new.outputs part.does.outputs_stay;
}

-- all was given, and then memory ran out
pub memory_behind_all : (text : List ℕ) (files : Files) (old new : Outside) → GivesAll text files old new → GivesPart text files old NoMemory new
memory_behind_all text files old new gives = record {
  says = memory_behind old text (but_outputs old new) gives.says;
  begun = whole_begun files old.outputs new.outputs gives.outputs;
}

-- What the writer's calls come to ----------------------------------------------------------------------------------------

-- the row that is given
abbrev row_given_out : List ℕ → List Column → List Cell → Moment → Row
row_given_out path columns cells at = record { path = path; columns = columns; cells = cells; at = dated at }

-- as the log has it
pub same_row : (path path' : List ℕ) (columns columns' : List Column) (cells cells' : List Cell) (at at' : Moment) → path' ≡ path → columns' ≡ columns → cells' ≡ cells → at' ≡ dated at
    → ◌≡◌ {A = Row} (record { path = path'; columns = columns'; cells = cells'; at = at' }) (row_given_out path columns cells at)
same_row path path' columns columns' cells cells' at at' p cs vs t =
    ap (λ x. record { path = x; columns = columns'; cells = cells'; at = at' }) p ∙ ap (λ (x : List Column). record { path = path; columns = x; cells = cells'; at = at' }) cs
    ∙ ap (λ (x : List Cell). record { path = path; columns = columns; cells = x; at = at' }) vs ∙ ap (λ (x : Moment). record { path = path; columns = columns; cells = cells; at = x }) t

pub give_line : (result : Result (Unit {0}) Stop) (line : List ℕ) (writer after : Writer) (old new : Outside) → after.logs ≡ writer.logs
    → OnOk result (HandsOver old (writer.piece.items ++ (line ++ line_end)) new after.piece.items)
    → OnOk result ((first : Outside) (output : Output) → HasGiven first output writer old → HasGiven first (and_out output (out.Line line)) after new)
give_line (Ok done) line writer after old new logs hands = λ first output given. line_given first output writer (line ++ line_end) old new after given hands logs
give_line (Err stop) line writer after old new logs hands = tt

pub give_line_stopped : (result : Result (Unit {0}) Stop) (line : List ℕ) (writer : Writer) (old new : Outside)
    → IfErr result (λ stop. DoesPart [] writer.piece.items [] old stop new)
    → IfErr result (λ stop. (first : Outside) (output : Output) → HasGiven first output writer old → GivesSome (and_out output (out.Line line)) first stop new)
give_line_stopped (Ok done) line writer old new part = tt
give_line_stopped (Err stop) line writer old new part = λ first output given. line_stopped first output writer (line ++ line_end) old stop new given part

pub give_row : RowsStay → (wrote : Result (Unit {0}) Stop) (path : List ℕ) (columns : List Column) (cells : List Cell) (at : Moment) (row : Row) (writer : Writer) (old new : Outside) (logs : LogFiles)
    → row ≡ row_given_out path columns cells at
    → OnOk wrote ((before : Option Files) (rows : List Row) → HasWritten before rows writer.logs old.outputs → HasWritten before (rows ++ row ∷ []) logs new.outputs)
    → OnOk wrote (ChangesOutputs old new)
    → OnOk wrote ((first : Outside) (output : Output) → HasGiven first output writer old
    → HasGiven first (and_out output (out.Row path columns cells at)) (record writer { logs = logs }) new)
give_row stay (Ok done) path columns cells at row writer old new logs is written only = λ first output given.
    row_given stay first output writer (row_given_out path columns cells at) old new logs given
    (subst (λ (one : Row). HasWritten first.outputs (output.rows ++ one ∷ []) logs new.outputs) is (written first.outputs output.rows given.writes)) only
give_row stay (Err stop) path columns cells at row writer old new logs is written only = tt

row_part : (path : List ℕ) (columns : List Column) (cells : List Cell) (at : Moment) (row : Row) (writer : Writer) (old : Outside) (stop : Stop) (new : Outside) → row ≡ row_given_out path columns cells at
    → ((before : Option Files) (rows more : List Row) (end : Moment) → HasWritten before rows writer.logs old.outputs → OutputsBegun (log_files (rows ++ row ∷ more) end) before new.outputs)
    → ((first : Outside) → DoesPart [] [] [] (but_outputs first old) stop (but_outputs first new))
    → (first : Outside) (output : Output) → HasGiven first output writer old → GivesSome (and_out output (out.Row path columns cells at)) first stop new
row_part path columns cells at row writer old stop new is begun part first output given =
    row_stopped first output writer (row_given_out path columns cells at) old stop new given
    (λ more end. subst (λ (one : Row). OutputsBegun (log_files (output.rows ++ one ∷ more) end) first.outputs new.outputs) is (begun first.outputs output.rows more end given.writes)) (part first)

pub give_row_stopped : (wrote : Result (Unit {0}) Stop) (path : List ℕ) (columns : List Column) (cells : List Cell) (at : Moment) (row : Row) (writer : Writer) (old new : Outside)
    → row ≡ row_given_out path columns cells at
    → OnErr wrote ((before : Option Files) (rows more : List Row) (end : Moment) → HasWritten before rows writer.logs old.outputs → OutputsBegun (log_files (rows ++ row ∷ more) end) before new.outputs)
    → IfErr wrote (λ stop. IsStoppedBy stop old new)
    → IfErr wrote (λ stop. (first : Outside) (output : Output) → HasGiven first output writer old → GivesSome (and_out output (out.Row path columns cells at)) first stop new)
give_row_stopped (Ok done) path columns cells at row writer old new is begun stopped = tt
give_row_stopped (Err stop) path columns cells at row writer old new is begun stopped =
    row_part path columns cells at row writer old stop new is begun (λ first. log_stopped first old stop new stopped)

-- the logs are closed behind what was said
pub close_all : (wrote : Result (Unit {0}) Stop) (end : Moment) (writer : Writer) (old mid new : Outside) → DoesAll [] writer.piece.items [] old mid
    → OnOk wrote ((before : Option Files) (rows : List Row) → HasWritten before rows writer.logs mid.outputs → new.outputs ≡ option_map (files_over (log_files rows end)) before)
    → OnOk wrote (ChangesOutputs mid new)
    → OnOk wrote ((first : Outside) (output : Output) → HasGiven first output writer old → GivesAll output.text (log_files output.rows end) first new)
close_all (Ok done) end writer old mid new says closed only = λ first output given. record {
  says = given_all first output.text mid new (said_and_open first output writer old mid given says) only;
  outputs = closed first.outputs output.rows (still_written first output writer old mid given says.all.does.outputs_stay);
}
close_all (Err stop) end writer old mid new says closed only = tt

close_part : (end : Moment) (writer : Writer) (old mid : Outside) (stop : Stop) (new : Outside) → DoesAll [] writer.piece.items [] old mid
    → ((before : Option Files) (rows : List Row) → HasWritten before rows writer.logs mid.outputs → OutputsBegun (log_files rows end) before new.outputs)
    → ((first : Outside) → DoesPart [] [] [] (but_outputs first mid) stop (but_outputs first new))
    → (first : Outside) (output : Output) → HasGiven first output writer old → GivesPart output.text (log_files output.rows end) first stop new
close_part end writer old mid stop new says begun part first output given =
    close_stopped first output.text (log_files output.rows end) mid stop new (said_and_open first output writer old mid given says) (part first)
    (begun first.outputs output.rows (still_written first output writer old mid given says.all.does.outputs_stay))

pub close_some : (wrote : Result (Unit {0}) Stop) (end : Moment) (writer : Writer) (old mid new : Outside) → DoesAll [] writer.piece.items [] old mid
    → OnErr wrote ((before : Option Files) (rows : List Row) → HasWritten before rows writer.logs mid.outputs → OutputsBegun (log_files rows end) before new.outputs)
    → IfErr wrote (λ stop. IsStoppedBy stop mid new)
    → IfErr wrote (λ stop. (first : Outside) (output : Output) → HasGiven first output writer old → GivesPart output.text (log_files output.rows end) first stop new)
close_some (Ok done) end writer old mid new says begun stopped = tt
close_some (Err stop) end writer old mid new says begun stopped = close_part end writer old mid stop new says begun (λ first. log_stopped first mid stop new stopped)
