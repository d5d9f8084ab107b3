-- What is done over a generated capture.
use Rattle.std.proofs.Common.{◌≡◌, ℕ, List, [], inl, false, map, Some, Result, Ok, Err, length, refl, sym, ap, subst, ◌∙◌}
use Rattle.zk_base.specs.declared.endings.Ending.{Ending}
use Rattle.zk_base.specs.declared.endings.Ending.TheVariants as ending
use Rattle.zk_base.specs.declared.time.Moment.{Moment}
use Rattle.zk_base.specs.Shelf.{Files, Outside, lies_under}
use Rattle.zk_gen.specs.Capture as gen
use Rattle.zk_base.specs.declared.capture.CaptureEnding.{CaptureEnding}
use Rattle.zk_base.specs.declared.capture.CaptureEnding.TheVariants.{Whole, Cut}
use Rattle.zk_pcap.specs.declared.faults.CaptureFault.{CaptureFault}
use Rattle.zk_base.specs.Captured.{Captured}
use Rattle.zk_pcap.specs.CaptureFault.{place_of}
use Rattle.zk_typed.specs.Program.{Program}
use Rattle.zk_typed.specs.Running.{Progress, Goes, Floods, world_in}
use Rattle.zk_outcome.specs.declared.found.Found.{Found}
use Rattle.zk_outcome.specs.declared.found.Found.TheVariants.{Accepted, Refused}
use Rattle.zk_outcome.specs.declared.stop.Stop.{Stop}
use Rattle.zk_load.specs.Loading.{Scripts}
use Rattle.zk_outcome.specs.Found.{Finds, IsRefusal}
use Rattle.zk_outcome.specs.Parts.{DoesAll, DoesPart}
use Rattle.zk_outcome.proofs.Doing.{prefix_none, prefix_of_none, prefix_trans}
use Rattle.zk_io.specs.declared.capture.CaptureReader.{CaptureReader}
use Rattle.zk_command.specs.declared.command.Settings.{Settings}
use Rattle.zk_top.specs.declared.generated.Report.{Report}
use Rattle.zk_top.specs.declared.replay.Came.TheVariants.{Through, Flooded}
use Rattle.zk_top.specs.declared.runnable.Runnable.{Runnable}
use Rattle.zk_top.specs.declared.summary.RowCounts.{RowCounts}
use Rattle.zk_command.specs.Command.{no_options, settings_of}
use Rattle.zk_top.specs.Compiling.{IsCodeOf, Runs, program_by}
use Rattle.zk_top.specs.Generated.{IsOf}
use Rattle.zk_top.specs.Logged.{shown_row}
use Rattle.zk_io.specs.Opened.{Recording, end_of_capture, judged, opened, recording_of}
use Rattle.zk_top.specs.Outcome.{Outcome, end_of_run, generated, generated_name, generating, no_files, over_capture, summary_report, summing_up}
use Rattle.zk_top.specs.Parts.{BreaksOff, Fulfils, IsOfCommand}
use Rattle.zk_top.specs.Printed.{progress_of}
use Rattle.zk_io.specs.Reading.{IsCapture, OpensCapture}
use Rattle.zk_top.specs.Replay.{came_of, progress_over}
use Rattle.zk_top.specs.Script.{default_scripts}
use Rattle.zk_top.specs.Summary.{counts_of, summary_of, summary_text}
use Rattle.zk_top.proofs.Giving.{does_beside, no_file_begun, no_file_written, without_fault_beside}
use Rattle.zk_io.proofs.OpenCapture.{capture_found}
use Rattle.zk_top.proofs.OverCapture.{EndsItself, capture_ends, command_refusal, flood_ends, whole_refusal}
use Rattle.zk_top.proofs.OverDefaults.{IsTextRefusal, before_refusal}
use Rattle.zk_top.proofs.OverScript.{no_program}
use Rattle.zk_top.proofs.RunLemmas.{plan_of, replayed_progress}

-- What is said alone --------------------------------------------------------------------------------------------------

-- all was said of an outcome that has nothing else
pub said_summary : (wanted : Outcome) (old new : Outside) → wanted.files ≡ no_files → wanted.asked ≡ [] → EndsItself wanted.ending → DoesAll [] wanted.said [] old new
    → Fulfils (λ _. wanted) [] old wanted.ending new
said_summary wanted old new files asked ends says = record {
  names = [];
  said = wanted.said;
  does = without_fault_beside [] wanted.said [] old old new says.all;
  whole = ends.whole;
  absent = λ name is. absurd (ends.there name is);
  present = λ other. says.present;
  ends = λ inputs told. refl;
  names_are = λ inputs told. sym asked;
  said_is = λ inputs told. refl;
  files_are = λ inputs told. no_file_written wanted.files old.outputs new.outputs files says.all.does.outputs_stay;
}

-- stopped while it was said
pub broken_summary : (wanted : Outcome) (old : Outside) (stop : Stop) (new : Outside) → DoesPart [] wanted.said [] old stop new → BreaksOff (λ _. wanted) old stop new
broken_summary wanted old stop new part = record {
  names = part.names_part;
  said = part.said_part;
  complained = part.complained_part;
  does = does_beside part.names_part part.said_part part.complained_part old old new part.does;
  cause = part.cause;
  quiet = part.quiet;
  names_prefix = λ inputs told. prefix_trans part.names_part [] wanted.asked part.names_prefix (prefix_none wanted.asked);
  said_prefix = λ inputs told. part.said_prefix;
  files_begun = λ inputs told. no_file_begun wanted.files old.outputs new.outputs part.does.outputs_stay;
  complained_prefix = λ inputs told. prefix_trans part.complained_part [] wanted.complained part.complained_prefix (prefix_none wanted.complained);
  complaint_last = λ inputs told. inl (prefix_of_none part.complained_part part.complained_prefix);
}

-- How it ends ---------------------------------------------------------------------------------------------------------

-- a command ends so by itself
record EndsCommand (e : Ending) : Type 0 where
  itself : EndsItself e
  of_command : IsOfCommand e

refusal_ends : (e : Ending) → IsRefusal e → ((name : List ℕ) → e ≡ ending.NoInput name → ⊥) → EndsCommand e
refusal_ends e refusal there = record { itself = record { whole = whole_refusal e refusal; there = there }; of_command = command_refusal e refusal }

run_ends : (end : CaptureEnding) (progress : Progress) → EndsCommand (end_of_run generated_name end progress)
run_ends Whole (Goes world left) = record { itself = capture_ends generated_name ending.Done Whole refl; of_command = tt }
run_ends (Cut place) (Goes world left) = record { itself = capture_ends generated_name (ending.CutShort generated_name place) (Cut place) refl; of_command = tt }
run_ends end (Floods world) = record { itself = flood_ends world.time; of_command = tt }

-- a run that sums up writes no file and asks for none
record IsSummary (wanted : Outcome) : Type 0 where
  files : wanted.files ≡ no_files
  asked : wanted.asked ≡ []
  ends : EndsCommand wanted.ending

summary_over : (program : Program) (bytes : List ℕ) (read : Result Recording CaptureFault) → IsSummary (over_capture (summary_report program bytes) [] (judged generated_name read))
summary_over program bytes (Err fault) = record {
  files = refl;
  asked = refl;
  ends = refusal_ends (ending.CaptureRefused generated_name (place_of fault)) tt (λ name same. let never : ⊥ = cc in never);
}
summary_over program bytes (Ok capture) = record {
  files = refl;
  asked = refl;
  ends = run_ends capture.ending (progress_of (settings_of no_options) program capture.records);
}

summary_by : (bytes : List ℕ) (found : Found Program) → ((e : Ending) → found ≡ Refused e → EndsCommand e) → IsSummary (summing_up bytes found)
summary_by bytes (Refused e) refusals = record { files = refl; asked = refl; ends = refusals e refl }
summary_by bytes (Accepted program) refusals = summary_over program bytes (recording_of bytes)

text_ends : (e : Ending) → IsTextRefusal e → EndsCommand e
text_ends e refusal = subst EndsCommand (sym refusal.is) (refusal_ends (ending.ScriptRefused refusal.file refusal.place refusal.kind) tt (λ name same. let never : ⊥ = cc in never))

default_ends : (e : Ending) → program_by default_scripts ≡ Refused e → EndsCommand e
default_ends e is = by default_scripts refl is
  where
    by : (found : Found Scripts) → default_scripts ≡ found → program_by found ≡ Refused e → EndsCommand e
    by (Refused other) there same = let one : other ≡ e = cc in text_ends e (before_refusal false e (sym (there ∙ ap Refused one)))
    by (Accepted scripts) there same = let none = no_program scripts e same in refusal_ends e none.refusal none.there

generated_summary : (start count : ℕ) → IsSummary (generating start count)
generated_summary start count = summary_by (generated start count) (program_by default_scripts) default_ends

-- The command ---------------------------------------------------------------------------------------------------------

pub command_of_generated : (start count : ℕ) (report : Report) → IsOf report (generating start count) → IsOfCommand report.ending
command_of_generated start count report is = subst IsOfCommand (sym is.ends) (generated_summary start count).ends.of_command

-- what the run comes to was said
pub generated_said : (start count : ℕ) (report : Report) (old new : Outside) → IsOf report (generating start count) → DoesAll [] report.said.items [] old new
    → Fulfils (λ _. generating start count) [] old report.ending new
generated_said start count report old new is says =
    let wanted : Outcome = generating start count in
    let summary = generated_summary start count in
    subst (λ e. Fulfils (λ _. wanted) [] old e new) (sym is.ends)
    (said_summary wanted old new summary.files summary.asked summary.ends.itself (subst (λ text. DoesAll [] text [] old new) is.says says))

pub generated_part : (start count : ℕ) (report : Report) (old : Outside) (stop : Stop) (new : Outside) → IsOf report (generating start count) → DoesPart [] report.said.items [] old stop new
    → BreaksOff (λ _. generating start count) old stop new
generated_part start count report old stop new is part =
    broken_summary (generating start count) old stop new (subst (λ text. DoesPart [] text [] old stop new) is.says part)

-- the capture that was generated
pub generated_is : (start count : ℕ) (bytes : List ℕ) → bytes ≡ gen.capture_of start count → bytes ≡ generated start count
unfolding generated
generated_is start count bytes is = is

-- the program of the default scripts
pub reported_by : (bytes : List ℕ) (found : Found Program) (runnable : Runnable) (report : Report) → IsCodeOf (Accepted runnable) found
    → ((program : Program) → Runs runnable program → IsOf report (summing_up bytes (Accepted program))) → IsOf report (summing_up bytes found)
reported_by bytes (Accepted program) runnable report code reports = reports program code
reported_by bytes (Refused e) runnable report code reports = absurd code

pub reported_refusal : (bytes : List ℕ) (found : Found Program) (e : Ending) (report : Report) → IsCodeOf (Refused e) found → report.ending ≡ e → report.said.items ≡ [] → IsOf report (summing_up bytes found)
reported_refusal bytes (Accepted program) e report code ends says = absurd code
reported_refusal bytes (Refused other) e report code ends says = record { ends = ends ∙ code; says = says }

-- The run over the capture ---------------------------------------------------------------------------------------------

-- there is no capture in the input
pub refused_summary : (program : Program) (inputs : Files) (whole : List ℕ) (report : Report) (old new : Outside) (e : Ending) → old.inputs ≡ Some inputs → inputs generated_name ≡ Some whole
    → Finds {X = Recording} generated_name (opened generated_name) old (Refused e) new → report.ending ≡ e → report.said.items ≡ [] → IsOf report (summing_up whole (Accepted program))
refused_summary program inputs whole report old new e told there found ends says =
    let is : Refused e ≡ opened generated_name (Some whole) = found.told inputs told ∙ ap (opened generated_name) there in
    record {
      ends = ends ∙ ap (λ r. (over_capture (summary_report program whole) [] r).ending) is;
      says = says ∙ ap (λ r. (over_capture (summary_report program whole) [] r).said) is;
    }

-- the capture in the input was played
pub played_summary : (program : Program) (runnable : Runnable) (inputs : Files) (whole : List ℕ) (report : Report) (old mid : Outside) (reader : CaptureReader) (packets : List Captured) (ending : CaptureEnding)
    → old.inputs ≡ Some inputs → inputs generated_name ≡ Some whole → Runs runnable program → (opens : OpensCapture generated_name old reader mid) → IsCapture (lies_under old.inputs generated_name) packets ending
    → ((progress : Progress) → progress_over (plan_of (settings_of no_options) program runnable.packets) packets ≡ progress
    → (report.ending ≡ end_of_run generated_name ending progress) × (report.said.items ≡ summary_of (length packets) (length whole) progress))
    → IsOf report (summing_up whole (Accepted program))
played_summary program runnable inputs whole report old mid reader packets ending told there runs opens is reported =
    let settings : Settings = settings_of no_options in
    let found = capture_found generated_name old reader mid packets ending opens is in
    let judges : Accepted (record { records = packets; ending = ending }) ≡ opened generated_name (Some whole) = found.told inputs told ∙ ap (opened generated_name) there in
    let far : progress_over (plan_of settings program runnable.packets) packets ≡ progress_of settings program packets =
    replayed_progress generated_name settings program runnable old reader mid packets runs opens inputs told in
    let (ends, says) = reported (progress_of settings program packets) far in
    record {
      ends = ends ∙ ap (λ r. (over_capture (summary_report program whole) [] r).ending) judges;
      says = says ∙ ap (λ r. (over_capture (summary_report program whole) [] r).said) judges;
    }

-- to its end
pub through_summary : (packets : List Captured) (bytes passed : ℕ) (whole : List ℕ) (rows : RowCounts) (end : CaptureEnding) (e : Ending) (text : List ℕ) (time last : Moment) (ran progress : Progress)
    → Through last ≡ came_of time ran → ran ≡ progress → passed ≡ length packets → bytes ≡ length whole → rows ≡ counts_of (map shown_row (world_in ran).rows)
    → e ≡ end_of_capture generated_name end → text ≡ summary_text passed bytes rows
    → (e ≡ end_of_run generated_name end progress) × (text ≡ summary_of (length packets) (length whole) progress)
through_summary packets bytes passed whole rows end e text time last (Floods world) progress came same counted sized summed ends says = absurd (let never : ⊥ = cc in never)
through_summary packets bytes passed whole rows end e text time last (Goes world left) progress came same counted sized summed ends says = (
  ends ∙ ap (end_of_run generated_name end) same,
  says ∙ ap (λ n. summary_text n bytes rows) counted ∙ ap (λ n. summary_text (length packets) n rows) sized ∙ ap (summary_text (length packets) (length whole)) summed
      ∙ ap (summary_of (length packets) (length whole)) same,
)

-- to a flood
pub flooded_summary : (packets : List Captured) (whole : List ℕ) (end : CaptureEnding) (time moment : Moment) (ran progress : Progress) → Flooded moment ≡ came_of time ran → ran ≡ progress
    → (ending.Flood moment ≡ end_of_run generated_name end progress) × ([] ≡ summary_of (length packets) (length whole) progress)
flooded_summary packets whole end time moment (Goes world left) progress came same = absurd (let never : ⊥ = cc in never)
flooded_summary packets whole end time moment (Floods world) progress came same =
    let at : moment ≡ world.time = cc in
    (ap ending.Flood at ∙ ap (end_of_run generated_name end) same, ap (summary_of (length packets) (length whole)) same)
