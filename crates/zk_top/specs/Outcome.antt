-- What a run of the program comes to, by its words and its inputs.
use Rattle.std.specs.Prelude.{ℕ, List, [], ◌∷◌, ◌++◌, codes, length, Option, Some, None, Result, Ok, Err}
use Rattle.zk_base.specs.declared.endings.Ending.{Ending}
use Rattle.zk_base.specs.declared.endings.Ending.TheVariants.{Done, Usage, Flood}
use Rattle.zk_base.specs.Shelf.{Files}
use Rattle.zk_base.specs.declared.capture.CaptureEnding.{CaptureEnding}
use Rattle.zk_typed.specs.Program.{Program}
use Rattle.zk_typed.specs.Running.{Progress, Goes, Floods}
use Rattle.zk_outcome.specs.declared.found.Found.{Found}
use Rattle.zk_outcome.specs.declared.found.Found.TheVariants.{Accepted, Refused}
use Rattle.zk_command.specs.About.{help_text, version_text}
use Rattle.zk_gen.specs.Capture as gen
use Rattle.zk_command.specs.Command.{Command, ListItems, RunScripts, Generate, Help, Version, no_options, settings_of, understand}
use Rattle.zk_top.specs.Compiling.{program_by}
use Rattle.zk_command.specs.Complaint.{complaint_of}
use Rattle.zk_io.specs.Opened.{Recording, end_of_capture, opened}
use Rattle.zk_top.specs.Line.{capture_lines}
use Rattle.zk_top.specs.Printed.{logged, progress_of, printed}
use Rattle.zk_load.specs.Loading.{Scripts, loading}
use Rattle.zk_command.specs.declared.command.Settings.{Settings}
use Rattle.zk_top.specs.Script.{default_scripts, program_of, scripts_before}
use Rattle.zk_top.specs.Summary.{summary_of}

pub record Outcome : Type 0 where
  -- how it ends
  pub ending : Ending
  -- the files that it writes
  pub files : Files
  -- the bytes that it says on standard output, and complains on standard error
  pub said : List ℕ
  pub complained : List ℕ
  -- the names of inputs that it asks for, in order
  pub asked : List (List ℕ)

-- no file is written
abbrev pub no_files : Files
no_files name = None

-- what a command that reads a capture reports: how it ends, what it says, and the files that it writes
pub record Report : Type 0 where
  pub ending : Ending
  pub said : List ℕ
  pub files : Files

-- a run that reports this, after these names were asked for
abbrev pub reporting : Report → List (List ℕ) → Outcome
reporting report asked = record {
  ending = report.ending;
  files = report.files;
  said = report.said;
  complained = complaint_of report.ending;
  asked = asked;
}

-- a run that ends so, writes no file, says this and asks for these names
abbrev pub ending_so : Ending → List ℕ → List (List ℕ) → Outcome
ending_so ending said asked = reporting (record { ending = ending; said = said; files = no_files }) asked

-- after a run over them that came so far
abbrev pub end_of_run : List ℕ → CaptureEnding → Progress → Ending
end_of_run file ending (Goes world left) = end_of_capture file ending
end_of_run file ending (Floods world) = Flood world.time

-- the report over a capture, or none, after these names were asked for
abbrev pub over_capture : (Recording → Report) → List (List ℕ) → Found Recording → Outcome
over_capture report asked (Refused ending) = ending_so ending [] asked
over_capture report asked (Accepted capture) = reporting (report capture) asked

-- what a listing reports over a capture
abbrev pub list_report : List ℕ → Recording → Report
list_report file capture = record {
  ending = end_of_capture file capture.ending;
  said = capture_lines capture.records;
  files = no_files;
}

-- a listing of a file with these bytes, or of none
abbrev pub listing : List ℕ → Option (List ℕ) → Outcome
listing file found = over_capture (list_report file) (file ∷ []) (opened file found)

-- what a run of a program reports over a capture
abbrev pub run_report : List ℕ → Settings → Program → Recording → Report
run_report file settings program capture = record {
  ending = end_of_run file capture.ending (progress_of settings program capture.records);
  said = printed settings program capture.records;
  files = logged settings program capture.records;
}

-- a run of a program over the capture in a file, after these names were asked for
abbrev pub running : List ℕ → Settings → List (List ℕ) → Found Program → Option (List ℕ) → Outcome
running file settings asked (Refused ending) input = ending_so ending [] asked
running file settings asked (Accepted program) input = over_capture (run_report file settings program) (asked ++ file ∷ []) (opened file input)

-- a run of scripts, of which these names were asked for
abbrev pub run_of : List ℕ → Settings → List (List ℕ) → Found Scripts → Option (List ℕ) → Outcome
run_of file settings asked (Refused ending) input = ending_so ending [] asked
run_of file settings asked (Accepted scripts) input = running file settings asked (program_of scripts) input

-- a run of the scripts of these names behind those that are read before, or how it ends where one of these is refused
abbrev pub run_behind : List ℕ → Settings → List (List ℕ) → Files → Found Scripts → Outcome
run_behind file settings names inputs (Refused ending) = ending_so ending [] []
run_behind file settings names inputs (Accepted before) = run_of file settings (loading before names inputs).asked (loading before names inputs).found (inputs file)

-- A run of the scripts of these names. The capture is asked for once they are read and checked.
abbrev pub run_scripts : List ℕ → Settings → List (List ℕ) → Files → Outcome
run_scripts file settings names inputs = run_behind file settings names inputs (scripts_before settings.bare)

-- the bytes of a generated capture
unfoldable pub generated : ℕ → ℕ → List ℕ
generated start count = gen.capture_of start count

-- the name of a capture that lies in no file
abbrev pub generated_name : List ℕ
generated_name = codes "the generated capture"

-- what a run of a program reports over a capture with these bytes: a summary in place of its output
abbrev pub summary_report : Program → List ℕ → Recording → Report
summary_report program bytes capture =
    let progress = progress_of (settings_of no_options) program capture.records in
    record { ending = end_of_run generated_name capture.ending progress; said = summary_of (length capture.records) (length bytes) progress; files = no_files }

-- a run of a program over the capture with these bytes, which lies in no file
abbrev pub summing_up : List ℕ → Found Program → Outcome
summing_up bytes (Refused ending) = ending_so ending [] []
summing_up bytes (Accepted program) = over_capture (summary_report program bytes) [] (opened generated_name (Some bytes))

-- a run of the default scripts over a generated capture
abbrev pub generating : ℕ → ℕ → Outcome
generating start count = summing_up (generated start count) (program_by default_scripts)

-- what the words ask for
abbrev pub outcome_of : Result Command ℕ → Files → Outcome
outcome_of (Err word) inputs = ending_so (Usage word) [] []
outcome_of (Ok (ListItems file)) inputs = listing file (inputs file)
outcome_of (Ok (RunScripts settings file scripts)) inputs = run_scripts file settings scripts inputs
outcome_of (Ok (Generate start count)) inputs = generating start count
outcome_of (Ok Help) inputs = ending_so Done help_text []
outcome_of (Ok Version) inputs = ending_so Done version_text []

abbrev pub outcome : List (List ℕ) → Files → Outcome
outcome words inputs = outcome_of (understand words) inputs
