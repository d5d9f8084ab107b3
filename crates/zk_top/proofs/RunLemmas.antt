-- From what a replay does to what a run reports.
use Rattle.std.proofs.Common.{◌≡◌, ℕ, Bool, List, Some, refl, sym, ap, ◌∙◌}
use Rattle.zk_base.specs.declared.endings.Ending.TheVariants as ending
use Rattle.zk_base.specs.declared.time.Moment.{Moment}
use Rattle.zk_base.specs.Shelf.{Files, Outside}
use Rattle.zk_base.specs.declared.capture.CaptureEnding.{CaptureEnding}
use Rattle.zk_base.specs.Captured.{Captured}
use Rattle.zk_base.specs.NetworkTime.{now as network_time}
use Rattle.zk_typed.specs.Program.{Program}
use Rattle.zk_typed.specs.Running.{Progress, Goes, Floods, world_in}
use Rattle.zk_io.specs.declared.capture.CaptureReader.{CaptureReader}
use Rattle.zk_command.specs.declared.command.Settings.{Settings}
use Rattle.zk_top.specs.declared.runnable.Runnable.{Runnable}
use Rattle.zk_top.specs.Compiling.{Runs}
use Rattle.zk_io.specs.Opened.{end_of_capture}
use Rattle.zk_top.specs.Outcome.{end_of_run, run_report}
use Rattle.zk_top.specs.declared.replay.Came.TheVariants.{Through, Flooded}
use Rattle.zk_top.specs.Logged.{files_of_run}
use Rattle.zk_top.specs.Printed.{progress_of, with_line_ends}
use Rattle.zk_io.specs.Reading.{OpensCapture}
use Rattle.zk_top.specs.Replay.{Plan, came_of, files_of, output_over, progress_over}
use Rattle.zk_top.proofs.OverCapture.{IsReport}

-- the plan of a run
abbrev pub plan_of : Settings → Program → Bool → Plan
plan_of settings program packets = record {
  options = record { check = settings.check; buffer = settings.buffer; packets = packets };
  program = program;
  budget = settings.budget;
}

-- what is replayed of a capture that was opened is what is reported
pub replayed_progress : (file : List ℕ) (settings : Settings) (program : Program) (runnable : Runnable) (old : Outside) (reader : CaptureReader) (now : Outside) (packets : List Captured)
    → Runs runnable program → (opens : OpensCapture file old reader now) → (inputs : Files) → old.inputs ≡ Some inputs
    → progress_over (plan_of settings program runnable.packets) packets ≡ progress_of settings program packets
replayed_progress file settings program runnable old reader now packets runs opens inputs told =
    ap (λ flag. progress_over (plan_of settings program flag) packets) runs.packets

-- what is given out is what is reported
pub replayed_report : (file : List ℕ) (settings : Settings) (program : Program) (runnable : Runnable) (old : Outside) (reader : CaptureReader) (now : Outside) (packets : List Captured) (ending : CaptureEnding)
    → Runs runnable program → (opens : OpensCapture file old reader now) → (inputs : Files) → old.inputs ≡ Some inputs
    → let plan = plan_of settings program runnable.packets in
    IsReport (output_over plan packets).text (files_of plan packets) (run_report file settings program (record { records = packets; ending = ending }))
replayed_report file settings program runnable old reader now packets ending runs opens inputs told =
    let is = replayed_progress file settings program runnable old reader now packets runs opens inputs told in
    record {
      said = ap (λ progress. with_line_ends (world_in progress).lines) is;
      files = ap (files_of_run (network_time packets)) is;
    }

-- how the run ends
pub ends_through : (file : List ℕ) (ending : CaptureEnding) (time last : Moment) (progress : Progress) → Through last ≡ came_of time progress → end_of_run file ending progress ≡ end_of_capture file ending
ends_through file ending time last (Goes world left) is = refl
ends_through file ending time last (Floods world) is = absurd (let never : ⊥ = cc in never)

pub ends_flooded : (file : List ℕ) (end : CaptureEnding) (time moment : Moment) (progress : Progress) → Flooded moment ≡ came_of time progress → end_of_run file end progress ≡ ending.Flood moment
ends_flooded file end time moment (Goes world left) is = absurd (let never : ⊥ = cc in never)
ends_flooded file end time moment (Floods world) is = let same : world.time ≡ moment = cc in ap ending.Flood same
