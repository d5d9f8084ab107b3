-- How far a replay of a capture to a program has come.
use Rattle.std.specs.Prelude.{◌≡◌, ℕ, Bool, true, false, List, Option}
use Rattle.zk_base.specs.declared.time.Moment.{Moment}
use Rattle.zk_base.specs.Shelf.{Files, Outside}
use Rattle.zk_events.specs.declared.engine.ItemEnd.{ItemEnd}
use Rattle.zk_events.specs.declared.engine.ItemEnd.TheVariants.{Done, Flood}
use Rattle.zk_events.specs.Run.{Stage, Begun, progress_at, run}
use Rattle.zk_events.specs.Standing as engine
use Rattle.zk_events.specs.Standing.{end_of}
use Rattle.zk_lower.specs.Told.{Told}
use Rattle.zk_base.specs.declared.capture.CaptureEnding.{CaptureEnding}
use Rattle.zk_base.specs.Captured.{Captured}
use Rattle.zk_base.specs.NetworkTime.{now as network_time}
use Rattle.zk_traffic.specs.declared.item.Item.{Item}
use Rattle.zk_traffic.specs.declared.options.Options.{Options}
use Rattle.zk_traffic.specs.Items.{items_of}
use Rattle.zk_traffic.specs.Standing as traffic
use Rattle.zk_typed.specs.Program.{Program}
use Rattle.zk_typed.specs.Running.{Progress, Goes, Floods, world_in}
use Rattle.zk_outcome.specs.declared.stop.Stop.{Stop}
use Rattle.zk_outcome.specs.Prefix.{IsPrefix}
use Rattle.zk_io.specs.declared.capture.CaptureReader.{CaptureReader}
use Rattle.zk_top.specs.declared.player.Player.{Player}
use Rattle.zk_top.specs.declared.replay.Came.{Came}
use Rattle.zk_top.specs.declared.replay.Came.TheVariants.{Through, Flooded}
use Rattle.zk_top.specs.declared.replay.Replay.{Replay}
use Rattle.zk_top.specs.declared.summary.RowCounts.{RowCounts}
use Rattle.zk_top.specs.Logged.{files_of_run}
use Rattle.zk_top.specs.Summary.{counts_of}
use Rattle.zk_io.specs.Reading.{IsCapture, IsReading, IsReadThrough, OverCapture}
use Rattle.zk_top.specs.Sink.{Beginning, HasTaken, TakesSome}
use Rattle.zk_top.specs.Writing.{Output, output_of, told_by, GivesAll, GivesPart}

-- A program that plays ----------------------------------------------------------------------------------------------

-- what a run tells so far, and gives out
abbrev pub told_at : Program → ℕ → Stage → Told
told_at program budget stage = told_by (world_in (progress_at program budget stage))

abbrev pub output_at : Program → ℕ → Stage → Output
output_at program budget stage = output_of (told_at program budget stage)

-- The engine stands at this stage and has given these lines and rows, which are said and written or wait.
pub record Gives (first : Beginning) (program : Program) (budget : ℕ) (stage : Stage) (told : Told) (player : Player) (now : Outside) : Type 0 where
  pub engine : engine.StandsFor player.engine program budget stage told
  pub given : HasTaken first (output_of told) player.sink now

-- It has given all.
pub record Plays (first : Beginning) (program : Program) (budget : ℕ) (stage : Stage) (player : Player) (now : Outside) : Type 0 where
  pub told : Told
  pub gives : Gives first program budget stage told player now
  pub all : told ≡ told_at program budget stage

-- A capture that is played -------------------------------------------------------------------------------------------

-- what is replayed how, to which program
pub record Plan : Type 0 where
  pub options : Options
  pub program : Program
  pub budget : ℕ

-- the items of packets, and of the end or not
abbrev pub items_in : Plan → List Captured → Bool → List Item
items_in plan packets ended = items_of plan.options packets ended

-- how far the program comes over a whole capture
abbrev pub progress_over : Plan → List Captured → Progress
progress_over plan packets = run plan.program plan.budget (items_in plan packets true) (network_time packets)

-- what it gives out, and the log files that are made of it
abbrev pub output_over : Plan → List Captured → Output
output_over plan packets = output_of (told_by (world_in (progress_over plan packets)))

abbrev pub files_of : Plan → List Captured → Files
files_of plan packets = files_of_run (network_time packets) (progress_over plan packets)

-- Of the items of these packets, and of the end or not, these were given; the program has come to this stage.
pub record Comes (first : Beginning) (plan : Plan) (packets : List Captured) (given : List Item) (ended : Bool) (stage : Stage) (replay : Replay) (now : Outside) : Type 0 where
  -- the link type that was told last
  pub link : ℕ
  pub traffic : traffic.StandsFor replay.traffic (record { options = plan.options; link = link; records = packets; given = given; ended = ended })
  pub begins : IsPrefix given (items_in plan packets ended)
  pub plays : Plays first plan.program plan.budget stage replay.player now

-- all items that there are so far were played
abbrev pub HasPlayed : Beginning → Plan → List Captured → Bool → Replay → Outside → Type 0
HasPlayed first plan packets ended replay now =
    Comes first plan packets (items_in plan packets ended) ended (Begun (items_in plan packets ended)) replay now

-- Over some first items of these packets the run ended in a flood, and what it gave out is said and written or waits.
pub record HasFlooded (first : Beginning) (plan : Plan) (packets : List Captured) (ended : Bool) (moment : Moment) (replay : Replay) (now : Outside) : Type 0 where
  pub given : List Item
  pub begins : IsPrefix given (items_in plan packets ended)
  pub floods : Flood moment ≡ end_of (progress_at plan.program plan.budget (Begun given))
  pub gives : HasTaken first (output_at plan.program plan.budget (Begun given)) replay.player.sink now

-- the items so far were played, or there was a flood
abbrev pub After : Beginning → Plan → List Captured → Bool → ItemEnd → Replay → Outside → Type 0
After first plan packets ended Done replay now = HasPlayed first plan packets ended replay now
After first plan packets ended (Flood moment) replay now = HasFlooded first plan packets ended moment replay now

-- how a run comes to its end
abbrev pub came_of : Moment → Progress → Came
came_of last (Goes world left) = Through last
came_of last (Floods world) = Flooded world.time

-- and when
abbrev pub time_of : Came → Moment
time_of (Through last) = last
time_of (Flooded moment) = moment

-- A run over a whole capture has ended so, and what it gave out is said and written or waits.
pub record IsOver (first : Beginning) (plan : Plan) (packets : List Captured) (last : Moment) (came : Came) (replay : Replay) (now : Outside) : Type 0 where
  pub ends : came ≡ came_of last (run plan.program plan.budget (items_in plan packets true) last)
  pub gives : HasTaken first (output_of (told_by (world_in (run plan.program plan.budget (items_in plan packets true) last)))) replay.player.sink now

-- A capture that is read ---------------------------------------------------------------------------------------------

-- the packets were read to their end and played
pub record IsThrough (first : Beginning) (plan : Plan) (whole : Option (List ℕ)) (last : Moment) (replay : Replay) (reader : CaptureReader) (now : Outside) : Type 0 where
  pub bytes : List ℕ
  pub records : List Captured
  pub reading : IsReading whole bytes records reader now
  pub through : IsReadThrough bytes reader
  pub last_is : last ≡ network_time records
  pub played : HasPlayed first plan records false replay now

-- the run ended in a flood over the first packets of the capture
pub record IsFlooded (first : Beginning) (plan : Plan) (whole : Option (List ℕ)) (moment : Moment) (replay : Replay) (now : Outside) : Type 0 where
  pub records : List Captured
  pub ending : CaptureEnding
  pub all : IsCapture whole records ending
  pub flooded : HasFlooded first plan records true moment replay now

abbrev pub HasCome : Beginning → Plan → Option (List ℕ) → Came → Replay → CaptureReader → Outside → Type 0
HasCome first plan whole (Through last) replay reader now = IsThrough first plan whole last replay reader now
HasCome first plan whole (Flooded moment) replay reader now = IsFlooded first plan whole moment replay now

-- Where there was no flood, the capture was read to its end.
abbrev pub IsRead : Came → Option (List ℕ) → List Captured → CaptureReader → Outside → Type 0
IsRead (Through last) whole packets reader now = (bytes : List ℕ) × IsReading whole bytes packets reader now × IsReadThrough bytes reader
IsRead (Flooded moment) whole packets reader now = Unit {0}

-- The whole run has ended so.
pub record HasRun (first : Beginning) (plan : Plan) (whole : Option (List ℕ)) (came : Came) (replay : Replay) (reader : CaptureReader) (now : Outside) : Type 0 where
  pub records : List Captured
  pub ending : CaptureEnding
  pub all : IsCapture whole records ending
  pub over : IsOver first plan records (network_time records) came replay now
  pub read : IsRead came whole records reader now

-- And all that it gave out was said and written.
pub record Replays (plan : Plan) (whole : Option (List ℕ)) (old : Outside) (came : Came) (reader : CaptureReader) (new : Outside) : Type 0 where
  pub records : List Captured
  pub ending : CaptureEnding
  pub all : IsCapture whole records ending
  pub ends : came ≡ came_of (network_time records) (progress_over plan records)
  pub gives : GivesAll (output_over plan records).text (files_of plan records) old new
  pub read : IsRead came whole records reader new

-- Or it has logged so many rows.
pub record Counts (plan : Plan) (whole : Option (List ℕ)) (came : Came) (rows : RowCounts) (reader : CaptureReader) (new : Outside) : Type 0 where
  pub records : List Captured
  pub ending : CaptureEnding
  pub all : IsCapture whole records ending
  pub ends : came ≡ came_of (network_time records) (progress_over plan records)
  pub rows_are : rows ≡ counts_of (output_over plan records).rows
  pub read : IsRead came whole records reader new

-- A run is stopped before its logs are closed.
abbrev pub StopsOver : Option (List ℕ) → Plan → Beginning → Stop → Outside → Type 0
StopsOver whole plan first stop new = OverCapture whole (λ packets. TakesSome (output_over plan packets) first stop new)

abbrev pub ReplaysPart : Option (List ℕ) → Plan → Outside → Stop → Outside → Type 0
ReplaysPart whole plan old stop new = OverCapture whole (λ packets. GivesPart (output_over plan packets).text (files_of plan packets) old stop new)
