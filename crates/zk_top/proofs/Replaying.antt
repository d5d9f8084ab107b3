-- How a capture is replayed.
use Rattle.std.proofs.Common.{◌≡◌, ℕ, Bool, true, false, List, [], ◌∷◌, ◌++◌, fold, Option, Result, Ok, Err, IfOk, OnOk, refl, sym, ap, subst, ◌∙◌}
use Rattle.std.proofs.lemmas.List.Sums.{fold-append}
use Rattle.zk_base.specs.declared.time.Moment.{Moment}
use Rattle.zk_base.specs.Shelf.{Outside}
use Rattle.zk_events.specs.declared.engine.ItemEnd.{ItemEnd}
use Rattle.zk_events.specs.declared.engine.ItemEnd.TheVariants.{Done, Flood}
use Rattle.zk_events.specs.Laws.{EndKeeps, ItemsKeep}
use Rattle.zk_events.specs.Run.{SoFar, Stage, New, Begun, Ended, taken, so_far, progress_at, run}
use Rattle.zk_events.specs.Standing.{end_of}
use Rattle.zk_base.specs.Captured.{Captured}
use Rattle.zk_traffic.specs.declared.item.Item.{Item}
use Rattle.zk_typed.specs.Program.{Program}
use Rattle.zk_typed.specs.Running.{Progress, Goes, Floods, world_in}
use Rattle.zk_typed.specs.State.{World}
use Rattle.zk_logs.specs.Logs.{log_files}
use Rattle.zk_outcome.specs.declared.stop.Stop.{Stop}
use Rattle.zk_outcome.specs.Parts.{DoesAll}
use Rattle.zk_outcome.specs.Prefix.{IsPrefix}
use Rattle.zk_outcome.proofs.Doing.{prefix_all, prefix_trans}
use Rattle.zk_base.specs.declared.capture.CaptureEnding.{CaptureEnding}
use Rattle.zk_base.specs.NetworkTime.{now as network_time}
use Rattle.zk_io.specs.declared.capture.CaptureReader.{CaptureReader}
use Rattle.zk_top.specs.declared.player.Player.{Player}
use Rattle.zk_top.specs.declared.replay.Came.{Came}
use Rattle.zk_top.specs.declared.replay.Came.TheVariants.{Through, Flooded}
use Rattle.zk_top.specs.declared.replay.Replay.{Replay}
use Rattle.zk_top.specs.Logged.{dated, end_time}
use Rattle.zk_io.specs.Reading.{IsCapture, IsReading, IsReadThrough, SameInput}
use Rattle.zk_top.specs.declared.summary.RowCounts.{RowCounts}
use Rattle.zk_top.specs.Summary.{counts_of}
use Rattle.zk_top.specs.Replay.{After, Comes, Counts, HasFlooded, HasPlayed, HasRun, IsOver, IsRead, IsThrough, Plan, Plays, Replays, ReplaysPart, StopsOver, came_of, files_of, items_in, output_at, output_over, progress_over, time_of}
use Rattle.zk_top.specs.Sink.{Beginning, HasTaken, TakesSome}
use Rattle.zk_top.specs.Writing.{Output, Begins, GivesAll, GivesPart, output_of, told_by}
use Rattle.zk_io.proofs.CaptureReading.{read_capture, reading_on}
use Rattle.zk_top.proofs.Giving.{some_further, begun_to_end}
use Rattle.zk_top.proofs.Taking.{taken_on}
use Rattle.zk_top.proofs.ItemLemmas.{no_items}
use Rattle.zk_top.proofs.Playing.{stays_begins, plays_given}

-- What was given out stays -------------------------------------------------------------------------------------------

-- what is given out over some items is the first of what is given out over more
pub given_further : ItemsKeep → (program : Program) (budget : ℕ) (items all : List Item) → IsPrefix items all
    → Begins (output_at program budget (Begun items)) (output_at program budget (Begun all))
given_further keep program budget items all prefix =
    subst (λ xs. Begins (output_at program budget (Begun items)) (output_at program budget (Begun xs))) (sym prefix.joined)
    (stays_begins (world_in (progress_at program budget (Begun items))) (world_in (progress_at program budget (Begun (items ++ prefix.rest)))) (keep program budget items prefix.rest))

-- and of what is given out over all and the end
pub given_to_end : EndKeeps → (program : Program) (budget : ℕ) (items all : List Item) (last : Moment) → IsPrefix items all
    → Begins (output_at program budget (Begun items)) (output_at program budget (Ended all last))
given_to_end keep program budget items all last prefix =
    subst (λ xs. Begins (output_at program budget (Begun items)) (output_at program budget (Ended xs last))) (sym prefix.joined)
    (stays_begins (world_in (progress_at program budget (Begun items))) (world_in (progress_at program budget (Ended (items ++ prefix.rest) last))) (keep program budget items prefix.rest last))

pub part_further : ItemsKeep → (program : Program) (budget : ℕ) (items all : List Item) (first : Beginning) (stop : Stop) (new : Outside) → IsPrefix items all
    → TakesSome (output_at program budget (Begun items)) first stop new → TakesSome (output_at program budget (Begun all)) first stop new
part_further keep program budget items all first stop new prefix part =
    some_further first.outside (output_at program budget (Begun items)) (output_at program budget (Begun all)) stop new (given_further keep program budget items all prefix) part

pub part_to_end : EndKeeps → (program : Program) (budget : ℕ) (items all : List Item) (last : Moment) (first : Beginning) (stop : Stop) (new : Outside) → IsPrefix items all
    → TakesSome (output_at program budget (Begun items)) first stop new → TakesSome (output_at program budget (Ended all last)) first stop new
part_to_end keep program budget items all last first stop new prefix part =
    some_further first.outside (output_at program budget (Begun items)) (output_at program budget (Ended all last)) stop new (given_to_end keep program budget items all last prefix) part

-- Ends -------------------------------------------------------------------------------------------------------------

-- how a run comes to its end whose last part ended so
abbrev pub came_by : Moment → ItemEnd → Came
came_by last Done = Through last
came_by last (Flood moment) = Flooded moment

came_as : (last : Moment) (end : ItemEnd) (progress : Progress) → end ≡ end_of progress → came_by last end ≡ came_of last progress
came_as last end progress is = ap (came_by last) is ∙ same progress
  where
    same : (progress : Progress) → came_by last (end_of progress) ≡ came_of last progress
    same (Goes world left) = refl
    same (Floods world) = refl

-- and when
pub came_when : (last : Moment) (came : Came) (progress : Progress) → came ≡ came_of last progress → time_of came ≡ end_time last progress
came_when last came progress is = ap time_of is ∙ same progress
  where
    same : (progress : Progress) → time_of (came_of last progress) ≡ end_time last progress
    same (Goes world left) = refl
    same (Floods world) = refl

-- Floods -----------------------------------------------------------------------------------------------------------

flooded : (progress : Progress) (moment : Moment) → Flood moment ≡ end_of progress → (world : World) × (progress ≡ Floods world)
flooded (Goes world left) moment is = absurd (let never : ⊥ = cc in never)
flooded (Floods world) moment is = (world, refl)

-- a flood is the end of a run, whatever items there are
flood_lasts : (program : Program) (budget : ℕ) (far : SoFar) (world : World) (items : List Item) → far.progress ≡ Floods world → (fold (taken program budget) far items).progress ≡ Floods world
flood_lasts program budget far world [] is = is
flood_lasts program budget far world (item ∷ items) is =
    flood_lasts program budget (taken program budget far item) world items (stays far.progress is)
  where
    stays : (progress : Progress) → progress ≡ Floods world → (taken program budget (record far { progress = progress }) item).progress ≡ Floods world
    stays (Goes before left) same = absurd (let never : ⊥ = cc in never)
    stays (Floods before) same = same

-- the run that came to a flood is over
pub flood_over : (first : Beginning) (plan : Plan) (packets : List Captured) (moment last : Moment) (replay : Replay) (now : Outside) → HasFlooded first plan packets true moment replay now
    → IsOver first plan packets last (Flooded moment) replay now
flood_over first plan packets moment last replay now far =
    let program : Program = plan.program in
    let budget : ℕ = plan.budget in
    let (world, is) = flooded (progress_at program budget (Begun far.given)) moment far.floods in
    let behind : (so_far program budget (far.given ++ far.begins.rest)).progress ≡ Floods world =
    ap (λ (f : SoFar). f.progress) (fold-append (taken program budget) _ far.given far.begins.rest) ∙ flood_lasts program budget (so_far program budget far.given) world far.begins.rest is in
    let whole : run program budget (items_in plan packets true) last ≡ Floods world =
    ap (λ items. run program budget items last) far.begins.joined ∙ ended program budget (far.given ++ far.begins.rest) last world behind in
    let time : moment ≡ world.time = let is_it : Flood moment ≡ Flood world.time = far.floods ∙ ap end_of is in cc in
    record {
      ends = ap Flooded time ∙ ap (came_of last) (sym whole);
      gives = subst (λ progress. HasTaken first (output_of (told_by (world_in progress))) replay.player.sink now) (is ∙ sym whole) far.gives;
    }
  where
    ended : (program : Program) (budget : ℕ) (items : List Item) (last : Moment) (world : World) → (so_far program budget items).progress ≡ Floods world → run program budget items last ≡ Floods world
    ended program budget items last world is = rw is refl

-- a flood over the first items of more
pub flood_further : (first : Beginning) (plan : Plan) (packets all : List Captured) (ended more : Bool) (moment : Moment) (replay : Replay) (now : Outside)
    → HasFlooded first plan packets ended moment replay now → IsPrefix (items_in plan packets ended) (items_in plan all more) → HasFlooded first plan all more moment replay now
flood_further first plan packets all ended more moment replay now far prefix = record {
  given = far.given;
  begins = prefix_trans far.given (items_in plan packets ended) (items_in plan all more) far.begins prefix;
  floods = far.floods;
  gives = far.gives;
}

-- Playing on -------------------------------------------------------------------------------------------------------

pub plays_on : (first : Beginning) (plan : Plan) (packets : List Captured) (given : List Item) (ended : Bool) (stage : Stage) (replay : Replay) (old new : Outside)
    → Comes first plan packets given ended stage replay old → DoesAll [] [] [] old new → Comes first plan packets given ended stage replay new
plays_on first plan packets given ended stage replay old new comes does = record {
  link = comes.link;
  traffic = comes.traffic;
  begins = comes.begins;
  plays = record {
    told = comes.plays.told;
    gives = record {
      engine = comes.plays.gives.engine;
      given = taken_on first (output_of comes.plays.told) replay.player.sink old new comes.plays.gives.given does;
    };
    all = comes.plays.all;
  };
}

-- what has been given out of a replay
pub comes_given : (first : Beginning) (plan : Plan) (packets : List Captured) (given : List Item) (ended : Bool) (replay : Replay) (now : Outside) → Comes first plan packets given ended (Begun given) replay now
    → HasTaken first (output_at plan.program plan.budget (Begun given)) replay.player.sink now
comes_given first plan packets given ended replay now comes = plays_given first plan.program plan.budget (Begun given) replay.player now comes.plays

-- Steps of a replay ------------------------------------------------------------------------------------------------

-- a part of the run ended so: the items so far were played, or there was a flood
pub after_end : (first : Beginning) (plan : Plan) (packets : List Captured) (ended : Bool) (end : ItemEnd) (replay : Replay) (now : Outside)
    → Comes first plan packets (items_in plan packets ended) ended (Begun (items_in plan packets ended)) replay now
    → end ≡ end_of (progress_at plan.program plan.budget (Begun (items_in plan packets ended))) → After first plan packets ended end replay now
after_end first plan packets ended Done replay now comes is = comes
after_end first plan packets ended (Flood moment) replay now comes is = record {
  given = items_in plan packets ended;
  begins = prefix_all (items_in plan packets ended);
  floods = is;
  gives = comes_given first plan packets (items_in plan packets ended) ended replay now comes;
}

-- the run has begun
pub begun_after : (result : Result ItemEnd Stop) (replay : Replay) (player : Player) (old new : Outside)
    → IfOk result (λ end. (first : Beginning) (program : Program) (budget : ℕ) → Plays first program budget New replay.player old → end ≡ end_of (progress_at program budget (Begun [])))
    → OnOk result ((first : Beginning) (program : Program) (budget : ℕ) → Plays first program budget New replay.player old → Plays first program budget (Begun []) player new)
    → IfOk result (λ end. (first : Beginning) (plan : Plan) → Comes first plan [] [] false New replay old → After first plan [] false end (record replay { player = player }) new)
begun_after (Err stop) replay player old new ends plays = tt
begun_after (Ok end) replay player old new ends plays = λ first plan comes.
    let program : Program = plan.program in
    let budget : ℕ = plan.budget in
    let after : Replay = record replay { player = player } in
    let none : items_in plan [] false ≡ [] = no_items plan.options in
    let here : Comes first plan [] [] false (Begun []) after new = record { link = comes.link; traffic = comes.traffic; begins = comes.begins; plays = plays first program budget comes.plays } in
    after_end first plan [] false end after new
    (subst (λ items. Comes first plan [] items false (Begun items) after new) (sym none) here)
    (ends first program budget comes.plays ∙ ap (λ items. end_of (progress_at program budget (Begun items))) (sym none))

-- the run was ended
pub finished_over : (first : Beginning) (plan : Plan) (packets : List Captured) (last : Moment) (end : ItemEnd) (came : Came) (replay : Replay) (now : Outside)
    → Plays first plan.program plan.budget (Ended (items_in plan packets true) last) replay.player now
    → end ≡ end_of (run plan.program plan.budget (items_in plan packets true) last) → came ≡ came_by last end → IsOver first plan packets last came replay now
finished_over first plan packets last end came replay now plays ends is = record {
  ends = is ∙ came_as last end (run plan.program plan.budget (items_in plan packets true) last) ends;
  gives = plays_given first plan.program plan.budget (Ended (items_in plan packets true) last) replay.player now plays;
}

-- The whole run ------------------------------------------------------------------------------------------------------

-- what was read stays where nothing is read
pub read_on : (came : Came) (whole : Option (List ℕ)) (packets : List Captured) (reader : CaptureReader) (old new : Outside) → SameInput old new
    → IsRead came whole packets reader old → IsRead came whole packets reader new
read_on (Through last) whole packets reader old new same (bytes, reading, through) = (bytes, reading_on whole bytes packets reader old new reading same, through)
read_on (Flooded moment) whole packets reader old new same read = tt

-- of a capture that was read to its end
read_to_end : (came : Came) (whole : Option (List ℕ)) (bytes : List ℕ) (packets : List Captured) (reader : CaptureReader) (now : Outside)
    → IsReading whole bytes packets reader now → IsReadThrough bytes reader → IsRead came whole packets reader now
read_to_end (Through last) whole bytes packets reader now reading through = (bytes, reading, through)
read_to_end (Flooded moment) whole bytes packets reader now reading through = tt

-- the capture was read to its end, and the run ended
pub run_through : (first : Beginning) (plan : Plan) (whole : Option (List ℕ)) (last : Moment) (before after : Replay) (reader : CaptureReader) (mid : Outside) (came : Came) (new : Outside)
    → IsThrough first plan whole last before reader mid → ((packets : List Captured) → HasPlayed first plan packets false before mid → IsOver first plan packets last came after new)
    → SameInput mid new → HasRun first plan whole came after reader new
run_through first plan whole last before after reader mid came new far over same = record {
  records = far.records;
  ending = _;
  all = read_capture whole far.bytes far.records reader mid far.reading far.through;
  over = subst (λ t. IsOver first plan far.records t came after new) far.last_is (over far.records far.played);
  read = read_on came whole far.records reader mid new same (read_to_end came whole far.bytes far.records reader mid far.reading far.through);
}

-- where there was no flood
pub no_flood : (end : ItemEnd) → ((moment : Moment) → end ≡ Flood moment → ⊥) → end ≡ Done
no_flood Done none = refl
no_flood (Flood moment) none = absurd (none moment refl)

pub run_finished : (result : Result Came Stop) (before after : Replay) (reader : CaptureReader) (last : Moment) (mid new : Outside)
    → IfOk result (λ came. (first : Beginning) (plan : Plan) (packets : List Captured) → HasPlayed first plan packets false before mid → IsOver first plan packets last came after new)
    → OnOk result (SameInput mid new)
    → IfOk result (λ came. (first : Beginning) (plan : Plan) (whole : Option (List ℕ)) → IsThrough first plan whole last before reader mid → HasRun first plan whole came after reader new)
run_finished (Err stop) before after reader last mid new over same = tt
run_finished (Ok came) before after reader last mid new over same = λ first plan whole far.
    run_through first plan whole last before after reader mid came new far (over first plan) same

-- the run was ended by a flood
pub flooded_run : (first : Beginning) (plan : Plan) (whole : Option (List ℕ)) (packets : List Captured) (ending : CaptureEnding) (moment : Moment) (replay : Replay) (reader : CaptureReader) (now : Outside)
    → IsCapture whole packets ending → HasFlooded first plan packets true moment replay now → HasRun first plan whole (Flooded moment) replay reader now
flooded_run first plan whole packets ending moment replay reader now all far = record {
  records = packets;
  ending = ending;
  all = all;
  over = flood_over first plan packets moment (network_time packets) replay now far;
  read = tt;
}

-- stopped at the end of the run
pub part_through : (first : Beginning) (plan : Plan) (whole : Option (List ℕ)) (last : Moment) (replay : Replay) (reader : CaptureReader) (mid : Outside) (stop : Stop) (new : Outside)
    → IsThrough first plan whole last replay reader mid
    → ((packets : List Captured) → HasPlayed first plan packets false replay mid → TakesSome (output_of (told_by (world_in (run plan.program plan.budget (items_in plan packets true) last)))) first stop new)
    → StopsOver whole plan first stop new
part_through first plan whole last replay reader mid stop new far stopped = record {
  records = far.records;
  ending = _;
  all = read_capture whole far.bytes far.records reader mid far.reading far.through;
  there = subst (λ t. TakesSome (output_of (told_by (world_in (run plan.program plan.budget (items_in plan far.records true) t)))) first stop new) far.last_is (stopped far.records far.played);
}

-- The logs are closed --------------------------------------------------------------------------------------------------

-- the files of a run, closed when it ended
closed_files : (plan : Plan) (packets : List Captured) (came : Came) → came ≡ came_of (network_time packets) (progress_over plan packets)
    → log_files (output_over plan packets).rows (dated (time_of came)) ≡ files_of plan packets
closed_files plan packets came is =
    ap (λ end. log_files (output_over plan packets).rows (dated end)) (came_when (network_time packets) came (progress_over plan packets) is)

-- all was said and written
pub replayed_all : (first : Beginning) (plan : Plan) (whole : Option (List ℕ)) (came : Came) (replay : Replay) (reader : CaptureReader) (mid new : Outside)
    → HasRun first plan whole came replay reader mid
    → ((output : Output) → HasTaken first output replay.player.sink mid → GivesAll output.text (log_files output.rows (dated (time_of came))) first.outside new) → SameInput mid new
    → Replays plan whole first.outside came reader new
replayed_all first plan whole came replay reader mid new ran closes same = record {
  records = ran.records;
  ending = ran.ending;
  all = ran.all;
  ends = ran.over.ends;
  gives = subst (λ files. GivesAll (output_over plan ran.records).text files first.outside new) (closed_files plan ran.records came ran.over.ends) (closes (output_over plan ran.records) ran.over.gives);
  read = read_on came whole ran.records reader mid new same ran.read;
}

-- stopped while the logs were closed
pub replayed_part : (first : Beginning) (plan : Plan) (whole : Option (List ℕ)) (came : Came) (replay : Replay) (reader : CaptureReader) (mid : Outside) (stop : Stop) (new : Outside)
    → HasRun first plan whole came replay reader mid
    → ((output : Output) → HasTaken first output replay.player.sink mid → GivesPart output.text (log_files output.rows (dated (time_of came))) first.outside stop new)
    → ReplaysPart whole plan first.outside stop new
replayed_part first plan whole came replay reader mid stop new ran closes = record {
  records = ran.records;
  ending = ran.ending;
  all = ran.all;
  there = subst (λ files. GivesPart (output_over plan ran.records).text files first.outside stop new) (closed_files plan ran.records came ran.over.ends) (closes (output_over plan ran.records) ran.over.gives);
}

-- stopped before
pub some_replayed : (whole : Option (List ℕ)) (plan : Plan) (first : Beginning) (stop : Stop) (new : Outside) → StopsOver whole plan first stop new → ReplaysPart whole plan first.outside stop new
some_replayed whole plan first stop new some = record {
  records = some.records;
  ending = some.ending;
  all = some.all;
  there = record {
    says = some.there.says;
    begun = begun_to_end (output_over plan some.records).rows first.outside.outputs new.outputs _ some.there.begun;
  };
}

-- Or rows were counted -------------------------------------------------------------------------------------------------

pub counted_all : (first : Beginning) (plan : Plan) (whole : Option (List ℕ)) (came : Came) (replay : Replay) (reader : CaptureReader) (now : Outside) (rows : RowCounts)
    → HasRun first plan whole came replay reader now → ((output : Output) → HasTaken first output replay.player.sink now → rows ≡ counts_of output.rows)
    → Counts plan whole came rows reader now
counted_all first plan whole came replay reader now rows ran counts = record {
  records = ran.records;
  ending = ran.ending;
  all = ran.all;
  ends = ran.over.ends;
  rows_are = counts (output_over plan ran.records) ran.over.gives;
  read = ran.read;
}
