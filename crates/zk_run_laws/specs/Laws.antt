-- Laws of runs over captures.
use Rattle.std.specs.Prelude.{ℕ, pos, Bool, true, List, All}
use Rattle.zk_agenda.specs.Laws.{AreInOrder, IsInTime}
use Rattle.zk_events.specs.Run.{turned}
use Rattle.zk_base.specs.Captured.{Captured, IsBounded}
use Rattle.zk_base.specs.NetworkTime.{now}
use Rattle.zk_traffic.specs.declared.options.Options.{Options}
use Rattle.zk_traffic.specs.Items.{items_of}
use Rattle.zk_typed.specs.LoadOrder.{File}
use Rattle.zk_typed.specs.Program.{Program}
use Rattle.zk_typed.specs.Programs.{Typed}

-- The items of a capture, as the run of a program takes them, have moments that rise from 0 on up to its network time.
abbrev pub ItemsInOrder : Type 0
ItemsInOrder = (program : Program) (budget : ℕ) (options : Options) (records : List Captured) (ended : Bool)
    → AreInOrder (record { 0 = pos 0 }) (turned program budget (items_of options records ended)) (now records)

-- So over any capture network time never falls over the run of a typed program from one dispatch to a later one, and of two
-- turns the one that is due earlier comes first.
abbrev pub CapturesRunInTime : Type 0
CapturesRunInTime = (files : List File) (program : Program) (budget : ℕ) (options : Options) (records : List Captured)
    → Typed files program → All IsBounded records
    → IsInTime program budget (turned program budget (items_of options records true)) (now records)
