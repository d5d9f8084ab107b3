-- What a program prints and writes over a capture, and how far it comes.
use Rattle.std.specs.Prelude.{ℕ, Bool, true, ◌++◌, ◌==◌, List}
use Rattle.std.specs.List.{flat_map, list_any}
use Rattle.zk_base.specs.declared.numbers.EventNo.{EventNo}
use Rattle.zk_base.specs.Shelf.{Files}
use Rattle.zk_base.specs.Captured.{Captured}
use Rattle.zk_base.specs.NetworkTime.{now}
use Rattle.zk_traffic.specs.declared.options.Options.{Options}
use Rattle.zk_traffic.specs.Items.{items_of}
use Rattle.zk_typed.specs.Predefined.{packet_seen}
use Rattle.zk_typed.specs.Program.{Program}
use Rattle.zk_typed.specs.Running.{Progress, world_in}
use Rattle.zk_events.specs.Run.{run}
use Rattle.zk_command.specs.declared.command.Settings.{Settings}
use Rattle.zk_io.specs.Said.{line_end}
use Rattle.zk_top.specs.Logged.{files_of_run}

-- lines, each with its end
abbrev pub with_line_ends : List (List ℕ) → List ℕ
with_line_ends lines = flat_map (λ line. line ++ line_end) lines

-- the program has a handler of an event
abbrev pub handles : EventNo → Program → Bool
handles event program = list_any (λ handler. handler.event.0 == event.0) program.handlers

-- Packets are items of a run exactly where the program handles them.
abbrev pub options_of : Settings → Program → Options
options_of settings program = record { check = settings.check; buffer = settings.buffer; packets = handles packet_seen program }

-- how far a program comes over the packets of a capture
abbrev pub progress_of : Settings → Program → List Captured → Progress
progress_of settings program packets = run program settings.budget (items_of (options_of settings program) packets true) (now packets)

-- the lines that it prints
abbrev pub printed : Settings → Program → List Captured → List ℕ
printed settings program packets = with_line_ends (world_in (progress_of settings program packets)).lines

-- the log files that it writes
abbrev pub logged : Settings → Program → List Captured → Files
logged settings program packets = files_of_run (now packets) (progress_of settings program packets)
