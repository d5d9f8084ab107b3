-- The state that scripts run in, as the machine holds it: lines and rows that were given out are no longer there.
use Rattle.std.specs.Prelude.{ℕ, List, map, Option, Some, None}
use Rattle.std.specs.List.{filter_map}
use Rattle.zk_tree.specs.Store.{Store}
use Rattle.zk_typed.specs.Log as log
use Rattle.zk_typed.specs.State as typed
use Rattle.zk_lower.specs.Leaves.{column_of}
use Rattle.zk_value.specs.Plain.{field_of}
use Rattle.zk_value.specs.declared.cell.Atom.{Atom}
use Rattle.zk_value.specs.declared.cell.Atom.TheVariants as atom
use Rattle.zk_value.specs.declared.cell.Cell.{Cell}
use Rattle.zk_value.specs.declared.cell.Cell.TheVariants as cell
use Rattle.zk_value.specs.declared.out.Out.{Out}
use Rattle.zk_value.specs.declared.out.Out.TheVariants as out
use Rattle.zk_machine.specs.Queued.{queued_of}
use Rattle.zk_machine.specs.declared.state.State.{State}
use Rattle.zk_machine.specs.declared.table_defaults.TableDefault as rust_default
use Rattle.zk_machine.specs.declared.world.World.{World}

abbrev pub default_of : rust_default.TableDefault → typed.TableDefault
default_of one = record { object = one.object.0; default = one.default }

-- Lines and rows ---------------------------------------------------------------------------------------------------

abbrev pub atom_of : Atom → log.Atom
atom_of (atom.Text bytes) = log.Text bytes
atom_of (atom.Plain bytes) = log.Plain bytes

abbrev pub cell_of : Cell → log.Cell
cell_of cell.Unset = log.Unset
cell_of (cell.One atom) = log.One (atom_of atom)
cell_of (cell.Many atoms) = log.Many (map atom_of atoms)

abbrev pub line_in : Out → Option (List ℕ)
line_in (out.Line line) = Some line
line_in (out.Row path columns cells at) = None

abbrev pub row_in : Out → Option log.Row
row_in (out.Line line) = None
row_in (out.Row path columns cells at) = Some (record { path = path; columns = map column_of columns; cells = map cell_of cells; at = at })

-- The world --------------------------------------------------------------------------------------------------------

abbrev pub world_of : World → typed.World
world_of world = record {
  time = world.time;
  is_ending = world.is_ending;
  store = world.heap.objects;
  defaults = map default_of world.defaults;
  globals = world.globals;
  queue = map queued_of world.queue.items;
  scheduled = world.schedule.events;
  schedulings = world.schedule.count;
  streams = world.streams;
  rows = filter_map row_in world.out.items;
  lines = filter_map line_in world.out.items;
}

abbrev pub state_of : State → typed.State
state_of state = record {
  world = world_of state.world;
  locals = map field_of state.locals.items;
  units = state.units;
}

-- the state with these objects
abbrev pub storing : Store → typed.State → typed.State
storing store state = record state { world = typed.with_store store state.world }
