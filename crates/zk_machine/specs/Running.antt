-- What code runs with, as the machine holds it: what is first in a plain list stands last.
use Rattle.std.specs.Prelude.{◌≡◌, List, [], ◌∷◌, map, reverse, drop, Result, Ok, Err, Option, Some, None}
use Rattle.zk_lower.specs.Frames as plain
use Rattle.zk_lower.specs.Steps.{Step, Goes, Ends}
use Rattle.zk_lower.specs.View.{body_of}
use Rattle.zk_tree.specs.declared.place.Place.{Place}
use Rattle.zk_typed.specs.Does.{Faults, Spent}
use Rattle.zk_typed.specs.Log.{Stream, Filter}
use Rattle.zk_value.specs.Plain.{value_of, key_of, field_of}
use Rattle.zk_machine.specs.State.{state_of}
use Rattle.zk_machine.specs.declared.frames.Awaits as awaits
use Rattle.zk_machine.specs.declared.frames.Awaits.TheVariants as await
use Rattle.zk_machine.specs.declared.frames.Frame as frames
use Rattle.zk_machine.specs.declared.frames.Loop as loops
use Rattle.zk_machine.specs.declared.frames.Waiting as waitings
use Rattle.zk_machine.specs.declared.frames.Write as writes
use Rattle.zk_machine.specs.declared.frames.Loop.TheVariants as loop
use Rattle.zk_machine.specs.declared.halt.Halt.{Halt}
use Rattle.zk_machine.specs.declared.halt.Halt.TheVariants as halt
use Rattle.zk_machine.specs.declared.running.Running as running

abbrev pub loop_of : loops.Loop → plain.Loop
loop_of (loop.Keys over keys) = plain.Keys (value_of over) (map key_of (reverse keys.items))
loop_of (loop.Indexes over index left) = plain.Indexes (value_of over) index left

-- Writes -----------------------------------------------------------------------------------------------------------

-- the stream of a write, with its filters
abbrev pub stream_in : writes.Write → Stream
stream_in write = record {
  id = write.log;
  event = write.stream.event;
  path = write.stream.path;
  policy = write.stream.policy;
  columns = write.stream.columns;
  filters = write.filters.items;
}

abbrev pub pending_from : writes.Write → Filter → List Filter → plain.Pending
pending_from write one others = record { stream = stream_in write; row = value_of write.row; filter = one; others = others }

abbrev pub pending_with : writes.Write → List Filter → Option plain.Pending
pending_with write [] = None
pending_with write (one ∷ others) = Some (pending_from write one others)

-- what waits for the policy of the filter that is next
abbrev pub pending_of : writes.Write → Option plain.Pending
pending_of write = pending_with write (drop write.at write.filters.items)

abbrev pub waits_of : Option writes.Write → Option plain.Pending
waits_of None = None
waits_of (Some write) = pending_of write

-- Bodies that wait -------------------------------------------------------------------------------------------------

abbrev pub waiting_of : waitings.Waiting → plain.Awaits
waiting_of waiting = plain.Bodies waiting.place (key_of waiting.args.items) (map body_of (reverse waiting.others.items)) (waits_of waiting.write)

abbrev pub awaits_of : awaits.Awaits → plain.Awaits
awaits_of (await.Result place) = plain.Result place
awaits_of await.Return = plain.Return
awaits_of (await.Bodies waiting) = waiting_of waiting.value

abbrev pub frame_of : frames.Frame → plain.Frame
frame_of frame = record {
  back = frame.back;
  locals = map field_of frame.locals.items;
  loops = map loop_of (reverse frame.loops.items);
  awaits = awaits_of frame.awaits;
}

abbrev pub held_of : running.Running → plain.Held
held_of running = record {
  stack = map value_of (reverse running.stack.items);
  loops = map loop_of (reverse running.loops.items);
  frames = map frame_of (reverse running.frames.items);
}

abbrev pub machine_of : running.Running → plain.Machine
machine_of running = record { at = running.at; held = held_of running; state = state_of running.state }

-- A step of code agrees with what a call does: it goes on, or ends by a fault of the statement at a place, or for want of a
-- unit. Want of memory alone is free.
abbrev pub Moves : {A : Type 0} → Place → Result A Halt → Step → plain.Machine → Type 0
Moves place (Ok a) step now = step ≡ Goes now
Moves place (Err (halt.Fault kind)) step now = step ≡ Ends (Faults kind place now.state.world now.state.units)
Moves place (Err halt.Spent) step now = step ≡ Ends (Spent place now.state.world)
Moves place (Err halt.NoMemory) step now = Unit {0}
