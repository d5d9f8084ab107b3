-- What an item does to a machine, and to what is known of the objects of connections.
use Rattle.std.specs.Prelude.{◌≡◌}
use Rattle.zk_lower.specs.Told.{Told}
use Rattle.zk_events.specs.declared.sealed.SealedMachine.{SealedMachine}
use Rattle.zk_events.specs.Sealed.{StandsFor}
use Rattle.zk_traffic.specs.declared.item.What.{What}
use Rattle.zk_typed.specs.Program.{Program}
use Rattle.zk_typed.specs.State.{World}
use Rattle.zk_events.specs.declared.connections.Objects.{Objects}
use Rattle.zk_events.specs.Known.{Known}
use Rattle.zk_events.specs.Turns.{Held, known_after, raises}

-- It holds these objects.
abbrev pub Holds : SealedMachine → SealedMachine → Objects → (Program → World → Held) → Type 0
Holds old new objects held =
    (program : Program) (given : Told) (world : World) → StandsFor old program given world
    → (objects ≡ (held program world).objects) × StandsFor new program given (held program world).world

-- From each world that it has come to it goes to the one behind what the item raises, and what is known is what the item
-- leaves.
abbrev pub Raises : What → SealedMachine → Known → SealedMachine → Known → Type 0
Raises what old before new after =
    (program : Program) (given : Told) (world : World) → StandsFor old program given world
    → StandsFor new program given (raises program before what world) × (after ≡ known_after program before what world)
