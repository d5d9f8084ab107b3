-- From which worlds to which ones a machine goes.
use Rattle.std.specs.Prelude.{◌≡◌}
use Rattle.zk_base.specs.declared.numbers.ObjectNo.{ObjectNo}
use Rattle.zk_lower.specs.Told.{Told}
use Rattle.zk_events.specs.declared.sealed.SealedMachine.{SealedMachine}
use Rattle.zk_machine.specs.Made.{Fresh}
use Rattle.zk_events.specs.Sealed.{StandsFor}
use Rattle.zk_typed.specs.Program.{Program}
use Rattle.zk_typed.specs.State.{World}

-- From each world that it has come to it goes to the one that is said; no line or row is given out.
abbrev pub Becomes : SealedMachine → SealedMachine → (Program → World → World) → Type 0
Becomes old new after =
    (program : Program) (given : Told) (world : World) → StandsFor old program given world → StandsFor new program given (after program world)

-- It makes this object.
abbrev pub Makes : SealedMachine → SealedMachine → ObjectNo → (Program → World → Fresh) → Type 0
Makes old new number fresh =
    (program : Program) (given : Told) (world : World) → StandsFor old program given world
    → (number ≡ (fresh program world).number) × StandsFor new program given (fresh program world).world
