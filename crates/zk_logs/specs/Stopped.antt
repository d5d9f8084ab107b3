-- What the writing of logs changes of the outside, up to its end or to where it is stopped.
use Rattle.std.specs.Prelude.{◌≡◌, ℕ, List}
use Rattle.zk_base.specs.Shelf.{Outside, FailsToCreate}
use Rattle.zk_outcome.specs.declared.stop.Stop.{Stop}
use Rattle.zk_outcome.specs.declared.stop.Stop.TheVariants.{ReadFault, WriteFault, NoMemory}
use Rattle.zk_outcome.specs.Parts.{HasCause}

-- nothing but outputs and the last fault has changed
abbrev pub ChangesOutputs : Outside → Outside → Type 0
ChangesOutputs old new = new ≡ record old { outputs = new.outputs; last = new.last }

-- Nothing but outputs has changed, and the count of outputs that failed where one did. Nothing is read, so no read stops it.
abbrev pub IsStoppedBy : Stop → Outside → Outside → Type 0
IsStoppedBy ReadFault old new = ⊥
IsStoppedBy WriteFault old new =
    HasCause old WriteFault new × (new ≡ record old { outputs = new.outputs; write_faults = new.write_faults; last = new.last })
IsStoppedBy NoMemory old new = ChangesOutputs old new

-- A file isn't begun: it couldn't be made, or memory ran out before.
abbrev pub IsNotBegun : List ℕ → Stop → Outside → Outside → Type 0
IsNotBegun name ReadFault old new = ⊥
IsNotBegun name WriteFault old new = FailsToCreate old name new
IsNotBegun name NoMemory old new = new ≡ record old { last = new.last }
