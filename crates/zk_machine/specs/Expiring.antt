-- What an expiry function comes to, as the machine holds it.
use Rattle.zk_base.specs.declared.time.Span.{Span}
use Rattle.std.specs.Prelude.{Option}
use Rattle.zk_tree.specs.declared.place.Place.{Place}
use Rattle.zk_tree.specs.Value.{Value}
use Rattle.zk_typed.specs.declared.ends.FaultKind.TheVariants.{Unset}
use Rattle.zk_typed.specs.Dispatch.{interval_of}
use Rattle.zk_typed.specs.Does.{Ran, Gives, Faults, Spent, and_then, ◌>>=◌, or_fault}
use Rattle.zk_typed.specs.State.{State}
use Rattle.zk_machine.specs.declared.ends.Ending.TheVariants as ending
use Rattle.zk_machine.specs.declared.ends.Ending as rust
use Rattle.zk_machine.specs.declared.expiring.Expiring.{Expiring}

abbrev pub span_of : rust.Ending → Span → State → Ran Span
span_of (ending.Done value) wait state = Gives wait state
span_of (ending.Fault kind place) wait state = Faults kind place state.world state.units
span_of (ending.Spent place) wait state = Spent place state.world

abbrev pub span_ran : Expiring → State → Ran Span
span_ran expiring state = span_of expiring.ending expiring.wait state

-- the interval that was given, or a fault of the statement at a place
abbrev pub interval_in : Place → Ran (Option Value) → Ran Span
interval_in place ran = and_then ran (λ given. or_fault Unset place given >>= interval_of place)
