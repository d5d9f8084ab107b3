-- The counts in the outside that a shelf in memory shows.
use Rattle.zk_base.specs.declared.counts.Counts.{Counts}
use Rattle.zk_base.specs.Shelf.{Outside}

-- an outside with other counts and another last fault
abbrev pub with_counts : Outside → Counts → Outside
with_counts o counts = record o { read_faults = counts.read_faults; write_faults = counts.write_faults; absences = counts.absences; last = counts.last }
