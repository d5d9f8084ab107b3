-- What is counted of the calls of a shelf and what the last one failed at, after each kind of call.
use Rattle.std.specs.Prelude.{Some, None}
use Rattle.zk_base.specs.declared.shelf.Fault.TheVariants as fault
use Rattle.zk_base.specs.declared.counts.Counts.{Counts}
use Rattle.zk_base.specs.Faults.{one_more}

abbrev pub none_counted : Counts
none_counted = record { read_faults = 0; write_faults = 0; absences = 0; last = None }

abbrev pub with_read_fault : Counts → Counts
with_read_fault counts = record counts { read_faults = one_more counts.read_faults; last = Some fault.Read }

abbrev pub with_write_fault : Counts → Counts
with_write_fault counts = record counts { write_faults = one_more counts.write_faults; last = Some fault.Write }

abbrev pub with_absence : Counts → Counts
with_absence counts = record counts { absences = one_more counts.absences; last = None }

abbrev pub without_fault : Counts → Counts
without_fault counts = record counts { last = None }
