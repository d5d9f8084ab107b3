-- How a shelf in memory counts what went wrong, and what a call that fails leaves of the outside.
use Rattle.std.specs.Prelude.{ℕ, ◌+◌, ◌-◌, ◌^◌, ◌/◌, nat_lt, if◌then◌else◌, List, [], length, take, Some, None, is_some}
use Rattle.std.specs.Option.{option_map}
use Rattle.zk_base.specs.declared.shelf.Fault.TheVariants as fault
use Rattle.zk_base.specs.Shelf.{Files, Outside, Closed, with_file, named}

-- a count that rises by one, and stands still at 2^64 - 1
abbrev pub one_more : ℕ → ℕ
one_more count = if nat_lt count (2 ^ 64 - 1) then count + 1 else count

abbrev pub with_write_fault : Outside → Outside
with_write_fault o = record o { write_faults = one_more o.write_faults; last = Some fault.Write }

-- the outside after a start that found no input
abbrev pub after_absence : Outside → List ℕ → Outside
after_absence o name = record o { started = named o.started name; reading = Closed; absences = one_more o.absences; last = None }

-- after one that failed
abbrev pub after_failed_start : Outside → List ℕ → Outside
after_failed_start o name = record o { started = named o.started name; reading = Closed; read_faults = one_more o.read_faults; last = Some fault.Read }

-- after a read that failed: the input stays open at its place
abbrev pub after_failed_read : Outside → Outside
after_failed_read o = record o { read_faults = one_more o.read_faults; last = Some fault.Read }

-- the files after one of them is emptied, if it is there
abbrev pub with_emptied : Files → List ℕ → Files
with_emptied files name = if is_some (files name) then with_file files name [] else files

-- after an output couldn't be made
abbrev pub after_failed_create : Outside → List ℕ → Outside
after_failed_create o name = with_write_fault (record o { outputs = option_map (λ files. with_emptied files name) o.outputs })

-- the first half of a piece, rounded down
abbrev pub first_half : List ℕ → List ℕ
first_half piece = take (length piece / 2) piece
