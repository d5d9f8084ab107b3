-- What a shelf that lies in memory holds.
use Rattle.std.specs.Prelude.{◌≡◌, ℕ, min, List, [], length, Some, None, IfSome}
use Rattle.zk_base.specs.declared.shelf.Got.{Got}
use Rattle.zk_base.specs.declared.shelf.Got.TheVariants as got
use Rattle.zk_base.specs.declared.contents.Contents.{Contents}
use Rattle.zk_base.specs.Files.{files_of, reading_of}
use Rattle.zk_base.specs.Shelf.{Outside, Closed, rest_of}

-- the outside that a shelf in memory with these contents shows: all of it is told
abbrev pub outside_of : Contents → Outside
outside_of c = record {
  inputs = Some (files_of c.inputs.items);
  outputs = Some (files_of c.outputs.items);
  said = Some c.said;
  complained = Some c.complained;
  started = Some c.started.items;
  reading = reading_of c.inputs.items c.position;
  read_faults = c.counts.read_faults;
  write_faults = c.counts.write_faults;
  absences = c.counts.absences;
  last = c.counts.last;
}

-- the outside that such a shelf shows at first, with these inputs: nothing is written or started yet
abbrev pub at_first : List (List ℕ × List ℕ) → Outside
at_first inputs = record {
  inputs = Some (files_of inputs);
  outputs = Some (λ name. None);
  said = Some [];
  complained = Some [];
  started = Some [];
  reading = Closed;
  read_faults = 0;
  write_faults = 0;
  absences = 0;
  last = None;
}

-- A read gives as many bytes as the open input has left and the buffer holds. Where it gives none the buffer is as it was.
abbrev pub Fills : Outside → List ℕ → Got → List ℕ → Type 0
Fills old before (got.Bytes n) after = IfSome (rest_of old) (λ rest. n ≡ min (length rest) (length before))
Fills old before got.End after = after ≡ before
Fills old before got.Failed after = after ≡ before
