use Rattle.std.proofs.Common.{◌≡◌, ℕ, ◌+◌, ◌-◌, ◌*◌, ◌≤◌, ◌<◌, List, ◌++◌, length, take}
use Rattle.zk_http.specs.BodyBytes.{bytes_at}
use Rattle.zk_http.specs.Reading.{KnowsIn, bound_in, data_from, seen_in}
use Rattle.zk_http.specs.Turns.{DataGoes, Goes, places_of, steps_in}
use Rattle.zk_http.proofs.turn.read_on.Given as goal

abbrev pub invariant-parts : goal.invariant-parts
invariant-parts g l = record {
  within : l.used ≤ length l.bytes;
  body : l.reading.body ≤ l.fn.reading.body + l.used;
  gap : l.reading.gap ≤ l.fn.reading.gap + l.used;
  seen : seen_in l.reading.part ≤ length l.bytes - l.used;
  most : seen_in l.reading.part < bound_in l.reading.part;
  content : KnowsIn l.fn.reading.part (places_of l.bytes) → DataGoes l.fn.reading.part l.reading.part l.used (places_of l.bytes);
  given : KnowsIn l.fn.reading.part (places_of l.bytes) → (before : List ℕ) → g.B.Body.stands_for l.initial.body before
      → g.B.Body.stands_for l.body (before ++ bytes_at (data_from l.fn.reading.part (take l.used (places_of l.bytes))));
  rest : g.B.Body.rest l.body ≡ g.B.Body.rest l.initial.body;
  goes : KnowsIn l.fn.reading.part (places_of l.bytes) → Goes l.fn.reading l.reading l.used (places_of l.bytes);
}

abbrev pub decreases-parts : goal.decreases-parts
decreases-parts g l = 2 * (length l.bytes - l.used) + steps_in l.reading.part
