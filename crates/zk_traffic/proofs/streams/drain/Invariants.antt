use Rattle.std.proofs.Common.{ℕ, ◌-◌, ◌^◌, ◌≤◌, List}
use Rattle.zk_reasm.specs.Histories.{content, front_of}
use Rattle.zk_reasm.specs.Standing.{StandsFor}
use Rattle.zk_reasm.specs.Told.{Told}
use Rattle.zk_traffic.specs.declared.news.News.{News}
use Rattle.zk_traffic.specs.Moves.{Adds}
use Rattle.zk_traffic.specs.Places.{gaps_from, runs_from}
use Rattle.zk_traffic.proofs.streams.drain.Given as goal
use Rattle.zk_traffic.specs.declared.reading.Reading.{Reading}
use Rattle.zk_traffic.specs.Reading.{Gets}

abbrev pub invariant-loop-next : goal.invariant-loop-next
invariant-loop-next l =
    (base limit : ℕ) (told : List Told) → StandsFor l.initial.stream base limit told l.initial.place → l.initial.place ≤ front_of base limit told → record {
      stands : StandsFor l.stream base limit told l.place;
      within : l.place ≤ front_of base limit told;
      adds : (new : News) → Adds l.conn l.side (runs_from l.place (content base limit told l.place)) (gaps_from l.place (content base limit told l.place)) l.news new
          → Adds l.conn l.side (runs_from l.initial.place (content base limit told l.initial.place)) (gaps_from l.initial.place (content base limit told l.initial.place)) l.initial.news new;
      gets : (new : Reading) → Gets l.side (content base limit told l.place) l.readers new → Gets l.side (content base limit told l.initial.place) l.initial.readers new;
    }

abbrev pub decreases-loop-next : goal.decreases-loop-next
decreases-loop-next l = 2 ^ 64 - l.place
