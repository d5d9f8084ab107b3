-- A new stream was told nothing.
use Rattle.std.proofs.Common.{◌≡◌, ℕ, false, [], None, refl, sym, ◌∙◌, arith}
use Rattle.std.proofs.lemmas.Bool.{le-ltb}
use Rattle.zk_reasm.specs.declared.stream.Stream.{Stream}
use Rattle.zk_reasm.specs.Between.{held_between}
use Rattle.zk_reasm.specs.Direction.{steps, reach, byte_at, front, above}
use Rattle.zk_reasm.specs.Held.{byte_kept, taken_of}
use Rattle.zk_reasm.specs.Histories.{is_over, counted, over_of}
use Rattle.zk_reasm.specs.Standing.{StandsFor}
use Rattle.zk_reasm.specs.Told.{payload_end, fin_place, acked}
use Rattle.zk_reasm.proofs.ContentLemmas.{kept_live}

-- it isn't over, whatever the limit
live_new : (base limit : ℕ) → over_of base limit [] ≡ false
unfolding is_over counted front steps payload_end fin_place above held_between
live_new base limit = le-ltb limit 0 (omega arith)

pub stands_new : (stream : Stream) (base limit : ℕ) → stream.base ≡ base → stream.limit ≡ limit → stream.fin ≡ None → stream.is_over ≡ false
    → stream.acked ≡ 0 → stream.payload_end ≡ 0 → stream.held.front ≡ 0 → taken_of stream.held ≡ 0 → ((at : ℕ) → byte_kept stream.held at ≡ None)
    → StandsFor stream base limit [] 0
unfolding counted front reach byte_at steps payload_end fin_place acked
stands_new stream base limit base_is limit_is fin live acked_is payload_is front_is taken_is bytes = record {
  base_is = base_is;
  limit_is = limit_is;
  fin_is = fin;
  over_is = live ∙ sym (live_new base limit);
  front_is = front_is;
  acked_is = λ on. acked_is;
  payload_is = λ on. payload_is;
  taken_is = taken_is;
  bytes_are = λ at low. bytes at ∙ sym (kept_live base limit [] at (live_new base limit));
  together = record {
    end = omega arith;
    behind = λ at past. refl;
    order = λ on. omega arith;
    covered = λ on at low high. absurd (omega (arith, high));
  };
}
