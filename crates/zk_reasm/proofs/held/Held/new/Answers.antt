use Rattle.std.proofs.Common.{◌≡◌, ℕ, List, length, sym, ap, ◌∙◌, arith}
use Rattle.zk_reasm.specs.declared.place.TheConstants.{PLACES}
use Rattle.zk_reasm.specs.Apart.{byte_apart}
use Rattle.zk_reasm.specs.Between.{held_between}
use Rattle.zk_reasm.specs.Held.{byte_kept, taken_of}
use Rattle.zk_reasm.specs.Parts.{byte_held}
use Rattle.zk_base.specs.ByteQueue.{bytes_of}
use Rattle.zk_reasm.proofs.HeldLemmas.{byte_held-apart}
use Rattle.zk_reasm.proofs.RangeLemmas.{held_between-empty}
use Rattle.zk_reasm.proofs.held.Held.new.Goals as goal

pub invariant_of-result : goal.invariant_of-result
invariant_of-result c =
    let none : length (bytes_of c.new.result) ≡ 0 = ap (λ (xs : List ℕ). length xs) c.new.ensures in
    let apart : held_between (byte_apart c.new-2.result) 0 PLACES ≡ 0 = held_between-empty (byte_apart c.new-2.result) 0 PLACES (λ at low high. c.new-2.ensures at) in
    record {
      start = omega (arith, none);
      end = omega arith;
      front_within = omega arith;
      kept_counts = omega (arith, none, apart);
      above_counts = sym (held_between-empty (byte_held c.new.result 0 c.new-2.result) 0 PLACES
          (λ at low high. byte_held-apart c.new.result 0 c.new-2.result at low ∙ c.new-2.ensures at));
      room = omega (arith, apart);
    }

pub returns-clause-taken : goal.returns-clause-taken
unfolding taken_of
returns-clause-taken c = omega arith

pub returns-clause-bytes : goal.returns-clause-bytes
unfolding byte_kept
returns-clause-bytes c = λ at. byte_held-apart c.new.result 0 c.new-2.result at (omega arith) ∙ c.new-2.ensures at
