use Rattle.std.proofs.Common.{ap, ◌∙◌, arith}
use Rattle.zk_reasm.specs.Held.{byte_kept, taken_of}
use Rattle.zk_reasm.specs.Standing.{lent}
use Rattle.zk_reasm.proofs.stream.Stream.take.Goals as goal

pub take-requires-clause-enough : goal.take-requires-clause-enough
unfolding lent
take-requires-clause-enough c = c.requires

pub invariant_of-self : goal.invariant_of-self
unfolding taken_of
invariant_of-self c =
    let settled = c.args.self.now.settled in
    record {
      acked_within = c.args.self.now.acked_within;
      settled = record {
        order = omega (arith, c.take.ensures.run_end, c.take.ensures.front, settled.order);
        gap = λ low. c.take.ensures.bytes c.take.new.self.run_end (omega arith)
            ∙ ap (byte_kept c.args.self.now.held) c.take.ensures.run_end ∙ settled.gap (omega (arith, low, c.take.ensures.run_end, c.take.ensures.front));
      };
    }

pub returns-clause-lent : goal.returns-clause-lent
unfolding lent
returns-clause-lent c = c.take.ensures.lent
