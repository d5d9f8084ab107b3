use Rattle.std.proofs.Common.{◌++◌, ap, sym, ◌∙◌, append-nil, arith}
use Rattle.zk_base.specs.ByteQueue.{bytes_of}
use Rattle.zk_reasm.specs.Apart.{byte_apart}
use Rattle.zk_reasm.proofs.RangeLemmas.{bytes_between-none}
use Rattle.zk_reasm.proofs.apart.Apart.move_run.Goals as goal

pub returns-in-None-clause-run : goal.returns-in-None-clause-run
returns-in-None-clause-run c =
    sym (ap (λ xs. bytes_of c.args.run.now ++ xs) (bytes_between-none (byte_apart c.args.self.now) c.args.from c.args.from (omega arith)) ∙ append-nil (bytes_of c.args.run.now))
