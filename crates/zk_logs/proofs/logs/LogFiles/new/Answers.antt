use Rattle.std.proofs.Common.{[], ap, refl}
use Rattle.zk_logs.specs.Logs.{open_files, rows_in}
use Rattle.zk_logs.specs.Written.{pieces_of}
use Rattle.zk_logs.proofs.WrittenLemmas.{none_written}
use Rattle.zk_logs.proofs.PieceLemmas.{path_of, waiting}
use Rattle.zk_logs.proofs.logs.LogFiles.new.Goals as goal

pub returns-clause-written : goal.returns-clause-written
unfolding open_files rows_in
returns-clause-written c = λ outputs.
    none_written outputs (open_files []) (pieces_of (record { alloc = c.args.alloc; pieces = c.new.result })) (λ name. refl)
    (λ name. ap (λ entries. waiting path_of entries name) c.new.ensures.empty)
