use Rattle.zk_logs.proofs.LogLemmas.{names_apart, file_of_path}
use Rattle.zk_logs.proofs.laws.each_path_has_its_file.Goals as goal

pub returns : goal.returns
returns c = record { apart = names_apart; log = file_of_path }
