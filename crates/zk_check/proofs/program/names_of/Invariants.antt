use Rattle.std.proofs.Common.{◌≡◌, take}
use Rattle.zk_scope.specs.Lent.{files_of}
use Rattle.zk_check.specs.Programming.{file_names}
use Rattle.zk_check.proofs.program.names_of.Given as goal

abbrev pub invariant-loop-file : goal.invariant-loop-file
invariant-loop-file l = l.all.items ≡ file_names (files_of (take l.file-index l.files))
