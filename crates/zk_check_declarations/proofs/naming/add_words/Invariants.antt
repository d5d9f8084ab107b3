use Rattle.std.proofs.Common.{◌≡◌, ◌++◌, take}
use Rattle.zk_scope.specs.Lent.{home_of}
use Rattle.zk_check_declarations.specs.Naming.{all_named, words_named}
use Rattle.zk_check_declarations.proofs.naming.add_words.Given as goal

abbrev pub invariant-loop-word : goal.invariant-loop-word
invariant-loop-word l = all_named l.names.items ≡ all_named l.fn.names.items ++ words_named (home_of l.home) (take l.word-index l.words)
