use Rattle.std.proofs.Common.{◌≡◌, ◌++◌, take}
use Rattle.zk_scope.specs.Lent.{declared_lent, home_of}
use Rattle.zk_names.specs.Words.{enum_words}
use Rattle.zk_names.proofs.words.add_enum_words.Given as goal

abbrev pub invariant-loop-word : goal.invariant-loop-word
invariant-loop-word l = declared_lent l.table.names.items ≡ declared_lent l.fn.table.names.items ++ enum_words (home_of l.home) l.number (take l.word-index l.words)
