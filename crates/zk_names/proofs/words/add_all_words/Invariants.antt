use Rattle.std.proofs.Common.{◌≡◌, ◌++◌, flat_map, take}
use Rattle.zk_typed.specs.Declaring.{with_words}
use Rattle.zk_scope.specs.Lent.{declared_lent, stated_lent}
use Rattle.zk_scope.specs.Scripted.{scripts_in}
use Rattle.zk_names.proofs.words.add_all_words.Given as goal

abbrev pub invariant-loop-one : goal.invariant-loop-one
invariant-loop-one l = declared_lent l.table.names.items ≡ declared_lent l.fn.table.names.items ++ flat_map (with_words (scripts_in l.known)) (stated_lent (take l.one-index l.stated))
