-- Declarations that are lent on the way to load order, and what was found so far.
use Rattle.std.specs.Prelude.{List, map}
use Rattle.zk_typed.specs.LoadOrder.{Line, Found}
use Rattle.zk_scope.specs.Lent.{stated_lent}
use Rattle.zk_names.specs.declared.order.Line.{Line as LentLine}
use Rattle.zk_names.specs.declared.order.Finding.{Finding}

abbrev pub line_of : LentLine → Line
line_of line = record { exported = line.exported; decl = line.decl.now }

abbrev pub lines_lent : List LentLine → List Line
lines_lent lines = map line_of lines

abbrev pub found_of : Finding → Found
found_of found = record { placed = found.placed.items; module_name = found.module_name.now; stated = stated_lent found.stated.items }
