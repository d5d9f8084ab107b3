-- Statements that leave a turn or a loop, where they may stand.
use Rattle.std.specs.Prelude.{Bool, Ok}
use Rattle.zk_tree.specs.declared.place.Place.{Place}
use Rattle.zk_typed.specs.declared.rule.Rule.TheVariants as rule
use Rattle.zk_typed.specs.Checked.{Checked, require, ◌>>◌}
use Rattle.zk_typed.specs.Forms as form

abbrev pub next_where : Bool → Place → Checked form.Stmt
next_where in_loop place = require in_loop rule.Break place >> Ok (form.Next place)

abbrev pub break_where : Bool → Place → Checked form.Stmt
break_where breaks place = require breaks rule.Break place >> Ok (form.Break place)
