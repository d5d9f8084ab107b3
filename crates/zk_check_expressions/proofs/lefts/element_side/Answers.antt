use Rattle.std.proofs.Common.{Ok, ap, sym, ◌∙◌}
use Rattle.zk_check_expressions.proofs.SideLaws.{element_at}
use Rattle.zk_check_expressions.proofs.lefts.element_side.Goals as goal

pub returns-in-Field : goal.returns-in-Field
returns-in-Field c = element_at c.args.place c.args.one c.in-Apply.primitive _ c.in-Apply.operands c.in-Apply.is c.in-Field.is ∙ ap Ok (sym c.side.ensures)

pub returns-in-Element : goal.returns-in-Element
returns-in-Element c = element_at c.args.place c.args.one c.in-Apply.primitive _ c.in-Apply.operands c.in-Apply.is c.in-Element.is ∙ ap Ok (sym c.side-in-Element.ensures)

pub returns-in-Item : goal.returns-in-Item
returns-in-Item c = element_at c.args.place c.args.one c.in-Apply.primitive _ c.in-Apply.operands c.in-Apply.is c.in-Item.is ∙ ap Ok (sym c.side-in-Item.ensures)
