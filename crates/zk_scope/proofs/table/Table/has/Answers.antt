use Rattle.std.proofs.Common.{is_some, ap, ◌∙◌}
use Rattle.zk_scope.specs.Lent.{declared_lent}
use Rattle.zk_scope.proofs.IndexLaws.{has_place}
use Rattle.zk_scope.proofs.table.Table.has.Goals as goal

pub returns : goal.returns
returns c =
    let names = declared_lent c.args.self.now.names.items in
    c.is_some.ensures ∙ ap is_some (c.find-place.ensures names c.args.self.now.indexed) ∙ has_place names c.args.whole.now
