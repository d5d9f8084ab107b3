use Rattle.std.proofs.Common.{List, ◌+◌, length, filter, ap, ◌∙◌}
use Rattle.zk_typed.specs.Names.{Node, is_record}
use Rattle.zk_scope.specs.Scripted.{scripts_in}
use Rattle.zk_scope.proofs.FieldPlaceLaws.{hold_own}
use Rattle.zk_scope.proofs.fields.all_own.Goals as goal

pub returns : goal.returns
returns c =
    hold_own (scripts_in c.args.names.now) c.in_ok-all.all.items c.in_ok-count.count (c.in_ok-count.ensures.count ∙ ap (λ (x : List Node). 8 + length (filter is_record x)) c.nodes.ensures) c.in_ok-all.ensures.0 c.in_ok-all.ensures.1
