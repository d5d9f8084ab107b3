use Rattle.std.proofs.Common.{ℕ, List, filter, ap, ◌∙◌}
use Rattle.std.specs.Str.{bytes_eq}
use Rattle.zk_typed.specs.Names.{Declared, count_before}
use Rattle.zk_scope.specs.Kinds.{is_of}
use Rattle.zk_scope.specs.Lent.{declared_lent, nodes_lent}
use Rattle.zk_scope.specs.Scripted.{scripts_in}
use Rattle.zk_scope.proofs.known.Names.number_among.Goals as goal

pub returns : goal.returns
unfolding scripts_in
returns c =
    let names = declared_lent c.args.self.now.table.names.items in
    c.in_ok-number.ensures (nodes_lent c.args.self.now.nodes.items) names c.args.self.now.numbered ∙
    ap (λ (name : List ℕ). count_before (λ (other : Declared). bytes_eq other.name name) (filter (is_of c.args.kind) names)) c.as_slice.ensures.value
