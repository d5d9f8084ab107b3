use Rattle.std.proofs.Common.{ℕ, List, slice_get, ap, sym, ◌∙◌}
use Rattle.std.specs.Option.{option_and_then, option_map}
use Rattle.zk_typed.specs.Names.{is_record}
use Rattle.zk_scope.specs.declared.node.Node.{Node}
use Rattle.zk_scope.specs.Lent.{node_of, nodes_lent}
use Rattle.zk_scope.specs.Scripted.{scripts_in}
use Rattle.zk_scope.proofs.IndexLaws.{get_of_map}
use Rattle.zk_scope.proofs.PassingLaws.{nth_passing}
use Rattle.zk_scope.proofs.known.Names.record_node.Goals as goal

pub returns-in-Some : goal.returns-in-Some
unfolding scripts_in
returns-in-Some c =
    let names = c.args.self.now in
    let nodes = nodes_lent names.nodes.items in
    let place = c.in-Some.place.now in
    ap (option_map node_of) (c.copied.ensures ∙ c.at-in-Some.ensures ∙ ap (λ (x : List Node). slice_get x place) c.deref-in-Some.ensures.value) ∙ sym (get_of_map node_of names.nodes.items place) ∙
    ap (option_and_then (slice_get nodes)) (c.in-Some.ensures ∙ ap (λ (x : List ℕ). slice_get x c.args.number) (c.deref.ensures.value ∙ names.recorded)) ∙ sym (nth_passing is_record nodes c.args.number)

pub returns-in-None : goal.returns-in-None
unfolding scripts_in
returns-in-None c =
    let names = c.args.self.now in
    let nodes = nodes_lent names.nodes.items in
    ap (option_and_then (slice_get nodes)) (c.in-None.ensures ∙ ap (λ (x : List ℕ). slice_get x c.args.number) (c.deref.ensures.value ∙ names.recorded)) ∙ sym (nth_passing is_record nodes c.args.number)
