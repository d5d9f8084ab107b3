use Rattle.std.proofs.Common.{◌≡◌, ℕ, Some, ◌++◌, ◌∷◌, [], sym, ap, ◌∙◌}
use Rattle.zk_base.specs.declared.numbers.ObjectNo.{ObjectNo}
use Rattle.zk_tree.specs.Store as object
use Rattle.zk_tree.specs.Value as plain
use Rattle.zk_typed.specs.Objects.{keep_default}
use Rattle.zk_typed.specs.State.{World}
use Rattle.zk_value.specs.Plain.{value_of}
use Rattle.zk_machine.specs.State.{state_of, storing, world_of}
use Rattle.zk_machine.proofs.ThenLemmas.{comes_as}
use Rattle.zk_machine.proofs.state.State.keep.Goals as goal

pub returns-in-Some : goal.returns-in-Some
returns-in-Some c = λ place.
    let state = state_of c.args.self.now in
    let store = c.args.self.now.world.heap.objects in
    let same : record { 0 = Rattle.std.proofs.Common.length store } ≡ c.in_ok-number.number = ap (λ (n : ℕ). record { 0 = n }) (sym c.in_ok-number.ensures.number) in
    comes_as value_of place c.keep_default.result _ _ _
    (ap (λ d. keep_default d (plain.Object (record { 0 = Rattle.std.proofs.Common.length store })) (storing (store ++ object.Table c.args.table ∷ []) state)) c.in-Some.is
    ∙ (ap (λ (world : World). keep_default (Some c.in-Some.default) (plain.Object (record { 0 = Rattle.std.proofs.Common.length store })) (record state { world = world })) (sym c.in_ok-number.ensures.ok)
    ∙ ap (λ (number : ObjectNo). keep_default (Some c.in-Some.default) (plain.Object number) (record state { world = world_of c.add_table.new.self })) same))
    (c.keep_default.ensures place)
