use Rattle.std.proofs.Common.{◌<◌, ◌≡◌, length, sym, ap, ◌∙◌, arith}
use Rattle.std.proofs.lemmas.List.{length-map}
use Rattle.zk_typed.specs.Does.{Gives}
use Rattle.zk_value.specs.Plain.{value_of, key_of}
use Rattle.zk_machine.specs.State.{state_of, storing}
use Rattle.zk_machine.proofs.VectorLemmas.{item-set, item-added}
use Rattle.zk_machine.proofs.state.State.set_item_at.Goals as goal

pub returns-then-index-count : goal.returns-then-index-count
returns-then-index-count c = λ place.
    let items = c.in_ok-count.field-0.now in
    let within : c.args.index < length (key_of items) = let same = length-map items value_of in omega (arith, same, c.if-index-count.true) in
    item-set place c.args.number c.args.index (value_of c.args.item) (state_of c.args.self.now) (key_of items) c.in_ok-count.ensures.there within
    ∙ ap (λ store. Gives tt (storing store (state_of c.args.self.now))) (sym c.set_item.ensures.objects)

pub returns : goal.returns
returns c = λ place.
    let items = c.in_ok-count.field-0.now in
    let at : c.args.index ≡ length (key_of items) = let same = length-map items value_of in omega (arith, same, c.if-index-count.false, c.if-index-count-2.false) in
    item-added place c.args.number c.args.index (value_of c.args.item) (state_of c.args.self.now) (key_of items) c.in_ok-count.ensures.there at
    ∙ ap (λ store. Gives tt (storing store (state_of c.args.self.now))) (sym c.in_ok-push_item.ensures.ok)
