use Rattle.std.proofs.Common.{◌≡◌, ◌==◌, ◌∷◌, ◌++◌, [], map, sym, ap, ◌∙◌}
use Rattle.std.specs.Prelude.{if◌then◌else◌}
use Rattle.std.proofs.lemmas.List.{map-append}
use Rattle.zk_base.specs.declared.numbers.HandlerNo.{HandlerNo}
use Rattle.zk_machine.specs.Handling.{numbers_at}
use Rattle.zk_machine.proofs.Handling.{numbers-put, numbers-there}
use Rattle.zk_machine.proofs.indexed.put.Goals as goal

pub returns : goal.returns
returns c = λ other.
    let lists = c.widen.new.lists.items in
    let list = c.index_mut.result.now in
    let there = c.in_ok-widen.ensures.there in
    let is : map (λ (one : HandlerNo). one.0) c.push.new.self.items ≡ numbers_at lists c.args.event.0 ++ c.args.number.0 ∷ [] =
    ap (map (λ (one : HandlerNo). one.0)) c.in_ok-push.ensures.items
    ∙ (map-append (λ (one : HandlerNo). one.0) list.items (c.args.number ∷ [])
    ∙ ap (λ numbers. numbers ++ c.args.number.0 ∷ []) (sym (numbers-there lists c.args.event.0 list there c.index_mut.ensures.value))) in
    numbers-put lists c.args.event.0 c.push.new.self c.args.number.0 other there is
    ∙ ap (λ numbers. if c.args.event.0 == other then numbers ++ c.args.number.0 ∷ [] else numbers) (c.in_ok-widen.ensures.same other)
