use Rattle.std.proofs.Common.{rules, ◌≡◌, ◌==◌, map, ap, ◌∙◌}
use Rattle.zk_lower.specs.View.{global_of, handler_of}
use Rattle.zk_lower.proofs.Priorities.{filter_in_order}
use Rattle.zk_typed.specs.Meaning.{in_order}
use Rattle.zk_machine.specs.Handling.{expiring_from, numbered, numbered_of}
use Rattle.zk_machine.proofs.Handling.{numbers_under}
use Rattle.zk_machine.proofs.indexed.IndexedCode.new.Goals as goal

pub invariant_of-result : goal.invariant_of-result
invariant_of-result c =
    let handlers = c.args.code.handlers in
    let lent : c.deref.result.now ≡ c.put_in_order.new.list.items = search rules in
    let all : c.as_slice.result.now ≡ handlers = c.as_slice.ensures in
    record {
      by_event = λ event.
          c.in_ok-handlers.ensures event.0
          ∙ (ap (λ list. numbers_under event.0 (map numbered_of list)) lent
          ∙ (ap (numbers_under event.0) (c.in_ok-put_in_order.ensures ∙ ap (in_order (λ one. one.1.priority)) (c.in_ok-list.ensures ∙ ap (λ list. numbered 0 (map handler_of list)) all))
          ∙ ap (map (λ one. one.0)) (filter_in_order (λ one. one.1.priority) (λ one. one.1.event.0 == event.0) (numbered 0 (map handler_of handlers)))));
      expires = c.in_ok-expiring.ensures ∙ ap (λ list. expiring_from 0 (map global_of list)) c.as_slice-2.ensures;
    }
