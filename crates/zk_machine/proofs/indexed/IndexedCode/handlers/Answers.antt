use Rattle.std.proofs.Common.{rules, ◌≡◌, ◌<◌, length, map, sym, ap, ◌∙◌}
use Rattle.std.specs.Prelude.{slice_get}
use Rattle.zk_base.specs.declared.numbers.HandlerNo.{HandlerNo}
use Rattle.zk_lower.specs.Code.{Code}
use Rattle.zk_machine.specs.Handling.{numbers_at, numbers_for}
use Rattle.zk_machine.specs.Indexed.{code_in}
use Rattle.zk_machine.proofs.Handling.{all-made, handlers_found, map-twice, numbers_within}
use Rattle.zk_machine.proofs.indexed.IndexedCode.handlers.Goals as goal

pub returns-clause-numbers : goal.returns-clause-numbers
returns-clause-numbers c =
    let lent : c.deref.result.now ≡ c.args.self.now.handlers.items = search rules in
    c.list_of.ensures ∙ (ap (λ lists. numbers_at lists c.args.event.0) lent ∙ c.args.self.now.by_event c.args.event)

pub returns-clause-within : goal.returns-clause-within
returns-clause-within c =
    let lent : c.deref.result.now ≡ c.args.self.now.handlers.items = search rules in
    let handlers = (code_in c.args.self.now).handlers in
    all-made (λ (one : HandlerNo). one.0) (λ n. n < length handlers) c.list_of.result.now (numbers_for c.args.event handlers)
    (c.list_of.ensures ∙ (ap (λ lists. numbers_at lists c.args.event.0) lent ∙ c.args.self.now.by_event c.args.event)) (numbers_within c.args.event handlers)

pub returns-clause-handlers : goal.returns-clause-handlers
returns-clause-handlers c = λ program is.
    let lent : c.deref.result.now ≡ c.args.self.now.handlers.items = search rules in
    let numbers : map (λ (one : HandlerNo). one.0) c.list_of.result.now ≡ numbers_for c.args.event (code_in c.args.self.now).handlers =
    c.list_of.ensures ∙ (ap (λ lists. numbers_at lists c.args.event.0) lent ∙ c.args.self.now.by_event c.args.event) in
    sym (map-twice (λ (one : HandlerNo). one.0) (λ n. slice_get program.handlers n) c.list_of.result.now)
    ∙ (ap (map (λ n. slice_get program.handlers n)) (numbers ∙ ap (λ (code : Code). numbers_for c.args.event code.handlers) is) ∙ handlers_found program c.args.event)
