use Rattle.std.proofs.Common.{rules, ◌≡◌, ◌==◌, ◌∷◌, ◌++◌, ◌+◌, ℕ, [], get_or, map, take, sym, ap, ◌∙◌}
use Rattle.std.specs.Prelude.{if◌then◌else◌}
use Rattle.zk_lower.proofs.Growing.{taken}
use Rattle.zk_machine.specs.declared.indexed.Numbered.{Numbered}
use Rattle.zk_machine.specs.Handling.{numbered_of, numbers_at}
use Rattle.zk_machine.proofs.Handling.{numbers_under, under-more}
use Rattle.zk_machine.proofs.indexed.by_event.Goals as goal

pub loop-one-preserved : goal.loop-one-preserved
loop-one-preserved c =
    let handlers = c.args.handlers.now in
    let i = c.loop-one.one-index in
    let old = c.loop-one.lists.items in
    let new = c.put.new.lists.items in
    let before = map numbered_of (take i handlers) in
    let step : (one : Numbered) → ((event : ℕ) → numbers_at new event ≡ (if one.handler.event.0 == event then numbers_at old event ++ one.number.0 ∷ [] else numbers_at old event)) → one ≡ get_or handlers i one
    → (event : ℕ) → numbers_at new event ≡ numbers_under event (map numbered_of (take (i + 1) handlers)) =
    λ one puts is event.
    puts event
    ∙ (ap (λ list. if one.handler.event.0 == event then list ++ one.number.0 ∷ [] else list) (c.loop-one.invariant event)
    ∙ (sym (under-more event before (numbered_of one)) ∙ ap (numbers_under event) (sym (taken numbered_of handlers i one c.loop-one-test.true is)))) in
    step c.numbered_copy-copy.result c.in_ok-put.ensures (search rules)
