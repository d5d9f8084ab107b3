use Rattle.std.proofs.Common.{rules, ◌≡◌, ◌∷◌, ◌++◌, ◌+◌, [], get_or, length, map, take, refl, sym, ap, ◌∙◌, arith}
use Rattle.zk_lower.specs.declared.code.HandlerCode.{HandlerCode}
use Rattle.zk_lower.specs.View.{handler_of}
use Rattle.zk_lower.proofs.Growing.{counted, taken, found_one}
use Rattle.zk_machine.specs.declared.indexed.Numbered.{Numbered}
use Rattle.zk_machine.specs.Handling.{numbered, numbered_of}
use Rattle.zk_machine.proofs.Handling.{numbered-more}
use Rattle.zk_machine.proofs.indexed.with_numbers.Goals as goal

pub loop-index-preserved : goal.loop-index-preserved
loop-index-preserved c =
    let handlers = c.args.handlers.now in
    let i = c.loop-index.index in
    let n = c.in-Some.number in
    let before = map handler_of (take i handlers) in
    let same : n ≡ length before = counted handler_of handlers i n c.loop-index-test.true (search rules) in
    let place : n ≡ 0 + length before = omega (arith, same) in
    let new : HandlerCode → Numbered = λ one. record { number = record { 0 = n }; handler = one } in
    let step : (one : HandlerCode) → c.push.new.self.items ≡ c.loop-index.list.items ++ new one ∷ [] → one ≡ get_or handlers i one
    → map numbered_of c.push.new.self.items ≡ numbered 0 (map handler_of (take (i + 1) handlers)) =
    λ one items is.
    found_one numbered_of c.loop-index.list.items c.push.new.self.items (new one) (n, handler_of one) items refl
    ∙ (ap (λ list. list ++ (n, handler_of one) ∷ []) c.loop-index.invariant
    ∙ (ap (λ m. numbered 0 before ++ (m, handler_of one) ∷ []) place
    ∙ (sym (numbered-more 0 before (handler_of one)) ∙ ap (numbered 0) (sym (taken handler_of handlers i one c.loop-index-test.true is))))) in
    step _ c.in_ok-push.ensures.items (search rules)
