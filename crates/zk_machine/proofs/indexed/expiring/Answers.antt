use Rattle.std.proofs.Common.{rules, ◌≡◌, ◌∷◌, ◌++◌, ◌+◌, [], get_or, length, map, take, is_some, sym, ap, ◌∙◌, arith}
use Rattle.std.specs.Prelude.{if◌then◌else◌}
use Rattle.zk_lower.specs.declared.code.GlobalCode.{GlobalCode}
use Rattle.zk_lower.specs.View.{global_of}
use Rattle.zk_lower.proofs.Growing.{counted, taken}
use Rattle.zk_machine.specs.Handling.{expiring_from}
use Rattle.zk_machine.proofs.Handling.{expiring-more}
use Rattle.zk_machine.proofs.indexed.expiring.Goals as goal

pub loop-index-preserved : goal.loop-index-preserved
loop-index-preserved c =
    let globals = c.args.globals.now in
    let i = c.loop-index.index in
    let n = c.in-Some.number in
    let before = map global_of (take i globals) in
    let same : n ≡ length before = counted global_of globals i n c.loop-index-test.true (search rules) in
    let place : n ≡ 0 + length before = omega (arith, same) in
    let step : (one : GlobalCode) → c.is_some.result ≡ is_some one.expiry → one ≡ get_or globals i one
    → c.add_if.new.list.items ≡ expiring_from 0 (map global_of (take (i + 1) globals)) =
    λ one some is.
    c.in_ok-add_if.ensures
    ∙ (ap (λ expires. c.loop-index.list.items ++ (if expires then n ∷ [] else [])) some
    ∙ (ap (λ list. list ++ (if is_some one.expiry then n ∷ [] else [])) c.loop-index.invariant
    ∙ (ap (λ m. expiring_from 0 before ++ (if is_some one.expiry then m ∷ [] else [])) place
    ∙ (sym (expiring-more 0 before (global_of one)) ∙ ap (expiring_from 0) (sym (taken global_of globals i one c.loop-index-test.true is)))))) in
    step c.global_copy-copy.result (search rules) (search rules)
