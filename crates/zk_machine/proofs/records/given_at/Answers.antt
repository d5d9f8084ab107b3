use Rattle.std.proofs.Common.{◌≡◌, ◌==◌, ◌<◌, ◌+◌, false, length, get_or, drop, sym, ap, ◌∙◌, arith, inl, inr}
use Rattle.std.proofs.lemmas.List.{drop-map, length-map}
use Rattle.std.proofs.lemmas.Bool.Decides.{nat_tests}
use Rattle.zk_lower.specs.Steps as steps
use Rattle.zk_tree.specs.Value as plain
use Rattle.zk_typed.specs.Objects.{given_at}
use Rattle.zk_value.specs.Plain.{value_of, key_of}
use Rattle.zk_machine.proofs.ListLemmas.{given-passed, given-none}
use Rattle.zk_machine.proofs.Stack.{either}
use Rattle.zk_machine.proofs.records.given_at.Goals as goal

pub loop-place-preserved : goal.loop-place-preserved
loop-place-preserved c =
    let given = c.args.given.now in
    let operands = c.args.operands.now in
    let i = c.loop-place.place in
    let same = length-map operands value_of in
    let within : i < length given = omega (arith, c.loop-place-test.true, c.min-place-end.ensures) in
    let inside : i < length (key_of operands) = omega (arith, same, c.loop-place-test.true, c.min-place-end.ensures) in
    let other : (get_or given i 0 == c.args.number) ≡ false = let h = c.if-given-place.false in grind (arith, nat_tests) in
    ap (λ v. given_at c.args.number (steps.given (drop (i + 1) given) v)) (sym (drop-map value_of (i + 1) operands))
    ∙ (sym (given-passed c.args.number given (key_of operands) i (plain.Count 0) within inside other)
    ∙ (ap (λ v. given_at c.args.number (steps.given (drop i given) v)) (drop-map value_of i operands) ∙ c.loop-place.invariant))

pub returns : goal.returns
returns c =
    let given = c.args.given.now in
    let operands = c.args.operands.now in
    let i = c.loop-place.place in
    let same = length-map operands value_of in
    sym (sym (ap (λ v. given_at c.args.number (steps.given (drop i given) v)) (drop-map value_of i operands) ∙ c.loop-place.invariant)
    ∙ given-none c.args.number given (key_of operands) i (elim (either (length given) i) [
      | inl le ↦ inl le
      | inr lt ↦ inr (omega (arith, lt, same, c.loop-place-test.false, c.min-place-end.ensures))
    ]))
