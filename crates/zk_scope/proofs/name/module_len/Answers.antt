use Rattle.std.proofs.Common.{◌≡◌, ◌-◌, ℕ, List, length, take, drop, codes, nat_eq, false, ap, sym, ◌∙◌, arith, length-drop}
use Rattle.std.proofs.Math.Seq.{take-length}
use Rattle.std.specs.List.{starts_with}
use Rattle.zk_scope.proofs.NameLaws.{read_on}
use Rattle.zk_scope.proofs.name.module_len.Goals as goal

pub loop-at-preserved : goal.loop-at-preserved
loop-at-preserved c =
    let name = c.args.name.now in
    let at = c.loop-at.at - 1 in
    let whole : take (length name - at) (drop at name) ≡ drop at name = ap (λ (n : ℕ). take n (drop at name)) (sym (length-drop at name)) ∙ take-length (drop at name) in
    let plain : starts_with nat_eq (drop at name) (codes "::") ≡ false =
    ap (λ (x : List ℕ). starts_with nat_eq x (codes "::")) (sym whole) ∙ sym c.starts_with.ensures.value ∙ c.if-starts_with.false in
    read_on name c.loop-at.at c.loop-at-test.true (omega arith) plain c.loop-at.invariant
