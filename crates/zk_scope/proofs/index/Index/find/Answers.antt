use Rattle.std.proofs.Common.{Bool, Some, None, ap, sym, ◌∙◌}
use Rattle.zk_scope.proofs.IndexLaws.{slot_place, slot_told}
use Rattle.zk_scope.proofs.index.Index.find.Goals as goal

pub returns-in_err-slot : goal.returns-in_err-slot
returns-in_err-slot c = λ names indexed.
    c.from_residual.ensures ∙ slot_told names c.args.name.now c.args.anywhere None (c.in_err-slot.ensures.value ∙ indexed c.args.name.now)

pub returns-then-anywhere : goal.returns-then-anywhere
returns-then-anywhere c = λ names indexed.
    ap (λ (b : Bool). slot_place b c.in_ok-slot.slot.now) (sym c.if-anywhere.true) ∙
    slot_told names c.args.name.now c.args.anywhere (Some c.in_ok-slot.slot.now) (c.in_ok-slot.ensures.value ∙ indexed c.args.name.now)

pub returns-else-anywhere : goal.returns-else-anywhere
returns-else-anywhere c = λ names indexed.
    ap (λ (b : Bool). slot_place b c.in_ok-slot.slot.now) (sym c.if-anywhere.false) ∙
    slot_told names c.args.name.now c.args.anywhere (Some c.in_ok-slot.slot.now) (c.in_ok-slot.ensures.value ∙ indexed c.args.name.now)
