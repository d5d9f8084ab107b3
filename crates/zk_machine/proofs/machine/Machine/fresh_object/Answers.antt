use Rattle.std.proofs.Common.{rules, ◌≡◌, ℕ, List, refl, sym, ap, ◌∙◌}
use Rattle.zk_lower.specs.Code.{Code, types_in}
use Rattle.zk_lower.specs.Lowering.{lowered}
use Rattle.zk_lower.specs.View as lower
use Rattle.zk_typed.specs.State.{World, with_store}
use Rattle.zk_value.specs.declared.value.Value as rust
use Rattle.zk_machine.specs.Made.{Fresh, fresh, given_of}
use Rattle.zk_machine.proofs.machine.Machine.fresh_object.Goals as goal

pub returns-clause-number : goal.returns-clause-number
returns-clause-number c = λ program given world stands.
    let kind = c.args.kind in
    let fields = c.deref.result.now in
    let lent : fields ≡ c.args.fields.items = search rules in
    let typed : lower.code_of c.code.result.now ≡ lowered program = c.code.ensures ∙ stands.code in
    let made = ap (λ (fields : List (ℕ × rust.Value)). fresh program kind (given_of fields) world) (sym lent) ∙ (ap (λ (code : Code). fresh (types_in code) kind (given_of fields) world) (sym typed) ∙ c.in_ok-number.ensures.fresh world (ap (λ (world : World). world.store) stands.comes)) in
    ap (λ (one : Fresh). one.number) (sym made)

pub returns-clause-stands : goal.returns-clause-stands
returns-clause-stands c = λ program given world stands.
    let kind = c.args.kind in
    let fields = c.deref.result.now in
    let lent : fields ≡ c.args.fields.items = search rules in
    let typed : lower.code_of c.code.result.now ≡ lowered program = c.code.ensures ∙ stands.code in
    let made = ap (λ (fields : List (ℕ × rust.Value)). fresh program kind (given_of fields) world) (sym lent) ∙ (ap (λ (code : Code). fresh (types_in code) kind (given_of fields) world) (sym typed) ∙ c.in_ok-number.ensures.fresh world (ap (λ (world : World). world.store) stands.comes)) in
    record {
      code = stands.code;
      comes = ap (λ (one : Fresh). one.world) made ∙ ap (with_store c.fresh.new.heap.objects) stands.comes;
      works = refl;
    }
