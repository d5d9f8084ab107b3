use Rattle.std.proofs.Common.{◌≤◌, nat_le, nat_lt, refl, ap, sym, ◌∙◌, arith}
use Rattle.zk_typed.specs.Resolving.{deeper}
use Rattle.zk_typed.specs.View.{type_of}
use Rattle.zk_scope.specs.Scripted.{scripts_in}
use Rattle.zk_check_declarations.specs.Heights.{type_fits}
use Rattle.zk_check_declarations.proofs.HeightLaws.{not_deeper}
use Rattle.zk_check_declarations.proofs.rising.field_fits.Goals as goal

pub returns-in-Ok : goal.returns-in-Ok
returns-in-Ok c = λ measures.
    let scripts = scripts_in c.args.names.now in
    let low : 199 ≤ 200 = omega arith in
    not_deeper 199 c.height.result (nat_le c.height.result 199) (deeper 199 scripts (type_of c.in-Ok.one)) refl (measures.deep 199 low (type_of c.in-Ok.one) ∙ ap (nat_lt 199) (sym c.height.ensures)) ∙
    sym (ap (type_fits scripts) c.in-Ok.ensures)
