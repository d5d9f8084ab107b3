use Rattle.std.proofs.Common.{◌≡◌, Ok, ap, sym, ◌∙◌}
use Rattle.zk_typed.specs.View.{type_of}
use Rattle.zk_check_expressions.specs.Envs.{global_of}
use Rattle.zk_check_declarations.proofs.RoundLaws.{on_true}
use Rattle.zk_check_declarations.proofs.SameLaws.{same_type_is}
use Rattle.zk_check_declarations.proofs.rounds.same_global.Goals as goal

pub returns-in-Known-b : goal.returns-in-Known-b
returns-in-Known-b c =
    on_true c.same_type.result (global_of c.args.a.now ≡ global_of c.args.b.now) (λ same.
    ap global_of c.in-Known.is ∙ ap Ok (same_type_is (type_of c.in-Known.one) (type_of c.in-Known-b.other) (sym c.same_type.ensures ∙ same)) ∙ sym (ap global_of c.in-Known-b.is))
