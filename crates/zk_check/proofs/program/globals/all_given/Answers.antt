use Rattle.std.proofs.Common.{◌+◌, ◌++◌, List, drop, map, sym, ap, ◌∙◌, arith}
use Rattle.zk_typed.specs.Declarations.{ValueGiven}
use Rattle.zk_typed.specs.Programs as spec
use Rattle.zk_typed.specs.View.{expr_of, type_of}
use Rattle.zk_check_declarations.specs.Sources.{scripts_from}
use Rattle.zk_check_declarations.specs.Valuing.{given_lent, given_of}
use Rattle.zk_check.proofs.GivenLaws.{lent_first}
use Rattle.zk_check.proofs.program.globals.all_given.Goals as goal

pub loop-value-preserved : goal.loop-value-preserved
loop-value-preserved c =
    let given = c.args.given.now in
    let index = c.loop-value.value-index in
    c.in_ok-add_value.ensures (drop (index + 1) (given_lent given))
    ∙ ap (λ (rest : List ValueGiven). map expr_of c.loop-value.all.items ++ spec.all_given (scripts_from c.args.source.now) (type_of c.args.one.now) rest) (sym (lent_first given_of given index c.value-item.result (omega arith) c.value-item.is))
    ∙ c.loop-value.invariant
