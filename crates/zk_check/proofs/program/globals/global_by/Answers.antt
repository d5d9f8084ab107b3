use Rattle.std.proofs.Common.{map, ap, ◌∙◌}
use Rattle.std.specs.Option.{option_map}
use Rattle.zk_scope.specs.Lent.{home_of}
use Rattle.zk_typed.specs.View.{expr_of, type_of}
use Rattle.zk_check_declarations.specs.Sources.{scripts_from}
use Rattle.zk_check_declarations.specs.Valuing.{given_lent}
use Rattle.zk_check.proofs.ProgramLaws.{global_parts}
use Rattle.zk_check.proofs.program.globals.global_by.Goals as goal

pub returns : goal.returns
returns c =
    let scripts = scripts_from c.args.source.now in
    global_parts scripts c.args.number (home_of c.args.home) c.args.attrs.now c.args.place (type_of c.in_ok-global_type.global_type) (option_map expr_of c.in_ok-initial.initial) (map expr_of c.from.result)
    c.in_ok-expiry.expiry c.in_ok-expire_func.expire_func (given_lent c.args.given.now) c.in_ok-global_type.ensures c.in_ok-initial.ensures (ap (map expr_of) c.from.ensures ∙ c.in_ok-added.ensures)
    (c.in_ok-expiry.ensures scripts) c.in_ok-expire_func.ensures
