use Rattle.std.proofs.Common.{filter, ap, ◌∙◌}
use Rattle.zk_typed.specs.Programs.{first_or, function_of, no_function}
use Rattle.zk_typed.specs.Typing.{is_function}
use Rattle.zk_check.specs.Functions.{function_among}
use Rattle.zk_check_declarations.specs.Sources.{scripts_from}
use Rattle.zk_check.proofs.ProgramLaws.{map_same}
use Rattle.zk_check.proofs.program.functions.all_functions.Goals as goal

pub returns : goal.returns
returns c =
    let scripts = scripts_from c.args.source.now in
    c.in_ok-all.ensures
    ∙ map_same (function_among scripts c.in_ok-bodies.bodies) (function_of scripts) (λ one. ap (first_or no_function) (c.in_ok-bodies.ensures one)) (filter is_function scripts.names)
