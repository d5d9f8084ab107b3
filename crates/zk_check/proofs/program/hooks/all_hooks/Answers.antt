use Rattle.std.proofs.Common.{List, [], filter, ap, ◌∙◌}
use Rattle.zk_typed.specs.Program.{Hook, HookBody}
use Rattle.zk_typed.specs.Programs.{checked_or, hook_of, signature_of}
use Rattle.zk_typed.specs.Resolving.{params_of}
use Rattle.zk_typed.specs.Typing.{is_hook}
use Rattle.zk_check.specs.Hooks.{hook_among}
use Rattle.zk_check_declarations.specs.Sources.{scripts_from}
use Rattle.zk_check.proofs.ProgramLaws.{map_same}
use Rattle.zk_check.proofs.program.hooks.all_hooks.Goals as goal

pub returns : goal.returns
returns c =
    let scripts = scripts_from c.args.source.now in
    c.in_ok-all.ensures
    ∙ map_same (hook_among scripts c.in_ok-bodies.bodies) (hook_of scripts)
    (λ one. ap (λ (bodies : List HookBody). record { params = checked_or [] (params_of scripts (signature_of one)); bodies = bodies }) (c.in_ok-bodies.ensures one)) (filter is_hook scripts.names)
