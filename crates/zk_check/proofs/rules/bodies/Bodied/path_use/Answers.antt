use Rattle.std.proofs.Common.{◌≡◌, ap, ◌∙◌}
use Rattle.std.specs.declared.alloc.Global.{Global}
use Rattle.std.specs.declared.vec.Vec.{Vec}
use Rattle.zk_typed.specs.Errors.{path_use}
use Rattle.zk_scope.specs.Scripted.{scripts_in}
use Rattle.zk_check_declarations.specs.declared.paths.PathUse.{PathUse}
use Rattle.zk_check_declarations.specs.Paths.{uses_lent}
use Rattle.zk_check_declarations.specs.Uses.{filter_use}
use Rattle.zk_check_declarations.proofs.RoundLaws.{ok_map}
use Rattle.zk_check_declarations.proofs.UseLaws.{filter_is}
use Rattle.zk_check.proofs.rules.bodies.Bodied.path_use.Goals as goal

pub returns-in-AddFilter : goal.returns-in-AddFilter
returns-in-AddFilter c =
    let scripts = scripts_in c.args.self.now.valued.ground.names.now in
    let filter = c.in-AddFilter in
    ok_map
    (λ (uses : Vec PathUse Global). uses_lent uses.items ≡ filter_use scripts filter.log filter.path c.as_slice-in-AddFilter.result.now)
    (λ (uses : Vec PathUse Global). uses_lent uses.items ≡ path_use scripts c.args.one.now)
    c.filter_use.result
    (λ uses is. is ∙ ap (filter_use scripts filter.log filter.path) c.as_slice-in-AddFilter.ensures ∙ filter_is scripts c.args.one.now filter.log filter.name filter.path filter.policy filter.columns filter.is)
    c.filter_use.ensures
