use Rattle.std.proofs.Common.{◌≡◌, ◌∙◌}
use Rattle.std.specs.declared.alloc.Global.{Global}
use Rattle.std.specs.declared.vec.Vec.{Vec}
use Rattle.zk_typed.specs.Errors.{call_uses, path_use}
use Rattle.zk_scope.specs.Calls.{call_of}
use Rattle.zk_scope.specs.Scripted.{scripts_in}
use Rattle.zk_check_declarations.specs.declared.paths.PathUse.{PathUse}
use Rattle.zk_check_declarations.specs.Sources.{scripts_from}
use Rattle.zk_check_declarations.specs.Paths.{uses_lent}
use Rattle.zk_check_declarations.proofs.RoundLaws.{ok_map}
use Rattle.zk_check_declarations.proofs.UseLaws.{no_call_uses, one_call_uses}
use Rattle.zk_check.proofs.rules.bodies.Bodied.call_uses.Goals as goal

pub returns-in-Some : goal.returns-in-Some
returns-in-Some c =
    let scripts = scripts_in c.args.self.now.valued.ground.names.now in
    ok_map
    (λ (uses : Vec PathUse Global). uses_lent uses.items ≡ path_use scripts c.in-Some.one)
    (λ (uses : Vec PathUse Global). uses_lent uses.items ≡ call_uses scripts (call_of c.args.call.now))
    c.path_use.result
    (λ uses is. is ∙ one_call_uses scripts (scripts_from c.args.self.now.source.now) (call_of c.args.call.now) c.in-Some.one c.in_ok-found.found c.requires.same c.in_ok-found.ensures c.in-Some.is)
    c.path_use.ensures
