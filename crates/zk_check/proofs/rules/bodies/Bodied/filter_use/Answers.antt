use Rattle.std.proofs.Common.{◌≡◌, map, ap, ◌∙◌}
use Rattle.std.specs.declared.alloc.Global.{Global}
use Rattle.std.specs.declared.vec.Vec.{Vec}
use Rattle.zk_scope.specs.Leaves.{leaves_lent}
use Rattle.zk_scope.specs.Scripted.{scripts_in}
use Rattle.zk_check_declarations.specs.declared.paths.PathUse.{PathUse}
use Rattle.zk_check_declarations.specs.Paths.{uses_lent}
use Rattle.zk_check_declarations.specs.Uses.{filter_use, paths_of, streams_lent, use_with}
use Rattle.zk_check_declarations.proofs.RoundLaws.{ok_map}
use Rattle.zk_check_declarations.proofs.UseLaws.{filter_streams}
use Rattle.zk_check.proofs.rules.bodies.Bodied.filter_use.Goals as goal

pub returns : goal.returns
returns c =
    let scripts = scripts_in c.args.self.now.valued.ground.names.now in
    let leaves = leaves_lent c.deref-in-None.result.now in
    let streams = streams_lent c.args.self.now.streams.now in
    ok_map
    (λ (uses : Vec PathUse Global). uses_lent uses.items ≡ map (use_with leaves c.args.columns.now) (paths_of c.args.number streams))
    (λ (uses : Vec PathUse Global). uses_lent uses.items ≡ filter_use scripts c.args.number c.args.path.now c.args.columns.now)
    c.stream_uses.result
    (λ uses is. is ∙ filter_streams scripts c.args.number c.args.path.now c.args.columns.now streams leaves c.in-None.is c.requires.streams (ap leaves_lent c.deref-in-None.ensures.value ∙ c.in_ok-leaves.ensures))
    c.stream_uses.ensures
