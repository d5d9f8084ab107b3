use Rattle.std.proofs.Common.{get_or, arith}
use Rattle.std.proofs.lemmas.Option.{slice_get-get_or}
use Rattle.zk_scope.specs.Scripted.{scripts_in}
use Rattle.zk_check_declarations.proofs.RoundLaws.{told_after, told_as}
use Rattle.zk_check_declarations.proofs.rounds.tell.Goals as goal

pub returns : goal.returns
returns c = λ round are before.
    let scripts = scripts_in c.args.scripts.now.names in
    told_after scripts round c.args.number c.args.types.now.items c.in_ok-made.made (omega arith)
    (told_as scripts c.args.types.now.items c.as_slice.result.now c.args.places.now c.args.number (get_or c.args.places.now c.args.number 0) c.in_ok-made.made c.as_slice.ensures.value are
    (slice_get-get_or c.args.places.now c.args.number 0 (omega arith)) c.in_ok-made.ensures) before
