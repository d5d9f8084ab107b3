use Rattle.std.proofs.Common.{◌++◌, get_or, slice_get, ap, sym, ◌∙◌}
use Rattle.zk_scope.specs.Leaves.{leaves_lent}
use Rattle.zk_check_declarations.specs.Uses.{if_there}
use Rattle.zk_check_declarations.proofs.UseLaws.{picked_turn}
use Rattle.zk_check_declarations.proofs.logging.picked.Goals as goal

pub loop-place-preserved : goal.loop-place-preserved
loop-place-preserved c =
    c.in_ok-add_picked.ensures ∙
    ap (λ made. made ++ if_there (slice_get (leaves_lent c.args.leaves.now) (get_or c.args.places.now c.loop-place.place-index 0))) c.loop-place.invariant ∙
    sym (picked_turn (leaves_lent c.args.leaves.now) c.args.places.now c.loop-place.place-index c.loop-place-test.true)
