use Rattle.std.proofs.Common.{◌≡◌, true, false, [], ◌∷◌, ◌++◌, map, take, ap, sym, ◌∙◌, append-nil}
use Rattle.std.proofs.lemmas.List.{map-append}
use Rattle.std.specs.declared.alloc.Global.{Global}
use Rattle.std.specs.declared.vec.Vec.{Vec}
use Rattle.zk_scope.specs.Leaves.{leaves_lent}
use Rattle.zk_check_declarations.specs.declared.paths.PathUse.{PathUse}
use Rattle.zk_check_declarations.specs.Paths.{use_of, uses_lent}
use Rattle.zk_check_declarations.specs.Uses.{paths_of, streams_lent, use_with}
use Rattle.zk_check_declarations.proofs.UseLaws.{streams_turn}
use Rattle.zk_check_declarations.proofs.logging.stream_uses.Goals as goal
use Rattle.zk_check_declarations.proofs.logging.stream_uses.Goals.{then-eq+in_ok-made+in_ok-push, else-eq}

pub loop-one-preserved : goal.loop-one-preserved
loop-one-preserved c =
    let leaves = leaves_lent c.args.leaves.now in
    let places = c.args.places.now in
    let before = map (use_with leaves places) (paths_of c.args.number (streams_lent (take c.loop-one.one-index c.args.streams.now))) in
    elim c.if-eq.branch [
      | then-eq+in_ok-made+in_ok-push w ↦
          ap (λ (uses : Vec PathUse Global). uses_lent uses.items) w.uses-is ∙ ap uses_lent w.in_ok-push.ensures.items ∙ map-append use_of c.loop-one.uses.items (w.in_ok-made.made ∷ []) ∙
          ap (λ uses. uses ++ use_of w.in_ok-made.made ∷ []) c.loop-one.invariant ∙ ap (λ last. before ++ last ∷ []) (w.in_ok-made.ensures ∙ ap (use_with leaves places) w.as_slice.ensures) ∙
          sym (streams_turn c.args.number leaves places c.args.streams.now c.loop-one.one-index c.one-item.result true c.loop-one-test.true c.one-item.is (sym w.if-eq.true ∙ c.eq.ensures))
      | else-eq w ↦
          ap (λ (uses : Vec PathUse Global). uses_lent uses.items) w.uses-is ∙ c.loop-one.invariant ∙ sym (append-nil before) ∙
          sym (streams_turn c.args.number leaves places c.args.streams.now c.loop-one.one-index c.one-item.result false c.loop-one-test.true c.one-item.is (sym w.if-eq.false ∙ c.eq.ensures))
    ]
