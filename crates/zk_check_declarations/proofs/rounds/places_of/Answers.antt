use Rattle.std.proofs.Common.{ℕ, List, [], ◌∷◌, ◌++◌, ap, ◌∙◌, if◌then◌else◌}
use Rattle.zk_typed.specs.Typing.{is_variable}
use Rattle.zk_scope.specs.Lent.{declared_of}
use Rattle.zk_scope.proofs.PassingLaws.{one_more_passing}
use Rattle.zk_check_declarations.proofs.rounds.places_of.Goals as goal

pub loop-place-preserved : goal.loop-place-preserved
loop-place-preserved c =
    c.in_ok-add_place.ensures ∙ ap (λ (x : List ℕ). x ++ (if is_variable (declared_of c.index-declared-place.result) then c.loop-place.place ∷ [] else [])) c.loop-place.invariant ∙
    one_more_passing declared_of is_variable c.args.declared.now c.loop-place.place c.index-declared-place.result c.loop-place-test.true c.index-declared-place.is
