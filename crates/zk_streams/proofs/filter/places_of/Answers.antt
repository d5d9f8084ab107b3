use Rattle.std.proofs.Common.{◌≡◌, ◌++◌, ◌∷◌, [], take, sym, ap, ◌∙◌, arith}
use Rattle.zk_typed.specs.Logs.{all_columns}
use Rattle.zk_streams.proofs.PlaceLemmas.{all_columns-more}
use Rattle.zk_streams.proofs.filter.places_of.Goals as goal

pub loop-place-preserved : goal.loop-place-preserved
loop-place-preserved c =
    let same : c.in-Some.place ≡ c.loop-place.place = c.in-Some.ensures.some in
    c.in_ok-push.ensures.items ∙ ap (λ ps. ps ++ c.in-Some.place ∷ []) c.loop-place.invariant
    ∙ ap (λ p. all_columns 0 (take c.loop-place.place c.args.columns.now) ++ p ∷ []) same ∙ sym (all_columns-more c.args.columns.now c.loop-place.place (omega arith))
