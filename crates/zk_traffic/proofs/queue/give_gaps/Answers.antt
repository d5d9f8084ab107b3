use Rattle.std.proofs.Common.{◌∷◌, ◌++◌, [], get_or, map, take, sym, ap, ◌∙◌, append_assoc}
use Rattle.std.proofs.lemmas.List.{map-append, take_more}
use Rattle.zk_base.specs.declared.network.Side.TheVariants.{Orig}
use Rattle.zk_traffic.specs.declared.news.Gap.{Gap}
use Rattle.zk_traffic.specs.Queue.{gap_item}
use Rattle.zk_traffic.specs.Waiting.{items_in}
use Rattle.zk_traffic.proofs.queue.give_gaps.Goals as goal

no_gap : Gap
no_gap = record { side = Orig; from = 0; length = 0 }

pub loop-gap-preserved : goal.loop-gap-preserved
unfolding no_gap
loop-gap-preserved c = λ known knows.
    let f = gap_item c.args.t c.args.conn known in
    let gap = get_or c.args.gaps.now c.loop-gap.gap-index no_gap in
    c.in_ok-give_gap.ensures known knows
    ∙ ap (λ l. l ++ f gap ∷ []) (c.loop-gap.invariant known knows)
    ∙ append_assoc (items_in c.args.items.now) (map f (take c.loop-gap.gap-index c.args.gaps.now)) (f gap ∷ [])
    ∙ ap (λ l. items_in c.args.items.now ++ l) (sym (map-append f (take c.loop-gap.gap-index c.args.gaps.now) (gap ∷ [])))
    ∙ ap (λ l. items_in c.args.items.now ++ map f l) (sym (take_more c.args.gaps.now c.loop-gap.gap-index no_gap c.loop-gap-test.true))
