use Rattle.std.proofs.Common.{◌∷◌, [], ◌++◌, sym, subst, ◌∙◌}
use Rattle.std.proofs.lemmas.Result.{err_from_is_err_and}
use Rattle.zk_events.specs.Run.{Begun}
use Rattle.zk_top.specs.declared.replay.Replay.{Replay}
use Rattle.zk_top.specs.Replay.{After, Comes, HasFlooded, items_in}
use Rattle.zk_top.proofs.ItemLemmas.{prefix_next}
use Rattle.zk_top.proofs.Playing.{plays_given}
use Rattle.zk_top.proofs.Replaying.{part_further}
use Rattle.zk_top.proofs.replay.Replay.take_items.Goals as goal

pub returns-in_err-end-clause-stopped : goal.returns-in_err-end-clause-stopped
returns-in_err-end-clause-stopped g c =
    let new = g.S.Shelf.outside c.take_item.new.shelf in
    let item = c.in-Some.item in
    let p = err_from_is_err_and c.from_residual.result c.from_residual.ensures.1 in
    rw (p.1, p.2) (λ first plan packets given ended comes.
    let (more, far) = c.items.invariant.comes first plan packets given ended comes in
    let all = items_in plan packets ended in
    part_further c.lines_stay.ensures.items plan.program plan.budget (more ++ item ∷ []) all first c.in_err-end.field-0.0 new
    (prefix_next more all item far.begins (c.in-Some.ensures.item _ far.traffic))
    (c.in_err-end.ensures.stopped first plan.program plan.budget more far.plays))

pub returns-in-Flood-clause-after : goal.returns-in-Flood-clause-after
returns-in-Flood-clause-after g c first plan packets given ended comes =
    let new = g.S.Shelf.outside c.take_item.new.shelf in
    let item = c.in-Some.item in
    let (more, far) = c.items.invariant.comes first plan packets given ended comes in
    let all = items_in plan packets ended in
    let stage = Begun (more ++ item ∷ []) in
    let flooded : HasFlooded first plan packets ended c.in-Flood.moment (record { traffic = c.next.new.self; player = c.take_item.new.self }) new =
    record {
      given = more ++ item ∷ [];
      begins = prefix_next more all item far.begins (c.in-Some.ensures.item _ far.traffic);
      floods = sym c.in-Flood.is ∙ c.in_ok-end.ensures.end first plan.program plan.budget more far.plays;
      gives = plays_given first plan.program plan.budget stage c.take_item.new.self new (c.in_ok-end.ensures.plays first plan.program plan.budget more far.plays);
    } in
    subst (λ end. After first plan packets ended end (record { traffic = c.next.new.self; player = c.take_item.new.self }) new) (sym c.in-Flood.is) flooded

pub items-preserved : goal.items-preserved
items-preserved g c =
    let item = c.in-Some.item in
    record {
      comes = λ first plan packets given ended comes.
          let (more, far) = c.items.invariant.comes first plan packets given ended comes in
          let all = items_in plan packets ended in (
            more ++ item ∷ [],
            record {
              link = far.link;
              traffic = c.in-Some.ensures.given _ far.traffic;
              begins = prefix_next more all item far.begins (c.in-Some.ensures.item _ far.traffic);
              plays = c.in_ok-end.ensures.plays first plan.program plan.budget more far.plays;
            },
          );
      ready = c.in_ok-end.ensures.ready;
      input = (c.in_ok-end.ensures.input.0 ∙ c.items.invariant.input.0, c.in_ok-end.ensures.input.1 ∙ c.items.invariant.input.1);
    }

pub returns-clause-after : goal.returns-clause-after
returns-clause-after g c first plan packets given ended comes =
    let now = g.S.Shelf.outside c.items.shelf in
    let (more, far) = c.items.invariant.comes first plan packets given ended comes in
    let (all, stands) = c.in_default.ensures.none _ far.traffic in
    let after : Replay = record { traffic = c.next.new.self; player = c.items.self.player } in
    let here : Comes first plan packets more ended (Begun more) after now = record { link = far.link; traffic = stands; begins = far.begins; plays = far.plays } in
    subst (λ items. Comes first plan packets items ended (Begun items) after now) all here
