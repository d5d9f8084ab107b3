use Rattle.std.proofs.Common.{rules, ◌≡◌, None, Some, sym, ap, ◌∙◌}
use Rattle.std.specs.Option.{option_map}
use Rattle.zk_machine.proofs.DueLemmas.{index_alike, turn_due}
use Rattle.zk_machine.proofs.world.World.event_due.Goals as goal

pub returns-in-Some-clause-first : goal.returns-in-Some-clause-first
returns-in-Some-clause-first c =
    let is : c.first.result ≡ Some (c.in-Some.at, c.in-Some.order) = search rules in
    ap (option_map turn_due) (sym is ∙ c.first.ensures.first) ∙ index_alike c.args.self.now.schedule.events

pub returns-in-None-clause-first : goal.returns-in-None-clause-first
returns-in-None-clause-first c =
    let is : c.first.result ≡ None = search rules in
    ap (option_map turn_due) (sym is ∙ c.first.ensures.first) ∙ index_alike c.args.self.now.schedule.events
