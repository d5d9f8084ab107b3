use Rattle.std.proofs.Common.{◌≡◌, Option, Some, ap, ◌∙◌}
use Rattle.zk_base.specs.declared.numbers.ConnNo.{ConnNo}
use Rattle.zk_events.specs.Holding.{known_in}
use Rattle.zk_events.specs.Turns.{forgotten, subject, subject_of}
use Rattle.zk_events.proofs.MakingLemmas.{known-behind, none-forgotten, raised-in}
use Rattle.zk_events.proofs.turns.raise.Goals as goal

pub returns-in-Some-removal : goal.returns-in-Some-removal
returns-in-Some-removal c = λ program given world stands.
    let one = c.args.what.now in
    let known = known_in c.args.connections.now in
    let before = known_in c.objects_of.new.connections in
    let after = known_in c.forget.new.self in
    let held = c.in_ok-objects.ensures.held program given world stands in
    let renewed = c.in_ok-renew.ensures.ok program given _ held.1 in
    let raised = c.in_ok-raise_events.ensures program given _ renewed in
    let of : Some (subject c.in-Some.conn c.in-Some.facts.now) ≡ subject_of one = cc c.in-Some.ensures in
    let forgets = c.forget.ensures ∙ ap (λ (r : Option ConnNo). forgotten r before) c.in-Some-removal.ensures in (
      raised-in program known one world c.in-Some.conn c.in-Some.facts.now c.in_ok-objects.objects c.raise_events-2.new.machine given of held.0 raised,
      known-behind program known before after one world c.in-Some.conn c.in-Some.facts.now c.in_ok-objects.objects of held.0 c.in_ok-objects.ensures.known forgets,
    )

pub returns-in_default-removal : goal.returns-in_default-removal
returns-in_default-removal c = λ program given world stands.
    let one = c.args.what.now in
    let known = known_in c.args.connections.now in
    let before = known_in c.objects_of.new.connections in
    let held = c.in_ok-objects.ensures.held program given world stands in
    let renewed = c.in_ok-renew.ensures.ok program given _ held.1 in
    let raised = c.in_ok-raise_events.ensures program given _ renewed in
    let of : Some (subject c.in-Some.conn c.in-Some.facts.now) ≡ subject_of one = cc c.in-Some.ensures in
    let forgets = none-forgotten one before c.removal.result c.removal.ensures c.in_default-removal.not-Some in (
      raised-in program known one world c.in-Some.conn c.in-Some.facts.now c.in_ok-objects.objects c.raise_events-2.new.machine given of held.0 raised,
      known-behind program known before before one world c.in-Some.conn c.in-Some.facts.now c.in_ok-objects.objects of held.0 c.in_ok-objects.ensures.known forgets,
    )
