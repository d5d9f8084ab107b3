use Rattle.std.proofs.Common.{◌≡◌, ◌+◌, ◌-◌, ap, ◌∙◌, arith, cond}
use Rattle.zk_http.specs.declared.state.Part.TheVariants.{Places}
use Rattle.zk_http.specs.declared.state.Reading.{Reading}
use Rattle.zk_http.specs.declared.units.UnitKind.TheVariants.{Done}
use Rattle.zk_http.proofs.DataLaws.{places_end, places_go_on}
use Rattle.zk_http.proofs.TurnLaws.{places_show, places_turn, shows_as}
use Rattle.zk_http.proofs.turn.in_places.Goals as goal

pub returns-then-left-count-clause-turn : goal.returns-then-left-count-clause-turn
returns-then-left-count-clause-turn c places told count alike =
    let reading = c.args.reading in
    let kind : c.done.result ≡ Done (reading.body + c.args.left) reading.header (reading.gap + cond c.args.is_gap c.args.left 0) =
    c.done.ensures ∙ ap (λ (now : Reading). Done now.body now.header now.gap) c.behind.ensures
    ∙ ap (λ gap. Done (reading.body + c.args.left) reading.header (reading.gap + gap)) c.gaps_in.ensures in
    shows_as reading told c.args.left _ c.done.result places kind
    (places_show reading told c.args.left c.args.is_gap places c.requires.is alike (omega arith))

pub returns-clause-turn : goal.returns-clause-turn
returns-clause-turn c places told count alike =
    let reading = c.args.reading in
    let new_is : c.at.result ≡ record {
      part = Places (c.args.left - c.args.count);
      header = reading.header;
      body = reading.body + c.args.count;
      gap = reading.gap + cond c.args.is_gap c.args.count 0;
    } =
    c.at.ensures ∙ ap (λ (now : Reading). record { part = Places (c.args.left - c.args.count); header = now.header; body = now.body; gap = now.gap }) c.behind-2.ensures
    ∙ ap (λ gap. record { part = Places (c.args.left - c.args.count); header = reading.header; body = reading.body + c.args.count; gap = reading.gap + gap }) c.gaps_in-2.ensures in
    places_turn reading c.at.result told c.args.left c.args.count c.args.is_gap places c.requires.is alike count (omega arith) new_is

pub returns-then-left-count-clause-content : goal.returns-then-left-count-clause-content
returns-then-left-count-clause-content c places count = places_end c.args.reading.part c.args.left places c.requires.is (omega arith)

pub returns-clause-content : goal.returns-clause-content
returns-clause-content c places count =
    places_go_on c.args.reading.part c.at.result.part c.args.left c.args.count places c.requires.is count (omega arith)
    (ap (λ (reading : Reading). reading.part) c.at.ensures)
