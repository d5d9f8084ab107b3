use Rattle.std.proofs.Common.{◌≡◌, ◌+◌, ◌-◌, ap, ◌∙◌, arith, cond}
use Rattle.zk_http.specs.declared.state.Part.TheVariants.{Chunk, Return}
use Rattle.zk_http.specs.declared.state.Reading.{Reading}
use Rattle.zk_http.proofs.DataLaws.{chunk_ends, chunk_goes_on}
use Rattle.zk_http.proofs.TurnLaws.{chunk_goes, chunk_turn}
use Rattle.zk_http.proofs.turn.in_chunk.Goals as goal

pub returns-then-left-count-clause-turn : goal.returns-then-left-count-clause-turn
returns-then-left-count-clause-turn c places told count alike =
    let reading = c.args.reading in
    let new_is : c.at.result ≡ record { part = Return; header = reading.header; body = reading.body + c.args.left; gap = reading.gap + cond c.args.is_gap c.args.left 0 } =
    c.at.ensures ∙ ap (λ (now : Reading). record { part = Return; header = now.header; body = now.body; gap = now.gap }) c.behind.ensures
    ∙ ap (λ gap. record { part = Return; header = reading.header; body = reading.body + c.args.left; gap = reading.gap + gap }) c.gaps_in.ensures in
    chunk_goes reading c.at.result c.args.left c.args.is_gap places c.requires.is alike (omega arith) new_is

pub returns-clause-turn : goal.returns-clause-turn
returns-clause-turn c places told count alike =
    let reading = c.args.reading in
    let new_is : c.at-2.result ≡ record {
      part = Chunk (c.args.left - c.args.count);
      header = reading.header;
      body = reading.body + c.args.count;
      gap = reading.gap + cond c.args.is_gap c.args.count 0;
    } =
    c.at-2.ensures ∙ ap (λ (now : Reading). record { part = Chunk (c.args.left - c.args.count); header = now.header; body = now.body; gap = now.gap }) c.behind-2.ensures
    ∙ ap (λ gap. record { part = Chunk (c.args.left - c.args.count); header = reading.header; body = reading.body + c.args.count; gap = reading.gap + gap }) c.gaps_in-2.ensures in
    chunk_turn reading c.at-2.result told c.args.left c.args.count c.args.is_gap places c.requires.is alike count (omega arith) new_is

pub returns-then-left-count-clause-content : goal.returns-then-left-count-clause-content
returns-then-left-count-clause-content c places count =
    chunk_ends c.args.reading.part c.at.result.part c.args.left places c.requires.is (omega arith) (ap (λ (reading : Reading). reading.part) c.at.ensures)

pub returns-clause-content : goal.returns-clause-content
returns-clause-content c places count =
    chunk_goes_on c.args.reading.part c.at-2.result.part c.args.left c.args.count places c.requires.is count (omega arith)
    (ap (λ (reading : Reading). reading.part) c.at-2.ensures)
