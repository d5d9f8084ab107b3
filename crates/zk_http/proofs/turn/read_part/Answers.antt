use Rattle.std.proofs.Common.{◌++◌, take, sym, ap, subst, ◌∙◌, true, false}
use Rattle.std.proofs.lemmas.List.{append-nil}
use Rattle.zk_http.specs.Turns.{places_of}
use Rattle.zk_http.proofs.DataLaws.{goes_on_with, part_gives}
use Rattle.zk_http.proofs.turn.read_part.Goals as goal

pub returns-then-is_data-clause-content : goal.returns-then-is_data-clause-content
returns-then-is_data-clause-content g c knows =
    goes_on_with c.args.reading.part (places_of c.args.bytes.now) c.read_bytes-turn.result (c.read_bytes-turn.ensures.content knows)

pub returns-then-is_data-clause-given : goal.returns-then-is_data-clause-given
returns-then-is_data-clause-given g c knows before held =
    let turn = c.read_bytes-turn.result in
    let bytes = c.args.bytes.now in
    let given = part_gives c.args.reading.part bytes turn true (sym c.is_data.ensures ∙ c.if-is_data.true) (c.read_bytes-turn.ensures.content knows) in
    subst (λ given. g.B.Body.stands_for c.add.new.self (before ++ given)) (ap (λ n. take n bytes) c.places.ensures ∙ sym given)
    (c.add.ensures.added before held)

pub returns-else-is_data-clause-content : goal.returns-else-is_data-clause-content
returns-else-is_data-clause-content g c knows =
    goes_on_with c.args.reading.part (places_of c.args.bytes.now) c.read_bytes-turn.result (c.read_bytes-turn.ensures.content knows)

pub returns-else-is_data-clause-given : goal.returns-else-is_data-clause-given
returns-else-is_data-clause-given g c knows before held =
    let turn = c.read_bytes-turn.result in
    let bytes = c.args.bytes.now in
    let given = part_gives c.args.reading.part bytes turn false (sym c.is_data.ensures ∙ c.if-is_data.false) (c.read_bytes-turn.ensures.content knows) in
    subst (λ all. g.B.Body.stands_for c.args.body.now all) (sym (append-nil before) ∙ ap (λ given. before ++ given) (sym given)) held
