use Rattle.std.proofs.Common.{◌≤◌, ◌≢◌, ℕ, List, length, slice_index, true, false, refl, sym, ◌∙◌, arith}
use Rattle.std.proofs.lemmas.List.{get_or_past}
use Rattle.zk_token.proofs.FaultLaws.{string_refused}
use Rattle.zk_token.proofs.ItemLaws.{string_closed}
use Rattle.zk_token.proofs.strings.string.Goals as goal
use Rattle.zk_token.proofs.strings.string.Goals.{else-end-text-via-then-end-text+else-text-end-eq34, else-end-text-via-else-end-text}

-- no quote stands behind the end
past : (text : List ℕ) (end : ℕ) → length text ≤ end → slice_index text end ≢ 34
past text end h quote = omega (arith, get_or_past text end 0 h, quote)

pub returns-then-text-end-eq34-clause-exact : goal.returns-then-text-end-eq34-clause-exact
returns-then-text-end-eq34-clause-exact c =
    let found = c.in_ok-bytes.ensures in
    rw c.from.ensures (rw (sym (string_closed c.args.text.now c.in_ok-bytes.bytes.items c.in_ok-bytes.end found.stand found.no_more
    (omega (arith, found.few, found.within)) c.if-text-end-eq34.true)) refl)

pub returns-then-closes-clause-exact : goal.returns-then-closes-clause-exact
returns-then-closes-clause-exact c =
    let text = c.args.text.now in
    let found = c.in_ok-bytes.ensures in
    let other : slice_index text c.in_ok-bytes.end ≢ 34 =
    elim c.else-end-text.branch [
      | else-end-text-via-then-end-text+else-text-end-eq34 w ↦ w.if-text-end-eq34.false
      | else-end-text-via-else-end-text w ↦ past text c.in_ok-bytes.end w.if-end-text.false
    ] in
    string_refused c.args.place text c.in_ok-bytes.bytes.items c.in_ok-bytes.end true found.stand found.no_more (omega (arith, found.few, found.within)) other
    (sym c.if-closes.true ∙ c.closes.ensures)

pub returns-clause-exact : goal.returns-clause-exact
returns-clause-exact c =
    let text = c.args.text.now in
    let found = c.in_ok-bytes.ensures in
    let other : slice_index text c.in_ok-bytes.end ≢ 34 =
    elim c.else-end-text.branch [
      | else-end-text-via-then-end-text+else-text-end-eq34 w ↦ w.if-text-end-eq34.false
      | else-end-text-via-else-end-text w ↦ past text c.in_ok-bytes.end w.if-end-text.false
    ] in
    string_refused c.args.place text c.in_ok-bytes.bytes.items c.in_ok-bytes.end false found.stand found.no_more (omega (arith, found.few, found.within)) other
    (sym c.if-closes.false ∙ c.closes.ensures)
