use Rattle.std.proofs.Common.{◌∙◌, ◌&&◌, ◌==◌, ap, sym, arith, Bool, not, length}
use Rattle.std.proofs.lemmas.List.{take_rest}
use Rattle.zk_dns.proofs.DataLemmas.{strings-cut, strings-end, strings-next}
use Rattle.zk_dns.proofs.data.are_strings.Goals as goal

pub returns-then-behind-len : goal.returns-then-behind-len
returns-then-behind-len c =
    let cut = c.loop-len.invariant ∙ strings-cut _ _ _ c.in-Some.ensures.cases.0 (omega arith) in
    sym (ap (λ (found : Bool). found && not (length c.args.bytes.now == 0)) cut)

pub loop-len-preserved : goal.loop-len-preserved
loop-len-preserved c =
    rw (take_rest, c.from-len.ensures) (c.loop-len.invariant ∙ strings-next _ _ _ c.in-Some.ensures.cases.0 (omega arith))

pub returns : goal.returns
returns c =
    let end = c.loop-len.invariant ∙ strings-end _ c.in_default.ensures.cases in
    ap not c.is_empty.ensures ∙ sym (ap (λ (found : Bool). found && not (length c.args.bytes.now == 0)) end)
