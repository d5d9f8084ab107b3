use Rattle.std.proofs.Common.{flat_map, arith, length-append}
use Rattle.zk_text.specs.Escape.{byte_text, piece}
use Rattle.zk_text.proofs.EscapeLaws.{length-byte_texts}
use Rattle.zk_text.proofs.escapes.escaped_len.Goals as goal
use Rattle.zk_text.proofs.escapes.escaped_len.Goals.{then-first_escaped, else-first_escaped}

pub returns : goal.returns
returns c first =
    let rest = length-byte_texts c.args.in_set c.args.rest.now in
    let whole = length-append (piece c.args.first_escaped first) (flat_map (byte_text c.args.in_set) c.args.rest.now) in
    rw whole (elim c.if-first_escaped.branch [
      | then-first_escaped w ↦ rw (w.if-first_escaped.true) (omega (arith, rest, w.first_len-is, c.escapes_in-escapes.ensures.exact))
      | else-first_escaped w ↦ rw (w.if-first_escaped.false) (omega (arith, rest, w.first_len-is, c.escapes_in-escapes.ensures.exact))
    ])
