use Rattle.std.proofs.Common.{◌≡◌, ◌≤◌, length, arith, refl, ◌∙◌, append-nil, append_assoc}
use Rattle.std.proofs.lemmas.Fmt.{length-decimal-le}
use Rattle.zk_text.specs.Port.{port_text}
use Rattle.zk_text.proofs.ports.port_text.Goals as goal

pub put_decimal-requires : goal.put_decimal-requires
put_decimal-requires c = let short = length-decimal-le 5 c.from.result (omega arith) (omega arith) (omega arith) in omega (arith, short, c.proto_name.ensures.len)

whole : (c : goal.After-slice_known-2-1) → c.text.result.now ≡ port_text c.args.port c.args.proto
whole c = c.text.ensures.text ∙ c.put_decimal.ensures.written
    ∙ rw (c.put_byte.ensures.written, c.put.ensures.written, c.new-text.ensures.written, append-nil, c.from.ensures, c.proto_name.ensures.name, append_assoc) refl

short : (c : goal.After-slice_known-2-1) → length (port_text c.args.port c.args.proto) ≤ 9
short c =
    let digits = length-decimal-le 5 c.from.result (omega arith) (omega arith) (omega arith) in
    rw (← whole c) (omega (arith, digits, c.proto_name.ensures.len, c.text.ensures.len, c.put_decimal.ensures.room, c.put_byte.ensures.room, c.put.ensures.room, c.new-text.ensures.room))

pub returns-clause-bound : goal.returns-clause-bound
returns-clause-bound c = short c

pub returns-clause-room : goal.returns-clause-room
returns-clause-room c = grind (arith, short c, whole c)
