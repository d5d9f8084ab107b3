use Rattle.std.proofs.Common.{◌≡◌, ◌≤◌, length, arith, refl, ◌∙◌, append-nil, append_assoc}
use Rattle.std.proofs.lemmas.Fmt.{length-decimal-le}
use Rattle.zk_text.specs.Address.{subnet_text}
use Rattle.zk_text.proofs.addresses.subnet_text.Goals as goal

pub put_decimal-requires : goal.put_decimal-requires
put_decimal-requires c = let short = length-decimal-le 3 c.from.result (omega arith) (omega arith) (omega arith) in omega (arith, short)

pub put_byte-requires : goal.put_byte-requires
put_byte-requires c = let short = length-decimal-le 3 c.from.result (omega arith) (omega arith) (omega arith) in omega (arith, short)

pub put_addr-requires : goal.put_addr-requires
put_addr-requires c = let short = length-decimal-le 3 c.from.result (omega arith) (omega arith) (omega arith) in omega (arith, short)

whole : (c : goal.After-slice_known-2-1) → c.text.result.now ≡ subnet_text c.args.a c.args.width
whole c = c.text.ensures.text ∙ c.put_addr.ensures.written
    ∙ rw (c.put_byte.ensures.written, c.put_decimal.ensures.written, c.new-text.ensures.written, append-nil, c.from.ensures, append_assoc) refl

short : (c : goal.After-slice_known-2-1) → length (subnet_text c.args.a c.args.width) ≤ 43
short c =
    let digits = length-decimal-le 3 c.from.result (omega arith) (omega arith) (omega arith) in
    rw (← whole c) (omega (arith, digits, c.text.ensures.len, c.put_addr.ensures.room, c.put_byte.ensures.room, c.put_decimal.ensures.room, c.new-text.ensures.room))

pub returns-clause-bound : goal.returns-clause-bound
returns-clause-bound c = short c

pub returns-clause-room : goal.returns-clause-room
returns-clause-room c = grind (arith, short c, whole c)
