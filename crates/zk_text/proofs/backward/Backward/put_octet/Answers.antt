use Rattle.std.proofs.Common.{arith}
use Rattle.std.proofs.lemmas.Fmt.{length-decimal-le}
use Rattle.zk_text.proofs.backward.Backward.put_octet.Goals as goal

pub put_decimal-requires : goal.put_decimal-requires
put_decimal-requires c = let short = length-decimal-le 3 c.from.result (omega arith) (omega arith) (omega arith) in omega (arith, short)

pub returns-clause-room : goal.returns-clause-room
returns-clause-room c = let short = length-decimal-le 3 c.from.result (omega arith) (omega arith) (omega arith) in omega (arith, short)
