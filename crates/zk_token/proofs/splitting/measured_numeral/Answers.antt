use Rattle.std.proofs.Common.{refl, sym, arith}
use Rattle.zk_token.proofs.TokenLaws.{numeral_size}
use Rattle.zk_token.proofs.splitting.measured_numeral.Goals as goal

pub overflow_sub-result : goal.overflow_sub-result
overflow_sub-result c = omega (arith, numeral_size c.args.text.now c.in_ok-kind.kind c.in_ok-kind.rest.now c.requires c.in_ok-kind.ensures)

pub returns : goal.returns
returns c =
    let size = numeral_size c.args.text.now c.in_ok-kind.kind c.in_ok-kind.rest.now c.requires c.in_ok-kind.ensures in
    record { exact = rw (sym c.in_ok-kind.ensures) refl; some = omega (arith, size); within = omega arith }
