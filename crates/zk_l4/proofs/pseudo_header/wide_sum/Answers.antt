use Rattle.std.proofs.Common.{◌≡◌, ◌+◌, ◌-◌, ◌*◌, ◌%◌, ◌^◌, ◌≤◌, length, sum, take, drop, ap, ◌∙◌, arith}
use Rattle.std.proofs.lemmas.List.{length-drop, take_rest}
use Rattle.zk_base.specs.Checksum.{words}
use Rattle.zk_l4.proofs.PseudoHeaderLemmas.{wide_word-words, wide_words-words}
use Rattle.zk_l4.proofs.pseudo_header.wide_sum.Goals as goal
use Rattle.zk_l4.proofs.pseudo_header.wide_sum.Goals.{then-rest-ge-WIDE_LEN, else-rest-ge-WIDE_LEN}

pub loop-rest-preserved : goal.loop-rest-preserved
loop-rest-preserved c =
    let rest = c.loop-rest.rest.now in
    let total = c.add-in-loop-rest.new.self in
    let left = take (length rest - 32) (drop 32 rest) in
    let fewer : length left ≡ length rest - 32 = ap length (take_rest rest 32) ∙ length-drop 32 rest in
    let taken = wide_words-words rest c.read_u128.result c.read_u128-in-loop-rest.result (omega (arith, c.loop-rest-test.true)) c.read_u128.ensures c.read_u128-in-loop-rest.ensures in
    let counted : (256 * (total.low + 2 ^ 128 * total.carries) + sum (words left)) % 65535 ≡ sum (words c.args.bytes.now) % 65535 =
    omega (arith, taken, c.loop-rest.invariant.0, c.add.ensures.value, c.add-in-loop-rest.ensures.value) in
    let low : total.low + 2 ^ 128 * length left ≤ 2 ^ 128 * length c.args.bytes.now = omega (arith, fewer, c.add-in-loop-rest.ensures.low) in
    let carries : 16 * total.carries + length left ≤ length c.args.bytes.now = omega (arith, fewer) in
    (counted, low, carries)

pub returns-clause-value : goal.returns-clause-value
returns-clause-value c =
    let rest = c.loop-rest.rest.now in
    let total = c.if-rest-ge-WIDE_LEN.total in
    let left = c.if-rest-ge-WIDE_LEN.rest.now in
    let counted : (256 * (total.low + 2 ^ 128 * total.carries) + sum (words left)) % 65535 ≡ sum (words c.args.bytes.now) % 65535 =
    elim c.if-rest-ge-WIDE_LEN.branch [
      | then-rest-ge-WIDE_LEN w ↦
          let new = w.add-then-rest-ge-WIDE_LEN.new.self in
          let taken = wide_word-words rest w.read_u128-then-rest-ge-WIDE_LEN.result (omega (arith, w.if-rest-ge-WIDE_LEN.true)) w.read_u128-then-rest-ge-WIDE_LEN.ensures in
          let more : (256 * (new.low + 2 ^ 128 * new.carries) + sum (words (take (length rest - 16) (drop 16 rest)))) % 65535 ≡ sum (words c.args.bytes.now) % 65535 =
          omega (arith, taken, c.loop-rest.invariant.0, w.add-then-rest-ge-WIDE_LEN.ensures.value) in
          rw w.total-is (rw w.rest-is more)
      | else-rest-ge-WIDE_LEN w ↦ rw w.total-is (rw w.rest-is c.loop-rest.invariant.0)
    ] in
    omega (arith, counted, c.folded.ensures.value, c.narrow_sum.ensures.value)
