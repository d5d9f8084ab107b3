use Rattle.std.proofs.Common.{◌≡◌, ℕ, ◌+◌, ◌<◌, ◌++◌, length, sum, ap, ◌∙◌, arith}
use Rattle.zk_base.specs.Checksum.{words, is_right_sum}
use Rattle.zk_l4.specs.PseudoHeader.{has_right_checksum, pseudo_header}
use Rattle.zk_l4.proofs.PseudoHeaderLemmas.{right-with, sum_words-pseudo_header}
use Rattle.zk_l4.proofs.pseudo_header.is_checksum_right.Goals as goal

pub returns : goal.returns
unfolding has_right_checksum
returns c =
    let datagram = c.args.datagram.now in
    let len : ℕ = length datagram in
    let small : len < 65536 = omega arith in
    let header : ℕ = c.address_sum.result + c.address_sum-2.result + c.from.result + len in
    let all : header + sum (words datagram) ≡ sum (words (pseudo_header c.args.src c.args.dst c.args.protocol len ++ datagram)) =
    omega (arith, sum_words-pseudo_header c.args.src c.args.dst c.args.protocol len datagram small) in
    c.is_right_checksum.ensures.value
    ∙ right-with header c.wide_sum.result datagram (omega arith) c.wide_sum.ensures.bound c.wide_sum.ensures.value
    ∙ ap is_right_sum all
