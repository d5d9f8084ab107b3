use Rattle.std.proofs.Common.{◌≡◌, ℕ, ◌+◌, ◌*◌, ◌≤◌, sum, drop, ap, ◌∙◌, arith}
use Rattle.std.proofs.lemmas.List.{take_rest}
use Rattle.zk_base.specs.Checksum.{is_right_sum, words}
use Rattle.zk_link_ip.proofs.ChecksumLemmas.{high, next-word, right-more}
use Rattle.zk_link_ip.proofs.ip4.is_checksum_right.Goals as goal

pub returns : goal.returns
returns c =
    let header = c.args.header.now in
    let first = next-word 0 header (omega (arith, c.requires.least)) in
    let second = next-word 4 header (omega (arith, c.requires.least)) in
    let third = next-word 8 header (omega (arith, c.requires.least)) in
    let fourth = next-word 12 header (omega (arith, c.requires.least)) in
    let fifth = next-word 16 header (omega (arith, c.requires.least)) in
    let options = c.word_sum.ensures.value ∙ ap (λ rest. sum (words rest)) (take_rest header 20) in
    let highs : ℕ = high header + high (drop 4 header) + high (drop 8 header) + high (drop 12 header) + high (drop 16 header) in
    let low : highs ≤ sum (words header) = omega (arith, first.1, second.1, third.1, fourth.1, fifth.1) in
    let all : c.word.result + c.word-2.result + c.word-3.result + c.word-4.result + c.word-5.result + c.word_sum.result ≡ sum (words header) + 65535 * highs =
    omega (arith, first.0, second.0, third.0, fourth.0, fifth.0, options, c.word.ensures.value, c.word-2.ensures.value, c.word-3.ensures.value, c.word-4.ensures.value, c.word-5.ensures.value) in
    c.is_right_checksum.ensures.value ∙ ap is_right_sum all ∙ right-more (sum (words header)) highs low
