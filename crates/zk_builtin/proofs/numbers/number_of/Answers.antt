use Rattle.std.proofs.Common.{◌≡◌, ◌+◌, ◌*◌, ◌-◌, ◌^◌, ◌<◌, ◌≤◌, ◌∷◌, [], ℕ, List, true, take, drop, get_or, length, sym, ap, ◌∙◌, arith, rules}
use Rattle.std.specs.List.{list_all}
use Rattle.std.proofs.lemmas.List.{take_more, take-append-drop, take_all}
use Rattle.zk_typed.specs.BuiltIns.{is_digit, number_after}
use Rattle.zk_builtin.proofs.NumberLemmas.{number-grows, number-append, too_great, in_range, digits-push}
use Rattle.zk_builtin.proofs.numbers.number_of.Goals as goal

-- a digit more
more_number : (s : List ℕ) (i : ℕ) → i < length s → number_after 0 (take (i + 1) s) ≡ number_after 0 (take i s) * 10 + (get_or s i 0 - 48)
more_number s i within = ap (number_after 0) (take_more s i 0 within) ∙ number-append 0 (take i s) (get_or s i 0 ∷ [])

pub loop-byte-preserved : goal.loop-byte-preserved
loop-byte-preserved c =
    let s = c.args.s.now in
    let i = c.loop-byte.byte-index in
    let digit : is_digit (get_or s i 0) ≡ true = search rules in (
      c.in-Some.ensures.1 ∙ ap (λ n. n * 10 + (get_or s i 0 - 48)) c.loop-byte.invariant.0 ∙ sym (more_number s i c.loop-byte-test.true),
      ap (list_all is_digit) (take_more s i 0 c.loop-byte-test.true) ∙ digits-push (take i s) (get_or s i 0) c.loop-byte.invariant.1 digit,
      omega (arith, c.in-Some.ensures.0, c.in-Some.ensures.1),
    )

pub returns-in-None : goal.returns-in-None
returns-in-None c =
    let s = c.args.s.now in
    let i = c.loop-byte.byte-index in
    let whole = ap (number_after 0) (take-append-drop (i + 1) s) in
    let split = number-append 0 (take (i + 1) s) (drop (i + 1) s) in
    let grows = number-grows (number_after 0 (take (i + 1) s)) (drop (i + 1) s) in
    let here = more_number s i c.loop-byte-test.true in
    let before = ap (λ n. n * 10) c.loop-byte.invariant.0 in
    let great : 2 ^ 64 ≤ c.loop-byte.number * 10 + (get_or s i 0 - 48) = omega (arith, c.in-None.ensures) in
    sym (too_great s (omega (arith, whole, split, grows, here, before, great)))

pub returns : goal.returns
returns c =
    let s = c.args.s.now in
    let all : take c.loop-byte.byte-index s ≡ s = take_all c.loop-byte.byte-index s c.loop-byte-test.false in
    let number = c.loop-byte.invariant.0 ∙ ap (number_after 0) all in
    number ∙ sym (in_range s (sym (ap (list_all is_digit) all) ∙ c.loop-byte.invariant.1) (omega (arith, number, c.loop-byte.invariant.2)))
