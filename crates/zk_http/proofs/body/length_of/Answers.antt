use Rattle.std.proofs.Common.{◌+◌, ◌*◌, refl, sym, subst, arith, ◌∙◌}
use Rattle.std.specs.Prelude.{slice_index}
use Rattle.zk_http.proofs.LengthLaws.{AreDigits, digit_is, digits_more, fits_digits}
use Rattle.zk_http.proofs.body.length_of.Goals as goal

pub overflow_mul-number : goal.overflow_mul-number
overflow_mul-number c =
    omega (arith, fits_digits c.loop-byte.number c.loop-byte.byte-index c.loop-byte.invariant.bound (omega arith))

pub overflow_add-number : goal.overflow_add-number
overflow_add-number c =
    let i = c.loop-byte.byte-index in
    let digit = digit_is (slice_index c.args.element.now i) (sym c.is_ascii_digit.ensures.value ∙ c.if-not-is_ascii_digit.false) in
    omega (arith, fits_digits c.loop-byte.number i c.loop-byte.invariant.bound (omega arith), c.from.ensures, digit.1)

pub loop-byte-preserved : goal.loop-byte-preserved
loop-byte-preserved c =
    let i = c.loop-byte.byte-index in
    let digit = sym c.is_ascii_digit.ensures.value ∙ c.if-not-is_ascii_digit.false in
    subst (λ n. AreDigits c.args.element.now (c.loop-byte.number * 10 + n) (i + 1)) (sym c.from.ensures)
    (digits_more c.args.element.now c.loop-byte.number i (slice_index c.args.element.now i) c.loop-byte.invariant (omega arith) refl digit)
