use Rattle.std.proofs.Common.{◌≡◌, ◌*◌, ◌+◌, ◌^◌, get_or, cond, true, false, Some, None, sym, ap, ◌∙◌, arith}
use Rattle.std.specs.Fmt.{decimal}
use Rattle.std.specs.Str.{bytes_eq}
use Rattle.std.proofs.lemmas.Option.{slice_get-get_or}
use Rattle.image_check.proofs.Digits.{spelled_again, too_big}
use Rattle.image_check.proofs.number.number_of.Goals as goal
use Rattle.pblk_model.proofs.Numbers.{not_less}

pub returns-in_err-checked_mul : goal.returns-in_err-checked_mul
returns-in_err-checked_mul c =
    let i = c.loop-byte.byte-index in
    let b = get_or c.args.word.now i 0 in
    c.from_residual.ensures
    ∙ too_big c.args.word.now c.loop-byte.number i c.loop-byte.invariant.known b (slice_get-get_or c.args.word.now i 0 c.loop-byte-test.true)
    (omega (arith, not_less (c.loop-byte.number * 10) (2 ^ 64) c.in_err-checked_mul.ensures))

pub returns-in_err-number : goal.returns-in_err-number
returns-in_err-number c =
    let i = c.loop-byte.byte-index in
    let b = get_or c.args.word.now i 0 in
    c.from_residual-in_err-number.ensures
    ∙ too_big c.args.word.now c.loop-byte.number i c.loop-byte.invariant.known b (slice_get-get_or c.args.word.now i 0 c.loop-byte-test.true)
    (omega (
      arith,
      not_less (c.in_ok-checked_mul.field-0 + c.from-digit.result) (2 ^ 64) c.in_err-number.ensures,
      c.in_ok-checked_mul.ensures.1,
      c.from-digit.ensures,
      c.saturating_sub.ensures,
    ))

pub returns-then-eq : goal.returns-then-eq
returns-then-eq c =
    let n = c.loop-byte.number in
    let same : bytes_eq c.args.word.now (decimal n) ≡ true = sym (ap (bytes_eq c.args.word.now) (c.as_bytes.ensures.value ∙ c.format.ensures.text))
    ∙ sym c.eq.ensures ∙ c.if-eq.true in
    sym (ap (λ t. cond t (Some n) None) same)
    ∙ spelled_again c.args.word.now n c.loop-byte.byte-index c.loop-byte.invariant.known c.loop-byte-test.false c.loop-byte.invariant.small

pub returns-else-eq : goal.returns-else-eq
returns-else-eq c =
    let n = c.loop-byte.number in
    let other : bytes_eq c.args.word.now (decimal n) ≡ false = sym (ap (bytes_eq c.args.word.now) (c.as_bytes.ensures.value ∙ c.format.ensures.text))
    ∙ sym c.eq.ensures ∙ c.if-eq.false in
    sym (ap (λ t. cond t (Some n) None) other)
    ∙ spelled_again c.args.word.now n c.loop-byte.byte-index c.loop-byte.invariant.known c.loop-byte-test.false c.loop-byte.invariant.small
