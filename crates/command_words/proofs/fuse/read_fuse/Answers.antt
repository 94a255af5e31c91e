use Rattle.std.proofs.Common.{◌<◌, ◌^◌, ◌∙◌, sym, arith}
use Rattle.std.proofs.lemmas.Fmt.{decimal_injective}
use Rattle.command_words.proofs.StopWords.{fuse_of_parts, numbers_of_parts, three_numbers}
use Rattle.command_words.proofs.fuse.read_fuse.Goals as goal

pub returns-in_err-unit-clause-none : goal.returns-in_err-unit-clause-none
returns-in_err-unit-clause-none c = rw c.from_residual.ensures (λ f h.
    c.in_err-unit.ensures.none _ _ _ (three_numbers f c.args.word.now h))

pub returns-in_err-unit-2-clause-none : goal.returns-in_err-unit-2-clause-none
returns-in_err-unit-2-clause-none c = rw c.from_residual-in_err-unit-2.ensures (λ f h.
    let parts = numbers_of_parts f c.in_ok-unit.unit.now c.in_ok-unit.nth.now c.in_ok-unit.cut.now c.args.word.now c.in_ok-unit.ensures.found h in
    c.in_err-unit-2.ensures.none f.unit h.1 parts.0)

pub returns-in_err-nth-clause-none : goal.returns-in_err-nth-clause-none
returns-in_err-nth-clause-none c = rw c.from_residual-in_err-nth.ensures (λ f h.
    let parts = numbers_of_parts f c.in_ok-unit.unit.now c.in_ok-unit.nth.now c.in_ok-unit.cut.now c.args.word.now c.in_ok-unit.ensures.found h in
    c.in_err-nth.ensures.none f.nth h.3 parts.1)

pub returns-in_err-cut-clause-none : goal.returns-in_err-cut-clause-none
returns-in_err-cut-clause-none c = rw c.from_residual-in_err-cut.ensures (λ f h.
    let parts = numbers_of_parts f c.in_ok-unit.unit.now c.in_ok-unit.nth.now c.in_ok-unit.cut.now c.args.word.now c.in_ok-unit.ensures.found h in
    c.in_err-cut.ensures.none f.cut h.4 parts.2)

pub returns-then-nth-eq0-clause-none : goal.returns-then-nth-eq0-clause-none
returns-then-nth-eq0-clause-none c = λ f h.
    let parts = numbers_of_parts f c.in_ok-unit.unit.now c.in_ok-unit.nth.now c.in_ok-unit.cut.now c.args.word.now c.in_ok-unit.ensures.found h in
    let low : c.in_ok-nth.nth < 2 ^ 64 = omega arith in
    let small : f.nth < 2 ^ 32 = h.3 in
    let some : 0 < f.nth = h.2 in
    let same = decimal_injective f.nth c.in_ok-nth.nth (omega arith) low (sym parts.1 ∙ c.in_ok-nth.ensures.found) in
    omega arith

pub returns-clause-found : goal.returns-clause-found
returns-clause-found c =
    fuse_of_parts _ c.in_ok-unit.unit.now c.in_ok-unit.nth.now c.in_ok-unit.cut.now c.args.word.now c.in_ok-unit.ensures.found c.in_ok-unit-2.ensures.found
    c.in_ok-nth.ensures.found c.in_ok-cut.ensures.found (omega arith) (omega arith) (omega arith) (omega arith)
