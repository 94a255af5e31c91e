use Rattle.std.proofs.Common.{arith, refl}
use Rattle.unit_port.specs.declared.armed.CommandKind.TheVariants as kinds
use Rattle.command_words.proofs.PlanWords.{is_program_plan, program_numbers, program_parts}
use Rattle.command_words.proofs.fault.read_program.Goals as goal

pub returns-in_err-unit-clause-none : goal.returns-in_err-unit-clause-none
returns-in_err-unit-clause-none c = rw c.from_residual.ensures (λ p kind h.
    c.in_err-unit.ensures.none _ _ _ (program_numbers p c.args.numbers.now kind h))

pub returns-in_err-unit-2-clause-none : goal.returns-in_err-unit-2-clause-none
returns-in_err-unit-2-clause-none c = rw c.from_residual-in_err-unit-2.ensures (λ p kind h.
    let parts = program_parts p c.in_ok-unit.unit.now c.in_ok-unit.nth.now c.in_ok-unit.cut.now c.args.numbers.now kind c.in_ok-unit.ensures.found h in
    c.in_err-unit-2.ensures.none p.unit h.1 parts.0)

pub returns-in_err-nth-clause-none : goal.returns-in_err-nth-clause-none
returns-in_err-nth-clause-none c = rw c.from_residual-in_err-nth.ensures (λ p kind h.
    let parts = program_parts p c.in_ok-unit.unit.now c.in_ok-unit.nth.now c.in_ok-unit.cut.now c.args.numbers.now kind c.in_ok-unit.ensures.found h in
    c.in_err-nth.ensures.none p.nth h.2 parts.1)

pub returns-in_err-cut-clause-none : goal.returns-in_err-cut-clause-none
returns-in_err-cut-clause-none c = rw c.from_residual-in_err-cut.ensures (λ p kind h.
    let parts = program_parts p c.in_ok-unit.unit.now c.in_ok-unit.nth.now c.in_ok-unit.cut.now c.args.numbers.now kind c.in_ok-unit.ensures.found h in
    c.in_err-cut.ensures.none p.cut h.3 parts.2)

pub returns-clause-found : goal.returns-clause-found
returns-clause-found c =
    is_program_plan (record { unit = c.in_ok-unit-2.unit; kind = kinds.Program; nth = c.in_ok-nth.nth; cut = c.in_ok-cut.cut }) c.in_ok-unit.unit.now
    c.in_ok-unit.nth.now c.in_ok-unit.cut.now c.args.numbers.now refl c.in_ok-unit.ensures.found c.in_ok-unit-2.ensures.found c.in_ok-nth.ensures.found
    c.in_ok-cut.ensures.found (omega arith) (omega arith) (omega arith)
