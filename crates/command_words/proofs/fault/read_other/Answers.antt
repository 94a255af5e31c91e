use Rattle.std.proofs.Common.{arith, refl}
use Rattle.std.proofs.lemmas.Str.Pattern.{split_parts}
use Rattle.command_words.proofs.ItemWords.{lacks_by_place}
use Rattle.command_words.proofs.PlanWords.{is_other_plan, lacks_two, two_parts}
use Rattle.command_words.proofs.fault.read_other.Goals as goal

pub returns-in_err-unit-clause-none : goal.returns-in_err-unit-clause-none
returns-in_err-unit-clause-none c = rw c.from_residual.ensures (λ p kind h.
    let parts = split_parts 58 c.args.numbers.now c.split_once.result c.split_once.ensures.cases (omega arith) in
    lacks_two c.args.kind p c.args.numbers.now c.requires.other kind (lacks_by_place 58 c.args.numbers.now (rw c.in_err-unit.was at parts)) h)

pub returns-in_err-unit-2-clause-none : goal.returns-in_err-unit-2-clause-none
returns-in_err-unit-2-clause-none c = rw c.from_residual-in_err-unit-2.ensures (λ p kind h.
    let parts = split_parts 58 c.args.numbers.now c.split_once.result c.split_once.ensures.cases (omega arith) in
    let at = rw c.in_ok-unit.was at parts in
    let both = two_parts c.args.kind p c.in_ok-unit.unit.now c.in_ok-unit.nth.now c.args.numbers.now c.requires.other kind at.0
    (lacks_by_place 58 c.in_ok-unit.unit.now at.1) h in
    c.in_err-unit-2.ensures.none p.unit h.1 both.0)

pub returns-in_err-nth-clause-none : goal.returns-in_err-nth-clause-none
returns-in_err-nth-clause-none c = rw c.from_residual-in_err-nth.ensures (λ p kind h.
    let parts = split_parts 58 c.args.numbers.now c.split_once.result c.split_once.ensures.cases (omega arith) in
    let at = rw c.in_ok-unit.was at parts in
    let both = two_parts c.args.kind p c.in_ok-unit.unit.now c.in_ok-unit.nth.now c.args.numbers.now c.requires.other kind at.0
    (lacks_by_place 58 c.in_ok-unit.unit.now at.1) h in
    c.in_err-nth.ensures.none p.nth h.2 both.1)

pub returns-clause-found : goal.returns-clause-found
returns-clause-found c =
    let parts = split_parts 58 c.args.numbers.now c.split_once.result c.split_once.ensures.cases (omega arith) in
    let at = rw c.in_ok-unit.was at parts in
    is_other_plan c.args.kind (record { unit = c.in_ok-unit-2.unit; kind = c.args.kind; nth = c.in_ok-nth.nth; cut = 0 }) c.in_ok-unit.unit.now
    c.in_ok-unit.nth.now c.args.numbers.now c.requires.other refl at.0 c.in_ok-unit-2.ensures.found c.in_ok-nth.ensures.found refl (omega arith) (omega arith)
