use Rattle.std.proofs.Common.{inl, inr, ap, arith, add-zero}
use Rattle.image_check.specs.Bearers.{first_wrong}
use Rattle.image_check.proofs.WrongLemmas.{step_off, step_on, step_out}
use Rattle.image_check.proofs.bearers.first_wrong.Goals as goal
use Rattle.image_check.proofs.bearers.first_wrong.Goals.{then-position-said-via-then-position-said, then-position-said-via-else-position-said+then-not-seen-place}

pub loop-place-init : goal.loop-place-init
loop-place-init c = ap (λ n. first_wrong n c.args.last c.args.bears.now c.args.seen.now) (add-zero c.args.front)

pub loop-place-preserved : goal.loop-place-preserved
loop-place-preserved c =
    step_on c.args.front c.args.last c.loop-place.place c.args.bears.now c.args.seen.now
    (first_wrong c.args.front c.args.last c.args.bears.now c.args.seen.now) c.loop-place-test.true (omega arith)
    c.loop-place.invariant c.if-said-position.false c.if-last-position.false c.if-position-said.false c.if-not-seen-place.false

pub returns-then-said-position : goal.returns-then-said-position
returns-then-said-position c =
    step_out c.args.front c.args.last c.loop-place.place c.args.bears.now c.args.seen.now
    (first_wrong c.args.front c.args.last c.args.bears.now c.args.seen.now) c.loop-place-test.true (omega arith)
    c.loop-place.invariant (elim c.then-said-position.either [ inl less ↦ inl less | inr most ↦ inr most.1 ])

pub returns-then-position-said : goal.returns-then-position-said
returns-then-position-said c =
    step_off c.args.front c.args.last c.loop-place.place c.args.bears.now c.args.seen.now
    (first_wrong c.args.front c.args.last c.args.bears.now c.args.seen.now) c.loop-place-test.true (omega arith)
    c.loop-place.invariant c.if-said-position.false c.if-last-position.false (elim c.then-position-said.branch [
      | then-position-said-via-then-position-said w ↦ inl w.if-position-said.true
      | then-position-said-via-else-position-said+then-not-seen-place w ↦ inr w.if-not-seen-place.true
    ])
