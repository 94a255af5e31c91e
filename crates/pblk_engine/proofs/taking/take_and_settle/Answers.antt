use Rattle.std.proofs.Common.{◌≡◌, ◌<◌, sym, subst, ◌∙◌}
use Rattle.pblk_core.specs.declared.target_core.Core.{Core}
use Rattle.chronicle.specs.Handles.{AuthorView}
use Rattle.chronicle.specs.Prefixes.{logs_of}
use Rattle.pblk_engine.specs.Hearts.{IsSettled, Parts, parts}
use Rattle.pblk_engine.proofs.TakesOn.{settled_seen, takes_settled}
use Rattle.pblk_engine.proofs.taking.take_and_settle.Goals as goal

pub returns-then-front-before-clause-settled : goal.returns-then-front-before-clause-settled
returns-then-front-before-clause-settled c =
    let old = c.args.intake.now.seat.me.0 in
    let new = c.take_all-filled.new.intake.seat.me.0 in
    let took = c.take_all-filled.ensures in
    let same : new.intake.taken ≡ old.intake.taken =
    took.beating.heart.taken ∙ sym c.front.ensures.position ∙ c.if-front-before.true ∙ c.front-before.ensures.position ∙ sym c.requires.beating.heart.taken in
    let none = took.takes.none same in
    subst (λ (a : AuthorView). IsSettled a.past.image (logs_of a.known) c.take_all-filled.new.core new) (sym none.1)
    (subst (λ (x : Core). IsSettled c.args.author.now.past.image (logs_of c.args.author.now.known) x new) (sym none.0)
    (settled_seen c.args.author.now.past.image (logs_of c.args.author.now.known) c.args.core.now old new (took.ring.1 ∙ sym c.requires.ring.1) took.takes.pass
    none.2 c.requires.settled))

pub returns-clause-takes : goal.returns-clause-takes
returns-clause-takes c =
    let old : Parts = parts c.args.core.now c.args.author.now c.args.intake.now.seat.me.0 in
    let mid : Parts = parts c.take_all-filled.new.core c.take_all-filled.new.author c.take_all-filled.new.intake.seat.me.0 in
    let new : Parts = parts c.settle.new.core c.settle.new.author c.settle.new.intake.seat.me.0 in
    let took = c.take_all-filled.ensures in
    let s = c.settle.ensures in
    takes_settled old mid new took.takes
    (λ same. c.if-front-before.false
    (c.front.ensures.position ∙ sym took.beating.heart.taken ∙ same ∙ c.requires.beating.heart.taken ∙ sym c.front-before.ensures.position))
    s.decided s.kept s.pads s.pass s.taken s.took s.claimed s.granted

pub returns-clause-all : goal.returns-clause-all
returns-clause-all c = λ claimed is.
    let all = c.take_all-filled.ensures.all claimed is in
    (c.settle.ensures.claimed ∙ all.0, all.1 ∙ sym c.settle.ensures.taken)

pub returns-clause-gap : goal.returns-clause-gap
returns-clause-gap c = λ at is.
    let gap = c.take_all-filled.ensures.gap at is in
    (gap.0 ∙ sym c.settle.ensures.taken, subst (λ n. at < n) (sym c.settle.ensures.claimed) gap.1)
