use Rattle.std.proofs.Common.{◌≡◌, ◌<◌, subst, ap, ◌∙◌, arith}
use Rattle.std.specs.Option.{IfSome}
use Rattle.pblk_model.specs.declared.shape.Shape.{Shape}
use Rattle.pblk_core.proofs.WeighedLines.{best_inside, if_none_held, next_is}
use Rattle.pblk_core.proofs.target_core.Core.best_line.Goals as goal

pub returns-clause-victim : goal.returns-clause-victim
returns-clause-victim c = λ i w logs mount st.
    let past = c.loop-line-test.false in
    let shape = ap (λ (s : Shape). s.chunks) c.shape.ensures.shape in
    let same : c.args.self.now.layout.chunks ≡ i.shape.chunks = ap (λ (s : Shape). s.chunks) st.layout in
    next_is i w logs mount st c.loop-line.self.collection.lines (c.loop-line.invariant.count ∙ c.requires.tabled.count ∙ same)
    (λ line inside. c.loop-line.invariant.each line (omega (arith, past, shape, same, inside)))
    c.best.result c.best.ensures.best c.best.ensures.none

pub returns-clause-inside : goal.returns-clause-inside
returns-clause-inside c =
    subst (λ n. IfSome c.best.result (λ line. line < n)) (c.loop-line.invariant.count ∙ c.requires.tabled.count)
    (best_inside c.loop-line.self.collection.lines c.best.result c.best.ensures.best)

pub returns-clause-none : goal.returns-clause-none
returns-clause-none c =
    let past = c.loop-line-test.false in
    let shape = ap (λ (s : Shape). s.chunks) c.shape.ensures.shape in
    if_none_held c.args.self.now c.loop-line.self.collection.lines c.best.result c.requires.tabled
    (λ line inside. c.loop-line.invariant.each line (omega (arith, past, shape, inside)))
    c.best.ensures.none
