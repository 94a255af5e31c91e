use Rattle.std.proofs.Common.{refl, sym, ap, ◌∙◌, arith}
use Rattle.line_table.specs.LineSets.{has}
use Rattle.line_table.proofs.Sets.{least_is_set, below_least, by_word, has_past, zero_word}
use Rattle.line_table.proofs.line_set.LineSet.least_in_words.Goals as goal

pub returns-then-word-ne0-clause-found : goal.returns-then-word-ne0-clause-found
returns-then-word-ne0-clause-found c =
    rw (← c.self.view_is)
    (least_is_set c.self.inside.words c.loop-index.index _ _ refl (omega (arith, c.if-word-ne0.true)) (omega arith) refl)

pub returns-then-word-ne0-clause-least : goal.returns-then-word-ne0-clause-least
returns-then-word-ne0-clause-least c = λ m past below.
    ap (λ words. has words m) (sym c.self.view_is)
    ∙ by_word c.self.inside.words c.args.first c.loop-index.index m past c.loop-index.invariant
    (λ from. below_least c.self.inside.words c.loop-index.index _ _ m refl (omega (arith, c.if-word-ne0.true)) (omega arith) refl below from)

pub loop-index-preserved : goal.loop-index-preserved
loop-index-preserved c = λ m past below.
    by_word c.self.inside.words c.args.first c.loop-index.index m past c.loop-index.invariant
    (λ from. zero_word c.self.inside.words m c.loop-index.index (omega arith) c.if-word-ne0.false)

pub returns-clause-none : goal.returns-clause-none
returns-clause-none c = λ m past.
    ap (λ words. has words m) (sym c.self.view_is)
    ∙ by_word c.self.inside.words c.args.first c.loop-index.index m past c.loop-index.invariant
    (λ from. has_past c.self.inside.words m (omega arith))
