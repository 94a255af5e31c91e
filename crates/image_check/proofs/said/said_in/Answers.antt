use Rattle.std.proofs.Common.{codes, sym, ◌∙◌}
use Rattle.image_check.proofs.Saying.{not_word, unknown_word}
use Rattle.image_check.proofs.said.said_in.Goals as goal

pub returns-else-eq-6 : goal.returns-else-eq-6
returns-else-eq-6 c = λ s f e. unknown_word c.in_ok-word.word.now c.in_ok-word.rest.now c.in_ok-word.ensures.first
    (not_word c.in_ok-word.word.now c.as_slice.result.now (codes "head") c.as_slice.ensures c.if-eq.ensures)
    (not_word c.in_ok-word.word.now c.as_slice-else-eq.result.now (codes "end") c.as_slice-else-eq.ensures c.if-eq-2.ensures)
    (not_word c.in_ok-word.word.now c.as_slice-else-eq-2.result.now (codes "line") c.as_slice-else-eq-2.ensures c.if-eq-3.ensures)
    (not_word c.in_ok-word.word.now c.as_slice-else-eq-3.result.now (codes "bear") c.as_slice-else-eq-3.ensures c.if-eq-4.ensures)
    (not_word c.in_ok-word.word.now c.as_slice-else-eq-4.result.now (codes "win") c.as_slice-else-eq-4.ensures c.if-eq-5.ensures)
    (not_word c.in_ok-word.word.now c.as_slice-else-eq-5.result.now (codes "live") c.as_slice-else-eq-5.ensures c.if-eq-6.ensures)
    s f (sym c.in_ok-word.ensures.found ∙ e)
