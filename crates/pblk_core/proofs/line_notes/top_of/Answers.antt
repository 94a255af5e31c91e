use Rattle.std.proofs.Common.{◌≡◌, ℕ, ◌+◌, max, List, rules, sym, ap, ◌∙◌, take_all, get_or}
use Rattle.std.proofs.lemmas.List.Sums.{fold_more}
use Rattle.core_laws.specs.ClosedLines.{top_of}
use Rattle.pblk_core.proofs.line_notes.top_of.Goals as goal

pub loop-index-preserved : goal.loop-index-preserved
loop-index-preserved c =
    let ps : List ℕ = c.args.positions.now in
    let k : ℕ = c.loop-index.index in
    let now : c.max-top.result ≡ max c.loop-index.top (get_or ps k 0 + 1) = search rules in
    now ∙ ap (λ top. max top (get_or ps k 0 + 1)) c.loop-index.invariant
    ∙ sym (fold_more (λ top position. max top (position + 1)) 0 ps k 0 c.loop-index-test.true)

pub returns : goal.returns
returns c = c.loop-index.invariant ∙ ap top_of (take_all c.loop-index.index c.args.positions.now c.loop-index-test.false)
