use Rattle.std.proofs.Common.{◌+◌, ◌*◌, ◌≤◌, ◌++◌, ◌∷◌, [], None, ap, ◌∙◌, length, sym, subst}
use Rattle.pblk_engine.proofs.RunParts.{ends_before}
use Rattle.block_target.proofs.Fills.{filling_begins, filling_more}
use Rattle.block_target.proofs.session.fill.Goals as goal

pub loop-index-init : goal.loop-index-init
loop-index-init c = filling_begins c.args.batch.now c.args.lba c.args.size c.args.bytes.now c.requires.empty

pub loop-index-preserved : goal.loop-index-preserved
loop-index-preserved c =
    let inside : c.loop-index.index * c.args.size + c.args.size ≤ length c.args.bytes.now =
    subst (λ n. c.loop-index.index * c.args.size + c.args.size ≤ n) (sym c.requires.bytes)
    (ends_before c.loop-index.index c.args.count c.args.size c.loop-index-test.true) in
    let f = c.fill.ensures.filled.0 in
    filling_more c.args.batch.now c.loop-index.batch c.fill.new.self c.args.lba c.args.size c.loop-index.index c.args.bytes.now f
    c.loop-index.invariant inside c.fill.ensures.filled.1
    (c.fill.ensures.filled.2 ∙ ap (λ n. c.loop-index.batch.drafts ++ record { lba = c.args.lba + n; source = None; frame = f } ∷ []) c.from.ensures)
    c.fill.ensures.fewer_free c.fill.ensures.region
