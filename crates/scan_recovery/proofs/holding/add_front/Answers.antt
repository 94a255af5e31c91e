use Rattle.std.proofs.Common.{◌≤◌, ◌∙◌, sym, ap, subst}
use Rattle.pblk_model.specs.Shape.{units}
use Rattle.scan_recovery.specs.Reading.{blocks_at}
use Rattle.scan_recovery.proofs.Surveys.{front_count}
use Rattle.scan_recovery.proofs.holding.add_front.Goals as goal

pub add-requires-clause-width : goal.add-requires-clause-width
add-requires-clause-width c = subst (λ s. c.width.result ≤ units s) (sym c.requires.layout) c.width.ensures.few

pub returns : goal.returns
returns c =
    let i = c.args.media.now in
    c.add.ensures i (sym c.requires.layout) c.requires.fit (record {
      blocks_are = c.deref.ensures.value ∙ c.in_ok-blocks.ensures.blocks
          ∙ ap (blocks_at i c.args.line 0) (front_count i c.args.line c.args.layout.now c.start_len.result c.len.result c.min-to.result c.requires.layout
          c.start_len.ensures.len c.len.ensures.len c.min-to.ensures);
      width_is = c.width.ensures.width;
      used_is = c.is_used-used.ensures;
    }) c.requires.starts
