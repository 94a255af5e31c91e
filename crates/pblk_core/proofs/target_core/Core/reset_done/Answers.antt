use Rattle.std.proofs.Common.{length, ap, ◌∙◌}
use Rattle.std.proofs.lemmas.Option.{none-some}
use Rattle.pblk_world.specs.Events.{ResetDone}
use Rattle.pblk_core.specs.declared.collecting.Collection.{Collection}
use Rattle.pblk_core.specs.Copies.{is_copying}
use Rattle.pblk_core.specs.Named.{pad_of}
use Rattle.pblk_core.specs.declared.target_core.Core.{Core}
use Rattle.pblk_core.proofs.BarrenLines.{barren_kept}
use Rattle.pblk_core.proofs.Collected.{collected, passed_same}
use Rattle.pblk_core.proofs.KeptStripes.{kept_chosen}
use Rattle.pblk_core.proofs.TabledLines.{tabled_kept}
use Rattle.pblk_core.proofs.target_core.Core.reset_done.Goals as goal

pub choose-requires : goal.choose-requires
choose-requires c =
    let mid = c.note_reset.ensures in
    record {
      tabled = tabled_kept c.args.self.now c.note_reset.new.self c.requires.collecting mid.each
          (ap (λ (x : Core). x.layout) mid.rest) (ap (λ (x : Core). x.collection) mid.rest);
      barren = barren_kept c.args.self.now c.note_reset.new.self c.requires.collecting.collects.barren mid.brings
          (ap (λ (x : Core). x.collection.barren) mid.rest);
    }

pub returns-clause-stands : goal.returns-clause-stands
returns-clause-stands c = λ i w event knows mount st may. c.choose.ensures.stands i _ (c.note_reset.ensures.stands i w event knows mount st may)

pub returns-clause-collects : goal.returns-clause-collects
returns-clause-collects c = λ i w event knows mount st was may.
    let mid = c.note_reset.ensures.stands i w event knows mount st may in
    let same = ap (λ (x : Core). x.collection) c.note_reset.ensures.rest in
    collected c.args.self.now c.note_reset.new.self c.choose.new.self i w (ResetDone c.args.unit event) knows mount st was
    (λ t is. absurd (none-some t is)) (λ line at_work freed. absurd cc)
    (ap (λ (x : Collection). length x.lines) same) (ap (λ (x : Collection). x.victim) same) (record {
      stands = c.choose.ensures.stands i _ mid;
      count = c.choose.ensures.count;
      victim = c.choose.ensures.victim i w _ mount mid;
      passed = c.choose.ensures.passed (passed_same c.args.self.now c.note_reset.new.self was.passed
          (ap (λ (x : Core). x.map) c.note_reset.ensures.rest) same);
      barren = c.choose.ensures.barren;
      asked = c.choose.ensures.asked;
    })

pub returns-clause-kept : goal.returns-clause-kept
returns-clause-kept c =
    kept_chosen c.args.self.now c.note_reset.new.self c.choose.new.self
    (ap (λ (x : Core). pad_of x) c.note_reset.ensures.rest) c.choose.ensures.asked c.choose.ensures.rows c.choose.ensures.copying
    (ap (λ (x : Core). x.placer.units) c.note_reset.ensures.rest) (ap (λ (x : Core). is_copying x) c.note_reset.ensures.rest)

pub returns-clause-window : goal.returns-clause-window
returns-clause-window c = ap (λ (x : Core). x.window) c.choose.ensures.rest ∙ ap (λ (x : Core). x.window) c.note_reset.ensures.rest
