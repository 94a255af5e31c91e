use Rattle.std.proofs.Common.{[], length, ap, ◌∙◌}
use Rattle.std.proofs.lemmas.Option.{none-some}
use Rattle.pblk_world.specs.Events.{Open}
use Rattle.pblk_core.specs.declared.collecting.Collection.{Collection}
use Rattle.pblk_core.specs.Named.{next_start}
use Rattle.pblk_core.specs.Copies.{is_copying}
use Rattle.pblk_core.specs.declared.target_core.Core.{Core}
use Rattle.pblk_core.proofs.BarrenLines.{barren_kept}
use Rattle.pblk_core.proofs.Collected.{collected, passed_same}
use Rattle.pblk_core.proofs.KeptStripes.{kept_chosen}
use Rattle.pblk_core.proofs.TabledLines.{tabled_same}
use Rattle.pblk_core.proofs.target_core.Core.open_line.Goals as goal

pub choose-requires : goal.choose-requires
choose-requires c =
    let is = c.requires.collecting in
    record {
      tabled = tabled_same c.args.self.now c.open_least.new.self is _ (c.open_least.ensures.stands is.image is.world [] is.legal is.stands)
          (ap (λ (x : Core). x.collection) c.open_least.ensures.rest);
      barren = barren_kept c.args.self.now c.open_least.new.self is.collects.barren c.open_least.ensures.brings
          (ap (λ (x : Core). x.collection.barren) c.open_least.ensures.rest);
    }

pub returns-clause-stands : goal.returns-clause-stands
returns-clause-stands c = λ i w knows mount st. c.choose.ensures.stands i _ (c.open_least.ensures.stands i w knows mount st)

pub returns-clause-collects : goal.returns-clause-collects
returns-clause-collects c = λ i w knows mount st was.
    let start = next_start c.args.self.now in
    let mid = c.open_least.ensures.stands i w knows mount st in
    let same = ap (λ (x : Core). x.collection) c.open_least.ensures.rest in
    collected c.args.self.now c.open_least.new.self c.choose.new.self i w (Open start.line start) knows mount st was
    (λ t is. absurd (none-some t is)) (λ line at_work freed. absurd cc)
    (ap (λ (x : Collection). length x.lines) same) (ap (λ (x : Collection). x.victim) same) (record {
      stands = c.choose.ensures.stands i _ mid;
      count = c.choose.ensures.count;
      victim = c.choose.ensures.victim i w _ mount mid;
      passed = c.choose.ensures.passed (passed_same c.args.self.now c.open_least.new.self was.passed
          (ap (λ (x : Core). x.map) c.open_least.ensures.rest) same);
      barren = c.choose.ensures.barren;
      asked = c.choose.ensures.asked;
    })

pub returns-clause-kept : goal.returns-clause-kept
returns-clause-kept c =
    kept_chosen c.args.self.now c.open_least.new.self c.choose.new.self c.open_least.ensures.pad c.choose.ensures.asked c.choose.ensures.rows
    c.choose.ensures.copying
    c.open_least.ensures.rows (ap (λ (x : Core). is_copying x) c.open_least.ensures.rest)

pub returns-clause-window : goal.returns-clause-window
returns-clause-window c = ap (λ (x : Core). x.window) c.choose.ensures.rest ∙ ap (λ (x : Core). x.window) c.open_least.ensures.rest
