use Rattle.std.proofs.Common.{◌≡◌, ◌&&◌, not, length, sym, subst, ap, ◌∙◌}
use Rattle.std.specs.Prelude.{slice_get}
use Rattle.std.proofs.lemmas.Option.{none-some}
use Rattle.pblk_world.specs.Events.{Landed}
use Rattle.pblk_core.specs.declared.collecting.Collection.{Collection}
use Rattle.pblk_core.specs.declared.target_core.Core.{Core}
use Rattle.pblk_core.specs.Collecting.{weighed}
use Rattle.pblk_core.specs.Keeping.{KeepsFrames}
use Rattle.pblk_core.specs.Named.{pad_of}
use Rattle.pblk_core.proofs.BarrenLines.{barren_if}
use Rattle.pblk_core.proofs.Collected.{collected, passed_landed}
use Rattle.pblk_core.proofs.KeptStripes.{others_chosen}
use Rattle.pblk_core.proofs.LookedAgain.{each_looked, looked_stands, looked_passed}
use Rattle.pblk_core.proofs.TabledLines.{tabled}
use Rattle.pblk_core.proofs.target_core.Core.landed.Goals as goal

pub choose-requires : goal.choose-requires
choose-requires c =
    let mid = c.note_landed-may_be.ensures in
    let old : Core = c.args.self.now in
    let landed : Core = c.note_landed-may_be.new.self in
    let looked : Core = c.look_again.new.self in
    let look : looked ≡ record landed { collection = record landed.collection { barren = landed.collection.barren && not c.note_landed-may_be.result } } =
    c.look_again.ensures in
    record {
      tabled = tabled old looked c.requires.collecting (each_looked landed looked _ look mid.each)
          (ap (λ (x : Core). x.layout) look ∙ mid.layout)
          (ap (λ (x : Core). length x.collection.lines) look ∙ ap (λ (x : Collection). length x.lines) mid.collection)
          (λ line at_work. sym (ap (λ (x : Collection). x.victim) mid.collection) ∙ sym (ap (λ (x : Core). x.collection.victim) look) ∙ at_work);
      barren = barren_if old landed looked c.note_landed-may_be.result c.requires.collecting.collects.barren mid.brings
          (ap (λ (x : Core). x.collection.barren) look ∙ ap (λ (x : Collection). x.barren && not c.note_landed-may_be.result) mid.collection)
          (λ line none. ap (λ (x : Core). weighed x line) look ∙ none);
    }

pub returns-clause-stands : goal.returns-clause-stands
returns-clause-stands c = λ i w event knows mount st may. c.choose.ensures.stands i _
    (looked_stands i _ c.note_landed-may_be.new.self c.look_again.new.self _ c.look_again.ensures
    (c.note_landed-may_be.ensures.stands i w event knows mount st may))

pub returns-clause-collects : goal.returns-clause-collects
returns-clause-collects c = λ i w event knows mount st was may.
    let landed : Core = c.note_landed-may_be.new.self in
    let looked : Core = c.look_again.new.self in
    let look : looked ≡ record landed { collection = record landed.collection { barren = landed.collection.barren && not c.note_landed-may_be.result } } =
    c.look_again.ensures in
    let mid = looked_stands i _ landed looked _ look (c.note_landed-may_be.ensures.stands i w event knows mount st may) in
    let same = c.note_landed-may_be.ensures.collection in
    collected c.args.self.now looked c.choose.new.self i w (Landed c.args.stripe.now.stripe.unit event) knows mount st was
    (λ t is. absurd (none-some t is)) (λ line at_work freed. absurd cc)
    (ap (λ (x : Core). length x.collection.lines) look ∙ ap (λ (x : Collection). length x.lines) same)
    (ap (λ (x : Core). x.collection.victim) look ∙ ap (λ (x : Collection). x.victim) same) (record {
      stands = c.choose.ensures.stands i _ mid;
      count = c.choose.ensures.count;
      victim = c.choose.ensures.victim i w _ mount mid;
      passed = c.choose.ensures.passed (looked_passed landed looked _ look
          (passed_landed c.args.self.now landed i w mount st was same c.note_landed-may_be.ensures.map));
      barren = c.choose.ensures.barren;
      asked = c.choose.ensures.asked;
    })

pub returns-clause-frames : goal.returns-clause-frames
returns-clause-frames c =
    subst (KeepsFrames c.args.self.now.window) (sym (ap (λ (x : Core). x.window) c.choose.ensures.rest ∙ ap (λ (x : Core). x.window) c.look_again.ensures))
    (record { own = c.note_landed-may_be.ensures.own; count = c.note_landed-may_be.ensures.count })

pub returns-clause-kept : goal.returns-clause-kept
returns-clause-kept c =
    let noted : Core = c.note_landed-may_be.new.self in
    let looked : Core = c.look_again.new.self in
    let look : looked ≡ record noted { collection = record noted.collection { barren = noted.collection.barren && not c.note_landed-may_be.result } } =
    c.look_again.ensures in
    others_chosen c.args.self.now looked c.choose.new.self (ap (λ (x : Core). pad_of x) look ∙ c.note_landed-may_be.ensures.pad) c.choose.ensures.asked
    c.choose.ensures.rows c.choose.ensures.copying c.args.stripe.now.stripe.unit
    (λ other apart. ap (λ (x : Core). slice_get x.placer.units other) look ∙ c.note_landed-may_be.ensures.rows other apart)
    (ap (λ (x : Core). x.collection.under_way) look ∙ ap (λ (x : Collection). x.under_way) c.note_landed-may_be.ensures.collection)
