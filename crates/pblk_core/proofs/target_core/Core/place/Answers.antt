use Rattle.std.proofs.Common.{◌≡◌, [], length, ap, arith, true, false, sym, ◌∙◌, is_some, rules}
use Rattle.std.proofs.lemmas.Option.{none-some}
use Rattle.pblk_world.specs.Events.{Place}
use Rattle.stripe_placer.specs.Placing.{next_stripe, program}
use Rattle.stripe_placer.proofs.NextUnits.{its_idle, its_stop}
use Rattle.pblk_core.specs.declared.collecting.Collection.{Collection}
use Rattle.pblk_core.specs.Named.{pad_of}
use Rattle.pblk_core.specs.declared.target_core.Core.{Core}
use Rattle.pblk_core.proofs.BarrenLines.{barren_kept}
use Rattle.pblk_core.proofs.Collected.{collected, collects_same, passed_same}
use Rattle.pblk_core.proofs.KeptStripes.{others_chosen, rises_still}
use Rattle.pblk_core.proofs.TabledLines.{tabled_same}
use Rattle.pblk_core.proofs.WorkOf.{program_named}
use Rattle.pblk_core.proofs.target_core.Core.place.Goals as goal

pub unreachable-requires : goal.unreachable-requires
unreachable-requires c =
    let some : is_some (next_stripe c.args.self.now.placer 0) ≡ true = program_named c.args.self.now c.requires.named in
    search rules

pub is_stopped-requires : goal.is_stopped-requires
is_stopped-requires c = c.in-Some.ensures.unit

-- ---- a stripe that was stopped

pub place_again-requires-clause-stopped : goal.place_again-requires-clause-stopped
place_again-requires-clause-stopped c =
    its_stop c.args.self.now.placer (program c.args.self.now.placer c.in-Some.of) c.in-Some.ensures.turn (sym c.is_stopped.ensures ∙ c.if-is_stopped.true)

pub returns-then-is_stopped-clause-legal : goal.returns-then-is_stopped-clause-legal
returns-then-is_stopped-clause-legal c = λ first. let wrong : true ≡ false = sym c.place_again.ensures.again ∙ first in absurd cc

pub returns-then-is_stopped-clause-due : goal.returns-then-is_stopped-clause-due
returns-then-is_stopped-clause-due c = λ first. let wrong : true ≡ false = sym c.place_again.ensures.again ∙ first in absurd cc

pub returns-then-is_stopped-clause-stands : goal.returns-then-is_stopped-clause-stands
returns-then-is_stopped-clause-stands c = λ first. let wrong : true ≡ false = sym c.place_again.ensures.again ∙ first in absurd cc

pub returns-then-is_stopped-clause-again : goal.returns-then-is_stopped-clause-again
returns-then-is_stopped-clause-again c = λ again i w mount st. (c.place_again.ensures.stripe i w mount st, c.place_again.ensures.stands i w mount st)

pub returns-then-is_stopped-clause-collects_again : goal.returns-then-is_stopped-clause-collects_again
returns-then-is_stopped-clause-collects_again c = λ again i logs was.
    let pad : pad_of c.place_again.new.self ≡ pad_of c.args.self.now = c.place_again.ensures.collecting.pad in
    collects_same c.args.self.now c.place_again.new.self i logs was c.place_again.ensures.collecting.map c.place_again.ensures.collecting.collection
    c.place_again.ensures.collecting.brings (omega arith)

pub returns-then-is_stopped-clause-kept : goal.returns-then-is_stopped-clause-kept
returns-then-is_stopped-clause-kept c = record {
  rows = c.place_again.ensures.rows;
  copying = ap (λ (x : Collection). x.under_way) c.place_again.ensures.collecting.collection;
  pad = rises_still c.args.self.now c.place_again.new.self c.place_again.ensures.collecting.pad;
}

-- ---- a new stripe

pub place_new-requires-clause-idle : goal.place_new-requires-clause-idle
place_new-requires-clause-idle c =
    its_idle c.args.self.now.placer (program c.args.self.now.placer c.in-Some.of) c.in-Some.ensures.turn (sym c.is_stopped.ensures ∙ c.if-is_stopped.false)

pub returns-else-is_stopped-clause-legal : goal.returns-else-is_stopped-clause-legal
returns-else-is_stopped-clause-legal c = λ first. c.place_new.ensures.legal

pub returns-else-is_stopped-clause-due : goal.returns-else-is_stopped-clause-due
returns-else-is_stopped-clause-due c = λ first. c.place_new.ensures.due

pub choose-requires : goal.choose-requires
choose-requires c =
    let is = c.requires.collecting in
    record {
      tabled = tabled_same c.args.self.now c.place_new.new.self is _ (c.place_new.ensures.stands is.image is.world [] is.legal is.stands)
          c.place_new.ensures.collecting.collection;
      barren = barren_kept c.args.self.now c.place_new.new.self is.collects.barren c.place_new.ensures.collecting.brings
          (ap (λ (x : Collection). x.barren) c.place_new.ensures.collecting.collection);
    }

pub returns-else-is_stopped-clause-stands : goal.returns-else-is_stopped-clause-stands
returns-else-is_stopped-clause-stands c = λ first i w knows mount st. c.choose.ensures.stands i _ (c.place_new.ensures.stands i w knows mount st)

pub returns-else-is_stopped-clause-collects : goal.returns-else-is_stopped-clause-collects
returns-else-is_stopped-clause-collects c = λ first i w knows mount st was.
    let mid = c.place_new.ensures.stands i w knows mount st in
    let same = c.place_new.ensures.collecting.collection in
    collected c.args.self.now c.place_new.new.self c.choose.new.self i w (Place c.place_new.new.into.stripe) knows mount st was
    (λ t is. absurd (none-some t is)) (λ line at_work freed. absurd cc)
    (ap (λ (x : Collection). length x.lines) same) (ap (λ (x : Collection). x.victim) same) (record {
      stands = c.choose.ensures.stands i _ mid;
      count = c.choose.ensures.count;
      victim = c.choose.ensures.victim i w _ mount mid;
      passed = c.choose.ensures.passed (passed_same c.args.self.now c.place_new.new.self was.passed c.place_new.ensures.collecting.map same);
      barren = c.choose.ensures.barren;
      asked = c.choose.ensures.asked;
    })

pub returns-else-is_stopped-clause-kept : goal.returns-else-is_stopped-clause-kept
returns-else-is_stopped-clause-kept c =
    others_chosen c.args.self.now c.place_new.new.self c.choose.new.self c.place_new.ensures.collecting.pad c.choose.ensures.asked c.choose.ensures.rows
    c.choose.ensures.copying c.place_new.new.into.stripe.unit c.place_new.ensures.rows
    (ap (λ (x : Collection). x.under_way) c.place_new.ensures.collecting.collection)

pub returns-else-is_stopped-clause-again : goal.returns-else-is_stopped-clause-again
returns-else-is_stopped-clause-again c = λ again. let wrong : false ≡ true = sym c.place_new.ensures.first ∙ again in absurd cc

pub returns-else-is_stopped-clause-window : goal.returns-else-is_stopped-clause-window
returns-else-is_stopped-clause-window c = ap (λ (x : Core). x.window) c.choose.ensures.rest ∙ c.place_new.ensures.window
