use Rattle.std.proofs.Common.{◌≡◌, true, false, List, max, arith, sym, ap, ◌∙◌}
use Rattle.std.specs.Prelude.{slice_get}
use Rattle.std.proofs.lemmas.Option.{none-some}
use Rattle.line_table.specs.Rows.{Table}
use Rattle.pblk_model.specs.declared.shape.Shape.{Shape}
use Rattle.stripe_placer.specs.Placing.{Placing, UnitRow}
use Rattle.world_laws.specs.MountBeginnings.{beginning_of}
use Rattle.pblk_core.specs.Copies.{victim_asks}
use Rattle.pblk_core.specs.Named.{pad_of}
use Rattle.pblk_core.specs.declared.target_core.Core.{Core}
use Rattle.pblk_core.proofs.Collected.{asks_none, collected_begun}
use Rattle.pblk_core.proofs.MadeLines.{made_tabled}
use Rattle.pblk_core.proofs.StandsBegun.{made_on}
use Rattle.pblk_core.proofs.UnitRows.{made_resting}
use Rattle.pblk_core.proofs.target_core.Core.new.Goals as goal

pub choose-requires : goal.choose-requires
choose-requires c = record {
  tabled = made_tabled c.args.shape.now c.args.found c.in_ok-core.core c.requires.fit c.in_ok-core.ensures;
  barren = λ barren line. let wrong : false ≡ true = sym c.in_ok-core.ensures.none_weighed ∙ barren in absurd cc;
}

pub returns-clause-stands : goal.returns-clause-stands
returns-clause-stands c = λ i w knows same mount none found closed.
    c.choose.ensures.stands i _ (made_on i w knows c.args.shape.now c.args.found c.in_ok-core.core same mount none c.requires.fit
    found closed c.in_ok-core.ensures)

pub returns-clause-collects : goal.returns-clause-collects
returns-clause-collects c = λ i w knows same mount none found closed.
    let is = c.in_ok-core.ensures in
    let mid = made_on i w knows c.args.shape.now c.args.found c.in_ok-core.core same mount none c.requires.fit found closed is in
    collected_begun c.in_ok-core.core c.choose.new.self i w (beginning_of c.args.found) knows mount none
    (is.lines_held ∙ ap (λ (s : Shape). s.chunks) (sym same)) is.none_at_work (record {
      stands = c.choose.ensures.stands i _ mid;
      count = c.choose.ensures.count;
      victim = c.choose.ensures.victim i w _ mount mid;
      passed = c.choose.ensures.passed (λ lba line at position low at_work there. none-some line (sym is.none_at_work ∙ at_work));
      barren = c.choose.ensures.barren;
      asked = c.choose.ensures.asked;
    })

pub returns-clause-pad : goal.returns-clause-pad
returns-clause-pad c =
    let is = c.in_ok-core.ensures in
    let asked : pad_of c.choose.new.self ≡ max (pad_of c.in_ok-core.core) (victim_asks c.choose.new.self) = c.choose.ensures.asked in
    let none : pad_of c.in_ok-core.core ≡ 0 = ap (λ (p : Placing). p.entries.pad) is.placer in
    let no_taker : victim_asks c.choose.new.self ≡ 0 = asks_none c.choose.new.self
    (λ line row there. is.lines.taker line row (ap (λ (t : Table). slice_get t.rows line) (sym (ap (λ (x : Core). x.lines) c.choose.ensures.rest)) ∙ there)) in
    omega arith

pub returns-clause-resting : goal.returns-clause-resting
returns-clause-resting c = λ unit of there.
    made_resting c.args.shape.now c.args.found c.in_ok-core.core c.in_ok-core.ensures unit of
    (ap (λ (rows : List UnitRow). slice_get rows unit) (sym c.choose.ensures.rows) ∙ there)
