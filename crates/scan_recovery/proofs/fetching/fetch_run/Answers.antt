use Rattle.std.proofs.Common.{◌+◌, ◌-◌, ◌*◌, ◌<◌, Some, None, map, length, refl, sym, ap, subst, ◌∙◌, arith}
use Rattle.std.proofs.lemmas.List.{length-map}
use Rattle.std.proofs.lemmas.Result.{err_from_is_err_and}
use Rattle.unit_port.proofs.Units.{kept_more, kept_none}
use Rattle.pblk_layout.specs.Online.{units_in}
use Rattle.pblk_laws.specs.LineBlocks.{written_at}
use Rattle.world_laws.specs.Finding.{NoneOpen}
use Rattle.scan_recovery.specs.Fetches.{only_of}
use Rattle.scan_recovery.specs.Units.{image_of}
use Rattle.scan_recovery.proofs.FetchLines.{unit_placed, block_placed, placed_by, blocks_more, blocks_none}
use Rattle.scan_recovery.proofs.FetchSteps.{few_joined, few_none, only_both}
use Rattle.scan_recovery.proofs.PadLoops.{fit_kept}
use Rattle.scan_recovery.proofs.fetching.fetch_run.Goals as goal

pub loop-at-init : goal.loop-at-init
loop-at-init g c =
    let us = map g.U.Unit.model c.args.units.now in
    record {
      ran = few_none c.args.shape.now us (only_of c.args.line (c.args.from - c.args.from));
      blocks = ap (λ b. b.blocks) c.clear.ensures ∙ sym (blocks_none (image_of c.args.shape.now us) c.args.line c.args.from);
      size = ap (λ b. b.size) c.clear.ensures ∙ c.requires.size;
      kept = kept_none us;
      wear = refl;
    }

pub fetch-requires-clause-fit : goal.fetch-requires-clause-fit
fetch-requires-clause-fit g c =
    fit_kept c.args.shape.now (map g.U.Unit.model c.args.units.now) (map g.U.Unit.model c.loop-at.units) c.requires.fit c.loop-at.invariant.kept

pub fetch-requires-clause-closed : goal.fetch-requires-clause-closed
fetch-requires-clause-closed g c = subst NoneOpen (sym c.loop-at.invariant.ran.1.image) c.requires.closed

pub fetch-requires-clause-unit : goal.fetch-requires-clause-unit
fetch-requires-clause-unit g c =
    let s = c.args.shape.now in
    let us = map g.U.Unit.model c.args.units.now in
    let inside : c.loop-at.at < length (units_in c.args.online) * s.clba = omega (arith, c.loop-at-test.true, c.requires.inside) in
    let within = unit_placed s us c.args.line c.loop-at.at
    (units_in c.args.online) c.place-unit.result c.requires.accepted c.requires.fit c.requires.online inside
    (placed_by s c.new-layout.result c.args.online c.bits.result c.loop-at.at c.place-unit.result c.new-layout.ensures c.bits.ensures
    c.place-unit.ensures) in
    omega (arith, within, length-map c.args.units.now g.U.Unit.model, c.loop-at.auto.units)

pub returns-in_err-fetch-clause-fetched : goal.returns-in_err-fetch-clause-fetched
returns-in_err-fetch-clause-fetched g c =
    let p = err_from_is_err_and c.from_residual.result c.from_residual.ensures.1 in
    rw (p.1, p.2) (few_joined c.args.shape.now (map g.U.Unit.model c.args.units.now) (map g.U.Unit.model c.loop-at.units)
    (map g.U.Unit.model c.fetch.new.units) (Some c.in_err-fetch.field-0.0) (only_of c.args.line (c.loop-at.at - c.args.from)) (only_of c.args.line 1)
    (only_of c.args.line (c.args.to - c.args.from))
    (λ other. only_both c.args.line (c.loop-at.at - c.args.from) 1 (c.args.to - c.args.from) other (omega (arith, c.loop-at.auto.at, c.loop-at-test.true)))
    c.loop-at.invariant.ran c.in_err-fetch.ensures.fetched)

pub returns-in_err-fetch-clause-kept : goal.returns-in_err-fetch-clause-kept
returns-in_err-fetch-clause-kept g c =
    kept_more (map g.U.Unit.model c.args.units.now) (map g.U.Unit.model c.loop-at.units)
    (map g.U.Unit.model c.fetch.new.units) c.loop-at.invariant.kept c.fetch.ensures.kept

pub fetch-requires-clause-size : goal.fetch-requires-clause-size
fetch-requires-clause-size g c = c.loop-at.invariant.size

pub loop-at-preserved : goal.loop-at-preserved
loop-at-preserved g c =
    let s = c.args.shape.now in
    let i = image_of s (map g.U.Unit.model c.args.units.now) in
    let there = placed_by s c.new-layout.result c.args.online c.bits.result c.loop-at.at c.place-unit.result c.new-layout.ensures c.bits.ensures
    c.place-unit.ensures in
    let here = ap (λ j. written_at j c.args.line c.place-unit.result) c.loop-at.invariant.ran.1.image
    ∙ block_placed i c.args.line c.loop-at.at (units_in c.args.online) c.place-unit.result c.requires.accepted c.requires.online there in
    record {
      ran = few_joined s (map g.U.Unit.model c.args.units.now) (map g.U.Unit.model c.loop-at.units)
          (map g.U.Unit.model c.fetch.new.units) None (only_of c.args.line (c.loop-at.at - c.args.from)) (only_of c.args.line 1)
          (only_of c.args.line (c.loop-at.at + 1 - c.args.from))
          (λ other. only_both c.args.line (c.loop-at.at - c.args.from) 1 (c.loop-at.at + 1 - c.args.from) other (omega (arith, c.loop-at.auto.at)))
          c.loop-at.invariant.ran c.in_ok-fetch.ensures.fetched;
      blocks = blocks_more i c.args.line c.args.from c.loop-at.at c.loop-at.buffer.blocks c.fetch.new.self.blocks _ c.loop-at.auto.at
          c.in_ok-fetch.ensures.block here c.loop-at.invariant.blocks;
      size = c.in_ok-fetch.ensures.size ∙ c.loop-at.invariant.size;
      kept = kept_more (map g.U.Unit.model c.args.units.now) (map g.U.Unit.model c.loop-at.units)
          (map g.U.Unit.model c.fetch.new.units) c.loop-at.invariant.kept c.fetch.ensures.kept;
      wear = c.fetch.ensures.wear ∙ c.loop-at.invariant.wear;
    }
