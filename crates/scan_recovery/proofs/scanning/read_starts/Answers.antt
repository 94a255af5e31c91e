use Rattle.std.proofs.Common.{◌≡◌, ℕ, map, Some, None, refl, sym, subst, ◌+◌, ◌∙◌, arith}
use Rattle.std.proofs.lemmas.Result.{err_from_is_err_and}
use Rattle.pblk_model.specs.LineOrder.{start_len}
use Rattle.unit_port.proofs.Units.{kept_more, kept_none}
use Rattle.world_laws.specs.Finding.{NoneOpen}
use Rattle.scan_recovery.specs.Fetches.{WereFewFetched, first_of, only_of}
use Rattle.scan_recovery.specs.Starts.{IsStarts}
use Rattle.scan_recovery.specs.Units.{image_of}
use Rattle.scan_recovery.proofs.FetchSteps.{few_joined, few_none, first_more, first_past}
use Rattle.scan_recovery.proofs.PadLoops.{fit_kept}
use Rattle.scan_recovery.proofs.scanning.read_starts.Goals as goal

pub loop-line-init : goal.loop-line-init
loop-line-init g c =
    let us = map g.U.Unit.model c.args.units.now in
    record {
      ran = few_none c.args.shape.now us (first_of 0 (λ line. start_len c.args.shape.now));
      starts = c.new-starts.ensures (image_of c.args.shape.now us);
      size = c.requires.size;
      kept = kept_none us;
      wear = refl;
    }

pub read_start-requires-clause-fit : goal.read_start-requires-clause-fit
read_start-requires-clause-fit g c =
    fit_kept c.args.shape.now (map g.U.Unit.model c.args.units.now) (map g.U.Unit.model c.loop-line.units) c.requires.fit c.loop-line.invariant.kept

pub read_start-requires-clause-closed : goal.read_start-requires-clause-closed
read_start-requires-clause-closed g c = subst NoneOpen (sym c.loop-line.invariant.ran.1.image) c.requires.closed

pub read_start-requires-clause-starts : goal.read_start-requires-clause-starts
read_start-requires-clause-starts g c =
    subst (λ i. IsStarts i c.loop-line.line c.loop-line.starts) (sym c.loop-line.invariant.ran.1.image) c.loop-line.invariant.starts

pub read_start-requires-clause-size : goal.read_start-requires-clause-size
read_start-requires-clause-size g c = c.loop-line.invariant.size

pub returns-in_err-read_start-clause-fetched : goal.returns-in_err-read_start-clause-fetched
returns-in_err-read_start-clause-fetched g c =
    let p = err_from_is_err_and c.from_residual.result c.from_residual.ensures.1 in
    let most : ℕ → ℕ = λ line. start_len c.args.shape.now in
    rw (p.1, p.2) (few_joined c.args.shape.now (map g.U.Unit.model c.args.units.now) (map g.U.Unit.model c.loop-line.units)
    (map g.U.Unit.model c.read_start.new.units) (Some c.in_err-read_start.field-0.0) (first_of c.loop-line.line most)
    (only_of c.loop-line.line (start_len c.args.shape.now)) (first_of c.args.shape.now.chunks most)
    (λ other. first_past c.loop-line.line c.args.shape.now.chunks most other c.loop-line-test.true)
    c.loop-line.invariant.ran c.in_err-read_start.ensures.fetched)

pub returns-in_err-read_start-clause-kept : goal.returns-in_err-read_start-clause-kept
returns-in_err-read_start-clause-kept g c =
    kept_more (map g.U.Unit.model c.args.units.now) (map g.U.Unit.model c.loop-line.units)
    (map g.U.Unit.model c.read_start.new.units) c.loop-line.invariant.kept c.read_start.ensures.kept

pub loop-line-preserved : goal.loop-line-preserved
loop-line-preserved g c =
    let most : ℕ → ℕ = λ line. start_len c.args.shape.now in
    record {
      ran = few_joined c.args.shape.now (map g.U.Unit.model c.args.units.now) (map g.U.Unit.model c.loop-line.units)
          (map g.U.Unit.model c.read_start.new.units) None (first_of c.loop-line.line most) (only_of c.loop-line.line (start_len c.args.shape.now))
          (first_of (c.loop-line.line + 1) most) (λ other. first_more c.loop-line.line most other) c.loop-line.invariant.ran
          c.in_ok-read_start.ensures.fetched;
      starts = subst (λ i. IsStarts i (c.loop-line.line + 1) c.read_start.new.starts) c.loop-line.invariant.ran.1.image
          c.in_ok-read_start.ensures.starts;
      size = c.in_ok-read_start.ensures.size ∙ c.loop-line.invariant.size;
      kept = kept_more (map g.U.Unit.model c.args.units.now) (map g.U.Unit.model c.loop-line.units)
          (map g.U.Unit.model c.read_start.new.units) c.loop-line.invariant.kept c.read_start.ensures.kept;
      wear = c.read_start.ensures.wear ∙ c.loop-line.invariant.wear;
    }

pub returns-clause-starts : goal.returns-clause-starts
returns-clause-starts g c =
    let last : c.loop-line.line ≡ c.args.shape.now.chunks = omega (arith, c.loop-line.auto.line-end, c.loop-line-test.false) in
    subst (λ n. IsStarts (image_of c.args.shape.now (map g.U.Unit.model c.args.units.now)) n c.loop-line.starts) last c.loop-line.invariant.starts

pub returns-clause-fetched : goal.returns-clause-fetched
returns-clause-fetched g c =
    let last : c.loop-line.line ≡ c.args.shape.now.chunks = omega (arith, c.loop-line.auto.line-end, c.loop-line-test.false) in
    subst (λ n. WereFewFetched c.args.shape.now (map g.U.Unit.model c.args.units.now) (map g.U.Unit.model c.loop-line.units) None
    (first_of n (λ line. start_len c.args.shape.now)))
    last c.loop-line.invariant.ran
