use Rattle.std.proofs.Common.{◌≡◌, ◌<◌, length, map, Some, None, refl, sym, ap, subst, ◌+◌, ◌∙◌, arith}
use Rattle.std.proofs.lemmas.Result.{err_from_is_err_and}
use Rattle.unit_port.proofs.Units.{kept_more, kept_none}
use Rattle.world_laws.specs.Finding.{NoneOpen, is_full}
use Rattle.scan_recovery.specs.Fetches.{WereFewFetched, first_of, most_behind, only_of}
use Rattle.scan_recovery.specs.Mounts.{IsMountOf}
use Rattle.scan_recovery.specs.Starts.{line_start}
use Rattle.scan_recovery.specs.Survey.{IsCountTo, IsSurvey}
use Rattle.scan_recovery.specs.Units.{image_of}
use Rattle.scan_recovery.proofs.FetchSteps.{few_joined, few_memory, few_none, first_more, first_past}
use Rattle.scan_recovery.proofs.Founds.{there}
use Rattle.scan_recovery.proofs.PadLoops.{fit_kept}
use Rattle.scan_recovery.proofs.scanning.survey_lines.Goals as goal

pub loop-line-init : goal.loop-line-init
loop-line-init g c =
    let us = map g.U.Unit.model c.args.units.now in
    let i = image_of c.args.shape.now us in
    record {
      ran = few_none c.args.shape.now us (first_of 0 (most_behind i));
      survey = c.in_ok-survey.ensures i refl refl;
      size = c.requires.size;
      kept = kept_none us;
      wear = refl;
    }

pub survey_line-requires-clause-fit : goal.survey_line-requires-clause-fit
survey_line-requires-clause-fit g c =
    fit_kept c.args.shape.now (map g.U.Unit.model c.args.units.now) (map g.U.Unit.model c.loop-line.units) c.requires.fit c.loop-line.invariant.kept

pub survey_line-requires-clause-closed : goal.survey_line-requires-clause-closed
survey_line-requires-clause-closed g c = subst NoneOpen (sym c.loop-line.invariant.ran.1.image) c.requires.closed

pub survey_line-requires-clause-size : goal.survey_line-requires-clause-size
survey_line-requires-clause-size g c = c.loop-line.invariant.size

pub survey_line-requires-clause-mount : goal.survey_line-requires-clause-mount
survey_line-requires-clause-mount g c = subst (λ i. IsMountOf i c.args.mount.now) (sym c.loop-line.invariant.ran.1.image) c.requires.mount

pub survey_line-requires-clause-start : goal.survey_line-requires-clause-start
survey_line-requires-clause-start g c =
    let i = image_of c.args.shape.now (map g.U.Unit.model c.args.units.now) in
    let inside : c.loop-line.line < length c.args.starts.now = omega (arith, c.loop-line-test.true, c.requires.starts.count) in
    rw c.loop-line.invariant.ran.1.image (there c.args.shape.now.chunks (line_start i) c.args.starts.now c.loop-line.line _ c.requires.starts inside)

pub survey_line-requires-clause-count : goal.survey_line-requires-clause-count
survey_line-requires-clause-count g c =
    subst (λ i. IsCountTo i c.loop-line.line c.loop-line.survey.count) (sym c.loop-line.invariant.ran.1.image) c.loop-line.invariant.survey.count

pub returns-in_err-full-clause-fetched : goal.returns-in_err-full-clause-fetched
returns-in_err-full-clause-fetched g c =
    let p = err_from_is_err_and c.from_residual-in_err-full.result c.from_residual-in_err-full.ensures.1 in
    let i = image_of c.args.shape.now (map g.U.Unit.model c.args.units.now) in
    let most = most_behind i in
    rw (p.1, p.2) (few_joined c.args.shape.now (map g.U.Unit.model c.args.units.now) (map g.U.Unit.model c.loop-line.units)
    (map g.U.Unit.model c.survey_line.new.units) (Some c.in_err-full.field-0.0) (first_of c.loop-line.line most)
    (only_of c.loop-line.line (most c.loop-line.line)) (first_of c.args.shape.now.chunks most)
    (λ other. first_past c.loop-line.line c.args.shape.now.chunks most other c.loop-line-test.true)
    c.loop-line.invariant.ran
    (subst (λ j. WereFewFetched c.args.shape.now (map g.U.Unit.model c.loop-line.units) (map g.U.Unit.model c.survey_line.new.units)
    (Some c.in_err-full.field-0.0) (only_of c.loop-line.line (most_behind j c.loop-line.line))) c.loop-line.invariant.ran.1.image
    c.in_err-full.ensures.fetched))

pub returns-in_err-full-clause-kept : goal.returns-in_err-full-clause-kept
returns-in_err-full-clause-kept g c =
    kept_more (map g.U.Unit.model c.args.units.now) (map g.U.Unit.model c.loop-line.units)
    (map g.U.Unit.model c.survey_line.new.units) c.loop-line.invariant.kept c.survey_line.ensures.kept

pub returns-in_err-push-clause-fetched : goal.returns-in_err-push-clause-fetched
returns-in_err-push-clause-fetched g c =
    let p = err_from_is_err_and c.from_residual-in_err-push.result c.from_residual-in_err-push.ensures.1 in
    let i = image_of c.args.shape.now (map g.U.Unit.model c.args.units.now) in
    let most = most_behind i in
    rw (p.1, p.2) (few_memory c.args.shape.now (map g.U.Unit.model c.args.units.now) (map g.U.Unit.model c.survey_line.new.units)
    (first_of c.args.shape.now.chunks most)
    (few_joined c.args.shape.now (map g.U.Unit.model c.args.units.now) (map g.U.Unit.model c.loop-line.units)
    (map g.U.Unit.model c.survey_line.new.units) None (first_of c.loop-line.line most)
    (only_of c.loop-line.line (most c.loop-line.line)) (first_of c.args.shape.now.chunks most)
    (λ other. first_past c.loop-line.line c.args.shape.now.chunks most other c.loop-line-test.true)
    c.loop-line.invariant.ran
    (subst (λ j. WereFewFetched c.args.shape.now (map g.U.Unit.model c.loop-line.units) (map g.U.Unit.model c.survey_line.new.units)
    None (only_of c.loop-line.line (most_behind j c.loop-line.line))) c.loop-line.invariant.ran.1.image c.in_ok-full.ensures.fetched)))

pub returns-in_err-push-clause-kept : goal.returns-in_err-push-clause-kept
returns-in_err-push-clause-kept g c =
    kept_more (map g.U.Unit.model c.args.units.now) (map g.U.Unit.model c.loop-line.units)
    (map g.U.Unit.model c.survey_line.new.units) c.loop-line.invariant.kept c.survey_line.ensures.kept

pub loop-line-preserved : goal.loop-line-preserved
loop-line-preserved g c =
    let i = image_of c.args.shape.now (map g.U.Unit.model c.args.units.now) in
    let most = most_behind i in
    let image = c.loop-line.invariant.ran.1.image in
    let line = c.loop-line.line in
    let inside : line < length c.args.starts.now = omega (arith, c.loop-line-test.true, c.requires.starts.count) in
    record {
      ran = few_joined c.args.shape.now (map g.U.Unit.model c.args.units.now) (map g.U.Unit.model c.loop-line.units)
          (map g.U.Unit.model c.survey_line.new.units) None (first_of line most) (only_of line (most line))
          (first_of (line + 1) most) (λ other. first_more line most other) c.loop-line.invariant.ran
          (subst (λ j. WereFewFetched c.args.shape.now (map g.U.Unit.model c.loop-line.units) (map g.U.Unit.model c.survey_line.new.units)
          None (only_of line (most_behind j line))) image c.in_ok-full.ensures.fetched);
      survey = record {
        lines = c.in_ok-push.ensures.row i line (record {
          start_is = there c.args.shape.now.chunks (line_start i) c.args.starts.now line _ c.requires.starts inside;
          full_is = c.in_ok-full.ensures.full ∙ ap (λ j. is_full j line) image;
        }) c.loop-line.invariant.survey.lines;
        count = subst (IsCountTo i (line + 1)) (sym c.push.ensures.count)
            (subst (λ j. IsCountTo j (line + 1) c.survey_line.new.count) image c.in_ok-full.ensures.count);
      };
      size = c.in_ok-full.ensures.size ∙ c.loop-line.invariant.size;
      kept = kept_more (map g.U.Unit.model c.args.units.now) (map g.U.Unit.model c.loop-line.units)
          (map g.U.Unit.model c.survey_line.new.units) c.loop-line.invariant.kept c.survey_line.ensures.kept;
      wear = c.survey_line.ensures.wear ∙ c.loop-line.invariant.wear;
    }

pub returns-clause-survey : goal.returns-clause-survey
returns-clause-survey g c =
    let last : c.loop-line.line ≡ c.args.shape.now.chunks = omega (arith, c.loop-line.auto.line-end, c.loop-line-test.false) in
    subst (λ n. IsSurvey (image_of c.args.shape.now (map g.U.Unit.model c.args.units.now)) n c.loop-line.survey) last c.loop-line.invariant.survey

pub returns-clause-fetched : goal.returns-clause-fetched
returns-clause-fetched g c =
    let i = image_of c.args.shape.now (map g.U.Unit.model c.args.units.now) in
    let last : c.loop-line.line ≡ c.args.shape.now.chunks = omega (arith, c.loop-line.auto.line-end, c.loop-line-test.false) in
    subst (λ n. WereFewFetched c.args.shape.now (map g.U.Unit.model c.args.units.now) (map g.U.Unit.model c.loop-line.units) None
    (first_of n (most_behind i))) last c.loop-line.invariant.ran
