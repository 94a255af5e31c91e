use Rattle.std.proofs.Common.{map, Some, None, refl, sym, ap, subst, ◌∙◌}
use Rattle.std.proofs.lemmas.Result.{err_from_is_err_and}
use Rattle.unit_port.proofs.Units.{kept_more}
use Rattle.world_laws.specs.Finding.{NoneOpen, taken_states}
use Rattle.scan_recovery.specs.Fetches.{most_fetches}
use Rattle.scan_recovery.specs.Mounts.{IsMountOf}
use Rattle.scan_recovery.specs.Starts.{line_start}
use Rattle.scan_recovery.specs.Survey.{IsSurvey}
use Rattle.scan_recovery.specs.Units.{image_of}
use Rattle.scan_recovery.proofs.FetchSteps.{few_memory}
use Rattle.scan_recovery.proofs.PadLoops.{fit_image, fit_kept}
use Rattle.scan_recovery.proofs.Results.{few_here, mount_of}
use Rattle.scan_recovery.proofs.Scans.{fronts_most, lines_most}
use Rattle.scan_recovery.proofs.scanning.scan_all.Goals as goal
use Rattle.pblk_model.specs.Tables.{IsTable}

pub returns-in_err-starts-clause-fetched : goal.returns-in_err-starts-clause-fetched
returns-in_err-starts-clause-fetched g c =
    let p = err_from_is_err_and c.from_residual.result c.from_residual.ensures.1 in
    rw (p.1, p.2) (fronts_most c.args.shape.now (map g.U.Unit.model c.args.units.now) (map g.U.Unit.model c.read_starts.new.units)
    (Some c.in_err-starts.field-0.0) c.in_err-starts.ensures.fetched)

pub new-requires : goal.new-requires
new-requires g c = c.in_ok-starts.ensures.starts.fits

pub returns-in_err-mount-clause-fetched : goal.returns-in_err-mount-clause-fetched
returns-in_err-mount-clause-fetched g c =
    let p = err_from_is_err_and c.from_residual-in_err-mount.result c.from_residual-in_err-mount.ensures.1 in
    rw (p.1, p.2) (few_memory c.args.shape.now (map g.U.Unit.model c.args.units.now) (map g.U.Unit.model c.read_starts.new.units)
    (most_fetches (image_of c.args.shape.now (map g.U.Unit.model c.args.units.now)))
    (fronts_most c.args.shape.now (map g.U.Unit.model c.args.units.now) (map g.U.Unit.model c.read_starts.new.units) None c.in_ok-starts.ensures.fetched))

pub survey_lines-requires-clause-fit : goal.survey_lines-requires-clause-fit
survey_lines-requires-clause-fit g c =
    fit_kept c.args.shape.now (map g.U.Unit.model c.args.units.now) (map g.U.Unit.model c.read_starts.new.units) c.requires.fit c.read_starts.ensures.kept

pub survey_lines-requires-clause-closed : goal.survey_lines-requires-clause-closed
survey_lines-requires-clause-closed g c = subst NoneOpen (sym c.in_ok-starts.ensures.fetched.1.image) c.requires.closed

pub survey_lines-requires-clause-size : goal.survey_lines-requires-clause-size
survey_lines-requires-clause-size g c = c.in_ok-starts.ensures.size ∙ c.new-buffer.ensures.size

pub survey_lines-requires-clause-starts : goal.survey_lines-requires-clause-starts
survey_lines-requires-clause-starts g c =
    let i = image_of c.args.shape.now (map g.U.Unit.model c.args.units.now) in
    subst (λ j. IsTable c.args.shape.now.chunks (line_start j) c.deref.result.now) (sym c.in_ok-starts.ensures.fetched.1.image)
    (subst (IsTable c.args.shape.now.chunks (line_start i)) (sym c.deref.ensures.value) c.in_ok-starts.ensures.starts.lines)

pub survey_lines-requires-clause-mount : goal.survey_lines-requires-clause-mount
survey_lines-requires-clause-mount g c =
    let i = image_of c.args.shape.now (map g.U.Unit.model c.args.units.now) in
    subst (λ j. IsMountOf j c.in_ok-mount.mount) (sym c.in_ok-starts.ensures.fetched.1.image)
    (mount_of i c.args.shape.now.chunks c.in_ok-starts.starts c.in_ok-mount.mount c.in_ok-starts.ensures.starts refl c.in_ok-mount.ensures.mount
    c.in_ok-mount.ensures.lines c.in_ok-mount.ensures.head)

pub returns-in_err-survey-clause-fetched : goal.returns-in_err-survey-clause-fetched
returns-in_err-survey-clause-fetched g c =
    let p = err_from_is_err_and c.from_residual-in_err-survey.result c.from_residual-in_err-survey.ensures.1 in
    rw (p.1, p.2) (lines_most c.args.shape.now (map g.U.Unit.model c.args.units.now) (map g.U.Unit.model c.read_starts.new.units)
    (map g.U.Unit.model c.survey_lines.new.units) (Some c.in_err-survey.field-0.0) c.in_ok-starts.ensures.fetched c.in_err-survey.ensures.fetched)

pub returns-in_err-survey-clause-kept : goal.returns-in_err-survey-clause-kept
returns-in_err-survey-clause-kept g c =
    kept_more (map g.U.Unit.model c.args.units.now) (map g.U.Unit.model c.read_starts.new.units)
    (map g.U.Unit.model c.survey_lines.new.units) c.read_starts.ensures.kept c.survey_lines.ensures.kept

pub chunk_states-requires : goal.chunk_states-requires
chunk_states-requires g c = record {
  fit = fit_kept c.args.shape.now (map g.U.Unit.model c.args.units.now) (map g.U.Unit.model c.survey_lines.new.units) c.requires.fit
      (kept_more (map g.U.Unit.model c.args.units.now) (map g.U.Unit.model c.read_starts.new.units)
      (map g.U.Unit.model c.survey_lines.new.units) c.read_starts.ensures.kept c.survey_lines.ensures.kept);
}

pub returns-in_err-chunks-clause-fetched : goal.returns-in_err-chunks-clause-fetched
returns-in_err-chunks-clause-fetched g c =
    let p = err_from_is_err_and c.from_residual-in_err-chunks.result c.from_residual-in_err-chunks.ensures.1 in
    rw (p.1, p.2) (few_memory c.args.shape.now (map g.U.Unit.model c.args.units.now) (map g.U.Unit.model c.survey_lines.new.units)
    (most_fetches (image_of c.args.shape.now (map g.U.Unit.model c.args.units.now)))
    (lines_most c.args.shape.now (map g.U.Unit.model c.args.units.now) (map g.U.Unit.model c.read_starts.new.units)
    (map g.U.Unit.model c.survey_lines.new.units) None c.in_ok-starts.ensures.fetched c.in_ok-survey.ensures.fetched))

pub returns-in_err-chunks-clause-kept : goal.returns-in_err-chunks-clause-kept
returns-in_err-chunks-clause-kept g c =
    kept_more (map g.U.Unit.model c.args.units.now) (map g.U.Unit.model c.read_starts.new.units)
    (map g.U.Unit.model c.survey_lines.new.units) c.read_starts.ensures.kept c.survey_lines.ensures.kept

pub found_of-requires-clause-mount : goal.found_of-requires-clause-mount
found_of-requires-clause-mount g c = c.in_ok-mount.ensures.mount

pub found_of-requires-clause-rows : goal.found_of-requires-clause-rows
found_of-requires-clause-rows g c = c.in_ok-mount.ensures.lines

pub found_of-requires-clause-lines : goal.found_of-requires-clause-lines
found_of-requires-clause-lines g c = c.in_ok-survey.ensures.survey.lines.count

pub found_of-requires-clause-tops : goal.found_of-requires-clause-tops
found_of-requires-clause-tops g c = c.in_ok-survey.ensures.survey.count.tally.tops.count

pub found_of-requires-clause-few : goal.found_of-requires-clause-few
found_of-requires-clause-few g c =
    let us = map g.U.Unit.model c.read_starts.new.units in
    few_here (image_of c.args.shape.now us) c.args.shape.now.chunks c.in_ok-survey.survey.count c.requires.accepted
    (fit_image c.args.shape.now us (fit_kept c.args.shape.now (map g.U.Unit.model c.args.units.now) us c.requires.fit c.read_starts.ensures.kept)) refl
    c.in_ok-survey.ensures.survey.count

pub found_of-requires-clause-within : goal.found_of-requires-clause-within
found_of-requires-clause-within g c = c.in_ok-survey.ensures.survey.count.within

pub returns-in_err-found-clause-fetched : goal.returns-in_err-found-clause-fetched
returns-in_err-found-clause-fetched g c =
    let p = err_from_is_err_and c.from_residual-in_err-found.result c.from_residual-in_err-found.ensures.1 in
    rw (p.1, p.2) (few_memory c.args.shape.now (map g.U.Unit.model c.args.units.now) (map g.U.Unit.model c.survey_lines.new.units)
    (most_fetches (image_of c.args.shape.now (map g.U.Unit.model c.args.units.now)))
    (lines_most c.args.shape.now (map g.U.Unit.model c.args.units.now) (map g.U.Unit.model c.read_starts.new.units)
    (map g.U.Unit.model c.survey_lines.new.units) None c.in_ok-starts.ensures.fetched c.in_ok-survey.ensures.fetched))

pub returns-in_err-found-clause-kept : goal.returns-in_err-found-clause-kept
returns-in_err-found-clause-kept g c =
    kept_more (map g.U.Unit.model c.args.units.now) (map g.U.Unit.model c.read_starts.new.units)
    (map g.U.Unit.model c.survey_lines.new.units) c.read_starts.ensures.kept c.survey_lines.ensures.kept

pub returns-clause-fetched : goal.returns-clause-fetched
returns-clause-fetched g c =
    lines_most c.args.shape.now (map g.U.Unit.model c.args.units.now) (map g.U.Unit.model c.read_starts.new.units)
    (map g.U.Unit.model c.survey_lines.new.units) None c.in_ok-starts.ensures.fetched c.in_ok-survey.ensures.fetched

pub returns-clause-kept : goal.returns-clause-kept
returns-clause-kept g c =
    kept_more (map g.U.Unit.model c.args.units.now) (map g.U.Unit.model c.read_starts.new.units)
    (map g.U.Unit.model c.survey_lines.new.units) c.read_starts.ensures.kept c.survey_lines.ensures.kept

pub returns-clause-found : goal.returns-clause-found
returns-clause-found g c =
    let us = map g.U.Unit.model c.args.units.now in
    let i = image_of c.args.shape.now us in
    let first = c.in_ok-starts.ensures.fetched.1.image in
    let second = c.in_ok-survey.ensures.fetched.1.image in
    c.in_ok-found.ensures i (fit_image c.args.shape.now us c.requires.fit) refl
    (mount_of i c.args.shape.now.chunks c.in_ok-starts.starts c.in_ok-mount.mount c.in_ok-starts.ensures.starts refl c.in_ok-mount.ensures.mount
    c.in_ok-mount.ensures.lines c.in_ok-mount.ensures.head)
    (subst (λ j. IsSurvey j c.args.shape.now.chunks c.in_ok-survey.survey) first c.in_ok-survey.ensures.survey)
    (c.in_ok-chunks.ensures ∙ ap taken_states (second ∙ first))
