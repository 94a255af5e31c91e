use Rattle.std.proofs.Common.{◌≡◌, sym, ap, ◌∙◌, subst}
use Rattle.std.specs.Option.{option_map}
use Rattle.std.proofs.lemmas.Result.{err_from_is_err_and}
use Rattle.pblk_model.specs.declared.image.ImageErr.TheVariants as errors
use Rattle.pblk_model.specs.Accepted.{IsAccepted, settings_checks}
use Rattle.pblk_model.specs.Checks.{first_failing}
use Rattle.pblk_model.specs.Geometry.{shape_with}
use Rattle.pblk_model.specs.ImageFile.{shape_at, short_of}
use Rattle.ocssd_geometry.specs.Numbers.{numbers_of}
use Rattle.drive_image.specs.Parts.{header_refusals, number_refusals}
use Rattle.drive_image.proofs.Refusals.{append_some, append_none, first_some, first_none}
use Rattle.drive_image.proofs.ShapeParts.{shape_same}
use Rattle.drive_image.proofs.parts.read_numbers.Goals as goal
use Rattle.drive_image.proofs.parts.read_numbers.Goals.{After-settings_of}

pub returns-in_err-check_header-clause-refused : goal.returns-in_err-check_header-clause-refused
returns-in_err-check_header-clause-refused c =
    let p = err_from_is_err_and c.from_residual.result c.from_residual.ensures.1 in
    let b = c.args.bytes.now in
    rw (p.1, p.2) (sym (append_some (header_refusals b) (number_refusals b) _ (sym c.in_err-check_header.ensures.refused)))

pub returns-in_err-check_reaches-clause-refused : goal.returns-in_err-check_reaches-clause-refused
returns-in_err-check_reaches-clause-refused c =
    let r = c.from_residual-in_err-check_reaches in
    let p = err_from_is_err_and r.result r.ensures.1 in
    let b = c.args.bytes.now in
    rw (p.1, p.2) (sym (append_none (header_refusals b) (number_refusals b) (sym c.in_ok-check_header.ensures.refused)
    ∙ first_some (short_of b 4128) _ _ (sym c.in_err-check_reaches.ensures.refused)))

pub returns-in_err-geometry-clause-refused : goal.returns-in_err-geometry-clause-refused
returns-in_err-geometry-clause-refused c =
    let r = c.from_residual-in_err-geometry in
    let p = err_from_is_err_and r.result r.ensures.1 in
    let b = c.args.bytes.now in
    rw (p.1, p.2) (sym (append_none (header_refusals b) (number_refusals b) (sym c.in_ok-check_header.ensures.refused)
    ∙ (first_none (short_of b 4128) _ (sym c.in_ok-check_reaches.ensures.refused)
    ∙ first_some _ _ _ (sym c.in_err-geometry.ensures.refused))))

-- the shape that is judged is that of the image
same : (c : After-settings_of) → shape_with
    (numbers_of c.in_ok-geometry.geometry) c.u32_at-sector.result c.u64_at-capacity.result c.u64_at-ring.result ≡ shape_at c.args.bytes.now
same c = shape_same c.args.bytes.now _ _ _ _ (record {
  geometry = c.in_ok-geometry.ensures.numbers;
  sector_is = c.u32_at-sector.ensures;
  capacity_is = c.u64_at-capacity.ensures;
  ring_is = c.u64_at-ring.ensures;
})

pub returns-in_err-settings-clause-refused : goal.returns-in_err-settings-clause-refused
returns-in_err-settings-clause-refused c =
    let r = c.from_residual-in_err-settings in
    let p = err_from_is_err_and r.result r.ensures.1 in
    let b = c.args.bytes.now in
    let is = c.in_err-settings.ensures.refused ∙ ap (λ s. option_map errors.Settings (first_failing (settings_checks s)))
    (same (goal.at.returns-in_err-settings-clause-refused c).After-settings_of) in
    rw (p.1, p.2) (sym (append_none (header_refusals b) (number_refusals b) (sym c.in_ok-check_header.ensures.refused)
    ∙ (first_none (short_of b 4128) _ (sym c.in_ok-check_reaches.ensures.refused)
    ∙ (first_none _ _ (sym c.in_ok-geometry.ensures.refused)
    ∙ first_some _ _ _ (sym is)))))

pub returns-clause-refused : goal.returns-clause-refused
returns-clause-refused c =
    let b = c.args.bytes.now in
    let is = c.in_ok-settings.ensures.refused ∙ ap (λ s. option_map errors.Settings (first_failing (settings_checks s)))
    (same (goal.at.returns-clause-refused c).After-settings_of) in
    sym (append_none (header_refusals b) (number_refusals b) (sym c.in_ok-check_header.ensures.refused)
    ∙ (first_none (short_of b 4128) _ (sym c.in_ok-check_reaches.ensures.refused)
    ∙ (first_none _ _ (sym c.in_ok-geometry.ensures.refused)
    ∙ first_none _ _ (sym is))))

pub returns-clause-shape : goal.returns-clause-shape
returns-clause-shape c =
    let s = c.in_ok-settings.ensures in
    rw (s.sector, s.capacity, s.ring) (same (goal.at.returns-clause-shape c).After-settings_of)

pub returns-clause-accepted : goal.returns-clause-accepted
returns-clause-accepted c = subst IsAccepted (same (goal.at.returns-clause-accepted c).After-settings_of) c.in_ok-settings.ensures.accepted
