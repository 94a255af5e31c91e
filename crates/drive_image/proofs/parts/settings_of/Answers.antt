use Rattle.std.proofs.Common.{◌∙◌, ap, subst}
use Rattle.std.specs.Option.{option_map}
use Rattle.pblk_model.specs.Accepted.{IsAccepted}
use Rattle.pblk_model.specs.Geometry.{shape_with}
use Rattle.pblk_model.specs.declared.image.ImageErr.TheVariants as errors
use Rattle.std.proofs.lemmas.Result.{err_from_is_err_and}
use Rattle.ocssd_geometry.specs.Numbers.{numbers_of}
use Rattle.drive_image.proofs.Rings.{same_refusal, accepted_ring}
use Rattle.drive_image.proofs.parts.settings_of.Goals as goal

pub returns-clause-refused : goal.returns-clause-refused
returns-clause-refused c = c.in_ok-check_settings.ensures.refused
    ∙ ap (option_map errors.Settings) (same_refusal (numbers_of c.args.geometry.now) c.args.sector c.args.capacity c.args.ring c.ring_of.result
    (record { fits = c.ring_of.ensures.fits; large = c.ring_of.ensures.large }))

pub returns-clause-ring : goal.returns-clause-ring
returns-clause-ring c = accepted_ring (numbers_of c.args.geometry.now) c.args.sector c.args.capacity c.args.ring c.ring_of.result
    (record { fits = c.ring_of.ensures.fits; large = c.ring_of.ensures.large }) c.in_ok-check_settings.ensures.accepted

pub returns-clause-accepted : goal.returns-clause-accepted
returns-clause-accepted c = subst (λ r. IsAccepted (shape_with (numbers_of c.args.geometry.now) c.args.sector c.args.capacity r))
    (returns-clause-ring c) c.in_ok-check_settings.ensures.accepted

pub returns-in_err-check_settings-clause-refused : goal.returns-in_err-check_settings-clause-refused
returns-in_err-check_settings-clause-refused c =
    let p = err_from_is_err_and c.from_residual.result c.from_residual.ensures.1 in
    rw (p.1, p.2) (c.in_err-check_settings.ensures.refused
    ∙ ap (option_map errors.Settings) (same_refusal (numbers_of c.args.geometry.now) c.args.sector c.args.capacity c.args.ring c.ring_of.result
    (record { fits = c.ring_of.ensures.fits; large = c.ring_of.ensures.large })))
