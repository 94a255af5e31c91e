use Rattle.std.proofs.Common.{map, refl, subst, ◌∙◌}
use Rattle.std.proofs.lemmas.Result.{err_from_is_err_and}
use Rattle.pblk_model.specs.declared.shape.Shape.{Shape}
use Rattle.ocssd_drive.specs.Drive.{shape_of}
use Rattle.ocssd_drive.specs.Units.{WornUnit}
use Rattle.stripe_parity.specs.ParityBytes.{IsFileRefusal}
use Rattle.stripe_parity.specs.Rebuilding.{drive_image}
use Rattle.pblk_cli.specs.Parities.{IsFileOf}
use Rattle.pblk_cli.proofs.HandedDrives.{unarmed_of}
use Rattle.pblk_cli.proofs.ParityComes.{file_refused, first_parity, rebuild_refused}
use Rattle.pblk_cli.proofs.parity.rebuild_from.Goals as goal
use Rattle.pblk_cli.proofs.parity.rebuild_from.Goals.{After-rebuild}

-- the bytes are the file of what was read
file : (c : After-rebuild) → IsFileOf (shape_of c.args.drive.now) c.args.bytes.now c.in_ok-parity.parity
file c = record {
  parity = c.shape.ensures.parity;
  shape = c.in_ok-parity.ensures.shape ∙ c.shape-shape.ensures.shape;
  spelled = c.in_ok-parity.ensures.form;
}

pub returns-in_err-parity-clause-refused : goal.returns-in_err-parity-clause-refused
returns-in_err-parity-clause-refused c =
    let e = err_from_is_err_and c.from_residual.result c.from_residual.ensures.1 in
    rw (e.1, e.2) (file_refused (drive_image c.args.drive.now) c.args.unit c.args.bytes.now c.in_err-parity.field-0.0
    (subst (λ (s : Shape). IsFileRefusal s c.args.bytes.now c.in_err-parity.field-0.0) c.shape-shape.ensures.shape c.in_err-parity.ensures.refused))

pub returns-in-Ok-clause-anew : goal.returns-in-Ok-clause-anew
returns-in-Ok-clause-anew c =
    let is = file (goal.at.returns-in-Ok-clause-anew c).After-rebuild in
    let h = c.in-Ok.ensures in
    record {
      parity = c.in_ok-parity.parity;
      file = is;
      same = h.same;
      anew = h.anew;
      first = λ i lost. h.rebuilt i lost.fits
          (first_parity (drive_image c.args.drive.now) c.args.unit c.args.bytes.now c.in_ok-parity.parity i is lost) lost.agree;
      blocks_are = h.blocks;
      numbers = h.numbers;
      wear = h.wear;
      whole = h.whole;
    }

pub returns-clause-refused : goal.returns-clause-refused
returns-clause-refused c =
    let is = file (goal.at.returns-clause-refused c).After-rebuild in
    rebuild_refused (drive_image c.args.drive.now) (map (λ (u : WornUnit). u.unit) c.args.drive.now.units)
    (map (λ (u : WornUnit). u.unit) c.rebuild.new.drive.units)
    c.in_ok-parity.parity c.args.unit c.args.bytes.now c.in-Err.e is (unarmed_of c.args.drive.now c.args.drive.now refl c.requires.quiet)
    c.in-Err.ensures.fetched c.in-Err.ensures.refused
