-- What units did while their drive was made ready is of a legal world.
use Rattle.std.proofs.Common.{◌≡◌, ℕ, Some, List, [], ap, ◌∙◌}
use Rattle.std.specs.Prelude.{slice_get}
use Rattle.std.specs.Option.{option_map}
use Rattle.std.proofs.lemmas.Option.{slice_get-map}
use Rattle.pblk_model.specs.declared.shape.Shape.{Shape}
use Rattle.pblk_model.specs.Accepted.{IsAccepted}
use Rattle.pblk_model.specs.Image.{Image}
use Rattle.unit_port.specs.Commands.{IsKept}
use Rattle.unit_port.specs.Unit.{ModelUnit}
use Rattle.scan_recovery.specs.Readying.{AreHandedBack}
use Rattle.scan_recovery.specs.Units.{AreFit, IsUnitOf, image_of}
use Rattle.scan_recovery.proofs.PadLoops.{fit_kept}
use Rattle.pblk_world.specs.World.{log_of}
use Rattle.step_laws.specs.Opened.{AreArmed, new_events}
use Rattle.step_laws.proofs.Worlds.{legal_mount, logs_are, media_are, stops_there, units_quiet}
use Rattle.pblk_engine.specs.Arms.{IsArm}
use Rattle.pblk_engine.proofs.OpenedPasts.{armed_still}
use Rattle.block_target.specs.Opened.{AreReadied, readied_world}

module _ (s : Shape) (us new : List ModelUnit) (accepted : IsAccepted s) (fit : AreFit s us) (armed : AreArmed us) (back : AreHandedBack s us new) where
  -- each unit is as that world leaves it
  unit_readied : (number : ℕ) (u : ModelUnit) → slice_get new number ≡ Some u
      → (was : ModelUnit) × (slice_get us number ≡ Some was) × IsArm (image_of s us) (log_of (readied_world s us new)) number was u
  unit_readied number u there =
      let of : IsUnitOf s u = (fit_kept s us new fit back.kept).each number u there in
      let was : (o : ModelUnit) × (slice_get us number ≡ Some o) × IsKept o u = back.kept.each number u there in (
        was.0,
        was.1,
        record {
          shape = of.shape;
          media = ap (λ (j : Image). slice_get j.units number) (media_are s us new back.readied fit)
              ∙ slice_get-map (λ (x : ModelUnit). x.media) new number ∙ ap (option_map (λ (x : ModelUnit). x.media)) there;
          fit = of.fits;
          log = logs_are s us new back.readied number was.0 u was.1 there;
          arms = was.2.armed;
          armed = armed_still was.0 u was.2.armed (armed number was.0 was.1);
          stopped = stops_there s us new accepted fit armed back.readied number u there;
        },
      )

  -- what they did is of a legal world
  pub are_readied : AreReadied s us new
  are_readied = record {
    legal = legal_mount s us new accepted fit armed back.readied;
    none = units_quiet s 0 [] (new_events us new);
    each = unit_readied;
  }
