-- Where no reset is left to be made, the engine has noted all that were.
use Rattle.std.proofs.Common.{◌≡◌, ℕ, Some}
use Rattle.pblk_model.specs.Image.{Image}
use Rattle.pblk_world.specs.AtRest.{IsUnnotedReset}
use Rattle.pblk_world.specs.EngineLog.{Begun, begun}
use Rattle.pblk_world.specs.Lines.{are_empty, known_image}
use Rattle.pblk_world.specs.World.{World, log_of}
use Rattle.pblk_model.proofs.Tests.{not_both}
use Rattle.pblk_world.specs.LegalMounts.{IsLegalMount}
use Rattle.pblk_world.specs.Orders.{AreReset}
use Rattle.rest_laws.proofs.UsedResets.{IsUnheardReset, in_range, still_given, unempty_now, unnoted}

module _ (i : Image) (w : World) (mount : IsLegalMount i w) (b : Begun) (begins : begun (log_of w 0) ≡ Some b) (unit number : ℕ) where
  pub all_noted : AreReset i (log_of w) → ¬ IsUnnotedReset (log_of w) unit number
  all_noted all is =
      let it : IsUnheardReset (log_of w) unit number = unnoted (log_of w) unit number is in
      not_both (are_empty (known_image i (log_of w)) it.reset.chunk)
      (all it.reset.chunk (in_range i w mount b begins unit number it) (still_given i w mount b begins unit number it))
      (unempty_now i w mount b begins unit number it)
