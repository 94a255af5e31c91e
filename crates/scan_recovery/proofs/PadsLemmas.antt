-- Lemmas on the words of Pads.
use Rattle.std.proofs.Common.{length, ℕ, ◌*◌, ◌+◌, ◌-◌, ◌/◌, ◌≡◌}
use Rattle.std.proofs.lemmas.List.{length-replicate}
use Rattle.pblk_model.specs.Marks.{pad_block}
use Rattle.pblk_model.specs.declared.shape.Shape.{Shape}
use Rattle.scan_recovery.specs.Pads.{pads_from}

pub pads_count : (s : Shape) (at : ℕ) → length (pads_from s at) ≡ (at / s.ws_opt + 1) * s.ws_opt - at
pads_count s at = length-replicate ((at / s.ws_opt + 1) * s.ws_opt - at) (pad_block s)
