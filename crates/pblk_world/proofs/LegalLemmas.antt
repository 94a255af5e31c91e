-- Lemmas on the words of Legal.
use Rattle.std.proofs.Common.{ap, take, ◌∙◌, ◌≡◌}
use Rattle.std.proofs.Math.Seq.{take-length}
use Rattle.pblk_model.specs.Image.{Image}
use Rattle.pblk_world.specs.Events.{Step}
use Rattle.pblk_world.specs.Legal.{IsLegalStep}
use Rattle.pblk_world.specs.World.{World, log_of, prefixes}

pub whole_own : (i : Image) (s : Step) (w : World) → IsLegalStep i (log_of w) s → prefixes s.logged (log_of w) s.author ≡ log_of w s.author
whole_own i s w h = ap (λ n. take n (log_of w s.author)) h.knowledge.own ∙ take-length (log_of w s.author)
