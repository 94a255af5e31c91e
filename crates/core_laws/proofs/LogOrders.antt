-- The logs of a legal mount are in order.
use Rattle.std.proofs.Common.{◌≡◌, ◌<◌, ◌≤◌, ◌^◌, ◌∙◌, arith}
use Rattle.std.specs.List.{Contains}
use Rattle.pblk_model.specs.Accepted.{IsAccepted}
use Rattle.pblk_model.specs.Marks.{meta_lba}
use Rattle.pblk_model.specs.Image.{Image}
use Rattle.pblk_world.specs.World.{World, log_of}
use Rattle.pblk_world.specs.EngineLog.{Opened, Placed, placements}
use Rattle.pblk_world.specs.Legal.{IsLegal}
use Rattle.pblk_world.specs.Placing.{MayPlace}
use Rattle.pblk_world.specs.Victims.{engine_prefix}
use Rattle.pblk_world.proofs.Answered.{answers_fit}
use Rattle.world_laws.proofs.Openings.{placed_at}
use Rattle.world_laws.proofs.Stripes.{IsPlaced, placed_is}
use Rattle.pblk_world.specs.LegalMounts.{IsLegalMount}
use Rattle.core_laws.specs.InOrder.{IsInPlace, AreSoundLogs}
use Rattle.core_laws.proofs.FreedMoments.{freed_before}
use Rattle.core_laws.proofs.UnansweredLines.{still_open}
use Rattle.core_laws.proofs.UsersEntries.{AreInOrder, in_order as entries_in_order}
use Rattle.pblk_model.proofs.Lists.{IsAmong, all_imply, among_all}
use Rattle.pblk_model.proofs.Parts.{contained_among}

in_place : (i : Image) (w : World) (p : Placed) → IsLegal i w → Contains (placements (log_of w 0)) p → IsInPlace i (log_of w 0) p
in_place i w p legal there =
    let is : IsPlaced (log_of w 0) p = placed_is (log_of w 0) p there in
    let may : MayPlace i (engine_prefix p.number (log_of w)) p.stripe = placed_at i w p.number p.stripe is.logged legal is.there is.event in
    let life : p.life ≡ Opened may.opening = is.life ∙ may.is_open in
    record {
      in_range = may.in_range;
      chunk = may.chunk;
      opening = may.opening;
      life = life;
      stands = λ waits. still_open i w p legal there waits ∙ life;
    }

pub small_capacity : (i : Image) → IsAccepted i.shape → i.shape.capacity ≤ meta_lba
small_capacity i accepted = let few : i.shape.capacity < 2 ^ 40 = accepted.target.capacity_number in omega arith

pub in_order : (i : Image) (w : World) → IsLegalMount i w → AreSoundLogs i (log_of w)
in_order i w mount =
    let small : i.shape.capacity ≤ meta_lba = small_capacity i mount.accepted in
    let now : AreInOrder i.shape (log_of w 0) = entries_in_order i w small mount.legal in
    record {
      small = small;
      numbered = now.numbered;
      marked = now.marked;
      named = now.named;
      taken = now.taken;
      placed = all_imply (IsAmong (placements (log_of w 0))) (IsInPlace i (log_of w 0))
          (λ p at. in_place i w p mount.legal (contained_among (placements (log_of w 0)) p at)) (placements (log_of w 0))
          (among_all (placements (log_of w 0)));
      answered = λ unit. answers_fit i w unit mount.legal;
      freed = freed_before i w mount.legal;
    }
