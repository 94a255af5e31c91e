-- A line that may be freed by what the engine knew may be so by all that was done, where no stripe
-- was lost: each block that is written in it is one of a stripe that has landed.
use Rattle.std.proofs.Common.{◌≡◌, inl, ℕ, ◌<◌, true, Some, List, length, refl, sym, subst, ap, ap₂, ◌∙◌}
use Rattle.std.specs.List.{Contains}
use Rattle.pblk_model.specs.Image.{Image}
use Rattle.pblk_model.specs.Records.{Record}
use Rattle.pblk_laws.specs.LineBlocks.{written_at}
use Rattle.pblk_world.specs.EngineLog.{Opened, Opening, Placed, is_answered, life_of, openings, stripes_of}
use Rattle.pblk_world.specs.Events.{Logged}
use Rattle.pblk_world.specs.Freeing.{HasLandedIn, IsAnswered, IsLandedRecord, IsWrittenRecord, MayFree}
use Rattle.pblk_world.specs.Lines.{known_image, place_of}
use Rattle.pblk_world.specs.World.{World, Logs, log_of, media}
use Rattle.pblk_model.proofs.Options.{split_then}
use Rattle.pblk_world.specs.LegalMounts.{IsLegalMount, NoStripeLost}
use Rattle.world_laws.specs.SameTold.{AreSameTold}
use Rattle.world_laws.proofs.Freeing.{landed_in_told}
use Rattle.world_laws.proofs.LifePlaces.{units_now}
use Rattle.world_laws.proofs.LineAddresses.{same_place}
use Rattle.world_laws.proofs.LineBlocks.{IsStripeBlock, block_placed, opened_line}
use Rattle.world_laws.proofs.NextPrograms.{landed_of_answered}
use Rattle.world_laws.proofs.ToldImages.{told_back}
use Rattle.core_laws.proofs.LandedNow.{opened_now}
use Rattle.core_laws.proofs.PlainLogs.{never_lost}
use Rattle.rest_laws.proofs.ToldRest.{answered_told, may_free_told}

module _ (i : Image) (w : World) (mount : IsLegalMount i w) (none_lost : NoStripeLost (log_of w 0)) (b : Logs) (h : AreSameTold i (log_of w) b) (line : ℕ)
    (may : MayFree i b line) where
  answered : IsAnswered (log_of w) (life_of (log_of w 0) line)
  answered = answered_told i b (log_of w) (told_back i (log_of w) b h) line may.answered

  -- a written block is one of a stripe that has landed
  landed_of_written : (o : Opening) (r : Record) → life_of (log_of w 0) line ≡ Opened o → IsWrittenRecord i (log_of w) o r → IsLandedRecord i (log_of w) o r
  landed_of_written o r is_open x = record {
    placed = s.placed;
    of_opening = s.there;
    landed = landed_of_answered (log_of w 0) s.placed (all s.placed s.there) (never_lost (log_of w 0) none_lost s.placed);
    index = s.index;
    block = x.block;
    is_block = s.is_block;
    place = same_place (known_image i (log_of w)) (media i (log_of w)) o.line r.at refl (units_now i w mount o here) ∙ at.1
        ∙ ap₂ (λ unit k. Some (unit, k)) (sym s.on) s.place;
    bears = x.bears;
  }
    where
      its : Contains (openings (log_of w 0)) o × (o.line ≡ line) × (o.number < length (log_of w 0))
      its = opened_now i w mount line o is_open

      here : life_of (log_of w 0) o.line ≡ Opened o
      here = ap (life_of (log_of w 0)) its.1 ∙ is_open

      at : (place : ℕ × ℕ) × (place_of (media i (log_of w)) o.line r.at ≡ Some place) × (written_at (media i (log_of w)) o.line place ≡ Some x.block)
      at = split_then (written_at (media i (log_of w)) o.line) (place_of (media i (log_of w)) o.line r.at) x.block
          (sym (block_placed (media i (log_of w)) o.line r.at) ∙ x.written)

      s : IsStripeBlock (log_of w 0) o at.0.0 at.0.1 x.block
      s = (opened_line i w mount o here).blocks at.0.0 at.0.1 x.block at.2

      all : (p : Placed) → Contains (stripes_of (log_of w 0) o) p → is_answered (log_of w 0) p ≡ true
      all = subst (IsAnswered (log_of w)) is_open answered

  -- by the engine's log it has landed there too
  landed_there : (o : Opening) (r : Record) → life_of (log_of w 0) line ≡ Opened o → IsWrittenRecord i (log_of w) o r → IsLandedRecord i b o r
  landed_there o r is_open written =
      subst (λ life. HasLandedIn i b life line r) (ap (λ (log : List Logged). life_of log line) h.own ∙ is_open)
      (landed_in_told i (log_of w) b h line r
      (subst (λ life. HasLandedIn i (log_of w) life line r) (sym is_open) (landed_of_written o r is_open written)))

  pub may_free_now : MayFree i (log_of w) line
  may_free_now = may_free_told i b (log_of w) (told_back i (log_of w) b h) line
      (λ o is_open r written. inl (landed_there o r (ap (λ (log : List Logged). life_of log line) (sym h.own) ∙ is_open) written)) may
