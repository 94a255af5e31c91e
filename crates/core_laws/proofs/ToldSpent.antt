-- Which lines are spent, and so whether one may be freed, depends on what the engine was told alone.
use Rattle.std.proofs.Common.{◌≡◌, ◌<◌, ◌≤◌, ℕ, Some, List, sym, subst, ap, ◌∙◌}
use Rattle.std.specs.List.{AllByRecursion, Contains}
use Rattle.pblk_model.specs.Image.{Image}
use Rattle.pblk_world.specs.EngineLog.{Begun, begun, life_of, openings}
use Rattle.pblk_world.specs.Events.{Logged}
use Rattle.pblk_world.specs.Freeing.{MayFree}
use Rattle.pblk_world.specs.Fronts.{synced}
use Rattle.pblk_world.specs.Orders.{NoneToFree}
use Rattle.pblk_world.specs.Space.{open_addresses}
use Rattle.pblk_world.specs.Victims.{engine_prefix, positions_in, taken_up_to}
use Rattle.pblk_world.specs.World.{World, Logs, log_of}
use Rattle.pblk_world.specs.LegalMounts.{IsLegalMount}
use Rattle.world_laws.specs.SameTold.{AreSameTold}
use Rattle.world_laws.proofs.ToldImages.{told_back}
use Rattle.world_laws.proofs.ToldTables.{live_told, newest_told, over_told, positions_told, seq_told, takers_told}
use Rattle.core_laws.specs.Spent.{IsSpent, OpensWhenFull}
use Rattle.core_laws.proofs.FreeLines.{may_free}
use Rattle.core_laws.proofs.SpentLines.{is_spent}

pub spent_told : (i : Image) (a b : Logs) → AreSameTold i a b → (line : ℕ) → IsSpent i a line → IsSpent i b line
spent_told i a b h line is = record {
  in_range = is.in_range;
  over = over_told i a b h line ∙ is.over;
  seq = is.seq;
  has_seq = seq_told i a b h line ∙ is.has_seq;
  newest = is.newest;
  is_newest = newest_told i a b h ∙ is.is_newest;
  older = is.older;
  below_front = subst (AllByRecursion (λ position. position < is.newest.front))
      (sym (ap (λ (log : List Logged). positions_in i b (life_of log line) line) h.own ∙ positions_told i a b h (life_of (a 0) line) line)) is.below_front;
  none_live = live_told i a b h line ∙ is.none_live;
  takers_synced = subst (λ n. n ≤ synced i.shape (b 0)) (sym (takers_told i a b h line))
      (subst (λ (log : List Logged). taken_up_to i a line ≤ synced i.shape log) (sym h.own) is.takers_synced);
}

pub full_told : (i : Image) (a b : Logs) → AreSameTold i a b → OpensWhenFull i a → OpensWhenFull i b
full_told i a b h full = λ o among.
    ap (λ (log : List Logged). open_addresses i (engine_prefix o.number (λ author. log))) h.own
    ∙ full o (subst (λ (log : List Logged). Contains (openings log) o) h.own among)

-- ---- where no line may be freed

-- the one world is that of a mount that has begun, and in it each line was opened in want of room
module _ (i : Image) (w other : World) (b : Begun) (mount : IsLegalMount i w) (legal : IsLegalMount i other) (begins : begun (log_of w 0) ≡ Some b)
    (full : OpensWhenFull i (log_of w)) where
  pub none_by_spent : ((line : ℕ) → IsSpent i (log_of other) line → IsSpent i (log_of w) line) → NoneToFree i (log_of w) → NoneToFree i (log_of other)
  none_by_spent same none line may = none line (may_free i w mount b begins full line (same line (is_spent i other legal line may)))

  pub may_told : AreSameTold i (log_of w) (log_of other) → (line : ℕ) → MayFree i (log_of other) line → MayFree i (log_of w) line
  may_told told line may =
      may_free i w mount b begins full line
      (spent_told i (log_of other) (log_of w) (told_back i (log_of w) (log_of other) told) line (is_spent i other legal line may))

  pub none_told : AreSameTold i (log_of w) (log_of other) → NoneToFree i (log_of w) → NoneToFree i (log_of other)
  none_told told none line may = none line (may_told told line may)

-- the other way round, too
pub may_back : (i : Image) (w other : World) (b : Begun) → IsLegalMount i w → IsLegalMount i other → begun (log_of w 0) ≡ Some b
    → OpensWhenFull i (log_of w) → AreSameTold i (log_of w) (log_of other) → (line : ℕ) → MayFree i (log_of w) line → MayFree i (log_of other) line
may_back i w other b mount legal begins full told =
    may_told i other w b legal mount (ap begun told.own ∙ begins) (full_told i (log_of w) (log_of other) told full)
    (told_back i (log_of w) (log_of other) told)
