-- The window and the map of a core after an answer, together.
use Rattle.std.proofs.Common.{◌≡◌, ℕ, ◌<◌, ◌≤◌, Some, List, [], ◌∷◌, refl, sym, subst, ap, ◌∙◌, le_trans}
use Rattle.std.specs.FinMap as fin
use Rattle.pblk_model.specs.Image.{Image}
use Rattle.pblk_world.specs.EngineLog.{Answer}
use Rattle.pblk_world.specs.World.{World, Logs, log_of}
use Rattle.pblk_world.specs.Fronts.{first_position}
use Rattle.pblk_world.specs.Space.{freed}
use Rattle.stripe_placer.specs.Placing.{Program}
use Rattle.write_window.specs.Window.{WindowView, turned}
use Rattle.write_window.specs.declared.held.Progress.TheVariants.{Readable}
use Rattle.pblk_world.specs.LegalMounts.{IsLegalMount}
use Rattle.core_laws.specs.Stepping.{after}
use Rattle.core_laws.specs.SlotOf.{slot_of}
use Rattle.core_laws.specs.WindowOf.{HeldSectors, sectors_in, window_from}
use Rattle.core_laws.proofs.KeptSlots.{first_kept}
use Rattle.core_laws.proofs.NotedAnswers.{MayNote, none_begun, noting}
use Rattle.pblk_core.specs.Readable.{ReadBlock, all_moved, all_readable, reads_of}
use Rattle.pblk_core.specs.Stands.{Stands}
use Rattle.pblk_core.specs.declared.target_core.Core.{Core}
use Rattle.pblk_core.specs.declared.open_lines.OpenLine.{OpenLine}
use Rattle.pblk_core.proofs.AnsweredLogs.{freed_noted}
use Rattle.pblk_core.proofs.LandedWay.{IsOnWay, unit_is}

-- they hold what the logs say, as a core's that stands for them
pub record AreRead (i : Image) (logs : Logs) (new : Core) : Type 0 where
  pub capacity : fin.len new.map ≡ i.shape.capacity
  pub slots : (lba : ℕ) → lba < i.shape.capacity → fin.get new.map lba ≡ Some (slot_of i logs lba)
  pub size : new.window.size ≡ i.shape.ring
  pub window : sectors_in new.window ≡ window_from i.shape (logs 0) new.window.freed
  pub from_first : first_position (logs 0) ≤ new.window.freed
  pub to_freed : new.window.freed ≤ freed i.shape (logs 0)

-- a window keeps its front and its size as blocks become readable
read_front : (bs : List ReadBlock) (w : WindowView) → ((all_readable w bs).freed ≡ w.freed) × ((all_readable w bs).size ≡ w.size)
read_front [] w = (refl, refl)
read_front (b ∷ bs) w = read_front bs (turned w b.mark.position Readable)

-- The blocks from one to before another can be read, in a window that has the front and the size
-- that the core's had.
module _ (i : Image) (w : World) (unit : ℕ) (a : Answer) (knows : List ℕ) (old new : Core) (of : Program) (slot : OpenLine) (low high : ℕ) (mid : WindowView)
    (mount : IsLegalMount i w) (st : Stands i (log_of w) old) (may : MayNote (log_of w) unit a) (is : IsOnWay i w unit of)
    (map_is : new.map ≡ all_moved old.layout.capacity slot.records.line old.map (reads_of slot of.unit low high))
    (capacity_is : fin.len new.map ≡ fin.len old.map) (window_is : new.window ≡ all_readable mid (reads_of slot of.unit low high))
    (front : mid.freed ≡ old.window.freed) (size : mid.size ≡ old.window.size)
    (windows : sectors_in (all_readable mid (reads_of slot unit low high)) ≡ window_from i.shape (after (log_of w) (noting unit a) knows 0) old.window.freed)
    (slots : (lba : ℕ) → lba < i.shape.capacity → fin.get (all_moved old.layout.capacity slot.records.line old.map (reads_of slot unit low high)) lba
    ≡ Some (slot_of i (after (log_of w) (noting unit a) knows) lba)) where
  freed_is : new.window.freed ≡ old.window.freed
  freed_is = ap (λ (v : WindowView). v.freed) window_is ∙ (read_front (reads_of slot of.unit low high) mid).0 ∙ front

  first_is : first_position (after (log_of w) (noting unit a) knows 0) ≡ first_position (log_of w 0)
  first_is = first_kept (log_of w 0) (noting unit a) knows (none_begun unit knows a)

  all : sectors_in new.window ≡ window_from i.shape (after (log_of w) (noting unit a) knows 0) old.window.freed
  all = ap sectors_in window_is ∙ ap (λ v. sectors_in (all_readable mid (reads_of slot v low high))) (unit_is i w unit of is) ∙ windows

  pub are_read : AreRead i (after (log_of w) (noting unit a) knows) new
  are_read = record {
    capacity = capacity_is ∙ st.capacity;
    slots = λ lba below.
        ap (λ m. fin.get m lba) map_is
        ∙ ap (λ v. fin.get (all_moved old.layout.capacity slot.records.line old.map (reads_of slot v low high)) lba) (unit_is i w unit of is)
        ∙ slots lba below;
    size = ap (λ (v : WindowView). v.size) window_is ∙ (read_front (reads_of slot of.unit low high) mid).1 ∙ size ∙ st.size;
    window = all ∙ ap (window_from i.shape (after (log_of w) (noting unit a) knows 0)) (sym (ap (λ (v : HeldSectors). v.freed) all));
    from_first = subst (λ n. first_position (after (log_of w) (noting unit a) knows 0) ≤ n) (sym freed_is)
        (subst (λ n. n ≤ old.window.freed) (sym first_is) st.from_first);
    to_freed = subst (λ n. n ≤ freed i.shape (after (log_of w) (noting unit a) knows 0)) (sym freed_is)
        (le_trans st.to_freed (freed_noted i w st.beginning unit a knows mount may));
  }
