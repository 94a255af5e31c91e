-- What a sector holds after the history, by its slot.
use Rattle.std.proofs.Common.{◌≡◌, ℕ, ◌+◌, ◌-◌, ◌<◌, ◌≤◌, Some, None, Option, List, refl, sym, ap, ◌∙◌, arith}
use Rattle.std.specs.Prelude.{slice_get}
use Rattle.std.specs.List.{find, range_with_len}
use Rattle.std.specs.Option.{option_map_or, option_map}
use Rattle.std.proofs.lemmas.Option.{slice_get-map}
use Rattle.pblk_model.specs.declared.shape.Shape.{Shape}
use Rattle.pblk_model.specs.Bytes.{zeros}
use Rattle.pblk_model.specs.Contents.{contents, sector_of, counted, winner}
use Rattle.pblk_model.specs.History as histories
use Rattle.pblk_model.specs.Image.{Image}
use Rattle.pblk_model.specs.Records.{Record}
use Rattle.pblk_world.specs.World.{World, Logs, log_of}
use Rattle.pblk_world.specs.EngineLog.{Taken, takes, Placed, placements}
use Rattle.pblk_world.specs.Fronts.{first_position, history, last_take}
use Rattle.pblk_world.specs.Lines.{found_image}
use Rattle.pblk_world.specs.Space.{gives_back, freed}
use Rattle.l2p_map.specs.declared.slot.Slot.TheVariants.{Unwritten, Cached}
use Rattle.pblk_world.specs.LegalMounts.{IsLegalMount}
use Rattle.core_laws.specs.SlotOf.{media_of, slot_of_winner, slot_by, slot_of}
use Rattle.write_window.specs.Window.{WindowView, sector_at}
use Rattle.core_laws.specs.WindowOf.{sectors_in, window_from}
use Rattle.core_laws.proofs.CachedEntries.{IsCachedEntry, cached, last_is_among}
use Rattle.core_laws.proofs.UsersEntries.{in_order}
use Rattle.core_laws.proofs.HistorySectors.{latest_sector, first_sector}
use Rattle.step_laws.specs.SlotBlocks.{IsOfLatest, IsBlockOfSlot}
use Rattle.step_laws.proofs.EntryBlocks.{taken_at}
use Rattle.step_laws.proofs.HeldSectors.{cached_held}
use Rattle.step_laws.proofs.WinnerBlocks.{found_shape}
use Rattle.pblk_model.proofs.Maps.{range_get}
use Rattle.pblk_model.proofs.MarksLemmas.{accepted_small}

-- ---- what the mount found

-- a sector of its contents
found_sector : (i : Image) (w : World) (lba : ℕ) → lba < i.shape.capacity
    → slice_get (contents (found_image i (log_of w))) lba ≡ Some (sector_of (found_image i (log_of w)) lba)
found_sector i w lba inside =
    let capacity : (found_image i (log_of w)).shape.capacity ≡ i.shape.capacity = ap (λ (s : Shape). s.capacity) (found_shape i w) in
    let same : 0 + lba ≡ lba = omega arith in
    slice_get-map (sector_of (found_image i (log_of w))) (range_with_len 0 (found_image i (log_of w)).shape.capacity) lba
    ∙ ap (option_map (sector_of (found_image i (log_of w)))) (range_get 0 (found_image i (log_of w)).shape.capacity lba (omega arith) ∙ ap (λ n. Some n) same)

abbrev pub now : Image → World → List (List ℕ)
now i w = histories.after (contents (found_image i (log_of w))) (history (log_of w 0))

pub latest : (i : Image) (w : World) (lba : ℕ) (t : Taken) → IsLegalMount i w → lba < i.shape.capacity → last_take (log_of w 0) lba ≡ Some t
    → slice_get (now i w) lba ≡ Some t.entry.sector
latest i w lba t mount inside last = latest_sector i w lba t mount inside last

-- a sector that wasn't written in this mount holds what was found
first : (i : Image) (w : World) (lba : ℕ) → IsLegalMount i w → lba < i.shape.capacity → last_take (log_of w 0) lba ≡ None
    → slice_get (now i w) lba ≡ Some (sector_of (found_image i (log_of w)) lba)
first i w lba mount inside none = first_sector i w lba mount inside none
    ∙ found_sector i w lba inside

-- ---- a sector that isn't written

entry_written : (i : Image) (logs : Logs) (q : ℕ) (p : Option Placed) → option_map_or (media_of i logs q) p (Cached q) ≡ Unwritten → ⊥
entry_written i logs q None e = cc
entry_written i logs q (Some p) e = cc

no_winner : (o : Option Record) → slot_of_winner o ≡ Unwritten → o ≡ None
no_winner None e = refl
no_winner (Some r) e = absurd cc

-- has no entry, and no winner
unwritten_none : (i : Image) (logs : Logs) (lba : ℕ) → slot_of i logs lba ≡ Unwritten
    → (last_take (logs 0) lba ≡ None) × (winner (counted (found_image i logs)) lba ≡ None)
unwritten_none i logs lba slot = go (last_take (logs 0) lba) refl slot
  where
    go : (t : Option Taken) → last_take (logs 0) lba ≡ t → slot_by i logs lba t ≡ Unwritten → (t ≡ None) × (winner (counted (found_image i logs)) lba ≡ None)
    go None f e = (refl, no_winner (winner (counted (found_image i logs)) lba) e)
    go (Some t) f e = absurd (entry_written i logs t.entry.position (find (gives_back i.shape (logs 0) t.entry.position) (placements (logs 0))) e)

pub unwritten_zeros : (i : Image) (w : World) (lba : ℕ) → IsLegalMount i w → lba < i.shape.capacity → slot_of i (log_of w) lba ≡ Unwritten
    → slice_get (now i w) lba ≡ Some (zeros i.shape.sector)
unwritten_zeros i w lba mount inside slot =
    let none = unwritten_none i (log_of w) lba slot in
    first i w lba mount inside none.0
    ∙ ap (λ (o : Option Record). Some (option_map_or (λ (r : Record). r.sector) o (zeros (found_image i (log_of w)).shape.sector))) none.1
    ∙ ap (λ (s : Shape). Some (zeros s.sector)) (found_shape i w)

-- ---- one in the buffer, and one on the drive

pub cached_latest : (i : Image) (w : World) (lba q : ℕ) → IsLegalMount i w → lba < i.shape.capacity → slot_of i (log_of w) lba ≡ Cached q
    → (t : Taken) × (last_take (log_of w 0) lba ≡ Some t) × (t.entry.position ≡ q) × (first_position (log_of w 0) ≤ q)
    × (slice_get (takes (log_of w 0)) (q - first_position (log_of w 0)) ≡ Some t) × (slice_get (now i w) lba ≡ Some t.entry.sector)
cached_latest i w lba q mount inside slot =
    let is : (t : Taken) × IsCachedEntry i (log_of w) lba q t = cached i (log_of w) lba q slot in
    let position : is.0.entry.position ≡ q = is.1.position in
    let at = taken_at i w is.0 mount (last_is_among (log_of w 0) lba is.0 is.1.last).0 in
    let from : first_position (log_of w 0) ≤ is.0.entry.position = at.0 in (
      is.0,
      is.1.last,
      is.1.position,
      omega arith,
      ap (λ n. slice_get (takes (log_of w 0)) (n - first_position (log_of w 0))) (sym is.1.position) ∙ at.1,
      latest i w lba is.0 mount inside is.1.last,
    )

pub media_latest : (i : Image) (w : World) (lba line at q : ℕ) → IsLegalMount i w → lba < i.shape.capacity → (is : IsBlockOfSlot i (log_of w) lba line at q)
    → slice_get (now i w) lba ≡ Some is.block.sector
media_latest i w lba line at q mount inside is = go (last_take (log_of w 0) lba) refl is.latest
  where
    go : (t : Option Taken) → last_take (log_of w 0) lba ≡ t → IsOfLatest i (log_of w) lba line at q is.block t → slice_get (now i w) lba ≡ Some is.block.sector
    go None last its =
        first i w lba mount inside last
        ∙ ap (λ (o : Option Record). Some (option_map_or (λ (r : Record). r.sector) o (zeros (found_image i (log_of w)).shape.sector))) its.wins
        ∙ ap (λ (x : List ℕ). Some x) (sym its.sector)
    go (Some t) last its = latest i w lba t mount inside last ∙ ap (λ (x : List ℕ). Some x) (sym its.sector)

-- the window has it
pub window_latest : (i : Image) (w : World) (lba q from : ℕ) (win : WindowView) → IsLegalMount i w → lba < i.shape.capacity
    → sectors_in win ≡ window_from i.shape (log_of w 0) from → first_position (log_of w 0) ≤ from
    → from ≤ freed i.shape (log_of w 0) → slot_of i (log_of w) lba ≡ Cached q → sector_at win q ≡ slice_get (now i w) lba
window_latest i w lba q from win mount inside same low high slot =
    let held = cached_held i (log_of w) lba q from win
    (in_order i w (accepted_small i.shape mount.accepted) mount.legal).numbered same low high slot in
    held.2 ∙ sym (latest i w lba held.0 mount inside held.1)
