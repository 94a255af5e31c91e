-- The sector of an entry in a window.
use Rattle.std.proofs.Common.{◌≡◌, ℕ, ◌+◌, ◌-◌, ◌<◌, ◌≤◌, Some, None, List, sym, ap, ◌∙◌, arith, if◌then◌else◌}
use Rattle.std.specs.Prelude.{map, drop, slice_get}
use Rattle.std.specs.Option.{option_map}
use Rattle.pblk_model.specs.declared.shape.Shape.{Shape}
use Rattle.pblk_model.specs.Image.{Image}
use Rattle.pblk_world.specs.Events.{Logged}
use Rattle.pblk_world.specs.World.{Logs}
use Rattle.pblk_world.specs.EngineLog.{Taken, takes}
use Rattle.pblk_world.specs.Fronts.{first_position, last_take}
use Rattle.pblk_world.specs.Space.{freed}
use Rattle.l2p_map.specs.declared.slot.Slot.TheVariants.{Cached}
use Rattle.write_window.specs.declared.held.Held.{Held}
use Rattle.write_window.specs.Window.{WindowView, sector_at}
use Rattle.core_laws.specs.Positions.{AreNumbered}
use Rattle.core_laws.specs.SlotOf.{slot_of}
use Rattle.core_laws.specs.WindowOf.{HeldSector, HeldSectors, without_frame, sectors_in, held_of, window_from}
use Rattle.core_laws.proofs.Placing.{not_below}
use Rattle.core_laws.proofs.CachedEntries.{IsCachedEntry, cached, cached_within, cached_stands}
use Rattle.stripe_placer.proofs.Rows.{get_map as mapped_get}
use Rattle.core_laws.proofs.WindowOfLemmas.{bytes_without}
use Rattle.pblk_model.proofs.Parts.{get_dropped}

pub sector_held : (s : Shape) (log : List Logged) (from q : ℕ) (win : WindowView) (t : Taken) → sectors_in win ≡ window_from s log from
    → first_position log ≤ from → from ≤ q
    → slice_get (takes log) (q - first_position log) ≡ Some t → sector_at win q ≡ Some t.entry.sector
sector_held s log from q win t same low high there =
    let begins : win.freed ≡ from = ap (λ (h : HeldSectors). h.freed) same in
    let entries : map without_frame win.entries ≡ map (held_of s log) (drop (from - first_position log) (takes log)) =
    ap (λ (h : HeldSectors). h.entries) same in
    let index : from - first_position log + (q - win.freed) ≡ q - first_position log = omega arith in
    let above : win.freed ≤ q = omega arith in
    ap (λ b. option_map (λ (h : Held). h.entry.frame.bytes) (if b then None else slice_get win.entries (q - win.freed))) (not_below win.freed q above)
    ∙ bytes_without (slice_get win.entries (q - win.freed))
    ∙ ap (option_map (λ (h : HeldSector). h.sector))
    (sym (mapped_get without_frame win.entries (q - win.freed)) ∙ ap (λ (hs : List HeldSector). slice_get hs (q - win.freed)) entries
    ∙ mapped_get (held_of s log) (drop (from - first_position log) (takes log)) (q - win.freed)
    ∙ ap (option_map (held_of s log)) (get_dropped (from - first_position log) (takes log) (q - win.freed) ∙ ap (slice_get (takes log)) index ∙ there))

pub cached_held : (i : Image) (logs : Logs) (lba q from : ℕ) (win : WindowView) → AreNumbered (logs 0) → sectors_in win ≡ window_from i.shape (logs 0) from
    → first_position (logs 0) ≤ from
    → from ≤ freed i.shape (logs 0) → slot_of i logs lba ≡ Cached q → (t : Taken) × (last_take (logs 0) lba ≡ Some t) × (sector_at win q ≡ Some t.entry.sector)
cached_held i logs lba q from win numbered same low high slot =
    let is : (t : Taken) × IsCachedEntry i logs lba q t = cached i logs lba q slot in
    let within : (freed i.shape (logs 0) ≤ q) × (q < _) = cached_within i logs lba q numbered slot in
    let stands = cached_stands i logs lba q numbered slot in
    let above : freed i.shape (logs 0) ≤ q = within.0 in
    (is.0, is.1.last, sector_held i.shape (logs 0) from q win is.0 same low (omega arith) (stands.1 ∙ is.1.last))
