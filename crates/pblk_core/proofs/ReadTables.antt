-- The window and the map of a core as blocks of a chunk become readable, given what its records
-- keep of them.
use Rattle.std.proofs.Common.{◌≡◌, ℕ, ◌+◌, ◌-◌, ◌<◌, ◌≤◌, ◌||◌, zero, suc, nat_lt, if◌then◌else◌, Bool, true, false, Some, None, Option, List, [], ◌∷◌, length, drop, refl, sym, subst, ap, ap₂, ◌∙◌, arith}
use Rattle.std.specs.Prelude.{slice_get, is_some, map}
use Rattle.std.specs.List.{Contains, cons_option, enumerate_from, filter_map, list_any, range_with_len}
use Rattle.std.specs.Option.{option_map, option_map_or}
use Rattle.std.specs.FinMap as fin
use Rattle.std.proofs.lemmas.Option.{same_Some, slice_get-map, slice_get-get_or, slice_get_within}
use Rattle.pblk_model.specs.declared.shape.Shape.{Shape}
use Rattle.pblk_model.specs.declared.chunk.Mark.{Mark}
use Rattle.pblk_model.specs.Chunk.{Block}
use Rattle.pblk_model.specs.Image.{Image}
use Rattle.pblk_model.specs.Records.{named}
use Rattle.pblk_world.specs.World.{World, log_of}
use Rattle.pblk_world.specs.EngineLog.{Opening, Taken, takes, bears_position}
use Rattle.pblk_world.specs.Fronts.{first_position, has_landed_at}
use Rattle.pblk_world.specs.Space.{landed_blocks}
use Rattle.l2p_map.specs.declared.slot.Slot.{Slot}
use Rattle.l2p_map.specs.declared.slot.Slot.TheVariants.{Unwritten, Cached, Media}
use Rattle.write_window.specs.Entries.{has_landed}
use Rattle.write_window.specs.Window as view
use Rattle.write_window.specs.declared.held.Held.{Held}
use Rattle.core_laws.specs.PlacerOf.{positions_of}
use Rattle.pblk_world.specs.LegalMounts.{IsLegalMount}
use Rattle.core_laws.specs.SlotOf.{slot_of}
use Rattle.core_laws.specs.WindowOf.{HeldSector, HeldSectors, is_given_back, held_of, progress_by, sectors_in, window_from, without_frame}
use Rattle.core_laws.proofs.Placing.{not_below}
use Rattle.core_laws.specs.AdvancedEntries.{advanced, advanced_sector, advanced_window}
use Rattle.core_laws.specs.ChunkBlocks.{first_bearing, chunk_blocks, readable_blocks}
use Rattle.core_laws.specs.ReadSlots.{address_of_block, read_slot}
use Rattle.core_laws.proofs.CachedEntries.{cached_entry, cached_within, cached_stands}
use Rattle.core_laws.proofs.UsersEntries.{in_order}
use Rattle.core_laws.proofs.Placed.{range_dropped}
use Rattle.pblk_core.specs.Readable.{ReadBlock, all_moved, all_readable, reads_of}
use Rattle.pblk_core.specs.Stands.{Stands}
use Rattle.pblk_core.specs.declared.target_core.Core.{Core}
use Rattle.pblk_core.specs.declared.open_lines.OpenLine.{OpenLine}
use Rattle.pblk_core.proofs.LandedEntries.{IsIn, CanBeRead, numbered_from, read_all, read_of, part_get}
use Rattle.pblk_core.proofs.LandedMap.{moved_to, move_all, settled}
use Rattle.pblk_core.proofs.LandedReads.{IsPart, IsChunkRead, reads_are}
use Rattle.pblk_core.proofs.StandsFacts.{held_count}
use Rattle.pblk_model.proofs.Maps.{map_dropped, range_get}
use Rattle.pblk_model.proofs.Parts.{all_at}
use Rattle.pblk_model.proofs.MarksLemmas.{accepted_small}

-- ---- the positions of the window

log_numbered : (i : Image) (w : World) → IsLegalMount i w
    → positions_of (takes (log_of w 0)) ≡ range_with_len (first_position (log_of w 0)) (length (takes (log_of w 0)))
log_numbered i w mount = (in_order i w (accepted_small i.shape mount.accepted) mount.legal).numbered

window_numbered : (i : Image) (w : World) (c : Core) → IsLegalMount i w → Stands i (log_of w) c
    → positions_of (drop (c.window.freed - first_position (log_of w 0)) (takes (log_of w 0))) ≡ range_with_len c.window.freed
    (length (takes (log_of w 0)) - (c.window.freed - first_position (log_of w 0)))
window_numbered i w c mount st =
    let low : first_position (log_of w 0) ≤ c.window.freed = st.from_first in
    let same : first_position (log_of w 0) + (c.window.freed - first_position (log_of w 0)) ≡ c.window.freed = omega arith in
    map_dropped (λ (t : Taken). t.entry.position) (c.window.freed - first_position (log_of w 0)) (takes (log_of w 0))
    ∙ ap (drop (c.window.freed - first_position (log_of w 0))) (log_numbered i w mount)
    ∙ range_dropped (first_position (log_of w 0)) (c.window.freed - first_position (log_of w 0)) (length (takes (log_of w 0)))
    ∙ ap (λ n. range_with_len n (length (takes (log_of w 0)) - (c.window.freed - first_position (log_of w 0)))) same

pub window_in : (i : Image) (w : World) (c : Core) → IsLegalMount i w → Stands i (log_of w) c → IsIn c.window
window_in i w c mount st = record {
  from = numbered_from i.shape (log_of w 0) c.window.freed (length (takes (log_of w 0)) - (c.window.freed - first_position (log_of w 0))) c.window.entries
      (drop (c.window.freed - first_position (log_of w 0)) (takes (log_of w 0)))
      (ap (λ (v : HeldSectors). v.entries) st.window) (window_numbered i w c mount st);
}

-- ---- what can be read has landed

landed_there : HeldSectors → ℕ → Bool
landed_there v q = option_map_or (λ (h : HeldSector). has_landed h.progress) (if nat_lt q v.freed then None else slice_get v.entries (q - v.freed)) false

without_frames : (w : view.WindowView) (q : ℕ) → view.has_landed_at w q ≡ landed_there (sectors_in w) q
unfolding landed_there
without_frames w q = go (nat_lt q w.freed)
  where
    by : (o : Option Held) → option_map_or (λ (h : Held). has_landed h.progress) o false ≡ option_map_or (λ (h : HeldSector). has_landed h.progress)
        (option_map without_frame o) false
    by None = refl
    by (Some h) = refl

    go : (b : Bool) → option_map_or (λ (h : Held). has_landed h.progress) (if b then None else slice_get w.entries (q - w.freed)) false
        ≡ option_map_or (λ (h : HeldSector). has_landed h.progress) (if b then None else slice_get (map without_frame w.entries) (q - w.freed)) false
    go true = refl
    go false = by (slice_get w.entries (q - w.freed))
        ∙ ap (λ o. option_map_or (λ (h : HeldSector). has_landed h.progress) o false) (sym (slice_get-map without_frame w.entries (q - w.freed)))

has_both : (l g h : Bool) → has_landed (advanced h false (progress_by l g)) ≡ (l || h)
has_both false g false = refl
has_both false g true = refl
has_both true false h = refl
has_both true true h = refl

mapped_some : {X : Type 0} (f : X → ℕ) (o : Option X) (n : ℕ) → option_map f o ≡ Some n → (x : X) × (o ≡ Some x) × (f x ≡ n)
mapped_some f None n e = absurd cc
mapped_some f (Some x) n e = (x, refl, same_Some (f x) n e)

-- of a window whose entries are those of the logs, but for some that have landed since
pub read_landed : (i : Image) (w : World) (c : Core) (v : view.WindowView) (lands : ℕ → Bool) (q : ℕ) → IsLegalMount i w → Stands i (log_of w) c
    → sectors_in v ≡ advanced_window lands (λ x. false) (window_from i.shape (log_of w 0) c.window.freed) → view.IsHeld c.window q
    → (has_landed_at i.shape (log_of w 0) q || lands q) ≡ true → view.has_landed_at v q ≡ true
unfolding landed_there
read_landed i w c v lands q mount st same held has =
    let ts : List Taken = drop (c.window.freed - first_position (log_of w 0)) (takes (log_of w 0)) in
    let n : ℕ = length (takes (log_of w 0)) - (c.window.freed - first_position (log_of w 0)) in
    let count = held_count i w c st in
    let low : c.window.freed ≤ q = held.0 in
    let high : q < c.window.freed + length c.window.entries = held.1 in
    let back : c.window.freed + (q - c.window.freed) ≡ q = omega arith in
    let number : slice_get (map (λ (t : Taken). t.entry.position) (drop (c.window.freed - first_position (log_of w 0)) (takes (log_of w 0))))
    (q - c.window.freed) ≡ Some q =
    ap (λ xs. slice_get xs (q - c.window.freed)) (window_numbered i w c mount st)
    ∙ range_get c.window.freed (length (takes (log_of w 0)) - (c.window.freed - first_position (log_of w 0))) (q - c.window.freed) (omega arith)
    ∙ ap Some back in
    let t = mapped_some (λ (t : Taken). t.entry.position)
    (slice_get (drop (c.window.freed - first_position (log_of w 0)) (takes (log_of w 0))) (q - c.window.freed)) q
    (sym (slice_get-map (λ (t : Taken). t.entry.position) (drop (c.window.freed - first_position (log_of w 0)) (takes (log_of w 0))) (q - c.window.freed))
    ∙ number) in
    without_frames v q
    ∙ ap (λ x. landed_there x q) same
    ∙ ap (λ b. option_map_or (λ (h : HeldSector). has_landed h.progress)
    (if b then None else slice_get
    (map (advanced_sector lands (λ x. false))
    (map (held_of i.shape (log_of w 0)) (drop (c.window.freed - first_position (log_of w 0)) (takes (log_of w 0))))) (q - c.window.freed)) false)
    (not_below c.window.freed q low)
    ∙ ap (λ o. option_map_or (λ (h : HeldSector). has_landed h.progress) o false)
    (slice_get-map (advanced_sector lands (λ x. false))
    (map (held_of i.shape (log_of w 0)) (drop (c.window.freed - first_position (log_of w 0)) (takes (log_of w 0)))) (q - c.window.freed)
    ∙ ap (option_map (advanced_sector lands (λ x. false)))
    (slice_get-map (held_of i.shape (log_of w 0)) (drop (c.window.freed - first_position (log_of w 0)) (takes (log_of w 0))) (q - c.window.freed)
    ∙ ap (option_map (held_of i.shape (log_of w 0))) t.1))
    ∙ has_both (has_landed_at i.shape (log_of w 0) t.0.entry.position) (is_given_back i.shape (log_of w 0) t.0.entry.position) (lands t.0.entry.position)
    ∙ ap (λ x. has_landed_at i.shape (log_of w 0) x || lands x) t.2
    ∙ has

pub numbered_block : {X : Type 0} (n : ℕ) (bs : List X) (k m : ℕ) (b : X) → slice_get (enumerate_from n bs) k ≡ Some (m, b) → slice_get bs k ≡ Some b
numbered_block n [] k m b e = absurd cc
numbered_block {X} n (x ∷ bs) zero m b e = let f : Option (ℕ × X) → Option X = λ o. option_map (λ y. y.1) o in ap f e
numbered_block n (x ∷ bs) (suc k) m b e = numbered_block (n + 1) bs k m b e

-- ---- the window

pub window_by : (i : Image) (w : World) (unit : ℕ) (o : Opening) (slot : OpenLine) (low high : ℕ) (blocks : List Block) (v : view.WindowView) → IsIn v
    → CanBeRead i.shape v (enumerate_from low blocks) → IsPart i w unit o low high blocks → IsChunkRead i w unit o slot
    → sectors_in (all_readable v (reads_of slot unit low high))
    ≡ advanced_window (λ q. false) (λ q. list_any (bears_position i.shape q) blocks) (sectors_in v)
window_by i w unit o slot low high blocks v is can part chunk =
    ap (λ bs. sectors_in (all_readable v bs)) (reads_are i w unit o slot low high blocks part chunk)
    ∙ read_all i.shape (address_of_block i (log_of w) o unit) blocks low v is can

-- ---- the map

-- two entries of one position are one
numbered_at : (i : Image) (w : World) (k : ℕ) (t : Taken) → IsLegalMount i w → slice_get (takes (log_of w 0)) k ≡ Some t
    → t.entry.position ≡ first_position (log_of w 0) + k
numbered_at i w k t mount at =
    let inside : k < length (takes (log_of w 0)) = slice_get_within (takes (log_of w 0)) k t at in
    same_Some t.entry.position (first_position (log_of w 0) + k)
    (sym (ap (option_map (λ (x : Taken). x.entry.position)) at) ∙ sym (slice_get-map (λ (x : Taken). x.entry.position) (takes (log_of w 0)) k)
    ∙ ap (λ xs. slice_get xs k) (log_numbered i w mount) ∙ range_get (first_position (log_of w 0)) (length (takes (log_of w 0))) k inside)

-- a block of the position of a sector's entry is the sector's
own_sector : (i : Image) (w : World) (unit : ℕ) (o : Opening) (slot : OpenLine) (lba q n : ℕ) (b : Block) → IsLegalMount i w → IsChunkRead i w unit o slot
    → slot_of i (log_of w) lba ≡ Cached q
    → slice_get (chunk_blocks (log_of w 0) o unit) n ≡ Some b → is_some (named i.shape b.mark) ≡ true → b.mark.position ≡ q → b.mark.lba ≡ lba
own_sector i w unit o slot lba q n b mount chunk cached at passes its =
    let t = chunk.marks n b at passes in
    let order = in_order i w (accepted_small i.shape mount.accepted) mount.legal in
    let u = cached_entry i (log_of w) lba q cached in
    let within = cached_within i (log_of w) lba q order.numbered cached in
    let stands = cached_stands i (log_of w) lba q order.numbered cached in
    let marked : t.0.mark.position ≡ t.0.entry.position =
    all_at (λ (x : Taken). x.mark.position ≡ x.entry.position) (takes (log_of w 0)) t.1.0 t.0 t.1.1 order.marked in
    let number : t.0.entry.position ≡ first_position (log_of w 0) + t.1.0 = numbered_at i w t.1.0 t.0 mount t.1.1 in
    let position : t.0.mark.position ≡ q = sym (ap (λ (m : Mark). m.position) t.2) ∙ its in
    let index : t.1.0 ≡ q - first_position (log_of w 0) = omega arith in
    let same : t.0 ≡ u.0 = same_Some t.0 u.0 (sym t.1.1 ∙ ap (slice_get (takes (log_of w 0))) index ∙ stands.1 ∙ u.1) in
    ap (λ (m : Mark). m.lba) t.2 ∙ ap (λ (x : Taken). x.mark.lba) same ∙ u.3

-- what the map holds then
pub slots_by : (i : Image) (w : World) (c : Core) (unit : ℕ) (o : Opening) (slot : OpenLine) (low high lba : ℕ) (blocks : List Block) (new : Slot)
    → IsLegalMount i w → Stands i (log_of w) c → IsPart i w unit o low high blocks → IsChunkRead i w unit o slot → slot.records.line ≡ o.line
    → lba < i.shape.capacity
    → new ≡ read_slot i (log_of w) o unit (first_bearing i.shape (readable_blocks i.shape (landed_blocks i.shape (log_of w 0) o unit)) blocks)
    (slot_of i (log_of w) lba)
    → fin.get (all_moved c.layout.capacity slot.records.line c.map (reads_of slot unit low high)) lba ≡ Some new
slots_by i w c unit o slot low high lba blocks new mount st part chunk own below after_is =
    ap (λ bs. fin.get (all_moved c.layout.capacity slot.records.line c.map bs) lba) (reads_are i w unit o slot low high blocks part chunk)
    ∙ ap₂ (λ cap ln. fin.get (all_moved cap ln c.map (filter_map (read_of i.shape (address_of_block i (log_of w) o unit)) (enumerate_from low blocks))) lba)
    (ap (λ s. s.capacity) st.layout) own
    ∙ go (slot_of i (log_of w) lba) refl
  where
    read : Slot → Slot
    read x = read_slot i (log_of w) o unit (first_bearing i.shape (readable_blocks i.shape (landed_blocks i.shape (log_of w 0) o unit)) blocks) x

    go : (x : Slot) → slot_of i (log_of w) lba ≡ x
        → fin.get (all_moved i.shape.capacity o.line c.map
        (filter_map (read_of i.shape (address_of_block i (log_of w) o unit)) (enumerate_from low blocks))) lba
        ≡ Some new
    go Unwritten e = settled i.shape (address_of_block i (log_of w) o unit) i.shape.capacity o.line lba blocks low c.map Unwritten
        (st.slots lba below ∙ ap Some e) (λ q. refl)
        ∙ ap Some (sym (after_is ∙ ap read e))
    go (Media line at q) e = settled i.shape (address_of_block i (log_of w) o unit) i.shape.capacity o.line lba blocks low c.map (Media line at q)
        (st.slots lba below ∙ ap Some e) (λ p. refl)
        ∙ ap Some (sym (after_is ∙ ap read e))
    go (Cached q) e = move_all i.shape (address_of_block i (log_of w) o unit) i.shape.capacity o.line lba q blocks low c.map
        (st.slots lba below ∙ ap Some e) below
        (λ k b there passes its. own_sector i w unit o slot lba q _ b mount chunk e
        (part_get low high (chunk_blocks (log_of w 0) o unit) k b (ap (λ bs. slice_get bs k) (sym part.parts) ∙ there)) passes its)
        ∙ ap (λ n. Some (moved_to i.shape (address_of_block i (log_of w) o unit) o.line q (enumerate_from n blocks))) part.from
        ∙ ap Some (sym (after_is ∙ ap read e))

-- ---- what is read is in the window

read_member : (s : Shape) (address : ℕ → ℕ) (xs : List (ℕ × Block)) (k : ℕ) (r : ReadBlock) → slice_get (filter_map (read_of s address) xs) k ≡ Some r
    → (j n : ℕ) × (b : Block) × (slice_get xs j ≡ Some (n, b)) × (is_some (named s b.mark) ≡ true) × (r.mark ≡ b.mark)
read_member s address [] k r e = absurd cc
read_member s address ((n, b) ∷ xs) k r e = go (is_some (named s b.mark)) refl k e (λ m f. read_member s address xs m r f)
  where
    next : (j m : ℕ) × (x : Block) × (slice_get xs j ≡ Some (m, x)) × (is_some (named s x.mark) ≡ true) × (r.mark ≡ x.mark)
        → (j m : ℕ) × (x : Block) × (slice_get ((n, b) ∷ xs) j ≡ Some (m, x)) × (is_some (named s x.mark) ≡ true) × (r.mark ≡ x.mark)
    next h = (suc h.0, h.1, h.2, h.3, h.4, h.5)

    go : (c : Bool) → is_some (named s b.mark) ≡ c → (k : ℕ)
        → slice_get (cons_option (if c then Some (record { at = address n; mark = b.mark }) else None) (filter_map (read_of s address) xs)) k ≡ Some r
        → ((m : ℕ) → slice_get (filter_map (read_of s address) xs) m ≡ Some r
        → (j m : ℕ) × (x : Block) × (slice_get xs j ≡ Some (m, x)) × (is_some (named s x.mark) ≡ true) × (r.mark ≡ x.mark))
        → (j m : ℕ) × (x : Block) × (slice_get ((n, b) ∷ xs) j ≡ Some (m, x)) × (is_some (named s x.mark) ≡ true) × (r.mark ≡ x.mark)
    go true f zero e rest = let same : ReadBlock =
        record { at = address n; mark = b.mark } in (0, n, b, refl, f, ap (λ (x : ReadBlock). x.mark) (sym (same_Some same r e)))
    go true f (suc k) e rest = next (rest k e)
    go false f k e rest = next (rest k e)

contains_at : {X : Type 0} (xs : List X) (x : X) → Contains xs x → (k : ℕ) × (slice_get xs k ≡ Some x)
contains_at xs x c = (c.0, slice_get-get_or xs c.0 x c.1 ∙ ap Some c.2)

pub reads_by : (i : Image) (w : World) (unit : ℕ) (o : Opening) (slot : OpenLine) (low high : ℕ) (blocks : List Block) (v : view.WindowView)
    → CanBeRead i.shape v (enumerate_from low blocks) → IsPart i w unit o low high blocks → IsChunkRead i w unit o slot
    → (r : ReadBlock) → Contains (reads_of slot unit low high) r → view.IsHeld v r.mark.position × (view.has_landed_at v r.mark.position ≡ true)
reads_by i w unit o slot low high blocks v can part chunk r there =
    let at = contains_at (reads_of slot unit low high) r there in
    let m = read_member i.shape (address_of_block i (log_of w) o unit) (enumerate_from low blocks) at.0 r
    (ap (λ bs. slice_get bs at.0) (sym (reads_are i w unit o slot low high blocks part chunk)) ∙ at.1) in
    subst (λ (x : Mark). view.IsHeld v x.position × (view.has_landed_at v x.position ≡ true)) (sym m.5) (can m.0 m.1 m.2 m.3 m.4)
