-- A stripe has landed: the window and the map by the blocks that can be read now and couldn't
-- before.
use Rattle.std.proofs.Common.{◌≡◌, ℕ, ◌+◌, ◌-◌, ◌<◌, ◌≤◌, ◌&&◌, ◌||◌, nat_eq, nat_lt, Bool, true, false, Some, List, [], ◌∷◌, length, take, drop, refl, sym, subst, ap, ap₂, ◌∙◌, arith, append-nil}
use Rattle.std.specs.Prelude.{map, slice_get, is_some, if◌then◌else◌}
use Rattle.std.specs.List.{filter, find, list_any, flat_map, enumerate_from}
use Rattle.std.proofs.lemmas.Bool.{eqb-true}
use Rattle.std.specs.Option.{option_map, option_map_or}
use Rattle.std.proofs.lemmas.List.{take-take as take_within}
use Rattle.pblk_model.specs.declared.shape.Shape.{Shape}
use Rattle.pblk_model.specs.Chunk.{Block}
use Rattle.pblk_model.specs.Image.{Image}
use Rattle.pblk_world.specs.Events.{Landed, Decides, Logged}
use Rattle.pblk_world.specs.World.{World, log_of}
use Rattle.pblk_world.specs.EngineLog.{Opened, Opening, Taken, takes, Placed, placed_on, answers, bears_position, holds_position}
use Rattle.pblk_world.specs.Fronts.{first_position, has_landed_at, is_users}
use Rattle.pblk_world.specs.Legal.{IsLegal}
use Rattle.pblk_world.specs.Space.{landed_blocks, is_readable_in}
use Rattle.l2p_map.specs.declared.slot.Slot.{Slot}
use Rattle.l2p_map.specs.declared.slot.Slot.TheVariants.{Unwritten, Cached, Media}
use Rattle.write_window.specs.declared.held.Progress.{Progress}
use Rattle.pblk_world.specs.LegalMounts.{IsLegalMount}
use Rattle.core_laws.specs.Stepping.{after}
use Rattle.core_laws.specs.PlacerOf.{unanswered_on}
use Rattle.core_laws.specs.SlotOf.{slot_of}
use Rattle.core_laws.specs.WindowOf.{HeldSector, class_of, source_of, is_given_back, progress_by, held_of, users_below, window_from}
use Rattle.core_laws.proofs.Answered.{first_unanswered}
use Rattle.core_laws.specs.ChunkBlocks.{chunk_blocks, can_be_read, readable_blocks, newly_readable, block_among, AreInRows}
use Rattle.core_laws.specs.AdvancedEntries.{advanced_sector, advanced_window}
use Rattle.core_laws.specs.ReadSlots.{block_read, address_of_block, read_slot}
use Rattle.core_laws.proofs.CachedEntries.{cached_kept}
use Rattle.core_laws.proofs.Growing.{given_landed}
use Rattle.core_laws.proofs.LandedStripe.{with_landing, landed_at_by}
use Rattle.core_laws.proofs.LandedBlocks.{on_new, blocks_more}
use Rattle.core_laws.proofs.GivenBack.{IsLandedNow, unlost_new}
use Rattle.core_laws.proofs.GivenNow.{blocks_below, given_now}
use Rattle.core_laws.proofs.LandedWindow.{landed_now, progress_now}
use Rattle.core_laws.proofs.PlainStripes.{one_unanswered}
use Rattle.core_laws.proofs.KeptSlots.{first_kept}
use Rattle.core_laws.proofs.SlotsInWorlds.{slot_landed, read_is_some}
use Rattle.core_laws.proofs.WindowOfLemmas.{same_window}
use Rattle.core_laws.proofs.NewlyRead.{find_behind, found_any}
use Rattle.core_laws.proofs.NewBlocks.{IsNewest, read_found, given_before, chunk_within}
use Rattle.pblk_model.proofs.Options.{some_mapped}
use Rattle.pblk_world.proofs.EngineLogLemmas.{takes_more}

-- ---- what is given back now

pub low_high : (s : Shape) (landed : ℕ) → landed + s.ws_opt ≤ s.clba → 0 < s.ws_opt → readable_blocks s landed ≤ readable_blocks s (landed + s.ws_opt)
low_high s landed below some = go (nat_eq landed s.clba) refl (nat_eq (landed + s.ws_opt) s.clba)
  where
    go : (a : Bool) → nat_eq landed s.clba ≡ a → (b : Bool)
        → (if a then s.clba else landed - s.mw_cunits) ≤ (if b then s.clba else landed + s.ws_opt - s.mw_cunits)
    go true e b = let same : landed ≡ s.clba = eqb-true landed s.clba e in absurd (omega arith)
    go false e true = omega arith
    go false e false = omega arith

-- no earlier block of an entry that isn't given back
pub none_earlier : (s : Shape) (log new : List Logged) (p : Placed) (o : Opening) (q : ℕ) → IsLandedNow s log new p o → IsNewest log p
    → is_given_back s log q ≡ false
    → list_any (bears_position s q) (take (readable_blocks s (landed_blocks s log o p.stripe.unit)) (chunk_blocks log o p.stripe.unit)) ≡ false
none_earlier s log new p o q is newest kept =
    go (list_any (bears_position s q) (take (readable_blocks s (landed_blocks s log o p.stripe.unit)) (chunk_blocks log o p.stripe.unit))) refl
  where
    go : (b : Bool) → list_any (bears_position s q) (take (readable_blocks s (landed_blocks s log o p.stripe.unit)) (chunk_blocks log o p.stripe.unit)) ≡ b
        → b ≡ false
    go true e = let given : is_given_back s log q ≡ true = given_before s log new p o q is newest e in absurd cc
    go false e = refl

-- where none of the earlier blocks bears the position
found_among : (s : Shape) (log new : List Logged) (p : Placed) (o : Opening) (q : ℕ) → IsLandedNow s log new p o → IsNewest log p
    → is_given_back s log q ≡ false
    → block_read s new o p.stripe.unit q ≡ block_among s log o p.stripe.unit q
found_among s log new p o q is newest kept =
    let unit : ℕ = p.stripe.unit in
    let cs : List Block = chunk_blocks log o p.stripe.unit in
    let low : ℕ = readable_blocks s (landed_blocks s log o p.stripe.unit) in
    let high : ℕ = readable_blocks s (landed_blocks s log o p.stripe.unit + s.ws_opt) in
    let start : 0 + low ≡ low = omega arith in
    ap (λ (bs : List Block). option_map (λ (b : ℕ × Block). b.0)
    (find (λ (b : ℕ × Block). bears_position s q b.1 && is_readable_in s new p.stripe.unit b.0 (Opened o)) (enumerate_from 0 bs))) (same_chunk unit)
    ∙ ap (option_map (λ (b : ℕ × Block). b.0))
    (read_found s new o p.stripe.unit q cs (unlost_new s log new p o is) (chunk_within s log o p.stripe.unit is.rows)
    ∙ ap (λ n. find (λ (b : ℕ × Block). bears_position s q b.1) (enumerate_from 0 (take (readable_blocks s n) (chunk_blocks log o p.stripe.unit))))
    (blocks_more s log new p o is.one_more is.life)
    ∙ find_behind (bears_position s q) low 0 (take high cs)
    (ap (list_any (bears_position s q)) (take_within low high cs (low_high s (landed_blocks s log o p.stripe.unit) (blocks_below s log new p o is) is.some))
    ∙ none_earlier s log new p o q is newest kept)
    ∙ ap (λ n. find (λ (b : ℕ × Block). bears_position s q b.1) (enumerate_from n (newly_readable s log o p.stripe.unit))) start)
  where
    same_chunk : (unit : ℕ) → chunk_blocks new o unit ≡ chunk_blocks log o unit
    same_chunk unit = ap (λ (ps : List Placed). flat_map (λ (r : Placed). r.stripe.blocks) ps) (on_new log new p is.one_more o unit)

pub given_newly : (s : Shape) (log new : List Logged) (p : Placed) (o : Opening) (q : ℕ) → IsLandedNow s log new p o → IsNewest log p
    → is_given_back s new q ≡ (is_given_back s log q || list_any (bears_position s q) (newly_readable s log o p.stripe.unit))
given_newly s log new p o q is newest = given_now s log new p o q is ∙ go (is_given_back s log q) refl
  where
    go : (b : Bool) → is_given_back s log q ≡ b
        → (b || can_be_read s new o p.stripe.unit q) ≡ (b || list_any (bears_position s q) (newly_readable s log o p.stripe.unit))
    go true e = refl
    go false e =
        read_is_some s new o p.stripe.unit q ∙ ap is_some (found_among s log new p o q is newest e)
        ∙ some_mapped (λ (b : ℕ × Block). b.0)
        (find (λ (b : ℕ × Block). bears_position s q b.1)
        (enumerate_from (readable_blocks s (landed_blocks s log o p.stripe.unit)) (newly_readable s log o p.stripe.unit)))
        ∙ found_any (bears_position s q) (readable_blocks s (landed_blocks s log o p.stripe.unit)) (newly_readable s log o p.stripe.unit)

-- ---- the window

held_newly : (s : Shape) (log new : List Logged) (p : Placed) (o : Opening) (t : Taken) → IsLandedNow s log new p o → IsNewest log p
    → held_of s new t ≡ advanced_sector (λ q. holds_position s q p) (λ q. list_any (bears_position s q) (newly_readable s log o p.stripe.unit))
    (held_of s log t)
held_newly s log new p o t is newest = ap (λ (progress : Progress). record {
  position = t.entry.position;
  class = class_of t.entry.source;
  lba = t.entry.lba;
  source = source_of t.entry.source;
  sector = t.entry.sector;
  progress = progress;
}) (ap₂ progress_by (landed_at_by s log new p t.entry.position is.one_more) (given_newly s log new p o t.entry.position is newest)
    ∙ progress_now (has_landed_at s log t.entry.position) (is_given_back s log t.entry.position) (holds_position s t.entry.position p)
    (list_any (bears_position s t.entry.position) (newly_readable s log o p.stripe.unit)) (given_landed s log t.entry.position))

each_newly : (s : Shape) (log new : List Logged) (p : Placed) (o : Opening) (ts : List Taken) → IsLandedNow s log new p o → IsNewest log p
    → map (held_of s new) ts ≡ map (advanced_sector (λ q. holds_position s q p) (λ q. list_any (bears_position s q) (newly_readable s log o p.stripe.unit)))
    (map (held_of s log) ts)
each_newly s log new p o [] is newest = refl
each_newly s log new p o (t ∷ ts) is newest = ap₂ (λ (h : HeldSector) hs. h ∷ hs) (held_newly s log new p o t is newest) (each_newly s log new p o ts is newest)

window_newly : (s : Shape) (log new : List Logged) (p : Placed) (o : Opening) (from : ℕ) → IsLandedNow s log new p o → IsNewest log p → takes new ≡ takes log
    → first_position new ≡ first_position log
    → window_from s new from ≡ advanced_window (λ q. holds_position s q p) (λ q. list_any (bears_position s q) (newly_readable s log o p.stripe.unit))
    (window_from s log from)
window_newly s log new p o from is newest same first = same_window from (users_below new from) (users_below log from)
    (map (held_of s new) (drop (from - first_position new) (takes new)))
    (map (advanced_sector (λ q. holds_position s q p) (λ q. list_any (bears_position s q) (newly_readable s log o p.stripe.unit)))
    (map (held_of s log) (drop (from - first_position log) (takes log))))
    (ap (λ (ts : List Taken). length (filter (λ (t : Taken). nat_lt t.entry.position from) (filter (λ (t : Taken). is_users t.entry.source) ts))) same)
    (ap₂ (λ n (ts : List Taken). map (held_of s new) (drop (from - n) ts)) first same
    ∙ each_newly s log new p o (drop (from - first_position log) (takes log)) is newest)

-- ---- in a legal mount

pub newest_in : (i : Image) (w : World) (unit : ℕ) (p : Placed) → IsLegal i w → unanswered_on (log_of w 0) unit ≡ Some p → IsNewest (log_of w 0) p
newest_in i w unit p legal waits =
    let its : p.stripe.unit ≡ unit = (first_unanswered (log_of w 0) unit p waits).of_unit in
    let one : length (placed_on (log_of w 0) unit) ≤ length (answers (log_of w 0) unit) + 1 = one_unanswered i w legal unit in
    record {
      index = length (answers (log_of w 0) unit);
      at = ap (λ u. slice_get (placed_on (log_of w 0) u) (length (answers (log_of w 0) unit))) its ∙ waits;
      last = subst (λ u. length (placed_on (log_of w 0) u) ≤ length (answers (log_of w 0) unit) + 1) (sym its) one;
    }

pub window_by_new : (i : Image) (w : World) (unit event : ℕ) (knows : List ℕ) (p : Placed) (o : Opening) (from : ℕ) → IsLegalMount i w
    → unanswered_on (log_of w 0) unit ≡ Some p → p.life ≡ Opened o → AreInRows i.shape (log_of w 0) o unit
    → window_from i.shape (after (log_of w) (Landed unit event) knows 0) from
    ≡ advanced_window (λ q. holds_position i.shape q p) (λ q. list_any (bears_position i.shape q) (newly_readable i.shape (log_of w 0) o unit))
    (window_from i.shape (log_of w 0) from)
window_by_new i w unit event knows p o from mount waits life rows =
    let l : Logged = record { event = Decides (Landed unit event); knows = knows } in
    subst (λ u. window_from i.shape (with_landing (log_of w 0) unit event knows) from ≡ advanced_window (λ q. holds_position i.shape q p)
    (λ q. list_any (bears_position i.shape q) (newly_readable i.shape (log_of w 0) o u)) (window_from i.shape (log_of w 0) from))
    (first_unanswered (log_of w 0) unit p waits).of_unit
    (window_newly i.shape (log_of w 0) (with_landing (log_of w 0) unit event knows) p o from (landed_now i w unit event knows p o mount waits life rows)
    (newest_in i w unit p mount.legal waits)
    (takes_more (log_of w 0) l ∙ append-nil (takes (log_of w 0))) (first_kept (log_of w 0) (Landed unit event) knows refl))

among_in : (i : Image) (w : World) (unit event : ℕ) (knows : List ℕ) (p : Placed) (o : Opening) (q : ℕ) → IsLegalMount i w
    → unanswered_on (log_of w 0) unit ≡ Some p → p.life ≡ Opened o → AreInRows i.shape (log_of w 0) o unit → is_given_back i.shape (log_of w 0) q ≡ false
    → block_read i.shape (with_landing (log_of w 0) unit event knows) o unit q ≡ block_among i.shape (log_of w 0) o unit q
among_in i w unit event knows p o q mount waits life rows kept =
    subst (λ u. block_read i.shape (with_landing (log_of w 0) unit event knows) o u q ≡ block_among i.shape (log_of w 0) o u q)
    (first_unanswered (log_of w 0) unit p waits).of_unit
    (found_among i.shape (log_of w 0) (with_landing (log_of w 0) unit event knows) p o q (landed_now i w unit event knows p o mount waits life rows)
    (newest_in i w unit p mount.legal waits) kept)

pub slot_by_new : (i : Image) (w : World) (unit event : ℕ) (knows : List ℕ) (p : Placed) (o : Opening) (lba : ℕ) → IsLegalMount i w
    → unanswered_on (log_of w 0) unit ≡ Some p → p.life ≡ Opened o → AreInRows i.shape (log_of w 0) o unit
    → slot_of i (after (log_of w) (Landed unit event) knows) lba ≡ read_slot i (log_of w) o unit (block_among i.shape (log_of w 0) o unit)
    (slot_of i (log_of w) lba)
slot_by_new i w unit event knows p o lba mount waits life rows =
    slot_landed i w unit event knows p o lba mount waits life rows ∙ go (slot_of i (log_of w) lba) refl
  where
    go : (x : Slot) → slot_of i (log_of w) lba ≡ x
        → read_slot i (log_of w) o unit (block_read i.shape (with_landing (log_of w 0) unit event knows) o unit) x ≡ read_slot i (log_of w) o unit
        (block_among i.shape (log_of w 0) o unit) x
    go Unwritten e = refl
    go (Cached q) e = ap (λ b. option_map_or (λ block. Media o.line (address_of_block i (log_of w) o unit block) q) b (Cached q))
        (among_in i w unit event knows p o q mount waits life rows (cached_kept i (log_of w) lba q e))
    go (Media line at q) e = refl
