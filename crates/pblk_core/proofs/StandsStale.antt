-- A core that took a copy whose source had become stale stands for the log with it: the copy is
-- Void, so nothing becomes of it.
use Rattle.std.proofs.Common.{◌≡◌, ◌≢◌, ◌⊎◌, inl, inr, eqb, ℕ, ◌%◌, ◌<◌, ◌≤◌, ◌==◌, ◌^◌, ◌&&◌, if◌then◌else◌, true, false, None, Some, Option, List, length, refl, sym, ap, ◌∙◌, arith}
use Rattle.std.specs.Prelude.{⊤, slice_set}
use Rattle.std.specs.FinMap as fin
use Rattle.std.proofs.lemmas.Bool.Decides.{eqb_tells}
use Rattle.std.proofs.lemmas.Option.{none-some, same_Some}
use Rattle.pblk_model.specs.Chunk.{Block, IsBlock}
use Rattle.pblk_model.specs.Image.{Image}
use Rattle.pblk_model.specs.Marks.{meta_lba, void_lba, void_mark}
use Rattle.pblk_model.proofs.MarksLemmas.{accepted_small}
use Rattle.pblk_world.specs.Events.{Take}
use Rattle.pblk_world.specs.Taking.{IsLatest, IsMarked, MayTake}
use Rattle.pblk_world.specs.World.{World, log_of}
use Rattle.pblk_world.specs.LegalMounts.{IsLegalMount}
use Rattle.l2p_map.specs.declared.slot.Slot.{Slot}
use Rattle.l2p_map.specs.declared.slot.Slot.TheVariants.{Unwritten, Cached, Media}
use Rattle.sector_pool.specs.declared.entry.Class.{Class}
use Rattle.sector_pool.specs.declared.entry.Class.TheVariants.{User, Copy}
use Rattle.sector_pool.specs.declared.entry.Entry.{Entry as FramedEntry}
use Rattle.sector_pool.specs.declared.entry.Source.{Source as EntrySource}
use Rattle.core_laws.specs.SlotOf.{slot_of}
use Rattle.core_laws.specs.SlotPositions.{position_of_slot}
use Rattle.core_laws.specs.Stepping.{after}
use Rattle.core_laws.proofs.FreedMoments.{freed_before}
use Rattle.core_laws.proofs.LatestNamed.{latest_is_named}
use Rattle.core_laws.proofs.LatestSources.{stale_source}
use Rattle.core_laws.proofs.TakenRows.{rows_void}
use Rattle.core_laws.proofs.TakenSlots.{slot_taken}
use Rattle.pblk_model.proofs.Tests.{and_both, not_both, other_number}
use Rattle.pblk_core.specs.Stands.{Stands}
use Rattle.pblk_core.specs.Taking.{CanTake}
use Rattle.pblk_core.specs.Taken.{IsClassed, entry_of, is_latest_from, is_latest_in, is_source}
use Rattle.pblk_core.specs.declared.target_core.Core.{Core}
use Rattle.pblk_core.proofs.StandsFacts.{window_taken_is}
use Rattle.pblk_core.proofs.StandsTaken.{IsKeptInto, kept_stands, numbered, sources, taken_is, unplaced, within}
use Rattle.pblk_core.proofs.TakenHolds.{holds_void}

-- what a core's fields are once it took one
pub record IsStaleInto (old new : Core) (e : FramedEntry) : Type 0 where
  pub kept : IsKeptInto old new e
  pub map : new.map ≡ old.map
  pub lines : new.lines ≡ old.lines
  pub holds : new.holds.rows.items ≡ slice_set old.holds.rows.items (e.position % length old.holds.rows.items)
      (record { mark = void_mark e.position; line = None; taker = None })

pub stale_stands : (i : Image) (w : World) (knows : List ℕ) (old new : Core) (e : FramedEntry) → IsLegalMount i w → Stands i (log_of w) old
    → CanTake old e → IsStaleInto old new e → Stands i (after (log_of w) (Take (entry_of e) (void_mark e.position)) knows) new
stale_stands i w knows old new e mount st next is = kept_stands i w knows old new e (void_mark e.position) mount st next is.kept (record {
  slots = λ lba inside. ap (λ m. fin.get m lba) is.map ∙ st.slots lba inside ∙ ap Some (sym (slot_same lba inside));
  table = is.lines ∙ st.table
      ∙ sym (rows_void i (log_of w) (entry_of e) (void_mark e.position) knows (freed_before i w mount.legal) (numbered i w old e mount st next)
      (taken_is i w old e mount st next) (small void_lba (omega arith)));
  holds = holds_void i (log_of w) knows (entry_of e) (void_mark e.position) old.holds old.window.freed (numbered i w old e mount st next)
      (unplaced i w old e mount st next) st.holds (taken_is i w old e mount st next) st.to_freed (within i w old e mount st next) new.holds refl is.holds;
})
  where
    small : (n : ℕ) → meta_lba ≤ n → i.shape.capacity ≤ n
    small n most = let low : i.shape.capacity ≤ meta_lba = accepted_small i.shape mount.accepted in omega (arith, most)

    slot_same : (lba : ℕ) → lba < i.shape.capacity
        → slot_of i (after (log_of w) (Take (entry_of e) (void_mark e.position)) knows) lba ≡ slot_of i (log_of w) lba
    slot_same lba inside =
        slot_taken i (log_of w) (entry_of e) (void_mark e.position) knows lba (unplaced i w old e mount st next)
        ∙ ap (λ b. if b then Cached e.position else slot_of i (log_of w) lba) (other_number void_lba lba apart)
      where
        apart : void_lba ≢ lba
        apart same = let high : i.shape.capacity ≤ meta_lba = small meta_lba (omega arith) in let it : void_lba ≡ lba = same in absurd (omega (arith, inside))

-- ---- and the log may take it

-- A slot that is another block, or none, doesn't name the source.
abbrev NamesOther : Slot → EntrySource → Type 0
NamesOther Unwritten source = ⊤
NamesOther (Cached position) source = position ≢ source.position
NamesOther (Media line at position) source = (position ≢ source.position) ⊎ ((line ≢ source.line) ⊎ (at ≢ source.at))

other_block : (line at position : ℕ) (source : EntrySource) → is_source (Some (Media line at position)) source ≡ false
    → (position ≢ source.position) ⊎ ((line ≢ source.line) ⊎ (at ≢ source.at))
other_block line at position source e = go (eqb_tells line source.line) (eqb_tells at source.at) (eqb_tells position source.position)
  where
    go : ((eqb line source.line ≡ true) × (line ≡ source.line)) ⊎ ((eqb line source.line ≡ false) × (line ≢ source.line))
        → ((eqb at source.at ≡ true) × (at ≡ source.at)) ⊎ ((eqb at source.at ≡ false) × (at ≢ source.at))
        → ((eqb position source.position ≡ true) × (position ≡ source.position)) ⊎ ((eqb position source.position ≡ false) × (position ≢ source.position))
        → (position ≢ source.position) ⊎ ((line ≢ source.line) ⊎ (at ≢ source.at))
    go (inr a) b c = inr (inl a.1)
    go (inl a) (inr b) c = inr (inr b.1)
    go (inl a) (inl b) (inr c) = inl c.1
    go (inl a) (inl b) (inl c) =
        absurd (not_both (is_source (Some (Media line at position)) source)
        (and_both (line == source.line) ((at == source.at) && (position == source.position)) a.0
        (and_both (at == source.at) (position == source.position) b.0 c.0)) e)

names_other : (slot : Slot) (source : EntrySource) → is_source (Some slot) source ≡ false → Some slot ≢ Some (Cached source.position) → NamesOther slot source
names_other Unwritten source e apart = tt
names_other (Cached position) source e apart = λ same. apart (ap (λ n. Some (Cached n)) same)
names_other (Media line at position) source e apart = other_block line at position source e

-- so the source isn't the latest of its sector
not_latest : (i : Image) (w : World) (lba : ℕ) (source : EntrySource) (slot : Slot) → IsLegalMount i w → slot_of i (log_of w) lba ≡ slot
    → NamesOther slot source
    → (block : Block) → IsLatest i (log_of w) lba (record { line = source.line; at = source.at; position = source.position }) block → ⊥
not_latest i w lba source Unwritten mount is other block latest =
    stale_source i (log_of w) lba (record { line = source.line; at = source.at; position = source.position })
    (λ e. none-some source.position (sym (ap position_of_slot is) ∙ e)) block latest
not_latest i w lba source (Cached position) mount is other block latest =
    stale_source i (log_of w) lba (record { line = source.line; at = source.at; position = source.position })
    (λ e. other (same_Some position source.position (sym (ap position_of_slot is) ∙ e))) block latest
not_latest i w lba source (Media line at position) mount is (inl apart) block latest =
    stale_source i (log_of w) lba (record { line = source.line; at = source.at; position = source.position })
    (λ e. apart (same_Some position source.position (sym (ap position_of_slot is) ∙ e))) block latest
not_latest i w lba source (Media line at position) mount is (inr (inl apart)) block latest =
    apart (sym (latest_is_named i w mount lba line at position (record { line = source.line; at = source.at; position = source.position }) is latest.place).0)
not_latest i w lba source (Media line at position) mount is (inr (inr apart)) block latest =
    apart (sym (latest_is_named i w mount lba line at position (record { line = source.line; at = source.at; position = source.position }) is latest.place).1)

marked_stale : (i : Image) (w : World) (c : Core) (e : FramedEntry) (class : Class) (source : Option EntrySource) → IsLegalMount i w → Stands i (log_of w) c
    → e.lba < i.shape.capacity → IsClassed c.map e class source → is_latest_from (fin.get c.map e.lba) source ≡ false
    → IsMarked i (log_of w) (entry_of e) (void_mark e.position) (sources source)
marked_stale i w c e class None mount st inside classed stale = absurd cc
marked_stale i w c e User (Some source) mount st inside classed stale = absurd (none-some source (sym classed))
marked_stale i w c e Copy (Some source) mount st inside classed stale = inr (record {
  stale = not_latest i w e.lba source (slot_of i (log_of w) e.lba) mount refl
      (names_other (slot_of i (log_of w) e.lba) source (ap (λ o. is_source o source) (sym (st.slots e.lba inside)) ∙ stale) apart);
  names_none = refl;
})
  where
    apart : Some (slot_of i (log_of w) e.lba) ≢ Some (Cached source.position)
    apart same =
        let from : source ≡ classed.0 = same_Some source classed.0 classed.1 in
        classed.2 (st.slots e.lba inside ∙ same ∙ ap (λ (s : EntrySource). Some (Cached s.position)) from)

pub may_take_stale : (i : Image) (w : World) (c : Core) (e : FramedEntry) → IsLegalMount i w → Stands i (log_of w) c → CanTake c e
    → e.position < 2 ^ 62 → e.lba < i.shape.capacity → is_latest_in c.map e ≡ false
    → IsBlock i.shape (record { sector = e.frame.bytes; mark = void_mark e.position })
    → MayTake i (log_of w) (entry_of e) (void_mark e.position)
may_take_stale i w c e mount st next number inside stale block = record {
  position = next.next ∙ window_taken_is i w c st;
  position_number = number;
  lba = inside;
  marked = marked_stale i w c e e.class e.source mount st inside next.class stale;
  block = block;
}
