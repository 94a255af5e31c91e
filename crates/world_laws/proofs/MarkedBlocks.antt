-- Blocks of a chunk by their marks. In a line that was opened, and maybe freed since, a block whose
-- mark names a sector, or is Void, is that of the entry at the mark's position. In a line that
-- wasn't opened each block is the one that the mount found.
use Rattle.std.proofs.Common.{◌≡◌, inl, inr, ℕ, ◌+◌, ◌-◌, ◌<◌, ◌≤◌, ◌==◌, suc, Some, None, Option, List, length, sym, subst, ap, ◌∙◌, arith}
use Rattle.std.specs.Prelude.{slice_get, slice_index}
use Rattle.std.specs.List.{AllByRecursion, Contains}
use Rattle.std.proofs.lemmas.Option.{none-some, same_Some}
use Rattle.pblk_model.specs.Chunk.{Block, Chunk}
use Rattle.pblk_model.specs.Contents.{counted}
use Rattle.pblk_model.specs.Image.{Image}
use Rattle.pblk_model.specs.Records.{Record, named}
use Rattle.pblk_laws.specs.LineBlocks.{chunk_in}
use Rattle.pblk_world.specs.EngineLog.{Begun, Opening, Placed, Taken, begun, block_of_taken, last_opening, life_of, opened_by, openings, placed_on, placements, takes}
use Rattle.pblk_world.specs.Fronts.{first_position}
use Rattle.pblk_world.specs.Legal.{IsLegal}
use Rattle.pblk_world.specs.LegalMounts.{IsLegalMount}
use Rattle.pblk_world.specs.Lines.{found_image}
use Rattle.pblk_world.specs.World.{World, known, log_of, media}
use Rattle.pblk_model.proofs.Lists.{IsAmong, all_contains, among_all, among_contained}
use Rattle.pblk_model.proofs.Maps.{all_filter}
use Rattle.pblk_model.proofs.Parts.{contained_among, is_in}
use Rattle.world_laws.specs.LifeBlocks.{IsBlockOfLife}
use Rattle.world_laws.specs.OpenedChunks.{IsOpenedChunk}
use Rattle.world_laws.specs.UnitChunks.{chunk_after}
use Rattle.world_laws.proofs.Begun.{begun_with, first_is}
use Rattle.world_laws.proofs.Entries.{IsEntryOrNone, entries_of_stripe, marks_bear}
use Rattle.world_laws.proofs.FoundCounts.{counted_below}
use Rattle.world_laws.proofs.FreedChunks.{blocks_of_last}
use Rattle.world_laws.proofs.KeptChunks.{kept_or_emptied, none_in_unopened}
use Rattle.world_laws.proofs.LifeBlocks.{no_blocks}
use Rattle.world_laws.proofs.LifeUnits.{begun_within}
use Rattle.world_laws.proofs.Lives.{life_is_known}
use Rattle.world_laws.proofs.Made.{known_within}
use Rattle.world_laws.proofs.MediaChunks.{chunk_of_found, chunk_of_media}
use Rattle.world_laws.proofs.Positions.{position_of}
use Rattle.world_laws.proofs.Stripes.{IsOpening, opening_is}
use Rattle.world_laws.proofs.UnitChunks.{still_there}
use Rattle.world_laws.proofs.UnitLogs.{chunk_fits}

-- ---- entries by their positions

-- entries of one position are one entry
pub one_entry : (i : Image) (w : World) (t u : Taken) → IsLegal i w → Contains (takes (log_of w 0)) t → Contains (takes (log_of w 0)) u
    → t.entry.position ≡ u.entry.position → t ≡ u
one_entry i w t u legal there other same =
    let a = among_contained (takes (log_of w 0)) t there in
    let b = among_contained (takes (log_of w 0)) u other in
    let at_a : t.entry.position ≡ first_position (log_of w 0) + a.0 = position_of i w a.0 t legal a.1 in
    let at_b : u.entry.position ≡ first_position (log_of w 0) + b.0 = position_of i w b.0 u legal b.1 in
    let index : a.0 ≡ b.0 = omega arith in
    same_Some t u (sym a.1 ∙ ap (slice_get (takes (log_of w 0))) index ∙ b.1)

-- a record that counts in the image found has a position below the mount's first
pub below_first : (i : Image) (w : World) (b : Begun) (r : Record) → IsLegal i w → begun (log_of w 0) ≡ Some b
    → Contains (counted (found_image i (log_of w))) r → r.position < first_position (log_of w 0)
below_first i w b r legal begins counts =
    let first = first_is (log_of w 0) b begins in
    let end_ = (begun_with i w b legal begins).first in
    let below = counted_below (found_image i (log_of w)) r counts in
    omega arith

-- ---- in a line that was opened

module _ (i : Image) (w : World) (o : Opening) (line unit events at : ℕ) (c : Chunk) (block : Block) (is : IsOpenedChunk i w o line unit events c)
    (written : slice_get c.blocks at ≡ Some block) (name : Option ℕ) (names : named i.shape block.mark ≡ Some name) where
  its : IsBlockOfLife (log_of w) o line unit events at block
  its = blocks_of_last i w is.mount.accepted is.mount.fit is.mount.legal is.beginning is.begins unit line o is.last events at c block is.since is.within
      is.there written

  its_stripe : Contains (placements (log_of w 0)) its.placed
  its_stripe =
      let all : AllByRecursion (IsAmong (placements (log_of w 0))) (placed_on (log_of w 0) unit) =
      all_filter (IsAmong (placements (log_of w 0))) (λ (p : Placed). p.stripe.unit == unit) (placements (log_of w 0)) (among_all (placements (log_of w 0))) in
      contained_among (placements (log_of w 0)) its.placed
      (all_contains (IsAmong (placements (log_of w 0))) (placed_on (log_of w 0) unit) its.placed all (is_in (placed_on (log_of w 0) unit) _ its.placed
      its.its_stripe))

  entry_or_none : IsEntryOrNone i.shape (log_of w 0) block
  entry_or_none = all_contains (IsEntryOrNone i.shape (log_of w 0)) its.placed.stripe.blocks block
      (entries_of_stripe i w its.placed is.mount.accepted is.mount.legal its_stripe) (is_in its.placed.stripe.blocks its.index block its.is_block)

  -- the block is that of an entry, whose position its mark has
  pub of_entry : (t : Taken) × Contains (takes (log_of w 0)) t × (block_of_taken t ≡ block) × (t.entry.position ≡ block.mark.position)
  of_entry = go entry_or_none
    where
      go : IsEntryOrNone i.shape (log_of w 0) block
          → (t : Taken) × Contains (takes (log_of w 0)) t × (block_of_taken t ≡ block) × (t.entry.position ≡ block.mark.position)
      go (inl none) = absurd (none-some name (sym none ∙ names))
      go (inr e) =
          let there : Contains (takes (log_of w 0)) e.0 = contained_among (takes (log_of w 0)) e.0 e.1 in
          let bears : e.0.mark.position ≡ e.0.entry.position =
          all_contains (λ (t : Taken). t.mark.position ≡ t.entry.position) (takes (log_of w 0)) e.0 (marks_bear i w is.mount.legal) there in
          (e.0, there, e.2, sym bears ∙ ap (λ (x : Block). x.mark.position) e.2)

  -- so it is that of any entry with this position
  pub of_its_entry : (t : Taken) → Contains (takes (log_of w 0)) t → t.entry.position ≡ block.mark.position → block ≡ block_of_taken t
  of_its_entry t there position =
      let e = of_entry in
      sym e.2 ∙ ap block_of_taken (one_entry i w e.0 t is.mount.legal e.1 there (e.3 ∙ sym position))

  -- and no record that counts in the image found has a position as great
  pub past_found : (r : Record) → Contains (counted (found_image i (log_of w))) r → r.position < block.mark.position
  past_found r counts =
      let e = of_entry in
      let k = among_contained (takes (log_of w 0)) e.0 e.1 in
      let from : e.0.entry.position ≡ first_position (log_of w 0) + k.0 = position_of i w k.0 e.0 is.mount.legal k.1 in
      let below : r.position < first_position (log_of w 0) = below_first i w is.beginning r is.mount.legal is.begins counts in
      let same : e.0.entry.position ≡ block.mark.position = e.3 in
      omega arith

-- what a line's last opening names stands in the log
abbrev with_knows : Opening → List ℕ → Opening
with_knows o knows = record { number = o.number; line = o.line; start = o.start; knows = knows }

pub last_within : (i : Image) (w : World) (line author : ℕ) (o : Opening) → IsLegal i w → last_opening (life_of (log_of w 0) line) ≡ Some o
    → slice_index o.knows author ≤ length (log_of w author)
last_within i w line author o legal last =
    let at = among_contained (openings (log_of w 0)) o (life_is_known (log_of w 0) line o last).0 in
    let is : IsOpening (log_of w 0) at.0 o = opening_is (log_of w 0) at.0 o at.1 in
    let few : known is.logged author ≤ length (log_of w author) =
    known_within i w 0 author is.logged legal (is_in (log_of w 0) o.number is.logged is.there) in
    let same : with_knows o is.logged.knows ≡ o =
    same_Some (with_knows o is.logged.knows) o (sym (ap (opened_by o.number is.logged.knows) is.event) ∙ is.made) in
    subst (λ ks. slice_index ks author ≤ length (log_of w author)) (ap (λ (x : Opening). x.knows) same) few

-- its chunk on the media
pub opened_chunk : (i : Image) (w : World) (b : Begun) (o : Opening) (line unit : ℕ) (c : Chunk) → IsLegalMount i w → begun (log_of w 0) ≡ Some b
    → last_opening (life_of (log_of w 0) line) ≡ Some o → chunk_in (media i (log_of w)) line unit ≡ Some c
    → IsOpenedChunk i w o line unit (length (log_of w (suc unit))) c
opened_chunk i w b o line unit c mount begins last there = record {
  mount = mount;
  beginning = b;
  begins = begins;
  last = last;
  since = last_within i w line (suc unit) o mount.legal last;
  within = omega arith;
  there = sym (chunk_of_media i (log_of w) line unit) ∙ there;
}

-- ---- in a line that wasn't opened

-- freed or not
pub as_it_was : (i : Image) (w : World) (b : Begun) (line unit events at : ℕ) (c : Chunk) (block : Block) → IsLegalMount i w
    → begun (log_of w 0) ≡ Some b → last_opening (life_of (log_of w 0) line) ≡ None → slice_index b.knows (suc unit) ≤ events
    → events ≤ length (log_of w (suc unit)) → chunk_after i (log_of w) line unit events ≡ Some c → slice_get c.blocks at ≡ Some block
    → (x : Chunk) × (chunk_in (found_image i (log_of w)) line unit ≡ Some x) × (slice_get x.blocks at ≡ Some block)
as_it_was i w b line unit events at c block mount begins never from inside there written =
    let base = slice_index b.knows (suc unit) in
    let far : base + (events - base) ≡ events = omega arith in
    let x = still_there i (log_of w) line unit events base c there in
    elim (kept_or_emptied i w mount.legal unit line base (events - base) x.0 c (omega arith)
    (none_in_unopened i w mount.legal b begins unit line (base + (events - base)) never) x.1 (ap (chunk_after i (log_of w) line unit) far ∙ there)) as
    (λ _. (x : Chunk) × (chunk_in (found_image i (log_of w)) line unit ≡ Some x) × (slice_get x.blocks at ≡ Some block)) [
      | inl same ↦ (
        x.0,
        chunk_of_found i (log_of w) b line unit begins ∙ x.1,
        ap (λ (d : Chunk). slice_get d.blocks at) (sym same) ∙ written,
      )
      | inr empty ↦ absurd (no_blocks c.state i.shape.clba at c.blocks block empty
          (chunk_fits i w mount.legal unit line events c mount.fit mount.accepted.drive.ws_min inside there).place written)
    ]

-- on the media
pub as_it_was_now : (i : Image) (w : World) (b : Begun) (line unit at : ℕ) (c : Chunk) (block : Block) → IsLegalMount i w
    → begun (log_of w 0) ≡ Some b → last_opening (life_of (log_of w 0) line) ≡ None → chunk_in (media i (log_of w)) line unit ≡ Some c
    → slice_get c.blocks at ≡ Some block
    → (x : Chunk) × (chunk_in (found_image i (log_of w)) line unit ≡ Some x) × (slice_get x.blocks at ≡ Some block)
as_it_was_now i w b line unit at c block mount begins never there written =
    as_it_was i w b line unit (length (log_of w (suc unit))) at c block mount begins never (begun_within i w mount.legal b begins unit) (omega arith)
    (sym (chunk_of_media i (log_of w) line unit) ∙ there) written
