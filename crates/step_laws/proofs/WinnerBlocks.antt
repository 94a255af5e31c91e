-- The block of a sector that wasn't written in this mount, and stands where it was found.
use Rattle.std.proofs.Common.{◌≡◌, ◌≢◌, ℕ, ◌*◌, ◌%◌, ◌<◌, ◌==◌, suc, true, false, Some, None, Option, List, length, refl, sym, subst, ap, ap₂, ◌∙◌, arith}
use Rattle.std.specs.Prelude.{is_some, slice_get, slice_index}
use Rattle.std.specs.List.{list_any}
use Rattle.std.proofs.lemmas.Option.{slice_get_within}
use Rattle.pblk_model.specs.declared.shape.Shape.{Shape}
use Rattle.pblk_model.specs.declared.chunk.ChunkState.{ChunkState}
use Rattle.pblk_model.specs.declared.chunk.ChunkState.TheVariants as states
use Rattle.pblk_model.specs.Shape.{units}
use Rattle.pblk_model.specs.Chunk.{Chunk, Block, IsChunk, PointerFits, ReadableIn, IsReadable}
use Rattle.pblk_model.specs.Contents.{counted, winner}
use Rattle.pblk_model.specs.LineOrder.{line_order}
use Rattle.pblk_model.specs.Image.{Image, line_units}
use Rattle.pblk_model.specs.Records.{Record}
use Rattle.pblk_model.specs.StartRecord.{StartRecord, start_of}
use Rattle.pblk_layout.specs.Online.{units_in}
use Rattle.pblk_world.specs.World.{World, log_of, media}
use Rattle.pblk_world.specs.EngineLog.{Begun, begun, AsFound, life_of, Taken}
use Rattle.pblk_world.specs.Fronts.{last_take}
use Rattle.pblk_world.specs.Lines.{found_by, found_image}
use Rattle.pblk_laws.specs.LineBlocks.{chunk_in}
use Rattle.pblk_laws.proofs.LineUnits.{line_units_count}
use Rattle.pblk_laws.proofs.Winners.{winner_is_winner}
use Rattle.core_laws.specs.OpenedLines.{online_now}
use Rattle.step_laws.specs.SlotBlocks.{IsOfWinner, IsOfLatest, IsBlockOfSlot}
use Rattle.step_laws.proofs.EntryBlocks.{unit_within}
use Rattle.core_laws.proofs.LatestLines.{winner_as_found}
use Rattle.step_laws.proofs.FoundLines.{media_kept, no_stray, units_kept}
use Rattle.step_laws.proofs.FoundRecords.{IsFoundRecord, winner_found, IsPlaced, block_placed, sealed_mark}
use Rattle.step_laws.proofs.LiveUnits.{online_units}
use Rattle.core_laws.proofs.ReadBlocks.{IsWinnersSlot}
use Rattle.pblk_world.proofs.LinesLemmas.{length_found}
use Rattle.pblk_world.specs.LegalMounts.{IsLegalMount}
use Rattle.world_laws.specs.UnitChunks.{chunk_after}
use Rattle.world_laws.proofs.FirstEvent.{none_open}
use Rattle.world_laws.proofs.LifeUnits.{begun_within}
use Rattle.world_laws.proofs.MediaChunks.{chunk_of_found}
use Rattle.world_laws.proofs.UnitLogs.{chunk_fits}

-- ---- the image that the mount found

pub found_shape : (i : Image) (w : World) → (found_image i (log_of w)).shape ≡ i.shape
found_shape i w = go (begun (log_of w 0))
  where
    go : (o : Option Begun) → (found_by i (log_of w) o).shape ≡ i.shape
    go None = refl
    go (Some b) = refl

-- a chunk of it with a written block is Closed, since none is Open
read_by : (s : Shape) (state : ChunkState) (n at : ℕ) → state ≢ states.Open → PointerFits state s.clba n → at < n → ReadableIn state s.mw_cunits n at
read_by s states.Free n at closed fits within = absurd (let none : n ≡ 0 = fits in omega arith)
read_by s states.Open n at closed fits within = absurd (closed refl)
read_by s states.Closed n at closed fits within = within
read_by s states.Offline n at closed fits within = absurd (let none : n ≡ 0 = fits in omega arith)

readable_found : (i : Image) (w : World) (b : Begun) (line unit number : ℕ) (c : Chunk) (block : Block) → IsLegalMount i w → begun (log_of w 0) ≡ Some b
    → chunk_in (found_image i (log_of w)) line unit ≡ Some c → slice_get c.blocks number ≡ Some block → IsReadable i.shape c number
readable_found i w b line unit number c block mount begins there written =
    let then_ : chunk_after i (log_of w) line unit (slice_index b.knows (suc unit)) ≡ Some c = sym (chunk_of_found i (log_of w) b line unit begins) ∙ there in
    let is : IsChunk i.shape c = chunk_fits i w mount.legal unit line (slice_index b.knows (suc unit)) c mount.fit mount.accepted.drive.ws_min
    (begun_within i w mount.legal b begins unit) then_ in
    let closed : c.state ≢ states.Open = none_open i w mount.legal b begins unit line c then_ in
    read_by i.shape c.state (length c.blocks) number closed is.place (slice_get_within c.blocks number block written)

-- ---- the block

pub block_of_winner : (i : Image) (w : World) (b : Begun) (lba line at q : ℕ) (r : Record) → IsLegalMount i w → begun (log_of w 0) ≡ Some b
    → last_take (log_of w 0) lba ≡ None → winner (counted (found_image i (log_of w))) lba ≡ Some r → IsWinnersSlot r line at q
    → IsBlockOfSlot i (log_of w) lba line at q
block_of_winner i w b lba line at q r mount begins last wins slot =
    let found : Image = found_image i (log_of w) in
    let shape : (found_image i (log_of w)).shape ≡ i.shape = found_shape i w in
    let is : IsFoundRecord (found_image i (log_of w)) r = winner_found (found_image i (log_of w)) lba r wins in
    let its : r.lba ≡ Some lba = (winner_is_winner (found_image i (log_of w)) lba r wins).of_it in
    let some : 0 < (found_image i (log_of w)).shape.ws_opt = subst (λ (s : Shape). 0 < s.ws_opt) (sym shape) mount.accepted.drive.ws_opt in
    let whole = subst (λ (s : Shape). s.clba % s.ws_opt ≡ 0) (sym shape) mount.accepted.drive.whole_stripes in
    let placed : IsPlaced (found_image i (log_of w)) r.line r.at is.block =
    block_placed (found_image i (log_of w)) r.line r.at is.block some whole is.within is.there in
    let numbered : is_some (start_of (found_image i (log_of w)) r.line) ≡ true = ap (λ (o : Option StartRecord). is_some o) is.starts in
    let life : life_of (log_of w 0) r.line ≡ AsFound = winner_as_found i w mount lba r last wins in
    let kept : list_any (λ stray. stray == r.line) b.beginning.strays ≡ false = no_stray i w b r.line mount.legal begins numbered in
    let range : r.line < i.shape.chunks = subst (λ (s : Shape). r.line < s.chunks) shape is.in_range in
    let drive : placed.unit < units i.shape =
    subst (λ n. placed.unit < n) (length_found i (log_of w) (begun (log_of w 0)) ∙ mount.fit.units)
    (unit_within (found_image i (log_of w)) r.line placed.unit placed.chunk placed.there) in
    let stands : chunk_in (media i (log_of w)) r.line placed.unit ≡ Some placed.chunk = media_kept i w mount.legal b begins r.line life kept placed.unit
    ∙ placed.there in
    let us : units_in (online_now i (log_of w) r.line) ≡ line_units (found_image i (log_of w)) r.line = online_units i w r.line mount
    ∙ units_kept i w mount.legal b begins r.line life kept in
    let count : length (line_units (found_image i (log_of w)) r.line) * (found_image i (log_of w)).shape.clba ≡ _ * (found_image i (log_of w)).shape.clba =
    ap (λ n. n * (found_image i (log_of w)).shape.clba) (line_units_count (found_image i (log_of w)) r.line) in
    let inside : r.at < length (line_units (found_image i (log_of w)) r.line) * (found_image i (log_of w)).shape.clba =
    subst (λ n. r.at < n) (sym count) is.within in
    let its_own : IsOfWinner i (log_of w) lba r.line r.at r.position is.block = record {
      winning = r;
      wins = wins;
      of_line = refl;
      of_address = refl;
      of_position = refl;
      as_found = life;
      sector = is.sector;
      mark = sealed_mark (found_image i (log_of w)) lba r is its;
    } in
    let block : IsBlockOfSlot i (log_of w) lba r.line r.at r.position = record {
      in_range = range;
      within = subst (λ (s : Shape). r.at < length (units_in (online_now i (log_of w) r.line)) * s.clba) shape
          (subst (λ (xs : List ℕ). r.at < length xs * (found_image i (log_of w)).shape.clba) (sym us) inside);
      unit = placed.unit;
      number = placed.number;
      place = ap₂ (λ (s : Shape) (xs : List ℕ). slice_get (line_order s xs) r.at) (sym shape) us ∙ placed.place;
      of_drive = drive;
      chunk = placed.chunk;
      there = stands;
      readable = readable_found i w b r.line placed.unit placed.number placed.chunk is.block mount begins placed.there placed.written;
      block = is.block;
      written = placed.written;
      latest = subst (λ (o : Option Taken). IsOfLatest i (log_of w) lba r.line r.at r.position is.block o) (sym last) its_own;
    } in
    subst (λ n. IsBlockOfSlot i (log_of w) lba line at n) slot.of_position
    (subst (λ a. IsBlockOfSlot i (log_of w) lba line a r.position) slot.of_address
    (subst (λ l. IsBlockOfSlot i (log_of w) lba l r.at r.position) slot.of_line block))
