-- The chunks of a drive as those of its image, and the lines among them.
use Rattle.std.proofs.Common.{◌≡◌, ℕ, ◌*◌, ◌<◌, ◌≤◌, List, [], ◌∷◌, length, map, Option, Some, None, sym, ap, ◌∙◌, subst, arith}
use Rattle.std.specs.List.{AllByRecursion, range_with_len, slice_get}
use Rattle.std.specs.Option.{option_and_then, option_map}
use Rattle.std.proofs.lemmas.List.{length-map}
use Rattle.std.proofs.lemmas.List.FromFn.{length-range_with_len}
use Rattle.std.proofs.lemmas.Option.{slice_get-map}
use Rattle.pblk_model.specs.declared.shape.Shape.{Shape}
use Rattle.pblk_model.specs.Shape.{units}
use Rattle.pblk_model.specs.Chunk.{Chunk, IsChunk}
use Rattle.pblk_model.specs.LineOrder.{line_order, column_of, block_of}
use Rattle.pblk_model.specs.Image.{Image, IsFit, width, block_at}
use Rattle.pblk_model.specs.ImageFile as file
use Rattle.pblk_model.specs.ImageFile.{StoredChunk}
use Rattle.pblk_layout.specs.Online.{units_in}
use Rattle.pblk_laws.specs.LineBlocks.{chunk_in, written_at}
use Rattle.pblk_laws.proofs.LineUnits.{block_named, line_units_count, no_block_past, is_online_at, line_units_range}
use Rattle.pblk_model.specs.StartRecord.{StartRecord, start_of}
use Rattle.pblk_model.specs.Records.{line_records, record_at, records_after}
use Rattle.pblk_laws.proofs.Widths.{filter_map_length, width_within}
use Rattle.ocssd_drive.specs.Drive.{DriveView, IsWhole, shape_of, stored}
use Rattle.ocssd_drive.specs.Units.{WornUnit, IsUnitOf, stored_chunks}
use Rattle.pblk_model.proofs.Maps.{all_filter, all_in_range}
use Rattle.pblk_model.proofs.Options.{mapped_some}
use Rattle.pblk_model.proofs.Parts.{all_get, get_past}
use Rattle.pblk_model.proofs.AcceptedLemmas.{line_is_short}
use Rattle.pblk_model.proofs.ImageFileLemmas.{kept_chunks}
use Rattle.pblk_model.proofs.OrderedBlocks.{order_block, order_length}
use Rattle.image_check.specs.Lines.{HasOnline}

abbrev pub image : DriveView → Image
image d = file.image_of (stored d)

kept : (s : Shape) (u : WornUnit) → IsUnitOf s u → map (λ (k : StoredChunk). k.chunk) (stored_chunks u) ≡ u.unit.media
kept s u h = kept_chunks u.unit.media u.wear (h.fits.count ∙ ap (λ (x : Shape). x.chunks) h.shape ∙ sym h.worn)

-- a unit's chunk of a line is that of the image
pub chunk_there : (d : DriveView) (line unit : ℕ) (u : WornUnit) (c : Chunk) → slice_get d.units unit ≡ Some u → IsUnitOf (shape_of d) u
    → slice_get u.unit.media line ≡ Some c → chunk_in (image d) line unit ≡ Some c
chunk_there d line unit u c there fits here =
    ap (option_and_then (λ chunks. slice_get chunks line))
    (slice_get-map (map (λ (k : StoredChunk). k.chunk)) (map stored_chunks d.units) unit
    ∙ ap (option_map (map (λ (k : StoredChunk). k.chunk))) (slice_get-map stored_chunks d.units unit ∙ ap (option_map stored_chunks) there)
    ∙ ap Some (kept (shape_of d) u fits)) ∙ here

pub in_line : (d : DriveView) (line : ℕ) (u : WornUnit) → IsUnitOf (shape_of d) u → line < (shape_of d).chunks → line < length u.unit.media
in_line d line u fits inside = let count : length u.unit.media ≡ (shape_of d).chunks = fits.fits.count ∙ ap (λ (x : Shape). x.chunks) fits.shape in omega arith

abbrev media : List WornUnit → List (List Chunk)
media us = map (map (λ (k : StoredChunk). k.chunk)) (map stored_chunks us)

all_long : (s : Shape) (us : List WornUnit) → AllByRecursion (IsUnitOf s) us → AllByRecursion (λ unit. length unit ≡ s.chunks) (media us)
all_long s [] h = tt
all_long s (u ∷ us) h = (ap length (kept s u h.0) ∙ h.0.fits.count ∙ ap (λ (x : Shape). x.chunks) h.0.shape, all_long s us h.1)

all_chunks : (s : Shape) (us : List WornUnit) → AllByRecursion (IsUnitOf s) us → AllByRecursion (AllByRecursion (IsChunk s)) (media us)
all_chunks s [] h = tt
all_chunks s (u ∷ us) h = (
  subst (AllByRecursion (IsChunk s)) (sym (kept s u h.0)) (subst (λ (x : Shape). AllByRecursion (IsChunk x) u.unit.media) h.0.shape h.0.fits.chunks),
  all_chunks s us h.1,
)

pub units_count : (d : DriveView) → length (image d).units ≡ length d.units
units_count d = length-map (map stored_chunks d.units) (map (λ (k : StoredChunk). k.chunk)) ∙ length-map d.units stored_chunks

pub fit : (d : DriveView) → IsWhole d → IsFit (image d)
fit d whole = record {
  units = units_count d ∙ whole.count;
  chunks = all_long (shape_of d) d.units whole.fit;
  each = all_chunks (shape_of d) d.units whole.fit;
}

-- A line.

module _ (d : DriveView) (line online : ℕ) (whole : IsWhole d) (h : HasOnline (image d) line online) where
  pub wide : length (units_in online) ≡ width (image d) line
  wide = ap length h.are ∙ line_units_count (image d) line

  pub within : width (image d) line ≤ units (shape_of d)
  within = width_within (image d) line (fit d whole)

  pub short : width (image d) line * (shape_of d).clba ≤ 65536
  short = line_is_short (shape_of d) (width (image d) line) whole.accepted within

  pub nothing_there : (a : ℕ) → width (image d) line * (shape_of d).clba ≤ a → block_at (image d) line a ≡ None
  nothing_there a past =
      let some = whole.accepted.drive.ws_opt in
      let whole-stripes = whole.accepted.drive.whole_stripes in
      let count : length (line_order (shape_of d) (units_in online)) ≡ length (units_in online) * (shape_of d).clba =
      order_length (shape_of d) (units_in online) some whole-stripes in
      let size : length (units_in online) * (shape_of d).clba ≡ width (image d) line * (shape_of d).clba = ap (λ n. n * (shape_of d).clba) wide in
      let none : slice_get (line_order (shape_of d) (units_in online)) a ≡ None = get_past (line_order (shape_of d) (units_in online)) a (omega arith) in
      no_block_past (image d) line a (fit d whole) some whole-stripes (ap (λ xs. slice_get (line_order (shape_of d) xs) a) (sym h.are) ∙ none)

  module _ (a : ℕ) (place : ℕ × ℕ) (inside : a < width (image d) line * (shape_of d).clba)
      (placed : slice_get (line_order (shape_of d) (units_in online)) a ≡ Some place) where
    pub unit_there : place.0 < units (shape_of d)
    unit_there =
        let all : AllByRecursion (λ u. u < units (shape_of d)) (units_in online) =
        subst (AllByRecursion (λ u. u < units (shape_of d))) (sym (h.are ∙ line_units_range (image d) line))
        (all_filter (λ u. u < units (shape_of d)) (is_online_at (image d) line) (range_with_len 0 (length (image d).units))
        (all_in_range 0 (length (image d).units) (units (shape_of d)) (omega (arith, units_count d, whole.count)))) in
        let size : length (units_in online) * (shape_of d).clba ≡ width (image d) line * (shape_of d).clba = ap (λ n. n * (shape_of d).clba) wide in
        let named = mapped_some (slice_get (units_in online) (column_of (shape_of d) (length (units_in online)) a))
        (block_of (shape_of d) (length (units_in online)) a) place.0 place.1
        (sym (order_block (shape_of d) (units_in online) a whole.accepted.drive.ws_opt whole.accepted.drive.whole_stripes (omega arith)) ∙ placed) in
        all_get (λ u. u < units (shape_of d)) (units_in online) (column_of (shape_of d) (length (units_in online)) a) place.0 all named.0

    pub block_there : written_at (image d) line place ≡ block_at (image d) line a
    block_there = sym (block_named (image d) line a place whole.accepted.drive.ws_opt whole.accepted.drive.whole_stripes
        (ap (λ us. slice_get (line_order (shape_of d) us) a) (sym h.are) ∙ placed))

-- a line has no more records than blocks
pub few_records : (d : DriveView) (line : ℕ) → IsWhole d → length (line_records (image d) line) ≤ 65536
few_records d line whole = by_start (start_of (image d) line) where
  by_start : (o : Option StartRecord) → length (records_after (image d) line o) ≤ 65536
  by_start None = omega arith
  by_start (Some start) =
      let blocks : ℕ = width (image d) line * (image d).shape.clba in
      omega (
        arith,
        filter_map_length (record_at (image d) line start) (range_with_len 0 blocks),
        length-range_with_len 0 blocks,
        line_is_short (shape_of d) (width (image d) line) whole.accepted (width_within (image d) line (fit d whole)),
      )
