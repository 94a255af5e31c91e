-- The chunks of a drive, and the lines among them.
use Rattle.std.proofs.Common.{◌≡◌, ℕ, ◌*◌, ◌^◌, ◌<◌, ◌≤◌, zero, suc, List, [], ◌∷◌, length, map, get_or, nat_lt, is_some, Option, Some, None, inl, inr, refl, sym, ap, ◌∙◌, subst, arith}
use Rattle.std.specs.List.{AllByRecursion, slice_get}
use Rattle.std.specs.Option.{option_and_then}
use Rattle.std.proofs.lemmas.Bool.{cases_lt, le-ltb, lt-ltb}
use Rattle.std.proofs.lemmas.List.{length-map}
use Rattle.std.proofs.lemmas.Option.{none-some, same_Some, slice_get-get_or}
use Rattle.pblk_model.specs.declared.shape.Shape.{Shape}
use Rattle.pblk_model.specs.Accepted.{IsAccepted}
use Rattle.pblk_model.specs.Shape.{units}
use Rattle.pblk_model.specs.Chunk.{Chunk, pointer}
use Rattle.pblk_model.specs.LineOrder.{line_order}
use Rattle.pblk_model.specs.Image.{Image, IsFit, line_units, width, block_at}
use Rattle.pblk_model.specs.ImageFile as file
use Rattle.pblk_model.specs.ImageFile.{StoredChunk}
use Rattle.pblk_layout.specs.Online.{units_in}
use Rattle.pblk_laws.specs.LineBlocks.{written_at}
use Rattle.pblk_laws.proofs.LineUnits.{line_units_count, no_block_past}
use Rattle.pblk_laws.proofs.Widths.{width_within}
use Rattle.unit_port.specs.Unit.{ModelUnit}
use Rattle.ocssd_drive.specs.Drive.{DriveView, IsWhole, shape_of, stored}
use Rattle.ocssd_drive.specs.Units as drive
use Rattle.ocssd_drive.specs.Units.{WornUnit, stored_chunks}
use Rattle.scan_recovery.specs.declared.media.Media.TheInside.{Inside}
use Rattle.scan_recovery.specs.Media.{IsMedia, media_image}
use Rattle.scan_recovery.specs.Units.{AreFit, IsUnitOf, image_of}
use Rattle.scan_recovery.proofs.FetchLines.{block_placed, line_few, line_short, placed_by, unit_placed}
use Rattle.scan_recovery.proofs.PadLoops.{fit_image}
use Rattle.scan_recovery.proofs.Tallies.{row_there}
use Rattle.pblk_model.proofs.AcceptedLemmas.{line_is_short}
use Rattle.pblk_model.proofs.OrderedBlocks.{order_length}
use Rattle.pblk_model.proofs.Parts.{all_get, get_past, within_some}
use Rattle.pblk_model.proofs.ImageFileLemmas.{kept_chunks}

-- The units of a drive.

each_fit : (s : Shape) (us : List WornUnit) → AllByRecursion (drive.IsUnitOf s) us → (k : ℕ) (u : ModelUnit)
    → slice_get (map (λ (u : WornUnit). u.unit) us) k ≡ Some u → IsUnitOf s u
each_fit s [] h k u there = absurd (none-some u there)
each_fit s (w ∷ us) h zero u there = subst (IsUnitOf s) (same_Some w.unit u there) (record { shape = h.0.shape; fits = h.0.fits })
each_fit s (w ∷ us) h (suc k) u there = each_fit s us h.1 k u there

drive_fit : (d : DriveView) → IsWhole d → AreFit (shape_of d) (map (λ (u : WornUnit). u.unit) d.units)
drive_fit d whole = record { count = length-map d.units (λ (u : WornUnit). u.unit) ∙ whole.count; each = each_fit (shape_of d) d.units whole.fit }

pub units_fit : (d : DriveView) (s : Shape) (us : List WornUnit) → IsWhole d → s ≡ shape_of d → us ≡ d.units → AreFit s (map (λ (u : WornUnit). u.unit) us)
units_fit d s us whole shape is =
    subst (λ (x : Shape). AreFit x (map (λ (u : WornUnit). u.unit) us)) (sym shape)
    (subst (λ (xs : List WornUnit). AreFit (shape_of d) (map (λ (u : WornUnit). u.unit) xs)) (sym is) (drive_fit d whole))

-- Their image is that of the drive as it is kept in a file.

all_media : (s : Shape) (us : List WornUnit) → AllByRecursion (drive.IsUnitOf s) us
    → map (λ (u : ModelUnit). u.media) (map (λ (u : WornUnit). u.unit) us) ≡ map (map (λ (k : StoredChunk). k.chunk)) (map stored_chunks us)
all_media s [] h = refl
all_media s (u ∷ us) h =
    let count : length u.unit.media ≡ length u.wear = h.0.fits.count ∙ ap (λ (x : Shape). x.chunks) h.0.shape ∙ sym h.0.worn in
    rw (kept_chunks u.unit.media u.wear count) (ap (λ ms. u.unit.media ∷ ms) (all_media s us h.1))

abbrev img : Shape → List (List Chunk) → Image
img s us = record { shape = s; units = us }

pub image_is : (d : DriveView) (s : Shape) (us : List WornUnit) → IsWhole d → s ≡ shape_of d → us ≡ d.units
    → image_of s (map (λ (u : WornUnit). u.unit) us) ≡ file.image_of (stored d)
image_is d s us whole shape is =
    ap (λ x. img x (map (λ (u : ModelUnit). u.media) (map (λ (u : WornUnit). u.unit) us))) shape
    ∙ ap (λ xs. img (shape_of d) (map (λ (u : ModelUnit). u.media) (map (λ (u : WornUnit). u.unit) xs))) is
    ∙ ap (img (shape_of d)) (all_media (shape_of d) d.units whole.fit)

-- A line.

module _ (m : Inside) (i : Image) (line live : ℕ) (sound : IsMedia m) (view : media_image m ≡ i) (inside : line < i.shape.chunks)
    (at : live ≡ get_or m.online.items line live) where
  abbrev us : List ModelUnit
  us = map (λ (u : WornUnit). u.unit) m.units.now

  below : line < length m.online.items
  below =
      let low : line < m.layout.chunks = subst (λ (j : Image). line < j.shape.chunks) (sym view) inside in
      omega (arith, low, sound.online.count, length-map m.online.items units_in)

  pub online_is : units_in live ≡ line_units (media_image m) line
  online_is = ap units_in at ∙ row_there m.layout.chunks (line_units (media_image m)) units_in m.online.items line live sound.online below

  pub online_low : live < 2 ^ units m.layout
  online_low = all_get (λ n. n < 2 ^ units m.layout) m.online.items line live sound.below
      (slice_get-get_or m.online.items line live below ∙ ap (λ n. Some n) (sym at))

  pub wide : length (units_in live) ≡ width i line
  wide = ap length online_is ∙ line_units_count (media_image m) line ∙ ap (λ j. width j line) view

  pub within : length (units_in live) ≤ units i.shape
  within = subst (λ (j : Image). length (units_in live) ≤ units j.shape) view (line_few m.layout us line (units_in live) sound.fit online_is)

  module _ (t : Shape) (g : ℕ) (shape : t ≡ m.layout) (wide-is : g ≡ length (units_in live)) where
    count : g * t.clba ≡ length (units_in live) * m.layout.clba
    count = ap (λ n. n * t.clba) wide-is ∙ ap (λ (s : Shape). length (units_in live) * s.clba) shape

    pub few : g * t.clba ≤ 65536
    few = omega (arith, count, (line_short m.layout us line (units_in live) sound.accepted sound.fit online_is).1)

    pub nothing_there : (a : ℕ) → g * t.clba ≤ a → None ≡ block_at i line a
    nothing_there a past =
        let some = sound.accepted.drive.ws_opt in
        let whole = sound.accepted.drive.whole_stripes in
        let none : slice_get (line_order m.layout (units_in live)) a ≡ None =
        get_past (line_order m.layout (units_in live)) a (omega (arith, past, count, order_length m.layout (units_in live) some whole)) in
        sym (ap (λ j. block_at j line a) (sym view)
        ∙ no_block_past (media_image m) line a (fit_image m.layout us sound.fit) some whole
        (ap (λ xs. slice_get (line_order m.layout xs) a) (sym online_is) ∙ none))

    module _ (a bits : ℕ) (place : ℕ × ℕ) (short : a < g * t.clba) (bits-are : bits ≡ live)
        (placed : slice_get (line_order m.layout (units_in bits)) a ≡ Some place) where
      there : slice_get (line_order m.layout (units_in live)) a ≡ Some place
      there = placed_by m.layout m.layout live bits a place refl bits-are placed

      pub unit_there : place.0 < length m.units.now
      unit_there =
          let inside : a < length (units_in live) * m.layout.clba = omega (arith, short, count) in
          omega (
            arith,
            unit_placed m.layout us line a (units_in live) place sound.accepted sound.fit online_is inside there,
            length-map m.units.now (λ (u : WornUnit). u.unit),
          )

      pub block_there : written_at (media_image m) line place ≡ block_at i line a
      block_there = block_placed (media_image m) line a (units_in live) place sound.accepted online_is there ∙ ap (λ j. block_at j line a) view

pub image_fits : (m : Inside) (i : Image) → IsMedia m → media_image m ≡ i → IsAccepted i.shape × IsFit i
image_fits m i sound view = (
  subst (λ (j : Image). IsAccepted j.shape) view sound.accepted,
  subst IsFit view (fit_image m.layout (map (λ (u : WornUnit). u.unit) m.units.now) sound.fit),
)

-- its length
pub short_line : (i : Image) (line : ℕ) → IsAccepted i.shape → IsFit i → width i line * i.shape.clba ≤ 65536
short_line i line accepted fit = line_is_short i.shape (width i line) accepted (width_within i line fit)

pub count_is : (m : Inside) (i : Image) (t : Shape) (line n : ℕ) → media_image m ≡ i → t ≡ m.layout → n ≡ width i line
    → n * t.clba ≡ width i line * i.shape.clba
count_is m i t line n view shape n-is = ap (λ k. k * t.clba) n-is ∙ ap (λ (s : Shape). width i line * s.clba) shape
    ∙ ap (λ (j : Image). width i line * j.shape.clba) view

pub count_short : (m : Inside) (i : Image) (t : Shape) (line n : ℕ) → IsMedia m → media_image m ≡ i → t ≡ m.layout → n ≡ width i line → n * t.clba ≤ 65536
count_short m i t line n sound view shape n-is =
    let fits = image_fits m i sound view in
    subst (λ k. k ≤ 65536) (sym (count_is m i t line n view shape n-is)) (short_line i line fits.0 fits.1)

-- Whether a block is written, by its chunk's pointer.

-- a list has an element at each place below its length
has_place : {X : Type 0} (xs : List X) (k : ℕ) → nat_lt k (length xs) ≡ is_some (slice_get xs k)
has_place xs k = elim (cases_lt k (length xs)) [
  | inl below ↦ lt-ltb k (length xs) below ∙ sym (within_some xs k below)
  | inr past ↦ le-ltb k (length xs) past ∙ sym (ap is_some (get_past xs k past))
]

pub written_is : (o : Option Chunk) (c : Chunk) (block n : ℕ) → o ≡ Some c → n ≡ pointer c
    → nat_lt block n ≡ is_some (option_and_then (λ (x : Chunk). slice_get x.blocks block) o)
written_is o c block n is count = rw (is, count) (has_place c.blocks block)
