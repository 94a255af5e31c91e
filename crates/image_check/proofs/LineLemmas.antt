-- What is known of a line that is read.
use Rattle.std.proofs.Common.{◌≡◌, ℕ, ◌*◌, ◌<◌, ◌≤◌, ◌^◌, length, Option, Some, None, sym, ap, ◌∙◌, subst, arith}
use Rattle.std.specs.List.{slice_get}
use Rattle.std.specs.Option.{option_and_then}
use Rattle.pblk_model.specs.declared.shape.Shape.{Shape}
use Rattle.pblk_model.specs.Accepted.{IsAccepted}
use Rattle.pblk_model.specs.Shape.{units}
use Rattle.pblk_model.specs.Chunk.{Block, Chunk}
use Rattle.pblk_model.specs.LineOrder.{line_order}
use Rattle.pblk_model.specs.Image.{IsFit, width, block_at}
use Rattle.pblk_layout.specs.Online.{units_in}
use Rattle.ocssd_drive.specs.Drive.{shape_of}
use Rattle.ocssd_drive.specs.Units.{WornUnit, IsUnitOf}
use Rattle.image_check.specs.declared.line.Line.TheInside.{Inside}
use Rattle.image_check.specs.Lines.{IsLine, LineView, line_view}
use Rattle.image_check.proofs.DriveImage as drive
use Rattle.image_check.proofs.DriveImage.{image, chunk_there}

module _ (l : Inside) (v : LineView) (sound : IsLine l) (view : line_view l ≡ v) where
  pub wide : length (units_in l.online) ≡ width v.image v.number
  wide = subst (λ (x : LineView). length (units_in l.online) ≡ width x.image x.number) view (drive.wide l.drive.now l.number l.online sound.whole sound.online)

  pub few : width v.image v.number ≤ units v.image.shape
  few = subst (λ (x : LineView). width x.image x.number ≤ units x.image.shape) view (drive.within l.drive.now l.number l.online sound.whole sound.online)

  pub inside : v.number < v.image.shape.chunks
  inside = subst (λ (x : LineView). x.number < x.image.shape.chunks) view sound.number

  pub accepted : IsAccepted v.image.shape
  accepted = subst (λ (x : LineView). IsAccepted x.image.shape) view sound.whole.accepted

  pub short : width v.image v.number * v.image.shape.clba ≤ 65536
  short = subst (λ (x : LineView). width x.image x.number * x.image.shape.clba ≤ 65536) view
      (drive.short l.drive.now l.number l.online sound.whole sound.online)

  pub layout_is : l.layout ≡ v.image.shape
  layout_is = sound.layout ∙ ap (λ (x : LineView). x.image.shape) view

  pub number_is : l.number ≡ v.number
  number_is = ap (λ (x : LineView). x.number) view

  pub nothing : (a : ℕ) → width v.image v.number * v.image.shape.clba ≤ a → None ≡ block_at v.image v.number a
  nothing = subst (λ (x : LineView). (a : ℕ) → width x.image x.number * x.image.shape.clba ≤ a → None ≡ block_at x.image x.number a) view
      (λ a past. sym (drive.nothing_there l.drive.now l.number l.online sound.whole sound.online a past))

  pub low : (bits : ℕ) → bits ≡ l.online → bits < 2 ^ units l.layout
  low bits is = subst (λ (s : Shape). bits < 2 ^ units s) (sym sound.layout)
      (subst (λ n. n < 2 ^ units (shape_of l.drive.now)) (sym is) sound.online.below)

  pub within : (bits a n : ℕ) → bits ≡ l.online → n ≡ width v.image v.number * v.image.shape.clba → a < n → a < length (units_in bits) * l.layout.clba
  within bits a n is n-is below =
      let size : length (units_in bits) * l.layout.clba ≡ width v.image v.number * v.image.shape.clba =
      ap (λ n. length (units_in n) * l.layout.clba) is ∙ ap (λ n. n * l.layout.clba) wide
      ∙ ap (λ (s : Shape). width v.image v.number * s.clba) layout_is in
      omega arith

  module _ (bits a n : ℕ) (place : ℕ × ℕ) (is : bits ≡ l.online) (n-is : n ≡ width v.image v.number * v.image.shape.clba) (below : a < n)
      (placed : slice_get (line_order l.layout (units_in bits)) a ≡ Some place) where
    at_place : slice_get (line_order (shape_of l.drive.now) (units_in l.online)) a ≡ Some place
    at_place = sym (ap (λ n. slice_get (line_order l.layout (units_in n)) a) is
        ∙ ap (λ (s : Shape). slice_get (line_order s (units_in l.online)) a) sound.layout)
        ∙ placed

    in_line : a < width (image l.drive.now) l.number * (shape_of l.drive.now).clba
    in_line =
        let size : width (image l.drive.now) l.number * (shape_of l.drive.now).clba ≡ width v.image v.number * v.image.shape.clba =
        ap (λ (x : LineView). width x.image x.number * x.image.shape.clba) view in
        omega arith

    pub unit_in : place.0 < units (shape_of l.drive.now)
    unit_in = drive.unit_there l.drive.now l.number l.online sound.whole sound.online a place in_line at_place

    pub found : (u : WornUnit) (c : Chunk) (o : Option Block) → slice_get l.drive.now.units place.0 ≡ Some u → IsUnitOf (shape_of l.drive.now) u
        → slice_get u.unit.media l.number ≡ Some c → o ≡ slice_get c.blocks place.1 → o ≡ block_at v.image v.number a
    found u c o there fits here is-block =
        is-block ∙ sym (ap (option_and_then (λ (x : Chunk). slice_get x.blocks place.1)) (chunk_there l.drive.now l.number place.0 u c there fits here))
        ∙ drive.block_there l.drive.now l.number l.online sound.whole sound.online a place in_line at_place
        ∙ ap (λ (x : LineView). block_at x.image x.number a) view

-- how many blocks it has
pub count_is : (l : Inside) (v : LineView) (g : ℕ) (t : Shape) → IsLine l → line_view l ≡ v → g ≡ width v.image v.number → t ≡ l.layout
    → g * t.clba ≡ width v.image v.number * v.image.shape.clba
count_is l v g t sound view g-is shape = ap (λ n. n * t.clba) g-is ∙ ap (λ (s : Shape). width v.image v.number * s.clba) (shape ∙ layout_is l v sound view)

-- its image is that of a drive
pub fit_of : (l : Inside) (v : LineView) → IsLine l → line_view l ≡ v → IsFit v.image
fit_of l v sound view = subst (λ (x : LineView). IsFit x.image) view (drive.fit l.drive.now sound.whole)
