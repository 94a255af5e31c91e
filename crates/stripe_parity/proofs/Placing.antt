-- Chunks that are put in the place of a unit's, one after another.
use Rattle.std.proofs.Common.{◌≡◌, ℕ, zero, suc, ◌<◌, List, [], ◌∷◌, ◌++◌, length, map, drop, Option, Some, refl, sym, ap, ◌∙◌, arith}
use Rattle.std.specs.List.{slice_get, slice_set}
use Rattle.std.specs.Option.{option_map_or}
use Rattle.std.proofs.lemmas.List.{map-set}
use Rattle.std.proofs.lemmas.Option.{slice_get_within}
use Rattle.pblk_model.specs.declared.shape.Shape.{Shape}
use Rattle.pblk_model.specs.Shape.{units}
use Rattle.pblk_model.specs.Chunk.{Chunk}
use Rattle.pblk_model.specs.Image.{Image}
use Rattle.pblk_model.proofs.Maps.{get_mapped, map_back}
use Rattle.pblk_model.proofs.Parts.{all_get, get_set_same, got_within, set_same}
use Rattle.unit_port.specs.Unit.{ModelUnit}
use Rattle.ocssd_drive.specs.Drive.{DriveView, IsWhole, changed_at, shape_of, with_replaced, with_units}
use Rattle.ocssd_drive.specs.Units.{IsUnitOf, WornUnit, with_chunk}
use Rattle.stripe_parity.specs.Rebuilding.{drive_image, with_unit}

-- the chunks of units, by unit
abbrev pub media_of : List WornUnit → List (List Chunk)
media_of us = map (λ (u : ModelUnit). u.media) (map (λ (u : WornUnit). u.unit) us)

-- the chunks of one unit
abbrev pub chunks_at : DriveView → ℕ → List Chunk
chunks_at d unit = option_map_or (λ cs. cs) (slice_get (media_of d.units) unit) []

-- the first ones are new, and the others as they were
abbrev pub begun : List Chunk → List Chunk → List Chunk
begun news olds = news ++ drop (length news) olds

pub begun_next : (news olds : List Chunk) (c : Chunk) → length news < length olds → slice_set (begun news olds) (length news) c ≡ begun (news ++ c ∷ []) olds
begun_next [] [] c low = absurd (omega (arith, low))
begun_next [] (o ∷ olds) c low = refl
begun_next (n ∷ news) [] c low = absurd (omega (arith, low))
begun_next (n ∷ news) (o ∷ olds) c low = ap (λ cs. n ∷ cs) (begun_next news olds c (omega (arith, low)))

pub begun_whole : (news olds : List Chunk) → length news ≡ length olds → begun news olds ≡ news
begun_whole [] [] same = refl
begun_whole [] (o ∷ olds) same = absurd (omega (arith, same))
begun_whole (n ∷ news) [] same = absurd (omega (arith, same))
begun_whole (n ∷ news) (o ∷ olds) same = ap (λ cs. n ∷ cs) (begun_whole news olds (omega (arith, same)))

-- the list with one element changed
changed_is : {X : Type 0} (change : X → X) (i : ℕ) (xs : List X) (x : X) → slice_get xs i ≡ Some x → changed_at change i xs ≡ slice_set xs i (change x)
changed_is change i xs x there = ap (λ o. option_map_or (λ y. slice_set xs i (change y)) o xs) there

set_twice : {X : Type 0} (xs : List X) (i : ℕ) (x y : X) → slice_set (slice_set xs i x) i y ≡ slice_set xs i y
set_twice [] i x y = refl
set_twice (z ∷ xs) zero x y = refl
set_twice (z ∷ xs) (suc i) x y = ap (λ ys. z ∷ ys) (set_twice xs i x y)

-- the unit at a place of a drive, from its chunks
pub worn_at : (us : List WornUnit) (unit : ℕ) (media : List Chunk) → slice_get (media_of us) unit ≡ Some media
    → (w : WornUnit) × (slice_get us unit ≡ Some w) × (w.unit.media ≡ media)
worn_at us unit media there =
    let u = map_back (λ (u : ModelUnit). u.media) (map (λ (w : WornUnit). w.unit) us) unit media there in
    let w = map_back (λ (v : WornUnit). v.unit) us unit u.0 u.1 in
    (w.0, w.1, ap (λ (v : ModelUnit). v.media) w.2 ∙ u.2)

changed_media : (us : List WornUnit) (unit chunk : ℕ) (c : Chunk) (media : List Chunk) → slice_get (media_of us) unit ≡ Some media
    → media_of (changed_at (with_chunk chunk c) unit us) ≡ slice_set (media_of us) unit (slice_set media chunk c)
changed_media us unit chunk c media there =
    let w = worn_at us unit media there in
    let new = with_chunk chunk c w.0 in
    ap media_of (changed_is (with_chunk chunk c) unit us w.0 w.1)
    ∙ ap (map (λ (u : ModelUnit). u.media)) (map-set (λ (v : WornUnit). v.unit) us unit new)
    ∙ map-set (λ (u : ModelUnit). u.media) (map (λ (v : WornUnit). v.unit) us) unit new.unit
    ∙ ap (λ m. slice_set (media_of us) unit (slice_set m chunk c)) w.2

pub changed_wear : (us : List WornUnit) (unit chunk : ℕ) (c : Chunk) (w : WornUnit) → slice_get us unit ≡ Some w
    → map (λ (u : WornUnit). u.wear) (changed_at (with_chunk chunk c) unit us) ≡ map (λ (u : WornUnit). u.wear) us
changed_wear us unit chunk c w there =
    ap (map (λ (u : WornUnit). u.wear)) (changed_is (with_chunk chunk c) unit us w there)
    ∙ map-set (λ (u : WornUnit). u.wear) us unit (with_chunk chunk c w)
    ∙ set_same (map (λ (u : WornUnit). u.wear) us) unit w.wear (get_mapped (λ (u : WornUnit). u.wear) us unit w there)

-- an image once the first chunks of one of its units were replaced by these
abbrev pub after_put : ℕ → List Chunk → DriveView → Image
after_put lost [] old = drive_image old
after_put lost (n ∷ news) old = with_unit lost (begun (n ∷ news) (chunks_at old lost)) (drive_image old)

after_put_is : (lost : ℕ) (old : DriveView) (olds news : List Chunk) → slice_get (media_of old.units) lost ≡ Some olds
    → after_put lost news old ≡ with_unit lost (begun news olds) (drive_image old)
after_put_is lost old olds [] there =
    ap (λ (us : List (List Chunk)). record { shape = shape_of old; units = us }) (sym (set_same (media_of old.units) lost olds there))
after_put_is lost old olds (n ∷ news) there =
    ap (λ cs. with_unit lost (begun (n ∷ news) cs) (drive_image old)) (ap (λ (o : Option (List Chunk)). option_map_or (λ cs. cs) o []) there)

-- How far chunks have been put in the place of a unit's.
pub record ArePut (lost : ℕ) (old : DriveView) (news : List Chunk) (d : DriveView) : Type 0 where
  pub image : drive_image d ≡ after_put lost news old
  pub wear : map (λ (u : WornUnit). u.wear) d.units ≡ map (λ (u : WornUnit). u.wear) old.units
  pub numbers : d ≡ with_units d.units old
  pub whole : IsWhole d

pub one_put : (lost chunk : ℕ) (old d new : DriveView) (olds news : List Chunk) (c : Chunk) → slice_get (media_of old.units) lost ≡ Some olds
    → chunk ≡ length news → length news < length olds
    → ArePut lost old news d → new ≡ with_replaced lost chunk c d → IsWhole new → ArePut lost old (news ++ c ∷ []) new
one_put lost chunk old d new olds news c at-lost at low h is whole =
    let within : lost < length (media_of old.units) = slice_get_within (media_of old.units) lost olds at-lost in
    let image = h.image ∙ after_put_is lost old olds news at-lost in
    let units : media_of d.units ≡ slice_set (media_of old.units) lost (begun news olds) = ap (λ (i : Image). i.units) image in
    let there : slice_get (media_of d.units) lost ≡ Some (begun news olds) = ap (λ us. slice_get us lost) units
    ∙ get_set_same (media_of old.units) lost (begun news olds) within in
    let w = worn_at d.units lost (begun news olds) there in
    let changed = changed_at (with_chunk chunk c) lost d.units in
    let first : new ≡ with_units changed old = is ∙ ap (with_units changed) h.numbers in
    let put : media_of changed ≡ slice_set (media_of old.units) lost (begun (news ++ c ∷ []) olds) =
    changed_media d.units lost chunk c (begun news olds) there
    ∙ ap (λ us. slice_set us lost (slice_set (begun news olds) chunk c)) units
    ∙ set_twice (media_of old.units) lost (begun news olds) (slice_set (begun news olds) chunk c)
    ∙ ap (slice_set (media_of old.units) lost) (ap (λ k. slice_set (begun news olds) k c) at ∙ begun_next news olds c low) in
    record {
      image = ap drive_image first ∙ ap (λ (us : List (List Chunk)). record { shape = shape_of old; units = us }) put
          ∙ sym (after_put_is lost old olds (news ++ c ∷ []) at-lost);
      wear = ap (λ (v : DriveView). map (λ (u : WornUnit). u.wear) v.units) first ∙ changed_wear d.units lost chunk c w.0 w.1 ∙ h.wear;
      numbers = first ∙ ap (λ us. with_units us old) (sym (ap (λ (v : DriveView). v.units) first));
      whole = whole;
    }

pub all_put : (lost : ℕ) (old d : DriveView) (olds news : List Chunk) → slice_get (media_of old.units) lost ≡ Some olds → length news ≡ length olds
    → ArePut lost old news d → drive_image d ≡ with_unit lost news (drive_image old)
all_put lost old d olds news there same h = h.image ∙ after_put_is lost old olds news there
    ∙ ap (λ cs. with_unit lost cs (drive_image old)) (begun_whole news olds same)

-- the chunks of a unit of a whole drive
pub olds_there : (d : DriveView) (unit : ℕ) → IsWhole d → unit < units (shape_of d)
    → (olds : List Chunk) × (slice_get (media_of d.units) unit ≡ Some olds) × (length olds ≡ (shape_of d).chunks)
olds_there d unit whole within =
    let w = got_within d.units unit (omega (arith, within, whole.count)) in
    let of = all_get (IsUnitOf (shape_of d)) d.units unit w.0 whole.fit w.1 in (
      w.0.unit.media,
      get_mapped (λ (u : ModelUnit). u.media) (map (λ (v : WornUnit). v.unit) d.units) unit w.0.unit
          (get_mapped (λ (v : WornUnit). v.unit) d.units unit w.0 w.1),
      of.fits.count ∙ ap (λ (s : Shape). s.chunks) of.shape,
    )
