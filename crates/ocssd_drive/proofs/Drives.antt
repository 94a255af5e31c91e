-- Drives whose units are armed or disarmed.
use Rattle.std.proofs.Common.{◌≡◌, ℕ, zero, suc, Bool, true, false, ltb, replicate, ◌+◌, Vec, Global, List, [], ◌∷◌, length, map, refl, sym, ap, ◌∙◌, subst, arith, Option, Some, None, ◌<◌, vec_len, get_or, slice_get, slice_set}
use Rattle.std.specs.List.{AllByRecursion, enumerate_from}
use Rattle.std.specs.Vec.{with_items}
use Rattle.std.specs.Option.{option_map}
use Rattle.std.proofs.lemmas.List.{length-replicate, with_items_is}
use Rattle.std.proofs.lemmas.Option.{none-some}
use Rattle.atomic_table.specs.Seated.{TableId}
use Rattle.pblk_model.specs.declared.shape.Shape.{Shape}
use Rattle.pblk_model.specs.Chunk.{IsChunk, free_chunk}
use Rattle.unit_port.specs.Armed.{Armed}
use Rattle.ocssd_drive.specs.StopWord.{SeatView}
use Rattle.unit_port.specs.declared.armed.FaultPlan.{FaultPlan}
use Rattle.unit_port.specs.declared.armed.Fuse.{Fuse}
use Rattle.ocssd_drive.specs.Units.{WornUnit, IsUnitOf, disarmed, new_unit, with_arms}
use Rattle.ocssd_drive.specs.Drive.{AreArmedTogether, DriveView, HasWord, IsArmedWith, IsWhole, armed_unit, armed_units, fitting_fuse, shape_of, with_units}
use Rattle.ocssd_drive.proofs.Arming.{get_enumerated}
use Rattle.ocssd_drive.proofs.Lists.{some_same}
use Rattle.ocssd_drive.proofs.UnitChunks.{zeros_all}
use Rattle.ocssd_drive.proofs.Restoring.{IsUnitAt, unit_at, still_whole}
use Rattle.ocssd_drive.specs.DriveFields.{drive_view}
use Rattle.ocssd_drive.specs.declared.drive.Drive.TheInside.{Inside}
use Rattle.pblk_model.specs.Shape.{units as units_of}
use Rattle.pblk_model.proofs.ChunkLemmas.{free_is_chunk}

-- units of a drive of this shape
abbrev pub HaveShape : Shape → List WornUnit → Type 0
HaveShape s units = AllByRecursion (IsUnitOf s) units

-- with other arms a unit is still one of its drive
still_of : (s : Shape) (a : Armed) (seat : Option SeatView) (u : WornUnit) → IsUnitOf s u → IsUnitOf s (with_arms a seat u)
still_of s a seat u h = record { shape = h.shape; fits = record { count = h.fits.count; chunks = h.fits.chunks }; worn = h.worn; worn_fits = h.worn_fits }

pub shapes_disarmed : (s : Shape) (units : List WornUnit) → HaveShape s units → HaveShape s (map disarmed units)
shapes_disarmed s [] h = tt
shapes_disarmed s (u ∷ units) h = (still_of s _ _ u h.0, shapes_disarmed s units h.1)

shapes_enumerated : (plans : List FaultPlan) (fuse : Option Fuse) (word : Option TableId) (s : Shape) (n : ℕ) (units : List WornUnit) → HaveShape s units → HaveShape s (map (armed_unit plans fuse word) (enumerate_from n units))
shapes_enumerated plans fuse word s n [] h = tt
shapes_enumerated plans fuse word s n (u ∷ units) h = (still_of s _ _ u h.0, shapes_enumerated plans fuse word s (n + 1) units h.1)

pub shapes_armed : (plans : List FaultPlan) (fuse : Option Fuse) (word : Option TableId) (s : Shape) (units : List WornUnit) → HaveShape s units → HaveShape s (armed_units plans fuse word units)
shapes_armed plans fuse word s units h = shapes_enumerated plans fuse word s 0 units h

length-enumerated : (plans : List FaultPlan) (fuse : Option Fuse) (word : Option TableId) (n : ℕ) (units : List WornUnit) → length (map (armed_unit plans fuse word) (enumerate_from n units)) ≡ length units
length-enumerated plans fuse word n [] = refl
length-enumerated plans fuse word n (u ∷ units) = ap suc (length-enumerated plans fuse word (n + 1) units)

pub length-armed : (plans : List FaultPlan) (fuse : Option Fuse) (word : Option TableId) (units : List WornUnit) → length (armed_units plans fuse word units) ≡ length units
length-armed plans fuse word units = length-enumerated plans fuse word 0 units

pub length-disarmed : (units : List WornUnit) → length (map disarmed units) ≡ length units
length-disarmed [] = refl
length-disarmed (u ∷ units) = ap suc (length-disarmed units)

-- units written over as many
pub written_over : (v : Vec WornUnit Global) (new : List WornUnit) → length new ≡ length v.items → (with_items v new).items ≡ new
written_over v new same = with_items_is v new (same ∙ sym v.ok.0)

-- a drive is still whole with as many other units of its shape
pub whole_with : (d : DriveView) (new : List WornUnit) → IsWhole d → length new ≡ length d.units → HaveShape (shape_of d) new → IsWhole (with_units new d)
whole_with d new h same shapes = record {
  geometry_is = h.geometry_is;
  accepted = h.accepted;
  count = same ∙ h.count;
  fit = shapes;
}

armed_with : (plans : List FaultPlan) (fuse : Option Fuse) (word : Option TableId) (i : ℕ) (o : Option WornUnit) (u : WornUnit) → option_map (λ (x : WornUnit). armed_unit plans fuse word (i, x)) o ≡ Some u → IsArmedWith plans fuse word i u.unit.armed
armed_with plans fuse word i None u e = absurd (none-some u e)
armed_with plans fuse word i (Some x) u e = subst (λ (v : WornUnit). IsArmedWith plans fuse word i v.unit.armed) (some_same (armed_unit plans fuse word (i, x)) u e) (record { number = refl; with_plans = refl; with_fuse = refl; with_word = refl })

pub armed_together : (plans : List FaultPlan) (fuse : Option Fuse) (word : Option TableId) (units : List WornUnit) → HasWord fuse word → fuse ≡ fitting_fuse (length units) fuse → AreArmedTogether (armed_units plans fuse word units)
armed_together plans fuse word units has_word fits = record {
  has_word = has_word;
  plans = plans;
  fuse = fuse;
  word = word;
  fits = fits ∙ ap (λ n. fitting_fuse n fuse) (sym (length-armed plans fuse word units));
  each = λ i u there. armed_with plans fuse word i (slice_get units i) u (sym (get_enumerated (armed_unit plans fuse word) 0 units i i (omega arith)) ∙ there);
}

twice : (n : ℕ) (f : Fuse) (b : Bool) → ltb f.unit n ≡ b → fitting_fuse n (Some f) ≡ fitting_fuse n (fitting_fuse n (Some f))
twice n f true e = rw (e, e) refl
twice n f false e = rw e refl

-- a fuse that was made to fit fits
pub fits_again : (n : ℕ) (given fuse : Option Fuse) → fuse ≡ fitting_fuse n given → fuse ≡ fitting_fuse n fuse
fits_again n None fuse is = rw is refl
fits_again n (Some f) fuse is = is ∙ twice n f (ltb f.unit n) refl ∙ ap (fitting_fuse n) (sym is)

free_all : (s : Shape) (n : ℕ) → AllByRecursion (IsChunk s) (replicate n free_chunk)
free_all s zero = tt
free_all s (suc n) = (free_is_chunk s, free_all s n)

new_of : (s : Shape) → IsUnitOf s (new_unit s)
new_of s = record {
  shape = refl;
  fits = record { count = length-replicate s.chunks free_chunk; chunks = free_all s s.chunks };
  worn = length-replicate s.chunks 0;
  worn_fits = zeros_all s.chunks;
}

-- new units are of the shape that they are made for
pub shapes_new : (s : Shape) (n : ℕ) → HaveShape s (replicate n (new_unit s))
shapes_new s zero = tt
shapes_new s (suc n) = (new_of s, shapes_new s n)

-- the drive, as contracts see it, has a unit of this number
pub unit_within : (d : Inside) (v : DriveView) (unit : ℕ) → IsWhole (drive_view d) → drive_view d ≡ v → unit < units_of (shape_of v) → unit < vec_len d.units
unit_within d v unit whole is within =
    subst (λ (n : ℕ). unit < n) (sym whole.count ∙ sym d.units.ok.0) (subst (λ (x : DriveView). unit < units_of (shape_of x)) (sym is) within)

-- the unit that was found is the drive's
pub unit_found : (d : Inside) (v : DriveView) (unit : ℕ) (u : WornUnit) → IsWhole (drive_view d) → drive_view d ≡ v → unit < units_of (shape_of v)
    → u ≡ get_or d.units.items unit u → IsUnitAt (drive_view d) unit u
unit_found d v unit u whole is within read = unit_at (drive_view d) unit u whole (subst (λ (x : DriveView). unit < units_of (shape_of x)) (sym is) within) read

pub unit_seen : (d : Inside) (v : DriveView) (unit : ℕ) (u : WornUnit) → IsWhole (drive_view d) → drive_view d ≡ v → unit < units_of (shape_of v)
    → u ≡ get_or d.units.items unit u → IsUnitAt v unit u
unit_seen d v unit u whole is within read = subst (λ (x : DriveView). IsUnitAt x unit u) is (unit_found d v unit u whole is within read)

-- a unit that was changed is still one of the drive
pub whole_again : (d : DriveView) (unit : ℕ) (u new : WornUnit) → IsWhole d → IsUnitAt d unit u → IsUnitOf new.unit.shape new → new.unit.shape ≡ u.unit.shape → IsWhole (with_units (slice_set d.units unit new) d)
whole_again d unit u new whole at fits same = still_whole d unit new whole (subst (λ (s : Shape). IsUnitOf s new) (same ∙ at.fits.shape) fits)
