-- Units that come back from a target, and the drive that they make.
use Rattle.std.proofs.Common.{◌≡◌, ℕ, suc, ◌<◌, List, [], ◌∷◌, length, Some, slice_get, refl, sym, subst, ap, ◌∙◌}
use Rattle.std.specs.List.{AllByRecursion}
use Rattle.std.proofs.lemmas.List.{length-map}
use Rattle.std.proofs.lemmas.Option.{same_Some}
use Rattle.pblk_model.specs.declared.shape.Shape.{Shape}
use Rattle.pblk_model.specs.Image.{Image}
use Rattle.unit_port.specs.Unit.{ModelUnit, IsFitUnit}
use Rattle.ocssd_drive.specs.Drive.{AreArmedTogether, DriveView, IsArmedWith, IsWhole, fitting_fuse, shape_of, with_units}
use Rattle.ocssd_drive.specs.Units.{IsUnitOf, WornUnit}
use Rattle.pblk_world.specs.World.{Logs}
use Rattle.pblk_engine.specs.Arms.{IsArm}
use Rattle.pblk_cli.specs.Serving.{AreBack, AreBackAs, IsLeftBy, units_of, wear_of}
use Rattle.pblk_model.proofs.Maps.{get_mapped}
use Rattle.pblk_model.proofs.Parts.{got_within}
use Rattle.std.proofs.lemmas.Option.{slice_get_within}

pub back_of : (s : Shape) (i : Image) (logs : Logs) (old : List ModelUnit) (was : List (List ℕ)) (new : List ModelUnit) (now : List (List ℕ))
    (handed : List ModelUnit) → i.shape ≡ s → handed ≡ old → length new ≡ length old → now ≡ was
    → ((number : ℕ) (u : ModelUnit) → slice_get new number ≡ Some u
    → (before : ModelUnit) × (slice_get handed number ≡ Some before) × IsArm i logs number before u) → AreBackAs s old was new now
back_of s i logs old was new now handed shape same count wear each = record {
  count = count;
  wear = wear;
  shapes = λ number u there. ((each number u there).2.shape ∙ shape, (each number u there).2.fit);
  arms = λ number u v before there.
      let at = each number v there in
      let its : at.0 ≡ u = same_Some at.0 u (sym at.1 ∙ ap (λ us. slice_get us number) same ∙ before) in
      at.2.arms ∙ ap (λ (x : ModelUnit). x.armed) its;
}

-- as many units in memory
pub as_many : (s : Shape) (old new : List WornUnit) → AreBack s old new → length new ≡ length old
as_many s old new back = sym (length-map new (λ (u : WornUnit). u.unit)) ∙ back.count ∙ length-map old (λ (u : WornUnit). u.unit)

pub left_by : (i j : Image) (logs : Logs) (handed us : List ModelUnit) (number : ℕ) (u : ModelUnit) → i ≡ j → handed ≡ us
    → (was : ModelUnit) × (slice_get handed number ≡ Some was) × IsArm i logs number was u → IsLeftBy j us logs number u
left_by i j logs handed us number u image same at =
    subst (λ (x : List ModelUnit). IsLeftBy j x logs number u) same
    (subst (λ (x : Image). IsLeftBy x handed logs number u) image
    (record { media = at.2.media; before = at.0; was = at.1; log = at.2.log }))

-- The units fit.

all_fit : (s : Shape) (olds news : List WornUnit) → wear_of news ≡ wear_of olds → AllByRecursion (IsUnitOf s) olds
    → ((k : ℕ) (u : ModelUnit) → slice_get (units_of news) k ≡ Some u → (u.shape ≡ s) × IsFitUnit u) → AllByRecursion (IsUnitOf s) news
all_fit s olds [] wear fit each = tt
all_fit s [] (n ∷ news) wear fit each = absurd (cc)
all_fit s (o ∷ olds) (n ∷ news) wear fit each =
    let first = each 0 n.unit refl in
    let same : n.wear ≡ o.wear = cc in
    let rest : wear_of news ≡ wear_of olds = cc in (
      record {
        shape = first.0;
        fits = first.1;
        worn = ap (λ (w : List ℕ). length w) same ∙ fit.0.worn;
        worn_fits = subst (AllByRecursion (λ w. w < 256)) (sym same) fit.0.worn_fits;
      },
      all_fit s olds news rest fit.1 (λ k u there. each (suc k) u there),
    )

pub whole_back : (found : DriveView) (units : List WornUnit) → IsWhole found → AreBack (shape_of found) found.units units → IsWhole (with_units units found)
whole_back found units whole back = record {
  geometry_is = whole.geometry_is;
  accepted = whole.accepted;
  count = as_many (shape_of found) found.units units back ∙ whole.count;
  fit = all_fit (shape_of found) found.units units back.wear whole.fit back.shapes;
}

-- They are armed together still.

pub together_back : (s : Shape) (old new : List WornUnit) → AreArmedTogether old → AreBack s old new → AreArmedTogether new
together_back s old new t back = record {
  plans = t.plans;
  fuse = t.fuse;
  word = t.word;
  has_word = t.has_word;
  fits = t.fits ∙ ap (λ n. fitting_fuse n t.fuse) (sym (as_many s old new back));
  each = λ k u there.
      let was = got_within old k (subst (λ n. k < n) (as_many s old new back) (slice_get_within new k u there)) in
      let arms : u.unit.armed ≡ was.0.unit.armed = back.arms k was.0.unit u.unit (get_mapped (λ (x : WornUnit). x.unit) old k was.0 was.1)
      (get_mapped (λ (x : WornUnit). x.unit) new k u there) in
      subst (IsArmedWith t.plans t.fuse t.word k) (sym arms) (t.each k was.0 was.1);
}
