-- What units are to be armed with, made one after another.
use Rattle.std.proofs.Common.{◌≡◌, ◌≢◌, ℕ, zero, suc, ◌+◌, ◌<◌, List, [], ◌∷◌, ◌++◌, length, refl, sym, ap, ◌∙◌, subst, arith, length-append, ◌⊎◌, inl, inr, ⊎_elim, Option, Some, None, slice_get, slice_set, slice_index_or}
use Rattle.std.proofs.lemmas.Bool.{eq-eqb, le-ltb, ne_eqb}
use Rattle.std.proofs.lemmas.Option.{none-some, slice_get-get_or, slice_get_within}
use native.Mathlib.Decide.{ℕ_discrete, dec_lt}
use Rattle.atomic_table.specs.Seated.{TableId}
use Rattle.unit_port.specs.declared.armed.FaultPlan.{FaultPlan}
use Rattle.unit_port.specs.declared.armed.Fuse.{Fuse}
use Rattle.ocssd_drive.specs.StopWord.{SeatView, keeper}
use Rattle.ocssd_drive.specs.Journal.{FitsArming, word_of}
use Rattle.ocssd_drive.specs.Drive.{AreArmings, HasTallies, HasWord, IsArmingOf, IsKeeper, fitting_fuse, other_seat_of, seat_for}
use Rattle.ocssd_drive.specs.declared.journal.Arming.{Arming}
use Rattle.ocssd_drive.proofs.Lists.{some_same}
use Rattle.pblk_model.proofs.Parts.{get_set_other, get_set_same}

-- so many were made, with seats of units without the fuse
pub record AreOthers (plans : List FaultPlan) (seat : Option SeatView) (n : ℕ) (armings : List Arming) : Type 0 where
  pub count : length armings ≡ n
  pub each : (i : ℕ) (a : Arming) → slice_get armings i ≡ Some a → HasTallies plans i a × (a.stop ≡ other_seat_of seat)

pub none_made : (plans : List FaultPlan) (seat : Option SeatView) (armings : List Arming) → armings ≡ [] → AreOthers plans seat 0 armings
none_made plans seat armings none = rw none record { count = refl; each = λ i a there. absurd (none-some a there) }

get_snoc : (xs : List Arming) (y : Arming) (i : ℕ) (a : Arming) → slice_get (xs ++ y ∷ []) i ≡ Some a → (slice_get xs i ≡ Some a) ⊎ ((i ≡ length xs) × (y ≡ a))
get_snoc [] y zero a there = inr (refl, some_same y a there)
get_snoc [] y (suc i) a there = absurd (none-some a there)
get_snoc (x ∷ xs) y zero a there = inl there
get_snoc (x ∷ xs) y (suc i) a there = ⊎_elim inl (λ h. inr (ap suc h.0, h.1)) (get_snoc xs y i a there)

made_at : (plans : List FaultPlan) (seat : Option SeatView) (n : ℕ) (armings : List Arming) (y : Arming) → AreOthers plans seat n armings → HasTallies plans n y × (y.stop ≡ other_seat_of seat)
    → (i : ℕ) (a : Arming) → (slice_get armings i ≡ Some a) ⊎ ((i ≡ length armings) × (y ≡ a)) → HasTallies plans i a × (a.stop ≡ other_seat_of seat)
made_at plans seat n armings y h new i a (inl there) = h.each i a there
made_at plans seat n armings y h new i a (inr (last, same)) =
    subst (λ (b : Arming). HasTallies plans i b × (b.stop ≡ other_seat_of seat)) same (subst (λ (k : ℕ). HasTallies plans k y × (y.stop ≡ other_seat_of seat)) (sym (last ∙ h.count)) new)

pub one_made : (plans : List FaultPlan) (seat : Option SeatView) (n : ℕ) (armings more : List Arming) (y : Arming) → AreOthers plans seat n armings → HasTallies plans n y → y.stop ≡ other_seat_of seat → more ≡ armings ++ y ∷ []
    → AreOthers plans seat (n + 1) more
one_made plans seat n armings more y h tallies stop is = rw is record {
  count = length-append armings (y ∷ []) ∙ ap (λ k. k + 1) h.count;
  each = λ i a there. made_at plans seat n armings y h (tallies, stop) i a (get_snoc armings y i a there);
}

-- a seat of a unit without the fuse fits it
other_fits : (i : ℕ) (f : Fuse) (s : SeatView) → i ≢ f.unit → FitsArming i (Some f) (other_seat_of (Some s))
other_fits i f s apart = (sym (ne_eqb f.unit i (λ e. apart (sym e))), refl, refl)

-- the seat that made the word fits the fuse's unit
keeper_fits : (f : Fuse) (s : SeatView) → s.view ≡ keeper → FitsArming f.unit (Some f) (Some s)
keeper_fits f s is = rw is (sym (eq-eqb f.unit f.unit refl), refl, refl)

-- and it is the one that the arming gives
other_seat_is : (i : ℕ) (f : Fuse) (s : SeatView) → i ≢ f.unit → other_seat_of (Some s) ≡ seat_for (Some f) (Some s.word) i
other_seat_is i f s apart = rw (ne_eqb f.unit i (λ e. apart (sym e))) refl

keeper_seat : (f : Fuse) (s : SeatView) → s.view ≡ keeper → Some s ≡ seat_for (Some f) (Some s.word) f.unit
keeper_seat f s is = rw (eq-eqb f.unit f.unit refl, ← is) refl

-- what each is armed with, once the fuse's unit has the seat that made the word
abbrev pub with_seat : Option SeatView → Arming → Arming
with_seat seat a = record { programs = a.programs; fetches = a.fetches; resets = a.resets; stop = seat }

placed_at : (plans : List FaultPlan) (f : Fuse) (s : SeatView) (n : ℕ) (armings : List Arming) (x : Arming) → AreOthers plans (Some s) n armings → s.view ≡ keeper → slice_get armings f.unit ≡ Some x
    → (i : ℕ) → Dec (i ≡ f.unit) → (a : Arming) → slice_get (slice_set armings f.unit (with_seat (Some s) x)) i ≡ Some a → IsArmingOf plans (Some f) (Some s.word) i a
placed_at plans f s n armings x h is here i (yes same) a there =
    let set_is : slice_get (slice_set armings f.unit (with_seat (Some s) x)) i ≡ Some (with_seat (Some s) x) = rw same (get_set_same armings f.unit (with_seat (Some s) x) (slice_get_within armings f.unit x here)) in
    let a_is : with_seat (Some s) x ≡ a = some_same (with_seat (Some s) x) a (sym set_is ∙ there) in
    let tallies : HasTallies plans f.unit x = (h.each f.unit x here).0 in
    subst (λ (b : Arming). IsArmingOf plans (Some f) (Some s.word) i b) a_is (rw same record {
      tallies = record { programs = tallies.programs; fetches = tallies.fetches; resets = tallies.resets };
      stop = keeper_fits f s is;
      word_is = refl;
      seat = keeper_seat f s is;
    })
placed_at plans f s n armings x h is here i (no apart) a there =
    let old : slice_get armings i ≡ Some a = sym (get_set_other armings f.unit i (with_seat (Some s) x) apart) ∙ there in
    let made = h.each i a old in
    record {
      tallies = made.0;
      stop = subst (λ (seat : Option SeatView). FitsArming i (Some f) seat) (sym made.1) (other_fits i f s apart);
      word_is = ap word_of made.1;
      seat = made.1 ∙ other_seat_is i f s apart;
    }

pub keeper_placed : (plans : List FaultPlan) (fuse : Option Fuse) (f : Fuse) (seat : Option SeatView) (n : ℕ) (armings : List Arming) (x : Arming) → AreOthers plans seat n armings → IsKeeper fuse seat → fuse ≡ Some f → f.unit < n → x ≡ slice_index_or armings f.unit x
    → (word : Option TableId) × HasWord fuse word × AreArmings plans fuse word (slice_set armings f.unit (with_seat seat x))
keeper_placed plans None f seat n armings x h is some within read = absurd (none-some f some)
keeper_placed plans (Some g) f None n armings x h is some within read = absurd is
keeper_placed plans (Some g) f (Some s) n armings x h is some within read =
    let here : slice_get armings f.unit ≡ Some x = slice_get-get_or armings f.unit x (omega (arith, h.count)) ∙ ap Some (sym read) in (
      Some s.word,
      refl,
      subst (λ (k : Fuse). AreArmings plans (Some k) (Some s.word) (slice_set armings f.unit (with_seat (Some s) x))) (sym (some_same g f some))
          (λ i a. placed_at plans f s n armings x h is here i (ℕ_discrete i f.unit) a),
    )

pub without_keeper : (plans : List FaultPlan) (fuse : Option Fuse) (seat : Option SeatView) (n : ℕ) (armings : List Arming) → AreOthers plans seat n armings → IsKeeper fuse seat → fuse ≡ None
    → (word : Option TableId) × HasWord fuse word × AreArmings plans fuse word armings
without_keeper plans (Some f) seat n armings h is none = absurd (none-some f (sym none))
without_keeper plans None (Some s) n armings h is none = absurd is
without_keeper plans None None n armings h is none = (
  None,
  refl,
  λ i a there.
      let made = h.each i a there in
      record { tallies = made.0; stop = subst (λ (seat : Option SeatView). FitsArming i None seat) (sym made.1) tt; word_is = ap word_of made.1; seat = made.1 },
)

below_if : (n : ℕ) (fuse : Option Fuse) (f : Fuse) → fuse ≡ fitting_fuse n fuse → fuse ≡ Some f → Dec (f.unit < n) → f.unit < n
below_if n fuse f fits some (yes below) = below
below_if n fuse f fits some (no past) = absurd (let e : fitting_fuse n fuse ≡ None = rw (some, le-ltb f.unit n (omega (arith, past))) refl in none-some f (sym (fits ∙ e) ∙ some))

-- a fuse that fits falls at a unit of the drive
pub fits_below : (n : ℕ) (fuse : Option Fuse) (f : Fuse) → fuse ≡ fitting_fuse n fuse → fuse ≡ Some f → f.unit < n
fits_below n fuse f fits some = below_if n fuse f fits some (dec_lt f.unit n)
