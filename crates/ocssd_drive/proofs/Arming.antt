-- Units that are armed one after another, the last first.
use Rattle.std.proofs.Common.{◌≡◌, ℕ, zero, suc, Bool, not, ltb, ◌+◌, ◌<◌, ◌≤◌, List, [], ◌∷◌, ◌++◌, length, map, refl, sym, ap, ◌∙◌, subst, arith, append-nil, append_assoc, length-append, Option, Some, slice_get, slice_set, slice_index_or}
use Rattle.std.specs.List.{enumerate_from}
use Rattle.std.specs.Option.{option_map}
use Rattle.std.proofs.lemmas.Bool.{lt-ltb, le-ltb}
use Rattle.std.proofs.lemmas.Option.{slice_get_past}
use native.Mathlib.Decide.{dec_le}
use Rattle.atomic_table.specs.Seated.{TableId}
use Rattle.unit_port.specs.declared.armed.FaultPlan.{FaultPlan}
use Rattle.unit_port.specs.declared.armed.Fuse.{Fuse}
use Rattle.ocssd_drive.specs.StopWord.{SeatView}
use Rattle.ocssd_drive.specs.Units.{WornUnit, with_arms}
use Rattle.ocssd_drive.specs.declared.journal.Arming.{Arming}
use Rattle.ocssd_drive.specs.Journal.{word_of}
use Rattle.ocssd_drive.specs.Drive.{AreArmings, armed_unit, armed_units, seat_for}
use Rattle.ocssd_drive.proofs.Changing.{IsChanging, changed_if, as_it_was, one_changed, all_changed, later}
use Rattle.pblk_model.proofs.Parts.{same_lists}

abbrev pub arm_at : List FaultPlan → Option Fuse → Option TableId → ℕ → WornUnit → WornUnit
arm_at plans fuse word i u = armed_unit plans fuse word (i, u)

-- those from a place on are armed
abbrev pub from_on : ℕ → ℕ → Bool
from_on k j = not (ltb j k)

pub record IsArming (plans : List FaultPlan) (fuse : Option Fuse) (word : Option TableId) (old : List WornUnit) (k : ℕ) (units : List WornUnit) : Type 0 where
  pub changing : IsChanging (arm_at plans fuse word) old (from_on k) units

pub get_enumerated : (change : ℕ × WornUnit → WornUnit) (n : ℕ) (old : List WornUnit) (j m : ℕ) → n + j ≡ m → slice_get (map change (enumerate_from n old)) j ≡ option_map (λ u. change (m, u)) (slice_get old j)
get_enumerated change n [] j m e = refl
get_enumerated change n (u ∷ old) zero m e = ap (λ k. Some (change (k, u))) (let z : n ≡ m = omega arith in z)
get_enumerated change n (u ∷ old) (suc j) m e = get_enumerated change (n + 1) old j m (omega arith)

none_at : (plans : List FaultPlan) (fuse : Option Fuse) (word : Option TableId) (old : List WornUnit) (k : ℕ) → length old ≤ k → (j : ℕ) → Dec (length old ≤ j)
    → slice_get old j ≡ option_map (changed_if (arm_at plans fuse word j) (from_on k j)) (slice_get old j)
none_at plans fuse word old k past j (yes beyond) = rw (slice_get_past old j beyond) refl
none_at plans fuse word old k past j (no within) = rw (lt-ltb j k (omega (arith, within))) (as_it_was (arm_at plans fuse word j) (slice_get old j))

-- none is armed yet
pub none_armed : (plans : List FaultPlan) (fuse : Option Fuse) (word : Option TableId) (old : List WornUnit) (k : ℕ) → length old ≤ k → IsArming plans fuse word old k old
none_armed plans fuse word old k past = record {
  changing = record { count = refl; each = λ j. none_at plans fuse word old k past j (dec_le (length old) j) };
}

-- one before is armed
pub one_armed : (plans : List FaultPlan) (fuse : Option Fuse) (word : Option TableId) (old units : List WornUnit) (k : ℕ) (d new : WornUnit) → IsArming plans fuse word old (k + 1) units → k < length units
    → new ≡ arm_at plans fuse word k (slice_index_or units k d) → IsArming plans fuse word old k (slice_set units k new)
one_armed plans fuse word old units k d new h within is = record {
  changing = one_changed (arm_at plans fuse word) old units (from_on (k + 1)) (from_on k) k d new h.changing within (ap not (lt-ltb k (k + 1) (omega arith))) (ap not (le-ltb k k (omega arith))) (λ j apart. ap not (sym (later j k apart))) is;
}

pub all_armed : (plans : List FaultPlan) (fuse : Option Fuse) (word : Option TableId) (old units : List WornUnit) → IsArming plans fuse word old 0 units → units ≡ armed_units plans fuse word old
all_armed plans fuse word old units h = same_lists units (armed_units plans fuse word old)
    (λ j. all_changed (arm_at plans fuse word) old units (from_on 0) h.changing (λ k _. ap not (le-ltb k 0 (omega arith))) j ∙ sym (get_enumerated (armed_unit plans fuse word) 0 old j j (omega arith)))

-- what is left to install is a beginning of all, and the units behind it are armed, whatever the word is
pub record IsInstalling (plans : List FaultPlan) (fuse : Option Fuse) (all left : List Arming) (old units : List WornUnit) : Type 0 where
  pub behind : List Arming
  pub all_is : all ≡ left ++ behind
  pub armed : (word : Option TableId) → AreArmings plans fuse word all → IsArming plans fuse word old (length left) units

pub none_installed : (plans : List FaultPlan) (fuse : Option Fuse) (all : List Arming) (old : List WornUnit) → length all ≡ length old → IsInstalling plans fuse all all old old
none_installed plans fuse all old count = record {
  behind = [];
  all_is = sym (append-nil all);
  armed = λ word each. none_armed plans fuse word old (length all) (omega arith);
}

get_middle : (xs : List Arming) (a : Arming) (ys : List Arming) → slice_get (xs ++ a ∷ ys) (length xs) ≡ Some a
get_middle [] a ys = refl
get_middle (x ∷ xs) a ys = get_middle xs a ys

-- the last of those that are left, by its place
pub last_left : (plans : List FaultPlan) (fuse : Option Fuse) (all left fewer : List Arming) (old units : List WornUnit) (a : Arming) (at : ℕ) → IsInstalling plans fuse all left old units → left ≡ fewer ++ a ∷ [] → at ≡ length fewer
    → slice_get all at ≡ Some a
last_left plans fuse all left fewer old units a at h left_is at_is = rw (at_is, h.all_is, left_is, append_assoc fewer (a ∷ []) h.behind) (get_middle fewer a h.behind)

pub installed_within : (plans : List FaultPlan) (fuse : Option Fuse) (all left fewer : List Arming) (old units : List WornUnit) (a : Arming) (at : ℕ) → IsInstalling plans fuse all left old units → left ≡ fewer ++ a ∷ [] → at ≡ length fewer
    → length all ≡ length old → length units ≡ length old → at < length units
installed_within plans fuse all left fewer old units a at h left_is at_is count same =
    omega (arith, length-append left h.behind, length-append fewer (a ∷ []), ap length h.all_is, ap length left_is)

pub one_installed : (plans : List FaultPlan) (fuse : Option Fuse) (all left fewer : List Arming) (old units : List WornUnit) (a : Arming) (at : ℕ) (d new : WornUnit) → IsInstalling plans fuse all left old units → left ≡ fewer ++ a ∷ [] → at ≡ length fewer
    → at < length units → ((word : Option TableId) → word_of a.stop ≡ word → a.stop ≡ seat_for fuse word at → new ≡ arm_at plans fuse word at (slice_index_or units at d)) → IsInstalling plans fuse all fewer old (slice_set units at new)
one_installed plans fuse all left fewer old units a at d new h left_is at_is within is = record {
  behind = a ∷ h.behind;
  all_is = h.all_is ∙ ap (λ (xs : List Arming). xs ++ h.behind) left_is ∙ append_assoc fewer (a ∷ []) h.behind;
  armed = λ word each.
      let more : length left ≡ at + 1 = omega (arith, length-append fewer (a ∷ []), ap length left_is) in
      subst (λ (k : ℕ). IsArming plans fuse word old k (slice_set units at new)) at_is
      (one_armed plans fuse word old units at d new (subst (λ (k : ℕ). IsArming plans fuse word old k units) more (h.armed word each)) within
      (is word (each at a (last_left plans fuse all left fewer old units a at h left_is at_is)).word_is (each at a (last_left plans fuse all left fewer old units a at h left_is at_is)).seat));
}

pub all_installed : (plans : List FaultPlan) (fuse : Option Fuse) (all left : List Arming) (old units : List WornUnit) → IsInstalling plans fuse all left old units → length left ≡ 0
    → (word : Option TableId) → AreArmings plans fuse word all → units ≡ armed_units plans fuse word old
all_installed plans fuse all left old units h none word each = all_armed plans fuse word old units (subst (λ (k : ℕ). IsArming plans fuse word old k units) none (h.armed word each))

-- the unit with this seat is armed as the arming says
pub armed_as : (plans : List FaultPlan) (fuse : Option Fuse) (word : Option TableId) (at : ℕ) (seat : Option SeatView) (x new : WornUnit) → word_of seat ≡ word → seat ≡ seat_for fuse word at
    → new ≡ with_arms (record { unit = at; plans = plans; fuse = fuse; word = word_of seat; since = length x.unit.log }) seat x → new ≡ arm_at plans fuse word at x
armed_as plans fuse word at seat x new word_is seat_is is =
    subst (λ (w : Option TableId). new ≡ with_arms (record { unit = at; plans = plans; fuse = fuse; word = w; since = length x.unit.log }) (seat_for fuse word at) x) word_is
    (subst (λ (s : Option SeatView). new ≡ with_arms (record { unit = at; plans = plans; fuse = fuse; word = word_of seat; since = length x.unit.log }) s x) seat_is is)
