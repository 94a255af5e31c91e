-- Units that are changed one after another.
use Rattle.std.proofs.Common.{◌≡◌, ◌≢◌, ℕ, Bool, true, false, ltb, ◌+◌, ◌<◌, ◌≤◌, List, length, refl, sym, ap, ◌∙◌, arith, Option, Some, None, slice_get, slice_set, slice_index_or}
use Rattle.std.specs.Option.{option_map}
use Rattle.std.proofs.lemmas.List.{length-set}
use Rattle.std.proofs.lemmas.Option.{slice_get-get_or, slice_get_past}
use Rattle.std.proofs.lemmas.Bool.{lt-ltb, le-ltb}
use native.Mathlib.Decide.{ℕ_discrete, dec_le}
use Rattle.ocssd_drive.specs.Units.{WornUnit}
use Rattle.pblk_model.proofs.Parts.{get_set_other, get_set_same}

-- the unit, changed or not
abbrev pub changed_if : (WornUnit → WornUnit) → Bool → WornUnit → WornUnit
changed_if change true u = change u
changed_if change false u = u

-- those that are done are changed, by their places, and the others are as before
pub record IsChanging (change : ℕ → WornUnit → WornUnit) (old : List WornUnit) (done : ℕ → Bool) (units : List WornUnit) : Type 0 where
  pub count : length units ≡ length old
  pub each : (j : ℕ) → slice_get units j ≡ option_map (changed_if (change j) (done j)) (slice_get old j)

pub as_it_was : (change : WornUnit → WornUnit) (o : Option WornUnit) → o ≡ option_map (changed_if change false) o
as_it_was change None = refl
as_it_was change (Some u) = refl

-- none is done yet
pub none_changed : (change : ℕ → WornUnit → WornUnit) (old : List WornUnit) (done : ℕ → Bool) → ((j : ℕ) → done j ≡ false) → IsChanging change old done old
none_changed change old done none = record {
  count = refl;
  each = λ j. rw (none j) (as_it_was (change j) (slice_get old j));
}

-- the unit at a place that isn't done is the old one
pub still_old : (change : ℕ → WornUnit → WornUnit) (old units : List WornUnit) (done : ℕ → Bool) (i : ℕ) (d : WornUnit) → IsChanging change old done units → i < length units → done i ≡ false
    → slice_get old i ≡ Some (slice_index_or units i d)
still_old change old units done i d h within not_yet =
    as_it_was (change i) (slice_get old i) ∙ ap (λ (b : Bool). option_map (changed_if (change i) b) (slice_get old i)) (sym not_yet) ∙ sym (h.each i) ∙ slice_get-get_or units i d within

place : (change : ℕ → WornUnit → WornUnit) (old units : List WornUnit) (done more : ℕ → Bool) (i : ℕ) (d new : WornUnit) → IsChanging change old done units → i < length units → done i ≡ false → more i ≡ true
    → ((j : ℕ) → j ≢ i → more j ≡ done j) → new ≡ change i (slice_index_or units i d) → (j : ℕ) → Dec (j ≡ i) → slice_get (slice_set units i new) j ≡ option_map (changed_if (change j) (more j)) (slice_get old j)
place change old units done more i d new h within not_yet now others is j (yes same) =
    rw (same, get_set_same units i new within, still_old change old units done i d h within not_yet, now) (ap Some is)
place change old units done more i d new h within not_yet now others is j (no apart) =
    get_set_other units i j new apart ∙ h.each j ∙ ap (λ (b : Bool). option_map (changed_if (change j) b) (slice_get old j)) (sym (others j apart))

-- one more is done
pub one_changed : (change : ℕ → WornUnit → WornUnit) (old units : List WornUnit) (done more : ℕ → Bool) (i : ℕ) (d new : WornUnit) → IsChanging change old done units → i < length units → done i ≡ false → more i ≡ true
    → ((j : ℕ) → j ≢ i → more j ≡ done j) → new ≡ change i (slice_index_or units i d) → IsChanging change old more (slice_set units i new)
one_changed change old units done more i d new h within not_yet now others is = record {
  count = length-set units i new ∙ h.count;
  each = λ j. place change old units done more i d new h within not_yet now others is j (ℕ_discrete j i);
}

pub same_changed : (change : ℕ → WornUnit → WornUnit) (old units : List WornUnit) (done more : ℕ → Bool) → ((j : ℕ) → more j ≡ done j) → IsChanging change old done units → IsChanging change old more units
same_changed change old units done more same h = record {
  count = h.count;
  each = λ j. h.each j ∙ ap (λ (b : Bool). option_map (changed_if (change j) b) (slice_get old j)) (sym (same j));
}

all_at : (change : ℕ → WornUnit → WornUnit) (old : List WornUnit) (done : ℕ → Bool) (j : ℕ) → ((k : ℕ) → k < length old → done k ≡ true) → Dec (length old ≤ j)
    → option_map (changed_if (change j) (done j)) (slice_get old j) ≡ option_map (change j) (slice_get old j)
all_at change old done j all (yes past) = rw (slice_get_past old j past) refl
all_at change old done j all (no within) = rw (all j (omega (arith, within))) refl

-- all are done
pub all_changed : (change : ℕ → WornUnit → WornUnit) (old units : List WornUnit) (done : ℕ → Bool) → IsChanging change old done units → ((k : ℕ) → k < length old → done k ≡ true)
    → (j : ℕ) → slice_get units j ≡ option_map (change j) (slice_get old j)
all_changed change old units done h all j = h.each j ∙ all_at change old done j all (dec_le (length old) j)

later_if : (j i : ℕ) → j ≢ i → Dec (i ≤ j) → ltb j (i + 1) ≡ ltb j i
later_if j i apart (yes past) = rw (le-ltb j (i + 1) (omega (arith, λ (e : j ≡ i). apart e)), le-ltb j i past) refl
later_if j i apart (no before) = rw (lt-ltb j (i + 1) (omega (arith, before)), lt-ltb j i (omega (arith, before))) refl

-- a place but i is below i + 1 where it is below i
pub later : (j i : ℕ) → j ≢ i → ltb j (i + 1) ≡ ltb j i
later j i apart = later_if j i apart (dec_le i j)

-- the unit that was read at a place
pub read_at : (units : List WornUnit) (i : ℕ) (x : WornUnit) → i < length units → x ≡ slice_index_or units i x → slice_get units i ≡ Some x
read_at units i x within is = slice_get-get_or units i x within ∙ ap Some (sym is)
