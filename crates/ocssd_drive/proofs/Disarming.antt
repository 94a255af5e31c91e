-- Units that are disarmed one after another.
use Rattle.std.proofs.Common.{◌≡◌, ◌≢◌, ℕ, Bool, true, false, ◌<◌, List, length, map, sym, ap, ◌∙◌, subst, Some, slice_get, slice_set, slice_index_or}
use Rattle.std.proofs.lemmas.Option.{slice_get-map, slice_get_within}
use native.Mathlib.Decide.{ℕ_discrete}
use Rattle.ocssd_drive.specs.Outcomes.{GoesByArms}
use Rattle.ocssd_drive.specs.Units.{WornUnit, disarmed}
use Rattle.ocssd_drive.proofs.Lists.{some_same}
use Rattle.ocssd_drive.proofs.Changing.{IsChanging, none_changed, one_changed, same_changed, all_changed, still_old}
use Rattle.pblk_model.proofs.Parts.{same_lists}

abbrev pub disarm_at : ℕ → WornUnit → WornUnit
disarm_at i u = disarmed u

-- those that are done are disarmed, and what they did is by their arms
pub record IsDisarming (old : List WornUnit) (done : ℕ → Bool) (units : List WornUnit) : Type 0 where
  pub changing : IsChanging disarm_at old done units
  pub by_arms : (j : ℕ) (u : WornUnit) → done j ≡ true → slice_get old j ≡ Some u → GoesByArms u

not_both : (b : Bool) → b ≡ false → b ≡ true → ⊥
not_both b f t = cc

-- none is done yet
pub none_done : (old : List WornUnit) (done : ℕ → Bool) → ((j : ℕ) → done j ≡ false) → IsDisarming old done old
none_done old done none = record {
  changing = none_changed disarm_at old done none;
  by_arms = λ j u is there. absurd (not_both (done j) (none j) is);
}

by_arms_place : (old units : List WornUnit) (done more : ℕ → Bool) (i : ℕ) (d : WornUnit) → IsDisarming old done units → i < length units → done i ≡ false
    → ((j : ℕ) → j ≢ i → more j ≡ done j) → GoesByArms (slice_index_or units i d) → (j : ℕ) → Dec (j ≡ i) → (u : WornUnit) → more j ≡ true
    → slice_get old j ≡ Some u → GoesByArms u
by_arms_place old units done more i d h within not_yet others by_arms j (yes same) u is there =
    subst GoesByArms (some_same (slice_index_or units i d) u
    (sym (still_old disarm_at old units done i d h.changing within not_yet) ∙ ap (slice_get old) (sym same) ∙ there)) by_arms
by_arms_place old units done more i d h within not_yet others by_arms j (no apart) u is there = h.by_arms j u (sym (others j apart) ∙ is) there

-- one more is done
pub one_more : (old units : List WornUnit) (done more : ℕ → Bool) (i : ℕ) (d new : WornUnit) → IsDisarming old done units → i < length units → done i ≡ false
    → more i ≡ true
    → ((j : ℕ) → j ≢ i → more j ≡ done j) → new ≡ disarmed (slice_index_or units i d) → GoesByArms (slice_index_or units i d)
    → IsDisarming old more (slice_set units i new)
one_more old units done more i d new h within not_yet now others is by_arms = record {
  changing = one_changed disarm_at old units done more i d new h.changing within not_yet now others is;
  by_arms = λ j u. by_arms_place old units done more i d h within not_yet others by_arms j (ℕ_discrete j i) u;
}

pub same_done : (old units : List WornUnit) (done more : ℕ → Bool) → ((j : ℕ) → more j ≡ done j) → IsDisarming old done units → IsDisarming old more units
same_done old units done more same h = record {
  changing = same_changed disarm_at old units done more same h.changing;
  by_arms = λ j u is. h.by_arms j u (sym (same j) ∙ is);
}

-- all are done
pub all_done : (old units : List WornUnit) (done : ℕ → Bool) → IsDisarming old done units → ((k : ℕ) → k < length old → done k ≡ true)
    → units ≡ map disarmed old
all_done old units done h all =
    same_lists units (map disarmed old) (λ j. all_changed disarm_at old units done h.changing all j ∙ sym (slice_get-map disarmed old j))

pub all_by_arms : (old units : List WornUnit) (done : ℕ → Bool) → IsDisarming old done units → ((k : ℕ) → k < length old → done k ≡ true)
    → (i : ℕ) (u : WornUnit) → slice_get old i ≡ Some u → GoesByArms u
all_by_arms old units done h all i u there = h.by_arms i u (all i (slice_get_within old i u there)) there
