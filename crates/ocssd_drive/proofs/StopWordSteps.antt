-- Each step that a seat makes keeps the stop word's rule.
use Rattle.std.proofs.Common.{◌≡◌, ◌≢◌, ◌||◌, ◌==◌, ℕ, zero, suc, Bool, true, false, if◌then◌else◌, List, [], ◌∷◌, ◌++◌, set, slice_index, slice_set, refl, sym, subst, ◌∙◌, ⊎_elim}
use mathlib.Core.Option.{none, some, some-injective, some-ne-none}
use lib.ListN.{get_elem?}
use Rattle.atomic_table.specs.Table.{State, Me, step, opening, Allows, Splits, Joins, keeps}
use Rattle.atomic_table.proofs.Lists.{at_set, at_snoc, at_longer, set_else}
use Rattle.ocssd_drive.specs.declared.stop_word.StopView.{StopView}
use Rattle.ocssd_drive.specs.StopWord.{FitsWord, IsStopWord, Looks, Blows, keeper, other_unit, looked, blown, joined}
use Rattle.pblk_model.proofs.Parts.{store_sets}

-- what every seat knows fits the word
abbrev AllFit : ℕ → Bool → List StopView → Type 0
AllFit owner is_set views = (seat : ℕ) (v : StopView) → get_elem? views seat ≡ some v → FitsWord owner is_set seat v

other_fits : (owner : ℕ) (is_set : Bool) (seat : ℕ) → FitsWord owner is_set seat other_unit
other_fits owner is_set seat = record { only = λ e. cc; fell = λ e. cc; found = λ e. cc }

-- one seat knows something else, which fits
set_fits : (owner : ℕ) (is_set : Bool) (id : ℕ) (new : StopView) (views : List StopView) → AllFit owner is_set views → FitsWord owner is_set id new → AllFit owner is_set (set views id new)
set_fits owner is_set id new views fit new_fit seat v e = ⊎_elim
    (λ (t : (seat ≡ id) × (new ≡ v)). subst (λ (k : ℕ). FitsWord owner is_set k v) (sym t.0) (subst (λ (w : StopView). FitsWord owner is_set id w) t.1 new_fit))
    (λ (t : (seat ≢ id) × (get_elem? views seat ≡ some v)). fit seat v t.1)
    (at_set views id seat new v e)

-- a new seat, whose view fits wherever it sits
more_fits : (owner : ℕ) (is_set : Bool) (new : StopView) (views : List StopView) → AllFit owner is_set views → ((seat : ℕ) → FitsWord owner is_set seat new) → AllFit owner is_set (views ++ new ∷ [])
more_fits owner is_set new views fit new_fit seat v e = ⊎_elim
    (λ (was : get_elem? views seat ≡ some v). fit seat v was)
    (λ (same : new ≡ v). subst (λ (w : StopView). FitsWord owner is_set seat w) same (new_fit seat))
    (at_snoc views new v seat e)

-- the number 1 stands for a word that is set
number_tells : (words : List ℕ) (is_set : Bool) → words ≡ (if is_set then 1 else 0) ∷ [] → (slice_index words 0 == 1) ≡ is_set
number_tells words true e = subst (λ (l : List ℕ). (slice_index l 0 == 1) ≡ true) (sym e) refl
number_tells words false e = subst (λ (l : List ℕ). (slice_index l 0 == 1) ≡ false) (sym e) refl

load_stays : (words : List ℕ) (n : ℕ) → words ≡ n ∷ [] → slice_set words 0 (slice_index words 0) ≡ n ∷ []
load_stays words n e = subst (λ (l : List ℕ). slice_set l 0 (slice_index l 0) ≡ n ∷ []) (sym e) refl

either_set : (a b s : Bool) → (a ≡ true → s ≡ true) → (b ≡ true → s ≡ true) → (a || b) ≡ true → s ≡ true
either_set true b s left right e = left refl
either_set false b s left right e = right e

looked_fits : (owner : ℕ) (is_set found : Bool) (id : ℕ) (v : StopView) → found ≡ is_set → FitsWord owner is_set id v → FitsWord owner is_set id (looked v found)
looked_fits owner is_set found id v e fit = record {
  only = fit.only;
  fell = fit.fell;
  found = either_set v.found found is_set fit.found (λ t. sym e ∙ t);
}

joined_fits : (owner : ℕ) (is_set : Bool) (id other : ℕ) (v w : StopView) → FitsWord owner is_set id v → FitsWord owner is_set other w → FitsWord owner is_set id (joined v w)
joined_fits owner is_set id other v w fit other_fit = record {
  only = fit.only;
  fell = fit.fell;
  found = either_set v.found w.found is_set fit.found other_fit.found;
}

-- once the word is set, what a seat knew still fits where it isn't the owner's
set_later : (owner : ℕ) (is_set : Bool) (seat : ℕ) (v : StopView) → seat ≢ owner → FitsWord owner is_set seat v → FitsWord owner true seat v
set_later owner is_set seat v ne fit = record {
  only = fit.only;
  fell = λ e. absurd (ne (fit.only e));
  found = λ e. refl;
}

blown_fits : (owner : ℕ) (is_set : Bool) (id : ℕ) (v : StopView) → FitsWord owner is_set id v → FitsWord owner true id (blown v)
blown_fits owner is_set id v fit = record { only = fit.only; fell = λ e. refl; found = λ e. refl }

-- the seat of the fuse's unit, which is the owner's, sets the word
all_blown : (owner : ℕ) (is_set : Bool) (id : ℕ) (v : StopView) (views : List StopView) → v.fuse ≡ true → get_elem? views id ≡ some v → AllFit owner is_set views → AllFit owner true (set views id (blown v))
all_blown owner is_set id v views fuse here fit seat u e = ⊎_elim
    (λ (t : (seat ≡ id) × (blown v ≡ u)). subst (λ (k : ℕ). FitsWord owner true k u) (sym t.0)
    (subst (λ (w : StopView). FitsWord owner true id w) t.1 (blown_fits owner is_set id v (fit id v here))))
    (λ (t : (seat ≢ id) × (get_elem? views seat ≡ some u)).
    set_later owner is_set seat u (λ (same : seat ≡ owner). t.0 (same ∙ sym ((fit id v here).only fuse))) (fit seat u t.1))
    (at_set views id seat (blown v) u e)

keeper_fits : FitsWord 0 false 0 keeper
keeper_fits = record { only = λ e. refl; fell = λ e. refl; found = λ e. cc }

opening_fits : AllFit 0 false (keeper ∷ [])
opening_fits zero v e = subst (λ (w : StopView). FitsWord 0 false 0 w) (some-injective keeper v e) keeper_fits
opening_fits (suc seat) v e = absurd (some-ne-none v (sym e))

-- the owner's seat is there, and is the fuse's unit's
abbrev HasKeeper : ℕ → List StopView → Type 0
HasKeeper owner views = (k : StopView) × (get_elem? views owner ≡ some k) × (k.fuse ≡ true)

-- one seat knows something else, and still is the fuse's unit where it was
set_keeper : (views : List StopView) (id owner : ℕ) (old new k : StopView) → get_elem? views id ≡ some old → (old.fuse ≡ true → new.fuse ≡ true)
    → get_elem? views owner ≡ some k → k.fuse ≡ true → HasKeeper owner (set views id new)
set_keeper [] id owner old new k here stays there fuse = absurd (some-ne-none k (sym there))
set_keeper (x ∷ xs) zero zero old new k here stays there fuse =
    let same : k ≡ old = sym (some-injective x k there) ∙ some-injective x old here in
    (new, refl, stays (subst (λ (w : StopView). w.fuse ≡ true) same fuse))
set_keeper (x ∷ xs) zero (suc owner) old new k here stays there fuse = (k, there, fuse)
set_keeper (x ∷ xs) (suc id) zero old new k here stays there fuse = (k, there, fuse)
set_keeper (x ∷ xs) (suc id) (suc owner) old new k here stays there fuse = set_keeper xs id owner old new k here stays there fuse

one_knows : (s : State (Unit {0}) StopView) (id : ℕ) (old new : StopView) (holds : IsStopWord s) → get_elem? s.views id ≡ some old → (old.fuse ≡ true → new.fuse ≡ true) → HasKeeper holds.owner (set s.views id new)
one_knows s id old new holds here stays = set_keeper s.views id holds.owner old new holds.keeper_view here stays holds.keeper_there holds.is_fuse

pub opening_holds : IsStopWord (opening (0 ∷ []) [] keeper)
opening_holds = record {
  owner = 0;
  set = false;
  word = refl;
  keeper_view = keeper;
  keeper_there = refl;
  is_fuse = refl;
  views = opening_fits;
}

pub load_allowed : (slots id : ℕ) (me : Me (Unit {0}) StopView) → Allows IsStopWord slots id me 0 (λ n. n) (Looks (step slots 0 0 0 none) me)
load_allowed slots id me s holds count here range =
    let number : ℕ = slice_index s.words 0 in
    let tells : (number == 1) ≡ holds.set = number_tells s.words holds.set holds.word in
    let fits : FitsWord holds.owner holds.set id me.0 = holds.views id me.0 here in
    let kept : HasKeeper holds.owner (set s.views id (looked me.0 (number == 1))) = one_knows s id me.0 (looked me.0 (number == 1)) holds here (λ e. e) in (
      looked me.0 (number == 1),
      keeps,
      tt,
      record {
        owner = holds.owner;
        set = holds.set;
        word = load_stays s.words (if holds.set then 1 else 0) holds.word;
        keeper_view = kept.0;
        keeper_there = kept.1;
        is_fuse = kept.2;
        views = set_fits holds.owner holds.set id (looked me.0 (number == 1)) s.views holds.views (looked_fits holds.owner holds.set (number == 1) id me.0 tells fits);
      },
      (refl, (λ e. tells ∙ fits.found e), (λ e. tells ∙ sym (fits.fell e))),
    )

pub store_allowed : (slots id : ℕ) (me : Me (Unit {0}) StopView) → me.0.fuse ≡ true → Allows IsStopWord slots id me 0 (λ _. 1) (λ _. Blows (step slots 0 1 0 none) me 1)
store_allowed slots id me fuse s holds count here range =
    let kept : HasKeeper holds.owner (set s.views id (blown me.0)) = one_knows s id me.0 (blown me.0) holds here (λ e. e) in (
      blown me.0,
      keeps,
      tt,
      record {
        owner = holds.owner;
        set = true;
        word = store_sets s.words (if holds.set then 1 else 0) 1 holds.word;
        keeper_view = kept.0;
        keeper_there = kept.1;
        is_fuse = kept.2;
        views = all_blown holds.owner holds.set id me.0 s.views fuse here holds.views;
      },
      refl,
    )

pub split_allowed : (id : ℕ) (v : StopView) → Splits IsStopWord id v v other_unit
split_allowed id v s holds here =
    let kept : HasKeeper holds.owner (set s.views id v) = one_knows s id v v holds here (λ e. e) in
    record {
      owner = holds.owner;
      set = holds.set;
      word = holds.word;
      keeper_view = kept.0;
      keeper_there = at_longer (set s.views id v) (other_unit ∷ []) holds.owner kept.0 kept.1;
      is_fuse = kept.2;
      views = more_fits holds.owner holds.set other_unit (set s.views id v)
          (set_fits holds.owner holds.set id v s.views holds.views (holds.views id v here)) (other_fits holds.owner holds.set);
    }

-- the spent seat isn't the fuse's unit's
pub join_allowed : (id other : ℕ) (v w : StopView) → w.fuse ≡ false → Joins IsStopWord id v other w (joined v w) other_unit
join_allowed id other v w not_fuse s holds here ne there =
    let was : get_elem? s.views other ≡ some w = sym (set_else s.views id other (joined v w) ne) ∙ there in
    let kept : HasKeeper holds.owner (set s.views id (joined v w)) = one_knows s id v (joined v w) holds here (λ e. e) in
    let still : HasKeeper holds.owner (set (set s.views id (joined v w)) other other_unit) =
    set_keeper (set s.views id (joined v w)) other holds.owner w other_unit kept.0 there (λ e. sym not_fuse ∙ e) kept.1 kept.2 in
    record {
      owner = holds.owner;
      set = holds.set;
      word = holds.word;
      keeper_view = still.0;
      keeper_there = still.1;
      is_fuse = still.2;
      views = set_fits holds.owner holds.set other other_unit (set s.views id (joined v w))
          (set_fits holds.owner holds.set id (joined v w) s.views holds.views
          (joined_fits holds.owner holds.set id other v w (holds.views id v here) (holds.views other w was)))
          (other_fits holds.owner holds.set other);
    }
