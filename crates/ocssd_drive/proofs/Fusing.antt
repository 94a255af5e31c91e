-- The seat of the fuse's unit, as it takes in those of the other units.
use Rattle.std.proofs.Common.{◌≡◌, ◌≢◌, ◌⊎◌, ℕ, Bool, true, false, ltb, eqb, ◌||◌, ◌+◌, ◌<◌, ◌≤◌, List, length, map, refl, sym, ap, ◌∙◌, subst, arith, inl, inr, Option, Some, None, slice_get, slice_set, slice_index_or}
use Rattle.std.proofs.lemmas.Bool.{lt-ltb, le-ltb, eqb-true, eq-eqb, ne_eqb}
use Rattle.std.proofs.lemmas.Option.{none-some, slice_get-get_or, slice_get_within, slice_get_cases}
use Rattle.std.specs.Option.{IsSome}
use native.Mathlib.Decide.{ℕ_discrete, dec_lt}
use Rattle.unit_port.specs.declared.armed.Fuse.{Fuse}
use Rattle.unit_port.specs.Armed.{Armed, has_stopped}
use Rattle.unit_port.specs.Unit.{IsStopped}
use Rattle.pblk_model.specs.UnitLog.{UnitEvent}
use Rattle.ocssd_drive.specs.StopWord.{SeatView}
use Rattle.ocssd_drive.specs.Journal.{SeatSays, SeatTells, SeatTellsBy}
use Rattle.ocssd_drive.specs.Outcomes.{GoesByArms}
use Rattle.ocssd_drive.specs.Faults.{fuse_is_at, fuse_is_at_unit}
use Rattle.ocssd_drive.specs.Units.{WornUnit, disarmed}
use Rattle.ocssd_drive.specs.Drive.{AreArmedTogether, FuseFell, KnowsMore, fitting_fuse}
use Rattle.ocssd_drive.proofs.Lists.{some_same}
use Rattle.ocssd_drive.proofs.Changing.{later, read_at, still_old}
use Rattle.ocssd_drive.proofs.Disarming.{IsDisarming, disarm_at, none_done, one_more, same_done, all_done, all_by_arms}
use Rattle.pblk_model.proofs.Tests.{or_true}

-- units that were armed together, with a fuse that falls at commands of the unit `at`, whose seat is `first`
pub record IsFused (old : List WornUnit) (at : ℕ) (first : SeatView) : Type 0 where
  pub fuse : Fuse
  pub here : fuse.unit ≡ at
  pub fuses : (i : ℕ) (u : WornUnit) → slice_get old i ≡ Some u → u.unit.armed.fuse ≡ Some fuse
  pub numbers : (i : ℕ) (u : WornUnit) → slice_get old i ≡ Some u → u.unit.armed.unit ≡ i
  pub words : (i : ℕ) (u : WornUnit) → slice_get old i ≡ Some u → u.unit.armed.word ≡ Some first.word
  pub unit : WornUnit
  pub there : slice_get old at ≡ Some unit
  pub says : SeatSays unit.unit.armed unit.unit.log fuse first

no_fuse : (a : Armed) → a.fuse ≡ None → fuse_is_at a ≡ true → ⊥
no_fuse a none is = absurd (let e : fuse_is_at a ≡ false = rw none refl in cc)

fuse_here : (a : Armed) (f : Fuse) → a.fuse ≡ Some f → fuse_is_at a ≡ true → f.unit ≡ a.unit
fuse_here a f some is = let e : fuse_is_at a ≡ eqb f.unit a.unit = rw some refl in eqb-true f.unit a.unit (sym e ∙ is)

fuse_elsewhere : (a : Armed) (f : Fuse) → a.fuse ≡ Some f → f.unit ≢ a.unit → fuse_is_at a ≡ false
fuse_elsewhere a f some apart = let e : fuse_is_at a ≡ eqb f.unit a.unit = rw some refl in e ∙ ne_eqb f.unit a.unit apart

says_of : (x : WornUnit) (f : Fuse) (first : SeatView) → x.unit.armed.fuse ≡ Some f → SeatTells x.unit.armed x.unit.log (Some first)
    → SeatSays x.unit.armed x.unit.log f first
says_of x f first some h = subst (λ (o : Option Fuse). Rattle.ocssd_drive.specs.Journal.SeatTellsBy x.unit.armed x.unit.log o (Some first)) some h

fused_by : (old : List WornUnit) (at : ℕ) (x : WornUnit) (first : SeatView) (t : AreArmedTogether old) → slice_get old at ≡ Some x
    → fuse_is_at x.unit.armed ≡ true
    → SeatTells x.unit.armed x.unit.log (Some first) → (o : Option Fuse) → t.fuse ≡ o → IsFused old at first
fused_by old at x first t there is tells None none = absurd (no_fuse x.unit.armed ((t.each at x there).with_fuse ∙ none) is)
fused_by old at x first t there is tells (Some f) some =
    let own : x.unit.armed.fuse ≡ Some f = (t.each at x there).with_fuse ∙ some in
    let says : SeatSays x.unit.armed x.unit.log f first = says_of x f first own tells in
    record {
      fuse = f;
      here = fuse_here x.unit.armed f own is ∙ (t.each at x there).number;
      fuses = λ i u here. (t.each i u here).with_fuse ∙ some;
      numbers = λ i u here. (t.each i u here).number;
      words = λ i u here. (t.each i u here).with_word ∙ sym ((t.each at x there).with_word) ∙ says.word;
      unit = x;
      there = there;
      says = says;
    }

pub fused_at : (old : List WornUnit) (at : ℕ) (x : WornUnit) (first : SeatView) → AreArmedTogether old → slice_get old at ≡ Some x
    → fuse_is_at x.unit.armed ≡ true
    → SeatTells x.unit.armed x.unit.log (Some first) → IsFused old at first
fused_at old at x first t there is tells = fused_by old at x first t there is tells t.fuse refl

-- the fuse's unit is done first, and then those below a place
abbrev pub is_done : ℕ → ℕ → ℕ → Bool
is_done at i j = eqb j at || ltb j i

pub record IsJoining (old : List WornUnit) (at i : ℕ) (first : SeatView) (units : List WornUnit) (keeper : SeatView) : Type 0 where
  pub fused : IsFused old at first
  pub disarming : IsDisarming old (is_done at i) units
  pub knows : KnowsMore first keeper
  pub stopped : (j : ℕ) (u : WornUnit) → is_done at i j ≡ true → slice_get old j ≡ Some u → IsStopped u.unit
      → (keeper.view.found ≡ true) ⊎ (keeper.view.fell ≡ true)

done_here : (at i : ℕ) → is_done at i at ≡ true
done_here at i = rw (eq-eqb at at refl) refl

done_other : (at i j : ℕ) → j ≢ at → is_done at i j ≡ ltb j i
done_other at i j apart = rw (ne_eqb j at apart) refl

-- one more is done
done_more : (at i : ℕ) → i ≢ at → is_done at (i + 1) i ≡ true
done_more at i apart = done_other at (i + 1) i apart ∙ lt-ltb i (i + 1) (omega arith)

done_yet : (at i : ℕ) → i ≢ at → is_done at i i ≡ false
done_yet at i apart = done_other at i i apart ∙ le-ltb i i (omega arith)

done_same_if : (at i j : ℕ) → (j ≢ at → ltb j (i + 1) ≡ ltb j i) → Dec (j ≡ at) → is_done at (i + 1) j ≡ is_done at i j
done_same_if at i j h (yes same) = rw same (done_here at (i + 1) ∙ sym (done_here at i))
done_same_if at i j h (no apart) = done_other at (i + 1) j apart ∙ h apart ∙ sym (done_other at i j apart)

done_same : (at i j : ℕ) → j ≢ i → is_done at (i + 1) j ≡ is_done at i j
done_same at i j apart = done_same_if at i j (λ _. later j i apart) (ℕ_discrete j at)

done_skip : (at j : ℕ) → is_done at (at + 1) j ≡ is_done at at j
done_skip at j = done_same_if at at j (λ apart. later j at apart) (ℕ_discrete j at)

found_or_fell : (s : SeatView) → (s.view.found ≡ true) ⊎ ((s.view.fuse ≡ true) × (s.view.fell ≡ true)) → (s.view.found ≡ true) ⊎ (s.view.fell ≡ true)
found_or_fell s (inl found) = inl found
found_or_fell s (inr fell) = inr fell.1

-- the seat of the fuse's unit knows of its own stops
first_knows : (old : List WornUnit) (at : ℕ) (first : SeatView) → IsFused old at first → (u : WornUnit) → slice_get old at ≡ Some u → IsStopped u.unit
    → (first.view.found ≡ true) ⊎ (first.view.fell ≡ true)
first_knows old at first h u there stopped =
    let same : u ≡ h.unit = some_same u h.unit (sym there ∙ h.there) in
    found_or_fell first (h.says.stopped (subst (λ (v : WornUnit). IsStopped v.unit) same stopped))

-- what is known is still known
still_known : (old new : SeatView) → KnowsMore old new → (old.view.found ≡ true) ⊎ (old.view.fell ≡ true) → (new.view.found ≡ true) ⊎ (new.view.fell ≡ true)
still_known old new h (inl found) = inl (h.found found)
still_known old new h (inr fell) = inr (h.fell ∙ fell)

only_at_if : (at j : ℕ) → is_done at 0 j ≡ true → Dec (j ≡ at) → j ≡ at
only_at_if at j done (yes same) = same
only_at_if at j done (no apart) = absurd (let e : is_done at 0 j ≡ false = done_other at 0 j apart ∙ le-ltb j 0 (omega arith) in cc)

only_at : (at j : ℕ) → is_done at 0 j ≡ true → j ≡ at
only_at at j done = only_at_if at j done (ℕ_discrete j at)

pub first_done : (old : List WornUnit) (at : ℕ) (first : SeatView) (d new : WornUnit) → IsFused old at first → new ≡ disarmed (slice_index_or old at d)
    → GoesByArms (slice_index_or old at d)
    → IsJoining old at 0 first (slice_set old at new) first
first_done old at first d new h is by_arms = record {
  fused = h;
  disarming = one_more old old (λ j. false) (is_done at 0) at d new (none_done old (λ j. false) (λ j. refl)) (slice_get_within old at h.unit h.there) refl
      (done_here at 0) (λ j apart. done_other at 0 j apart ∙ le-ltb j 0 (omega arith)) is by_arms;
  knows = record { word = refl; fuse = refl; fell = refl; found = λ e. e };
  stopped = λ j u done there. first_knows old at first h u (ap (slice_get old) (sym (only_at at j done)) ∙ there);
}

step_stopped : (old : List WornUnit) (at i : ℕ) (first : SeatView) (units : List WornUnit) (keeper more : SeatView) (x : WornUnit)
    → IsJoining old at i first units keeper → KnowsMore keeper more
    → slice_get old i ≡ Some x → (IsStopped x.unit → more.view.found ≡ true) → (j : ℕ) → Dec (j ≡ i) → (u : WornUnit) → is_done at (i + 1) j ≡ true
    → slice_get old j ≡ Some u → IsStopped u.unit → (more.view.found ≡ true) ⊎ (more.view.fell ≡ true)
step_stopped old at i first units keeper more x h knows here told j (yes same) u done there stopped =
    inl (told (subst (λ (v : WornUnit). IsStopped v.unit) (some_same u x (sym there ∙ ap (slice_get old) same ∙ here)) stopped))
step_stopped old at i first units keeper more x h knows here told j (no apart) u done there stopped =
    still_known keeper more knows (h.stopped j u (sym (done_same at i j apart) ∙ done) there stopped)

-- one more unit is done, and its seat taken in
pub join_more : (old : List WornUnit) (at i : ℕ) (first : SeatView) (units : List WornUnit) (keeper more : SeatView) (d new : WornUnit)
    → IsJoining old at i first units keeper → i < length units → i ≢ at
    → new ≡ disarmed (slice_index_or units i d) → GoesByArms (slice_index_or units i d) → KnowsMore keeper more
    → (IsStopped (slice_index_or units i d).unit → more.view.found ≡ true)
    → IsJoining old at (i + 1) first (slice_set units i new) more
join_more old at i first units keeper more d new h within apart is by_arms knows told = record {
  fused = h.fused;
  disarming = one_more old units (is_done at i) (is_done at (i + 1)) i d new h.disarming within (done_yet at i apart) (done_more at i apart)
      (done_same at i) is by_arms;
  knows = record {
    word = knows.word ∙ h.knows.word;
    fuse = knows.fuse ∙ h.knows.fuse;
    fell = knows.fell ∙ h.knows.fell;
    found =
        λ e. knows.found (h.knows.found e);
  };
  stopped = λ j u. step_stopped old at i first units keeper more (slice_index_or units i d) h knows
      (still_old disarm_at old units (is_done at i) i d h.disarming.changing within (done_yet at i apart)) told j (ℕ_discrete j i) u;
}

-- the fuse's unit is done already
pub skip_first : (old : List WornUnit) (at i : ℕ) (first : SeatView) (units : List WornUnit) (keeper : SeatView) → i ≡ at
    → IsJoining old at i first units keeper → IsJoining old at (i + 1) first units keeper
skip_first old at i first units keeper here h = let same : (j : ℕ) → is_done at (i + 1) j ≡ is_done at i j = λ j. rw here (done_skip at j) in record {
  fused = h.fused;
  disarming = same_done old units (is_done at i) (is_done at (i + 1)) same h.disarming;
  knows = h.knows;
  stopped = λ j u done. h.stopped j u (sym (same j) ∙ done);
}

-- what is asked of another unit, before it is joined

pub word_there : (old : List WornUnit) (at i : ℕ) (first : SeatView) (units : List WornUnit) (keeper : SeatView) (d : WornUnit)
    → IsJoining old at i first units keeper → i < length units → i ≢ at
    → (slice_index_or units i d).unit.armed.word ≡ Some keeper.word
word_there old at i first units keeper d h within apart =
    h.fused.words i (slice_index_or units i d) (still_old disarm_at old units (is_done at i) i d h.disarming.changing within (done_yet at i apart))
    ∙ ap Some (sym h.knows.word)

pub fuse_there : (old : List WornUnit) (at i : ℕ) (first : SeatView) (units : List WornUnit) (keeper : SeatView) (d : WornUnit)
    (h : IsJoining old at i first units keeper) → i < length units → i ≢ at
    → (slice_index_or units i d).unit.armed.fuse ≡ Some h.fused.fuse
fuse_there old at i first units keeper d h within apart =
    h.fused.fuses i (slice_index_or units i d) (still_old disarm_at old units (is_done at i) i d h.disarming.changing within (done_yet at i apart))

pub fused_there : (old : List WornUnit) (at i : ℕ) (first : SeatView) (units : List WornUnit) (keeper : SeatView) (d : WornUnit)
    → IsJoining old at i first units keeper → i < length units → i ≢ at
    → IsSome (slice_index_or units i d).unit.armed.fuse
fused_there old at i first units keeper d h within apart = rw (fuse_there old at i first units keeper d h within apart) refl

pub other_there : (old : List WornUnit) (at i : ℕ) (first : SeatView) (units : List WornUnit) (keeper : SeatView) (d : WornUnit)
    → IsJoining old at i first units keeper → i < length units → i ≢ at
    → fuse_is_at (slice_index_or units i d).unit.armed ≡ false
other_there old at i first units keeper d h within apart =
    let x = slice_index_or units i d in
    let number : x.unit.armed.unit ≡ i =
    h.fused.numbers i x (still_old disarm_at old units (is_done at i) i d h.disarming.changing within (done_yet at i apart)) in
    fuse_elsewhere x.unit.armed h.fused.fuse (fuse_there old at i first units keeper d h within apart) (λ e. apart (sym number ∙ sym e ∙ h.fused.here))

-- at the end
done_below : (at i j : ℕ) → j < i → is_done at i j ≡ true
done_below at i j below = rw (lt-ltb j i below) (or_true (eqb j at))

pub all_joined : (old : List WornUnit) (at i : ℕ) (first : SeatView) (units : List WornUnit) (keeper : SeatView) → IsJoining old at i first units keeper
    → length old ≤ i → units ≡ map disarmed old
all_joined old at i first units keeper h past = all_done old units (is_done at i) h.disarming (λ k within. done_below at i k (omega arith))

pub all_joined_by_arms : (old : List WornUnit) (at i : ℕ) (first : SeatView) (units : List WornUnit) (keeper : SeatView) → IsJoining old at i first units keeper
    → length old ≤ i
    → (j : ℕ) (u : WornUnit) → slice_get old j ≡ Some u → GoesByArms u
all_joined_by_arms old at i first units keeper h past = all_by_arms old units (is_done at i) h.disarming (λ k within. done_below at i k (omega arith))

fell_by : (keeper : SeatView) (set : Bool) → (keeper.view.found ≡ true → set ≡ true) → set ≡ keeper.view.fell
    → (keeper.view.found ≡ true) ⊎ (keeper.view.fell ≡ true) → keeper.view.fell ≡ true
fell_by keeper set found fell (inl h) = sym fell ∙ found h
fell_by keeper set found fell (inr h) = h

-- a unit was stopped only where the fuse fell
pub stopped_by_fuse : (old : List WornUnit) (at i : ℕ) (first : SeatView) (units : List WornUnit) (keeper : SeatView) (set : Bool)
    → IsJoining old at i first units keeper → length old ≤ i
    → (keeper.view.found ≡ true → set ≡ true) → (keeper.view.fuse ≡ true → set ≡ keeper.view.fell) → (j : ℕ) (u : WornUnit) → slice_get old j ≡ Some u
    → IsStopped u.unit → FuseFell old u.unit.armed
stopped_by_fuse old at i first units keeper set h past found fell j u there stopped =
    let fused = h.fused in
    let is_fuse : first.view.fuse ≡ true = fused.says.fuse
    ∙ eq-eqb fused.fuse.unit fused.unit.unit.armed.unit (fused.here ∙ sym (fused.numbers at fused.unit fused.there)) in
    let keeper_fell : keeper.view.fell ≡ true =
    fell_by keeper set found (fell (h.knows.fuse ∙ is_fuse))
    (h.stopped j u (done_below at i j (omega (arith, slice_get_within old j u there))) there stopped) in
    record {
      fuse = fused.fuse;
      is = fused.fuses j u there;
      unit = fused.unit;
      there = ap (slice_get old) fused.here ∙ fused.there;
      counted = (fused.says.fell (sym h.knows.fell ∙ keeper_fell)).2;
      fell = (fused.says.fell (sym h.knows.fell ∙ keeper_fell)).1;
    }

-- the unit that was read at the fuse's place, disarmed
pub fused_first : (old : List WornUnit) (at : ℕ) (first : SeatView) (x new : WornUnit) → AreArmedTogether old
    → ((u : WornUnit) × (slice_get old at ≡ Some u) × (fuse_is_at u.unit.armed ≡ true)) → x ≡ slice_index_or old at x
    → new ≡ disarmed (slice_index_or old at x) → GoesByArms (slice_index_or old at x)
    → SeatTells (slice_index_or old at x).unit.armed (slice_index_or old at x).unit.log (Some first)
    → IsJoining old at 0 first (slice_set old at new) first
fused_first old at first x new t (u, there, is) read new_is by_arms tells =
    let here : slice_get old at ≡ Some x = read_at old at x (slice_get_within old at u there) read in
    let same : u ≡ x = some_same u x (sym there ∙ here) in
    first_done old at first x new (fused_at old at x first t here (subst (λ (v : WornUnit). fuse_is_at v.unit.armed ≡ true) same is)
    (subst (λ (v : WornUnit). SeatTells v.unit.armed v.unit.log (Some first)) (sym read) tells)) new_is by_arms

fitting_below : (n : ℕ) (f : Fuse) → Dec (f.unit < n) → Some f ≡ fitting_fuse n (Some f) → f.unit < n
fitting_below n f (yes below) fits = below
fitting_below n f (no past) fits =
    absurd (let e : fitting_fuse n (Some f) ≡ None = rw (le-ltb f.unit n (omega (arith, past))) refl in none-some f (sym (fits ∙ e)))

unfused_at : (old : List WornUnit) (t : AreArmedTogether old) → ((i : ℕ) (u : WornUnit) → slice_get old i ≡ Some u → fuse_is_at u.unit.armed ≡ false)
    → (f : Fuse) → t.fuse ≡ Some f
    → ((v : WornUnit) × (f.unit < length old) × (slice_get old f.unit ≡ Some v) × (slice_index_or old f.unit v ≡ v))
    ⊎ ((length old ≤ f.unit) × (slice_get old f.unit ≡ None)) → f.unit < length old → ⊥
unfused_at old t nowhere f e (inl (v, below, there, _)) within =
    let own : v.unit.armed.fuse ≡ Some f = (t.each f.unit v there).with_fuse ∙ e in
    let here : fuse_is_at v.unit.armed ≡ true = rw own (eq-eqb f.unit v.unit.armed.unit (sym ((t.each f.unit v there).number))) in
    let not_here : fuse_is_at v.unit.armed ≡ false = nowhere f.unit v there in
    absurd cc
unfused_at old t nowhere f e (inr (past, _)) within = absurd (omega arith)

unfused : (old : List WornUnit) (t : AreArmedTogether old) → ((i : ℕ) (u : WornUnit) → slice_get old i ≡ Some u → fuse_is_at u.unit.armed ≡ false)
    → (o : Option Fuse) → t.fuse ≡ o → t.fuse ≡ None
unfused old t nowhere None e = e
unfused old t nowhere (Some f) e =
    let below : f.unit < length old = fitting_below (length old) f (dec_lt f.unit (length old)) (sym e ∙ t.fits ∙ ap (fitting_fuse (length old)) e) in
    absurd (unfused_at old t nowhere f e (slice_get_cases old f.unit).1 below)

-- no unit was stopped where no fuse falls
pub none_stopped : (old : List WornUnit) → AreArmedTogether old → ((i : ℕ) (u : WornUnit) → slice_get old i ≡ Some u → fuse_is_at u.unit.armed ≡ false)
    → ((i : ℕ) (u : WornUnit) → slice_get old i ≡ Some u → GoesByArms u) → (i : ℕ) (u : WornUnit) → slice_get old i ≡ Some u → IsStopped u.unit
    → FuseFell old u.unit.armed
none_stopped old t nowhere by_arms i u there stopped =
    let none : u.unit.armed.fuse ≡ None = (t.each i u there).with_fuse ∙ unfused old t nowhere t.fuse refl in
    let still : has_stopped u.unit.armed u.unit.log ≡ false = (by_arms i u there).calm.stops none in
    absurd cc

seat_there : (a : Armed) (log : List UnitEvent) (fuse : Option Fuse) → fuse_is_at_unit a.unit fuse ≡ true → SeatTellsBy a log fuse None → ⊥
seat_there a log None here tells = cc
seat_there a log (Some f) here tells = tells

-- the unit on which the fuse falls has a seat
pub keeper_there : (units : List WornUnit) (at : ℕ) (d : WornUnit) (seat : Option SeatView)
    → (u : WornUnit) × (slice_get units at ≡ Some u) × (fuse_is_at u.unit.armed ≡ true) → seat ≡ None
    → SeatTells (slice_index_or units at d).unit.armed (slice_index_or units at d).unit.log seat → ⊥
keeper_there units at d seat there none tells =
    let same : there.0 ≡ slice_index_or units at d = some_same _ _ (sym there.1 ∙ slice_get-get_or units at d (slice_get_within units at there.0 there.1)) in
    seat_there _ _ _ (subst (λ (u : WornUnit). fuse_is_at u.unit.armed ≡ true) same there.2)
    (subst (SeatTells (slice_index_or units at d).unit.armed (slice_index_or units at d).unit.log) none tells)
