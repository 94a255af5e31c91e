-- What a unit has of the events of several units.
use Rattle.std.proofs.Common.{ℕ, ◌≡◌, List, [], ◌∷◌, slice_get, slice_set, Some, refl, sym, ap, ◌∙◌, subst, append-nil, append_assoc}
use Rattle.std.proofs.lemmas.Bool.{eq-eqb, ne_eqb}
use Rattle.std.proofs.lemmas.Option.{same_Some, slice_get_within}
use native.Mathlib.Decide.{ℕ_discrete}
use Rattle.pblk_model.specs.UnitLog.{UnitEvent, IsEvent, IsUnitLog}
use Rattle.unit_port.specs.Unit.{ModelUnit}
use Rattle.unit_port.specs.Commands.{UnitCommand, EventAt, with_event, after_one, after_all, IsNext, AreNext, Ran, HadEvents, events_of}
use Rattle.unit_port.proofs.Units.{after_one_is}
use Rattle.pblk_model.proofs.Parts.{get_set_other, get_set_same}

no_events : (u : ModelUnit) → HadEvents u [] u
unfolding IsUnitLog
no_events u = record { log = sym (append-nil u.log); legal = tt; media = refl }

first_event : (u v : ModelUnit) (e : UnitEvent) (rest : List UnitEvent) → IsEvent u.shape u.media e → HadEvents (with_event u e) rest v
    → HadEvents u (e ∷ rest) v
unfolding IsUnitLog
first_event u v e rest event h = record { log = h.log ∙ append_assoc u.log (e ∷ []) rest; legal = (event, h.legal); media = h.media }

-- the unit after the events, which it has of its own
abbrev pub Had : List ModelUnit → List EventAt → ℕ → ModelUnit → Type 0
Had units events i u = (v : ModelUnit) × (slice_get (after_all units events) i ≡ Some v) × HadEvents u (events_of i events) v

same_unit : (e : EventAt) (units : List ModelUnit) (i : ℕ) (u : ModelUnit) → slice_get units i ≡ Some u → (next : IsNext units e) → e.unit ≡ i → next.unit ≡ u
same_unit e units i u there next same = same_Some next.unit u (sym next.there ∙ ap (slice_get units) same ∙ there)

-- after an event of its own
its_own : (e : EventAt) (units : List ModelUnit) (i : ℕ) (u : ModelUnit) → slice_get units i ≡ Some u → IsNext units e → e.unit ≡ i
    → slice_get (after_one units e) i ≡ Some (with_event u e.event)
its_own e units i u there next same =
    let there' : slice_get units e.unit ≡ Some u = ap (slice_get units) same ∙ there in
    ap (λ us. slice_get us i) (after_one_is units e u there')
    ∙ ap (slice_get (slice_set units e.unit (with_event u e.event))) (sym same)
    ∙ get_set_same units e.unit (with_event u e.event) (slice_get_within units e.unit u there')

-- after an event of another unit
of_other : (e : EventAt) (units : List ModelUnit) (i : ℕ) (u : ModelUnit) → slice_get units i ≡ Some u → IsNext units e → (e.unit ≡ i → ⊥)
    → slice_get (after_one units e) i ≡ Some u
of_other e units i u there next apart =
    ap (λ us. slice_get us i) (after_one_is units e next.unit next.there)
    ∙ get_set_other units e.unit i (with_event next.unit e.event) (λ same. apart (sym same)) ∙ there

one_more : (e : EventAt) (events : List EventAt) (units : List ModelUnit) (i : ℕ) (u : ModelUnit) → slice_get units i ≡ Some u → IsNext units e
    → Dec (e.unit ≡ i)
    → ((w : ModelUnit) → slice_get (after_one units e) i ≡ Some w → Had (after_one units e) events i w) → Had units (e ∷ events) i u
one_more e events units i u there next (yes same) more =
    let h = more (with_event u e.event) (its_own e units i u there next same) in
    let event : IsEvent u.shape u.media e.event =
    subst (λ (w : ModelUnit). IsEvent w.shape w.media e.event) (same_unit e units i u there next same) next.event in
    (h.0, h.1, rw (eq-eqb e.unit i same) (first_event u h.0 e.event (events_of i events) event h.2))
one_more e events units i u there next (no apart) more =
    let h = more u (of_other e units i u there next apart) in
    (h.0, h.1, rw (ne_eqb e.unit i apart) h.2)

had : (events : List EventAt) (units : List ModelUnit) (i : ℕ) (u : ModelUnit) → slice_get units i ≡ Some u → AreNext units events → Had units events i u
had [] units i u there next = (u, there, no_events u)
had (e ∷ events) units i u there next =
    one_more e events units i u there next.0 (ℕ_discrete e.unit i) (λ w at_i. had events (after_one units e) i w at_i next.1)

pub unit_had : (old new : List ModelUnit) (commands : List UnitCommand) (events : List EventAt) (i : ℕ) (u v : ModelUnit) → Ran old commands events new
    → slice_get old i ≡ Some u → slice_get new i ≡ Some v
    → HadEvents u (events_of i events) v
unit_had old new commands events i u v ran there after =
    let h = had events old i u there ran.next in
    let same : h.0 ≡ v = same_Some h.0 v (sym h.1 ∙ ap (λ us. slice_get us i) (sym ran.units) ∙ after) in
    subst (HadEvents u (events_of i events)) same h.2
