-- A command of one unit out of several: what it leaves of them.
use Rattle.std.proofs.Common.{ℕ, zero, suc, ◌<◌, ◌≡◌, inl, inr, ⊎_elim, Bool, true, false, ◌||◌, List, [], ◌∷◌, ◌++◌, length, map, drop, slice_get, slice_set, slice_index_or, Option, Some, Result, Ok, Err, is_err, refl, sym, ap, ◌∙◌, subst, arith}
use Rattle.std.specs.Prelude.{IsOk}
use Rattle.std.specs.List.{list_any}
use Rattle.std.specs.Option.{option_map, option_map_or}
use Rattle.std.proofs.lemmas.List.{length-map, length-set, map-set}
use Rattle.std.proofs.lemmas.Option.{slice_get-map, slice_get-get_or, slice_get_within, same_Some}
use Rattle.std.proofs.lemmas.Bool.{false≢true}
use Rattle.std.proofs.lemmas.List.Folds.{list_any-append}
use native.Mathlib.Decide.{ℕ_discrete}
use Rattle.pblk_model.specs.declared.shape.Shape.{Shape}
use Rattle.pblk_model.specs.declared.chunk.Got.{Got}
use Rattle.pblk_model.specs.declared.chunk.Got.TheVariants as got
use Rattle.pblk_model.specs.declared.chunk.Mark.{Mark}
use Rattle.pblk_model.specs.Blocks.{blocks_of}
use Rattle.pblk_model.specs.Chunk.{Chunk}
use Rattle.pblk_model.specs.ChunkStep.{ChunkCommand, Write, Read}
use Rattle.pblk_model.specs.UnitLog.{UnitEvent, UnitOutcome, IsEvent, after_event, after_outcome}
use Rattle.unit_port.specs.Armed.{Armed, IsUnarmed, is_fail, is_stop}
use Rattle.unit_port.specs.Unit.{ModelUnit, Takes, Steps, IsFitUnit, IsStopped, TellsDone, TellsBlock}
use Rattle.unit_port.specs.declared.unit.UnitErr.{UnitErr}
use Rattle.unit_port.specs.declared.unit.UnitErr.TheVariants as errors
use Rattle.unit_port.specs.Did.{failed_or_stopped, is_empty, Did}
use Rattle.unit_port.specs.Commands.{UnitCommand, EventAt, with_event, after_one, IsNext, IsKept, AreKept, IsTaken}
use Rattle.pblk_model.proofs.Parts.{get_set_other, get_set_same, set_same}
use Rattle.pblk_model.proofs.UnitLogLemmas.{after_event_is, read_leaves}

same_fields : (s s' : Shape) (m m' : List Chunk) (l l' : List UnitEvent) (a a' : Armed) → s ≡ s' → m ≡ m' → l ≡ l' → a ≡ a'
    → ◌≡◌ {A = ModelUnit} (record { shape = s; media = m; log = l; armed = a }) (record { shape = s'; media = m'; log = l'; armed = a' })
same_fields s s' m m' l l' a a' e f g h = cc

-- a step leaves the unit with its event
stepped : (old new : ModelUnit) (chunk : ℕ) (command : ChunkCommand) (outcome : UnitOutcome) → Steps old chunk command outcome new
    → new ≡ with_event old (record { chunk = chunk; command = command; outcome = outcome })
stepped old new chunk command outcome h =
    same_fields new.shape old.shape new.media (with_event old (record { chunk = chunk; command = command; outcome = outcome })).media new.log
    (with_event old (record { chunk = chunk; command = command; outcome = outcome })).log new.armed old.armed h.shape h.media h.log h.armed

abbrev pub at_unit : ℕ → ℕ → ChunkCommand → UnitOutcome → EventAt
at_unit unit chunk command outcome = record { unit = unit; event = record { chunk = chunk; command = command; outcome = outcome } }

module _ {U : Type 0} (model : U → ModelUnit) where
  pub model_there : (units : List U) (k : ℕ) (d : U) → k < length units → slice_get (map model units) k ≡ Some (model (slice_index_or units k d))
  model_there units k d within = slice_get-map model units k ∙ ap (option_map model) (slice_get-get_or units k d within)

  pub taken_within : (units : List U) (c : UnitCommand) → IsTaken (map model units) c → c.unit < length units
  taken_within units c h = omega (arith, slice_get_within (map model units) c.unit h.unit h.there, length-map units model)

  pub did_step : (units : List U) (k : ℕ) (d y : U) (chunk : ℕ) (command : ChunkCommand) (outcome : UnitOutcome)
      → IsTaken (map model units) (record { unit = k; chunk = chunk; command = command })
      → Steps (model (slice_index_or units k d)) chunk command outcome (model y)
      → (IsUnarmed (model (slice_index_or units k d)).armed → (is_fail outcome ≡ false) × (is_stop outcome ≡ false))
      → Did (map model units) (record { unit = k; chunk = chunk; command = command }) (at_unit k chunk command outcome) (map model (slice_set units k y))
  did_step units k d y chunk command outcome taken h quiet =
      let within : k < length units = taken_within units (record { unit = k; chunk = chunk; command = command }) taken in
      record {
        command = refl;
        next = record { unit = model (slice_index_or units k d); there = model_there units k d within; event = h.event; stopped = h.stopped; quiet = quiet };
        units = map-set model units k y
            ∙ ap (λ (v : ModelUnit). slice_set (map model units) k v) (stepped (model (slice_index_or units k d)) (model y) chunk command outcome h)
            ∙ ap (λ (o : Option ModelUnit). option_map_or
            (λ u. slice_set (map model units) k (with_event u (record { chunk = chunk; command = command; outcome = outcome }))) o (map model units))
            (sym (model_there units k d within));
      }

  kept_at : (units : List U) (k : ℕ) (d y : U) → k < length units → IsKept (model (slice_index_or units k d)) (model y) → (i : ℕ) (v : ModelUnit) → Dec (i ≡ k)
      → slice_get (slice_set (map model units) k (model y)) i ≡ Some v
      → (u : ModelUnit) × (slice_get (map model units) i ≡ Some u) × IsKept u v
  kept_at units k d y within h i v (yes same) there =
      let is_v : model y ≡ v = same_Some (model y) v
      (sym (get_set_same (map model units) k (model y) (omega (arith, length-map units model)))
      ∙ ap (slice_get (slice_set (map model units) k (model y))) (sym same) ∙ there) in (
        model (slice_index_or units k d),
        ap (slice_get (map model units)) same
            ∙ model_there units k d within,
        subst (IsKept (model (slice_index_or units k d))) is_v h,
      )
  kept_at units k d y within h i v (no apart) there =
      (v, sym (get_set_other (map model units) k i (model y) apart) ∙ there, record { shape = refl; armed = refl; fits = λ f. f })

  pub kept_step : (units : List U) (k : ℕ) (d y : U) (chunk : ℕ) (command : ChunkCommand) (outcome : UnitOutcome)
      → IsTaken (map model units) (record { unit = k; chunk = chunk; command = command })
      → Steps (model (slice_index_or units k d)) chunk command outcome (model y)
      → (IsFitUnit (model (slice_index_or units k d)) → IsFitUnit (model y)) → AreKept (map model units) (map model (slice_set units k y))
  kept_step units k d y chunk command outcome taken h fits =
      let within : k < length units = taken_within units (record { unit = k; chunk = chunk; command = command }) taken in
      rw (map-set model units k y) (record {
        count = length-set (map model units) k (model y);
        each = λ i v. kept_at units k d y within (record { shape = h.shape; armed = h.armed; fits = fits }) i v (ℕ_discrete i k);
      })

module _ {U : Type 0} (model : U → ModelUnit) where
  -- a step of the unit at a place, whose sectors have this length
  pub sized_step : (units : List U) (k size : ℕ) (d y : U) (chunk at : ℕ) (bytes : List ℕ) (marks : List Mark) (c : UnitCommand) (outcome : UnitOutcome)
      → c.unit ≡ k
      → ((i : ℕ) (u : ModelUnit) → slice_get (map model units) i ≡ Some u → u.shape.sector ≡ size) → IsTaken (map model units) c
      → Steps (model (slice_index_or units k d)) chunk (Write at (blocks_of (model (slice_index_or units k d)).shape.sector bytes marks)) outcome (model y)
      → Steps (model (slice_index_or units k d)) chunk (Write at (blocks_of size bytes marks)) outcome (model y)
  sized_step units k size d y chunk at bytes marks c outcome is sizes taken h =
      let within : k < length units = subst (λ n. n < length units) is (taken_within model units c taken) in
      subst (λ n. Steps (model (slice_index_or units k d)) chunk (Write at (blocks_of n bytes marks)) outcome (model y))
      (sizes k (model (slice_index_or units k d)) (model_there model units k d within)) h

pub kept_none : (units : List ModelUnit) → AreKept units units
kept_none units = record { count = refl; each = λ i v there. (v, there, record { shape = refl; armed = refl; fits = λ f. f }) }

pub kept_more : (old mid new : List ModelUnit) → AreKept old mid → AreKept mid new → AreKept old new
kept_more old mid new h k = record {
  count = k.count ∙ h.count;
  each = λ i v there. let b = k.each i v there in
      let a = h.each i b.0 b.1 in
      (a.0, a.1, record { shape = b.2.shape ∙ a.2.shape; armed = b.2.armed ∙ a.2.armed; fits = λ f. b.2.fits (a.2.fits f) });
}

-- A command that may be given may still be given after an event of another chunk, and after a read.

-- the event is none of the command's chunk, or a read
pub data Spares (e : EventAt) (c : UnitCommand) : Type 0 where
  apart : (e.unit ≡ c.unit → e.event.chunk ≡ c.chunk → ⊥) → Spares e c
  only_reads : (b : ℕ) → e.event.command ≡ Read b → Spares e c

any_more : {A : Type 0} (p : A → Bool) (n : ℕ) (xs ys : List A) → list_any p (drop n xs) ≡ true → list_any p (drop n (xs ++ ys)) ≡ true
any_more p zero xs ys h = list_any-append p xs ys ∙ ap (λ b. b || list_any p ys) h
any_more p (suc n) [] ys h = absurd (false≢true h)
any_more p (suc n) (x ∷ xs) ys h = any_more p n xs ys h

pub stays_stopped : (u : ModelUnit) (e : UnitEvent) → IsStopped u → IsStopped (with_event u e)
stays_stopped u e h = any_more (λ (e : UnitEvent). is_stop e.outcome) u.armed.since u.log (e ∷ []) h

pub after_one_is : (units : List ModelUnit) (e : EventAt) (u : ModelUnit) → slice_get units e.unit ≡ Some u
    → after_one units e ≡ slice_set units e.unit (with_event u e.event)
after_one_is units e u there = ap (λ (o : Option ModelUnit). option_map_or (λ u. slice_set units e.unit (with_event u e.event)) o units) there

read_keeps : (s : Shape) (media : List Chunk) (e : UnitEvent) (b : ℕ) (c : Chunk) → slice_get media e.chunk ≡ Some c → e.command ≡ Read b
    → after_event s media e ≡ media
read_keeps s media e b c there is = after_event_is s media e c there
    ∙ ap (slice_set media e.chunk) (ap (λ command. after_outcome s c command e.outcome) is ∙ read_leaves s c b e.outcome) ∙ set_same media e.chunk c there

chunk_spared : (u : ModelUnit) (e : EventAt) (c : UnitCommand) (found : Chunk) → e.unit ≡ c.unit → Spares e c → IsEvent u.shape u.media e.event
    → slice_get u.media c.chunk ≡ Some found
    → slice_get (after_event u.shape u.media e.event) c.chunk ≡ Some found
chunk_spared u e c found same (apart not) event there =
    ap (λ m. slice_get m c.chunk) (after_event_is u.shape u.media e.event event.found event.there)
    ∙ get_set_other u.media e.event.chunk c.chunk (after_outcome u.shape event.found e.event.command e.event.outcome) (λ is. not same (sym is)) ∙ there
chunk_spared u e c found same (only_reads b is) event there = ap (λ m. slice_get m c.chunk) (read_keeps u.shape u.media e.event b event.found event.there is)
    ∙ there

takes_still : (u : ModelUnit) (e : EventAt) (c : UnitCommand) → e.unit ≡ c.unit → Spares e c → IsEvent u.shape u.media e.event → Takes u c.chunk c.command
    → Takes (with_event u e.event) c.chunk c.command
takes_still u e c same spares event t = record {
  found = t.found;
  there = chunk_spared u e c t.found same spares event t.there;
  taken = ⊎_elim (λ ready. inl ready) (λ stopped. inr (stays_stopped u e.event stopped)) t.taken;
}

still_at : (units : List ModelUnit) (e : EventAt) (c : UnitCommand) (u : ModelUnit) → slice_get units e.unit ≡ Some u → IsEvent u.shape u.media e.event
    → Spares e c → IsTaken units c → Dec (c.unit ≡ e.unit)
    → IsTaken (slice_set units e.unit (with_event u e.event)) c
still_at units e c u there event spares t (yes same) =
    let is_u : t.unit ≡ u = same_Some t.unit u (sym t.there ∙ ap (slice_get units) same ∙ there) in
    record {
      unit = with_event u e.event;
      there = ap (slice_get (slice_set units e.unit (with_event u e.event))) same
          ∙ get_set_same units e.unit (with_event u e.event) (slice_get_within units e.unit u there);
      takes = takes_still u e c (sym same) spares event (subst (λ (v : ModelUnit). Takes v c.chunk c.command) is_u t.takes);
    }
still_at units e c u there event spares t (no other) = record {
  unit = t.unit;
  there = get_set_other units e.unit c.unit (with_event u e.event) other ∙ t.there;
  takes = t.takes;
}

pub still_taken : (units : List ModelUnit) (e : EventAt) (c : UnitCommand) → IsNext units e → Spares e c → IsTaken units c → IsTaken (after_one units e) c
still_taken units e c h spares t = rw (after_one_is units e h.unit h.there) (still_at units e c h.unit h.there h.event spares t (ℕ_discrete c.unit e.unit))

-- what a program or a reset tells

pub told_lost : (r : Result (Unit {0}) UnitErr) (o : UnitOutcome) → TellsDone r o → is_err r ≡ failed_or_stopped o
told_lost (Ok done) o h = ap failed_or_stopped (sym h)
told_lost (Err errors.Failed) o h = ap failed_or_stopped (sym h.1)
told_lost (Err errors.Stopped) o h = ap failed_or_stopped (sym h.1)

-- where it answered, it neither failed nor was stopped
pub told_quiet : (r : Result (Unit {0}) UnitErr) (o : UnitOutcome) → TellsDone r o → IsOk r → (is_fail o ≡ false) × (is_stop o ≡ false)
told_quiet (Ok done) o h ok = (ap is_fail h, ap is_stop h)
told_quiet (Err e) o h ok = cc

pub block_quiet : (before after : List ℕ) (r : Result Got UnitErr) (o : UnitOutcome) → TellsBlock before after r o → IsOk r
    → (is_fail o ≡ false) × (is_stop o ≡ false)
block_quiet before after (Ok (got.Sector mark)) o h ok = (ap is_fail h, ap is_stop h)
block_quiet before after (Ok got.Empty) o h ok = (ap is_fail h.0, ap is_stop h.0)
block_quiet before after (Err e) o h ok = cc

pub told_not_empty : (r : Result (Unit {0}) UnitErr) (o : UnitOutcome) → TellsDone r o → is_empty o ≡ false
told_not_empty (Ok done) o h = ap is_empty h
told_not_empty (Err errors.Failed) o h = ap is_empty h.1
told_not_empty (Err errors.Stopped) o h = ap is_empty h.1
