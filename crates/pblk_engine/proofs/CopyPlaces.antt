-- The sector that a core copies next, where the search has come to it, and its place.
use Rattle.std.proofs.Common.{◌≡◌, ℕ, ◌<◌, ◌==◌, ◌&&◌, if◌then◌else◌, nat_lt, Bool, true, false, None, Some, Option, refl, sym, subst, ap, ap₂, ◌∙◌}
use Rattle.std.specs.Prelude.{not, slice_get}
use Rattle.std.specs.FinMap as fin
use Rattle.std.specs.Option.{option_map}
use Rattle.std.proofs.lemmas.Bool.{eqb-true}
use Rattle.std.proofs.lemmas.Option.{get_or_from_slice_get, none-some, same_Some}
use Rattle.pblk_model.specs.LineOrder.{line_order}
use Rattle.pblk_model.proofs.Tests.{and_both, below_of, both, lt_true, same_number}
use Rattle.pblk_layout.specs.Online.{units_in}
use Rattle.l2p_map.specs.declared.slot.Slot.{Slot}
use Rattle.l2p_map.specs.declared.slot.Slot.TheVariants.{Unwritten, Cached, Media}
use Rattle.pblk_core.specs.Collecting.{HasPassed, IsCopyReady}
use Rattle.pblk_core.specs.Copies.{copy_due, is_copying, searched_to}
use Rattle.pblk_core.specs.Named.{may_copy}
use Rattle.pblk_core.specs.declared.collecting.CopyJob.{CopyJob}
use Rattle.pblk_core.specs.declared.target_core.Core.{Core}
use Rattle.pblk_engine.specs.CopyPlaces.{at_place, copy_by, copy_from, copy_of, place_of}
use Rattle.pblk_engine.specs.declared.copying.CopyPlace.{CopyPlace}

-- what is named is a sector on the drive in the victim, with its place
record IsFrom (places : ℕ → ℕ → Option (ℕ × ℕ)) (its_line its_lba : ℕ) (its_slot : Option Slot) (of : CopyPlace) : Type 0 where
  line : of.job.line ≡ its_line
  lba : of.job.lba ≡ its_lba
  slot : its_slot ≡ Some (Media of.job.line of.job.at of.job.position)
  place : places of.job.line of.job.at ≡ Some (of.unit, of.block)

at_known : (job : CopyJob) (o : Option (ℕ × ℕ)) (of : CopyPlace) → option_map (at_place job) o ≡ Some of
    → (of.job ≡ job) × (o ≡ Some (of.unit, of.block))
at_known job None of is = absurd (none-some of is)
at_known job (Some place) of is =
    let same : at_place job place ≡ of = same_Some (at_place job place) of is in
    (ap (λ (x : CopyPlace). x.job) (sym same), ap (λ (x : CopyPlace). Some (x.unit, x.block)) same)

named_from : (place : ℕ → ℕ → Option (ℕ × ℕ)) (victim lba : ℕ) (slot : Option Slot) (of : CopyPlace) → copy_from place victim lba slot ≡ Some of
    → IsFrom place victim lba slot of
named_from place victim lba None of is = absurd (none-some of is)
named_from place victim lba (Some Unwritten) of is = absurd (none-some of is)
named_from place victim lba (Some (Cached position)) of is = absurd (none-some of is)
named_from place victim lba (Some (Media line at position)) of is = go (line == victim) refl is
  where
    job : CopyJob
    job = record { lba = lba; line = line; at = at; position = position }

    go : (t : Bool) → (line == victim) ≡ t → (if t then option_map (at_place job) (place line at) else None) ≡ Some of
        → IsFrom place victim lba (Some (Media line at position)) of
    go false apart named = absurd (none-some of named)
    go true same named =
        let known = at_known job (place line at) of named in
        record {
          line = ap (λ (j : CopyJob). j.line) known.0 ∙ eqb-true line victim same;
          lba = ap (λ (j : CopyJob). j.lba) known.0;
          slot = ap (λ (j : CopyJob). Some (Media j.line j.at j.position)) (sym known.0);
          place = ap (λ (j : CopyJob). place j.line j.at) known.0 ∙ known.1;
        }

-- where a copy may be begun, too
record IsBy (places : ℕ → ℕ → Option (ℕ × ℕ)) (begins : Bool) (its_line : Option ℕ) (its_lba : ℕ) (its_slot : Option Slot) (of : CopyPlace) : Type 0 where
  may : begins ≡ true
  victim : its_line ≡ Some of.job.line
  lba : of.job.lba ≡ its_lba
  slot : its_slot ≡ Some (Media of.job.line of.job.at of.job.position)
  place : places of.job.line of.job.at ≡ Some (of.unit, of.block)

named_by : (place : ℕ → ℕ → Option (ℕ × ℕ)) (may : Bool) (victim : Option ℕ) (lba : ℕ) (slot : Option Slot) (of : CopyPlace)
    → copy_by place may victim lba slot ≡ Some of → IsBy place may victim lba slot of
named_by place false victim lba slot of is = absurd (none-some of is)
named_by place true None lba slot of is = absurd (none-some of is)
named_by place true (Some line) lba slot of is =
    let from = named_from place line lba slot of is in
    record { may = refl; victim = ap (λ n. Some n) (sym from.line); lba = from.lba; slot = from.slot; place = from.place }

module _ (c : Core) (of : CopyPlace) (is : copy_of c ≡ Some of) where
  its : IsBy (place_of c) (may_copy c && nat_lt (searched_to c) c.layout.capacity) c.collection.victim (searched_to c) (fin.get c.map (searched_to c)) of
  its = named_by (place_of c) (may_copy c && nat_lt (searched_to c) c.layout.capacity) c.collection.victim (searched_to c)
      (fin.get c.map (searched_to c)) of is

  tests : (may_copy c ≡ true) × (nat_lt (searched_to c) c.layout.capacity ≡ true)
  tests = both (may_copy c) (nat_lt (searched_to c) c.layout.capacity) its.may

  idle : is_copying c ≡ false
  idle = go (is_copying c) (both (copy_due c) (not (is_copying c)) tests.0).1
    where
      go : (b : Bool) → not b ≡ true → b ≡ false
      go true e = absurd cc
      go false e = refl

  -- the core names it as the next copy
  pub ready_of : HasPassed c → IsCopyReady c of.job
  ready_of passed = record {
    due = (both (copy_due c) (not (is_copying c)) tests.0).0;
    idle = idle;
    at_work = its.victim;
    inside = subst (λ n. n < c.layout.capacity) (sym its.lba) (below_of (searched_to c) c.layout.capacity tests.1);
    there = ap (fin.get c.map) its.lba ∙ its.slot;
    first = λ lba at position below. passed lba of.job.line at position (subst (λ n. lba < n) its.lba below) its.victim;
  }

  pub place_is : place_of c of.job.line of.job.at ≡ Some (of.unit, of.block)
  place_is = its.place

-- what the core names is the sector to which the search has come
pub of_ready : (c : Core) (job : CopyJob) (place : ℕ × ℕ) → IsCopyReady c job → searched_to c ≡ job.lba → place_of c job.line job.at ≡ Some place
    → copy_of c ≡ Some (at_place job place)
of_ready c job place ready searched placed =
    ap₂ (λ b o. copy_by (place_of c) b o (searched_to c) (fin.get c.map (searched_to c))) may ready.at_work
    ∙ ap₂ (λ n o. copy_from (place_of c) job.line n o) searched (ap (fin.get c.map) searched ∙ ready.there)
    ∙ ap (λ b. if b then option_map (at_place job) (place_of c job.line job.at) else None) (same_number job.line)
    ∙ ap (option_map (at_place job)) placed
  where
    may : (may_copy c && nat_lt (searched_to c) c.layout.capacity) ≡ true
    may = and_both (may_copy c) (nat_lt (searched_to c) c.layout.capacity)
        (and_both (copy_due c) (not (is_copying c)) ready.due (ap not ready.idle))
        (lt_true (searched_to c) c.layout.capacity (subst (λ n. n < c.layout.capacity) (sym searched) ready.inside))

-- a place by the line's units, where the line has these
pub place_by : (c : Core) (line at online : ℕ) (place : ℕ × ℕ) → slice_get c.online.items line ≡ Some online
    → slice_get (line_order c.layout (units_in online)) at ≡ Some place → place_of c line at ≡ Some place
place_by c line at online place there is =
    ap (λ n. slice_get (line_order c.layout (units_in n)) at) (get_or_from_slice_get c.online.items line online 0 there) ∙ is
