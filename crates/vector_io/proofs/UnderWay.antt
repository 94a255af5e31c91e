-- Commands of a plan that are given one after another.
use Rattle.std.proofs.Common.{ℕ, ◌+◌, ◌<◌, ◌≤◌, ◌≡◌, Bool, false, List, [], ◌∷◌, ◌++◌, length, take, replicate, slice_get, Some, refl, sym, ap, ◌∙◌, subst, arith, add-one, append-nil}
use Rattle.std.proofs.lemmas.Grind.{flat_map-append}
use Rattle.std.proofs.lemmas.List.{map-append, length-append, length-replicate}
use Rattle.std.proofs.lemmas.List.Sums.{fold-append}
use Rattle.pblk_model.specs.UnitLog.{UnitOutcome}
use Rattle.unit_port.specs.Unit.{ModelUnit}
use Rattle.unit_port.specs.Commands.{UnitCommand, EventAt, command_of, after_one, after_all, IsNext, AreNext, Ran, AreKept, IsTaken, AreTaken}
use Rattle.unit_port.specs.Did.{Did, failed_or_stopped, is_empty}
use Rattle.vector_io.specs.Status.{width, flags, HasBits, Answers}
use Rattle.vector_io.proofs.Bits.{no_bits, bit_unset}
use Rattle.unit_port.proofs.Units.{kept_none, kept_more, Spares, still_taken}
use Rattle.pblk_model.proofs.Parts.{take_all, take_next}

-- The first n commands of a plan are done, which were of so many addresses, and became these events; these bits tell of
-- them, and the rest of the plan can be done.
pub record IsUnderWayBy (old : List ModelUnit) (plan : List UnitCommand) (n at failed empty : ℕ) (events : List EventAt) (units : List ModelUnit) : Type 0 where
  pub ran : Ran old (take n plan) events units
  pub left : (k : ℕ) (c : UnitCommand) → n ≤ k → slice_get plan k ≡ Some c → IsTaken units c
  pub count : (test : UnitOutcome → Bool) → length (flags test events) ≡ at
  pub lost : HasBits failed (flags failed_or_stopped events)
  pub unreadable : HasBits empty (flags is_empty events)
  pub kept : AreKept old units

-- the same by some events
pub record IsUnderWay (old : List ModelUnit) (plan : List UnitCommand) (n at failed empty : ℕ) (units : List ModelUnit) : Type 0 where
  pub events : List EventAt
  pub by : IsUnderWayBy old plan n at failed empty events units

pub none_done_by : (old : List ModelUnit) (plan : List UnitCommand) → AreTaken old plan → IsUnderWayBy old plan 0 0 0 0 [] old
none_done_by old plan taken = record {
  ran = record { same = refl; next = tt; units = refl };
  left = λ k c from there. taken k c there;
  count = λ test. refl;
  lost = no_bits;
  unreadable = no_bits;
  kept = kept_none old;
}

pub none_done : (old : List ModelUnit) (plan : List UnitCommand) → AreTaken old plan → IsUnderWay old plan 0 0 0 0 old
none_done old plan taken = record { events = []; by = none_done_by old plan taken }

next_more : (units : List ModelUnit) (events : List EventAt) (e : EventAt) → AreNext units events → IsNext (after_all units events) e
    → AreNext units (events ++ e ∷ [])
next_more units [] e h n = (n, tt)
next_more units (x ∷ events) e h n = (h.0, next_more (after_one units x) events e h.1 n)

flags_more : (test : UnitOutcome → Bool) (events : List EventAt) (e : EventAt)
    → flags test (events ++ e ∷ []) ≡ flags test events ++ replicate (width e.event.command) (test e.event.outcome)
flags_more test events e = flat_map-append (λ (e : EventAt). replicate (width e.event.command) (test e.event.outcome)) events (e ∷ [])
    ∙ ap (λ fs. flags test events ++ fs) (append-nil _)

-- what the number of bits becomes with those of one more command
abbrev pub BitsMore : ℕ → ℕ → ℕ → ℕ → Bool → Type 0
BitsMore at n more count set = (flags : List Bool) → length flags ≡ at → HasBits n flags → HasBits more (flags ++ replicate count set)

bits_more : (test : UnitOutcome → Bool) (events : List EventAt) (e : EventAt) (at n more count : ℕ) → length (flags test events) ≡ at
    → width e.event.command ≡ count → BitsMore at n more count (test e.event.outcome)
    → HasBits n (flags test events) → HasBits more (flags test (events ++ e ∷ []))
bits_more test events e at n more count len is step h =
    rw (flags_more test events e) (subst (λ k. HasBits more (flags test events ++ replicate k (test e.event.outcome))) (sym is)
    (step (flags test events) len h))

count_more : (test : UnitOutcome → Bool) (events : List EventAt) (e : EventAt) (at count : ℕ) → length (flags test events) ≡ at → width e.event.command ≡ count
    → length (flags test (events ++ e ∷ [])) ≡ at + count
count_more test events e at count len is =
    ap length (flags_more test events e) ∙ length-append (flags test events) (replicate (width e.event.command) (test e.event.outcome))
    ∙ omega (arith, len, is, length-replicate (width e.event.command) (test e.event.outcome))

pub one_done_by : (old : List ModelUnit) (plan : List UnitCommand) (n at failed empty : ℕ) (events : List EventAt) (units : List ModelUnit) (c : UnitCommand)
    (e : EventAt) (new : List ModelUnit) (failed' empty' count : ℕ)
    → IsUnderWayBy old plan n at failed empty events units → slice_get plan n ≡ Some c → Did units c e new → AreKept units new
    → ((k : ℕ) (d : UnitCommand) → n < k → slice_get plan k ≡ Some d → Spares e d)
    → width c.command ≡ count → BitsMore at failed failed' count (failed_or_stopped e.event.outcome) → BitsMore at empty empty' count (is_empty e.event.outcome)
    → IsUnderWayBy old plan (n + 1) (at + count) failed' empty' (events ++ e ∷ []) new
one_done_by old plan n at failed empty events units c e new failed' empty' count h there did kept spares wide lost unreadable =
    let wide_e : width e.event.command ≡ count = ap (λ (c : UnitCommand). width c.command) did.command ∙ wide in
    record {
      ran = record {
        same = map-append command_of events (e ∷ []) ∙ ap (λ cs. cs ++ command_of e ∷ []) h.ran.same
            ∙ ap (λ (d : UnitCommand). take n plan ++ d ∷ []) did.command ∙ sym (rw add-one (take_next plan n c there));
        next = next_more old events e h.ran.next (subst (λ us. IsNext us e) h.ran.units did.next);
        units = did.units ∙ ap (λ us. after_one us e) h.ran.units ∙ sym (fold-append after_one old events (e ∷ []));
      };
      left = λ k d from at_k. rw did.units (still_taken units e d did.next (spares k d (omega arith) at_k) (h.left k d (omega arith) at_k));
      count = λ test. count_more test events e at count (h.count test) wide_e;
      lost = bits_more failed_or_stopped events e at failed failed' count (h.count failed_or_stopped) wide_e lost h.lost;
      unreadable = bits_more is_empty events e at empty empty' count (h.count is_empty) wide_e unreadable h.unreadable;
      kept = kept_more old units new h.kept kept;
    }

pub one_done : (old : List ModelUnit) (plan : List UnitCommand) (n at failed empty : ℕ) (units : List ModelUnit) (c : UnitCommand) (e : EventAt)
    (new : List ModelUnit) (failed' empty' count : ℕ)
    → IsUnderWay old plan n at failed empty units → slice_get plan n ≡ Some c → Did units c e new → AreKept units new
    → ((k : ℕ) (d : UnitCommand) → n < k → slice_get plan k ≡ Some d → Spares e d)
    → width c.command ≡ count → BitsMore at failed failed' count (failed_or_stopped e.event.outcome) → BitsMore at empty empty' count (is_empty e.event.outcome)
    → IsUnderWay old plan (n + 1) (at + count) failed' empty' new
one_done old plan n at failed empty units c e new failed' empty' count h there did kept spares wide lost unreadable = record {
  events = h.events ++ e ∷ [];
  by = one_done_by old plan n at failed empty h.events units c e new failed' empty' count h.by there did kept spares wide lost unreadable;
}

pub all_ran : (old : List ModelUnit) (plan : List UnitCommand) (n at failed empty : ℕ) (events : List EventAt) (units : List ModelUnit)
    → IsUnderWayBy old plan n at failed empty events units → length plan ≤ n → Ran old plan events units
all_ran old plan n at failed empty events units h all = record { same = h.ran.same ∙ take_all plan n all; next = h.ran.next; units = h.ran.units }

pub all_done : (old : List ModelUnit) (plan : List UnitCommand) (n at failed empty : ℕ) (units : List ModelUnit) → IsUnderWay old plan n at failed empty units
    → length plan ≤ n → Answers plan old (record { failed = failed; empty = empty }) units
all_done old plan n at failed empty units h all =
    (h.events, all_ran old plan n at failed empty h.events units h.by all, record { failed = h.by.lost; empty = h.by.unreadable })

-- one bit more, and one that isn't set
pub one_bit_more : (at n more : ℕ) (told set : Bool) → ((flags : List Bool) → length flags ≡ at → HasBits n flags → HasBits more (flags ++ told ∷ []))
    → told ≡ set → BitsMore at n more 1 set
one_bit_more at n more told set step is flags len h = subst (λ b. HasBits more (flags ++ b ∷ [])) is (step flags len h)

pub no_bit_more : (at n : ℕ) (set : Bool) → set ≡ false → BitsMore at n n 1 set
no_bit_more at n set is flags len h = rw is (bit_unset n flags h)
