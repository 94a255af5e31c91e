-- Which commands of a padding and of a scan were lost.
use Rattle.std.proofs.Common.{◌≡◌, ◌⊎◌, inl, inr, ℕ, suc, ◌+◌, ◌-◌, ◌<◌, ◌≤◌, ◌==◌, ◌||◌, ◌&&◌, Bool, true, false, Some, List, [], ◌∷◌, ◌++◌, length, length-append, refl, sym, subst, ap, ◌∙◌, arith, if◌then◌else◌}
use Rattle.std.specs.Prelude.{slice_get}
use Rattle.std.specs.List.{AllByRecursion}
use Rattle.std.proofs.lemmas.Bool.{cases_lt}
use Rattle.std.proofs.lemmas.Option.{same_Some, slice_get_within}
use Rattle.pblk_model.specs.declared.shape.Shape.{Shape}
use Rattle.pblk_model.specs.Chunk.{Block}
use Rattle.pblk_model.specs.ChunkStep.{ChunkCommand, Write, Read}
use Rattle.pblk_model.specs.UnitLog.{UnitEvent, UnitOutcome, Answered, Failed, Stopped}
use Rattle.unit_port.specs.Armed.{is_fail, is_stop}
use Rattle.unit_port.specs.Unit.{ModelUnit}
use Rattle.unit_port.specs.Commands.{EventAt, AreKept, IsKept, after_one, after_all, events_of}
use Rattle.unit_port.specs.Did.{failed_or_stopped}
use Rattle.scan_recovery.specs.Fetches.{IsGood}
use Rattle.scan_recovery.specs.DriveFaults.{IsDriveFault, IsDriveFaultAt, NoDriveFaults, is_fetch, is_drive_fault}
use Rattle.scan_recovery.specs.Pads.{ArePads, IsQuiet}
use Rattle.scan_recovery.specs.Units.{IsLastEvent}
use Rattle.scan_recovery.proofs.UnitLogs.{all_own, grown_after, some_own}
use Rattle.pblk_model.proofs.Parts.{all_at, get_first, get_right}
use Rattle.pblk_model.proofs.Tests.{and_refused, or_left, or_no, same}

abbrev pub WasDone : EventAt → Type 0
WasDone e = is_drive_fault e.event ≡ false

-- ---- one command

pad_done : (command : ChunkCommand) (outcome : UnitOutcome) (at : ℕ) (blocks : List Block) → command ≡ Write at blocks → is_stop outcome ≡ false
    → (is_stop outcome || (is_fetch command && is_fail outcome)) ≡ false
pad_done command outcome at blocks is quiet =
    ap (λ (x : ChunkCommand). is_stop outcome || (is_fetch x && is_fail outcome)) is ∙ or_no (is_stop outcome) ∙ quiet

fetch_done : (command : ChunkCommand) (outcome : UnitOutcome) → failed_or_stopped outcome ≡ false
    → (is_stop outcome || (is_fetch command && is_fail outcome)) ≡ false
fetch_done command (Answered answer) good = and_refused (is_fetch command)
fetch_done command (Failed k) good = absurd cc
fetch_done command (Stopped k) good = absurd cc

pub fetch_lost : (command : ChunkCommand) (outcome : UnitOutcome) (block : ℕ) → command ≡ Read block → failed_or_stopped outcome ≡ true
    → (is_stop outcome || (is_fetch command && is_fail outcome)) ≡ true
fetch_lost command (Answered answer) block is lost = absurd cc
fetch_lost command (Failed k) block is lost = ap (λ (x : ChunkCommand). is_fetch x && true) is
fetch_lost command (Stopped k) block is lost = refl

pub stop_lost : (e : UnitEvent) → is_stop e.outcome ≡ true → is_drive_fault e ≡ true
stop_lost e stopped = or_left (is_stop e.outcome) (is_fetch e.command && is_fail e.outcome) stopped

-- ---- several

pub pads_done : (s : Shape) (us : List ModelUnit) (events : List EventAt) → ArePads s us events → AllByRecursion IsQuiet events
    → AllByRecursion WasDone events
pads_done s us [] pads quiet = tt
pads_done s us (e ∷ events) pads quiet =
    (pad_done e.event.command e.event.outcome _ _ pads.0.command quiet.0, pads_done s (after_one us e) events pads.2 quiet.1)

-- those before the last one
pub pads_front : (s : Shape) (us : List ModelUnit) (front more : List EventAt) → ArePads s us (front ++ more) → ArePads s us front
pads_front s us [] more pads = tt
pads_front s us (e ∷ front) more pads = (pads.0, pads.1, pads_front s (after_one us e) front more pads.2)

pub fetches_done : (events : List EventAt) → AllByRecursion IsGood events → AllByRecursion WasDone events
fetches_done [] good = tt
fetches_done (e ∷ events) good = (fetch_done e.event.command e.event.outcome good.0, fetches_done events good.1)

-- ---- what becomes of the units

pub none_lost : (old new : List ModelUnit) (events : List EventAt) → new ≡ after_all old events → AllByRecursion WasDone events → NoDriveFaults old new
none_lost old new events is done = λ number u v there after.
    let grown = grown_after events old number u v there (ap (λ (us : List ModelUnit). slice_get us number) (sym is) ∙ after) in
    subst (AllByRecursion (λ (e : UnitEvent). is_drive_fault e ≡ false)) (sym grown.1)
    (all_own (λ (e : UnitEvent). is_drive_fault e ≡ false) number events done)

-- of each unit the last event alone may have been lost
events_split : (unit : ℕ) (front : List EventAt) (last : EventAt)
    → events_of unit (front ++ last ∷ []) ≡ events_of unit front ++ (if last.unit == unit then last.event ∷ [] else [])
events_split unit [] last = refl
events_split unit (e ∷ front) last = go (e.unit == unit) (events_split unit front last)
  where
    go : (own : Bool) → events_of unit (front ++ last ∷ []) ≡ events_of unit front ++ (if last.unit == unit then last.event ∷ [] else [])
        → (if own then e.event ∷ events_of unit (front ++ last ∷ []) else events_of unit (front ++ last ∷ []))
        ≡ (if own then e.event ∷ events_of unit front else events_of unit front) ++ (if last.unit == unit then last.event ∷ [] else [])
    go true rest = ap (λ (es : List UnitEvent). e.event ∷ es) rest
    go false rest = rest

module _ (front : List EventAt) (last : EventAt) (done : AllByRecursion WasDone front) (unit : ℕ) where
  -- an event that was lost comes after those of the unit that were done
  at_end : (k : ℕ) (e : UnitEvent) → slice_get (events_of unit (front ++ last ∷ [])) k ≡ Some e → is_drive_fault e ≡ true
      → (unit ≡ last.unit) × (suc k ≡ length (events_of unit (front ++ last ∷ [])))
  at_end k e there lost = by (last.unit == unit) refl
    where
      own : List UnitEvent
      own = events_of unit front

      late : length (events_of unit front) ≤ k
      late = go (cases_lt k (length (events_of unit front)))
        where
          go : (k < length (events_of unit front)) ⊎ (length (events_of unit front) ≤ k) → length (events_of unit front) ≤ k
          go (inl low) =
              let early : slice_get (events_of unit front) k ≡ Some e =
              sym (get_first (events_of unit front) (if last.unit == unit then last.event ∷ [] else []) k low)
              ∙ ap (λ (es : List UnitEvent). slice_get es k) (sym (events_split unit front last)) ∙ there in
              let kept : is_drive_fault e ≡ false = all_at (λ (x : UnitEvent). is_drive_fault x ≡ false) (events_of unit front) k e early
              (all_own (λ (x : UnitEvent). is_drive_fault x ≡ false) unit front done) in
              absurd cc
          go (inr high) = high

      low : k < length (events_of unit (front ++ last ∷ []))
      low = slice_get_within (events_of unit (front ++ last ∷ [])) k e there

      long : (b : Bool) → (last.unit == unit) ≡ b → length (events_of unit (front ++ last ∷ [])) ≡ length (events_of unit front) + (if b then 1 else 0)
      long b is = ap (λ (es : List UnitEvent). length es) (events_split unit front last)
          ∙ length-append (events_of unit front) (if last.unit == unit then last.event ∷ [] else [])
          ∙ ap (λ n. length (events_of unit front) + n) (ap (λ own. length (if own then last.event ∷ [] else [])) is ∙ counted b)
        where
          counted : (b : Bool) → length (if b then last.event ∷ [] else []) ≡ (if b then 1 else 0)
          counted true = refl
          counted false = refl

      by : (b : Bool) → (last.unit == unit) ≡ b → (unit ≡ last.unit) × (suc k ≡ length (events_of unit (front ++ last ∷ [])))
      by true is = (sym (same last.unit unit is), (let n = long true is in omega (arith, late, low)))
      by false is = absurd (let n = long false is in omega (arith, late, low))

pub lost_at : (old new : List ModelUnit) (front : List EventAt) (last : EventAt) (unit number : ℕ) → AreKept old new
    → new ≡ after_all old (front ++ last ∷ []) → AllByRecursion WasDone front → last.unit ≡ unit → is_drive_fault last.event ≡ true
    → IsLastEvent new unit number last.event → IsDriveFaultAt old new unit number
lost_at old new front last unit number kept is done same_unit lost ends = record {
  event = last.event;
  last = ends;
  lost = lost;
  earlier = was.0;
  there = was.1;
  since = omega (arith, long unit was.0 ends.of (logs unit was.0 ends.of was.1 ends.there), some);
  only = only;
}
  where
    was : (u : ModelUnit) × (slice_get old unit ≡ Some u) × IsKept u ends.of
    was = kept.each unit ends.of ends.there

    some : 0 < length (events_of unit (front ++ last ∷ []))
    some = some_own front last unit same_unit

    logs : (k : ℕ) (u v : ModelUnit) → slice_get old k ≡ Some u → slice_get new k ≡ Some v → v.log ≡ u.log ++ events_of k (front ++ last ∷ [])
    logs k u v before after =
        (grown_after (front ++ last ∷ []) old k u v before (ap (λ (us : List ModelUnit). slice_get us k) (sym is) ∙ after)).0

    long : (k : ℕ) (u v : ModelUnit) → v.log ≡ u.log ++ events_of k (front ++ last ∷ [])
        → length v.log ≡ length u.log + length (events_of k (front ++ last ∷ []))
    long k u v log = ap (λ (es : List UnitEvent). length es) log ∙ length-append u.log (events_of k (front ++ last ∷ []))

    only : (other index : ℕ) → IsDriveFault old new other index → (other ≡ unit) × (suc index ≡ length ends.of.log)
    only other index loss =
        let log : loss.after.log ≡ loss.before.log ++ events_of other (front ++ last ∷ []) = logs other loss.before loss.after loss.was loss.there in
        let past : length loss.before.log ≤ index = loss.since in
        let at : length loss.before.log + (index - length loss.before.log) ≡ index = omega arith in
        let here : slice_get (events_of other (front ++ last ∷ [])) (index - length loss.before.log) ≡ Some loss.event =
        sym (get_right loss.before.log (events_of other (front ++ last ∷ [])) (index - length loss.before.log))
        ∙ ap (slice_get (loss.before.log ++ events_of other (front ++ last ∷ []))) at
        ∙ ap (λ (es : List UnitEvent). slice_get es index) (sym log) ∙ loss.at in
        let ended = at_end front last done other (index - length loss.before.log) loss.event here loss.lost in
        let one : other ≡ unit = ended.0 ∙ same_unit in
        let whole : length loss.after.log ≡ length loss.before.log + length (events_of other (front ++ last ∷ [])) = long other loss.before loss.after log in
        let it : loss.after ≡ ends.of = same_Some loss.after ends.of (sym loss.there ∙ ap (slice_get new) one ∙ ends.there) in
        let as_long : length loss.after.log ≡ length ends.of.log = ap (λ (u : ModelUnit). length u.log) it in
        (one, omega (arith, past, at, ended.1, whole, as_long))
