-- What units' logs grew by of a line's chunks.
use Rattle.std.proofs.Common.{◌≡◌, ℕ, ◌+◌, ◌≤◌, ◌==◌, zero, suc, Bool, true, false, cond, Some, Option, List, [], ◌∷◌, length, refl, sym, ap, ◌∙◌, subst, arith, length-append}
use Rattle.std.specs.Prelude.{⊤, drop, slice_get, slice_set}
use Rattle.std.specs.List.{filter}
use Rattle.std.proofs.lemmas.List.{drop-append-le}
use Rattle.std.proofs.lemmas.List.Elements.{filter-append}
use Rattle.std.proofs.lemmas.Option.{none-some, same_Some}
use Rattle.pblk_model.specs.declared.shape.Shape.{Shape}
use Rattle.pblk_model.specs.UnitLog.{UnitEvent}
use Rattle.pblk_model.proofs.Parts.{drop_past}
use Rattle.unit_port.specs.Unit.{ModelUnit}
use Rattle.unit_port.specs.Commands.{EventAt, AreNext, IsNext, with_event, after_one, after_all}
use Rattle.unit_port.proofs.Units.{after_one_is}
use Rattle.scan_recovery.specs.declared.error.ScanErr.{ScanErr}
use Rattle.scan_recovery.specs.DriveFaults.{grown_by}
use Rattle.scan_recovery.specs.Fetches.{IsScanned, WereFewFetched, count_of, line_growth, most_fetches}
use Rattle.scan_recovery.specs.Units.{image_of}

-- each log is at least as long as that of the unit before
Longer : List ModelUnit → List ModelUnit → Type 0
Longer [] us = ⊤
Longer (o ∷ olds) [] = ⊤
Longer (o ∷ olds) (u ∷ us) = (length o.log ≤ length u.log) × Longer olds us

longer_same : (us : List ModelUnit) → Longer us us
unfolding Longer
longer_same [] = tt
longer_same (u ∷ us) = (omega arith, longer_same us)

longer_set : (olds us : List ModelUnit) (k : ℕ) (u : ModelUnit) (e : UnitEvent) → Longer olds us → slice_get us k ≡ Some u
    → Longer olds (slice_set us k (with_event u e))
unfolding Longer
longer_set [] us k u e h there = tt
longer_set (o ∷ olds) [] k u e h there = absurd (none-some u there)
longer_set (o ∷ olds) (x ∷ us) zero u e h there =
    let same = ap (λ (v : ModelUnit). length v.log) (same_Some x u there) in
    let more = length-append u.log (e ∷ []) in
    (let low = h.0 in omega arith, h.1)
longer_set (o ∷ olds) (x ∷ us) (suc k) u e h there = (h.0, longer_set olds us k u e h.1 there)

-- one event more
grown_set : (line : ℕ) (olds us : List ModelUnit) (k : ℕ) (u : ModelUnit) (e : UnitEvent) → Longer olds us → slice_get us k ≡ Some u
    → line_growth line olds (slice_set us k (with_event u e)) ≤ line_growth line olds us + length (filter (λ e. e.chunk == line) (e ∷ []))
unfolding Longer
grown_set line [] us k u e h there = omega arith
grown_set line (o ∷ olds) [] k u e h there = absurd (none-some u there)
grown_set line (o ∷ olds) (x ∷ us) zero u e h there =
    let same : x ≡ u = same_Some x u there in
    let low : length o.log ≤ length u.log = subst (λ (v : ModelUnit). length o.log ≤ length v.log) same h.0 in
    let p : UnitEvent → Bool = λ e. e.chunk == line in
    let more = ap (λ es. length (filter p es)) (drop-append-le (length o.log) u.log (e ∷ []) low)
    ∙ ap length (filter-append p (drop (length o.log) u.log) (e ∷ []))
    ∙ length-append (filter p (drop (length o.log) u.log)) (filter p (e ∷ [])) in
    let was = ap (λ (v : ModelUnit). length (filter p (grown_by o v))) same in
    omega arith
grown_set line (o ∷ olds) (x ∷ us) (suc k) u e h there = let rest = grown_set line olds us k u e h.1 there in omega arith

grown_all : (line : ℕ) (olds us : List ModelUnit) (events : List EventAt) → Longer olds us → AreNext us events
    → line_growth line olds (after_all us events) ≤ line_growth line olds us + count_of line events
grown_all line olds us [] h next = omega arith
grown_all line olds us (e ∷ events) h next =
    let n : IsNext us e = next.0 in
    let is : after_one us e ≡ slice_set us e.unit (with_event n.unit e.event) = after_one_is us e n.unit n.there in
    let longer : Longer olds (after_one us e) = subst (Longer olds) (sym is) (longer_set olds us e.unit n.unit e.event h n.there) in
    let one = grown_set line olds us e.unit n.unit e.event h n.there in
    let here = ap (line_growth line olds) is in
    let rest = grown_all line olds (after_one us e) events longer next.1 in
    let both = both_of e events in
    omega arith
  where
    both_of : (e : EventAt) (events : List EventAt) → count_of line (e ∷ events) ≡ length (filter (λ e. e.chunk == line) (e.event ∷ [])) + count_of line events
    both_of e events = by (e.event.chunk == line) where
      by : (b : Bool) → length (cond b (e ∷ filter (λ (e : EventAt). e.event.chunk == line) events) (filter (λ (e : EventAt). e.event.chunk == line) events))
          ≡ length (cond b (e.event ∷ []) []) + count_of line events
      by true = omega arith
      by false = omega arith

grown_none : (line : ℕ) (us : List ModelUnit) → line_growth line us us ≡ 0
grown_none line [] = refl
grown_none line (u ∷ us) =
    let none = ap (λ es. length (filter (λ (e : UnitEvent). e.chunk == line) es)) (drop_past u.log (length u.log) (omega arith)) in
    let rest = grown_none line us in
    omega arith

-- what was fetched of a line is all that its chunks' units have more
pub scanned : (s : Shape) (old new : List ModelUnit) (o : Option ScanErr) → WereFewFetched s old new o (most_fetches (image_of s old))
    → IsScanned (image_of s old) old new
scanned s old new o (events, h, few) line =
    let all = grown_all line old old events (longer_same old) h.next in
    let none = grown_none line old in
    let same = ap (line_growth line old) h.units in
    let most = few line in
    omega arith
