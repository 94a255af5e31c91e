-- The events that lines name: each is of a command that was lost, and no two are the same as far as
-- their numbers tell.
use Rattle.std.proofs.Common.{◌≡◌, ◌≢◌, ℕ, ◌+◌, ◌-◌, ◌^◌, ◌<◌, Bool, true, false, cond, List, [], ◌∷◌, length, map, min, slice_get, refl, sym, ap, subst, ◌∙◌, arith}
use Rattle.std.specs.List.{AllByRecursion, filter}
use Rattle.std.proofs.lemmas.List.{length-append}
use borrow.Author.Tests.{ltb-true}
use Rattle.pblk_model.specs.Transcript.{IsDistinct, is_of_one}
use Rattle.pblk_model.specs.UnitLog.{UnitEvent}
use Rattle.unit_port.specs.Unit.{ModelUnit}
use Rattle.scan_recovery.specs.DriveFaults.{IsDriveFaultAt}
use Rattle.pblk_cli.specs.Serving.{AreNewDriveFaults}
use Rattle.pblk_cli.specs.Stops.{name_at}
use Rattle.pblk_model.proofs.Parts.{get_last}

-- Names that are distinct.

-- a name whose number doesn't stand still is of one place
one_place : (p q : ℕ × ℕ) → is_of_one (name_at p) ≡ true → name_at q ≡ name_at p → q ≡ p
one_place p q small same =
    let low : min (p.1 + 1) (2 ^ 64 - 1) < 2 ^ 64 - 1 = ltb-true _ _ small in
    let unit : q.0 ≡ p.0 = ap (λ (x : ℕ × ℕ). x.0) same in
    let number : min (q.1 + 1) (2 ^ 64 - 1) ≡ min (p.1 + 1) (2 ^ 64 - 1) = ap (λ (x : ℕ × ℕ). x.1) same in
    let event : q.1 ≡ p.1 = omega arith in
    λ j. (unit j, event j)

-- those of other places are others
apart : (p : ℕ × ℕ) (ps : List (ℕ × ℕ)) → is_of_one (name_at p) ≡ true → AllByRecursion (λ other. other ≢ p) ps
    → AllByRecursion (λ other. other ≢ name_at p) (filter is_of_one (map name_at ps))
apart p [] small others = tt
apart p (q ∷ ps) small others = go (is_of_one (name_at q)) (apart p ps small others.1)
  where
    go : (b : Bool) → AllByRecursion (λ other. other ≢ name_at p) (filter is_of_one (map name_at ps))
        → AllByRecursion (λ other. other ≢ name_at p) (cond b (name_at q ∷ filter is_of_one (map name_at ps)) (filter is_of_one (map name_at ps)))
    go true rest = ((λ same. others.0 (one_place p q small same)), rest)
    go false rest = rest

names_distinct : (ps : List (ℕ × ℕ)) → IsDistinct ps → IsDistinct (filter is_of_one (map name_at ps))
names_distinct [] h = tt
names_distinct (p ∷ ps) h = go (is_of_one (name_at p)) refl (names_distinct ps h.1)
  where
    go : (b : Bool) → is_of_one (name_at p) ≡ b → IsDistinct (filter is_of_one (map name_at ps))
        → IsDistinct (cond b (name_at p ∷ filter is_of_one (map name_at ps)) (filter is_of_one (map name_at ps)))
    go true small rest = (apart p ps small h.0, rest)
    go false large rest = rest

pub losses_distinct : (handed units : List ModelUnit) (names : List (ℕ × ℕ)) → AreNewDriveFaults handed units names → IsDistinct (filter is_of_one names)
losses_distinct handed units names h = subst (λ xs. IsDistinct (filter is_of_one xs)) (sym h.names_are) (names_distinct h.places h.distinct)

-- What an opening answered.

pub loss_at : (old new : List ModelUnit) (unit event : ℕ) → IsDriveFaultAt old new unit event → AreNewDriveFaults old new ((unit, event) ∷ [])
loss_at old new unit event h =
    let long : length h.last.of.log ≡ length h.last.front + 1 = ap (λ (log : List UnitEvent). length log) h.last.log
    ∙ length-append h.last.front (h.event ∷ []) in
    record {
      places = (unit, length h.last.front) ∷ [];
      names_are = ap (λ n. (unit, n) ∷ []) (h.last.number_is ∙ ap (λ n. min n (2 ^ 64 - 1)) long);
      each = (
        record {
          before = h.earlier;
          was = h.there;
          since = (let more : length h.earlier.log < length h.last.of.log = h.since in omega arith);
          unit = h.last.of;
          there = h.last.there;
          event = h.event;
          event_is = ap (λ (log : List UnitEvent). slice_get log (length h.last.front)) h.last.log ∙ get_last h.last.front h.event;
          lost = h.lost;
        },
        tt,
      );
      distinct = (tt, tt);
    }
