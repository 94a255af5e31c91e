-- Where the commands stand that a worker lost in a world, and what lines name of them.
use Rattle.std.proofs.Common.{◌≡◌, ◌≢◌, ◌⊎◌, inl, inr, ℕ, zero, suc, ◌+◌, ◌-◌, ◌<◌, ◌≤◌, ◌==◌, Bool, true, false, cond, Some, Option, List, [], ◌∷◌, ◌++◌, length, map, refl, sym, subst, ap, ◌∙◌, arith}
use Rattle.std.specs.Prelude.{slice_get}
use Rattle.std.specs.List.{AllByRecursion, filter_map}
use Rattle.std.specs.Option.{option_map_or}
use Rattle.std.proofs.lemmas.Bool.{cases_lt}
use Rattle.std.proofs.lemmas.Option.{none-some, slice_get_within}
use Rattle.pblk_model.specs.Image.{Image}
use Rattle.pblk_model.specs.Shape.{units}
use Rattle.pblk_model.specs.Transcript.{IsDistinct}
use Rattle.pblk_model.specs.UnitLog.{UnitEvent}
use Rattle.pblk_model.proofs.Lists.{all_weaker, with_last}
use Rattle.pblk_model.proofs.Parts.{get_last, get_right, got_within}
use Rattle.pblk_model.proofs.Tests.{second_of}
use Rattle.pblk_world.specs.Events.{Decides, Does, Event, Logged, Maker, Step}
use Rattle.pblk_world.specs.Legal.{IsAllowed, IsLegal, IsLegalStep}
use Rattle.pblk_world.specs.World.{Logs, World, log_of, prefixes, unit_event_of, unit_events}
use Rattle.core_laws.proofs.NextWorlds.{none_beyond}
use Rattle.scan_recovery.specs.DriveFaults.{drive_faults_of, is_drive_fault, is_drive_fault_of, place_in}
use Rattle.scan_recovery.specs.Units.{log_length}
use Rattle.scan_recovery.proofs.WorldLosses.{made_here, still_there}
use Rattle.unit_port.specs.Unit.{ModelUnit}
use Rattle.pblk_cli.specs.Serving.{AreNewDriveFaults, IsNewDriveFault}
use Rattle.pblk_cli.specs.Stops.{name_at, names_after}

-- at this place stands a command that was lost
abbrev pub IsLostAt : World → ℕ × ℕ → Type 0
IsLostAt w p = (e : UnitEvent) × (slice_get (unit_events (log_of w) p.0) p.1 ≡ Some e) × (is_drive_fault e ≡ true)

-- a command is a unit's
unit_of : (i : Image) (author : ℕ) (event : Event) (e : UnitEvent) (maker : Maker) (logs : Logs) → event ≡ Does e maker → IsAllowed i author event logs
    → (unit : ℕ) × (author ≡ suc unit)
unit_of i zero event e maker logs is may = absurd (subst (λ (x : Event). IsAllowed i zero x logs) is may)
unit_of i (suc unit) event e maker logs is may = (unit, refl)

module _ (i : Image) (s : Step) (w : World) (legal : IsLegalStep i (log_of w) s) (worker : ℕ) where
  lost_here : (ev : Event) → s.logged.event ≡ ev → is_drive_fault_of worker ev ≡ true → IsLostAt (s ∷ w) (place_in w s)
  lost_here (Decides d) is lost = absurd cc
  lost_here (Does e maker) is lost =
      let of = unit_of i s.author s.logged.event e maker (prefixes s.logged (log_of w)) is legal.allowed in
      let own : s.author ≡ suc (s.author - 1) = omega (arith, of.1) in (
        e,
        ap (λ (es : List UnitEvent). slice_get es (length (unit_events (log_of w) (s.author - 1)))) (made_here s w (s.author - 1) e maker own is)
            ∙ get_last (unit_events (log_of w) (s.author - 1)) e,
        second_of (maker.worker == worker) (is_drive_fault e) lost,
      )

-- each place is one
pub lost_at : (i : Image) (w : World) (worker : ℕ) → IsLegal i w → AllByRecursion (IsLostAt w) (drive_faults_of worker w)
unfolding IsLegal
lost_at i [] worker legal = tt
lost_at i (s ∷ w) worker legal =
    go
    (all_weaker (IsLostAt w) (IsLostAt (s ∷ w)) (drive_faults_of worker w)
    (λ p at. (at.0, still_there (s ∷ []) w p.0 p.1 at.0 at.1, at.2)) (lost_at i w worker legal.1))
    (is_drive_fault_of worker s.logged.event) refl
  where
    go : AllByRecursion (IsLostAt (s ∷ w)) (drive_faults_of worker w) → (b : Bool) → is_drive_fault_of worker s.logged.event ≡ b
        → AllByRecursion (IsLostAt (s ∷ w)) (cond b (drive_faults_of worker w ++ place_in w s ∷ []) (drive_faults_of worker w))
    go rest false kept = rest
    go rest true lost = with_last (IsLostAt (s ∷ w)) (drive_faults_of worker w) (place_in w s) rest
        (lost_here i s w legal.0 worker s.logged.event refl lost)

-- no two are the same
distinct_last : (ps : List (ℕ × ℕ)) (p : ℕ × ℕ) → IsDistinct ps → AllByRecursion (λ q. q ≢ p) ps → IsDistinct (ps ++ p ∷ [])
distinct_last [] p distinct others = (tt, tt)
distinct_last (q ∷ ps) p distinct others = (
  with_last (λ other. other ≢ q) ps p distinct.0 (λ same. others.0 (sym same)),
  distinct_last ps p distinct.1 others.1,
)

-- a lost command stands before the place of the next one
pub not_here : (s : Step) (w : World) (p : ℕ × ℕ) → IsLostAt w p → p ≢ place_in w s
not_here s w p at same =
    let low : p.1 < length (unit_events (log_of w) p.0) = slice_get_within (unit_events (log_of w) p.0) p.1 at.0 at.1 in
    let unit : p.0 ≡ s.author - 1 = ap (λ (x : ℕ × ℕ). x.0) same in
    let index : p.1 ≡ length (unit_events (log_of w) (s.author - 1)) = ap (λ (x : ℕ × ℕ). x.1) same in
    let long : length (unit_events (log_of w) p.0) ≡ length (unit_events (log_of w) (s.author - 1)) =
    ap (λ n. length (unit_events (log_of w) n)) unit in
    absurd (omega arith)

pub lost_distinct : (i : Image) (w : World) (worker : ℕ) → IsLegal i w → IsDistinct (drive_faults_of worker w)
unfolding IsLegal
lost_distinct i [] worker legal = tt
lost_distinct i (s ∷ w) worker legal = go (lost_distinct i w worker legal.1) (is_drive_fault_of worker s.logged.event)
  where
    go : IsDistinct (drive_faults_of worker w) → (b : Bool)
        → IsDistinct (cond b (drive_faults_of worker w ++ place_in w s ∷ []) (drive_faults_of worker w))
    go rest false = rest
    go rest true = distinct_last (drive_faults_of worker w) (place_in w s) rest
        (all_weaker (IsLostAt w) (λ q. q ≢ place_in w s) (drive_faults_of worker w) (not_here s w) (lost_at i w worker legal.1))

-- ---- units that a world leaves

module _ (handed us : List ModelUnit) (i : Image) (w : World) (legal : IsLegal i w) (count : length us ≡ units i.shape)
    (each : (number : ℕ) (u : ModelUnit) → slice_get us number ≡ Some u
    → (was : ModelUnit) × (slice_get handed number ≡ Some was) × (u.log ≡ was.log ++ unit_events (log_of w) number)) where
  -- the place in the unit's log
  abbrev placed : ℕ × ℕ → ℕ × ℕ
  placed p = (p.0, log_length handed p.0 + p.1)

  within : (p : ℕ × ℕ) → IsLostAt w p → p.0 < length us
  within p at = go (cases_lt p.0 (length us))
    where
      go : (p.0 < length us) ⊎ (length us ≤ p.0) → p.0 < length us
      go (inl low) = low
      go (inr high) =
          let none : log_of w (suc p.0) ≡ [] = none_beyond i w legal (suc p.0) (omega (arith, count)) in
          absurd (none-some at.0 (ap (λ (log : List Logged). slice_get (filter_map (λ (l : Logged). unit_event_of l.event) log) p.1) (sym none) ∙ at.1))

  new_fault : (p : ℕ × ℕ) → IsLostAt w p → IsNewDriveFault handed us (p.0, log_length handed p.0 + p.1)
  new_fault p at =
      let u = got_within us p.0 (within p at) in
      let was = each p.0 u.0 u.1 in
      let long : log_length handed p.0 ≡ length was.0.log =
      ap (λ (o : Option ModelUnit). option_map_or (λ (x : ModelUnit). length x.log) o 0) was.1 in
      record {
        before = was.0;
        was = was.1;
        since = omega (arith, long);
        unit = u.0;
        there = u.1;
        event = at.0;
        event_is = ap (λ n. slice_get u.0.log (n + p.1)) long ∙ ap (λ (log : List UnitEvent). slice_get log (length was.0.log + p.1)) was.2
            ∙ get_right was.0.log (unit_events (log_of w) p.0) p.1 ∙ at.1;
        lost = at.2;
      }

  all_new : (ps : List (ℕ × ℕ)) → AllByRecursion (IsLostAt w) ps → AllByRecursion (IsNewDriveFault handed us) (map placed ps)
  all_new [] all = tt
  all_new (p ∷ ps) all = (new_fault p all.0, all_new ps all.1)

  apart : (p : ℕ × ℕ) (ps : List (ℕ × ℕ)) → AllByRecursion (λ other. other ≢ p) ps → AllByRecursion (λ other. other ≢ placed p) (map placed ps)
  apart p [] others = tt
  apart p (q ∷ ps) others = (
    (λ same.
        let unit : q.0 ≡ p.0 = ap (λ (x : ℕ × ℕ). x.0) same in
        let sum : log_length handed q.0 + q.1 ≡ log_length handed p.0 + p.1 = ap (λ (x : ℕ × ℕ). x.1) same in
        let before : log_length handed q.0 ≡ log_length handed p.0 = ap (log_length handed) unit in
        let index : q.1 ≡ p.1 = omega arith in
        others.0 (λ j. (unit j, index j))),
    apart p ps others.1,
  )

  all_apart : (ps : List (ℕ × ℕ)) → IsDistinct ps → IsDistinct (map placed ps)
  all_apart [] distinct = tt
  all_apart (p ∷ ps) distinct = (apart p ps distinct.0, all_apart ps distinct.1)

  names_placed : (ps : List (ℕ × ℕ)) → names_after (log_length handed) ps ≡ map name_at (map placed ps)
  names_placed [] = refl
  names_placed (p ∷ ps) = ap (λ (xs : List (ℕ × ℕ)). name_at (p.0, log_length handed p.0 + p.1) ∷ xs) (names_placed ps)

  -- what lines name of lost commands, no two of which are the same
  pub lost_named : (ps : List (ℕ × ℕ)) → AllByRecursion (IsLostAt w) ps → IsDistinct ps
      → AreNewDriveFaults handed us (names_after (log_length handed) ps)
  lost_named ps lost distinct = record {
    places = map placed ps;
    names_are = names_placed ps;
    each = all_new ps lost;
    distinct = all_apart ps distinct;
  }
