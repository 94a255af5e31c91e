-- The lost commands of all sessions of a target that was closed, and the events that their answers name.
use Rattle.std.proofs.Common.{◌≡◌, ◌≢◌, ℕ, zero, suc, ◌+◌, ◌<◌, ◌≤◌, ◌==◌, Bool, true, false, cond, List, [], ◌∷◌, ◌++◌, Result, Some, length, map, take, drop, refl, sym, subst, ap, ap₂, ◌∙◌, arith}
use Rattle.std.specs.Prelude.{slice_get}
use Rattle.std.specs.List.{AllByRecursion, flat_map, range_with_len}
use Rattle.std.proofs.lemmas.Bool.{eqb-true}
use Rattle.std.proofs.lemmas.List.{append_assoc, map-append, take-map}
use Rattle.pblk_model.specs.Image.{Image}
use Rattle.pblk_model.specs.Shape.{units}
use Rattle.pblk_model.specs.Transcript.{IsDistinct}
use Rattle.pblk_model.proofs.Lists.{all_append, all_weaker, with_last}
use Rattle.pblk_model.proofs.Maps.{all_flat_map, map_dropped}
use Rattle.pblk_model.proofs.Parts.{all_dropped, all_taken, drop_front, take_and_drop, take_front}
use Rattle.pblk_model.proofs.Tests.{first_of}
use Rattle.pblk_world.specs.Events.{Decides, Does, Event}
use Rattle.pblk_world.specs.Legal.{IsLegal}
use Rattle.pblk_world.specs.World.{World, log_of, unit_events}
use Rattle.unit_port.specs.Unit.{ModelUnit}
use Rattle.scan_recovery.specs.DriveFaults.{drive_faults_of, is_drive_fault, is_drive_fault_of, place_in}
use Rattle.scan_recovery.specs.Units.{log_length}
use Rattle.pblk_engine.specs.declared.errors.SettleErr.{SettleErr}
use Rattle.block_target.specs.Closes.{answer_at, close_faults, faults_in}
use Rattle.block_target.specs.Sessions.{SessionView}
use Rattle.run_report.specs.Ports.{event_of}
use Rattle.pblk_cli.specs.Serving.{AreNewDriveFaults}
use Rattle.pblk_cli.specs.Stops.{name_at}
use Rattle.pblk_cli.proofs.LostPlaces.{IsLostAt, lost_at, lost_distinct, lost_named, not_here}
use Rattle.pblk_cli.proofs.ToldLosses.{names_are}

-- ---- lists of places

-- no place of the one list stands in the other
abbrev AreOthers : List (ℕ × ℕ) → List (ℕ × ℕ) → Type 0
AreOthers xs ys = AllByRecursion (λ p. AllByRecursion (λ q. q ≢ p) ys) xs

others_none : (xs : List (ℕ × ℕ)) → AreOthers xs []
others_none [] = tt
others_none (x ∷ xs) = (tt, others_none xs)

-- of two lists each
others_both : (xs ys zs : List (ℕ × ℕ)) → AreOthers xs ys → AreOthers xs zs → AreOthers xs (ys ++ zs)
others_both [] ys zs one two = tt
others_both (x ∷ xs) ys zs one two = (all_append (λ q. q ≢ x) ys zs one.0 two.0, others_both xs ys zs one.1 two.1)

-- of a part of either list
others_of_part : (P : List (ℕ × ℕ) → List (ℕ × ℕ)) → ((Q : ℕ × ℕ → Type 0) (ys : List (ℕ × ℕ)) → AllByRecursion Q ys → AllByRecursion Q (P ys))
    → (xs ys : List (ℕ × ℕ)) → AreOthers xs ys → AreOthers xs (P ys)
others_of_part P keeps [] ys others = tt
others_of_part P keeps (x ∷ xs) ys others = (keeps (λ q. q ≢ x) ys others.0, others_of_part P keeps xs ys others.1)

-- joined lists without a place in common
distinct_joined : (xs ys : List (ℕ × ℕ)) → IsDistinct xs → IsDistinct ys → AreOthers xs ys → IsDistinct (xs ++ ys)
distinct_joined [] ys one two others = two
distinct_joined (x ∷ xs) ys one two others = (all_append (λ q. q ≢ x) xs ys one.0 others.0, distinct_joined xs ys one.1 two others.1)

-- and their parts

first_distinct : (xs ys : List (ℕ × ℕ)) → IsDistinct (xs ++ ys) → IsDistinct xs
first_distinct [] ys distinct = tt
first_distinct (x ∷ xs) ys distinct = (first_all (λ q. q ≢ x) xs ys distinct.0, first_distinct xs ys distinct.1)
  where
    first_all : (Q : ℕ × ℕ → Type 0) (us vs : List (ℕ × ℕ)) → AllByRecursion Q (us ++ vs) → AllByRecursion Q us
    first_all Q [] vs all = tt
    first_all Q (u ∷ us) vs all = (all.0, first_all Q us vs all.1)

second_distinct : (xs ys : List (ℕ × ℕ)) → IsDistinct (xs ++ ys) → IsDistinct ys
second_distinct [] ys distinct = distinct
second_distinct (x ∷ xs) ys distinct = second_distinct xs ys distinct.1

parts_others : (xs ys : List (ℕ × ℕ)) → IsDistinct (xs ++ ys) → AreOthers xs ys
parts_others [] ys distinct = tt
parts_others (x ∷ xs) ys distinct = (second_all (λ q. q ≢ x) xs ys distinct.0, parts_others xs ys distinct.1)
  where
    second_all : (Q : ℕ × ℕ → Type 0) (us vs : List (ℕ × ℕ)) → AllByRecursion Q (us ++ vs) → AllByRecursion Q vs
    second_all Q [] vs all = all
    second_all Q (u ∷ us) vs all = second_all Q us vs all.1

-- what is put between two parts
distinct_between : (xs ys zs : List (ℕ × ℕ)) → IsDistinct (xs ++ zs) → IsDistinct ys → AreOthers xs ys → AreOthers ys zs → IsDistinct (xs ++ (ys ++ zs))
distinct_between xs ys zs ends mid before behind =
    distinct_joined xs (ys ++ zs) (first_distinct xs zs ends) (distinct_joined ys zs mid (second_distinct xs zs ends) behind)
    (others_both xs ys zs before (parts_others xs zs ends))

-- ---- workers

-- two workers lost no command in common
apart_workers : (i : Image) (w : World) (a b : ℕ) → a ≢ b → IsLegal i w → AreOthers (drive_faults_of a w) (drive_faults_of b w)
unfolding IsLegal
apart_workers i [] a b ne legal = tt
apart_workers i (s ∷ w) a b ne legal =
    go (is_drive_fault_of a s.logged.event) refl (is_drive_fault_of b s.logged.event) refl (apart_workers i w a b ne legal.1)
  where
    -- all that a worker lost before stands elsewhere
    past : (worker : ℕ) → AllByRecursion (λ q. q ≢ place_in w s) (drive_faults_of worker w)
    past worker = all_weaker (IsLostAt w) (λ q. q ≢ place_in w s) (drive_faults_of worker w) (not_here s w) (lost_at i w worker legal.1)

    -- one worker makes a command
    one_maker : (e : Event) → is_drive_fault_of a e ≡ true → is_drive_fault_of b e ≡ true → a ≡ b
    one_maker (Decides d) la lb = absurd cc
    one_maker (Does e maker) la lb =
        sym (eqb-true maker.worker a (first_of (maker.worker == a) (is_drive_fault e) la))
        ∙ eqb-true maker.worker b (first_of (maker.worker == b) (is_drive_fault e) lb)

    -- one place more in the second list
    behind : (xs ys : List (ℕ × ℕ)) (p : ℕ × ℕ) → AreOthers xs ys → AllByRecursion (λ q. q ≢ p) xs → AreOthers xs (ys ++ p ∷ [])
    behind [] ys p others not = tt
    behind (x ∷ xs) ys p others not = (with_last (λ q. q ≢ x) ys p others.0 (λ same. not.0 (sym same)), behind xs ys p others.1 not.1)

    go : (ba : Bool) → is_drive_fault_of a s.logged.event ≡ ba → (bb : Bool) → is_drive_fault_of b s.logged.event ≡ bb
        → AreOthers (drive_faults_of a w) (drive_faults_of b w)
        → AreOthers (cond ba (drive_faults_of a w ++ place_in w s ∷ []) (drive_faults_of a w))
        (cond bb (drive_faults_of b w ++ place_in w s ∷ []) (drive_faults_of b w))
    go true la true lb rest = absurd (ne (one_maker s.logged.event la lb))
    go true la false lb rest = with_last (λ p. AllByRecursion (λ q. q ≢ p) (drive_faults_of b w)) (drive_faults_of a w) (place_in w s) rest (past b)
    go false la true lb rest = behind (drive_faults_of a w) (drive_faults_of b w) (place_in w s) rest (past a)
    go false la false lb rest = rest

-- where the commands stand that these workers lost, worker after worker
abbrev places_of : World → ℕ → ℕ → List (ℕ × ℕ)
places_of w from count = flat_map (λ k. drive_faults_of k w) (range_with_len from count)

module _ (i : Image) (w : World) (legal : IsLegal i w) where
  all_lost : (from count : ℕ) → AllByRecursion (IsLostAt w) (places_of w from count)
  all_lost from count = all_flat_map (IsLostAt w) (λ k. drive_faults_of k w) (range_with_len from count) (λ k. lost_at i w k legal)

  -- a worker of a lower number lost none of them
  below_others : (worker from count : ℕ) → worker < from → AreOthers (drive_faults_of worker w) (places_of w from count)
  below_others worker from zero low = others_none (drive_faults_of worker w)
  below_others worker from (suc count) low =
      others_both (drive_faults_of worker w) (drive_faults_of from w) (places_of w (from + 1) count)
      (apart_workers i w worker from (λ same. absurd (omega (arith, same))) legal) (below_others worker (from + 1) count (omega arith))

  others_below : (worker from count : ℕ) → worker < from → AreOthers (places_of w from count) (drive_faults_of worker w)
  others_below worker from zero low = tt
  others_below worker from (suc count) low =
      all_append (λ p. AllByRecursion (λ q. q ≢ p) (drive_faults_of worker w)) (drive_faults_of from w) (places_of w (from + 1) count)
      (apart_workers i w from worker (λ same. absurd (omega (arith, same))) legal) (others_below worker (from + 1) count (omega arith))

  all_distinct : (from count : ℕ) → IsDistinct (places_of w from count)
  all_distinct from zero = tt
  all_distinct from (suc count) =
      distinct_joined (drive_faults_of from w) (places_of w (from + 1) count) (lost_distinct i w from legal) (all_distinct (from + 1) count)
      (below_others from (from + 1) count (omega arith))

-- ---- sessions

module _ (handed us : List ModelUnit) (i : Image) (w : World) (legal : IsLegal i w) (count : length us ≡ units i.shape)
    (each : (number : ℕ) (u : ModelUnit) → slice_get us number ≡ Some u
    → (was : ModelUnit) × (slice_get handed number ≡ Some was) × (u.log ≡ was.log ++ unit_events (log_of w) number)) where
  abbrev name : ℕ × ℕ → ℕ × ℕ
  name place = name_at (place.0, log_length handed place.0 + place.1)

  -- sessions whose answers name just what they lost
  sessions_named : (ts : List SessionView) (from : ℕ)
      → ((k : ℕ) (t : SessionView) → slice_get ts k ≡ Some t → map (answer_at handed) (drive_faults_of (from + k) w) ≡ t.faults)
      → map name (places_of w from (length ts)) ≡ flat_map (λ (t : SessionView). map event_of t.faults) ts
  sessions_named [] from faults = refl
  sessions_named (t ∷ ts) from faults =
      map-append name (drive_faults_of from w) (places_of w (from + 1) (length ts))
      ∙ ap₂ (λ xs ys. xs ++ ys)
      (sym (names_are handed (drive_faults_of from w)) ∙ ap (map event_of)
      (ap (λ n. map (answer_at handed) (drive_faults_of n w)) (let e : from ≡ from + 0 = omega arith in e) ∙ faults 0 t refl))
      (sessions_named ts (from + 1) (λ k x there.
      ap (λ n. map (answer_at handed) (drive_faults_of n w)) (let e : (from + 1) + k ≡ from + suc k = omega arith in e) ∙ faults (suc k) x there))

  -- The first session's lost commands are those that it answered, and then the close's.
  module _ (t : SessionView) (settled : Result (Unit {0}) SettleErr)
      (faults : map (answer_at handed) (drive_faults_of 0 w) ≡ t.faults ++ close_faults settled) where
    abbrev own : List (ℕ × ℕ)
    own = take (length t.faults) (drive_faults_of 0 w)

    abbrev close : List (ℕ × ℕ)
    close = drop (length t.faults) (drive_faults_of 0 w)

    own_named : map name own ≡ map event_of t.faults
    own_named =
        sym (names_are handed own)
        ∙ ap (map event_of) (sym (take-map (answer_at handed) (length t.faults) (drive_faults_of 0 w)) ∙ ap (take (length t.faults)) faults
        ∙ take_front t.faults (close_faults settled) (length t.faults) refl)

    close_named : map name close ≡ map event_of (close_faults settled)
    close_named =
        sym (names_are handed close)
        ∙ ap (map event_of) (map_dropped (answer_at handed) (length t.faults) (drive_faults_of 0 w) ∙ ap (drop (length t.faults)) faults
        ∙ drop_front t.faults (close_faults settled) (length t.faults) refl)

    ends_distinct : IsDistinct (own ++ close)
    ends_distinct = subst IsDistinct (sym (take_and_drop (length t.faults) (drive_faults_of 0 w))) (lost_distinct i w 0 legal)

    all_named : (rest : List SessionView)
        → ((k : ℕ) (x : SessionView) → slice_get rest k ≡ Some x → map (answer_at handed) (drive_faults_of (1 + k) w) ≡ x.faults)
        → AreNewDriveFaults handed us
        ((map event_of t.faults ++ flat_map (λ (x : SessionView). map event_of x.faults) rest) ++ map event_of (close_faults settled))
    all_named rest others =
        subst (AreNewDriveFaults handed us)
        (map-append name own (places_of w 1 (length rest) ++ close)
        ∙ ap₂ (λ xs ys. xs ++ ys) own_named
        (map-append name (places_of w 1 (length rest)) close ∙ ap₂ (λ xs ys. xs ++ ys) (sessions_named rest 1 others) close_named)
        ∙ sym (append_assoc (map event_of t.faults) (flat_map (λ (x : SessionView). map event_of x.faults) rest) (map event_of (close_faults settled))))
        (lost_named handed us i w legal count each (own ++ (places_of w 1 (length rest) ++ close)) lost
        (distinct_between own (places_of w 1 (length rest)) close ends_distinct (all_distinct i w legal 1 (length rest))
        (all_taken (λ p. AllByRecursion (λ q. q ≢ p) (places_of w 1 (length rest))) (length t.faults) (drive_faults_of 0 w)
        (below_others i w legal 0 1 (length rest) (omega arith)))
        (others_of_part (drop (length t.faults)) (λ Q ys all. all_dropped Q (length t.faults) ys all) (places_of w 1 (length rest)) (drive_faults_of 0 w)
        (others_below i w legal 0 1 (length rest) (omega arith)))))
      where
        lost : AllByRecursion (IsLostAt w) (own ++ (places_of w 1 (length rest) ++ close))
        lost =
            all_append (IsLostAt w) own (places_of w 1 (length rest) ++ close)
            (all_taken (IsLostAt w) (length t.faults) (drive_faults_of 0 w) (lost_at i w 0 legal))
            (all_append (IsLostAt w) (places_of w 1 (length rest)) close (all_lost i w legal 1 (length rest))
            (all_dropped (IsLostAt w) (length t.faults) (drive_faults_of 0 w) (lost_at i w 0 legal)))

  -- The events that the sessions' answers name, and then the close's, are of commands that were lost, and no two of the same.
  pub lasts_lost : (lasts : List SessionView) (settled : Result (Unit {0}) SettleErr) → 1 ≤ length lasts
      → ((k : ℕ) (t : SessionView) → slice_get lasts k ≡ Some t → map (answer_at handed) (drive_faults_of k w) ≡ faults_in k t settled)
      → AreNewDriveFaults handed us (flat_map (λ (t : SessionView). map event_of t.faults) lasts ++ map event_of (close_faults settled))
  lasts_lost [] settled some faults = absurd (omega arith)
  lasts_lost (t ∷ rest) settled some faults =
      all_named t settled (faults 0 t refl) rest
      (λ k x there. ap (λ n. map (answer_at handed) (drive_faults_of n w)) (let e : 1 + k ≡ suc k = omega arith in e) ∙ faults (suc k) x there)
