-- What a stripe that has landed, or was lost, changes of a placer.
use Rattle.std.proofs.Common.{◌≡◌, inl, inr, ℕ, ◌+◌, ◌/◌, ◌<◌, ◌≤◌, ◌==◌, ◌&&◌, not, nat_lt, Bool, true, false, cond, Some, None, List, [], ◌∷◌, length, refl, sym, ap, ap₂, ◌∙◌, arith, length-append}
use Rattle.std.specs.Prelude.{map, slice_get, slice_set}
use Rattle.std.specs.List.{AllByRecursion, filter, range_with_len}
use Rattle.std.specs.Option.{option_map_or}
use Rattle.std.proofs.lemmas.Option.{slice_get_past}
use Rattle.pblk_model.specs.declared.shape.Shape.{Shape}
use Rattle.pblk_model.specs.Shape.{units}
use Rattle.pblk_model.specs.Image.{Image}
use Rattle.pblk_world.specs.Events.{EngineEvent, Landed, Lost, Decides, Logged}
use Rattle.pblk_world.specs.World.{Logs}
use Rattle.pblk_world.specs.EngineLog.{Opening, Taken, takes, Placed, placements, placed_on, Answer, DidLand, WasLost, answers, answer_of, was_lost, is_loss, holds_position}
use Rattle.pblk_world.specs.Fronts.{times_placed, times_lost, was_placed, waits}
use Rattle.stripe_placer.specs.Entries.{Entries}
use Rattle.stripe_placer.specs.OpenLines.{has_left, in_line}
use Rattle.stripe_placer.specs.Placing.{Program, answered, landed, lost}
use Rattle.stripe_placer.specs.Placing.UnitRow.{Idle, UnderWay}
use Rattle.core_laws.specs.Stepping.{after}
use Rattle.core_laws.specs.OpenedLines.{by_answer, open_line, standing, open_lines}
use Rattle.core_laws.specs.PlacerOf.{IsAwaited, positions_of, lost_entries, fresh_entries, entries_of, was_stopped_on, contains_unit, waits_again, row_in, unit_row_in, placing_of}
use Rattle.core_laws.proofs.Engine.{stopped_more}
use Rattle.core_laws.proofs.NotedAnswers.{answer_is, lives_noted, noting, openings_noted, takes_noted}
use Rattle.core_laws.proofs.Steady.{standing_same, row_same}
use Rattle.core_laws.proofs.Taking.{same_placing, same_entries}
use Rattle.core_laws.proofs.PlacedLines.{IsStanding, all_standing}
use Rattle.core_laws.proofs.Answered.{IsAnswer, IsFirst, IsAnsweredAt, answered_at, its_answer, others_answer, line_answered, none_left}
use Rattle.pblk_model.proofs.Lists.{IsAmong, among_all, all_imply}
use Rattle.pblk_model.proofs.Maps.{filter_agree, filter_same, map_agree, row_at, rows_set}

commute : {O X : Type 0} (test : X → Bool) (g : X → X) (f : O → X) (xs : List O) → AllByRecursion (λ x. test (f x) ≡ false → test (g (f x)) ≡ false) xs
    → filter test (map (λ x. g (f x)) xs) ≡ filter test (map g (filter test (map f xs)))
commute test g f [] all = refl
commute {O} {X} test g f (x ∷ xs) all = go (test (f x)) refl (commute test g f xs all.1)
  where
    go : (b : Bool) → test (f x) ≡ b → filter test (map (λ x. g (f x)) xs) ≡ filter test (map g (filter test (map f xs)))
        → cond (test (g (f x))) (g (f x) ∷ filter test (map (λ x. g (f x)) xs)) (filter test (map (λ x. g (f x)) xs)) ≡ filter test
        (map g (cond b (f x ∷ filter test (map f xs)) (filter test (map f xs))))
    go true e rest = ap (λ ys. cond (test (g (f x))) (g (f x) ∷ ys) ys) rest
    go false e rest = ap (λ b. cond b (g (f x) ∷ filter test (map (λ x. g (f x)) xs)) (filter test (map (λ x. g (f x)) xs))) (all.0 e) ∙ rest

-- the event is an answer of the unit, and nothing else
pub record IsAnswerOnly (log new : List Logged) (unit : ℕ) (a : Answer) : Type 0 where
  pub answer : IsAnswer log new unit a
  pub standing : standing new ≡ standing log
  pub takes : takes new ≡ takes log
  pub stopped : (v : ℕ) → was_stopped_on new v ≡ was_stopped_on log v

lines_answered : (i : Image) (logs : Logs) (e : EngineEvent) (knows : List ℕ) (o : Opening) (of : Program) (a : Answer) (q : Placed) → 0 < i.shape.ws_opt
    → IsAnswerOnly (logs 0) (after logs e knows 0) of.unit a → IsAnsweredAt i logs o of q
    → open_lines i (after logs e knows) ≡ filter has_left (map (in_line of.line (of.at / i.shape.ws_opt) (by_answer (Some a))) (open_lines i logs))
lines_answered i logs e knows o of a q some is at =
    ap (λ os. filter has_left (map (open_line i (after logs e knows)) os)) is.standing
    ∙ ap (filter has_left) (map_agree (IsStanding (logs 0)) (open_line i (after logs e knows))
    (λ other. in_line of.line (of.at / i.shape.ws_opt) (by_answer (Some a)) (open_line i logs other))
    (line_answered i logs e knows o of a q some is.answer at) (standing (logs 0)) (all_standing (logs 0)))
    ∙ commute has_left (in_line of.line (of.at / i.shape.ws_opt) (by_answer (Some a))) (open_line i logs) (standing (logs 0))
    (all_imply (IsStanding (logs 0))
    (λ other. has_left (open_line i logs other) ≡ false
    → has_left (in_line of.line (of.at / i.shape.ws_opt) (by_answer (Some a)) (open_line i logs other)) ≡ false)
    (λ other stands none. none_left i logs o of q (by_answer (Some a)) at other stands none) (standing (logs 0)) (all_standing (logs 0)))

row_of_it : (i : Image) (logs : Logs) (e : EngineEvent) (knows again : List ℕ) (unit : ℕ) (a : Answer) → IsAnswer (logs 0) (after logs e knows 0) unit a
    → length (placed_on (logs 0) unit) ≡ length (answers (logs 0) unit) + 1 → unit_row_in i (after logs e knows) again unit ≡ Idle
row_of_it i logs e knows again unit a is one =
    let new : Logs = after logs e knows in
    let count : length (answers (new 0) unit) ≡ length (answers (logs 0) unit) + 1 = ap length is.here ∙ length-append (answers (logs 0) unit) (a ∷ []) in
    let past : length (placed_on (logs 0) unit) ≤ length (answers (new 0) unit) = omega (arith, count, one) in
    ap (λ u. option_map_or (λ (p : Placed). row_in i new (waits_again (new 0) again unit) p.life p) u Idle)
    (ap (λ ps. slice_get (filter (λ (p : Placed). p.stripe.unit == unit) ps) (length (answers (new 0) unit))) is.placements
    ∙ slice_get_past (placed_on (logs 0) unit) (length (answers (new 0) unit)) past)

pub placing_answered : (i : Image) (logs : Logs) (e : EngineEvent) (knows : List ℕ) (pad : ℕ) (again : List ℕ) (of : Program) (a : Answer) → 0 < i.shape.ws_opt
    → IsAwaited i logs pad again of
    → IsAnswerOnly (logs 0) (after logs e knows 0) of.unit a
    → placing_of i (after logs e knows) pad again ≡ record
    (answered (placing_of i logs pad again) of (by_answer (Some a))) { entries = entries_of i.shape (after logs e knows 0) pad }
placing_answered i logs e knows pad again of a some awaited is =
    let new : Logs = after logs e knows in
    let at : (o : Opening) × (q : Placed) × IsAnsweredAt i logs o of q = answered_at i logs of awaited.stripe awaited.one in
    let row = row_at (unit_row_in i logs again) (units i.shape) 0 of.unit (UnderWay of) awaited.under_way in
    let from : 0 + of.unit ≡ of.unit = omega arith in
    same_placing i.shape (entries_of i.shape (new 0) pad) (entries_of i.shape (new 0) pad)
    (map (unit_row_in i new again) (range_with_len 0 (units i.shape)))
    (slice_set (map (unit_row_in i logs again) (range_with_len 0 (units i.shape))) of.unit Idle)
    (open_lines i new) (filter has_left (map (in_line of.line (of.at / i.shape.ws_opt) (by_answer (Some a))) (open_lines i logs)))
    refl
    (rows_set (unit_row_in i logs again) (unit_row_in i new again) (units i.shape) 0 of.unit Idle row.0
    (ap (unit_row_in i new again) from ∙ row_of_it i logs e knows again of.unit a is.answer awaited.one)
    (λ m other. row_same i logs e knows again again m
    (ap₂ (λ ps (xs : List Answer). slice_get (filter (λ (p : Placed). p.stripe.unit == m) ps) (length xs)) is.answer.placements
    (is.answer.elsewhere m (λ f. other (f ∙ sym from))))
    (ap (λ b. b && not (contains_unit again m)) (is.stopped m))))
    (lines_answered i logs e knows at.0 of a at.1 some is at.2)

-- ---- the entries, where none was lost

kept_loss : (log new : List Logged) (unit event : ℕ) (q : Placed) → IsAnswer log new unit (DidLand event) → IsFirst log unit q → (r : Placed)
    → IsAmong (placements log) r → was_lost new r ≡ was_lost log r
kept_loss log new unit event q is first r among =
    elim (others_answer log new unit (DidLand event) q r is first among) as (λ _. was_lost new r ≡ was_lost log r) [
      | inl same ↦
          let none : answer_of log q ≡ None =
          ap (λ n. slice_get (answers log q.stripe.unit) n) (first.turn_is ∙ ap (λ u. length (answers log u)) (sym first.of_unit))
          ∙ slice_get_past (answers log q.stripe.unit) (length (answers log q.stripe.unit)) (omega arith) in
          ap (was_lost new) same ∙ ap is_loss (its_answer log new unit (DidLand event) q is first) ∙ ap is_loss (sym none) ∙ ap (was_lost log) (sym same)
      | inr kept ↦ ap is_loss kept
    ]

losses_same : (s : Shape) (log new : List Logged) (unit event : ℕ) (q : Placed) → IsAnswer log new unit (DidLand event) → IsFirst log unit q → (t : Taken)
    → times_lost s new t ≡ times_lost s log t
losses_same s log new unit event q is first t =
    ap (λ ps. length (filter (λ p. was_lost new p && holds_position s t.entry.position p) ps)) is.placements
    ∙ ap length (filter_agree (IsAmong (placements log)) (λ p. was_lost new p && holds_position s t.entry.position p)
    (λ p. was_lost log p && holds_position s t.entry.position p)
    (λ p among. ap (λ b. b && holds_position s t.entry.position p) (kept_loss log new unit event q is first p among)) (placements log)
    (among_all (placements log)))

times_same : (s : Shape) (log new : List Logged) (t : Taken) → placements new ≡ placements log → times_placed s new t ≡ times_placed s log t
times_same s log new t same = ap (λ ps. length (filter (holds_position s t.entry.position) ps)) same

entries_landed : (s : Shape) (log new : List Logged) (pad unit event : ℕ) (q : Placed) → IsAnswer log new unit (DidLand event) → takes new ≡ takes log
    → IsFirst log unit q → entries_of s new pad ≡ entries_of s log pad
entries_landed s log new pad unit event q is same first =
    same_entries (positions_of (lost_entries s new)) (positions_of (lost_entries s log)) (positions_of (fresh_entries s new))
    (positions_of (fresh_entries s log)) pad
    (ap positions_of (filter_same (λ t. waits s new t && was_placed s new t) (λ t. waits s log t && was_placed s log t)
    (λ t. ap₂ (λ m n. (m == n) && nat_lt 0 m) (times_same s log new t is.placements) (losses_same s log new unit event q is first t)) (takes new)
    ∙ ap (filter (λ t. waits s log t && was_placed s log t)) same))
    (ap positions_of (filter_same (λ t. not (was_placed s new t)) (λ t. not (was_placed s log t))
    (λ t. ap (λ m. not (nat_lt 0 m)) (times_same s log new t is.placements)) (takes new)
    ∙ ap (filter (λ t. not (was_placed s log t))) same))

-- ---- the event

noted_only : (logs : Logs) (unit : ℕ) (a : Answer) (knows : List ℕ) → IsAnswerOnly (logs 0) (after logs (noting unit a) knows 0) unit a
noted_only logs unit a knows = record {
  answer = answer_is (logs 0) unit knows a;
  standing = standing_same (logs 0) (after logs (noting unit a) knows 0) (openings_noted logs unit knows a) (lives_noted logs unit knows a);
  takes = takes_noted logs unit knows a;
  stopped = stops_none a;
}
  where
    stops_none : (b : Answer) (v : ℕ) → was_stopped_on (after logs (noting unit b) knows 0) v ≡ was_stopped_on (logs 0) v
    stops_none (DidLand event) v = stopped_more (logs 0) (record { event = Decides (Landed unit event); knows = knows }) v
    stops_none (WasLost event) v = stopped_more (logs 0) (record { event = Decides (Lost unit event); knows = knows }) v

pub placing_landed : (i : Image) (logs : Logs) (event : ℕ) (knows : List ℕ) (pad : ℕ) (again : List ℕ) (of : Program) → 0 < i.shape.ws_opt
    → IsAwaited i logs pad again of
    → placing_of i (after logs (Landed of.unit event) knows) pad again ≡ landed (placing_of i logs pad again) of
placing_landed i logs event knows pad again of some awaited =
    let at : (o : Opening) × (q : Placed) × IsAnsweredAt i logs o of q = answered_at i logs of awaited.stripe awaited.one in
    let is : IsAnswerOnly (logs 0) (after logs (Landed of.unit event) knows 0) of.unit (DidLand event) = noted_only logs of.unit (DidLand event) knows in
    placing_answered i logs (Landed of.unit event) knows pad again of (DidLand event) some awaited is
    ∙ ap (λ (es : Entries). record (landed (placing_of i logs pad again) of) { entries = es })
    (entries_landed i.shape (logs 0) (after logs (Landed of.unit event) knows 0) pad of.unit event at.1 is.answer is.takes at.2.first)

pub placing_lost : (i : Image) (logs : Logs) (event : ℕ) (knows : List ℕ) (pad : ℕ) (again : List ℕ) (of : Program) → 0 < i.shape.ws_opt
    → IsAwaited i logs pad again of
    → placing_of i (after logs (Lost of.unit event) knows) pad again ≡ record
    (lost (placing_of i logs pad again) of) { entries = entries_of i.shape (after logs (Lost of.unit event) knows 0) pad }
placing_lost i logs event knows pad again of some awaited =
    placing_answered i logs (Lost of.unit event) knows pad again of (WasLost event) some awaited (noted_only logs of.unit (WasLost event) knows)
