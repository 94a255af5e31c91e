-- What the logs say once a stripe was answered: it has landed, or it was lost.
use Rattle.std.proofs.Common.{◌≡◌, ℕ, ◌+◌, ◌<◌, ◌≤◌, ◌==◌, nat_lt, nat_eq, if◌then◌else◌, Bool, true, false, Some, Option, None, List, [], ◌∷◌, length, refl, sym, ap, ap₂, ◌∙◌, arith, length-append}
use Rattle.std.specs.Prelude.{slice_get, is_some}
use Rattle.std.specs.List.{filter}
use Rattle.std.specs.Option.{option_map}
use Rattle.std.proofs.lemmas.Bool.{eqb-true, eqb-false}
use Rattle.std.proofs.lemmas.Option.{slice_get_past}
use Rattle.pblk_model.specs.Shape.{units}
use Rattle.pblk_model.specs.declared.shape.Shape.{Shape}
use Rattle.pblk_model.specs.declared.chunk.ChunkState.TheVariants as states
use Rattle.pblk_model.specs.Chunk.{Chunk, Block}
use Rattle.pblk_model.specs.ChunkStep.{Write}
use Rattle.pblk_model.specs.UnitLog.{UnitEvent, after_outcome}
use Rattle.pblk_model.specs.Image.{Image, is_online_in}
use Rattle.pblk_world.specs.Events.{Landed, Lost}
use Rattle.pblk_world.specs.World.{World, log_of}
use Rattle.pblk_world.specs.EngineLog.{Answer, DidLand, WasLost, Begun, begun, placements, Placed, placed_on, answers}
use Rattle.pblk_world.specs.Space.{freed}
use Rattle.pblk_world.specs.Lines.{known_image}
use Rattle.pblk_layout.specs.Online.{is_online}
use Rattle.pblk_world.specs.LegalMounts.{IsLegalMount}
use Rattle.core_laws.specs.OpenedLines.{bits_of, online_now}
use Rattle.core_laws.specs.PlacerOf.{unanswered_on}
use Rattle.core_laws.specs.Stepping.{after}
use Rattle.core_laws.proofs.Answered.{IsAnswer}
use Rattle.core_laws.proofs.AnsweredUnits.{first_answer}
use Rattle.core_laws.proofs.ChunksInRows.{rows_of_chunks}
use Rattle.core_laws.proofs.FreedFront.{freed_rises}
use Rattle.core_laws.proofs.KeptLines.{few_units, same_units, still_online}
use Rattle.core_laws.proofs.KnownChunks.{chunk_in, is_on, live_chunk}
use Rattle.core_laws.proofs.NotedAnswers.{IsEndedBy, MayNote, answer_is, noting}
use Rattle.core_laws.proofs.OneStripe.{one_stripe}
use Rattle.core_laws.proofs.UnitTurns.{filtered_is}
use Rattle.pblk_model.proofs.Lists.{IsAmong}
use Rattle.pblk_model.proofs.Maps.{from_filter}
use Rattle.pblk_model.proofs.Parts.{contained_among}
use Rattle.pblk_core.specs.Stands.{under_way}
use Rattle.pblk_core.proofs.AnsweredProgram.{IsItsProgram, its, told_own, untold}
use Rattle.pblk_core.proofs.CountedRanges.{fewer_pass}
use Rattle.pblk_core.proofs.KnownAfter.{told_after, untold_after, beside_after}

-- ---- the units

written_online : (s : Shape) (o : Option Chunk) (x : UnitEvent) (a : Answer) (at : ℕ) (blocks : List Block) → x.command ≡ Write at blocks
    → IsEndedBy a x.outcome → is_on o ≡ true
    → is_on (option_map (λ (c : Chunk). after_outcome s c x.command x.outcome) o) ≡ is_on o
written_online s None x a at blocks writes ended on = refl
written_online s (Some c) x (DidLand event) at blocks writes done on =
    ap₂ (λ k outcome. is_online_in (after_outcome s c k outcome).state) writes done
    ∙ elim (nat_lt (length c.blocks + length blocks) s.clba) as
    (λ b. is_online_in (if b then states.Open else states.Closed) ≡ true) [ true ↦ refl | false ↦ refl ]
    ∙ sym on
written_online s (Some c) x (WasLost event) at blocks writes failed on =
    ap₂ (λ k outcome. is_online_in (after_outcome s c k outcome).state) writes failed.1 ∙ sym on

module _ (i : Image) (w : World) (unit : ℕ) (a : Answer) (knows : List ℕ) (p : Placed) (mount : IsLegalMount i w) (may : MayNote (log_of w) unit a)
    (waits : unanswered_on (log_of w 0) unit ≡ Some p) where
  -- whether a unit has a chunk of a line that isn't Offline
  same_live_unit : (b : Begun) (line u : ℕ) → begun (log_of w 0) ≡ Some b
      → is_online (known_image i (after (log_of w) (noting unit a) knows)) line u ≡ is_online (known_image i (log_of w)) line u
  same_live_unit b line u begins =
      live_chunk (known_image i (after (log_of w) (noting unit a) knows)) line u ∙ by_unit (nat_eq unit u) refl
      ∙ sym (live_chunk (known_image i (log_of w)) line u)
    where
      is : IsItsProgram w unit a p
      is = its i w unit a knows p mount may waits

      online : is_online (known_image i (log_of w)) p.stripe.line p.stripe.unit ≡ true
      online =
          let among : IsAmong (placements (log_of w 0)) p =
          from_filter (λ (q : Placed). q.stripe.unit == unit) (placements (log_of w 0)) p (length (answers (log_of w 0) unit), waits) in
          still_online i w p mount (contained_among (placements (log_of w 0)) p among) (ap is_some (first_answer (log_of w 0) unit p waits))

      own : p.stripe.unit ≡ unit
      own = eqb-true p.stripe.unit unit
          (filtered_is (λ (q : Placed). q.stripe.unit == unit) (placements (log_of w 0)) (length (answers (log_of w 0) unit)) p waits)

      by_chunk : nat_eq unit u ≡ true → (c : Bool) → nat_eq is.program.chunk line ≡ c
          → is_on (chunk_in (known_image i (after (log_of w) (noting unit a) knows)) u line) ≡ is_on (chunk_in (known_image i (log_of w)) u line)
      by_chunk here true e =
          let same : is.program.chunk ≡ line = eqb-true is.program.chunk line e in
          let on : is_on (chunk_in (known_image i (log_of w)) u line) ≡ true =
          ap₂ (λ v n. is_on (chunk_in (known_image i (log_of w)) v n)) (sym (own ∙ eqb-true unit u here)) (sym (sym is.chunk ∙ same))
          ∙ sym (live_chunk (known_image i (log_of w)) p.stripe.line p.stripe.unit) ∙ online in
          ap is_on (told_after i (log_of w) (noting unit a) knows u line b is.program begins (told_own i w unit a knows p mount may waits u here) same)
          ∙ written_online i.shape (chunk_in (known_image i (log_of w)) u line) is.program a p.stripe.at p.stripe.blocks is.command is.ended on
      by_chunk here false e = ap is_on
          (beside_after i (log_of w) (noting unit a) knows u line b is.program begins (told_own i w unit a knows p mount may waits u here)
          (eqb-false is.program.chunk line e))

      by_unit : (c : Bool) → nat_eq unit u ≡ c
          → is_on (chunk_in (known_image i (after (log_of w) (noting unit a) knows)) u line) ≡ is_on (chunk_in (known_image i (log_of w)) u line)
      by_unit true e = by_chunk e (nat_eq is.program.chunk line) refl
      by_unit false e = ap is_on (untold_after i (log_of w) (noting unit a) knows u line b begins (untold i w unit a knows p mount may waits u e))

  pub live_noted : (b : Begun) (line : ℕ) → begun (log_of w 0) ≡ Some b
      → online_now i (after (log_of w) (noting unit a) knows) line ≡ online_now i (log_of w) line
  live_noted b line begins =
      ap bits_of (same_units (known_image i (after (log_of w) (noting unit a) knows)) (known_image i (log_of w)) line
      (few_units i w (after (log_of w) (noting unit a) knows) mount) (few_units i w (log_of w) mount)
      (λ u. same_live_unit b line u begins))

-- ---- fronts

pub freed_noted : (i : Image) (w : World) (b : Begun) (unit : ℕ) (a : Answer) (knows : List ℕ) → IsLegalMount i w → MayNote (log_of w) unit a
    → freed i.shape (log_of w 0) ≤ freed i.shape (after (log_of w) (noting unit a) knows 0)
freed_noted i w b unit (DidLand event) knows mount may =
    freed_rises i (log_of w) w b (Landed unit event) knows mount (λ o u. rows_of_chunks i w o u mount) refl may
freed_noted i w b unit (WasLost event) knows mount may =
    freed_rises i (log_of w) w b (Lost unit event) knows mount (λ o u. rows_of_chunks i w o u mount) refl may

-- ---- one stripe less is under way

pub one_less_under_way : (i : Image) (w : World) (unit : ℕ) (a : Answer) (knows : List ℕ) (p : Placed) → IsLegalMount i w → unit < units i.shape
    → unanswered_on (log_of w 0) unit ≡ Some p
    → under_way i.shape (log_of w 0) ≡ under_way i.shape (after (log_of w) (noting unit a) knows 0) + 1
one_less_under_way i w unit a knows p mount inside waits =
    let is : IsAnswer (log_of w 0) (after (log_of w) (noting unit a) knows 0) unit a = answer_is (log_of w 0) unit knows a in
    let from : 0 + unit ≡ unit = omega arith in
    let few : length (placed_on (log_of w 0) unit) ≤ length (answers (log_of w 0) unit) + 1 = one_stripe i w unit mount.legal in
    let count : length (answers (after (log_of w) (noting unit a) knows 0) unit) ≡ length (answers (log_of w 0) unit) + 1 = ap length is.here
    ∙ length-append (answers (log_of w 0) unit) (a ∷ []) in
    let none : unanswered_on (after (log_of w) (noting unit a) knows 0) unit ≡ None =
    ap (λ ps. slice_get (filter (λ (q : Placed). q.stripe.unit == unit) ps) (length (answers (after (log_of w) (noting unit a) knows 0) unit)))
    is.placements
    ∙ slice_get_past (placed_on (log_of w 0) unit) (length (answers (after (log_of w) (noting unit a) knows 0) unit)) (omega arith) in
    fewer_pass (λ u. is_some (unanswered_on (log_of w 0) u)) (λ u. is_some (unanswered_on (after (log_of w) (noting unit a) knows 0) u)) 0
    (units i.shape) unit inside
    (ap (λ u. is_some (unanswered_on (log_of w 0) u)) from ∙ ap is_some waits)
    (ap (λ u. is_some (unanswered_on (after (log_of w) (noting unit a) knows 0) u)) from ∙ ap is_some none)
    (λ v apart. ap₂ (λ (ps : List Placed) n. is_some (slice_get (filter (λ (q : Placed). q.stripe.unit == v) ps) n)) is.placements
    (ap length (is.elsewhere v (λ e. apart (e ∙ sym from)))))
