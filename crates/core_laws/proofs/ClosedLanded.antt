-- An opened line is closed once no stripe of it is left.
use Rattle.std.proofs.Common.{◌≡◌, ◌≢◌, ℕ, ◌<◌, not, Bool, true, false, Some, None, Option, List, [], ◌∷◌, ◌++◌, length, refl, sym, ap, ◌∙◌, if◌then◌else◌}
use Rattle.std.specs.Prelude.{map, slice_get}
use Rattle.std.specs.List.{enumerate_from, filter_map}
use Rattle.std.specs.Option.{is_some, option_map}
use Rattle.std.proofs.lemmas.List.Elements.{filter_map-append}
use Rattle.pblk_model.specs.Chunk.{Chunk}
use Rattle.pblk_model.specs.UnitLog.{UnitEvent, after_log}
use Rattle.pblk_model.specs.Image.{Image}
use Rattle.pblk_world.specs.EngineLog.{Answer, answers, begun_by, is_answered, is_life, LineLife, Opened, Opening, Placed, placements, stripes_of, life_of, turned_by}
use Rattle.pblk_world.specs.Events.{Decides, EngineEvent, Logged}
use Rattle.pblk_world.specs.Legal.{IsAllowed}
use Rattle.pblk_world.specs.Lines.{are_over, chunks_of, found_image, known_image, told_by, told_events}
use Rattle.pblk_world.specs.Starts.{seq_in, seq_of}
use Rattle.pblk_world.specs.Victims.{positions_in}
use Rattle.pblk_world.specs.World.{World, Logs, log_of}
use Rattle.pblk_world.proofs.Appending.{life_more}
use Rattle.pblk_model.proofs.Lists.{IsAmong}
use Rattle.pblk_model.proofs.Maps.{in_filter, map_same}
use Rattle.pblk_model.proofs.Numbers.{fun_same}
use Rattle.pblk_model.proofs.Parts.{contained_among}
use Rattle.pblk_model.proofs.Tests.{not_both, same_number}
use Rattle.pblk_world.specs.LegalMounts.{IsLegalMount}
use Rattle.world_laws.proofs.LifePlaces.{began}
use Rattle.stripe_placer.specs.OpenLines.{OpenLine, has_left, numbers}
use Rattle.core_laws.specs.ClosedLines.{ClosedLine, answered_top, closed_line, closed_with, top_of}
use Rattle.core_laws.specs.OpenedLines.{as_opened, open_line, outcome, with_outcomes}
use Rattle.core_laws.specs.PlacerOf.{unanswered_on}
use Rattle.core_laws.specs.Stepping.{after}
use Rattle.core_laws.proofs.Answered.{first_unanswered}
use Rattle.core_laws.proofs.AnsweredUnits.{first_answer}
use Rattle.core_laws.proofs.AnsweredTops.{IsOfPlaced, of_placed, top_same}
use Rattle.core_laws.proofs.ClosedKept.{closed_same, one_told}
use Rattle.core_laws.proofs.LandedRows.{chunks_beside}
use Rattle.core_laws.proofs.NotedAnswers.{IsNoted, MayNote, allowed_note, answers_noted, lives_noted, none_begun, none_turned, noted, noting, number_in, placements_noted, tells_it, with_answer}
use Rattle.core_laws.proofs.NextWorlds.{lengths_of, next_legal, next_logs, next_step}
use Rattle.core_laws.proofs.OverAnswered.{over_answered}
use Rattle.core_laws.proofs.OpenWhileLeft.{over_is as over_by_left}
use Rattle.core_laws.proofs.OpeningNumbers.{life_at}
use Rattle.core_laws.proofs.PlacedLines.{life_is_before}
use Rattle.core_laws.proofs.Steady.{AreAlike, as_opened_same, outcome_same}
use Rattle.core_laws.proofs.SteppingLemmas.{found_kept}

abbrev pub closed_if : Bool → ClosedLine → Option ClosedLine
closed_if full c = if full then Some c else None

abbrev pub closed_as : Image → Logs → Opening → ClosedLine
closed_as i logs o = record { seq = o.start.seq; top = answered_top i logs o }

module _ (i : Image) (w : World) (mount : IsLegalMount i w) (o : Opening) (is_open : life_of (log_of w 0) o.line ≡ Opened o) where
  -- where no stripe is left
  pub closed_by_left : closed_line i (log_of w) o.line ≡ closed_if (not (has_left (open_line i (log_of w) o))) (closed_as i (log_of w) o)
  closed_by_left =
      ap (λ (l : LineLife). if are_over i (log_of w) o.line then option_map (λ seq. record {
        seq = seq;
        top = top_of (positions_in i (log_of w) l o.line);
      }) (seq_in i (log_of w) l o.line) else None) is_open
      ∙ ap (λ t. closed_if t (closed_as i (log_of w) o)) (over_by_left i w mount o is_open)

-- it isn't where a stripe of it waits for its answer
pub waiting_unclosed : (i : Image) (w : World) (unit : ℕ) (p : Placed) (o : Opening) → IsLegalMount i w → unanswered_on (log_of w 0) unit ≡ Some p
    → p.life ≡ Opened o → life_of (log_of w 0) p.stripe.line ≡ Opened o → closed_line i (log_of w) p.stripe.line ≡ None
waiting_unclosed i w unit p o mount waits life stands = go (are_over i (log_of w) p.stripe.line) refl
  where
    its : o.line ≡ p.stripe.line
    its = (life_at (log_of w 0) p.stripe.line o stands).1

    of_opening : IsAmong (stripes_of (log_of w 0) o) p
    of_opening = in_filter (λ (q : Placed). is_life o.number q.life) (placements (log_of w 0)) p (first_unanswered (log_of w 0) unit p waits).among
        (ap (is_life o.number) life ∙ same_number o.number)

    go : (b : Bool) → are_over i (log_of w) p.stripe.line ≡ b → closed_line i (log_of w) p.stripe.line ≡ None
    go false e = ap (λ t. if t then option_map (closed_with i (log_of w) p.stripe.line) (seq_of i (log_of w) p.stripe.line) else None) e
    go true e =
        let answered : is_answered (log_of w 0) p ≡ true =
        over_answered i w mount o (ap (life_of (log_of w 0)) its ∙ stands) (ap (are_over i (log_of w)) its ∙ e) p
        (contained_among (stripes_of (log_of w 0) o) p of_opening) in
        absurd (not_both (is_answered (log_of w 0) p) answered (ap is_some (first_answer (log_of w 0) unit p waits)))

-- ---- after an event of the engine, whatever prefixes it names

-- it turns no line
abbrev TurnsNone : EngineEvent → Type 0
TurnsNone e = (line number : ℕ) (ks : List ℕ) (life : LineLife) → turned_by line life number ks (Decides e) ≡ life

-- what is placed and answered after it is so whatever it names
abbrev SaysAlike : List Logged → EngineEvent → Type 0
SaysAlike log e = (ks ns : List ℕ)
    → AreAlike (log ++ record { event = Decides e; knows = ks } ∷ []) (log ++ record { event = Decides e; knows = ns } ∷ [])

module _ (i : Image) (logs : Logs) (e : EngineEvent) (begins : (ks : List ℕ) → begun_by ks (Decides e) ≡ None) (turns : TurnsNone e)
    (alike : SaysAlike (logs 0) e) (ks ns : List ℕ) where
  lives_alike : (line : ℕ) → life_of (after logs e ks 0) line ≡ life_of (after logs e ns 0) line
  lives_alike line =
      life_more (logs 0) (record { event = Decides e; knows = ks }) line ∙ turns line (length (logs 0)) ks (life_of (logs 0) line)
      ∙ sym (life_more (logs 0) (record { event = Decides e; knows = ns }) line ∙ turns line (length (logs 0)) ns (life_of (logs 0) line))

  found_alike : found_image i (after logs e ks) ≡ found_image i (after logs e ns)
  found_alike = found_kept i logs e ks (begins ks) ∙ sym (found_kept i logs e ns (begins ns))

  units_alike : (known_image i (after logs e ks)).units ≡ (known_image i (after logs e ns)).units
  units_alike =
      ap (λ (j : Image). map (λ (u : ℕ × List Chunk). after_log i.shape u.1 (told_events (after logs e ks) u.0)) (enumerate_from 0 j.units)) found_alike
      ∙ map_same (λ (u : ℕ × List Chunk). after_log i.shape u.1 (told_events (after logs e ks) u.0))
      (λ (u : ℕ × List Chunk). after_log i.shape u.1 (told_events (after logs e ns) u.0)) (λ u. ap (after_log i.shape u.1) (told u.0))
      (enumerate_from 0 (found_image i (after logs e ns)).units)
    where
      told : (u : ℕ) → told_events (after logs e ks) u ≡ told_events (after logs e ns) u
      told u =
          filter_map-append (λ (l : Logged). told_by logs u l.event) (logs 0) (record { event = Decides e; knows = ks } ∷ [])
          ∙ sym (filter_map-append (λ (l : Logged). told_by logs u l.event) (logs 0) (record { event = Decides e; knows = ns } ∷ []))

  chunks_alike : (line : ℕ) → chunks_of (known_image i (after logs e ks)) line ≡ chunks_of (known_image i (after logs e ns)) line
  chunks_alike line = ap (λ us. filter_map (λ (u : List Chunk). slice_get u line) us) units_alike

  closed_alike : (line : ℕ) → closed_line i (after logs e ks) line ≡ closed_line i (after logs e ns) line
  closed_alike line = closed_same i (after logs e ks) (after logs e ns) line (lives_alike line) found_alike (chunks_alike line)

  top_alike : (o : Opening) → answered_top i (after logs e ks) o ≡ answered_top i (after logs e ns) o
  top_alike o = top_same i (after logs e ns) (after logs e ks) o (chunks_alike o.line)

  line_alike : (o : Opening) → o.number < length (logs 0) → open_line i (after logs e ks) o ≡ open_line i (after logs e ns) o
  line_alike o before =
      ap (with_outcomes i.shape (after logs e ks 0) o) (as_opened_same i logs e ks o before)
      ∙ ap (λ xs. record (as_opened i logs o) { stripes = xs })
      (map_same (outcome i.shape (after logs e ks 0) o (as_opened i logs o)) (outcome i.shape (after logs e ns 0) o (as_opened i logs o))
      (outcome_same i.shape (after logs e ns 0) (after logs e ks 0) (alike ns ks) o (as_opened i logs o)) (numbers (as_opened i logs o)))
      ∙ ap (with_outcomes i.shape (after logs e ns 0) o) (sym (as_opened_same i logs e ns o before))

-- ---- once a stripe is answered

module _ (i : Image) (w : World) (e : EngineEvent) (line : ℕ) (o : Opening) (mount : IsLegalMount i w)
    (allowed : IsAllowed i 0 (Decides e) (log_of w)) (begins : (ks : List ℕ) → begun_by ks (Decides e) ≡ None) (turns : TurnsNone e)
    (alike : SaysAlike (log_of w 0) e) (stands : life_of (log_of w 0) line ≡ Opened o) where
  abbrev later : World
  later = next_step i w e ∷ w

  abbrev here : Logs
  here = after (log_of w) e (lengths_of i w)

  logs_are : log_of (next_step i w e ∷ w) ≡ after (log_of w) e (lengths_of i w)
  logs_are = next_logs i w e

  its : o.line ≡ line
  its = (life_at (log_of w 0) line o stands).1

  later_mount : IsLegalMount i (next_step i w e ∷ w)
  later_mount = record { accepted = mount.accepted; fit = mount.fit; legal = next_legal i w e mount.legal allowed }

  later_life : life_of (log_of (next_step i w e ∷ w) 0) o.line ≡ Opened o
  later_life =
      ap (λ (logs : Logs). life_of (logs 0) o.line) logs_are
      ∙ life_more (log_of w 0) (record { event = Decides e; knows = lengths_of i w }) o.line
      ∙ turns o.line (length (log_of w 0)) (lengths_of i w) (life_of (log_of w 0) o.line)
      ∙ ap (life_of (log_of w 0)) its ∙ stands

  to_here : (knows : List ℕ) (c : Option ClosedLine) → closed_line i (log_of (next_step i w e ∷ w)) o.line ≡ c
      → closed_line i (after (log_of w) e knows) line ≡ c
  to_here knows c is =
      closed_alike i (log_of w) e begins turns alike knows (lengths_of i w) line ∙ ap (closed_line i here) (sym its)
      ∙ ap (λ (logs : Logs). closed_line i logs o.line) (sym logs_are) ∙ is

  closed_after : (knows : List ℕ) → closed_line i (after (log_of w) e knows) line
      ≡ closed_if (not (has_left (open_line i (after (log_of w) e knows) o))) (closed_as i (after (log_of w) e knows) o)
  closed_after knows =
      to_here knows (closed_if (not (has_left (open_line i (log_of later) o))) (closed_as i (log_of later) o)) (closed_by_left i later later_mount o later_life)
      ∙ ap (λ (logs : Logs). closed_if (not (has_left (open_line i logs o))) (closed_as i logs o)) logs_are
      ∙ ap (λ (l : OpenLine). closed_if (not (has_left l)) (closed_as i here o))
      (line_alike i (log_of w) e begins turns alike (lengths_of i w) knows o (life_is_before (log_of w 0) line o stands))
      ∙ ap (λ top. closed_if (not (has_left (open_line i (after (log_of w) e knows) o))) (record { seq = o.start.seq; top = top }))
      (top_alike i (log_of w) e begins turns alike (lengths_of i w) knows o)

says_alike : (log : List Logged) (unit : ℕ) (a : Answer) → SaysAlike log (noting unit a)
says_alike log unit a ks ns = record {
  placements = placements_noted log unit ns a ∙ sym (placements_noted log unit ks a);
  answers = fun_same (answers (with_answer log unit ns a)) (answers (with_answer log unit ks a)) (λ u.
      answers_noted log unit ns a u ∙ sym (answers_noted log unit ks a u));
}

pub closed_left : (i : Image) (w : World) (unit : ℕ) (a : Answer) (knows : List ℕ) (line : ℕ) (o : Opening) → IsLegalMount i w
    → MayNote (log_of w) unit a → life_of (log_of w 0) line ≡ Opened o
    → closed_line i (after (log_of w) (noting unit a) knows) line
    ≡ closed_if (not (has_left (open_line i (after (log_of w) (noting unit a) knows) o))) (closed_as i (after (log_of w) (noting unit a) knows) o)
closed_left i w unit a knows line o mount may stands =
    let b = began i w line o mount.legal stands in
    closed_after i w (noting unit a) line o mount (allowed_note i (log_of w) unit a b.0 b.1 may) (λ ks. none_begun unit ks a)
    (λ m number ks life. none_turned unit ks m number life a) (says_alike (log_of w 0) unit a) stands knows

-- other lines are closed as they were
pub closed_others : (i : Image) (w : World) (unit : ℕ) (a : Answer) (knows : List ℕ) (p : Placed) (line : ℕ) → IsLegalMount i w
    → MayNote (log_of w) unit a → unanswered_on (log_of w 0) unit ≡ Some p → line ≢ p.stripe.line
    → closed_line i (after (log_of w) (noting unit a) knows) line ≡ closed_line i (log_of w) line
closed_others i w unit a knows p line mount may_be waits apart =
    let may : IsNoted (log_of w) unit a = noted (log_of w) unit a may_be in
    let its : IsOfPlaced (log_of w) unit (number_in a) may.program p = of_placed i w unit (number_in a) may.program p mount may.new may.stripe waits in
    closed_same i (after (log_of w) (noting unit a) knows) (log_of w) line (lives_noted (log_of w) unit knows a line)
    (found_kept i (log_of w) (noting unit a) knows (none_begun unit knows a))
    (chunks_beside i (log_of w) (noting unit a) knows line (none_begun unit knows a) (λ u x told same.
    apart (same ∙ ap (λ (y : UnitEvent). y.chunk)
    (one_told (log_of w) unit (number_in a) u x may.program its.is_event (sym (tells_it (log_of w) unit u a) ∙ told)) ∙ its.chunk)))
