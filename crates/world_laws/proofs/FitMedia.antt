-- The media of a legal world are those of a drive of its shape.
use Rattle.std.proofs.Common.{◌≡◌, ℕ, ◌+◌, ◌==◌, zero, suc, Bool, true, false, Option, Some, None, List, [], ◌∷◌, ◌++◌, map, length, take, refl, sym, subst, ap, ◌∙◌, arith, if◌then◌else◌}
use Rattle.std.specs.Prelude.{slice_index}
use Rattle.std.specs.List.{AllByRecursion, slice_get, filter_map, cons_option, enumerate_from}
use Rattle.std.specs.Option.{option_map}
use Rattle.std.proofs.Math.Seq.{take-length}
use Rattle.std.proofs.lemmas.Bool.{eqb-true}
use Rattle.std.proofs.lemmas.Option.{same_Some}
use Rattle.pblk_model.specs.declared.shape.Shape.{Shape}
use Rattle.pblk_model.specs.Accepted.{IsAccepted}
use Rattle.pblk_model.specs.Chunk.{Chunk, IsChunk}
use Rattle.pblk_model.specs.UnitLog.{UnitEvent, IsEvent, IsUnitLog, after_event, after_log}
use Rattle.pblk_model.specs.Image.{Image, IsFit}
use Rattle.pblk_laws.proofs.UnitChunks.{log_keeps, log_count}
use Rattle.pblk_laws.proofs.UnitLog.{log_grows}
use Rattle.pblk_world.specs.Events.{Event, Decides, Does, Logged, Step}
use Rattle.pblk_world.specs.World.{World, Logs, log_of, known, cut_logs, prefixes, unit_event_of, unit_events, media}
use Rattle.pblk_world.specs.EngineLog.{Begun, begun}
use Rattle.pblk_world.specs.Lines.{found_by, found_image}
use Rattle.pblk_world.specs.Legal.{IsAllowed, IsLegal}
use Rattle.pblk_model.proofs.Maps.{numbered_length}
use Rattle.pblk_world.proofs.WorldLemmas.{media_at}

-- ---- numbered elements

-- ---- each unit's log is one over its chunks

abbrev events : List Logged → List UnitEvent
events log = filter_map (λ l. unit_event_of l.event) log

one_more : (log : List Logged) (l : Logged) (e : UnitEvent) → unit_event_of l.event ≡ Some e → events (log ++ l ∷ []) ≡ events log ++ e ∷ []
one_more [] l e is = ap (λ o. cons_option o []) is
one_more (m ∷ log) l e is = go (unit_event_of m.event) (one_more log l e is)
  where
    go : (o : Option UnitEvent) → events (log ++ l ∷ []) ≡ events log ++ e ∷ [] → cons_option o (events (log ++ l ∷ [])) ≡ cons_option o (events log) ++ e ∷ []
    go None rest = rest
    go (Some x) rest = ap (λ xs. x ∷ xs) rest

pub AreUnitLogs : Image → World → Type 0
AreUnitLogs i w = (unit : ℕ) (chunks : List Chunk) → slice_get i.units unit ≡ Some chunks → IsUnitLog i.shape chunks (events (log_of w (suc unit)))

grown : (i : Image) (s : Step) (w : World) (unit : ℕ) (chunks : List Chunk) (e : Event) → s.logged.event ≡ e
    → known s.logged (suc unit) ≡ length (log_of w (suc unit)) → slice_get i.units unit ≡ Some chunks
    → IsAllowed i (suc unit) e (prefixes s.logged (log_of w)) → IsUnitLog i.shape chunks (events (log_of w (suc unit)))
    → IsUnitLog i.shape chunks (events (log_of w (suc unit) ++ s.logged ∷ []))
grown i s w unit chunks (Decides e) is own there may log = absurd may
grown i s w unit chunks (Does e maker) is own there may log =
    let whole : take (known s.logged (suc unit)) (log_of w (suc unit)) ≡ log_of w (suc unit) = ap (λ n. take n (log_of w (suc unit))) own
    ∙ take-length (log_of w (suc unit)) in
    let now : Some (after_log i.shape chunks (events (log_of w (suc unit)))) ≡ Some may.chunks =
    ap (λ xs. Some (after_log i.shape chunks (events xs))) (sym whole)
    ∙ sym (ap (option_map (λ cs. after_log i.shape cs (unit_events (prefixes s.logged (log_of w)) unit))) there)
    ∙ sym (media_at i (prefixes s.logged (log_of w)) unit) ∙ may.has_chunks in
    let chunks_are : may.chunks ≡ after_log i.shape chunks (events (log_of w (suc unit))) = sym (same_Some _ may.chunks now) in
    let event : IsEvent i.shape (after_log i.shape chunks (events (log_of w (suc unit)))) e = subst (λ cs. IsEvent i.shape cs e) chunks_are may.event in
    subst (IsUnitLog i.shape chunks) (sym (one_more (log_of w (suc unit)) s.logged e (ap unit_event_of is)))
    (log_grows i.shape chunks (events (log_of w (suc unit))) e log event)

pub unit_logs : (i : Image) (w : World) → IsLegal i w → AreUnitLogs i w
unfolding IsLegal AreUnitLogs IsUnitLog
unit_logs i [] legal unit chunks there = tt
unit_logs i (s ∷ w) legal unit chunks there = go (unit_logs i w legal.1 unit chunks there) (s.author == suc unit) refl
  where
    go : IsUnitLog i.shape chunks (events (log_of w (suc unit))) → (b : Bool) → (s.author == suc unit) ≡ b
        → IsUnitLog i.shape chunks (events (if b then log_of w (suc unit) ++ s.logged ∷ [] else log_of w (suc unit)))
    go before false e = before
    go before true e =
        let same : s.author ≡ suc unit = eqb-true s.author (suc unit) e in
        grown i s w unit chunks s.logged.event refl (ap (known s.logged) (sym same) ∙ legal.0.knowledge.own ∙ ap (λ a. length (log_of w a)) same) there
        (subst (λ a. IsAllowed i a s.logged.event (prefixes s.logged (log_of w))) same legal.0.allowed) before

-- a prefix of such a log is one
shorter : (s : Shape) (chunks : List Chunk) (n : ℕ) (log : List Logged) → IsUnitLog s chunks (events log) → IsUnitLog s chunks (events (take n log))
unfolding IsUnitLog
shorter s chunks zero log is = tt
shorter s chunks (suc n) [] is = tt
shorter s chunks (suc n) (l ∷ log) is = go (λ cs h. shorter s cs n log h) (unit_event_of l.event) is
  where
    go : ((cs : List Chunk) → IsUnitLog s cs (events log) → IsUnitLog s cs (events (take n log))) → (o : Option UnitEvent)
        → IsUnitLog s chunks (cons_option o (events log)) → IsUnitLog s chunks (cons_option o (events (take n log)))
    go rest None h = rest chunks h
    go rest (Some e) h = (h.0, rest (after_event s chunks e) h.1)

-- ---- so the media are fit

numbered_all : {X Y : Type 0} (P : X → Type 0) (Q : Y → Type 0) (f : ℕ × X → Y) (n : ℕ) (xs : List X)
    → ((k : ℕ) (x : X) → slice_get xs k ≡ Some x → P x → Q (f (n + k, x))) → AllByRecursion P xs
    → AllByRecursion Q (map f (enumerate_from n xs))
numbered_all P Q f n [] each all = tt
numbered_all P Q f n (x ∷ xs) each all =
    let first : n + 0 ≡ n = omega arith in (
      subst (λ m. Q (f (m, x))) first (each 0 x refl all.0),
      numbered_all P Q f (n + 1) xs (λ k y there p. let step : n + suc k ≡ n + 1 + k = omega arith in subst (λ m. Q (f (m, y))) step (each (suc k) y there p))
          all.1,
    )

fit_by_logs : (i : Image) (logs : Logs) → IsAccepted i.shape → IsFit i
    → ((unit : ℕ) (chunks : List Chunk) → slice_get i.units unit ≡ Some chunks → IsUnitLog i.shape chunks (events (logs (suc unit)))) → IsFit (media i logs)
fit_by_logs i logs accepted fit log = record {
  units = numbered_length (λ (u : ℕ × List Chunk). after_log i.shape u.1 (unit_events logs u.0)) 0 i.units ∙ fit.units;
  chunks = numbered_all (λ (u : List Chunk). length u ≡ i.shape.chunks) (λ (u : List Chunk). length u ≡ i.shape.chunks)
      (λ (u : ℕ × List Chunk). after_log i.shape u.1 (unit_events logs u.0)) 0 i.units
      (λ k chunks there count. log_count i.shape chunks (unit_events logs (0 + k)) ∙ count) fit.chunks;
  each = numbered_all (AllByRecursion (IsChunk i.shape)) (AllByRecursion (IsChunk i.shape))
      (λ (u : ℕ × List Chunk). after_log i.shape u.1 (unit_events logs u.0)) 0 i.units
      (λ k chunks there all.
      let same : 0 + k ≡ k = omega arith in
      subst (λ m. AllByRecursion (IsChunk i.shape) (after_log i.shape chunks (unit_events logs m))) (sym same)
      (log_keeps i.shape chunks (unit_events logs k) accepted.drive.ws_min all (log k chunks there))) fit.each;
}

pub prefixes_fit : (i : Image) (w : World) (lengths : List ℕ) → IsAccepted i.shape → IsFit i → IsLegal i w → IsFit (media i (cut_logs lengths (log_of w)))
unfolding AreUnitLogs
prefixes_fit i w lengths accepted fit legal =
    fit_by_logs i (cut_logs lengths (log_of w)) accepted fit
    (λ unit chunks there. shorter i.shape chunks (slice_index lengths (suc unit)) (log_of w (suc unit)) (unit_logs i w legal unit chunks there))

pub media_fit : (i : Image) (w : World) → IsAccepted i.shape → IsFit i → IsLegal i w → IsFit (media i (log_of w))
unfolding AreUnitLogs
media_fit i w accepted fit legal = fit_by_logs i (log_of w) accepted fit (unit_logs i w legal)

pub found_fit : (i : Image) (w : World) → IsAccepted i.shape → IsFit i → IsLegal i w → IsFit (found_image i (log_of w))
found_fit i w accepted fit legal = go (begun (log_of w 0))
  where
    go : (o : Option Begun) → IsFit (found_by i (log_of w) o)
    go None = fit
    go (Some b) = prefixes_fit i w b.knows accepted fit legal
