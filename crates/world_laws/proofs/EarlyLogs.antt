-- Before a world's units know that the mount has begun, they read and pad alone.
use Rattle.std.proofs.Common.{◌≡◌, ℕ, ◌+◌, ◌⊎◌, ◌==◌, suc, inl, inr, Bool, true, false, Option, Some, None, List, [], ◌∷◌, ◌++◌, length, take, refl, sym, ap, ◌∙◌, subst, arith, if◌then◌else◌, length-append, take_all}
use Rattle.std.specs.List.{AllByRecursion, slice_get, filter_map, cons_option}
use Rattle.std.specs.Option.{option_map, option_and_then}
use Rattle.std.proofs.Math.Seq.{take-length}
use Rattle.std.proofs.lemmas.Bool.{cases_lt}
use Rattle.std.proofs.lemmas.List.{take-append-le}
use Rattle.std.proofs.lemmas.List.Elements.{filter_map-append}
use Rattle.std.proofs.lemmas.Option.{same_Some}
use Rattle.pblk_model.specs.Chunk.{Chunk, IsChunk}
use Rattle.pblk_model.specs.ChunkStep.{ChunkCommand, Write, Read, Reset}
use Rattle.pblk_model.specs.UnitLog.{UnitEvent, after_log}
use Rattle.pblk_model.specs.Image.{Image, IsFit}
use Rattle.pblk_world.specs.Events.{Event, Decides, Does, Logged, Step}
use Rattle.pblk_world.specs.World.{World, Logs, log_of, prefixes, knows_engine, media, unit_events, unit_event_of}
use Rattle.pblk_world.specs.EngineLog.{begun}
use Rattle.pblk_world.specs.Commanding.{MayDo, IsCommand}
use Rattle.pblk_world.specs.Legal.{IsLegal, IsLegalStep, IsAllowed}
use Rattle.pblk_laws.specs.LineBlocks.{chunk_in}
use Rattle.pblk_laws.proofs.UnitLog.{log_leaves}
use Rattle.world_laws.specs.Padding.{IsPaddedAt, ArePadded}
use Rattle.world_laws.specs.EarlyLogs.{ArePrefixes, AreEarly}
use Rattle.world_laws.proofs.PaddedChunks.{IsPaddedIn, PadsOnly, IsEarlyCommand, pads_or_reads}
use Rattle.pblk_model.proofs.Lists.{all_but_last, last_of}
use Rattle.pblk_model.proofs.Maps.{numbered_at}
use Rattle.pblk_model.proofs.Parts.{all_get, take_nothing}
use Rattle.pblk_world.proofs.LegalLemmas.{whole_own}
use Rattle.pblk_world.proofs.WorldLemmas.{length_media}

-- ---- lists

-- ---- a unit's chunks

abbrev pub media_of : Image → Logs → ℕ → List Chunk → List Chunk
media_of i logs unit chunks = after_log i.shape chunks (unit_events logs unit)

pub media_at : (i : Image) (logs : Logs) (unit : ℕ) → slice_get (media i logs).units unit ≡ option_map (media_of i logs unit) (slice_get i.units unit)
media_at i logs unit =
    let same : 0 + unit ≡ unit = omega arith in
    numbered_at (λ (u : ℕ × List Chunk). after_log i.shape u.1 (unit_events logs u.0)) 0 i.units unit
    ∙ ap (λ m. option_map (media_of i logs m) (slice_get i.units unit)) same

abbrev events_in : List Logged → List UnitEvent
events_in log = filter_map (λ l. unit_event_of l.event) log

abbrev ArePast : List Logged → Type 0
ArePast log = AllByRecursion (λ l. knows_engine l ≡ 0) log

abbrev IsLeft : Image → List Chunk → List Logged → Type 0
IsLeft i cs log = PadsOnly i.shape cs (after_log i.shape cs (events_in log))

-- ---- one more event

command_early : (i : Image) (logs : Logs) (unit : ℕ) (c : Chunk) (chunk : ℕ) (command : ChunkCommand) → IsCommand i logs unit c chunk command None
    → IsEarlyCommand i.shape c command
command_early i logs unit c chunk (Write at blocks) h = (h.is_open, h.pads)
command_early i logs unit c chunk (Read b) h = tt
command_early i logs unit c chunk Reset h = absurd h

last_event : (log : List Logged) (l : Logged) (e : UnitEvent) → unit_event_of l.event ≡ Some e → events_in (log ++ l ∷ []) ≡ events_in log ++ e ∷ []
last_event log l e is = filter_map-append (λ (m : Logged). unit_event_of m.event) log (l ∷ [])
    ∙ ap (λ (o : Option UnitEvent). events_in log ++ cons_option o []) is

past_begun : (n : ℕ) (log : List Logged) → n ≡ 0 → begun (take n log) ≡ None
past_begun n log e = ap (λ m. begun (take m log)) e

done_more : (i : Image) (s : Step) (w : World) (unit : ℕ) (cs : List Chunk) (e : UnitEvent) → IsFit i → slice_get i.units unit ≡ Some cs
    → unit_event_of s.logged.event ≡ Some e → MayDo i (prefixes s.logged (log_of w)) unit e
    → prefixes s.logged (log_of w) (suc unit) ≡ log_of w (suc unit) → knows_engine s.logged ≡ 0 → IsLeft i cs (log_of w (suc unit))
    → IsLeft i cs (log_of w (suc unit) ++ s.logged ∷ [])
done_more i s w unit cs e fit there is may own past left =
    let logs : Logs = prefixes s.logged (log_of w) in
    let log : List Logged = log_of w (suc unit) in
    let ds : List Chunk = after_log i.shape cs (events_in log) in
    let now : may.chunks ≡ ds = same_Some may.chunks ds
    (sym may.has_chunks ∙ media_at i logs unit ∙ ap (option_map (media_of i logs unit)) there
    ∙ ap (λ (l : List Logged). Some (after_log i.shape cs (events_in l))) own) in
    let found : slice_get ds e.chunk ≡ Some may.event.found = ap (λ (xs : List Chunk). slice_get xs e.chunk) (sym now) ∙ may.event.there in
    let early : IsEarlyCommand i.shape may.event.found e.command = command_early i logs unit may.event.found e.chunk e.command
    (subst (IsCommand i logs unit may.event.found e.chunk e.command) (past_begun (knows_engine s.logged) (log_of w 0) past) may.command) in
    let fits : AllByRecursion (IsChunk i.shape) cs = all_get (AllByRecursion (IsChunk i.shape)) i.units unit cs fit.each there in
    subst (PadsOnly i.shape cs) (sym (ap (after_log i.shape cs) (last_event log s.logged e is) ∙ log_leaves i.shape cs (events_in log) e))
    (pads_or_reads i.shape cs ds e may.event.found fits left found e.command refl early)

event_more : (i : Image) (s : Step) (w : World) (unit : ℕ) (cs : List Chunk) (ev : Event) → IsFit i → slice_get i.units unit ≡ Some cs → s.logged.event ≡ ev
    → IsAllowed i (suc unit) ev (prefixes s.logged (log_of w))
    → prefixes s.logged (log_of w) (suc unit) ≡ log_of w (suc unit) → knows_engine s.logged ≡ 0 → IsLeft i cs (log_of w (suc unit))
    → IsLeft i cs (log_of w (suc unit) ++ s.logged ∷ [])
event_more i s w unit cs (Decides e) fit there is allowed own past left = absurd allowed
event_more i s w unit cs (Does e maker) fit there is allowed own past left = done_more i s w unit cs e fit there (ap unit_event_of is) allowed own past left

step_more : (i : Image) (s : Step) (w : World) (unit : ℕ) (cs : List Chunk) → IsFit i → IsLegalStep i (log_of w) s → s.author ≡ suc unit
    → slice_get i.units unit ≡ Some cs
    → knows_engine s.logged ≡ 0 → IsLeft i cs (log_of w (suc unit)) → IsLeft i cs (log_of w (suc unit) ++ s.logged ∷ [])
step_more i s w unit cs fit step author there past left =
    event_more i s w unit cs s.logged.event fit there refl (subst (λ a. IsAllowed i a s.logged.event (prefixes s.logged (log_of w))) author step.allowed)
    (subst (λ a. prefixes s.logged (log_of w) a ≡ log_of w a) author (whole_own i s w step)) past left

-- ---- the whole world

-- while no event of a prefix of a unit's log names a part of the engine's, the unit only reads and
-- pads
abbrev AreLeft : Image → List Chunk → List Logged → Type 0
AreLeft i cs log = (n : ℕ) → ArePast (take n log) → IsLeft i cs (take n log)

left_more : (i : Image) (cs : List Chunk) (log : List Logged) (l : Logged) → AreLeft i cs log
    → (knows_engine l ≡ 0 → IsLeft i cs log → IsLeft i cs (log ++ l ∷ [])) → AreLeft i cs (log ++ l ∷ [])
left_more i cs log l left more n past = elim (cases_lt (length log) n) [
  | inr within ↦
      let same : take n (log ++ l ∷ []) ≡ take n log = take-append-le n log (l ∷ []) within in
      subst (IsLeft i cs) (sym same) (left n (subst ArePast same past))
  | inl beyond ↦
      let whole : take n (log ++ l ∷ []) ≡ log ++ l ∷ [] = take_all n (log ++ l ∷ []) (let count = length-append log (l ∷ []) in omega arith) in
      let all : ArePast (log ++ l ∷ []) = subst ArePast whole past in
      let before : ArePast (take (length log) log) = subst ArePast (sym (take-length log)) (all_but_last (λ m. knows_engine m ≡ 0) log l all) in
      subst (IsLeft i cs) (sym whole) (more (last_of (λ m. knows_engine m ≡ 0) log l all) (subst (IsLeft i cs) (take-length log) (left (length log) before)))
]

left_by : (i : Image) (s : Step) (w : World) (unit : ℕ) (cs : List Chunk) (b : Bool) → (s.author == suc unit) ≡ b → IsFit i → IsLegalStep i (log_of w) s
    → slice_get i.units unit ≡ Some cs → AreLeft i cs (log_of w (suc unit))
    → AreLeft i cs (if b then log_of w (suc unit) ++ s.logged ∷ [] else log_of w (suc unit))
left_by i s w unit cs false is fit step there left = left
left_by i s w unit cs true is fit step there left =
    left_more i cs (log_of w (suc unit)) s.logged left
    (λ past before. step_more i s w unit cs fit step (let same : s.author ≡ suc unit = grind arith in same) there past before)

only_pads : (i : Image) (w : World) (unit : ℕ) (cs : List Chunk) → IsFit i → IsLegal i w → slice_get i.units unit ≡ Some cs → AreLeft i cs (log_of w (suc unit))
unfolding IsLegal
only_pads i [] unit cs fit legal there = λ n past. subst (IsLeft i cs) (sym (take_nothing n)) (λ line. inl refl)
only_pads i (s ∷ w) unit cs fit legal there = left_by i s w unit cs (s.author == suc unit) refl fit legal.0 there (only_pads i w unit cs fit legal.1 there)

-- ---- the image

pub early_padded : (i : Image) (w : World) (logs : Logs) → IsFit i → IsLegal i w → ArePrefixes w logs → AreEarly logs → ArePadded i (media i logs)
early_padded i w logs fit legal prefix early = record {
  shape = refl;
  count = length_media i logs;
  chunks = λ line unit. by_unit line unit (slice_get i.units unit) refl;
} where
  at_line : (line unit : ℕ) (cs : List Chunk) → slice_get i.units unit ≡ Some cs
      → (slice_get (media_of i logs unit cs) line ≡ slice_get cs line) ⊎ IsPaddedIn i.shape cs (media_of i logs unit cs) line
      → (chunk_in (media i logs) line unit ≡ chunk_in i line unit) ⊎ IsPaddedAt i (media i logs) line unit
  at_line line unit cs there left =
      let was : chunk_in i line unit ≡ slice_get cs line = ap (option_and_then (λ (chunks : List Chunk). slice_get chunks line)) there in
      let is : chunk_in (media i logs) line unit ≡ slice_get (media_of i logs unit cs) line =
      ap (option_and_then (λ (chunks : List Chunk). slice_get chunks line)) (media_at i logs unit ∙ ap (option_map (media_of i logs unit)) there) in
      elim left [
        | inl same ↦ inl (is ∙ same ∙ sym was)
        | inr p ↦ inr (record { old = p.old; new = p.new; was = was ∙ p.was; is = is ∙ p.is; padded = p.padded })
      ]

  by_unit : (line unit : ℕ) (o : Option (List Chunk)) → slice_get i.units unit ≡ o
      → (chunk_in (media i logs) line unit ≡ chunk_in i line unit) ⊎ IsPaddedAt i (media i logs) line unit
  by_unit line unit None none =
      inl (ap (option_and_then (λ (chunks : List Chunk). slice_get chunks line)) (media_at i logs unit ∙ ap (option_map (media_of i logs unit)) none)
      ∙ sym (ap (option_and_then (λ (chunks : List Chunk). slice_get chunks line)) none))
  by_unit line unit (Some cs) there =
      let n = prefix (suc unit) in
      let left : IsLeft i cs (take n.0 (log_of w (suc unit))) = only_pads i w unit cs fit legal there n.0 (subst ArePast n.1 (early unit)) in
      at_line line unit cs there (subst (IsLeft i cs) (sym n.1) left line)
