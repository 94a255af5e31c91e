-- Which lines are closed, after each event of the engine that lands no stripe of them.
use Rattle.std.proofs.Common.{◌≡◌, ◌≢◌, ℕ, ◌<◌, ◌==◌, ◌&&◌, not, nat_eq, nat_lt, Bool, true, false, cond, Some, None, Option, List, [], ◌∷◌, length, refl, sym, subst, ap, ◌∙◌, arith, if◌then◌else◌}
use Rattle.std.specs.Prelude.{map}
use Rattle.std.specs.List.{filter, filter_map, flat_map, list_all}
use Rattle.std.specs.Option.{is_some, option_and_then, option_map}
use Rattle.std.proofs.lemmas.Bool.{eqb-true, eqb-false}
use Rattle.std.proofs.lemmas.Option.{none-some, same_Some}
use Rattle.pblk_model.specs.declared.chunk.ChunkState.{ChunkState}
use Rattle.pblk_model.specs.declared.chunk.ChunkState.TheVariants as states
use Rattle.pblk_model.specs.declared.chunk.Mark.{Mark}
use Rattle.pblk_model.specs.Chunk.{Chunk}
use Rattle.pblk_model.specs.Contents.{counted}
use Rattle.pblk_model.specs.UnitLog.{UnitEvent}
use Rattle.pblk_model.specs.Image.{Image, is_online_in, width}
use Rattle.pblk_model.specs.Records.{Record}
use Rattle.pblk_model.specs.StartRecord.{StartRecord, start_of}
use Rattle.pblk_world.specs.Answering.{MayNoteReset}
use Rattle.pblk_world.specs.EngineLog.{AsFound, Begun, begun, begun_by, Freed, LineLife, is_as_found, Opened, life_of}
use Rattle.pblk_world.specs.Events.{Again, Decides, EngineEvent, Entry, Free, Logged, Open, Place, ResetDone, Stripe, Take}
use Rattle.pblk_world.specs.Lines.{are_empty, chunks_of, found_image, has_number, is_empty_state, is_given_up, is_over_state, known_image, line_data, told_by}
use Rattle.pblk_world.specs.Opening.{MayOpen}
use Rattle.pblk_world.specs.Starts.{seq_in, seq_of}
use Rattle.pblk_world.specs.Victims.{position_in, positions_in}
use Rattle.pblk_world.specs.World.{World, Logs, log_of, unit_event_at, unit_event_of}
use Rattle.pblk_world.proofs.Appending.{life_more}
use Rattle.pblk_model.proofs.Tests.{both, first_of, not_both, second_of}
use Rattle.pblk_world.specs.LegalMounts.{IsLegalMount}
use Rattle.core_laws.specs.ClosedLines.{ClosedLine, closed_line, top_of}
use Rattle.core_laws.specs.Stepping.{after}
use Rattle.core_laws.proofs.FreedLives.{life_beside, life_freed}
use Rattle.core_laws.proofs.FreedWidths.{not_given_up}
use Rattle.core_laws.proofs.KeptRows.{known_kept}
use Rattle.core_laws.proofs.LandedRows.{chunks_beside}
use Rattle.core_laws.proofs.OpenedRows.{either, has_width, life_elsewhere, life_now, new_opening}
use Rattle.core_laws.proofs.SteppingLemmas.{found_kept}

-- ---- by what a line is closed

-- by what became of it
abbrev pub closed_in : Image → Logs → LineLife → ℕ → Option ClosedLine
closed_in i logs life line = if list_all (λ (c : Chunk). is_over_state (is_as_found life) c.state) (chunks_of (known_image i logs) line)
    then option_map (λ seq. record { seq = seq; top = top_of (positions_in i logs life line) }) (seq_in i logs life line)
    else None

same_in : (i : Image) (a b : Logs) (line : ℕ) → found_image i a ≡ found_image i b → chunks_of (known_image i a) line ≡ chunks_of (known_image i b) line
    → (life : LineLife) → closed_in i a life line ≡ closed_in i b life line
same_in i a b line found chunks AsFound = λ k. if list_all (λ (c : Chunk). is_over_state true c.state) (chunks k)
    then option_map (λ seq. record {
      seq = seq;
      top = top_of (map (λ (r : Record). r.position) (filter (λ (r : Record). r.line == line) (counted (found k))));
    }) (option_map (λ (start : StartRecord). start.seq) (start_of (found k) line))
    else None
same_in i a b line found chunks (Opened o) = ap (λ (cs : List Chunk). if list_all (λ (c : Chunk). is_over_state false c.state) cs
    then Some (record { seq = o.start.seq; top = top_of (filter_map (position_in i.shape) (flat_map (λ (c : Chunk). c.blocks) cs)) })
    else None) chunks
same_in i a b line found chunks (Freed was knows) =
    ap (λ (cs : List Chunk). if list_all (λ (c : Chunk). is_over_state false c.state) cs then None else None) chunks

-- its life, what was found, and what is known of its chunks
pub closed_same : (i : Image) (a b : Logs) (line : ℕ) → life_of (a 0) line ≡ life_of (b 0) line → found_image i a ≡ found_image i b
    → chunks_of (known_image i a) line ≡ chunks_of (known_image i b) line
    → closed_line i a line ≡ closed_line i b line
closed_same i a b line life found chunks =
    ap (λ (l : LineLife). closed_in i a l line) life ∙ same_in i a b line found chunks (life_of (b 0) line)

-- one without a sequence number is none
pub closed_unnumbered : (i : Image) (logs : Logs) (line : ℕ) → seq_of i logs line ≡ None → closed_line i logs line ≡ None
closed_unnumbered i logs line none =
    let over : Bool = list_all (λ (c : Chunk). is_over_state (is_as_found (life_of (logs 0) line)) c.state) (chunks_of (known_image i logs) line) in
    ap (λ (seq : Option ℕ). if over then option_map (λ n. record { seq = n; top = top_of (positions_in i logs (life_of (logs 0) line) line) }) seq else None)
    none
    ∙ either over None

-- ---- events after which the same lines are closed

-- one that begins no mount, turns no line and tells of no unit event
closed_quiet : (i : Image) (logs : Logs) (e : EngineEvent) (knows : List ℕ) (line : ℕ) → begun_by knows (Decides e) ≡ None
    → ((unit : ℕ) → told_by logs unit (Decides e) ≡ None)
    → life_of (after logs e knows 0) line ≡ life_of (logs 0) line
    → closed_line i (after logs e knows) line ≡ closed_line i logs line
closed_quiet i logs e knows line begins untold life =
    closed_same i (after logs e knows) logs line life (found_kept i logs e knows begins)
    (ap (λ (j : Image). chunks_of j line) (known_kept i logs e knows begins untold))

pub closed_taken : (i : Image) (logs : Logs) (entry : Entry) (mark : Mark) (knows : List ℕ) (line : ℕ)
    → closed_line i (after logs (Take entry mark) knows) line ≡ closed_line i logs line
closed_taken i logs entry mark knows line =
    closed_quiet i logs (Take entry mark) knows line refl (λ unit. refl)
    (life_more (logs 0) (record { event = Decides (Take entry mark); knows = knows }) line)

pub closed_placed : (i : Image) (logs : Logs) (stripe : Stripe) (knows : List ℕ) (line : ℕ)
    → closed_line i (after logs (Place stripe) knows) line ≡ closed_line i logs line
closed_placed i logs stripe knows line =
    closed_quiet i logs (Place stripe) knows line refl (λ unit. refl)
    (life_more (logs 0) (record { event = Decides (Place stripe); knows = knows }) line)

pub closed_stopped : (i : Image) (logs : Logs) (unit event : ℕ) (knows : List ℕ) (line : ℕ)
    → closed_line i (after logs (Again unit event) knows) line ≡ closed_line i logs line
closed_stopped i logs unit event knows line =
    closed_quiet i logs (Again unit event) knows line refl (λ unit. refl)
    (life_more (logs 0) (record { event = Decides (Again unit event); knows = knows }) line)

-- ---- a line that is opened wasn't closed before, since it had no sequence number, nor is it now

-- chunks that are all empty, one of which is online, aren't over
empty_goes_on : (cs : List Chunk) → list_all (λ (c : Chunk). is_empty_state c.state) cs ≡ true
    → 0 < length (filter (λ (c : Chunk). is_online_in c.state) cs)
    → list_all (λ (c : Chunk). is_over_state false c.state) cs ≡ false
empty_goes_on [] empty some = absurd (omega arith)
empty_goes_on (c ∷ cs) empty some =
    go c.state (first_of (is_empty_state c.state) rest empty) some (empty_goes_on cs (second_of (is_empty_state c.state) rest empty))
  where
    rest : Bool
    rest = list_all (λ (c : Chunk). is_empty_state c.state) cs

    go : (state : ChunkState) → is_empty_state state ≡ true
        → 0 < length (cond (is_online_in state) (c ∷ filter (λ (c : Chunk). is_online_in c.state) cs) (filter (λ (c : Chunk). is_online_in c.state) cs))
        → (0 < length (filter (λ (c : Chunk). is_online_in c.state) cs) → list_all (λ (c : Chunk). is_over_state false c.state) cs ≡ false)
        → (is_over_state false state && list_all (λ (c : Chunk). is_over_state false c.state) cs) ≡ false
    go states.Free one more further = refl
    go states.Open one more further = absurd cc
    go states.Closed one more further = absurd cc
    go states.Offline one more further = further more

pub unnumbered : (i : Image) (logs : Logs) (line : ℕ) (life : LineLife) → not (has_number i logs life line) ≡ true → seq_in i logs life line ≡ None
unnumbered i logs line AsFound none = go (start_of (found_image i logs) line) none
  where
    go : (o : Option StartRecord) → not (is_some o) ≡ true → option_map (λ (start : StartRecord). start.seq) o ≡ None
    go None e = refl
    go (Some start) e = absurd cc
unnumbered i logs line (Opened o) none = absurd cc
unnumbered i logs line (Freed was knows) none = refl

pub closed_opened : (i : Image) (w : World) (b : Begun) (line : ℕ) (start : StartRecord) (knows : List ℕ) (other : ℕ) → IsLegalMount i w
    → begun (log_of w 0) ≡ Some b → MayOpen i (log_of w) b line start
    → closed_line i (after (log_of w) (Open line start) knows) other ≡ closed_line i (log_of w) other
closed_opened i w b line start knows other mount begins may = go (nat_eq other line) refl
  where
    here : closed_line i (after (log_of w) (Open line start) knows) line ≡ closed_line i (log_of w) line
    here =
        let parts = both (not (has_number i (log_of w) (life_of (log_of w 0) line) line) && are_empty (known_image i (log_of w)) line)
        (nat_lt 0 (line_data (known_image i (log_of w)) line)) may.is_free in
        let free = both (not (has_number i (log_of w) (life_of (log_of w 0) line) line)) (are_empty (known_image i (log_of w)) line) parts.0 in
        let some : 0 < width (known_image i (log_of w)) line = has_width i.shape (width (known_image i (log_of w)) line) parts.1 in
        let over : list_all (λ (c : Chunk). is_over_state false c.state) (chunks_of (known_image i (log_of w)) line) ≡ false =
        empty_goes_on (chunks_of (known_image i (log_of w)) line) free.1 some in
        let new : Logs = after (log_of w) (Open line start) knows in
        let chunks : chunks_of (known_image i new) line ≡ chunks_of (known_image i (log_of w)) line =
        ap (λ (j : Image). chunks_of j line) (known_kept i (log_of w) (Open line start) knows refl (λ unit. refl)) in
        ap (λ (l : LineLife). closed_in i new l line) (life_now (log_of w 0) line start knows)
        ∙ ap (λ t. if t then Some (record {
          seq = start.seq;
          top = top_of (positions_in i new (Opened (new_opening (log_of w 0) line start knows)) line);
        }) else None) (ap (list_all (λ (c : Chunk). is_over_state false c.state)) chunks ∙ over)
        ∙ sym (closed_unnumbered i (log_of w) line (unnumbered i (log_of w) line (life_of (log_of w 0) line) free.0))

    go : (t : Bool) → nat_eq other line ≡ t → closed_line i (after (log_of w) (Open line start) knows) other ≡ closed_line i (log_of w) other
    go true e = subst (λ n. closed_line i (after (log_of w) (Open line start) knows) n ≡ closed_line i (log_of w) n) (sym (eqb-true other line e)) here
    go false e = closed_quiet i (log_of w) (Open line start) knows other refl (λ unit. refl)
        (life_elsewhere (log_of w 0) line start knows other (eqb-false other line e))

-- ---- a line that is freed is closed no more, and each other is as before

pub closed_freed : (i : Image) (logs : Logs) (line : ℕ) (knows : List ℕ) → closed_line i (after logs (Free line) knows) line ≡ None
closed_freed i logs line knows = closed_unnumbered i (after logs (Free line) knows) line
    (ap (λ (l : LineLife). seq_in i (after logs (Free line) knows) l line) (life_freed (logs 0) line knows))

pub closed_beside : (i : Image) (logs : Logs) (line : ℕ) (knows : List ℕ) (other : ℕ) → other ≢ line
    → closed_line i (after logs (Free line) knows) other ≡ closed_line i logs other
closed_beside i logs line knows other apart =
    closed_quiet i logs (Free line) knows other refl (λ unit. refl) (life_beside (logs 0) line knows other apart)

-- ---- events that tell of one unit event

-- the one that an event of the engine tells of
pub one_told : (logs : Logs) (unit event u : ℕ) (x y : UnitEvent) → unit_event_at logs unit event ≡ Some y
    → (if unit == u then unit_event_at logs u event else None) ≡ Some x → x ≡ y
one_told logs unit event u x y is told = go (nat_eq unit u) refl
  where
    go : (t : Bool) → nat_eq unit u ≡ t → x ≡ y
    go true e = same_Some x y (sym (sym (ap (λ t. if t then unit_event_at logs u event else None) e) ∙ told) ∙ ap (λ n. unit_event_at logs n event)
        (sym (eqb-true unit u e)) ∙ is)
    go false e = absurd (none-some x (sym (ap (λ t. if t then unit_event_at logs u event else None) e) ∙ told))

-- a reset, of a chunk of a line that was given up
pub closed_reset : (i : Image) (w : World) (b : Begun) (unit event : ℕ) (knows : List ℕ) (line : ℕ) → IsLegalMount i w
    → begun (log_of w 0) ≡ Some b → (may : MayNoteReset (log_of w) unit event)
    → is_given_up (log_of w 0) may.reset.chunk ≡ true
    → closed_line i (after (log_of w) (ResetDone unit event) knows) line ≡ closed_line i (log_of w) line
closed_reset i w b unit event knows line mount begins may given = go (nat_eq line may.reset.chunk) refl
  where
    life : life_of (after (log_of w) (ResetDone unit event) knows 0) line ≡ life_of (log_of w 0) line
    life = life_more (log_of w 0) (record { event = Decides (ResetDone unit event); knows = knows }) line

    found : found_image i (after (log_of w) (ResetDone unit event) knows) ≡ found_image i (log_of w)
    found = found_kept i (log_of w) (ResetDone unit event) knows refl

    at : unit_event_at (log_of w) unit event ≡ Some may.reset
    at = ap (option_and_then (λ (l : Logged). unit_event_of l.event)) may.new.is_known ∙ may.new.event

    same_seq : (l : LineLife) → seq_in i (after (log_of w) (ResetDone unit event) knows) l line ≡ seq_in i (log_of w) l line
    same_seq AsFound = ap (λ (j : Image). option_map (λ (start : StartRecord). start.seq) (start_of j line)) found
    same_seq (Opened o) = refl
    same_seq (Freed was ks) = refl

    none : (seq : Option ℕ) → seq_of i (log_of w) line ≡ seq → is_given_up (log_of w 0) line ≡ true → seq ≡ None
    none None e given = refl
    none (Some seq) e given = absurd (not_both (is_given_up (log_of w 0) line) given (not_given_up i w mount line b begins seq e))

    go : (t : Bool) → nat_eq line may.reset.chunk ≡ t
        → closed_line i (after (log_of w) (ResetDone unit event) knows) line ≡ closed_line i (log_of w) line
    go true e =
        let no_seq : seq_of i (log_of w) line ≡ None =
        none (seq_of i (log_of w) line) refl (ap (is_given_up (log_of w 0)) (eqb-true line may.reset.chunk e) ∙ given) in
        closed_unnumbered i (after (log_of w) (ResetDone unit event) knows) line
        (ap (λ (l : LineLife). seq_in i (after (log_of w) (ResetDone unit event) knows) l line) life ∙ same_seq (life_of (log_of w 0) line) ∙ no_seq)
        ∙ sym (closed_unnumbered i (log_of w) line no_seq)
    go false e =
        closed_same i (after (log_of w) (ResetDone unit event) knows) (log_of w) line life found
        (chunks_beside i (log_of w) (ResetDone unit event) knows line refl
        (λ u x told same. eqb-false line may.reset.chunk e
        (same ∙ ap (λ (y : UnitEvent). y.chunk) (one_told (log_of w) unit event u x may.reset at told))))
