-- When a line is opened, each of its chunks is empty by what the engine was told: it was empty when
-- the mount began, and no program of it was told; or the engine was told of a reset of it, and of
-- no program since.
use Rattle.std.proofs.Common.{◌≡◌, ℕ, ◌+◌, ◌<◌, ◌≤◌, ◌⊎◌, ◌==◌, ◌&&◌, suc, zero, nat_lt, not, Bool, true, false, Some, None, Option, List, [], ◌∷◌, length, take, refl, sym, ap, ap₂, ◌∙◌, arith, if◌then◌else◌}
use Rattle.std.specs.Prelude.{slice_get, slice_index}
use Rattle.std.specs.List.{filter_map, list_all}
use Rattle.std.specs.Option.{option_map}
use Rattle.std.proofs.lemmas.List.{take-take}
use Rattle.std.proofs.lemmas.Option.{none-some, same_Some}
use Rattle.pblk_model.specs.Chunk.{Chunk}
use Rattle.pblk_model.specs.UnitLog.{after_log}
use Rattle.pblk_model.specs.StartRecord.{StartRecord}
use Rattle.pblk_model.specs.Image.{Image}
use Rattle.pblk_laws.proofs.UnitChunks.{log_count}
use Rattle.pblk_world.specs.Events.{Event, Decides, Landed, Lost, ResetDone, Open, Logged}
use Rattle.pblk_world.specs.World.{World, Logs, log_of, known, prefixes, cut_logs, unit_event_of, unit_event_at, unit_events}
use Rattle.pblk_world.specs.EngineLog.{Begun, begun, life_of, named_by}
use Rattle.pblk_world.specs.Lines.{are_empty, chunks_of, found_by, found_image, has_number, is_empty_state, is_free_line, known_image, line_data, told_by, told_events}
use Rattle.pblk_world.specs.Opening.{MayOpen}
use Rattle.pblk_world.specs.Legal.{IsLegal}
use Rattle.pblk_world.proofs.EngineLogLemmas.{begun_knows, begun_taken}
use Rattle.pblk_world.proofs.Growing.{knowledge_rises}
use Rattle.pblk_world.proofs.WorldLemmas.{media_at, unit_event_cut}
use Rattle.pblk_model.proofs.Lists.{IsAmong}
use Rattle.pblk_model.proofs.Maps.{given_at, made_alike, numbered_at}
use Rattle.pblk_model.proofs.Parts.{get_below, get_whole_within, got_within}
use Rattle.pblk_model.proofs.Tests.{first_of, second_of}
use Rattle.world_laws.specs.UnitChunks.{first_events}
use Rattle.world_laws.proofs.FirstEvent.{IsBeginning, beginning_of}
use Rattle.world_laws.proofs.KnownEmpty.{IsEmptySince, IsToldReset, known_empty, told_chunk, told_first}
use Rattle.world_laws.proofs.NextLives.{IsDecided}
use Rattle.world_laws.proofs.Tellings.{named_known}

pub all_pass : {X : Type 0} (f : X → Bool) (xs : List X) (k : ℕ) (x : X) → list_all f xs ≡ true → slice_get xs k ≡ Some x → f x ≡ true
all_pass f [] k x all there = absurd (none-some x there)
all_pass f (y ∷ ys) zero x all there = ap f (sym (same_Some y x there)) ∙ first_of (f y) (list_all f ys) all
all_pass f (y ∷ ys) (suc k) x all there = all_pass f ys k x (second_of (f y) (list_all f ys) all) there

grouped : (a b c : Bool) → (a && b && c) ≡ true → (a && (b && c)) ≡ true
grouped true b c e = e
grouped false b c e = absurd cc

module _ (i : Image) (w : World) (legal : IsLegal i w) (b : Begun) (begins : begun (log_of w 0) ≡ Some b) (unit line : ℕ) where
  abbrev log : List Logged
  log = log_of w 0

  abbrev base : ℕ
  base = slice_index b.knows (suc unit)

  module _ (k : ℕ) (start : StartRecord) (l : Logged) (d : IsDecided i w legal k (Open line start) l) where
    abbrev named : Logs
    named = prefixes l (log_of w)

    first : IsBeginning i w b
    first = beginning_of i w b legal begins

    pub low : (other : ℕ) → slice_index b.knows other ≤ known l other
    low other =
        let less : known first.logged other ≤ known l other = knowledge_rises i w 0 other 0 k first.logged l legal (omega arith) first.there d.there in
        let same : known first.logged other ≡ slice_index b.knows other = ap (λ ks. slice_index ks other) first.knows in
        omega arith

    -- what it was told is what the whole logs tell
    fits : (x : Logged) (q m : ℕ) → slice_get log q ≡ Some x → q < k → named_by unit x.event ≡ Some m → m < known l (suc unit)
    fits x q m there below names =
        let near : m < known x (suc unit) = named_known i w legal unit q m (record { logged = x; there = there; names = names }) in
        let more : known x (suc unit) ≤ known l (suc unit) = knowledge_rises i w 0 (suc unit) q k x l legal (omega arith) there d.there in
        omega arith

    told_same : (x : Logged) (other m : ℕ) (t : Bool) → (other == unit) ≡ t → ((other == unit) ≡ true → m < known l (suc unit))
        → (if t then unit_event_at named unit m else None) ≡ (if t then unit_event_at (log_of w) unit m else None)
    told_same x other m false e inside = refl
    told_same x other m true e inside = unit_event_cut (log_of w) l unit m (inside e)

    same_told : (x : Logged) (event : Event) (q : ℕ) → slice_get log q ≡ Some x → q < k → x.event ≡ event
        → told_by named unit event ≡ told_by (log_of w) unit event
    same_told x (Decides (Landed other m)) q there below is =
        told_same x other m (other == unit) refl (λ e. fits x q m there below (ap (named_by unit) is ∙ ap (λ t. if t then Some m else None) e))
    same_told x (Decides (Lost other m)) q there below is =
        told_same x other m (other == unit) refl (λ e. fits x q m there below (ap (named_by unit) is ∙ ap (λ t. if t then Some m else None) e))
    same_told x (Decides (ResetDone other m)) q there below is =
        told_same x other m (other == unit) refl (λ e. fits x q m there below (ap (named_by unit) is ∙ ap (λ t. if t then Some m else None) e))
    same_told x event q there below is = refl

    all_told : told_events named unit ≡ told_first (log_of w) unit k
    all_told =
        made_alike (λ (x : Logged). told_by named unit x.event) (λ (x : Logged). told_by (log_of w) unit x.event) (named 0)
        (λ q x there. let at = get_whole_within k log q x (ap (λ (xs : List Logged). slice_get xs q) (sym d.own) ∙ there) in
        same_told x x.event q at.0 at.1 refl)
        ∙ ap (λ (xs : List Logged). filter_map (λ (x : Logged). told_by (log_of w) unit x.event) xs) d.own

    found_events : unit_events (cut_logs b.knows named) unit ≡ first_events (log_of w) unit base
    unfolding first_events
    found_events = ap (λ (xs : List Logged). filter_map (λ (x : Logged). unit_event_of x.event) xs)
        (take-take base (known l (suc unit)) (log_of w (suc unit)) (low (suc unit)))

    begins_there : begun (named 0) ≡ Some b
    begins_there =
        ap (λ (xs : List Logged). begun xs) d.own ∙ taken
      where
        taken : begun (take k log) ≡ Some b
        taken = begun_taken k log (begun_knows k log d.allowed.0 (ap begun (sym d.own) ∙ d.allowed.1)) ∙ begins

    -- the unit's chunks as they were found, and as they are known
    module _ (start_chunks : List Chunk) (has : slice_get i.units unit ≡ Some start_chunks) where
      abbrev cs : List Chunk
      cs = after_log i.shape start_chunks (first_events (log_of w) unit base)

      found_chunks : slice_get (found_image i named).units unit ≡ Some cs
      found_chunks = ap (λ o. slice_get (found_by i named o).units unit) begins_there ∙ media_at i (cut_logs b.knows named) unit
          ∙ ap (option_map (λ (xs : List Chunk). after_log i.shape xs (unit_events (cut_logs b.knows named) unit))) has
          ∙ ap (λ es. Some (after_log i.shape start_chunks es)) found_events

      known_chunks : slice_get (known_image i named).units unit ≡ Some (after_log i.shape cs (told_first (log_of w) unit k))
      known_chunks =
          let same : 0 + unit ≡ unit = omega arith in
          numbered_at (λ (u : ℕ × List Chunk). after_log i.shape u.1 (told_events named u.0)) 0 (found_image i named).units unit
          ∙ ap₂ (λ (o : Option (List Chunk)) n. option_map (λ (xs : List Chunk). after_log i.shape xs (told_events named n)) o) found_chunks same
          ∙ ap (λ es. Some (after_log i.shape cs es)) all_told

      pub known_is_empty : (c : Chunk) → told_chunk i.shape (log_of w) cs line unit k ≡ Some c → is_empty_state c.state ≡ true
      unfolding told_chunk
      known_is_empty c there =
          let may : MayOpen i named d.allowed.0 line start = d.allowed.2 in
          let free : are_empty (known_image i named) line ≡ true =
          first_of (are_empty (known_image i named) line) (nat_lt 0 (line_data (known_image i named) line))
          (second_of (not (has_number i named (life_of (named 0) line) line))
          (are_empty (known_image i named) line && nat_lt 0 (line_data (known_image i named) line)) (reassoc may.is_free)) in
          let among : IsAmong (chunks_of (known_image i named) line) c =
          given_at (λ (xs : List Chunk). slice_get xs line) (known_image i named).units
          (after_log i.shape cs (told_first (log_of w) unit k)) c unit known_chunks there in
          all_pass (λ (x : Chunk). is_empty_state x.state) (chunks_of (known_image i named) line) among.0 c free among.1
        where
          reassoc : is_free_line i named line ≡ true
              → (not (has_number i named (life_of (named 0) line) line) &&
              (are_empty (known_image i named) line && nat_lt 0 (line_data (known_image i named) line))) ≡ true
          reassoc e = grouped (not (has_number i named (life_of (named 0) line) line)) (are_empty (known_image i named) line)
              (nat_lt 0 (line_data (known_image i named) line)) e

      pub empty_by_told : (c : Chunk) → slice_get cs line ≡ Some c → IsEmptySince i w legal unit cs line k ⊎ IsToldReset i w legal unit cs line k
      unfolding told_chunk
      empty_by_told c there =
          let inside : line < length cs = get_below cs line c there in
          let long : length (after_log i.shape cs (told_first (log_of w) unit k)) ≡ length cs = log_count i.shape cs (told_first (log_of w) unit k) in
          let at = got_within (after_log i.shape cs (told_first (log_of w) unit k)) line (omega arith) in
          let few : k < length log = get_below log k l d.there in
          known_empty i w legal unit cs line k at.0 (omega arith) at.1 (known_is_empty at.0 at.1)
