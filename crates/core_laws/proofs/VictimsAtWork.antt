-- A line that is closed stays closed until it is freed. So the victim at work is closed: it came to
-- work as a line that may be collected, and it hasn't been freed since.
use Rattle.std.proofs.Common.{◌≡◌, ◌⊎◌, inl, inr, ℕ, ◌+◌, ◌-◌, ◌<◌, ◌≤◌, zero, suc, not, ◌&&◌, nat_lt, Bool, true, false, Some, None, Option, List, [], ◌∷◌, length, take, refl, sym, subst, ap, ap₂, ◌∙◌, arith, le_refl, length-take, if◌then◌else◌}
use Rattle.std.specs.Prelude.{slice_get}
use Rattle.std.specs.List.{cons_option, filter_map, list_all}
use Rattle.std.specs.Option.{option_and_then, option_map}
use Rattle.std.proofs.lemmas.Bool.{cases_lt}
use Rattle.std.proofs.lemmas.Option.{none-some, same_Some}
use Rattle.std.proofs.Math.Seq.{take-length}
use Rattle.pblk_model.specs.Chunk.{Chunk}
use Rattle.pblk_model.specs.Image.{Image}
use Rattle.pblk_model.specs.StartRecord.{StartRecord, start_of}
use Rattle.pblk_laws.specs.LineBlocks.{chunk_in}
use Rattle.pblk_world.specs.EngineLog.{AsFound, Begun, begun, Freed, LineLife, is_as_found, last_opening, life_of, Opened, turned_by, Opening, openings}
use Rattle.pblk_world.specs.Events.{Logged}
use Rattle.pblk_world.specs.Lines.{are_empty, are_over, chunks_of, found_image, has_number, is_over_state, known_image, line_data}
use Rattle.pblk_world.specs.Space.{is_due}
use Rattle.pblk_world.specs.Starts.{seq_in, seq_of}
use Rattle.pblk_world.specs.Victims.{Candidate, comes_to_work, engine_prefix, is_freed, next_victim, stays_at_work, victim}
use Rattle.pblk_world.specs.World.{World, Logs, log_of}
use Rattle.pblk_world.proofs.LinesLemmas.{length_known}
use Rattle.pblk_world.proofs.VictimsLemmas.{whole_prefix}
use Rattle.pblk_model.proofs.Lists.{all_contains}
use Rattle.pblk_model.proofs.Maps.{given_at}
use Rattle.pblk_model.proofs.Options.{split_then}
use Rattle.pblk_model.proofs.Parts.{got_within}
use Rattle.pblk_model.proofs.Tests.{both, not_both, same_number}
use Rattle.pblk_world.specs.LegalMounts.{IsLegalMount}
use Rattle.world_laws.proofs.FoundEmpty.{all_pass}
use Rattle.world_laws.proofs.Lives.{IsFree, IsNeither, IsOpen, Turns, life_is_known, turns}
use Rattle.world_laws.proofs.NextLives.{life_next}
use Rattle.world_laws.proofs.Openings.{opened_at}
use Rattle.world_laws.proofs.ToldImages.{found_at}
use Rattle.core_laws.specs.CandidateLines.{IsCandidate, IsNextVictim}
use Rattle.core_laws.specs.ClosedLines.{ClosedLine, closed_line, closed_with}
use Rattle.core_laws.proofs.CandidateLines.{candidate_when}
use Rattle.core_laws.proofs.ChosenVictims.{next_victim_is}
use Rattle.world_laws.proofs.EarlierLogs.{some_begun}
use Rattle.core_laws.proofs.ClosedKept.{closed_same, unnumbered}
use Rattle.core_laws.proofs.Engine.{openings_before}
use Rattle.core_laws.proofs.FreedWidths.{numbered_stands, numbered_stands_at}
use Rattle.core_laws.proofs.OverChunks.{known_before, over_since}

-- ---- closed lines

pub over_where_closed : (i : Image) (logs : Logs) (line : ℕ) (c : ClosedLine) → closed_line i logs line ≡ Some c
    → (are_over i logs line ≡ true) × (seq_of i logs line ≡ Some c.seq)
over_where_closed i logs line c e = go (are_over i logs line) (seq_of i logs line) refl refl e
  where
    go : (over : Bool) (seq : Option ℕ) → are_over i logs line ≡ over → seq_of i logs line ≡ seq
        → (if over then option_map (closed_with i logs line) seq else None) ≡ Some c
        → (are_over i logs line ≡ true) × (seq_of i logs line ≡ Some c.seq)
    go false seq is_over has_seq f = absurd (none-some c f)
    go true None is_over has_seq f = absurd (none-some c f)
    go true (Some n) is_over has_seq f = (is_over, has_seq ∙ ap (λ (x : ClosedLine). Some x.seq) (same_Some (closed_with i logs line n) c f))

-- images that have the same chunk of a line on each unit
pub same_chunks : (a b : Image) (line : ℕ) → length a.units ≡ length b.units → ((unit : ℕ) → chunk_in a line unit ≡ chunk_in b line unit)
    → chunks_of a line ≡ chunks_of b line
same_chunks a b line count same = go a.units b.units count same
  where
    go : (us vs : List (List Chunk)) → length us ≡ length vs
        → ((u : ℕ) → option_and_then (λ (cs : List Chunk). slice_get cs line) (slice_get us u)
        ≡ option_and_then (λ (cs : List Chunk). slice_get cs line) (slice_get vs u))
        → filter_map (λ (cs : List Chunk). slice_get cs line) us ≡ filter_map (λ (cs : List Chunk). slice_get cs line) vs
    go [] [] count same = refl
    go [] (v ∷ vs) count same = absurd (omega arith)
    go (u ∷ us) [] count same = absurd (omega arith)
    go (u ∷ us) (v ∷ vs) count same = ap₂ (λ o xs. cons_option o xs) (same 0) (go us vs (omega (arith, count)) (λ k. same (suc k)))

-- ---- since when a line is at work

-- It was the next victim at a length of the engine's log, and it hasn't been freed since.
pub record IsAtWorkSince (i : Image) (logs : Logs) (n line : ℕ) : Type 0 where
  pub from : ℕ
  pub some : 0 < from
  pub within : from ≤ n
  pub chosen : next_victim i (engine_prefix from logs) ≡ Some line
  pub kept : (m : ℕ) → from < m → m ≤ n → is_freed (life_of (take m (logs 0)) line) ≡ false

module _ (i : Image) (logs : Logs) where
  came : (n line : ℕ) → comes_to_work i (engine_prefix (suc n) logs) ≡ Some line → IsAtWorkSince i logs (suc n) line
  came n line e = go (is_due i (engine_prefix (suc n) logs)) e
    where
      go : (due : Bool) → (if due then next_victim i (engine_prefix (suc n) logs) else None) ≡ Some line → IsAtWorkSince i logs (suc n) line
      go false f = absurd (none-some line f)
      go true f = record {
        from = suc n;
        some = omega arith;
        within = le_refl (suc n);
        chosen = f;
        kept = λ m after upto. absurd (omega arith);
      }

  stayed : (n line : ℕ) → is_freed (life_of (take (suc n) (logs 0)) line) ≡ false → IsAtWorkSince i logs n line → IsAtWorkSince i logs (suc n) line
  stayed n line there was = record {
    from = was.from;
    some = was.some;
    within = (let few : was.from ≤ n = was.within in omega arith);
    chosen = was.chosen;
    kept = λ m after upto. by m after upto (cases_lt n m);
  }
    where
      by : (m : ℕ) → was.from < m → m ≤ suc n → (n < m) ⊎ (m ≤ n) → is_freed (life_of (take m (logs 0)) line) ≡ false
      by m after upto (inr before) = was.kept m after before
      by m after upto (inl past) = let last : suc n ≡ m = omega arith in subst (λ k. is_freed (life_of (take k (logs 0)) line) ≡ false) last there

  pub at_work_since : (n line : ℕ) → victim i logs n ≡ Some line → IsAtWorkSince i logs n line
  unfolding victim
  at_work_since zero line e = absurd (none-some line e)
  at_work_since (suc n) line e = go (victim i logs n) (λ other is. at_work_since n other is) e
    where
      go : (was : Option ℕ) → ((other : ℕ) → was ≡ Some other → IsAtWorkSince i logs n other)
          → stays_at_work i (engine_prefix (suc n) logs) was ≡ Some line → IsAtWorkSince i logs (suc n) line
      go None since f = came n line f
      go (Some other) since f = by (is_freed (life_of (take (suc n) (logs 0)) other)) refl f
        where
          by : (t : Bool) → is_freed (life_of (take (suc n) (logs 0)) other) ≡ t
              → (if t then comes_to_work i (engine_prefix (suc n) logs) else Some other) ≡ Some line → IsAtWorkSince i logs (suc n) line
          by true freed g = came n line g
          by false stands g =
              let same : other ≡ line = same_Some other line g in
              subst (IsAtWorkSince i logs (suc n)) same (stayed n other stands (since other refl))

-- ---- a line with a sequence number keeps its life until it is freed

module _ (i : Image) (w : World) (mount : IsLegalMount i w) (line from seq : ℕ) (some : 0 < from)
    (has_seq : seq_of i (engine_prefix from (log_of w)) line ≡ Some seq) where
  abbrev log : List Logged
  log = log_of w 0

  abbrev then_ : ℕ → Logs
  then_ n = engine_prefix n (log_of w)

  abbrev its_life : LineLife
  its_life = life_of (take from (log_of w 0)) line

  -- it has that number at each later length
  seq_at : (n : ℕ) → 0 < n → (life : LineLife) → life_of (take from (log_of w 0)) line ≡ life → seq_in i (engine_prefix n (log_of w)) life line ≡ Some seq
  seq_at n some_n life is = by life (ap (λ (l : LineLife). seq_in i (then_ from) l line) (sym is) ∙ has_seq)
    where
      found : found_image i (engine_prefix n (log_of w)) ≡ found_image i (engine_prefix from (log_of w))
      found = found_at i (log_of w) n some_n ∙ sym (found_at i (log_of w) from some)

      by : (l : LineLife) → seq_in i (engine_prefix from (log_of w)) l line ≡ Some seq → seq_in i (engine_prefix n (log_of w)) l line ≡ Some seq
      by AsFound e = ap (λ (j : Image). option_map (λ (start : StartRecord). start.seq) (start_of j line)) found ∙ e
      by (Opened o) e = e
      by (Freed was knows) e = e

  life_stays : (d : ℕ) → from + d ≤ length (log_of w 0)
      → ((m : ℕ) → from < m → m ≤ from + d → is_freed (life_of (take m (log_of w 0)) line) ≡ false)
      → life_of (take (from + d) (log_of w 0)) line ≡ life_of (take from (log_of w 0)) line
  life_stays zero inside kept = let same : from + 0 ≡ from = omega arith in ap (λ n. life_of (take n log) line) same
  life_stays (suc d) inside kept =
      let next : suc (from + d) ≡ from + suc d = omega arith in
      let at = got_within log (from + d) (omega arith) in
      let before = life_stays d (omega arith) (λ m after upto. kept m after (omega arith)) in
      ap (λ n. life_of (take n log) line) (sym next) ∙ go at.0 at.1 before (turns line (from + d) at.0.knows at.0.event)
    where
      go : (l : Logged) → slice_get (log_of w 0) (from + d) ≡ Some l
          → life_of (take (from + d) (log_of w 0)) line ≡ life_of (take from (log_of w 0)) line
          → Turns line (from + d) l.knows l.event → life_of (take (suc (from + d)) (log_of w 0)) line ≡ life_of (take from (log_of w 0)) line
      go l there before (IsNeither none) = life_next log (from + d) line l there ∙ none (life_of (take (from + d) log) line) ∙ before
      go l there before (IsFree e) =
          let was : LineLife = life_of (take (from + d) log) line in
          let freed : is_freed (life_of (take (suc (from + d)) log) line) ≡ true =
          ap is_freed (life_next log (from + d) line l there ∙ ap (turned_by line was (from + d) l.knows) e)
          ∙ ap (λ b. is_freed (if b then Freed (last_opening was) l.knows else was)) (same_number line) in
          absurd (not_both (is_freed (life_of (take (suc (from + d)) log) line)) freed (kept (suc (from + d)) (omega arith) (omega arith)))
      go l there before (IsOpen start e) =
          let may = opened_at i w (from + d) line start l mount.legal there e in
          let free = both (not (has_number i (then_ (from + d)) (life_of (take (from + d) log) line) line) && are_empty (known_image i (then_ (from + d))) line)
          (nat_lt 0 (line_data (known_image i (then_ (from + d))) line)) may.2.is_free in
          let none : seq_in i (then_ (from + d)) (life_of (take (from + d) log) line) line ≡ None =
          unnumbered i (then_ (from + d)) line (life_of (take (from + d) log) line)
          (both (not (has_number i (then_ (from + d)) (life_of (take (from + d) log) line) line))
          (are_empty (known_image i (then_ (from + d))) line) free.0).0 in
          absurd (none-some seq (sym none ∙ seq_at (from + d) (omega arith) (life_of (take (from + d) log) line) (sym before)))

  -- ---- and it stays closed

  module _ (within : from ≤ length (log_of w 0))
      (kept : (m : ℕ) → from < m → m ≤ length (log_of w 0) → is_freed (life_of (take m (log_of w 0)) line) ≡ false) where
    life_now : life_of (log_of w 0) line ≡ life_of (take from (log_of w 0)) line
    life_now =
        let far : from + (length log - from) ≡ length log = omega arith in
        ap (λ (xs : List Logged). life_of xs line) (sym (take-length log)) ∙ ap (λ n. life_of (take n log) line) (sym far)
        ∙ life_stays (length log - from) (omega arith) (λ m after upto. kept m after (omega arith))

    pub seq_now : seq_of i (log_of w) line ≡ Some seq
    seq_now =
        let far : 0 < length log = omega arith in
        ap (λ (ls : Logs). seq_of i ls line) (sym (whole_prefix (log_of w)))
        ∙ ap (λ (l : LineLife). seq_in i (then_ (length log)) l line) (ap (λ (xs : List Logged). life_of xs line) (take-length log) ∙ life_now)
        ∙ seq_at (length log) far (life_of (take from log) line) refl

    module _ (over : are_over i (engine_prefix from (log_of w)) line ≡ true) where
      b : (x : Begun) × (begun (log_of w 0) ≡ Some x)
      b = some_begun i w mount.legal (omega arith)

      over_then : (life : LineLife) → life_of (take from (log_of w 0)) line ≡ life → (unit : ℕ) (c : Chunk)
          → chunk_in (known_image i (engine_prefix from (log_of w))) line unit ≡ Some c → is_over_state (is_as_found life) c.state ≡ true
      over_then life is unit c there =
          let units : List (List Chunk) = (known_image i (then_ from)).units in
          let its = split_then (λ (cs : List Chunk). slice_get cs line) (slice_get units unit) c there in
          let at = given_at (λ (cs : List Chunk). slice_get cs line) units its.0 c unit its.1 its.2 in
          all_pass (λ (x : Chunk). is_over_state (is_as_found life) x.state) (chunks_of (known_image i (then_ from)) line) at.0 c
          (ap (λ (l : LineLife). list_all (λ (x : Chunk). is_over_state (is_as_found l) x.state) (chunks_of (known_image i (then_ from)) line)) (sym is) ∙ over)
          at.1

      chunk_same : (unit : ℕ) → chunk_in (known_image i (log_of w)) line unit ≡ chunk_in (known_image i (engine_prefix from (log_of w))) line unit
      chunk_same unit = by_life (life_of (take from log) line) refl
        where
          by_life : (life : LineLife) → life_of (take from (log_of w 0)) line ≡ life
              → chunk_in (known_image i (log_of w)) line unit ≡ chunk_in (known_image i (engine_prefix from (log_of w))) line unit
          by_life AsFound is =
              numbered_stands i w mount line b.0 b.1 seq seq_now (life_now ∙ is) unit
              ∙ sym (numbered_stands_at i w mount line b.0 b.1 seq seq_now (life_now ∙ is) from some within unit)
          by_life (Freed was knows) is = absurd (none-some seq (sym (ap (λ (l : LineLife). seq_in i (then_ from) l line) is) ∙ has_seq))
          by_life (Opened o) is = go (chunk_in (known_image i (then_ from)) line unit) refl
            where
              open_now : life_of (log_of w 0) line ≡ Opened o
              open_now = life_now ∙ is

              early : o.number < from
              early =
                  let few : length (take from log) ≤ from = omega (arith, length-take from log) in
                  let low : o.number < length (take from log) =
                  all_contains (λ (x : Opening). x.number < length (take from log)) (openings (take from log)) o
                  (openings_before (take from log)) (life_is_known (take from log) line o (ap last_opening is)).0 in
                  omega arith

              go : (x : Option Chunk) → chunk_in (known_image i (engine_prefix from (log_of w))) line unit ≡ x
                  → chunk_in (known_image i (log_of w)) line unit ≡ chunk_in (known_image i (engine_prefix from (log_of w))) line unit
              go (Some c) there =
                  over_since i w mount line o open_now unit c (over_then (Opened o) is unit c there) from early within there ∙ sym there
              go None none = by (chunk_in (known_image i (log_of w)) line unit) refl
                where
                  by : (y : Option Chunk) → chunk_in (known_image i (log_of w)) line unit ≡ y
                      → chunk_in (known_image i (log_of w)) line unit ≡ chunk_in (known_image i (engine_prefix from (log_of w))) line unit
                  by None now = now ∙ sym none
                  by (Some d) now = let was = known_before i w mount line o open_now unit from early within d now in
                      absurd (none-some was.0 (sym none ∙ was.1))

      pub closed_stays : closed_line i (log_of w) line ≡ closed_line i (engine_prefix from (log_of w)) line
      closed_stays = closed_same i (log_of w) (then_ from) line life_now (sym (found_at i (log_of w) from some))
          (same_chunks (known_image i (log_of w)) (known_image i (then_ from)) line
          (length_known i (log_of w) ∙ sym (length_known i (then_ from))) chunk_same)

-- ---- the victim at work

-- It is in range, wasn't freed and is closed, and so has a sequence number. It came to work as one
-- that may be collected, closed as it is now.
pub record IsVictim (i : Image) (logs : Logs) (line : ℕ) : Type 0 where
  pub in_range : line < i.shape.chunks
  pub closed : ClosedLine
  pub is_closed : closed_line i logs line ≡ Some closed
  pub over : are_over i logs line ≡ true
  pub has_seq : seq_of i logs line ≡ Some closed.seq
  pub not_freed : is_freed (life_of (logs 0) line) ≡ false
  pub from : ℕ
  pub some : 0 < from
  pub within : from ≤ length (logs 0)
  pub chosen : Candidate
  pub was_candidate : IsCandidate i (engine_prefix from logs) line chosen
  pub was_closed : closed_line i (engine_prefix from logs) line ≡ Some closed

numbered_unfreed : (i : Image) (logs : Logs) (line seq : ℕ) → seq_of i logs line ≡ Some seq → is_freed (life_of (logs 0) line) ≡ false
numbered_unfreed i logs line seq e = go (life_of (logs 0) line) e
  where
    go : (life : LineLife) → seq_in i logs life line ≡ Some seq → is_freed life ≡ false
    go AsFound f = refl
    go (Opened o) f = refl
    go (Freed was knows) f = absurd (none-some seq f)

pub victim_is_closed : (i : Image) (w : World) (line : ℕ) → IsLegalMount i w → victim i (log_of w) (length (log_of w 0)) ≡ Some line
    → IsVictim i (log_of w) line
victim_is_closed i w line mount e =
    let since : IsAtWorkSince i (log_of w) (length (log_of w 0)) line = at_work_since i (log_of w) (length (log_of w 0)) line e in
    let then_ : Logs = engine_prefix since.from (log_of w) in
    let next : IsNextVictim i (engine_prefix since.from (log_of w)) line = next_victim_is i then_ line since.chosen in
    let was : IsCandidate i (engine_prefix since.from (log_of w)) line next.chosen = candidate_when i then_ line next.chosen next.is_candidate in
    let parts = over_where_closed i then_ line was.closed was.is_closed in
    let stays : closed_line i (log_of w) line ≡ Some was.closed =
    closed_stays i w mount line since.from was.closed.seq since.some parts.1 since.within since.kept parts.0 ∙ was.is_closed in
    let now = over_where_closed i (log_of w) line was.closed stays in
    record {
      in_range = next.in_range;
      closed = was.closed;
      is_closed = stays;
      over = now.0;
      has_seq = now.1;
      not_freed = numbered_unfreed i (log_of w) line was.closed.seq now.1;
      from = since.from;
      some = since.some;
      within = since.within;
      chosen = next.chosen;
      was_candidate = was;
      was_closed = was.is_closed;
    }
