-- Chunks of lines that aren't opened: nothing is programmed in them. A chunk of a line as it was
-- found that is no stray stays as it was; one of a stray, or of a line that was freed, stays or is
-- emptied.
use Rattle.std.proofs.Common.{◌≡◌, ℕ, ◌+◌, ◌-◌, ◌<◌, ◌≤◌, ◌⊎◌, inl, inr, ◌==◌, suc, zero, nat_eq, Bool, true, false, None, Some, Option, List, [], length, take, refl, sym, subst, ap, ap₂, ◌∙◌, arith, if◌then◌else◌}
use Rattle.std.specs.Prelude.{slice_get, slice_index}
use Rattle.std.specs.List.{list_any}
use Rattle.std.specs.Option.{option_map_or}
use Rattle.std.proofs.lemmas.Bool.{cases_lt, eqb-true, eqb-false}
use Rattle.std.proofs.lemmas.Option.{none-some, same_Some}
use Rattle.std.proofs.Math.Seq.{take-length}
use Rattle.pblk_model.specs.Chunk.{Chunk}
use Rattle.pblk_model.specs.ChunkStep.{ChunkCommand, Write, Read, Reset}
use Rattle.pblk_model.specs.UnitLog.{UnitOutcome, Answered, Failed, Stopped, UnitEvent, IsOutcome, after_outcome}
use Rattle.pblk_model.specs.Image.{Image}
use Rattle.pblk_world.specs.Events.{Event, Decides, Open, Free, Logged}
use Rattle.pblk_world.specs.World.{World, log_of, known, knows_engine}
use Rattle.pblk_world.specs.EngineLog.{Begun, begun, LineLife, AsFound, Opened, Freed, Opening, is_opened, last_opening, life_of, turned_by}
use Rattle.pblk_world.specs.Lines.{is_empty_state, is_given_up, is_given_up_by}
use Rattle.pblk_world.specs.Commanding.{is_program, ended_stripes}
use Rattle.pblk_world.specs.Legal.{IsLegal}
use Rattle.pblk_world.proofs.EngineLogLemmas.{begun_taken}
use Rattle.pblk_world.proofs.Growing.{knowledge_rises}
use Rattle.pblk_world.proofs.LinesLemmas.{reset_empty}
use Rattle.pblk_model.proofs.Parts.{get_below, got_within}
use Rattle.world_laws.specs.UnitChunks.{NoProgram, chunk_after}
use Rattle.world_laws.proofs.NamedPrefixes.{was_made}
use Rattle.world_laws.proofs.FirstEvent.{IsBeginning, beginning_of}
use Rattle.world_laws.proofs.Deeds.{IsDeed, deed, fetch_leaves, stop_leaves}
use Rattle.world_laws.proofs.LastUses.{reset_leaves_empty}
use Rattle.world_laws.proofs.NextLives.{life_next, placed_in}
use Rattle.world_laws.proofs.Resets.{IsReset, reset}
use Rattle.world_laws.proofs.StripeLines.{IsGone, open_or_gone}
use Rattle.world_laws.proofs.Tellings.{last_program, named_known}
use Rattle.world_laws.proofs.ToldBefore.{IsProgram, no_both, program}
use Rattle.world_laws.proofs.UnitChunks.{still_there}

-- ---- lives backward

-- a line as it was found was so before
found_one : (line n : ℕ) (life : LineLife) (knows : List ℕ) (e : Event) → turned_by line life n knows e ≡ AsFound → life ≡ AsFound
found_one line n life knows (Decides (Open other start)) is = by (other == line) is
  where
    by : (b : Bool) → (if b then Opened (record { number = n; line = line; start = start; knows = knows }) else life) ≡ AsFound → life ≡ AsFound
    by true e = absurd cc
    by false e = e
found_one line n life knows (Decides (Free other)) is = by (other == line) is
  where
    by : (b : Bool) → (if b then Freed (last_opening life) knows else life) ≡ AsFound → life ≡ AsFound
    by true e = absurd cc
    by false e = e
found_one line n life knows e is = is

pub found_before : (log : List Logged) (line k d : ℕ) → k + d ≤ length log → life_of (take (k + d) log) line ≡ AsFound → life_of (take k log) line ≡ AsFound
found_before log line k zero inside is = let same : k ≡ k + 0 = omega arith in ap (λ n. life_of (take n log) line) same ∙ is
found_before log line k (suc d) inside is =
    let next : suc (k + d) ≡ k + suc d = omega arith in
    let at = got_within log (k + d) (omega arith) in
    found_before log line k d (omega arith)
    (found_one line (k + d) (life_of (take (k + d) log) line) at.0.knows at.0.event (sym (life_next log (k + d) line at.0 at.1)
    ∙ ap (λ n. life_of (take n log) line) next ∙ is))

-- a line that was never opened wasn't opened before
never_one : (line n : ℕ) (life : LineLife) (knows : List ℕ) (e : Event) → last_opening (turned_by line life n knows e) ≡ None → last_opening life ≡ None
never_one line n life knows (Decides (Open other start)) is = by (other == line) is
  where
    by : (b : Bool) → last_opening (if b then Opened (record { number = n; line = line; start = start; knows = knows }) else life) ≡ None
        → last_opening life ≡ None
    by true e = absurd cc
    by false e = e
never_one line n life knows (Decides (Free other)) is = by (other == line) is
  where
    by : (b : Bool) → last_opening (if b then Freed (last_opening life) knows else life) ≡ None → last_opening life ≡ None
    by true e = e
    by false e = e
never_one line n life knows e is = is

pub never_before : (log : List Logged) (line k d : ℕ) → k + d ≤ length log → last_opening (life_of (take (k + d) log) line) ≡ None
    → last_opening (life_of (take k log) line) ≡ None
never_before log line k zero inside is = let same : k ≡ k + 0 = omega arith in ap (λ n. last_opening (life_of (take n log) line)) same ∙ is
never_before log line k (suc d) inside is =
    let next : suc (k + d) ≡ k + suc d = omega arith in
    let at = got_within log (k + d) (omega arith) in
    never_before log line k d (omega arith)
    (never_one line (k + d) (life_of (take (k + d) log) line) at.0.knows at.0.event (ap last_opening (sym (life_next log (k + d) line at.0 at.1))
    ∙ ap (λ n. last_opening (life_of (take n log) line)) next ∙ is))

-- a freed line, since the event that freed it
pub record IsFreedSince (log : List Logged) (line n : ℕ) (was : Option Opening) (knows : List ℕ) : Type 0 where
  pub number : ℕ
  pub before : number < n
  pub logged : Logged
  pub there : slice_get log number ≡ Some logged
  pub event : logged.event ≡ Decides (Free line)
  pub names : logged.knows ≡ knows
  pub since : (k : ℕ) → number < k → k ≤ n → life_of (take k log) line ≡ Freed was knows

same_freed : (a c : Option Opening) (ks ls : List ℕ) → Freed a ks ≡ Freed c ls → ks ≡ ls
same_freed a c ks ls e = cc

freed_later : (log : List Logged) (line n : ℕ) (was : Option Opening) (knows : List ℕ) → life_of (take (suc n) log) line ≡ Freed was knows
    → IsFreedSince log line n was knows → IsFreedSince log line (suc n) was knows
freed_later log line n was knows now h = record {
  number = h.number;
  before = (let below : h.number < n = h.before in omega arith);
  logged = h.logged;
  there = h.there;
  event = h.event;
  names = h.names;
  since = λ k low high. by k low (cases_lt k (suc n)) high;
}
  where
    by : (k : ℕ) → h.number < k → (k < suc n) ⊎ (suc n ≤ k) → k ≤ suc n → life_of (take k log) line ≡ Freed was knows
    by k low (inl below) high = h.since k low (omega arith)
    by k low (inr above) high = let last : suc n ≡ k = omega arith in ap (λ m. life_of (take m log) line) (sym last) ∙ now

freed_one : (log : List Logged) (line n : ℕ) (was : Option Opening) (knows : List ℕ) (l : Logged) (e : Event) → slice_get log n ≡ Some l → l.event ≡ e
    → life_of (take (suc n) log) line ≡ Freed was knows
    → turned_by line (life_of (take n log) line) n l.knows e ≡ Freed was knows
    → (life_of (take n log) line ≡ Freed was knows → IsFreedSince log line n was knows) → IsFreedSince log line (suc n) was knows
freed_one log line n was knows l (Decides (Open other start)) there is now turned before = by (other == line) turned
  where
    by : (b : Bool) → (if b then Opened (record {
      number = n;
      line = line;
      start = start;
      knows = l.knows;
    }) else life_of (take n log) line) ≡ Freed was knows → IsFreedSince log line (suc n) was knows
    by true e = absurd cc
    by false e = freed_later log line n was knows now (before e)
freed_one log line n was knows l (Decides (Free other)) there is now turned before = by (nat_eq other line) refl turned
  where
    by : (b : Bool) → nat_eq other line ≡ b → (if b then Freed (last_opening (life_of (take n log) line)) l.knows else life_of
        (take n log) line) ≡ Freed was knows → IsFreedSince log line (suc n) was knows
    by true same e = record {
      number = n;
      before = omega arith;
      logged = l;
      there = there;
      event = is ∙ ap (λ m. Decides (Free m)) (eqb-true other line same);
      names = same_freed (last_opening (life_of (take n log) line)) was l.knows knows e;
      since = λ k low high. let last : suc n ≡ k = omega arith in ap (λ m. life_of (take m log) line) (sym last) ∙ now;
    }
    by false apart e = freed_later log line n was knows now (before e)
freed_one log line n was knows l e there is now turned before = freed_later log line n was knows now (before turned)

pub freed_since : (log : List Logged) (n line : ℕ) (was : Option Opening) (knows : List ℕ) → n ≤ length log → life_of (take n log) line ≡ Freed was knows
    → IsFreedSince log line n was knows
freed_since log zero line was knows inside is = absurd cc
freed_since log (suc n) line was knows inside is =
    let at = got_within log n (omega arith) in
    freed_one log line n was knows at.0 at.0.event at.1 refl is (sym (life_next log n line at.0 at.1) ∙ is) (freed_since log n line was knows (omega arith))

-- ---- chunks in which nothing is programmed

module _ (i : Image) (w : World) (legal : IsLegal i w) (unit line : ℕ) where
  -- it stays, or is emptied
  IsKept : Chunk → Chunk → Type 0
  IsKept c d = (d ≡ c) ⊎ (is_empty_state d.state ≡ true)

  pub kept_or_emptied : (from d : ℕ) (c x : Chunk) → from + d ≤ length (log_of w (suc unit)) → NoProgram (log_of w) line unit from (from + d)
      → chunk_after i (log_of w) line unit from ≡ Some c
      → chunk_after i (log_of w) line unit (from + d) ≡ Some x → (x ≡ c) ⊎ (is_empty_state x.state ≡ true)
  kept_or_emptied from zero c x inside none first last =
      let same : from + 0 ≡ from = omega arith in inl (same_Some x c (sym last ∙ ap (chunk_after i (log_of w) line unit) same ∙ first))
  kept_or_emptied from (suc d) c x inside none first last =
      let far : from + suc d ≡ suc (from + d) = omega arith in
      let at = got_within (log_of w (suc unit)) (from + d) (omega arith) in
      let here = still_there i (log_of w) line unit from (from + d) c first in
      let e : IsDeed i w unit (from + d) at.0 = deed i w unit (from + d) at.0 legal at.1 in
      let before : (here.0 ≡ c) ⊎ (is_empty_state here.0.state ≡ true) = kept_or_emptied from d c here.0 (omega arith)
      (λ m l f low high. none m l f low (omega arith)) first here.1 in
      next (from + d) at.0 at.1 e (λ on. none (from + d) at.0 e.event (omega arith) (omega arith) at.1 e.is_event on) here.0 here.1
      (ap (chunk_after i (log_of w) line unit) (sym far) ∙ last) before
    where
      next : (n : ℕ) (l : Logged) (there : slice_get (log_of w (suc unit)) n ≡ Some l) (e : IsDeed i w unit n l)
          → (e.event.chunk ≡ line → is_program e.event.command ≡ false) → (y : Chunk) → chunk_after i (log_of w) line unit n ≡ Some y
          → chunk_after i (log_of w) line unit (suc n) ≡ Some x → (y ≡ c) ⊎ (is_empty_state y.state ≡ true) → (x ≡ c) ⊎ (is_empty_state x.state ≡ true)
      next n l there e none y now after before = go (nat_eq e.event.chunk line) refl
        where
          stays : chunk_after i (log_of w) line unit (suc n) ≡ chunk_after i (log_of w) line unit n → (x ≡ c) ⊎ (is_empty_state x.state ≡ true)
          stays same = subst (λ (z : Chunk). (z ≡ c) ⊎ (is_empty_state z.state ≡ true)) (same_Some y x (sym now ∙ sym same ∙ after)) before

          emptied : e.event.chunk ≡ line → e.event.command ≡ Reset → (o : UnitOutcome) → e.event.outcome ≡ o
              → is_empty_state (after_outcome i.shape e.found Reset o).state ≡ true → is_empty_state x.state ≡ true
          emptied on is o out empty =
              let left : x ≡ after_outcome i.shape e.found Reset o =
              same_Some x (after_outcome i.shape e.found Reset o) (sym after ∙ ap (λ k. chunk_after i (log_of w) k unit (suc n)) (sym on) ∙ e.left
              ∙ ap₂ (λ z r. Some (after_outcome i.shape e.found z r)) is out) in
              ap (λ (z : Chunk). is_empty_state z.state) left ∙ empty

          by_outcome : e.event.chunk ≡ line → e.event.command ≡ Reset → (o : UnitOutcome) → e.event.outcome ≡ o → IsOutcome i.shape e.found Reset o
              → (x ≡ c) ⊎ (is_empty_state x.state ≡ true)
          by_outcome on is (Stopped zero) out may = stays (stop_leaves i w unit n l e out line)
          by_outcome on is (Stopped (suc k)) out may = inr (emptied on is (Stopped (suc k)) out (reset_empty i.shape e.found))
          by_outcome on is (Answered a) out may = inr (emptied on is (Answered a) out (reset_leaves_empty i.shape e.found (Answered a) may refl))
          by_outcome on is (Failed k) out may = inr (emptied on is (Failed k) out refl)

          by_command : e.event.chunk ≡ line → (command : ChunkCommand) → e.event.command ≡ command → (x ≡ c) ⊎ (is_empty_state x.state ≡ true)
          by_command on (Write at blocks) is = no_both (ap is_program is) (none on)
          by_command on (Read at) is = stays (fetch_leaves i w unit n l e at is line)
          by_command on Reset is = by_outcome on is e.event.outcome refl (subst (λ z. IsOutcome i.shape e.found z e.event.outcome) is e.outcome)

          go : (t : Bool) → nat_eq e.event.chunk line ≡ t → (x ≡ c) ⊎ (is_empty_state x.state ≡ true)
          go true same = by_command (eqb-true e.event.chunk line same) e.event.command refl
          go false apart = stays (e.others line (eqb-false e.event.chunk line apart))

module _ (i : Image) (w : World) (legal : IsLegal i w) (b : Begun) (begins : begun (log_of w 0) ≡ Some b) (unit line : ℕ) where
  abbrev log : List Logged
  log = log_of w 0

  abbrev own : List Logged
  own = log_of w (suc unit)

  decide : (e : UnitEvent) → (is_program e.command ≡ true → ⊥) → is_program e.command ≡ false
  decide e refuses = go (is_program e.command) refl
    where
      go : (t : Bool) → is_program e.command ≡ t → is_program e.command ≡ false
      go false f = f
      go true f = absurd (refuses f)

  -- nothing is programmed in a line that was never opened
  pub none_in_unopened : (to : ℕ) → last_opening (life_of log line) ≡ None → NoProgram (log_of w) line unit (slice_index b.knows (suc unit)) to
  none_in_unopened to never y x e low high at is on = decide e (λ passes. by (program i w legal b begins unit line y x e low (record {
    there = at;
    is_event = is;
    its_chunk = on;
    passes = passes;
  })))
    where
      by : IsProgram i w legal b begins unit line y x e → ⊥
      by p =
          let inside : p.stripe.placed.number < length log = get_below log p.stripe.placed.number p.placed.logged p.placed.decided.there in
          let far : p.stripe.placed.number + (length log - p.stripe.placed.number) ≡ length log = omega arith in
          let was : last_opening (life_of (take p.stripe.placed.number log) line) ≡ None =
          never_before log line p.stripe.placed.number (length log - p.stripe.placed.number) (omega arith)
          (ap (λ n. last_opening (life_of (take n log) line)) far ∙ ap (λ (xs : List Logged). last_opening (life_of xs line)) (take-length log) ∙ never) in
          none-some p.placed.opening (sym was ∙ ap (λ k. last_opening (life_of (take p.stripe.placed.number log) k)) (sym p.its_line)
          ∙ ap last_opening p.placed.is_open)

  -- so it is in a line as it was found
  pub none_in_found : (to : ℕ) → life_of log line ≡ AsFound → NoProgram (log_of w) line unit (slice_index b.knows (suc unit)) to
  none_in_found to found = none_in_unopened to (ap last_opening found)

  -- nothing is programmed in a freed line, from the prefix on that its freeing names
  none_in_freed : (to : ℕ) (was : Option Opening) (knows : List ℕ) → life_of log line ≡ Freed was knows
      → slice_index b.knows (suc unit) ≤ slice_index knows (suc unit) → NoProgram (log_of w) line unit (slice_index knows (suc unit)) to
  none_in_freed to was knows freed first y x e low high at is on = decide e (λ passes. by (program i w legal b begins unit line y x e (omega arith) (record {
    there = at;
    is_event = is;
    its_chunk = on;
    passes = passes;
  })))
    where
      f : IsFreedSince log line (length log) was knows
      f = freed_since log (length log) line was knows (omega arith) (ap (λ (xs : List Logged). life_of xs line) (take-length log) ∙ freed)

      not_open : (n : ℕ) → f.number < n → n ≤ length log → is_opened (life_of (take n log) line) ≡ false
      not_open n later inside = ap is_opened (f.since n later inside)

      named : known f.logged (suc unit) ≡ slice_index knows (suc unit)
      named = ap (λ ks. slice_index ks (suc unit)) f.names

      by : IsProgram i w legal b begins unit line y x e → ⊥
      by p = go (cases_lt f.number p.stripe.placed.number)
        where
          after : IsGone i w legal unit (ended_stripes (take y own)) p.stripe.placed p.stripe.in_order (suc f.number) → ⊥
          after gone =
              let last = last_program i w legal unit (ended_stripes (take y own)) gone.told.at y gone.told.told refl in
              let near = named_known i w legal unit gone.told.at gone.told.told.number gone.told.told.named in
              let one : gone.told.at < gone.freed.number = gone.told.before in
              let two : gone.freed.number < suc f.number = gone.freed.before in
              let more = knowledge_rises i w 0 (suc unit) gone.told.at f.number gone.told.told.named.logged f.logged legal
              (omega arith) gone.told.told.named.there f.there in
              absurd (omega (arith, last, near, more, named))

          go : (f.number < p.stripe.placed.number) ⊎ (p.stripe.placed.number ≤ f.number) → ⊥
          go (inl later) =
              let inside : p.stripe.placed.number < length log = get_below log p.stripe.placed.number p.placed.logged p.placed.decided.there in
              no_both (ap (λ k. is_opened (life_of (take p.stripe.placed.number log) k)) (sym p.its_line)
              ∙ ap is_opened p.placed.is_open) (not_open p.stripe.placed.number later (omega arith))
          go (inr early) = which (open_or_gone i w legal unit (ended_stripes (take y own)) p.stripe.placed p.stripe.in_order (suc f.number)
              (omega arith) f.before)
            where
              which : (life_of (take (suc f.number) log) p.stripe.placed.stripe.line ≡ Opened
                  (placed_in i w legal unit (ended_stripes (take y own)) p.stripe.placed p.stripe.in_order).opening)
                  ⊎ IsGone i w legal unit (ended_stripes (take y own)) p.stripe.placed p.stripe.in_order (suc f.number) → ⊥
              which (inl open_now) = no_both (ap (λ k. is_opened (life_of (take (suc f.number) log) k)) (sym p.its_line)
                  ∙ ap is_opened open_now) (not_open (suc f.number) (omega arith) f.before)
              which (inr gone) = after gone

  freed_from : (was : Option Opening) (knows : List ℕ) → life_of log line ≡ Freed was knows → slice_index b.knows (suc unit) ≤ slice_index knows (suc unit)
  freed_from was knows freed =
      let f : IsFreedSince log line (length log) was knows = freed_since log (length log) line was knows (omega arith)
      (ap (λ (xs : List Logged). life_of xs line) (take-length log) ∙ freed) in
      let first : IsBeginning i w b = beginning_of i w b legal begins in
      let less : known first.logged (suc unit) ≤ known f.logged (suc unit) = knowledge_rises i w 0 (suc unit) 0 f.number first.logged f.logged legal
      (omega arith) first.there f.there in
      let low : known first.logged (suc unit) ≡ slice_index b.knows (suc unit) = ap (λ ks. slice_index ks (suc unit)) first.knows in
      let high : known f.logged (suc unit) ≡ slice_index knows (suc unit) = ap (λ ks. slice_index ks (suc unit)) f.names in
      omega arith

  pub none_after_freeing : (to : ℕ) (was : Option Opening) (knows : List ℕ) → life_of log line ≡ Freed was knows
      → NoProgram (log_of w) line unit (slice_index knows (suc unit)) to
  none_after_freeing to was knows freed = none_in_freed to was knows freed (freed_from was knows freed)

  -- ---- a line as it was found that is no stray

  module _ (found : life_of (log_of w 0) line ≡ AsFound) (none : list_any (λ stray. stray == line) b.beginning.strays ≡ false) where
    never_reset : (n : ℕ) (l : Logged) (there : slice_get (log_of w (suc unit)) n ≡ Some l) (e : IsDeed i w unit n l) → e.event.chunk ≡ line
        → e.event.command ≡ Reset → ⊥
    never_reset n l there e on is =
        let r : IsReset i w legal unit n l there e = reset i w legal unit n l there e is in
        let few : knows_engine l ≤ length log = (was_made i w (suc unit) n l legal there).within 0 in
        let far : knows_engine l + (length log - knows_engine l) ≡ length log = omega arith in
        let was : life_of (take (knows_engine l) log) line ≡ AsFound =
        found_before log line (knows_engine l) (length log - knows_engine l) (omega arith) (ap (λ n. life_of (take n log) line) far
        ∙ ap (λ (xs : List Logged). life_of xs line) (take-length log) ∙ found) in
        let strays : begun (take (knows_engine l) log) ≡ Some b = begun_taken (knows_engine l) log r.knew ∙ begins in
        no_both (sym (ap₂ (λ o life. is_given_up_by (option_map_or (λ (x : Begun). x.beginning.strays) o []) line life) strays was)
        ∙ ap (is_given_up (take (knows_engine l) log)) (sym on) ∙ r.given_up) none

    stays_one : (n : ℕ) (l : Logged) (there : slice_get (log_of w (suc unit)) n ≡ Some l) → slice_index b.knows (suc unit) ≤ n
        → chunk_after i (log_of w) line unit (suc n) ≡ chunk_after i (log_of w) line unit n
    stays_one n l there low = go (nat_eq e.event.chunk line) refl
      where
        e : IsDeed i w unit n l
        e = deed i w unit n l legal there

        by_command : e.event.chunk ≡ line → (command : ChunkCommand) → e.event.command ≡ command
            → chunk_after i (log_of w) line unit (suc n) ≡ chunk_after i (log_of w) line unit n
        by_command on (Write at blocks) is = no_both (ap is_program is) (none_in_found (suc n) found n l e.event low (omega arith) there e.is_event on)
        by_command on (Read at) is = fetch_leaves i w unit n l e at is line
        by_command on Reset is = absurd (never_reset n l there e on is)

        go : (t : Bool) → nat_eq e.event.chunk line ≡ t → chunk_after i (log_of w) line unit (suc n) ≡ chunk_after i (log_of w) line unit n
        go true same = by_command (eqb-true e.event.chunk line same) e.event.command refl
        go false apart = e.others line (eqb-false e.event.chunk line apart)

    pub found_stays : (d : ℕ) → slice_index b.knows (suc unit) + d ≤ length (log_of w (suc unit))
        → chunk_after i (log_of w) line unit (slice_index b.knows (suc unit) + d) ≡ chunk_after i (log_of w) line unit (slice_index b.knows (suc unit))
    found_stays zero inside = let same : slice_index b.knows (suc unit) + 0 ≡ slice_index b.knows (suc unit) = omega arith in
        ap (chunk_after i (log_of w) line unit) same
    found_stays (suc d) inside =
        let far : slice_index b.knows (suc unit) + suc d ≡ suc (slice_index b.knows (suc unit) + d) = omega arith in
        let at = got_within own (slice_index b.knows (suc unit) + d) (omega arith) in
        ap (chunk_after i (log_of w) line unit) far ∙ stays_one (slice_index b.knows (suc unit) + d) at.0 at.1 (omega arith) ∙ found_stays d (omega arith)
