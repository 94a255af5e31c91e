-- A chunk as the engine knows it is the unit's chunk just after the last of its commands that the
-- engine was told of.
use Rattle.std.proofs.Common.{◌≡◌, ◌≢◌, ℕ, ◌+◌, ◌-◌, ◌<◌, ◌≤◌, ◌⊎◌, inl, inr, suc, zero, nat_eq, Bool, true, false, Some, None, Option, List, length, refl, sym, subst, ap, ◌∙◌, arith}
use Rattle.std.specs.Prelude.{slice_get, slice_index}
use Rattle.std.specs.Option.{option_and_then}
use Rattle.std.proofs.lemmas.Bool.{cases_lt, eqb-true, eqb-false}
use Rattle.std.proofs.lemmas.Option.{none-some, same_Some}
use Rattle.pblk_model.specs.Chunk.{Chunk}
use Rattle.pblk_model.specs.ChunkStep.{ChunkCommand, Write, Read, Reset, Done}
use Rattle.pblk_model.specs.UnitLog.{Answered, Failed, UnitEvent, after_log, after_outcome}
use Rattle.pblk_model.specs.Image.{Image}
use Rattle.pblk_model.proofs.UnitLogLemmas.{event_beside, event_here}
use Rattle.pblk_world.specs.Events.{Logged}
use Rattle.pblk_world.specs.World.{World, log_of, known, knows_engine, unit_event_of}
use Rattle.pblk_world.specs.EngineLog.{Begun, begun, named_by}
use Rattle.pblk_world.specs.Lines.{told_by}
use Rattle.pblk_world.specs.Commanding.{is_program, is_reset, was_stopped}
use Rattle.pblk_world.specs.Legal.{IsLegal}
use Rattle.pblk_model.proofs.Parts.{get_below, got_within}
use Rattle.world_laws.specs.UnitChunks.{chunk_after, first_events}
use Rattle.world_laws.proofs.FirstEvent.{IsBeginning, beginning_of}
use Rattle.world_laws.proofs.Deeds.{IsDeed, deed, fetch_leaves}
use Rattle.world_laws.proofs.KnownEmpty.{IsTelling, told_chunk, told_first, told_none, told_one, told_or_stopped, telling}
use Rattle.world_laws.proofs.LastUses.{IsOfChunk}
use Rattle.world_laws.proofs.NamedPrefixes.{was_made}
use Rattle.world_laws.proofs.Tellings.{IsNamedAt, one_naming}
use Rattle.world_laws.proofs.ToldBefore.{IsActive, IsCommandOf, IsNamedFor, all_named, going_before, names_later, no_both, told_reset}

module _ (i : Image) (w : World) (legal : IsLegal i w) (b : Begun) (begins : begun (log_of w 0) ≡ Some b) (unit line : ℕ) where
  abbrev log : List Logged
  log = log_of w 0

  abbrev own : List Logged
  own = log_of w (suc unit)

  abbrev base : ℕ
  base = slice_index b.knows (suc unit)

  -- what a command of the chunk that wasn't stopped is, a program or a reset
  record IsGoing (n : ℕ) (l : Logged) (e : UnitEvent) : Type 0 where
    there : slice_get (log_of w (suc unit)) n ≡ Some l
    is_event : unit_event_of l.event ≡ Some e
    its_chunk : e.chunk ≡ line
    going : was_stopped e.outcome ≡ false

  going_of : (n : ℕ) (l : Logged) (e : UnitEvent) → IsActive i w legal b begins unit line n l e → IsGoing n l e
  going_of n l e (inl h) = record { there = h.at.there; is_event = h.at.is_event; its_chunk = h.at.its_chunk; going = h.going }
  going_of n l e (inr h) = record { there = h.at.there; is_event = h.at.is_event; its_chunk = h.at.its_chunk; going = h.going }

  -- ---- a chunk stays where no such command is

  abbrev pub AreGoing : ℕ → Type 0
  AreGoing to = (n : ℕ) (l : Logged) (e : UnitEvent) → n < to → slice_get (log_of w (suc unit)) n ≡ Some l → unit_event_of l.event ≡ Some e
      → was_stopped e.outcome ≡ false

  abbrev pub NoActive : ℕ → ℕ → Type 0
  NoActive from to = (n : ℕ) (l : Logged) (e : UnitEvent) → from ≤ n → n < to → IsActive i w legal b begins unit line n l e → ⊥

  quiet_one : (n : ℕ) (l : Logged) → slice_index b.knows (suc unit) ≤ n → slice_get (log_of w (suc unit)) n ≡ Some l → AreGoing (suc n) → NoActive n (suc n)
      → chunk_after i (log_of w) line unit (suc n) ≡ chunk_after i (log_of w) line unit n
  quiet_one n l from there going none = go (nat_eq d.event.chunk line) refl
    where
      d : IsDeed i w unit n l
      d = deed i w unit n l legal there

      runs : was_stopped d.event.outcome ≡ false
      runs = going n l d.event (omega arith) there d.is_event

      at : {test : ChunkCommand → Bool} → d.event.chunk ≡ line → test d.event.command ≡ true → IsCommandOf i w legal b begins unit line test n l d.event
      at its passes = record { from = from; at = record { there = there; is_event = d.is_event; its_chunk = its; passes = passes }; going = runs }

      by_command : (command : ChunkCommand) → d.event.command ≡ command → d.event.chunk ≡ line
          → chunk_after i (log_of w) line unit (suc n) ≡ chunk_after i (log_of w) line unit n
      by_command (Write place blocks) is its = absurd (none n l d.event (omega arith) (omega arith) (inl (at {test = is_program} its (ap is_program is))))
      by_command (Read place) is its = fetch_leaves i w unit n l d place is line
      by_command Reset is its = absurd (none n l d.event (omega arith) (omega arith) (inr (at {test = is_reset} its (ap is_reset is))))

      go : (t : Bool) → nat_eq d.event.chunk line ≡ t → chunk_after i (log_of w) line unit (suc n) ≡ chunk_after i (log_of w) line unit n
      go true same = by_command d.event.command refl (eqb-true d.event.chunk line same)
      go false other = d.others line (eqb-false d.event.chunk line other)

  pub quiet_until : (from d : ℕ) → slice_index b.knows (suc unit) ≤ from → from + d ≤ length (log_of w (suc unit)) → AreGoing (from + d)
      → NoActive from (from + d)
      → chunk_after i (log_of w) line unit (from + d) ≡ chunk_after i (log_of w) line unit from
  quiet_until from zero low inside going none = let same : from + 0 ≡ from = omega arith in ap (chunk_after i (log_of w) line unit) same
  quiet_until from (suc d) low inside going none =
      let next : from + suc d ≡ suc (from + d) = omega arith in
      let at = got_within (log_of w (suc unit)) (from + d) (omega arith) in
      ap (chunk_after i (log_of w) line unit) next
      ∙ quiet_one (from + d) at.0 (omega arith) at.1 (λ n l e below. going n l e (omega arith)) (λ n l e above below. none n l e (omega arith) (omega arith))
      ∙ quiet_until from d low (omega arith) (λ n l e below. going n l e (omega arith)) (λ n l e above below. none n l e above (omega arith))

  -- ---- what is known after the engine's first events

  module _ (start_chunks : List Chunk) (has : slice_get i.units unit ≡ Some start_chunks) where
    -- the unit's chunks when the mount began
    abbrev cs : List Chunk
    cs = after_log i.shape start_chunks (first_events (log_of w) unit (slice_index b.knows (suc unit)))

    -- After k events of the engine the chunk is known as it is after n events of the unit. Of the
    -- chunk's commands that weren't stopped the first k events name exactly those before the n-th.
    pub record IsKnownTo (k n : ℕ) : Type 0 where
      pub from : slice_index b.knows (suc unit) ≤ n
      pub inside : n ≤ length (log_of w (suc unit))
      pub same : told_chunk i.shape (log_of w) cs line unit k ≡ chunk_after i (log_of w) line unit n
      pub named : (m : ℕ) (l : Logged) (e : UnitEvent) → m < n → IsActive i w legal b begins unit line m l e → (q : ℕ) × (q < k)
          × IsNamedAt i w legal unit q m
      pub within : (q m : ℕ) (l : Logged) (e : UnitEvent) → q < k → IsNamedAt i w legal unit q m → IsActive i w legal b begins unit line m l e → m < n

    module _ (k : ℕ) (l : Logged) (there : slice_get (log_of w 0) k ≡ Some l) (n : ℕ) (h : IsKnownTo k n) where
      record IsKnownNext : Type 0 where
        number : ℕ
        later : n ≤ number
        is : IsKnownTo (suc k) number

      -- the event names no such command of the chunk
      NamesNone : Type 0
      NamesNone = (m : ℕ) (x : Logged) (e : UnitEvent) → IsNamedAt i w legal unit k m → IsActive i w legal b begins unit line m x e → ⊥

      none_named : ((e : UnitEvent) → told_by (log_of w) unit l.event ≡ Some e → e.chunk ≢ line) → NamesNone
      unfolding NamesNone
      none_named apart m x e named active = go (going_of m x e active)
        where
          go : IsGoing m x e → ⊥
          go g = by (told_or_stopped i w legal unit cs line k m l x l.event e there refl
              (ap (λ (y : Logged). named_by unit y.event) (same_Some l named.logged (sym there ∙ named.there)) ∙ named.names) g.there g.is_event)
            where
              by : (told_by (log_of w) unit l.event ≡ Some e) ⊎ (was_stopped e.outcome ≡ true) → ⊥
              by (inl told) = apart e told g.its_chunk
              by (inr stopped) = no_both stopped g.going

      stays : told_chunk i.shape (log_of w) cs line unit (suc k) ≡ told_chunk i.shape (log_of w) cs line unit k → NamesNone → IsKnownNext
      unfolding NamesNone
      stays same none = record {
        number = n;
        later = omega arith;
        is = record {
          from = h.from;
          inside = h.inside;
          same = same ∙ h.same;
          named = λ m x e below active. let at = h.named m x e below active in (at.0, omega (arith, at.1), at.2);
          within = λ q m x e before named active. within q m x e before named active (cases_lt q k);
        };
      }
        where
          within : (q m : ℕ) (x : Logged) (e : UnitEvent) → q < suc k → IsNamedAt i w legal unit q m → IsActive i w legal b begins unit line m x e
              → (q < k) ⊎ (k ≤ q) → m < n
          within q m x e before named active (inl below) = h.within q m x e below named active
          within q m x e before named active (inr above) =
              let same : q ≡ k = omega arith in
              absurd (none m x e (subst (λ y. IsNamedAt i w legal unit y m) same named) active)

      -- ---- a command of the chunk is told

      module _ (m : ℕ) (e : UnitEvent) (tells : told_by (log_of w) unit l.event ≡ Some e) (t : IsTelling i w legal unit k m e) (its : e.chunk ≡ line) where
        of_chunk : {test : ChunkCommand → Bool} → test e.command ≡ true → IsOfChunk i w legal unit line test m t.logged e
        of_chunk passes = record { there = t.there; is_event = t.is_event; its_chunk = its; passes = passes }

        low : 0 < knows_engine t.logged → base ≤ m
        low knew =
            let first : IsBeginning i w b = beginning_of i w b legal begins in
            let within : known first.logged (suc unit) ≤ m = (was_made i w (suc unit) m t.logged legal t.there).knew 0 0 first.logged knew first.there in
            let here : known first.logged (suc unit) ≡ base = ap (λ ks. slice_index ks (suc unit)) first.knows in
            omega arith

        active : IsActive i w legal b begins unit line m t.logged e
        active = by t.kind
          where
            by : ((is_program e.command ≡ true) × ((e.outcome ≡ Answered Done) ⊎ ((j : ℕ) × (e.outcome ≡ Failed j)))) ⊎ ((e.command ≡ Reset)
                × (was_stopped e.outcome ≡ false)) → IsActive i w legal b begins unit line m t.logged e
            by (inl p) = inl (record { from = low (t.knew p.0); at = of_chunk p.0; going = outcome p.1 })
              where
                outcome : (e.outcome ≡ Answered Done) ⊎ ((j : ℕ) × (e.outcome ≡ Failed j)) → was_stopped e.outcome ≡ false
                outcome (inl done) = ap was_stopped done
                outcome (inr (j, failed)) = ap was_stopped failed
            by (inr r) = inr (told_reset i w legal b begins unit line (suc k) cs (record {
              at = k;
              before = omega arith;
              number = m;
              event = e;
              telling = t;
              reset = r.0;
              its_chunk = its;
              since = λ q j x f from to named is. absurd (omega arith);
            }))

        going : was_stopped e.outcome ≡ false
        going = let g : IsGoing m t.logged e = going_of m t.logged e active in g.going

        -- it wasn't named before
        new : n ≤ m
        new = by (cases_lt m n)
          where
            by : (m < n) ⊎ (n ≤ m) → n ≤ m
            by (inr above) = above
            by (inl below) =
                let at = h.named m t.logged e below active in
                let same : at.0 ≡ k = one_naming i w legal unit at.0 k m at.2 t.named in
                let early : at.0 < k = at.1 in absurd (omega arith)

        -- what is before it was named before it
        none : (y : ℕ) (x : Logged) (f : UnitEvent) → n ≤ y → y < m → IsActive i w legal b begins unit line y x f → ⊥
        none y x f above below act =
            let named : IsNamedFor i w legal b begins unit line y t.logged =
            all_named i w legal b begins unit line (suc m) y m x t.logged f e below (omega arith) act active in
            let early : named.at < knows_engine t.logged = named.known in
            let knew : knows_engine t.logged ≤ k = names_later i w legal b begins unit line k m t.logged t.there t.named in
            let inside : y < n = h.within named.at y x f (omega arith) named.named act in absurd (omega arith)

        found : chunk_after i (log_of w) line unit m ≡ chunk_after i (log_of w) line unit n
        found =
            let within : m < length own = get_below own m t.logged t.there in
            let far : n + (m - n) ≡ m = omega (arith, new) in
            ap (chunk_after i (log_of w) line unit) (sym far)
            ∙ quiet_until n (m - n) h.from (omega arith)
            (λ y x f below at is. going_before i w legal b begins unit line y m x t.logged f e (omega arith) at is t.there t.is_event going)
            (λ y x f above below act. none y x f above (omega arith) act)

        left : told_chunk i.shape (log_of w) cs line unit (suc k) ≡ chunk_after i (log_of w) line unit (suc m)
        unfolding told_chunk
        left =
            let d : IsDeed i w unit m t.logged = deed i w unit m t.logged legal t.there in
            let one : d.event ≡ e = same_Some d.event e (sym d.is_event ∙ t.is_event) in
            let on : d.event.chunk ≡ line = ap (λ (x : UnitEvent). x.chunk) one ∙ its in
            let was : slice_get (after_log i.shape cs (told_first (log_of w) unit k)) line ≡ Some d.found =
            h.same ∙ sym found ∙ ap (λ y. chunk_after i (log_of w) y unit m) (sym on) ∙ d.there in
            ap (λ (ds : List Chunk). slice_get ds line) (told_one i w legal unit cs line k l e there tells)
            ∙ event_here i.shape (after_log i.shape cs (told_first (log_of w) unit k)) e line d.found its was
            ∙ ap (λ (x : UnitEvent). Some (after_outcome i.shape d.found x.command x.outcome)) (sym one)
            ∙ sym d.left ∙ ap (λ y. chunk_after i (log_of w) y unit (suc m)) on

        told : IsKnownNext
        told = record {
          number = suc m;
          later = omega (arith, new);
          is = record {
            from = let first : base ≤ n = h.from in omega (arith, new);
            inside = get_below own m t.logged t.there;
            same = left;
            named = λ y x f below act. named y x f below act (cases_lt y m);
            within = λ q y x f before at act. within q y x f before at act (cases_lt q k);
          };
        }
          where
            named : (y : ℕ) (x : Logged) (f : UnitEvent) → y < suc m → IsActive i w legal b begins unit line y x f → (y < m) ⊎ (m ≤ y)
                → (q : ℕ) × (q < suc k) × IsNamedAt i w legal unit q y
            named y x f below act (inr last) =
                let same : m ≡ y = omega arith in (k, omega arith, subst (IsNamedAt i w legal unit k) same t.named)
            named y x f below act (inl before) = by (cases_lt y n)
              where
                by : (y < n) ⊎ (n ≤ y) → (q : ℕ) × (q < suc k) × IsNamedAt i w legal unit q y
                by (inl old) = let at = h.named y x f old act in (at.0, omega (arith, at.1), at.2)
                by (inr late) = absurd (none y x f late before act)

            within : (q y : ℕ) (x : Logged) (f : UnitEvent) → q < suc k → IsNamedAt i w legal unit q y → IsActive i w legal b begins unit line y x f
                → (q < k) ⊎ (k ≤ q) → y < suc m
            within q y x f before at act (inl below) = let old : y < n = h.within q y x f below at act in omega (arith, new)
            within q y x f before at act (inr above) =
                let last : q ≡ k = omega arith in
                let one : at.logged ≡ t.named.logged = same_Some at.logged t.named.logged (sym at.there ∙ ap (slice_get log) last ∙ t.named.there) in
                let same : y ≡ m = same_Some y m (sym at.names ∙ ap (λ (z : Logged). named_by unit z.event) one ∙ t.named.names) in
                omega arith

      known_next : IsKnownNext
      unfolding told_chunk
      known_next = go (told_by (log_of w) unit l.event) refl
        where
          go : (o : Option UnitEvent) → told_by (log_of w) unit l.event ≡ o → IsKnownNext
          go None none = stays (told_none i w legal unit cs line k l there none) (none_named (λ e told. absurd (none-some e (sym none ∙ told))))
          go (Some e) tells = by (nat_eq e.chunk line) refl (telling i w legal unit k l l.event e there refl tells)
            where
              by : (t : Bool) → nat_eq e.chunk line ≡ t → (m : ℕ) × IsTelling i w legal unit k m e → IsKnownNext
              by true same at = told at.0 e tells at.1 (eqb-true e.chunk line same)
              by false other at = stays beside (none_named (λ f tells_f. subst (λ (x : UnitEvent). x.chunk ≢ line) (same_Some e f (sym tells ∙ tells_f))
                  (eqb-false e.chunk line other)))
                where
                  beside : told_chunk i.shape (log_of w) cs line unit (suc k) ≡ told_chunk i.shape (log_of w) cs line unit k
                  beside = ap (λ (ds : List Chunk). slice_get ds line) (told_one i w legal unit cs line k l e there tells)
                      ∙ event_beside i.shape (after_log i.shape cs (told_first (log_of w) unit k)) e line (eqb-false e.chunk line other)

    pub known_first : slice_index b.knows (suc unit) ≤ length (log_of w (suc unit)) → IsKnownTo 0 (slice_index b.knows (suc unit))
    unfolding told_chunk chunk_after
    known_first inside = record {
      from = omega arith;
      inside = inside;
      same = sym (ap (option_and_then (λ (xs : List Chunk). slice_get (after_log i.shape xs (first_events (log_of w) unit base)) line)) has);
      named = λ m l e below active. absurd (early m l e below active);
      within = λ q m l e before. absurd (omega arith);
    }
      where
        early : (m : ℕ) (l : Logged) (e : UnitEvent) → m < slice_index b.knows (suc unit) → IsActive i w legal b begins unit line m l e → ⊥
        early m l e below (inl h) = let from : slice_index b.knows (suc unit) ≤ m = h.from in omega arith
        early m l e below (inr h) = let from : slice_index b.knows (suc unit) ≤ m = h.from in omega arith

    -- so many events of the engine later
    pub known_later : (k d n : ℕ) → k + d ≤ length (log_of w 0) → IsKnownTo k n → (m : ℕ) × (n ≤ m) × IsKnownTo (k + d) m
    known_later k zero n inside h = let same : k ≡ k + 0 = omega arith in (n, omega arith, subst (λ x. IsKnownTo x n) same h)
    known_later k (suc d) n inside h =
        let at = known_later k d n (omega arith) h in
        let next : suc (k + d) ≡ k + suc d = omega arith in
        let l = got_within log (k + d) (omega arith) in
        let one : IsKnownNext (k + d) l.0 l.1 at.0 at.2 = known_next (k + d) l.0 l.1 at.0 at.2 in
        let far : at.0 ≤ one.number = one.later in
        (one.number, omega (arith, at.1), subst (λ x. IsKnownTo x one.number) next one.is)
