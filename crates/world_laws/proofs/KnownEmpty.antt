-- A chunk that the engine knows as empty was so when the mount began, and no program of it was told
-- since; or the engine was told of a reset of it, and of no program since.
use Rattle.std.proofs.Common.{◌≡◌, ◌≢◌, ℕ, ◌+◌, ◌<◌, ◌≤◌, ◌⊎◌, inl, inr, ◌==◌, suc, zero, nat_eq, nat_lt, Bool, true, false, Some, None, Option, List, [], ◌∷◌, ◌++◌, length, take, refl, sym, subst, ap, ap₂, ◌∙◌, arith, if◌then◌else◌, append-nil}
use Rattle.std.specs.Prelude.{slice_get}
use Rattle.std.specs.List.{filter_map, list_all, enumerate_from}
use Rattle.std.specs.Option.{option_and_then, option_map, option_to_list}
use Rattle.std.proofs.lemmas.Bool.{cases_lt, eqb-true, eqb-false}
use Rattle.std.proofs.lemmas.List.Sums.{fold-append}
use Rattle.std.proofs.lemmas.Option.{none-some, same_Some}
use Rattle.pblk_model.specs.declared.shape.Shape.{Shape}
use Rattle.pblk_model.specs.Chunk.{Chunk, pointer}
use Rattle.pblk_model.specs.ChunkStep.{ChunkCommand, Write, Read, Reset, Done}
use Rattle.pblk_model.specs.UnitLog.{UnitOutcome, Answered, Failed, Stopped, UnitEvent, after_event, after_outcome, after_log}
use Rattle.pblk_model.specs.Image.{Image}
use Rattle.pblk_model.proofs.UnitLogLemmas.{event_beside, event_here}
use Rattle.pblk_world.specs.Events.{Event, Decides, Landed, Lost, ResetDone, Again, Logged}
use Rattle.pblk_world.specs.World.{World, Logs, log_of, known, knows_engine, prefixes, unit_event_of, unit_event_at}
use Rattle.pblk_world.specs.EngineLog.{named_by}
use Rattle.pblk_world.specs.Lines.{is_empty_state, told_by}
use Rattle.pblk_world.specs.Commanding.{is_program, was_stopped}
use Rattle.pblk_world.specs.Answering.{IsDoneReset, IsNew, IsOfStripe, MayLand, MayLose, MayNoteReset, MayOfferAgain}
use Rattle.pblk_world.specs.Legal.{IsLegal}
use Rattle.pblk_model.proofs.Maps.{more}
use Rattle.pblk_model.proofs.Options.{split_then}
use Rattle.pblk_model.proofs.Parts.{get_whole_within, got_within, take_next}
use Rattle.pblk_model.proofs.Tests.{not_both, same_number}
use Rattle.world_laws.proofs.LastUses.{IsOfChunk}
use Rattle.world_laws.proofs.NextLives.{IsDecided, decided}
use Rattle.world_laws.proofs.Tellings.{IsNamedAt}

-- a program that isn't stopped leaves the chunk in use
program_leaves_used : (s : Shape) (c : Chunk) (command : ChunkCommand) (o : UnitOutcome) → is_program command ≡ true
    → (o ≡ Answered Done) ⊎ ((k : ℕ) × (o ≡ Failed k)) → is_empty_state (after_outcome s c command o).state ≡ false
program_leaves_used s c (Write at blocks) o program (inl done) = ap (λ x. is_empty_state (after_outcome s c (Write at blocks) x).state) done
    ∙ go (nat_lt (pointer c + length blocks) s.clba)
  where
    go : (b : Bool) → is_empty_state
        (if b then Rattle.pblk_model.specs.declared.chunk.ChunkState.TheVariants.Open else Rattle.pblk_model.specs.declared.chunk.ChunkState.TheVariants.Closed)
        ≡ false
    go true = refl
    go false = refl
program_leaves_used s c (Write at blocks) o program (inr (k, failed)) = ap (λ x. is_empty_state (after_outcome s c (Write at blocks) x).state) failed
program_leaves_used s c (Read at) o program h = absurd cc
program_leaves_used s c Reset o program h = absurd cc

-- what the engine's event tells of the unit
abbrev pub told_first : Logs → ℕ → ℕ → List UnitEvent
told_first logs unit k = filter_map (λ (l : Logged). told_by logs unit l.event) (take k (logs 0))

-- a chunk by what was told, from some chunks on
unfoldable pub told_chunk : Shape → Logs → List Chunk → ℕ → ℕ → ℕ → Option Chunk
told_chunk s logs chunks line unit k = slice_get (after_log s chunks (told_first logs unit k)) line

module _ (i : Image) (w : World) (legal : IsLegal i w) (unit : ℕ) where
  abbrev log : List Logged
  log = log_of w 0

  -- the event of this number is told by the engine's event of number q: a program that ended, or a
  -- reset that was done or failed
  pub record IsTelling (q n : ℕ) (e : UnitEvent) : Type 0 where
    pub named : IsNamedAt i w legal unit q n
    pub logged : Logged
    pub there : slice_get (log_of w (suc unit)) n ≡ Some logged
    pub is_event : unit_event_of logged.event ≡ Some e
    -- a program was made once its unit knew that the mount had begun
    pub knew : is_program e.command ≡ true → 0 < knows_engine logged
    pub kind : ((is_program e.command ≡ true) × ((e.outcome ≡ Answered Done) ⊎ ((k : ℕ) × (e.outcome ≡ Failed k)))) ⊎ ((e.command ≡ Reset)
        × (was_stopped e.outcome ≡ false))

  telling_of : (q n : ℕ) (l : Logged) (e f : UnitEvent) → slice_get log q ≡ Some l → named_by unit l.event ≡ Some n → unit_event_at (log_of w) unit n ≡ Some e
      → (new : IsNew (prefixes l (log_of w)) unit n f) → (is_program f.command ≡ true → 0 < knows_engine new.logged)
      → ((is_program f.command ≡ true) × ((f.outcome ≡ Answered Done) ⊎ ((k : ℕ) × (f.outcome ≡ Failed k)))) ⊎ ((f.command ≡ Reset)
      × (was_stopped f.outcome ≡ false)) → IsTelling q n e
  telling_of q n l e f there names at new knew kind =
      let its = split_then (λ (x : Logged). unit_event_of x.event) (slice_get (log_of w (suc unit)) n) e at in
      let whole = get_whole_within (known l (suc unit)) (log_of w (suc unit)) n new.logged new.is_known in
      let same : new.logged ≡ its.0 = same_Some new.logged its.0 (sym whole.0 ∙ its.1) in
      let one : f ≡ e = same_Some f e (sym new.event ∙ ap (λ (x : Logged). unit_event_of x.event) same ∙ its.2) in
      record {
        named = record { logged = l; there = there; names = names };
        logged = its.0;
        there = its.1;
        is_event = its.2;
        knew = λ p. subst (λ (x : Logged). 0 < knows_engine x) same (knew (ap (λ (x : UnitEvent). is_program x.command) one ∙ p));
        kind = subst (λ (x : UnitEvent). ((is_program x.command ≡ true)
            × ((x.outcome ≡ Answered Done) ⊎ ((k : ℕ) × (x.outcome ≡ Failed k)))) ⊎ ((x.command ≡ Reset) × (was_stopped x.outcome ≡ false))) one kind;
      }

  stripe_knew : (l : Logged) (n : ℕ) (f : UnitEvent) (new : IsNew (prefixes l (log_of w)) unit n f) → IsOfStripe (prefixes l (log_of w)) unit n f
      → 0 < knows_engine new.logged
  stripe_knew l n f new stripe = subst (λ (x : Logged). 0 < knows_engine x)
      (same_Some stripe.logged new.logged (sym stripe.is_logged ∙ new.is_known)) stripe.after_begin

  abbrev pub IsTellingSome : ℕ → UnitEvent → Type 0
  IsTellingSome q e = (n : ℕ) × IsTelling q n e

  done_reset : (o : UnitOutcome) → IsDoneReset o → was_stopped o ≡ false
  done_reset (Answered a) h = refl
  done_reset (Failed k) h = refl
  done_reset (Stopped k) h = absurd h

  names_it : (n : ℕ) → (if unit == unit then Some n else None) ≡ Some n
  names_it n = ap (λ b. if b then Some n else None) (same_number unit)

  pub telling : (q : ℕ) (l : Logged) (event : Event) (e : UnitEvent) → slice_get log q ≡ Some l → l.event ≡ event → told_by (log_of w) unit event ≡ Some e
      → IsTellingSome q e
  telling q l (Decides (Landed other m)) e there is tells = by (nat_eq other unit) refl tells
    where
      by : (b : Bool) → nat_eq other unit ≡ b → (if b then unit_event_at (log_of w) unit m else None) ≡ Some e → (n : ℕ) × IsTelling q n e
      by false apart f = absurd (none-some e f)
      by true same f =
          let event : l.event ≡ Decides (Landed unit m) = is ∙ ap (λ u. Decides (Landed u m)) (eqb-true other unit same) in
          let d : IsDecided i w legal q (Landed unit m) l = decided i w legal q (Landed unit m) l there event in
          let may : MayLand (prefixes l (log_of w)) unit m = d.allowed.2 in (
            m,
            telling_of q m l e may.program there (ap (named_by unit) event ∙ names_it m) f may.new (λ p. stripe_knew l m may.program may.new may.stripe)
                (inl (may.stripe.program, inl may.done)),
          )
  telling q l (Decides (Lost other m)) e there is tells = by (nat_eq other unit) refl tells
    where
      by : (b : Bool) → nat_eq other unit ≡ b → (if b then unit_event_at (log_of w) unit m else None) ≡ Some e → (n : ℕ) × IsTelling q n e
      by false apart f = absurd (none-some e f)
      by true same f =
          let event : l.event ≡ Decides (Lost unit m) = is ∙ ap (λ u. Decides (Lost u m)) (eqb-true other unit same) in
          let d : IsDecided i w legal q (Lost unit m) l = decided i w legal q (Lost unit m) l there event in
          let may : MayLose (prefixes l (log_of w)) unit m = d.allowed.2 in (
            m,
            telling_of q m l e may.program there (ap (named_by unit) event
                ∙ names_it m) f may.new (λ p. stripe_knew l m may.program may.new may.stripe)
                (inl (may.stripe.program, inr (may.landed_before, may.failed))),
          )
  telling q l (Decides (ResetDone other m)) e there is tells = by (nat_eq other unit) refl tells
    where
      by : (b : Bool) → nat_eq other unit ≡ b → (if b then unit_event_at (log_of w) unit m else None) ≡ Some e → (n : ℕ) × IsTelling q n e
      by false apart f = absurd (none-some e f)
      by true same f =
          let event : l.event ≡ Decides (ResetDone unit m) = is ∙ ap (λ u. Decides (ResetDone u m)) (eqb-true other unit same) in
          let d : IsDecided i w legal q (ResetDone unit m) l = decided i w legal q (ResetDone unit m) l there event in
          let may : MayNoteReset (prefixes l (log_of w)) unit m = d.allowed.2 in (
            m,
            telling_of q m l e may.reset there (ap (named_by unit) event
                ∙ names_it m) f may.new
                (λ p. absurd (not_both (is_program may.reset.command) p (ap is_program may.is_reset)))
                (inr (may.is_reset, done_reset may.reset.outcome may.not_stopped)),
          )
  telling q l event e there is tells = absurd (none-some e tells)

  -- ---- one more event of the engine

  module _ (cs : List Chunk) (line : ℕ) where
    told_next : (k : ℕ) (l : Logged) → slice_get log k ≡ Some l
        → told_first (log_of w) unit (suc k) ≡ told_first (log_of w) unit k ++ option_to_list (told_by (log_of w) unit l.event)
    told_next k l there = ap (λ (xs : List Logged). filter_map (λ (l : Logged). told_by (log_of w) unit l.event) xs) (take_next log k l there)
        ∙ more (λ (l : Logged). told_by (log_of w) unit l.event) (take k log) l

    pub told_none : (k : ℕ) (l : Logged) → slice_get log k ≡ Some l → told_by (log_of w) unit l.event ≡ None
        → told_chunk i.shape (log_of w) cs line unit (suc k) ≡ told_chunk i.shape (log_of w) cs line unit k
    unfolding told_chunk
    told_none k l there none = ap (λ es. slice_get (after_log i.shape cs es) line)
        (told_next k l there ∙ ap (λ o. told_first (log_of w) unit k ++ option_to_list o) none ∙ append-nil (told_first (log_of w) unit k))

    pub told_one : (k : ℕ) (l : Logged) (e : UnitEvent) → slice_get log k ≡ Some l → told_by (log_of w) unit l.event ≡ Some e
        → after_log i.shape cs (told_first (log_of w) unit (suc k)) ≡ after_event i.shape (after_log i.shape cs (told_first (log_of w) unit k)) e
    told_one k l e there one = ap (after_log i.shape cs) (told_next k l there ∙ ap (λ o. told_first (log_of w) unit k ++ option_to_list o) one)
        ∙ fold-append (after_event i.shape) cs (told_first (log_of w) unit k) (e ∷ [])

    -- no program of the chunk is named by these events of the engine, but for stopped ones
    abbrev pub NoneTold : ℕ → ℕ → Type 0
    NoneTold from to = (q n : ℕ) (l : Logged) (e : UnitEvent) → from ≤ q → q < to → IsNamedAt i w legal unit q n
        → IsOfChunk i w legal unit line is_program n l e → was_stopped e.outcome ≡ true

    pub record IsToldReset (k : ℕ) : Type 0 where
      pub at : ℕ
      pub before : at < k
      pub number : ℕ
      pub event : UnitEvent
      pub telling : IsTelling at number event
      pub reset : event.command ≡ Reset
      pub its_chunk : event.chunk ≡ line
      pub since : NoneTold (suc at) k

    pub record IsEmptySince (k : ℕ) : Type 0 where
      pub chunk : Chunk
      pub there : slice_get cs line ≡ Some chunk
      pub empty : is_empty_state chunk.state ≡ true
      pub since : NoneTold 0 k

    abbrev Known : ℕ → Type 0
    Known k = IsEmptySince k ⊎ IsToldReset k

    -- what is named is told, or was stopped
    again_stopped : (q m : ℕ) (l k : Logged) (e : UnitEvent) → slice_get log q ≡ Some l → l.event ≡ Decides (Again unit m)
        → slice_get (log_of w (suc unit)) m ≡ Some k → unit_event_of k.event ≡ Some e → was_stopped e.outcome ≡ true
    again_stopped q m l k e there event at is =
        let d : IsDecided i w legal q (Again unit m) l = decided i w legal q (Again unit m) l there event in
        let may : MayOfferAgain (prefixes l (log_of w)) unit m = d.allowed.2 in
        let whole = get_whole_within (known l (suc unit)) (log_of w (suc unit)) m may.new.logged may.new.is_known in
        let same : may.new.logged ≡ k = same_Some may.new.logged k (sym whole.0 ∙ at) in
        let one : may.program ≡ e = same_Some may.program e (sym may.new.event ∙ ap (λ (x : Logged). unit_event_of x.event) same ∙ is) in
        ap (λ (x : UnitEvent). was_stopped x.outcome) (sym one) ∙ ap was_stopped may.stopped

    pub told_or_stopped : (q n : ℕ) (l k : Logged) (event : Event) (e : UnitEvent) → slice_get log q ≡ Some l → l.event ≡ event → named_by unit event ≡ Some n
        → slice_get (log_of w (suc unit)) n ≡ Some k → unit_event_of k.event ≡ Some e
        → (told_by (log_of w) unit event ≡ Some e) ⊎ (was_stopped e.outcome ≡ true)
    told_or_stopped q n l k (Decides (Landed other m)) e there is names at its = inl (by (other == unit) names)
      where
        by : (b : Bool) → (if b then Some m else None) ≡ Some n → (if b then unit_event_at (log_of w) unit m else None) ≡ Some e
        by true f = ap (unit_event_at (log_of w) unit) (same_Some m n f) ∙ ap (option_and_then (λ (x : Logged). unit_event_of x.event)) at ∙ its
        by false f = absurd (none-some n f)
    told_or_stopped q n l k (Decides (Lost other m)) e there is names at its = inl (by (other == unit) names)
      where
        by : (b : Bool) → (if b then Some m else None) ≡ Some n → (if b then unit_event_at (log_of w) unit m else None) ≡ Some e
        by true f = ap (unit_event_at (log_of w) unit) (same_Some m n f) ∙ ap (option_and_then (λ (x : Logged). unit_event_of x.event)) at ∙ its
        by false f = absurd (none-some n f)
    told_or_stopped q n l k (Decides (ResetDone other m)) e there is names at its = inl (by (other == unit) names)
      where
        by : (b : Bool) → (if b then Some m else None) ≡ Some n → (if b then unit_event_at (log_of w) unit m else None) ≡ Some e
        by true f = ap (unit_event_at (log_of w) unit) (same_Some m n f) ∙ ap (option_and_then (λ (x : Logged). unit_event_of x.event)) at ∙ its
        by false f = absurd (none-some n f)
    told_or_stopped q n l k (Decides (Again other m)) e there is names at its = inr (by (nat_eq other unit) refl names)
      where
        by : (b : Bool) → nat_eq other unit ≡ b → (if b then Some m else None) ≡ Some n → was_stopped e.outcome ≡ true
        by false apart f = absurd (none-some n f)
        by true same f = again_stopped q n l k e there (is ∙ ap₂ (λ u x. Decides (Again u x)) (eqb-true other unit same) (same_Some m n f)) at its
    told_or_stopped q n l k event e there is names at its = absurd (none-some n names)

    abbrev NoneTold-one : ℕ → Type 0
    NoneTold-one q = (n : ℕ) (l : Logged) (e : UnitEvent) → IsNamedAt i w legal unit q n → IsOfChunk i w legal unit line is_program n l e
        → was_stopped e.outcome ≡ true

    one_of : (q : ℕ) (l : Logged) → slice_get log q ≡ Some l → ((e : UnitEvent) → told_by (log_of w) unit l.event ≡ Some e → e.chunk ≢ line) → NoneTold-one q
    one_of q l there apart n k e named is = go (told_or_stopped q n l k l.event e there refl
        (ap (λ (x : Logged). named_by unit x.event) (same_Some l named.logged (sym there ∙ named.there)) ∙ named.names) is.there is.is_event)
      where
        go : (told_by (log_of w) unit l.event ≡ Some e) ⊎ (was_stopped e.outcome ≡ true) → was_stopped e.outcome ≡ true
        go (inl told) = absurd (apart e told is.its_chunk)
        go (inr stopped) = stopped

    none_longer : (from k : ℕ) → NoneTold from k → NoneTold-one k → NoneTold from (suc k)
    none_longer from k before one q n l e low high named is = go (cases_lt q k)
      where
        go : (q < k) ⊎ (k ≤ q) → was_stopped e.outcome ≡ true
        go (inl below) = before q n l e low below named is
        go (inr above) = let same : q ≡ k = omega arith in one n l e (subst (λ x. IsNamedAt i w legal unit x n) same named) is

    known_longer : (k : ℕ) → Known k → NoneTold-one k → Known (suc k)
    known_longer k (inl h) one = inl (record { chunk = h.chunk; there = h.there; empty = h.empty; since = none_longer 0 k h.since one })
    known_longer k (inr h) one = inr (record {
      at = h.at;
      before = (let below : h.at < k = h.before in
          omega arith);
      number = h.number;
      event = h.event;
      telling = h.telling;
      reset = h.reset;
      its_chunk = h.its_chunk;
      since = none_longer (suc h.at) k h.since one;
    })

    module _ (k : ℕ) (l : Logged) (there : slice_get log k ≡ Some l) (c : Chunk) (now : told_chunk i.shape (log_of w) cs line unit (suc k) ≡ Some c)
        (empty : is_empty_state c.state ≡ true)
        (before : (b : Chunk) → told_chunk i.shape (log_of w) cs line unit k ≡ Some b → is_empty_state b.state ≡ true → Known k) where
      abbrev was : List Chunk
      was = after_log i.shape cs (told_first (log_of w) unit k)

      on_chunk : (e : UnitEvent) (n : ℕ) → told_by (log_of w) unit l.event ≡ Some e → IsTelling k n e → e.chunk ≡ line → Known (suc k)
      unfolding told_chunk
      on_chunk e n tells t its = inr (record {
        at = k;
        before = omega arith;
        number = n;
        event = e;
        telling = t;
        reset = kind t.kind;
        its_chunk = its;
        since = λ q m x f low high named is. absurd (omega arith);
      })
        where
          left : slice_get (after_event i.shape was e) line ≡ Some c
          left = ap (λ (ds : List Chunk). slice_get ds line) (sym (told_one k l e there tells)) ∙ now

          both : {x : Bool} → x ≡ true → x ≡ false → ⊥
          both p q = absurd cc

          found : (o : Option Chunk) → slice_get was line ≡ o → (b : Chunk) × (c ≡ after_outcome i.shape b e.command e.outcome)
          found (Some b) is = (b, same_Some c (after_outcome i.shape b e.command e.outcome) (sym left ∙ event_here i.shape was e line b its is))
          found None is = absurd (none-some c (sym (none_left (ap (slice_get was) its ∙ is) is) ∙ left))
            where
              none_left : slice_get was e.chunk ≡ None → slice_get was line ≡ None → slice_get (after_event i.shape was e) line ≡ None
              none_left f g = ap (λ o. slice_get
                  (Rattle.std.specs.Option.option_map_or
                  (λ d. Rattle.std.specs.List.slice_set was e.chunk (after_outcome i.shape d e.command e.outcome)) o was) line) f ∙ g

          kind : ((is_program e.command ≡ true) × ((e.outcome ≡ Answered Done) ⊎ ((k : ℕ) × (e.outcome ≡ Failed k)))) ⊎ ((e.command ≡ Reset)
              × (was_stopped e.outcome ≡ false)) → e.command ≡ Reset
          kind (inr r) = r.0
          kind (inl p) =
              let b = found (slice_get was line) refl in
              absurd (both empty (ap (λ (x : Chunk). is_empty_state x.state) b.1 ∙ program_leaves_used i.shape b.0 e.command e.outcome p.0 p.1))

      off_chunk : (e : UnitEvent) → told_by (log_of w) unit l.event ≡ Some e → e.chunk ≢ line → Known (suc k)
      unfolding told_chunk
      off_chunk e tells other = known_longer k
          (before c (sym (ap (λ (ds : List Chunk). slice_get ds line) (told_one k l e there tells) ∙ event_beside i.shape was e line other) ∙ now) empty)
          (one_of k l there (λ f told. subst (λ (x : UnitEvent). x.chunk ≢ line) (same_Some e f (sym tells ∙ told)) other))

      by_telling : (o : Option UnitEvent) → told_by (log_of w) unit l.event ≡ o → Known (suc k)
      by_telling None none = known_longer k (before c (sym (told_none k l there none) ∙ now) empty)
          (one_of k l there (λ f told. absurd (none-some f (sym none ∙ told))))
      by_telling (Some e) tells = go (nat_eq e.chunk line) refl (telling k l l.event e there refl tells)
        where
          go : (b : Bool) → nat_eq e.chunk line ≡ b → (n : ℕ) × IsTelling k n e → Known (suc k)
          go true same t = on_chunk e t.0 tells t.1 (eqb-true e.chunk line same)
          go false other t = off_chunk e tells (eqb-false e.chunk line other)

    pub known_empty : (k : ℕ) (c : Chunk) → k ≤ length log → told_chunk i.shape (log_of w) cs line unit k ≡ Some c → is_empty_state c.state ≡ true
        → IsEmptySince k ⊎ IsToldReset k
    unfolding told_chunk
    known_empty zero c inside there empty = inl (record { chunk = c; there = there; empty = empty; since = λ q n l e low high named is. absurd (omega arith) })
    known_empty (suc k) c inside there empty =
        let at = got_within log k (omega arith) in
        by_telling k at.0 at.1 c there empty (λ b was full. known_empty k b (omega arith) was full) (told_by (log_of w) unit at.0.event) refl
