-- What made a chunk hold something: it held it when the mount began, or a program put it there; and
-- since then the chunk was reset by nothing that did anything.
use Rattle.std.proofs.Common.{◌≡◌, ◌≢◌, ℕ, ◌+◌, ◌<◌, ◌≤◌, ◌⊎◌, inl, inr, suc, zero, nat_eq, Bool, true, false, Some, length, refl, sym, subst, ap, ap₂, ◌∙◌, arith}
use Rattle.std.specs.Prelude.{slice_get}
use Rattle.std.proofs.lemmas.Bool.{cases_lt, eqb-true, eqb-false}
use Rattle.std.proofs.lemmas.Option.{same_Some}
use Rattle.pblk_model.specs.declared.shape.Shape.{Shape}
use Rattle.pblk_model.specs.Chunk.{Chunk}
use Rattle.pblk_model.specs.ChunkStep.{ChunkCommand, Write, Read, Reset, Done, Gave, Empty, Refused}
use Rattle.pblk_model.specs.UnitLog.{UnitOutcome, Answered, Failed, Stopped, UnitEvent, IsOutcome, after_outcome}
use Rattle.pblk_model.specs.Image.{Image}
use Rattle.pblk_model.proofs.UnitLogLemmas.{read_leaves}
use Rattle.pblk_world.specs.Events.{Logged}
use Rattle.pblk_world.specs.World.{World, log_of, unit_event_of}
use Rattle.pblk_world.specs.Lines.{is_empty_state}
use Rattle.pblk_world.specs.Commanding.{is_program, is_reset, was_stopped}
use Rattle.pblk_world.specs.Legal.{IsLegal}
use Rattle.pblk_world.proofs.LinesLemmas.{reset_empty}
use Rattle.pblk_model.proofs.Parts.{got_within}
use Rattle.world_laws.specs.UnitChunks.{chunk_after}
use Rattle.world_laws.proofs.Deeds.{IsDeed, deed}

-- a reset that isn't stopped leaves the chunk empty
pub reset_leaves_empty : (s : Shape) (c : Chunk) (o : UnitOutcome) → IsOutcome s c Reset o → was_stopped o ≡ false
    → is_empty_state (after_outcome s c Reset o).state ≡ true
reset_leaves_empty s c (Answered Done) h going = reset_empty s c
reset_leaves_empty s c (Answered (Gave b)) h going = absurd h.1
reset_leaves_empty s c (Answered Empty) h going = absurd h.1
reset_leaves_empty s c (Answered (Refused e)) h going = absurd h.0
reset_leaves_empty s c (Failed k) h going = refl
reset_leaves_empty s c (Stopped k) h going = absurd cc

module _ (i : Image) (w : World) (legal : IsLegal i w) (unit line : ℕ) where
  -- the event of this number is a command of the chunk that passes a test
  pub record IsOfChunk (test : ChunkCommand → Bool) (n : ℕ) (l : Logged) (e : UnitEvent) : Type 0 where
    pub there : slice_get (log_of w (suc unit)) n ≡ Some l
    pub is_event : unit_event_of l.event ≡ Some e
    pub its_chunk : e.chunk ≡ line
    pub passes : test e.command ≡ true

  abbrev pub NoReset : ℕ → ℕ → Type 0
  NoReset from to = (m : ℕ) (l : Logged) (e : UnitEvent) → from ≤ m → m < to → IsOfChunk is_reset m l e → was_stopped e.outcome ≡ true

  pub record IsWrittenBy (from to : ℕ) : Type 0 where
    pub number : ℕ
    pub first : from ≤ number
    pub before : number < to
    pub logged : Logged
    pub event : UnitEvent
    pub program : IsOfChunk is_program number logged event
    pub since : NoReset (suc number) to

  pub record IsAsBefore (from to : ℕ) : Type 0 where
    pub chunk : Chunk
    pub there : chunk_after i (log_of w) line unit from ≡ Some chunk
    pub used : is_empty_state chunk.state ≡ false
    pub since : NoReset from to

  abbrev pub LastUse : ℕ → ℕ → Type 0
  LastUse from to = IsAsBefore from to ⊎ IsWrittenBy from to

  abbrev NoReset-one : ℕ → Type 0
  NoReset-one n = (l : Logged) (e : UnitEvent) → IsOfChunk is_reset n l e → was_stopped e.outcome ≡ true

  none_longer : (from n : ℕ) → NoReset from n → NoReset-one n → NoReset from (suc n)
  none_longer from n before one m l e low high is = go (cases_lt m n)
    where
      go : (m < n) ⊎ (n ≤ m) → was_stopped e.outcome ≡ true
      go (inl below) = before m l e low below is
      go (inr above) = let same : m ≡ n = omega arith in one l e (subst (λ k. IsOfChunk is_reset k l e) same is)

  use_longer : (from n : ℕ) → LastUse from n → NoReset-one n → LastUse from (suc n)
  use_longer from n (inl h) one = inl (record { chunk = h.chunk; there = h.there; used = h.used; since = none_longer from n h.since one })
  use_longer from n (inr h) one = inr (record {
    number = h.number;
    first = h.first;
    before = (let below : h.number < n = h.before in omega arith);
    logged = h.logged;
    event = h.event;
    program = h.program;
    since = none_longer (suc h.number) n h.since one;
  })

  module _ (n : ℕ) (l : Logged) (at : slice_get (log_of w (suc unit)) n ≡ Some l) (d : IsDeed i w unit n l) where
    same_event : {test : ChunkCommand → Bool} (k : Logged) (e : UnitEvent) → IsOfChunk test n k e → d.event ≡ e
    same_event k e is =
        let same : l ≡ k = same_Some l k (sym at ∙ is.there) in
        same_Some d.event e (sym d.is_event ∙ ap (λ (x : Logged). unit_event_of x.event) same ∙ is.is_event)

    apart : d.event.chunk ≢ line → NoReset-one n
    apart other k e is = absurd (other (ap (λ (x : UnitEvent). x.chunk) (same_event k e is) ∙ is.its_chunk))

    no_reset : is_reset d.event.command ≡ false → NoReset-one n
    no_reset none k e is = absurd (both (ap (λ (x : UnitEvent). is_reset x.command) (same_event k e is) ∙ is.passes) none)
      where
        both : is_reset d.event.command ≡ true → is_reset d.event.command ≡ false → ⊥
        both p q = absurd cc

    stopped_one : was_stopped d.event.outcome ≡ true → NoReset-one n
    stopped_one was k e is = ap (λ (x : UnitEvent). was_stopped x.outcome) (sym (same_event k e is)) ∙ was

    written : (from : ℕ) → from ≤ n → d.event.chunk ≡ line → is_program d.event.command ≡ true → IsWrittenBy from (suc n)
    written from low its program = record {
      number = n;
      first = low;
      before = omega arith;
      logged = l;
      event = d.event;
      program = record { there = at; is_event = d.is_event; its_chunk = its; passes = program };
      since = λ m k e above below is. absurd (omega arith);
    }

    module _ (from : ℕ) (low : from ≤ n) (c : Chunk) (now : chunk_after i (log_of w) line unit (suc n) ≡ Some c) (used : is_empty_state c.state ≡ false)
        (before : (b : Chunk) → chunk_after i (log_of w) line unit n ≡ Some b → is_empty_state b.state ≡ false → LastUse from n) where
      beside : d.event.chunk ≢ line → LastUse from (suc n)
      beside other = use_longer from n (before c (sym (d.others line other) ∙ now) used) (apart other)

      module _ (its : d.event.chunk ≡ line) where
        was : chunk_after i (log_of w) line unit n ≡ Some d.found
        was = ap (λ k. chunk_after i (log_of w) k unit n) (sym its) ∙ d.there

        left : after_outcome i.shape d.found d.event.command d.event.outcome ≡ c
        left = same_Some (after_outcome i.shape d.found d.event.command d.event.outcome) c (sym d.left ∙ ap (λ k. chunk_after i (log_of w) k unit (suc n)) its
            ∙ now)

        -- where the chunk stays
        stays : after_outcome i.shape d.found d.event.command d.event.outcome ≡ d.found → LastUse from n
        stays same = before d.found was (ap (λ (x : Chunk). is_empty_state x.state) (sym same ∙ left) ∙ used)

        not_empty : {x : Bool} → x ≡ true → x ≡ false → ⊥
        not_empty p q = absurd cc

        full : (o : UnitOutcome) → d.event.outcome ≡ o → d.event.command ≡ Reset → is_empty_state (after_outcome i.shape d.found Reset o).state ≡ false
        full o is command = ap (λ (x : Chunk). is_empty_state x.state) (sym (ap₂ (λ x o. after_outcome i.shape d.found x o) command is) ∙ left) ∙ used

        by_reset : (o : UnitOutcome) → d.event.outcome ≡ o → d.event.command ≡ Reset → IsOutcome i.shape d.found Reset o → LastUse from (suc n)
        by_reset (Stopped zero) is command may = use_longer from n (stays (ap₂ (λ x o. after_outcome i.shape d.found x o) command is))
            (stopped_one (ap was_stopped is))
        by_reset (Stopped (suc k)) is command may = absurd (not_empty (reset_empty i.shape d.found) (full (Stopped (suc k)) is command))
        by_reset (Answered a) is command may = absurd (not_empty (reset_leaves_empty i.shape d.found (Answered a) may refl) (full (Answered a) is command))
        by_reset (Failed k) is command may = absurd (not_empty (reset_leaves_empty i.shape d.found (Failed k) may refl) (full (Failed k) is command))

        by_command : (command : ChunkCommand) → d.event.command ≡ command → LastUse from (suc n)
        by_command (Write place blocks) is = inr (written from low its (ap is_program is))
        by_command (Read place) is = use_longer from n
            (stays (ap (λ x. after_outcome i.shape d.found x d.event.outcome) is ∙ read_leaves i.shape d.found place d.event.outcome))
            (no_reset (ap is_reset is))
        by_command Reset is = by_reset d.event.outcome refl is (subst (λ x. IsOutcome i.shape d.found x d.event.outcome) is d.outcome)

      next_use : LastUse from (suc n)
      next_use = go (nat_eq d.event.chunk line) refl
        where
          go : (b : Bool) → nat_eq d.event.chunk line ≡ b → LastUse from (suc n)
          go true same = by_command (eqb-true d.event.chunk line same) d.event.command refl
          go false other = beside (eqb-false d.event.chunk line other)

  pub last_use : (from d : ℕ) (c : Chunk) → from + d ≤ length (log_of w (suc unit)) → chunk_after i (log_of w) line unit (from + d) ≡ Some c
      → is_empty_state c.state ≡ false → LastUse from (from + d)
  last_use from zero c inside there used =
      let same : from + 0 ≡ from = omega arith in
      inl (record {
        chunk = c;
        there = ap (chunk_after i (log_of w) line unit) (sym same) ∙ there;
        used = used;
        since = λ m k e low high is. absurd (omega arith);
      })
  last_use from (suc d) c inside there used =
      let next : from + suc d ≡ suc (from + d) = omega arith in
      let at = got_within (log_of w (suc unit)) (from + d) (omega arith) in
      subst (LastUse from) (sym next) (next_use (from + d) at.0 at.1 (deed i w unit (from + d) at.0 legal at.1) from (omega arith) c
      (ap (chunk_after i (log_of w) line unit) (sym next) ∙ there) used (λ b was full. last_use from d b (omega arith) was full))
