-- What a reset of a chunk was: of a line that was given up by what the unit knew, and of a chunk
-- that wasn't empty, but for one that leaves nothing after a stop. An empty chunk stays where
-- nothing is programmed.
use Rattle.std.proofs.Common.{◌≡◌, ℕ, ◌+◌, ◌<◌, ◌≤◌, ◌⊎◌, inl, inr, ◌==◌, ◌&&◌, ◌||◌, suc, zero, nat_eq, Bool, true, false, Some, None, Option, List, [], ◌∷◌, length, take, refl, sym, ap, ◌∙◌, arith}
use Rattle.std.specs.Prelude.{slice_get}
use Rattle.std.specs.List.{list_any}
use Rattle.std.proofs.lemmas.Bool.{eqb-true, eqb-false}
use Rattle.std.proofs.lemmas.Option.{same_Some}
use Rattle.pblk_model.specs.Found.{IsUsed}
use Rattle.pblk_model.specs.Chunk.{Chunk}
use Rattle.pblk_model.specs.ChunkStep.{ChunkCommand, Write, Read, Reset}
use Rattle.pblk_model.specs.UnitLog.{UnitEvent, Stopped}
use Rattle.pblk_model.specs.Image.{Image}
use Rattle.pblk_world.specs.Events.{Logged}
use Rattle.pblk_world.specs.World.{World, log_of, knows_engine, prefixes, unit_events}
use Rattle.pblk_world.specs.EngineLog.{Begun, begun, life_of, is_opened}
use Rattle.pblk_world.specs.Lines.{is_empty_state, is_given_up, strays_of}
use Rattle.pblk_world.specs.Commanding.{is_program, is_reset, was_stopped, has_stopped, is_stopped_reset, IsCommand}
use Rattle.pblk_world.specs.Legal.{IsLegal}
use Rattle.pblk_world.proofs.EngineLogLemmas.{begun_knows}
use Rattle.pblk_world.proofs.LinesLemmas.{not_given_up, used_is}
use Rattle.pblk_model.proofs.Parts.{got_within}
use Rattle.pblk_model.proofs.Tests.{either, or_left, or_right, second_of}
use Rattle.world_laws.specs.UnitChunks.{NoProgram, chunk_after}
use Rattle.world_laws.proofs.NamedPrefixes.{was_made}
use Rattle.world_laws.proofs.Deeds.{IsDeed, deed, fetch_leaves, stop_leaves, same_events}

any_weaker : {X : Type 0} (f g : X → Bool) → ((x : X) → f x ≡ true → g x ≡ true) → (xs : List X) → list_any f xs ≡ true → list_any g xs ≡ true
any_weaker f g says [] e = absurd cc
any_weaker f g says (x ∷ xs) e = by (either (f x) (list_any f xs) e) (any_weaker f g says xs)
  where
    by : (f x ≡ true) ⊎ (list_any f xs ≡ true) → (list_any f xs ≡ true → list_any g xs ≡ true) → (g x || list_any g xs) ≡ true
    by (inl here) rest = or_left (g x) (list_any g xs) (says x here)
    by (inr later) rest = or_right (g x) (list_any g xs) (rest later)

module _ (i : Image) (w : World) (legal : IsLegal i w) (unit n : ℕ) (l : Logged) (there : slice_get (log_of w (suc unit)) n ≡ Some l)
    (d : IsDeed i w unit n l) where
  pub record IsReset : Type 0 where
    pub knew : 0 < knows_engine l
    pub given_up : is_given_up (take (knows_engine l) (log_of w 0)) d.event.chunk ≡ true
    pub used : IsUsed d.found.state ⊎ (d.event.outcome ≡ Stopped 0)

  by_command : (command : ChunkCommand) (o : Option Begun) → command ≡ Reset → begun (take (knows_engine l) (log_of w 0)) ≡ o
      → IsCommand i (prefixes l (log_of w)) unit d.found d.event.chunk command o → IsReset
  by_command (Write at blocks) o is begins may = absurd cc
  by_command (Read at) o is begins may = absurd cc
  by_command Reset None is begins may = absurd may
  by_command Reset (Some b) is begins may = record { knew = begun_knows (knows_engine l) (log_of w 0) b begins; given_up = may.line; used = go may.used }
    where
      go : IsUsed d.found.state ⊎ (list_any (is_stopped_reset d.event.chunk) (unit_events (prefixes l (log_of w)) unit) ≡ true)
          → IsUsed d.found.state ⊎ (d.event.outcome ≡ Stopped 0)
      go (inl used) = inl used
      go (inr stopped) = inr (d.stopped (ap has_stopped (sym (same_events i w unit n l there (was_made i w (suc unit) n l legal there)))
          ∙ any_weaker (is_stopped_reset d.event.chunk) (λ (e : UnitEvent). was_stopped e.outcome)
          (λ e was. second_of ((e.chunk == d.event.chunk) && is_reset e.command) (was_stopped e.outcome) was)
          (unit_events (prefixes l (log_of w)) unit) stopped))

  pub reset : d.event.command ≡ Reset → IsReset
  reset is = by_command d.event.command (begun (take (knows_engine l) (log_of w 0))) is refl d.command

  pub not_opened : IsReset → is_opened (life_of (take (knows_engine l) (log_of w 0)) d.event.chunk) ≡ false
  not_opened r = not_given_up (strays_of (take (knows_engine l) (log_of w 0))) d.event.chunk
      (life_of (take (knows_engine l) (log_of w 0)) d.event.chunk) r.given_up

  -- on an empty chunk nothing but a program does anything
  pub empty_stays : is_empty_state d.found.state ≡ true → is_program d.event.command ≡ false → (line : ℕ)
      → chunk_after i (log_of w) line unit (suc n) ≡ chunk_after i (log_of w) line unit n
  empty_stays empty none = go d.event.command refl
    where
      go : (command : ChunkCommand) → d.event.command ≡ command → (line : ℕ) → chunk_after i (log_of w) line unit (suc n) ≡ chunk_after i (log_of w) line unit n
      go (Write at blocks) is = absurd (both (ap is_program is) none)
        where
          both : is_program d.event.command ≡ true → is_program d.event.command ≡ false → ⊥
          both p q = absurd cc
      go (Read at) is = fetch_leaves i w unit n l d at is
      go Reset is = by (reset is).used
        where
          by : IsUsed d.found.state ⊎ (d.event.outcome ≡ Stopped 0) → (line : ℕ)
              → chunk_after i (log_of w) line unit (suc n) ≡ chunk_after i (log_of w) line unit n
          by (inl used) = absurd (both empty (used_is d.found.state used))
            where
              both : is_empty_state d.found.state ≡ true → is_empty_state d.found.state ≡ false → ⊥
              both p q = absurd cc
          by (inr stopped) = stop_leaves i w unit n l d stopped

module _ (i : Image) (w : World) (legal : IsLegal i w) (unit line : ℕ) where
  pub empty_until : (from d : ℕ) (c : Chunk) → from + d ≤ length (log_of w (suc unit)) → chunk_after i (log_of w) line unit from ≡ Some c
      → is_empty_state c.state ≡ true → NoProgram (log_of w) line unit from (from + d)
      → chunk_after i (log_of w) line unit (from + d) ≡ Some c
  empty_until from zero c inside there empty none = let same : from + 0 ≡ from = omega arith in ap (chunk_after i (log_of w) line unit) same ∙ there
  empty_until from (suc d) c inside there empty none =
      let next : from + suc d ≡ suc (from + d) = omega arith in
      let at = got_within (log_of w (suc unit)) (from + d) (omega arith) in
      let before : chunk_after i (log_of w) line unit (from + d) ≡ Some c = empty_until from d c (omega arith) there empty
      (λ m l e low high. none m l e low (omega arith)) in
      ap (chunk_after i (log_of w) line unit) next
      ∙ by at.0 at.1 (deed i w unit (from + d) at.0 legal at.1) before (nat_eq (deed i w unit (from + d) at.0 legal at.1).event.chunk line) refl ∙ before
    where
      by : (l : Logged) (there : slice_get (log_of w (suc unit)) (from + d) ≡ Some l) (e : IsDeed i w unit (from + d) l)
          → chunk_after i (log_of w) line unit (from + d) ≡ Some c → (b : Bool) → nat_eq e.event.chunk line ≡ b
          → chunk_after i (log_of w) line unit (suc (from + d)) ≡ chunk_after i (log_of w) line unit (from + d)
      by l at e before false apart = e.others line (eqb-false e.event.chunk line apart)
      by l at e before true same =
          let its : e.event.chunk ≡ line = eqb-true e.event.chunk line same in
          let found : e.found ≡ c = same_Some e.found c (sym e.there ∙ ap (λ k. chunk_after i (log_of w) k unit (from + d)) its ∙ before) in
          empty_stays i w legal unit (from + d) l at e (ap (λ (x : Chunk). is_empty_state x.state) found ∙ empty)
          (none (from + d) l e.event (omega arith) (omega arith) at e.is_event its) line
