-- What the engine knows of the chunks once it has noted a reset.
use Rattle.std.proofs.Common.{◌≡◌, ◌≢◌, ◌⊎◌, ℕ, nat_eq, if◌then◌else◌, Bool, true, false, Some, None, Option, List, refl, sym, ap, ◌∙◌, inl, inr}
use Rattle.std.specs.Prelude.{slice_get}
use Rattle.std.specs.Option.{option_map, option_map_or, option_and_then}
use Rattle.std.proofs.lemmas.Bool.{eqb-true, eqb-false}
use Rattle.std.proofs.lemmas.Option.{same_Some, none-some}
use Rattle.pblk_model.specs.declared.chunk.ChunkState.{ChunkState}
use Rattle.pblk_model.specs.declared.chunk.ChunkState.TheVariants as states
use Rattle.pblk_model.specs.Chunk.{Chunk}
use Rattle.pblk_model.specs.ChunkStep.{ChunkCommand, Reset}
use Rattle.pblk_model.specs.UnitLog.{UnitEvent, after_outcome}
use Rattle.pblk_model.specs.Image.{Image, is_online_in}
use Rattle.pblk_laws.specs.LineBlocks.{chunk_in}
use Rattle.pblk_layout.specs.Online.{is_online}
use Rattle.pblk_world.specs.Events.{ResetDone, Decides, Logged}
use Rattle.pblk_world.specs.World.{Logs, unit_event_at, unit_event_of}
use Rattle.pblk_world.specs.Answering.{MayNoteReset}
use Rattle.pblk_world.specs.EngineLog.{Begun, begun}
use Rattle.pblk_world.specs.Lines.{known_image, told_by, is_empty_state}
use Rattle.core_laws.specs.Stepping.{after}
use Rattle.pblk_core.specs.Resets.{is_used_state, IsResetTo}
use Rattle.pblk_core.proofs.KnownAfter.{untold_after, told_after, beside_after}
use Rattle.pblk_core.proofs.NamedReset.{IsNamedReset}
use Rattle.pblk_model.proofs.Tests.{other_number, same_number}
use Rattle.pblk_world.proofs.LinesLemmas.{reset_empties}

-- ---- which event it tells of

pub told_here : (logs : Logs) (unit event : ℕ) (may : MayNoteReset logs unit event) → unit_event_at logs unit event ≡ Some may.reset
told_here logs unit event may = ap (option_and_then (λ (l : Logged). unit_event_of l.event)) may.new.is_known ∙ may.new.event

pub told_on : (logs : Logs) (unit event u : ℕ) → unit ≡ u → (may : MayNoteReset logs unit event)
    → told_by logs u (Decides (ResetDone unit event)) ≡ Some may.reset
told_on logs unit event u same may =
    ap (λ n. told_by logs n (Decides (ResetDone unit event))) (sym same)
    ∙ ap (λ b. if b then unit_event_at logs unit event else None) (same_number unit) ∙ told_here logs unit event may

pub told_off : (logs : Logs) (unit event u : ℕ) → unit ≢ u → told_by logs u (Decides (ResetDone unit event)) ≡ None
told_off logs unit event u other = ap (λ b. if b then unit_event_at logs u event else None) (other_number unit u other)

-- each event that it tells of is of the chunk
pub told_chunk : (logs : Logs) (unit event line : ℕ) (may : MayNoteReset logs unit event) → may.reset.chunk ≡ line → (u : ℕ) (x : UnitEvent)
    → told_by logs u (Decides (ResetDone unit event)) ≡ Some x → x.chunk ≡ line
told_chunk logs unit event line may chunk u x told = go (nat_eq unit u) refl
  where
    go : (b : Bool) → nat_eq unit u ≡ b → x.chunk ≡ line
    go true e = ap (λ (y : UnitEvent). y.chunk) (sym (same_Some may.reset x (sym (told_on logs unit event u (eqb-true unit u e) may) ∙ told))) ∙ chunk
    go false e = absurd (none-some x (sym (told_off logs unit event u (eqb-false unit u e)) ∙ told))

-- ---- the chunks

-- what a core that noted it has seen
pub record IsNoted (i : Image) (logs : Logs) (unit event line : ℕ) (knows : List ℕ) (state : ChunkState) : Type 0 where
  pub chunk : Chunk
  pub is_chunk : chunk_in (known_image i logs) line unit ≡ Some chunk
  pub used : is_used_state chunk.state ≡ true
  pub chunk_now : Chunk
  pub now : chunk_in (known_image i (after logs (ResetDone unit event) knows)) line unit ≡ Some chunk_now
  pub state_now : chunk_now.state ≡ state
  pub empty : is_empty_state state ≡ true
  pub other_line : (l u : ℕ) → l ≢ line → chunk_in (known_image i (after logs (ResetDone unit event) knows)) l u ≡ chunk_in (known_image i logs) l u
  pub other_unit : (l u : ℕ) → u ≢ unit → chunk_in (known_image i (after logs (ResetDone unit event) knows)) l u ≡ chunk_in (known_image i logs) l u
  pub told : (u : ℕ) (x : UnitEvent) → told_by logs u (Decides (ResetDone unit event)) ≡ Some x → x.chunk ≡ line

pub noted : (i : Image) (logs : Logs) (unit event line : ℕ) (knows : List ℕ) (state : ChunkState) (b : Begun) → begun (logs 0) ≡ Some b
    → IsNamedReset i logs line unit → IsResetTo i logs unit event line state → IsNoted i logs unit event line knows state
noted i logs unit event line knows state b begins named to = record {
  chunk = named.chunk;
  is_chunk = named.is_chunk;
  used = named.used;
  chunk_now = after_outcome i.shape named.chunk Reset to.may.reset.outcome;
  now = told_after i logs (ResetDone unit event) knows unit line b to.may.reset begins (told_on logs unit event unit refl to.may) to.chunk
      ∙ ap (λ (command : ChunkCommand). option_map (λ (c : Chunk). after_outcome i.shape c command to.may.reset.outcome)
      (chunk_in (known_image i logs) line unit)) to.may.is_reset
      ∙ ap (option_map (λ (c : Chunk). after_outcome i.shape c Reset to.may.reset.outcome)) named.is_chunk;
  state_now = to.leaves named.chunk named.is_chunk;
  empty = ap is_empty_state (sym (to.leaves named.chunk named.is_chunk)) ∙ reset_empties i.shape named.chunk to.may.reset.outcome to.may.not_stopped;
  other_line = λ l u other. by_line l u other (nat_eq unit u) refl;
  other_unit = λ l u other. untold_after i logs (ResetDone unit event) knows u l b begins (told_off logs unit event u (λ e. other (sym e)));
  told = told_chunk logs unit event line to.may to.chunk;
}
  where
    by_line : (l u : ℕ) → l ≢ line → (c : Bool) → nat_eq unit u ≡ c
        → chunk_in (known_image i (after logs (ResetDone unit event) knows)) l u ≡ chunk_in (known_image i logs) l u
    by_line l u other true e = beside_after i logs (ResetDone unit event) knows u l b to.may.reset begins (told_on logs unit event u (eqb-true unit u e) to.may)
        (λ same. other (sym same ∙ to.chunk))
    by_line l u other false e = untold_after i logs (ResetDone unit event) knows u l b begins (told_off logs unit event u (eqb-false unit u e))

-- ---- by tests of a chunk

abbrev pub test_chunk : (ChunkState → Bool) → Option Chunk → Bool
test_chunk p o = option_map_or (λ (c : Chunk). p c.state) o false

pub tested_else : (p : ChunkState → Bool) (i : Image) (logs : Logs) (unit event line : ℕ) (knows : List ℕ) (state : ChunkState)
    → IsNoted i logs unit event line knows state → (l u : ℕ) → (l ≢ line) ⊎ (u ≢ unit)
    → test_chunk p (chunk_in (known_image i (after logs (ResetDone unit event) knows)) l u) ≡ test_chunk p (chunk_in (known_image i logs) l u)
tested_else p i logs unit event line knows state is l u (inl other) = ap (test_chunk p) (is.other_line l u other)
tested_else p i logs unit event line knows state is l u (inr other) = ap (test_chunk p) (is.other_unit l u other)

pub tested_now : (p : ChunkState → Bool) (i : Image) (logs : Logs) (unit event line : ℕ) (knows : List ℕ) (state : ChunkState)
    (is : IsNoted i logs unit event line knows state)
    → test_chunk p (chunk_in (known_image i (after logs (ResetDone unit event) knows)) line unit) ≡ p state
tested_now p i logs unit event line knows state is = ap (test_chunk p) is.now ∙ ap p is.state_now

pub tested_before : (p : ChunkState → Bool) (i : Image) (logs : Logs) (unit event line : ℕ) (knows : List ℕ) (state : ChunkState)
    (is : IsNoted i logs unit event line knows state)
    → test_chunk p (chunk_in (known_image i logs) line unit) ≡ p is.chunk.state
tested_before p i logs unit event line knows state is = ap (test_chunk p) is.is_chunk

-- a used chunk isn't Offline
pub used_online : (state : ChunkState) → is_used_state state ≡ true → is_online_in state ≡ true
used_online states.Free e = refl
used_online states.Open e = refl
used_online states.Closed e = refl
used_online states.Offline e = absurd cc

pub live_is : (j : Image) (line unit : ℕ) → is_online j line unit ≡ test_chunk is_online_in (chunk_in j line unit)
live_is j line unit = go (slice_get j.units unit)
  where
    go : (o : Option (List Chunk))
        → option_map_or (λ (cs : List Chunk). option_map_or (λ (c : Chunk). is_online_in c.state) (slice_get cs line) false) o false ≡ test_chunk is_online_in
        (option_and_then (λ (cs : List Chunk). slice_get cs line) o)
    go None = refl
    go (Some cs) = refl
