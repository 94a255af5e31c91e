-- What commands leave of a chunk.
use Rattle.std.proofs.Common.{◌≡◌, ◌≢◌, ℕ, ◌+◌, ◌*◌, ◌%◌, ◌<◌, ◌≤◌, inl, inr, Bool, true, false, not, cond, eqb, ltb, Option, Some, None, List, [], ◌++◌, length, take, refl, sym, ap, ◌∙◌, subst, arith, length-append}
use Rattle.std.proofs.lemmas.List.{append-nil, length-take-le}
use Rattle.std.proofs.lemmas.Bool.{eqb-true, eqb-false, ltb-true, ltb-false, or_parts, not-false, cond_both}
use Rattle.std.proofs.lemmas.Option.{same_Some, none-some}
use Rattle.std.proofs.Math.Nat.{add-mod, zero-mod, mul-mod_left, mul-pos}
use Rattle.std.specs.List.{AllByRecursion}
use Rattle.pblk_model.specs.declared.shape.Shape.{Shape}
use Rattle.pblk_model.specs.declared.chunk.ChunkState.{ChunkState}
use Rattle.pblk_model.specs.declared.chunk.ChunkState.TheVariants as states
use Rattle.pblk_model.specs.declared.chunk.ChunkErr.{ChunkErr}
use Rattle.pblk_model.specs.declared.chunk.ChunkErr.TheVariants as errors
use Rattle.pblk_model.specs.Chunk.{Chunk, Block, IsBlock, IsChunk, PointerFits, pointer, free_chunk, offline_chunk}
use Rattle.pblk_model.specs.ChunkStep.{ChunkCommand, Write, Read, Reset, WritesBlocks, ChunkAnswer, Done, Gave, Empty, Refused, ChunkStep, ChunkFails, ChunkStops, place_refusal, write_refusal_in, appended, StopsWithin, refusal, closed_after, reset_in, after_reset}
use Rattle.pblk_model.proofs.Lists.{all_append}
use Rattle.pblk_model.proofs.Parts.{all_taken}
use Rattle.pblk_model.proofs.ChunkLemmas.{free_is_chunk}

-- Refusals.

cond_none : {A : Type 0} (b : Bool) (x : A) (o : Option A) → cond b (Some x) o ≡ None → (b ≡ false) × (o ≡ None)
cond_none true x o h = absurd (none-some x (sym h))
cond_none false x o h = (refl, h)

-- a write that isn't refused has its place
pub record IsPlaced (s : Shape) (wp at n : ℕ) : Type 0 where
  pub pointer : at ≡ wp
  pub some : 0 < n
  pub multiple : n % s.ws_min ≡ 0
  pub inside : at + n ≤ s.clba

pub placed : (s : Shape) (wp at n : ℕ) → place_refusal s wp at n ≡ None → IsPlaced s wp at n
placed s wp at n h =
    let first = cond_none (not (eqb at wp)) errors.NotAtPointer _ h in
    let second = cond_none _ errors.NotMultiple _ first.1 in
    let third = cond_none _ errors.PastEnd None second.1 in
    let parts = or_parts (eqb n 0) (not (eqb (n % s.ws_min) 0)) second.0 in
    let some : eqb n 0 ≡ false = parts.0 in
    let whole : eqb (n % s.ws_min) 0 ≡ true = not-false _ parts.1 in
    record {
      pointer = eqb-true at wp (not-false _ first.0);
      some = omega (arith, eqb-false n 0 some);
      multiple = eqb-true (n % s.ws_min) 0 whole;
      inside = ltb-false s.clba (at + n) third.0;
    }

pub write_placed : (s : Shape) (state : ChunkState) (wp at n : ℕ) → write_refusal_in s state wp at n ≡ None → IsPlaced s wp at n
write_placed s states.Free wp at n h = placed s wp at n h
write_placed s states.Open wp at n h = placed s wp at n h
write_placed s states.Closed wp at n h = absurd (none-some errors.Closed (sym h))
write_placed s states.Offline wp at n h = absurd (none-some errors.Offline (sym h))

-- What is appended.

pub same_appends : (old new : Chunk) → new ≡ old → (more : List Block) × (new.blocks ≡ old.blocks ++ more)
same_appends old new h = ([], ap (λ (c : Chunk). c.blocks) h ∙ sym (append-nil old.blocks))

pub step_appends : (s : Shape) (old new : Chunk) (command : ChunkCommand) (answer : ChunkAnswer) → command ≢ Reset → ChunkStep s old command answer new
    → (more : List Block) × (new.blocks ≡ old.blocks ++ more)
step_appends s old new (Write at blocks) Done other h = (blocks, ap (λ (c : Chunk). c.blocks) h.1)
step_appends s old new (Write at blocks) (Refused e) other h = same_appends old new h.1
step_appends s old new (Write at blocks) (Gave block) other h = absurd h
step_appends s old new (Write at blocks) Empty other h = absurd h
step_appends s old new (Read b) (Gave block) other h = same_appends old new h.3
step_appends s old new (Read b) Empty other h = same_appends old new h.2
step_appends s old new (Read b) (Refused e) other h = same_appends old new h.1
step_appends s old new (Read b) Done other h = absurd h
step_appends s old new Reset answer other h = absurd (other refl)

pub failure_appends : (s : Shape) (old new : Chunk) (command : ChunkCommand) → command ≢ Reset → ChunkFails s old command new
    → (more : List Block) × (new.blocks ≡ old.blocks ++ more)
failure_appends s old new (Write at blocks) other h = (take (h.1 * s.ws_min) blocks, ap (λ (c : Chunk). c.blocks) h.3)
failure_appends s old new (Read b) other h = same_appends old new h.1
failure_appends s old new Reset other h = absurd (other refl)

within_appends : (s : Shape) (old new : Chunk) (command : ChunkCommand) → command ≢ Reset → StopsWithin s old command new
    → (more : List Block) × (new.blocks ≡ old.blocks ++ more)
within_appends s old new (Write at blocks) other h = (take (h.0 * s.ws_min) blocks, ap (λ (c : Chunk). c.blocks) h.3)
within_appends s old new (Read b) other h = absurd h
within_appends s old new Reset other h = absurd (other refl)

pub stop_appends : (s : Shape) (old new : Chunk) (command : ChunkCommand) → command ≢ Reset → ChunkStops s old command new
    → (more : List Block) × (new.blocks ≡ old.blocks ++ more)
stop_appends s old new command other h = elim h [ inl e ↦ same_appends old new e | inr p ↦ within_appends s old new command other p.1 ]

-- What changes nothing.

pub refused_same : (s : Shape) (old new : Chunk) (command : ChunkCommand) (e : ChunkErr) → ChunkStep s old command (Refused e) new → new ≡ old
refused_same s old new (Write at blocks) e h = h.1
refused_same s old new (Read b) e h = h.1
refused_same s old new Reset e h = h.1

pub read_same : (s : Shape) (old new : Chunk) (b : ℕ) (answer : ChunkAnswer) → ChunkStep s old (Read b) answer new → new ≡ old
read_same s old new b (Gave block) h = h.3
read_same s old new b Empty h = h.2
read_same s old new b (Refused e) h = h.1
read_same s old new b Done h = absurd h

pub read_stop_same : (s : Shape) (old new : Chunk) (b : ℕ) → ChunkStops s old (Read b) new → new ≡ old
read_stop_same s old new b h = elim h [ inl e ↦ e | inr p ↦ absurd p.1 ]

-- One answer.

apart : {A P : Type 0} (o : Option A) (x : A) → o ≡ None → o ≡ Some x → P
apart o x h k = absurd (none-some x (sym h ∙ k))

refused_alike : {A : Type 0} (o : Option ChunkErr) (e f : ChunkErr) (old new first : A) → o ≡ Some e → o ≡ Some f → first ≡ old → new ≡ old
    → (◌≡◌ {A = ChunkAnswer} (Refused e) (Refused f)) × (first ≡ new)
refused_alike o e f old new first h k p q = (ap Refused (same_Some e f (sym h ∙ k)), p ∙ sym q)

pub determined : (s : Shape) (old first second : Chunk) (command : ChunkCommand) (answer other : ChunkAnswer) → ChunkStep s old command answer first
    → ChunkStep s old command other second → (answer ≡ other) × (first ≡ second)
determined s old first second (Write at blocks) Done Done h k = (refl, h.1 ∙ sym k.1)
determined s old first second (Write at blocks) Done (Refused e) h k = apart _ e h.0 k.0
determined s old first second (Write at blocks) Done (Gave b) h k = absurd k
determined s old first second (Write at blocks) Done Empty h k = absurd k
determined s old first second (Write at blocks) (Refused e) Done h k = apart _ e k.0 h.0
determined s old first second (Write at blocks) (Refused e) (Refused f) h k = refused_alike _ e f old second first h.0 k.0 h.1 k.1
determined s old first second (Write at blocks) (Refused e) (Gave b) h k = absurd k
determined s old first second (Write at blocks) (Refused e) Empty h k = absurd k
determined s old first second (Write at blocks) (Gave b) other h k = absurd h
determined s old first second (Write at blocks) Empty other h k = absurd h
determined s old first second (Read b) Done other h k = absurd h
determined s old first second (Read b) (Gave x) Done h k = absurd k
determined s old first second (Read b) (Gave x) (Gave y) h k = (ap Gave (same_Some x y (sym h.2 ∙ k.2)), h.3 ∙ sym k.3)
determined s old first second (Read b) (Gave x) Empty h k = absurd (k.1 h.1)
determined s old first second (Read b) (Gave x) (Refused e) h k = apart _ e h.0 k.0
determined s old first second (Read b) Empty Done h k = absurd k
determined s old first second (Read b) Empty (Gave y) h k = absurd (h.1 k.1)
determined s old first second (Read b) Empty Empty h k = (refl, h.2 ∙ sym k.2)
determined s old first second (Read b) Empty (Refused e) h k = apart _ e h.0 k.0
determined s old first second (Read b) (Refused e) Done h k = absurd k
determined s old first second (Read b) (Refused e) (Gave y) h k = apart _ e k.0 h.0
determined s old first second (Read b) (Refused e) Empty h k = apart _ e k.0 h.0
determined s old first second (Read b) (Refused e) (Refused f) h k = refused_alike _ e f old second first h.0 k.0 h.1 k.1
determined s old first second Reset Done Done h k = (refl, h.1 ∙ sym k.1)
determined s old first second Reset Done (Refused e) h k = apart _ e h.0 k.0
determined s old first second Reset Done (Gave b) h k = absurd k
determined s old first second Reset Done Empty h k = absurd k
determined s old first second Reset (Refused e) Done h k = apart _ e k.0 h.0
determined s old first second Reset (Refused e) (Refused f) h k = refused_alike _ e f old second first h.0 k.0 h.1 k.1
determined s old first second Reset (Refused e) (Gave b) h k = absurd k
determined s old first second Reset (Refused e) Empty h k = absurd k
determined s old first second Reset (Gave b) other h k = absurd h
determined s old first second Reset Empty other h k = absurd h

-- Chunks of a shape.

pub add_multiples : (m a b : ℕ) → a % m ≡ 0 → b % m ≡ 0 → (a + b) % m ≡ 0
add_multiples m a b h k = add-mod a b m ∙ rw (h, k) (zero-mod m)

open_or_closed : (wp clba : ℕ) → 0 < wp → wp ≤ clba → PointerFits (cond (ltb wp clba) states.Open states.Closed) clba wp
open_or_closed wp clba some inside =
    cond_both (ltb wp clba) states.Open states.Closed (λ state. PointerFits state clba wp) (λ e. (some, ltb-true wp clba e)) (λ e. inside)

pub appended_is_chunk : (s : Shape) (c : Chunk) (blocks : List Block) → IsChunk s c → AllByRecursion (IsBlock s) blocks → 0 < length blocks
    → length blocks % s.ws_min ≡ 0 → pointer c + length blocks ≤ s.clba → IsChunk s (appended s c blocks)
appended_is_chunk s c blocks chunk each some whole inside =
    let counted : length (c.blocks ++ blocks) ≡ pointer c + length blocks = length-append c.blocks blocks in
    record {
      place = rw counted (open_or_closed (pointer c + length blocks) s.clba (omega arith) inside);
      multiple = rw counted (add_multiples s.ws_min (pointer c) (length blocks) chunk.multiple whole);
      blocks = all_append (IsBlock s) c.blocks blocks chunk.blocks each;
    }

pub closed_is_chunk : (s : Shape) (c : Chunk) (blocks : List Block) (k : ℕ) → IsChunk s c → AllByRecursion (IsBlock s) blocks → k * s.ws_min < length blocks
    → pointer c + length blocks ≤ s.clba → IsChunk s (closed_after s c blocks k)
closed_is_chunk s c blocks k chunk each few inside =
    let taken : length (take (k * s.ws_min) blocks) ≡ k * s.ws_min = length-take-le (k * s.ws_min) blocks (omega arith) in
    let counted : length (c.blocks ++ take (k * s.ws_min) blocks) ≡ pointer c + k * s.ws_min = length-append c.blocks (take (k * s.ws_min) blocks)
    ∙ ap (λ x. pointer c + x) taken in
    record {
      place = rw counted (omega arith);
      multiple = rw counted (add_multiples s.ws_min (pointer c) (k * s.ws_min) chunk.multiple (mul-mod_left k s.ws_min));
      blocks = all_append (IsBlock s) c.blocks (take (k * s.ws_min) blocks) chunk.blocks (all_taken (IsBlock s) (k * s.ws_min) blocks each);
    }

pub cut_is_chunk : (s : Shape) (c : Chunk) (blocks : List Block) (k : ℕ) → 0 < s.ws_min → IsChunk s c → AllByRecursion (IsBlock s) blocks → 0 < k
    → k * s.ws_min ≤ length blocks → pointer c + length blocks ≤ s.clba → IsChunk s (appended s c (take (k * s.ws_min) blocks))
cut_is_chunk s c blocks k minimum chunk each some few inside =
    let taken : length (take (k * s.ws_min) blocks) ≡ k * s.ws_min = length-take-le (k * s.ws_min) blocks few in
    appended_is_chunk s c (take (k * s.ws_min) blocks) chunk (all_taken (IsBlock s) (k * s.ws_min) blocks each) (rw taken (mul-pos some minimum))
    (rw taken (mul-mod_left k s.ws_min)) (rw taken (omega arith))

pub offline_is_chunk : (s : Shape) → IsChunk s offline_chunk
offline_is_chunk s = record { place = refl; multiple = zero-mod s.ws_min; blocks = tt }

pub reset_is_chunk : (s : Shape) (state : ChunkState) (wp : ℕ) → IsChunk s (reset_in s state wp)
reset_is_chunk s states.Free wp = free_is_chunk s
reset_is_chunk s states.Open wp = free_is_chunk s
reset_is_chunk s states.Closed wp = cond_both (eqb wp s.clba) free_chunk offline_chunk (IsChunk s) (λ e. free_is_chunk s) (λ e. offline_is_chunk s)
reset_is_chunk s states.Offline wp = offline_is_chunk s

chunk_at : (s : Shape) (c d : Chunk) → c ≡ d → IsChunk s d → IsChunk s c
chunk_at s c d e h = subst (IsChunk s) (sym e) h

pub step_is_chunk : (s : Shape) (old new : Chunk) (command : ChunkCommand) (answer : ChunkAnswer) → IsChunk s old → WritesBlocks s command
    → ChunkStep s old command answer new → IsChunk s new
step_is_chunk s old new (Write at blocks) Done chunk each h =
    let place = write_placed s old.state (pointer old) at (length blocks) h.0 in
    chunk_at s new (appended s old blocks) h.1 (appended_is_chunk s old blocks chunk each place.some place.multiple (omega arith))
step_is_chunk s old new (Write at blocks) (Refused e) chunk each h = chunk_at s new old h.1 chunk
step_is_chunk s old new (Write at blocks) (Gave block) chunk each h = absurd h
step_is_chunk s old new (Write at blocks) Empty chunk each h = absurd h
step_is_chunk s old new (Read b) answer chunk each h = chunk_at s new old (read_same s old new b answer h) chunk
step_is_chunk s old new Reset Done chunk each h = chunk_at s new (after_reset s old) h.1 (reset_is_chunk s old.state (pointer old))
step_is_chunk s old new Reset (Refused e) chunk each h = chunk_at s new old h.1 chunk
step_is_chunk s old new Reset (Gave block) chunk each h = absurd h
step_is_chunk s old new Reset Empty chunk each h = absurd h

pub failure_is_chunk : (s : Shape) (old new : Chunk) (command : ChunkCommand) → IsChunk s old → WritesBlocks s command → ChunkFails s old command new
    → IsChunk s new
failure_is_chunk s old new (Write at blocks) chunk each h =
    let place = write_placed s old.state (pointer old) at (length blocks) h.0 in
    chunk_at s new (closed_after s old blocks h.1) h.3 (closed_is_chunk s old blocks h.1 chunk each h.2 (omega arith))
failure_is_chunk s old new (Read b) chunk each h = chunk_at s new old h.1 chunk
failure_is_chunk s old new Reset chunk each h = chunk_at s new offline_chunk h.1 (offline_is_chunk s)

within_is_chunk : (s : Shape) (old new : Chunk) (command : ChunkCommand) → 0 < s.ws_min → IsChunk s old → WritesBlocks s command → refusal s old command ≡ None
    → StopsWithin s old command new → IsChunk s new
within_is_chunk s old new (Write at blocks) minimum chunk each free h =
    let place = write_placed s old.state (pointer old) at (length blocks) free in
    chunk_at s new (appended s old (take (h.0 * s.ws_min) blocks)) h.3 (cut_is_chunk s old blocks h.0 minimum chunk each h.1 h.2 (omega arith))
within_is_chunk s old new (Read b) minimum chunk each free h = absurd h
within_is_chunk s old new Reset minimum chunk each free h = chunk_at s new (after_reset s old) h (reset_is_chunk s old.state (pointer old))

pub stop_is_chunk : (s : Shape) (old new : Chunk) (command : ChunkCommand) → 0 < s.ws_min → IsChunk s old → WritesBlocks s command
    → ChunkStops s old command new → IsChunk s new
stop_is_chunk s old new command minimum chunk each h =
    elim h [ inl e ↦ chunk_at s new old e chunk | inr p ↦ within_is_chunk s old new command minimum chunk each p.0 p.1 ]
