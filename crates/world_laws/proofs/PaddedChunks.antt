-- What reads, and programs of Pad blocks in Open chunks, leave of a unit's chunks.
use Rattle.std.proofs.Common.{◌≡◌, ◌≢◌, ℕ, ◌+◌, ◌*◌, ◌<◌, ◌⊎◌, zero, suc, inl, inr, Bool, true, false, cond, Option, Some, List, [], ◌∷◌, ◌++◌, length, take, replicate, refl, sym, ap, ◌∙◌, subst, arith, append_assoc, append-nil, length-append}
use Rattle.std.specs.List.{AllByRecursion, slice_get, slice_set}
use Rattle.std.specs.Prelude.{⊤}
use Rattle.std.specs.Option.{option_map_or}
use Rattle.std.proofs.lemmas.Option.{same_Some, slice_get_within}
use Rattle.std.proofs.lemmas.List.{replicate-append-replicate}
use native.Mathlib.Decide.{ℕ_discrete}
use Rattle.pblk_model.specs.declared.shape.Shape.{Shape}
use Rattle.pblk_model.specs.declared.chunk.ChunkState.TheVariants as states
use Rattle.pblk_model.specs.Chunk.{Chunk, Block, IsChunk, PointerFits, pointer}
use Rattle.pblk_model.specs.ChunkStep.{ChunkCommand, Write, Read, Reset, Done, Gave, Empty, Refused, appended, closed_after}
use Rattle.pblk_model.specs.Marks.{pad_block}
use Rattle.pblk_model.specs.UnitLog.{UnitOutcome, UnitEvent, Answered, Failed, Stopped, after_outcome, after_event}
use Rattle.pblk_model.specs.Image.{is_online_in}
use Rattle.world_laws.specs.Padding.{IsPadded}
use Rattle.pblk_model.proofs.Parts.{all_get, all_taken, get_set_other, get_set_same}
use Rattle.pblk_model.proofs.UnitLogLemmas.{read_leaves}

abbrev pub ArePads : Shape → List Block → Type 0
ArePads s blocks = AllByRecursion (λ b. b ≡ pad_block s) blocks

are_replicated : (s : Shape) (blocks : List Block) → ArePads s blocks → blocks ≡ replicate (length blocks) (pad_block s)
are_replicated s [] all = refl
are_replicated s (b ∷ blocks) all = ap (λ x. x ∷ blocks) all.0 ∙ ap (λ bs. pad_block s ∷ bs) (are_replicated s blocks all.1)

-- ---- one chunk

with_pads : (s : Shape) (c d : Chunk) (blocks : List Block) → c.state ≡ states.Open → 0 < length c.blocks → ArePads s blocks → d.blocks ≡ c.blocks ++ blocks
    → is_online_in d.state ≡ true → IsPadded s c d
with_pads s c d blocks is some pads e on = record {
  was_open = is;
  some = some;
  more = length blocks;
  blocks = e ∙ ap (λ bs. c.blocks ++ bs) (are_replicated s blocks pads);
  online = on;
}

as_it_was : (s : Shape) (c : Chunk) → c.state ≡ states.Open → 0 < length c.blocks → IsPadded s c c
as_it_was s c is some = with_pads s c c [] is some tt (sym (append-nil c.blocks)) (ap is_online_in is)

online_either : (b : Bool) → is_online_in (cond b states.Open states.Closed) ≡ true
online_either true = refl
online_either false = refl

appended_pads : (s : Shape) (c : Chunk) (blocks : List Block) → c.state ≡ states.Open → 0 < length c.blocks → ArePads s blocks
    → IsPadded s c (appended s c blocks)
appended_pads s c blocks is some pads = with_pads s c (appended s c blocks) blocks is some pads refl (online_either _)

-- a program of Pad blocks in an Open chunk, whatever becomes of it
pub program_pads : (s : Shape) (c : Chunk) (at : ℕ) (blocks : List Block) (o : UnitOutcome) → c.state ≡ states.Open → 0 < length c.blocks → ArePads s blocks
    → IsPadded s c (after_outcome s c (Write at blocks) o)
program_pads s c at blocks (Answered Done) is some pads = appended_pads s c blocks is some pads
program_pads s c at blocks (Answered (Gave b)) is some pads = as_it_was s c is some
program_pads s c at blocks (Answered Empty) is some pads = as_it_was s c is some
program_pads s c at blocks (Answered (Refused e)) is some pads = as_it_was s c is some
program_pads s c at blocks (Failed k) is some pads =
    with_pads s c (closed_after s c blocks k) (take (k * s.ws_min) blocks) is some (all_taken (λ b. b ≡ pad_block s) (k * s.ws_min) blocks pads) refl refl
program_pads s c at blocks (Stopped zero) is some pads = as_it_was s c is some
program_pads s c at blocks (Stopped (suc k)) is some pads =
    appended_pads s c (take (suc k * s.ws_min) blocks) is some (all_taken (λ b. b ≡ pad_block s) (suc k * s.ws_min) blocks pads)

-- pads behind pads
padded_twice : (s : Shape) (c d e : Chunk) → IsPadded s c d → IsPadded s d e → IsPadded s c e
padded_twice s c d e p q = record {
  was_open = p.was_open;
  some = p.some;
  more = p.more + q.more;
  blocks = q.blocks ∙ ap (λ bs. bs ++ replicate q.more (pad_block s)) p.blocks
      ∙ append_assoc c.blocks (replicate p.more (pad_block s)) (replicate q.more (pad_block s))
      ∙ ap (λ bs. c.blocks ++ bs) (replicate-append-replicate p.more q.more (pad_block s));
  online = q.online;
}

-- ---- the chunks of a unit

pub record IsPaddedIn (s : Shape) (cs ds : List Chunk) (line : ℕ) : Type 0 where
  pub old : Chunk
  pub new : Chunk
  pub was : slice_get cs line ≡ Some old
  pub is : slice_get ds line ≡ Some new
  pub padded : IsPadded s old new

-- each chunk is as it was, or padded
abbrev pub PadsOnly : Shape → List Chunk → List Chunk → Type 0
PadsOnly s cs ds = (line : ℕ) → (slice_get ds line ≡ slice_get cs line) ⊎ IsPaddedIn s cs ds line

open_some : (s : Shape) (c : Chunk) → IsChunk s c → c.state ≡ states.Open → 0 < length c.blocks
open_some s c chunk is = let fits : (0 < pointer c) × (pointer c < s.clba) = subst (λ st. PointerFits st s.clba (pointer c)) is chunk.place in fits.0

-- an Open chunk among them has blocks
still_some : (s : Shape) (cs ds : List Chunk) (line : ℕ) (d : Chunk) → AllByRecursion (IsChunk s) cs → PadsOnly s cs ds → slice_get ds line ≡ Some d
    → d.state ≡ states.Open → 0 < length d.blocks
still_some s cs ds line d fit only there is = elim (only line) [
  | inl same ↦ open_some s d (all_get (IsChunk s) cs line d fit (sym same ∙ there)) is
  | inr p ↦ behind p
] where
  behind : IsPaddedIn s cs ds line → 0 < length d.blocks
  behind p =
      let same : p.new ≡ d = same_Some p.new d (sym p.is ∙ there) in
      let count : length d.blocks ≡ length p.old.blocks + length (replicate p.padded.more (pad_block s)) =
      ap (λ (x : Chunk). length x.blocks) (sym same) ∙ ap length p.padded.blocks ∙ length-append p.old.blocks (replicate p.padded.more (pad_block s)) in
      let some : 0 < length p.old.blocks = p.padded.some in
      omega arith

-- one more event: its chunk is as it was, or is padded
pub padded_more : (s : Shape) (cs ds : List Chunk) (e : UnitEvent) (found : Chunk) → PadsOnly s cs ds → slice_get ds e.chunk ≡ Some found
    → (after_outcome s found e.command e.outcome ≡ found) ⊎ IsPadded s found (after_outcome s found e.command e.outcome) → PadsOnly s cs (after_event s ds e)
padded_more s cs ds e found only there left line =
    subst (λ xs. (slice_get xs line ≡ slice_get cs line) ⊎ IsPaddedIn s cs xs line) (sym after) (at_line (ℕ_discrete line e.chunk)) where
      after : after_event s ds e ≡ slice_set ds e.chunk (after_outcome s found e.command e.outcome)
      after = ap (λ (o : Option Chunk). option_map_or (λ c. slice_set ds e.chunk (after_outcome s c e.command e.outcome)) o ds) there

      set_here : line ≡ e.chunk → slice_get (slice_set ds e.chunk (after_outcome s found e.command e.outcome)) line ≡ Some
          (after_outcome s found e.command e.outcome)
      set_here same = ap (slice_get (slice_set ds e.chunk (after_outcome s found e.command e.outcome))) same
          ∙ get_set_same ds e.chunk (after_outcome s found e.command e.outcome) (slice_get_within ds e.chunk found there)

      set_else : line ≢ e.chunk → slice_get (slice_set ds e.chunk (after_outcome s found e.command e.outcome)) line ≡ slice_get ds line
      set_else apart = get_set_other ds e.chunk line (after_outcome s found e.command e.outcome) apart

      changed : line ≡ e.chunk → IsPadded s found (after_outcome s found e.command e.outcome)
          → (slice_get ds line ≡ slice_get cs line) ⊎ IsPaddedIn s cs ds line
          → IsPaddedIn s cs (slice_set ds e.chunk (after_outcome s found e.command e.outcome)) line
      changed same p (inl was) = record {
        old = found;
        new = after_outcome s found e.command e.outcome;
        was = sym was ∙ ap (slice_get ds) same ∙ there;
        is = set_here same;
        padded = p;
      }
      changed same p (inr q) =
          let was : q.new ≡ found = same_Some q.new found (sym q.is ∙ ap (slice_get ds) same ∙ there) in
          record {
            old = q.old;
            new = after_outcome s found e.command e.outcome;
            was = q.was;
            is = set_here same;
            padded = padded_twice s q.old found (after_outcome s found e.command e.outcome) (subst (IsPadded s q.old) was q.padded) p;
          }

      kept : slice_get (slice_set ds e.chunk (after_outcome s found e.command e.outcome)) line ≡ slice_get ds line
          → (slice_get ds line ≡ slice_get cs line) ⊎ IsPaddedIn s cs ds line
          → (slice_get (slice_set ds e.chunk (after_outcome s found e.command e.outcome)) line ≡ slice_get cs line)
          ⊎ IsPaddedIn s cs (slice_set ds e.chunk (after_outcome s found e.command e.outcome)) line
      kept same (inl was) = inl (same ∙ was)
      kept same (inr q) = inr (record { old = q.old; new = q.new; was = q.was; is = same ∙ q.is; padded = q.padded })

      at_line : Dec (line ≡ e.chunk)
          → (slice_get (slice_set ds e.chunk (after_outcome s found e.command e.outcome)) line ≡ slice_get cs line)
          ⊎ IsPaddedIn s cs (slice_set ds e.chunk (after_outcome s found e.command e.outcome)) line
      at_line (no apart) = kept (set_else apart) (only line)
      at_line (yes same) = elim left [
        | inl unchanged ↦ kept (set_here same ∙ ap Some unchanged ∙ sym there ∙ sym (ap (slice_get ds) same)) (only line)
        | inr p ↦ inr (changed same p (only line))
      ]

-- a program of Pad blocks in an Open chunk, or a read
abbrev pub IsEarlyCommand : Shape → Chunk → ChunkCommand → Type 0
IsEarlyCommand s c (Write at blocks) = (c.state ≡ states.Open) × ArePads s blocks
IsEarlyCommand s c (Read b) = ⊤
IsEarlyCommand s c Reset = ⊥

-- one of these leaves the chunks so
pub pads_or_reads : (s : Shape) (cs ds : List Chunk) (e : UnitEvent) (found : Chunk) → AllByRecursion (IsChunk s) cs → PadsOnly s cs ds
    → slice_get ds e.chunk ≡ Some found
    → (command : ChunkCommand) → e.command ≡ command → IsEarlyCommand s found command → PadsOnly s cs (after_event s ds e)
pads_or_reads s cs ds e found fit only there (Write at blocks) is early =
    padded_more s cs ds e found only there (inr (subst (λ command. IsPadded s found (after_outcome s found command e.outcome)) (sym is)
    (program_pads s found at blocks e.outcome early.0 (still_some s cs ds e.chunk found fit only there early.0) early.1)))
pads_or_reads s cs ds e found fit only there (Read b) is early =
    padded_more s cs ds e found only there (inl (ap (λ command. after_outcome s found command e.outcome) is ∙ read_leaves s found b e.outcome))
pads_or_reads s cs ds e found fit only there Reset is early = absurd early
