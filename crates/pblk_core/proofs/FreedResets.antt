-- The used chunks of a line that is freed come to those that are to be reset, in the line's place.
use Rattle.std.proofs.Common.{◌≡◌, ◌≢◌, ◌⊎◌, inl, inr, ℕ, ◌+◌, ◌<◌, ◌≤◌, zero, suc, true, false, Some, None, Option, List, [], ◌∷◌, ◌++◌, refl, sym, subst, ap, ap₂, ◌∙◌, arith, append_assoc, if◌then◌else◌}
use Rattle.std.specs.Prelude.{slice_get}
use Rattle.std.specs.List.{AllByRecursion, filter, list_all, range_with_len}
use Rattle.pblk_model.specs.declared.chunk.ChunkState.{ChunkState}
use Rattle.pblk_model.specs.declared.chunk.ChunkState.TheVariants as states
use Rattle.pblk_model.specs.Chunk.{Chunk}
use Rattle.pblk_model.specs.Image.{Image, is_online_in, line_units}
use Rattle.pblk_model.specs.Shape.{units}
use Rattle.pblk_laws.specs.LineBlocks.{chunk_in}
use Rattle.pblk_layout.specs.Online.{is_online}
use Rattle.pblk_world.specs.Events.{Free}
use Rattle.pblk_world.specs.World.{World, Logs, log_of}
use Rattle.pblk_world.specs.EngineLog.{Begun, begun}
use Rattle.pblk_world.specs.Lines.{chunks_of, is_given_up_by, is_over_state, known_image, strays_of}
use Rattle.pblk_world.specs.Starts.{seq_of}
use Rattle.pblk_world.specs.LegalMounts.{IsLegalMount}
use Rattle.world_laws.proofs.FoundEmpty.{all_pass}
use Rattle.core_laws.specs.Stepping.{after}
use Rattle.core_laws.proofs.FreedLives.{known_freed, life_beside, life_freed}
use Rattle.core_laws.proofs.FreedWidths.{not_given_up}
use Rattle.core_laws.proofs.KeptLines.{few_units}
use Rattle.core_laws.proofs.UnitBits.{units_below}
use Rattle.pblk_model.proofs.Lists.{IsAmong, all_append}
use Rattle.pblk_model.proofs.Maps.{filter_same, given_at}
use Rattle.pblk_model.proofs.Options.{split_then}
use Rattle.pblk_core.specs.declared.resets.LineChunk.{LineChunk}
use Rattle.pblk_core.specs.Resets.{GetsChunks, in_line, is_used_in, is_used_state, resets_of, units_to_reset, used_units}
use Rattle.pblk_core.proofs.FirstReset.{all_chunks, same_above, same_first}
use Rattle.pblk_core.proofs.KeptResets.{given_up_kept}
use Rattle.pblk_core.proofs.LineBits.{known_count}
use Rattle.pblk_core.proofs.ResetChunks.{live_is, test_chunk}

-- ---- lists

all_of_line : (P : LineChunk → Type 0) (line : ℕ) (us : List ℕ) → ((u : ℕ) → P (record { line = line; unit = u })) → AllByRecursion P (in_line line us)
all_of_line P line [] each = tt
all_of_line P line (u ∷ us) each = (each u, all_of_line P line us each)

-- the chunks of lines from one on are of lines above those before it
all_above : (g : ℕ → List ℕ) (a n line : ℕ) → line < a → AllByRecursion (λ (c : LineChunk). line < c.line) (all_chunks g a n)
all_above g a zero line low = tt
all_above g a (suc n) line low = all_append (λ (c : LineChunk). line < c.line) (in_line a (g a)) (all_chunks g (a + 1) n)
    (all_of_line (λ (c : LineChunk). line < c.line) a (g a) (λ u. low)) (all_above g (a + 1) n line (omega arith))

-- one line gets units, and each other has the same
pub gets_chunks : (g h : ℕ → List ℕ) (a n line : ℕ) → a ≤ line → line < a + n → g line ≡ [] → ((k : ℕ) → k ≢ line → h k ≡ g k)
    → GetsChunks (all_chunks g a n) (all_chunks h a n) line (h line)
gets_chunks g h a zero line low high none other = absurd (omega arith)
gets_chunks g h a (suc n) line low high none other =
    go (same_first a line low) (λ more. gets_chunks g h (a + 1) n line more (omega arith) none other)
  where
    go : (a ≡ line) ⊎ (a + 1 ≤ line) → (a + 1 ≤ line → GetsChunks (all_chunks g (a + 1) n) (all_chunks h (a + 1) n) line (h line))
        → GetsChunks (all_chunks g a (suc n)) (all_chunks h a (suc n)) line (h line)
    go (inl same) rest = record {
      front = [];
      back = all_chunks g (a + 1) n;
      was = ap (λ us. in_line a us ++ all_chunks g (a + 1) n) (ap g same ∙ none);
      is = ap (λ k. in_line k (h k) ++ all_chunks h (a + 1) n) same
          ∙ ap (λ xs. in_line line (h line) ++ xs) (same_above g h (a + 1) n (λ k from. other k (λ c. absurd (omega arith))));
      below = tt;
      above = all_above g (a + 1) n line (omega arith);
    }
    go (inr more) rest = let x : GetsChunks (all_chunks g (a + 1) n) (all_chunks h (a + 1) n) line (h line) = rest more in record {
      front = in_line a (g a) ++ x.front;
      back = x.back;
      was = ap (λ xs. in_line a (g a) ++ xs) x.was ∙ sym (append_assoc (in_line a (g a)) x.front x.back);
      is = ap₂ (λ us xs. in_line a us ++ xs) (other a (λ c. absurd (omega arith))) x.is
          ∙ sym (append_assoc (in_line a (g a)) (x.front ++ in_line line (h line)) x.back)
          ∙ ap (λ xs. xs ++ x.back) (sym (append_assoc (in_line a (g a)) x.front (in_line line (h line))));
      below = all_append (λ (c : LineChunk). c.line < line) (in_line a (g a)) x.front
          (all_of_line (λ (c : LineChunk). c.line < line) a (g a) (λ u. omega arith)) x.below;
      above = x.above;
    }

-- ---- which chunks of a line are used

-- where nothing more is written to it before it is reset, those that aren't Offline
pub used_over : (i : Image) (w : World) (ls : Logs) (line : ℕ) → IsLegalMount i w
    → list_all (λ (c : Chunk). is_over_state false c.state) (chunks_of (known_image i ls) line) ≡ true
    → used_units (known_image i ls) line ≡ line_units (known_image i ls) line
used_over i w ls line mount over =
    filter_same (is_used_in known line) (is_online known line) each (range_with_len 0 (units i.shape))
    ∙ ap (λ n. filter (is_online known line) (range_with_len 0 n)) (sym (known_count i w ls mount))
    ∙ sym (units_below known line (few_units i w ls mount))
  where
    known : Image
    known = known_image i ls

    one : (state : ChunkState) → is_over_state false state ≡ true → is_used_state state ≡ is_online_in state
    one states.Free e = absurd cc
    one states.Open e = absurd cc
    one states.Closed e = refl
    one states.Offline e = refl

    over_at : (unit : ℕ) (c : Chunk) → chunk_in known line unit ≡ Some c → is_over_state false c.state ≡ true
    over_at unit c is =
        let its = split_then (λ (cs : List Chunk). slice_get cs line) (slice_get known.units unit) c is in
        let at : IsAmong (chunks_of known line) c = given_at (λ (cs : List Chunk). slice_get cs line) known.units its.0 c unit its.1 its.2 in
        all_pass (λ (x : Chunk). is_over_state false x.state) (chunks_of known line) at.0 c over at.1

    each : (unit : ℕ) → is_used_in known line unit ≡ is_online known line unit
    each unit = go (chunk_in known line unit) refl ∙ sym (live_is known line unit)
      where
        go : (c : Option Chunk) → chunk_in known line unit ≡ c
            → test_chunk is_used_state (chunk_in known line unit) ≡ test_chunk is_online_in (chunk_in known line unit)
        go None e = ap (test_chunk is_used_state) e ∙ sym (ap (test_chunk is_online_in) e)
        go (Some c) e = ap (test_chunk is_used_state) e ∙ one c.state (over_at unit c e) ∙ sym (ap (test_chunk is_online_in) e)

module _ (i : Image) (w : World) (mount : IsLegalMount i w) (line : ℕ) (b : Begun) (begins : begun (log_of w 0) ≡ Some b) where
  -- ---- the list

  module _ (knows : List ℕ) (seq : ℕ) (has_seq : seq_of i (log_of w) line ≡ Some seq) (in_range : line < i.shape.chunks) where
    abbrev new : Logs
    new = after (log_of w) (Free line) knows

    none_before : units_to_reset i (log_of w) line ≡ []
    none_before = ap (λ t. if t then used_units (known_image i (log_of w)) line else []) (not_given_up i w mount line b begins seq has_seq)

    others : (m : ℕ) → m ≢ line → units_to_reset i (after (log_of w) (Free line) knows) m ≡ units_to_reset i (log_of w) m
    others m apart = ap₂ (λ t (j : Image). if t then used_units j m else [])
        (given_up_kept (log_of w) (Free line) knows m refl (life_beside (log_of w 0) line knows m apart)) (known_freed i (log_of w) line knows)

    its_units : units_to_reset i (after (log_of w) (Free line) knows) line ≡ used_units (known_image i (log_of w)) line
    its_units =
        ap (λ life. if is_given_up_by (strays_of (new 0)) line life then used_units (known_image i new) line else []) (life_freed (log_of w 0) line knows)
        ∙ ap (λ (j : Image). used_units j line) (known_freed i (log_of w) line knows)

    pub resets_freed : GetsChunks (resets_of i (log_of w)) (resets_of i (after (log_of w) (Free line) knows)) line (used_units (known_image i (log_of w)) line)
    resets_freed = subst (GetsChunks (resets_of i (log_of w)) (resets_of i new) line) its_units
        (gets_chunks (units_to_reset i (log_of w)) (units_to_reset i new) 0 i.shape.chunks line (omega arith) (omega arith) none_before others)
    -- ---- its used chunks
