-- The blocks of a stripe: those of entries that were taken, and those of a record, each with the
-- record's mark.
use Rattle.std.proofs.Common.{◌≡◌, ◌⊎◌, inl, inr, ℕ, ◌-◌, ◌&&◌, not, Some, List, length, take, replicate, refl}
use Rattle.std.specs.Prelude.{slice_get, map}
use Rattle.std.specs.List.{AllByRecursion, filter}
use Rattle.pblk_model.specs.declared.shape.Shape.{Shape}
use Rattle.pblk_model.specs.Chunk.{Block}
use Rattle.pblk_model.specs.Marks.{pad_block}
use Rattle.pblk_world.specs.Events.{Logged}
use Rattle.pblk_world.specs.EngineLog.{Taken, takes, block_of_taken}
use Rattle.pblk_world.specs.Fronts.{waits, was_placed, waiting}
use Rattle.pblk_world.specs.Placing.{data_blocks}
use Rattle.pblk_model.proofs.Lists.{IsAmong, all_append, all_replicated}
use Rattle.pblk_model.proofs.Maps.{all_mapped, from_filter}
use Rattle.pblk_model.proofs.Parts.{all_by_get, get_whole_within}
use Rattle.prefix_law.proofs.Among.{of_both}

-- ---- blocks of entries

abbrev pub IsOfTaken : Shape → List Taken → Block → Type 0
IsOfTaken s ts b = (b ≡ pad_block s) ⊎ ((k : ℕ) × (t : Taken) × (slice_get ts k ≡ Some t) × (b ≡ block_of_taken t))

pub waiting_taken : (s : Shape) (log : List Logged) (k : ℕ) (t : Taken) → slice_get (waiting s log) k ≡ Some t → IsAmong (takes log) t
waiting_taken s log k t there =
    elim (of_both (filter (λ u. waits s log u && was_placed s log u) (takes log)) (filter (λ u. not (was_placed s log u)) (takes log)) t (k, there)) [
      | inl at ↦ from_filter (λ u. waits s log u && was_placed s log u) (takes log) t at
      | inr at ↦ from_filter (λ u. not (was_placed s log u)) (takes log) t at
    ]

pub data_taken : (s : Shape) (log : List Logged) → AllByRecursion (IsOfTaken s (takes log)) (data_blocks s log)
data_taken s log =
    let blocks : List Block = map block_of_taken (take s.ws_opt (waiting s log)) in
    all_append (IsOfTaken s (takes log)) blocks (replicate (s.ws_opt - length blocks) (pad_block s))
    (all_mapped (IsOfTaken s (takes log)) block_of_taken (take s.ws_opt (waiting s log))
    (all_by_get (λ t. IsOfTaken s (takes log) (block_of_taken t)) (take s.ws_opt (waiting s log)) (λ k t there.
    let at = waiting_taken s log k t (get_whole_within s.ws_opt (waiting s log) k t there).0 in
    inr (at.0, t, at.1, refl))))
    (all_replicated (IsOfTaken s (takes log)) (s.ws_opt - length blocks) (pad_block s) (inl refl))
