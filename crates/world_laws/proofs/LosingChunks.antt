-- Where nothing is programmed in a chunk any more, it stays as it is, or is Free or Offline in the
-- end.
use Rattle.std.proofs.Common.{◌≡◌, ℕ, ◌+◌, ◌-◌, ◌≤◌, ◌⊎◌, inl, inr, suc, Bool, true, false, None, Some, Option, List, [], ◌∷◌, length, refl, sym, subst, ap, ap₂, ◌∙◌, arith}
use Rattle.std.proofs.lemmas.Option.{none-some, same_Some}
use Rattle.pblk_model.specs.declared.chunk.ChunkState.{ChunkState}
use Rattle.pblk_model.specs.declared.chunk.ChunkState.TheVariants as states
use Rattle.pblk_model.specs.declared.shape.Shape.{Shape}
use Rattle.pblk_model.specs.Accepted.{IsAccepted}
use Rattle.pblk_model.specs.Chunk.{Block, Chunk, IsChunk, PointerFits, free_chunk, offline_chunk}
use Rattle.pblk_model.specs.Image.{Image, IsFit, is_online_in}
use Rattle.pblk_laws.specs.LineBlocks.{chunk_in}
use Rattle.pblk_world.specs.World.{World, log_of}
use Rattle.pblk_world.specs.Lines.{is_empty_state}
use Rattle.pblk_world.specs.Legal.{IsLegal}
use Rattle.world_laws.specs.Losing.{IsLostAt}
use Rattle.world_laws.specs.UnitChunks.{NoProgram, chunk_after}
use Rattle.world_laws.proofs.KeptChunks.{kept_or_emptied}
use Rattle.world_laws.proofs.Resets.{empty_until}
use Rattle.world_laws.proofs.UnitChunks.{still_there}
use Rattle.world_laws.proofs.UnitLogs.{chunk_fits}

nothing_in : (state : ChunkState) (clba : ℕ) (bs : List Block) → is_empty_state state ≡ true → PointerFits state clba (length bs) → bs ≡ []
nothing_in states.Free clba [] empty fits = refl
nothing_in states.Free clba (x ∷ bs) empty fits = absurd (omega arith)
nothing_in states.Open clba bs empty fits = absurd cc
nothing_in states.Closed clba bs empty fits = absurd cc
nothing_in states.Offline clba [] empty fits = refl
nothing_in states.Offline clba (x ∷ bs) empty fits = absurd (omega arith)

-- an empty chunk has no blocks
empty_is : (s : Shape) (x : Chunk) → IsChunk s x → is_empty_state x.state ≡ true → (x ≡ free_chunk) ⊎ (x ≡ offline_chunk)
empty_is s x fits empty = by x.state refl empty where
  made : (state : ChunkState) → x.state ≡ state → x ≡ record { state = state; blocks = [] }
  made state is = ap₂ (λ t bs. record { state = t; blocks = bs }) is (nothing_in x.state s.clba x.blocks empty fits.place)

  by : (state : ChunkState) → x.state ≡ state → is_empty_state state ≡ true → (x ≡ free_chunk) ⊎ (x ≡ offline_chunk)
  by states.Free is e = inl (made states.Free is)
  by states.Open is e = absurd cc
  by states.Closed is e = absurd cc
  by states.Offline is e = inr (made states.Offline is)

used_online : (state : ChunkState) → is_empty_state state ≡ false → is_online_in state ≡ true
used_online states.Free used = refl
used_online states.Open used = refl
used_online states.Closed used = refl
used_online states.Offline used = absurd cc

-- a chunk in two images, emptied in the second unless it is the same
lost_at : (a b : Image) (line unit : ℕ) (c x : Chunk) (s : Shape) → chunk_in a line unit ≡ Some c → chunk_in b line unit ≡ Some x → IsChunk s x
    → (x ≡ c) ⊎ (is_empty_state x.state ≡ true) → (is_empty_state c.state ≡ true → x ≡ c)
    → (chunk_in b line unit ≡ chunk_in a line unit) ⊎ IsLostAt a b line unit
lost_at a b line unit c x s was is fits emptied stays = by emptied (is_empty_state c.state) refl where
  kept : x ≡ c → chunk_in b line unit ≡ chunk_in a line unit
  kept same = is ∙ ap (λ y. Some y) same ∙ sym was

  by : (x ≡ c) ⊎ (is_empty_state x.state ≡ true) → (t : Bool) → is_empty_state c.state ≡ t
      → (chunk_in b line unit ≡ chunk_in a line unit) ⊎ IsLostAt a b line unit
  by (inl same) t e = inl (kept same)
  by (inr empty) true e = inl (kept (stays e))
  by (inr empty) false e = inr (record {
    old = c;
    was = was;
    online = used_online c.state e;
    is = elim (empty_is s x fits empty) [
      | inl free ↦ inl (is ∙ ap (λ y. Some y) free)
      | inr gone ↦ inr (is ∙ ap (λ y. Some y) gone)
    ];
  })

module _ (i : Image) (w : World) (accepted : IsAccepted i.shape) (fit : IsFit i) (legal : IsLegal i w) (unit line from : ℕ)
    (inside : from ≤ length (log_of w (suc unit))) (none : NoProgram (log_of w) line unit from (length (log_of w (suc unit)))) where
  abbrev to : ℕ
  to = length (log_of w (suc unit))

  -- in an image that has the chunk of then, and in one that has it as it is in the end
  pub kept_or_lost : (a b : Image) → chunk_in a line unit ≡ chunk_after i (log_of w) line unit from
      → chunk_in b line unit ≡ chunk_after i (log_of w) line unit (length (log_of w (suc unit)))
      → (chunk_in b line unit ≡ chunk_in a line unit) ⊎ IsLostAt a b line unit
  kept_or_lost a b was is = by (chunk_after i (log_of w) line unit from) (chunk_after i (log_of w) line unit to) refl refl where
    far : from + (to - from) ≡ to
    far = omega arith

    nothing : NoProgram (log_of w) line unit from (from + (to - from))
    nothing = subst (NoProgram (log_of w) line unit from) (sym far) none

    by : (o p : Option Chunk) → chunk_after i (log_of w) line unit from ≡ o → chunk_after i (log_of w) line unit to ≡ p
        → (chunk_in b line unit ≡ chunk_in a line unit) ⊎ IsLostAt a b line unit
    by o None had has = inl (is ∙ has ∙ sym (was ∙ no_chunk))
      where
        no_chunk : chunk_after i (log_of w) line unit from ≡ None
        no_chunk = go o had where
          go : (q : Option Chunk) → chunk_after i (log_of w) line unit from ≡ q → chunk_after i (log_of w) line unit from ≡ None
          go None e = e
          go (Some c) e = let later = still_there i (log_of w) line unit from to c e in absurd (none-some later.0 (sym has ∙ later.1))
    by None (Some x) had has = let earlier = still_there i (log_of w) line unit to from x has in absurd (none-some earlier.0 (sym had ∙ earlier.1))
    by (Some c) (Some x) had has =
        lost_at a b line unit c x i.shape (was ∙ had) (is ∙ has) (chunk_fits i w legal unit line to x fit accepted.drive.ws_min (omega arith) has)
        (kept_or_emptied i w legal unit line from (to - from) c x (omega arith) nothing had (ap (chunk_after i (log_of w) line unit) far ∙ has))
        (λ empty. same_Some x c (sym has ∙ ap (chunk_after i (log_of w) line unit) (sym far)
        ∙ empty_until i w legal unit line from (to - from) c (omega arith) had empty nothing))
