-- Each written block of a chunk of an opened line is a block of a stripe of this life; and the
-- blocks of a program that was done stand there.
use Rattle.std.proofs.Common.{◌≡◌, ℕ, ◌+◌, ◌-◌, ◌<◌, ◌≤◌, ◌⊎◌, inl, inr, suc, zero, true, Some, List, [], ◌∷◌, ◌++◌, length, sym, subst, ap, ap₂, ◌∙◌, arith}
use Rattle.std.specs.Prelude.{slice_get, slice_index}
use Rattle.std.proofs.lemmas.Option.{same_Some}
use Rattle.pblk_model.specs.declared.chunk.ChunkState.{ChunkState}
use Rattle.pblk_model.specs.declared.chunk.ChunkState.TheVariants as states
use Rattle.pblk_model.specs.Accepted.{IsAccepted}
use Rattle.pblk_model.specs.Chunk.{Chunk, Block, PointerFits, pointer}
use Rattle.pblk_model.specs.ChunkStep.{Write, Done}
use Rattle.pblk_model.specs.UnitLog.{Answered, UnitEvent, IsOutcome, after_outcome}
use Rattle.pblk_model.specs.Image.{Image, IsFit}
use Rattle.pblk_laws.proofs.ChunkStep.{write_placed}
use Rattle.pblk_world.specs.Events.{Logged}
use Rattle.pblk_world.specs.World.{World, log_of, unit_event_of}
use Rattle.pblk_world.specs.EngineLog.{Begun, begun, Opened, Opening, life_of}
use Rattle.pblk_world.specs.Lines.{is_empty_state}
use Rattle.pblk_world.specs.Legal.{IsLegal}
use Rattle.pblk_model.proofs.Parts.{get_below, get_more, get_rest, got_within}
use Rattle.world_laws.specs.LifeBlocks.{IsBlockOfLife}
use Rattle.world_laws.specs.UnitChunks.{chunk_after}
use Rattle.world_laws.proofs.Deeds.{IsDeed, deed}
use Rattle.world_laws.proofs.OpenedChunks.{IsLonger, IsNext, empty_at_base, grows, later_events, next}
use Rattle.world_laws.proofs.UnitChunks.{still_there}
use Rattle.world_laws.proofs.UnitLogs.{chunk_fits}

pub no_blocks : (state : ChunkState) (clba k : ℕ) (bs : List Block) (block : Block) → is_empty_state state ≡ true → PointerFits state clba (length bs)
    → slice_get bs k ≡ Some block → ⊥
no_blocks states.Free clba k bs block empty fits at = let inside : k < length bs = get_below bs k block at in omega arith
no_blocks states.Open clba k bs block empty fits at = absurd cc
no_blocks states.Closed clba k bs block empty fits at = absurd cc
no_blocks states.Offline clba k bs block empty fits at = let inside : k < length bs = get_below bs k block at in omega arith

which_part : {X : Type 0} (xs ys : List X) (k : ℕ) (x : X) → slice_get (xs ++ ys) k ≡ Some x
    → (slice_get xs k ≡ Some x) ⊎ ((j : ℕ) × (k ≡ length xs + j) × (slice_get ys j ≡ Some x))
which_part [] ys k x at = inr (k, omega arith, at)
which_part (y ∷ xs) ys zero x at = inl at
which_part (y ∷ xs) ys (suc k) x at = elim (which_part xs ys k x at) as
    (λ _. (slice_get (y ∷ xs) (suc k) ≡ Some x) ⊎ ((j : ℕ) × (suc k ≡ length (y ∷ xs) + j) × (slice_get ys j ≡ Some x))) [
      | inl first ↦ inl first
      | inr p ↦ inr (p.0, omega (arith, p.1), p.2)
    ]

module _ (i : Image) (w : World) (accepted : IsAccepted i.shape) (fit : IsFit i) (legal : IsLegal i w) (b : Begun) (begins : begun (log_of w 0) ≡ Some b)
    (unit line : ℕ)
    (o : Opening) (is_open : life_of (log_of w 0) line ≡ Opened o) where
  abbrev base : ℕ
  base = slice_index o.knows (suc unit)

  from_base : (d : ℕ) (c : Chunk) → base + d ≤ length (log_of w (suc unit)) → chunk_after i (log_of w) line unit (base + d) ≡ Some c → (k : ℕ) (block : Block)
      → slice_get c.blocks k ≡ Some block
      → IsBlockOfLife (log_of w) o line unit (base + d) k block
  from_base zero c inside there k block at =
      let same : base + 0 ≡ base = omega arith in
      absurd (no_blocks c.state i.shape.clba k c.blocks block
      (empty_at_base i w legal b begins unit line o is_open c (ap (chunk_after i (log_of w) line unit) (sym same) ∙ there))
      (chunk_fits i w legal unit line (base + 0) c fit accepted.drive.ws_min inside there).place at)
  from_base (suc d) c inside there k block at =
      let far : base + suc d ≡ suc (base + d) = omega arith in
      let event = got_within (log_of w (suc unit)) (base + d) (omega arith) in
      let here = still_there i (log_of w) line unit (base + suc d) (base + d) c there in
      let e : IsDeed i w unit (base + d) event.0 = deed i w unit (base + d) event.0 legal event.1 in
      let step : IsNext i w legal b begins unit line o is_open (base + d) event.0 event.1 e
      (omega arith) here.0 here.1 = next i w legal b begins unit line o is_open (base + d) event.0 event.1 e (omega arith) here.0 here.1 in
      let same : c ≡ step.chunk = same_Some c step.chunk (sym there ∙ ap (chunk_after i (log_of w) line unit) far ∙ step.next) in
      let parts : slice_get (here.0.blocks ++ step.step.more) k ≡ Some block = ap (λ (bs : List Block). slice_get bs k) (sym step.step.left
      ∙ ap (λ (x : Chunk). x.blocks) (sym same)) ∙ at in
      subst (λ m. IsBlockOfLife (log_of w) o line unit m k block) (sym far)
      (elim (which_part here.0.blocks step.step.more k block parts) as (λ _. IsBlockOfLife (log_of w) o line unit (suc (base + d)) k block) [
        | inl old ↦ later_events i w legal b begins unit line o is_open (base + d) (suc (base + d)) k block (omega arith)
            (from_base d here.0 (omega arith) here.1 k block old)
        | inr p ↦ subst (λ m. IsBlockOfLife (log_of w) o line unit (suc (base + d)) m block) (sym p.1) (step.step.of_life p.0 block p.2)
      ])

  pub blocks_of_life : (n k : ℕ) (c : Chunk) (block : Block) → slice_index o.knows (suc unit) ≤ n → n ≤ length (log_of w (suc unit))
      → chunk_after i (log_of w) line unit n ≡ Some c → slice_get c.blocks k ≡ Some block
      → IsBlockOfLife (log_of w) o line unit n k block
  blocks_of_life n k c block from inside there at =
      let far : base + (n - base) ≡ n = omega arith in
      subst (λ m. IsBlockOfLife (log_of w) o line unit m k block) far
      (from_base (n - base) c (omega arith) (ap (chunk_after i (log_of w) line unit) far ∙ there) k block at)

  done_at : (c : Chunk) (at : ℕ) (blocks : List Block) → IsOutcome i.shape c (Write at blocks) (Answered Done) → at ≡ pointer c
  done_at c at blocks h = (write_placed i.shape c.state (pointer c) at (length blocks) h.1.0).pointer

  pub done_stands : (n m at k : ℕ) (l : Logged) (e : UnitEvent) (blocks : List Block) (block : Block) (c : Chunk) → slice_index o.knows (suc unit) ≤ n
      → slice_get (log_of w (suc unit)) n ≡ Some l → unit_event_of l.event ≡ Some e
      → e.chunk ≡ line → e.command ≡ Write at blocks → e.outcome ≡ Answered Done → n < m → m ≤ length (log_of w (suc unit))
      → chunk_after i (log_of w) line unit m ≡ Some c
      → slice_get blocks k ≡ Some block → slice_get c.blocks (at + k) ≡ Some block
  done_stands n m at k l e blocks block c from there is its command done later inside now got =
      let d : IsDeed i w unit n l = deed i w unit n l legal there in
      let same : d.event ≡ e = same_Some d.event e (sym d.is_event ∙ is) in
      let writes : d.event.command ≡ Write at blocks = ap (λ (x : UnitEvent). x.command) same ∙ command in
      let ended : d.event.outcome ≡ Answered Done = ap (λ (x : UnitEvent). x.outcome) same ∙ done in
      let on : d.event.chunk ≡ line = ap (λ (x : UnitEvent). x.chunk) same ∙ its in
      let left : chunk_after i (log_of w) line unit (suc n) ≡ Some (after_outcome i.shape d.found (Write at blocks) (Answered Done)) =
      ap (λ x. chunk_after i (log_of w) x unit (suc n)) (sym on) ∙ d.left ∙ ap₂ (λ x o. Some (after_outcome i.shape d.found x o)) writes ended in
      let place : at ≡ pointer d.found = done_at d.found at blocks
      (subst (λ x. IsOutcome i.shape d.found (Write at blocks) x) ended (subst (λ x. IsOutcome i.shape d.found x d.event.outcome) writes d.outcome)) in
      let far : suc n + (m - suc n) ≡ m = omega arith in
      let longer : IsLonger i w legal b begins unit line o is_open (after_outcome i.shape d.found (Write at blocks) (Answered Done)) c =
      grows i w legal b begins unit line o is_open (suc n) (m - suc n) (after_outcome i.shape d.found (Write at blocks) (Answered Done)) c (omega arith)
      (omega arith) left (ap (chunk_after i (log_of w) line unit) far ∙ now) in
      ap (λ (bs : List Block). slice_get bs (at + k)) longer.left
      ∙ get_more (d.found.blocks ++ blocks) longer.more (at + k) block (get_rest d.found.blocks blocks at k (sym place) ∙ got)
