-- A chunk of a line by its last opening, though the line was freed since: its blocks are of that
-- life's stripes, and what a program that was done wrote stands in it until the chunk is emptied.
use Rattle.std.proofs.Common.{◌≡◌, ℕ, ◌+◌, ◌-◌, ◌<◌, ◌≤◌, ◌⊎◌, inl, inr, suc, true, Some, List, length, refl, sym, ap, ◌∙◌, arith}
use Rattle.std.specs.Prelude.{slice_get, slice_index}
use Rattle.std.proofs.lemmas.Bool.{cases_lt}
use Rattle.std.proofs.lemmas.Option.{none-some, same_Some}
use Rattle.pblk_model.specs.Accepted.{IsAccepted}
use Rattle.pblk_model.specs.Chunk.{Chunk, Block}
use Rattle.pblk_model.specs.ChunkStep.{Write, Done}
use Rattle.pblk_model.specs.UnitLog.{Answered, UnitEvent}
use Rattle.pblk_model.specs.Image.{Image, IsFit}
use Rattle.pblk_world.specs.Events.{Logged}
use Rattle.pblk_world.specs.World.{World, log_of, unit_event_of}
use Rattle.pblk_world.specs.EngineLog.{Begun, begun, LineLife, AsFound, Opened, Freed, Opening, last_opening, life_of}
use Rattle.pblk_world.specs.Lines.{is_empty_state}
use Rattle.pblk_world.specs.Commanding.{is_program}
use Rattle.pblk_world.specs.Legal.{IsLegal}
use Rattle.pblk_model.proofs.Parts.{get_first}
use Rattle.world_laws.specs.LifeBlocks.{IsBlockOfLife}
use Rattle.world_laws.specs.UnitChunks.{NoProgram, chunk_after}
use Rattle.world_laws.proofs.BeforeFreeing.{IsBefore, before_freeing, block_later, chunk_then, opening_within, within_later}
use Rattle.world_laws.proofs.KeptChunks.{kept_or_emptied, none_after_freeing}
use Rattle.world_laws.proofs.LifeBlocks.{blocks_of_life, done_stands, no_blocks}
use Rattle.world_laws.proofs.ToldBefore.{no_both}
use Rattle.world_laws.proofs.UnitChunks.{still_there}
use Rattle.world_laws.proofs.UnitLogs.{chunk_fits}

module _ (i : Image) (w : World) (accepted : IsAccepted i.shape) (fit : IsFit i) (legal : IsLegal i w) (b : Begun) (begins : begun (log_of w 0) ≡ Some b)
    (unit line : ℕ) (o : Opening) where
  module _ (knows : List ℕ) (freed : life_of (log_of w 0) line ≡ Freed (Some o) knows) (old : IsBefore i w b line o knows) where
    abbrev pub last : ℕ
    last = length (log_of old.before (suc unit))

    grown : last ≤ length (log_of w (suc unit))
    grown = within_later i w b old.before old.earlier (suc unit)

    -- nothing is programmed after that world's last event of the unit
    pub none_since : (to : ℕ) → NoProgram (log_of w) line unit last to
    none_since to n l e from below there is on =
        let few : slice_index knows (suc unit) ≤ last = old.named unit in
        none_after_freeing i w legal b begins unit line to (Some o) knows freed n l e (omega arith) below there is on

    -- so the chunk is as it was then, or empty
    pub as_before : (n : ℕ) (c x : Chunk) → last ≤ n → n ≤ length (log_of w (suc unit)) → chunk_after i (log_of w) line unit last ≡ Some c
        → chunk_after i (log_of w) line unit n ≡ Some x → (x ≡ c) ⊎ (is_empty_state x.state ≡ true)
    as_before n c x from inside was is =
        let far : last + (n - last) ≡ n = omega arith in
        kept_or_emptied i w legal unit line last (n - last) c x (omega arith) (none_since (last + (n - last))) was
        (ap (chunk_after i (log_of w) line unit) far ∙ is)

    from_base : slice_index o.knows (suc unit) ≤ last
    from_base = opening_within i old.before line (suc unit) o old.earlier.legal old.is_open

    freed_blocks : (n k : ℕ) (c : Chunk) (block : Block) → slice_index o.knows (suc unit) ≤ n → n ≤ length (log_of w (suc unit))
        → chunk_after i (log_of w) line unit n ≡ Some c → slice_get c.blocks k ≡ Some block → IsBlockOfLife (log_of w) o line unit n k block
    freed_blocks n k c block from inside there at = go (cases_lt last n)
      where
        then_ : (m : ℕ) → m ≤ n → slice_index o.knows (suc unit) ≤ m → m ≤ last → chunk_after i (log_of w) line unit m ≡ Some c
            → IsBlockOfLife (log_of w) o line unit n k block
        then_ m early low few is = block_later i w b old.before old.earlier o line unit m n k block early
            (blocks_of_life i old.before accepted fit old.earlier.legal b old.earlier.begins unit line o old.is_open m k c block low few
            (sym (chunk_then i w b old.before old.earlier unit line m few) ∙ is) at)

        go : (last < n) ⊎ (n ≤ last) → IsBlockOfLife (log_of w) o line unit n k block
        go (inr few) = then_ n (omega arith) from few there
        go (inl later) =
            let was = still_there i (log_of w) line unit n last c there in
            elim (as_before n was.0 c (omega arith) inside was.1 there) as (λ _. IsBlockOfLife (log_of w) o line unit n k block) [
              | inl same ↦ then_ last (omega arith) from_base (omega arith) (was.1 ∙ ap (λ x. Some x) (sym same))
              | inr empty ↦ absurd (no_blocks c.state i.shape.clba k c.blocks block empty
                  (chunk_fits i w legal unit line n c fit accepted.drive.ws_min inside there).place at)
            ]

    freed_done : (n m at k : ℕ) (l : Logged) (e : UnitEvent) (blocks : List Block) (block : Block) (c : Chunk) → slice_index o.knows (suc unit) ≤ n
        → slice_get (log_of w (suc unit)) n ≡ Some l → unit_event_of l.event ≡ Some e
        → e.chunk ≡ line → e.command ≡ Write at blocks → e.outcome ≡ Answered Done → n < m → m ≤ length (log_of w (suc unit))
        → chunk_after i (log_of w) line unit m ≡ Some c
        → slice_get blocks k ≡ Some block → (slice_get c.blocks (at + k) ≡ Some block) ⊎ (is_empty_state c.state ≡ true)
    freed_done n m at k l e blocks block c from there is its command done later inside now got = go (cases_lt n last) (cases_lt last m)
      where
        -- then the program was in that world too
        then_ : n < last → (j : ℕ) (x : Chunk) → n < j → j ≤ last → chunk_after i (log_of w) line unit j ≡ Some x → slice_get x.blocks (at + k) ≡ Some block
        then_ early j x past few is_x =
            let more = old.earlier.grows (suc unit) in
            let had : slice_get (log_of old.before (suc unit)) n ≡ Some l =
            sym (ap (λ (log : List Logged). slice_get log n) more.1 ∙ get_first (log_of old.before (suc unit)) more.0 n early) ∙ there in
            done_stands i old.before accepted fit old.earlier.legal b old.earlier.begins unit line o old.is_open n j at k l e blocks block x from had is its
            command done past few (sym (chunk_then i w b old.before old.earlier unit line j few) ∙ is_x) got

        go : (n < last) ⊎ (last ≤ n) → (last < m) ⊎ (m ≤ last) → (slice_get c.blocks (at + k) ≡ Some block) ⊎ (is_empty_state c.state ≡ true)
        go (inr after) far = no_both (ap is_program command) (none_since (suc n) n l e after (omega arith) there is its)
        go (inl early) (inr few) = inl (then_ early m c later few now)
        go (inl early) (inl far) =
            let was = still_there i (log_of w) line unit m last c now in
            elim (as_before m was.0 c (omega arith) inside was.1 now) as (λ _. (slice_get c.blocks (at + k) ≡ Some block) ⊎ (is_empty_state c.state ≡ true)) [
              | inl same ↦ inl (then_ early last c early (omega arith) (was.1 ∙ ap (λ x. Some x) (sym same)))
              | inr empty ↦ inr empty
            ]

  -- ---- opened or freed

  blocks_by : (life : LineLife) → life_of (log_of w 0) line ≡ life → last_opening life ≡ Some o → (n k : ℕ) (c : Chunk) (block : Block)
      → slice_index o.knows (suc unit) ≤ n → n ≤ length (log_of w (suc unit)) → chunk_after i (log_of w) line unit n ≡ Some c
      → slice_get c.blocks k ≡ Some block → IsBlockOfLife (log_of w) o line unit n k block
  blocks_by AsFound is its n k c block from inside there at = absurd (none-some o its)
  blocks_by (Opened p) is its n k c block from inside there at =
      blocks_of_life i w accepted fit legal b begins unit line o (is ∙ ap Opened (same_Some p o its)) n k c block from inside there at
  blocks_by (Freed was knows) is its n k c block from inside there at =
      let freed : life_of (log_of w 0) line ≡ Freed (Some o) knows = is ∙ ap (λ x. Freed x knows) its in
      freed_blocks knows freed (before_freeing i w legal b begins line o knows freed) n k c block from inside there at

  done_by : (life : LineLife) → life_of (log_of w 0) line ≡ life → last_opening life ≡ Some o → (n m at k : ℕ) (l : Logged) (e : UnitEvent)
      (blocks : List Block) (block : Block) (c : Chunk) → slice_index o.knows (suc unit) ≤ n
      → slice_get (log_of w (suc unit)) n ≡ Some l → unit_event_of l.event ≡ Some e
      → e.chunk ≡ line → e.command ≡ Write at blocks → e.outcome ≡ Answered Done → n < m → m ≤ length (log_of w (suc unit))
      → chunk_after i (log_of w) line unit m ≡ Some c
      → slice_get blocks k ≡ Some block → (slice_get c.blocks (at + k) ≡ Some block) ⊎ (is_empty_state c.state ≡ true)
  done_by AsFound is its n m at k l e blocks block c from there event on command done later inside now got = absurd (none-some o its)
  done_by (Opened p) is its n m at k l e blocks block c from there event on command done later inside now got =
      inl (done_stands i w accepted fit legal b begins unit line o (is ∙ ap Opened (same_Some p o its)) n m at k l e blocks block c from there event on
      command done later inside now got)
  done_by (Freed was knows) is its n m at k l e blocks block c from there event on command done later inside now got =
      let freed : life_of (log_of w 0) line ≡ Freed (Some o) knows = is ∙ ap (λ x. Freed x knows) its in
      freed_done knows freed (before_freeing i w legal b begins line o knows freed) n m at k l e blocks block c from there event on command
      done later inside now got

  module _ (its : last_opening (life_of (log_of w 0) line) ≡ Some o) where
    pub blocks_of_last : (n k : ℕ) (c : Chunk) (block : Block) → slice_index o.knows (suc unit) ≤ n → n ≤ length (log_of w (suc unit))
        → chunk_after i (log_of w) line unit n ≡ Some c → slice_get c.blocks k ≡ Some block → IsBlockOfLife (log_of w) o line unit n k block
    blocks_of_last = blocks_by (life_of (log_of w 0) line) refl its

    pub done_of_last : (n m at k : ℕ) (l : Logged) (e : UnitEvent) (blocks : List Block) (block : Block) (c : Chunk) → slice_index o.knows (suc unit) ≤ n
        → slice_get (log_of w (suc unit)) n ≡ Some l → unit_event_of l.event ≡ Some e
        → e.chunk ≡ line → e.command ≡ Write at blocks → e.outcome ≡ Answered Done → n < m → m ≤ length (log_of w (suc unit))
        → chunk_after i (log_of w) line unit m ≡ Some c
        → slice_get blocks k ≡ Some block → (slice_get c.blocks (at + k) ≡ Some block) ⊎ (is_empty_state c.state ≡ true)
    done_of_last = done_by (life_of (log_of w 0) line) refl its
