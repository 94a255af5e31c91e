-- A chunk of an opened line, from the prefix on that its opening names: what stands there are
-- blocks of this life's stripes, and only programs of these change it.
use Rattle.std.proofs.Common.{◌≡◌, ℕ, ◌+◌, ◌-◌, ◌<◌, ◌≤◌, ◌⊎◌, inl, inr, suc, zero, nat_eq, Bool, true, false, Some, List, [], ◌++◌, length, take, refl, sym, subst, ap, ◌∙◌, arith, append-nil, append_assoc}
use Rattle.std.specs.Prelude.{slice_get, slice_index}
use Rattle.std.proofs.lemmas.Bool.{cases_lt, cases_order, eqb-true, eqb-false}
use Rattle.std.proofs.lemmas.Option.{none-some, same_Some}
use Rattle.std.proofs.Math.Seq.{take-length}
use Rattle.pblk_model.specs.Chunk.{Chunk, Block, pointer}
use Rattle.pblk_model.specs.ChunkStep.{ChunkCommand, Write, Read, Reset}
use Rattle.pblk_model.specs.UnitLog.{UnitEvent, IsOutcome, after_outcome}
use Rattle.pblk_model.specs.Image.{Image}
use Rattle.pblk_model.proofs.UnitLogLemmas.{read_leaves}
use Rattle.pblk_world.specs.Events.{Decides, Open, Place, Logged}
use Rattle.pblk_world.specs.World.{World, log_of, known, knows_engine}
use Rattle.pblk_world.specs.EngineLog.{Begun, begun, Opened, Opening, is_opened, life_of}
use Rattle.pblk_world.specs.Lines.{is_empty_state}
use Rattle.pblk_world.specs.Commanding.{is_program, ended_stripes}
use Rattle.pblk_world.specs.Legal.{IsLegal}
use Rattle.pblk_world.proofs.EngineLogLemmas.{opened_same}
use Rattle.pblk_world.proofs.Growing.{knowledge_rises}
use Rattle.pblk_model.proofs.Parts.{get_below, get_whole, got_within}
use Rattle.world_laws.specs.LifeBlocks.{IsBlockOfLife}
use Rattle.world_laws.specs.UnitChunks.{NoProgram, chunk_after}
use Rattle.world_laws.proofs.Appending.{IsAppended, appends}
use Rattle.world_laws.proofs.NamedPrefixes.{was_made}
use Rattle.world_laws.proofs.Deeds.{IsDeed, deed}
use Rattle.world_laws.proofs.FoundEmpty.{low}
use Rattle.world_laws.proofs.LastUses.{IsOfChunk}
use Rattle.world_laws.proofs.NextLives.{IsDecided, IsOpenSince, decided, open_since}
use Rattle.world_laws.proofs.OpenedEmpty.{early_gone, opened_empty}
use Rattle.world_laws.proofs.Resets.{IsReset, empty_stays, empty_until, not_opened, reset}
use Rattle.world_laws.proofs.StripeLines.{IsGone}
use Rattle.world_laws.proofs.Tellings.{last_program, named_known}
use Rattle.world_laws.proofs.UnitChunks.{still_there}
use Rattle.world_laws.proofs.ToldBefore.{IsProgram, no_both, program}

module _ (i : Image) (w : World) (legal : IsLegal i w) (b : Begun) (begins : begun (log_of w 0) ≡ Some b) (unit line : ℕ)
    (o : Opening) (is_open : life_of (log_of w 0) line ≡ Opened o) where
  abbrev log : List Logged
  log = log_of w 0

  abbrev own : List Logged
  own = log_of w (suc unit)

  pub since : IsOpenSince i w legal line (length log) o
  since = open_since i w legal (length log) line o (omega arith) (ap (λ (xs : List Logged). life_of xs line) (take-length log) ∙ is_open)

  pub opening : IsDecided i w legal o.number (Open line o.start) since.logged
  opening = decided i w legal o.number (Open line o.start) since.logged since.there since.event

  -- the prefix that the opening names
  abbrev pub base : ℕ
  base = slice_index o.knows (suc unit)

  pub named : known since.logged (suc unit) ≡ base
  named = ap (λ ks. slice_index ks (suc unit)) since.knows

  pub from_start : slice_index b.knows (suc unit) ≤ base
  from_start = let less : slice_index b.knows (suc unit) ≤ known since.logged
      (suc unit) = low i w legal b begins unit line o.number o.start since.logged opening (suc unit) in omega (arith, named)

  -- ---- a program there is of this life

  pub record IsLifes (y : ℕ) (x : Logged) (e : UnitEvent) : Type 0 where
    pub of_line : IsProgram i w legal b begins unit line y x e
    pub later : o.number < of_line.stripe.placed.number
    pub life : of_line.stripe.placed.life ≡ Opened o

  pub lifes : (y : ℕ) (x : Logged) (e : UnitEvent) → base ≤ y → IsOfChunk i w legal unit line is_program y x e → IsLifes y x e
  lifes y x e from at = go (cases_order o.number p.stripe.placed.number)
    where
      p : IsProgram i w legal b begins unit line y x e
      p = program i w legal b begins unit line y x e (let first : slice_index b.knows (suc unit) ≤ base = from_start in omega arith) at

      go : (o.number ≡ p.stripe.placed.number) ⊎ ((o.number < p.stripe.placed.number) ⊎ (p.stripe.placed.number < o.number)) → IsLifes y x e
      go (inl same) =
          let one : since.logged ≡ p.placed.logged = same_Some since.logged p.placed.logged (sym since.there ∙ ap (slice_get log) same
          ∙ p.placed.decided.there) in
          let no : Decides (Open line o.start) ≡ Decides (Place p.stripe.placed.stripe) = sym since.event ∙ ap (λ (z : Logged). z.event) one
          ∙ p.placed.decided.event in
          absurd cc
      go (inr (inl later)) =
          let inside : p.stripe.placed.number < length log = get_below log p.stripe.placed.number p.placed.logged p.placed.decided.there in
          let its : life_of (take p.stripe.placed.number log) line ≡ Opened p.placed.opening = ap (life_of (take p.stripe.placed.number log)) (sym p.its_line)
          ∙ p.placed.is_open in
          let same : p.placed.opening ≡ o = opened_same p.placed.opening o (sym its ∙ since.since p.stripe.placed.number later (omega arith)) in
          record { of_line = p; later = later; life = p.placed.its_life ∙ ap Opened same }
      go (inr (inr early)) =
          let gone : IsGone i w legal unit (ended_stripes
          (take y own)) p.stripe.placed p.stripe.in_order o.number =
          early_gone i w legal b begins unit line o.number o.start since.logged opening y x e p early in
          let last = last_program i w legal unit (ended_stripes (take y own)) gone.told.at y gone.told.told refl in
          let near = named_known i w legal unit gone.told.at gone.told.told.number gone.told.told.named in
          let first : gone.told.at < gone.freed.number = gone.told.before in
          let second : gone.freed.number < o.number = gone.freed.before in
          let more = knowledge_rises i w 0 (suc unit) gone.told.at o.number gone.told.told.named.logged since.logged legal
          (omega arith) gone.told.told.named.there since.there in
          absurd (omega (arith, last, near, more, named))

  -- ---- one event

  -- it leaves the blocks that were there, and may append some of this life
  pub record IsStep (n : ℕ) (c d : Chunk) : Type 0 where
    pub more : List Block
    pub left : d.blocks ≡ c.blocks ++ more
    pub of_life : (index : ℕ) (block : Block) → slice_get more index ≡ Some block → IsBlockOfLife (log_of w) o line unit (suc n) (pointer c + index) block

  same_step : (n : ℕ) (c d : Chunk) → d ≡ c → IsStep n c d
  same_step n c d same = record {
    more = [];
    left = ap (λ (x : Chunk). x.blocks) same ∙ sym (append-nil c.blocks);
    of_life = λ index block at. absurd (none-some block at);
  }

  module _ (n : ℕ) (l : Logged) (there : slice_get (log_of w (suc unit)) n ≡ Some l) (d : IsDeed i w unit n l) (from : slice_index o.knows (suc unit) ≤ n)
      (c : Chunk) (now : chunk_after i (log_of w) line unit n ≡ Some c) where
    pub record IsNext : Type 0 where
      pub chunk : Chunk
      pub next : chunk_after i (log_of w) line unit (suc n) ≡ Some chunk
      pub step : IsStep n c chunk

    stays : chunk_after i (log_of w) line unit (suc n) ≡ chunk_after i (log_of w) line unit n → IsNext
    stays same = record { chunk = c; next = same ∙ now; step = same_step n c c refl }

    -- a reset that the unit might make found the chunk empty
    pub empty_at_reset : IsReset i w legal unit n l there d → d.event.chunk ≡ line → is_empty_state c.state ≡ true
    empty_at_reset r its = go (cases_lt o.number (knows_engine l))
      where
        closed : is_opened (life_of (take (knows_engine l) log) line) ≡ false
        closed = ap (λ k. is_opened (life_of (take (knows_engine l) log) k)) (sym its) ∙ not_opened i w legal unit n l there d r

        none : knows_engine l ≤ o.number → NoProgram (log_of w) line unit base n
        none few y x e low_y below at is on = decide (is_program e.command) refl
          where
            decide : (t : Bool) → is_program e.command ≡ t → is_program e.command ≡ false
            decide false f = f
            decide true f =
                let its_life : IsLifes y x e = lifes y x e low_y (record { there = at; is_event = is; its_chunk = on; passes = f }) in
                let after : o.number < its_life.of_line.stripe.placed.number = its_life.later in
                let knew : its_life.of_line.stripe.placed.number < knows_engine x = its_life.of_line.stripe.was_known in
                let more : knows_engine x ≤ knows_engine l = knowledge_rises i w (suc unit) 0 y n x l legal (omega arith) at there in
                absurd (omega arith)

        go : (o.number < knows_engine l) ⊎ (knows_engine l ≤ o.number) → is_empty_state c.state ≡ true
        go (inl knew) = no_both (ap is_opened (since.since (knows_engine l) knew ((was_made i w (suc unit) n l legal there).within 0))) closed
        go (inr few) =
            let inside : n < length own = get_below own n l there in
            let far : base + (n - base) ≡ n = omega arith in
            let at_base = still_there i (log_of w) line unit n base c now in
            let empty : is_empty_state at_base.0.state ≡ true =
            opened_empty i w legal b begins unit line o.number o.start since.logged opening at_base.0 (ap (chunk_after i (log_of w) line unit) named
            ∙ at_base.1) in
            let same : chunk_after i (log_of w) line unit n ≡ Some at_base.0 =
            ap (chunk_after i (log_of w) line unit) (sym far)
            ∙ empty_until i w legal unit line base (n - base) at_base.0 (omega arith) at_base.1 empty
            (subst (NoProgram (log_of w) line unit base) (sym far) (none few)) in
            ap (λ (x : Chunk). is_empty_state x.state) (same_Some c at_base.0 (sym now ∙ same)) ∙ empty

    module _ (its : d.event.chunk ≡ line) where
      found : d.found ≡ c
      found = same_Some d.found c (sym d.there ∙ ap (λ k. chunk_after i (log_of w) k unit n) its ∙ now)

      left : chunk_after i (log_of w) line unit (suc n) ≡ Some (after_outcome i.shape c d.event.command d.event.outcome)
      left = ap (λ k. chunk_after i (log_of w) k unit (suc n)) (sym its) ∙ d.left
          ∙ ap (λ x. Some (after_outcome i.shape x d.event.command d.event.outcome)) found

      programmed : (at : ℕ) (blocks : List Block) → d.event.command ≡ Write at blocks → IsNext
      programmed at blocks is =
          let p : IsLifes n l d.event = lifes n l d.event from (record { there = there; is_event = d.is_event; its_chunk = its; passes = ap is_program is }) in
          let a : IsAppended i.shape c at blocks d.event.outcome =
          appends i.shape c at blocks d.event.outcome
          (subst (λ x. IsOutcome i.shape c x d.event.outcome) is (subst (λ x. IsOutcome i.shape x d.event.command d.event.outcome) found d.outcome)) in
          record {
            chunk = after_outcome i.shape c (Write at blocks) d.event.outcome;
            next = left ∙ ap (λ x. Some (after_outcome i.shape c x d.event.outcome)) is;
            step = record {
              more = take a.count blocks;
              left = a.left;
              of_life = λ index block got. of_life p a index block got a.place
                  (same_write at p.of_line.stripe.placed.stripe.at blocks p.of_line.stripe.placed.stripe.blocks (sym is ∙ p.of_line.stripe.command));
            };
          }
        where
          same_write : (a z : ℕ) (bs cs : List Block) → Write a bs ≡ Write z cs → (a ≡ z) × (bs ≡ cs)
          same_write a z bs cs e = ((cc), (cc))

          of_life : (p : IsLifes n l d.event) (a : IsAppended i.shape c at blocks d.event.outcome) (index : ℕ) (block : Block)
              → slice_get (take a.count blocks) index ≡ Some block
              → (take a.count blocks ≡ []) ⊎ (at ≡ pointer c) → (at ≡ p.of_line.stripe.placed.stripe.at) × (blocks ≡ p.of_line.stripe.placed.stripe.blocks)
              → IsBlockOfLife (log_of w) o line unit (suc n) (pointer c + index) block
          of_life p a index block got (inl none) same = absurd (none-some block (ap (λ (bs : List Block). slice_get bs index) (sym none) ∙ got))
          of_life p a index block got (inr place) same = record {
            number = n;
            before = omega arith;
            logged = l;
            there = there;
            event = d.event;
            is_event = d.is_event;
            program = ap is_program is;
            placed = p.of_line.stripe.placed;
            its_stripe = p.of_line.stripe.in_order;
            in_line = p.of_line.its_line;
            of_life = p.life;
            index = index;
            place = ap (λ x. x + index) (sym place ∙ same.0);
            is_block = ap (λ (bs : List Block). slice_get bs index) (sym same.1) ∙ get_whole a.count blocks index block got;
          }

      by_command : (command : ChunkCommand) → d.event.command ≡ command → IsNext
      by_command (Write at blocks) is = programmed at blocks is
      by_command (Read at) is = stays (left ∙ ap (λ x. Some (after_outcome i.shape c x d.event.outcome)) is
          ∙ ap (λ x. Some x) (read_leaves i.shape c at d.event.outcome) ∙ sym now)
      by_command Reset is =
          let empty : is_empty_state c.state ≡ true = empty_at_reset (reset i w legal unit n l there d is) its in
          stays (empty_stays i w legal unit n l there d (ap (λ (x : Chunk). is_empty_state x.state) found ∙ empty) (ap is_program is) line)

    pub next : IsNext
    next = go (nat_eq d.event.chunk line) refl
      where
        go : (t : Bool) → nat_eq d.event.chunk line ≡ t → IsNext
        go true same = by_command (eqb-true d.event.chunk line same) d.event.command refl
        go false other = stays (d.others line (eqb-false d.event.chunk line other))

  -- ---- from the opening's base on

  pub later_events : (n m at : ℕ) (block : Block) → n ≤ m → IsBlockOfLife (log_of w) o line unit n at block → IsBlockOfLife (log_of w) o line unit m at block
  later_events n m at block within h = record {
    number = h.number;
    before = (let below : h.number < n = h.before in
        omega arith);
    logged = h.logged;
    there = h.there;
    event = h.event;
    is_event = h.is_event;
    program = h.program;
    placed = h.placed;
    its_stripe = h.its_stripe;
    in_line = h.in_line;
    of_life = h.of_life;
    index = h.index;
    place = h.place;
    is_block = h.is_block;
  }

  -- what stands in the chunk stays
  pub record IsLonger (c d : Chunk) : Type 0 where
    pub more : List Block
    pub left : d.blocks ≡ c.blocks ++ more

  pub grows : (n d : ℕ) (c x : Chunk) → slice_index o.knows (suc unit) ≤ n → n + d ≤ length (log_of w (suc unit))
      → chunk_after i (log_of w) line unit n ≡ Some c → chunk_after i (log_of w) line unit (n + d) ≡ Some x → IsLonger c x
  grows n zero c x from inside first last =
      let same : n + 0 ≡ n = omega arith in
      record {
        more = [];
        left = ap (λ (y : Chunk). y.blocks) (same_Some x c (sym last ∙ ap (chunk_after i (log_of w) line unit) same ∙ first))
            ∙ sym (append-nil c.blocks);
      }
  grows n (suc d) c x from inside first last =
      let far : n + suc d ≡ suc (n + d) = omega arith in
      let at = got_within own (n + d) (omega arith) in
      let here = still_there i (log_of w) line unit n (n + d) c first in
      let before : IsLonger c here.0 = grows n d c here.0 from (omega arith) first here.1 in
      let step : IsNext (n + d) at.0 at.1 (deed i w unit (n + d) at.0 legal at.1) (omega arith) here.0 here.1 = next (n + d) at.0 at.1
      (deed i w unit (n + d) at.0 legal at.1) (omega arith) here.0 here.1 in
      let same : x ≡ step.chunk = same_Some x step.chunk (sym last ∙ ap (chunk_after i (log_of w) line unit) far ∙ step.next) in
      record {
        more = before.more ++ step.step.more;
        left = ap (λ (y : Chunk). y.blocks) same ∙ step.step.left ∙ ap (λ bs. bs ++ step.step.more) before.left
            ∙ append_assoc c.blocks before.more step.step.more;
      }

  pub empty_at_base : (c : Chunk) → chunk_after i (log_of w) line unit (slice_index o.knows (suc unit)) ≡ Some c → is_empty_state c.state ≡ true
  empty_at_base c there = opened_empty i w legal b begins unit line o.number o.start since.logged opening c (ap (chunk_after i (log_of w) line unit) named
      ∙ there)
