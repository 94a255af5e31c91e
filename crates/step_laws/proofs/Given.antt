-- A fetch of a block that has landed gives it.
use Rattle.std.proofs.Common.{◌≡◌, ◌⊎◌, inl, inr, ℕ, ◌+◌, ◌-◌, ◌*◌, ◌<◌, ◌≤◌, ◌==◌, nat_lt, zero, suc, cond, Bool, true, false, Some, None, List, [], ◌∷◌, length, refl, sym, subst, ap, ◌∙◌, arith, if◌then◌else◌}
use Rattle.std.specs.Prelude.{slice_get}
use Rattle.std.specs.List.{Contains, filter, find, list_any}
use Rattle.std.specs.Option.{option_and_then}
use Rattle.std.proofs.Math.Nat.{mul-le-mul_right}
use Rattle.std.proofs.lemmas.Bool.{eqb-true}
use Rattle.std.proofs.lemmas.Option.{slice_get_within}
use Rattle.pblk_model.specs.declared.shape.Shape.{Shape}
use Rattle.pblk_model.specs.declared.chunk.ChunkState.{ChunkState}
use Rattle.pblk_model.specs.declared.chunk.ChunkState.TheVariants as states
use Rattle.pblk_model.specs.declared.chunk.ChunkErr.TheVariants as errors
use Rattle.pblk_model.specs.Chunk.{Chunk, Block, IsChunk, PointerFits, ReadableIn, IsReadable}
use Rattle.pblk_model.specs.ChunkStep.{ChunkStep, Read, Gave, read_refusal_in}
use Rattle.pblk_model.specs.Image.{Image}
use Rattle.pblk_laws.specs.LineBlocks.{chunk_in}
use Rattle.pblk_world.specs.Events.{Logged}
use Rattle.pblk_world.specs.World.{World, log_of, media}
use Rattle.pblk_world.specs.EngineLog.{Opening, Opened, life_of, last_opening, openings, Placed, stripes_of, stripes_on, has_landed, was_lost}
use Rattle.pblk_world.specs.Space.{is_closed_in, is_readable_in, landed_blocks}
use Rattle.pblk_model.proofs.Maps.{all_passed, any_found, found_passes, from_filter}
use Rattle.pblk_model.proofs.Options.{some_value, split_then}
use Rattle.pblk_model.proofs.Parts.{all_at, contained_among, got_within}
use Rattle.pblk_model.proofs.Tests.{either, lt_true}
use Rattle.stripe_placer.proofs.Chunks.{lt_of}
use Rattle.pblk_world.specs.LegalMounts.{IsLegalMount}
use Rattle.world_laws.proofs.Lives.{life_is_known}
use Rattle.world_laws.proofs.LineBlocks.{landed_written}
use Rattle.world_laws.proofs.LineStripes.{stripe_count}
use Rattle.world_laws.proofs.MediaChunks.{chunk_of_media}
use Rattle.world_laws.proofs.StripePlaces.{kth_place}
use Rattle.world_laws.proofs.UnitLogs.{chunk_fits}
use Rattle.core_laws.proofs.OpeningNumbers.{life_at}
use Rattle.core_laws.proofs.LostChunks.{lost_stays_closed}

-- ---- chunks

read_taken : (s : Shape) (state : ChunkState) (wp b : ℕ) → ReadableIn state s.mw_cunits wp b → b < s.clba → read_refusal_in s state b ≡ None
read_taken s states.Free wp b h within = absurd h
read_taken s states.Open wp b h within = ap (λ t. if t then None else Some errors.PastEnd) (lt_true b s.clba within)
read_taken s states.Closed wp b h within = ap (λ t. if t then None else Some errors.PastEnd) (lt_true b s.clba within)
read_taken s states.Offline wp b h within = absurd h

-- a written block is one of the chunk
in_chunk : (state : ChunkState) (clba wp b : ℕ) → PointerFits state clba wp → b < wp → b < clba
in_chunk states.Free clba wp b fits within = absurd (let none : wp ≡ 0 = fits in omega arith)
in_chunk states.Open clba wp b fits within = omega (arith, fits)
in_chunk states.Closed clba wp b fits within = (let few : wp ≤ clba = fits in omega arith)
in_chunk states.Offline clba wp b fits within = absurd (let none : wp ≡ 0 = fits in omega arith)

-- and can be read where the chunk is closed, or what has landed below the pointer fills it, or is
-- far enough behind the block
readable_by : (state : ChunkState) (clba mw wp landed b : ℕ) → PointerFits state clba wp → b < wp → landed ≤ wp
    → (state ≡ states.Closed) ⊎ ((landed ≡ clba) ⊎ (b + mw < landed)) → ReadableIn state mw wp b
readable_by states.Free clba mw wp landed b fits within below may = absurd (let none : wp ≡ 0 = fits in omega arith)
readable_by states.Open clba mw wp landed b fits within below (inl closed) = absurd cc
readable_by states.Open clba mw wp landed b fits within below (inr (inl full)) = absurd (omega (arith, fits))
readable_by states.Open clba mw wp landed b fits within below (inr (inr far)) = omega arith
readable_by states.Closed clba mw wp landed b fits within below may = within
readable_by states.Offline clba mw wp landed b fits within below may = absurd (let none : wp ≡ 0 = fits in omega arith)

-- ---- the last element that passes a test

record IsLastPassing {X : Type 0} (test : X → Bool) (xs : List X) (n : ℕ) : Type 0 where
  number : ℕ
  element : X
  there : slice_get xs number ≡ Some element
  passes : test element ≡ true
  late : n ≤ number

last_passing : {X : Type 0} (test : X → Bool) (xs : List X) (n : ℕ) → length (filter test xs) ≡ suc n → IsLastPassing test xs n
last_passing test [] n count = absurd (omega arith)
last_passing {X} test (x ∷ xs) n count = go (test x) n refl count (last_passing test xs)
  where
    later : (k m : ℕ) → m ≤ suc k → IsLastPassing test xs k → IsLastPassing test (x ∷ xs) m
    later k m few h = record {
      number = suc h.number;
      element = h.element;
      there = h.there;
      passes = h.passes;
      late = (let low : k ≤ h.number = h.late in omega arith);
    }

    go : (b : Bool) (m : ℕ) → test x ≡ b → length (cond b (x ∷ filter test xs) (filter test xs)) ≡ suc m
        → ((k : ℕ) → length (filter test xs) ≡ suc k → IsLastPassing test xs k) → IsLastPassing test (x ∷ xs) m
    go true zero is count rest = record { number = 0; element = x; there = refl; passes = is; late = omega arith }
    go true (suc k) is count rest = later k (suc k) (omega arith) (rest k (omega arith))
    go false m is count rest = later m m (omega arith) (rest m count)

-- ---- a chunk of an opened line

module _ (i : Image) (w : World) (mount : IsLegalMount i w) (o : Opening) (is_open : life_of (log_of w 0) o.line ≡ Opened o) (unit : ℕ) where
  abbrev log : List Logged
  log = log_of w 0

  opened : Contains (openings (log_of w 0)) o
  opened = (life_is_known log o.line o (ap last_opening is_open)).0

  its_unit : (k : ℕ) (p : Placed) → slice_get (stripes_on (log_of w 0) o unit) k ≡ Some p → p.stripe.unit ≡ unit
  its_unit k p at = eqb-true p.stripe.unit unit
      (all_at (λ (q : Placed). (q.stripe.unit == unit) ≡ true) (stripes_on log o unit) k p at
      (all_passed (λ (q : Placed). q.stripe.unit == unit) (stripes_of log o)))

  its_opening : (k : ℕ) (p : Placed) → slice_get (stripes_on (log_of w 0) o unit) k ≡ Some p → Contains (stripes_of (log_of w 0) o) p
  its_opening k p at = contained_among (stripes_of log o) p (from_filter (λ (q : Placed). q.stripe.unit == unit) (stripes_of log o) p (k, at))

  -- a block of a stripe that has landed stands there
  stands : (k r : ℕ) (p : Placed) (block : Block) → slice_get (stripes_on (log_of w 0) o unit) k ≡ Some p → has_landed (log_of w 0) p ≡ true
      → slice_get p.stripe.blocks r ≡ Some block
      → option_and_then (λ (c : Chunk). slice_get c.blocks (p.stripe.at + r)) (chunk_in (media i (log_of w)) o.line unit) ≡ Some block
  stands k r p block at landed is =
      subst (λ u. option_and_then (λ (c : Chunk). slice_get c.blocks (p.stripe.at + r)) (chunk_in (media i (log_of w)) o.line u) ≡ Some block)
      (its_unit k p at) (landed_written i w mount o is_open p r block (its_opening k p at) landed is)

  module _ (c : Chunk) (there : chunk_in (media i (log_of w)) o.line unit ≡ Some c) where
    fits : IsChunk i.shape c
    fits = chunk_fits i w mount.legal unit o.line (length (log_of w (suc unit))) c mount.fit mount.accepted.drive.ws_min (omega arith)
        (sym (chunk_of_media i (log_of w) o.line unit) ∙ there)

    -- what has landed is below its pointer
    landed_below : landed_blocks i.shape (log_of w 0) o unit ≤ length c.blocks
    landed_below = go (length (filter (has_landed log) (stripes_on log o unit))) refl
      where
        go : (n : ℕ) → length (filter (has_landed (log_of w 0)) (stripes_on (log_of w 0) o unit)) ≡ n
            → landed_blocks i.shape (log_of w 0) o unit ≤ length c.blocks
        go zero count =
            let none : landed_blocks i.shape (log_of w 0) o unit ≡ 0 * i.shape.ws_opt = ap (λ m. m * i.shape.ws_opt) count in omega arith
        go (suc n) count =
            let s : Shape = i.shape in
            let last : IsLastPassing (has_landed (log_of w 0)) (stripes_on (log_of w 0) o unit) n =
            last_passing (has_landed log) (stripes_on log o unit) n count in
            let some : 0 < i.shape.ws_opt = mount.accepted.drive.ws_opt in
            let at : last.element.stripe.at ≡ last.number * i.shape.ws_opt = kth_place i w o unit last.number last.element mount opened last.there in
            let long : length last.element.stripe.blocks ≡ i.shape.ws_opt =
            stripe_count i w o last.element mount.accepted mount.legal opened (its_opening last.number last.element last.there) in
            let block = got_within last.element.stripe.blocks (i.shape.ws_opt - 1) (omega arith) in
            let written : slice_get c.blocks (last.element.stripe.at + (i.shape.ws_opt - 1)) ≡ Some block.0 =
            ap (option_and_then (λ (x : Chunk). slice_get x.blocks (last.element.stripe.at + (s.ws_opt - 1)))) (sym there)
            ∙ stands last.number (s.ws_opt - 1) last.element block.0 last.there last.passes block.1 in
            let inside : last.element.stripe.at + (i.shape.ws_opt - 1) < length c.blocks =
            slice_get_within c.blocks (last.element.stripe.at + (s.ws_opt - 1)) block.0 written in
            let late : n ≤ last.number = last.late in
            let more : (n + 1) * i.shape.ws_opt ≤ (last.number + 1) * i.shape.ws_opt = mul-le-mul_right i.shape.ws_opt (omega arith) in
            let all : landed_blocks i.shape (log_of w 0) o unit ≡ suc n * i.shape.ws_opt = ap (λ m. m * i.shape.ws_opt) count in
            omega arith

    -- where the engine says that a landed block can be read, the chunk is closed, or filled, or the
    -- block is far enough below
    may_read : (b : ℕ) → is_readable_in i.shape (log_of w 0) unit b (Opened o) ≡ true
        → (c.state ≡ states.Closed)
        ⊎ ((landed_blocks i.shape (log_of w 0) o unit ≡ i.shape.clba) ⊎ (b + i.shape.mw_cunits < landed_blocks i.shape (log_of w 0) o unit))
    may_read b may = go (either (is_closed_in i.shape log o unit) (nat_lt (b + i.shape.mw_cunits) (landed_blocks i.shape log o unit)) may)
      where
        -- a stripe of it was lost
        by_loss : list_any (was_lost (log_of w 0)) (stripes_on (log_of w 0) o unit) ≡ true → c.state ≡ states.Closed
        by_loss some_lost =
            let found = some_value (find (was_lost log) (stripes_on log o unit)) (sym (any_found (was_lost log) (stripes_on log o unit)) ∙ some_lost) in
            let passes = found_passes (was_lost log) (stripes_on log o unit) found.0 found.1 in
            lost_stays_closed i w mount o found.0 is_open (its_opening passes.1.0 found.0 passes.1.1) passes.0 c
            (ap (chunk_in (media i (log_of w)) o.line) (its_unit passes.1.0 found.0 passes.1.1) ∙ there)

        closed : (list_any (was_lost (log_of w 0)) (stripes_on (log_of w 0) o unit) ≡ true)
            ⊎ ((landed_blocks i.shape (log_of w 0) o unit == i.shape.clba) ≡ true)
            → (c.state ≡ states.Closed)
            ⊎ ((landed_blocks i.shape (log_of w 0) o unit ≡ i.shape.clba) ⊎ (b + i.shape.mw_cunits < landed_blocks i.shape (log_of w 0) o unit))
        closed (inl lost) = inl (by_loss lost)
        closed (inr full) = inr (inl (eqb-true (landed_blocks i.shape log o unit) i.shape.clba full))

        go : (is_closed_in i.shape (log_of w 0) o unit ≡ true) ⊎ (nat_lt (b + i.shape.mw_cunits) (landed_blocks i.shape (log_of w 0) o unit) ≡ true)
            → (c.state ≡ states.Closed)
            ⊎ ((landed_blocks i.shape (log_of w 0) o unit ≡ i.shape.clba) ⊎ (b + i.shape.mw_cunits < landed_blocks i.shape (log_of w 0) o unit))
        go (inl is) = closed (either (list_any (was_lost log) (stripes_on log o unit)) (landed_blocks i.shape log o unit == i.shape.clba) is)
        go (inr far) = inr (inr (lt_of (b + i.shape.mw_cunits) (landed_blocks i.shape log o unit) far))

given_there : (i : Image) (w : World) (unit k r : ℕ) (o : Opening) (p : Placed) (block : Block) → IsLegalMount i w → life_of (log_of w 0) o.line ≡ Opened o
    → slice_get (stripes_on (log_of w 0) o unit) k ≡ Some p → slice_get p.stripe.blocks r ≡ Some block → has_landed (log_of w 0) p ≡ true
    → is_readable_in i.shape (log_of w 0) unit (p.stripe.at + r) (Opened o) ≡ true
    → (c : Chunk) × (chunk_in (media i (log_of w)) o.line unit ≡ Some c) × ChunkStep i.shape c (Read (p.stripe.at + r)) (Gave block) c
given_there i w unit k r o p block mount is_open there its_block landed may =
    let found = split_then (λ (c : Chunk). slice_get c.blocks (p.stripe.at + r)) (chunk_in (media i (log_of w)) o.line unit) block
    (stands i w mount o is_open unit k r p block there landed its_block) in
    let is : IsChunk i.shape found.0 = fits i w mount o is_open unit found.0 found.1 in
    let within : p.stripe.at + r < length found.0.blocks = slice_get_within found.0.blocks (p.stripe.at + r) block found.2 in
    let inside : p.stripe.at + r < i.shape.clba = in_chunk found.0.state i.shape.clba (length found.0.blocks) (p.stripe.at + r) is.place within in
    let readable : IsReadable i.shape found.0 (p.stripe.at + r) =
    readable_by found.0.state i.shape.clba i.shape.mw_cunits (length found.0.blocks) (landed_blocks i.shape (log_of w 0) o unit) (p.stripe.at + r)
    is.place within
    (landed_below i w mount o is_open unit found.0 found.1) (may_read i w mount o is_open unit found.0 found.1 (p.stripe.at + r) may) in (
      found.0,
      found.1,
      (read_taken i.shape found.0.state (length found.0.blocks) (p.stripe.at + r) readable inside, readable, found.2, refl),
    )

pub given : (i : Image) (w : World) (line unit k r : ℕ) (o : Opening) (p : Placed) (block : Block) → IsLegalMount i w → life_of (log_of w 0) line ≡ Opened o
    → slice_get (stripes_on (log_of w 0) o unit) k ≡ Some p → r < i.shape.ws_opt → slice_get p.stripe.blocks r ≡ Some block
    → has_landed (log_of w 0) p ≡ true → is_readable_in i.shape (log_of w 0) unit (p.stripe.at + r) (Opened o) ≡ true
    → (c : Chunk) × (chunk_in (media i (log_of w)) line unit ≡ Some c) × ChunkStep i.shape c (Read (p.stripe.at + r)) (Gave block) c
given i w line unit k r o p block mount life there inside its_block landed may =
    let its_line : o.line ≡ line = (life_at (log_of w 0) line o life).1 in
    subst (λ n. (c : Chunk) × (chunk_in (media i (log_of w)) n unit ≡ Some c) × ChunkStep i.shape c (Read (p.stripe.at + r)) (Gave block) c) its_line
    (given_there i w unit k r o p block mount (ap (life_of (log_of w 0)) its_line ∙ life) there its_block landed may)
