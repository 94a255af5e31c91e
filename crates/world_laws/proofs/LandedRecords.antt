-- The records of stripes that had landed when their line was freed stand below the newest start
-- record's front.
use Rattle.std.proofs.Common.{◌≡◌, ℕ, ◌+◌, ◌<◌, ◌==◌, Bool, true, Some, Option, List, length, take, drop, refl, sym, subst, ap, ◌∙◌, arith, length-take}
use Rattle.std.specs.Prelude.{slice_get}
use Rattle.std.specs.List.{Contains, find}
use Rattle.std.specs.Option.{is_some, option_map}
use Rattle.std.proofs.lemmas.Option.{slice_get_within}
use Rattle.pblk_model.specs.declared.shape.Shape.{Shape}
use Rattle.pblk_model.specs.Chunk.{Block}
use Rattle.pblk_model.specs.Image.{Image}
use Rattle.pblk_model.specs.Records.{Record, named}
use Rattle.pblk_world.specs.Events.{Logged}
use Rattle.pblk_world.specs.World.{World, log_of}
use Rattle.pblk_world.specs.EngineLog.{Opening, Opened, life_of, Placed, stripes_of, answer_of, is_land, has_landed, bears_position, holds_position}
use Rattle.pblk_world.specs.Freeing.{IsLandedRecord}
use Rattle.pblk_world.specs.Legal.{IsLegal}
use Rattle.pblk_world.specs.Lines.{known_image, place_of}
use Rattle.pblk_world.specs.Victims.{engine_prefix}
use Rattle.pblk_model.proofs.Maps.{any_found, found_passes}
use Rattle.pblk_model.proofs.Options.{some_value}
use Rattle.pblk_model.proofs.Parts.{take_and_drop}
use Rattle.pblk_model.proofs.Tests.{first_of, same, second_of}
use Rattle.world_laws.proofs.Freeing.{answered_when_freed}
use Rattle.world_laws.proofs.Later.{answer_later, placed_within}
use Rattle.world_laws.proofs.Lives.{IsFreedLife}
use Rattle.world_laws.proofs.Newest.{IsOlder, older_when_freed}
use Rattle.world_laws.proofs.Stripes.{opening_then, placed_before_freed, stripe_is, stripe_of_prefix}

-- Each block of a stripe has an address in its line, by the image that the engine knows while the
-- stripe's life stands.
unfoldable pub HavePlaces : Image → World → Type 0
HavePlaces i w = (o : Opening) (p : Placed) (k index : ℕ) → Contains (stripes_of (log_of w 0) o) p → life_of (take k (log_of w 0)) o.line ≡ Opened o
    → p.number < k → index < length p.stripe.blocks
    → (a : ℕ) × (place_of (known_image i (engine_prefix k (log_of w))) o.line a ≡ Some (p.stripe.unit, p.stripe.at + index))

-- ---- what has landed had landed when it was freed

pub landed_when_freed : (i : Image) (w : World) (o : Opening) (p : Placed) → IsLegal i w → (f : IsFreedLife (log_of w 0) o)
    → Contains (stripes_of (log_of w 0) o) p → has_landed (log_of w 0) p ≡ true → has_landed (take f.number (log_of w 0)) p ≡ true
landed_when_freed i w o p legal f there landed =
    let log : List Logged = log_of w 0 in
    let opened = opening_then log f.number o.line o f.was in
    let placed = stripe_is i w o p legal opened.0 there in
    let before : p.number < f.number = placed_before_freed i w o p f legal there in
    let inside : p.number < length log = placed_within log p placed.0 in
    let answer = some_value (answer_of (take f.number log) p) (answered_when_freed i w o p legal f there) in
    let now : answer_of log p ≡ Some answer.0 =
    subst (λ (xs : List Logged). answer_of xs p ≡ Some answer.0) (take_and_drop f.number log)
    (answer_later (take f.number log) (drop f.number log) p answer.0 (omega (arith, length-take f.number log)) answer.1) in
    ap is_land (answer.1 ∙ sym now) ∙ landed

-- ---- the block that holds a position

pub record IsBlockAt (s : Shape) (p : Placed) (position : ℕ) : Type 0 where
  pub index : ℕ
  pub block : Block
  pub is_block : slice_get p.stripe.blocks index ≡ Some block
  pub lba : Option ℕ
  pub names : named s block.mark ≡ Some lba
  pub at : block.mark.position ≡ position

pub block_at_position : (s : Shape) (p : Placed) (position : ℕ) → holds_position s position p ≡ true → IsBlockAt s p position
block_at_position s p position holds =
    let test : Block → Bool = bears_position s position in
    let found = some_value (find test p.stripe.blocks) (sym (any_found test p.stripe.blocks) ∙ holds) in
    let passes = found_passes test p.stripe.blocks found.0 found.1 in
    let name = some_value (named s found.0.mark) (first_of (is_some (named s found.0.mark)) (found.0.mark.position == position) passes.0) in record {
      index = passes.1.0;
      block = found.0;
      is_block = passes.1.1;
      lba = name.0;
      names = name.1;
      at = same found.0.mark.position position (second_of (is_some (named s found.0.mark)) (found.0.mark.position == position) passes.0);
    }

-- the record of that block when its line was freed
pub record HasRecord (i : Image) (w : World) (o : Opening) (f : IsFreedLife (log_of w 0) o) (b : Block) (lba : Option ℕ) : Type 0 where
  pub r : Record
  pub landed : IsLandedRecord i (engine_prefix f.number (log_of w)) o r
  pub position : r.position ≡ b.mark.position
  pub names : r.lba ≡ lba

pub record_when_freed : (i : Image) (w : World) (o : Opening) (p : Placed) (position : ℕ) → IsLegal i w → HavePlaces i w
    → (f : IsFreedLife (log_of w 0) o) → Contains (stripes_of (log_of w 0) o) p → has_landed (log_of w 0) p ≡ true → (b : IsBlockAt i.shape p position)
    → HasRecord i w o f b.block b.lba
unfolding HavePlaces
record_when_freed i w o p position legal places f there landed b =
    let before : p.number < f.number = placed_before_freed i w o p f legal there in
    let place = places o p f.number b.index there f.was before (slice_get_within p.stripe.blocks b.index b.block b.is_block) in
    let r : Record =
    record { line = o.line; seq = o.start.seq; at = place.0; position = b.block.mark.position; lba = b.lba; sector = b.block.sector } in record {
      r = r;
      landed = record {
        placed = p;
        of_opening = stripe_of_prefix (log_of w 0) f.number o p there before;
        landed = landed_when_freed i w o p legal f there landed;
        index = b.index;
        block = b.block;
        is_block = b.is_block;
        place = place.1;
        bears = ap (option_map (λ lba. record {
          line = o.line;
          seq = o.start.seq;
          at = place.0;
          position = b.block.mark.position;
          lba = lba;
          sector = b.block.sector;
        })) b.names;
      };
      position = refl;
      names = refl;
    }

-- each position of a stripe that has landed in a life that was freed is below the newest start
-- record's front
pub freed_below_front : (i : Image) (w : World) (o : Opening) (p : Placed) (position : ℕ) (legal : IsLegal i w) → HavePlaces i w
    → (f : IsFreedLife (log_of w 0) o) → Contains (stripes_of (log_of w 0) o) p → has_landed (log_of w 0) p ≡ true → holds_position i.shape position p ≡ true
    → position < (older_when_freed i w o legal f).newest.front
freed_below_front i w o p position legal places f there landed holds =
    let b : IsBlockAt i.shape p position = block_at_position i.shape p position holds in
    let has : HasRecord i w o f b.block b.lba = record_when_freed i w o p position legal places f there landed b in
    let older : IsOlder i w o f = older_when_freed i w o legal f in
    subst (λ n. n < older.newest.front) (has.position ∙ b.at) (older.below has.r has.landed)
