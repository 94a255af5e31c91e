-- The positions that count in an opened line: those of the blocks that the engine knows are written
-- there, and once nothing more is written to the line no others.
use Rattle.std.proofs.Common.{◌≡◌, ℕ, ◌+◌, ◌==◌, zero, suc, Bool, true, false, Some, None, Option, List, [], ◌∷◌, length, refl, sym, subst, ap, ap₂, ◌∙◌, if◌then◌else◌}
use Rattle.std.specs.Prelude.{slice_get}
use Rattle.std.specs.List.{AllByRecursion, Contains, flat_map, list_all}
use Rattle.std.specs.Option.{IfSome, is_some, option_and_then, option_map}
use Rattle.std.proofs.lemmas.Option.{same_Some, slice_get_within}
use Rattle.pblk_model.specs.declared.shape.Shape.{Shape}
use Rattle.pblk_model.specs.Chunk.{Block, Chunk}
use Rattle.pblk_model.specs.Image.{Image}
use Rattle.pblk_model.specs.Records.{Record, named}
use Rattle.pblk_laws.specs.LineBlocks.{chunk_in, written_at}
use Rattle.pblk_world.specs.Events.{Logged}
use Rattle.pblk_world.specs.World.{World, log_of, media}
use Rattle.pblk_world.specs.EngineLog.{bears_position, holds_position, is_as_found, LineLife, life_of, Opened, Opening, Placed, stripes_of, Taken, takes}
use Rattle.pblk_world.specs.Freeing.{IsLandedRecord, IsWrittenRecord}
use Rattle.pblk_world.specs.Lines.{are_over, chunks_of, is_over_state, known_image, place_of}
use Rattle.pblk_world.specs.Victims.{position_in, positions_in}
use Rattle.pblk_model.proofs.Lists.{IsAmong}
use Rattle.pblk_model.proofs.Maps.{all_filter_map, any_member, given_at}
use Rattle.pblk_model.proofs.Options.{map_some, some_value, split_then}
use Rattle.pblk_model.proofs.Parts.{all_at, all_by_get, get_more, get_right}
use Rattle.pblk_model.proofs.Tests.{and_both, same_number}
use Rattle.pblk_world.specs.LegalMounts.{IsLegalMount}
use Rattle.world_laws.proofs.FoundEmpty.{all_pass}
use Rattle.world_laws.proofs.Latest.{entry_of_block}
use Rattle.world_laws.proofs.LifePlaces.{place_of_block, units_now}
use Rattle.world_laws.proofs.LineAddresses.{same_place}
use Rattle.world_laws.proofs.LineBlocks.{IsLineOf, IsStripeBlock, block_placed, landed_written, opened_line}
use Rattle.world_laws.proofs.StripeBlocks.{all_flat_of}
use Rattle.world_laws.proofs.Stripes.{stripe_is}
use Rattle.core_laws.proofs.OverChunks.{known_stands, known_there, over_stands}

-- ---- lists

pub flat_at : {X Y : Type 0} (f : X → List Y) (xs : List X) (n m : ℕ) (x : X) (y : Y) → slice_get xs n ≡ Some x → slice_get (f x) m ≡ Some y
    → IsAmong (flat_map f xs) y
flat_at f [] n m x y at its = absurd cc
flat_at f (z ∷ xs) zero m x y at its =
    (m, get_more (f z) (flat_map f xs) m y (ap (λ v. slice_get (f v) m) (same_Some z x at) ∙ its))
flat_at f (z ∷ xs) (suc n) m x y at its =
    let rest = flat_at f xs n m x y at its in (length (f z) + rest.0, get_right (f z) (flat_map f xs) rest.0 ∙ rest.1)

-- the position of a block that names one
pub position_of_block : (s : Shape) (b : Block) (position : ℕ) → position_in s b ≡ Some position
    → (lba : Option ℕ) × (named s b.mark ≡ Some lba) × (b.mark.position ≡ position)
position_of_block s b position e = go (is_some (named s b.mark)) refl e
  where
    go : (t : Bool) → is_some (named s b.mark) ≡ t → (if t then Some b.mark.position else None) ≡ Some position
        → (lba : Option ℕ) × (named s b.mark ≡ Some lba) × (b.mark.position ≡ position)
    go true some e = let name = some_value (named s b.mark) some in (name.0, name.1, same_Some b.mark.position position e)
    go false some e = absurd cc

module _ (i : Image) (w : World) (mount : IsLegalMount i w) (o : Opening) (is_open : life_of (log_of w 0) o.line ≡ Opened o) where
  abbrev log : List Logged
  log = log_of w 0

  line_is : IsLineOf i w o
  line_is = opened_line i w mount o is_open

  -- ---- what has landed is written

  pub landed_is_written : (r : Record) → IsLandedRecord i (log_of w) o r → IsWrittenRecord i (log_of w) o r
  landed_is_written r h =
      let place : place_of (media i (log_of w)) o.line r.at ≡ Some (h.placed.stripe.unit, h.placed.stripe.at + h.index) =
      sym (same_place (known_image i (log_of w)) (media i (log_of w)) o.line r.at refl (units_now i w mount o is_open)) ∙ h.place in
      record {
        block = h.block;
        written = block_placed (media i (log_of w)) o.line r.at ∙ ap (option_and_then (written_at (media i (log_of w)) o.line)) place
            ∙ landed_written i w mount o is_open h.placed h.index h.block h.of_opening h.landed h.is_block;
        bears = h.bears;
      }

  -- ---- the stripe of a written record, and its entry

  pub record IsOfStripe (r : Record) : Type 0 where
    pub placed : Placed
    pub of_opening : Contains (stripes_of (log_of w 0) o) placed
    pub holds : holds_position i.shape r.position placed ≡ true
    pub seq : r.seq ≡ o.start.seq
    pub t : Taken
    pub taken : IsAmong (takes (log_of w 0)) t
    pub its : t.entry.position ≡ r.position
    pub names : named i.shape t.mark ≡ Some r.lba

  -- where it stands
  record IsWrittenAt (r : Record) (block : Block) : Type 0 where
    unit : ℕ
    k : ℕ
    chunk : Chunk
    there : chunk_in (media i (log_of w)) o.line unit ≡ Some chunk
    at : slice_get chunk.blocks k ≡ Some block

  written_there : (r : Record) (h : IsWrittenRecord i (log_of w) o r) → IsWrittenAt r h.block
  written_there r h =
      let place = split_then (written_at (media i (log_of w)) o.line) (place_of (media i (log_of w)) o.line r.at) h.block
      (sym (block_placed (media i (log_of w)) o.line r.at) ∙ h.written) in
      let c = split_then (λ (x : Chunk). slice_get x.blocks place.0.1) (chunk_in (media i (log_of w)) o.line place.0.0) h.block place.2 in
      record { unit = place.0.0; k = place.0.1; chunk = c.0; there = c.1; at = c.2 }

  record IsNamed (r : Record) (block : Block) : Type 0 where
    names : named i.shape block.mark ≡ Some r.lba
    position : block.mark.position ≡ r.position
    seq : r.seq ≡ o.start.seq

  is_named : (r : Record) (h : IsWrittenRecord i (log_of w) o r) → IsNamed r h.block
  is_named r h =
      let name = map_some (λ lba. record {
        line = o.line;
        seq = o.start.seq;
        at = r.at;
        position = h.block.mark.position;
        lba = lba;
        sector = h.block.sector;
      }) (named i.shape h.block.mark) r h.bears in
      record {
        names = name.1 ∙ ap (λ (x : Record). Some x.lba) name.2;
        position = ap (λ (x : Record). x.position) name.2;
        seq =
            ap (λ (x : Record). x.seq) (sym name.2);
      }

  pub of_stripe : (r : Record) → IsWrittenRecord i (log_of w) o r → IsOfStripe r
  of_stripe r h =
      let at : IsWrittenAt r h.block = written_there r h in
      let names : IsNamed r h.block = is_named r h in
      let s : IsStripeBlock log o at.unit at.k h.block =
      line_is.blocks at.unit at.k h.block (ap (option_and_then (λ (x : Chunk). slice_get x.blocks at.k)) at.there ∙ at.at) in
      let placed = (stripe_is i w o s.placed mount.legal line_is.opened s.there).0 in
      let entry = entry_of_block i w s.placed s.index h.block r.lba mount.accepted mount.legal placed s.is_block names.names in
      record {
        placed = s.placed;
        of_opening = s.there;
        holds = any_member (bears_position i.shape r.position) s.placed.stripe.blocks s.index h.block s.is_block
            (and_both (is_some (named i.shape h.block.mark)) (h.block.mark.position == r.position) (ap is_some names.names)
            (ap (λ n. n == r.position) names.position ∙ same_number r.position));
        seq = names.seq;
        t = entry.0;
        taken = entry.1.there;
        its = entry.1.position ∙ names.position;
        names = ap (named i.shape) entry.1.mark ∙ names.names;
      }

  -- ---- each position that counts is that of a written record

  HasWritten : ℕ → Type 0
  HasWritten position = (r : Record) × IsWrittenRecord i (log_of w) o r × (r.position ≡ position)

  known_written : (unit k : ℕ) (c : Chunk) (block : Block) (position : ℕ) → chunk_in (known_image i (log_of w)) o.line unit ≡ Some c
      → slice_get c.blocks k ≡ Some block → position_in i.shape block ≡ Some position → HasWritten position
  unfolding HasWritten
  known_written unit k c block position is_known at e =
      let d = known_stands i w mount o.line o is_open unit c k block is_known at in
      from_stripe (ap (option_and_then (λ (x : Chunk). slice_get x.blocks k)) d.1 ∙ d.2)
    where
      from_place : written_at (media i (log_of w)) o.line (unit, k) ≡ Some block → (address : ℕ)
          → place_of (media i (log_of w)) o.line address ≡ Some (unit, k) → HasWritten position
      from_place written address place =
          let name = position_of_block i.shape block position e in
          let here : option_and_then (written_at (media i (log_of w)) o.line) (place_of (media i (log_of w)) o.line address)
          ≡ written_at (media i (log_of w)) o.line (unit, k) =
          ap (option_and_then (written_at (media i (log_of w)) o.line)) place in
          let r : Record = record {
            line = o.line;
            seq = o.start.seq;
            at = address;
            position = block.mark.position;
            lba = name.0;
            sector = block.sector;
          } in (
            r,
            record {
              block = block;
              written = block_placed (media i (log_of w)) o.line address ∙ (here ∙ written);
              bears = ap (option_map (λ lba. record {
                line = o.line;
                seq = o.start.seq;
                at = address;
                position = block.mark.position;
                lba = lba;
                sector = block.sector;
              })) name.1;
            },
            name.2,
          )

      from_stripe : written_at (media i (log_of w)) o.line (unit, k) ≡ Some block → HasWritten position
      from_stripe written =
          let s : IsStripeBlock log o unit k block = line_is.blocks unit k block written in
          let place = place_of_block i w mount o is_open s.placed s.index s.there (slice_get_within s.placed.stripe.blocks s.index block s.is_block) in
          from_place written place.0 (place.1 ∙ ap₂ (λ u n. Some (u, n)) s.on (sym s.place))

  -- a unit that the engine knows, and a block of the line's chunk there
  abbrev Unit_of : List Chunk → Type 0
  Unit_of cs = (u : ℕ) × (slice_get (known_image i (log_of w)).units u ≡ Some cs)

  abbrev Known : Block → Type 0
  Known block = (unit : ℕ) × (k : ℕ) × (c : Chunk) × (chunk_in (known_image i (log_of w)) o.line unit ≡ Some c) × (slice_get c.blocks k ≡ Some block)

  pub positions_written : (P : ℕ → Type 0) → ((r : Record) → IsWrittenRecord i (log_of w) o r → P r.position)
      → AllByRecursion P (positions_in i (log_of w) (Opened o) o.line)
  unfolding HasWritten
  positions_written P each =
      all_filter_map P Known (position_in i.shape) (flat_map (λ (c : Chunk). c.blocks) (chunks_of (known_image i (log_of w)) o.line)) of_block
      (all_flat_of Known (λ (c : Chunk). c.blocks) (chunks_of (known_image i (log_of w)) o.line)
      (all_filter_map (λ (c : Chunk). AllByRecursion Known c.blocks) Unit_of (λ (cs : List Chunk). slice_get cs o.line) (known_image i (log_of w)).units of_unit
      (all_by_get Unit_of (known_image i (log_of w)).units (λ u cs at. (u, at)))))
    where
      of_block : (block : Block) → Known block → IfSome (position_in i.shape block) P
      of_block block at = go (position_in i.shape block) refl
        where
          go : (x : Option ℕ) → position_in i.shape block ≡ x → IfSome x P
          go None e = tt
          go (Some position) e =
              let r = known_written at.0 at.1 at.2 block position at.3 at.4 e in subst P r.2 (each r.0 r.1)

      of_unit : (cs : List Chunk) → Unit_of cs → IfSome (slice_get cs o.line) (λ (c : Chunk). AllByRecursion Known c.blocks)
      of_unit cs at = go (slice_get cs o.line) refl
        where
          go : (x : Option Chunk) → slice_get cs o.line ≡ x → IfSome x (λ (c : Chunk). AllByRecursion Known c.blocks)
          go None e = tt
          go (Some c) e = all_by_get Known c.blocks (λ k block is.
              (at.0, k, c, ap (option_and_then (λ (xs : List Chunk). slice_get xs o.line)) at.1 ∙ e, is))

  -- ---- where nothing more is written, that of each written record counts

  module _ (over : are_over i (log_of w) o.line ≡ true) where
    pub over_chunk : (unit : ℕ) (c : Chunk) → chunk_in (known_image i (log_of w)) o.line unit ≡ Some c → is_over_state false c.state ≡ true
    over_chunk unit c is_known =
        let units : List (List Chunk) = (known_image i (log_of w)).units in
        let its = split_then (λ (cs : List Chunk). slice_get cs o.line) (slice_get units unit) c is_known in
        let at : IsAmong (chunks_of (known_image i (log_of w)) o.line) c = given_at (λ (cs : List Chunk). slice_get cs o.line) units its.0 c unit its.1 its.2 in
        let all : list_all (λ (x : Chunk). is_over_state false x.state) (chunks_of (known_image i (log_of w)) o.line) ≡ true =
        ap (λ (l : LineLife). list_all (λ (x : Chunk). is_over_state (is_as_found l) x.state) (chunks_of (known_image i (log_of w)) o.line)) (sym is_open)
        ∙ over in
        all_pass (λ (x : Chunk). is_over_state false x.state) (chunks_of (known_image i (log_of w)) o.line) at.0 c all at.1

    pub written_counts : (P : ℕ → Type 0) (r : Record) → IsWrittenRecord i (log_of w) o r → AllByRecursion P (positions_in i (log_of w) (Opened o) o.line)
        → P r.position
    written_counts P r h all =
        let names : IsNamed r h.block = is_named r h in
        let at : IsWrittenAt r h.block = written_there r h in
        let c = known_there i w mount o.line o is_open at.unit at.chunk at.there in
        let same : c.0 ≡ at.chunk =
        same_Some c.0 at.chunk (sym (over_stands i w mount o.line o is_open at.unit c.0 (over_chunk at.unit c.0 c.1) c.1) ∙ at.there) in
        let units : List (List Chunk) = (known_image i (log_of w)).units in
        let its = split_then (λ (cs : List Chunk). slice_get cs o.line) (slice_get units at.unit) c.0 c.1 in
        let chunk : IsAmong (chunks_of (known_image i (log_of w)) o.line) c.0 =
        given_at (λ (cs : List Chunk). slice_get cs o.line) units its.0 c.0 at.unit its.1 its.2 in
        let block : IsAmong (flat_map (λ (x : Chunk). x.blocks) (chunks_of (known_image i (log_of w)) o.line)) h.block =
        flat_at (λ (x : Chunk). x.blocks) (chunks_of (known_image i (log_of w)) o.line) chunk.0 at.k c.0 h.block chunk.1
        (ap (λ (x : Chunk). slice_get x.blocks at.k) same ∙ at.at) in
        let position : position_in i.shape h.block ≡ Some r.position =
        ap (λ t. if t then Some h.block.mark.position else None) (ap is_some names.names) ∙ ap (λ n. Some n) names.position in
        let there : IsAmong (positions_in i (log_of w) (Opened o) o.line) r.position =
        given_at (position_in i.shape)
        (flat_map (λ (x : Chunk). x.blocks) (chunks_of (known_image i (log_of w)) o.line)) h.block r.position block.0 block.1 position in
        all_at P (positions_in i (log_of w) (Opened o) o.line) there.0 r.position there.1 all
