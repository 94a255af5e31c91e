-- What stands at the addresses of a line: blocks of the stripes of its last opening, and those of
-- each stripe that has landed.
use Rattle.std.proofs.Common.{◌≡◌, ℕ, ◌+◌, ◌*◌, ◌/◌, ◌%◌, ◌<◌, ◌≤◌, ◌==◌, suc, true, false, Bool, Some, None, Option, List, length, take, refl, sym, subst, ap, ap₂, ◌∙◌, arith, if◌then◌else◌}
use Rattle.std.specs.Prelude.{slice_get, slice_index}
use Rattle.std.specs.List.{Contains}
use Rattle.std.specs.Option.{option_and_then, option_map}
use Rattle.std.proofs.lemmas.List.{take-take}
use Rattle.std.proofs.lemmas.Option.{none-some, same_Some}
use Rattle.pblk_model.specs.Chunk.{Chunk, Block}
use Rattle.pblk_model.specs.ChunkStep.{Done, Write}
use Rattle.pblk_model.specs.UnitLog.{Answered, UnitEvent}
use Rattle.pblk_model.specs.LineOrder.{block_of, column_of}
use Rattle.pblk_model.specs.Image.{Image, block_at, line_units, width}
use Rattle.pblk_model.proofs.LineOrder.{address_back}
use Rattle.pblk_laws.specs.LineBlocks.{chunk_in, written_at}
use Rattle.pblk_laws.proofs.LineUnits.{line_units_chunks, line_units_rise}
use Rattle.pblk_world.specs.Events.{Decides, Event, Landed, Lost, Logged}
use Rattle.pblk_world.specs.World.{World, log_of, known, knows_engine, media, prefixes, unit_event_of}
use Rattle.pblk_world.specs.EngineLog.{Answer, DidLand, WasLost, answer_by, answers, Begun, begun, has_landed, is_land, is_life, last_opening, life_of, Opened, Opening, openings, Placed, placed_on, placements, stripes_of}
use Rattle.pblk_world.specs.Commanding.{ended_stripes}
use Rattle.pblk_world.specs.Answering.{MayLand}
use Rattle.pblk_world.specs.Legal.{IsLegal}
use Rattle.pblk_world.specs.Lines.{known_image, place_of}
use Rattle.pblk_world.specs.Victims.{engine_prefix}
use Rattle.pblk_model.proofs.Lists.{IsAmong, among_contained}
use Rattle.pblk_model.proofs.Maps.{from_filter, in_filter}
use Rattle.pblk_model.proofs.Options.{mapped_some, split_then}
use Rattle.pblk_model.proofs.Parts.{contained_among, get_below, get_whole_within, one_column}
use Rattle.pblk_model.proofs.Tests.{same, same_number}
use Rattle.pblk_world.specs.LegalMounts.{IsLegalMount}
use Rattle.world_laws.proofs.Later.{placed_within}
use Rattle.world_laws.proofs.Lives.{life_is_known}
use Rattle.world_laws.proofs.Stripes.{opening_then, stripe_is}
use Rattle.world_laws.specs.LifeBlocks.{IsBlockOfLife}
use Rattle.world_laws.specs.UnitChunks.{chunk_after}
use Rattle.world_laws.specs.UnitPrograms.{IsProgramOfStripe}
use Rattle.world_laws.proofs.Deeds.{IsDeed, deed}
use Rattle.world_laws.proofs.LifeBlocks.{blocks_of_life, done_stands}
use Rattle.world_laws.proofs.LifePlaces.{began}
use Rattle.world_laws.proofs.LifeUnits.{units_of_life, width_of_life}
use Rattle.world_laws.proofs.BeforeFreeing.{opening_within}
use Rattle.world_laws.proofs.NextLives.{IsDecided, decided, placed_in}
use Rattle.world_laws.proofs.NamedPrefixes.{was_made}
use Rattle.world_laws.proofs.MediaChunks.{chunk_of_media}
use Rattle.world_laws.proofs.OpenedChunks.{named, since}
use Rattle.world_laws.proofs.Programs.{program_of_stripe}
use Rattle.world_laws.proofs.Tellings.{IsFrom, source}
use Rattle.world_laws.proofs.UnitTurns.{turn_is, unit_is}
use Rattle.world_laws.proofs.UnitChunks.{still_there}

-- ---- the block at a line address

pub block_placed : (img : Image) (line a : ℕ) → block_at img line a ≡ option_and_then (written_at img line) (place_of img line a)
block_placed img line a =
    let k : ℕ = block_of img.shape (width img line) a in
    let column : ℕ = column_of img.shape (width img line) a in
    ap (option_and_then (λ (c : Chunk). slice_get c.blocks k)) (line_units_chunks img line column) ∙ go (slice_get (line_units img line) column) k
  where
    go : (o : Option ℕ) (k : ℕ) → option_and_then (λ (c : Chunk). slice_get c.blocks k) (option_and_then (chunk_in img line) o)
        ≡ option_and_then (written_at img line) (option_map {U = ℕ × ℕ} (λ unit. (unit, k)) o)
    go None k = refl
    go (Some unit) k = refl

-- a block of a chunk has one address
pub one_address : (img : Image) (line a b unit k : ℕ) → 0 < img.shape.ws_opt → place_of img line a ≡ Some (unit, k)
    → place_of img line b ≡ Some (unit, k) → a ≡ b
one_address img line a b unit k some first second =
    let n : ℕ = img.shape.ws_opt in
    let g : ℕ = width img line in
    let x = mapped_some (slice_get (line_units img line) (column_of img.shape g a)) (block_of img.shape g a) unit k first in
    let y = mapped_some (slice_get (line_units img line) (column_of img.shape g b)) (block_of img.shape g b) unit k second in
    let column : column_of img.shape g a ≡ column_of img.shape g b =
    one_column (line_units img line) (column_of img.shape g a) (column_of img.shape g b) unit (line_units_rise img line) x.0 y.0 in
    sym (address_back n g a some) ∙ ap₂ (λ z c. (z / n * g + c) * n + z % n) (sym x.1 ∙ y.1) column ∙ address_back n g b some

-- ---- a line with what stands in it

-- the block of a chunk is one of a stripe of this opening
pub record IsStripeBlock (log : List Logged) (o : Opening) (unit k : ℕ) (block : Block) : Type 0 where
  pub placed : Placed
  pub there : Contains (stripes_of log o) placed
  pub on : placed.stripe.unit ≡ unit
  pub index : ℕ
  pub place : k ≡ placed.stripe.at + index
  pub is_block : slice_get placed.stripe.blocks index ≡ Some block

-- On the media the line has the units and the width that it was opened with. What is written in it
-- are blocks of this opening's stripes. A chunk in which a block is written has the blocks of each
-- stripe that has landed there.
pub record IsLineOf (i : Image) (w : World) (o : Opening) : Type 0 where
  pub opened : Contains (openings (log_of w 0)) o
  pub blocks : (unit k : ℕ) (block : Block) → written_at (media i (log_of w)) o.line (unit, k) ≡ Some block → IsStripeBlock (log_of w 0) o unit k block
  pub done : (p : Placed) (k index : ℕ) (b block : Block) → Contains (stripes_of (log_of w 0) o) p → has_landed (log_of w 0) p ≡ true
      → written_at (media i (log_of w)) o.line (p.stripe.unit, k) ≡ Some b → slice_get p.stripe.blocks index ≡ Some block
      → written_at (media i (log_of w)) o.line (p.stripe.unit, p.stripe.at + index) ≡ Some block
  pub units : (p : Placed) → Contains (stripes_of (log_of w 0) o) p
      → line_units (known_image i (engine_prefix p.number (log_of w))) o.line ≡ line_units (media i (log_of w)) o.line
  pub width_is : o.start.width ≡ width (media i (log_of w)) o.line

-- ---- the program of a stripe that has landed

pub record IsLandedProgram (w : World) (unit : ℕ) (p : Placed) : Type 0 where
  pub number : ℕ
  pub logged : Logged
  pub there : slice_get (log_of w (suc unit)) number ≡ Some logged
  pub event : UnitEvent
  pub is_event : unit_event_of logged.event ≡ Some event
  pub knew : p.number < knows_engine logged
  pub in_order : slice_get (placed_on (log_of w 0) unit) (ended_stripes (take number (log_of w (suc unit)))) ≡ Some p
  pub chunk : event.chunk ≡ p.stripe.chunk
  pub command : event.command ≡ Write p.stripe.at p.stripe.blocks
  pub done : event.outcome ≡ Answered Done

pub land_names : (unit number : ℕ) (e : Event) → answer_by unit e ≡ Some (DidLand number) → e ≡ Decides (Landed unit number)
land_names unit number (Decides (Landed other event)) is = by (other == unit) refl is
  where
    by : (b : Bool) → (other == unit) ≡ b → (if b then Some (DidLand event) else None) ≡ Some (DidLand number)
        → Decides (Landed other event) ≡ Decides (Landed unit number)
    by true alike f =
        let answer : DidLand event ≡ DidLand number = same_Some (DidLand event) (DidLand number) f in
        let number_is : event ≡ number = cc in
        ap₂ (λ u n. Decides (Landed u n)) (same other unit alike) number_is
    by false apart f = absurd (none-some (DidLand number) f)
land_names unit number (Decides (Lost other event)) is = by (other == unit) is
  where
    by : (b : Bool) → (if b then Some (WasLost event) else None) ≡ Some (DidLand number)
        → Decides (Lost other event) ≡ Decides (Landed unit number)
    by true f = let no : WasLost event ≡ DidLand number = same_Some (WasLost event) (DidLand number) f in absurd cc
    by false f = absurd (none-some (DidLand number) f)
land_names unit number e is = absurd (none-some (DidLand number) is)

pub land_of : (a : Option Answer) → is_land a ≡ true → (number : ℕ) × (a ≡ Some (DidLand number))
land_of None is = absurd cc
land_of (Some (DidLand number)) is = (number, refl)
land_of (Some (WasLost number)) is = absurd cc

pub landed_program : (i : Image) (w : World) (legal : IsLegal i w) (p : Placed) → Contains (placements (log_of w 0)) p → has_landed (log_of w 0) p ≡ true
    → IsLandedProgram w p.stripe.unit p
landed_program i w legal p there landed =
    let log : List Logged = log_of w 0 in
    let unit : ℕ = p.stripe.unit in
    let at : IsAmong (placed_on log unit) p =
    in_filter (λ (q : Placed). q.stripe.unit == unit) (placements log) p (among_contained (placements log) p there) (same_number unit) in
    let turn_same = turn_is log unit at.0 p at.1 in
    let answer = land_of (slice_get (answers log unit) at.0) (ap (λ t. is_land (slice_get (answers log unit) t)) (sym turn_same) ∙ landed) in
    let from : IsFrom (λ (l : Logged). answer_by unit l.event) log at.0 (DidLand answer.0) =
    source (λ (l : Logged). answer_by unit l.event) log at.0 (DidLand answer.0) answer.1 in
    let names : from.from.event ≡ Decides (Landed unit answer.0) = land_names unit answer.0 from.from.event from.gives in
    let d : IsDecided i w legal from.at (Landed unit answer.0) from.from = decided i w legal from.at (Landed unit answer.0) from.from from.there names in
    by at from d d.allowed.2
  where
    by : (at : IsAmong (placed_on (log_of w 0) p.stripe.unit) p) {number : ℕ}
        (from : IsFrom (λ (l : Logged). answer_by p.stripe.unit l.event) (log_of w 0) at.0 (DidLand number))
        → (d : IsDecided i w legal from.at (Landed p.stripe.unit number) from.from) → MayLand (prefixes from.from (log_of w)) p.stripe.unit number
        → IsLandedProgram w p.stripe.unit p
    by at {number} from d may =
        let unit : ℕ = p.stripe.unit in
        let own : List Logged = log_of w (suc unit) in
        let whole = get_whole_within (known from.from (suc unit)) own number may.new.logged may.new.is_known in
        let one : may.stripe.logged ≡ may.new.logged = same_Some may.stripe.logged may.new.logged (sym may.stripe.is_logged ∙ may.new.is_known) in
        let knew : 0 < knows_engine may.new.logged = subst (λ (x : Logged). 0 < knows_engine x) one may.stripe.after_begin in
        let s : IsProgramOfStripe (log_of w) unit number may.new.logged may.program =
        program_of_stripe i w unit number may.new.logged may.program legal whole.0 may.new.event may.stripe.program knew in
        let turn : ended_stripes (take number (log_of w (suc unit))) ≡ at.0 =
        ap ended_stripes (sym (take_again number (known from.from (suc unit)) own whole.1)) ∙ may.stripe.its_turn
        ∙ ap (λ (xs : List Logged). length (answers xs unit)) d.own ∙ from.count in
        let same : s.placed ≡ p = same_Some s.placed p (sym s.in_order ∙ ap (slice_get (placed_on (log_of w 0) unit)) turn ∙ at.1) in
        record {
          number = number;
          logged = may.new.logged;
          there = whole.0;
          event = may.program;
          is_event = may.new.event;
          knew = subst (λ (x : Placed). x.number < knows_engine may.new.logged) same s.was_known;
          in_order = s.in_order ∙ ap (λ x. Some x) same;
          chunk = s.chunk ∙ ap (λ (x : Placed). x.stripe.chunk) same;
          command = s.command ∙ ap (λ (x : Placed). Write x.stripe.at x.stripe.blocks) same;
          done = may.done;
        }
      where
        take_again : (m n : ℕ) (xs : List Logged) → m < n → take m (take n xs) ≡ take m xs
        take_again m n xs below = take-take m n xs (omega arith)

-- ---- a line that is opened

module _ (i : Image) (w : World) (mount : IsLegalMount i w) (o : Opening) (is_open : life_of (log_of w 0) o.line ≡ Opened o) where
  abbrev log : List Logged
  log = log_of w 0

  b : (x : Begun) × (begun (log_of w 0) ≡ Some x)
  b = began i w o.line o mount.legal is_open

  opened : Contains (openings (log_of w 0)) o
  opened = (life_is_known log o.line o (ap last_opening is_open)).0

  -- a block of a chunk, with the chunk as the unit's log leaves it
  written_in : (unit k : ℕ) (block : Block) → written_at (media i (log_of w)) o.line (unit, k) ≡ Some block
      → (c : Chunk) × (chunk_after i (log_of w) o.line unit (length (log_of w (suc unit))) ≡ Some c) × (slice_get c.blocks k ≡ Some block)
  written_in unit k block written =
      let c = split_then (λ (c : Chunk). slice_get c.blocks k) (chunk_in (media i (log_of w)) o.line unit) block written in
      (c.0, sym (chunk_of_media i (log_of w) o.line unit) ∙ c.1, c.2)

  of_life : (unit k : ℕ) (block : Block) → IsBlockOfLife (log_of w) o o.line unit (length (log_of w (suc unit))) k block
      → IsStripeBlock (log_of w 0) o unit k block
  of_life unit k block h =
      let among : IsAmong (placements log) h.placed =
      from_filter (λ (q : Placed). q.stripe.unit == unit) (placements log) h.placed
      (ended_stripes (take h.number (log_of w (suc unit))), h.its_stripe) in
      let passes : is_life o.number h.placed.life ≡ true = ap (is_life o.number) h.of_life ∙ same_number o.number in
      record {
        placed = h.placed;
        there = contained_among (stripes_of log o) h.placed (in_filter (λ (q : Placed). is_life o.number q.life) (placements log) h.placed among passes);
        on = unit_is log unit (ended_stripes (take h.number (log_of w (suc unit)))) h.placed h.its_stripe;
        index = h.index;
        place = h.place;
        is_block = h.is_block;
      }

  blocks : (unit k : ℕ) (block : Block) → written_at (media i (log_of w)) o.line (unit, k) ≡ Some block → IsStripeBlock (log_of w 0) o unit k block
  blocks unit k block written =
      let c = written_in unit k block written in
      of_life unit k block (blocks_of_life i w mount.accepted mount.fit mount.legal b.0 b.1 unit o.line o is_open (length (log_of w (suc unit))) k c.0 block
      (opening_within i w o.line (suc unit) o mount.legal is_open) (omega arith) c.1 c.2)

  -- the blocks of a stripe that has landed stand
  pub landed_written : (p : Placed) (index : ℕ) (block : Block) → Contains (stripes_of (log_of w 0) o) p → has_landed (log_of w 0) p ≡ true
      → slice_get p.stripe.blocks index ≡ Some block
      → written_at (media i (log_of w)) o.line (p.stripe.unit, p.stripe.at + index) ≡ Some block
  landed_written p index block there landed is =
      let unit : ℕ = p.stripe.unit in
      let its = stripe_is i w o p mount.legal opened there in
      let x : IsLandedProgram w unit p = landed_program i w mount.legal p its.0 landed in
      let d : IsDeed i w unit x.number x.logged = deed i w unit x.number x.logged mount.legal x.there in
      let h = since i w mount.legal b.0 b.1 unit o.line o is_open in
      let later : o.number < p.number = (opening_then log p.number p.stripe.line o its.2).2 in
      let knew : p.number < knows_engine x.logged = x.knew in
      let low : known h.logged (suc unit) ≤ x.number =
      (was_made i w (suc unit) x.number x.logged mount.legal x.there).knew 0 o.number h.logged (omega arith) h.there in
      let same : known h.logged (suc unit) ≡ slice_index o.knows (suc unit) = named i w mount.legal b.0 b.1 unit o.line o is_open in
      let placed = placed_of p its.0 in
      let chunk : x.event.chunk ≡ o.line = x.chunk ∙ (placed_in i w mount.legal unit placed.0 p placed.1).chunk ∙ its.3 in
      let event : d.event ≡ x.event = same_Some d.event x.event (sym d.is_event ∙ x.is_event) in
      let inside : x.number < length (log_of w (suc unit)) = get_below (log_of w (suc unit)) x.number x.logged x.there in
      let was : chunk_after i (log_of w) o.line unit x.number ≡ Some d.found =
      ap (λ y. chunk_after i (log_of w) y unit x.number) (sym chunk ∙ ap (λ (e : UnitEvent). e.chunk) (sym event)) ∙ d.there in
      let c = still_there i (log_of w) o.line unit x.number (length (log_of w (suc unit))) d.found was in
      ap (option_and_then (λ (y : Chunk). slice_get y.blocks (p.stripe.at + index)))
      (chunk_of_media i (log_of w) o.line unit ∙ c.1)
      ∙ done_stands i w mount.accepted mount.fit mount.legal b.0 b.1 unit o.line o is_open x.number (length (log_of w (suc unit)))
      p.stripe.at index x.logged x.event
      p.stripe.blocks block c.0 (omega arith) x.there x.is_event chunk x.command x.done inside (omega arith) c.1 is
    where
      placed_of : (p : Placed) → Contains (placements (log_of w 0)) p → IsAmong (placed_on (log_of w 0) p.stripe.unit) p
      placed_of p there = in_filter (λ (q : Placed). q.stripe.unit == p.stripe.unit) (placements log) p (among_contained (placements log) p there)
          (same_number p.stripe.unit)

  pub opened_line : IsLineOf i w o
  opened_line = record {
    opened = opened;
    blocks = blocks;
    done = λ p k index before block there landed written is. landed_written p index block there landed is;
    units = λ p there.
        let its = stripe_is i w o p mount.legal opened there in
        let later : o.number < p.number = (opening_then log p.number p.stripe.line o its.2).2 in
        let inside : p.number < length log = placed_within log p its.0 in
        units_of_life i w mount.legal b.0 b.1 o.line o is_open p.number (omega arith) (omega arith);
    width_is = width_of_life i w mount.legal b.0 b.1 o.line o is_open;
  }
