-- Where the latest entry of a sector below the front synced stands: in a stripe that has landed, in
-- a line whose life is that stripe's.
use Rattle.std.proofs.Common.{◌≡◌, ◌≢◌, ◌⊎◌, inl, inr, ℕ, ◌+◌, ◌<◌, ◌≤◌, ◌==◌, zero, suc, Bool, true, Some, Option, List, length, take, drop, refl, sym, subst, ap, ◌∙◌, arith, if◌then◌else◌}
use Rattle.std.specs.Prelude.{slice_get}
use Rattle.std.specs.List.{Contains}
use Rattle.std.specs.Option.{is_some, option_map_or}
use Rattle.std.proofs.lemmas.Bool.{cases_lt}
use Rattle.std.proofs.lemmas.Option.{none-some, same_Some, slice_get_within}
use Rattle.pblk_model.specs.declared.shape.Shape.{Shape}
use Rattle.pblk_model.specs.declared.chunk.Mark.{Mark}
use Rattle.pblk_model.specs.Accepted.{IsAccepted}
use Rattle.pblk_model.specs.Chunk.{Block}
use Rattle.pblk_model.specs.Contents.{IsNewer, counted, end}
use Rattle.pblk_model.specs.Image.{Image}
use Rattle.pblk_model.specs.Records.{Record, named}
use Rattle.pblk_world.specs.Events.{Free, Decides, Logged}
use Rattle.pblk_world.specs.World.{World, Logs, log_of}
use Rattle.pblk_world.specs.EngineLog.{Begun, begun, Opening, openings, LineLife, AsFound, Opened, Freed, last_opening, turned_by, life_of, is_life, Placed, placements, stripes_of, Taken, takes, has_landed, bears_position, holds_position}
use Rattle.pblk_world.specs.Fronts.{first_position, synced}
use Rattle.pblk_world.specs.Freeing.{IsLandedRecord, HasLandedIn, IsReplaced}
use Rattle.pblk_world.specs.Legal.{IsLegal}
use Rattle.pblk_world.specs.Lines.{found_image}
use Rattle.pblk_world.specs.Victims.{engine_prefix}
use Rattle.pblk_world.proofs.SyncedFront.{synced_is}
use Rattle.pblk_laws.proofs.MarkNames.{sector_exactly}
use Rattle.pblk_model.proofs.Lists.{IsAmong, among_contained}
use Rattle.pblk_model.proofs.Maps.{all_passed, any_member, from_filter, in_filter}
use Rattle.pblk_model.proofs.Options.{map_some}
use Rattle.pblk_model.proofs.Parts.{all_at, contained_among, get_taken, take_and_drop, take_next}
use Rattle.pblk_model.proofs.Tests.{and_both, other_number, same_number}
use Rattle.world_laws.proofs.Begun.{IsBegunWith, begun_with}
use Rattle.world_laws.proofs.FoundCounts.{counted_below}
use Rattle.world_laws.proofs.Entries.{IsEntryOrNone, entries_of_stripe, marks_bear}
use Rattle.world_laws.proofs.Freeing.{IsFreeable, freed_life_at}
use Rattle.world_laws.proofs.Fronts.{IsLandedAt, landed_at}
use Rattle.world_laws.proofs.LandedRecords.{HavePlaces, IsBlockAt, HasRecord, block_at_position, record_when_freed}
use Rattle.world_laws.proofs.Later.{landed_later, placed_later, placed_within}
use Rattle.world_laws.proofs.Lives.{IsFreedLife, freed_before_opened, life_stays, standing_or_freed}
use Rattle.world_laws.proofs.Positions.{position_of}
use Rattle.world_laws.proofs.StartRecords.{IsNthOpening, nth_opening, synced_by_now}
use Rattle.world_laws.proofs.Stripes.{life_of_stripe, opening_then, stripe_is}
use Rattle.world_laws.proofs.ToldImages.{found_then}

-- the latest entry of a sector below a position
pub record IsLatestBelow (log : List Logged) (lba position : ℕ) (t : Taken) : Type 0 where
  pub there : IsAmong (takes log) t
  pub of_it : t.mark.lba ≡ lba
  pub below : t.entry.position < position
  pub greatest : (u : Taken) → IsAmong (takes log) u → u.mark.lba ≡ lba → u.entry.position < position → u.entry.position ≤ t.entry.position

-- a stripe that has landed holds the position, in a line whose life is still the stripe's
pub record IsStandingAt (s : Shape) (log : List Logged) (position : ℕ) : Type 0 where
  pub placed : Placed
  pub there : Contains (placements log) placed
  pub landed : has_landed log placed ≡ true
  pub holds : holds_position s position placed ≡ true
  pub stands : life_of log placed.stripe.line ≡ placed.life

-- ---- entries by their positions

pub one_entry : (i : Image) (w : World) (t u : Taken) → IsLegal i w → IsAmong (takes (log_of w 0)) t → IsAmong (takes (log_of w 0)) u
    → t.entry.position ≡ u.entry.position → t ≡ u
one_entry i w t u legal a b positions =
    let first : t.entry.position ≡ first_position (log_of w 0) + a.0 = position_of i w a.0 t legal a.1 in
    let second : u.entry.position ≡ first_position (log_of w 0) + b.0 = position_of i w b.0 u legal b.1 in
    let same : a.0 ≡ b.0 = omega arith in
    same_Some t u (sym a.1 ∙ ap (slice_get (takes (log_of w 0))) same ∙ b.1)

-- the entry of a block that bears a record
pub record IsBlockOf (log : List Logged) (b : Block) (t : Taken) : Type 0 where
  pub there : IsAmong (takes log) t
  pub mark : t.mark ≡ b.mark
  pub position : t.entry.position ≡ b.mark.position

pub entry_of_block : (i : Image) (w : World) (p : Placed) (index : ℕ) (b : Block) (lba : Option ℕ) → IsAccepted i.shape → IsLegal i w
    → Contains (placements (log_of w 0)) p → slice_get p.stripe.blocks index ≡ Some b → named i.shape b.mark ≡ Some lba
    → (t : Taken) × IsBlockOf (log_of w 0) b t
entry_of_block i w p index b lba accepted legal there is names =
    go (all_at (IsEntryOrNone i.shape (log_of w 0)) p.stripe.blocks index b is (entries_of_stripe i w p accepted legal there))
  where
    go : IsEntryOrNone i.shape (log_of w 0) b → (t : Taken) × IsBlockOf (log_of w 0) b t
    go (inl none) = absurd (none-some lba (sym none ∙ names))
    go (inr entry) =
        let mark : entry.0.mark ≡ b.mark = ap (λ (x : Block). x.mark) entry.2 in
        let position : entry.0.mark.position ≡ entry.0.entry.position =
        all_at (λ (t : Taken). t.mark.position ≡ t.entry.position) (takes (log_of w 0)) entry.1.0 entry.0 entry.1.1 (marks_bear i w legal) in
        (entry.0, record { there = entry.1; mark = mark; position = sym position ∙ ap (λ (m : Mark). m.position) mark })

-- ---- where a stripe is, at a length of the log and now

stripe_now : (log : List Logged) (k : ℕ) (o : Opening) (p : Placed) → Contains (stripes_of (take k log) o) p
    → Contains (placements (take k log)) p × Contains (stripes_of log o) p
stripe_now log k o p there =
    let test : Placed → Bool = λ q. is_life o.number q.life in
    let among = among_contained (stripes_of (take k log) o) p there in
    let placed : Contains (placements (take k log)) p = contained_among (placements (take k log)) p (from_filter test (placements (take k log)) p among) in
    let passes : is_life o.number p.life ≡ true =
    all_at (λ q. test q ≡ true) (stripes_of (take k log) o) among.0 p among.1 (all_passed test (placements (take k log))) in
    let now : Contains (placements log) p =
    subst (λ (xs : List Logged). Contains (placements xs) p) (take_and_drop k log) (placed_later (take k log) (drop k log) p placed) in
    (placed, contained_among (stripes_of log o) p (in_filter test (placements log) p (among_contained (placements log) p now) passes))

-- a line that isn't freed by an event keeps its life
kept_life : (log : List Logged) (k line other : ℕ) (l : Logged) → slice_get log k ≡ Some l → l.event ≡ Decides (Free line) → other ≢ line
    → life_of (take (suc k) log) other ≡ life_of (take k log) other
kept_life log k line other l there frees apart =
    ap (λ (xs : List Logged). life_of xs other) (take_next log k l there)
    ∙ life_stays (take k log) l other (λ life. ap (turned_by other life (length (take k log)) l.knows) frees
    ∙ ap (λ b. if b then Freed (last_opening life) l.knows else life) (other_number line other (λ e. apart (sym e))))

pub not_older : (a b : Record) → IsNewer a b → a.position ≤ b.position
not_older a b (inl above) = omega arith
not_older a b (inr level) = let same : a.position ≡ b.position = level.0 in omega arith

-- ---- the stripe that stands

-- what is known of a stripe while another is looked for
record IsCandidate (i : Image) (w : World) (base position : ℕ) : Type 0 where
  o : Opening
  p : Placed
  opened : Contains (openings (log_of w 0)) o
  of_opening : Contains (stripes_of (log_of w 0) o) p
  landed : has_landed (log_of w 0) p ≡ true
  holds : holds_position i.shape position p ≡ true
  life : life_of (take base (log_of w 0)) o.line ≡ Opened o

-- ---- the entry of a record that landed, at a length of the log at which its line had that life

landed_names : (i : Image) (logs : Logs) (o : Opening) (r : Record) (lba : ℕ) (landed : IsLandedRecord i logs o r) → r.lba ≡ Some lba
    → (named i.shape landed.block.mark ≡ Some (Some lba)) × (landed.block.mark.position ≡ r.position)
landed_names i logs o r lba landed sector =
    let name = map_some
    (λ lba. record { line = o.line; seq = o.start.seq; at = r.at; position = landed.block.mark.position; lba = lba; sector = landed.block.sector })
    (named i.shape landed.block.mark) r landed.bears in
    (name.1 ∙ ap (λ x. Some x) (ap (λ (x : Record). x.lba) name.2 ∙ sector), ap (λ (x : Record). x.position) name.2)

pub record HasEntry (log : List Logged) (lba at : ℕ) : Type 0 where
  pub t : Taken
  pub there : IsAmong (takes log) t
  pub of_it : t.mark.lba ≡ lba
  pub position : t.entry.position ≡ at

pub landed_entry : (i : Image) (w : World) (k other lba : ℕ) (o : Opening) (r : Record) → IsAccepted i.shape → IsLegal i w
    → life_of (take k (log_of w 0)) other ≡ Opened o → r.lba ≡ Some lba → IsLandedRecord i (engine_prefix k (log_of w)) o r
    → HasEntry (log_of w 0) lba r.position
landed_entry i w k other lba o r accepted legal life sector landed =
    let log : List Logged = log_of w 0 in
    let now = stripe_now log k o landed.placed landed.of_opening in
    let placed : Contains (placements log) landed.placed = (stripe_is i w o landed.placed legal (opening_then log k other o life).0 now.1).0 in
    let names = landed_names i (engine_prefix k (log_of w)) o r lba landed sector in
    let entry = entry_of_block i w landed.placed landed.index landed.block (Some lba) accepted legal placed landed.is_block names.0 in record {
      t = entry.0;
      there = entry.1.there;
      of_it = ap (λ (m : Mark). m.lba) entry.1.mark ∙ ((sector_exactly i.shape landed.block.mark lba).0 names.0).0;
      position = entry.1.position ∙ names.1;
    }

-- where a stripe's line was freed, an entry of the sector stands elsewhere then, with the same
-- position
by_landed : (i : Image) (w : World) (lba k : ℕ) (t : Taken) (line other : ℕ) (l : Logged) (o : Opening) (r : Record) → IsAccepted i.shape → IsLegal i w
    → lba < i.shape.capacity → IsLatestBelow (log_of w 0) lba (synced i.shape (log_of w 0)) t
    → slice_get (log_of w 0) k ≡ Some l → l.event ≡ Decides (Free line) → other ≢ line → life_of (take k (log_of w 0)) other ≡ Opened o
    → t.entry.position ≤ r.position → r.lba ≡ Some lba → r.position < synced i.shape (take k (log_of w 0))
    → IsLandedRecord i (engine_prefix k (log_of w)) o r → IsCandidate i w (suc k) t.entry.position
by_landed i w lba k t line other l o r accepted legal small latest there frees apart life above sector below landed =
    let log : List Logged = log_of w 0 in
    let now = stripe_now log k o landed.placed landed.of_opening in
    let opened = opening_then log k other o life in
    let names = landed_names i (engine_prefix k (log_of w)) o r lba landed sector in
    let at : landed.block.mark.position ≡ r.position = names.1 in
    let entry : HasEntry log lba r.position = landed_entry i w k other lba o r accepted legal life sector landed in
    let its : entry.t.entry.position ≡ r.position = entry.position in
    let grown : synced i.shape (take k log) ≤ synced i.shape log = synced_by_now i.shape k log in
    let least : entry.t.entry.position ≤ t.entry.position = latest.greatest entry.t entry.there entry.of_it (omega arith) in
    let level : landed.block.mark.position ≡ t.entry.position = omega arith in record {
      o = o;
      p = landed.placed;
      opened = opened.0;
      of_opening = now.1;
      landed = subst (λ (xs : List Logged). has_landed xs landed.placed ≡ true) (take_and_drop k log)
          (landed_later (take k log) (drop k log) landed.placed (placed_within (take k log) landed.placed now.0) landed.landed);
      holds = any_member (bears_position i.shape t.entry.position) landed.placed.stripe.blocks landed.index landed.block landed.is_block
          (and_both (is_some (named i.shape landed.block.mark)) (landed.block.mark.position == t.entry.position) (ap is_some names.0)
          (ap (λ n. n == t.entry.position) level ∙ same_number t.entry.position));
      life = ap (life_of (take (suc k) log)) opened.1 ∙ kept_life log k line other l there frees apart ∙ life;
    }

found_low : (i : Image) (w : World) (k n : ℕ) (t : Taken) (r : Record) → IsLegal i w → slice_get (takes (log_of w 0)) n ≡ Some t
    → Contains (counted (found_image i (engine_prefix (suc k) (log_of w)))) r → (g : Begun) → begun (log_of w 0) ≡ Some g → r.position < t.entry.position
found_low i w k n t r legal at there g begins =
    let with_ : IsBegunWith i w g = begun_with i w g legal begins in
    let low : r.position < end (found_image i (log_of w)) =
    counted_below (found_image i (log_of w)) r (subst (λ (j : Image). Contains (counted j) r) (found_then i (log_of w) k) there) in
    let first : first_position (log_of w 0) ≡ end (found_image i (log_of w)) =
    ap (λ e. option_map_or (λ (b : Begun). b.beginning.first) e 0) begins ∙ with_.first in
    let position : t.entry.position ≡ first_position (log_of w 0) + n = position_of i w n t legal at in
    omega arith

by_life : (i : Image) (w : World) (lba : ℕ) (t : Taken) (base : ℕ) (c : IsCandidate i w base t.entry.position) (f : IsFreedLife (log_of w 0) c.o)
    → IsAccepted i.shape → IsLegal i w → lba < i.shape.capacity → IsLatestBelow (log_of w 0) lba (synced i.shape (log_of w 0)) t
    → (r : Record) (other : ℕ) → other ≢ c.o.line → t.entry.position ≤ r.position → r.lba ≡ Some lba → r.position < synced i.shape (take f.number (log_of w 0))
    → (life : LineLife) → life_of (take f.number (log_of w 0)) other ≡ life → HasLandedIn i (engine_prefix f.number (log_of w)) life other r
    → IsCandidate i w (suc f.number) t.entry.position
by_life i w lba t base c f accepted legal small latest r other apart above sector below (Opened o) life landed =
    by_landed i w lba f.number t c.o.line other f.logged o r accepted legal small latest f.there f.frees apart life above sector below landed
by_life i w lba t base c f accepted legal small latest r other apart above sector below (Freed was knows) life landed = absurd landed
by_life i w lba t base c f accepted legal small latest r other apart above sector below AsFound life landed = go f.number refl
  where
    go : (k : ℕ) → f.number ≡ k → IsCandidate i w (suc f.number) t.entry.position
    go zero e =
        let before : c.o.number < f.number = (opening_then (log_of w 0) f.number c.o.line c.o f.was).2 in
        absurd (omega arith)
    go (suc k) e =
        let at = among_contained (openings (log_of w 0)) c.o c.opened in
        let opening : IsNthOpening i w at.0 c.o = nth_opening i w at.0 c.o legal at.1 in
        let low : r.position < t.entry.position =
        found_low i w k latest.there.0 t r legal latest.there.1
        (subst (λ n. Contains (counted (found_image i (engine_prefix n (log_of w)))) r) e landed.counts) opening.g opening.is_begun in
        absurd (omega arith)

-- what stood in a line that was freed was replaced by the same position elsewhere
next_candidate : (i : Image) (w : World) (lba base : ℕ) (t : Taken) (c : IsCandidate i w base t.entry.position) (f : IsFreedLife (log_of w 0) c.o)
    → IsAccepted i.shape → IsLegal i w → HavePlaces i w → lba < i.shape.capacity → IsLatestBelow (log_of w 0) lba (synced i.shape (log_of w 0)) t
    → IsCandidate i w (suc f.number) t.entry.position
next_candidate i w lba base t c f accepted legal places small latest =
    let log : List Logged = log_of w 0 in
    let placed = stripe_is i w c.o c.p legal c.opened c.of_opening in
    let b : IsBlockAt i.shape c.p t.entry.position = block_at_position i.shape c.p t.entry.position c.holds in
    let has : HasRecord i w c.o f b.block b.lba = record_when_freed i w c.o c.p t.entry.position legal places f c.of_opening c.landed b in
    let entry = entry_of_block i w c.p b.index b.block b.lba accepted legal placed.0 b.is_block b.names in
    let it : entry.0 ≡ t = one_entry i w entry.0 t legal entry.1.there latest.there (entry.1.position ∙ b.at) in
    let of_it : b.block.mark.lba ≡ lba = ap (λ (m : Mark). m.lba) (sym entry.1.mark) ∙ ap (λ (u : Taken). u.mark.lba) it ∙ latest.of_it in
    let sector : b.lba ≡ Some lba = same_Some b.lba (Some lba) (sym b.names ∙ (sector_exactly i.shape b.block.mark lba).1 (of_it, small)) in
    let free : IsFreeable i (engine_prefix f.number (log_of w)) c.o.line = freed_life_at i w c.o legal f in
    let rep : IsReplaced i (engine_prefix f.number (log_of w)) c.o.line lba has.r =
    free.replaced has.r lba (subst (λ life. HasLandedIn i (engine_prefix f.number (log_of w)) life c.o.line has.r) (sym f.was) has.landed)
    (has.names ∙ sector) in
    let at : has.r.position ≡ t.entry.position = has.position ∙ b.at in
    let newer : has.r.position ≤ rep.by.position = not_older has.r rep.by rep.newer in
    by_life i w lba t base c f accepted legal small latest rep.by rep.other rep.is_other (omega arith) rep.sector rep.below_synced
    (life_of (take f.number log) rep.other) refl rep.landed

candidate_stands : (i : Image) (w : World) (base position : ℕ) (c : IsCandidate i w base position) → IsLegal i w → life_of (log_of w 0) c.o.line ≡ Opened c.o
    → IsStandingAt i.shape (log_of w 0) position
candidate_stands i w base position c legal stands =
    let placed = stripe_is i w c.o c.p legal c.opened c.of_opening in record {
      placed = c.p;
      there = placed.0;
      landed = c.landed;
      holds = c.holds;
      stands = ap (life_of (log_of w 0)) placed.3 ∙ stands ∙ sym placed.1;
    }

-- the line of a candidate wasn't freed before
freed_after : (i : Image) (w : World) (base position : ℕ) (c : IsCandidate i w base position) (f : IsFreedLife (log_of w 0) c.o) → base ≤ f.number
freed_after i w base position c f = go (cases_lt f.number base)
  where
    go : (f.number < base) ⊎ (base ≤ f.number) → base ≤ f.number
    go (inr after) = after
    go (inl before) =
        let opened : c.o.number < f.number = (opening_then (log_of w 0) f.number c.o.line c.o f.was).2 in
        let freed : f.number < c.o.number = freed_before_opened (take base (log_of w 0)) c.o.line c.o f.number f.logged c.life
        (get_taken base (log_of w 0) f.number before ∙ f.there) f.frees in
        absurd (omega arith)

-- the lines that were freed come to an end
one_stands : (i : Image) (w : World) (lba : ℕ) (t : Taken) → IsAccepted i.shape → IsLegal i w → HavePlaces i w → lba < i.shape.capacity
    → IsLatestBelow (log_of w 0) lba (synced i.shape (log_of w 0)) t → (fuel base : ℕ) → length (log_of w 0) ≤ base + fuel
    → IsCandidate i w base t.entry.position → IsStandingAt i.shape (log_of w 0) t.entry.position
one_stands i w lba t accepted legal places small latest zero base enough c = go (standing_or_freed i w c.o legal c.opened)
  where
    go : (life_of (log_of w 0) c.o.line ≡ Opened c.o) ⊎ IsFreedLife (log_of w 0) c.o → IsStandingAt i.shape (log_of w 0) t.entry.position
    go (inl stands) = candidate_stands i w base t.entry.position c legal stands
    go (inr f) =
        let inside : f.number < length (log_of w 0) = slice_get_within (log_of w 0) f.number f.logged f.there in
        let after : base ≤ f.number = freed_after i w base t.entry.position c f in
        absurd (omega arith)
one_stands i w lba t accepted legal places small latest (suc fuel) base enough c =
    go (standing_or_freed i w c.o legal c.opened) (one_stands i w lba t accepted legal places small latest fuel)
  where
    go : (life_of (log_of w 0) c.o.line ≡ Opened c.o) ⊎ IsFreedLife (log_of w 0) c.o
        → ((next : ℕ) → length (log_of w 0) ≤ next + fuel → IsCandidate i w next t.entry.position → IsStandingAt i.shape (log_of w 0) t.entry.position)
        → IsStandingAt i.shape (log_of w 0) t.entry.position
    go (inl stands) rest = candidate_stands i w base t.entry.position c legal stands
    go (inr f) rest =
        let after : base ≤ f.number = freed_after i w base t.entry.position c f in
        rest (suc f.number) (omega arith) (next_candidate i w lba base t c f accepted legal places small latest)

-- the latest entry of a sector below the front synced stands in a line whose life is its stripe's
pub latest_stands : (i : Image) (w : World) (lba : ℕ) (t : Taken) → IsAccepted i.shape → IsLegal i w → HavePlaces i w → lba < i.shape.capacity
    → IsLatestBelow (log_of w 0) lba (synced i.shape (log_of w 0)) t → IsStandingAt i.shape (log_of w 0) t.entry.position
latest_stands i w lba t accepted legal places small latest =
    let log : List Logged = log_of w 0 in
    let position : t.entry.position ≡ first_position log + latest.there.0 = position_of i w latest.there.0 t legal latest.there.1 in
    let at : IsLandedAt i.shape log t.entry.position =
    landed_at i.shape log t.entry.position (synced_is i.shape log t.entry.position (omega arith) latest.below) in
    let life = life_of_stripe i w at.placed legal at.there in
    let opened = opening_then log at.placed.number at.placed.stripe.line life.0 life.2 in
    let passes : is_life life.0.number at.placed.life ≡ true = ap (is_life life.0.number) life.1 ∙ same_number life.0.number in
    one_stands i w lba t accepted legal places small latest (length log) at.placed.number (omega arith) (record {
      o = life.0;
      p = at.placed;
      opened = opened.0;
      of_opening = contained_among (stripes_of log life.0) at.placed
          (in_filter (λ q. is_life life.0.number q.life) (placements log) at.placed (among_contained (placements log) at.placed at.there) passes);
      landed = at.landed;
      holds = at.holds;
      life = ap (life_of (take at.placed.number log)) opened.1 ∙ life.2;
    })
