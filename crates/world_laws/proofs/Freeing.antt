-- When a line was freed: what the engine had been told then allowed it, and each stripe of the line
-- was answered.
use Rattle.std.proofs.Common.{◌≡◌, inl, ℕ, ◌<◌, true, Some, List, take, sym, subst, ap, ◌∙◌}
use Rattle.std.specs.Prelude.{slice_get}
use Rattle.std.specs.List.{Contains}
use Rattle.pblk_model.specs.Image.{Image}
use Rattle.pblk_model.specs.StartRecord.{StartRecord}
use Rattle.pblk_model.specs.Records.{Record}
use Rattle.pblk_model.specs.Contents.{counted}
use Rattle.pblk_world.specs.Events.{Free, Decides, Logged}
use Rattle.pblk_world.specs.World.{World, Logs, log_of, prefixes}
use Rattle.pblk_world.specs.EngineLog.{Opening, LineLife, AsFound, Opened, Freed, life_of, Placed, stripes_of, has_landed, is_answered}
use Rattle.pblk_world.specs.Fronts.{synced}
use Rattle.pblk_world.specs.Freeing.{IsCountedIn, HasLandedIn, IsReplaced, IsAnswered, MayFree}
use Rattle.pblk_world.specs.Legal.{IsLegal}
use Rattle.pblk_world.specs.Lines.{place_of}
use Rattle.pblk_world.specs.Starts.{newest_start, seq_of}
use Rattle.pblk_world.specs.Victims.{engine_prefix}
use Rattle.world_laws.specs.SameTold.{AreSameTold}
use Rattle.world_laws.proofs.Lives.{IsFreedLife}
use Rattle.world_laws.proofs.Made.{IsMade, made}
use Rattle.world_laws.proofs.Openings.{allowed_by}
use Rattle.world_laws.proofs.Stripes.{placed_before_freed, stripe_of_prefix}
use Rattle.world_laws.proofs.ToldImages.{image_same, told_back}
use Rattle.world_laws.proofs.ToldSince.{told_when_made, told_up_to}
use Rattle.world_laws.proofs.ToldTables.{newest_told, seq_told}

-- what freeing a line asks of what the engine was told
pub record IsFreeable (i : Image) (logs : Logs) (line : ℕ) : Type 0 where
  pub seq : ℕ
  pub has_seq : seq_of i logs line ≡ Some seq
  pub answered : IsAnswered logs (life_of (logs 0) line)
  pub newest : StartRecord
  pub is_newest : newest_start i logs ≡ Some newest
  pub older : seq < newest.seq
  pub below_front : (r : Record) → HasLandedIn i logs (life_of (logs 0) line) line r → r.position < newest.front
  pub replaced : (r : Record) (lba : ℕ) → HasLandedIn i logs (life_of (logs 0) line) line r → r.lba ≡ Some lba
      → IsReplaced i logs line lba r

landed_counts : (i : Image) (logs : Logs) (life : LineLife) (line : ℕ) (r : Record) → HasLandedIn i logs life line r → IsCountedIn i logs life line r
landed_counts i logs AsFound line r h = h
landed_counts i logs (Opened o) line r h = inl h
landed_counts i logs (Freed was knows) line r h = h

pub freeable : (i : Image) (logs : Logs) (line : ℕ) → MayFree i logs line → IsFreeable i logs line
freeable i logs line may = record {
  seq = may.seq;
  has_seq = may.has_seq;
  answered = may.answered;
  newest = may.newest;
  is_newest = may.is_newest;
  older = may.older;
  below_front = λ r landed. may.below_front r (landed_counts i logs (life_of (logs 0) line) line r landed);
  replaced = λ r lba landed sector. may.replaced r lba (landed_counts i logs (life_of (logs 0) line) line r landed) sector;
}

-- ---- by what was told

landed_told : (i : Image) (a b : Logs) → AreSameTold i a b → (life : LineLife) (line : ℕ) (r : Record)
    → HasLandedIn i a life line r → HasLandedIn i b life line r
landed_told i a b h AsFound line r is = record { counts = subst (λ (f : Image). Contains (counted f) r) (sym h.found) is.counts; in_line = is.in_line }
landed_told i a b h (Opened o) line r is = record {
  placed = is.placed;
  of_opening = subst (λ (log : List Logged). Contains (stripes_of log o) is.placed) (sym h.own) is.of_opening;
  landed = ap (λ (log : List Logged). has_landed log is.placed) h.own ∙ is.landed;
  index = is.index;
  block = is.block;
  is_block = is.is_block;
  place = ap (λ (known : Image). place_of known o.line r.at) (image_same i a b h) ∙ is.place;
  bears = is.bears;
}
landed_told i a b h (Freed was knows) line r is = is

-- by the life that the line has
pub landed_in_told : (i : Image) (a b : Logs) → AreSameTold i a b → (line : ℕ) (r : Record) → HasLandedIn i a (life_of (a 0) line) line r
    → HasLandedIn i b (life_of (b 0) line) line r
landed_in_told i a b h line r is =
    subst (λ (log : List Logged). HasLandedIn i b (life_of log line) line r) (sym h.own) (landed_told i a b h (life_of (a 0) line) line r is)

replaced_told : (i : Image) (a b : Logs) → AreSameTold i a b → (line lba : ℕ) (r : Record) → IsReplaced i a line lba r → IsReplaced i b line lba r
replaced_told i a b h line lba r is = record {
  other = is.other;
  is_other = is.is_other;
  by = is.by;
  landed = landed_in_told i a b h is.other is.by is.landed;
  sector = is.sector;
  newer = is.newer;
  below_synced = subst (λ (log : List Logged). is.by.position < synced i.shape log) (sym h.own) is.below_synced;
}

answered_told : (i : Image) (a b : Logs) → AreSameTold i a b → (life : LineLife) → IsAnswered a life → IsAnswered b life
answered_told i a b h AsFound is = is
answered_told i a b h (Opened o) is = subst (λ (log : List Logged). (p : Placed) → Contains (stripes_of log o) p → is_answered log p ≡ true) (sym h.own) is
answered_told i a b h (Freed was knows) is = is

freeable_told : (i : Image) (a b : Logs) → AreSameTold i a b → (line : ℕ) → IsFreeable i a line → IsFreeable i b line
freeable_told i a b h line is = record {
  seq = is.seq;
  has_seq = seq_told i a b h line ∙ is.has_seq;
  answered = subst (λ (log : List Logged). IsAnswered b (life_of log line)) (sym h.own) (answered_told i a b h (life_of (a 0) line) is.answered);
  newest = is.newest;
  is_newest = newest_told i a b h ∙ is.is_newest;
  older = is.older;
  below_front = λ r landed. is.below_front r (landed_in_told i b a (told_back i a b h) line r landed);
  replaced = λ r lba landed sector.
      replaced_told i a b h line lba r (is.replaced r lba (landed_in_told i b a (told_back i a b h) line r landed) sector);
}

-- ---- when it was freed

pub freed_at : (i : Image) (w : World) (number line : ℕ) (l : Logged) → IsLegal i w → slice_get (log_of w 0) number ≡ Some l → l.event ≡ Decides (Free line)
    → IsFreeable i (engine_prefix number (log_of w)) line
freed_at i w number line l legal there is =
    let h : IsMade i w 0 number l = made i w 0 number l legal there in
    let may = allowed_by i w number l (Decides (Free line)) h is in
    freeable_told i (log_of h.before) (engine_prefix number (log_of w)) (told_up_to i w number l h) line
    (freeable_told i (prefixes l (log_of h.before)) (log_of h.before)
    (told_back i (log_of h.before) (prefixes l (log_of h.before)) (told_when_made i w number l h)) line
    (freeable i (prefixes l (log_of h.before)) line may.2))

pub freed_life_at : (i : Image) (w : World) (o : Opening) → IsLegal i w → (f : IsFreedLife (log_of w 0) o)
    → IsFreeable i (engine_prefix f.number (log_of w)) o.line
freed_life_at i w o legal f = freed_at i w f.number o.line f.logged legal f.there f.frees

-- each stripe of a life that was freed was answered then
pub answered_when_freed : (i : Image) (w : World) (o : Opening) (p : Placed) → IsLegal i w → (f : IsFreedLife (log_of w 0) o)
    → Contains (stripes_of (log_of w 0) o) p → is_answered (take f.number (log_of w 0)) p ≡ true
answered_when_freed i w o p legal f there =
    let answered : IsAnswered (engine_prefix f.number (log_of w)) (Opened o) =
    subst (IsAnswered (engine_prefix f.number (log_of w))) f.was (freed_life_at i w o legal f).answered in
    answered p (stripe_of_prefix (log_of w 0) f.number o p there (placed_before_freed i w o p f legal there))
