-- What an event leaves of the slots in the map.
use Rattle.std.proofs.Common.{◌≡◌, ℕ, ◌+◌, ◌*◌, ◌-◌, ◌<◌, ◌≤◌, ◌==◌, ◌&&◌, false, Some, None, Option, List, [], ◌∷◌, ◌++◌, length, refl, ap, ◌∙◌}
use Rattle.std.specs.List.{AllByRecursion, filter, find, enumerate_from, last_or}
use Rattle.std.specs.Option.{option_map, option_map_or, unwrap_or}
use Rattle.pblk_model.specs.Chunk.{Block}
use Rattle.pblk_model.specs.Contents.{counted, winner}
use Rattle.pblk_model.specs.Image.{Image}
use Rattle.pblk_world.specs.Events.{EngineEvent, Decides, Logged}
use Rattle.pblk_world.specs.World.{Logs}
use Rattle.pblk_world.specs.EngineLog.{Begun, begun_by, LineLife, AsFound, Opened, Freed, is_life, Taken, takes, Placed, placements, bears_position}
use Rattle.pblk_world.specs.Fronts.{first_position, last_take}
use Rattle.pblk_world.specs.Space.{is_readable_in, gives_back}
use Rattle.l2p_map.specs.declared.slot.Slot.TheVariants.{Cached, Media}
use Rattle.stripe_placer.specs.OpenLines.{OpenLine}
use Rattle.core_laws.specs.Stepping.{after}
use Rattle.core_laws.specs.PlacerOf.{number_of}
use Rattle.core_laws.specs.SlotOf.{address_in, readable_block, media_of, slot_of_entry, slot_of_winner, slot_by, slot_of}
use Rattle.core_laws.proofs.Steady.{as_opened_same}
use Rattle.core_laws.proofs.Opening.{placed_before}
use Rattle.core_laws.proofs.StripesByPlace.{find_all}
use Rattle.core_laws.proofs.TakenSlots.{find_same, is_before}
use Rattle.core_laws.proofs.Untouched.{AreKept, find_kept, readable_kept, all_give_kept, none_gives}
use Rattle.core_laws.proofs.SteppingLemmas.{found_kept}
use Rattle.pblk_world.proofs.EngineLogLemmas.{begun_kept}

-- ---- the beginning

pub first_kept : (log : List Logged) (e : EngineEvent) (knows : List ℕ) → begun_by knows (Decides e) ≡ None
    → first_position (log ++ record { event = Decides e; knows = knows } ∷ []) ≡ first_position log
first_kept log e knows none = ap (λ (b : Option Begun). option_map_or (λ (b : Begun). b.beginning.first) b 0) (begun_kept log e knows none)

-- ---- addresses

-- the line was opened by one of so many first events
abbrev pub IsBefore : ℕ → LineLife → Type 0
IsBefore n AsFound = Unit {0}
IsBefore n (Opened o) = o.number < n
IsBefore n (Freed past k) = Unit {0}

before_by : (n : ℕ) (life : LineLife) → ((m : ℕ) → n ≤ m → is_life m life ≡ false) → IsBefore n life
before_by n AsFound none = tt
before_by n (Opened o) none = is_before o.number n none
before_by n (Freed past k) none = tt

pub lives_before : (log : List Logged) → AllByRecursion (λ (p : Placed). IsBefore (length log) p.life) (placements log)
lives_before log = each (placements log) (λ n within. placed_before log n within)
  where
    each : (ps : List Placed) → ((n : ℕ) → length log ≤ n → AllByRecursion (λ p. is_life n p.life ≡ false) ps)
        → AllByRecursion (λ (p : Placed). IsBefore (length log) p.life) ps
    each [] all = tt
    each (p ∷ ps) all = (before_by (length log) p.life (λ n within. (all n within).0), each ps (λ n within. (all n within).1))

pub address_kept : (i : Image) (logs : Logs) (e : EngineEvent) (knows : List ℕ) (life : LineLife) (p : Placed) (block : ℕ) → IsBefore (length (logs 0)) life
    → address_in i (after logs e knows) life p block ≡ address_in i logs life p block
address_kept i logs e knows AsFound p block before = refl
address_kept i logs e knows (Opened o) p block before =
    ap (λ (l : OpenLine). number_of i.shape l p.stripe * i.shape.ws_opt + (block - p.stripe.at)) (as_opened_same i logs e knows o before)
address_kept i logs e knows (Freed past k) p block before = refl

pub media_by : (i : Image) (logs : Logs) (e : EngineEvent) (knows : List ℕ) (position : ℕ) (p : Placed) → IsBefore (length (logs 0)) p.life
    → readable_block i (after logs e knows) position p ≡ readable_block i logs position p
    → media_of i (after logs e knows) position p ≡ media_of i logs position p
media_by i logs e knows position p before same = ap (λ a. Media p.stripe.line a position)
    (ap (λ b. address_in i (after logs e knows) p.life p (unwrap_or b 0)) same
    ∙ address_kept i logs e knows p.life p (unwrap_or (readable_block i logs position p) 0) before)

-- ---- slots, where no stripe changes

block_kept : (i : Image) (logs : Logs) (e : EngineEvent) (knows : List ℕ) (position : ℕ) (p : Placed) → AreKept (logs 0) (after logs e knows 0)
    → readable_block i (after logs e knows) position p ≡ readable_block i logs position p
block_kept i logs e knows position p kept =
    ap (option_map (λ (b : ℕ × Block). b.0))
    (find_same (λ (b : ℕ × Block). bears_position i.shape position b.1 && is_readable_in i.shape (after logs e knows 0) p.stripe.unit b.0 p.life)
    (λ (b : ℕ × Block). bears_position i.shape position b.1 && is_readable_in i.shape (logs 0) p.stripe.unit b.0 p.life)
    (λ b. ap (λ c. bears_position i.shape position b.1 && c) (readable_kept i.shape (logs 0) (after logs e knows 0) kept p.stripe.unit b.0 p.life))
    (enumerate_from p.stripe.at p.stripe.blocks))

entry_kept : (i : Image) (logs : Logs) (e : EngineEvent) (knows : List ℕ) (position : ℕ) → AreKept (logs 0) (after logs e knows 0)
    → slot_of_entry i (after logs e knows) position ≡ slot_of_entry i logs position
entry_kept i logs e knows position kept =
    let new : Logs = after logs e knows in
    ap (λ (o : Option Placed). option_map_or (media_of i new position) o (Cached position))
    (ap (find (gives_back i.shape (new 0) position)) kept.stripes
    ∙ find_kept (gives_back i.shape (new 0) position) (gives_back i.shape (logs 0) position) (placements (logs 0)) kept.more
    (all_give_kept i.shape (logs 0) (new 0) kept position) (none_gives i.shape (logs 0) (new 0) kept position))
    ∙ go (find (gives_back i.shape (logs 0) position) (placements (logs 0))) refl
  where
    go : (o : Option Placed) → find (gives_back i.shape (logs 0) position) (placements (logs 0)) ≡ o
        → option_map_or (media_of i (after logs e knows) position) o (Cached position) ≡ option_map_or (media_of i logs position) o (Cached position)
    go None f = refl
    go (Some p) f = media_by i logs e knows position p
        (find_all (λ (p : Placed). IsBefore (length (logs 0)) p.life) (gives_back i.shape (logs 0) position) (placements (logs 0)) p f (lives_before (logs 0)))
        (block_kept i logs e knows position p kept)

slot_by_kept : (i : Image) (logs : Logs) (e : EngineEvent) (knows : List ℕ) (lba : ℕ) (t : Option Taken) → AreKept (logs 0) (after logs e knows 0)
    → begun_by knows (Decides e) ≡ None → slot_by i (after logs e knows) lba t ≡ slot_by i logs lba t
slot_by_kept i logs e knows lba None kept none = ap (λ f. slot_of_winner (winner (counted f) lba)) (found_kept i logs e knows none)
slot_by_kept i logs e knows lba (Some t) kept none = entry_kept i logs e knows t.entry.position kept

pub slot_kept : (i : Image) (logs : Logs) (e : EngineEvent) (knows : List ℕ) (lba : ℕ) → AreKept (logs 0) (after logs e knows 0)
    → takes (after logs e knows 0) ≡ takes (logs 0) → begun_by knows (Decides e) ≡ None
    → slot_of i (after logs e knows) lba ≡ slot_of i logs lba
slot_kept i logs e knows lba kept same none =
    ap (λ (ts : List Taken). slot_by i (after logs e knows) lba (last_or None (filter (λ (t : Taken). t.mark.lba == lba) ts))) same
    ∙ slot_by_kept i logs e knows lba (last_take (logs 0) lba) kept none
