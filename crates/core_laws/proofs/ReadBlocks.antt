-- The stripe and the block that a slot on the drive tells of.
use Rattle.std.proofs.Common.{◌≡◌, ℕ, ◌+◌, ◌&&◌, ◌||◌, Bool, true, false, cond, Some, None, Option, List, [], ◌∷◌, refl, sym, subst, ap, ◌∙◌}
use Rattle.std.specs.Prelude.{slice_get}
use Rattle.std.specs.List.{find, list_any, enumerate_from}
use Rattle.std.specs.Option.{option_map, option_map_or, unwrap_or}
use Rattle.pblk_model.specs.Chunk.{Block}
use Rattle.pblk_model.specs.Records.{Record}
use Rattle.pblk_model.specs.Image.{Image}
use Rattle.pblk_world.specs.World.{Logs}
use Rattle.pblk_world.specs.EngineLog.{Taken, Placed, placements, has_landed, bears_position}
use Rattle.pblk_world.specs.Space.{is_readable_in, gives_back}
use Rattle.world_laws.proofs.Placements.{number_of}
use Rattle.l2p_map.specs.declared.slot.Slot.TheVariants.{Cached, Media}
use Rattle.core_laws.specs.SlotOf.{address_in, readable_block, media_of, slot_of_entry, slot_of_winner}
use Rattle.pblk_model.proofs.Lists.{IsAmong}
use Rattle.pblk_model.proofs.Maps.{found_passes}
use Rattle.pblk_model.proofs.Tests.{both}

-- ---- lists

any_found : {X : Type 0} (f : X → Bool) (xs : List X) → list_any f xs ≡ true → (x : X) × (find f xs ≡ Some x)
any_found f [] e = absurd cc
any_found {X} f (x ∷ xs) e = go (f x) e (any_found f xs)
  where
    go : (b : Bool) → (b || list_any f xs) ≡ true → (list_any f xs ≡ true → (y : X) × (find f xs ≡ Some y)) → (y : X) × (cond b (Some x) (find f xs) ≡ Some y)
    go true e rest = (x, refl)
    go false e rest = rest e

-- ---- the block that is read

pub record IsReadIn (i : Image) (logs : Logs) (q : ℕ) (p : Placed) : Type 0 where
  pub among : IsAmong (placements (logs 0)) p
  pub landed : has_landed (logs 0) p ≡ true
  pub number : ℕ
  pub block : Block
  pub there : slice_get p.stripe.blocks number ≡ Some block
  pub bears : bears_position i.shape q block ≡ true
  pub readable : is_readable_in i.shape (logs 0) p.stripe.unit (p.stripe.at + number) p.life ≡ true
  pub first : readable_block i logs q p ≡ Some (p.stripe.at + number)

pub read_in : (i : Image) (logs : Logs) (q : ℕ) (p : Placed) → find (gives_back i.shape (logs 0) q) (placements (logs 0)) ≡ Some p → IsReadIn i logs q p
read_in i logs q p e =
    let test : ℕ × Block → Bool = λ b. bears_position i.shape q b.1 && is_readable_in i.shape (logs 0) p.stripe.unit b.0 p.life in
    let is = found_passes (gives_back i.shape (logs 0) q) (placements (logs 0)) p e in
    let facts = both (has_landed (logs 0) p) (list_any test (enumerate_from p.stripe.at p.stripe.blocks)) is.0 in
    let found = any_found test (enumerate_from p.stripe.at p.stripe.blocks) facts.1 in
    let at = found_passes test (enumerate_from p.stripe.at p.stripe.blocks) found.0 found.1 in
    let numbered = number_of p.stripe.at p.stripe.blocks at.1.0 found.0 at.1.1 in
    let passes = both (bears_position i.shape q found.0.1) (is_readable_in i.shape (logs 0) p.stripe.unit found.0.0 p.life) at.0 in
    record {
      among = is.1;
      landed = facts.0;
      number = at.1.0;
      block = found.0.1;
      there = numbered.1;
      bears = passes.0;
      readable = subst (λ n. is_readable_in i.shape (logs 0) p.stripe.unit n p.life ≡ true) numbered.0 passes.1;
      first = ap (option_map (λ (b : ℕ × Block). b.0)) found.1 ∙ ap (λ n. Some n) numbered.0;
    }

-- ---- the slot

-- of an entry that is on the drive
pub record IsEntryOnDrive (i : Image) (logs : Logs) (t : Taken) (line at q : ℕ) : Type 0 where
  pub of_position : t.entry.position ≡ q
  pub stripe : Placed
  pub read : IsReadIn i logs t.entry.position stripe
  pub of_line : stripe.stripe.line ≡ line
  pub address : address_in i logs stripe.life stripe (stripe.stripe.at + read.number) ≡ at

pub same_line : (l m a b p q : ℕ) → Media l a p ≡ Media m b q → l ≡ m
same_line l m a b p q e = cc

pub same_address : (l m a b p q : ℕ) → Media l a p ≡ Media m b q → a ≡ b
same_address l m a b p q e = cc

pub same_position : (l m a b p q : ℕ) → Media l a p ≡ Media m b q → p ≡ q
same_position l m a b p q e = cc

pub entry_on_drive : (i : Image) (logs : Logs) (t : Taken) (line at q : ℕ) → slot_of_entry i logs t.entry.position ≡ Media line at q
    → IsEntryOnDrive i logs t line at q
entry_on_drive i logs t line at q slot = by (find (gives_back i.shape (logs 0) t.entry.position) (placements (logs 0))) refl slot
  where
    by : (p : Option Placed) → find (gives_back i.shape (logs 0) t.entry.position) (placements (logs 0)) ≡ p
        → option_map_or (media_of i logs t.entry.position) p (Cached t.entry.position) ≡ Media line at q → IsEntryOnDrive i logs t line at q
    by None none e = absurd cc
    by (Some p) some e =
        let read : IsReadIn i logs t.entry.position p = read_in i logs t.entry.position p some in
        let found : ℕ = unwrap_or (readable_block i logs t.entry.position p) 0 in
        record {
          of_position = same_position p.stripe.line line (address_in i logs p.life p found) at t.entry.position q e;
          stripe = p;
          read = read;
          of_line = same_line p.stripe.line line (address_in i logs p.life p found) at t.entry.position q e;
          address = ap (λ n. address_in i logs p.life p (unwrap_or n 0)) (sym read.first)
              ∙ same_address p.stripe.line line (address_in i logs p.life p found) at t.entry.position q e;
        }

-- of a sector's winner
pub record IsWinnersSlot (winning : Record) (line at q : ℕ) : Type 0 where
  pub of_line : winning.line ≡ line
  pub of_address : winning.at ≡ at
  pub of_position : winning.position ≡ q

pub winner_on_drive : (o : Option Record) (line at q : ℕ) → slot_of_winner o ≡ Media line at q → (r : Record) × (o ≡ Some r) × IsWinnersSlot r line at q
winner_on_drive None line at q e = absurd cc
winner_on_drive (Some r) line at q e = (
  r,
  refl,
  record {
    of_line = same_line r.line line r.at at r.position q e;
    of_address = same_address r.line line r.at at r.position q e;
    of_position =
        same_position r.line line r.at at r.position q e;
  },
)
