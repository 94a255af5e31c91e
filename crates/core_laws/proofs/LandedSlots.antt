-- A stripe has landed: what the map holds.
use Rattle.std.proofs.Common.{◌≡◌, ◌⊎◌, ℕ, ◌+◌, ◌*◌, ◌-◌, ◌/◌, ◌%◌, ◌<◌, ◌≤◌, ◌==◌, ◌&&◌, ◌||◌, nat_lt, Bool, true, false, Some, None, Option, List, length, refl, sym, subst, ap, ap₂, ◌∙◌, arith}
use Rattle.std.specs.Prelude.{slice_get}
use Rattle.std.specs.List.{filter, find, list_any, flat_map, enumerate_from, last_or}
use Rattle.std.specs.Option.{option_map, option_map_or, unwrap_or}
use Rattle.std.proofs.lemmas.Bool.{eqb-true}
use Rattle.std.proofs.lemmas.Nat.{div-mul-add, mod-mul-add}
use Rattle.std.proofs.lemmas.Option.{same_Some}
use Rattle.pblk_model.specs.declared.shape.Shape.{Shape}
use Rattle.pblk_model.specs.Chunk.{Block}
use Rattle.pblk_model.specs.Contents.{counted, winner}
use Rattle.pblk_model.specs.Image.{Image}
use Rattle.pblk_model.specs.Records.{Record}
use Rattle.pblk_world.specs.Events.{EngineEvent, Decides, Logged}
use Rattle.pblk_world.specs.World.{Logs}
use Rattle.pblk_world.specs.EngineLog.{begun_by, LineLife, AsFound, Opened, Freed, is_life, Opening, Taken, takes, Placed, placements, stripes_on, answer_of, has_landed, was_lost, bears_position, holds_position}
use Rattle.pblk_world.specs.Fronts.{last_take}
use Rattle.pblk_world.specs.Lines.{found_image}
use Rattle.pblk_world.specs.Space.{landed_blocks, is_closed_in, is_readable_in, gives_back}
use Rattle.l2p_map.specs.declared.slot.Slot.{Slot}
use Rattle.l2p_map.specs.declared.slot.Slot.TheVariants.{Cached, Media}
use Rattle.stripe_placer.specs.OpenLines.{numbers}
use Rattle.core_laws.specs.Stepping.{after}
use Rattle.core_laws.specs.OpenedLines.{as_opened, is_stripe_at}
use Rattle.core_laws.specs.PlacerOf.{number_of}
use Rattle.core_laws.specs.SlotOf.{address_in, readable_block, media_of, slot_of_entry, slot_of_winner, slot_by, slot_of}
use Rattle.core_laws.specs.WindowOf.{is_given_back}
use Rattle.core_laws.proofs.OpeningNumbers.{opens_at}
use Rattle.core_laws.proofs.TakenSlots.{find_same}
use Rattle.core_laws.specs.ChunkBlocks.{chunk_blocks, IsInRow}
use Rattle.core_laws.specs.ReadSlots.{block_read, address_of_block, read_slot}
use Rattle.core_laws.proofs.LandedBlocks.{lost_by, on_new}
use Rattle.core_laws.proofs.LandedStripe.{IsOneMore}
use Rattle.core_laws.proofs.Growing.{given_holds}
use Rattle.core_laws.proofs.KeptSlots.{IsBefore, lives_before, address_kept, media_by}
use Rattle.core_laws.proofs.GivenBack.{IsLandedNow, of_unit_landed, readable_life, gives_of_chunk}
use Rattle.core_laws.proofs.GivenNow.{of_chunk, gives_other, gives_still, readable_own, readable_other, chunk_life, chunk_unit, IsOfChunk, chunk_members, given_now}
use Rattle.core_laws.proofs.HeldOnce.{HeldOnce}
use Rattle.core_laws.proofs.PlacedAnew.{landed_not_lost}
use Rattle.core_laws.proofs.StripeLines.{placed_lines, own_opening, IsOpenedFor}
use Rattle.core_laws.proofs.FindingInLists.{any_none, find_unique, first_stays, found_within, found_in_stripe}
use Rattle.core_laws.proofs.PlacedLines.{found_any}
use Rattle.core_laws.proofs.SteppingLemmas.{found_kept}
use Rattle.pblk_model.proofs.Lists.{IsAmong, all_imply, among_all}
use Rattle.pblk_model.proofs.Maps.{found_none, found_passes}
use Rattle.pblk_model.proofs.Parts.{all_at}
use Rattle.pblk_model.proofs.Tests.{first_of, lt_true, second_of}

-- all that is used
pub record IsLanding (i : Image) (logs : Logs) (e : EngineEvent) (knows : List ℕ) (p : Placed) (o : Opening) : Type 0 where
  pub now : IsLandedNow i.shape (logs 0) (after logs e knows 0) p o
  pub once : HeldOnce i.shape (logs 0)
  pub takes : takes (after logs e knows 0) ≡ takes (logs 0)
  pub begins : begun_by knows (Decides e) ≡ None

-- ---- the stripe that gives a position back

-- it stays the one
gives_now : (s : Shape) (log new : List Logged) (p : Placed) (o : Opening) (q : ℕ) (r : Placed) → IsLandedNow s log new p o → IsAmong (placements log) r
    → gives_back s log q r ≡ true → gives_back s new q r ≡ true
gives_now s log new p o q r is among e = go (of_chunk p o r) refl
  where
    go : (b : Bool) → of_chunk p o r ≡ b → gives_back s new q r ≡ true
    go true f = gives_still s log new p o q r is among f e
    go false f = gives_other s log new p o q r is
        (all_at (λ (r : Placed). (r ≡ p) ⊎ (answer_of new r ≡ answer_of log r)) (placements log) among.0 r among.1 is.one_more.others) f ∙ e

holder_found : (s : Shape) (log new : List Logged) (p : Placed) (q : ℕ) (r : Placed) → IsOneMore log new p → HeldOnce s log → IsAmong (placements log) r
    → gives_back s new q r ≡ true → find (gives_back s new q) (placements new) ≡ Some r
holder_found s log new p q r is once among e =
    ap (find (gives_back s new q)) is.stripes
    ∙ find_unique (gives_back s new q) (placements log) among.0 r among.1 e
    (all_imply (IsAmong (placements log)) (λ (t : Placed). gives_back s new q t ≡ true → t ≡ r)
    (λ t there f. once q t r there among
    (second_of (has_landed new t) (holds_position s q t) (given_holds s new q t f))
    (second_of (has_landed new r) (holds_position s q r) (given_holds s new q r e)) (kept t there f) (kept r among e)) (placements log)
    (among_all (placements log)))
  where
    kept : (t : Placed) → IsAmong (placements log) t → gives_back s new q t ≡ true → was_lost log t ≡ false
    kept t there f =
        sym (lost_by log new p t is
        (all_at (λ (r : Placed). (r ≡ p) ⊎ (answer_of new r ≡ answer_of log r)) (placements log) there.0 t there.1 is.others))
        ∙ landed_not_lost new t (first_of (has_landed new t) (holds_position s q t) (given_holds s new q t f))

-- ---- a sector that was on the drive

pub readable_down : (s : Shape) (log : List Logged) (unit a b : ℕ) (life : LineLife) → a ≤ b → is_readable_in s log unit b life ≡ true
    → is_readable_in s log unit a life ≡ true
readable_down s log unit a b AsFound below e = absurd cc
readable_down s log unit a b (Opened o) below e = go (is_closed_in s log o unit) (nat_lt (b + s.mw_cunits) (landed_blocks s log o unit)) refl e
  where
    go : (c d : Bool) → nat_lt (b + s.mw_cunits) (landed_blocks s log o unit) ≡ d → (c || d) ≡ true
        → (c || nat_lt (a + s.mw_cunits) (landed_blocks s log o unit)) ≡ true
    go true d f g = refl
    go false true f g = let inside : b + s.mw_cunits < landed_blocks s log o unit =
        grind arith in lt_true (a + s.mw_cunits) (landed_blocks s log o unit) (omega arith)
    go false false f g = absurd cc
readable_down s log unit a b (Freed past k) below e = absurd cc

readable_more : (s : Shape) (log new : List Logged) (p : Placed) (o : Opening) (r : Placed) (block : ℕ) → IsLandedNow s log new p o
    → is_readable_in s log r.stripe.unit block r.life ≡ true → is_readable_in s new r.stripe.unit block r.life ≡ true
readable_more s log new p o r block is e = go (of_chunk p o r) refl
  where
    go : (b : Bool) → of_chunk p o r ≡ b → is_readable_in s new r.stripe.unit block r.life ≡ true
    go true f = readable_own s log new p o r block is f e
    go false f = readable_other s log new p o r block is f ∙ e

block_stays : (i : Image) (logs : Logs) (e : EngineEvent) (knows : List ℕ) (p : Placed) (o : Opening) (q : ℕ) (r : Placed)
    → IsLandedNow i.shape (logs 0) (after logs e knows 0) p o → gives_back i.shape (logs 0) q r ≡ true
    → readable_block i (after logs e knows) q r ≡ readable_block i logs q r
block_stays i logs e knows p o q r is gives =
    ap (option_map (λ (b : ℕ × Block). b.0))
    (first_stays (bears_position i.shape q) (λ b. is_readable_in i.shape (logs 0) r.stripe.unit b r.life)
    (λ b. is_readable_in i.shape (after logs e knows 0) r.stripe.unit b r.life) r.stripe.at r.stripe.blocks
    (λ a b below f. readable_down i.shape (logs 0) r.stripe.unit a b r.life below f)
    (λ b f. readable_more i.shape (logs 0) (after logs e knows 0) p o r b is f)
    (second_of (has_landed (logs 0) r)
    (list_any (λ (b : ℕ × Block). bears_position i.shape q b.1 && is_readable_in i.shape (logs 0) r.stripe.unit b.0 r.life)
    (enumerate_from r.stripe.at r.stripe.blocks)) gives))

media_stays : (i : Image) (logs : Logs) (e : EngineEvent) (knows : List ℕ) (p : Placed) (o : Opening) (q : ℕ) (r : Placed) → IsLanding i logs e knows p o
    → find (gives_back i.shape (logs 0) q) (placements (logs 0)) ≡ Some r
    → slot_of_entry i (after logs e knows) q ≡ media_of i logs q r
media_stays i logs e knows p o q r is found =
    let at : (gives_back i.shape (logs 0) q r ≡ true) × IsAmong (placements (logs 0)) r =
    found_passes (gives_back i.shape (logs 0) q) (placements (logs 0)) r found in
    ap (λ (x : Option Placed). option_map_or (media_of i (after logs e knows) q) x (Cached q))
    (holder_found i.shape (logs 0) (after logs e knows 0) p q r is.now.one_more is.once at.1
    (gives_now i.shape (logs 0) (after logs e knows 0) p o q r is.now at.1 at.0))
    ∙ media_by i logs e knows q r (all_at (λ (r : Placed). IsBefore (length (logs 0)) r.life) (placements (logs 0)) at.1.0 r at.1.1 (lives_before (logs 0)))
    (block_stays i logs e knows p o q r is.now at.0)

-- ---- a sector that leaves the buffer

in_stripe : (w k at b : ℕ) → at ≡ k * w → at ≤ b → b < at + w → (b / w * w ≡ at) × (b % w ≡ b - at)
in_stripe w k at b is low high =
    let d : ℕ = b - at in
    let inside : d < w = omega arith in
    let sum : k * w + d ≡ b = omega arith in
    let quotient : b / w ≡ k = ap (λ n. n / w) (sym sum) ∙ div-mul-add k w d inside in
    let rest : b % w ≡ d = ap (λ n. n % w) (sym sum) ∙ mod-mul-add k w d inside in
    (ap (λ n. n * w) quotient ∙ sym is, rest)

-- a stripe's line is that of its opening, and so is what is told of it
own_line : (log : List Logged) (line : ℕ) (o other : Opening) → other.number ≡ o.number → (opens_at log o.number ≡ Some o.line)
    → IsOpenedFor log line (Opened other) → (o.line ≡ line) × (other.line ≡ o.line)
own_line log line o other number opens its =
    let is = own_opening log line other its in
    let same : other.line ≡ o.line = same_Some other.line o.line (sym is.0 ∙ ap (opens_at log) number ∙ opens) in
    (sym same ∙ is.1, same)

pub address_by : (i : Image) (logs : Logs) (o : Opening) (life : LineLife) (r : Placed) (k block : ℕ) → is_life o.number life ≡ true
    → opens_at (logs 0) o.number ≡ Some o.line → IsOpenedFor (logs 0) r.stripe.line life
    → r.stripe.at ≡ k * i.shape.ws_opt → r.stripe.at ≤ block → block < r.stripe.at + i.shape.ws_opt
    → (o.line ≡ r.stripe.line) × (address_in i logs life r block ≡ address_of_block i logs o r.stripe.unit block)
address_by i logs o AsFound r k block its opens line at low high = absurd cc
address_by i logs o (Opened other) r k block its opens line at low high =
    let number : other.number ≡ o.number = eqb-true other.number o.number its in
    let lines = own_line (logs 0) r.stripe.line o other number opens line in
    let parts = in_stripe i.shape.ws_opt k r.stripe.at block at low high in (
      lines.0,
      ap₂ (λ n m. number_of i.shape (as_opened i logs (record { number = n; line = m; start = o.start; knows = o.knows })) r.stripe * i.shape.ws_opt +
          (block - r.stripe.at)) number lines.1
          ∙ ap₂ (λ a b. unwrap_or (find (is_stripe_at i.shape (as_opened i logs o) r.stripe.unit a) (numbers (as_opened i logs o))) 0 * i.shape.ws_opt + b)
          (sym parts.0) (sym parts.1),
    )
address_by i logs o (Freed past n) r k block its opens line at low high = absurd cc

its_line : (i : Image) (logs : Logs) (e : EngineEvent) (knows : List ℕ) (p : Placed) (o : Opening) → IsLanding i logs e knows p o
    → opens_at (logs 0) o.number ≡ Some o.line
its_line i logs e knows p o is =
    let among : IsAmong (placements (logs 0)) p = is.now.one_more.among in
    let its : IsOpenedFor (logs 0) p.stripe.line p.life =
    all_at (λ (r : Placed). IsOpenedFor (logs 0) r.stripe.line r.life) (placements (logs 0)) among.0 p among.1 (placed_lines (logs 0)) in
    (own_opening (logs 0) p.stripe.line o (subst (IsOpenedFor (logs 0) p.stripe.line) is.now.life its)).0

-- the blocks of its chunk that can be read now
abbrev reads_now : Image → List Logged → Placed → Opening → ℕ → ℕ × Block → Bool
reads_now i new p o q b = bears_position i.shape q b.1 && is_readable_in i.shape new p.stripe.unit b.0 (Opened o)

media_is : (i : Image) (logs : Logs) (q : ℕ) (r : Placed) (x : Option Placed) → x ≡ Some r
    → option_map_or (media_of i logs q) x (Cached q) ≡ media_of i logs q r
media_is i logs q r x e = ap (λ (y : Option Placed). option_map_or (media_of i logs q) y (Cached q)) e

block_is : (i : Image) (logs : Logs) (q : ℕ) (r : Placed) (block : ℕ) → readable_block i logs q r ≡ Some block
    → media_of i logs q r ≡ Media r.stripe.line (address_in i logs r.life r block) q
block_is i logs q r block e = ap (λ (x : Option ℕ). Media r.stripe.line (address_in i logs r.life r (unwrap_or x 0)) q) e

pub moves : (i : Image) (logs : Logs) (e : EngineEvent) (knows : List ℕ) (o : Opening) (unit q : ℕ) (r : Placed) (block : ℕ)
    → find (gives_back i.shape (after logs e knows 0) q) (placements (after logs e knows 0)) ≡ Some r
    → readable_block i (after logs e knows) q r ≡ Some block → IsBefore (length (logs 0)) r.life → o.line ≡ r.stripe.line
    → address_in i logs r.life r block ≡ address_of_block i logs o unit block
    → slot_of_entry i (after logs e knows) q ≡ Media o.line (address_of_block i logs o unit block) q
moves i logs e knows o unit q r block found read before line address =
    media_is i (after logs e knows) q r (find (gives_back i.shape (after logs e knows 0) q) (placements (after logs e knows 0))) found
    ∙ block_is i (after logs e knows) q r block read
    ∙ ap₂ (λ l a. Media l a q) (sym line) (address_kept i logs e knows r.life r block before ∙ address)

leaves_by : (i : Image) (logs : Logs) (e : EngineEvent) (knows : List ℕ) (p : Placed) (o : Opening) (q : ℕ) (b : ℕ × Block) (k : ℕ) (r : Placed)
    → IsLanding i logs e knows p o
    → slice_get (stripes_on (logs 0) o p.stripe.unit) k ≡ Some r
    → find (reads_now i (after logs e knows 0) p o q) (enumerate_from r.stripe.at r.stripe.blocks) ≡ Some b
    → slot_of_entry i (after logs e knows) q ≡ Media o.line (address_of_block i logs o p.stripe.unit b.0) q
leaves_by i logs e knows p o q b k r is at found =
    let s : Shape = i.shape in
    let log : List Logged = logs 0 in
    let new : List Logged = after logs e knows 0 in
    let row : IsInRow s k r = is.now.rows k r at in
    let size : length r.stripe.blocks ≡ s.ws_opt = row.blocks in
    let of : IsOfChunk log p o r = all_at (IsOfChunk log p o) (stripes_on log o p.stripe.unit) k r at (chunk_members log p o) in
    let its : r.stripe.unit ≡ p.stripe.unit = chunk_unit p o r of.of in
    let life : is_life o.number r.life ≡ true = chunk_life p o r of.of in
    let gives : gives_back s new q r ≡ true =
    gives_of_chunk s new o p.stripe.unit q r (of_unit_landed s log new p o is.now r of.among its life) its life
    ∙ found_any (reads_now i new p o q) (enumerate_from r.stripe.at r.stripe.blocks) b found in
    let within : (r.stripe.at ≤ b.0) × (b.0 < r.stripe.at + length r.stripe.blocks) =
    found_within (reads_now i new p o q) r.stripe.at r.stripe.blocks b found in
    let low : r.stripe.at ≤ b.0 = within.0 in
    let high : b.0 < r.stripe.at + length r.stripe.blocks = within.1 in
    let block : readable_block i (after logs e knows) q r ≡ Some b.0 =
    ap (option_map (λ (b : ℕ × Block). b.0))
    (find_same (λ (b : ℕ × Block). bears_position s q b.1 && is_readable_in s new r.stripe.unit b.0 r.life) (reads_now i new p o q)
    (λ b. ap (λ c. bears_position s q b.1 && c) (ap (λ u. is_readable_in s new u b.0 r.life) its ∙ readable_life s new o p.stripe.unit b.0 r.life life))
    (enumerate_from r.stripe.at r.stripe.blocks) ∙ found) in
    let address = address_by i logs o r.life r k b.0 life (its_line i logs e knows p o is)
    (all_at (λ (r : Placed). IsOpenedFor (logs 0) r.stripe.line r.life) (placements (logs 0)) of.among.0 r of.among.1 (placed_lines (logs 0))) row.at low
    (omega arith) in
    moves i logs e knows o p.stripe.unit q r b.0 (holder_found s log new p q r is.now.one_more is.once of.among gives) block
    (all_at (λ (r : Placed). IsBefore (length (logs 0)) r.life) (placements (logs 0)) of.among.0 r of.among.1 (lives_before (logs 0)))
    address.0 (address.1 ∙ ap (λ u. address_of_block i logs o u b.0) its)

media_leaves : (i : Image) (logs : Logs) (e : EngineEvent) (knows : List ℕ) (p : Placed) (o : Opening) (q : ℕ) (b : ℕ × Block) → IsLanding i logs e knows p o
    → find (reads_now i (after logs e knows 0) p o q) (enumerate_from 0 (chunk_blocks (after logs e knows 0) o p.stripe.unit)) ≡ Some b
    → slot_of_entry i (after logs e knows) q ≡ Media o.line (address_of_block i logs o p.stripe.unit b.0) q
media_leaves i logs e knows p o q b is found =
    let s : Shape = i.shape in
    let log : List Logged = logs 0 in
    let new : List Logged = after logs e knows 0 in
    let there : find (reads_now i new p o q) (enumerate_from 0 (flat_map (λ (r : Placed). r.stripe.blocks) (stripes_on log o p.stripe.unit))) ≡ Some b =
    ap (λ (ps : List Placed). find (reads_now i new p o q) (enumerate_from 0 (flat_map (λ (r : Placed). r.stripe.blocks) ps)))
    (sym (on_new log new p is.now.one_more o p.stripe.unit)) ∙ found in
    let at : (k : ℕ) × (r : Placed) × (slice_get (stripes_on log o p.stripe.unit) k ≡ Some r)
    × (find (reads_now i new p o q) (enumerate_from r.stripe.at r.stripe.blocks) ≡ Some b) =
    found_in_stripe (reads_now i new p o q) s.ws_opt 0 (stripes_on log o p.stripe.unit) b
    (λ k r e. let row = is.now.rows k r e in ((let at : r.stripe.at ≡ k * s.ws_opt = row.at in omega arith), row.blocks)) there in
    leaves_by i logs e knows p o q b at.0 at.1 is at.2 at.3

-- ---- the law

entry_now : (i : Image) (logs : Logs) (e : EngineEvent) (knows : List ℕ) (p : Placed) (o : Opening) (q : ℕ) → IsLanding i logs e knows p o
    → slot_of_entry i (after logs e knows) q ≡ read_slot i logs o p.stripe.unit (block_read i.shape (after logs e knows 0) o p.stripe.unit)
    (slot_of_entry i logs q)
entry_now i logs e knows p o q is = go (find (gives_back i.shape (logs 0) q) (placements (logs 0))) refl
  where
    read : Slot → Slot
    read x = read_slot i logs o p.stripe.unit (block_read i.shape (after logs e knows 0) o p.stripe.unit) x

    leaves : (b : Option (ℕ × Block))
        → find (reads_now i (after logs e knows 0) p o q) (enumerate_from 0 (chunk_blocks (after logs e knows 0) o p.stripe.unit)) ≡ b
        → is_given_back i.shape (logs 0) q ≡ false
        → slot_of_entry i (after logs e knows) q ≡ option_map_or (λ block. Media o.line (address_of_block i logs o p.stripe.unit block) q)
        (option_map (λ (b : ℕ × Block). b.0) b) (Cached q)
    leaves None f none =
        ap (λ (x : Option Placed). option_map_or (media_of i (after logs e knows) q) x (Cached q))
        (any_none (gives_back i.shape (after logs e knows 0) q) (placements (after logs e knows 0))
        (given_now i.shape (logs 0) (after logs e knows 0) p o q is.now
        ∙ ap₂ (λ a b. a || b) none (found_none (reads_now i (after logs e knows 0) p o q)
        (enumerate_from 0 (chunk_blocks (after logs e knows 0) o p.stripe.unit)) f)))
    leaves (Some b) f none = media_leaves i logs e knows p o q b is f

    go : (x : Option Placed) → find (gives_back i.shape (logs 0) q) (placements (logs 0)) ≡ x
        → slot_of_entry i (after logs e knows) q ≡ read_slot i logs o p.stripe.unit (block_read i.shape (after logs e knows 0) o p.stripe.unit)
        (option_map_or (media_of i logs q) x (Cached q))
    go (Some r) f = media_stays i logs e knows p o q r is f
    go None f =
        leaves (find (reads_now i (after logs e knows 0) p o q) (enumerate_from 0 (chunk_blocks (after logs e knows 0) o p.stripe.unit))) refl
        (found_none (gives_back i.shape (logs 0) q) (placements (logs 0)) f)

by_now : (i : Image) (logs : Logs) (e : EngineEvent) (knows : List ℕ) (p : Placed) (o : Opening) (lba : ℕ) (t : Option Taken) → IsLanding i logs e knows p o
    → slot_by i (after logs e knows) lba t ≡ read_slot i logs o p.stripe.unit (block_read i.shape (after logs e knows 0) o p.stripe.unit) (slot_by i logs lba t)
by_now i logs e knows p o lba None is = ap (λ f. slot_of_winner (winner (counted f) lba)) (found_kept i logs e knows is.begins)
    ∙ go (winner (counted (found_image i logs)) lba)
  where
    go : (r : Option Record) → slot_of_winner r ≡ read_slot i logs o p.stripe.unit (block_read i.shape (after logs e knows 0) o p.stripe.unit)
        (slot_of_winner r)
    go None = refl
    go (Some r) = refl
by_now i logs e knows p o lba (Some t) is = entry_now i logs e knows p o t.entry.position is

pub slot_now : (i : Image) (logs : Logs) (e : EngineEvent) (knows : List ℕ) (p : Placed) (o : Opening) (lba : ℕ) → IsLanding i logs e knows p o
    → slot_of i (after logs e knows) lba ≡ read_slot i logs o p.stripe.unit (block_read i.shape (after logs e knows 0) o p.stripe.unit) (slot_of i logs lba)
slot_now i logs e knows p o lba is =
    ap (λ (ts : List Taken). slot_by i (after logs e knows) lba (last_or None (filter (λ (t : Taken). t.mark.lba == lba) ts))) is.takes
    ∙ by_now i logs e knows p o lba (last_take (logs 0) lba) is
