-- One program of Pad blocks: what it asks, and what it leaves.
use Rattle.std.proofs.Common.{◌≡◌, ℕ, ◌+◌, ◌-◌, ◌*◌, ◌/◌, ◌%◌, ◌<◌, ◌≤◌, zero, suc, inl, inr, Bool, true, false, cond, Option, Some, None, List, ◌∷◌, ◌++◌, length, take, drop, replicate, refl, sym, ap, ◌∙◌, subst, arith, length-append}
use Rattle.std.specs.List.{slice_get}
use Rattle.std.specs.Option.{option_and_then, option_map}
use Rattle.std.proofs.lemmas.Option.{none-some, slice_get-map, slice_get_within}
use Rattle.std.proofs.lemmas.List.{length-replicate, take-replicate, replicate-append-replicate}
use Rattle.std.proofs.lemmas.Bool.{cases_lt, eq-eqb, ne_eqb, le-ltb}
use Rattle.std.proofs.lemmas.Nat.{mod-mul-add, mul-le}
use Rattle.std.proofs.Math.Nat.{mod-add-mod, mul-le-mul_right, div-add-mod}
use native.Mathlib.Decide.{ℕ_discrete}
use Rattle.pblk_model.specs.declared.shape.Shape.{Shape}
use Rattle.pblk_model.specs.declared.chunk.Mark.{Mark}
use Rattle.pblk_model.specs.declared.chunk.ChunkState.TheVariants as states
use Rattle.pblk_model.specs.Accepted.{IsAccepted}
use Rattle.pblk_model.specs.Bytes.{zeros}
use Rattle.pblk_model.specs.Blocks.{blocks_of}
use Rattle.pblk_model.specs.Chunk.{Chunk, Block, IsChunk, PointerFits, pointer}
use Rattle.pblk_model.specs.ChunkStep.{Write, Done, Gave, Empty, Refused, refusal, place_refusal, write_refusal_in}
use Rattle.pblk_model.specs.Marks.{pad_mark, pad_block}
use Rattle.pblk_model.specs.UnitLog.{UnitOutcome, Answered, Failed, Stopped, IsOutcome, after_outcome}
use Rattle.pblk_laws.specs.LineBlocks.{chunk_in}
use Rattle.unit_port.specs.Armed.{is_stop}
use Rattle.unit_port.specs.Unit.{ModelUnit}
use Rattle.pblk_model.specs.Shape.{units}
use Rattle.world_laws.specs.Padding.{IsPadded}
use Rattle.world_laws.proofs.PaddedChunks.{program_pads}
use Rattle.unit_port.specs.Commands.{EventAt, IsNext, IsTaken, with_event, after_one}
use Rattle.unit_port.specs.Did.{command_at}
use Rattle.unit_port.proofs.Units.{after_one_is}
use Rattle.scan_recovery.specs.Units.{image_of, AreFit}
use Rattle.scan_recovery.specs.Pads.{pads_from, room_in, AreBlank, IsOpenAt}
use Rattle.pblk_model.proofs.Lists.{all_replicated}
use Rattle.pblk_model.proofs.Parts.{all_get, drop_front, get_set_other, get_set_same, take_front}
use Rattle.pblk_model.proofs.AcceptedLemmas.{line_is_short, sector_within}
use Rattle.pblk_model.proofs.UnitLogLemmas.{after_event_is}
use Rattle.scan_recovery.proofs.PadsLemmas.{pads_count}

-- The next multiple of WS_OPT.

pub next_above : (at w : ℕ) → 0 < w → at < (at / w + 1) * w
next_above at w some = omega arith

pub next_within : (at w n : ℕ) → 0 < w → n % w ≡ 0 → at < n → (at / w + 1) * w ≤ n
next_within at w n some whole below =
    let all : w * (n / w) + n % w ≡ n = div-add-mod n w in
    let here : w * (at / w) + at % w ≡ at = div-add-mod at w in
    elim (cases_lt (at / w) (n / w)) [
      | inl less ↦ let rows : (at / w + 1) * w ≤ n / w * w = mul-le-mul_right w (omega arith) in omega arith
      | inr more ↦ let rows : n / w * w ≤ at / w * w = mul-le-mul_right w more in absurd (omega arith)
    ]

pub few_pads : (at w : ℕ) → 0 < w → (at / w + 1) * w - at ≤ w
few_pads at w some = let here : w * (at / w) + at % w ≡ at = div-add-mod at w in omega arith

whole_pads : (at w m : ℕ) → 0 < m → 0 < w → w % m ≡ 0 → at % m ≡ 0 → ((at / w + 1) * w - at) % m ≡ 0
whole_pads at w m some wide whole here =
    let above = next_above at w wide in
    let w_is : w ≡ w / m * m = (let e : m * (w / m) + w % m ≡ w = div-add-mod w m in omega arith) in
    let end_is : at + ((at / w + 1) * w - at) ≡ (at / w + 1) * (w / m) * m + 0 =
    (let e : (at / w + 1) * w ≡ (at / w + 1) * (w / m * m) = ap (λ x. (at / w + 1) * x) w_is in omega arith) in
    let end : (at + ((at / w + 1) * w - at)) % m ≡ 0 = ap (λ x. x % m) end_is ∙ mod-mul-add ((at / w + 1) * (w / m)) m 0 some in
    let bare : (at / w + 1) * w - at ≡ 0 + ((at / w + 1) * w - at) = omega arith in
    ap (λ x. x % m) bare ∙ ap (λ x. (x + ((at / w + 1) * w - at)) % m) (sym here) ∙ mod-add-mod at m ((at / w + 1) * w - at) ∙ end

-- The blocks.

abbrev one_block : ℕ → Mark → Block
one_block size m = record { sector = replicate size 0; mark = m }

same_blocks : (size n : ℕ) (m : Mark) → blocks_of size (replicate (n * size) 0) (replicate n m) ≡ replicate n (one_block size m)
same_blocks size zero m = refl
same_blocks size (suc n) m =
    let parts : replicate (suc n * size) 0 ≡ replicate size 0 ++ replicate (n * size) 0 =
    (let e : suc n * size ≡ size + n * size = omega arith in ap (λ k. replicate k 0) e) ∙ sym (replicate-append-replicate size (n * size) 0) in
    let len : length (replicate size 0) ≡ size = length-replicate size 0 in
    ap (λ bytes. blocks_of size bytes (m ∷ replicate n m)) parts
    ∙ ap (λ sector. record { sector = sector; mark = m } ∷ blocks_of size (drop size (replicate size 0 ++ replicate (n * size) 0)) (replicate n m))
    (take_front (replicate size 0) (replicate (n * size) 0) size len)
    ∙ ap (λ rest. one_block size m ∷ blocks_of size rest (replicate n m)) (drop_front (replicate size 0) (replicate (n * size) 0) size len)
    ∙ ap (λ blocks. one_block size m ∷ blocks) (same_blocks size n m)

pub pads_are : (s : Shape) (at : ℕ) (bytes : List ℕ) (marks : List Mark) (n : ℕ) → 0 < s.ws_opt → AreBlank s bytes marks
    → n ≡ (at / s.ws_opt + 1) * s.ws_opt - at
    → blocks_of s.sector (take (n * s.sector) bytes) (take n marks) ≡ pads_from s at
unfolding zeros
pads_are s at bytes marks n some blank n-is =
    let few : n ≤ s.ws_opt = (let f = few_pads at s.ws_opt some in omega arith) in
    let size : n * s.sector ≤ s.ws_opt * s.sector = mul-le-mul_right s.sector few in
    ap (λ bs. blocks_of s.sector (take (n * s.sector) bs) (take n marks)) blank.bytes_are
    ∙ ap (λ bs. blocks_of s.sector bs (take n marks)) (take-replicate (n * s.sector) (s.ws_opt * s.sector) 0 size)
    ∙ ap (λ ms. blocks_of s.sector (replicate (n * s.sector) 0) (take n ms)) blank.marks_are
    ∙ ap (λ ms. blocks_of s.sector (replicate (n * s.sector) 0) ms) (take-replicate n s.ws_opt pad_mark few)
    ∙ same_blocks s.sector n pad_mark
    ∙ ap (λ k. replicate k (pad_block s)) n-is

-- An Open chunk takes them.

open_fits : (s : Shape) (c : Chunk) → IsChunk s c → c.state ≡ states.Open → (0 < pointer c) × (pointer c < s.clba)
open_fits s c chunk is = subst (λ st. PointerFits st s.clba (pointer c)) is chunk.place

placed_none : (s : Shape) (wp at n : ℕ) → at ≡ wp → 0 < n → n % s.ws_min ≡ 0 → at + n ≤ s.clba → place_refusal s wp at n ≡ None
placed_none s wp at n same some whole within =
    rw (eq-eqb at wp same, ne_eqb n 0 (λ e. omega arith), eq-eqb (n % s.ws_min) 0 whole, le-ltb s.clba (at + n) within) refl

pub takes_pads : (s : Shape) (c : Chunk) → IsAccepted s → IsChunk s c → c.state ≡ states.Open → refusal s c (Write (pointer c) (pads_from s (pointer c))) ≡ None
takes_pads s c accepted chunk is =
    let at : ℕ = pointer c in
    let fits = open_fits s c chunk is in
    let n : ℕ = length (pads_from s at) in
    let n-is : n ≡ (at / s.ws_opt + 1) * s.ws_opt - at = pads_count s at in
    let above = next_above at s.ws_opt accepted.drive.ws_opt in
    let within = next_within at s.ws_opt s.clba accepted.drive.ws_opt accepted.drive.whole_stripes fits.1 in
    let whole : n % s.ws_min ≡ 0 = ap (λ k. k % s.ws_min) n-is
    ∙ whole_pads at s.ws_opt s.ws_min accepted.drive.ws_min accepted.drive.ws_opt accepted.drive.whole_writes chunk.multiple in
    ap (λ st. write_refusal_in s st at at n) is ∙ placed_none s at at n refl (omega arith) whole (omega arith)

-- What is left.

abbrev room_left : Shape → Chunk → ℕ
room_left s c = room_in s c.state (pointer c)

abbrev room_or : Bool → ℕ → ℕ
room_or b n = cond b n 0

state_room : (s : Shape) (b : Bool) (n : ℕ) → room_in s (cond b states.Open states.Closed) n ≤ s.clba - n
state_room s true n = omega arith
state_room s false n = omega arith

room_open : (s : Shape) (c : Chunk) → c.state ≡ states.Open → room_left s c ≡ s.clba - pointer c
room_open s c is = ap (λ st. room_in s st (pointer c)) is

less_room : (s : Shape) (c : Chunk) (b : Bool) (n m : ℕ) → IsChunk s c → c.state ≡ states.Open → m ≡ pointer c + n → 0 < n
    → room_in s (cond b states.Open states.Closed) m < room_left s c
less_room s c b n m chunk is m-is some =
    let fits = open_fits s c chunk is in
    let here = room_open s c is in
    let there = state_room s b m in
    omega arith

-- less is left, unless it was stopped
smaller : (s : Shape) (c : Chunk) (at n : ℕ) (o : UnitOutcome) → IsChunk s c → c.state ≡ states.Open → 0 < n
    → IsOutcome s c (Write at (replicate n (pad_block s))) o → is_stop o ≡ false
    → room_left s (after_outcome s c (Write at (replicate n (pad_block s))) o) < room_left s c
smaller s c at n (Answered Done) chunk is some h quiet =
    less_room s c _ n (length (c.blocks ++ replicate n (pad_block s))) chunk is
    (length-append c.blocks (replicate n (pad_block s)) ∙ ap (λ k. length c.blocks + k) (length-replicate n (pad_block s))) some
smaller s c at n (Answered (Gave block)) chunk is some h quiet = absurd h.1
smaller s c at n (Answered Empty) chunk is some h quiet = absurd h.1
smaller s c at n (Answered (Refused e)) chunk is some h quiet = absurd h.0
smaller s c at n (Failed k) chunk is some h quiet = let fits = open_fits s c chunk is in let here = room_open s c is in omega arith
smaller s c at n (Stopped k) chunk is some h quiet = absurd cc

-- what a program of Pad blocks leaves of an Open chunk
pub record Leaves (s : Shape) (c d : Chunk) (o : UnitOutcome) : Type 0 where
  pub padded : IsPadded s c d
  pub smaller : is_stop o ≡ false → room_left s d < room_left s c

pub leaves : (s : Shape) (c : Chunk) (at n : ℕ) (o : UnitOutcome) → IsChunk s c → c.state ≡ states.Open → 0 < n
    → IsOutcome s c (Write at (replicate n (pad_block s))) o
    → Leaves s c (after_outcome s c (Write at (replicate n (pad_block s))) o) o
leaves s c at n o chunk is some h = record {
  padded = program_pads s c at (replicate n (pad_block s)) o is (open_fits s c chunk is).0 (all_replicated (λ b. b ≡ pad_block s) n (pad_block s) refl);
  smaller = smaller s c at n o chunk is some h;
}

-- Where a unit's event shows.

pub chunk_of : (s : Shape) (us : List ModelUnit) (l u : ℕ) (v : ModelUnit) → slice_get us u ≡ Some v → chunk_in (image_of s us) l u ≡ slice_get v.media l
chunk_of s us l u v h = ap (option_and_then (λ chunks. slice_get chunks l))
    (slice_get-map (λ (u : ModelUnit). u.media) us u ∙ ap (option_map (λ (u : ModelUnit). u.media)) h)

pub event_was : (s : Shape) (us : List ModelUnit) (e : EventAt) (h : IsNext us e) → chunk_in (image_of s us) e.event.chunk e.unit ≡ Some h.event.found
event_was s us e h = chunk_of s us e.event.chunk e.unit h.unit h.there ∙ h.event.there

pub event_is : (s : Shape) (us : List ModelUnit) (e : EventAt) (h : IsNext us e) → h.unit.shape ≡ s
    → chunk_in (image_of s (after_one us e)) e.event.chunk e.unit ≡ Some (after_outcome s h.event.found e.event.command e.event.outcome)
event_is s us e h same =
    let there : slice_get (after_one us e) e.unit ≡ Some (with_event h.unit e.event) = ap (λ xs. slice_get xs e.unit) (after_one_is us e h.unit h.there)
    ∙ get_set_same us e.unit (with_event h.unit e.event) (slice_get_within us e.unit h.unit h.there) in
    chunk_of s (after_one us e) e.event.chunk e.unit (with_event h.unit e.event) there
    ∙ ap (λ m. slice_get m e.event.chunk) (after_event_is h.unit.shape h.unit.media e.event h.event.found h.event.there)
    ∙ get_set_same h.unit.media e.event.chunk (after_outcome h.unit.shape h.event.found e.event.command e.event.outcome)
    (slice_get_within h.unit.media e.event.chunk h.event.found h.event.there)
    ∙ ap (λ x. Some (after_outcome x h.event.found e.event.command e.event.outcome)) same

pub event_others : (s : Shape) (us : List ModelUnit) (e : EventAt) (h : IsNext us e) (l u : ℕ) → (l ≡ e.event.chunk → u ≡ e.unit → ⊥)
    → chunk_in (image_of s (after_one us e)) l u ≡ chunk_in (image_of s us) l u
event_others s us e h l u other = by_unit (ℕ_discrete u e.unit) where
  by_unit : Dec (u ≡ e.unit) → chunk_in (image_of s (after_one us e)) l u ≡ chunk_in (image_of s us) l u
  by_unit (yes same) =
      let there : slice_get (after_one us e) u ≡ Some (with_event h.unit e.event) =
      ap (slice_get (after_one us e)) same ∙ ap (λ xs. slice_get xs e.unit) (after_one_is us e h.unit h.there)
      ∙ get_set_same us e.unit (with_event h.unit e.event) (slice_get_within us e.unit h.unit h.there) in
      let before : slice_get us u ≡ Some h.unit = ap (slice_get us) same ∙ h.there in
      chunk_of s (after_one us e) l u (with_event h.unit e.event) there
      ∙ ap (λ m. slice_get m l) (after_event_is h.unit.shape h.unit.media e.event h.event.found h.event.there)
      ∙ get_set_other h.unit.media e.event.chunk l (after_outcome h.unit.shape h.event.found e.event.command e.event.outcome) (λ l-is. other l-is same)
      ∙ sym (chunk_of s us l u h.unit before)
  by_unit (no apart) =
      let here : slice_get (after_one us e) u ≡ slice_get us u = ap (λ xs. slice_get xs u) (after_one_is us e h.unit h.there)
      ∙ get_set_other us e.unit u (with_event h.unit e.event) apart in
      ap (option_and_then (λ chunks. slice_get chunks l))
      (slice_get-map (λ (u : ModelUnit). u.media) (after_one us e) u ∙ ap (option_map (λ (u : ModelUnit). u.media)) here
      ∙ sym (slice_get-map (λ (u : ModelUnit). u.media) us u))

-- the unit of a chunk
pub record IsUnitAt (us : List ModelUnit) (l u : ℕ) (c : Chunk) : Type 0 where
  pub of : ModelUnit
  pub there : slice_get us u ≡ Some of
  pub chunk : slice_get of.media l ≡ Some c

pub unit_at : (s : Shape) (us : List ModelUnit) (l u : ℕ) (c : Chunk) → chunk_in (image_of s us) l u ≡ Some c → IsUnitAt us l u c
unit_at s us l u c h = by_unit (slice_get us u) refl where
  by_unit : (o : Option ModelUnit) → slice_get us u ≡ o → IsUnitAt us l u c
  by_unit None e = absurd (none-some c
      (sym (ap (option_and_then (λ chunks. slice_get chunks l))
      (slice_get-map (λ (u : ModelUnit). u.media) us u ∙ ap (option_map (λ (u : ModelUnit). u.media)) e)) ∙ h))
  by_unit (Some v) e = record { of = v; there = e; chunk = sym (chunk_of s us l u v e) ∙ h }

pub pads_taken : (s : Shape) (us : List ModelUnit) (line unit at : ℕ) (blocks : List Block) → IsAccepted s → AreFit s us → IsOpenAt (image_of s us) line unit at
    → blocks ≡ pads_from s at
    → IsTaken us (command_at unit line (Write at blocks))
pads_taken s us line unit at blocks accepted fit opened is =
    let w = unit_at s us line unit opened.found opened.there in
    let of = fit.each unit w.of w.there in
    let chunk : IsChunk s opened.found =
    subst (λ (x : Shape). IsChunk x opened.found) of.shape (all_get (IsChunk w.of.shape) w.of.media line opened.found of.fits.chunks w.chunk) in
    let free : refusal s opened.found (Write at blocks) ≡ None =
    subst (λ bs. refusal s opened.found (Write at bs) ≡ None) (sym is)
    (subst (λ p. refusal s opened.found (Write p (pads_from s p)) ≡ None) opened.pointer_is (takes_pads s opened.found accepted chunk opened.is_open)) in
    record {
      unit = w.of;
      there = w.there;
      takes = record { found = opened.found; there = w.chunk; taken = inl (ap (λ (x : Shape). refusal x opened.found (Write at blocks)) of.shape ∙ free) };
    }

-- a write pointer is within the chunk
pub open_below : (s : Shape) (us : List ModelUnit) (line unit at : ℕ) → AreFit s us → IsOpenAt (image_of s us) line unit at → (at < s.clba) × (unit < length us)
open_below s us line unit at fit opened =
    let w = unit_at s us line unit opened.found opened.there in
    let of = fit.each unit w.of w.there in
    let chunk : IsChunk s opened.found =
    subst (λ (x : Shape). IsChunk x opened.found) of.shape (all_get (IsChunk w.of.shape) w.of.media line opened.found of.fits.chunks w.chunk) in
    let fits = open_fits s opened.found chunk opened.is_open in
    let p = opened.pointer_is in
    (omega arith, slice_get_within us unit w.of w.there)

-- the numbers of a stripe fit their types
units_some : (s : Shape) → IsAccepted s → 1 ≤ units s
units_some s accepted = let both : 1 * 1 ≤ s.groups * s.pus = mul-le 1 1 s.groups s.pus accepted.drive.groups accepted.drive.pus in omega arith

pub record IsShort (s : Shape) (at : ℕ) : Type 0 where
  pub chunk : s.clba ≤ 65536
  pub end : (at / s.ws_opt + 1) * s.ws_opt ≤ s.clba
  pub above : at < (at / s.ws_opt + 1) * s.ws_opt
  pub row : at / s.ws_opt ≤ at
  pub count : (at / s.ws_opt + 1) * s.ws_opt - at ≤ s.ws_opt
  pub bytes : ((at / s.ws_opt + 1) * s.ws_opt - at) * s.sector ≤ s.ws_opt * s.sector
  pub stripe : s.ws_opt * s.sector ≤ 64 * 4096

pub stripe_short : (s : Shape) (at : ℕ) → IsAccepted s → at < s.clba → IsShort s at
stripe_short s at accepted below =
    let line : 1 * s.clba ≤ 65536 = line_is_short s 1 accepted (units_some s accepted) in
    let few = few_pads at s.ws_opt accepted.drive.ws_opt in
    record {
      chunk = omega arith;
      end = next_within at s.ws_opt s.clba accepted.drive.ws_opt accepted.drive.whole_stripes below;
      above = next_above at s.ws_opt accepted.drive.ws_opt;
      row = (let here : s.ws_opt * (at / s.ws_opt) + at % s.ws_opt ≡ at =
          div-add-mod at s.ws_opt in let one : 1 * (at / s.ws_opt) ≤ s.ws_opt * (at / s.ws_opt) =
          mul-le-mul_right (at / s.ws_opt) accepted.drive.ws_opt in omega arith);
      count = few;
      bytes = mul-le-mul_right s.sector few;
      stripe = mul-le s.ws_opt s.sector 64 4096 accepted.drive.short_stripes (sector_within s accepted);
    }

pub blank_lengths : (s : Shape) (bytes : List ℕ) (marks : List Mark) → AreBlank s bytes marks → (length bytes ≡ s.ws_opt * s.sector) × (length marks ≡ s.ws_opt)
blank_lengths s bytes marks blank =
    (ap length blank.bytes_are ∙ length-replicate (s.ws_opt * s.sector) 0, ap length blank.marks_are ∙ length-replicate s.ws_opt pad_mark)
