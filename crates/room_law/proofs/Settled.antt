-- What is kept of a settling: a sum of what is left to be done, which falls with each pump.
use Rattle.std.proofs.Common.{ℕ, suc, ◌+◌, ◌-◌, ◌*◌, ◌<◌, ◌≤◌, ◌≡◌, min, inl, inr, refl, subst, arith}
use Rattle.std.proofs.Math.Nat.{mul-le-mul_left}
use Rattle.std.proofs.lemmas.Bool.{cases_lt}
use Rattle.room_law.specs.Settling.{Drive, State, Victim, NoVictim, AtWork, Spare, live_of, at_work, Pad, ForEarlier, ForVictim, ForOther, Pump, ResetChunk, ResetLine, PlaceRecord, PlaceFull, PlacePadded, OpenLine, CopySector, Turn, Choose, ChooseFailed, ChooseEarly, ChooseSpare, FreeVictim, FreeOther, FreeMore, MayPump, MayResetLine, MayPlaceFull, MayPad, MayOpenLine, MayCopy, MayTurn, MayChoose, MayChooseFailed, MayChooseEarly, MayChooseSpare, MayFreeVictim, MayFreeOther, MayFreeMore, padded, pumped, turned}
use Rattle.room_law.proofs.Stripes.{times, one_fewer}

-- What each is worth: an address that is placed, and one that is missing; a padded stripe; and a
-- line that is copied whole.
pub record Weights : Type 0 where
  pub placed : ℕ
  pub missing : ℕ
  pub pad : ℕ
  pub copied : ℕ

pub record AreWeights (z : Drive) (w : Weights) : Type 0 where
  -- the addresses of a line pay for its opening, its records and its resets
  pub opening : 1 + z.records + z.units ≤ w.placed * z.line
  pub pad : w.pad ≡ w.placed * z.stripe + w.missing * (z.stripe - 1)
  pub copied : w.copied ≡ (w.placed + 2) * z.line + w.pad
  pub stripe : 1 ≤ z.stripe
  pub line : 1 ≤ z.line
  -- what a victim with few live sectors gives pays for its copies and for a padded stripe
  pub gain : (live gained : ℕ) → 4 * live ≤ 3 * z.line → live + gained ≡ z.line
      → (w.placed + 2) * live + w.pad ≤ w.missing * gained

-- a victim's copies, and a padded stripe where one may come
abbrev pub worth : Weights → ℕ → Victim → ℕ
worth w padding NoVictim = 0
worth w padding (AtWork live) = (w.placed + 2) * live + w.pad * padding
worth w padding (Spare live) = 0

-- What is kept of the victim. Of one that is spare no sector is copied any more once that was done
-- of an earlier one: lines enough are Free, and nothing waits.
pub record IsAtWork (line copies padding live : ℕ) : Type 0 where
  pub live_in : live ≤ line
  pub paid : 1 ≤ live + copies → 1 ≤ padding

pub record IsSpare (line soon earlier copies once live : ℕ) : Type 0 where
  pub live_in : live ≤ line
  pub no_copy : copies ≡ 0
  pub none_waits : once ≡ 0 → earlier ≡ 0
  pub many : once ≡ 0 → 4 ≤ soon

abbrev pub IsVictim : (line soon earlier copies once padding : ℕ) → Victim → Type 0
IsVictim line soon earlier copies once padding NoVictim = copies ≡ 0
IsVictim line soon earlier copies once padding (AtWork live) = IsAtWork line copies padding live
IsVictim line soon earlier copies once padding (Spare live) = IsSpare line soon earlier copies once live

-- After so many pumps what is left to be done is worth no more than this, less the pumps.
pub record Kept (z : Drive) (w : Weights) (total pumps : ℕ) (s : State) : Type 0 where
  -- the addresses of the open line that are placed
  pub gone : ℕ
  -- how many addresses are missing of six lines
  pub missing : ℕ
  -- whether a spare victim may still be copied, whether a stripe with an earlier entry may still be
  -- padded, and whether one may for the victim
  pub once : ℕ
  pub first : ℕ
  pub padding : ℕ
  -- for how many earlier entries a line may still be opened before another data stripe is placed
  pub pending : ℕ
  pub left : s.left + gone ≡ z.line
  pub covers : 6 * z.line + (s.earlier + s.copies) + live_of s.victim
      ≤ s.left + z.line * (s.free + s.resetting + at_work s.victim) + missing
  pub victim : IsVictim z.line (s.free + s.resetting) s.earlier s.copies once padding s.victim
  pub spared : once ≡ 0 → 1 ≤ s.earlier → 1 ≤ s.copies
  pub firsts : 1 ≤ s.earlier → 1 ≤ first
  pub opens : s.earlier ≤ pending + 1
  pub opens_all : s.left < z.line → s.earlier ≤ pending
  pub sum : pumps + (s.chunks + z.units * s.held + s.records + w.placed * gone + (w.placed + 1) * (s.earlier + s.copies)
      + worth w padding s.victim + w.missing * missing + w.copied * (s.failed + once + s.early + pending) + w.pad * (s.pads + first)) ≤ total

-- Resets, and stripes of records.

chunk_reset : (z : Drive) (w : Weights) (total k : ℕ) (s : State) → 1 ≤ s.chunks → Kept z w total k s
    → Kept z w total (suc k) (pumped z s ResetChunk)
chunk_reset z w total k s may h = record {
  gone = h.gone;
  missing = h.missing;
  once = h.once;
  first = h.first;
  padding = h.padding;
  pending = h.pending;
  left = h.left;
  covers = h.covers;
  victim = h.victim;
  spared = h.spared;
  firsts = h.firsts;
  opens = h.opens;
  opens_all = h.opens_all;
  sum = omega (arith, h.sum, may);
}

line_reset : (z : Drive) (w : Weights) (total k : ℕ) (s : State) → MayResetLine s → Kept z w total k s
    → Kept z w total (suc k) (pumped z s ResetLine)
line_reset z w total k s may h = record {
  gone = h.gone;
  missing = h.missing;
  once = h.once;
  first = h.first;
  padding = h.padding;
  pending = h.pending;
  left = h.left;
  covers = subst (λ (soon : ℕ). 6 * z.line + (s.earlier + s.copies) + live_of s.victim
      ≤ s.left + z.line * (soon + at_work s.victim) + h.missing) same h.covers;
  victim = subst (λ (soon : ℕ). IsVictim z.line soon s.earlier s.copies h.once h.padding s.victim) same h.victim;
  spared = h.spared;
  firsts = h.firsts;
  opens = h.opens;
  opens_all = h.opens_all;
  sum = omega (arith, h.sum, may.chunk);
}
  where
    same : s.free + s.resetting ≡ s.free + 1 + (s.resetting - 1)
    same = omega (arith, may.line)

record_placed : (z : Drive) (w : Weights) (total k : ℕ) (s : State) → 1 ≤ s.records → Kept z w total k s
    → Kept z w total (suc k) (pumped z s PlaceRecord)
record_placed z w total k s may h = record {
  gone = h.gone;
  missing = h.missing;
  once = h.once;
  first = h.first;
  padding = h.padding;
  pending = h.pending;
  left = h.left;
  covers = h.covers;
  victim = h.victim;
  spared = h.spared;
  firsts = h.firsts;
  opens = h.opens;
  opens_all = h.opens_all;
  sum = omega (arith, h.sum, may);
}

-- A line is opened.

opened : (z : Drive) (w : Weights) (total k : ℕ) (s : State) (v : Victim) → AreWeights z w → MayOpenLine s
    → Kept z w total k (record s { victim = v }) → Kept z w total (suc k) (pumped z (record s { victim = v }) OpenLine)
opened z w total k s v weights may h = record {
  gone = 0;
  missing = h.missing;
  once = h.once;
  first = h.first;
  padding = h.padding;
  pending = h.pending - min s.earlier 1;
  left = omega arith;
  covers = let fewer : z.line * (s.free + s.resetting + at_work v) ≡ z.line * (s.free - 1 + s.resetting + at_work v) + z.line =
      fewer_by z.line (s.free + s.resetting + at_work v) (s.free - 1 + s.resetting + at_work v) (omega (arith, may.has_free)) in
      omega (arith, h.covers, fewer, may.none_left);
  victim = still v h.victim;
  spared = h.spared;
  firsts = h.firsts;
  opens = omega (arith, h.opens_all none);
  opens_all = λ low. absurd (omega (arith, low));
  sum = let all : w.placed * h.gone ≡ w.placed * z.line = times w.placed h.gone z.line (omega (arith, h.left, may.none_left)) in
      let fewer : w.copied * (s.failed + h.once + min s.earlier 1 + (h.pending - min s.earlier 1)) ≤ w.copied * (s.failed + h.once + s.early + h.pending) =
      mul-le-mul_left w.copied (omega (arith, h.opens_all none)) in
      omega (arith, h.sum, all, fewer, weights.opening);
}
  where
    none : s.left < z.line
    none = omega (arith, may.none_left, weights.line)

    fewer_by : (a x y : ℕ) → x ≡ y + 1 → a * x ≡ a * y + a
    fewer_by a x y e = let all : a * x ≡ a * (y + 1) = times a x (y + 1) e in omega (arith, all)

    still : (v : Victim) → IsVictim z.line (s.free + s.resetting) s.earlier s.copies h.once h.padding v
        → IsVictim z.line (s.free - 1 + s.resetting) s.earlier s.copies h.once h.padding v
    still NoVictim is = is
    still (AtWork live) is = is
    still (Spare live) is = record {
      live_in = is.live_in;
      no_copy = is.no_copy;
      none_waits = is.none_waits;
      many = λ spent. absurd (omega (arith, is.no_copy, is.none_waits spent, may.has_entry));
    }

-- Stripes of entries.

-- a stripe more is placed
placed_more : (a x y stripe : ℕ) → x ≡ y + stripe → a * x ≡ a * y + a * stripe
placed_more a x y stripe e = let all : a * x ≡ a * (y + stripe) = times a x (y + stripe) e in omega (arith, all)

full_placed : (z : Drive) (w : Weights) (total k : ℕ) (s : State) (v : Victim) → AreWeights z w → MayPlaceFull z s
    → Kept z w total k (record s { victim = v }) → Kept z w total (suc k) (pumped z (record s { victim = v }) PlaceFull)
full_placed z w total k s v weights may h = record {
  gone = h.gone + z.stripe;
  missing = h.missing;
  once = h.once;
  first = h.first;
  padding = h.padding;
  pending = h.pending;
  left = omega (arith, h.left, may.has_address);
  covers = omega (arith, h.covers, may.has_address, fewer);
  victim = still v h.victim;
  spared = λ spent waits. omega (arith, waits, h.spared spent (omega (arith, waits)));
  firsts = λ waits. h.firsts (omega (arith, waits));
  opens = omega (arith, h.opens);
  opens_all = λ low. omega (arith, h.opens, weights.stripe);
  sum = let gone : w.placed * (h.gone + z.stripe) ≡ w.placed * h.gone + w.placed * z.stripe =
      placed_more w.placed (h.gone + z.stripe) h.gone z.stripe refl in
      let waits : (w.placed + 1) * (s.earlier + s.copies)
      ≡ (w.placed + 1) * (s.earlier - z.stripe + (s.copies - (z.stripe - s.earlier))) + (w.placed + 1) * z.stripe =
      placed_more (w.placed + 1) (s.earlier + s.copies) (s.earlier - z.stripe + (s.copies - (z.stripe - s.earlier))) z.stripe fewer in
      omega (arith, h.sum, gone, waits, weights.stripe);
}
  where
    fewer : s.earlier + s.copies ≡ s.earlier - z.stripe + (s.copies - (z.stripe - s.earlier)) + z.stripe
    fewer = omega (arith, may.full)

    still : (v : Victim) → IsVictim z.line (s.free + s.resetting) s.earlier s.copies h.once h.padding v
        → IsVictim z.line (s.free + s.resetting) (s.earlier - z.stripe) (s.copies - (z.stripe - s.earlier)) h.once h.padding v
    still NoVictim is = omega (arith, is)
    still (AtWork live) is = record { live_in = is.live_in; paid = λ some. is.paid (omega (arith, some)) }
    still (Spare live) is = record {
      live_in = is.live_in;
      no_copy = omega (arith, is.no_copy);
      none_waits = λ spent. omega (arith, is.none_waits spent);
      many = is.many;
    }

-- A stripe is padded: of the victim, of earlier entries and of other lines one such stripe less is
-- left.
pad_placed : (z : Drive) (w : Weights) (total k : ℕ) (s : State) (v : Victim) (first padding pads : ℕ) → AreWeights z w
    → z.stripe ≤ s.left → 1 ≤ s.earlier + s.copies → (h : Kept z w total k (record s { victim = v }))
    → IsVictim z.line (s.free + s.resetting) 0 0 h.once padding v
    → worth w padding v + w.pad * (pads + first) + w.pad ≤ worth w h.padding v + w.pad * (s.pads + h.first)
    → Kept z w total (suc k) (record (padded z (record s { victim = v })) { pads = pads })
pad_placed z w total k s v first padding pads weights address some h victim paid = record {
  gone = h.gone + z.stripe;
  missing = h.missing + (z.stripe - 1);
  once = h.once;
  first = first;
  padding = padding;
  pending = h.pending;
  left = omega (arith, h.left, address);
  covers = omega (arith, h.covers, address, some, weights.stripe);
  victim = victim;
  spared = λ spent waits. absurd (omega (arith, waits));
  firsts = λ waits. absurd (omega (arith, waits));
  opens = omega arith;
  opens_all = λ low. omega arith;
  sum = let gone : w.placed * (h.gone + z.stripe) ≡ w.placed * h.gone + w.placed * z.stripe =
      placed_more w.placed (h.gone + z.stripe) h.gone z.stripe refl in
      let lacks : w.missing * (h.missing + (z.stripe - 1)) ≡ w.missing * h.missing + w.missing * (z.stripe - 1) =
      placed_more w.missing (h.missing + (z.stripe - 1)) h.missing (z.stripe - 1) refl in
      let waits : (w.placed + 1) * 1 ≤ (w.placed + 1) * (s.earlier + s.copies) = mul-le-mul_left (w.placed + 1) some in
      omega (arith, h.sum, gone, lacks, waits, weights.pad, paid);
}

-- the victim where all is placed and it may be padded as often as before
all_placed : (line soon earlier copies once padding : ℕ) (v : Victim) → IsVictim line soon earlier copies once padding v
    → IsVictim line soon 0 0 once padding v
all_placed line soon earlier copies once padding NoVictim is = refl
all_placed line soon earlier copies once padding (AtWork live) is = record {
  live_in = is.live_in;
  paid = λ some. is.paid (omega (arith, some));
}
all_placed line soon earlier copies once padding (Spare live) is = record {
  live_in = is.live_in;
  no_copy = refl;
  none_waits = λ spent. refl;
  many = is.many;
}

padded_for : (z : Drive) (w : Weights) (total k : ℕ) (s : State) (v : Victim) (why : Pad) → AreWeights z w
    → MayPad z (record s { victim = v }) why → Kept z w total k (record s { victim = v })
    → Kept z w total (suc k) (pumped z (record s { victim = v }) (PlacePadded why))
padded_for z w total k s v ForEarlier weights may h =
    pad_placed z w total k s v (h.first - 1) h.padding s.pads weights may.has_address may.has_entry h
    (all_placed z.line (s.free + s.resetting) s.earlier s.copies h.once h.padding v h.victim)
    (let one : w.pad * (s.pads + h.first) ≡ w.pad * (s.pads + (h.first - 1)) + w.pad * 1 =
    placed_more w.pad (s.pads + h.first) (s.pads + (h.first - 1)) 1 (omega (arith, h.firsts may.reason)) in
    omega (arith, one))
padded_for z w total k s v ForOther weights may h =
    pad_placed z w total k s v h.first h.padding (s.pads - 1) weights may.has_address may.has_entry h
    (all_placed z.line (s.free + s.resetting) s.earlier s.copies h.once h.padding v h.victim)
    (let one : w.pad * (s.pads + h.first) ≡ w.pad * (s.pads - 1 + h.first) + w.pad * 1 =
    placed_more w.pad (s.pads + h.first) (s.pads - 1 + h.first) 1 (omega (arith, may.reason)) in
    omega (arith, one))
padded_for z w total k s NoVictim ForVictim weights may h = absurd (omega (arith, may.has_entry, may.reason.1, h.victim))
padded_for z w total k s (Spare live) ForVictim weights may h = absurd (omega (arith, may.has_entry, may.reason.1, h.victim.no_copy))
padded_for z w total k s (AtWork live) ForVictim weights may h =
    pad_placed z w total k s (AtWork live) h.first (h.padding - 1) s.pads weights may.has_address may.has_entry h
    (record { live_in = h.victim.live_in; paid = λ some. absurd (omega (arith, some, may.reason.0)) })
    (let some : 1 ≤ h.padding = h.victim.paid (omega (arith, may.has_entry, may.reason.1)) in
    let one : w.pad * h.padding ≡ w.pad * (h.padding - 1) + w.pad * 1 = placed_more w.pad h.padding (h.padding - 1) 1 (omega (arith, some)) in
    omega (arith, one))

-- A sector is copied.

copied_one : (z : Drive) (w : Weights) (total k : ℕ) (s : State) (v : Victim) → AreWeights z w
    → MayCopy (record s { victim = v }) → Kept z w total k (record s { victim = v })
    → Kept z w total (suc k) (pumped z (record s { victim = v }) CopySector)
copied_one z w total k s NoVictim weights may h = absurd (omega (arith, may.has_live))
copied_one z w total k s (AtWork live) weights may h = record {
  gone = h.gone;
  missing = h.missing;
  once = h.once;
  first = h.first;
  padding = h.padding;
  pending = h.pending;
  left = h.left;
  covers = omega (arith, h.covers, may.has_live);
  victim = record {
    live_in = omega (arith, h.victim.live_in);
    paid = λ some. h.victim.paid (omega (arith, may.has_live));
  };
  spared = λ spent waits. omega arith;
  firsts = h.firsts;
  opens = h.opens;
  opens_all = h.opens_all;
  sum = let less : (w.placed + 2) * live ≡ (w.placed + 2) * (live - 1) + (w.placed + 2) * 1 =
      placed_more (w.placed + 2) live (live - 1) 1 (omega (arith, may.has_live)) in
      omega (arith, h.sum, less);
}
copied_one z w total k s (Spare live) weights may h = record {
  gone = h.gone;
  missing = h.missing;
  once = h.once - 1;
  first = h.first;
  padding = 1;
  pending = h.pending;
  left = h.left;
  covers = omega (arith, h.covers, may.has_live);
  victim = record {
    live_in = omega (arith, h.victim.live_in);
    paid = λ some. omega arith;
  };
  spared = λ spent waits. omega arith;
  firsts = h.firsts;
  opens = h.opens;
  opens_all = h.opens_all;
  sum = let less : (w.placed + 2) * (live - 1 + 1) ≤ (w.placed + 2) * z.line =
      mul-le-mul_left (w.placed + 2) (omega (arith, may.has_live, h.victim.live_in)) in
      let whole : (w.placed + 2) * (live - 1 + 1) ≡ (w.placed + 2) * (live - 1) + (w.placed + 2) * 1 =
      placed_more (w.placed + 2) (live - 1 + 1) (live - 1) 1 refl in
      let one : w.copied * (s.failed + h.once + s.early + h.pending) ≡ w.copied * (s.failed + (h.once - 1) + s.early + h.pending) + w.copied * 1 =
      placed_more w.copied (s.failed + h.once + s.early + h.pending) (s.failed + (h.once - 1) + s.early + h.pending) 1 (omega (arith, some)) in
      omega (arith, h.sum, less, whole, one, weights.copied, h.victim.no_copy);
}
  where
    some : 1 ≤ h.once
    some = elim (cases_lt 0 h.once) [
      | inl is ↦ omega (arith, is)
      | inr none ↦ absurd (omega (arith, may.all_reset, may.due, h.victim.many (omega (arith, none))))
    ]

pub pumped_on : (z : Drive) (w : Weights) (total k : ℕ) (s : State) (p : Pump) → AreWeights z w → MayPump z s p → Kept z w total k s
    → Kept z w total (suc k) (pumped z s p)
pumped_on z w total k s ResetChunk weights may h = chunk_reset z w total k s may h
pumped_on z w total k s ResetLine weights may h = line_reset z w total k s may h
pumped_on z w total k s PlaceRecord weights may h = record_placed z w total k s may h
pumped_on z w total k s PlaceFull weights may h = full_placed z w total k s s.victim weights may h
pumped_on z w total k s (PlacePadded why) weights may h = padded_for z w total k s s.victim why weights may h
pumped_on z w total k s OpenLine weights may h = opened z w total k s s.victim weights may h
pumped_on z w total k s CopySector weights may h = copied_one z w total k s s.victim weights may h

-- Lines come to work.

-- one line more is Free, to be reset, or at work
one_more : (a x : ℕ) → a * (x + 1) ≡ a * x + a
one_more a x = omega arith

chosen : (z : Drive) (w : Weights) (total k live : ℕ) (s : State) (v : Victim) → AreWeights z w
    → MayChoose z (record s { victim = v }) live → Kept z w total k (record s { victim = v })
    → Kept z w total k (turned z (record s { victim = v }) (Choose live))
chosen z w total k live s (AtWork was) weights may h = absurd (omega (arith, may.none))
chosen z w total k live s (Spare was) weights may h = absurd (omega (arith, may.none))
chosen z w total k live s NoVictim weights may h = record {
  gone = h.gone;
  missing = h.missing - gained;
  once = h.once;
  first = h.first;
  padding = 1;
  pending = h.pending;
  left = h.left;
  covers = omega (arith, h.covers, enough, one_more z.line (s.free + s.resetting), fits);
  victim = record { live_in = omega (arith, fits); paid = λ some. omega arith };
  spared = h.spared;
  firsts = h.firsts;
  opens = h.opens;
  opens_all = h.opens_all;
  sum = let less : w.missing * h.missing ≡ w.missing * (h.missing - gained) + w.missing * gained =
      placed_more w.missing h.missing (h.missing - gained) gained (omega (arith, enough)) in
      omega (arith, h.sum, less, weights.gain live gained may.fits fits);
}
  where
    gained : ℕ
    gained = z.line - live

    fits : live + gained ≡ z.line
    fits = omega (arith, may.fits)

    few : z.line * (s.free + s.resetting + 0) ≤ z.line * 3
    few = mul-le-mul_left z.line (omega (arith, may.few))

    enough : gained ≤ h.missing
    enough = omega (arith, h.covers, few, h.left)

chosen_failed : (z : Drive) (w : Weights) (total k live : ℕ) (s : State) (v : Victim) → AreWeights z w
    → MayChooseFailed z (record s { victim = v }) live → Kept z w total k (record s { victim = v })
    → Kept z w total k (turned z (record s { victim = v }) (ChooseFailed live))
chosen_failed z w total k live s (AtWork was) weights may h = absurd (omega (arith, may.none))
chosen_failed z w total k live s (Spare was) weights may h = absurd (omega (arith, may.none))
chosen_failed z w total k live s NoVictim weights may h = record {
  gone = h.gone;
  missing = h.missing;
  once = h.once;
  first = h.first;
  padding = 1;
  pending = h.pending;
  left = h.left;
  covers = omega (arith, h.covers, one_more z.line (s.free + s.resetting), may.fits);
  victim = record { live_in = omega (arith, may.fits); paid = λ some. omega arith };
  spared = h.spared;
  firsts = h.firsts;
  opens = h.opens;
  opens_all = h.opens_all;
  sum = let one : w.copied * (s.failed + h.once + s.early + h.pending) ≡ w.copied * (s.failed - 1 + h.once + s.early + h.pending) + w.copied * 1 =
      placed_more w.copied (s.failed + h.once + s.early + h.pending) (s.failed - 1 + h.once + s.early + h.pending) 1 (omega (arith, may.is_failed)) in
      let few : (w.placed + 2) * live ≤ (w.placed + 2) * z.line = mul-le-mul_left (w.placed + 2) (omega (arith, may.fits)) in
      omega (arith, h.sum, one, few, weights.copied);
}

chosen_early : (z : Drive) (w : Weights) (total k live : ℕ) (s : State) (v : Victim) → AreWeights z w
    → MayChooseEarly z (record s { victim = v }) live → Kept z w total k (record s { victim = v })
    → Kept z w total k (turned z (record s { victim = v }) (ChooseEarly live))
chosen_early z w total k live s (AtWork was) weights may h = absurd (omega (arith, may.none))
chosen_early z w total k live s (Spare was) weights may h = absurd (omega (arith, may.none))
chosen_early z w total k live s NoVictim weights may h = record {
  gone = h.gone;
  missing = h.missing;
  once = h.once;
  first = h.first;
  padding = 1;
  pending = h.pending;
  left = h.left;
  covers = omega (arith, h.covers, one_more z.line (s.free + s.resetting), may.fits);
  victim = record { live_in = omega (arith, may.fits); paid = λ some. omega arith };
  spared = h.spared;
  firsts = h.firsts;
  opens = h.opens;
  opens_all = h.opens_all;
  sum = let one : w.copied * (s.failed + h.once + s.early + h.pending) ≡ w.copied * (s.failed + h.once + (s.early - 1) + h.pending) + w.copied * 1 =
      placed_more w.copied (s.failed + h.once + s.early + h.pending) (s.failed + h.once + (s.early - 1) + h.pending) 1 (omega (arith, may.is_early)) in
      let few : (w.placed + 2) * live ≤ (w.placed + 2) * z.line = mul-le-mul_left (w.placed + 2) (omega (arith, may.fits)) in
      omega (arith, h.sum, one, few, weights.copied);
}

chosen_spare : (z : Drive) (w : Weights) (total k live : ℕ) (s : State) (v : Victim)
    → MayChooseSpare z (record s { victim = v }) live → Kept z w total k (record s { victim = v })
    → Kept z w total k (turned z (record s { victim = v }) (ChooseSpare live))
chosen_spare z w total k live s (AtWork was) may h = absurd (omega (arith, may.none))
chosen_spare z w total k live s (Spare was) may h = absurd (omega (arith, may.none))
chosen_spare z w total k live s NoVictim may h = record {
  gone = h.gone;
  missing = h.missing;
  once = h.once;
  first = h.first;
  padding = h.padding;
  pending = h.pending;
  left = h.left;
  covers = omega (arith, h.covers, one_more z.line (s.free + s.resetting), may.fits);
  victim = record {
    live_in = omega (arith, may.fits);
    no_copy = h.victim;
    none_waits = λ spent. elim (cases_lt 0 s.earlier) [
      | inl some ↦ absurd (omega (arith, h.spared spent some, h.victim))
      | inr none ↦ omega (arith, none)
    ];
    many = λ spent. may.many;
  };
  spared = h.spared;
  firsts = h.firsts;
  opens = h.opens;
  opens_all = h.opens_all;
  sum = h.sum;
}

-- Lines are freed.

-- a line less is held, and one more is to be reset
freed_one : (z : Drive) (s : State) → 1 ≤ s.held → s.chunks + z.units + z.units * (s.held - 1) ≡ s.chunks + z.units * s.held
freed_one z s held = omega (arith, one_fewer z.units s.held held)

victim_freed : (z : Drive) (w : Weights) (total k : ℕ) (s : State) (v : Victim) → MayFreeVictim (record s { victim = v })
    → Kept z w total k (record s { victim = v }) → Kept z w total k (turned z (record s { victim = v }) FreeVictim)
victim_freed z w total k s NoVictim may h = absurd (omega (arith, may.some))
victim_freed z w total k s (AtWork live) may h = record {
  gone = h.gone;
  missing = h.missing;
  once = h.once;
  first = h.first;
  padding = h.padding;
  pending = h.pending;
  left = h.left;
  covers = omega (arith, h.covers, may.no_live, times z.line (s.free + s.resetting + 1) (s.free + (s.resetting + 1) + 0) (omega arith));
  victim = may.no_copy;
  spared = h.spared;
  firsts = h.firsts;
  opens = h.opens;
  opens_all = h.opens_all;
  sum = omega (arith, h.sum, freed_one z s may.held);
}
victim_freed z w total k s (Spare live) may h = record {
  gone = h.gone;
  missing = h.missing;
  once = h.once;
  first = h.first;
  padding = h.padding;
  pending = h.pending;
  left = h.left;
  covers = omega (arith, h.covers, may.no_live, times z.line (s.free + s.resetting + 1) (s.free + (s.resetting + 1) + 0) (omega arith));
  victim = may.no_copy;
  spared = h.spared;
  firsts = h.firsts;
  opens = h.opens;
  opens_all = h.opens_all;
  sum = omega (arith, h.sum, freed_one z s may.held);
}

other_freed : (z : Drive) (w : Weights) (total k : ℕ) (s : State) (v : Victim) → AreWeights z w → MayFreeOther s
    → Kept z w total k (record s { victim = v }) → Kept z w total k (turned z (record s { victim = v }) FreeOther)
other_freed z w total k s v weights may h = record {
  gone = h.gone;
  missing = h.missing - z.line;
  once = h.once;
  first = h.first;
  padding = h.padding;
  pending = h.pending;
  left = h.left;
  covers = omega (
    arith,
    h.covers,
    one_more z.line (s.free + s.resetting + at_work v),
    times z.line (s.free + s.resetting + at_work v + 1) (s.free + (s.resetting + 1) + at_work v) (omega arith),
  );
  victim = still v h.victim;
  spared = h.spared;
  firsts = h.firsts;
  opens = h.opens;
  opens_all = h.opens_all;
  sum = let less : w.missing * h.missing ≡ w.missing * (h.missing - z.line) + w.missing * z.line =
      placed_more w.missing h.missing (h.missing - z.line) z.line (omega (arith, enough)) in
      let pads : w.pad * (s.pads + 1 + h.first) ≡ w.pad * (s.pads + h.first) + w.pad * 1 =
      placed_more w.pad (s.pads + 1 + h.first) (s.pads + h.first) 1 (omega arith) in
      omega (arith, h.sum, less, pads, freed_one z s may.held, weights.gain 0 z.line (omega arith) (omega arith));
}
  where
    still : (v : Victim) → IsVictim z.line (s.free + s.resetting) s.earlier s.copies h.once h.padding v
        → IsVictim z.line (s.free + (s.resetting + 1)) s.earlier s.copies h.once h.padding v
    still NoVictim is = is
    still (AtWork live) is = is
    still (Spare live) is = record {
      live_in = is.live_in;
      no_copy = is.no_copy;
      none_waits = is.none_waits;
      many = λ spent. omega (arith, is.many spent);
    }

    few : z.line * (s.free + s.resetting + at_work v) ≤ z.line * (3 + at_work v)
    few = mul-le-mul_left z.line (omega (arith, may.few))

    one : (v : Victim) → at_work v ≤ 1
    one NoVictim = omega arith
    one (AtWork live) = omega arith
    one (Spare live) = omega arith

    most : z.line * (3 + at_work v) ≤ z.line * 4
    most = mul-le-mul_left z.line (omega (arith, one v))

    enough : z.line ≤ h.missing
    enough = omega (arith, h.covers, few, most, h.left)

more_freed : (z : Drive) (w : Weights) (total k : ℕ) (s : State) (v : Victim) → MayFreeMore s
    → Kept z w total k (record s { victim = v }) → Kept z w total k (turned z (record s { victim = v }) FreeMore)
more_freed z w total k s v may h = record {
  gone = h.gone;
  missing = h.missing;
  once = h.once;
  first = h.first;
  padding = h.padding;
  pending = h.pending;
  left = h.left;
  covers = omega (
    arith,
    h.covers,
    one_more z.line (s.free + s.resetting + at_work v),
    times z.line (s.free + s.resetting + at_work v + 1) (s.free + (s.resetting + 1) + at_work v) (omega arith),
  );
  victim = still v h.victim;
  spared = h.spared;
  firsts = h.firsts;
  opens = h.opens;
  opens_all = h.opens_all;
  sum = omega (arith, h.sum, freed_one z s may.held);
}
  where
    still : (v : Victim) → IsVictim z.line (s.free + s.resetting) s.earlier s.copies h.once h.padding v
        → IsVictim z.line (s.free + (s.resetting + 1)) s.earlier s.copies h.once h.padding v
    still NoVictim is = is
    still (AtWork live) is = is
    still (Spare live) is = record {
      live_in = is.live_in;
      no_copy = is.no_copy;
      none_waits = is.none_waits;
      many = λ spent. omega (arith, is.many spent);
    }

pub turned_on : (z : Drive) (w : Weights) (total k : ℕ) (s : State) (t : Turn) → AreWeights z w → MayTurn z s t → Kept z w total k s
    → Kept z w total k (turned z s t)
turned_on z w total k s (Choose live) weights may h = chosen z w total k live s s.victim weights may h
turned_on z w total k s (ChooseFailed live) weights may h = chosen_failed z w total k live s s.victim weights may h
turned_on z w total k s (ChooseEarly live) weights may h = chosen_early z w total k live s s.victim weights may h
turned_on z w total k s (ChooseSpare live) weights may h = chosen_spare z w total k live s s.victim may h
turned_on z w total k s FreeVictim weights may h = victim_freed z w total k s s.victim may h
turned_on z w total k s FreeOther weights may h = other_freed z w total k s s.victim weights may h
turned_on z w total k s FreeMore weights may h = more_freed z w total k s s.victim may h
