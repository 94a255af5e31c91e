-- What a settling is worth at its start is more than its pumps.
use Rattle.std.proofs.Common.{ℕ, ◌+◌, ◌-◌, ◌*◌, ◌/◌, ◌<◌, ◌≤◌, ◌≡◌, inl, inr, refl, ap, arith}
use Rattle.std.proofs.Math.Nat.{div-mul-le_self, lt-div-mul-add, mul-le-mul_left, mul-le-mul_right}
use Rattle.std.proofs.lemmas.Bool.{cases_lt}
use Rattle.room_law.specs.Settling.{Drive, IsDrive, State, Victim, NoVictim, AtWork, Spare, live_of, at_work, blocks, IsStart, IsSettling, Begun, ByPump, ByTurn, most_pumps}
use Rattle.room_law.proofs.Settled.{Weights, AreWeights, Kept, IsVictim, worth, pumped_on, turned_on}

-- The weights: how many record stripes and resets there are for each data address of a line, and
-- one more.

share : Drive → ℕ
share z = (z.records + z.units) / z.line

abbrev weights : Drive → Weights
weights z = record {
  placed = share z + 1;
  missing = 7 * (share z + 3);
  pad = (share z + 1) * z.stripe + 7 * (share z + 3) * (z.stripe - 1);
  copied = (share z + 3) * z.line + ((share z + 1) * z.stripe + 7 * (share z + 3) * (z.stripe - 1));
}

-- a line has eight stripes, or more
eight : (z : Drive) → IsDrive z → 8 * z.stripe ≤ z.line
eight z is = omega (arith, is.long)

nine : (z : Drive) → IsDrive z → 9 ≤ z.line
nine z is = let one : 1 * z.stripe ≤ z.stripe * z.stripe = mul-le-mul_right z.stripe is.some in omega (arith, is.long, is.some, one)

shared : (z : Drive) → share z * z.line ≤ z.records + z.units
unfolding share
shared z = div-mul-le_self (z.records + z.units) z.line

shared_all : (z : Drive) → IsDrive z → z.records + z.units < share z * z.line + z.line
unfolding share
shared_all z is = lt-div-mul-add (omega (arith, nine z is))

gains : (z : Drive) → IsDrive z → (live gained : ℕ) → 4 * live ≤ 3 * z.line → live + gained ≡ z.line
    → (share z + 1 + 2) * live + (weights z).pad ≤ 7 * (share z + 3) * gained
gains z is live gained few fits =
    let enough : live + z.stripe + 7 * (z.stripe - 1) ≤ 7 * gained = omega (arith, few, fits, eight z is, is.some) in
    let all : (share z + 3) * (live + z.stripe + 7 * (z.stripe - 1)) ≤ (share z + 3) * (7 * gained) = mul-le-mul_left (share z + 3) enough in
    sum (share z) live z.stripe (z.stripe - 1) gained all
  where
    sum : (q live w v gained : ℕ) → (q + 3) * (live + w + 7 * v) ≤ (q + 3) * (7 * gained)
        → (q + 1 + 2) * live + ((q + 1) * w + 7 * (q + 3) * v) ≤ 7 * (q + 3) * gained
    sum q live w v gained all = omega (arith, all)

are_weights : (z : Drive) → IsDrive z → AreWeights z (weights z)
are_weights z is = record {
  opening = omega (arith, shared_all z is);
  pad = refl;
  copied = omega arith;
  stripe = is.some;
  line = omega (arith, nine z is);
  gain = gains z is;
}

-- What a run keeps.

kept : (z : Drive) (w : Weights) (total : ℕ) (start : State) (k : ℕ) (s : State) → AreWeights z w → Kept z w total 0 start → IsSettling z start k s
    → Kept z w total k s
kept z w total start _ _ are h Begun = h
kept z w total start _ _ are h (ByPump n s p run may) = pumped_on z w total n s p are may (kept z w total start n s are h run)
kept z w total start k _ are h (ByTurn n s t run may) = turned_on z w total k s t are may (kept z w total start k s are h run)

-- The start.

abbrev victim_worth : Weights → ℕ → ℕ
victim_worth w line = (w.placed + 2) * line + w.pad

abbrev total_of : Drive → Weights → State → ℕ
total_of z w s = s.chunks + z.units * s.held + s.records + w.placed * (z.line - s.left) + (w.placed + 1) * (s.earlier + s.copies)
    + victim_worth w z.line + w.missing * (6 * z.line) + w.copied * (s.failed + 1 + s.early + s.earlier) + w.pad * (s.pads + 1)

begins : (z : Drive) (w : Weights) (claimed lines : ℕ) (s : State) (v : Victim) → IsStart z claimed lines (record s { victim = v })
    → Kept z w (total_of z w s) 0 (record s { victim = v })
begins z w claimed lines s v is = record {
  gone = z.line - s.left;
  missing = 6 * z.line;
  once = 1;
  first = 1;
  padding = 1;
  pending = s.earlier;
  left = omega (arith, is.left);
  covers = omega (arith, covered v is.live, is.has_room, is.no_copy);
  victim = victim v is.live;
  spared = λ spent waits. absurd (omega (arith, spent));
  firsts = λ waits. omega arith;
  opens = omega arith;
  opens_all = λ low. omega arith;
  sum = omega (arith, within v is.live);
}
  where
    covered : (v : Victim) → live_of v ≤ z.line → z.line * s.free + live_of v ≤ z.line * (s.free + s.resetting + at_work v)
    covered NoVictim few = omega arith
    covered (AtWork live) few = omega (arith, few)
    covered (Spare live) few = omega (arith, few)

    victim : (v : Victim) → live_of v ≤ z.line → IsVictim z.line (s.free + s.resetting) s.earlier s.copies 1 1 v
    victim NoVictim few = is.no_copy
    victim (AtWork live) few = record { live_in = few; paid = λ some. omega arith }
    victim (Spare live) few = record {
      live_in = few;
      no_copy = is.no_copy;
      none_waits = λ spent. absurd (omega (arith, spent));
      many = λ spent. absurd (omega (arith, spent));
    }

    within : (v : Victim) → live_of v ≤ z.line → worth w 1 v ≤ victim_worth w z.line
    within NoVictim few = omega arith
    within (AtWork live) few = let less : (w.placed + 2) * live ≤ (w.placed + 2) * z.line = mul-le-mul_left (w.placed + 2) few in omega (arith, less)
    within (Spare live) few = omega arith

-- What it is worth by the blocks of a line. A padded stripe is worth no more than the addresses of
-- a line, and a line that is copied whole less than eight pumps a block.

abbrev line_worth : Drive → ℕ
line_worth z = (share z + 3) * z.line

pad_few : (z : Drive) → IsDrive z → (weights z).pad ≤ line_worth z
pad_few z is = let all : (share z + 3) * (8 * z.stripe) ≤ (share z + 3) * z.line = mul-le-mul_left (share z + 3) (eight z is) in
    sum (share z) z.stripe (z.stripe - 1) z.line (omega arith) all
  where
    sum : (q w v d : ℕ) → v ≤ w → (q + 3) * (8 * w) ≤ (q + 3) * d → (q + 1) * w + 7 * (q + 3) * v ≤ (q + 3) * d
    sum q w v d less all = let few : (q + 3) * v ≤ (q + 3) * w = mul-le-mul_left (q + 3) less in omega (arith, few, all)

-- the stripes of the records, and the units, beside the blocks
records_in : (z : Drive) → IsDrive z → z.line + z.records ≤ blocks z
records_in z is = let all : z.records * 1 ≤ z.records * z.stripe = mul-le-mul_left z.records is.some in omega (arith, all)

units_in : (z : Drive) → IsDrive z → z.units ≤ blocks z
units_in z is = let all : z.units * 1 ≤ z.units * z.stripe = mul-le-mul_left z.units is.some in omega (arith, all, is.wide)

line_few : (z : Drive) → IsDrive z → line_worth z ≤ 4 * blocks z
line_few z is = omega (arith, shared z, records_in z is, units_in z is)

share_few : (z : Drive) → IsDrive z → 9 * share z ≤ z.records + z.units
share_few z is = let all : share z * 9 ≤ share z * z.line = mul-le-mul_left (share z) (nine z is) in omega (arith, all, shared z)

-- a line that is copied whole, with its resets, and with a stripe of entries
copied_few : (z : Drive) → IsDrive z → ((weights z).copied + z.units ≤ 8 * blocks z) × ((weights z).copied + (share z + 2) ≤ 8 * blocks z)
copied_few z is = elim (cases_lt 1 z.stripe) [
  | inl two ↦
      let records : 2 * z.records ≤ z.records * z.stripe = twice z.records two in
      let units : 2 * z.units ≤ z.units * z.stripe = twice z.units two in
      let all : (weights z).copied ≤ 2 * line_worth z = omega (arith, pad_few z is) in (
        omega (arith, all, records, units, is.wide, shared z),
        omega (arith, all, records, units, is.wide, shared z, share_few z is, nine z is),
      )
  | inr one ↦
      let all : (weights z).copied ≡ line_worth z + (share z + 1) = single (omega (arith, one, is.some)) in (
        omega (arith, all, shared z, share_few z is, records_in z is, units_in z is, nine z is),
        omega (arith, all, shared z, share_few z is, records_in z is, units_in z is, nine z is),
      )
]
  where
    twice : (a : ℕ) → 1 < z.stripe → 2 * a ≤ a * z.stripe
    twice a two = let all : a * 2 ≤ a * z.stripe = mul-le-mul_left a two in omega (arith, all)

    single : z.stripe ≡ 1 → (weights z).copied ≡ line_worth z + (share z + 1)
    single one =
        let stripe : (share z + 1) * z.stripe ≡ (share z + 1) * 1 = ap (λ (x : ℕ). (share z + 1) * x) one in
        let none : 7 * (share z + 3) * (z.stripe - 1) ≡ 7 * (share z + 3) * 0 = ap (λ (x : ℕ). 7 * (share z + 3) * x) (omega (arith, one)) in
        omega (arith, stripe, none)

total_few : (z : Drive) (claimed lines : ℕ) (s : State) → IsDrive z → IsStart z claimed lines s
    → total_of z (weights z) s ≤ most_pumps z claimed lines
total_few z claimed lines s drive is =
    let copied = copied_few z drive in
    let b : ℕ = blocks z in
    let resets : z.units * (s.resetting + s.held) ≤ z.units * lines = mul-le-mul_left z.units (omega (arith, is.all)) in
    let gone : (share z + 1) * (z.line - s.left) ≤ (share z + 1) * z.line = mul-le-mul_left (share z + 1) (omega arith) in
    let waits : (share z + 2) * (s.earlier + s.copies) ≤ (share z + 2) * claimed = mul-le-mul_left (share z + 2) (omega (arith, is.earlier, is.no_copy)) in
    let others : (weights z).copied * (s.failed + 1 + s.early + s.earlier) ≤ (weights z).copied * (claimed + lines + 2) =
    mul-le-mul_left (weights z).copied (omega (arith, is.failed, is.early, is.earlier)) in
    let pads : (weights z).pad * (s.pads + 1) ≤ (weights z).pad * 2 = mul-le-mul_left (weights z).pad (omega (arith, is.pads)) in
    let lines_few : ((weights z).copied + z.units) * lines ≤ 8 * blocks z * lines = mul-le-mul_right lines copied.0 in
    let claimed_few : ((weights z).copied + (share z + 2)) * claimed ≤ 8 * blocks z * claimed = mul-le-mul_right claimed copied.1 in
    omega (
      arith,
      is.chunks,
      is.records,
      resets,
      gone,
      waits,
      others,
      pads,
      lines_few,
      claimed_few,
      copied.0,
      line_few z drive,
      pad_few z drive,
      records_in z drive,
    )

pub ends : (z : Drive) (start s : State) (claimed lines pumps : ℕ) → IsDrive z → IsStart z claimed lines start → IsSettling z start pumps s
    → pumps ≤ most_pumps z claimed lines
ends z start s claimed lines pumps drive is run =
    let h = kept z (weights z) (total_of z (weights z) start) start pumps s (are_weights z drive)
    (begins z (weights z) claimed lines start start.victim is) run in
    omega (arith, h.sum, total_few z claimed lines start drive is)
