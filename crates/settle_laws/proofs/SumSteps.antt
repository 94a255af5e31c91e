-- What is kept of the sum: what each kind of event makes of the numbers, and that it takes a piece of
-- work from what is left to be done.
use Rattle.std.proofs.Common.{ℕ, ◌+◌, ◌-◌, ◌*◌, ◌<◌, ◌≤◌, ◌≡◌, max, arith}
use Rattle.std.proofs.Math.Nat.{mul-le-mul_left}
use Rattle.room_law.proofs.Stripes.{times}
use Rattle.settle_laws.proofs.Sums.{AreFronts, Credits, Drive, IsDrive, Kept, Numbers, all, freed, missed, pad}

module _ {z : Drive} (is : IsDrive z) {old total : ℕ} {c : Credits} {n : Numbers} (h : Kept z old total c n) where
  -- ---- resets, records and openings

  -- a chunk is reset, or a stripe without entries is placed
  pub one_less : (stripes chunks : ℕ) → n.stripes + n.chunks ≡ stripes + chunks + 1
      → Kept z old total c (record n { done = n.done + 1; stripes = stripes; chunks = chunks })
  one_less stripes chunks fewer = record {
    missing = h.missing;
    first = h.first;
    fronts = h.fronts;
    victim = h.victim;
    within = h.within;
    covers = h.covers;
    sum = omega (arith, h.sum, fewer);
  }

  -- the last chunk of a line is reset
  pub line_reset : (new : ℕ) → n.chunks ≡ new + 1 → 1 ≤ n.resetting
      → Kept z old total c (record n { done = n.done + 1; chunks = new; free = n.free + 1; resetting = n.resetting - 1 })
  line_reset new fewer some = record {
    missing = h.missing;
    first = h.first;
    fronts = h.fronts;
    victim = h.victim;
    within = omega (arith, h.within, times z.line (n.free + 1 + (n.resetting - 1)) (n.free + n.resetting) moved);
    covers = omega (arith, h.covers, times z.line (n.free + 1 + (n.resetting - 1) + n.working) (n.free + n.resetting + n.working) (omega (arith, moved)));
    sum = omega (arith, h.sum, fewer, times (z.stripes + 1) (n.free + 1 + (n.resetting - 1)) (n.free + n.resetting) moved);
  }
    where
      moved : n.free + 1 + (n.resetting - 1) ≡ n.free + n.resetting
      moved = omega (arith, some)

  -- a line is opened
  pub opened : 1 ≤ n.free → n.left + z.line + z.line * (n.free - 1 + n.resetting) + z.line ≤ z.most
      → Kept z old total c (record n { done = n.done + 1; stripes = n.stripes + z.stripes; left = n.left + z.line; free = n.free - 1 })
  opened some within = record {
    missing = h.missing;
    first = h.first;
    fronts = h.fronts;
    victim = h.victim;
    within = within;
    covers = omega (arith, h.covers, times z.line (n.free + n.resetting + n.working) (n.free - 1 + n.resetting + n.working + 1) (omega (arith, some)));
    sum = omega (arith, h.sum, times (z.stripes + 1) (n.free + n.resetting) (n.free - 1 + n.resetting + 1) (omega (arith, some)));
  }

  -- ---- stripes of entries

  -- a full one takes as many entries
  pub full_placed : (new : ℕ) → n.stripes ≡ new + 1 → z.stripe ≤ n.left → n.placed + z.stripe ≤ n.taken
      → Kept z old total c (record n { done = n.done + 1; stripes = new; left = n.left - z.stripe; placed = n.placed + z.stripe })
  full_placed new fewer address enough = record {
    missing = h.missing;
    first = h.first;
    fronts = record {
      order = enough;
      from = h.fronts.from;
      firsts = h.fronts.firsts;
      two_early = λ low. h.fronts.two_early (omega (arith, low));
      one_early = λ low. h.fronts.one_early (omega (arith, low));
    };
    victim = record { one = h.victim.one; none = h.victim.none; padded = λ works some. h.victim.padded works (omega (arith, some)) };
    within = omega (arith, h.within);
    covers = omega (arith, h.covers, enough, address);
    sum = omega (arith, h.sum, fewer);
  }

  -- A padded stripe takes all that waits. One of the credits is spent for it.
  padded_by : (d : Credits) → all c ≡ all d + 1 → (n.taken + 1 < old → 2 ≤ d.early) → (n.taken < old → 1 ≤ d.early)
      → (1 ≤ n.working → 1 ≤ n.live + (n.taken - max n.taken old) → 1 ≤ d.victim) → (new : ℕ) → n.stripes ≡ new + 1 → z.stripe ≤ n.left
      → n.placed < n.taken → Kept z old total d (record n { done = n.done + 1; stripes = new; left = n.left - z.stripe; placed = n.taken })
  padded_by d spent two_early one_early for_victim new fewer address some = record {
    missing = h.missing + (z.stripe - 1);
    first = h.first;
    fronts = record { order = omega arith; from = h.fronts.from; firsts = h.fronts.firsts; two_early = two_early; one_early = one_early };
    victim = record { one = h.victim.one; none = h.victim.none; padded = for_victim };
    within = omega (arith, h.within);
    covers = omega (arith, h.covers, address, some, is.some);
    sum = omega (arith, h.sum, fewer, times (pad z) (all c) (all d + 1) spent);
  }

  module _ (new : ℕ) (fewer : n.stripes ≡ new + 1) (address : z.stripe ≤ n.left) (some : n.placed < n.taken) where
    abbrev pub after_pad : Numbers
    after_pad = record n { done = n.done + 1; stripes = new; left = n.left - z.stripe; placed = n.taken }

    -- an entry that was taken early waits
    pub padded_early : n.placed < old → Kept z old total (record c { early = c.early - 1 }) after_pad
    padded_early low = padded_by (record c { early = c.early - 1 }) (omega (arith, h.fronts.one_early low))
        (λ above. absurd (omega (arith, above, h.fronts.from))) (λ above. omega (arith, h.fronts.two_early (omega (arith, above, some))))
        (λ works more. h.victim.padded works (omega (arith, more))) new fewer address some

    -- a line was freed since an entry that waits was begun to be copied
    pub padded_waiting : old ≤ n.placed → 1 ≤ c.waiting → Kept z old total (record c { waiting = c.waiting - 1 }) after_pad
    padded_waiting past one = padded_by (record c { waiting = c.waiting - 1 }) (omega (arith, one)) (λ above. absurd (omega (arith, above, some, past)))
        (λ above. absurd (omega (arith, above, some, past))) (λ works more. h.victim.padded works (omega (arith, more))) new fewer address some

    -- no sector of the victim at work is live
    pub padded_victim : old ≤ n.placed → 1 ≤ n.working → n.live ≡ 0 → Kept z old total (record c { victim = c.victim - 1 }) after_pad
    padded_victim past works none =
        padded_by (record c { victim = c.victim - 1 }) (omega (arith, h.victim.padded works (omega (arith, some, past))))
        (λ above. absurd (omega (arith, above, some, past))) (λ above. absurd (omega (arith, above, some, past)))
        (λ at more. absurd (omega (arith, more, none))) new fewer address some

  -- ---- entries

  -- the fronts after one is taken
  taken_fronts : (first : ℕ) → (n.taken + 1 < old → 1 ≤ first) → AreFronts old n.placed (n.taken + 1) first c.early
  taken_fronts first firsts = record {
    order = omega (arith, h.fronts.order);
    from = omega (arith, h.fronts.from);
    firsts = firsts;
    two_early = h.fronts.two_early;
    one_early = h.fronts.one_early;
  }

  -- a copy of the victim at work
  pub copy_taken : 1 ≤ n.working → 1 ≤ n.live → old ≤ n.taken
      → Kept z old total (record c { waiting = c.waiting + c.coming; coming = 0 })
      (record n { done = n.done + 1; taken = n.taken + 1; live = n.live - 1 })
  copy_taken works some past = record {
    missing = h.missing;
    first = h.first;
    fronts = taken_fronts h.first (λ low. absurd (omega (arith, low, past)));
    victim = record {
      one = h.victim.one;
      none = λ rests. absurd (omega (arith, rests, works));
      padded = λ at more. h.victim.padded works (omega (arith, some));
    };
    within = h.within;
    covers = omega (arith, h.covers, h.fronts.order, some);
    sum = omega (arith, h.sum, some, times (pad z) (c.early + c.victim + (c.waiting + c.coming) + 0) (all c) (omega arith));
  }

  -- an early entry
  pub early_taken : n.taken + 1 ≡ old → (live : ℕ) → live ≤ n.live
      → Kept z old total c (record n { done = n.done + 1; taken = n.taken + 1; live = live })
  early_taken last live fewer = record {
    missing = h.missing + 1;
    first = h.first - 1;
    fronts = taken_fronts (h.first - 1) (λ low. absurd (omega (arith, low, last)));
    victim = record {
      one = h.victim.one;
      none = λ rests. omega (arith, fewer, h.victim.none rests);
      padded = λ works more. h.victim.padded works (omega (arith, more, last, fewer));
    };
    within = h.within;
    covers = omega (arith, h.covers, h.fronts.order, fewer);
    sum = omega (arith, h.sum, fewer, times (missed z + 1) h.first (h.first - 1 + 1) (omega (arith, h.fronts.firsts (omega (arith, last)))));
  }

  -- ---- lines are freed

  -- the victim at work
  pub victim_freed : (stripes chunks : ℕ) → stripes ≤ n.stripes → chunks ≤ n.chunks + z.units → 1 ≤ n.working → n.live ≡ 0
      → n.left + z.line * (n.free + (n.resetting + 1)) + z.line ≤ z.most
      → Kept z old total c (record n { stripes = stripes; chunks = chunks; resetting = n.resetting + 1; working = 0; live = 0 })
  victim_freed stripes chunks fewer few works none within = record {
    missing = h.missing;
    first = h.first;
    fronts = h.fronts;
    victim = record { one = omega arith; none = λ rests. omega arith; padded = λ at more. absurd (omega (arith, at)) };
    within = within;
    covers = omega (arith, h.covers, none, times z.line (n.free + n.resetting + n.working) (n.free + (n.resetting + 1) + 0) (omega (arith, one)));
    sum = omega (arith, h.sum, none, fewer, few, times (freed z) n.working 1 one);
  }
    where
      one : n.working ≡ 1
      one = omega (arith, works, h.victim.one)

  -- another line: stripes may be padded for what waits, and for the copy that is under way
  pub other_freed : (stripes chunks : ℕ) → stripes ≤ n.stripes → chunks ≤ n.chunks + z.units
      → n.left + z.line * (n.free + (n.resetting + 1)) + z.line ≤ z.most
      → Kept z old total (record c { waiting = 1; coming = 1 }) (record n { stripes = stripes; chunks = chunks; resetting = n.resetting + 1 })
  other_freed stripes chunks fewer few within = record {
    missing = h.missing - z.line;
    first = h.first;
    fronts = h.fronts;
    victim = h.victim;
    within = within;
    covers = omega (arith, h.covers, enough);
    sum = omega (arith, h.sum, paid, few_credits, gain, fewer, few);
  }
    where
      at_work : z.line * (n.free + n.resetting + n.working) ≤ z.line * (n.free + n.resetting + 1)
      at_work = mul-le-mul_left z.line (omega (arith, h.victim.one))

      enough : z.line ≤ h.missing
      enough = omega (arith, h.covers, within, at_work)

      paid : missed z * h.missing ≡ missed z * (h.missing - z.line + z.line)
      paid = times (missed z) h.missing (h.missing - z.line + z.line) (omega (arith, enough))

      few_credits : pad z * (c.early + c.victim) ≤ pad z * all c
      few_credits = mul-le-mul_left (pad z) (omega arith)

      gain : pad z * 2 + missed z * 1 ≤ missed z * z.line
      gain = let fits : missed z * ((z.stripe - 1) * 2 + 1) ≤ missed z * z.line = mul-le-mul_left (missed z) (omega (arith, is.long, is.some)) in
          products (missed z) (z.stripe - 1) z.line fits
        where
          products : (m s d : ℕ) → m * (s * 2 + 1) ≤ m * d → m * s * 2 + m * 1 ≤ m * d
          products m s d fits = omega (arith, fits)

  -- ---- a line comes to work

  -- a line that has a stripe's addresses less of live sectors than it has data addresses
  pub chosen : n.working ≡ 0 → (live : ℕ) → live + z.stripe ≤ z.line
      → Kept z old total (record c { victim = c.victim + 1 }) (record n { working = 1; live = live })
  chosen rests live fits = record {
    missing = h.missing - z.stripe;
    first = h.first;
    fronts = h.fronts;
    victim = record { one = omega arith; none = λ not. absurd (omega (arith, not)); padded = λ at more. omega arith };
    within = h.within;
    covers = omega (arith, h.covers, h.victim.none rests, lines, enough, fits);
    sum = omega (arith, h.sum, h.victim.none rests, fits, times (freed z) n.working 0 rests, paid, one_pad);
  }
    where
      lines : z.line * (n.free + n.resetting + n.working) ≡ z.line * (n.free + n.resetting)
      lines = times z.line (n.free + n.resetting + n.working) (n.free + n.resetting) (omega (arith, rests))

      enough : z.stripe ≤ h.missing
      enough = omega (arith, h.covers, h.within, lines, is.long)

      paid : missed z * h.missing ≡ missed z * (h.missing - z.stripe + z.stripe)
      paid = times (missed z) h.missing (h.missing - z.stripe + z.stripe) (omega (arith, enough))

      one_pad : missed z * z.stripe ≡ missed z * (z.stripe - 1 + 1)
      one_pad = times (missed z) z.stripe (z.stripe - 1 + 1) (omega (arith, is.some))
