-- Lines that stand in their order are those of a certificate, and the other way round.
use Rattle.std.proofs.Common.{◌≡◌, ℕ, List, [], ◌∷◌, ◌++◌, map, Some, refl, ap}
use Rattle.std.specs.List.{filter_map}
use Rattle.std.specs.List.Sorted.{IsStrictlyIncreasing}
use Rattle.pblk_model.proofs.Tests.{below_of}
use Rattle.pblk_model.specs.declared.found.Winner.{Winner}
use Rattle.image_check.proofs.Rises.{rise_cons, rise_none, rise_one}
use Rattle.image_check.specs.declared.certificate.Bearer.{Bearer}
use Rattle.image_check.specs.declared.certificate.LineEntry.{LineEntry}
use Rattle.image_check.specs.declared.certificate.LiveCount.{LiveCount}
use Rattle.image_check.specs.declared.said.Said.{Said}
use Rattle.image_check.specs.declared.said.Said.TheVariants.{Head, End, Line, Bear, Win, Live}
use Rattle.image_check.specs.Text.{IsChain, bear_said, line_said, live_said, win_said}

-- Lines behind one of each kind.

abbrev lines_in : List Said → List LineEntry
lines_in ss = filter_map line_said ss

abbrev bears_in : List Said → List Bearer
bears_in ss = filter_map bear_said ss

abbrev wins_in : List Said → List Winner
wins_in ss = filter_map win_said ss

abbrev lives_in : List Said → List LiveCount
lives_in ss = filter_map live_said ss

abbrev line_numbers : List LineEntry → List ℕ
line_numbers xs = map (λ e. e.line) xs

abbrev bear_numbers : List Bearer → List ℕ
bear_numbers xs = map (λ b. b.position) xs

abbrev win_numbers : List Winner → List ℕ
win_numbers xs = map (λ w. w.lba) xs

abbrev live_numbers : List LiveCount → List ℕ
live_numbers xs = map (λ l. l.line) xs

record AfterLive (n : ℕ) (ss : List Said) : Type 0 where
  lines : lines_in ss ≡ []
  bears : bears_in ss ≡ []
  wins : wins_in ss ≡ []
  is : ss ≡ map Live (lives_in ss)
  rise : IsStrictlyIncreasing (n ∷ live_numbers (lives_in ss))

after_live : (a : LiveCount) (ss : List Said) → IsChain (Some (Live a)) ss → AfterLive a.line ss
after_live a [] h = record { lines = refl; bears = refl; wins = refl; is = refl; rise = rise_one a.line }
after_live a (Head g ∷ ss) h = absurd (cc)
after_live a (End p ∷ ss) h = absurd (cc)
after_live a (Line b ∷ ss) h = absurd (cc)
after_live a (Bear b ∷ ss) h = absurd (cc)
after_live a (Win b ∷ ss) h = absurd (cc)
after_live a (Live b ∷ ss) h =
    let k = after_live b ss h.1 in
    record {
      lines = k.lines;
      bears = k.bears;
      wins = k.wins;
      is = ap (λ ts. Live b ∷ ts) k.is;
      rise = rise_cons a.line b.line (live_numbers (lives_in ss)) (below_of a.line b.line h.0) k.rise;
    }

record AfterWin (n : ℕ) (ss : List Said) : Type 0 where
  lines : lines_in ss ≡ []
  bears : bears_in ss ≡ []
  is : ss ≡ map Win (wins_in ss) ++ map Live (lives_in ss)
  rise : IsStrictlyIncreasing (n ∷ win_numbers (wins_in ss))
  lives : IsStrictlyIncreasing (live_numbers (lives_in ss))

after_win : (a : Winner) (ss : List Said) → IsChain (Some (Win a)) ss → AfterWin a.lba ss
after_win a [] h = record { lines = refl; bears = refl; is = refl; rise = rise_one a.lba; lives = rise_none }
after_win a (Head g ∷ ss) h = absurd (cc)
after_win a (End p ∷ ss) h = absurd (cc)
after_win a (Line b ∷ ss) h = absurd (cc)
after_win a (Bear b ∷ ss) h = absurd (cc)
after_win a (Win b ∷ ss) h =
    let k = after_win b ss h.1 in
    record {
      lines = k.lines;
      bears = k.bears;
      is = ap (λ ts. Win b ∷ ts) k.is;
      rise = rise_cons a.lba b.lba (win_numbers (wins_in ss)) (below_of a.lba b.lba h.0) k.rise;
      lives = k.lives;
    }
after_win a (Live b ∷ ss) h =
    let k = after_live b ss h.1 in
    record {
      lines = k.lines;
      bears = k.bears;
      is = rw k.wins (ap (λ ts. Live b ∷ ts) k.is);
      rise = rw k.wins (rise_one a.lba);
      lives = k.rise;
    }

record AfterBear (n : ℕ) (ss : List Said) : Type 0 where
  lines : lines_in ss ≡ []
  is : ss ≡ map Bear (bears_in ss) ++ (map Win (wins_in ss) ++ map Live (lives_in ss))
  rise : IsStrictlyIncreasing (n ∷ bear_numbers (bears_in ss))
  wins : IsStrictlyIncreasing (win_numbers (wins_in ss))
  lives : IsStrictlyIncreasing (live_numbers (lives_in ss))

after_bear : (a : Bearer) (ss : List Said) → IsChain (Some (Bear a)) ss → AfterBear a.position ss
after_bear a [] h = record { lines = refl; is = refl; rise = rise_one a.position; wins = rise_none; lives = rise_none }
after_bear a (Head g ∷ ss) h = absurd (cc)
after_bear a (End p ∷ ss) h = absurd (cc)
after_bear a (Line b ∷ ss) h = absurd (cc)
after_bear a (Bear b ∷ ss) h =
    let k = after_bear b ss h.1 in
    record {
      lines = k.lines;
      is = ap (λ ts. Bear b ∷ ts) k.is;
      rise = rise_cons a.position b.position (bear_numbers (bears_in ss)) (below_of a.position b.position h.0) k.rise;
      wins = k.wins;
      lives = k.lives;
    }
after_bear a (Win b ∷ ss) h =
    let k = after_win b ss h.1 in
    record {
      lines = k.lines;
      is = rw k.bears (ap (λ ts. Win b ∷ ts) k.is);
      rise = rw k.bears (rise_one a.position);
      wins = k.rise;
      lives = k.lives;
    }
after_bear a (Live b ∷ ss) h =
    let k = after_live b ss h.1 in
    record {
      lines = k.lines;
      is = rw k.bears (rw k.wins (ap (λ ts. Live b ∷ ts) k.is));
      rise = rw k.bears (rise_one a.position);
      wins = rw k.wins rise_none;
      lives = k.rise;
    }

-- all that may stand behind the end, as the kinds of a certificate
pub record AreKinds (ss : List Said) : Type 0 where
  pub is : ss ≡ map Line (lines_in ss) ++ (map Bear (bears_in ss) ++ (map Win (wins_in ss) ++ map Live (lives_in ss)))
  pub lines : IsStrictlyIncreasing (line_numbers (lines_in ss))
  pub bears : IsStrictlyIncreasing (bear_numbers (bears_in ss))
  pub wins : IsStrictlyIncreasing (win_numbers (wins_in ss))
  pub lives : IsStrictlyIncreasing (live_numbers (lives_in ss))

of_bear : (b : Bearer) (ss : List Said) → IsChain (Some (Bear b)) ss → AreKinds (Bear b ∷ ss)
of_bear b ss h =
    let k = after_bear b ss h in
    record {
      is = rw k.lines (ap (λ ts. Bear b ∷ ts) k.is);
      lines = rw k.lines rise_none;
      bears = k.rise;
      wins = k.wins;
      lives = k.lives;
    }

of_win : (b : Winner) (ss : List Said) → IsChain (Some (Win b)) ss → AreKinds (Win b ∷ ss)
of_win b ss h =
    let k = after_win b ss h in
    record {
      is = rw k.lines (rw k.bears (ap (λ ts. Win b ∷ ts) k.is));
      lines = rw k.lines rise_none;
      bears = rw k.bears rise_none;
      wins = k.rise;
      lives = k.lives;
    }

of_live : (b : LiveCount) (ss : List Said) → IsChain (Some (Live b)) ss → AreKinds (Live b ∷ ss)
of_live b ss h =
    let k = after_live b ss h in
    record {
      is = rw k.lines (rw k.bears (rw k.wins (ap (λ ts. Live b ∷ ts) k.is)));
      lines = rw k.lines rise_none;
      bears = rw k.bears rise_none;
      wins = rw k.wins rise_none;
      lives = k.rise;
    }

record AfterLine (n : ℕ) (ss : List Said) : Type 0 where
  kinds : AreKinds ss
  rise : IsStrictlyIncreasing (n ∷ line_numbers (lines_in ss))

no_more_lines : (n : ℕ) (ss : List Said) → AreKinds ss → lines_in ss ≡ [] → AfterLine n ss
no_more_lines n ss k none = record { kinds = k; rise = rw none (rise_one n) }

after_line : (a : LineEntry) (ss : List Said) → IsChain (Some (Line a)) ss → AfterLine a.line ss
after_line a [] h = record {
  kinds = record { is = refl; lines = rise_none; bears = rise_none; wins = rise_none; lives = rise_none };
  rise = rise_one a.line;
}
after_line a (Head g ∷ ss) h = absurd (cc)
after_line a (End p ∷ ss) h = absurd (cc)
after_line a (Line b ∷ ss) h =
    let k = after_line b ss h.1 in
    record {
      kinds = record {
        is = ap (λ ts. Line b ∷ ts) k.kinds.is;
        lines = k.rise;
        bears = k.kinds.bears;
        wins = k.kinds.wins;
        lives = k.kinds.lives;
      };
      rise = rise_cons a.line b.line (line_numbers (lines_in ss)) (below_of a.line b.line h.0) k.rise;
    }
after_line a (Bear b ∷ ss) h = no_more_lines a.line (Bear b ∷ ss) (of_bear b ss h.1) (after_bear b ss h.1).lines
after_line a (Win b ∷ ss) h = no_more_lines a.line (Win b ∷ ss) (of_win b ss h.1) (after_win b ss h.1).lines
after_line a (Live b ∷ ss) h = no_more_lines a.line (Live b ∷ ss) (of_live b ss h.1) (after_live b ss h.1).lines

pub after_end : (p : ℕ) (ss : List Said) → IsChain (Some (End p)) ss → AreKinds ss
after_end p [] h = record { is = refl; lines = rise_none; bears = rise_none; wins = rise_none; lives = rise_none }
after_end p (Head g ∷ ss) h = absurd (cc)
after_end p (End q ∷ ss) h = absurd (cc)
after_end p (Line b ∷ ss) h =
    let k = after_line b ss h.1 in
    record {
      is = ap (λ ts. Line b ∷ ts) k.kinds.is;
      lines = k.rise;
      bears = k.kinds.bears;
      wins = k.kinds.wins;
      lives = k.kinds.lives;
    }
after_end p (Bear b ∷ ss) h = of_bear b ss h.1
after_end p (Win b ∷ ss) h = of_win b ss h.1
after_end p (Live b ∷ ss) h = of_live b ss h.1
