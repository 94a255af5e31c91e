-- In which lines the entries of sectors stand, once a line is freed: those that stood in it stand
-- in none, and the others where they were.
use Rattle.std.proofs.Common.{◌≡◌, ◌≢◌, ℕ, ◌==◌, ◌&&◌, not, nat_eq, nat_lt, Bool, true, false, cond, Some, None, Option, List, [], ◌∷◌, length, refl, sym, ap, ap₂, ◌∙◌, if◌then◌else◌}
use Rattle.std.specs.List.{filter, find, last_or, range_with_len}
use Rattle.std.specs.Option.{option_and_then, option_map}
use Rattle.std.proofs.lemmas.Bool.{eqb-true, eqb-false}
use Rattle.pblk_model.specs.Contents.{counted, is_of, winner}
use Rattle.pblk_model.specs.Image.{Image}
use Rattle.pblk_model.specs.Records.{Record}
use Rattle.pblk_world.specs.Events.{Decides, Free, Logged}
use Rattle.pblk_world.specs.World.{World, Logs, log_of}
use Rattle.pblk_world.specs.EngineLog.{LineLife, has_landed, holds_position, is_as_found, life_of, Placed, placements, Taken, takes, was_lost}
use Rattle.pblk_world.specs.Fronts.{last_take}
use Rattle.pblk_world.specs.Lines.{found_image}
use Rattle.pblk_world.specs.Victims.{is_in_force, is_live_in, landed_line_of, line_of, line_of_winner, live, take_before, took_from}
use Rattle.pblk_world.specs.LegalMounts.{IsLegalMount}
use Rattle.core_laws.specs.RowsOf.{taker_by}
use Rattle.core_laws.specs.Stepping.{after}
use Rattle.core_laws.proofs.FreedLives.{force_freed, free_is_quiet, life_beside, life_freed}
use Rattle.core_laws.proofs.KeptRows.{live_same}
use Rattle.core_laws.proofs.PlacedAnew.{landed_not_lost, one_kept}
use Rattle.core_laws.proofs.QuietEvents.{quiet_alike}
use Rattle.core_laws.proofs.Steady.{AreAlike, lost_same}
use Rattle.core_laws.proofs.SteppingLemmas.{found_kept}
use Rattle.core_laws.proofs.TakenSlots.{landed_same}
use Rattle.pblk_model.proofs.Lists.{IsAmong, later}
use Rattle.pblk_model.proofs.Maps.{filter_none, filter_same, found_passes}
use Rattle.pblk_model.proofs.Lists.{all_of}
use Rattle.pblk_model.proofs.Parts.{contained_among}
use Rattle.pblk_model.proofs.Tests.{and_false, both, not_both, not_true, other_number, same_number}
use Rattle.pblk_world.proofs.EngineLogLemmas.{takes_more}
use Rattle.std.proofs.Common.{append-nil}

-- ---- another line

-- the line, where it isn't this one
abbrev pub unless : ℕ → Option ℕ → Option ℕ
unless line o = option_and_then (λ m. if m == line then None else Some m) o

pub of_unless : (m line : ℕ) (o : Option ℕ) → m ≢ line → is_of m (unless line o) ≡ is_of m o
of_unless m line None apart = refl
of_unless m line (Some k) apart = go (nat_eq k line) refl
  where
    go : (b : Bool) → nat_eq k line ≡ b → is_of m (if b then None else Some k) ≡ (k == m)
    go false e = refl
    go true e = sym (other_number k m (λ same. apart (sym same ∙ eqb-true k line e)))

pub none_unless : (line : ℕ) (o : Option ℕ) → is_of line (unless line o) ≡ false
none_unless line None = refl
none_unless line (Some k) = go (nat_eq k line) refl
  where
    go : (b : Bool) → nat_eq k line ≡ b → is_of line (if b then None else Some k) ≡ false
    go true e = refl
    go false e = e

-- where at most one passes the test, and those in the line pass no longer
find_unless : (line : ℕ) (f g : Placed → Bool) (ps : List Placed) → ((p : Placed) → g p ≡ (f p && not (p.stripe.line == line)))
    → ((p r : Placed) → IsAmong ps p → IsAmong ps r → f p ≡ true → f r ≡ true → p ≡ r)
    → option_map (λ (p : Placed). p.stripe.line) (find g ps) ≡ unless line (option_map (λ (p : Placed). p.stripe.line) (find f ps))
find_unless line f g [] same one = refl
find_unless line f g (x ∷ ps) same one = go (f x) refl (find_unless line f g ps same (λ p r a b. one p r (later x ps p a) (later x ps r b)))
  where
    none_else : f x ≡ true → x.stripe.line ≡ line → (o : Option Placed) → find g ps ≡ o → option_map (λ (p : Placed). p.stripe.line) o ≡ None
    none_else passes here None e = refl
    none_else passes here (Some y) e =
        let found = found_passes g ps y e in
        let parts = both (f y) (not (y.stripe.line == line)) (sym (same y) ∙ found.0) in
        let it : x ≡ y = one x y (0, refl) (later x ps y found.1) passes parts.0 in
        absurd (not_both (y.stripe.line == line) (ap (λ (p : Placed). p.stripe.line == line) (sym it) ∙ ap (λ n. n == line) here ∙ same_number line)
        (not_true (y.stripe.line == line) parts.1))

    by_line : f x ≡ true → (b : Bool) → nat_eq x.stripe.line line ≡ b
        → option_map (λ (p : Placed). p.stripe.line) (cond (g x) (Some x) (find g ps)) ≡ unless line (Some x.stripe.line)
    by_line passes true e =
        ap (λ b. option_map (λ (p : Placed). p.stripe.line) (cond b (Some x) (find g ps)))
        (same x ∙ and_false (f x) (not (x.stripe.line == line)) (ap not e))
        ∙ none_else passes (eqb-true x.stripe.line line e) (find g ps) refl
        ∙ sym (ap (λ b. if b then None else Some x.stripe.line) e)
    by_line passes false e =
        ap (λ b. option_map (λ (p : Placed). p.stripe.line) (cond b (Some x) (find g ps)))
        (same x ∙ ap₂ (λ a b. a && not b) passes e)
        ∙ sym (ap (λ b. if b then None else Some x.stripe.line) e)

    go : (b : Bool) → f x ≡ b
        → option_map (λ (p : Placed). p.stripe.line) (find g ps) ≡ unless line (option_map (λ (p : Placed). p.stripe.line) (find f ps))
        → option_map (λ (p : Placed). p.stripe.line) (cond (g x) (Some x) (find g ps))
        ≡ unless line (option_map (λ (p : Placed). p.stripe.line) (cond b (Some x) (find f ps)))
    go true e rest = by_line e (nat_eq x.stripe.line line) refl
    go false e rest =
        ap (λ b. option_map (λ (p : Placed). p.stripe.line) (cond b (Some x) (find g ps))) (same x ∙ ap (λ b. b && not (x.stripe.line == line)) e) ∙ rest

-- ---- entries

winner_freed : (i : Image) (logs : Logs) (line : ℕ) (knows : List ℕ) (lba : ℕ)
    → line_of_winner i (after logs (Free line) knows) lba ≡ unless line (line_of_winner i logs lba)
winner_freed i logs line knows lba =
    ap (λ (j : Image). option_and_then (λ (r : Record). if is_as_found (life_of (after logs (Free line) knows 0) r.line) then Some r.line else None)
    (winner (counted j) lba)) (found_kept i logs (Free line) knows refl)
    ∙ go (winner (counted (found_image i logs)) lba)
  where
    go : (o : Option Record)
        → option_and_then (λ (r : Record). if is_as_found (life_of (after logs (Free line) knows 0) r.line) then Some r.line else None) o
        ≡ unless line (option_and_then (λ (r : Record). if is_as_found (life_of (logs 0) r.line) then Some r.line else None) o)
    go None = refl
    go (Some r) = by (nat_eq r.line line) refl
      where
        gone : (b : Bool) → nat_eq r.line line ≡ true → unless line (if b then Some r.line else None) ≡ None
        gone true e = ap (λ b. if b then None else Some r.line) e
        gone false e = refl

        stays : (b : Bool) → nat_eq r.line line ≡ false → unless line (if b then Some r.line else None) ≡ (if b then Some r.line else None)
        stays true e = ap (λ b. if b then None else Some r.line) e
        stays false e = refl

        by : (b : Bool) → nat_eq r.line line ≡ b
            → (if is_as_found (life_of (after logs (Free line) knows 0) r.line) then Some r.line else None)
            ≡ unless line (if is_as_found (life_of (logs 0) r.line) then Some r.line else None)
        by true e =
            ap (λ (l : LineLife). if is_as_found l then Some r.line else None)
            (ap (life_of (after logs (Free line) knows 0)) (eqb-true r.line line e) ∙ life_freed (logs 0) line knows)
            ∙ sym (gone (is_as_found (life_of (logs 0) r.line)) e)
        by false e =
            ap (λ (l : LineLife). if is_as_found l then Some r.line else None) (life_beside (logs 0) line knows r.line (eqb-false r.line line e))
            ∙ sym (stays (is_as_found (life_of (logs 0) r.line)) e)

module _ (i : Image) (w : World) (mount : IsLegalMount i w) (line : ℕ) (knows : List ℕ) where
  abbrev log : List Logged
  log = log_of w 0

  abbrev new : Logs
  new = after (log_of w) (Free line) knows

  alike : AreAlike (log_of w 0) (after (log_of w) (Free line) knows 0)
  alike = quiet_alike (log_of w 0) (Free line) knows (free_is_quiet (log_of w 0) line knows)

  moved : (a b c d e : Bool) → b ≡ c → d ≡ e → (a && b && d) ≡ (a && c && e)
  moved a b c d e f g = ap₂ (λ x y. a && x && y) f g

  joined : (a b c d : Bool) → (a && b && (c && d)) ≡ (a && b && c && d)
  joined true true c d = refl
  joined true false c d = refl
  joined false b c d = refl

  same_takes : takes (after (log_of w) (Free line) knows 0) ≡ takes (log_of w 0)
  same_takes = takes_more log (record { event = Decides (Free line); knows = knows }) ∙ append-nil (takes log)

  abbrev placed_test : Logs → ℕ → Placed → Bool
  placed_test ls position p = holds_position i.shape position p && not (was_lost (ls 0) p) && is_in_force (ls 0) p.life p.stripe.line

  abbrev landed_test : Logs → ℕ → Placed → Bool
  landed_test ls position p = holds_position i.shape position p && has_landed (ls 0) p && is_in_force (ls 0) p.life p.stripe.line

  find_placed : (position : ℕ)
      → option_map (λ (p : Placed). p.stripe.line) (find (placed_test (after (log_of w) (Free line) knows) position) (placements (log_of w 0)))
      ≡ unless line (option_map (λ (p : Placed). p.stripe.line) (find (placed_test (log_of w) position) (placements (log_of w 0))))
  find_placed position = find_unless line (placed_test (log_of w) position) (placed_test new position) (placements log) less one
    where
      less : (p : Placed) → placed_test (after (log_of w) (Free line) knows) position p ≡ (placed_test (log_of w) position p && not (p.stripe.line == line))
      less p =
          moved (holds_position i.shape position p) (not (was_lost (new 0) p)) (not (was_lost log p)) (is_in_force (new 0) p.life p.stripe.line)
          (is_in_force log p.life p.stripe.line && not (p.stripe.line == line)) (ap not (lost_same log (new 0) alike p))
          (force_freed log line knows p.life p.stripe.line)
          ∙ joined (holds_position i.shape position p) (not (was_lost log p)) (is_in_force log p.life p.stripe.line) (not (p.stripe.line == line))

      holds : (p : Placed) → placed_test (log_of w) position p ≡ true → (holds_position i.shape position p ≡ true) × (was_lost (log_of w 0) p ≡ false)
      holds p e =
          let ends = both (holds_position i.shape position p && not (was_lost log p)) (is_in_force log p.life p.stripe.line) e in
          let parts = both (holds_position i.shape position p) (not (was_lost log p)) ends.0 in
          (parts.0, not_true (was_lost log p) parts.1)

      one : (p r : Placed) → IsAmong (placements (log_of w 0)) p → IsAmong (placements (log_of w 0)) r → placed_test (log_of w) position p ≡ true
          → placed_test (log_of w) position r ≡ true → p ≡ r
      one p r a b passes also = one_kept i w mount p r position (contained_among (placements log) p a) (contained_among (placements log) r b)
          (holds p passes).0 (holds r also).0 (holds p passes).1 (holds r also).1

  find_landed : (position : ℕ)
      → option_map (λ (p : Placed). p.stripe.line) (find (landed_test (after (log_of w) (Free line) knows) position) (placements (log_of w 0)))
      ≡ unless line (option_map (λ (p : Placed). p.stripe.line) (find (landed_test (log_of w) position) (placements (log_of w 0))))
  find_landed position = find_unless line (landed_test (log_of w) position) (landed_test new position) (placements log) less one
    where
      less : (p : Placed) → landed_test (after (log_of w) (Free line) knows) position p ≡ (landed_test (log_of w) position p && not (p.stripe.line == line))
      less p =
          moved (holds_position i.shape position p) (has_landed (new 0) p) (has_landed log p) (is_in_force (new 0) p.life p.stripe.line)
          (is_in_force log p.life p.stripe.line && not (p.stripe.line == line)) (landed_same log (new 0) alike p)
          (force_freed log line knows p.life p.stripe.line)
          ∙ joined (holds_position i.shape position p) (has_landed log p) (is_in_force log p.life p.stripe.line) (not (p.stripe.line == line))

      holds : (p : Placed) → landed_test (log_of w) position p ≡ true → (holds_position i.shape position p ≡ true) × (was_lost (log_of w 0) p ≡ false)
      holds p e =
          let ends = both (holds_position i.shape position p && has_landed log p) (is_in_force log p.life p.stripe.line) e in
          let parts = both (holds_position i.shape position p) (has_landed log p) ends.0 in
          (parts.0, landed_not_lost log p parts.1)

      one : (p r : Placed) → IsAmong (placements (log_of w 0)) p → IsAmong (placements (log_of w 0)) r → landed_test (log_of w) position p ≡ true
          → landed_test (log_of w) position r ≡ true → p ≡ r
      one p r a b passes also = one_kept i w mount p r position (contained_among (placements log) p a) (contained_among (placements log) r b)
          (holds p passes).0 (holds r also).0 (holds p passes).1 (holds r also).1

  pub line_freed : (lba : ℕ) (t : Option Taken) → line_of i (after (log_of w) (Free line) knows) lba t ≡ unless line (line_of i (log_of w) lba t)
  line_freed lba None = winner_freed i (log_of w) line knows lba
  line_freed lba (Some t) =
      ap (λ ps. option_map (λ (p : Placed). p.stripe.line) (find (placed_test new t.entry.position) ps)) alike.placements ∙ find_placed t.entry.position

  pub landed_freed : (lba : ℕ) (t : Option Taken)
      → landed_line_of i (after (log_of w) (Free line) knows) lba t ≡ unless line (landed_line_of i (log_of w) lba t)
  landed_freed lba None = winner_freed i (log_of w) line knows lba
  landed_freed lba (Some t) =
      ap (λ ps. option_map (λ (p : Placed). p.stripe.line) (find (landed_test new t.entry.position) ps)) alike.placements ∙ find_landed t.entry.position

  -- ---- live sectors and takers

  online_now : (lba m : ℕ) → is_live_in i (after (log_of w) (Free line) knows) m lba
      ≡ is_of m (unless line (line_of i (log_of w) lba (last_take (log_of w 0) lba)))
  online_now lba m =
      ap (λ (ts : List Taken). is_of m (line_of i new lba (last_or None (filter (λ (t : Taken). t.mark.lba == lba) ts)))) same_takes
      ∙ ap (is_of m) (line_freed lba (last_take log lba))

  -- of another line nothing changes
  pub live_beside : (m : ℕ) → m ≢ line → live i (after (log_of w) (Free line) knows) m ≡ live i (log_of w) m
  live_beside m apart = live_same i (log_of w) new m
      (λ lba. online_now lba m ∙ of_unless m line (line_of i (log_of w) lba (last_take log lba)) apart)

  pub taker_beside : (m : ℕ) → m ≢ line → taker_by i (after (log_of w) (Free line) knows) m ≡ taker_by i (log_of w) m
  taker_beside m apart =
      ap (λ (ts : List Taken). option_map (λ (t : Taken). t.entry.position) (last_or None ts))
      (filter_same (took_from i new m) (took_from i (log_of w) m) took (takes (new 0)) ∙ ap (filter (took_from i (log_of w) m)) same_takes)
    where
      took : (t : Taken) → took_from i (after (log_of w) (Free line) knows) m t ≡ took_from i (log_of w) m t
      took t = ap (λ b. nat_lt t.mark.lba i.shape.capacity && b)
          (ap (λ (ts : List Taken). is_of m
          (landed_line_of i new t.mark.lba (last_or None (filter (λ (u : Taken). (u.mark.lba == t.mark.lba) && nat_lt u.entry.position t.entry.position) ts))))
          same_takes
          ∙ ap (is_of m) (landed_freed t.mark.lba (take_before log t))
          ∙ of_unless m line (landed_line_of i (log_of w) t.mark.lba (take_before log t)) apart)

  -- and nothing is live in the line
  pub none_live : live i (after (log_of w) (Free line) knows) line ≡ 0
  none_live = ap length (filter_none (is_live_in i new line) (range_with_len 0 i.shape.capacity)
      (all_of (λ lba. is_live_in i new line lba ≡ false)
      (λ lba. online_now lba line ∙ none_unless line (line_of i (log_of w) lba (last_take log lba))) (range_with_len 0 i.shape.capacity)))
