-- The newest start record that has landed, and what an opened line has of its start record, after
-- each event of the engine.
use Rattle.std.proofs.Common.{◌≡◌, ◌⊎◌, inl, inr, ℕ, ◌+◌, ◌-◌, ◌*◌, ◌<◌, ◌≤◌, ◌==◌, not, nat_eq, nat_le, nat_lt, ◌&&◌, zero, suc, Bool, true, false, cond, Some, None, Option, List, [], ◌∷◌, ◌++◌, length, take, drop, refl, sym, subst, ap, ap₂, ◌∙◌, arith, append-nil, length-take, if◌then◌else◌}
use Rattle.std.specs.Prelude.{slice_get}
use Rattle.std.specs.List.{AllByRecursion, Contains, filter, find, last_or, list_all}
use Rattle.std.specs.Option.{option_and_then, option_map, option_map_or, option_to_list}
use Rattle.std.proofs.lemmas.Bool.{cases_lt, cases_order, eqb-true}
use Rattle.std.proofs.lemmas.Option.{same_Some}
use Rattle.pblk_model.specs.declared.found.Found.{Found}
use Rattle.pblk_model.specs.declared.found.LineRow.{LineRow}
use Rattle.pblk_model.specs.declared.shape.Shape.{Shape}
use Rattle.pblk_model.specs.Accepted.{IsAccepted}
use Rattle.pblk_model.specs.Contents.{head}
use Rattle.pblk_model.specs.Image.{Image}
use Rattle.pblk_model.specs.LineOrder.{start_len}
use Rattle.pblk_model.specs.StartRecord.{StartRecord}
use Rattle.pblk_model.proofs.LeastLengths.{start_len_positive}
use Rattle.pblk_world.specs.EngineLog.{Begun, begun, has_failed, has_landed, was_lost, is_life, life_of, Opened, opened_by, Opening, openings, Placed, placements, stripes_of}
use Rattle.pblk_world.specs.Events.{Begin, Decides, EngineEvent, Landed, Logged, Lost, Open, Place, Stripe}
use Rattle.pblk_world.specs.Lines.{found_by, found_image, next_seq}
use Rattle.pblk_world.specs.Starts.{has_landed_start, newest_start, start_stripes}
use Rattle.pblk_world.specs.World.{World, Logs, log_of}
use Rattle.pblk_world.proofs.Answered.{answers_fit}
use Rattle.pblk_world.proofs.Appending.{openings_more}
use Rattle.pblk_world.proofs.EngineLogLemmas.{begun_stays, opened_same}
use Rattle.world_laws.specs.Finding.{IsFoundOf, line_row}
use Rattle.pblk_world.specs.LegalMounts.{IsLegalMount}
use Rattle.world_laws.specs.MountBeginnings.{beginning_of}
use Rattle.world_laws.proofs.Begun.{begun_with}
use Rattle.world_laws.proofs.FoundEmpty.{all_pass}
use Rattle.world_laws.proofs.Later.{lost_later}
use Rattle.world_laws.proofs.UnitTurns.{rise_all, rise_between, some_rise}
use Rattle.world_laws.proofs.FoundCounts.{IsHeadAt, head_at}
use Rattle.world_laws.proofs.FoundRows.{row_at}
use Rattle.world_laws.proofs.LineStripes.{start_whole, stripes_before}
use Rattle.world_laws.proofs.StartRecords.{seq_of_nth}
use Rattle.world_laws.proofs.Stripes.{life_of_stripe, one_opening, opening_then}
use Rattle.core_laws.specs.ClosedLines.{StartNumbers, head_numbers, is_landed_whole, newer_start, newest_numbers, starts_left}
use Rattle.core_laws.specs.LandedStripes.{keeps_landed, places}
use Rattle.core_laws.specs.PlacerOf.{unanswered_on}
use Rattle.core_laws.specs.Stepping.{after}
use Rattle.core_laws.proofs.Answered.{first_unanswered}
use Rattle.core_laws.proofs.Engine.{opened_number}
use Rattle.core_laws.proofs.FirstAnswers.{have_landed_stays}
use Rattle.core_laws.proofs.FirstPassing.{all_by_left, first_kept}
use Rattle.core_laws.proofs.LatestStarts.{IsBelow, newer_by, numbers_of, starts}
use Rattle.core_laws.proofs.LostStripe.{one_lost, landed_same as landed_same_lost}
use Rattle.core_laws.proofs.PlacedAnew.{landed_not_lost}
use Rattle.core_laws.proofs.Steady.{AreAlike}
use Rattle.core_laws.proofs.StripesAfter.{alike_still, landed_beside, landed_placed, landed_still, new_number, none_of_first, none_of_pad, none_yet, one_of_first, placed_in, placed_waits, stripe_stays, stripes_placed, stripes_still}
use Rattle.core_laws.proofs.TakenSlots.{landed_same}
use Rattle.core_laws.proofs.Taking.{filter_last}
use Rattle.pblk_model.proofs.Lists.{IsAmong, all_everywhere, all_imply, among_all, among_contained}
use Rattle.pblk_model.proofs.Options.{some_value}
use Rattle.pblk_model.proofs.Maps.{all_agree, all_filter, any_found, found_passes, filter_agree, filter_same, filter_short}
use Rattle.pblk_model.proofs.Parts.{all_at, all_by_get, all_taken, contained_among, get_taken, get_whole_within, take_and_drop, take_nothing}
use Rattle.pblk_model.proofs.Tests.{and_both, and_true, both, first_of, below_of, not_both, other_number}

-- ---- stripes of a start record that haven't landed

-- where all first stripes have landed, none of the line was lost when they were placed
module _ (log : List Logged) (o : Opening) (n : ℕ) (landed : list_all (has_landed log) (take n (stripes_of log o)) ≡ true) where
  abbrev IsWhole : Placed → Type 0
  IsWhole p = has_failed (take p.number log) o ≡ false

  none_before : (k : ℕ) (p : Placed) → k < n → slice_get (stripes_of log o) k ≡ Some p → (q : Placed) → Contains (stripes_of (take p.number log) o) q
      → was_lost (take p.number log) q ≡ true → ⊥
  none_before k p low at q there lost =
      let earlier : List Logged = take p.number log in
      let parts : earlier ++ drop p.number log ≡ log = take_and_drop p.number log in
      let first : IsAmong (stripes_of earlier o) q = among_contained (stripes_of earlier o) q there in
      let there_now : slice_get (stripes_of log o) first.0 ≡ Some q = stripe_stays log p.number o first.0 q first.1 in
      let inside : q.number < length earlier = all_at (λ (x : Placed). x.number < length earlier) (stripes_of earlier o) first.0 q first.1
      (stripes_before earlier o) in
      let less : q.number < p.number = omega (arith, length-take p.number log) in
      let before : first.0 < k = by (cases_lt first.0 k) there_now less in
      let its : has_landed log q ≡ true = all_pass (has_landed log) (take n (stripes_of log o)) first.0 q landed
      (get_taken n (stripes_of log o) first.0 (omega arith) ∙ there_now) in
      let gone : was_lost log q ≡ true = subst (λ (xs : List Logged). was_lost xs q ≡ true) parts (lost_later earlier (drop p.number log) q inside lost) in
      not_both (was_lost log q) gone (landed_not_lost log q its)
    where
      by : {j : ℕ} → (j < k) ⊎ (k ≤ j) → slice_get (stripes_of log o) j ≡ Some q → q.number < p.number → j < k
      by (inl h) there less = h
      by {j} (inr h) there less = at_or_past (cases_order k j)
        where
          at_or_past : (k ≡ j) ⊎ ((k < j) ⊎ (j < k)) → j < k
          at_or_past (inl e) =
              let same : q ≡ p = same_Some q p (sym there ∙ ap (slice_get (stripes_of log o)) (sym e) ∙ at) in
              let number : q.number ≡ p.number = ap (λ (x : Placed). x.number) same in
              absurd (omega arith)
          at_or_past (inr (inl past)) =
              let rises : p.number < q.number = rise_between (stripes_of log o) k j p q
              (some_rise (λ (x : Placed). is_life o.number x.life) (placements log) (rise_all log)) past at there in
              absurd (omega arith)
          at_or_past (inr (inr low)) = low

  whole_firsts : AllByRecursion (λ (p : Placed). has_failed (take p.number log) o ≡ false) (take n (stripes_of log o))
  whole_firsts = all_by_get IsWhole (take n (stripes_of log o)) (λ k p at.
      let its = get_whole_within n (stripes_of log o) k p at in
      by k p its.1 its.0 (has_failed (take p.number log) o) refl)
    where
      by : (k : ℕ) (p : Placed) → k < n → slice_get (stripes_of log o) k ≡ Some p → (b : Bool) → has_failed (take p.number log) o ≡ b → b ≡ false
      by k p low at false e = refl
      by k p low at true e =
          let lost : Placed → Bool = was_lost (take p.number log) in
          let ps : List Placed = stripes_of (take p.number log) o in
          let found = some_value (find lost ps) (sym (any_found lost ps) ∙ e) in
          let passes = found_passes lost ps found.0 found.1 in
          absurd (none_before k p low at found.0 (contained_among ps found.0 passes.1) passes.0)

both_pass : (f g : Placed → Bool) (ps : List Placed) → list_all (λ p. f p && g p) ps ≡ true → list_all f ps ≡ true
both_pass f g [] all = refl
both_pass f g (p ∷ ps) all =
    let parts = both (f p && g p) (list_all (λ q. f q && g q) ps) all in
    and_both (f p) (list_all f ps) (first_of (f p) (g p) parts.0) (both_pass f g ps parts.1)

-- all have landed exactly where none is left
landed_by_left : (s : Shape) (log : List Logged) (o : Opening) → has_landed_start s log o ≡ (starts_left s log o == 0)
landed_by_left s log o =
    ap (λ b. nat_le (start_stripes s) (length (stripes_of log o)) && b)
    (go (list_all (has_landed log) first) (list_all (is_landed_whole log o) first) refl refl)
    ∙ all_by_left (is_landed_whole log o) (start_stripes s) (stripes_of log o)
  where
    first : List Placed
    first = take (start_stripes s) (stripes_of log o)

    go : (a b : Bool) → list_all (has_landed log) (take (start_stripes s) (stripes_of log o)) ≡ a
        → list_all (is_landed_whole log o) (take (start_stripes s) (stripes_of log o)) ≡ b
        → list_all (has_landed log) (take (start_stripes s) (stripes_of log o)) ≡ list_all (is_landed_whole log o) (take (start_stripes s) (stripes_of log o))
    go true b e f =
        all_agree (λ (p : Placed). has_failed (take p.number log) o ≡ false) (has_landed log) (is_landed_whole log o)
        (λ p whole. sym (ap (λ c. has_landed log p && not c) whole ∙ and_true (has_landed log p) true refl)) (take (start_stripes s) (stripes_of log o))
        (whole_firsts log o (start_stripes s) e)
    go false false e f = e ∙ sym f
    go false true e f =
        absurd (not_both (list_all (has_landed log) (take (start_stripes s) (stripes_of log o)))
        (both_pass (has_landed log) (λ p. not (has_failed (take p.number log) o)) (take (start_stripes s) (stripes_of log o)) f) e)

pub none_left : (s : Shape) (log : List Logged) (o : Opening) → starts_left s log o ≡ 0 → has_landed_start s log o ≡ true
none_left s log o none = landed_by_left s log o ∙ ap (λ n. n == 0) none

pub some_left : (s : Shape) (log : List Logged) (o : Opening) → has_landed_start s log o ≡ true → starts_left s log o ≡ 0
some_left s log o landed = eqb-true (starts_left s log o) 0 (sym (landed_by_left s log o) ∙ landed)

-- where the same ones of its stripes have landed
left_same : (s : Shape) (logs : Logs) (e : EngineEvent) (knows : List ℕ) (o : Opening) → places e ≡ false
    → AllByRecursion (λ (p : Placed). is_landed_whole (after logs e knows 0) o p ≡ is_landed_whole (logs 0) o p) (stripes_of (logs 0) o)
    → starts_left s (after logs e knows 0) o ≡ starts_left s (logs 0) o
left_same s logs e knows o none same =
    let n : ℕ = start_stripes s in
    let new : List Logged = after logs e knows 0 in
    ap (λ (ps : List Placed). n - length (filter (is_landed_whole new o) (take n ps))) (stripes_still (logs 0) e knows o none)
    ∙ ap (λ (ps : List Placed). n - length ps)
    (filter_agree (λ (q : Placed). is_landed_whole new o q ≡ is_landed_whole (logs 0) o q) (is_landed_whole new o) (is_landed_whole (logs 0) o)
    (λ q e. e) (take n (stripes_of (logs 0) o))
    (all_taken (λ (q : Placed). is_landed_whole new o q ≡ is_landed_whole (logs 0) o q) n (stripes_of (logs 0) o) same))

no_place : (e : EngineEvent) → keeps_landed e ≡ true → places e ≡ false
no_place (Place stripe) keeps = absurd cc
no_place e keeps = refl

pub left_kept : (s : Shape) (logs : Logs) (e : EngineEvent) (knows : List ℕ) (o : Opening) → keeps_landed e ≡ true
    → starts_left s (after logs e knows 0) o ≡ starts_left s (logs 0) o
left_kept s logs e knows o keeps =
    let new : List Logged = after logs e knows 0 in
    let alike : AreAlike (logs 0) (after logs e knows 0) = alike_still (logs 0) e knows keeps in
    left_same s logs e knows o (no_place e keeps)
    (landed_still (logs 0) e knows o (all_everywhere (λ (p : Placed). has_landed new p ≡ has_landed (logs 0) p) (stripes_of (logs 0) o)
    (landed_same (logs 0) new alike)))

-- a line that is opened has none
left_new : (s : Shape) (logs : Logs) (e : EngineEvent) (knows : List ℕ) (o : Opening) → places e ≡ false → length (logs 0) ≤ o.number
    → starts_left s (after logs e knows 0) o ≡ start_stripes s
left_new s logs e knows o none new =
    let n : ℕ = start_stripes s in
    ap (λ (ps : List Placed). n - length (filter (is_landed_whole (after logs e knows 0) o) (take n ps))) (none_yet (logs 0) e knows o none new)
    ∙ ap (λ (ps : List Placed). n - length (filter (is_landed_whole (after logs e knows 0) o) ps)) (take_nothing n)
    ∙ omega arith

pub left_opened : (s : Shape) (logs : Logs) (line : ℕ) (start : StartRecord) (knows : List ℕ) (o : Opening)
    → life_of (after logs (Open line start) knows 0) line ≡ Opened o
    → starts_left s (after logs (Open line start) knows 0) o ≡ start_stripes s
left_opened s logs line start knows o is =
    let number : o.number ≡ length (logs 0) = new_number (logs 0) line start knows o is in
    left_new s logs (Open line start) knows o refl (omega arith)

pub left_placed : (i : Image) (w : World) (stripe : Stripe) (knows : List ℕ) (o : Opening) → IsLegalMount i w
    → starts_left i.shape (after (log_of w) (Place stripe) knows 0) o ≡ starts_left i.shape (log_of w 0) o
left_placed i w stripe knows o mount =
    let n : ℕ = start_stripes i.shape in
    let log : List Logged = log_of w 0 in
    let new : List Logged = after (log_of w) (Place stripe) knows 0 in
    let b : Bool = is_life o.number (life_of log stripe.line) in
    let more : List Placed = cond b (placed_in log stripe (life_of log stripe.line) ∷ []) [] in
    ap (λ (ps : List Placed). n - length (filter (is_landed_whole new o) (take n ps))) (stripes_placed log stripe knows o b refl)
    ∙ ap (λ m. n - m) (first_kept (is_landed_whole log o) (is_landed_whole new o) n (stripes_of log o) more
    (landed_still log (Place stripe) knows o (landed_placed log stripe knows o))
    (all_imply (λ (p : Placed). has_landed new p ≡ false) (λ (p : Placed). is_landed_whole new o p ≡ false)
    (λ p waits. ap (λ c. c && not (has_failed (take p.number new) o)) waits) more
    (placed_waits log stripe knows o b refl (answers_fit i w stripe.unit mount.legal))))

-- one less where a stripe of the start record has landed: it is one of the line's first ones, and
-- no pad
pub left_landed : (s : Shape) (logs : Logs) (unit event : ℕ) (knows : List ℕ) (p : Placed) (o : Opening) (k : ℕ)
    → unanswered_on (logs 0) unit ≡ Some p → slice_get (stripes_of (logs 0) o) k ≡ Some p
    → (if nat_lt k (start_stripes s) && not (has_failed (take p.number (logs 0)) o) then starts_left s (after logs (Landed unit event) knows 0) o + 1
    else starts_left s (after logs (Landed unit event) knows 0) o) ≡ starts_left s (logs 0) o
left_landed s logs unit event knows p o k waits at =
    go (nat_lt k (start_stripes s)) (has_failed (take p.number (logs 0)) o) refl refl
  where
    same : starts_left s (after logs (Landed unit event) knows 0) o
        ≡ start_stripes s - length (filter (is_landed_whole (after logs (Landed unit event) knows 0) o) (take (start_stripes s) (stripes_of (logs 0) o)))
    same = ap (λ (ps : List Placed). start_stripes s - length (filter (is_landed_whole (after logs (Landed unit event) knows 0) o) (take (start_stripes s) ps)))
        (stripes_still (logs 0) (Landed unit event) knows o refl)

    few : length (filter (is_landed_whole (after logs (Landed unit event) knows 0) o) (take (start_stripes s) (stripes_of (logs 0) o))) ≤ start_stripes s
    few =
        let first : List Placed = take (start_stripes s) (stripes_of (logs 0) o) in
        let short : length (filter (is_landed_whole (after logs (Landed unit event) knows 0) o) first) ≤ length first =
        filter_short (is_landed_whole (after logs (Landed unit event) knows 0) o) first in
        omega (arith, length-take (start_stripes s) (stripes_of (logs 0) o))

    go : (b c : Bool) → nat_lt k (start_stripes s) ≡ b → has_failed (take p.number (logs 0)) o ≡ c
        → (if b && not c then starts_left s (after logs (Landed unit event) knows 0) o + 1 else starts_left s (after logs (Landed unit event) knows 0) o)
        ≡ starts_left s (logs 0) o
    go true false e whole =
        let within : k < start_stripes s = below_of k (start_stripes s) e in
        let more : length (filter (is_landed_whole (after logs (Landed unit event) knows 0) o) (take (start_stripes s) (stripes_of (logs 0) o)))
        ≡ length (filter (is_landed_whole (logs 0) o) (take (start_stripes s) (stripes_of (logs 0) o))) + 1 =
        one_of_first (logs 0) unit event knows p o k (start_stripes s) waits at whole within in
        omega (arith, same, few, more)
    go false false e whole =
        let past : start_stripes s ≤ k = grind arith in
        same ∙ ap (λ m. start_stripes s - m) (none_of_first (logs 0) unit event knows p o k (start_stripes s) waits at whole past)
    go true true e failed = left_same s logs (Landed unit event) knows o refl (none_of_pad (logs 0) unit event knows p o k (start_stripes s) waits at failed)
    go false true e failed = left_same s logs (Landed unit event) knows o refl (none_of_pad (logs 0) unit event knows p o k (start_stripes s) waits at failed)

pub left_others : (s : Shape) (logs : Logs) (unit event : ℕ) (knows : List ℕ) (p : Placed) (o : Opening)
    → unanswered_on (logs 0) unit ≡ Some p → is_life o.number p.life ≡ false
    → starts_left s (after logs (Landed unit event) knows 0) o ≡ starts_left s (logs 0) o
left_others s logs unit event knows p o waits apart =
    left_same s logs (Landed unit event) knows o refl
    (landed_still (logs 0) (Landed unit event) knows o (landed_beside (logs 0) unit event knows p o waits apart))

-- a stripe that was lost hasn't landed
pub left_lost : (s : Shape) (logs : Logs) (unit event : ℕ) (knows : List ℕ) (p : Placed) (o : Opening) → unanswered_on (logs 0) unit ≡ Some p
    → starts_left s (after logs (Lost unit event) knows 0) o ≡ starts_left s (logs 0) o
left_lost s logs unit event knows p o waits =
    let new : List Logged = after logs (Lost unit event) knows 0 in
    left_same s logs (Lost unit event) knows o refl
    (landed_still (logs 0) (Lost unit event) knows o
    (all_filter (λ (q : Placed). has_landed new q ≡ has_landed (logs 0) q) (λ (q : Placed). is_life o.number q.life) (placements (logs 0))
    (all_imply (IsAmong (placements (logs 0))) (λ (q : Placed). has_landed new q ≡ has_landed (logs 0) q)
    (λ q there. landed_same_lost (logs 0) new p q (one_lost (logs 0) unit event knows p waits) there) (placements (logs 0))
    (among_all (placements (logs 0))))))

-- ---- the newest start record

-- a start record takes stripes
product_some : (a b c : ℕ) → a ≡ b * c → 0 < a → 0 < b
product_some a zero c is some = absurd (omega arith)
product_some a (suc b) c is some = omega arith

some_stripes : (s : Shape) → IsAccepted s → 0 < start_stripes s
some_stripes s accepted =
    product_some (start_len s) (start_stripes s) s.ws_opt (start_whole s accepted.drive.ws_opt) (start_len_positive s accepted)

found_still : (i : Image) (logs : Logs) (e : EngineEvent) (knows : List ℕ) (b : Begun) → begun (logs 0) ≡ Some b
    → found_image i (after logs e knows) ≡ found_image i logs
found_still i logs e knows b begins =
    ap (found_by i (after logs e knows)) (begun_stays (logs 0) (record { event = Decides e; knows = knows }) b begins)
    ∙ ap (found_by i logs) (sym begins)

-- by the openings whose start record has landed
newest_by : (i : Image) (logs : Logs) (e : EngineEvent) (knows : List ℕ) (b : Begun) → begun (logs 0) ≡ Some b
    → filter (has_landed_start i.shape (after logs e knows 0)) (openings (after logs e knows 0))
    ≡ filter (has_landed_start i.shape (logs 0)) (openings (logs 0))
    → newest_start i (after logs e knows) ≡ newest_start i logs
newest_by i logs e knows b begins same = ap₂ (λ (j : Image) os. last_or (head j) (starts os)) (found_still i logs e knows b begins) same

test_same : (s : Shape) (log new : List Logged) (o : Opening) → starts_left s new o ≡ starts_left s log o
    → has_landed_start s new o ≡ has_landed_start s log o
test_same s log new o same = landed_by_left s new o ∙ ap (λ n. n == 0) same ∙ sym (landed_by_left s log o)

-- it is the same after an event that neither places nor answers a stripe, once the mount has begun
pub newest_start_kept : (i : Image) (logs : Logs) (b : Begun) (e : EngineEvent) (knows : List ℕ) → IsAccepted i.shape → begun (logs 0) ≡ Some b
    → keeps_landed e ≡ true → newest_start i (after logs e knows) ≡ newest_start i logs
newest_start_kept i logs b e knows accepted begins keeps = newest_by i logs e knows b begins
    (ap (filter (has_landed_start i.shape (after logs e knows 0))) (openings_more (logs 0) (record { event = Decides e; knows = knows }))
    ∙ go (opened_by (length (logs 0)) knows (Decides e)) refl)
  where
    new : Opening → Bool
    new = has_landed_start i.shape (after logs e knows 0)

    old : Opening → Bool
    old = has_landed_start i.shape (logs 0)

    kept : filter (has_landed_start i.shape (after logs e knows 0)) (openings (logs 0)) ≡ filter (has_landed_start i.shape (logs 0)) (openings (logs 0))
    kept = filter_same new old (λ o. test_same i.shape (logs 0) (after logs e knows 0) o (left_kept i.shape logs e knows o keeps)) (openings (logs 0))

    go : (o : Option Opening) → opened_by (length (logs 0)) knows (Decides e) ≡ o
        → filter (has_landed_start i.shape (after logs e knows 0)) (openings (logs 0) ++ option_to_list o)
        ≡ filter (has_landed_start i.shape (logs 0)) (openings (logs 0))
    go None is = ap (filter new) (append-nil (openings (logs 0))) ∙ kept
    go (Some o) is =
        let number : o.number ≡ length (logs 0) = opened_number (length (logs 0)) knows (Decides e) o is in
        let some : 0 < start_stripes i.shape = some_stripes i.shape accepted in
        let left : starts_left i.shape (after logs e knows 0) o ≡ start_stripes i.shape =
        left_new i.shape logs e knows o (no_place e keeps) (omega arith) in
        filter_last new (openings (logs 0)) o false
        (landed_by_left i.shape (after logs e knows 0) o ∙ other_number (starts_left i.shape (after logs e knows 0) o) 0 (λ none. absurd (omega arith)))
        ∙ append-nil (filter new (openings (logs 0))) ∙ kept

pub newest_kept : (i : Image) (w : World) (b : Begun) (e : EngineEvent) (knows : List ℕ) → IsLegalMount i w → begun (log_of w 0) ≡ Some b
    → keeps_landed e ≡ true → newest_numbers i (after (log_of w) e knows) ≡ newest_numbers i (log_of w)
newest_kept i w b e knows mount begins keeps = ap (option_map numbers_of) (newest_start_kept i (log_of w) b e knows mount.accepted begins keeps)

pub newest_placed : (i : Image) (w : World) (b : Begun) (stripe : Stripe) (knows : List ℕ) → IsLegalMount i w → begun (log_of w 0) ≡ Some b
    → newest_numbers i (after (log_of w) (Place stripe) knows) ≡ newest_numbers i (log_of w)
newest_placed i w b stripe knows mount begins =
    let new : List Logged = after (log_of w) (Place stripe) knows 0 in
    ap (option_map numbers_of) (newest_by i (log_of w) (Place stripe) knows b begins
    (ap (filter (has_landed_start i.shape new)) (openings_more (log_of w 0) (record { event = Decides (Place stripe); knows = knows })
    ∙ append-nil (openings (log_of w 0)))
    ∙ filter_same (has_landed_start i.shape new) (has_landed_start i.shape (log_of w 0))
    (λ o. test_same i.shape (log_of w 0) new o (left_placed i w stripe knows o mount)) (openings (log_of w 0))))

pub newest_lost : (i : Image) (w : World) (b : Begun) (unit event : ℕ) (knows : List ℕ) (p : Placed) → begun (log_of w 0) ≡ Some b
    → unanswered_on (log_of w 0) unit ≡ Some p → newest_numbers i (after (log_of w) (Lost unit event) knows) ≡ newest_numbers i (log_of w)
newest_lost i w b unit event knows p begins waits =
    let new : List Logged = after (log_of w) (Lost unit event) knows 0 in
    ap (option_map numbers_of) (newest_by i (log_of w) (Lost unit event) knows b begins
    (ap (filter (has_landed_start i.shape new)) (openings_more (log_of w 0) (record { event = Decides (Lost unit event); knows = knows })
    ∙ append-nil (openings (log_of w 0)))
    ∙ filter_same (has_landed_start i.shape new) (has_landed_start i.shape (log_of w 0))
    (λ o. test_same i.shape (log_of w 0) new o (left_lost i.shape (log_of w) unit event knows p o waits)) (openings (log_of w 0))))

-- it is that of the line in which a stripe has landed, if that was the last stripe of its start
-- record, and if that record is newer
module _ (i : Image) (w : World) (b : Begun) (unit event : ℕ) (knows : List ℕ) (p : Placed) (o : Opening) (mount : IsLegalMount i w)
    (begins : begun (log_of w 0) ≡ Some b) (waits : unanswered_on (log_of w 0) unit ≡ Some p) (life : p.life ≡ Opened o) where
  abbrev log : List Logged
  log = log_of w 0

  abbrev new : List Logged
  new = after (log_of w) (Landed unit event) knows 0

  its : IsAmong (openings (log_of w 0)) o
  its =
      let there : Contains (placements log) p =
      contained_among (placements log) p (first_unanswered log unit p waits).among in
      let was = life_of_stripe i w p mount.legal there in
      let same : o ≡ was.0 = opened_same o was.0 (sym life ∙ was.1) in
      among_contained (openings log) o (subst (Contains (openings log)) (sym same) (opening_then log p.number p.stripe.line was.0 was.2).0)

  others_kept : AllByRecursion (λ x. (x ≡ o)
      ⊎ (has_landed_start i.shape (after (log_of w) (Landed unit event) knows 0) x ≡ has_landed_start i.shape (log_of w 0) x))
      (openings (log_of w 0))
  others_kept = all_imply (IsAmong (openings log))
      (λ x. (x ≡ o) ⊎ (has_landed_start i.shape new x ≡ has_landed_start i.shape log x)) (λ x at. go x at (nat_eq o.number x.number) refl)
      (openings log) (among_all (openings log))
    where
      go : (x : Opening) → IsAmong (openings (log_of w 0)) x → (c : Bool) → nat_eq o.number x.number ≡ c
          → (x ≡ o) ⊎ (has_landed_start i.shape (after (log_of w) (Landed unit event) knows 0) x ≡ has_landed_start i.shape (log_of w 0) x)
      go x at true e = inl (one_opening log x o (contained_among (openings log) x at) (contained_among (openings log) o its)
          (sym (eqb-true o.number x.number e)))
      go x at false e = inr (test_same i.shape log new x
          (left_others i.shape (log_of w) unit event knows p x waits (ap (is_life x.number) life ∙ e)))

  openings_still : openings (after (log_of w) (Landed unit event) knows 0) ≡ openings (log_of w 0)
  openings_still = openings_more log (record { event = Decides (Landed unit event); knows = knows }) ∙ append-nil (openings log)

  unchanged : has_landed_start i.shape (after (log_of w) (Landed unit event) knows 0) o ≡ has_landed_start i.shape (log_of w 0) o
      → newest_numbers i (after (log_of w) (Landed unit event) knows) ≡ newest_numbers i (log_of w)
  unchanged same =
      ap (option_map numbers_of) (newest_by i (log_of w) (Landed unit event) knows b begins
      (ap (filter (has_landed_start i.shape new)) openings_still
      ∙ filter_agree (λ x. (x ≡ o) ⊎ (has_landed_start i.shape new x ≡ has_landed_start i.shape log x)) (has_landed_start i.shape new)
      (has_landed_start i.shape log)
      (λ x h. elim h as (λ _. has_landed_start i.shape new x ≡ has_landed_start i.shape log x) [
        | inl e ↦ ap (has_landed_start i.shape new) e ∙ same ∙ ap (has_landed_start i.shape log) (sym e)
        | inr e ↦ e
      ])
      (openings log) others_kept))

  head_older : IsBelow b.beginning.seq (head (found_image i (log_of w)))
  head_older m is =
      let next : b.beginning.seq ≡ m.seq + 1 = (begun_with i w b mount.legal begins).seq ∙ ap next_seq is in omega arith

  changed : has_landed_start i.shape (log_of w 0) o ≡ false → has_landed_start i.shape (after (log_of w) (Landed unit event) knows 0) o ≡ true
      → newest_numbers i (after (log_of w) (Landed unit event) knows)
      ≡ newer_start (newest_numbers i (log_of w)) (record { seq = o.start.seq; front = o.start.front })
  changed before now =
      ap₂ (λ (j : Image) os. option_map numbers_of (last_or (head j) (starts (filter (has_landed_start i.shape new) os))))
      (found_still i (log_of w) (Landed unit event) knows b begins) openings_still
      ∙ newer_by (has_landed_start i.shape log) (has_landed_start i.shape new) o before now (openings log) its.0 b.beginning.seq
      (head (found_image i (log_of w))) its.1 (λ j x at. seq_of_nth i w j x b mount.legal begins at) head_older others_kept

  pub newest_landed : newest_numbers i (after (log_of w) (Landed unit event) knows)
      ≡ (if has_landed_start i.shape (after (log_of w) (Landed unit event) knows 0) o && not (has_landed_start i.shape (log_of w 0) o)
      then newer_start (newest_numbers i (log_of w)) (record { seq = o.start.seq; front = o.start.front }) else newest_numbers i (log_of w))
  newest_landed = go (has_landed_start i.shape log o) (has_landed_start i.shape new o) refl refl
    where
      go : (c d : Bool) → has_landed_start i.shape (log_of w 0) o ≡ c → has_landed_start i.shape (after (log_of w) (Landed unit event) knows 0) o ≡ d
          → newest_numbers i (after (log_of w) (Landed unit event) knows)
          ≡ (if d && not c then newer_start (newest_numbers i (log_of w)) (record { seq = o.start.seq; front = o.start.front })
          else newest_numbers i (log_of w))
      go false true before now = changed before now
      go false false before now = unchanged (now ∙ sym before)
      go true true before now = unchanged (now ∙ sym before)
      go true false before now = absurd (not_both (has_landed_start i.shape new o)
          (have_landed_stays log unit event knows o (start_stripes i.shape) before) now)

-- the head that was found
abbrev numbers_in : Found → Option ℕ → Option StartNumbers
numbers_in f o = option_and_then (λ line. option_and_then
    (λ (row : LineRow). option_map (λ seq. record { seq = seq; front = f.front }) row.seq) (slice_get f.lines line)) o

head_found : (j : Image) (f : Found) → IsFoundOf j f → option_map numbers_of (head j) ≡ head_numbers f
head_found j f is = go (head j) refl
  where
    go : (o : Option StartRecord) → head j ≡ o → option_map numbers_of o ≡ head_numbers f
    go None e = ap (numbers_in f) (sym (is.head_is ∙ ap (option_map (λ (h : StartRecord). h.line)) e))
    go (Some h) e =
        let at : IsHeadAt j h = head_at j h e in
        let row : slice_get f.lines h.line ≡ Some (line_row j h.line) = row_at j f h.line is at.is_head.here in
        let front : f.front ≡ h.front = is.front_is ∙ ap (λ (o : Option StartRecord). option_map_or (λ (x : StartRecord). x.front) o 0) e in
        sym (ap (numbers_in f) (is.head_is ∙ ap (option_map (λ (x : StartRecord). x.line)) e)
        ∙ ap (option_and_then (λ (row : LineRow). option_map (λ seq. record { seq = seq; front = f.front }) row.seq)) row
        ∙ ap (λ (o : Option StartRecord). option_map (λ seq. record { seq = seq; front = f.front }) (option_map (λ (r : StartRecord). r.seq) o))
        at.is_head.whole
        ∙ ap (λ n. Some (record { seq = h.seq; front = n })) front)

-- at the beginning it is the head
pub newest_begun : (i : Image) (logs : Logs) (f : Found) (knows : List ℕ) → logs 0 ≡ []
    → IsFoundOf (found_image i (after logs (Begin (beginning_of f)) knows)) f
    → newest_numbers i (after logs (Begin (beginning_of f)) knows) ≡ head_numbers f
newest_begun i logs f knows none found =
    ap (λ (xs : List Logged). option_map numbers_of (last_or (head (found_image i (after logs (Begin (beginning_of f)) knows)))
    (starts (filter (has_landed_start i.shape (after logs (Begin (beginning_of f)) knows 0))
    (openings (xs ++ record { event = Decides (Begin (beginning_of f)); knows = knows } ∷ [])))))) none
    ∙ head_found (found_image i (after logs (Begin (beginning_of f)) knows)) f found
