-- Where a target had one session, its refusals are exact.
use Rattle.std.proofs.Common.{◌≡◌, ℕ, ◌+◌, ◌<◌, ◌≤◌, zero, suc, Some, Result, List, [], ◌∷◌, ◌++◌, length, take, refl, sym, subst, ap, ◌∙◌, arith, append-nil}
use Rattle.std.specs.Prelude.{drop, map, slice_get}
use Rattle.std.specs.List.{AllByRecursion, flat_map}
use Rattle.std.proofs.lemmas.Grind.{flat_map-append}
use Rattle.std.proofs.lemmas.List.{length-map, map-append, take-append-drop}
use Rattle.pblk_model.specs.Image.{Image}
use Rattle.pblk_model.proofs.Lists.{all_append, all_imply}
use Rattle.pblk_world.specs.EngineLog.{Begun, begun}
use Rattle.pblk_world.specs.Events.{Logged}
use Rattle.pblk_world.specs.Fronts.{first_position, taken, user_takes}
use Rattle.pblk_world.specs.World.{Logs, World, log_of}
use Rattle.pblk_world.proofs.EngineLogLemmas.{begun_taken}
use Rattle.core_laws.specs.Positions.{AreNumbered}
use Rattle.unit_port.specs.Unit.{ModelUnit}
use Rattle.block_port.specs.ByPlace.{KeysRise, ThreadWrite, all_lines, by_place, first_of}
use Rattle.block_port.specs.Own.{OwnWrite, PlacedSector, lines_of}
use Rattle.block_port.specs.Port.{Rise, positions}
use Rattle.block_port.specs.declared.rows.WornAnswer.{WornAnswer}
use Rattle.block_port.proofs.Ordering.{rising_stay}
use Rattle.block_port.proofs.PlacedLines.{rise_order}
use Rattle.block_port.proofs.PortLemmas.{rise_placed}
use Rattle.pblk_engine.specs.declared.errors.SettleErr.{SettleErr}
use Rattle.block_target.specs.Closes.{AreWholeWrites, IsTold, writes_from, worns_in}
use Rattle.block_target.specs.Refusals.{AreRefusals, IsRefusedAt}
use Rattle.block_target.specs.Sessions.{BeginPast, EndBelow, PlacesRise, SessionView, WasRefused, WereRefused, history_lines, line_of}
use Rattle.block_target.proofs.LogLines.{IsMore, more_lines}
use Rattle.block_target.proofs.WornAnswers.{refusal_within}

-- ---- numbers that are parted at one of them

abbrev pub AllBelow : ℕ → List ℕ → Type 0
AllBelow n xs = AllByRecursion (λ x. x < n) xs

abbrev pub AllFrom : ℕ → List ℕ → Type 0
AllFrom n xs = AllByRecursion (λ x. n ≤ x) xs

-- a number at or past n isn't below it
no_start : (n c : ℕ) (bs cs : List ℕ) → bs ≡ c ∷ cs → AllFrom n bs → c < n → ⊥
no_start n c bs cs is high low = let least : n ≤ c = (subst (AllFrom n) is high).0 in omega arith

-- the same numbers are parted in one way
same_part : (n : ℕ) (xs ys us vs : List ℕ) → xs ++ ys ≡ us ++ vs → AllBelow n xs → AllFrom n ys → AllBelow n us → AllFrom n vs → length xs ≡ length us
same_part n [] ys [] vs is low high below above = refl
same_part n [] ys (u ∷ us) vs is low high below above = absurd (no_start n u ys (us ++ vs) is high below.0)
same_part n (x ∷ xs) ys [] vs is low high below above = absurd (no_start n x vs (xs ++ ys) (sym is) above low.0)
same_part n (x ∷ xs) ys (u ∷ us) vs is low high below above =
    ap (λ k. suc k) (same_part n xs ys us vs (let rest : xs ++ ys ≡ us ++ vs = cc in rest) low.1 high below.1 above)

-- ---- where lines lie

pub lines_from : (low from to : ℕ) (lines : List PlacedSector) → low ≤ from → Rise from to lines → AllFrom low (positions lines)
lines_from low from to [] le rise = tt
lines_from low from to (x ∷ lines) le rise =
    let at : from ≤ x.position = rise.0 in (omega arith, lines_from low (x.position + 1) to lines (omega arith) rise.1)

pub lines_below : (from to : ℕ) (lines : List PlacedSector) → Rise from to lines → AllBelow to (positions lines)
lines_below from to [] rise = tt
lines_below from to (x ∷ lines) rise =
    let high : x.position + 1 ≤ to = rise_order (x.position + 1) to lines rise.1 in (omega arith, lines_below (x.position + 1) to lines rise.1)

pub positions_both : (xs ys : List PlacedSector) → positions (xs ++ ys) ≡ positions xs ++ positions ys
positions_both xs ys = map-append (λ (x : PlacedSector). x.position) xs ys

-- of writes that end below a position
pub writes_below : (n : ℕ) (own : List OwnWrite) → AreWholeWrites own → EndBelow n own → AllBelow n (positions (flat_map lines_of own))
writes_below n [] whole ends = tt
writes_below n (w ∷ own) whole ends =
    let high : w.place.first + length w.sectors ≤ n = (let e : length w.sectors ≡ w.place.count = whole.0.1 in
    let b : w.place.first + w.place.count ≤ n = ends.0 in omega arith) in
    subst (AllBelow n) (sym (positions_both (lines_of w) (flat_map lines_of own)))
    (all_append (λ x. x < n) (positions (lines_of w)) (positions (flat_map lines_of own))
    (all_imply (λ x. x < w.place.first + length w.sectors) (λ x. x < n) (λ x low. omega arith) (positions (lines_of w))
    (lines_below w.place.first (w.place.first + length w.sectors) (lines_of w) (rise_placed w.place.first w.lba w.sectors)))
    (writes_below n own whole.1 ends.1))

-- and of writes that begin at or past it
writes_past : (n : ℕ) (own : List OwnWrite) → BeginPast n own → AllFrom n (positions (flat_map lines_of own))
writes_past n [] past = tt
writes_past n (w ∷ own) past =
    subst (AllFrom n) (sym (positions_both (lines_of w) (flat_map lines_of own)))
    (all_append (λ x. n ≤ x) (positions (lines_of w)) (positions (flat_map lines_of own))
    (lines_from n w.place.first (w.place.first + length w.sectors) (lines_of w) past.0 (rise_placed w.place.first w.lba w.sectors))
    (writes_past n own past.1))

-- ---- the writes of one session, in their order

abbrev of_first : OwnWrite → ThreadWrite
of_first w = record { thread = 0; write = w }

rising_keys : (own : List OwnWrite) → PlacesRise own → KeysRise first_of (map of_first own)
rising_keys [] rising = tt
rising_keys (w ∷ own) rising = (later own rising.0, rising_keys own rising.1)
  where
    later : (vs : List OwnWrite) → AllByRecursion (λ v. w.place.first + w.place.count ≤ v.place.first) vs
        → AllByRecursion (λ y. w.place.first ≤ first_of y) (map of_first vs)
    later [] past = tt
    later (v ∷ vs) past = (let b : w.place.first + w.place.count ≤ v.place.first = past.0 in omega arith, later vs past.1)

lines_are : (own : List OwnWrite) → all_lines (map of_first own) ≡ flat_map lines_of own
lines_are [] = refl
lines_are (w ∷ own) = ap (λ (rest : List PlacedSector). lines_of w ++ rest) (lines_are own)

pub own_lines : (t : SessionView) → PlacesRise t.own → all_lines (by_place (writes_from 0 (t ∷ []))) ≡ flat_map lines_of t.own
own_lines t rising =
    ap (λ (ws : List ThreadWrite). all_lines (by_place ws)) (append-nil (map of_first t.own))
    ∙ ap all_lines (rising_stay first_of (map of_first t.own) (rising_keys t.own rising)) ∙ lines_are t.own

-- a session's first writes have as many sectors as their places too
pub whole_first : (n : ℕ) (own : List OwnWrite) → AreWholeWrites own → AreWholeWrites (take n own)
whole_first zero own whole = tt
whole_first (suc n) [] whole = tt
whole_first (suc n) (w ∷ own) whole = (whole.0, whole_first n own whole.1)

-- ---- its refusals

module _ (i : Image) (logs : Logs) (first : Begun) (begins : begun (logs 0) ≡ Some first) (numbered : AreNumbered (logs 0)) (own : List OwnWrite)
    (whole : AreWholeWrites own) (history : history_lines (logs 0) ≡ flat_map lines_of own) where
  -- the sectors that it had written are all that users' writes took by then
  refused_exactly : (claimed n : ℕ) (a : WornAnswer) → WasRefused i logs own claimed n a → IsRefusedAt i logs n a
  refused_exactly claimed n a was = record { written = exact; cause = was.cause }
    where
      early : List Logged
      early = take n (logs 0)

      upto : ℕ
      upto = taken early

      some : 0 < n
      some = (refusal_within i logs n a.count a.wanted a.have was.cause).0

      is : IsMore early (logs 0)
      is = more_lines early (logs 0) first (drop n (logs 0), take-append-drop n (logs 0)) (begun_taken n (logs 0) some ∙ begins) numbered

      before : List OwnWrite
      before = take was.count own

      later : List OwnWrite
      later = drop was.count own

      -- the history is parted at that position, by the log and by the session's writes
      parted : positions (history_lines early) ++ positions is.more ≡ positions (flat_map lines_of before) ++ positions (flat_map lines_of later)
      parted =
          sym (positions_both (history_lines early) is.more) ∙ ap positions (sym is.lines ∙ history)
          ∙ ap (λ (ws : List OwnWrite). positions (flat_map lines_of ws)) (sym (take-append-drop was.count own))
          ∙ ap positions (flat_map-append lines_of before later) ∙ positions_both (flat_map lines_of before) (flat_map lines_of later)

      same : length (positions (history_lines early)) ≡ length (positions (flat_map lines_of before))
      same = same_part upto (positions (history_lines early)) (positions is.more) (positions (flat_map lines_of before))
          (positions (flat_map lines_of later)) parted (lines_below (first_position early) upto (history_lines early) is.before)
          (lines_from upto upto (taken (logs 0)) is.more (omega arith) is.rise)
          (writes_below upto before (whole_first was.count own whole) was.all_taken) (writes_past upto later was.after)

      exact : length (user_takes early) ≡ a.written
      exact =
          sym (length-map (user_takes early) line_of) ∙ sym (length-map (history_lines early) (λ (x : PlacedSector). x.position)) ∙ same
          ∙ length-map (flat_map lines_of before) (λ (x : PlacedSector). x.position) ∙ sym was.written

  pub all_exact : (claimed from : ℕ) (worns : List WornAnswer) → WereRefused i logs own claimed from worns → AreRefusals i logs from worns
  all_exact claimed from [] were = tt
  all_exact claimed from (a ∷ worns) were = (were.0, were.1, refused_exactly claimed were.0 a were.2, all_exact claimed were.0 worns were.3)

-- in a closed world
pub alone_refused : (i : Image) (handed : List ModelUnit) (w : World) (settled : Result (Unit {0}) SettleErr) (first : Begun) (tickets : List SessionView)
    → begun (log_of w 0) ≡ Some first → AreNumbered (log_of w 0) → history_lines (log_of w 0) ≡ all_lines (by_place (writes_from 0 tickets))
    → ((k : ℕ) (t : SessionView) → slice_get tickets k ≡ Some t → IsTold i handed w settled k t)
    → (t : SessionView) → tickets ≡ t ∷ [] → AreRefusals i (log_of w) 0 (worns_in 0 t settled)
alone_refused i handed w settled first tickets begins numbered history told t is =
    let its : IsTold i handed w settled 0 t = told 0 t (ap (λ (ts : List SessionView). slice_get ts 0) is) in
    let lines : history_lines (log_of w 0) ≡ flat_map lines_of t.own =
    history ∙ ap (λ (ts : List SessionView). all_lines (by_place (writes_from 0 ts))) is ∙ own_lines t its.rising in
    all_exact i (log_of w) first begins numbered t.own its.whole lines (taken (log_of w 0)) 0 (worns_in 0 t settled) its.worns
