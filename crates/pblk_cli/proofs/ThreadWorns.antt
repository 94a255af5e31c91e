-- Where the answers for want of room of each session were given, and that of the close.
use Rattle.std.proofs.Common.{◌≡◌, ℕ, ◌+◌, ◌<◌, ◌≤◌, zero, suc, Bool, true, false, cond, Some, Result, Ok, Err, List, [], ◌∷◌, ◌++◌, length, map, take, drop, slice_get, refl, sym, subst, ap, ◌∙◌, arith, le_refl}
use Rattle.std.specs.Prelude.{nat_lt}
use Rattle.std.specs.List.{filter, flat_map}
use Rattle.std.proofs.lemmas.Grind.{flat_map-append}
use Rattle.std.proofs.lemmas.List.{length-map, take-append-drop}
use Rattle.std.proofs.lemmas.Option.{none-some, same_Some}
use Rattle.pblk_model.specs.History.{users}
use Rattle.pblk_model.specs.Image.{Image}
use Rattle.pblk_model.proofs.HistoryLemmas.{few_users}
use Rattle.pblk_model.proofs.Parts.{take-all}
use Rattle.pblk_model.proofs.Tests.{lt_true, not_before}
use Rattle.pblk_world.specs.EngineLog.{Begun, begun}
use Rattle.pblk_world.specs.Events.{Logged}
use Rattle.pblk_world.specs.Fronts.{taken, user_takes}
use Rattle.pblk_world.specs.World.{Logs}
use Rattle.pblk_world.proofs.EngineLogLemmas.{begun_taken}
use Rattle.core_laws.specs.Positions.{AreNumbered}
use Rattle.block_port.specs.ByPlace.{ThreadWrite, all_lines, by_place, first_of, put_by}
use Rattle.block_port.specs.Own.{OwnWrite, PlacedSector, lines_of}
use Rattle.block_port.specs.Port.{positions}
use Rattle.block_port.specs.declared.rows.WornAnswer.{WornAnswer}
use Rattle.pblk_engine.specs.declared.errors.SettleErr.{SettleErr}
use Rattle.pblk_engine.specs.declared.errors.SettleErr.TheVariants as settle
use Rattle.block_target.specs.Closes.{AreWholeWrites, TellsClosed, writes_from}
use Rattle.block_target.specs.Sessions.{SessionView, WasRefused, WereRefused, history_lines, line_of}
use Rattle.block_target.proofs.ClosingAlone.{AllBelow, AllFrom, lines_from, positions_both, whole_first, writes_below}
use Rattle.block_target.proofs.LogLines.{IsMore, more_lines}
use Rattle.block_target.proofs.WornAnswers.{refusal_within}
use Rattle.run_report.proofs.Steps.{users-append}
use Rattle.run_report.specs.Report.{closing_of}
use Rattle.pblk_cli.specs.Serving.{trouble_of}
use Rattle.pblk_cli.specs.Worn.{AreRefusedBetween, IsRefusedThen, closing_worn}
use Rattle.pblk_cli.proofs.RefusedLines.{cause_for, rest_within}

-- ---- how many positions stand below one of them

users_all : (n : ℕ) (xs : List ℕ) → AllBelow n xs → users xs n ≡ length xs
users_all n [] below = refl
users_all n (x ∷ xs) below =
    ap (λ (b : Bool). length (cond b (x ∷ filter (λ q. nat_lt q n) xs) (filter (λ q. nat_lt q n) xs))) (lt_true x n below.0) ∙ ap suc (users_all n xs below.1)

users_none : (n : ℕ) (xs : List ℕ) → AllFrom n xs → users xs n ≡ 0
users_none n [] past = refl
users_none n (x ∷ xs) past =
    ap (λ (b : Bool). length (cond b (x ∷ filter (λ q. nat_lt q n) xs) (filter (λ q. nat_lt q n) xs))) (not_before x n past.0) ∙ users_none n xs past.1

-- of lines

lines_both : (xs ys : List PlacedSector) (n : ℕ) → users (positions (xs ++ ys)) n ≡ users (positions xs) n + users (positions ys) n
lines_both xs ys n = ap (λ ps. users ps n) (positions_both xs ys) ∙ users-append (positions xs) (positions ys) n

-- the order of writes doesn't matter

put_counted : (n : ℕ) (w : ThreadWrite) (ws : List ThreadWrite)
    → users (positions (all_lines (put_by first_of w ws))) n ≡ users (positions (lines_of w.write)) n + users (positions (all_lines ws)) n
put_counted n w [] = lines_both (lines_of w.write) [] n
put_counted n w (y ∷ ws) = go (put_counted n w ws) (nat_lt (first_of y) (first_of w))
  where
    behind : users (positions (all_lines (y ∷ ws))) n ≡ users (positions (lines_of y.write)) n + users (positions (all_lines ws)) n
    behind = lines_both (lines_of y.write) (all_lines ws) n

    go : users (positions (all_lines (put_by first_of w ws))) n ≡ users (positions (lines_of w.write)) n + users (positions (all_lines ws)) n
        → (b : Bool) → users (positions (all_lines (cond b (y ∷ put_by first_of w ws) (w ∷ y ∷ ws)))) n
        ≡ users (positions (lines_of w.write)) n + users (positions (all_lines (y ∷ ws))) n
    go more true =
        let here = lines_both (lines_of y.write) (all_lines (put_by first_of w ws)) n in
        omega (arith, here, more, behind)
    go more false = lines_both (lines_of w.write) (all_lines (y ∷ ws)) n

order_counted : (n : ℕ) (ws : List ThreadWrite) → users (positions (all_lines (by_place ws))) n ≡ users (positions (all_lines ws)) n
order_counted n [] = refl
order_counted n (w ∷ ws) =
    let put = put_counted n w (by_place ws) in
    let rest = order_counted n ws in
    let here = lines_both (lines_of w.write) (all_lines ws) n in
    omega (arith, put, rest, here)

-- a session's writes are among all

own_are : (thread : ℕ) (own : List OwnWrite) → all_lines (map (λ w. record { thread = thread; write = w }) own) ≡ flat_map lines_of own
own_are thread [] = refl
own_are thread (w ∷ own) = ap (λ (ls : List PlacedSector). lines_of w ++ ls) (own_are thread own)

among_counted : (n from : ℕ) (ts : List SessionView) (k : ℕ) (t : SessionView) → slice_get ts k ≡ Some t
    → users (positions (flat_map lines_of t.own)) n ≤ users (positions (all_lines (writes_from from ts))) n
among_counted n from [] k t there = absurd (none-some t there)
among_counted n from (x ∷ ts) k t there = by (λ j. among_counted n (suc from) ts j t) k there
  where
    parts : users (positions (all_lines (writes_from from (x ∷ ts)))) n
        ≡ users (positions (flat_map lines_of x.own)) n + users (positions (all_lines (writes_from (suc from) ts))) n
    parts =
        ap (λ (ls : List PlacedSector). users (positions ls) n)
        (flat_map-append (λ (w : ThreadWrite). lines_of w.write) (map (λ w. record { thread = from; write = w }) x.own) (writes_from (suc from) ts))
        ∙ lines_both (all_lines (map (λ w. record { thread = from; write = w }) x.own)) (all_lines (writes_from (suc from) ts)) n
        ∙ ap (λ (ls : List PlacedSector). users (positions ls) n + users (positions (all_lines (writes_from (suc from) ts))) n) (own_are from x.own)

    by : ((j : ℕ) → slice_get ts j ≡ Some t
        → users (positions (flat_map lines_of t.own)) n ≤ users (positions (all_lines (writes_from (suc from) ts))) n)
        → (j : ℕ) → slice_get (x ∷ ts) j ≡ Some t → users (positions (flat_map lines_of t.own)) n ≤ users (positions (all_lines (writes_from from (x ∷ ts)))) n
    by rest zero is =
        let same : users (positions (flat_map lines_of x.own)) n ≡ users (positions (flat_map lines_of t.own)) n =
        ap (λ (y : SessionView). users (positions (flat_map lines_of y.own)) n) (same_Some x t is) in
        omega (arith, parts, same)
    by rest (suc j) is =
        let more = rest j is in
        omega (arith, parts, more)

-- ---- a session's refusals

module _ (i : Image) (logs : Logs) (first : Begun) (begins : begun (logs 0) ≡ Some first) (numbered : AreNumbered (logs 0)) (own : List OwnWrite)
    (whole : AreWholeWrites own)
    (counted : (n : ℕ) → users (positions (flat_map lines_of own)) n ≤ users (positions (history_lines (logs 0))) n) where
  -- the sectors that it had written are among those that users' writes took by then
  refused_then : (claimed n : ℕ) (a : WornAnswer) → WasRefused i logs own claimed n a → IsRefusedThen i logs n a
  refused_then claimed n a was = record { written = few; cause = cause_for i logs n a.count a.wanted a.have was.cause }
    where
      early : List Logged
      early = take n (logs 0)

      upto : ℕ
      upto = taken early

      some : 0 < n
      some = (refusal_within i logs n a.count a.wanted a.have was.cause).0

      is : IsMore early (logs 0)
      is = more_lines early (logs 0) first (drop n (logs 0), take-append-drop n (logs 0)) (begun_taken n (logs 0) some ∙ begins) numbered

      before : List OwnWrite
      before = take was.count own

      -- all that was written before it lies below that front
      all_before : users (positions (flat_map lines_of before)) upto ≡ length (flat_map lines_of before)
      all_before = users_all upto (positions (flat_map lines_of before)) (writes_below upto before (whole_first was.count own whole) was.all_taken)
          ∙ length-map (flat_map lines_of before) (λ (x : PlacedSector). x.position)

      part : users (positions (flat_map lines_of before)) upto ≤ users (positions (flat_map lines_of own)) upto
      part =
          let both = ap (λ (ws : List OwnWrite). users (positions (flat_map lines_of ws)) upto) (sym (take-append-drop was.count own))
          ∙ ap (λ (ls : List PlacedSector). users (positions ls) upto) (flat_map-append lines_of before (drop was.count own))
          ∙ lines_both (flat_map lines_of before) (flat_map lines_of (drop was.count own)) upto in
          omega (arith, both)

      -- the lines below it are those of that part of the log
      whole_history : users (positions (history_lines (logs 0))) upto ≤ length (user_takes early)
      whole_history =
          let both = ap (λ (ls : List PlacedSector). users (positions ls) upto) is.lines ∙ lines_both (history_lines early) is.more upto in
          let none = users_none upto (positions is.more) (lines_from upto upto (taken (logs 0)) is.more (le_refl upto) is.rise) in
          let most = few_users (positions (history_lines early)) upto in
          let long = length-map (history_lines early) (λ (x : PlacedSector). x.position) ∙ length-map (user_takes early) line_of in
          omega (arith, both, none, most, long)

      few : a.written ≤ length (user_takes early)
      few =
          let all = counted upto in
          let is_written = was.written in
          omega (arith, all_before, part, all, whole_history, is_written)

  pub refused_between : (claimed from : ℕ) (worns : List WornAnswer) → from ≤ length (logs 0) → WereRefused i logs own claimed from worns
      → AreRefusedBetween i logs from (length (logs 0)) worns
  refused_between claimed from [] low were = low
  refused_between claimed from (a ∷ worns) low were = (
    were.0,
    were.1,
    refused_then claimed were.0 a were.2,
    refused_between claimed were.0 worns (rest_within i logs were.0 a.count a.wanted a.have were.2.cause) were.3,
  )

-- of one of several sessions whose writes are the history
pub session_refused : (i : Image) (logs : Logs) (first : Begun) → begun (logs 0) ≡ Some first → AreNumbered (logs 0) → (lasts : List SessionView)
    → history_lines (logs 0) ≡ all_lines (by_place (writes_from 0 lasts)) → (k : ℕ) (t : SessionView) → slice_get lasts k ≡ Some t
    → AreWholeWrites t.own → (claimed : ℕ) (worns : List WornAnswer) → WereRefused i logs t.own claimed 0 worns
    → AreRefusedBetween i logs 0 (length (logs 0)) worns
session_refused i logs first begins numbered lasts history k t there whole claimed worns were =
    refused_between i logs first begins numbered t.own whole
    (λ n.
    let among = among_counted n 0 lasts k t there in
    let order = order_counted n (writes_from 0 lasts) in
    let same = ap (λ (ls : List PlacedSector). users (positions ls) n) history in
    omega (arith, among, order, same))
    claimed 0 worns (omega arith) were

-- ---- the close's refusal, which comes last

pub close_refused : (i : Image) (logs : Logs) (settled : Result Unit SettleErr) (written : ℕ) → TellsClosed i logs settled
    → written ≤ length (user_takes (logs 0))
    → AreRefusedBetween i logs (length (logs 0)) (length (logs 0)) (closing_worn written (closing_of (trouble_of settled)))
close_refused i logs (Ok x) written tells few = le_refl (length (logs 0))
close_refused i logs (Err (settle.Drive unit event)) written tells few = le_refl (length (logs 0))
close_refused i logs (Err (settle.Worn wanted have)) written tells few = (
  length (logs 0),
  le_refl (length (logs 0)),
  record {
    written = subst (λ (log : List Logged). written ≤ length (user_takes log)) (sym (take-all (logs 0))) few;
    cause = tells.1;
  },
  le_refl (length (logs 0)),
)
