-- What a session's calls refused for want of room, and that it stays so as logs grow.
use Rattle.std.proofs.Common.{◌≡◌, ℕ, ◌+◌, ◌-◌, ◌<◌, ◌≤◌, zero, suc, Option, List, [], ◌∷◌, ◌++◌, length, take, sym, ap, ap₂, subst, ◌∙◌, arith, le_trans, length-append}
use Rattle.std.specs.Prelude.{drop, slice_get}
use Rattle.std.specs.List.{flat_map}
use Rattle.std.proofs.Math.Seq.{take-length}
use Rattle.std.proofs.lemmas.List.{drop-append-le, drop_all, take-append-drop, take-append-le}
use Rattle.pblk_model.specs.Image.{Image}
use Rattle.pblk_model.proofs.Lists.{all_append, all_imply}
use Rattle.pblk_model.proofs.Numbers.{fun_same}
use Rattle.pblk_model.proofs.Parts.{get_first}
use Rattle.pblk_world.specs.AtRest.{IsAtRest, IsResting, IsWornFlush, knows_last, logs_at}
use Rattle.pblk_world.specs.Events.{Logged}
use Rattle.pblk_world.specs.Fronts.{synced, taken}
use Rattle.pblk_world.specs.Reasons.{WasRoom}
use Rattle.pblk_world.specs.Space.{room}
use Rattle.pblk_world.specs.World.{Logs, log_of}
use Rattle.block_port.specs.Own.{OwnWrite, lines_of}
use Rattle.block_port.specs.declared.rows.WornAnswer.{WornAnswer}
use Rattle.chronicle.specs.Prefixes.{AreLegalLogs, ArePrefixes, Prefixes, logs_of}
use Rattle.chronicle.proofs.PrefixLemmas.{begins_length}
use Rattle.pblk_engine.proofs.OnceRoom.{last_within}
use Rattle.pblk_engine.proofs.Settlings.{taken_prefix}
use Rattle.block_target.specs.Refusals.{IsRefusal, IsWriteRefusal}
use Rattle.block_target.specs.Sessions.{BeginPast, EndBelow, WasRefused, WereRefused}

-- ---- longer logs

-- the logs at a length that was there stay
logs_then : (i : Image) (early late : Prefixes) (n : ℕ) → AreLegalLogs i early → ArePrefixes early late → 0 < n → n ≤ length (logs_of early 0)
    → logs_at n (logs_of late) ≡ logs_at n (logs_of early)
logs_then i early late n legal keeps some within = fun_same (logs_at n (logs_of late)) (logs_at n (logs_of early)) each
  where
    own : (author : ℕ) → log_of legal.world author ≡ logs_of early author
    own author = ap (λ (l : Logs). l author) legal.logs

    last : slice_get (logs_of late 0) (n - 1) ≡ slice_get (logs_of early 0) (n - 1)
    last = ap (λ (log : List Logged). slice_get log (n - 1)) (sym (keeps.each 0).1) ∙ get_first (logs_of early 0) (keeps.each 0).0 (n - 1) (omega arith)

    knew : (unit : ℕ) → knows_last (slice_get (logs_of early 0) (n - 1)) (suc unit) ≤ length (logs_of early (suc unit))
    knew unit =
        subst (λ (log : List Logged). knows_last (slice_get log (n - 1)) (suc unit) ≤ length (logs_of early (suc unit))) (own 0)
        (subst (λ (log : List Logged). knows_last (slice_get (log_of legal.world 0) (n - 1)) (suc unit) ≤ length log) (own (suc unit))
        (last_within i legal.world (n - 1) (suc unit) legal.legal))

    each : (author : ℕ) → logs_at n (logs_of late) author ≡ logs_at n (logs_of early) author
    each zero = ap (take n) (sym (keeps.each 0).1) ∙ take-append-le n (logs_of early 0) (keeps.each 0).0 within
    each (suc unit) =
        ap₂ (λ (o : Option Logged) (log : List Logged). take (knows_last o (suc unit)) log) last (sym (keeps.each (suc unit)).1)
        ∙ take-append-le (knows_last (slice_get (logs_of early 0) (n - 1)) (suc unit)) (logs_of early (suc unit)) (keeps.each (suc unit)).0 (knew unit)

-- a refusal is at a length of the engine's log
pub refusal_within : (i : Image) (logs : Logs) (n count wanted have : ℕ) → IsRefusal i logs n count wanted have → (0 < n) × (n ≤ length (logs 0))
refusal_within i logs n zero wanted have is = (is.at_rest.has_begun, is.at_rest.within)
refusal_within i logs n (suc others) wanted have is = (is.worn.at_rest.has_begun, is.worn.at_rest.within)

module _ (i : Image) (early late : Prefixes) (n : ℕ) (legal : AreLegalLogs i early) (keeps : ArePrefixes early late) where
  rest_later : (asked : ℕ) → IsAtRest i (logs_of early) asked n → IsAtRest i (logs_of late) asked n
  rest_later asked at = record {
    has_begun = at.has_begun;
    within = le_trans at.within (begins_length (logs_of early 0) (logs_of late 0) (keeps.each 0));
    resting = subst (λ (logs : Logs). IsResting i logs asked) (sym (logs_then i early late n legal keeps at.has_begun at.within)) at.resting;
  }

  flush_later : (wanted have : ℕ) → IsWornFlush i (logs_of early) n wanted have → IsWornFlush i (logs_of late) n wanted have
  flush_later wanted have is =
      let same : logs_at n (logs_of late) ≡ logs_at n (logs_of early) =
      logs_then i early late n legal keeps is.at_rest.has_begun is.at_rest.within in
      record {
        at_rest = rest_later wanted is.at_rest;
        above = is.above;
        is_synced = is.is_synced ∙ ap (λ (logs : Logs). synced i.shape (logs 0)) (sym same);
        all_taken = subst (λ (logs : Logs). wanted ≤ taken (logs 0)) (sym same) is.all_taken;
      }

  room_then : (upto : ℕ) → n ≤ length (logs_of early 0) → WasRoom i (logs_of early) n upto → WasRoom i (logs_of late) n upto
  room_then upto within was = record {
    at = was.at;
    has_begun = was.has_begun;
    within = was.within;
    room = subst (λ (logs : Logs). upto ≤ room i logs) (sym (logs_then i early late was.at legal keeps was.has_begun (le_trans was.within within))) was.room;
  }

  write_later : (count wanted have : ℕ) → IsWriteRefusal i (logs_of early) n count wanted have → IsWriteRefusal i (logs_of late) n count wanted have
  write_later count wanted have is =
      let same : logs_at n (logs_of late) ≡ logs_at n (logs_of early) =
      logs_then i early late n legal keeps is.worn.at_rest.has_begun is.worn.at_rest.within in
      record {
        worn = record {
          at_rest = rest_later 0 is.worn.at_rest;
          above = is.worn.above;
          room = subst (λ (logs : Logs). room i logs ≤ have) (sym same) is.worn.room;
          own_count = subst (λ (logs : Logs). wanted ≤ taken (logs 0) + count) (sym same) is.worn.own_count;
        };
        granted = room_then have is.worn.at_rest.within is.granted;
        own_count = is.own_count ∙ ap (λ (logs : Logs). taken (logs 0) + count) (sym same);
      }

  refusal_later : (count wanted have : ℕ) → IsRefusal i (logs_of early) n count wanted have → IsRefusal i (logs_of late) n count wanted have
  refusal_later zero wanted have is = flush_later wanted have is
  refusal_later (suc others) wanted have is = write_later (suc others) wanted have is

  refused_later : (own : List OwnWrite) (low high : ℕ) (a : WornAnswer) → low ≤ high → WasRefused i (logs_of early) own low n a
      → WasRefused i (logs_of late) own high n a
  refused_later own low high a le is =
      let at : (0 < n) × (n ≤ length (logs_of early 0)) = refusal_within i (logs_of early) n a.count a.wanted a.have is.cause in
      let same : logs_at n (logs_of late) ≡ logs_at n (logs_of early) = logs_then i early late n legal keeps at.0 at.1 in
      record {
        count = is.count;
        made = is.made;
        written = is.written;
        all_taken = subst (λ (logs : Logs). EndBelow (taken (logs 0)) (take is.count own)) (sym same) is.all_taken;
        after = subst (λ (logs : Logs). BeginPast (taken (logs 0)) (drop is.count own)) (sym same) is.after;
        before = subst (λ (logs : Logs). taken (logs 0) ≤ high) (sym same) (le_trans is.before le);
        cause = refusal_later a.count a.wanted a.have is.cause;
      }

-- ---- all refusals

-- in longer logs, and with more claimed
pub all_later : (i : Image) (early late : Prefixes) (own : List OwnWrite) (low high from : ℕ) (worns : List WornAnswer) → AreLegalLogs i early
    → ArePrefixes early late → low ≤ high → WereRefused i (logs_of early) own low from worns → WereRefused i (logs_of late) own high from worns
all_later i early late own low high from [] legal keeps le were = tt
all_later i early late own low high from (a ∷ worns) legal keeps le were = (
  were.0,
  were.1,
  refused_later i early late were.0 legal keeps own low high a le were.2,
  all_later i early late own low high were.0 worns legal keeps le were.3,
)

-- where a position is claimed
pub all_claimed : (i : Image) (logs : Logs) (own : List OwnWrite) (low high from : ℕ) (worns : List WornAnswer) → low ≤ high
    → WereRefused i logs own low from worns → WereRefused i logs own high from worns
all_claimed i logs own low high from [] le were = tt
all_claimed i logs own low high from (a ∷ worns) le were =
    let is = were.2 in (
      were.0,
      were.1,
      record {
        count = is.count;
        made = is.made;
        written = is.written;
        all_taken = is.all_taken;
        after = is.after;
        before = le_trans is.before le;
        cause = is.cause;
      },
      all_claimed i logs own low high were.0 worns le were.3,
    )

-- what was taken by then was taken
pub all_taken : (i : Image) (logs : Logs) (own : List OwnWrite) (claimed from : ℕ) (worns : List WornAnswer) → WereRefused i logs own claimed from worns
    → WereRefused i logs own (taken (logs 0)) from worns
all_taken i logs own claimed from [] were = tt
all_taken i logs own claimed from (a ∷ worns) were =
    let is = were.2 in (
      were.0,
      were.1,
      record {
        count = is.count;
        made = is.made;
        written = is.written;
        all_taken = is.all_taken;
        after = is.after;
        before = taken_prefix (take were.0 (logs 0)) (logs 0) (drop were.0 (logs 0), take-append-drop were.0 (logs 0));
        cause = is.cause;
      },
      all_taken i logs own claimed were.0 worns were.3,
    )

-- once the session has made more writes, past all that was claimed
pub all_written : (i : Image) (logs : Logs) (own more : List OwnWrite) (claimed from : ℕ) (worns : List WornAnswer) → BeginPast claimed more
    → WereRefused i logs own claimed from worns → WereRefused i logs (own ++ more) claimed from worns
all_written i logs own more claimed from [] past were = tt
all_written i logs own more claimed from (a ∷ worns) past were =
    let is = were.2 in
    let upto : ℕ = taken (take were.0 (logs 0)) in
    let same : take is.count (own ++ more) ≡ take is.count own = take-append-le is.count own more is.made in
    let rest : drop is.count (own ++ more) ≡ drop is.count own ++ more = drop-append-le is.count own more is.made in (
      were.0,
      were.1,
      record {
        count = is.count;
        made = let m : is.count ≤ length own = is.made in omega (arith, m, length-append own more);
        written = is.written ∙ ap (λ (ws : List OwnWrite). length (flat_map lines_of ws)) (sym same);
        all_taken = subst (EndBelow upto) (sym same) is.all_taken;
        after = subst (BeginPast upto) (sym rest)
            (all_append (λ (w : OwnWrite). upto ≤ w.place.first) (drop is.count own) more is.after
            (all_imply (λ (w : OwnWrite). claimed ≤ w.place.first) (λ (w : OwnWrite). upto ≤ w.place.first) (λ w le. le_trans is.before le) more past));
        before = is.before;
        cause = is.cause;
      },
      all_written i logs own more claimed were.0 worns past were.3,
    )

-- and one more, now
pub refused_more : (i : Image) (logs : Logs) (own : List OwnWrite) (claimed from : ℕ) (worns : List WornAnswer) (a : WornAnswer) → from ≤ length (logs 0)
    → WereRefused i logs own claimed from worns → WasRefused i logs own claimed (length (logs 0)) a
    → WereRefused i logs own claimed from (worns ++ a ∷ [])
refused_more i logs own claimed from [] a low were is = (length (logs 0), low, is, tt)
refused_more i logs own claimed from (b ∷ worns) a low were is = (
  were.0,
  were.1,
  were.2,
  refused_more i logs own claimed were.0 worns a (refusal_within i logs were.0 b.count b.wanted b.have were.2.cause).1 were.3 is,
)

-- all that the session wrote was taken by then, and all that was taken was claimed
pub refused_now : (i : Image) (logs : Logs) (own : List OwnWrite) (claimed : ℕ) (a : WornAnswer) → a.written ≡ length (flat_map lines_of own)
    → EndBelow (taken (logs 0)) own → taken (logs 0) ≤ claimed → IsRefusal i logs (length (logs 0)) a.count a.wanted a.have
    → WasRefused i logs own claimed (length (logs 0)) a
refused_now i logs own claimed a written ends most cause = record {
  count = length own;
  made = omega arith;
  written = written ∙ ap (λ (ws : List OwnWrite). length (flat_map lines_of ws)) (sym (take-length own));
  all_taken = subst (EndBelow (taken (take (length (logs 0)) (logs 0)))) (sym (take-length own))
      (subst (λ (log : List Logged). EndBelow (taken log) own) (sym (take-length (logs 0))) ends);
  after = subst (BeginPast (taken (take (length (logs 0)) (logs 0)))) (sym (drop_all (length own) own (omega arith))) tt;
  before = subst (λ (log : List Logged). taken log ≤ claimed) (sym (take-length (logs 0))) most;
  cause = cause;
}
