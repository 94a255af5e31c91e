-- A copy that is begun, put and taken by a worker that has the heart to itself.
use Rattle.std.proofs.Common.{◌≡◌, ℕ, zero, suc, ◌+◌, ◌-◌, ◌<◌, ◌≤◌, true, Option, Some, None, List, [], ◌∷◌, ◌++◌, length, map, take, refl, sym, subst, ap, ◌∙◌, arith, le_refl, le_trans}
use Rattle.std.specs.Prelude.{slice_get}
use Rattle.std.proofs.lemmas.List.{length-map, map-append, take-append-le}
use Rattle.sector_pool.specs.declared.entry.Source.{Source as EntrySource}
use Rattle.write_ring.specs.declared.view.Row.{Row}
use Rattle.pblk_core.specs.declared.collecting.CopyJob.{CopyJob}
use Rattle.std.proofs.lemmas.Option.{none-some, same_Some}
use mathlib.Core.List.{IsPrefix}
use Rattle.pblk_model.specs.Image.{Image}
use Rattle.pblk_model.specs.declared.chunk.Mark.{Mark}
use Rattle.pblk_model.proofs.Numbers.{fun_same}
use Rattle.pblk_model.proofs.Parts.{get_more, get_right, got_within, is_in}
use Rattle.pblk_world.specs.AtRest.{knows_last, logs_at}
use Rattle.pblk_world.specs.EngineLog.{Taken, takes}
use Rattle.pblk_world.specs.Events.{Decides, Entry, Logged, Source, Take}
use Rattle.pblk_world.specs.Fronts.{taken}
use Rattle.pblk_world.specs.Orders.{AreReset}
use Rattle.pblk_world.specs.Reasons.{TakesCopy}
use Rattle.pblk_world.specs.World.{Logs, known, log_of}
use Rattle.world_laws.proofs.GrownLogs.{IsBegunIn}
use Rattle.world_laws.proofs.Later.{takes_joined}
use Rattle.world_laws.proofs.Made.{known_within}
use Rattle.chronicle.specs.Prefixes.{AreLegalLogs, ArePrefixes, Prefixes, logs_of}
use Rattle.pblk_engine.specs.Alone.{IsCopyAlone, TakesOneCopy, at_look}
use Rattle.write_ring.specs.declared.view.Desk.{Desk}
use Rattle.write_ring.specs.declared.view.Part.{Part}
use Rattle.write_ring.specs.Handles.{AreAllClaims}
use Rattle.write_ring.specs.Stock.{HasPut}
use lib.ListN.{get_elem?}
use Rattle.atomic_table.proofs.Lists.{at_last}
use Rattle.pblk_engine.specs.Hearts.{HeartView, ring_row, ring_source}
use Rattle.pblk_engine.specs.Copying.{HasPutAt, IsBegunNow, copy_row}
use Rattle.pblk_engine.specs.Takes.{HasTakenRow, TakesClaims}
use Rattle.pblk_engine.specs.WorkSince.{HasWorkSince}
use Rattle.pblk_engine.proofs.LoneTakes.{IsOnlyTake, behind, claims_more, claims_same, last_is, taken_event, takes_one}

-- ---- earlier logs

-- at a length that the earlier logs have, the later ones are as they are
module _ (a b : Logs) (n : ℕ) (longer : (author : ℕ) → IsPrefix (a author) (b author)) (some : 0 < n) (within : n ≤ length (a 0))
    (knows : (unit : ℕ) (l : Logged) → slice_get (a 0) (n - 1) ≡ Some l → known l (suc unit) ≤ length (a (suc unit))) where
  shorter : (author m : ℕ) → m ≤ length (a author) → take m (b author) ≡ take m (a author)
  shorter author m low = ap (take m) (sym (longer author).1) ∙ take-append-le m (a author) (longer author).0 low

  last_same : slice_get (b 0) (n - 1) ≡ slice_get (a 0) (n - 1)
  last_same =
      let at = got_within (a 0) (n - 1) (omega arith) in
      ap (λ (log : List Logged). slice_get log (n - 1)) (sym (longer 0).1) ∙ get_more (a 0) (longer 0).0 (n - 1) at.0 at.1 ∙ sym at.1

  pub at_early : logs_at n b ≡ logs_at n a
  at_early = fun_same (logs_at n b) (logs_at n a) each
    where
      by : (unit : ℕ) (o : Option Logged) → slice_get (a 0) (n - 1) ≡ o
          → take (knows_last o (suc unit)) (b (suc unit)) ≡ take (knows_last o (suc unit)) (a (suc unit))
      by unit None e = refl
      by unit (Some l) e = shorter (suc unit) (known l (suc unit)) (knows unit l e)

      each : (author : ℕ) → logs_at n b author ≡ logs_at n a author
      each zero = shorter 0 n within
      each (suc unit) =
          ap (λ (o : Option Logged). take (knows_last o (suc unit)) (b (suc unit))) last_same ∙ by unit (slice_get (a 0) (n - 1)) refl

-- what is known at a look, as it is known later
pub at_look_later : (i : Image) (a b : Prefixes) → AreLegalLogs i a → ArePrefixes a b → 0 < length (logs_of a 0)
    → logs_at (length (logs_of a 0)) (logs_of b) ≡ at_look a
at_look_later i a b legal keeps some =
    at_early (logs_of a) (logs_of b) (length (logs_of a 0)) keeps.each some (le_refl (length (logs_of a 0))) (λ unit l there.
    subst (λ (logs : Logs). known l (suc unit) ≤ length (logs (suc unit))) legal.logs
    (known_within i legal.world 0 (suc unit) l legal.legal (is_in (log_of legal.world 0) (length (logs_of a 0) - 1) l
    (ap (λ (logs : Logs). slice_get (logs 0) (length (logs_of a 0) - 1)) legal.logs ∙ there))))

-- ---- the entry that was taken

from_ring : (o : Option Source) (line at position : ℕ) → ring_source o ≡ Some (record { line = line; at = at; position = position })
    → o ≡ Some (record { line = line; at = at; position = position })
from_ring None line at position e = absurd (none-some (record { line = line; at = at; position = position }) e)
from_ring (Some source) line at position e =
    let same = same_Some (record { line = source.line; at = source.at; position = source.position }) (record { line = line; at = at; position = position }) e in
    ap (λ (s : EntrySource). Some (record { line = s.line; at = s.at; position = s.position })) same

-- The copy of this sector was begun at the look and put at a position. One entry was taken since, and
-- among the rows that were taken beyond those of the look is that of the copy.
module _ (i : Image) (a b : Prefixes) (legal : AreLegalLogs i a) (keeps : ArePrefixes a b) (some : 0 < length (logs_of a 0)) (job : CopyJob) (at : ℕ)
    (sector : List ℕ) (was : IsBegunNow i (logs_of a) job) (alone : IsCopyAlone i (at_look a)) (one : taken (logs_of b 0) ≡ taken (logs_of a 0) + 1)
    (number : ℕ) (from : length (takes (logs_of a 0)) ≤ number)
    (there : slice_get (map ring_row (takes (logs_of b 0))) number ≡ Some (copy_row job at sector)) where
  abbrev early : List Logged
  early = logs_of a 0

  abbrev more : List Logged
  more = (keeps.each 0).0

  joined : logs_of a 0 ++ (keeps.each 0).0 ≡ logs_of b 0
  joined = (keeps.each 0).1

  took : (k : ℕ) × (t : Taken) × IsOnlyTake (keeps.each 0).0 k t
  took = takes_one early more some (ap taken joined ∙ one)

  abbrev t : Taken
  t = took.1

  row : ring_row took.1 ≡ copy_row job at sector
  row = last_is (map ring_row (takes early)) (ring_row t) (copy_row job at sector) number
      (subst (λ n. n ≤ number) (sym (length-map (takes early) ring_row)) from)
      (ap (λ (rows : List Row). slice_get rows number)
      (sym (map-append ring_row (takes early) (t ∷ []))
      ∙ ap (map ring_row) (ap (λ (ts : List Taken). takes early ++ ts) (sym took.2.all) ∙ sym (takes_joined early more) ∙ ap takes joined)) ∙ there)

  abbrev source : Source
  source = record { line = job.line; at = job.at; position = job.position }

  of_copy : took.1.entry.source ≡ Some (record { line = job.line; at = job.at; position = job.position })
  of_copy = from_ring t.entry.source job.line job.at job.position (ap (λ (r : Row). r.source) row)

  lba : took.1.entry.lba ≡ job.lba
  lba = ap (λ (r : Row). r.lba) row

  -- its number in the log
  abbrev its : ℕ
  its = length (logs_of a 0) + took.0

  in_log : slice_get (logs_of b 0) (length (logs_of a 0) + took.0) ≡ Some (record { event = Decides (Take took.1.entry took.1.mark); knows = took.2.knows })
  in_log = ap (λ (log : List Logged). slice_get log its) (sym joined) ∙ get_right early more took.0 ∙ took.2.there

  only : (k : ℕ) (knows : List ℕ) (other : Entry) (mark : Mark) → length (logs_of a 0) ≤ k
      → slice_get (logs_of b 0) k ≡ Some (record { event = Decides (Take other mark); knows = knows }) → k ≡ length (logs_of a 0) + took.0
  only k knows other mark past is =
      let same : k - length (logs_of a 0) ≡ took.0 = took.2.only (k - length early) knows other mark
      (behind early more k _ past (ap (λ (log : List Logged). slice_get log k) joined ∙ is)) in
      omega (arith, same, past)

  earlier : logs_at (length (logs_of a 0)) (logs_of b) ≡ at_look a
  earlier = at_look_later i a b legal keeps some

  begun_there : IsBegunIn i job.lba (record { line = job.line; at = job.at; position = job.position }) (logs_at (length (logs_of a 0)) (logs_of b))
  begun_there = subst (IsBegunIn i job.lba source) (sym earlier)
      (subst (λ n. IsBegunIn i job.lba source (logs_at n (logs_of a))) was.at (was.begun.due, was.begun.line, was.begun.latest))

  pub takes_copy : TakesOneCopy i (length (logs_of a 0)) (logs_of b)
  takes_copy = record {
    number = its;
    entry = t.entry;
    mark = t.mark;
    took = record { knows = took.2.knows; there = in_log; source = source; is_copy = of_copy };
    since = omega arith;
    only = only;
    begun = record {
      at = length early;
      has_begun = some;
      within = omega arith;
      due = its_begin.0;
      line = its_begin.1;
      latest = its_begin.2;
      alone = λ k l past below there takes. absurd (before k l past below there takes);
      granted = λ k knows entry mark past below there users.
          absurd (let same : k ≡ length (logs_of a 0) + took.0 = only k knows entry mark past there in omega (arith, same, below));
    };
    at = refl;
    reset = subst (AreReset i) (sym earlier) alone.reset;
  }
    where
      its_begin : IsBegunIn i took.1.entry.lba (record { line = job.line; at = job.at; position = job.position })
          (logs_at (length (logs_of a 0)) (logs_of b))
      its_begin = subst (λ n. IsBegunIn i n source (logs_at (length early) (logs_of b))) (sym lba) begun_there

      before : (k : ℕ) (l : Logged) → length (logs_of a 0) ≤ k → k < length (logs_of a 0) + took.0 → slice_get (logs_of b 0) k ≡ Some l → TakesCopy l → ⊥
      before k l past below there takes =
          let event : l.event ≡ Decides (Take takes.0.entry takes.0.mark) = taken_event l takes.0 takes.1 in
          let same : k ≡ length (logs_of a 0) + took.0 =
          only k l.knows takes.0.entry takes.0.mark past (there ∙ ap (λ e. Some (record { event = e; knows = l.knows })) event) in
          omega (arith, same, below)

-- ---- what was claimed

-- At the look the intake had this view of its part, and all that was claimed was taken. It had it as
-- the copy was named, as it was put, and as all that was claimed was taken again.
module _ (first : ℕ) (part : Part) (old named put now : HeartView) (low : first ≤ old.intake.intake.taken)
    (desk : named.intake.intake ≡ old.intake.intake) (pass : named.intake.pass ≡ old.intake.pass)
    (reached : old.intake.intake.taken ≤ named.intake.found.claimed) (put_desk : put.intake.intake ≡ named.intake.intake) (all_takes : TakesClaims put now)
    (all : AreAllClaims first old.intake.intake.taken part old.intake.pass) (all_now : AreAllClaims first now.intake.intake.taken part now.intake.pass) where
  rises : old.intake.intake.taken ≤ now.intake.intake.taken
  rises = subst (λ (d : Desk). d.taken ≤ now.intake.intake.taken) (put_desk ∙ desk) all_takes.rises

  -- where nothing was claimed more, nothing was taken
  pub none_taken : put.intake.pass ≡ named.intake.pass → now.intake.intake.taken ≡ old.intake.intake.taken
  none_taken same =
      claims_same first old.intake.intake.taken now.intake.intake.taken part old.intake.pass now.intake.pass low (le_trans low rises)
      (all_takes.copies.claims ∙ ap (λ (p : Part). p.claims) (same ∙ pass)) all all_now

  module _ (job : CopyJob) (at : ℕ) (sector : List ℕ) (is : HasPutAt job at sector named.intake put.intake) where
    -- one entry was taken, that at the copy's position
    pub one_taken : (at ≡ old.intake.intake.taken) × (now.intake.intake.taken ≡ old.intake.intake.taken + 1)
    one_taken =
        claims_more first old.intake.intake.taken now.intake.intake.taken at part old.intake.pass now.intake.pass low (le_trans low rises)
        (le_trans reached is.past)
        (all_takes.copies.claims ∙ is.claims ∙ ap (λ (p : Part). p.claims ++ record { first = at; count = 1; copy = true } ∷ []) pass) all all_now

    was_put : HasPut (copy_row job at sector) put.intake.pass
    was_put = (
      length named.intake.pass.puts,
      ap (λ (rows : List Row). get_elem? rows (length named.intake.pass.puts)) is.puts
          ∙ at_last named.intake.pass.puts (copy_row job at sector) (length named.intake.pass.puts) refl,
    )

    -- and it is the copy
    pub row_taken : HasTakenRow old.intake now.intake (copy_row job at sector)
    row_taken =
        let same : put.intake.intake ≡ old.intake.intake = put_desk ∙ desk in
        let front : put.intake.intake.taken ≡ old.intake.intake.taken = ap (λ (d : Desk). d.taken) same in
        let row = all_takes.as_put (copy_row job at sector) was_put (let n = one_taken.0 in omega (arith, n, front))
        (let n = one_taken in omega (arith, n.0, n.1)) in
        record {
          at = row.at;
          place = subst (λ (d : Desk). row.at + d.taken ≡ length d.took + at) same row.place;
          there = row.there;
        }

    module _ (i : Image) (b : Prefixes) (legal : AreLegalLogs i old.author.known) (keeps : ArePrefixes old.author.known b)
        (some : 0 < length (logs_of old.author.known 0)) (took : old.intake.intake.took ≡ map ring_row (takes (logs_of old.author.known 0)))
        (front : old.intake.intake.taken ≡ taken (logs_of old.author.known 0)) (took_now : now.intake.intake.took ≡ map ring_row (takes (logs_of b 0)))
        (front_now : now.intake.intake.taken ≡ taken (logs_of b 0)) (was : IsBegunNow i (logs_of old.author.known) job)
        (alone : IsCopyAlone i (at_look old.author.known)) where
      pub one_copy : TakesOneCopy i (length (logs_of old.author.known 0)) (logs_of b)
      one_copy =
          takes_copy i old.author.known b legal keeps some job at sector was alone (sym front_now ∙ one_taken.1 ∙ ap (λ n. n + 1) front) row_taken.at
          (let count : length old.intake.intake.took ≡ length (takes (logs_of old.author.known 0)) =
          ap (λ (rows : List Row). length rows) took ∙ length-map (takes (logs_of old.author.known 0)) ring_row in
          let place : row_taken.at + old.intake.intake.taken ≡ length old.intake.intake.took + at = row_taken.place in
          let here : at ≡ old.intake.intake.taken = one_taken.0 in
          omega (arith, count, place, here))
          (subst (λ (rows : List Row). slice_get rows row_taken.at ≡ Some (copy_row job at sector)) took_now row_taken.there)

-- a copy that was taken is a piece of work
pub copy_work : (i : Image) (a b : Prefixes) → TakesOneCopy i (length (logs_of a 0)) (logs_of b) → HasWorkSince a b
copy_work i a b is = record {
  number = is.number;
  since = is.since;
  event = Take is.entry is.mark;
  knows = is.took.knows;
  there = is.took.there;
  is = refl;
}
