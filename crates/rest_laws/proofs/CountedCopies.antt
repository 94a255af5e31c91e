-- The copies that were made of the victim at work, and its live sectors, are no more than its live
-- sectors were.
use Rattle.std.proofs.Common.{◌≡◌, ◌⊎◌, inl, inr, ℕ, ◌+◌, ◌<◌, ◌≤◌, suc, List, [], ◌∷◌, length, take, refl, sym, subst, ap, ◌∙◌, arith, length-take}
use Rattle.std.proofs.lemmas.Bool.{cases_lt}
use Rattle.std.proofs.lemmas.List.{take-take}
use Rattle.std.proofs.lemmas.Option.{slice_get_within}
use Rattle.pblk_model.specs.declared.chunk.Mark.{Mark}
use Rattle.pblk_model.specs.Image.{Image}
use Rattle.pblk_model.specs.Marks.{sector_mark}
use Rattle.pblk_world.specs.AtRest.{logs_at}
use Rattle.pblk_world.specs.EngineLog.{taken_by, takes}
use Rattle.pblk_world.specs.Events.{Decides, Entry, Logged, Source, Take}
use Rattle.pblk_world.specs.Fronts.{last_take, taken}
use Rattle.pblk_world.specs.Taking.{IsPlaceOfLatest}
use Rattle.pblk_world.specs.Victims.{engine_prefix, live}
use Rattle.pblk_world.specs.World.{World, Logs, log_of}
use Rattle.pblk_model.proofs.Maps.{given_at}
use Rattle.pblk_model.proofs.Parts.{contained_among, get_taken}
use Rattle.pblk_world.specs.LegalMounts.{IsLegalMount}
use Rattle.pblk_world.specs.Reasons.{WasBegun}
use Rattle.world_laws.proofs.NextLives.{IsDecided, decided}
use Rattle.rest_laws.specs.Copies.{TookCopy}
use Rattle.rest_laws.specs.AtWork.{AreCopiesOf, IsAtWorkFrom, IsCopyOf, WasTakenSince}
use Rattle.rest_laws.proofs.FewerLive.{live_falls, live_falls_by_one}
use Rattle.rest_laws.proofs.LengthLogs.{IsWorldAt, logs_same, world_at, taken_rises}
use Rattle.rest_laws.proofs.OneCopy.{takes_copy}
use Rattle.rest_laws.proofs.VictimStripes.{live_there, live_whole, mount_at, victim_there}

module _ (i : Image) (w : World) (mount : IsLegalMount i w) (line a : ℕ) (some : 0 < a) (at_work : IsAtWorkFrom i (log_of w) a line)
    (n : ℕ) (low : a ≤ n) (within : n ≤ length (log_of w 0)) where
  abbrev log : List Logged
  log = log_of w 0

  abbrev u : IsWorldAt i w n
  u = world_at i w n mount.legal within

  mount_u : IsLegalMount i (world_at i w n mount.legal within).world
  mount_u = mount_at i w mount n within

  long : length (log_of (world_at i w n mount.legal within).world 0) ≡ n
  long =
      let same : length (log_of u.world 0) ≡ length (take n log) = ap length u.own in
      omega (arith, within, length-take n log)

  inside : a ≤ length (log_of (world_at i w n mount.legal within).world 0)
  inside = omega (arith, long, low)

  at_work_then : IsAtWorkFrom i (log_of (world_at i w n mount.legal within).world) a line
  at_work_then = record {
    each = λ k from upto.
        let below : k ≤ n = omega (arith, long, upto) in
        victim_there i w mount n within k below ∙ at_work.each k from (omega (arith, within, below));
  }

  whole : live i (log_of (world_at i w n mount.legal within).world) line ≡ live i (engine_prefix n (log_of w)) line
  whole = live_whole i w mount n within line

  there : live i (engine_prefix a (log_of (world_at i w n mount.legal within).world)) line ≡ live i (engine_prefix a (log_of w)) line
  there = live_there i w mount n within line a low

  pub live_between : live i (engine_prefix n (log_of w)) line ≤ live i (engine_prefix a (log_of w)) line
  live_between = omega (arith, whole, there, live_falls i u.world mount_u line a some inside at_work_then)

  pub live_between_by_one : (lba : ℕ) (source : Source) → lba < i.shape.capacity → source.line ≡ line
      → IsPlaceOfLatest i (logs_at a (log_of w)) lba source (last_take (take a (log_of w 0)) lba) → WasTakenSince (take n (log_of w 0)) lba a
      → live i (engine_prefix n (log_of w)) line + 1 ≤ live i (engine_prefix a (log_of w)) line
  live_between_by_one lba source small in_line place since = omega (
    arith,
    whole,
    there,
    live_falls_by_one i u.world mount_u line a some inside at_work_then lba source small in_line
        (subst (λ (logs : Logs). IsPlaceOfLatest i logs lba source (last_take (logs 0) lba)) (sym (logs_same i w n a mount.legal within some low)) place)
        (subst (λ (xs : List Logged). WasTakenSince xs lba a) (sym u.own) since),
  )

-- from a later length on
pub later_at_work : (i : Image) (logs : Logs) (line a b : ℕ) → a ≤ b → IsAtWorkFrom i logs a line → IsAtWorkFrom i logs b line
later_at_work i logs line a b low h = record { each = λ n from upto. h.each n (omega arith) upto }

-- ---- copies

module _ (i : Image) (w : World) (mount : IsLegalMount i w) (line : ℕ) where
  abbrev whole_log : List Logged
  whole_log = log_of w 0

  pub one_copy_lowers : (from number : ℕ) → 0 < from → IsAtWorkFrom i (log_of w) from line → IsCopyOf i (log_of w) line from number
      → live i (engine_prefix (suc number) (log_of w)) line + 1 ≤ live i (engine_prefix from (log_of w)) line
  one_copy_lowers from number some at_work c =
      let upto : c.begun.at ≤ number = c.begun.within in
      let low : from ≤ c.begun.at = c.since in
      let below : number < length whole_log =
      slice_get_within whole_log number (record { event = Decides (Take c.entry c.mark); knows = c.took.knows }) c.took.there in
      let may = (decided i w mount.legal number (Take c.entry c.mark)
      (record { event = Decides (Take c.entry c.mark); knows = c.took.knows }) c.took.there refl).allowed.2 in
      let before : live i (engine_prefix c.begun.at (log_of w)) line ≤ live i (engine_prefix from (log_of w)) line =
      live_between i w mount line from some at_work c.begun.at low (omega arith) in
      let after : live i (engine_prefix (suc number) (log_of w)) line + 1 ≤ live i (engine_prefix c.begun.at (log_of w)) line =
      live_between_by_one i w mount line c.begun.at c.begun.has_begun (later_at_work i (log_of w) line from c.begun.at low at_work)
      (suc number) (omega arith) (omega arith) c.entry.lba c.took.source may.lba c.of_line c.begun.latest c.taken_since in
      omega arith

  -- So do all of them. One copy is under way at a time: each was begun after the one before it was
  -- taken.
  later_fit : (from prev : ℕ) (entry : Entry) (mark : Mark) → 0 < from → IsAtWorkFrom i (log_of w) from line → from ≤ prev
      → suc prev ≤ length (log_of w 0) → TookCopy (log_of w 0) prev entry mark → (numbers : List ℕ)
      → AreCopiesOf i (log_of w) line from (suc prev) numbers
      → length numbers + live i (log_of w) line ≤ live i (engine_prefix (suc prev) (log_of w)) line
  later_fit from prev entry mark some at_work low upto took [] all =
      let few : live i (log_of w) line ≤ live i (engine_prefix (suc prev) (log_of w)) line =
      live_falls i w mount line (suc prev) (omega arith) upto (later_at_work i (log_of w) line from (suc prev) (omega arith) at_work) in
      omega arith
  later_fit from prev entry mark some at_work low upto took (number ∷ numbers) all =
      let c : IsCopyOf i (log_of w) line from number = all.1 in
      let least : suc prev ≤ number = all.0 in
      let below : number < length whole_log =
      slice_get_within whole_log number (record { event = Decides (Take c.entry c.mark); knows = c.took.knows }) c.took.there in
      let since : IsCopyOf i (log_of w) line (suc prev) number = record {
        entry = c.entry;
        mark = c.mark;
        took = c.took;
        begun = c.begun;
        since = after c.begun (omega arith) (cases_lt prev c.begun.at);
        of_line = c.of_line;
        taken_since = c.taken_since;
      } in
      let one : live i (engine_prefix (suc number) (log_of w)) line + 1 ≤ live i (engine_prefix (suc prev) (log_of w)) line =
      one_copy_lowers (suc prev) number (omega arith) (later_at_work i (log_of w) line from (suc prev) (omega arith) at_work) since in
      let rest : length numbers + live i (log_of w) line ≤ live i (engine_prefix (suc number) (log_of w)) line =
      later_fit from number c.entry c.mark some at_work (omega arith) (omega arith) c.took numbers all.2 in
      omega arith
    where
      after : {n lba : ℕ} {source : Source} (b : WasBegun i (log_of w) n lba source) → prev < n → (prev < b.at) ⊎ (b.at ≤ prev) → suc prev ≤ b.at
      after b below (inl late) = late
      after b below (inr early) =
          absurd (b.alone prev (record { event = Decides (Take entry mark); knows = took.knows }) early below took.there
          (takes_copy entry mark took.knows took.source took.is_copy))

  pub copies_fit : (numbers : List ℕ) (from : ℕ) → 0 < from → from ≤ length (log_of w 0) → IsAtWorkFrom i (log_of w) from line
      → AreCopiesOf i (log_of w) line from from numbers → length numbers + live i (log_of w) line ≤ live i (engine_prefix from (log_of w)) line
  copies_fit [] from some upto at_work all =
      let few : live i (log_of w) line ≤ live i (engine_prefix from (log_of w)) line = live_falls i w mount line from some upto at_work in omega arith
  copies_fit (number ∷ numbers) from some upto at_work all =
      let c : IsCopyOf i (log_of w) line from number = all.1 in
      let low : from ≤ number = all.0 in
      let below : number < length whole_log =
      slice_get_within whole_log number (record { event = Decides (Take c.entry c.mark); knows = c.took.knows }) c.took.there in
      let one : live i (engine_prefix (suc number) (log_of w)) line + 1 ≤ live i (engine_prefix from (log_of w)) line =
      one_copy_lowers from number some at_work c in
      let rest : length numbers + live i (log_of w) line ≤ live i (engine_prefix (suc number) (log_of w)) line =
      later_fit from number c.entry c.mark some at_work low (omega arith) c.took numbers all.2 in
      omega arith

  -- ---- a copy that isn't Void takes its sector itself

  pub own_taken : (from number : ℕ) (entry : Entry) (mark : Mark) → 0 < from → from ≤ number → TookCopy (log_of w 0) number entry mark
      → mark ≡ sector_mark entry.lba entry.position → WasTakenSince (take (suc number) (log_of w 0)) entry.lba from
  own_taken from number entry mark some low took named =
      let d : IsDecided i w mount.legal number (Take entry mark) (record { event = Decides (Take entry mark); knows = took.knows }) =
      decided i w mount.legal number (Take entry mark) (record { event = Decides (Take entry mark); knows = took.knows }) took.there refl in
      let position : entry.position ≡ taken (take number whole_log) = d.allowed.2.position ∙ ap taken d.own in
      let rise : taken (take from whole_log) ≤ taken (take number whole_log) = taken_rises whole_log from number some low in
      let part : take from (take (suc number) whole_log) ≡ take from whole_log = take-take from (suc number) whole_log (omega arith) in
      let front : taken (take from (take (suc number) whole_log)) ≡ taken (take from whole_log) = ap taken part in
      record {
        t = record { entry = entry; mark = mark };
        there = contained_among (takes (take (suc number) whole_log)) (record { entry = entry; mark = mark })
            (given_at (λ (x : Logged). taken_by x.event) (take (suc number) whole_log) (record { event = Decides (Take entry mark); knows = took.knows })
            (record { entry = entry; mark = mark }) number (get_taken (suc number) whole_log number (omega arith) ∙ took.there) refl);
        of_it = ap (λ (m : Mark). m.lba) named;
        since = omega arith;
      }
