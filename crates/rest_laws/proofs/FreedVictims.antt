-- Where the victim at work is freed: no sector is live in it, and at most one of the positions from
-- the front placed and from the end of the users' entries on was taken, or is that of the copy that
-- is under way.
use Rattle.std.proofs.Common.{◌≡◌, ℕ, ◌+◌, ◌<◌, ◌≤◌, max, false, Some, None, List, length, take, sym, subst, ap, ◌∙◌, arith, length-take}
use Rattle.std.specs.Prelude.{slice_get}
use Rattle.std.specs.List.{Contains}
use Rattle.std.proofs.lemmas.Option.{slice_get_within}
use Rattle.pblk_model.specs.Image.{Image}
use Rattle.pblk_world.specs.EngineLog.{Taken, takes}
use Rattle.pblk_world.specs.Events.{Decides, Free, Logged, Source}
use Rattle.pblk_world.specs.Freeing.{MayFree}
use Rattle.pblk_world.specs.Fronts.{synced, taken}
use Rattle.pblk_world.specs.Space.{placed_front}
use Rattle.pblk_world.specs.Victims.{engine_prefix, live, taken_up_to, victim}
use Rattle.pblk_world.specs.World.{World, Logs, log_of, prefixes}
use Rattle.pblk_model.proofs.Parts.{all_taken}
use Rattle.pblk_world.specs.LegalMounts.{IsLegalMount, NoStripeLost, decides, is_losing}
use Rattle.pblk_world.specs.Reasons.{AreBegun, WasBegun}
use Rattle.world_laws.specs.SameTold.{AreSameTold}
use Rattle.world_laws.proofs.Made.{made}
use Rattle.world_laws.proofs.NextLives.{IsDecided, decided}
use Rattle.world_laws.proofs.ToldSince.{told_up_to, told_when_made}
use Rattle.world_laws.proofs.ToldTables.{live_told, takers_told, victim_told}
use Rattle.rest_laws.specs.Copies.{IsEmptied}
use Rattle.rest_laws.proofs.KnownViews.{mount_before, own_before, view_same}
use Rattle.rest_laws.proofs.FreeableVictims.{may_free_now}
use Rattle.rest_laws.proofs.LengthLogs.{IsWorldAt, victim_then, world_at}
use Rattle.rest_laws.proofs.OneCopy.{count_clause, count_under_way_clause, freeable_emptied, synced_within_placed}
use Rattle.rest_laws.proofs.VictimStripes.{mount_at, victim_there}

module _ (i : Image) (w : World) (mount : IsLegalMount i w) (none_lost : NoStripeLost (log_of w 0)) (n : ℕ) (l : Logged)
    (there : slice_get (log_of w 0) n ≡ Some l) (line : ℕ) (at : victim i (log_of w) n ≡ Some line) (frees : l.event ≡ Decides (Free line)) where
  abbrev log : List Logged
  log = log_of w 0

  pub low : n ≤ length (log_of w 0)
  low = let below : n < length log = slice_get_within log n l there in omega arith

  -- ---- in the world before it

  abbrev before : World
  before = (made i w 0 n l mount.legal there).before

  own : log_of (made i w 0 n l mount.legal there).before 0 ≡ take n (log_of w 0)
  own = own_before i w n l mount there

  told : AreSameTold i (log_of (made i w 0 n l mount.legal there).before) (engine_prefix n (log_of w))
  told = told_up_to i w n l (made i w 0 n l mount.legal there)

  whole : length (log_of (made i w 0 n l mount.legal there).before 0) ≡ n
  whole = let count : length (log_of before 0) ≡ length (take n log) = ap length own in omega (arith, low, length-take n log)

  d : IsDecided i w mount.legal n (Free line) l
  d = decided i w mount.legal n (Free line) l there frees

  may : MayFree i (log_of (made i w 0 n l mount.legal there).before) line
  may = may_free_now i before (mount_before i w n l mount there)
      (subst NoStripeLost (sym own) (all_taken (λ m. decides is_losing m.event ≡ false) n (log_of w 0) none_lost))
      (prefixes l (log_of before)) (told_when_made i w n l (made i w 0 n l mount.legal there)) line
      (subst (λ (logs : Logs). MayFree i logs line) (view_same i w n l mount there) d.allowed.2)

  emptied : IsEmptied i (log_of (made i w 0 n l mount.legal there).before) line
  emptied = freeable_emptied i before line (mount_before i w n l mount there)
      (ap (victim i (log_of before)) whole ∙ sym (victim_told i (log_of before) (engine_prefix n (log_of w)) told n)
      ∙ victim_then i (log_of w) n n (omega arith) ∙ at) may

  pub none_live : live i (engine_prefix n (log_of w)) line ≡ 0
  none_live = live_told i (log_of before) (engine_prefix n (log_of w)) told line ∙ emptied.none_live

  -- ---- in the world at that length

  abbrev v : IsWorldAt i w n
  v = world_at i w n mount.legal low

  pub long : length (log_of (world_at i w n mount.legal low).world 0) ≡ n
  long = let count : length (log_of v.world 0) ≡ length (take n log) = ap length v.own in omega (arith, low, length-take n log)

  pub emptied_then : IsEmptied i (log_of (world_at i w n mount.legal low).world) line
  emptied_then = record {
    at_work = ap (victim i (log_of v.world)) long ∙ victim_there i w mount n low n (omega arith) ∙ at;
    none_live = sym (live_told i (log_of v.world) (engine_prefix n (log_of w)) v.told line) ∙ none_live;
    takers_synced =
        let same : taken_up_to i (log_of v.world) line ≡ taken_up_to i (log_of before) line =
        sym (takers_told i (log_of v.world) (engine_prefix n (log_of w)) v.told line)
        ∙ takers_told i (log_of before) (engine_prefix n (log_of w)) told line in
        let front : synced i.shape (log_of v.world 0) ≡ synced i.shape (log_of before 0) = ap (synced i.shape) (v.own ∙ sym own) in
        let upto : taken_up_to i (log_of before) line ≤ synced i.shape (log_of before 0) = emptied.takers_synced in
        omega arith;
  }

  module _ (users : ℕ) (all : (t : Taken) → Contains (takes (take n (log_of w 0))) t → t.entry.source ≡ None → t.entry.position < users) where
    all_then : (t : Taken) → Contains (takes (log_of (world_at i w n mount.legal low).world 0)) t → t.entry.source ≡ None → t.entry.position < users
    all_then t in_it = all t (subst (λ (xs : List Logged). Contains (takes xs) t) v.own in_it)

    taken_same : taken (log_of (world_at i w n mount.legal low).world 0) ≡ taken (take n (log_of w 0))
    taken_same = ap taken v.own

    placed_same : placed_front i.shape (log_of (world_at i w n mount.legal low).world 0) ≡ placed_front i.shape (take n (log_of w 0))
    placed_same = ap (placed_front i.shape) v.own

    synced_low : synced i.shape (log_of (world_at i w n mount.legal low).world 0) ≤ placed_front i.shape (log_of (world_at i w n mount.legal low).world 0)
    synced_low = synced_within_placed i v.world (mount_at i w mount n low)

    pub one_copy : AreBegun i (log_of (world_at i w n mount.legal low).world)
        → taken (take n (log_of w 0)) ≤ max (placed_front i.shape (take n (log_of w 0))) users + 1
    one_copy begun =
        let few : taken (log_of v.world 0) ≤ max (synced i.shape (log_of v.world 0)) users + 1 =
        count_clause i v.world line users (mount_at i w mount n low) begun emptied_then all_then in
        omega (arith, taken_same, placed_same, synced_low)

    pub none_beside : (lba : ℕ) (source : Source) → lba < i.shape.capacity → WasBegun i (log_of (world_at i w n mount.legal low).world) n lba source
        → taken (take n (log_of w 0)) ≤ max (placed_front i.shape (take n (log_of w 0))) users
    none_beside lba source small b =
        let few : taken (log_of v.world 0) ≤ max (synced i.shape (log_of v.world 0)) users =
        count_under_way_clause i v.world line users lba source (mount_at i w mount n low) emptied_then all_then small
        (subst (λ k. WasBegun i (log_of v.world) k lba source) (sym long) b) in
        omega (arith, taken_same, placed_same, synced_low)
