-- A line that was found with a start record is as it was found, or it was freed. Then it is older
-- than the newest start record, and what counted in it is below that one's front.
use Rattle.std.proofs.Common.{◌≡◌, ◌⊎◌, inl, inr, ℕ, ◌<◌, ◌≤◌, zero, suc, Some, take, sym, subst, ap, ◌∙◌, arith}
use Rattle.std.specs.Prelude.{slice_get}
use Rattle.std.specs.List.{Contains}
use Rattle.std.specs.Option.{is_some, option_map}
use Rattle.std.proofs.lemmas.Option.{same_Some}
use Rattle.pblk_model.specs.Image.{Image}
use Rattle.pblk_model.specs.StartRecord.{StartRecord, start_of}
use Rattle.pblk_model.specs.Records.{Record}
use Rattle.pblk_model.specs.Contents.{counted}
use Rattle.pblk_world.specs.Events.{Free, Decides, Logged}
use Rattle.pblk_world.specs.World.{World, Logs, log_of}
use Rattle.pblk_world.specs.EngineLog.{AsFound, life_of}
use Rattle.pblk_world.specs.Freeing.{HasLandedIn}
use Rattle.pblk_world.specs.Legal.{IsLegal}
use Rattle.pblk_world.specs.Lines.{found_image}
use Rattle.pblk_world.specs.Starts.{newest_start, seq_in}
use Rattle.pblk_world.specs.Victims.{engine_prefix}
use Rattle.world_laws.proofs.Freeing.{IsFreeable, freed_at}
use Rattle.world_laws.proofs.Newest.{IsNewest, newest_grows}
use Rattle.world_laws.proofs.ToldImages.{found_then}
use Rattle.world_laws.proofs.WinnerLines.{FirstTurn, NoTurn, TurnAt, first_turn, none_turns_first, not_opened}

pub record IsFreedOld (i : Image) (w : World) (line : ℕ) (r : StartRecord) : Type 0 where
  pub newest : StartRecord
  pub is_newest : newest_start i (log_of w) ≡ Some newest
  pub seq : r.seq < newest.seq
  pub below : (x : Record) → Contains (counted (found_image i (log_of w))) x → x.line ≡ line → x.position < newest.front

freed_first : (i : Image) (w : World) (line k : ℕ) (l : Logged) (r : StartRecord) → IsLegal i w → start_of (found_image i (log_of w)) line ≡ Some r
    → slice_get (log_of w 0) (suc k) ≡ Some l → l.event ≡ Decides (Free line) → life_of (take (suc k) (log_of w 0)) line ≡ AsFound
    → IsFreedOld i w line r
freed_first i w line k l r legal whole there frees was =
    let logs : Logs = engine_prefix (suc k) (log_of w) in
    let free : IsFreeable i (engine_prefix (suc k) (log_of w)) line = freed_at i w (suc k) line l legal there frees in
    let newest : IsNewest i w free.newest = newest_grows i w k free.newest legal free.is_newest in
    let found : start_of (found_image i (engine_prefix (suc k) (log_of w))) line ≡ Some r =
    ap (λ (j : Image). start_of j line) (found_then i (log_of w) k) ∙ whole in
    let number : seq_in i (engine_prefix (suc k) (log_of w)) AsFound line ≡ Some r.seq = ap (option_map (λ (s : StartRecord). s.seq)) found in
    let seq : r.seq ≡ free.seq =
    same_Some r.seq free.seq (sym (ap (λ life. seq_in i (engine_prefix (suc k) (log_of w)) life line) was ∙ number) ∙ free.has_seq) in
    let older : free.seq < free.newest.seq = free.older in
    let newer : free.newest.seq ≤ newest.newest.seq = newest.seq in
    let higher : free.newest.front ≤ newest.newest.front = newest.front in record {
      newest = newest.newest;
      is_newest = newest.is_newest;
      seq = omega arith;
      below = λ x counts of_it.
          let landed : HasLandedIn i (engine_prefix (suc k) (log_of w)) AsFound line x = record {
            counts = subst (λ (j : Image). Contains (counted j) x) (sym (found_then i (log_of w) k)) counts;
            in_line = of_it;
          } in
          let under : x.position < free.newest.front =
          free.below_front x (subst (λ life. HasLandedIn i (engine_prefix (suc k) (log_of w)) life line x) (sym was) landed) in
          omega arith;
    }

pub found_or_freed : (i : Image) (w : World) (line : ℕ) (r : StartRecord) → IsLegal i w → start_of (found_image i (log_of w)) line ≡ Some r
    → (life_of (log_of w 0) line ≡ AsFound) ⊎ IsFreedOld i w line r
found_or_freed i w line r legal whole = go (first_turn line (log_of w 0))
  where
    go : FirstTurn (log_of w 0) line → (life_of (log_of w 0) line ≡ AsFound) ⊎ IsFreedOld i w line r
    go (NoTurn stands) = inl stands
    go (TurnAt zero l at was is) = absurd (none_turns_first i w line l legal at is)
    go (TurnAt (suc k) l at was (inl opens)) = absurd (not_opened i w k line l opens.0 legal (ap is_some whole) at opens.1 was)
    go (TurnAt (suc k) l at was (inr frees)) = inr (freed_first i w line k l r legal whole at frees was)
