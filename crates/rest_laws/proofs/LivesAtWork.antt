-- A line at work as the victim keeps its life.
use Rattle.std.proofs.Common.{◌≡◌, ◌⊎◌, inl, inr, ℕ, ◌+◌, ◌-◌, ◌<◌, ◌≤◌, zero, suc, true, false, Some, List, length, take, refl, sym, subst, ap, ◌∙◌, arith, length-take, if◌then◌else◌}
use Rattle.std.specs.Prelude.{slice_get}
use Rattle.std.specs.Option.{is_some}
use Rattle.std.proofs.lemmas.Bool.{cases_lt}
use Rattle.std.proofs.lemmas.Option.{none-some, slice_get_within}
use Rattle.std.proofs.Math.Seq.{take-length}
use Rattle.pblk_model.specs.Image.{Image}
use Rattle.pblk_model.specs.StartRecord.{StartRecord, start_of}
use Rattle.pblk_world.specs.EngineLog.{AsFound, Freed, last_opening, LineLife, life_of, Opened, turned_by}
use Rattle.pblk_world.specs.Events.{Decides, Free, Logged, Open}
use Rattle.pblk_world.specs.Lines.{found_image}
use Rattle.pblk_world.specs.Starts.{seq_in}
use Rattle.pblk_world.specs.Victims.{is_freed, victim}
use Rattle.pblk_world.specs.World.{World, log_of}
use Rattle.pblk_model.proofs.Options.{map_some}
use Rattle.pblk_model.proofs.Tests.{not_both, same_number}
use Rattle.pblk_world.specs.LegalMounts.{IsLegalMount}
use Rattle.world_laws.proofs.KeptChunks.{found_before}
use Rattle.world_laws.proofs.NextLives.{IsFreedAt, life_next, open_or_freed}
use Rattle.world_laws.proofs.ToldImages.{found_at}
use Rattle.world_laws.proofs.WinnerLines.{FirstTurn, NoTurn, TurnAt, first_turn, none_turns_first, not_opened}
use Rattle.core_laws.proofs.VictimsAtWork.{IsVictim, victim_is_closed}
use Rattle.rest_laws.specs.AtWork.{IsAtWorkFrom}
use Rattle.rest_laws.proofs.LengthLogs.{IsWorldAt, world_at}
use Rattle.rest_laws.proofs.VictimStripes.{mount_at, victim_there}

module _ (i : Image) (w : World) (mount : IsLegalMount i w) (line : ℕ) where
  abbrev log : List Logged
  log = log_of w 0

  -- ---- the victim at work at a length

  module _ (n : ℕ) (within : n ≤ length (log_of w 0)) (at : victim i (log_of w) n ≡ Some line) where
    abbrev v : IsWorldAt i w n
    v = world_at i w n mount.legal within

    pub is_victim : IsVictim i (log_of (world_at i w n mount.legal within).world) line
    is_victim =
        let count : length (log_of v.world 0) ≡ length (take n log) = ap length v.own in
        let whole : length (log_of v.world 0) ≡ n = omega (arith, length-take n log) in
        victim_is_closed i v.world line (mount_at i w mount n within)
        (ap (victim i (log_of v.world)) whole ∙ victim_there i w mount n within n (omega arith) ∙ at)

    -- it wasn't freed
    pub unfreed : is_freed (life_of (take n (log_of w 0)) line) ≡ false
    unfreed = ap (λ (xs : List Logged). is_freed (life_of xs line)) (sym v.own) ∙ is_victim.not_freed

    -- where it is as it was found, it was found with a start record
    numbered : 0 < n → life_of (take n (log_of w 0)) line ≡ AsFound → is_some (start_of (found_image i (log_of w)) line) ≡ true
    numbered some is =
        let start = map_some (λ (s : StartRecord). s.seq) (start_of (found_image i (log_of v.world)) line) is_victim.closed.seq
        (ap (λ (l : LineLife). seq_in i (log_of v.world) l line) (sym (ap (λ (xs : List Logged). life_of xs line) v.own ∙ is)) ∙ is_victim.has_seq) in
        ap (λ (j : Image). is_some (start_of j line)) (sym (found_at i (log_of w) n some) ∙ v.told.found) ∙ ap is_some start.1

  -- a freeing shows at once
  pub freed_then : (k : ℕ) (l : Logged) → slice_get (log_of w 0) k ≡ Some l → l.event ≡ Decides (Free line)
      → is_freed (life_of (take (suc k) (log_of w 0)) line) ≡ true
  freed_then k l there frees =
      let was : LineLife = life_of (take k log) line in
      ap is_freed (life_next log k line l there ∙ ap (turned_by line was k l.knows) frees)
      ∙ ap (λ b. is_freed (if b then Freed (last_opening was) l.knows else was)) (same_number line)

  -- no line is at work at the beginning
  none_at_first : victim i (log_of w) 0 ≡ Some line → ⊥
  unfolding victim
  none_at_first at = none-some line at

  -- ---- its life

  module _ (from : ℕ) (at_work : IsAtWorkFrom i (log_of w) from line) (upto : from ≤ length (log_of w 0)) where
    now : life_of (take (from + (length (log_of w 0) - from)) (log_of w 0)) line ≡ life_of (log_of w 0) line
    now =
        let far : from + (length log - from) ≡ length log = omega arith in
        ap (λ (xs : List Logged). life_of xs line) (ap (λ n. take n log) far ∙ take-length log)

    not_freed_at : (k : ℕ) (l : Logged) → slice_get (log_of w 0) k ≡ Some l → l.event ≡ Decides (Free line) → from ≤ suc k → ⊥
    not_freed_at k l there frees low =
        let inside : k < length log = slice_get_within log k l there in
        not_both (is_freed (life_of (take (suc k) log) line)) (freed_then k l there frees)
        (unfreed (suc k) (omega arith) (at_work.each (suc k) low (omega arith)))

    pub life_at_work : life_of (log_of w 0) line ≡ life_of (take from (log_of w 0)) line
    life_at_work = go (life_of (take from log) line) refl
      where
        go : (life : LineLife) → life_of (take from (log_of w 0)) line ≡ life → life_of (log_of w 0) line ≡ life_of (take from (log_of w 0)) line
        go (Freed was knows) is =
            absurd (not_both (is_freed (life_of (take from log) line)) (ap is_freed is) (unfreed from upto (at_work.each from (omega arith) upto)))
        go (Opened o) is = by (open_or_freed i w mount.legal line from (length log - from) o (omega (arith, upto)) is)
          where
            by : (life_of (take (from + (length (log_of w 0) - from)) (log_of w 0)) line ≡ Opened o)
                ⊎ IsFreedAt i w mount.legal line o from (from + (length (log_of w 0) - from))
                → life_of (log_of w 0) line ≡ life_of (take from (log_of w 0)) line
            by (inl open_now) = sym now ∙ open_now ∙ sym is
            by (inr f) =
                let low : from ≤ f.number = f.first in
                absurd (not_freed_at f.number f.logged f.decided.there f.decided.event (omega arith))
        go AsFound is = by (first_turn line log)
          where
            freed_before : (k : ℕ) (l : Logged) → slice_get (log_of w 0) k ≡ Some l → l.event ≡ Decides (Free line) → (k < from) ⊎ (from ≤ k) → ⊥
            freed_before k l there frees (inr late) = not_freed_at k l there frees (omega arith)
            freed_before k l there frees (inl early) =
                let far : suc k + (from - suc k) ≡ from = omega arith in
                not_both (is_freed (life_of (take (suc k) log) line)) (freed_then k l there frees)
                (ap is_freed (found_before log line (suc k) (from - suc k) (omega (arith, upto)) (ap (λ n. life_of (take n log) line) far ∙ is)))

            opened_before : (k : ℕ) (l : Logged) (start : StartRecord) → slice_get (log_of w 0) (suc k) ≡ Some l → l.event ≡ Decides (Open line start)
                → life_of (take (suc k) (log_of w 0)) line ≡ AsFound → (n : ℕ) → from ≡ n → ⊥
            opened_before k l start there opens was zero none =
                none_at_first (subst (λ n. victim i (log_of w) n ≡ Some line) none (at_work.each from (omega arith) upto))
            opened_before k l start there opens was (suc n) same =
                not_opened i w k line l start mount.legal (numbered from upto (at_work.each from (omega arith) upto) (omega arith) is) there opens was

            by : FirstTurn (log_of w 0) line → life_of (log_of w 0) line ≡ life_of (take from (log_of w 0)) line
            by (NoTurn found) = found ∙ sym is
            by (TurnAt zero l at was turn) = absurd (none_turns_first i w line l mount.legal at turn)
            by (TurnAt (suc k) l at was (inl opens)) = absurd (opened_before k l opens.0 at opens.1 was from refl)
            by (TurnAt (suc k) l at was (inr frees)) = absurd (freed_before (suc k) l at frees (cases_lt (suc k) from))
