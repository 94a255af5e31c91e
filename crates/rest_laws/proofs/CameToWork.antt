-- A victim at work came to work as a line that may be collected, and has been at work since.
use Rattle.std.proofs.Common.{◌≡◌, ◌⊎◌, inl, inr, ℕ, ◌+◌, ◌<◌, ◌≤◌, zero, suc, Bool, true, false, Some, None, Option, refl, sym, subst, ap, ◌∙◌, arith, le_refl, if◌then◌else◌}
use Rattle.std.proofs.lemmas.Bool.{cases_lt}
use Rattle.std.proofs.lemmas.Option.{none-some, same_Some}
use Rattle.pblk_model.specs.Image.{Image}
use Rattle.pblk_world.specs.EngineLog.{life_of}
use Rattle.pblk_world.specs.Lines.{known_image, line_data}
use Rattle.pblk_world.specs.Space.{is_due}
use Rattle.pblk_world.specs.Victims.{comes_to_work, engine_prefix, is_freed, live, next_victim, stays_at_work, victim}
use Rattle.pblk_world.specs.World.{Logs}
use Rattle.core_laws.specs.CandidateLines.{IsCandidate, IsNextVictim}
use Rattle.core_laws.proofs.CandidateLines.{candidate_when}
use Rattle.core_laws.proofs.ChosenVictims.{next_victim_is}

-- since when a line is at work
pub record CameToWork (i : Image) (logs : Logs) (n line : ℕ) : Type 0 where
  pub from : ℕ
  pub some : 0 < from
  pub within : from ≤ n
  pub chosen : next_victim i (engine_prefix from logs) ≡ Some line
  pub each : (m : ℕ) → from ≤ m → m ≤ n → victim i logs m ≡ Some line

module _ (i : Image) (logs : Logs) where
  -- at this length
  came : (n line : ℕ) → victim i logs (suc n) ≡ Some line → comes_to_work i (engine_prefix (suc n) logs) ≡ Some line → CameToWork i logs (suc n) line
  came n line at e = go (is_due i (engine_prefix (suc n) logs)) e
    where
      go : (due : Bool) → (if due then next_victim i (engine_prefix (suc n) logs) else None) ≡ Some line → CameToWork i logs (suc n) line
      go false f = absurd (none-some line f)
      go true f = record {
        from = suc n;
        some = omega arith;
        within = le_refl (suc n);
        chosen = f;
        each = λ m low high. let same : suc n ≡ m = omega arith in ap (victim i logs) (sym same) ∙ at;
      }

  -- or before
  stayed : (n line : ℕ) → victim i logs (suc n) ≡ Some line → CameToWork i logs n line → CameToWork i logs (suc n) line
  stayed n line at was = record {
    from = was.from;
    some = was.some;
    within = (let few : was.from ≤ n = was.within in omega arith);
    chosen = was.chosen;
    each = λ m low high. by m low high (cases_lt n m);
  }
    where
      by : (m : ℕ) → was.from ≤ m → m ≤ suc n → (n < m) ⊎ (m ≤ n) → victim i logs m ≡ Some line
      by m low high (inr before) = was.each m low before
      by m low high (inl past) = let last : suc n ≡ m = omega arith in ap (victim i logs) (sym last) ∙ at

  pub came_to_work : (n line : ℕ) → victim i logs n ≡ Some line → CameToWork i logs n line
  unfolding victim
  came_to_work zero line e = absurd (none-some line e)
  came_to_work (suc n) line e = go (victim i logs n) (λ other is. came_to_work n other is) e
    where
      go : (was : Option ℕ) → ((other : ℕ) → was ≡ Some other → CameToWork i logs n other)
          → stays_at_work i (engine_prefix (suc n) logs) was ≡ Some line → CameToWork i logs (suc n) line
      go None before f = came n line e f
      go (Some other) before f = by (is_freed (life_of (engine_prefix (suc n) logs 0) other)) f
        where
          by : (t : Bool) → (if t then comes_to_work i (engine_prefix (suc n) logs) else Some other) ≡ Some line → CameToWork i logs (suc n) line
          by true g = came n line e g
          by false g =
              let same : other ≡ line = same_Some other line g in
              stayed n line e (subst (CameToWork i logs n) same (before other refl))

-- where it came to work its live sectors left a stripe of its data addresses
pub had_room : (i : Image) (logs : Logs) (line : ℕ) → next_victim i logs ≡ Some line
    → live i logs line + i.shape.ws_opt ≤ line_data (known_image i logs) line
had_room i logs line chosen =
    let next : IsNextVictim i logs line = next_victim_is i logs line chosen in
    let was : IsCandidate i logs line next.chosen = candidate_when i logs line next.chosen next.is_candidate in
    was.has_room

pub room_clause : (i : Image) (logs : Logs) (n line : ℕ) → victim i logs n ≡ Some line
    → (from : ℕ) × (0 < from) × (from ≤ n)
    × (live i (engine_prefix from logs) line + i.shape.ws_opt ≤ line_data (known_image i (engine_prefix from logs)) line)
    × ((m : ℕ) → from ≤ m → m ≤ n → victim i logs m ≡ Some line)
room_clause i logs n line at =
    let h : CameToWork i logs n line = came_to_work i logs n line at in
    (h.from, h.some, h.within, had_room i (engine_prefix h.from logs) line h.chosen, h.each)
