-- Where collection is due and some line may be collected, a victim is at work.
use Rattle.std.proofs.Common.{◌≡◌, ℕ, ◌<◌, zero, suc, Bool, true, false, Some, None, Option, length, refl, sym, ap, ◌∙◌, arith, if◌then◌else◌}
use Rattle.pblk_model.specs.Image.{Image}
use Rattle.pblk_world.specs.AtRest.{victim_now}
use Rattle.pblk_world.specs.EngineLog.{life_of}
use Rattle.pblk_world.specs.Space.{is_due}
use Rattle.pblk_world.specs.Victims.{comes_to_work, engine_prefix, is_freed, next_victim, stays_at_work, victim}
use Rattle.pblk_world.specs.World.{Logs}
use Rattle.pblk_world.proofs.VictimsLemmas.{whole_prefix}

pub victim_at_work : (i : Image) (logs : Logs) (line : ℕ) → 0 < length (logs 0) → is_due i logs ≡ true → next_victim i logs ≡ Some line
    → (other : ℕ) × (victim_now i logs ≡ Some other)
unfolding victim
victim_at_work i logs line some due next = by_length (length (logs 0)) refl some
  where
    came : comes_to_work i logs ≡ Some line
    came = ap (λ b. if b then next_victim i logs else None) due ∙ next

    by_last : (was : Option ℕ) → (other : ℕ) × (stays_at_work i logs was ≡ Some other)
    by_last None = (line, came)
    by_last (Some m) = go (is_freed (life_of (logs 0) m))
      where
        go : (b : Bool) → (other : ℕ) × ((if b then comes_to_work i logs else Some m) ≡ Some other)
        go true = (line, came)
        go false = (m, refl)

    by_length : (n : ℕ) → length (logs 0) ≡ n → 0 < n → (other : ℕ) × (victim i logs (length (logs 0)) ≡ Some other)
    by_length zero e more = absurd (omega arith)
    by_length (suc n) e more =
        let whole : engine_prefix (suc n) logs ≡ logs = ap (λ k. engine_prefix k logs) (sym e) ∙ whole_prefix logs in
        let it = by_last (victim i logs n) in
        (it.0, ap (victim i logs) e ∙ ap (λ (ls : Logs). stays_at_work i ls (victim i logs n)) whole ∙ it.1)
