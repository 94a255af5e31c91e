-- The logs of a world after a step of its engine.
use Rattle.std.proofs.Common.{◌≡◌, ℕ, zero, suc, ◌∷◌, [], ◌++◌, ap, ◌∙◌, arith}
use Rattle.pblk_world.specs.Events.{Decides, EngineEvent, Logged, Step}
use Rattle.pblk_world.specs.World.{World, log_of}
use Rattle.pblk_world.proofs.WorldLemmas.{log_elsewhere, log_here}
use Rattle.core_laws.specs.Stepping.{after}
use Rattle.pblk_model.proofs.Numbers.{fun_same}

pub logs_after : (s : Step) (w : World) (e : EngineEvent) → s.author ≡ 0 → s.logged.event ≡ Decides e
    → log_of (s ∷ w) ≡ after (log_of w) e s.logged.knows
logs_after s w e own is = fun_same (log_of (s ∷ w)) (after (log_of w) e s.logged.knows) go
  where
    its : s.logged ≡ record { event = Decides e; knows = s.logged.knows }
    its = λ k. record { event = is k; knows = s.logged.knows }

    go : (author : ℕ) → log_of (s ∷ w) author ≡ after (log_of w) e s.logged.knows author
    go zero = log_here s w 0 own ∙ ap (λ (l : Logged). log_of w 0 ++ l ∷ []) its
    go (suc unit) = log_elsewhere s w (suc unit) (λ same. absurd (omega arith))
