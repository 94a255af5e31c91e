-- Where a copy that is due has room in the ring, no pump found it full.
use Rattle.std.proofs.Common.{◌≡◌, ℕ, ◌+◌, ◌<◌, ◌≤◌, List, length, sym, subst, ap, ◌∙◌, arith}
use mathlib.Core.List.{IsPrefix}
use base.Growing.{prefix_trans}
use Rattle.pblk_model.specs.Image.{Image}
use Rattle.pblk_world.specs.AtRest.{logs_at}
use Rattle.pblk_world.specs.Fronts.{taken}
use Rattle.pblk_world.specs.Space.{ring_limit}
use Rattle.pblk_world.specs.World.{World, Logs, log_of}
use Rattle.unit_port.specs.Unit.{ModelUnit}
use Rattle.chronicle.specs.Prefixes.{logs_of}
use Rattle.chronicle.proofs.PrefixLemmas.{begins_length}
use Rattle.pblk_engine.specs.Alone.{WasFull, at_look}
use Rattle.close_bound.proofs.KnownLengths.{same_at}
use Rattle.close_bound.proofs.LonePumps.{IsPumpOf}
use Rattle.pblk_engine.specs.Ticks.{Pump}

pub not_full : (i : Image) (logs : Logs) → WasFull i logs → taken (logs 0) + 16 ≤ ring_limit i.shape (logs 0) → ⊥
not_full i logs is room = let full = is.full in omega (arith, full, room)

module _ (i : Image) (handed : List ModelUnit) (w : World) (from : ℕ) (first : 0 < from) (p : Pump) (is : IsPumpOf i handed w from p) where
  abbrev n : ℕ
  n = length (logs_of p.before.known 0)

  before : (author : ℕ) → IsPrefix (logs_of p.before.known author) (log_of w author)
  before author =
      prefix_trans (logs_of p.before.known author) (logs_of p.after.known author) (log_of w author) (is.lone.pumped.on.keeps.each author) (is.within author)

  -- its look is at a length of the engine's log
  pub look_some : 0 < length (logs_of p.before.known 0)
  look_some = omega (arith, first, is.since)

  pub look_within : length (logs_of p.before.known 0) ≤ length (log_of w 0)
  look_within = begins_length (logs_of p.before.known 0) (log_of w 0) (before 0)

  -- and the logs are then as its worker knew them
  pub look_same : logs_at (length (logs_of p.before.known 0)) (log_of w) ≡ at_look p.before.known
  look_same =
      same_at i is.lone.legal.world is.lone.legal.legal (log_of w)
      (λ author. subst (λ (logs : Logs). IsPrefix (logs author) (log_of w author)) (sym is.lone.legal.logs) (before author)) n look_some
      (let long = ap (λ (logs : Logs). length (logs 0)) is.lone.legal.logs in omega (arith, long))
      ∙ ap (logs_at n) is.lone.legal.logs

  -- so what it found full was full there
  pub full_then : WasFull i (at_look p.before.known) → WasFull i (logs_at (length (logs_of p.before.known 0)) (log_of w))
  full_then = subst (WasFull i) (sym look_same)
