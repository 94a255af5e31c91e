use Rattle.std.proofs.Common.{◌≡◌, ℕ, ◌+◌, ◌-◌, ◌^◌, ◌<◌, Some, refl, ap, arith, le_refl}
use Rattle.pblk_engine.specs.Hearts.{Parts, parts}
use Rattle.pblk_engine.proofs.TakesOn.{takes_none, takes_then}
use Rattle.pblk_engine.proofs.taking.take_all.Goals as goal

pub loop-filled-init : goal.loop-filled-init
loop-filled-init c =
    let h : Parts = parts c.args.core.now c.args.author.now c.args.intake.now.seat.me.0 in
    record {
      ring = c.requires.ring;
      beating = c.requires.beating;
      none = c.requires.none;
      takes = takes_none h h refl refl refl refl (le_refl h.intake.found.claimed);
    }

pub returns-in-Some : goal.returns-in-Some
returns-in-Some c =
    let n = c.in-Some.ensures in
    record {
      ring = n.ring;
      beating = n.beating;
      takes = takes_then (parts c.args.core.now c.args.author.now c.args.intake.now.seat.me.0)
          (parts c.loop-filled.core c.loop-filled.author c.loop-filled.intake.seat.me.0)
          (parts c.take_next.new.core c.take_next.new.author c.take_next.new.intake.seat.me.0) c.loop-filled.invariant.takes n.takes;
      all = λ claimed is. n.all claimed (ap (λ x. Some x) is);
      gap = λ at is. n.gap at (ap (λ x. Some x) is);
    }

fewer : (old new : ℕ) → new ≡ old + 1 → old < 2 ^ 62 → 2 ^ 62 - new < 2 ^ 62 - old
fewer old new is low = omega arith

pub loop-filled-smaller : goal.loop-filled-smaller
loop-filled-smaller c =
    let n = c.in_default.ensures.next refl in
    fewer c.loop-filled.intake.seat.me.0.intake.taken c.take_next.new.intake.seat.me.0.intake.taken n.0 n.1

pub loop-filled-preserved : goal.loop-filled-preserved
loop-filled-preserved c =
    let n = c.in_default.ensures in
    record {
      ring = n.ring;
      beating = n.beating;
      none = n.none;
      takes = takes_then (parts c.args.core.now c.args.author.now c.args.intake.now.seat.me.0)
          (parts c.loop-filled.core c.loop-filled.author c.loop-filled.intake.seat.me.0)
          (parts c.take_next.new.core c.take_next.new.author c.take_next.new.intake.seat.me.0) c.loop-filled.invariant.takes n.takes;
    }
