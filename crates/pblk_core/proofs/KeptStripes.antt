-- What a step leaves as it was, by what it did to the tables before the choice of a victim.
use Rattle.std.proofs.Common.{◌≡◌, ℕ, max, List, ap, ◌∙◌, arith}
use Rattle.std.specs.Prelude.{slice_get}
use Rattle.stripe_placer.specs.Placing.{UnitRow}
use Rattle.sector_pool.specs.declared.entry.Class.{Class}
use Rattle.pblk_core.specs.Copies.{is_copying, victim_asks}
use Rattle.pblk_core.specs.Keeping.{KeepsOtherStripes, KeepsStripes, KeepsStripesTaking, PadRises, still_copying}
use Rattle.pblk_core.specs.Landing.{AreKeptBeside}
use Rattle.pblk_core.specs.Named.{pad_of}
use Rattle.pblk_core.specs.declared.target_core.Core.{Core}

-- without a choice
pub rises_still : (old new : Core) → pad_of new ≡ pad_of old → PadRises old new
rises_still old new pad = record {
  least = omega arith;
  most = omega arith;
}

-- With one, which leaves the units and whether a copy is under way.
module _ (old mid new : Core) (pad : pad_of mid ≡ pad_of old) (asked : pad_of new ≡ max (pad_of mid) (victim_asks new)) where
  rises : PadRises old new
  rises = record {
    least = omega arith;
    most = omega arith;
  }

  module _ (units : new.placer.units ≡ mid.placer.units) (still : is_copying new ≡ is_copying mid) where
    pub kept_chosen : mid.placer.units ≡ old.placer.units → is_copying mid ≡ is_copying old → KeepsStripes old new
    kept_chosen rows copying = record {
      rows = units ∙ rows;
      copying = still ∙ copying;
      pad = rises;
    }

    pub others_chosen : (unit : ℕ) → AreKeptBeside unit old mid → is_copying mid ≡ is_copying old → KeepsOtherStripes unit old new
    others_chosen unit rows copying = record {
      rows = λ other apart. ap (λ (us : List UnitRow). slice_get us other) units ∙ rows other apart;
      copying = still ∙ copying;
      pad = rises;
    }

    pub taking_chosen : (class : Class) → mid.placer.units ≡ old.placer.units → is_copying mid ≡ still_copying class (is_copying old)
        → KeepsStripesTaking class old new
    taking_chosen class rows copying = record {
      rows = units ∙ rows;
      copying = still ∙ copying;
      pad = rises;
    }
