use Rattle.std.proofs.Common.{◌≡◌, ℕ, map, slice_get, None, Some}
use Rattle.std.specs.List.{filter_map, range_with_len}
use Rattle.unit_port.specs.Commands.{AreKept}
use Rattle.scan_recovery.specs.Units.{image_of}
use Rattle.scan_recovery.proofs.FetchSteps.{Fetched}
use Rattle.stripe_parity.specs.Xors.{written_but, xor_onto}
use Rattle.stripe_parity.proofs.adding.add_units.Given as goal

abbrev pub invariant-loop-unit : goal.invariant-loop-unit
invariant-loop-unit g l = record {
  ran : Fetched l.shape (map g.U.Unit.model l.fn.units) (map g.U.Unit.model l.units) None;
  kept : AreKept (map g.U.Unit.model l.fn.units) (map g.U.Unit.model l.units);
  wear : map g.U.Unit.wear l.units ≡ map g.U.Unit.wear l.fn.units;
  lost : (k : ℕ) → l.lost ≡ Some k → slice_get l.units k ≡ slice_get l.fn.units k;
  sum : record { sector = l.sum; mark = l.mark } ≡ xor_onto (record { sector = l.fn.sum; mark = l.fn.mark })
      (filter_map (written_but (image_of l.shape (map g.U.Unit.model l.fn.units)) l.lost l.chunk l.block) (range_with_len 0 l.unit));
}
