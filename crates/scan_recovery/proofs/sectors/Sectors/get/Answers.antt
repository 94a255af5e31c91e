use Rattle.std.proofs.Common.{◌≡◌, ◌<◌, ◌+◌, ◌*◌, ◌≤◌, ◌∙◌, ℕ, List, length, slice_get, slice_range, Some, ap, sym, arith}
use Rattle.scan_recovery.specs.Sectors.{AreSectors, sectors_in}
use Rattle.scan_recovery.proofs.SectorLists.{length-sectors_in, sector_within, get-sectors_in}
use Rattle.scan_recovery.proofs.sectors.Sectors.get.Goals as goal

module _ (size count lba : ℕ) (bytes all : List ℕ) (sectors : List (List ℕ)) (are : AreSectors size count all) (view : sectors_in size count all ≡ sectors)
    (same : bytes ≡ all) (below : lba < length sectors) where
  counted : lba < count
  counted = omega (arith, below, ap length view, length-sectors_in size count all)

  ends : lba * size + size ≤ length bytes
  ends = omega (arith, sector_within size count lba are.sized counted, are.whole, ap length same)

  found : slice_get sectors lba ≡ Some (slice_range bytes (lba * size) (lba * size + size))
  found = ap (λ s. slice_get s lba) (sym view) ∙ get-sectors_in size count lba all counted
      ∙ ap (λ xs. Some (slice_range xs (lba * size) (lba * size + size))) (sym same)

pub overflow_mul-at : goal.overflow_mul-at
overflow_mul-at c = omega (arith, ends _ _ _ _ _ _ c.self.invariant c.self.view_is c.as_slice-bytes.ensures.value c.requires, c.as_slice-bytes.type_inv.1)

pub overflow_add-result : goal.overflow_add-result
overflow_add-result c = omega (arith, ends _ _ _ _ _ _ c.self.invariant c.self.view_is c.as_slice-bytes.ensures.value c.requires, c.as_slice-bytes.type_inv.1)

pub slice_bounds-result-end : goal.slice_bounds-result-end
slice_bounds-result-end c = omega (arith, ends _ _ _ _ _ _ c.self.invariant c.self.view_is c.as_slice-bytes.ensures.value c.requires)

pub returns-clause-sector : goal.returns-clause-sector
returns-clause-sector c = found _ _ _ _ _ _ c.self.invariant c.self.view_is c.as_slice-bytes.ensures.value c.requires
