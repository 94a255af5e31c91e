-- What is found of addresses and programs one after another.
use Rattle.std.proofs.Common.{ℕ, ◌+◌, ◌-◌, ◌*◌, ◌/◌, ◌<◌, ◌≤◌, ◌≡◌, ⊎_elim, List, [], length, take, drop, slice_get, slice_index_or, Some, refl, sym, ap, ◌∙◌, subst, arith, add-one, length-drop}
use Rattle.std.proofs.Math.ListN.{drop_of_length-le}
use Rattle.std.proofs.lemmas.Bool.{cases_lt}
use Rattle.std.specs.Option.{option_map}
use Rattle.std.proofs.lemmas.Nat.{div-mul-add}
use Rattle.std.proofs.lemmas.Option.{slice_get-map, slice_get-get_or, slice_get_read, slice_get_within, same_Some}
use Rattle.pblk_model.specs.declared.shape.Address.{Address}
use Rattle.pblk_model.specs.declared.chunk.Mark.{Mark}
use Rattle.pblk_model.specs.Blocks.{blocks_of}
use Rattle.pblk_model.specs.Chunk.{Block}
use Rattle.pblk_model.specs.ChunkStep.{Write}
use Rattle.pblk_model.specs.Geometry.{Geometry}
use Rattle.unit_port.specs.Unit.{ModelUnit, Takes}
use Rattle.ocssd_drive.specs.Units.{WornUnit}
use Rattle.unit_port.specs.Commands.{UnitCommand, IsTaken, AreTaken, AreUnitsOf}
use Rattle.unit_port.specs.Did.{command_at}
use Rattle.pblk_model.proofs.Maps.{map_back}
use Rattle.vector_io.specs.Plans.{unit_of, read_of, reads, reset_of, writes, HaveSectors}
use Rattle.vector_io.specs.Runs.{run_len}
use Rattle.vector_io.proofs.WriteSteps.{first_write, next_write, same_part}
use Rattle.drive_tests.specs.Fits.{models, IsOf, Fit, CanReset, CanWrite}

-- what holds of each element below i and of the one at i
pub each_more : {A : Type 0} (P : A → Type 0) (xs : List A) (i : ℕ) (d : A) → i < length xs → ((k : ℕ) (a : A) → k < i → slice_get xs k ≡ Some a → P a)
    → P (slice_index_or xs i d)
    → (k : ℕ) (a : A) → k < i + 1 → slice_get xs k ≡ Some a → P a
each_more P xs i d within before here k a below there = ⊎_elim (λ less. before k a less there)
    (λ (most : i ≤ k).
    let same : i ≡ k = omega arith in
    subst P (same_Some (slice_index_or xs i d) a (sym (slice_get-get_or xs i d within) ∙ ap (slice_get xs) same ∙ there)) here) (cases_lt k i)

pub all_fit : (g : Geometry) (units : List ModelUnit) → length units ≡ g.groups * g.pus →
    ((k : ℕ) (u : ModelUnit) → k < length units → slice_get units k ≡ Some u → IsOf g u) → Fit g units
all_fit g units count each = record { count = count; each = λ i u there. each i u (slice_get_within units i u there) there }

pub fit_units : (g : Geometry) (units : List ModelUnit) → Fit g units → AreUnitsOf g units
fit_units g units h = record { count = h.count; chunks = λ i u there. (h.each i u there).chunks; clba = λ i u there. (h.each i u there).clba }

pub fit_sectors : (g : Geometry) (units : List ModelUnit) (size count : ℕ) → Fit g units → size ≡ count * 512 → HaveSectors size count units
fit_sectors g units size count h whole i u there = whole ∙ ap (λ n. count * n) (sym (h.each i u there).sector)

pub all_read : (g : Geometry) (xs : List Address) (units : List ModelUnit) →
    ((k : ℕ) (a : Address) → k < length xs → slice_get xs k ≡ Some a → IsTaken units (read_of g a)) → AreTaken units (reads g xs)
all_read g xs units each i c there = let b = map_back (read_of g) xs i c there in subst (IsTaken units) b.2 (each i b.0 (slice_get_within xs i b.0 b.1) b.1)

pub all_reset : (g : Geometry) (xs : List Address) (units : List ModelUnit) →
    ((k : ℕ) (a : Address) → k < length xs → slice_get xs k ≡ Some a → (a.block ≡ 0) × IsTaken units (reset_of g a)) → CanReset g units xs
all_reset g xs units each = record {
  blocks = λ i a there. (each i a (slice_get_within xs i a there) there).0;
  taken = λ i c there. let b = map_back (reset_of g) xs i c there in subst (IsTaken units) b.2 (each i b.0 (slice_get_within xs i b.0 b.1) b.1).1;
}

-- the programs of the addresses before `at` can be made, and are of units below `least`, which rise
pub record IsChecked (g : Geometry) (xs : List Address) (blocks : List Block) (units : List ModelUnit) (at least : ℕ) : Type 0 where
  pub done : ℕ
  pub rest : drop done (writes g xs blocks) ≡ writes g (drop at xs) (drop at blocks)
  pub taken : (k : ℕ) (c : UnitCommand) → k < done → slice_get (writes g xs blocks) k ≡ Some c → IsTaken units c
  pub below : (k : ℕ) (c : UnitCommand) → k < done → slice_get (writes g xs blocks) k ≡ Some c → c.unit < least
  pub apart : (i j : ℕ) (c d : UnitCommand) → i < j → j < done → slice_get (writes g xs blocks) i ≡ Some c → slice_get (writes g xs blocks) j ≡ Some d
      → c.unit < d.unit

pub none_checked : (g : Geometry) (xs : List Address) (blocks : List Block) (units : List ModelUnit) → IsChecked g xs blocks units 0 0
none_checked g xs blocks units = record {
  done = 0;
  rest = refl;
  taken = λ k c below there. absurd (omega arith);
  below = λ k c below there. absurd (omega arith);
  apart = λ i j c d order below at_i at_j. absurd (omega arith);
}

-- what holds of the elements below n and of the one at n
at_more : {A : Type 0} (P : A → Type 0) (xs : List A) (n : ℕ) (x : A) → slice_get xs n ≡ Some x →
    ((k : ℕ) (c : A) → k < n → slice_get xs k ≡ Some c → P c) → P x → (k : ℕ) (c : A) → k < n + 1 → slice_get xs k ≡ Some c → P c
at_more P xs n x at_n before here k c below there = ⊎_elim (λ less. before k c less there)
    (λ (most : n ≤ k). let same : n ≡ k = omega arith in subst P (same_Some x c (sym at_n ∙ ap (slice_get xs) same ∙ there)) here) (cases_lt k n)

pub one_checked : (g : Geometry) (xs : List Address) (blocks part : List Block) (units : List ModelUnit) (at least end unit : ℕ) (d : Address)
    → IsChecked g xs blocks units at least → length blocks ≡ length xs → at < length xs
    → end ≡ at + run_len g (drop at xs) → unit ≡ unit_of g (slice_index_or xs at d) → part ≡ take (end - at) (drop at blocks) → least ≤ unit
    → IsTaken units (command_at unit (slice_index_or xs at d).chunk (Write (slice_index_or xs at d).block part)) → IsChecked g xs blocks units end (unit + 1)
one_checked g xs blocks part units at least end unit d h len within is unit_is part_is rises takes =
    let next = next_write g xs blocks h.done at end d h.rest len within is in
    let same = same_part g xs blocks part at end unit d is unit_is part_is in
    let its_unit : (first_write g xs blocks at d).unit ≡ unit = sym unit_is in
    record {
      done = h.done + 1;
      rest = rw add-one next.1;
      taken = at_more (IsTaken units) (writes g xs blocks) h.done (first_write g xs blocks at d) next.0 h.taken (subst (IsTaken units) (sym same) takes);
      below = at_more (λ (c : UnitCommand). c.unit < unit + 1) (writes g xs blocks) h.done (first_write g xs blocks at d) next.0
          (λ k c below there. omega (arith, h.below k c below there)) (omega arith);
      apart = λ i j c e order below at_i at_j. ⊎_elim (λ less. h.apart i j c e order less at_i at_j)
          (λ (most : h.done ≤ j).
          let last : h.done ≡ j = omega arith in
          let e_is : first_write g xs blocks at d ≡ e = same_Some (first_write g xs blocks at d) e
          (sym next.0 ∙ ap (slice_get (writes g xs blocks)) last ∙ at_j) in
          let before : c.unit < least = h.below i c (omega arith) at_i in
          subst (λ (e : UnitCommand). c.unit < e.unit) e_is (omega arith)) (cases_lt j h.done);
    }

apart_units : (n m : ℕ) → n < m → n ≡ m → ⊥
apart_units n m less same = omega arith

pub all_checked : (g : Geometry) (xs : List Address) (blocks : List Block) (units : List ModelUnit) (at least : ℕ) → IsChecked g xs blocks units at least
    → length xs ≤ at → CanWrite g units xs blocks
all_checked g xs blocks units at least h all =
    let none : drop h.done (writes g xs blocks) ≡ [] = h.rest ∙ ap (λ ys. writes g ys (drop at blocks)) (drop_of_length-le xs all) in
    let short : length (writes g xs blocks) ≤ h.done = omega (arith, length-drop h.done (writes g xs blocks), ap length none) in
    record {
      apart = λ i j c d order at_i at_j same_unit same_chunk. apart_units c.unit d.unit
          (h.apart i j c d order (omega (arith, slice_get_within (writes g xs blocks) j d at_j)) at_i at_j) same_unit;
      taken = λ i c there. h.taken i c (omega (arith, slice_get_within (writes g xs blocks) i c there)) there;
    }

-- a program that a unit takes, where its sectors have 512 bytes
pub write_taken : (g : Geometry) (units : List WornUnit) (unit chunk block : ℕ) (bytes : List ℕ) (marks : List Mark) (u : WornUnit)
    → slice_get units unit ≡ Some u → Takes u.unit chunk (Write block (blocks_of u.unit.shape.sector bytes marks))
    → Fit g (models units) → IsTaken (models units) (command_at unit chunk (Write block (blocks_of 512 bytes marks)))
write_taken g units unit chunk block bytes marks u there takes fit =
    let at : slice_get (models units) unit ≡ Some u.unit = slice_get-map (λ (u : WornUnit). u.unit) units unit ∙ ap
    (option_map (λ (u : WornUnit). u.unit)) there in
    record { unit = u.unit; there = at; takes = subst (λ n. Takes u.unit chunk (Write block (blocks_of n bytes marks))) (fit.each unit u.unit at).sector takes }

pub unit_more : (g : Geometry) (units : List WornUnit) (i : ℕ) (x : WornUnit) → i < length units → x ≡ slice_index_or units i x →
    ((k : ℕ) (u : ModelUnit) → k < i → slice_get (models units) k ≡ Some u → IsOf g u) → IsOf g x.unit
    → (k : ℕ) (u : ModelUnit) → k < i + 1 → slice_get (models units) k ≡ Some u → IsOf g u
unit_more g units i x within is before here = at_more (IsOf g) (models units) i x.unit
    (slice_get-map (λ (u : WornUnit). u.unit) units i ∙ ap (option_map (λ (u : WornUnit). u.unit))
    (slice_get_read units (length units) i x refl within is)) before here

pub sectors_of : (size count : ℕ) → 0 < count → size ≡ count * 512 → size / count ≡ 512
sectors_of size count some whole =
    let e : size ≡ 512 * count + 0 = omega arith in
    ap (λ n. n / count) e ∙ div-mul-add 512 count 0 some
