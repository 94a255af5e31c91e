-- One program more of a vector's write.
use Rattle.std.proofs.Common.{ℕ, zero, suc, ◌+◌, ◌*◌, ◌-◌, ◌<◌, ◌≤◌, ◌≡◌, Bool, false, List, [], ◌∷◌, ◌++◌, length, map, take, drop, replicate, slice_get, slice_index_or, Some, refl, sym, ap, ◌∙◌, subst, arith, add-one, length-drop, append-nil, append_assoc}
use Rattle.std.proofs.Math.Seq.{drop-nil}
use Rattle.std.proofs.Math.ListN.{drop_of_length-le}
use Rattle.std.proofs.lemmas.List.{drop-drop, length-take-le}
use Rattle.std.proofs.lemmas.Nat.{mul-le}
use Rattle.std.proofs.Math.Nat.{mul_comm, mul-sub}
use Rattle.pblk_model.specs.declared.shape.Address.{Address}
use Rattle.pblk_model.specs.declared.shape.Shape.{Shape}
use Rattle.pblk_model.specs.declared.chunk.Mark.{Mark}
use Rattle.pblk_model.specs.Chunk.{Block}
use Rattle.pblk_model.specs.ChunkStep.{Write}
use Rattle.pblk_model.specs.Geometry.{Geometry}
use Rattle.unit_port.specs.Unit.{ModelUnit}
use Rattle.unit_port.specs.Commands.{UnitCommand, EventAt, AreKept, IsTaken, AreTaken}
use Rattle.unit_port.specs.Did.{Did, failed_or_stopped, is_empty}
use Rattle.vector_io.specs.Plans.{unit_of, program_of, write_of, writes, AreOfChunksApart}
use Rattle.vector_io.specs.Runs.{run_len}
use Rattle.vector_io.specs.Status.{HasBits, Answers}
use Rattle.vector_io.proofs.RunLengths.{first_program}
use Rattle.vector_io.proofs.UnderWay.{IsUnderWay, none_done, one_done, all_done, BitsMore}
use Rattle.vector_io.proofs.Bits.{bit_unset}
use Rattle.unit_port.proofs.Units.{apart}
use Rattle.pblk_model.proofs.Lists.{nil_cons}

-- The addresses before `at` are written, and the rest of the plan are the programs of the other addresses.
pub record IsWriting (g : Geometry) (xs : List Address) (blocks : List Block) (old : List ModelUnit) (at failed : ℕ) (units : List ModelUnit) : Type 0 where
  pub done : ℕ
  pub way : IsUnderWay old (writes g xs blocks) done at failed 0 units
  pub rest : drop done (writes g xs blocks) ≡ writes g (drop at xs) (drop at blocks)

pub none_written : (g : Geometry) (xs : List Address) (blocks : List Block) (old : List ModelUnit) → AreTaken old (writes g xs blocks)
    → IsWriting g xs blocks old 0 0 old
none_written g xs blocks old taken = record { done = 0; way = none_done old (writes g xs blocks) taken; rest = refl }

-- the program of the first run of some addresses
abbrev pub first_write : Geometry → List Address → List Block → ℕ → Address → UnitCommand
first_write g xs blocks at d = write_of (program_of g (slice_index_or xs at d) (take (run_len g (drop at xs)) (drop at blocks)))

split_at : (g : Geometry) (xs : List Address) (blocks : List Block) (at : ℕ) (d : Address) → length blocks ≡ length xs → at < length xs
    → writes g (drop at xs) (drop at blocks) ≡ first_write g xs blocks at d ∷ writes g (drop (run_len g (drop at xs)) (drop at xs))
    (drop (run_len g (drop at xs)) (drop at blocks))
split_at g [] blocks at d len within = absurd (omega arith)
split_at g (x ∷ xs) [] at d len within = absurd (omega arith)
split_at g (x ∷ xs) (b ∷ blocks) zero d len within = ap (map write_of) (first_program g x xs b blocks (omega arith))
split_at g (x ∷ xs) (b ∷ blocks) (suc at) d len within = split_at g xs blocks at d (omega arith) (omega arith)

same_head : {A : Type 0} (x y : A) (xs ys : List A) → x ∷ xs ≡ y ∷ ys → x ≡ y
same_head x y xs ys h = cc

same_tail : {A : Type 0} (x y : A) (xs ys : List A) → x ∷ xs ≡ y ∷ ys → xs ≡ ys
same_tail x y xs ys h = cc

next_of : {A : Type 0} (xs rest : List A) (n : ℕ) (x : A) → drop n xs ≡ x ∷ rest → (slice_get xs n ≡ Some x) × (drop (suc n) xs ≡ rest)
next_of [] rest n x is = absurd (nil_cons x rest (sym (drop-nil n) ∙ is))
next_of (y ∷ ys) rest zero x is = (ap Some (same_head y x ys rest is), same_tail y x ys rest is)
next_of (y ∷ ys) rest (suc n) x is = next_of ys rest n x is

-- where the rest of the plan are the programs of the addresses from a place on, its next command is the first of these
pub next_write : (g : Geometry) (xs : List Address) (blocks : List Block) (done at end : ℕ) (d : Address)
    → drop done (writes g xs blocks) ≡ writes g (drop at xs) (drop at blocks) → length blocks ≡ length xs → at < length xs
    → end ≡ at + run_len g (drop at xs)
    → (slice_get (writes g xs blocks) done ≡ Some (first_write g xs blocks at d))
    × (drop (suc done) (writes g xs blocks) ≡ writes g (drop end xs) (drop end blocks))
next_write g xs blocks done at end d rest len within is =
    rw (is, ← drop-drop (run_len g (drop at xs)) at xs, ← drop-drop (run_len g (drop at xs)) at blocks)
    (next_of (writes g xs blocks) _ done (first_write g xs blocks at d) (rest ∙ split_at g xs blocks at d len within))

pub same_part : (g : Geometry) (xs : List Address) (blocks part : List Block) (at end unit : ℕ) (d : Address) → end ≡ at + run_len g (drop at xs)
    → unit ≡ unit_of g (slice_index_or xs at d) → part ≡ take (end - at) (drop at blocks)
    → first_write g xs blocks at d ≡ record { unit = unit; chunk = (slice_index_or xs at d).chunk; command = Write (slice_index_or xs at d).block part }
same_part g xs blocks part at end unit d is unit_is part_is =
    let k_is : run_len g (drop at xs) ≡ end - at = omega arith in
    let part_is' : take (run_len g (drop at xs)) (drop at blocks) ≡ part = ap (λ k. take k (drop at blocks)) k_is ∙ sym part_is in
    rw (unit_is, part_is') refl

-- the next program can be given
pub next_taken : (g : Geometry) (xs : List Address) (blocks part : List Block) (old units : List ModelUnit) (at failed end unit : ℕ) (d : Address)
    → IsWriting g xs blocks old at failed units → length blocks ≡ length xs → at < length xs
    → end ≡ at + run_len g (drop at xs) → unit ≡ unit_of g (slice_index_or xs at d) → part ≡ take (end - at) (drop at blocks)
    → IsTaken units (record { unit = unit; chunk = (slice_index_or xs at d).chunk; command = Write (slice_index_or xs at d).block part })
next_taken g xs blocks part old units at failed end unit d h len within is unit_is part_is =
    subst (IsTaken units) (same_part g xs blocks part at end unit d is unit_is part_is)
    (h.way.by.left h.done (first_write g xs blocks at d) (omega arith) (next_write g xs blocks h.done at end d h.rest len within is).0)

unset_many : (n : ℕ) (flags : List Bool) (count : ℕ) → HasBits n flags → HasBits n (flags ++ replicate count false)
unset_many n flags zero h = subst (HasBits n) (sym (append-nil flags)) h
unset_many n flags (suc count) h =
    subst (HasBits n) (append_assoc flags (false ∷ []) (replicate count false)) (unset_many n (flags ++ false ∷ []) count (bit_unset n flags h))

no_bits_more : (at n count : ℕ) (set : Bool) → set ≡ false → BitsMore at n n count set
no_bits_more at n count set is flags len h = rw is (unset_many n flags count h)

wide : (g : Geometry) (xs : List Address) (blocks : List Block) (at end : ℕ) → length blocks ≡ length xs → end ≡ at + run_len g (drop at xs) → end ≤ length xs
    → length (take (run_len g (drop at xs)) (drop at blocks)) ≡ end - at
wide g xs blocks at end len is within =
    let enough : run_len g (drop at xs) ≤ length (drop at blocks) = omega (arith, length-drop at blocks) in
    length-take-le (run_len g (drop at xs)) (drop at blocks) enough ∙ omega arith

pub write_more : (g : Geometry) (xs : List Address) (blocks part : List Block) (old units new : List ModelUnit) (at failed failed' end unit : ℕ) (d : Address)
    (lost : Bool) → length blocks ≡ length xs → AreOfChunksApart (writes g xs blocks) → at < length xs
    → IsWriting g xs blocks old at failed units → end ≡ at + run_len g (drop at xs) → end ≤ length xs → unit ≡ unit_of g (slice_index_or xs at d)
    → part ≡ take (end - at) (drop at blocks)
    → (e : EventAt) × Did units (record { unit = unit; chunk = (slice_index_or xs at d).chunk; command = Write (slice_index_or xs at d).block part }) e new
    × (lost ≡ failed_or_stopped e.event.outcome) × (is_empty e.event.outcome ≡ false)
    → AreKept units new → BitsMore at failed failed' (end - at) lost → IsWriting g xs blocks old end failed' new
write_more g xs blocks part old units new at failed failed' end unit d lost len chunks within h is inside unit_is part_is did kept bits =
    let next = next_write g xs blocks h.done at end d h.rest len within is in
    let did_first : Did units (first_write g xs blocks at d) did.0 new =
    subst (λ c. Did units c did.0 new) (sym (same_part g xs blocks part at end unit d is unit_is part_is)) did.1 in
    let total : at + (end - at) ≡ end = omega arith in
    record {
      done = h.done + 1;
      way = subst (λ n. IsUnderWay old (writes g xs blocks) (h.done + 1) n failed' 0 new) total
          (one_done old (writes g xs blocks) h.done at failed 0 units (first_write g xs blocks at d) did.0 new failed' 0 (end - at) h.way next.0 did_first kept
          (λ k c before there. apart (λ u ch. chunks h.done k (first_write g xs blocks at d) c before next.0 there
          (sym (ap (λ (c : UnitCommand). c.unit) did_first.command) ∙ u) (sym (ap (λ (c : UnitCommand). c.chunk) did_first.command) ∙ ch)))
          (wide g xs blocks at end len is inside)
          (λ flags at_len has. subst (λ b. HasBits failed' (flags ++ replicate (end - at) b)) did.2 (bits flags at_len has))
          (no_bits_more at 0 (end - at) (is_empty did.0.event.outcome) did.3));
      rest = rw add-one next.1;
    }

pub all_written : (g : Geometry) (xs : List Address) (blocks : List Block) (old units : List ModelUnit) (at failed : ℕ)
    → IsWriting g xs blocks old at failed units → length xs ≤ at → Answers (writes g xs blocks) old (record { failed = failed; empty = 0 }) units
all_written g xs blocks old units at failed h all = all_done old (writes g xs blocks) h.done at failed 0 units h.way
    (let none : drop h.done (writes g xs blocks) ≡ [] = h.rest
    ∙ ap (λ ys. writes g ys (drop at blocks)) (drop_of_length-le xs all) in omega (arith, length-drop h.done (writes g xs blocks), ap length none))

-- every unit's sectors are still as long
pub sizes_kept : (old units : List ModelUnit) (size : ℕ) → AreKept old units → ((i : ℕ) (u : ModelUnit) → slice_get old i ≡ Some u → u.shape.sector ≡ size)
    → (i : ℕ) (u : ModelUnit) → slice_get units i ≡ Some u → u.shape.sector ≡ size
sizes_kept old units size kept sizes i u there = let before = kept.each i u there in ap (λ (s : Shape). s.sector) before.2.shape ∙ sizes i before.0 before.1

-- parts of bytes and marks between two places
pub part_long : {A : Type 0} (xs : List A) (from to : ℕ) → to ≤ length xs → from ≤ to → length (take (to - from) (drop from xs)) ≡ to - from
part_long xs from to within order = length-take-le (to - from) (drop from xs) (omega (arith, length-drop from xs))

pub times_apart : (at end size : ℕ) → at ≤ end → end * size - at * size ≡ (end - at) * size
times_apart at end size h = rw (mul_comm end size, mul_comm at size, ← mul-sub size end at) (mul_comm size (end - at))

pub part_whole : (size at end : ℕ) (bytes : List ℕ) (marks : List Mark) → length bytes ≡ length marks * size → at ≤ end → end ≤ length marks
    → length (take (end * size - at * size) (drop (at * size) bytes)) ≡ length (take (end - at) (drop at marks)) * size
part_whole size at end bytes marks whole order within =
    part_long bytes (at * size) (end * size) (omega (arith, mul-le end size (length marks) size within (omega arith)))
    (mul-le at size end size order (omega arith)) ∙ times_apart at end size order ∙ ap (λ n. n * size) (sym (part_long marks at end within order))
