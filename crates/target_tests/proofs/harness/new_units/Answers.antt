use Rattle.std.proofs.Common.{◌≡◌, inl, map, ℕ, zero, suc, List, length, slice_get, replicate, Some, refl, sym, subst, arith, ◌∙◌, ap}
use Rattle.std.proofs.lemmas.List.{length-replicate}
use Rattle.std.proofs.lemmas.Option.{none-some, same_Some}
use Rattle.pblk_model.specs.declared.shape.Shape.{Shape}
use Rattle.pblk_model.specs.Shape.{units}
use Rattle.pblk_model.specs.Chunk.{IsChunk, free_chunk}
use Rattle.unit_port.specs.Unit.{ModelUnit}
use Rattle.ocssd_drive.specs.Units.{WornUnit, new_unit}
use Rattle.scan_recovery.specs.Units.{AreFit, IsUnitOf}
use Rattle.step_laws.specs.Opened.{AreArmed}
use Rattle.target_tests.proofs.harness.new_units.Goals as goal
use Rattle.pblk_model.proofs.Lists.{all_replicated}
use Rattle.pblk_model.proofs.ChunkLemmas.{free_is_chunk}

-- each unit of as many that are the same
each_new : (s : Shape) (n k : ℕ) (u : ModelUnit) → slice_get (map (λ (v : WornUnit). v.unit) (replicate n (new_unit s))) k ≡ Some u → u ≡ (new_unit s).unit
each_new s zero k u is = absurd (none-some u is)
each_new s (suc n) zero u is = sym (same_Some (new_unit s).unit u is)
each_new s (suc n) (suc k) u is = each_new s n k u is

count_new : (s : Shape) (n : ℕ) → length (map (λ (v : WornUnit). v.unit) (replicate n (new_unit s))) ≡ n
count_new s zero = refl
count_new s (suc n) = ap suc (count_new s n)

is_fit : (s : Shape) → IsUnitOf s (new_unit s).unit
is_fit s = record {
  shape = refl;
  fits = record { count = length-replicate s.chunks free_chunk; chunks = all_replicated (IsChunk s) s.chunks free_chunk (free_is_chunk s) };
}

are_fit : (s : Shape) (us : List WornUnit) → us ≡ replicate (units s) (new_unit s) → AreFit s (map (λ (v : WornUnit). v.unit) us)
are_fit s us e =
    let all : AreFit s (map (λ (v : WornUnit). v.unit) (replicate (units s) (new_unit s)))
    = record { count = count_new s (units s); each = λ k u is. subst (λ (x : ModelUnit). IsUnitOf s x) (sym (each_new s (units s) k u is)) (is_fit s) } in
    subst (λ (xs : List WornUnit). AreFit s (map (λ (v : WornUnit). v.unit) xs)) (sym e) all

are_armed : (s : Shape) (us : List WornUnit) → us ≡ replicate (units s) (new_unit s) → AreArmed (map (λ (v : WornUnit). v.unit) us)
are_armed s us e =
    subst (λ (xs : List WornUnit). AreArmed (map (λ (v : WornUnit). v.unit) xs)) (sym e)
    (λ k u is.
    let same = each_new s (units s) k u is in
    inl (ap (λ (x : ModelUnit). x.armed.plans) same, ap (λ (x : ModelUnit). x.armed.fuse) same))

pub returns : goal.returns
returns c =
    let s = c.args.shape.now in
    let reached : c.loop-unit._unit ≡ c.units-unit-end.result = omega arith in
    let same = c.loop-unit.invariant ∙ ap (λ n. replicate n (new_unit s)) (reached ∙ c.units-unit-end.ensures) in
    record { accepted = c.requires; fit = are_fit s c.loop-unit.made.items same; armed = are_armed s c.loop-unit.made.items same }
