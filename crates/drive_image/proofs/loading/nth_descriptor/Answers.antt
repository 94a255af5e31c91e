use Rattle.std.proofs.Common.{◌≡◌, ◌+◌, ◌*◌, ◌/◌, ◌%◌, ◌<◌, ◌≤◌, ℕ, Result, None, Ok, Err, List, length, sym, ap, ◌∙◌, subst, arith}
use Rattle.pblk_model.specs.declared.chunk.DescriptorErr.{DescriptorErr}
use Rattle.pblk_model.specs.Chunk.{PointerFits}
use Rattle.pblk_model.specs.Descriptor.{Descriptor, read_descriptor}
use Rattle.pblk_model.specs.ImageFile.{chunks_at, descriptor_at, geometry_at, image_refusal}
use Rattle.pblk_laws.proofs.ImageBytesHeld.{IsDescriptorOf, IsTaken, row_is, taken_of}
use Rattle.drive_image.specs.Filling.{IsRow}
use Rattle.drive_image.proofs.loading.nth_descriptor.Goals as goal
use Rattle.drive_image.proofs.loading.nth_descriptor.Goals.{After-as_slice}
use Rattle.ocssd_chunks.specs.Descriptor.{fields_of}

same_ok : (x y : Descriptor) → ◌≡◌ {A = Result Descriptor DescriptorErr} (Ok x) (Ok y) → x ≡ y
same_ok x y e = cc

err_is_not_ok : (e : DescriptorErr) (x : Descriptor) → ◌≡◌ {A = Result Descriptor DescriptorErr} (Err e) (Ok x) → ⊥
err_is_not_ok e x is = cc

row_of : (b : List ℕ) (n : ℕ) (d : Descriptor) → Ok d ≡ read_descriptor (descriptor_at b n)
    → IsDescriptorOf (geometry_at b) (n / (geometry_at b).chunks) (n % (geometry_at b).chunks) (descriptor_at b n) → IsRow b n d
row_of b n d is row =
    let g = geometry_at b in
    let same = same_ok _ _ (is ∙ row.read) in
    record {
      read = sym is;
      slba = ap (λ (x : Descriptor). x.slba) same;
      cnlb = ap (λ (x : Descriptor). x.cnlb) same;
      wp = ap (λ (x : Descriptor). x.wp) same;
      place = subst (λ (x : Descriptor). PointerFits x.state g.clba x.wp) (sym same) row.place;
      multiple = subst (λ (x : Descriptor). x.wp % g.ws_min ≡ 0) (sym same) row.multiple;
    }

row_within : (b : List ℕ) (n : ℕ) → IsTaken b → n < chunks_at b → 4128 + 32 * n + 32 ≤ length b
row_within b n taken inside = omega (arith, taken.descriptors)

-- the bytes that are looked at are those of an image that isn't refused
taken : (c : After-as_slice) → IsTaken c.as_slice.result.now
taken c = taken_of c.as_slice.result.now (subst (λ b. image_refusal b ≡ None) (sym c.as_slice.ensures) c.requires.accepted)

inside : (c : After-as_slice) → c.args.n < chunks_at c.as_slice.result.now
inside c = subst (λ b. c.args.n < chunks_at b) (sym c.as_slice.ensures) c.requires.index

pub slice_bounds-row-end : goal.slice_bounds-row-end
slice_bounds-row-end c =
    let a = (goal.at.slice_bounds-row-end c).After-as_slice in
    row_within c.as_slice.result.now c.args.n (taken a) (inside a)

pub unreachable-requires : goal.unreachable-requires
unreachable-requires c =
    let a = (goal.at.unreachable-requires c).After-as_slice in
    let row = row_is c.as_slice.result.now c.args.n (taken a) (inside a) in
    err_is_not_ok _ _ (c.in_default.ensures ∙ row.read)

pub returns-clause-row : goal.returns-clause-row
returns-clause-row c =
    let a = (goal.at.returns-clause-row c).After-as_slice in
    let b = c.as_slice.result.now in
    subst (λ b. IsRow b c.args.n (fields_of c.in-Ok.descriptor)) c.as_slice.ensures
    (row_of b c.args.n _ c.in-Ok.ensures (row_is b c.args.n (taken a) (inside a)))
