-- A `Vec` of bytes is its bytes and what is left of it without them. Assumes `Logic`.
use Rattle.std.proofs.Common.{◌≡◌, ℕ, ◌<◌, List, [], ◌∷◌, length, true, refl, sym, arith, Vec}
use Rattle.std.proofs.lemmas.Bool.{ne_eqb, not_from_false}
use Rattle.std.proofs.lemmas.List.{with_items_is}
use seplogic.Ra.Ura.{Ura}
use mir.Val.{Val}
use base.Fraction.{full_share}
use base.Logic.{ent, sep, wand, never, id⊢}
use base.Fml.{Fml, fsep, feq}
use types.Logic.{Logic, sem}
use types.Kit.{‵, ◌$◌, ◌∵◌, !, qed, move, frame, each, assume, show, fsplit, fjoin, feq_l, feq_i, rewrite, done}
use denote.RattleType.{RattleType}
use denote.Builtin.{u8}
use denote.Array.{Array}
use denote.Param.Laws.{Laws, of_field}
use denote.Param.Shared.{copy_shared}
use denote.RawPtr.{Ptr, block_ptr, lies_at, in_block, in_a_block}
use denote.Struct.Field.{u8-field}
use denote.Struct.Laws.{u8-laws, u8-copy}
use Rattle.std.specs.declared.alloc.Global.{Global}
use Rattle.std.specs.contracts.alloc.Global as G
use Rattle.std.specs.contracts.impls.GlobalAllocator.TheImpl.{ghosts}
use Rattle.std.proofs.alloc.Global.TheLaws as global-laws
use Rattle.std.specs.Allocator.{block_with_items}
use Rattle.std.specs.Vec.{with_items}
use Rattle.std_alloc.specs.Vec.Ownership.{owns_if, has_block}
use Rattle.std_alloc.specs.contracts.vec.Vec as V
use Rattle.std_alloc.proofs.vec.Vec.TheLaws as vec_laws
use Rattle.bytes.proofs.Walks.{plainly, one, one_made}
use Rattle.sector_pool.specs.Owned.{Extent, holds_bytes, awaits_bytes}
use Rattle.sector_pool.specs.contracts.memory.Emptied as Emptied

-- `Vec<u8>`
abbrev pub Bytes : RattleType
Bytes = V.the_row u8 G.the_row ghosts

abbrev pub bytes-laws : Laws Bytes
bytes-laws = vec_laws.the_row_laws u8 G.the_row ghosts (of_field u8-field u8-laws refl (copy_shared u8-field u8-copy)) global-laws.the_row_laws

-- the bytes that it waits for
abbrev pub Awaited : Ptr → ℕ → List ℕ → Fml
Awaited ptr len content = fsep (feq ℕ (length content) len) (holds_bytes ptr content)

-- and what it is with them
abbrev pub Refilled : Vec ℕ Global → List Val → List ℕ → Fml
Refilled v vs content = (plainly (Bytes ∷ [])).own_val (with_items v content, tt) vs

module _ {M : Type 1} {𝓤 : Ura M} (𝓛 : Logic 𝓤) (v : Vec ℕ Global) (u : Val) where
  abbrev extent : Extent
  extent = record { ptr = v.ptr; len = v.len }

  pub emptied : 0 < v.len → ent 𝓤 (sem 𝓛 (Bytes.own_val v (u ∷ []))) (sep 𝓤 (sem 𝓛 (holds_bytes v.ptr v.items)) (sem 𝓛 (Emptied.the_own extent (one u ∷ []))))
  emptied some =
      let has : has_block v.cap ≡ true = not_from_false _ (ne_eqb v.cap 0 (λ zero. omega (arith, v.ok.1))) in
      let Block = λ (ptr : Ptr) (content : List ℕ). block_with_items (ghosts.dealloc_token v.alloc) u8 ptr v.len v.cap content in
      let Array_at = λ (content : List ℕ) (n : ℕ). ‵ (lies_at (Array u8 n) full_share v.ptr content) in
      qed 𝓛 (‵ (Bytes.own_val v (u ∷ [])) ∷ []) ∵ fsplit ! $ move ! (1 ∷ []) $ fsplit ! $ move ! (1 ∷ []) $
      in_a_block ! v.ptr (λ p. in_block p (owns_if (has_block v.cap) (Block p v.items))) (id⊢ 𝓤 (never 𝓤)) (λ b o at.
      rewrite ! 0 (λ y. ‵ (owns_if y (Block (block_ptr b o) v.items))) has refl $ rewrite ! 0 (λ p. ‵ (Block p v.items)) (sym at) refl $ fsplit ! $
      rewrite ! 0 (Array_at v.items) v.ok.0 refl $ frame ! $
      -- the spare room with the right to free, the capacity's bound, and the fields stay
      show ! (λ i. sem 𝓛 (awaits_bytes extent i.vec.len (λ ys. Refilled i.vec (one u ∷ []) ys))) (record { vec = v }) $
      feq_i ! ℕ v.len v.len refl $ frame ! $
      each ! (λ ys. wand 𝓤 (sem 𝓛 (Awaited v.ptr v.len ys)) (sem 𝓛 (Refilled v (one u ∷ []) ys)))
      (λ ys. assume ! (‵ (Awaited v.ptr v.len ys)) $ fsplit ! $ feq_l ! (λ long.
      rewrite ! 0 (Array_at ys) long refl $ fjoin ! $ rewrite ! 0 (λ content. ‵ (Block v.ptr content)) (sym (with_items_is v ys long)) refl $
      let zs = (with_items v ys).items in
      rewrite ! 0 (λ p. ‵ (Block p zs)) at refl $ rewrite ! 0 (λ y. ‵ (owns_if y (Block (block_ptr b o) zs))) (sym has) refl $
      rewrite ! 0 (λ p. ‵ (in_block p (owns_if (has_block v.cap) (Block p zs)))) (sym at) refl $
      move ! (1 ∷ 0 ∷ []) $ fjoin ! $ move ! (1 ∷ 0 ∷ []) $ fjoin ! $ one_made ! Bytes (with_items v ys) u $ done !)))
