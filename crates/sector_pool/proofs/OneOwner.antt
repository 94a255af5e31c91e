-- Two `Vec`s with bytes begin at two places, since nobody has the same bytes twice. Assumes `Logic`.
use Rattle.std.proofs.Common.{◌≡◌, ◌≢◌, ℕ, ◌<◌, List, [], ◌∷◌, length, true, refl, sym, ap, arith, Vec}
use Rattle.std.proofs.Math.Decide.{ℕ_discrete}
use Rattle.std.proofs.lemmas.Bool.{ne_eqb, not_from_false}
use seplogic.Ra.Ura.{Ura}
use mir.Syntax.{w8, ty_int, ty_array}
use mir.Val.{Val}
use base.Fraction.{full_share}
use base.Logic.{SProp, ent, sep, guard, never, never_e, id⊢, via}
use base.Fml.{ftrue, fsep, feq}
use prog.Model.{Model}
use types.Logic.{Logic, sem}
use types.Kit.{‵, raw, ◌$◌, ◌∵◌, !, qed, by, move, keep, drop, use1, rewrite, fsplit, check, done}
use denote.Builtin.{u8}
use denote.Array.{Array}
use denote.RawPtr.{Ptr, block_ptr, null_ptr, block_of, count_of, lies_at, in_block, in_a_block}
use denote.RawPtr.Bytes.{bytes, bytes_apart, bytes-room}
use Rattle.std.specs.Allocator.{block_with_items}
use Rattle.std_alloc.specs.Vec.Ownership.{owns_if, has_block}
use Rattle.std_alloc.specs.declared.vec.lodged.Lodged.{Lodged}
use Rattle.bytes.proofs.Lodging.{Housed}
use Rattle.sector_pool.specs.Owned.{holds_bytes}

module _ {M : Type 1} {𝓤 : Ura M} (𝓛 : Logic 𝓤) where
  open 𝓛 use {H}

  -- of what such a Vec owns, its bytes
  its_bytes : (v : Vec ℕ Lodged) (us : List Val) → 0 < v.len → ent 𝓤 (sem 𝓛 (Housed.own_val v us)) (sem 𝓛 (holds_bytes v.ptr v.items))
  its_bytes v us some =
      let has : has_block v.cap ≡ true = not_from_false _ (ne_eqb v.cap 0 (λ zero. omega (arith, v.ok.1))) in
      let Block = λ (p : Ptr). block_with_items (λ _ _. ftrue) u8 p v.len v.cap v.items in
      qed 𝓛 (‵ (Housed.own_val v us) ∷ []) ∵ fsplit ! $ drop ! $ fsplit ! $ drop ! $
      in_a_block ! v.ptr (λ p. in_block p (owns_if (has_block v.cap) (Block p))) (id⊢ 𝓤 (never 𝓤)) (λ b o at.
      rewrite ! 0 (λ y. ‵ (owns_if y (Block (block_ptr b o)))) has refl $ rewrite ! 0 (λ p. ‵ (Block p)) (sym at) refl $ fsplit ! $ keep ! (0 ∷ []) $
      rewrite ! 0 (λ n. ‵ (lies_at (Array u8 n) full_share v.ptr v.items)) v.ok.0 refl $ done !)

  -- two owners of bytes at one place
  clash : Model 𝓤 H → (p q : Ptr) (xs ys : List ℕ) → 0 < length xs → 0 < length ys → block_of p ≡ block_of q → count_of p ≡ count_of q
      → ent 𝓤 (sep 𝓤 (sem 𝓛 (holds_bytes p xs)) (sem 𝓛 (holds_bytes q ys))) (never 𝓤)
  clash 𝓜 null_ptr q xs ys m n blocks counts =
      qed 𝓛 (‵ (holds_bytes null_ptr xs) ∷ ‵ (holds_bytes q ys) ∷ []) ∵ keep ! (0 ∷ []) $ by ! (id⊢ 𝓤 (never 𝓤))
  clash 𝓜 (block_ptr b o) null_ptr xs ys m n blocks counts =
      qed 𝓛 (‵ (holds_bytes (block_ptr b o) xs) ∷ ‵ (holds_bytes null_ptr ys) ∷ []) ∵ keep ! (1 ∷ []) $ by ! (id⊢ 𝓤 (never 𝓤))
  clash 𝓜 (block_ptr b o) (block_ptr c p) xs ys m n blocks counts =
      let τ = ty_array (ty_int w8) (length xs) in
      let σ = ty_array (ty_int w8) (length ys) in
      qed 𝓛 (‵ (holds_bytes (block_ptr b o) xs) ∷ ‵ (holds_bytes (block_ptr c p) ys) ∷ []) ∵
      use1 𝓛 (‵ (fsep (feq ℕ (length xs) (length xs)) (bytes full_share xs b o))) (bytes_apart 𝓛 full_share (length xs) xs b o) $ fsplit ! $ drop ! $
      use1 𝓛 (raw (H.room τ b o)) (bytes-room 𝓛 xs b o) $ move ! (1 ∷ []) $
      use1 𝓛 (‵ (fsep (feq ℕ (length ys) (length ys)) (bytes full_share ys c p))) (bytes_apart 𝓛 full_share (length ys) ys c p) $ fsplit ! $ drop ! $
      use1 𝓛 (raw (H.room σ c p)) (bytes-room 𝓛 ys c p) $ rewrite ! 0 (λ k. raw (H.room σ k p)) (sym blocks) refl $
      by ! (𝓜.room-room σ τ b p o o (omega arith, omega arith) (omega arith, omega arith))

  module _ (𝓜 : Model 𝓤 H) (v w : Vec ℕ Lodged) (us ws : List Val) (some : 0 < v.len) (more : 0 < w.len) where
    abbrev Both : SProp 𝓤
    Both = sep 𝓤 (sem 𝓛 (Housed.own_val v us)) (sem 𝓛 (Housed.own_val w ws))

    pub begin_apart : ent 𝓤 Both (guard 𝓤 (v.ptr ≢ w.ptr) Both)
    begin_apart = by_place (ℕ_discrete (block_of v.ptr) (block_of w.ptr)) (ℕ_discrete (count_of v.ptr) (count_of w.ptr))
      where
        told : v.ptr ≢ w.ptr → ent 𝓤 Both (guard 𝓤 (v.ptr ≢ w.ptr) Both)
        told other = qed 𝓛 (‵ (Housed.own_val v us) ∷ ‵ (Housed.own_val w ws) ∷ []) ∵ check ! other $ done !

        by_place : Dec (block_of v.ptr ≡ block_of w.ptr) → Dec (count_of v.ptr ≡ count_of w.ptr) → ent 𝓤 Both (guard 𝓤 (v.ptr ≢ w.ptr) Both)
        by_place (no other) counts = told (λ same. other (ap block_of same))
        by_place (yes blocks) (no other) = told (λ same. other (ap count_of same))
        by_place (yes blocks) (yes counts) =
            qed 𝓛 (‵ (Housed.own_val v us) ∷ ‵ (Housed.own_val w ws) ∷ []) ∵ use1 𝓛 (‵ (holds_bytes v.ptr v.items)) (its_bytes v us some) $ move ! (1 ∷ []) $
            use1 𝓛 (‵ (holds_bytes w.ptr w.items)) (its_bytes w ws more) $ move ! (1 ∷ 0 ∷ []) $
            by ! (via 𝓤 _ (clash 𝓜 v.ptr w.ptr v.items w.items (omega (arith, v.ok.0, some)) (omega (arith, w.ok.0, more)) blocks counts) (never_e 𝓤 _))
