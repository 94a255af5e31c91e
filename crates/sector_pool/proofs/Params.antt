-- A parameter of a function by its number, and a struct whose one field is a pointer.
use Rattle.std.proofs.Common.{◌≡◌, ℕ, zero, suc, List, [], ◌∷◌, ◌++◌, ap, ◌∙◌}
use seplogic.Ra.Ura.{Ura}
use mir.Val.{Val, vstruct, of_list}
use types.Logic.{Logic}
use types.Kit.{Goal, Seq, Item, ‵, ◌$◌, fsplit, fpick, feq_l, drop}
use denote.Builtin.{unit, RawPtr}
use denote.RawPtr.{Ptr, ptr_val}
use denote.Signature.{Slot, plain}
use Rattle.bytes.proofs.Walks.{plainly, one}

abbrev pub param_at : {n : ℕ} → ℕ → List (Slot n) → Slot n
param_at k [] = plain (λ _. unit)
param_at zero (slot ∷ slots) = slot
param_at (suc k) (slot ∷ slots) = param_at k slots

module _ {M : Type 1} {𝓤 : Ura M} {𝓛 : Logic 𝓤} {K : Type 0} {Γ : List (Item 𝓤)} {G : Goal 𝓤 𝓛.H} where
  -- such a struct owns nothing, and its value is the pointer's
  pub pointer_had : K → (ptr : Ptr) (vs : List Val) → (vs ≡ one (ptr_val ptr) ∷ [] → Seq K 𝓛 Γ G)
      → Seq K 𝓛 (‵ ((plainly (RawPtr ∷ [])).own_val (ptr, tt) vs) ∷ Γ) G
  pointer_had t ptr vs go = fpick t
      (λ us. fsplit t $ feq_l t (λ whole. fsplit t $ feq_l t (λ field. drop t $ go (whole ∙ ap (λ ws. vstruct (of_list (ws ++ [])) ∷ []) field))))
