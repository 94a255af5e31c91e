-- Some bytes are cut into ranges and made whole again, and single ranges go and come. Assumes `Logic`.
use Rattle.std.proofs.Common.{◌≡◌, ℕ, zero, suc, ◌+◌, ◌*◌, ◌<◌, Bool, true, false, List, [], ◌∷◌, ◌++◌, length, set, replicate, take, drop, refl, sym, ap, arith, Some, true≢false}
use Rattle.std.specs.List.{slice_get}
use Rattle.std.proofs.lemmas.List.{take-append-drop, length-take-le, length-drop, length-append}
use Rattle.std.proofs.lemmas.Option.{none-some}
use Rattle.std.specs.Option.{unwrap_or}
use seplogic.Ra.Ura.{Ura}
use mir.Syntax.{w8, ty_int, ty_array}
use base.Fraction.{full_share}
use base.Logic.{SProp, ent, sep, guard, never, never_e, via}
use base.Fml.{Fml, fsep, feq}
use prog.Model.{Model}
use types.Logic.{Logic, sem}
use types.Kit.{‵, raw, ◌⊛◌, given, ◌$◌, ◌∵◌, !, qed, by, move, keep, use1, use2, split, rewrite, fsplit, fjoin, fpick, fpack, feq_l, feq_i, learn, check, done}
use denote.RawPtr.Bytes.{bytes, bytes_cut, bytes_glue, bytes-room}
use Rattle.sector_pool.specs.Owned.{some_bytes, ranges_here}

module _ {M : Type 1} {𝓤 : Ura M} (𝓛 : Logic 𝓤) (block : ℕ) where
  open 𝓛 use {H}

  abbrev ⟦◌⟧ : Fml → SProp 𝓤
  ⟦ P ⟧ = sem 𝓛 P

  abbrev Some_at : ℕ → ℕ → Fml
  Some_at count at = some_bytes count block at

  abbrev Filled : ℕ → ℕ → List ℕ → Fml
  Filled count at xs = fsep (feq ℕ (length xs) count) (bytes full_share xs block at)

  -- the first n of n + m bytes, and those behind them
  parted : (n m at : ℕ) → ent 𝓤 ⟦ Some_at (n + m) at ⟧ (sep 𝓤 ⟦ Some_at n at ⟧ ⟦ Some_at m (at + n) ⟧)
  parted n m at =
      qed 𝓛 (‵ (Some_at (n + m) at) ∷ []) ∵ fpick ! (λ xs. fsplit ! $ feq_l ! (λ long.
      let first = take n xs in
      let last = drop n xs in
      let first_long : length first ≡ n = length-take-le n xs (omega arith) in
      let last_long : length last ≡ m = omega (arith, length-drop n xs) in
      rewrite ! 0 (λ ys. ‵ (bytes full_share ys block at)) (sym (take-append-drop n xs)) refl $
      use1 𝓛 (‵ (bytes full_share first block at) ⊛ ‵ (bytes full_share last block (at + length first)))
      (bytes_cut 𝓛 full_share first last block at) $ split ! $
      rewrite ! 1 (λ k. ‵ (bytes full_share last block (at + k))) first_long refl $
      feq_i ! ℕ (length first) n first_long $ fjoin ! $ fpack ! (List ℕ) (Filled n at) first $ move ! (1 ∷ []) $
      feq_i ! ℕ (length last) m last_long $ fjoin ! $ fpack ! (List ℕ) (Filled m (at + n)) last $ move ! (1 ∷ 0 ∷ []) $ done !))

  united : (n m at : ℕ) → ent 𝓤 (sep 𝓤 ⟦ Some_at n at ⟧ ⟦ Some_at m (at + n) ⟧) ⟦ Some_at (n + m) at ⟧
  united n m at =
      qed 𝓛 (‵ (Some_at n at) ∷ ‵ (Some_at m (at + n)) ∷ []) ∵ fpick ! (λ xs. fsplit ! $ feq_l ! (λ first_long.
      move ! (1 ∷ []) $ fpick ! (λ ys. fsplit ! $ feq_l ! (λ last_long.
      rewrite ! 0 (λ k. ‵ (bytes full_share ys block (at + k))) (sym first_long) refl $ move ! (1 ∷ 0 ∷ []) $
      use2 𝓛 (‵ (bytes full_share (xs ++ ys) block at)) (bytes_glue 𝓛 full_share xs ys block at) $
      feq_i ! ℕ (length (xs ++ ys)) (n + m) (omega (arith, length-append xs ys)) $ fjoin ! $ fpack ! (List ℕ) (Filled (n + m) at) (xs ++ ys) $ done !))))

  -- nobody has the same bytes twice
  once : Model 𝓤 H → (n at : ℕ) → 0 < n → ent 𝓤 (sep 𝓤 ⟦ Some_at n at ⟧ ⟦ Some_at n at ⟧) (never 𝓤)
  once 𝓜 n at positive =
      qed 𝓛 (‵ (Some_at n at) ∷ ‵ (Some_at n at) ∷ []) ∵ fpick ! (λ xs. fsplit ! $ feq_l ! (λ long.
      move ! (1 ∷ []) $ fpick ! (λ ys. fsplit ! $ feq_l ! (λ as_long.
      let τ = ty_array (ty_int w8) (length xs) in
      let σ = ty_array (ty_int w8) (length ys) in
      use1 𝓛 (raw (H.room σ block at)) (bytes-room 𝓛 ys block at) $ move ! (1 ∷ []) $
      use1 𝓛 (raw (H.room τ block at)) (bytes-room 𝓛 xs block at) $
      by ! (𝓜.room-room τ σ block at at at (omega arith, omega arith) (omega arith, omega arith))))))

  module _ (stride rest : ℕ) where
    abbrev Here : ℕ → List Bool → Fml
    Here at here = ranges_here block stride rest at here

    pub all_cut : (n at : ℕ) → ent 𝓤 ⟦ Some_at (n * stride + rest) at ⟧ ⟦ Here at (replicate n true) ⟧
    all_cut zero at =
        let only_rest : 0 * stride + rest ≡ rest = omega arith in
        qed 𝓛 (‵ (Some_at (0 * stride + rest) at) ∷ []) ∵ rewrite ! 0 (λ k. ‵ (Some_at k at)) only_rest refl $ done !
    all_cut (suc n) at =
        let one_more : suc n * stride + rest ≡ stride + (n * stride + rest) = omega arith in
        qed 𝓛 (‵ (Some_at (suc n * stride + rest) at) ∷ []) ∵ rewrite ! 0 (λ k. ‵ (Some_at k at)) one_more refl $
        use1 𝓛 (‵ (Some_at stride at) ⊛ ‵ (Some_at (n * stride + rest) (at + stride))) (parted stride (n * stride + rest) at) $ split ! $ move ! (1 ∷ []) $
        use1 𝓛 (‵ (Here (at + stride) (replicate n true))) (all_cut n (at + stride)) $ move ! (1 ∷ 0 ∷ []) $ fjoin ! $ done !

    pub all_united : (n at : ℕ) → ent 𝓤 ⟦ Here at (replicate n true) ⟧ ⟦ Some_at (n * stride + rest) at ⟧
    all_united zero at =
        let only_rest : rest ≡ 0 * stride + rest = omega arith in
        qed 𝓛 (‵ (Some_at rest at) ∷ []) ∵ rewrite ! 0 (λ k. ‵ (Some_at k at)) only_rest refl $ done !
    all_united (suc n) at =
        let one_more : stride + (n * stride + rest) ≡ suc n * stride + rest = omega arith in
        qed 𝓛 (‵ (Here at (replicate (suc n) true)) ∷ []) ∵ fsplit ! $ move ! (1 ∷ []) $
        use1 𝓛 (‵ (Some_at (n * stride + rest) (at + stride))) (all_united n (at + stride)) $ move ! (1 ∷ 0 ∷ []) $
        use2 𝓛 (‵ (Some_at (stride + (n * stride + rest)) at)) (united stride (n * stride + rest) at) $ rewrite ! 0
        (λ k. ‵ (Some_at k at)) one_more refl $ done !

    -- a range that is here goes out with its bytes
    pub goes_out : (i at : ℕ) (here : List Bool) → slice_get here i ≡ Some true
        → ent 𝓤 ⟦ Here at here ⟧ (sep 𝓤 ⟦ Some_at stride (at + i * stride) ⟧ ⟦ Here at (set here i false) ⟧)
    goes_out i at [] is = absurd (none-some true is)
    goes_out zero at (false ∷ here) is = absurd (true≢false (sym (ap (λ o. unwrap_or o true) is)))
    goes_out zero at (true ∷ here) is =
        let first : at ≡ at + 0 * stride = omega arith in
        qed 𝓛 (‵ (Here at (true ∷ here)) ∷ []) ∵ fsplit ! $ rewrite ! 0 (λ k. ‵ (Some_at stride k)) first refl $ done !
    goes_out (suc i) at (true ∷ here) is =
        let later : at + stride + i * stride ≡ at + suc i * stride = omega arith in
        qed 𝓛 (‵ (Here at (true ∷ here)) ∷ []) ∵ fsplit ! $ move ! (1 ∷ []) $
        use1 𝓛 (‵ (Some_at stride (at + stride + i * stride)) ⊛ ‵ (Here (at + stride) (set here i false))) (goes_out i (at + stride) here is) $ split ! $
        rewrite ! 0 (λ k. ‵ (Some_at stride k)) later refl $ move ! (2 ∷ 1 ∷ []) $ fjoin ! $ move ! (1 ∷ 0 ∷ []) $ done !
    goes_out (suc i) at (false ∷ here) is =
        let later : at + stride + i * stride ≡ at + suc i * stride = omega arith in
        qed 𝓛 (‵ (Here at (false ∷ here)) ∷ []) ∵
        use1 𝓛 (‵ (Some_at stride (at + stride + i * stride)) ⊛ ‵ (Here (at + stride) (set here i false))) (goes_out i (at + stride) here is) $ split ! $
        rewrite ! 0 (λ k. ‵ (Some_at stride k)) later refl $ done !

    -- a range whose bytes come back was out
    pub comes_back : Model 𝓤 H → 0 < stride → (i at : ℕ) (here : List Bool) → i < length here
        → ent 𝓤 (sep 𝓤 ⟦ Some_at stride (at + i * stride) ⟧ ⟦ Here at here ⟧) (guard 𝓤 (slice_get here i ≡ Some false) ⟦ Here at (set here i true) ⟧)
    comes_back 𝓜 positive i at [] within = absurd (omega arith)
    comes_back 𝓜 positive zero at (true ∷ here) within =
        let first : at + 0 * stride ≡ at = omega arith in
        qed 𝓛 (‵ (Some_at stride (at + 0 * stride)) ∷ ‵ (Here at (true ∷ here)) ∷ []) ∵ rewrite ! 0 (λ k. ‵ (Some_at stride k)) first refl $
        move ! (1 ∷ []) $ fsplit ! $ keep ! (0 ∷ 2 ∷ []) $ by ! (via 𝓤 _ (once 𝓜 stride at positive) (never_e 𝓤 _))
    comes_back 𝓜 positive zero at (false ∷ here) within =
        let first : at + 0 * stride ≡ at = omega arith in
        qed 𝓛 (‵ (Some_at stride (at + 0 * stride)) ∷ ‵ (Here at (false ∷ here)) ∷ []) ∵ rewrite ! 0 (λ k. ‵ (Some_at stride k)) first refl $
        fjoin ! $ check ! refl $ done !
    comes_back 𝓜 positive (suc i) at (true ∷ here) within =
        let later : at + suc i * stride ≡ at + stride + i * stride = omega arith in
        qed 𝓛 (‵ (Some_at stride (at + suc i * stride)) ∷ ‵ (Here at (true ∷ here)) ∷ []) ∵ rewrite ! 0 (λ k. ‵ (Some_at stride k)) later refl $
        move ! (1 ∷ []) $ fsplit ! $ move ! (2 ∷ 1 ∷ []) $
        use2 𝓛 (given (slice_get here i ≡ Some false) (‵ (Here (at + stride) (set here i true))))
        (comes_back 𝓜 positive i (at + stride) here (omega arith)) $ learn ! (λ out.
        move ! (1 ∷ 0 ∷ []) $ fjoin ! $ check ! out $ done !)
    comes_back 𝓜 positive (suc i) at (false ∷ here) within =
        let later : at + suc i * stride ≡ at + stride + i * stride = omega arith in
        qed 𝓛 (‵ (Some_at stride (at + suc i * stride)) ∷ ‵ (Here at (false ∷ here)) ∷ []) ∵ rewrite ! 0 (λ k. ‵ (Some_at stride k)) later refl $
        use2 𝓛 (given (slice_get here i ≡ Some false) (‵ (Here (at + stride) (set here i true))))
        (comes_back 𝓜 positive i (at + stride) here (omega arith)) $ learn ! (λ out.
        check ! out $ done !)
