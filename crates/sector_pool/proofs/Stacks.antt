-- The stack of the ranges that are left, over what happens to it.
use Rattle.std.proofs.Common.{◌≡◌, ℕ, suc, ◌+◌, Bool, true, false, List, [], ◌∷◌, ◌++◌, length, reverse, set, replicate, sym, ap, ◌∙◌, subst, arith, Some}
use Rattle.std.specs.List.{slice_get}
use Rattle.std.proofs.lemmas.List.{reverse-append, length-reverse}
use Rattle.pblk_model.specs.Frames.{count_left}
use Rattle.sector_pool.specs.Stack.{IsStackOf}
use Rattle.sector_pool.proofs.Flags.{left_goes, left_again, gone_again, left_before, get_before, set_before, last_is_out, last_comes}

-- it is as high as ranges are left
pub height : (numbers : List ℕ) (left : List Bool) → IsStackOf numbers left → length numbers ≡ count_left left
height [] left stack = sym stack
height (n ∷ numbers) left stack = omega (arith, left_goes left n stack.0, height numbers (set left n false) stack.1)

-- a range that comes back goes on top
pub pushed : (numbers : List ℕ) (left : List Bool) (n : ℕ) → slice_get left n ≡ Some false → IsStackOf numbers left → IsStackOf (n ∷ numbers) (set left n true)
pushed numbers left n out stack = (left_again left n out, subst (λ flags. IsStackOf numbers flags) (sym (gone_again left n out)) stack)

-- a range more that is out changes nothing
wider : (numbers : List ℕ) (left : List Bool) → IsStackOf numbers left → IsStackOf numbers (left ++ false ∷ [])
wider [] left stack = left_before left ∙ stack
wider (n ∷ numbers) left stack =
    (get_before left n stack.0, subst (λ flags. IsStackOf numbers flags) (sym (set_before left n stack.0)) (wider numbers (set left n false) stack.1))

-- a range more that is left goes on top
pub higher : (numbers : List ℕ) (n : ℕ) → IsStackOf numbers (replicate n true) → IsStackOf (n ∷ numbers) (replicate (suc n) true)
higher numbers n stack =
    subst (λ flags. IsStackOf (n ∷ numbers) flags) (last_comes n)
    (pushed numbers (replicate n true ++ false ∷ []) n (last_is_out n) (wider numbers (replicate n true) stack))

-- The same of a list whose last number is the topmost.
module _ (old new : List ℕ) (n : ℕ) (last : new ≡ old ++ n ∷ []) where
  turned : reverse new ≡ n ∷ reverse old
  turned = ap reverse last ∙ reverse-append old (n ∷ [])

  pub popped : (left : List Bool) → IsStackOf (reverse new) left → (slice_get left n ≡ Some true) × IsStackOf (reverse old) (set left n false)
  popped left stack = subst (λ numbers. IsStackOf numbers left) turned stack

  pub put : (left : List Bool) → slice_get left n ≡ Some false → IsStackOf (reverse old) left → IsStackOf (reverse new) (set left n true)
  put left out stack = subst (λ numbers. IsStackOf numbers (set left n true)) (sym turned) (pushed (reverse old) left n out stack)

  pub put_next : IsStackOf (reverse old) (replicate n true) → IsStackOf (reverse new) (replicate (n + 1) true)
  put_next stack =
      let next : suc n ≡ n + 1 = omega arith in
      subst (λ numbers. IsStackOf numbers (replicate (n + 1) true)) (sym turned)
      (subst (λ count. IsStackOf (n ∷ reverse old) (replicate count true)) next (higher (reverse old) n stack))

-- there are as many numbers as ranges that are left
pub as_many : (numbers : List ℕ) (left : List Bool) → IsStackOf (reverse numbers) left → length numbers ≡ count_left left
as_many numbers left stack = sym (length-reverse numbers) ∙ height (reverse numbers) left stack
