-- A name as it is shown, in runs of plain bytes and control characters.
use Rattle.std.proofs.Common.{◌≡◌, ℕ, zero, suc, ◌+◌, ◌-◌, ◌≤◌, ◌<◌, false, refl, List, [], ◌∷◌, ◌++◌, length, get_or, take, drop, sym, ap, ◌∙◌, subst, arith, append_assoc}
use Rattle.std.specs.List.{AllByRecursion}
use Rattle.std.proofs.lemmas.List.{append-nil, take-append-drop}
use Rattle.std.proofs.Math.Numerals.{one-add, add-one}
use Rattle.pblk_outside.specs.Sink.{SinkView}
use Rattle.pblk_model.specs.CommandText.{shown_name, name_byte}
use Rattle.command_text.specs.Names.{is_control}
use Rattle.command_text.specs.Says.{HasTaken, HasFailed}
use Rattle.command_text.proofs.Saying.{nothing_taken, taken_then, failed_then, failed_first}
use Rattle.pblk_model.proofs.Parts.{take_whole}

pub plain_byte : (b : ℕ) → is_control b ≡ false → name_byte b ≡ b ∷ []
plain_byte b h = rw h refl

pub shown-append : (xs ys : List ℕ) → shown_name (xs ++ ys) ≡ shown_name xs ++ shown_name ys
shown-append [] ys = refl
shown-append (x ∷ xs) ys = ap (λ zs. name_byte x ++ zs) (shown-append xs ys) ∙ sym (append_assoc (name_byte x) (shown_name xs) (shown_name ys))

-- so much of a name has been written, and so much is left
pub record HasShown (name rest : List ℕ) (old new : SinkView) : Type 0 where
  pub done : List ℕ
  pub parts : name ≡ done ++ rest
  pub taken : HasTaken (shown_name done) old new

pub shown_more : (name run rest others : List ℕ) (old mid new : SinkView) → rest ≡ run ++ others → HasShown name rest old mid
    → HasTaken (shown_name run) mid new → HasShown name others old new
shown_more name run rest others old mid new e h k = record {
  done = h.done ++ run;
  parts = h.parts ∙ ap (λ xs. h.done ++ xs) e ∙ sym (append_assoc h.done run others);
  taken = rw (shown-append h.done run) (taken_then (shown_name h.done) (shown_name run) old mid new h.taken k);
}

pub shown_failed : (name run rest others : List ℕ) (old mid new : SinkView) → rest ≡ run ++ others → HasShown name rest old mid
    → HasFailed (shown_name run) mid new → HasFailed (shown_name name) old new
shown_failed name run rest others old mid new e h k =
    let parts : name ≡ (h.done ++ run) ++ others = h.parts ∙ ap (λ xs. h.done ++ xs) e ∙ sym (append_assoc h.done run others) in
    let shown : shown_name name ≡ (shown_name h.done ++ shown_name run) ++ shown_name others = ap shown_name parts ∙ shown-append (h.done ++ run) others
    ∙ ap (λ xs. xs ++ shown_name others) (shown-append h.done run) in
    subst (λ x. HasFailed x old new) (sym shown)
    (failed_first (shown_name h.done ++ shown_name run) (shown_name others) old new (failed_then (shown_name h.done) (shown_name run) old mid new h.taken k))

pub shown_none : (name : List ℕ) (v : SinkView) → HasShown name name v v
shown_none name v = record { done = []; parts = refl; taken = nothing_taken v }

-- Plain bytes.

pub plain_more : (name : List ℕ) (i d : ℕ) → i < length name → AllByRecursion (λ b. is_control b ≡ false) (take i name) → is_control (get_or name i d) ≡ false
    → AllByRecursion (λ b. is_control b ≡ false) (take (i + 1) name)
plain_more name i d below h k = rw add-one (more name i d below h k)
  where
    more : (name : List ℕ) (i d : ℕ) → i < length name → AllByRecursion (λ b. is_control b ≡ false) (take i name) → is_control (get_or name i d) ≡ false
        → AllByRecursion (λ b. is_control b ≡ false) (take (suc i) name)
    more [] i d below h k = absurd (omega (arith, below))
    more (x ∷ xs) zero d below h k = (k, tt)
    more (x ∷ xs) (suc i) d below h k = (h.0, more xs i d (omega (arith, below)) h.1 k)

shown_plain : (xs : List ℕ) → AllByRecursion (λ b. is_control b ≡ false) xs → shown_name xs ≡ xs
shown_plain [] h = refl
shown_plain (x ∷ xs) h = ap (λ ys. ys ++ shown_name xs) (plain_byte x h.0) ∙ ap (λ ys. x ∷ ys) (shown_plain xs h.1)

first_of : (xs : List ℕ) (d : ℕ) → 1 ≤ length xs → xs ≡ get_or xs 0 d ∷ take (length xs - 1) (drop 1 xs)
first_of [] d some = absurd (omega (arith, some))
first_of (x ∷ xs) d some =
    let count : length (x ∷ xs) - 1 ≡ length xs = omega arith in
    ap (λ ys. x ∷ ys) (sym (ap (λ n. take n xs) count ∙ take_whole xs))

-- The pieces of a name.

module _ (name rest piece : List ℕ) (d : ℕ) (old mid new : SinkView) (some : 1 ≤ length rest) (shown : piece ≡ name_byte (get_or rest 0 d))
    (h : HasShown name rest old mid) where
  one : shown_name (get_or rest 0 d ∷ []) ≡ piece
  one = append-nil (name_byte (get_or rest 0 d)) ∙ sym shown

  pub control_failed : HasFailed piece mid new → HasFailed (shown_name name) old new
  control_failed k = shown_failed name (get_or rest 0 d ∷ []) rest (take (length rest - 1) (drop 1 rest)) old mid new (first_of rest d some) h
      (subst (λ x. HasFailed x mid new) (sym one) k)

  pub control_shown : HasTaken piece mid new → HasShown name (take (length rest - 1) (drop 1 rest)) old new
  control_shown k = shown_more name (get_or rest 0 d ∷ []) rest (take (length rest - 1) (drop 1 rest)) old mid new (first_of rest d some) h
      (subst (λ x. HasTaken x mid new) (sym one) k)

module _ (name rest front back : List ℕ) (n d : ℕ) (old mid new : SinkView) (some : 1 ≤ length rest) (plain : is_control (get_or rest 0 d) ≡ false)
    (others : AllByRecursion (λ b. is_control b ≡ false) (take n (take (length rest - 1) (drop 1 rest)))) (front_is : front ≡ take (1 + n) rest)
    (back_is : back ≡ drop (1 + n) rest) (h : HasShown name rest old mid) where
  run_is : front ≡ get_or rest 0 d ∷ take n (take (length rest - 1) (drop 1 rest))
  run_is = front_is ∙ ap (λ k. take k rest) (one-add n) ∙ ap (λ xs. take (suc n) xs) (first_of rest d some)

  same : shown_name front ≡ front
  same = shown_plain front (subst (λ xs. AllByRecursion (λ b. is_control b ≡ false) xs) (sym run_is) (plain, others))

  parts : rest ≡ front ++ back
  parts = sym (ap (λ xs. xs ++ back) front_is ∙ ap (λ xs. take (1 + n) rest ++ xs) back_is ∙ take-append-drop (1 + n) rest)

  pub run_failed : HasFailed front mid new → HasFailed (shown_name name) old new
  run_failed k = shown_failed name front rest back old mid new parts h (subst (λ x. HasFailed x mid new) (sym same) k)

  pub run_shown : HasTaken front mid new → HasShown name back old new
  run_shown k = shown_more name front rest back old mid new parts h (subst (λ x. HasTaken x mid new) (sym same) k)
