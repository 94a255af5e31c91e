-- The lines of a certificate, written one after another.
use Rattle.std.proofs.Common.{◌≡◌, ℕ, ◌+◌, ◌<◌, ◌≤◌, List, ◌∷◌, ◌++◌, length, get_or, map, drop, Some, sym, ap, ◌∙◌, subst, append_assoc}
use Rattle.std.specs.List.{slice_get}
use Rattle.std.proofs.lemmas.Option.{slice_get-get_or}
use Rattle.pblk_model.proofs.Parts.{drop_at, drop_past}
use Rattle.pblk_model.specs.Text.{newline}
use Rattle.image_check.specs.declared.said.Said.{Said}
use Rattle.image_check.specs.Text.{said_line, spelled}

-- the first two
pub two_written : (old first out : List ℕ) (s t : Said) (rest : List Said) → first ≡ old ++ (said_line s ++ newline) → out ≡ first ++ (said_line t ++ newline)
    → out ++ spelled rest ≡ old ++ spelled (s ∷ (t ∷ rest))
two_written old first out s t rest one two =
    ap (λ o. o ++ spelled rest) two ∙ append_assoc first (said_line t ++ newline) (spelled rest)
    ∙ ap (λ o. o ++ ((said_line t ++ newline) ++ spelled rest)) one ∙ append_assoc old (said_line s ++ newline) ((said_line t ++ newline) ++ spelled rest)

-- One line of a kind, and all of them: the rows of the kind stand in a slice, and those before a place are written.
module _ {X : Type 0} (kind : X → Said) (xs rows : List X) (same : rows ≡ xs) (k : ℕ) (rest : List Said) (out total : List ℕ)
    (known : out ++ spelled (map kind (drop k xs) ++ rest) ≡ total) where
  pub one_written : (x : X) (more : List ℕ) → k < length rows → more ≡ out ++ (said_line (kind (get_or rows k x)) ++ newline)
      → more ++ spelled (map kind (drop (k + 1) xs) ++ rest) ≡ total
  one_written x more there wrote =
      let row = get_or rows k x in
      let got : slice_get xs k ≡ Some row = ap (λ ys. slice_get ys k) (sym same) ∙ slice_get-get_or rows k x there in
      ap (λ o. o ++ spelled (map kind (drop (k + 1) xs) ++ rest)) wrote
      ∙ append_assoc out (said_line (kind row) ++ newline) (spelled (map kind (drop (k + 1) xs) ++ rest))
      ∙ ap (λ ys. out ++ spelled (map kind ys ++ rest)) (sym (drop_at xs k row got)) ∙ known

  pub kind_written : length rows ≤ k → out ++ spelled rest ≡ total
  kind_written past = ap (λ ys. out ++ spelled (map kind ys ++ rest)) (sym (drop_past xs k (subst (λ ys. length ys ≤ k) same past))) ∙ known
