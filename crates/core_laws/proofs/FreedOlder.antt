-- The rows of lines of older mounts, once a line is freed: its row goes.
use Rattle.std.proofs.Common.{◌≡◌, ℕ, ◌==◌, not, nat_eq, Bool, true, false, cond, Some, None, Option, List, [], ◌∷◌, refl, sym, ap, ap₂, ◌∙◌, if◌then◌else◌}
use Rattle.std.specs.List.{cons_option, filter, filter_map, range_with_len}
use Rattle.std.proofs.lemmas.Bool.{eqb-true, eqb-false}
use Rattle.pblk_model.specs.Contents.{head}
use Rattle.pblk_model.specs.Image.{Image}
use Rattle.pblk_model.specs.StartRecord.{Row, StartRecord, start_of}
use Rattle.pblk_world.specs.Events.{Free}
use Rattle.pblk_world.specs.World.{Logs}
use Rattle.pblk_world.specs.EngineLog.{is_as_found, LineLife, life_of}
use Rattle.pblk_world.specs.Lines.{found_image}
use Rattle.pblk_world.specs.Starts.{bound_by, found_row, older_bound, older_row, older_rows}
use Rattle.core_laws.specs.Stepping.{after}
use Rattle.core_laws.proofs.FreedLives.{life_beside, life_freed}
use Rattle.core_laws.proofs.KeptSlots.{first_kept}
use Rattle.core_laws.proofs.SteppingLemmas.{found_kept}

-- what passes the test
abbrev passing : (Row → Bool) → Option Row → Option Row
passing test None = None
passing test (Some row) = if test row then Some row else None

filter_made : (f g : ℕ → Option Row) (test : Row → Bool) → ((m : ℕ) → g m ≡ passing test (f m)) → (xs : List ℕ)
    → filter_map g xs ≡ filter test (filter_map f xs)
filter_made f g test same [] = refl
filter_made f g test same (x ∷ xs) = ap₂ (λ o ys. cons_option o ys) (same x) (filter_made f g test same xs) ∙ go (f x)
  where
    go : (o : Option Row) → cons_option (passing test o) (filter test (filter_map f xs)) ≡ filter test (cons_option o (filter_map f xs))
    go None = refl
    go (Some row) = by (test row)
      where
        by : (b : Bool) → cons_option (if b then Some row else None) (filter test (filter_map f xs))
            ≡ cond b (row ∷ filter test (filter_map f xs)) (filter test (filter_map f xs))
        by true = refl
        by false = refl

module _ (i : Image) (logs : Logs) (line : ℕ) (knows : List ℕ) where
  abbrev new : Logs
  new = after logs (Free line) knows

  abbrev is_other : Row → Bool
  is_other row = not (row.line == line)

  row_freed : (m : ℕ) → older_row i (after logs (Free line) knows) m ≡ passing is_other (older_row i logs m)
  row_freed m = go (nat_eq m line) refl
    where
      by_head : (o : Option StartRecord) → found_row i (after logs (Free line) knows) m o ≡ found_row i logs m o
      by_head None = refl
      by_head (Some start) = ap₂ (λ (f : Image) first. Some (record { line = m; seq = start.seq; bound = bound_by (head f) first m start.seq }))
          (found_kept i logs (Free line) knows refl) (first_kept (logs 0) (Free line) knows refl)

      same : found_row i (after logs (Free line) knows) m (start_of (found_image i (after logs (Free line) knows)) m)
          ≡ found_row i logs m (start_of (found_image i logs) m)
      same = ap (λ (f : Image). found_row i new m (start_of f m)) (found_kept i logs (Free line) knows refl) ∙ by_head (start_of (found_image i logs) m)

      gone : nat_eq m line ≡ true → (b : Bool) (o : Option StartRecord) → passing is_other (if b then found_row i logs m o else None) ≡ None
      gone e false o = refl
      gone e true None = refl
      gone e true (Some start) =
          ap (λ b. if not b then Some (record { line = m; seq = start.seq; bound = older_bound i logs m start.seq }) else None) e

      stays : nat_eq m line ≡ false → (b : Bool) (o : Option StartRecord) → passing is_other (if b then found_row i logs m o else None)
          ≡ (if b then found_row i logs m o else None)
      stays e false o = refl
      stays e true None = refl
      stays e true (Some start) =
          ap (λ b. if not b then Some (record { line = m; seq = start.seq; bound = older_bound i logs m start.seq }) else None) e

      go : (b : Bool) → nat_eq m line ≡ b → older_row i (after logs (Free line) knows) m ≡ passing is_other (older_row i logs m)
      go true e =
          ap (λ (life : LineLife). if is_as_found life then found_row i new m (start_of (found_image i new) m) else None)
          (ap (life_of (new 0)) (eqb-true m line e) ∙ life_freed (logs 0) line knows)
          ∙ sym (gone e (is_as_found (life_of (logs 0) m)) (start_of (found_image i logs) m))
      go false e =
          ap₂ (λ (life : LineLife) row. if is_as_found life then row else None) (life_beside (logs 0) line knows m (eqb-false m line e)) same
          ∙ sym (stays e (is_as_found (life_of (logs 0) m)) (start_of (found_image i logs) m))

  pub older_freed : older_rows i (after logs (Free line) knows) ≡ filter (λ row. not (row.line == line)) (older_rows i logs)
  older_freed = filter_made (older_row i logs) (older_row i new) is_other row_freed (range_with_len 0 i.shape.chunks)
