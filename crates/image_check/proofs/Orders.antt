-- What the definitions give of lines and sectors rises by its first numbers.
use Rattle.std.proofs.Common.{◌≡◌, ℕ, ◌+◌, ◌<◌, zero, suc, List, [], ◌∷◌, map, Option, Some, None, refl, sym, ap, subst, arith}
use Rattle.std.specs.List.{cons_option, filter_map, range_with_len}
use Rattle.std.specs.List.Sorted.{IsStrictlyIncreasing}
use Rattle.pblk_model.proofs.Options.{map_some}
use Rattle.pblk_model.specs.declared.found.Winner.{Winner}
use Rattle.pblk_model.specs.Image.{Image}
use Rattle.pblk_model.specs.StartRecord.{StartRecord, start_of}
use Rattle.pblk_model.specs.Records.{Record}
use Rattle.pblk_model.specs.Contents.{counted, winner}
use Rattle.image_check.specs.declared.certificate.LineEntry.{LineEntry}
use Rattle.image_check.specs.Right.{entries_of, entry_of, lives_of, live_in, win_by, wins_of}
use Rattle.image_check.proofs.Rises.{rise_cons, rise_none, rise_one, rise_tail}

module _ {Y : Type 0} (f : ℕ → Option Y) (number : Y → ℕ) (same : (k : ℕ) (y : Y) → f k ≡ Some y → number y ≡ k) where
  above_range : (a n b : ℕ) → b < a → IsStrictlyIncreasing (b ∷ map number (filter_map f (range_with_len a n)))
  above_range a zero b low = rise_one b
  above_range a (suc n) b low = by_first (λ c less. above_range (a + 1) n c less) (f a) refl where
    by_first : ((c : ℕ) → c < a + 1 → IsStrictlyIncreasing (c ∷ map number (filter_map f (range_with_len (a + 1) n)))) → (o : Option Y) → f a ≡ o
        → IsStrictlyIncreasing (b ∷ map number (cons_option o (filter_map f (range_with_len (a + 1) n))))
    by_first later None is = later b (omega arith)
    by_first later (Some y) is =
        let here : number y ≡ a = same a y is in
        rise_cons b (number y) (map number (filter_map f (range_with_len (a + 1) n))) (omega arith)
        (later (number y) (omega arith))

  pub rise_range : (n : ℕ) → IsStrictlyIncreasing (map number (filter_map f (range_with_len 0 n)))
  rise_range zero = rise_none
  rise_range (suc n) = by_first (f 0) refl where
    by_first : (o : Option Y) → f 0 ≡ o → IsStrictlyIncreasing (map number (cons_option o (filter_map f (range_with_len (0 + 1) n))))
    by_first None is = rise_tail 0 (map number (filter_map f (range_with_len (0 + 1) n))) (above_range (0 + 1) n 0 (omega arith))
    by_first (Some y) is = let here : number y ≡ 0 = same 0 y is in above_range (0 + 1) n (number y) (omega arith)

-- numbers in a row rise
pub row_rises : (a n : ℕ) → IsStrictlyIncreasing (range_with_len a n)
row_rises a zero = rise_none
row_rises a (suc zero) = rise_one a
row_rises a (suc (suc n)) = rise_cons a (a + 1) (range_with_len (a + 1 + 1) n) (omega arith) (row_rises (a + 1) (suc n))

pub entries_rise : (i : Image) → IsStrictlyIncreasing (map (λ e. e.line) (entries_of i))
entries_rise i = rise_range (entry_of i) (λ e. e.line) same i.shape.chunks where
  same : (k : ℕ) (e : LineEntry) → entry_of i k ≡ Some e → e.line ≡ k
  same k e is = let found = map_some {A = StartRecord} _ (start_of i k) e is in ap (λ (x : LineEntry). x.line) (sym found.2)

pub wins_rise : (i : Image) → IsStrictlyIncreasing (map (λ w. w.lba) (wins_of i))
wins_rise i = rise_range (λ lba. win_by lba (winner (counted i) lba)) (λ w. w.lba) same i.shape.capacity where
  same : (k : ℕ) (w : Winner) → win_by k (winner (counted i) k) ≡ Some w → w.lba ≡ k
  same k w is = let found = map_some {A = Record} _ (winner (counted i) k) w is in ap (λ (x : Winner). x.lba) (sym found.2)

lives_lines : (wins : List Winner) (es : List LineEntry) → map (λ l. l.line) (map (live_in wins) es) ≡ map (λ e. e.line) es
lives_lines wins [] = refl
lives_lines wins (e ∷ es) = ap (λ xs. e.line ∷ xs) (lives_lines wins es)

pub lives_rise : (i : Image) → IsStrictlyIncreasing (map (λ l. l.line) (lives_of i))
lives_rise i = subst IsStrictlyIncreasing (sym (lives_lines (wins_of i) (entries_of i))) (entries_rise i)
