-- What a scan fetches of each line.
use Rattle.std.proofs.Common.{◌≡◌, ℕ, ◌+◌, ◌≤◌, false, cond, Option, None, List, sym, subst, arith}
use Rattle.pblk_model.specs.declared.shape.Shape.{Shape}
use Rattle.pblk_model.specs.Image.{Image, width}
use Rattle.pblk_model.specs.LineOrder.{end_len, start_len}
use Rattle.unit_port.specs.Unit.{ModelUnit}
use Rattle.world_laws.specs.Finding.{is_full}
use Rattle.scan_recovery.specs.declared.error.ScanErr.{ScanErr}
use Rattle.scan_recovery.specs.Fetches.{WereFewFetched, first_of, most_behind, most_fetches, written_in}
use Rattle.scan_recovery.specs.Units.{image_of}
use Rattle.scan_recovery.proofs.FetchSteps.{few_joined, few_more, first_most}

-- the fronts of all lines
pub fronts_most : (s : Shape) (old new : List ModelUnit) (o : Option ScanErr) → WereFewFetched s old new o (first_of s.chunks (λ line. start_len s))
    → WereFewFetched s old new o (most_fetches (image_of s old))
fronts_most s old new o h =
    few_more s old new o (first_of s.chunks (λ line. start_len s)) (most_fetches (image_of s old))
    (λ line. (let most = first_most s.chunks (λ line. start_len s) line in omega arith)) h

-- and what stands behind them
pub lines_most : (s : Shape) (old mid new : List ModelUnit) (o : Option ScanErr) → WereFewFetched s old mid None (first_of s.chunks (λ line. start_len s))
    → WereFewFetched s mid new o (first_of s.chunks (most_behind (image_of s mid))) → WereFewFetched s old new o (most_fetches (image_of s old))
lines_most s old mid new o h k =
    let i : Image = image_of s old in
    let behind = subst (λ (j : Image). WereFewFetched s mid new o (first_of s.chunks (most_behind j))) h.1.image k in
    few_joined s old mid new o (first_of s.chunks (λ line. start_len s)) (first_of s.chunks (most_behind i)) (most_fetches i)
    (λ line. (let a = first_most s.chunks (λ line. start_len s) line in let b = first_most s.chunks (most_behind i) line in omega arith)) h behind

-- a line behind its front
pub end_within : (i : Image) (line n : ℕ) → n ≡ width i line → end_len i.shape n ≤ most_behind i line
end_within i line n n-is = subst (λ g. end_len i.shape g ≤ most_behind i line) (sym n-is) (omega arith)

pub marks_within : (i : Image) (line n : ℕ) → n ≡ width i line → is_full i line ≡ false → end_len i.shape n + written_in i line ≤ most_behind i line
marks_within i line n n-is part =
    subst (λ g. end_len i.shape g + written_in i line ≤ most_behind i line) (sym n-is)
    (subst (λ b. end_len i.shape (width i line) + written_in i line ≤ end_len i.shape (width i line) + cond b 0 (written_in i line)) (sym part) (omega arith))
