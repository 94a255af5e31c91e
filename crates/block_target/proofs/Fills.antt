-- Sectors that are filled into a batch one after another.
use Rattle.std.proofs.Common.{◌≡◌, ℕ, ◌+◌, ◌-◌, ◌*◌, ◌≤◌, false, None, List, [], ◌∷◌, ◌++◌, length, take, drop, slice_range, refl, sym, ap, ap₂, subst, ◌∙◌, arith, append-nil, length-append}
use Rattle.std.specs.Prelude.{map}
use Rattle.std.specs.List.{AllByRecursion}
use Rattle.std.proofs.lemmas.List.{length-take-le, map-append, take-append-drop}
use Rattle.pblk_model.specs.Frames.{FrameView}
use Rattle.pblk_model.proofs.Lists.{all_append}
use Rattle.sector_pool.specs.declared.entry.Class.TheVariants as kind
use Rattle.block_port.specs.Own.{PlacedSector, placed_from, sectors_of}
use Rattle.block_port.proofs.OwnLemmas.{cut_none, length_sectors, sectors_append}
use Rattle.write_ring.specs.Batches.{BatchView, CanPut, row_at, rows_from}
use Rattle.write_ring.specs.declared.draft.Draft.{Draft}
use Rattle.write_ring.specs.declared.view.Key.{Key}
use Rattle.write_ring.specs.declared.view.Row.{Row}
use Rattle.block_target.specs.Sessions.{row_of}

-- ---- one more sector

one_of : (size : ℕ) (bytes : List ℕ) → sectors_of size 1 bytes ≡ take size bytes ∷ []
unfolding sectors_of
one_of size bytes = refl

first_of : (size k : ℕ) (bytes : List ℕ) → k * size ≤ length bytes → sectors_of size k (take (k * size) bytes) ≡ sectors_of size k bytes
first_of size k bytes enough =
    let e : k + 0 ≡ k = omega arith in
    sym (ap (sectors_of size k) (sym (take-append-drop (k * size) bytes))
    ∙ ap (λ n. sectors_of size n (take (k * size) bytes ++ drop (k * size) bytes)) (sym e)
    ∙ sectors_append size k 0 (take (k * size) bytes) (drop (k * size) bytes) (length-take-le (k * size) bytes enough)
    ∙ ap (λ ss. sectors_of size k (take (k * size) bytes) ++ ss) (cut_none size (drop (k * size) bytes))
    ∙ append-nil (sectors_of size k (take (k * size) bytes)))

pub sectors_next : (size k : ℕ) (bytes : List ℕ) → k * size + size ≤ length bytes
    → sectors_of size (k + 1) bytes ≡ sectors_of size k bytes ++ slice_range bytes (k * size) (k * size + size) ∷ []
sectors_next size k bytes enough =
    let wide : k * size + size - k * size ≡ size = omega arith in
    ap (sectors_of size (k + 1)) (sym (take-append-drop (k * size) bytes))
    ∙ sectors_append size k 1 (take (k * size) bytes) (drop (k * size) bytes) (length-take-le (k * size) bytes (omega arith))
    ∙ ap₂ (λ (a b : List (List ℕ)). a ++ b) (first_of size k bytes (omega arith))
    (one_of size (drop (k * size) bytes) ∙ ap (λ n. take n (drop (k * size) bytes) ∷ []) (sym wide))

placed_more : (position lba : ℕ) (sectors : List (List ℕ)) (s : List ℕ)
    → placed_from position lba (sectors ++ s ∷ []) ≡ placed_from position lba sectors
    ++ record { position = position + length sectors; write = record { lba = lba + length sectors; sector = s } } ∷ []
placed_more position lba [] s =
    let p : position ≡ position + 0 = omega arith in
    let l : lba ≡ lba + 0 = omega arith in
    ap₂ (λ p l. record { position = p; write = record { lba = l; sector = s } } ∷ []) p l
placed_more position lba (x ∷ sectors) s =
    let p : position + 1 + length sectors ≡ position + length (x ∷ sectors) = omega arith in
    let l : lba + 1 + length sectors ≡ lba + length (x ∷ sectors) = omega arith in
    ap (λ (rest : List PlacedSector). record { position = position; write = record { lba = lba; sector = x } } ∷ rest)
    (placed_more (position + 1) (lba + 1) sectors s
    ∙ ap₂ (λ p l. placed_from (position + 1) (lba + 1) sectors ++ record { position = p; write = record { lba = l; sector = s } } ∷ []) p l)

rows_next : (at : ℕ) (ds : List Draft) (d : Draft)
    → rows_from kind.User at (ds ++ d ∷ []) ≡ rows_from kind.User at ds ++ row_at kind.User (at + length ds) d ∷ []
rows_next at [] d = let e : at ≡ at + 0 = omega arith in ap (λ n. row_at kind.User n d ∷ []) e
rows_next at (x ∷ ds) d =
    let e : at + 1 + length ds ≡ at + length (x ∷ ds) = omega arith in
    ap (λ (rest : List Row). row_at kind.User at x ∷ rest)
    (rows_next (at + 1) ds d ∙ ap (λ n. rows_from kind.User (at + 1) ds ++ row_at kind.User n d ∷ []) e)

-- ---- the loop

-- so many sectors are filled in
pub record IsFilling (old now : BatchView) (lba size index : ℕ) (bytes : List ℕ) : Type 0 where
  pub rows : (first : ℕ) → rows_from kind.User first now.drafts ≡ map row_of (placed_from first lba (sectors_of size index bytes))
  pub fits : (key : Key) → lba + index ≤ key.capacity → AllByRecursion (CanPut kind.User key) now.drafts
  pub count : length now.drafts ≡ index
  pub free : now.free + index ≡ old.free
  pub region : now.region ≡ old.region

pub filling_begins : (old : BatchView) (lba size : ℕ) (bytes : List ℕ) → old.drafts ≡ [] → IsFilling old old lba size 0 bytes
filling_begins old lba size bytes none = record {
  rows = λ first. ap (rows_from kind.User first) none ∙ sym (ap (λ (ss : List (List ℕ)). map row_of (placed_from first lba ss)) (cut_none size bytes));
  fits = λ key low. subst (AllByRecursion (CanPut kind.User key)) (sym none) tt;
  count = ap (λ (ds : List Draft). length ds) none;
  free = omega arith;
  region = refl;
}

pub filling_more : (old now new : BatchView) (lba size index : ℕ) (bytes : List ℕ) (f : FrameView) → IsFilling old now lba size index bytes
    → index * size + size ≤ length bytes → f.bytes ≡ slice_range bytes (index * size) (index * size + size)
    → new.drafts ≡ now.drafts ++ record { lba = lba + index; source = None; frame = f } ∷ [] → now.free ≡ new.free + 1 → new.region ≡ now.region
    → IsFilling old new lba size (index + 1) bytes
filling_more old now new lba size index bytes f is enough filled drafts free region = record {
  rows = each;
  fits = λ key low. subst (AllByRecursion (CanPut kind.User key)) (sym drafts)
      (all_append (CanPut kind.User key) now.drafts (d ∷ []) (is.fits key (omega arith)) ((omega arith, refl), tt));
  count = ap (λ (ds : List Draft). length ds) drafts ∙ length-append now.drafts (d ∷ []) ∙ ap (λ n. n + 1) is.count;
  free = (let was : now.free + index ≡ old.free = is.free in omega (arith, was, free));
  region = region ∙ is.region;
}
  where
    d : Draft
    d = record { lba = lba + index; source = None; frame = f }

    each : (first : ℕ) → rows_from kind.User first new.drafts ≡ map row_of (placed_from first lba (sectors_of size (index + 1) bytes))
    each first =
        let part : List ℕ = slice_range bytes (index * size) (index * size + size) in
        let many : length (sectors_of size index bytes) ≡ index = length_sectors size index bytes in
        ap (rows_from kind.User first) drafts ∙ rows_next first now.drafts d
        ∙ ap₂ (λ (rows : List Row) (r : Row). rows ++ r ∷ []) (is.rows first)
        (ap₂ (λ n s. record { position = first + n; copy = false; lba = lba + index; source = None; sector = s }) is.count filled)
        ∙ sym (ap (λ (ss : List (List ℕ)). map row_of (placed_from first lba ss)) (sectors_next size index bytes enough)
        ∙ ap (map row_of) (placed_more first lba (sectors_of size index bytes) part
        ∙ ap (λ n. placed_from first lba (sectors_of size index bytes)
        ++ record { position = first + n; write = record { lba = lba + n; sector = part } } ∷ []) many)
        ∙ map-append row_of (placed_from first lba (sectors_of size index bytes))
        (record { position = first + index; write = record { lba = lba + index; sector = part } } ∷ []))
