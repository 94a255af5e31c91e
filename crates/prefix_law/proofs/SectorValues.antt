-- The contents of an assembled image are the sectors that its entries and what lies under them
-- give.
use Rattle.std.proofs.Common.{◌≡◌, ◌⊎◌, inl, inr, ℕ, ◌+◌, ◌-◌, ◌<◌, ◌≤◌, zero, suc, Bool, true, false, Some, None, Option, List, length, refl, sym, ap, ◌∙◌, arith}
use Rattle.std.specs.Prelude.{slice_get}
use Rattle.std.proofs.lemmas.Bool.{cases_lt, cases_order}
use Rattle.std.proofs.lemmas.Option.{slice_get_past}
use Rattle.pblk_model.specs.Image.{Image}
use Rattle.pblk_model.specs.StartRecord.{StartRecord}
use Rattle.pblk_model.specs.Contents.{end, is_of, contents}
use Rattle.pblk_model.proofs.ContentsLemmas.{contents_count, of_same}
use Rattle.pblk_laws.proofs.Winners.{lba_is}
use Rattle.pblk_model.proofs.Parts.{same_lists}
use Rattle.pblk_model.proofs.Tests.{no_both}
use Rattle.world_laws.proofs.WinnerBlocks.{contents_at}
use Rattle.prefix_law.specs.Assembled.{Given, Entries, IsEntryOf, IsLastOf, IsAssembled}
use Rattle.prefix_law.proofs.Assembly.{last_stands, under_stands}

-- ---- the last number below a bound that passes a test

record IsLastPassed (test : ℕ → Bool) (n k : ℕ) : Type 0 where
  below : k < n
  passes : test k ≡ true
  last : (j : ℕ) → j < n → test j ≡ true → j ≤ k

last_passed : (test : ℕ → Bool) (n : ℕ) → ((k : ℕ) × IsLastPassed test n k) ⊎ ((j : ℕ) → j < n → test j ≡ true → ⊥)
last_passed test zero = inr (λ j low passes. omega arith)
last_passed test (suc n) = go (test n) refl (last_passed test n)
  where
    earlier : test n ≡ false → (j : ℕ) → j < suc n → test j ≡ true → j < n
    earlier fails j low passes = elim (cases_order j n) [
      | inl e ↦ no_both (test n) (ap test (sym e) ∙ passes) fails
      | inr (inl less) ↦ less
      | inr (inr more) ↦ absurd (omega arith)
    ]

    go : (b : Bool) → test n ≡ b → ((k : ℕ) × IsLastPassed test n k) ⊎ ((j : ℕ) → j < n → test j ≡ true → ⊥)
        → ((k : ℕ) × IsLastPassed test (suc n) k) ⊎ ((j : ℕ) → j < suc n → test j ≡ true → ⊥)
    go true passes rest = inl (n, record { below = omega arith; passes = passes; last = λ j low is. omega arith })
    go false fails (inl (k, is)) = inl (
      k,
      record {
        below = (let low = is.below in omega arith);
        passes = is.passes;
        last = λ j low passes. is.last j (earlier fails j low passes) passes;
      },
    )
    go false fails (inr none) = inr (λ j low passes. none j (earlier fails j low passes) passes)

-- ---- entries of a sector

abbrev given_test : ℕ → Option Given → Bool
given_test lba None = false
given_test lba (Some g) = is_of lba g.lba

given_passes : (lba : ℕ) (o : Option Given) → given_test lba o ≡ true → (g : Given) × (o ≡ Some g) × (g.lba ≡ Some lba)
given_passes lba None is = absurd (cc)
given_passes lba (Some g) is = (g, refl, lba_is lba g.lba is)

module _ (es : Entries) (lba : ℕ) where
  abbrev test : ℕ → Bool
  test k = given_test lba (slice_get es.given k)

  entry_passes : (p : ℕ) → IsEntryOf es lba p → test (p - es.first) ≡ true
  entry_passes p e = ap (given_test lba) e.entry.there ∙ of_same lba e.given.lba e.of_it

  passes_entry : (k : ℕ) → test k ≡ true → IsEntryOf es lba (es.first + k)
  passes_entry k is =
      let g = given_passes lba (slice_get es.given k) is in
      let number : es.first + k - es.first ≡ k = omega arith in record {
        given = g.0;
        entry = record { from = omega arith; there = ap (slice_get es.given) number ∙ g.1 };
        of_it = g.2;
      }

  -- a sector has a last entry below a position, or none
  pub last_or_none : (below : ℕ) → ((p : ℕ) × IsLastOf es lba below p) ⊎ ((p : ℕ) → IsEntryOf es lba p → p < below → ⊥)
  last_or_none below = go (last_passed test (below - es.first))
    where
      number : (q : ℕ) (e : IsEntryOf es lba q) → q < below → q - es.first < below - es.first
      number q e low = let from : es.first ≤ q = e.entry.from in omega arith

      go : ((k : ℕ) × IsLastPassed test (below - es.first) k) ⊎ ((j : ℕ) → j < below - es.first → test j ≡ true → ⊥)
          → ((p : ℕ) × IsLastOf es lba below p) ⊎ ((p : ℕ) → IsEntryOf es lba p → p < below → ⊥)
      go (inr none) = inr (λ p e low. none (p - es.first) (number p e low) (entry_passes p e))
      go (inl (k, is)) =
          let inside : k < below - es.first = is.below in inl (
            es.first + k,
            record {
              entry = passes_entry k is.passes;
              under = omega arith;
              last = λ q e low.
                  let from : es.first ≤ q = e.entry.from in
                  let most : q - es.first ≤ k = is.last (q - es.first) (number q e low) (entry_passes q e) in
                  omega arith;
            },
          )

-- ---- sectors by the entries below the end

-- each sector has what its last entry below the end says, or what is under them
pub record AreSectors (es : Entries) (below : ℕ) (under : ℕ → List ℕ) (capacity : ℕ) (sectors : List (List ℕ)) : Type 0 where
  pub count : length sectors ≡ capacity
  pub last : (lba p : ℕ) → lba < capacity → (l : IsLastOf es lba below p) → slice_get sectors lba ≡ Some l.entry.given.sector
  pub none : (lba : ℕ) → lba < capacity → ((p : ℕ) → IsEntryOf es lba p → p < below → ⊥) → slice_get sectors lba ≡ Some (under lba)

pub contents_are_sectors : (i : Image) (h : StartRecord) (es : Entries) (front : ℕ) (under : ℕ → List ℕ) (sectors : List (List ℕ))
    → IsAssembled i h es front under → AreSectors es (end i) under i.shape.capacity sectors → contents i ≡ sectors
contents_are_sectors i h es front under sectors is are = same_lists (contents i) sectors (λ k. at k (cases_lt k i.shape.capacity))
  where
    held : (k : ℕ) → k < i.shape.capacity → ((p : ℕ) × IsLastOf es k (end i) p) ⊎ ((p : ℕ) → IsEntryOf es k p → p < end i → ⊥)
        → slice_get (contents i) k ≡ slice_get sectors k
    held k inside (inl (p, last)) = contents_at i k inside ∙ ap Some (last_stands i h es front under is k p last) ∙ sym (are.last k p inside last)
    held k inside (inr none) = contents_at i k inside ∙ ap Some (under_stands i h es front under is k none) ∙ sym (are.none k inside none)

    at : (k : ℕ) → (k < i.shape.capacity) ⊎ (i.shape.capacity ≤ k) → slice_get (contents i) k ≡ slice_get sectors k
    at k (inl inside) = held k inside (last_or_none es k (end i))
    at k (inr past) =
        let count : length sectors ≡ i.shape.capacity = are.count in
        slice_get_past (contents i) k (omega (arith, contents_count i)) ∙ sym (slice_get_past sectors k (omega arith))
