-- What an image holds that is assembled from entries, and where its end is.
use Rattle.std.proofs.Common.{◌≡◌, ℕ, ◌+◌, ◌-◌, ◌<◌, ◌≤◌, ◌⊎◌, ◌&&◌, nat_lt, nat_le, true, false, Some, None, Option, List, length, refl, sym, subst, ap, ap₂, ◌∙◌, arith, inl, inr}
use Rattle.std.specs.List.{Contains, filter}
use Rattle.std.specs.Option.{option_map_or}
use Rattle.std.proofs.lemmas.Bool.{cases_order, ltb-true}
use Rattle.std.proofs.lemmas.Option.{same_Some, slice_get_within}
use Rattle.pblk_model.specs.Bytes.{zeros}
use Rattle.pblk_model.specs.StartRecord.{StartRecord}
use Rattle.pblk_model.specs.Records.{Record, records}
use Rattle.pblk_model.specs.Contents.{end, Bears, IsEnd, IsNewer, IsWinner, counts, counted, counted_after, end_after, winner, sector_of}
use Rattle.pblk_model.specs.Image.{Image}
use Rattle.pblk_laws.proofs.Ends.{end_is_end}
use Rattle.pblk_laws.proofs.Winners.{winner_is_winner, winner_is_only, no_winner_no_record, no_winner}
use Rattle.prefix_law.specs.Assembled.{Given, Entries, IsEntry, IsEntryOf, IsLastOf, by_row, CountsOld, HoldsUnder, IsAssembled}
use Rattle.pblk_model.proofs.Tests.{both, either, le_true as true_le, lt_true as true_lt, or_left, or_right, within_is}
use Rattle.pblk_model.proofs.Maps.{filtered_from, filtered_into}

-- ---- what counts

-- of the head's mount and below the end, or by a row
abbrev pub CountsBy : StartRecord → ℕ → Record → Type 0
CountsBy h p r = ((h.first_seq ≤ r.seq) × (r.position < p)) ⊎ (by_row h r ≡ true)

pub counts_by : (h : StartRecord) (p : ℕ) (r : Record) → counts h p r ≡ true → CountsBy h p r
counts_by h p r is = elim (either (nat_le h.first_seq r.seq && nat_lt r.position p) (by_row h r) is) [
  | inl a ↦ let parts = both (nat_le h.first_seq r.seq) (nat_lt r.position p) a in inl (within_is h.first_seq r.seq parts.0, ltb-true r.position p parts.1)
  | inr b ↦ inr b
]

pub counts_young : (h : StartRecord) (p : ℕ) (r : Record) → h.first_seq ≤ r.seq → r.position < p → counts h p r ≡ true
counts_young h p r mount below = or_left (nat_le h.first_seq r.seq && nat_lt r.position p) (by_row h r)
    (ap₂ (λ a b. a && b) (true_le h.first_seq r.seq mount) (true_lt r.position p below))

pub counts_row : (h : StartRecord) (p : ℕ) (r : Record) → by_row h r ≡ true → counts h p r ≡ true
counts_row h p r row = or_right (nat_le h.first_seq r.seq && nat_lt r.position p) (by_row h r) row

module _ (i : Image) (h : StartRecord) (es : Entries) (front : ℕ) (under : ℕ → List ℕ) (is : IsAssembled i h es front under) where
  counted_are : counted i ≡ filter (counts h (end i)) (records i)
  counted_are = ap (counted_after (records i)) is.head ∙ ap (λ p. filter (counts h p) (records i)) (sym (ap (end_after (records i)) is.head))

  end_is : IsEnd (records i) h (end i)
  end_is = end_is_end i h is.head

  -- what a counted record is
  counted_is : (r : Record) → Contains (counted i) r → Contains (records i) r × CountsBy h (end i) r
  counted_is r there =
      let parts = filtered_from (counts h (end i)) (records i) r (subst (λ rs. Contains rs r) counted_are there) in
      (parts.0, counts_by h (end i) r parts.1)

  is_counted : (r : Record) → Contains (records i) r → counts h (end i) r ≡ true → Contains (counted i) r
  is_counted r there counts_it = subst (λ rs. Contains rs r) (sym counted_are) (filtered_into (counts h (end i)) (records i) r there counts_it)

  -- the end is at the front or above it, and within the entries

  entry_within : (p : ℕ) (g : Given) → IsEntry es p g → p < es.first + length es.given
  entry_within p g entry =
      let inside : p - es.first < length es.given = slice_get_within es.given (p - es.first) g entry.there in
      let from : es.first ≤ p = entry.from in
      omega arith

  pub end_above : front ≤ end i
  end_above = go (cases_order front (end i))
    where
      go : (front ≡ end i) ⊎ ((front < end i) ⊎ (end i < front)) → front ≤ end i
      go (inl e) = omega arith
      go (inr (inl less)) = omega arith
      go (inr (inr more)) = let low : h.front ≤ end i = end_is.from_front in let r = is.borne (end i) low more in absurd (end_is.missing r.0 r.1 r.2)

  pub end_within : end i ≤ es.first + length es.given
  end_within = go (cases_order h.front (end i))
    where
      at : (p : ℕ) → h.front ≤ p → p < end i → p < es.first + length es.given
      at p low high =
          let r = end_is.least p low high in
          let mount : h.first_seq ≤ r.0.seq = r.2.mount in
          let young = is.young r.0 r.1 mount in
          let position : r.0.position ≡ p = r.2.position in
          let inside : r.0.position < es.first + length es.given = entry_within r.0.position young.0 young.1 in
          omega arith

      go : (h.front ≡ end i) ⊎ ((h.front < end i) ⊎ (end i < h.front)) → end i ≤ es.first + length es.given
      go (inl e) = let a : h.front ≤ front = is.from in let b : front ≤ es.first + length es.given = is.within in omega arith
      go (inr (inl less)) = let last : end i - 1 < es.first + length es.given = at (end i - 1) (omega arith) (omega arith) in omega arith
      go (inr (inr more)) = let low : h.front ≤ end i = end_is.from_front in absurd (omega arith)

  -- a counted record of a sector is of an entry of it below the end, or of an older line

  entry_of : (lba : ℕ) (r : Record) → Contains (records i) r → h.first_seq ≤ r.seq → r.lba ≡ Some lba → IsEntryOf es lba r.position
  entry_of lba r there mount of_it =
      let young = is.young r there mount in
      record { given = young.0; entry = young.1; of_it = sym young.2 ∙ of_it }

  abbrev IsFrom : ℕ → Record → Type 0
  IsFrom lba r = ((h.first_seq ≤ r.seq) × IsEntryOf es lba r.position × (r.position < end i)) ⊎ CountsOld i h lba r

  from_by : (lba : ℕ) (r : Record) → Contains (records i) r → r.lba ≡ Some lba → CountsBy h (end i) r → IsFrom lba r
  from_by lba r there of_it (inl (mount, below)) = inl (mount, entry_of lba r there mount of_it, below)
  from_by lba r there of_it (inr row) = go (cases_order r.seq h.first_seq)
    where
      young : h.first_seq ≤ r.seq → IsFrom lba r
      young mount = let none : by_row h r ≡ false = is.rows r there mount in absurd (cc)

      go : (r.seq ≡ h.first_seq) ⊎ ((r.seq < h.first_seq) ⊎ (h.first_seq < r.seq)) → IsFrom lba r
      go (inl e) = young (omega arith)
      go (inr (inl less)) = inr (record { there = there; old = less; row = row; of_it = of_it })
      go (inr (inr more)) = young (omega arith)

  from : (lba : ℕ) (r : Record) → Contains (counted i) r → r.lba ≡ Some lba → IsFrom lba r
  from lba r there of_it = let c = counted_is r there in from_by lba r c.0 of_it c.1

  -- where the sector has an entry below the end

  bearing : (lba p : ℕ) → IsLastOf es lba (end i) p → (r : Record) × Contains (records i) r × Bears h p r
  bearing lba p last = go (cases_order p front)
    where
      past : front ≤ p → (r : Record) × Contains (records i) r × Bears h p r
      past high = let low : h.front ≤ front = is.from in let below : p < end i = last.under in end_is.least p (omega arith) below

      go : (p ≡ front) ⊎ ((p < front) ⊎ (front < p)) → (r : Record) × Contains (records i) r × Bears h p r
      go (inl e) = past (omega arith)
      go (inr (inl less)) =
          let high : front ≤ end i = end_above in
          is.kept lba p (record { entry = last.entry; under = less; last = λ q entry below. last.last q entry (omega arith) })
      go (inr (inr more)) = past (omega arith)

  not_older : (a b : Record) → (a ≡ b) ⊎ IsNewer a b → a.position ≤ b.position
  not_older a b (inl same) = let e : a.position ≡ b.position = ap (λ (r : Record). r.position) same in omega arith
  not_older a b (inr (inl less)) = omega arith
  not_older a b (inr (inr also)) = let e : a.position ≡ b.position = also.0 in omega arith

  pub last_stands : (lba p : ℕ) (last : IsLastOf es lba (end i) p) → sector_of i lba ≡ last.entry.given.sector
  last_stands lba p last = go (winner (counted i) lba) refl
    where
      bear : (r : Record) × Contains (records i) r × Bears h p r
      bear = bearing lba p last

      go : (o : Option Record) → winner (counted i) lba ≡ o
          → option_map_or (λ (r : Record). r.sector) (winner (counted i) lba) (zeros i.shape.sector) ≡ last.entry.given.sector
      go o e =
          let b = bearing lba p last in
          let r : Record = b.0 in
          let position : b.0.position ≡ p = b.2.position in
          let mount : h.first_seq ≤ b.0.seq = b.2.mount in
          let below : p < end i = last.under in
          let young = is.young b.0 b.1 mount in
          let here : IsEntry es p young.0 = subst (λ q. IsEntry es q young.0) position young.1 in
          let same : young.0 ≡ last.entry.given = same_Some young.0 last.entry.given (sym here.there ∙ last.entry.entry.there) in
          let of_it : b.0.lba ≡ Some lba = young.2 ∙ ap (λ (g : Given). g.lba) same ∙ last.entry.of_it in
          let counted_it : Contains (counted i) b.0 = is_counted b.0 b.1 (counts_young h (end i) b.0 mount (omega arith)) in
          ap (λ x. option_map_or (λ (r : Record). r.sector) x (zeros i.shape.sector)) e ∙ by o e b.0 counted_it of_it position
        where
          by : (o : Option Record) → winner (counted i) lba ≡ o → (r : Record) → Contains (counted i) r → r.lba ≡ Some lba → r.position ≡ p
              → option_map_or (λ (r : Record). r.sector) o (zeros i.shape.sector) ≡ last.entry.given.sector
          by None e r there of_it position = absurd (no_winner_no_record (counted i) lba r e there of_it)
          by (Some x) e r there of_it position =
              let wins : IsWinner (counted i) lba x = winner_is_winner i lba x e in
              let low : r.position ≤ x.position = not_older r x (wins.newest r there of_it) in
              at (from lba x wins.there wins.of_it) low
            where
              at : IsFrom lba x → r.position ≤ x.position → x.sector ≡ last.entry.given.sector
              at (inl (mount, entry, below)) low =
                  let wins : IsWinner (counted i) lba x = winner_is_winner i lba x e in
                  let c = counted_is x wins.there in
                  let young = is.young x c.0 mount in
                  let high : x.position ≤ p = last.last x.position entry below in
                  let place : x.position ≡ p = omega arith in
                  let here : IsEntry es p young.0 = subst (λ q. IsEntry es q young.0) place young.1 in
                  young.3 ∙ ap (λ (g : Given). g.sector) (same_Some young.0 last.entry.given (sym here.there ∙ last.entry.entry.there))
              at (inr old) low =
                  let less : x.position < es.first = is.old x old.there old.old old.row in
                  let from_first : es.first ≤ p = last.entry.entry.from in
                  absurd (omega arith)

  -- where it has none

  pub under_stands : (lba : ℕ) → ((p : ℕ) → IsEntryOf es lba p → p < end i → ⊥) → sector_of i lba ≡ under lba
  under_stands lba none = go (is.under lba (λ p entry below. none p entry (let high : front ≤ end i = end_above in omega arith)))
    where
      old_only : (r : Record) → Contains (counted i) r → r.lba ≡ Some lba → CountsOld i h lba r
      old_only r there of_it = elim (from lba r there of_it) [ inl young ↦ absurd (none r.position young.1 young.2) | inr old ↦ old ]

      go : HoldsUnder i h lba (under lba) → sector_of i lba ≡ under lba
      go (inl (r, stands)) =
          let wins : IsWinner (counted i) lba r = record {
            there = is_counted r stands.counts.there (counts_row h (end i) r stands.counts.row);
            of_it = stands.counts.of_it;
            newest = λ other there of_it. stands.newest other (old_only other there of_it);
          } in
          ap (λ o. option_map_or (λ (x : Record). x.sector) o (zeros i.shape.sector)) (winner_is_only (counted i) lba r wins) ∙ stands.sector
      go (inr (never, blank)) =
          ap (λ o. option_map_or (λ (x : Record). x.sector) o (zeros i.shape.sector))
          ((no_winner (counted i) lba).1 (λ r there of_it. never r (old_only r there of_it))) ∙ sym blank
