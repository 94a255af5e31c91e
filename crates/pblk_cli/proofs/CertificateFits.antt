-- The numbers of a certificate that is right for an image fit their fields.
use Rattle.std.proofs.Common.{◌≡◌, ℕ, ◌+◌, ◌-◌, ◌*◌, ◌^◌, ◌<◌, ◌≤◌, ◌==◌, nat_lt, nat_le, true, List, [], ◌∷◌, ◌++◌, map, Option, Some, None, IfSome, refl, sym, subst, arith}
use Rattle.std.specs.List.{AllByRecursion, Contains, list_any, range_with_len}
use Rattle.std.specs.Option.{option_map}
use Rattle.std.proofs.lemmas.Bool.{and_from, and_parts, eqb-true, lt-ltb, or_left}
use Rattle.pblk_model.specs.declared.found.Winner.{Winner}
use Rattle.pblk_model.specs.Accepted.{IsAccepted}
use Rattle.pblk_model.specs.Image.{Image, IsFit, width}
use Rattle.pblk_model.specs.StartRecord.{StartRecord, start_of}
use Rattle.pblk_model.specs.Records.{Record, records}
use Rattle.pblk_model.specs.Contents.{counted, counted_after, counts, end, end_after, head, winner}
use Rattle.pblk_model.proofs.AcceptedLemmas.{line_is_short}
use Rattle.pblk_model.proofs.Lists.{all_append, all_weaker, zipped}
use Rattle.pblk_model.proofs.Maps.{all_filter_map, all_in_range, all_mapped, all_unmap, filter_short, filtered_into}
use Rattle.pblk_model.proofs.Parts.{contained_among}
use Rattle.pblk_laws.proofs.Widths.{width_within}
use Rattle.pblk_laws.proofs.Winners.{winner_is_winner}
use Rattle.world_laws.proofs.FoundCounts.{counted_below, end_fits, front_low, head_at, kept_few, start_numbers}
use Rattle.world_laws.proofs.WrittenBlocks.{IsOfBlock, counted_of}
use Rattle.core_laws.proofs.Distinct.{passing}
use Rattle.image_check.specs.declared.certificate.Bearer.{Bearer}
use Rattle.image_check.specs.declared.certificate.Certificate.{Certificate}
use Rattle.image_check.specs.declared.certificate.LineEntry.{LineEntry}
use Rattle.image_check.specs.declared.certificate.LiveCount.{LiveCount}
use Rattle.image_check.specs.Right.{AreBearers, IsRight, entries_of, entry_by, entry_of, is_named, live_in, lives_of, win_by, wins_of}
use Rattle.image_check.specs.Text.{Fits, FitsSaid}

-- The numbers of each kind of line.

abbrev HeadFits : Option ℕ → Type 0
HeadFits None = Unit {0}
HeadFits (Some line) = line < 2 ^ 32

abbrev EntryFits : LineEntry → Type 0
EntryFits e = (e.line < 2 ^ 32) × (e.seq < 2 ^ 64)

abbrev BearerFits : Bearer → Type 0
BearerFits b = (b.position < 2 ^ 64) × (b.line < 2 ^ 32) × (b.at < 2 ^ 32)

abbrev WinFits : Winner → Type 0
WinFits w = (w.lba < 2 ^ 64) × (w.position < 2 ^ 64) × (w.line < 2 ^ 32) × (w.at < 2 ^ 32)

abbrev LiveFits : LiveCount → Type 0
LiveFits l = (l.line < 2 ^ 32) × (l.count < 2 ^ 64)

-- all lines of four kinds
four_kinds : {S A B C D : Type 0} (P : S → Type 0) (a : A → S) (b : B → S) (c : C → S) (d : D → S) (us : List A) (vs : List B) (ws : List C) (xs : List D)
    → AllByRecursion (λ x. P (a x)) us → AllByRecursion (λ x. P (b x)) vs → AllByRecursion (λ x. P (c x)) ws → AllByRecursion (λ x. P (d x)) xs
    → AllByRecursion P (map a us ++ (map b vs ++ (map c ws ++ map d xs)))
four_kinds P a b c d us vs ws xs h k l m =
    all_append P (map a us) (map b vs ++ (map c ws ++ map d xs)) (all_mapped P a us h)
    (all_append P (map b vs) (map c ws ++ map d xs) (all_mapped P b vs k)
    (all_append P (map c ws) (map d xs) (all_mapped P c ws l) (all_mapped P d xs m)))

-- no position is from the head's front up to the end where there is no head
no_bears : (bears : List Bearer) → map (λ b. b.position) bears ≡ [] → AllByRecursion BearerFits bears
no_bears [] e = tt
no_bears (b ∷ bears) e = absurd (cc)

module _ (i : Image) (accepted : IsAccepted i.shape) (fit : IsFit i) where
  -- where a record that counts stands
  record Stands (r : Record) : Type 0 where
    position : r.position < 2 ^ 64
    line : r.line < 2 ^ 32
    at : r.at < 2 ^ 32

  stands : (r : Record) → Contains (counted i) r → Stands r
  stands r there =
      let of : IsOfBlock i r = counted_of i r there in
      let lines : i.shape.chunks ≤ 1024 = accepted.drive.lines_high in
      let short : width i r.line * i.shape.clba ≤ 65536 = line_is_short i.shape (width i r.line) accepted (width_within i r.line fit) in
      record {
        position = omega (arith, counted_below i r there, end_fits i accepted fit);
        line = omega (arith, of.line, lines);
        at = omega (arith, of.at, short);
      }

  head_fits : (o : Option StartRecord) → head i ≡ o → HeadFits (option_map (λ h. h.line) o)
  head_fits None e = tt
  head_fits (Some h) e = let lines : i.shape.chunks ≤ 1024 = accepted.drive.lines_high in omega (arith, (head_at i h e).is_head.here, lines)

  entry_fits : (line : ℕ) → line < i.shape.chunks → IfSome (entry_of i line) EntryFits
  entry_fits line inside = by_start (start_of i line) refl
    where
      by_start : (o : Option StartRecord) → start_of i line ≡ o → IfSome (entry_by i line o) EntryFits
      by_start None e = tt
      by_start (Some start) e =
          let lines : i.shape.chunks ≤ 1024 = accepted.drive.lines_high in
          (omega (arith, inside, lines), omega (arith, (start_numbers i line start e).seq))

  entries_fit : AllByRecursion EntryFits (entries_of i)
  entries_fit = all_filter_map EntryFits (λ line. line < i.shape.chunks) (entry_of i) (range_with_len 0 i.shape.chunks) entry_fits
      (all_in_range 0 i.shape.chunks i.shape.chunks (omega arith))

  win_fits : (lba : ℕ) → lba < i.shape.capacity → IfSome (win_by lba (winner (counted i) lba)) WinFits
  win_fits lba inside = by_winner (winner (counted i) lba) refl
    where
      by_winner : (o : Option Record) → winner (counted i) lba ≡ o → IfSome (win_by lba o) WinFits
      by_winner None e = tt
      by_winner (Some r) e =
          let h = stands r (winner_is_winner i lba r e).there in
          let sectors : i.shape.capacity < 2 ^ 40 = accepted.target.capacity_number in
          (omega (arith, inside, sectors), h.position, h.line, h.at)

  wins_fit : AllByRecursion WinFits (wins_of i)
  wins_fit = all_filter_map WinFits (λ lba. lba < i.shape.capacity) (λ lba. win_by lba (winner (counted i) lba))
      (range_with_len 0 i.shape.capacity) win_fits (all_in_range 0 i.shape.capacity i.shape.capacity (omega arith))

  live_fits : (e : LineEntry) → EntryFits e → LiveFits (live_in (wins_of i) e)
  live_fits e h =
      let few = filter_short (λ (w : Winner). w.line == e.line) (wins_of i) in
      let all = kept_few (λ lba. win_by lba (winner (counted i) lba)) 0 i.shape.capacity in
      let sectors : i.shape.capacity < 2 ^ 40 = accepted.target.capacity_number in
      (h.0, omega (arith, few, all, sectors))

  lives_fit : AllByRecursion LiveFits (lives_of i)
  lives_fit = all_mapped LiveFits (live_in (wins_of i)) (entries_of i)
      (all_weaker EntryFits (λ e. LiveFits (live_in (wins_of i) e)) (entries_of i) live_fits entries_fit)

  -- a record that is named below the end counts
  bear_fits : (h : StartRecord) → head i ≡ Some h → (b : Bearer) → b.position < end i → list_any (is_named h b) (records i) ≡ true → BearerFits b
  bear_fits h e b low named =
      let found = passing (is_named h b) (records i) named in
      let r : Record = found.0 in
      let p3 = and_parts _ (r.at == b.at) found.2 in
      let p2 = and_parts _ (r.line == b.line) p3.0 in
      let p1 = and_parts (nat_le h.first_seq r.seq) (r.position == b.position) p2.0 in
      let position : r.position ≡ b.position = eqb-true r.position b.position p1.1 in
      let line : r.line ≡ b.line = eqb-true r.line b.line p2.1 in
      let at : r.at ≡ b.at = eqb-true r.at b.at p3.1 in
      let below : r.position < end_after (records i) (Some h) = subst (λ o. r.position < end_after (records i) o) e (omega (arith, position, low)) in
      let passes : counts h (end_after (records i) (Some h)) r ≡ true =
      or_left _ _ (and_from (nat_le h.first_seq r.seq) (nat_lt r.position (end_after (records i) (Some h))) p1.0
      (lt-ltb r.position (end_after (records i) (Some h)) below)) in
      let there : Contains (counted i) r = subst (λ o. Contains (counted_after (records i) o) r) (sym e)
      (filtered_into (counts h (end_after (records i) (Some h))) (records i) r (contained_among (records i) r found.1) passes) in
      let s = stands r there in
      (omega (arith, position, s.position), omega (arith, line, s.line), omega (arith, at, s.at))

  bears_fit : (o : Option StartRecord) → head i ≡ o → (bears : List Bearer) → AreBearers o (records i) (end i) bears
      → AllByRecursion BearerFits bears
  bears_fit None e bears h = no_bears bears h.positions
  bears_fit (Some g) e bears h =
      let last : g.front + (end i - g.front) ≤ end i = omega (arith, front_low i g e) in
      zipped (λ b. b.position < end i) (λ b. list_any (is_named g b) (records i) ≡ true) BearerFits (bear_fits g e) bears
      (all_unmap (λ p. p < end i) (λ (b : Bearer). b.position) bears
      (subst (AllByRecursion (λ p. p < end i)) (sym h.positions) (all_in_range g.front (end i - g.front) (end i) last)))
      (h.named g refl)

  pub right_fits : (c : Certificate) → IsRight i c → Fits c
  right_fits c h = (
    subst HeadFits (sym h.head_is) (head_fits (head i) refl),
    (
      omega (arith, h.end_is, end_fits i accepted fit),
      four_kinds FitsSaid _ _ _ _ c.lines c.bears c.wins c.lives (subst (AllByRecursion EntryFits) (sym h.lines) entries_fit)
          (bears_fit (head i) refl c.bears h.bears)
          (subst (AllByRecursion WinFits) (sym h.wins) wins_fit) (subst (AllByRecursion LiveFits) (sym h.lives) lives_fit),
    ),
  )
