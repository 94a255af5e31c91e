-- What records come to, before and after it is known where the positions of the head's mount end.
use Rattle.std.proofs.Common.{◌≡◌, ℕ, ◌<◌, ◌&&◌, not, nat_le, nat_lt, Bool, true, false, cond, List, [], ◌∷◌, ◌++◌, length, get_or, Option, Some, None, refl, sym, ap, ◌∙◌, subst, append-nil}
use Rattle.std.specs.List.{AllByRecursion, filter}
use Rattle.std.specs.Option.{option_map}
use Rattle.std.proofs.lemmas.Bool.{lt-leb}
use Rattle.pblk_model.specs.StartRecord.{StartRecord}
use Rattle.pblk_model.specs.Records.{Record}
use Rattle.pblk_meta.specs.declared.start_record.StartRecord.{StartRecord as Start}
use Rattle.pblk_meta.specs.declared.rows.Row.{Row as MetaRow}
use Rattle.pblk_meta.specs.Records.{row_numbers, start_numbers}
use Rattle.scan_recovery.specs.declared.counting.Count.{Count}
use Rattle.scan_recovery.specs.declared.mount.Mount.{Mount}
use Rattle.scan_recovery.specs.declared.trace.Trace.{Trace}
use Rattle.scan_recovery.specs.Mounts.{IsCount, IsMount, head_of, is_late, is_settled}
use Rattle.scan_recovery.specs.Tally.{IsTally}
use Rattle.scan_recovery.specs.Traces.{bare, bares, head_row, is_below_row}
use Rattle.scan_recovery.proofs.Tallies.{filter_by, row_there}

-- A record of an older line counts by its row.

pub older_settled : (m : Mount) (h : Start) (t : Trace) (row : Option MetaRow) (below : Bool) → IsMount m → m.head ≡ Some h → t.line < length m.rows.items
    → t.seq < h.first_seq → row ≡ get_or m.rows.items t.line row → below ≡ is_below_row (option_map row_numbers row) (bare t)
    → below ≡ is_settled (head_of m) (bare t)
older_settled m h t row below mount is inside older row-is below-is =
    let here : option_map row_numbers row ≡ head_row (head_of m) t.line =
    ap (option_map row_numbers) row-is ∙ row_there (length m.rows.items) (head_row (head_of m)) (option_map row_numbers) m.rows.items t.line row
    mount.rows inside in
    let some : head_of m ≡ Some (start_numbers h) = ap (option_map start_numbers) is in
    below-is ∙ ap (λ o. is_below_row o (bare t)) (here ∙ ap (λ o. head_row o t.line) some)
    ∙ sym (ap (λ o. is_settled o (bare t)) some
    ∙ ap (λ b. cond b (nat_lt t.position h.front) (is_below_row (head_row (Some (start_numbers h)) t.line) (bare t))) (lt-leb h.first_seq t.seq older))

-- No record is both.

apart_by : (a b c : Bool) → cond a b c ≡ true → a && not b ≡ false
apart_by true true c h = refl
apart_by true false c h = absurd cc
apart_by false b c h = refl

settled_not_late : (o : Option StartRecord) (r : Record) → is_settled o r ≡ true → is_late o r ≡ false
settled_not_late None r h = refl
settled_not_late (Some h) r is =
    apart_by (nat_le h.first_seq r.seq) (nat_lt r.position h.front) (is_below_row (head_row (Some h) r.line) r) is

-- One record more.

module _ (sectors lines : ℕ) (o : Option StartRecord) (rs : List Record) (old new : Count) (was : IsCount sectors lines o rs old) where
  same : (p : Record → Bool) (r : Record) → p r ≡ false → filter p (rs ++ r ∷ []) ≡ filter p rs
  same p r none = filter_by p rs r false none ∙ append-nil (filter p rs)

  pub count_settled : (r : Record) → is_settled o r ≡ true → IsTally sectors lines (filter (is_settled o) rs ++ r ∷ []) new.tally → new.late ≡ old.late
      → IsCount sectors lines o (rs ++ r ∷ []) new
  count_settled r is tally late = record {
    tally = subst (λ xs. IsTally sectors lines xs new.tally) (sym (filter_by (is_settled o) rs r true is)) tally;
    late = ap (λ v. bares v.items) late ∙ was.late ∙ sym (same (is_late o) r (settled_not_late o r is));
    within = subst (λ v. AllByRecursion (λ (t : Trace). t.line < lines) v.items) (sym late) was.within;
  }
