-- A ring begins with a free frame in each slot. At its end one seat has all claims, and all that was taken is what it put.
use Rattle.std.proofs.Common.{◌≡◌, ◌⊎◌, ℕ, zero, suc, ◌+◌, ◌%◌, ◌^◌, ◌<◌, ◌≤◌, List, [], ◌∷◌, length, Bool, true, false, IsTrue, None, if◌then◌else◌, refl, sym, ap, ◌∙◌, subst, ⊎_elim, inl, inr, arith}
use Rattle.std.proofs.Math.Nat.{mod-lt}
use Rattle.std.specs.Prelude.{slice_index}
use Rattle.std.specs.List.{AllByRecursion}
use mathlib.Core.Option.{some, some-ne-none, some-injective}
use mathlib.Core.Logic.{dite}
use native.Mathlib.Decide.{ℕ_discrete, dec_le}
use lib.ListN.{get_elem?}
use Rattle.atomic_table.specs.Table.{Final, Seen, opening}
use Rattle.atomic_table.proofs.Lists.{at_snoc, at_map}
use Rattle.pblk_model.specs.RingState.{between, covers, covers_copy}
use Rattle.write_ring.specs.declared.view.Key.{Key}
use Rattle.write_ring.specs.declared.view.Row.{Row}
use Rattle.write_ring.specs.declared.view.View.{View}
use Rattle.write_ring.specs.Cells.{slot, turn_at}
use Rattle.write_ring.specs.Rule.{Words, Each, away_number}
use Rattle.write_ring.specs.Stock.{rows_at, copies_at, HasOpen, HasPut, Entered}
use Rattle.write_ring.specs.Kept.{HasKey}
use Rattle.write_ring.specs.Steps.{first_view}
use Rattle.write_ring.proofs.ClaimLists.{empty, inside}
use Rattle.write_ring.proofs.Joins.{fresh_sides, none_ahead}
use Rattle.write_ring.proofs.Moves.{Rule, all_claims, no_others}

each_there : {S : Type 0} (P : S → Type 0) (xs : List S) (i : ℕ) → AllByRecursion P xs → i < length xs → (x : S) × (get_elem? xs i ≡ some x) × P x
each_there P [] i all lt = absurd (omega arith)
each_there P (x ∷ xs) zero all lt = (x, refl, all.0)
each_there P (x ∷ xs) (suc i) all lt = each_there P xs i all.1 (omega arith)

-- a row that was put is counted
pub put_counted : (rs : List Row) (i : ℕ) (r : Row) → get_elem? rs i ≡ some r → 1 ≤ rows_at r.position rs
put_counted [] i r there = absurd (some-ne-none r (sym there))
put_counted (s ∷ rs) zero r there =
    let here : between s.position (s.position + 1) r.position ≡ 1 =
    ap (λ k. between k (k + 1) r.position) (ap (λ k. k.position) (some-injective s r there))
    ∙ inside r.position r.position (r.position + 1) (omega arith) (omega arith) in
    omega arith
put_counted (s ∷ rs) (suc i) r there = let later = put_counted rs i r there in omega arith

module _ {S : Type 0} (key : Key) (FreeOf : Key → S → Type 0) (Blank : S → Type 0) (CarriesOf : Key → S → Row → Type 0) (FitsOf : Key → Row → Type 0) where
  pub begins : (ws : List ℕ) (xs : List S) → Words key.size ws key.first key.first key.first → ((q : ℕ) → slice_index ws (turn_at key.size q) ≡ 0)
      → length xs ≡ key.size → AllByRecursion (FreeOf key) xs → key.first ≤ 2 ^ 62 → key.reserve ≤ key.size
      → Rule key FreeOf Blank CarriesOf FitsOf (opening ws xs (first_view key))
  begins ws xs words turns many free most reserve =
      let first = key.first in
      record {
        claimed = first;
        taken = first;
        freed = first;
        granted = first;
        away = 0;
        took = [];
        words = words;
        numbers = record {
          low = omega arith;
          order = omega arith;
          below = omega arith;
          room = omega arith;
          most = most;
          grants = omega arith;
          most_granted =
              most;
        };
        seats = record {
          tiles = λ x. sym (empty x first);
          shares = refl;
          one_copier = omega arith;
          one_intake = omega arith;
          each = λ j u there. alone_there (Each first first first) j u there (record {
            bare = λ no. refl;
            no_copy = λ no x. refl;
            users = tt;
            saw_claimed = omega arith;
            saw_freed = omega arith;
            saw_granted = omega arith;
            intake = λ yes. (refl, refl);
          });
        };
        stock = record {
          entered = λ j u there. alone_there (Entered key.size first ws [] first 0) j u there (record {
            sides = fresh_sides 128 true;
            ahead = λ x had. none_ahead 128 true x had;
            desk = λ yes. (refl, refl, refl);
          });
          cells = record {
            away_below = λ p is. absurd (omega arith);
            taken_named = λ p le lt. absurd (omega arith);
            taken_cell = λ p le lt not. absurd (omega arith);
            turn_low = λ p le lt. let turn = turns p in omega arith;
            named_below = λ p le lt is. let turn = turns p in absurd (omega arith);
            named_cell = λ p le lt is. let turn = turns p in absurd (omega arith);
            open_cell = λ p le lt not. absurd (omega arith);
            free_cell = λ p le lt.
                let low : p % key.size < key.size = mod-lt p (omega arith) in
                let x = each_there (FreeOf key) xs (p % key.size) free (omega arith) in
                (x.0, at_map some xs (p % key.size) x.0 x.1, x.2);
          };
          story = λ i r at. absurd (some-ne-none r (sym at));
          count = omega arith;
        };
        keys = λ j u there. alone_there (HasKey key) j u there (record { pass = λ _. refl; desk = λ _. refl });
      }
    where
      alone_there : (P : View → Type 0) (j : ℕ) (u : View) → get_elem? (first_view key ∷ []) j ≡ some u → P (first_view key) → P u
      alone_there P j u there is = ⊎_elim (λ none_there. absurd (some-ne-none u (sym none_there)))
          (λ (same : first_view key ≡ u). subst P same is) (at_snoc [] (first_view key) u j there)

  -- What the last seat knows, where it has all shares and is the intake, with nothing open and no slot out.
  pub record Ended (v : View) (xs : List S) : Type 0 where
    pub claimed : ℕ
    pub tiled : (x : ℕ) → covers x v.pass.claims ≡ between key.first claimed x
    pub filled : (x : ℕ) → rows_at x v.pass.puts ≡ covers x v.pass.claims
    pub copies : (x : ℕ) → copies_at x v.pass.puts ≡ covers_copy x v.pass.claims
    pub took : (i : ℕ) (r : Row) → get_elem? v.intake.took i ≡ some r → (r.position ≡ key.first + i) × FitsOf key r × HasPut r v.pass
    pub order : v.intake.freed ≤ v.intake.taken
    pub room : v.intake.taken ≤ v.intake.freed + key.size
    pub blanks : (p : ℕ) → v.intake.freed ≤ p → p < v.intake.taken → (x : S) × (get_elem? xs (slot key.size p) ≡ some x) × Blank x
    pub others : (p : ℕ) → v.intake.taken ≤ p → p < v.intake.freed + key.size
        → (x : S) × (get_elem? xs (slot key.size p) ≡ some x) × (FreeOf key x ⊎ ((r : Row) × CarriesOf key x r))

  pub ends : (ws : List ℕ) (xs : List S) (by : ℕ) (v : View) → v.pass.shares ≡ 128 → IsTrue v.intake.on → v.intake.away ≡ None → v.pass.next ≡ v.pass.until
      → Final (Seen (Rule key FreeOf Blank CarriesOf FitsOf) by v) ws xs → Ended v xs
  ends ws xs by v all is_on home rest last =
      let s = last.0 in
      let h = last.1.0 in
      let there = last.1.1 in
      let mine = h.stock.entered by v there in
      let own = mine.desk is_on in
      let own_words = (h.seats.each by v there).intake is_on in
      let freed_is : v.intake.freed ≡ h.freed = own_words.0 in
      let taken_is : v.intake.taken ≡ h.taken = own.1 in
      let away_is : h.away ≡ 0 = sym own.2 ∙ ap away_number home in
      let none_open : (x : ℕ) → between v.pass.next v.pass.until x ≡ 0 = λ x. ap (λ k. between v.pass.next k x) (sym rest) ∙ empty x v.pass.next in
      let others = no_others key FreeOf Blank CarriesOf FitsOf s h by v there all in
      let cells = h.stock.cells in
      let room = h.numbers.room in
      let below = h.numbers.below in
      record {
        claimed = h.claimed;
        order = omega (arith, h.numbers.order);
        room = omega arith;
        tiled = all_claims key FreeOf Blank CarriesOf FitsOf s h by v there all;
        filled = λ x. let sides = mine.sides.all x in let none_now = none_open x in omega arith;
        copies = λ x. let sides = mine.sides.copies x in let none_now =
            none_copied v.pass.copy (between v.pass.next v.pass.until x) (none_open x) in omega arith;
        took = λ i r at.
            let was = h.stock.story i r (ap (λ l. get_elem? l i) (sym own.0) ∙ at) in
            let put = was.2 in (
              was.0,
              was.1,
              dite (ℕ_discrete put.0 by)
                  (λ same. subst (λ u. HasPut r u.pass) (some-injective put.1 v (sym put.2 ∙ ap (λ k. get_elem? s.views k) same ∙ there)) put.3)
                  (λ apart.
                  let none_there = others put.0 put.1 apart put.2 r.position in
                  let sides = (h.stock.entered put.0 put.1 put.2).sides.all r.position in
                  let counted = put_counted put.1.pass.puts put.3.0 r put.3.1 in
                  absurd (omega arith)),
            );
        blanks = λ p le lt.
            let cell = cells.taken_cell p (omega arith) (omega arith) (λ out. omega arith) in
            (cell.0, last.4 (slot key.size p) cell.0 cell.1, cell.2);
        others = λ p le lt. dite (dec_le h.claimed p)
            (λ above. let cell = cells.free_cell p above (omega arith) in (cell.0, last.4 (slot key.size p) cell.0 cell.1, inl cell.2))
            (λ below. dite (ℕ_discrete (slice_index s.words (turn_at key.size p) + key.first) (p + 1))
            (λ named. let cell = cells.named_cell p (omega arith) (omega arith) named in
            (cell.0, last.4 (slot key.size p) cell.0 cell.1, inr (cell.2.0, cell.2.1)))
            (λ not.
            let open_there = cells.open_cell p (omega arith) (omega arith) not in
            absurd (dite (ℕ_discrete open_there.0 by)
            (λ same.
            let is_v : open_there.1 ≡ v = some-injective open_there.1 v (sym open_there.2 ∙ ap (λ k. get_elem? s.views k) same ∙ there) in
            let is_open = subst (λ u. HasOpen p u.pass) is_v open_there.3 in
            let low = is_open.0 in
            let high = is_open.1 in
            omega arith)
            (λ apart.
            let none_there = others open_there.0 open_there.1 apart open_there.2 p in
            let sides = (h.stock.entered open_there.0 open_there.1 open_there.2).sides.all p in
            let counted = inside p open_there.1.pass.next open_there.1.pass.until open_there.3.0 open_there.3.1 in
            omega arith))));
      }
    where
      none_copied : (b : Bool) (n : ℕ) → n ≡ 0 → (if b then n else 0) ≡ 0
      none_copied true n is = is
      none_copied false n is = refl
