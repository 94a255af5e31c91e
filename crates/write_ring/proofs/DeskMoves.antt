-- The intake gives an empty slot back, takes the slot of the first position that isn't freed, and frees it.
use Rattle.std.proofs.Common.{◌≡◌, ℕ, ◌+◌, ◌%◌, ◌<◌, List, [], ◌∷◌, set, false, IsTrue, None, Some, refl, sym, ap, ◌∙◌, subst, arith}
use Rattle.std.proofs.lemmas.List.{set-get_or}
use Rattle.std.proofs.Math.Nat.{mod-lt}
use Rattle.std.specs.Prelude.{slice_index}
use mathlib.Core.Option.{some, none}
use lib.ListN.{get_elem?}
use Rattle.atomic_table.specs.Table.{Allows, takes, gives}
use Rattle.write_ring.specs.declared.view.Key.{Key}
use Rattle.write_ring.specs.declared.view.Row.{Row}
use Rattle.write_ring.specs.declared.view.View.{View}
use Rattle.write_ring.specs.Cells.{slot, turn_at}
use Rattle.write_ring.specs.Rule.{Each, away_number, freed_at}
use Rattle.write_ring.specs.Stock.{Stock}
use Rattle.write_ring.specs.Steps.{gave_back, took_free, freed_next}
use Rattle.write_ring.proofs.Words.{same_words, freed_word, turns_stay}
use Rattle.write_ring.proofs.SeatMoves.{never, seats_changed, alone}
use Rattle.write_ring.proofs.Stocks.{stock_words}
use Rattle.write_ring.proofs.Takings.{stock_back, stock_out, stock_freed}
use Rattle.write_ring.proofs.Moves.{Rule, Goods, keys_stay}
use Rattle.write_ring.proofs.SlotMoves.{looked_turn}

freed_higher : (c f g : ℕ) (u : View) → u.intake.on ≡ false → Each c f g u → Each c (f + 1) g u
freed_higher c f g u off e =
    let saw = e.saw_freed in
    record {
      bare = e.bare;
      no_copy = e.no_copy;
      users = e.users;
      saw_claimed = e.saw_claimed;
      saw_freed = omega arith;
      saw_granted = e.saw_granted;
      intake = λ yes. never (sym off ∙ yes);
    }

module _ {S : Type 0} (key : Key) (FreeOf : Key → S → Type 0) (Blank : S → Type 0) (CarriesOf : Key → S → Row → Type 0) (FitsOf : Key → Row → Type 0) where
  pub gives_back : (by : ℕ) (v : View) (p : ℕ) (x : S) (held : List (ℕ × S)) (slots : ℕ) → slots ≡ key.size → 0 < key.size → IsTrue v.intake.on
      → v.intake.away ≡ Some p → Blank x
      → Allows (Rule key FreeOf Blank CarriesOf FitsOf) slots by (v, (slot key.size p, x) ∷ held) (turn_at key.size p) (λ n. n)
      (λ n m. m ≡ (gave_back v n, held))
  gives_back by v p x held slots all_slots large is_on out blank s h long there small =
      let i = turn_at key.size p in
      let n = slice_index s.words i in
      let w = gave_back v n in
      let own = (h.stock.entered by v there).desk is_on in
      let away_is : h.away ≡ p + 1 = sym own.2 ∙ ap away_number out in
      let only = alone key h.claimed h.freed h.granted s.views by v h.seats there is_on in
      let inside : p % key.size < key.size = mod-lt p large in
      let stock : Goods key FreeOf Blank CarriesOf FitsOf s.words s s.views h.took h.claimed h.taken h.freed (p + 1) =
      subst (λ a. Goods key FreeOf Blank CarriesOf FitsOf s.words s s.views h.took h.claimed h.taken h.freed a) away_is h.stock in (
        w,
        gives,
        tt,
        record {
          claimed = h.claimed;
          taken = h.taken;
          freed = h.freed;
          granted = h.granted;
          away = 0;
          took = h.took;
          words = same_words key.size s.words i h.claimed h.freed h.granted h.words;
          numbers = h.numbers;
          seats = looked_turn key FreeOf Blank CarriesOf FitsOf s h by v w there refl refl refl refl refl refl refl;
          stock = subst (λ ws. Stock key.size key.first (FreeOf key) Blank (CarriesOf key) (FitsOf key) ws (set s.homes (slot key.size p) (some x))
              (set s.views by w)
              h.took h.claimed h.taken h.freed 0) (sym (set-get_or s.words i 0))
              (stock_back key.size key.first (FreeOf key) Blank (CarriesOf key) (FitsOf key) s.words s.homes s.views by v w h.took h.claimed h.taken h.freed p x
              stock there only h.numbers.order h.numbers.below h.numbers.room (omega arith) blank
              (record { pass = refl; took_is = own.0; taken_is = own.1; away_is = refl }));
          keys = keys_stay key FreeOf Blank CarriesOf FitsOf s.views by v w h.keys there refl refl refl;
        },
        refl,
      )

  -- the slot of the first position that isn't freed is empty
  pub takes_free : (by : ℕ) (v : View) (slots : ℕ) → slots ≡ key.size → IsTrue v.intake.on → v.intake.away ≡ None → v.intake.freed < v.intake.taken
      → Allows (Rule key FreeOf Blank CarriesOf FitsOf) slots by (v, []) (turn_at key.size v.intake.freed) (λ n. n)
      (λ n m. (c : S) × Blank c × (m ≡ (took_free v n, (slot slots v.intake.freed, c) ∷ [])))
  takes_free by v slots all_slots is_on home some_taken s h long there small =
      let i = turn_at key.size v.intake.freed in
      let n = slice_index s.words i in
      let w = took_free v n in
      let own = (h.stock.entered by v there).desk is_on in
      let own_words = (h.seats.each by v there).intake is_on in
      let taken_is : v.intake.taken ≡ h.taken = own.1 in
      let freed_is : v.intake.freed ≡ h.freed = own_words.0 in
      let away_is : h.away ≡ 0 = sym own.2 ∙ ap away_number home in
      let only = alone key h.claimed h.freed h.granted s.views by v h.seats there is_on in
      let stock : Goods key FreeOf Blank CarriesOf FitsOf s.words s s.views h.took h.claimed h.taken h.freed 0 =
      subst (λ a. Goods key FreeOf Blank CarriesOf FitsOf s.words s s.views h.took h.claimed h.taken h.freed a) away_is h.stock in
      let cell = stock.cells.taken_cell h.freed (omega arith) (omega arith) (λ e. omega arith) in
      let c = cell.0 in (
        w,
        takes (slot key.size v.intake.freed) c,
        ap (λ k. get_elem? s.homes (slot key.size k)) freed_is ∙ cell.1,
        record {
          claimed = h.claimed;
          taken = h.taken;
          freed = h.freed;
          granted = h.granted;
          away = h.freed + 1;
          took = h.took;
          words = same_words key.size s.words i h.claimed h.freed h.granted h.words;
          numbers = h.numbers;
          seats = looked_turn key FreeOf Blank CarriesOf FitsOf s h by v w there refl refl refl refl refl refl refl;
          stock = subst (λ ws. Stock key.size key.first (FreeOf key) Blank (CarriesOf key) (FitsOf key) ws (set s.homes (slot key.size v.intake.freed) none)
              (set s.views by w) h.took h.claimed h.taken h.freed (h.freed + 1)) (sym (set-get_or s.words i 0))
              (subst (λ k. Stock key.size key.first (FreeOf key) Blank (CarriesOf key) (FitsOf key) s.words (set s.homes (slot key.size k) none)
              (set s.views by w) h.took h.claimed h.taken h.freed (h.freed + 1)) (sym freed_is)
              (stock_out key.size key.first (FreeOf key) Blank (CarriesOf key) (FitsOf key) s.words s.homes s.views by v w h.took h.claimed h.taken h.freed
              stock there only (omega arith) h.numbers.below h.numbers.room
              (record { pass = refl; took_is = own.0; taken_is = own.1; away_is = omega arith })));
          keys = keys_stay key FreeOf Blank CarriesOf FitsOf s.views by v w h.keys there refl refl refl;
        },
        (c, cell.2, ap (λ k. (w, (slot k v.intake.freed, c) ∷ [])) (sym all_slots)),
      )

  -- the intake stores `freed`, and gives the slot back with a free frame
  pub frees : (by : ℕ) (v : View) (x : S) (held : List (ℕ × S)) (slots : ℕ) → slots ≡ key.size → 0 < key.size → IsTrue v.intake.on
      → v.intake.away ≡ Some v.intake.freed → FreeOf v.key x
      → Allows (Rule key FreeOf Blank CarriesOf FitsOf) slots by (v, (slot key.size v.intake.freed, x) ∷ held) freed_at (λ _. v.intake.freed + 1)
      (λ _ m. m ≡ (freed_next v, held))
  frees by v x held slots all_slots large is_on out free s h long there small =
      let f = v.intake.freed in
      let w = freed_next v in
      let mine = h.seats.each by v there in
      let known = (h.keys by v there).desk is_on in
      let own = (h.stock.entered by v there).desk is_on in
      let own_words = mine.intake is_on in
      let freed_is : h.freed ≡ f = sym own_words.0 in
      let away_is : h.away ≡ f + 1 = sym own.2 ∙ ap away_number out in
      let only = alone key h.claimed h.freed h.granted s.views by v h.seats there is_on in
      let inside : f % key.size < key.size = mod-lt f large in
      let stock : Goods key FreeOf Blank CarriesOf FitsOf s.words s s.views h.took h.claimed h.taken f (f + 1) =
      subst (λ a. Goods key FreeOf Blank CarriesOf FitsOf s.words s s.views h.took h.claimed h.taken f a) away_is
      (subst (λ k. Goods key FreeOf Blank CarriesOf FitsOf s.words s s.views h.took h.claimed h.taken k h.away) freed_is h.stock) in
      let in_range = stock.cells.away_below f refl in
      let number = h.numbers in
      let low = number.low in
      let order = number.order in
      let below = number.below in
      let room = number.room in
      let grants = number.grants in
      let saw = mine.saw_freed in (
        w,
        gives,
        tt,
        record {
          claimed = h.claimed;
          taken = h.taken;
          freed = f + 1;
          granted = h.granted;
          away = 0;
          took = h.took;
          words = freed_word key.size s.words h.claimed h.freed h.granted (f + 1) h.words;
          numbers = record {
            low = omega arith;
            order = omega (arith, in_range);
            below = below;
            room = omega arith;
            most = number.most;
            grants = omega arith;
            most_granted = number.most_granted;
          };
          seats = seats_changed key h.claimed h.freed h.granted (f + 1) s.views by v w h.seats there refl refl refl refl
              (λ j u apart at. subst (λ k. Each h.claimed (k + 1) h.granted u) freed_is
              (freed_higher h.claimed h.freed h.granted u (only j u apart at) (h.seats.each j u at)))
              (record {
                bare = mine.bare;
                no_copy = mine.no_copy;
                users = mine.users;
                saw_claimed = mine.saw_claimed;
                saw_freed = omega arith;
                saw_granted = mine.saw_granted;
                intake = λ _. (refl, own_words.1);
              });
          stock = stock_words key.size key.first (FreeOf key) Blank (CarriesOf key) (FitsOf key) s.words (set s.words 16 (f + 1))
              (set s.homes (slot key.size f) (some x)) (set s.views by w) h.took h.claimed h.taken (f + 1) 0
              (stock_freed key.size key.first (FreeOf key) Blank (CarriesOf key) (FitsOf key) s.words s.homes s.views by v w h.took h.claimed h.taken f x
              stock there only large below (omega arith) (omega arith) (subst (λ k. FreeOf k x) known free)
              (record { pass = refl; took_is = own.0; taken_is = own.1; away_is = refl }))
              (λ q. turns_stay key.size s.words 16 (f + 1) q (omega arith));
          keys = keys_stay key FreeOf Blank CarriesOf FitsOf s.views by v w h.keys there refl refl refl;
        },
        refl,
      )
