-- Each kind of step keeps what the ring keeps of its entries.
use Rattle.std.proofs.Common.{◌≡◌, ◌≢◌, ◌⊎◌, ℕ, ◌+◌, ◌<◌, ◌≤◌, List, [], ◌∷◌, ◌++◌, set, IsTrue, refl, sym, ap, ◌∙◌, subst, arith}
use Rattle.std.specs.Prelude.{slice_index}
use mathlib.Core.Option.{Option, some}
use mathlib.Core.Logic.{dite}
use native.Mathlib.Decide.{ℕ_discrete, dec_le}
use lib.ListN.{get_elem?}
use Rattle.pblk_model.specs.RingState.{between, covers, total}
use Rattle.write_ring.specs.declared.view.Row.{Row}
use Rattle.write_ring.specs.declared.view.View.{View}
use Rattle.write_ring.specs.Cells.{slot, turn_at}
use Rattle.write_ring.specs.Rule.{AllViews, away_number}
use Rattle.write_ring.specs.Stock.{HasOpen, HasPut, IsOpen, IsPut, Sides, Entered, IsEntry, IsStory, Stock}
use Rattle.write_ring.proofs.Views.{sum_one, each_changed, each_more}
use Rattle.write_ring.proofs.ClaimLists.{none_above, inside}
use Rattle.write_ring.proofs.SomeViews.{some_here, some_changed, some_split, some_joined}
use Rattle.write_ring.proofs.Slots.{claimed_slots, left_alone}

-- how often a seat has claimed x
abbrev pub claims_at : ℕ → View → ℕ
claims_at x u = covers x u.pass.claims

module _ (size first : ℕ) where
  pub turned : (words words' : List ℕ) (took : List Row) (taken away : ℕ) (u : View)
      → ((q : ℕ) → slice_index words' (turn_at size q) ≡ slice_index words (turn_at size q)) → Entered size first words took taken away u
      → Entered size first words' took taken away u
  turned words words' took taken away u same h = record {
    sides = h.sides;
    ahead = λ x has. let was = h.ahead x has in let now = same x in (was.0, omega (arith, was.1));
    desk = h.desk;
  }

  -- an open position was claimed
  pub open_claimed : (words : List ℕ) (took : List Row) (claimed taken away : ℕ) (views : List View) (j : ℕ) (u : View) (x : ℕ)
      → Entered size first words took taken away u → get_elem? views j ≡ some u → ((x : ℕ) → total (claims_at x) views ≡ between first claimed x)
      → HasOpen x u.pass → x < claimed
  open_claimed words took claimed taken away views j u x h there tiles has = dite (dec_le claimed x)
      (λ above.
      let one : covers x u.pass.claims ≤ total (claims_at x) views = sum_one (claims_at x) views j u there in
      let all = tiles x in
      let none = none_above x first claimed above in
      let its = h.sides.all x in
      let is_one = inside x u.pass.next u.pass.until has.0 has.1 in
      absurd (omega arith))
      (λ below. omega arith)

module _ {S : Type 0} (size first : ℕ) (Free Blank : S → Type 0) (Carries : S → Row → Type 0) (Fits : Row → Type 0) where
  pub entry_grows : (views views' : List View) → ((r : Row) → IsPut views r → IsPut views' r) → (q : ℕ) (x : S)
      → IsEntry size first Free Blank Carries Fits views q x → IsEntry size first Free Blank Carries Fits views' q x
  entry_grows views views' grows q x e = (e.0, e.1, e.2, e.3, grows e.0 e.4)

  pub story_grows : (views views' : List View) (took : List Row) → ((r : Row) → IsPut views r → IsPut views' r)
      → IsStory size first Free Blank Carries Fits views took → IsStory size first Free Blank Carries Fits views' took
  story_grows views views' took grows h i r at = let was = h i r at in (was.0, was.1, grows r was.2)

  -- other views, that have at least what was open and put
  pub stock_seen : (words : List ℕ) (homes : List (Option S)) (views views' : List View) (took : List Row) (claimed taken freed away : ℕ)
      → Stock size first Free Blank Carries Fits words homes views took claimed taken freed away
      → AllViews (Entered size first words took taken away) views' → ((r : Row) → IsPut views r → IsPut views' r) → ((q : ℕ) → IsOpen views q → IsOpen views' q)
      → Stock size first Free Blank Carries Fits words homes views' took claimed taken freed away
  stock_seen words homes views views' took claimed taken freed away h each puts opens = record {
    entered = each;
    cells = left_alone size first Free Blank (IsEntry size first Free Blank Carries Fits views) (IsEntry size first Free Blank Carries Fits views')
        (IsOpen views) (IsOpen views') words words homes claimed taken freed away h.cells (λ q. refl) (entry_grows views views' puts) opens;
    story = story_grows views views' took puts h.story;
    count = h.count;
  }

  -- another word is stored than a turn word
  pub stock_words : (words words' : List ℕ) (homes : List (Option S)) (views : List View) (took : List Row) (claimed taken freed away : ℕ)
      → Stock size first Free Blank Carries Fits words homes views took claimed taken freed away
      → ((q : ℕ) → slice_index words' (turn_at size q) ≡ slice_index words (turn_at size q))
      → Stock size first Free Blank Carries Fits words' homes views took claimed taken freed away
  stock_words words words' homes views took claimed taken freed away h same = record {
    entered = λ j u at. turned size first words words' took taken away u same (h.entered j u at);
    cells = left_alone size first Free Blank (IsEntry size first Free Blank Carries Fits views) (IsEntry size first Free Blank Carries Fits views)
        (IsOpen views) (IsOpen views) words words' homes claimed taken freed away h.cells same (λ q x e. e) (λ q e. e);
    story = h.story;
    count = h.count;
  }

  -- one seat's view changes, with what was open and put
  pub stock_changed : (words : List ℕ) (homes : List (Option S)) (views : List View) (by : ℕ) (v w : View) (took : List Row) (claimed taken freed away : ℕ)
      → Stock size first Free Blank Carries Fits words homes views took claimed taken freed away → get_elem? views by ≡ some v
      → Entered size first words took taken away w → ((r : Row) → HasPut r v.pass → HasPut r w.pass) → ((q : ℕ) → HasOpen q v.pass → HasOpen q w.pass)
      → Stock size first Free Blank Carries Fits words homes (set views by w) took claimed taken freed away
  stock_changed words homes views by v w took claimed taken freed away h there mine puts opens =
      stock_seen words homes views (set views by w) took claimed taken freed away h
      (each_changed (Entered size first words took taken away) views by w (λ j u apart at. h.entered j u at) mine)
      (λ r is. some_changed (λ u. HasPut r u.pass) views by v w there (puts r) is)
      (λ q is. some_changed (λ u. HasOpen q u.pass) views by v w there (opens q) is)

  -- a seat is split
  pub stock_split : (words : List ℕ) (homes : List (Option S)) (views : List View) (by : ℕ) (v w right : View) (took : List Row) (claimed taken freed away : ℕ)
      → Stock size first Free Blank Carries Fits words homes views took claimed taken freed away → get_elem? views by ≡ some v
      → Entered size first words took taken away w → Entered size first words took taken away right
      → ((r : Row) → HasPut r v.pass → HasPut r w.pass ⊎ HasPut r right.pass)
      → ((q : ℕ) → HasOpen q v.pass → HasOpen q w.pass ⊎ HasOpen q right.pass)
      → Stock size first Free Blank Carries Fits words homes (set views by w ++ right ∷ []) took claimed taken freed away
  stock_split words homes views by v w right took claimed taken freed away h there mine its puts opens =
      stock_seen words homes views (set views by w ++ right ∷ []) took claimed taken freed away h
      (each_more (Entered size first words took taken away) (set views by w) right
      (each_changed (Entered size first words took taken away) views by w (λ j u apart at. h.entered j u at) mine) its)
      (λ r is. some_split (λ u. HasPut r u.pass) views by v w right there (puts r) is)
      (λ q is. some_split (λ u. HasOpen q u.pass) views by v w right there (opens q) is)

  -- a seat goes into another
  pub stock_joined : (words : List ℕ) (homes : List (Option S)) (views : List View) (by : ℕ) (v : View) (other : ℕ) (w b spent : View) (took : List Row)
      (claimed taken freed away : ℕ)
      → Stock size first Free Blank Carries Fits words homes views took claimed taken freed away → get_elem? views by ≡ some v → other ≢ by
      → get_elem? (set views by b) other ≡ some w → Entered size first words took taken away b → Entered size first words took taken away spent
      → ((r : Row) → HasPut r v.pass → HasPut r b.pass) → ((r : Row) → HasPut r w.pass → HasPut r b.pass)
      → ((q : ℕ) → HasOpen q v.pass → HasOpen q b.pass) → ((q : ℕ) → HasOpen q w.pass → HasOpen q b.pass)
      → Stock size first Free Blank Carries Fits words homes (set (set views by b) other spent) took claimed taken freed away
  stock_joined words homes views by v other w b spent took claimed taken freed away h there differ also mine nothing puts its_puts opens its_opens =
      stock_seen words homes views (set (set views by b) other spent) took claimed taken freed away h
      (each_changed (Entered size first words took taken away) (set views by b) other spent
      (λ j u _ at. each_changed (Entered size first words took taken away) views by b (λ i x _ here. h.entered i x here) mine j u at) nothing)
      (λ r is. some_joined (λ u. HasPut r u.pass) views by v other w b spent there differ also (puts r) (its_puts r) is)
      (λ q is. some_joined (λ u. HasOpen q u.pass) views by v other w b spent there differ also (opens q) (its_opens q) is)

  -- a claim takes the slots of its positions, which are open from then on
  pub stock_claimed : (words : List ℕ) (homes homes' : List (Option S)) (views : List View) (by : ℕ) (v w : View) (took : List Row)
      (claimed new taken freed away : ℕ)
      → Stock size first Free Blank Carries Fits words homes views took claimed taken freed away → get_elem? views by ≡ some v
      → freed ≤ taken → taken ≤ claimed → claimed ≤ new → new ≤ freed + size
      → Sides w.pass → w.pass.next ≡ claimed → w.pass.until ≡ new → w.pass.puts ≡ v.pass.puts → w.intake ≡ v.intake
      → v.pass.next ≡ v.pass.until
      → ((k : ℕ) → ((p : ℕ) → claimed ≤ p → p < new → k ≢ slot size p) → get_elem? homes' k ≡ get_elem? homes k)
      → Stock size first Free Blank Carries Fits words homes' (set views by w) took new taken freed away
  stock_claimed words homes homes' views by v w took claimed new taken freed away h there order below rises room sides from to puts same_desk rest
      others =
      let views' = set views by w in
      let mine = h.entered by v there in
      let is_put = λ (r : Row) (is : IsPut views r). some_changed (λ u. HasPut r u.pass) views by v w there
      (λ (had : HasPut r v.pass). (had.0, ap (λ l. get_elem? l had.0) puts ∙ had.1)) is in
      let is_open = λ (q : ℕ) (is : IsOpen views q). some_changed (λ u. HasOpen q u.pass) views by v w there
      (λ (had : HasOpen q v.pass). let low = had.0 in let high = had.1 in absurd (omega arith)) is in
      record {
        entered = each_changed (Entered size first words took taken away) views by w (λ j u apart at. h.entered j u at) (record {
          sides = sides;
          ahead = λ x has.
              let low : claimed ≤ x = omega (arith, has.0) in
              let high : x < new = omega (arith, has.1) in
              let turn = h.cells.turn_low x (omega arith) (omega arith) in (
                omega arith,
                dite (ℕ_discrete (slice_index words (turn_at size x) + first) (x + 1))
                    (λ named. let old = h.cells.named_below x (omega arith) (omega arith) named in absurd (omega arith))
                    (λ other. omega arith),
              );
          desk = subst (λ d. IsTrue d.on → (d.took ≡ took) × (d.taken ≡ taken) × (away_number d.away ≡ away)) (sym same_desk) mine.desk;
        });
        cells = claimed_slots size first Free Blank (IsEntry size first Free Blank Carries Fits views') (IsOpen views') (IsOpen views') words homes homes'
            claimed new taken freed away
            (left_alone size first Free Blank (IsEntry size first Free Blank Carries Fits views) (IsEntry size first Free Blank Carries Fits views')
            (IsOpen views) (IsOpen views') words words homes claimed taken freed away h.cells (λ q. refl) (entry_grows views views' is_put) is_open)
            order below rises room (λ q is. is)
            (λ q low high. some_here (λ u. HasOpen q u.pass) views by v w there (omega arith, omega arith)) others;
        story = story_grows views views' took is_put h.story;
        count = h.count;
      }
