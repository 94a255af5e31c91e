-- What the ring keeps of its entries, where the intake takes an entry, gives its slot back, and frees a position.
use Rattle.std.proofs.Common.{◌≡◌, ◌≢◌, ℕ, ◌+◌, ◌<◌, ◌≤◌, List, [], ◌∷◌, ◌++◌, length, set, false, refl, sym, ap, ◌∙◌, subst, ⊎_elim, arith}
use Rattle.std.proofs.lemmas.List.{length-append}
use Rattle.std.specs.Prelude.{slice_index}
use mathlib.Core.Option.{Option, some, none}
use mathlib.Core.Logic.{dite}
use native.Mathlib.Decide.{ℕ_discrete}
use lib.ListN.{get_elem?}
use Rattle.write_ring.specs.declared.view.Row.{Row}
use Rattle.write_ring.specs.declared.view.View.{View}
use Rattle.write_ring.specs.Cells.{Cells, IsNamed, slot, turn_at}
use Rattle.write_ring.specs.Rule.{AllViews, away_number}
use Rattle.write_ring.specs.Stock.{HasOpen, HasPut, IsOpen, IsPut, Sides, Entered, IsEntry, Stock}
use Rattle.write_ring.proofs.Views.{each_changed}
use Rattle.write_ring.proofs.SeatMoves.{never}
use Rattle.write_ring.proofs.SomeViews.{last_at, some_changed}
use Rattle.write_ring.proofs.Slots.{taken_out, given_back, taken_free, freed_next, left_alone}
use Rattle.write_ring.proofs.Stocks.{entry_grows, story_grows}

-- no other seat is the intake
abbrev pub IsOnly : ℕ → List View → Type 0
IsOnly by views = (j : ℕ) (u : View) → j ≢ by → get_elem? views j ≡ some u → u.intake.on ≡ false

-- the intake's view changes in what it has taken and has with it
pub record Turned (v w : View) (took : List Row) (taken away : ℕ) : Type 0 where
  pub pass : w.pass ≡ v.pass
  pub took_is : w.intake.took ≡ took
  pub taken_is : w.intake.taken ≡ taken
  pub away_is : away_number w.intake.away ≡ away

module _ (size first : ℕ) where
  same_puts : (views : List View) (by : ℕ) (v w : View) → get_elem? views by ≡ some v → w.pass ≡ v.pass → (r : Row) → IsPut views r → IsPut (set views by w) r
  same_puts views by v w there same r is = some_changed (λ u. HasPut r u.pass) views by v w there (subst (HasPut r) (sym same)) is

  same_opens : (views : List View) (by : ℕ) (v w : View) → get_elem? views by ≡ some v → w.pass ≡ v.pass → (q : ℕ) → IsOpen views q → IsOpen (set views by w) q
  same_opens views by v w there same q is = some_changed (λ u. HasOpen q u.pass) views by v w there (subst (HasOpen q) (sym same)) is

  desk_turned : (words : List ℕ) (views : List View) (by : ℕ) (v w : View) (took : List Row) (taken away later : ℕ)
      → AllViews (Entered size first words took taken away) views → get_elem? views by ≡ some v → IsOnly by views → Turned v w took taken later
      → AllViews (Entered size first words took taken later) (set views by w)
  desk_turned words views by v w took taken away later each there only turned =
      let mine = each by v there in
      each_changed (Entered size first words took taken later) views by w
      (λ j u apart at. let e = each j u at in record {
        sides = e.sides;
        ahead = e.ahead;
        desk = λ yes. never (sym (only j u apart at) ∙ yes);
      })
      (record {
        sides = subst Sides (sym turned.pass) mine.sides;
        ahead = λ x has. mine.ahead x (subst (HasOpen x) turned.pass has);
        desk = λ _. (turned.took_is, turned.taken_is, turned.away_is);
      })

module _ {S : Type 0} (size first : ℕ) (Free Blank : S → Type 0) (Carries : S → Row → Type 0) (Fits : Row → Type 0) where
  -- the cells under the views of after
  cells_after : (words : List ℕ) (homes : List (Option S)) (views : List View) (by : ℕ) (v w : View) (took : List Row) (claimed taken freed away : ℕ)
      → Stock size first Free Blank Carries Fits words homes views took claimed taken freed away → get_elem? views by ≡ some v → w.pass ≡ v.pass
      → Cells size first Free Blank (IsEntry size first Free Blank Carries Fits (set views by w)) (IsOpen (set views by w)) words homes claimed taken freed away
  cells_after words homes views by v w took claimed taken freed away h there same = left_alone size first Free Blank
      (IsEntry size first Free Blank Carries Fits views) (IsEntry size first Free Blank Carries Fits (set views by w)) (IsOpen views) (IsOpen (set views by w))
      words words homes claimed taken freed away h.cells (λ q. refl)
      (entry_grows size first Free Blank Carries Fits views (set views by w) (same_puts size first views by v w there same))
      (same_opens size first views by v w there same)

  -- the intake takes the entry of the next position out
  pub stock_taken : (words : List ℕ) (homes : List (Option S)) (views : List View) (by : ℕ) (v w : View) (took : List Row) (claimed taken freed : ℕ) (r : Row)
      → Stock size first Free Blank Carries Fits words homes views took claimed taken freed 0 → get_elem? views by ≡ some v → IsOnly by views
      → freed ≤ taken → taken < claimed → claimed ≤ freed + size → IsNamed size first words taken
      → r.position ≡ taken → Fits r → IsPut views r → Turned v w (took ++ r ∷ []) (taken + 1) (taken + 1)
      → Stock size first Free Blank Carries Fits words (set homes (slot size taken) none) (set views by w) (took ++ r ∷ []) claimed (taken + 1) freed
      (taken + 1)
  stock_taken words homes views by v w took claimed taken freed r h there only order below room named at fits put turned =
      let mine = h.entered by v there in
      let more = took ++ r ∷ [] in
      let next : (u : View) → Entered size first words took taken 0 u → (x : ℕ) → HasOpen x u.pass
      → (taken + 1 ≤ x) × (slice_index words (turn_at size x) + first ≤ x) = λ u e x has.
      let was = e.ahead x has in (
        dite (ℕ_discrete x taken)
            (λ (same : x ≡ taken).
            let turn : slice_index words (turn_at size x) ≡ slice_index words (turn_at size taken) = ap (λ k. slice_index words (turn_at size k)) same in
            absurd (omega (arith, was.1)))
            (λ differ. omega (arith, was.0)),
        was.1,
      ) in
      record {
        entered = each_changed (Entered size first words more (taken + 1) (taken + 1)) views by w
            (λ j u apart its. let e = h.entered j u its in record {
              sides = e.sides;
              ahead = next u e;
              desk = λ yes. never (sym (only j u apart its) ∙ yes);
            })
            (record {
              sides = subst Sides (sym turned.pass) mine.sides;
              ahead = λ x has. next v mine x (subst (HasOpen x) turned.pass has);
              desk = λ _. (turned.took_is, turned.taken_is, turned.away_is);
            });
        cells = taken_out size first Free Blank (IsEntry size first Free Blank Carries Fits (set views by w)) (IsOpen (set views by w)) words homes
            claimed taken freed (cells_after words homes views by v w took claimed taken freed 0 h there turned.pass) order below room named;
        story = λ i s is. ⊎_elim
            (λ old. let was = h.story i s old in (was.0, was.1, same_puts size first views by v w there turned.pass s was.2))
            (λ (last : (i ≡ length took) × (r ≡ s)).
            let count = h.count in
            let index = last.0 in
            let position : s.position ≡ taken = ap (λ k. k.position) (sym last.1) ∙ at in
            (omega arith, subst Fits last.1 fits, subst (IsPut (set views by w)) last.1 (same_puts size first views by v w there turned.pass r put)))
            (last_at took r s i is);
        count = let count = h.count in let long = length-append took (r ∷ []) in omega arith;
      }

  -- the intake gives the slot of a taken position back, empty
  pub stock_back : (words : List ℕ) (homes : List (Option S)) (views : List View) (by : ℕ) (v w : View) (took : List Row) (claimed taken freed p : ℕ) (x : S)
      → Stock size first Free Blank Carries Fits words homes views took claimed taken freed (p + 1) → get_elem? views by ≡ some v → IsOnly by views
      → freed ≤ taken → taken ≤ claimed → claimed ≤ freed + size → slot size p < length homes → Blank x → Turned v w took taken 0
      → Stock size first Free Blank Carries Fits words (set homes (slot size p) (some x)) (set views by w) took claimed taken freed 0
  stock_back words homes views by v w took claimed taken freed p x h there only order below room wide blank turned = record {
    entered = desk_turned size first words views by v w took taken (p + 1) 0 h.entered there only turned;
    cells = given_back size first Free Blank (IsEntry size first Free Blank Carries Fits (set views by w)) (IsOpen (set views by w)) words homes
        claimed taken freed p x (cells_after words homes views by v w took claimed taken freed (p + 1) h there turned.pass) order below room wide blank;
    story = story_grows size first Free Blank Carries Fits views (set views by w) took (same_puts size first views by v w there turned.pass) h.story;
    count = h.count;
  }

  -- the intake takes the slot of the first position that isn't freed
  pub stock_out : (words : List ℕ) (homes : List (Option S)) (views : List View) (by : ℕ) (v w : View) (took : List Row) (claimed taken freed : ℕ)
      → Stock size first Free Blank Carries Fits words homes views took claimed taken freed 0 → get_elem? views by ≡ some v → IsOnly by views
      → freed < taken → taken ≤ claimed → claimed ≤ freed + size → Turned v w took taken (freed + 1)
      → Stock size first Free Blank Carries Fits words (set homes (slot size freed) none) (set views by w) took claimed taken freed (freed + 1)
  stock_out words homes views by v w took claimed taken freed h there only some_taken below room turned = record {
    entered = desk_turned size first words views by v w took taken 0 (freed + 1) h.entered there only turned;
    cells = taken_free size first Free Blank (IsEntry size first Free Blank Carries Fits (set views by w)) (IsOpen (set views by w)) words homes
        claimed taken freed (cells_after words homes views by v w took claimed taken freed 0 h there turned.pass) some_taken below room;
    story = story_grows size first Free Blank Carries Fits views (set views by w) took (same_puts size first views by v w there turned.pass) h.story;
    count = h.count;
  }

  -- a free frame lies in that slot, and the position is freed
  pub stock_freed : (words : List ℕ) (homes : List (Option S)) (views : List View) (by : ℕ) (v w : View) (took : List Row) (claimed taken freed : ℕ) (x : S)
      → Stock size first Free Blank Carries Fits words homes views took claimed taken freed (freed + 1) → get_elem? views by ≡ some v → IsOnly by views
      → 0 < size → taken ≤ claimed → claimed ≤ freed + size → slot size freed < length homes → Free x → Turned v w took taken 0
      → Stock size first Free Blank Carries Fits words (set homes (slot size freed) (some x)) (set views by w) took claimed taken (freed + 1) 0
  stock_freed words homes views by v w took claimed taken freed x h there only large below room wide free turned = record {
    entered = desk_turned size first words views by v w took taken (freed + 1) 0 h.entered there only turned;
    cells = freed_next size first Free Blank (IsEntry size first Free Blank Carries Fits (set views by w)) (IsOpen (set views by w)) words homes
        claimed taken freed x (cells_after words homes views by v w took claimed taken freed (freed + 1) h there turned.pass) large below room wide free;
    story = story_grows size first Free Blank Carries Fits views (set views by w) took (same_puts size first views by v w there turned.pass) h.story;
    count = h.count;
  }
