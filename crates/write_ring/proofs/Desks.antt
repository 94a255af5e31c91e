-- What the ring keeps of its entries, where a pass fills a position, and where the intake takes an entry and frees a position.
use Rattle.std.proofs.Common.{◌≡◌, ◌≢◌, ℕ, ◌+◌, ◌-◌, ◌<◌, ◌≤◌, List, [], ◌∷◌, length, set, IsTrue, refl, sym, ap, ◌∙◌, subst, arith}
use Rattle.std.proofs.Common.{if◌then◌else◌, Bool, true, false}
use mathlib.Core.Option.{Option, some}
use lib.ListN.{get_elem?}
use Rattle.atomic_table.proofs.Lists.{at_last, at_longer}
use Rattle.pblk_model.specs.RingState.{between, covers, total}
use Rattle.write_ring.specs.declared.view.Row.{Row}
use Rattle.write_ring.specs.declared.view.Part.{Part}
use Rattle.write_ring.specs.declared.view.Desk.{Desk}
use Rattle.write_ring.specs.declared.view.View.{View}
use Rattle.write_ring.specs.Cells.{slot, turn_at}
use Rattle.write_ring.specs.Rule.{AllViews, away_number}
use Rattle.write_ring.specs.Stock.{HasOpen, HasPut, IsOpen, IsPut, Sides, Entered, IsEntry, Stock}
use Rattle.write_ring.specs.Steps.{put_row}
use Rattle.write_ring.proofs.Views.{sum_two, each_changed}
use Rattle.write_ring.proofs.ClaimLists.{rows_both, copy_rows_both, grown, inside}
use Rattle.write_ring.proofs.SomeViews.{some_here, some_changed}
use Rattle.write_ring.proofs.Slots.{apart, other_turn, filled}
use Rattle.write_ring.proofs.Stocks.{claims_at, open_claimed, entry_grows, story_grows}

pub put_sides : (p : Part) (r : Row) → Sides p → p.next < p.until → r.position ≡ p.next → r.copy ≡ p.copy → Sides (put_row p r)
put_sides p r h some_open at class = record {
  all = λ x.
      let was = h.all x in
      let both = rows_both x p.puts (r ∷ []) in
      let step = grown x p.next (p.next + 1) p.until (omega arith) (omega arith) in
      let here : between r.position (r.position + 1) x ≡ between p.next (p.next + 1) x = ap (λ k. between k (k + 1) x) at in
      omega arith;
  copies = λ x.
      let was = h.copies x in
      let both = copy_rows_both x p.puts (r ∷ []) in
      let step : (if p.copy then between p.next (p.next + 1) x else 0) + (if p.copy then between (p.next + 1) p.until x else 0)
      ≡ (if p.copy then between p.next p.until x else 0) = in_class p.copy x in
      let here : (if r.copy then between r.position (r.position + 1) x else 0) ≡ (if p.copy then between p.next (p.next + 1) x else 0) =
      ap (λ b. if b then between r.position (r.position + 1) x else 0) class ∙ ap (λ k. if p.copy then between k (k + 1) x else 0) at in
      omega arith;
}
  where
    in_class : (b : Bool) (x : ℕ) → (if b then between p.next (p.next + 1) x else 0) + (if b then between (p.next + 1) p.until x else 0)
        ≡ (if b then between p.next p.until x else 0)
    in_class true x = grown x p.next (p.next + 1) p.until (omega arith) (omega arith)
    in_class false x = refl

module _ {S : Type 0} (size first : ℕ) (Free Blank : S → Type 0) (Carries : S → Row → Type 0) (Fits : Row → Type 0) where
  -- no other seat has the position open that this one fills
  not_theirs : (words : List ℕ) (took : List Row) (claimed taken away : ℕ) (views : List View) (by j : ℕ) (v u : View) (x : ℕ)
      → AllViews (Entered size first words took taken away) views → get_elem? views by ≡ some v → get_elem? views j ≡ some u → j ≢ by
      → ((x : ℕ) → total (claims_at x) views ≡ between first claimed x) → first ≤ x → x < claimed → HasOpen x v.pass → HasOpen x u.pass → ⊥
  not_theirs words took claimed taken away views by j v u x each there at differ tiles low high mine its =
      let two : covers x u.pass.claims + covers x v.pass.claims ≤ total (claims_at x) views = sum_two (claims_at x) views j by u v differ at there in
      let all = tiles x in
      let one = inside x first claimed low high in
      let my_sides = (each by v there).sides.all x in
      let its_sides = (each j u at).sides.all x in
      let my_open = inside x v.pass.next v.pass.until mine.0 mine.1 in
      let its_open = inside x u.pass.next u.pass.until its.0 its.1 in
      omega arith

  -- a pass has put an entry in the slot of its next position, and stores its turn word
  pub stock_filled : (words : List ℕ) (homes : List (Option S)) (views : List View) (by : ℕ) (v w : View) (took : List Row) (claimed taken freed away : ℕ)
      (c : S) (r : Row)
      → Stock size first Free Blank Carries Fits words homes views took claimed taken freed away → get_elem? views by ≡ some v
      → ((x : ℕ) → total (claims_at x) views ≡ between first claimed x)
      → first ≤ freed → freed ≤ taken → claimed ≤ freed + size
      → v.pass.next < v.pass.until → turn_at size v.pass.next < length words → slot size v.pass.next < length homes
      → Carries c r → r.position ≡ v.pass.next → r.copy ≡ v.pass.copy → Fits r
      → w.pass ≡ put_row v.pass r → w.intake ≡ v.intake
      → Stock size first Free Blank Carries Fits (set words (turn_at size v.pass.next) (v.pass.next - first + 1)) (set homes (slot size v.pass.next) (some c))
      (set views by w) took claimed taken freed away
  stock_filled words homes views by v w took claimed taken freed away c r h there tiles low order room some_open long wide carries at class fits puts
      same_desk =
      let p = v.pass.next in
      let n = p - first + 1 in
      let words' = set words (turn_at size p) n in
      let views' = set views by w in
      let mine = h.entered by v there in
      let below = open_claimed size first words took claimed taken away views by v p mine there tiles (omega arith, some_open) in
      let after = (mine.ahead p (omega arith, some_open)).0 in
      let turn = λ (q : ℕ) (le : freed ≤ q) (lt : q < freed + size) (differ : q ≢ p).
      other_turn size words p q n (apart size freed p q (omega arith) (omega arith) le lt differ) in
      let is_put = λ (s : Row) (is : IsPut views s). some_changed (λ u. HasPut s u.pass) views by v w there
      (λ (had : HasPut s v.pass). (had.0, ap (λ part. get_elem? part.puts had.0) puts ∙ at_longer v.pass.puts (r ∷ []) had.0 s had.1)) is in
      let new_put : IsPut views' r = some_here (λ u. HasPut r u.pass) views by v w there
      (length v.pass.puts, ap (λ part. get_elem? part.puts (length v.pass.puts)) puts ∙ at_last v.pass.puts r (length v.pass.puts) refl) in
      let next_is : w.pass.next ≡ p + 1 = ap (λ part. part.next) puts in
      let until_is : w.pass.until ≡ v.pass.until = ap (λ part. part.until) puts in
      record {
        entered = each_changed (Entered size first words' took taken away) views by w
            (λ j u differ its. let e = h.entered j u its in record {
              sides = e.sides;
              ahead = λ x has.
                  let was = e.ahead x has in
                  let lt = open_claimed size first words took claimed taken away views j u x e its tiles has in
                  let other = λ (same : x ≡ p). not_theirs words took claimed taken away views by j v u p h.entered there its differ tiles (omega arith) below
                  (omega arith, some_open) (subst (λ k. HasOpen k u.pass) same has) in
                  let now = turn x (omega (arith, was.0)) (omega arith) other in
                  (was.0, omega (arith, was.1));
              desk = e.desk;
            })
            (record {
              sides = subst Sides (sym puts) (put_sides v.pass r mine.sides some_open at class);
              ahead = λ x has.
                  let from : p < x = omega (arith, has.0) in
                  let to : x < v.pass.until = omega (arith, has.1) in
                  let had : HasOpen x v.pass = (omega arith, to) in
                  let was = mine.ahead x had in
                  let lt = open_claimed size first words took claimed taken away views by v x mine there tiles had in
                  let now = turn x (omega (arith, was.0)) (omega arith) (λ e. omega arith) in
                  (was.0, omega (arith, was.1));
              desk = subst (λ (d : Desk). IsTrue d.on → (d.took ≡ took) × (d.taken ≡ taken) × (away_number d.away ≡ away)) (sym same_desk) mine.desk;
            });
        cells = filled size first Free Blank (IsEntry size first Free Blank Carries Fits views) (IsEntry size first Free Blank Carries Fits views')
            (IsOpen views) (IsOpen views') words homes claimed taken freed away p c h.cells low order room after below long wide
            (r, carries, at, fits, new_put) (entry_grows size first Free Blank Carries Fits views views' is_put)
            (λ q differ is. some_changed (λ u. HasOpen q u.pass) views by v w there
            (λ (had : HasOpen q v.pass). let le = had.0 in let lt = had.1 in (omega arith, omega arith)) is);
        story = story_grows size first Free Blank Carries Fits views views' took is_put h.story;
        count = h.count;
      }
