-- An entry that a user put lies below what is granted.
use Rattle.std.proofs.Common.{◌≡◌, ◌≢◌, ℕ, ◌+◌, ◌<◌, ◌≤◌, List, [], ◌∷◌, Bool, true, false, refl, sym, ap, subst, ◌∙◌, arith}
use Rattle.std.proofs.Common.{if◌then◌else◌, zero, suc}
use Rattle.std.specs.List.{AllByRecursion}
use mathlib.Core.Option.{some, some-ne-none, some-injective}
use mathlib.Core.Logic.{dite}
use native.Mathlib.Decide.{dec_le, ℕ_discrete}
use lib.ListN.{get_elem?}
use Rattle.pblk_model.specs.declared.ring.Claim.{Claim}
use Rattle.pblk_model.specs.RingState.{between, covers, covers_copy, total, IsGranted}
use Rattle.write_ring.specs.declared.view.Key.{Key}
use Rattle.write_ring.specs.declared.view.Row.{Row}
use Rattle.write_ring.specs.declared.view.View.{View}
use Rattle.write_ring.specs.Rule.{AllViews, Seats}
use Rattle.write_ring.specs.Stock.{rows_at, copies_at, HasPut, IsPut, Entered}
use Rattle.write_ring.proofs.ClaimLists.{at_most_one, inside, none_above}
use Rattle.write_ring.proofs.SomeViews.{same_place}
use Rattle.write_ring.proofs.Views.{sum_one, sum_two}

-- claims have a position that none of those for copies has
pub user_below : (g x : ℕ) (cs : List Claim) → AllByRecursion (IsGranted g) cs → covers_copy x cs < covers x cs → x < g
user_below g x [] all more = absurd (omega arith)
user_below g x (c ∷ cs) all more = by_class (user_below g x cs all.1) c.copy refl
  where
    by_class : (covers_copy x cs < covers x cs → x < g) → (b : Bool) → c.copy ≡ b → x < g
    by_class later true is =
        let same : (if c.copy then between c.first (c.first + c.count) x else 0) ≡ between c.first (c.first + c.count) x =
        ap (λ b. if b then between c.first (c.first + c.count) x else 0) is in
        later (omega arith)
    by_class later false is =
        let same : (if c.copy then between c.first (c.first + c.count) x else 0) ≡ 0 = ap (λ b. if b then between c.first (c.first + c.count) x else 0) is in
        let end = all.0 is in
        dite (dec_le (c.first + c.count) x)
        (λ above. let none = none_above x c.first (c.first + c.count) above in later (omega arith))
        (λ below. omega arith)

-- a row that is for users is counted, and not among the copies
pub user_row : (rs : List Row) (i : ℕ) (r : Row) → get_elem? rs i ≡ some r → r.copy ≡ false → copies_at r.position rs < rows_at r.position rs
user_row [] i r there user = absurd (some-ne-none r (sym there))
user_row (s ∷ rs) zero r there user =
    let same = some-injective s r there in
    let here : between s.position (s.position + 1) r.position ≡ 1 =
    ap (λ k. between k (k + 1) r.position) (ap (λ k. k.position) same) ∙ inside r.position r.position (r.position + 1) (omega arith) (omega arith) in
    let none : (if s.copy then between s.position (s.position + 1) r.position else 0) ≡ 0 =
    ap (λ b. if b then between s.position (s.position + 1) r.position else 0) (ap (λ k. k.copy) same ∙ user) in
    let later = copies_few rs r.position in
    omega arith
  where
    copies_few : (rs : List Row) (x : ℕ) → copies_at x rs ≤ rows_at x rs
    copies_few [] x = omega arith
    copies_few (s ∷ rs) x = let later = copies_few rs x in let first = few s.copy s x in omega arith
      where
        few : (b : Bool) (s : Row) (x : ℕ) → (if b then between s.position (s.position + 1) x else 0) ≤ between s.position (s.position + 1) x
        few true s x = omega arith
        few false s x = omega arith
user_row (s ∷ rs) (suc i) r there user =
    let later = user_row rs i r there user in
    let first = few s.copy in
    omega arith
  where
    few : (b : Bool) → (if b then between s.position (s.position + 1) r.position else 0) ≤ between s.position (s.position + 1) r.position
    few true = omega arith
    few false = omega arith

-- what a user put lies below what is granted
pub user_granted : (key : Key) (words : List ℕ) (took : List Row) (c f g taken away : ℕ) (views : List View) (r : Row)
    → Seats key c f g views → AllViews (Entered key.size key.first words took taken away) views → IsPut views r → r.copy ≡ false → r.position < g
user_granted key words took c f g taken away views r h each put user =
    let u = put.1 in
    let x = r.position in
    let sides = (each put.0 u put.2).sides in
    let all = sides.all x in
    let copies = sides.copies x in
    let row = user_row u.pass.puts put.3.0 r put.3.1 user in
    let open_few : (if u.pass.copy then between u.pass.next u.pass.until x else 0) ≤ between u.pass.next u.pass.until x =
    few u.pass.copy u.pass.next u.pass.until x in
    user_below g x u.pass.claims (h.each put.0 u put.2).users (omega arith)
  where
    few : (b : Bool) (low high x : ℕ) → (if b then between low high x else 0) ≤ between low high x
    few true low high x = omega arith
    few false low high x = omega arith

-- a copy is counted
pub copy_counted : (rs : List Row) (i : ℕ) (r : Row) → get_elem? rs i ≡ some r → r.copy ≡ true → 1 ≤ copies_at r.position rs
copy_counted [] i r there copy = absurd (some-ne-none r (sym there))
copy_counted (s ∷ rs) zero r there copy =
    let same = some-injective s r there in
    let one : between s.position (s.position + 1) r.position ≡ 1 =
    ap (λ k. between k (k + 1) r.position) (ap (λ k. k.position) same) ∙ inside r.position r.position (r.position + 1) (omega arith) (omega arith) in
    let here : (if s.copy then between s.position (s.position + 1) r.position else 0) ≡ between s.position (s.position + 1) r.position =
    ap (λ b. if b then between s.position (s.position + 1) r.position else 0) (ap (λ k. k.copy) same ∙ copy) in
    omega arith
copy_counted (s ∷ rs) (suc i) r there copy = let later = copy_counted rs i r there copy in omega arith

-- the copies that have a position are among the claims that have it
pub copies_among : (x : ℕ) (cs : List Claim) → covers_copy x cs ≤ covers x cs
copies_among x [] = omega arith
copies_among x (c ∷ cs) = let later = copies_among x cs in let first = few c.copy in omega arith
  where
    few : (b : Bool) → (if b then between c.first (c.first + c.count) x else 0) ≤ between c.first (c.first + c.count) x
    few true = omega arith
    few false = omega arith

-- no copy that a seat put has the position of what a user put
pub user_apart : (key : Key) (words : List ℕ) (took : List Row) (c f g taken away : ℕ) (views : List View) (by : ℕ) (v : View) (r : Row)
    → Seats key c f g views → AllViews (Entered key.size key.first words took taken away) views → get_elem? views by ≡ some v → IsPut views r
    → r.copy ≡ false → (s : Row) → HasPut s v.pass → s.copy ≡ true → s.position ≢ r.position
user_apart key words took c f g taken away views by v r h each there put user s other copy same = absurd (omega (arith, none, one))
  where
    u : View
    u = put.1

    x : ℕ
    x = r.position

    tiles : total (λ w. covers x w.pass.claims) views ≤ 1
    tiles = let all = h.tiles x in let one = at_most_one x key.first c in omega arith

    row : copies_at x u.pass.puts < rows_at x u.pass.puts
    row = user_row u.pass.puts put.3.0 r put.3.1 user

    mine : covers_copy x u.pass.claims ≡ 0
    mine =
        let sides = (each put.0 u put.2).sides in
        let all = sides.all x in
        let copies = sides.copies x in
        let more = row in
        let one = sum_one (λ w. covers x w.pass.claims) views put.0 u put.2 in
        let open_few = few u.pass.copy u.pass.next u.pass.until in
        omega (arith, tiles)
      where
        few : (b : Bool) (low high : ℕ) → (if b then between low high x else 0) ≤ between low high x
        few true low high = omega arith
        few false low high = omega arith

    none : covers_copy x v.pass.claims ≡ 0
    none = dite (ℕ_discrete put.0 by)
        (λ place. ap (λ (w : View). covers_copy x w.pass.claims) (sym (same_place views put.0 by u v place put.2 there)) ∙ mine)
        (λ apart.
        let two = sum_two (λ w. covers x w.pass.claims) views put.0 by u v apart put.2 there in
        let less = copies_among x v.pass.claims in
        let all = (each put.0 u put.2).sides.all x in
        omega (arith, tiles, row))

    one : 1 ≤ covers_copy x v.pass.claims
    one =
        let counted : 1 ≤ copies_at s.position v.pass.puts = copy_counted v.pass.puts other.0 s other.1 copy in
        let here : 1 ≤ copies_at x v.pass.puts = subst (λ k. 1 ≤ copies_at k v.pass.puts) same counted in
        let copies = (each by v there).sides.copies x in
        omega (arith, here)
