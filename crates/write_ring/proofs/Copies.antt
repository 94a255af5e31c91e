-- What the seat that copies is told of the copies, and of what is granted.
use Rattle.std.proofs.Common.{◌≡◌, ◌≢◌, ℕ, ◌<◌, ◌≤◌, List, true, IsTrue, ap, ◌∙◌, subst, arith}
use mathlib.Core.Option.{some}
use mathlib.Core.Logic.{dite}
use native.Mathlib.Decide.{ℕ_discrete}
use lib.ListN.{get_elem?}
use Rattle.pblk_model.specs.RingState.{covers_copy}
use Rattle.write_ring.specs.declared.view.Key.{Key}
use Rattle.write_ring.specs.declared.view.Row.{Row}
use Rattle.write_ring.specs.declared.view.View.{View}
use Rattle.write_ring.specs.Rule.{AllViews, Seats, one_if}
use Rattle.write_ring.specs.Stock.{Entered, HasPut, IsPut}
use Rattle.write_ring.proofs.Views.{sum_two, sum_some}
use Rattle.write_ring.proofs.ClaimLists.{inside}
use Rattle.write_ring.proofs.SeatMoves.{copier, has, none_counted}
use Rattle.write_ring.proofs.SomeViews.{same_place}
use Rattle.write_ring.proofs.Users.{copy_counted, user_below}

module _ (key : Key) (c f g : ℕ) (views : List View) (by : ℕ) (v : View) (h : Seats key c f g views) (there : get_elem? views by ≡ some v)
    (copies : IsTrue v.pass.copier) where
  -- no other seat has copies
  only_copier : (j : ℕ) (u : View) → j ≢ by → get_elem? views j ≡ some u → (x : ℕ) → covers_copy x u.pass.claims ≡ 0
  only_copier j u apart at =
      let two = sum_two copier views j by u v apart at there in
      let one = h.one_copier in
      let mine : copier v ≡ 1 = ap one_if copies in
      (h.each j u at).no_copy (none_counted u.pass.copier (omega arith))

  -- a claimed position is granted to users, or is one of the seat's copies
  pub granted_or_copied : (x : ℕ) → key.first ≤ x → x < c → covers_copy x v.pass.claims ≡ 0 → x < g
  granted_or_copied x low high none =
      let all = h.tiles x in
      let one = inside x key.first c low high in
      let its = sum_some (has x) views (omega arith) in
      let u = its.1 in
      let no_copy : covers_copy x u.pass.claims ≡ 0 = dite (ℕ_discrete its.0 by)
      (λ same. ap (λ (k : View). covers_copy x k.pass.claims) (same_place views its.0 by u v same its.2 there) ∙ none)
      (λ apart. only_copier its.0 u apart its.2 x) in
      user_below g x u.pass.claims (h.each its.0 u its.2).users (omega (arith, its.3))

  -- a copy that was put is one of the seat's
  pub own_copy : (size first : ℕ) (words : List ℕ) (took : List Row) (taken away : ℕ) (r : Row)
      → AllViews (Entered size first words took taken away) views → IsPut views r → r.copy ≡ true → HasPut r v.pass
  own_copy size first words took taken away r each put copy = dite (ℕ_discrete put.0 by)
      (λ same. subst (λ u. HasPut r u.pass) (same_place views put.0 by put.1 v same put.2 there) put.3)
      (λ apart.
      let sides = (each put.0 put.1 put.2).sides.copies r.position in
      let counted = copy_counted put.1.pass.puts put.3.0 r put.3.1 copy in
      let no_copy = only_copier put.0 put.1 apart put.2 r.position in
      absurd (omega arith))
