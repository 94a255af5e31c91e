-- What a ring keeps is a ring state.
use Rattle.std.proofs.Common.{◌≡◌, ℕ, zero, suc, ◌+◌, ◌<◌, ◌≤◌, List, [], ◌∷◌, map, refl, sym, ap, ◌∙◌, subst, arith}
use Rattle.std.proofs.lemmas.Bool.Decides.{nat_tests}
use Rattle.std.specs.Prelude.{slice_index}
use Rattle.std.specs.List.{AllByRecursion}
use mathlib.Core.Option.{some, some-ne-none, some-injective}
use mathlib.Core.Logic.{dite}
use native.Mathlib.Decide.{ℕ_discrete, dec_le}
use lib.ListN.{get_elem?}
use Rattle.atomic_table.specs.Table.{State}
use Rattle.pblk_model.specs.RingState.{between, covers, times, total, PassView, IsPassState, IsRingState}
use Rattle.write_ring.specs.declared.view.Key.{Key}
use Rattle.write_ring.specs.declared.view.Row.{Row}
use Rattle.write_ring.specs.declared.view.View.{View}
use Rattle.write_ring.specs.Cells.{turn_at}
use Rattle.write_ring.specs.Rule.{AllViews, claimed_at, freed_at, granted_at}
use Rattle.write_ring.specs.Stock.{rows_at}
use Rattle.write_ring.specs.Kept.{Kept}
use Rattle.write_ring.specs.State.{pass_of, ring_of, IsInRingState}
use Rattle.write_ring.proofs.Views.{sum_one}
use Rattle.write_ring.proofs.ClaimLists.{inside, none_above}
use Rattle.write_ring.proofs.Ends.{put_counted}

times_rows : (x : ℕ) (rs : List Row) → times x (map (λ (r : Row). r.position) rs) ≡ rows_at x rs
times_rows x [] = refl
times_rows x (r ∷ rs) = let later = times_rows x rs in omega arith

total_passes : (f : PassView → ℕ) (views : List View) → total f (map pass_of views) ≡ total (λ v. f (pass_of v)) views
total_passes f [] = refl
total_passes f (v ∷ views) = let later = total_passes f views in omega arith

all_passes : (P : PassView → Type 0) (views : List View) → AllViews (λ v. P (pass_of v)) views → AllByRecursion P (map pass_of views)
all_passes P [] all = tt
all_passes P (v ∷ views) all = (all 0 v refl, all_passes P views (λ j u there. all (suc j) u there))

module _ (f g : View → ℕ) where
  total_same : (views : List View) → AllViews (λ v. f v ≡ g v) views → total f views ≡ total g views
  total_same [] same = refl
  total_same (v ∷ views) same =
      let first = same 0 v refl in
      let later = total_same views (λ j u there. same (suc j) u there) in
      omega arith

  total_most : (views : List View) → AllViews (λ v. f v ≤ g v) views → total f views ≤ total g views
  total_most [] most = omega arith
  total_most (v ∷ views) most =
      let first = most 0 v refl in
      let later = total_most views (λ j u there. most (suc j) u there) in
      omega arith

  -- one of them is less
  total_less : (views : List View) (by : ℕ) (v : View) → get_elem? views by ≡ some v → AllViews (λ u. f u ≤ g u) views → f v < g v
      → total f views < total g views
  total_less [] by v there most less = absurd (some-ne-none v (sym there))
  total_less (u ∷ views) zero v there most less =
      let same = some-injective u v there in
      let first : f u < g u = subst (λ w. f w < g w) (sym same) less in
      let later = total_most views (λ j w at. most (suc j) w at) in
      omega arith
  total_less (u ∷ views) (suc by) v there most less =
      let first = most 0 u refl in
      let later = total_less views by v there (λ j w at. most (suc j) w at) less in
      omega arith

none_below : (x low high : ℕ) → x < low → between low high x ≡ 0
none_below x low high below = grind (arith, nat_tests)

-- a position that isn't between two numbers
outside : (x low high : ℕ) → (low ≤ x → x < high → ⊥) → between low high x ≡ 0
outside x low high not = dite (dec_le low x)
    (λ le. dite (dec_le high x) (λ above. none_above x low high above) (λ below. absurd (not le (omega arith))))
    (λ below. none_below x low high (omega arith))

module _ {S : Type 0} (key : Key) (Free Blank : S → Type 0) (Carries : S → Row → Type 0) (Fits : Row → Type 0)
    (s : State S View) (h : Kept key Free Blank Carries Fits s) where
  abbrev filled : ℕ → View → ℕ
  filled x v = rows_at x v.pass.puts

  abbrev claimed : ℕ → View → ℕ
  claimed x v = covers x v.pass.claims

  all_claimed : (x : ℕ) → total (claimed x) s.views ≡ between key.first h.claimed x
  all_claimed x = h.seats.tiles x

  few_filled : (x : ℕ) → AllViews (λ v. filled x v ≤ claimed x v) s.views
  few_filled x j u there = let sides = (h.stock.entered j u there).sides.all x in omega arith

  -- what was taken was filled
  taken_filled : (x : ℕ) → key.first ≤ x → x < h.taken → total (filled x) s.views ≡ 1
  taken_filled x le lt =
      let below = h.numbers.below in
      total_same (filled x) (claimed x) s.views same ∙ (all_claimed x ∙ inside x key.first h.claimed le (omega arith))
    where
      same : AllViews (λ v. filled x v ≡ claimed x v) s.views
      same j u there =
          let mine = h.stock.entered j u there in
          let sides = mine.sides.all x in
          let none = outside x u.pass.next u.pass.until (λ low high. let ahead = mine.ahead x (low, high) in let past = ahead.0 in omega arith) in
          omega arith

  -- what a turn word names was filled
  named_filled : (x : ℕ) → h.taken ≤ x → x < h.freed + key.size → slice_index s.words (turn_at key.size x) + key.first ≡ x + 1 → total (filled x) s.views ≡ 1
  named_filled x le lt named =
      let below = h.stock.cells.named_below x le lt named in
      let cell = h.stock.cells.named_cell x le lt named in
      let r = cell.2.0 in
      let at_x : r.position ≡ x = cell.2.2 in
      let put = cell.2.4 in
      let u = put.1 in
      let counted : 1 ≤ rows_at r.position u.pass.puts = put_counted u.pass.puts put.3.0 r put.3.1 in
      let here : 1 ≤ filled x u = subst (λ k. 1 ≤ rows_at k u.pass.puts) at_x counted in
      let one = sum_one (filled x) s.views put.0 u put.2 in
      let most = total_most (filled x) (claimed x) s.views (few_filled x) in
      let all = all_claimed x in
      let low = h.numbers.low in
      let order = h.numbers.order in
      let once = inside x key.first h.claimed (omega arith) below in
      omega arith

  -- what was filled, and has a slot, is named
  filled_named : (x : ℕ) → h.freed ≤ x → x < h.freed + key.size → total (filled x) s.views ≡ 1 → slice_index s.words (turn_at key.size x) + key.first ≡ x + 1
  filled_named x le lt is = dite (dec_le h.taken x)
      (λ past. dite (dec_le h.claimed x)
      (λ above.
      let most = total_most (filled x) (claimed x) s.views (few_filled x) in
      let all = all_claimed x in
      let none = none_above x key.first h.claimed above in
      absurd (omega arith))
      (λ below. dite (ℕ_discrete (slice_index s.words (turn_at key.size x) + key.first) (x + 1))
      (λ named. named)
      (λ not.
      let hole = h.stock.cells.open_cell x past (omega arith) not in
      let u = hole.1 in
      let sides = (h.stock.entered hole.0 u hole.2).sides.all x in
      let has = inside x u.pass.next u.pass.until hole.3.0 hole.3.1 in
      let less = total_less (filled x) (claimed x) s.views hole.0 u hole.2 (few_filled x) (omega arith) in
      let all = all_claimed x in
      let low = h.numbers.low in
      let once = inside x key.first h.claimed (omega arith) (omega arith) in
      absurd (omega arith))))
      (λ before. h.stock.cells.taken_named x le (omega arith))

  pub in_ring_state : IsInRingState key s
  in_ring_state = (h.taken, state, λ j u there on. (let desk = (h.stock.entered j u there).desk on in desk.1))
    where
      sums : (x : ℕ) → total (λ (p : PassView). times x p.filled) (map pass_of s.views) ≡ total (filled x) s.views
      sums x = total_passes (λ p. times x p.filled) s.views
          ∙ total_same (λ v. times x (pass_of v).filled) (filled x) s.views (λ j u there. times_rows x u.pass.puts)

      each : AllViews (λ v. IsPassState h.granted (pass_of v)) s.views
      each j u there = record {
        own = λ x. let same = times_rows x u.pass.puts in let few = few_filled x j u there in omega arith;
        sharing = λ none x.
            let same = times_rows x u.pass.puts in
            let few = few_filled x j u there in
            let bare : covers x u.pass.claims ≡ 0 = ap (covers x) ((h.seats.each j u there).bare none) in
            omega arith;
        users = (h.seats.each j u there).users;
      }

      -- the words are the numbers
      c_is : slice_index s.words claimed_at ≡ h.claimed
      c_is = h.words.at_claimed

      f_is : slice_index s.words freed_at ≡ h.freed
      f_is = h.words.at_freed

      g_is : slice_index s.words granted_at ≡ h.granted
      g_is = h.words.at_granted

      state : IsRingState (ring_of key s h.taken)
      state = record {
        numbers = record {
          low = omega (arith, f_is, h.numbers.low);
          order = omega (arith, f_is, h.numbers.order);
          below = omega (arith, c_is, h.numbers.below);
          room = omega (arith, c_is, f_is, h.numbers.room);
          most = omega (arith, c_is, h.numbers.most);
          grants = omega (arith, g_is, f_is, h.numbers.grants);
          most_granted = omega (arith, g_is, h.numbers.most_granted);
        };
        claimed_once = λ x. total_passes (λ p. covers x p.claims) s.views ∙ (all_claimed x ∙ ap (λ c. between key.first c x) (sym c_is));
        passes = all_passes (IsPassState (slice_index s.words granted_at)) s.views
            (subst (λ g. AllViews (λ v. IsPassState g (pass_of v)) s.views) (sym g_is) each);
        shares = total_passes (λ p. p.shares) s.views ∙ h.seats.shares;
        taken_filled = λ x le lt. sums x ∙ taken_filled x le lt;
        named = λ x le lt. (
          (λ named. sums x ∙ dite (dec_le h.taken x)
              (λ past. named_filled x past (omega (arith, f_is)) named)
              (λ before. taken_filled x (omega (arith, f_is, h.numbers.low)) (omega arith))),
          (λ is. filled_named x (omega (arith, f_is)) (omega (arith, f_is)) (sym (sums x) ∙ is)),
        );
      }
