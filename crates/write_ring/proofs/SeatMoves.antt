-- Each kind of step keeps what the ring keeps of its claims.
use Rattle.std.proofs.Common.{◌≡◌, ◌≢◌, ℕ, ◌+◌, ◌-◌, ◌<◌, ◌≤◌, List, [], ◌∷◌, set, Bool, true, false, true≢false, IsTrue, refl, sym, ap, ◌∙◌, arith, if◌then◌else◌}
use mathlib.Core.Option.{some}
use lib.ListN.{get_elem?}
use Rattle.pblk_model.proofs.Lists.{with_last}
use Rattle.pblk_model.specs.RingState.{between, covers, covers_copy, Numbers, IsGranted}
use Rattle.write_ring.specs.declared.view.LastFound.{LastFound}
use Rattle.write_ring.specs.declared.view.Key.{Key}
use Rattle.write_ring.specs.declared.view.View.{View}
use Rattle.write_ring.specs.Rule.{Each, Seats, one_if}
use Rattle.write_ring.specs.Steps.{LieBelow, claim_to, claimed_to, granted_to, new_pass, spent, with_found}
use Rattle.write_ring.proofs.Views.{sum_changed, sum_same, sum_one, sum_two, each_changed}
use Rattle.write_ring.proofs.ClaimLists.{covers_both, copies_both, grown, none_above, granted_more}

-- what each seat is counted by
abbrev pub has : ℕ → View → ℕ
has x v = covers x v.pass.claims

abbrev pub shares : View → ℕ
shares v = v.pass.shares

abbrev pub copier : View → ℕ
copier v = one_if v.pass.copier

abbrev pub on : View → ℕ
on v = one_if v.intake.on

pub never : {P : Type 0} → IsTrue false → P
never is = absurd (true≢false (sym is))

pub none_counted : (b : Bool) → one_if b ≡ 0 → b ≡ false
none_counted true none = absurd (omega arith)
none_counted false none = refl

pub idle : (key : Key) (c f g : ℕ) → Each c f g (new_pass key)
idle key c f g = record {
  bare = λ e. refl;
  no_copy = λ e x. refl;
  users = tt;
  saw_claimed = omega arith;
  saw_freed = omega arith;
  saw_granted = omega arith;
  intake = λ no. never no;
}

pub nobody : (c f g : ℕ) → Each c f g spent
nobody c f g = record {
  bare = λ e. refl;
  no_copy = λ e x. refl;
  users = tt;
  saw_claimed = omega arith;
  saw_freed = omega arith;
  saw_granted = omega arith;
  intake = λ no. never no;
}

higher : (c d f g : ℕ) (u : View) → c ≤ d → Each c f g u → Each d f g u
higher c d f g u le h =
    let saw = h.saw_claimed in
    record {
      bare = h.bare;
      no_copy = h.no_copy;
      users = h.users;
      saw_claimed = omega arith;
      saw_freed = h.saw_freed;
      saw_granted = h.saw_granted;
      intake = h.intake;
    }

granted_higher : (c f g h : ℕ) (u : View) → g ≤ h → u.intake.on ≡ false → Each c f g u → Each c f h u
granted_higher c f g h u le off e =
    let saw = e.saw_granted in
    record {
      bare = e.bare;
      no_copy = e.no_copy;
      users = granted_more g h u.pass.claims le e.users;
      saw_claimed = e.saw_claimed;
      saw_freed = e.saw_freed;
      saw_granted = omega arith;
      intake = λ yes. never (sym off ∙ yes);
    }

pub at_most : (a b n : ℕ) → a ≡ b → b ≤ n → a ≤ n
at_most a b n same le = omega arith

module _ (key : Key) where
  -- one seat found something else
  pub looked : (c f g : ℕ) (views : List View) (by : ℕ) (v : View) (n : LastFound) → Seats key c f g views → get_elem? views by ≡ some v → n.claimed ≤ c
      → n.freed ≤ f → n.granted ≤ g
      → Seats key c f g (set views by (with_found v n))
  looked c f g views by v n h there nc nf ng =
      let w = with_found v n in
      let mine = h.each by v there in
      record {
        tiles = λ x. sum_same (has x) views by v w there refl ∙ h.tiles x;
        shares = sum_same shares views by v w there refl ∙ h.shares;
        one_copier = at_most _ _ _ (sum_same copier views by v w there refl) h.one_copier;
        one_intake = at_most _ _ _ (sum_same on views by v w there refl) h.one_intake;
        each = each_changed (Each c f g) views by w (λ j u apart at. h.each j u at) (record {
          bare = mine.bare;
          no_copy = mine.no_copy;
          users = mine.users;
          saw_claimed = nc;
          saw_freed = nf;
          saw_granted = ng;
          intake = mine.intake;
        });
      }

  -- a claim lies below what is claimed
  pub own_below : (c f g : ℕ) (views : List View) (by : ℕ) (v : View) → Seats key c f g views → get_elem? views by ≡ some v → LieBelow c v.pass.claims
  own_below c f g views by v h there x above =
      let one = sum_one (has x) views by v there in
      let all = h.tiles x in
      let none = none_above x key.first c above in
      omega arith

  -- a seat claims
  pub claimed_more : (copy : Bool) (old new taken f g : ℕ) (views : List View) (by : ℕ) (v : View) → Seats key old f g views
      → Numbers key.first key.size key.reserve old taken f g → get_elem? views by ≡ some v → 0 < v.pass.shares → old < new
      → (copy ≡ false → new ≤ g) → (v.pass.copier ≡ false → copy ≡ false) → Seats key new f g (set views by (claimed_to v old new copy))
  claimed_more copy old new taken f g views by v h numbers there sharing rises user may =
      let w = claimed_to v old new copy in
      let c = claim_to old new copy in
      let mine = h.each by v there in
      let ends : old + (new - old) ≡ new = omega arith in
      let low = numbers.low in
      let order = numbers.order in
      let below = numbers.below in
      record {
        tiles = λ x.
            let changed = sum_changed (has x) views by v w there in
            let both : covers x w.pass.claims ≡ covers x v.pass.claims + (between old (old + (new - old)) x + 0) = covers_both x v.pass.claims (c ∷ []) in
            let same : between old (old + (new - old)) x ≡ between old new x = ap (λ k. between old k x) ends in
            let all = h.tiles x in
            let more = grown x key.first old new (omega arith) (omega arith) in
            omega arith;
        shares = sum_same shares views by v w there refl ∙ h.shares;
        one_copier = at_most _ _ _ (sum_same copier views by v w there refl) h.one_copier;
        one_intake = at_most _ _ _ (sum_same on views by v w there refl) h.one_intake;
        each = each_changed (Each new f g) views by w (λ j u apart at. higher old new f g u (omega arith) (h.each j u at)) (record {
          bare = λ none. absurd (omega arith);
          no_copy = λ none x.
              let its : ℕ = if copy then between old (old + (new - old)) x else 0 in
              let both : covers_copy x w.pass.claims ≡ covers_copy x v.pass.claims + (its + 0) = copies_both x v.pass.claims (c ∷ []) in
              let mine_none = mine.no_copy none x in
              let user_none : its ≡ 0 = ap (λ b. if b then between old (old + (new - old)) x else 0) (may none) in
              omega arith;
          users = with_last (IsGranted g) v.pass.claims c mine.users (λ is. let le = user is in omega arith);
          saw_claimed = let saw = mine.saw_claimed in omega arith;
          saw_freed = mine.saw_freed;
          saw_granted = mine.saw_granted;
          intake = mine.intake;
        });
      }

  -- no other seat is the intake
  pub alone : (c f g : ℕ) (views : List View) (by : ℕ) (v : View) → Seats key c f g views → get_elem? views by ≡ some v → IsTrue v.intake.on
      → (j : ℕ) (u : View) → j ≢ by → get_elem? views j ≡ some u → u.intake.on ≡ false
  alone c f g views by v h there is_on j u apart at =
      let two = sum_two on views j by u v apart at there in
      let one = h.one_intake in
      let mine : on v ≡ 1 = ap one_if is_on in
      none_counted u.intake.on (omega arith)

  -- the intake grants more
  pub granted_more_seats : (c f g to : ℕ) (views : List View) (by : ℕ) (v : View) → Seats key c f g views → get_elem? views by ≡ some v → IsTrue v.intake.on
      → g ≤ to → Seats key c f to (set views by (granted_to v to))
  granted_more_seats c f g to views by v h there is_on le =
      let w = granted_to v to in
      let mine = h.each by v there in
      let saw = mine.saw_granted in
      record {
        tiles = λ x. sum_same (has x) views by v w there refl ∙ h.tiles x;
        shares = sum_same shares views by v w there refl ∙ h.shares;
        one_copier = at_most _ _ _ (sum_same copier views by v w there refl) h.one_copier;
        one_intake = at_most _ _ _ (sum_same on views by v w there refl) h.one_intake;
        each = each_changed (Each c f to) views by w
            (λ j u apart at. granted_higher c f g to u le (alone c f g views by v h there is_on j u apart at) (h.each j u at))
            (record {
              bare = mine.bare;
              no_copy = mine.no_copy;
              users = granted_more g to v.pass.claims le mine.users;
              saw_claimed = mine.saw_claimed;
              saw_freed = mine.saw_freed;
              saw_granted = omega arith;
              intake = λ yes. ((mine.intake yes).0, refl);
            });
      }

  -- one seat's view changes, but for its claims, its shares and what it is
  pub seats_changed : (c f g later : ℕ) (views : List View) (by : ℕ) (v w : View) → Seats key c f g views → get_elem? views by ≡ some v
      → w.pass.claims ≡ v.pass.claims → w.pass.shares ≡ v.pass.shares → w.pass.copier ≡ v.pass.copier → w.intake.on ≡ v.intake.on
      → ((j : ℕ) (u : View) → j ≢ by → get_elem? views j ≡ some u → Each c later g u) → Each c later g w → Seats key c later g (set views by w)
  seats_changed c f g later views by v w h there same_claims same_shares same_copier same_on others mine = record {
    tiles = λ x. sum_same (has x) views by v w there (ap (covers x) same_claims) ∙ h.tiles x;
    shares = sum_same shares views by v w there same_shares ∙ h.shares;
    one_copier = at_most _ _ _ (sum_same copier views by v w there (ap one_if same_copier)) h.one_copier;
    one_intake = at_most _ _ _ (sum_same on views by v w there (ap one_if same_on)) h.one_intake;
    each = each_changed (Each c later g) views by w others mine;
  }
