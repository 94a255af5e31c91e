-- Each kind of step keeps the rule, and tells what it says.
use Rattle.std.proofs.Common.{◌≡◌, ◌≢◌, ℕ, ◌+◌, ◌^◌, ◌<◌, ◌≤◌, List, set, IsTrue, refl, sym, ap, ◌∙◌, subst, arith}
use Rattle.std.specs.Prelude.{slice_index}
use mathlib.Core.Option.{some}
use lib.ListN.{get_elem?}
use Rattle.atomic_table.specs.Table.{State, Allows, keeps}
use Rattle.pblk_model.specs.RingState.{between, covers}
use Rattle.write_ring.specs.declared.view.LastFound.{LastFound}
use Rattle.write_ring.specs.declared.view.Key.{Key}
use Rattle.write_ring.specs.declared.view.Row.{Row}
use Rattle.write_ring.specs.declared.view.View.{View}
use Rattle.write_ring.specs.Rule.{AllViews, away_number, claimed_at, freed_at, granted_at}
use Rattle.write_ring.specs.Stock.{Stock, HasOpen, HasPut, Sides}
use Rattle.write_ring.specs.Kept.{Kept, HasKey}
use Rattle.write_ring.specs.Steps.{granted_to, saw_claimed, saw_freed, saw_granted, with_found}
use Rattle.write_ring.specs.Tells.{SeesClaimed}
use Rattle.write_ring.proofs.Views.{each_changed, sum_alone, sum_two}
use Rattle.write_ring.proofs.Words.{same_words, granted_word, turns_stay}
use Rattle.write_ring.proofs.SeatMoves.{has, shares, looked, own_below, granted_more_seats}
use Rattle.write_ring.proofs.Copies.{granted_or_copied}
use Rattle.write_ring.proofs.Stocks.{stock_words, stock_changed}

module _ {S : Type 0} (key : Key) (FreeOf : Key → S → Type 0) (Blank : S → Type 0) (CarriesOf : Key → S → Row → Type 0) (FitsOf : Key → Row → Type 0) where
  abbrev pub Rule : State S View → Type 0
  Rule = Kept key (FreeOf key) Blank (CarriesOf key) (FitsOf key)

  abbrev pub Goods : List ℕ → State S View → List View → List Row → ℕ → ℕ → ℕ → ℕ → Type 0
  Goods words s views took claimed taken freed away =
      Stock key.size key.first (FreeOf key) Blank (CarriesOf key) (FitsOf key) words s.homes views took claimed taken freed away

  pub keys_stay : (views : List View) (by : ℕ) (v w : View) → AllViews (HasKey key) views → get_elem? views by ≡ some v → w.key ≡ v.key
      → w.pass.shares ≡ v.pass.shares → w.intake.on ≡ v.intake.on → AllViews (HasKey key) (set views by w)
  keys_stay views by v w h there same shares on =
      let mine = h by v there in
      each_changed (HasKey key) views by w (λ j u apart at. h j u at) (record {
        pass = λ some_shares. same ∙ mine.pass (subst (λ k. k ≢ 0) shares some_shares);
        desk = λ is_on. same ∙ mine.desk (sym on ∙ is_on);
      })

  -- the goods, where a seat's view changes in nothing that they read, and a word is stored that is no turn word
  pub goods_stay : (s : State S View) (by : ℕ) (v w : View) (i n : ℕ) (took : List Row) (claimed taken freed away : ℕ)
      → Goods s.words s s.views took claimed taken freed away → get_elem? s.views by ≡ some v → i < 48 → w.pass ≡ v.pass
      → w.intake.on ≡ v.intake.on → w.intake.took ≡ v.intake.took → w.intake.taken ≡ v.intake.taken → w.intake.away ≡ v.intake.away
      → Goods (set s.words i n) s (set s.views by w) took claimed taken freed away
  goods_stay s by v w i n took claimed taken freed away h there low same_pass same_on same_took same_taken same_away =
      let mine = h.entered by v there in
      stock_words key.size key.first (FreeOf key) Blank (CarriesOf key) (FitsOf key) s.words (set s.words i n) s.homes
      (set s.views by w) took claimed taken freed away
      (stock_changed key.size key.first (FreeOf key) Blank (CarriesOf key) (FitsOf key) s.words s.homes s.views by v w took claimed taken freed away h there
      (record {
        sides = subst Sides (sym same_pass) mine.sides;
        ahead = λ x has. mine.ahead x (subst (HasOpen x) same_pass has);
        desk = λ is_on. let own = mine.desk (sym same_on ∙ is_on) in (same_took ∙ own.0, same_taken ∙ own.1, ap away_number same_away ∙ own.2);
      })
      (λ r. subst (HasPut r) (sym same_pass)) (λ q. subst (HasOpen q) (sym same_pass)))
      (λ q. turns_stay key.size s.words i n q low)

  -- a load changes only what the seat found
  pub looks : (by : ℕ) (v : View) (held : List (ℕ × S)) (slots i : ℕ) (found : ℕ → LastFound) (Tells : ℕ → Type 0) → i < 48
      → ((s : State S View) (h : Rule s) → get_elem? s.views by ≡ some v
      → let n = slice_index s.words i in ((found n).claimed ≤ h.claimed) × ((found n).freed ≤ h.freed) × ((found n).granted ≤ h.granted) × Tells n)
      → Allows Rule slots by (v, held) i (λ n. n) (λ n m. (m ≡ (with_found v (found n), held)) × Tells n)
  looks by v held slots i found Tells low says s h long there small =
      let n = slice_index s.words i in
      let told = says s h there in
      let w = with_found v (found n) in (
        w,
        keeps,
        tt,
        record {
          claimed = h.claimed;
          taken = h.taken;
          freed = h.freed;
          granted = h.granted;
          away = h.away;
          took = h.took;
          words = same_words key.size s.words i h.claimed h.freed h.granted h.words;
          numbers = h.numbers;
          seats = looked key h.claimed h.freed h.granted s.views by v (found n) h.seats there told.0 told.1 told.2;
          stock = goods_stay s by v w i n h.took h.claimed h.taken h.freed h.away h.stock there low refl refl refl refl refl;
          keys = keys_stay s.views by v w h.keys there refl refl refl;
        },
        (refl, told.3),
      )

  -- a seat beside the one that has all shares has no claim
  pub no_others : (s : State S View) (h : Rule s) (by : ℕ) (v : View) → get_elem? s.views by ≡ some v → v.pass.shares ≡ 128
      → (j : ℕ) (u : View) → j ≢ by → get_elem? s.views j ≡ some u → (x : ℕ) → covers x u.pass.claims ≡ 0
  no_others s h by v there all j u apart at x =
      let two = sum_two shares s.views j by u v apart at there in
      let sum = h.seats.shares in
      ap (covers x) ((h.seats.each j u at).bare (omega arith))

  -- the claims of the seat that has all shares are all claims
  pub all_claims : (s : State S View) (h : Rule s) (by : ℕ) (v : View) → get_elem? s.views by ≡ some v → v.pass.shares ≡ 128
      → (x : ℕ) → covers x v.pass.claims ≡ between key.first h.claimed x
  all_claims s h by v there all x =
      sym (sum_alone (has x) s.views by v there (λ j u apart at. no_others s h by v there all j u apart at x)) ∙ h.seats.tiles x

  sees_claimed : (s : State S View) (h : Rule s) (by : ℕ) (v : View) → get_elem? s.views by ≡ some v → 0 < v.pass.shares → (n : ℕ) → n ≡ h.claimed
      → SeesClaimed v n
  sees_claimed s h by v there sharing n is =
      let mine = h.seats.each by v there in
      let known = ap (λ (k : Key). k.first) ((h.keys by v there).pass (λ without. omega arith)) in
      let saw = mine.saw_claimed in
      let low = h.numbers.low in
      let order = h.numbers.order in
      let taken = h.numbers.below in
      record {
        rises = omega arith;
        low = omega arith;
        most = omega (arith, h.numbers.most);
        own = λ x above. own_below key h.claimed h.freed h.granted s.views by v h.seats there x (omega arith);
        all = λ all x. all_claims s h by v there all x ∙ ap (λ k. between k h.claimed x) (sym known) ∙ ap (λ k. between v.key.first k x) (sym is);
        taken = λ is_on. let own = (h.stock.entered by v there).desk is_on in omega (arith, own.1);
        reached = λ is_on copies x from below none.
            let own = mine.intake is_on in
            let lower = granted_or_copied key h.claimed h.freed h.granted s.views by v h.seats there copies x (omega arith) (omega arith) none in
            omega (arith, own.1);
      }

  pub looks_claimed : (by : ℕ) (v : View) (held : List (ℕ × S)) (slots : ℕ) → 0 < v.pass.shares
      → Allows Rule slots by (v, held) claimed_at (λ n. n) (λ n m. (m ≡ (saw_claimed v n, held)) × SeesClaimed v n)
  looks_claimed by v held slots sharing = looks by v held slots 0 (λ n. (saw_claimed v n).found) (SeesClaimed v) (omega arith)
      (λ s h there.
      let mine = h.seats.each by v there in
      let is = h.words.at_claimed in
      (omega arith, mine.saw_freed, mine.saw_granted, sees_claimed s h by v there sharing (slice_index s.words claimed_at) is))

  pub looks_freed : (by : ℕ) (v : View) (held : List (ℕ × S)) (slots : ℕ) → IsTrue v.intake.on
      → Allows Rule slots by (v, held) freed_at (λ n. n) (λ n m. (m ≡ (saw_freed v n, held)) × ((n ≤ 2 ^ 62) × (n ≡ v.intake.freed)))
  looks_freed by v held slots is_on = looks by v held slots 16 (λ n. (saw_freed v n).found) (λ n. (n ≤ 2 ^ 62) × (n ≡ v.intake.freed)) (omega arith)
      (λ s h there.
      let mine = h.seats.each by v there in
      let is = h.words.at_freed in
      let most = h.numbers.most in
      let order = h.numbers.order in
      let below = h.numbers.below in
      let own = mine.intake is_on in
      (mine.saw_claimed, omega arith, mine.saw_granted, (omega arith, omega (arith, own.0))))

  pub looks_granted : (by : ℕ) (v : View) (held : List (ℕ × S)) (slots : ℕ)
      → Allows Rule slots by (v, held) granted_at (λ n. n) (λ n m. (m ≡ (saw_granted v n, held)) × (n ≤ 2 ^ 62))
  looks_granted by v held slots = looks by v held slots 32 (λ n. (saw_granted v n).found) (λ n. n ≤ 2 ^ 62) (omega arith)
      (λ s h there.
      let mine = h.seats.each by v there in
      let is = h.words.at_granted in
      let most = h.numbers.most_granted in
      (mine.saw_claimed, mine.saw_freed, omega arith, omega arith))

  pub looks_own : (by : ℕ) (v : View) (held : List (ℕ × S)) (slots : ℕ) → IsTrue v.intake.on
      → Allows Rule slots by (v, held) granted_at (λ n. n) (λ n m. (m ≡ (saw_granted v n, held)) × (n ≡ v.intake.granted))
  looks_own by v held slots is_on = looks by v held slots 32 (λ n. (saw_granted v n).found) (λ n. n ≡ v.intake.granted) (omega arith)
      (λ s h there.
      let mine = h.seats.each by v there in
      let is = h.words.at_granted in
      let own = mine.intake is_on in
      (mine.saw_claimed, mine.saw_freed, omega arith, omega (arith, own.1)))

  pub grants : (by : ℕ) (v : View) (held : List (ℕ × S)) (slots to : ℕ) → IsTrue v.intake.on → v.intake.granted ≤ to
      → to + key.reserve ≤ v.intake.freed + key.size → to ≤ 2 ^ 62
      → Allows Rule slots by (v, held) granted_at (λ _. to) (λ _ m. m ≡ (granted_to v to, held))
  grants by v held slots to is_on rises room most s h long there small =
      let mine = h.seats.each by v there in
      let own = mine.intake is_on in
      let freed = own.0 in
      let granted = own.1 in
      let n = h.numbers in (
        granted_to v to,
        keeps,
        tt,
        record {
          claimed = h.claimed;
          taken = h.taken;
          freed = h.freed;
          granted = to;
          away = h.away;
          took = h.took;
          words = granted_word key.size s.words h.claimed h.freed h.granted to h.words;
          numbers = record { low = n.low; order = n.order; below = n.below; room = n.room; most = n.most; grants = omega arith; most_granted = most };
          seats = granted_more_seats key h.claimed h.freed h.granted to s.views by v h.seats there is_on (omega arith);
          stock = goods_stay s by v (granted_to v to) 32 to h.took h.claimed h.taken h.freed h.away h.stock there (omega arith) refl refl refl refl refl;
          keys = keys_stay s.views by v (granted_to v to) h.keys there refl refl refl;
        },
        refl,
      )
