-- Each kind of step on a slot keeps the rule, and tells what it says.
use Rattle.std.proofs.Common.{◌≡◌, ℕ, ◌+◌, ◌-◌, ◌%◌, ◌^◌, ◌<◌, ◌≤◌, eqb, List, [], ◌∷◌, ◌++◌, set, Bool, true, false, true≢false, IsTrue, None, refl, sym, ap, ◌∙◌, subst, arith}
use Rattle.std.proofs.Common.{if◌then◌else◌}
use Rattle.std.proofs.lemmas.List.{set-get_or}
use Rattle.std.proofs.Math.Nat.{mod-lt}
use Rattle.std.specs.Prelude.{slice_index}
use Rattle.std.specs.List.{AllByRecursion}
use mathlib.Core.Option.{some, none}
use mathlib.Core.Logic.{dite}
use native.Mathlib.Decide.{ℕ_discrete}
use prog.Atomic.{either}
use lib.ListN.{get_elem?}
use Rattle.atomic_table.specs.Table.{State, Act, Valid, Allows, keeps, takes, gives, stepped, carried_after, homes_after}
use Rattle.atomic_table.proofs.Lists.{exchanged}
use Rattle.pblk_model.specs.declared.ring.Claim.{Claim}
use Rattle.pblk_model.specs.RingState.{between, covers_copy, IsGranted, Numbers}
use Rattle.write_ring.specs.declared.view.Key.{Key}
use Rattle.write_ring.specs.declared.view.Part.{Part}
use Rattle.write_ring.specs.declared.view.Row.{Row}
use Rattle.write_ring.specs.declared.view.View.{View}
use Rattle.write_ring.specs.Cells.{IsNamed, slot, slots_with, turn_at}
use Rattle.write_ring.specs.Rule.{Each, Seats, away_number, claimed_at}
use Rattle.write_ring.specs.Stock.{Stock, IsOpen, IsEntry, Sides}
use Rattle.write_ring.specs.Steps.{Claims, add_claim, claim_to, claimed_to, met_claimed, put_next, took_row, saw_turn}
use Rattle.write_ring.specs.Tells.{Gains, Finds}
use Rattle.write_ring.proofs.ClaimLists.{covers_both, copies_both, empty}
use Rattle.write_ring.proofs.Words.{same_words, claimed_word, turn_word, turns_stay}
use Rattle.write_ring.proofs.SeatMoves.{never, looked, own_below, claimed_more, seats_changed, alone}
use Rattle.write_ring.proofs.Stocks.{open_claimed, stock_words, stock_changed, stock_claimed}
use Rattle.write_ring.proofs.Desks.{stock_filled}
use Rattle.write_ring.proofs.Takings.{stock_taken}
use Rattle.write_ring.proofs.Users.{user_apart, user_granted}
use Rattle.write_ring.proofs.Slots.{named_fits}
use Rattle.write_ring.proofs.Chain.{taking}
use Rattle.write_ring.proofs.Copies.{granted_or_copied, own_copy}
use Rattle.write_ring.proofs.Moves.{Rule, Goods, keys_stay, goods_stay}

-- a pass with nothing open claims
pub claim_sides : (p : Part) (c : Claim) → Sides p → p.next ≡ p.until → Sides (add_claim p c)
claim_sides p c h rest = record {
  all = λ x.
      let was = h.all x in
      let both = covers_both x p.claims (c ∷ []) in
      let nothing = none_open x in
      omega arith;
  copies = λ x.
      let was = h.copies x in
      let both = copies_both x p.claims (c ∷ []) in
      let nothing = none_copied p.copy x in
      omega arith;
}
  where
    none_open : (x : ℕ) → between p.next p.until x ≡ 0
    none_open x = ap (λ k. between p.next k x) (sym rest) ∙ empty x p.next

    none_copied : (b : Bool) (x : ℕ) → (if b then between p.next p.until x else 0) ≡ 0
    none_copied true x = none_open x
    none_copied false x = refl

module _ {S : Type 0} (key : Key) (FreeOf : Key → S → Type 0) (Blank : S → Type 0) (CarriesOf : Key → S → Row → Type 0) (FitsOf : Key → Row → Type 0) where
  claims : (copy : Bool) (by : ℕ) (v : View) (slots old new : ℕ) → slots ≡ key.size → 0 < v.pass.shares → v.pass.next ≡ v.pass.until
      → v.found.claimed ≡ old → old < new → new ≤ 2 ^ 62
      → ((c t f g : ℕ) → Numbers key.first key.size key.reserve c t f g → Each c f g v → (new ≤ f + key.size) × (copy ≡ false → new ≤ g))
      → (v.pass.copier ≡ false → copy ≡ false)
      → Allows (Rule key FreeOf Blank CarriesOf FitsOf) slots by (v, []) claimed_at (λ n. either (eqb n old) new n)
      (λ n m. Claims copy v old new n m.0 × Gains FreeOf v slots old new n m.1)
  claims copy by v slots old new all_slots sharing rest saw rises most room may s h long there small =
      let n = slice_index s.words 0 in
      let is : n ≡ h.claimed = h.words.at_claimed in
      let mine = h.seats.each by v there in
      let its = h.stock.entered by v there in
      let saw_now = mine.saw_claimed in
      exchanged n old new (λ (k : ℕ). (w : View) × (a : Act S) × Valid s.homes [] a
      × Rule key FreeOf Blank CarriesOf FitsOf (stepped s 0 k by [] w a) × (Claims copy v old new n w × Gains FreeOf v slots old new n (carried_after [] a)))
      (λ hit.
      let at : h.claimed ≡ old = sym is ∙ hit in
      let seats : Seats key old h.freed h.granted s.views = subst (λ c. Seats key c h.freed h.granted s.views) at h.seats in
      let numbers : Numbers key.first key.size key.reserve old h.taken h.freed h.granted =
      subst (λ c. Numbers key.first key.size key.reserve c h.taken h.freed h.granted) at h.numbers in
      let stock : Goods key FreeOf Blank CarriesOf FitsOf s.words s s.views h.took old h.taken h.freed h.away =
      subst (λ c. Goods key FreeOf Blank CarriesOf FitsOf s.words s s.views h.took c h.taken h.freed h.away) at h.stock in
      let allowed = room h.claimed h.taken h.freed h.granted h.numbers mine in
      let fits = allowed.0 in
      let order = numbers.order in
      let below = numbers.below in
      let w = claimed_to v old new copy in
      let ends : old + (new - old) ≡ new = omega arith in
      let t = taking key.size old (new - old) (FreeOf key) s.homes (omega arith) (λ p le lt. stock.cells.free_cell p le (omega arith)) in (
        w,
        t.act,
        t.valid,
        record {
          claimed = new;
          taken = h.taken;
          freed = h.freed;
          granted = h.granted;
          away = h.away;
          took = h.took;
          words = claimed_word key.size s.words h.claimed h.freed h.granted new h.words;
          numbers = record {
            low = numbers.low;
            order = numbers.order;
            below = omega arith;
            room = allowed.0;
            most = most;
            grants = numbers.grants;
            most_granted = numbers.most_granted;
          };
          seats = claimed_more key copy old new h.taken h.freed h.granted s.views by v seats numbers there sharing rises allowed.1 may;
          stock = stock_words key.size key.first (FreeOf key) Blank (CarriesOf key) (FitsOf key) s.words (set s.words 0 new) (homes_after s.homes [] t.act)
              (set s.views by w) h.took new h.taken h.freed h.away
              (stock_claimed key.size key.first (FreeOf key) Blank (CarriesOf key) (FitsOf key) s.words s.homes (homes_after s.homes [] t.act) s.views by v w
              h.took old new h.taken h.freed h.away stock there order below (omega arith) fits
              (claim_sides v.pass (claim_to old new copy) its.sides rest) refl ends refl refl rest
              (λ k not. t.others k (λ p le lt. not p le (omega arith))))
              (λ q. turns_stay key.size s.words 0 new q (omega arith));
          keys = keys_stay key FreeOf Blank CarriesOf FitsOf s.views by v w h.keys there refl refl refl;
        },
        (
          (
            (λ _. (
              refl,
              own_below key old h.freed h.granted s.views by v seats there,
              λ is_on copies x from below none.
                  let own = mine.intake is_on in
                  let known = ap (λ (k : Key). k.first) ((h.keys by v there).desk is_on) in
                  let lower = granted_or_copied key old h.freed h.granted s.views by v seats there copies x (omega arith) below none in
                  omega (arith, own.1),
            )),
            (λ no. absurd (no hit)),
          ),
          (
            (λ _. (
              t.values,
              t.count_is,
              subst (λ k. AllByRecursion (FreeOf k) t.values) (sym ((h.keys by v there).pass (λ without. omega arith))) t.free,
              t.carried ∙ ap (λ k. slots_with k old t.values) (sym all_slots),
            )),
            (λ no. absurd (no hit)),
          ),
        ),
      ))
      (λ miss. (
        met_claimed v n,
        keeps,
        tt,
        record {
          claimed = h.claimed;
          taken = h.taken;
          freed = h.freed;
          granted = h.granted;
          away = h.away;
          took = h.took;
          words = same_words key.size s.words 0 h.claimed h.freed h.granted h.words;
          numbers = h.numbers;
          seats = looked key h.claimed h.freed h.granted s.views by v (met_claimed v n).found h.seats there mine.saw_claimed mine.saw_freed mine.saw_granted;
          stock = goods_stay key FreeOf Blank CarriesOf FitsOf s by v (met_claimed v n) 0 n h.took h.claimed h.taken h.freed h.away h.stock there (omega arith)
              refl refl refl refl refl;
          keys = keys_stay key FreeOf Blank CarriesOf FitsOf s.views by v (met_claimed v n) h.keys there refl refl refl;
        },
        (((λ yes. absurd (miss yes)), (λ no. (refl, omega arith))), ((λ yes. absurd (miss yes)), (λ _. refl))),
      ))

  pub claims_user : (by : ℕ) (v : View) (slots old new : ℕ) → slots ≡ key.size → 0 < v.pass.shares → v.pass.next ≡ v.pass.until
      → v.found.claimed ≡ old → old < new → new ≤ 2 ^ 62 → new ≤ v.found.granted
      → Allows (Rule key FreeOf Blank CarriesOf FitsOf) slots by (v, []) claimed_at (λ n. either (eqb n old) new n)
      (λ n m. Claims false v old new n m.0 × Gains FreeOf v slots old new n m.1)
  claims_user by v slots old new all_slots sharing rest saw rises most limit = claims false by v slots old new all_slots sharing rest saw rises most
      (λ c t f g numbers mine. let grants = numbers.grants in let saw = mine.saw_granted in (omega arith, λ _. omega arith)) (λ _. refl)

  pub claims_copy : (by : ℕ) (v : View) (slots old new : ℕ) → slots ≡ key.size → 0 < v.pass.shares → v.pass.next ≡ v.pass.until
      → v.found.claimed ≡ old → old < new → new ≤ 2 ^ 62 → new ≤ v.found.freed + key.size → IsTrue v.pass.copier
      → Allows (Rule key FreeOf Blank CarriesOf FitsOf) slots by (v, []) claimed_at (λ n. either (eqb n old) new n)
      (λ n m. Claims true v old new n m.0 × Gains FreeOf v slots old new n m.1)
  claims_copy by v slots old new all_slots sharing rest saw rises most limit copies = claims true by v slots old new all_slots sharing rest saw rises most
      (λ c t f g numbers mine. let saw = mine.saw_freed in (omega arith, λ no. absurd (true≢false no))) (λ without. never (sym without ∙ copies))

  -- a pass stores the turn word of its first open position, and gives its slot back with an entry
  pub fills : (by : ℕ) (v : View) (c : S) (r : Row) (held : List (ℕ × S)) (slots : ℕ) → slots ≡ key.size → 0 < v.pass.shares → v.pass.next < v.pass.until
      → CarriesOf v.key c r → r.position ≡ v.pass.next → r.copy ≡ v.pass.copy → FitsOf v.key r
      → Allows (Rule key FreeOf Blank CarriesOf FitsOf) slots by (v, (slot key.size v.pass.next, c) ∷ held) (turn_at key.size v.pass.next)
      (λ _. v.pass.next - key.first + 1) (λ _ m. m ≡ (put_next v r, held))
  fills by v c r held slots all_slots sharing some_open carries at class fit s h long there small =
      let p = v.pass.next in
      let w = put_next v r in
      let mine = h.seats.each by v there in
      let its = h.stock.entered by v there in
      let known = (h.keys by v there).pass (λ without. omega arith) in
      let n = h.numbers in
      let low = n.low in
      let order = n.order in
      let room = n.room in
      let after = (its.ahead p (omega arith, some_open)).0 in
      let below = open_claimed key.size key.first s.words h.took h.claimed h.taken h.away s.views by v p its there h.seats.tiles (omega arith, some_open) in
      let inside : p % key.size < key.size = mod-lt p (omega arith) in
      let wide = h.words.long in (
        w,
        gives,
        tt,
        record {
          claimed = h.claimed;
          taken = h.taken;
          freed = h.freed;
          granted = h.granted;
          away = h.away;
          took = h.took;
          words = turn_word key.size s.words h.claimed h.freed h.granted p (p - key.first + 1) h.words;
          numbers = n;
          seats = seats_changed key h.claimed h.freed h.granted h.freed s.views by v w h.seats there refl refl refl refl (λ j u apart at. h.seats.each j u at)
              (record {
                bare = mine.bare;
                no_copy = mine.no_copy;
                users = mine.users;
                saw_claimed = mine.saw_claimed;
                saw_freed = mine.saw_freed;
                saw_granted = mine.saw_granted;
                intake = mine.intake;
              });
          stock = stock_filled key.size key.first (FreeOf key) Blank (CarriesOf key) (FitsOf key) s.words s.homes s.views by v w h.took
              h.claimed h.taken h.freed h.away c r h.stock there h.seats.tiles low order room some_open (omega arith) (omega arith)
              (subst (λ k. CarriesOf k c r) known carries) at class (subst (λ k. FitsOf k r) known fit) refl refl;
          keys = keys_stay key FreeOf Blank CarriesOf FitsOf s.views by v w h.keys there refl refl refl;
        },
        refl,
      )

  -- the intake's view changes in what it has taken, and a turn word is loaded
  pub looked_turn : (s : State S View) (h : Rule key FreeOf Blank CarriesOf FitsOf s) (by : ℕ) (v w : View) → get_elem? s.views by ≡ some v
      → w.pass ≡ v.pass → w.found.claimed ≡ v.found.claimed → w.found.freed ≡ v.found.freed → w.found.granted ≡ v.found.granted
      → w.intake.on ≡ v.intake.on → w.intake.freed ≡ v.intake.freed → w.intake.granted ≡ v.intake.granted
      → Seats key h.claimed h.freed h.granted (set s.views by w)
  looked_turn s h by v w there same_pass same_claimed same_freed same_granted same_on same_own same_own_granted =
      let mine = h.seats.each by v there in
      let c = mine.saw_claimed in
      let f = mine.saw_freed in
      let g = mine.saw_granted in
      seats_changed key h.claimed h.freed h.granted h.freed s.views by v w h.seats there (ap (λ p. p.claims) same_pass) (ap (λ p. p.shares) same_pass)
      (ap (λ p. p.copier) same_pass) same_on (λ j u apart at. h.seats.each j u at) (record {
        bare = subst (λ (p : Part). p.shares ≡ 0 → p.claims ≡ []) (sym same_pass) mine.bare;
        no_copy = subst (λ (p : Part). p.copier ≡ false → (x : ℕ) → covers_copy x p.claims ≡ 0) (sym same_pass) mine.no_copy;
        users = subst (λ (p : Part). AllByRecursion (IsGranted h.granted) p.claims) (sym same_pass) mine.users;
        saw_claimed = omega arith;
        saw_freed = omega arith;
        saw_granted = omega arith;
        intake = λ is_on. let own = mine.intake (sym same_on ∙ is_on) in (same_own ∙ own.0, same_own_granted ∙ own.1);
      })

  pub finds : (by : ℕ) (v : View) (slots : ℕ) → slots ≡ key.size → 0 < key.size → IsTrue v.intake.on → v.intake.away ≡ None
      → Allows (Rule key FreeOf Blank CarriesOf FitsOf) slots by (v, []) (turn_at key.size v.intake.taken) (λ n. n) (Finds CarriesOf FitsOf v slots)
  finds by v slots all_slots large is_on home s h long there small =
      let i = turn_at key.size v.intake.taken in
      let n = slice_index s.words i in
      let mine = h.seats.each by v there in
      let its = h.stock.entered by v there in
      let known = (h.keys by v there).desk is_on in
      let own = its.desk is_on in
      let own_words = mine.intake is_on in
      let taken_is : v.intake.taken ≡ h.taken = own.1 in
      let away_is : h.away ≡ 0 = sym own.2 ∙ ap away_number home in
      let freed_is : v.intake.freed ≡ h.freed = own_words.0 in
      let granted_is : v.intake.granted ≡ h.granted = own_words.1 in
      let first_is : v.key.first ≡ key.first = ap (λ k. k.first) known in
      let size_is : v.key.size ≡ key.size = ap (λ k. k.size) known in
      let only = alone key h.claimed h.freed h.granted s.views by v h.seats there is_on in
      let number = h.numbers in
      let order = number.order in
      let below = number.below in
      let room = number.room in
      let stock : Goods key FreeOf Blank CarriesOf FitsOf s.words s s.views h.took h.claimed h.taken h.freed 0 =
      subst (λ a. Goods key FreeOf Blank CarriesOf FitsOf s.words s s.views h.took h.claimed h.taken h.freed a) away_is h.stock in
      dite (ℕ_discrete (n + v.key.first) (v.intake.taken + 1))
      (λ names.
      let turn : slice_index s.words (turn_at key.size h.taken) ≡ n = ap (λ k. slice_index s.words (turn_at key.size k)) (sym taken_is) in
      let named : IsNamed key.size key.first s.words h.taken = omega arith in
      let fits = named_fits key.size key.first (FreeOf key) Blank (IsEntry key.size key.first (FreeOf key) Blank (CarriesOf key) (FitsOf key) s.views)
      (IsOpen s.views) s.words s.homes h.claimed h.taken h.freed 0 stock.cells large order below room named in
      let less = stock.cells.named_below h.taken (omega arith) fits named in
      let cell = stock.cells.named_cell h.taken (omega arith) fits named in
      let c = cell.0 in
      let r = cell.2.0 in
      let w = took_row v n r in (
        w,
        takes (slot key.size v.intake.taken) c,
        ap (λ k. get_elem? s.homes (slot key.size k)) taken_is ∙ cell.1,
        record {
          claimed = h.claimed;
          taken = h.taken + 1;
          freed = h.freed;
          granted = h.granted;
          away = h.taken + 1;
          took = h.took ++ r ∷ [];
          words = same_words key.size s.words i h.claimed h.freed h.granted h.words;
          numbers = record {
            low = number.low;
            order = omega arith;
            below = omega arith;
            room = room;
            most = number.most;
            grants = number.grants;
            most_granted =
                number.most_granted;
          };
          seats = looked_turn s h by v w there refl refl refl refl refl refl refl;
          stock = subst (λ ws. Stock key.size key.first (FreeOf key) Blank (CarriesOf key) (FitsOf key) ws (set s.homes (slot key.size v.intake.taken) none)
              (set s.views by w)
              (h.took ++ r ∷ []) h.claimed (h.taken + 1) h.freed (h.taken + 1)) (sym (set-get_or s.words i 0))
              (subst (λ k. Stock key.size key.first (FreeOf key) Blank (CarriesOf key) (FitsOf key) s.words (set s.homes (slot key.size k) none)
              (set s.views by w)
              (h.took ++ r ∷ []) h.claimed (h.taken + 1) h.freed (h.taken + 1)) (sym taken_is)
              (stock_taken key.size key.first (FreeOf key) Blank (CarriesOf key) (FitsOf key) s.words s.homes s.views by v w h.took h.claimed h.taken h.freed r
              stock there only order less room named cell.2.2 cell.2.3 cell.2.4 (record {
                pass = refl;
                took_is = ap (λ l. l ++ r ∷ []) own.0;
                taken_is = omega arith;
                away_is = omega arith;
              })));
          keys = keys_stay key FreeOf Blank CarriesOf FitsOf s.views by v w h.keys there refl refl refl;
        },
        (
          (λ _. (
            c,
            r,
            ap (λ k. (w, (slot k v.intake.taken, c) ∷ [])) (sym all_slots),
            subst (λ k. CarriesOf k c r) (sym known) cell.2.1,
            cell.2.2 ∙ sym taken_is,
            subst (λ k. FitsOf k r) (sym known) cell.2.3,
            omega (arith, number.most),
            (λ user. let lower = user_granted key s.words h.took h.claimed h.freed h.granted h.taken 0 s.views r h.seats stock.entered cell.2.4 user in
                let at = cell.2.2 in omega arith),
            omega arith,
            (λ copies copy. own_copy key h.claimed h.freed h.granted s.views by v h.seats there copies key.size key.first s.words h.took h.taken 0 r
                stock.entered cell.2.4 copy),
            (λ user other put copy same. user_apart key s.words h.took h.claimed h.freed h.granted h.taken 0 s.views by v r h.seats stock.entered there
                cell.2.4 user other put copy (same ∙ taken_is ∙ sym cell.2.2)),
          )),
          (λ no. absurd (no names)),
        ),
      ))
      (λ other.
      let w = saw_turn v n in (
        w,
        keeps,
        tt,
        record {
          claimed = h.claimed;
          taken = h.taken;
          freed = h.freed;
          granted = h.granted;
          away = h.away;
          took = h.took;
          words = same_words key.size s.words i h.claimed h.freed h.granted h.words;
          numbers = number;
          seats = looked_turn s h by v w there refl refl refl refl refl refl refl;
          stock = subst (λ ws. Goods key FreeOf Blank CarriesOf FitsOf ws s (set s.views by w) h.took h.claimed h.taken h.freed h.away)
              (sym (set-get_or s.words i 0))
              (stock_changed key.size key.first (FreeOf key) Blank (CarriesOf key)
              (FitsOf key) s.words s.homes s.views by v w h.took h.claimed h.taken h.freed h.away
              h.stock there (record { sides = its.sides; ahead = its.ahead; desk = its.desk }) (λ r is. is) (λ q is. is));
          keys = keys_stay key FreeOf Blank CarriesOf FitsOf s.views by v w h.keys there refl refl refl;
        },
        ((λ names. absurd (other names)), (λ _. refl)),
      ))
