-- Seats are split and joined.
use Rattle.std.proofs.Common.{◌≡◌, ◌⊎◌, ℕ, ◌+◌, ◌<◌, ◌≤◌, List, [], ◌∷◌, ◌++◌, length, set, max, Bool, true, false, not, IsTrue, ◌||◌, if◌then◌else◌, refl, sym, ap, ◌∙◌, subst, inl, inr, arith}
use Rattle.std.proofs.lemmas.Bool.{or_parts}
use Rattle.pblk_model.proofs.Lists.{all_append}
use Rattle.pblk_model.proofs.Maps.{all_filter}
use mathlib.Core.Option.{some, some-ne-none}
use lib.ListN.{get_elem?}
use Rattle.atomic_table.specs.Table.{State, Splits, Joins}
use Rattle.atomic_table.proofs.Lists.{at_longer, set_else}
use Rattle.pblk_model.specs.declared.ring.Claim.{Claim}
use Rattle.pblk_model.specs.RingState.{between, covers, covers_copy, IsGranted}
use Rattle.write_ring.specs.declared.view.LastFound.{LastFound}
use Rattle.write_ring.specs.declared.view.Desk.{Desk}
use Rattle.write_ring.specs.declared.view.Key.{Key}
use Rattle.write_ring.specs.declared.view.Part.{Part}
use Rattle.write_ring.specs.declared.view.Row.{Row}
use Rattle.write_ring.specs.declared.view.View.{View}
use Rattle.write_ring.specs.Rule.{Each, Seats, away_number, one_if}
use Rattle.write_ring.specs.Stock.{HasOpen, HasPut, Sides, Entered}
use Rattle.write_ring.specs.Kept.{HasKey}
use Rattle.write_ring.specs.Steps.{joined_part, joined_pass, less_share, new_pass, no_part, only_intake, spent, with_intake, without_intake}
use Rattle.write_ring.proofs.Views.{sum_changed, sum_more, each_changed, each_more}
use Rattle.write_ring.proofs.ClaimLists.{covers_both, copies_both, rows_both, copy_rows_both, empty}
use Rattle.write_ring.proofs.SomeViews.{behind_at}
use Rattle.write_ring.proofs.SeatMoves.{has, shares, copier, on, never, idle, nobody}
use Rattle.write_ring.proofs.Stocks.{stock_split, stock_joined}
use Rattle.write_ring.proofs.Classes.{copies_sides, parted_claims, put_parted, users_sides}
use Rattle.write_ring.proofs.Moves.{Rule}

pub fresh_sides : (shares : ℕ) (copier : Bool) → Sides (record no_part { shares = shares; copier = copier })
fresh_sides shares copier = record { all = λ x. let none = empty x 0 in omega arith; copies = λ x. refl }

joined_sides : (p q : Part) → Sides p → Sides q → q.next ≡ q.until
    → Sides (joined_part p q)
joined_sides p q h k rest = record {
  all = λ x.
      let claims = covers_both x p.claims q.claims in
      let puts = rows_both x p.puts q.puts in
      let one = h.all x in
      let two = k.all x in
      let nothing = none_open x in
      omega arith;
  copies = λ x.
      let claims = copies_both x p.claims q.claims in
      let puts = copy_rows_both x p.puts q.puts in
      let one = h.copies x in
      let two = k.copies x in
      let nothing = none_copied q.copy x in
      omega arith;
}
  where
    none_open : (x : ℕ) → between q.next q.until x ≡ 0
    none_open x = ap (λ k. between q.next k x) (sym rest) ∙ empty x q.next

    none_copied : (b : Bool) (x : ℕ) → (if b then between q.next q.until x else 0) ≡ 0
    none_copied true x = none_open x
    none_copied false x = refl

pub none_ahead : (shares : ℕ) (copier : Bool) (x : ℕ) {P : Type 0} → HasOpen x (record no_part { shares = shares; copier = copier }) → P
none_ahead shares copier x has = let high = has.1 in absurd (omega arith)

or_counted : (a b : Bool) → one_if (a || b) ≤ one_if a + one_if b
or_counted true b = omega arith
or_counted false b = omega arith

module _ (key : Key) where
  -- a seat is split, with what it is counted by
  seats_split : (c f g : ℕ) (views : List View) (by : ℕ) (v left right : View) → Seats key c f g views → get_elem? views by ≡ some v
      → ((x : ℕ) → covers x left.pass.claims + covers x right.pass.claims ≡ covers x v.pass.claims)
      → left.pass.shares + right.pass.shares ≡ v.pass.shares → copier left + copier right ≡ copier v
      → on left + on right ≡ on v → Each c f g left → Each c f g right → Seats key c f g (set views by left ++ right ∷ [])
  seats_split c f g views by v left right h there claims_add shares_add copiers_add ons_add mine its = record {
    tiles = λ x.
        let more = sum_more (has x) (set views by left) right in
        let changed = sum_changed (has x) views by v left there in
        let add = claims_add x in
        let all = h.tiles x in
        omega arith;
    shares =
        let more = sum_more shares (set views by left) right in
        let changed = sum_changed shares views by v left there in
        let all = h.shares in
        omega arith;
    one_copier =
        let more = sum_more copier (set views by left) right in
        let changed = sum_changed copier views by v left there in
        let all = h.one_copier in
        omega arith;
    one_intake =
        let more = sum_more on (set views by left) right in
        let changed = sum_changed on views by v left there in
        let all = h.one_intake in
        omega arith;
    each = each_more (Each c f g) (set views by left) right (each_changed (Each c f g) views by left (λ j u apart at. h.each j u at) mine) its;
  }

  -- a seat goes into another, with what it is counted by
  seats_joined : (c f g : ℕ) (views : List View) (by : ℕ) (v : View) (other : ℕ) (w b : View) → Seats key c f g views → get_elem? views by ≡ some v
      → get_elem? (set views by b) other ≡ some w
      → ((x : ℕ) → covers x b.pass.claims ≡ covers x v.pass.claims + covers x w.pass.claims)
      → b.pass.shares ≡ v.pass.shares + w.pass.shares → copier b ≤ copier v + copier w → on b ≤ on v + on w
      → Each c f g b → Seats key c f g (set (set views by b) other spent)
  seats_joined c f g views by v other w b h there also claims_add shares_add copiers_add ons_add mine = record {
    tiles = λ x.
        let first = sum_changed (has x) views by v b there in
        let second = sum_changed (has x) (set views by b) other w spent also in
        let add = claims_add x in
        let all = h.tiles x in
        omega arith;
    shares =
        let first = sum_changed shares views by v b there in
        let second = sum_changed shares (set views by b) other w spent also in
        let all = h.shares in
        omega arith;
    one_copier =
        let first = sum_changed copier views by v b there in
        let second = sum_changed copier (set views by b) other w spent also in
        let all = h.one_copier in
        omega arith;
    one_intake =
        let first = sum_changed on views by v b there in
        let second = sum_changed on (set views by b) other w spent also in
        let all = h.one_intake in
        omega arith;
    each = each_changed (Each c f g) (set views by b) other spent
        (λ j u _ at. each_changed (Each c f g) views by b (λ i x _ here. h.each i x here) mine j u at) (nobody c f g);
  }

  spent_entered : (words : List ℕ) (took : List Row) (taken away : ℕ) → Entered key.size key.first words took taken away spent
  spent_entered words took taken away = record {
    sides = fresh_sides 0 false;
    ahead = λ x has. none_ahead 0 false x has;
    desk = λ yes. never yes;
  }

module _ {S : Type 0} (key : Key) (FreeOf : Key → S → Type 0) (Blank : S → Type 0) (CarriesOf : Key → S → Row → Type 0) (FitsOf : Key → Row → Type 0) where
  -- What the two seats have that a seat is split into: together they have what it had, and each is as a seat has to be.
  record Halves (s : State S View) (h : Rule key FreeOf Blank CarriesOf FitsOf s) (v left right : View) : Type 0 where
    claims : (x : ℕ) → covers x left.pass.claims + covers x right.pass.claims ≡ covers x v.pass.claims
    shares_add : left.pass.shares + right.pass.shares ≡ v.pass.shares
    copiers : copier left + copier right ≡ copier v
    ons : on left + on right ≡ on v
    each : Each h.claimed h.freed h.granted left
    right_each : Each h.claimed h.freed h.granted right
    entered : Entered key.size key.first s.words h.took h.taken h.away left
    right_entered : Entered key.size key.first s.words h.took h.taken h.away right
    puts : (r : Row) → HasPut r v.pass → HasPut r left.pass ⊎ HasPut r right.pass
    opens : (q : ℕ) → HasOpen q v.pass → HasOpen q left.pass ⊎ HasOpen q right.pass
    known : HasKey key left
    right_known : HasKey key right

  splits : (by : ℕ) (v left right : View) → ((s : State S View) (h : Rule key FreeOf Blank CarriesOf FitsOf s) → get_elem? s.views by ≡ some v
      → Halves s h v left right)
      → Splits (Rule key FreeOf Blank CarriesOf FitsOf) by v left right
  splits by v left right halves s h there =
      let parts = halves s h there in
      record {
        claimed = h.claimed;
        taken = h.taken;
        freed = h.freed;
        granted = h.granted;
        away = h.away;
        took = h.took;
        words = h.words;
        numbers = h.numbers;
        seats = seats_split key h.claimed h.freed h.granted s.views by v left right h.seats there parts.claims parts.shares_add parts.copiers parts.ons
            parts.each parts.right_each;
        stock = stock_split key.size key.first (FreeOf key) Blank (CarriesOf key) (FitsOf key) s.words s.homes s.views by v left right h.took
            h.claimed h.taken h.freed h.away h.stock there parts.entered parts.right_entered parts.puts parts.opens;
        keys = each_more (HasKey key) (set s.views by left) right
            (each_changed (HasKey key) s.views by left (λ j u apart at. h.keys j u at) parts.known) parts.right_known;
      }

  pub splits_pass : (by : ℕ) (v : View) → 2 ≤ v.pass.shares → Splits (Rule key FreeOf Blank CarriesOf FitsOf) by v (less_share v) (new_pass v.key)
  splits_pass by v two = splits by v (less_share v) (new_pass v.key) (λ s h there.
      let mine = h.seats.each by v there in
      let its = h.stock.entered by v there in
      let known = h.keys by v there in
      record {
        claims = λ x. omega arith;
        shares_add = omega arith;
        copiers = omega arith;
        ons = omega arith;
        each = record {
          bare = λ none. absurd (omega arith);
          no_copy = mine.no_copy;
          users = mine.users;
          saw_claimed = mine.saw_claimed;
          saw_freed = mine.saw_freed;
          saw_granted = mine.saw_granted;
          intake = mine.intake;
        };
        right_each = idle v.key h.claimed h.freed h.granted;
        entered = record { sides = record { all = its.sides.all; copies = its.sides.copies }; ahead = its.ahead; desk = its.desk };
        right_entered = record { sides = fresh_sides 1 false; ahead = λ x has. none_ahead 1 false x has; desk = λ yes. never yes };
        puts = λ r is. inl is;
        opens = λ q is. inl is;
        known = record { pass = λ some_shares. known.pass (omega arith); desk = known.desk };
        right_known = record { pass = λ _. known.pass (omega arith); desk = λ yes. never yes };
      })

  -- the intake leaves a seat with the copies, where nothing is open
  pub splits_intake : (by : ℕ) (v : View) → 2 ≤ v.pass.shares → v.pass.next ≡ v.pass.until
      → Splits (Rule key FreeOf Blank CarriesOf FitsOf) by v (without_intake v) (only_intake v)
  splits_intake by v two rest = splits by v (without_intake v) (only_intake v) (λ s h there.
      let mine = h.seats.each by v there in
      let its = h.stock.entered by v there in
      let known = h.keys by v there in
      let p = v.pass in
      record {
        claims = λ x.
            let parted = parted_claims x p.claims in
            let users = parted.users in
            let copies = parted.copies in
            omega arith;
        shares_add = omega arith;
        copiers = omega arith;
        ons = omega arith;
        each = record {
          bare = λ none. absurd (omega arith);
          no_copy = λ _ x. (parted_claims x p.claims).no_copies;
          users = all_filter (IsGranted h.granted) (λ (c : Claim). not c.copy) p.claims mine.users;
          saw_claimed = mine.saw_claimed;
          saw_freed = mine.saw_freed;
          saw_granted = mine.saw_granted;
          intake = λ no. never no;
        };
        right_each = record {
          bare = λ none. absurd (omega arith);
          no_copy = λ none x. (parted_claims x p.claims).all_copies ∙ mine.no_copy none x;
          users = all_filter (IsGranted h.granted) (λ (c : Claim). c.copy) p.claims mine.users;
          saw_claimed = mine.saw_claimed;
          saw_freed = mine.saw_freed;
          saw_granted = mine.saw_granted;
          intake = mine.intake;
        };
        entered = record { sides = users_sides p its.sides rest; ahead = λ x has. its.ahead x has; desk = λ yes. never yes };
        right_entered = record { sides = copies_sides p its.sides rest; ahead = λ x has. none_ahead 0 false x has; desk = its.desk };
        puts = λ r is. put_parted p r is;
        opens = λ q is. inl is;
        known = record { pass = λ _. known.pass (omega arith); desk = λ yes. never yes };
        right_known = record { pass = λ _. known.pass (omega arith); desk = known.desk };
      })

  -- all goes out of a seat
  pub splits_all : (by : ℕ) (v : View) → Splits (Rule key FreeOf Blank CarriesOf FitsOf) by v spent v
  splits_all by v = splits by v spent v (λ s h there. record {
    claims = λ x. omega arith;
    shares_add = omega arith;
    copiers = omega arith;
    ons = omega arith;
    each = nobody h.claimed h.freed h.granted;
    right_each = h.seats.each by v there;
    entered = spent_entered key s.words h.took h.taken h.away;
    right_entered = h.stock.entered by v there;
    puts = λ r is. inr is;
    opens = λ q is. inr is;
    known = record { pass = λ yes. absurd (yes refl); desk = λ yes. never yes };
    right_known = h.keys by v there;
  })

  -- What a seat has once another went into it: what both had.
  record Whole (s : State S View) (h : Rule key FreeOf Blank CarriesOf FitsOf s) (v w b : View) : Type 0 where
    claims : (x : ℕ) → covers x b.pass.claims ≡ covers x v.pass.claims + covers x w.pass.claims
    shares_add : b.pass.shares ≡ v.pass.shares + w.pass.shares
    copiers : copier b ≤ copier v + copier w
    ons : on b ≤ on v + on w
    each : Each h.claimed h.freed h.granted b
    entered : Entered key.size key.first s.words h.took h.taken h.away b
    puts : (r : Row) → HasPut r v.pass → HasPut r b.pass
    its_puts : (r : Row) → HasPut r w.pass → HasPut r b.pass
    opens : (q : ℕ) → HasOpen q v.pass → HasOpen q b.pass
    its_opens : (q : ℕ) → HasOpen q w.pass → HasOpen q b.pass
    known : HasKey key b

  joins : (by : ℕ) (v : View) (other : ℕ) (w b : View)
      → ((s : State S View) (h : Rule key FreeOf Blank CarriesOf FitsOf s) → get_elem? s.views by ≡ some v → get_elem? s.views other ≡ some w → Whole s h v w b)
      → Joins (Rule key FreeOf Blank CarriesOf FitsOf) by v other w b spent
  joins by v other w b whole s h there differ also =
      let all = whole s h there (sym (set_else s.views by other b differ) ∙ also) in
      record {
        claimed = h.claimed;
        taken = h.taken;
        freed = h.freed;
        granted = h.granted;
        away = h.away;
        took = h.took;
        words = h.words;
        numbers = h.numbers;
        seats = seats_joined key h.claimed h.freed h.granted s.views by v other w b h.seats there also all.claims all.shares_add all.copiers all.ons all.each;
        stock = stock_joined key.size key.first (FreeOf key) Blank (CarriesOf key) (FitsOf key) s.words s.homes s.views by v other w b spent h.took
            h.claimed h.taken h.freed h.away h.stock there differ also all.entered (spent_entered key s.words h.took h.taken h.away)
            all.puts all.its_puts all.opens all.its_opens;
        keys = each_changed (HasKey key) (set s.views by b) other spent
            (λ j u _ at. each_changed (HasKey key) s.views by b (λ i x _ here. h.keys i x here) all.known j u at)
            (record { pass = λ yes. absurd (yes refl); desk = λ yes. never yes });
      }

  -- a seat with nothing open goes into a pass, which has the one's desk or the other's
  joins_part : (by : ℕ) (v : View) (other : ℕ) (w : View) (found : LastFound) (desk : Desk) → 0 < v.pass.shares → w.pass.next ≡ w.pass.until
      → one_if desk.on ≤ on v + on w
      → ((s : State S View) (h : Rule key FreeOf Blank CarriesOf FitsOf s) → get_elem? s.views by ≡ some v → get_elem? s.views other ≡ some w
      → (found.claimed ≤ h.claimed) × (found.freed ≤ h.freed) × (found.granted ≤ h.granted)
      × (IsTrue desk.on → (desk.freed ≡ h.freed) × (desk.granted ≡ h.granted))
      × (IsTrue desk.on → (desk.took ≡ h.took) × (desk.taken ≡ h.taken) × (away_number desk.away ≡ h.away)))
      → Joins (Rule key FreeOf Blank CarriesOf FitsOf) by v other w (record v { found = found; pass = joined_part v.pass w.pass; intake = desk }) spent
  joins_part by v other w found desk sharing rest ons says =
      joins by v other w (record v { found = found; pass = joined_part v.pass w.pass; intake = desk }) (λ s h there also.
      let mine = h.seats.each by v there in
      let its = h.seats.each other w also in
      let my = h.stock.entered by v there in
      let their = h.stock.entered other w also in
      let known = h.keys by v there in
      let said = says s h there also in
      record {
        claims = λ x. covers_both x v.pass.claims w.pass.claims;
        shares_add = refl;
        copiers = or_counted v.pass.copier w.pass.copier;
        ons = ons;
        each = record {
          bare = λ none. absurd (omega arith);
          no_copy = λ none x.
              let neither = or_parts v.pass.copier w.pass.copier none in
              let both : covers_copy x (v.pass.claims ++ w.pass.claims) ≡ covers_copy x v.pass.claims + covers_copy x w.pass.claims =
              copies_both x v.pass.claims w.pass.claims in
              let one = mine.no_copy neither.0 x in
              let two = its.no_copy neither.1 x in
              omega arith;
          users = all_append (IsGranted h.granted) v.pass.claims w.pass.claims mine.users its.users;
          saw_claimed = said.0;
          saw_freed = said.1;
          saw_granted = said.2;
          intake = said.3;
        };
        entered = record { sides = joined_sides v.pass w.pass my.sides their.sides rest; ahead = λ x has. my.ahead x has; desk = said.4 };
        puts = λ r had. (had.0, at_longer v.pass.puts w.pass.puts had.0 r had.1);
        its_puts = λ r had. (length v.pass.puts + had.0, behind_at v.pass.puts w.pass.puts had.0 (length v.pass.puts + had.0) r refl had.1);
        opens = λ q had. had;
        its_opens = λ q had. let low = had.0 in let high = had.1 in absurd (omega arith);
        known = record { pass = λ _. known.pass (λ none. omega arith); desk = λ _. known.pass (λ none. omega arith) };
      })

  pub joins_pass : (by : ℕ) (v : View) (other : ℕ) (w : View) → 0 < v.pass.shares → w.pass.next ≡ w.pass.until
      → Joins (Rule key FreeOf Blank CarriesOf FitsOf) by v other w (joined_pass v w) spent
  joins_pass by v other w sharing rest = joins_part by v other w v.found v.intake sharing rest (omega arith) (λ s h there also.
      let mine = h.seats.each by v there in
      (mine.saw_claimed, mine.saw_freed, mine.saw_granted, mine.intake, (h.stock.entered by v there).desk))

  -- the intake goes into a pass
  pub joins_intake : (by : ℕ) (v : View) (other : ℕ) (w : View) → 0 < v.pass.shares → w.pass.next ≡ w.pass.until
      → Joins (Rule key FreeOf Blank CarriesOf FitsOf) by v other w (with_intake v w) spent
  joins_intake by v other w sharing rest =
      joins_part by v other w (with_intake v w).found w.intake sharing rest (omega arith) (λ s h there also.
      let mine = h.seats.each by v there in
      let its = h.seats.each other w also in
      let one = mine.saw_claimed in
      let two = its.saw_claimed in
      (most v.found.claimed w.found.claimed h.claimed one two, mine.saw_freed, mine.saw_granted, its.intake, (h.stock.entered other w also).desk))
    where
      most : (a b c : ℕ) → a ≤ c → b ≤ c → max a b ≤ c
      most a b c le lt = grind arith

  -- all goes into a seat out of which all went
  pub joins_all : (by : ℕ) (v : View) (other : ℕ) (w : View) → v ≡ spent → Joins (Rule key FreeOf Blank CarriesOf FitsOf) by v other w w spent
  joins_all by v other w none = subst (λ u. Joins (Rule key FreeOf Blank CarriesOf FitsOf) by u other w w spent) (sym none)
      (joins by spent other w w (λ s h there also. record {
        claims = λ x. omega arith;
        shares_add = omega arith;
        copiers = omega arith;
        ons = omega arith;
        each = h.seats.each other w also;
        entered = h.stock.entered other w also;
        puts = λ r had. absurd (some-ne-none r (sym had.1));
        its_puts = λ r had. had;
        opens = λ q had. none_ahead 0 false q had;
        its_opens = λ q had. had;
        known = h.keys other w also;
      }))
