-- Claims and rows of both classes, parted by their class.
use Rattle.std.proofs.Common.{◌≡◌, ℕ, ◌+◌, ◌-◌, List, [], ◌∷◌, ◌++◌, Bool, true, false, not, filter, if◌then◌else◌, refl, sym, ap, ◌∙◌, subst, arith}
use Rattle.std.proofs.Common.{inl, inr, ◌⊎◌}
use Rattle.std.proofs.lemmas.List.{append-nil}
use Rattle.std.proofs.lemmas.List.Elements.{filter-append}
use Rattle.pblk_model.specs.declared.ring.Claim.{Claim}
use Rattle.pblk_model.specs.RingState.{between, covers, covers_copy}
use mathlib.Core.Option.{some}
use lib.ListN.{get_elem?}
use Rattle.std.specs.List.{AllByRecursion}
use Rattle.pblk_model.proofs.Lists.{all_append}
use Rattle.pblk_model.proofs.Maps.{filter_all, filter_none}
use Rattle.sector_pool.specs.declared.entry.Class.{Class}
use Rattle.write_ring.specs.declared.draft.Draft.{Draft}
use Rattle.write_ring.specs.declared.view.Part.{Part}
use Rattle.write_ring.specs.declared.view.Row.{Row}
use Rattle.write_ring.specs.Batches.{rows_from}
use Rattle.write_ring.specs.Frames.{is_copy}
use Rattle.write_ring.specs.Handles.{IsFilled, IsSamePart}
use Rattle.write_ring.specs.Stock.{rows_at, copies_at, HasPut, Sides}
use Rattle.write_ring.specs.Steps.{IsOfClass, copies_part, joined_part, users_part}
use Rattle.write_ring.proofs.ClaimLists.{covers_both, empty, rows_both}
use Rattle.write_ring.proofs.Filters.{all_of_each, each_of_all, kept}

abbrev pub user_claims : List Claim → List Claim
user_claims cs = filter (λ (c : Claim). not c.copy) cs

abbrev pub copy_claims : List Claim → List Claim
copy_claims cs = filter (λ (c : Claim). c.copy) cs

abbrev pub user_rows : List Row → List Row
user_rows rs = filter (λ (r : Row). not r.copy) rs

abbrev pub copy_rows : List Row → List Row
copy_rows rs = filter (λ (r : Row). r.copy) rs

-- how often claims, of each class and all, have x
pub record PartedClaims (x : ℕ) (cs : List Claim) : Type 0 where
  pub users : covers x (user_claims cs) + covers_copy x cs ≡ covers x cs
  pub copies : covers x (copy_claims cs) ≡ covers_copy x cs
  pub no_copies : covers_copy x (user_claims cs) ≡ 0
  pub all_copies : covers_copy x (copy_claims cs) ≡ covers_copy x cs

pub parted_claims : (x : ℕ) (cs : List Claim) → PartedClaims x cs
parted_claims x [] = record { users = refl; copies = refl; no_copies = refl; all_copies = refl }
parted_claims x (c ∷ cs) = by c.copy c.first c.count (parted_claims x cs)
  where
    by : (copy : Bool) (first count : ℕ) → PartedClaims x cs → PartedClaims x (record { first = first; count = count; copy = copy } ∷ cs)
    by true first count h =
        let users = h.users in
        let copies = h.copies in
        let all = h.all_copies in
        record { users = omega arith; copies = omega arith; no_copies = h.no_copies; all_copies = omega arith }
    by false first count h =
        let users = h.users in
        let none = h.no_copies in
        let copies = h.copies in
        let all = h.all_copies in
        record { users = omega arith; copies = omega arith; no_copies = omega arith; all_copies = omega arith }

pub record PartedRows (x : ℕ) (rs : List Row) : Type 0 where
  pub users : rows_at x (user_rows rs) + copies_at x rs ≡ rows_at x rs
  pub copies : rows_at x (copy_rows rs) ≡ copies_at x rs
  pub no_copies : copies_at x (user_rows rs) ≡ 0
  pub all_copies : copies_at x (copy_rows rs) ≡ copies_at x rs

pub parted_rows : (x : ℕ) (rs : List Row) → PartedRows x rs
parted_rows x [] = record { users = refl; copies = refl; no_copies = refl; all_copies = refl }
parted_rows x (r ∷ rs) = by r.copy (parted_rows x rs)
  where
    by : (copy : Bool) → PartedRows x rs → PartedRows x (record r { copy = copy } ∷ rs)
    by true h =
        let users = h.users in
        let copies = h.copies in
        let all = h.all_copies in
        record { users = omega arith; copies = omega arith; no_copies = h.no_copies; all_copies = omega arith }
    by false h =
        let users = h.users in
        let none = h.no_copies in
        let copies = h.copies in
        let all = h.all_copies in
        record { users = omega arith; copies = omega arith; no_copies = omega arith; all_copies = omega arith }

module _ (p q : Part) (users : IsOfClass false p) (copies : IsOfClass true q) where
  only_users_claims : user_claims (p.claims ++ q.claims) ≡ p.claims
  only_users_claims =
      filter-append (λ (c : Claim). not c.copy) p.claims q.claims
      ∙ ap (λ l. l ++ user_claims q.claims) (filter_all (λ (c : Claim). not c.copy) p.claims
      (all_of_each (λ (c : Claim). not c.copy ≡ true) p.claims (λ i c at. ap not (users.claims i c at))))
      ∙ ap (λ l. p.claims ++ l) (filter_none (λ (c : Claim). not c.copy) q.claims
      (all_of_each (λ (c : Claim). not c.copy ≡ false) q.claims (λ i c at. ap not (copies.claims i c at))))
      ∙ append-nil p.claims

  only_users_rows : user_rows (p.puts ++ q.puts) ≡ p.puts
  only_users_rows =
      filter-append (λ (r : Row). not r.copy) p.puts q.puts
      ∙ ap (λ l. l ++ user_rows q.puts) (filter_all (λ (r : Row). not r.copy) p.puts
      (all_of_each (λ (r : Row). not r.copy ≡ true) p.puts (λ i r at. ap not (users.puts i r at))))
      ∙ ap (λ l. p.puts ++ l) (filter_none (λ (r : Row). not r.copy) q.puts
      (all_of_each (λ (r : Row). not r.copy ≡ false) q.puts (λ i r at. ap not (copies.puts i r at))))
      ∙ append-nil p.puts

  only_copy_claims : copy_claims (p.claims ++ q.claims) ≡ q.claims
  only_copy_claims =
      filter-append (λ (c : Claim). c.copy) p.claims q.claims
      ∙ ap (λ l. l ++ copy_claims q.claims) (filter_none (λ (c : Claim). c.copy) p.claims (all_of_each (λ (c : Claim). c.copy ≡ false) p.claims users.claims))
      ∙ filter_all (λ (c : Claim). c.copy) q.claims (all_of_each (λ (c : Claim). c.copy ≡ true) q.claims copies.claims)

  only_copy_rows : copy_rows (p.puts ++ q.puts) ≡ q.puts
  only_copy_rows =
      filter-append (λ (r : Row). r.copy) p.puts q.puts
      ∙ ap (λ l. l ++ copy_rows q.puts) (filter_none (λ (r : Row). r.copy) p.puts (all_of_each (λ (r : Row). r.copy ≡ false) p.puts users.puts))
      ∙ filter_all (λ (r : Row). r.copy) q.puts (all_of_each (λ (r : Row). r.copy ≡ true) q.puts copies.puts)

  -- what was joined is parted again
  pub parted_pass : p.copier ≡ false → q.shares ≡ 1 → users_part (joined_part p q) ≡ p
  parted_pass no_copier one =
      let shares : p.shares + q.shares - 1 ≡ p.shares = omega arith in
      ap (λ k. record p { shares = k; copier = false; claims = user_claims (p.claims ++ q.claims); puts = user_rows (p.puts ++ q.puts) }) shares
      ∙ ap (λ b. record p { copier = b; claims = user_claims (p.claims ++ q.claims); puts = user_rows (p.puts ++ q.puts) }) (sym no_copier)
      ∙ ap (λ l. record p { claims = l; puts = user_rows (p.puts ++ q.puts) }) only_users_claims
      ∙ ap (λ l. record p { puts = l }) only_users_rows

  pub parted_copies : q.shares ≡ 1 → IsSamePart q (copies_part (joined_part p q))
  parted_copies one = record { shares = sym one; claims = only_copy_claims; puts = only_copy_rows }

  -- a row of both is the pass's or the intake's, by its class
  pub user_put : (r : Row) → HasPut r (joined_part p q) → r.copy ≡ false → HasPut r p
  user_put r had is = subst (λ l. (i : ℕ) × (get_elem? l i ≡ some r)) only_users_rows
      (kept (λ (r : Row). not r.copy) (p.puts ++ q.puts) had.0 r had.1 (ap not is))

  pub copy_put : (r : Row) → HasPut r (joined_part p q) → r.copy ≡ true → HasPut r q
  copy_put r had is = subst (λ l. (i : ℕ) × (get_elem? l i ≡ some r)) only_copy_rows (kept (λ (r : Row). r.copy) (p.puts ++ q.puts) had.0 r had.1 is)

  -- what was claimed by both was put, so what was claimed by either was
  module _ (rows : (x : ℕ) → rows_at x (p.puts ++ q.puts) ≡ covers x (p.claims ++ q.claims))
      (copy_rows_are : (x : ℕ) → copies_at x (p.puts ++ q.puts) ≡ covers_copy x (p.claims ++ q.claims)) where
    copies_all : (x : ℕ) → rows_at x q.puts ≡ covers x q.claims
    copies_all x =
        ap (rows_at x) (sym only_copy_rows) ∙ (parted_rows x (p.puts ++ q.puts)).copies ∙ copy_rows_are x ∙ sym (parted_claims x (p.claims ++ q.claims)).copies
        ∙ ap (covers x) only_copy_claims

    pub copies_filled : IsFilled q
    copies_filled = (
      copies_all,
      λ x.
          ap (copies_at x) (sym only_copy_rows) ∙ (parted_rows x (p.puts ++ q.puts)).all_copies ∙ copy_rows_are x
          ∙ sym (parted_claims x (p.claims ++ q.claims)).all_copies ∙ ap (covers_copy x) only_copy_claims,
    )

    pub users_filled : IsFilled p
    users_filled = (
      λ x.
          let claims = covers_both x p.claims q.claims in
          let puts = rows_both x p.puts q.puts in
          let all = rows x in
          let its = copies_all x in
          omega arith,
      λ x.
          ap (copies_at x) (sym only_users_rows) ∙ (parted_rows x (p.puts ++ q.puts)).no_copies ∙ sym (parted_claims x (p.claims ++ q.claims)).no_copies
          ∙ ap (covers_copy x) only_users_claims,
    )

-- one part is parted, with nothing open
module _ (p : Part) (h : Sides p) (rest : p.next ≡ p.until) where
  none_open : (x : ℕ) → between p.next p.until x ≡ 0
  none_open x = ap (λ k. between p.next k x) (sym rest) ∙ empty x p.next

  none_copied : (b : Bool) (x : ℕ) → (if b then between p.next p.until x else 0) ≡ 0
  none_copied true x = none_open x
  none_copied false x = refl

  pub users_sides : Sides (users_part p)
  users_sides = record {
    all = λ x.
        let claims = (parted_claims x p.claims).users in
        let rows = (parted_rows x p.puts).users in
        let all = h.all x in
        let copies = h.copies x in
        let nothing = none_copied p.copy x in
        omega arith;
    copies = λ x.
        let claims = (parted_claims x p.claims).no_copies in
        let rows = (parted_rows x p.puts).no_copies in
        let nothing = none_copied p.copy x in
        omega arith;
  }

  pub copies_sides : Sides (copies_part p)
  copies_sides = record {
    all = λ x.
        let claims = (parted_claims x p.claims).copies in
        let rows = (parted_rows x p.puts).copies in
        let copies = h.copies x in
        let nothing = none_copied p.copy x in
        let fresh = empty x 0 in
        omega arith;
    copies = λ x.
        let claims = (parted_claims x p.claims).all_copies in
        let rows = (parted_rows x p.puts).all_copies in
        let copies = h.copies x in
        let nothing = none_copied p.copy x in
        omega arith;
  }

-- a row is in the one part or in the other
pub put_parted : (p : Part) (r : Row) → HasPut r p → HasPut r (users_part p) ⊎ HasPut r (copies_part p)
put_parted p r had = by r.copy refl
  where
    by : (b : Bool) → r.copy ≡ b → HasPut r (users_part p) ⊎ HasPut r (copies_part p)
    by true is = inr (kept (λ (r : Row). r.copy) p.puts had.0 r had.1 is)
    by false is = inl (kept (λ (r : Row). not r.copy) p.puts had.0 r had.1 (ap not is))

-- more claims and puts of a class
module _ (copy : Bool) where
  abbrev IsClaimOf : Claim → Type 0
  IsClaimOf c = c.copy ≡ copy

  abbrev IsRowOf : Row → Type 0
  IsRowOf r = r.copy ≡ copy

  pub class_joined : (p q r : Part) → r.claims ≡ p.claims ++ q.claims → r.puts ≡ p.puts ++ q.puts → IsOfClass copy p → IsOfClass copy q → IsOfClass copy r
  class_joined p q r claims puts h k = record {
    claims = each_of_all IsClaimOf r.claims (subst (AllByRecursion IsClaimOf) (sym claims)
        (all_append IsClaimOf p.claims q.claims (all_of_each IsClaimOf p.claims h.claims) (all_of_each IsClaimOf q.claims k.claims)));
    puts = each_of_all IsRowOf r.puts (subst (AllByRecursion IsRowOf) (sym puts)
        (all_append IsRowOf p.puts q.puts (all_of_each IsRowOf p.puts h.puts) (all_of_each IsRowOf q.puts k.puts)));
  }

  pub class_same : (p q : Part) → q.claims ≡ p.claims → q.puts ≡ p.puts → IsOfClass copy p → IsOfClass copy q
  class_same p q same_claims same_puts h = record {
    claims = λ i c at. h.claims i c (ap (λ l. get_elem? l i) (sym same_claims) ∙ at);
    puts = λ i r at. h.puts i r (ap (λ l. get_elem? l i) (sym same_puts) ∙ at);
  }

rows_class : (c : Class) (at : ℕ) (ds : List Draft) → AllByRecursion (λ (r : Row). r.copy ≡ is_copy c) (rows_from c at ds)
rows_class c at [] = tt
rows_class c at (d ∷ ds) = (refl, rows_class c (at + 1) ds)

-- a claim, and what was put at its positions
pub class_placed : (c : Class) (p q : Part) (first count at : ℕ) (ds : List Draft)
    → q.claims ≡ p.claims ++ record { first = first; count = count; copy = is_copy c } ∷ [] → q.puts ≡ p.puts ++ rows_from c at ds → IsOfClass (is_copy c) p
    → IsOfClass (is_copy c) q
class_placed c p q first count at ds claims puts h =
    let claim : Claim = record { first = first; count = count; copy = is_copy c } in
    class_joined (is_copy c) p (record p { claims = claim ∷ []; puts = rows_from c at ds }) q claims puts h (record {
      claims = each_of_all (IsClaimOf (is_copy c)) (claim ∷ []) (refl, tt);
      puts = each_of_all (IsRowOf (is_copy c)) (rows_from c at ds) (rows_class c at ds);
    })
