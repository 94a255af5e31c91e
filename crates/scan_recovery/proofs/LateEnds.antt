-- Where the positions of a head's mount end is told by those of its records that aren't below its front.
use Rattle.std.proofs.Common.{◌≡◌, ℕ, ◌+◌, ◌-◌, ◌<◌, ◌≤◌, ◌==◌, ◌&&◌, ◌||◌, zero, suc, not, nat_le, nat_lt, inl, inr, Bool, true, false, cond, Option, Some, None, List, [], ◌∷◌, length, refl, sym, ap, ◌∙◌, arith}
use Rattle.std.specs.List.{filter, range_with_len}
use Rattle.std.proofs.lemmas.Bool.{cases_Bool, eqb-true, le-ltb, ne_eqb}
use Rattle.pblk_model.specs.StartRecord.{StartRecord}
use Rattle.pblk_model.specs.Records.{Record}
use Rattle.pblk_model.specs.Contents.{is_borne, least_missing, end_after}
use Rattle.scan_recovery.specs.Mounts.{is_late}

-- How many of n positions from p on are borne.

abbrev ones : Bool → ℕ
ones b = cond b 1 0

holding : (ℕ → Bool) → ℕ → ℕ → ℕ
holding f p n = length (filter f (range_with_len p n))

more_at : (b : Bool) (x : ℕ) (xs : List ℕ) → length (cond b (x ∷ xs) xs) ≡ ones b + length xs
more_at true x xs = omega arith
more_at false x xs = omega arith

holding_one : (f : ℕ → Bool) (p n : ℕ) → holding f p (suc n) ≡ ones (f p) + holding f (p + 1) n
unfolding holding
holding_one f p n = more_at (f p) p (filter f (range_with_len (p + 1) n))

-- one record bears at most one of them
bears : Bool → ℕ → (ℕ → Bool) → ℕ → Bool
bears b at g q = (b && (at == q)) || g q

beside : (b : Bool) (at : ℕ) (g : ℕ → Bool) (q : ℕ) → at < q → bears b at g q ≡ g q
unfolding bears
beside b at g q below = ap (λ c. (b && c) || g q) (ne_eqb at q (λ e. omega arith)) ∙ by b where
  by : (c : Bool) → (c && false) || g q ≡ g q
  by true = refl
  by false = refl

none_more : (b : Bool) (at : ℕ) (g : ℕ → Bool) (p n : ℕ) → at < p → holding (bears b at g) p n ≡ holding g p n
unfolding holding
none_more b at g p zero below = refl
none_more b at g p (suc n) below =
    let here : ones (bears b at g p) ≡ ones (g p) = ap ones (beside b at g p below) in
    let rest = none_more b at g (p + 1) n (omega arith) in
    let f = holding_one (bears b at g) p n in
    let h = holding_one g p n in
    omega arith

one_more : (b : Bool) (at : ℕ) (g : ℕ → Bool) (p n : ℕ) → holding (bears b at g) p n ≤ holding g p n + 1
unfolding holding bears
one_more b at g p zero = omega arith
one_more b at g p (suc n) =
    let f = holding_one (bears b at g) p n in
    let h = holding_one g p n in
    elim (cases_Bool (b && (at == p))) [
      | inl e ↦
          let same : at ≡ p = eqb-true at p (second b (at == p) e) in
          let rest = none_more b at g (p + 1) n (omega arith) in
          let few = at_most (bears b at g p) in
          omega arith
      | inr e ↦
          let here : ones (bears b at g p) ≡ ones (g p) = ap (λ c. ones (c || g p)) e in
          let rest = one_more b at g (p + 1) n in
          omega arith
    ] where
      second : (a c : Bool) → a && c ≡ true → c ≡ true
      second true c h = h
      second false c h = absurd cc

      at_most : (c : Bool) → ones c ≤ 1
      at_most true = omega arith
      at_most false = omega arith

none_held : (p n : ℕ) → holding (λ q. false) p n ≤ 0
unfolding holding
none_held p zero = omega arith
none_held p (suc n) = none_held (p + 1) n

few_borne : (rs : List Record) (h : StartRecord) (p n : ℕ) → holding (is_borne rs h) p n ≤ length rs
unfolding bears
few_borne [] h p n = none_held p n
few_borne (r ∷ rs) h p n =
    let one : holding (is_borne (r ∷ rs) h) p n ≤ holding (is_borne rs h) p n + 1 = one_more (nat_le h.first_seq r.seq) r.position (is_borne rs h) p n in
    let rest = few_borne rs h p n in
    omega arith

-- The least that isn't borne is found within as many turns as there are records, and so within more.

found_soon : (f : ℕ → Bool) (n k p : ℕ) → holding f p (suc n) ≤ n → least_missing f n p ≡ least_missing f (n + k) p
unfolding least_missing
found_soon f zero zero p few = refl
found_soon f zero (suc k) p few =
    let one = holding_one f p 0 in
    let next : 0 + suc k ≡ suc k = omega arith in
    elim (cases_Bool (f p)) [
      | inl e ↦ let here = ap ones e in absurd (omega (arith, few, one, here))
      | inr e ↦ sym (ap (λ m. least_missing f m p) next ∙ ap (λ c. cond c (least_missing f k (p + 1)) p) e)
    ]
found_soon f (suc n) k p few =
    let one = holding_one f p (suc n) in
    let next : suc n + k ≡ suc (n + k) = omega arith in
    elim (cases_Bool (f p)) [
      | inl e ↦
          let here = ap ones e in
          ap (λ x. cond (f p) x p) (found_soon f n k (p + 1) (omega (arith, few, one, here))) ∙ sym (ap (λ m. least_missing f m p) next)
      | inr e ↦ ap (λ c. cond c (least_missing f n (p + 1)) p) e
          ∙ sym (ap (λ m. least_missing f m p) next ∙ ap (λ c. cond c (least_missing f (n + k) (p + 1)) p) e)
    ]

missing_same : (f g : ℕ → Bool) (n p : ℕ) → ((q : ℕ) → p ≤ q → f q ≡ g q) → least_missing f n p ≡ least_missing g n p
unfolding least_missing
missing_same f g zero p same = refl
missing_same f g (suc n) p same =
    ap (λ c. cond c (least_missing f n (p + 1)) p) (same p (omega arith))
    ∙ ap (λ x. cond (g p) x p) (missing_same f g n (p + 1) (λ q low. same q (omega arith)))

-- The late ones bear all from the front on.

abbrev bears_at : StartRecord → ℕ → Record → Bool
bears_at h q r = nat_le h.first_seq r.seq && (r.position == q)

late_bears : (a : Bool) (at q front : ℕ) → front ≤ q → a && (at == q) ≡ (a && not (nat_lt at front)) && (a && (at == q))
late_bears false at q front low = refl
late_bears true at q front low = elim (cases_Bool (at == q)) [
  | inl e ↦
      let same : at ≡ q = eqb-true at q e in
      let past = ap not (le-ltb at front (omega arith)) in
      e ∙ sym (ap (λ c. c && (at == q)) past ∙ e)
  | inr e ↦ e ∙ sym (ap (λ c. not (nat_lt at front) && c) e ∙ none (not (nat_lt at front)))
] where
  none : (c : Bool) → c && false ≡ false
  none true = refl
  none false = refl

kept_any : (h : StartRecord) (q : ℕ) (r : Record) (rs : List Record) (b : Bool) → bears_at h q r ≡ b && bears_at h q r
    → is_borne (cond b (r ∷ rs) rs) h q ≡ bears_at h q r || is_borne rs h q
kept_any h q r rs true e = refl
kept_any h q r rs false e = sym (ap (λ b. b || is_borne rs h q) e)

late_any : (h : StartRecord) (q : ℕ) (rs : List Record) → h.front ≤ q → is_borne (filter (is_late (Some h)) rs) h q ≡ is_borne rs h q
late_any h q [] low = refl
late_any h q (r ∷ rs) low =
    kept_any h q r (filter (is_late (Some h)) rs) (is_late (Some h) r) (late_bears (nat_le h.first_seq r.seq) r.position q h.front low)
    ∙ ap (λ b. bears_at h q r || b) (late_any h q rs low)

pub few_late : (p : Record → Bool) (rs : List Record) → length (filter p rs) ≤ length rs
few_late p [] = omega arith
few_late p (r ∷ rs) = by (p r) (few_late p rs) where
  by : (b : Bool) → length (filter p rs) ≤ length rs → length (cond b (r ∷ filter p rs) (filter p rs)) ≤ suc (length rs)
  by true f = omega arith
  by false f = omega arith

pub end_late : (rs : List Record) (o : Option StartRecord) → end_after (filter (is_late o) rs) o ≡ end_after rs o
end_late rs None = refl
end_late rs (Some h) =
    let late : List Record = filter (is_late (Some h)) rs in
    let less = few_late (is_late (Some h)) rs in
    let all : length late + (length rs - length late) ≡ length rs = omega arith in
    found_soon (is_borne late h) (length late) (length rs - length late) h.front (few_borne late h h.front (suc (length late)))
    ∙ ap (λ n. least_missing (is_borne late h) n h.front) all
    ∙ missing_same (is_borne late h) (is_borne rs h) (length rs) h.front (λ q low. late_any h q rs low)
