-- Rows in the order of their positions, and a sort by them.
use Rattle.std.proofs.Common.{ℕ, suc, ◌<◌, ◌≤◌, ◌≡◌, ◌&&◌, not, Bool, true, false, nat_eq, cond, List, [], ◌∷◌, ◌++◌, length, get_or, sym, refl, ap, subst, ◌∙◌, arith, inl, inr}
use Rattle.std.specs.Prelude.{⊤}
use Rattle.std.specs.List.{AllByRecursion, filter}
use Rattle.std.specs.List.Sorted.{IsNonDecreasingBy, IsStableByKey, ties}
use Rattle.std.specs.Ordering.{is_lt, nat_cmp}
use Rattle.std.proofs.lemmas.Bool.{cases_lt, lt-ltb, le-ltb, eqb-true, false≢true, eq-eqb, ne_eqb}
use Rattle.run_report.specs.declared.rows.Row.{Row}
use Rattle.run_report.specs.Rows.{in_order}
use Rattle.block_port.specs.ByPlace.{KeysRise}
use Rattle.block_port.proofs.Ordering.{order_rises, passing_order, rising_stay}
use Rattle.pblk_model.proofs.Lists.{all_of}
use Rattle.pblk_model.proofs.Maps.{all_passed}

-- rows of positions that don't fall, from one on
abbrev pub Climbs : ℕ → List Row → Type 0
Climbs low [] = ⊤
Climbs low (row ∷ rows) = (low ≤ row.first) × Climbs row.first rows

climbs : (low : ℕ) (rows : List Row) → IsNonDecreasingBy (λ r. r.first) rows → ((d : Row) → 0 < length rows → low ≤ (get_or rows 0 d).first) → Climbs low rows
climbs low [] h first = tt
climbs low (row ∷ rows) h first = (
  first row (omega arith),
  climbs row.first rows (λ i j d le below. h (suc i) (suc j) d (omega (arith, le)) (omega (arith, below)))
      (λ d some. h 0 1 d (omega arith) (omega (arith, some))),
)

-- that is to say that their positions rise
rises_climb : (low : ℕ) (rows : List Row) → AllByRecursion (λ row. low ≤ row.first) rows → KeysRise (λ (row : Row). row.first) rows → Climbs low rows
rises_climb low [] above h = tt
rises_climb low (row ∷ rows) above h = (above.0, rises_climb row.first rows h.0 h.1)

climbs_above : (low high : ℕ) (rows : List Row) → low ≤ high → Climbs high rows → AllByRecursion (λ row. low ≤ row.first) rows
climbs_above low high [] le h = tt
climbs_above low high (row ∷ rows) le h = (omega (arith, le, h.0), climbs_above low row.first rows (omega (arith, le, h.0)) h.1)

pub climbs_rise : (low : ℕ) (rows : List Row) → Climbs low rows → KeysRise (λ (row : Row). row.first) rows
climbs_rise low [] h = tt
climbs_rise low (row ∷ rows) h = (climbs_above row.first row.first rows (omega arith) h.1, climbs_rise row.first rows h.1)

order_climbs : (rows : List Row) → Climbs 0 (in_order rows)
order_climbs rows = rises_climb 0 (in_order rows) (all_of (λ (row : Row). 0 ≤ row.first) (λ row. omega arith) (in_order rows))
    (order_rises (λ row. row.first) rows)

-- The rows at a position stand in the order that they had.

abbrev those_at : ℕ → List Row → List Row
those_at p rows = filter (λ r. nat_eq r.first p) rows

-- they rise, as all stand there
level : (p : ℕ) (rows : List Row) → AllByRecursion (λ row. nat_eq row.first p ≡ true) rows → Climbs p rows
level p [] here = tt
level p (row ∷ rows) here =
    let at : row.first ≡ p = eqb-true row.first p here.0 in
    (omega (arith, at), subst (λ (n : ℕ). Climbs n rows) (sym at) (level p rows here.1))

order_at : (p : ℕ) (rows : List Row) → those_at p (in_order rows) ≡ those_at p rows
order_at p rows = passing_order (λ (row : Row). row.first) (λ (row : Row). nat_eq row.first p) rows
    ∙ rising_stay (λ (row : Row). row.first) (those_at p rows)
    (climbs_rise p (those_at p rows) (level p (those_at p rows) (all_passed (λ (row : Row). nat_eq row.first p) rows)))

-- Rows that climb are what they have at each position.

none_at : (low p : ℕ) (rows : List Row) → p < low → Climbs low rows → those_at p rows ≡ []
none_at low p [] below h = refl
none_at low p (row ∷ rows) below h =
    rw (ne_eqb row.first p (λ s. absurd (omega (arith, s, below, h.0)))) (none_at row.first p rows (omega (arith, below, h.0)) h.1)

-- the first of two such lists
not_below : (x y : Row) (xs ys : List Row) → Climbs y.first ys → those_at x.first (x ∷ xs) ≡ those_at x.first (y ∷ ys) → y.first ≤ x.first
not_below x y xs ys k same =
    elim (cases_lt x.first y.first) [
      | inl below ↦
          let none : those_at x.first (y ∷ ys) ≡ [] = none_at y.first x.first (y ∷ ys) below (omega arith, k) in
          let some : those_at x.first (x ∷ xs) ≡ x ∷ those_at x.first xs = rw (eq-eqb x.first x.first refl) refl in
          let both : x ∷ those_at x.first xs ≡ [] = sym some ∙ same ∙ none in
          absurd (cc)
      | inr past ↦ past
    ]

same_first : (b : Bool) (x y : Row) (xs ys : List Row) → b ≡ true → cond b (x ∷ xs) xs ≡ cond b (y ∷ ys) ys → x ≡ y
same_first true x y xs ys is h = cc
same_first false x y xs ys is h = absurd (false≢true is)

same_rest : (b : Bool) (x y : Row) (xs ys : List Row) → cond b (x ∷ xs) xs ≡ cond b (y ∷ ys) ys → xs ≡ ys
same_rest true x y xs ys h = cc
same_rest false x y xs ys h = h

same_rows : (low : ℕ) (xs ys : List Row) → Climbs low xs → Climbs low ys → ((p : ℕ) → those_at p xs ≡ those_at p ys) → xs ≡ ys
same_rows low [] [] h k same = refl
same_rows low [] (y ∷ ys) h k same = absurd (let e = rw (eq-eqb y.first y.first refl) at (same y.first) in cc)
same_rows low (x ∷ xs) [] h k same = absurd (let e = rw (eq-eqb x.first x.first refl) at (same x.first) in cc)
same_rows low (x ∷ xs) (y ∷ ys) h k same =
    let up = not_below x y xs ys k.1 (same x.first) in
    let down = not_below y x ys xs h.1 (sym (same y.first)) in
    let e : y.first ≡ x.first = omega (arith, up, down) in
    let alike : (p : ℕ) → cond (nat_eq x.first p) (x ∷ those_at p xs) (those_at p xs) ≡ cond (nat_eq x.first p) (y ∷ those_at p ys) (those_at p ys) =
    λ p. same p ∙ ap (λ (n : ℕ). cond (nat_eq n p) (y ∷ those_at p ys) (those_at p ys)) e in
    let first = same_first (nat_eq x.first x.first) x y (those_at x.first xs) (those_at x.first ys) (eq-eqb x.first x.first refl) (alike x.first) in
    let climb : Climbs x.first ys = subst (λ (n : ℕ). Climbs n ys) e k.1 in
    ap (λ (row : Row). row ∷ xs) first ∙ ap (λ zs. y ∷ zs)
    (same_rows x.first xs ys h.1 climb (λ p. same_rest (nat_eq x.first p) x y (those_at p xs) (those_at p ys) (alike p)))

-- A stable sort by position puts rows in order.

ties_are : (m n : ℕ) → (not (is_lt (nat_cmp m n)) && not (is_lt (nat_cmp n m))) ≡ nat_eq n m
ties_are m n =
    elim (cases_lt m n) [
      | inl below ↦ rw (lt-ltb m n below, ne_eqb n m (λ s. absurd (omega (arith, s, below)))) refl
      | inr past ↦ elim (cases_lt n m) [
        | inl under ↦ rw (
          le-ltb m n past,
          ne_eqb m n (λ s. absurd (omega (arith, s, under))),
          lt-ltb n m under,
          ne_eqb n m
              (λ s. absurd (omega (arith, s, under))),
        ) refl
        | inr over ↦ let e : m ≡ n = omega (arith, past, over) in rw (e, le-ltb n n (omega arith), eq-eqb n n refl) refl
      ]
    ]

filter_alike : (p q : Row → Bool) → ((row : Row) → p row ≡ q row) → (rows : List Row) → filter p rows ≡ filter q rows
filter_alike p q h [] = refl
filter_alike p q h (row ∷ rows) = rw (h row) (ap (λ xs. cond (q row) (row ∷ xs) xs) (filter_alike p q h rows))

pub sorted : (rows start all out : List Row) → start ≡ [] → all ≡ start ++ rows → IsNonDecreasingBy (λ r. r.first) out
    → IsStableByKey (λ (r : Row). r.first) nat_cmp all out → out ≡ in_order rows
sorted rows start all out none made climb stable =
    let is : all ≡ rows = made ∙ ap (λ xs. xs ++ rows) none in
    same_rows 0 out (in_order rows) (climbs 0 out climb (λ d some. omega arith)) (order_climbs rows)
    (λ p.
    let tie : Row → Bool = ties (λ x y. is_lt (nat_cmp x.first y.first)) (record { first = p; thread = 0; lba = 0; count = 0; tag = 0 }) in
    let alike = filter_alike tie (λ r. nat_eq r.first p) (λ r. ties_are p r.first) in
    sym (alike out) ∙ stable (record { first = p; thread = 0; lba = 0; count = 0; tag = 0 }) ∙ alike all ∙ ap (those_at p) is ∙ sym (order_at p rows))
