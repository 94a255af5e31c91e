-- The newest record of a sector, as a fact.
use Rattle.std.proofs.Common.{◌≡◌, ◌≢◌, ℕ, ◌<◌, ◌==◌, ◌&&◌, ◌||◌, ◌⊎◌, Bool, true, false, cond, ltb, Option, Some, None, List, [], ◌∷◌, refl, sym, ap, ◌∙◌, subst, arith, inl, inr}
use Rattle.std.specs.Prelude.{◌↔◌}
use Rattle.std.specs.List.{Contains, filter, fold}
use Rattle.std.proofs.lemmas.Bool.{cases_Bool, cases_order, lt-ltb, eq-eqb, eqb-true, ltb-true, and_parts, and_from, or_cases, or_left, or_right, both_ways, false_from_ne_true, true≢false}
use Rattle.pblk_model.specs.Image.{Image}
use Rattle.pblk_model.specs.Records.{Record}
use Rattle.pblk_model.specs.Contents.{IsNewer, is_newer, newer, is_of, winner, IsWinner, counted}
use Rattle.pblk_laws.proofs.RecordPlaces.{counted_alike}
use Rattle.pblk_model.proofs.Lists.{contains_cases, contains_first, contains_more}
use Rattle.pblk_model.proofs.ContentsLemmas.{of_same}

-- One number is less than another, or they are equal and more holds.

abbrev Lex : ℕ → ℕ → Type 0 → Type 0
Lex p q More = (p < q) ⊎ ((p ≡ q) × More)

lex_is : (p q : ℕ) (more : Bool) (More : Type 0) → (more ≡ true → More) → (ltb p q || ((p == q) && more)) ≡ true → Lex p q More
lex_is p q more More is e = elim (or_cases (ltb p q) ((p == q) && more) e) [
  | inl a ↦ inl (ltb-true p q a)
  | inr a ↦ let b = and_parts (p == q) more a in inr (eqb-true p q b.0, is b.1)
]

lex_from : (p q : ℕ) (more : Bool) (More : Type 0) → (More → more ≡ true) → Lex p q More → (ltb p q || ((p == q) && more)) ≡ true
lex_from p q more More from (inl a) = or_left (ltb p q) ((p == q) && more) (lt-ltb p q a)
lex_from p q more More from (inr a) = or_right (ltb p q) ((p == q) && more) (and_from (p == q) more (eq-eqb p q a.0) (from a.1))

lex_then : (p q r : ℕ) (A B C : Type 0) → (A → B → C) → Lex p q A → Lex q r B → Lex p r C
lex_then p q r A B C join (inl a) (inl b) = inl (omega arith)
lex_then p q r A B C join (inl a) (inr b) = inl (let e = b.0 in omega arith)
lex_then p q r A B C join (inr a) (inl b) = inl (let e = a.0 in omega arith)
lex_then p q r A B C join (inr a) (inr b) = inr (a.0 ∙ b.0, join a.1 b.1)

lex_not : (p : ℕ) (A : Type 0) → (A → ⊥) → Lex p p A → ⊥
lex_not p A not (inl a) = omega arith
lex_not p A not (inr a) = not a.1

lex_either : (p q : ℕ) (A B C : Type 0) → A ⊎ (B ⊎ C) → Lex p q A ⊎ (Lex q p B ⊎ ((p ≡ q) × C))
lex_either p q A B C more = elim (cases_order p q) [
  | inl e ↦ elim more [
    | inl a ↦ inl (inr (e, a))
    | inr rest ↦ elim rest [ inl b ↦ inr (inl (inr (sym e, b))) | inr c ↦ inr (inr (e, c)) ]
  ]
  | inr other ↦ elim other [ inl less ↦ inl (inl less) | inr more ↦ inr (inl (inl more)) ]
]

-- The order of records.

newer_is : (a b : Record) → is_newer a b ≡ true → IsNewer a b
newer_is a b e = lex_is a.position b.position _ _ (lex_is a.seq b.seq _ _ (lex_is a.at b.at _ _ (ltb-true b.line a.line))) e

newer_from : (a b : Record) → IsNewer a b → is_newer a b ≡ true
newer_from a b h = lex_from a.position b.position _ _ (lex_from a.seq b.seq _ _ (lex_from a.at b.at _ _ (lt-ltb b.line a.line))) h

less_then : (a b c : ℕ) → b < a → c < b → c < a
less_then a b c h k = omega arith

newer_then : (a b c : Record) → IsNewer a b → IsNewer b c → IsNewer a c
newer_then a b c h k =
    lex_then a.position b.position c.position _ _ _ (lex_then a.seq b.seq c.seq _ _ _ (lex_then a.at b.at c.at _ _ _ (less_then a.line b.line c.line))) h k

not_less : (a : ℕ) → a < a → ⊥
not_less a h = omega arith

newer_not : (a : Record) → IsNewer a a → ⊥
newer_not a h = lex_not a.position _ (lex_not a.seq _ (lex_not a.at _ (not_less a.line))) h

lines_either : (m n : ℕ) → (n < m) ⊎ ((m < n) ⊎ (m ≡ n))
lines_either m n = elim (cases_order m n) [ inl e ↦ inr (inr e) | inr other ↦ elim other [ inl less ↦ inr (inl less) | inr more ↦ inl more ] ]

IsAlike : Record → Record → Type 0
IsAlike a b = (a.position ≡ b.position) × ((a.seq ≡ b.seq) × ((a.at ≡ b.at) × (a.line ≡ b.line)))

newer_either : (a b : Record) → IsNewer a b ⊎ (IsNewer b a ⊎ IsAlike a b)
unfolding IsAlike
newer_either a b = lex_either a.position b.position _ _ _ (lex_either a.seq b.seq _ _ _ (lex_either a.at b.at _ _ _ (lines_either a.line b.line)))

newer_itself : (r : Record) → is_newer r r ≡ false
newer_itself r = false_from_ne_true (is_newer r r) (λ e. newer_not r (newer_is r r e))

newer_than_newer : (b r x : Record) → is_newer b r ≡ false → is_newer b x ≡ true → is_newer x r ≡ false
newer_than_newer b r x first second =
    false_from_ne_true (is_newer x r) (λ e. both_ways (is_newer b r) first (newer_from b r (newer_then b x r (newer_is b x second) (newer_is x r e))))

-- the newest of what was seen
IsNewest : (Record → Type 0) → Option Record → Type 0
IsNewest Seen None = (r : Record) → Seen r → ⊥
IsNewest Seen (Some b) = Seen b × ((r : Record) → Seen r → is_newer b r ≡ false)

newest_same : (Seen Other : Record → Type 0) (o : Option Record) → ((r : Record) → Seen r → Other r) → ((r : Record) → Other r → Seen r) → IsNewest Seen o
    → IsNewest Other o
unfolding IsNewest
newest_same Seen Other None to from is = λ r h. is r (from r h)
newest_same Seen Other (Some b) to from is = (to b is.0, λ r h. is.1 r (from r h))

newest_more : (Seen : Record → Type 0) (o : Option Record) (x : Record) → IsNewest Seen o → IsNewest (λ r. Seen r ⊎ (x ≡ r)) (newer o x)
unfolding IsNewest
newest_more Seen None x is = (inr refl, λ r h. elim h [ inl seen ↦ absurd (is r seen) | inr same ↦ subst (λ y. is_newer x y ≡ false) same (newer_itself x) ])
newest_more Seen (Some b) x is = elim (cases_Bool (is_newer b x)) [
  | inl e ↦ subst (λ c. IsNewest (λ r. Seen r ⊎ (x ≡ r)) (cond c (Some x) (Some b))) (sym e)
      (inr refl, λ r h. elim h [ inl seen ↦ newer_than_newer b r x (is.1 r seen) e | inr same ↦ subst (λ y. is_newer x y ≡ false) same (newer_itself x) ])
  | inr e ↦ subst (λ c. IsNewest (λ r. Seen r ⊎ (x ≡ r)) (cond c (Some x) (Some b))) (sym e)
      (inl is.0, λ r h. elim h [ inl seen ↦ is.1 r seen | inr same ↦ subst (λ y. is_newer b y ≡ false) same e ])
]

pub lba_is : (lba : ℕ) (o : Option ℕ) → is_of lba o ≡ true → o ≡ Some lba
lba_is lba None e = absurd (true≢false (sym e))
lba_is lba (Some other) e = ap Some (eqb-true other lba e)

SeenOf : ℕ → (Record → Type 0) → List Record → Record → Type 0
SeenOf lba Seen rs r = Seen r ⊎ (Contains rs r × (r.lba ≡ Some lba))

newest_is : (lba : ℕ) (rs : List Record) (Seen : Record → Type 0) (o : Option Record) → IsNewest Seen o
    → IsNewest (SeenOf lba Seen rs) (fold newer o (filter (λ r. is_of lba r.lba) rs))
unfolding SeenOf
newest_is lba [] Seen o is = newest_same Seen (SeenOf lba Seen []) o (λ r h. inl h)
    (λ r h. elim h [ inl seen ↦ seen | inr there ↦ absurd (let inside = there.0.1 in omega arith) ]) is
newest_is lba (x ∷ rs) Seen o is =
    let rest = filter (λ (r : Record). is_of lba r.lba) rs in
    elim (cases_Bool (is_of lba x.lba)) [
      | inl e ↦
          let Next : Record → Type 0 = λ r. Seen r ⊎ (x ≡ r) in
          let last : IsNewest (SeenOf lba Next rs) (fold newer (newer o x) rest) = newest_is lba rs Next (newer o x) (newest_more Seen o x is) in
          let same : IsNewest (SeenOf lba Seen (x ∷ rs)) (fold newer (newer o x) rest) =
          newest_same (SeenOf lba Next rs) (SeenOf lba Seen (x ∷ rs)) (fold newer (newer o x) rest)
          (λ r h. elim h [
            | inl next ↦ elim next [
              | inl seen ↦ inl seen
              | inr here ↦ inr
                  (subst (Contains (x ∷ rs)) here (contains_first x rs), subst (λ (y : Record). y.lba ≡ Some lba) here (lba_is lba x.lba e))
            ]
            | inr there ↦ inr (contains_more x r rs there.0, there.1)
          ])
          (λ r h. elim h [
            | inl seen ↦ inl (inl seen)
            | inr there ↦ elim (contains_cases x r rs there.0) [ inl here ↦ inl (inr here) | inr later ↦ inr (later, there.1) ]
          ]) last in
          subst (λ b. IsNewest (SeenOf lba Seen (x ∷ rs)) (fold newer o (cond b (x ∷ rest) rest))) (sym e) same
      | inr e ↦
          let last : IsNewest (SeenOf lba Seen rs) (fold newer o rest) = newest_is lba rs Seen o is in
          let same : IsNewest (SeenOf lba Seen (x ∷ rs)) (fold newer o rest) = newest_same (SeenOf lba Seen rs) (SeenOf lba Seen (x ∷ rs)) (fold newer o rest)
          (λ r h. elim h [ inl seen ↦ inl seen | inr there ↦ inr (contains_more x r rs there.0, there.1) ])
          (λ r h. elim h [
            | inl seen ↦ inl seen
            | inr there ↦ elim (contains_cases x r rs there.0) [
              | inl here ↦ absurd (both_ways (is_of lba r.lba) (subst (λ (y : Record). is_of lba y.lba ≡ false) here e) (of_same lba r.lba there.1))
              | inr later ↦ inr (later, there.1)
            ]
          ]) last in
          subst (λ b. IsNewest (SeenOf lba Seen (x ∷ rs)) (fold newer o (cond b (x ∷ rest) rest))) (sym e) same
    ]

winner_newest : (rs : List Record) (lba : ℕ) → IsNewest (SeenOf lba (λ r. ⊥) rs) (winner rs lba)
unfolding IsNewest
winner_newest rs lba = newest_is lba rs (λ r. ⊥) None (λ r h. h)

record_alike : (i : Image) (lba : ℕ) (r other : Record) → IsNewest (SeenOf lba (λ x. ⊥) (counted i)) (Some r) → Contains (counted i) r
    → Contains (counted i) other → other.lba ≡ Some lba → (other ≡ r) ⊎ IsNewer other r
unfolding IsNewest SeenOf IsAlike
record_alike i lba r other is there inside same = elim (newer_either other r) [
  | inl older ↦ inr older
  | inr rest ↦ elim rest [
    | inl newer ↦ absurd (both_ways (is_newer r other) (is.1 other (inr (inside, same))) (newer_from r other newer))
    | inr alike ↦ inl (counted_alike i other r inside there alike.1.1.1 alike.1.1.0)
  ]
]

pub winner_is_winner : (i : Image) (lba : ℕ) (r : Record) → winner (counted i) lba ≡ Some r → IsWinner (counted i) lba r
unfolding IsNewest SeenOf
winner_is_winner i lba r e =
    let is : IsNewest (SeenOf lba (λ x. ⊥) (counted i)) (Some r) = subst (IsNewest (SeenOf lba (λ x. ⊥) (counted i))) e (winner_newest (counted i) lba) in
    elim is.0 [
      | inl none ↦ absurd none
      | inr there ↦ record { there = there.0; of_it = there.1; newest = λ other inside same. record_alike i lba r other is there.0 inside same }
    ]

only_winner : (rs : List Record) (lba : ℕ) (r : Record) (o : Option Record) → IsNewest (SeenOf lba (λ x. ⊥) rs) o → IsWinner rs lba r → o ≡ Some r
unfolding IsNewest SeenOf
only_winner rs lba r None is w = absurd (is r (inr (w.there, w.of_it)))
only_winner rs lba r (Some b) is w = elim is.0 [
  | inl none ↦ absurd none
  | inr there ↦ elim (w.newest b there.0 there.1) [
    | inl same ↦ ap Some same
    | inr newer ↦ absurd (both_ways (is_newer b r) (is.1 r (inr (w.there, w.of_it))) (newer_from b r newer))
  ]
]

pub winner_is_only : (rs : List Record) (lba : ℕ) (r : Record) → IsWinner rs lba r → winner rs lba ≡ Some r
winner_is_only rs lba r w = only_winner rs lba r (winner rs lba) (winner_newest rs lba) w

pub no_winner_no_record : (rs : List Record) (lba : ℕ) (r : Record) → winner rs lba ≡ None → Contains rs r → r.lba ≢ Some lba
unfolding IsNewest SeenOf
no_winner_no_record rs lba r e inside same =
    let is : IsNewest (SeenOf lba (λ x. ⊥) rs) None = subst (IsNewest (SeenOf lba (λ x. ⊥) rs)) e (winner_newest rs lba) in
    is r (inr (inside, same))

no_record_none : (rs : List Record) (lba : ℕ) (o : Option Record) → IsNewest (SeenOf lba (λ x. ⊥) rs) o → ((r : Record) → Contains rs r → r.lba ≢ Some lba)
    → o ≡ None
unfolding IsNewest SeenOf
no_record_none rs lba None is none = refl
no_record_none rs lba (Some b) is none = elim is.0 [ inl seen ↦ absurd seen | inr there ↦ absurd (none b there.0 there.1) ]

pub no_winner : (rs : List Record) (lba : ℕ) → (winner rs lba ≡ None) ↔ ((r : Record) → Contains rs r → r.lba ≢ Some lba)
no_winner rs lba = (λ e r. no_winner_no_record rs lba r e, λ none. no_record_none rs lba (winner rs lba) (winner_newest rs lba) none)
