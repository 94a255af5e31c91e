-- The end of an image's records, as a fact.
use Rattle.std.proofs.Common.{◌≡◌, ℕ, ◌+◌, ◌<◌, ◌≤◌, ◌==◌, ◌&&◌, zero, suc, not, Bool, true, false, cond, eqb, leb, Some, List, [], ◌∷◌, length, refl, sym, ap, subst, arith, inl, inr}
use Rattle.std.specs.List.{Contains, filter, list_any}
use Rattle.std.proofs.lemmas.Bool.{cases_Bool, cases_eq, cases_lt, cases_order, ne_eqb, eqb-true, leb-true, le-leb, eq-eqb, and_parts, and_from, and_right, or_cases, or_left, or_right, both_ways, false_from_ne_true, true≢false}
use Rattle.pblk_model.specs.Image.{Image}
use Rattle.pblk_model.specs.StartRecord.{StartRecord}
use Rattle.pblk_model.specs.Records.{Record, records}
use Rattle.pblk_model.specs.Contents.{head, Bears, is_borne, least_missing, IsEnd, end_after, end}
use Rattle.pblk_model.proofs.Lists.{contains_cases, contains_first, contains_more, contains_none}

-- The least position that isn't borne.

record IsLeastWithin (borne : ℕ → Bool) (n p m : ℕ) : Type 0 where
  low : p ≤ m
  high : m ≤ p + n
  passed : (q : ℕ) → p ≤ q → q < m → borne q ≡ true
  stops : m < p + n → borne m ≡ false

least_step : (borne : ℕ → Bool) (n p : ℕ) (b : Bool) (m : ℕ) → borne p ≡ b → IsLeastWithin borne n (p + 1) m → IsLeastWithin borne (suc n) p (cond b m p)
least_step borne n p true m e rest = record {
  low = omega arith;
  high = omega arith;
  passed = λ q low high. elim (cases_eq p q) [
    | inl same ↦ subst (λ x. borne x ≡ true) same e
    | inr other ↦ rest.passed q (omega arith) high
  ];
  stops = λ h. rest.stops (omega arith);
}
least_step borne n p false m e rest = record {
  low = omega arith;
  high = omega arith;
  passed = λ q low high. absurd (omega arith);
  stops = λ h. e;
}

least_within : (borne : ℕ → Bool) (n p : ℕ) → IsLeastWithin borne n p (least_missing borne n p)
unfolding least_missing
least_within borne zero p = record {
  low = omega arith;
  high = omega arith;
  passed = λ q low high. absurd (omega arith);
  stops = λ h. absurd (omega arith);
}
least_within borne (suc n) p = least_step borne n p (borne p) (least_missing borne n (p + 1)) refl (least_within borne n (p + 1))

-- Records that bear n positions are at least n.

removed_one : {X : Type 0} (test : X → Bool) (xs : List X) → length (filter (λ x. not (test x)) xs) ≤ length xs
removed_one test [] = omega arith
removed_one test (x ∷ xs) =
    elim (cases_Bool (test x)) [
      | inl e ↦ rw e (omega (arith, removed_one test xs))
      | inr e ↦ rw e (omega (arith, removed_one test xs))
    ]

removed : {X : Type 0} (test : X → Bool) (xs : List X) → list_any test xs ≡ true → length (filter (λ x. not (test x)) xs) < length xs
removed test [] some = absurd (true≢false (sym some))
removed test (x ∷ xs) some =
    elim (cases_Bool (test x)) [
      | inl e ↦ rw e (omega (arith, removed_one test xs))
      | inr e ↦ let more : list_any test xs ≡ true = (rw e at some) in rw e (omega (arith, removed test xs more))
    ]

kept : {X : Type 0} (test other : X → Bool) (xs : List X) → ((x : X) → other x ≡ true → test x ≡ false) → list_any other xs ≡ true
    → list_any other (filter (λ x. not (test x)) xs) ≡ true
kept test other [] apart some = some
kept test other (x ∷ xs) apart some =
    elim (cases_Bool (other x)) [
      | inl e ↦ let no : test x ≡ false = apart x e in rw no (or_left (other x) (list_any other (filter (λ y. not (test y)) xs)) e)
      | inr e ↦
          let rest : list_any other (filter (λ y. not (test y)) xs) ≡ true = kept test other xs apart (rw e at some) in
          elim (cases_Bool (test x)) [
            | inl t ↦ rw t rest
            | inr t ↦ rw t (or_right (other x) (list_any other (filter (λ y. not (test y)) xs)) rest)
          ]
    ]

bears_at : ℕ → ℕ → Record → Bool
bears_at first q r = leb first r.seq && eqb r.position q

apart : (first p q : ℕ) (r : Record) → p < q → bears_at first q r ≡ true → bears_at first p r ≡ false
unfolding bears_at
apart first p q r less is = and_right (leb first r.seq) (eqb r.position p)
    (let at : r.position ≡ q = eqb-true r.position q (and_parts (leb first r.seq) (eqb r.position q) is).1 in ne_eqb r.position p (λ e. omega arith))

as_many : (first n p : ℕ) (rs : List Record) → ((q : ℕ) → p ≤ q → q < p + n → list_any (bears_at first q) rs ≡ true) → n ≤ length rs
as_many first zero p rs each = omega arith
as_many first (suc n) p rs each =
    let test = bears_at first p in
    let fewer : length (filter (λ r. not (test r)) rs) < length rs = removed test rs (each p (omega arith) (omega arith)) in
    let rest : n ≤ length (filter (λ r. not (test r)) rs) =
    as_many first n (p + 1) (filter (λ r. not (test r)) rs)
    (λ q low high. kept test (bears_at first q) rs (λ r is. apart first p q r (omega arith) is) (each q (omega arith) (omega arith))) in
    omega arith

-- The end.

end_is_missing : (rs : List Record) (h : StartRecord) (m : ℕ) → IsLeastWithin (is_borne rs h) (length rs) h.front m → is_borne rs h m ≡ false
unfolding bears_at
end_is_missing rs h m least =
    elim (cases_lt m (h.front + length rs)) [
      | inl l ↦ least.stops l
      | inr past ↦ false_from_ne_true (is_borne rs h m) (λ borne.
          let many : suc (length rs) ≤ length rs = as_many h.first_seq (suc (length rs)) h.front rs (λ q low high.
          elim (cases_eq m q) [
            | inl same ↦ subst (λ x. is_borne rs h x ≡ true) same borne
            | inr other ↦ least.passed q low (omega (arith, least.high))
          ]) in
          omega arith)
    ]

-- which record bears a position, and that one does

bearing : (rs : List Record) (h : StartRecord) (p : ℕ) → is_borne rs h p ≡ true → (r : Record) × Contains rs r × Bears h p r
bearing [] h p e = absurd (true≢false (sym e))
bearing (x ∷ rs) h p e = elim (or_cases (leb h.first_seq x.seq && (x.position == p)) (is_borne rs h p) e) [
  | inl here ↦
      let parts = and_parts (leb h.first_seq x.seq) (x.position == p) here in
      (x, contains_first x rs, record { mount = leb-true h.first_seq x.seq parts.0; position = eqb-true x.position p parts.1 })
  | inr later ↦ let rest = bearing rs h p later in (rest.0, contains_more x rest.0 rs rest.1, rest.2)
]

borne : (rs : List Record) (h : StartRecord) (p : ℕ) (r : Record) → Contains rs r → Bears h p r → is_borne rs h p ≡ true
borne [] h p r there bears = absurd (contains_none r there)
borne (x ∷ rs) h p r there bears = elim (contains_cases x r rs there) [
  | inl same ↦
      let here : (leb h.first_seq r.seq && (r.position == p)) ≡ true =
      and_from (leb h.first_seq r.seq) (r.position == p) (le-leb h.first_seq r.seq bears.mount) (eq-eqb r.position p bears.position) in
      or_left (leb h.first_seq x.seq && (x.position == p)) (is_borne rs h p)
      (subst (λ (y : Record). (leb h.first_seq y.seq && (y.position == p)) ≡ true) (sym same) here)
  | inr later ↦ or_right (leb h.first_seq x.seq && (x.position == p)) (is_borne rs h p) (borne rs h p r later bears)
]

end_fact : (rs : List Record) (h : StartRecord) → IsEnd rs h (end_after rs (Some h))
end_fact rs h =
    let least = least_within (is_borne rs h) (length rs) h.front in
    let free : is_borne rs h (end_after rs (Some h)) ≡ false = end_is_missing rs h (end_after rs (Some h)) least in
    record {
      from_front = least.low;
      missing = λ r there bears. both_ways (is_borne rs h (end_after rs (Some h))) free (borne rs h (end_after rs (Some h)) r there bears);
      least = λ q low high. bearing rs h q (least.passed q low high);
    }

end_unique : (rs : List Record) (h : StartRecord) (p q : ℕ) → IsEnd rs h p → IsEnd rs h q → p ≡ q
end_unique rs h p q a b =
    elim (cases_order p q) [
      | inl e ↦ e
      | inr other ↦ elim other [
        | inl less ↦ let r = b.least p a.from_front less in absurd (a.missing r.0 r.1 r.2)
        | inr more ↦ let r = a.least q b.from_front more in absurd (b.missing r.0 r.1 r.2)
      ]
    ]

pub end_is_end : (i : Image) (h : StartRecord) → head i ≡ Some h → IsEnd (records i) h (end i)
end_is_end i h e = subst (IsEnd (records i) h) (sym (ap (end_after (records i)) e)) (end_fact (records i) h)

pub end_is_only : (i : Image) (h : StartRecord) (p : ℕ) → head i ≡ Some h → IsEnd (records i) h p → p ≡ end i
end_is_only i h p e is = end_unique (records i) h p (end i) is (end_is_end i h e)
