-- The head of an image, as a fact.
use Rattle.std.proofs.Common.{◌≡◌, ℕ, ◌+◌, ◌<◌, ◌≤◌, ◌⊎◌, zero, suc, Option, Some, None, List, [], refl, sym, ap, ◌∙◌, subst, arith, add-zero, inl, inr}
use Rattle.std.specs.List.{cons_option, filter_map, fold, range_with_len}
use Rattle.std.proofs.lemmas.Option.{same_Some, none-some}
use Rattle.std.proofs.lemmas.Bool.{cases_eq, cases_lt, lt-ltb, le-ltb}
use Rattle.pblk_model.specs.Image.{Image}
use Rattle.pblk_model.specs.StartRecord.{StartRecord, start_of}
use Rattle.pblk_model.specs.Contents.{later_start, IsHead, head}

-- What is best of the start records that f gives below a line.
IsBestBelow : (ℕ → Option StartRecord) → ℕ → Option StartRecord → Type 0
IsBestBelow f a None = (k : ℕ) → k < a → f k ≡ None
IsBestBelow f a (Some b) = (line : ℕ) × (line < a) × (f line ≡ Some b)
    × ((other : ℕ) (r : StartRecord) → other < a → f other ≡ Some r → (r.seq < b.seq) ⊎ ((r.seq ≡ b.seq) × (line ≤ other)))

best_here : (f : ℕ → Option StartRecord) (a : ℕ) (best : Option StartRecord) (o : Option StartRecord) → f a ≡ o → IsBestBelow f a best
    → IsBestBelow f (a + 1) (fold later_start best (cons_option o []))
unfolding IsBestBelow
best_here f a None None e is = λ k h. elim (cases_eq k a) [ inl same ↦ subst (λ x. f x ≡ None) (sym same) e | inr other ↦ is k (omega arith) ]
best_here f a None (Some r) e is = (
  a,
  omega arith,
  e,
  λ other q h there. elim (cases_eq other a) [
    | inl same ↦ let one : r ≡ q = same_Some r q (sym e ∙ subst (λ x. f x ≡ Some q) same there) in inr (ap (λ (x : StartRecord). x.seq) (sym one), omega arith)
    | inr less ↦ absurd (none-some q (sym (is other (omega arith)) ∙ there))
  ],
)
best_here f a (Some b) None e is = (
  is.0,
  omega (arith, is.1),
  is.2,
  λ other q h there. elim (cases_eq other a) [
    | inl same ↦ absurd (none-some q (sym e ∙ subst (λ x. f x ≡ Some q) same there))
    | inr less ↦ is.3 other q (omega arith) there
  ],
)
best_here f a (Some b) (Some r) e is = elim (cases_lt b.seq r.seq) [
  | inl later ↦ rw (lt-ltb b.seq r.seq later) (
    a,
    omega arith,
    e,
    λ other q h there. elim (cases_eq other a) [
      | inl same ↦
          let one : r ≡ q = same_Some r q (sym e ∙ subst (λ x. f x ≡ Some q) same there) in
          inr (ap (λ (x : StartRecord). x.seq) (sym one), omega arith)
      | inr less ↦ inl (elim (is.3 other q (omega arith) there) [ inl below ↦ omega arith | inr as_late ↦ omega arith ])
    ],
  )
  | inr not_later ↦ rw (le-ltb b.seq r.seq not_later) (
    is.0,
    omega (arith, is.1),
    is.2,
    λ other q h there. elim (cases_eq other a) [
      | inl same ↦
          let one : r ≡ q = same_Some r q (sym e ∙ subst (λ x. f x ≡ Some q) same there) in
          let seqs : r.seq ≡ q.seq = ap (λ (x : StartRecord). x.seq) one in
          elim (cases_eq r.seq b.seq) [ inl as_late ↦ inr (omega arith, omega (arith, is.1)) | inr earlier ↦ inl (omega arith) ]
      | inr less ↦ is.3 other q (omega arith) there
    ],
  )
]

fold_option : (best : Option StartRecord) (o : Option StartRecord) (rs : List StartRecord)
    → fold later_start best (cons_option o rs) ≡ fold later_start (fold later_start best (cons_option o [])) rs
fold_option best None rs = refl
fold_option best (Some r) rs = refl

best_is : (f : ℕ → Option StartRecord) (a n : ℕ) (best : Option StartRecord) → IsBestBelow f a best
    → IsBestBelow f (a + n) (fold later_start best (filter_map f (range_with_len a n)))
best_is f a zero best is = subst (λ x. IsBestBelow f x best) (sym (add-zero a)) is
best_is f a (suc n) best is =
    let rest = filter_map f (range_with_len (a + 1) n) in
    let here : IsBestBelow f (a + 1) (fold later_start best (cons_option (f a) [])) = best_here f a best (f a) refl is in
    let last : IsBestBelow f (a + 1 + n) (fold later_start (fold later_start best (cons_option (f a) [])) rest) =
    best_is f (a + 1) n (fold later_start best (cons_option (f a) [])) here in
    let joined : IsBestBelow f (a + 1 + n) (fold later_start best (cons_option (f a) rest)) =
    subst (IsBestBelow f (a + 1 + n)) (sym (fold_option best (f a) rest)) last in
    subst (λ x. IsBestBelow f x (fold later_start best (cons_option (f a) rest))) (omega arith) joined

head_best : (i : Image) → IsBestBelow (start_of i) i.shape.chunks (head i)
unfolding IsBestBelow
head_best i =
    let none : IsBestBelow (start_of i) 0 None = λ k h. absurd (omega arith) in
    subst (λ x. IsBestBelow (start_of i) x (head i)) (omega arith) (best_is (start_of i) 0 i.shape.chunks None none)

pub head_is_head : (i : Image) (h : StartRecord) → head i ≡ Some h → (line : ℕ) × IsHead i line h
unfolding IsBestBelow
head_is_head i h e =
    let best : IsBestBelow (start_of i) i.shape.chunks (Some h) = subst (IsBestBelow (start_of i) i.shape.chunks) e (head_best i) in
    (best.0, record { here = best.1; whole = best.2; greatest = best.3 })

pub no_head_no_start : (i : Image) (line : ℕ) → head i ≡ None → line < i.shape.chunks → start_of i line ≡ None
unfolding IsBestBelow
no_head_no_start i line e inside =
    let best : IsBestBelow (start_of i) i.shape.chunks None = subst (IsBestBelow (start_of i) i.shape.chunks) e (head_best i) in
    best line inside

same_heads : (i : Image) (line other : ℕ) (h g : StartRecord) → IsHead i line h → IsHead i other g → g ≡ h
same_heads i line other h g a b =
    let here : (g.seq < h.seq) ⊎ ((g.seq ≡ h.seq) × (line ≤ other)) = a.greatest other g b.here b.whole in
    let there : (h.seq < g.seq) ⊎ ((h.seq ≡ g.seq) × (other ≤ line)) = b.greatest line h a.here a.whole in
    elim here [
      | inl less ↦ elim there [ inl more ↦ absurd (omega arith) | inr same ↦ absurd (let e = same.0 in omega arith) ]
      | inr same ↦ elim there [
        | inl more ↦ absurd (let e = same.0 in omega arith)
        | inr also ↦
            let line_is : line ≡ other = (let low = same.1 in let high = also.1 in omega arith) in
            same_Some g h (sym b.whole ∙ ap (start_of i) (sym line_is) ∙ a.whole)
      ]
    ]

only_head : (i : Image) (line : ℕ) (h : StartRecord) (o : Option StartRecord) → IsHead i line h → head i ≡ o → o ≡ Some h
only_head i line h None is e = absurd (none-some h (sym (no_head_no_start i line e is.here) ∙ is.whole))
only_head i line h (Some g) is e = let other = head_is_head i g e in ap Some (same_heads i line other.0 h g is other.1)

pub head_is_only : (i : Image) (line : ℕ) (h : StartRecord) → IsHead i line h → head i ≡ Some h
head_is_only i line h is = only_head i line h (head i) is refl
