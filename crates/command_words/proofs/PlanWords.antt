-- Which words say which command of a unit fails.
use Rattle.std.proofs.Common.{◌≡◌, ◌≢◌, ℕ, ◌<◌, ◌≤◌, ◌^◌, List, [], ◌∷◌, ◌++◌, length, length-append, codes, refl, sym, ap, ap₂, ◌∙◌, subst, arith, append_assoc}
use Rattle.std.specs.Fmt.{decimal}
use Rattle.std.specs.List.{AllByRecursion}
use Rattle.unit_port.specs.declared.armed.CommandKind.{CommandKind}
use Rattle.unit_port.specs.declared.armed.CommandKind.TheVariants as kinds
use Rattle.unit_port.specs.declared.armed.FaultPlan.{FaultPlan}
use Rattle.command_words.specs.Grammar.{ArePlans, IsPlan, IsPlanWord}
use Rattle.command_words.specs.Words.{IsInThree, kind_word}
use Rattle.command_words.proofs.ItemWords.{parts_agree}
use Rattle.command_words.proofs.Items.{all_at}
use Rattle.command_words.proofs.StopWords.{decimal_lacks, same_number, same_parts}

-- The words of each kind.

of_kind : (k : CommandKind) (p : FaultPlan) (word : List ℕ) → p.kind ≡ k → IsPlan p word → IsPlanWord k p word
of_kind k p word kind h = subst (λ x. IsPlanWord x p word) kind h.0

-- the numbers of a program's plan
pub program_numbers : (p : FaultPlan) (numbers : List ℕ) → p.kind ≡ kinds.Program → IsPlan p (codes "p:" ++ numbers)
    → IsInThree (decimal p.unit) (decimal p.nth) (decimal p.cut) numbers
program_numbers p numbers kind h = record {
  is = cc (of_kind kinds.Program p (codes "p:" ++ numbers) kind h);
  first_plain = decimal_lacks p.unit h.1;
  second_plain = decimal_lacks p.nth h.2;
}

pub is_program_plan : (p : FaultPlan) (a b c numbers : List ℕ) → p.kind ≡ kinds.Program → IsInThree a b c numbers → a ≡ decimal p.unit → b ≡ decimal p.nth
    → c ≡ decimal p.cut → p.unit < 2 ^ 32 → p.nth < 2 ^ 32 → p.cut < 2 ^ 32 → IsPlan p (codes "p:" ++ numbers)
is_program_plan p a b c numbers kind h first second third unit nth cut =
    (subst (λ x. IsPlanWord x p (codes "p:" ++ numbers)) (sym kind) (ap (λ xs. codes "p:" ++ xs) (h.is ∙ rw (first, second, third) refl)), unit, nth, cut)

two : (a b : List ℕ) → a ++ codes ":" ++ b ≡ a ++ 58 ∷ b
two a b = simp append_assoc

pub program_parts : (p : FaultPlan) (a b c numbers : List ℕ) → p.kind ≡ kinds.Program → IsInThree a b c numbers → IsPlan p (codes "p:" ++ numbers)
    → (a ≡ decimal p.unit) × (b ≡ decimal p.nth) × (c ≡ decimal p.cut)
program_parts p a b c numbers kind parts h =
    same_parts a b c (decimal p.unit) (decimal p.nth) (decimal p.cut) numbers parts (program_numbers p numbers kind h)

-- those of another kind's
record AreTwo (p : FaultPlan) (numbers : List ℕ) : Type 0 where
  pub is : numbers ≡ decimal p.unit ++ codes ":" ++ decimal p.nth
  pub cut : p.cut ≡ 0

two_of : (k : CommandKind) (p : FaultPlan) (numbers : List ℕ) → k ≢ kinds.Program → IsPlanWord k p (kind_word k ++ numbers) → AreTwo p numbers
two_of kinds.Program p numbers other h = absurd (other refl)
two_of kinds.Fetch p numbers other h = record { is = cc h.0; cut = h.1 }
two_of kinds.Reset p numbers other h = record { is = cc h.0; cut = h.1 }

of_two : (k : CommandKind) (p : FaultPlan) (numbers : List ℕ) → k ≢ kinds.Program → numbers ≡ decimal p.unit ++ codes ":" ++ decimal p.nth → p.cut ≡ 0
    → IsPlanWord k p (kind_word k ++ numbers)
of_two kinds.Program p numbers other is cut = absurd (other refl)
of_two kinds.Fetch p numbers other is cut = (ap (λ xs. codes "f:" ++ xs) is, cut)
of_two kinds.Reset p numbers other is cut = (ap (λ xs. codes "r:" ++ xs) is, cut)

pub other_numbers : (k : CommandKind) (p : FaultPlan) (numbers : List ℕ) → k ≢ kinds.Program → p.kind ≡ k → IsPlan p (kind_word k ++ numbers)
    → numbers ≡ decimal p.unit ++ 58 ∷ decimal p.nth
other_numbers k p numbers other kind h =
    (two_of k p numbers other (of_kind k p (kind_word k ++ numbers) kind h)).is ∙ two (decimal p.unit) (decimal p.nth)

pub is_other_plan : (k : CommandKind) (p : FaultPlan) (a b numbers : List ℕ) → k ≢ kinds.Program → p.kind ≡ k → numbers ≡ a ++ 58 ∷ b → a ≡ decimal p.unit
    → b ≡ decimal p.nth → p.cut ≡ 0 → p.unit < 2 ^ 32 → p.nth < 2 ^ 32 → IsPlan p (kind_word k ++ numbers)
is_other_plan k p a b numbers other kind is first second none unit nth =
    let parts : a ++ 58 ∷ b ≡ decimal p.unit ++ 58 ∷ decimal p.nth = ap₂ (λ xs ys. xs ++ 58 ∷ ys) first second in
    let numbers_are : numbers ≡ decimal p.unit ++ codes ":" ++ decimal p.nth = is ∙ parts ∙ sym (two (decimal p.unit) (decimal p.nth)) in
    let cut : p.cut < 2 ^ 32 = omega (arith, none) in
    (subst (λ x. IsPlanWord x p (kind_word k ++ numbers)) (sym kind) (of_two k p numbers other numbers_are none), unit, nth, cut)

-- numbers without a `:`
pub lacks_two : (k : CommandKind) (p : FaultPlan) (numbers : List ℕ) → k ≢ kinds.Program → p.kind ≡ k → AllByRecursion (λ byte. byte ≢ 58) numbers
    → IsPlan p (kind_word k ++ numbers) → ⊥
lacks_two k p numbers other kind plain h =
    all_at (λ byte. byte ≢ 58) (decimal p.unit) 58 (decimal p.nth)
    (subst (λ xs. AllByRecursion (λ byte. byte ≢ 58) xs) (other_numbers k p numbers other kind h) plain) refl

-- the parts of those numbers
pub two_parts : (k : CommandKind) (p : FaultPlan) (a b numbers : List ℕ) → k ≢ kinds.Program → p.kind ≡ k → numbers ≡ a ++ 58 ∷ b
    → AllByRecursion (λ byte. byte ≢ 58) a → IsPlan p (kind_word k ++ numbers) → (a ≡ decimal p.unit) × (b ≡ decimal p.nth)
two_parts k p a b numbers other kind is plain h =
    parts_agree 58 a (decimal p.unit) b (decimal p.nth) plain (decimal_lacks p.unit h.1) (sym is ∙ other_numbers k p numbers other kind h)

-- a word says one plan

of_program : (p q : FaultPlan) (word : List ℕ) → p.kind ≡ kinds.Program → q.kind ≡ kinds.Program → IsPlan p word → IsPlan q word → p ≡ q
of_program p q word first second h k =
    let a = of_kind kinds.Program p word first h in
    let b = program_numbers q (decimal p.unit ++ codes ":" ++ decimal p.nth ++ codes ":" ++ decimal p.cut) second
    (subst (λ x. IsPlan q x) a k) in
    let parts = same_parts (decimal p.unit) (decimal p.nth) (decimal p.cut) (decimal q.unit) (decimal q.nth) (decimal q.cut)
    (decimal p.unit ++ codes ":" ++ decimal p.nth ++ codes ":" ++ decimal p.cut)
    (record { is = refl; first_plain = decimal_lacks p.unit h.1; second_plain = decimal_lacks p.nth h.2 }) b in
    let unit : p.unit ≡ q.unit = same_number p.unit q.unit h.1 k.1 parts.0 in
    let nth : p.nth ≡ q.nth = same_number p.nth q.nth h.2 k.2 parts.1 in
    let cut : p.cut ≡ q.cut = same_number p.cut q.cut h.3 k.3 parts.2 in
    let kind : p.kind ≡ q.kind = first ∙ sym second in
    λ i. record { unit = unit i; kind = kind i; nth = nth i; cut = cut i }

of_other : (c : CommandKind) (p q : FaultPlan) (word : List ℕ) → c ≢ kinds.Program → p.kind ≡ c → q.kind ≡ c → IsPlan p word → IsPlan q word
    → AreTwo p (decimal p.unit ++ codes ":" ++ decimal p.nth) → word ≡ kind_word c ++ (decimal p.unit ++ codes ":" ++ decimal p.nth) → p ≡ q
of_other c p q word other first second h k a is =
    let b : AreTwo q (decimal p.unit ++ codes ":" ++ decimal p.nth) =
    two_of c q (decimal p.unit ++ codes ":" ++ decimal p.nth) other (of_kind c q (kind_word c ++ (decimal p.unit ++ codes ":" ++ decimal p.nth)) second
    (subst (λ x. IsPlan q x) is k)) in
    let parts = parts_agree 58 (decimal p.unit) (decimal q.unit) (decimal p.nth) (decimal q.nth) (decimal_lacks p.unit h.1) (decimal_lacks q.unit k.1)
    (sym (two (decimal p.unit) (decimal p.nth)) ∙ b.is ∙ two (decimal q.unit) (decimal q.nth)) in
    let unit : p.unit ≡ q.unit = same_number p.unit q.unit h.1 k.1 parts.0 in
    let nth : p.nth ≡ q.nth = same_number p.nth q.nth h.2 k.2 parts.1 in
    let cut : p.cut ≡ q.cut = a.cut ∙ sym b.cut in
    let kind : p.kind ≡ q.kind = first ∙ sym second in
    λ i. record { unit = unit i; kind = kind i; nth = nth i; cut = cut i }

-- which kind of plan a word says, its first byte says
abbrev first_byte : CommandKind → ℕ
first_byte kinds.Program = 112
first_byte kinds.Fetch = 102
first_byte kinds.Reset = 114

begins_with : (k : CommandKind) (p : FaultPlan) (word : List ℕ) → IsPlanWord k p word → (rest : List ℕ) × (word ≡ first_byte k ∷ rest)
begins_with kinds.Program p word h = (58 ∷ (decimal p.unit ++ codes ":" ++ decimal p.nth ++ codes ":" ++ decimal p.cut), h)
begins_with kinds.Fetch p word h = (58 ∷ (decimal p.unit ++ codes ":" ++ decimal p.nth), h.0)
begins_with kinds.Reset p word h = (58 ∷ (decimal p.unit ++ codes ":" ++ decimal p.nth), h.0)

same_first : (j k : CommandKind) → first_byte j ≡ first_byte k → j ≡ k
same_first kinds.Program kinds.Program e = refl
same_first kinds.Program kinds.Fetch e = absurd (omega (arith, e))
same_first kinds.Program kinds.Reset e = absurd (omega (arith, e))
same_first kinds.Fetch kinds.Program e = absurd (omega (arith, e))
same_first kinds.Fetch kinds.Fetch e = refl
same_first kinds.Fetch kinds.Reset e = absurd (omega (arith, e))
same_first kinds.Reset kinds.Program e = absurd (omega (arith, e))
same_first kinds.Reset kinds.Fetch e = absurd (omega (arith, e))
same_first kinds.Reset kinds.Reset e = refl

same_kind : (p q : FaultPlan) (word : List ℕ) → IsPlan p word → IsPlan q word → p.kind ≡ q.kind
same_kind p q word h k =
    let a = begins_with p.kind p word h.0 in
    let b = begins_with q.kind q word k.0 in
    let same : first_byte p.kind ∷ a.0 ≡ first_byte q.kind ∷ b.0 = sym a.1 ∙ b.1 in
    same_first p.kind q.kind (cc same)

pub one_plan : (p q : FaultPlan) (word : List ℕ) → IsPlan p word → IsPlan q word → p ≡ q
one_plan p q word h k = go p.kind refl
  where
    go : (c : CommandKind) → p.kind ≡ c → p ≡ q
    go kinds.Program is = of_program p q word is (sym (same_kind p q word h k) ∙ is) h k
    go kinds.Fetch is =
        let a = of_kind kinds.Fetch p word is h in
        of_other kinds.Fetch p q word (λ e. absurd (cc e)) is (sym (same_kind p q word h k) ∙ is) h k (record { is = refl; cut = a.1 }) a.0
    go kinds.Reset is =
        let a = of_kind kinds.Reset p word is h in
        of_other kinds.Reset p q word (λ e. absurd (cc e)) is (sym (same_kind p q word h k) ∙ is) h k (record { is = refl; cut = a.1 }) a.0

-- Several plans.

pub one_more : (p : FaultPlan) (word : List ℕ) (plans : List FaultPlan) (words : List (List ℕ)) → ArePlans plans words → IsPlan p word
    → ArePlans (plans ++ p ∷ []) (words ++ word ∷ [])
one_more p word [] [] h k = (k, tt)
one_more p word [] (w ∷ words) h k = absurd h
one_more p word (q ∷ plans) [] h k = absurd h
one_more p word (q ∷ plans) (w ∷ words) h k = (h.0, one_more p word plans words h.1 k)

pub same_plans : (ps qs : List FaultPlan) (words : List (List ℕ)) → ArePlans ps words → ArePlans qs words → ps ≡ qs
same_plans [] [] [] h k = refl
same_plans [] [] (w ∷ words) h k = absurd h
same_plans [] (q ∷ qs) [] h k = absurd k
same_plans [] (q ∷ qs) (w ∷ words) h k = absurd h
same_plans (p ∷ ps) qs [] h k = absurd h
same_plans (p ∷ ps) [] (w ∷ words) h k = absurd k
same_plans (p ∷ ps) (q ∷ qs) (w ∷ words) h k =
    ap (λ x. x ∷ ps) (one_plan p q w h.0 k.0) ∙ ap (λ xs. q ∷ xs) (same_plans ps qs words h.1 k.1)

as_many : (ps : List FaultPlan) (words : List (List ℕ)) → ArePlans ps words → length ps ≡ length words
as_many [] [] h = refl
as_many [] (w ∷ words) h = absurd h
as_many (p ∷ ps) [] h = absurd h
as_many (p ∷ ps) (w ∷ words) h = let rest = as_many ps words h.1 in omega (arith, rest)

-- the plan of one word among others
pub plan_said : (qs : List FaultPlan) (word : List ℕ) (words more : List (List ℕ)) → ArePlans qs (words ++ word ∷ more) → (q : FaultPlan) × IsPlan q word
plan_said [] word [] more h = absurd h
plan_said [] word (w ∷ words) more h = absurd h
plan_said (q ∷ qs) word [] more h = (q, h.0)
plan_said (q ∷ qs) word (w ∷ words) more h = plan_said qs word words more h.1

-- so many plans leave no room for another word
pub too_many : (n : ℕ) (ps qs : List FaultPlan) (word : List ℕ) (words more : List (List ℕ)) → length ps ≡ n → ArePlans ps words
    → ArePlans qs (words ++ word ∷ more) → length qs ≤ n → ⊥
too_many n ps qs word words more full h k few =
    let first = as_many ps words h in
    let second = as_many qs (words ++ word ∷ more) k in
    omega (arith, first, second, full, few, length-append words (word ∷ more))
