-- Which words say where a drive stops.
use Rattle.std.proofs.Common.{◌≡◌, ◌≢◌, ℕ, ◌<◌, ◌^◌, Option, Some, None, List, [], ◌∷◌, ◌++◌, codes, refl, sym, ap, ◌∙◌, subst, arith, append_assoc}
use Rattle.std.specs.Fmt.{decimal}
use Rattle.std.specs.List.{AllByRecursion}
use Rattle.std.specs.Str.Parse.{AllDigits}
use Rattle.std.proofs.lemmas.Fmt.{decimal_injective, digits_decimal}
use Rattle.std.proofs.lemmas.Str.Parse.{digit_from_value}
use Rattle.unit_port.specs.declared.armed.Fuse.{Fuse}
use Rattle.command_words.specs.Grammar.{IsFuse, IsStop}
use Rattle.command_words.specs.Words.{IsInThree}
use Rattle.command_words.proofs.ItemWords.{parts_agree}
use Rattle.command_words.proofs.Items.{all_at}
use Rattle.pblk_model.proofs.NumberLemmas.{digits}

-- Words in three parts.

three : (a b c : List ℕ) → a ++ codes ":" ++ b ++ codes ":" ++ c ≡ a ++ 58 ∷ (b ++ 58 ∷ c)
three a b c = simp append_assoc

-- what stands before and behind the first `:`
pub in_two : (a b c word : List ℕ) → IsInThree a b c word → (before behind : List ℕ) → word ≡ before ++ 58 ∷ behind → AllByRecursion (λ byte. byte ≢ 58) before
    → (before ≡ a) × (behind ≡ b ++ 58 ∷ c)
in_two a b c word h before behind is plain = parts_agree 58 before a behind (b ++ 58 ∷ c) plain h.first_plain (sym is ∙ h.is ∙ three a b c)

-- a word without a `:`, or with nothing but others behind its first one
pub not_one : (a b c word : List ℕ) → AllByRecursion (λ byte. byte ≢ 58) word → IsInThree a b c word → ⊥
not_one a b c word plain h =
    all_at (λ byte. byte ≢ 58) a 58 (b ++ 58 ∷ c) (subst (λ x. AllByRecursion (λ byte. byte ≢ 58) x) (h.is ∙ three a b c) plain) refl

pub not_two : (a b c word before behind : List ℕ) → word ≡ before ++ 58 ∷ behind → AllByRecursion (λ byte. byte ≢ 58) before
    → AllByRecursion (λ byte. byte ≢ 58) behind → IsInThree a b c word → ⊥
not_two a b c word before behind is plain last h =
    all_at (λ byte. byte ≢ 58) b 58 c (subst (λ x. AllByRecursion (λ byte. byte ≢ 58) x) (in_two a b c word h before behind is plain).1 last) refl

pub are_three : (a b c rest word : List ℕ) → word ≡ a ++ 58 ∷ rest → AllByRecursion (λ byte. byte ≢ 58) a → rest ≡ b ++ 58 ∷ c
    → AllByRecursion (λ byte. byte ≢ 58) b → IsInThree a b c word
are_three a b c rest word is first more second = record {
  is = is ∙ ap (λ xs. a ++ 58 ∷ xs) more ∙ sym (three a b c);
  first_plain = first;
  second_plain = second;
}

-- the parts are determined
pub same_parts : (a b c x y z word : List ℕ) → IsInThree a b c word → IsInThree x y z word → (a ≡ x) × (b ≡ y) × (c ≡ z)
same_parts a b c x y z word h k =
    let first = in_two x y z word k a (b ++ 58 ∷ c) (h.is ∙ three a b c) h.first_plain in
    let rest = parts_agree 58 b y c z h.second_plain k.second_plain first.1 in
    (first.0, rest.0, rest.1)

-- Stops.

lacks : (bs : List ℕ) → AllDigits 10 bs → AllByRecursion (λ byte. byte ≢ 58) bs
lacks [] d = tt
lacks (x ∷ bs) d = ((λ e. let r = digit_from_value x d.0 in omega (arith, r, e)), lacks bs d.1)

pub decimal_lacks : (n : ℕ) → n < 2 ^ 32 → AllByRecursion (λ byte. byte ≢ 58) (decimal n)
decimal_lacks n small = lacks (decimal n) (digits_decimal digits n (omega arith))

pub three_numbers : (f : Fuse) (word : List ℕ) → IsFuse f word → IsInThree (decimal f.unit) (decimal f.nth) (decimal f.cut) word
three_numbers f word h = record { is = h.0; first_plain = decimal_lacks f.unit h.1; second_plain = decimal_lacks f.nth h.3 }

-- the stop that a word in three parts says has the numbers of its parts
pub numbers_of_parts : (f : Fuse) (a b c word : List ℕ) → IsInThree a b c word → IsFuse f word
    → (a ≡ decimal f.unit) × (b ≡ decimal f.nth) × (c ≡ decimal f.cut)
numbers_of_parts f a b c word h k = same_parts a b c (decimal f.unit) (decimal f.nth) (decimal f.cut) word h (three_numbers f word k)

pub fuse_of_parts : (f : Fuse) (a b c word : List ℕ) → IsInThree a b c word → a ≡ decimal f.unit → b ≡ decimal f.nth → c ≡ decimal f.cut
    → f.unit < 2 ^ 32 → 0 < f.nth → f.nth < 2 ^ 32 → f.cut < 2 ^ 32 → IsFuse f word
fuse_of_parts f a b c word h first second third unit some nth cut = (h.is ∙ rw (first, second, third) refl, unit, some, nth, cut)

pub same_number : (m n : ℕ) → m < 2 ^ 32 → n < 2 ^ 32 → decimal m ≡ decimal n → m ≡ n
same_number m n a b e = decimal_injective m n (omega arith) (omega arith) e

-- a word says one stop
pub one_fuse : (f g : Fuse) (word : List ℕ) → IsFuse f word → IsFuse g word → f ≡ g
one_fuse f g word h k =
    let parts = numbers_of_parts g (decimal f.unit) (decimal f.nth) (decimal f.cut) word (three_numbers f word h) k in
    let unit : f.unit ≡ g.unit = same_number f.unit g.unit h.1 k.1 parts.0 in
    let nth : f.nth ≡ g.nth = same_number f.nth g.nth h.3 k.3 parts.1 in
    let cut : f.cut ≡ g.cut = same_number f.cut g.cut h.4 k.4 parts.2 in
    λ i. record { unit = unit i; nth = nth i; cut = cut i }

pub one_stop : (o p : Option Fuse) (words : List (List ℕ)) → IsStop o words → IsStop p words → o ≡ p
one_stop None None [] h k = refl
one_stop None None (word ∷ words) h k = absurd h
one_stop None (Some g) [] h k = absurd k
one_stop None (Some g) (word ∷ words) h k = absurd h
one_stop (Some f) None [] h k = absurd h
one_stop (Some f) None (word ∷ words) h k = absurd k
one_stop (Some f) (Some g) [] h k = absurd h
one_stop (Some f) (Some g) (word ∷ []) h k = ap Some (one_fuse f g word h k)
one_stop (Some f) (Some g) (word ∷ (other ∷ words)) h k = absurd h

pub no_word : (o : Option Fuse) (words : List (List ℕ)) → o ≡ None → IsStop o words → words ≡ []
no_word None [] e h = refl
no_word None (word ∷ words) e h = absurd h
no_word (Some f) words e h = absurd (cc e)

-- a word and another one behind it say no stop
pub no_two : (o p : Option Fuse) (f : Fuse) (words more : List (List ℕ)) (word : List ℕ) → o ≡ Some f → IsStop o words
    → IsStop p (words ++ word ∷ more) → ⊥
no_two None p f words more word e h k = cc e
no_two (Some g) p f [] more word e h k = h
no_two (Some g) None f (first ∷ words) more word e h k = k
no_two (Some g) (Some q) f (first ∷ []) more word e h k = k
no_two (Some g) (Some q) f (first ∷ (second ∷ words)) more word e h k = h

-- what the first word says
pub said : (o : Option Fuse) (word : List ℕ) (words : List (List ℕ)) → IsStop o (word ∷ words) → (f : Fuse) × IsFuse f word
said None word words h = absurd h
said (Some f) word [] h = (f, h)
said (Some f) word (other ∷ words) h = absurd h
