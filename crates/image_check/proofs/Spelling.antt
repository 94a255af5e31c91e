-- The lines of a certificate, as they are spelled.
use Rattle.std.proofs.Common.{◌≡◌, ◌≢◌, ℕ, ◌+◌, ◌^◌, ◌<◌, ◌≤◌, List, [], ◌∷◌, ◌++◌, length, codes, Option, Some, None, refl, sym, ap, ◌∙◌, subst, arith, append-nil}
use Rattle.std.specs.List.{AllByRecursion}
use Rattle.std.specs.Option.{option_map}
use Rattle.std.specs.Fmt.{decimal}
use Rattle.pblk_model.proofs.Lists.{all_append}
use Rattle.pblk_model.specs.ScriptText.{number_of}
use Rattle.pblk_model.specs.Text.{spaced}
use Rattle.pblk_laws.proofs.ScriptSpelling.{number_is, number_spelled}
use Rattle.pblk_laws.proofs.TextCuts.{cut_first, lacks_decimal, same_decimal}
use Rattle.image_check.specs.declared.said.Said.{Said}
use Rattle.image_check.specs.declared.said.Said.TheVariants.{Head, End, Line, Bear, Win, Live}
use Rattle.image_check.specs.Text.{AreNumbers, Lacks, Says, bit, said_line}

-- Numbers behind a space each.

abbrev pub AreSmall : List ℕ → Type 0
AreSmall ns = AllByRecursion (λ n. n < 2 ^ 64) ns

wide : (n : ℕ) → n < 2 ^ 64 → n < 10 ^ 64
wide n h = omega arith

no_spaces : (n : ℕ) → n < 2 ^ 64 → Lacks 32 (decimal n)
no_spaces n h = lacks_decimal 32 n (omega arith) (wide n h)

-- a text with the byte doesn't lack it
pub has_byte : (c : ℕ) (a b : List ℕ) → Lacks c (a ++ c ∷ b) → ⊥
has_byte c [] b h = h.0 refl
has_byte c (x ∷ a) b h = has_byte c a b h.1

pub same_rest : {x : ℕ} (a b : List ℕ) → x ∷ a ≡ x ∷ b → a ≡ b
same_rest a b e = cc

-- lists of one length
one_long : (ns : List ℕ) → length ns ≡ 1 → (n : ℕ) × (ns ≡ n ∷ [])
one_long [] e = absurd (omega (arith, e))
one_long (n ∷ []) e = (n, refl)
one_long (n ∷ (m ∷ ns)) e = absurd (omega (arith, e))

two_long : (ns : List ℕ) → 2 ≤ length ns → (n : ℕ) × (m : ℕ) × (more : List ℕ) × (ns ≡ n ∷ (m ∷ more))
two_long [] e = absurd (omega (arith, e))
two_long (n ∷ []) e = absurd (omega (arith, e))
two_long (n ∷ (m ∷ ns)) e = (n, m, ns, refl)

module _ (w : List ℕ) where
  one_some : (n : ℕ) → number_of w ≡ Some n → AreNumbers 1 w (Some (n ∷ []))
  one_some n e = let h = number_is w n e in (ap (λ t. 32 ∷ t) (h.0 ∙ sym (append-nil (decimal n))), (h.1, tt), refl)

  one_none : number_of w ≡ None → AreNumbers 1 w None
  one_none e ns long small spells =
      let k = one_long ns long in
      let is : 32 ∷ w ≡ spaced (k.0 ∷ []) = subst (λ xs. 32 ∷ w ≡ spaced xs) k.1 spells in
      let fits : AreSmall (k.0 ∷ []) = subst AreSmall k.1 small in
      let word : w ≡ decimal k.0 = same_rest w (decimal k.0 ++ []) is ∙ append-nil (decimal k.0) in
      let found : Some k.0 ≡ None = sym (number_spelled k.0 fits.0) ∙ ap number_of (sym word) ∙ e in absurd (cc)

  pub one_are : (o : Option ℕ) → o ≡ number_of w → AreNumbers 1 w (option_map (λ n. n ∷ []) o)
  one_are None e = one_none (sym e)
  one_are (Some n) e = one_some n (sym e)

-- without a space there is one number at most
pub uncut_none : (count : ℕ) (text : List ℕ) → 2 ≤ count → Lacks 32 text → AreNumbers count text None
uncut_none count text more lacks ns long small spells =
    let k = two_long ns (omega (arith, long, more)) in
    let is : 32 ∷ text ≡ spaced (k.0 ∷ (k.1 ∷ k.2)) = subst (λ xs. 32 ∷ text ≡ spaced xs) k.3 spells in
    has_byte 32 (decimal k.0) (decimal k.1 ++ spaced k.2) (subst (Lacks 32) (same_rest text (decimal k.0 ++ 32 ∷ (decimal k.1 ++ spaced k.2)) is) lacks)

module _ (text w r : List ℕ) (cut : text ≡ w ++ 32 ∷ r) where
  pub more_some : (n count more : ℕ) (ns : List ℕ) → number_of w ≡ Some n → AreNumbers count r (Some ns) → more ≡ count + 1
      → AreNumbers more text (Some (n ∷ ns))
  more_some n count more ns first rest is =
      let h = number_is w n first in (
        ap (λ t. 32 ∷ t) (cut ∙ ap (λ x. x ++ 32 ∷ r) h.0 ∙ ap (λ t. decimal n ++ t) rest.0),
        (h.1, rest.1),
        omega (arith, rest.2, is),
      )

  module _ (lacks : Lacks 32 w) where
    parts : (n m : ℕ) (more : List ℕ) → n < 2 ^ 64 → 32 ∷ text ≡ spaced (n ∷ (m ∷ more)) → (w ≡ decimal n) × (32 ∷ r ≡ spaced (m ∷ more))
    parts n m more small e =
        let whole : w ++ 32 ∷ r ≡ decimal n ++ 32 ∷ (decimal m ++ spaced more) = sym cut ∙ same_rest text (decimal n ++ 32 ∷ (decimal m ++ spaced more)) e in
        let h = cut_first 32 w (decimal n) r (decimal m ++ spaced more) lacks (no_spaces n small) whole in
        (h.0, ap (λ t. 32 ∷ t) h.1)

    pub word_none : (count : ℕ) → 2 ≤ count → number_of w ≡ None → AreNumbers count text None
    word_none count more none ns long small spells =
        let k = two_long ns (omega (arith, long, more)) in
        let fits : AreSmall (k.0 ∷ (k.1 ∷ k.2)) = subst AreSmall k.3 small in
        let h = parts k.0 k.1 k.2 fits.0 (subst (λ xs. 32 ∷ text ≡ spaced xs) k.3 spells) in
        let found : Some k.0 ≡ None = sym (number_spelled k.0 fits.0) ∙ ap number_of (sym h.0) ∙ none in absurd (cc)

    pub rest_none : (count more : ℕ) → 1 ≤ count → more ≡ count + 1 → AreNumbers count r None → AreNumbers more text None
    rest_none count more some is none ns long small spells =
        let k = two_long ns (omega (arith, long, some, is)) in
        let fits : AreSmall (k.0 ∷ (k.1 ∷ k.2)) = subst AreSmall k.3 small in
        let h = parts k.0 k.1 k.2 fits.0 (subst (λ xs. 32 ∷ text ≡ spaced xs) k.3 spells) in
        let size : length (k.0 ∷ (k.1 ∷ k.2)) ≡ more = subst (λ xs. length xs ≡ more) k.3 long in
        none (k.1 ∷ k.2) (omega (arith, size, is)) fits.1 h.1

-- where there is nothing
pub as_none : {A : Type 0} (f : A → List ℕ) (count : ℕ) (text : List ℕ) (o : Option A) → o ≡ None → AreNumbers count text None
    → AreNumbers count text (option_map f o)
as_none f count text None e h = h
as_none f count text (Some a) e h = absurd (cc)

-- a list of numbers has one spelling
pub same_numbers : (ns ms : List ℕ) → AreSmall ns → AreSmall ms → spaced ns ≡ spaced ms → ns ≡ ms
same_numbers [] [] f g e = refl
same_numbers [] (m ∷ ms) f g e = absurd (cc)
same_numbers (n ∷ ns) [] f g e = absurd (cc)
same_numbers (n ∷ []) (m ∷ []) f g e =
    let is : decimal n ≡ decimal m = sym (append-nil (decimal n)) ∙ same_rest (decimal n ++ []) (decimal m ++ []) e ∙ append-nil (decimal m) in
    ap (λ x. x ∷ []) (same_decimal n m (wide n f.0) (wide m g.0) is)
same_numbers (n ∷ []) (m ∷ (k ∷ ms)) f g e =
    let is : decimal n ≡ decimal m ++ 32 ∷ (decimal k ++ spaced ms) = sym (append-nil (decimal n))
    ∙ same_rest (decimal n ++ []) (decimal m ++ 32 ∷ (decimal k ++ spaced ms)) e in
    absurd (has_byte 32 (decimal m) (decimal k ++ spaced ms) (subst (Lacks 32) is (no_spaces n f.0)))
same_numbers (n ∷ (k ∷ ns)) (m ∷ []) f g e =
    let is : decimal m ≡ decimal n ++ 32 ∷ (decimal k ++ spaced ns) = sym (append-nil (decimal m))
    ∙ same_rest (decimal m ++ []) (decimal n ++ 32 ∷ (decimal k ++ spaced ns)) (sym e) in
    absurd (has_byte 32 (decimal n) (decimal k ++ spaced ns) (subst (Lacks 32) is (no_spaces m g.0)))
same_numbers (n ∷ (k ∷ ns)) (m ∷ (j ∷ ms)) f g e =
    let h = cut_first 32 (decimal n) (decimal m) (decimal k ++ spaced ns) (decimal j ++ spaced ms) (no_spaces n f.0) (no_spaces m g.0)
    (same_rest (decimal n ++ 32 ∷ (decimal k ++ spaced ns)) (decimal m ++ 32 ∷ (decimal j ++ spaced ms)) e) in
    let tails : k ∷ ns ≡ j ∷ ms = same_numbers (k ∷ ns) (j ∷ ms) f.1 g.1 (ap (λ t. 32 ∷ t) h.1) in
    ap (λ x. x ∷ (k ∷ ns)) (same_decimal n m (wide n f.0) (wide m g.0) h.0) ∙ ap (λ xs. m ∷ xs) tails

-- numbers lack newlines
pub spaced_lacks : (ns : List ℕ) → AreSmall ns → Lacks 10 (spaced ns)
spaced_lacks [] h = tt
spaced_lacks (n ∷ ns) h =
    (λ e. omega arith, all_append (λ b. b ≢ 10) (decimal n) (spaced ns) (lacks_decimal 10 n (omega arith) (wide n h.0)) (spaced_lacks ns h.1))

-- Lines.

-- the word of a line
abbrev pub word_of : Said → List ℕ
word_of (Head h) = codes "head"
word_of (End p) = codes "end"
word_of (Line e) = codes "line"
word_of (Bear b) = codes "bear"
word_of (Win w) = codes "win"
word_of (Live l) = codes "live"

-- and what follows it
abbrev pub after_word : Said → List ℕ
after_word (Head None) = codes " none"
after_word (Head (Some line)) = spaced (line ∷ [])
after_word (End p) = spaced (p ∷ [])
after_word (Line e) = spaced (e.line ∷ (e.seq ∷ (bit e.full ∷ [])))
after_word (Bear b) = spaced (b.position ∷ (b.line ∷ (b.at ∷ [])))
after_word (Win w) = spaced (w.lba ∷ (w.position ∷ (w.line ∷ (w.at ∷ []))))
after_word (Live l) = spaced (l.line ∷ (l.count ∷ []))

abbrev pub tail_of : List ℕ → List ℕ
tail_of [] = []
tail_of (x ∷ xs) = xs

pub line_parts : (s : Said) → said_line s ≡ word_of s ++ 32 ∷ tail_of (after_word s)
line_parts (Head None) = refl
line_parts (Head (Some line)) = refl
line_parts (End p) = refl
line_parts (Line e) = refl
line_parts (Bear b) = refl
line_parts (Win w) = refl
line_parts (Live l) = refl

pub after_tail : (s : Said) → 32 ∷ tail_of (after_word s) ≡ after_word s
after_tail (Head None) = refl
after_tail (Head (Some line)) = refl
after_tail (End p) = refl
after_tail (Line e) = refl
after_tail (Bear b) = refl
after_tail (Win w) = refl
after_tail (Live l) = refl

-- no letter of a word is below 97
pub word_lacks : (c : ℕ) → c < 97 → (s : Said) → Lacks c (word_of s)
word_lacks c low (Head h) = (λ is. omega arith, (λ is. omega arith, (λ is. omega arith, (λ is. omega arith, tt))))
word_lacks c low (End p) = (λ is. omega arith, (λ is. omega arith, (λ is. omega arith, tt)))
word_lacks c low (Line e) = (λ is. omega arith, (λ is. omega arith, (λ is. omega arith, (λ is. omega arith, tt))))
word_lacks c low (Bear b) = (λ is. omega arith, (λ is. omega arith, (λ is. omega arith, (λ is. omega arith, tt))))
word_lacks c low (Win w) = (λ is. omega arith, (λ is. omega arith, (λ is. omega arith, tt)))
word_lacks c low (Live l) = (λ is. omega arith, (λ is. omega arith, (λ is. omega arith, (λ is. omega arith, tt))))

-- a line is cut in one way
pub cut_line : (w r : List ℕ) (s : Said) → Lacks 32 w → w ++ 32 ∷ r ≡ said_line s → (w ≡ word_of s) × (32 ∷ r ≡ after_word s)
cut_line w r s lacks e =
    let h = cut_first 32 w (word_of s) r (tail_of (after_word s)) lacks (word_lacks 32 (omega arith) s) (e ∙ line_parts s) in
    (h.0, ap (λ t. 32 ∷ t) h.1 ∙ after_tail s)

pub no_space_no_line : (bytes : List ℕ) → Lacks 32 bytes → Says bytes None
no_space_no_line bytes lacks s f e = has_byte 32 (word_of s) (tail_of (after_word s)) (subst (Lacks 32) (e ∙ line_parts s) lacks)
