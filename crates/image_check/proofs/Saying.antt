-- What the words of a line say.
use Rattle.std.proofs.Common.{◌≡◌, ◌≢◌, ℕ, ◌^◌, ◌<◌, ◌≤◌, Bool, true, false, List, [], ◌∷◌, ◌++◌, if◌then◌else◌, codes, Option, Some, None, refl, sym, ap, ◌∙◌, subst, arith, append-nil}
use Rattle.std.proofs.lemmas.Bool.{true≢false}
use Rattle.std.specs.Fmt.{decimal}
use Rattle.std.specs.Str.{bytes_eq}
use Rattle.pblk_model.proofs.Bytes.{true_same}
use Rattle.pblk_model.proofs.Lists.{all_append}
use Rattle.std.specs.Str.Parse.{AllDigits}
use Rattle.std.proofs.lemmas.Fmt.{decimal_is_IsNumeral}
use Rattle.std.proofs.lemmas.Str.Parse.{digit_from_value}
use Rattle.pblk_model.specs.declared.found.Winner.{Winner}
use Rattle.pblk_model.specs.Text.{spaced}
use Rattle.image_check.specs.declared.certificate.Bearer.{Bearer}
use Rattle.image_check.specs.declared.certificate.LineEntry.{LineEntry}
use Rattle.image_check.specs.declared.certificate.LiveCount.{LiveCount}
use Rattle.image_check.specs.declared.said.Said.{Said}
use Rattle.image_check.specs.declared.said.Said.TheVariants.{Head, End, Line, Bear, Win, Live}
use Rattle.image_check.specs.Text.{AreNumbers, FitsSaid, Lacks, Says, bit, said_line}
use Rattle.image_check.proofs.Spelling.{AreSmall, after_tail, after_word, cut_line, line_parts, same_numbers, same_rest, spaced_lacks, tail_of, word_lacks, word_of}

-- a word that a test finds to be another one
pub not_word : (w a b : List ℕ) → a ≡ b → false ≡ bytes_eq w a → w ≢ b
not_word w a b is apart-by same = true≢false (sym (true_same w a (same ∙ sym is)) ∙ sym apart-by)

-- What lines say, by their numbers.

abbrev entry : ℕ → ℕ → Bool → LineEntry
entry line seq full = record { line = line; seq = seq; full = full }

abbrev bearer : ℕ → ℕ → ℕ → Bearer
bearer position line at = record { position = position; line = line; at = at }

abbrev winner : ℕ → ℕ → ℕ → ℕ → Winner
winner lba position line at = record { lba = lba; position = position; line = line; at = at }

abbrev live : ℕ → ℕ → LiveCount
live line count = record { line = line; count = count }

-- A word says of which kind a line is.

-- a line of the kind of those that begin with this word
abbrev line_by : List ℕ → Said
line_by w = if bytes_eq w (codes "head") then Head None else (if bytes_eq w (codes "end") then End 0
    else (if bytes_eq w (codes "line") then Line (entry 0 0 false) else (if bytes_eq w (codes "bear") then Bear (bearer 0 0 0)
    else (if bytes_eq w (codes "win") then Win (winner 0 0 0 0) else Live (live 0 0)))))

-- the second is of the kind of the first
abbrev IsOfKind : Said → Said → Type 0
IsOfKind (Head g) s = (h : Option ℕ) × (s ≡ Head h)
IsOfKind (End q) s = (p : ℕ) × (s ≡ End p)
IsOfKind (Line d) s = (e : LineEntry) × (s ≡ Line e)
IsOfKind (Bear a) s = (b : Bearer) × (s ≡ Bear b)
IsOfKind (Win v) s = (w : Winner) × (s ≡ Win w)
IsOfKind (Live k) s = (l : LiveCount) × (s ≡ Live l)

kind_by_word : (w : List ℕ) (s : Said) → w ≡ word_of s → IsOfKind (line_by w) s
kind_by_word w s is = subst (λ v. IsOfKind (line_by v) s) (sym is) (own s) where
  own : (s : Said) → IsOfKind (line_by (word_of s)) s
  own (Head h) = (h, refl)
  own (End p) = (p, refl)
  own (Line e) = (e, refl)
  own (Bear b) = (b, refl)
  own (Win w) = (w, refl)
  own (Live l) = (l, refl)

-- a word that is none of these begins no line
pub unknown_word : (word rest : List ℕ) → Lacks 32 word → word ≢ codes "head" → word ≢ codes "end" → word ≢ codes "line" → word ≢ codes "bear"
    → word ≢ codes "win" → word ≢ codes "live" → Says (word ++ 32 ∷ rest) None
unknown_word word rest lacks no_head no_end no_line no_bear no_win no_live s f e = by_kind s (cut_line word rest s lacks e).0 where
  by_kind : (s : Said) → word ≡ word_of s → ⊥
  by_kind (Head h) is = no_head is
  by_kind (End p) is = no_end is
  by_kind (Line e) is = no_line is
  by_kind (Bear b) is = no_bear is
  by_kind (Win w) is = no_win is
  by_kind (Live l) is = no_live is

-- Where the text behind a word spells none of its kind, the line says nothing.

kind_none : {A : Type 0} (kind : A → Said) (word text : List ℕ) → Lacks 32 word → ((s : Said) → word ≡ word_of s → (a : A) × (s ≡ kind a))
    → ((a : A) → FitsSaid (kind a) → 32 ∷ text ≢ after_word (kind a)) → Says (word ++ 32 ∷ text) None
kind_none kind word text lacks only none s f e =
    let h = cut_line word text s lacks e in
    let k = only s h.0 in
    none k.0 (subst FitsSaid k.1 f) (h.1 ∙ ap after_word k.1)

pub head_none : (text : List ℕ) → ((h : Option ℕ) → FitsSaid (Head h) → 32 ∷ text ≢ after_word (Head h)) → Says (codes "head" ++ 32 ∷ text) None
head_none text = kind_none Head (codes "head") text (word_lacks 32 (omega arith) (Head None)) (kind_by_word (codes "head"))

pub end_none : (text : List ℕ) → ((p : ℕ) → FitsSaid (End p) → 32 ∷ text ≢ after_word (End p)) → Says (codes "end" ++ 32 ∷ text) None
end_none text = kind_none End (codes "end") text (word_lacks 32 (omega arith) (End 0)) (kind_by_word (codes "end"))

pub line_none : (text : List ℕ) → ((e : LineEntry) → FitsSaid (Line e) → 32 ∷ text ≢ after_word (Line e)) → Says (codes "line" ++ 32 ∷ text) None
line_none text = kind_none Line (codes "line") text (word_lacks 32 (omega arith) (Line (entry 0 0 false))) (kind_by_word (codes "line"))

pub bear_none : (text : List ℕ) → ((b : Bearer) → FitsSaid (Bear b) → 32 ∷ text ≢ after_word (Bear b)) → Says (codes "bear" ++ 32 ∷ text) None
bear_none text = kind_none Bear (codes "bear") text (word_lacks 32 (omega arith) (Bear (bearer 0 0 0))) (kind_by_word (codes "bear"))

pub win_none : (text : List ℕ) → ((w : Winner) → FitsSaid (Win w) → 32 ∷ text ≢ after_word (Win w)) → Says (codes "win" ++ 32 ∷ text) None
win_none text = kind_none Win (codes "win") text (word_lacks 32 (omega arith) (Win (winner 0 0 0 0))) (kind_by_word (codes "win"))

pub live_none : (text : List ℕ) → ((l : LiveCount) → FitsSaid (Live l) → 32 ∷ text ≢ after_word (Live l)) → Says (codes "live" ++ 32 ∷ text) None
live_none text = kind_none Live (codes "live") text (word_lacks 32 (omega arith) (Live (live 0 0))) (kind_by_word (codes "live"))

-- The numbers of a line.

abbrev numbers_of : Said → List ℕ
numbers_of (Head None) = []
numbers_of (Head (Some line)) = line ∷ []
numbers_of (End p) = p ∷ []
numbers_of (Line e) = e.line ∷ (e.seq ∷ (bit e.full ∷ []))
numbers_of (Bear b) = b.position ∷ (b.line ∷ (b.at ∷ []))
numbers_of (Win w) = w.lba ∷ (w.position ∷ (w.line ∷ (w.at ∷ [])))
numbers_of (Live l) = l.line ∷ (l.count ∷ [])

bit_small : (b : Bool) → bit b < 2 ^ 64
bit_small true = omega arith
bit_small false = omega arith

small_32 : (n : ℕ) → n < 2 ^ 32 → n < 2 ^ 64
small_32 n h = omega arith

pub numbers_small : (s : Said) → FitsSaid s → AreSmall (numbers_of s)
numbers_small (Head None) f = tt
numbers_small (Head (Some line)) f = (small_32 line f, tt)
numbers_small (End p) f = (f, tt)
numbers_small (Line e) f = (small_32 e.line f.0, (f.1, (bit_small e.full, tt)))
numbers_small (Bear b) f = (f.0, (small_32 b.line f.1, (small_32 b.at f.2, tt)))
numbers_small (Win w) f = (f.0, (f.1, (small_32 w.line f.2, (small_32 w.at f.3, tt))))
numbers_small (Live l) f = (small_32 l.line f.0, (f.1, tt))

-- Where nothing is said.

pub says_none : (bytes : List ℕ) (o : Option Said) → o ≡ None → Says bytes None → Says bytes o
says_none bytes None e h = h
says_none bytes (Some s) e h = absurd (cc)

pub end_unread : (text : List ℕ) → AreNumbers 1 text None → Says (codes "end" ++ 32 ∷ text) None
end_unread text h = end_none text (λ p f e. h (numbers_of (End p)) refl (numbers_small (End p) f) e)

pub line_unread : (text : List ℕ) → AreNumbers 3 text None → Says (codes "line" ++ 32 ∷ text) None
line_unread text h = line_none text (λ x f e. h (numbers_of (Line x)) refl (numbers_small (Line x) f) e)

pub line_apart : (text ns : List ℕ) → AreNumbers 3 text (Some ns) → ((e : LineEntry) → FitsSaid (Line e) → numbers_of (Line e) ≢ ns)
    → Says (codes "line" ++ 32 ∷ text) None
line_apart text ns h apart = line_none text
    (λ x f e. apart x f (same_numbers (numbers_of (Line x)) ns (numbers_small (Line x) f) h.1 (sym e ∙ h.0)))

pub bear_unread : (text : List ℕ) → AreNumbers 3 text None → Says (codes "bear" ++ 32 ∷ text) None
bear_unread text h = bear_none text (λ b f e. h (numbers_of (Bear b)) refl (numbers_small (Bear b) f) e)

pub bear_apart : (text ns : List ℕ) → AreNumbers 3 text (Some ns) → ((b : Bearer) → FitsSaid (Bear b) → numbers_of (Bear b) ≢ ns)
    → Says (codes "bear" ++ 32 ∷ text) None
bear_apart text ns h apart = bear_none text
    (λ b f e. apart b f (same_numbers (numbers_of (Bear b)) ns (numbers_small (Bear b) f) h.1 (sym e ∙ h.0)))

pub win_unread : (text : List ℕ) → AreNumbers 4 text None → Says (codes "win" ++ 32 ∷ text) None
win_unread text h = win_none text (λ w f e. h (numbers_of (Win w)) refl (numbers_small (Win w) f) e)

pub win_apart : (text ns : List ℕ) → AreNumbers 4 text (Some ns) → ((w : Winner) → FitsSaid (Win w) → numbers_of (Win w) ≢ ns)
    → Says (codes "win" ++ 32 ∷ text) None
win_apart text ns h apart = win_none text
    (λ w f e. apart w f (same_numbers (numbers_of (Win w)) ns (numbers_small (Win w) f) h.1 (sym e ∙ h.0)))

pub live_unread : (text : List ℕ) → AreNumbers 2 text None → Says (codes "live" ++ 32 ∷ text) None
live_unread text h = live_none text (λ l f e. h (numbers_of (Live l)) refl (numbers_small (Live l) f) e)

pub live_apart : (text ns : List ℕ) → AreNumbers 2 text (Some ns) → ((l : LiveCount) → FitsSaid (Live l) → numbers_of (Live l) ≢ ns)
    → Says (codes "live" ++ 32 ∷ text) None
live_apart text ns h apart = live_none text
    (λ l f e. apart l f (same_numbers (numbers_of (Live l)) ns (numbers_small (Live l) f) h.1 (sym e ∙ h.0)))

-- a number that has more than 32 bits
module _ (text : List ℕ) where
  pub head_unread : text ≢ codes "none" → AreNumbers 1 text None → Says (codes "head" ++ 32 ∷ text) None
  head_unread other h = head_none text by_head where
    by_head : (o : Option ℕ) → FitsSaid (Head o) → 32 ∷ text ≢ after_word (Head o)
    by_head None f e = other (same_rest text (codes "none") e)
    by_head (Some line) f e = h (line ∷ []) refl (numbers_small (Head (Some line)) f) e

  pub head_big : (n : ℕ) → text ≢ codes "none" → AreNumbers 1 text (Some (n ∷ [])) → 2 ^ 32 ≤ n → Says (codes "head" ++ 32 ∷ text) None
  head_big n other h big = head_none text by_head where
    by_head : (o : Option ℕ) → FitsSaid (Head o) → 32 ∷ text ≢ after_word (Head o)
    by_head None f e = other (same_rest text (codes "none") e)
    by_head (Some line) f e =
        let is : line ∷ [] ≡ n ∷ [] = same_numbers (line ∷ []) (n ∷ []) (numbers_small (Head (Some line)) f) h.1 (sym e ∙ h.0) in
        let same : line ≡ n = cc in omega (arith, same, f, big)

  pub line_big : (a b d : ℕ) → AreNumbers 3 text (Some (a ∷ (b ∷ (d ∷ [])))) → 2 ^ 32 ≤ a → Says (codes "line" ++ 32 ∷ text) None
  line_big a b d h big = line_apart text (a ∷ (b ∷ (d ∷ []))) h (λ e f is. (let same : e.line ≡ a = cc in omega (arith, same, f.0, big)))

  pub line_full : (a b d : ℕ) → AreNumbers 3 text (Some (a ∷ (b ∷ (d ∷ [])))) → 1 < d → Says (codes "line" ++ 32 ∷ text) None
  line_full a b d h big = line_apart text (a ∷ (b ∷ (d ∷ []))) h (λ e f is. by_bit e.full (cc)) where
    by_bit : (full : Bool) → bit full ≡ d → ⊥
    by_bit true is = omega (arith, is, big)
    by_bit false is = omega (arith, is, big)

  pub bear_line : (a b d : ℕ) → AreNumbers 3 text (Some (a ∷ (b ∷ (d ∷ [])))) → 2 ^ 32 ≤ b → Says (codes "bear" ++ 32 ∷ text) None
  bear_line a b d h big = bear_apart text (a ∷ (b ∷ (d ∷ []))) h (λ e f is. (let same : e.line ≡ b = cc in omega (arith, same, f.1, big)))

  pub bear_at : (a b d : ℕ) → AreNumbers 3 text (Some (a ∷ (b ∷ (d ∷ [])))) → 2 ^ 32 ≤ d → Says (codes "bear" ++ 32 ∷ text) None
  bear_at a b d h big = bear_apart text (a ∷ (b ∷ (d ∷ []))) h (λ e f is. (let same : e.at ≡ d = cc in omega (arith, same, f.2, big)))

  pub win_line : (a b d e : ℕ) → AreNumbers 4 text (Some (a ∷ (b ∷ (d ∷ (e ∷ []))))) → 2 ^ 32 ≤ d → Says (codes "win" ++ 32 ∷ text) None
  win_line a b d e h big = win_apart text (a ∷ (b ∷ (d ∷ (e ∷ [])))) h (λ w f is. (let same : w.line ≡ d = cc in omega (arith, same, f.2, big)))

  pub win_at : (a b d e : ℕ) → AreNumbers 4 text (Some (a ∷ (b ∷ (d ∷ (e ∷ []))))) → 2 ^ 32 ≤ e → Says (codes "win" ++ 32 ∷ text) None
  win_at a b d e h big = win_apart text (a ∷ (b ∷ (d ∷ (e ∷ [])))) h (λ w f is. (let same : w.at ≡ e = cc in omega (arith, same, f.3, big)))

  pub live_big : (a b : ℕ) → AreNumbers 2 text (Some (a ∷ (b ∷ []))) → 2 ^ 32 ≤ a → Says (codes "live" ++ 32 ∷ text) None
  live_big a b h big = live_apart text (a ∷ (b ∷ [])) h (λ l f is. (let same : l.line ≡ a = cc in omega (arith, same, f.0, big)))

-- A line has one meaning.

same_bit : (a b : Bool) → bit a ≡ bit b → a ≡ b
same_bit true true e = refl
same_bit true false e = absurd (cc)
same_bit false true e = absurd (cc)
same_bit false false e = refl

same_line : (a b : LineEntry) → numbers_of (Line a) ≡ numbers_of (Line b) → a ≡ b
same_line a b e =
    let full : a.full ≡ b.full = same_bit a.full b.full (cc) in
    let is : entry a.line a.seq a.full ≡ entry b.line b.seq b.full = cc in is

same_bear : (a b : Bearer) → numbers_of (Bear a) ≡ numbers_of (Bear b) → a ≡ b
same_bear a b e = let is : bearer a.position a.line a.at ≡ bearer b.position b.line b.at = cc in is

same_win : (a b : Winner) → numbers_of (Win a) ≡ numbers_of (Win b) → a ≡ b
same_win a b e = let is : winner a.lba a.position a.line a.at ≡ winner b.lba b.position b.line b.at = cc in is

same_live : (a b : LiveCount) → numbers_of (Live a) ≡ numbers_of (Live b) → a ≡ b
same_live a b e = let is : live a.line a.count ≡ live b.line b.count = cc in is

-- `none` is no number
not_none : (line : ℕ) → line < 2 ^ 64 → codes " none" ≡ spaced (line ∷ []) → ⊥
not_none line small e =
    let word : codes "none" ≡ decimal line = same_rest (codes "none") (decimal line ++ []) e ∙ append-nil (decimal line) in
    let digits : AllDigits 10 (codes "none") = subst (AllDigits 10) (sym word) (decimal_is_IsNumeral line small).0.1 in
    let first = digit_from_value 110 digits.0 in
    absurd (omega (arith, first))

same_head : (g h : Option ℕ) → FitsSaid (Head g) → FitsSaid (Head h) → after_word (Head g) ≡ after_word (Head h) → Head g ≡ Head h
same_head None None f k e = refl
same_head None (Some line) f k e = absurd (not_none line (small_32 line k) e)
same_head (Some line) None f k e = absurd (not_none line (small_32 line f) (sym e))
same_head (Some line) (Some other) f k e =
    let is : line ∷ [] ≡ other ∷ [] = same_numbers (line ∷ []) (other ∷ []) (small_32 line f, tt) (small_32 other k, tt) e in
    let same : line ≡ other = cc in ap (λ n. Head (Some n)) same

same_of : (s t : Said) → FitsSaid s → FitsSaid t → word_of s ≡ word_of t → after_word s ≡ after_word t → s ≡ t
same_of (Head g) t f k w e =
    let o = kind_by_word (codes "head") t w in
    same_head g o.0 f (subst FitsSaid o.1 k) (e ∙ ap after_word o.1) ∙ sym o.1
same_of (End p) t f k w e =
    let o = kind_by_word (codes "end") t w in
    let is : p ∷ [] ≡ o.0 ∷ [] = same_numbers (p ∷ []) (o.0 ∷ []) (numbers_small (End p) f) (numbers_small (End o.0) (subst FitsSaid o.1 k))
    (e ∙ ap after_word o.1) in
    let same : p ≡ o.0 = cc in ap End same ∙ sym o.1
same_of (Line a) t f k w e =
    let o = kind_by_word (codes "line") t w in
    ap Line (same_line a o.0 (same_numbers (numbers_of (Line a)) (numbers_of (Line o.0)) (numbers_small (Line a) f)
    (numbers_small (Line o.0) (subst FitsSaid o.1 k)) (e ∙ ap after_word o.1))) ∙ sym o.1
same_of (Bear a) t f k w e =
    let o = kind_by_word (codes "bear") t w in
    ap Bear (same_bear a o.0 (same_numbers (numbers_of (Bear a)) (numbers_of (Bear o.0)) (numbers_small (Bear a) f)
    (numbers_small (Bear o.0) (subst FitsSaid o.1 k)) (e ∙ ap after_word o.1))) ∙ sym o.1
same_of (Win a) t f k w e =
    let o = kind_by_word (codes "win") t w in
    ap Win (same_win a o.0 (same_numbers (numbers_of (Win a)) (numbers_of (Win o.0)) (numbers_small (Win a) f)
    (numbers_small (Win o.0) (subst FitsSaid o.1 k)) (e ∙ ap after_word o.1))) ∙ sym o.1
same_of (Live a) t f k w e =
    let o = kind_by_word (codes "live") t w in
    ap Live (same_live a o.0 (same_numbers (numbers_of (Live a)) (numbers_of (Live o.0)) (numbers_small (Live a) f)
    (numbers_small (Live o.0) (subst FitsSaid o.1 k)) (e ∙ ap after_word o.1))) ∙ sym o.1

pub same_said : (s t : Said) → FitsSaid s → FitsSaid t → said_line s ≡ said_line t → s ≡ t
same_said s t f k e =
    let h = cut_line (word_of s) (tail_of (after_word s)) t (word_lacks 32 (omega arith) s) (sym (line_parts s) ∙ e) in
    same_of s t f k h.0 (sym (after_tail s) ∙ h.1)

-- A line lacks newlines.
pub line_lacks : (s : Said) → FitsSaid s → Lacks 10 (said_line s)
line_lacks s f = subst (Lacks 10) (sym (line_is s))
    (all_append (λ b. b ≢ 10) (word_of s) (after_word s) (word_lacks 10 (omega arith) s) (after_no_newline s f)) where
      line_is : (s : Said) → said_line s ≡ word_of s ++ after_word s
      line_is s = line_parts s ∙ ap (λ t. word_of s ++ t) (after_tail s)

      after_no_newline : (s : Said) → FitsSaid s → Lacks 10 (after_word s)
      after_no_newline (Head None) f = (λ e. omega arith, (λ e. omega arith, (λ e. omega arith, (λ e. omega arith, (λ e. omega arith, tt)))))
      after_no_newline (Head (Some line)) f = spaced_lacks (line ∷ []) (numbers_small (Head (Some line)) f)
      after_no_newline (End p) f = spaced_lacks (p ∷ []) (numbers_small (End p) f)
      after_no_newline (Line e) f = spaced_lacks (numbers_of (Line e)) (numbers_small (Line e) f)
      after_no_newline (Bear b) f = spaced_lacks (numbers_of (Bear b)) (numbers_small (Bear b) f)
      after_no_newline (Win w) f = spaced_lacks (numbers_of (Win w)) (numbers_small (Win w) f)
      after_no_newline (Live l) f = spaced_lacks (numbers_of (Live l)) (numbers_small (Live l) f)
