-- A text is that of one certificate at most.
use Rattle.std.proofs.Common.{◌≡◌, ℕ, List, [], ◌∷◌, ◌++◌, map, Option, Some, None, refl, sym, ap, ◌∙◌, append_assoc}
use Rattle.std.specs.List.{AllByRecursion, cons_option, filter_map, flat_map}
use Rattle.pblk_model.specs.declared.found.Winner.{Winner}
use Rattle.pblk_laws.proofs.TextCuts.{cut_first}
use Rattle.image_check.specs.declared.certificate.Bearer.{Bearer}
use Rattle.image_check.specs.declared.certificate.Certificate.{Certificate}
use Rattle.image_check.specs.declared.certificate.LineEntry.{LineEntry}
use Rattle.image_check.specs.declared.certificate.LiveCount.{LiveCount}
use Rattle.image_check.specs.Text.{Fits, FitsSaid, Lacks, bear_said, end_said, head_said, line_said, live_said, said_line, saids_of, text_of, win_said}
use Rattle.image_check.proofs.Saying.{line_lacks, same_said}

no_line : (a rest : List ℕ) → (a ++ 10 ∷ []) ++ rest ≡ [] → ⊥
no_line [] rest e = absurd (cc)
no_line (x ∷ a) rest e = absurd (cc)

-- Things with a line each that tells which it is are told by all of their lines.
module _ {S : Type 0} (Fit : S → Type 0) (line : S → List ℕ) (lacks : (s : S) → Fit s → Lacks 10 (line s))
    (tells : (s t : S) → Fit s → Fit t → line s ≡ line t → s ≡ t) where
  abbrev lines : List S → List ℕ
  lines ss = flat_map (λ s. line s ++ 10 ∷ []) ss

  same_lines : (ss ts : List S) → AllByRecursion Fit ss → AllByRecursion Fit ts → lines ss ≡ lines ts → ss ≡ ts
  same_lines [] [] f g e = refl
  same_lines [] (t ∷ ts) f g e = absurd (no_line (line t) (lines ts) (sym e))
  same_lines (s ∷ ss) [] f g e = absurd (no_line (line s) (lines ss) e)
  same_lines (s ∷ ss) (t ∷ ts) f g e =
      let h = cut_first 10 (line s) (line t) (lines ss) (lines ts) (lacks s f.0) (lacks t g.0)
      (sym (append_assoc (line s) (10 ∷ []) (lines ss)) ∙ e ∙ append_assoc (line t) (10 ∷ []) (lines ts)) in
      ap (λ x. x ∷ ss) (tells s t f.0 g.0 h.0) ∙ ap (λ xs. t ∷ xs) (same_lines ss ts f.1 g.1 h.1)

-- What is said of one kind among four.
module _ {S A B C D : Type 0} (a : A → S) (b : B → S) (c : C → S) (d : D → S) (us : List A) (vs : List B) (ws : List C) (xs : List D) where
  abbrev all : List S
  all = map a us ++ (map b vs ++ (map c ws ++ map d xs))

  module _ {Y : Type 0} (f : S → Option Y) where
    -- another kind says nothing of it
    others : {X : Type 0} (kind : X → S) (ks : List X) (rest : List S) → ((x : X) → f (kind x) ≡ None) → filter_map f (map kind ks ++ rest) ≡ filter_map f rest
    others kind [] rest none = refl
    others kind (x ∷ ks) rest none = ap (λ o. cons_option o (filter_map f (map kind ks ++ rest))) (none x) ∙ others kind ks rest none

    no_others : {X : Type 0} (kind : X → S) (ks : List X) → ((x : X) → f (kind x) ≡ None) → filter_map f (map kind ks) ≡ []
    no_others kind [] none = refl
    no_others kind (x ∷ ks) none = ap (λ o. cons_option o (filter_map f (map kind ks))) (none x) ∙ no_others kind ks none

    -- its own says all
    own : (kind : Y → S) (ys : List Y) (rest : List S) → ((y : Y) → f (kind y) ≡ Some y) → filter_map f rest ≡ [] → filter_map f (map kind ys ++ rest) ≡ ys
    own kind [] rest says none = none
    own kind (y ∷ ys) rest says none =
        ap (λ o. cons_option o (filter_map f (map kind ys ++ rest))) (says y) ∙ ap (λ zs. y ∷ zs) (own kind ys rest says none)

    own_last : (kind : Y → S) (ys : List Y) → ((y : Y) → f (kind y) ≡ Some y) → filter_map f (map kind ys) ≡ ys
    own_last kind [] says = refl
    own_last kind (y ∷ ys) says = ap (λ o. cons_option o (filter_map f (map kind ys))) (says y) ∙ ap (λ zs. y ∷ zs) (own_last kind ys says)

  first_said : (f : S → Option A) → ((x : A) → f (a x) ≡ Some x) → ((x : B) → f (b x) ≡ None) → ((x : C) → f (c x) ≡ None) → ((x : D) → f (d x) ≡ None)
      → filter_map f all ≡ us
  first_said f p q r s = own f a us (map b vs ++ (map c ws ++ map d xs)) p
      (others f b vs (map c ws ++ map d xs) q ∙ others f c ws (map d xs) r ∙ no_others f d xs s)

  second_said : (f : S → Option B) → ((x : A) → f (a x) ≡ None) → ((x : B) → f (b x) ≡ Some x) → ((x : C) → f (c x) ≡ None) → ((x : D) → f (d x) ≡ None)
      → filter_map f all ≡ vs
  second_said f p q r s =
      others f a us (map b vs ++ (map c ws ++ map d xs)) p
      ∙ own f b vs (map c ws ++ map d xs) q (others f c ws (map d xs) r ∙ no_others f d xs s)

  third_said : (f : S → Option C) → ((x : A) → f (a x) ≡ None) → ((x : B) → f (b x) ≡ None) → ((x : C) → f (c x) ≡ Some x) → ((x : D) → f (d x) ≡ None)
      → filter_map f all ≡ ws
  third_said f p q r s =
      others f a us (map b vs ++ (map c ws ++ map d xs)) p ∙ others f b vs (map c ws ++ map d xs) q
      ∙ own f c ws (map d xs) r (no_others f d xs s)

  last_said : (f : S → Option D) → ((x : A) → f (a x) ≡ None) → ((x : B) → f (b x) ≡ None) → ((x : C) → f (c x) ≡ None) → ((x : D) → f (d x) ≡ Some x)
      → filter_map f all ≡ xs
  last_said f p q r s =
      others f a us (map b vs ++ (map c ws ++ map d xs)) p ∙ others f b vs (map c ws ++ map d xs) q
      ∙ others f c ws (map d xs) r ∙ own_last f d xs s

lines_said : (c : Certificate) → filter_map line_said (saids_of c) ≡ c.lines
lines_said c = first_said _ _ _ _ c.lines c.bears c.wins c.lives line_said (λ e. refl) (λ b. refl) (λ w. refl) (λ l. refl)

bears_said : (c : Certificate) → filter_map bear_said (saids_of c) ≡ c.bears
bears_said c = second_said _ _ _ _ c.lines c.bears c.wins c.lives bear_said (λ e. refl) (λ b. refl) (λ w. refl) (λ l. refl)

wins_said : (c : Certificate) → filter_map win_said (saids_of c) ≡ c.wins
wins_said c = third_said _ _ _ _ c.lines c.bears c.wins c.lives win_said (λ e. refl) (λ b. refl) (λ w. refl) (λ l. refl)

lives_said : (c : Certificate) → filter_map live_said (saids_of c) ≡ c.lives
lives_said c = last_said _ _ _ _ c.lines c.bears c.wins c.lives live_said (λ e. refl) (λ b. refl) (λ w. refl) (λ l. refl)

-- Certificates of the same text.

abbrev made : Option ℕ → ℕ → List LineEntry → List Bearer → List Winner → List LiveCount → Certificate
made head end lines bears wins lives = record { head = head; end = end; lines = lines; bears = bears; wins = wins; lives = lives }

pub same_certificates : (c d : Certificate) → Fits c → Fits d → text_of c ≡ text_of d → c ≡ d
same_certificates c d f g e =
    let is : saids_of c ≡ saids_of d = same_lines FitsSaid said_line line_lacks same_said (saids_of c) (saids_of d) f g e in
    let head : c.head ≡ d.head = ap head_said is in
    let end : c.end ≡ d.end = ap end_said is in
    let lines : c.lines ≡ d.lines = sym (lines_said c) ∙ ap (filter_map line_said) is ∙ lines_said d in
    let bears : c.bears ≡ d.bears = sym (bears_said c) ∙ ap (filter_map bear_said) is ∙ bears_said d in
    let wins : c.wins ≡ d.wins = sym (wins_said c) ∙ ap (filter_map win_said) is ∙ wins_said d in
    let lives : c.lives ≡ d.lives = sym (lives_said c) ∙ ap (filter_map live_said) is ∙ lives_said d in
    let same : made c.head c.end c.lines c.bears c.wins c.lives ≡ made d.head d.end d.lines d.bears d.wins d.lives = cc in same
