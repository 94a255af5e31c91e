-- What is read of a certificate, line by line.
use Rattle.std.proofs.Common.{◌≡◌, ◌≢◌, ◌==◌, ℕ, ◌+◌, ◌-◌, ◌^◌, min, true, false, List, [], ◌∷◌, ◌++◌, length, map, Option, Some, None, refl, sym, ap, ◌∙◌, subst, arith, append_assoc, append-nil}
use Rattle.std.specs.List.{filter_map, last_or}
use Rattle.std.specs.List.Sorted.{IsStrictlyIncreasing}
use Rattle.std.specs.Option.{option_to_list}
use Rattle.std.proofs.lemmas.Bool.{eqb-true}
use Rattle.pblk_model.proofs.Lists.{with_last}
use Rattle.pblk_model.proofs.Maps.{more}
use Rattle.pblk_laws.proofs.TextCuts.{cut_first}
use Rattle.image_check.specs.declared.certificate.Certificate.{Certificate}
use Rattle.image_check.specs.declared.said.Said.{Said}
use Rattle.image_check.specs.declared.said.Said.TheVariants.{Head, End, Line, Bear, Win, Live}
use Rattle.image_check.specs.Right.{IsInOrder}
use Rattle.image_check.specs.Text.{FitsSaid, HasRead, IsChain, IsFirstWrong, Lacks, Says, bear_said, end_said, follows, head_said, line_said, live_said, may_stop, said_line, saids_of, spelled, win_said, with_said}
use Rattle.image_check.proofs.Spelling.{has_byte}
use Rattle.image_check.proofs.Saying.{line_lacks, same_said}
use Rattle.image_check.proofs.Chains.{after_end}

-- One line more.

pub last_more : (last : Option Said) (saids : List Said) (s : Said) → Some s ≡ last_or last (saids ++ s ∷ [])
last_more last [] s = refl
last_more last (x ∷ saids) s = last_more (Some x) saids s

pub chain_more : (last : Option Said) (saids : List Said) (s : Said) → IsChain last saids → follows (last_or last saids) s ≡ true
    → IsChain last (saids ++ s ∷ [])
chain_more last [] s h next = (next, tt)
chain_more last (x ∷ saids) s h next = (h.0, chain_more (Some x) saids s h.1 next)

head_more : (x : Said) (saids more : List Said) → head_said ((x ∷ saids) ++ more) ≡ head_said (x ∷ saids)
head_more (Head h) saids more = refl
head_more (End p) saids more = refl
head_more (Line e) saids more = refl
head_more (Bear b) saids more = refl
head_more (Win w) saids more = refl
head_more (Live l) saids more = refl

end_more : (x y : Said) (saids more : List Said) → end_said ((x ∷ (y ∷ saids)) ++ more) ≡ end_said (x ∷ (y ∷ saids))
end_more x (Head h) saids more = refl
end_more x (End p) saids more = refl
end_more x (Line e) saids more = refl
end_more x (Bear b) saids more = refl
end_more x (Win w) saids more = refl
end_more x (Live l) saids more = refl

-- nothing that isn't a head stands first
no_first : (last : Option Said) (s : Said) → last ≡ None → follows None s ≡ false → follows last s ≡ true → ⊥
no_first last s none fails holds = let e : false ≡ true = sym fails ∙ ap (λ o. follows o s) (sym none) ∙ holds in absurd (cc)

no_head_after : (x : Said) (h : Option ℕ) → follows (Some x) (Head h) ≡ true → ⊥
no_head_after (Head g) h e = absurd (cc)
no_head_after (End p) h e = absurd (cc)
no_head_after (Line a) h e = absurd (cc)
no_head_after (Bear a) h e = absurd (cc)
no_head_after (Win a) h e = absurd (cc)
no_head_after (Live a) h e = absurd (cc)

-- the lines before one that isn't the head's have the head and, but for the end's line, the same end
same_head : (saids : List Said) (s : Said) → follows None s ≡ false → follows (last_or None saids) s ≡ true → head_said (saids ++ s ∷ []) ≡ head_said saids
same_head [] s fails next = absurd (no_first None s refl fails next)
same_head (x ∷ saids) s fails next = head_more x saids (s ∷ [])

same_end : (saids : List Said) (s : Said) → ((x : Said) → end_said (x ∷ (s ∷ [])) ≡ 0) → end_said (saids ++ s ∷ []) ≡ end_said saids
same_end [] s fails = refl
same_end (x ∷ []) s fails = fails x
same_end (x ∷ (y ∷ saids)) s fails = end_more x y saids (s ∷ [])

first_head : (saids : List Said) (h : Option ℕ) → follows (last_or None saids) (Head h) ≡ true → saids ≡ []
first_head [] h next = refl
first_head (x ∷ saids) h next = absurd (later x saids next) where
  later : (x : Said) (saids : List Said) → follows (last_or (Some x) saids) (Head h) ≡ true → ⊥
  later x [] next = no_head_after x h next
  later x (y ∷ saids) next = later y saids next

-- the end's line stands second
before_end : (last : Option Said) (p : ℕ) → follows last (End p) ≡ true → (h : Option ℕ) × (last ≡ Some (Head h))
before_end None p e = absurd (cc)
before_end (Some (Head h)) p e = (h, refl)
before_end (Some (End q)) p e = absurd (cc)
before_end (Some (Line a)) p e = absurd (cc)
before_end (Some (Bear a)) p e = absurd (cc)
before_end (Some (Win a)) p e = absurd (cc)
before_end (Some (Live a)) p e = absurd (cc)

no_head_last : (x y : Said) (saids : List Said) (h : Option ℕ) → IsChain (Some x) (y ∷ saids) → last_or (Some y) saids ≡ Some (Head h) → ⊥
no_head_last x y [] h chain e =
    let is : y ≡ Head h = cc in
    no_head_after x h (subst (λ s. follows (Some x) s ≡ true) is chain.0)
no_head_last x y (z ∷ saids) h chain e = no_head_last y z saids h chain.1 e

second_end : (saids : List Said) (p : ℕ) → IsChain None saids → follows (last_or None saids) (End p) ≡ true → end_said (saids ++ End p ∷ []) ≡ p
second_end [] p chain next = absurd (cc)
second_end (x ∷ []) p chain next = refl
second_end (x ∷ (y ∷ saids)) p chain next = let k = before_end (last_or (Some y) saids) p next in absurd (no_head_last x y saids k.0 chain.1 k.1)

-- what lines say of a kind, with what one line more says of it
kind_more : {Y : Type 0} (f : Said → Option Y) (saids : List Said) (s : Said) (ys : List Y) → ys ≡ filter_map f saids
    → ys ++ option_to_list (f s) ≡ filter_map f (saids ++ s ∷ [])
kind_more f saids s ys is = ap (λ zs. zs ++ option_to_list (f s)) is ∙ sym (more f saids s)

kept : {Y : Type 0} (ys : List Y) → ys ≡ ys ++ []
kept ys = sym (append-nil ys)

-- what a certificate has of each kind, with a line more
kinds_with : (c : Certificate) (s : Said) → ((with_said s c).lines ≡ c.lines ++ option_to_list (line_said s))
    × ((with_said s c).bears ≡ c.bears ++ option_to_list (bear_said s))
    × ((with_said s c).wins ≡ c.wins ++ option_to_list (win_said s)) × ((with_said s c).lives ≡ c.lives ++ option_to_list (live_said s))
kinds_with c (Head g) = (kept c.lines, kept c.bears, kept c.wins, kept c.lives)
kinds_with c (End p) = (kept c.lines, kept c.bears, kept c.wins, kept c.lives)
kinds_with c (Line e) = (refl, kept c.bears, kept c.wins, kept c.lives)
kinds_with c (Bear b) = (kept c.lines, refl, kept c.wins, kept c.lives)
kinds_with c (Win w) = (kept c.lines, kept c.bears, refl, kept c.lives)
kinds_with c (Live l) = (kept c.lines, kept c.bears, kept c.wins, refl)

module _ (c : Certificate) (last : Option Said) (saids : List Said) (h : HasRead c last saids) where
  next_is : (s : Said) → follows last s ≡ true → follows (last_or None saids) s ≡ true
  next_is s next = ap (λ o. follows o s) (sym h.last_is) ∙ next

  head_with : (s : Said) → follows (last_or None saids) s ≡ true → (with_said s c).head ≡ head_said (saids ++ s ∷ [])
  head_with (Head g) next = ap (λ xs. head_said (xs ++ Head g ∷ [])) (sym (first_head saids g next))
  head_with (End p) next = h.head ∙ sym (same_head saids (End p) refl next)
  head_with (Line e) next = h.head ∙ sym (same_head saids (Line e) refl next)
  head_with (Bear b) next = h.head ∙ sym (same_head saids (Bear b) refl next)
  head_with (Win w) next = h.head ∙ sym (same_head saids (Win w) refl next)
  head_with (Live l) next = h.head ∙ sym (same_head saids (Live l) refl next)

  end_with : (s : Said) → follows (last_or None saids) s ≡ true → (with_said s c).end ≡ end_said (saids ++ s ∷ [])
  end_with (Head g) next = h.end ∙ sym (same_end saids (Head g) (λ x. refl))
  end_with (End p) next = sym (second_end saids p h.chain next)
  end_with (Line e) next = h.end ∙ sym (same_end saids (Line e) (λ x. refl))
  end_with (Bear b) next = h.end ∙ sym (same_end saids (Bear b) (λ x. refl))
  end_with (Win w) next = h.end ∙ sym (same_end saids (Win w) (λ x. refl))
  end_with (Live l) next = h.end ∙ sym (same_end saids (Live l) (λ x. refl))

  pub read_more : (s : Said) → FitsSaid s → follows last s ≡ true → HasRead (with_said s c) (Some s) (saids ++ s ∷ [])
  read_more s fits next = let kinds = kinds_with c s in record {
    last_is = last_more None saids s;
    chain = chain_more None saids s h.chain (next_is s next);
    fit = with_last FitsSaid saids s h.fit fits;
    head = head_with s (next_is s next);
    end = end_with s (next_is s next);
    lines = kinds.0 ∙ kind_more line_said saids s c.lines h.lines;
    bears = kinds.1 ∙ kind_more bear_said saids s c.bears h.bears;
    wins = kinds.2 ∙ kind_more win_said saids s c.wins h.wins;
    lives = kinds.3 ∙ kind_more live_said saids s c.lives h.lives;
  }

-- The whole text.

-- what was read to an end is a certificate in order
pub whole_is : (c : Certificate) (last : Option Said) (saids : List Said) → HasRead c last saids → may_stop last ≡ true → (saids_of c ≡ saids) × IsInOrder c
whole_is c last [] h stop = let e : false ≡ true = ap may_stop (sym h.last_is) ∙ stop in absurd (cc)
whole_is c last (Head g ∷ []) h stop = let e : false ≡ true = ap may_stop (sym h.last_is) ∙ stop in absurd (cc)
whole_is c last (Head g ∷ (Head i ∷ rest)) h stop = absurd (cc)
whole_is c last (Head g ∷ (End p ∷ rest)) h stop =
    let k = after_end p rest h.chain.1.1 in
    let is : saids_of c ≡ Head g ∷ (End p ∷ (map Line (filter_map line_said rest) ++ (map Bear (filter_map bear_said rest)
    ++ (map Win (filter_map win_said rest) ++ map Live (filter_map live_said rest))))) = cc in (
      is ∙ ap (λ ts. Head g ∷ (End p ∷ ts)) (sym k.is),
      record {
        lines = subst (λ xs. IsStrictlyIncreasing (map (λ e. e.line) xs)) (sym h.lines) k.lines;
        bears = subst (λ xs. IsStrictlyIncreasing (map (λ b. b.position) xs)) (sym h.bears) k.bears;
        wins = subst (λ xs. IsStrictlyIncreasing (map (λ w. w.lba) xs)) (sym h.wins) k.wins;
        lives = subst (λ xs. IsStrictlyIncreasing (map (λ l. l.line) xs)) (sym h.lives) k.lives;
      },
    )
whole_is c last (Head g ∷ (Line e ∷ rest)) h stop = absurd (cc)
whole_is c last (Head g ∷ (Bear b ∷ rest)) h stop = absurd (cc)
whole_is c last (Head g ∷ (Win w ∷ rest)) h stop = absurd (cc)
whole_is c last (Head g ∷ (Live l ∷ rest)) h stop = absurd (cc)
whole_is c last (End p ∷ rest) h stop = absurd (cc)
whole_is c last (Line e ∷ rest) h stop = absurd (cc)
whole_is c last (Bear b ∷ rest) h stop = absurd (cc)
whole_is c last (Win w ∷ rest) h stop = absurd (cc)
whole_is c last (Live l ∷ rest) h stop = absurd (cc)

pub no_length : (xs : List ℕ) → (length xs == 0) ≡ true → xs ≡ []
no_length [] e = refl
no_length (x ∷ xs) e = absurd (omega (arith, eqb-true (length (x ∷ xs)) 0 e))

-- lines and one more
pub spelled_more : (saids : List Said) (s : Said) (line rest more : List ℕ) → rest ≡ line ++ 10 ∷ more → line ≡ said_line s
    → spelled saids ++ rest ≡ spelled (saids ++ s ∷ []) ++ more
spelled_more [] s line rest more cut is =
    cut ∙ ap (λ l. l ++ 10 ∷ more) is ∙ sym (append_assoc (said_line s) (10 ∷ []) more) ∙ ap (λ t. t ++ more) (sym (append-nil (said_line s ++ 10 ∷ [])))
spelled_more (x ∷ saids) s line rest more cut is =
    append_assoc (said_line x ++ 10 ∷ []) (spelled saids) rest
    ∙ ap (λ t. (said_line x ++ 10 ∷ []) ++ t) (spelled_more saids s line rest more cut is)
    ∙ sym (append_assoc (said_line x ++ 10 ∷ []) (spelled (saids ++ s ∷ [])) more)

-- Why a text is refused.

line_cut : (line more l t : List ℕ) → Lacks 10 line → Lacks 10 l → line ++ 10 ∷ more ≡ l ++ 10 ∷ [] ++ t → (line ≡ l) × (more ≡ t)
line_cut line more l t la lb e = cut_first 10 line l more t la lb (e ∙ append_assoc l (10 ∷ []) t)

not_empty : (a b rest : List ℕ) (c : ℕ) → rest ≡ a ++ c ∷ b → rest ≡ [] → ⊥
not_empty [] b rest c e none = absurd (cc)
not_empty (x ∷ a) b rest c e none = absurd (cc)

module _ (c : Certificate) (last : Option Said) (saids : List Said) (bytes rest : List ℕ) (n : ℕ) (h : HasRead c last saids)
    (parts : bytes ≡ spelled saids ++ rest) (number : n ≡ min (length saids + 1) (2 ^ 32 - 1)) where
  -- the rest begins with no line that may stand there
  wrong_from : ((s : Said) (t : List ℕ) → FitsSaid s → follows (last_or None saids) s ≡ true → rest ≢ said_line s ++ 10 ∷ [] ++ t)
      → (rest ≡ [] → may_stop (last_or None saids) ≡ false) → IsFirstWrong bytes n
  wrong_from wrong missing = record {
    front = saids;
    rest = rest;
    parts = parts;
    chain = h.chain;
    fit = h.fit;
    number = number;
    wrong = wrong;
    missing = missing;
  }

  module _ (line more : List ℕ) (cut : rest ≡ line ++ 10 ∷ more) (lacks : Lacks 10 line) where
    is_line : (s : Said) (t : List ℕ) → FitsSaid s → rest ≡ said_line s ++ 10 ∷ [] ++ t → line ≡ said_line s
    is_line s t fits e = (line_cut line more (said_line s) t lacks (line_lacks s fits) (sym cut ∙ e)).0

    pub no_line : Says line None → IsFirstWrong bytes n
    no_line none = wrong_from (λ s t fits next e. none s fits (is_line s t fits e)) (λ empty. absurd (not_empty line more rest 10 cut empty))

    pub no_place : (said : Said) → Says line (Some said) → follows last said ≡ false → IsFirstWrong bytes n
    no_place said says fails = wrong_from another (λ empty. absurd (not_empty line more rest 10 cut empty)) where
      another : (s : Said) (t : List ℕ) → FitsSaid s → follows (last_or None saids) s ≡ true → rest ≢ said_line s ++ 10 ∷ [] ++ t
      another s t fits next e =
          let same : said ≡ s = same_said said s says.1 fits (sym says.0 ∙ is_line s t fits e) in
          let holds : follows last said ≡ true = ap (follows last) same ∙ ap (λ o. follows o s) h.last_is ∙ next in
          let both : true ≡ false = sym holds ∙ fails in absurd (cc)

  pub no_end : Lacks 10 rest → (rest ≡ [] → may_stop last ≡ false) → IsFirstWrong bytes n
  no_end lacks stop = wrong_from
      (λ s t fits next e. has_byte 10 (said_line s) t (subst (Lacks 10) (e ∙ append_assoc (said_line s) (10 ∷ []) t) lacks))
      (λ empty. ap may_stop (sym h.last_is) ∙ stop empty)
