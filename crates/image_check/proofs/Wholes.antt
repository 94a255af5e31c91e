-- A certificate's own text is read, and as that certificate.
use Rattle.std.proofs.Common.{◌≡◌, ◌≢◌, ℕ, true, false, List, [], ◌∷◌, ◌++◌, map, Option, Some, None, refl, sym, ap, ◌∙◌, append_assoc}
use Rattle.std.specs.List.{AllByRecursion, last_or}
use Rattle.std.specs.List.Sorted.{IsStrictlyIncreasing}
use Rattle.std.proofs.lemmas.Bool.{lt-ltb}
use Rattle.pblk_laws.proofs.TextCuts.{cut_first}
use Rattle.pblk_model.specs.declared.found.Winner.{Winner}
use Rattle.image_check.specs.declared.certificate.Bearer.{Bearer}
use Rattle.image_check.specs.declared.certificate.Certificate.{Certificate}
use Rattle.image_check.specs.declared.certificate.LineEntry.{LineEntry}
use Rattle.image_check.specs.declared.certificate.LiveCount.{LiveCount}
use Rattle.image_check.specs.declared.said.Said.{Said}
use Rattle.image_check.specs.declared.said.Said.TheVariants.{Head, End, Line, Bear, Win, Live}
use Rattle.image_check.specs.Right.{IsInOrder}
use Rattle.image_check.specs.Text.{Fits, FitsSaid, IsChain, IsFirstWrong, follows, may_stop, said_line, saids_of, spelled, text_of}
use Rattle.image_check.proofs.Rises.{rise_first, rise_tail}
use Rattle.image_check.proofs.Saying.{line_lacks, same_said}

-- The lines of a certificate in order may stand as they do. Of each kind in turn, behind what may stand before it.

lives_from : (a : LiveCount) (xs : List LiveCount) → IsStrictlyIncreasing (map (λ l. l.line) (a ∷ xs)) → IsChain (Some (Live a)) (map Live xs)
lives_from a [] h = tt
lives_from a (x ∷ xs) h = (
  lt-ltb a.line x.line (rise_first a.line x.line (map (λ l. l.line) xs) h),
  lives_from x xs (rise_tail a.line (map (λ l. l.line) (x ∷ xs)) h),
)

chain_lives : (s : Said) (xs : List LiveCount) → ((l : LiveCount) → follows (Some s) (Live l) ≡ true) → IsStrictlyIncreasing (map (λ l. l.line) xs)
    → IsChain (Some s) (map Live xs)
chain_lives s [] may h = tt
chain_lives s (x ∷ xs) may h = (may x, lives_from x xs h)

module _ (vs : List LiveCount) (lives : IsStrictlyIncreasing (map (λ l. l.line) vs)) where
  wins_from : (a : Winner) (xs : List Winner) → IsStrictlyIncreasing (map (λ w. w.lba) (a ∷ xs)) → IsChain (Some (Win a)) (map Win xs ++ map Live vs)
  wins_from a [] h = chain_lives (Win a) vs (λ l. refl) lives
  wins_from a (x ∷ xs) h = (lt-ltb a.lba x.lba (rise_first a.lba x.lba (map (λ w. w.lba) xs) h), wins_from x xs (rise_tail a.lba (map (λ w. w.lba) (x ∷ xs)) h))

  chain_wins : (s : Said) (xs : List Winner) → ((w : Winner) → follows (Some s) (Win w) ≡ true) → ((l : LiveCount) → follows (Some s) (Live l) ≡ true)
      → IsStrictlyIncreasing (map (λ w. w.lba) xs) → IsChain (Some s) (map Win xs ++ map Live vs)
  chain_wins s [] may later h = chain_lives s vs later lives
  chain_wins s (x ∷ xs) may later h = (may x, wins_from x xs h)

  module _ (ws : List Winner) (wins : IsStrictlyIncreasing (map (λ w. w.lba) ws)) where
    bears_from : (a : Bearer) (xs : List Bearer) → IsStrictlyIncreasing (map (λ b. b.position) (a ∷ xs))
        → IsChain (Some (Bear a)) (map Bear xs ++ (map Win ws ++ map Live vs))
    bears_from a [] h = chain_wins (Bear a) ws (λ w. refl) (λ l. refl) wins
    bears_from a (x ∷ xs) h = (
      lt-ltb a.position x.position (rise_first a.position x.position (map (λ b. b.position) xs) h),
      bears_from x xs (rise_tail a.position (map (λ b. b.position) (x ∷ xs)) h),
    )

    chain_bears : (s : Said) (xs : List Bearer) → ((b : Bearer) → follows (Some s) (Bear b) ≡ true) → ((w : Winner) → follows (Some s) (Win w) ≡ true)
        → ((l : LiveCount) → follows (Some s) (Live l) ≡ true) → IsStrictlyIncreasing (map (λ b. b.position) xs)
        → IsChain (Some s) (map Bear xs ++ (map Win ws ++ map Live vs))
    chain_bears s [] may second third h = chain_wins s ws second third wins
    chain_bears s (x ∷ xs) may second third h = (may x, bears_from x xs h)

    module _ (bs : List Bearer) (bears : IsStrictlyIncreasing (map (λ b. b.position) bs)) where
      lines_from : (a : LineEntry) (xs : List LineEntry) → IsStrictlyIncreasing (map (λ e. e.line) (a ∷ xs))
          → IsChain (Some (Line a)) (map Line xs ++ (map Bear bs ++ (map Win ws ++ map Live vs)))
      lines_from a [] h = chain_bears (Line a) bs (λ b. refl) (λ w. refl) (λ l. refl) bears
      lines_from a (x ∷ xs) h = (
        lt-ltb a.line x.line (rise_first a.line x.line (map (λ e. e.line) xs) h),
        lines_from x xs (rise_tail a.line (map (λ e. e.line) (x ∷ xs)) h),
      )

      chain_lines : (p : ℕ) (xs : List LineEntry) → IsStrictlyIncreasing (map (λ e. e.line) xs)
          → IsChain (Some (End p)) (map Line xs ++ (map Bear bs ++ (map Win ws ++ map Live vs)))
      chain_lines p [] h = chain_bears (End p) bs (λ b. refl) (λ w. refl) (λ l. refl) bears
      chain_lines p (x ∷ xs) h = (refl, lines_from x xs h)

pub in_order_chains : (c : Certificate) → IsInOrder c → IsChain None (saids_of c)
in_order_chains c h = (refl, (refl, chain_lines c.lives h.lives c.wins h.wins c.bears h.bears c.end c.lines h.lines))

-- Two texts of lines begin alike.

first_line : (s t : Said) (u v : List ℕ) → FitsSaid s → FitsSaid t → (said_line s ++ 10 ∷ []) ++ u ≡ (said_line t ++ 10 ∷ []) ++ v → (s ≡ t) × (u ≡ v)
first_line s t u v f g e =
    let h = cut_first 10 (said_line s) (said_line t) u v (line_lacks s f) (line_lacks t g)
    (sym (append_assoc (said_line s) (10 ∷ []) u) ∙ e ∙ append_assoc (said_line t) (10 ∷ []) v) in
    (same_said s t f g h.0, h.1)

not_nothing : (s : Said) (u : List ℕ) → (said_line s ++ 10 ∷ []) ++ u ≡ [] → ⊥
not_nothing s u e = some (said_line s) e where
  some : (a : List ℕ) → (a ++ 10 ∷ []) ++ u ≡ [] → ⊥
  some [] e = absurd (cc)
  some (x ∷ a) e = absurd (cc)

-- the text of lines that may stand so, and end so, isn't wrong anywhere
never_wrong : (last : Option Said) (saids front : List Said) (rest : List ℕ) → IsChain last saids → AllByRecursion FitsSaid saids
    → AllByRecursion FitsSaid front
    → spelled saids ≡ spelled front ++ rest → may_stop (last_or last saids) ≡ true
    → ((s : Said) (more : List ℕ) → FitsSaid s → follows (last_or last front) s ≡ true → rest ≢ (said_line s ++ 10 ∷ []) ++ more)
    → (rest ≡ [] → may_stop (last_or last front) ≡ false) → ⊥
never_wrong last [] [] rest chain fit f e stop wrong missing = let both : true ≡ false = sym stop ∙ missing (sym e) in absurd (cc)
never_wrong last (s ∷ saids) [] rest chain fit f e stop wrong missing = wrong s (spelled saids) fit.0 chain.0 (sym e)
never_wrong last [] (t ∷ front) rest chain fit f e stop wrong missing =
    not_nothing t (spelled front ++ rest) (sym (append_assoc (said_line t ++ 10 ∷ []) (spelled front) rest) ∙ sym e)
never_wrong last (s ∷ saids) (t ∷ front) rest chain fit f e stop wrong missing =
    let h = first_line s t (spelled saids) (spelled front ++ rest) fit.0 f.0 (e ∙ append_assoc (said_line t ++ 10 ∷ []) (spelled front) rest) in
    never_wrong (Some s) saids front rest chain.1 fit.1 f.1 h.1 stop
    (λ x more g next. wrong x more g (ap (λ y. follows (last_or (Some y) front) x) (sym h.0) ∙ next))
    (λ none. ap (λ y. may_stop (last_or (Some y) front)) h.0 ∙ missing none)

stops_after : (p : Said) (saids : List Said) → may_stop (Some p) ≡ true → IsChain (Some p) saids → may_stop (last_or (Some p) saids) ≡ true
stops_after p [] stop chain = stop
stops_after p (s ∷ saids) stop chain = stops_after s saids (not_head s chain.0) chain.1 where
  not_head : (s : Said) → follows (Some p) s ≡ true → may_stop (Some s) ≡ true
  not_head (Head h) next = absurd (no_head p h stop next) where
    no_head : (p : Said) (h : Option ℕ) → may_stop (Some p) ≡ true → follows (Some p) (Head h) ≡ true → ⊥
    no_head (Head g) h stop next = absurd (cc)
    no_head (End q) h stop next = absurd (cc)
    no_head (Line a) h stop next = absurd (cc)
    no_head (Bear a) h stop next = absurd (cc)
    no_head (Win a) h stop next = absurd (cc)
    no_head (Live a) h stop next = absurd (cc)
  not_head (End q) next = refl
  not_head (Line a) next = refl
  not_head (Bear a) next = refl
  not_head (Win a) next = refl
  not_head (Live a) next = refl

pub own_text_is_read : (c : Certificate) (n : ℕ) → IsInOrder c → Fits c → IsFirstWrong (text_of c) n → ⊥
own_text_is_read c n order fits h =
    let chain = in_order_chains c order in
    never_wrong None (saids_of c) h.front h.rest chain fits h.fit h.parts (stops_after (End c.end) _ refl chain.1.1) h.wrong h.missing
