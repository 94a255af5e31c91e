-- What is said in pieces.
use Rattle.std.proofs.Common.{Bor, Result, Ok, Err, zero, suc, get_or, drop, codes, ◌<◌, ◌≡◌, ℕ, ◌+◌, ◌≤◌, inl, inr, refl, List, [], ◌∷◌, ◌++◌, length, take, sym, ap, ap₂, ◌∙◌, subst, arith, append_assoc, length-append}
use Rattle.std.proofs.lemmas.List.{take-append-le, append-nil}
use Rattle.std.proofs.Math.Seq.{take-append-add}
use Rattle.std.specs.Prelude.{IsTrue, OnErr}
use Rattle.std.specs.List.{flat_map}
use Rattle.std.specs.Fmt.{decimal}
use Rattle.pblk_model.specs.Text.{spaced, newline}
use Rattle.pblk_outside.specs.Faults.{HasRisen}
use Rattle.pblk_outside.specs.Sink.{SinkView, TakesPrefix}
use Rattle.command_text.specs.Says.{Says, HasTaken, HasFailed}

pub nothing_taken : (v : SinkView) → HasTaken [] v v
nothing_taken v = record { taken = λ told. sym (append-nil v.taken); told = refl; calm = refl }

pub taken_then : (a b : List ℕ) (old mid new : SinkView) → HasTaken a old mid → HasTaken b mid new → HasTaken (a ++ b) old new
taken_then a b old mid new h k = record {
  taken = λ told. k.taken (subst (λ t. IsTrue t) (sym h.told) told) ∙ ap (λ x. x ++ b) (h.taken told) ∙ append_assoc old.taken a b;
  told = k.told ∙ h.told;
  calm = k.calm ∙ h.calm;
}

prefix_then : (a b old mid new : List ℕ) → mid ≡ old ++ a → TakesPrefix b mid new → TakesPrefix (a ++ b) old new
prefix_then a b old mid new first p = record {
  count = length a + p.count;
  within = omega (arith, p.within, length-append a b);
  taken = p.taken ∙ ap (λ x. x ++ take p.count b) first ∙ append_assoc old a (take p.count b) ∙ ap (λ x. old ++ x) (sym (take-append-add a b p.count));
}

pub failed_then : (a b : List ℕ) (old mid new : SinkView) → HasTaken a old mid → HasFailed b mid new → HasFailed (a ++ b) old new
failed_then a b old mid new h k = record {
  taken = λ told. prefix_then a b old.taken mid.taken new.taken (h.taken told) (k.taken (subst (λ t. IsTrue t) (sym h.told) told));
  told = k.told ∙ h.told;
  risen = subst (λ n. HasRisen n new.faults) h.calm k.risen;
  never_falls = subst (λ n. n ≤ new.faults) h.calm k.never_falls;
}

prefix_first : (a b old new : List ℕ) → TakesPrefix a old new → TakesPrefix (a ++ b) old new
prefix_first a b old new p = record {
  count = p.count;
  within = omega (arith, p.within, length-append a b);
  taken = p.taken ∙ ap (λ x. old ++ x) (sym (take-append-le p.count a b p.within));
}

pub failed_first : (a b : List ℕ) (old new : SinkView) → HasFailed a old new → HasFailed (a ++ b) old new
failed_first a b old new h = record {
  taken = λ told. prefix_first a b old.taken new.taken (h.taken told);
  told = h.told;
  risen = h.risen;
  never_falls = h.never_falls;
}

pub taken_said : (text : List ℕ) (old new : SinkView) → HasTaken text old new → Says text old new
taken_said text old new h = λ told. inl (h.taken told)

pub failed_said : (text : List ℕ) (old new : SinkView) → HasFailed text old new → Says text old new
failed_said text old new h = λ told. inr (h.taken told, h.risen)

pub on_err : {T E : Type 0} (r : Result T E) (P : Type 0) → P → OnErr r P
on_err (Ok x) P p = tt
on_err (Err e) P p = p

pub on_err_map : {T E : Type 0} (r : Result T E) (P Q : Type 0) → OnErr r P → (P → Q) → OnErr r Q
on_err_map (Ok x) P Q h k = tt
on_err_map (Err e) P Q h k = k h

-- Pieces.

pieces_split : (pieces : List (Bor (List ℕ))) (i : ℕ) (d : Bor (List ℕ)) → i < length pieces
    → flat_map (λ piece. piece.now) pieces ≡ (flat_map (λ piece. piece.now) (take i pieces) ++ (get_or pieces i d).now) ++ flat_map (λ piece. piece.now)
    (drop (suc i) pieces)
pieces_split [] i d below = absurd (omega (arith, below))
pieces_split (x ∷ xs) zero d below = refl
pieces_split (x ∷ xs) (suc i) d below = ap (λ ys. x.now ++ ys) (pieces_split xs i d (omega (arith, below))) ∙ simp append_assoc

pub pieces_failed : (pieces : List (Bor (List ℕ))) (i : ℕ) (d : Bor (List ℕ)) (old mid new : SinkView) → i < length pieces
    → HasTaken (flat_map (λ piece. piece.now) (take i pieces)) old mid → HasFailed (get_or pieces i d).now mid new
    → HasFailed (flat_map (λ piece. piece.now) pieces) old new
pieces_failed pieces i d old mid new below h k =
    let before = flat_map (λ piece. piece.now) (take i pieces) in
    let piece = (get_or pieces i d).now in
    subst (λ x. HasFailed x old new) (sym (pieces_split pieces i d below))
    (failed_first (before ++ piece) (flat_map (λ piece. piece.now) (drop (suc i) pieces)) old new (failed_then before piece old mid new h k))

pub said_as : (a b : List ℕ) (old new : SinkView) → a ≡ b → Says a old new → Says b old new
said_as a b old new e h = subst (λ x. Says x old new) e h

-- Lines.

spaced_then : (k : ℕ) (ns ys : List ℕ) → spaced (k ∷ ns) ++ ys ≡ codes " " ++ (decimal k ++ (spaced ns ++ ys))
spaced_then k ns ys = append_assoc (codes " " ++ decimal k) (spaced ns) ys

pub number_line_text : (word digits : List ℕ) (n : ℕ) → digits ≡ decimal n → word ++ (codes " " ++ (digits ++ newline)) ≡ word ++ spaced (n ∷ []) ++ newline
number_line_text word digits n e = ap (λ ds. word ++ (codes " " ++ (ds ++ newline))) e
    ∙ sym (append_assoc word (spaced (n ∷ [])) newline ∙ ap (λ ys. word ++ ys) (spaced_then n [] newline))

pub pair_line_text : (word a b : List ℕ) (k m : ℕ) → a ≡ decimal k → b ≡ decimal m
    → word ++ (codes " " ++ (a ++ (codes " " ++ (b ++ newline)))) ≡ word ++ spaced (k ∷ m ∷ []) ++ newline
pair_line_text word a b k m ea eb =
    ap₂ (λ (x y : List ℕ). word ++ (codes " " ++ (x ++ (codes " " ++ (y ++ newline))))) ea eb
    ∙ sym (append_assoc word (spaced (k ∷ m ∷ [])) newline
    ∙ ap (λ ys. word ++ ys) (spaced_then k (m ∷ []) newline ∙ ap (λ ys. codes " " ++ (decimal k ++ ys)) (spaced_then m [] newline)))

three_numbers : (k m n : ℕ) → spaced (k ∷ m ∷ n ∷ []) ++ newline ≡ codes " " ++
    (decimal k ++ (codes " " ++ (decimal m ++ (codes " " ++ (decimal n ++ newline)))))
three_numbers k m n = spaced_then k (m ∷ n ∷ []) newline
    ∙ ap (λ ys. codes " " ++ (decimal k ++ ys)) (spaced_then m (n ∷ []) newline ∙ ap (λ ys. codes " " ++ (decimal m ++ ys)) (spaced_then n [] newline))

pub numbers_line_text : (word a b c : List ℕ) (k m n : ℕ) → a ≡ decimal k → b ≡ decimal m → c ≡ decimal n
    → word ++ (codes " " ++ (a ++ (codes " " ++ (b ++ (codes " " ++ (c ++ newline)))))) ≡ word ++ spaced (k ∷ m ∷ n ∷ []) ++ newline
numbers_line_text word a b c k m n ea eb ec =
    ap (λ x. word ++ (codes " " ++ (x ++ (codes " " ++ (b ++ (codes " " ++ (c ++ newline))))))) ea
    ∙ ap (λ x. word ++ (codes " " ++ (decimal k ++ (codes " " ++ (x ++ (codes " " ++ (c ++ newline))))))) eb
    ∙ ap (λ x. word ++ (codes " " ++ (decimal k ++ (codes " " ++ (decimal m ++ (codes " " ++ (x ++ newline))))))) ec
    ∙ sym (append_assoc word (spaced (k ∷ m ∷ n ∷ [])) newline ∙ ap (λ ys. word ++ ys) (three_numbers k m n))
