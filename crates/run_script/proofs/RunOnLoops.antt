-- How far the loops over threads have come.
use Rattle.std.proofs.Common.{◌≡◌, ◌⊎◌, ℕ, zero, suc, ◌+◌, ◌<◌, ◌≤◌, Bool, true, false, List, [], ◌∷◌, ◌++◌, map, length, get_or, drop, take, replicate, ◌-◌, None, refl, sym, ap, ◌∙◌, subst, arith, inl, inr, append_assoc, append-nil}
use Rattle.std.specs.List.{flat_map, slice_set, sum_by}
use Rattle.std.proofs.lemmas.List.{drop-drop, length-append, length-take-le, map-append, map-set, set_at, take_all, take-map, take_at, take_more}
use Rattle.std.proofs.lemmas.List.Sums.{sum_by-append, sum_by-cons}
use Rattle.pblk_model.specs.declared.script.Command.{Command}
use Rattle.pblk_model.specs.ScriptText.{Said, Numbered, run_on, turn, turns, least_standing, stuck_at, unposted}
use Rattle.run_script.specs.declared.names.Names.{Names}
use Rattle.run_script.specs.Turns.{lifted, AreLeft, Passes, RunsOn, TakesTurn}
use Rattle.pblk_model.proofs.Parts.{drop_front}
use Rattle.run_script.proofs.RunOn.{known_next, known_parts, known_more, next_mapped, unposted-end}
use Rattle.pblk_model.proofs.ScriptTextLemmas.{run_on-end, turn-end, turn-next, turns-next, turns-stay}
use Rattle.pblk_laws.proofs.ScriptTurns.{run_on-past, run_on-stands, turn-stays}

-- A thread was run on to what is left of it.
pub record IsRunOn (old now : Names) (thread left : Numbered) : Type 0 where
  pub ran : (all : List Said) (posted : List (List ℕ)) → AreLeft all old posted → unposted all (lifted thread) ≡ None
      → (more : List (List ℕ)) × AreLeft all now more × (run_on posted thread ≡ run_on more left) × (unposted all (lifted left) ≡ None)
  pub length : length left ≤ length thread

pub run_on-start : (old : Names) (thread : Numbered) → IsRunOn old old thread thread
run_on-start old thread = record { ran = λ all posted are known. (posted, are, refl, known); length = omega arith }

pub run_on-goes : (old now next : Names) (thread left rest : Numbered) (n : ℕ) (c : Command) → IsRunOn old now thread left → left ≡ (n, c) ∷ rest
    → Passes now next c true → IsRunOn old next thread rest
run_on-goes old now next thread left rest n c h is goes = record {
  ran = λ all posted are known.
      let here = h.ran all posted are known in
      let cut = known_next all (n, c) rest (sym (ap (λ t. unposted all (lifted t)) is) ∙ here.3) in
      let more = goes all here.0 here.1 cut.0 in
      (more.0, more.2, here.2 ∙ ap (run_on here.0) is ∙ run_on-past here.0 more.0 n c rest more.1, cut.1);
  length = omega (arith, h.length, ap length is);
}

pub run_on-stops : (old now next : Names) (thread left rest : Numbered) (n : ℕ) (c : Command) → IsRunOn old now thread left → left ≡ (n, c) ∷ rest
    → Passes now next c false → RunsOn old next thread left
run_on-stops old now next thread left rest n c h is stays = λ all posted are known.
    let here = h.ran all posted are known in
    let cut = known_next all (n, c) rest (sym (ap (λ t. unposted all (lifted t)) is) ∙ here.3) in
    let none = stays all here.0 here.1 cut.0 in
    let ran : run_on posted thread ≡ (here.0, left) = here.2 ∙ ap (run_on here.0) is ∙ run_on-stands here.0 n c rest none.0 ∙ ap (λ t. (here.0, t)) (sym is) in
    (subst (AreLeft all next) (sym (ap (λ r. r.0) ran)) none.1, sym (ap (λ r. r.1) ran), here.3)

pub run_on-ends : (old now : Names) (thread left : Numbered) → IsRunOn old now thread left → left ≡ [] → RunsOn old now thread left
run_on-ends old now thread left h is = λ all posted are known.
    let here = h.ran all posted are known in
    let ran : run_on posted thread ≡ (here.0, left) = here.2 ∙ ap (run_on here.0) is ∙ run_on-end here.0 ∙ ap (λ t. (here.0, t)) (sym is) in
    (subst (AreLeft all now) (sym (ap (λ r. r.0) ran)) here.1, sym (ap (λ r. r.1) ran), here.3)

-- Some of the threads were run on, to these rests.
pub record IsTurned (old now : Names) (threads : List Numbered) (index : ℕ) (rests : List Numbered) (moved : Bool) : Type 0 where
  pub ran : (all : List Said) (posted : List (List ℕ)) → AreLeft all old posted → unposted all (flat_map lifted threads) ≡ None
      → (more : List (List ℕ)) × AreLeft all now more
      × (turn posted threads ≡ ((turn more (drop index threads)).0, rests ++ (turn more (drop index threads)).1))
      × (unposted all (flat_map lifted rests) ≡ None) × (unposted all (flat_map lifted (drop index threads)) ≡ None)
  pub fewer : sum_by length rests + sum_by length (drop index threads) ≤ sum_by length threads
  pub moves : moved ≡ true → sum_by length rests + sum_by length (drop index threads) < sum_by length threads
  pub stands : moved ≡ false → map length rests ++ map length (drop index threads) ≡ map length threads

pub turned-start : (old : Names) (threads : List Numbered) → IsTurned old old threads 0 [] false
turned-start old threads = record {
  ran = λ all posted are known. (posted, are, refl, unposted-end all, known);
  fewer = omega arith;
  moves = λ e. absurd (cc);
  stands = λ e. refl;
}

pub turned-next : (old now next : Names) (threads : List Numbered) (index : ℕ) (rests : List Numbered) (moved moved' : Bool) (thread rest : Numbered)
    → IsTurned old now threads index rests moved
    → drop index threads ≡ thread ∷ drop (index + 1) threads → RunsOn now next thread rest → length rest ≤ length thread
    → (moved' ≡ true → (moved ≡ true) ⊎ (length rest < length thread)) → (moved' ≡ false → (moved ≡ false) × (length thread ≤ length rest))
    → IsTurned old next threads (index + 1) (rests ++ rest ∷ []) moved'
turned-next old now next threads index rests moved moved' thread rest h at runs short moves stands =
    let sums : sum_by length (drop index threads) ≡ length thread + sum_by length (drop (index + 1) threads) = ap (sum_by length) at
    ∙ sum_by-cons length thread (drop (index + 1) threads) in
    let more_sums : sum_by length (rests ++ rest ∷ []) ≡ sum_by length rests + length rest = sum_by-append length rests (rest ∷ [])
    ∙ ap (λ k. sum_by length rests + k) (sum_by-cons length rest [] ∙ omega arith) in
    record {
      ran = λ all posted are known.
          let here = h.ran all posted are known in
          let known_here = sym (ap (λ ts. unposted all (flat_map lifted ts)) at) ∙ here.4 in
          let cut = known_parts all (lifted thread) (flat_map lifted (drop (index + 1) threads)) known_here in
          let ran = runs all here.0 here.1 cut.0 in
          let list = (run_on here.0 thread).0 in
          let later = turn list (drop (index + 1) threads) in
          let turned : turn here.0 (drop index threads) ≡ (later.0, rest ∷ later.1) = ap (turn here.0) at ∙ turn-next here.0 thread (drop (index + 1) threads)
          ∙ ap (λ t. (later.0, t ∷ later.1)) (sym ran.1) in (
            list,
            ran.0,
            here.2 ∙ ap (λ r. (r.0, rests ++ r.1)) turned ∙ ap (λ t. (later.0, t)) (sym (append_assoc rests (rest ∷ []) later.1)),
            known_more all rests rest here.3 ran.2,
            cut.1,
          );
      fewer = omega (arith, h.fewer, sums, more_sums, short);
      moves = λ e. elim (moves e) [
        | inl before ↦ omega (arith, h.moves before, sums, more_sums, short)
        | inr shorter ↦ omega (arith, h.fewer, sums, more_sums, shorter)
      ];
      stands = λ e.
          let both = stands e in
          let same : length rest ≡ length thread = omega (arith, both.1, short) in
          ap (λ ls. ls ++ map length (drop (index + 1) threads)) (map-append length rests (rest ∷ []))
          ∙ append_assoc (map length rests) (length rest ∷ []) (map length (drop (index + 1) threads))
          ∙ ap (λ k. map length rests ++ k ∷ map length (drop (index + 1) threads)) same ∙ ap (λ ts. map length rests ++ map length ts) (sym at)
          ∙ h.stands both.0;
    }

pub turned-end : (old now : Names) (threads : List Numbered) (index : ℕ) (rests : List Numbered) (moved : Bool) → IsTurned old now threads index rests moved
    → drop index threads ≡ []
    → TakesTurn old now threads rests × (moved ≡ true → sum_by length rests < sum_by length threads) × (moved ≡ false → map length rests ≡ map length threads)
turned-end old now threads index rests moved h none = (
  λ all posted are known.
      let here = h.ran all posted are known in
      let turned : turn posted threads ≡ (here.0, rests) = here.2 ∙ ap (λ ts. ((turn here.0 ts).0, rests ++ (turn here.0 ts).1)) none
      ∙ ap (λ r. (r.0, rests ++ r.1)) (turn-end here.0) ∙ ap (λ t. (here.0, t)) (append-nil rests) in
      (subst (AreLeft all now) (sym (ap (λ r. r.0) turned)) here.1, sym (ap (λ r. r.1) turned), here.3),
  λ e. omega (arith, h.moves e),
  λ e. sym (append-nil (map length rests)) ∙ ap (λ ts. map length rests ++ map length ts) (sym none) ∙ h.stands e,
)

-- The next thread of a turn, and its rest in its place, behind the rests of those before it.

drop_tail : {A : Type 0} (xs : List A) (i : ℕ) (x : A) (rest : List A) → drop i xs ≡ x ∷ rest → drop (i + 1) xs ≡ rest
drop_tail xs i x rest e = sym (drop-drop 1 i xs) ∙ ap (drop 1) e

pub turn_at : {A B : Type 0} (f : A → B) (xs : List A) (rests threads : List B) (i : ℕ) (x : A) → map f xs ≡ rests ++ drop i threads → length rests ≡ i
    → i < length xs → x ≡ get_or xs i x → drop i threads ≡ f x ∷ drop (i + 1) threads
turn_at f xs rests threads i x is n h at =
    let here : drop i threads ≡ f x ∷ drop (i + 1) (map f xs) = sym (ap (drop i) is ∙ drop_front rests (drop i threads) i n) ∙ next_mapped f xs i x h at in
    here ∙ ap (λ ts. f x ∷ ts) (sym (drop_tail threads i (f x) (drop (i + 1) (map f xs)) here))

pub turn_put : {A B : Type 0} (f : A → B) (xs : List A) (rests threads : List B) (i : ℕ) (rest : A) (thread : B) → map f xs ≡ rests ++ drop i threads
    → length rests ≡ i → drop i threads ≡ thread ∷ drop (i + 1) threads
    → map f (slice_set xs i rest) ≡ (rests ++ f rest ∷ []) ++ drop (i + 1) threads
turn_put f xs rests threads i rest thread is n at =
    map-set f xs i rest ∙ ap (λ ts. slice_set ts i (f rest)) (is ∙ ap (λ ts. rests ++ ts) at) ∙ set_at rests thread (drop (i + 1) threads) (f rest) i n
    ∙ sym (append_assoc rests (f rest ∷ []) (drop (i + 1) threads))

-- The places of the threads: those that ended come first, and the last fills the others.

pub fill_next : {A B : Type 0} (f : A → B) (xs : List A) (ended : List B) (last : B) (i : ℕ) (x : A) (y : B)
    → map f xs ≡ take i ended ++ replicate (16 - i) last → i < 16 → i < length ended → y ≡ get_or ended i y → f x ≡ y
    → map f (slice_set xs i x) ≡ take (i + 1) ended ++ replicate (16 - (i + 1)) last
fill_next f xs ended last i x y is early within at same =
    let places : 16 - i ≡ suc (16 - (i + 1)) = omega arith in
    let others = replicate (16 - (i + 1)) last in
    let next : take (i + 1) ended ≡ take i ended ++ f x ∷ [] = take_more ended i y within ∙ ap (λ z. take i ended ++ z ∷ []) (sym at ∙ sym same) in
    map-set f xs i x ∙ ap (λ ts. slice_set ts i (f x)) (is ∙ ap (λ k. take i ended ++ replicate k last) places)
    ∙ set_at (take i ended) last others (f x) i (length-take-le i ended (omega (arith, within))) ∙ sym (append_assoc (take i ended) (f x ∷ []) others)
    ∙ ap (λ ts. ts ++ others) (sym next)

pub fill_end : {A B : Type 0} (f : A → B) (xs : List A) (ended : List B) (last : B) (i : ℕ) → map f xs ≡ take i ended ++ replicate (16 - i) last
    → i ≡ length ended → length ended < 16 → map f (take (i + 1) xs) ≡ ended ++ last ∷ []
fill_end f xs ended last i is n few =
    let places : 16 - i ≡ suc (15 - i) = omega (arith, n, few) in
    let others = replicate (15 - i) last in
    let whole : take i ended ≡ ended = ap (λ k. take k ended) n ∙ take_all (length ended) ended (omega arith) in
    sym (take-map f (i + 1) xs) ∙ ap (take (i + 1)) (is ∙ ap (λ k. take i ended ++ replicate k last) places ∙ ap (λ ts. ts ++ last ∷ others) whole
    ∙ sym (append_assoc ended (last ∷ []) others))
    ∙ take_at (ended ++ last ∷ []) others (i + 1) (length-append ended (last ∷ []) ∙ ap (λ k. k + 1) (sym n))

-- The threads took turns, down to what is left of them.
pub record AreTurned (all : List Said) (now : Names) (threads left : List Numbered) : Type 0 where
  pub posted : List (List ℕ)
  pub listed : AreLeft all now posted
  pub known : unposted all (flat_map lifted left) ≡ None
  pub more : ℕ
  pub enough : sum_by length left ≤ more
  pub same : turns more posted left ≡ turns (sum_by length threads) [] threads

pub turns-start : (all : List Said) (now : Names) (threads : List Numbered) → AreLeft all now [] → unposted all (flat_map lifted threads) ≡ None
    → AreTurned all now threads threads
turns-start all now threads are known = record {
  posted = [];
  listed = are;
  known = known;
  more = sum_by length threads;
  enough = omega arith;
  same = refl;
}

next_turn : (all : List Said) (now next : Names) (threads left rest : List Numbered) (posted : List (List ℕ)) (more : ℕ) → AreLeft all now posted
    → unposted all (flat_map lifted left) ≡ None → sum_by length left ≤ more
    → turns more posted left ≡ turns (sum_by length threads) [] threads
    → TakesTurn now next left rest → sum_by length rest < sum_by length left → AreTurned all next threads rest
next_turn all now next threads left rest posted zero are known enough same takes fewer = absurd (omega (arith, enough, fewer))
next_turn all now next threads left rest posted (suc more) are known enough same takes fewer =
    let took = takes all posted are known in record {
      posted = (turn posted left).0;
      listed = took.0;
      known = took.2;
      more = more;
      enough = omega (arith, enough, fewer);
      same = ap (turns more (turn posted left).0) took.1 ∙ sym (turns-next more posted left) ∙ same;
    }

pub turns-next_turn : (all : List Said) (now next : Names) (threads left rest : List Numbered) → AreTurned all now threads left → TakesTurn now next left rest
    → sum_by length rest < sum_by length left → AreTurned all next threads rest
turns-next_turn all now next threads left rest h takes fewer =
    next_turn all now next threads left rest h.posted h.more h.listed h.known h.enough h.same takes fewer

pub turns-end : (all : List Said) (now next : Names) (threads left rest : List Numbered) → AreTurned all now threads left → TakesTurn now next left rest
    → map length rest ≡ map length left → least_standing rest ≡ stuck_at threads
turns-end all now next threads left rest h takes stands =
    let took = takes all h.posted h.listed h.known in
    let stays = turn-stays h.posted left (ap (map length) (sym took.1) ∙ stands) in
    ap least_standing (took.1 ∙ ap (λ r. r.1) stays ∙ sym (turns-stay h.more h.posted left stays) ∙ h.same)
