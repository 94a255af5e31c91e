-- Lemmas on the words of ScriptText.
use Rattle.std.proofs.Common.{List, [], ap, refl, suc, zero, ℕ, ◌∙◌, ◌∷◌, ◌≡◌}
use Rattle.pblk_model.specs.ScriptText.{Numbered, run_on, turn, turns}

pub run_on-end : (posted : List (List ℕ)) → run_on posted [] ≡ (posted, [])
unfolding run_on
run_on-end posted = refl

pub turn-end : (posted : List (List ℕ)) → turn posted [] ≡ (posted, [])
unfolding turn
turn-end posted = refl

pub turn-next : (posted : List (List ℕ)) (thread : Numbered) (threads : List Numbered)
    → turn posted (thread ∷ threads) ≡ ((turn (run_on posted thread).0 threads).0, (run_on posted thread).1 ∷ (turn (run_on posted thread).0 threads).1)
unfolding turn
turn-next posted thread threads = refl

pub turns-stay : (k : ℕ) (posted : List (List ℕ)) (threads : List Numbered) → turn posted threads ≡ (posted, threads) → turns k posted threads ≡ threads
unfolding turns
turns-stay zero posted threads e = refl
turns-stay (suc k) posted threads e = ap (λ r. turns k r.0 r.1) e ∙ turns-stay k posted threads e

pub turns-next : (k : ℕ) (posted : List (List ℕ)) (threads : List Numbered)
    → turns (suc k) posted threads ≡ turns k (turn posted threads).0 (turn posted threads).1
unfolding turns
turns-next k posted threads = refl
