-- Tasks that are done at once, and workers that go on.
use Rattle.std.proofs.Common.{ℕ, zero, suc, ◌+◌, ◌≤◌, ◌≡◌, List, [], ◌∷◌, ◌++◌, take, drop, length, slice_get, Some, subst, sym, refl, ap, ◌∙◌, arith}
use Rattle.std.proofs.lemmas.Option.{none-some, same_Some, slice_get_within}
use Rattle.block_port.specs.Port.{ModelPort}
use Rattle.block_target.specs.Sessions.{SessionView}
use Rattle.pblk_engine.specs.Workers.{WorkerView}
use Rattle.pblk_model.proofs.Parts.{drop_at, get_dropped, got_within, take_front, take_more}
use Rattle.pblk_cli.specs.declared.serving.Task.{Task}
use Rattle.pblk_cli.specs.Serving.{CanAllWork, CanWork, HasDone, HaveAllDone, HaveGoneOn}

-- Workers that went on, each with its number, where the others are as they were.
pub went_on : (helpers n : ℕ) (old ys : List WorkerView) → n ≡ length old → length ys ≡ length old
    → ((i : ℕ) (was w : WorkerView) → slice_get old i ≡ Some was → slice_get ys i ≡ Some w
    → (w.number ≡ was.number) × (helpers ≤ i → w ≡ was))
    → HaveGoneOn helpers old (take n (ys ++ drop (length ys) old))
went_on helpers n old ys long same each =
    subst (HaveGoneOn helpers old) (sym (take_front ys (drop (length ys) old) n (omega (arith, long, same))))
    (record {
      count = same;
      numbers = λ k w at.
          let was = got_within old k (omega (arith, slice_get_within ys k w at, same)) in
          (was.0, was.1, (each k was.0 w was.1 at).0);
      others = λ k w at past.
          let was = got_within old k (omega (arith, slice_get_within ys k w at, same)) in
          was.1 ∙ ap Some (sym ((each k was.0 w was.1 at).1 past));
    })

module _ {M U : Type 0} (model : SessionView → ModelPort) (helpers : ℕ) where
  -- Two tasks can be done.
  pub can_both : (a b : Task M U) → CanWork model helpers a → CanWork model helpers b → CanAllWork model helpers (a ∷ b ∷ [])
  can_both a b p q zero t at = subst (CanWork model helpers) (same_Some a t at) p
  can_both a b p q (suc zero) t at = subst (CanWork model helpers) (same_Some b t at) q
  can_both a b p q (suc (suc i)) t at = absurd (none-some t at)

  -- Of two tasks that were done, the first and the second.
  first_done : (a b x : Task M U) (rest : List (Task M U)) → HaveAllDone model helpers (a ∷ b ∷ []) (x ∷ rest) → HasDone model helpers a x
  first_done a b x rest h = h.done 0 a x refl refl

  second_done : (a b x y : Task M U) (rest : List (Task M U)) → HaveAllDone model helpers (a ∷ b ∷ []) (x ∷ y ∷ rest) → HasDone model helpers b y
  second_done a b x y rest h = h.done 1 b y refl refl

  -- two tasks that were put into a list, which was empty
  put_both : (a b : Task M U) (none one two : List (Task M U)) → none ≡ [] → one ≡ none ++ a ∷ [] → two ≡ one ++ b ∷ [] → two ≡ a ∷ b ∷ []
  put_both a b none one two empty put more = more ∙ ap (λ xs. xs ++ b ∷ []) (put ∙ ap (λ xs. xs ++ a ∷ []) empty)

  -- They were done, and the first was taken out.
  pub first_taken : (a b x : Task M U) (none one two done rest : List (Task M U)) → none ≡ [] → one ≡ none ++ a ∷ [] → two ≡ one ++ b ∷ []
      → HaveAllDone model helpers two done → done ≡ x ∷ rest → HasDone model helpers a x
  first_taken a b x none one two done rest empty put more have taken =
      let both = subst (λ xs. HaveAllDone model helpers xs done) (put_both a b none one two empty put more) have in
      first_done a b x rest (subst (HaveAllDone model helpers (a ∷ b ∷ [])) taken both)

  -- and then the second
  pub second_taken : (a b x y : Task M U) (none one two done left rest : List (Task M U)) → none ≡ [] → one ≡ none ++ a ∷ [] → two ≡ one ++ b ∷ []
      → HaveAllDone model helpers two done → done ≡ x ∷ left → left ≡ y ∷ rest → HasDone model helpers b y
  second_taken a b x y none one two done left rest empty put more have taken next =
      let both = subst (λ xs. HaveAllDone model helpers xs done) (put_both a b none one two empty put more) have in
      second_done a b x y rest (subst (HaveAllDone model helpers (a ∷ b ∷ [])) (taken ∙ ap (λ xs. x ∷ xs) next) both)

-- The next of some values was taken.
pub taken_first : {X : Type 0} (all : List X) (n : ℕ) (x : X) (rest : List X) → drop n all ≡ x ∷ rest
    → (take n all ++ x ∷ [] ≡ take (n + 1) all) × (rest ≡ drop (n + 1) all)
taken_first all n x rest left =
    let same : n + 0 ≡ n = omega arith in
    let at : slice_get all n ≡ Some x = ap (slice_get all) (sym same) ∙ sym (get_dropped n all 0) ∙ ap (λ xs. slice_get xs 0) left in
    (sym (take_more all n x at), ap (drop 1) (sym left) ∙ ap (drop 1) (drop_at all n x at))
