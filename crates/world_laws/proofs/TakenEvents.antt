-- Entries by the events that took them.
use Rattle.std.proofs.Common.{◌≡◌, ℕ, zero, suc, Some, None, Option, List, [], ◌∷◌, take, refl, ap, ◌∙◌, sym}
use Rattle.std.specs.Prelude.{slice_get}
use Rattle.std.specs.List.{cons_option}
use Rattle.std.proofs.lemmas.Option.{none-some, same_Some}
use Rattle.pblk_world.specs.Events.{Take, Event, Decides, Logged}
use Rattle.pblk_world.specs.EngineLog.{Taken, takes, taken_by}

-- the event of this number took the entry, after the k entries before it
pub record IsTakenAt (log : List Logged) (k : ℕ) (t : Taken) : Type 0 where
  pub number : ℕ
  pub logged : Logged
  pub there : slice_get log number ≡ Some logged
  pub event : logged.event ≡ Decides (Take t.entry t.mark)
  pub before : takes (take number log) ≡ take k (takes log)

taken_says : (e : Event) (t : Taken) → taken_by e ≡ Some t → e ≡ Decides (Take t.entry t.mark)
taken_says (Decides (Take entry mark)) t h = ap (λ (x : Taken). Decides (Take x.entry x.mark)) (same_Some (record { entry = entry; mark = mark }) t h)
taken_says e t h = absurd (none-some t h)

pub taken_at : (log : List Logged) (k : ℕ) (t : Taken) → slice_get (takes log) k ≡ Some t → IsTakenAt log k t
taken_at [] k t at = absurd (none-some t at)
taken_at (l ∷ log) k t at = go (taken_by l.event) refl k at (λ n h. taken_at log n t h)
  where
    go : (o : Option Taken) → taken_by l.event ≡ o → (n : ℕ) → slice_get (cons_option o (takes log)) n ≡ Some t
        → ((m : ℕ) → slice_get (takes log) m ≡ Some t → IsTakenAt log m t) → IsTakenAt (l ∷ log) n t
    go None e n at rest = let r : IsTakenAt log n t = rest n at in record {
      number = suc r.number;
      logged = r.logged;
      there = r.there;
      event = r.event;
      before = ap (λ o. cons_option o (takes (take r.number log))) e ∙ r.before ∙ ap (λ o. take n (cons_option o (takes log))) (sym e);
    }
    go (Some u) e zero at rest =
        record { number = 0; logged = l; there = refl; event = taken_says l.event t (e ∙ at); before = refl }
    go (Some u) e (suc n) at rest = let r : IsTakenAt log n t = rest n at in record {
      number = suc r.number;
      logged = r.logged;
      there = r.there;
      event = r.event;
      before = ap (λ o. cons_option o (takes (take r.number log))) e ∙ ap (λ ts. u ∷ ts) r.before
          ∙ ap (λ o. take (suc n) (cons_option o (takes log))) (sym e);
    }
