-- What is kept of the numbers of a mount, from event to event, once no user's entry is taken any
-- more.
use Rattle.std.proofs.Common.{Bool, None, Option, Some, ap, arith, false, length, refl, subst, suc, sym, true, zero, ℕ, ◌+◌, ◌==◌, ◌∙◌, ◌≡◌, ◌≤◌}
use Rattle.std.proofs.lemmas.Option.{none-some, same_Some}
use Rattle.pblk_model.specs.Image.{Image}
use Rattle.pblk_model.proofs.Parts.{got_within}
use Rattle.pblk_model.proofs.Tests.{not_both, same, same_number}
use Rattle.pblk_world.specs.EngineLog.{taken_by}
use Rattle.pblk_world.specs.Events.{Again, Begin, Decides, Does, EngineEvent, Event, Free, Landed, Logged, Lost, Open, Place, ResetDone, Take}
use Rattle.pblk_world.specs.LegalMounts.{is_freeing}
use Rattle.pblk_world.specs.Victims.{victim}
use Rattle.pblk_world.specs.World.{World, log_of}
use Rattle.settle_laws.proofs.Kept.{IsKept, IsQuietMount}
use Rattle.settle_laws.proofs.KeptEvents.{IsKeptBefore, kept_by, some, unmoved}
use Rattle.settle_laws.proofs.KeptLines.{frees_other, frees_victim, opens, resets}
use Rattle.settle_laws.proofs.KeptStripes.{places}
use Rattle.settle_laws.proofs.KeptTakes.{takes_entry}
use Rattle.settle_laws.proofs.KeptVictims.{freed_comes, settled}
use Rattle.settle_laws.proofs.Unfreed.{no_begin, no_loss, no_unit}

-- ---- an event

module _ {i : Image} {w : World} {at : ℕ → ℕ} {from total n : ℕ} {l : Logged} (e : IsKeptBefore i w at from total n l) where
  frees_line : (line : ℕ) → l.event ≡ Decides (Free line) → IsKept i w at from total (suc n) (victim i (log_of w) (suc n))
  frees_line line its = go (victim i (log_of w) n) refl
    where
      other : (victim i (log_of w) n ≡ Some line → ⊥) → IsKept i w at from total (suc n) (victim i (log_of w) (suc n))
      other apart = settled e (λ one frees_it works.
          let alike : Decides (Free line) ≡ Decides (Free one) = sym its ∙ frees_it in
          let equal : line ≡ one = cc in
          apart (works ∙ ap (λ m. Some m) (sym equal))) (frees_other e line its apart)

      go : (o : Option ℕ) → victim i (log_of w) n ≡ o → IsKept i w at from total (suc n) (victim i (log_of w) (suc n))
      go None none = other (λ works. none-some line (sym none ∙ works))
      go (Some one) was = by (one == line) refl
        where
          by : (b : Bool) → (one == line) ≡ b → IsKept i w at from total (suc n) (victim i (log_of w) (suc n))
          by true equal =
              let works : victim i (log_of w) n ≡ Some line = was ∙ ap (λ m. Some m) (same one line equal) in
              freed_comes e line its works (frees_victim e line its works)
          by false apart = other (λ works.
              let equal : one ≡ line = same_Some one line (sym was ∙ works) in
              not_both (one == line) (ap (λ m. m == line) equal ∙ same_number line) apart)

  next : IsKept i w at from total (suc n) (victim i (log_of w) (suc n))
  next = go l.event refl
    where
      -- one that frees no line
      on : (d : EngineEvent) → l.event ≡ Decides d → is_freeing d ≡ false → IsKept i w at from total (suc n) (victim i (log_of w) n)
          → IsKept i w at from total (suc n) (victim i (log_of w) (suc n))
      on d its stands k = settled e (kept_by e d its stands) k

      go : (event : Event) → l.event ≡ event → IsKept i w at from total (suc n) (victim i (log_of w) (suc n))
      go (Does u maker) its = absurd (no_unit i w e.q.is n (some e) l e.there u maker its)
      go (Decides (Begin b)) its = absurd (no_begin i w e.q.is n (some e) l e.there b its)
      go (Decides (Lost unit event)) its = absurd (no_loss i w e.q.is n (some e) l e.there unit event its)
      go (Decides (Take entry mark)) its = on (Take entry mark) its refl (takes_entry e (record { entry = entry; mark = mark }) its)
      go (Decides (Open line start)) its = on (Open line start) its refl (opens e line start its)
      go (Decides (Place stripe)) its = on (Place stripe) its refl (places e stripe its)
      go (Decides (ResetDone unit event)) its = on (ResetDone unit event) its refl (resets e unit event its)
      go (Decides (Free line)) its = frees_line line its
      go (Decides (Landed unit event)) its =
          on (Landed unit event) its refl (unmoved e (Landed unit event) its refl (ap taken_by its) refl refl refl refl refl refl)
      go (Decides (Again unit event)) its =
          on (Again unit event) its refl (unmoved e (Again unit event) its refl (ap taken_by its) refl refl refl refl refl refl)

-- ---- all events since

pub kept_since : {i : Image} {w : World} {at : ℕ → ℕ} {from : ℕ} → IsQuietMount i w at from → (total more : ℕ) → from + more ≤ length (log_of w 0)
    → IsKept i w at from total from (victim i (log_of w) from) → IsKept i w at from total (from + more) (victim i (log_of w) (from + more))
kept_since {i} {w} {at} {from} q total zero within k =
    let equal : from ≡ from + 0 = omega arith in
    subst (λ n. IsKept i w at from total n (victim i (log_of w) n)) equal k
kept_since {i} {w} {at} {from} q total (suc more) within k =
    let l = got_within (log_of w 0) (from + more) (omega arith) in
    let equal : suc (from + more) ≡ from + suc more = omega arith in
    let e : IsKeptBefore i w at from total (from + more) l.0 =
    record { q = q; late = omega arith; there = l.1; was = kept_since q total more (omega arith) k } in
    subst (λ n. IsKept i w at from total n (victim i (log_of w) n)) equal (next e)
