-- All that was claimed is taken, one try after another.
use Rattle.std.proofs.Common.{◌≡◌, ◌+◌, ◌<◌, ◌≤◌, length, refl, sym, subst, ap, ◌∙◌, arith, le_refl, le_trans}
use mathlib.Core.List.{IsPrefix}
use base.Growing.{prefix_refl, prefix_trans}
use Rattle.write_ring.specs.Handles.{IsSamePart}
use Rattle.write_ring.specs.Stock.{HasPut}
use Rattle.write_ring.specs.declared.view.Desk.{Desk}
use Rattle.write_ring.specs.declared.view.Part.{Part}
use Rattle.write_ring.specs.declared.view.Row.{Row}
use Rattle.chronicle.specs.Handles.{AuthorView}
use Rattle.chronicle.specs.Prefixes.{ArePrefixes}
use Rattle.chronicle.proofs.Rests.{still_begun}
use Rattle.pblk_engine.specs.Hearts.{HeartView}
use Rattle.pblk_engine.specs.Takes.{HasTakenRow, TakesClaims}
use Rattle.pblk_engine.proofs.GoingOn.{all_known}
use Rattle.pblk_engine.proofs.RingParts.{has_put}
use Rattle.pblk_engine.proofs.TakesOn.{counts, first_none, row_either}

-- Entries were taken as they were put, or none was, and the intake claimed nothing.
pub record TakesMore (old new : HeartView) : Type 0 where
  pub keeps : ArePrefixes old.author.known new.author.known
  pub rises : old.intake.intake.taken ≤ new.intake.intake.taken
  pub took : IsPrefix old.intake.intake.took new.intake.intake.took
  pub count : length new.intake.intake.took + old.intake.intake.taken ≡ length old.intake.intake.took + new.intake.intake.taken
  pub claimed : old.intake.found.claimed ≤ new.intake.found.claimed
  pub copies : IsSamePart old.intake.pass new.intake.pass
  pub none : new.intake.intake.taken ≡ old.intake.intake.taken → new.author ≡ old.author
  pub as_put : (r : Row) → HasPut r old.intake.pass → old.intake.intake.taken ≤ r.position → r.position < new.intake.intake.taken
      → HasTakenRow old.intake new.intake r

same_part : (p q : Part) → q ≡ p → IsSamePart p q
same_part p q same = record { shares = ap (λ (x : Part). x.shares) same; claims = ap (λ (x : Part). x.claims) same; puts = ap (λ (x : Part). x.puts) same }

-- only loads were made
pub more_none : (old new : HeartView) → new.author ≡ old.author → new.intake.intake ≡ old.intake.intake → IsSamePart old.intake.pass new.intake.pass
    → old.intake.found.claimed ≤ new.intake.found.claimed → TakesMore old new
more_none old new author desk part claimed = record {
  keeps = subst (λ (a : AuthorView). ArePrefixes old.author.known a.known) (sym author) (all_known old.author.known);
  rises = subst (λ (d : Desk). old.intake.intake.taken ≤ d.taken) (sym desk) (le_refl old.intake.intake.taken);
  took = subst (λ (d : Desk). IsPrefix old.intake.intake.took d.took) (sym desk) (prefix_refl old.intake.intake.took);
  count = subst (λ (d : Desk). length d.took + old.intake.intake.taken ≡ length old.intake.intake.took + d.taken) (sym desk) refl;
  claimed = claimed;
  copies = part;
  none = λ same. author;
  as_put = λ r put low high. absurd
      (let same : new.intake.intake.taken ≡ old.intake.intake.taken = ap (λ (d : Desk). d.taken) desk in omega (arith, same, low, high));
}

-- a try to take, of which the intake kept its part
pub more_taken : (old new : HeartView) → new.intake.pass ≡ old.intake.pass → ArePrefixes old.author.known new.author.known
    → old.intake.intake.taken ≤ new.intake.intake.taken → IsPrefix old.intake.intake.took new.intake.intake.took
    → length new.intake.intake.took + old.intake.intake.taken ≡ length old.intake.intake.took + new.intake.intake.taken
    → old.intake.found.claimed ≤ new.intake.found.claimed → (new.intake.intake.taken ≡ old.intake.intake.taken → new.author ≡ old.author)
    → ((r : Row) → HasPut r new.intake.pass → old.intake.intake.taken ≤ r.position → r.position < new.intake.intake.taken
    → HasTakenRow old.intake new.intake r)
    → TakesMore old new
more_taken old new part keeps rises took count claimed none as_put = record {
  keeps = keeps;
  rises = rises;
  took = took;
  count = count;
  claimed = claimed;
  copies = same_part old.intake.pass new.intake.pass part;
  none = none;
  as_put = λ r put. as_put r (subst (HasPut r) (sym part) put);
}

-- and so it was in two tries
pub more_then : (a b c : HeartView) → TakesMore a b → TakesMore b c → TakesMore a c
more_then a b c x y = record {
  keeps = still_begun a.author.known b.author.known c.author.known x.keeps y.keeps;
  rises = le_trans x.rises y.rises;
  took = prefix_trans a.intake.intake.took b.intake.intake.took c.intake.intake.took x.took y.took;
  count = counts (length a.intake.intake.took) (length b.intake.intake.took) (length c.intake.intake.took) a.intake.intake.taken b.intake.intake.taken
      c.intake.intake.taken x.count y.count;
  claimed = le_trans x.claimed y.claimed;
  copies = record {
    shares = y.copies.shares ∙ x.copies.shares;
    claims = y.copies.claims ∙ x.copies.claims;
    puts = y.copies.puts ∙ x.copies.puts;
  };
  none = λ same.
      let first : b.intake.intake.taken ≡ a.intake.intake.taken =
      first_none a.intake.intake.taken b.intake.intake.taken c.intake.intake.taken x.rises y.rises same in
      y.none (same ∙ sym first) ∙ x.none first;
  as_put = λ r put low high. row_either a.intake b.intake c.intake r y.took x.count
      (λ before. x.as_put r put low before)
      (λ since. y.as_put r (has_put b.intake.pass a.intake.pass (sym x.copies.puts) r put) since high);
}

-- once all that was claimed is taken
pub all_taken : (old new : HeartView) → TakesMore old new → new.intake.found.claimed ≡ new.intake.intake.taken → TakesClaims old new
all_taken old new is all = record {
  keeps = is.keeps;
  rises = is.rises;
  reached = subst (λ n. old.intake.found.claimed ≤ n) all is.claimed;
  copies = is.copies;
  none = is.none;
  as_put = is.as_put;
}
