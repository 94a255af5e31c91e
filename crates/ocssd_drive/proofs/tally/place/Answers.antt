use Rattle.std.proofs.Common.{rules}
use Rattle.std.specs.List.Sorted.{IsBinarySearchResult}
use Rattle.std.specs.Ordering.{nat_cmp}
use Rattle.std.proofs.lemmas.Fn.{always_returns_same}
use Rattle.ocssd_drive.proofs.FallPlace.{searched_place, searched_taken}
use Rattle.ocssd_drive.proofs.tally.place.Goals as goal

-- the closure compares the number with a fault's
found : (c : goal.After-err) → IsBinarySearchResult (λ f. nat_cmp c.args.nth f.nth) c.args.falls.now c.binary_search_by.result
found c = c.binary_search_by.ensures.position (λ f. nat_cmp c.args.nth f.nth) (always_returns_same _ _ _ (λ a r g called. search rules))

pub returns-clause-place : goal.returns-clause-place
returns-clause-place c = rw c.err.ensures.value (searched_place _ c.requires c.args.nth _ c.binary_search_by.ensures.bound (found c))

pub returns-clause-taken : goal.returns-clause-taken
returns-clause-taken c = rw c.err.ensures.value (searched_taken _ c.requires c.args.nth _ c.binary_search_by.ensures.bound (found c))
