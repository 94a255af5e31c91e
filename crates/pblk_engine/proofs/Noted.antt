-- What two authors know together.
use Rattle.std.proofs.Common.{◌⊎◌, inl, inr, suc, List, [], sym, subst, append-nil}
use mathlib.Core.List.{IsPrefix}
use Rattle.pblk_world.specs.AtRest.{AreResetsNoted}
use Rattle.pblk_world.specs.Events.{Logged}
use Rattle.world_laws.specs.Merged.{AreMerged, Begins}
use Rattle.world_laws.proofs.NotedResets.{noted_merged}
use Rattle.chronicle.specs.Prefixes.{Prefixes, logs_of, longer_of, ArePrefixes}
use Rattle.chronicle.proofs.PrefixLemmas.{by_longer, longer_at}

begins : (xs ys : List Logged) → IsPrefix xs ys → Begins xs ys
begins xs ys is = (is.0, sym is.1)

whole : (xs : List Logged) → Begins xs xs
whole xs = ([], sym (append-nil xs))

pub merged : (a b : Prefixes) → ArePrefixes a (longer_of a b) → ArePrefixes b (longer_of a b) → AreMerged (logs_of a) (logs_of b) (logs_of (longer_of a b))
merged a b first second = record {
  engine_of_first = begins (logs_of a 0) (logs_of (longer_of a b) 0) (first.each 0);
  engine_of_second = begins (logs_of b 0) (logs_of (longer_of a b) 0) (second.each 0);
  units = λ unit. subst (λ (xs : List Logged). Begins xs (logs_of a (suc unit)) ⊎ Begins xs (logs_of b (suc unit))) (sym (longer_at a b (suc unit)))
      (by_longer (λ (xs : List Logged). Begins xs (logs_of a (suc unit)) ⊎ Begins xs (logs_of b (suc unit))) (logs_of a (suc unit)) (logs_of b (suc unit))
      (λ _. inl (whole (logs_of a (suc unit)))) (λ _. inr (whole (logs_of b (suc unit)))));
}

-- the engine has noted each reset of what they know together
pub noted_together : (a b : Prefixes) → ArePrefixes a (longer_of a b) → ArePrefixes b (longer_of a b) → AreResetsNoted (logs_of a) → AreResetsNoted (logs_of b)
    → AreResetsNoted (logs_of (longer_of a b))
noted_together a b first second of_a of_b =
    noted_merged (logs_of a) (logs_of b) (logs_of (longer_of a b)) (merged a b first second) of_a of_b
