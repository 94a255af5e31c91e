-- What a write of a session leaves.
use Rattle.std.proofs.Common.{◌≡◌, ℕ, zero, suc, ◌+◌, ◌<◌, ◌≤◌, ◌^◌, false, List, [], ◌∷◌, ◌++◌, length, sym, ap, ap₂, subst, ◌∙◌, arith}
use Rattle.std.specs.Prelude.{map}
use Rattle.std.specs.List.{flat_map}
use Rattle.pblk_model.specs.Image.{Image}
use Rattle.pblk_model.specs.declared.run.Place.{Place}
use Rattle.pblk_world.specs.World.{Logs}
use Rattle.sector_pool.specs.declared.entry.Class.TheVariants as kind
use Rattle.write_ring.specs.Batches.{BatchView, rows_from}
use Rattle.write_ring.specs.Handles.{HasPlace}
use Rattle.write_ring.specs.Steps.{LieBelow}
use Rattle.write_ring.specs.declared.draft.Draft.{Draft}
use Rattle.write_ring.specs.declared.view.Key.{Key}
use Rattle.write_ring.specs.declared.view.Part.{Part}
use Rattle.write_ring.specs.declared.view.Row.{Row}
use Rattle.write_ring.specs.declared.view.View.{View}
use Rattle.chronicle.specs.Views.{Past}
use Rattle.unit_port.specs.Unit.{ModelUnit}
use Rattle.block_port.specs.Own.{OwnWrite, lines_of, placed_from, sectors_of}
use Rattle.block_port.proofs.OwnLemmas.{length_sectors}
use Rattle.block_target.specs.Refusals.{IsRefusal, IsWriteRefusal}
use Rattle.block_target.specs.Sessions.{IsFreeBatch, IsSession, SessionView, row_of}
use Rattle.block_target.proofs.OwnClaims.{written_low}
use Rattle.block_target.proofs.SessionSteps.{IsPlaced}

-- ---- the batch is free again

pub cleared : (key : Key) (b f p n : BatchView) (k : ℕ) → IsFreeBatch key 16 b → f.free + k ≡ b.free → length f.drafts ≡ k → f.region ≡ b.region
    → p ≡ f → n.drafts ≡ [] → n.free ≡ p.free + length p.drafts → n.region ≡ p.region → IsFreeBatch key 16 n
cleared key b f p n k was less count region same none free still = record {
  region = still ∙ ap (λ (x : BatchView). x.region) same ∙ region ∙ was.region;
  free =
      let all : b.free ≡ 16 = was.free in
      let its : p.free + length p.drafts ≡ f.free + length f.drafts = ap (λ (x : BatchView). x.free + length x.drafts) same in
      omega (arith, free, its, less, count, all);
  empty = none;
}

-- ---- a write at its place

-- what the session wrote there
abbrev pub write_at : Place → ℕ → ℕ → List ℕ → OwnWrite
write_at place lba size bytes = record { place = place; lba = lba; sectors = sectors_of size place.count bytes }

pub placed : (old new : SessionView) (v w : View) (ds : List Draft) (place : Place) (n lba size : ℕ) (bytes : List ℕ) → v.pass ≡ old.part → w.pass ≡ new.part
    → HasPlace kind.User ds (record { first = place.first; count = place.count }) v w → w.pass.shares ≡ v.pass.shares → length ds ≡ n → 1 ≤ n
    → ((first : ℕ) → rows_from kind.User first ds ≡ map row_of (placed_from first lba (sectors_of size n bytes)))
    → new.own ≡ old.own ++ write_at place lba size bytes ∷ [] → new.faults ≡ old.faults → new.worns ≡ old.worns → old.seen ≤ new.seen
    → place.first + n ≤ new.seen → new.seen < 2 ^ 63 → old.found.claimed ≤ place.first → old.found.claimed ≤ new.found.claimed
    → IsPlaced old new (write_at place lba size bytes)
placed old new v w ds place n lba size bytes before after is shares long some rows own faults worns rises passed small claimed finds = record {
  own = own;
  some = omega (arith, count);
  whole = length_sectors size place.count bytes;
  apart = subst (λ (p : Part). LieBelow place.first p.claims) before is.own;
  shares = ap (λ (p : Part). p.shares) (sym after) ∙ shares ∙ ap (λ (p : Part). p.shares) before;
  claims = ap (λ (p : Part). p.claims) (sym after ∙ is.put)
      ∙ ap₂ (λ (p : Part) k. p.claims ++ record { first = place.first; count = k; copy = false } ∷ []) before (sym is.count);
  puts = ap (λ (p : Part). p.puts) (sym after ∙ is.put)
      ∙ ap₂ (λ (p : Part) (rs : List Row). p.puts ++ rs) before
      (rows place.first ∙ ap (λ k. map row_of (placed_from place.first lba (sectors_of size k bytes))) (sym count));
  faults = faults;
  worns = worns;
  rises = rises;
  passed = omega (arith, passed, count);
  small = small;
  claimed = claimed;
  finds = finds;
}
  where
    count : place.count ≡ n
    count = is.count ∙ long

-- it has written no more sectors than its last position
pub few_written : (past : Past) (handed : List ModelUnit) (count : ℕ) (s : SessionView) → IsSession past handed count s → count < 2 ^ 63
few_written past handed count s is =
    let low : length (flat_map lines_of s.own) ≤ s.seen = written_low s.own s.seen is.rising is.past_own is.part.whole in
    let small : s.seen < 2 ^ 63 = is.small in
    let same : count ≡ length (flat_map lines_of s.own) = is.written in
    omega (arith, low, small, same)

-- ---- a refusal

-- a write is of one sector at least
pub refusal_of : (i : Image) (logs : Logs) (n count wanted have : ℕ) → 1 ≤ count → IsWriteRefusal i logs n count wanted have
    → IsRefusal i logs n count wanted have
refusal_of i logs n zero wanted have some is = absurd (omega arith)
refusal_of i logs n (suc others) wanted have some is = is
