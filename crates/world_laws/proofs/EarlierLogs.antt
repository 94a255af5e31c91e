-- The logs at a length of the engine's log, and those of an earlier world: the engine's log is the
-- prefix of that length, and its events are told what they are told in the whole.
use Rattle.std.proofs.Common.{◌≡◌, ◌⊎◌, inl, inr, ℕ, ◌+◌, ◌-◌, ◌<◌, ◌≤◌, suc, Some, None, List, [], ◌∷◌, ◌++◌, length, take, drop, refl, sym, subst, ap, ◌∙◌, arith, take_all}
use Rattle.std.specs.Prelude.{slice_get, slice_index}
use Rattle.std.specs.List.{Contains}
use Rattle.std.proofs.lemmas.Bool.{cases_lt}
use Rattle.std.proofs.lemmas.List.{take-append-le, take-take}
use Rattle.std.proofs.Math.Seq.{take-length}
use Rattle.pblk_model.specs.Image.{Image}
use Rattle.pblk_world.specs.AtRest.{knows_last, logs_at}
use Rattle.pblk_world.specs.Events.{Logged}
use Rattle.pblk_world.specs.EngineLog.{Begun, Taken, begun, last_opening, life_of, takes}
use Rattle.pblk_world.specs.Legal.{IsLegal}
use Rattle.pblk_world.specs.Lines.{found_by, found_image}
use Rattle.pblk_world.specs.Victims.{engine_prefix}
use Rattle.pblk_world.specs.World.{World, cut_logs, known, log_of}
use Rattle.pblk_world.proofs.EngineLogLemmas.{begun_of_first}
use Rattle.pblk_world.proofs.Growing.{knowledge_rises}
use Rattle.pblk_world.proofs.WorldLemmas.{media_same}
use Rattle.pblk_model.proofs.Lists.{among_contained}
use Rattle.pblk_model.proofs.Parts.{contained_among, get_more, get_whole_within, got_within, take_and_drop, take_front}
use Rattle.world_laws.specs.EarlyLogs.{ArePrefixes}
use Rattle.world_laws.specs.SameTold.{AreSameNamed}
use Rattle.world_laws.proofs.BeforeFreeing.{IsEarlier, engine_then, within_later}
use Rattle.world_laws.proofs.Beginnings.{has_begun}
use Rattle.world_laws.proofs.KeptChunks.{never_before}
use Rattle.world_laws.proofs.Later.{takes_joined}
use Rattle.world_laws.proofs.LifeUnits.{begun_within}
use Rattle.world_laws.proofs.Made.{IsMade, known_within, log_then, made, own_then}

-- ---- prefixes

-- a prefix is the one of its own length
own_length : {X : Type 0} (n : ℕ) (xs ys : List X) → xs ≡ take n ys → xs ≡ take (length xs) ys
own_length n xs ys is =
    sym (ap (take (length xs)) (sym (take_and_drop n ys) ∙ ap (λ zs. zs ++ drop n ys) (sym is)) ∙ take_front xs (drop n ys) (length xs) refl)

-- ---- the logs at a length

pub named_at : (i : Image) (w : World) (n : ℕ) → IsLegal i w → n ≤ length (log_of w 0) → AreSameNamed (engine_prefix n (log_of w)) (logs_at n (log_of w))
named_at i w n legal within = record { own = refl; named = same }
  where
    same : (unit : ℕ) (l : Logged) → Contains (take n (log_of w 0)) l
        → take (known l (suc unit)) (take (knows_last (slice_get (log_of w 0) (n - 1)) (suc unit)) (log_of w (suc unit)))
        ≡ take (known l (suc unit)) (log_of w (suc unit))
    same unit l there =
        let at = among_contained (take n (log_of w 0)) l there in
        let here = get_whole_within n (log_of w 0) at.0 l at.1 in
        let below : at.0 < n = here.1 in
        let last = got_within (log_of w 0) (n - 1) (omega arith) in
        let rises : known l (suc unit) ≤ known last.0 (suc unit) =
        knowledge_rises i w 0 (suc unit) at.0 (n - 1) l last.0 legal (omega arith) here.0 last.1 in
        let its : known last.0 (suc unit) ≡ knows_last (slice_get (log_of w 0) (n - 1)) (suc unit) = ap (λ o. knows_last o (suc unit)) (sym last.1) in
        take-take (known l (suc unit)) (knows_last (slice_get (log_of w 0) (n - 1)) (suc unit)) (log_of w (suc unit)) (omega arith)

-- ---- an earlier world

pub named_earlier : (i : Image) (v w : World) → IsLegal i v → ArePrefixes w (log_of v)
    → AreSameNamed (engine_prefix (length (log_of v 0)) (log_of w)) (log_of v)
named_earlier i v w legal prefix = record { own = own; named = same }
  where
    own : log_of v 0 ≡ take (length (log_of v 0)) (log_of w 0)
    own = own_length (prefix 0).0 (log_of v 0) (log_of w 0) (prefix 0).1

    same : (unit : ℕ) (l : Logged) → Contains (take (length (log_of v 0)) (log_of w 0)) l
        → take (known l (suc unit)) (log_of v (suc unit)) ≡ take (known l (suc unit)) (log_of w (suc unit))
    same unit l there =
        let n = (prefix (suc unit)).0 in
        let in_own : Contains (log_of v 0) l = subst (λ log. Contains log l) (sym own) there in
        sym (ap (take (known l (suc unit))) (sym (take_and_drop n (log_of w (suc unit)))
        ∙ ap (λ xs. xs ++ drop n (log_of w (suc unit))) (sym (prefix (suc unit)).1))
        ∙ take-append-le (known l (suc unit)) (log_of v (suc unit)) (drop n (log_of w (suc unit))) (known_within i v 0 (suc unit) l legal in_own))

-- a legal world of which another is a later state
pub is_earlier : (i : Image) (v w : World) (b : Begun) → IsLegal i v → ArePrefixes w (log_of v) → begun (log_of v 0) ≡ Some b → IsEarlier i w b v
is_earlier i v w b legal prefix begins = record {
  legal = legal;
  begins = begins;
  grows = λ author. (
    drop (prefix author).0 (log_of w author),
    sym (take_and_drop (prefix author).0 (log_of w author)) ∙ ap (λ xs. xs ++ drop (prefix author).0 (log_of w author)) (sym (prefix author).1),
  );
}

-- which has begun as it had
pub begun_now : (i : Image) (v w : World) (b : Begun) → ArePrefixes w (log_of v) → begun (log_of v 0) ≡ Some b → begun (log_of w 0) ≡ Some b
begun_now i v w b prefix begins = begun_of_first (prefix 0).0 (log_of w 0) b (ap begun (sym (prefix 0).1) ∙ begins)

module _ (i : Image) (w : World) (b : Begun) (v : World) (e : IsEarlier i w b v) where
  -- The image that the mount found is the same.
  pub found_same : begun (log_of w 0) ≡ Some b → found_image i (log_of w) ≡ found_image i (log_of v)
  found_same begins =
      ap (found_by i (log_of w)) begins
      ∙ media_same i (cut_logs b.knows (log_of w)) (cut_logs b.knows (log_of v))
      (λ unit. let more = e.grows (suc unit) in
      ap (take (slice_index b.knows (suc unit))) more.1
      ∙ take-append-le (slice_index b.knows (suc unit)) (log_of v (suc unit)) more.0 (begun_within i v e.legal b e.begins unit))
      ∙ sym (ap (found_by i (log_of v)) e.begins)

  -- A line that wasn't opened since the beginning wasn't opened then.
  pub unopened_then : (line : ℕ) → last_opening (life_of (log_of w 0) line) ≡ None → last_opening (life_of (log_of v 0) line) ≡ None
  unopened_then line never =
      let far : length (log_of v 0) + (length (log_of w 0) - length (log_of v 0)) ≡ length (log_of w 0) =
      let few = within_later i w b v e 0 in omega arith in
      ap (λ log. last_opening (life_of log line)) (sym (engine_then i w b v e))
      ∙ never_before (log_of w 0) line (length (log_of v 0)) (length (log_of w 0) - length (log_of v 0)) (omega arith)
      (ap (λ n. last_opening (life_of (take n (log_of w 0)) line)) far ∙ ap (λ log. last_opening (life_of log line)) (take-length (log_of w 0)) ∙ never)

  -- What was taken stays taken.
  pub taken_since : (t : Taken) → Contains (takes (log_of v 0)) t → Contains (takes (log_of w 0)) t
  taken_since t there =
      let more = e.grows 0 in
      let at = among_contained (takes (log_of v 0)) t there in
      contained_among (takes (log_of w 0)) t (
        at.0,
        ap (λ log. slice_get (takes log) at.0) more.1 ∙ ap (λ ts. slice_get ts at.0) (takes_joined (log_of v 0) more.0)
            ∙ get_more (takes (log_of v 0)) (takes more.0) at.0 t at.1,
      )

-- what has begun
pub some_begun : (i : Image) (w : World) → IsLegal i w → 0 < length (log_of w 0) → (b : Begun) × (begun (log_of w 0) ≡ Some b)
some_begun i w legal some = go (log_of w 0) refl some
  where
    go : (log : List Logged) → log_of w 0 ≡ log → 0 < length log → (b : Begun) × (begun (log_of w 0) ≡ Some b)
    go [] is some = absurd (omega arith)
    go (l ∷ log) is some = has_begun i w l log legal is

-- the world in which the engine's log had this length
pub world_then : (i : Image) (w : World) (n : ℕ) → IsLegal i w → n ≤ length (log_of w 0)
    → (v : World) × IsLegal i v × ArePrefixes w (log_of v) × (log_of v 0 ≡ take n (log_of w 0))
world_then i w n legal within = go (cases_lt n (length (log_of w 0)))
  where
    go : (n < length (log_of w 0)) ⊎ (length (log_of w 0) ≤ n) → (v : World) × IsLegal i v × ArePrefixes w (log_of v) × (log_of v 0 ≡ take n (log_of w 0))
    go (inr all) = (
      w,
      legal,
      λ author. (length (log_of w author), sym (take_all (length (log_of w author)) (log_of w author) (omega arith))),
      sym (take_all n (log_of w 0) all),
    )
    go (inl before) =
        let at = got_within (log_of w 0) n before in
        let h : IsMade i w 0 n at.0 = made i w 0 n at.0 legal at.1 in (
          h.before,
          h.legal,
          λ author. let more = log_then i w 0 n at.0 h author in (
            length (log_of h.before author),
            sym (ap (take (length (log_of h.before author))) more.1 ∙ take_front (log_of h.before author) more.0 (length (log_of h.before author)) refl),
          ),
          own_then i w 0 n at.0 h,
        )
