-- What holds of the logs before a core's next work is done, by what that work is: no chunk is to be
-- reset, and an entry lacks an address.
use Rattle.std.proofs.Common.{◌≡◌, ◌≢◌, ℕ, ◌<◌, ◌==◌, nat_lt, Bool, true, false, None, Some, Option, List, [], ◌∷◌, length, refl, sym, subst, ◌∙◌}
use Rattle.std.specs.Prelude.{slice_get}
use Rattle.std.proofs.lemmas.Bool.{eqb-true}
use Rattle.pblk_model.specs.Image.{Image}
use Rattle.pblk_world.specs.AtRest.{logs_at}
use Rattle.pblk_world.specs.Events.{Logged}
use Rattle.pblk_world.specs.Fronts.{waiting}
use Rattle.pblk_world.specs.LegalMounts.{IsLegalMount}
use Rattle.pblk_world.specs.Orders.{AreReset, LacksAddress}
use Rattle.pblk_world.specs.World.{World, Logs, log_of}
use Rattle.world_laws.proofs.ToldTables.{open_told}
use Rattle.stripe_placer.specs.Entries.{waiting as entries_waiting}
use Rattle.write_ring.specs.declared.view.View.{View}
use Rattle.pblk_core.specs.Named.{asks_line, choice, has_free, is_busy, may_copy, may_open, named, named_beside, reset_or}
use Rattle.pblk_core.specs.Resets.{resets_left, resets_of}
use Rattle.pblk_core.specs.declared.target_core.Core.{Core}
use Rattle.pblk_core.specs.declared.work.Work.{Work}
use Rattle.pblk_core.specs.declared.work.Work.TheVariants as works
use Rattle.pblk_core.proofs.CopiesDue.{waiting_count}
use Rattle.pblk_core.proofs.Laws.{reset_empty}
use Rattle.pblk_core.proofs.StandsTold.{resets_told}
use Rattle.pblk_model.proofs.Tests.{both, positive}
use Rattle.pblk_engine.specs.Hearts.{IsHeart}
use Rattle.pblk_engine.proofs.Decisions.{by_left, told_left}

-- where what is named is no reset
pub no_reset_named : (o : Option _) (otherwise work : Work) → ((line unit : ℕ) → works.Reset line unit ≢ work) → reset_or o otherwise ≡ work
    → (o ≡ None) × (otherwise ≡ work)
no_reset_named None otherwise work apart e = (refl, e)
no_reset_named (Some chunk) otherwise work apart e = absurd (apart chunk.line chunk.unit e)

pub none_first : {X : Type 0} (xs : List X) → slice_get xs 0 ≡ None → xs ≡ []
none_first [] e = refl
none_first (x ∷ xs) e = absurd cc

-- where it is the opening of a line
asked : (has_stripe asks has_free may_open has_copy in_flight : Bool) → choice has_stripe asks has_free may_open has_copy in_flight ≡ works.Open
    → asks ≡ true
asked true a h m k f e = absurd cc
asked false true h m k f e = refl
asked false false h m true f e = absurd cc
asked false false h m false f e = absurd cc

asks_of : (c : Core) → named_beside c ≡ works.Open → asks_line c ≡ true
asks_of c e = asked _ (asks_line c) (has_free c) (may_open c) (may_copy c) (is_busy c) e

module _ (i : Image) (w : World) (c : Core) (v : View) (mount : IsLegalMount i w) (is : IsHeart i (log_of w) c v) where
  abbrev then_ : Logs
  then_ = log_of is.left.left

  -- no chunk is to be reset
  pub reset_then : (work : Work) → ((line unit : ℕ) → works.Reset line unit ≢ work) → named c ≡ work
      → AreReset i (logs_at (length (log_of w 0)) (log_of w))
  reset_then work apart names = by_left i w c v mount is (AreReset i)
      (λ line inside given. reset_empty i is.left.left line is.left.legal none inside given)
    where
      none : resets_of i (log_of is.left.left) ≡ []
      none =
          resets_told i (log_of w) (log_of is.left.left) (told_left i w c v mount is) ∙ sym is.stands.resets
          ∙ none_first (resets_left c.resets) (no_reset_named (slice_get (resets_left c.resets) 0) (named_beside c) work apart names).0

  -- nor by all that is known
  pub reset_now : (work : Work) → ((line unit : ℕ) → works.Reset line unit ≢ work) → named c ≡ work → AreReset i (log_of w)
  reset_now work apart names = λ line inside given.
      reset_empty i w line mount
      (sym is.stands.resets
      ∙ none_first (resets_left c.resets) (no_reset_named (slice_get (resets_left c.resets) 0) (named_beside c) work apart names).0) inside given

  -- an entry lacks an address
  pub lacks_then : named c ≡ works.Open → LacksAddress i (logs_at (length (log_of w 0)) (log_of w))
  lacks_then names = by_left i w c v mount is (LacksAddress i) (record {
    waits = subst (λ (log : List Logged). 0 < length (waiting i.shape log)) (sym is.left.named.own)
        (subst (λ n. 0 < n) (waiting_count i w c is.stands) (positive (length (entries_waiting c.placer.entries)) asks.0));
    full = open_told i (log_of w) (log_of is.left.left) (told_left i w c v mount is) ∙ sym is.stands.left ∙ eqb-true c.left 0 asks.1;
  })
    where
      beside : named_beside c ≡ works.Open
      beside = (no_reset_named (slice_get (resets_left c.resets) 0) (named_beside c) works.Open (λ line unit e. absurd cc) names).1

      asks : (nat_lt 0 (length (entries_waiting c.placer.entries)) ≡ true) × ((c.left == 0) ≡ true)
      asks = both (nat_lt 0 (length (entries_waiting c.placer.entries))) (c.left == 0) (asks_of c beside)
