-- The engine's author takes over from workers, one after another.
use Rattle.std.proofs.Common.{◌≡◌, ⊎_elim, ℕ, Some, List, [], ◌∷◌, ◌++◌, length, refl, sym, subst, ap, ◌∙◌, arith}
use Rattle.std.specs.Prelude.{slice_get}
use Rattle.std.specs.List.{Contains}
use Rattle.std.proofs.lemmas.List.Elements.{Contains-append_left, Contains-append_right}
use Rattle.std.proofs.lemmas.Option.{none-some}
use base.Growing.{prefix_refl}
use Rattle.atomic_table.specs.Seated.{TableId}
use Rattle.pblk_core.specs.Filling.{Filling}
use Rattle.pblk_world.specs.AtRest.{AreResetsNoted}
use Rattle.pblk_world.specs.Events.{Maker}
use Rattle.pblk_world.proofs.Growing.{at_end}
use Rattle.chronicle.specs.Handles.{AuthorView, TokenView}
use Rattle.chronicle.specs.Prefixes.{AreLegalLogs, ArePrefixes, Prefixes, either, logs_of, longer_of}
use Rattle.chronicle.specs.Views.{Past}
use Rattle.chronicle.proofs.Rests.{still_begun}
use Rattle.pblk_engine.specs.Endings.{HasTakenOver}
use Rattle.pblk_engine.specs.Hearts.{IsEngine}
use Rattle.pblk_engine.specs.Workers.{IsWorkerOf, Made, WasMade, WorkerView}
use Rattle.pblk_engine.proofs.Meetings.{noted_met, same_begun, same_legal}
use Rattle.pblk_engine.proofs.NotedCommands.{still_made}

module _ (past : Past) (engine : AuthorView) (over : engine.past ≡ past) where
  -- from none
  pub taken_none : AreLegalLogs past.image engine.known → ArePrefixes past.logs engine.known → AreResetsNoted (logs_of engine.known)
      → HasTakenOver past engine [] engine
  taken_none legal begun noted = record {
    same = refl;
    legal = legal;
    begun = begun;
    noted = noted;
    engine_log = refl;
    learns = record { each = λ author. prefix_refl (logs_of engine.known author) };
    knows = λ k v there. absurd (none-some v there);
    makers = λ k v there. absurd (none-some v there);
    each = λ k v there. absurd (none-some v there);
  }

  module _ (workers : List WorkerView) (author : AuthorView) (is : HasTakenOver past engine workers author) (t : TokenView)
      (noted : AreResetsNoted (logs_of t.known)) (engine_is : IsEngine engine)
      (new : AuthorView) (met : new ≡ record author {
        known = longer_of author.known t.known;
        makers = author.makers ++ t.makers;
        spare = either author.spare t.spare;
      })
      (own : (x : ℕ) → Contains author.owned x → logs_of new.known x ≡ logs_of author.known x)
      (keeps : ArePrefixes author.known new.known) (learns : ArePrefixes t.known new.known)
      (legal : AreLegalLogs new.past.image new.known) (begun : ArePrefixes new.past.logs new.known) where
    abbrev Same : AuthorView → Type 0
    Same a = a ≡ record engine { known = a.known; makers = a.makers; spare = a.spare }

    same : Same new
    same = subst Same (sym met)
        (ap (λ (a : AuthorView). record a {
          known = longer_of author.known t.known;
          makers = author.makers ++ t.makers;
          spare = either author.spare t.spare;
        }) is.same)

    since : new.past ≡ past
    since = ap (λ (a : AuthorView). a.past) same ∙ over

    owns : Contains author.owned 0
    owns = subst (λ (owned : List ℕ). Contains owned 0) (sym (ap (λ (a : AuthorView). a.owned) is.same ∙ engine_is.owned)) (0, omega arith, refl)

    makers_now : new.makers ≡ author.makers ++ t.makers
    makers_now = ap (λ (a : AuthorView). a.makers) met

    -- from a token that has no worker
    pub taken_on : HasTakenOver past engine workers new
    taken_on = record {
      same = same;
      legal = same_legal past new.past new.known since legal;
      begun = same_begun past new.past new.known since begun;
      noted = noted_met author.known t.known new.known (ap (λ (a : AuthorView). a.known) met) keeps learns is.noted noted;
      engine_log = own 0 owns ∙ is.engine_log;
      learns = still_begun engine.known author.known new.known is.learns keeps;
      knows = λ k v there. still_begun v.known author.known new.known (is.knows k v there) keeps;
      makers = λ k v there.
          subst (λ (ms : List Maker). Contains ms (record { worker = v.number; made = length v.made })) (sym makers_now)
          (Contains-append_left author.makers t.makers (record { worker = v.number; made = length v.made }) (is.makers k v there));
      each = λ k v there j m at. still_made author.known new.known v.number j m keeps (is.each k v there j m at);
    }

    -- from a worker
    pub taken_next : (chronicle : TableId) (v : WorkerView) (stripe : Filling) (made : List Made) → made ≡ v.made → t.known ≡ v.known
        → IsWorkerOf chronicle past t v.number stripe made → HasTakenOver past engine (workers ++ v ∷ []) new
    taken_next chronicle v stripe made made_is known_is worker = record {
      same = same;
      legal = taken_on.legal;
      begun = taken_on.begun;
      noted = taken_on.noted;
      engine_log = taken_on.engine_log;
      learns = taken_on.learns;
      knows = λ k x there. ⊎_elim (λ (old : slice_get workers k ≡ Some x). taken_on.knows k x old)
          (λ (last : (k ≡ length workers) × (v ≡ x)). subst HasKnown last.1 its_known) (at_end workers v x k there);
      makers = λ k x there. ⊎_elim (λ (old : slice_get workers k ≡ Some x). taken_on.makers k x old)
          (λ (last : (k ≡ length workers) × (v ≡ x)). subst HasMaker last.1 its_maker) (at_end workers v x k there);
      each = λ k x there. ⊎_elim (λ (old : slice_get workers k ≡ Some x). taken_on.each k x old)
          (λ (last : (k ≡ length workers) × (v ≡ x)). subst HasMade last.1 its_made) (at_end workers v x k there);
    }
      where
        HasKnown : WorkerView → Type 0
        HasKnown x = ArePrefixes x.known new.known

        its_known : HasKnown v
        its_known = subst (λ (known : Prefixes). ArePrefixes known new.known) known_is learns

        HasMaker : WorkerView → Type 0
        HasMaker x = Contains new.makers (record { worker = x.number; made = length x.made })

        HasMade : WorkerView → Type 0
        HasMade x = (j : ℕ) (m : Made) → slice_get x.made j ≡ Some m → WasMade (logs_of new.known) x.number j m

        maker : Maker
        maker = record { worker = v.number; made = length v.made }

        makers_are : t.makers ≡ maker ∷ []
        makers_are = worker.makers ∙ ap (λ (ms : List Made). record { worker = v.number; made = length ms } ∷ []) made_is

        its_maker : HasMaker v
        its_maker = subst (λ (ms : List Maker). Contains ms maker) (sym makers_now)
            (Contains-append_right author.makers t.makers maker
            (subst (λ (ms : List Maker). Contains ms maker) (sym makers_are) (0, omega arith, refl)))

        its_made : HasMade v
        its_made j m there =
            still_made t.known new.known v.number j m learns
            (worker.each j m (ap (λ (ms : List Made). slice_get ms j) made_is ∙ there))
