-- What a command leaves of an arm and of the worker that made it, once it is noted.
use Rattle.std.proofs.Common.{◌≡◌, ◌≢◌, ℕ, suc, ◌+◌, ◌-◌, ◌<◌, Some, List, [], ◌∷◌, ◌++◌, length, length-append, map, sym, subst, ap, ap₂, ◌∙◌, arith}
use Rattle.atomic_table.specs.Seated.{TableId}
use Rattle.pblk_model.specs.ChunkStep.{ChunkCommand}
use Rattle.pblk_model.specs.Shape.{units}
use Rattle.pblk_model.specs.UnitLog.{UnitEvent, UnitOutcome}
use Rattle.pblk_world.specs.Events.{Does, Logged, Maker}
use Rattle.step_laws.specs.NextEvents.{CanDo}
use Rattle.unit_port.specs.Unit.{ModelUnit}
use Rattle.chronicle.specs.Views.{Past}
use Rattle.chronicle.specs.Handles.{AuthorView}
use Rattle.chronicle.specs.Prefixes.{Prefixes, logs_of, longer_of, naming, with_event, ArePrefixes, AreLegalLogs}
use Rattle.chronicle.proofs.PrefixLemmas.{others_same, own_more}
use Rattle.chronicle.proofs.Rests.{event_keeps}
use Rattle.pblk_engine.specs.Arms.{IsUnitOf, WasGiven, arm_view, last_done, last_event}
use Rattle.pblk_engine.specs.Deeds.{HasDone}
use Rattle.pblk_engine.specs.Workers.{Made, WorkerView, last_made}
use Rattle.pblk_engine.proofs.ArmLogs.{arm_next, can_do, last_now}

module _ (chronicle : TableId) (past : Past) (handed : List ModelUnit) (wear : List (List ℕ)) (a : AuthorView) (number : ℕ) (u new : ModelUnit)
    (worn : List ℕ) (is : IsUnitOf chronicle past handed wear a number u worn) (chunk : ℕ) (command : ChunkCommand) (tells : UnitOutcome → Type 0)
    (given : WasGiven u chunk command tells new) (worker count : ℕ) where
  abbrev maker : Maker
  maker = record { worker = worker; made = count }

  -- what became of it
  abbrev done : UnitEvent
  done = record { chunk = chunk; command = command; outcome = given.outcome }

  abbrev knows : List ℕ
  knows = map length a.known

  pub last : last_event new ≡ done
  last = last_now past.image (logs_of a.known) (logs_of a.known) number is.before u new maker knows chunk command given.outcome is.arm given.steps

  pub can : CanDo past.image (logs_of a.known) number done
  can = can_do past.image (logs_of a.known) (logs_of a.known) number is.before u new maker knows chunk command given.outcome is.arm given.steps

  within : suc number < length a.known
  within = let range : number < units past.image.shape = is.in_range in let many : length a.known ≡ units past.image.shape + 1 = is.legal.authors in omega arith

  module _ (next : AuthorView) (appended : next ≡ record a { known = with_event a.known (suc number) (last_done new worker count) }) where
    pub known_is : next.known ≡ with_event a.known (suc number) (Does done maker)
    known_is = ap (λ (x : AuthorView). x.known) appended ∙ ap (λ (e : UnitEvent). with_event a.known (suc number) (Does e maker)) last

    pub own_is : logs_of next.known (suc number) ≡ logs_of a.known (suc number) ++ naming a.known (Does done maker) ∷ []
    own_is = ap (λ (k : Prefixes). logs_of k (suc number)) known_is ∙ own_more a.known (suc number) (Does done maker) within

    pub others_are : (other : ℕ) → other ≢ suc number → logs_of next.known other ≡ logs_of a.known other
    others_are other apart = ap (λ (k : Prefixes). logs_of k other) known_is ∙ others_same a.known (suc number) (Does done maker) other apart

    pub keeps : ArePrefixes a.known next.known
    keeps = subst (ArePrefixes a.known) (sym known_is) (event_keeps a.known (suc number) (Does done maker) within)

    pub unit_is : (now : List ℕ) → now ≡ worn → AreLegalLogs past.image next.known → ArePrefixes past.logs next.known
        → IsUnitOf chronicle past handed wear next number new now
    unit_is now same legal begun = record {
      of = ap (λ (x : AuthorView). x.chronicle) appended ∙ is.of;
      over = ap (λ (x : AuthorView). x.past) appended ∙ is.over;
      numbered = ap (λ (x : AuthorView). x.number) appended ∙ is.numbered;
      owned = ap (λ (x : AuthorView). x.owned) appended ∙ is.owned;
      legal = legal;
      begun = begun;
      in_range = is.in_range;
      before = is.before;
      there = is.there;
      arm = arm_next past.image (logs_of a.known) (logs_of next.known) number is.before u new maker knows chunk command given.outcome is.arm given.steps own_is
          given.fits given.quiet;
      has_wear = is.has_wear ∙ ap (λ (xs : List ℕ). Some xs) (sym same);
    }

    pub own_longer : suc (length (logs_of a.known (suc number))) ≡ length (logs_of next.known (suc number))
    own_longer =
        let long : length (logs_of next.known (suc number)) ≡ length (logs_of a.known (suc number)) + 1 =
        ap (λ (xs : List Logged). length xs) own_is ∙ length-append (logs_of a.known (suc number)) (naming a.known (Does done maker) ∷ []) in
        omega arith

    -- the number of the event
    pub number_is : length (logs_of next.known (suc number)) - 1 ≡ length (logs_of a.known (suc number))
    number_is =
        let long : length (logs_of next.known (suc number)) ≡ length (logs_of a.known (suc number)) + 1 =
        ap (λ (xs : List Logged). length xs) own_is ∙ length-append (logs_of a.known (suc number)) (naming a.known (Does done maker) ∷ []) in
        omega arith

    pub made_is : last_made number next.known new ≡ record { unit = number; number = length (logs_of a.known (suc number)); event = done }
    made_is = ap₂ (λ n (e : UnitEvent). made_as n e) number_is last
      where
        made_as : ℕ → UnitEvent → Made
        made_as n e = record { unit = number; number = n; event = e }

    pub has_done : (before : Prefixes) (was now : WorkerView) → worker ≡ was.number → count ≡ length was.made
        → now ≡ record was { known = longer_of was.known next.known; made = was.made ++ last_made number next.known new ∷ [] } → ArePrefixes was.known now.known
        → ArePrefixes next.known now.known
        → HasDone (arm_view number before u) (arm_view number next.known new) was now a.known chunk command tells
    has_done before was now its_worker its_count is_now keeps learns = record {
      outcome = given.outcome;
      told = given.told;
      steps = given.steps;
      known = known_is ∙ ap₂ (λ m n. with_event a.known (suc number) (Does done (record { worker = m; made = n }))) its_worker its_count;
      made = ap (λ (x : WorkerView). x.made) is_now ∙ ap (λ (m : Made). was.made ++ m ∷ []) made_is;
      stripe = ap (λ (x : WorkerView). x.stripe) is_now;
      asked = ap (λ (x : WorkerView). x.asked) is_now;
      worker = ap (λ (x : WorkerView). x.number) is_now;
      keeps = keeps;
      learns = learns;
    }
