-- The value owns nothing, and names the region of the ranges. Assumes `Logic`.
use Rattle.std.proofs.Common.{◌≡◌, [], ◌∷◌, refl}
use mir.Syntax.{named}
use mir.Val.{Val, vptr}
use base.Logic.{SProp, emp}
use contract.Monad.{fact, fact_i}
use contract.Running.{tables}
use types.Kit.{‵, raw, ◌⊛◌, ◌$◌, ◌∵◌, !, qed, by, keep, use0, split, fjoin}
use types.Part.{agg}
use types.Run.{no_more, returns, enter}
use types.ByLocal.{alloc_all, pass_all, free_all, look_at, sets}
use denote.Builtin.{RefOf}
use denote.Exit.{yes}
use denote.RattleType.{owns}
use denote.Ref.{shr_vals, shr_Tells}
use denote.Signature.{plain, types_at}
use denote.Steps.{nothing}
use denote.Triple.Entry.{alive}
use denote.Triple.Walked.{Stays, stay_dropped, walk_of, Goes-dropped}
use Rattle.std.proofs.raw_atomic.Walks.{proved, leaves}
use Rattle.bytes.proofs.Walks.{none, none_made}
use Rattle.sector_pool.specs.contracts.memory.Ranges.{the_row as R}
use Rattle.sector_pool.specs.contracts.memory.Origin as Origin
use Rattle.sector_pool.specs.contracts.memory.Ranges.origin.{ended, clauses}
use Rattle.sector_pool.specs.contracts.memory.Ranges.origin.Key.{name as #self}
use Rattle.sector_pool.proofs.memory.Ranges.origin.Statement.{statement}
use Rattle.sector_pool.proofs.memory.Ranges.origin.Code as compiled

pub origin_spec : {M : Type 1} → statement M
origin_spec 𝓤 𝓛 𝓜 𝓡 wired =
    let H = 𝓛.H in
    let 𝓣 = tables 𝓤 H 𝓜 𝓡 𝓡.env in
    let c = clauses 𝓛 𝓜.mem 𝓡.returns in
    let slot = RefOf (0 ∷ []) tt (plain (λ _. R)) (λ _. tt) in
    let stays : Stays ended.signature.params ended.kept = (stay_dropped slot yes, tt) in
    proved 𝓛 ended stays c 𝓜 𝓡 (Goes-dropped 𝓛 1 slot yes (λ κs x f. refl), tt) #self compiled.function (compiled.unfolded 𝓤 H 𝓜 𝓡 wired)
    (λ κs. (shr_vals, tt)) (λ κs. (shr_Tells (named 0) κs.0 R, tt)) (λ κs qs bounds a gh are.
    let at : Val = vptr a.0.ref_ptr.0 a.0.ref_ptr.1 in
    let origin : (Origin.the_row).Denot = record { region = a.0.now.region } in
    let y : (walk_of 𝓛 ended stays c).Ghost = ((κs, qs, bounds, a, (at ∷ [], tt)), gh) in
    let Post : Val → SProp 𝓤 = (walk_of 𝓛 ended stays c).post y in
    let Said : Type 0 = origin.region ≡ a.0.now.region in
    qed 𝓛 ((raw (alive 𝓛 ended.signature κs qs) ⊛ ‵ (owns (types_at ended.signature.params κs) a y.0.4)) ∷ raw ((c κs a).requires gh) ∷ []) ∵
    split ! $ keep ! (0 ∷ []) $ nothing ! $ none_made ! $ fjoin ! $
    enter ! 𝓣.C 𝓣.Λ compiled.function (at ∷ []) Post $ alloc_all ! (λ l. pass_all ! refl ((tt, tt), tt) $
    sets ! (agg ! (no_more !)) refl (tt, tt) $
    use0 𝓛 (raw (fact 𝓤 Said)) (fact_i 𝓤 Said (emp 𝓤) refl) $ nothing ! $ nothing ! $ fjoin ! $
    returns ! (look_at ! 0 refl) $ free_all ! refl $ keep ! (3 ∷ 0 ∷ 2 ∷ 1 ∷ []) $ by ! (leaves 𝓛 ended stays c y none origin (tt, tt) (tt, tt))))
