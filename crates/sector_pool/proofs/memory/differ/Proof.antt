-- Both borrows are opened, compared and closed again. Assumes `Logic`.
use Rattle.std.proofs.Common.{◌≡◌, ◌≢◌, ◌<◌, List, [], ◌∷◌, ◌++◌, refl}
use mir.Syntax.{Fn}
use mir.Val.{Val, vptr, vunit}
use base.Logic.{SProp, emp}
use base.Fml.{Lft, Share, ftrue, flft}
use prog.Wp.{WpFn}
use contract.Monad.{fact, fact_i}
use contract.Running.{tables}
use types.Kit.{‵, raw, ◌⊛◌, given, prop, ◌$◌, ◌∵◌, !, qed, by, move, keep, drop, use0, use2, split, join, learn, regoal, fsplit, fsplit3, fjoin, fjoin3, feq_i}
use types.Run.{of_opd, unit_lit, returns, enter}
use types.ByLocal.{alloc_all, pass_all, free_all, look_at, sets}
use denote.RattleType.{owns}
use denote.Signature.{plain, types_at}
use denote.Steps.{nothing, heard, opens, closes}
use denote.Triple.Walked.{Stays, stay_ref, walk_of, Goes-ref}
use Rattle.std.proofs.raw_atomic.Walks.{proved_at, leaves}
use Rattle.bytes.proofs.Lodging.{Housed}
use Rattle.sector_pool.proofs.OneOwner.{begin_apart}
use Rattle.sector_pool.specs.contracts.memory.differ.{ended, clauses}
use Rattle.sector_pool.specs.contracts.memory.differ.Key.{name as #self}
use Rattle.sector_pool.proofs.memory.differ.Statement.{statement}
use Rattle.sector_pool.proofs.memory.differ.Code as compiled

pub differ_spec : {M : Type 1} → statement M
differ_spec 𝓤 𝓛 𝓜 𝓡 wired =
    let H = 𝓛.H in
    let c = clauses 𝓛 𝓜.mem 𝓡.returns in
    let ps = ended.signature.params in
    let fn : Fn = compiled.function in
    let C = (tables 𝓤 H 𝓜 𝓡 𝓡.env).C in
    let Λ = (tables 𝓤 H 𝓜 𝓡 𝓡.env).Λ in
    let slot = plain (λ _. Housed) in
    let stays : Stays ps ended.kept = (stay_ref (0 ∷ []) tt slot, (stay_ref (1 ∷ []) tt slot, tt)) in
    proved_at 𝓛 ended stays c 𝓜 𝓡 (Goes-ref 𝓛 2 0 tt slot, (Goes-ref 𝓛 2 1 tt slot, tt)) #self fn (compiled.unfolded 𝓤 H 𝓜 𝓡 wired) (λ z are.
    let Post : Val → SProp 𝓤 = (walk_of 𝓛 ended stays c).post z in
    let left = z.0.3.0 in
    let right = z.0.3.1.0 in
    let v = left.now in
    let w = right.now in
    let vss = z.0.4 in
    let κ : Lft = z.0.0.0 in
    let κ' : Lft = z.0.0.1.0 in
    let q : Share = z.0.1.0 in
    let q' : Share = z.0.1.1.0 in
    let b = left.ref_ptr.0 in
    let o = left.ref_ptr.1 in
    let b' = right.ref_ptr.0 in
    let o' = right.ref_ptr.1 in
    let Asked = (0 < v.len) × (0 < w.len) in
    qed 𝓛 (((‵ (flft κ q) ⊛ ‵ (flft κ' q') ⊛ ‵ ftrue) ⊛ ‵ (owns (types_at ps z.0.0) z.0.3 vss)) ∷ raw (fact 𝓤 Asked) ∷ []) ∵
    move ! (1 ∷ []) $ heard ! Asked (λ asked. split ! $ split ! $ move ! (1 ∷ []) $ split ! $ move ! (3 ∷ []) $
    fsplit ! $ fsplit3 ! $ drop ! $ move ! (2 ∷ []) $ fsplit ! $ fsplit3 ! $ drop ! $ keep ! (3 ∷ 4 ∷ 7 ∷ 0 ∷ 1 ∷ 5 ∷ []) $
    -- now: what the left borrow holds in two parts, its token, and the same of the right
    regoal ! (λ (us : List Val). prop (WpFn 𝓤 H C Λ fn us Post)) (λ j. are.0.0 j ++ (are.1.0.0 j ++ [])) refl $
    enter ! C Λ fn (vptr b o ∷ vptr b' o' ∷ []) Post $ alloc_all ! (λ l. pass_all ! refl ((tt, tt), ((tt, tt), tt)) $
    opens ! tt Housed {h = v} b o (λ us. move ! (5 ∷ 6 ∷ 7 ∷ []) $ opens ! tt Housed {h = w} b' o' (λ ws. move ! (6 ∷ 1 ∷ []) $
    use2 𝓛 (given (v.ptr ≢ w.ptr) (‵ (Housed.own_val v us) ⊛ ‵ (Housed.own_val w ws))) (begin_apart 𝓛 𝓜 v w us ws asked.0 asked.1) $ learn ! (λ apart. split ! $
    move ! (2 ∷ 1 ∷ 3 ∷ 4 ∷ 5 ∷ []) $ closes ! tt Housed w ws b' o' $ move ! (4 ∷ 3 ∷ 5 ∷ 6 ∷ 7 ∷ []) $ closes ! tt Housed v us b o $
    sets ! (of_opd ! (unit_lit !)) refl (tt, tt) $
    returns ! (look_at ! 0 refl) $ free_all ! refl $
    feq_i ! (List Val) vss.0 (vptr b o ∷ []) are.0.0 $ fjoin3 ! $ move ! (2 ∷ 3 ∷ []) $ feq_i ! (List Val) vss.1.0 (vptr b' o' ∷ []) are.1.0.0 $ fjoin3 ! $
    nothing ! $ move ! (1 ∷ 0 ∷ []) $ fjoin ! $ move ! (1 ∷ 0 ∷ []) $ fjoin ! $
    nothing ! $ move ! (3 ∷ 0 ∷ []) $ join ! $ move ! (2 ∷ 0 ∷ []) $ join ! $ feq_i ! (List Val) (vunit ∷ []) (vunit ∷ []) refl $
    let Said = (v.ptr ≢ w.ptr) × (v ≡ v) × (w ≡ w) in
    use0 𝓛 (raw (fact 𝓤 Said)) (fact_i 𝓤 Said (emp 𝓤) (apart, refl, refl)) $ move ! (2 ∷ 3 ∷ 1 ∷ 0 ∷ []) $
    by ! (leaves 𝓛 ended stays c z vunit tt (v, (w, tt)) (tt, (tt, tt)))))))))
