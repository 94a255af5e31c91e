-- A range comes back with its bytes, which were not here. Assumes `Logic`.
use Rattle.std.proofs.Common.{◌≡◌, ℕ, ◌+◌, ◌*◌, ◌^◌, ◌<◌, List, [], ◌∷◌, ◌++◌, length, true, false, set, refl, sym, ◌∙◌, arith, w64, Some}
use Rattle.std.specs.List.{slice_get}
use Rattle.std.proofs.lemmas.List.{length-set}
use mir.Syntax.{Fn}
use mir.Val.{Val, vint, vptr, vunit}
use base.Fraction.{full_share}
use base.Logic.{SProp, emp}
use base.Fml.{Lft, Share, ftrue, fsep, feq, flft}
use prog.Wp.{WpFn}
use contract.Monad.{fact, fact_i}
use contract.Running.{tables}
use types.Kit.{‵, raw, ◌⊛◌, given, later, prop, ◌$◌, ◌∵◌, !, qed, by, move, keep, drop, use0, use1, use2, split, join, learn, await, regoal, rewrite, fsplit, fsplit3, fjoin, fjoin3, fpack, feq_i}
use types.Run.{of_opd, unit_lit, no_more, and_then, returns, enter}
use types.ByLocal.{alloc_all, pass_all, free_all, look_at, get, sets, lands_as}
use denote.RattleType.{owns}
use denote.RawPtr.Bytes.{bytes, bytes_apart}
use denote.Builtin.{u8}
use denote.Signature.{plain, types_at}
use denote.Steps.{nothing, heard, opens, closes}
use denote.Triple.Call.{calls_at}
use denote.Triple.Table.{framed}
use denote.Triple.Walked.{Stays, stay_dropped, stay_ref, walk_of, Goes-dropped, Goes-ref}
use Rattle.std.proofs.alloc.Calls.{Goes-blank}
use Rattle.std.proofs.raw_atomic.Walks.{proved_at, leaves}
use Rattle.std_alloc.proofs.vec.lodged.Vec+T+Lodged.dislodge.Met as callee
use Rattle.bytes.proofs.Walks.{tells}
use Rattle.bytes.proofs.Lodging.{byte_laws, Housed, housed-laws, Dislodges, at_dislodge, dislodge_goes, dislodge_gives}
use Rattle.sector_pool.specs.Places.{IsRange}
use Rattle.sector_pool.specs.Owned.{holds_bytes, ranges_here}
use Rattle.sector_pool.proofs.Cutting.{comes_back}
use Rattle.sector_pool.proofs.Params.{param_at}
use Rattle.sector_pool.specs.contracts.memory.Ranges.{the_row as R}
use Rattle.sector_pool.specs.contracts.memory.Ranges.regain.{ended, clauses}
use Rattle.sector_pool.specs.contracts.memory.Ranges.regain.Key.{name as #self}
use Rattle.sector_pool.proofs.memory.Ranges.regain.Statement.{statement}
use Rattle.sector_pool.proofs.memory.Ranges.regain.Code as compiled

pub regain_spec : {M : Type 1} → statement M
regain_spec 𝓤 𝓛 𝓜 𝓡 wired =
    let H = 𝓛.H in
    let c = clauses 𝓛 𝓜.mem 𝓡.returns in
    let ps = ended.signature.params in
    let fn : Fn = compiled.function in
    let C = (tables 𝓤 H 𝓜 𝓡 𝓡.env).C in
    let Λ = (tables 𝓤 H 𝓜 𝓡 𝓡.env).Λ in
    let self_slot = plain (λ _. R) in
    let k₁ = ended.kept.1.0 in
    let k₂ = ended.kept.1.1.0 in
    let stays : Stays ps ended.kept = (stay_ref (0 ∷ []) tt self_slot, (stay_dropped (param_at 1 ps) k₁, (stay_dropped (param_at 2 ps) k₂, tt))) in
    proved_at 𝓛 ended stays c 𝓜 𝓡 (
      Goes-ref 𝓛 1 0 tt self_slot,
      (Goes-blank 𝓛 1 (param_at 1 ps) k₁ (λ κs x f. tt), (Goes-dropped 𝓛 1 (param_at 2 ps) k₂ (λ κs x f. refl), tt)),
    )
    #self fn (compiled.unfolded 𝓤 H 𝓜 𝓡 wired) (λ z are.
    let Post : Val → SProp 𝓤 = (walk_of 𝓛 ended stays c).post z in
    let args = z.0.3 in
    let vss = z.0.4 in
    let κ : Lft = z.0.0.0 in
    let q : Share = z.0.1.0 in
    let b = args.0.ref_ptr.0 in
    let o = args.0.ref_ptr.1 in
    let old = args.0.now in
    let r = old.region in
    let v = args.1.0 in
    let i = args.1.1.0 in
    let at = r.start + i * r.stride in
    let Asked = (i < r.count) × IsRange r i v.ptr v.len in
    qed 𝓛 (((‵ (flft κ q) ⊛ ‵ ftrue) ⊛ ‵ (owns (types_at ps z.0.0) args vss)) ∷ raw (fact 𝓤 Asked) ∷ []) ∵
    move ! (1 ∷ []) $ heard ! Asked
    (λ asked. split ! $ split ! $ move ! (2 ∷ []) $ fsplit ! $ move ! (1 ∷ []) $ fsplit ! $ tells ! Housed housed-laws v vss.1.0 (λ u is good.
    keep ! (0 ∷ 2 ∷ 3 ∷ []) $ move ! (1 ∷ []) $ fsplit3 ! $ drop ! $
    -- the call of `dislodge` gives the bytes, and how many they are
    regoal ! (λ (us : List Val). prop (WpFn 𝓤 H C Λ fn us Post)) (λ j. are.0.0 j ++ (is j ++ (are.1.1.0.0 j ++ []))) refl $
    enter ! C Λ fn (vptr b o ∷ u ∷ vint w64 i ∷ []) Post $
    alloc_all ! (λ l. pass_all ! refl ((tt, tt), (good, ((tt, record { fits = are.1.1.0.1 }), tt))) $
    move ! (2 ∷ []) $ sets ! (of_opd ! (get ! refl)) refl good $
    let y = at_dislodge 𝓛 𝓜.mem 𝓡.returns v u in
    use1 𝓛 (raw ((Dislodges 𝓛 𝓜.mem 𝓡.returns).pre y)) (dislodge_goes 𝓛 𝓜.mem 𝓡.returns v u) $
    calls_at ! (framed 𝓤 H 𝓜 (tables 𝓤 H 𝓜 𝓡 𝓡.env)) (Dislodges 𝓛 𝓜.mem 𝓡.returns)
    (callee.met 𝓤 𝓛 𝓜 𝓡 (compiled.calls-std_alloc::vec::lodged::Vec+T+Lodged::dislodge 𝓡.env wired) u8 byte_laws) y (and_then ! (get ! refl) (no_more !))
    (λ w.
    use1 𝓛 (later (given ((w ≡ vint w64 v.len) × (v.len < 2 ^ 64)) (‵ (holds_bytes v.ptr v.items))))
    (dislodge_gives 𝓛 𝓜.mem 𝓡.returns v u (omega (arith, old.some, asked.1.1)) w) $ await ! tt $ learn ! (λ got.
    lands_as ! got.0 refl (tt, record { fits = got.1 }) $
    sets ! (of_opd ! (unit_lit !)) refl (tt, tt) $
    -- they are the range's
    rewrite ! 0 (λ p. ‵ (holds_bytes p v.items)) asked.1.0 refl $
    let Filled = λ (n : ℕ) (xs : List ℕ). fsep (feq ℕ (length xs) n) (bytes full_share xs r.block at) in
    use1 𝓛 (‵ (Filled (length v.items) v.items)) (bytes_apart 𝓛 full_share (length v.items) v.items r.block at) $ fsplit ! $ drop ! $
    feq_i ! ℕ (length v.items) r.stride (sym v.ok.0 ∙ asked.1.1) $ fjoin ! $ fpack ! (List ℕ) (Filled r.stride) v.items $
    -- the borrow is opened, and ends with them
    move ! (1 ∷ 2 ∷ 3 ∷ 0 ∷ []) $ opens ! tt R b o (λ us. move ! (1 ∷ []) $ fsplit ! $ move ! (6 ∷ 1 ∷ []) $
    use2 𝓛 (given (slice_get old.here i ≡ Some false) (‵ (ranges_here r.block r.stride old.rest r.start (set old.here i true))))
    (comes_back 𝓛 r.block r.stride old.rest 𝓜 old.some i r.start old.here (omega (arith, old.counted, asked.0))) $ learn ! (λ out.
    let new : R.Denot = record {
      base = old.base;
      region = r;
      rest = old.rest;
      here = set old.here i true;
      placed = old.placed;
      counted = length-set old.here i true ∙ old.counted;
      some = old.some;
      small = old.small;
    } in
    move ! (1 ∷ 0 ∷ []) $ fjoin ! $ move ! (1 ∷ 0 ∷ []) $ closes ! tt R new us b o $
    returns ! (look_at ! 0 refl) $ free_all ! refl $
    feq_i ! (List Val) vss.0 (vptr b o ∷ []) are.0.0 $ fjoin3 ! $ nothing ! $ nothing ! $ fjoin ! $ nothing ! $ fjoin ! $ move ! (1 ∷ 0 ∷ []) $ fjoin ! $
    nothing ! $ move ! (2 ∷ 0 ∷ []) $ join ! $ feq_i ! (List Val) (vunit ∷ []) (vunit ∷ []) refl $
    let Said = (slice_get old.here i ≡ Some false) × (new.here ≡ set old.here i true) × (r ≡ r) × (old.rest ≡ old.rest) in
    use0 𝓛 (raw (fact 𝓤 Said)) (fact_i 𝓤 Said (emp 𝓤) (out, refl, refl, refl)) $ move ! (2 ∷ 3 ∷ 1 ∷ 0 ∷ []) $
    by ! (leaves 𝓛 ended stays c z vunit tt (new, (tt, (tt, tt))) (tt, (tt, (tt, tt))))))))))))
