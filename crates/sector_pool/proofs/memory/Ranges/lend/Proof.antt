-- A range leaves with its bytes, over which a `Vec` is laid. Assumes `Logic`.
use Rattle.std.proofs.Common.{◌≡◌, ℕ, ◌+◌, ◌*◌, List, [], ◌∷◌, ◌++◌, length, true, false, set, refl, sym, ap, ◌∙◌, arith, subst, w64, Vec, Some}
use Rattle.std.proofs.lemmas.List.{length-set}
use Rattle.std.specs.List.{slice_get}
use mir.Syntax.{Fn}
use mir.Val.{Val, vint, vptr}
use base.Fraction.{full_share}
use base.Logic.{SProp, emp}
use base.Fml.{Lft, Share, ftrue, flft}
use prog.Wp.{Env, WpFn}
use contract.Monad.{fact, fact_i}
use contract.Running.{tables}
use types.Kit.{‵, raw, ◌⊛◌, some, given, later, prop, at_ret, ◌$◌, ◌∵◌, !, qed, by, move, keep, use0, use1, split, join, pick, learn, await, regoal, rewrite, fsplit, fsplit3, fjoin, fjoin3, fpick, feq_l, feq_i}
use types.Part.{whole, sub, agg, look_in}
use types.Run.{stop, fld, of_opd, bin, load, no_more, and_then, first, blocks, exec, returns, enter}
use types.ByLocal.{is as equals, alloc_all, pass_all, free_all, look_at, get, through, sets, sets_last, lands_as, env}
use denote.Laws.{shows}
use denote.Memory.{cell_at}
use denote.Param.{layout}
use denote.RattleType.{owns}
use denote.RawPtr.{Ptr, block_ptr, ptr_val}
use denote.RawPtr.Bytes.{bytes_whole}
use denote.Builtin.{u8}
use denote.Signature.{plain, types_at}
use denote.Steps.{nothing, heard, opens, closes, peeks, only}
use denote.Struct.Struct.{as_fields}
use denote.Triple.Call.{calls_at}
use denote.Triple.Walked.{Stays, stay_dropped, stay_ref, walk_of, Goes-dropped, Goes-ref}
use denote.Triple.Table.{framed}
use Rattle.std.proofs.VecSteps.Shapes.{after}
use Rattle.std.proofs.raw_atomic.Walks.{proved_at, leaves}
use Rattle.std_alloc.specs.declared.vec.lodged.Lodged.{Lodged}
use Rattle.std_alloc.proofs.vec.lodge.Met as callee
use Rattle.bytes.proofs.Walks.{Good, none, one, two, tells, none_made, two_made}
use Rattle.bytes.proofs.Lodging.{byte_laws, Housed, housed-laws, Lodges, at_lodge, IsLodged, lodge_goes, lodge_gives}
use Rattle.sector_pool.specs.Places.{IsRange}
use Rattle.sector_pool.specs.Owned.{holds_bytes, some_bytes, ranges_here}
use Rattle.sector_pool.proofs.Cutting.{goes_out}
use Rattle.sector_pool.proofs.Params.{param_at}
use Rattle.sector_pool.specs.contracts.memory.Ranges.{the_row as R}
use Rattle.sector_pool.specs.contracts.memory.Origin as Origin
use Rattle.sector_pool.proofs.memory.Ranges.TheLaws.{lowers}
use Rattle.sector_pool.specs.contracts.memory.Ranges.lend.{ended, clauses}
use Rattle.sector_pool.specs.contracts.memory.Ranges.lend.Key.{name as #self}
use Rattle.sector_pool.proofs.memory.Ranges.lend.Statement.{statement}
use Rattle.sector_pool.proofs.memory.Ranges.lend.Code as compiled

pub lend_spec : {M : Type 1} → statement M
lend_spec 𝓤 𝓛 𝓜 𝓡 wired =
    let H = 𝓛.H in
    let c = clauses 𝓛 𝓜.mem 𝓡.returns in
    let ps = ended.signature.params in
    let fn : Fn = compiled.function in
    let C = (tables 𝓤 H 𝓜 𝓡 𝓡.env).C in
    let Λ = (tables 𝓤 H 𝓜 𝓡 𝓡.env).Λ in
    let self_slot = plain (λ _. R) in
    let k₁ = ended.kept.1.0 in
    let k₂ = ended.kept.1.1.0 in
    let k₃ = ended.kept.1.1.1.0 in
    let stays : Stays ps ended.kept =
    (stay_ref (0 ∷ []) tt self_slot, (stay_dropped (param_at 1 ps) k₁, (stay_dropped (param_at 2 ps) k₂, (stay_dropped (param_at 3 ps) k₃, tt)))) in
    proved_at 𝓛 ended stays c 𝓜 𝓡 (
      Goes-ref 𝓛 1 0 tt self_slot,
      (
        Goes-dropped 𝓛 1 (param_at 1 ps) k₁ (λ κs x f. refl),
        (Goes-dropped 𝓛 1 (param_at 2 ps) k₂ (λ κs x f. refl), (Goes-dropped 𝓛 1 (param_at 3 ps) k₃ (λ κs x f. refl), tt)),
      ),
    )
    #self fn (compiled.unfolded 𝓤 H 𝓜 𝓡 wired) (λ z are.
    let Post : Val → SProp 𝓤 = (walk_of 𝓛 ended stays c).post z in
    let args = z.0.3 in
    let vss = z.0.4 in
    let κ : Lft = z.0.0.0 in
    let q : Share = z.0.1.0 in
    let b = args.0.ref_ptr.0 in
    let o = args.0.ref_ptr.1 in
    let old = args.0.now in
    let r = old.region in
    let i = args.1.0 in
    let offset = args.1.1.0 in
    let stride = args.1.1.1.0 in
    let Asked = (slice_get old.here i ≡ Some true) × (offset ≡ i * stride) × (stride ≡ r.stride) in
    qed 𝓛 (((‵ (flft κ q) ⊛ ‵ ftrue) ⊛ ‵ (owns (types_at ps z.0.0) args vss)) ∷ raw (fact 𝓤 Asked) ∷ []) ∵
    move ! (1 ∷ []) $ heard ! Asked (λ asked. split ! $ split ! $ move ! (2 ∷ []) $ fsplit ! $ fsplit3 ! $ keep ! (1 ∷ 2 ∷ 4 ∷ []) $
    regoal ! (λ (us : List Val). prop (WpFn 𝓤 H C Λ fn us Post)) (λ j. are.0.0 j ++ (are.1.0.0 j ++ (are.1.1.0.0 j ++ (are.1.1.1.0.0 j ++ [])))) refl $
    enter ! C Λ fn (vptr b o ∷ vint w64 i ∷ vint w64 offset ∷ vint w64 stride ∷ []) Post $
    alloc_all ! (λ l. pass_all ! refl
    ((tt, tt), ((tt, record { fits = are.1.0.1 }), ((tt, record { fits = are.1.1.0.1 }), ((tt, record { fits = are.1.1.1.0.1 }), tt)))) $
    let En : Env 𝓤 𝓛.H = env fn.locals l in
    opens ! tt R b o (λ us. move ! (1 ∷ []) $ peeks ! R _ (shows 𝓛 R) old us (λ is. fsplit ! $ move ! (1 ∷ []) $
    -- now: the ranges, the field, the struct's cell, and the open borrow in three parts
    let word : us ≡ one (vptr r.block r.start) ∷ [] = lowers.val_is old us is ∙ ap (λ (p : Ptr). one (ptr_val p) ∷ []) old.placed in
    let Cell = λ (ws : List Val). ‵ (cell_at full_share R.mir ws b o) in
    let new : R.Denot = record {
      base = old.base;
      region = r;
      rest = old.rest;
      here = set old.here i false;
      placed = old.placed;
      counted = length-set old.here i false ∙ old.counted;
      some = old.some;
      small = old.small;
    } in
    let at = r.start + i * r.stride in
    -- the pointer to the range
    rewrite ! 2 Cell word refl $
    first ! $ blocks ! $
    sets ! (of_opd ! (load ! (through ! refl (fld ! refl (stop !))) (look_in ! 2 (sub ! 0 refl (whole !))))) refl (tt, tt) $
    sets ! (equals ! (bin ! (get ! refl) (get ! refl) tt) (ap (vptr r.block) (omega arith))) refl (tt, tt) $
    rewrite ! 2 Cell (sym word) refl $
    -- the range's bytes go out, and the borrow ends without them
    use1 𝓛 (‵ (some_bytes r.stride r.block at) ⊛ ‵ (ranges_here r.block r.stride old.rest r.start (set old.here i false)))
    (goes_out 𝓛 r.block r.stride old.rest i r.start old.here asked.0) $ split ! $
    move ! (2 ∷ 1 ∷ []) $ fjoin ! $ move ! (2 ∷ 0 ∷ 3 ∷ 4 ∷ 5 ∷ []) $ closes ! tt R new us b o $
    -- the call of `lodge` takes them
    move ! (3 ∷ []) $ fpick ! (λ xs. fsplit ! $ feq_l ! (λ long. feq_i ! ℕ (length xs) (length xs) refl $ fjoin ! $
    use1 𝓛 (‵ (holds_bytes (block_ptr r.block at) xs)) (bytes_whole 𝓛 full_share (length xs) xs r.block at) $
    let offset_is : i * r.stride ≡ offset = sym (asked.1 ∙ ap (λ k. i * k) asked.2) in
    rewrite ! 0 (λ k. ‵ (holds_bytes (block_ptr r.block (r.start + k)) xs)) offset_is refl $
    let y = at_lodge 𝓛 𝓜.mem 𝓡.returns r.block (r.start + offset) stride xs in
    let Laid = λ (d : Vec ℕ Lodged). IsLodged 𝓛 𝓜.mem 𝓡.returns r.block (r.start + offset) stride xs d in
    use1 𝓛 (raw ((Lodges 𝓛 𝓜.mem 𝓡.returns).pre y))
    (lodge_goes 𝓛 𝓜.mem 𝓡.returns r.block (r.start + offset) stride xs (long ∙ sym asked.2) (omega (arith, old.some, asked.2))
    (omega (arith, old.small, asked.2))) $
    calls_at ! (framed 𝓤 H 𝓜 (tables 𝓤 H 𝓜 𝓡 𝓡.env)) (Lodges 𝓛 𝓜.mem 𝓡.returns)
    (callee.met 𝓤 𝓛 𝓜 𝓡 (compiled.calls-std_alloc::vec::lodge 𝓡.env wired) u8 byte_laws) y
    (and_then ! (get ! refl) (and_then ! (get ! refl) (and_then ! (get ! refl) (no_more !)))) (λ v.
    use1 𝓛 (later (some (λ (d : Vec ℕ Lodged). given (Laid d) (‵ (Housed.own_val d (v ∷ []))))))
    (lodge_gives 𝓛 𝓜.mem 𝓡.returns r.block (r.start + offset) stride xs v) $
    await ! tt $ pick ! (λ d. learn ! (λ laid. tells ! Housed housed-laws d (v ∷ []) (λ u same good.
    let fine : Good Housed v = subst (Good Housed) (sym (ap only same)) good in
    let pair = as_fields (layout Housed ∷ layout Origin.the_row ∷ []) (v ∷ none ∷ []) (fine, ((tt, tt), tt)) in
    rewrite ! 0 (λ w. ‵ (Housed.own_val d (w ∷ []))) (sym (ap only same)) refl $ lands_as ! refl refl fine $
    sets ! (agg ! (no_more !)) refl (tt, tt) $
    sets_last ! (agg ! (and_then ! (get ! refl) (and_then ! (get ! refl) (no_more !)))) refl pair $
    exec ! C Λ En (after 1 fn.body) (at_ret En Post) $
    sets ! (of_opd ! (get ! refl)) refl pair $
    returns ! (look_at ! 0 refl) $ free_all ! refl $
    -- the pair that it returns, and the borrow with its new value
    let origin : (Origin.the_row).Denot = record { region = r } in
    nothing ! $ none_made ! $ fjoin ! $ move ! (1 ∷ 0 ∷ []) $ two_made ! Housed Origin.the_row d origin v none $
    move ! (1 ∷ 2 ∷ []) $ feq_i ! (List Val) vss.0
    (vptr b o ∷ []) are.0.0 $ fjoin3 ! $ nothing ! $ nothing ! $ fjoin ! $ nothing ! $ fjoin ! $ nothing ! $ fjoin ! $ move ! (1 ∷ 0 ∷ []) $ fjoin ! $
    nothing ! $ move ! (3 ∷ 0 ∷ []) $ join ! $
    let placed = laid.3 ∙ ap (λ k. block_ptr r.block (r.start + k)) (sym offset_is) in
    let Said = (new.here ≡ set old.here i false) × (r ≡ r) × (old.rest ≡ old.rest) × IsRange r i d.ptr d.len × (r ≡ r) in
    use0 𝓛 (raw (fact 𝓤 Said)) (fact_i 𝓤 Said (emp 𝓤) (refl, refl, refl, (placed, laid.1 ∙ asked.2), refl)) $ move ! (1 ∷ 2 ∷ 3 ∷ 0 ∷ []) $
    by ! (leaves 𝓛 ended stays c z (two v none) (d, origin) (new, (tt, (tt, (tt, tt)))) (tt, (tt, (tt, (tt, tt))))))))))))))))
