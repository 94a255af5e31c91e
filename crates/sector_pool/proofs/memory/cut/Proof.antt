-- The bytes leave the `Vec` and are cut, and what is left of it is an emptied one. Assumes `Logic`.
use Rattle.std.proofs.Common.{◌≡◌, ℕ, ◌+◌, ◌-◌, ◌*◌, ◌^◌, ◌<◌, ◌≤◌, List, [], ◌∷◌, ◌++◌, length, replicate, true, refl, sym, ap, ◌∙◌, arith, w64}
use Rattle.std.proofs.lemmas.List.{length-replicate}
use mir.Syntax.{Fn}
use mir.Val.{Val, vint, vptr}
use base.Fraction.{full_share}
use base.Logic.{SProp, emp, id⊢, never}
use base.Fml.{ftrue, fsep, feq}
use prog.Wp.{WpFn}
use contract.Monad.{fact, fact_i}
use contract.Running.{tables}
use types.Kit.{‵, raw, ◌⊛◌, prop, ◌$◌, ◌∵◌, !, qed, by, move, drop, use0, use1, split, regoal, fsplit, fjoin, fpack, feq_i}
use types.Part.{agg}
use types.Run.{of_opd, no_more, and_then, returns, enter}
use types.ByLocal.{alloc_all, pass_all, free_all, look_at, get, sets}
use denote.Builtin.{RawPtr}
use denote.Laws.{Typed}
use denote.Param.{layout}
use denote.RattleType.{owns}
use denote.RawPtr.{block_ptr, ptr_val, in_a_block}
use denote.RawPtr.Bytes.{bytes, bytes_apart}
use denote.Signature.{types_at}
use denote.Steps.{nothing, heard}
use denote.Struct.Struct.{as_fields}
use denote.Triple.Entry.{alive}
use denote.Triple.Walked.{Stays, stay_dropped, walk_of, Goes-dropped}
use Rattle.std.proofs.alloc.Calls.{Goes-blank}
use Rattle.std.proofs.raw_atomic.Walks.{proved_at, leaves}
use Rattle.bytes.proofs.Walks.{one, two, tells, one_made, two_made}
use Rattle.pblk_model.specs.Frames.{Region}
use Rattle.sector_pool.specs.Places.{HasShape, IsExtent}
use Rattle.sector_pool.specs.Owned.{Extent, holds_bytes, ranges_here}
use Rattle.sector_pool.proofs.Cutting.{all_cut}
use Rattle.sector_pool.proofs.Emptying.{Bytes, bytes-laws, emptied}
use Rattle.sector_pool.proofs.Params.{param_at}
use Rattle.sector_pool.specs.contracts.memory.Ranges as Ranges
use Rattle.sector_pool.specs.contracts.memory.Emptied as Emptied
use Rattle.sector_pool.specs.contracts.memory.cut.{ended, clauses}
use Rattle.sector_pool.specs.contracts.memory.cut.Key.{name as #self}
use Rattle.sector_pool.proofs.memory.cut.Statement.{statement}
use Rattle.sector_pool.proofs.memory.cut.Code as compiled

pub cut_spec : {M : Type 1} → statement M
cut_spec 𝓤 𝓛 𝓜 𝓡 wired =
    let H = 𝓛.H in
    let c = clauses 𝓛 𝓜.mem 𝓡.returns in
    let ps = ended.signature.params in
    let fn : Fn = compiled.function in
    let C = (tables 𝓤 H 𝓜 𝓡 𝓡.env).C in
    let Λ = (tables 𝓤 H 𝓜 𝓡 𝓡.env).Λ in
    let k₀ = ended.kept.0 in
    let k₁ = ended.kept.1.0 in
    let k₂ = ended.kept.1.1.0 in
    let k₃ = ended.kept.1.1.1.0 in
    let k₄ = ended.kept.1.1.1.1.0 in
    let stays : Stays ps ended.kept = (
      stay_dropped (param_at 0 ps) k₀,
      (stay_dropped (param_at 1 ps) k₁, (stay_dropped (param_at 2 ps) k₂, (stay_dropped (param_at 3 ps) k₃, (stay_dropped (param_at 4 ps) k₄, tt)))),
    ) in
    proved_at 𝓛 ended stays c 𝓜 𝓡 (
      Goes-blank 𝓛 0 (param_at 0 ps) k₀ (λ κs x f. tt),
      (
        Goes-dropped 𝓛 0 (param_at 1 ps) k₁ (λ κs x f. refl),
        (
          Goes-dropped 𝓛 0 (param_at 2 ps) k₂ (λ κs x f. refl),
          (Goes-dropped 𝓛 0 (param_at 3 ps) k₃ (λ κs x f. refl), (Goes-dropped 𝓛 0 (param_at 4 ps) k₄ (λ κs x f. refl), tt)),
        ),
      ),
    )
    #self fn (compiled.unfolded 𝓤 H 𝓜 𝓡 wired) (λ z are.
    let Post : Val → SProp 𝓤 = (walk_of 𝓛 ended stays c).post z in
    let args = z.0.3 in
    let vss = z.0.4 in
    let v = args.0 in
    let base = args.1.0 in
    let count = args.1.1.0 in
    let stride = args.1.1.1.0 in
    let size = args.1.1.1.1.0 in
    let Asked = (base ≡ v.ptr) × (0 < v.len) × (0 < stride) × (stride < 2 ^ 63) × (count * stride ≤ v.len) in
    qed 𝓛 ((raw (alive 𝓛 ended.signature z.0.0 z.0.1) ⊛ ‵ (owns (types_at ps z.0.0) args vss)) ∷ raw (fact 𝓤 Asked) ∷ []) ∵
    move ! (1 ∷ []) $ heard ! Asked (λ asked. split ! $ move ! (1 ∷ []) $
    fsplit ! $ tells ! Bytes bytes-laws v vss.0 (λ u is good. move ! (1 ∷ []) $ drop ! $
    -- the `Vec` comes apart
    let extent : Extent = record { ptr = v.ptr; len = v.len } in
    use1 𝓛 (‵ (holds_bytes v.ptr v.items) ⊛ ‵ (Emptied.the_own extent (one u ∷ []))) (emptied 𝓛 v u asked.1) $ split ! $
    in_a_block ! v.ptr (λ p. holds_bytes p v.items) (id⊢ 𝓤 (never 𝓤)) (λ b o at.
    let Filled = λ (n : ℕ) (xs : List ℕ). fsep (feq ℕ (length xs) n) (bytes full_share xs b o) in
    use1 𝓛 (‵ (Filled (length v.items) v.items)) (bytes_apart 𝓛 full_share (length v.items) v.items b o) $ fsplit ! $ drop ! $
    -- its bytes become ranges
    let rest = v.len - count * stride in
    let all = count * stride + rest in
    let region : Region = record { block = b; start = o; stride = stride; size = size; count = count } in
    let placed : base ≡ block_ptr b o = asked.0 ∙ at in
    let ranges : (Ranges.the_row).Denot = record {
      base = base;
      region = region;
      rest = rest;
      here = replicate count true;
      placed = placed;
      counted = length-replicate count true;
      some = asked.2;
      small = asked.3;
    } in
    feq_i ! ℕ (length v.items) all (omega (arith, v.ok.0, asked.4)) $ fjoin ! $ fpack ! (List ℕ) (Filled all) v.items $
    use1 𝓛 (‵ (ranges_here b stride rest o (replicate count true))) (all_cut 𝓛 b stride rest count o) $
    -- the body, over the ranges, the emptied `Vec` and the tokens
    let emptied_val = as_fields (layout Bytes ∷ []) (u ∷ []) (good, tt) in
    regoal ! (λ (us : List Val). prop (WpFn 𝓤 H C Λ fn us Post))
    (λ i. is i ++ ((are.1.0 ∙ ap (λ p. ptr_val p ∷ []) placed) i ++ (are.1.1.0.0 i ++ (are.1.1.1.0.0 i ++ (are.1.1.1.1.0.0 i ++ []))))) refl $
    enter ! C Λ fn (u ∷ vptr b o ∷ vint w64 count ∷ vint w64 stride ∷ vint w64 size ∷ []) Post $
    alloc_all ! (λ l. pass_all ! refl
    (good, ((tt, tt), ((tt, record { fits = are.1.1.0.1 }), ((tt, record { fits = are.1.1.1.0.1 }), ((tt, record { fits = are.1.1.1.1.0.1 }), tt))))) $
    sets ! (agg ! (and_then ! (get ! refl) (no_more !))) refl (tt, (tt, tt)) $
    sets ! (of_opd ! (get ! refl)) refl good $
    sets ! (agg ! (and_then ! (get ! refl) (no_more !))) refl emptied_val $
    sets ! (agg ! (and_then ! (get ! refl) (and_then ! (get ! refl) (no_more !)))) refl
    (as_fields (layout Ranges.the_row ∷ layout Emptied.the_row ∷ []) (one (vptr b o) ∷ one u ∷ []) ((tt, (tt, tt)), (emptied_val, tt))) $
    returns ! (look_at ! 0 refl) $ free_all ! refl $
    -- the pair that it returns
    feq_i ! (List Val) (vptr b o ∷ []) (ptr_val base ∷ []) (ap (λ p. ptr_val p ∷ []) (sym placed)) $ one_made ! RawPtr base (vptr b o) $ fjoin ! $ move !
    (1 ∷ []) $
    nothing ! $ fpack ! (Typed Emptied.the_row.mir (one u ∷ [])) (λ _. ftrue) (emptied_val, tt) $ fjoin ! $ move !
    (1 ∷ 0 ∷ []) $ two_made ! Ranges.the_row Emptied.the_row ranges extent (one (vptr b o)) (one u) $
    let Said = HasShape region stride size count × (replicate count true ≡ replicate count true) × IsExtent region rest extent × (v.len ≡ v.len) in
    use0 𝓛 (raw (fact 𝓤 Said)) (fact_i 𝓤 Said (emp 𝓤) ((refl, refl, refl), refl, (at, omega (arith, asked.4)), refl)) $
    nothing ! $ nothing ! $ fjoin ! $ nothing ! $ fjoin ! $ nothing ! $ fjoin ! $ nothing ! $ fjoin ! $ nothing ! $ fjoin ! $ move ! (3 ∷ 0 ∷ 2 ∷ 1 ∷ []) $
    by ! (leaves 𝓛 ended stays c z (two (one (vptr b o)) (one u)) (ranges, extent) (tt, (tt, (tt, (tt, (tt, tt))))) (tt, (tt, (tt, (tt, (tt, tt)))))))))))
