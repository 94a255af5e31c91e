-- The only session of a target: the run of a script through it, and what comes back at the close.
use Rattle.std.proofs.Common.{◌≡◌, ℕ, List, [], ◌∷◌, length, map, slice_get, Option, refl, sym, subst, ap, ◌∙◌, arith}
use Rattle.std.specs.Option.{option_map_or}
use Rattle.std.proofs.lemmas.Option.{same_Some}
use Rattle.pblk_model.specs.declared.script.Command.{Command}
use Rattle.unit_port.specs.Unit.{ModelUnit}
use Rattle.block_port.specs.Port.{Footing, IsSameTarget, ModelPort}
use Rattle.chronicle.specs.Views.{Past}
use Rattle.block_target.specs.Sessions.{SessionView, device}
use Rattle.run_threads.specs.declared.records.Answer.{Answer}
use Rattle.run_threads.specs.declared.records.Records.{Records}
use Rattle.run_threads.specs.Run.{EachThread, WasRun, WereRun}

-- the port of the only thread comes back, and is of the same target
one_thread : (told : List ℕ → ℕ) (script : List (List Command)) (threads : List (List Answer)) (old : ModelPort) (news : List ModelPort)
    → length script ≡ 1 → EachThread (WasRun told) script threads (old ∷ []) news → (new : ModelPort) × (news ≡ new ∷ []) × IsSameTarget old new
one_thread told [] threads old news one h = absurd (omega (arith, one))
one_thread told (cs ∷ (ds ∷ script)) threads old news one h = absurd (omega (arith, one))
one_thread told (cs ∷ []) [] old news one h = absurd h
one_thread told (cs ∷ []) (rows ∷ threads) old [] one h = absurd h
one_thread told (cs ∷ []) (rows ∷ []) old (new ∷ []) one h = (new, refl, h.0.target)
one_thread told (cs ∷ []) (rows ∷ []) old (new ∷ (more ∷ news)) one h = absurd h.1
one_thread told (cs ∷ []) (rows ∷ (more ∷ threads)) old (new ∷ news) one h = absurd h.1

module _ (past : Past) (handed : List ModelUnit) (wear : List (List ℕ)) where
  abbrev port : SessionView → ModelPort
  port t = device past handed wear t

  -- a session keeps its number on one target
  same_number : (first last : SessionView) → IsSameTarget (port first) (port last) → last.worker.number ≡ first.worker.number
  same_number first last same = ap (λ (o : Option Footing). option_map_or (λ (f : Footing). f.seat) o 0) same.footing

  -- the only port is a session's
  only_port : (first : SessionView) (news : List SessionView) (new : ModelPort) → map port news ≡ new ∷ [] → IsSameTarget (port first) new
      → (last : SessionView) × (news ≡ last ∷ []) × (last.worker.number ≡ first.worker.number)
  only_port first [] new are same = absurd (cc)
  only_port first (last ∷ []) new are same =
      let its : new ≡ port last = same_Some new (port last) (ap (λ (ps : List ModelPort). slice_get ps 0) (sym are)) in
      (last, refl, same_number first last (subst (λ (p : ModelPort). IsSameTarget (port first) p) its same))
  only_port first (last ∷ (more ∷ news)) new are same = absurd (cc)

  -- the session of the only thread comes back, with its number
  comes_back : (script : List (List Command)) (records : Records) (first : SessionView) (ports news : List SessionView) → length script ≡ 1
      → ports ≡ first ∷ [] → WereRun script records (map port ports) (map port news)
      → (last : SessionView) × (news ≡ last ∷ []) × (last.worker.number ≡ first.worker.number)
  comes_back script records first ports news one are ran =
      let run = subst (λ (ts : List SessionView). EachThread (WasRun ran.told) script records.threads (map port ts) (map port news)) are ran.threads in
      let back = one_thread ran.told script records.threads (port first) (map port news) one run in
      only_port first news back.0 back.1 back.2

  pub one_comes_back : (script : List (List Command)) (records : Records) (first : SessionView) (ports news : List SessionView) → length script ≡ 1
      → ports ≡ first ∷ [] → WereRun script records (map (device past handed wear) ports) (map (device past handed wear) news) → length news ≡ 1
  one_comes_back script records first ports news one are ran =
      ap (λ (ts : List SessionView). length ts) (comes_back script records first ports news one are ran).1

  pub number_comes_back : (script : List (List Command)) (records : Records) (first last : SessionView) (ports news : List SessionView) → length script ≡ 1
      → ports ≡ first ∷ [] → news ≡ last ∷ [] → WereRun script records (map (device past handed wear) ports) (map (device past handed wear) news)
      → last.worker.number ≡ first.worker.number
  number_comes_back script records first last ports news one are news_are ran =
      let back = comes_back script records first ports news one are ran in
      let same : last ≡ back.0 = same_Some last back.0 (ap (λ (ts : List SessionView). slice_get ts 0) (sym news_are ∙ back.1)) in
      ap (λ (t : SessionView). t.worker.number) same ∙ back.2
