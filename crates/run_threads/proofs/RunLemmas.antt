-- Lemmas on the words of Run.
use Rattle.std.proofs.Common.{List, [], ap, arith, length, refl, replicate, sym, ℕ, ◌++◌, ◌+◌, ◌∙◌, ◌∷◌, ◌≡◌}
use Rattle.std.specs.List.{flat_map}
use Rattle.std.proofs.lemmas.List.{append-nil, append_assoc, length-append, length-replicate}
use Rattle.std.proofs.lemmas.List.Concat.{flat_map-append}
use Rattle.block_port.proofs.OwnLemmas.{length_placed}
use Rattle.block_port.proofs.PortLemmas.{learns_more}
use Rattle.block_port.specs.Own.{lines_of, placed_from}
use Rattle.block_port.specs.Port.{Learns, ModelPort, written_by}
use Rattle.pblk_model.specs.declared.script.Command.{Command}
use Rattle.pblk_model.specs.declared.script.Command.TheVariants.{Write}
use Rattle.pblk_model.specs.History.{tag_sector}
use Rattle.run_threads.specs.Run.{Answers, Runs, faults_in, faults_of, own_in, own_of, worns_in, worns_of, written_of}
use Rattle.run_threads.specs.declared.records.Answer.{Answer}
use Rattle.run_threads.specs.declared.records.Answer.TheVariants.{Placed}

pub run_learns : (told : List ℕ → ℕ) (cs : List Command) (rows : List Answer) (old new : ModelPort) → Runs told old cs rows new → Learns old new
run_learns told [] [] old new h = rw h (record { more = []; known = sym (append-nil old.known); rise = omega arith; flushed = omega arith })
run_learns told [] (a ∷ rows) old new h = absurd h
run_learns told (c ∷ cs) [] old new h = absurd h
run_learns told (c ∷ cs) (a ∷ rows) old new h = learns_more old h.0 new h.1.learns (run_learns told cs rows h.0 new h.2)

pub run_faults : (told : List ℕ → ℕ) (cs : List Command) (rows : List Answer) (old new : ModelPort) → Runs told old cs rows new
    → new.faults ≡ old.faults ++ faults_in rows
run_faults told [] [] old new h = rw h (sym (append-nil old.faults))
run_faults told [] (a ∷ rows) old new h = absurd h
run_faults told (c ∷ cs) [] old new h = absurd h
run_faults told (c ∷ cs) (a ∷ rows) old new h = run_faults told cs rows h.0 new h.2 ∙ ap (λ xs. xs ++ faults_in rows) h.1.faults
    ∙ append_assoc old.faults (faults_of a) (faults_in rows)

-- What a port has written.

own_written : (size : ℕ) (c : Command) (a : Answer) → length (flat_map lines_of (own_of size c a)) ≡ written_of c a
own_written size (Write lba count tag) (Placed place) =
    ap length (append-nil (placed_from place.first lba (replicate count (tag_sector size tag))))
    ∙ length_placed place.first lba (replicate count (tag_sector size tag)) ∙ length-replicate count (tag_sector size tag)
own_written size c a = refl

written_more : (told : List ℕ → ℕ) (old : ModelPort) (c : Command) (a : Answer) (new : ModelPort) → Answers told old c a new
    → written_by new ≡ written_by old + written_of c a
written_more told old c a new h =
    ap (λ ws. length (flat_map lines_of ws)) h.own ∙ ap length (flat_map-append lines_of old.own (own_of old.sector c a))
    ∙ length-append (flat_map lines_of old.own) (flat_map lines_of (own_of old.sector c a))
    ∙ ap (λ n. written_by old + n) (own_written old.sector c a)

pub run_worns : (told : List ℕ → ℕ) (cs : List Command) (rows : List Answer) (old new : ModelPort) → Runs told old cs rows new
    → new.worns ≡ old.worns ++ worns_in (written_by old) cs rows
run_worns told [] [] old new h = rw h (sym (append-nil old.worns))
run_worns told [] (a ∷ rows) old new h = absurd h
run_worns told (c ∷ cs) [] old new h = absurd h
run_worns told (c ∷ cs) (a ∷ rows) old new h =
    run_worns told cs rows h.0 new h.2 ∙ ap (λ xs. xs ++ worns_in (written_by h.0) cs rows) h.1.worns
    ∙ append_assoc old.worns (worns_of (written_by old) c a) (worns_in (written_by h.0) cs rows)
    ∙ ap (λ n. old.worns ++ (worns_of (written_by old) c a ++ worns_in n cs rows)) (written_more told old c a h.0 h.1)

pub run_own : (told : List ℕ → ℕ) (cs : List Command) (rows : List Answer) (old new : ModelPort) → Runs told old cs rows new
    → new.own ≡ old.own ++ own_in old.sector cs rows
run_own told [] [] old new h = rw h (sym (append-nil old.own))
run_own told [] (a ∷ rows) old new h = absurd h
run_own told (c ∷ cs) [] old new h = absurd h
run_own told (c ∷ cs) (a ∷ rows) old new h =
    run_own told cs rows h.0 new h.2 ∙ ap (λ (size : ℕ). h.0.own ++ own_in size cs rows) h.1.target.sector ∙ ap (λ xs. xs ++ own_in old.sector cs rows) h.1.own
    ∙ append_assoc old.own (own_of old.sector c a) (own_in old.sector cs rows)
