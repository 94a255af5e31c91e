use Rattle.std.proofs.Common.{◌≡◌, ◌+◌, ◌*◌, ◌%◌, ◌^◌, ◌++◌, ◌∷◌, [], List, map, refl, sym, ap, ◌∙◌, arith}
use Rattle.std.specs.List.{range_with_len}
use Rattle.std.proofs.lemmas.List.FromFn.{map-range_with_len_more}
use native.Mathlib.Nat.{mod-add-mod}
use Rattle.pblk_model.specs.declared.script.Command.{Command}
use Rattle.load_maker.specs.Loads.{command_of, drawn, load_command, next, seed, state}
use Rattle.load_maker.proofs.LoadFacts.{state_on}
use Rattle.load_maker.proofs.make_thread.Goals as goal

pub loop-index-init : goal.loop-index-init
unfolding state
loop-index-init c = record { drawn = refl; made = c.new-commands.ensures }

pub loop-index-preserved : goal.loop-index-preserved
loop-index-preserved c =
    let f = command_of c.args.number c.args.capacity c.args.thread in
    let index = c.loop-index.index in
    let first = seed c.args.number c.args.thread in
    let on : (c.loop-index.x * 6364136223846793005 % 2 ^ 64 + 1442695040888963407) % 2 ^ 64 ≡ state first (index + 1) =
    mod-add-mod (c.loop-index.x * 6364136223846793005) (2 ^ 64) 1442695040888963407 ∙ ap next c.loop-index.invariant.drawn ∙ sym (state_on first index) in
    let made : c.make_command.result ≡ f index = c.make_command.ensures ∙ ap (λ x. load_command c.args.capacity c.args.thread index (drawn x)) on in
    record {
      drawn = on;
      made = c.in_ok-push.ensures.ok ∙ ap (λ (xs : List Command). xs ++ c.make_command.result ∷ []) c.loop-index.invariant.made
          ∙ ap (λ (x : Command). map f (range_with_len 0 index) ++ x ∷ []) made
          ∙ sym (map-range_with_len_more f 0 index index (omega arith));
    }
