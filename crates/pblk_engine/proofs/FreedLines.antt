-- The engine's log once nothing came to it but that lines were freed.
use Rattle.std.proofs.Common.{◌≡◌, ◌++◌, List, [], ◌∷◌, sym, ap, ◌∙◌, append-nil, append_assoc}
use Rattle.pblk_model.proofs.Lists.{all_append}
use Rattle.pblk_world.specs.Events.{Logged}
use Rattle.pblk_engine.specs.Answers.{HasFreed, IsFreeing}

pub freed_none : (log : List Logged) → HasFreed log log
freed_none log = record { more = []; log = sym (append-nil log); only = tt }

pub freed_more : (a b c : List Logged) (l : Logged) → HasFreed a b → c ≡ b ++ l ∷ [] → IsFreeing l → HasFreed a c
freed_more a b c l is next frees = record {
  more = is.more ++ l ∷ [];
  log = next ∙ ap (λ (log : List Logged). log ++ l ∷ []) is.log ∙ append_assoc a is.more (l ∷ []);
  only = all_append IsFreeing is.more (l ∷ []) is.only (frees, tt);
}
