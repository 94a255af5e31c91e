-- The entries of a placer wait in the log's order.
use Rattle.std.proofs.Common.{◌≡◌, ℕ, List, [], ◌∷◌, ◌++◌, refl, sym, ap}
use Rattle.pblk_model.specs.declared.shape.Shape.{Shape}
use Rattle.pblk_world.specs.Events.{Logged}
use Rattle.pblk_world.specs.EngineLog.{Taken}
use Rattle.pblk_world.specs.Fronts as fronts
use Rattle.stripe_placer.specs.Entries.{waiting}
use Rattle.core_laws.specs.PlacerOf.{positions_of, lost_entries, fresh_entries, entries_of}

pub positions_both : (ts us : List Taken) → positions_of (ts ++ us) ≡ positions_of ts ++ positions_of us
positions_both [] us = refl
positions_both (t ∷ ts) us = ap (λ qs. t.entry.position ∷ qs) (positions_both ts us)

pub waiting_alike : (s : Shape) (log : List Logged) (pad : ℕ) → waiting (entries_of s log pad) ≡ positions_of (fronts.waiting s log)
waiting_alike s log pad = sym (positions_both (lost_entries s log) (fresh_entries s log))
