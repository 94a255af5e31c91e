-- The heart of a mount that has just begun, once it settled.
use Rattle.std.proofs.Common.{◌≡◌, ℕ, List, sym, subst, ap, ◌∙◌}
use Rattle.std.proofs.lemmas.Option.{same_Some}
use Rattle.atomic_table.specs.Seated.{TableId}
use Rattle.pblk_model.specs.declared.found.Found.{Found}
use Rattle.pblk_model.specs.Image.{Image}
use Rattle.pblk_world.specs.EngineLog.{Begun}
use Rattle.pblk_world.specs.World.{Logs}
use Rattle.world_laws.specs.MountBeginnings.{beginning_of}
use Rattle.step_laws.specs.Whole.{knows_all}
use Rattle.unit_port.specs.Unit.{ModelUnit}
use Rattle.write_ring.specs.declared.view.Key.{Key}
use Rattle.chronicle.specs.Handles.{AuthorView, first_author}
use Rattle.chronicle.specs.Prefixes.{AreLegalLogs, logs_of}
use Rattle.chronicle.specs.Views.{Past}
use Rattle.pblk_engine.specs.Asks.{IsRaisedByVictims}
use Rattle.pblk_engine.specs.Beginnings.{IsFirstPast}
use Rattle.pblk_engine.specs.Hearts.{HasDecided, IsHeartOf, IsRingFor, IsSettled, Parts}
use Rattle.pblk_engine.specs.Mounts.{IsMounted}
use Rattle.pblk_engine.proofs.Beginnings.{first_begun}

module _ (past : Past) (key : Key) (handed : List ModelUnit) (wear : List (List ℕ)) (mounted : IsMounted past key handed wear) where
  -- its ring is made for drives like its own
  pub ring_for : IsRingFor past.image key
  ring_for = record {
    accepted = mounted.accepted;
    fit = mounted.fit;
    size = mounted.size;
    reserve = mounted.reserve;
    sector = mounted.sector;
    capacity = mounted.capacity;
  }

  -- and begins where the mount does
  pub first_is : (f : Found) → IsFirstPast past f → key.first ≡ (beginning_of f).first
  first_is f is =
      mounted.first
      ∙ ap (λ (b : Begun). b.beginning.first)
      (same_Some mounted.beginning (record { beginning = beginning_of f; knows = knows_all past.image.shape is.before })
      (sym mounted.has_begun ∙ first_begun past f is))

  pub held_first : (logs table place : TableId) (h : Parts) → HasDecided (first_author logs past 0) h.author
      → AreLegalLogs h.author.past.image h.author.known → place ≡ table → h.intake.key ≡ key
      → IsSettled h.author.past.image (logs_of h.author.known) h.core h.intake → IsHeartOf logs table past key place h
  held_first logs table place h decided legal its_ring its_key settled = record {
    of = ap (λ (a : AuthorView). a.chronicle) decided.same;
    engine = record { number = ap (λ (a : AuthorView). a.number) decided.same; owned = ap (λ (a : AuthorView). a.owned) decided.same };
    since = since;
    legal = subst (λ (p : Past). AreLegalLogs p.image h.author.known) since legal;
    begun = decided.keeps;
    its_ring = its_ring;
    its_key = its_key;
    fits = ring_for;
    settled = subst (λ (p : Past). IsSettled p.image (logs_of h.author.known) h.core h.intake) since settled;
  }
    where
      since : h.author.past ≡ past
      since = ap (λ (a : AuthorView). a.past) decided.same

-- no flush asked for pads yet
pub none_asked : (i j : Image) (logs : Logs) (old new : ℕ) → j ≡ i → old ≡ 0 → IsRaisedByVictims j logs old new → IsRaisedByVictims i logs 0 new
none_asked i j logs old new image none is =
    subst (λ (x : Image). IsRaisedByVictims x logs 0 new) image (subst (λ n. IsRaisedByVictims j logs n new) none is)
