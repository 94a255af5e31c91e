use Rattle.std.proofs.Common.{◌-◌, ◌^◌, List, None, length, min, refl, sym, ap}
use Rattle.pblk_model.specs.UnitLog.{UnitEvent}
use Rattle.unit_port.specs.Armed.{unarmed}
use Rattle.ocssd_drive.specs.Fields.{last_arms}
use Rattle.ocssd_drive.proofs.Kept.{kept_anew, idle_is_tally}
use Rattle.ocssd_drive.proofs.journal.Journal.new.Goals as goal

pub invariant_of-result : goal.invariant_of-result
invariant_of-result c =
    kept_anew c.in_ok-log.log 0 c.in_ok-arms.arms _ None (unarmed 0) (ap last_arms c.in_ok-arms.ensures) (sym (ap length c.in_ok-log.ensures))
    (sym (ap (λ (log : List UnitEvent). min (length log) (2 ^ 64 - 1)) c.in_ok-log.ensures))
    (idle_is_tally _ _ c.idle.ensures) (idle_is_tally _ _ c.idle-2.ensures) (idle_is_tally _ _ c.idle-3.ensures) refl tt refl

pub returns : goal.returns
returns c = rw (c.in_ok-log.ensures, c.in_ok-arms.ensures) refl
