use Rattle.std.proofs.Common.{sym}
use Rattle.ocssd_geometry.specs.Numbers.{numbers_of}
use Rattle.pblk_model.proofs.GeometryBytes.{read_accepted}
use Rattle.ocssd_geometry.proofs.Acceptance.{HasCounts, accepted_counts, read_short, read_refused}
use Rattle.ocssd_geometry.proofs.geometry.Geometry.read.Goals as goal
use Rattle.ocssd_geometry.proofs.geometry.Geometry.read.Goals.{In-None}

counts : (c : In-None) → HasCounts (numbers_of c.in_bytes-geometry.result)
counts c = accepted_counts _ (sym c.in-None.ensures)

pub returns-then-bytes-ne4096-clause-read : goal.returns-then-bytes-ne4096-clause-read
returns-then-bytes-ne4096-clause-read c = read_short c.args.bytes.now c.if-bytes-ne4096.true

pub returns-in-None-clause-read : goal.returns-in-None-clause-read
returns-in-None-clause-read c = read_accepted c.args.bytes.now _ c.if-bytes-ne4096.false c.in_bytes-geometry.ensures c.in-None.ensures

pub returns-in-Some-clause-read : goal.returns-in-Some-clause-read
returns-in-Some-clause-read c = read_refused c.args.bytes.now _ _ c.if-bytes-ne4096.false c.in_bytes-geometry.ensures c.in-Some.ensures

pub returns-in-None-clause-groups : goal.returns-in-None-clause-groups
returns-in-None-clause-groups c = (counts c).groups

pub returns-in-None-clause-pus : goal.returns-in-None-clause-pus
returns-in-None-clause-pus c = (counts c).pus

pub returns-in-None-clause-chunks : goal.returns-in-None-clause-chunks
returns-in-None-clause-chunks c = (counts c).chunks

pub returns-in-None-clause-clba : goal.returns-in-None-clause-clba
returns-in-None-clause-clba c = (counts c).clba

pub returns-in-None-clause-ws_min : goal.returns-in-None-clause-ws_min
returns-in-None-clause-ws_min c = (counts c).ws_min

pub returns-in-None-clause-ws_opt : goal.returns-in-None-clause-ws_opt
returns-in-None-clause-ws_opt c = (counts c).ws_opt
