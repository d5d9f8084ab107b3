use Rattle.std.proofs.Common.{◌<◌, length, None, Some, subst}
use Rattle.zk_units.specs.HttpTurns.{HasNone, OnUsed, OnWaits, ReadsOn, unit_of}
use Rattle.zk_units.specs.Unread.{places_of}
use Rattle.zk_units.proofs.HttpLemmas.{no_turn, turns, turns_none}
use Rattle.zk_units.proofs.http.read.Goals as goal

pub runs-init : goal.runs-init
runs-init c = no_turn c.args.side c.args.http.now c.args.«unread».now c.requires

pub returns-in-Found-clause-reads : goal.returns-in-Found-clause-reads
returns-in-Found-clause-reads c =
    turns c.args.side c.args.http.now c.runs.http c.read_run.new.http c.args.«unread».now c.runs.«unread» c.read_run.new.«unread» (Some c.in-Found.«unit») c.runs.invariant
    (subst (λ r. ReadsOn c.args.side c.runs.http c.read_run.new.http c.runs.«unread» c.read_run.new.«unread» (unit_of r)) c.in-Found.is c.in_ok-unit.ensures.reads)

pub returns-in-Waits-clause-reads : goal.returns-in-Waits-clause-reads
returns-in-Waits-clause-reads c =
    turns c.args.side c.args.http.now c.runs.http c.read_run.new.http c.args.«unread».now c.runs.«unread» c.read_run.new.«unread» None c.runs.invariant
    (subst (λ r. ReadsOn c.args.side c.runs.http c.read_run.new.http c.runs.«unread» c.read_run.new.«unread» (unit_of r)) c.in-Waits.is c.in_ok-unit.ensures.reads)

pub returns-in-Waits-clause-none : goal.returns-in-Waits-clause-none
returns-in-Waits-clause-none c =
    turns_none c.args.side c.args.http.now c.runs.http c.args.«unread».now c.runs.«unread» c.read_run.new.«unread» c.runs.invariant
    (subst (λ r. OnWaits r (HasNone c.args.side c.runs.http c.runs.«unread» c.read_run.new.«unread»)) c.in-Waits.is c.in_ok-unit.ensures.none)

pub runs-preserved : goal.runs-preserved
runs-preserved c =
    turns c.args.side c.args.http.now c.runs.http c.read_run.new.http c.args.«unread».now c.runs.«unread» c.read_run.new.«unread» None c.runs.invariant
    (subst (λ r. ReadsOn c.args.side c.runs.http c.read_run.new.http c.runs.«unread» c.read_run.new.«unread» (unit_of r)) c.in-Used.is c.in_ok-unit.ensures.reads)

pub runs-smaller : goal.runs-smaller
runs-smaller c = subst (λ r. OnUsed r (length (places_of c.read_run.new.«unread») < length (places_of c.runs.«unread»))) c.in-Used.is c.in_ok-unit.ensures.fewer
