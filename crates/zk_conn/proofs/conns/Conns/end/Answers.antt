use Rattle.std.proofs.Common.{subst}
use Rattle.slab.specs.Slab.{get}
use Rattle.zk_conn.specs.declared.conns.Removed.{Removed}
use Rattle.zk_conn.specs.Histories.{IsLive}
use Rattle.zk_conn.proofs.RemoveLemmas.{some_there, none_live, is_ending, ended_live}
use Rattle.zk_conn.proofs.conns.Conns.end.Goals as goal

pub returns-in_default-clause-none : goal.returns-in_default-clause-none
returns-in_default-clause-none c = λ told stands. none_live c.args.self.now told stands (c.in_default.ensures.none stands.table)

pub returns-clause-removed : goal.returns-clause-removed
returns-clause-removed c = λ told stands.
    let was = some_there (get c.args.self.now.slots c.in-Some.slot) c.in-Some.ensures.some.there in
    is_ending c.args.self.now told c.in-Some.slot was.0 c.args.last c.remove.result stands c.in-Some.ensures.some was.1 (c.remove.ensures.removed was.0 was.1)

pub returns-clause-taken : goal.returns-clause-taken
returns-clause-taken c = λ told key stands live.
    let was = some_there (get c.args.self.now.slots c.in-Some.slot) c.in-Some.ensures.some.there in
    ended_live c.args.self.now c.remove.new.self told key c.in-Some.slot was.0 c.args.last stands was.1 (c.remove.ensures.removes was.0 was.1)
    (subst (λ (r : Removed). IsLive told key r.conn.0) (c.remove.ensures.removed was.0 was.1) live)
