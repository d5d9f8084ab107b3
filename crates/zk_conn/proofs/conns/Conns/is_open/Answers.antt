use Rattle.std.proofs.Common.{sym, ap, ◌∙◌}
use Rattle.zk_conn.specs.State.{is_open}
use Rattle.zk_conn.proofs.StandingLemmas.{has_live, end_live}
use Rattle.zk_conn.proofs.conns.Conns.is_open.Goals as goal

pub returns : goal.returns
returns c = λ told key first stands live begins.
    let has = has_live c.args.self.now told key c.args.conn c.in-Some.slot c.index.result.now first
    (sym c.slot_numbered.ensures.slot ∙ c.in-Some.is) c.index.ensures stands live begins in
    c.is_open.ensures ∙ ap is_open (end_live first c.index.result.now c.args.side _ has)
