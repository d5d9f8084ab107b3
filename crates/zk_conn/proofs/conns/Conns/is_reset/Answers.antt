use Rattle.std.proofs.Common.{sym, ap, ◌∙◌, ◌||◌}
use Rattle.zk_base.specs.declared.network.Side.TheVariants.{Orig, Resp}
use Rattle.zk_conn.specs.Histories.{latest}
use Rattle.zk_conn.specs.Instance.{originator, end_of}
use Rattle.zk_conn.specs.State.{is_rst}
use Rattle.zk_conn.proofs.StandingLemmas.{has_live, end_live}
use Rattle.zk_conn.proofs.conns.Conns.is_reset.Goals as goal

pub returns : goal.returns
returns c = λ told key first stands live begins.
    let has = has_live c.args.self.now told key c.args.conn c.in-Some.slot c.index.result.now first
    (sym c.slot_numbered.ensures.slot ∙ c.in-Some.is) c.index.ensures stands live begins in
    let orig = end_live first c.index.result.now Orig _ has in
    let resp = end_live first c.index.result.now Resp _ has in
    c.is_reset.ensures ∙ ap (λ e. is_rst e || is_rst c.index.result.now.resp.end) orig ∙ ap (λ e. is_rst (end_of (originator first.packet) Orig (latest key told)) || is_rst e) resp
