use Rattle.std.proofs.Common.{sym, ap, ◌∙◌}
use Rattle.zk_conn.specs.declared.key.Endpoint.{Endpoint}
use Rattle.zk_conn.specs.declared.key.Key.{Key}
use Rattle.zk_conn.specs.Holds.{responder_in}
use Rattle.zk_conn.proofs.StandingLemmas.{has_live}
use Rattle.zk_conn.proofs.conns.Conns.service.Goals as goal

pub returns : goal.returns
returns c = λ told key first stands live begins.
    let has = has_live c.args.self.now told key c.args.conn c.in-Some.slot c.index-instance.result.now first
    (sym c.slot_numbered.ensures.slot ∙ c.in-Some.is) c.index-instance.ensures stands live begins in
    ap (λ (e : Endpoint). (c.index-instance.result.now.key.proto, e.port)) c.responder.ensures
    ∙ ap (λ (k : Key). (k.proto, (responder_in c.index-instance.result.now).port)) has.key_is
    ∙ ap (λ (e : Endpoint). (first.packet.proto, e.port)) has.responder_is
