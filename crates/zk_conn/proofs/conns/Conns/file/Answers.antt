use Rattle.std.proofs.Common.{Some, refl, ap, ◌∙◌}
use Rattle.zk_conn.proofs.TableLemmas.{files_written}
use Rattle.zk_conn.proofs.conns.Conns.file.Goals as goal

pub returns : goal.returns
returns c = λ was there.
    let old = c.args.self.now in
    files_written old (record old { slots = _; removals = c.file.new.self })
    c.args.slot was c.index_mut-instance.result.now _ there c.index_mut-instance.ensures.value
    (record { key_is = refl; number_is = refl; originator_is = refl; responder_is = refl; start_is = refl; last_is = refl; orig_is = refl; resp_is = refl; history_is = refl })
    c.removal-instance.ensures refl refl refl refl refl
    c.file.ensures.index (λ place. c.file.ensures.filed place ∙ ap Some c.filing-filing.ensures) c.file.ensures.others
