use Rattle.std.proofs.Common.{refl, subst}
use Rattle.zk_conn.specs.Table.{key_cmp, Removes}
use Rattle.zk_conn.proofs.TableLemmas.{index_forgotten, one_value}
use Rattle.zk_conn.proofs.conns.Conns.remove.Goals as goal

pub returns-clause-removes : goal.returns-clause-removes
unfolding key_cmp
returns-clause-removes c = λ was there.
    let old = c.args.self.now in
    subst (Removes old (record old { slots = c.remove-instance.new.self; keys = c.remove.new.self; numbers = c.remove-2.new.self; removals = c.forget.new.self }) c.args.slot)
    (one_value there c.remove-instance.ensures.value)
    (record {
      gone = c.remove-instance.ensures.updates.changed;
      others = c.remove-instance.ensures.updates.others;
      key_gone = c.remove.ensures.updates.1;
      other_keys = c.remove.ensures.updates.2;
      number_gone = c.remove-2.ensures.updates.1;
      other_numbers = c.remove-2.ensures.updates.2;
      begun_is = refl;
      index = index_forgotten old.slots c.remove-instance.new.self old.removals c.forget.new.self c.args.slot c.remove-instance.ensures.updates.changed
          c.remove-instance.ensures.updates.others c.forget.ensures.index c.forget.ensures.gone c.forget.ensures.others;
    })
