use Rattle.std.proofs.Common.{ap, ◌∙◌}
use Rattle.std.specs.Prelude.{is_err}
use Rattle.zk_traffic.proofs.OpenLemmas.{on_ok_is}
use Rattle.zk_traffic.proofs.traffic.Traffic.packet.Goals as goal

pub returns-clause-taken : goal.returns-clause-taken
returns-clause-taken c = on_ok_is c.take-taken.result c.take-taken.ensures.taken (λ u is taken h stands goes_on.
    let s = taken h stands goes_on in
    record {
      works = c.is_err-self.ensures.value ∙ ap is_err is;
      options_are = s.options_are;
      link_is = s.link_is;
      time_is = s.time_is;
      frags_are = s.frags_are;
      table_is = s.table_is;
      items_are = s.items_are;
      none_fresh = s.none_fresh;
      fresh_is = s.fresh_is;
    })
