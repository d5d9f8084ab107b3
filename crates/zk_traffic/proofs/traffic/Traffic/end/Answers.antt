use Rattle.std.proofs.Common.{◌≡◌, ◌++◌, map, refl, sym, ap, subst, ◌∙◌}
use Rattle.zk_base.specs.NetworkTime.{now}
use Rattle.zk_traffic.specs.Instances.{live_at}
use Rattle.zk_traffic.specs.Items.{removed_at}
use Rattle.zk_traffic.specs.Segments.{segments}
use Rattle.zk_traffic.specs.Standing.{IsTable}
use Rattle.zk_traffic.specs.Table.{IsCurrent}
use Rattle.zk_traffic.specs.Waiting.{items_in}
use Rattle.std.specs.Prelude.{is_err}
use Rattle.zk_traffic.proofs.OpenLemmas.{on_ok_is, stands_ended}
use Rattle.zk_traffic.proofs.traffic.Traffic.end.Goals as goal

pub returns-clause-ended : goal.returns-clause-ended
returns-clause-ended c = on_ok_is c.end-ended.result c.end-ended.ensures.removed (λ u is removed h stands goes_on.
    let limit = h.options.buffer in
    let segs = segments h.options h.records in
    let table = c.args.self.now.connections.table in
    let done = removed limit segs (subst (IsCurrent table limit segs) (sym stands.time_is) (subst (IsTable table limit segs (now h.records)) goes_on stands.table_is)) in
    stands_ended c.args.self.now _ h stands goes_on (c.is_err-self.ensures.value ∙ ap is_err is) refl refl refl refl done.0
    (subst (λ m. items_in c.end-ended.new.self.items ≡ items_in c.args.self.now.connections.items ++ map (removed_at m) (live_at limit segs m)) stands.time_is done.1)
    c.end-ended.ensures.news)
