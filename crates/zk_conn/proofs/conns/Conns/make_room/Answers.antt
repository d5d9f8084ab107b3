use Rattle.std.proofs.Common.{refl, sym, ap, ◌∙◌}
use Rattle.slab.specs.Slab.{get}
use Rattle.zk_conn.specs.Removals.{filing_at}
use Rattle.zk_conn.proofs.conns.Conns.make_room.Goals as goal

pub returns-clause-same : goal.returns-clause-same
returns-clause-same c = record {
  slots_are = λ slot. ap (λ s. get s slot) c.reserve.ensures.rest_kept;
  keys_are = λ key. refl;
  numbers_are = λ number. refl;
  begun_is = refl;
  index = λ index. record {
    index = c.make_room.ensures.index index.index;
    filed = λ slot. c.make_room.ensures.same slot ∙ index.filed slot ∙ sym (ap (λ s. filing_at s slot) c.reserve.ensures.rest_kept);
  };
}
