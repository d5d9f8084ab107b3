use Rattle.std.proofs.Common.{refl, arith}
use Rattle.zk_traffic.proofs.StreamLemmas.{drained}
use Rattle.zk_traffic.proofs.streams.catch_up.Goals as goal

pub returns-then-front : goal.returns-then-front
returns-then-front c = λ base limit told stands within.
    drained c.args.conn c.args.side base limit told c.args.front c.args.front c.args.stream.now c.args.news.now c.args.news.now c.args.news.now c.args.readers.now c.args.readers.now c.args.readers.now
    (omega (arith, within, c.front.ensures base limit c.args.front told stands)) stands refl (λ n adds. adds) refl (λ r gets. gets)
