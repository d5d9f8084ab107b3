use Rattle.std.proofs.Common.{◌+◌, ◌%◌, ◌^◌, ap}
use Rattle.zk_traffic.proofs.segment.Segment.fin_number.Goals as goal

pub returns : goal.returns
returns c = λ t. ap (λ n. (n + c.args.self.now.view.payload_len) % 2 ^ 32) (c.payload_number.ensures t)
