use Rattle.zk_item_laws.proofs.Connections.{each_is_connection, no_others}
use Rattle.zk_item_laws.proofs.Seen.{packets_are_seen}
use Rattle.zk_item_laws.proofs.each_is_a_connection.Goals as goal

pub returns : goal.returns
returns c = record { begun = each_is_connection; others = no_others; packets = packets_are_seen }
