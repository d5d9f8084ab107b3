-- What the engine's map of objects knows.
use Rattle.std.specs.BTreeMap.{get}
use Rattle.std.specs.Ordering.{nat_cmp}
use Rattle.zk_events.specs.declared.connections.Connections.{Connections}
use Rattle.zk_events.specs.Known.{Known}

abbrev pub known_in : Connections → Known
known_in connections = λ number. get nat_cmp connections.objects number
