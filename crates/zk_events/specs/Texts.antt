-- The texts among what is known of a connection.
use Rattle.std.specs.Prelude.{◌≡◌}
use Rattle.zk_base.specs.declared.numbers.ConnNo.{ConnNo}
use Rattle.zk_conn.specs.declared.facts.Facts.{Facts}
use Rattle.zk_text.specs.Port.{proto_name}
use Rattle.zk_tree.specs.Value as plain
use Rattle.zk_value.specs.Plain.{value_of}
use Rattle.zk_events.specs.declared.facts.Texts.{Texts}
use Rattle.zk_events.specs.Facts.{state_name, uid}

pub record AreTexts (conn : ConnNo) (facts : Facts) (texts : Texts) : Type 0 where
  pub proto : value_of texts.proto ≡ plain.Enum (proto_name facts.proto)
  pub uid_is : value_of texts.uid ≡ plain.String (uid conn)
  pub state : value_of texts.state ≡ plain.String (state_name facts.state)
  pub history : value_of texts.history ≡ plain.String facts.history
