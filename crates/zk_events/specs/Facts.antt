-- What is known of a connection, as the values of its records' fields, in the order of the fields (Zeek manual, conn_id,
-- endpoint and connection).
use Rattle.std.specs.Prelude.{ℕ, List, [], ◌∷◌, ◌++◌, ◌-ℤ◌, codes, decimal, Option, Some}
use Rattle.std.specs.Int.{saturate_signed, w64}
use Rattle.std.specs.Option.{option_map}
use Rattle.zk_base.specs.declared.numbers.ConnNo.{ConnNo}
use Rattle.zk_base.specs.declared.time.Span.{Span}
use Rattle.zk_conn.specs.declared.facts.ConnState.{ConnState}
use Rattle.zk_conn.specs.declared.facts.ConnState.TheVariants as state
use Rattle.zk_conn.specs.declared.facts.EndFacts.{EndFacts}
use Rattle.zk_conn.specs.declared.facts.Facts.{Facts}
use Rattle.zk_text.specs.Port.{proto_name}
use Rattle.zk_tree.specs.Value as plain
use Rattle.zk_tree.specs.Value.{Value}
use Rattle.zk_events.specs.declared.connections.Objects.{Objects}

-- Zeek's names of the states
abbrev pub state_name : ConnState → List ℕ
state_name state.S0 = codes "S0"
state_name state.S1 = codes "S1"
state_name state.S2 = codes "S2"
state_name state.S3 = codes "S3"
state_name state.SF = codes "SF"
state_name state.REJ = codes "REJ"
state_name state.RSTO = codes "RSTO"
state_name state.RSTR = codes "RSTR"
state_name state.RSTOS0 = codes "RSTOS0"
state_name state.RSTRH = codes "RSTRH"
state_name state.SH = codes "SH"
state_name state.SHR = codes "SHR"
state_name state.OTH = codes "OTH"

-- from the first packet to the last one, as far as an interval goes
abbrev pub duration : Facts → Span
duration facts = record { 0 = saturate_signed w64 (facts.last.0 -ℤ facts.start.0) }

abbrev pub uid : ConnNo → List ℕ
uid conn = codes "C" ++ decimal conn.0

abbrev pub id_fields : Facts → List (Option Value)
id_fields facts =
    Some (plain.Addr facts.orig_h) ∷
    Some (plain.Port facts.orig_p facts.proto) ∷
    Some (plain.Addr facts.resp_h) ∷
    Some (plain.Port facts.resp_p facts.proto) ∷
    []

-- `size` is unset where the side has none
abbrev pub end_fields : EndFacts → List (Option Value)
end_fields facts = option_map plain.Count facts.size ∷ Some (plain.Count facts.pkts) ∷ Some (plain.Count facts.ip_bytes) ∷ []

abbrev pub connection_fields : ConnNo → Objects → Facts → List (Option Value)
connection_fields conn objects facts =
    Some (plain.Object objects.id) ∷
    Some (plain.Object objects.orig) ∷
    Some (plain.Object objects.resp) ∷
    Some (plain.Time facts.start) ∷
    Some (plain.Interval (duration facts)) ∷
    Some (plain.Enum (proto_name facts.proto)) ∷
    Some (plain.String (uid conn)) ∷
    Some (plain.String (state_name facts.state)) ∷
    Some (plain.String facts.history) ∷
    []
