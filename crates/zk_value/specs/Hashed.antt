-- What a value gives a hasher.
use Rattle.std.specs.Prelude.{[], ◌∷◌, ◌++◌}
use Rattle.std.specs.Hash as fed
use Rattle.std.specs.Hash.{HashWrites}
use Rattle.zk_base.specs.contracts.network.AddrHash.TheImpl as addr_hash
use Rattle.zk_base.specs.contracts.network.ProtoHash.TheImpl as proto_hash
use Rattle.zk_value.specs.declared.value.Value.{Value}
use Rattle.zk_value.specs.declared.value.Value.TheVariants.{Bool, Count, Int, String, Time, Interval, Addr, Port, Subnet, Enum, Object}

abbrev pub hashed : Value → HashWrites
hashed (Bool truth) = fed.bool truth
hashed (Count count) = fed.u64 count
hashed (Int int) = fed.i64 int
hashed (String bytes) = bytes ∷ []
hashed (Time moment) = fed.i64 moment.0
hashed (Interval span) = fed.i64 span.0
hashed (Addr address) = (addr_hash.ghosts).hash_input address
hashed (Port port proto) = fed.u16 port ++ (proto_hash.ghosts).hash_input proto
hashed (Subnet prefix width) = fed.u32 prefix ++ fed.u8 width
hashed (Enum word) = word ∷ []
hashed (Object number) = fed.u64 number.0
