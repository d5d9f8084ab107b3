-- The order of keys, and the test whether they are the same.
use Rattle.std.proofs.Common.{◌≡◌, Bool, true, false, ◌&&◌, eqb, refl, sym, ap, ◌∙◌}
use Rattle.std.specs.declared.cmp.Ordering.{Ordering}
use Rattle.std.specs.declared.cmp.Ordering.TheVariants.{Less, Equal, Greater}
use Rattle.std.specs.Cmp.{unsigned_ties}
use Rattle.std.specs.Ordering.{is_eq, ordering_then}
use Rattle.std.proofs.lemmas.Bool.{and_parts, eq-eqb, eqb-true, false≢true}
use Rattle.zk_base.specs.declared.network.Addr.{Addr}
use Rattle.zk_base.specs.declared.network.Addr.TheVariants.{V4, V6}
use Rattle.zk_base.specs.declared.network.Proto.{Proto}
use Rattle.zk_base.specs.declared.network.Proto.TheVariants.{Tcp, Udp}
use Rattle.zk_base.specs.contracts.network.AddrOrd.TheImpl as address_ord
use Rattle.zk_base.specs.contracts.network.ProtoOrd.TheImpl as proto_ord
use Rattle.zk_conn.specs.declared.key.Endpoint.{Endpoint}
use Rattle.zk_conn.specs.declared.key.Key.{Key}
use Rattle.zk_conn.specs.Segment.{high_end, low_end, same_address, same_endpoint, same_proto, same_key}
use Rattle.zk_conn.specs.Table.{key_cmp}

address_ties : (a b : Addr) → is_eq ((address_ord.ghosts).cmp a b) ≡ same_address a b
address_ties (V4 a) (V4 b) = sym (unsigned_ties a b)
address_ties (V6 a) (V6 b) = sym (unsigned_ties a b)
address_ties (V4 a) (V6 b) = refl
address_ties (V6 a) (V4 b) = refl

proto_ties : (a b : Proto) → is_eq ((proto_ord.ghosts).cmp a b) ≡ same_proto a b
proto_ties Tcp Tcp = refl
proto_ties Udp Udp = refl
proto_ties Tcp Udp = refl
proto_ties Udp Tcp = refl

both : (o p : Ordering) (x y : Bool) → is_eq o ≡ x → is_eq p ≡ y → is_eq (ordering_then o p) ≡ (x && y)
both Less p x y first second = ap (λ b. b && y) first
both Equal p x y first second = second ∙ ap (λ b. b && y) first
both Greater p x y first second = ap (λ b. b && y) first

-- the same five tests in the order of a key
pub in_order : (low_port high_port proto low high : Bool) → (low_port && (high_port && (proto && (low && high)))) ≡ (proto && ((low && low_port) && (high && high_port)))
in_order true true true true true = refl
in_order true true true true false = refl
in_order true true true false high = refl
in_order true true false low high = refl
in_order true false true true true = refl
in_order true false true true false = refl
in_order true false true false high = refl
in_order true false false low high = refl
in_order false high_port true true high = refl
in_order false high_port true false high = refl
in_order false high_port false low high = refl

-- two keys are equal in the order of the tree of keys exactly where they are the same
pub is_eq-key_cmp : (a b : Key) → is_eq (key_cmp a b) ≡ same_key a b
unfolding key_cmp
is_eq-key_cmp a b =
    both _ _ _ _ (sym (unsigned_ties a.low_port b.low_port))
    (both _ _ _ _ (sym (unsigned_ties a.high_port b.high_port))
    (both _ _ _ _ (proto_ties a.proto b.proto) (both _ _ _ _ (address_ties a.low_addr b.low_addr) (address_ties a.high_addr b.high_addr))))
    ∙ in_order (eqb a.low_port b.low_port) (eqb a.high_port b.high_port) (same_proto a.proto b.proto) (same_address a.low_addr b.low_addr) (same_address a.high_addr b.high_addr)

same_address_is : (a b : Addr) → same_address a b ≡ true → a ≡ b
same_address_is (V4 a) (V4 b) same = ap V4 (eqb-true a b same)
same_address_is (V6 a) (V6 b) same = ap V6 (eqb-true a b same)
same_address_is (V4 a) (V6 b) same = absurd (false≢true same)
same_address_is (V6 a) (V4 b) same = absurd (false≢true same)

same_proto_is : (a b : Proto) → same_proto a b ≡ true → a ≡ b
same_proto_is Tcp Tcp same = refl
same_proto_is Udp Udp same = refl
same_proto_is Tcp Udp same = absurd (false≢true same)
same_proto_is Udp Tcp same = absurd (false≢true same)

same_endpoint_is : (a b : Endpoint) → same_endpoint a b ≡ true → a ≡ b
same_endpoint_is a b same =
    let parts = and_parts (same_address a.addr b.addr) (eqb a.port b.port) same in
    ap (λ x. record a { addr = x }) (same_address_is a.addr b.addr parts.0) ∙ ap (λ x. record b { port = x }) (eqb-true a.port b.port parts.1)

-- keys that are the same are one key
pub same_key_is : (a b : Key) → same_key a b ≡ true → a ≡ b
same_key_is a b same =
    let proto = and_parts (same_proto a.proto b.proto) _ same in
    let ends = and_parts (same_endpoint (low_end a) (low_end b)) (same_endpoint (high_end a) (high_end b)) proto.1 in
    ap (λ x. record a { proto = x }) (same_proto_is a.proto b.proto proto.0)
    ∙ ap (λ (e : Endpoint). record a { proto = b.proto; low_port = e.port; low_addr = e.addr }) (same_endpoint_is (low_end a) (low_end b) ends.0)
    ∙ ap (λ (e : Endpoint). record b { high_port = e.port; high_addr = e.addr }) (same_endpoint_is (high_end a) (high_end b) ends.1)

same_address-refl : (a : Addr) → same_address a a ≡ true
same_address-refl (V4 a) = eq-eqb a a refl
same_address-refl (V6 a) = eq-eqb a a refl

same_proto-refl : (a : Proto) → same_proto a a ≡ true
same_proto-refl Tcp = refl
same_proto-refl Udp = refl

same_endpoint-refl : (a : Endpoint) → same_endpoint a a ≡ true
same_endpoint-refl a = ap (λ b. b && eqb a.port a.port) (same_address-refl a.addr) ∙ eq-eqb a.port a.port refl

-- each key is the same as itself
pub same_key-refl : (a : Key) → same_key a a ≡ true
same_key-refl a =
    ap (λ b. b && (same_endpoint (low_end a) (low_end a) && same_endpoint (high_end a) (high_end a))) (same_proto-refl a.proto)
    ∙ ap (λ b. b && same_endpoint (high_end a) (high_end a)) (same_endpoint-refl (low_end a)) ∙ same_endpoint-refl (high_end a)
