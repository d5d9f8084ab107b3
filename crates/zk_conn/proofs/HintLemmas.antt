-- A slot that is found at a key's hint.
use Rattle.std.proofs.Common.{◌≡◌, ℕ, Bool, true, cond, ◌&&◌, Option, None, Some, is_some, eqb, refl, sym, ap, ◌∙◌}
use Rattle.std.specs.Option.{option_map}
use Rattle.std.specs.Prelude.{Result, Ok, Err, IfOk, OnErr}
use Rattle.std.proofs.lemmas.Bool.{false≢true}
use Rattle.slab.specs.Slab.{get}
use Rattle.zk_base.specs.declared.network.Addr.{Addr}
use Rattle.zk_base.specs.declared.network.Addr.TheVariants.{V4, V6}
use Rattle.zk_base.specs.declared.network.Proto.{Proto}
use Rattle.zk_base.specs.declared.network.Proto.TheVariants.{Tcp, Udp}
use Rattle.zk_base.specs.contracts.network.AddrPartialEq.TheImpl as address_partial_eq
use Rattle.zk_base.specs.contracts.network.ProtoPartialEq.TheImpl as proto_partial_eq
use Rattle.zk_conn.specs.declared.conns.Conns.{Conns}
use Rattle.zk_conn.specs.declared.instance.Instance.{Instance}
use Rattle.zk_conn.specs.declared.key.Key.{Key}
use Rattle.zk_conn.specs.Segment.{same_address, same_proto, same_key}
use Rattle.zk_conn.specs.Table.{IsTable, has_key, kept, key_eq, slot_of}
use Rattle.zk_conn.proofs.KeyLemmas.{in_order, same_key_is}

both : {x y u v : Bool} → x ≡ y → u ≡ v → (x && u) ≡ (y && v)
both {x} {y} {u} {v} first second = ap (λ b. b && u) first ∙ ap (λ b. y && b) second

address_eq : (a b : Addr) → (address_partial_eq.ghosts).eq a b ≡ same_address a b
address_eq (V4 a) (V4 b) = refl
address_eq (V6 a) (V6 b) = refl
address_eq (V4 a) (V6 b) = refl
address_eq (V6 a) (V4 b) = refl

proto_eq : (a b : Proto) → (proto_partial_eq.ghosts).eq a b ≡ same_proto a b
proto_eq Tcp Tcp = refl
proto_eq Udp Udp = refl
proto_eq Tcp Udp = refl
proto_eq Udp Tcp = refl

-- the test of keys is whether they are the same
key_eq-same : (a b : Key) → key_eq a b ≡ same_key a b
unfolding key_eq
key_eq-same a b =
    both refl (both refl (both (proto_eq a.proto b.proto) (both (address_eq a.low_addr b.low_addr) (address_eq a.high_addr b.high_addr))))
    ∙ in_order (eqb a.low_port b.low_port) (eqb a.high_port b.high_port) (same_proto a.proto b.proto) (same_address a.low_addr b.low_addr) (same_address a.high_addr b.high_addr)

-- a slot whose instance has the key is the one that the key finds
pub hint_found : (conns : Conns) (key : Key) (slot : ℕ) → IsTable conns → has_key (get conns.slots slot) key ≡ true → slot_of conns key ≡ Some slot
unfolding slot_of
hint_found conns key slot table has = by_instance (get conns.slots slot) refl has
  where
    by_instance : (o : Option Instance) → get conns.slots slot ≡ o → has_key o key ≡ true → slot_of conns key ≡ Some slot
    by_instance None none is = absurd (false≢true is)
    by_instance (Some instance) there is =
        ap (kept conns.slots) (table.keys.found slot key (ap (option_map (λ (i : Instance). i.key)) there
        ∙ ap Some (same_key_is instance.key key (sym (key_eq-same instance.key key) ∙ is))))
        ∙ ap (λ p. cond (is_some p) (Some slot) None) there

-- what a result says of its value says more by what follows from it
pub if_ok_then : {A E : Type 0} (r : Result A E) {P Q : A → Type 0} → ((x : A) → P x → Q x) → IfOk r P → IfOk r Q
if_ok_then (Ok x) follows is = follows x is
if_ok_then (Err e) follows is = is

-- and so does what it says of an error
pub on_err_then : {A E : Type 0} (r : Result A E) {P Q : Type 0} → (P → Q) → OnErr r P → OnErr r Q
on_err_then (Ok x) follows is = is
on_err_then (Err e) follows is = follows is
