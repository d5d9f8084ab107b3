-- Whether two keys are equal: by `==` and by the order of keys, and for the keys of IPv4 fragments by their fields.
use Rattle.std.proofs.Common.{◌≡◌, Bool, ◌&&◌, refl, ap, ◌∙◌}
use Rattle.std.proofs.Math.Path.{fun_ext}
use Rattle.zk_base.specs.declared.network.Addr.{Addr}
use Rattle.zk_base.specs.declared.network.Addr.TheVariants.{V4, V6}
use Rattle.zk_base.specs.contracts.network.AddrPartialEq.TheImpl as address_eq
use Rattle.zk_frag.specs.declared.key.Key.{Key}
use Rattle.zk_frag.specs.contracts.key.KeyPartialEq.TheImpl as key_eq
use Rattle.zk_frag.specs.Ip4Fragments.{same_address, same_key}

-- tests that answer the same of any two keys are the same
pub same_test : {K : Type 0} (test other : K → K → Bool) → ((a b : K) → test a b ≡ other a b) → test ≡ other
same_test test other same = fun_ext (λ a. fun_ext (λ b. same a b))

address_eq_is : (a b : Addr) → (address_eq.ghosts).eq a b ≡ same_address a b
address_eq_is (V4 a) (V4 b) = refl
address_eq_is (V6 a) (V6 b) = refl
address_eq_is (V4 a) (V6 b) = refl
address_eq_is (V6 a) (V4 b) = refl

-- `==` on keys
pub key_eq_is : (key_eq.ghosts).eq ≡ same_key
key_eq_is = same_test (key_eq.ghosts).eq same_key (λ a b. by_fields a b _)
  where
    by_fields : (a b : Key) (rest : Bool) → ((address_eq.ghosts).eq a.source b.source && ((address_eq.ghosts).eq a.destination b.destination && rest))
        ≡ (same_address a.source b.source && (same_address a.destination b.destination && rest))
    by_fields a b rest =
        ap (λ t. t && ((address_eq.ghosts).eq a.destination b.destination && rest)) (address_eq_is a.source b.source)
        ∙ ap (λ t. same_address a.source b.source && (t && rest)) (address_eq_is a.destination b.destination)
