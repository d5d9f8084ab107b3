-- That two addresses are of one family is a fact: it holds in one way at most.
use Rattle.std.specs.Coded.{Unit-prop}
use Rattle.zk_base.specs.declared.network.Addr.{Addr}
use Rattle.zk_base.specs.declared.network.Addr.TheVariants.{V4, V6}
use Rattle.zk_l4.specs.PseudoHeader.{IsOneFamily}
use mathlib.Core.HLevel.{⊥_prop}

pub one_family-prop : (a b : Addr) → IsProp (IsOneFamily a b)
one_family-prop (V4 a) (V4 b) = Unit-prop
one_family-prop (V6 a) (V6 b) = Unit-prop
one_family-prop (V4 a) (V6 b) = ⊥_prop
one_family-prop (V6 a) (V4 b) = ⊥_prop
