-- A stream as far as its front has come.
use Rattle.std.specs.Prelude.{Bool, List}
use Rattle.zk_base.specs.Places.{Place}
use Rattle.zk_base.specs.declared.network.Side.{Side}
use Rattle.zk_base.specs.declared.network.Side.TheVariants.{Orig, Resp}

pub record Stream : Type 0 where
  pub places : List Place
  -- the side has ended, so no place follows
  pub ended : Bool

-- one for each side of a connection
pub record Both (A : Type 0) : Type 0 where
  pub orig : A
  pub resp : A

abbrev pub of_side : {A : Type 0} → Side → Both A → A
of_side Orig both = both.orig
of_side Resp both = both.resp
