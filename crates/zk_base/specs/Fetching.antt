-- What a read of the open input brings that was asked for so many bytes at most.
use Rattle.std.specs.Prelude.{◌≡◌, ℕ, List, length, take}
use Rattle.zk_base.specs.declared.shelf.Got.{Got}
use Rattle.zk_base.specs.declared.shelf.Got.TheVariants as got
use Rattle.zk_base.specs.Shelf.{Outside, Reads}

-- how many bytes a read gave
abbrev pub count_of : Got → ℕ
count_of (got.Bytes n) = n
count_of got.End = 0
count_of got.Failed = 0

-- A read into a buffer of this length was made, and this holds of the bytes that it gave.
pub record Fetches (old : Outside) (most : ℕ) (given : Got) (new : Outside) (holds : List ℕ → Type 0) : Type 0 where
  pub before : List ℕ
  pub after : List ℕ
  pub long : length before ≡ most
  pub long_after : length after ≡ most
  pub reads : Reads old before given after new
  pub brings : holds (take (count_of given) after)
