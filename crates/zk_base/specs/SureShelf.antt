-- What a shelf in memory shows that never fails.
use Rattle.std.specs.Prelude.{ℕ}
use Rattle.zk_base.specs.declared.shelf.Started.{Started}
use Rattle.zk_base.specs.declared.shelf.Started.TheVariants as started
use Rattle.zk_base.specs.declared.shelf.Wrote.{Wrote}
use Rattle.zk_base.specs.declared.shelf.Wrote.TheVariants as wrote
use Rattle.zk_base.specs.declared.sure_shelf.SureShelf.{SureShelf}
use Rattle.zk_base.specs.Shelf.{Outside}
use Rattle.zk_base.specs.MemShelf.{state_of, mem_outside}
use Rattle.zk_base.specs.Faults.{one_more}

abbrev pub sure_outside : SureShelf → Outside
sure_outside shelf = mem_outside shelf.shelf

-- the number of the last call, and 0 before the first
abbrev pub calls_of : SureShelf → ℕ
calls_of shelf = (state_of shelf.shelf).calls

-- A call that found no memory has no number.
abbrev pub after_start : Started → ℕ → ℕ
after_start started.Open calls = one_more calls
after_start started.Absent calls = one_more calls
after_start started.Failed calls = one_more calls
after_start started.NoMemory calls = calls

abbrev pub after_write : Wrote → ℕ → ℕ
after_write wrote.Done calls = one_more calls
after_write wrote.Failed calls = one_more calls
after_write wrote.NoMemory calls = calls
