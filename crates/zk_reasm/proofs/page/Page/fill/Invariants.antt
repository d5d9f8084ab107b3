use Rattle.std.proofs.Common.{◌≡◌, ℕ, ◌+◌, take}
use Rattle.std.specs.Option.{option_or}
use Rattle.zk_reasm.specs.Between.{held_between}
use Rattle.zk_reasm.specs.Page.{byte_on}
use Rattle.zk_reasm.specs.Piece.{byte_in}
use Rattle.zk_reasm.proofs.page.Page.fill.Given as goal

-- the first k bytes are put where nothing was
abbrev pub invariant-loop-k : goal.invariant-loop-k
invariant-loop-k l = record {
  first : (at : ℕ) → byte_on l.self at ≡ option_or (byte_on l.initial.self at) (byte_in l.from (take l.k l.bytes) at);
  count : l.count + held_between (byte_on l.initial.self) l.from (l.from + l.k) ≡ l.k;
}
