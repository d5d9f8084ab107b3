use Rattle.std.proofs.Common.{◌≡◌, ℕ, true, false, get_or, take}
use Rattle.std.specs.Option.{option_or}
use Rattle.zk_frag.specs.Fragment.{byte_of}
use Rattle.zk_frag.specs.Buffer.{byte_held}
use Rattle.zk_frag.proofs.assembly.fill.Given as goal

-- the payload's first k bytes stand where nothing was
abbrev pub invariant-loop-k : goal.invariant-loop-k
invariant-loop-k l = record {
  first : (i : ℕ) → byte_held l.bytes l.covered i
      ≡ option_or (byte_held l.initial.bytes l.initial.covered i) (byte_of l.place (take l.k l.payload) i);
  kept : (i : ℕ) → get_or l.initial.covered i false ≡ true → get_or l.covered i false ≡ true;
}
