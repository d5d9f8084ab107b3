-- What a text that is written from its end to its front holds.
use Rattle.std.specs.Prelude.{ℕ, List, drop}
use Rattle.zk_text.specs.declared.backward.Backward.{Backward}

-- what was written
abbrev pub written : Backward → List ℕ
written text = drop text.start text.bytes

-- how many bytes more may be written
abbrev pub room : Backward → ℕ
room text = text.start
