use Rattle.std.proofs.Common.{◌≡◌, [], Err}
use Rattle.zk_typed.specs.Checked.{Checked}
use Rattle.zk_typed.specs.Declaring.{scripts_of}
use Rattle.zk_typed.specs.Resolving.{type_of}
use Rattle.zk_typed.specs.Types.{ValueType}
use Rattle.zk_sound.proofs.Heads.{heads_known, bodies_declared}
use Rattle.zk_sound.proofs.QuietStmts.{logs_told}
use Rattle.zk_sound.proofs.Told.{Tells, all_types_tell}
use Rattle.zk_sound.proofs.laws.broken_is_told.Goals as goal

silent : (m : Checked ValueType) → Tells m → m ≡ Err [] → ⊥
silent m h e = rw e at h

pub returns : goal.returns
returns c = record {
  types = λ files home tree right e. silent (type_of (scripts_of files) home tree) (all_types_tell files right home tree) e;
  logs = logs_told;
  heads = heads_known;
  bodies = bodies_declared;
}
