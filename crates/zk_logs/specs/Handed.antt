-- What is handed over of a text that waits for a file.
use Rattle.std.specs.Prelude.{◌≡◌, ℕ, List, ◌++◌}
use Rattle.std.specs.Option.{option_map}
use Rattle.zk_base.specs.Shelf.{Outside, with_piece}
use Rattle.zk_outcome.specs.declared.stop.Stop.{Stop}
use Rattle.zk_logs.specs.Stopped.{ChangesOutputs, IsStoppedBy}

-- A prefix is handed over and the rest waits on. Nothing but outputs changes.
pub record HandsOver (name text : List ℕ) (old new : Outside) (rest : List ℕ) : Type 0 where
  pub handed : List ℕ
  pub joined : text ≡ handed ++ rest
  pub outputs : new.outputs ≡ option_map (λ files. with_piece files name handed) old.outputs
  pub only : ChangesOutputs old new

-- It is stopped, and a prefix is handed over.
pub record HandsPart (name text : List ℕ) (old : Outside) (stop : Stop) (new : Outside) : Type 0 where
  pub handed : List ℕ
  pub rest : List ℕ
  pub joined : text ≡ handed ++ rest
  pub outputs : new.outputs ≡ option_map (λ files. with_piece files name handed) old.outputs
  pub stopped : IsStoppedBy stop old new
