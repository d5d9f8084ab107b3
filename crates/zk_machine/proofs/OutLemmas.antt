-- Lines and rows that wait to be given out.
use Rattle.std.proofs.Common.{◌≡◌, ℕ, List, [], ◌∷◌, ◌++◌, Some, ap, ◌∙◌, append-nil}
use Rattle.std.specs.Prelude.{filter_map}
use Rattle.std.proofs.lemmas.List.Elements.{filter_map-append}
use Rattle.zk_typed.specs.Log.{Row}
use Rattle.zk_typed.specs.State.{World}
use Rattle.zk_value.specs.declared.out.Out.{Out}
use Rattle.zk_value.specs.declared.out.Out.TheVariants.{Line}
use Rattle.zk_machine.specs.State.{line_in, row_in}

-- a world that has told this
abbrev pub telling : List Row → List (List ℕ) → World → World
telling rows lines world = record world { rows = rows; lines = lines }

-- a line behind the others
pub line-told : (world : World) (before now : List Out) (line : List ℕ) → now ≡ before ++ Line line ∷ []
    → telling (filter_map row_in now) (filter_map line_in now) world ≡ telling (filter_map row_in before) (filter_map line_in before ++ line ∷ []) world
line-told world before now line is =
    ap (λ out. telling (filter_map row_in out) (filter_map line_in out) world) is
    ∙ (ap (λ rows. telling rows (filter_map line_in (before ++ Line line ∷ [])) world) (filter_map-append row_in before (Line line ∷ []) ∙ append-nil (filter_map row_in before))
    ∙ ap (λ lines. telling (filter_map row_in before) lines world) (filter_map-append line_in before (Line line ∷ [])))

-- a row behind the others
pub row-told : (world : World) (before now : List Out) (out : Out) (row : Row) → now ≡ before ++ out ∷ [] → row_in out ≡ Some row → filter_map line_in (out ∷ []) ≡ []
    → telling (filter_map row_in now) (filter_map line_in now) world ≡ telling (filter_map row_in before ++ row ∷ []) (filter_map line_in before) world
row-told world before now out row is made no_line =
    ap (λ out. telling (filter_map row_in out) (filter_map line_in out) world) is
    ∙ (ap (λ lines. telling (filter_map row_in (before ++ out ∷ [])) lines world) (filter_map-append line_in before (out ∷ []) ∙ (ap (λ none. filter_map line_in before ++ none) no_line ∙ append-nil (filter_map line_in before)))
    ∙ ap (λ rows. telling rows (filter_map line_in before) world) (filter_map-append row_in before (out ∷ []) ∙ ap (λ one. filter_map row_in before ++ Rattle.std.specs.List.cons_option one []) made))
