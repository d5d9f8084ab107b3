use Rattle.std.proofs.Common.{◌≡◌, drop}
use Rattle.std.specs.List.{list_all}
use Rattle.zk_scope.specs.Lent.{home_of}
use Rattle.zk_scope.specs.Scripted.{scripts_in}
use Rattle.zk_check_declarations.specs.Heights.{Measures, field_fits}
use Rattle.zk_check_declarations.proofs.rising.fields_fit.Given as goal

abbrev pub invariant-loop-field : goal.invariant-loop-field
invariant-loop-field l = Measures l.heights (scripts_in l.names) →
    list_all (field_fits (scripts_in l.names) (home_of l.home)) (drop l.field-index l.fields) ≡ list_all (field_fits (scripts_in l.names) (home_of l.home)) l.fields
