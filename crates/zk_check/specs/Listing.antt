-- The list of broken rules, declaration by declaration.
use Rattle.std.specs.Prelude.{List}
use Rattle.zk_tree.specs.declared.decl.Decl.{out-Decl}
use Rattle.zk_typed.specs.Checked.{Checked, both}
use Rattle.zk_typed.specs.Declarations.{nothing}
use Rattle.zk_typed.specs.Errors as spec
use Rattle.zk_typed.specs.Errors.{declared_before, decl_rules, declares, twice_rules, uses_of}
use Rattle.zk_typed.specs.LogCalls.{decl_calls}
use Rattle.zk_typed.specs.LoadOrder.{Stated}
use Rattle.zk_typed.specs.Resolving.{Scripts}

-- the rules of the paths of logs in a declaration behind others
abbrev pub path_rules : Scripts → List Stated → Stated → Checked (Unit {0})
path_rules scripts before one = spec.path_rules scripts (uses_of scripts before) (decl_calls one.home (out-Decl one.decl))

-- all rules of a declaration behind others
abbrev pub all_rules : Scripts → List Stated → Stated → Checked (Unit {0})
all_rules scripts before one =
    nothing (both (nothing (both (decl_rules scripts before one.home (out-Decl one.decl)) (twice_rules one.home (declared_before before) (declares one.home (out-Decl one.decl))))) (path_rules scripts before one))
