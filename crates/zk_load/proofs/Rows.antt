-- Small scripts that load each other, computed by the checker.
use Rattle.std.proofs.Common.{◌≡◌, [], ◌∷◌, codes, Some, None, if◌then◌else◌, refl}
use Rattle.std.specs.Str.{bytes_eq}
use Rattle.zk_base.specs.declared.endings.Ending.TheVariants.{NoInput, ScriptRefused}
use Rattle.zk_base.specs.declared.endings.ScriptKind.TheVariants.{NoTree, OpenString}
use Rattle.zk_base.specs.Shelf.{Files}
use Rattle.zk_parse.specs.Opening.{reading}
use Rattle.zk_tree.specs.Opening.{trees}
use Rattle.zk_outcome.specs.declared.found.Found.TheVariants.{Refused}
use Rattle.zk_load.specs.Loading.{Scripts, load_from, loading}

-- a and b load each other, and a default script; c is no tree, and d has no tokens
files : Files
files name =
    if bytes_eq name (codes "a") then Some (codes "@load b\n@load base/x\nexport { @load e\n}")
    else if bytes_eq name (codes "b") then Some (codes "@load a\n")
    else if bytes_eq name (codes "c") then Some (codes "@load none\nmodule ;")
    else if bytes_eq name (codes "d") then Some (codes "\"a")
    else if bytes_eq name (codes "e") then Some []
    else None

each_file_is_asked_for_once : (loading [] (codes "a" ∷ codes "b" ∷ []) files).asked ≡ codes "a" ∷ codes "b" ∷ codes "e" ∷ []
unfolding reading trees files loading load_from
each_file_is_asked_for_once = refl

a_script_is_a_tree_before_it_loads : (loading [] (codes "c" ∷ []) files).found ≡ Refused (ScriptRefused (codes "c") 11 NoTree)
unfolding reading trees files loading load_from
a_script_is_a_tree_before_it_loads = refl

what_a_script_loads_is_judged_before_the_next : (loading [] (codes "e" ∷ codes "d" ∷ codes "none" ∷ []) files).found ≡ Refused (ScriptRefused (codes "d") 0 OpenString)
unfolding reading trees files loading load_from
what_a_script_loads_is_judged_before_the_next = refl

a_missing_script_is_asked_for : (loading [] (codes "none" ∷ codes "e" ∷ []) files).asked ≡ codes "none" ∷ []
unfolding files loading load_from
a_missing_script_is_asked_for = refl

a_default_script_is_read_where_it_is_named : (loading [] (codes "base/x" ∷ []) files).found ≡ Refused (NoInput (codes "base/x"))
unfolding files loading load_from
a_default_script_is_read_where_it_is_named = refl

-- a script that was read before
before : Scripts
before = (codes "base/x", record { decls = [] }) ∷ []

what_was_read_before_is_not_asked_for : (loading before (codes "base/x" ∷ codes "none" ∷ []) files).asked ≡ codes "none" ∷ []
unfolding files before loading load_from
what_was_read_before_is_not_asked_for = refl
