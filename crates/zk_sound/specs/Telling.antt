-- What holds of scripts of which no broken rule is told: their types are known, and bodies are as they are declared.
use Rattle.std.specs.Prelude.{◌≡◌, List, [], ◌∷◌, ◌++◌, Option, Some, None, Ok}
use Rattle.std.specs.List.{AllByRecursion}
use Rattle.zk_tree.specs.declared.decl.Decl.{Decl, out-Decl}
use Rattle.zk_tree.specs.declared.decl.Decl.TheOpen.{Decl-F}
use Rattle.zk_tree.specs.declared.decl.Decl.TheOpen as decl
use Rattle.zk_tree.specs.declared.types.Param.{Param, out-Param}
use Rattle.zk_tree.specs.declared.types.Type.{«Type»}
use Rattle.zk_typed.specs.Checked.{each}
use Rattle.zk_typed.specs.Errors.{kind_of, function_kind}
use Rattle.zk_typed.specs.LoadOrder.{Home, Stated}
use Rattle.zk_typed.specs.Names.{Declared, Meant, Signature, whole_name, look_up, find_whole, param_types}
use Rattle.zk_typed.specs.Resolving.{Scripts, type_of, maybe_type, params_of, result_of}
use Rattle.zk_typed.specs.Types.{ValueType}
use Rattle.zk_typed.specs.Within.{maybe_one}

-- a type is one
abbrev pub IsKnown : Scripts → Home → «Type» → Type 0
IsKnown scripts home tree = (of : ValueType) × (type_of scripts home tree ≡ Ok of)

-- a declared type, and the types in the head of a body
abbrev pub head_types : Decl-F Decl → List «Type»
head_types (decl.Type place name tree) = tree ∷ []
head_types (decl.Body place kind name params attrs block) = param_types params
head_types (decl.Function place name params «result» block) = param_types params ++ maybe_one «result»
head_types other = []

abbrev pub HeadIsKnown : Scripts → Stated → Type 0
HeadIsKnown scripts one = AllByRecursion (IsKnown scripts one.home) (head_types (out-Decl one.decl))

-- what is found by a body's name is a declaration of its kind, with the types of its parameters and of its result
pub record IsDeclared (scripts : Scripts) (home : Home) (kind : Meant → Option Signature) (params : List Param) («result» : Option «Type») (found : Option Declared) : Type 0 where
  pub declared : Declared
  pub there : found ≡ Some declared
  pub signature : Signature
  pub of_kind : kind declared.meant ≡ Some signature
  pub types : List ValueType
  pub gives : Option ValueType
  pub takes : params_of scripts signature ≡ Ok types
  pub result_is : result_of scripts signature ≡ Ok gives
  pub own : each (λ param. type_of scripts home (out-Param param).param_type) params ≡ Ok types
  pub own_result : maybe_type scripts home «result» ≡ Ok gives

abbrev pub BodyIsDeclared : Scripts → Stated → Type 0
BodyIsDeclared scripts one = of_form (out-Decl one.decl)
  where
    of_form : Decl-F Decl → Type 0
    of_form (decl.Body place kind name params attrs block) = IsDeclared scripts one.home (kind_of kind) params None (look_up scripts.names one.home.module_name name.text)
    of_form (decl.Function place name params «result» block) =
        IsDeclared scripts one.home function_kind params «result» (find_whole scripts.names one.home.module_name (whole_name one.home.module_name name.text))
    of_form other = Unit {0}
