-- Functions by their bodies.
use Rattle.std.specs.Prelude.{List, ◌∷◌, [], length, map, None}
use Rattle.std.specs.Option.{option_copied}
use Rattle.zk_scope.specs.Lent.{home_of}
use Rattle.zk_tree.specs.declared.decl.Decl.{out-Decl}
use Rattle.zk_typed.specs.Errors.{body_made, result_wanted}
use Rattle.zk_typed.specs.LoadOrder.{Stated}
use Rattle.zk_typed.specs.Names.{Declared, Signature, Written}
use Rattle.zk_typed.specs.Program as program
use Rattle.zk_typed.specs.Programs.{checked_or, first_or, function_in, no_function, stmt_in}
use Rattle.zk_typed.specs.Resolving.{Scripts, params_of, result_of}
use Rattle.zk_typed.specs.Statements.{InFunction}
use Rattle.zk_check_declarations.specs.declared.groups.Groups.{Groups}
use Rattle.zk_check.specs.declared.program.functions.FunctionDecl.{FunctionDecl}
use Rattle.zk_check_declarations.specs.Grouping.{group_at}

-- the parameters and the result of a body
abbrev pub signature_in : FunctionDecl → Signature
signature_in one = Written (home_of one.home) one.params.now one.result_type.now

-- a function by its body
abbrev pub function_typed : Scripts → FunctionDecl → program.Function
function_typed scripts one =
    let given = body_made scripts (home_of one.home) (InFunction (result_wanted scripts (home_of one.home) one.result_type.now)) one.params.now one.block.now in
    record {
      params = checked_or [] (params_of scripts (signature_in one));
      «result» = checked_or None (result_of scripts (signature_in one));
      locals = length given.locals;
      body = stmt_in given;
    }

-- the functions that a declaration is a body of
abbrev pub stated_function : Scripts → Declared → Stated → List program.Function
stated_function scripts name one = function_in scripts name one.home (out-Decl one.decl)

-- the functions of a name, among bodies by the whole names of functions
abbrev pub functions_at : Scripts → Groups FunctionDecl → Declared → List program.Function
functions_at scripts bodies name = map (function_typed scripts) (group_at bodies name.name)

abbrev pub function_among : Scripts → Groups FunctionDecl → Declared → program.Function
function_among scripts bodies name = first_or no_function (functions_at scripts bodies name)
