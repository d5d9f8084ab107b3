-- Hooks by their bodies.
use Rattle.std.specs.Prelude.{List, ◌∷◌, [], length, map, Option, Some, None, if◌then◌else◌}
use Rattle.std.specs.Str.{bytes_eq}
use Rattle.zk_scope.specs.Lent.{home_of}
use Rattle.zk_tree.specs.declared.decl.Decl.{out-Decl}
use Rattle.zk_typed.specs.Errors.{body_made}
use Rattle.zk_typed.specs.LoadOrder.{Stated}
use Rattle.zk_typed.specs.Names.{Declared}
use Rattle.zk_typed.specs.Program as program
use Rattle.zk_typed.specs.Programs.{checked_or, hook_body_in, priority_of, signature_of, stmt_in}
use Rattle.zk_typed.specs.Resolving.{Scripts, params_of}
use Rattle.zk_typed.specs.Statements.{InHook}
use Rattle.zk_check_declarations.specs.declared.groups.Groups.{Groups}
use Rattle.zk_check.specs.declared.program.hooks.HookDecl.{HookDecl}
use Rattle.zk_check_declarations.specs.Grouping.{group_at}

-- a body of a hook
abbrev pub hook_body_typed : Scripts → HookDecl → program.HookBody
hook_body_typed scripts one =
    let given = body_made scripts (home_of one.home) InHook one.params.now one.block.now in
    record { priority = priority_of scripts (home_of one.home) one.attrs.now; locals = length given.locals; body = stmt_in given }

-- the body of a hook, where what its own name means is that one
abbrev pub hooks_in : Scripts → Declared → HookDecl → Option Declared → List program.HookBody
hooks_in scripts name one None = []
hooks_in scripts name one (Some meant) = if bytes_eq meant.name name.name then hook_body_typed scripts one ∷ [] else []

-- the bodies of a hook that a declaration is
abbrev pub stated_hook : Scripts → Declared → Stated → List program.HookBody
stated_hook scripts name one = hook_body_in scripts name one.home (out-Decl one.decl)

-- the bodies of a name, among bodies by the whole names of hooks
abbrev pub hook_bodies_at : Scripts → Groups HookDecl → Declared → List program.HookBody
hook_bodies_at scripts bodies name = map (hook_body_typed scripts) (group_at bodies name.name)

abbrev pub hook_among : Scripts → Groups HookDecl → Declared → program.Hook
hook_among scripts bodies name = record { params = checked_or [] (params_of scripts (signature_of name)); bodies = hook_bodies_at scripts bodies name }
