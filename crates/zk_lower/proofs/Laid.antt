-- The code of a program stands for it.
use Rattle.std.proofs.Common.{ℕ, zero, suc, ◌+◌, List, [], ◌∷◌, ◌++◌, length, Option, Some, None, refl}
use Rattle.std.specs.Prelude.{slice_get}
use Rattle.zk_typed.specs.Meaning.{bodies_of}
use Rattle.zk_typed.specs.Program.{Program, Hook, HookBody}
use Rattle.zk_lower.specs.Code.{Op, BodyCode, Code}
use Rattle.zk_lower.specs.Lowering.{laid, placed, function_ops, hook_body_ops, hook_ops, initials_code, function_found, hook_body_found, hook_found, handlers_ops, functions_ops, hooks_ops, functions_at, hooks_at, globals_at, lowered}
use Rattle.zk_lower.specs.Steps.{bodies_in}
use Rattle.zk_lower.proofs.Lies.{HasAt, has_front, has_back, has_all, body_lies}
use Rattle.zk_lower.proofs.Standing.{FunctionAt, BodiesAt, Stands}

-- what is found by a number, with what it was made of
pub placed_at : {A B : Type 0} (ops : List Op) (code : A → List Op) (found : ℕ → A → B) (R : Option B → Option A → Type 0) → R None None → ((at : ℕ) (one : A) → HasAt ops at (code one) → R (Some (found at one)) (Some one))
    → (list : List A) (at : ℕ) → HasAt ops at (laid code list) → (number : ℕ) → R (slice_get (placed code found at list) number) (slice_get list number)
placed_at ops code found R none some [] at h number = none
placed_at ops code found R none some (one ∷ list) at h zero = some at one (has_front ops at (code one) (laid code list) h)
placed_at ops code found R none some (one ∷ list) at h (suc number) = placed_at ops code found R none some list (at + length (code one)) (has_back ops at (code one) (laid code list) h) number

bodies_at : (ops : List Op) (list : List HookBody) (at : ℕ) → HasAt ops at (laid hook_body_ops list) → BodiesAt ops (placed hook_body_ops hook_body_found at list) list
bodies_at ops [] at h = tt
bodies_at ops (one ∷ list) at h = (refl, body_lies ops one.body at (has_front ops at (hook_body_ops one) (laid hook_body_ops list) h), bodies_at ops list (at + length (hook_body_ops one)) (has_back ops at (hook_body_ops one) (laid hook_body_ops list) h))

-- the code of a hook, where it has one
abbrev HookAt : List Op → Option (List BodyCode) → Option Hook → Type 0
HookAt ops None None = Unit {0}
HookAt ops None (Some hook) = ⊥
HookAt ops (Some codes) None = ⊥
HookAt ops (Some codes) (Some hook) = BodiesAt ops codes (bodies_of (Some hook))

hook_from : (ops : List Op) (codes : Option (List BodyCode)) (hook : Option Hook) → HookAt ops codes hook → BodiesAt ops (bodies_in codes) (bodies_of hook)
hook_from ops None None h = tt
hook_from ops None (Some hook) h = absurd h
hook_from ops (Some codes) None h = absurd h
hook_from ops (Some codes) (Some hook) h = h

module _ (program : Program) where
  abbrev code : Code
  code = lowered program

  pub handlers_here : HasAt code.ops 0 (handlers_ops program)
  handlers_here = has_front code.ops 0 (handlers_ops program) (functions_ops program ++ (hooks_ops program ++ initials_code 0 program.globals)) (has_all code.ops [])

  behind_handlers : HasAt code.ops (functions_at program) (functions_ops program ++ (hooks_ops program ++ initials_code 0 program.globals))
  behind_handlers = has_all (functions_ops program ++ (hooks_ops program ++ initials_code 0 program.globals)) (handlers_ops program)

  functions_here : HasAt code.ops (functions_at program) (functions_ops program)
  functions_here = has_front code.ops (functions_at program) (functions_ops program) (hooks_ops program ++ initials_code 0 program.globals) behind_handlers

  behind_functions : HasAt code.ops (hooks_at program) (hooks_ops program ++ initials_code 0 program.globals)
  behind_functions = has_back code.ops (functions_at program) (functions_ops program) (hooks_ops program ++ initials_code 0 program.globals) behind_handlers

  hooks_here : HasAt code.ops (hooks_at program) (hooks_ops program)
  hooks_here = has_front code.ops (hooks_at program) (hooks_ops program) (initials_code 0 program.globals) behind_functions

  pub initials_here : HasAt code.ops (globals_at program) (initials_code 0 program.globals)
  initials_here = has_back code.ops (hooks_at program) (hooks_ops program) (initials_code 0 program.globals) behind_functions

  functions_stand : (number : ℕ) → FunctionAt code.ops (slice_get code.functions number) (slice_get program.functions number)
  functions_stand number = placed_at code.ops function_ops function_found (FunctionAt code.ops) tt (λ at one h. (refl, body_lies code.ops one.body at h)) program.functions (functions_at program) functions_here number

  hooks_stand : (number : ℕ) → HookAt code.ops (slice_get code.hooks number) (slice_get program.hooks number)
  hooks_stand number = placed_at code.ops hook_ops hook_found (HookAt code.ops) tt (λ at one h. bodies_at code.ops (bodies_of (Some one)) at h) program.hooks (hooks_at program) hooks_here number

  pub code_stands : Stands code program
  code_stands = record {
    types = refl;
    function = functions_stand;
    hook = λ number. hook_from code.ops (slice_get code.hooks number.0) (slice_get program.hooks number.0) (hooks_stand number.0);
  }
