-- The code of a whole program, as it is put together.
use Rattle.std.proofs.Common.{◌≡◌, ℕ, ◌+◌, List, [], ◌++◌, length, ap, ◌∙◌, append_assoc, length-append}
use Rattle.zk_typed.specs.declared.script.program.Log.{Log}
use Rattle.zk_typed.specs.Program.{Program, RecordType}
use Rattle.zk_lower.specs.Code.{Op, BodyCode, HandlerCode, GlobalCode, Code}
use Rattle.zk_lower.specs.Lowering.{placed, handler_ops, handler_found, function_ops, function_found, hook_ops, hook_found, initials_code, globals_found, handlers_ops, functions_ops, hooks_ops, functions_at, hooks_at, globals_at, lowered}

abbrev pub code_of : List (List ℕ) → List RecordType → List Log → List Op → List GlobalCode → List BodyCode → List (List BodyCode) → List HandlerCode → Code
code_of files records logs ops globals functions hooks handlers = record {
  files = files;
  records = records;
  logs = logs;
  ops = ops;
  globals = globals;
  functions = functions;
  hooks = hooks;
  handlers = handlers;
}

module _ (program : Program) where
  abbrev code_with : List Op → List GlobalCode → List BodyCode → List (List BodyCode) → List HandlerCode → Code
  code_with = code_of program.files program.records program.logs

  -- handlers, functions, hooks and initial values, one behind another
  pub whole : (first second third last : List Op) (globals : List GlobalCode) (functions : List BodyCode) (hooks : List (List BodyCode)) (handlers : List HandlerCode)
      → first ≡ [] ++ handlers_ops program → second ≡ first ++ functions_ops program → third ≡ second ++ hooks_ops program → last ≡ third ++ initials_code 0 program.globals
      → handlers ≡ placed handler_ops handler_found 0 program.handlers
      → functions ≡ placed function_ops function_found (length first) program.functions
      → hooks ≡ placed hook_ops hook_found (length second) program.hooks
      → globals ≡ globals_found (length third) 0 program.globals
      → code_with last globals functions hooks handlers ≡ lowered program
  whole first second third last globals functions hooks handlers a b c d h f k g =
      let H : List Op = handlers_ops program in
      let F : List Op = functions_ops program in
      let K : List Op = hooks_ops program in
      let I : List Op = initials_code 0 program.globals in
      let at_functions : length first ≡ functions_at program = ap length a in
      let at_hooks : length second ≡ hooks_at program = ap length b ∙ (length-append first F ∙ ap (λ n. n + length F) at_functions) in
      let at_globals : length third ≡ globals_at program = ap length c ∙ (length-append second K ∙ ap (λ n. n + length K) at_hooks) in
      let all : last ≡ H ++ (F ++ (K ++ I)) =
      d ∙ (ap (λ l. l ++ I) (c ∙ ap (λ l. l ++ K) (b ∙ ap (λ l. l ++ F) a)) ∙ (append_assoc (H ++ F) K I ∙ append_assoc H F (K ++ I))) in
      ap (λ l. code_with l globals functions hooks handlers) all ∙
      (ap (λ l. code_with (H ++ (F ++ (K ++ I))) l functions hooks handlers) (g ∙ ap (λ n. globals_found n 0 program.globals) at_globals) ∙
      (ap (λ l. code_with (H ++ (F ++ (K ++ I))) (globals_found (globals_at program) 0 program.globals) l hooks handlers) (f ∙ ap (λ n. placed function_ops function_found n program.functions) at_functions) ∙
      (ap (λ l. code_with (H ++ (F ++ (K ++ I))) (globals_found (globals_at program) 0 program.globals) (placed function_ops function_found (functions_at program) program.functions) l handlers) (k ∙ ap (λ n. placed hook_ops hook_found n program.hooks) at_hooks) ∙
      ap (λ l. code_with (H ++ (F ++ (K ++ I))) (globals_found (globals_at program) 0 program.globals) (placed function_ops function_found (functions_at program) program.functions) (placed hook_ops hook_found (hooks_at program) program.hooks) l) h)))

  -- the same with what stands as it is
  pub whole_copied : (files : List (List ℕ)) (records : List RecordType) (logs : List Log) (first second third last : List Op) (globals : List GlobalCode) (functions : List BodyCode) (hooks : List (List BodyCode)) (handlers : List HandlerCode)
      → files ≡ program.files → records ≡ program.records → logs ≡ program.logs
      → first ≡ [] ++ handlers_ops program → second ≡ first ++ functions_ops program → third ≡ second ++ hooks_ops program → last ≡ third ++ initials_code 0 program.globals
      → handlers ≡ placed handler_ops handler_found 0 program.handlers
      → functions ≡ placed function_ops function_found (length first) program.functions
      → hooks ≡ placed hook_ops hook_found (length second) program.hooks
      → globals ≡ globals_found (length third) 0 program.globals
      → code_of files records logs last globals functions hooks handlers ≡ lowered program
  whole_copied files records logs first second third last globals functions hooks handlers s t u a b c d h f k g =
      ap (λ l. code_of l records logs last globals functions hooks handlers) s ∙
      (ap (λ l. code_of program.files l logs last globals functions hooks handlers) t ∙
      (ap (λ l. code_of program.files program.records l last globals functions hooks handlers) u ∙
      whole first second third last globals functions hooks handlers a b c d h f k g))
