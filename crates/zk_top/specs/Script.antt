-- The program of scripts, or the first of the rules that they break.
use Rattle.std.specs.Prelude.{ℕ, Bool, true, false, List, [], ◌∷◌, slice_get}
use Rattle.std.specs.Option.{option_map_or}
use Rattle.zk_base.specs.declared.endings.Ending.{Ending}
use Rattle.zk_base.specs.declared.endings.Ending.TheVariants.{ScriptRefused}
use Rattle.zk_base.specs.declared.endings.ScriptKind.{ScriptKind}
use Rattle.zk_base.specs.declared.endings.ScriptKind.TheVariants as kind
use Rattle.zk_outcome.specs.declared.found.Found.{Found}
use Rattle.zk_outcome.specs.declared.found.Found.TheVariants.{Accepted, Refused}
use Rattle.zk_load.specs.Loading.{Scripts, scripts_in}
use Rattle.zk_scripts.specs.Texts.{default_texts}
use Rattle.zk_scope.specs.Lent.{files_of}
use Rattle.zk_typed.specs.declared.refusal.Broken.{Broken}
use Rattle.zk_typed.specs.declared.rule.Rule.{Rule}
use Rattle.zk_typed.specs.declared.rule.Rule.TheVariants as rule
use Rattle.zk_typed.specs.Errors.{errors}
use Rattle.zk_typed.specs.Program.{Program}
use Rattle.zk_typed.specs.Programs.{typed_program}
use Rattle.zk_top.specs.declared.runnable.Refusal.{Refusal}

-- why scripts are refused that break a rule
abbrev pub kind_of : Rule → ScriptKind
kind_of rule.Unknown = kind.Unknown
kind_of rule.Twice = kind.Twice
kind_of rule.WrongType = kind.WrongType
kind_of rule.Field = kind.Field
kind_of rule.Recursive = kind.Recursive
kind_of rule.NotConst = kind.NotConst
kind_of rule.FixedGlobal = kind.FixedGlobal
kind_of rule.Arguments = kind.Arguments
kind_of rule.Return = kind.Return
kind_of rule.Break = kind.Break
kind_of rule.Attribute = kind.Attribute
kind_of rule.Format = kind.Format

-- the name of a script by its number
abbrev pub name_of : Scripts → ℕ → List ℕ
name_of scripts number = option_map_or (λ script. script.0) (slice_get scripts number) []

-- a run of scripts is refused there
abbrev pub refused_at : Scripts → Refusal → Ending
refused_at scripts refusal = ScriptRefused (name_of scripts refusal.file) refusal.place refusal.kind

-- the program of scripts that break these rules
abbrev pub judged : Scripts → List Broken → Found Program
judged scripts [] = Accepted (typed_program (files_of scripts))
judged scripts (one ∷ others) = Refused (refused_at scripts (record { file = one.place.file; place = one.place.byte; kind = kind_of one.rule }))

-- the default scripts, or how a run ends where one is refused
unfoldable pub default_scripts : Found Scripts
default_scripts = scripts_in default_texts

-- what is read before the scripts of a run: the default scripts, or nothing where they are left out
abbrev pub scripts_before : Bool → Found Scripts
scripts_before true = Accepted []
scripts_before false = default_scripts

-- the program of scripts, or how a run ends for the first rule that they break
unfoldable pub program_of : Scripts → Found Program
program_of scripts = judged scripts (errors (files_of scripts))
