-- What is done where the default scripts are read.
use Rattle.std.proofs.Common.{◌≡◌, ℕ, Bool, true, false, List, [], ◌∷◌, inl, Result, Ok, Err, refl, sym, ap, subst}
use Rattle.zk_base.specs.declared.endings.Ending.{Ending}
use Rattle.zk_base.specs.declared.endings.Ending.TheVariants.{ScriptRefused}
use Rattle.zk_base.specs.declared.endings.ScriptKind.{ScriptKind}
use Rattle.zk_base.specs.Shelf.{Files, Outside}
use Rattle.zk_tree.specs.declared.decl.Tree.{Tree}
use Rattle.zk_outcome.specs.declared.found.Found.{Found}
use Rattle.zk_outcome.specs.declared.found.Found.TheVariants.{Accepted, Refused}
use Rattle.zk_outcome.specs.declared.stop.Stop.TheVariants.{NoMemory}
use Rattle.zk_load.specs.Loading.{Scripts, before_others, scripts_in}
use Rattle.zk_load.specs.Script.{Refusal, accepted, script_of}
use Rattle.zk_outcome.proofs.Doing.{does_nothing, does_nothing_without_fault, prefix_none, same_faults}
use Rattle.zk_scripts.specs.Texts.{default_texts}
use Rattle.zk_command.specs.declared.command.Settings.{Settings}
use Rattle.zk_top.specs.Outcome.{Outcome, run_behind, run_scripts}
use Rattle.zk_top.specs.Parts.{BreaksOff, Fulfils, IsOfCommand}
use Rattle.zk_top.specs.Run.{IsNotStopped}
use Rattle.zk_top.specs.Script.{default_scripts, scripts_before}
use Rattle.zk_top.proofs.Giving.{no_file_begun, no_file_written}

-- a text is refused
pub record IsTextRefusal (e : Ending) : Type 0 where
  pub file : List ℕ
  pub place : ℕ
  pub kind : ScriptKind
  pub is : e ≡ ScriptRefused file place kind

text_refusal : (name : List ℕ) (read : Result Tree Refusal) (others : Found Scripts) (e : Ending) → ((e : Ending) → others ≡ Refused e → IsTextRefusal e)
    → before_others name (accepted name read) others ≡ Refused e → IsTextRefusal e
text_refusal name (Err refusal) others e rest is = record { file = name; place = refusal.place; kind = refusal.kind; is = let same : e ≡ ScriptRefused name refusal.place refusal.kind = cc in same }
text_refusal name (Ok tree) (Refused other) e rest is = let same : other ≡ e = cc in rest e (ap Refused same)
text_refusal name (Ok tree) (Accepted scripts) e rest is = absurd (let never : ⊥ = cc in never)

texts_refusal : (texts : List (List ℕ × List ℕ)) (e : Ending) → scripts_in texts ≡ Refused e → IsTextRefusal e
texts_refusal [] e is = absurd (let never : ⊥ = cc in never)
texts_refusal (one ∷ others) e is = text_refusal one.0 (script_of one.1) (scripts_in others) e (λ other same. texts_refusal others other same) is

pub before_refusal : (bare : Bool) (e : Ending) → Refused e ≡ scripts_before bare → IsTextRefusal e
unfolding default_scripts
before_refusal true e is = absurd (let never : ⊥ = cc in never)
before_refusal false e is = texts_refusal default_texts e (sym is)

pub command_of_defaults : (settings : Settings) (e : Ending) → Refused e ≡ scripts_before settings.bare → IsOfCommand e
command_of_defaults settings e is = let refusal = before_refusal settings.bare e is in subst IsOfCommand (sym refusal.is) tt

-- the default scripts are refused
pub refused_at_once : (file : List ℕ) (settings : Settings) (names : List (List ℕ)) (e : Ending) (old : Outside) → Refused e ≡ scripts_before settings.bare
    → Fulfils (run_scripts file settings names) [] old e old
refused_at_once file settings names e old is =
    let refusal = before_refusal settings.bare e is in
    let same : (inputs : Files) → run_behind file settings names inputs (Refused e) ≡ run_scripts file settings names inputs =
    λ inputs. ap (run_behind file settings names inputs) is in
    record {
      names = [];
      said = [];
      does = does_nothing_without_fault old;
      whole = subst (λ one. IsNotStopped one) (sym refusal.is) tt;
      absent = λ name none. absurd (let never : ⊥ = cc in never);
      present = λ other. refl;
      ends = λ inputs told. ap (λ (o : Outcome). o.ending) (same inputs);
      names_are = λ inputs told. ap (λ (o : Outcome). o.asked) (same inputs);
      said_is = λ inputs told. ap (λ (o : Outcome). o.said) (same inputs);
      files_are = λ inputs told. no_file_written (run_scripts file settings names inputs).files old.outputs old.outputs (sym (ap (λ (o : Outcome). o.files) (same inputs))) refl;
    }

-- memory ran out before anything was read
pub stopped_at_once : (file : List ℕ) (settings : Settings) (names : List (List ℕ)) (old : Outside) → BreaksOff (run_scripts file settings names) old NoMemory old
stopped_at_once file settings names old = record {
  names = [];
  said = [];
  complained = [];
  does = does_nothing old;
  cause = same_faults old;
  quiet = refl;
  names_prefix = λ inputs told. prefix_none (run_scripts file settings names inputs).asked;
  said_prefix = λ inputs told. prefix_none (run_scripts file settings names inputs).said;
  files_begun = λ inputs told. no_file_begun (run_scripts file settings names inputs).files old.outputs old.outputs refl;
  complained_prefix = λ inputs told. prefix_none (run_scripts file settings names inputs).complained;
  complaint_last = λ inputs told. inl refl;
}
