-- What is done for scripts and a capture.
use Rattle.std.proofs.Common.{◌≡◌, ℕ, inl, inr, List, [], ◌∷◌, ◌++◌, Option, Some, refl, sym, ap, subst, ◌∙◌, append-nil}
use Rattle.std.specs.Option.{option_map}
use Rattle.zk_base.specs.declared.endings.Ending.{Ending}
use Rattle.zk_base.specs.declared.endings.Ending.TheVariants.{NoInput, ScriptRefused}
use Rattle.zk_base.specs.Shelf.{Files, Outside, HasRisen}
use Rattle.zk_scope.specs.Lent.{files_of}
use Rattle.zk_typed.specs.declared.refusal.Broken.{Broken}
use Rattle.zk_typed.specs.Errors.{errors}
use Rattle.zk_typed.specs.Program.{Program}
use Rattle.zk_outcome.specs.declared.found.Found.{Found}
use Rattle.zk_outcome.specs.declared.found.Found.TheVariants.{Accepted, Refused}
use Rattle.zk_outcome.specs.declared.stop.Stop.{Stop}
use Rattle.zk_load.specs.Loading.{Loading, Scripts, loading}
use Rattle.zk_load.specs.Loads.{LoadsAll, LoadsPart}
use Rattle.zk_outcome.specs.Found.{IsRefusal}
use Rattle.zk_outcome.specs.Parts.{Does, DoesWithoutFault, SameAbsences}
use Rattle.zk_outcome.specs.Prefix.{IsPrefix}
use Rattle.zk_outcome.proofs.Doing.{quiet_none, prefix_none, prefix_trans, prefix_behind, cause_since, does_both, without_fault_both}
use Rattle.zk_command.specs.declared.command.Settings.{Settings}
use Rattle.zk_top.specs.declared.runnable.Runnable.{Runnable}
use Rattle.zk_top.specs.Compiling.{FindsCode, IsCodeOf, Runs, program_by}
use Rattle.zk_io.specs.Opened.{Recording, opened}
use Rattle.zk_top.specs.Outcome.{Outcome, Report, ending_so, over_capture, run_report, running, run_behind, run_of}
use Rattle.zk_logs.specs.Outputs.{files_over, OutputsBegun}
use Rattle.zk_top.specs.Parts.{Fulfils, BreaksOff, but_outputs}
use Rattle.zk_top.specs.Script.{judged, kind_of, name_of, program_of, refused_at}
use Rattle.zk_top.specs.declared.runnable.Refusal.{Refusal}
use Rattle.zk_top.proofs.Giving.{does_beside, no_file_begun, no_file_written, without_fault_beside}
use Rattle.zk_top.proofs.OverCapture.{beside_from, whole_refusal}

-- the same with these names before
record SameBut (before : List (List ℕ)) (inner outer : Outcome) : Type 0 where
  ending : inner.ending ≡ outer.ending
  said : inner.said ≡ outer.said
  files : inner.files ≡ outer.files
  complained : inner.complained ≡ outer.complained
  asked : before ++ inner.asked ≡ outer.asked

same_over : (report : Recording → Report) (before : List (List ℕ)) (file : List ℕ) (found : Found Recording) → SameBut before (over_capture report (file ∷ []) found) (over_capture report (before ++ file ∷ []) found)
same_over report before file (Accepted capture) = record { ending = refl; said = refl; files = refl; complained = refl; asked = refl }
same_over report before file (Refused e) = record { ending = refl; said = refl; files = refl; complained = refl; asked = refl }

abbrev over : List ℕ → Settings → Program → Files → Outcome
over file settings program inputs = over_capture (run_report file settings program) (file ∷ []) (opened file (inputs file))

-- The program of scripts that were read.
pub record IsProgram (before : Scripts) (names : List (List ℕ)) (program : Program) (old mid : Outside) : Type 0 where
  pub scripts : Scripts
  pub loads : LoadsAll before names old (Accepted scripts) mid
  pub is : program_of scripts ≡ Accepted program

same_run : (file : List ℕ) (settings : Settings) (before : Scripts) (names : List (List ℕ)) (program : Program) (old mid : Outside) (found : IsProgram before names program old mid) (inputs : Files) → old.inputs ≡ Some inputs
    → SameBut found.loads.asked (over file settings program inputs) (run_behind file settings names inputs (Accepted before))
same_run file settings before names program old mid found inputs t =
    let asked : List (List ℕ) = found.loads.asked in
    let is : run_behind file settings names inputs (Accepted before) ≡ over_capture (run_report file settings program) (asked ++ file ∷ []) (opened file (inputs file)) =
    ap (λ (l : Loading). run_of file settings l.asked l.found (inputs file)) (found.loads.told inputs t)
    ∙ ap (λ p. running file settings asked p (inputs file)) found.is in
    subst (SameBut asked (over file settings program inputs)) (sym is) (same_over (run_report file settings program) asked file (opened file (inputs file)))

-- the inputs that are told stay
told_still : (before : Scripts) (names : List (List ℕ)) (program : Program) (old mid : Outside) (found : IsProgram before names program old mid) (inputs : Files) → old.inputs ≡ Some inputs → mid.inputs ≡ Some inputs
told_still before names program old mid found inputs told = found.loads.does.does.inputs_stay ∙ told

-- and the outputs
outputs_still : (before : Scripts) (names : List (List ℕ)) (program : Program) (old mid : Outside) (found : IsProgram before names program old mid) → mid.outputs ≡ old.outputs
outputs_still before names program old mid found = found.loads.does.does.outputs_stay

-- scripts were read, so their files are there
scripts_present : (before : Scripts) (names : List (List ℕ)) (program : Program) (old mid : Outside) → IsProgram before names program old mid → SameAbsences old mid
scripts_present before names program old mid found = found.loads.present (λ name same. let never : ⊥ = cc in never)

-- files over the outputs that were the same before
files_from : (inner outer : Outcome) (old mid new : Outside) → mid.outputs ≡ old.outputs → inner.files ≡ outer.files → new.outputs ≡ option_map (files_over inner.files) mid.outputs
    → new.outputs ≡ option_map (files_over outer.files) old.outputs
files_from inner outer old mid new same files is = is ∙ ap (λ before. option_map (files_over inner.files) before) same ∙ ap (λ written. option_map (files_over written) old.outputs) files

-- the program ran over the capture
pub fulfilled_run : (file : List ℕ) (settings : Settings) (before : Scripts) (names : List (List ℕ)) (program : Program) (old mid : Outside) (e : Ending) (new : Outside) → IsProgram before names program old mid
    → Fulfils (over file settings program) [] mid e new → Fulfils (λ inputs. run_behind file settings names inputs (Accepted before)) [] old e new
fulfilled_run file settings before names program old mid e new found ran =
    let asked : List (List ℕ) = found.loads.asked in
    record {
      names = asked ++ ran.names;
      said = ran.said;
      does = subst (λ now. DoesWithoutFault (asked ++ ran.names) ran.said [] old now) (beside_from old mid new (outputs_still before names program old mid found))
          (without_fault_both asked ran.names [] ran.said [] [] old mid (but_outputs mid new) found.loads.does ran.does);
      whole = ran.whole;
      absent = λ name same. subst (λ n. HasRisen n new.absences) (scripts_present before names program old mid found) (ran.absent name same);
      present = λ other. ran.present other ∙ scripts_present before names program old mid found;
      ends = λ inputs t. ran.ends inputs (told_still before names program old mid found inputs t) ∙ (same_run file settings before names program old mid found inputs t).ending;
      names_are = λ inputs t. ap (λ more. asked ++ more) (ran.names_are inputs (told_still before names program old mid found inputs t))
          ∙ (same_run file settings before names program old mid found inputs t).asked;
      said_is = λ inputs t. ran.said_is inputs (told_still before names program old mid found inputs t) ∙ (same_run file settings before names program old mid found inputs t).said;
      files_are = λ inputs t.
          files_from (over file settings program inputs) (run_behind file settings names inputs (Accepted before)) old mid new (outputs_still before names program old mid found) (same_run file settings before names program old mid found inputs t).files
          (ran.files_are inputs (told_still before names program old mid found inputs t));
    }

-- its run was stopped
pub stopped_run : (file : List ℕ) (settings : Settings) (before : Scripts) (names : List (List ℕ)) (program : Program) (old mid : Outside) (stop : Stop) (new : Outside) → IsProgram before names program old mid
    → BreaksOff (over file settings program) mid stop new → BreaksOff (λ inputs. run_behind file settings names inputs (Accepted before)) old stop new
stopped_run file settings before names program old mid stop new found part =
    let asked : List (List ℕ) = found.loads.asked in
    record {
      names = asked ++ part.names;
      said = part.said;
      complained = part.complained;
      does = subst (λ now. Does (asked ++ part.names) part.said part.complained old now) (beside_from old mid new (outputs_still before names program old mid found))
          (does_both asked part.names [] part.said [] part.complained old mid (but_outputs mid new) found.loads.does.does part.does);
      cause = cause_since old mid stop new found.loads.does.faults part.cause;
      quiet = part.quiet;
      names_prefix = λ inputs t.
          subst (λ more. IsPrefix (asked ++ part.names) more) (same_run file settings before names program old mid found inputs t).asked
          (prefix_behind asked part.names (over file settings program inputs).asked (part.names_prefix inputs (told_still before names program old mid found inputs t)));
      said_prefix = λ inputs t. subst (λ said. IsPrefix part.said said) (same_run file settings before names program old mid found inputs t).said
          (part.said_prefix inputs (told_still before names program old mid found inputs t));
      files_begun = λ inputs t. subst (λ written. OutputsBegun written old.outputs new.outputs) (same_run file settings before names program old mid found inputs t).files
          (subst (λ before. OutputsBegun (over file settings program inputs).files before new.outputs) (outputs_still before names program old mid found) (part.files_begun inputs (told_still before names program old mid found inputs t)));
      complained_prefix = λ inputs t. subst (λ said. IsPrefix part.complained said) (same_run file settings before names program old mid found inputs t).complained
          (part.complained_prefix inputs (told_still before names program old mid found inputs t));
      complaint_last = λ inputs t. elim (part.complaint_last inputs (told_still before names program old mid found inputs t)) [
        | inl none ↦ inl none
        | inr all ↦ inr (record {
          asked = ap (λ more. asked ++ more) all.asked ∙ (same_run file settings before names program old mid found inputs t).asked;
          all_said = all.all_said ∙ (same_run file settings before names program old mid found inputs t).said;
          files = files_from (over file settings program inputs) (run_behind file settings names inputs (Accepted before)) old mid new (outputs_still before names program old mid found)
              (same_run file settings before names program old mid found inputs t).files all.files;
        })
      ];
    }

-- There is no program: scripts are refused, or a rule is broken.
pub record HasNoProgram (before : Scripts) (names : List (List ℕ)) (e : Ending) (old new : Outside) : Type 0 where
  pub scripts : Found Scripts
  pub loads : LoadsAll before names old scripts new
  pub is : program_by scripts ≡ Refused e
  pub refusal : IsRefusal e
  pub absent : (name : List ℕ) → e ≡ NoInput name → HasRisen old.absences new.absences
  pub present : ((name : List ℕ) → e ≡ NoInput name → ⊥) → SameAbsences old new

ends_there : (file : List ℕ) (settings : Settings) (asked : List (List ℕ)) (found : Found Scripts) (e : Ending) (input : Option (List ℕ)) → program_by found ≡ Refused e
    → run_of file settings asked found input ≡ ending_so e [] asked
ends_there file settings asked (Accepted scripts) e input is = ap (λ p. running file settings asked p input) is
ends_there file settings asked (Refused other) e input is = let same : other ≡ e = cc in ap (λ one. ending_so one [] asked) same

pub refused_scripts : (file : List ℕ) (settings : Settings) (before : Scripts) (names : List (List ℕ)) (old : Outside) (e : Ending) (new : Outside) → HasNoProgram before names e old new
    → Fulfils (λ inputs. run_behind file settings names inputs (Accepted before)) [] old e new
refused_scripts file settings before names old e new none =
    let asked : List (List ℕ) = none.loads.asked in
    let is : (inputs : Files) → old.inputs ≡ Some inputs → ending_so e [] asked ≡ run_behind file settings names inputs (Accepted before) =
    λ inputs t. sym (ap (λ (l : Loading). run_of file settings l.asked l.found (inputs file)) (none.loads.told inputs t) ∙ ends_there file settings asked none.scripts e (inputs file) none.is) in
    record {
      names = asked;
      said = [];
      does = without_fault_beside asked [] [] old old new none.loads.does;
      whole = whole_refusal e none.refusal;
      absent = none.absent;
      present = none.present;
      ends = λ inputs t. ap (λ (o : Outcome). o.ending) (is inputs t);
      names_are = λ inputs t. ap (λ (o : Outcome). o.asked) (is inputs t);
      said_is = λ inputs t. ap (λ (o : Outcome). o.said) (is inputs t);
      files_are = λ inputs t. no_file_written (run_behind file settings names inputs (Accepted before)).files old.outputs new.outputs (sym (ap (λ (o : Outcome). o.files) (is inputs t))) none.loads.does.does.outputs_stay;
    }

-- all names are asked for, whatever comes behind
asks_them : (file : List ℕ) (settings : Settings) (asked : List (List ℕ)) (found : Found Scripts) (input : Option (List ℕ)) → IsPrefix asked (run_of file settings asked found input).asked
asks_them file settings asked (Refused e) input = record { rest = []; joined = sym (append-nil asked) }
asks_them file settings asked (Accepted scripts) input = by (program_of scripts)
  where
    over_asks : (report : Recording → Report) (found : Found Recording) → IsPrefix asked (over_capture report (asked ++ file ∷ []) found).asked
    over_asks report (Accepted capture) = record { rest = file ∷ []; joined = refl }
    over_asks report (Refused e) = record { rest = file ∷ []; joined = refl }

    by : (program : Found Program) → IsPrefix asked (running file settings asked program input).asked
    by (Refused e) = record { rest = []; joined = sym (append-nil asked) }
    by (Accepted program) = over_asks (run_report file settings program) (opened file input)

-- stopped before the program was found
pub stopped_scripts : (file : List ℕ) (settings : Settings) (before : Scripts) (names : List (List ℕ)) (old : Outside) (stop : Stop) (new : Outside) → LoadsPart before names old stop new
    → BreaksOff (λ inputs. run_behind file settings names inputs (Accepted before)) old stop new
stopped_scripts file settings before names old stop new part = record {
  names = part.asked;
  said = [];
  complained = [];
  does = does_beside part.asked [] [] old old new part.does;
  cause = part.cause;
  quiet = quiet_none stop;
  names_prefix = λ inputs t. prefix_trans part.asked (loading before names inputs).asked (run_behind file settings names inputs (Accepted before)).asked (part.told inputs t)
      (asks_them file settings (loading before names inputs).asked (loading before names inputs).found (inputs file));
  said_prefix = λ inputs t. prefix_none (run_behind file settings names inputs (Accepted before)).said;
  files_begun = λ inputs t. no_file_begun (run_behind file settings names inputs (Accepted before)).files old.outputs new.outputs part.does.outputs_stay;
  complained_prefix = λ inputs t. prefix_none (run_behind file settings names inputs (Accepted before)).complained;
  complaint_last = λ inputs t. inl refl;
}

-- What was found -----------------------------------------------------------------------------------------------------

-- how a run ends without a program
pub record NoProgram (e : Ending) : Type 0 where
  pub refusal : IsRefusal e
  pub there : (name : List ℕ) → e ≡ NoInput name → ⊥

refused_scripts_end : (scripts : Scripts) (refusal : Refusal) (e : Ending) → ◌≡◌ {A = Found Program} (Refused (refused_at scripts refusal)) (Refused e) → NoProgram e
refused_scripts_end scripts refusal e is =
    let same : ScriptRefused (name_of scripts refusal.file) refusal.place refusal.kind ≡ e = cc in
    record { refusal = subst IsRefusal same tt; there = λ name none. let never : ⊥ = cc in never }

judged_ends : (scripts : Scripts) (rules : List Broken) (e : Ending) → judged scripts rules ≡ Refused e → NoProgram e
judged_ends scripts [] e is = absurd (let never : ⊥ = cc in never)
judged_ends scripts (one ∷ others) e is = refused_scripts_end scripts (record { file = one.place.file; place = one.place.byte; kind = kind_of one.rule }) e is

pub no_program : (scripts : Scripts) (e : Ending) → program_of scripts ≡ Refused e → NoProgram e
unfolding program_of
no_program scripts e is = judged_ends scripts (errors (files_of scripts)) e is

code_of_program : (before : Scripts) (names : List (List ℕ)) (runnable : Runnable) (old new : Outside) (found : Found Scripts) → LoadsAll before names old found new → (program : Found Program) → program_by found ≡ program
    → IsCodeOf (Accepted runnable) program → (one : Program) × (IsProgram before names one old new) × Runs runnable one
code_of_program before names runnable old new (Refused e) loads program is code = absurd (subst (IsCodeOf (Accepted runnable)) (sym is) code)
code_of_program before names runnable old new (Accepted scripts) loads (Refused e) is code = absurd code
code_of_program before names runnable old new (Accepted scripts) loads (Accepted program) is code = (program, record { scripts = scripts; loads = loads; is = is }, code)

pub found_program : (before : Scripts) (names : List (List ℕ)) (runnable : Runnable) (old new : Outside) → FindsCode before names old (Accepted runnable) new
    → (program : Program) × (IsProgram before names program old new) × Runs runnable program
found_program before names runnable old new finds = code_of_program before names runnable old new finds.scripts finds.loads (program_by finds.scripts) refl finds.code

no_code : (before : Scripts) (names : List (List ℕ)) (e : Ending) (old new : Outside) (found : Found Scripts) → LoadsAll before names old found new → (program : Found Program) → program_by found ≡ program
    → IsCodeOf (Refused e) program → HasNoProgram before names e old new
no_code before names e old new (Refused other) loads program is code =
    let same : e ≡ other = subst (IsCodeOf (Refused e)) (sym is) code in
    record {
      scripts = Refused other;
      loads = loads;
      is = ap Refused (sym same);
      refusal = subst IsRefusal (sym same) (loads.refusal other refl);
      absent = λ name none. loads.absent name (ap Refused (sym same ∙ none));
      present = λ there. loads.present (λ name none. there name (same ∙ (let is_none : other ≡ NoInput name = cc in is_none)));
    }
no_code before names e old new (Accepted scripts) loads (Accepted program) is code = absurd code
no_code before names e old new (Accepted scripts) loads (Refused other) is code = record {
  scripts = Accepted scripts;
  loads = loads;
  is = is ∙ ap Refused (sym code);
  refusal = subst IsRefusal (sym code) (no_program scripts other is).refusal;
  absent = λ name none. absurd ((no_program scripts other is).there name (sym code ∙ none));
  present = λ there. loads.present (λ name none. let never : ⊥ = cc in never);
}

pub found_none : (before : Scripts) (names : List (List ℕ)) (e : Ending) (old new : Outside) → FindsCode before names old (Refused e) new → HasNoProgram before names e old new
found_none before names e old new finds = no_code before names e old new finds.scripts finds.loads (program_by finds.scripts) refl finds.code
