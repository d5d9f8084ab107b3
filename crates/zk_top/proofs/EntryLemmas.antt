-- From what the parts of a run do to what a run does.
use Rattle.std.proofs.Common.{◌≡◌, ℕ, List, [], ◌∷◌, ◌++◌, Option, Some, Result, Ok, Err, inl, inr, refl, sym, ap, subst, ◌∙◌}
use Rattle.std.specs.Option.{option_map}
use Rattle.std.proofs.lemmas.List.{append-nil}
use Rattle.zk_base.specs.declared.endings.Ending.{Ending}
use Rattle.zk_base.specs.declared.endings.Ending.TheVariants.{Done, Usage}
use Rattle.zk_base.specs.Shelf.{Files, Outside, HasRisen, appended}
use Rattle.zk_typed.specs.Program.{Program}
use Rattle.zk_load.specs.Loading.{Scripts, loading}
use Rattle.zk_outcome.specs.declared.found.Found.{Found}
use Rattle.zk_outcome.specs.declared.found.Found.TheVariants.{Accepted, Refused}
use Rattle.zk_outcome.specs.declared.stop.Stop.{Stop}
use Rattle.zk_command.specs.Command.{Command, ListItems, RunScripts, Generate, Help, Version, understand}
use Rattle.zk_top.specs.Compiling.{program_by}
use Rattle.zk_command.specs.Complaint.{complaint_of}
use Rattle.zk_command.specs.declared.command.Settings.{Settings}
use Rattle.zk_io.specs.Opened.{Recording, opened}
use Rattle.zk_top.specs.Outcome.{Report, no_files, ending_so, over_capture, list_report, run_report, running, run_behind, run_of, generated, generated_name, summary_report, summing_up, outcome_of, outcome}
use Rattle.zk_top.specs.Script.{default_scripts, program_of, scripts_before}
use Rattle.zk_outcome.specs.Parts.{DoesAll, DoesPart}
use Rattle.zk_outcome.specs.Prefix.{IsPrefix}
use Rattle.zk_top.specs.Parts.{Fulfils, BreaksOff, but_outputs}
use Rattle.zk_top.specs.Run.{IsDone, StaysWithin}
use Rattle.zk_top.proofs.Giving.{does_beside, without_fault_beside, no_file_begun, no_file_written, whole_begun}
use Rattle.zk_outcome.proofs.Doing.{prefix_of_none, prefix_all, does_nothing_without_fault, does_both, without_fault_both, cause_since}

-- Of what is wanted: the complaint is that of the ending -----------------------------------------------------------

plain_over : (report : Recording → Report) (names : List (List ℕ)) (found : Found Recording)
    → (over_capture report names found).complained ≡ complaint_of (over_capture report names found).ending
plain_over report names (Accepted capture) = refl
plain_over report names (Refused e) = refl

plain_running : (file : List ℕ) (settings : Settings) (asked : List (List ℕ)) (found : Found Program) (input : Option (List ℕ))
    → (running file settings asked found input).complained ≡ complaint_of (running file settings asked found input).ending
plain_running file settings asked (Accepted program) input =
    plain_over (run_report file settings program) (asked ++ file ∷ []) (opened file input)
plain_running file settings asked (Refused e) input = refl

plain_scripts : (file : List ℕ) (settings : Settings) (asked : List (List ℕ)) (found : Found Scripts) (input : Option (List ℕ))
    → (run_of file settings asked found input).complained ≡ complaint_of (run_of file settings asked found input).ending
plain_scripts file settings asked (Accepted scripts) input = plain_running file settings asked (program_of scripts) input
plain_scripts file settings asked (Refused e) input = refl

plain_behind : (file : List ℕ) (settings : Settings) (names : List (List ℕ)) (inputs : Files) (before : Found Scripts)
    → (run_behind file settings names inputs before).complained ≡ complaint_of (run_behind file settings names inputs before).ending
plain_behind file settings names inputs (Refused e) = refl
plain_behind file settings names inputs (Accepted before) =
    plain_scripts file settings (loading before names inputs).asked (loading before names inputs).found (inputs file)

plain_summary : (bytes : List ℕ) (found : Found Program) → (summing_up bytes found).complained ≡ complaint_of (summing_up bytes found).ending
plain_summary bytes (Refused e) = refl
plain_summary bytes (Accepted program) = plain_over (summary_report program bytes) [] (opened generated_name (Some bytes))

plain_of : (asked : Result Command ℕ) (inputs : Files) → (outcome_of asked inputs).complained ≡ complaint_of (outcome_of asked inputs).ending
plain_of (Err word) inputs = refl
plain_of (Ok (ListItems file)) inputs = plain_over (list_report file) (file ∷ []) (opened file (inputs file))
plain_of (Ok (RunScripts settings file scripts)) inputs =
    plain_behind file settings scripts inputs (scripts_before settings.bare)
plain_of (Ok (Generate start count)) inputs = plain_summary (generated start count) (program_by default_scripts)
plain_of (Ok Help) inputs = refl
plain_of (Ok Version) inputs = refl

plain : (words : List (List ℕ)) (inputs : Files) → (outcome words inputs).complained ≡ complaint_of (outcome words inputs).ending
plain words inputs = plain_of (understand words) inputs

-- A run ------------------------------------------------------------------------------------------------------------

pub is_done : (words : List (List ℕ)) (inputs : Files) (old : Outside) (ending : Ending) (new : Outside) → old.inputs ≡ Some inputs
    → Fulfils (outcome words) (complaint_of ending) old ending new → IsDone (outcome words inputs) old ending new
is_done words inputs old ending new told does = record {
  ends = does.ends inputs told;
  files = does.files_are inputs told;
  said = does.does.does.says ∙ ap (appended old.said) (does.said_is inputs told);
  complained = does.does.does.complains ∙ ap (appended old.complained) (ap complaint_of (does.ends inputs told) ∙ sym (plain words inputs));
  started = does.does.does.starts ∙ ap (λ names. option_map (λ before. before ++ names) old.started) (does.names_are inputs told);
}

pub within_of_done : (words : List (List ℕ)) (inputs : Files) (old : Outside) (ending : Ending) (new : Outside) → old.inputs ≡ Some inputs
    → Fulfils (outcome words) (complaint_of ending) old ending new → StaysWithin (outcome words inputs) old new
within_of_done words inputs old ending new told does =
    let done : IsDone (outcome words inputs) old ending new = is_done words inputs old ending new told does in
    record {
      files = whole_begun (outcome words inputs).files old.outputs new.outputs (does.files_are inputs told);
      said = (outcome words inputs).said;
      said_prefix = prefix_all (outcome words inputs).said;
      said_is = done.said;
      complained = (outcome words inputs).complained;
      complained_prefix = prefix_all (outcome words inputs).complained;
      complained_is = done.complained;
      started = (outcome words inputs).asked;
      started_prefix = prefix_all (outcome words inputs).asked;
      started_is = done.started;
      complaint_last = inr (record { files = done.files; said = done.said; started = done.started });
    }

pub within_of_broken : (words : List (List ℕ)) (inputs : Files) (old : Outside) (stop : Stop) (new : Outside) → old.inputs ≡ Some inputs
    → BreaksOff (outcome words) old stop new → StaysWithin (outcome words inputs) old new
within_of_broken words inputs old stop new told broken = record {
  files = broken.files_begun inputs told;
  said = broken.said;
  said_prefix = broken.said_prefix inputs told;
  said_is = broken.does.says;
  complained = broken.complained;
  complained_prefix = broken.complained_prefix inputs told;
  complained_is = broken.does.complains;
  started = broken.names;
  started_prefix = broken.names_prefix inputs told;
  started_is = broken.does.starts;
  complaint_last = elim (broken.complaint_last inputs told) [
    | inl none ↦ inl none
    | inr all ↦ inr (record {
      files = all.files;
      said = broken.does.says ∙ ap (appended old.said) all.all_said;
      started = broken.does.starts ∙ ap (appended old.started) all.asked;
    })
  ];
}

-- with the complaint
pub with_complaint : (words : List (List ℕ)) (old mid : Outside) (ending : Ending) (new : Outside) → Fulfils (outcome words) [] old ending mid
    → DoesAll [] [] (complaint_of ending) mid new → Fulfils (outcome words) (complaint_of ending) old ending new
with_complaint words old mid ending new does complains = record {
  names = does.names ++ [];
  said = does.said ++ [];
  does = without_fault_both does.names [] does.said [] [] (complaint_of ending) old (but_outputs old mid) (but_outputs old new) does.does
      (without_fault_beside [] [] (complaint_of ending) old mid new complains.all);
  whole = does.whole;
  absent = λ name is. subst (HasRisen old.absences) (sym complains.present) (does.absent name is);
  present = λ other. complains.present ∙ does.present other;
  ends = does.ends;
  names_are = λ inputs told. append-nil does.names ∙ does.names_are inputs told;
  said_is = λ inputs told. append-nil does.said ∙ does.said_is inputs told;
  files_are = λ inputs told. complains.all.does.outputs_stay ∙ does.files_are inputs told;
}

-- stopped while it complains
pub broken_complaint : (words : List (List ℕ)) (old mid : Outside) (ending : Ending) (stop : Stop) (new : Outside) → Fulfils (outcome words) [] old ending mid
    → DoesPart [] [] (complaint_of ending) mid stop new → BreaksOff (outcome words) old stop new
broken_complaint words old mid ending stop new does part =
    let no_names : part.names_part ≡ [] = prefix_of_none part.names_part part.names_prefix in
    let no_said : part.said_part ≡ [] = prefix_of_none part.said_part part.said_prefix in
    let names : does.names ++ part.names_part ≡ does.names = ap (λ xs. does.names ++ xs) no_names ∙ append-nil does.names in
    let said : does.said ++ part.said_part ≡ does.said = ap (λ xs. does.said ++ xs) no_said ∙ append-nil does.said in
    record {
      names = does.names ++ part.names_part;
      said = does.said ++ part.said_part;
      complained = part.complained_part;
      does = does_both does.names part.names_part does.said part.said_part [] part.complained_part old (but_outputs old mid) (but_outputs old new) does.does.does
          (does_beside part.names_part part.said_part part.complained_part old mid new part.does);
      cause = cause_since old mid stop new (record { read = does.does.faults.read; write = does.does.faults.write }) part.cause;
      quiet = part.quiet;
      names_prefix = λ inputs told. subst (λ xs. IsPrefix xs (outcome words inputs).asked) (sym (names ∙ does.names_are inputs told)) (prefix_all (outcome words inputs).asked);
      said_prefix = λ inputs told. subst (λ xs. IsPrefix xs (outcome words inputs).said) (sym (said ∙ does.said_is inputs told)) (prefix_all (outcome words inputs).said);
      files_begun = λ inputs told. whole_begun (outcome words inputs).files old.outputs new.outputs (part.does.outputs_stay ∙ does.files_are inputs told);
      complained_prefix = λ inputs told. subst (λ text. IsPrefix part.complained_part text) (ap complaint_of (does.ends inputs told) ∙ sym (plain words inputs)) part.complained_prefix;
      complaint_last = λ inputs told. inr (record {
        asked = names ∙ does.names_are inputs told;
        all_said = said ∙ does.said_is inputs told;
        files = part.does.outputs_stay ∙ does.files_are inputs told;
      });
    }

-- words that are no command
pub not_understood : (words : List (List ℕ)) (word : ℕ) (old : Outside) → understand words ≡ Err word → Fulfils (outcome words) [] old (Usage word) old
not_understood words word old is = record {
  names = [];
  said = [];
  does = does_nothing_without_fault old;
  whole = tt;
  absent = λ name same. absurd (let never : ⊥ = cc in never);
  present = λ other. refl;
  ends = λ inputs told. ap (λ asked. (outcome_of asked inputs).ending) (sym is);
  names_are = λ inputs told. ap (λ asked. (outcome_of asked inputs).asked) (sym is);
  said_is = λ inputs told. ap (λ asked. (outcome_of asked inputs).said) (sym is);
  files_are = λ inputs told. no_file_written (outcome words inputs).files old.outputs old.outputs (ap (λ asked. (outcome_of asked inputs).files) is) refl;
}

-- A text alone ---------------------------------------------------------------------------------------------------

pub answered : (text : List ℕ) (old new : Outside) → DoesAll [] text [] old new → Fulfils (λ _. ending_so Done text []) [] old Done new
answered text old new says = record {
  names = [];
  said = text;
  does = without_fault_beside [] text [] old old new says.all;
  whole = tt;
  absent = λ name same. absurd (let never : ⊥ = cc in never);
  present = λ other. says.present;
  ends = λ inputs told. refl;
  names_are = λ inputs told. refl;
  said_is = λ inputs told. refl;
  files_are = λ inputs told. no_file_written no_files old.outputs new.outputs refl says.all.does.outputs_stay;
}

pub answer_broken : (text : List ℕ) (old : Outside) (stop : Stop) (new : Outside) → DoesPart [] text [] old stop new → BreaksOff (λ _. ending_so Done text []) old stop new
answer_broken text old stop new part = record {
  names = part.names_part;
  said = part.said_part;
  complained = part.complained_part;
  does = does_beside part.names_part part.said_part part.complained_part old old new part.does;
  cause = part.cause;
  quiet = part.quiet;
  names_prefix = λ inputs told. part.names_prefix;
  said_prefix = λ inputs told. part.said_prefix;
  files_begun = λ inputs told. no_file_begun no_files old.outputs new.outputs part.does.outputs_stay;
  complained_prefix = λ inputs told. part.complained_prefix;
  complaint_last = λ inputs told. inl (prefix_of_none part.complained_part part.complained_prefix);
}
