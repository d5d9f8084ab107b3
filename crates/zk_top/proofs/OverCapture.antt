-- What is done over a capture, or over none.
use Rattle.std.proofs.Common.{◌≡◌, ℕ, inl, List, [], ◌∷◌, Option, Some, refl, sym, ap, subst, ◌∙◌}
use Rattle.std.specs.Option.{option_map}
use Rattle.zk_base.specs.declared.endings.Ending.{Ending}
use Rattle.zk_base.specs.declared.endings.Ending.TheVariants as ending
use Rattle.zk_base.specs.declared.time.Moment.{Moment}
use Rattle.zk_base.specs.Shelf.{Files, Outside}
use Rattle.zk_base.specs.declared.capture.CaptureEnding.{CaptureEnding}
use Rattle.zk_base.specs.declared.capture.CaptureEnding.TheVariants.{Whole, Cut}
use Rattle.zk_outcome.specs.declared.found.Found.{Found}
use Rattle.zk_outcome.specs.declared.found.Found.TheVariants.{Accepted, Refused}
use Rattle.zk_outcome.specs.declared.stop.Stop.{Stop}
use Rattle.zk_outcome.specs.Found.{IsRefusal, Finds}
use Rattle.zk_outcome.specs.Parts.{DoesWithoutFault, DoesAll, DoesPart}
use Rattle.zk_outcome.specs.Prefix.{IsPrefix}
use Rattle.zk_outcome.proofs.Doing.{prefix_none, prefix_of_none, prefix_trans, without_fault_both, does_both_part}
use Rattle.zk_logs.specs.Outputs.{files_over, OutputsBegun}
use Rattle.zk_io.specs.Opened.{Recording, opened, end_of_capture}
use Rattle.zk_top.specs.Outcome.{Report, no_files, over_capture}
use Rattle.zk_top.specs.Parts.{IsOfCommand, Fulfils, BreaksOff, but_outputs}
use Rattle.zk_top.specs.Run.{IsNotStopped}
use Rattle.zk_top.specs.Writing.{GivesAll, GivesPart}
use Rattle.zk_top.proofs.Giving.{all_beside, cause_of_beside, does_beside, no_file_begun, no_file_written, part_beside, without_fault_beside}

-- Endings -------------------------------------------------------------------------------------------------------

pub whole_refusal : (e : Ending) → IsRefusal e → IsNotStopped e
whole_refusal ending.Done is = absurd is
whole_refusal (ending.Usage word) is = absurd is
whole_refusal (ending.ScriptRefused file place kind) is = tt
whole_refusal (ending.NoInput name) is = tt
whole_refusal (ending.CaptureRefused name place) is = tt
whole_refusal (ending.CutShort name place) is = absurd is
whole_refusal ending.ReadFault is = is
whole_refusal ending.WriteFault is = is
whole_refusal ending.NoMemory is = is
whole_refusal (ending.Flood moment) is = absurd is

pub command_refusal : (e : Ending) → IsRefusal e → IsOfCommand e
command_refusal ending.Done is = absurd is
command_refusal (ending.Usage word) is = is
command_refusal (ending.ScriptRefused file place kind) is = tt
command_refusal (ending.NoInput name) is = tt
command_refusal (ending.CaptureRefused name place) is = tt
command_refusal (ending.CutShort name place) is = absurd is
command_refusal ending.ReadFault is = is
command_refusal ending.WriteFault is = is
command_refusal ending.NoMemory is = is
command_refusal (ending.Flood moment) is = absurd is

whole_end : (file : List ℕ) (e : CaptureEnding) → IsNotStopped (end_of_capture file e)
whole_end file Whole = tt
whole_end file (Cut place) = tt

not_absent : (file : List ℕ) (e : CaptureEnding) (name : List ℕ) → end_of_capture file e ≡ ending.NoInput name → ⊥
not_absent file Whole name same = let never : ⊥ = cc in never
not_absent file (Cut place) name same = let never : ⊥ = cc in never

-- What is wanted over a capture -----------------------------------------------------------------------------------

asked : (report : Recording → Report) (names : List (List ℕ)) (found : Found Recording) → (over_capture report names found).asked ≡ names
asked report names (Accepted capture) = refl
asked report names (Refused e) = refl

-- stopped before its capture was found
pub broken_before : (report : Recording → Report) (file : List ℕ) (old : Outside) (stop : Stop) (new : Outside) → DoesPart (file ∷ []) [] [] old stop new
    → BreaksOff (λ inputs. over_capture report (file ∷ []) (opened file (inputs file))) old stop new
broken_before report file old stop new part = record {
  names = part.names_part;
  said = part.said_part;
  complained = part.complained_part;
  does = does_beside part.names_part part.said_part part.complained_part old old new part.does;
  cause = part.cause;
  quiet = part.quiet;
  files_begun = λ inputs told. no_file_begun (over_capture report (file ∷ []) (opened file (inputs file))).files old.outputs new.outputs part.does.outputs_stay;
  names_prefix = λ inputs told. subst (λ names. IsPrefix part.names_part names) (sym (asked report (file ∷ []) (opened file (inputs file)))) part.names_prefix;
  said_prefix = λ inputs told. let whole : List ℕ = (over_capture report (file ∷ []) (opened file (inputs file))).said in
      prefix_trans part.said_part [] whole part.said_prefix (prefix_none whole);
  complained_prefix = λ inputs told. let whole : List ℕ = (over_capture report (file ∷ []) (opened file (inputs file))).complained in
      prefix_trans part.complained_part [] whole part.complained_prefix (prefix_none whole);
  complaint_last = λ inputs told. inl (prefix_of_none part.complained_part part.complained_prefix);
}

-- what was given out is what the report says
pub record IsReport (text : List ℕ) (written : Files) (report : Report) : Type 0 where
  pub said : text ≡ report.said
  pub files : written ≡ report.files

-- what stands beside outputs that were the same before
pub beside_from : (old mid new : Outside) → mid.outputs ≡ old.outputs → but_outputs mid new ≡ but_outputs old new
beside_from old mid new same = ap (λ outputs. record new { outputs = outputs }) same

-- stopped while it was given out
pub broken_within : (report : Recording → Report) (file : List ℕ) (capture : Recording) (said : List ℕ) (files : Files) (old mid : Outside) (stop : Stop) (new : Outside)
    → Finds file (opened file) old (Accepted capture) mid → ((inputs : Files) → old.inputs ≡ Some inputs → IsReport said files (report capture))
    → GivesPart said files mid stop new → BreaksOff (λ inputs. over_capture report (file ∷ []) (opened file (inputs file))) old stop new
broken_within report file capture said files old mid stop new found reported gives =
    let same : mid.outputs ≡ old.outputs = found.does.does.outputs_stay in
    let part : DoesPart (file ∷ []) said [] old stop (but_outputs old new) = subst (λ now. DoesPart (file ∷ []) said [] old stop now) (beside_from old mid new same)
    (does_both_part (file ∷ []) [] [] said [] old mid stop (but_outputs mid new) found.does gives.says) in
    record {
      names = part.names_part;
      said = part.said_part;
      complained = part.complained_part;
      does = part.does;
      cause = cause_of_beside old old stop new part.cause;
      quiet = part.quiet;
      names_prefix = λ inputs told. subst (λ names. IsPrefix part.names_part names) (sym (asked report (file ∷ []) (opened file (inputs file)))) part.names_prefix;
      said_prefix = λ inputs told. subst (λ text. IsPrefix part.said_part text)
          ((reported inputs told).said ∙ ap (λ r. (over_capture report (file ∷ []) r).said) (found.told inputs told)) part.said_prefix;
      files_begun = λ inputs told. subst (λ written. OutputsBegun written old.outputs new.outputs)
          ((reported inputs told).files ∙ ap (λ r. (over_capture report (file ∷ []) r).files) (found.told inputs told))
          (subst (λ before. OutputsBegun files before new.outputs) same gives.begun);
      complained_prefix = λ inputs told. let whole : List ℕ = (over_capture report (file ∷ []) (opened file (inputs file))).complained in
          prefix_trans part.complained_part [] whole part.complained_prefix (prefix_none whole);
      complaint_last = λ inputs told. inl (prefix_of_none part.complained_part part.complained_prefix);
    }

-- how a command ends that read a capture to its end, or whose run ended in a flood
pub record EndsItself (e : Ending) : Type 0 where
  pub whole : IsNotStopped e
  pub there : (name : List ℕ) → e ≡ ending.NoInput name → ⊥

pub capture_ends : (file : List ℕ) (e : Ending) (end : CaptureEnding) → e ≡ end_of_capture file end → EndsItself e
capture_ends file e end is = record {
  whole = subst IsNotStopped (sym is) (whole_end file end);
  there = λ name same. not_absent file end name (sym is ∙ same);
}

pub flood_ends : (moment : Moment) → EndsItself (ending.Flood moment)
flood_ends moment = record { whole = tt; there = λ name same. let never : ⊥ = cc in never }

-- all was given out
pub fulfilled : (report : Recording → Report) (file : List ℕ) (capture : Recording) (said : List ℕ) (files : Files) (old mid : Outside) (e : Ending) (new : Outside)
    → Finds file (opened file) old (Accepted capture) mid → EndsItself e
    → ((inputs : Files) → old.inputs ≡ Some inputs → (IsReport said files (report capture)) × (e ≡ (report capture).ending))
    → GivesAll said files mid new → Fulfils (λ inputs. over_capture report (file ∷ []) (opened file (inputs file))) [] old e new
fulfilled report file capture said files old mid e new found ends reported gives =
    let same : mid.outputs ≡ old.outputs = found.does.does.outputs_stay in
    record {
      names = file ∷ [];
      said = said;
      does = subst (λ now. DoesWithoutFault (file ∷ []) said [] old now) (beside_from old mid new same)
          (without_fault_both (file ∷ []) [] [] said [] [] old mid (but_outputs mid new) found.does gives.says.all);
      whole = ends.whole;
      absent = λ name is. absurd (ends.there name is);
      present = λ other. gives.says.present ∙ found.present (λ name is. let never : ⊥ = cc in never);
      ends = λ inputs told. (reported inputs told).1 ∙ ap (λ r. (over_capture report (file ∷ []) r).ending) (found.told inputs told);
      names_are = λ inputs told. sym (asked report (file ∷ []) (opened file (inputs file)));
      said_is = λ inputs told. (reported inputs told).0.said ∙ ap (λ r. (over_capture report (file ∷ []) r).said) (found.told inputs told);
      files_are = λ inputs told.
          let written : files ≡ (over_capture report (file ∷ []) (opened file (inputs file))).files =
          (reported inputs told).0.files ∙ ap (λ r. (over_capture report (file ∷ []) r).files) (found.told inputs told) in
          gives.outputs ∙ ap (λ before. option_map (files_over files) before) same ∙ ap (λ w. option_map (files_over w) old.outputs) written;
    }

-- what is said alone
pub said_alone : (said : List ℕ) (old new : Outside) → DoesAll [] said [] old new → GivesAll said no_files old new
said_alone said old new says = record {
  says = all_beside [] said [] old old new says;
  outputs = no_file_written no_files old.outputs new.outputs refl says.all.does.outputs_stay;
}

pub said_part_alone : (said : List ℕ) (old : Outside) (stop : Stop) (new : Outside) → DoesPart [] said [] old stop new → GivesPart said no_files old stop new
said_part_alone said old stop new part = record {
  says = part_beside [] said [] old old stop new part;
  begun = no_file_begun no_files old.outputs new.outputs part.does.outputs_stay;
}

-- there is no capture
pub fulfilled_refused : (report : Recording → Report) (file : List ℕ) (old : Outside) (e : Ending) (new : Outside) → Finds file (opened file) old (Refused e) new
    → Fulfils (λ inputs. over_capture report (file ∷ []) (opened file (inputs file))) [] old e new
fulfilled_refused report file old e new found = record {
  names = file ∷ [];
  said = [];
  does = without_fault_beside (file ∷ []) [] [] old old new found.does;
  whole = whole_refusal e (found.refusal e refl);
  absent = λ name same. found.absent name (ap Refused same);
  present = λ other. found.present (λ name same. other name (let is : e ≡ ending.NoInput name = cc in is));
  ends = λ inputs told. ap (λ r. (over_capture report (file ∷ []) r).ending) (found.told inputs told);
  names_are = λ inputs told. sym (asked report (file ∷ []) (opened file (inputs file)));
  said_is = λ inputs told. ap (λ r. (over_capture report (file ∷ []) r).said) (found.told inputs told);
  files_are = λ inputs told. no_file_written (over_capture report (file ∷ []) (opened file (inputs file))).files old.outputs new.outputs
      (sym (ap (λ r. (over_capture report (file ∷ []) r).files) (found.told inputs told))) found.does.does.outputs_stay;
}
