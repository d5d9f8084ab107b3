-- What single calls of a shelf change of the outside.
use Rattle.std.proofs.Common.{◌≡◌, ℕ, List, [], ◌++◌, Option, Some, None, IsSome, IfSome, take, drop, Result, Ok, Err, OnOk, IfErr, refl, sym, ap, subst, ◌∙◌, append_assoc}
use Rattle.std.specs.Option.{option_map}
use Rattle.std.proofs.lemmas.List.{append-nil, take-append-drop}
use Rattle.zk_base.specs.declared.shelf.Fault.TheVariants as fault
use Rattle.zk_base.specs.declared.shelf.Wrote.{Wrote}
use Rattle.zk_base.specs.declared.shelf.Wrote.TheVariants as wrote
use Rattle.zk_base.specs.Shelf.{Files, Outside, HasRisen, Puts, IsCreated, with_piece, after_append}
use Rattle.zk_outcome.specs.declared.stop.Stop.{Stop}
use Rattle.zk_outcome.specs.declared.stop.Stop.TheVariants.{ReadFault, WriteFault, NoMemory}
use Rattle.zk_outcome.specs.Stop.{written_by}
use Rattle.zk_outcome.proofs.Doing.{cause_since}
use Rattle.zk_logs.specs.Stopped.{ChangesOutputs, IsStoppedBy}
use Rattle.zk_logs.specs.Handed.{HandsOver, HandsPart}
use Rattle.zk_logs.proofs.OutputLemmas.{both_pieces, no_piece, stays_there}

-- What changes -------------------------------------------------------------------------------------------------

pub only_outputs : (old new : Outside) (outputs : Option Files) → new ≡ record old { outputs = outputs; last = None } → ChangesOutputs old new
only_outputs old new outputs is = is ∙ ap (λ (o : Outside). record old { outputs = o.outputs; last = o.last }) (sym is)

pub failed_with : (old new : Outside) (outputs : Option Files) (count : ℕ) → HasRisen old.write_faults count
    → new ≡ record old { outputs = outputs; write_faults = count; last = Some fault.Write } → IsStoppedBy WriteFault old new
failed_with old new outputs count risen is = (
  (
    subst (λ n. HasRisen old.write_faults n) (sym (ap (λ (o : Outside). o.write_faults) is)) risen,
    ap (λ (o : Outside). o.read_faults) is,
    ap (λ (o : Outside). o.last) is,
  ),
  is ∙ ap (λ (o : Outside). record old { outputs = o.outputs; write_faults = o.write_faults; last = o.last }) (sym is),
)

pub only_both : (old mid new : Outside) → ChangesOutputs old mid → ChangesOutputs mid new → ChangesOutputs old new
only_both old mid new first second = second ∙ ap (λ (o : Outside). record o { outputs = new.outputs; last = new.last }) first

pub stopped_both : (stop : Stop) (old mid new : Outside) → ChangesOutputs old mid → IsStoppedBy stop mid new → IsStoppedBy stop old new
stopped_both ReadFault old mid new first second = absurd second
stopped_both WriteFault old mid new first second = (
  cause_since old mid WriteFault new (record { read = ap (λ (o : Outside). o.read_faults) first; write = ap (λ (o : Outside). o.write_faults) first }) second.0,
  second.1 ∙ ap (λ (o : Outside). record o { outputs = new.outputs; write_faults = new.write_faults; last = new.last }) first,
)
stopped_both NoMemory old mid new first second = only_both old mid new first second

-- Files that are there -----------------------------------------------------------------------------------------

pub stays_created : (old new : Outside) (name own part : List ℕ) → IsCreated old name → new.outputs ≡ option_map (λ files. with_piece files own part) old.outputs → IsCreated new name
stays_created old new name own part there is =
    subst (λ (o : Option Files). IfSome o (λ files. IsSome (files name))) (sym is) (stays_there old.outputs name own part there)

-- What is handed over ------------------------------------------------------------------------------------------

-- where adding to an output is stopped
pub appended_stopped : (wrote : Wrote) (name text : List ℕ) (old new : Outside) → Puts (after_append old name) old text wrote new
    → IfErr (written_by wrote) (λ stop. HandsPart name text old stop new)
appended_stopped wrote.Done name text old new puts = tt
appended_stopped wrote.Failed name text old new puts = record {
  handed = take puts.length text;
  rest = drop puts.length text;
  joined = sym (take-append-drop puts.length text);
  outputs = ap (λ (o : Outside). o.outputs) puts.left;
  stopped = failed_with old new _ puts.count puts.risen puts.left;
}
appended_stopped wrote.NoMemory name text old new puts = record {
  handed = [];
  rest = text;
  joined = refl;
  outputs = ap (λ (o : Outside). o.outputs) puts ∙ no_piece old.outputs name;
  stopped = only_outputs old new old.outputs puts;
}

-- a prefix of what is there of a longer text
pub longer_part : (stop : Stop) (name text more : List ℕ) (old new : Outside) → HandsPart name text old stop new → HandsPart name (text ++ more) old stop new
longer_part stop name text more old new part = record {
  handed = part.handed;
  rest = part.rest ++ more;
  joined = ap (λ t. t ++ more) part.joined ∙ append_assoc part.handed part.rest more;
  outputs = part.outputs;
  stopped = part.stopped;
}

-- all of a text, and then a prefix of what is behind it
pub later_part : (stop : Stop) (name text more : List ℕ) (old mid new : Outside) → mid ≡ after_append old name text → HandsPart name more mid stop new
    → HandsPart name (text ++ more) old stop new
later_part stop name text more old mid new first part = record {
  handed = text ++ part.handed;
  rest = part.rest;
  joined = ap (λ t. text ++ t) part.joined ∙ sym (append_assoc text part.handed part.rest);
  outputs = part.outputs ∙ ap (λ (o : Outside). option_map (λ (files : Files). with_piece files name part.handed) o.outputs) first ∙ both_pieces old.outputs name text part.handed;
  stopped = stopped_both stop old mid new (only_outputs old mid _ first) part.stopped;
}

-- two texts
pub hands_both : (name text more : List ℕ) (old mid new : Outside) → mid ≡ after_append old name text → new ≡ after_append mid name more → HandsOver name (text ++ more) old new []
hands_both name text more old mid new first second = record {
  handed = text ++ more;
  joined = sym (append-nil (text ++ more));
  outputs = ap (λ (o : Outside). o.outputs) second ∙ ap (λ (o : Outside). option_map (λ (files : Files). with_piece files name more) o.outputs) first ∙ both_pieces old.outputs name text more;
  only = only_both old mid new (only_outputs old mid _ first) (only_outputs mid new _ second);
}

-- the second of two texts
pub second_handed : (answer : Result (Unit {0}) Stop) (name text more : List ℕ) (old mid new : Outside) → mid ≡ after_append old name text
    → OnOk answer (new ≡ after_append mid name more) → OnOk answer (HandsOver name (text ++ more) old new [])
second_handed (Ok done) name text more old mid new first second = hands_both name text more old mid new first second
second_handed (Err stop) name text more old mid new first second = tt

pub second_stopped : (answer : Result (Unit {0}) Stop) (name text more : List ℕ) (old mid new : Outside) → mid ≡ after_append old name text
    → IfErr answer (λ stop. HandsPart name more mid stop new) → IfErr answer (λ stop. HandsPart name (text ++ more) old stop new)
second_stopped (Ok done) name text more old mid new first part = tt
second_stopped (Err stop) name text more old mid new first part = later_part stop name text more old mid new first part
