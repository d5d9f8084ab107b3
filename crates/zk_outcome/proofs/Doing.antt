-- What parts of a run do, put together.
use Rattle.std.proofs.Common.{◌≡◌, ℕ, List, [], ◌∷◌, ◌++◌, take, drop, Option, Some, None, OnOk, IfErr, refl, sym, ap, subst, ◌∙◌, append_assoc}
use Rattle.std.proofs.lemmas.List.{take-append-drop, append-nil}
use Rattle.zk_base.specs.declared.shelf.Wrote.{Wrote}
use Rattle.zk_base.specs.declared.shelf.Wrote.TheVariants as wrote
use Rattle.zk_base.specs.Shelf.{Outside, HasRisen, FailsToStart, OpensInput, Puts, PutsPrefix, after_say, after_complaint, appended, without_fault}
use Rattle.zk_outcome.specs.declared.stop.Stop.{Stop}
use Rattle.zk_outcome.specs.declared.stop.Stop.TheVariants.{ReadFault, WriteFault, NoMemory}
use Rattle.zk_outcome.specs.Parts.{SameFaults, HasCause, IsQuiet, Does, DoesWithoutFault, DoesAll, DoesPart}
use Rattle.zk_outcome.specs.Prefix.{IsPrefix}
use Rattle.zk_outcome.specs.Stop.{written_by}

-- Prefixes -------------------------------------------------------------------------------------------------

pub prefix_none : {X : Type 0} (whole : List X) → IsPrefix [] whole
prefix_none whole = record { rest = whole; joined = refl }

pub prefix_all : {X : Type 0} (whole : List X) → IsPrefix whole whole
prefix_all whole = record { rest = []; joined = sym (append-nil whole) }

pub prefix_take : {X : Type 0} (n : ℕ) (whole : List X) → IsPrefix (take n whole) whole
prefix_take n whole = record { rest = drop n whole; joined = sym (take-append-drop n whole) }

-- behind a common prefix
pub prefix_behind : {X : Type 0} (before part whole : List X) → IsPrefix part whole → IsPrefix (before ++ part) (before ++ whole)
prefix_behind before part whole prefix = record { rest = prefix.rest; joined = ap (λ xs. before ++ xs) prefix.joined ∙ sym (append_assoc before part prefix.rest) }

pub prefix_trans : {X : Type 0} (a b c : List X) → IsPrefix a b → IsPrefix b c → IsPrefix a c
prefix_trans a b c ab bc = record { rest = ab.rest ++ bc.rest; joined = bc.joined ∙ ap (λ xs. xs ++ bc.rest) ab.joined ∙ append_assoc a ab.rest bc.rest }

-- nothing but nothing is a prefix of nothing
pub prefix_of_none : {X : Type 0} (part : List X) → IsPrefix part [] → part ≡ []
prefix_of_none [] prefix = refl
prefix_of_none (x ∷ xs) prefix = let is : [] ≡ x ∷ (xs ++ prefix.rest) = prefix.joined in absurd (let never : ⊥ = cc in never)

-- What is told, after nothing and after two parts ----------------------------------------------------------

pub none_appended : (o : Option (List ℕ)) → o ≡ appended o []
none_appended None = refl
none_appended (Some bytes) = ap Some (sym (append-nil bytes))

none_named : (o : Option (List (List ℕ))) → o ≡ appended o []
none_named None = refl
none_named (Some names) = ap Some (sym (append-nil names))

both_appended : (o : Option (List ℕ)) (a b : List ℕ) → appended (appended o a) b ≡ appended o (a ++ b)
both_appended None a b = refl
both_appended (Some bytes) a b = ap Some (append_assoc bytes a b)

both_named : (o : Option (List (List ℕ))) (a b : List (List ℕ)) → appended (appended o a) b ≡ appended o (a ++ b)
both_named None a b = refl
both_named (Some names) a b = ap Some (append_assoc names a b)

-- Parts of a run ---------------------------------------------------------------------------------------------

pub same_faults : (old : Outside) → SameFaults old old
same_faults old = record { read = refl; write = refl }

-- where all of this stays
pub does_only : (old new : Outside) → new.inputs ≡ old.inputs → new.outputs ≡ old.outputs → new.said ≡ old.said → new.complained ≡ old.complained → new.started ≡ old.started
    → Does [] [] [] old new
does_only old new inputs outputs said complained started = record {
  inputs_stay = inputs;
  outputs_stay = outputs;
  says = said ∙ none_appended old.said;
  complains = complained ∙ none_appended old.complained;
  starts = started ∙ none_named old.started;
}

pub does_nothing : (old : Outside) → Does [] [] [] old old
does_nothing old = does_only old old refl refl refl refl refl

pub does_nothing_without_fault : (old : Outside) → DoesWithoutFault [] [] [] old old
does_nothing_without_fault old = record { does = does_nothing old; faults = same_faults old }

-- one part after another
pub does_both : (n m : List (List ℕ)) (s t c d : List ℕ) (a b e : Outside) → Does n s c a b → Does m t d b e → Does (n ++ m) (s ++ t) (c ++ d) a e
does_both n m s t c d a b e first second = record {
  inputs_stay = second.inputs_stay ∙ first.inputs_stay;
  outputs_stay = second.outputs_stay ∙ first.outputs_stay;
  says = second.says ∙ ap (λ o. appended o t) first.says ∙ both_appended a.said s t;
  complains = second.complains ∙ ap (λ o. appended o d) first.complains ∙ both_appended a.complained c d;
  starts = second.starts ∙ ap (λ o. appended o m) first.starts ∙ both_named a.started n m;
}

pub without_fault_both : (n m : List (List ℕ)) (s t c d : List ℕ) (a b e : Outside)
    → DoesWithoutFault n s c a b → DoesWithoutFault m t d b e → DoesWithoutFault (n ++ m) (s ++ t) (c ++ d) a e
without_fault_both n m s t c d a b e first second = record {
  does = does_both n m s t c d a b e first.does second.does;
  faults = record { read = second.faults.read ∙ first.faults.read; write = second.faults.write ∙ first.faults.write };
}

pub does_both_all : (n m : List (List ℕ)) (s t c d : List ℕ) (a b e : Outside) → DoesAll n s c a b → DoesAll m t d b e → DoesAll (n ++ m) (s ++ t) (c ++ d) a e
does_both_all n m s t c d a b e first second = record {
  all = without_fault_both n m s t c d a b e first.all second.all;
  present = second.present ∙ first.present;
}

-- a count that has risen since no fault
risen_since : (before old new : ℕ) → old ≡ before → HasRisen old new → HasRisen before new
risen_since before old new same risen = subst (λ n. HasRisen n new) same risen

pub cause_since : (a b : Outside) (stop : Stop) (e : Outside) → SameFaults a b → HasCause b stop e → HasCause a stop e
cause_since a b ReadFault e same cause = (risen_since a.read_faults b.read_faults e.read_faults same.read cause.0, cause.1 ∙ same.write, cause.2)
cause_since a b WriteFault e same cause = (risen_since a.write_faults b.write_faults e.write_faults same.write cause.0, cause.1 ∙ same.read, cause.2)
cause_since a b NoMemory e same cause = record { read = cause.read ∙ same.read; write = cause.write ∙ same.write }

-- a part that is stopped, after one that isn't and has not complained
pub does_both_part : (n m : List (List ℕ)) (s t d : List ℕ) (a b : Outside) (stop : Stop) (e : Outside)
    → DoesWithoutFault n s [] a b → DoesPart m t d b stop e → DoesPart (n ++ m) (s ++ t) d a stop e
does_both_part n m s t d a b stop e first second = record {
  names_part = n ++ second.names_part;
  names_prefix = prefix_behind n second.names_part m second.names_prefix;
  said_part = s ++ second.said_part;
  said_prefix = prefix_behind s second.said_part t second.said_prefix;
  complained_part = second.complained_part;
  complained_prefix = second.complained_prefix;
  does = does_both n second.names_part s second.said_part [] second.complained_part a b e first.does second.does;
  cause = cause_since a b stop e first.faults second.cause;
  quiet = second.quiet;
}

-- a prefix of a prefix
pub does_part_of : (n m : List (List ℕ)) (s t c d : List ℕ) (a : Outside) (stop : Stop) (e : Outside)
    → IsPrefix n m → IsPrefix s t → IsPrefix c d → DoesPart n s c a stop e → DoesPart m t d a stop e
does_part_of n m s t c d a stop e names said complained part = record {
  names_part = part.names_part;
  names_prefix = prefix_trans part.names_part n m part.names_prefix names;
  said_part = part.said_part;
  said_prefix = prefix_trans part.said_part s t part.said_prefix said;
  complained_part = part.complained_part;
  complained_prefix = prefix_trans part.complained_part c d part.complained_prefix complained;
  does = part.does;
  cause = part.cause;
  quiet = part.quiet;
}

pub quiet_none : (stop : Stop) → IsQuiet stop []
quiet_none ReadFault = refl
quiet_none WriteFault = tt
quiet_none NoMemory = refl

-- a part that has found no memory before it has done anything
nothing_done : (names : List (List ℕ)) (said complained : List ℕ) (old new : Outside) → Does [] [] [] old new → SameFaults old new → DoesPart names said complained old NoMemory new
nothing_done names said complained old new does faults = record {
  names_part = [];
  names_prefix = prefix_none names;
  said_part = [];
  said_prefix = prefix_none said;
  complained_part = [];
  complained_prefix = prefix_none complained;
  does = does;
  cause = faults;
  quiet = refl;
}

pub out_of_memory : (names : List (List ℕ)) (said complained : List ℕ) (old new : Outside) → new ≡ old → DoesPart names said complained old NoMemory new
out_of_memory names said complained old new same =
    subst (λ o. DoesPart names said complained old NoMemory o) (sym same) (nothing_done names said complained old old (does_nothing old) (same_faults old))

-- and one whose call has found none
pub call_out_of_memory : (names : List (List ℕ)) (said complained : List ℕ) (old new : Outside) → new ≡ without_fault old → DoesPart names said complained old NoMemory new
call_out_of_memory names said complained old new same =
    subst (λ o. DoesPart names said complained old NoMemory o) (sym same)
    (nothing_done names said complained old (without_fault old) (does_only old (without_fault old) refl refl refl refl refl) (record { read = refl; write = refl }))

-- a write that failed --------------------------------------------------------------------------------------

said_part : (piece : List ℕ) (old new : Outside) → PutsPrefix (after_say old) old piece new → DoesPart [] piece [] old WriteFault new
said_part piece old new puts = record {
  names_part = [];
  names_prefix = prefix_none [];
  said_part = take puts.length piece;
  said_prefix = prefix_take puts.length piece;
  complained_part = [];
  complained_prefix = prefix_none [];
  does = record {
    inputs_stay = ap (λ (o : Outside). o.inputs) puts.left;
    outputs_stay = ap (λ (o : Outside). o.outputs) puts.left;
    says = ap (λ (o : Outside). o.said) puts.left;
    complains = ap (λ (o : Outside). o.complained) puts.left ∙ none_appended old.complained;
    starts = ap (λ (o : Outside). o.started) puts.left ∙ none_named old.started;
  };
  cause = (
    subst (λ n. HasRisen old.write_faults n) (sym (ap (λ (o : Outside). o.write_faults) puts.left)) puts.risen,
    ap (λ (o : Outside). o.read_faults) puts.left,
    ap (λ (o : Outside). o.last) puts.left,
  );
  quiet = tt;
}

complained_part : (piece : List ℕ) (old new : Outside) → PutsPrefix (after_complaint old) old piece new → DoesPart [] [] piece old WriteFault new
complained_part piece old new puts = record {
  names_part = [];
  names_prefix = prefix_none [];
  said_part = [];
  said_prefix = prefix_none [];
  complained_part = take puts.length piece;
  complained_prefix = prefix_take puts.length piece;
  does = record {
    inputs_stay = ap (λ (o : Outside). o.inputs) puts.left;
    outputs_stay = ap (λ (o : Outside). o.outputs) puts.left;
    says = ap (λ (o : Outside). o.said) puts.left ∙ none_appended old.said;
    complains = ap (λ (o : Outside). o.complained) puts.left;
    starts = ap (λ (o : Outside). o.started) puts.left ∙ none_named old.started;
  };
  cause = (
    subst (λ n. HasRisen old.write_faults n) (sym (ap (λ (o : Outside). o.write_faults) puts.left)) puts.risen,
    ap (λ (o : Outside). o.read_faults) puts.left,
    ap (λ (o : Outside). o.last) puts.left,
  );
  quiet = tt;
}

-- what a write comes to
pub said_all : (wrote : Wrote) (piece : List ℕ) (old new : Outside) → Puts (after_say old) old piece wrote new → OnOk (written_by wrote) (DoesAll [] piece [] old new)
said_all wrote.Done piece old new after = record {
  all = record {
    does = record {
      inputs_stay = ap (λ (o : Outside). o.inputs) after;
      outputs_stay = ap (λ (o : Outside). o.outputs) after;
      says = ap (λ (o : Outside). o.said) after;
      complains = ap (λ (o : Outside). o.complained) after ∙ none_appended old.complained;
      starts = ap (λ (o : Outside). o.started) after ∙ none_named old.started;
    };
    faults = record { read = ap (λ (o : Outside). o.read_faults) after; write = ap (λ (o : Outside). o.write_faults) after };
  };
  present = ap (λ (o : Outside). o.absences) after;
}
said_all wrote.Failed piece old new puts = tt
said_all wrote.NoMemory piece old new same = tt

pub said_stopped : (wrote : Wrote) (piece : List ℕ) (old new : Outside) → Puts (after_say old) old piece wrote new
    → IfErr (written_by wrote) (λ stop. DoesPart [] piece [] old stop new)
said_stopped wrote.Done piece old new after = tt
said_stopped wrote.Failed piece old new puts = said_part piece old new puts
said_stopped wrote.NoMemory piece old new same = call_out_of_memory [] piece [] old new same

pub complained_all : (wrote : Wrote) (piece : List ℕ) (old new : Outside) → Puts (after_complaint old) old piece wrote new
    → OnOk (written_by wrote) (DoesAll [] [] piece old new)
complained_all wrote.Done piece old new after = record {
  all = record {
    does = record {
      inputs_stay = ap (λ (o : Outside). o.inputs) after;
      outputs_stay = ap (λ (o : Outside). o.outputs) after;
      says = ap (λ (o : Outside). o.said) after ∙ none_appended old.said;
      complains = ap (λ (o : Outside). o.complained) after;
      starts = ap (λ (o : Outside). o.started) after ∙ none_named old.started;
    };
    faults = record { read = ap (λ (o : Outside). o.read_faults) after; write = ap (λ (o : Outside). o.write_faults) after };
  };
  present = ap (λ (o : Outside). o.absences) after;
}
complained_all wrote.Failed piece old new puts = tt
complained_all wrote.NoMemory piece old new same = tt

pub complained_stopped : (wrote : Wrote) (piece : List ℕ) (old new : Outside) → Puts (after_complaint old) old piece wrote new
    → IfErr (written_by wrote) (λ stop. DoesPart [] [] piece old stop new)
complained_stopped wrote.Done piece old new after = tt
complained_stopped wrote.Failed piece old new puts = complained_part piece old new puts
complained_stopped wrote.NoMemory piece old new same = call_out_of_memory [] [] piece old new same

-- a start ----------------------------------------------------------------------------------------------------

pub start_part : (name : List ℕ) (old new : Outside) → FailsToStart old name new → DoesPart (name ∷ []) [] [] old ReadFault new
start_part name old new fails = record {
  names_part = name ∷ [];
  names_prefix = prefix_all (name ∷ []);
  said_part = [];
  said_prefix = prefix_none [];
  complained_part = [];
  complained_prefix = prefix_none [];
  does = record {
    inputs_stay = ap (λ (o : Outside). o.inputs) fails.after;
    outputs_stay = ap (λ (o : Outside). o.outputs) fails.after;
    says = ap (λ (o : Outside). o.said) fails.after ∙ none_appended old.said;
    complains = ap (λ (o : Outside). o.complained) fails.after ∙ none_appended old.complained;
    starts = ap (λ (o : Outside). o.started) fails.after;
  };
  cause = (
    subst (λ n. HasRisen old.read_faults n) (sym (ap (λ (o : Outside). o.read_faults) fails.after)) fails.risen,
    ap (λ (o : Outside). o.write_faults) fails.after,
    ap (λ (o : Outside). o.last) fails.after,
  );
  quiet = refl;
}

pub start_all : (name : List ℕ) (old new : Outside) → OpensInput old name new → DoesAll (name ∷ []) [] [] old new
start_all name old new opens = record {
  all = record {
    does = record {
      inputs_stay = ap (λ (o : Outside). o.inputs) opens.after;
      outputs_stay = ap (λ (o : Outside). o.outputs) opens.after;
      says = ap (λ (o : Outside). o.said) opens.after ∙ none_appended old.said;
      complains = ap (λ (o : Outside). o.complained) opens.after ∙ none_appended old.complained;
      starts = ap (λ (o : Outside). o.started) opens.after;
    };
    faults = record { read = ap (λ (o : Outside). o.read_faults) opens.after; write = ap (λ (o : Outside). o.write_faults) opens.after };
  };
  present = ap (λ (o : Outside). o.absences) opens.after;
}
