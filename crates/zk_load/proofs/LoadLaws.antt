-- How far the loading of scripts has come.
use Rattle.std.proofs.Common.{◌≡◌, ℕ, suc, zero, ◌+◌, ◌-◌, ◌<◌, ◌≤◌, Bool, true, false, ◌||◌, cond, get_or, take, List, [], ◌∷◌, ◌++◌, flat_map, reverse, length, length-append, arith, Some, refl, sym, ap, subst, ◌∙◌, append_assoc, append-nil}
use Rattle.std.proofs.lemmas.List.{reverse-append, reverse-reverse, take_more}
use Rattle.std.proofs.lemmas.List.Folds.{list_any_more}
use Rattle.std.specs.Str.{bytes_eq}
use Rattle.std.specs.HashSet.{contains}
use Rattle.zk_base.specs.declared.endings.Ending.{Ending}
use Rattle.zk_base.specs.declared.endings.Ending.TheVariants.{NoInput, ScriptRefused}
use Rattle.zk_base.specs.declared.endings.ScriptKind.TheVariants.{TooMany}
use Rattle.zk_base.specs.Shelf.{Files, Outside, HasRisen}
use Rattle.zk_tree.specs.declared.decl.Decl.{Decl}
use Rattle.zk_tree.specs.declared.decl.Decl as decl
use Rattle.zk_tree.specs.declared.decl.Tree.{Tree}
use Rattle.zk_tree.specs.Opening.{trees}
use Rattle.zk_outcome.specs.declared.found.Found.{Found}
use Rattle.zk_outcome.specs.declared.found.Found.TheVariants.{Accepted, Refused}
use Rattle.zk_load.specs.declared.loading.Scripts.{Scripts}
use Rattle.zk_outcome.specs.declared.stop.Stop.{Stop}
use Rattle.zk_outcome.specs.declared.stop.Stop.TheVariants as stop
use Rattle.zk_load.specs.Loading as plain
use Rattle.zk_load.specs.Loading.{Loading, loads_in, loads_of, is_read, unread, ends_with, asking, after, load_from, loading}
use Rattle.zk_load.specs.Loads.{LoadsAll, LoadsPart}
use Rattle.zk_outcome.specs.Found.{Finds, IsRefusal}
use Rattle.zk_outcome.specs.Parts.{Does, DoesAll, DoesPart}
use Rattle.zk_outcome.specs.Prefix.{IsPrefix}
use Rattle.zk_load.specs.Pending.{Waits}
use Rattle.zk_load.specs.Script.{script_in}
use Rattle.zk_outcome.proofs.Doing.{does_nothing_without_fault, does_both, does_both_all, without_fault_both, cause_since, prefix_none, prefix_of_none, prefix_behind, prefix_trans}

pub export_loads : (place : ℕ) (decls : List Decl) → loads_in (decl.Export place decls) ≡ flat_map loads_in decls
unfolding trees
export_loads place [] = refl
export_loads place (one ∷ others) = ap (λ more. loads_in one ++ more) (export_loads place others)

-- Names that were read are passed over -----------------------------------------------------------------------

pub read_passed : (scripts : plain.Scripts) (name : List ℕ) (names : List (List ℕ)) → is_read scripts name ≡ true → unread scripts (name ∷ names) ≡ unread scripts names
read_passed scripts name names was = ap (λ b. cond b (unread scripts names) (name ∷ names)) was

pub unread_next : (scripts : plain.Scripts) (name : List ℕ) (names : List (List ℕ)) → is_read scripts name ≡ false → unread scripts (name ∷ names) ≡ name ∷ names
unread_next scripts name names was = ap (λ b. cond b (unread scripts names) (name ∷ names)) was

-- a name is among those before, or is this one
either : (first one : Bool) → cond one true first ≡ (first || one)
either true true = refl
either true false = refl
either false true = refl
either false false = refl

-- one name more that was read
pub name_more : (scripts : plain.Scripts) (index : ℕ) (script : List ℕ × Tree) (name copied : List ℕ) (was is : Bool) → index < length scripts → script ≡ get_or scripts index script →
    copied ≡ script.0 → is ≡ cond (bytes_eq copied name) true was → was ≡ is_read (take index scripts) name → is ≡ is_read (take (index + 1) scripts) name
name_more scripts index script name copied was is within there same is_so before =
    let called : List ℕ × Tree → Bool = λ one. bytes_eq one.0 name in
    is_so ∙ ap (λ b. cond (bytes_eq copied name) true b) before ∙ either (is_read (take index scripts) name) (bytes_eq copied name)
    ∙ ap (λ text. is_read (take index scripts) name || bytes_eq text name) same ∙ ap (λ one. is_read (take index scripts) name || called one) there
    ∙ sym (list_any_more called scripts index script within)

-- one name more that is to be read
pub name_waits : (pending next names : List (List ℕ)) (index : ℕ) (name copied : List ℕ) → index < length names → name ≡ get_or names index name →
    copied ≡ name → next ≡ pending ++ copied ∷ [] → pending ≡ take index names → next ≡ take (index + 1) names
name_waits pending next names index name copied within there same adds before =
    adds ∙ ap (λ (front : List (List ℕ)). front ++ copied ∷ []) before ∙ ap (λ (one : List ℕ). take index names ++ one ∷ []) (same ∙ there) ∙ sym (take_more names index name within)

-- One script after another -----------------------------------------------------------------------------------

ended : (room : ℕ) (inputs : Files) (scripts : plain.Scripts) (names : List (List ℕ)) → unread scripts names ≡ [] → load_from room inputs scripts names ≡ ends_with (Accepted scripts)
unfolding load_from
ended zero inputs scripts names none = ap (λ (left : List (List ℕ)). elim left [
  | [] ↦ ends_with (Accepted scripts)
  | name ∷ others ↦ ends_with (Refused (ScriptRefused name 0 TooMany))
]) none
ended (suc room) inputs scripts names none = ap (λ (left : List (List ℕ)). elim left [
  | [] ↦ ends_with (Accepted scripts)
  | name ∷ others ↦ asking name (after (script_in name (inputs name)) (λ tree. load_from room inputs (scripts ++ (name, tree) ∷ []) (loads_of tree ++ others)))
]) none

one_too_many : (inputs : Files) (scripts : plain.Scripts) (names others : List (List ℕ)) (name : List ℕ) → unread scripts names ≡ name ∷ others
    → load_from 0 inputs scripts names ≡ ends_with (Refused (ScriptRefused name 0 TooMany))
unfolding load_from
one_too_many inputs scripts names others name next = ap (λ (left : List (List ℕ)). elim left [
  | [] ↦ ends_with (Accepted scripts)
  | name ∷ others ↦ ends_with (Refused (ScriptRefused name 0 TooMany))
]) next

one_more : (room : ℕ) (inputs : Files) (scripts : plain.Scripts) (names others : List (List ℕ)) (name : List ℕ) → unread scripts names ≡ name ∷ others
    → load_from (suc room) inputs scripts names
    ≡ asking name (after (script_in name (inputs name)) (λ tree. load_from room inputs (scripts ++ (name, tree) ∷ []) (loads_of tree ++ others)))
unfolding load_from
one_more room inputs scripts names others name next = ap (λ (left : List (List ℕ)). elim left [
  | [] ↦ ends_with (Accepted scripts)
  | name ∷ others ↦ asking name (after (script_in name (inputs name)) (λ tree. load_from room inputs (scripts ++ (name, tree) ∷ []) (loads_of tree ++ others)))
]) next

-- How far it has come ----------------------------------------------------------------------------------------

-- these names are asked for, and then what is said
abbrev pub asking_all : List (List ℕ) → Loading → Loading
asking_all asked rest = record { asked = asked ++ rest.asked; found = rest.found }

asked_on : (asked : List (List ℕ)) (name : List ℕ) (rest : Loading) → asking_all asked (asking name rest) ≡ asking_all (asked ++ name ∷ []) rest
asked_on asked name rest = ap (λ (names : List (List ℕ)). record { asked = names; found = rest.found }) (sym (append_assoc asked (name ∷ []) rest.asked))

-- Scripts were read, and those that wait are what is left to be loaded.
pub record IsLoading (before : plain.Scripts) (names : List (List ℕ)) (first : Outside) (scripts : Scripts) (now : Outside) : Type 0 where
  pub read : plain.Scripts
  pub waiting : List (List ℕ)
  pub waits : Waits scripts read waiting
  pub asked : List (List ℕ)
  pub does : DoesAll asked [] [] first now
  pub few : length read ≤ length before + 256
  pub told : (inputs : Files) → first.inputs ≡ Some inputs → loading before names inputs ≡ asking_all asked (load_from (length before + 256 - length read) inputs read waiting)

-- This script is the next one.
pub record IsAtScript (before : plain.Scripts) (names : List (List ℕ)) (first : Outside) (scripts : Scripts) (name : List ℕ) (now : Outside) : Type 0 where
  pub read : plain.Scripts
  pub waiting : List (List ℕ)
  pub others : List (List ℕ)
  pub next : unread read waiting ≡ name ∷ others
  pub waits : Waits scripts read others
  pub asked : List (List ℕ)
  pub does : DoesAll asked [] [] first now
  pub few : length read ≤ length before + 256
  pub told : (inputs : Files) → first.inputs ≡ Some inputs → loading before names inputs ≡ asking_all asked (load_from (length before + 256 - length read) inputs read waiting)

pub does_nothing_at_all : (old : Outside) → DoesAll [] [] [] old old
does_nothing_at_all old = record { all = does_nothing_without_fault old; present = refl }

pub loading_begins : (before : plain.Scripts) (names : List (List ℕ)) (scripts : Scripts) (first : Outside) → Waits scripts before names → IsLoading before names first scripts first
unfolding loading
loading_begins before names scripts first waits = record {
  read = before;
  waiting = names;
  waits = waits;
  asked = [];
  does = does_nothing_at_all first;
  few = omega arith;
  told = λ inputs t. ap (λ room. load_from room inputs before names) (let room : 256 ≡ length before + 256 - length before = omega arith in room);
}

pub at_script : (before : plain.Scripts) (names : List (List ℕ)) (first : Outside) (old new : Scripts) (name : List ℕ) (now : Outside) → IsLoading before names first old now
    → ((read : plain.Scripts) (waiting : List (List ℕ)) → Waits old read waiting → (others : List (List ℕ)) × (unread read waiting ≡ name ∷ others) × Waits new read others)
    → IsAtScript before names first new name now
at_script before names first old new name now far gives =
    let (others, next, waits) = gives far.read far.waiting far.waits in
    record {
      read = far.read;
      waiting = far.waiting;
      others = others;
      next = next;
      waits = waits;
      asked = far.asked;
      does = far.does;
      few = far.few;
      told = far.told;
    }

still_told : (first now : Outside) (asked : List (List ℕ)) (inputs : Files) → DoesAll asked [] [] first now → first.inputs ≡ Some inputs → now.inputs ≡ Some inputs
still_told first now asked inputs does t = does.all.does.inputs_stay ∙ t

-- what is loaded where a script is found
comes_to : (before : plain.Scripts) (names : List (List ℕ)) (first : Outside) (scripts : Scripts) (name : List ℕ) (now : Outside) (at : IsAtScript before names first scripts name now) (found : Found Tree) (new : Outside)
    → length at.read < length before + 256 → Finds name (script_in name) now found new → (inputs : Files) → first.inputs ≡ Some inputs
    → loading before names inputs ≡ asking_all (at.asked ++ name ∷ []) (after found (λ tree. load_from (length before + 256 - length (at.read ++ (name, tree) ∷ [])) inputs (at.read ++ (name, tree) ∷ []) (loads_of tree ++ at.others)))
comes_to before names first scripts name now at found new few finds inputs t =
    let room : length before + 256 - length at.read ≡ suc (length before + 255 - length at.read) = omega (arith, few) in
    let same : (tree : Tree) → length before + 255 - length at.read ≡ length before + 256 - length (at.read ++ (name, tree) ∷ []) = λ tree. omega (arith, length-append at.read ((name, tree) ∷ [])) in
    let on : (Tree → ℕ) → Tree → Loading = λ rooms tree. load_from (rooms tree) inputs (at.read ++ (name, tree) ∷ []) (loads_of tree ++ at.others) in
    at.told inputs t
    ∙ ap (λ n. asking_all at.asked (load_from n inputs at.read at.waiting)) room
    ∙ ap (asking_all at.asked) (one_more (length before + 255 - length at.read) inputs at.read at.waiting at.others name at.next)
    ∙ ap (λ s. asking_all at.asked (asking name (after s (on (λ tree. length before + 255 - length at.read))))) (sym (finds.told inputs (still_told first now at.asked inputs at.does t)))
    ∙ asked_on at.asked name (after found (on (λ tree. length before + 255 - length at.read)))
    ∙ ap (asking_all (at.asked ++ name ∷ [])) (roomier found)
  where
    roomier : (one : Found Tree)
        → after one (λ tree. load_from (length before + 255 - length at.read) inputs (at.read ++ (name, tree) ∷ []) (loads_of tree ++ at.others))
        ≡ after one (λ tree. load_from (length before + 256 - length (at.read ++ (name, tree) ∷ [])) inputs (at.read ++ (name, tree) ∷ []) (loads_of tree ++ at.others))
    roomier (Refused e) = refl
    roomier (Accepted tree) = ap (λ n. load_from n inputs (at.read ++ (name, tree) ∷ []) (loads_of tree ++ at.others))
        (let same : length before + 255 - length at.read ≡ length before + 256 - length (at.read ++ (name, tree) ∷ []) = omega (arith, length-append at.read ((name, tree) ∷ [])) in same)

-- a script was found
does_with : (name : List ℕ) (asked : List (List ℕ)) (first now : Outside) (tree : Tree) (new : Outside) → DoesAll asked [] [] first now → Finds name (script_in name) now (Accepted tree) new
    → DoesAll (asked ++ name ∷ []) [] [] first new
does_with name asked first now tree new does finds =
    does_both_all asked (name ∷ []) [] [] [] [] first now new does (record { all = finds.does; present = finds.present (λ absentee same. let never : ⊥ = cc in never) })

pub script_read : (before : plain.Scripts) (names : List (List ℕ)) (first : Outside) (old scripts : Scripts) (name : List ℕ) (now : Outside) (at : IsAtScript before names first old name now) (tree : Tree) (new : Outside)
    → length at.read < length before + 256 → Finds name (script_in name) now (Accepted tree) new → Waits scripts (at.read ++ (name, tree) ∷ []) (loads_of tree ++ at.others)
    → IsLoading before names first scripts new
script_read before names first old scripts name now at tree new few finds waits = record {
  read = at.read ++ (name, tree) ∷ [];
  waiting = loads_of tree ++ at.others;
  waits = waits;
  asked = at.asked ++ name ∷ [];
  does = does_with name at.asked first now tree new at.does finds;
  few = omega (arith, few, length-append at.read ((name, tree) ∷ []));
  told = comes_to before names first old name now at (Accepted tree) new few finds;
}

-- How it ends ------------------------------------------------------------------------------------------------

pub all_loaded : (before : plain.Scripts) (names : List (List ℕ)) (first : Outside) (old scripts : Scripts) (now : Outside) (far : IsLoading before names first old now)
    → ((read : plain.Scripts) (waiting : List (List ℕ)) → Waits old read waiting → (unread read waiting ≡ []) × Waits scripts read [])
    → LoadsAll before names first (Accepted scripts.read.items) now
all_loaded before names first old scripts now far gives =
    let (none, waits) = gives far.read far.waiting far.waits in
    record {
      asked = far.asked;
      does = far.does.all;
      told = λ inputs t. far.told inputs t
          ∙ ap (asking_all far.asked) (ended (length before + 256 - length far.read) inputs far.read far.waiting none)
          ∙ ap (λ asked. record { asked = asked; found = Accepted far.read }) (append-nil far.asked)
          ∙ ap (λ read. record { asked = far.asked; found = Accepted read }) (sym waits.reads);
      refusal = λ e same. absurd (let never : ⊥ = cc in never);
      absent = λ name same. absurd (let never : ⊥ = cc in never);
      present = λ other. far.does.present;
    }

pub refused_too_many : (before : plain.Scripts) (names : List (List ℕ)) (first : Outside) (scripts : Scripts) (name : List ℕ) (now : Outside) (at : IsAtScript before names first scripts name now) → length at.read ≡ length before + 256
    → LoadsAll before names first (Refused (ScriptRefused name 0 TooMany)) now
refused_too_many before names first scripts name now at full = record {
  asked = at.asked;
  does = at.does.all;
  told = λ inputs t. at.told inputs t
      ∙ ap (λ n. asking_all at.asked (load_from n inputs at.read at.waiting)) (let none : length before + 256 - length at.read ≡ 0 = omega (arith, full) in none)
      ∙ ap (asking_all at.asked) (one_too_many inputs at.read at.waiting at.others name at.next)
      ∙ ap (λ asked. record { asked = asked; found = Refused (ScriptRefused name 0 TooMany) }) (append-nil at.asked);
  refusal = λ e same. let is : ScriptRefused name 0 TooMany ≡ e = cc in subst IsRefusal is tt;
  absent = λ absentee same. absurd (let never : ⊥ = cc in never);
  present = λ other. at.does.present;
}

pub script_refused : (before : plain.Scripts) (names : List (List ℕ)) (first : Outside) (scripts : Scripts) (name : List ℕ) (now : Outside) (at : IsAtScript before names first scripts name now) (e : Ending) (new : Outside)
    → length at.read < length before + 256 → Finds name (script_in name) now (Refused e) new → LoadsAll before names first (Refused e) new
script_refused before names first scripts name now at e new few finds = record {
  asked = at.asked ++ name ∷ [];
  does = without_fault_both at.asked (name ∷ []) [] [] [] [] first now new at.does.all finds.does;
  told = λ inputs t. comes_to before names first scripts name now at (Refused e) new few finds inputs t
      ∙ ap (λ asked. record { asked = asked; found = Refused e }) (append-nil (at.asked ++ name ∷ []));
  refusal = λ other same. let is : e ≡ other = cc in subst IsRefusal is (finds.refusal e refl);
  absent = λ absentee same. let is : e ≡ NoInput absentee = cc in
      subst (λ n. HasRisen n new.absences) at.does.present (finds.absent absentee (ap Refused is));
  present = λ other. finds.present (λ absentee same. other absentee (let is : e ≡ NoInput absentee = cc in ap Refused is)) ∙ at.does.present;
}

-- Where it is stopped ----------------------------------------------------------------------------------------

pub stopped_first : (before : plain.Scripts) (names : List (List ℕ)) (first : Outside) → LoadsPart before names first stop.NoMemory first
stopped_first before names first = record {
  asked = [];
  does = (does_nothing_without_fault first).does;
  cause = (does_nothing_without_fault first).faults;
  told = λ inputs t. prefix_none (loading before names inputs).asked;
}

asks_for : (before : plain.Scripts) (names : List (List ℕ)) (first : Outside) (scripts : Scripts) (name : List ℕ) (now : Outside) (at : IsAtScript before names first scripts name now) → length at.read < length before + 256
    → (inputs : Files) → first.inputs ≡ Some inputs → IsPrefix (at.asked ++ name ∷ []) (loading before names inputs).asked
asks_for before names first scripts name now at few inputs t =
    let room : length before + 256 - length at.read ≡ suc (length before + 255 - length at.read) = omega (arith, few) in
    let rest : Loading = after (script_in name (inputs name)) (λ tree. load_from (length before + 255 - length at.read) inputs (at.read ++ (name, tree) ∷ []) (loads_of tree ++ at.others)) in
    let is : loading before names inputs ≡ asking_all at.asked (asking name rest) =
    at.told inputs t ∙ ap (λ n. asking_all at.asked (load_from n inputs at.read at.waiting)) room
    ∙ ap (asking_all at.asked) (one_more (length before + 255 - length at.read) inputs at.read at.waiting at.others name at.next) in
    record { rest = rest.asked; joined = ap (λ (l : Loading). l.asked) (is ∙ asked_on at.asked name rest) }

-- while the script was read
pub stopped_at_script : (before : plain.Scripts) (names : List (List ℕ)) (first : Outside) (scripts : Scripts) (name : List ℕ) (now : Outside) (at : IsAtScript before names first scripts name now) (why : Stop) (new : Outside)
    → length at.read < length before + 256 → DoesPart (name ∷ []) [] [] now why new → LoadsPart before names first why new
stopped_at_script before names first scripts name now at why new few part = record {
  asked = at.asked ++ part.names_part;
  does = subst (λ said. Does (at.asked ++ part.names_part) said [] first new) (prefix_of_none part.said_part part.said_prefix)
      (subst (λ complained. Does (at.asked ++ part.names_part) part.said_part complained first new) (prefix_of_none part.complained_part part.complained_prefix)
      (does_both at.asked part.names_part [] part.said_part [] part.complained_part first now new at.does.all.does part.does));
  cause = cause_since first now why new at.does.all.faults part.cause;
  told = λ inputs t. prefix_trans (at.asked ++ part.names_part) (at.asked ++ name ∷ []) (loading before names inputs).asked
      (prefix_behind at.asked part.names_part (name ∷ []) part.names_prefix) (asks_for before names first scripts name now at few inputs t);
}

-- behind it
pub stopped_behind : (before : plain.Scripts) (names : List (List ℕ)) (first : Outside) (scripts : Scripts) (name : List ℕ) (now : Outside) (at : IsAtScript before names first scripts name now) (tree : Tree) (new : Outside)
    → length at.read < length before + 256 → Finds name (script_in name) now (Accepted tree) new → LoadsPart before names first stop.NoMemory new
stopped_behind before names first scripts name now at tree new few finds =
    let does : DoesAll (at.asked ++ name ∷ []) [] [] first new = does_with name at.asked first now tree new at.does finds in
    record {
      asked = at.asked ++ name ∷ [];
      does = does.all.does;
      cause = does.all.faults;
      told = asks_for before names first scripts name now at few;
    }

-- The names that wait ----------------------------------------------------------------------------------------

-- the next of them
pub popped : (old new : Scripts) (name : List ℕ) (read : plain.Scripts) (names : List (List ℕ)) → Waits old read names
    → old.pending.items ≡ new.pending.items ++ name ∷ [] → new.read.items ≡ old.read.items → new.names ≡ old.names
    → (others : List (List ℕ)) × (names ≡ name ∷ others) × Waits new read others
popped old new name read names waits last stays known =
    let front : List (List ℕ) = new.pending.items in (
      reverse front,
      sym (reverse-reverse names) ∙ ap reverse (sym waits.pending ∙ last) ∙ reverse-append front (name ∷ []),
      record {
        reads = stays ∙ waits.reads;
        known = λ one. ap (λ set. contains bytes_eq set one) known ∙ waits.known one;
        pending = sym (reverse-reverse front);
      },
    )

pub none_waits : (old : Scripts) (read : plain.Scripts) (names : List (List ℕ)) → Waits old read names → old.pending.items ≡ [] → names ≡ []
none_waits old read names waits none = sym (reverse-reverse names) ∙ ap reverse (sym waits.pending ∙ none)

-- fewer than 256 were read from files
pub few_read : (before : plain.Scripts) (names : List (List ℕ)) (first : Outside) (scripts : Scripts) (name : List ℕ) (now : Outside) (at : IsAtScript before names first scripts name now)
    → (length scripts.read.items ≡ length before + 256 → ⊥) → length at.read < length before + 256
few_read before names first scripts name now at not_full = omega (arith, at.few, not_full, ap length at.waits.reads)

pub as_many_read : (old new : Scripts) (read : plain.Scripts) → new.read ≡ old.read → new.read.items ≡ read → length old.read.items ≡ length read
as_many_read old new read stays is = rw (← stays) (ap length is)
