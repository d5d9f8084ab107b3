-- How far the reading of texts that lie in no file has come.
use Rattle.std.proofs.Common.{◌≡◌, ℕ, ◌+◌, ◌≤◌, ◌<◌, List, [], ◌∷◌, ◌++◌, length, get_or, drop, map, refl, sym, ap, ◌∙◌, append_assoc, append-nil, add-one, drop-cons}
use Rattle.std.proofs.lemmas.List.{drop_all}
use Rattle.std.specs.Borrow.{Bor}
use Rattle.zk_base.specs.declared.endings.Ending.{Ending}
use Rattle.zk_tree.specs.declared.decl.Tree.{Tree}
use Rattle.zk_outcome.specs.declared.found.Found.{Found}
use Rattle.zk_outcome.specs.declared.found.Found.TheVariants.{Accepted, Refused}
use Rattle.zk_load.specs.Loading.{Scripts, before_others, scripts_in}
use Rattle.zk_load.specs.Script.{accepted, script_of}

-- what was read, and then what others come to
abbrev pub behind : Scripts → Found Scripts → Found Scripts
behind read (Refused ending) = Refused ending
behind read (Accepted others) = Accepted (read ++ others)

-- a name and a text
abbrev pub Named : Type 0
Named = Bor (List ℕ) × Bor (List ℕ)

-- what texts from a place on come to
abbrev pub from : List Named → ℕ → Found Scripts
from texts index = scripts_in (map (λ one. (one.0.now, one.1.now)) (drop index texts))

-- the script of the text in a place is the first of those from there on
first_from : (texts : List Named) (index : ℕ) (other : Named) (name : List ℕ) (found : Found Tree) → index < length texts →
    name ≡ (get_or texts index other).0.now → found ≡ accepted name (script_of (get_or texts index other).1.now) → from texts index ≡ before_others name found (from texts (index + 1))
first_from texts index other name found within named is =
    let text = (get_or texts index other).1.now in
    let first : drop index texts ≡ get_or texts index other ∷ drop (index + 1) texts = rw add-one (drop-cons texts index other within) in
    ap (λ (left : List Named). scripts_in (map (λ one. (one.0.now, one.1.now)) left)) first
    ∙ ap (λ (called : List ℕ). before_others called (accepted called (script_of text)) (from texts (index + 1))) (sym named)
    ∙ ap (λ (given : Found Tree). before_others name given (from texts (index + 1))) (sym is)

-- one script more is read before the others
one_behind : (read : Scripts) (name : List ℕ) (tree : Tree) (others : Found Scripts) → behind read (before_others name (Accepted tree) others) ≡ behind (read ++ (name, tree) ∷ []) others
one_behind read name tree (Refused ending) = refl
one_behind read name tree (Accepted scripts) = ap Accepted (sym (append_assoc read ((name, tree) ∷ []) scripts))

-- the text in a place is read
pub one_more : (texts : List Named) (index : ℕ) (other : Named) (read next : Scripts) (whole : Found Scripts) (file name : List ℕ) (found : Found Tree) (tree : Tree) → index < length texts →
    whole ≡ behind read (from texts index) → file ≡ (get_or texts index other).0.now → name ≡ (get_or texts index other).0.now →
    found ≡ accepted name (script_of (get_or texts index other).1.now) → found ≡ Accepted tree → next ≡ read ++ (file, tree) ∷ [] → whole ≡ behind next (from texts (index + 1))
one_more texts index other read next whole file name found tree within so_far filed named is right adds =
    so_far ∙ ap (behind read) (first_from texts index other name found within named is ∙ ap (λ (first : Found Tree). before_others name first (from texts (index + 1))) right)
    ∙ one_behind read name tree (from texts (index + 1))
    ∙ ap (λ (called : List ℕ). behind (read ++ (called, tree) ∷ []) (from texts (index + 1))) (named ∙ sym filed)
    ∙ ap (λ (scripts : Scripts). behind scripts (from texts (index + 1))) (sym adds)

-- the first that is refused is what all come to
pub one_refused : (texts : List Named) (index : ℕ) (other : Named) (read : Scripts) (whole : Found Scripts) (name : List ℕ) (found : Found Tree) (ending : Ending) → index < length texts →
    whole ≡ behind read (from texts index) → name ≡ (get_or texts index other).0.now → found ≡ accepted name (script_of (get_or texts index other).1.now) → found ≡ Refused ending → Refused ending ≡ whole
one_refused texts index other read whole name found ending within so_far named is wrong =
    sym (so_far ∙ ap (behind read) (first_from texts index other name found within named is ∙ ap (λ (first : Found Tree). before_others name first (from texts (index + 1))) wrong))

-- all were read
pub all_read : (texts : List Named) (index : ℕ) (read given : Scripts) (whole : Found Scripts) → length texts ≤ index → whole ≡ behind read (from texts index) → given ≡ read → Accepted given ≡ whole
all_read texts index read given whole past so_far is =
    ap Accepted (is ∙ sym (append-nil read))
    ∙ sym (so_far ∙ ap (λ (left : List Named). behind read (scripts_in (map (λ one. (one.0.now, one.1.now)) left))) (drop_all index texts past))
