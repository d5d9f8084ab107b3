-- What is said so far of a text that goes on.
use Rattle.std.proofs.Common.{◌≡◌, List, ℕ, [], ◌++◌, refl, sym, ap, subst, ◌∙◌, append_assoc}
use Rattle.zk_base.specs.Shelf.{Outside}
use Rattle.zk_outcome.specs.declared.stop.Stop.{Stop}
use Rattle.zk_outcome.specs.declared.stop.Stop.TheVariants.{NoMemory}
use Rattle.zk_io.specs.Said.{HasSaid, HandsOver}
use Rattle.zk_outcome.specs.Parts.{DoesAll, DoesPart}
use Rattle.zk_outcome.specs.Prefix.{IsPrefix}
use Rattle.zk_outcome.proofs.Doing.{does_nothing_without_fault, does_both_all, does_both_part, does_part_of, prefix_all, out_of_memory}
use Rattle.std.proofs.Common.{append-nil, Result, Ok, Err, OnOk}

pub said_nothing : (first : Outside) → HasSaid first [] [] first
said_nothing first = record {
  said = [];
  does = record { all = does_nothing_without_fault first; present = refl };
  joined = refl;
}

-- a piece was handed over, or a prefix of it
pub said_over : (first : Outside) (text piece : List ℕ) (old new : Outside) (rest : List ℕ) → HasSaid first text piece old → HandsOver old piece new rest → HasSaid first text rest new
said_over first text piece old new rest far hands = record {
  said = far.said ++ hands.said;
  does = does_both_all [] [] far.said hands.said [] [] first old new far.does hands.does;
  joined = far.joined ∙ ap (λ xs. far.said ++ xs) hands.joined ∙ sym (append_assoc far.said hands.said rest);
}

-- more of the text waits
pub said_more : (first : Outside) (text piece line longer : List ℕ) (now : Outside) → HasSaid first text piece now → longer ≡ piece ++ line → HasSaid first (text ++ line) longer now
said_more first text piece line longer now far is = record {
  said = far.said;
  does = far.does;
  joined = ap (λ xs. xs ++ line) far.joined ∙ append_assoc far.said piece line ∙ ap (λ xs. far.said ++ xs) (sym is);
}

-- something was done that says nothing
pub said_on : (first : Outside) (text piece : List ℕ) (old new : Outside) → HasSaid first text piece old → DoesAll [] [] [] old new → HasSaid first text piece new
said_on first text piece old new far does = record {
  said = far.said;
  does = does_silently first far.said old new far.does does;
  joined = far.joined;
}
  where
    does_silently : (first : Outside) (said : List ℕ) (old new : Outside) → DoesAll [] said [] first old → DoesAll [] [] [] old new → DoesAll [] said [] first new
    does_silently first said old new before after = subst (λ text. DoesAll [] text [] first new) (append-nil said) (does_both_all [] [] said [] [] [] first old new before after)

-- all of it was said
pub said_all_of : (first : Outside) (text piece : List ℕ) (old new : Outside) → HasSaid first text piece old → DoesAll [] piece [] old new → DoesAll [] text [] first new
said_all_of first text piece old new far says =
    subst (λ xs. DoesAll [] xs [] first new) (sym far.joined) (does_both_all [] [] far.said piece [] [] first old new far.does says)

-- stopped while a piece is said of a text that begins another
pub said_part_of : (first : Outside) (text piece whole : List ℕ) (old : Outside) (stop : Stop) (new : Outside) → HasSaid first text piece old → IsPrefix text whole
    → DoesPart [] piece [] old stop new → DoesPart [] whole [] first stop new
said_part_of first text piece whole old stop new far prefix part =
    does_part_of [] [] (far.said ++ piece) whole [] [] first stop new (prefix_all []) (subst (λ xs. IsPrefix xs whole) far.joined prefix) (prefix_all [])
    (does_both_part [] [] far.said piece [] first old stop new far.does.all part)

-- stopped where nothing is said
pub stopped_after : (first : Outside) (text piece whole : List ℕ) (old : Outside) (stop : Stop) (new : Outside) → HasSaid first text piece old → IsPrefix text whole
    → DoesPart [] [] [] old stop new → DoesPart [] whole [] first stop new
stopped_after first text piece whole old stop new far prefix part =
    said_part_of first text piece whole old stop new far prefix
    (does_part_of [] [] [] piece [] [] old stop new (prefix_all []) (record { rest = piece; joined = refl }) (prefix_all []) part)

pub memory_after : (first : Outside) (text piece whole : List ℕ) (now : Outside) → HasSaid first text piece now → IsPrefix text whole → DoesPart [] whole [] first NoMemory now
memory_after first text piece whole now far prefix =
    stopped_after first text piece whole now NoMemory now far prefix (out_of_memory [] [] [] now now refl)

-- what two clauses say of an Ok
pub on_ok_both : {T E P Q R : Type 0} (r : Result T E) → OnOk r P → OnOk r Q → (P → Q → R) → OnOk r R
on_ok_both (Ok x) p q both = both p q
on_ok_both (Err e) p q both = tt

-- all was said, and then memory ran out
pub memory_behind : (first : Outside) (text : List ℕ) (now : Outside) → DoesAll [] text [] first now → DoesPart [] text [] first NoMemory now
memory_behind first text now does = memory_after first text [] text now (record { said = text; does = does; joined = sym (append-nil text) }) (prefix_all text)
