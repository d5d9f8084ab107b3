-- What is found in the input of a script.
use Rattle.std.proofs.Common.{◌≡◌, ℕ, ◌<◌, inl, inr, cond, length, length-append, arith, List, [], ◌∷◌, Option, Some, None, Result, Ok, Err, IfSome, refl, sym, ap, subst, ◌∙◌}
use Rattle.std.proofs.lemmas.Bool.{lt-ltb}
use Rattle.zk_base.specs.declared.endings.Ending.{Ending}
use Rattle.zk_base.specs.declared.endings.Ending.TheVariants as ending
use Rattle.zk_base.specs.declared.endings.ScriptKind.TheVariants.{TooLarge}
use Rattle.zk_base.specs.Shelf.{Files, Outside, HasRisen}
use Rattle.zk_tree.specs.declared.decl.Tree.{Tree}
use Rattle.zk_token.specs.Tokens.{tokens_of}
use Rattle.zk_outcome.specs.declared.found.Found.TheVariants.{Refused}
use Rattle.zk_load.specs.Script.{Refusal, script_max, tree_read, script_of, accepted, script_in}
use Rattle.zk_outcome.specs.Found.{IsRefusal, Finds}
use Rattle.zk_outcome.specs.Input.{IsReadBeyond, IsReadOf}
use Rattle.zk_outcome.specs.Parts.{DoesWithoutFault, SameAbsences}

-- what is read of the input that is told under a name
told : (inputs : Option Files) (files : Files) (name : List ℕ) (found : Option (List ℕ)) (most : ℕ) → inputs ≡ Some files → IfSome inputs (λ fs. IsReadOf most (fs name) found) → IsReadOf most (files name) found
told inputs files name found most is given = subst (λ o. IfSome o (λ fs. IsReadOf most (fs name) found)) is given

accepted_refusal : (file : List ℕ) (read : Result Tree Refusal) (e : Ending) → accepted file read ≡ Refused e → IsRefusal e
accepted_refusal file (Ok tree) e same = absurd (let never : ⊥ = cc in never)
accepted_refusal file (Err refusal) e same = let is : ending.ScriptRefused file refusal.place refusal.kind ≡ e = cc in subst IsRefusal is tt

accepted_there : (file : List ℕ) (read : Result Tree Refusal) (name : List ℕ) → accepted file read ≡ Refused (ending.NoInput name) → ⊥
accepted_there file (Ok tree) name same = let never : ⊥ = cc in never
accepted_there file (Err refusal) name same = let never : ⊥ = cc in never

-- a text that is too large
too_large : (text : List ℕ) → script_max < length text → script_of text ≡ Err (record { place = script_max; kind = TooLarge })
too_large text long = ap (λ b. cond b (Err (record { place = script_max; kind = TooLarge })) (tree_read (tokens_of text))) (lt-ltb script_max (length text) long)

script_read : (whole text : List ℕ) → IsReadBeyond script_max whole text → script_of text ≡ script_of whole
script_read whole text read = elim read.enough [
  | inl same ↦ ap script_of same
  | inr long ↦ too_large text long ∙ sym (too_large whole (omega (arith, ap length read.prefix.joined, length-append text read.prefix.rest)))
]

found_as : (file text : List ℕ) (input : Option (List ℕ)) → IsReadOf script_max input (Some text) → accepted file (script_of text) ≡ script_in file input
found_as file text None read = absurd read
found_as file text (Some whole) read = ap (accepted file) (script_read whole text read)

-- a script was read
pub found_script : (file text : List ℕ) (old new : Outside) → DoesWithoutFault (file ∷ []) [] [] old new → SameAbsences old new
    → IfSome old.inputs (λ files. IsReadOf script_max (files file) (Some text)) → Finds file (script_in file) old (accepted file (script_of text)) new
found_script file text old new read present holds = record {
  does = read;
  told = λ inputs t. found_as file text (inputs file) (told old.inputs inputs file (Some text) script_max t holds);
  refusal = accepted_refusal file (script_of text);
  absent = λ name same. absurd (accepted_there file (script_of text) name same);
  present = λ other. present;
}

-- there is no script
lacks_script : (file : List ℕ) (input : Option (List ℕ)) → IsReadOf script_max input None → Refused (ending.NoInput file) ≡ script_in file input
lacks_script file None read = refl
lacks_script file (Some whole) read = absurd read

pub found_no_script : (file : List ℕ) (old new : Outside) → DoesWithoutFault (file ∷ []) [] [] old new → IfSome old.inputs (λ files. IsReadOf script_max (files file) None) → HasRisen old.absences new.absences
    → Finds file (script_in file) old (Refused (ending.NoInput file)) new
found_no_script file old new read lacks risen = record {
  does = read;
  told = λ inputs t. lacks_script file (inputs file) (told old.inputs inputs file None script_max t lacks);
  refusal = λ e same. let is : ending.NoInput file ≡ e = cc in subst IsRefusal is tt;
  absent = λ name same. risen;
  present = λ other. absurd (other file refl);
}
