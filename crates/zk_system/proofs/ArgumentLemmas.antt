-- The words of the command line are texts.
use Rattle.std.proofs.Common.{◌≡◌, ℕ, List, drop, All, IsUtf8, String, Result, Ok, Err, IfOk, slice_index_or, string_bytes, sym, subst}
use Rattle.std.proofs.lemmas.List.Elements.{All-map}
use Rattle.std.proofs.lemmas.Str.{IsUtf8-string_bytes}
use Rattle.zk_system.specs.Arguments.{words_behind_name}

texts : {A : Type 0} (arguments : List (String A)) → All IsUtf8 (words_behind_name arguments)
texts {A} arguments = All-map IsUtf8 string_bytes (drop 1 arguments) (λ k d within. IsUtf8-string_bytes {Z = A} (slice_index_or (drop 1 arguments) k d))

pub all_texts : {A T E : Type 0} (arguments : List (String A)) (words : T → List (List ℕ)) (result : Result T E) → IfOk result (λ given. words given ≡ words_behind_name arguments)
    → IfOk result (λ given. All IsUtf8 (words given))
all_texts arguments words (Ok given) same = subst (All IsUtf8) (sym same) (texts arguments)
all_texts arguments words (Err fault) same = tt
