-- The line of values, one value after another.
use Rattle.std.proofs.Common.{◌≡◌, ℕ, ◌+◌, ◌<◌, List, ◌++◌, length, map, take, get_or, sym, ap, ◌∙◌, arith}
use Rattle.std.specs.Prelude.{codes}
use Rattle.std.proofs.lemmas.List.{take-map, length-map, get_or-map}
use Rattle.zk_tree.specs.Lists.{joined_by}
use Rattle.zk_typed.specs.Text.{text_of, line_of}
use Rattle.zk_value.specs.Plain.{value_of, key_of}
use Rattle.zk_value.specs.declared.value.Value.{Value}
use Rattle.zk_tree.proofs.JoinLaws.{joined_by-more, separated}

-- the texts of values
abbrev texts : List Value → List (List ℕ)
texts values = map text_of (key_of values)

texts-take : (n : ℕ) (values : List Value) → texts (take n values) ≡ take n (texts values)
texts-take n values = ap (map text_of) (sym (take-map value_of n values)) ∙ sym (take-map text_of n (key_of values))

pub line-more : (values : List Value) (place : ℕ) (value : Value) → place < length values → value ≡ get_or values place value
    → line_of (key_of (take (place + 1) values)) ≡ line_of (key_of (take place values)) ++ separated place (codes ", ") (text_of (value_of value))
line-more values place value within is =
    let text = text_of (value_of value) in
    let same : length (texts values) ≡ length values = length-map (key_of values) text_of ∙ length-map values value_of in
    let inside : place < length (texts values) = omega arith in
    let plain : length (key_of values) ≡ length values = length-map values value_of in
    let within_plain : place < length (key_of values) = omega arith in
    let there : text ≡ get_or (texts values) place text =
    ap (λ v. text_of (value_of v)) is ∙ sym (get_or-map text_of (key_of values) place (value_of value) text within_plain ∙ ap text_of (get_or-map value_of values place value (value_of value) within)) in
    ap (joined_by (codes ", ")) (texts-take (place + 1) values)
    ∙ (joined_by-more (codes ", ") (texts values) place text inside there
    ∙ ap (λ parts. joined_by (codes ", ") parts ++ separated place (codes ", ") text) (sym (texts-take place values)))
