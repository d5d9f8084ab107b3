-- Texts that are added piece by piece, and how long the text of a string is.
use Rattle.std.proofs.Common.{◌≡◌, ◌≤◌, ◌<◌, ◌+◌, ◌-◌, ◌*◌, ℕ, Bool, true, false, ◌||◌, List, [], ◌∷◌, ◌++◌, take, drop, length, get_or, flat_map, refl, sym, ap, subst, ◌∙◌, arith, append_assoc, length-append}
use Rattle.std.proofs.lemmas.List.{take_more, take_all}
use Rattle.std.proofs.lemmas.Grind.{flat_map-append}
use Rattle.zk_text.specs.Escape.{byte_text, escaped, is_escaped, is_taken, piece}
use Rattle.zk_value.specs.declared.cell.Atom.{Atom}
use Rattle.zk_value.specs.declared.cell.Cell.{Cell}
use Rattle.zk_ascii.specs.Text.{element_text, atoms_text, cell_text, cells_text}

append_nil : (xs : List ℕ) → xs ++ [] ≡ xs
append_nil [] = refl
append_nil (x ∷ xs) = ap (λ ys. x ∷ ys) (append_nil xs)

-- one piece more
pub pieces_more : {A : Type 0} (f : A → List ℕ) (items : List A) (place : ℕ) (item : A) (front text : List ℕ) → place < length items → item ≡ get_or items place item
    → text ≡ front ++ flat_map f (take place items) → text ++ f item ≡ front ++ flat_map f (take (place + 1) items)
pieces_more f items place item front text within is so_far =
    ap (λ t. t ++ f item) so_far
    ∙ append_assoc front (flat_map f (take place items)) (f item)
    ∙ ap (λ t. front ++ (flat_map f (take place items) ++ t)) (sym (append_nil (f item)))
    ∙ ap (λ t. front ++ t) (sym (flat_map-append f (take place items) (item ∷ [])))
    ∙ ap (λ xs. front ++ flat_map f xs) (sym (take_more items place item within ∙ ap (λ x. take place items ++ x ∷ []) (sym is)))

length-piece : (marked : Bool) (byte : ℕ) → length (piece marked byte) ≤ 4
length-piece true byte = omega arith
length-piece false byte = omega arith

length-pieces : (in_set : Bool) (bytes : List ℕ) → length (flat_map (byte_text in_set) bytes) ≤ length bytes * 4
length-pieces in_set [] = omega arith
length-pieces in_set (byte ∷ bytes) =
    omega (arith, length-append (byte_text in_set byte) (flat_map (byte_text in_set) bytes), length-piece (is_escaped in_set byte) byte, length-pieces in_set bytes)

-- no byte of a string takes more than four
pub length-escaped : (in_set : Bool) (bytes : List ℕ) → length (escaped in_set bytes) ≤ length bytes * 4
length-escaped in_set [] = omega arith
length-escaped in_set (byte ∷ bytes) =
    omega (
      arith,
      length-append (piece (is_taken (byte ∷ bytes) || is_escaped in_set byte) byte) (flat_map (byte_text in_set) bytes),
      length-piece (is_taken (byte ∷ bytes) || is_escaped in_set byte) byte,
      length-pieces in_set bytes,
    )

-- all pieces, behind a first one
pieces_whole : {A : Type 0} (f : A → List ℕ) (rest : List A) (n : ℕ) (front first out text : List ℕ) → length rest ≤ n → out ≡ front ++ first
    → text ≡ out ++ flat_map f (take n rest) → text ≡ front ++ (first ++ flat_map f rest)
pieces_whole f rest n front first out text past begins so_far =
    so_far
    ∙ ap (λ xs. out ++ flat_map f xs) (take_all n rest past)
    ∙ ap (λ t. t ++ flat_map f rest) begins
    ∙ append_assoc front first (flat_map f rest)

rest_is : {A : Type 0} (x : A) (xs : List A) → take (length (x ∷ xs) - 1) (drop 1 (x ∷ xs)) ≡ xs
rest_is x xs = take_all (length (x ∷ xs) - 1) xs (omega arith)

pub atoms_whole : (atoms : List Atom) (first : Atom) (n : ℕ) (front out text : List ℕ) → 1 ≤ length atoms → first ≡ get_or atoms 0 first
    → length (take (length atoms - 1) (drop 1 atoms)) ≤ n → out ≡ front ++ element_text first
    → text ≡ out ++ flat_map (λ other. 44 ∷ element_text other) (take n (take (length atoms - 1) (drop 1 atoms))) → text ≡ front ++ atoms_text atoms
atoms_whole [] first n front out text some is past begins so_far = absurd (omega arith)
atoms_whole (x ∷ xs) first n front out text some is past begins so_far =
    let f : Atom → List ℕ = λ other. 44 ∷ element_text other in
    pieces_whole f xs n front (element_text x) out text (subst (λ (r : List Atom). length r ≤ n) (rest_is x xs) past) (begins ∙ ap (λ a. front ++ element_text a) is)
    (so_far ∙ ap (λ (r : List Atom). out ++ flat_map f (take n r)) (rest_is x xs))

pub cells_whole : (cells : List Cell) (first : Cell) (n : ℕ) (front out text : List ℕ) → 1 ≤ length cells → first ≡ get_or cells 0 first
    → length (take (length cells - 1) (drop 1 cells)) ≤ n → out ≡ front ++ cell_text first
    → text ≡ out ++ flat_map (λ other. 9 ∷ cell_text other) (take n (take (length cells - 1) (drop 1 cells))) → text ≡ front ++ cells_text cells
cells_whole [] first n front out text some is past begins so_far = absurd (omega arith)
cells_whole (x ∷ xs) first n front out text some is past begins so_far =
    let f : Cell → List ℕ = λ other. 9 ∷ cell_text other in
    pieces_whole f xs n front (cell_text x) out text (subst (λ (r : List Cell). length r ≤ n) (rest_is x xs) past) (begins ∙ ap (λ a. front ++ cell_text a) is)
    (so_far ∙ ap (λ (r : List Cell). out ++ flat_map f (take n r)) (rest_is x xs))
