-- Code to whose end more is put, and what is found of each body.
use Rattle.std.proofs.Common.{◌≡◌, ℕ, ◌+◌, ◌<◌, List, [], ◌∷◌, ◌++◌, length, map, take, get_or, refl, sym, ap, ◌∙◌, arith, append_assoc, append-nil, length-append, add-zero}
use Rattle.std.proofs.lemmas.List.{map-append, length-map, length-take-le, take_more}
use Rattle.zk_typed.specs.Program.{Global}
use Rattle.zk_lower.specs.Code.{Op, GlobalCode}
use Rattle.zk_lower.specs.Lowering.{laid, placed, initial_code, initials_code, entry_of, globals_found}

-- one more of what is gone over
pub taken : {A B : Type 0} (f : A → B) (list : List A) (at : ℕ) (one : A) → at < length list → one ≡ get_or list at one → map f (take (at + 1) list) ≡ map f (take at list) ++ f one ∷ []
taken f list at one lt is =
    ap (map f) (take_more list at one lt ∙ ap (λ x. take at list ++ x ∷ []) (sym is)) ∙ map-append f (take at list) (one ∷ [])

pub counted : {A B : Type 0} (f : A → B) (list : List A) (at number : ℕ) → at < length list → number ≡ at → number ≡ length (map f (take at list))
counted f list at number lt same = same ∙ sym (length-map (take at list) f ∙ length-take-le at list (omega (arith, lt)))

pub found_one : {A B : Type 0} (f : A → B) (list all : List A) (one : A) (what : B) → all ≡ list ++ one ∷ [] → f one ≡ what → map f all ≡ map f list ++ what ∷ []
found_one f list all one what e is = ap (map f) e ∙ (map-append f list (one ∷ []) ∙ ap (λ x. map f list ++ x ∷ []) is)

laid_more : {A : Type 0} (code : A → List Op) (list : List A) (one : A) → laid code (list ++ one ∷ []) ≡ laid code list ++ code one
laid_more code [] one = append-nil (code one)
laid_more code (first ∷ list) one = ap (λ more. code first ++ more) (laid_more code list one) ∙ sym (append_assoc (code first) (laid code list) (code one))

placed_more : {A B : Type 0} (code : A → List Op) (found : ℕ → A → B) (at : ℕ) (list : List A) (one : A) → placed code found at (list ++ one ∷ []) ≡ placed code found at list ++ found (at + length (laid code list)) one ∷ []
placed_more code found at [] one = ap (λ n. found n one ∷ []) (sym (add-zero at))
placed_more code found at (first ∷ list) one =
    let whole : (at + length (code first)) + length (laid code list) ≡ at + length (code first ++ laid code list) = omega (arith, length-append (code first) (laid code list)) in
    ap (λ more. found at first ∷ more) (placed_more code found (at + length (code first)) list one ∙ ap (λ n. placed code found (at + length (code first)) list ++ found n one ∷ []) whole)

-- what holds once the code of some is put behind other code
pub record Grown {A B : Type 0} (code : A → List Op) (found : ℕ → A → B) (done : List A) (old ops : List Op) (list : List B) : Type 0 where
  pub laid_are : ops ≡ old ++ laid code done
  pub found_are : list ≡ placed code found (length old) done

pub grown_none : {A B : Type 0} (code : A → List Op) (found : ℕ → A → B) (old : List Op) → Grown code found [] old old []
grown_none code found old = record { laid_are = sym (append-nil old); found_are = refl }

pub grown_more : {A B : Type 0} (code : A → List Op) (found : ℕ → A → B) (done next : List A) (one : A) (old ops now : List Op) (list more : List B) → Grown code found done old ops list
    → next ≡ done ++ one ∷ [] → now ≡ ops ++ code one → more ≡ list ++ found (length ops) one ∷ [] → Grown code found next old now more
grown_more code found done next one old ops now list more g n p q =
    let size : length ops ≡ length old + length (laid code done) = ap length g.laid_are ∙ length-append old (laid code done) in
    record {
      laid_are = p ∙ (ap (λ l. l ++ code one) g.laid_are ∙ (append_assoc old (laid code done) (code one) ∙ ap (λ l. old ++ l) (sym (laid_more code done one) ∙ ap (laid code) (sym n))));
      found_are = q ∙ (ap (λ l. l ++ found (length ops) one ∷ []) g.found_are ∙ (ap (λ k. placed code found (length old) done ++ found k one ∷ []) size ∙ (sym (placed_more code found (length old) done one) ∙ ap (placed code found (length old)) (sym n))));
    }

-- Initial values, which are numbered -------------------------------------------------------------------------------

initials_more : (number : ℕ) (list : List Global) (one : Global) → initials_code number (list ++ one ∷ []) ≡ initials_code number list ++ initial_code (number + length list) one one.initial
initials_more number [] one = append-nil (initial_code number one one.initial) ∙ ap (λ n. initial_code n one one.initial) (sym (add-zero number))
initials_more number (first ∷ list) one =
    let same : (number + 1) + length list ≡ number + length (first ∷ list) = omega arith in
    ap (λ more. initial_code number first first.initial ++ more) (initials_more (number + 1) list one ∙ ap (λ n. initials_code (number + 1) list ++ initial_code n one one.initial) same) ∙
    sym (append_assoc (initial_code number first first.initial) (initials_code (number + 1) list) (initial_code (number + length (first ∷ list)) one one.initial))

-- a global whose initial value begins at a place
abbrev pub global_found : ℕ → Global → GlobalCode
global_found at one = record { place = one.place; initial = entry_of at one.initial; expiry = one.expiry; expire_func = one.expire_func }

found_more : (at number : ℕ) (list : List Global) (one : Global) → globals_found at number (list ++ one ∷ []) ≡ globals_found at number list ++ global_found (at + length (initials_code number list)) one ∷ []
found_more at number [] one = ap (λ n. global_found n one ∷ []) (sym (add-zero at))
found_more at number (first ∷ list) one =
    let whole : (at + length (initial_code number first first.initial)) + length (initials_code (number + 1) list) ≡ at + length (initial_code number first first.initial ++ initials_code (number + 1) list) =
    omega (arith, length-append (initial_code number first first.initial) (initials_code (number + 1) list)) in
    ap (λ more. global_found at first ∷ more) (found_more (at + length (initial_code number first first.initial)) (number + 1) list one ∙
    ap (λ n. globals_found (at + length (initial_code number first first.initial)) (number + 1) list ++ global_found n one ∷ []) whole)

pub record InitialsGrown (done : List Global) (old ops : List Op) (list : List GlobalCode) : Type 0 where
  pub laid_are : ops ≡ old ++ initials_code 0 done
  pub found_are : list ≡ globals_found (length old) 0 done

pub initials_none : (old : List Op) → InitialsGrown [] old old []
initials_none old = record { laid_are = sym (append-nil old); found_are = refl }

pub initials_grown : (done next : List Global) (one : Global) (number : ℕ) (old ops now : List Op) (list more : List GlobalCode) → InitialsGrown done old ops list
    → number ≡ length done → next ≡ done ++ one ∷ [] → now ≡ ops ++ initial_code number one one.initial → more ≡ list ++ global_found (length ops) one ∷ [] → InitialsGrown next old now more
initials_grown done next one number old ops now list more g same n p q =
    let size : length ops ≡ length old + length (initials_code 0 done) = ap length g.laid_are ∙ length-append old (initials_code 0 done) in
    let counted : number ≡ 0 + length done = omega (arith, same) in
    record {
      laid_are = p ∙ (ap (λ l. l ++ initial_code number one one.initial) g.laid_are ∙ (append_assoc old (initials_code 0 done) (initial_code number one one.initial) ∙
          ap (λ l. old ++ l) (ap (λ k. initials_code 0 done ++ initial_code k one one.initial) counted ∙ (sym (initials_more 0 done one) ∙ ap (initials_code 0) (sym n)))));
      found_are = q ∙ (ap (λ l. l ++ global_found (length ops) one ∷ []) g.found_are ∙ (ap (λ k. globals_found (length old) 0 done ++ global_found k one ∷ []) size ∙ (sym (found_more (length old) 0 done one) ∙ ap (globals_found (length old) 0) (sym n))));
    }
