-- Lists, item by item.
use Rattle.std.proofs.Common.{◌≡◌, ℕ, suc, ◌+◌, ◌<◌, Bool, true, false, ◌&&◌, List, [], ◌∷◌, ◌++◌, length, map, take, drop, get_or, flat_map, refl, ap, sym, ◌∙◌, add-one, drop-cons, append-nil, append_assoc}
use Rattle.std.specs.List.{list_all}
use Rattle.std.proofs.lemmas.Grind.{flat_map-append}
use Rattle.std.proofs.lemmas.List.{map-append, take_more}

-- what is left, from an item on
pub front_of : {A : Type 0} (xs : List A) (i : ℕ) (x : A) → i < length xs → x ≡ get_or xs i x → drop i xs ≡ x ∷ drop (i + 1) xs
front_of xs i x within is = rw add-one (drop-cons xs i x within ∙ ap (λ one. one ∷ drop (suc i) xs) (sym is))

-- what comes of the items so far, and of one more
pub flat_turn : {A B : Type 0} (f : A → List B) (xs : List A) (i : ℕ) (x : A) → i < length xs → x ≡ get_or xs i x → flat_map f (take (i + 1) xs) ≡ flat_map f (take i xs) ++ f x
flat_turn f xs i x within is =
    ap (flat_map f) (take_more xs i x within ∙ ap (λ one. take i xs ++ one ∷ []) (sym is)) ∙ flat_map-append f (take i xs) (x ∷ []) ∙ ap (λ more. flat_map f (take i xs) ++ more) (append-nil (f x))

all_front : {A : Type 0} (p : A → Bool) (xs : List A) (i : ℕ) (x : A) → i < length xs → x ≡ get_or xs i x → list_all p (drop i xs) ≡ (p x && list_all p (drop (i + 1) xs))
all_front p xs i x within is = ap (list_all p) (front_of xs i x within is)

-- going through a list, one fails
pub all_fails : {A : Type 0} (p : A → Bool) (xs : List A) (i : ℕ) (x : A) (test whole : Bool) → i < length xs → x ≡ get_or xs i x → test ≡ p x → test ≡ false →
    list_all p (drop i xs) ≡ whole → false ≡ whole
all_fails p xs i x test whole within is e fails before =
    sym (ap (λ b. b && list_all p (drop (i + 1) xs)) (sym e ∙ fails)) ∙ sym (all_front p xs i x within is) ∙ before

-- one passes
pub all_turn : {A : Type 0} (p : A → Bool) (xs : List A) (i : ℕ) (x : A) (test whole : Bool) → i < length xs → x ≡ get_or xs i x → test ≡ p x → test ≡ true →
    list_all p (drop i xs) ≡ whole → list_all p (drop (i + 1) xs) ≡ whole
all_turn p xs i x test whole within is e passes before =
    sym (all_front p xs i x within is ∙ ap (λ b. b && list_all p (drop (i + 1) xs)) (sym e ∙ passes)) ∙ before

pub all_map : {A B : Type 0} (p : B → Bool) (f : A → B) (xs : List A) → list_all p (map f xs) ≡ list_all (λ x. p (f x)) xs
all_map p f [] = refl
all_map p f (x ∷ xs) = ap (λ b. p (f x) && b) (all_map p f xs)

-- what is made of the first of a list, put behind what was there before, with that of one more
pub mapped_turn : {A B C : Type 0} (f : B → List C) (g : A → B) (before now next : List C) (xs : List A) (i : ℕ) (x : A) → i < length xs → x ≡ get_or xs i x →
    now ≡ before ++ flat_map f (map g (take i xs)) → next ≡ now ++ f (g x) → next ≡ before ++ flat_map f (map g (take (i + 1) xs))
mapped_turn f g before now next xs i x within is e d =
    d ∙ ap (λ all. all ++ f (g x)) e ∙ append_assoc before (flat_map f (map g (take i xs))) (f (g x)) ∙
    ap (λ more. before ++ more) (sym (
    ap (λ some. flat_map f (map g some)) (take_more xs i x within ∙ ap (λ one. take i xs ++ one ∷ []) (sym is)) ∙
    ap (flat_map f) (map-append g (take i xs) (x ∷ [])) ∙ flat_map-append f (map g (take i xs)) (g x ∷ []) ∙
    ap (λ more. flat_map f (map g (take i xs)) ++ more) (append-nil (f (g x)))))
