-- What is made of the items of a list, one after another.
use Rattle.std.proofs.Common.{◌≡◌, ℕ, ◌+◌, ◌<◌, List, [], ◌∷◌, ◌++◌, length, get_or, map, flat_map, take, refl, sym, ap, ◌∙◌, append-nil}
use Rattle.std.proofs.lemmas.Grind.{flat_map-append}
use Rattle.std.proofs.lemmas.List.{take_more}

pub map_behind : {A B : Type 0} (f : A → B) (all : List A) (one : A) → map f (all ++ one ∷ []) ≡ map f all ++ f one ∷ []
map_behind f [] one = refl
map_behind f (first ∷ all) one = ap (λ more. f first ∷ more) (map_behind f all one)

taken : {A : Type 0} (items : List A) (index : ℕ) (item : A) → index < length items → item ≡ get_or items index item → take (index + 1) items ≡ take index items ++ item ∷ []
taken items index item within is = take_more items index item within ∙ ap (λ one. take index items ++ one ∷ []) (sym is)

-- what is made of one item more
pub pushed : {A B C : Type 0} (view : B → C) (f : A → C) (items : List A) (index : ℕ) (item : A) (all next : List B) (one : B) →
    next ≡ all ++ one ∷ [] → index < length items → item ≡ get_or items index item → map view all ≡ map f (take index items) → view one ≡ f item → map view next ≡ map f (take (index + 1) items)
pushed view f items index item all next one behind within is before same =
    ap (map view) behind ∙ map_behind view all one ∙ ap (λ front. front ++ view one ∷ []) before ∙ ap (λ last. map f (take index items) ++ last ∷ []) same
    ∙ sym (ap (map f) (taken items index item within is) ∙ map_behind f (take index items) item)

-- the same over what the items stand for
pub pushed_lent : {A B C D : Type 0} (view : B → C) (f : D → C) (lent : A → D) (items : List A) (index : ℕ) (item : A) (all next : List B) (one : B) →
    next ≡ all ++ one ∷ [] → index < length items → item ≡ get_or items index item → map view all ≡ map f (map lent (take index items)) → view one ≡ f (lent item) →
    map view next ≡ map f (map lent (take (index + 1) items))
pushed_lent view f lent items index item all next one behind within is before same =
    ap (map view) behind ∙ map_behind view all one ∙ ap (λ front. front ++ view one ∷ []) before ∙ ap (λ last. map f (map lent (take index items)) ++ last ∷ []) same
    ∙ sym (ap (λ front. map f (map lent front)) (taken items index item within is) ∙ ap (map f) (map_behind lent (take index items) item) ∙ map_behind f (map lent (take index items)) (lent item))

-- what comes of the items so far, and of one more
pub gathered_more : {A B C : Type 0} (f : B → List C) (g : A → B) (items : List A) (index : ℕ) (item : A) → index < length items → item ≡ get_or items index item →
    flat_map f (map g (take (index + 1) items)) ≡ flat_map f (map g (take index items)) ++ f (g item)
gathered_more f g items index item within is =
    ap (λ some. flat_map f (map g some)) (taken items index item within is) ∙ ap (flat_map f) (map_behind g (take index items) item) ∙
    flat_map-append f (map g (take index items)) (g item ∷ []) ∙ ap (λ more. flat_map f (map g (take index items)) ++ more) (append-nil (f (g item)))
