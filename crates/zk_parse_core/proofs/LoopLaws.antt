-- Reading one after another, as a loop does.
use Rattle.std.proofs.Common.{◌≡◌, ℕ, zero, suc, Bool, true, false, List, [], ◌∷◌, ◌++◌, Option, Some, None, Err, refl, sym, ap, append_assoc}
use Rattle.std.proofs.lemmas.List.{append-nil}
use Rattle.zk_tree.specs.declared.token.Token.{Token}
use Rattle.zk_parse_core.specs.declared.fault.FormFault.{FormFault}
use Rattle.zk_parse_core.specs.declared.fault.FormFault.TheVariants as form
use Rattle.zk_parse_core.specs.Reading.{◌>>=◌, Reader, Gives, repeated, with_front}

regroup : {A : Type 0} (front : List A) (a : A) (read : Option (List A × List Token)) → with_front front (read >>= λ x. Some (a ∷ x.0, x.1)) ≡ with_front (front ++ a ∷ []) read
regroup {A} front a (Some x) = ap (λ (list : List A). Some (list, x.1)) (sym (append_assoc front (a ∷ []) x.0))
regroup front a None = refl

-- one more is read
pub goes_further : {A : Type 0} (goes_on : List Token → Bool) (read : Reader A) (front : List A) (tokens : List Token) (a : A) (after : List Token) (n : ℕ)
    → goes_on tokens ≡ true → read tokens ≡ Some (a, after)
    → with_front front (repeated goes_on read (suc n) tokens) ≡ with_front (front ++ a ∷ []) (repeated goes_on read n after)
unfolding repeated
goes_further goes_on read front tokens a after n goes here = rw (goes, here) (regroup front a (repeated goes_on read n after))

-- none reads where one should
pub breaks_off : {A : Type 0} (goes_on : List Token → Bool) (read : Reader A) (front : List A) (tokens : List Token) (n : ℕ)
    → goes_on tokens ≡ true → read tokens ≡ None → with_front front (repeated goes_on read n tokens) ≡ None
unfolding repeated
breaks_off goes_on read front tokens zero goes none = rw goes refl
breaks_off goes_on read front tokens (suc n) goes none = rw (goes, none) refl

-- there are no more turns
pub runs_out : {A : Type 0} (goes_on : List Token → Bool) (read : Reader A) (front : List A) (tokens : List Token)
    → goes_on tokens ≡ true → with_front front (repeated goes_on read 0 tokens) ≡ None
unfolding repeated
runs_out goes_on read front tokens goes = rw goes refl

-- the tokens do not go on
pub is_done : {A : Type 0} (goes_on : List Token → Bool) (read : Reader A) (front : List A) (tokens : List Token) (n : ℕ)
    → goes_on tokens ≡ false → with_front front (repeated goes_on read n tokens) ≡ Some (front, tokens)
unfolding repeated
is_done {A} goes_on read front tokens zero stops = rw stops (ap (λ (list : List A). Some (list, tokens)) (append-nil front))
is_done {A} goes_on read front tokens (suc n) stops = rw stops (ap (λ (list : List A). Some (list, tokens)) (append-nil front))

-- a form whose part does not read does not read
pub fails : {A B : Type 0} (fault : FormFault) (part : Option (A × List Token)) (whole : Option (B × List Token)) (rest after : List Token) → (part ≡ None → whole ≡ None)
    → Gives part (Err fault) rest → Gives whole (Err fault) after
fails form.NoForm part whole rest after none h = none h
fails form.NoMemory part whole rest after none h = tt
