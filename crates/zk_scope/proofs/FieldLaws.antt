-- The fields of record types.
use Rattle.std.proofs.Common.{◌≡◌, ℕ, ◌+◌, ◌<◌, List, [], ◌∷◌, ◌++◌, length, get_or, map, take, Option, Some, None, slice_get, refl, ap, sym, ◌∙◌, append_assoc}
use Rattle.std.proofs.lemmas.List.{take_more}
use Rattle.zk_typed.specs.Predefined.{record_types}
use Rattle.zk_typed.specs.Program.{RecordType}
use Rattle.zk_typed.specs.Resolving.{Scripts, own_fields}
use Rattle.zk_scope.specs.Fields.{own_of, predefined_fields}
use Rattle.zk_scope.proofs.GatherLaws.{map_more}

-- one more of a list is added
pub added_on : {A V B : Type 0} (view : V → B) (f : A → B) (xs : List A) (at : ℕ) (x : A) (one : V) (old between new : List V) →
    at < length xs → x ≡ get_or xs at x → map view between ≡ map view old ++ map f (take at xs) → view one ≡ f x → new ≡ between ++ one ∷ [] →
    map view new ≡ map view old ++ map f (take (at + 1) xs)
added_on view f xs at x one old between new within is before same pushed =
    let e : take (at + 1) xs ≡ take at xs ++ x ∷ [] = take_more xs at x within ∙ ap (λ y. take at xs ++ y ∷ []) (sym is) in
    ap (map view) pushed ∙ map_more view between one ∙ ap (λ y. y ++ view one ∷ []) before ∙ append_assoc (map view old) (map f (take at xs)) (view one ∷ []) ∙
    ap (λ y. map view old ++ y) (ap (λ v. map f (take at xs) ++ v ∷ []) same ∙ sym (map_more f (take at xs) x) ∙ ap (map f) (sym e))

pub own_is : (scripts : Scripts) (number : ℕ) → own_fields scripts number ≡ own_of scripts number (predefined_fields number)
own_is scripts number = by_found (slice_get record_types number) refl
  where
    by_found : (found : Option RecordType) → slice_get record_types number ≡ found → own_fields scripts number ≡ own_of scripts number (predefined_fields number)
    by_found (Some one) e = rw e refl
    by_found None e = rw e refl
