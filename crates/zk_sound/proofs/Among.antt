-- Names that stand among others.
use Rattle.std.proofs.Common.{◌≡◌, ◌⊎◌, inl, inr, List, [], ◌∷◌, refl}
use Rattle.std.specs.List.{AllByRecursion}
use Rattle.zk_typed.specs.Names.{Declared}

-- one of a list
abbrev pub Among : Declared → List Declared → Type 0
Among one [] = ⊥
Among one (other ∷ others) = (other ≡ one) ⊎ Among one others

-- each of a list is one of it
pub all_among : (names : List Declared) → AllByRecursion (λ one. Among one names) names
all_among [] = tt
all_among (one ∷ names) = (inl refl, more names (all_among names))
  where
    more : (others : List Declared) → AllByRecursion (λ other. Among other names) others → AllByRecursion (λ other. Among other (one ∷ names)) others
    more [] all = tt
    more (other ∷ others) all = (inr all.0, more others all.1)
