-- How the fragments of one key are cut into groups, in the subject's own words (the rules are those of `Group`).
use Rattle.std.specs.Prelude.{◌≡◌, ◌⊎◌, ℕ, ◌<◌, true, false, List, [], ◌∷◌, ◌++◌, length, take}
use Rattle.std.specs.List.{All, flat_map}
use Rattle.zk_frag.specs.Fragment.{Fragment}
use Rattle.zk_frag.specs.Group.{is_covered, comes_late}

-- None of the fragments comes more than 30 seconds after the first, and the datagram isn't whole before the last.
pub record BelongTogether {K T : Type 0} (group : List (Fragment K T)) : Type 0 where
  pub in_time : All (λ fragment. comes_late group fragment ≡ false) group
  pub not_before : (n : ℕ) → n < length group → is_covered (take n group) ≡ false

-- the next fragment comes more than 30 seconds after the group's first
abbrev pub StartsLate : {K T : Type 0} → List (Fragment K T) → List (Fragment K T) → Type 0
StartsLate group [] = ⊥
StartsLate group (next ∷ others) = comes_late group next ≡ true

-- a group that ends before the rest: its datagram is whole, or the next fragment comes late
pub record IsClosed {K T : Type 0} (group rest : List (Fragment K T)) : Type 0 where
  pub together : BelongTogether group
  pub ended : (is_covered group ≡ true) ⊎ StartsLate group rest

-- a group that has not ended: its datagram isn't whole
pub record IsOpen {K T : Type 0} (group : List (Fragment K T)) : Type 0 where
  pub together : BelongTogether group
  pub not_whole : is_covered group ≡ false

-- the fragments of the groups, one group behind another
abbrev pub flatten : {K T : Type 0} → List (List (Fragment K T)) → List (Fragment K T)
flatten groups = flat_map (λ group. group) groups

-- each of the groups is closed in its place, and the current one behind them is open
abbrev pub AreGroups : {K T : Type 0} → List (List (Fragment K T)) → List (Fragment K T) → Type 0
AreGroups [] current = IsOpen current
AreGroups (group ∷ groups) current = IsClosed group (flatten groups ++ current) × AreGroups groups current

-- the fragments are those of the closed groups, and behind them those of the current one
pub record AreCutInto {K T : Type 0} (fragments : List (Fragment K T)) (groups : List (List (Fragment K T))) (current : List (Fragment K T)) : Type 0 where
  pub whole : fragments ≡ flatten groups ++ current
  pub groups_are : AreGroups groups current
