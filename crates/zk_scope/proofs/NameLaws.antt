-- The module in a name, as far as it was read from behind.
use Rattle.std.proofs.Common.{◌≡◌, ℕ, zero, suc, ◌+◌, ◌-◌, ◌<◌, ◌≤◌, Bool, true, false, List, [], ◌∷◌, ◌++◌, length, take, drop, get_or, codes, nat_eq, Option, Some, None, ap, sym, subst, ◌∙◌, arith, add-one, append-nil, drop-cons, if◌then◌else◌}
use Rattle.std.proofs.Math.ListN.{drop_of_length-le}
use Rattle.std.specs.List.{starts_with}
use Rattle.std.specs.Option.{option_map}
use Rattle.zk_typed.specs.Names.{first_of, module_in}

-- what stands at a place
here : Bool → Option (List ℕ)
here mark = if mark then Some [] else None

one_on : (byte : ℕ) (bytes : List ℕ) (mark : Bool) → starts_with nat_eq (byte ∷ bytes) (codes "::") ≡ mark → module_in bytes ≡ None → module_in (byte ∷ bytes) ≡ here mark
unfolding here
one_on byte bytes mark h none = ap (λ (x : Option (List ℕ)). first_of (option_map (λ (front : List ℕ). byte ∷ front) x) (if starts_with nat_eq (byte ∷ bytes) (codes "::") then Some [] else None)) none ∙ ap (λ (b : Bool). if b then Some [] else None) h

-- the rest of a name has no mark
abbrev pub IsRead : List ℕ → ℕ → Type 0
IsRead name at = module_in (drop at name) ≡ None

pub read_none : (name : List ℕ) → IsRead name (length name)
read_none name =
    let all : length name ≤ length name = omega arith in
    ap module_in (drop_of_length-le name all)

opened : (name : List ℕ) (at : ℕ) → at < length name → drop at name ≡ get_or name at 0 ∷ drop (at + 1) name
opened name at within = rw add-one (drop-cons name at 0 within)

read_here : (name : List ℕ) (at : ℕ) (mark : Bool) → at < length name → starts_with nat_eq (drop at name) (codes "::") ≡ mark → IsRead name (at + 1) → module_in (drop at name) ≡ here mark
read_here name at mark within h read =
    let is = opened name at within in
    ap module_in is ∙ one_on (get_or name at 0) (drop (at + 1) name) mark (ap (λ (x : List ℕ). starts_with nat_eq x (codes "::")) (sym is) ∙ h) read

pub read_on : (name : List ℕ) (n : ℕ) → 0 < n → n ≤ length name → starts_with nat_eq (drop (n - 1) name) (codes "::") ≡ false → IsRead name n → IsRead name (n - 1)
unfolding here
read_on name n some within plain read =
    let back : n - 1 + 1 ≡ n = omega arith in
    read_here name (n - 1) false (omega arith) plain (subst (IsRead name) (sym back) read)

-- a mark in the rest of a name is one of the name
grown : (name : List ℕ) (at : ℕ) (front : List ℕ) → module_in (drop at name) ≡ Some front → module_in name ≡ Some (take at name ++ front)
grown name zero front h = h
grown [] (suc at) front h = absurd (cc)
grown (byte ∷ bytes) (suc at) front h =
    ap (λ (x : Option (List ℕ)). first_of (option_map (λ (more : List ℕ). byte ∷ more) x) (if starts_with nat_eq (byte ∷ bytes) (codes "::") then Some [] else None)) (grown bytes at front h)

pub read_mark : (name : List ℕ) (n : ℕ) → 0 < n → n ≤ length name → starts_with nat_eq (drop (n - 1) name) (codes "::") ≡ true → IsRead name n → module_in name ≡ Some (take (n - 1) name)
unfolding here
read_mark name n some within mark read =
    let back : n - 1 + 1 ≡ n = omega arith in
    grown name (n - 1) [] (read_here name (n - 1) true (omega arith) mark (subst (IsRead name) (sym back) read)) ∙ ap Some (append-nil (take (n - 1) name))

pub read_all : (name : List ℕ) → IsRead name 0 → module_in name ≡ None
read_all name read = read

pub ruleset reading = (read_none, read_on, read_mark, read_all)
