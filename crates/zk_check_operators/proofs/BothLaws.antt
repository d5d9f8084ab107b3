-- Parts that are checked one after another.
use Rattle.std.proofs.Common.{◌≡◌, List, [], ◌++◌, Result, Ok, Err, refl, ap, sym, ◌∙◌, append_assoc, append-nil}
use Rattle.zk_typed.specs.declared.refusal.Refusal.{Refusal}
use Rattle.zk_typed.specs.declared.refusal.Refusal.TheVariants.{Broken, NoMemory}
use Rattle.zk_typed.specs.Checked.{Checked, along, both, ◌>>=◌}
use Rattle.zk_typed.specs.declared.refusal.Broken.{Broken as BrokenRule}
use Rattle.zk_typed.specs.Declarations.{nothing}
use Rattle.zk_typed.specs.Tells.{Tells}
use Rattle.zk_check_operators.specs.Gather.{told, Told, IsAlong, IsBoth, Adds}

-- what is refused in a part is refused in the whole
pub passed : {A A' B B' : Type 0} (va : A → A') (vb : B → B') (ca : Checked A') (k : A' → Checked B') (refusal : Refusal) →
    Tells va (Err refusal) ca → Tells vb (Err refusal) (ca >>= k)
passed va vb ca k (Broken rules) h = rw h refl
passed va vb ca k NoMemory h = tt

same_rules : {A : Type 0} {before after : List BrokenRule} → Path (Checked A) (Err before) (Err after) → before ≡ after
same_rules e = cc

pub both_tell : {A A' B B' : Type 0} (va : A → A') (vb : B → B') (first : Result A Refusal) (second : Result B Refusal) (both_of : Result (A × B) Refusal)
    (ca : Checked A') (cb : Checked B') → Tells va first ca → Tells vb second cb → IsBoth first second both_of →
    Tells (λ (pair : A × B). (va pair.0, vb pair.1)) both_of (both ca cb)
both_tell va vb (Ok a) (Ok b) (Ok pair) ca cb h k both_is = rw (h, k) cc
both_tell va vb (Ok a) (Err refusal) (Ok pair) ca cb h k both_is = absurd (let e = both_is.1 in cc)
both_tell va vb (Err refusal) second (Ok pair) ca cb h k both_is = absurd (let e = both_is.0 in cc)
both_tell va vb (Ok a) (Ok b) (Err (Broken rules)) ca cb h k both_is = absurd (let e = both_is.2 in cc)
both_tell va vb (Ok a) (Err (Broken more)) (Err (Broken rules)) ca cb h k both_is = rw (h, k) (ap Err (same_rules both_is.2))
both_tell va vb (Ok a) (Err NoMemory) (Err (Broken rules)) ca cb h k both_is = absurd both_is.1
both_tell va vb (Err (Broken before)) (Ok b) (Err (Broken rules)) ca cb h k both_is = rw (h, k) (ap Err (same_rules both_is.2))
both_tell va vb (Err (Broken before)) (Err (Broken more)) (Err (Broken rules)) ca cb h k both_is = rw (h, k) (ap Err (same_rules both_is.2))
both_tell va vb (Err (Broken before)) (Err NoMemory) (Err (Broken rules)) ca cb h k both_is = absurd both_is.1
both_tell va vb (Err NoMemory) second (Err (Broken rules)) ca cb h k both_is = absurd both_is.0
both_tell va vb first second (Err NoMemory) ca cb h k both_is = tt

-- a part, with what is judged beside it
pub along_tells : {A A' B B' : Type 0} (va : A → A') (vb : B → B') (part : Result A Refusal) (other : Result B Refusal) (whole : Result A Refusal) (ca : Checked A') (cb : Checked B') →
    Tells va part ca → Tells vb other cb → IsAlong part other whole → Tells va whole (along ca cb)
along_tells va vb (Ok a) (Ok b) (Ok one) ca cb h k is = let same : a ≡ one = (let e = is.2 in cc) in rw (h, k) (ap (λ x. Ok (va x)) same)
along_tells va vb (Ok a) (Err (Broken more)) (Ok one) ca cb h k is = absurd (let e = is.2 in cc)
along_tells va vb (Ok a) (Err NoMemory) (Ok one) ca cb h k is = absurd is.1
along_tells va vb (Err (Broken before)) other (Ok one) ca cb h k is = absurd (let e = is.2 in cc)
along_tells va vb (Err NoMemory) other (Ok one) ca cb h k is = absurd is.0
along_tells va vb (Ok a) (Ok b) (Err (Broken rules)) ca cb h k is = absurd (let e = is.2 in cc)
along_tells va vb (Ok a) (Err (Broken more)) (Err (Broken rules)) ca cb h k is = rw (h, k) (ap Err (same_rules is.2))
along_tells va vb (Ok a) (Err NoMemory) (Err (Broken rules)) ca cb h k is = absurd is.1
along_tells va vb (Err (Broken before)) (Ok b) (Err (Broken rules)) ca cb h k is = rw (h, k) (ap Err (same_rules is.2))
along_tells va vb (Err (Broken before)) (Err (Broken more)) (Err (Broken rules)) ca cb h k is = rw (h, k) (ap Err (same_rules is.2))
along_tells va vb (Err (Broken before)) (Err NoMemory) (Err (Broken rules)) ca cb h k is = absurd is.1
along_tells va vb (Err NoMemory) other (Err (Broken rules)) ca cb h k is = absurd is.0
along_tells va vb part other (Err NoMemory) ca cb h k is = tt

-- an answer without parts tells what is broken
abbrev pub Rules : Result (Unit {0}) Refusal → Checked (Unit {0}) → Type 0
Rules given wanted = Tells {A = Unit {0}} {B = Unit {0}} (λ one. tt) given wanted

pub nothing_behind : (one : Checked (Unit {0})) → nothing (both one (Ok (tt {0}))) ≡ one
nothing_behind (Ok tt) = refl
nothing_behind (Err rules) = ap Err (append-nil rules)

pub grouped : (a b c : Checked (Unit {0})) → nothing (both a (nothing (both b c))) ≡ nothing (both (nothing (both a b)) c)
grouped (Ok a) (Ok b) (Ok c) = refl
grouped (Ok a) (Ok b) (Err more) = refl
grouped (Ok a) (Err rules) c = refl
grouped (Err rules) (Ok b) (Ok c) = ap Err (sym (append-nil (rules ++ [])))
grouped (Err rules) (Ok b) (Err more) = ap (λ before. Err (before ++ more)) (sym (append-nil rules))
grouped (Err rules) (Err more) c = ap Err (sym (append_assoc rules more _))

-- what stands before, one part more, and what is left
pub one_more : (rules one new : Result (Unit {0}) Refusal) (x rest whole : Checked (Unit {0})) →
    (Told rules → nothing (both (told rules) (nothing (both x rest))) ≡ whole) → Rules one x → Adds rules one new →
    Told new → nothing (both (told new) rest) ≡ whole
one_more rules (Err NoMemory) (Err (Broken more)) x rest whole before told_one adds known = absurd adds.1
one_more rules (Err NoMemory) (Ok n) x rest whole before told_one adds known = absurd adds.1
one_more rules one (Err NoMemory) x rest whole before told_one adds known = absurd known
one_more rules (Ok o) (Ok tt) x rest whole before told_one adds known =
    let e : x ≡ Ok tt = told_one in
    ap (λ given. nothing (both given rest)) (sym adds.2 ∙ ap (λ given. nothing (both (told rules) given)) (sym e)) ∙ sym (grouped (told rules) x rest) ∙ before adds.0
one_more rules (Ok o) (Err (Broken more)) x rest whole before told_one adds known =
    let e : x ≡ Ok tt = told_one in
    ap (λ given. nothing (both given rest)) (sym adds.2 ∙ ap (λ given. nothing (both (told rules) given)) (sym e)) ∙ sym (grouped (told rules) x rest) ∙ before adds.0
one_more rules (Err (Broken own)) (Ok tt) x rest whole before told_one adds known =
    let e : x ≡ Err own = told_one in
    ap (λ given. nothing (both given rest)) (sym adds.2 ∙ ap (λ given. nothing (both (told rules) given)) (sym e)) ∙ sym (grouped (told rules) x rest) ∙ before adds.0
one_more rules (Err (Broken own)) (Err (Broken more)) x rest whole before told_one adds known =
    let e : x ≡ Err own = told_one in
    ap (λ given. nothing (both given rest)) (sym adds.2 ∙ ap (λ given. nothing (both (told rules) given)) (sym e)) ∙ sym (grouped (told rules) x rest) ∙ before adds.0

-- what is told once nothing is left
pub all_told : (rules : Result (Unit {0}) Refusal) (whole : Checked (Unit {0})) → (Told rules → nothing (both (told rules) (Ok (tt {0}))) ≡ whole) → Rules rules whole
all_told (Ok tt) whole before = sym (before tt)
all_told (Err (Broken rules)) whole before = sym (before tt) ∙ nothing_behind (Err rules)
all_told (Err NoMemory) whole before = tt
