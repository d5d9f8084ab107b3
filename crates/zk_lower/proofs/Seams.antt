-- Lists of operations that are put together, and of which one is replaced.
use Rattle.std.proofs.Common.{◌≡◌, ℕ, suc, ◌+◌, ◌-◌, ◌<◌, List, [], ◌∷◌, ◌++◌, length, map, reverse, take, drop, get_or, refl, sym, ap, ◌∙◌, arith, append_assoc, length-append}
use Rattle.std.specs.Prelude.{slice_set}
use Rattle.std.proofs.Math.Seq.{split_at}
use Rattle.std.proofs.lemmas.List.{reverse-append, length-reverse, map-append, length-map, length-take-le}
use Rattle.zk_tree.specs.declared.place.Place.{Place}
use Rattle.zk_lower.specs.Code.{Op}
use Rattle.zk_lower.specs.Code as op
use Rattle.zk_lower.specs.declared.op.Op as rust
use Rattle.zk_lower.specs.Lowering.{while_code}
use Rattle.zk_lower.specs.View.{op_of}

seam_set : {A : Type 0} (a : List A) (x y : A) (b : List A) → slice_set (a ++ x ∷ b) (length a) y ≡ a ++ y ∷ b
seam_set [] x y b = refl
seam_set (one ∷ a) x y b = ap (λ more. one ∷ more) (seam_set a x y b)

-- the one behind which so many stand is replaced
pub set_behind : {A : Type 0} (all a : List A) (x y : A) (b : List A) (n : ℕ) → all ≡ a ++ x ∷ b → length b ≡ n → slice_set all (length all - 1 - n) y ≡ a ++ y ∷ b
set_behind all a x y b n e same =
    let size : length all ≡ length a + (length b + 1) = ap length e ∙ omega (arith, length-append a (x ∷ b)) in
    let index : length all - 1 - n ≡ length a = omega (arith, size, same) in
    ap (λ k. slice_set all k y) index ∙ (ap (λ list. slice_set list (length a) y) e ∙ seam_set a x y b)

flipped : (a : List rust.Op) (x : rust.Op) (b : List rust.Op) → map op_of (reverse (a ++ x ∷ b)) ≡ map op_of (reverse b) ++ op_of x ∷ map op_of (reverse a)
flipped a x b =
    ap (map op_of) (reverse-append a (x ∷ b) ∙ (ap (λ list. list ++ reverse a) (reverse-append (x ∷ []) b) ∙ append_assoc (reverse b) (x ∷ []) (reverse a))) ∙
    map-append op_of (reverse b) (x ∷ reverse a)

replaced_at : (a : List rust.Op) (x y : rust.Op) (b : List rust.Op) (n : ℕ) → length a ≡ n
    → map op_of (reverse (slice_set (a ++ x ∷ b) n y)) ≡ slice_set (map op_of (reverse (a ++ x ∷ b))) (length (map op_of (reverse (a ++ x ∷ b))) - 1 - n) (op_of y)
replaced_at a x y b n e =
    let same : length (map op_of (reverse a)) ≡ n = length-map (reverse a) op_of ∙ (length-reverse a ∙ e) in
    ap (λ k. map op_of (reverse (slice_set (a ++ x ∷ b) k y))) (sym e) ∙
    (ap (λ list. map op_of (reverse list)) (seam_set a x y b) ∙
    (flipped a y b ∙
    sym (set_behind (map op_of (reverse (a ++ x ∷ b))) (map op_of (reverse b)) (op_of x) (op_of y) (map op_of (reverse a)) n (flipped a x b) same)))

pub replaced : (items new : List rust.Op) (view : List Op) (n : ℕ) (y : rust.Op) → new ≡ slice_set items n y → view ≡ map op_of (reverse items) → n < length view
    → map op_of (reverse new) ≡ slice_set view (length view - 1 - n) (op_of y)
replaced items new view n y made seen lt =
    let size : length view ≡ length items = ap length seen ∙ (length-map (reverse items) op_of ∙ length-reverse items) in
    let within : n < length items = omega (arith, lt, size) in
    let cut : items ≡ take n items ++ get_or items n y ∷ drop (suc n) items = split_at items n y within in
    let taken : length (take n items) ≡ n = length-take-le n items (omega (arith, within)) in
    ap (λ list. map op_of (reverse list)) made ∙
    (ap (λ list. map op_of (reverse (slice_set list n y))) cut ∙
    (replaced_at (take n items) (get_or items n y) y (drop (suc n) items) n taken ∙
    ap (λ list. slice_set list (length list - 1 - n) (op_of y)) (sym (seen ∙ ap (λ list. map op_of (reverse list)) cut))))

-- one operation between two stretches
pub before_one : (a : List Op) (x : Op) (old : List Op) → a ++ x ∷ old ≡ (a ++ x ∷ []) ++ old
before_one a x old = sym (append_assoc a (x ∷ []) old)

-- Loops ------------------------------------------------------------------------------------------------------------

pub while_ended : (place : Place) (body test old all put : List Op) (was : Op) (brk nxt back : ℕ) → all ≡ body ++ (test ++ was ∷ old) → brk ≡ length old → nxt ≡ length (test ++ was ∷ old)
    → back ≡ length all - brk - 1 → (brk < length all → put ≡ slice_set all (length all - 1 - brk) (op.Turn place back))
    → op.Tick place ∷ op.Jump (length put - nxt) ∷ put ≡ while_code place test body ++ old
while_ended place body test old all put was brk nxt back e b n k made =
    let size : length all ≡ length body + (length test + (length old + 1)) = ap length e ∙ omega (arith, length-append body (test ++ was ∷ old), length-append test (was ∷ old)) in
    let behind : nxt ≡ length test + (length old + 1) = n ∙ omega (arith, length-append test (was ∷ old)) in
    let turn : back ≡ length test + length body = omega (arith, k, size, b) in
    let whole : all ≡ (body ++ test) ++ was ∷ old = e ∙ sym (append_assoc body test (was ∷ old)) in
    let placed : put ≡ (body ++ test) ++ op.Turn place back ∷ old = made (omega (arith, size, b)) ∙ set_behind all (body ++ test) was (op.Turn place back) old brk whole (sym b) in
    let long : length put ≡ length body + (length test + (length old + 1)) = ap length placed ∙ omega (arith, length-append (body ++ test) (op.Turn place back ∷ old), length-append body test) in
    let over : length put - nxt ≡ length body = omega (arith, long, behind) in
    let tail : put ≡ (body ++ (test ++ op.Turn place (length test + length body) ∷ [])) ++ old =
    placed ∙ (ap (λ m. (body ++ test) ++ op.Turn place m ∷ old) turn ∙
    (append_assoc body test (op.Turn place (length test + length body) ∷ old) ∙
    (ap (λ list. body ++ list) (before_one test (op.Turn place (length test + length body)) old) ∙
    sym (append_assoc body (test ++ op.Turn place (length test + length body) ∷ []) old)))) in
    ap (λ m. op.Tick place ∷ op.Jump m ∷ put) over ∙ ap (λ list. op.Tick place ∷ op.Jump (length body) ∷ list) tail

pub for_ended : (begin : Op) (next : ℕ → Op) (body old all put : List Op) (brk nxt back : ℕ) → all ≡ body ++ op.EndLoop ∷ op.EndLoop ∷ old → brk ≡ length old + 1 → nxt ≡ length old + 2
    → back ≡ length all - nxt → (brk < length all → put ≡ slice_set all (length all - 1 - brk) (next back))
    → begin ∷ op.Jump (length put - nxt) ∷ put ≡ begin ∷ op.Jump (length body) ∷ (body ++ next (length body) ∷ op.EndLoop ∷ old)
for_ended begin next body old all put brk nxt back e b n k made =
    let size : length all ≡ length body + (length old + 2) = ap length e ∙ omega (arith, length-append body (op.EndLoop ∷ op.EndLoop ∷ old)) in
    let turn : back ≡ length body = omega (arith, k, size, n) in
    let placed : put ≡ body ++ next back ∷ op.EndLoop ∷ old = made (omega (arith, size, b)) ∙ set_behind all body op.EndLoop (next back) (op.EndLoop ∷ old) brk e (omega (arith, b)) in
    let long : length put ≡ length body + (length old + 2) = ap length placed ∙ omega (arith, length-append body (next back ∷ op.EndLoop ∷ old)) in
    let over : length put - nxt ≡ length body = omega (arith, long, n) in
    ap (λ m. begin ∷ op.Jump m ∷ put) over ∙ ap (λ list. begin ∷ op.Jump (length body) ∷ list) (placed ∙ ap (λ m. body ++ next m ∷ op.EndLoop ∷ old) turn)
