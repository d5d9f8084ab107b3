-- The test of equality tells values apart, and keys.
use Rattle.std.proofs.Common.{◌≡◌, Bool, true, false, cond, not, ◌&&◌, ◌==◌, List, [], ◌∷◌, refl, sym, ap, ◌∙◌, true≢false}
use Rattle.std.specs.Bool.{Decides}
use Rattle.std.specs.Ordering.{int_eq}
use Rattle.std.specs.Str.{bytes_eq}
use Rattle.std.proofs.lemmas.Bool.Decides.{Decides-eqb, Decides-int_eq, Decides-and, Decides-like}
use Rattle.std.proofs.lemmas.Slice.Eq.{bytes_eq-Decides}
use Rattle.zk_base.specs.declared.network.Addr as network
use Rattle.zk_base.specs.declared.network.Addr.TheVariants.{V4, V6}
use Rattle.zk_base.specs.declared.network.Proto.{Proto}
use Rattle.zk_base.specs.declared.network.Proto.TheVariants.{Tcp, Udp}
use Rattle.zk_tree.specs.Value.{Value, Bool as OfBool, Count, Int, String, Time, Interval, Addr, Port, Subnet, Enum, Object, same, same_address, same_proto, same_key}

-- of two kinds of values none is the other
apart : {A : Type 0} {a b : A} → (a ≡ b → ⊥) → Decides false (a ≡ b)
apart differ = (λ e. absurd (true≢false (sym e)), λ e. absurd (differ e))

-- two parts
both : {x y : Bool} {P Q R : Type 0} → (P → Q → R) → (R → P) → (R → Q) → Decides x P → Decides y Q → Decides (x && y) R
both {x} {y} make left right first second =
    let parts = Decides-and x y first second in
    Decides-like (x && y) (λ p. make p.0 p.1) (λ r. (left r, right r)) parts

pub same_truth-Decides : (a b : Bool) → Decides (cond a b (not b)) (a ≡ b)
same_truth-Decides true true = (λ e. refl, λ e. refl)
same_truth-Decides true false = (λ e. sym e, λ e. sym e)
same_truth-Decides false true = (λ e. e, λ e. e)
same_truth-Decides false false = (λ e. refl, λ e. refl)

pub same_address-Decides : (a b : network.Addr) → Decides (same_address a b) (a ≡ b)
same_address-Decides (V4 a) (V4 b) = Decides-like (a == b) (ap (λ n. V4 n)) (λ e. cc) (Decides-eqb a b)
same_address-Decides (V6 a) (V6 b) = Decides-like (a == b) (ap (λ n. V6 n)) (λ e. cc) (Decides-eqb a b)
same_address-Decides (V4 a) (V6 b) = apart (λ e. cc)
same_address-Decides (V6 a) (V4 b) = apart (λ e. cc)

pub same_proto-Decides : (a b : Proto) → Decides (same_proto a b) (a ≡ b)
same_proto-Decides Tcp Tcp = (λ e. refl, λ e. refl)
same_proto-Decides Udp Udp = (λ e. refl, λ e. refl)
same_proto-Decides Tcp Udp = apart (λ e. cc)
same_proto-Decides Udp Tcp = apart (λ e. cc)

-- values are the same exactly where they are equal
pub same-Decides : (a b : Value) → Decides (same a b) (a ≡ b)
unfolding same
same-Decides (OfBool a) (OfBool b) = Decides-like (cond a b (not b)) (ap (λ x. OfBool x)) (λ e. cc) (same_truth-Decides a b)
same-Decides (Count a) (Count b) = Decides-like (a == b) (ap (λ x. Count x)) (λ e. cc) (Decides-eqb a b)
same-Decides (Int a) (Int b) = Decides-like (int_eq a b) (ap (λ x. Int x)) (λ e. cc) (Decides-int_eq a b)
same-Decides (String a) (String b) = Decides-like (bytes_eq a b) (ap (λ x. String x)) (λ e. cc) (bytes_eq-Decides a b)
same-Decides (Time a) (Time b) = Decides-like (int_eq a.0 b.0) (ap (λ x. Time (record { 0 = x }))) (λ e. cc) (Decides-int_eq a.0 b.0)
same-Decides (Interval a) (Interval b) = Decides-like (int_eq a.0 b.0) (ap (λ x. Interval (record { 0 = x }))) (λ e. cc) (Decides-int_eq a.0 b.0)
same-Decides (Addr a) (Addr b) = Decides-like (same_address a b) (ap (λ x. Addr x)) (λ e. cc) (same_address-Decides a b)
same-Decides (Port a p) (Port b q) =
    both (λ e f. ap (λ x. Port x p) e ∙ ap (λ x. Port b x) f) (λ e. cc) (λ e. cc) (Decides-eqb a b) (same_proto-Decides p q)
same-Decides (Subnet a v) (Subnet b w) =
    both (λ e f. ap (λ x. Subnet x v) e ∙ ap (λ x. Subnet b x) f) (λ e. cc) (λ e. cc) (Decides-eqb a b) (Decides-eqb v w)
same-Decides (Enum a) (Enum b) = Decides-like (bytes_eq a b) (ap (λ x. Enum x)) (λ e. cc) (bytes_eq-Decides a b)
same-Decides (Object a) (Object b) = Decides-like (a.0 == b.0) (ap (λ x. Object (record { 0 = x }))) (λ e. cc) (Decides-eqb a.0 b.0)
same-Decides a b = apart (λ e. cc)

-- keys are the same exactly where they are equal
pub same_key-Decides : (a b : List Value) → Decides (same_key a b) (a ≡ b)
same_key-Decides [] [] = (λ e. refl, λ e. refl)
same_key-Decides [] (b ∷ ys) = apart (λ e. cc)
same_key-Decides (a ∷ xs) [] = apart (λ e. cc)
same_key-Decides (a ∷ xs) (b ∷ ys) =
    both (λ e f. ap (λ x. x ∷ xs) e ∙ ap (λ x. b ∷ x) f) (λ e. cc) (λ e. cc) (same-Decides a b) (same_key-Decides xs ys)
