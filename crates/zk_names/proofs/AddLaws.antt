-- Lists to which others are added one after another.
use Rattle.std.proofs.Common.{◌≡◌, List, ◌++◌, ap, ◌∙◌, append_assoc}

pub two : {A : Type 0} (t t1 t2 a b : List A) → t1 ≡ t ++ a → t2 ≡ t1 ++ b → t2 ≡ t ++ (a ++ b)
two t t1 t2 a b p1 p2 = p2 ∙ ap (λ x. x ++ b) p1 ∙ (simp append_assoc)

pub three : {A : Type 0} (t t1 t2 t3 a b c : List A) → t1 ≡ t ++ a → t2 ≡ t1 ++ b → t3 ≡ t2 ++ c → t3 ≡ t ++ ((a ++ b) ++ c)
three t t1 t2 t3 a b c p1 p2 p3 = p3 ∙ ap (λ x. x ++ c) (two t t1 t2 a b p1 p2) ∙ (simp append_assoc)

pub four : {A : Type 0} (t t1 t2 t3 t4 a b c d : List A) → t1 ≡ t ++ a → t2 ≡ t1 ++ b → t3 ≡ t2 ++ c → t4 ≡ t3 ++ d → t4 ≡ t ++ (((a ++ b) ++ c) ++ d)
four t t1 t2 t3 t4 a b c d p1 p2 p3 p4 = p4 ∙ ap (λ x. x ++ d) (three t t1 t2 t3 a b c p1 p2 p3) ∙ (simp append_assoc)
