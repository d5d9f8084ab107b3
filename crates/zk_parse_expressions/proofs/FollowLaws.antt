-- Whether more follows what was read first.
use Rattle.std.proofs.Common.{◌≡◌, ℕ, zero, suc, Bool, true, false, List, [], ◌∷◌, Option, Some, None, refl, ap}
use Rattle.zk_tree.specs.declared.token.Token.{Token}
use Rattle.zk_parse_core.specs.Reading.{◌>>=◌, Reader, repeated}

-- the tokens don't go on, so nothing follows
pub none_follows : {A : Type 0} (goes_on : List Token → Bool) (read : Reader A) (tokens : List Token) (n : ℕ)
    → goes_on tokens ≡ false → repeated goes_on read n tokens ≡ Some ([], tokens)
unfolding repeated
none_follows goes_on read tokens zero stops = rw stops refl
none_follows goes_on read tokens (suc n) stops = rw stops refl

-- what is made of what was read
abbrev pub made : {A B : Type 0} → (A → B) → Option (A × List Token) → Option (B × List Token)
made make read = read >>= λ x. Some (make x.0, x.1)

-- what was read, behind one more
abbrev headed : {A : Type 0} → A → Option (List A × List Token) → Option (List A × List Token)
headed a read = read >>= λ x. Some (a ∷ x.0, x.1)

module _ {A B : Type 0} (make other : List A → B) (same : (a : A) (more : List A) → make (a ∷ more) ≡ other (a ∷ more)) where
  made_of : (a : A) (more : Option (List A × List Token)) → made make (headed a more) ≡ made other (headed a more)
  made_of a (Some x) = ap (λ (b : B). Some (b, x.1)) (same a x.0)
  made_of a None = refl

  made_behind : (goes_on : List Token → Bool) (read : Reader A) (n : ℕ) (first : Option (A × List Token))
      → made make (first >>= λ a. headed a.0 (repeated goes_on read n a.1)) ≡ made other (first >>= λ a. headed a.0 (repeated goes_on read n a.1))
  made_behind goes_on read n (Some a) = made_of a.0 (repeated goes_on read n a.1)
  made_behind goes_on read n None = refl

  -- the tokens go on, so what is made of all that follows is made of a list that is not empty
  pub some_follow : (goes_on : List Token → Bool) (read : Reader A) (tokens : List Token) (n : ℕ) → goes_on tokens ≡ true
      → made make (repeated goes_on read n tokens) ≡ made other (repeated goes_on read n tokens)
  unfolding repeated
  some_follow goes_on read tokens zero goes = rw goes refl
  some_follow goes_on read tokens (suc n) goes = rw goes (made_behind goes_on read n (read tokens))

-- what was read is made into something else
pub made_from : {A B : Type 0} (make : A → B) (read : Option (A × List Token)) (a : A) (rest : List Token) → made (λ (x : A). x) read ≡ Some (a, rest) → made make read ≡ Some (make a, rest)
made_from make (Some x) a rest e = ap (made make) e
made_from make None a rest e = ap (made make) e

-- what is made of the first and of all that follow
pub made_with : {A B C : Type 0} (make : C × List A → B) (first : C) (read : Option (List A × List Token))
    → made make (read >>= λ x. Some ((first, x.0), x.1)) ≡ made (λ (all : List A). make (first, all)) read
made_with make first (Some x) = refl
made_with make first None = refl
