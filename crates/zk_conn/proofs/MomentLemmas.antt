-- Tests between moments.
use Rattle.std.proofs.Common.{ltb, ◌||◌, ◌&&◌, ℕ, ◌≡◌, ℤ, ◌≤ℤ◌, true, false, arith}
use Rattle.std.specs.Prelude.{int_le, int_lt}
use Rattle.std.proofs.lemmas.Int.{ints}
use Rattle.std.proofs.lemmas.Bool.Decides.{nat_tests}

pub int_le-refl : (a : ℤ) → int_le a a ≡ true
int_le-refl a = grind (arith, ints, nat_tests)

pub int_le_from_not_lt : (a b : ℤ) → int_lt b a ≡ false → int_le a b ≡ true
int_le_from_not_lt a b is = grind (arith, ints, nat_tests)

pub int_le-trans : (a b c : ℤ) → int_le a b ≡ true → int_le b c ≡ true → int_le a c ≡ true
int_le-trans a b c first second = grind (arith, ints, nat_tests)

-- the order of removals
pub is_earlier-irrefl : (a : ℤ) (n : ℕ) → (int_lt a a || (int_le a a && ltb n n)) ≡ false
is_earlier-irrefl a n = grind (arith, ints, nat_tests)

pub is_earlier-asym : (a b : ℤ) (n m : ℕ) → (int_lt a b || (int_le a b && ltb n m)) ≡ true → (int_lt b a || (int_le b a && ltb m n)) ≡ false
is_earlier-asym a b n m first = grind (arith, ints, nat_tests)

pub is_earlier-trans : (a b c : ℤ) (k m n : ℕ) → (int_lt a b || (int_le a b && ltb k m)) ≡ false → (int_lt b c || (int_le b c && ltb m n)) ≡ false
    → (int_lt a c || (int_le a c && ltb k n)) ≡ false
is_earlier-trans a b c k m n first second = grind (arith, ints, nat_tests)

-- what comes later is no earlier
pub is_earlier-later : (a later b : ℤ) (n m : ℕ) → int_le a later ≡ true → (int_lt a b || (int_le a b && ltb n m)) ≡ false
    → (int_lt later b || (int_le later b && ltb n m)) ≡ false
is_earlier-later a later b n m after first = grind (arith, ints, nat_tests)

-- what is no earlier than what is behind a moment is behind it too
pub behind : (a b t : ℤ) (n m : ℕ) → (int_lt a b || (int_le a b && ltb n m)) ≡ false → int_le b t ≡ false → int_le a t ≡ false
behind a b t n m order late = grind (arith, ints, nat_tests)

pub behind_later : (a later t : ℤ) → int_le a later ≡ true → int_le a t ≡ false → int_le later t ≡ false
behind_later a later t after late = grind (arith, ints, nat_tests)

pub int_le-antisym : (a b : ℤ) → int_le a b ≡ true → int_lt a b ≡ false → a ≡ b
int_le-antisym a b first second = grind (arith, ints, nat_tests)

pub int_le_from : (a b : ℤ) → a ≤ℤ b → int_le a b ≡ true
int_le_from a b le = grind (arith, ints, nat_tests)

pub int_lt-irrefl : (a : ℤ) → int_lt a a ≡ false
int_lt-irrefl a = grind (arith, ints, nat_tests)
