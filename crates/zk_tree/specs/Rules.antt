-- Grammars as data, and what it is for tokens to be read by one. A rule says of a value, of tokens and of a rest of
-- them whether the tokens before the rest spell the value.
use Rattle.std.specs.Prelude.{◌≡◌, ℕ, Bool, true, false, List, [], ◌∷◌, Option, Some, None, ◌⊎◌}
use Rattle.zk_tree.specs.declared.token.Token.{Token}
use Rattle.zk_tree.specs.declared.keyword.Mark.{Mark}
use Rattle.zk_tree.specs.declared.expr.Expr.{Expr}
use Rattle.zk_tree.specs.declared.types.«Type».{«Type» as TypeNode}
use Rattle.zk_tree.specs.declared.stmt.Stmt.{Stmt}
use Rattle.zk_tree.specs.declared.decl.Decl.{Decl}
use Rattle.zk_tree.specs.Marks.{IsMark}
use Rattle.zk_tree.specs.Classes.{Class, value_in}

-- The kinds of nodes that nest, each with the type of its nodes. An expression that stands between `?` and `:` is one of
-- the first kind, what stands behind that colon one of the second, and the operand of a prefix one of the third.
pub data Nest : Type 0 → Type 1 where
  AnExpr : Nest Expr
  ACond : Nest Expr
  AUnary : Nest Expr
  AType : Nest TypeNode
  AStmt : Nest Stmt
  ADecl : Nest Decl

pub data Grammar : Type 0 → Type 1 where
  -- a sign or a reserved word
  Alone : (m : Mark) → Grammar (Unit {0})
  -- one of the signs and words that stand for something
  OneOf : {A : Type 0} (meant : Mark → Option A) → Grammar A
  -- a token with a value
  Of : {A : Type 0} (class : Class A) → Grammar A
  -- a node that nests
  Nested : {A : Type 0} (nest : Nest A) → Grammar A
  -- with the place of its first byte
  Placed : {A : Type 0} (g : Grammar A) → Grammar (ℕ × A)
  After : {A : Type 0} (m : Mark) (g : Grammar A) → Grammar A
  Before : {A : Type 0} (g : Grammar A) (m : Mark) → Grammar A
  Then : {A B : Type 0} (g : Grammar A) (h : Grammar B) → Grammar (A × B)
  Made : {A B : Type 0} (make : A → B) (g : Grammar A) → Grammar B
  Either : {A : Type 0} (g h : Grammar A) → Grammar A
  -- one, and another behind it that may be left out
  Optional : {A B : Type 0} (g : Grammar A) (h : Grammar B) → Grammar (A × Option B)
  -- one, and what begins with a mark and may be left out only where that mark does not follow
  Nearest : {A B : Type 0} (g : Grammar A) (m : Mark) (h : Grammar B) → Grammar (A × Option B)
  -- one, and any number of others behind it
  Many : {A B : Type 0} (g : Grammar A) (h : Grammar B) → Grammar (A × List B)
  -- one or more, with a mark between each and the next
  Listed : {A : Type 0} (g : Grammar A) (separator : Mark) → Grammar (List A)
  -- any number between two marks, with a separator between each and the next
  Enclosed : {A : Type 0} (opening : Mark) (g : Grammar A) (separator closing : Mark) → Grammar (List A)
  -- any number, and then a mark
  Until : {A : Type 0} (g : Grammar A) (m : Mark) → Grammar (List A)
  -- one or more with a separator between each and the next, which may also stand behind the last, and then a mark
  Trailing : {A : Type 0} (g : Grammar A) (separator m : Mark) → Grammar (List A × Bool)

abbrev pub Rule : Type 0 → Type 1
Rule A = A → List Token → List Token → Type 0

-- the first of the tokens is this mark, and the rest is what follows it
pub record StandsAt (m : Mark) (tokens rest : List Token) : Type 0 where
  pub first : Token
  pub all : tokens ≡ first ∷ rest
  pub is : IsMark m first.kind

-- one after another
abbrev pub Repeated : {A : Type 0} → Rule A → Rule (List A)
Repeated rule [] tokens rest = tokens ≡ rest
Repeated rule (a ∷ more) tokens rest = (mid : List Token) × rule a tokens mid × Repeated rule more mid rest

-- a mark ends them, and before it the separator may stand
abbrev pub Ends : Mark → Mark → Bool → List Token → List Token → Type 0
Ends separator m false tokens rest = StandsAt m tokens rest
Ends separator m true tokens rest = (mid : List Token) × StandsAt separator tokens mid × StandsAt m mid rest

abbrev pub Separated : {A : Type 0} → Mark → Rule A → Rule A
Separated separator rule a tokens rest = (mid : List Token) × StandsAt separator tokens mid × rule a mid rest

-- one or more with a separator between each and the next
abbrev pub IsListed : {A : Type 0} → Mark → Rule A → Rule (List A)
IsListed separator rule [] tokens rest = ⊥
IsListed separator rule (a ∷ more) tokens rest = (mid : List Token) × rule a tokens mid × Repeated (Separated separator rule) more mid rest

-- none, or one or more with a separator between each and the next
abbrev pub MayBeListed : {A : Type 0} → Mark → Rule A → Rule (List A)
MayBeListed separator rule [] tokens rest = tokens ≡ rest
MayBeListed separator rule (a ∷ more) tokens rest = IsListed separator rule (a ∷ more) tokens rest

-- between two marks
abbrev pub IsBetween : {A : Type 0} → Mark → Mark → Rule A → Rule A
IsBetween opening closing rule a tokens rest = (inner mid : List Token) × StandsAt opening tokens inner × rule a inner mid × StandsAt closing mid rest

-- the place of the first token
abbrev pub place_of : List Token → ℕ
place_of [] = 0
place_of (token ∷ rest) = token.place

-- what follows is not this mark
abbrev pub IsNotAt : Mark → List Token → Type 0
IsNotAt m tokens = (rest : List Token) → StandsAt m tokens rest → ⊥

-- there, or left out
abbrev pub MayFollow : {A : Type 0} → Rule A → Rule (Option A)
MayFollow rule None tokens rest = tokens ≡ rest
MayFollow rule (Some a) tokens rest = rule a tokens rest

-- there behind a mark, or left out where no such mark stands
abbrev pub FollowsNearest : {A : Type 0} → Mark → Rule A → Rule (Option A)
FollowsNearest m rule None tokens rest = (tokens ≡ rest) × IsNotAt m tokens
FollowsNearest m rule (Some a) tokens rest = Separated m rule a tokens rest

-- the rule of a grammar, where the nodes that nest in it have these
module _ (Inner : (A : Type 0) → Nest A → Rule A) where
  abbrev pub Spells : {A : Type 0} → Grammar A → Rule A
  Spells (Alone m) x tokens rest = StandsAt m tokens rest
  Spells (OneOf meant) x tokens rest = (m : Mark) × StandsAt m tokens rest × (meant m ≡ Some x)
  Spells (Of class) x tokens rest = (first : Token) × (tokens ≡ first ∷ rest) × (value_in class first.kind ≡ Some x)
  Spells (Nested nest) x tokens rest = Inner _ nest x tokens rest
  Spells (Placed g) x tokens rest = (x.0 ≡ place_of tokens) × Spells g x.1 tokens rest
  Spells (After m g) x tokens rest = (mid : List Token) × StandsAt m tokens mid × Spells g x mid rest
  Spells (Before g m) x tokens rest = (mid : List Token) × Spells g x tokens mid × StandsAt m mid rest
  Spells (Then g h) x tokens rest = (mid : List Token) × Spells g x.0 tokens mid × Spells h x.1 mid rest
  Spells (Made make g) x tokens rest = (a : _) × (x ≡ make a) × Spells g a tokens rest
  Spells (Either g h) x tokens rest = Spells g x tokens rest ⊎ Spells h x tokens rest
  Spells (Optional g h) x tokens rest = (mid : List Token) × Spells g x.0 tokens mid × MayFollow (Spells h) x.1 mid rest
  Spells (Nearest g m h) x tokens rest = (mid : List Token) × Spells g x.0 tokens mid × FollowsNearest m (Spells h) x.1 mid rest
  Spells (Many g h) x tokens rest = (mid : List Token) × Spells g x.0 tokens mid × Repeated (Spells h) x.1 mid rest
  Spells (Listed g separator) x tokens rest = IsListed separator (Spells g) x tokens rest
  Spells (Enclosed opening g separator closing) x tokens rest = IsBetween opening closing (MayBeListed separator (Spells g)) x tokens rest
  Spells (Until g m) x tokens rest = (mid : List Token) × Repeated (Spells g) x tokens mid × StandsAt m mid rest
  Spells (Trailing g separator m) x tokens rest = (mid : List Token) × IsListed separator (Spells g) x.0 tokens mid × Ends separator m x.1 mid rest
