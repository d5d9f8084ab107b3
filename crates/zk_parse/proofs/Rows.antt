-- What small token lists are as trees, computed.
use Rattle.std.proofs.Common.{◌≡◌, ℕ, ◌+◌, true, List, [], ◌∷◌, ◌++◌, codes, Ok, Err, Some, None, refl}
use Rattle.zk_tree.specs.declared.token.Token.{Token}
use Rattle.zk_tree.specs.declared.token.TokenKind.{TokenKind}
use Rattle.zk_tree.specs.declared.token.TokenKind.TheVariants as token
use Rattle.zk_tree.specs.declared.token.Sign.TheVariants as sign
use Rattle.zk_tree.specs.declared.operator.Level.TheVariants as level
use Rattle.zk_tree.specs.declared.operator.Operator.TheVariants as operator
use Rattle.zk_tree.specs.declared.operator.TimeUnit.TheVariants as unit
use Rattle.zk_tree.specs.declared.expr.Expr.{Expr}
use Rattle.zk_tree.specs.declared.expr.Expr.TheVariants as expr
use Rattle.zk_tree.specs.declared.expr.Link.{roll-Link}
use Rattle.zk_tree.specs.declared.stmt.Block.{roll-Block}
use Rattle.zk_tree.specs.declared.stmt.Stmt.TheVariants as stmt
use Rattle.zk_tree.specs.declared.decl.Decl.TheVariants as decl
use Rattle.zk_tree.specs.declared.decl.Lasting.TheVariants as lasting
use Rattle.zk_parse.specs.Opening.{reading}
use Rattle.zk_parse.specs.Trees.{front_of, tree_of}

-- tokens at places 0, 1, ..
abbrev at_places : ℕ → List TokenKind → List Token
at_places place [] = []
at_places place (kind ∷ kinds) = record { kind = kind; place = place } ∷ at_places (place + 1) kinds

-- function f(){STMT}, whose statement begins at place 5
abbrev within_function : List TokenKind → List TokenKind
within_function body =
    token.Name (codes "function") ∷ token.Name (codes "f") ∷ token.Sign sign.OpenParenthesis ∷ token.Sign sign.CloseParenthesis ∷ token.Sign sign.OpenBrace
    ∷ body ++ token.Sign sign.CloseBrace ∷ []

abbrev named : ℕ → Expr
named place = expr.Name (record { place = place; text = codes "a" })

abbrev a : TokenKind
a = token.Name (codes "a")

abbrev semicolon : TokenKind
semicolon = token.Sign sign.Semicolon

-- a - a - a; associates to the left
differences : tree_of (at_places 0 (within_function (a ∷ token.Sign sign.Minus ∷ a ∷ token.Sign sign.Minus ∷ a ∷ semicolon ∷ []))) ≡ Ok (record {
  decls = decl.Function 0 (record { place = 1; text = codes "f" }) [] None (roll-Block (record {
    place = 4;
    stmts =
        stmt.Expr (expr.Chain level.Sum (named 5) (roll-Link (record { operator = operator.Minus; operand = named 7 }) ∷ roll-Link (record { operator = operator.Minus; operand = named 9 }) ∷ [])) ∷ [];
  })) ∷ [];
})
unfolding reading
differences = refl

-- if (a) if (a) a; else a;
nearest_else : tree_of (at_places 0 (within_function (
    token.Name (codes "if") ∷ token.Sign sign.OpenParenthesis ∷ a ∷ token.Sign sign.CloseParenthesis
    ∷ token.Name (codes "if") ∷ token.Sign sign.OpenParenthesis ∷ a ∷ token.Sign sign.CloseParenthesis ∷ a ∷ semicolon ∷ token.Name (codes "else") ∷ a ∷ semicolon ∷ []))) ≡ Ok (record {
      decls = decl.Function 0 (record { place = 1; text = codes "f" }) [] None (roll-Block (record {
        place = 4;
        stmts =
            stmt.If 5 (named 7) (stmt.IfElse 9 (named 11) (stmt.Expr (named 13)) (stmt.Expr (named 16))) ∷ [];
      })) ∷ [];
    })
unfolding reading
nearest_else = refl

-- global x: count; 5;
what_begins_no_declaration : tree_of (at_places 0 (
    token.Name (codes "global") ∷ token.Name (codes "x") ∷ token.Sign sign.Colon ∷ token.Name (codes "count") ∷ semicolon ∷ token.Number 5 ∷ semicolon ∷ [])) ≡ Err 5
unfolding reading
what_begins_no_declaration = refl

-- a == a == a;
comparisons_do_not_chain : tree_of (at_places 0 (within_function (a ∷ token.Sign sign.EqualEqual ∷ a ∷ token.Sign sign.EqualEqual ∷ a ∷ semicolon ∷ []))) ≡ Err 0
unfolding reading
comparisons_do_not_chain = refl

-- 5 min; a unit counts behind a number, and is a name elsewhere
units : tree_of (at_places 0 (within_function (token.Number 5 ∷ token.Name (codes "mins") ∷ semicolon ∷ token.Name (codes "min") ∷ semicolon ∷ []))) ≡ Ok (record {
  decls = decl.Function 0 (record { place = 1; text = codes "f" }) [] None (roll-Block (record {
    place = 4;
    stmts =
        stmt.Expr (expr.Interval 5 5 unit.Minute true) ∷ stmt.Expr (expr.Name (record { place = 8; text = codes "min" })) ∷ [];
  })) ∷ [];
})
unfolding reading
units = refl

nothing_is_read : tree_of [] ≡ Ok (record { decls = [] })
unfolding reading
nothing_is_read = refl

-- global a; and what begins no declaration behind it
declarations_stand_before_what_does_not_read : front_of (at_places 0 (token.Name (codes "global") ∷ a ∷ semicolon ∷ token.Name (codes "if") ∷ []))
    ≡ record { decls = decl.Variable 0 lasting.Global (record { place = 1; text = codes "a" }) None None [] ∷ []; stop = Some 3 }
unfolding reading
declarations_stand_before_what_does_not_read = refl
