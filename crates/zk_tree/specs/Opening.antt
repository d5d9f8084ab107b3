-- All that unfolds when a definition goes down a tree that is written out: the one level that `out-Expr` and its kin open, and the
-- depth that bounds how far.
use Rattle.zk_tree.specs.declared.decl.Decl.{out-Decl}
use Rattle.zk_tree.specs.declared.expr.Expr.{out-Expr}
use Rattle.zk_tree.specs.declared.expr.Item.{out-Item}
use Rattle.zk_tree.specs.declared.expr.Part.{out-Part}
use Rattle.zk_tree.specs.declared.stmt.Stmt.{out-Stmt}
use Rattle.zk_tree.specs.declared.types.Type.{out-Type}

unfoldable pub trees : Unit {0}
unfolding
    out-Expr out-Part out-Item out-Type out-Stmt out-Decl
    Rattle.zk_tree.specs.declared.expr.Expr.TheBlock.the_depth
    Rattle.zk_tree.specs.declared.types.Type.TheBlock.the_depth
    Rattle.zk_tree.specs.declared.stmt.Stmt.TheBlock.the_depth
    Rattle.zk_tree.specs.declared.decl.Decl.TheBlock.the_depth
    Rattle.zk_tree.specs.declared.expr.Expr.TheBlock.shown-the_row-Expr-0
    Rattle.zk_tree.specs.declared.expr.Expr.TheBlock.hidden-the_row-Expr-0
    Rattle.zk_tree.specs.declared.expr.Expr.TheBlock.shape-the_row-Expr-0
    Rattle.zk_tree.specs.declared.expr.Expr.TheBlock.shown-the_row-Expr-4
    Rattle.zk_tree.specs.declared.expr.Expr.TheBlock.hidden-the_row-Expr-4
    Rattle.zk_tree.specs.declared.expr.Expr.TheBlock.shape-the_row-Expr-4
    Rattle.zk_tree.specs.declared.expr.Expr.TheBlock.shown-the_row-Link-1
    Rattle.zk_tree.specs.declared.expr.Expr.TheBlock.hidden-the_row-Link-1
    Rattle.zk_tree.specs.declared.expr.Expr.TheBlock.shape-the_row-Link-1
    Rattle.zk_tree.specs.declared.expr.Expr.TheBlock.shown-the_row-Part-2
    Rattle.zk_tree.specs.declared.expr.Expr.TheBlock.hidden-the_row-Part-2
    Rattle.zk_tree.specs.declared.expr.Expr.TheBlock.shape-the_row-Part-2
    Rattle.zk_tree.specs.declared.expr.Expr.TheBlock.shown-the_row-Item-3
    Rattle.zk_tree.specs.declared.expr.Expr.TheBlock.hidden-the_row-Item-3
    Rattle.zk_tree.specs.declared.expr.Expr.TheBlock.shape-the_row-Item-3
    Rattle.zk_tree.specs.declared.types.Type.TheBlock.shown-the_row-Type-0
    Rattle.zk_tree.specs.declared.types.Type.TheBlock.hidden-the_row-Type-0
    Rattle.zk_tree.specs.declared.types.Type.TheBlock.shape-the_row-Type-0
    Rattle.zk_tree.specs.declared.types.Type.TheBlock.shown-the_row-Type-1
    Rattle.zk_tree.specs.declared.types.Type.TheBlock.hidden-the_row-Type-1
    Rattle.zk_tree.specs.declared.types.Type.TheBlock.shape-the_row-Type-1
    Rattle.zk_tree.specs.declared.types.Type.TheBlock.shown-the_row-Field-2
    Rattle.zk_tree.specs.declared.types.Type.TheBlock.hidden-the_row-Field-2
    Rattle.zk_tree.specs.declared.types.Type.TheBlock.shape-the_row-Field-2
    Rattle.zk_tree.specs.declared.types.Type.TheBlock.shown-the_row-Param-3
    Rattle.zk_tree.specs.declared.types.Type.TheBlock.hidden-the_row-Param-3
    Rattle.zk_tree.specs.declared.types.Type.TheBlock.shape-the_row-Param-3
    Rattle.zk_tree.specs.declared.stmt.Stmt.TheBlock.shown-the_row-Stmt-0
    Rattle.zk_tree.specs.declared.stmt.Stmt.TheBlock.hidden-the_row-Stmt-0
    Rattle.zk_tree.specs.declared.stmt.Stmt.TheBlock.shape-the_row-Stmt-0
    Rattle.zk_tree.specs.declared.stmt.Stmt.TheBlock.shown-the_row-Stmt-1
    Rattle.zk_tree.specs.declared.stmt.Stmt.TheBlock.hidden-the_row-Stmt-1
    Rattle.zk_tree.specs.declared.stmt.Stmt.TheBlock.shape-the_row-Stmt-1
    Rattle.zk_tree.specs.declared.decl.Decl.TheBlock.shown-the_row-Decl-0
    Rattle.zk_tree.specs.declared.decl.Decl.TheBlock.hidden-the_row-Decl-0
    Rattle.zk_tree.specs.declared.decl.Decl.TheBlock.shape-the_row-Decl-0
    denote.Hole.Carrier.out denote.Hole.Carrier.shown denote.Hole.Carrier.hidden denote.Hole.Carrier.fold denote.Hole.Rolled.depth
trees = tt
