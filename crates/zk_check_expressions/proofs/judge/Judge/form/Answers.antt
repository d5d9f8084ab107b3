use Rattle.std.proofs.Common.{◌≡◌, ap, ◌∙◌}
use Rattle.zk_tree.specs.declared.expr.Expr.{out-Expr}
use Rattle.zk_tree.specs.declared.expr.Expr.TheOpen as written
use Rattle.zk_tree.specs.declared.expr.Expr.TheVariants as expr
use Rattle.zk_check_operators.specs.Views.{wanted_in}
use Rattle.zk_check_expressions.specs.Envs.{env_of}
use Rattle.zk_check_expressions.proofs.FormLaws.{list_told, made_told}
use Rattle.zk_check_expressions.proofs.judge.Judge.form.Goals as goal

pub returns-in-List : goal.returns-in-List
returns-in-List g c =
    let form : out-Expr c.args.one.now ≡ written.List c.in-List.place c.in-List.items = ap out-Expr c.in-List.is ∙ expr.outs-List c.in-List.place c.in-List.items in
    list_told c.args.self.now.depth (env_of c.args.self.now.env.now) (wanted_in c.args.wanted) c.args.one.now c.in-List.place c.in-List.items c.as_slice.result.now c.at.result c.brackets_typed.result
    form c.at.ensures c.as_slice.ensures c.brackets_typed.ensures

pub returns-in-Make : goal.returns-in-Make
returns-in-Make g c =
    let form : out-Expr c.args.one.now ≡ written.Make c.in-Make.place c.in-Make.container c.in-Make.items = ap out-Expr c.in-Make.is ∙ expr.outs-Make c.in-Make.place c.in-Make.container c.in-Make.items in
    made_told c.args.self.now.depth (env_of c.args.self.now.env.now) (wanted_in c.args.wanted) c.args.one.now c.in-Make.place c.in-Make.container c.in-Make.items
    c.as_slice-in-Make.result.now c.at-in-Make.result c.container_typed.result form c.at-in-Make.ensures c.as_slice-in-Make.ensures c.container_typed.ensures
