use Rattle.std.proofs.Common.{Bool, ◌&&◌, ◌||◌, ap, ◌∙◌}
use Rattle.std.specs.Str.{bytes_eq}
use Rattle.zk_typed.specs.Names.{Declared, is_open}
use Rattle.zk_scope.specs.Indexing.{first_place}
use Rattle.zk_scope.specs.Lent.{declared_lent}
use Rattle.zk_scope.proofs.table.Table.place_of_whole.Goals as goal

pub returns : goal.returns
returns c =
    let names = declared_lent c.args.self.now.names.items in
    c.find.ensures names c.args.self.now.indexed ∙
    ap (λ (b : Bool). first_place (λ (one : Declared). bytes_eq one.name c.args.whole.now && (one.exported || b)) names) (c.is_open-anywhere.ensures ∙ ap (is_open c.args.from_module.now) c.as_slice.ensures)
