use Rattle.std.proofs.Common.{◌++◌, refl, sym, subst, OnOk, IfErr}
use Rattle.zk_value.specs.declared.out.Out.TheVariants as out
use Rattle.zk_base.specs.Shelf.{Outside}
use Rattle.zk_io.specs.Said.{line_end, HandsOver}
use Rattle.zk_top.specs.Writing.{Output, HasGiven, GivesSome, and_out}
use Rattle.zk_top.proofs.Giving.{give_line, give_line_stopped, give_row, give_row_stopped, same_row}
use Rattle.zk_top.proofs.writer.Writer.give.Goals as goal

pub returns-in-Line-clause-given : goal.returns-in-Line-clause-given
returns-in-Line-clause-given g c =
    let old = g.S.Shelf.outside c.args.shelf.now in
    let new = g.S.Shelf.outside c.push_line.new.shelf in
    let after = record c.args.self.now { piece = c.push_line.new.piece } in
    subst (λ one. OnOk c.push_line.result ((first : Outside) (output : Output) → HasGiven first output c.args.self.now old → HasGiven first (and_out output one) after new)) (sym c.in-Line.is)
    (give_line c.push_line.result c.in-Line.line c.args.self.now after old new refl
    (subst (λ text. OnOk c.push_line.result (HandsOver old (c.args.self.now.piece.items ++ (text ++ line_end)) new c.push_line.new.piece.items)) c.as_slice.ensures c.push_line.ensures.said))

pub returns-in-Line-clause-stopped : goal.returns-in-Line-clause-stopped
returns-in-Line-clause-stopped g c =
    let old = g.S.Shelf.outside c.args.shelf.now in
    let new = g.S.Shelf.outside c.push_line.new.shelf in
    subst (λ one. IfErr c.push_line.result (λ stop. (first : Outside) (output : Output) → HasGiven first output c.args.self.now old → GivesSome (and_out output one) first stop new)) (sym c.in-Line.is)
    (give_line_stopped c.push_line.result c.in-Line.line c.args.self.now old new c.push_line.ensures.stopped)

pub returns-in-Row-clause-given : goal.returns-in-Row-clause-given
returns-in-Row-clause-given g c =
    let old = g.S.Shelf.outside c.args.shelf.now in
    let new = g.S.Shelf.outside c.write.new.shelf in
    let one = c.in-Row in
    let after = record c.args.self.now { logs = c.write.new.self } in
    let is = same_row one.path _ one.columns _ one.cells _ one.at _ c.as_slice-in-Row.ensures c.as_slice-in-Row-2.ensures c.as_slice-in-Row-3.ensures c.dated.ensures.nearest in
    subst (λ told. OnOk c.write.result ((first : Outside) (output : Output) → HasGiven first output c.args.self.now old → HasGiven first (and_out output told) after new)) (sym one.is)
    (give_row c.what_is_written_stays.ensures c.write.result one.path one.columns one.cells one.at _ c.args.self.now old new c.write.new.self is c.write.ensures.written c.write.ensures.only)

pub returns-in-Row-clause-stopped : goal.returns-in-Row-clause-stopped
returns-in-Row-clause-stopped g c =
    let old = g.S.Shelf.outside c.args.shelf.now in
    let new = g.S.Shelf.outside c.write.new.shelf in
    let one = c.in-Row in
    let is = same_row one.path _ one.columns _ one.cells _ one.at _ c.as_slice-in-Row.ensures c.as_slice-in-Row-2.ensures c.as_slice-in-Row-3.ensures c.dated.ensures.nearest in
    subst (λ told. IfErr c.write.result (λ stop. (first : Outside) (output : Output) → HasGiven first output c.args.self.now old → GivesSome (and_out output told) first stop new)) (sym one.is)
    (give_row_stopped c.write.result one.path one.columns one.cells one.at _ c.args.self.now old new is c.write.ensures.begun c.write.ensures.stopped)
