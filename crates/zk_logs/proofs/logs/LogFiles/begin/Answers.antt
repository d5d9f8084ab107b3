use Rattle.std.proofs.Common.{◌≡◌, ◌∷◌, ◌++◌, [], None, ap, ◌∙◌}
use Rattle.indexmap.proofs.CallerLemmas.{insert_entry-new}
use Rattle.zk_ascii.specs.Text.{header_text}
use Rattle.zk_logs.proofs.PieceLemmas.{at_path, path_of, same_key, piece_inserted}
use Rattle.zk_logs.proofs.logs.LogFiles.begin.Goals as goal

pub returns-clause-begun : goal.returns-clause-begun
returns-clause-begun g c = λ other.
    let entries = c.args.self.now.pieces.entries in
    let key = c.in_ok-key.key in
    let kept : c.reserve.new.self.entries ≡ entries = c.reserve.ensures.entries in
    let same : key.items ≡ c.args.path.now = c.in_ok-key.ensures.items in
    let none : at_path path_of c.reserve.new.self.entries key.items ≡ None =
    ap (λ es. at_path path_of es key.items) kept ∙ ap (λ p. at_path path_of entries p) same ∙ c.requires.new in
    let text : c.append.new.self ≡ header_text c.args.path.now c.args.columns.now c.args.at ++ c.args.line.now = c.in_ok-append.ensures.ok ∙ ap (λ t. t ++ c.args.line.now) c.in_ok-piece.ensures in
    piece_inserted entries c.insert.new.self.entries key c.args.path.now c.append.new.self _ other c.requires.new same text
    (c.in_ok-insert.ensures.entries ∙ insert_entry-new same_key c.reserve.new.self key c.append.new.self none ∙ ap (λ es. es ++ (key, c.append.new.self) ∷ []) kept)
