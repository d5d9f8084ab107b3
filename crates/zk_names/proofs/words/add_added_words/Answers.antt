use Rattle.std.proofs.Common.{ℕ, List, ◌++◌, Option, ap, sym, ◌∙◌}
use Rattle.zk_tree.specs.declared.decl.Decl.{Decl, out-Decl}
use Rattle.zk_tree.specs.declared.name.Name.{Name}
use Rattle.zk_typed.specs.Declaring.{added_words}
use Rattle.zk_typed.specs.Names.{Declared}
use Rattle.zk_typed.specs.Resolving.{type_named}
use Rattle.zk_scope.specs.Lent.{declared_lent, home_of}
use Rattle.zk_scope.specs.Scripted.{scripts_in}
use Rattle.zk_names.specs.Words.{enum_in, words_in}
use Rattle.zk_names.proofs.BodyLaws.{added_is}
use Rattle.zk_names.proofs.words.add_added_words.Goals as goal

pub returns-in_ok-add_words_in-in-RedefEnum : goal.returns-in_ok-add_words_in-in-RedefEnum
returns-in_ok-add_words_in-in-RedefEnum c =
    let scripts = scripts_in c.args.known.now in
    let home = home_of c.args.one.home in
    let form = c.in-RedefEnum in
    let names = declared_lent c.args.table.now.names.items in
    c.in_ok-add_words_in-in-RedefEnum.ensures ∙ ap (λ (number : Option ℕ). names ++ words_in number home c.as_slice.result.now) c.in_ok-number-in-RedefEnum.ensures ∙
    ap (λ (words : List Name). names ++ words_in (enum_in (type_named scripts home form.name)) home words) c.as_slice.ensures ∙
    ap (λ (words : List Declared). names ++ words) (sym (added_is scripts home form.place form.name form.words form.comma)) ∙
    ap (λ (one : Decl). names ++ added_words scripts home (out-Decl one)) (sym form.is)
