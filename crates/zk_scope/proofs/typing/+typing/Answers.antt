use Rattle.std.proofs.Common.{◌≡◌, ℕ, false, Option, None, Some, Ok, slice_get, refl, ap, sym, ◌∙◌, subst}
use Rattle.std.specs.Option.{option_and_then}
use Rattle.zk_tree.specs.declared.place.Place.{Place}
use Rattle.zk_typed.specs.Names.{Declared, WrittenType}
use Rattle.zk_typed.specs.Resolving.{behind_names, formed, named_type, place_in, type_to}
use Rattle.zk_typed.specs.Predefined.{enum, record_no}
use Rattle.zk_typed.specs.Tells.{Tells}
use Rattle.zk_typed.specs.Types.{Record}
use Rattle.zk_scope.specs.Keys.{key_to, keyed}
use Rattle.zk_typed.specs.View.{type_of}
use Rattle.zk_scope.specs.Leading.{is_circle, place_up, text_in, text_of}
use Rattle.zk_scope.specs.Lent.{declared_of, home_of, meant_of}
use Rattle.zk_scope.specs.Scripted.{scripts_in}
use Rattle.zk_scope.proofs.GatherLaws.{told_on}
use Rattle.zk_scope.proofs.FollowLaws.{behind_end}
use Rattle.zk_scope.proofs.LeadLaws.{up_found}
use Rattle.zk_scope.proofs.TypeLaws.{declared_type, enum_formed, record_formed}
use Rattle.zk_scope.proofs.typing.+typing.Goals as goal

pub keys_to-loop-key-preserved : goal.keys_to-loop-key-preserved
keys_to-loop-key-preserved t c =
    let home = home_of c.args.home in
    let checked = type_to c.args.depth (scripts_in c.args.names.now) home c.key-item.result in
    told_on (λ key. key) (λ keys. keys) (λ xs x. refl) (key_to c.args.depth (scripts_in c.args.names.now) home) c.args.keys.now c.loop-key.key-index c.key-item.result
    c.loop-key.all c.as_key-one.result c.appended-all.result c.loop-key-test.true c.key-item.is c.loop-key.invariant
    (subst (λ (place : Place). Tells (λ key. key) c.as_key-one.result (keyed place checked)) (c.place_in.ensures ∙ ap (place_in home) c.place.ensures) (c.as_key-one.ensures checked c.type_to-one.ensures))
    c.appended-all.ensures

pub formed-returns-in_ok-number-in-Record : goal.formed-returns-in_ok-number-in-Record
formed-returns-in_ok-number-in-Record t c =
    let scripts = scripts_in c.args.names.now in
    let home = home_of c.args.home in
    let check = type_to c.args.depth scripts in
    ap (formed check scripts home) c.in-Record.is ∙ record_formed check scripts home c.in-Record.place c.in-Record.fields ∙
    ap (λ (n : ℕ). Ok (Record (record_no n))) (sym c.in_ok-number-in-Record.ensures.number) ∙ ap Ok (sym c.record_type.ensures)

pub formed-returns-in_ok-number-in-Enum : goal.formed-returns-in_ok-number-in-Enum
formed-returns-in_ok-number-in-Enum t c =
    let scripts = scripts_in c.args.names.now in
    let home = home_of c.args.home in
    let check = type_to c.args.depth scripts in
    ap (formed check scripts home) c.in-Enum.is ∙ enum_formed check scripts home c.in-Enum.place c.in-Enum.words c.in-Enum.comma ∙
    ap (λ (n : ℕ). Ok (enum n)) (sym c.in_ok-number-in-Enum.ensures.number) ∙ ap Ok (sym c.enum_type.ensures)

pub behind_names-returns-in-Some : goal.behind_names-returns-in-Some
behind_names-returns-in-Some t c = λ text is.
    let scripts = scripts_in c.args.names.now in
    let check = type_to c.args.depth scripts in
    subst (Tells type_of c.formed.result) (sym (behind_end check scripts text (home_of c.in-Some.home, c.in-Some.tree.now) (c.in-Some.ensures text is))) c.formed.ensures

pub placed_type-returns-else-is_circle : goal.placed_type-returns-else-is_circle
placed_type-returns-else-is_circle t c =
    let scripts = scripts_in c.args.names.now in
    let check = behind_names (type_to c.args.depth scripts) scripts in
    let one = declared_of c.in-Some.one.now in
    let home = home_of c.in-WrittenType.home in
    let inner = c.in-WrittenType.tree.now in
    let here : slice_get scripts.names c.args.named ≡ Some one = sym c.in-Some.ensures in
    let means : one.meant ≡ WrittenType home inner = ap meant_of c.in-WrittenType.is in
    let apart : is_circle scripts (Some one) ≡ false = sym (ap (is_circle scripts) here) ∙ sym c.is_circle.ensures ∙ c.if-is_circle.false in
    subst (Tells type_of c.unless_deep.result) (sym (ap (named_type check scripts c.args.place) here ∙ declared_type check scripts c.args.place one home inner means apart))
    (c.unless_deep.ensures (check home inner) (c.behind_names-behind.ensures (home, inner) (ap text_of here ∙ ap text_in means)))

pub named_type-returns-in-Some : goal.named_type-returns-in-Some
named_type-returns-in-Some t c =
    let scripts = scripts_in c.args.names.now in
    let check = behind_names (type_to c.args.depth scripts) scripts in
    let from_module = c.args.home.module_name.now in
    let text = c.args.name.now.text in
    let up : place_up scripts.names from_module text ≡ Some c.in-Some.named = ap (place_up scripts.names from_module) (sym c.as_slice.ensures) ∙ sym c.in_ok-found.ensures ∙ c.in-Some.is in
    subst (λ (found : Option Declared). Tells type_of c.placed_type.result (named_type check scripts (place_in (home_of c.args.home) c.args.name.now.place) found)) (sym (up_found scripts.names from_module text ∙ ap (option_and_then (slice_get scripts.names)) up))
    (subst (λ (place : Place). Tells type_of c.placed_type.result (named_type check scripts place (slice_get scripts.names c.in-Some.named))) c.place_in-place.ensures c.placed_type.ensures)

pub named_type-returns-in-None : goal.named_type-returns-in-None
named_type-returns-in-None t c =
    let scripts = scripts_in c.args.names.now in
    let check = behind_names (type_to c.args.depth scripts) scripts in
    let from_module = c.args.home.module_name.now in
    let text = c.args.name.now.text in
    let up : place_up scripts.names from_module text ≡ None = ap (place_up scripts.names from_module) (sym c.as_slice.ensures) ∙ sym c.in_ok-found.ensures ∙ c.in-None.is in
    subst (λ (found : Option Declared). Tells type_of c.unknown.result (named_type check scripts (place_in (home_of c.args.home) c.args.name.now.place) found)) (sym (up_found scripts.names from_module text ∙ ap (option_and_then (slice_get scripts.names)) up))
    (subst (λ (place : Place). Tells type_of c.unknown.result (named_type check scripts place None)) c.place_in-place.ensures c.unknown.ensures)
