use Rattle.std.proofs.Common.{◌≡◌, ◌<◌, Some, map, sym, ap, ◌∙◌, subst, arith}
use Rattle.zk_base.specs.declared.numbers.ObjectNo.{ObjectNo}
use Rattle.zk_value.specs.Plain.{field_of}
use Rattle.zk_machine.specs.Owners.{IsSeen}
use Rattle.zk_machine.proofs.OwnerLemmas.{none_some, noted-set, same_object, seen-noted}
use Rattle.zk_machine.proofs.globals.note_value.Goals as goal

-- it names no object
pub returns-in_default-clause-noted : goal.returns-in_default-clause-noted
returns-in_default-clause-noted c = λ these limit below rises less own.
    let owners = c.args.owners.now.items in
    noted-set these (map field_of c.args.values.now) owners owners limit below c.args.global (field_of c.args.value.now) (λ one is. is) less
    (λ among object is under. absurd (none_some (sym c.object_in.ensures ∙ c.in_default.is) is))

-- it names it already
pub returns-then-names-clause-noted : goal.returns-then-names-clause-noted
returns-then-names-clause-noted c = λ these limit below rises less own noted.
    let values = map field_of c.args.values.now in
    let owners = c.args.owners.now.items in
    noted-set these values owners owners limit below c.args.global (field_of c.args.value.now) (λ one is. is) less
    (λ among object is under.
    let same : c.in-Some.object ≡ object = same_object c.in-Some.object object (sym c.in-Some.is ∙ (c.object_in.ensures ∙ is)) in
    noted c.args.global object among (c.names.ensures c.if-names.true ∙ ap (λ (it : ObjectNo). Some it) same) (omega (arith, under, less)))
    noted

-- it is seen already
pub returns-then-is_seen-clause-noted : goal.returns-then-is_seen-clause-noted
returns-then-is_seen-clause-noted c = λ these limit below rises less own noted.
    let owners = c.args.owners.now.items in
    noted-set these (map field_of c.args.values.now) owners owners limit below c.args.global (field_of c.args.value.now) (λ one is. is) less
    (λ among object is under.
    let same : c.in-Some.object ≡ object = same_object c.in-Some.object object (sym c.in-Some.is ∙ (c.object_in.ensures ∙ is)) in
    subst (λ (it : ObjectNo). IsSeen (record { object = it; global = c.args.global }) owners) same
    (subst (λ all. IsSeen (record { object = c.in-Some.object; global = c.args.global }) all) c.deref.ensures.value (c.is_seen.ensures c.if-is_seen.true)))
    noted

pub returns-clause-noted : goal.returns-clause-noted
returns-clause-noted c = λ these limit below rises less own noted.
    let values = map field_of c.args.values.now in
    noted-set these values c.args.owners.now.items c.note.new.owners.items limit below c.args.global (field_of c.args.value.now) (c.note.ensures.kept rises) less
    (λ among object is under.
    let same : c.in-Some.object ≡ object = same_object c.in-Some.object object (sym c.in-Some.is ∙ (c.object_in.ensures ∙ is)) in
    let most = own among in
    subst (λ (it : ObjectNo). IsSeen (record { object = it; global = c.args.global }) c.note.new.owners.items) same
    (seen-noted (record { object = c.in-Some.object; global = c.args.global }) c.note.new.owners.items
    (c.note.ensures.noted (subst (λ (it : ObjectNo). it.0 < c.note.result) (sym same) (omega (arith, under, most))))))
    noted
