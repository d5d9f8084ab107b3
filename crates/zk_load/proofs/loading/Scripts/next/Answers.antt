use Rattle.std.proofs.Common.{◌≡◌, [], length, arith, false, true, refl, sym, ap, ◌∙◌, append-nil}
use Rattle.std.proofs.lemmas.List.{nil_from_length}
use Rattle.zk_load.specs.declared.loading.Scripts.{Scripts}
use Rattle.zk_load.specs.Loading.{is_read, unread}
use Rattle.zk_load.proofs.LoadLaws.{none_waits, popped, read_passed, unread_next}
use Rattle.zk_load.proofs.loading.Scripts.next.Goals as goal

pub returns-then-not-contains-clause-some : goal.returns-then-not-contains-clause-some
returns-then-not-contains-clause-some c read names waits =
    let (others, same, now) = c.names.invariant.goes_on read names waits in
    let after : Scripts = record { read = c.names.self.read; names = c.names.self.names; pending = c.pop.new.self } in
    let (rest, is, there) = popped c.names.self after c.in-Some.name read others now c.in-Some.ensures.items refl refl in
    let known : is_read read c.in-Some.name ≡ false = sym (now.known c.in-Some.name) ∙ sym c.contains.ensures ∙ c.if-not-contains.true in
    (rest, same ∙ ap (unread read) is ∙ unread_next read c.in-Some.name rest known, there)

pub names-preserved : goal.names-preserved
names-preserved c = record {
  goes_on = λ read names waits.
      let (others, same, now) = c.names.invariant.goes_on read names waits in
      let after : Scripts = record { read = c.names.self.read; names = c.names.self.names; pending = c.pop.new.self } in
      let (rest, is, there) = popped c.names.self after c.in-Some.name read others now c.in-Some.ensures.items refl refl in
      let known : is_read read c.in-Some.name ≡ true = sym (now.known c.in-Some.name) ∙ sym c.contains.ensures ∙ c.if-not-contains.false in
      (rest, same ∙ ap (unread read) is ∙ read_passed read c.in-Some.name rest known, there);
  stays = c.names.invariant.stays;
}

pub returns-clause-none : goal.returns-clause-none
returns-clause-none c read names waits =
    let (others, same, now) = c.names.invariant.goes_on read names waits in
    let empty : length c.names.self.pending.items ≡ 0 = omega (arith, c.in_default.ensures.cases.0) in
    let none : c.names.self.pending.items ≡ [] = nil_from_length c.names.self.pending.items empty in
    let left : c.pop.new.self.items ≡ [] = sym (append-nil c.pop.new.self.items) ∙ sym c.in_default.ensures.items ∙ none in
    (same ∙ ap (unread read) (none_waits c.names.self read others now none), record { reads = now.reads; known = now.known; pending = left })
