use Rattle.std.proofs.Common.{Some, sym, ap, ◌∙◌, arith}
use Rattle.slab.specs.Slab.{get}
use Rattle.zk_conn.specs.Table.{key_cmp}
use Rattle.zk_conn.proofs.TableLemmas.{index_filed, on_ok-not_err}
use Rattle.zk_conn.proofs.conns.Conns.insert.Goals as goal

pub returns-clause-ok : goal.returns-clause-ok
unfolding key_cmp
returns-clause-ok c =
    let mid = c.make_room.new.self in
    let slot = c.vacant_key-slot.result in
    let at_slot = c.insert_reserved.ensures.key ∙ sym c.vacant_key-slot.ensures.value in
    let keys = on_ok-not_err c.insert-2.result (sym c.is_err.ensures.value ∙ c.if-is_err.false) c.insert-2.ensures.updates in
    record {
      slot = slot;
      vacant = sym (c.make_room.ensures.same.slots_are slot) ∙ c.vacant_key-slot.ensures.vacant;
      there = ap (get c.insert_reserved.new.self) (sym at_slot) ∙ c.insert_reserved.ensures.updates.changed;
      others = λ other apart. c.insert_reserved.ensures.updates.others other (λ here. apart (here ∙ at_slot)) ∙ c.make_room.ensures.same.slots_are other;
      key_found = keys.1;
      other_keys = λ other apart. keys.2 other apart ∙ c.make_room.ensures.same.keys_are other;
      number_found = c.in_ok-insert.ensures.updates.1;
      other_numbers = λ other apart. c.in_ok-insert.ensures.updates.2 other apart ∙ c.make_room.ensures.same.numbers_are other;
      begun_is = c.make_room.ensures.same.begun_is;
      index = λ index. index_filed mid.slots c.insert_reserved.new.self mid.removals c.file.new.self slot _
          (ap (get c.insert_reserved.new.self) (sym at_slot) ∙ c.insert_reserved.ensures.updates.changed)
          (λ other apart. c.insert_reserved.ensures.updates.others other (λ here. apart (here ∙ at_slot)))
          c.file.ensures.index (λ place. c.file.ensures.filed place ∙ ap Some c.filing-filing.ensures) c.file.ensures.others
          (λ _. c.in_ok-make_room.ensures.places slot (omega (arith, at_slot, c.insert_reserved.ensures.key_in_range, c.insert_reserved.ensures.capacity)))
          (c.make_room.ensures.same.index index);
    }
