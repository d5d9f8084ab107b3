use Rattle.std.proofs.Common.{◌≡◌, map, slice_set, refl, sym, ap, subst, ◌∙◌}
use Rattle.zk_value.specs.Plain.{field_of}
use Rattle.zk_machine.specs.Owners.{AreNoted, each_global, expires_in}
use Rattle.zk_machine.proofs.globals.Globals.set.Goals as goal

pub invariant_of-self : goal.invariant_of-self
invariant_of-self c =
    let s = c.self.inside in
    let all = c.note.new.self in
    let own = c.note-2.new.self in
    let counts : expires_in s.expires.items c.args.global ≡ c.expires-counts.result = sym (c.expires-counts.ensures ∙ ap (λ truths. expires_in truths c.args.global) c.deref.ensures.value) in
    subst (λ values. AreNoted each_global values all.list.items all.limit × AreNoted (expires_in s.expires.items) values own.list.items own.limit) (sym c.set_named.ensures) (
      subst (λ list. AreNoted each_global (map field_of list) s.all.list.items s.all.limit
          → AreNoted each_global (slice_set (map field_of list) c.args.global (field_of c.args.value)) all.list.items all.limit)
          c.deref-2.ensures.value (c.note.ensures each_global refl) c.self.invariant.0,
      subst (λ list. AreNoted (expires_in s.expires.items) (map field_of list) s.expiring.list.items s.expiring.limit
          → AreNoted (expires_in s.expires.items) (slice_set (map field_of list) c.args.global (field_of c.args.value)) own.list.items own.limit)
          c.deref-3.ensures.value (c.note-2.ensures (expires_in s.expires.items) counts) c.self.invariant.1,
    )
