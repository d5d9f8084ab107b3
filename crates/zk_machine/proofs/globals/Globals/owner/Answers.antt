use Rattle.std.proofs.Common.{◌≡◌, ◌≤◌, Some, map, subst, arith}
use Rattle.std.specs.Prelude.{IfSome}
use Rattle.std.proofs.lemmas.Bool.Decides.{nat_tests}
use Rattle.zk_value.specs.Plain.{field_of}
use Rattle.zk_machine.specs.Owners.{AllExpire, IsNoted, IsOwner, object_of}
use Rattle.zk_machine.proofs.OwnerLemmas.{all-seen, expiring-seen, owner-some}
use Rattle.zk_machine.proofs.globals.Globals.owner.Goals as goal

-- all globals are noted
pub returns-then-end-self : goal.returns-then-end-self
returns-then-end-self c =
    let s = c.self.inside in
    let values = map field_of s.values.items in
    let test = c.if-end-self.true in
    let below : c.args.end.0 ≤ s.all.limit = grind (arith, nat_tests, test) in
    subst (λ values. IfSome c.owner.result (λ global. IsOwner values c.args.globals.now global c.args.object.0 c.args.end.0)) c.self.view_is
    (owner-some values s.all.list.items c.args.globals.now c.args.end.0 c.args.object c.owner.result c.self.invariant.0.rises
    (all-seen values s.all.list.items s.all.limit c.args.end.0 c.args.globals.now c.self.invariant.0 below)
    (subst (λ list. IfSome c.owner.result (λ global. IsNoted (record { object = c.args.object; global = global }) s.all.list.items × (object_of (map field_of list) global ≡ Some c.args.object)))
    c.deref.ensures.value c.owner.ensures))

-- those are whose entries expire
pub returns-then-all_expire : goal.returns-then-all_expire
returns-then-all_expire c =
    let s = c.self.inside in
    let values = map field_of s.values.items in
    let test = c.if-end-self-2.true in
    let below : c.args.end.0 ≤ s.expiring.limit = grind (arith, nat_tests, test) in
    let expire : AllExpire s.expires.items c.args.globals.now = subst (λ truths. AllExpire truths c.args.globals.now) c.deref-then-end-self-2.ensures.value (c.all_expire.ensures c.if-all_expire.true) in
    subst (λ values. IfSome c.owner-then-all_expire.result (λ global. IsOwner values c.args.globals.now global c.args.object.0 c.args.end.0)) c.self.view_is
    (owner-some values s.expiring.list.items c.args.globals.now c.args.end.0 c.args.object c.owner-then-all_expire.result c.self.invariant.1.rises
    (expiring-seen values s.expires.items s.expiring.list.items s.expiring.limit c.args.end.0 c.args.globals.now c.self.invariant.1 below expire)
    (subst (λ list. IfSome c.owner-then-all_expire.result (λ global. IsNoted (record { object = c.args.object; global = global }) s.expiring.list.items × (object_of (map field_of list) global ≡ Some c.args.object)))
    c.deref-then-all_expire.ensures.value c.owner-then-all_expire.ensures))
