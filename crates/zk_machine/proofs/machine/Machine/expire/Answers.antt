use Rattle.std.proofs.Common.{rules, ◌≡◌, ◌<◌, ◌≤◌, ◌∷◌, List, Some, length, refl, sym, ap, subst, ◌∙◌, arith}
use Rattle.std.specs.Prelude.{slice_get}
use Rattle.std.specs.Option.{option_map}
use Rattle.std.proofs.lemmas.List.{length-map}
use Rattle.std.proofs.lemmas.Option.{slice_get_past}
use Rattle.zk_lower.specs.Told.{behind}
use Rattle.zk_lower.specs.View as lower
use Rattle.zk_table.specs.Heap.{changed, in_table}
use Rattle.zk_tree.specs.Store.{Store}
use Rattle.zk_tree.specs.Table as plain
use Rattle.zk_tree.specs.Value as value
use Rattle.zk_tree.specs.Value.{Value}
use Rattle.zk_typed.specs.Dispatch.{left, expiry_body}
use Rattle.zk_typed.specs.Does.{named}
use Rattle.zk_typed.specs.Running.{expire_of}
use Rattle.zk_typed.specs.State.{World}
use Rattle.zk_value.specs.Plain.{key_of}
use Rattle.zk_machine.specs.Agenda.{end_of}
use Rattle.zk_machine.specs.Entries.{entry_in, entry_of, object_named}
use Rattle.zk_machine.specs.Standing.{StandsFor}
use Rattle.zk_machine.specs.State.{world_of}
use Rattle.zk_machine.proofs.ExpireLemmas.{ends, expired_behind, there}
use Rattle.zk_machine.proofs.MachineLemmas.{globals_in}
use Rattle.zk_machine.proofs.machine.Machine.expire.Goals as goal

pub returns-then-table-len-clause-ended : goal.returns-then-table-len-clause-ended
returns-then-table-len-clause-ended c = λ program given world stands.
    let code = c.code.result.now in
    let count : length (lower.code_of code).globals ≡ length program.globals = globals_in (lower.code_of code) program (c.code.ensures ∙ stands.code) in
    let past : length program.globals ≤ c.args.table = omega (arith, c.if-table-len.true, c.len.ensures, count, length-map code.globals lower.global_of) in
    sym (ap (end_of program c.args.budget c.args.table c.args.order world) (slice_get_past program.globals c.args.table past))

pub returns-then-table-len-clause-stands : goal.returns-then-table-len-clause-stands
returns-then-table-len-clause-stands c = λ program given world stands.
    let code = c.code.result.now in
    let count : length (lower.code_of code).globals ≡ length program.globals = globals_in (lower.code_of code) program (c.code.ensures ∙ stands.code) in
    let past : length program.globals ≤ c.args.table = omega (arith, c.if-table-len.true, c.len.ensures, count, length-map code.globals lower.global_of) in
    subst (StandsFor c.args.self.now program given) (sym (ap (expire_of program c.args.budget c.args.table c.args.order world) (slice_get_past program.globals c.args.table past))) stands

pub returns-clause-ended : goal.returns-clause-ended
returns-clause-ended c = λ program given world stands.
    let code = c.code.result.now in
    let count : length (lower.code_of code).globals ≡ length program.globals = globals_in (lower.code_of code) program (c.code.ensures ∙ stands.code) in
    let within : c.args.table < length program.globals = omega (arith, c.if-table-len.false, c.len.ensures, count, length-map code.globals lower.global_of) in
    let of = there program.globals c.args.table within in
    let before = world_of c.args.self.now.running.state.world in
    let budget = c.args.budget in
    let order = c.args.order in
    let entry = c.in-Some.entry in
    let lent : c.deref.result.now ≡ c.in_ok-args.args.items = search rules in
    let asked : key_of c.deref.result.now ≡ value.Object entry.table ∷ key_of entry.key = ap key_of lent ∙ c.in_ok-args.ensures in
    let found : entry_in before.store order (object_named (named before.globals c.args.table)) ≡ Some (entry.table, key_of entry.key) = sym c.in_ok-found.ensures ∙ ap (option_map entry_of) c.in-Some.is in
    c.in_ok-waited.ensures.ended program given (behind given before) of.0 (record { code = stands.code; comes = refl; works = refl }) of.1
    ∙ (ap (λ (args : List Value). (left (expiry_body program of.0 args (behind given before) budget)).end) asked
    ∙ (sym (ends program budget order of.0 (behind given before) (named before.globals c.args.table) entry.table (key_of entry.key) found)
    ∙ (ap (end_of program budget c.args.table order (behind given before)) (sym of.1)
    ∙ ap (λ (world : World). end_of program budget c.args.table order world (slice_get program.globals c.args.table)) (sym stands.comes))))

pub returns-clause-stands : goal.returns-clause-stands
returns-clause-stands c = λ program given world stands.
    let code = c.code.result.now in
    let count : length (lower.code_of code).globals ≡ length program.globals = globals_in (lower.code_of code) program (c.code.ensures ∙ stands.code) in
    let within : c.args.table < length program.globals = omega (arith, c.if-table-len.false, c.len.ensures, count, length-map code.globals lower.global_of) in
    let of = there program.globals c.args.table within in
    let before = world_of c.args.self.now.running.state.world in
    let now = world_of c.expiry.new.self.running.state.world in
    let budget = c.args.budget in
    let order = c.args.order in
    let entry = c.in-Some.entry in
    let waited = c.in_ok-waited.waited in
    let lent : c.deref.result.now ≡ c.in_ok-args.args.items = search rules in
    let asked : key_of c.deref.result.now ≡ value.Object entry.table ∷ key_of entry.key = ap key_of lent ∙ c.in_ok-args.ensures in
    let found : entry_in before.store order (object_named (named before.globals c.args.table)) ≡ Some (entry.table, key_of entry.key) = sym c.in_ok-found.ensures ∙ ap (option_map entry_of) c.in-Some.is in
    let after = c.in_ok-waited.ensures.stands program given (behind given before) of.0 (record { code = stands.code; comes = refl; works = refl }) of.1 in
    record {
      code = after.code;
      comes = ap (λ (world : World). expire_of program budget c.args.table order world (slice_get program.globals c.args.table)) stands.comes
          ∙ (ap (expire_of program budget c.args.table order (behind given before)) of.1
          ∙ expired_behind program budget order of.0 given before now (named before.globals c.args.table) entry.table (key_of entry.key) (key_of c.deref.result.now) waited.wait c.expire.new.self.objects
          found asked after.comes
          (c.in_ok-waited.ensures.wait program given (behind given before) of.0 (record { code = stands.code; comes = refl; works = refl }) of.1)
          (c.expire.ensures.objects ∙ ap (λ (store : Store). changed (in_table (plain.expire order waited.wait)) entry.table.0 store) c.renew.ensures.objects));
      works = after.works;
    }
