use Rattle.std.proofs.Common.{ℕ, List, ◌++◌, length, refl, ap, sym, ◌∙◌}
use Rattle.std.specs.List.{list_any}
use Rattle.zk_typed.specs.Within.{maybe_one}
use Rattle.zk_scope.specs.Leading.{led, place_up}
use Rattle.zk_scope.specs.Lent.{home_of}
use Rattle.zk_scope.specs.Scripted.{scripts_in}
use Rattle.zk_scope.proofs.LeadLaws.{lead_up}
use Rattle.zk_scope.proofs.known.Names.leads.Goals as goal

pub returns : goal.returns
unfolding scripts_in
returns c =
    let scripts = scripts_in c.args.self.now in
    c.in_ok-leads.ensures scripts refl ∙ ap (list_any (led scripts c.args.target.now (length scripts.names))) (c.deref.ensures.value ∙ c.in_ok-add_place.ensures ∙ ap (λ (x : List ℕ). x ++ maybe_one (place_up scripts.names c.args.home.module_name.now c.as_slice-text.result.now)) c.new-starts.ensures.items ∙ ap (λ (x : List ℕ). maybe_one (place_up scripts.names c.args.home.module_name.now x)) c.as_slice-text.ensures) ∙
    sym (lead_up scripts c.args.target.now (length scripts.names) (home_of c.args.home) c.args.name.now)
