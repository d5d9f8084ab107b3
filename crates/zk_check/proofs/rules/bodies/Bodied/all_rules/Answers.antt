use Rattle.std.proofs.Common.{◌≡◌, ℕ, List, ap, sym, subst, ◌∙◌}
use Rattle.zk_tree.specs.declared.decl.Decl.{out-Decl}
use Rattle.zk_typed.specs.Checked.{both}
use Rattle.zk_typed.specs.Declarations.{nothing}
use Rattle.zk_typed.specs.Errors.{decl_rules, declared_before, declares, twice_rules, uses_of}
use Rattle.zk_scope.specs.Lent.{home_of, stated_of}
use Rattle.zk_scope.specs.Scripted.{scripts_in}
use Rattle.zk_check_operators.proofs.BothLaws.{Rules}
use Rattle.zk_check_declarations.specs.declared.paths.Paths.{Paths}
use Rattle.zk_check_declarations.specs.declared.seen.Seen.{Seen}
use Rattle.zk_check.specs.Listing.{path_rules}
use Rattle.zk_check_declarations.specs.Naming.{all_named}
use Rattle.zk_check_declarations.specs.Paths.{HasPaths}
use Rattle.zk_check_declarations.specs.Seeing.{Sees}
use Rattle.zk_check.proofs.DeclLaws.{earlier_more}
use Rattle.zk_check_declarations.proofs.RuleLaws.{adds_told, also_tells}
use Rattle.zk_check.proofs.rules.bodies.Bodied.all_rules.Goals as goal

pub returns-clause-rules : goal.returns-clause-rules
returns-clause-rules c = λ before known.
    let scripts = scripts_in c.args.self.now.valued.ground.names.now in
    let home = home_of c.args.one.home in
    let names = declares home (out-Decl c.args.one.decl.now) in
    let decl = decl_rules scripts before home (out-Decl c.args.one.decl.now) in
    let twice = twice_rules home (declared_before before) names in
    let sees = subst (λ (seen : Seen). Sees seen (declared_before before)) (sym c.decl_rules-decl.ensures.declared) known.declared in
    let has = subst (λ (paths : Paths). HasPaths paths (uses_of scripts before)) (sym c.decl_rules-decl.ensures.paths) known.paths in
    let named : all_named c.deref.result.now ≡ names = ap all_named c.deref.ensures.value ∙ c.in_ok-names.ensures in
    also_tells c.also.result c.path_rules-paths.result c.also-2.result (nothing (both decl twice)) (path_rules scripts before (stated_of c.args.one))
    (also_tells c.decl_rules-decl.result c.twice_rules-twice.result c.also.result decl twice (c.decl_rules-decl.ensures.rules before known)
    (subst (λ (all : List (List ℕ × ℕ)). Rules c.twice_rules-twice.result (twice_rules home (declared_before before) all)) named (c.twice_rules-twice.ensures.rules (declared_before before) sees)) c.also.ensures)
    (c.path_rules-paths.ensures.rules (uses_of scripts before) has) c.also-2.ensures

pub returns-clause-later : goal.returns-clause-later
returns-clause-later c = λ known before earlier.
    let scripts = scripts_in c.args.self.now.valued.ground.names.now in
    let outer = adds_told c.also.result c.path_rules-paths.result c.also-2.result c.also-2.ensures known in
    let inner = adds_told c.decl_rules-decl.result c.twice_rules-twice.result c.also.result c.also.ensures outer.0 in
    let sees = subst (λ (seen : Seen). Sees seen (declared_before before)) (sym c.decl_rules-decl.ensures.declared) earlier.declared in
    let has = subst (λ (paths : Paths). HasPaths paths (uses_of scripts before)) (sym c.decl_rules-decl.ensures.paths) earlier.paths in
    earlier_more c.args.earlier.now (record c.decl_rules-decl.new.earlier { declared = c.twice_rules-twice.new.seen; paths = c.path_rules-paths.new.paths }) c.twice_rules-twice.new.seen scripts before (stated_of c.args.one) (all_named c.deref.result.now) earlier
    (ap all_named c.deref.ensures.value ∙ c.in_ok-names.ensures) (c.twice_rules-twice.ensures.met inner.1 (declared_before before) sees) (c.decl_rules-decl.ensures.bodies inner.0) (c.decl_rules-decl.ensures.fields inner.0) (c.path_rules-paths.ensures.met outer.1 (uses_of scripts before) has)
