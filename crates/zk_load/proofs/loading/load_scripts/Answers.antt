use Rattle.std.proofs.Common.{◌≡◌, ◌+◌, ◌<◌, [], ◌∷◌, length, length-append, sym, ap, subst, ◌∙◌, arith}
use Rattle.std.proofs.lemmas.Result.{err_from_is_err_and}
use Rattle.zk_outcome.specs.declared.found.Found.TheVariants.{Accepted, Refused}
use Rattle.zk_load.specs.Loads.{LoadsAll}
use Rattle.zk_outcome.specs.Found.{Finds}
use Rattle.zk_outcome.specs.Parts.{DoesPart}
use Rattle.zk_load.specs.Script.{script_in}
use Rattle.zk_load.proofs.LoadLaws.{all_loaded, as_many_read, at_script, few_read, loading_begins, refused_too_many, script_read, script_refused, stopped_at_script, stopped_behind}
use Rattle.zk_load.proofs.loading.load_scripts.Goals as goal

pub files-init : goal.files-init
files-init g c = loading_begins c.args.before c.args.names.now c.in_ok-scripts.scripts (g.S.Shelf.outside c.args.shelf.now) c.in_ok-scripts.ensures

pub returns-then-len-most-clause-loaded : goal.returns-then-len-most-clause-loaded
returns-then-len-most-clause-loaded g c =
    let first = g.S.Shelf.outside c.args.shelf.now in
    let now = g.S.Shelf.outside c.files.shelf in
    let at = at_script c.args.before c.args.names.now first c.files.scripts c.next.new.self c.in-Some.name now c.files.invariant c.in-Some.ensures.some in
    subst (λ e. LoadsAll c.args.before c.args.names.now first (Refused e) now) (sym c.too_many.ensures)
    (refused_too_many c.args.before c.args.names.now first c.next.new.self c.in-Some.name now at (sym (ap length at.waits.reads) ∙ (let full : length c.next.new.self.read.items ≡ length c.args.before + 256 = omega (arith, c.len.ensures, ap length c.as_slice.ensures, c.if-len-most.true) in full)))

pub returns-in_err-tree-clause-stopped : goal.returns-in_err-tree-clause-stopped
returns-in_err-tree-clause-stopped g c =
    let first = g.S.Shelf.outside c.args.shelf.now in
    let now = g.S.Shelf.outside c.files.shelf in
    let new = g.S.Shelf.outside c.read_script.new.shelf in
    let name = c.in-Some.name in
    let stop = c.in_err-tree.field-0.0 in
    let at = at_script c.args.before c.args.names.now first c.files.scripts c.next.new.self name now c.files.invariant c.in-Some.ensures.some in
    let few : length at.read < length c.args.before + 256 = few_read c.args.before c.args.names.now first c.next.new.self name now at (omega (arith, c.len.ensures, ap length c.as_slice.ensures, c.if-len-most.false)) in
    let p = err_from_is_err_and c.from_residual-in_err-tree.result c.from_residual-in_err-tree.ensures.1 in
    rw (p.1, p.2) (stopped_at_script c.args.before c.args.names.now first c.next.new.self name now at stop new few
    (subst (λ file. DoesPart (file ∷ []) [] [] now stop new) c.as_slice-in-Some.ensures c.in_err-tree.ensures.stopped))

pub files-smaller : goal.files-smaller
files-smaller g c =
    let first = g.S.Shelf.outside c.args.shelf.now in
    let now = g.S.Shelf.outside c.files.shelf in
    let at = at_script c.args.before c.args.names.now first c.files.scripts c.next.new.self c.in-Some.name now c.files.invariant c.in-Some.ensures.some in
    let waits = c.in_ok-add-in-Accepted.ensures at.read at.others at.waits in
    let grown : length c.add.new.self.read.items ≡ length at.read + 1 = ap length waits.reads ∙ length-append at.read ((c.in-Some.name, c.in-Accepted.tree) ∷ []) in
    let same : length c.files.scripts.read.items ≡ length at.read = as_many_read c.files.scripts c.next.new.self at.read c.next.ensures.stays at.waits.reads in
    let few : length at.read < length c.args.before + 256 = few_read c.args.before c.args.names.now first c.next.new.self c.in-Some.name now at (omega (arith, c.len.ensures, ap length c.as_slice.ensures, c.if-len-most.false)) in
    omega (arith, grown, same, few, ap length c.as_slice.ensures)

pub files-preserved : goal.files-preserved
files-preserved g c =
    let first = g.S.Shelf.outside c.args.shelf.now in
    let now = g.S.Shelf.outside c.files.shelf in
    let new = g.S.Shelf.outside c.read_script.new.shelf in
    let name = c.in-Some.name in
    let tree = c.in-Accepted.tree in
    let at = at_script c.args.before c.args.names.now first c.files.scripts c.next.new.self name now c.files.invariant c.in-Some.ensures.some in
    let few : length at.read < length c.args.before + 256 = few_read c.args.before c.args.names.now first c.next.new.self name now at (omega (arith, c.len.ensures, ap length c.as_slice.ensures, c.if-len-most.false)) in
    let finds : Finds name (script_in name) now (Accepted tree) new =
    subst (λ found. Finds name (script_in name) now found new) c.in-Accepted.is (subst (λ file. Finds file (script_in file) now c.in_ok-tree.field-0 new) c.as_slice-in-Some.ensures c.in_ok-tree.ensures.found) in
    script_read c.args.before c.args.names.now first c.next.new.self c.add.new.self name now at tree new few finds (c.in_ok-add-in-Accepted.ensures at.read at.others at.waits)

pub returns-in_err-add-in-Accepted-clause-stopped : goal.returns-in_err-add-in-Accepted-clause-stopped
returns-in_err-add-in-Accepted-clause-stopped g c =
    let first = g.S.Shelf.outside c.args.shelf.now in
    let now = g.S.Shelf.outside c.files.shelf in
    let new = g.S.Shelf.outside c.read_script.new.shelf in
    let name = c.in-Some.name in
    let tree = c.in-Accepted.tree in
    let at = at_script c.args.before c.args.names.now first c.files.scripts c.next.new.self name now c.files.invariant c.in-Some.ensures.some in
    let few : length at.read < length c.args.before + 256 = few_read c.args.before c.args.names.now first c.next.new.self name now at (omega (arith, c.len.ensures, ap length c.as_slice.ensures, c.if-len-most.false)) in
    let finds : Finds name (script_in name) now (Accepted tree) new =
    subst (λ found. Finds name (script_in name) now found new) c.in-Accepted.is (subst (λ file. Finds file (script_in file) now c.in_ok-tree.field-0 new) c.as_slice-in-Some.ensures c.in_ok-tree.ensures.found) in
    let exit = c.from_residual-in_err-add-in-Accepted in
    let p = err_from_is_err_and exit.result exit.ensures.1 in
    rw (p.1, p.2) (stopped_behind c.args.before c.args.names.now first c.next.new.self name now at tree new few finds)

pub returns-in-Refused-clause-loaded : goal.returns-in-Refused-clause-loaded
returns-in-Refused-clause-loaded g c =
    let first = g.S.Shelf.outside c.args.shelf.now in
    let now = g.S.Shelf.outside c.files.shelf in
    let new = g.S.Shelf.outside c.read_script.new.shelf in
    let name = c.in-Some.name in
    let at = at_script c.args.before c.args.names.now first c.files.scripts c.next.new.self name now c.files.invariant c.in-Some.ensures.some in
    let few : length at.read < length c.args.before + 256 = few_read c.args.before c.args.names.now first c.next.new.self name now at (omega (arith, c.len.ensures, ap length c.as_slice.ensures, c.if-len-most.false)) in
    let finds : Finds name (script_in name) now (Refused c.in-Refused.ending) new =
    subst (λ found. Finds name (script_in name) now found new) c.in-Refused.is (subst (λ file. Finds file (script_in file) now c.in_ok-tree.field-0 new) c.as_slice-in-Some.ensures c.in_ok-tree.ensures.found) in
    script_refused c.args.before c.args.names.now first c.next.new.self name now at c.in-Refused.ending new few finds

pub returns-clause-loaded : goal.returns-clause-loaded
returns-clause-loaded g c =
    let first = g.S.Shelf.outside c.args.shelf.now in
    let now = g.S.Shelf.outside c.files.shelf in
    subst (λ scripts. LoadsAll c.args.before c.args.names.now first (Accepted scripts) now) (sym c.from.ensures)
    (all_loaded c.args.before c.args.names.now first c.files.scripts c.next.new.self now c.files.invariant c.in_default.ensures.none)
