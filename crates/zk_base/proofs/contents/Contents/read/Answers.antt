use Rattle.std.proofs.Common.{◌≡◌, ◌+◌, ◌-◌, ◌≤◌, ◌++◌, min, length, take, drop, Some, arith, ap, ◌∙◌, refl}
use Rattle.std.specs.List.{slice_get}
use Rattle.std.proofs.lemmas.Option.{slice_get_read}
use Rattle.zk_base.specs.Contents.{outside_of}
use Rattle.zk_base.specs.Files.{IsAt}
use Rattle.zk_base.proofs.CountLemmas.{with_counts}
use Rattle.zk_base.proofs.FileLemmas.{is_read_out, gives, fills, reading_on, at_on, at_same}
use Rattle.zk_base.proofs.contents.Contents.read.Goals as goal

pub copy_from-n-requires : goal.copy_from-n-requires
copy_from-n-requires c =
    let inputs = c.args.self.now.inputs.items in
    let held = c.args.self.now.position in
    let position = c.in-Some.position in
    let file = c.index.result.now in
    let is : held ≡ Some position = c.in-Some.is in
    let at : IsAt inputs position = c.args.self.now.found position is in
    let here : slice_get inputs position.file ≡ Some file = slice_get_read inputs (length inputs) position.file file refl at.0 c.index.ensures in
    let within : position.place ≤ length file.1 = (at.1 file here).1 in
    omega (arith, ap length c.as_slice-content.ensures)

pub returns-then-n-eq0-clause-leaves : goal.returns-then-n-eq0-clause-leaves
returns-then-n-eq0-clause-leaves c =
    let inputs = c.args.self.now.inputs.items in
    let held = c.args.self.now.position in
    let position = c.in-Some.position in
    let file = c.index.result.now in
    let is : held ≡ Some position = c.in-Some.is in
    let at : IsAt inputs position = c.args.self.now.found position is in
    let here : slice_get inputs position.file ≡ Some file = slice_get_read inputs (length inputs) position.file file refl at.0 c.index.ensures in
    let within : position.place ≤ length file.1 = (at.1 file here).1 in
    record { out = is_read_out inputs held position file is at here (omega (arith, ap length c.as_slice-content.ensures)); same = λ p. with_counts (outside_of c.args.self.now) (c.clear_fault.ensures p) }

pub invariant_of-self-2 : goal.invariant_of-self-2
invariant_of-self-2 c =
    let inputs = c.args.self.now.inputs.items in
    let held = c.args.self.now.position in
    let position = c.in-Some.position in
    let file = c.index.result.now in
    let is : held ≡ Some position = c.in-Some.is in
    let at : IsAt inputs position = c.args.self.now.found position is in
    let here : slice_get inputs position.file ≡ Some file = slice_get_read inputs (length inputs) position.file file refl at.0 c.index.ensures in
    let within : position.place ≤ length file.1 = (at.1 file here).1 in
    let n = c.copy_from-n.result in
    let on : IsAt inputs (record { file = position.file; place = position.place + n }) =
    at_on inputs held position file is at here n (omega (arith, ap length c.as_slice-content.ensures)) in
    record { found = λ other there. at_same inputs (record { file = position.file; place = position.place + n }) other there on }

pub returns-clause-leaves : goal.returns-clause-leaves
returns-clause-leaves c =
    let inputs = c.args.self.now.inputs.items in
    let held = c.args.self.now.position in
    let position = c.in-Some.position in
    let file = c.index.result.now in
    let is : held ≡ Some position = c.in-Some.is in
    let at : IsAt inputs position = c.args.self.now.found position is in
    let here : slice_get inputs position.file ≡ Some file = slice_get_read inputs (length inputs) position.file file refl at.0 c.index.ensures in
    let within : position.place ≤ length file.1 = (at.1 file here).1 in
    let n = c.copy_from-n.result in
    record {
      some = omega arith;
      within = omega arith;
      bytes = gives inputs held position file is at here n c.args.buf.now c.copy_from-n.new.buf
          (omega (arith, ap length c.as_slice-content.ensures))
          (c.copy_from-n.ensures.copied ∙ ap (λ content. take n (drop position.place content) ++ drop n c.args.buf.now) c.as_slice-content.ensures);
      goes_on = λ p. record (with_counts (outside_of c.args.self.now) (c.clear_fault.ensures p)) { reading = reading_on inputs held position file is at here n p };
    }

pub returns-clause-fills : goal.returns-clause-fills
returns-clause-fills c =
    let inputs = c.args.self.now.inputs.items in
    let held = c.args.self.now.position in
    let position = c.in-Some.position in
    let file = c.index.result.now in
    let is : held ≡ Some position = c.in-Some.is in
    let at : IsAt inputs position = c.args.self.now.found position is in
    let here : slice_get inputs position.file ≡ Some file = slice_get_read inputs (length inputs) position.file file refl at.0 c.index.ensures in
    fills inputs held position file is at here c.copy_from-n.result c.args.buf.now
    (c.copy_from-n.ensures.count ∙ ap (λ content. min (length content - position.place) (length c.args.buf.now)) c.as_slice-content.ensures)
