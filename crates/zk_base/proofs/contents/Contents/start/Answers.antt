use Rattle.std.proofs.Common.{◌≡◌, [], Some, None, IsSome, IsNone, sym, ap, ◌∙◌, subst, refl}
use Rattle.zk_base.specs.declared.counts.Counts.{Counts}
use Rattle.zk_base.specs.Contents.{outside_of}
use Rattle.zk_base.specs.Counts.{with_absence, without_fault}
use Rattle.zk_base.specs.Files.{number_of, IsAt}
use Rattle.zk_base.specs.Shelf.{Closed, HasRisen}
use Rattle.zk_base.proofs.CountLemmas.{with_counts}
use Rattle.zk_base.proofs.FileLemmas.{is_new, first_at, is_at_first, reading_first}
use Rattle.zk_base.proofs.contents.Contents.start.Goals as goal

pub invariant_of-self-in-Some : goal.invariant_of-self-in-Some
invariant_of-self-in-Some c = record {
  found = λ position is.
      let at : number_of c.args.self.now.inputs.items c.args.name.now ≡ Some c.in-Some.file = cc in
      let here : record { file = c.in-Some.file; place = 0 } ≡ position = cc in
      subst (λ p. IsAt c.args.self.now.inputs.items p) here (is_at_first c.args.self.now.inputs.items c.args.name.now c.in-Some.file at);
}

pub returns-in-Some-clause-leaves : goal.returns-in-Some-clause-leaves
returns-in-Some-clause-leaves c =
    let inputs = c.args.self.now.inputs.items in
    let at : number_of inputs c.args.name.now ≡ Some c.in-Some.file = cc in
    record {
      after = λ p. record (with_counts (outside_of c.args.self.now) (c.clear_fault.ensures p)) {
        started = Some (c.in-Ok.ensures.ok p);
        reading = reading_first inputs c.args.name.now c.in-Some.file at p;
      };
      holds = subst (λ found. IsSome found) (sym ((first_at inputs c.args.name.now c.in-Some.file at).holds ([], []))) refl;
    }

pub returns-in-None-clause-leaves : goal.returns-in-None-clause-leaves
returns-in-None-clause-leaves c =
    let inputs = c.args.self.now.inputs.items in
    let at : number_of inputs c.args.name.now ≡ None = cc in
    let counted : c.add_absence.new.self ≡ with_absence (without_fault c.args.self.now.counts) = c.add_absence.ensures.counted ∙ ap with_absence c.clear_fault.ensures in
    record {
      count = c.add_absence.new.self.absences;
      risen = subst (λ n. HasRisen n c.add_absence.new.self.absences) (ap (λ (counts : Counts). counts.absences) c.clear_fault.ensures) c.add_absence.ensures.risen;
      after = λ p. record (with_counts (outside_of c.args.self.now) (counted p)) {
        started = Some (c.in-Ok.ensures.ok p);
        reading = Closed;
        absences = c.add_absence.new.self.absences;
      };
      lacks = subst (λ found. IsNone found) (sym (is_new inputs c.args.name.now 0 at).none) refl;
    }
