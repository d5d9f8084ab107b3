-- What a call of a shelf leaves that fails where it is told to is what the trait allows.
use Rattle.std.proofs.Common.{◌≡◌, ℕ, ◌/◌, List, [], length, Bool, true, false, cond, Option, Some, None, is_some, refl, sym, ap, ◌∙◌, subst, arith, if◌then◌else◌}
use Rattle.std.proofs.lemmas.Bool.Decides.{nat_tests}
use Rattle.std.specs.Option.{option_map}
use Rattle.std.specs.Str.{bytes_eq}
use Rattle.zk_base.specs.declared.shelf.Started.{Started}
use Rattle.zk_base.specs.declared.shelf.Started.TheVariants as started
use Rattle.zk_base.specs.declared.shelf.Got.{Got}
use Rattle.zk_base.specs.declared.shelf.Got.TheVariants as got
use Rattle.zk_base.specs.declared.shelf.Wrote.{Wrote}
use Rattle.zk_base.specs.declared.shelf.Wrote.TheVariants as wrote
use Rattle.zk_base.specs.Faults.{one_more, with_emptied, with_write_fault, first_half}
use Rattle.zk_base.specs.Shelf.{Files, Outside, HasRisen, Starts, Reads, Creates, Puts, with_file, without_file}
use Rattle.zk_base.specs.MemShelf.{MemState, Succeeds, Fails, MemStarts, MemReads, MemCreates, MemPuts}
use Rattle.zk_base.proofs.FileLemmas.{same_name}

-- one more is a rise
has_risen : (n : ℕ) → HasRisen n (one_more n)
has_risen n = record { kept = grind (arith, nat_tests); risen = grind (arith, nat_tests) }

-- what a call leaves of the outside
left : (old : MemState) (outside : Outside) (new : MemState) → Succeeds old outside new → new.outside ≡ outside
left old outside new done = ap (λ (s : MemState). s.outside) done.after

left_failed : (old : MemState) (outside : Outside) (new : MemState) → Fails old outside new → new.outside ≡ outside
left_failed old outside new failed = ap (λ (s : MemState). s.outside) failed.after

pub starts : (old : MemState) (name : List ℕ) (result : Started) (new : MemState) → MemStarts old name result new → Starts old.outside name result new.outside
starts old name started.Open new done = done.1
starts old name started.Absent new done = record { count = _; risen = has_risen old.outside.absences; after = left old _ new done.0; lacks = done.1 }
starts old name started.Failed new failed = record { count = _; risen = has_risen old.outside.read_faults; after = left_failed old _ new failed }
starts old name started.NoMemory new same = ap (λ (s : MemState). s.outside) same

pub reads : (old : MemState) (before : List ℕ) (result : Got) (after : List ℕ) (new : MemState)
    → MemReads old before result after new → Reads old.outside before result after new.outside
reads old before (got.Bytes n) after new done = done.1
reads old before got.End after new done = done.1
reads old before got.Failed after new failed = record { count = _; risen = has_risen old.outside.read_faults; after = left_failed old _ new failed }

-- to empty a file that isn't there changes nothing
without_absent : (files : Files) (name : List ℕ) → files name ≡ None → files ≡ without_file files name
without_absent files name absent = λ p other.
    let each : files other ≡ without_file files name other =
    elim (bytes_eq name other) as (λ b. bytes_eq name other ≡ b → files other ≡ cond b None (files other)) [
      | true ↦ λ e. ap files (sym (same_name name other e)) ∙ absent
      | false ↦ λ e. refl
    ] refl in
    each p

emptied_or_absent : (files : Files) (name : List ℕ) → with_emptied files name ≡ (if is_some (files name) then with_file files name [] else without_file files name)
emptied_or_absent files name =
    elim (files name) as (λ found. files name ≡ found → cond (is_some found) (with_file files name []) files ≡ cond (is_some found) (with_file files name []) (without_file files name)) [
      | None ↦ λ absent. without_absent files name absent
      | Some content ↦ λ there. refl
    ] refl

abbrev is_there : Option Files → List ℕ → Bool
is_there None name = false
is_there (Some files) name = is_some (files name)

emptied_where_there : (outputs : Option Files) (name : List ℕ) → option_map (λ files. with_emptied files name) outputs
    ≡ option_map (λ files. if is_there outputs name then with_file files name [] else without_file files name) outputs
emptied_where_there None name = refl
emptied_where_there (Some files) name = ap Some (emptied_or_absent files name)

pub creates : (old : MemState) (name : List ℕ) (result : Wrote) (new : MemState) → MemCreates old name result new → Creates old.outside name result new.outside
creates old name wrote.Done new done = left old _ new done
creates old name wrote.Failed new failed = record {
  there = is_there old.outside.outputs name;
  count = one_more old.outside.write_faults;
  risen = has_risen old.outside.write_faults;
  after = left_failed old _ new failed
      ∙ ap (λ outputs. with_write_fault (record old.outside { outputs = outputs })) (emptied_where_there old.outside.outputs name);
}
creates old name wrote.NoMemory new same = ap (λ (s : MemState). s.outside) same

pub puts : (after : List ℕ → Outside) (old : MemState) (piece : List ℕ) (result : Wrote) (new : MemState)
    → ((part : List ℕ) → (after part).write_faults ≡ old.outside.write_faults)
    → MemPuts after old piece result new → Puts after old.outside piece result new.outside
puts after old piece wrote.Done new same done = left old _ new done
puts after old piece wrote.Failed new same failed = record {
  length = length piece / 2;
  count = one_more (after (first_half piece)).write_faults;
  risen = subst (λ count. HasRisen old.outside.write_faults (one_more count)) (sym (same (first_half piece))) (has_risen old.outside.write_faults);
  left = left_failed old _ new failed;
}
puts after old piece wrote.NoMemory new same unchanged = ap (λ (s : MemState). s.outside) unchanged
