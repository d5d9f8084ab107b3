-- An input that is read so far.
use Rattle.std.proofs.Common.{◌≡◌, ℕ, ◌+◌, ◌≤◌, List, [], ◌++◌, take, drop, length, Option, Some, None, IsTrue, IsSome, IsNone, IfSome, refl, sym, ap, subst, ◌∙◌, rules, append_assoc}
use Rattle.std.specs.Option.{option_map}
use Rattle.std.proofs.lemmas.List.{take-append-drop, length-take-le, drop-drop}
use Rattle.std.proofs.Math.Seq.{take-append_seam}
use Rattle.zk_base.specs.declared.shelf.Fault.TheVariants as fault
use Rattle.zk_base.specs.Shelf.{Files, Outside, Reading, Closed, Untold, At, is_open, bytes_from, rest_of, advanced, opened, GivesBytes, FailsToRead, FindsNone, OpensInput, HasRisen}
use Rattle.zk_outcome.specs.declared.stop.Stop.TheVariants.{ReadFault, NoMemory}
use Rattle.zk_outcome.specs.Input.{IsReadBeyond, IsReadOf}
use Rattle.zk_outcome.specs.Parts.{Does, DoesWithoutFault, DoesPart, SameFaults}
use Rattle.zk_outcome.proofs.Doing.{does_only, prefix_none, does_both_part}

-- the bytes stand before what is left, and nothing has changed but the place in the input and the last fault
pub record IsReadSoFar (first : Outside) (bytes : List ℕ) (now : Outside) : Type 0 where
  pub is_readable : IsTrue (is_open now.reading)
  pub rest : rest_of first ≡ option_map (λ rest. bytes ++ rest) (rest_of now)
  pub same : now ≡ record first { reading = now.reading; last = now.last }

still_open : (reading : Reading) (n : ℕ) → is_open (advanced reading n) ≡ is_open reading
still_open Closed n = refl
still_open Untold n = refl
still_open (At name place) n = refl

drop_on : (found : Option (List ℕ)) (place n : ℕ) → option_map (drop (place + n)) found ≡ option_map (drop n) (option_map (drop place) found)
drop_on None place n = refl
drop_on (Some content) place n = ap Some (sym (drop-drop n place content))

rest_on : (inputs : Option Files) (reading : Reading) (n : ℕ) → bytes_from inputs (advanced reading n) ≡ option_map (drop n) (bytes_from inputs reading)
rest_on None reading n = refl
rest_on (Some files) Closed n = refl
rest_on (Some files) Untold n = refl
rest_on (Some files) (At name place) n = drop_on (files name) place n

prefix_given : (xs before after : List ℕ) (n : ℕ) → n ≤ length xs → after ≡ take n xs ++ drop n before → take n after ≡ take n xs
prefix_given xs before after n within is =
    let size : length (take n xs) ≡ n = length-take-le n xs within in
    ap (take n) is
    ∙ subst (λ m. take m (take n xs ++ drop n before) ≡ take n xs) size (take-append_seam (take n xs) (drop n before))

-- n more bytes
more : (whole rest : Option (List ℕ)) (bytes longer before after : List ℕ) (n : ℕ)
    → whole ≡ option_map (λ xs. bytes ++ xs) rest → IfSome rest (λ xs. (n ≤ length xs) × (after ≡ take n xs ++ drop n before))
    → longer ≡ bytes ++ take n after → whole ≡ option_map (λ xs. longer ++ xs) (option_map (drop n) rest)
more whole None bytes longer before after n is given joined = is
more whole (Some xs) bytes longer before after n is given joined =
    let prefix : take n after ≡ take n xs = prefix_given xs before after n given.0 given.1 in
    is ∙ ap Some
    (ap (λ ys. bytes ++ ys) (sym (take-append-drop n xs))
    ∙ sym (append_assoc bytes (take n xs) (drop n xs))
    ∙ ap (λ ys. (bytes ++ ys) ++ drop n xs) (sym prefix)
    ∙ ap (λ ys. ys ++ drop n xs) (sym joined))

pub read_more : (first now new : Outside) (bytes longer before after : List ℕ) (n : ℕ) → IsReadSoFar first bytes now → GivesBytes now before n after new
    → longer ≡ bytes ++ take n after → IsReadSoFar first longer new
read_more first now new bytes longer before after n far given joined =
    let reading : new.reading ≡ advanced now.reading n = ap (λ (o : Outside). o.reading) given.goes_on in
    let inputs : new.inputs ≡ now.inputs = ap (λ (o : Outside). o.inputs) given.goes_on in
    record {
      is_readable = ap is_open reading ∙ still_open now.reading n ∙ far.is_readable;
      rest = more (rest_of first) (rest_of now) bytes longer before after n far.rest given.bytes joined
          ∙ ap (option_map (λ xs. longer ++ xs)) (sym (ap (λ i. bytes_from i new.reading) inputs ∙ ap (bytes_from now.inputs) reading ∙ rest_on now.inputs now.reading n));
      same = given.goes_on ∙ ap (λ (o : Outside). record o { reading = advanced now.reading n; last = None }) far.same
          ∙ ap (λ (o : Outside). record first { reading = o.reading; last = o.last }) (sym given.goes_on);
    }

-- what a read of a part has done
pub does_read : (first now : Outside) (bytes : List ℕ) → IsReadSoFar first bytes now → Does [] [] [] first now
does_read first now bytes far =
    subst (λ o. Does [] [] [] first o) (sym far.same) (does_only first (record first { reading = now.reading; last = now.last }) refl refl refl refl refl)

pub same_faults_read : (first now : Outside) (bytes : List ℕ) → IsReadSoFar first bytes now → SameFaults first now
same_faults_read first now bytes far = record { read = ap (λ (o : Outside). o.read_faults) far.same; write = ap (λ (o : Outside). o.write_faults) far.same }

-- memory ran out, or the outside failed, behind some bytes
pub stopped_for_memory : (first now : Outside) (bytes : List ℕ) → IsReadSoFar first bytes now → DoesPart [] [] [] first NoMemory now
stopped_for_memory first now bytes far = record {
  names_part = [];
  names_prefix = prefix_none [];
  said_part = [];
  said_prefix = prefix_none [];
  complained_part = [];
  complained_prefix = prefix_none [];
  does = does_read first now bytes far;
  cause = same_faults_read first now bytes far;
  quiet = refl;
}

pub stopped_by_input : (first now new : Outside) (bytes : List ℕ) → IsReadSoFar first bytes now → FailsToRead now new → DoesPart [] [] [] first ReadFault new
stopped_by_input first now new bytes far fails =
    let all : DoesWithoutFault [] [] [] first now = record { does = does_read first now bytes far; faults = same_faults_read first now bytes far } in
    let part : DoesPart [] [] [] now ReadFault new = record {
      names_part = [];
      names_prefix = prefix_none [];
      said_part = [];
      said_prefix = prefix_none [];
      complained_part = [];
      complained_prefix = prefix_none [];
      does = subst (λ o. Does [] [] [] now o) (sym fails.after) (does_only now (record now { read_faults = fails.count; last = Some fault.Read }) refl refl refl refl refl);
      cause = (
        subst (λ n. HasRisen now.read_faults n) (sym (ap (λ (o : Outside). o.read_faults) fails.after)) fails.risen,
        ap (λ (o : Outside). o.write_faults) fails.after,
        ap (λ (o : Outside). o.last) fails.after,
      );
      quiet = refl;
    } in
    does_both_part [] [] [] [] [] first now ReadFault new all part

-- what an input has that is opened at its first byte
opened_rest : (found : Option (List ℕ)) (bytes : List ℕ) (most : ℕ) → IsSome found → IfSome (option_map (drop 0) found) (λ rest. IsReadBeyond most rest bytes) → IsReadOf most found (Some bytes)
opened_rest None bytes most there read = absurd (search rules)
opened_rest (Some whole) bytes most there read = read

opened_input : (inputs : Option Files) (name bytes : List ℕ) (most : ℕ) → IfSome inputs (λ files. IsSome (files name)) → IfSome (bytes_from inputs (opened inputs name)) (λ rest. IsReadBeyond most rest bytes)
    → IfSome inputs (λ files. IsReadOf most (files name) (Some bytes))
opened_input None name bytes most there read = tt
opened_input (Some files) name bytes most there read = opened_rest (files name) bytes most there read

pub read_of_input : (name : List ℕ) (most : ℕ) (old mid : Outside) (bytes : List ℕ) → OpensInput old name mid → IfSome (rest_of mid) (λ rest. IsReadBeyond most rest bytes)
    → IfSome old.inputs (λ files. IsReadOf most (files name) (Some bytes))
read_of_input name most old mid bytes opens read =
    opened_input old.inputs name bytes most opens.holds
    (subst (λ (o : Outside). IfSome (rest_of o) (λ rest. IsReadBeyond most rest bytes)) opens.after read)

-- an input that is not there
absent_input : (found : Option (List ℕ)) (most : ℕ) → IsNone found → IsReadOf most found None
absent_input None most lacks = tt
absent_input (Some whole) most lacks = absurd (search rules)

lacking : (inputs : Option Files) (name : List ℕ) (most : ℕ) → IfSome inputs (λ files. IsNone (files name)) → IfSome inputs (λ files. IsReadOf most (files name) None)
lacking None name most lacks = tt
lacking (Some files) name most lacks = absent_input (files name) most lacks

pub none_of_input : (name : List ℕ) (most : ℕ) (old mid : Outside) → FindsNone old name mid → IfSome old.inputs (λ files. IsReadOf most (files name) None)
none_of_input name most old mid finds = lacking old.inputs name most finds.lacks
