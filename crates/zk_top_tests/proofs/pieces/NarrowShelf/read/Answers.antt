use Rattle.std.proofs.Common.{◌≡◌, ◌≤◌, ℕ, List, ◌++◌, length, take, drop, Option, Some, None, IfSome, sym, ap, ◌∙◌, arith, append_assoc}
use Rattle.std.proofs.lemmas.List.{length-take, take-append-drop, drop-append-le}
use Rattle.zk_base.specs.declared.shelf.Got.{Got}
use Rattle.zk_base.specs.declared.shelf.Got.TheVariants as got
use Rattle.zk_base.specs.Shelf.{Outside, Reads, rest_of}
use Rattle.zk_base.specs.SureShelf.{sure_outside}
use Rattle.zk_top_tests.proofs.pieces.NarrowShelf.read.Goals as goal

-- what a read puts into the front of a buffer, it puts into the buffer
widened : (rest : Option (List ℕ)) (before part : List ℕ) (room n : ℕ) → n ≤ length (take room before)
    → IfSome rest (λ xs. (n ≤ length xs) × (part ≡ take n xs ++ drop n (take room before)))
    → IfSome rest (λ xs. (n ≤ length xs) × (part ++ drop room before ≡ take n xs ++ drop n before))
widened None before part room n within given = given
widened (Some xs) before part room n within given =
    let behind = sym (drop-append-le n (take room before) (drop room before) within) ∙ ap (drop n) (take-append-drop room before) in
    (given.0, ap (λ ys. ys ++ drop room before) given.1 ∙ append_assoc (take n xs) (drop n (take room before)) (drop room before) ∙ ap (λ ys. take n xs ++ ys) behind)

reads : (old : Outside) (before part : List ℕ) (room : ℕ) (result : Got) (new : Outside)
    → Reads old (take room before) result part new → Reads old before result (part ++ drop room before) new
reads old before part room (got.Bytes n) new gives = record {
  some = gives.some;
  within = omega (arith, gives.within, length-take room before);
  bytes = widened (rest_of old) before part room n gives.within gives.bytes;
  goes_on = gives.goes_on;
}
reads old before part room got.End new out = out
reads old before part room got.Failed new failed = failed

pub returns : goal.returns
returns c = record {
  leaves = reads (sure_outside c.args.self.now.shelf) c.args.buf.now c.read.new.buf c.min-room.result c.read.result (sure_outside c.read.new.self) c.read.ensures.leaves;
}
