-- Bytes that are written behind those that are held, and what a read of them brings.
use Rattle.std.proofs.Common.{◌≡◌, ℕ, ◌+◌, ◌-◌, ◌≤◌, List, ◌++◌, length, take, drop, refl, sym, ap, ◌∙◌, arith, length-append, length-drop}
use Rattle.std.proofs.Math.Seq.{take-append-add}
use Rattle.std.proofs.lemmas.List.{take-append-le, drop-append-le, length-take-le, with_items_is}
use Rattle.std.specs.Global.{Vec}
use Rattle.std.specs.Vec.{with_items}
use Rattle.zk_base.specs.declared.shelf.Got.{Got}
use Rattle.zk_base.specs.declared.shelf.Got.TheVariants as got
use Rattle.zk_base.specs.Shelf.{Outside}
use Rattle.zk_base.specs.Fetching.{Fetches, count_of}

-- the first bytes of what is written behind the first ones of a room
first_written : (room written behind : List ℕ) (taken end n : ℕ) → taken ≤ end → end ≤ length room → n ≤ length written
    → drop taken (take (end + n) (take end room ++ (written ++ behind))) ≡ drop taken (take end room) ++ take n written
first_written room written behind taken end n order within few =
    let long : length (take end room) ≡ end = length-take-le end room within in
    let ordered : taken ≤ length (take end room) = omega arith in
    ap (λ k. drop taken (take (k + n) (take end room ++ (written ++ behind)))) (sym long)
    ∙ ap (drop taken) (take-append-add (take end room) (written ++ behind) n)
    ∙ ap (λ piece. drop taken (take end room ++ piece)) (take-append-le n written behind few)
    ∙ drop-append-le taken (take end room) (take n written) ordered

-- so many bytes of a room are written anew behind those that are held, and some first ones of them are held from then on
pub written_behind : (bytes : Vec ℕ) (room written held : List ℕ) (taken end most to n : ℕ) → room ≡ bytes.items → drop taken (take end bytes.items) ≡ held
    → taken ≤ end → end + most ≤ length room → length written ≡ most → to ≡ end + n → n ≤ most
    → drop taken (take to (with_items bytes (take end room ++ (written ++ drop (end + most - end) (drop end room)))).items) ≡ held ++ take n written
written_behind bytes room written held taken end most to n is was order within long at few =
    let behind = drop (end + most - end) (drop end room) in
    let first : end ≤ length room = omega arith in
    let whole : length (take end room ++ (written ++ behind)) ≡ bytes.len =
    omega (
      arith,
      ap length is,
      bytes.ok.0,
      length-append (take end room) (written ++ behind),
      length-append written behind,
      length-take-le end room first,
      length-drop (end + most - end) (drop end room),
      length-drop end room,
    ) in
    ap (λ items. drop taken (take to items)) (with_items_is bytes (take end room ++ (written ++ behind)) whole)
    ∙ ap (λ n. drop taken (take n (take end room ++ (written ++ behind)))) at
    ∙ first_written room written behind taken end n order first (omega arith)
    ∙ ap (λ items. drop taken (take end items) ++ take n written) is
    ∙ ap (λ held. held ++ take n written) was

-- an answer that isn't bytes gives none
pub gives_none : (given : Got) → ((n : ℕ) → given ≡ got.Bytes n → ⊥) → count_of given ≡ 0
gives_none (got.Bytes n) not = absurd (not n refl)
gives_none got.End not = refl
gives_none got.Failed not = refl

-- a read brings what holds, and what follows from it
pub fetches_also : (old new : Outside) (most : ℕ) (given : Got) (holds also : List ℕ → Type 0) → ((piece : List ℕ) → holds piece → also piece)
    → Fetches old most given new holds → Fetches old most given new also
fetches_also old new most given holds also then read = record {
  before = read.before;
  after = read.after;
  long = read.long;
  long_after = read.long_after;
  reads = read.reads;
  brings = then (take (count_of given) read.after) read.brings;
}
