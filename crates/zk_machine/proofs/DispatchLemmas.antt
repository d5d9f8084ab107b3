-- Handlers that run one after another.
use Rattle.std.proofs.Common.{◌≡◌, ℕ, zero, suc, ◌+◌, ◌<◌, List, [], ◌∷◌, ◌++◌, length, map, take, fold, get_or, Some, slice_get, refl, sym, ap, ◌∙◌, arith}
use Rattle.std.proofs.lemmas.List.{length-map}
use Rattle.std.proofs.lemmas.List.Sums.{fold-append}
use Rattle.zk_base.specs.declared.numbers.HandlerNo.{HandlerNo}
use Rattle.zk_tree.specs.Value.{Value}
use Rattle.zk_typed.specs.Dispatch.{handler_body, world_after}
use Rattle.zk_typed.specs.Program.{Program, Handler}
use Rattle.zk_typed.specs.State.{World}

-- as many numbers
pub same_count : (list other : List HandlerNo) (numbers : List ℕ) → map (λ one. one.0) list ≡ numbers → map (λ one. one.0) other ≡ numbers → length list ≡ length other
same_count list other numbers is are = sym (length-map list (λ one. one.0)) ∙ (ap length (is ∙ sym are) ∙ length-map other (λ one. one.0))

-- the handler of a number in its place among those of an event
pub record Next (handlers : List Handler) (all : List Handler) (i : ℕ) (number : HandlerNo) : Type 0 where
  pub of : Handler
  pub there : slice_get handlers number.0 ≡ Some of
  pub more : take (i + 1) all ≡ take i all ++ of ∷ []

pub next_handler : (handlers : List Handler) (list : List HandlerNo) (all : List Handler) (i : ℕ) (number : HandlerNo)
    → map (λ one. slice_get handlers one.0) list ≡ map Some all → i < length list → number ≡ get_or list i number → Next handlers all i number
next_handler handlers [] all i number are within is = absurd (omega (arith, within))
next_handler handlers (one ∷ list) [] i number are within is = cc
next_handler handlers (one ∷ list) (of ∷ all) zero number are within is =
    let found : slice_get handlers one.0 ≡ Some of = cc in
    record { of = of; there = ap (λ (n : HandlerNo). slice_get handlers n.0) is ∙ found; more = refl }
next_handler handlers (one ∷ list) (of ∷ all) (suc i) number are within is =
    let rest : map (λ one. slice_get handlers one.0) list ≡ map Some all = cc in
    let next = next_handler handlers list all i number rest (omega (arith, within)) is in
    record {
      of = next.of;
      there = next.there;
      more = let e : suc i + 1 ≡ suc (i + 1) = omega arith in ap (λ n. take n (of ∷ all)) e ∙ ap (λ others. of ∷ others) next.more;
    }

-- as many handlers
pub handlers_count : (handlers : List Handler) (list : List HandlerNo) (all : List Handler) → map (λ one. slice_get handlers one.0) list ≡ map Some all → length all ≡ length list
handlers_count handlers list all are = sym (length-map all Some) ∙ (ap length (sym are) ∙ length-map list (λ one. slice_get handlers one.0))

module _ (program : Program) (args : List Value) (budget : ℕ) where
  abbrev pub runs : World → Handler → World
  runs before one = world_after program (handler_body program one args before budget)

  -- one handler more
  pub runs-more : (world : World) (all : List Handler) (i : ℕ) (of : Handler) → take (i + 1) all ≡ take i all ++ of ∷ [] → fold runs world (take (i + 1) all) ≡ runs (fold runs world (take i all)) of
  runs-more world all i of more = ap (fold runs world) more ∙ fold-append runs world (take i all) (of ∷ [])
