-- A name that stands in the front of a message is the same whatever stands behind that front.
use Rattle.std.proofs.Common.{◌≡◌, ℕ, ◌+◌, ◌%◌, ◌^◌, ◌≤◌, List, [], ◌∷◌, ◌++◌, length, take, drop, ap, sym, ◌∙◌, arith, length-append, length-drop}
use Rattle.std.proofs.lemmas.List.{drop-append-le, take-append-le}
use Rattle.std.proofs.Math.ListN.{get_or-append}
use Rattle.zk_dns.specs.Name.{AreLabels, AreRuns, IsName, byte_at, label_at, target_at}
use Rattle.zk_dns.proofs.NameLaws.{labels-on}
use Rattle.zk_dns.proofs.ContentLemmas.{runs-wider}
use Rattle.zk_dns.proofs.StreamLaws.{number-stays}

-- a label that lies in the front stays
label-stays : (front more : List ℕ) (place : ℕ) → place + 1 + byte_at front place ≤ length front
    → (byte_at (front ++ more) place ≡ byte_at front place) × (label_at (front ++ more) place ≡ label_at front place)
label-stays front more place inside =
    let byte : byte_at (front ++ more) place ≡ byte_at front place = get_or-append front more 0 place (omega (arith, inside)) in (
      byte,
      ap (λ (n : ℕ). take n (drop (place + 1) (front ++ more))) byte
          ∙ ap (take (byte_at front place)) (drop-append-le (place + 1) front more (omega (arith, inside)))
          ∙ take-append-le (byte_at front place) (drop (place + 1) front) more (omega (arith, inside, length-drop (place + 1) front)),
    )

-- labels that lie in the front stay
labels-stay : (front more : List ℕ) (from : ℕ) (labels : List (List ℕ)) (to : ℕ) → to ≤ length front → AreLabels front from labels to
    → AreLabels (front ++ more) from labels to
labels-stay front more from [] to inside stand = stand
labels-stay front more from (label ∷ labels) to inside stand =
    let on : from + 1 + length label ≤ to = labels-on front labels (from + 1 + length label) to stand.3 in
    let stays = label-stays front more from (omega (arith, on, stand.1, inside)) in
    (stand.0, stays.0 ∙ stand.1, stays.1 ∙ stand.2, labels-stay front more (from + 1 + length label) labels to inside stand.3)

-- a pointer in the front leads to the same place
target-stays : (front more : List ℕ) (place : ℕ) → place + 2 ≤ length front → target_at (front ++ more) place ≡ target_at front place
target-stays front more place inside = ap (λ (n : ℕ). n % 2 ^ 14) (number-stays front more place inside)

-- runs that end in the front end in the whole
runs-longer : (front more : List ℕ) (place next : ℕ) (runs : List (List (List ℕ))) → AreRuns (front ++ more) (length front) place runs next
    → AreRuns (front ++ more) (length (front ++ more)) place runs next
runs-longer front more place next runs stand =
    runs-wider (front ++ more) (length front) (length (front ++ more)) place next runs (omega (arith, length-append front more)) stand

-- the runs of a name stay
runs-stay : (front more : List ℕ) (end place next : ℕ) (runs : List (List (List ℕ))) → end ≤ length front → AreRuns front end place runs next
    → AreRuns (front ++ more) end place runs next
runs-stay front more end place next [] inside stand = stand
runs-stay front more end place next (labels ∷ []) inside stand = record {
  ending = stand.ending;
  stand = labels-stay front more place labels stand.ending (omega (arith, stand.behind, stand.within, inside)) stand.stand;
  root = get_or-append front more 0 stand.ending (omega (arith, stand.behind, stand.within, inside)) ∙ stand.root;
  behind = stand.behind;
  within = stand.within;
}
runs-stay front more end place next (labels ∷ others ∷ runs) inside (target, behind, pointed, stand) =
    let byte = get_or-append front more 0 pointed.ending (omega (arith, pointed.behind, pointed.within, inside)) in
    let leads : target_at (front ++ more) pointed.ending ≡ target_at front pointed.ending
    = target-stays front more pointed.ending (omega (arith, pointed.behind, pointed.within, inside)) in (
      target,
      behind,
      record {
        ending = pointed.ending;
        stand = labels-stay front more place labels pointed.ending (omega (arith, pointed.behind, pointed.within, inside)) pointed.stand;
        pointer = omega (arith, byte, pointed.pointer);
        leads = pointed.leads ∙ sym leads;
        back = pointed.back;
        behind = pointed.behind;
        within = pointed.within;
      },
      runs-longer front more target behind (others ∷ runs) (runs-stay front more (length front) target behind (others ∷ runs) (omega arith) stand),
    )

pub name-stays : (front more : List ℕ) (end place : ℕ) (labels : List (List ℕ)) (next : ℕ) → end ≤ length front
    → IsName front end place labels next → IsName (front ++ more) end place labels next
name-stays front more end place labels next inside (runs, stand, labels_are, small) =
    (runs, runs-stay front more end place next runs inside stand, labels_are, small)
