-- Items that stand one behind another in a text.
use Rattle.std.proofs.Common.{◌≡◌, ◌≢◌, ℕ, zero, suc, ◌+◌, ◌-◌, ◌<◌, ◌≤◌, ◌==◌, if◌then◌else◌, List, [], ◌∷◌, ◌++◌, length, take, drop, slice_index, Option, Some, None, refl, sym, ap, ◌∙◌, arith, eq-eqb, length-drop}
use Rattle.std.specs.Option.{option_map, option_map_or}
use Rattle.std.proofs.lemmas.Bool.{ne_eqb}
use Rattle.std.proofs.lemmas.List.{take_all}
use Rattle.zk_tree.specs.declared.token.TokenKind.TheVariants as token
use Rattle.zk_token.specs.Items.{in_front, items_from, found_at, StandBetween}
use Rattle.zk_token.specs.Strings.{spelled_at, string_at}

-- one more item stands behind them
pub stand_more : {X : Type 0} (read : ℕ → Option (X × ℕ)) (from : ℕ) (items : List X) (to : ℕ) (item : X) (next : ℕ)
    → StandBetween read from items to → read to ≡ Some (item, next) → StandBetween read from (items ++ item ∷ []) next
stand_more read from [] to item next stand here = (next, ap read stand ∙ here, refl)
stand_more read from (i ∷ items) to item next stand here =
    (stand.0, stand.1, stand_more read stand.0 items to item next stand.2 here)

-- where none follows, they are all that stand there
pub items_from-stand : {X : Type 0} (n : ℕ) (read : ℕ → Option (X × ℕ)) (from : ℕ) (items : List X) (to : ℕ)
    → StandBetween read from items to → read to ≡ None → length items ≤ n → items_from n read from ≡ (items, to)
items_from-stand zero read from [] to stand no_more enough = ap (λ place. ([], place)) stand
items_from-stand (suc n) read from [] to stand no_more enough = rw (ap read stand ∙ no_more) (ap (λ place. ([], place)) stand)
items_from-stand zero read from (i ∷ items) to stand no_more enough = absurd (omega arith)
items_from-stand (suc n) read from (i ∷ items) to stand no_more enough =
    rw stand.1 (ap (in_front i) (items_from-stand n read stand.0 items to stand.2 no_more (omega arith)))

-- they stand between the places
pub items_from-stands : {X : Type 0} (n : ℕ) (read : ℕ → Option (X × ℕ)) (from : ℕ) → StandBetween read from (items_from n read from).0 (items_from n read from).1
items_from-stands zero read from = refl
items_from-stands {X} (suc n) read from =
    elim (read from) as (λ (o : Option (X × ℕ)). read from ≡ o
    → StandBetween read from (option_map_or (λ item. in_front item.0 (items_from n read item.1)) o ([], from)).0
    (option_map_or (λ item. in_front item.0 (items_from n read item.1)) o ([], from)).1) [
      | None ↦ λ none. refl
      | Some item ↦ λ here. (item.1, here, items_from-stands n read item.1)
    ] refl

-- Where each item ends behind its place, and none past a bound, none is left behind as many as the bound.
pub items_from-none : {X : Type 0} (read : ℕ → Option (X × ℕ)) (bound : ℕ) → ((place : ℕ) (item : X) (next : ℕ) → read place ≡ Some (item, next) → (place < next) × (next ≤ bound))
    → (n from : ℕ) → bound ≤ from + n → read (items_from n read from).1 ≡ None
items_from-none {X} read bound advances zero from enough =
    elim (read from) as (λ (o : Option (X × ℕ)). read from ≡ o → read from ≡ None) [
      | None ↦ λ here. here
      | Some item ↦ λ here. let step = advances from item.0 item.1 here in absurd (omega (arith, step.0, step.1, enough))
    ] refl
items_from-none {X} read bound advances (suc n) from enough =
    elim (read from) as (λ (o : Option (X × ℕ)). read from ≡ o
    → read (option_map_or (λ item. in_front item.0 (items_from n read item.1)) o ([], from)).1 ≡ None) [
      | None ↦ λ here. here
      | Some item ↦ λ here.
          let step = advances from item.0 item.1 here in
          items_from-none read bound advances n item.1 (omega (arith, step.0, enough))
    ] refl

-- what stands from a place on, up to the end
pub rest_whole : (place : ℕ) (text : List ℕ) → take (length text - place) (drop place text) ≡ drop place text
rest_whole place text = take_all (length text - place) (drop place text) (omega (arith, length-drop place text))

-- what a reader finds at the front of the rest of a text, it finds there
pub found_at-some : {X : Type 0} (reader : List ℕ → Option (X × ℕ)) (text : List ℕ) (place : ℕ) (item : X) (len : ℕ)
    → Some (item, len) ≡ reader (take (length text - place) (drop place text)) → found_at reader text place ≡ Some (item, place + len)
found_at-some reader text place item len here =
    ap (option_map (λ found. (found.0, place + found.1))) (ap reader (sym (rest_whole place text)) ∙ sym here)

-- the string of the bytes that stand there, if a quote follows
string_at-stand : (text bytes : List ℕ) (to : ℕ) → StandBetween (found_at spelled_at text) 0 bytes to → found_at spelled_at text to ≡ None
    → length bytes ≤ length text → string_at text ≡ (if slice_index text to == 34 then Some (token.String bytes, 2 + to) else None)
string_at-stand text bytes to stand no_more enough =
    ap (λ (found : List ℕ × ℕ). if slice_index text found.1 == 34 then Some (token.String found.0, 2 + found.1) else None)
    (items_from-stand (length text) (found_at spelled_at text) 0 bytes to stand no_more enough)

-- a quote closes the string
pub string_closed : (text bytes : List ℕ) (to : ℕ) → StandBetween (found_at spelled_at text) 0 bytes to → found_at spelled_at text to ≡ None
    → length bytes ≤ length text → slice_index text to ≡ 34 → Some (token.String bytes, 2 + to) ≡ string_at text
string_closed text bytes to stand no_more enough quote =
    sym (string_at-stand text bytes to stand no_more enough ∙ rw (eq-eqb (slice_index text to) 34 quote) refl)

-- any other byte leaves it open
pub string_open : (text bytes : List ℕ) (to : ℕ) → StandBetween (found_at spelled_at text) 0 bytes to → found_at spelled_at text to ≡ None
    → length bytes ≤ length text → slice_index text to ≢ 34 → None ≡ string_at text
string_open text bytes to stand no_more enough other =
    sym (string_at-stand text bytes to stand no_more enough ∙ rw (ne_eqb (slice_index text to) 34 other) refl)

-- where nothing is found at a place, the reader finds nothing there
pub found_none : {X : Type 0} (reader : List ℕ → Option (X × ℕ)) (text : List ℕ) (place : ℕ) → found_at reader text place ≡ None → reader (drop place text) ≡ None
found_none {X} reader text place none =
    elim (reader (drop place text)) as (λ (o : Option (X × ℕ)). option_map {T = X × ℕ} {U = X × ℕ} (λ f. (f.0, place + f.1)) o ≡ None → o ≡ None) [
      | None ↦ λ is. refl
      | Some found ↦ λ is. absurd (let never : ⊥ = cc in never)
    ] none
