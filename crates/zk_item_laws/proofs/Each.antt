-- What holds of each item that a segment brings.
use Rattle.std.proofs.Common.{◌≡◌, ℕ, Bool, true, false, List, [], ◌∷◌, ◌++◌, map, refl}
use Rattle.std.specs.List.{flat_map}
use Rattle.std.specs.Prelude.{◌==◌, is_none}
use Rattle.zk_base.specs.declared.network.Side.{Side}
use Rattle.zk_base.specs.declared.time.Moment.{Moment}
use Rattle.zk_base.specs.Sides.{other}
use Rattle.zk_conn.specs.declared.facts.Facts.{Facts}
use Rattle.zk_traffic.specs.declared.item.Item.{Item}
use Rattle.zk_traffic.specs.declared.item.What.TheVariants as what
use Rattle.zk_traffic.specs.Conversation.{Conversation, gives_up, resets, sender_in}
use Rattle.zk_traffic.specs.Items.{ends, establishes, gaps, item, items_with, numbered, unit_item, units_with, when}
use Rattle.zk_traffic.specs.Places.{Gap}
use Rattle.zk_traffic.specs.Segments.{Segment}
use Rattle.zk_units.specs.declared.stream_unit.StreamUnit.{StreamUnit}
use Rattle.zk_units.specs.declared.stream_unit.StreamUnit.TheVariants as says
use Rattle.zk_item_laws.specs.Own.{is_about, is_removal, conn_of}

abbrev pub Each : {A : Type 0} → (A → Type 0) → List A → Type 0
Each P [] = Unit {0}
Each P (a ∷ rest) = P a × Each P rest

each-both : {A : Type 0} (P : A → Type 0) (l m : List A) → Each P l → Each P m → Each P (l ++ m)
each-both P [] m first second = second
each-both P (a ∷ l) m first second = (first.0, each-both P l m first.1 second)

pub each-map : {A B : Type 0} (P : B → Type 0) (f : A → B) (l : List A) → ((a : A) → P (f a)) → Each P (map f l)
each-map P f [] each = tt
each-map P f (a ∷ l) each = (each a, each-map P f l each)

pub each-when : (P : Item → Type 0) (b : Bool) (i : Item) → P i → Each P (when b i)
each-when P true i is = (is, tt)
each-when P false i is = tt

pub each-less : {A : Type 0} (P Q : A → Type 0) (l : List A) → ((a : A) → P a → Q a) → Each P l → Each Q l
each-less P Q [] less each = tt
each-less P Q (a ∷ l) less each = (less a each.0, each-less P Q l less each.1)

-- an item of the connection of this number, at this moment: no packet, and no removal
pub record IsOf (t : Moment) (number : ℕ) (i : Item) : Type 0 where
  pub at : i.moment ≡ t
  pub of : (n : ℕ) → is_about n i.what ≡ (number == n)
  pub stays : is_removal i.what ≡ false
  pub happens : is_none (conn_of i.what) ≡ false

unit-of : (t : Moment) (number : ℕ) (known : Facts) (side : Side) (found : StreamUnit) → IsOf t number (unit_item t (numbered number) known (record { side = side; «unit» = found }))
unit-of t number known side (says.Http one) = record { at = refl; of = λ n. refl; stays = refl; happens = refl }
unit-of t number known side (says.Dns len message) = record { at = refl; of = λ n. refl; stays = refl; happens = refl }
unit-of t number known side (says.DnsBad fault len) = record { at = refl; of = λ n. refl; stays = refl; happens = refl }

-- all that a segment brings is of its connection, at its moment
pub items_with-each : (limit number : ℕ) (opens : Bool) (c : Conversation) (s : Segment) (known : Facts) → Each (IsOf s.moment number) (items_with limit number opens c s known)
items_with-each limit number opens c s known =
    let t = s.moment in
    let mine = sender_in c s in
    let its = other (sender_in c s) in
    let conn = numbered number in
    let P : Item → Type 0 = IsOf t number in
    each-both P _ _ (each-both P _ _ (each-both P _ _ (each-both P _ _ (each-both P _ _ (each-both P _ _ (each-both P _ _ (each-both P _ _
    (each-when P opens (item t (what.Opened conn known)) (record { at = refl; of = λ n. refl; stays = refl; happens = refl }))
    (each-when P (establishes c s) (item t (what.Established conn known)) (record { at = refl; of = λ n. refl; stays = refl; happens = refl })))
    (each-map P (λ (g : Gap). item t (what.Gap conn known mine g.from g.length)) (gaps limit c s mine) (λ g. record { at = refl; of = λ n. refl; stays = refl; happens = refl })))
    (each-map P (λ (g : Gap). item t (what.Gap conn known its g.from g.length)) (gaps limit c s its) (λ g. record { at = refl; of = λ n. refl; stays = refl; happens = refl })))
    (each-map P (unit_item t conn known) (units_with limit c s) (λ f. unit-of t number known f.side f.«unit»)))
    (each-when P (ends limit c s mine) (item t (what.Ended conn known mine)) (record { at = refl; of = λ n. refl; stays = refl; happens = refl })))
    (each-when P (ends limit c s its) (item t (what.Ended conn known its)) (record { at = refl; of = λ n. refl; stays = refl; happens = refl })))
    (each-when P (gives_up limit c s) (item t (what.GaveUp conn known mine)) (record { at = refl; of = λ n. refl; stays = refl; happens = refl })))
    (each-when P (resets c s) (item t (what.Reset conn known)) (record { at = refl; of = λ n. refl; stays = refl; happens = refl }))

pub each-flat : {A : Type 0} (P : Item → Type 0) (f : A → List Item) (l : List A) → ((a : A) → Each P (f a)) → Each P (flat_map f l)
each-flat P f [] each = tt
each-flat P f (a ∷ l) each = each-both P (f a) (flat_map f l) (each a) (each-flat P f l each)
