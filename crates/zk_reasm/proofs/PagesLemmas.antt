-- Bytes in pages: a place by its page, and what a change of one page does.
use Rattle.std.proofs.Common.{◌≡◌, ◌≢◌, ℕ, ◌+◌, ◌-◌, ◌*◌, ◌/◌, ◌%◌, ◌<◌, ◌≤◌, max, false, List, length, Option, Some, None, IsSome, sym, ap, ◌∙◌, ⊎_elim, arith}
use Rattle.std.specs.BTreeMap as tree
use Rattle.std.specs.Ordering.{nat_cmp, is_eq}
use Rattle.std.specs.List.{slice_get}
use Rattle.std.specs.Map.{lookup}
use Rattle.std.specs.Option.{is_some, option_or}
use Rattle.std.proofs.lemmas.Bool.{cases_eq, cases_lt}
use Rattle.std.proofs.lemmas.Grind.{common_steps}
use Rattle.zk_reasm.specs.declared.pages.Pages.{Pages}
use Rattle.zk_reasm.specs.declared.page.Page.{Page}
use Rattle.zk_reasm.specs.declared.page.TheConstants.{PAGE_LEN}
use Rattle.zk_reasm.specs.Pages.{byte_on_any, page_at, page_of, byte_paged}
use Rattle.zk_reasm.specs.Page.{byte_on}
use Rattle.zk_reasm.specs.Piece.{byte_in}
use Rattle.zk_reasm.proofs.PieceLemmas.{option_or_none, byte_in-at, byte_in-before, byte_in-behind}

-- keys that differ are told apart
pub keys_differ : (k q : ℕ) → k ≢ q → is_eq (nat_cmp k q) ≡ false
keys_differ k q other = grind (arith, common_steps)

pub byte_paged-on : (table : Pages) (at : ℕ) (page : Page) → page_of table at ≡ Some page → byte_paged table at ≡ byte_on page (at % PAGE_LEN)
unfolding byte_paged
byte_paged-on table at page is = ap (λ o. byte_on_any o (at % PAGE_LEN)) is

pub byte_paged-off : (table : Pages) (at : ℕ) → page_of table at ≡ None → byte_paged table at ≡ None
unfolding byte_paged
byte_paged-off table at is = ap (λ o. byte_on_any o (at % PAGE_LEN)) is

-- one page is now this one, and the others stay
pub record Writes (old new : Pages) (key : ℕ) (page : Option Page) : Type 0 where
  pub here : tree.get nat_cmp new.pages key ≡ page
  pub others : (q : ℕ) → is_eq (nat_cmp key q) ≡ false → tree.get nat_cmp new.pages q ≡ tree.get nat_cmp old.pages q

pub page_of-here : (old new : Pages) (key : ℕ) (page : Option Page) (at : ℕ) → Writes old new key page → at / PAGE_LEN ≡ key → page_of new at ≡ page
unfolding page_of
page_of-here old new key page at writes same = ap (tree.get nat_cmp new.pages) same ∙ writes.here

pub page_of-other : (old new : Pages) (key : ℕ) (page : Option Page) (at : ℕ) → Writes old new key page → at / PAGE_LEN ≢ key → page_of new at ≡ page_of old at
unfolding page_of
page_of-other old new key page at writes other = writes.others (at / PAGE_LEN) (keys_differ key (at / PAGE_LEN) (λ same. other (sym same)))

-- the bytes of another page stay
pub byte_paged-other : (old new : Pages) (key : ℕ) (page : Option Page) (at : ℕ) → Writes old new key page → at / PAGE_LEN ≢ key → byte_paged new at ≡ byte_paged old at
unfolding byte_paged
byte_paged-other old new key page at writes other = ap (λ o. byte_on_any o (at % PAGE_LEN)) (page_of-other old new key page at writes other)

-- bytes put on a page
pub byte_paged-put : (old new : Pages) (key from : ℕ) (was is : Page) (bytes : List ℕ) → tree.get nat_cmp old.pages key ≡ Some was → Writes old new key (Some is)
    → from + length bytes ≤ PAGE_LEN
    → ((i : ℕ) → byte_on is i ≡ option_or (byte_on was i) (byte_in from bytes i)) → (at : ℕ)
    → byte_paged new at ≡ option_or (byte_paged old at) (byte_in (key * PAGE_LEN + from) bytes at)
unfolding page_of
byte_paged-put old new key from was is bytes old_page writes within put at =
    ⊎_elim
    (λ same. byte_paged-on new at is (page_of-here old new key (Some is) at writes same) ∙ put (at % PAGE_LEN)
    ∙ ap (λ o. option_or o (byte_in from bytes (at % PAGE_LEN))) (sym (byte_paged-on old at was (ap (tree.get nat_cmp old.pages) same ∙ old_page)))
    ∙ ap (option_or (byte_paged old at)) (moved same))
    (λ other. byte_paged-other old new key (Some is) at writes other
    ∙ sym (ap (option_or (byte_paged old at)) (elsewhere other) ∙ option_or_none (byte_paged old at)))
    (cases_eq (at / PAGE_LEN) key)
  where
    moved : at / PAGE_LEN ≡ key → byte_in from bytes (at % PAGE_LEN) ≡ byte_in (key * PAGE_LEN + from) bytes at
    moved same = ⊎_elim
        (λ before. byte_in-before from bytes (at % PAGE_LEN) before ∙ sym (byte_in-before (key * PAGE_LEN + from) bytes at (omega (arith, before, same))))
        (λ low. byte_in-at from bytes (at % PAGE_LEN) low
        ∙ ap (slice_get bytes) (let e : at % PAGE_LEN - from ≡ at - (key * PAGE_LEN + from) = omega (arith, low, same) in e)
        ∙ sym (byte_in-at (key * PAGE_LEN + from) bytes at (omega (arith, low, same))))
        (cases_lt (at % PAGE_LEN) from)

    elsewhere : at / PAGE_LEN ≢ key → byte_in (key * PAGE_LEN + from) bytes at ≡ None
    elsewhere other = ⊎_elim
        (λ before. byte_in-before (key * PAGE_LEN + from) bytes at before)
        (λ low. byte_in-behind (key * PAGE_LEN + from) bytes at (omega (arith, low, other, within)))
        (cases_lt at (key * PAGE_LEN + from))

-- the places of one page
pub byte_paged-page : (table : Pages) (at n : ℕ) (page : Page) → page_of table at ≡ Some page → at % PAGE_LEN + n ≤ PAGE_LEN
    → (k : ℕ) → k < n → byte_paged table (at + k) ≡ byte_on page (at % PAGE_LEN + k)
unfolding page_of
byte_paged-page table at n page is within k low =
    byte_paged-on table (at + k) page (ap (tree.get nat_cmp table.pages) (let e : (at + k) / PAGE_LEN ≡ at / PAGE_LEN = omega (arith, low, within) in e) ∙ is)
    ∙ ap (byte_on page) (let e : (at + k) % PAGE_LEN ≡ at % PAGE_LEN + k = omega (arith, low, within) in e)

-- a page that is there stays
pub page_of-stays : (old new : Pages) (key : ℕ) (page : Page) (at : ℕ) → Writes old new key (Some page) → IsSome (page_of old at) → IsSome (page_of new at)
page_of-stays old new key page at writes there =
    ⊎_elim
    (λ same. ap is_some (page_of-here old new key (Some page) at writes same))
    (λ other. ap is_some (page_of-other old new key (Some page) at writes other) ∙ there)
    (cases_eq (at / PAGE_LEN) key)

-- the page that a place has is in the table
pub page_there : (table : Pages) (at : ℕ) → IsSome (page_of table at) → IsSome (tree.get nat_cmp table.pages (at / PAGE_LEN))
unfolding page_of
page_there table at there = there

pub byte_paged-at : (table : Pages) (key i : ℕ) (page : Page) → page_at table key ≡ Some page → i < PAGE_LEN → byte_paged table (key * PAGE_LEN + i) ≡ byte_on page i
unfolding page_of
byte_paged-at table key i page is low =
    byte_paged-on table (key * PAGE_LEN + i) page (ap (page_at table) (let e : (key * PAGE_LEN + i) / PAGE_LEN ≡ key = omega (arith, low) in e) ∙ is)
    ∙ ap (byte_on page) (let e : (key * PAGE_LEN + i) % PAGE_LEN ≡ i = omega (arith, low) in e)

-- no byte on the pages up to one, nor on that one up to a place
pub none_before : (table : Pages) (from key start n : ℕ) (page : Page) → start + key * PAGE_LEN ≡ max from (key * PAGE_LEN)
    → page_at table key ≡ Some page → ((q : ℕ) → from / PAGE_LEN ≤ q → q < key → page_at table q ≡ None)
    → ((i : ℕ) → start ≤ i → i < n → byte_on page i ≡ None) → n ≤ PAGE_LEN
    → (at : ℕ) → from ≤ at → at < key * PAGE_LEN + n → byte_paged table at ≡ None
unfolding page_of
none_before table from key start n page starts is none empty short at low high =
    ⊎_elim
    (λ before. byte_paged-off table at (none (at / PAGE_LEN) (omega (arith, low)) before))
    (λ behind.
    let here : at / PAGE_LEN ≡ key = omega (arith, behind, high, short) in
    byte_paged-on table at page (ap (page_at table) here ∙ is) ∙ empty (at % PAGE_LEN) (omega (arith, here, starts, low)) (omega (arith, here, high)))
    (cases_lt (at / PAGE_LEN) key)

-- no byte from a place on, where no page is there
pub none_from_page : (table : Pages) (from : ℕ) → ((q : ℕ) → from / PAGE_LEN ≤ q → page_at table q ≡ None) → (at : ℕ) → from ≤ at → byte_paged table at ≡ None
unfolding page_of
none_from_page table from none at low = byte_paged-off table at (none (at / PAGE_LEN) (omega (arith, low)))

-- the bytes of a table with the same entries
pub byte_paged-same : (old new : Pages) → new.pages.entries ≡ old.pages.entries → (at : ℕ) → byte_paged new at ≡ byte_paged old at
unfolding byte_paged page_of
byte_paged-same old new same at = ap (λ es. byte_on_any (lookup (tree.is_at (nat_cmp (at / PAGE_LEN))) es) (at % PAGE_LEN)) same

-- a page without a byte where there was none
pub byte_paged-made : (old new : Pages) (key : ℕ) (page : Page) → page_at old key ≡ None → ((i : ℕ) → byte_on page i ≡ None) → Writes old new key (Some page)
    → (at : ℕ) → byte_paged new at ≡ byte_paged old at
unfolding page_of
byte_paged-made old new key page none blank writes at =
    ⊎_elim
    (λ same. byte_paged-on new at page (page_of-here old new key (Some page) at writes same)
    ∙ blank (at % PAGE_LEN) ∙ sym (byte_paged-off old at (ap (page_at old) same ∙ none)))
    (byte_paged-other old new key (Some page) at writes)
    (cases_eq (at / PAGE_LEN) key)

-- a page made at a place
pub page_of-made : (old new : Pages) (key : ℕ) (page : Page) (at : ℕ) → Writes old new key (Some page) → at / PAGE_LEN ≡ key → IsSome (page_of new at)
page_of-made old new key page at writes same = ap is_some (page_of-here old new key (Some page) at writes same)

pub page_of-found : (table : Pages) (key at : ℕ) → at / PAGE_LEN ≡ key → IsSome (page_at table key) → IsSome (page_of table at)
unfolding page_of
page_of-found table key at same there = ap (λ k. is_some (page_at table k)) same ∙ there

-- the bytes below a place, once what lies from it on is dropped
pub cut_below : (old mid new : Pages) (from least : ℕ) (was is : Page) → from ≤ least * PAGE_LEN
    → ((key : ℕ) → key < least → page_at mid key ≡ page_at old key) → page_at mid (from / PAGE_LEN) ≡ Some was → Writes mid new (from / PAGE_LEN) (Some is)
    → ((i : ℕ) → i < from % PAGE_LEN → byte_on is i ≡ byte_on was i) → (at : ℕ) → at < from → byte_paged new at ≡ byte_paged old at
unfolding page_of byte_paged
cut_below old mid new from least was is enough below had writes kept at low =
    ⊎_elim
    (λ same. byte_paged-on new at is (page_of-here mid new (from / PAGE_LEN) (Some is) at writes same)
    ∙ kept (at % PAGE_LEN) (omega (arith, same, low))
    ∙ sym (byte_paged-on mid at was (ap (page_at mid) same ∙ had)))
    (byte_paged-other mid new (from / PAGE_LEN) (Some is) at writes)
    (cases_eq (at / PAGE_LEN) (from / PAGE_LEN))
    ∙ ap (λ o. byte_on_any o (at % PAGE_LEN)) (below (at / PAGE_LEN) (omega (arith, low, enough)))

-- and the places from it on
pub cut_above : (mid new : Pages) (from least : ℕ) (is : Page) → least * PAGE_LEN < from + PAGE_LEN
    → ((key : ℕ) → least ≤ key → page_at mid key ≡ None) → Writes mid new (from / PAGE_LEN) (Some is)
    → ((i : ℕ) → from % PAGE_LEN ≤ i → byte_on is i ≡ None) → (at : ℕ) → from ≤ at → byte_paged new at ≡ None
unfolding page_of
cut_above mid new from least is enough above writes none at low =
    ⊎_elim
    (λ same. byte_paged-on new at is (page_of-here mid new (from / PAGE_LEN) (Some is) at writes same) ∙ none (at % PAGE_LEN) (omega (arith, same, low)))
    (λ other. byte_paged-other mid new (from / PAGE_LEN) (Some is) at writes other
    ∙ byte_paged-off mid at (above (at / PAGE_LEN) (omega (arith, other, low, enough))))
    (cases_eq (at / PAGE_LEN) (from / PAGE_LEN))

-- where the page of the place isn't there
pub cut_below_none : (old mid : Pages) (from least : ℕ) → from ≤ least * PAGE_LEN → ((key : ℕ) → key < least → page_at mid key ≡ page_at old key)
    → (at : ℕ) → at < from → byte_paged mid at ≡ byte_paged old at
unfolding page_of byte_paged
cut_below_none old mid from least enough below at low = ap (λ o. byte_on_any o (at % PAGE_LEN)) (below (at / PAGE_LEN) (omega (arith, low, enough)))

pub cut_above_none : (mid : Pages) (from least : ℕ) → least * PAGE_LEN < from + PAGE_LEN → ((key : ℕ) → least ≤ key → page_at mid key ≡ None)
    → page_at mid (from / PAGE_LEN) ≡ None → (at : ℕ) → from ≤ at → byte_paged mid at ≡ None
unfolding page_of
cut_above_none mid from least enough above none at low =
    byte_paged-off mid at (⊎_elim
    (λ same. ap (page_at mid) same ∙ none)
    (λ other. above (at / PAGE_LEN) (omega (arith, other, low, enough)))
    (cases_eq (at / PAGE_LEN) (from / PAGE_LEN)))

-- a page without a byte is dropped
pub byte_paged-dropped : (old new : Pages) (key : ℕ) (page : Page) → page_at old key ≡ Some page → ((i : ℕ) → byte_on page i ≡ None)
    → Writes old new key None → (at : ℕ) → byte_paged new at ≡ byte_paged old at
unfolding page_of
byte_paged-dropped old new key page had none writes at =
    ⊎_elim
    (λ same. byte_paged-off new at (page_of-here old new key None at writes same)
    ∙ sym (byte_paged-on old at page (ap (page_at old) same ∙ had) ∙ none (at % PAGE_LEN)))
    (byte_paged-other old new key None at writes)
    (cases_eq (at / PAGE_LEN) key)

-- bytes moved from a page: the places behind them, on it and on others, stay
pub byte_paged-behind : (old new : Pages) (from end : ℕ) (was is : Page) → page_at old (from / PAGE_LEN) ≡ Some was → Writes old new (from / PAGE_LEN) (Some is)
    → end ≤ PAGE_LEN → ((i : ℕ) → end ≤ i → byte_on is i ≡ byte_on was i)
    → (at : ℕ) → from / PAGE_LEN * PAGE_LEN + end ≤ at → byte_paged new at ≡ byte_paged old at
unfolding page_of
byte_paged-behind old new from end was is had writes short behind at low =
    ⊎_elim
    (λ same. byte_paged-on new at is (page_of-here old new (from / PAGE_LEN) (Some is) at writes same) ∙ behind (at % PAGE_LEN) (omega (arith, same, low))
    ∙ sym (byte_paged-on old at was (ap (page_at old) same ∙ had)))
    (byte_paged-other old new (from / PAGE_LEN) (Some is) at writes)
    (cases_eq (at / PAGE_LEN) (from / PAGE_LEN))
