-- A group with one more fragment, and the datagram that an assembly holds.
use Rattle.std.proofs.Common.{◌≡◌, ℕ, ◌+◌, ◌-◌, ◌<◌, ◌≤◌, zero, suc, Bool, true, false, cond, not, ◌&&◌, List, [], ◌∷◌, ◌++◌, map, length, get_or, take, leb, Option, None, Some, is_some, unwrap_or, find, refl, sym, ap, ◌∙◌, arith, ⊎_elim, length-take-le, get_or-take}
use Rattle.std.specs.List.{list_all, range_with_len}
use Rattle.std.specs.Option.{option_or, option_map, option_and_then}
use Rattle.std.proofs.lemmas.Bool.{cases_lt, cases_eq, le-leb, lt-leb, true≢false}
use Rattle.std.proofs.lemmas.Grind.{common_steps}
use Rattle.std.proofs.lemmas.List.Folds.{find-append, list_all-map}
use Rattle.std.proofs.lemmas.List.FromFn.{fill_by_all}
use Rattle.std.proofs.lemmas.Simd.{map-map}
use Rattle.zk_base.specs.declared.time.Moment.{Moment}
use Rattle.zk_frag.specs.declared.assembly.Assembly.{Assembly}
use Rattle.zk_frag.specs.declared.group.Group.{Group}
use Rattle.zk_frag.specs.Assembly.{Holds, with_end, with_payload}
use Rattle.zk_frag.specs.Buffer.{byte_held}
use Rattle.zk_frag.specs.Fragment.{Fragment, byte_of, end}
use Rattle.zk_frag.specs.Group.{byte_at, bytes_below, bytes_to, covered_to, first_moment, holder_of, named_end, tag_of}
use Rattle.zk_frag.specs.Table.{IsGroup}
use Rattle.zk_frag.proofs.PlaceLemmas.{option_or_assoc, option_or_none}

-- One more fragment ------------------------------------------------------------------------------------------------

option_map-or : {A B : Type 0} (f : A → B) (o p : Option A) → option_map f (option_or o p) ≡ option_or (option_map f o) (option_map f p)
option_map-or f None p = refl
option_map-or f (Some x) p = refl

module _ {K T : Type 0} where
  -- the byte that a fragment has at a place
  abbrev byte_in : ℕ → Fragment K T → Option ℕ
  byte_in place fragment = byte_of fragment.place fragment.payload place

  byte_at-cons : (first : Fragment K T) (rest : List (Fragment K T)) (place : ℕ)
      → byte_at (first ∷ rest) place ≡ option_or (byte_in place first) (byte_at rest place)
  byte_at-cons first rest place = by_cases (byte_in place first) refl
    where
      by_cases : (o : Option ℕ) → byte_in place first ≡ o
          → option_and_then (byte_in place) (cond (is_some o) (Some first) (find (λ f. is_some (byte_in place f)) rest)) ≡ option_or o (byte_at rest place)
      by_cases None is = refl
      by_cases (Some byte) is = is

  -- one more fragment has the places that no earlier one has
  pub byte_at-append : (group : List (Fragment K T)) (last : Fragment K T) (place : ℕ)
      → byte_at (group ++ last ∷ []) place ≡ with_payload (byte_at group) last.place last.payload place
  byte_at-append [] last place = byte_at-cons last [] place ∙ option_or_none (byte_in place last)
  byte_at-append (first ∷ rest) last place =
      byte_at-cons first (rest ++ last ∷ []) place
      ∙ ap (option_or (byte_in place first)) (byte_at-append rest last place)
      ∙ sym (option_or_assoc (byte_in place first) (byte_at rest place) (byte_in place last))
      ∙ sym (ap (λ o. option_or o (byte_in place last)) (byte_at-cons first rest place))

  -- one more fragment names the end where no earlier one does
  pub named_end-append : (group : List (Fragment K T)) (last : Fragment K T)
      → named_end (group ++ last ∷ []) ≡ with_end (named_end group) last.place last.more last.payload
  named_end-append group last =
      ap (option_map end) (find-append (λ (f : Fragment K T). not f.more) group (last ∷ []))
      ∙ option_map-or end (find (λ (f : Fragment K T). not f.more) group) (cond (not last.more) (Some last) None)
      ∙ ap (option_or (named_end group)) (of_last (not last.more))
    where
      of_last : (b : Bool) → option_map end (cond b (Some last) None) ≡ cond b (Some (end last)) None
      of_last true = refl
      of_last false = refl

  -- one more fragment gives the tag where it has byte 0 and no earlier one does
  pub tag_of-append : (group : List (Fragment K T)) (last : Fragment K T)
      → tag_of (group ++ last ∷ []) ≡ option_or (tag_of group) (cond (is_some (byte_in 0 last)) (Some last.tag) None)
  tag_of-append group last =
      ap (option_map (λ (f : Fragment K T). f.tag)) (find-append (λ (f : Fragment K T). is_some (byte_in 0 f)) group (last ∷ []))
      ∙ option_map-or (λ (f : Fragment K T). f.tag) (holder_of group 0) (cond (is_some (byte_in 0 last)) (Some last) None)
      ∙ ap (option_or (tag_of group)) (of_last (is_some (byte_in 0 last)))
    where
      of_last : (b : Bool) → option_map (λ (f : Fragment K T). f.tag) (cond b (Some last) None) ≡ cond b (Some last.tag) None
      of_last true = refl
      of_last false = refl

  -- one more fragment comes no earlier
  first_moment-append : (group : List (Fragment K T)) (last : Fragment K T) (since : Moment) → first_moment group ≡ Some since
      → first_moment (group ++ last ∷ []) ≡ Some since
  first_moment-append [] last since is = cc
  first_moment-append (first ∷ rest) last since is = is

-- An assembly ------------------------------------------------------------------------------------------------------

-- where a test holds up to a place and fails there, it holds of all below a number if that is not past the place
all_below : (test : ℕ → Bool) (front : ℕ) → ((i : ℕ) → i < front → test i ≡ true) → test front ≡ false
    → (n from : ℕ) → from ≤ front → list_all test (range_with_len from n) ≡ leb (from + n) front
all_below test front before gap zero from within = sym (le-leb (from + 0) front (omega arith))
all_below test front before gap (suc n) from within =
    ⊎_elim
    (λ at. ap (λ b. b && list_all test (range_with_len (from + 1) n)) (ap test at ∙ gap) ∙ sym (lt-leb (from + suc n) front (omega (arith, at))))
    (λ ne. ap (λ b. b && list_all test (range_with_len (from + 1) n)) (before from (omega (arith, ne)))
    ∙ all_below test front before gap n (from + 1) (omega (arith, ne))
    ∙ ap (λ m. leb m front) (let same : from + 1 + n ≡ from + suc n = omega arith in same))
    (cases_eq from front)

is_some-held : (bytes : List ℕ) (covered : List Bool) (i : ℕ) → is_some (byte_held bytes covered i) ≡ get_or covered i false
is_some-held bytes covered i = by_cases (get_or covered i false)
  where
    by_cases : (b : Bool) → is_some (cond b (Some (get_or bytes i 0)) None) ≡ b
    by_cases true = refl
    by_cases false = refl

-- a datagram is covered where the front has come to its end
pub covered_by_front : (assembly : Assembly) (byte_at : ℕ → Option ℕ) (end : Option ℕ) → Holds assembly byte_at end → (n : ℕ)
    → covered_to byte_at (Some n) ≡ leb n assembly.front
covered_by_front assembly byte_at end holds n =
    list_all-map is_some byte_at (range_with_len 0 n)
    ∙ all_below (λ i. is_some (byte_at i)) assembly.front
    (λ i lt. ap is_some (holds.bytes i) ∙ is_some-held assembly.bytes.items assembly.covered.items i ∙ holds.before i lt)
    (ap is_some (holds.bytes assembly.front) ∙ is_some-held assembly.bytes.items assembly.covered.items assembly.front ∙ holds.gap)
    n 0 (omega arith)
    ∙ ap (λ m. leb m assembly.front) (let same : 0 + n ≡ n = omega arith in same)

-- a covered place stands within the list
covered_within : (covered : List Bool) (i : ℕ) → get_or covered i false ≡ true → i < length covered
covered_within covered i is =
    ⊎_elim (λ lt. lt) (λ ge. absurd (true≢false (sym is ∙ grind (arith, common_steps, ge)))) (cases_lt i (length covered))

-- the front stands within the buffer
front_within : (assembly : Assembly) (byte_at : ℕ → Option ℕ) (end : Option ℕ) → Holds assembly byte_at end → assembly.front ≤ length assembly.bytes.items
front_within assembly byte_at end holds =
    ⊎_elim
    (λ some. let last = covered_within assembly.covered.items (assembly.front - 1) (holds.before (assembly.front - 1) (omega (arith, some))) in
    omega (arith, last, holds.room, some))
    (λ none. omega (arith, none))
    (cases_lt 0 assembly.front)

-- the buffer up to the end is the datagram
pub datagram_held : (assembly : Assembly) (byte_at : ℕ → Option ℕ) (end : Option ℕ) → Holds assembly byte_at end → (n : ℕ) → assembly.end ≡ Some n
    → n ≤ assembly.front → take n assembly.bytes.items ≡ bytes_to byte_at end
datagram_held assembly byte_at end holds n named reached =
    fill_by_all (λ i. unwrap_or (byte_at i) 0) (take n assembly.bytes.items) n 0
    (length-take-le n assembly.bytes.items (omega (arith, reached, front_within assembly byte_at end holds)))
    (λ i lt. get_or-take n assembly.bytes.items i 0 lt ∙ sym (byte_is i (omega (arith, lt, reached))))
    ∙ sym (map-map (λ (o : Option ℕ). unwrap_or o 0) byte_at (range_with_len 0 n))
    ∙ ap (λ m. map (λ (o : Option ℕ). unwrap_or o 0) (bytes_below byte_at m)) (sym (ap (λ e. unwrap_or e 0) (holds.end_is ∙ named)))
  where
    byte_is : (i : ℕ) → i < assembly.front → unwrap_or (byte_at i) 0 ≡ get_or assembly.bytes.items i 0
    byte_is i lt = ap (λ o. unwrap_or o 0) (holds.bytes i)
        ∙ ap (λ b. unwrap_or (cond b (Some (get_or assembly.bytes.items i 0)) None) 0) (holds.before i lt)

-- a buffer that only got longer holds the same bytes
pub held_longer : (bytes longer : List ℕ) (covered marks : List Bool) (i : ℕ) → get_or longer i 0 ≡ get_or bytes i 0
    → get_or marks i false ≡ get_or covered i false → byte_held longer marks i ≡ byte_held bytes covered i
held_longer bytes longer covered marks i same_byte same_mark =
    ap (λ b. cond b (Some (get_or longer i 0)) None) same_mark ∙ ap (λ byte. cond (get_or covered i false) (Some byte) None) same_byte

-- what each step of adding a payload says of the assembly after it
pub record Adds (old new : Assembly) (place : ℕ) (more : Bool) (payload : List ℕ) : Type 0 where
  pub first : (i : ℕ) → byte_held new.bytes.items new.covered.items i
      ≡ option_or (byte_held old.bytes.items old.covered.items i) (byte_of place payload i)
  pub end_is : new.end ≡ with_end old.end place more payload
  pub kept : (i : ℕ) → get_or old.covered.items i false ≡ true → get_or new.covered.items i false ≡ true
  pub before : (i : ℕ) → old.front ≤ i → i < new.front → get_or new.covered.items i false ≡ true
  pub gap : get_or new.covered.items new.front false ≡ false
  pub room : length old.covered.items ≤ length old.bytes.items → length new.covered.items ≤ length new.bytes.items

-- an assembly with one more payload
pub holds_added : (old new : Assembly) (place : ℕ) (more : Bool) (payload : List ℕ) → Adds old new place more payload
    → (byte_at : ℕ → Option ℕ) (end : Option ℕ) → Holds old byte_at end → Holds new (with_payload byte_at place payload) (with_end end place more payload)
holds_added old new place more payload adds byte_at end holds = record {
  bytes = λ i. ap (λ o. option_or o (byte_of place payload i)) (holds.bytes i) ∙ sym (adds.first i);
  end_is = ap (λ o. with_end o place more payload) holds.end_is ∙ sym adds.end_is;
  before = λ i lt. ⊎_elim (λ early. adds.kept i (holds.before i early)) (λ later. adds.before i later lt) (cases_lt i old.front);
  gap = adds.gap;
  room = adds.room holds.room;
}

-- an assembly whose buffer only got longer
pub holds_longer : (old new : Assembly) → ((i : ℕ) → byte_held new.bytes.items new.covered.items i ≡ byte_held old.bytes.items old.covered.items i)
    → ((i : ℕ) → get_or new.covered.items i false ≡ get_or old.covered.items i false)
    → new.front ≡ old.front → new.end ≡ old.end → (length old.covered.items ≤ length old.bytes.items → length new.covered.items ≤ length new.bytes.items)
    → (byte_at : ℕ → Option ℕ) (end : Option ℕ) → Holds old byte_at end → Holds new byte_at end
holds_longer old new same_bytes same_marks same_front same_end room byte_at end holds = record {
  bytes = λ i. holds.bytes i ∙ sym (same_bytes i);
  end_is = holds.end_is ∙ sym same_end;
  before = λ i lt. same_marks i ∙ holds.before i (omega (arith, lt, same_front));
  gap = same_marks new.front ∙ ap (λ n. get_or old.covered.items n false) same_front ∙ holds.gap;
  room = room holds.room;
}

-- A group ----------------------------------------------------------------------------------------------------------

module _ {K T : Type 0} where
  -- what is held of a group and one more payload is held of the group with that fragment
  pub holds_more : (assembly : Assembly) (group : List (Fragment K T)) (last : Fragment K T)
      → Holds assembly (with_payload (byte_at group) last.place last.payload) (with_end (named_end group) last.place last.more last.payload)
      → Holds assembly (byte_at (group ++ last ∷ [])) (named_end (group ++ last ∷ []))
  holds_more assembly group last holds = record {
    bytes = λ i. byte_at-append group last i ∙ holds.bytes i;
    end_is = named_end-append group last ∙ holds.end_is;
    before = holds.before;
    gap = holds.gap;
    room = holds.room;
  }

  -- the group of one fragment
  pub is_group_one : (is : Group T) (first : Fragment K T) → is.since ≡ first.moment
      → is.tag ≡ cond (is_some (byte_of first.place first.payload 0)) (Some first.tag) None
      → Holds is.assembly (with_payload (λ place. None) first.place first.payload) (with_end None first.place first.more first.payload)
      → IsGroup is (first ∷ [])
  is_group_one is first since tag holds = record {
    since = sym (ap Some since);
    tag = tag_of-append [] first ∙ sym tag;
    holds = holds_more is.assembly [] first holds;
  }

  -- a group with one more fragment
  pub is_group_more : (was is : Group T) (group : List (Fragment K T)) (last : Fragment K T) → is.since ≡ was.since
      → is.tag ≡ option_or was.tag (cond (is_some (byte_of last.place last.payload 0)) (Some last.tag) None)
      → ((bytes : ℕ → Option ℕ) (end : Option ℕ) → Holds was.assembly bytes end
      → Holds is.assembly (with_payload bytes last.place last.payload) (with_end end last.place last.more last.payload))
      → IsGroup was group → IsGroup is (group ++ last ∷ [])
  is_group_more was is group last since tag adds is_group = record {
    since = first_moment-append group last is.since (is_group.since ∙ sym (ap Some since));
    tag = tag_of-append group last
        ∙ ap (λ o. option_or o (cond (is_some (byte_of last.place last.payload 0)) (Some last.tag) None)) is_group.tag
        ∙ sym tag;
    holds = holds_more is.assembly group last (adds (byte_at group) (named_end group) is_group.holds);
  }
