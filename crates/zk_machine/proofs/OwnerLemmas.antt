-- The globals that name objects, and those that are noted.
use Rattle.std.proofs.Common.{◌≡◌, ℕ, Bool, true, false, ◌&&◌, zero, suc, ◌-◌, ◌<◌, ◌≤◌, ⊎_elim, List, [], ◌∷◌, ◌++◌, length, get_or, slice_get, slice_set, replicate, Option, Some, None, Result, Ok, Err, not, refl, sym, ap, subst, ◌∙◌, arith}
use Rattle.std.specs.Prelude.{IfSome}
use Rattle.std.specs.List.Sorted.{IsBinarySearchResult, IsSearchInRange}
use Rattle.std.specs.Option.{option_map}
use Rattle.std.specs.Ordering.{nat_cmp}
use Rattle.std.specs.Result.{result_ok}
use Rattle.std.proofs.lemmas.Bool.{cases_eq, cases_lt}
use Rattle.std.proofs.lemmas.Option.{slice_get-get_or, slice_get_within}
use Rattle.zk_base.specs.declared.numbers.ObjectNo.{ObjectNo}
use Rattle.zk_table.proofs.TurnLemmas.{slice_get-push_other, slice_get-push_same}
use Rattle.zk_tree.specs.Value.{Value}
use Rattle.zk_machine.specs.Entries.{object_named}
use Rattle.zk_table.specs.Dues.{StaysWatchedBut, is_watched}
use Rattle.zk_machine.specs.Owners.{AllExpire, AllNamed, AreNoted, IsNoted, IsOwner, IsSeen, NamesNothing, NotedBelow, Rises, RisesTo, all_named, all_up_to, all_watched, each_global, expires_in, is_up_to, object_of, passes}
use Rattle.zk_machine.specs.declared.globals.Owner.{Owner}
use Rattle.zk_machine.proofs.DefaultLemmas.{equal_is}

same_owner : (a b : Owner) → Some a ≡ Some b → a ≡ b
same_owner a b e = cc

pub same_object : (a b : ObjectNo) → Some a ≡ Some b → a ≡ b
same_object a b e = cc

pub none_some : {A : Type 0} {o : Option A} {a : A} → o ≡ None → o ≡ Some a → ⊥
none_some none some = cc

-- One more that is noted -------------------------------------------------------------------------------------------

-- whose numbers are above those of all others
pub rises-push : (owners : List Owner) (owner : Owner) → Rises owners → ((place : ℕ) (one : Owner) → slice_get owners place ≡ Some one → RisesTo one owner) → Rises (owners ++ owner ∷ [])
rises-push owners owner rises last = λ place later one other before here there. ⊎_elim
    (λ ends.
    let is : slice_get (owners ++ owner ∷ []) later ≡ Some owner = ap (slice_get (owners ++ owner ∷ [])) ends ∙ slice_get-push_same owners owner in
    let inside : place < length owners = omega (arith, before, ends) in
    let old : slice_get owners place ≡ Some one = sym (slice_get-push_other owners owner place (λ e. omega (arith, e, inside))) ∙ here in
    subst (λ (it : Owner). RisesTo one it) (same_owner owner other (sym is ∙ there)) (last place one old))
    (λ apart.
    let within : later < length (owners ++ owner ∷ []) = slice_get_within (owners ++ owner ∷ []) later other there in
    let long = longer owners in
    let inside : place < length owners = omega (arith, before, apart, within, long) in
    rises place later one other before
    (sym (slice_get-push_other owners owner place (λ e. omega (arith, e, inside))) ∙ here)
    (sym (slice_get-push_other owners owner later apart) ∙ there))
    (cases_eq later (length owners))
  where
    longer : (xs : List Owner) → length (xs ++ owner ∷ []) ≡ suc (length xs)
    longer [] = refl
    longer (x ∷ xs) = ap suc (longer xs)

pub kept-push : (owners : List Owner) (owner one : Owner) → IsNoted one owners → IsNoted one (owners ++ owner ∷ [])
kept-push owners owner one is =
    let within = slice_get_within owners is.0 one is.1 in
    (is.0, slice_get-push_other owners owner is.0 (λ e. omega (arith, e, within)) ∙ is.1)

pub noted-push : (owners : List Owner) (owner : Owner) → IsNoted owner (owners ++ owner ∷ [])
noted-push owners owner = (length owners, slice_get-push_same owners owner)

-- the last has the greatest numbers
pub last-greatest : (owners : List Owner) (last owner : Owner) → slice_get owners (length owners - 1) ≡ Some last → RisesTo last owner → Rises owners
    → (other : ℕ) (one : Owner) → slice_get owners other ≡ Some one → RisesTo one owner
last-greatest owners last owner there rises all other one here = ⊎_elim
    (λ same. subst (λ (it : Owner). RisesTo it owner) (same_owner last one (sym there ∙ (ap (slice_get owners) (sym same) ∙ here))) rises)
    (λ apart.
    let within = slice_get_within owners other one here in
    let before = all other (length owners - 1) one last (omega (arith, within, apart)) here there in
    (omega (arith, before.0, rises.0), omega (arith, before.1, rises.1)))
    (cases_eq other (length owners - 1))

-- where there is no last one, there is none
pub none-last : (owners : List Owner) → slice_get owners (length owners - 1) ≡ None → (other : ℕ) (one : Owner) → slice_get owners other ≡ Some one → ⊥
none-last owners none other one here =
    let within = slice_get_within owners other one here in
    none_some none (slice_get-get_or owners (length owners - 1) one (omega (arith, within)))

-- A global that names something else -------------------------------------------------------------------------------

object_of-other : (values : List (Option Value)) (global other : ℕ) (value : Option Value) → (other ≡ global → ⊥) → object_of (slice_set values global value) other ≡ object_of values other
object_of-other [] global other value apart = refl
object_of-other (one ∷ values) zero zero value apart = absurd (apart refl)
object_of-other (one ∷ values) zero (suc other) value apart = refl
object_of-other (one ∷ values) (suc global) zero value apart = refl
object_of-other (one ∷ values) (suc global) (suc other) value apart = object_of-other values global other value (λ e. apart (ap suc e))

-- the global itself names what it is given, if it is there
object_of-same : (values : List (Option Value)) (global : ℕ) (value : Option Value) (object : ObjectNo) → object_of (slice_set values global value) global ≡ Some object
    → object_named value ≡ Some object
object_of-same [] global value object is = cc
object_of-same (one ∷ values) zero value object is = is
object_of-same (one ∷ values) (suc global) value object is = object_of-same values global value object is

-- What is watched ---------------------------------------------------------------------------------------------------

-- a test that says so of all is one of each
pub all-each : (values : List (Option Value)) (test : ℕ → Bool) → all_named values test ≡ true → AllNamed values test
all-each [] test all global object names = absurd (none_some refl names)
all-each (value ∷ values) test all zero object names = by (object_named value) names all
  where
    by : (o : Option ObjectNo) → o ≡ Some object → (passes test o && all_named values test) ≡ true → test object.0 ≡ true
    by None is both = absurd (none_some refl is)
    by (Some one) is both = subst (λ (it : ObjectNo). test it.0 ≡ true) (same_object one object is) (first (test one.0) both)
      where
        first : (t : Bool) → (t && all_named values test) ≡ true → t ≡ true
        first true is = refl
        first false is = is
all-each (value ∷ values) test all (suc global) object names = all-each values test (rest (passes test (object_named value)) all) global object names
  where
    rest : (t : Bool) → (t && all_named values test) ≡ true → all_named values test ≡ true
    rest true is = is
    rest false is = cc

pub each-all : (values : List (Option Value)) (test : ℕ → Bool) → AllNamed values test → all_named values test ≡ true
each-all [] test each = refl
each-all (value ∷ values) test each = both (passes test (object_named value)) (by (object_named value) refl) (each-all values test (λ global. each (suc global)))
  where
    by : (o : Option ObjectNo) → object_named value ≡ o → passes test o ≡ true
    by None is = refl
    by (Some object) is = each 0 object is

    both : (t : Bool) → t ≡ true → all_named values test ≡ true → (t && all_named values test) ≡ true
    both true is all = all
    both false is all = is

pub watched-each : (values : List (Option Value)) (unwatched : List Bool) → all_watched values unwatched ≡ true → AllNamed values (is_watched unwatched)
unfolding all_watched
watched-each values unwatched all = all-each values (is_watched unwatched) all

each-watched : (values : List (Option Value)) (unwatched : List Bool) → AllNamed values (is_watched unwatched) → all_watched values unwatched ≡ true
unfolding all_watched
each-watched values unwatched each = each-all values (is_watched unwatched) each

up_to-each : (values : List (Option Value)) (last : Option ObjectNo) → all_up_to values last ≡ true → AllNamed values (is_up_to last)
unfolding all_up_to
up_to-each values last all = all-each values (is_up_to last) all

each-up_to : (values : List (Option Value)) (last : Option ObjectNo) → AllNamed values (is_up_to last) → all_up_to values last ≡ true
unfolding all_up_to
each-up_to values last each = each-all values (is_up_to last) each

-- where no global names an object
pub nothing-watched : (values : List (Option Value)) (unwatched : List Bool) → NamesNothing values → all_watched values unwatched ≡ true
nothing-watched values unwatched nothing = each-watched values unwatched (λ global object names. absurd (nothing global object names))

pub nothing-up_to : (values : List (Option Value)) (last : Option ObjectNo) → NamesNothing values → all_up_to values last ≡ true
nothing-up_to values last nothing = each-up_to values last (λ global object names. absurd (nothing global object names))

-- what each named object passes they pass behind an assignment, where what is assigned does and the others go on to
named-set : (was now : ℕ → Bool) (values : List (Option Value)) (global : ℕ) (value : Option Value) → ((number : ℕ) → was number ≡ true → now number ≡ true)
    → ((object : ObjectNo) → object_named value ≡ Some object → now object.0 ≡ true) → AllNamed values was → AllNamed (slice_set values global value) now
named-set was now values global value kept own all = λ other object names. ⊎_elim
    (λ here. own object (object_of-same values global value object (subst (λ n. object_of (slice_set values global value) n ≡ Some object) here names)))
    (λ apart. kept object.0 (all other object (sym (object_of-other values global other value apart) ∙ names)))
    (cases_eq other global)

-- where one is watched from now on
stays-watched : (old new : List Bool) (one number : ℕ) → StaysWatchedBut one old new → is_watched new one ≡ true → is_watched old number ≡ true → is_watched new number ≡ true
stays-watched old new one number stays watched is = ⊎_elim
    (λ here. subst (λ n. is_watched new n ≡ true) (sym here) watched)
    (λ apart. stays number apart is)
    (cases_eq number one)

pub watched-set : (old new : List Bool) (values : List (Option Value)) (global : ℕ) (value : Option Value) (one : ObjectNo) → object_named value ≡ Some one
    → StaysWatchedBut one.0 old new → is_watched new one.0 ≡ true → all_watched values old ≡ true → all_watched (slice_set values global value) new ≡ true
watched-set old new values global value one is stays watched all = each-watched (slice_set values global value) new
    (named-set (is_watched old) (is_watched new) values global value (λ number was. stays-watched old new one.0 number stays watched was)
    (λ object names. subst (λ (it : ObjectNo). is_watched new it.0 ≡ true) (same_object one object (sym is ∙ names)) watched) (watched-each values old all))

pub up_to-set : (old new : Option ObjectNo) (values : List (Option Value)) (global : ℕ) (value : Option Value) (one : ObjectNo) → object_named value ≡ Some one
    → ((number : ℕ) → is_up_to old number ≡ true → is_up_to new number ≡ true) → is_up_to new one.0 ≡ true → all_up_to values old ≡ true → all_up_to (slice_set values global value) new ≡ true
up_to-set old new values global value one is kept own all = each-up_to (slice_set values global value) new
    (named-set (is_up_to old) (is_up_to new) values global value kept
    (λ object names. subst (λ (it : ObjectNo). is_up_to new it.0 ≡ true) (same_object one object (sym is ∙ names)) own) (up_to-each values old all))

-- where it is to name no object
pub watched-unset : (unwatched : List Bool) (values : List (Option Value)) (global : ℕ) (value : Option Value) → object_named value ≡ None → all_watched values unwatched ≡ true
    → all_watched (slice_set values global value) unwatched ≡ true
watched-unset unwatched values global value none all = each-watched (slice_set values global value) unwatched
    (named-set (is_watched unwatched) (is_watched unwatched) values global value (λ number is. is) (λ object names. absurd (none_some none names)) (watched-each values unwatched all))

pub up_to-unset : (last : Option ObjectNo) (values : List (Option Value)) (global : ℕ) (value : Option Value) → object_named value ≡ None → all_up_to values last ≡ true
    → all_up_to (slice_set values global value) last ≡ true
up_to-unset last values global value none all = each-up_to (slice_set values global value) last
    (named-set (is_up_to last) (is_up_to last) values global value (λ number is. is) (λ object names. absurd (none_some none names)) (up_to-each values last all))

-- where one is unwatched from now on that is past all that are named
pub still-watched : (old new : List Bool) (values : List (Option Value)) (last : Option ObjectNo) (one : ℕ) → StaysWatchedBut one old new → not (is_up_to last one) ≡ true
    → all_up_to values last ≡ true → all_watched values old ≡ true → all_watched values new ≡ true
still-watched old new values last one stays above up_to watched = each-watched values new (λ global object names. ⊎_elim
    (λ here. absurd (no (is_up_to last one) above (subst (λ n. is_up_to last n ≡ true) here (up_to-each values last up_to global object names))))
    (λ apart. stays object.0 apart (watched-each values old watched global object names))
    (cases_eq object.0 one))
  where
    no : (t : Bool) → not t ≡ true → t ≡ true → ⊥
    no true first second = cc
    no false first second = cc

seen-kept : (owner : Owner) (owners news : List Owner) → ((one : Owner) → IsNoted one owners → IsNoted one news) → IsSeen owner owners → IsSeen owner news
seen-kept owner owners news kept is = (is.0, is.1, kept (record { object = owner.object; global = is.0 }) is.2)

-- one that is noted is seen
pub seen-noted : (owner : Owner) (owners : List Owner) → IsNoted owner owners → IsSeen owner owners
seen-noted owner owners is = (owner.global, omega arith, is)

-- where what it is to name is seen, if it is one of these, all of these are
pub noted-set : (these : ℕ → Bool) (values : List (Option Value)) (owners news : List Owner) (limit below global : ℕ) (value : Option Value)
    → ((one : Owner) → IsNoted one owners → IsNoted one news) → below ≤ limit
    → (these global ≡ true → (object : ObjectNo) → object_named value ≡ Some object → object.0 < below → IsSeen (record { object = object; global = global }) news)
    → NotedBelow these values owners limit → NotedBelow these (slice_set values global value) news below
noted-set these values owners news limit below global value kept less own noted = λ other object is names under. ⊎_elim
    (λ here. subst (λ n. IsSeen (record { object = object; global = n }) news) (sym here)
    (own (subst (λ n. these n ≡ true) here is) object (object_of-same values global value object (subst (λ n. object_of (slice_set values global value) n ≡ Some object) here names)) under))
    (λ apart. seen-kept (record { object = object; global = other }) owners news kept
    (noted other object is (sym (object_of-other values global other value apart) ∙ names) (omega (arith, under, less))))
    (cases_eq other global)

-- a global that is none of these makes no difference to them
pub noted-past : (these : ℕ → Bool) (values : List (Option Value)) (owners : List Owner) (limit global : ℕ) (value : Option Value) → these global ≡ false
    → AreNoted these values owners limit → AreNoted these (slice_set values global value) owners limit
noted-past these values owners limit global value none noted = record {
  rises = noted.rises;
  noted = noted-set these values owners owners limit limit global value (λ one is. is) (omega arith) (λ among. absurd (true_false (sym among ∙ none))) noted.noted;
}
  where
    true_false : true ≡ false → ⊥
    true_false e = cc

-- The owner of an object -------------------------------------------------------------------------------------------

pub searched-owner : (object : ℕ) (owners : List Owner) (r : Result ℕ ℕ) → IsSearchInRange r (length owners) → IsBinarySearchResult (λ (it : Owner). nat_cmp it.object.0 object) owners r
    → IfSome (result_ok r) (λ place. option_map (λ (one : Owner). one.object.0) (slice_get owners place) ≡ Some object)
searched-owner object owners (Err i) range is = tt
searched-owner object [] (Ok i) range is = absurd (no_less range)
  where
    no_less : {n : ℕ} → n < 0 → ⊥
    no_less lt = omega (arith, lt)
searched-owner object (first ∷ owners) (Ok i) range is =
    ap (option_map (λ (one : Owner). one.object.0)) (slice_get-get_or (first ∷ owners) i first range)
    ∙ ap (λ n. Some n) (equal_is (get_or (first ∷ owners) i first).object.0 object (is first))

-- the one in the place that was found
pub noted-at : (owners : List Owner) (place : ℕ) (object : ObjectNo) (owner : Owner) → option_map (λ (one : Owner). one.object.0) (slice_get owners place) ≡ Some object.0
    → slice_get owners place ≡ Some owner → IsNoted (record { object = object; global = owner.global }) owners
noted-at owners place object owner found there =
    let number : owner.object.0 ≡ object.0 = same (owner.object.0) (object.0) (sym (ap (option_map (λ (one : Owner). one.object.0)) there) ∙ found) in
    (place, there ∙ ap (λ n. let named : ObjectNo = record { 0 = n } in let one : Owner = record { object = named; global = owner.global } in Some one) number)
  where
    same : (a b : ℕ) → Some a ≡ Some b → a ≡ b
    same a b e = cc

-- each of these globals that names an object below the end is seen
abbrev pub AreSeen : List (Option Value) → List Owner → List ℕ → ℕ → Type 0
AreSeen values owners globals end = (place other : ℕ) → slice_get globals place ≡ Some other → (later : ObjectNo) → object_of values other ≡ Some later → later.0 < end
    → IsSeen (record { object = later; global = other }) owners

-- where all globals are noted
pub all-seen : (values : List (Option Value)) (owners : List Owner) (limit end : ℕ) (globals : List ℕ) → AreNoted each_global values owners limit → end ≤ limit → AreSeen values owners globals end
all-seen values owners limit end globals noted below = λ place other is later names under. noted.noted other later refl names (omega (arith, under, below))

-- where those are noted whose entries expire, and these are such
pub expiring-seen : (values : List (Option Value)) (truths : List Bool) (owners : List Owner) (limit end : ℕ) (globals : List ℕ) → AreNoted (expires_in truths) values owners limit
    → end ≤ limit → AllExpire truths globals → AreSeen values owners globals end
expiring-seen values truths owners limit end globals noted below all = λ place other is later names under. noted.noted other later (all place other is) names (omega (arith, under, below))

-- one that is noted and still names the object is its owner
owner-is : (values : List (Option Value)) (owners : List Owner) (globals : List ℕ) (end global : ℕ) (object : ObjectNo) → Rises owners → AreSeen values owners globals end
    → IsNoted (record { object = object; global = global }) owners → object_of values global ≡ Some object → IsOwner values globals global object.0 end
owner-is values owners globals end global object rises all own names = record {
  names = names;
  first = λ at other among later is above under.
      let seen = all at other among later is under in
      let first = seen.0 in
      let least = seen.1 in
      let place = seen.2 in
      ⊎_elim
      (λ before. let behind = rises place.0 own.0 (record { object = later; global = first }) (record { object = object; global = global }) before place.1 own.1 in
      absurd (omega (arith, behind.0, above)))
      (λ behind. ⊎_elim
      (λ same. let e = ap (λ (it : Owner). it.global) (same_owner (record { object = object; global = global }) (record { object = later; global = first }) (sym own.1 ∙ (ap (slice_get owners) (sym same) ∙ place.1))) in omega (arith, e, least))
      (λ apart. let above = rises own.0 place.0 (record { object = object; global = global }) (record { object = later; global = first }) (omega (arith, behind, apart)) own.1 place.1 in
      omega (arith, above.1, least))
      (cases_eq place.0 own.0))
      (cases_lt place.0 own.0);
}

-- of a noted global that still names the object, if there is one
pub owner-some : (values : List (Option Value)) (owners : List Owner) (globals : List ℕ) (end : ℕ) (object : ObjectNo) (found : Option ℕ) → Rises owners → AreSeen values owners globals end
    → IfSome found (λ global. IsNoted (record { object = object; global = global }) owners × (object_of values global ≡ Some object))
    → IfSome found (λ global. IsOwner values globals global object.0 end)
owner-some values owners globals end object None rises all is = tt
owner-some values owners globals end object (Some global) rises all is = owner-is values owners globals end global object rises all is.0 is.1

-- no global names an object before any has a value
none-named : (count : ℕ) (global : ℕ) (object : ObjectNo) → object_of (replicate count None) global ≡ Some object → ⊥
none-named zero global object is = none_some refl is
none-named (suc count) zero object is = none_some refl is
none-named (suc count) (suc global) object is = none-named count global object is

pub names-nothing : (count : ℕ) (values : List (Option Value)) → values ≡ replicate count None → NamesNothing values
names-nothing count values is = λ global object names. none-named count global object (sym (ap (λ vs. object_of vs global) is) ∙ names)

pub none-owned : (these : ℕ → Bool) (count limit : ℕ) (values : List (Option Value)) (owners : List Owner) → owners ≡ [] → values ≡ replicate count None → AreNoted these values owners limit
none-owned these count limit values owners none is = record {
  rises = λ place later one other before here there. absurd (none_some (ap (λ os. slice_get os place) none) here);
  noted = λ global object among names under. absurd (none-named count global object (sym (ap (λ vs. object_of vs global) is) ∙ names));
}
