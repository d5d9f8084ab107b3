-- Names and objects by their numbers: what is read has its type, and what is written keeps the world's types.
use Rattle.std.proofs.Common.{◌≡◌, ℕ, zero, suc, false, List, [], ◌∷◌, ◌++◌, length, map, Option, Some, None, refl, ap}
use Rattle.std.specs.Prelude.{slice_get, slice_set, replicate}
use Rattle.std.specs.List.{AllZip}
use Rattle.zk_tree.specs.declared.place.Place.{Place}
use Rattle.zk_tree.specs.Store.{Object, Store}
use Rattle.zk_tree.specs.Value as value
use Rattle.zk_tree.specs.Value.{Value}
use Rattle.zk_typed.specs.declared.ends.FaultKind.TheVariants.{Unset}
use Rattle.zk_typed.specs.Does.{or_fault, named, local, set_local, global, set_global, object_in, object, set_object, new_object}
use Rattle.zk_typed.specs.Program.{Program}
use Rattle.zk_typed.specs.State.{World, with_store}
use Rattle.zk_typed.specs.Types.{ValueType}
use Rattle.zk_sound.specs.Holding.{Kinds, NamesObject, HasType, HaveTypes, ObjectFits}
use Rattle.zk_sound.specs.Worlds.{Names, type_of, NameFits, NamesFit, global_names, WorldFits}
use Rattle.zk_sound.specs.Keeping.{Setting, Grows, Keeps, Any, Of}
use Rattle.zk_sound.proofs.Growth.{grows_no, grows_by, got_last, all_map, fits_later, objects_later, names_later, default_later, queued_later, scheduled_later}
use Rattle.zk_sound.proofs.Core.{keeps_or_fault, keeps_change, keeps_read}

-- Names ------------------------------------------------------------------------------------------------------------

pub name_read : (kinds : Kinds) (names : Names) (values : List (Option Value)) (number : ℕ) (of : ValueType) (one : Value)
    → type_of names number ≡ Some of → NamesFit kinds names values → named values number ≡ Some one → HasType kinds of one
name_read kinds [] values number of one is fits there = absurd cc
name_read kinds (t ∷ names) [] number of one is fits there = absurd cc
name_read kinds (None ∷ names) (v ∷ values) zero of one is fits there = absurd cc
name_read kinds (Some t ∷ names) (None ∷ values) zero of one is fits there = absurd cc
name_read kinds (Some t ∷ names) (Some v ∷ values) zero of one is (first, others) there =
    let same : t ≡ of = cc in let here : v ≡ one = cc in rw here at (rw same at first)
name_read kinds (t ∷ names) (v ∷ values) (suc number) of one is (first, others) there = name_read kinds names values number of one is others there

pub names_write : (kinds : Kinds) (names : Names) (values : List (Option Value)) (number : ℕ) (one : Option Value)
    → NameFits kinds (type_of names number) one → NamesFit kinds names values → NamesFit kinds names (slice_set values number one)
names_write kinds [] values number one fit fits = tt
names_write kinds (t ∷ names) [] number one fit fits = tt
names_write kinds (None ∷ names) (v ∷ values) zero one fit (first, others) = (tt, others)
names_write kinds (Some t ∷ names) (v ∷ values) zero one fit (first, others) = (fit, others)
names_write kinds (t ∷ names) (v ∷ values) (suc number) one fit (first, others) = (first, names_write kinds names values number one fit others)

-- what has no value fits, and a value of the type does
pub fits_none : (kinds : Kinds) (of : Option ValueType) → NameFits kinds of None
fits_none kinds None = tt
fits_none kinds (Some of) = tt

pub fits_some : (kinds : Kinds) (of : ValueType) (name : Option ValueType) (one : Value) → name ≡ Some of → HasType kinds of one → NameFits kinds name (Some one)
fits_some kinds of None one is h = tt
fits_some kinds of (Some t) one is h = let same : of ≡ t = cc in rw same at h

pub fits_nothing : (kinds : Kinds) (names : Names) (count : ℕ) → NamesFit kinds names (replicate count None)
fits_nothing kinds [] count = tt
fits_nothing kinds (t ∷ names) zero = tt
fits_nothing kinds (t ∷ names) (suc count) = (fits_none kinds t, fits_nothing kinds names count)

-- the parameters of a body, and its locals
pub first_names : (kinds : Kinds) (params : List ValueType) (locals : Names) (args : List Value) (count : ℕ) → HaveTypes kinds params args
    → NamesFit kinds (map Some params ++ locals) (map Some args ++ replicate count None)
first_names kinds [] locals [] count h = fits_nothing kinds locals count
first_names kinds [] locals (one ∷ args) count h = absurd h
first_names kinds (of ∷ params) locals [] count h = absurd h
first_names kinds (of ∷ params) locals (one ∷ args) count (first, others) = (first, first_names kinds params locals args count others)

module _ {setting : Setting} {kinds : Kinds} where
  pub keeps_local : (place : Place) (number : ℕ) (of : ValueType) → setting.strict ≡ false → type_of setting.names number ≡ Some of → Keeps setting (Of of) kinds (local place number)
  keeps_local place number of loose is = record {
    by = λ state fits.
        (keeps_or_fault Unset place (named state.locals number) loose (λ one there. name_read kinds setting.names state.locals number of one is fits.locals there)).by state fits;
  }

  pub keeps_set_local : (number : ℕ) (one : Option Value) → NameFits kinds (type_of setting.names number) one → Keeps setting Any kinds (set_local number one)
  keeps_set_local number one fit = record {
    by = λ state fits. record {
      later = kinds;
      grows = grows_no kinds;
      of = tt;
      fits = record { world = fits.world; locals = names_write kinds setting.names state.locals number one fit fits.locals };
    };
  }

  pub keeps_global : (place : Place) (number : ℕ) (of : ValueType) → setting.strict ≡ false → type_of (global_names setting.program) number ≡ Some of → Keeps setting (Of of) kinds (global place number)
  keeps_global place number of loose is = record {
    by = λ state fits.
        (keeps_or_fault Unset place (named state.world.globals number) loose (λ one there. name_read kinds (global_names setting.program) state.world.globals number of one is fits.world.globals there)).by state fits;
  }

  pub keeps_set_global : (number : ℕ) (one : Option Value) → NameFits kinds (type_of (global_names setting.program) number) one → Keeps setting Any kinds (set_global number one)
  keeps_set_global number one fit = keeps_change _ (λ world fits. record {
    objects = fits.objects;
    defaults = fits.defaults;
    streams = fits.streams;
    queue = fits.queue;
    scheduled = fits.scheduled;
    rows = fits.rows;
    globals = names_write kinds (global_names setting.program) world.globals number one fit fits.globals;
  })

-- Objects ----------------------------------------------------------------------------------------------------------

module _ {A B : Type 0} (R : A → B → Type 0) where
  pub zip_get : (xs : List A) (ys : List B) (n : ℕ) (x : A) → slice_get xs n ≡ Some x → AllZip R xs ys → (y : B) × (slice_get ys n ≡ Some y) × R x y
  zip_get [] ys n x is h = absurd cc
  zip_get (a ∷ xs) [] n x is h = absurd h
  zip_get (a ∷ xs) (b ∷ ys) zero x is (first, others) = let same : a ≡ x = cc in (b, refl, rw same at first)
  zip_get (a ∷ xs) (b ∷ ys) (suc n) x is (first, others) = zip_get xs ys n x is others

  pub zip_set : (xs : List A) (ys : List B) (n : ℕ) (x : A) (y : B) → slice_get xs n ≡ Some x → R x y → AllZip R xs ys → AllZip R xs (slice_set ys n y)
  zip_set [] ys n x y is r h = absurd cc
  zip_set (a ∷ xs) [] n x y is r h = absurd h
  zip_set (a ∷ xs) (b ∷ ys) zero x y is r (first, others) = let same : x ≡ a = cc in (rw same at r, others)
  zip_set (a ∷ xs) (b ∷ ys) (suc n) x y is r (first, others) = (first, zip_set xs ys n x y is r others)

  zip_append : (xs : List A) (ys : List B) (x : A) (y : B) → R x y → AllZip R xs ys → AllZip R (xs ++ x ∷ []) (ys ++ y ∷ [])
  zip_append [] [] x y r h = (r, tt)
  zip_append [] (b ∷ ys) x y r h = absurd h
  zip_append (a ∷ xs) [] x y r h = absurd h
  zip_append (a ∷ xs) (b ∷ ys) x y r (first, others) = (first, zip_append xs ys x y r others)

  zip_length : (xs : List A) (ys : List B) → AllZip R xs ys → length xs ≡ length ys
  zip_length [] [] h = refl
  zip_length [] (b ∷ ys) h = absurd h
  zip_length (a ∷ xs) [] h = absurd h
  zip_length (a ∷ xs) (b ∷ ys) (first, others) = ap suc (zip_length xs ys others)

-- an object of a type
abbrev pub IsObject : ValueType → Kinds → Value → Type 0
IsObject of kinds one = NamesObject kinds of one

abbrev pub ObjectOf : Program → ValueType → Kinds → Object → Type 0
ObjectOf program of kinds one = ObjectFits program kinds of one

module _ {setting : Setting} {kinds : Kinds} where
  found_keeps : (place : Place) (of : ValueType) (found : Option Object) → ((one : Object) × (found ≡ Some one) × ObjectFits setting.program kinds of one)
      → Keeps setting (ObjectOf setting.program of) kinds (or_fault Unset place found)
  found_keeps place of found (one, is, fits) = rw is (keeps_some one fits)
    where
      keeps_some : (one : Object) → ObjectFits setting.program kinds of one → Keeps setting (ObjectOf setting.program of) kinds (or_fault Unset place (Some one))
      keeps_some one fits = record { by = λ state holds. record { later = kinds; grows = grows_no kinds; fits = holds; of = fits } }

  pub keeps_object : (place : Place) (of : ValueType) (one : Value) → NamesObject kinds of one → Keeps setting (ObjectOf setting.program of) kinds (object place one)
  keeps_object place of (value.Object number) is = keeps_read (object_in (value.Object number)) (or_fault Unset place)
      (λ world fits. found_keeps place of (slice_get world.store number.0) (zip_get (ObjectFits setting.program kinds) kinds world.store number.0 of is fits.objects))
  keeps_object place of one is = absurd is

  pub keeps_set_object : (of : ValueType) (one : Value) (changed : Object) → NamesObject kinds of one → ObjectFits setting.program kinds of changed → Keeps setting Any kinds (set_object one changed)
  keeps_set_object of (value.Object number) changed is fit = keeps_change _ (λ world fits. record {
    objects = zip_set (ObjectFits setting.program kinds) kinds world.store number.0 of changed is fit fits.objects;
    defaults = fits.defaults;
    globals = fits.globals;
    streams = fits.streams;
    queue = fits.queue;
    scheduled = fits.scheduled;
    rows = fits.rows;
  })
  keeps_set_object of one changed is fit = absurd is

-- a world where there are more objects
grown : {program : Program} {kinds later : Kinds} (world : World) (store : Store) → Grows kinds later → AllZip (ObjectFits program later) later store → WorldFits program kinds world → WorldFits program later (with_store store world)
grown {program = program} world store grows objects fits = record {
  objects = objects;
  defaults = all_map _ _ (default_later grows) world.defaults fits.defaults;
  globals = names_later grows (global_names program) world.globals fits.globals;
  streams = fits.streams;
  queue = all_map _ _ (queued_later grows program) world.queue fits.queue;
  scheduled = all_map _ _ (scheduled_later grows program) world.scheduled fits.scheduled;
  rows = fits.rows;
}

pub keeps_new_object : {setting : Setting} {kinds : Kinds} (of : ValueType) (made : Object) → ObjectFits setting.program kinds of made → Keeps setting (IsObject of) kinds (new_object made)
keeps_new_object {setting = setting} {kinds = kinds} of made fit = record {
  by = λ state fits.
      let grows : Grows kinds (kinds ++ of ∷ []) = grows_by kinds (of ∷ []) in
      let same : length kinds ≡ length state.world.store = zip_length (ObjectFits setting.program kinds) kinds state.world.store fits.world.objects in
      record {
        later = kinds ++ of ∷ [];
        grows = grows;
        fits = record {
          world = grown state.world (state.world.store ++ made ∷ []) grows
              (zip_append (ObjectFits setting.program (kinds ++ of ∷ [])) kinds state.world.store of made (fits_later grows setting.program of made fit)
              (objects_later grows setting.program kinds state.world.store fits.world.objects)) fits.world;
          locals = names_later grows setting.names state.locals fits.locals;
        };
        of = rw same at (got_last kinds of);
      };
}
