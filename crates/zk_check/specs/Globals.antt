-- Globals and constants of a program, by what their names are given.
use Rattle.std.specs.Prelude.{◌≡◌, ℕ, ℤ, pos, neg_ℤ, List, [], ◌∷◌, codes, flat_map, Option, Some, None, if◌then◌else◌}
use Rattle.std.specs.Option.{option_map}
use Rattle.std.specs.Str.{bytes_eq}
use Rattle.zk_base.specs.declared.time.Span.{Span}
use Rattle.zk_tree.specs.declared.decl.Decl.{Decl, out-Decl}
use Rattle.zk_tree.specs.declared.decl.Decl.TheOpen.{Decl-F}
use Rattle.zk_tree.specs.declared.decl.Decl.TheOpen as decl
use Rattle.zk_tree.specs.declared.decl.Redefining.TheVariants as redefining
use Rattle.zk_tree.specs.declared.expiry.Expiry.{Expiry}
use Rattle.zk_tree.specs.declared.expiry.Expiry.TheVariants.{Create, Read, Write}
use Rattle.zk_tree.specs.declared.place.Place.{Place}
use Rattle.zk_tree.specs.declared.types.Attr.{Attr}
use Rattle.zk_typed.specs.declared.script.literal.DefaultValue.{DefaultValue}
use Rattle.zk_typed.specs.declared.script.literal.DefaultValue.TheVariants as default
use Rattle.zk_typed.specs.declared.script.literal.Literal.TheVariants as literal
use Rattle.zk_typed.specs.declared.script.literal.Sign.TheVariants.{Negated}
use Rattle.zk_typed.specs.declared.script.primitive.Primitive.{Primitive}
use Rattle.zk_typed.specs.declared.script.primitive.Primitive.TheVariants as primitive
use Rattle.zk_typed.specs.Declarations.{ValueGiven, global_type}
use Rattle.zk_typed.specs.LoadOrder.{Home, Stated}
use Rattle.zk_typed.specs.Names.{Declared, Meant, Variable, whole_name}
use Rattle.zk_typed.specs.Predefined as type
use Rattle.zk_typed.specs.Program as program
use Rattle.zk_typed.specs.Programs.{all_given, checked_or, default_of, expiry_of, first_given, first_or, function_number, global_made, later_given, shaped, with_shape}
use Rattle.zk_typed.specs.Resolving.{Scripts, attr_value, place_in}
use Rattle.zk_check_declarations.specs.declared.groups.Groups.{Groups}
use Rattle.zk_check_declarations.specs.Grouping.{group_at}
use Rattle.zk_check.specs.Programming.{value_of}

-- the length of time that a literal is
abbrev pub span_in : DefaultValue → Span
span_in (default.Literal (literal.Interval span) Negated) = record { 0 = neg_ℤ span.0 }
span_in (default.Literal (literal.Interval span) sign) = span
span_in other = record { 0 = pos 0 }

-- the value of an attribute that is a length of time
abbrev pub span_of : Scripts → Home → List Attr → List ℕ → Option Span
span_of scripts home attrs name = option_map span_in (value_of scripts home attrs name type.interval)

-- when entries expire, by the three attributes that say so
abbrev pub first_expiry : Option Span → Option Span → Option Span → Option Expiry
first_expiry (Some create) read write = Some (Create create)
first_expiry None (Some read) write = Some (Read read)
first_expiry None None (Some write) = Some (Write write)
first_expiry None None None = None

-- what makes a table or a set has the expiry and the default of its global
abbrev pub primitive_shaped : Option Expiry → Option DefaultValue → Primitive → Primitive
primitive_shaped expiry default (primitive.NewTable shape) = primitive.NewTable (with_shape expiry default shape)
primitive_shaped expiry default (primitive.NewSet shape) = primitive.NewSet (with_shape expiry default shape)
primitive_shaped expiry default other = other

-- where the last `=` stands so far, after one value more
abbrev pub start_after : ℕ → ℕ → ValueGiven → ℕ
start_after start index (home, redefining.Set, init) = index
start_after start index (home, redefining.Add, init) = start

-- the place of a declaration, where it declares the global of a name
abbrev pub place_by : List ℕ → Home → Decl-F Decl → List Place
place_by whole home (decl.Variable place lasting name tree init attrs) = if bytes_eq (whole_name home.module_name name.text) whole then place_in home place ∷ [] else []
place_by whole home other = []

abbrev pub stated_place : List ℕ → Stated → List Place
stated_place whole one = place_by whole one.home (out-Decl one.decl)

abbrev pub no_place : Place
no_place = record { file = 0; byte = 0 }

-- a global or a constant, by the place of its declaration and its values since the last `=`
abbrev pub global_by : Scripts → ℕ → Place → Home → List Attr → List ValueGiven → program.Global
global_by scripts number place home attrs given =
    let type = checked_or type.bool (global_type scripts number) in
    let expiry = expiry_of scripts home attrs in
    record {
      place = place;
      global_type = type;
      initial = option_map (shaped expiry (default_of scripts home type attrs)) (first_given scripts number type given);
      added = all_given scripts type (later_given given);
      expiry = expiry;
      expire_func = function_number scripts home (attr_value (codes "expire_func") attrs);
    }

-- the globals that a name stands for
abbrev pub globals_by : Scripts → ℕ → Declared → List program.Global
globals_by scripts number one = of_meant one.meant
  where
    of_meant : Meant → List program.Global
    of_meant (Variable home lasting tree init attrs) = global_made scripts number one home attrs ∷ []
    of_meant other = []

-- the places of all declarations of globals, by their whole names
pub record ArePlaces (places : Groups Place) (scripts : Scripts) : Type 0 where
  pub told : (whole : List ℕ) → group_at places whole ≡ flat_map (stated_place whole) scripts.stated
