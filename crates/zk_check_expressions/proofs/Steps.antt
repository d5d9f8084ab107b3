-- What is refused in a part is refused in the whole.
use Rattle.std.proofs.Common.{ℕ, Option, Err, List, refl}
use Rattle.std.specs.Option.{option_map}
use Rattle.zk_typed.specs.declared.refusal.Refusal.{Refusal}
use Rattle.zk_typed.specs.declared.refusal.Refusal.TheVariants.{Broken, NoMemory}
use Rattle.zk_typed.specs.Checked.{Checked, ◌>>=◌}
use Rattle.zk_typed.specs.Tells.{Tells}
use Rattle.zk_check_operators.specs.declared.operands.Typed.{Typed as RustTyped}
use Rattle.zk_check_operators.specs.Views.{typed_of, pair_of, all_typed}
use Rattle.zk_typed.specs.Types.{ValueType}
use Rattle.zk_typed.specs.Typing.{Typed}
use Rattle.zk_typed.specs.View.{type_of}
use Rattle.zk_typed.specs.declared.script.primitive.FieldNo.{FieldNo}
use Rattle.zk_typed.specs.Expressions.{Side}
use Rattle.zk_typed.specs.Making.{Called, GivenField}
use Rattle.zk_check_expressions.specs.Calls.{format_view}
use Rattle.zk_check_expressions.specs.Envs.{called_of, side_of}
use Rattle.zk_check_expressions.specs.Fields.{typed_field}
use Rattle.zk_check_expressions.specs.Members.{all_members}
use Rattle.zk_check_expressions.specs.Parts.{member_view}
use Rattle.zk_check_expressions.specs.Records.{all_given_of}

pub passed : {A A' B B' : Type 0} (va : A → A') (vb : B → B') (ca : Checked A') (k : A' → Checked B') (refusal : Refusal) →
    Tells va (Err refusal) ca → Tells vb (Err refusal) (ca >>= k)
passed va vb ca k (Broken rules) h = rw h refl
passed va vb ca k NoMemory h = tt

pub pair_passed : {B B' : Type 0} (vb : B → B') (ca : Checked (Typed × Typed)) (k : Typed × Typed → Checked B') (refusal : Refusal) →
    Tells pair_of (Err refusal) ca → Tells vb (Err refusal) (ca >>= k)
pair_passed vb ca k (Broken rules) h = rw h refl
pair_passed vb ca k NoMemory h = tt

pub tested_passed : {B B' : Type 0} (vb : B → B') (ca : Checked (Typed × (Typed × Typed))) (k : Typed × (Typed × Typed) → Checked B') (refusal : Refusal) →
    Tells (λ (one : RustTyped × (RustTyped × RustTyped)). (typed_of one.0, pair_of one.1)) (Err refusal) ca → Tells vb (Err refusal) (ca >>= k)
tested_passed vb ca k (Broken rules) h = rw h refl
tested_passed vb ca k NoMemory h = tt

pub all_passed : {B B' : Type 0} (vb : B → B') (ca : Checked (List Typed)) (k : List Typed → Checked B') (refusal : Refusal) →
    Tells all_typed (Err refusal) ca → Tells vb (Err refusal) (ca >>= k)
all_passed vb ca k (Broken rules) h = rw h refl
all_passed vb ca k NoMemory h = tt

pub type_passed : {B B' : Type 0} (vb : B → B') (ca : Checked ValueType) (k : ValueType → Checked B') (refusal : Refusal) →
    Tells type_of (Err refusal) ca → Tells vb (Err refusal) (ca >>= k)
type_passed vb ca k (Broken rules) h = rw h refl
type_passed vb ca k NoMemory h = tt

pub field_passed : {B B' : Type 0} (vb : B → B') (ca : Checked (FieldNo × ValueType)) (k : FieldNo × ValueType → Checked B') (refusal : Refusal) →
    Tells typed_field (Err refusal) ca → Tells vb (Err refusal) (ca >>= k)
field_passed vb ca k (Broken rules) h = rw h refl
field_passed vb ca k NoMemory h = tt

pub member_passed : {B B' : Type 0} (vb : B → B') (ca : Checked (List Typed × Typed)) (k : List Typed × Typed → Checked B') (refusal : Refusal) →
    Tells member_view (Err refusal) ca → Tells vb (Err refusal) (ca >>= k)
member_passed vb ca k (Broken rules) h = rw h refl
member_passed vb ca k NoMemory h = tt

pub format_passed : {B B' : Type 0} (vb : B → B') (ca : Checked ((Typed × List ℕ) × List Typed)) (k : (Typed × List ℕ) × List Typed → Checked B') (refusal : Refusal) →
    Tells format_view (Err refusal) ca → Tells vb (Err refusal) (ca >>= k)
format_passed vb ca k (Broken rules) h = rw h refl
format_passed vb ca k NoMemory h = tt

pub called_passed : {B B' : Type 0} (vb : B → B') (ca : Checked (Called)) (k : Called → Checked B') (refusal : Refusal) →
    Tells called_of (Err refusal) ca → Tells vb (Err refusal) (ca >>= k)
called_passed vb ca k (Broken rules) h = rw h refl
called_passed vb ca k NoMemory h = tt

pub side_passed : {B B' : Type 0} (vb : B → B') (ca : Checked (Side)) (k : Side → Checked B') (refusal : Refusal) →
    Tells side_of (Err refusal) ca → Tells vb (Err refusal) (ca >>= k)
side_passed vb ca k (Broken rules) h = rw h refl
side_passed vb ca k NoMemory h = tt

pub members_passed : {B B' : Type 0} (vb : B → B') (ca : Checked (List (List Typed))) (k : List (List Typed) → Checked B') (refusal : Refusal) →
    Tells all_members (Err refusal) ca → Tells vb (Err refusal) (ca >>= k)
members_passed vb ca k (Broken rules) h = rw h refl
members_passed vb ca k NoMemory h = tt

pub given_passed : {B B' : Type 0} (vb : B → B') (ca : Checked (List GivenField)) (k : List GivenField → Checked B') (refusal : Refusal) →
    Tells all_given_of (Err refusal) ca → Tells vb (Err refusal) (ca >>= k)
given_passed vb ca k (Broken rules) h = rw h refl
given_passed vb ca k NoMemory h = tt

pub result_passed : {B B' : Type 0} (vb : B → B') (ca : Checked (Option ValueType)) (k : Option ValueType → Checked B') (refusal : Refusal) →
    Tells (option_map type_of) (Err refusal) ca → Tells vb (Err refusal) (ca >>= k)
result_passed vb ca k (Broken rules) h = rw h refl
result_passed vb ca k NoMemory h = tt
