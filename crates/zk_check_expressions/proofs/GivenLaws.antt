-- The fields that a constructor gives, as the Rust type holds them.
use Rattle.std.proofs.Common.{◌≡◌, ℕ, suc, ◌+◌, ◌==◌, ◌<◌, Bool, ◌&&◌, ◌||◌, List, [], ◌∷◌, length, drop, get_or, map, refl, sym, ◌∙◌, ap, add-one, drop-cons}
use Rattle.std.specs.List.{list_any}
use Rattle.zk_base.specs.declared.numbers.RecordNo.{RecordNo}
use Rattle.zk_typed.specs.declared.script.expr.Expr.TheFolds.{fold-roll-Expr}
use Rattle.zk_typed.specs.declared.script.expr.Expr.TheOpen as layer
use Rattle.zk_typed.specs.declared.script.expr.Expr.TheVariants as expr
use Rattle.zk_typed.specs.declared.script.expr.Given.{Given}
use Rattle.zk_typed.specs.declared.script.types.ValueType.TheFolds.{fold-roll-ValueType}
use Rattle.zk_typed.specs.declared.script.types.ValueType.TheOpen as types
use Rattle.zk_typed.specs.declared.script.types.ValueType.TheVariants as rust
use Rattle.zk_typed.specs.Forms.{Givens}
use Rattle.zk_typed.specs.Forms as form
use Rattle.zk_typed.specs.Making.{all_given, may_lack}
use Rattle.zk_typed.specs.Types.{ValueType, Record}
use Rattle.zk_typed.specs.Typing.{typed}
use Rattle.zk_typed.specs.View.{type_of, type_step, expr_of, givens_of, Prefixed, expr_step, given_step}
use Rattle.zk_scope.specs.declared.field.FieldInfo.{FieldInfo as LentField}
use Rattle.zk_scope.specs.Fields.{field_of, fields_lent}
use Rattle.zk_check_expressions.specs.declared.records.GivenField.{GivenField as RustGiven}
use Rattle.zk_check_expressions.specs.Records.{given_of, as_given, all_fields}
use Rattle.zk_check_expressions.proofs.MarkLaws.{any_given}

fields_are : (all : List Given) → givens_of (map as_given all) ≡ all_fields all
fields_are [] = refl
fields_are (one ∷ others) = ap (as_given one) (fields_are others)

pub new_is : (number : RecordNo) (given : List Given) → expr_of (expr.New number given) ≡ form.New number (all_fields given)
new_is number given =
    ap expr_of (sym (expr.rolls-New number given)) ∙ fold-roll-Expr form.Expr Prefixed expr_step given_step (layer.New number given) ∙ ap (form.New number) (fields_are given)

record_is : (number : RecordNo) → type_of (rust.Record number) ≡ Record number
record_is number = ap type_of (sym (rust.rolls-Record number)) ∙ fold-roll-ValueType ValueType type_step (types.Record number)

-- a record by the fields that its constructor gives
pub made_is : (number : RecordNo) (given : List Given) (whole : Givens) → all_fields given ≡ whole →
    typed (type_of (rust.Record number)) (expr_of (expr.New number given)) ≡ typed (Record number) (form.New number whole)
made_is number given whole same =
    ap (λ (x : ValueType). typed x (expr_of (expr.New number given))) (record_is number)
    ∙ ap (typed (Record number)) (new_is number given ∙ ap (form.New number) same)

-- whether a field is given that a constructor has to give, and those behind it
pub field_step : (fields : List LentField) (at : ℕ) (field : LentField) (given : List RustGiven) (holds : Bool) → at < length fields → field ≡ get_or fields at field →
    holds ≡ (may_lack (field_of field) || list_any (λ one. one == at) (map (λ one. one.number) given)) →
    all_given at (fields_lent (drop at fields)) (map given_of given) ≡ (holds && all_given (at + 1) (fields_lent (drop (at + 1) fields)) (map given_of given))
field_step fields at field given holds within is has =
    let front : drop at fields ≡ field ∷ drop (at + 1) fields = rw add-one (drop-cons fields at field within ∙ ap (λ (x : LentField). x ∷ drop (suc at) fields) (sym is)) in
    ap (λ (x : List LentField). all_given at (fields_lent x) (map given_of given)) front
    ∙ ap (λ (x : Bool). (may_lack (field_of field) || x) && all_given (at + 1) (fields_lent (drop (at + 1) fields)) (map given_of given)) (sym (any_given at given))
    ∙ ap (λ (x : Bool). x && all_given (at + 1) (fields_lent (drop (at + 1) fields)) (map given_of given)) (sym has)
