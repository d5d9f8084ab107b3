-- Values as the keys of a table or set, one after another.
use Rattle.std.proofs.Common.{◌≡◌, ℕ, length, Bool, true, false, if◌then◌else◌, List, [], ◌∷◌, ◌++◌, Option, Some, None, refl, ap, sym, ◌∙◌, append_assoc}
use Rattle.zk_typed.specs.declared.script.types.SimpleType.{SimpleType}
use Rattle.zk_typed.specs.declared.script.primitive.Primitive.{Primitive}
use Rattle.zk_typed.specs.Forms as form
use Rattle.zk_typed.specs.Operations.{same_type}
use Rattle.zk_typed.specs.Types.{ValueType, Simple}
use Rattle.zk_typed.specs.Typing.{Typed, apply, fits, as_keys}
use Rattle.zk_typed.specs.declared.script.types.ValueType.TheFolds.{fold-roll-ValueType}
use Rattle.zk_typed.specs.declared.script.types.ValueType.TheOpen as layer
use Rattle.zk_typed.specs.declared.script.types.ValueType.TheVariants as rust
use Rattle.zk_typed.specs.View.{type_of, type_step}
use Rattle.zk_check_operators.specs.declared.operands.Typed.{Typed as RustTyped}
use Rattle.zk_check_operators.specs.Views.{typed_of, typed_all}
use Rattle.zk_check_expressions.specs.Parts.{is_one_of, one_form}
use Rattle.zk_check_expressions.proofs.Eaches.{typed_last}
use Rattle.zk_check_expressions.proofs.Leftovers.{none_over}

-- keys behind others
abbrev pub behind : List Typed → Option (List Typed) → Option (List Typed)
behind before None = None
behind before (Some more) = Some (before ++ more)

behind_first : (before : List Typed) (first : Typed) (rest : Option (List Typed)) (whole : Option (List Typed)) → whole ≡ behind (first ∷ []) rest → behind before whole ≡ behind (before ++ first ∷ []) rest
behind_first before first None whole h = rw h refl
behind_first before first (Some more) whole h = rw h (ap Some (sym (append_assoc before (first ∷ []) more)))

as_more : (key : SimpleType) (keys : List SimpleType) (one fit : Typed) (others : List Typed) (rest : Option (List Typed)) →
    fits (Simple key) one ≡ Some fit → as_keys keys others ≡ rest → as_keys (key ∷ keys) (one ∷ others) ≡ behind (fit ∷ []) rest
as_more key keys one fit others None h k = rw (h, k) refl
as_more key keys one fit others (Some more) h k = rw (h, k) refl

pub key_more : (key : SimpleType) (keys : List SimpleType) (one fit : Typed) (others before : List Typed) →
    fits (Simple key) one ≡ Some fit → behind before (as_keys (key ∷ keys) (one ∷ others)) ≡ behind (before ++ fit ∷ []) (as_keys keys others)
key_more key keys one fit others before h = behind_first before fit (as_keys keys others) _ (as_more key keys one fit others (as_keys keys others) h refl)

pub key_wrong : (key : SimpleType) (keys : List SimpleType) (one : Typed) (others : List Typed) →
    fits (Simple key) one ≡ None → as_keys (key ∷ keys) (one ∷ others) ≡ None
key_wrong key keys one others h = rw h refl

by_test : (primitive : Primitive) (holds : Bool) (left right : Typed) →
    one_form primitive holds (left ∷ []) right ≡ (if holds then Some (apply primitive (left ∷ right ∷ [])) else None)
by_test primitive true left right = refl
by_test primitive false left right = refl

pub one_form_is : (primitive : Primitive) (wanted : ValueType) (keys : List Typed) (right : Typed) →
    one_form primitive (is_one_of wanted keys) keys right ≡ (if is_one_of wanted keys then Some (apply primitive (keys ++ right ∷ [])) else None)
one_form_is primitive wanted [] right = refl
one_form_is primitive wanted (left ∷ []) right = by_test primitive (same_type left.type wanted) left right
one_form_is primitive wanted (left ∷ (other ∷ more)) right = refl

pub simple_is : (key : SimpleType) → type_of (rust.Simple key) ≡ Simple key
simple_is key = ap type_of (sym (rust.rolls-Simple key)) ∙ fold-roll-ValueType ValueType type_step (layer.Simple key)

-- a value that fits is a key more
pub keys_turn : (others rest : List SimpleType) (key : SimpleType) (items more : List RustTyped) (one fit : RustTyped) (fitting pushed : List RustTyped) (whole : Option (List Typed)) →
    others ≡ key ∷ rest → items ≡ one ∷ more → Some (typed_of fit) ≡ fits (type_of (rust.Simple key)) (typed_of one) → pushed ≡ fitting ++ fit ∷ [] →
    behind (typed_all fitting) (as_keys others (typed_all items)) ≡ whole → behind (typed_all pushed) (as_keys rest (typed_all more)) ≡ whole
keys_turn others rest key items more one fit fitting pushed whole front here fits_so last before =
    ap (λ all. behind all (as_keys rest (typed_all more))) (ap typed_all last ∙ typed_last fitting fit)
    ∙ sym (key_more key rest (typed_of one) (typed_of fit) (typed_all more) (typed_all fitting) (ap (λ type. fits type (typed_of one)) (sym (simple_is key)) ∙ sym fits_so))
    ∙ ap (λ keys. behind (typed_all fitting) (as_keys keys (typed_all (one ∷ more)))) (sym front)
    ∙ ap (λ all. behind (typed_all fitting) (as_keys others (typed_all all))) (sym here)
    ∙ before

-- a key without a value
pub key_alone : (others rest : List SimpleType) (key : SimpleType) (items fitting : List RustTyped) (len : ℕ) (whole : Option (List Typed)) →
    others ≡ key ∷ rest → len ≡ length items → len ≡ 0 → behind (typed_all fitting) (as_keys others (typed_all items)) ≡ whole → None ≡ whole
key_alone others rest key items fitting len whole front same none before =
    ap (λ keys. behind (typed_all fitting) (as_keys keys [])) (sym front)
    ∙ ap (λ all. behind (typed_all fitting) (as_keys others (typed_all all))) (sym (none_over items len same none))
    ∙ before
