-- What code is asked again and again. The handlers of an event in the order in which they run: by falling priority, and in
-- load order where that is the same (Zeek manual, Attributes, &priority).
use Rattle.std.specs.declared.vec.Vec.{Vec}
use Rattle.std.specs.declared.alloc.Global.{Global}
use Rattle.std.specs.Prelude.{ℕ, ◌+◌, ◌==◌, List, [], ◌∷◌, ◌++◌, map, filter, Option, Some, None, is_some, slice_get, if◌then◌else◌}
use Rattle.zk_base.specs.declared.numbers.EventNo.{EventNo}
use Rattle.zk_base.specs.declared.numbers.HandlerNo.{HandlerNo}
use Rattle.zk_typed.specs.Meaning.{in_order}
use Rattle.zk_lower.specs.Code.{HandlerCode, GlobalCode}
use Rattle.zk_lower.specs.View.{handler_of}
use Rattle.zk_machine.specs.declared.indexed.Numbered.{Numbered}

-- each with its number, from one on
abbrev pub numbered : {A : Type 0} → ℕ → List A → List (ℕ × A)
numbered number [] = []
numbered number (one ∷ others) = (number, one) ∷ numbered (number + 1) others

-- the handlers of an event with their numbers
abbrev pub handlers_for : EventNo → List HandlerCode → List (ℕ × HandlerCode)
handlers_for event handlers = in_order (λ one. one.1.priority) (filter (λ one. one.1.event.0 == event.0) (numbered 0 handlers))

abbrev pub numbers_for : EventNo → List HandlerCode → List ℕ
numbers_for event handlers = map (λ one. one.0) (handlers_for event handlers)

-- a handler with its number, as Rust holds it
abbrev pub numbered_of : Numbered → ℕ × HandlerCode
numbered_of one = (one.number.0, handler_of one.handler)

abbrev pub numbers_in : Option (Vec HandlerNo Global) → List ℕ
numbers_in None = []
numbers_in (Some list) = map (λ number. number.0) list.items

-- the numbers in the list of an event, or none where it has no list
abbrev pub numbers_at : List (Vec HandlerNo Global) → ℕ → List ℕ
numbers_at lists event = numbers_in (slice_get lists event)

-- the numbers of the globals whose entries expire, from one on
abbrev pub expiring_from : ℕ → List GlobalCode → List ℕ
expiring_from number [] = []
expiring_from number (one ∷ others) = (if is_some one.expiry then number ∷ [] else []) ++ expiring_from (number + 1) others
