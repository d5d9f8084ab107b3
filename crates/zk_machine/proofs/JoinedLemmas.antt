-- Operations that are done at once do what they do one after another.
use Rattle.std.proofs.Common.{◌≡◌, refl, ℕ, zero, suc, ◌+◌, Bool, [], ◌∷◌, Some, subst, sym, ap, ◌∙◌, arith}
use Rattle.std.specs.Prelude.{slice_set}
use Rattle.zk_base.specs.declared.numbers.ObjectNo.{ObjectNo}
use Rattle.zk_lower.specs.Code.{Op, Code}
use Rattle.zk_lower.specs.Code as op
use Rattle.zk_lower.specs.Frames.{Held, Machine, pushed}
use Rattle.zk_lower.specs.Steps.{Step, by, goes, push, operate, at_op, turn, unless}
use Rattle.zk_tree.specs.declared.place.Place.{Place}
use Rattle.zk_tree.specs.Value as plain
use Rattle.zk_tree.specs.Value.{Value}
use Rattle.zk_typed.specs.Does.{Ran, Gives, Faults, Spent, and_then, ◌>>=◌, ◌>>◌, pure, or_fault, named, spend, tick, set_local}
use Rattle.zk_typed.specs.Objects.{element, has_key}
use Rattle.zk_typed.specs.Operators.{holds, binary, stepped}
use Rattle.zk_typed.specs.Primitives.{perform, act, assign}
use Rattle.zk_typed.specs.State.{State}
use Rattle.zk_typed.specs.declared.ends.FaultKind.TheVariants.{Unset}
use Rattle.zk_typed.specs.declared.script.action.Action.TheVariants as action
use Rattle.zk_typed.specs.declared.script.action.Left.TheVariants as left
use Rattle.zk_typed.specs.declared.script.primitive.Binary.{Binary}
use Rattle.zk_typed.specs.declared.script.primitive.Direction.{Direction}
use Rattle.zk_typed.specs.declared.script.primitive.Primitive.TheVariants as primitive
use Rattle.zk_typed.specs.declared.script.primitive.Relation.{Relation}
use Rattle.zk_machine.specs.Soon.{Soon, Stands, more_steps}

two : (n : ℕ) → n + 1 + 1 ≡ n + 2
two n = omega arith

three : (n : ℕ) → n + 2 + 1 ≡ n + 3
three n = omega arith

module _ (Such : Step → Type 0) (code : Code) where
  abbrev From : ℕ → Held → State → Type 0
  From at held state = Soon Such code (record { at = at; held = held; state = state })

  -- an operation alone
  pub alone : (at : ℕ) (held : Held) (state : State) (one : Op) → Stands code at one → Such (operate code one at held state) → From at held state
  alone at held state one stands leads = record {
    more = 0;
    such = subst Such (sym (ap (at_op code at held state) stands)) leads;
  }

  -- an operation alone, after nothing was done
  pub alone_after : (old mid : Machine) (one : Op) → mid ≡ old → Stands code old.at one → Such (operate code one mid.at mid.held mid.state) → Soon Such code old
  alone_after old mid one same stands leads =
      let P : Machine → Type 0 = λ machine. Such (operate code one machine.at machine.held machine.state) in
      alone old.at old.held old.state one stands (subst P same leads)

  -- an operation that goes on, and those behind it
  onward : (at : ℕ) (held then_held : Held) (state then_state : State) (next : ℕ) (one : Op) → at + 1 ≡ next → Stands code at one → operate code one at held state ≡ goes (at + 1) then_held then_state → From next then_held then_state → From at held state
  onward at held then_held state then_state next one e stands does others = record {
    more = suc others.more;
    such =
        let P : Step → Type 0 = λ one. Such (more_steps code (suc others.more) one) in
        subst P (sym (ap (at_op code at held state) stands ∙ (does ∙ ap (λ at. goes at then_held then_state) e))) others.such;
  }

  -- a local that has a value, and what stands behind it
  with_local : (at : ℕ) (held : Held) (state : State) (next : ℕ) (place : Place) (number : ℕ) (value : Value) → at + 1 ≡ next → Stands code at (op.Local place number) → named state.locals number ≡ Some value → From next (pushed value held) state → From at held state
  with_local at held state next place number value e stands known others =
      onward at held (pushed value held) state state next (op.Local place number) e stands (ap (λ one. by (or_fault Unset place one state) (push at held)) known) others

  -- an operation that pushes what is computed, and then one that takes it
  taken : (at : ℕ) (before held : Held) (state : State) (next : ℕ) (one other : Op) (ran : Ran Value) (takes : Value → State → Step) → at + 1 ≡ next → Stands code at one → Stands code next other → operate code one at before state ≡ by ran (push at held) → ((value : Value) (state : State) → operate code other next (pushed value held) state ≡ takes value state) → Such (by ran takes) → From at before state
  taken at before held state next one other (Gives value then_state) takes e stands behind pushes does leads =
      onward at before (pushed value held) state then_state next one e stands pushes
      (alone next (pushed value held) then_state other behind (subst Such (sym (does value then_state)) leads))
  taken at before held state next one other (Faults kind place world units) takes e stands behind pushes does leads =
      alone at before state one stands (subst Such (sym pushes) leads)
  taken at before held state next one other (Spent place world) takes e stands behind pushes does leads =
      alone at before state one stands (subst Such (sym pushes) leads)

  module _ (at : ℕ) (held : Held) (state : State) where
    -- a local and a count are compared, and a turn begins or not
    pub turns : (place of to : Place) (number value count back : ℕ) (relation : Relation) (truth : Bool) → named state.locals number ≡ Some (plain.Count value)
        → Stands code at (op.Local place number) → Stands code (at + 1) (op.Push (plain.Count count)) → Stands code (at + 2) (op.Apply of (primitive.Compare relation) 2) → Stands code (at + 3) (op.Turn to back)
        → truth ≡ holds relation (plain.Count value) (plain.Count count) → Such (turn to back (at + 3) state (plain.Bool truth) held) → From at held state
    turns place of to number value count back relation truth known first second third fourth is leads =
        let P : Bool → Type 0 = λ truth. Such (turn to back (at + 3) state (plain.Bool truth) held) in
        let truth : Value = plain.Bool (holds relation (plain.Count value) (plain.Count count)) in
        let both : Held = pushed (plain.Count count) (pushed (plain.Count value) held) in
        with_local at held state (at + 1) place number (plain.Count value) refl first known
        (onward (at + 1) (pushed (plain.Count value) held) both state state (at + 2) (op.Push (plain.Count count)) (two at) second refl
        (onward (at + 2) both (pushed truth held) state state (at + 3) (op.Apply of (primitive.Compare relation) 2) (three at) third refl
        (alone (at + 3) (pushed truth held) state (op.Turn to back) fourth (subst P is leads))))

    -- a count is computed of a local and a count
    pub computes : (place of : Place) (number value count computed : ℕ) (operator : Binary) → named state.locals number ≡ Some (plain.Count value)
        → ((place : Place) (state : State) → binary place operator (plain.Count value) (plain.Count count) state ≡ Gives (plain.Count computed) state)
        → Stands code at (op.Local place number) → Stands code (at + 1) (op.Push (plain.Count count)) → Stands code (at + 2) (op.Apply of (primitive.Binary operator) 2)
        → Such (push (at + 2) held (plain.Count computed) state) → From at held state
    computes place of number value count computed operator known gives first second third leads =
        let both : Held = pushed (plain.Count count) (pushed (plain.Count value) held) in
        let P : Ran Value → Type 0 = λ ran. Such (by ran (push (at + 2) held)) in
        with_local at held state (at + 1) place number (plain.Count value) refl first known
        (onward (at + 1) (pushed (plain.Count value) held) both state state (at + 2) (op.Push (plain.Count count)) (two at) second refl
        (alone (at + 2) both state (op.Apply of (primitive.Binary operator) 2) third (subst P (sym (gives of state)) leads)))

    -- two locals that have values, and what stands behind them
    locals : (place of : Place) (number other : ℕ) (a b : Value) → named state.locals number ≡ Some a → named state.locals other ≡ Some b
        → Stands code at (op.Local place number) → Stands code (at + 1) (op.Local of other) → From (at + 2) (pushed b (pushed a held)) state → From at held state
    locals place of number other a b known also first second others =
        with_local at held state (at + 1) place number a refl first known (with_local (at + 1) (pushed a held) state (at + 2) of other b (two at) second also others)

  module _ (at : ℕ) (held : Held) (state : State) where
    -- a table has an entry or not, and it goes on by that
    pub there : (place of has to : Place) (number other key over : ℕ) (table : ObjectNo) → named state.locals number ≡ Some (plain.Count key) → named state.locals other ≡ Some (plain.Object table)
        → Stands code at (op.Local place number) → Stands code (at + 1) (op.Local of other) → Stands code (at + 2) (op.Apply has primitive.HasKey 2) → Stands code (at + 3) (op.Unless to over)
        → Such (by (has_key has (plain.Object table) (plain.Count key ∷ []) state) (λ truth state. unless to over (at + 3) state truth held)) → From at held state
    there place of has to number other key over table known also first second third fourth leads =
        locals at held state place of number other (plain.Count key) (plain.Object table) known also first second
        (taken (at + 2) (pushed (plain.Object table) (pushed (plain.Count key) held)) held state (at + 3) (op.Apply has primitive.HasKey 2) (op.Unless to over)
        (has_key has (plain.Object table) (plain.Count key ∷ []) state) (λ truth state. unless to over (at + 3) state truth held) (three at) third fourth refl (λ value state. refl) leads)

    -- a local is changed by an element of a table
    pub updates : (place of has to : Place) (number other key changed : ℕ) (table : ObjectNo) (operator : Binary) → named state.locals number ≡ Some (plain.Object table) → named state.locals other ≡ Some (plain.Count key)
        → Stands code at (op.Local place number) → Stands code (at + 1) (op.Local of other) → Stands code (at + 2) (op.Apply has primitive.Element 2) → Stands code (at + 3) (op.Do to (action.Update (left.Local changed) operator) 1)
        → Such (by (element has (plain.Object table) (plain.Count key ∷ []) state) (λ value state. by (act to (action.Update (left.Local changed) operator) (value ∷ []) state) (λ one. goes (at + 3 + 1) held))) → From at held state
    updates place of has to number other key changed table operator known also first second third fourth leads =
        locals at held state place of number other (plain.Object table) (plain.Count key) known also first second
        (taken (at + 2) (pushed (plain.Count key) (pushed (plain.Object table) held)) held state (at + 3) (op.Apply has primitive.Element 2) (op.Do to (action.Update (left.Local changed) operator) 1)
        (element has (plain.Object table) (plain.Count key ∷ []) state) (λ value state. by (act to (action.Update (left.Local changed) operator) (value ∷ []) state) (λ one. goes (at + 3 + 1) held)) (three at) third fourth refl (λ value state. refl) leads)

    -- an element of a table is given the value that was pushed last
    pub puts : (place of to : Place) (number other key : ℕ) (table : ObjectNo) → named state.locals number ≡ Some (plain.Object table) → named state.locals other ≡ Some (plain.Count key)
        → Stands code at (op.Local place number) → Stands code (at + 1) (op.Local of other) → Stands code (at + 2) (op.Do to (action.Assign left.Element) 3)
        → Such (operate code (op.Do to (action.Assign left.Element) 3) (at + 2) (pushed (plain.Count key) (pushed (plain.Object table) held)) state) → From at held state
    puts place of to number other key table known also first second third leads =
        locals at held state place of number other (plain.Object table) (plain.Count key) known also first second
        (alone (at + 2) (pushed (plain.Count key) (pushed (plain.Object table) held)) state (op.Do to (action.Assign left.Element) 3) third leads)

-- a local is one more or one less
stepped_goes : (of : Place) (number before after : ℕ) (direction : Direction) (state : State) → named state.locals number ≡ Some (plain.Count before)
    → ((place : Place) (state : State) → stepped place direction (plain.Count before) state ≡ Gives (plain.Count after) state)
    → perform of (primitive.Step (left.Local number) direction) [] state ≡ and_then (set_local number (Some (plain.Count after)) state) (λ one. pure (plain.Count after))
stepped_goes of number before after direction state known steps =
    ap (λ one. and_then (or_fault Unset of one state) (λ before. stepped of direction before >>= (λ after. assign of (left.Local number) [] after >> pure after))) known ∙
    ap (λ ran. and_then ran (λ after. assign of (left.Local number) [] after >> pure after)) (steps of state)

module _ (Such : Step → Type 0) (code : Code) (at : ℕ) (held : Held) (state : State) where
  abbrev with_units : ℕ → State
  with_units units = record state { units = units }

  -- a unit, and a local that is one more or one less
  pub counts_on : (place of : Place) (number before after : ℕ) (direction : Direction) → named state.locals number ≡ Some (plain.Count before)
      → ((place : Place) (state : State) → stepped place direction (plain.Count before) state ≡ Gives (plain.Count after) state)
      → Stands code at (op.Tick place) → Stands code (at + 1) (op.Apply of (primitive.Step (left.Local number) direction) 0) → Stands code (at + 2) op.Drop
      → Such (by (tick place state) (λ one state. by (set_local number (Some (plain.Count after)) state) (λ one. goes (at + 2 + 1) held))) → From Such code at held state
  counts_on place of number before after direction known steps first second third leads = go state.units leads
    where
      go : (units : ℕ) → Such (by (spend place (with_units units) units) (λ one state. by (set_local number (Some (plain.Count after)) state) (λ one. goes (at + 2 + 1) held))) → From Such code at held (with_units units)
      go zero leads = alone Such code at held (with_units zero) (op.Tick place) first leads
      go (suc units) leads =
          let done : State = record state { units = units; locals = slice_set state.locals number (Some (plain.Count after)) } in
          onward Such code at held held (with_units (suc units)) (with_units units) (at + 1) (op.Tick place) refl first refl
          (onward Such code (at + 1) held (pushed (plain.Count after) held) (with_units units) done (at + 2) (op.Apply of (primitive.Step (left.Local number) direction) 0) (two at) second
          (ap (λ ran. by ran (push (at + 1) held)) (stepped_goes of number before after direction (with_units units) known steps))
          (alone Such code (at + 2) (pushed (plain.Count after) held) done op.Drop third leads))
