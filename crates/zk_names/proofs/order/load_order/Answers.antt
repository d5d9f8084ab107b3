use Rattle.std.proofs.Common.{◌≡◌, ◌+◌, ◌<◌, length, drop, true, false, ap, sym, ◌∙◌}
use Rattle.zk_typed.specs.LoadOrder.{Found, Walk, enter, is_in, roots, walk_to}
use Rattle.zk_scope.specs.Lent.{files_of}
use Rattle.zk_names.specs.Lines.{found_of}
use Rattle.zk_names.proofs.LineLaws.{roots_on, roots_enter, as_many}
use Rattle.zk_names.proofs.order.load_order.Goals as goal
use Rattle.zk_names.proofs.order.load_order.Goals.{then-not-is_placed+in_ok-enter+in_ok-walk, else-not-is_placed}

pub loop-number-preserved : goal.loop-number-preserved
loop-number-preserved c =
    let files = files_of c.args.files.now in
    let number = c.loop-number.number in
    let found = found_of c.loop-number.found in
    let walk : Walk = walk_to (length files) files in
    let within : number < length files = rw (as_many c.args.files.now) c.loop-number-test.true in
    let depth : walk_to (length c.args.files.now) files number false ≡ walk number false = ap (λ n. walk_to n files number false) (sym (as_many c.args.files.now)) in
    elim c.if-not-is_placed.branch [
      | then-not-is_placed+in_ok-enter+in_ok-walk w ↦
          (let truth = w.if-not-is_placed.true in
          let placed : is_in number c.loop-number.found.placed.items ≡ false = cc in
          let entered : found_of w.enter.new.found ≡ enter number found = w.in_ok-enter.ensures.entered in
          let walked : found_of c.if-not-is_placed.found ≡ walk number false (enter number found) =
          ap found_of w.found-is ∙ w.in_ok-walk.ensures ∙ ap (walk_to (length c.args.files.now) files number false) entered ∙ ap (λ (f : Found → Found). f (enter number found)) depth in
          ap (λ f. (roots walk (number + 1) f (drop (number + 1) files)).stated) walked ∙ ap (λ (f : Found). f.stated) (sym (roots_enter walk files number found within placed)) ∙ c.loop-number.invariant)
      | else-not-is_placed w ↦
          (let truth = w.if-not-is_placed.false in
          let placed : is_in number c.loop-number.found.placed.items ≡ true = cc in
          ap (λ f. (roots walk (number + 1) (found_of f) (drop (number + 1) files)).stated) w.found-is ∙ ap (λ (f : Found). f.stated) (sym (roots_on walk files number found within placed)) ∙ c.loop-number.invariant)
    ]
