use Rattle.std.proofs.Common.{ℕ, ◌≡◌, ◌≤◌, ◌+◌, ◌-◌, List, ◌++◌, take, drop, length, arith, sym, ap, ◌∙◌, length-append, length-drop}
use Rattle.std.proofs.lemmas.List.{drop-append-le, drop-drop, drop-take}
use Rattle.zk_top.proofs.line.LineText.put_again.Goals as goal

-- what ends a window of w bytes are the n bytes that end where it does
ends_window : (bytes : List ℕ) (s b n w : ℕ) → n ≤ w → w ≤ s + b + n → drop (w - n) (take (s + b + n - (s + b + n - w)) (drop (s + b + n - w) bytes)) ≡ take n (drop b (drop s bytes))
ends_window bytes s b n w short far =
    let parts : s + b + n - (s + b + n - w) ≡ w - n + n = omega arith in
    let place : s + b + n - w + (w - n) ≡ s + b = omega arith in
    ap (λ (k : ℕ). drop (w - n) (take k (drop (s + b + n - w) bytes))) parts
    ∙ drop-take (w - n) n (drop (s + b + n - w) bytes)
    ∙ ap (take n) (drop-drop (w - n) (s + b + n - w) bytes ∙ ap (λ (k : ℕ). drop k bytes) place ∙ sym (drop-drop b s bytes))

pub invariant_of-self : goal.invariant_of-self
invariant_of-self c =
    let whole = ap length c.self-2.view_is in
    let rest = length-drop c.self-2.inside.start c.self-2.inside.bytes in
    let text = ap length c.put.ensures in
    let parts = length-append c.copy_from_slice.new.self c.args.self.now in
    let copied = c.copy_from_slice.ensures.len in
    omega (arith, whole, rest, text, parts, copied)

pub returns : goal.returns
returns c =
    let before = ap length c.self.view_is in
    let rest = length-drop c.self.inside.start c.self.inside.bytes in
    let copied = c.copy_from_slice.ensures.len in
    let from = c.self.inside.start in
    let bytes = c.self.inside.bytes in
    let copy = c.copy_from_slice.new.self in
    let cut = 21 - c.args.count in
    let window : drop cut copy ≡ take c.args.count (drop c.args.behind (drop from bytes)) =
    ap (drop cut) c.copy_from_slice.ensures.after ∙ ends_window bytes from c.args.behind c.args.count 21 c.requires.short (omega (arith, before, rest)) in
    let text : drop c.self-2.inside.start c.self-2.inside.bytes ≡ copy ++ c.args.self.now = c.self-2.view_is ∙ c.put.ensures in
    sym (drop-drop cut c.self-2.inside.start c.self-2.inside.bytes)
    ∙ ap (drop cut) text
    ∙ drop-append-le cut copy c.args.self.now (omega (arith, copied))
    ∙ ap (λ (l : List ℕ). l ++ c.args.self.now) (window ∙ ap (λ (l : List ℕ). take c.args.count (drop c.args.behind l)) c.self.view_is)
