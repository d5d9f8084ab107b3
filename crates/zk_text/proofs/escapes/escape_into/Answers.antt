use Rattle.std.proofs.Common.{◌≡◌, ◌+◌, ◌-◌, ℕ, List, [], ◌∷◌, ◌++◌, length, take, drop, get_or, flat_map, arith, sym, ap, ◌∙◌, refl, length-append, append_assoc, append-nil, take-append-drop, drop-cons, add-one}
use Rattle.std.proofs.lemmas.List.{drop-drop, drop_all}
use Rattle.zk_text.proofs.EscapeLaws.{are_bytes, escaped_injective, escaped_is_cell}
use Rattle.zk_text.specs.Escape.{byte_text, escaped, piece}
use Rattle.zk_text.proofs.escapes.escape_into.Goals as goal

pub loop-byte-preserved : goal.loop-byte-preserved
loop-byte-preserved c =
    let step = c.write_piece-len-in-loop-byte in
    let k = c.loop-byte.byte-index in
    let rest : List ℕ = take (length c.args.text.now - 1) (drop 1 c.args.text.now) in
    let byte : ℕ = get_or rest k 0 in
    let texts : List ℕ → List ℕ = flat_map (byte_text c.args.in_set) in
    let next : drop k rest ≡ byte ∷ drop (k + 1) rest = rw add-one (drop-cons rest k 0 c.loop-byte-test.true) in
    let before : take c.loop-byte.len c.loop-byte.out ++ byte_text c.args.in_set byte ++ texts (drop (k + 1) rest) ≡ escaped c.args.in_set c.args.text.now =
    rw append_assoc (ap (λ (l : List ℕ). take c.loop-byte.len c.loop-byte.out ++ texts l) (sym next) ∙ c.loop-byte.invariant.written) in
    let longer : length (texts (drop k rest)) ≡ length (byte_text c.args.in_set byte) + length (texts (drop (k + 1) rest)) =
    ap (λ (l : List ℕ). length (texts l)) next ∙ length-append (byte_text c.args.in_set byte) (texts (drop (k + 1) rest)) in
    let more = length (piece c.is_escaped.result byte) in
    record {
      written = rw (step.ensures.text, c.is_escaped.ensures) before;
      left = rw (step.ensures.end, c.is_escaped.ensures) (omega (arith, longer, c.loop-byte.invariant.left));
      others = step.ensures.rest ∙ rw step.ensures.end (sym (drop-drop more c.loop-byte.len c.loop-byte.out) ∙ ap (drop more) c.loop-byte.invariant.others ∙ drop-drop more c.loop-byte.len c.args.out.now);
    }

pub returns-clause-text : goal.returns-clause-text
returns-clause-text c =
    let rest : List ℕ = take (length c.args.text.now - 1) (drop 1 c.args.text.now) in
    let none : drop c.loop-byte.byte-index rest ≡ [] = drop_all c.loop-byte.byte-index rest c.loop-byte-test.false in
    let all : take c.loop-byte.len c.loop-byte.out ≡ escaped c.args.in_set c.args.text.now =
    sym (append-nil (take c.loop-byte.len c.loop-byte.out)) ∙ ap (λ (l : List ℕ). take c.loop-byte.len c.loop-byte.out ++ flat_map (byte_text c.args.in_set) l) (sym none) ∙ c.loop-byte.invariant.written in
    let len : c.loop-byte.len ≡ length (escaped c.args.in_set c.args.text.now) =
    omega (arith, c.loop-byte.invariant.left, ap (λ (l : List ℕ). length (flat_map (byte_text c.args.in_set) l)) none) in
    sym (take-append-drop c.loop-byte.len c.loop-byte.out) ∙ rw (all, c.loop-byte.invariant.others, len) refl

pub returns-then-out-escaped_len-clause-alone : goal.returns-then-out-escaped_len-clause-alone
returns-then-out-escaped_len-clause-alone c =
    λ other bytes same. escaped_injective c.args.in_set other c.args.text.now (are_bytes other bytes) (λ k. omega (arith, c.type_inv.text k)) same

pub returns-then-out-escaped_len-clause-cell : goal.returns-then-out-escaped_len-clause-cell
returns-then-out-escaped_len-clause-cell c = escaped_is_cell c.args.in_set c.args.text.now (λ k. omega (arith, c.type_inv.text k))

pub returns-clause-alone : goal.returns-clause-alone
returns-clause-alone c =
    λ other bytes same. escaped_injective c.args.in_set other c.args.text.now (are_bytes other bytes) (λ k. omega (arith, c.type_inv.text k)) same

pub returns-clause-cell : goal.returns-clause-cell
returns-clause-cell c = escaped_is_cell c.args.in_set c.args.text.now (λ k. omega (arith, c.type_inv.text k))
