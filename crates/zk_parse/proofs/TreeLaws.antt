-- Trees: what is read is spelled so, what is spelled so is read, and what is refused.
use Rattle.std.proofs.Common.{◌≡◌, ◌↔◌, ◌≢◌, ℕ, zero, suc, ◌+◌, ◌-◌, ◌<◌, ◌≤◌, List, [], ◌∷◌, ◌++◌, length, length-append, drop, Option, Some, None, Ok, Err, refl, sym, ap, subst, ◌∙◌, append_assoc, arith, inl, inr, ◌⊎◌}
use Rattle.std.proofs.lemmas.List.{append-nil, length-drop}
use Rattle.zk_tree.specs.declared.token.Token.{Token}
use Rattle.zk_tree.specs.declared.decl.Decl.{Decl}
use Rattle.zk_tree.specs.declared.decl.Tree.{Tree}
use Rattle.zk_tree.specs.Rules.{ADecl, Repeated}
use Rattle.zk_tree.specs.Reading.{IsDecl, max_nesting, Reads, IsRefusedAt}
use Rattle.zk_parse_core.specs.Reading.{within}
use Rattle.zk_parse.specs.declared.parsing.Front.{Front}
use Rattle.zk_parse.specs.Trees.{decl_at, with_first, stopped, front_from, front_of, whole, tree_of, IsStopped}
use Rattle.zk_parse_core.proofs.Theorem.{repeated_ends}
use Rattle.zk_parse_core.proofs.Scripts.{exact}

-- something, or nothing
option_cases : {A : Type 0} (o : Option A) → (o ≡ None) ⊎ ((x : A) × (o ≡ Some x))
option_cases None = inl refl
option_cases (Some x) = inr (x, refl)

-- what reads a declaration
pub decl_is : (tokens : List Token) → decl_at tokens ≡ within max_nesting Decl ADecl tokens
unfolding decl_at
decl_is tokens = refl

decl_taken : (tokens : List Token) (x : Decl × List Token) → decl_at tokens ≡ Some x → IsDecl x.0 tokens x.1
unfolding decl_at
decl_taken tokens x e = (exact max_nesting).taken Decl ADecl tokens x e

decl_again : (d : Decl) (tokens rest : List Token) → IsDecl d tokens rest → decl_at tokens ≡ Some (d, rest)
unfolding decl_at
decl_again d tokens rest p = (exact max_nesting).again Decl ADecl d tokens rest p refl

-- a declaration has tokens
decl_shorter : (d : Decl) (tokens rest : List Token) → IsDecl d tokens rest → length rest < length tokens
decl_shorter d tokens rest p = (exact max_nesting).short Decl ADecl d tokens rest p

pub decl_at-shorter : (tokens : List Token) (x : Decl × List Token) → decl_at tokens ≡ Some x → length x.1 < length tokens
decl_at-shorter tokens x e = decl_shorter x.0 tokens x.1 (decl_taken tokens x e)

decls_read : (n all : ℕ) (t : Token) (tokens : List Token) (x : Decl × List Token) → decl_at (t ∷ tokens) ≡ Some x
    → front_from (suc n) all (t ∷ tokens) ≡ with_first x.0 (front_from n all x.1)
unfolding front_from
decls_read n all t tokens x e = rw (e, front_from) refl

decls_unread : (n all : ℕ) (t : Token) (tokens : List Token) → decl_at (t ∷ tokens) ≡ None
    → front_from (suc n) all (t ∷ tokens) ≡ stopped all (t ∷ tokens)
unfolding front_from
decls_unread n all t tokens e = rw (e, front_from) refl

decls_end : (n all : ℕ) → front_from n all [] ≡ record { decls = []; stop = None }
unfolding front_from
decls_end n all = refl

-- what declarations are, and where they end
abbrev AreDecls : List Decl → List Token → List Token → Type 0
AreDecls decls tokens rest = Repeated IsDecl decls tokens rest

abbrev all_of : List Decl → Front
all_of decls = record { decls = decls; stop = None }

abbrev up_to : List Decl → ℕ → Front
up_to decls at = record { decls = decls; stop = Some at }

decls_again : (n all : ℕ) (tokens : List Token) (decls : List Decl) → length tokens ≤ n → AreDecls decls tokens [] → front_from n all tokens ≡ all_of decls
decls_again n all tokens [] le h = ap (front_from n all) h ∙ decls_end n all
decls_again n all [] (d ∷ decls) le h = absurd (omega (arith, decl_shorter d [] h.0 h.1))
decls_again zero all (t ∷ tokens) (d ∷ decls) le h = absurd (omega arith)
decls_again (suc n) all (t ∷ tokens) (d ∷ decls) le h =
    let first = decl_again d (t ∷ tokens) h.0 h.1 in
    let short = decl_shorter d (t ∷ tokens) h.0 h.1 in
    let others = decls_again n all h.0 decls (omega arith) h.2 in
    decls_read n all t tokens (d, h.0) first ∙ ap (with_first d) others

-- declarations, and then what begins none, stop at its first token
decls_stuck : (n all : ℕ) (tokens rest : List Token) (decls : List Decl) → length tokens ≤ n → AreDecls decls tokens rest → 0 < length rest → decl_at rest ≡ None
    → front_from n all tokens ≡ up_to decls (all - length rest)
decls_stuck n all [] rest [] le h more none = absurd (omega (arith, more, ap length h))
decls_stuck n all [] rest (d ∷ decls) le h more none = absurd (omega (arith, decl_shorter d [] h.0 h.1))
decls_stuck zero all (t ∷ tokens) rest decls le h more none = absurd (omega arith)
decls_stuck (suc n) all (t ∷ tokens) rest [] le h more none =
    decls_unread n all t tokens (ap decl_at h ∙ none) ∙ ap (stopped all) h
decls_stuck (suc n) all (t ∷ tokens) rest (d ∷ decls) le h more none =
    let first = decl_again d (t ∷ tokens) h.0 h.1 in
    let short = decl_shorter d (t ∷ tokens) h.0 h.1 in
    let others = decls_stuck n all h.0 rest decls (omega arith) h.2 more none in
    decls_read n all t tokens (d, h.0) first ∙ ap (with_first d) others

-- declarations were read from the front, and stand before no token or before one at which none reads
record Ends (all : ℕ) (tokens : List Token) (front : Front) : Type 0 where
  pub rest : List Token
  pub are : AreDecls front.decls tokens rest
  pub inside : length rest ≤ all
  pub ends : ((front.stop ≡ None) × (rest ≡ [])) ⊎ ((front.stop ≡ Some (all - length rest)) × (0 < length rest) × (decl_at rest ≡ None))

ends_at : (n all : ℕ) (tokens : List Token) → length tokens ≤ n → length tokens ≤ all → Ends all tokens (front_from n all tokens)
ends_at n all [] le inside = subst (λ (f : Front). Ends all [] f) (sym (decls_end n all)) (record { rest = []; are = refl; inside = omega arith; ends = inl (refl, refl) })
ends_at zero all (t ∷ tokens) le inside = absurd (omega arith)
ends_at (suc n) all (t ∷ tokens) le inside = elim (option_cases (decl_at (t ∷ tokens))) [
  | inl none ↦
      subst (λ (f : Front). Ends all (t ∷ tokens) f) (sym (decls_unread n all t tokens none))
      (record { rest = t ∷ tokens; are = refl; inside = inside; ends = inr (refl, omega arith, none) })
  | inr found ↦
      let short = decl_at-shorter (t ∷ tokens) found.0 found.1 in
      let others = ends_at n all found.0.1 (omega arith) (omega arith) in
      subst (λ (f : Front). Ends all (t ∷ tokens) f) (sym (decls_read n all t tokens found.0 found.1)) (record {
        rest = others.rest;
        are = (found.0.1, decl_taken (t ∷ tokens) found.0 found.1, others.are);
        inside = others.inside;
        ends = others.ends;
      })
]

all_ends : (tokens : List Token) → Ends (length tokens) tokens (front_of tokens)
unfolding front_of
all_ends tokens = ends_at (length tokens) (length tokens) tokens (omega arith) (omega arith)

-- what is left of the tokens is what stands behind the first of them
behind_front : (front rest : List Token) → drop (length front) (front ++ rest) ≡ rest
behind_front [] rest = refl
behind_front (t ∷ front) rest = behind_front front rest

left_is : (decls : List Decl) (tokens rest : List Token) (at : ℕ) → AreDecls decls tokens rest → at + length rest ≡ length tokens → drop at tokens ≡ rest
left_is decls tokens rest at are place =
    let end = repeated_ends IsDecl (λ d ts after p. (exact max_nesting).ends Decl ADecl d ts after p) decls tokens rest are in
    let long : at ≡ length end.front = omega (arith, ap length end.all, length-append end.front rest) in
    ap (λ n. drop n tokens) long ∙ ap (drop (length end.front)) end.all ∙ behind_front end.front rest

-- where no declaration is spelled at the front, none is read
unspelled : (tokens : List Token) → ((d : Decl) (rest : List Token) → IsDecl d tokens rest → ⊥) → decl_at tokens ≡ None
unspelled tokens never = elim (option_cases (decl_at tokens)) [
  | inl none ↦ none
  | inr found ↦ absurd (never found.0.0 found.0.1 (decl_taken tokens found.0 found.1))
]

front_whole : (tokens : List Token) (decls : List Decl) → front_of tokens ≡ all_of decls → Reads tokens (record { decls = decls })
front_whole tokens decls e =
    let end = subst (λ (f : Front). Ends (length tokens) tokens f) e (all_ends tokens) in
    elim end.ends [
      | inl none ↦ subst (λ (rest : List Token). AreDecls decls tokens rest) none.1 end.are
      | inr some ↦ absurd (let never = some.0 in cc)
    ]

whole_again : (tokens : List Token) (decls : List Decl) → Reads tokens (record { decls = decls }) → front_of tokens ≡ all_of decls
unfolding front_of
whole_again tokens decls reads = decls_again (length tokens) (length tokens) tokens decls (omega arith) reads

front_stopped : (tokens : List Token) (decls : List Decl) (at : ℕ) → front_of tokens ≡ up_to decls at → IsStopped tokens decls at
front_stopped tokens decls at e =
    let end = subst (λ (f : Front). Ends (length tokens) tokens f) e (all_ends tokens) in
    elim end.ends [
      | inl none ↦ absurd (let never = none.0 in cc)
      | inr some ↦
          let place : at ≡ length tokens - length end.rest = cc in
          let same = left_is decls tokens end.rest at end.are (omega (arith, place, end.inside)) in
          record {
            inside = omega (arith, place, end.inside, some.1);
            read = subst (λ (ts : List Token). AreDecls decls tokens ts) (sym same) end.are;
            none = λ d rest p.
                let read = decl_again d (drop at tokens) rest p in
                let unread : decl_at (drop at tokens) ≡ None = ap decl_at same ∙ some.2 in
                absurd cc;
          }
    ]

stopped_again : (tokens : List Token) (decls : List Decl) (at : ℕ) → IsStopped tokens decls at → front_of tokens ≡ up_to decls at
unfolding front_of
stopped_again tokens decls at is =
    let all = length tokens in
    let rest = drop at tokens in
    let more : 0 < length rest = omega (arith, length-drop at tokens, is.inside) in
    let place : all - length rest ≡ at = omega (arith, length-drop at tokens, is.inside) in
    decls_stuck all all tokens rest decls (omega arith) is.read more (unspelled rest is.none) ∙ ap (up_to decls) place

-- Declarations are all of the tokens exactly where these are those that they spell.
pub front_of-whole : (tokens : List Token) (decls : List Decl) → (front_of tokens ≡ all_of decls) ↔ Reads tokens (record { decls = decls })
front_of-whole tokens decls = (front_whole tokens decls, whole_again tokens decls)

-- They end at a token exactly where those before it spell them and none reads from it.
pub front_of-stopped : (tokens : List Token) (decls : List Decl) (at : ℕ) → (front_of tokens ≡ up_to decls at) ↔ IsStopped tokens decls at
front_of-stopped tokens decls at = (front_stopped tokens decls at, stopped_again tokens decls at)

whole-ok : (front : Front) (tree : Tree) → whole front.decls front.stop ≡ Ok tree → front ≡ all_of tree.decls
whole-ok front tree = elim front.stop as (λ (o : Option ℕ). whole front.decls o ≡ Ok tree → record { decls = front.decls; stop = o } ≡ all_of tree.decls) [
  | None ↦ λ e. cc
  | Some at ↦ λ e. absurd cc
]

whole-err : (front : Front) (at : ℕ) → whole front.decls front.stop ≡ Err at → front ≡ up_to front.decls at
whole-err front at = elim front.stop as (λ (o : Option ℕ). whole front.decls o ≡ Err at → record { decls = front.decls; stop = o } ≡ up_to front.decls at) [
  | None ↦ λ e. absurd cc
  | Some n ↦ λ e. cc
]

-- A tree is read exactly where the tokens are those that it spells.
pub tree_of-tree : (tokens : List Token) (tree : Tree) → (tree_of tokens ≡ Ok tree) ↔ Reads tokens tree
tree_of-tree tokens tree = (λ e. front_whole tokens tree.decls (whole-ok (front_of tokens) tree e), λ reads. ap (λ (f : Front). whole f.decls f.stop) (whole_again tokens tree.decls reads))

-- A token is refused exactly where no declaration reads from it and whole ones stand before it.
pub tree_of-refusal : (tokens : List Token) (at : ℕ) → (tree_of tokens ≡ Err at) ↔ IsRefusedAt tokens at
tree_of-refusal tokens at = (
  (λ e.
      let is = front_stopped tokens (front_of tokens).decls at (whole-err (front_of tokens) at e) in
      record { inside = is.inside; before = (front_of tokens).decls; read = is.read; none = is.none }),
  (λ is. ap (λ (f : Front). whole f.decls f.stop) (stopped_again tokens is.before at (record { inside = is.inside; read = is.read; none = is.none }))),
)

-- ---- reading one declaration after another, as a loop does

-- what was read before, and what is still read
abbrev pub with_decls : List Decl → Front → Front
with_decls front others = record { decls = front ++ others.decls; stop = others.stop }

-- what was read before, and all that is read from the rest, is the whole
pub record IsReadTo (tokens : List Token) (front : List Decl) (rest : List Token) : Type 0 where
  pub fuel : ℕ
  pub enough : length rest ≤ fuel
  pub within : length rest ≤ length tokens
  pub whole : with_decls front (front_from fuel (length tokens) rest) ≡ front_of tokens

with_decls-first : (front : List Decl) (d : Decl) (others : Front) → with_decls front (with_first d others) ≡ with_decls (front ++ d ∷ []) others
with_decls-first front d others = ap (λ (ds : List Decl). record { decls = ds; stop = others.stop }) (sym (append_assoc front (d ∷ []) others.decls))

further : (tokens : List Token) (front : List Decl) (t : Token) (rest : List Token) (x : Decl × List Token) (n : ℕ) → length (t ∷ rest) ≤ n → length (t ∷ rest) ≤ length tokens
    → with_decls front (front_from n (length tokens) (t ∷ rest)) ≡ front_of tokens → decl_at (t ∷ rest) ≡ Some x
    → IsReadTo tokens (front ++ x.0 ∷ []) x.1
further tokens front t rest x zero enough within whole e = absurd (omega arith)
further tokens front t rest x (suc n) enough within whole e =
    let short = decl_at-shorter (t ∷ rest) x e in
    record {
      fuel = n;
      enough = omega arith;
      within = omega arith;
      whole = sym (with_decls-first front x.0 (front_from n (length tokens) x.1)) ∙ sym (ap (with_decls front) (decls_read n (length tokens) t rest x e)) ∙ whole;
    }

-- nothing is read yet
pub read_to_begin : (tokens : List Token) → IsReadTo tokens [] tokens
unfolding front_of
read_to_begin tokens = record { fuel = length tokens; enough = omega arith; within = omega arith; whole = refl }

-- one more is read
pub read_to_further : (tokens : List Token) (front : List Decl) (rest : List Token) (x : Decl × List Token) → IsReadTo tokens front rest → decl_at rest ≡ Some x
    → IsReadTo tokens (front ++ x.0 ∷ []) x.1
read_to_further tokens front [] x so_far e = absurd (omega (arith, decl_at-shorter [] x e))
read_to_further tokens front (t ∷ rest) x so_far e = further tokens front t rest x so_far.fuel so_far.enough so_far.within so_far.whole e

stuck : (tokens : List Token) (front : List Decl) (t : Token) (rest : List Token) (n : ℕ) → length (t ∷ rest) ≤ n
    → with_decls front (front_from n (length tokens) (t ∷ rest)) ≡ front_of tokens → decl_at (t ∷ rest) ≡ None
    → front_of tokens ≡ up_to front (length tokens - length (t ∷ rest))
stuck tokens front t rest zero enough whole e = absurd (omega arith)
stuck tokens front t rest (suc n) enough whole e =
    sym whole ∙ ap (with_decls front) (decls_unread n (length tokens) t rest e)
    ∙ ap (λ (ds : List Decl). up_to ds (length tokens - length (t ∷ rest))) (append-nil front)

-- none is read where one should
pub read_to_stuck : (tokens : List Token) (front : List Decl) (rest : List Token) → IsReadTo tokens front rest → length rest ≢ 0 → decl_at rest ≡ None
    → front_of tokens ≡ up_to front (length tokens - length rest)
read_to_stuck tokens front [] so_far more e = absurd (more refl)
read_to_stuck tokens front (t ∷ rest) so_far more e = stuck tokens front t rest so_far.fuel so_far.enough so_far.whole e

-- no token is left
pub read_to_end : (tokens : List Token) (front : List Decl) (rest : List Token) → IsReadTo tokens front rest → length rest ≡ 0 → front_of tokens ≡ all_of front
read_to_end tokens front [] so_far none =
    sym so_far.whole ∙ ap (with_decls front) (decls_end so_far.fuel (length tokens)) ∙ ap (λ (ds : List Decl). all_of ds) (append-nil front)
read_to_end tokens front (t ∷ rest) so_far none = absurd (omega arith)
