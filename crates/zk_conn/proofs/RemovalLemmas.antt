-- The tree of the index of removals: where one filing changed, and its first removal.
use Rattle.std.proofs.Common.{◌≡◌, ℕ, ◌+◌, ◌-◌, ◌*◌, ◌/◌, ◌<◌, ◌≤◌, ◌++◌, take, replicate, zero, suc, Bool, true, false, cond, List, length, Option, Some, None, refl, sym, ap, subst, ◌∙◌, arith, ⊎_elim, inl, inr, ◌⊎◌}
use Rattle.std.specs.Option.{option_map}
use Rattle.std.proofs.Math.ListN.{set}
use Rattle.std.proofs.lemmas.Bool.{cases_eq, cases_lt, true≢false}
use Rattle.std.proofs.lemmas.Grind.{common_steps}
use Rattle.std.proofs.lemmas.List.{set-get_or, with_items_is}
use Rattle.std.specs.Global.{Vec}
use Rattle.std.specs.Vec.{with_items}
use Rattle.slab.specs.Slab.{Slab, get}
use Rattle.zk_conn.specs.declared.instance.Instance.{Instance}
use Rattle.zk_conn.specs.declared.removals.Filing.{Filing}
use Rattle.zk_conn.specs.declared.removals.Removals.{Removals}
use Rattle.zk_conn.specs.Removals.{at_slot, is_before, is_sooner, earlier, filing_at, filing_of, first_at, AtMost, AtMostBut, IsAmong, IsFirst, IsFirstBut, IsNode, AllBut, IsTree, IsRaised, IsIndexOf}
use Rattle.zk_conn.proofs.MomentLemmas.{is_earlier-irrefl, is_earlier-asym, is_earlier-trans}

at_most-refl : (a : Option Filing) → AtMost a a
at_most-refl a f is = (f, is, is_earlier-irrefl f.at.0 f.number)

pub at_most-trans : (a b c : Option Filing) → AtMost a b → AtMost b c → AtMost a c
at_most-trans a b c first second f is =
    let mid = second f is in
    let top = first mid.0 mid.1 in
    (top.0, top.1, is_earlier-trans f.at.0 mid.0.at.0 top.0.at.0 f.number mid.0.number top.0.number mid.2 top.2)

same_filing : (x f : Filing) → Some x ≡ Some f → x ≡ f
same_filing x f is = cc

-- the one of two that stands first stands before each of them
pub earlier-left : (a b : Option Filing) → AtMost (earlier a b) a
earlier-left None b f is = cc
earlier-left (Some x) None f is = at_most-refl (Some x) f is
earlier-left (Some x) (Some y) f is = by_cases (is_before y x) refl
  where
    by_cases : (t : Bool) → is_before y x ≡ t → (g : Filing) × (cond (is_before y x) (Some y) (Some x) ≡ Some g) × (is_before f g ≡ false)
    by_cases true before = (
      y,
      ap (λ b. cond b (Some y) (Some x)) before,
      subst (λ z. is_before z y ≡ false) (same_filing x f is) (is_earlier-asym y.at.0 x.at.0 y.number x.number before),
    )
    by_cases false after = (
      x,
      ap (λ b. cond b (Some y) (Some x)) after,
      subst (λ z. is_before z x ≡ false) (same_filing x f is) (is_earlier-irrefl x.at.0 x.number),
    )

pub earlier-right : (a b : Option Filing) → AtMost (earlier a b) b
earlier-right None b f is = at_most-refl b f is
earlier-right (Some x) None f is = cc
earlier-right (Some x) (Some y) f is = by_cases (is_before y x) refl
  where
    by_cases : (t : Bool) → is_before y x ≡ t → (g : Filing) × (cond (is_before y x) (Some y) (Some x) ≡ Some g) × (is_before f g ≡ false)
    by_cases true before = (
      y,
      ap (λ b. cond b (Some y) (Some x)) before,
      subst (λ z. is_before z y ≡ false) (same_filing y f is) (is_earlier-irrefl y.at.0 y.number),
    )
    by_cases false after = (
      x,
      ap (λ b. cond b (Some y) (Some x)) after,
      subst (λ z. is_before z x ≡ false) (same_filing y f is) after,
    )

-- the one of two that stands first is one of them
pub earlier-among : (a b : Option Filing) (g : Filing) → earlier a b ≡ Some g → (a ≡ Some g) ⊎ (b ≡ Some g)
earlier-among None b g is = inr is
earlier-among (Some x) None g is = inl is
earlier-among (Some x) (Some y) g is = by_cases (is_before y x) refl
  where
    by_cases : (t : Bool) → is_before y x ≡ t → (Some x ≡ Some g) ⊎ (Some y ≡ Some g)
    by_cases true before = inr (sym (ap (λ b. cond b (Some y) (Some x)) before) ∙ is)
    by_cases false after = inl (sym (ap (λ b. cond b (Some y) (Some x)) after) ∙ is)

none_some : {f : Filing} {o : Option Filing} → o ≡ None → o ≡ Some f → ⊥
none_some none some = cc

-- the one of three that stands first is the first of them
earliest-first : (own left right : Option Filing) → IsFirst (earlier (earlier own left) right) own left right
earliest-first own left right = record {
  own_is = at_most-trans (earlier both right) both own (earlier-left both right) (earlier-left own left);
  left_is = at_most-trans (earlier both right) both left (earlier-left both right) (earlier-right own left);
  right_is = earlier-right both right;
  among = λ f is. ⊎_elim
      (λ of_both. ⊎_elim (λ of_own. inl of_own) (λ of_left. inr (inl of_left)) (earlier-among own left f of_both))
      (λ of_right. inr (inr of_right))
      (earlier-among both right f is);
}
  where
    both : Option Filing
    both = earlier own left

-- the first of the same three is the same
same_first : {first own left right first' own' left' right' : Option Filing} → first' ≡ first → own' ≡ own → left' ≡ left → right' ≡ right
    → IsFirst first own left right → IsFirst first' own' left' right'
same_first {first} {own} {left} {right} {first'} {own'} {left'} {right'} firsts owns lefts rights is =
    subst (λ x. IsFirst x own' left' right') (sym firsts)
    (subst (λ x. IsFirst first x left' right') (sym owns)
    (subst (λ x. IsFirst first own x right') (sym lefts)
    (subst (λ x. IsFirst first own left x) (sym rights) is)))

set_here : (l : List (Option Filing)) (n : ℕ) (x : Option Filing) → n < length l → at_slot (set l n x) n ≡ x
set_here l n x within = grind (arith, common_steps, within)

set_apart : (l : List (Option Filing)) (n m : ℕ) (x : Option Filing) → (m ≡ n → ⊥) → at_slot (set l n x) m ≡ at_slot l m
set_apart l n m x apart = grind (arith, common_steps, apart)

set_length : (l : List (Option Filing)) (n : ℕ) (x : Option Filing) → length (set l n x) ≡ length l
set_length l n x = grind (arith, common_steps)

-- the index with a slot that knows another first, which is right for it: each other slot is right but that above it
module _ (filings firsts : List (Option Filing)) (at : ℕ) (within : at < length firsts) (x : Option Filing) where
  abbrev written : List (Option Filing)
  written = set firsts at x

  node_written : AllBut filings firsts at → IsFirst x (at_slot filings at) (at_slot firsts (2 * at + 1)) (at_slot firsts (2 * at + 2))
      → (slot : ℕ) → slot < length firsts → (2 * slot + 1 ≡ at → ⊥) → (2 * slot + 2 ≡ at → ⊥) → IsNode filings written slot
  node_written all first slot in_index left right =
      ⊎_elim
      (λ here. subst (λ s. IsNode filings written s) (sym here)
      (same_first (set_here firsts at x within) refl (set_apart firsts at (2 * at + 1) x (λ e. omega (arith, e))) (set_apart firsts at (2 * at + 2) x (λ e. omega (arith, e))) first))
      (λ apart.
      same_first (set_apart firsts at slot x apart) refl (set_apart firsts at (2 * slot + 1) x left) (set_apart firsts at (2 * slot + 2) x right)
      (all.nodes slot in_index apart))
      (cases_eq slot at)

  written_up : AllBut filings firsts at → IsFirst x (at_slot filings at) (at_slot firsts (2 * at + 1)) (at_slot firsts (2 * at + 2))
      → 0 < at → AllBut filings written ((at - 1) / 2)
  written_up all first below = record {
    nodes = λ slot in_index apart. node_written all first slot (omega (arith, in_index, set_length firsts at x))
        (λ e. apart (omega (arith, e)))
        (λ e. apart (omega (arith, e)));
    beyond = λ slot past. all.beyond slot (omega (arith, past, set_length firsts at x));
  }

  written_top : AllBut filings firsts at → IsFirst x (at_slot filings at) (at_slot firsts (2 * at + 1)) (at_slot firsts (2 * at + 2))
      → at ≡ 0 → IsTree filings written
  written_top all first top = record {
    nodes = λ slot in_index. node_written all first slot (omega (arith, in_index, set_length firsts at x)) (λ e. omega (arith, e, top)) (λ e. omega (arith, e, top));
    beyond = λ slot past. all.beyond slot (omega (arith, past, set_length firsts at x));
  }

module _ (filings firsts : List (Option Filing)) (at : ℕ) where
  -- the slots are right where the one that was left is
  all_right : AllBut filings firsts at → IsNode filings firsts at → IsTree filings firsts
  all_right all node = record {
    nodes = λ slot in_index. ⊎_elim
        (λ here. subst (λ s. IsNode filings firsts s) (sym here) node)
        (λ apart. all.nodes slot in_index apart)
        (cases_eq slot at);
    beyond = all.beyond;
  }

  -- the index with a slot found again
  abbrev refreshed : List (Option Filing)
  refreshed = set firsts at (first_at filings firsts at)

  abbrev found : IsFirst (first_at filings firsts at) (at_slot filings at) (at_slot firsts (2 * at + 1)) (at_slot firsts (2 * at + 2))
  found = earliest-first (at_slot filings at) (at_slot firsts (2 * at + 1)) (at_slot firsts (2 * at + 2))

  pub same_length : length refreshed ≡ length firsts
  same_length = set_length firsts at (first_at filings firsts at)

  -- the slot above is the only one left to be found again
  pub refreshed_up : at < length firsts → 0 < at → AllBut filings firsts at → AllBut filings refreshed ((at - 1) / 2)
  refreshed_up within below all = written_up filings firsts at within (first_at filings firsts at) all found below

  -- a slot that knew it already leaves none to be found again
  pub refreshed_same : at_slot firsts at ≡ first_at filings firsts at → AllBut filings firsts at → IsTree filings refreshed
  refreshed_same known all = subst (IsTree filings) (sym (ap (set firsts at) (sym known) ∙ set-get_or firsts at None))
      (all_right all (same_first known refl refl refl found))

  -- the top is the last
  pub refreshed_top : at < length firsts → at ≡ 0 → AllBut filings firsts at → IsTree filings refreshed
  refreshed_top within top all = written_top filings firsts at within (first_at filings firsts at) all found top

-- a slot beyond the index leaves none
pub all_beyond : (filings firsts : List (Option Filing)) (slot : ℕ) → length firsts ≤ slot → AllBut filings firsts slot → IsTree filings firsts
all_beyond filings firsts slot past all = record {
  nodes = λ other in_index. all.nodes other in_index (λ e. omega (arith, e, in_index, past));
  beyond = all.beyond;
}

-- a filing that stands before the first is the first
raised-first : (filing : Filing) (first own left right : Option Filing) → is_sooner filing first ≡ true → IsFirstBut filing first own left right
    → IsFirst (Some filing) own left right
raised-first filing first own left right sooner but = record {
  own_is = λ f is. at_most f (but.own_is f is);
  left_is = λ f is. at_most f (but.left_is f is);
  right_is = λ f is. at_most f (but.right_is f is);
  among = λ f is. subst (IsAmong own left right) (same_filing filing f is) but.there;
}
  where
    at_most : (f : Filing) → (f ≡ filing) ⊎ ((g : Filing) × (first ≡ Some g) × (is_before f g ≡ false)) → (g : Filing) × (Some filing ≡ Some g) × (is_before f g ≡ false)
    at_most f (inl same) = (filing, refl, subst (λ z. is_before z filing ≡ false) (sym same) (is_earlier-irrefl filing.at.0 filing.number))
    at_most f (inr behind) =
        let g = behind.0 in
        let before : is_before filing g ≡ true = sym (ap (is_sooner filing) behind.1) ∙ sooner in (
          filing,
          refl,
          is_earlier-trans f.at.0 g.at.0 filing.at.0 f.number g.number filing.number behind.2 (is_earlier-asym filing.at.0 g.at.0 filing.number g.number before),
        )

-- a filing that does not stand before the first leaves it
kept-first : (filing : Filing) (first own left right : Option Filing) → is_sooner filing first ≡ false → IsFirstBut filing first own left right → IsFirst first own left right
kept-first filing None own left right late but = absurd (true≢false late)
kept-first filing (Some g) own left right late but = record {
  own_is = λ f is. at_most f (but.own_is f is);
  left_is = λ f is. at_most f (but.left_is f is);
  right_is = λ f is. at_most f (but.right_is f is);
  among = λ f is. but.among f is (subst (λ z. is_before filing z ≡ false) (same_filing g f is) late);
}
  where
    at_most : (f : Filing) → (f ≡ filing) ⊎ ((h : Filing) × (Some g ≡ Some h) × (is_before f h ≡ false)) → (h : Filing) × (Some g ≡ Some h) × (is_before f h ≡ false)
    at_most f (inl same) = (g, refl, subst (λ z. is_before z g ≡ false) (sym same) late)
    at_most f (inr behind) = behind

module _ (filings firsts : List (Option Filing)) (at : ℕ) (filing : Filing) where
  -- the index with a slot that knows of the filing
  abbrev higher : List (Option Filing)
  higher = set firsts at (Some filing)

  -- a slot that knows of one before it is the last
  pub raised_enough : is_sooner filing (at_slot firsts at) ≡ false → IsRaised filings firsts at filing → IsTree filings firsts
  raised_enough late raised = all_right filings firsts at raised.rest (kept-first filing _ _ _ _ late raised.node)

  pub higher_length : length higher ≡ length firsts
  higher_length = set_length firsts at (Some filing)

  -- the top is the last
  pub raised_top : at < length firsts → at ≡ 0 → is_sooner filing (at_slot firsts at) ≡ true → IsRaised filings firsts at filing → IsTree filings higher
  raised_top within top sooner raised =
      written_top filings firsts at within (Some filing) raised.rest (raised-first filing _ _ _ _ sooner raised.node) top

  -- the slot above is the only one left that need not know of it
  pub raised_up : at < length firsts → 0 < at → is_sooner filing (at_slot firsts at) ≡ true → IsRaised filings firsts at filing → IsRaised filings higher ((at - 1) / 2) filing
  raised_up within below sooner raised = record {
    rest = written_up filings firsts at within (Some filing) raised.rest (raised-first filing _ _ _ _ sooner raised.node) below;
    node = record {
      own_is = λ f is. inr (subst (λ o. (g : Filing) × (o ≡ Some g) × (is_before f g ≡ false)) (sym kept) (node.own_is f is));
      left_is = but_child (2 * up + 1) node.left_is;
      right_is = but_child (2 * up + 2) node.right_is;
      there = ⊎_elim
          (λ left. inr (inl (ap (at_slot higher) left ∙ set_here firsts at (Some filing) within)))
          (λ apart. inr (inr (ap (at_slot higher) (let right : 2 * up + 2 ≡ at = omega (arith, apart, below) in right) ∙ set_here firsts at (Some filing) within)))
          (cases_eq (2 * up + 1) at);
      among = λ f is late. ⊎_elim
          (λ own. inl own)
          (λ child. inr (⊎_elim (λ left. inl (same_child (2 * up + 1) f late left)) (λ right. inr (same_child (2 * up + 2) f late right)) child))
          (node.among f (sym kept ∙ is));
    };
  }
    where
      up : ℕ
      up = (at - 1) / 2

      node : IsNode filings firsts up
      node = raised.rest.nodes up (omega (arith, within)) (λ e. omega (arith, e, below))

      kept : at_slot higher up ≡ at_slot firsts up
      kept = set_apart firsts at up (Some filing) (λ e. omega (arith, e, below))

      but_child : (child : ℕ) → AtMost (at_slot firsts up) (at_slot firsts child) → AtMostBut filing (at_slot higher up) (at_slot higher child)
      but_child child most f is = ⊎_elim
          (λ here. inl (sym (same_filing filing f (sym (ap (at_slot higher) here ∙ set_here firsts at (Some filing) within) ∙ is))))
          (λ apart. inr (subst (λ o. (g : Filing) × (o ≡ Some g) × (is_before f g ≡ false)) (sym kept) (most f (sym (set_apart firsts at child (Some filing) apart) ∙ is))))
          (cases_eq child at)

      same_child : (child : ℕ) (f : Filing) → is_before filing f ≡ false → at_slot firsts child ≡ Some f → at_slot higher child ≡ Some f
      same_child child f late is = ⊎_elim
          (λ here. absurd (true≢false (sym sooner ∙ ap (is_sooner filing) (ap (at_slot firsts) (sym here) ∙ is) ∙ late)))
          (λ apart. set_apart firsts at child (Some filing) apart ∙ is)
          (cases_eq child at)

module _ (filings firsts : List (Option Filing)) (slot : ℕ) (tree : IsTree filings firsts) where
  -- the index is right but at a slot that is filed otherwise
  pub filed_anew : (x : Option Filing) → ((length firsts ≤ slot) → x ≡ None) → slot < length filings → AllBut (set filings slot x) firsts slot
  filed_anew x none long = record {
    nodes = λ other in_index apart. same_first refl (set_apart filings slot other x apart) refl refl (tree.nodes other in_index);
    beyond = λ other past. ⊎_elim
        (λ here. ap (at_slot (set filings slot x)) here ∙ set_here filings slot x long ∙ none (omega (arith, past, here)))
        (λ apart. set_apart filings slot other x apart ∙ tree.beyond other past)
        (cases_eq other slot);
  }

  -- and where it is filed before, it need only be raised
  pub filed_sooner : (filing : Filing) → slot < length filings → slot < length firsts → is_sooner filing (at_slot filings slot) ≡ true
      → IsRaised (set filings slot (Some filing)) firsts slot filing
  filed_sooner filing long within sooner = record {
    rest = filed_anew (Some filing) (λ past. absurd (omega (arith, past, within))) long;
    node = record {
      own_is = λ f is. inl (sym (same_filing filing f (sym here ∙ is)));
      left_is = λ f is. inr (node.left_is f is);
      right_is = λ f is. inr (node.right_is f is);
      there = inl here;
      among = λ f is late. ⊎_elim
          (λ own. absurd (true≢false (sym sooner ∙ ap (is_sooner filing) own ∙ late)))
          (λ child. inr child)
          (node.among f is);
    };
  }
    where
      node : IsNode filings firsts slot
      node = tree.nodes slot within

      here : at_slot (set filings slot (Some filing)) slot ≡ Some filing
      here = set_here filings slot (Some filing) long

past_end : (firsts : List (Option Filing)) (slot : ℕ) → length firsts ≤ slot → at_slot firsts slot ≡ None
past_end firsts slot past = grind (arith, common_steps, past)

-- a list that was made longer
pub grown : (firsts : List (Option Filing)) (room n slot : ℕ) → length firsts ≡ n → n < room
    → at_slot (take room firsts ++ replicate (room - n) None) slot ≡ at_slot firsts slot
grown firsts room n slot long short = grind (arith, common_steps, short, long)

-- the firsts in their vector, once they are put right
pub tree_after : (filings : List (Option Filing)) (firsts : Vec (Option Filing)) (refiled : List (Option Filing)) → length refiled ≡ firsts.len → IsTree filings refiled
    → IsTree filings (with_items firsts refiled).items
tree_after filings firsts refiled long tree = subst (IsTree filings) (sym (with_items_is firsts refiled long)) tree

-- the index is right where it is longer by slots that have nothing
pub tree_longer : (filings firsts more longer : List (Option Filing)) → ((slot : ℕ) → at_slot more slot ≡ at_slot filings slot)
    → ((slot : ℕ) → at_slot longer slot ≡ at_slot firsts slot) → length firsts ≤ length longer → IsTree filings firsts → IsTree more longer
tree_longer filings firsts more longer same_filings same long tree = record {
  nodes = λ slot in_index. same_first (same slot) (same_filings slot) (same (2 * slot + 1)) (same (2 * slot + 2))
      (⊎_elim (λ within. tree.nodes slot within) (λ past. nothing slot past) (cases_lt slot (length firsts)));
  beyond = λ slot past. same_filings slot ∙ tree.beyond slot (omega (arith, long, past));
}
  where
    none : IsFirst None None None None
    none = record { own_is = λ f is. cc; left_is = λ f is. cc; right_is = λ f is. cc; among = λ f is. inl is }

    nothing : (slot : ℕ) → length firsts ≤ slot → IsNode filings firsts slot
    nothing slot past = same_first (past_end firsts slot past) (tree.beyond slot past) (past_end firsts (2 * slot + 1) (omega (arith, past)))
        (past_end firsts (2 * slot + 2) (omega (arith, past))) none

module _ (filings firsts : List (Option Filing)) (tree : IsTree filings firsts) where
  -- the top stands before what each slot knows
  climb : (n slot : ℕ) → slot ≤ n → slot < length firsts → AtMost (at_slot firsts 0) (at_slot firsts slot)
  climb zero slot below within = subst (λ s. AtMost (at_slot firsts 0) (at_slot firsts s)) (let top : 0 ≡ slot = omega (arith, below) in top) (at_most-refl (at_slot firsts 0))
  climb (suc n) slot below within = ⊎_elim
      (λ top. subst (λ s. AtMost (at_slot firsts 0) (at_slot firsts s)) (sym top) (at_most-refl (at_slot firsts 0)))
      (λ low.
      let up = (slot - 1) / 2 in
      let here = tree.nodes up (omega (arith, within)) in
      at_most-trans (at_slot firsts 0) (at_slot firsts up) (at_slot firsts slot) (climb n up (omega (arith, below, low)) (omega (arith, within)))
      (⊎_elim
      (λ left. subst (λ s. AtMost (at_slot firsts up) (at_slot firsts s)) (sym left) here.left_is)
      (λ other. subst (λ s. AtMost (at_slot firsts up) (at_slot firsts s)) (let right : 2 * up + 2 ≡ slot = omega (arith, other, low) in right) here.right_is)
      (cases_eq slot (2 * up + 1))))
      (cases_eq slot 0)

  -- no slot is filed before the top
  pub top-least : (slot : ℕ) → AtMost (at_slot firsts 0) (at_slot filings slot)
  top-least slot = ⊎_elim
      (λ within. at_most-trans (at_slot firsts 0) (at_slot firsts slot) (at_slot filings slot) (climb slot slot (omega arith) within) (let node = tree.nodes slot within in node.own_is))
      (λ past. λ f is. absurd (none_some (tree.beyond slot past) is))
      (cases_lt slot (length firsts))

  descend : (n slot : ℕ) → length firsts ≤ slot + n → (g : Filing) → at_slot firsts slot ≡ Some g → (s : ℕ) × (at_slot filings s ≡ Some g)
  descend zero slot past g is = absurd (none_some (past_end firsts slot (omega (arith, past))) is)
  descend (suc n) slot past g is = ⊎_elim
      (λ within. ⊎_elim
      (λ own. (slot, own))
      (λ child. ⊎_elim
      (λ left. descend n (2 * slot + 1) (omega (arith, past)) g left)
      (λ right. descend n (2 * slot + 2) (omega (arith, past)) g right)
      child)
      (let node = tree.nodes slot within in node.among g is))
      (λ beyond. absurd (none_some (past_end firsts slot beyond) is))
      (cases_lt slot (length firsts))

  -- the top is what some slot files
  pub top-among : (g : Filing) → at_slot firsts 0 ≡ Some g → (s : ℕ) × (at_slot filings s ≡ Some g)
  top-among g is = descend (length firsts) 0 (omega arith) g is

-- the top is filed in its slot
pub top-filed : (slots : Slab Instance) (removals : Removals) → IsIndexOf slots removals → (g : Filing) → at_slot removals.firsts.items 0 ≡ Some g → filing_at slots g.slot ≡ Some g
top-filed slots removals index g is =
    let found = top-among removals.filings.items removals.firsts.items index.index g is in
    let filed = sym (index.filed found.0) ∙ found.1 in
    subst (λ s. filing_at slots s ≡ Some g) (of_slot found.0 (get slots found.0) filed) filed
  where
    of_slot : (s : ℕ) (o : Option Instance) → option_map (filing_of s) o ≡ Some g → s ≡ g.slot
    of_slot s None is = absurd (none_some refl is)
    of_slot s (Some instance) is = ap (λ (f : Filing). f.slot) (same_filing (filing_of s instance) g is)
