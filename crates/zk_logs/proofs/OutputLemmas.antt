-- Outputs of which one changes, over what lay there before.
use Rattle.std.proofs.Common.{◌≡◌, ◌⊎◌, inl, inr, ℕ, List, [], ◌++◌, Bool, true, false, cond, Option, Some, None, IsSome, IfSome, refl, sym, ap, subst, ◌∙◌, rules, append_assoc}
use Rattle.std.specs.Option.{option_map}
use Rattle.std.specs.Str.{bytes_eq}
use Rattle.std.proofs.lemmas.List.{append-nil}
use Rattle.std.proofs.lemmas.Slice.Eq.{bytes_eq-Decides}
use Rattle.zk_base.specs.Shelf.{Files, with_file, without_file, with_piece, appended}
use Rattle.zk_logs.specs.Outputs.{over, files_over, IsBegun, AreBegun, OutputsBegun}

pub same_bytes : (a b : List ℕ) → bytes_eq a b ≡ true → a ≡ b
same_bytes a b = (bytes_eq-Decides a b).0

-- Content over what lay below -----------------------------------------------------------------------------------

created_over_file : (handed before : Files) (name other : List ℕ) → with_file (files_over handed before) name [] other ≡ files_over (with_file handed name []) before other
created_over_file handed before name other =
    elim (bytes_eq name other) as (λ b. cond b (Some []) (over (handed other) (before other)) ≡ over (cond b (Some []) (handed other)) (before other)) [
      | true ↦ refl
      | false ↦ refl
    ]

-- a file is created
pub created_over : (outputs : Option Files) (handed : Files) (name : List ℕ)
    → option_map (λ files. with_file files name []) (option_map (files_over handed) outputs) ≡ option_map (files_over (with_file handed name [])) outputs
created_over None handed name = refl
created_over (Some before) handed name = ap Some (λ p other. created_over_file handed before name other p)

appended_over : (own below : Option (List ℕ)) (piece : List ℕ) → IsSome own → appended (over own below) piece ≡ over (appended own piece) below
appended_over None below piece there = absurd (search rules)
appended_over (Some content) below piece there = refl

more_over_file : (handed before : Files) (name piece other : List ℕ) → IsSome (handed name)
    → with_piece (files_over handed before) name piece other ≡ files_over (with_piece handed name piece) before other
more_over_file handed before name piece other there =
    elim (bytes_eq name other) as (λ b. bytes_eq name other ≡ b → cond b (appended (over (handed other) (before other)) piece) (over (handed other) (before other))
    ≡ over (cond b (appended (handed other) piece) (handed other)) (before other)) [
      | true ↦ λ e. appended_over (handed other) (before other) piece (subst (λ n. IsSome (handed n)) (same_bytes name other e) there)
      | false ↦ λ e. refl
    ] refl

-- a piece is added to a file that was created
pub more_over : (outputs : Option Files) (handed : Files) (name piece : List ℕ) → IsSome (handed name)
    → option_map (λ files. with_piece files name piece) (option_map (files_over handed) outputs) ≡ option_map (files_over (with_piece handed name piece)) outputs
more_over None handed name piece there = refl
more_over (Some before) handed name piece there = ap Some (λ p other. more_over_file handed before name piece other there p)

appended_both : (found : Option (List ℕ)) (a b : List ℕ) → appended (appended found a) b ≡ appended found (a ++ b)
appended_both None a b = refl
appended_both (Some content) a b = ap Some (append_assoc content a b)

both_file : (files : Files) (name a b other : List ℕ) → with_piece (with_piece files name a) name b other ≡ with_piece files name (a ++ b) other
both_file files name a b other =
    elim (bytes_eq name other) as (λ t. cond t (appended (cond t (appended (files other) a) (files other)) b) (cond t (appended (files other) a) (files other)) ≡ cond t (appended (files other) (a ++ b)) (files other)) [
      | true ↦ appended_both (files other) a b
      | false ↦ refl
    ]

-- two pieces, one after the other
pub both_pieces : (outputs : Option Files) (name a b : List ℕ)
    → option_map (λ files. with_piece files name b) (option_map (λ files. with_piece files name a) outputs) ≡ option_map (λ files. with_piece files name (a ++ b)) outputs
both_pieces None name a b = refl
both_pieces (Some files) name a b = ap Some (λ p other. both_file files name a b other p)

appended_none : (found : Option (List ℕ)) → found ≡ appended found []
appended_none None = refl
appended_none (Some content) = ap Some (sym (append-nil content))

none_file : (files : Files) (name other : List ℕ) → files other ≡ with_piece files name [] other
none_file files name other =
    elim (bytes_eq name other) as (λ t. files other ≡ cond t (appended (files other) []) (files other)) [
      | true ↦ appended_none (files other)
      | false ↦ refl
    ]

-- a piece without a byte
pub no_piece : (outputs : Option Files) (name : List ℕ) → outputs ≡ option_map (λ files. with_piece files name []) outputs
no_piece None name = refl
no_piece (Some files) name = ap Some (λ p other. none_file files name other p)

-- Files that are begun ------------------------------------------------------------------------------------------

-- what is there of a file is a prefix of it
abbrev pub Begins : Option (List ℕ) → Option (List ℕ) → Type 0
Begins None whole = Unit {0}
Begins (Some part) None = ⊥
Begins (Some part) (Some whole) = (rest : List ℕ) × (whole ≡ part ++ rest)

begun_file : (own below wanted : Option (List ℕ)) → Begins own wanted → (over own below ≡ below) ⊎ ((content : List ℕ) × (wanted ≡ Some content) × IsBegun content (over own below))
begun_file None below wanted begins = inl refl
begun_file (Some part) below None begins = absurd begins
begun_file (Some part) below (Some whole) begins = inr (whole, refl, begins)

-- files of which each is begun, over what lay there before
pub begun_over : (before now : Option Files) (handed wanted : Files) → now ≡ option_map (files_over handed) before
    → ((name : List ℕ) → Begins (handed name) (wanted name)) → OutputsBegun wanted before now
begun_over None now handed wanted is begins = is
begun_over (Some before) now handed wanted is begins = (files_over handed before, is, λ name. begun_file (handed name) (before name) (wanted name) (begins name))

-- a file that couldn't be created is absent or empty
uncreated_file : (there : Bool) (handed before wanted : Files) (name content : List ℕ) → ((other : List ℕ) → Begins (handed other) (wanted other)) → wanted name ≡ Some content
    → AreBegun wanted before (cond there (with_file (files_over handed before) name []) (without_file (files_over handed before) name))
uncreated_file true handed before wanted name content begins is =
    λ other. elim (bytes_eq name other) as (λ b. bytes_eq name other ≡ b → (cond b (Some []) (over (handed other) (before other)) ≡ before other)
    ⊎ ((whole : List ℕ) × (wanted other ≡ Some whole) × IsBegun whole (cond b (Some []) (over (handed other) (before other))))) [
      | true ↦ λ e. inr (content, ap wanted (sym (same_bytes name other e)) ∙ is, (content, refl))
      | false ↦ λ e. begun_file (handed other) (before other) (wanted other) (begins other)
    ] refl
uncreated_file false handed before wanted name content begins is =
    λ other. elim (bytes_eq name other) as (λ b. bytes_eq name other ≡ b → (cond b None (over (handed other) (before other)) ≡ before other)
    ⊎ ((whole : List ℕ) × (wanted other ≡ Some whole) × IsBegun whole (cond b None (over (handed other) (before other))))) [
      | true ↦ λ e. inr (content, ap wanted (sym (same_bytes name other e)) ∙ is, tt)
      | false ↦ λ e. begun_file (handed other) (before other) (wanted other) (begins other)
    ] refl

pub uncreated_over : (there : Bool) (before now new : Option Files) (handed wanted : Files) (name content : List ℕ) → now ≡ option_map (files_over handed) before
    → ((other : List ℕ) → Begins (handed other) (wanted other)) → wanted name ≡ Some content
    → new ≡ option_map (λ files. cond there (with_file files name []) (without_file files name)) now → OutputsBegun wanted before new
uncreated_over there None now new handed wanted name content is begins whole after = after ∙ ap (option_map (λ (files : Files). cond there (with_file files name []) (without_file files name))) is
uncreated_over there (Some before) now new handed wanted name content is begins whole after = (
  cond there (with_file (files_over handed before) name []) (without_file (files_over handed before) name),
  after ∙ ap (option_map (λ (files : Files). cond there (with_file files name []) (without_file files name))) is,
  uncreated_file there handed before wanted name content begins whole,
)

-- Files that are there ------------------------------------------------------------------------------------------

there_in_piece : (b : Bool) (found : Option (List ℕ)) (piece : List ℕ) → IsSome found → IsSome (cond b (appended found piece) found)
there_in_piece true None piece there = absurd (search rules)
there_in_piece true (Some content) piece there = refl
there_in_piece false found piece there = there

-- a file stays where a piece is added to one
pub stays_there : (outputs : Option Files) (name own piece : List ℕ) → IfSome outputs (λ files. IsSome (files name))
    → IfSome (option_map (λ files. with_piece files own piece) outputs) (λ files. IsSome (files name))
stays_there None name own piece there = tt
stays_there (Some files) name own piece there = there_in_piece (bytes_eq own name) (files name) piece there
