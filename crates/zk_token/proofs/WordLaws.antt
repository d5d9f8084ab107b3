-- The readers of names, attributes and loads find the longest part that has the form.
use Rattle.std.proofs.Common.{if◌then◌else◌, ◌≡◌, ◌≢◌, ℕ, ◌+◌, ◌≤◌, true, false, ◌&&◌, ◌||◌, ◌==◌, inl, inr, cond, List, [], ◌∷◌, ◌++◌, length, take, drop, slice_index, Option, Some, None, codes, refl, sym, ap, subst, ◌∙◌, arith, one-add, length-append, length-drop, append_assoc}
use Rattle.std.specs.List.{AllPass, prefix_len}
use Rattle.std.specs.Char.{is_ascii_digit}
use Rattle.std.specs.Str.{bytes_eq}
use Rattle.std.proofs.lemmas.Bool.{eqb-true, ne_eqb}
use Rattle.std.proofs.lemmas.List.{append-nil, take-append-drop, length-take-le}
use Rattle.std.proofs.lemmas.List.Sums.{prefix_len-le-length}
use Rattle.std.proofs.lemmas.List.Elements.{All-cons}
use Rattle.std.proofs.lemmas.Slice.Eq.{bytes_eq-Decides}
use Rattle.std.proofs.Math.Seq.{drop-append_seam, take-add, take-append-add}
use Rattle.zk_tree.specs.declared.token.TokenKind.{TokenKind}
use Rattle.zk_tree.specs.declared.token.TokenKind.TheVariants as token
use Rattle.zk_token.specs.Words.{begins_name, goes_on_name, begins_word, word_len, member_len, name_len, separates, is_blank, unseparated_len, file_at, load_at}
use Rattle.zk_token.specs.TokenForms.{IsWord, AreJoined, IsName, IsUnseparated, IsLoad}
use Rattle.zk_token.proofs.FrontLaws.{take_while-more, take_while-passes, prefix_len-passed, prefix_len-stops, front_taken, IsReadAtLeast}
use Rattle.zk_token.proofs.ByteTests.{both, neither, differs, pair_parts}

-- Words -----------------------------------------------------------------------------------------------------------

goes_on_where_begins : (byte : ℕ) → begins_name byte ≡ true → goes_on_name byte ≡ true
goes_on_where_begins byte begins = ap (λ b. b || is_ascii_digit byte) begins

-- all bytes of a word go on a name
word_passes : (word : List ℕ) → IsWord word → AllPass goes_on_name word
word_passes [] is = absurd is
word_passes (byte ∷ others) is = All-cons (λ b. goes_on_name b ≡ true) byte others (goes_on_where_begins byte is.0) is.1

word_taken : (text : List ℕ) → begins_word text ≡ true → IsWord (take (word_len text) text)
word_taken [] begins = absurd (let never : ⊥ = cc in never)
word_taken (byte ∷ rest) begins =
    subst IsWord (sym (take_while-more goes_on_name byte rest (goes_on_where_begins byte begins))) (begins, take_while-passes goes_on_name rest)

begins_where_word : (word rest : List ℕ) → IsWord word → begins_word (word ++ rest) ≡ true
begins_where_word [] rest is = absurd is
begins_where_word (byte ∷ others) rest is = is.0

-- Names -----------------------------------------------------------------------------------------------------------

-- what stands behind the first word
member_taken : (first behind : List ℕ) → IsWord first → IsName (first ++ take (member_len behind) behind)
member_taken first [] word = inl (subst IsWord (sym (append-nil first)) word)
member_taken first (one ∷ []) word = inl (subst IsWord (sym (append-nil first)) word)
member_taken first (one ∷ two ∷ rest) word =
    elim (one == 58 && two == 58 && begins_word rest) as (λ b. (one == 58 && two == 58 && begins_word rest) ≡ b
    → IsName (first ++ take (cond b (2 + word_len rest) 0) (one ∷ two ∷ rest))) [
      | true ↦ λ joined.
          let all = both (one == 58 && two == 58) (begins_word rest) joined in
          let colons = both (one == 58) (two == 58) all.0 in
          let here : take (2 + word_len rest) (one ∷ two ∷ rest) ≡ 58 ∷ 58 ∷ take (word_len rest) rest =
          take-append-add (one ∷ two ∷ []) rest (word_len rest)
          ∙ ap (λ o. o ∷ two ∷ take (word_len rest) rest) (eqb-true one 58 colons.0) ∙ ap (λ t. 58 ∷ t ∷ take (word_len rest) rest) (eqb-true two 58 colons.1) in
          inr (record {
            module_name = first;
            member = take (word_len rest) rest;
            first = word;
            second = word_taken rest all.1;
            whole = ap (λ others. first ++ others) here;
          })
      | false ↦ λ none. inl (subst IsWord (sym (append-nil first)) word)
    ] refl

pub name_taken : (text : List ℕ) → begins_word text ≡ true → IsName (take (name_len text) text)
name_taken text begins =
    subst IsName (sym (take-add (word_len text) (member_len (drop (word_len text) text)) text))
    (member_taken (take (word_len text) text) (drop (word_len text) text) (word_taken text begins))

member_len-fit : (text : List ℕ) → member_len text ≤ length text
member_len-fit [] = omega arith
member_len-fit (one ∷ []) = omega arith
member_len-fit (one ∷ two ∷ rest) =
    elim (one == 58 && two == 58 && begins_word rest) as (λ b. cond b (2 + word_len rest) 0 ≤ length (one ∷ two ∷ rest)) [
      | true ↦ let fit = prefix_len-le-length goes_on_name rest in omega (arith, fit)
      | false ↦ omega arith
    ]

pub name_len-fit : (text : List ℕ) → name_len text ≤ length text
name_len-fit text =
    let first = prefix_len-le-length goes_on_name text in
    omega (arith, first, member_len-fit (drop (word_len text) text), length-drop (word_len text) text)

word_size : (word rest : List ℕ) → IsWord word → length word ≤ word_len (word ++ rest)
word_size word rest is = omega (arith, prefix_len-passed goes_on_name word rest (word_passes word is))

joined_size : (name rest : List ℕ) → AreJoined name → length name ≤ name_len (name ++ rest)
joined_size name rest are =
    let first : List ℕ = are.module_name in
    let behind : List ℕ = 58 ∷ 58 ∷ (are.member ++ rest) in
    let text : name ++ rest ≡ first ++ behind = ap (λ n. n ++ rest) are.whole ∙ append_assoc first (58 ∷ 58 ∷ are.member) rest in
    let len : word_len (first ++ behind) ≡ length first = prefix_len-stops goes_on_name first 58 (58 ∷ (are.member ++ rest)) (word_passes first are.first) refl in
    let left : drop (word_len (first ++ behind)) (first ++ behind) ≡ behind = ap (λ n. drop n (first ++ behind)) len ∙ drop-append_seam first behind in
    let member : member_len behind ≡ 2 + word_len (are.member ++ rest) = rw (begins_where_word are.member rest are.second) refl in
    let more = word_size are.member rest are.second in
    subst (λ t. length name ≤ name_len t) (sym text)
    (omega (arith, ap length are.whole, length-append first (58 ∷ 58 ∷ are.member), len, ap member_len left, member, more))

-- a name at the front of a text is no longer than the one that is read
pub name_size : (name rest : List ℕ) → IsName name → length name ≤ name_len (name ++ rest)
name_size name rest (inl word) = omega (arith, word_size name rest word)
name_size name rest (inr joined) = joined_size name rest joined

pub begins_where_name : (name rest : List ℕ) → IsName name → begins_word (name ++ rest) ≡ true
begins_where_name name rest (inl word) = begins_where_word name rest word
begins_where_name name rest (inr joined) =
    ap (λ n. begins_word (n ++ rest)) joined.whole
    ∙ ap begins_word (append_assoc joined.module_name (58 ∷ 58 ∷ joined.member) rest)
    ∙ begins_where_word joined.module_name (58 ∷ 58 ∷ joined.member ++ rest) joined.first

-- Loads -----------------------------------------------------------------------------------------------------------

unseparated_len-part : (part rest : List ℕ) → IsUnseparated part rest → unseparated_len (part ++ rest) ≡ length part + unseparated_len rest
unseparated_len-part [] rest are = omega arith
unseparated_len-part (byte ∷ part) rest are =
    let others = unseparated_len-part part rest are.1 in
    rw are.0 (omega (arith, others))

unseparated_taken : (text : List ℕ) → IsUnseparated (take (unseparated_len text) text) (drop (unseparated_len text) text)
unseparated_taken [] = tt
unseparated_taken (byte ∷ rest) =
    elim (separates byte rest) as (λ b. separates byte rest ≡ b → IsUnseparated (take (cond b 0 (1 + unseparated_len rest)) (byte ∷ rest)) (drop (cond b 0 (1 + unseparated_len rest)) (byte ∷ rest))) [
      | true ↦ λ ends. tt
      | false ↦ λ other.
          let count : ℕ = unseparated_len rest in
          let whole : take count rest ++ drop count rest ≡ rest = take-append-drop count rest in
          let here : separates byte (take count rest ++ drop count rest) ≡ false = ap (separates byte) whole ∙ other in
          rw one-add (here, unseparated_taken rest)
    ] refl

unseparated_len-fit : (text : List ℕ) → unseparated_len text ≤ length text
unseparated_len-fit [] = omega arith
unseparated_len-fit (byte ∷ rest) =
    elim (separates byte rest) as (λ b. cond b 0 (1 + unseparated_len rest) ≤ length (byte ∷ rest)) [
      | true ↦ omega arith
      | false ↦ let others = unseparated_len-fit rest in omega (arith, others)
    ]

-- what is read is a load
pub record IsLoadFound (text : List ℕ) (kind : TokenKind) (len : ℕ) : Type 0 where
  pub part : List ℕ
  pub rest : List ℕ
  pub file : List ℕ
  pub whole : text ≡ part ++ rest
  pub is : token.Load file ≡ kind
  pub size : length part ≡ len
  pub form : IsLoad file part rest

some_of : (count : ℕ) (part : List ℕ) → (count == 0) ≡ false → length part ≡ count → part ≢ []
some_of count part some size none = differs count 0 some (sym size ∙ ap length none)

file_found : (text : List ℕ) (kind : TokenKind) (len : ℕ) → file_at text ≡ Some (kind, len) → IsLoadFound (codes "@load" ++ text) kind len
file_found text kind len found =
    let blanks : ℕ = prefix_len is_blank text in
    let file : List ℕ = drop blanks text in
    let count : ℕ = unseparated_len file in
    elim (blanks == 0 || count == 0) as (λ b. (blanks == 0 || count == 0) ≡ b → cond {A = Option (TokenKind × ℕ)} b None (Some (token.Load (take count file), 5 + blanks + count)) ≡ Some (kind, len)
    → IsLoadFound (codes "@load" ++ text) kind len) [
      | true ↦ λ none is. absurd (let never : ⊥ = cc in never)
      | false ↦ λ some is.
          let both_some = neither (blanks == 0) (count == 0) some in
          let parts = pair_parts (token.Load (take count file), 5 + blanks + count) (kind, len) is in
          let blank_size = length-take-le blanks text (prefix_len-le-length is_blank text) in
          let file_size = length-take-le count file (unseparated_len-fit file) in
          let whole : text ≡ take blanks text ++ take count file ++ drop count file =
          sym (take-append-drop blanks text) ∙ ap (λ f. take blanks text ++ f) (sym (take-append-drop count file)) ∙ sym (append_assoc (take blanks text) (take count file) (drop count file)) in
          record {
            part = codes "@load" ++ (take blanks text ++ take count file);
            rest = drop count file;
            file = take count file;
            whole = ap (λ t. codes "@load" ++ t) whole;
            is = parts.0;
            size = omega (arith, length-append (take blanks text) (take count file), blank_size, file_size, parts.1);
            form = record {
              blanks = take blanks text;
              some_blanks = some_of blanks (take blanks text) both_some.0 blank_size;
              are_blank = take_while-passes is_blank text;
              some_file = some_of count (take count file) both_some.1 file_size;
              unseparated = unseparated_taken file;
              whole = refl;
            };
          }
    ] refl found

pub load_found : (text : List ℕ) (kind : TokenKind) (len : ℕ) → load_at text ≡ Some (kind, len) → IsLoadFound text kind len
load_found text kind len found =
    elim (bytes_eq (take 5 text) (codes "@load")) as (λ b. bytes_eq (take 5 text) (codes "@load") ≡ b → cond b (file_at (drop 5 text)) None ≡ Some (kind, len) → IsLoadFound text kind len) [
      | true ↦ λ named is.
          let whole : codes "@load" ++ drop 5 text ≡ text = ap (λ f. f ++ drop 5 text) (sym ((bytes_eq-Decides (take 5 text) (codes "@load")).0 named)) ∙ take-append-drop 5 text in
          subst (λ t. IsLoadFound t kind len) whole (file_found (drop 5 text) kind len is)
      | false ↦ λ other is. absurd (let never : ⊥ = cc in never)
    ] refl found

blank_separates : (byte : ℕ) (rest : List ℕ) → separates byte rest ≡ false → is_blank byte ≡ false
blank_separates byte rest other =
    let three = neither (byte == 32 || byte == 9 || byte == 10) (byte == 13 && slice_index rest 0 == 10) other in
    (neither (byte == 32 || byte == 9) (byte == 10) three.0).0

-- the load of a file behind so many blanks
file_behind : ℕ → List ℕ → Option (TokenKind × ℕ)
file_behind blanks file =
    if blanks == 0 || unseparated_len file == 0 then None else Some (token.Load (take (unseparated_len file) file), 5 + blanks + unseparated_len file)

file_behind-some : (blanks : ℕ) (file : List ℕ) → blanks ≢ 0 → unseparated_len file ≢ 0
    → file_behind blanks file ≡ Some (token.Load (take (unseparated_len file) file), 5 + blanks + unseparated_len file)
unfolding file_behind
file_behind-some blanks file some name = rw (ne_eqb blanks 0 some) (rw (ne_eqb (unseparated_len file) 0 name) refl)

some_length : (text : List ℕ) → text ≢ [] → length text ≢ 0
some_length [] some none = some refl
some_length (byte ∷ text) some none = omega (arith, none)

file_at-file : (blanks file rest : List ℕ) → blanks ≢ [] → AllPass is_blank blanks → file ≢ [] → IsUnseparated file rest
    → file_at (blanks ++ (file ++ rest)) ≡ Some (token.Load (take (unseparated_len (file ++ rest)) (file ++ rest)), 5 + length blanks + unseparated_len (file ++ rest))
unfolding file_behind
file_at-file blanks [] rest some are name unseparated = absurd (name refl)
file_at-file blanks (byte ∷ others) rest some are name unseparated =
    let file : List ℕ = byte ∷ (others ++ rest) in
    let text : List ℕ = blanks ++ file in
    let count : prefix_len is_blank text ≡ length blanks = prefix_len-stops is_blank blanks byte (others ++ rest) are (blank_separates byte (others ++ rest) unseparated.0) in
    let size = unseparated_len-part (byte ∷ others) rest unseparated in
    let long : unseparated_len file ≢ 0 = λ none. omega (arith, size, none) in
    ap (λ n. file_behind n (drop n text)) count ∙ ap (file_behind (length blanks)) (drop-append_seam blanks file)
    ∙ file_behind-some (length blanks) file (some_length blanks some) long

pub load_at_least : (file part rest : List ℕ) → IsLoad file part rest → IsReadAtLeast (load_at (part ++ rest)) (token.Load file) part
load_at_least file part rest is =
    let behind : List ℕ = file ++ rest in
    let count : ℕ = unseparated_len behind in
    let whole : part ++ rest ≡ codes "@load" ++ (is.blanks ++ behind) =
    ap (λ p. p ++ rest) is.whole ∙ ap (λ b. codes "@load" ++ b) (append_assoc is.blanks file rest) in
    let size = unseparated_len-part file rest is.unseparated in
    record {
      read = token.Load (take count behind);
      len = 5 + length is.blanks + count;
      is = ap load_at whole ∙ file_at-file is.blanks file rest is.some_blanks is.are_blank is.some_file is.unseparated;
      size = omega (arith, ap length is.whole, length-append is.blanks file, size);
      same = λ long. ap token.Load (front_taken behind file rest count refl (omega (arith, ap length is.whole, length-append is.blanks file, long)));
    }

pub load_first : (file part rest : List ℕ) → IsLoad file part rest → (others : List ℕ) × (part ≡ 64 ∷ others)
load_first file part rest is = (108 ∷ 111 ∷ 97 ∷ 100 ∷ (is.blanks ++ file), is.whole)
