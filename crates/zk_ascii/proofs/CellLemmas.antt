-- Rows of the same columns with equal text have equal cells.
use Rattle.std.proofs.Common.{◌≡◌, ◌≢◌, ◌<◌, ◌^◌, ◌≤◌, ◌||◌, ◌==◌, ℕ, zero, suc, Bool, true, false, List, [], ◌∷◌, ◌++◌, length, codes, flat_map, refl, sym, ap, subst, ◌∙◌, arith, All, bytes_eq}
use Rattle.zk_text.specs.Escape.{escaped, is_taken, IsCell, IsPrinted}
use Rattle.zk_text.proofs.EscapeLaws.{are_bytes, escaped_injective, escaped_is_cell}
use Rattle.zk_value.specs.declared.cell.Atom.{Atom}
use Rattle.zk_value.specs.declared.cell.Atom.TheVariants.{Text, Plain}
use Rattle.zk_value.specs.declared.cell.Cell.{Cell}
use Rattle.zk_value.specs.declared.cell.Cell.TheVariants.{Unset, One, Many}
use Rattle.zk_value.specs.declared.cell.Column.{Column}
use Rattle.zk_ascii.specs.Fits.{IsPlain, FitsAtom, FitAtoms, FitsCell, Fit, is_container, is_of_strings}
use Rattle.zk_ascii.specs.Text.{string_text, atom_text, element_text, atoms_text, cell_text, cells_text, row_text}

-- Separators -------------------------------------------------------------------------------------------------------

-- no byte is the separator
abbrev Without : ℕ → List ℕ → Type 0
Without sep [] = Unit {0}
Without sep (x ∷ xs) = (x ≢ sep) × Without sep xs

without_all : {P : ℕ → Type 0} (sep : ℕ) (xs : List ℕ) → ((x : ℕ) → P x → x ≢ sep) → All P xs → Without sep xs
without_all sep [] apart all = tt
without_all sep (x ∷ xs) apart all = (apart x (all 0 0 (omega arith)), without_all sep xs apart (λ k d within. all (suc k) d (omega (arith, within))))

without-append : (sep : ℕ) (xs ys : List ℕ) → Without sep xs → Without sep ys → Without sep (xs ++ ys)
without-append sep [] ys first second = second
without-append sep (x ∷ xs) ys first second = (first.0, without-append sep xs ys first.1 second)

-- texts up to a separator
split_first : (sep : ℕ) (xs ys rest others : List ℕ) → Without sep xs → Without sep ys → xs ++ sep ∷ rest ≡ ys ++ sep ∷ others → (xs ≡ ys) × (rest ≡ others)
split_first sep [] [] rest others first second same = (refl, cc)
split_first sep [] (y ∷ ys) rest others first second same = let e : y ≡ sep = cc in absurd (second.0 e)
split_first sep (x ∷ xs) [] rest others first second same = let e : x ≡ sep = cc in absurd (first.0 e)
split_first sep (x ∷ xs) (y ∷ ys) rest others first second same =
    let head : x ≡ y = cc in
    let tail : xs ++ sep ∷ rest ≡ ys ++ sep ∷ others = cc in
    let both = split_first sep xs ys rest others first.1 second.1 tail in
    let others_same : xs ≡ ys = both.0 in
    (cc, both.1)

-- a text without separators is none with one
never_ends : (sep : ℕ) (xs ys rest : List ℕ) → Without sep xs → xs ≡ ys ++ sep ∷ rest → ⊥
never_ends sep [] [] rest first same = cc
never_ends sep [] (y ∷ ys) rest first same = cc
never_ends sep (x ∷ xs) [] rest first same = let e : x ≡ sep = cc in first.0 e
never_ends sep (x ∷ xs) (y ∷ ys) rest first same = let tail : xs ≡ ys ++ sep ∷ rest = cc in never_ends sep xs ys rest first.1 tail

append_nil : (xs : List ℕ) → xs ++ [] ≡ xs
append_nil [] = refl
append_nil (x ∷ xs) = ap (λ ys. x ∷ ys) (append_nil xs)

not_nil : (xs : List ℕ) (x : ℕ) → [] ≡ xs ++ x ∷ [] → ⊥
not_nil [] x same = cc
not_nil (y ∷ xs) x same = cc

-- the same last byte
without_last : (x : ℕ) (xs ys : List ℕ) → xs ++ x ∷ [] ≡ ys ++ x ∷ [] → xs ≡ ys
without_last x [] [] same = refl
without_last x [] (y ∷ ys) same = let e : [] ≡ ys ++ x ∷ [] = cc in absurd (not_nil ys x e)
without_last x (y ∷ xs) [] same = let e : [] ≡ xs ++ x ∷ [] = cc in absurd (not_nil xs x e)
without_last x (y ∷ xs) (z ∷ ys) same =
    let head : y ≡ z = cc in
    let tail : xs ++ x ∷ [] ≡ ys ++ x ∷ [] = cc in
    let rest : xs ≡ ys = without_last x xs ys tail in
    cc

-- Values -----------------------------------------------------------------------------------------------------------

true_false : true ≡ false → ⊥
true_false e = cc

-- a string is written ps no word of the log's own
not_taken : (in_set : Bool) (string word : List ℕ) → All (λ byte. byte < 2 ^ 8) string → is_taken word ≡ true → escaped in_set string ≡ word → ⊥
not_taken in_set string word small taken same =
    true_false (sym taken ∙ ap is_taken (sym same) ∙ (escaped_is_cell in_set string (are_bytes string small)).own)

string_set : (string : List ℕ) → All (λ byte. byte < 2 ^ 8) string → string_text string ≡ codes "-" → ⊥
string_set [] small same = let e : ◌≡◌ {A = ℕ} 40 45 = cc in absurd (omega (arith, e))
string_set (x ∷ xs) small same = not_taken false (x ∷ xs) (codes "-") small refl same

atom_set : (strings : Bool) (atom : Atom) → FitsAtom strings atom → atom_text atom ≡ codes "-" → ⊥
atom_set true (Text string) fits same = string_set string fits same
atom_set true (Plain text) fits same = absurd fits
atom_set false (Text string) fits same = absurd fits
atom_set false (Plain text) fits same = fits.set same

string_same : (a b : List ℕ) → All (λ byte. byte < 2 ^ 8) a → All (λ byte. byte < 2 ^ 8) b → string_text a ≡ string_text b → a ≡ b
string_same [] [] small others same = refl
string_same [] (y ∷ ys) small others same = absurd (not_taken false (y ∷ ys) (codes "(empty)") others refl (sym same))
string_same (x ∷ xs) [] small others same = absurd (not_taken false (x ∷ xs) (codes "(empty)") small refl same)
string_same (x ∷ xs) (y ∷ ys) small others same = escaped_injective false (x ∷ xs) (y ∷ ys) (are_bytes (x ∷ xs) small) (are_bytes (y ∷ ys) others) same

atom_same : (strings : Bool) (a b : Atom) → FitsAtom strings a → FitsAtom strings b → atom_text a ≡ atom_text b → a ≡ b
atom_same true (Text a) (Text b) fits others same = ap Text (string_same a b fits others same)
atom_same true (Text a) (Plain b) fits others same = absurd others
atom_same true (Plain a) b fits others same = absurd fits
atom_same false (Text a) b fits others same = absurd fits
atom_same false (Plain a) (Text b) fits others same = absurd others
atom_same false (Plain a) (Plain b) fits others same = ap Plain same

element_same : (strings : Bool) (a b : Atom) → FitsAtom strings a → FitsAtom strings b → element_text a ≡ element_text b → a ≡ b
element_same true (Text a) (Text b) fits others same = ap Text (escaped_injective true a b (are_bytes a fits) (are_bytes b others) same)
element_same true (Text a) (Plain b) fits others same = absurd others
element_same true (Plain a) b fits others same = absurd fits
element_same false (Text a) b fits others same = absurd fits
element_same false (Plain a) (Text b) fits others same = absurd others
element_same false (Plain a) (Plain b) fits others same = ap Plain same

-- an element is none of the log's own words
element_own : (strings : Bool) (atom : Atom) (word : List ℕ) → FitsAtom strings atom → is_taken word ≡ true → (IsPlain word → ⊥) → element_text atom ≡ word → ⊥
element_own true (Text string) word fits taken other same = not_taken true string word fits taken same
element_own true (Plain text) word fits taken other same = absurd fits
element_own false (Text string) word fits taken other same = absurd fits
element_own false (Plain text) word fits taken other same = other (subst IsPlain same fits)

abbrev Apart : ℕ → Type 0
Apart byte = (byte ≢ 9) × (byte ≢ 44) × (byte ≢ 10)

printed_no_tab : (byte : ℕ) → IsPrinted byte → byte ≢ 9
printed_no_tab byte printed e = absurd (omega (arith, printed.0, e))

element_no_tab : (strings : Bool) (atom : Atom) → FitsAtom strings atom → Without 9 (element_text atom)
element_no_tab true (Text string) fits = without_all 9 (escaped true string) printed_no_tab (escaped_is_cell true string (are_bytes string fits)).printed
element_no_tab true (Plain text) fits = absurd fits
element_no_tab false (Text string) fits = absurd fits
element_no_tab false (Plain text) fits = without_all {P = Apart} 9 text (λ byte apart. apart.0) fits.alone

element_no_comma : (strings : Bool) (atom : Atom) → FitsAtom strings atom → Without 44 (element_text atom)
element_no_comma true (Text string) fits =
    without_all 44 (escaped true string) (λ byte apart. apart) ((escaped_is_cell true string (are_bytes string fits)).apart refl)
element_no_comma true (Plain text) fits = absurd fits
element_no_comma false (Text string) fits = absurd fits
element_no_comma false (Plain text) fits = without_all {P = Apart} 44 text (λ byte apart. apart.1) fits.alone

differ : (a b : ℕ) → a < b → a ≢ b
differ a b less e = absurd (omega (arith, less, e))

differ_back : (a b : ℕ) → b < a → a ≢ b
differ_back a b less e = absurd (omega (arith, less, e))

empty_word : (sep : ℕ) → (40 ≢ sep) → (101 ≢ sep) → (109 ≢ sep) → (112 ≢ sep) → (116 ≢ sep) → (121 ≢ sep) → (41 ≢ sep) → Without sep (codes "(empty)")
empty_word sep a b c d e f g = (a, (b, (c, (d, (e, (f, (g, tt)))))))

empty_no_tab : Without 9 (codes "(empty)")
empty_no_tab =
    empty_word 9 (differ_back 40 9 (omega arith)) (differ_back 101 9 (omega arith)) (differ_back 109 9 (omega arith)) (differ_back 112 9 (omega arith))
    (differ_back 116 9 (omega arith)) (differ_back 121 9 (omega arith)) (differ_back 41 9 (omega arith))

empty_no_comma : Without 44 (codes "(empty)")
empty_no_comma =
    empty_word 44 (differ 40 44 (omega arith)) (differ_back 101 44 (omega arith)) (differ_back 109 44 (omega arith)) (differ_back 112 44 (omega arith))
    (differ_back 116 44 (omega arith)) (differ_back 121 44 (omega arith)) (differ 41 44 (omega arith))

string_no_tab : (string : List ℕ) → All (λ byte. byte < 2 ^ 8) string → Without 9 (string_text string)
string_no_tab [] small = empty_no_tab
string_no_tab (x ∷ xs) small =
    without_all 9 (escaped false (x ∷ xs)) printed_no_tab (escaped_is_cell false (x ∷ xs) (are_bytes (x ∷ xs) small)).printed

atom_no_tab : (strings : Bool) (atom : Atom) → FitsAtom strings atom → Without 9 (atom_text atom)
atom_no_tab true (Text string) fits = string_no_tab string fits
atom_no_tab true (Plain text) fits = absurd fits
atom_no_tab false (Text string) fits = absurd fits
atom_no_tab false (Plain text) fits = without_all {P = Apart} 9 text (λ byte apart. apart.0) fits.alone

-- Sets and vectors -------------------------------------------------------------------------------------------------

abbrev behind_comma : Atom → List ℕ
behind_comma atom = 44 ∷ element_text atom

behind_no_tab : (strings : Bool) (atoms : List Atom) → FitAtoms strings atoms → Without 9 (flat_map behind_comma atoms)
behind_no_tab strings [] fits = tt
behind_no_tab strings (atom ∷ atoms) fits =
    (differ_back 44 9 (omega arith), without-append 9 (element_text atom) (flat_map behind_comma atoms) (element_no_tab strings atom fits.0) (behind_no_tab strings atoms fits.1))

atoms_no_tab : (strings : Bool) (atoms : List Atom) → FitAtoms strings atoms → Without 9 (atoms_text atoms)
atoms_no_tab strings [] fits = empty_no_tab
atoms_no_tab strings (atom ∷ atoms) fits =
    without-append 9 (element_text atom) (flat_map behind_comma atoms) (element_no_tab strings atom fits.0) (behind_no_tab strings atoms fits.1)

-- a set with elements is written ps no word of the log's own
atoms_own : (strings : Bool) (atom : Atom) (atoms : List Atom) (word : List ℕ) → FitsAtom strings atom → is_taken word ≡ true → (IsPlain word → ⊥) → Without 44 word
    → element_text atom ++ flat_map behind_comma atoms ≡ word → ⊥
atoms_own strings atom [] word fits taken other apart same = element_own strings atom word fits taken other (sym (append_nil (element_text atom)) ∙ same)
atoms_own strings atom (second ∷ atoms) word fits taken other apart same =
    never_ends 44 word (element_text atom) (element_text second ++ flat_map behind_comma atoms) apart (sym same)

not_plain_empty : IsPlain (codes "(empty)") → ⊥
not_plain_empty plain = plain.full refl

not_plain_unset : IsPlain (codes "-") → ⊥
not_plain_unset plain = plain.set refl

joined_same : (strings : Bool) (a : Atom) (ps : List Atom) (b : Atom) (qs : List Atom) → FitsAtom strings a → FitAtoms strings ps → FitsAtom strings b → FitAtoms strings qs
    → element_text a ++ flat_map behind_comma ps ≡ element_text b ++ flat_map behind_comma qs → a ∷ ps ≡ b ∷ qs
joined_same strings a [] b [] fa fps fb fqs same =
    let e : a ≡ b = element_same strings a b fa fb (sym (append_nil (element_text a)) ∙ same ∙ append_nil (element_text b)) in
    ap (λ x. x ∷ []) e
joined_same strings a [] b (d ∷ ds) fa fps fb fqs same =
    absurd (never_ends 44 (element_text a) (element_text b) (element_text d ++ flat_map behind_comma ds) (element_no_comma strings a fa) (sym (append_nil (element_text a)) ∙ same))
joined_same strings a (c ∷ cs) b [] fa fps fb fqs same =
    absurd (never_ends 44 (element_text b) (element_text a) (element_text c ++ flat_map behind_comma cs) (element_no_comma strings b fb) (sym (append_nil (element_text b)) ∙ sym same))
joined_same strings a (c ∷ cs) b (d ∷ ds) fa fps fb fqs same =
    let both = split_first 44 (element_text a) (element_text b) (element_text c ++ flat_map behind_comma cs) (element_text d ++ flat_map behind_comma ds)
    (element_no_comma strings a fa) (element_no_comma strings b fb) same in
    let first : a ≡ b = element_same strings a b fa fb both.0 in
    let others : c ∷ cs ≡ d ∷ ds = joined_same strings c cs d ds fps.0 fps.1 fqs.0 fqs.1 both.1 in
    ap (λ x. x ∷ (c ∷ cs)) first ∙ ap (λ xs. b ∷ xs) others

atoms_same : (strings : Bool) (ps qs : List Atom) → FitAtoms strings ps → FitAtoms strings qs → atoms_text ps ≡ atoms_text qs → ps ≡ qs
atoms_same strings [] [] fps fqs same = refl
atoms_same strings [] (b ∷ qs) fps fqs same = absurd (atoms_own strings b qs (codes "(empty)") fqs.0 refl not_plain_empty empty_no_comma (sym same))
atoms_same strings (a ∷ ps) [] fps fqs same = absurd (atoms_own strings a ps (codes "(empty)") fps.0 refl not_plain_empty empty_no_comma same)
atoms_same strings (a ∷ ps) (b ∷ qs) fps fqs same = joined_same strings a ps b qs fps.0 fps.1 fqs.0 fqs.1 same

unset_no_comma : Without 44 (codes "-")
unset_no_comma = (differ_back 45 44 (omega arith), tt)

atoms_set : (strings : Bool) (atoms : List Atom) → FitAtoms strings atoms → atoms_text atoms ≡ codes "-" → ⊥
atoms_set strings [] fits same = let e : ◌≡◌ {A = ℕ} 40 45 = cc in absurd (omega (arith, e))
atoms_set strings (atom ∷ atoms) fits same = atoms_own strings atom atoms (codes "-") fits.0 refl not_plain_unset unset_no_comma same

-- Cells ------------------------------------------------------------------------------------------------------------

cell_same : (container strings : Bool) (a b : Cell) → FitsCell container strings a → FitsCell container strings b → cell_text a ≡ cell_text b → a ≡ b
cell_same container strings Unset Unset fa fb same = refl
cell_same true strings Unset (One b) fa fb same = absurd fb
cell_same true strings Unset (Many qs) fa fb same = absurd (atoms_set strings qs fb (sym same))
cell_same true strings (One a) b fa fb same = absurd fa
cell_same true strings (Many ps) Unset fa fb same = absurd (atoms_set strings ps fa same)
cell_same true strings (Many ps) (One b) fa fb same = absurd fb
cell_same true strings (Many ps) (Many qs) fa fb same = ap Many (atoms_same strings ps qs fa fb same)
cell_same false strings Unset (One b) fa fb same = absurd (atom_set strings b fb (sym same))
cell_same false strings Unset (Many qs) fa fb same = absurd fb
cell_same false strings (One a) Unset fa fb same = absurd (atom_set strings a fa same)
cell_same false strings (One a) (One b) fa fb same = ap One (atom_same strings a b fa fb same)
cell_same false strings (One a) (Many qs) fa fb same = absurd fb
cell_same false strings (Many ps) b fa fb same = absurd fa

cell_no_tab : (container strings : Bool) (cell : Cell) → FitsCell container strings cell → Without 9 (cell_text cell)
cell_no_tab container strings Unset fits = (differ_back 45 9 (omega arith), tt)
cell_no_tab true strings (One atom) fits = absurd fits
cell_no_tab false strings (One atom) fits = atom_no_tab strings atom fits
cell_no_tab true strings (Many atoms) fits = atoms_no_tab strings atoms fits
cell_no_tab false strings (Many atoms) fits = absurd fits

cells_same : (columns : List Column) (a b : List Cell) → Fit columns a → Fit columns b → cells_text a ≡ cells_text b → a ≡ b
cells_same [] [] [] fa fb same = refl
cells_same [] [] (y ∷ ys) fa fb same = absurd fb
cells_same [] (x ∷ xs) b fa fb same = absurd fa
cells_same (column ∷ columns) [] b fa fb same = absurd fa
cells_same (column ∷ columns) (x ∷ xs) [] fa fb same = absurd fb
cells_same (column ∷ []) (x ∷ []) (y ∷ []) fa fb same =
    ap (λ c. c ∷ []) (cell_same (is_container column.kind) (is_of_strings column.kind) x y fa.0 fb.0 (sym (append_nil (cell_text x)) ∙ same ∙ append_nil (cell_text y)))
cells_same (column ∷ []) (x ∷ []) (y ∷ (z ∷ zs)) fa fb same = absurd fb.1
cells_same (column ∷ []) (x ∷ (z ∷ zs)) (y ∷ ys) fa fb same = absurd fa.1
cells_same (column ∷ (next ∷ columns)) (x ∷ []) (y ∷ ys) fa fb same = absurd fa.1
cells_same (column ∷ (next ∷ columns)) (x ∷ (z ∷ zs)) (y ∷ []) fa fb same = absurd fb.1
cells_same (column ∷ (next ∷ columns)) (x ∷ (z ∷ zs)) (y ∷ (w ∷ ws)) fa fb same =
    let both = split_first 9 (cell_text x) (cell_text y) (cells_text (z ∷ zs)) (cells_text (w ∷ ws))
    (cell_no_tab (is_container column.kind) (is_of_strings column.kind) x fa.0) (cell_no_tab (is_container column.kind) (is_of_strings column.kind) y fb.0) same in
    let first : x ≡ y = cell_same (is_container column.kind) (is_of_strings column.kind) x y fa.0 fb.0 both.0 in
    let others : z ∷ zs ≡ w ∷ ws = cells_same (next ∷ columns) (z ∷ zs) (w ∷ ws) fa.1 fb.1 both.1 in
    ap (λ c. c ∷ (z ∷ zs)) first ∙ ap (λ cs. y ∷ cs) others

pub rows_same : (columns : List Column) (a b : List Cell) → Fit columns a → Fit columns b → row_text a ≡ row_text b → a ≡ b
rows_same columns a b fa fb same = cells_same columns a b fa fb (without_last 10 (cells_text a) (cells_text b) same)
