-- The rows of a symbol table, counted through.
use Rattle.std.proofs.Common.{◌≡◌, ℕ, ◌+◌, ◌-◌, ◌<◌, ◌≤◌, List, [], ◌∷◌, ◌++◌, length, take, drop, get_or, map, Bool, true, false, cond, refl, sym, ap, ◌∙◌, subst, arith, length-append}
use Rattle.std.specs.Prelude.{All, not, ◌&&◌, ◌==◌, if◌then◌else◌}
use Rattle.std.proofs.lemmas.List.{append_assoc, append-nil, length-map, map-append}
use Rattle.std.proofs.lemmas.List.Elements.{All-push}
use Rattle.glk_elf.specs.Image.{Row, names_length, row_names}
use Rattle.glk_elf.specs.declared.frame.SymbolRow.{SymbolRow}
use Rattle.glk_elf.specs.Views.{symbol_row}
use Rattle.glk_elf.specs.Written.{names_of}
use Rattle.glk_elf.proofs.WriterLemmas.{rest_is}
use Rattle.glk_image.specs.declared.rows.Symbol.{Symbol}
use Rattle.glk_image.specs.Rows.{row_of, has_row, rows_bound, table_rows}

-- the rows of one more symbol
bound_next : (old : List SymbolRow) (r : SymbolRow) (local taken : Bool) (more : List Row) → taken ≡ has_row local (symbol_row r)
    → map symbol_row (old ++ (if taken then r ∷ [] else [])) ++ rows_bound local more ≡ map symbol_row old ++ rows_bound local (symbol_row r ∷ more)
bound_next old r local true more is =
    let P : Bool → Type 0 = λ b. map symbol_row old ++ (symbol_row r ∷ rows_bound local more) ≡ map symbol_row old ++ cond b (symbol_row r ∷ rows_bound local more) (rows_bound local more) in
    ap (λ l. l ++ rows_bound local more) (map-append symbol_row old (r ∷ []))
    ∙ (append_assoc (map symbol_row old) (symbol_row r ∷ []) (rows_bound local more)
    ∙ subst P is refl)
bound_next old r local false more is =
    let P : Bool → Type 0 = λ b. map symbol_row old ++ rows_bound local more ≡ map symbol_row old ++ cond b (symbol_row r ∷ rows_bound local more) (rows_bound local more) in
    ap (λ l. map symbol_row l ++ rows_bound local more) (append-nil old) ∙ subst P is refl

pub bound_more : (old new : List SymbolRow) (r : SymbolRow) (s : Row) (local taken : Bool) (more : List Row) → symbol_row r ≡ s
    → taken ≡ has_row local s → new ≡ old ++ (if taken then r ∷ [] else [])
    → map symbol_row new ++ rows_bound local more ≡ map symbol_row old ++ rows_bound local (s ∷ more)
bound_more old new r s local taken more same is new_is =
    let P : Row → Type 0 = λ x. taken ≡ has_row local x → map symbol_row new ++ rows_bound local more ≡ map symbol_row old ++ rows_bound local (x ∷ more) in
    subst P same (λ h. ap (λ l. map symbol_row l ++ rows_bound local more) new_is ∙ bound_next old r local taken more h) is

pub kinds_more : (old new : List SymbolRow) (r : SymbolRow) (taken : Bool) → new ≡ old ++ (if taken then r ∷ [] else [])
    → r.kind < 16 → All (λ row. row.kind < 16) old → All (λ row. row.kind < 16) new
kinds_more old new r true is small before =
    let P : List SymbolRow → Type 0 = λ l. All (λ row. row.kind < 16) l in
    subst P (sym is) (All-push (λ row. row.kind < 16) old r before small)
kinds_more old new r false is small before =
    let P : List SymbolRow → Type 0 = λ l. All (λ row. row.kind < 16) l in
    subst P (sym (is ∙ append-nil old)) before

-- Both parts together are no more than all rows.

part_step : (n l : Bool) (x a b t : ℕ) → a + b ≤ t → cond (n && l) (x + a) a + cond (n && not l) (x + b) b ≤ x + t
part_step true true x a b t h = omega arith
part_step true false x a b t h = omega arith
part_step false l x a b t h = omega arith

length_at : (b : Bool) (r : Row) (xs : List Row) → length (cond b (r ∷ xs) xs) ≡ cond b (1 + length xs) (length xs)
length_at true r xs = omega arith
length_at false r xs = refl

names_at : (b : Bool) (r : Row) (xs : List Row)
    → names_length (row_names (cond b (r ∷ xs) xs)) ≡ cond b (length r.name + 1 + names_length (row_names xs)) (names_length (row_names xs))
names_at true r xs = refl
names_at false r xs = refl

count_parts : (rs : List Row) → length (rows_bound true rs) + length (rows_bound false rs) ≤ length rs
count_parts [] = omega arith
count_parts (r ∷ rs) =
    let n : Bool = not (length r.name == 0) in
    let t : List Row = rows_bound true rs in
    let f : List Row = rows_bound false rs in
    let step = part_step n r.local 1 (length t) (length f) (length rs) (count_parts rs) in
    let a : length (rows_bound true (r ∷ rs)) ≡ cond (n && r.local) (1 + length t) (length t) = length_at (n && r.local) r t in
    let b : length (rows_bound false (r ∷ rs)) ≡ cond (n && not r.local) (1 + length f) (length f) = length_at (n && not r.local) r f in
    omega (arith, step, a, b)

names_parts : (rs : List Row) → names_length (row_names (rows_bound true rs)) + names_length (row_names (rows_bound false rs)) ≤ names_length (row_names rs)
names_parts [] = omega arith
names_parts (r ∷ rs) =
    let n : Bool = not (length r.name == 0) in
    let x : ℕ = length r.name + 1 in
    let t : List Row = rows_bound true rs in
    let f : List Row = rows_bound false rs in
    let all : ℕ = names_length (row_names rs) in
    let step = part_step n r.local x (names_length (row_names t)) (names_length (row_names f)) all (names_parts rs) in
    let a : names_length (row_names (rows_bound true (r ∷ rs))) ≡ cond (n && r.local) (x + names_length (row_names t)) (names_length (row_names t)) = names_at (n && r.local) r t in
    let b : names_length (row_names (rows_bound false (r ∷ rs))) ≡ cond (n && not r.local) (x + names_length (row_names f)) (names_length (row_names f)) = names_at (n && not r.local) r f in
    omega (arith, step, a, b)

names_joined : (xs ys : List Row) → names_length (row_names (xs ++ ys)) ≡ names_length (row_names xs) + names_length (row_names ys)
names_joined [] ys = omega arith
names_joined (x ∷ xs) ys = let rest = names_joined xs ys in omega (arith, rest)

-- what the rows of a table are as many as, at most
pub count_table : (rows : List SymbolRow) (rs : List Row) → map symbol_row rows ≡ table_rows false rs → length rows ≤ length rs
count_table rows rs is =
    let long = length-map rows symbol_row in
    let both = length-append (rows_bound true rs) (rows_bound false rs) in
    let e : length (map symbol_row rows) ≡ length (rows_bound true rs ++ rows_bound false rs) = ap length is in
    let parts = count_parts rs in
    omega (arith, long, both, e, parts)

pub names_table : (rows : List SymbolRow) (rs : List Row) → map symbol_row rows ≡ table_rows false rs
    → names_length (names_of rows) ≤ names_length (row_names rs)
names_table rows rs is =
    let e : names_length (names_of rows) ≡ names_length (row_names (rows_bound true rs ++ rows_bound false rs)) = ap (λ l. names_length (row_names l)) is in
    let both = names_joined (rows_bound true rs) (rows_bound false rs) in
    let parts = names_parts rs in
    omega (arith, e, both, parts)

-- the rows of one more symbol of those that are left
pub push_more : (old new : List SymbolRow) (r : SymbolRow) (rest : List Symbol) (d : Symbol) (local taken : Bool) (all : List Row)
    → 1 ≤ length rest → symbol_row r ≡ row_of (get_or rest 0 d) → taken ≡ has_row local (row_of (get_or rest 0 d))
    → new ≡ old ++ (if taken then r ∷ [] else []) → map symbol_row old ++ rows_bound local (map row_of rest) ≡ all
    → map symbol_row new ++ rows_bound local (map row_of (take (length rest - 1) (drop 1 rest))) ≡ all
push_more old new r [] d local taken all some same is new_is before = absurd (omega (arith, some))
push_more old new r (x ∷ xs) d local taken all some same is new_is before =
    ap (λ (l : List Symbol). map symbol_row new ++ rows_bound local (map row_of l)) (rest_is x xs)
    ∙ (bound_more old new r (row_of x) local taken (map row_of xs) same is new_is ∙ before)

-- both parts of a table
pub both_parts : (none one two : List SymbolRow) (rs : List Row) → none ≡ [] → map symbol_row one ≡ map symbol_row none ++ rows_bound true rs
    → map symbol_row two ≡ map symbol_row one ++ rows_bound false rs → map symbol_row two ≡ table_rows false rs
both_parts none one two rs none_is one_is two_is =
    two_is ∙ ap (λ l. l ++ rows_bound false rs) (one_is ∙ ap (λ l. map symbol_row l ++ rows_bound true rs) none_is)
